-- What a reader that was opened has to give. Assumes nothing.
use Rattle.std.proofs.Common.{◌≡◌, ℕ, List, IfOk, Ok, Err, Result, sym, ap, ◌∙◌, subst}
use Rattle.readers.specs.declared.fault.OpenFault.{OpenFault}
use Rattle.ivf.specs.declared.IvfReader.{IvfReader}
use Rattle.ivf.specs.Ivf.{IvfOpened, ivf_reading, ivf_meaning}
use Rattle.ivf.specs.Recorded.{ReadsCut}
use Rattle.ivf.proofs.Recorded.{ivf_reads_cut}

-- a reader at the first frame of an input
pub ivf_opened : (input : List ℕ) (reader : IvfReader) → reader.input.now ≡ input → reader.place ≡ 32 → ivf_meaning reader ≡ ivf_reading input 32
ivf_opened input reader same start = ap (λ (bytes : List ℕ). ivf_reading bytes reader.place) same ∙ ap (ivf_reading input) start

pub ivf_opens : (input : List ℕ) (r : Result IvfReader OpenFault) → IvfOpened input r → IfOk r (λ reader. ReadsCut input (ivf_meaning reader))
ivf_opens input (Ok reader) opened = subst (ReadsCut input) (sym (ivf_opened input reader opened.1 opened.2)) (ivf_reads_cut input)
ivf_opens input (Err e) opened = tt
