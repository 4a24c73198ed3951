-- What a reader of a sample-size box hands out, and what it has still to give. Assumes nothing.
use Rattle.std.specs.Prelude.{◌≡◌, ℕ, zero, suc, ◌+◌, ◌-◌, ◌<◌, ◌≤◌, List, length, Some, None, Ok, Err, Option, Result, MatchResult, nat_lt, if◌then◌else◌}
use Rattle.std.proofs.Common.{ltb-false}
use Rattle.refusals.proofs.Checks.{passed}
use Rattle.totals.specs.Totals.{max_size}
use Rattle.readers.specs.declared.fault.OpenFault.{OpenFault}
use Rattle.readers.specs.declared.fault.RecordFault.{RecordFault}
use Rattle.readers.specs.Field.{big}
use Rattle.readers.specs.Reading.{Reading, Ending, Small, nothing, record_then}
use Rattle.readers.proofs.Small.{small_none, small_then, small_cond}
use Rattle.stsz.specs.declared.sizes.Sizes.{Sizes}
use Rattle.stsz.specs.declared.record.IndexRecord.{IndexRecord}
use Rattle.stsz.specs.declared.table.SizeTable.{SizeTable}
use Rattle.stsz.specs.declared.reader.StszReader.{StszReader}
use Rattle.stsz.specs.Format.{sizes_of, samples, size_place, stsz_open_fault, sample_checks, sample_fault}

-- the sizes of a whole box
pub record TableOf (input : List ℕ) (table : SizeTable) : Type 0 where
  pub checked : stsz_open_fault input ≡ None
  pub bytes : table.input.now ≡ input
  pub sizes : table.sizes ≡ sizes_of input
  pub count : table.count ≡ samples input

-- the size of sample i
abbrev pub size_at : SizeTable → ℕ → ℕ
size_at table i = big 4 (size_place table.sizes i) table.input.now

-- the fault of sample i, where its check finds one
abbrev pub fault_at : SizeTable → ℕ → Option RecordFault
fault_at table i = sample_fault table.input.now (size_place table.sizes i)

-- what opening answers: a reader at sample 0, or the fault
abbrev pub StszOpened : List ℕ → Result StszReader OpenFault → Type 0
StszOpened input r = MatchResult r (λ reader. TableOf input reader.table × (reader.number ≡ 0)) (λ e. stsz_open_fault input ≡ Some e)

-- the sizes of the next samples of an input, from number i on, and their ending. None comes whose size would stand past
-- the input's end; of a box that passes its checks none does.
abbrev pub samples_from : (left : ℕ) → Sizes → List ℕ → ℕ → List ℕ × Ending
samples_from zero sizes input i = nothing
samples_from (suc left) sizes input i =
    if nat_lt (length input) (size_place sizes i + 4) then nothing
    else record_then (sample_fault input (size_place sizes i)) (big 4 (size_place sizes i) input) (samples_from left sizes input (i + 1))

pub samples_small : (left : ℕ) (sizes : Sizes) (input : List ℕ) (i : ℕ) → Small (samples_from left sizes input i).0
samples_small zero sizes input i = small_none
samples_small (suc left) sizes input i =
    small_cond (nat_lt (length input) (size_place sizes i + 4)) nothing _ small_none
    (small_then (sample_fault input (size_place sizes i)) (big 4 (size_place sizes i) input) _ (λ e. ltb-false max_size (big 4 (size_place sizes i) input) (passed (sample_checks input (size_place sizes i)) e).0)
    (samples_small left sizes input (i + 1)))

abbrev pub stsz_reading : Sizes → List ℕ → (count i : ℕ) → Reading
stsz_reading sizes input count i = record {
  sizes = (samples_from (count - i) sizes input i).0;
  ending = (samples_from (count - i) sizes input i).1;
  small = samples_small (count - i) sizes input i;
}

-- what a reader of a sample-size box has still to give, wherever it stands
abbrev pub stsz_meaning : StszReader → Reading
stsz_meaning reader = stsz_reading reader.table.sizes reader.table.input.now reader.table.count reader.number

-- the reader's next sample
pub record RecordAt (reader : StszReader) (r : IndexRecord) : Type 0 where
  pub among : reader.number < reader.table.count
  pub passes : fault_at reader.table reader.number ≡ None
  pub size : r.size ≡ size_at reader.table reader.number
  pub number : r.number ≡ reader.number

-- the sample at the reader's number, or none after the last one
abbrev pub IndexAt : StszReader → Option IndexRecord → Type 0
IndexAt reader (Some r) = RecordAt reader r
IndexAt reader None = reader.table.count ≤ reader.number

-- the reader after an answer: at the next number, or where it was
abbrev pub stsz_after : Result (Option IndexRecord) RecordFault → StszReader → StszReader
stsz_after (Ok (Some r)) reader = record reader { number = reader.number + 1 }
stsz_after (Ok None) reader = reader
stsz_after (Err e) reader = reader
