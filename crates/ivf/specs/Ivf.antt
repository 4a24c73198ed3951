-- IVF, low byte first. Bytes 0 to 3 are DKIF, 4 and 5 the version 0, 6 and 7 the header's length 32; bytes 8
-- to 31 are not used. Then frames: the size in 4 bytes, the stamp in 8, the data. Assumes nothing.
use Rattle.std.specs.Prelude.{◌≡◌, ℕ, zero, suc, ◌+◌, ◌<◌, ◌≤◌, Bool, cond, not, List, [], ◌∷◌, length, take, drop, Some, None, Ok, Err, codes, Option, Result, MatchResult, ◌==◌, nat_le, nat_lt}
use Rattle.std.proofs.Common.{ltb-false}
use Rattle.std.specs.Str.{bytes_eq}
use Rattle.readers.specs.declared.fault.OpenFault.{OpenFault}
use Rattle.readers.specs.declared.fault.OpenFault.TheVariants.{TooShort, NotDkif, IvfVersion, IvfHeaderLength}
use Rattle.readers.specs.declared.fault.RecordFault.{RecordFault}
use Rattle.readers.specs.declared.fault.RecordFault.TheVariants.{HeaderCut, TooLarge, DataCut}
use Rattle.ivf.specs.declared.Frame.{Frame}
use Rattle.ivf.specs.declared.IvfReader.{IvfReader}
use Rattle.refusals.specs.Checks.{first_fault}
use Rattle.refusals.proofs.Checks.{passed}
use Rattle.totals.specs.Totals.{max_size}
use Rattle.readers.specs.Field.{little}
use Rattle.readers.specs.Reading.{Reading, Ending, Small, nothing, record_then}
use Rattle.readers.proofs.Small.{small_none, small_then, small_cond}

-- the checks of an input, before a reader is opened on it
abbrev pub ivf_checks : List ℕ → List (Bool × OpenFault)
ivf_checks input =
    (nat_lt (length input) 32, TooShort (length input)) ∷
    (not (bytes_eq (take 4 input) (codes "DKIF")), NotDkif) ∷
    (not (little 2 4 input == 0), IvfVersion) ∷
    (not (little 2 6 input == 32), IvfHeaderLength) ∷ []

abbrev pub ivf_open_fault : List ℕ → Option OpenFault
ivf_open_fault input = first_fault (ivf_checks input)

-- what opening answers: a reader at byte 32, or the fault
abbrev pub IvfOpened : List ℕ → Result IvfReader OpenFault → Type 0
IvfOpened input r = MatchResult r (λ reader. (ivf_open_fault input ≡ None) × (reader.input.now ≡ input) × (reader.place ≡ 32)) (λ e. ivf_open_fault input ≡ Some e)

-- the checks of a frame at place p, before the input's end
abbrev pub frame_checks : List ℕ → ℕ → List (Bool × RecordFault)
frame_checks input p =
    (nat_lt (length input) (p + 12), HeaderCut p) ∷
    (nat_lt max_size (little 4 p input), TooLarge p) ∷
    (nat_lt (length input) (p + 12 + little 4 p input), DataCut p) ∷ []

abbrev pub frame_fault : List ℕ → ℕ → Option RecordFault
frame_fault input p = first_fault (frame_checks input p)

-- a whole frame, with its header at place p
pub record FrameAt (input : List ℕ) (p : ℕ) (frame : Frame) : Type 0 where
  pub within : p < length input
  pub passes : frame_fault input p ≡ None
  pub held : frame.«data».now ≡ take (little 4 p input) (drop (p + 12) input)
  pub place : frame.place ≡ p + 12
  pub size : frame.size ≡ little 4 p input
  pub stamp : frame.stamp ≡ little 8 (p + 4) input

-- the frame at place p, or none at the input's end
abbrev pub ItemAt : List ℕ → ℕ → Option Frame → Type 0
ItemAt input p (Some frame) = FrameAt input p frame
ItemAt input p None = length input ≤ p

-- the reader after an answer: past the frame's data, or where it was
abbrev pub ivf_after : Result (Option Frame) RecordFault → IvfReader → IvfReader
ivf_after (Ok (Some frame)) reader = record { input = reader.input; place = frame.place + frame.size }
ivf_after (Ok None) reader = reader
ivf_after (Err e) reader = reader

-- the sizes of the frames from place p on, and their ending; `most` is no less than the bytes left
abbrev pub frames_from : (most : ℕ) → List ℕ → ℕ → List ℕ × Ending
frames_from zero input p = nothing
frames_from (suc most) input p =
    cond (nat_le (length input) p) nothing
    (record_then (frame_fault input p) (little 4 p input) (frames_from most input (p + 12 + little 4 p input)))

pub frames_small : (most : ℕ) (input : List ℕ) (p : ℕ) → Small (frames_from most input p).0
frames_small zero input p = small_none
frames_small (suc most) input p =
    small_cond (nat_le (length input) p) nothing _ small_none
    (small_then (frame_fault input p) (little 4 p input) _ (λ e. ltb-false max_size (little 4 p input) (passed (frame_checks input p) e).1.0)
    (frames_small most input (p + 12 + little 4 p input)))

abbrev pub ivf_reading : List ℕ → ℕ → Reading
ivf_reading input p = record {
  sizes = (frames_from (length input) input p).0;
  ending = (frames_from (length input) input p).1;
  small = frames_small (length input) input p;
}

-- what an IVF reader has still to give, wherever it stands
abbrev pub ivf_meaning : IvfReader → Reading
ivf_meaning reader = ivf_reading reader.input.now reader.place
