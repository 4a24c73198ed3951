-- The sample-size box of ISO/IEC 14496-12, high byte first, as the whole input. Bytes 0 to 3 are the box's
-- size, 4 to 7 stsz, 8 to 11 version and flags, all 0, 12 to 15 a common size, 16 to 19 the count. A common
-- size of 0 means that `count` sizes of 4 bytes follow; another holds for all samples. Assumes nothing.
use Rattle.std.specs.Prelude.{ℕ, ◌+◌, ◌*◌, Bool, not, List, [], ◌∷◌, length, take, drop, codes, Option, ◌==◌, nat_lt, if◌then◌else◌}
use Rattle.std.specs.Str.{bytes_eq}
use Rattle.refusals.specs.Checks.{first_fault}
use Rattle.totals.specs.Totals.{max_size}
use Rattle.readers.specs.declared.fault.OpenFault.{OpenFault}
use Rattle.readers.specs.declared.fault.OpenFault.TheVariants.{TooShort, NotStsz, BoxVersion, CommonSize, BoxSize}
use Rattle.readers.specs.declared.fault.RecordFault.{RecordFault}
use Rattle.readers.specs.declared.fault.RecordFault.TheVariants.{TooLarge}
use Rattle.readers.specs.Field.{big}
use Rattle.stsz.specs.declared.sizes.Sizes.{Sizes}
use Rattle.stsz.specs.declared.sizes.Sizes.TheVariants.{Common, Each}

-- whether one size holds for all samples, or each has its own
abbrev pub sizes_of : List ℕ → Sizes
sizes_of input = if big 4 12 input == 0 then Each else Common

-- how many samples there are
abbrev pub samples : List ℕ → ℕ
samples input = big 4 16 input

-- where the size of sample i stands: for all of them in the common size, or each in its own entry
abbrev pub size_place : Sizes → ℕ → ℕ
size_place Common i = 12
size_place Each i = 20 + 4 * i

-- the bytes of a whole box of this many samples
abbrev pub whole_length : Sizes → (count : ℕ) → ℕ
whole_length Common count = 20
whole_length Each count = 20 + 4 * count

abbrev pub box_length : List ℕ → ℕ
box_length input = whole_length (sizes_of input) (samples input)

-- the checks of an input, before a reader is opened on it
abbrev pub stsz_checks : List ℕ → List (Bool × OpenFault)
stsz_checks input =
    (nat_lt (length input) 20, TooShort (length input)) ∷
    (not (bytes_eq (take 4 (drop 4 input)) (codes "stsz")), NotStsz) ∷
    (not (big 4 8 input == 0), BoxVersion) ∷
    (nat_lt max_size (big 4 12 input), CommonSize) ∷
    (not (big 4 0 input == length input), BoxSize) ∷
    (not (big 4 0 input == box_length input), BoxSize) ∷ []

abbrev pub stsz_open_fault : List ℕ → Option OpenFault
stsz_open_fault input = first_fault (stsz_checks input)

-- the check of a sample whose size stands at place p
abbrev pub sample_checks : List ℕ → ℕ → List (Bool × RecordFault)
sample_checks input p = (nat_lt max_size (big 4 p input), TooLarge p) ∷ []

abbrev pub sample_fault : List ℕ → ℕ → Option RecordFault
sample_fault input p = first_fault (sample_checks input p)
