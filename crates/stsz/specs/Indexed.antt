-- What a whole sample-size box gives: every size up to the first that is too large. Assumes nothing.
use Rattle.std.specs.Prelude.{◌≡◌, ℕ, ◌<◌, ◌≤◌, cond, List, map, ◌==◌}
use Rattle.std.specs.List.{range_with_len}
use Rattle.totals.specs.Totals.{max_size}
use Rattle.readers.specs.declared.fault.RecordFault.TheVariants.{TooLarge}
use Rattle.readers.specs.Field.{big}
use Rattle.readers.specs.Reading.{Reading, Ending, plain, fault}
use Rattle.stsz.specs.Format.{sizes_of, samples, size_place}

-- the size of sample i
abbrev pub sample : List ℕ → ℕ → ℕ
sample input i = big 4 (size_place (sizes_of input) i) input

-- sample k is the first that is too large, or there are k samples and none is
pub record FirstLarge (input : List ℕ) (k : ℕ) : Type 0 where
  pub among : k ≤ samples input
  pub before : (i : ℕ) → i < k → sample input i ≤ max_size
  pub large : k < samples input → max_size < sample input k

abbrev pub box_ending : List ℕ → ℕ → Ending
box_ending input k = cond (k == samples input) plain (fault (TooLarge (size_place (sizes_of input) k)))

abbrev pub ReadsBox : List ℕ → Reading → Type 0
ReadsBox input r = (k : ℕ) → FirstLarge input k → (r.sizes ≡ map (sample input) (range_with_len 0 k)) × (r.ending ≡ box_ending input k)
