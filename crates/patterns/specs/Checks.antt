-- The checks of a pattern and of a live camera. Assumes nothing.
use Rattle.std.specs.Prelude.{ℕ, Bool, List, [], ◌∷◌, length, Option, position, nat_lt}
use Rattle.std.specs.Option.{option_map, option_or}
use Rattle.refusals.specs.Checks.{first_fault}
use Rattle.totals.specs.Totals.{max_size, max_frames}
use Rattle.patterns.specs.Pattern.{max_group}
use Rattle.patterns.specs.declared.fault.PatternFault.{PatternFault}
use Rattle.patterns.specs.declared.fault.PatternFault.TheVariants.{Group, Size, Slots}

-- the place of the first size that is too large
abbrev pub large_one : List ℕ → Option ℕ
large_one sizes = position (λ size. nat_lt max_size size) sizes

abbrev pub slots_checks : ℕ → List (Bool × PatternFault)
slots_checks slots = (nat_lt slots 1, Slots slots) ∷ (nat_lt max_frames slots, Slots slots) ∷ []

abbrev pub group_checks : List ℕ → List (Bool × PatternFault)
group_checks group = (nat_lt (length group) 1, Group (length group)) ∷ (nat_lt max_group (length group), Group (length group)) ∷ []

-- the fault of the first check that refuses: of the group, then of each size, then of the slots
abbrev pub pattern_fault : List ℕ → (slots : ℕ) → Option PatternFault
pattern_fault group slots =
    option_or (first_fault (group_checks group)) (option_or (option_map Size (large_one group)) (first_fault (slots_checks slots)))

abbrev pub live_checks : (size slots : ℕ) → List (Bool × PatternFault)
live_checks size slots = (nat_lt max_size size, Size 0) ∷ slots_checks slots

abbrev pub live_fault : (size slots : ℕ) → Option PatternFault
live_fault size slots = first_fault (live_checks size slots)
