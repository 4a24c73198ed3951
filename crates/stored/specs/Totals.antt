-- Which totals a film can be set up on. Assumes nothing.
use Rattle.std.specs.Prelude.{◌≡◌, ℕ, ◌+◌, ◌-◌, ◌<◌, ◌≤◌, Bool, true, if◌then◌else◌, ◌&&◌, List, [], ◌∷◌, length, Option, not, ◌==◌, nat_le, nat_lt, slice_index}
use Rattle.std.specs.List.{range_with_len, find}
use Rattle.std.specs.Option.{option_map, option_or}
use Rattle.refusals.specs.Checks.{first_fault}
use Rattle.totals.specs.Totals.{max_size, max_frames}
use Rattle.stored.specs.declared.fault.TotalsFault.{TotalsFault}
use Rattle.stored.specs.declared.fault.TotalsFault.TheVariants.{Count, Entry}

-- the first total is 0, and each later one at least its predecessor and at most 16,777,215 above it
abbrev pub entry_fits : List ℕ → ℕ → Bool
entry_fits totals k =
    if k == 0 then slice_index totals 0 == 0
    else (nat_le (slice_index totals (k - 1)) (slice_index totals k) && nat_le (slice_index totals k) (slice_index totals (k - 1) + max_size))

-- the place of the first that does not
abbrev pub misfit : List ℕ → Option ℕ
misfit totals = find (λ k. not (entry_fits totals k)) (range_with_len 0 (length totals))

abbrev pub count_checks : List ℕ → List (Bool × TotalsFault)
count_checks totals = (nat_lt (length totals) 2, Count (length totals)) ∷ (nat_lt (max_frames + 1) (length totals), Count (length totals)) ∷ []

-- the fault of the first check that refuses: of the count, and then of each total
abbrev pub totals_fault : List ℕ → Option TotalsFault
totals_fault totals = option_or (first_fault (count_checks totals)) (option_map Entry (misfit totals))

-- the totals of a film of 1 to 65,535 frames
pub record Fits (totals : List ℕ) : Type 0 where
  pub some : 2 ≤ length totals
  pub few : length totals ≤ max_frames + 1
  pub each : (k : ℕ) → k < length totals → entry_fits totals k ≡ true
