-- The numbers of a run. Assumes nothing.
use Rattle.std.specs.Prelude.{ℕ, ◌≤◌}

-- from 1 to 65,535 slots, and at most 1,099,511,627,775 bytes
abbrev pub InRange : ℕ → ℕ → Type 0
InRange slots bytes = (1 ≤ slots) × (slots ≤ 65535) × (bytes ≤ 1099511627775)
