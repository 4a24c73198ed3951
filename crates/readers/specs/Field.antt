-- The number in a field of n bytes at place p of a file. Assumes nothing.
use Rattle.std.specs.Prelude.{ℕ, zero, suc, ◌+◌, ◌*◌, ◌^◌, List, slice_index}

-- low byte first
abbrev pub little : ℕ → ℕ → List ℕ → ℕ
little zero p input = 0
little (suc n) p input = slice_index input p + 256 * little n (p + 1) input

-- high byte first
abbrev pub big : ℕ → ℕ → List ℕ → ℕ
big zero p input = 0
big (suc n) p input = 256 ^ n * slice_index input p + big n (p + 1) input
