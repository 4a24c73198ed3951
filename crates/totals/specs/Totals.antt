-- The running totals of a list of weights. Assumes nothing.
use Rattle.std.specs.Prelude.{ℕ, ◌+◌, List, map, length, take, sum}
use Rattle.std.specs.List.{range_with_len}

-- the largest size of a frame or sample
abbrev pub max_size : ℕ
max_size = 16777215

-- the most frames of a film
abbrev pub max_frames : ℕ
max_frames = 65535

-- what the first k weigh together
abbrev pub total : List ℕ → ℕ → ℕ
total weights k = sum (take k weights)

-- that for k from 0 to their number
abbrev pub totals_of : List ℕ → List ℕ
totals_of weights = map (total weights) (range_with_len 0 (length weights + 1))
