-- What a pattern means: a stored film whose sizes are those of the group, in order, again and again. Assumes nothing.
use Rattle.std.specs.Prelude.{ℕ, ◌%◌, ◌<◌, ◌≤◌, List, map, length, slice_index}
use Rattle.std.proofs.Common.{arith}
use Rattle.std.specs.List.{range_with_len}
use Rattle.std.proofs.lemmas.List.FromFn.{length-map-range_with_len, get_or-map-range_with_len}
use Rattle.std.proofs.lemmas.Nat.{mod_below}
use Rattle.totals.specs.Totals.{total, max_size, max_frames}
use Rattle.envelopes.specs.Bounds.{Bounds}
use Rattle.stored.specs.Stored.{Frames, stored_bounds}
use Rattle.stored.proofs.Sizes.{sizes_frames}

-- the most sizes of a group
abbrev pub max_group : ℕ
max_group = 16

-- 1 to 16 sizes, each at most 16,777,215, over 1 to 65,535 slots
pub record GroupFits (group : List ℕ) (slots : ℕ) : Type 0 where
  pub sizes : 1 ≤ length group
  pub few_sizes : length group ≤ max_group
  pub small : (k : ℕ) → k < length group → slice_index group k ≤ max_size
  pub some : 1 ≤ slots
  pub few : slots ≤ max_frames

module _ (group : List ℕ) (slots : ℕ) where
  -- the size of slot i, from 0
  abbrev pub size_at : ℕ → ℕ
  size_at i = slice_index group (i % length group)

  abbrev pub repeated : List ℕ
  repeated = map size_at (range_with_len 0 slots)

  -- the sum of the first k sizes
  abbrev pub pattern_due : ℕ → ℕ
  pattern_due k = total repeated k

  small_each : GroupFits group slots → (k : ℕ) → k < slots → slice_index repeated k ≤ max_size
  small_each fits k h = omega (arith, get_or-map-range_with_len size_at 0 slots k k 0 h (omega arith), fits.small (k % length group) (mod_below k (length group) fits.sizes))

  pub pattern_frames : GroupFits group slots → Frames slots pattern_due
  pattern_frames fits = sizes_frames repeated slots (length-map-range_with_len _ 0 slots) fits.some fits.few (small_each fits)

  -- limits as for a film
  abbrev pub pattern_bounds : GroupFits group slots → Bounds
  pattern_bounds fits = stored_bounds slots pattern_due (pattern_frames fits)
