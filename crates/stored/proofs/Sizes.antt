-- Frames by their sizes. Assumes nothing.
use Rattle.std.proofs.Common.{◌≡◌, ℕ, ◌<◌, ◌≤◌, List, length, get_or, refl, arith}
use Rattle.totals.specs.Totals.{total, max_size, max_frames}
use Rattle.totals.proofs.Steps.{total_more}
use Rattle.stored.specs.Stored.{Frames}

-- what the first k of 1 to 65,535 sizes come to is due by slot k
pub sizes_frames : (sizes : List ℕ) (n : ℕ) → length sizes ≡ n → 1 ≤ n → n ≤ max_frames → ((k : ℕ) → k < n → get_or sizes k 0 ≤ max_size) → Frames n (total sizes)
sizes_frames sizes n all some few small = record {
  some = some;
  few = few;
  none = refl;
  rises = λ k h. omega (arith, total_more sizes k (omega arith));
  small = λ k h. omega (arith, total_more sizes k (omega arith), small k h);
}
