-- What a live camera means: each slot's bytes are there in that slot, and are sent in it. Assumes nothing.
use Rattle.std.specs.Prelude.{◌≡◌, ℕ, ◌+◌, ◌*◌, ◌≤◌, min}
use Rattle.std.proofs.Common.{arith, mul-le-mul, mul-zero}
use Rattle.totals.specs.Totals.{max_size, max_frames}
use Rattle.envelopes.specs.Bounds.{Bounds, Limit, max_bytes}
use Rattle.envelopes.specs.Cut.{up_to}

-- a size of at most 16,777,215, over 1 to 65,535 slots
pub record LiveFits (size slots : ℕ) : Type 0 where
  pub small : size ≤ max_size
  pub some : 1 ≤ slots
  pub few : slots ≤ max_frames

module _ (size slots : ℕ) (fits : LiveFits size slots) where
  pub live_rises : (k : ℕ) → size * k ≤ size * (k + 1)
  live_rises k = omega arith

  few : (k : ℕ) → k ≤ slots → k ≤ 65535
  few k h = omega (arith, fits.few)

  pub live_bound : (k : ℕ) → k ≤ slots → size * k ≤ max_bytes
  live_bound k h = omega (arith, mul-le-mul fits.small (few k h))

  pub live_starts : size * min 0 slots ≡ 0
  live_starts = grind (arith, mul-zero)

  -- c bytes for each slot
  abbrev pub live_limit : Limit slots
  live_limit = up_to slots (λ k. size * k) (λ k _. live_rises k) live_bound

  abbrev pub live_bounds : Bounds
  live_bounds = record {
    slots = slots;
    some = fits.some;
    few = omega (arith, fits.few);
    lower = live_limit;
    upper = live_limit;
    starts = live_starts;
  }
