-- A buffer of b bytes at the viewer: what is sent and not yet played has to fit it. Assumes nothing.
use Rattle.std.specs.Prelude.{◌≡◌, ℕ, ◌+◌, ◌-◌, ◌≤◌, min, if◌then◌else◌, ◌==◌}
use Rattle.std.proofs.Common.{arith}
use Rattle.std.proofs.lemmas.Bool.Decides.{nat_tests}
use Rattle.envelopes.specs.Bounds.{Bounds, max_bytes}
use Rattle.envelopes.specs.Cut.{up_to}
use Rattle.envelopes.proofs.Limits.{limit_le}

module _ (below : Bounds) (b : ℕ) where
  -- 0 at slot 0, and after it at most b bytes above what was due one slot before
  abbrev pub buffer_upper : ℕ → ℕ
  buffer_upper k = if k == 0 then 0 else min (below.upper.at k) (below.lower.at (k - 1) + b)

  pub upper_rises : (k : ℕ) → buffer_upper k ≤ buffer_upper (k + 1)
  upper_rises k = grind (arith, nat_tests, below.upper.rises k, limit_le below.lower (k - 1) (k + 1 - 1))

  pub upper_bound : (k : ℕ) → buffer_upper k ≤ max_bytes
  upper_bound k = grind (arith, nat_tests, below.upper.bound k)

  pub upper_starts : buffer_upper (min 0 below.slots) ≡ 0
  upper_starts = grind (arith, nat_tests)

  -- slots and lower limit stay
  abbrev pub buffered : Bounds
  buffered = record {
    slots = below.slots;
    some = below.some;
    few = below.few;
    lower = below.lower;
    upper = up_to below.slots buffer_upper (λ k _. upper_rises k) (λ k _. upper_bound k);
    starts = upper_starts;
  }
