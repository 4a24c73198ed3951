-- A delay of w slots: playing begins w slots later. Assumes nothing.
use Rattle.std.specs.Prelude.{◌≡◌, ℕ, ◌+◌, ◌-◌, ◌≤◌, min, if◌then◌else◌, nat_lt}
use Rattle.std.proofs.Common.{arith}
use Rattle.std.proofs.lemmas.Bool.Decides.{nat_tests}
use Rattle.envelopes.specs.Bounds.{Bounds, max_slots, max_bytes}
use Rattle.envelopes.specs.Cut.{up_to}
use Rattle.envelopes.proofs.Limits.{limit_le}

module _ (below : Bounds) (w : ℕ) where
  -- w slots more, but at most 1,048,575
  abbrev pub delay_slots : ℕ
  delay_slots = min (below.slots + w) max_slots

  -- nothing is due before slot w, and from there what was due w slots before
  abbrev pub delay_lower : ℕ → ℕ
  delay_lower k = if nat_lt k w then 0 else below.lower.at (k - w)

  pub lower_rises : (k : ℕ) → delay_lower k ≤ delay_lower (k + 1)
  lower_rises k = grind (arith, nat_tests, limit_le below.lower (k - w) (k + 1 - w))

  pub lower_bound : (k : ℕ) → delay_lower k ≤ max_bytes
  lower_bound k = grind (arith, nat_tests, below.lower.bound (k - w))

  pub upper_past : (k : ℕ) → delay_slots ≤ k → below.upper.at k ≡ below.upper.at delay_slots
  upper_past k h = grind (arith, below.few, below.upper.past k, below.upper.past delay_slots)

  -- the upper limit stays
  abbrev pub delayed : Bounds
  delayed = record {
    slots = delay_slots;
    some = omega (arith, below.some);
    few = omega arith;
    lower = up_to delay_slots delay_lower (λ k _. lower_rises k) (λ k _. lower_bound k);
    upper = record {
      at = below.upper.at;
      rises = below.upper.rises;
      bound = below.upper.bound;
      past = upper_past;
    };
    starts = below.starts;
  }
