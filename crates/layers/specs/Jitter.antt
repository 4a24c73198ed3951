-- A jitter of j slots: what is due by a slot is due j slots before. Assumes nothing.
use Rattle.std.specs.Prelude.{◌≡◌, ℕ, ◌+◌, ◌≤◌, min}
use Rattle.std.proofs.Common.{ap, arith}
use Rattle.envelopes.specs.Bounds.{Bounds}
use Rattle.envelopes.proofs.Limits.{limit_le}

module _ (below : Bounds) (j : ℕ) where
  -- what is due j slots later, or by the last slot
  abbrev pub jitter_lower : ℕ → ℕ
  jitter_lower k = below.lower.at (min (k + j) below.slots)

  pub lower_past : (k : ℕ) → below.slots ≤ k → jitter_lower k ≡ jitter_lower below.slots
  lower_past k h = ap below.lower.at (omega arith)

  -- slots and upper limit stay
  abbrev pub jittered : Bounds
  jittered = record {
    slots = below.slots;
    some = below.some;
    few = below.few;
    lower = record {
      at = jitter_lower;
      rises = λ k. limit_le below.lower (min (k + j) below.slots) (min (k + 1 + j) below.slots) (omega arith);
      bound = λ k. below.lower.bound (min (k + j) below.slots);
      past = lower_past;
    };
    upper = below.upper;
    starts = below.starts;
  }
