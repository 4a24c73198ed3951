-- What is stored, by the bytes due at each slot: all of it may be sent from the first slot on. Assumes nothing.
use Rattle.std.specs.Prelude.{◌≡◌, ℕ, zero, suc, ◌+◌, ◌*◌, ◌<◌, ◌≤◌, if◌then◌else◌, ◌==◌, refl}
use Rattle.std.proofs.Common.{arith}
use Rattle.std.proofs.lemmas.Bool.Decides.{nat_tests}
use Rattle.totals.specs.Totals.{max_size, max_frames}
use Rattle.envelopes.specs.Bounds.{Bounds, max_bytes}
use Rattle.envelopes.specs.Cut.{up_to}

-- n slots, from 1 to 65,535; nothing is due at slot 0, and a size more at each slot after it
pub record Frames (n : ℕ) (due : ℕ → ℕ) : Type 0 where
  pub some : 1 ≤ n
  pub few : n ≤ max_frames
  pub none : due 0 ≡ 0
  pub rises : (k : ℕ) → k < n → due k ≤ due (k + 1)
  pub small : (k : ℕ) → k < n → due (k + 1) ≤ due k + max_size

module _ (n : ℕ) (due : ℕ → ℕ) where
  -- nothing at slot 0, and all from slot 1
  abbrev pub all_ahead : ℕ → ℕ
  all_ahead k = if k == 0 then 0 else due n

  -- from slot 1 on it is all
  pub all_from_1 : (k : ℕ) → 0 < k → all_ahead k ≡ due n
  all_from_1 k h = grind (arith, nat_tests)

  -- and never more than all
  pub at_most_all : (k : ℕ) → all_ahead k ≤ due n
  at_most_all k = grind (arith, nat_tests)

  module _ (frames : Frames n due) where
    due_most : (k : ℕ) → k ≤ n → due k ≤ k * max_size
    due_most zero h = omega (arith, frames.none)
    due_most (suc k) h = grind (arith, due_most k, frames.small k)

    pub due_bound : (k : ℕ) → k ≤ n → due k ≤ max_bytes
    due_bound k h = omega (arith, due_most k h, frames.few)

    pub all_rises : (k : ℕ) → all_ahead k ≤ all_ahead (k + 1)
    all_rises k = omega (arith, at_most_all k, all_from_1 (k + 1) (omega arith))

    pub all_bound : (k : ℕ) → all_ahead k ≤ max_bytes
    all_bound k = omega (arith, at_most_all k, due_bound n (omega arith))

    pub all_past : (k : ℕ) → n ≤ k → all_ahead k ≡ all_ahead n
    all_past k h = grind (arith, nat_tests, frames.some)

    -- L(k) is what is due by slot k
    abbrev pub stored_bounds : Bounds
    stored_bounds = record {
      slots = n;
      some = frames.some;
      few = omega (arith, frames.few);
      lower = up_to n due frames.rises due_bound;
      upper = record { at = all_ahead; rises = all_rises; bound = all_bound; past = all_past };
      starts = refl;
    }
