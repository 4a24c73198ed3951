-- A limit by its values at the slots 0 to n. Assumes nothing.
use Rattle.std.specs.Prelude.{◌≡◌, ℕ, ◌+◌, ◌<◌, ◌≤◌, min}
use Rattle.std.proofs.Common.{ap, arith}
use Rattle.std.proofs.lemmas.Grind.{common_steps}
use Rattle.envelopes.specs.Bounds.{Limit, max_bytes}

module _ (n : ℕ) (f : ℕ → ℕ) (rises : (k : ℕ) → k < n → f k ≤ f (k + 1)) (bound : (k : ℕ) → k ≤ n → f k ≤ max_bytes) where
  pub cut_rises : (k : ℕ) → f (min k n) ≤ f (min (k + 1) n)
  cut_rises k = grind (arith, common_steps, rises k)

  pub cut_past : (k : ℕ) → n ≤ k → f (min k n) ≡ f (min n n)
  cut_past k h = ap f (omega arith)

  -- f at the slots 0 to n, where it never falls and is at most `max_bytes`; past n as at n
  abbrev pub up_to : Limit n
  up_to = record {
    at = λ k. f (min k n);
    rises = cut_rises;
    bound = λ k. bound (min k n) (omega arith);
    past = cut_past;
  }
