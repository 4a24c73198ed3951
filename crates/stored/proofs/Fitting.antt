-- What holds where no check refuses the totals. Assumes nothing.
use Rattle.std.proofs.Common.{◌≡◌, ℕ, zero, suc, ◌+◌, ◌<◌, ◌≤◌, Bool, true, not, List, length, None, arith}
use Rattle.std.specs.List.{range_with_len, find}
use Rattle.std.proofs.lemmas.Grind.{common_steps}
use Rattle.stored.specs.Totals.{entry_fits, misfit, totals_fault, Fits}

-- where no number of a range fails a test, each passes it
each_passes : (p : ℕ → Bool) (n a k : ℕ) → find (λ i. not (p i)) (range_with_len a n) ≡ None → a ≤ k → k < a + n → p k ≡ true
each_passes p zero a k e l h = absurd (omega arith)
each_passes p (suc n) a k e l h = grind (arith, common_steps, each_passes p n (a + 1) k)

pub unrefused : (totals : List ℕ) → totals_fault totals ≡ None → Fits totals
unrefused totals e =
    let none : misfit totals ≡ None = grind (arith, common_steps) in
    record {
      some = grind (arith, common_steps);
      few = grind (arith, common_steps);
      each = λ k h. each_passes (entry_fits totals) (length totals) 0 k none (omega arith) (omega arith);
    }
