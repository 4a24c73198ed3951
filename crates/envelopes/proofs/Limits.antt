-- What follows from the laws of a limit. Assumes nothing.
use Rattle.std.proofs.Common.{◌≡◌, ℕ, zero, suc, ◌+◌, ◌-◌, ◌≤◌, arith}
use Rattle.envelopes.specs.Bounds.{Limit}

module _ {n : ℕ} (limit : Limit n) where
  rises_by : (d j k : ℕ) → j + d ≡ k → limit.at j ≤ limit.at k
  rises_by zero j k e = grind arith
  rises_by (suc d) j k e = grind (arith, limit.rises j, rises_by d (j + 1) k)

  -- it is no lower at a later slot
  pub limit_le : (j k : ℕ) → j ≤ k → limit.at j ≤ limit.at k
  limit_le j k h = rises_by (k - j) j k (omega arith)
