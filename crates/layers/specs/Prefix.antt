-- A prefix of p bytes, which are at the proxy already: each limit loses p and stops at 0. Assumes nothing.
use Rattle.std.specs.Prelude.{ℕ, ◌-◌}
use Rattle.std.proofs.Common.{ap, arith}
use Rattle.envelopes.specs.Bounds.{Bounds, Limit}

-- `-` stops at 0
abbrev pub less : {n : ℕ} → Limit n → ℕ → Limit n
less limit p = record {
  at = λ k. limit.at k - p;
  rises = λ k. omega (arith, limit.rises k);
  bound = λ k. omega (arith, limit.bound k);
  past = λ k h. ap (λ (bytes : ℕ). bytes - p) (limit.past k h);
}

abbrev pub prefixed : Bounds → ℕ → Bounds
prefixed below p = record {
  slots = below.slots;
  some = below.some;
  few = below.few;
  lower = less below.lower p;
  upper = less below.upper p;
  starts = omega (arith, below.starts);
}
