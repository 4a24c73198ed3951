-- The number of a layer: how it is made, and what its fault tells. Assumes nothing.
use Rattle.std.specs.Prelude.{◌≡◌, ℕ, ◌<◌, ◌≤◌, Result, MatchResult}
use Rattle.refusals.specs.declared.Layer.TheVariants.{LayerNumber}
use Rattle.refusals.specs.declared.Refusal.{Refusal}
use Rattle.refusals.specs.Told.{refused}
use Rattle.layers.specs.declared.fault.NumberFault.{NumberFault}

-- what is given is kept where it is at most `most`, and refused where it is above; the refusal holds both numbers
abbrev pub KeptUpTo : (most given : ℕ) → Result ℕ NumberFault → Type 0
KeptUpTo most given r = MatchResult r (λ n. (n ≡ given) × (given ≤ most)) (λ e. (e.given ≡ given) × (e.most ≡ most) × (most < given))

-- the place that is told is the number
abbrev pub number_refusal : NumberFault → Refusal
number_refusal e = refused LayerNumber 26 e.given
