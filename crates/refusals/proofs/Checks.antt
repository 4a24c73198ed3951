-- What follows where no check fails. Assumes nothing.
use Rattle.std.proofs.Common.{◌≡◌, Bool, true, false, List, [], ◌∷◌, Some, None, Ok, Option, refl, arith}
use Rattle.refusals.specs.Checks.{first_fault, unless}

-- no check fails
abbrev pub Passed : {F : Type 0} → List (Bool × F) → Type 0
Passed [] = Unit {0}
Passed (check ∷ checks) = (check.0 ≡ false) × Passed checks

pub passed : {F : Type 0} (checks : List (Bool × F)) → first_fault checks ≡ None → Passed checks
passed [] e = tt
passed ((true, x) ∷ checks) e = absurd (grind arith)
passed ((false, x) ∷ checks) e = (refl, passed checks e)

-- a call that answers no fault found none
pub no_fault : {F : Type 0} (o : Option F) (u : Unit {0}) → Ok u ≡ unless o → o ≡ None
no_fault None u e = refl
no_fault (Some x) u e = absurd (grind arith)
