-- Checks in order, each with the fault that it gives where it fails. Assumes nothing.
use Rattle.std.specs.Prelude.{Bool, cond, List, [], ◌∷◌, Some, None, Ok, Err, Option, Result}

-- the fault of the first check that fails; `true` says that its condition for refusing is met
abbrev pub first_fault : {F : Type 0} → List (Bool × F) → Option F
first_fault [] = None
first_fault (check ∷ checks) = cond check.0 (Some check.1) (first_fault checks)

-- what a call answers that does no more than that: the fault, or that there is none
abbrev pub unless : {F : Type 0} → Option F → Result (Unit {0}) F
unless None = Ok tt
unless (Some e) = Err e
