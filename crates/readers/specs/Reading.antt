-- What a reader has still to give: the sizes of its records in order, and how they end. Assumes nothing.
use Rattle.std.specs.Prelude.{◌≡◌, ℕ, ◌≤◌, List, [], ◌∷◌, Some, None, Ok, Err, Option, Result, slice_index}
use Rattle.std.specs.Option.{option_map}
use Rattle.totals.specs.Totals.{max_size}
use Rattle.readers.specs.declared.fault.RecordFault.{RecordFault}

pub data Ending : Type 0 where
  plain : Ending
  fault : RecordFault → Ending

abbrev pub Small : List ℕ → Type 0
Small sizes = (k : ℕ) → slice_index sizes k ≤ max_size

pub record Reading : Type 0 where
  pub sizes : List ℕ
  pub ending : Ending
  pub small : Small sizes

-- what is told at the ending: that no record comes, or the fault
abbrev pub at_ending : Ending → Result (Option ℕ) RecordFault
at_ending plain = Ok None
at_ending (fault e) = Err e

-- what is told next: the first size, or the ending
abbrev pub answer : List ℕ → Ending → Result (Option ℕ) RecordFault
answer [] ending = at_ending ending
answer (size ∷ sizes) ending = Ok (Some size)

-- all sizes but the first
abbrev pub rest : List ℕ → List ℕ
rest [] = []
rest (size ∷ sizes) = sizes

-- what an answer tells: the size of its record, that no record comes, or the fault
abbrev pub sized : {R : Type 0} → (R → ℕ) → Result (Option R) RecordFault → Result (Option ℕ) RecordFault
sized weighs (Ok item) = Ok (option_map weighs item)
sized weighs (Err e) = Err e

-- taking the next record: the answer r, and what is then still to come
pub record Takes {R : Type 0} (weighs : R → ℕ) (before : Reading) (r : Result (Option R) RecordFault) (after : Reading) : Type 0 where
  pub gives : sized weighs r ≡ answer before.sizes before.ending
  pub moves : after.sizes ≡ rest before.sizes
  pub ends : after.ending ≡ before.ending

-- no record, and a plain end
abbrev pub nothing : List ℕ × Ending
nothing = ([], plain)

-- a record of this size and then later ones; or, where a check refuses it, that fault for an ending
abbrev pub record_then : Option RecordFault → ℕ → List ℕ × Ending → List ℕ × Ending
record_then (Some e) size later = ([], fault e)
record_then None size later = (size ∷ later.0, later.1)
