-- Why the sizes that pass their checks are small. Assumes nothing.
use Rattle.std.proofs.Common.{◌≡◌, ℕ, zero, suc, ◌≤◌, Bool, true, false, cond, List, [], ◌∷◌, Some, None, Option, refl, arith}
use Rattle.readers.specs.declared.fault.RecordFault.{RecordFault}
use Rattle.totals.specs.Totals.{max_size}
use Rattle.readers.specs.Reading.{Ending, Small, record_then}

pub small_none : Small []
small_none k = omega arith

small_more : (size : ℕ) (sizes : List ℕ) → size ≤ max_size → Small sizes → Small (size ∷ sizes)
small_more size sizes h small zero = h
small_more size sizes h small (suc k) = small k

pub small_then : (o : Option RecordFault) (size : ℕ) (later : List ℕ × Ending) → (o ≡ None → size ≤ max_size) → Small later.0 → Small (record_then o size later).0
small_then (Some e) size later h small = small_none
small_then None size later h small = small_more size later.0 (h refl) small

pub small_cond : (b : Bool) (x y : List ℕ × Ending) → Small x.0 → Small y.0 → Small (cond b x y).0
small_cond true x y h k = h
small_cond false x y h k = k
