-- The frames of an IVF file from a place on, one at a time. Assumes nothing.
use Rattle.std.proofs.Common.{◌≡◌, ℕ, zero, suc, ◌+◌, ◌<◌, ◌≤◌, List, [], length, Some, None, Option, sym, refl, ap, ◌∙◌, arith}
use Rattle.std.proofs.lemmas.Bool.Decides.{nat_tests}
use Rattle.readers.specs.declared.fault.RecordFault.{RecordFault}
use Rattle.readers.specs.Field.{little}
use Rattle.ivf.specs.Ivf.{frame_fault, frames_from}
use Rattle.readers.specs.Reading.{fault, nothing, record_then}

module _ (input : List ℕ) where
  abbrev after : ℕ → ℕ
  after p = p + 12 + little 4 p input

  -- from the input's end on nothing comes
  pub frames_end : (most p : ℕ) → length input ≤ p → frames_from most input p ≡ nothing
  frames_end zero p h = refl
  frames_end (suc most) p h = grind (arith, nat_tests)

  -- more than the bytes left makes no difference
  frames_enough : (most more p : ℕ) → length input ≤ p + most → length input ≤ p + more → frames_from most input p ≡ frames_from more input p
  frames_enough zero more p h k = sym (frames_end more p (omega arith))
  frames_enough (suc most) zero p h k = frames_end (suc most) p (omega arith)
  frames_enough (suc most) (suc more) p h k = grind (arith, frames_enough most more (after p) (omega arith) (omega arith))

  frames_next : (most p : ℕ) → p < length input → length input ≤ p + most → frames_from most input p ≡ record_then (frame_fault input p) (little 4 p input) (frames_from most input (after p))
  frames_next zero p l h = absurd (omega arith)
  frames_next (suc most) p l h = grind (arith, nat_tests, frames_enough most (suc most) (after p) (omega arith) (omega arith))

  -- before it comes a frame that passes its checks, and what follows it
  pub frames_more : (p : ℕ) → p < length input → frame_fault input p ≡ None → frames_from (length input) input p ≡ record_then None (little 4 p input) (frames_from (length input) input (p + 12 + little 4 p input))
  frames_more p l e = frames_next (length input) p l (omega arith) ∙ ap (λ (o : Option RecordFault). record_then o (little 4 p input) (frames_from (length input) input (after p))) e

  -- or the fault that they give
  pub frames_fault : (p : ℕ) (e : RecordFault) → p < length input → frame_fault input p ≡ Some e → frames_from (length input) input p ≡ ([], fault e)
  frames_fault p e l is = frames_next (length input) p l (omega arith) ∙ ap (λ (o : Option RecordFault). record_then o (little 4 p input) (frames_from (length input) input (after p))) is
