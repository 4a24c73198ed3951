-- What each answer of a reader means, for every reader: an end, a refusal, or a record. Assumes nothing.
use Rattle.std.proofs.Common.{◌≡◌, ℕ, List, [], ◌∷◌, IfOk, Some, None, Ok, Err, Option, Result, sym, refl, ap, ◌∙◌, subst, arith}
use Rattle.readers.specs.declared.fault.RecordFault.{RecordFault}
use Rattle.readers.specs.Reading.{Reading, Ending, fault, nothing, at_ending, answer, rest, sized, Takes}

-- what is still to come
abbrev pub still : Reading → List ℕ × Ending
still r = (r.sizes, r.ending)

-- a step of a reader from one state to the next, with the answer r: what `next` promises of it
pub record Stepped {S R : Type 0} (meaning : S → Reading) (weighs : R → ℕ) (At : Option R → Type 0) (reader : S) (r : Result (Option R) RecordFault) (next : S) : Type 0 where
  pub takes : Takes weighs (meaning reader) r (meaning next)
  pub stays : (meaning reader).sizes ≡ [] → next ≡ reader
  pub holds : IfOk r At

module _ {S R : Type 0} (meaning : S → Reading) (weighs : R → ℕ) (At : Option R → Type 0) (reader : S) where
  takes_none : (r : Result (Option R) RecordFault) → (meaning reader).sizes ≡ [] → sized weighs r ≡ at_ending (meaning reader).ending → Takes weighs (meaning reader) r (meaning reader)
  takes_none r none told = record {
    gives = told ∙ sym (ap (λ (sizes : List ℕ). answer sizes (meaning reader).ending) none);
    moves = none ∙ sym (ap rest none);
    ends = refl;
  }

  -- no record comes: the reader stays
  pub stepped_end : At None → still (meaning reader) ≡ nothing → Stepped meaning weighs At reader (Ok None) reader
  stepped_end at e = record {
    takes = takes_none (Ok None) (ap (λ x. x.0) e) (sym (ap (λ x. at_ending x.1) e));
    stays = λ _. refl;
    holds = at;
  }

  -- a check refuses the record: the reader stays
  pub stepped_fault : (f : RecordFault) → still (meaning reader) ≡ ([], fault f) → Stepped meaning weighs At reader (Err f) reader
  stepped_fault f e = record {
    takes = takes_none (Err f) (ap (λ x. x.0) e) (sym (ap (λ x. at_ending x.1) e));
    stays = λ _. refl;
    holds = tt;
  }

  -- the record is given: the reader moves past it
  pub stepped_on : (given : R) (next : S) → At (Some given) → still (meaning reader) ≡ (weighs given ∷ (meaning next).sizes, (meaning next).ending) → Stepped meaning weighs At reader (Ok (Some given)) next
  stepped_on given next at e = record {
    takes = record {
      gives = sym (ap (λ x. answer x.0 x.1) e);
      moves = sym (ap (λ x. rest x.0) e);
      ends = sym (ap (λ x. x.1) e);
    };
    stays = λ none. let first = ap (λ x. x.0) e in absurd (grind arith);
    holds = at;
  }

  pub stepped_to : (r : Result (Option R) RecordFault) (next there : S) → there ≡ next → Stepped meaning weighs At reader r next → Stepped meaning weighs At reader r there
  stepped_to r next there e step = subst (λ (x : S). Stepped meaning weighs At reader r x) (sym e) step
