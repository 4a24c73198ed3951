-- What the check does not find by itself: each of these was moved aside, and it was wanted again.
use Rattle.std.proofs.Common.{length, sym, refl, ◌∙◌, arith}
use Rattle.std.proofs.lemmas.Result.{err_from_is_err_and}
use Rattle.totals.proofs.Steps.{total_more}
use Rattle.films.proofs.Making.{at_refusal, at_plain_end, at_size, made_of, put_in, all_put_in}
use Rattle.films.proofs.make.read_frames.Goals as goal

pub returns-in_err-size-clause-result : goal.returns-in_err-size-clause-result
returns-in_err-size-clause-result g c =
    let p = err_from_is_err_and c.from_residual.result c.from_residual.ensures.1 in
    rw (p.1, p.2) (sym (at_refusal c.loop-frames.invariant.so_far c.next_size.ensures.taken (length c.args.totals.now) _ _ _ _ refl refl (omega arith) c.next_size.ensures.tells c.in_err-size.was).0)

pub returns-in_err-size-clause-taken : goal.returns-in_err-size-clause-taken
returns-in_err-size-clause-taken g c = (at_refusal c.loop-frames.invariant.so_far c.next_size.ensures.taken _ _ _ _ _ refl refl (omega arith) c.next_size.ensures.tells c.in_err-size.was).1

pub returns-in_default : goal.returns-in_default
returns-in_default g c =
    let l = c.loop-frames in
    let at = at_plain_end l.invariant.so_far c.next_size.ensures.taken (length c.args.totals.now) _ _ _ _ refl refl (omega arith) c.next_size.ensures.tells c.in_ok-size.was c.in_default.is in
    record {
      result = c.film_of.ensures ∙ sym at.1;
      totals = made_of l.frames c.film_of.result _ c.film_of.ensures (all_put_in _ l.totals l.frames l.sum at.0 l.invariant.last (omega arith) l.invariant.written);
      taken = at.2;
    }

pub overflow_add-sum : goal.overflow_add-sum
overflow_add-sum g c =
    let at = at_size c.loop-frames.invariant.so_far c.next_size.ensures.taken _ _ _ _ _ refl c.next_size.ensures.tells c.in_ok-size.was c.in-Some.is in
    omega (arith, at.0, (g.R.Reader.reading c.args.reader.now).small c.loop-frames.frames)

pub loop-frames-preserved : goal.loop-frames-preserved
loop-frames-preserved g c =
    let l = c.loop-frames in
    let before = g.R.Reader.reading c.args.reader.now in
    let at = at_size l.invariant.so_far c.next_size.ensures.taken _ _ _ _ _ refl c.next_size.ensures.tells c.in_ok-size.was c.in-Some.is in
    record {
      so_far = at.1;
      last = omega (arith, l.invariant.last, at.0, total_more before.sizes l.frames (omega arith));
      bound = omega (arith, l.invariant.bound, at.0, before.small l.frames);
      written = put_in before.sizes l.totals l.frames l.sum l.invariant.last (omega arith) l.invariant.written;
    }
