-- What the check does not find by itself: each of these was moved aside, and it was wanted again.
use Rattle.std.proofs.Common.{◌+◌, ◌<◌, map, length, sym, ap, ◌∙◌, arith}
use Rattle.std.proofs.lemmas.List.{length-map, get_or-map, length-set, get_or-set_same}
use Rattle.totals.proofs.Steps.{totals_more, totals_all}
use Rattle.totals.proofs.running_totals.Goals as goal

pub loop-i-preserved : goal.loop-i-preserved
loop-i-preserved g c =
    let w = g.W.Weight.weighs in
    let records = c.args.records.now in
    let x = c.index-records-i.result in
    let room : c.loop-i.i + 1 < length c.loop-i.totals = omega arith in
    let weight = c.weight.ensures.is ∙ ap w c.index-records-i.is ∙ sym (get_or-map w records c.loop-i.i x 0 c.loop-i-test.true) in (
      simp length-set (omega arith),
      rw get_or-set_same (omega (arith, c.loop-i.invariant.1)),
      totals_more (map w records) c.loop-i.totals c.loop-i.i c.weight.result (simp length-map c.loop-i-test.true) room weight c.loop-i.invariant.2,
    )

pub returns : goal.returns
returns g c = totals_all _ _ (simp length-map (omega arith)) (λ k h. c.loop-i.invariant.2 k (omega (arith, length-map c.args.records.now g.W.Weight.weighs)))
