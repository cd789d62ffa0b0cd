use Rattle.std.proofs.Common.{◌≡◌, get_or, ap, ◌∙◌, arith}
use Rattle.sheets.proofs.Draws.{draws_more}
use Rattle.sheets.proofs.draw.draw.Goals as goal

pub loop-target-preserved : goal.loop-target-preserved
loop-target-preserved c =
    let known = c.in-Some.ensures.lookup.3 in
    let block : c.in-Some.field-0.now ≡ get_or c.args.blocks.now.lines (get_or c.args.this.now.targets c.loop-target.target-index 0) 0 = known.1 0 ∙ ap (λ i. get_or c.args.blocks.now.lines i 0) c.from.ensures in
    draws_more c.args.blocks.now.lines c.args.this.now c.loop-target.target-index c.loop-target.line c.loop-target.invariant (omega arith) (omega (arith, known.0)) _ block c.tokens_where.ensures _ c.from-in-loop-target.ensures
