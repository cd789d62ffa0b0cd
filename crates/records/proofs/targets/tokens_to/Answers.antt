use Rattle.std.proofs.Common.{eqb, get_or, sym, ap, ◌∙◌, arith, rules}
use Rattle.std.proofs.lemmas.List.{take_all}
use Rattle.std.proofs.lemmas.List.Sums.{count_by_more_yes, count_by_more_no}
use Rattle.std.proofs.lemmas.Bool.{eq-eqb, ne_eqb}
use Rattle.records.specs.File.{tokens_to}
use Rattle.records.proofs.targets.tokens_to.Goals as goal
use Rattle.records.proofs.targets.tokens_to.Goals.{then-from-p, else-from-p}

pub loop-t-preserved : goal.loop-t-preserved
loop-t-preserved c =
    let ts = c.args.targets.now in
    let i = c.loop-t.t-index in
    let p = c.args.p in
    elim c.if-from-p.branch [
      | then-from-p w ↦ (omega (arith, w.tokens-is, c.loop-t.invariant.0, count_by_more_yes (λ t. eqb t p) ts i 0 (search rules) (eq-eqb (get_or ts i 0) p (sym c.from.ensures ∙ w.if-from-p.true))), omega (arith, w.tokens-is, c.loop-t.invariant.1))
      | else-from-p w ↦ (omega (arith, w.tokens-is, c.loop-t.invariant.0, count_by_more_no (λ t. eqb t p) ts i 0 (search rules) (ne_eqb (get_or ts i 0) p (λ e. w.if-from-p.false (c.from.ensures ∙ e)))), omega (arith, w.tokens-is, c.loop-t.invariant.1))
    ]

pub returns : goal.returns
returns c =
    let ts = c.args.targets.now in
    c.loop-t.invariant.0 ∙ ap (λ xs. tokens_to xs c.args.p) (take_all c.loop-t.t-index ts (search rules))
