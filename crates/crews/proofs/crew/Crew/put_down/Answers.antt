use Rattle.std.proofs.Common.{◌≡◌, ◌+◌, ◌≤◌, get_or, sum, ap, ◌∙◌, inl, inr, arith, rules}
use Rattle.net.specs.Meaning.{transition}
use Rattle.net.specs.Markings.{plus}
use Rattle.net.proofs.Markings.{sum_plus}
use Rattle.crews.proofs.PutDown.{Turn, going_none, going_more, turn, all_down}
use Rattle.crews.proofs.crew.Crew.put_down.Given as given
use Rattle.crews.proofs.crew.Crew.put_down.Goals as goal
use Rattle.crews.proofs.crew.Crew.put_down.Goals.{After-from, After-from-2, else-loop-place-test, then-loop-place-test+then-left-eq0}

pub loop-place-init : goal.loop-place-init
loop-place-init g c = going_none _ _ _ c.total-total.ensures

-- the turn of a place, with tokens left
here : (g : given.Over) (c : After-from g)
    → Turn (transition (g.N.Net.meaning c.args.net.now) c.args.transition).puts c.loop-place.place c.loop-place.left c.args.self.now.counts c.loop-place.counts
here g c = turn _ _ _ _ _ _ (g.N.Net.lawful c.args.net.now) c.requires.known (search rules) c.loop-place.invariant (omega arith)

pub overflow_add-counts : goal.overflow_add-counts
overflow_add-counts g c =
    let small : get_or c.loop-place.counts c.loop-place.place 0 + c.from.result ≤ 4096 = omega (arith, (here g c).small, c.requires.fits, c.from.ensures, c.tokens-tokens.ensures) in
    search rules

pub overflow_sub-left : goal.overflow_sub-left
overflow_sub-left g c = omega (arith, c.tokens-tokens.ensures, (here g c).few)

pub loop-place-preserved : goal.loop-place-preserved
loop-place-preserved g c = going_more _ _ _ _ _ _ _ c.loop-place.invariant (here g c).placed (here g c).target c.tokens-tokens.ensures c.from.ensures

-- whether the loop came to its end or stopped before
all_put : (g : given.Over) (c : After-from-2 g) → c.loop-place.counts ≡ plus c.args.self.now.counts (transition (g.N.Net.meaning c.args.net.now) c.args.transition).puts
all_put g c =
    all_down _ _ _ _ _ _ (g.N.Net.lawful c.args.net.now) c.requires.known (search rules) c.loop-place.invariant
    (elim c.loop-place-test.branch [
      | else-loop-place-test w ↦ inl w.loop-place-test.false
      | then-loop-place-test+then-left-eq0 w ↦ inr w.if-left-eq0.true
    ])

pub invariant_of-self : goal.invariant_of-self
invariant_of-self g c =
    let all = ap sum (all_put g (goal.at.invariant_of-self g c).After-from-2) ∙ sum_plus c.args.self.now.counts (transition (g.N.Net.meaning c.args.net.now) c.args.transition).puts in
    record { summed = omega (arith, all, c.args.self.now.summed, c.from-2.ensures, c.total-total.ensures); few = omega (arith, c.args.self.now.summed, c.from-2.ensures, c.total-total.ensures, c.requires.fits) }

pub returns : goal.returns
returns g c = all_put g (goal.at.returns g c).After-from-2
