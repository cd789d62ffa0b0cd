use Rattle.std.proofs.Common.{◌≡◌, get_or, sym, refl, ◌∙◌, subst}
use Rattle.crews.specs.Crews.{nobody}
use Rattle.crews.specs.Benches.{crews_held, Extends}
use Rattle.crews.specs.declared.call.Call.TheVariants.{Put}
use Rattle.crews.proofs.Replaying.{going_none, going_more}
use Rattle.crews.proofs.runs.replay.Goals as goal

pub loop-i-init : goal.loop-i-init
loop-i-init g c =
    let b = c.new-bench.result in
    let empty = subst (λ x. crews_held (g.N.Net.meaning x) b ≡ nobody (g.N.Net.meaning x).places) (sym c.new-bench.ensures.same) c.new-bench.ensures.empty in
    (refl, going_none (g.N.Net.meaning b.net) c.args.calls.now c.args.answers.now b empty)

pub loop-i-preserved : goal.loop-i-preserved
loop-i-preserved g c =
    let inv = c.loop-i.invariant in
    let calls = c.args.calls.now in
    let extends = subst (λ x. Extends (g.N.Net.meaning x) c.loop-i.bench (get_or calls c.loop-i.i (Put 0 0 0)) c.perform.result c.perform.new.bench) inv.0 c.perform.ensures.extends in (
      c.perform.ensures.steps.same ∙ inv.0,
      going_more (g.N.Net.meaning c.new-bench.result.net) calls c.loop-i.i c.args.answers.now c.loop-i.answers c.loop-i.bench c.perform.new.bench (Put 0 0 0) c.perform.result
          c.loop-i-test.true c.if-answers-calls.false inv.1 extends,
    )
