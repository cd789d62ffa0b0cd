use Rattle.std.proofs.Common.{sym, ◌∙◌, arith, rules, below_more}
use Rattle.net.specs.Meaning.{transition}
use Rattle.crews.proofs.Answering.{by_entry, differs_unfit, even_fits}
use Rattle.crews.proofs.search.answering.Goals as goal

pub next-preserved : goal.next-preserved
next-preserved g c =
    let m = g.N.Net.meaning c.args.net.now in
    let cs = c.args.table.now.classes in
    let ours = by_entry m.places cs (transition m c.next.u).puts c.loop-class.class c.tokens_in.result c.tokens_in.ensures.counted in
    let theirs = by_entry m.places cs (transition m c.args.t).puts c.loop-class.class c.tokens_in-in-loop-class.result c.tokens_in-in-loop-class.ensures.counted in
    below_more _ _ c.next.invariant
    (differs_unfit m cs c.args.crew.now c.args.t c.next.u c.loop-class.class (λ e. c.if-tokens_in.true (ours ∙ e ∙ sym theirs)))

pub loop-class-preserved : goal.loop-class-preserved
loop-class-preserved g c =
    let m = g.N.Net.meaning c.args.net.now in
    let cs = c.args.table.now.classes in
    let ours = by_entry m.places cs (transition m c.next.u).puts c.loop-class.class c.tokens_in.result c.tokens_in.ensures.counted in
    let theirs = by_entry m.places cs (transition m c.args.t).puts c.loop-class.class c.tokens_in-in-loop-class.result c.tokens_in-in-loop-class.ensures.counted in
    below_more _ _ c.loop-class.invariant (sym ours ∙ c.if-tokens_in.false ∙ theirs)

pub returns : goal.returns
returns g c =
    even_fits (g.N.Net.meaning c.args.net.now) c.args.table.now.classes c.args.crew.now c.args.t c.next.u (omega (arith, c.next-test.true, c.transitions-u-end.ensures)) c.requires.named
    (search rules) (λ k l. c.loop-class.invariant k (omega (arith, l, c.loop-class-test.false, c.places-class-end.ensures)))
