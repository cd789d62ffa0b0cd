use Rattle.std.proofs.Common.{◌≡◌, ℕ, cond, eqb, get_or, sym, ap, ◌∙◌, arith, eq-eqb}
use Rattle.std.proofs.lemmas.Bool.{cond-true, cond-false, ne_eqb}
use Rattle.net.specs.Meaning.{transition, tokens_on}
use Rattle.team.specs.Below.{tally}
use Rattle.team.proofs.Sums.{tally_next}
use Rattle.classing.proofs.Tokens.{class_tokens}
use Rattle.classing.proofs.tokens_in.Goals as goal
use Rattle.classing.proofs.tokens_in.Goals.{then-class_of-class, else-class_of-class}

pub loop-p-preserved : goal.loop-p-preserved
loop-p-preserved g c =
    let F : ℕ → ℕ = λ p. cond (eqb (get_or c.args.table.now.classes p 0) c.args.class) (tokens_on (transition (g.N.Net.meaning c.args.net.now) c.args.t) p) 0 in
    let more = tally_next c.loop-p.p F in
    elim c.if-class_of-class.branch [
      | then-class_of-class w ↦
          let same = eq-eqb _ _ (sym c.class_of.ensures ∙ w.if-class_of-class.true) in
          let here : F c.loop-p.p ≡ w.tokens.result = cond-true _ _ _ same ∙ sym w.tokens.ensures in
          (omega (arith, c.loop-p.invariant.0, more, here, w.from-sum.ensures, w.sum-is), omega (arith, c.loop-p.invariant.1, w.from-sum.ensures, w.sum-is))
      | else-class_of-class w ↦
          let other = ne_eqb _ _ (λ e. w.if-class_of-class.false (c.class_of.ensures ∙ e)) in
          let none : F c.loop-p.p ≡ 0 = cond-false _ _ _ other in
          (omega (arith, c.loop-p.invariant.0, more, none, w.sum-is), omega (arith, c.loop-p.invariant.1, w.sum-is))
    ]

pub returns : goal.returns
returns g c =
    let m = g.N.Net.meaning c.args.net.now in
    let all : c.loop-p.p ≡ m.places = omega arith in
    let sum : c.loop-p.sum ≡ tally m.places (λ p. cond (eqb (get_or c.args.table.now.classes p 0) c.args.class) (tokens_on (transition m c.args.t) p) 0) =
    c.loop-p.invariant.0 ∙ ap (λ n. tally n (λ p. cond (eqb (get_or c.args.table.now.classes p 0) c.args.class) (tokens_on (transition m c.args.t) p) 0)) all in
    record {
      counted = sum;
      in_class = λ classed k l e. sum ∙ class_tokens m (g.N.Net.lawful c.args.net.now) c.args.table.now.classes classed (transition m c.args.t).puts k c.args.class l e;
    }
