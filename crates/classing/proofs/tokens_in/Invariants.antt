use Rattle.std.proofs.Common.{◌≡◌, ◌*◌, ◌≤◌, cond, eqb, get_or}
use Rattle.net.specs.Meaning.{transition, tokens_on}
use Rattle.team.specs.Below.{tally}
use Rattle.classing.proofs.tokens_in.Given as goal

abbrev pub invariant-loop-p : goal.invariant-loop-p
invariant-loop-p g l =
    (l.sum ≡ tally l.p (λ p. cond (eqb (get_or l.table.classes p 0) l.class) (tokens_on (transition (g.N.Net.meaning l.net) l.t) p) 0))
    × (l.sum ≤ 255 * l.p)
