use Rattle.std.proofs.Common.{◌<◌, arith, rules}
use Rattle.std.proofs.lemmas.List.{get_or_read}
use Rattle.std.proofs.lemmas.Iterator.{YieldsList-from_slice}
use Rattle.std.proofs.lemmas.Iterator.Adapters.{serves_from_places}
use Rattle.net.specs.Limits.{most_transitions}
use Rattle.sheets.proofs.does.answers.Goals as goal

pub any-requires-clause-callable : goal.any-requires-clause-callable
any-requires-clause-callable g c =
    serves_from_places (YieldsList-from_slice c.moves_of.result.now cc) (λ x q k. search rules)
    (λ x k w e.
    let below : x.now < most_transitions = omega (arith, get_or_read c.moves_of.result.now k x.now w e 0, c.moves_of.ensures.known k w, c.args.snapshot.now.sound.few_moves) in
    search (rules, below))
