use Rattle.std.proofs.Common.{◌≡◌, ◌<◌, ◌≤◌, get_or, arith, rules}
use Rattle.sheets.specs.Cuts.{MovedTo}
use Rattle.sheets.proofs.Made.{made_each}
use Rattle.sheets.proofs.cut.Cut.part.Goals as goal

-- In the inner λ the name c is bound anew, so that the search reads the one call and not all 128.
pub returns-clause-within : goal.returns-clause-within
returns-clause-within c = λ q w.
    made_each (λ k y. k < c.args.self.now.snapshot.now.places → MovedTo c.args.self.now k y) c.from_fn.ensures.items
    (λ k y c r. search rules) q 0 (omega (arith, c.args.self.now.snapshot.now.sound.few_places)) w

pub returns-clause-beyond : goal.returns-clause-beyond
returns-clause-beyond c = λ q w l.
    made_each (λ k y. c.args.self.now.snapshot.now.places ≤ k → y ≡ get_or c.args.self.now.blocks.now.lines k 0) c.from_fn.ensures.items
    (λ k y c r. search rules) q 0 l w
