use Rattle.std.proofs.Common.{length, sym, ap, ◌∙◌, inl, inr}
use Rattle.std.proofs.lemmas.Bool.{cases_lt}
use Rattle.net.specs.Meaning.{tokens_on}
use Rattle.net.specs.Limits.{most_total}
use Rattle.classing.specs.Targets.{times}
use Rattle.classing.specs.Snapshots.{no_move}
use Rattle.classing.specs.declared.snapshot.Move.{Move}
use Rattle.class_tests.specs.ListingLaws.{listed_past, listed_far, listed_tokens}
use Rattle.class_tests.proofs.listed.ListedNet.tokens.Goals as goal

pub returns-then-p-self : goal.returns-then-p-self
returns-then-p-self c =
    let x = c.args.self.now in
    sym (elim (cases_lt c.args.t (length x.rows.items)) [
      | inl l ↦ listed_far x.places x.rows.items c.args.t c.args.p l c.if-p-self.true
      | inr l ↦ ap (λ m. tokens_on m c.args.p) (listed_past x.places x.rows.items c.args.t l)
    ])

pub returns-in-Some : goal.returns-in-Some
returns-in-Some c =
    let x = c.args.self.now in
    let (l, row) = rw c.deref.ensures.0 at c.in-Some.ensures.lookup.3 in
    c.times_in.ensures ∙ ap (λ (k : Move). times most_total k.targets c.args.p) (row no_move) ∙ sym (listed_tokens x.places x.rows.items c.args.t c.args.p l c.if-p-self.false)
