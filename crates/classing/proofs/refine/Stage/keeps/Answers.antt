use Rattle.std.proofs.Common.{◌≡◌, refl, sym, ◌∙◌, arith}
use Rattle.std.proofs.lemmas.Bool.{both_ways}
use Rattle.std.proofs.lemmas.Slice.Eq.{slice_eq-Decides}
use Rattle.classing.specs.Staying.{profiles_at}
use Rattle.classing.proofs.Equal.{equal_decides, covers_decides}
use Rattle.classing.proofs.Staying.{covers_equal}
use Rattle.classing.proofs.refine.Stage.keeps.Goals as goal

pub returns-then-eq : goal.returns-then-eq
returns-then-eq c =
    let s = c.args.self.now.snapshot.now in
    let xs = c.args.self.now.profiles.now in
    let e : profiles_at s xs c.args.p ≡ profiles_at s xs c.args.q =
    sym c.profiles_of.ensures ∙ (slice_eq-Decides equal_decides c.profiles_of.result.now c.profiles_of-2.result.now c.eq.result c.eq.ensures).0 c.if-eq.true ∙ c.profiles_of-2.ensures in (
      λ _. record { before = omega arith; forth = covers_equal s xs c.args.p c.args.q e; back = covers_equal s xs c.args.q c.args.p (sym e) },
      λ _. refl,
    )

pub returns-then-covers : goal.returns-then-covers
returns-then-covers c =
    let s = c.args.self.now.snapshot.now in
    let xs = c.args.self.now.profiles.now in
    let forth = covers_decides s xs c.args.p c.args.q in
    let back = covers_decides s xs c.args.q c.args.p in (
      λ r. record { before = omega arith; forth = forth.0 (sym c.covers.ensures ∙ c.if-covers.true); back = back.0 (sym c.covers-then-covers.ensures ∙ r) },
      λ y. c.covers-then-covers.ensures ∙ back.1 y.back,
    )

pub returns-else-covers : goal.returns-else-covers
returns-else-covers c =
    let forth = covers_decides c.args.self.now.snapshot.now c.args.self.now.profiles.now c.args.p c.args.q in (
      λ r. absurd (both_ways c.covers.result c.if-covers.false r),
      λ y. c.covers.ensures ∙ forth.1 y.forth,
    )
