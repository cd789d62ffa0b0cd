use Rattle.std.proofs.Common.{◌≡◌, ℕ, ◌+◌, ◌<◌, ◌≤◌, false, get_or, sym, ◌∙◌, arith, below_more}
use Rattle.team.specs.Stages.{stable, rounds}
use Rattle.team.proofs.Rounds.{rounds_left, rounds_most, rounds_here}
use Rattle.team.proofs.Tables.{Holds, holds_none}
use Rattle.team.proofs.Classes.{holds_classes}
use Rattle.classing.specs.Staying.{LowestStay}
use Rattle.classing.proofs.Turning.{holds_low, holds_more, turn_tells}
use Rattle.classing.proofs.refine.Partition.of.Given as given
use Rattle.classing.proofs.refine.Partition.of.Goals as goal

pub stages-init : goal.stages-init
stages-init g c =
    (holds_none (g.N.Net.meaning c.args.net.now) c.start-table.result.classes (λ p _. c.start-table.ensures p), λ i l. absurd (omega arith))

pub refine-requires : goal.refine-requires
refine-requires g c =
    let m = g.N.Net.meaning c.args.net.now in
    λ q l. holds_low m c.stages.rounds c.stages.table.classes c.stages.invariant.0 q (omega (arith, c.of-snapshot.ensures.all_places))

module _ (g : given.Over) (c : goal.Else-agrees g) where
  lowest_each : (p : ℕ) → p < (g.N.Net.meaning c.args.net.now).places
      → LowestStay c.of-snapshot.result c.describe_all.new.profiles c.stages.table.classes p (get_or c.refine.new.next.classes p 0)
  lowest_each p l = c.refine.ensures p (omega (arith, c.of-snapshot.ensures.all_places))

  next_holds : Holds (g.N.Net.meaning c.args.net.now) (c.stages.rounds + 1) c.refine.new.next.classes
  next_holds =
      holds_more (g.N.Net.meaning c.args.net.now) c.of-snapshot.result c.of-snapshot.ensures (g.N.Net.lawful c.args.net.now).few_places c.stages.rounds
      c.stages.table.classes c.refine.new.next.classes c.describe_all.new.profiles (omega arith) c.stages.invariant.0 c.describe_all.ensures lowest_each

  unstable : (i : ℕ) → i < c.stages.rounds + 1 → stable (g.N.Net.meaning c.args.net.now) i ≡ false
  unstable =
      let tells = turn_tells (g.N.Net.meaning c.args.net.now) c.of-snapshot.result c.of-snapshot.ensures (g.N.Net.lawful c.args.net.now).few_places c.stages.rounds
      c.stages.table.classes c.refine.new.next.classes c.describe_all.new.profiles (omega arith) c.stages.invariant.0 c.describe_all.ensures lowest_each
      c.of-snapshot.result.places c.agrees.result c.of-snapshot.ensures.all_places c.agrees.ensures in
      below_more _ _ c.stages.invariant.1 (sym tells ∙ c.if-agrees.false)

  few : c.stages.rounds + 1 ≤ (g.N.Net.meaning c.args.net.now).places
  few =
      let m = g.N.Net.meaning c.args.net.now in
      omega (arith, rounds_left m (c.stages.rounds + 1) unstable, rounds_most m)

pub overflow_add-rounds : goal.overflow_add-rounds
overflow_add-rounds g c = let small = (g.N.Net.lawful c.args.net.now).few_places in omega (arith, few g c)

pub stages-smaller : goal.stages-smaller
stages-smaller g c = omega (arith, few g c)

pub stages-preserved : goal.stages-preserved
stages-preserved g c = (next_holds g c, unstable g c)

pub returns-then-agrees : goal.returns-then-agrees
returns-then-agrees g c =
    let m = g.N.Net.meaning c.args.net.now in
    let law = g.N.Net.lawful c.args.net.now in
    let tells = turn_tells m c.of-snapshot.result c.of-snapshot.ensures law.few_places c.stages.rounds
    c.stages.table.classes c.refine.new.next.classes c.describe_all.new.profiles (omega arith) c.stages.invariant.0 c.describe_all.ensures
    (λ p l. c.refine.ensures p (omega (arith, c.of-snapshot.ensures.all_places)))
    c.of-snapshot.result.places c.agrees.result c.of-snapshot.ensures.all_places c.agrees.ensures in
    let last : c.stages.rounds ≡ rounds m = rounds_here m c.stages.rounds c.stages.invariant.1 (sym tells ∙ c.if-agrees.true) in
    let holds : Holds m (rounds m) c.stages.table.classes = rw (← last) c.stages.invariant.0 in
    record { classes = holds_classes m law c.stages.table.classes holds; named = holds; rounds = last }
