use Rattle.std.proofs.Common.{◌≡◌, ◌++◌, length, None, sym, refl, ap, ◌∙◌, inl, inr, arith, rules}
use Rattle.std.proofs.lemmas.Result.{err_from_is_err_and}
use Rattle.crews.specs.Sides.{across_from}
use Rattle.crews.specs.Counting.{Found}
use Rattle.crews.specs.Following.{unlike, overfull}
use Rattle.crews.specs.Benches.{crews_held, table_on}
use Rattle.crews.specs.declared.call.Call.TheVariants.{Follow}
use Rattle.crews.proofs.Following.{found_some, found_none, follow_apart, follow_full, some_answer, sum_answer, holds_answer, follow_steps}
use Rattle.crews.proofs.Steps.{not_ready_steps, sum_ready, holds_after}
use Rattle.crews.proofs.Tables.{Shows, holds_ends, shows_held}
use Rattle.crews.proofs.bench.Bench.follow.Given as given
use Rattle.crews.proofs.bench.Bench.follow.Goals as goal
use Rattle.crews.proofs.bench.Bench.follow.Goals.{After-total, then-total-room-via-then-total-room, then-total-room-via-else-total-room+then-total-room-2}

pub returns-in_err-side : goal.returns-in_err-side
returns-in_err-side g c =
    let b = c.args.self.now in
    let m = g.N.Net.meaning b.net in
    let s = c.args.side in
    let t = c.args.transition in
    let p = err_from_is_err_and c.from_residual.result c.from_residual.ensures.1 in
    rw (p.1, p.2) (not_ready_steps m b (Follow s t) s t (unlike m (crews_held m b) ++ overfull m (crews_held m b) s t) _ refl c.in_err-side.ensures)

pub returns-then-is_some : goal.returns-then-is_some
returns-then-is_some g c =
    let b = c.args.self.now in
    let (d, at) = found_some c.crewed.result c.difference.result (sym c.is_some.ensures ∙ c.if-is_some.true) c.difference.ensures in
    follow_apart (g.N.Net.meaning b.net) b (g.N.Net.lawful b.net) c.in_ok-side.ensures refl refl (shows_held b (search rules) (search rules)) c.crewed.ensures d at c.plain.result c.plain.ensures

-- the crews are level, and these are the tables on both sides
level : (g : given.Over) (c : After-total g) → Found c.crewed.result None
level g c = found_none c.crewed.result c.difference.result (sym c.is_some.ensures ∙ c.if-is_some.false) c.difference.ensures

across_is : (g : given.Over) (c : After-total g) → c.crew-other.result ≡ table_on c.args.self.now (across_from c.in_ok-side.side)
across_is g c = c.crew-other.ensures ∙ ap (table_on c.args.self.now) c.other-across.ensures

shown : (g : given.Over) (c : After-total g) → let b = c.args.self.now in Shows (g.N.Net.meaning b.net) b (crews_held (g.N.Net.meaning b.net) b)
shown g c = shows_held c.args.self.now (search rules) (search rules)

whole : (g : given.Over) (c : After-total g) → (length c.crew-crew.result.counts ≡ 128) × (length c.crew-other.result.counts ≡ 128)
whole g c = (search rules, search rules)

pub answering-answer-requires-clause-some : goal.answering-answer-requires-clause-some
answering-answer-requires-clause-some g c =
    let b = c.args.self.now in
    let k = (goal.at.answering-answer-requires-clause-some g c).After-total in
    some_answer (g.N.Net.meaning b.net) b (g.N.Net.lawful b.net) c.in_ok-side.ensures c.crew-crew.ensures (across_is g k) (shown g k) c.crewed.ensures (level g k) c.class_table-table.ensures

pub fire-requires-clause-fits : goal.fire-requires-clause-fits
fire-requires-clause-fits g c =
    let b = c.args.self.now in
    let k = (goal.at.fire-requires-clause-fits g c).After-total in
    let all = sum_ready (g.N.Net.meaning b.net) b (g.N.Net.lawful b.net) c.in_ok-side.ensures c.crew-crew.ensures (whole g k).0 in
    omega (arith, all, c.if-total-room.false, c.room.ensures, c.total.ensures, c.from-total.ensures)

pub fire-requires-2-clause-fits : goal.fire-requires-2-clause-fits
fire-requires-2-clause-fits g c =
    let b = c.args.self.now in
    let k = (goal.at.fire-requires-2-clause-fits g c).After-total in
    let all = sum_answer (g.N.Net.meaning b.net) b (g.N.Net.lawful b.net) c.in_ok-side.ensures c.crew-crew.ensures (across_is g k) (shown g k) c.crewed.ensures (level g k) c.class_table-table.ensures
    c.answering-answer.ensures (whole g k).1 in
    omega (arith, all, c.if-total-room-2.false, c.room-else-total-room.ensures, c.total.ensures, c.from-total.ensures)

pub replace-requires : goal.replace-requires
replace-requires g c =
    let b = c.args.self.now in
    let k = (goal.at.replace-requires g c).After-total in
    holds_ends _ _ _ (holds_after (g.N.Net.meaning b.net) b (g.N.Net.lawful b.net) c.in_ok-side.ensures c.crew-crew.ensures (shown g k) c.fire.new.self c.fire.ensures)

pub replace-requires-2 : goal.replace-requires-2
replace-requires-2 g c =
    let b = c.args.self.now in
    let k = (goal.at.replace-requires-2 g c).After-total in
    let held = holds_answer (g.N.Net.meaning b.net) b (g.N.Net.lawful b.net) c.in_ok-side.ensures c.crew-crew.ensures (across_is g k) (shown g k) c.crewed.ensures (level g k) c.class_table-table.ensures
    c.answering-answer.ensures c.fire-2.new.self c.fire-2.ensures in
    rw (c.replace.ensures.same) (holds_ends _ _ _ held)

pub returns : goal.returns
returns g c =
    let b = c.args.self.now in
    let m = g.N.Net.meaning b.net in
    let law = g.N.Net.lawful b.net in
    let k = (goal.at.returns g c).After-total in
    let all = sum_ready m b law c.in_ok-side.ensures c.crew-crew.ensures (whole g k).0 in
    follow_steps m b law c.in_ok-side.ensures c.crew-crew.ensures (across_is g k) (shown g k) c.crewed.ensures (level g k) c.class_table-table.ensures c.answering-answer.ensures
    c.replace.new.self c.replace-2.new.self c.fire.new.self c.fire-2.new.self c.replace.ensures (rw c.other-across.ensures at c.replace-2.ensures) c.fire.ensures c.fire-2.ensures
    (omega (arith, all, c.if-total-room.false, c.room.ensures, c.total.ensures, c.from-total.ensures))

pub returns-then-total-room : goal.returns-then-total-room
returns-then-total-room g c =
    let b = c.args.self.now in
    let k = (goal.at.returns-then-total-room g c).After-total in
    let full = follow_full (g.N.Net.meaning b.net) b (g.N.Net.lawful b.net) c.in_ok-side.ensures c.crew-crew.ensures (across_is g k) (shown g k) c.crewed.ensures (level g k)
    c.plain-then-total-room.result c.plain-then-total-room.ensures (whole g k).0 in
    elim c.then-total-room.branch [
      | then-total-room-via-then-total-room w ↦ full (inl (omega (arith, w.if-total-room.true, c.room.ensures, c.total.ensures, c.from-total.ensures)))
      | then-total-room-via-else-total-room+then-total-room-2 w ↦ full (inr (omega (arith, w.if-total-room-2.true, w.room-else-total-room.ensures, c.total.ensures, c.from-total.ensures)))
    ]
