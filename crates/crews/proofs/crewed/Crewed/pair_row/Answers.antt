use Rattle.std.proofs.Common.{arith, rules}
use Rattle.crews.proofs.RowCells.{column_small, entry_room, row_kept, row_pushed}
use Rattle.crews.proofs.crewed.Crewed.pair_row.Goals as goal
use Rattle.crews.proofs.crewed.Crewed.pair_row.Goals.{then-k-gt0, else-k-gt0}

pub overflow_sub-self : goal.overflow_sub-self
overflow_sub-self c = column_small c.args.self.now c.args.p c.loop-q.q _ _ _ _ c.requires.row c.loop-q-test.true c.loop-q.invariant

pub push-requires : goal.push-requires
push-requires c =
    let room = entry_room c.args.self.now c.args.p c.loop-q.q _ _ _ _ c.requires.row c.loop-q-test.true c.loop-q.invariant c.cell-k.result c.cell-k.ensures c.requires.begun c.if-k-gt0.true in
    (search rules, omega (arith, room, c.args.self.now.few))

pub loop-q-preserved : goal.loop-q-preserved
loop-q-preserved c =
    elim c.if-k-gt0.branch [
      | then-k-gt0 w ↦ rw (w.list-is, w.push.ensures.items)
          (row_pushed c.args.self.now c.args.p c.loop-q.q _ _ _ _ c.requires.row c.loop-q-test.true c.loop-q.invariant c.cell-k.result c.cell-k.ensures (search rules) w.if-k-gt0.true)
      | else-k-gt0 w ↦ rw (w.list-is)
          (row_kept c.args.self.now c.args.p c.loop-q.q _ _ _ _ c.requires.row c.loop-q-test.true c.loop-q.invariant c.cell-k.result c.cell-k.ensures (search rules) w.if-k-gt0.false)
    ]
