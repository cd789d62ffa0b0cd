use Rattle.std.proofs.Common.{ap, length, arith, length-append}
use Rattle.report.proofs.SwapLines.{swap_lines_step}
use Rattle.report.proofs.lines.put_swaps.Goals as goal

pub put_swap-requires : goal.put_swap-requires
put_swap-requires c =
    let whole = ap length c.loop-swap.invariant in
    let step = swap_lines_step c.args.list.now c.loop-swap.swap-index (record { left = 0; right = 0; count = 0 }) c.loop-swap-test.true in
    grind (arith, length-append, whole, step)
