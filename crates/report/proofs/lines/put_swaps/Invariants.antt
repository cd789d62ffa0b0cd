use Rattle.std.proofs.Common.{◌≡◌, ◌++◌, drop}
use Rattle.report.specs.Text.{swap_lines}
use Rattle.report.proofs.lines.put_swaps.Given as goal

-- the lines so far, with those that are left, are those of the list
abbrev pub invariant-loop-swap : goal.invariant-loop-swap
invariant-loop-swap l = l.page.bytes ++ swap_lines (drop l.swap-index l.list) ≡ l.initial.page.bytes ++ swap_lines l.list
