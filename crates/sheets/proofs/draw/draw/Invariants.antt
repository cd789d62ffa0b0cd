use Rattle.sheets.specs.Drawing.{Draws}
use Rattle.sheets.proofs.draw.draw.Given as goal

abbrev pub invariant-loop-target : goal.invariant-loop-target
invariant-loop-target l = Draws l.blocks.lines l.this l.target-index l.line
