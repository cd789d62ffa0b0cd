-- What a lawful line keeps to.
use Rattle.std.proofs.Common.{ℕ, ◌≤◌, arith}
use Rattle.std.proofs.lemmas.Bool.Decides.{nat_tests}
use Rattle.net.specs.Limits.{most_total}
use Rattle.formulas.specs.declared.line.Line.{Line}
use Rattle.formulas.specs.Lines.{LawfulLine}

pub lawful_used : (i : ℕ) (l : Line) → LawfulLine i l → l.used ≤ most_total
lawful_used i l law = let few = law.head.few_used in grind (arith, nat_tests)
