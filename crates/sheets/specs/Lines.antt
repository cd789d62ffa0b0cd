-- The lines of a sheet that are not modal.
use Rattle.std.specs.Prelude.{ℕ, [], ◌∷◌}
use Rattle.formulas.specs.Kind.{number_of}
use Rattle.formulas.specs.Lines.{no_pair}
use Rattle.formulas.specs.declared.kind.Kind.{Kind}
use Rattle.formulas.specs.declared.kind.Kind.TheVariants.{Everywhere, Negation, Conjunction}
use Rattle.formulas.specs.declared.line.Line.{Line}
use Rattle.formulas.specs.declared.line.Pair.{Pair}

-- a line that does no more than name the lines of two pairs
abbrev pub plain_line : Kind → Pair → Pair → Line
plain_line kind x y = record { kind = number_of kind; label = 0; total = 0; used = 0; pairs = x ∷ y ∷ no_pair ∷ no_pair ∷ [] }

abbrev pub naming : ℕ → Pair
naming a = record { line = a; count = 0 }

-- holds everywhere
abbrev pub everywhere : Line
everywhere = plain_line Everywhere no_pair no_pair

-- holds where the line a does not
abbrev pub negated : ℕ → Line
negated a = plain_line Negation (naming a) no_pair

-- holds where the lines a and b both do
abbrev pub joint : ℕ → ℕ → Line
joint a b = plain_line Conjunction (naming a) (naming b)
