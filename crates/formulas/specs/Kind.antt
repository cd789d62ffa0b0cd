-- The kinds of lines, and their numbers.
use Rattle.std.specs.Prelude.{◌≡◌, ℕ, ◌<◌, Result, MatchResult}
use Rattle.formulas.specs.declared.kind.Kind.{Kind}
use Rattle.formulas.specs.declared.kind.Kind.TheVariants.{Everywhere, Negation, Conjunction, Modal}
use Rattle.formulas.specs.declared.kind.UnknownKind.{UnknownKind}

-- the number that stands in a line of the kind
abbrev pub number_of : Kind → ℕ
number_of Everywhere = 0
number_of Negation = 1
number_of Conjunction = 2
number_of Modal = 3

-- the kind with this number, or an error with the number, which is above those of the kinds
abbrev pub Decodes : ℕ → Result Kind UnknownKind → Type 0
Decodes number r = MatchResult r (λ kind. number_of kind ≡ number) (λ e. (e.0 ≡ number) × (3 < number))
