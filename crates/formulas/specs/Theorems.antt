-- What is proved of sheets, for every net.
use Rattle.std.specs.Prelude.{◌≡◌, ◌↔◌, ℕ, ◌<◌, true, not, ◌&&◌, IsTrue, List, length}
use Rattle.net.specs.Meaning.{Meaning, transition, count_of, total_of}
use Rattle.team.specs.Markings.{held}
use Rattle.team.specs.Teams.{Bisimilar}
use Rattle.formulas.specs.declared.kind.Kind.TheVariants.{Everywhere, Negation, Conjunction, Modal}
use Rattle.formulas.specs.declared.line.Line.{Line}
use Rattle.formulas.specs.Kind.{number_of}
use Rattle.formulas.specs.Lines.{pair_at, line_at, LawfulSheet}
use Rattle.formulas.specs.Truths.{Truths, holds}

-- t is a transition of p with the label and the total of the line, and puts for each used pair that count of tokens where that line holds
pub record Doing (m : Meaning) (T : Truths) (l : Line) (p t : ℕ) : Type 0 where
  pub from : (transition m t).place ≡ p
  pub label : (transition m t).label ≡ l.label
  pub total : total_of (transition m t) ≡ l.total
  pub each : (k : ℕ) → k < l.used → held m.places T (transition m t).puts (pair_at l k).line ≡ (pair_at l k).count

-- some transition of p does what the line says
abbrev pub Done : Meaning → Truths → Line → ℕ → Type 0
Done m T l p = (t : ℕ) × (t < count_of m) × Doing m T l p t

-- Line i holds at p as its kind says.
pub record HoldsByKind (m : Meaning) (sheet : List Line) (i p : ℕ) : Type 0 where
  pub everywhere : (line_at sheet i).kind ≡ number_of Everywhere → holds m sheet i p ≡ true
  pub negation : (line_at sheet i).kind ≡ number_of Negation → holds m sheet i p ≡ not (holds m sheet (pair_at (line_at sheet i) 0).line p)
  pub conjunction : (line_at sheet i).kind ≡ number_of Conjunction
      → holds m sheet i p ≡ (holds m sheet (pair_at (line_at sheet i) 0).line p && holds m sheet (pair_at (line_at sheet i) 1).line p)
  pub modal : (line_at sheet i).kind ≡ number_of Modal → (IsTrue (holds m sheet i p) ↔ Done m (holds m sheet) (line_at sheet i) p)

abbrev pub LinesHold : Type 0
LinesHold = (m : Meaning) (sheet : List Line) → LawfulSheet sheet → (i p : ℕ) → i < length sheet → p < m.places → HoldsByKind m sheet i p

-- a line holds at both or at neither of two bisimilar places
abbrev pub LinesRespect : Type 0
LinesRespect =
    (m : Meaning) (sheet : List Line) → LawfulSheet sheet → (i p q : ℕ) → i < length sheet → Bisimilar m p q → holds m sheet i p ≡ holds m sheet i q
