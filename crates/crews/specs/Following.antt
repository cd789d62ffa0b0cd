-- Following: a transition fires on one side, and one that fits it across.
use Rattle.std.specs.Prelude.{◌≡◌, ℕ, ◌<◌, Bool, true, ◌&&◌, ◌⊎◌, List, [], ◌∷◌, sum, ◌==◌, nat_lt, slice_index}
use Rattle.net.specs.Meaning.{Meaning, transition, count_of}
use Rattle.net.specs.Limits.{most_tokens}
use Rattle.net.specs.Markings.{fired}
use Rattle.net.specs.Refusals.{Row, when}
use Rattle.net.specs.declared.refusal.Refusal.TheVariants.{CrewsApart, TooManyTokens}
use Rattle.team.specs.Markings.{EvenBy}
use Rattle.team.specs.Tables.{same}
use Rattle.team.specs.Teams.{Paired}
use Rattle.team.specs.Follow.{Fits}
use Rattle.crews.specs.Crews.{Crews, on_side, across, both}

-- the crews are APART: no team bisimulation pairs them
abbrev pub unlike : Meaning → Crews → List Row
unlike m c = when CrewsApart (¬ (Paired m c.left c.right)) ∷ []

-- a crew would then hold more tokens than a crew may: the one on side s, or the one across with a transition that fits
abbrev pub overfull : Meaning → Crews → ℕ → ℕ → List Row
overfull m c s t =
    when TooManyTokens ((most_tokens < sum (fired m t (on_side c s))) ⊎ ((u : ℕ) × Fits m t u (across c s) × (most_tokens < sum (fired m u (across c s))))) ∷ []

-- the crews after t has fired on side s, and u across
abbrev pub followed : Meaning → Crews → ℕ → ℕ → ℕ → Crews
followed m c s t u = both s (fired m t (on_side c s)) (fired m u (across c s))

-- u answers t: it fits, and the crews are paired again
pub record AnsweredBy (m : Meaning) (c : Crews) (s t u : ℕ) : Type 0 where
  pub fits : Fits m t u (across c s)
  pub paired : Paired m (followed m c s t u).left (followed m c s t u).right

-- u fits t, told by a list of classes and the table of the crew across
pub record FitsBy (m : Meaning) (classes table : List ℕ) (t u : ℕ) : Type 0 where
  pub known : u < count_of m
  pub label : (transition m u).label ≡ (transition m t).label
  pub near : same classes (transition m t).place (transition m u).place ≡ true
  pub token : 0 < slice_index table (transition m u).place
  pub puts : EvenBy m.places (same classes) (transition m t).puts (transition m u).puts

-- u has the label of t, and its place is of the same class and holds a token
abbrev pub candidate : Meaning → List ℕ → List ℕ → ℕ → ℕ → Bool
candidate m classes table t u =
    ((transition m u).label == (transition m t).label)
    && (same classes (transition m t).place (transition m u).place
    && nat_lt 0 (slice_index table (transition m u).place))
