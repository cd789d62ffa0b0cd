-- A transition across that does what a transition did.
use Rattle.std.specs.Prelude.{◌≡◌, ℕ, ◌<◌, List}
use Rattle.net.specs.Meaning.{Meaning, transition, count_of}
use Rattle.team.specs.Markings.{Enabled}
use Rattle.team.specs.Teams.{Bisimilar}
use Rattle.team.specs.Classes.{Even}

-- u fits t at the marking ys: same label, a bisimilar place that holds a token, and equally many tokens put into each class
pub record Fits (m : Meaning) (t u : ℕ) (ys : List ℕ) : Type 0 where
  pub known : u < count_of m
  pub label : (transition m u).label ≡ (transition m t).label
  pub near : Bisimilar m (transition m t).place (transition m u).place
  pub token : Enabled m u ys
  pub puts : Even m (transition m t).puts (transition m u).puts
