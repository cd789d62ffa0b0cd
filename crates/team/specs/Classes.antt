-- Classes of places: who is bisimilar to whom, and how many tokens stand in a class.
use Rattle.std.specs.Prelude.{◌≡◌, ℕ, ◌<◌, ◌≤◌, Bool, cond, ◌↔◌, List, Decides, slice_index}
use Rattle.net.specs.Meaning.{Meaning}
use Rattle.team.specs.Below.{tally}
use Rattle.team.specs.Relations.{Relation}
use Rattle.team.specs.Markings.{held, EvenBy}
use Rattle.team.specs.Teams.{Bisimilar}
use Rattle.team.specs.Stages.{together, rounds, group_at}

-- p and q are together at the last stage
abbrev pub alike : Meaning → Relation
alike m = together m (rounds m)

-- a class is named by its lowest place
abbrev pub class_of : Meaning → ℕ → ℕ
class_of m = group_at m (rounds m)

-- c is the lowest place that is bisimilar to p
pub record Lowest (m : Meaning) (p c : ℕ) : Type 0 where
  pub most : c ≤ p
  pub near : Bisimilar m c p
  pub below : (q : ℕ) → q < c → Bisimilar m q p → ⊥

-- A list has the class of each place: equal entries at bisimilar places and at no others, each the lowest such place.
pub record ClassedBy (m : Meaning) (cs : List ℕ) : Type 0 where
  pub same_class : (p q : ℕ) → p < m.places → q < m.places → (slice_index cs p ≡ slice_index cs q) ↔ Bisimilar m p q
  pub lowest : (p : ℕ) → p < m.places → Lowest m p (slice_index cs p)

-- how many tokens of xs are in the class of c
abbrev pub class_count : Meaning → List ℕ → ℕ → ℕ
class_count m xs c = held m.places (alike m) xs c

-- each class holds equally many tokens of both
abbrev pub Even : Meaning → List ℕ → List ℕ → Type 0
Even m = EvenBy m.places (alike m)

-- k tokens of xs are on the places that are bisimilar to c, whatever test tells these
pub record InClass (m : Meaning) (xs : List ℕ) (c k : ℕ) : Type 0 where
  pub test : ℕ → Bool
  pub tells : (q : ℕ) → q < m.places → Decides (test q) (Bisimilar m c q)
  pub counted : k ≡ tally m.places (λ q. cond (test q) (slice_index xs q) 0)
