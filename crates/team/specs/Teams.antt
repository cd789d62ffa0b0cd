-- Team bisimulation.
use Rattle.std.specs.Prelude.{◌≡◌, ℕ, ◌<◌, true, List}
use Rattle.net.specs.Meaning.{Meaning, transition, count_of}
use Rattle.team.specs.Relations.{Relation}
use Rattle.team.specs.Closure.{Closure}

-- Some transition of the place q matches t: it has the label of t, and P relates what the two put down.
pub record Match (m : Meaning) (P : List ℕ → List ℕ → Type 0) (t q : ℕ) : Type 0 where
  pub by : ℕ
  pub known : by < count_of m
  pub from : (transition m by).place ≡ q
  pub label : (transition m by).label ≡ (transition m t).label
  pub puts : P (transition m t).puts (transition m by).puts

-- each transition of p is matched by one of q
abbrev pub Matched : Meaning → (List ℕ → List ℕ → Type 0) → ℕ → ℕ → Type 0
Matched m P p q = (t : ℕ) → t < count_of m → (transition m t).place ≡ p → Match m P t q

-- Related places match each other's transitions, with put-down tokens that the closure of the relation itself relates.
pub record TeamBisimulation (m : Meaning) (R : Relation) : Type 0 where
  pub left_known : (p q : ℕ) → R p q ≡ true → p < m.places
  pub right_known : (p q : ℕ) → R p q ≡ true → q < m.places
  pub forth : (p q : ℕ) → R p q ≡ true → Matched m (Closure m.places R) p q
  pub back : (p q : ℕ) → R p q ≡ true → Matched m (λ ys xs. Closure m.places R xs ys) q p

-- some team bisimulation relates the two places
abbrev pub Bisimilar : Meaning → ℕ → ℕ → Type 0
Bisimilar m p q = (R : Relation) × TeamBisimulation m R × (R p q ≡ true)

-- the closure of some team bisimulation relates the two markings
abbrev pub Paired : Meaning → List ℕ → List ℕ → Type 0
Paired m xs ys = (R : Relation) × TeamBisimulation m R × Closure m.places R xs ys
