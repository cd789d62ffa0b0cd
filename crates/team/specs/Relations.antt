-- Relations on places.
use Rattle.std.specs.Prelude.{◌≡◌, ℕ, ◌<◌, Bool, true, ◌&&◌, nat_lt}

-- A relation on places: a set of pairs, told by a test.
abbrev pub Relation : Type 0
Relation = ℕ → ℕ → Bool

-- R lies in S: S holds wherever R does
abbrev pub LiesIn : Relation → Relation → Type 0
LiesIn R S = (p q : ℕ) → R p q ≡ true → S p q ≡ true

-- R and S hold of the same pairs among n places
abbrev pub SameAmong : ℕ → Relation → Relation → Type 0
SameAmong n R S = (p q : ℕ) → p < n → q < n → R p q ≡ S p q

-- the pairs of R among n places
abbrev pub among : ℕ → Relation → Relation
among n R p q = nat_lt p n && (nat_lt q n && R p q)

-- an equivalence on n places
pub record EquivalenceOn (n : ℕ) (B : ℕ → ℕ → Type 0) : Type 0 where
  pub reflexive : (p : ℕ) → p < n → B p p
  pub symmetric : (p q : ℕ) → B p q → B q p
  pub transitive : (p q r : ℕ) → B p q → B q r → B p r
