-- Partition refinement by stages: at stage 0 all places are together, and each stage parts those that differ by the one before.
use Rattle.std.specs.Prelude.{ℕ, zero, suc, Bool, true, not, ◌&&◌, ◌||◌, List, ◌==◌, nat_eq}
use Rattle.std.specs.Bool.{beq}
use Rattle.net.specs.Meaning.{Meaning, transition, count_of}
use Rattle.team.specs.Below.{every, some, first}
use Rattle.team.specs.Relations.{Relation, SameAmong}
use Rattle.team.specs.Markings.{held}

-- equally many tokens of both in each group of E
abbrev pub evenly : ℕ → Relation → List ℕ → List ℕ → Bool
evenly n E xs ys = every n (λ c. nat_eq (held n E xs c) (held n E ys c))

-- u is a transition of q with the label of t, and puts equally many tokens into each group
abbrev pub matches : Meaning → Relation → ℕ → ℕ → ℕ → Bool
matches m E t q u =
    let even = evenly m.places E (transition m t).puts (transition m u).puts in
    ((transition m u).place == q) && ((transition m u).label == (transition m t).label && even)

-- some transition of q matches t
abbrev pub matched : Meaning → Relation → ℕ → ℕ → Bool
matched m E t q = some (count_of m) (matches m E t q)

-- if t is a transition of p, one of q matches it
abbrev pub answered : Meaning → Relation → ℕ → ℕ → ℕ → Bool
answered m E p q t = let a = matched m E t q in not ((transition m t).place == p) || a

-- each transition of p is matched by one of q
abbrev pub covered : Meaning → Relation → ℕ → ℕ → Bool
covered m E p q = every (count_of m) (answered m E p q)

-- p and q were together, and each transition of either is matched by one of the other
abbrev pub finer : Meaning → Relation → Relation
finer m E p q =
    let forth = covered m E p q in
    let back = covered m E q p in
    E p q && (forth && back)

-- p and q are together at stage k
abbrev pub together : Meaning → ℕ → Relation
together m zero p q = true
together m (suc k) p q = finer m (together m k) p q

-- stage k and the next agree on the places of the net, and the test for it
abbrev pub Stable : Meaning → ℕ → Type 0
Stable m k = SameAmong m.places (together m k) (together m (suc k))

abbrev pub stable : Meaning → ℕ → Bool
stable m k = every m.places (λ p. every m.places (λ q. beq (together m k p q) (together m (suc k) p q)))

-- the lowest stage that agrees with the next
abbrev pub rounds : Meaning → ℕ
rounds m = first m.places (stable m)

-- the lowest place of p's group at stage k
abbrev pub group_at : Meaning → ℕ → ℕ → ℕ
group_at m k p = first p (λ q. together m k q p)
