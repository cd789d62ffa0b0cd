-- Markings: how many tokens each place has, a list with one entry a place.
use Rattle.std.specs.Prelude.{◌≡◌, ℕ, ◌<◌, cond, List, length, slice_index}
use Rattle.net.specs.Meaning.{Meaning, transition}
use Rattle.net.specs.Markings.{more, fewer}
use Rattle.team.specs.Below.{tally}
use Rattle.team.specs.Relations.{Relation}

-- xs has an entry for each place of the net
abbrev pub MarkingOf : Meaning → List ℕ → Type 0
MarkingOf m xs = length xs ≡ m.places

-- one token more on p, and one less
abbrev pub token_more : ℕ → List ℕ → List ℕ
token_more p xs = more xs p 1

abbrev pub token_less : ℕ → List ℕ → List ℕ
token_less p xs = fewer xs p 1

-- the place of t has a token
abbrev pub Enabled : Meaning → ℕ → List ℕ → Type 0
Enabled m t xs = 0 < slice_index xs (transition m t).place

-- how many tokens of xs are on the places, of n, that E relates to c
abbrev pub held : ℕ → Relation → List ℕ → ℕ → ℕ
held n E xs c = tally n (λ i. cond (E c i) (slice_index xs i) 0)

-- equally many tokens of both in each group of E
abbrev pub EvenBy : ℕ → Relation → List ℕ → List ℕ → Type 0
EvenBy n E xs ys = (c : ℕ) → c < n → held n E xs c ≡ held n E ys c
