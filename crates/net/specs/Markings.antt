-- Markings: the tokens of a crew, a list of counts with one entry a place.
use Rattle.std.specs.Prelude.{ℕ, ◌+◌, ◌-◌, List, [], ◌∷◌, slice_index, slice_set}
use Rattle.net.specs.Meaning.{Meaning, transition}

-- k tokens more on the place p, and k fewer
abbrev pub more : List ℕ → ℕ → ℕ → List ℕ
more xs p k = slice_set xs p (slice_index xs p + k)

abbrev pub fewer : List ℕ → ℕ → ℕ → List ℕ
fewer xs p k = slice_set xs p (slice_index xs p - k)

-- two markings added, place by place
abbrev pub plus : List ℕ → List ℕ → List ℕ
plus [] ys = ys
plus (x ∷ xs) [] = x ∷ xs
plus (x ∷ xs) (y ∷ ys) = (x + y) ∷ plus xs ys

-- what transition t makes of a marking: one token is taken from its place, and then its tokens are put down
abbrev pub fired : Meaning → ℕ → List ℕ → List ℕ
fired m t xs = plus (fewer xs (transition m t).place 1) (transition m t).puts
