-- The additive closure of a relation on n places: two markings whose tokens can be matched one to one, each matched pair related.
use Rattle.std.specs.Prelude.{◌≡◌, ℕ, ◌<◌, true, List}
use Rattle.net.specs.Lists.{zeros}
use Rattle.team.specs.Relations.{Relation}
use Rattle.team.specs.Markings.{token_more}

-- The least relation that relates the two empty markings, and related ones with one token more on each side, on related places.
pub data Closure (n : ℕ) (R : Relation) : List ℕ → List ℕ → Type 0 where
  none : Closure n R (zeros n) (zeros n)
  more : {xs ys : List ℕ} (p q : ℕ) → p < n → q < n → R p q ≡ true → Closure n R xs ys → Closure n R (token_more p xs) (token_more q ys)
