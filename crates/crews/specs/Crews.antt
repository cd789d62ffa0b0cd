-- The two crews of a bench, left (side 0) and right (side 1), each a marking with one entry a place.
use Rattle.std.specs.Prelude.{ℕ, cond, List, ◌==◌}
use Rattle.net.specs.Lists.{zeros}

pub record Crews : Type 0 where
  pub left : List ℕ
  pub right : List ℕ

-- the crew on side s
abbrev pub on_side : Crews → ℕ → List ℕ
on_side c s = cond (s == 0) c.left c.right

-- the crew across from side s
abbrev pub across : Crews → ℕ → List ℕ
across c s = cond (s == 0) c.right c.left

-- the crews with xs in place of the one on side s
abbrev pub with_side : Crews → ℕ → List ℕ → Crews
with_side c s xs = cond (s == 0) (record { left = xs; right = c.right }) (record { left = c.left; right = xs })

-- the crews with xs on side s, and ys across
abbrev pub both : ℕ → List ℕ → List ℕ → Crews
both s xs ys = cond (s == 0) (record { left = xs; right = ys }) (record { left = ys; right = xs })

-- no token on n places, on either side
abbrev pub nobody : ℕ → Crews
nobody n = record { left = zeros n; right = zeros n }
