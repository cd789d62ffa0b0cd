-- The swap list of a pairing: its cells above 0, by left place and then right place.
use Rattle.std.specs.Prelude.{ℕ, zero, suc, cond, List, [], ◌∷◌, ◌++◌, nat_lt}
use Rattle.team.specs.Pairings.{Cells}
use Rattle.crews.specs.declared.swap.Swap.{Swap}

abbrev pub swap_at : Cells → ℕ → ℕ → List Swap
swap_at T p q = cond (nat_lt 0 (T p q)) (record { left = p; right = q; count = T p q } ∷ []) []

-- the entries of row p before column q
abbrev pub row_swaps : Cells → ℕ → ℕ → List Swap
row_swaps T p zero = []
row_swaps T p (suc q) = let before = row_swaps T p q in before ++ swap_at T p q

-- the entries of the rows before p, on n places
abbrev pub swaps : Cells → ℕ → ℕ → List Swap
swaps T n zero = []
swaps T n (suc p) = let before = swaps T n p in before ++ row_swaps T p n

-- the swap list of a pairing on n places
abbrev pub swap_list : Cells → ℕ → List Swap
swap_list T n = swaps T n n
