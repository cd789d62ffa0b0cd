-- Swap lists, entry by entry: how long they are, and one entry more.
use Rattle.std.proofs.Common.{◌≡◌, ℕ, zero, suc, ◌+◌, ◌*◌, ◌<◌, ◌≤◌, Bool, true, false, cond, ltb, List, [], ◌∷◌, ◌++◌, length, refl, ap, ◌∙◌, arith, length-append}
use Rattle.std.proofs.lemmas.Bool.{lt-ltb, le-ltb}
use Rattle.team.specs.Below.{tally}
use Rattle.team.specs.Relations.{Relation}
use Rattle.team.specs.Pairings.{Cells, Greedy}
use Rattle.team.proofs.Sums.{tally_front}
use Rattle.team.proofs.Cells.{greedy_short}
use Rattle.crews.specs.Swaps.{swap_at, row_swaps, swaps, swap_list}
use Rattle.crews.specs.declared.swap.Swap.{Swap}

-- ## Steps

pub row_swaps_more : (T : Cells) (p q : ℕ) → row_swaps T p (q + 1) ≡ row_swaps T p q ++ swap_at T p q
row_swaps_more T p q = let e : q + 1 ≡ suc q = omega arith in rw e refl

pub swap_some : (T : Cells) (p q : ℕ) → 0 < T p q → swap_at T p q ≡ record { left = p; right = q; count = T p q } ∷ []
swap_some T p q h = ap (λ b. cond b (record { left = p; right = q; count = T p q } ∷ []) []) (lt-ltb 0 (T p q) h)

pub swap_none : (T : Cells) (p q : ℕ) → T p q ≤ 0 → swap_at T p q ≡ []
swap_none T p q h = ap (λ b. cond b (record { left = p; right = q; count = T p q } ∷ []) []) (le-ltb 0 (T p q) h)

-- ## Lengths

abbrev above : Cells → ℕ → ℕ → ℕ
above T p q = cond (ltb 0 (T p q)) 1 0

length_swap : (T : Cells) (p q : ℕ) → length (swap_at T p q) ≡ above T p q
length_swap T p q = by_test (ltb 0 (T p q))
  where
    by_test : (b : Bool) → length (cond {A = List Swap} b (record { left = p; right = q; count = T p q } ∷ []) []) ≡ cond b 1 0
    by_test true = refl
    by_test false = refl

length_row_swaps : (T : Cells) (p q : ℕ) → length (row_swaps T p q) ≡ tally q (above T p)
length_row_swaps T p zero = refl
length_row_swaps T p (suc q) = length-append (row_swaps T p q) (swap_at T p q) ∙ omega (arith, length_row_swaps T p q, length_swap T p q)

length_swaps : (T : Cells) (n p : ℕ) → length (swaps T n p) ≡ tally p (λ i. tally n (above T i))
length_swaps T n zero = refl
length_swaps T n (suc p) = length-append (swaps T n p) (row_swaps T p n) ∙ omega (arith, length_swaps T n p, length_row_swaps T p n)

-- where a cell is above 0, its entry is among the first 2 n
pub swaps_room : (n : ℕ) (E : Relation) (xs ys : List ℕ) (T : Cells) → Greedy n E xs ys T → (p q : ℕ) → p < n → q < n → 0 < T p q
    → length (swaps T n p) + length (row_swaps T p q) < 2 * n
swaps_room n E xs ys T g p q l k h =
    let here : above T p q ≡ 1 = ap (λ b. cond b 1 0) (lt-ltb 0 (T p q) h) in
    omega (arith, here, greedy_short n E xs ys T g, tally_front n p (λ i. tally n (above T i)) l, tally_front n q (above T p) k, length_swaps T n p, length_row_swaps T p q)

-- the whole list has 2 n entries at most
pub swap_list_short : (n : ℕ) (E : Relation) (xs ys : List ℕ) (T : Cells) → Greedy n E xs ys T → length (swap_list T n) ≤ 2 * n
swap_list_short n E xs ys T g = omega (arith, length_swaps T n n, greedy_short n E xs ys T g)
