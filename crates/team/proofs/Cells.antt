-- A greedy table has at most two cells above 0 for each place: each such cell uses up its row or its column.
use Rattle.std.proofs.Common.{◌≡◌, ℕ, zero, suc, ◌+◌, ◌-◌, ◌*◌, ◌<◌, ◌≤◌, min, Bool, true, false, cond, ◌&&◌, eqb, ltb, List, get_or, ap, inl, inr, arith}
use Rattle.std.proofs.lemmas.Bool.{cases_Bool, cases_lt, and_parts, and_from, ltb-true, lt-ltb, le-ltb, eqb-true, eq-eqb}
use Rattle.team.specs.Below.{tally}
use Rattle.team.specs.Relations.{Relation}
use Rattle.team.specs.Pairings.{Cells, Greedy, cells_above}
use Rattle.team.proofs.Sums.{tally_le, tally_zero, tally_swap, tally_add, tally_grows}
use Rattle.team.proofs.Greedy.{cell_yes, cell_no, cell_le}

-- the term at i is above 0, and with it the sum comes to x
abbrev filling : ℕ → (ℕ → ℕ) → ℕ → Bool
filling x f i = ltb 0 (f i) && eqb (tally i f + f i) x

abbrev fills : ℕ → (ℕ → ℕ) → ℕ → ℕ
fills x f i = cond (filling x f i) 1 0

fills_most : (x : ℕ) (f : ℕ → ℕ) (i : ℕ) → fills x f i ≤ 1
fills_most x f i = elim (filling x f i) as (λ b. cond b 1 0 ≤ 1) [ true ↦ omega arith | false ↦ omega arith ]

-- of the terms that keep within x, one at most comes to it
fills_once : (n x : ℕ) (f : ℕ → ℕ) → ((i : ℕ) → i < n → f i ≤ x - tally i f) → tally n (fills x f) ≤ 1
fills_once zero x f h = omega arith
fills_once (suc n) x f h =
    elim (cases_Bool (filling x f n)) [
      | inl y ↦ (
          let up : 0 < f n = ltb-true 0 (f n) (and_parts (ltb 0 (f n)) (eqb (tally n f + f n) x) y).0 in
          let none : tally n (fills x f) ≡ 0 = tally_zero n (fills x f) (λ i l. earlier i l up) in
          omega (arith, fills_most x f n))
      | inr z ↦ omega (arith, ap (λ b. cond {A = ℕ} b 1 0) z, fills_once n x f (λ i l. h i (omega arith)))
    ]
  where
    earlier : (i : ℕ) → i < n → 0 < f n → fills x f i ≡ 0
    earlier i l up =
        elim (cases_Bool (filling x f i)) [
          | inl y ↦ (
              let e : tally i f + f i ≡ x = eqb-true (tally i f + f i) x (and_parts (ltb 0 (f i)) (eqb (tally i f + f i) x) y).1 in
              absurd (omega (arith, h n (omega arith), tally_grows n (suc i) f l)))
          | inr z ↦ ap (λ b. cond b 1 0) z
        ]

fills_here : (x : ℕ) (f : ℕ → ℕ) (i : ℕ) → 0 < f i → tally i f + f i ≡ x → fills x f i ≡ 1
fills_here x f i h e = ap (λ b. cond b 1 0) (and_from (ltb 0 (f i)) (eqb (tally i f + f i) x) (lt-ltb 0 (f i) h) (eq-eqb (tally i f + f i) x e))

tally_ones : (n : ℕ) (f : ℕ → ℕ) → ((i : ℕ) → i < n → f i ≤ 1) → tally n f ≤ n
tally_ones zero f h = omega arith
tally_ones (suc n) f h = omega (arith, h n (omega arith), tally_ones n f (λ i l. h i (omega arith)))

module _ (n : ℕ) (E : Relation) (xs ys : List ℕ) (T : Cells) (g : Greedy n E xs ys T) where
  abbrev row_fills : ℕ → ℕ → ℕ
  row_fills p q = fills (get_or xs p 0) (T p) q

  abbrev column_fills : ℕ → ℕ → ℕ
  column_fills p q = fills (get_or ys q 0) (λ i. T i q) p

  cell_fills : (p q : ℕ) → p < n → q < n → cond {A = ℕ} (ltb 0 (T p q)) 1 0 ≤ row_fills p q + column_fills p q
  cell_fills p q l k =
      elim (cases_lt 0 (T p q)) [
        | inl h ↦ elim (cases_Bool (E p q)) [
          | inl e ↦ by_side h (cell_yes n E xs ys T g p q l k e)
          | inr e ↦ absurd (omega (arith, cell_no n E xs ys T g p q l k e))
        ]
        | inr z ↦ omega (arith, ap (λ b. cond {A = ℕ} b 1 0) (le-ltb 0 (T p q) z))
      ]
    where
      by_side : 0 < T p q → T p q ≡ min (get_or xs p 0 - tally q (T p)) (get_or ys q 0 - tally p (λ i. T i q))
          → cond {A = ℕ} (ltb 0 (T p q)) 1 0 ≤ row_fills p q + column_fills p q
      by_side h e =
          elim (cases_lt (get_or xs p 0 - tally q (T p)) (get_or ys q 0 - tally p (λ i. T i q))) [
            | inl w ↦ omega (arith, ap (λ b. cond {A = ℕ} b 1 0) (lt-ltb 0 (T p q) h), fills_here (get_or xs p 0) (T p) q h (omega arith))
            | inr w ↦ omega (arith, ap (λ b. cond {A = ℕ} b 1 0) (lt-ltb 0 (T p q) h), fills_here (get_or ys q 0) (λ i. T i q) p h (omega arith))
          ]

  pub greedy_short : cells_above n T ≤ 2 * n
  greedy_short =
      let by_row : tally n (λ p. tally n (row_fills p)) ≤ n =
      tally_ones n (λ p. tally n (row_fills p)) (λ p l. fills_once n (get_or xs p 0) (T p) (λ q k. (cell_le n E xs ys T g p q l k).0)) in
      let by_column : tally n (λ q. tally n (λ p. column_fills p q)) ≤ n =
      tally_ones n (λ q. tally n (λ p. column_fills p q)) (λ q k. fills_once n (get_or ys q 0) (λ p. T p q) (λ p l. (cell_le n E xs ys T g p q l k).1)) in
      let cells : cells_above n T ≤ tally n (λ p. tally n (row_fills p) + tally n (column_fills p)) =
      tally_le n (λ p. tally n (λ q. cond (ltb 0 (T p q)) 1 0)) (λ p. tally n (row_fills p) + tally n (column_fills p)) (λ p l.
      let row = tally_le n (λ q. cond (ltb 0 (T p q)) 1 0) (λ q. row_fills p q + column_fills p q) (λ q k. cell_fills p q l k) in
      omega (arith, row, tally_add n (row_fills p) (column_fills p))) in
      omega (arith, cells, by_row, by_column, tally_add n (λ p. tally n (row_fills p)) (λ p. tally n (column_fills p)), tally_swap n n column_fills)
