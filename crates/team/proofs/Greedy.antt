-- The greedy table is a pairing where the groups are even, and the greatest, cell by cell.
use Rattle.std.proofs.Common.{◌≡◌, ℕ, zero, suc, ◌-◌, ◌<◌, ◌≤◌, min, true, false, cond, ◌≢◌, List, get_or, sym, refl, ap, ◌∙◌, ap₂, inl, inr, arith}
use Rattle.std.proofs.lemmas.Bool.{cases_Bool, cases_lt, both_ways, cond-true, cond-false}
use Rattle.team.specs.Below.{tally}
use Rattle.team.specs.Relations.{Relation}
use Rattle.team.specs.Markings.{held, EvenBy}
use Rattle.team.specs.Pairings.{Cells, Pairing, AgreeBefore, Greedy, row_used, column_used, greedy}
use Rattle.team.proofs.Sums.{tally_cong, tally_le, tally_lt, tally_swap, tally_tight, tally_front, tally_within, cond_tally, cond_zero, cond_le, cond_same}
use Rattle.team.proofs.Partitions.{Equivalence, in_one}

module _ (n : ℕ) (E : Relation) (xs ys : List ℕ) (T : Cells) (g : Greedy n E xs ys T) where
  pub cell_yes : (p q : ℕ) → p < n → q < n → E p q ≡ true → T p q ≡ min (get_or xs p 0 - tally q (T p)) (get_or ys q 0 - tally p (λ i. T i q))
  cell_yes p q l k e = g p q l k ∙ cond-true (E p q) _ _ e

  pub cell_no : (p q : ℕ) → p < n → q < n → E p q ≡ false → T p q ≡ 0
  cell_no p q l k e = g p q l k ∙ cond-false (E p q) _ _ e

  cell_through : (p q : ℕ) → p < n → q < n → 0 < T p q → E p q ≡ true
  cell_through p q l k h = elim (cases_Bool (E p q)) [ inl e ↦ e | inr e ↦ absurd (omega (arith, cell_no p q l k e)) ]

  pub cell_le : (p q : ℕ) → p < n → q < n → (T p q ≤ get_or xs p 0 - tally q (T p)) × (T p q ≤ get_or ys q 0 - tally p (λ i. T i q))
  cell_le p q l k =
      elim (cases_Bool (E p q)) [ inl e ↦ omega (arith, cell_yes p q l k e) | inr e ↦ omega (arith, cell_no p q l k e) ]

  pub row_within : (p : ℕ) → p < n → tally n (T p) ≤ get_or xs p 0
  row_within p l = tally_within n (get_or xs p 0) (T p) (λ q k. (cell_le p q l k).0)

  pub column_within : (q : ℕ) → q < n → tally n (λ p. T p q) ≤ get_or ys q 0
  column_within q k = tally_within n (get_or ys q 0) (λ p. T p q) (λ p l. (cell_le p q l k).1)

  -- where a row is not used up, each column of its class is
  column_full : (p q : ℕ) → p < n → q < n → E p q ≡ true → tally n (T p) < get_or xs p 0 → tally n (λ i. T i q) ≡ get_or ys q 0
  column_full p q l k e s =
      omega (arith, cell_yes p q l k e, tally_front n q (T p) k, tally_front n p (λ i. T i q) l, column_within q k)

  module _ (eq : Equivalence E) where
    -- in each class the rows and the columns hold the same
    shift : (c i j : ℕ) → i < n → j < n → cond (E c i) (T i j) 0 ≡ cond (E c j) (T i j) 0
    shift c i j l k =
        elim (cases_Bool (E i j)) [
          | inl e ↦ ap (λ b. cond b (T i j) 0) (in_one E eq i j e c)
          | inr e ↦ cond_zero (E c i) (T i j) (cell_no i j l k e) ∙ sym (cond_zero (E c j) (T i j) (cell_no i j l k e))
        ]

    by_class : (c : ℕ) → tally n (λ i. cond (E c i) (tally n (T i)) 0) ≡ tally n (λ j. cond (E c j) (tally n (λ i. T i j)) 0)
    by_class c =
        tally_cong n (λ i. cond (E c i) (tally n (T i)) 0) (λ i. tally n (λ j. cond (E c j) (T i j) 0))
        (λ i l. cond_tally (E c i) n (T i) ∙ tally_cong n (λ j. cond (E c i) (T i j) 0) (λ j. cond (E c j) (T i j) 0) (λ j k. shift c i j l k))
        ∙ tally_swap n n (λ i j. cond (E c j) (T i j) 0)
        ∙ tally_cong n (λ j. tally n (λ i. cond (E c j) (T i j) 0)) (λ j. cond (E c j) (tally n (λ i. T i j)) 0)
        (λ j _. sym (cond_tally (E c j) n (λ i. T i j)))

    -- in each class what the rows use is at most what they hold
    class_rows : (c : ℕ) → tally n (λ i. cond (E c i) (tally n (T i)) 0) ≤ held n E xs c
    class_rows c =
        tally_le n (λ i. cond (E c i) (tally n (T i)) 0) (λ i. cond (E c i) (get_or xs i 0) 0) (λ i l. cond_le (E c i) (tally n (T i)) (get_or xs i 0) (row_within i l))

    module _ (even : EvenBy n E xs ys) where
      row_full : (p : ℕ) → p < n → tally n (T p) ≡ get_or xs p 0
      row_full p l =
          elim (cases_lt (tally n (T p)) (get_or xs p 0)) [
            | inl s ↦ (
                let full : tally n (λ j. cond (E p j) (tally n (λ i. T i j)) 0) ≡ held n E ys p =
                tally_cong n (λ j. cond (E p j) (tally n (λ i. T i j)) 0) (λ j. cond (E p j) (get_or ys j 0) 0) (λ j k. cond_same (E p j) _ _ (λ e. column_full p j l k e s)) in
                let less : tally n (λ i. cond (E p i) (tally n (T i)) 0) < held n E xs p =
                tally_lt n (λ i. cond (E p i) (tally n (T i)) 0) (λ i. cond (E p i) (get_or xs i 0) 0) p l
                (omega (arith, s, cond-true (E p p) (tally n (T p)) 0 (eq.same p), cond-true (E p p) (get_or xs p 0) 0 (eq.same p)))
                (λ i w. cond_le (E p i) (tally n (T i)) (get_or xs i 0) (row_within i w)) in
                absurd (omega (arith, full, less, by_class p, even p l)))
            | inr w ↦ omega (arith, row_within p l)
          ]

      column_all : (q : ℕ) → q < n → tally n (λ p. T p q) ≡ get_or ys q 0
      column_all q k =
          let rows : tally n (λ i. cond (E q i) (tally n (T i)) 0) ≡ held n E xs q =
          tally_cong n (λ i. cond (E q i) (tally n (T i)) 0) (λ i. cond (E q i) (get_or xs i 0) 0) (λ i l. ap (λ x. cond (E q i) x 0) (row_full i l)) in
          let own = tally_tight n (λ j. cond (E q j) (tally n (λ i. T i j)) 0) (λ j. cond (E q j) (get_or ys j 0) 0)
          (λ j w. cond_le (E q j) (tally n (λ i. T i j)) (get_or ys j 0) (column_within j w)) (omega (arith, rows, by_class q, even q k)) q k in
          omega (arith, own, cond-true (E q q) (tally n (λ i. T i q)) 0 (eq.same q), cond-true (E q q) (get_or ys q 0) 0 (eq.same q))

      -- the greedy table is a pairing
      pub greedy_pairs : Pairing n E xs ys T
      greedy_pairs = record { rows = row_full; columns = column_all; through = cell_through }

  -- and no pairing has more at the first cell where it differs
  pub greedy_first : (S : Cells) → Pairing n E xs ys S → (p q : ℕ) → p < n → q < n → AgreeBefore n S T p q → S p q ≢ T p q → S p q < T p q
  greedy_first S pair p q l k before differ =
      elim (cases_Bool (E p q)) [
        | inl e ↦ omega (
          arith,
          cell_yes p q l k e,
          tally_front n q (S p) k,
          tally_front n p (λ i. S i q) l,
          pair.rows p l,
          pair.columns q k,
          tally_cong q (S p) (T p) before.cells_before,
          tally_cong p (λ i. S i q) (λ i. T i q) (λ i w. before.rows_before i q w k),
        )
        | inr e ↦ elim (cases_lt 0 (S p q)) [
          | inl h ↦ absurd (both_ways (E p q) e (pair.through p q l k h))
          | inr z ↦ absurd (differ (omega (arith, cell_no p q l k e)))
        ]
      ]

-- the computed table is greedy
module _ (n : ℕ) (E : Relation) (xs ys : List ℕ) where
  column_sum : (p q : ℕ) → column_used E xs ys p q ≡ tally p (λ i. greedy E xs ys i q)
  column_sum zero q = refl
  column_sum (suc p) q = omega (arith, column_sum p q)

  row_sum : (p q : ℕ) → row_used (E p) (get_or xs p 0) (λ j. get_or ys j 0 - column_used E xs ys p j) q ≡ tally q (greedy E xs ys p)
  row_sum p zero = refl
  row_sum p (suc q) = omega (arith, row_sum p q)

  pub greedy_is : Greedy n E xs ys (greedy E xs ys)
  greedy_is p q l k = ap₂ (λ a b. cond (E p q) (min (get_or xs p 0 - a) (get_or ys q 0 - b)) 0) (row_sum p q) (column_sum p q)
