-- The closure of a relation is what a table pairs through it.
use Rattle.std.proofs.Common.{◌≡◌, ℕ, zero, suc, pred, ◌+◌, ◌-◌, ◌<◌, Bool, true, false, cond, ◌&&◌, eqb, ◌≢◌, List, length, get_or, sym, refl, ap, ◌∙◌, subst₂, inl, inr, add-zero, arith}
use Rattle.std.proofs.lemmas.List.{length-set, get_or-set_same, get_or-set_other}
use Rattle.std.proofs.lemmas.Bool.{cases_Bool, cases_eq, eq-eqb, ne_eqb, eqb-true, and_parts, and_from, and_left, and_right}
use Rattle.net.specs.Lists.{get_or_zeros}
use Rattle.team.specs.Below.{tally}
use Rattle.team.specs.Relations.{Relation}
use Rattle.team.specs.Markings.{token_less}
use Rattle.team.specs.Closure.{Closure, none, more}
use Rattle.team.specs.Pairings.{Cells, Pairing}
use Rattle.team.proofs.Sums.{tally_cong, tally_more, tally_zero, tally_at, tally_some}
use Rattle.team.proofs.Partitions.{one, more_less}
use Rattle.team.proofs.Closures.{closure_length, all_zero}

-- (i, j) is the cell (p, q)
abbrev at_cell : ℕ → ℕ → ℕ → ℕ → Bool
at_cell p q i j = eqb i p && eqb j q

-- one more at the cell (p, q)
abbrev cell_more : ℕ → ℕ → Cells → Cells
cell_more p q T i j = T i j + one (at_cell p q i j)

module _ (p q : ℕ) where
  at_own : one (at_cell p q p q) ≡ 1
  at_own = ap one (and_from (eqb p p) (eqb q q) (eq-eqb p p refl) (eq-eqb q q refl))

  at_other_row : (i j : ℕ) → i ≢ p → one (at_cell p q i j) ≡ 0
  at_other_row i j d = ap one (and_left (eqb i p) (eqb j q) (ne_eqb i p d))

  at_other_column : (i j : ℕ) → j ≢ q → one (at_cell p q i j) ≡ 0
  at_other_column i j d = ap one (and_right (eqb i p) (eqb j q) (ne_eqb j q d))

  module _ (n : ℕ) (T : Cells) where
    row_more : q < n → tally n (cell_more p q T p) ≡ tally n (T p) + 1
    row_more k =
        tally_more n (T p) (cell_more p q T p) q 1 k (omega (arith, at_own)) (λ j d. omega (arith, at_other_column p j d))

    row_other : (i : ℕ) → i ≢ p → tally n (cell_more p q T i) ≡ tally n (T i)
    row_other i d = tally_cong n (cell_more p q T i) (T i) (λ j _. omega (arith, at_other_row i j d))

    column_more : p < n → tally n (λ i. cell_more p q T i q) ≡ tally n (λ i. T i q) + 1
    column_more l =
        tally_more n (λ i. T i q) (λ i. cell_more p q T i q) p 1 l (omega (arith, at_own)) (λ i d. omega (arith, at_other_row i q d))

    column_other : (j : ℕ) → j ≢ q → tally n (λ i. cell_more p q T i j) ≡ tally n (λ i. T i j)
    column_other j d = tally_cong n (λ i. cell_more p q T i j) (λ i. T i j) (λ i _. omega (arith, at_other_column i j d))

-- ## A table for each way to match the tokens

pub closure_pairing : (n : ℕ) (R : Relation) {xs ys : List ℕ} → Closure n R xs ys → (T : Cells) × Pairing n R xs ys T
closure_pairing n R none = (
  λ _ _. 0,
  record {
    rows = λ p _. tally_zero n (λ _. 0) (λ _ _. refl) ∙ sym (get_or_zeros n p);
    columns = λ q _. tally_zero n (λ _. 0) (λ _ _. refl) ∙ sym (get_or_zeros n q);
    through = λ p q _ _ h. absurd (omega arith);
  },
)
closure_pairing n R (more {xs = xs} {ys = ys} p q l k r rest) =
    let (T, old) = closure_pairing n R rest in
    let (a, b) = closure_length n R rest in (
      cell_more p q T,
      record {
        rows = λ i w. elim (cases_eq i p) [
          | inl e ↦ rw e (row_more p q n T k ∙ omega (arith, old.rows p l, get_or-set_same xs p (get_or xs p 0 + 1) 0 (omega arith)))
          | inr d ↦ row_other p q n T i d ∙ old.rows i w ∙ sym (get_or-set_other xs p i (get_or xs p 0 + 1) 0 d)
        ];
        columns = λ j w. elim (cases_eq j q) [
          | inl e ↦ rw e (column_more p q n T l ∙ omega (arith, old.columns q k, get_or-set_same ys q (get_or ys q 0 + 1) 0 (omega arith)))
          | inr d ↦ column_other p q n T j d ∙ old.columns j w ∙ sym (get_or-set_other ys q j (get_or ys q 0 + 1) 0 d)
        ];
        through = λ i j w v h. elim (cases_Bool (at_cell p q i j)) [
          | inl y ↦ (
              let at = and_parts (eqb i p) (eqb j q) y in
              rw (eqb-true i p at.0, eqb-true j q at.1) r)
          | inr z ↦ old.through i j w v (omega (arith, ap one z))
        ];
      },
    )

-- ## And a way to match the tokens for each table

-- one less at the cell (p, q)
abbrev cell_less : ℕ → ℕ → Cells → Cells
cell_less p q T i j = cond (at_cell p q i j) (pred (T i j)) (T i j)

less_more : (p q : ℕ) (T : Cells) → 0 < T p q → (i j : ℕ) → cell_more p q (cell_less p q T) i j ≡ T i j
less_more p q T h i j = go (at_cell p q i j) refl
  where
    go : (b : Bool) → at_cell p q i j ≡ b → cond b (pred (T i j)) (T i j) + one b ≡ T i j
    go true y =
        let at = and_parts (eqb i p) (eqb j q) y in
        let up : 0 < T i j = rw (eqb-true i p at.0, eqb-true j q at.1) h in
        let back : pred (T i j) + 1 ≡ T i j = omega arith in
        back
    go false _ = add-zero (T i j)

module _ (n : ℕ) (R : Relation) where
  -- a pairing with one less at a cell pairs the markings with one token less
  pairing_less : (xs ys : List ℕ) (T : Cells) → length xs ≡ n → length ys ≡ n → Pairing n R xs ys T → (p q : ℕ) → p < n → q < n → 0 < T p q
      → Pairing n R (token_less p xs) (token_less q ys) (cell_less p q T)
  pairing_less xs ys T a b P p q l k h =
      record { rows = rows'; columns = columns'; through = λ i j w v g. P.through i j w v (omega (arith, less_more p q T h i j)) }
    where
      U : Cells
      U = cell_less p q T

      row_was : (i : ℕ) → tally n (cell_more p q U i) ≡ tally n (T i)
      row_was i = tally_cong n (cell_more p q U i) (T i) (λ j _. less_more p q T h i j)

      column_was : (j : ℕ) → tally n (λ i. cell_more p q U i j) ≡ tally n (λ i. T i j)
      column_was j = tally_cong n (λ i. cell_more p q U i j) (λ i. T i j) (λ i _. less_more p q T h i j)

      rows' : (i : ℕ) → i < n → tally n (U i) ≡ get_or (token_less p xs) i 0
      rows' i w = elim (cases_eq i p) [
        | inl e ↦ rw e (omega (arith, row_more p q n U k, row_was p, P.rows p l, get_or-set_same xs p (get_or xs p 0 - 1) 0 (omega arith)))
        | inr d ↦ sym (row_other p q n U i d) ∙ row_was i ∙ P.rows i w ∙ sym (get_or-set_other xs p i (get_or xs p 0 - 1) 0 d)
      ]

      columns' : (j : ℕ) → j < n → tally n (λ i. U i j) ≡ get_or (token_less q ys) j 0
      columns' j w = elim (cases_eq j q) [
        | inl e ↦ rw e (omega (arith, column_more p q n U l, column_was q, P.columns q k, get_or-set_same ys q (get_or ys q 0 - 1) 0 (omega arith)))
        | inr d ↦ sym (column_other p q n U j d) ∙ column_was j ∙ P.columns j w ∙ sym (get_or-set_other ys q j (get_or ys q 0 - 1) 0 d)
      ]

  -- the tokens of xs come one after another
  from_pairing : (k : ℕ) (xs ys : List ℕ) (T : Cells) → length xs ≡ n → length ys ≡ n → Pairing n R xs ys T → tally n (λ i. get_or xs i 0) ≡ k → Closure n R xs ys
  from_pairing zero xs ys T a b P t =
      let x : (i : ℕ) → i < n → get_or xs i 0 ≡ 0 = λ i l. omega (arith, tally_at n (λ i. get_or xs i 0) i l) in
      let cell : (i j : ℕ) → i < n → j < n → T i j ≡ 0 = λ i j l k. omega (arith, tally_at n (T i) j k, P.rows i l, x i l) in
      let y : (j : ℕ) → j < n → get_or ys j 0 ≡ 0 = λ j k. sym (P.columns j k) ∙ tally_zero n (λ i. T i j) (λ i l. cell i j l k) in
      subst₂ (Closure n R) (sym (all_zero n xs a x)) (sym (all_zero n ys b y)) none
  from_pairing (suc k) xs ys T a b P t =
      let (p, l, g) = tally_some n (λ i. get_or xs i 0) (omega arith) in
      let (q, l', h) = tally_some n (T p) (omega (arith, P.rows p l)) in
      let g' : 0 < get_or ys q 0 = omega (arith, P.columns q l', tally_at n (λ i. T i q) p l) in
      let a' : length (token_less p xs) ≡ n = length-set xs p (get_or xs p 0 - 1) ∙ a in
      let b' : length (token_less q ys) ≡ n = length-set ys q (get_or ys q 0 - 1) ∙ b in
      let one_less : tally n (λ i. get_or xs i 0) ≡ tally n (λ i. get_or (token_less p xs) i 0) + 1 =
      tally_more n (λ i. get_or (token_less p xs) i 0) (λ i. get_or xs i 0) p 1 l (omega (arith, get_or-set_same xs p (get_or xs p 0 - 1) 0 (omega arith)))
      (λ i d. sym (get_or-set_other xs p i (get_or xs p 0 - 1) 0 d)) in
      let rest : Closure n R (token_less p xs) (token_less q ys) =
      from_pairing k (token_less p xs) (token_less q ys) (cell_less p q T) a' b' (pairing_less xs ys T a b P p q l l' h) (omega arith) in
      subst₂ (Closure n R) (more_less xs p (omega arith) g) (more_less ys q (omega arith) g') (more p q l l' (P.through p q l l' h) rest)

  pub pairing_closure : (xs ys : List ℕ) → length xs ≡ n → length ys ≡ n → (T : Cells) × Pairing n R xs ys T → Closure n R xs ys
  pairing_closure xs ys a b (T, P) = from_pairing (tally n (λ i. get_or xs i 0)) xs ys T a b P refl
