-- A file has one report.
use Rattle.std.proofs.Common.{◌≡◌, ℕ, zero, suc, ◌<◌, ◌≤◌, true, false, cond, ltb, List, [], ◌∷◌, ◌++◌, is_ok, Err, sym, refl, ap, ◌∙◌, subst, ap₂, inl, inr, arith}
use Rattle.std.proofs.lemmas.Bool.{cases_lt}
use Rattle.net.specs.Meaning.{Meaning}
use Rattle.net.specs.Limits.{Lawful}
use Rattle.net.specs.declared.refusal.Fault.{Fault}
use Rattle.team.specs.Classes.{InClass}
use Rattle.team.specs.Pairings.{Cells, AgreeBefore, Greatest}
use Rattle.team.proofs.Classes.{counts_tell}
use Rattle.records.specs.Check.{checked}
use Rattle.records.specs.File.{sound, net_of}
use Rattle.records.specs.FileLaws.{net_lawful}
use Rattle.crews.specs.Crews.{Crews}
use Rattle.crews.specs.Swaps.{row_swaps, swaps}
use Rattle.crews.specs.Verdicts.{AlikeBy, ApartBy}
use Rattle.crews.specs.declared.swap.Swap.{Swap}
use Rattle.crews.specs.declared.swap.Difference.{Difference}
use Rattle.report.specs.Text.{alike_text, apart_text, refused_text}
use Rattle.report.specs.Reports.{crews_of, refused, alike, apart, OneText}

-- ## One swap list

-- two tables that agree on n places have one swap list
module _ (n : ℕ) (S T : Cells) (agree : (p q : ℕ) → p < n → q < n → S p q ≡ T p q) where
  same_row : (p q : ℕ) → p < n → q ≤ n → row_swaps S p q ≡ row_swaps T p q
  same_row p zero l k = refl
  same_row p (suc q) l k =
      ap₂ (λ a b. a ++ b) (same_row p q l (omega arith))
      (ap (λ (x : ℕ). cond (ltb 0 x) (record { left = p; right = q; count = x } ∷ []) []) (agree p q l (omega arith)))

  same_rows : (p : ℕ) → p ≤ n → swaps S n p ≡ swaps T n p
  same_rows zero l = refl
  same_rows (suc p) l = ap₂ (λ a b. a ++ b) (same_rows p (omega arith)) (same_row p n (omega arith) (omega arith))

agree_back : {n : ℕ} {S T : Cells} {p q : ℕ} → AgreeBefore n S T p q → AgreeBefore n T S p q
agree_back before = record {
  rows_before = λ i j l k. sym (before.rows_before i j l k);
  cells_before = λ j k. sym (before.cells_before j k);
}

-- two greatest tables agree
module _ (m : Meaning) (xs ys : List ℕ) (S T : Cells) (s : Greatest m xs ys S) (t : Greatest m xs ys T) where
  next_cell : (p q : ℕ) → p < m.places → q < m.places → AgreeBefore m.places S T p q → S p q ≡ T p q
  next_cell p q l k before = grind (arith, t.above S s.pairs p q l k before, s.above T t.pairs p q l k (agree_back before))

  row_agrees : (p q : ℕ) → p < m.places → q ≤ m.places → ((i j : ℕ) → i < p → j < m.places → S i j ≡ T i j) → (j : ℕ) → j < q → S p j ≡ T p j
  row_agrees p zero l k rows j h = absurd (omega arith)
  row_agrees p (suc q) l k rows j h =
      let front : (i : ℕ) → i < q → S p i ≡ T p i = λ i w. row_agrees p q l (omega arith) rows i w in
      elim (cases_lt j q) [
        | inl w ↦ front j w
        | inr w ↦ next_cell p j l (omega arith) (record { rows_before = rows; cells_before = λ i v. front i (omega arith) })
      ]

  rows_agree : (p : ℕ) → p ≤ m.places → (i j : ℕ) → i < p → j < m.places → S i j ≡ T i j
  rows_agree zero l i j h k = absurd (omega arith)
  rows_agree (suc p) l i j h k =
      let front : (a b : ℕ) → a < p → b < m.places → S a b ≡ T a b = λ a b v w. rows_agree p (omega arith) a b v w in
      elim (cases_lt i p) [
        | inl w ↦ front i j w k
        | inr w ↦ row_agrees i m.places (omega arith) (omega arith) (λ a b v. front a b (omega arith)) j k
      ]

one_list : (m : Meaning) (c : Crews) (a b : List Swap) → AlikeBy m c a → AlikeBy m c b → a ≡ b
one_list m c a b x y =
    x.listed
    ∙ same_rows m.places x.table y.table (λ p q l k. rows_agree m c.left c.right x.table y.table x.greatest y.greatest m.places (omega arith) p q l k) m.places (omega arith)
    ∙ sym y.listed

-- ## One difference

one_count : (m : Meaning) → Lawful m → (xs : List ℕ) (p q k l : ℕ) → p < m.places → p ≡ q → InClass m xs p k → InClass m xs q l → k ≡ l
one_count m law xs p q k l known same a b =
    let there : InClass m xs p l = subst (λ (i : ℕ). InClass m xs i l) (sym same) b in
    (counts_tell m law xs p known).alone k a ∙ sym ((counts_tell m law xs p known).alone l there)

not_lower : (m : Meaning) (c : Crews) (d e : Difference) → ApartBy m c d → ApartBy m c e → d.class < e.class → ⊥
not_lower m c d e x y h = x.differ (y.lower d.class d.left d.right h x.on_left x.on_right)

one_class : (m : Meaning) (c : Crews) (d e : Difference) → ApartBy m c d → ApartBy m c e → d.class ≡ e.class
one_class m c d e x y = grind (arith, not_lower m c d e x y, not_lower m c e d y x)

one_difference : (m : Meaning) → Lawful m → (c : Crews) (d e : Difference) → ApartBy m c d → ApartBy m c e → d ≡ e
one_difference m law c d e x y =
    let class = one_class m c d e x y in
    let left = one_count m law c.left d.class e.class d.left e.left x.known class x.on_left y.on_left in
    let right = one_count m law c.right d.class e.class d.right e.right x.known class x.on_right y.on_right in
    ap (λ (n : ℕ). record { class = n; left = d.left; right = d.right }) class
    ∙ ap₂ (λ (l r : ℕ). record { class = e.class; left = l; right = r }) left right

-- ## One text

not_both : (bytes : List ℕ) (f : Fault) → checked bytes ≡ Err f → sound bytes ≡ true → ⊥
not_both bytes f e s = let z : false ≡ true = sym (ap is_ok e) ∙ s in let w : ◌≡◌ {A = ℕ} 0 1 = cc in omega arith

pub one_text : OneText
one_text bytes t u (refused f e) (refused g h) = let same : f ≡ g = let k = sym e ∙ h in cc in ap refused_text same
one_text bytes t u (refused f e) (alike list s a) = absurd (not_both bytes f e s)
one_text bytes t u (refused f e) (apart d s a) = absurd (not_both bytes f e s)
one_text bytes t u (alike list s a) (refused f e) = absurd (not_both bytes f e s)
one_text bytes t u (alike list s a) (alike other z b) = ap alike_text (one_list (net_of bytes) (crews_of bytes) list other a b)
one_text bytes t u (alike list s a) (apart d z b) = absurd (b.unpaired a.paired)
one_text bytes t u (apart d s a) (refused f e) = absurd (not_both bytes f e s)
one_text bytes t u (apart d s a) (alike list z b) = absurd (a.unpaired b.paired)
one_text bytes t u (apart d s a) (apart e z b) = ap apart_text (one_difference (net_of bytes) (net_lawful bytes) (crews_of bytes) d e a b)
