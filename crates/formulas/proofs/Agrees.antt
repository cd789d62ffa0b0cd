-- Where a line holds depends only on where the lines that it names do.
use Rattle.std.proofs.Common.{◌≡◌, ℕ, zero, suc, ◌<◌, Bool, cond, not, ◌&&◌, List, get_or, sym, refl, ap, ◌∙◌, subst, ap₂, arith}
use Rattle.std.proofs.lemmas.Bool.Decides.{Decides-like, Decides-at, same_from_decides}
use Rattle.net.specs.Meaning.{Meaning, transition, count_of}
use Rattle.net.specs.Limits.{most_total}
use Rattle.team.specs.Below.{some}
use Rattle.team.specs.Markings.{held}
use Rattle.team.proofs.Sums.{tally_cong}
use Rattle.formulas.specs.declared.line.Line.{Line}
use Rattle.formulas.specs.Lines.{pair_at, line_at, uses, LawfulLine}
use Rattle.formulas.specs.Truths.{Truths, does, by_kind, truth, cell, truth_rows, holds}
use Rattle.formulas.specs.Theorems.{Done, LinesHold}
use Rattle.formulas.proofs.Lawful.{lawful_used}
use Rattle.formulas.proofs.Doing.{decides_done}
use Rattle.formulas.proofs.Rows.{cell_new, cell_holds}

-- T and S say the same of the lines before k
abbrev pub AgreeBelow : Meaning → ℕ → Truths → Truths → Type 0
AgreeBelow m k T S = (j i : ℕ) → j < k → i < m.places → T j i ≡ S j i

module _ (m : Meaning) (k : ℕ) (T S : Truths) (agree : AgreeBelow m k T S) where
  pub held_agree : (xs : List ℕ) (j : ℕ) → j < k → held m.places T xs j ≡ held m.places S xs j
  held_agree xs j w =
      tally_cong m.places (λ i. cond (T j i) (get_or xs i 0) 0) (λ i. cond (S j i) (get_or xs i 0) 0) (λ i v. ap (λ b. cond b (get_or xs i 0) 0) (agree j i w v))

  done_agree : (l : Line) → ((j : ℕ) → j < l.used → (pair_at l j).line < k) → (p : ℕ) → Done m T l p → Done m S l p
  done_agree l low p (t, w, d) =
      (t, w, record { from = d.from; label = d.label; total = d.total; each = λ j v. sym (held_agree (transition m t).puts (pair_at l j).line (low j v)) ∙ d.each j v })

pub truth_agree : (m : Meaning) (k : ℕ) (T S : Truths) → AgreeBelow m k T S → (l : Line) → LawfulLine k l → (p : ℕ) → p < m.places → truth m T l p ≡ truth m S l p
truth_agree m k T S agree l law p w = go l.kind refl
  where
    low : (kind j : ℕ) → l.kind ≡ kind → j < most_total → j < uses kind l.used → (pair_at l j).line < k
    low kind j e w v = (law.each_pair j w).names_lower (subst (λ x. j < uses x l.used) (sym e) v)

    go : (kind : ℕ) → l.kind ≡ kind → by_kind kind m T l p ≡ by_kind kind m S l p
    go zero e = refl
    go (suc zero) e = ap not (agree (pair_at l 0).line p (low 1 0 e (omega arith) (omega arith)) w)
    go (suc (suc zero)) e =
        ap₂ ◌&&◌ (agree (pair_at l 0).line p (low 2 0 e (omega arith) (omega arith)) w) (agree (pair_at l 1).line p (low 2 1 e (omega arith) (omega arith)) w)
    go (suc (suc (suc kind))) e =
        let names : (j : ℕ) → j < l.used → (pair_at l j).line < k = λ j v. low (suc (suc (suc kind))) j e (omega (arith, lawful_used k l law)) v in
        same_from_decides (some (count_of m) (does m T l p)) (some (count_of m) (does m S l p)) (decides_done m T l p)
        (Decides-like (some (count_of m) (does m S l p)) (done_agree m k S T (λ j i a b. sym (agree j i a b)) l names p) (done_agree m k T S agree l names p) (decides_done m S l p))

-- a lawful line holds as it says of the sheet's own lines
pub holds_line : (m : Meaning) (sheet : List Line) (i : ℕ) → LawfulLine i (line_at sheet i) → (p : ℕ) → p < m.places
    → holds m sheet i p ≡ truth m (holds m sheet) (line_at sheet i) p
holds_line m sheet i law p w =
    cell_new m sheet i p w ∙ truth_agree m i (cell (truth_rows m sheet i)) (holds m sheet) (λ j q v _. cell_holds m sheet i j q v) (line_at sheet i) law p w

-- two sheets with the same lines before k
module _ (m : Meaning) (old new : List Line) where
  rows_agree : (k : ℕ) → ((i : ℕ) → i < k → line_at new i ≡ line_at old i) → truth_rows m new k ≡ truth_rows m old k
  rows_agree zero h = refl
  rows_agree (suc k) h =
      let e = rows_agree k (λ i w. h i (omega arith)) in
      let d = h k (omega arith) in
      rw (e, d)

  pub holds_agree : (k : ℕ) → ((i : ℕ) → i < k → line_at new i ≡ line_at old i) → (i p : ℕ) → i < k → holds m new i p ≡ holds m old i p
  holds_agree k h i p w = ap (λ r. cell r i p) (rows_agree (suc i) (λ j v. h j (omega arith)))

pub lines_hold : LinesHold
lines_hold m sheet law i p l w =
    record {
      everywhere = λ e. is ∙ ap here e;
      negation = λ e. is ∙ ap here e;
      conjunction = λ e. is ∙ ap here e;
      modal = λ e. Decides-at (holds m sheet i p) (some (count_of m) (does m (holds m sheet) (line_at sheet i) p)) (is ∙ ap here e) (decides_done m (holds m sheet) (line_at sheet i) p);
    }
  where
    here : ℕ → Bool
    here kind = by_kind kind m (holds m sheet) (line_at sheet i) p

    is : holds m sheet i p ≡ truth m (holds m sheet) (line_at sheet i) p
    is = holds_line m sheet i (law.each i l) p w
