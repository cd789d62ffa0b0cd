-- The rows of a sheet, line after line.
use Rattle.std.proofs.Common.{◌≡◌, ℕ, zero, suc, ◌-◌, ◌<◌, Bool, false, List, [], ◌∷◌, map, length, get_or, sym, refl, ap, ◌∙◌, inl, inr, arith}
use Rattle.std.specs.List.{range_with_len}
use Rattle.std.proofs.lemmas.Bool.{cases_eq}
use Rattle.std.proofs.lemmas.List.{length-append, get_or_append_left, get_or-append_right, get_or_past}
use Rattle.std.proofs.lemmas.List.FromFn.{get_or-map-range_with_len}
use Rattle.net.specs.Meaning.{Meaning}
use Rattle.formulas.specs.declared.line.Line.{Line}
use Rattle.formulas.specs.Lines.{line_at}
use Rattle.formulas.specs.Truths.{truth, cell, truth_rows, holds}

module _ (m : Meaning) (sheet : List Line) where
  -- the row of line k
  abbrev row : ℕ → List Bool
  row k = map (truth m (cell (truth_rows m sheet k)) (line_at sheet k)) (range_with_len 0 m.places)

  length_rows : (k : ℕ) → length (truth_rows m sheet k) ≡ k
  length_rows zero = refl
  length_rows (suc k) = length-append (truth_rows m sheet k) (row k ∷ []) ∙ omega (arith, length_rows k)

  pub cell_old : (k i p : ℕ) → i < k → cell (truth_rows m sheet (suc k)) i p ≡ cell (truth_rows m sheet k) i p
  cell_old k i p l = ap (λ r. get_or r p false) (get_or_append_left (truth_rows m sheet k) (row k ∷ []) [] i (omega (arith, length_rows k)))

  pub cell_new : (k p : ℕ) → p < m.places → cell (truth_rows m sheet (suc k)) k p ≡ truth m (cell (truth_rows m sheet k)) (line_at sheet k) p
  cell_new k p l =
      let z : k - k ≡ 0 = omega arith in
      ap (λ r. get_or r p false) (get_or-append_right (truth_rows m sheet k) (row k ∷ []) k k [] (length_rows k) (omega arith) ∙ ap (λ i. get_or (row k ∷ []) i []) z)
      ∙ get_or-map-range_with_len (truth m (cell (truth_rows m sheet k)) (line_at sheet k)) 0 m.places p p false l (omega arith)

  pub cell_past : (k i p : ℕ) → k < i → cell (truth_rows m sheet (suc k)) i p ≡ false
  cell_past k i p l = ap (λ r. get_or r p false) (get_or_past (truth_rows m sheet (suc k)) i [] (omega (arith, length_rows (suc k))))

  -- more rows say the same of a line
  pub cell_holds : (k i p : ℕ) → i < k → cell (truth_rows m sheet k) i p ≡ holds m sheet i p
  cell_holds zero i p l = absurd (omega arith)
  cell_holds (suc k) i p l =
      elim (cases_eq i k) [
        | inl e ↦ ap (λ j. cell (truth_rows m sheet (suc j)) i p) (sym e)
        | inr d ↦ cell_old k i p (omega arith) ∙ cell_holds k i p (omega arith)
      ]
