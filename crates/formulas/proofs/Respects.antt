-- A team bisimulation cannot tell lines apart: tokens that it pairs stand equally often where a line holds.
use Rattle.std.proofs.Common.{◌≡◌, ℕ, zero, suc, true, not, ◌&&◌, List, sum, sym, refl, ap, ◌∙◌, ap₂, inl, inr, arith}
use Rattle.std.proofs.lemmas.Bool.Decides.{Decides-like, same_from_decides}
use Rattle.std.proofs.lemmas.Bool.{cases_order}
use Rattle.net.specs.Meaning.{Meaning, count_of}
use Rattle.net.proofs.Markings.{sum_more}
use Rattle.team.specs.Below.{some}
use Rattle.team.specs.Relations.{Relation}
use Rattle.team.specs.Markings.{held}
use Rattle.team.specs.Closure.{Closure, none, more}
use Rattle.team.specs.Teams.{TeamBisimulation, Bisimilar}
use Rattle.team.proofs.Partitions.{one, held_more}
use Rattle.team.proofs.Closures.{closure_length}
use Rattle.formulas.specs.declared.line.Line.{Line}
use Rattle.formulas.specs.Lines.{pair_at, line_at}
use Rattle.formulas.specs.Truths.{Truths, does, by_kind, cell, truth_rows, holds}
use Rattle.formulas.specs.Theorems.{Done, LinesRespect}
use Rattle.formulas.proofs.Doing.{decides_done}
use Rattle.formulas.proofs.Rows.{cell_old, cell_new, cell_past}

-- ## What the closure keeps

pub closure_sum : (n : ℕ) (R : Relation) {xs ys : List ℕ} → Closure n R xs ys → sum xs ≡ sum ys
closure_sum n R none = refl
closure_sum n R (more {xs = xs} {ys = ys} p q l k r rest) =
    let (a, b) = closure_length n R rest in
    omega (arith, sum_more xs p 1 (omega arith), sum_more ys q 1 (omega arith), closure_sum n R rest)

closure_held : (n : ℕ) (R : Relation) (T : Truths) (j : ℕ) → ((p q : ℕ) → R p q ≡ true → T j p ≡ T j q)
    → {xs ys : List ℕ} → Closure n R xs ys → held n T xs j ≡ held n T ys j
closure_held n R T j same none = refl
closure_held n R T j same (more {xs = xs} {ys = ys} p q l k r rest) =
    let (a, b) = closure_length n R rest in
    omega (arith, held_more n T xs p j l (omega arith), held_more n T ys q j k (omega arith), closure_held n R T j same rest, ap one (same p q r))

-- ## Lines

module _ (m : Meaning) (R : Relation) (team : TeamBisimulation m R) where
  -- T says the same of related places
  abbrev Blind : Truths → Type 0
  Blind T = (j p q : ℕ) → R p q ≡ true → T j p ≡ T j q

  module _ (T : Truths) (blind : Blind T) (l : Line) (p q : ℕ) (r : R p q ≡ true) where
    done_forth : Done m T l p → Done m T l q
    done_forth (t, w, d) =
        let a = team.forth p q r t w d.from in (
          a.by,
          a.known,
          record {
            from = a.from;
            label = a.label ∙ d.label;
            total = sym (closure_sum m.places R a.puts) ∙ d.total;
            each = λ k v. sym (closure_held m.places R T (pair_at l k).line (blind (pair_at l k).line) a.puts) ∙ d.each k v;
          },
        )

    done_back : Done m T l q → Done m T l p
    done_back (t, w, d) =
        let a = team.back p q r t w d.from in (
          a.by,
          a.known,
          record {
            from = a.from;
            label = a.label ∙ d.label;
            total = closure_sum m.places R a.puts ∙ d.total;
            each = λ k v. closure_held m.places R T (pair_at l k).line (blind (pair_at l k).line) a.puts ∙ d.each k v;
          },
        )

    kind_blind : (kind : ℕ) → by_kind kind m T l p ≡ by_kind kind m T l q
    kind_blind zero = refl
    kind_blind (suc zero) = ap not (blind (pair_at l 0).line p q r)
    kind_blind (suc (suc zero)) = ap₂ ◌&&◌ (blind (pair_at l 0).line p q r) (blind (pair_at l 1).line p q r)
    kind_blind (suc (suc (suc kind))) =
        same_from_decides (some (count_of m) (does m T l p)) (some (count_of m) (does m T l q)) (decides_done m T l p)
        (Decides-like (some (count_of m) (does m T l q)) done_back done_forth (decides_done m T l q))

  rows_blind : (sheet : List Line) (k : ℕ) → Blind (cell (truth_rows m sheet k))
  rows_blind sheet zero j p q r = refl
  rows_blind sheet (suc k) j p q r =
      elim (cases_order j k) [
        | inl e ↦ rw e (cell_new m sheet k p (team.left_known p q r)
            ∙ kind_blind (cell (truth_rows m sheet k)) (rows_blind sheet k) (line_at sheet k) p q r (line_at sheet k).kind
            ∙ sym (cell_new m sheet k q (team.right_known p q r)))
        | inr (inl w) ↦ cell_old m sheet k j p w ∙ rows_blind sheet k j p q r ∙ sym (cell_old m sheet k j q w)
        | inr (inr w) ↦ cell_past m sheet k j p w ∙ sym (cell_past m sheet k j q w)
      ]

pub respects : (m : Meaning) (sheet : List Line) (i p q : ℕ) → Bisimilar m p q → holds m sheet i p ≡ holds m sheet i q
respects m sheet i p q (R, team, r) = rows_blind m R team sheet (suc i) i p q r

pub lines_respect : LinesRespect
lines_respect m sheet law i p q l b = respects m sheet i p q b
