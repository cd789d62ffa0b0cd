-- The line of a move, target by target.
use Rattle.std.proofs.Common.{◌≡◌, ℕ, ◌+◌, ◌<◌, List, [], ◌∷◌, ◌++◌, length, get_or, set, take, Any, refl, sym, ap, ◌∙◌, inl, inr, arith, get_or-set_other}
use Rattle.std.proofs.lemmas.Bool.{cases_eq}
use Rattle.std.proofs.lemmas.List.{length-set, length-append, take_more_set, get_or_append_left, get_or-append_right}
use Rattle.std.proofs.lemmas.List.Elements.{All-push}
use Rattle.net.specs.Limits.{most_places, most_total}
use Rattle.classing.specs.declared.snapshot.Move.{Move}
use Rattle.formulas.specs.Lines.{no_pair, used_pairs}
use Rattle.formulas.specs.declared.line.Line.{Line}
use Rattle.formulas.specs.declared.line.Pair.{Pair}
use Rattle.sheets.specs.Blocks.{in_block}
use Rattle.sheets.specs.Doing.{tokens_where}
use Rattle.sheets.specs.Drawing.{BlockOf, Draws}

-- the element that some fact holds of is still there once one more is pushed, and the fact may hold of the new one
any_kept : {X : Type 0} (P : X → Type 0) (xs : List X) (x : X) → Any P xs → Any P (xs ++ x ∷ [])
any_kept P xs x (k, y, w, e, p) =
    (k, y, simp length-append (omega arith), get_or_append_left xs (x ∷ []) y k w ∙ e, p)

any_pushed : {X : Type 0} (P : X → Type 0) (xs : List X) (x : X) → P x → Any P (xs ++ x ∷ [])
any_pushed P xs x p =
    (length xs, x, simp length-append (omega arith), grind (arith, get_or-append_right xs (x ∷ []) (length xs) (length xs) x refl), p)

module _ (cs : List ℕ) (this : Move) (j : ℕ) (l : Line) (D : Draws cs this j l) where
  -- a pair for target j
  module _ (known : j < most_total) (place : get_or this.targets j 0 < most_places) (x : Pair) (names : x.line ≡ get_or cs (get_or this.targets j 0) 0)
      (counts : x.count ≡ tokens_where (in_block cs) this.targets x.line) where
    pushed : take (l.used + 1) (set l.pairs l.used x) ≡ used_pairs l ++ x ∷ []
    pushed = take_more_set l.pairs l.used x (omega (arith, D.few, D.long))

    pub draws_more : (at : ℕ) → at ≡ l.used → Draws cs this (j + 1) (record { kind = l.kind; label = l.label; total = l.total; used = l.used + 1; pairs = set l.pairs at x })
    draws_more at e =
        rw e (record {
          modal = D.modal;
          label = D.label;
          total = D.total;
          few = omega (arith, D.few);
          long = length-set l.pairs l.used x ∙ D.long;
          named = rw pushed (All-push (λ y. BlockOf cs this.targets y.line) (used_pairs l) x D.named (j, known, place, names));
          counted = rw pushed (All-push (λ y. y.count ≡ tokens_where (in_block cs) this.targets y.line) (used_pairs l) x D.counted counts);
          all = λ i w g. rw pushed (elim (cases_eq i j) [
            | inl e ↦ any_pushed _ (used_pairs l) x (names ∙ ap (λ k. get_or cs (get_or this.targets k 0) 0) (sym e))
            | inr d ↦ any_kept _ (used_pairs l) x (D.all i (omega arith) g)
          ]);
          rest = λ i w. get_or-set_other l.pairs l.used i x no_pair (omega arith) ∙ D.rest i (omega arith);
        })
