-- An array that is made by a function of the index.
use Rattle.std.proofs.Common.{◌≡◌, ℕ, zero, suc, ◌+◌, ◌<◌, ◌≤◌, List, get_or, subst, sym, inl, inr, arith}
use Rattle.std.specs.Fn.{Called}
use Rattle.std.specs.Array.{IsFromFnResult, IsFromFnResultFrom}
use Rattle.std.proofs.lemmas.Bool.{cases_eq}
use denote.Param.Members.{Mut}

module _ {F B : Type 0} (g : Mut F (ℕ × Unit {0}) B) (f : F) (ys : List B) (P : ℕ → B → Type 0)
    (gives : (k : ℕ) (y : B) (q : F) → Called g f (k, tt) y q → (q ≡ f) × P k y) where
  each_from : (i n : ℕ) → IsFromFnResultFrom g f ys i n → (k : ℕ) (d : B) → i ≤ k → k < i + n → P k (get_or ys k d)
  each_from i zero r k d a b = absurd (omega arith)
  each_from i (suc n) (q, y, e, c, rest) k d a b =
      let here = gives i y q c in
      elim (cases_eq k i) [
        | inl s ↦ rw s (subst (P i) (sym (e.1 d)) here.1)
        | inr s ↦ each_from (i + 1) n (subst (λ x. IsFromFnResultFrom g x ys (i + 1) n) here.0 rest) k d (omega arith) (omega arith)
      ]

-- what a call gives, where calls leave the function as it was, holds of the element at its index
pub made_each : {F B : Type 0} {g : Mut F (ℕ × Unit {0}) B} {f : F} {ys : List B} {n : ℕ} (P : ℕ → B → Type 0) → IsFromFnResult g f ys n
    → ((k : ℕ) (y : B) (q : F) → Called g f (k, tt) y q → (q ≡ f) × P k y) → (k : ℕ) (d : B) → k < n → P k (get_or ys k d)
made_each {g = g} {f = f} {ys = ys} {n = n} P made gives k d w = each_from g f ys P gives 0 n made.each k d (omega arith) (omega arith)
