-- Two lists agree on their first n entries exactly where these are equal as lists.
use Rattle.std.proofs.Common.{◌≡◌, ℕ, ◌<◌, ◌≤◌, Bool, true, eqb, List, length, take, get_or, sym, ap, ◌∙◌, arith}
use Rattle.std.proofs.lemmas.Bool.Decides.{Decides-eqb, Decides-like, same_from_decides}
use Rattle.std.proofs.lemmas.List.{ext_get_or, get_or-take, length-take-le}
use Rattle.std.proofs.lemmas.Slice.Eq.{slice_eq-Decides}
use Rattle.team.specs.Tables.{agree}
use Rattle.team.proofs.Below.{decides_every}
use lib.Pointwise.{pointwise}

module _ (n : ℕ) (xs ys : List ℕ) (a : n ≤ length xs) (b : n ≤ length ys) where
  fronts_equal : ((k : ℕ) → k < n → eqb (get_or xs k 0) (get_or ys k 0) ≡ true) → take n xs ≡ take n ys
  fronts_equal h =
      ext_get_or 0 (take n xs) (take n ys) (length-take-le n xs a ∙ sym (length-take-le n ys b))
      (λ i l. (
      let k : i < n = omega (arith, length-take-le n xs a) in
      get_or-take n xs i 0 k ∙ (Decides-eqb (get_or xs i 0) (get_or ys i 0)).0 (h i k) ∙ sym (get_or-take n ys i 0 k)))

  equal_fronts : take n xs ≡ take n ys → (k : ℕ) → k < n → eqb (get_or xs k 0) (get_or ys k 0) ≡ true
  equal_fronts e k l =
      (Decides-eqb (get_or xs k 0) (get_or ys k 0)).1 (sym (get_or-take n xs k 0 l) ∙ ap (λ zs. get_or zs k 0) e ∙ get_or-take n ys k 0 l)

  pub agree_fronts : (r : Bool) → r ≡ pointwise eqb (take n xs) (take n ys) → r ≡ agree n xs ys
  agree_fronts r e =
      let whole = slice_eq-Decides Decides-eqb (take n xs) (take n ys) r e in
      same_from_decides r (agree n xs ys)
      (Decides-like r (λ s. equal_fronts s) (λ h. fronts_equal h) whole) (decides_every n (λ p. eqb (get_or xs p 0) (get_or ys p 0)))
