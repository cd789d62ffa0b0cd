-- Zeros before and after a list of counts.
use Rattle.std.specs.Prelude.{◌≡◌, ℕ, zero, suc, List, ◌++◌, replicate, sum, slice_index, refl}
use Rattle.std.proofs.Common.{arith, ◌∙◌}
use Rattle.std.proofs.lemmas.List.Sums.{sum_by-append}
use Rattle.std.proofs.lemmas.List.Folds.{sum_by-replicate}

-- n places without a token
abbrev pub zeros : ℕ → List ℕ
zeros n = replicate n 0

pub get_or_zeros : (n p : ℕ) → slice_index (zeros n) p ≡ 0
get_or_zeros zero p = refl
get_or_zeros (suc n) zero = refl
get_or_zeros (suc n) (suc p) = get_or_zeros n p

pub sum_zeros : (n : ℕ) → sum (zeros n) ≡ 0
sum_zeros n = omega (arith, sum_by-replicate (λ x. x) n 0)

pub sum_append_zeros : (xs : List ℕ) (n : ℕ) → sum (xs ++ zeros n) ≡ sum xs
sum_append_zeros xs n = sum_by-append (λ x. x) xs (zeros n) ∙ omega (arith, sum_zeros n)

pub sum_zeros_append : (n : ℕ) (xs : List ℕ) → sum (zeros n ++ xs) ≡ sum xs
sum_zeros_append n xs = sum_by-append (λ x. x) (zeros n) xs ∙ omega (arith, sum_zeros n)
