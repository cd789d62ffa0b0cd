-- Tokens put on places and taken from them: lengths, sums, and markings added place by place.
use Rattle.std.proofs.Common.{◌≡◌, ℕ, zero, suc, ◌+◌, ◌-◌, ◌<◌, ◌≤◌, List, [], ◌∷◌, ◌++◌, length, get_or, take, set, sum, sym, refl, ap, ◌∙◌, arith}
use Rattle.std.proofs.lemmas.List.{length-set, get_or_append_left, set-append_left}
use Rattle.std.proofs.lemmas.List.Sums.{sum_by-cons, sum_by-set, get_or-le-sum_by}
use Rattle.net.specs.Meaning.{Meaning, transition, total_of}
use Rattle.net.specs.Markings.{more, fewer, plus, fired}

-- ## One place

pub get_or_le_sum : (xs : List ℕ) (p : ℕ) → p < length xs → get_or xs p 0 ≤ sum xs
get_or_le_sum xs p h = get_or-le-sum_by (λ x. x) xs p 0 h

pub sum_more : (xs : List ℕ) (p k : ℕ) → p < length xs → sum (more xs p k) ≡ sum xs + k
sum_more xs p k h = omega (arith, sum_by-set (λ x. x) xs p (get_or xs p 0 + k) 0 h)

pub sum_fewer : (xs : List ℕ) (p k : ℕ) → p < length xs → k ≤ get_or xs p 0 → sum (fewer xs p k) + k ≡ sum xs
sum_fewer xs p k h enough = omega (arith, sum_by-set (λ x. x) xs p (get_or xs p 0 - k) 0 h)

-- ## Sums of markings

pub plus_nil : (xs : List ℕ) → plus xs [] ≡ xs
plus_nil [] = refl
plus_nil (x ∷ xs) = refl

pub sum_plus : (xs ys : List ℕ) → sum (plus xs ys) ≡ sum xs + sum ys
sum_plus [] ys = omega arith
sum_plus (x ∷ xs) [] = omega arith
sum_plus (x ∷ xs) (y ∷ ys) =
    omega (arith, sum_by-cons (λ k. k) (x + y) (plus xs ys), sum_by-cons (λ k. k) x xs, sum_by-cons (λ k. k) y ys, sum_plus xs ys)

pub length_plus : (xs ys : List ℕ) → length ys ≤ length xs → length (plus xs ys) ≡ length xs
length_plus [] [] h = refl
length_plus [] (y ∷ ys) h = absurd (omega (arith, h))
length_plus (x ∷ xs) [] h = refl
length_plus (x ∷ xs) (y ∷ ys) h = ap suc (length_plus xs ys (omega (arith, h)))

pub plus_append : (xs ys zs : List ℕ) → length ys ≤ length xs → plus (xs ++ zs) ys ≡ plus xs ys ++ zs
plus_append [] [] zs h = plus_nil zs
plus_append [] (y ∷ ys) zs h = absurd (omega (arith, h))
plus_append (x ∷ xs) [] zs h = refl
plus_append (x ∷ xs) (y ∷ ys) zs h = ap (λ ws. (x + y) ∷ ws) (plus_append xs ys zs (omega (arith, h)))

-- ## One place after the other

pub plus_take_none : (xs ys : List ℕ) → plus xs (take 0 ys) ≡ xs
plus_take_none xs ys = plus_nil xs

pub plus_take_suc : (xs ys : List ℕ) (p : ℕ) → p < length xs → p < length ys → plus xs (take (suc p) ys) ≡ more (plus xs (take p ys)) p (get_or ys p 0)
plus_take_suc [] ys p h k = absurd (omega (arith, h))
plus_take_suc (x ∷ xs) [] p h k = absurd (omega (arith, k))
plus_take_suc (x ∷ xs) (y ∷ ys) zero h k = ap (λ zs. (x + y) ∷ zs) (plus_nil xs)
plus_take_suc (x ∷ xs) (y ∷ ys) (suc p) h k = ap (λ zs. (x + y) ∷ zs) (plus_take_suc xs ys p (omega (arith, h)) (omega (arith, k)))

pub plus_take_more : (xs ys : List ℕ) (p : ℕ) → p < length xs → p < length ys → plus xs (take (p + 1) ys) ≡ more (plus xs (take p ys)) p (get_or ys p 0)
plus_take_more xs ys p h k = let e : p + 1 ≡ suc p = omega arith in rw e (plus_take_suc xs ys p h k)

plus_none : (xs ys : List ℕ) → length ys ≤ length xs → sum ys ≡ 0 → xs ≡ plus xs ys
plus_none [] [] h e = refl
plus_none [] (y ∷ ys) h e = absurd (omega (arith, h))
plus_none (x ∷ xs) [] h e = refl
plus_none (x ∷ xs) (y ∷ ys) h e =
    let parts = sum_by-cons (λ k. k) y ys in
    let here : x ≡ x + y = omega (arith, parts, e) in
    ap (λ k. k ∷ xs) here ∙ ap (λ zs. (x + y) ∷ zs) (plus_none xs ys (omega (arith, h)) (omega (arith, parts, e)))

-- once all tokens are put down, the places that are left get none
pub plus_take_all : (xs ys : List ℕ) (p : ℕ) → length ys ≤ length xs → sum (take p ys) ≡ sum ys → plus xs (take p ys) ≡ plus xs ys
plus_take_all xs ys zero h e = plus_nil xs ∙ plus_none xs ys h (sym e)
plus_take_all [] [] (suc p) h e = refl
plus_take_all [] (y ∷ ys) (suc p) h e = absurd (omega (arith, h))
plus_take_all (x ∷ xs) [] (suc p) h e = refl
plus_take_all (x ∷ xs) (y ∷ ys) (suc p) h e =
    ap (λ zs. (x + y) ∷ zs) (plus_take_all xs ys p (omega (arith, h)) (omega (arith, sum_by-cons (λ k. k) y (take p ys), sum_by-cons (λ k. k) y ys, e)))

-- ## Firing a transition

-- each place beyond the marking stays as it was
pub fired_append : (m : Meaning) (t : ℕ) (xs zs : List ℕ) → (transition m t).place < length xs → length (transition m t).puts ≤ length xs → fired m t (xs ++ zs) ≡ fired m t xs ++ zs
fired_append m t xs zs place targets =
    let p = (transition m t).place in
    let taken : fewer (xs ++ zs) p 1 ≡ fewer xs p 1 ++ zs =
    ap (λ (k : ℕ). set (xs ++ zs) p (k - 1)) (get_or_append_left xs zs 0 p place) ∙ set-append_left xs zs p (get_or xs p 0 - 1) place in
    let within : length (transition m t).puts ≤ length (fewer xs p 1) = omega (arith, targets, length-set xs p (get_or xs p 0 - 1)) in
    ap (λ ws. plus ws (transition m t).puts) taken ∙ plus_append (fewer xs p 1) (transition m t).puts zs within

pub length_fired : (m : Meaning) (t : ℕ) (xs : List ℕ) → length (transition m t).puts ≤ length xs → length (fired m t xs) ≡ length xs
length_fired m t xs targets =
    let p = (transition m t).place in
    let same : length (fewer xs p 1) ≡ length xs = length-set xs p (get_or xs p 0 - 1) in
    length_plus (fewer xs p 1) (transition m t).puts (omega (arith, targets, same)) ∙ same

pub sum_fired : (m : Meaning) (t : ℕ) (xs : List ℕ) → (transition m t).place < length xs → 1 ≤ get_or xs (transition m t).place 0
    → sum (fired m t xs) + 1 ≡ sum xs + total_of (transition m t)
sum_fired m t xs place there =
    let p = (transition m t).place in
    omega (arith, sum_plus (fewer xs p 1) (transition m t).puts, sum_fewer xs p 1 place there)
