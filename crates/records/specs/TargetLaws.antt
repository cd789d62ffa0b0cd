-- Sums over places, and how many tokens a list of targets puts on each, whatever its width.
use Rattle.std.specs.Prelude.{◌≡◌, ℕ, zero, suc, ◌+◌, ◌<◌, ◌≤◌, Bool, true, false, cond, List, [], ◌∷◌, map, length, sum, ◌==◌, nat_lt, refl}
use Rattle.std.proofs.Common.{add-one, arith, ap, subst}
use Rattle.std.specs.List.{range_with_len}
use Rattle.std.proofs.lemmas.List.Sums.{sum_by-cons}
use Rattle.std.proofs.lemmas.List.FromFn.{sum_by-map-range_with_len_more}
use Rattle.std.proofs.lemmas.Bool.{and_parts, and_from, ltb-true, lt-ltb, eqb-true, eqb-false, ne_eqb}
use Rattle.records.specs.Entry.{below}
use Rattle.records.specs.File.{tokens_to}

pub below_more : (n m : ℕ) (ts : List ℕ) → n ≤ m → below n ts ≡ true → below m ts ≡ true
below_more n m [] h e = refl
below_more n m (t ∷ ts) h e =
    let both = and_parts (nat_lt t n) (below n ts) e in
    let small = ltb-true t n both.0 in
    and_from (nat_lt t m) (below m ts) (lt-ltb t m (omega arith)) (below_more n m ts h both.1)

-- the sum of f over the first n places
abbrev pub over : (ℕ → ℕ) → ℕ → ℕ
over f n = sum (map f (range_with_len 0 n))

over_more : (f : ℕ → ℕ) (n : ℕ) → over f (suc n) ≡ over f n + f n
over_more f n = subst (λ m. over f m ≡ over f n + f n) (add-one n) (sum_by-map-range_with_len_more (λ x. x) f 0 n n (omega arith))

pub over_none : (n : ℕ) → over (λ p. 0) n ≡ 0
over_none zero = refl
over_none (suc n) = omega (arith, over_more (λ p. 0) n, over_none n)

pub over_add : (f g h : ℕ → ℕ) (n : ℕ) → ((p : ℕ) → h p ≡ f p + g p) → over h n ≡ over f n + over g n
over_add f g h zero e = refl
over_add f g h (suc n) e = omega (arith, over_more h n, over_more f n, over_more g n, over_add f g h n e, e n)

-- c on place t, nothing elsewhere
abbrev pub only : ℕ → ℕ → ℕ → ℕ
only c t p = cond (t == p) c 0

over_miss : (c t n : ℕ) → n ≤ t → over (only c t) n ≡ 0
over_miss c t zero h = refl
over_miss c t (suc n) h =
    let e : only c t n ≡ 0 = ap (λ v. cond v c 0) (ne_eqb t n (λ e. omega arith)) in
    omega (arith, over_more (only c t) n, over_miss c t n (omega arith))

pub over_only : (c t n : ℕ) → t < n → over (only c t) n ≡ c
over_only c t zero h = absurd (omega arith)
over_only c t (suc n) h = go (over_only c t n) (t == n) refl
  where
    go : (t < n → over (only c t) n ≡ c) → (v : Bool) → (t == n) ≡ v → over (only c t) (suc n) ≡ c
    go ih true e =
        let same = eqb-true t n e in
        let here : only c t n ≡ c = ap (λ v. cond v c 0) e in
        omega (arith, over_more (only c t) n, over_miss c t n (omega arith))
    go ih false e =
        let apart = eqb-false t n e in
        let here : only c t n ≡ 0 = ap (λ v. cond v c 0) e in
        omega (arith, over_more (only c t) n, ih (omega arith))

-- targets that are all known add up to their number
pub sum_tokens : (n : ℕ) (ts : List ℕ) → below n ts ≡ true → over (tokens_to ts) n ≡ length ts
sum_tokens n [] e = over_none n
sum_tokens n (t ∷ ts) e =
    let both = and_parts (nat_lt t n) (below n ts) e in
    omega (arith, over_add (only 1 t) (tokens_to ts) (tokens_to (t ∷ ts)) n (λ p. sum_by-cons (λ x. cond (x == p) 1 0) t ts), over_only 1 t n (ltb-true t n both.0), sum_tokens n ts both.1)
