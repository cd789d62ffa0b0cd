-- Sums over the numbers below n.
use Rattle.std.proofs.Common.{◌≡◌, ℕ, zero, suc, ◌+◌, ◌-◌, ◌<◌, ◌≤◌, Bool, true, false, cond, ◌≢◌, List, [], ◌∷◌, length, get_or, sum_by, sym, refl, ap, inl, inr, arith}
use Rattle.std.proofs.lemmas.List.Sums.{sum_by-cons}
use Rattle.std.proofs.lemmas.Bool.{cases_eq, cases_lt}
use Rattle.team.specs.Below.{tally}

-- ## Sums of equal, smaller and larger terms

pub tally_cong : (n : ℕ) (f g : ℕ → ℕ) → ((i : ℕ) → i < n → f i ≡ g i) → tally n f ≡ tally n g
tally_cong zero f g h = refl
tally_cong (suc n) f g h = omega (arith, h n (omega arith), tally_cong n f g (λ i l. h i (omega arith)))

pub tally_le : (n : ℕ) (f g : ℕ → ℕ) → ((i : ℕ) → i < n → f i ≤ g i) → tally n f ≤ tally n g
tally_le zero f g h = omega arith
tally_le (suc n) f g h = omega (arith, h n (omega arith), tally_le n f g (λ i l. h i (omega arith)))

pub tally_lt : (n : ℕ) (f g : ℕ → ℕ) (j : ℕ) → j < n → f j < g j → ((i : ℕ) → i < n → f i ≤ g i) → tally n f < tally n g
tally_lt zero f g j l s h = absurd (omega arith)
tally_lt (suc n) f g j l s h =
    elim (cases_eq j n) [
      | inl e ↦ omega (arith, ap f e, ap g e, tally_le n f g (λ i w. h i (omega arith)))
      | inr d ↦ omega (arith, h n (omega arith), tally_lt n f g j (omega arith) s (λ i w. h i (omega arith)))
    ]

-- a sum that is as large as it can be is so at each place
pub tally_tight : (n : ℕ) (f g : ℕ → ℕ) → ((i : ℕ) → i < n → f i ≤ g i) → tally n g ≤ tally n f → (i : ℕ) → i < n → f i ≡ g i
tally_tight n f g h s i l =
    elim (cases_lt (f i) (g i)) [ inl w ↦ absurd (omega (arith, tally_lt n f g i l w h)) | inr w ↦ omega (arith, h i l) ]

-- k more at p
pub tally_more : (n : ℕ) (f g : ℕ → ℕ) (p k : ℕ) → p < n → g p ≡ f p + k → ((i : ℕ) → i ≢ p → g i ≡ f i) → tally n g ≡ tally n f + k
tally_more zero f g p k l e h = absurd (omega arith)
tally_more (suc n) f g p k l e h =
    elim (cases_eq n p) [
      | inl s ↦ omega (arith, (rw (← s) at e), tally_cong n f g (λ i l'. sym (h i (omega arith))))
      | inr d ↦ omega (arith, h n d, tally_more n f g p k (omega arith) e h)
    ]

pub tally_zero : (n : ℕ) (f : ℕ → ℕ) → ((i : ℕ) → i < n → f i ≡ 0) → tally n f ≡ 0
tally_zero zero f h = refl
tally_zero (suc n) f h = omega (arith, h n (omega arith), tally_zero n f (λ i l. h i (omega arith)))

-- ## Parts of a sum

pub tally_at : (n : ℕ) (f : ℕ → ℕ) (i : ℕ) → i < n → f i ≤ tally n f
tally_at zero f i l = absurd (omega arith)
tally_at (suc n) f i l =
    elim (cases_eq i n) [ inl s ↦ omega (arith, ap f s) | inr d ↦ omega (arith, tally_at n f i (omega arith)) ]

pub tally_some : (n : ℕ) (f : ℕ → ℕ) → 0 < tally n f → (i : ℕ) × (i < n) × (0 < f i)
tally_some zero f h = absurd (omega arith)
tally_some (suc n) f h =
    elim (cases_lt 0 (f n)) [
      | inl s ↦ (n, omega arith, s)
      | inr d ↦ (let (i, l, k) = tally_some n f (omega arith) in (i, omega arith, k))
    ]

-- the terms before k, and that at k
pub tally_front : (n k : ℕ) (f : ℕ → ℕ) → k < n → tally k f + f k ≤ tally n f
tally_front zero k f l = absurd (omega arith)
tally_front (suc n) k f l =
    elim (cases_eq k n) [
      | inl e ↦ omega (arith, ap f e, ap (λ i. tally i f) e)
      | inr d ↦ omega (arith, tally_front n k f (omega arith))
    ]

pub tally_grows : (n k : ℕ) (f : ℕ → ℕ) → k ≤ n → tally k f ≤ tally n f
tally_grows zero k f l = let e : k ≡ 0 = omega arith in rw e (omega arith)
tally_grows (suc n) k f l = elim (cases_eq k (suc n)) [ inl e ↦ rw e (omega arith) | inr d ↦ omega (arith, tally_grows n k f (omega arith)) ]

-- the terms before k, and a later one
pub tally_past : (n k i : ℕ) (f : ℕ → ℕ) → k ≤ i → i < n → tally k f + f i ≤ tally n f
tally_past zero k i f a b = absurd (omega arith)
tally_past (suc n) k i f a b =
    elim (cases_eq i n) [ inl e ↦ omega (arith, ap f e, tally_grows n k f (omega arith)) | inr d ↦ omega (arith, tally_past n k i f a (omega arith)) ]

-- a sum of which each step keeps within x
pub tally_within : (n x : ℕ) (f : ℕ → ℕ) → ((i : ℕ) → i < n → f i ≤ x - tally i f) → tally n f ≤ x
tally_within zero x f h = omega arith
tally_within (suc n) x f h = omega (arith, h n (omega arith), tally_within n x f (λ i l. h i (omega arith)))

-- one more turn of a loop
pub tally_next : (k : ℕ) (f : ℕ → ℕ) → tally (k + 1) f ≡ f k + tally k f
tally_next k f = let e : k + 1 ≡ suc k = omega arith in rw e

-- ## Sums of sums

pub tally_add : (n : ℕ) (f g : ℕ → ℕ) → tally n (λ i. f i + g i) ≡ tally n f + tally n g
tally_add zero f g = refl
tally_add (suc n) f g = omega (arith, tally_add n f g)

-- a sum by rows is the sum by columns
pub tally_swap : (n k : ℕ) (f : ℕ → ℕ → ℕ) → tally n (λ i. tally k (f i)) ≡ tally k (λ j. tally n (λ i. f i j))
tally_swap zero k f = sym (tally_zero k (λ _. 0) (λ _ _. refl))
tally_swap (suc n) k f = omega (arith, tally_swap n k f, tally_add k (f n) (λ j. tally n (λ i. f i j)))

-- ## Terms that count only by a test

pub cond_tally : (b : Bool) (n : ℕ) (f : ℕ → ℕ) → cond b (tally n f) 0 ≡ tally n (λ i. cond b (f i) 0)
cond_tally true n f = refl
cond_tally false n f = sym (tally_zero n (λ _. 0) (λ _ _. refl))

pub cond_zero : (b : Bool) (x : ℕ) → x ≡ 0 → cond b x 0 ≡ 0
cond_zero true x e = e
cond_zero false x e = refl

pub cond_le : (b : Bool) (x y : ℕ) → x ≤ y → cond b x 0 ≤ cond b y 0
cond_le true x y h = h
cond_le false x y h = omega arith

pub cond_same : (b : Bool) (x y : ℕ) → (b ≡ true → x ≡ y) → cond b x 0 ≡ cond b y 0
cond_same true x y h = h refl
cond_same false x y h = refl

pub cond_plus : (b : Bool) (x y : ℕ) → cond b (x + y) 0 ≡ cond b x 0 + cond b y 0
cond_plus true x y = refl
cond_plus false x y = refl

pub cond_some : (b : Bool) (x : ℕ) → 0 < cond b x 0 → (b ≡ true) × (0 < x)
cond_some true x h = (refl, h)
cond_some false x h = absurd (omega arith)

-- ## Sums of a list

pub tally_cons : (n : ℕ) (f : ℕ → ℕ) → tally (suc n) f ≡ f 0 + tally n (λ i. f (suc i))
tally_cons zero f = refl
tally_cons (suc n) f = omega (arith, tally_cons n f)

pub sum_by_tally : {X : Type 0} (f : X → ℕ) (xs : List X) (d : X) → sum_by f xs ≡ tally (length xs) (λ i. f (get_or xs i d))
sum_by_tally f [] d = refl
sum_by_tally f (x ∷ xs) d = omega (arith, sum_by-cons f x xs, sum_by_tally f xs d, tally_cons (length xs) (λ i. f (get_or (x ∷ xs) i d)))
