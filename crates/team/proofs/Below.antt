-- Tests of the numbers below n, and the lowest number with a property.
use Rattle.std.proofs.Common.{◌≡◌, ℕ, zero, suc, ◌+◌, ◌<◌, ◌≤◌, Bool, true, false, cond, not, ◌&&◌, ◌||◌, Decides, sym, refl, ap, ◌∙◌, ap₂, inl, inr, arith}
use Rattle.std.proofs.lemmas.Bool.Decides.{Decides-below_and, Decides-below_or}
use Rattle.std.proofs.lemmas.Bool.{cases_Bool, cases_lt, cases_order, both_ways}
use Rattle.team.specs.Below.{every, some, first}

-- ## Tests

pub decides_every : (n : ℕ) (P : ℕ → Bool) → Decides (every n P) ((k : ℕ) → k < n → P k ≡ true)
decides_every n P = Decides-below_and P (λ k. P k ≡ true) (λ n. every n P) (λ k. (λ e. e, λ e. e)) refl (λ _. refl) n

pub decides_some : (n : ℕ) (P : ℕ → Bool) → Decides (some n P) ((k : ℕ) × (k < n) × (P k ≡ true))
decides_some n P = Decides-below_or P (λ k. P k ≡ true) (λ n. some n P) (λ k. (λ e. e, λ e. e)) refl (λ _. refl) n

pub decides_implies : {P Q : Type 0} (x y : Bool) → Decides x P → Decides y Q → Decides (not x || y) (P → Q)
decides_implies true y d e = (λ h _. e.0 h, λ f. e.1 (f (d.0 refl)))
decides_implies false y d e = (λ h p. absurd (both_ways false refl (d.1 p)), λ _. refl)

-- one more turn of a loop
pub every_next : (k : ℕ) (P : ℕ → Bool) → every (k + 1) P ≡ (P k && every k P)
every_next k P = let e : k + 1 ≡ suc k = omega arith in rw e

pub some_next : (k : ℕ) (P : ℕ → Bool) → some (k + 1) P ≡ (P k || some k P)
some_next k P = let e : k + 1 ≡ suc k = omega arith in rw e

pub every_cong : (n : ℕ) (P Q : ℕ → Bool) → ((i : ℕ) → i < n → P i ≡ Q i) → every n P ≡ every n Q
every_cong zero P Q h = refl
every_cong (suc n) P Q h = ap₂ ◌&&◌ (h n (omega arith)) (every_cong n P Q (λ i l. h i (omega arith)))

-- a test that fails somewhere
pub every_fails : (n : ℕ) (P : ℕ → Bool) → every n P ≡ false → (k : ℕ) × (k < n) × (P k ≡ false)
every_fails zero P e = absurd (both_ways true e refl)
every_fails (suc n) P e =
    elim (cases_Bool (P n)) [
      | inl y ↦ (let (k, l, f) = every_fails n P (sym (ap (λ b. b && every n P) y) ∙ e) in (k, omega arith, f))
      | inr f ↦ (n, omega arith, f)
    ]

pub every_not : (n : ℕ) (P : ℕ → Bool) (k : ℕ) → k < n → P k ≡ false → every n P ≡ false
every_not n P k l e =
    elim (cases_Bool (every n P)) [ inl y ↦ absurd (both_ways (P k) e ((decides_every n P).0 y k l)) | inr f ↦ f ]

pub some_yes : (n : ℕ) (P : ℕ → Bool) (k : ℕ) → k < n → P k ≡ true → some n P ≡ true
some_yes n P k l e = (decides_some n P).1 (k, l, e)

-- ## The lowest

-- f is the lowest number below n with the property, or n
pub record First (n : ℕ) (P : ℕ → Bool) (f : ℕ) : Type 0 where
  pub bound : f ≤ n
  pub below : (i : ℕ) → i < f → P i ≡ false
  pub here : f < n → P f ≡ true

pub first_is : (n : ℕ) (P : ℕ → Bool) → First n P (first n P)
first_is zero P = record { bound = omega arith; below = λ i h. absurd (omega arith); here = λ h. absurd (omega arith) }
first_is (suc n) P = go (first_is n P) (P (first n P)) refl
  where
    go : First n P (first n P) → (b : Bool) → P (first n P) ≡ b → First (suc n) P (cond b (first n P) (suc (first n P)))
    go F true e = record { bound = omega arith; below = F.below; here = λ _. e }
    go F false e = record { bound = omega arith; below = below'; here = here' }
      where
        below' : (i : ℕ) → i < suc (first n P) → P i ≡ false
        below' i h = elim (cases_lt i (first n P)) [ inl l ↦ F.below i l | inr l ↦ (let s : i ≡ first n P = omega arith in rw s e) ]

        here' : suc (first n P) < suc n → P (suc (first n P)) ≡ true
        here' h = absurd (both_ways (P (first n P)) e (F.here (omega arith)))

pub first_most : (n : ℕ) (P : ℕ → Bool) → first n P ≤ n
first_most n P = (first_is n P).bound

-- there is one lowest
pub first_one : (n : ℕ) (P : ℕ → Bool) (f g : ℕ) → First n P f → First n P g → f ≡ g
first_one n P f g F G =
    elim (cases_order f g) [
      | inl e ↦ e
      | inr (inl l) ↦ absurd (both_ways (P f) (G.below f l) (F.here (omega (arith, G.bound))))
      | inr (inr l) ↦ absurd (both_ways (P g) (F.below g l) (G.here (omega (arith, F.bound))))
    ]

-- what a search loop ends with
pub first_found : (n : ℕ) (P : ℕ → Bool) (f : ℕ) → f ≤ n → ((i : ℕ) → i < f → P i ≡ false) → (f < n → P f ≡ true) → f ≡ first n P
first_found n P f b l h = first_one n P f (first n P) (record { bound = b; below = l; here = h }) (first_is n P)

pub first_cong : (n : ℕ) (P Q : ℕ → Bool) → ((i : ℕ) → i < n → P i ≡ Q i) → first n P ≡ first n Q
first_cong zero P Q h = refl
first_cong (suc n) P Q h =
    let e : first n P ≡ first n Q = first_cong n P Q (λ i l. h i (omega arith)) in
    let b : P (first n P) ≡ Q (first n Q) = h (first n P) (omega (arith, (first_is n P).bound)) ∙ ap Q e in
    ap₂ (λ s f. cond s f (suc f)) b e

pub first_all : (n : ℕ) → first n (λ _. true) ≡ 0
first_all zero = refl
first_all (suc n) = first_all n
