-- Two profiles are equal exactly where the labels are, and the classes of the targets but for their order.
use Rattle.std.proofs.Common.{◌≡◌, ℕ, suc, ◌<◌, ◌≤◌, cond, eqb, ltb, ◌⊎◌, List, [], ◌∷◌, length, get_or, sum_by, sym, refl, ap, ◌∙◌, ap₂, inl, inr, arith}
use Rattle.std.specs.List.Sorted.{IsNonDecreasing, IsPermutation}
use Rattle.std.proofs.lemmas.List.Sums.{sum_by-cons}
use Rattle.std.proofs.lemmas.List.Sorted.{sum_by-IsPermutation}
use Rattle.std.proofs.lemmas.Bool.{cases_order, eqb-true, eq-eqb, ne_eqb, lt-ltb, cond-true}
use Rattle.net.specs.Limits.{most_places}
use Rattle.team.specs.Below.{tally}
use Rattle.team.specs.Markings.{held}
use Rattle.team.specs.Tables.{same}
use Rattle.team.proofs.Sums.{tally_cong, tally_more, tally_zero, tally_swap, tally_some, cond_tally, cond_zero, cond_some, sum_by_tally}
use Rattle.classing.specs.Targets.{no_target, times, Spells}
use Rattle.classing.specs.Profiles.{class_at, spread}

-- ## Rising lists with the same elements are equal

-- 1 where x is v
abbrev pub is_one : ℕ → ℕ → ℕ
is_one v x = cond (eqb v x) 1 0

-- how often v stands in the list
abbrev pub copies : ℕ → List ℕ → ℕ
copies v = sum_by (is_one v)

pub times_copies : (xs : List ℕ) (w v : ℕ) → length xs ≡ w → copies v xs ≡ times w xs v
times_copies xs w v e = sum_by_tally (is_one v) xs 0 ∙ ap (λ k. times k xs v) e

own_copy : (v : ℕ) (xs : List ℕ) → 0 < copies v (v ∷ xs)
own_copy v xs = omega (arith, sum_by-cons (is_one v) v xs, ap (λ s. cond {A = ℕ} s 1 0) (eq-eqb v v refl))

rising_tail : (x : ℕ) (xs : List ℕ) → IsNonDecreasing (x ∷ xs) → IsNonDecreasing xs
rising_tail x xs R i j d l k = R (suc i) (suc j) d (omega arith) (omega arith)

rising_head : (x y : ℕ) (ys : List ℕ) → IsNonDecreasing (x ∷ y ∷ ys) → x ≤ y
rising_head x y ys R = R 0 1 0 (omega arith) (omega arith)

copies_none : (v x : ℕ) (xs : List ℕ) → v < x → IsNonDecreasing (x ∷ xs) → copies v (x ∷ xs) ≡ 0
copies_none v x [] l R = sum_by-cons (is_one v) x [] ∙ omega (arith, ap (λ s. cond {A = ℕ} s 1 0) (ne_eqb v x (omega arith)))
copies_none v x (y ∷ ys) l R =
    sum_by-cons (is_one v) x (y ∷ ys)
    ∙ omega (arith, ap (λ s. cond {A = ℕ} s 1 0) (ne_eqb v x (omega arith)), copies_none v y ys (omega (arith, rising_head x y ys R)) (rising_tail x (y ∷ ys) R))

-- no element is above no_target, and the lists agree on all below it
pub same_rising : (xs ys : List ℕ) → length xs ≡ length ys → IsNonDecreasing xs → IsNonDecreasing ys
    → ((v : ℕ) → 0 < copies v xs → v ≤ no_target) → ((v : ℕ) → 0 < copies v ys → v ≤ no_target)
    → ((v : ℕ) → v < no_target → copies v xs ≡ copies v ys) → xs ≡ ys
same_rising [] [] e R S a b h = refl
same_rising [] (y ∷ ys) e R S a b h = absurd (omega arith)
same_rising (x ∷ xs) [] e R S a b h = absurd (omega arith)
same_rising (x ∷ xs) (y ∷ ys) e R S a b h =
    let head : x ≡ y = elim (cases_order x y) [
      | inl q ↦ q
      | inr (inl l) ↦ absurd (omega (arith, b y (own_copy y ys), h x (omega (arith, b y (own_copy y ys))), own_copy x xs, copies_none x y ys l S))
      | inr (inr l) ↦ absurd (omega (arith, a x (own_copy x xs), h y (omega (arith, a x (own_copy x xs))), own_copy y ys, copies_none y x xs l R))
    ] in
    ap₂ ◌∷◌ head (same_rising xs ys (omega arith) (rising_tail x xs R) (rising_tail y ys S)
    (λ v k. a v (omega (arith, sum_by-cons (is_one v) x xs))) (λ v k. b v (omega (arith, sum_by-cons (is_one v) y ys)))
    (λ v k. omega (arith, h v k, sum_by-cons (is_one v) x xs, sum_by-cons (is_one v) y ys, ap (λ i. is_one v i) head)))

-- ## What is sorted keeps its counts

pub sorted_counts : (w : ℕ) (cs ts xs ys : List ℕ) → length xs ≡ w → length ys ≡ w
    → ((j : ℕ) → j < w → get_or xs j 0 ≡ class_at cs (get_or ts j 0)) → IsPermutation xs ys → (v : ℕ) → times w ys v ≡ spread w cs ts v
sorted_counts w cs ts xs ys a b at s v =
    sym (times_copies ys w v b) ∙ sum_by-IsPermutation (is_one v) xs ys s ∙ times_copies xs w v a
    ∙ tally_cong w (λ j. is_one v (get_or xs j 0)) (λ j. is_one v (class_at cs (get_or ts j 0))) (λ j l. ap (is_one v) (at j l))

-- ## What the classes of the targets say of the tokens

-- a place's entry is no higher than the place
abbrev pub Low : ℕ → List ℕ → Type 0
Low n cs = (p : ℕ) → p < n → get_or cs p 0 ≤ p

module _ (w n : ℕ) (few : n ≤ most_places) (cs : List ℕ) (low : Low n cs) where
  class_known : (x : ℕ) → x < n → class_at cs x ≡ get_or cs x 0
  class_known x l = cond-true (ltb x most_places) (get_or cs x 0) no_target (lt-ltb x most_places (omega arith))

  class_most : (x : ℕ) → (x < n) ⊎ (x ≡ no_target) → class_at cs x ≤ no_target
  class_most x (inl l) = omega (arith, class_known x l, low x l)
  class_most x (inr e) = rw e (omega arith)

  at_target : (x c : ℕ) → c < n → (x < n) ⊎ (x ≡ no_target) → tally n (λ i. cond (same cs c i) (is_one i x) 0) ≡ is_one (get_or cs c 0) (class_at cs x)
  at_target x c l (inl k) =
      tally_more n (λ _. 0) (λ i. cond (same cs c i) (is_one i x) 0) x (cond (same cs c x) 1 0) k
      (ap (λ b. cond (same cs c x) (cond {A = ℕ} b 1 0) 0) (eq-eqb x x refl) ∙ omega arith)
      (λ i d. cond_zero (same cs c i) (is_one i x) (ap (λ b. cond {A = ℕ} b 1 0) (ne_eqb i x d)))
      ∙ omega (arith, tally_zero n (λ _. 0) (λ _ _. refl), ap (is_one (get_or cs c 0)) (class_known x k))
  at_target x c l (inr e) =
      tally_zero n (λ i. cond (same cs c i) (is_one i x) 0)
      (λ i r. cond_zero (same cs c i) (is_one i x) (ap (λ b. cond {A = ℕ} b 1 0) (ne_eqb i x (omega arith))))
      ∙ sym (ap (λ b. cond {A = ℕ} b 1 0) (ne_eqb (get_or cs c 0) (class_at cs x) (λ s.
      let none : class_at cs x ≡ no_target = ap (class_at cs) e in absurd (omega (arith, low c l)))))

  module _ (puts ts : List ℕ) (S : Spells w n puts ts) where
    -- the tokens in a place's class are the targets in it
    pub held_spread : (c : ℕ) → c < n → held n (same cs) puts c ≡ spread w cs ts (get_or cs c 0)
    held_spread c l =
        tally_cong n (λ i. cond (same cs c i) (get_or puts i 0) 0) (λ i. tally w (λ j. cond (same cs c i) (is_one i (get_or ts j 0)) 0))
        (λ i k. ap (λ x. cond (same cs c i) x 0) (sym (S.each i k)) ∙ cond_tally (same cs c i) w (λ j. is_one i (get_or ts j 0)))
        ∙ tally_swap n w (λ i j. cond (same cs c i) (is_one i (get_or ts j 0)) 0)
        ∙ tally_cong w (λ j. tally n (λ i. cond (same cs c i) (is_one i (get_or ts j 0)) 0)) (λ j. is_one (get_or cs c 0) (class_at cs (get_or ts j 0)))
        (λ j k. at_target (get_or ts j 0) c l (S.known j k))

    -- a class of some target is one of a place, or none
    spread_some : (v : ℕ) → 0 < spread w cs ts v → (j : ℕ) × (j < w) × (v ≡ class_at cs (get_or ts j 0))
    spread_some v h =
        let (j, k, r) = tally_some w (λ j. is_one v (class_at cs (get_or ts j 0))) h in
        (j, k, eqb-true v (class_at cs (get_or ts j 0)) (cond_some (eqb v (class_at cs (get_or ts j 0))) 1 r).0)

    pub spread_most : (v : ℕ) → 0 < spread w cs ts v → v ≤ no_target
    spread_most v h =
        let (j, k, e) = spread_some v h in omega (arith, class_most (get_or ts j 0) (S.known j k))

    pub spread_known : (v : ℕ) → v < no_target → 0 < spread w cs ts v → (c : ℕ) × (c < n) × (v ≡ get_or cs c 0)
    spread_known v l h =
        let (j, k, e) = spread_some v h in
        elim (S.known j k) [
          | inl r ↦ (get_or ts j 0, r, e ∙ class_known (get_or ts j 0) r)
          | inr r ↦ absurd (let none : class_at cs (get_or ts j 0) ≡ no_target = ap (class_at cs) r in omega arith)
        ]
