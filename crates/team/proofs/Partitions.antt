-- Equivalences as partitions: the counts in a group, and its lowest place.
use Rattle.std.proofs.Common.{◌≡◌, ℕ, zero, suc, ◌+◌, ◌-◌, ◌<◌, ◌≤◌, Bool, true, false, cond, ◌⊎◌, List, [], ◌∷◌, length, get_or, set, sym, refl, ap, ◌∙◌, inl, inr, arith}
use Rattle.std.proofs.lemmas.List.{length-set, get_or-set_same, get_or-set_other, set-set, set-get_or}
use Rattle.std.proofs.lemmas.Bool.{cases_Bool, cases_lt, cases_order, both_ways}
use Rattle.team.specs.Below.{some, first, tally}
use Rattle.team.specs.Relations.{Relation, LiesIn, SameAmong}
use Rattle.net.specs.Markings.{plus}
use Rattle.team.specs.Markings.{token_more, token_less, held}
use Rattle.team.proofs.Below.{decides_some, first_is}
use Rattle.team.proofs.Sums.{tally_cong, tally_more, tally_at, tally_add, tally_some, tally_lt, cond_plus, cond_some}

pub record Equivalence (E : Relation) : Type 0 where
  pub same : (p : ℕ) → E p p ≡ true
  pub back : (p q : ℕ) → E p q ≡ true → E q p ≡ true
  pub on : (p q r : ℕ) → E p q ≡ true → E q r ≡ true → E p r ≡ true

-- related places are in one group
pub in_one : (E : Relation) → Equivalence E → (p q : ℕ) → E p q ≡ true → (c : ℕ) → E c p ≡ E c q
in_one E eq p q e c = go (cases_Bool (E c p)) (cases_Bool (E c q))
  where
    go : (E c p ≡ true) ⊎ (E c p ≡ false) → (E c q ≡ true) ⊎ (E c q ≡ false) → E c p ≡ E c q
    go (inl a) (inl b) = a ∙ sym b
    go (inl a) (inr b) = absurd (both_ways (E c q) b (eq.on c p q a e))
    go (inr a) (inl b) = absurd (both_ways (E c p) a (eq.on c q p b (eq.back p q e)))
    go (inr a) (inr b) = a ∙ sym b

-- ## Tokens in a group

-- 1 where the test holds
abbrev pub one : Bool → ℕ
one b = cond b 1 0

cond_more : (b : Bool) (x : ℕ) → cond b (x + 1) 0 ≡ cond b x 0 + one b
cond_more true x = refl
cond_more false x = refl

pub held_more : (n : ℕ) (E : Relation) (xs : List ℕ) (p c : ℕ) → p < n → n ≤ length xs → held n E (token_more p xs) c ≡ held n E xs c + one (E c p)
held_more n E xs p c l e =
    tally_more n (λ i. cond (E c i) (get_or xs i 0) 0) (λ i. cond (E c i) (get_or (token_more p xs) i 0) 0) p (one (E c p)) l
    (ap (λ x. cond (E c p) x 0) (get_or-set_same xs p (get_or xs p 0 + 1) 0 (omega arith)) ∙ cond_more (E c p) (get_or xs p 0))
    (λ i d. ap (λ x. cond (E c i) x 0) (get_or-set_other xs p i (get_or xs p 0 + 1) 0 d))

pub more_less : (xs : List ℕ) (p : ℕ) → p < length xs → 0 < get_or xs p 0 → token_more p (token_less p xs) ≡ xs
more_less xs p l h =
    let s : get_or (token_less p xs) p 0 + 1 ≡ get_or xs p 0 = omega (arith, get_or-set_same xs p (get_or xs p 0 - 1) 0 l) in
    set-set xs p (get_or xs p 0 - 1) (get_or (token_less p xs) p 0 + 1) ∙ ap (set xs p) s ∙ set-get_or xs p 0

pub held_less : (n : ℕ) (E : Relation) (xs : List ℕ) (p c : ℕ) → p < n → n ≤ length xs → 0 < get_or xs p 0 → held n E xs c ≡ held n E (token_less p xs) c + one (E c p)
held_less n E xs p c l e h =
    ap (λ v. held n E v c) (sym (more_less xs p (omega arith) h)) ∙ held_more n E (token_less p xs) p c l (omega (arith, length-set xs p (get_or xs p 0 - 1)))

-- its own group holds what a place holds
pub held_own : (n : ℕ) (E : Relation) → Equivalence E → (xs : List ℕ) (i : ℕ) → i < n → get_or xs i 0 ≤ held n E xs i
held_own n E eq xs i l = omega (arith, tally_at n (λ j. cond (E i j) (get_or xs j 0) 0) i l, ap (λ b. cond b (get_or xs i 0) 0) (eq.same i))

-- a token on p is met by one of the other marking, in p's group
pub met : (n : ℕ) (E : Relation) → Equivalence E → (xs ys : List ℕ) (p : ℕ) → p < n → 0 < get_or xs p 0 → held n E xs p ≡ held n E ys p
    → (q : ℕ) × (q < n) × (E p q ≡ true) × (0 < get_or ys q 0)
met n E eq xs ys p l g h =
    let (q, k, w) = tally_some n (λ i. cond (E p i) (get_or ys i 0) 0) (omega (arith, held_own n E eq xs p l)) in
    let (e, z) = cond_some (E p q) (get_or ys q 0) w in
    (q, k, e, z)

get_or_plus : (xs ys : List ℕ) (i : ℕ) → get_or (plus xs ys) i 0 ≡ get_or xs i 0 + get_or ys i 0
get_or_plus [] ys i = omega arith
get_or_plus (x ∷ xs) [] i = omega arith
get_or_plus (x ∷ xs) (y ∷ ys) zero = refl
get_or_plus (x ∷ xs) (y ∷ ys) (suc i) = get_or_plus xs ys i

pub held_plus : (n : ℕ) (E : Relation) (xs ys : List ℕ) (c : ℕ) → held n E (plus xs ys) c ≡ held n E xs c + held n E ys c
held_plus n E xs ys c =
    tally_cong n (λ i. cond (E c i) (get_or (plus xs ys) i 0) 0) (λ i. cond (E c i) (get_or xs i 0) 0 + cond (E c i) (get_or ys i 0) 0)
    (λ i _. ap (λ x. cond (E c i) x 0) (get_or_plus xs ys i) ∙ cond_plus (E c i) (get_or xs i 0) (get_or ys i 0))
    ∙ tally_add n (λ i. cond (E c i) (get_or xs i 0) 0) (λ i. cond (E c i) (get_or ys i 0) 0)

pub held_cong : (n : ℕ) (D E : Relation) → SameAmong n D E → (xs : List ℕ) (c : ℕ) → c < n → held n D xs c ≡ held n E xs c
held_cong n D E s xs c l =
    tally_cong n (λ i. cond (D c i) (get_or xs i 0) 0) (λ i. cond (E c i) (get_or xs i 0) 0) (λ i k. ap (λ b. cond b (get_or xs i 0) 0) (s c i l k))

-- ## The lowest place of a group

abbrev pub lowest : Relation → ℕ → ℕ
lowest E p = first p (λ q. E q p)

-- 1 where p is the lowest of its group
abbrev pub leads : Relation → ℕ → ℕ
leads E p = cond (some p (λ q. E q p)) 0 1

-- how many groups n places are in
abbrev pub leaders : ℕ → Relation → ℕ
leaders n E = tally n (leads E)

module _ (E : Relation) (eq : Equivalence E) where
  pub lowest_in : (p : ℕ) → E (lowest E p) p ≡ true
  lowest_in p =
      let F = first_is p (λ q. E q p) in
      elim (cases_lt (lowest E p) p) [ inl l ↦ F.here l | inr g ↦ (let s : lowest E p ≡ p = omega arith in rw s (eq.same p)) ]

  pub lowest_below : (p : ℕ) → lowest E p ≤ p
  lowest_below p = (first_is p (λ q. E q p)).bound

  lowest_leads : (p : ℕ) → leads E (lowest E p) ≡ 1
  lowest_leads p =
      let F = first_is p (λ q. E q p) in
      elim (cases_Bool (some (lowest E p) (λ q. E q (lowest E p)))) [
        | inl y ↦ (let (k, l, e) = (decides_some (lowest E p) (λ q. E q (lowest E p))).0 y in
            absurd (both_ways (E k p) (F.below k l) (eq.on k (lowest E p) p e (lowest_in p))))
        | inr f ↦ ap (λ b. cond b 0 1) f
      ]

  leads_not : (a b : ℕ) → a < b → E a b ≡ true → leads E b ≡ 0
  leads_not a b l e = ap (λ s. cond s 0 1) ((decides_some b (λ q. E q b)).1 (a, l, e))

  -- the lowest places tell the groups apart
  pub lowest_same : (p q : ℕ) → E p q ≡ true → lowest E p ≡ lowest E q
  lowest_same p q e =
      elim (cases_order (lowest E p) (lowest E q)) [
        | inl s ↦ s
        | inr (inl l) ↦ absurd (both_ways (E (lowest E p) q) ((first_is q (λ r. E r q)).below (lowest E p) l) (eq.on (lowest E p) p q (lowest_in p) e))
        | inr (inr l) ↦ absurd (both_ways (E (lowest E q) p) ((first_is p (λ r. E r p)).below (lowest E q) l) (eq.on (lowest E q) q p (lowest_in q) (eq.back p q e)))
      ]

  pub same_lowest : (p q : ℕ) → lowest E p ≡ lowest E q → E p q ≡ true
  same_lowest p q s = eq.on p (lowest E p) q (eq.back (lowest E p) p (lowest_in p)) (rw s (lowest_in q))

leads_most : (E : Relation) (p : ℕ) → leads E p ≤ 1
leads_most E p = elim (some p (λ q. E q p)) as (λ b. cond b 0 1 ≤ 1) [ true ↦ omega arith | false ↦ omega arith ]

pub leaders_most : (n : ℕ) (E : Relation) → leaders n E ≤ n
leaders_most zero E = omega arith
leaders_most (suc n) E = omega (arith, leads_most E n, leaders_most n E)

-- ## A finer partition has more groups

module _ (n : ℕ) (E D : Relation) (eq : Equivalence E) (dq : Equivalence D) (sub : LiesIn D E) where
  leads_grows : (p : ℕ) → leads E p ≤ leads D p
  leads_grows p =
      elim (cases_Bool (some p (λ q. D q p))) [
        | inl y ↦ (let (k, l, e) = (decides_some p (λ q. D q p)).0 y in omega (arith, leads_not E eq k p l (sub k p e)))
        | inr f ↦ omega (arith, leads_most E p, ap (λ b. cond {A = ℕ} b 0 1) f)
      ]

  splits_at : (a b : ℕ) → a < b → b < n → E a b ≡ true → leads D b ≡ 1 → leaders n E < leaders n D
  splits_at a b l k e d = tally_lt n (leads E) (leads D) b k (omega (arith, leads_not E eq a b l e)) (λ i _. leads_grows i)

  pub splits : (p q : ℕ) → p < n → q < n → E p q ≡ true → D p q ≡ false → leaders n E < leaders n D
  splits p q l k e d =
      let a = lowest D p in
      let b = lowest D q in
      let pa : E a p ≡ true = sub a p (lowest_in D dq p) in
      let qb : E b q ≡ true = sub b q (lowest_in D dq q) in
      let ab : E a b ≡ true = eq.on a p b pa (eq.on p q b e (eq.back b q qb)) in
      elim (cases_order a b) [
        | inl s ↦ absurd (both_ways (D p q) d (same_lowest D dq p q s))
        | inr (inl w) ↦ splits_at a b w (omega (arith, lowest_below D dq q)) ab (lowest_leads D dq q)
        | inr (inr w) ↦ splits_at b a w (omega (arith, lowest_below D dq p)) (eq.back a b ab) (lowest_leads D dq p)
      ]
