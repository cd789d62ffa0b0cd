-- The additive closure of an equivalence: equally many tokens in each group.
use Rattle.std.proofs.Common.{◌≡◌, ℕ, zero, suc, ◌+◌, ◌-◌, ◌<◌, true, cond, List, length, get_or, sym, refl, ap, ◌∙◌, subst₂, arith}
use Rattle.std.proofs.lemmas.List.{length-set, length-replicate, get_or-replicate, ext_get_or}
use Rattle.net.specs.Lists.{zeros}
use Rattle.team.specs.Below.{tally}
use Rattle.team.specs.Relations.{Relation, LiesIn}
use Rattle.team.specs.Markings.{token_less, held, EvenBy}
use Rattle.team.specs.Closure.{Closure, none, more}
use Rattle.team.proofs.Sums.{tally_zero, tally_at, tally_some, cond_zero}
use Rattle.team.proofs.Partitions.{Equivalence, in_one, one, held_more, held_less, held_own, more_less, met}

pub closure_length : (n : ℕ) (R : Relation) {xs ys : List ℕ} → Closure n R xs ys → (length xs ≡ n) × (length ys ≡ n)
closure_length n R none = (length-replicate n 0, length-replicate n 0)
closure_length n R (more {xs = xs} {ys = ys} p q l k r c) =
    let (a, b) = closure_length n R c in (length-set xs p (get_or xs p 0 + 1) ∙ a, length-set ys q (get_or ys q 0 + 1) ∙ b)

-- what the closure relates has equally many tokens in each group
pub closure_even : (n : ℕ) (R E : Relation) → Equivalence E → LiesIn R E → {xs ys : List ℕ} → Closure n R xs ys → (c : ℕ) → held n E xs c ≡ held n E ys c
closure_even n R E eq sub none c = refl
closure_even n R E eq sub (more {xs = xs} {ys = ys} p q l k r rest) c =
    let (a, b) = closure_length n R rest in
    omega (
      arith,
      held_more n E xs p c l (omega arith),
      held_more n E ys q c k (omega arith),
      closure_even n R E eq sub rest c,
      ap one (in_one E eq p q (sub p q r) c),
    )

pub all_zero : (n : ℕ) (xs : List ℕ) → length xs ≡ n → ((i : ℕ) → i < n → get_or xs i 0 ≡ 0) → xs ≡ zeros n
all_zero n xs e h = ext_get_or 0 xs (zeros n) (e ∙ sym (length-replicate n 0)) (λ i l. h i (omega arith) ∙ sym (get_or-replicate n i 0 0 (omega arith)))

-- and the other way round, token by token
module _ (n : ℕ) (E R : Relation) (eq : Equivalence E) (sub : (p q : ℕ) → p < n → q < n → E p q ≡ true → R p q ≡ true) where
  from_even : (k : ℕ) (xs ys : List ℕ) → length xs ≡ n → length ys ≡ n → EvenBy n E xs ys → tally n (λ i. get_or xs i 0) ≡ k → Closure n R xs ys
  from_even zero xs ys a b h t =
      let x : (i : ℕ) → i < n → get_or xs i 0 ≡ 0 = λ i l. omega (arith, tally_at n (λ i. get_or xs i 0) i l) in
      let y : (i : ℕ) → i < n → get_or ys i 0 ≡ 0 =
      λ i l. omega (arith, held_own n E eq ys i l, h i l, tally_zero n (λ j. cond (E i j) (get_or xs j 0) 0) (λ j k. cond_zero (E i j) (get_or xs j 0) (x j k))) in
      subst₂ (Closure n R) (sym (all_zero n xs a x)) (sym (all_zero n ys b y)) none
  from_even (suc k) xs ys a b h t =
      let (p, l, g) = tally_some n (λ i. get_or xs i 0) (omega arith) in
      let (q, l', e, g') = met n E eq xs ys p l g (h p l) in
      let rest : Closure n R (token_less p xs) (token_less q ys) =
      from_even k (token_less p xs) (token_less q ys) (length-set xs p (get_or xs p 0 - 1) ∙ a) (length-set ys q (get_or ys q 0 - 1) ∙ b)
      (λ c w. omega (arith, h c w, held_less n E xs p c l (omega arith) g, held_less n E ys q c l' (omega arith) g', ap one (in_one E eq p q e c)))
      (omega (arith, held_less n (λ _ _. true) xs p 0 l (omega arith) g)) in
      subst₂ (Closure n R) (more_less xs p (omega arith) g) (more_less ys q (omega arith) g') (more p q l l' (sub p q l l' e) rest)

  pub closure_from_even : (xs ys : List ℕ) → length xs ≡ n → length ys ≡ n → EvenBy n E xs ys → Closure n R xs ys
  closure_from_even xs ys a b h = from_even (tally n (λ i. get_or xs i 0)) xs ys a b h refl
