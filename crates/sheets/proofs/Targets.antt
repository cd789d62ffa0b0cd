-- The tokens of a transition, counted by its targets.
use Rattle.std.proofs.Common.{◌≡◌, ℕ, ◌<◌, ◌≤◌, Bool, true, cond, ◌&&◌, eqb, ltb, ◌⊎◌, List, length, get_or, sum, count_by, sym, refl, ap, ◌∙◌, inl, inr, arith}
use Rattle.std.proofs.lemmas.Bool.{eq-eqb, ne_eqb, eqb-true, lt-ltb, le-ltb}
use Rattle.std.proofs.Math.Bool.{and-true}
use Rattle.net.specs.Limits.{most_places, most_total}
use Rattle.team.specs.Below.{tally}
use Rattle.team.specs.Markings.{held}
use Rattle.team.proofs.Sums.{tally_cong, tally_more, tally_zero, tally_swap, tally_some, cond_tally, cond_zero, cond_some, sum_by_tally}
use Rattle.classing.specs.Targets.{no_target, Spells}
use Rattle.formulas.specs.Truths.{Truths}
use Rattle.sheets.specs.Doing.{stands, tokens_where, targets_in}

-- a count is a sum over the four targets
count_targets : (p : ℕ → Bool) (targets : List ℕ) → length targets ≡ most_total → count_by p targets ≡ tally most_total (λ j. cond (p (get_or targets j 0)) 1 0)
count_targets p targets e = sum_by_tally (λ x. cond {A = ℕ} (p x) 1 0) targets 0 ∙ ap (λ k. tally k (λ j. cond (p (get_or targets j 0)) 1 0)) e

module _ (n : ℕ) (few : n ≤ most_places) (puts targets : List ℕ) (S : Spells most_total n puts targets) where
  -- a target's share of the places where F holds
  at_target : (F : ℕ → Bool) (x : ℕ) → (x < n) ⊎ (x ≡ no_target)
      → tally n (λ i. cond (F i) (cond {A = ℕ} (eqb i x) 1 0) 0) ≡ cond (ltb x most_places && F x) 1 0
  at_target F x (inl k) =
      tally_more n (λ _. 0) (λ i. cond (F i) (cond {A = ℕ} (eqb i x) 1 0) 0) x (cond (F x) 1 0) k
      (ap (λ b. cond (F x) (cond {A = ℕ} b 1 0) 0) (eq-eqb x x refl) ∙ omega arith)
      (λ i d. cond_zero (F i) (cond {A = ℕ} (eqb i x) 1 0) (ap (λ b. cond {A = ℕ} b 1 0) (ne_eqb i x d)))
      ∙ omega (arith, tally_zero n (λ _. 0) (λ _ _. refl), ap (λ b. cond {A = ℕ} (b && F x) 1 0) (lt-ltb x most_places (omega arith)))
  at_target F x (inr e) =
      tally_zero n (λ i. cond (F i) (cond {A = ℕ} (eqb i x) 1 0) 0)
      (λ i r. cond_zero (F i) (cond {A = ℕ} (eqb i x) 1 0) (ap (λ b. cond {A = ℕ} b 1 0) (ne_eqb i x (omega arith))))
      ∙ sym (ap (λ b. cond {A = ℕ} (b && F x) 1 0) (le-ltb x most_places (omega arith)))

  -- the tokens on the places where F holds are the targets there
  targets_sum : (F : ℕ → Bool)
      → tally n (λ i. cond (F i) (get_or puts i 0) 0) ≡ tally most_total (λ j. cond (ltb (get_or targets j 0) most_places && F (get_or targets j 0)) 1 0)
  targets_sum F =
      tally_cong n (λ i. cond (F i) (get_or puts i 0) 0) (λ i. tally most_total (λ j. cond (F i) (cond {A = ℕ} (eqb i (get_or targets j 0)) 1 0) 0))
      (λ i k. ap (λ x. cond (F i) x 0) (sym (S.each i k)) ∙ cond_tally (F i) most_total (λ j. cond {A = ℕ} (eqb i (get_or targets j 0)) 1 0))
      ∙ tally_swap n most_total (λ i j. cond (F i) (cond {A = ℕ} (eqb i (get_or targets j 0)) 1 0) 0)
      ∙ tally_cong most_total (λ j. tally n (λ i. cond (F i) (cond {A = ℕ} (eqb i (get_or targets j 0)) 1 0) 0)) (λ j. cond (ltb (get_or targets j 0) most_places && F (get_or targets j 0)) 1 0)
      (λ j k. at_target F (get_or targets j 0) (S.known j k))

  pub held_targets : length targets ≡ most_total → (T : Truths) (a : ℕ) → held n T puts a ≡ tokens_where T targets a
  held_targets e T a = targets_sum (T a) ∙ sym (count_targets (stands T a) targets e)

  pub sum_targets : length targets ≡ most_total → length puts ≡ n → sum puts ≡ targets_in targets
  sum_targets e l =
      sum_by_tally (λ x. x) puts 0 ∙ ap (λ k. tally k (λ i. get_or puts i 0)) l ∙ targets_sum (λ _. true)
      ∙ tally_cong most_total (λ j. cond (ltb (get_or targets j 0) most_places && true) 1 0) (λ j. cond (ltb (get_or targets j 0) most_places) 1 0)
      (λ j _. ap (λ b. cond {A = ℕ} b 1 0) (and-true (ltb (get_or targets j 0) most_places)))
      ∙ sym (count_targets (λ x. ltb x most_places) targets e)

  -- a place that gets a token is a target
  pub target_of : (p : ℕ) → p < n → 0 < get_or puts p 0 → (j : ℕ) × (j < most_total) × (get_or targets j 0 ≡ p)
  target_of p l g =
      let (j, k, h) = tally_some most_total (λ j. cond {A = ℕ} (eqb p (get_or targets j 0)) 1 0) (omega (arith, S.each p l)) in
      (j, k, sym (eqb-true p (get_or targets j 0) (cond_some (eqb p (get_or targets j 0)) 1 h).0))

  -- a target that is a place is one of the net's
  pub target_known : (j : ℕ) → j < most_total → get_or targets j 0 < most_places → get_or targets j 0 < n
  target_known j k l = elim (S.known j k) [ inl h ↦ h | inr e ↦ absurd (omega arith) ]
