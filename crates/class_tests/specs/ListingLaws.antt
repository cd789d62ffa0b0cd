-- What a listed net answers, and that it keeps the limits.
use Rattle.std.specs.Prelude.{◌≡◌, ℕ, zero, suc, ◌+◌, ◌<◌, ◌≤◌, true, cond, ◌&&◌, ◌⊎◌, List, map, length, get_or, ◌==◌, nat_le, nat_lt, slice_index, slice_index_or, refl}
use Rattle.std.proofs.Common.{sym, ap, ◌∙◌, inl, inr, arith}
use Rattle.std.specs.List.{range_with_len}
use Rattle.std.proofs.lemmas.List.{get_or-map, get_or_past, length-map}
use Rattle.std.proofs.lemmas.List.Sums.{AllPass-from_list_all}
use Rattle.std.proofs.lemmas.List.FromFn.{length-map-range_with_len, get_or-map-range_with_len}
use Rattle.std.proofs.lemmas.Bool.{and_parts, or_cases, leb-true, ltb-true, eqb-true, eq-eqb, ne_eqb}
use Rattle.net.specs.Meaning.{transition, idle, count_of, tokens_on, total_of}
use Rattle.net.specs.Limits.{Lawful, most_places, most_transitions, most_label, most_total}
use Rattle.team.specs.Below.{tally}
use Rattle.team.proofs.Below.{decides_every}
use Rattle.team.proofs.Sums.{tally_cong, tally_more, tally_zero, tally_swap, tally_add, sum_by_tally}
use Rattle.classing.specs.Targets.{no_target, times}
use Rattle.classing.specs.Snapshots.{no_move}
use Rattle.classing.specs.declared.snapshot.Move.{Move}
use Rattle.class_tests.specs.Listing.{meant, listed, target_fits, targets_fit, move_fits, moves_fit, fits}

-- a target is a place, or none
one_at : (n x : ℕ) → n ≤ most_places → (x < n) ⊎ (x ≡ no_target) → tally n (λ i. cond {A = ℕ} (i == x) 1 0) + cond (no_target == x) 1 0 ≡ 1
one_at n x few (inl l) =
    omega (
      arith,
      tally_more n (λ _. 0) (λ i. cond {A = ℕ} (i == x) 1 0) x 1 l (omega (arith, ap (λ b. cond {A = ℕ} b 1 0) (eq-eqb x x refl))) (λ i d. ap (λ b. cond {A = ℕ} b 1 0) (ne_eqb i x d)),
      tally_zero n (λ _. 0) (λ _ _. refl),
      ap (λ b. cond {A = ℕ} b 1 0) (ne_eqb no_target x (omega arith)),
    )
one_at n x few (inr e) =
    omega (
      arith,
      tally_zero n (λ i. cond {A = ℕ} (i == x) 1 0) (λ i l. ap (λ b. cond {A = ℕ} b 1 0) (ne_eqb i x (omega arith))),
      ap (λ b. cond {A = ℕ} b 1 0) (eq-eqb no_target x (sym e)),
    )

ones : (w : ℕ) (f : ℕ → ℕ) → ((j : ℕ) → j < w → f j ≡ 1) → tally w f ≡ w
ones zero f h = refl
ones (suc w) f h = omega (arith, h w (omega arith), ones w f (λ j l. h j (omega arith)))

module _ (n : ℕ) (rows : List Move) where
  abbrev row : ℕ → Move
  row t = slice_index_or rows t no_move

  pub listed_at : (t : ℕ) → t < length rows → transition (listed n rows) t ≡ meant n (row t)
  listed_at t l = get_or-map (meant n) rows t no_move idle l

  pub listed_past : (t : ℕ) → length rows ≤ t → transition (listed n rows) t ≡ idle
  listed_past t l = get_or_past (map (meant n) rows) t idle (omega (arith, length-map rows (meant n)))

  pub listed_count : count_of (listed n rows) ≡ length rows
  listed_count = length-map rows (meant n)

  pub listed_tokens : (t p : ℕ) → t < length rows → p < n → tokens_on (transition (listed n rows) t) p ≡ times most_total (row t).targets p
  listed_tokens t p l r = ap (λ m. slice_index m.puts p) (listed_at t l) ∙ get_or-map-range_with_len (times most_total (row t).targets) 0 n p p 0 r (omega arith)

  pub listed_far : (t p : ℕ) → t < length rows → n ≤ p → tokens_on (transition (listed n rows) t) p ≡ 0
  listed_far t p l r =
      ap (λ m. slice_index m.puts p) (listed_at t l)
      ∙ get_or_past (map (times most_total (row t).targets) (range_with_len 0 n)) p 0 (omega (arith, length-map-range_with_len (times most_total (row t).targets) 0 n))

  module _ (ok : fits n rows ≡ true) where
    few_places : n ≤ most_places
    few_places = leb-true n most_places (and_parts (nat_le n most_places) _ ok).0

    rest : (nat_le (length rows) most_transitions && moves_fit n rows) ≡ true
    rest = (and_parts (nat_le n most_places) (nat_le (length rows) most_transitions && moves_fit n rows) ok).1

    pub few_moves : length rows ≤ most_transitions
    few_moves = leb-true (length rows) most_transitions (and_parts (nat_le (length rows) most_transitions) (moves_fit n rows) rest).0

    each_fits : (t : ℕ) → t < length rows → move_fits n (row t) ≡ true
    each_fits t = AllPass-from_list_all (move_fits n) rows (and_parts (nat_le (length rows) most_transitions) (moves_fit n rows) rest).1 t no_move

    later : (t : ℕ) → t < length rows → (nat_le (row t).label most_label && targets_fit n (row t).targets) ≡ true
    later t l = (and_parts (nat_lt (row t).place n) _ (each_fits t l)).1

    target_known : (t : ℕ) → t < length rows → (j : ℕ) → j < most_total → (slice_index (row t).targets j < n) ⊎ (slice_index (row t).targets j ≡ no_target)
    target_known t l j k =
        let x = get_or (row t).targets j 0 in
        elim (or_cases (nat_lt x n) (x == no_target)
        ((decides_every most_total (λ j. target_fits n (slice_index (row t).targets j))).0 (and_parts (nat_le (row t).label most_label) _ (later t l)).1 j k)) [
          | inl a ↦ inl (ltb-true x n a)
          | inr b ↦ inr (eqb-true x no_target b)
        ]

    -- each target is a token, or none
    pub listed_total : (t : ℕ) → t < length rows → total_of (transition (listed n rows) t) + times most_total (row t).targets no_target ≡ most_total
    listed_total t l =
        let ts = (row t).targets in
        let sum : total_of (transition (listed n rows) t) ≡ tally most_total (λ j. tally n (λ i. cond {A = ℕ} (i == slice_index ts j) 1 0)) =
        ap (λ m. total_of m) (listed_at t l) ∙ sum_by_tally (λ x. x) (map (times most_total ts) (range_with_len 0 n)) 0
        ∙ ap (λ k. tally k (λ i. slice_index (map (times most_total ts) (range_with_len 0 n)) i)) (length-map-range_with_len (times most_total ts) 0 n)
        ∙ tally_cong n (λ i. slice_index (map (times most_total ts) (range_with_len 0 n)) i) (times most_total ts) (λ i r. get_or-map-range_with_len (times most_total ts) 0 n i i 0 r (omega arith))
        ∙ tally_swap n most_total (λ i j. cond {A = ℕ} (i == slice_index ts j) 1 0) in
        omega (
          arith,
          sum,
          tally_add most_total (λ j. tally n (λ i. cond {A = ℕ} (i == slice_index ts j) 1 0)) (λ j. cond (no_target == slice_index ts j) 1 0),
          ones most_total (λ j. tally n (λ i. cond {A = ℕ} (i == slice_index ts j) 1 0) + cond (no_target == slice_index ts j) 1 0)
              (λ j k. one_at n (slice_index ts j) few_places (target_known t l j k)),
        )

    pub listed_lawful : Lawful (listed n rows)
    listed_lawful =
        record {
          few_places = few_places;
          few_transitions = omega (arith, listed_count, few_moves);
          each = λ t l'. (
              let l : t < length rows = omega (arith, listed_count) in
              record {
                place_known = omega (arith, ap (λ m. m.place) (listed_at t l), ltb-true (row t).place n (and_parts (nat_lt (row t).place n) _ (each_fits t l)).0);
                label_small = omega (arith, ap (λ m. m.label) (listed_at t l), leb-true (row t).label most_label (and_parts (nat_le (row t).label most_label) _ (later t l)).0);
                targets_known = ap (λ m. length m.puts) (listed_at t l) ∙ length-map-range_with_len (times most_total (row t).targets) 0 n;
                total_small = omega (arith, listed_total t l);
              });
        }
