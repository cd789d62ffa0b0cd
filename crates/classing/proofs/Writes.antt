-- A list written entry by entry.
use Rattle.std.proofs.Common.{◌≡◌, ℕ, ◌+◌, ◌-◌, ◌<◌, ◌≤◌, List, ◌++◌, map, length, get_or, drop, set, sym, ap, ◌∙◌, inl, inr, arith, get_or-set_other, get_or-set_same}
use Rattle.std.specs.List.{range_with_len}
use Rattle.std.proofs.lemmas.Bool.{cases_eq, cases_lt}
use Rattle.std.proofs.lemmas.List.{ext_get_or, length-append, length-drop, get_or-drop, get_or_append_left, get_or-append_right}
use Rattle.std.proofs.lemmas.List.FromFn.{length-map-range_with_len, get_or-map-range_with_len}

-- what holds of each entry below t, and of x at t, holds below t + 1 once x is written at t
pub write_more : {X : Type 0} (P : ℕ → X → Type 0) (xs : List X) (t : ℕ) (x d : X) → t < length xs
    → ((k : ℕ) → k < t → P k (get_or xs k d)) → P t x → (k : ℕ) → k < t + 1 → P k (get_or (set xs t x) k d)
write_more P xs t x d l below here k h =
    elim (cases_eq k t) [
      | inl e ↦ rw e (rw (get_or-set_same xs t x d l) here)
      | inr n ↦ rw (get_or-set_other xs t k x d n) (below k (omega arith))
    ]

-- what holds of each entry of the front holds of it whatever stands behind
pub front_holds : {X : Type 0} (P : ℕ → X → Type 0) (xs rest : List X) (d : X) → ((k : ℕ) → k < length xs → P k (get_or xs k d))
    → (k : ℕ) → k < length xs → P k (get_or (xs ++ rest) k d)
front_holds P xs rest d each k l = rw (get_or_append_left xs rest d k l) (each k l)

-- the first n entries are those of f, and the others as they were
pub written_whole : (f : ℕ → ℕ) (n : ℕ) (before after : List ℕ) → length after ≡ length before → n ≤ length before
    → ((p : ℕ) → p < n → get_or after p 0 ≡ f p) → ((p : ℕ) → n ≤ p → get_or after p 0 ≡ get_or before p 0) → after ≡ map f (range_with_len 0 n) ++ drop n before
written_whole f n before after long room front rest =
    ext_get_or 0 after (map f (range_with_len 0 n) ++ drop n before)
    (omega (arith, length-append (map f (range_with_len 0 n)) (drop n before), length-map-range_with_len f 0 n, length-drop n before))
    (λ i l. elim (cases_lt i n) [
      | inl k ↦ (
          let within : i < length (map f (range_with_len 0 n)) = omega (arith, length-map-range_with_len f 0 n) in
          front i k ∙ sym (get_or-map-range_with_len f 0 n i i 0 k (omega arith)) ∙ sym (get_or_append_left (map f (range_with_len 0 n)) (drop n before) 0 i within))
      | inr k ↦ (
          let back : n + (i - n) ≡ i = omega arith in
          rest i k ∙ sym (ap (λ j. get_or before j 0) back) ∙ sym (get_or-drop n before (i - n) 0) ∙ sym (get_or-append_right (map f (range_with_len 0 n)) (drop n before) n i 0 (length-map-range_with_len f 0 n) k))
    ])
