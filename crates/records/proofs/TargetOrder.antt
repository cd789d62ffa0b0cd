-- Targets in rising order, as the library tests them.
use Rattle.std.proofs.Common.{◌≡◌, ℕ, zero, suc, ◌+◌, ◌<◌, Bool, true, false, ◌&&◌, leb, List, [], ◌∷◌, length, get_or, Some, MatchBool, sym, refl, ap, ◌∙◌, subst, add-one, arith}
use Rattle.std.specs.List.Sorted.{IsNonDecreasing}
use Rattle.std.specs.List.{IsAllAdjacentAnswer}
use Rattle.std.specs.Ordering.{is_some_and, is_le, nat_cmp}
use Rattle.std.proofs.lemmas.List.Sorted.{non_decreasing_from_is_sorted}
use Rattle.std.proofs.lemmas.Bool.{and_left, and_from, le-leb, lt-leb}
use Rattle.records.specs.Entry.{rising}

rising_yes : (last : ℕ) (ts : List ℕ) → IsNonDecreasing (last ∷ ts) → rising last ts ≡ true
rising_yes last [] up = refl
rising_yes last (t ∷ ts) up =
    and_from (leb last t) (rising t ts) (le-leb last t (up 0 1 0 (omega arith) (omega arith)))
    (rising_yes t ts (λ i j d l h. up (suc i) (suc j) d (omega arith) (omega arith)))

rising_no : (last : ℕ) (ts : List ℕ) (k : ℕ) → suc k < length (last ∷ ts) → get_or (last ∷ ts) (suc k) 0 < get_or (last ∷ ts) k 0 → rising last ts ≡ false
rising_no last [] k h l = absurd (omega arith)
rising_no last (t ∷ ts) zero h l = and_left (leb last t) (rising t ts) (lt-leb last t l)
rising_no last (t ∷ ts) (suc k) h l = by_first (leb last t) (rising_no t ts k (omega arith) l)
  where
    by_first : (v : Bool) → rising t ts ≡ false → (v && rising t ts) ≡ false
    by_first true e = e
    by_first false e = refl

-- a list that does not fall from its first target on, or falls somewhere
rises_by : (ts : List ℕ) (r : Bool) → MatchBool r (IsNonDecreasing ts) ((k : ℕ) × (k + 1 < length ts) × ((d : ℕ) → get_or ts (k + 1) d < get_or ts k d)) → r ≡ rising 0 ts
rises_by [] true up = refl
rises_by [] false (k, h, l) = absurd (omega arith)
rises_by (t ∷ ts) true up = sym (and_from (leb 0 t) (rising t ts) (le-leb 0 t (omega arith)) (rising_yes t ts up))
rises_by (t ∷ ts) false (k, h, l) =
    let falls : get_or (t ∷ ts) (suc k) 0 < get_or (t ∷ ts) k 0 = subst (λ j. get_or (t ∷ ts) j 0 < get_or (t ∷ ts) k 0) (add-one k) (l 0) in
    sym (ap (λ v. v && rising t ts) (le-leb 0 t (omega arith)) ∙ rising_no t ts k (omega arith) falls)

pub sorted_rises : (ts : List ℕ) (r : Bool) → IsAllAdjacentAnswer (λ x y b. is_some_and is_le (Some (nat_cmp x y)) ≡ b) ts r → r ≡ rising 0 ts
sorted_rises ts r sorted = rises_by ts r (non_decreasing_from_is_sorted ts r sorted)
