-- Tokens added up class by class, one place after the other.
use Rattle.std.proofs.Common.{◌≡◌, ℕ, zero, suc, ◌+◌, ◌<◌, ◌≤◌, Bool, true, false, cond, eqb, ◌≢◌, ◌⊎◌, List, ◌∷◌, length, get_or, take, drop, set, sum, sym, refl, ap, ◌∙◌, subst, inl, inr, arith}
use Rattle.std.proofs.lemmas.List.{get_or-set_same, get_or-set_other, length-set, length-replicate, length-drop, drop_more}
use Rattle.std.proofs.lemmas.List.Sums.{sum_by_more, sum_by-take-le}
use Rattle.std.proofs.lemmas.Bool.{cases_eq, eq-eqb, ne_eqb}
use Rattle.net.specs.Lists.{zeros, get_or_zeros}
use Rattle.team.specs.Below.{tally}
use Rattle.team.proofs.Sums.{tally_next, tally_le}
use Rattle.crews.specs.Counting.{in_class}

tally_get_or : (xs : List ℕ) (k : ℕ) → k ≤ length xs → tally k (λ i. get_or xs i 0) ≡ sum (take k xs)
tally_get_or xs zero h = refl
tally_get_or xs (suc k) h =
    let e : suc k ≡ k + 1 = omega arith in
    omega (arith, tally_get_or xs k (omega arith), sum_by_more (λ x. x) xs k 0 (omega arith), ap (λ (i : ℕ). sum (take i xs)) e)

-- no class holds more than all places
pub in_class_le : (n : ℕ) (cs xs : List ℕ) (c : ℕ) → n ≤ length xs → in_class n cs xs c ≤ sum xs
in_class_le n cs xs c h =
    omega (arith, tally_le n (λ i. cond (eqb c (get_or cs i 0)) (get_or xs i 0) 0) (λ i. get_or xs i 0) (λ i l. at_most (eqb c (get_or cs i 0)) (get_or xs i 0)), tally_get_or xs n h, sum_by-take-le (λ x. x) xs n)
  where
    at_most : (b : Bool) (x : ℕ) → cond b x 0 ≤ x
    at_most true x = omega arith
    at_most false x = omega arith

pub in_class_here : (n : ℕ) (cs xs : List ℕ) → in_class (n + 1) cs xs (get_or cs n 0) ≡ get_or xs n 0 + in_class n cs xs (get_or cs n 0)
in_class_here n cs xs =
    let c = get_or cs n 0 in
    tally_next n (λ i. cond (eqb c (get_or cs i 0)) (get_or xs i 0) 0) ∙ ap (λ b. cond b (get_or xs n 0) 0 + in_class n cs xs c) (eq-eqb c c refl)

pub in_class_other : (n : ℕ) (cs xs : List ℕ) (c : ℕ) → c ≢ get_or cs n 0 → in_class (n + 1) cs xs c ≡ in_class n cs xs c
in_class_other n cs xs c ne =
    tally_next n (λ i. cond (eqb c (get_or cs i 0)) (get_or xs i 0) 0) ∙ ap (λ b. cond b (get_or xs n 0) 0 + in_class n cs xs c) (ne_eqb c (get_or cs n 0) ne) ∙ omega arith

-- the places before p are counted
pub record SumsGoing (p : ℕ) (cs xs sums : List ℕ) : Type 0 where
  pub whole : length sums ≡ 128
  pub each : (c : ℕ) → c < 128 → get_or sums c 0 ≡ in_class p cs xs c

sums_none : (cs xs sums : List ℕ) → sums ≡ zeros 128 → SumsGoing 0 cs xs sums
sums_none cs xs sums e = record { whole = ap length e ∙ length-replicate {A = ℕ} 128 0; each = λ c l. ap (λ zs. get_or zs c 0) e ∙ get_or_zeros 128 c }

sums_more : (p : ℕ) (cs xs sums : List ℕ) (k v : ℕ) → k ≡ get_or cs p 0 → k < 128 → v ≡ get_or sums k 0 + get_or xs p 0 → SumsGoing p cs xs sums → SumsGoing (p + 1) cs xs (set sums k v)
sums_more p cs xs sums k v ek l ev g = record {
  whole = length-set sums k v ∙ g.whole;
  each = λ c w. by_class c w (cases_eq c k);
}
  where
    by_class : (c : ℕ) → c < 128 → (c ≡ k) ⊎ (c ≢ k) → get_or (set sums k v) c 0 ≡ in_class (p + 1) cs xs c
    by_class c w (inl e) =
        ap (λ (i : ℕ). get_or (set sums k v) i 0) e ∙ get_or-set_same sums k v 0 (omega (arith, l, g.whole))
        ∙ omega (arith, ev, g.each k l, in_class_here p cs xs, ap (in_class p cs xs) ek, ap (in_class (p + 1) cs xs) ek, ap (in_class (p + 1) cs xs) e)
    by_class c w (inr ne) = get_or-set_other sums k c v 0 ne ∙ g.each c w ∙ sym (in_class_other p cs xs c (λ e. ne (e ∙ sym ek)))

sums_small : (p : ℕ) (cs xs sums : List ℕ) (k : ℕ) → k ≡ get_or cs p 0 → k < 128 → p < length xs → SumsGoing p cs xs sums → get_or sums k 0 + get_or xs p 0 ≤ sum xs
sums_small p cs xs sums k ek l w g =
    omega (arith, g.each k l, in_class_here p cs xs, ap (in_class p cs xs) ek, in_class_le (p + 1) cs xs (get_or cs p 0) (omega arith))

-- ## Both lists gone through together

-- the first p entries are counted, and these are left
pub record Counting (p : ℕ) (cs xs left_cs left_xs sums : List ℕ) : Type 0 where
  pub within : p ≤ length cs
  pub classes : left_cs ≡ drop p cs
  pub counts : left_xs ≡ drop p xs
  pub going : SumsGoing p cs xs sums

pub counting_none : (cs xs left_cs left_xs sums : List ℕ) → left_cs ≡ cs → left_xs ≡ xs → sums ≡ zeros 128 → Counting 0 cs xs left_cs left_xs sums
counting_none cs xs left_cs left_xs sums ec ex e = record { within = omega arith; classes = ec; counts = ex; going = sums_none cs xs sums e }

-- the next entry of a list, and what is left behind it
next_entry : (p : ℕ) (zs : List ℕ) (z : ℕ) (rest : List ℕ) → drop p zs ≡ z ∷ rest → (p < length zs) × (z ≡ get_or zs p 0) × (rest ≡ drop (p + 1) zs)
next_entry p zs z rest e =
    let within : p < length zs = omega (arith, ap length e, length-drop p zs) in
    let whole : z ∷ rest ≡ get_or zs p 0 ∷ drop (p + 1) zs = sym e ∙ drop_more zs p 0 within in
    (within, cc, cc)

module _ (p : ℕ) (cs xs left_cs left_xs rest_cs rest_xs sums : List ℕ) (class count : ℕ) (g : Counting p cs xs left_cs left_xs sums) (ec : left_cs ≡ class ∷ rest_cs) (ex : left_xs ≡ count ∷ rest_xs) where
  next_class : (p < length cs) × (class ≡ get_or cs p 0) × (rest_cs ≡ drop (p + 1) cs)
  next_class = next_entry p cs class rest_cs (sym g.classes ∙ ec)

  next_count : (p < length xs) × (count ≡ get_or xs p 0) × (rest_xs ≡ drop (p + 1) xs)
  next_count = next_entry p xs count rest_xs (sym g.counts ∙ ex)

  module _ (named : (i : ℕ) → i < length cs → get_or cs i 0 < 128) where
    pub class_small : class < 128
    class_small = omega (arith, next_class.1, named p next_class.0)

    pub counting_small : (k : ℕ) → k ≡ class → get_or sums k 0 + count ≤ sum xs
    counting_small k ek = omega (arith, next_count.1, sums_small p cs xs sums k (ek ∙ next_class.1) (omega (arith, ek, class_small)) next_count.0 g.going)

    pub counting_more : (q k v : ℕ) → q ≡ p + 1 → k ≡ class → v ≡ get_or sums k 0 + count → Counting q cs xs rest_cs rest_xs (set sums k v)
    counting_more q k v eq ek ev =
        let more : Counting (p + 1) cs xs rest_cs rest_xs (set sums k v) =
        record {
          within = omega (arith, next_class.0);
          classes = next_class.2;
          counts = next_count.2;
          going = sums_more p cs xs sums k v (ek ∙ next_class.1) (omega (arith, ek, class_small)) (omega (arith, ev, next_count.1)) g.going;
        } in
        subst (λ (i : ℕ). Counting i cs xs rest_cs rest_xs (set sums k v)) (sym eq) more
