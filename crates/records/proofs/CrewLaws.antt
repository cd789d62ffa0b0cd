-- The crews of a file grow by its token records, and hold what the check has counted.
use Rattle.std.proofs.Common.{◌≡◌, ℕ, zero, suc, ◌+◌, ◌<◌, ◌≤◌, Bool, true, false, cond, ◌&&◌, eqb, leb, List, [], map, length, get_or, drop, set, IfSome, is_ok, IfOk, Ok, Err, sum, Option, Result, sym, refl, ap, ◌∙◌, subst, ⊎_elim, add-one, arith, length-set, get_or-set_other, get_or-set_same}
use lib.ListN.{length-replicate}
use Rattle.std.specs.List.{range_with_len}
use Rattle.std.proofs.lemmas.List.FromFn.{fill_by_all, length-map-range_with_len, get_or-map-range_with_len}
use Rattle.std.proofs.lemmas.Bool.{and_parts, leb-true, ltb-true, eq-eqb, ne_eqb, cases_eq}
use Rattle.net.specs.declared.refusal.Fault.{Fault}
use Rattle.net.specs.Meaning.{empty}
use Rattle.net.specs.Limits.{most_tokens}
use Rattle.net.specs.Lists.{zeros, get_or_zeros}
use Rattle.records.specs.declared.counts.Counts.{Counts}
use Rattle.records.specs.declared.tokens.Tokens.{Tokens}
use Rattle.records.specs.Layout.{place_kind, transition_kind, tokens_kind, head_size, record_count, record_at, at}
use Rattle.records.specs.Entry.{Entry, declares, moves, holds, broken, place_form, transition_form, tokens_form, place_reading, transition_reading, tokens_reading, two_bytes, targets_of, reading}
use Rattle.records.specs.Check.{counted, known, checked, counts_of}
use Rattle.records.specs.CheckLaws.{passed_at, few_at, places_mono, counts_are, few_to}
use Rattle.records.specs.File.{sound, admitted_records, declared_places, declared_net, net_of, transition_records}
use Rattle.records.specs.TargetLaws.{over, over_none, over_add, over_only, only}
use Rattle.records.specs.FileLaws.{Admits, admits, checked_all, count_is, length_transition_records}
use Rattle.records.specs.Tokens.{tokens_said}
use Rattle.records.specs.Crews.{added, held, crew_after, with_tokens, LawfulPut, Put, Measures}

-- ## Lists made by a function of the place

same_counting : (f g : ℕ → ℕ) (n : ℕ) → ((p : ℕ) → g p ≡ f p) → map f (range_with_len 0 n) ≡ map g (range_with_len 0 n)
same_counting f g n e = sym (fill_by_all f (map g (range_with_len 0 n)) n 0 (length-map-range_with_len g 0 n) (λ p l. get_or-map-range_with_len g 0 n p p 0 l (omega arith) ∙ e p))

put_counting : (g : ℕ → ℕ) (n q m : ℕ) → q < n → map (λ p. g p + only m q p) (range_with_len 0 n) ≡ set (map g (range_with_len 0 n)) q (get_or (map g (range_with_len 0 n)) q 0 + m)
put_counting g n q m h =
    sym (fill_by_all (λ p. g p + only m q p) (set (map g (range_with_len 0 n)) q (get_or (map g (range_with_len 0 n)) q 0 + m)) n 0 (length-set (map g (range_with_len 0 n)) q (get_or (map g (range_with_len 0 n)) q 0 + m) ∙ length-map-range_with_len g 0 n) (λ p l. ⊎_elim (here p l) (elsewhere p l) (cases_eq p q)))
  where
    here : (p : ℕ) → p < n → p ≡ q → get_or (set (map g (range_with_len 0 n)) q (get_or (map g (range_with_len 0 n)) q 0 + m)) p 0 ≡ g p + only m q p
    here p l same =
        let is : only m q p ≡ m = ap (λ v. cond v m 0) (eq-eqb q p (sym same)) in
        let old : get_or (map g (range_with_len 0 n)) q 0 ≡ g q = get_or-map-range_with_len g 0 n q q 0 h (omega arith) in
        let there : g q ≡ g p = ap g (sym same) in
        ap (λ i. get_or (set (map g (range_with_len 0 n)) q (get_or (map g (range_with_len 0 n)) q 0 + m)) i 0) same
        ∙ get_or-set_same (map g (range_with_len 0 n)) q (get_or (map g (range_with_len 0 n)) q 0 + m) 0 (omega (arith, length-map-range_with_len g 0 n))
        ∙ omega arith

    elsewhere : (p : ℕ) → p < n → (p ≡ q → ⊥) → get_or (set (map g (range_with_len 0 n)) q (get_or (map g (range_with_len 0 n)) q 0 + m)) p 0 ≡ g p + only m q p
    elsewhere p l apart =
        let is : only m q p ≡ 0 = ap (λ v. cond v m 0) (ne_eqb q p (λ e. apart (sym e))) in
        get_or-set_other (map g (range_with_len 0 n)) q p (get_or (map g (range_with_len 0 n)) q 0 + m) 0 apart
        ∙ get_or-map-range_with_len g 0 n p p 0 l (omega arith)
        ∙ omega arith

-- ## One record

-- the side of a token record is 0 or 1
abbrev Sided : Entry → Type 0
Sided (declares number) = Unit {0}
Sided (moves place label targets) = Unit {0}
Sided (holds side place n) = side ≤ 1
Sided broken = Unit {0}

place_sided : (v : Bool) (number : ℕ) → Sided (cond v (declares number) broken)
place_sided true number = tt
place_sided false number = tt

transition_sided : (v : Bool) (place label : ℕ) (ts : List ℕ) → Sided (cond v (moves place label ts) broken)
transition_sided true place label ts = tt
transition_sided false place label ts = tt

tokens_sided : (r : List ℕ) (v : Bool) → tokens_form r ≡ v → Sided (cond v (holds (at r 1) (at r 2) (two_bytes (at r 4) (at r 5))) broken)
tokens_sided r true e =
    let three = and_parts (leb (at r 1) 1 && eqb (at r 3) 0 && eqb (at r 6) 0) (eqb (at r 7) 0) e in
    let two = and_parts (leb (at r 1) 1 && eqb (at r 3) 0) (eqb (at r 6) 0) three.0 in
    leb-true (at r 1) 1 (and_parts (leb (at r 1) 1) (eqb (at r 3) 0) two.0).0
tokens_sided r false e = tt

reading_sided : (r : List ℕ) → Sided (reading r)
reading_sided r = by_kind (eqb (at r 0) place_kind) (eqb (at r 0) transition_kind) (eqb (at r 0) tokens_kind)
  where
    by_kind : (one two three : Bool) → Sided (cond one (place_reading r) (cond two (transition_reading r) (cond three (tokens_reading r) broken)))
    by_kind true two three = place_sided (place_form r) (at r 1)
    by_kind false true three = transition_sided (transition_form (at r 2) (at r 3) (drop head_size r)) (at r 1) (at r 2) (targets_of r)
    by_kind false false true = tokens_sided r (tokens_form r) refl
    by_kind false false false = tt

-- what one record adds to the sides, over all places
added_sum : (e : Entry) (c : Counts) (n : ℕ) → Sided e → known e c ≡ true → c.places ≤ n →
    ((counted e c).left ≡ c.left + over (added e 0) n) × ((counted e c).right ≡ c.right + over (added e 1) n)
added_sum (declares number) c n side names l = (omega (arith, over_none n), omega (arith, over_none n))
added_sum (moves place label targets) c n side names l = (omega (arith, over_none n), omega (arith, over_none n))
added_sum (holds zero place m) c n side names l =
    let known_place = ltb-true place c.places names in
    (omega (arith, over_only m place n (omega arith)), omega (arith, over_none n))
added_sum (holds (suc zero) place m) c n side names l =
    let known_place = ltb-true place c.places names in
    (omega (arith, over_none n), omega (arith, over_only m place n (omega arith)))
added_sum (holds (suc (suc side')) place m) c n side names l = absurd (omega arith)
added_sum broken c n side names l = (omega (arith, over_none n), omega (arith, over_none n))

-- ## The file

pub crew_none : (b : List ℕ) (side : ℕ) → crew_after b side 0 ≡ zeros (net_of b).places
crew_none b side = sym (fill_by_all (λ p. 0) (zeros (net_of b).places) (net_of b).places 0 (length-replicate (net_of b).places 0) (λ p l. get_or_zeros (net_of b).places p))

module _ (b : List ℕ) (ok : sound b ≡ true) where
  all : Admits b
  all = admits b ok

  places_are : (net_of b).places ≡ declared_places b
  places_are = ap (λ v. (cond v (declared_net b) empty).places) ok

  names_at : (k : ℕ) → k < record_count b → known (reading (record_at b k)) (counts_of b k) ≡ true
  names_at k h = (passed_at b (record_count b) all.counts all.all k h).names

  places_to : (k : ℕ) → k ≤ record_count b → (counts_of b k).places ≤ (net_of b).places
  places_to k h = omega (arith, places_mono b k (record_count b) h, places_are)

  held_sum : (k : ℕ) → k ≤ record_count b → (sum (crew_after b 0 k) ≡ (counts_of b k).left) × (sum (crew_after b 1 k) ≡ (counts_of b k).right)
  held_sum zero h = (over_none (net_of b).places, over_none (net_of b).places)
  held_sum (suc k) h =
      let n = (net_of b).places in
      let e = reading (record_at b k) in
      let ih = held_sum k (omega arith) in
      let more = added_sum e (counts_of b k) n (reading_sided (record_at b k)) (names_at k h) (places_to k (omega arith)) in (
        omega (arith, ih.0, more.0, over_add (λ q. held b 0 q k) (added e 0) (λ q. held b 0 q (suc k)) n (λ q. refl)),
        omega (arith, ih.1, more.1, over_add (λ q. held b 1 q k) (added e 1) (λ q. held b 1 q (suc k)) n (λ q. refl)),
      )

  light_to : (k : ℕ) → k ≤ record_count b → (side : ℕ) → side ≤ 1 → sum (crew_after b side k) ≤ most_tokens
  light_to k h zero l = let few = few_at b (record_count b) all.counts all.all k h in omega (arith, (held_sum k h).0, few.few_left)
  light_to k h (suc zero) l = let few = few_at b (record_count b) all.counts all.all k h in omega (arith, (held_sum k h).1, few.few_right)
  light_to k h (suc (suc side)) l = absurd (omega arith)

  -- the crew with one record more
  crew_by : (side k n : ℕ) (e : Entry) (c : Counts) → known e c ≡ true → c.places ≤ n → map (λ p. held b side p k + added e side p) (range_with_len 0 n) ≡ with_tokens (tokens_said e) side (map (λ p. held b side p k) (range_with_len 0 n))
  crew_by side k n (declares number) c names l = same_counting _ (λ p. held b side p k) n (λ p. omega arith)
  crew_by side k n (moves place label targets) c names l = same_counting _ (λ p. held b side p k) n (λ p. omega arith)
  crew_by side k n (holds side' place m) c names l = by_side (eqb side' side) (omega (arith, ltb-true place c.places names))
    where
      by_side : (v : Bool) → place < n → map (λ p. held b side p k + cond (v && eqb place p) m 0) (range_with_len 0 n) ≡ cond v (set (map (λ p. held b side p k) (range_with_len 0 n)) place (get_or (map (λ p. held b side p k) (range_with_len 0 n)) place 0 + m)) (map (λ p. held b side p k) (range_with_len 0 n))
      by_side true h = put_counting (λ p. held b side p k) n place m h
      by_side false h = same_counting _ (λ p. held b side p k) n (λ p. omega arith)
  crew_by side k n broken c names l = same_counting _ (λ p. held b side p k) n (λ p. omega arith)

  lawful_by : (e : Entry) (c : Counts) → Sided e → known e c ≡ true → c.places ≤ (net_of b).places → IfSome (tokens_said e) (LawfulPut b)
  lawful_by (declares number) c side names l = tt
  lawful_by (moves place label targets) c side names l = tt
  lawful_by (holds side' place m) c side names l = record { side_known = side; place_known = omega (arith, ltb-true place c.places names) }
  lawful_by broken c side names l = tt

  put_at : (k : ℕ) → k < record_count b → Put b k (tokens_said (reading (record_at b k)))
  put_at k h =
      let e = reading (record_at b k) in
      let inside = places_to k (omega arith) in
      record {
        lawful = lawful_by e (counts_of b k) (reading_sided (record_at b k)) (names_at k h) inside;
        next = λ side. ap (crew_after b side) (add-one k) ∙ crew_by side k (net_of b).places e (counts_of b k) (names_at k h) inside;
        light = λ side l. light_to (k + 1) (omega arith) side l;
      }

-- ## As the code gives it

admitted_sound : (b : List ℕ) (k : ℕ) → k < admitted_records b → (sound b ≡ true) × (k < record_count b)
admitted_sound b k h = by_sound (sound b) refl h
  where
    by_sound : (v : Bool) → sound b ≡ v → k < cond v (record_count b) 0 → (sound b ≡ true) × (k < record_count b)
    by_sound true e h = (e, h)
    by_sound false e h = absurd (omega arith)

pub put_of : (b : List ℕ) (k : ℕ) (r : Option Tokens) → r ≡ tokens_said (reading (record_at b k)) → k < admitted_records b → Put b k r
put_of b k r e h = let in_file = admitted_sound b k h in subst (Put b k) (sym e) (put_at b in_file.0 k in_file.1)

measures : (b : List ℕ) (c : Counts) → Ok c ≡ checked b → Measures b c
measures b c h =
    let n = record_count b in
    let to_end = checked_all b c (sym h) in
    let is = counts_are b n c to_end in
    let ok : sound b ≡ true = sym (ap is_ok h) in
    let size : admitted_records b ≡ n = ap (λ v. cond v n 0) ok in
    let few = few_to b n c to_end in
    let sums = held_sum b ok n (omega arith) in
    record {
      places = ap (λ x. x.places) is ∙ sym (places_are b ok);
      transitions = ap (λ x. x.transitions) is ∙ sym (length_transition_records b n) ∙ ap (λ v. length (cond v (transition_records b n) [])) (sym ok) ∙ sym (count_is b);
      left = ap (λ x. x.left) is ∙ sym sums.0 ∙ ap (λ j. sum (crew_after b 0 j)) (sym size);
      right = ap (λ x. x.right) is ∙ sym sums.1 ∙ ap (λ j. sum (crew_after b 1 j)) (sym size);
      few_left = few.few_left;
      few_right = few.few_right;
    }

pub measured : (b : List ℕ) (r : Result Counts Fault) → r ≡ checked b → IfOk r (Measures b)
measured b (Ok c) h = measures b c h
measured b (Err f) h = tt
