-- That the net of a file keeps the limits, and its answers as the code gives them.
use Rattle.std.specs.Prelude.{◌≡◌, ℕ, zero, suc, ◌+◌, ◌%◌, ◌<◌, ◌≤◌, Bool, true, false, cond, List, [], ◌∷◌, ◌++◌, map, length, take, is_ok, Ok, Err, Result, ◌==◌, nat_lt, slice_index, slice_index_or, refl}
use Rattle.std.proofs.Common.{arith, sym, ap, subst, ◌∙◌, length-append}
use Rattle.std.proofs.lemmas.List.{get_or-map, length-map}
use Rattle.std.proofs.lemmas.List.FromFn.{length-map-range_with_len}
use Rattle.std.proofs.lemmas.Bool.{false≢true, and_parts, ltb-true}
use Rattle.net.specs.declared.refusal.Refusal.TheVariants.{PartialRecord}
use Rattle.net.specs.declared.refusal.Fault.{Fault}
use Rattle.net.specs.Refusals.{at_spot}
use Rattle.net.specs.Meaning.{Transition, transition, idle, count_of, empty}
use Rattle.net.specs.Limits.{Lawful, Within, most_places, most_transitions}
use Rattle.records.specs.declared.counts.Counts.{Counts}
use Rattle.records.specs.Layout.{record_size, record_count, record_at, at}
use Rattle.records.specs.Entry.{Entry, declares, moves, holds, broken, is_transition, below, targets_of, reading}
use Rattle.records.specs.Check.{counted, known, checked_to, checked, counts_of}
use Rattle.records.specs.EntryLaws.{Moving, MovingBytes, moving, moving_bytes}
use Rattle.records.specs.CheckLaws.{err_not_ok, Few, Before, before, counts_are, few_to, places_grow}
use Rattle.records.specs.File.{sound, tokens_to, transition_of, transition_records, declared_places, declared_net, net_of, admitted_records, picked}
use Rattle.records.specs.TargetLaws.{below_more, sum_tokens}

-- ## Files that the check admits

pub checked_all : (b : List ℕ) (c : Counts) → checked b ≡ Ok c → checked_to b (record_count b) ≡ Ok c
checked_all b c h = by_length (length b % record_size == 0) h
  where
    by_length : (v : Bool) → cond v (checked_to b (record_count b)) (Err (at_spot PartialRecord (record_count b))) ≡ Ok c → checked_to b (record_count b) ≡ Ok c
    by_length true h = h
    by_length false h = err_not_ok _ c h

pub record Admits (b : List ℕ) : Type 0 where
  pub counts : Counts
  pub all : checked_to b (record_count b) ≡ Ok counts

pub admits : (b : List ℕ) → sound b ≡ true → Admits b
admits b h = by_result (checked b) refl h
  where
    by_result : (r : Result Counts Fault) → checked b ≡ r → is_ok r ≡ true → Admits b
    by_result (Ok c) e h = record { counts = c; all = checked_all b c e }
    by_result (Err f) e h = absurd (false≢true h)

pub places_admitted : (b : List ℕ) (a : Admits b) → a.counts.places ≡ declared_places b
places_admitted b a = ap (λ c. c.places) (counts_are b (record_count b) a.counts a.all)

-- ## Its transition records

-- what holds at each element of xs, and of y, holds at each of xs with y at its end
pushed : (P : ℕ → Type 0) (xs : List ℕ) (y : ℕ) → ((i : ℕ) → i < length xs → P (slice_index xs i)) → P y → (i : ℕ) → i < length (xs ++ y ∷ []) → P (slice_index (xs ++ y ∷ []) i)
pushed P [] y all last zero h = last
pushed P [] y all last (suc i) h = absurd (omega arith)
pushed P (x ∷ xs) y all last zero h = all zero (omega arith)
pushed P (x ∷ xs) y all last (suc i) h = pushed P xs y (λ j k. all (suc j) (omega arith)) last i (omega arith)

record_below : (b : List ℕ) (k i : ℕ) → i < length (transition_records b k) → slice_index (transition_records b k) i < k
record_below b zero i h = absurd (omega arith)
record_below b (suc k) i h = go (record_below b k) (is_transition (reading (record_at b k))) i h
  where
    go : ((i : ℕ) → i < length (transition_records b k) → slice_index (transition_records b k) i < k) → (v : Bool) (i : ℕ) → i < length (cond v (transition_records b k ++ k ∷ []) (transition_records b k)) → slice_index (cond v (transition_records b k ++ k ∷ []) (transition_records b k)) i < suc k
    go all true = pushed (λ m. m < suc k) (transition_records b k) k (λ i h. omega (arith, all i h)) (omega arith)
    go all false = λ i h. omega (arith, all i h)

counted_transitions : (e : Entry) (c : Counts) → (counted e c).transitions ≡ c.transitions + cond (is_transition e) 1 0
counted_transitions (declares number) c = omega arith
counted_transitions (moves place label targets) c = refl
counted_transitions (holds side place n) c = by_side (side == 0)
  where
    by_side : (v : Bool) → (cond {A = Counts} v (record { places = c.places; transitions = c.transitions; left = c.left + n; right = c.right }) (record { places = c.places; transitions = c.transitions; left = c.left; right = c.right + n })).transitions ≡ c.transitions + 0
    by_side true = omega arith
    by_side false = omega arith
counted_transitions broken c = omega arith

-- as many as were counted
pub length_transition_records : (b : List ℕ) (k : ℕ) → length (transition_records b k) ≡ (counts_of b k).transitions
length_transition_records b zero = refl
length_transition_records b (suc k) = go (length_transition_records b k) (is_transition (reading (record_at b k))) (counted_transitions (reading (record_at b k)) (counts_of b k))
  where
    go : length (transition_records b k) ≡ (counts_of b k).transitions → (v : Bool) → (counts_of b (suc k)).transitions ≡ (counts_of b k).transitions + cond v 1 0 → length (cond v (transition_records b k ++ k ∷ []) (transition_records b k)) ≡ (counts_of b (suc k)).transitions
    go ih true e = omega (arith, length-append (transition_records b k) (k ∷ []))
    go ih false e = omega arith

-- a transition over n places
pub record Placed (e : Entry) (n : ℕ) : Type 0 where
  pub move : Moving e
  pub place_known : move.place < n
  pub targets_known : below n move.targets ≡ true

-- the same of the bytes of its record
pub record PlacedBytes (r : List ℕ) (n : ℕ) : Type 0 where
  pub move : MovingBytes r
  pub place_known : at r 1 < n
  pub targets_known : below n (targets_of r) ≡ true

pub placed_bytes : (r : List ℕ) (n : ℕ) → Placed (reading r) n → PlacedBytes r n
placed_bytes r n p =
    let m = moving_bytes r (ap is_transition p.move.is) in
    let place : p.move.place ≡ at r 1 = cc (m.is, p.move.is) in
    let targets : p.move.targets ≡ targets_of r = cc (m.is, p.move.is) in
    record { move = m; place_known = omega (arith, p.place_known); targets_known = ap (below n) (sym targets) ∙ p.targets_known }

placed_more : (e : Entry) (n m : ℕ) → n ≤ m → Placed e n → Placed e m
placed_more e n m h p = record { move = p.move; place_known = omega (arith, p.place_known); targets_known = below_more n m p.move.targets h p.targets_known }

placed_by : (e : Entry) (c : Counts) → Moving e → known e c ≡ true → Placed e c.places
placed_by e c m names =
    let both = and_parts (nat_lt m.place c.places) (below c.places m.targets) (subst (λ e. known e c ≡ true) m.is names) in
    record { move = m; place_known = ltb-true m.place c.places both.0; targets_known = both.1 }

pub each_placed : (b : List ℕ) (k : ℕ) (c : Counts) → checked_to b k ≡ Ok c → (i : ℕ) → i < length (transition_records b k) → Placed (reading (record_at b (slice_index (transition_records b k) i))) c.places
each_placed b zero c h i l = absurd (omega arith)
each_placed b (suc k) c h i l = let p = before b k c h in go p (each_placed b k p.counts p.reached) (is_transition (reading (record_at b k))) refl i l
  where
    grown : (p : Before b k c) → p.counts.places ≤ c.places
    grown p = subst (λ x. p.counts.places ≤ x.places) p.passed.after (places_grow (reading (record_at b k)) p.counts)

    go : (p : Before b k c) → ((i : ℕ) → i < length (transition_records b k) → Placed (reading (record_at b (slice_index (transition_records b k) i))) p.counts.places) → (v : Bool) → is_transition (reading (record_at b k)) ≡ v →
        (i : ℕ) → i < length (cond v (transition_records b k ++ k ∷ []) (transition_records b k)) → Placed (reading (record_at b (slice_index (cond v (transition_records b k ++ k ∷ []) (transition_records b k)) i))) c.places
    go p all true e =
        let grow = grown p in
        pushed (λ m. Placed (reading (record_at b m)) c.places) (transition_records b k) k (λ i l. placed_more _ p.counts.places c.places grow (all i l))
        (placed_more (reading (record_at b k)) p.counts.places c.places grow (placed_by (reading (record_at b k)) p.counts (moving (record_at b k) e) p.passed.names))
    go p all false e = λ i l. placed_more _ p.counts.places c.places (grown p) (all i l)

-- ## The net

-- record k as a transition of the net
abbrev transition_at : List ℕ → ℕ → Transition
transition_at b k = transition_of (net_of b).places (reading (record_at b k))

transitions_are : (b : List ℕ) → (net_of b).transitions ≡ map (transition_at b) (picked b)
transitions_are b = by_sound (sound b)
  where
    by_sound : (v : Bool) → (cond v (declared_net b) empty).transitions ≡ map (λ k. transition_of (cond v (declared_net b) empty).places (reading (record_at b k))) (cond v (transition_records b (record_count b)) [])
    by_sound true = refl
    by_sound false = refl

pub count_is : (b : List ℕ) → count_of (net_of b) ≡ length (picked b)
count_is b = ap length (transitions_are b) ∙ length-map (picked b) (transition_at b)

pub net_at : (b : List ℕ) (t : ℕ) → t < length (picked b) → transition (net_of b) t ≡ transition_at b (slice_index (picked b) t)
net_at b t h = ap (λ xs. slice_index_or xs t idle) (transitions_are b) ∙ get_or-map (transition_at b) (picked b) t 0 idle h

-- what the check has shown of a transition record
pub record Found (b : List ℕ) (k : ℕ) : Type 0 where
  pub inside : k < record_count b
  pub placed : Placed (reading (record_at b k)) (net_of b).places

pub found : (b : List ℕ) (t : ℕ) → t < length (picked b) → Found b (slice_index (picked b) t)
found b t h = by_sound (sound b) refl h
  where
    by_sound : (v : Bool) → sound b ≡ v → t < length (cond v (transition_records b (record_count b)) []) → Found b (slice_index (cond v (transition_records b (record_count b)) []) t)
    by_sound true e h =
        let a = admits b e in
        let n_is : a.counts.places ≡ (net_of b).places = places_admitted b a ∙ ap (λ v. (cond v (declared_net b) empty).places) (sym e) in
        record { inside = record_below b (record_count b) t h; placed = subst (Placed _) n_is (each_placed b (record_count b) a.counts a.all t h) }
    by_sound false e h = absurd (omega arith)

within : (b : List ℕ) (k : ℕ) → Found b k → Within (net_of b).places (transition_at b k)
within b k f =
    let n = (net_of b).places in
    let p = f.placed in
    let ts = p.move.targets in
    subst (λ e. Within n (transition_of n e)) (sym p.move.is) (record {
      place_known = p.place_known;
      label_small = p.move.label_small;
      targets_known = length-map-range_with_len (tokens_to ts) 0 n;
      total_small = omega (arith, sum_tokens n ts p.targets_known, p.move.few);
    })

limits : (b : List ℕ) → ((net_of b).places ≤ most_places) × (length (picked b) ≤ most_transitions)
limits b = by_sound (sound b) refl
  where
    by_sound : (v : Bool) → sound b ≡ v → ((cond v (declared_net b) empty).places ≤ most_places) × (length (cond v (transition_records b (record_count b)) []) ≤ most_transitions)
    by_sound true e =
        let a = admits b e in
        let few = subst Few (counts_are b (record_count b) a.counts a.all) (few_to b (record_count b) a.counts a.all) in
        (few.few_places, omega (arith, length_transition_records b (record_count b), few.few_transitions))
    by_sound false e = (omega arith, omega arith)

pub net_lawful : (b : List ℕ) → Lawful (net_of b)
net_lawful b = record {
  few_places = (limits b).0;
  few_transitions = rw (count_is b) (limits b).1;
  each = λ t h.
      let h' : t < length (picked b) = rw (count_is b) at h in
      subst (Within (net_of b).places) (sym (net_at b t h')) (within b (slice_index (picked b) t) (found b t h'));
}

-- ## What a file net keeps of an admitted file

pub record Kept (b : List ℕ) (c : Counts) (starts : List ℕ) : Type 0 where
  pub places : c.places ≡ (net_of b).places
  pub table : take c.transitions starts ≡ picked b
  pub few : c.transitions ≤ most_transitions
  pub size : record_count b ≡ admitted_records b

pub kept : (b : List ℕ) (c : Counts) → Ok c ≡ checked b → (starts : List ℕ) → take (length (transition_records b (record_count b))) starts ≡ transition_records b (record_count b) → Kept b c starts
kept b c h starts table =
    let all = checked_all b c (sym h) in
    let is = counts_are b (record_count b) c all in
    let ok : true ≡ sound b = ap is_ok h in
    let count : c.transitions ≡ length (transition_records b (record_count b)) = ap (λ x. x.transitions) is ∙ sym (length_transition_records b (record_count b)) in
    record {
      places = ap (λ x. x.places) is ∙ ap (λ v. (cond v (declared_net b) empty).places) ok;
      table = ap (λ n. take n starts) count ∙ table ∙ ap (λ v. cond v (transition_records b (record_count b)) []) ok;
      few = (few_to b (record_count b) c all).few_transitions;
      size = ap (λ v. cond v (record_count b) 0) ok;
    }
