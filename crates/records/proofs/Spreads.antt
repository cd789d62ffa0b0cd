-- The record of a transition says that transition.
use Rattle.std.proofs.Common.{◌≡◌, ℕ, zero, suc, ◌-◌, ◌≤◌, true, cond, ◌&&◌, ltb, leb, List, [], ◌∷◌, ◌++◌, length, take, drop, replicate, sym, refl, ap, ◌∙◌, arith}
use Rattle.std.proofs.lemmas.List.{take_at, drop_at}
use Rattle.std.proofs.lemmas.List.FromFn.{fill_by_all}
use Rattle.std.proofs.lemmas.Bool.{and_parts, and_from, ltb-true, lt-ltb, le-leb}
use Rattle.net.specs.Meaning.{Transition, tokens_on, total_of}
use Rattle.net.specs.Limits.{Within, most_label}
use Rattle.net.specs.Targets.{no_target, spread, filled}
use Rattle.net.proofs.Spreads.{length_spread_all, targets_spread}
use Rattle.records.specs.Layout.{record_targets}
use Rattle.records.specs.Entry.{moves, broken, below, rising, blank, padded, transition_form, reading}
use Rattle.records.specs.EntryLaws.{reading_kind}
use Rattle.records.specs.File.{tokens_to, transition_of}
use Rattle.records.specs.TargetLaws.{below_more}
use Rattle.records.specs.Write.{transition_record}

-- ## Each target is a place, and they rise

below_append : (n : ℕ) (xs ys : List ℕ) → below n xs ≡ true → below n ys ≡ true → below n (xs ++ ys) ≡ true
below_append n [] ys e f = f
below_append n (x ∷ xs) ys e f =
    let both = and_parts (ltb x n) (below n xs) e in
    and_from (ltb x n) (below n (xs ++ ys)) both.0 (below_append n xs ys both.1 f)

below_same : (p c : ℕ) → below (suc p) (replicate c p) ≡ true
below_same p zero = refl
below_same p (suc c) = and_from (ltb p (suc p)) (below (suc p) (replicate c p)) (lt-ltb p (suc p) (omega arith)) (below_same p c)

pub below_spread : (t : Transition) (n : ℕ) → below n (spread t n) ≡ true
below_spread t zero = refl
below_spread t (suc p) = below_append (suc p) (spread t p) (replicate (tokens_on t p) p) (below_more p (suc p) (spread t p) (omega arith) (below_spread t p)) (below_same p (tokens_on t p))

rising_same : (a p c : ℕ) → a ≤ p → rising a (replicate c p) ≡ true
rising_same a p zero h = refl
rising_same a p (suc c) h = and_from (leb a p) (rising p (replicate c p)) (le-leb a p h) (rising_same p p c (omega arith))

rising_append : (a : ℕ) (xs : List ℕ) (p c : ℕ) → a ≤ p → rising a xs ≡ true → below p xs ≡ true → rising a (xs ++ replicate c p) ≡ true
rising_append a [] p c h r e = rising_same a p c h
rising_append a (x ∷ xs) p c h r e =
    let up = and_parts (leb a x) (rising x xs) r in
    let low = and_parts (ltb x p) (below p xs) e in
    let small = ltb-true x p low.0 in
    and_from (leb a x) (rising x (xs ++ replicate c p)) up.0 (rising_append x xs p c (omega arith) up.1 low.1)

rising_spread : (t : Transition) (n : ℕ) → rising 0 (spread t n) ≡ true
rising_spread t zero = refl
rising_spread t (suc p) = rising_append 0 (spread t p) p (tokens_on t p) (omega arith) (rising_spread t p) (below_spread t p)

blank_same : (n : ℕ) → blank (replicate n no_target) ≡ true
blank_same zero = refl
blank_same (suc n) = blank_same n

padded_filled : (width : ℕ) (ts : List ℕ) (k : ℕ) → length ts ≡ k → rising 0 ts ≡ true → padded k (filled width ts) ≡ true
padded_filled width ts k e r =
    let rest = replicate {A = ℕ} (width - length ts) no_target in
    and_from (rising 0 (take k (filled width ts))) (blank (drop k (filled width ts)))
    (ap (rising 0) (take_at ts rest k e) ∙ r)
    (ap blank (drop_at ts rest k e) ∙ blank_same (width - length ts))

-- ## A transition's record says that transition

pub reading_written : (n : ℕ) (t : Transition) → Within n t → reading (transition_record n t) ≡ moves t.place t.label (spread t n)
reading_written n t w =
    let ts = spread t n in
    let bytes = filled record_targets ts in
    let long = length_spread_all n t w in
    let pad : padded (total_of t) bytes ≡ true = padded_filled record_targets ts (total_of t) long (rising_spread t n) in
    let front : take (total_of t) bytes ≡ ts = take_at ts (replicate (record_targets - length ts) no_target) (total_of t) long in
    let small = and_from (leb t.label most_label) (leb (total_of t) record_targets) (le-leb t.label most_label w.label_small) (le-leb (total_of t) record_targets w.total_small) in
    let formed : transition_form t.label (total_of t) bytes ≡ true = and_from (leb t.label most_label && leb (total_of t) record_targets) (padded (total_of t) bytes) small pad in
    reading_kind (transition_record n t) refl
    ∙ ap (λ v. cond v (moves t.place t.label (take (total_of t) bytes)) broken) formed
    ∙ ap (moves t.place t.label) front

pub transition_written : (n : ℕ) (t : Transition) → Within n t → transition_of n (reading (transition_record n t)) ≡ t
transition_written n t w =
    ap (transition_of n) (reading_written n t w)
    ∙ ap (λ ps. record { place = t.place; label = t.label; puts = ps }) (sym (fill_by_all (tokens_to (spread t n)) t.puts n 0 w.targets_known (λ p h. sym (targets_spread t n p h))))
