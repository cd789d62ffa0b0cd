-- A net's file means that net.
use Rattle.std.proofs.Common.{◌≡◌, ℕ, zero, suc, ◌+◌, ◌-◌, ◌*◌, ◌%◌, ◌<◌, ◌≤◌, min, true, false, cond, ◌&&◌, eqb, ltb, ◌⊎◌, [], ◌∷◌, ◌++◌, map, length, take, drop, is_ok, Ok, Err, sym, refl, ap, ◌∙◌, subst, ap₂, inl, inr, ⊎_elim, arith, length-append, length-drop}
use Rattle.std.proofs.lemmas.List.{take_all, drop_at, take-append-le, drop-append-le, take_more, map_push}
use Rattle.std.proofs.lemmas.Bool.{and_from, lt-ltb, le-ltb, eq-eqb, cases_lt}
use Rattle.net.specs.declared.refusal.Refusal.TheVariants.{PartialRecord, MalformedRecord, UndeclaredPlace, OverLimit, TooManyTokens}
use Rattle.net.specs.Refusals.{at_spot}
use Rattle.net.specs.Meaning.{Meaning, Transition, transition, idle, empty}
use Rattle.net.specs.Limits.{Lawful, Within, most_places, most_transitions}
use Rattle.records.specs.declared.counts.Counts.{Counts}
use Rattle.records.specs.Layout.{record_size, record_targets, most_records, record_count, record_at}
use Rattle.records.specs.Entry.{Entry, declares, moves, is_transition, below, reading}
use Rattle.records.specs.Check.{counted, well_formed, known, roomy, light, unless, admit, then, checked_to, checked}
use Rattle.records.specs.CheckLaws.{counts_are}
use Rattle.records.specs.File.{sound, transition_of, transition_records, declared_places, declared_net, net_of}
use Rattle.records.specs.Write.{place_record, transition_record, record_of, written, records_of, file_of}
use Rattle.net.specs.Targets.{spread}
use Rattle.net.proofs.Spreads.{length_spread_all, length_filled}
use Rattle.records.proofs.Spreads.{below_spread, reading_written, transition_written}

-- a record that passes each test is admitted
admit_from : (e : Entry) (k : ℕ) (c : Counts) → well_formed e ≡ true → known e c ≡ true → roomy e k c ≡ true → light e c ≡ true → admit e k c ≡ Ok (counted e c)
admit_from e k c formed names room weight =
    let rest₃ = unless (light e c) TooManyTokens k (Ok (counted e c)) in
    let rest₂ = unless (roomy e k c) OverLimit k rest₃ in
    let rest₁ = unless (known e c) UndeclaredPlace k rest₂ in
    ap (λ v. unless v MalformedRecord k rest₁) formed
    ∙ ap (λ v. unless v UndeclaredPlace k rest₂) names
    ∙ ap (λ v. unless v OverLimit k rest₃) room
    ∙ ap (λ v. unless v TooManyTokens k (Ok (counted e c))) weight

module _ (m : Meaning) (law : Lawful m) where
  -- ## The bytes

  within : (k : ℕ) → m.places ≤ k → k < records_of m → Within m.places (transition m (k - m.places))
  within k h l = law.each (k - m.places) (omega arith)

  at_place : (k : ℕ) → k < m.places → record_of m k ≡ place_record k
  at_place k h = ap (λ v. cond v (place_record k) (transition_record m.places (transition m (k - m.places)))) (lt-ltb k m.places h)

  at_transition : (k : ℕ) → m.places ≤ k → record_of m k ≡ transition_record m.places (transition m (k - m.places))
  at_transition k h = ap (λ v. cond v (place_record k) (transition_record m.places (transition m (k - m.places)))) (le-ltb k m.places h)

  pub length_record_of : (k : ℕ) → k < records_of m → length (record_of m k) ≡ record_size
  length_record_of k l = ⊎_elim place move (cases_lt k m.places)
    where
      place : k < m.places → length (record_of m k) ≡ record_size
      place h = ap length (at_place k h)

      move : m.places ≤ k → length (record_of m k) ≡ record_size
      move h =
          let w = within k h l in
          let t = transition m (k - m.places) in
          ap length (at_transition k h) ∙ omega (arith, length_filled record_targets (spread t m.places) (omega (arith, length_spread_all m.places t w, w.total_small)))

  pub length_written : (k : ℕ) → k ≤ records_of m → length (written m k) ≡ record_size * k
  length_written zero h = refl
  length_written (suc k) h = omega (arith, length-append (written m k) (record_of m k), length_written k (omega arith), length_record_of k (omega arith))

  record_written : (n k : ℕ) → n ≤ records_of m → k < n → record_at (written m n) k ≡ record_of m k
  record_written zero k h l = absurd (omega arith)
  record_written (suc n) k h l = go (record_written n k (omega arith)) (cases_lt k n)
    where
      go : (k < n → record_at (written m n) k ≡ record_of m k) → (k < n) ⊎ (n ≤ k) → record_at (written m n ++ record_of m n) k ≡ record_of m k
      go ih (inl less) =
          let long = length_written n (omega arith) in
          ap (take record_size) (drop-append-le (record_size * k) (written m n) (record_of m n) (omega arith))
          ∙ take-append-le record_size (drop (record_size * k) (written m n)) (record_of m n) (omega (arith, length-drop (record_size * k) (written m n)))
          ∙ ih less
      go ih (inr more) =
          let same : n ≡ k = omega arith in
          subst (λ j. record_at (written m n ++ record_of m n) j ≡ record_of m j) same
          (ap (take record_size) (drop_at (written m n) (record_of m n) (record_size * n) (length_written n (omega arith))) ∙ take_all record_size (record_of m n) (omega (arith, length_record_of n (omega arith))))

  -- ## The check

  -- what the first k records hold
  abbrev so_far : ℕ → Counts
  so_far k = record { places = min k m.places; transitions = k - m.places; left = 0; right = 0 }

  counts_same : (p p' t t' : ℕ) → p ≡ p' → t ≡ t' → ◌≡◌ {A = Counts} (record { places = p; transitions = t; left = 0; right = 0 }) (record { places = p'; transitions = t'; left = 0; right = 0 })
  counts_same p p' t t' e f = ap₂ (λ x y. record { places = x; transitions = y; left = 0; right = 0 }) e f

  step : (k : ℕ) → k < records_of m → admit (reading (record_of m k)) k (so_far k) ≡ Ok (so_far (suc k))
  step k l = ⊎_elim place move (cases_lt k m.places)
    where
      place : k < m.places → admit (reading (record_of m k)) k (so_far k) ≡ Ok (so_far (suc k))
      place h =
          let few = law.few_places in
          let turn : eqb k (min k m.places) ≡ true = eq-eqb k (min k m.places) (omega arith) in
          let room : (ltb (min k m.places) most_places && ltb k most_records) ≡ true =
          and_from (ltb (min k m.places) most_places) (ltb k most_records) (lt-ltb (min k m.places) most_places (omega arith)) (lt-ltb k most_records (omega arith)) in
          ap (λ r. admit (reading r) k (so_far k)) (at_place k h)
          ∙ admit_from (declares k) k (so_far k) refl turn room refl
          ∙ ap Ok (counts_same (min k m.places + 1) (min (suc k) m.places) (k - m.places) (suc k - m.places) (omega arith) (omega arith))

      move : m.places ≤ k → admit (reading (record_of m k)) k (so_far k) ≡ Ok (so_far (suc k))
      move h =
          let t = transition m (k - m.places) in
          let w = within k h l in
          let ts = spread t m.places in
          let all : min k m.places ≡ m.places = omega arith in
          let few = law.few_places in
          let fewer = law.few_transitions in
          let names : (ltb t.place (min k m.places) && below (min k m.places) ts) ≡ true =
          subst (λ j. (ltb t.place j && below j ts) ≡ true) (sym all) (and_from (ltb t.place m.places) (below m.places ts) (lt-ltb t.place m.places w.place_known) (below_spread t m.places)) in
          let room : (ltb (k - m.places) most_transitions && ltb k most_records) ≡ true =
          and_from (ltb (k - m.places) most_transitions) (ltb k most_records) (lt-ltb (k - m.places) most_transitions (omega arith)) (lt-ltb k most_records (omega arith)) in
          ap (λ r. admit (reading r) k (so_far k)) (at_transition k h)
          ∙ ap (λ e. admit e k (so_far k)) (reading_written m.places t w)
          ∙ admit_from (moves t.place t.label ts) k (so_far k) refl names room refl
          ∙ ap Ok (counts_same (min k m.places) (min (suc k) m.places) (k - m.places + 1) (suc k - m.places) (omega arith) (omega arith))

  checked_to_written : (k : ℕ) → k ≤ records_of m → checked_to (file_of m) k ≡ Ok (so_far k)
  checked_to_written zero h = ap Ok (counts_same 0 (min 0 m.places) 0 (0 - m.places) (omega arith) (omega arith))
  checked_to_written (suc k) h =
      ap (λ r. then r (admit (reading (record_at (file_of m) k)) k)) (checked_to_written k (omega arith))
      ∙ ap (λ r. admit (reading r) k (so_far k)) (record_written (records_of m) k (omega arith) (omega arith))
      ∙ step k (omega arith)

  count_written : record_count (file_of m) ≡ records_of m
  count_written = let long = length_written (records_of m) (omega arith) in omega arith

  checked_written : checked (file_of m) ≡ Ok (so_far (records_of m))
  checked_written =
      let long = length_written (records_of m) (omega arith) in
      let whole : length (file_of m) % record_size ≡ 0 = omega arith in
      ap (λ v. cond v (checked_to (file_of m) (record_count (file_of m))) (Err (at_spot PartialRecord (record_count (file_of m))))) (eq-eqb (length (file_of m) % record_size) 0 whole)
      ∙ ap (checked_to (file_of m)) count_written
      ∙ checked_to_written (records_of m) (omega arith)

  -- ## The net

  -- the transitions of the first k records
  transitions_written : (k : ℕ) → k ≤ records_of m → map (λ j. transition_of m.places (reading (record_at (file_of m) j))) (transition_records (file_of m) k) ≡ take (k - m.places) m.transitions
  transitions_written zero h = let e : 0 - m.places ≡ 0 = omega arith in rw e refl
  transitions_written (suc k) h = go (transitions_written k (omega arith)) (cases_lt k m.places)
    where
      f : ℕ → Transition
      f j = transition_of m.places (reading (record_at (file_of m) j))

      is : record_at (file_of m) k ≡ record_of m k
      is = record_written (records_of m) k (omega arith) (omega arith)

      go : map f (transition_records (file_of m) k) ≡ take (k - m.places) m.transitions → (k < m.places) ⊎ (m.places ≤ k) → map f (transition_records (file_of m) (suc k)) ≡ take (suc k - m.places) m.transitions
      go ih (inl l) =
          let kind : is_transition (reading (record_at (file_of m) k)) ≡ false = ap (λ r. is_transition (reading r)) (is ∙ at_place k l) in
          let none : suc k - m.places ≡ k - m.places = omega arith in
          ap (λ v. map f (cond v (transition_records (file_of m) k ++ k ∷ []) (transition_records (file_of m) k))) kind ∙ ih ∙ ap (λ j. take j m.transitions) (sym none)
      go ih (inr l) =
          let t = transition m (k - m.places) in
          let w = within k l (omega arith) in
          let kind : is_transition (reading (record_at (file_of m) k)) ≡ true = ap (λ r. is_transition (reading r)) (is ∙ at_transition k l) ∙ ap is_transition (reading_written m.places t w) in
          let here : f k ≡ t = ap (λ r. transition_of m.places (reading r)) (is ∙ at_transition k l) ∙ transition_written m.places t w in
          let more : suc k - m.places ≡ (k - m.places) + 1 = omega arith in
          ap (λ v. map f (cond v (transition_records (file_of m) k ++ k ∷ []) (transition_records (file_of m) k))) kind
          ∙ map_push f (transition_records (file_of m) k) k
          ∙ ap₂ (λ xs x. xs ++ x ∷ []) ih here
          ∙ sym (take_more m.transitions (k - m.places) idle (omega arith))
          ∙ ap (λ j. take j m.transitions) (sym more)

  pub net_written : net_of (file_of m) ≡ m
  net_written =
      let b = file_of m in
      let ok : sound b ≡ true = ap is_ok checked_written in
      let places : declared_places b ≡ m.places =
      ap (λ c. c.places) (sym (counts_are b (record_count b) (so_far (records_of m)) (ap (checked_to b) count_written ∙ checked_to_written (records_of m) (omega arith)))) ∙ omega arith in
      let whole : take (records_of m - m.places) m.transitions ≡ m.transitions = take_all (records_of m - m.places) m.transitions (omega arith) in
      ap (λ v. cond v (declared_net b) empty) ok
      ∙ ap₂ (λ n ks. record { places = n; transitions = map (λ k. transition_of n (reading (record_at b k))) ks }) places (ap (transition_records b) count_written)
      ∙ ap (λ ts. record { places = m.places; transitions = ts }) (transitions_written (records_of m) (omega arith) ∙ whole)
