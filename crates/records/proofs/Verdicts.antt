-- The check's result means what a verdict says.
use Rattle.std.proofs.Common.{◌≡◌, ℕ, zero, suc, ◌%◌, ◌<◌, ◌≤◌, Bool, true, false, cond, ◌&&◌, eqb, ltb, ◌⊎◌, List, [], ◌∷◌, length, Ok, Err, Result, sym, refl, subst, inl, inr, ⊎_elim, arith}
use Rattle.std.proofs.lemmas.Bool.{false≢true, true≢false, and_parts, and_cases, ltb-true, ltb-false, leb-true, leb-false, eqb-true, eqb-false, cases_lt}
use Rattle.net.specs.declared.refusal.Refusal.TheVariants.{PartialRecord, MalformedRecord, UndeclaredPlace, OverLimit, TooManyTokens}
use Rattle.net.specs.declared.refusal.Fault.{Fault}
use Rattle.net.specs.Refusals.{First, Free, Rising, at_spot}
use Rattle.net.specs.Limits.{most_places, most_transitions, most_tokens}
use Rattle.records.specs.declared.counts.Counts.{Counts}
use Rattle.records.specs.Layout.{record_size, most_records, record_count, record_at}
use Rattle.records.specs.Entry.{Entry, declares, moves, holds, broken, below, reading}
use Rattle.records.specs.Check.{tokens_with, counted, well_formed, known, roomy, light, unless, admit, then, checked_to, checked}
use Rattle.records.specs.Verdict.{Malformed, Beyond, Undeclared, Over, Heavy, reasons, reasons_at, Admitted, Verdict}
use Rattle.records.specs.CheckLaws.{Passed, before, counts_are}

-- ## Each test decides its reason

formed_yes : (e : Entry) → well_formed e ≡ true → ¬ (Malformed e)
formed_yes (declares number) h m = m
formed_yes (moves place label targets) h m = m
formed_yes (holds side place n) h m = m
formed_yes broken h m = false≢true h

formed_no : (e : Entry) → well_formed e ≡ false → Malformed e
formed_no (declares number) h = true≢false h
formed_no (moves place label targets) h = true≢false h
formed_no (holds side place n) h = true≢false h
formed_no broken h = tt

below_yes : (n : ℕ) (ts : List ℕ) → below n ts ≡ true → ¬ (Beyond n ts)
below_yes n [] h (i, l, g) = omega arith
below_yes n (t ∷ ts) h (zero, l, g) = let less = ltb-true t n (and_parts (ltb t n) (below n ts) h).0 in omega arith
below_yes n (t ∷ ts) h (suc i, l, g) = below_yes n ts (and_parts (ltb t n) (below n ts) h).1 (i, omega arith, g)

below_no : (n : ℕ) (ts : List ℕ) → below n ts ≡ false → Beyond n ts
below_no n [] h = absurd (true≢false h)
below_no n (t ∷ ts) h =
    let ih = below_no n ts in
    ⊎_elim
    (λ e. (0, omega arith, ltb-false t n e))
    (λ e. let found = ih e in (suc found.0, omega (arith, found.1), found.2))
    (and_cases (ltb t n) (below n ts) h)

names_yes : (e : Entry) (c : Counts) → known e c ≡ true → ¬ (Undeclared e c)
names_yes (declares number) c h u = u (eqb-true number c.places h)
names_yes (moves place label targets) c h u =
    let both = and_parts (ltb place c.places) (below c.places targets) h in
    let less = ltb-true place c.places both.0 in
    ⊎_elim (λ g. omega arith) (below_yes c.places targets both.1) u
names_yes (holds side place n) c h u = let less = ltb-true place c.places h in omega arith
names_yes broken c h u = u

names_no : (e : Entry) (c : Counts) → known e c ≡ false → Undeclared e c
names_no (declares number) c h = eqb-false number c.places h
names_no (moves place label targets) c h =
    ⊎_elim (λ e. inl (ltb-false place c.places e)) (λ e. inr (below_no c.places targets e)) (and_cases (ltb place c.places) (below c.places targets) h)
names_no (holds side place n) c h = ltb-false place c.places h
names_no broken c h = true≢false h

-- two limits at once
room_yes_by : (a m k : ℕ) → (ltb a m && ltb k most_records) ≡ true → ¬ ((m ≤ a) ⊎ (most_records ≤ k))
room_yes_by a m k h o =
    let both = and_parts (ltb a m) (ltb k most_records) h in
    let less = ltb-true a m both.0 in
    let early = ltb-true k most_records both.1 in
    ⊎_elim (λ g. omega arith) (λ g. omega arith) o

room_no_by : (a m k : ℕ) → (ltb a m && ltb k most_records) ≡ false → (m ≤ a) ⊎ (most_records ≤ k)
room_no_by a m k h = ⊎_elim (λ e. inl (ltb-false a m e)) (λ e. inr (ltb-false k most_records e)) (and_cases (ltb a m) (ltb k most_records) h)

early : (k : ℕ) → ltb k most_records ≡ true → ¬ (most_records ≤ k)
early k h g = let less = ltb-true k most_records h in omega arith

room_yes : (e : Entry) (k : ℕ) (c : Counts) → roomy e k c ≡ true → ¬ (Over e k c)
room_yes (declares number) k c h = room_yes_by c.places most_places k h
room_yes (moves place label targets) k c h = room_yes_by c.transitions most_transitions k h
room_yes (holds side place n) k c h = early k h
room_yes broken k c h = early k h

room_no : (e : Entry) (k : ℕ) (c : Counts) → roomy e k c ≡ false → Over e k c
room_no (declares number) k c h = room_no_by c.places most_places k h
room_no (moves place label targets) k c h = room_no_by c.transitions most_transitions k h
room_no (holds side place n) k c h = ltb-false k most_records h
room_no broken k c h = ltb-false k most_records h

weight_yes : (e : Entry) (c : Counts) → light e c ≡ true → ¬ (Heavy e c)
weight_yes (declares number) c h g = g
weight_yes (moves place label targets) c h g = g
weight_yes (holds side place n) c h g = let few = leb-true (tokens_with side n c) most_tokens h in omega arith
weight_yes broken c h g = g

weight_no : (e : Entry) (c : Counts) → light e c ≡ false → Heavy e c
weight_no (declares number) c h = true≢false h
weight_no (moves place label targets) c h = true≢false h
weight_no (holds side place n) c h = leb-false (tokens_with side n c) most_tokens h
weight_no broken c h = true≢false h

-- ## One record

pub reasons_rise : (e : Entry) (k : ℕ) (c : Counts) → Rising 1 (reasons e k c)
reasons_rise e k c = (omega arith, (omega arith, (omega arith, (omega arith, tt))))

passed_free : (e : Entry) (k : ℕ) (c c' : Counts) → Passed e k c c' → Free (reasons e k c)
passed_free e k c c' p = (formed_yes e p.formed, (names_yes e c p.names, (room_yes e k c p.room, (weight_yes e c p.weight, tt))))

err_same : (f g : Fault) → ◌≡◌ {A = Result Counts Fault} (Err f) (Err g) → f ≡ g
err_same f g h = cc

admit_err : (e : Entry) (k : ℕ) (c : Counts) (f : Fault) → admit e k c ≡ Err f → First (reasons e k c) f
admit_err e k c f h = go (well_formed e) (known e c) (roomy e k c) (light e c) refl refl refl refl h
  where
    go : (v₁ v₂ v₃ v₄ : Bool) → well_formed e ≡ v₁ → known e c ≡ v₂ → roomy e k c ≡ v₃ → light e c ≡ v₄ →
        unless v₁ MalformedRecord k (unless v₂ UndeclaredPlace k (unless v₃ OverLimit k (unless v₄ TooManyTokens k (Ok (counted e c))))) ≡ Err f → First (reasons e k c) f
    go false v₂ v₃ v₄ e₁ e₂ e₃ e₄ h = inl (formed_no e e₁, err_same _ f h)
    go true false v₃ v₄ e₁ e₂ e₃ e₄ h = inr (formed_yes e e₁, inl (names_no e c e₂, err_same _ f h))
    go true true false v₄ e₁ e₂ e₃ e₄ h = inr (formed_yes e e₁, inr (names_yes e c e₂, inl (room_no e k c e₃, err_same _ f h)))
    go true true true false e₁ e₂ e₃ e₄ h = inr (formed_yes e e₁, inr (names_yes e c e₂, inr (room_yes e k c e₃, inl (weight_no e c e₄, err_same _ f h))))
    go true true true true e₁ e₂ e₃ e₄ h = let z : ◌≡◌ {A = ℕ} 0 1 = cc in absurd (omega arith)

-- ## The file

module _ (b : List ℕ) where
  abbrev AllBelow : ℕ → Type 0
  AllBelow k = (j : ℕ) → j < k → Admitted b j

  one_more : (k : ℕ) → AllBelow k → Admitted b k → AllBelow (suc k)
  one_more k earlier here j l = ⊎_elim (earlier j) (λ g. let same : k ≡ j = omega arith in subst (Admitted b) same here) (cases_lt j k)

  all_admitted : (k : ℕ) (c : Counts) → checked_to b k ≡ Ok c → AllBelow k
  all_admitted zero c h = λ j l. absurd (omega arith)
  all_admitted (suc k) c h =
      let p = before b k c h in
      let e = reading (record_at b k) in
      let here = passed_free e k p.counts c p.passed in
      one_more k (all_admitted k p.counts p.reached) (subst (λ x. Free (reasons e k x)) (counts_are b k p.counts p.reached) here)

  -- the first fault among the first n records
  record FirstFault (n : ℕ) (f : Fault) : Type 0 where
    spot : ℕ
    inside : spot < n
    earlier : AllBelow spot
    why : First (reasons_at b spot) f

  first_fault : (n : ℕ) (f : Fault) → checked_to b n ≡ Err f → FirstFault n f
  first_fault zero f h = let z : ◌≡◌ {A = ℕ} 0 1 = cc in absurd (omega arith)
  first_fault (suc n) f h = go (checked_to b n) refl h (first_fault n)
    where
      go : (r : Result Counts Fault) → checked_to b n ≡ r → then r (admit (reading (record_at b n)) n) ≡ Err f → ((g : Fault) → checked_to b n ≡ Err g → FirstFault n g) → FirstFault (suc n) f
      go (Ok c) e h ih = record {
        spot = n;
        inside = omega arith;
        earlier = all_admitted n c e;
        why = subst (λ x. First (reasons (reading (record_at b n)) n x) f) (counts_are b n c e) (admit_err (reading (record_at b n)) n c f h);
      }
      go (Err g) e h ih =
          let found = ih g e in
          record { spot = found.spot; inside = omega (arith, found.inside); earlier = found.earlier; why = subst (First (reasons_at b found.spot)) (err_same g f h) found.why }

  checked_means : Verdict b (checked b)
  checked_means = by_length (eqb (length b % record_size) 0) refl
    where
      by_record : length b % record_size ≡ 0 → (r : Result Counts Fault) → checked_to b (record_count b) ≡ r → Verdict b r
      by_record whole (Ok c) e = record { whole = whole; each = all_admitted (record_count b) c e; counts = counts_are b (record_count b) c e }
      by_record whole (Err f) e =
          let found = first_fault (record_count b) f e in
          inr (found.spot, record { whole = whole; inside = found.inside; earlier = found.earlier; why = found.why })

      by_length : (v : Bool) → eqb (length b % record_size) 0 ≡ v → Verdict b (cond v (checked_to b (record_count b)) (Err (at_spot PartialRecord (record_count b))))
      by_length true e = by_record (eqb-true (length b % record_size) 0 e) (checked_to b (record_count b)) refl
      by_length false e = inl (record { partial = eqb-false (length b % record_size) 0 e; fault = refl })

  -- a result that is the defined one
  pub means : (r : Result Counts Fault) → r ≡ checked b → Verdict b r
  means r e = subst (Verdict b) (sym e) checked_means
