-- What follows where the check has come past a record.
use Rattle.std.specs.Prelude.{◌≡◌, ℕ, zero, suc, ◌+◌, ◌-◌, ◌<◌, ◌≤◌, Bool, true, false, cond, List, Ok, Err, Result, ◌==◌, nat_le, nat_lt, refl}
use Rattle.std.proofs.Common.{add-zero, add-suc, add-one, arith, sym, ap, subst, ◌∙◌, ⊎_elim}
use Rattle.std.proofs.lemmas.Bool.{and_parts, ltb-true, leb-true, cases_lt}
use Rattle.net.specs.declared.refusal.Refusal.{Refusal}
use Rattle.net.specs.declared.refusal.Refusal.TheVariants.{MalformedRecord, UndeclaredPlace, OverLimit, TooManyTokens}
use Rattle.net.specs.declared.refusal.Fault.{Fault}
use Rattle.net.specs.Limits.{most_places, most_transitions, most_tokens}
use Rattle.records.specs.declared.counts.Counts.{Counts}
use Rattle.records.specs.Layout.{most_records, record_at}
use Rattle.records.specs.Entry.{Entry, declares, moves, holds, broken, reading}
use Rattle.records.specs.Check.{nothing, counted, well_formed, known, roomy, light, unless, admit, then, checked_to, counts_of}

-- ## One record

pub err_not_ok : {X : Type 0} (f : Fault) (c : Counts) → Err f ≡ Ok c → X
err_not_ok f c h = let z : ◌≡◌ {A = ℕ} 0 1 = cc in absurd (omega arith)

ok_same : (a b : Counts) → ◌≡◌ {A = Result Counts Fault} (Ok a) (Ok b) → a ≡ b
ok_same a b h = cc

unless_ok : (good : Bool) (why : Refusal) (k : ℕ) (rest : Result Counts Fault) (c : Counts) → unless good why k rest ≡ Ok c → (good ≡ true) × (rest ≡ Ok c)
unless_ok true why k rest c h = (refl, h)
unless_ok false why k rest c h = err_not_ok _ c h

-- an admitted record has passed each test, and is counted
pub record Passed (e : Entry) (k : ℕ) (c c' : Counts) : Type 0 where
  pub formed : well_formed e ≡ true
  pub names : known e c ≡ true
  pub room : roomy e k c ≡ true
  pub weight : light e c ≡ true
  pub after : counted e c ≡ c'

pub admit_ok : (e : Entry) (k : ℕ) (c c' : Counts) → admit e k c ≡ Ok c' → Passed e k c c'
admit_ok e k c c' h =
    let rest₄ = Ok (counted e c) in
    let rest₃ = unless (light e c) TooManyTokens k rest₄ in
    let rest₂ = unless (roomy e k c) OverLimit k rest₃ in
    let rest₁ = unless (known e c) UndeclaredPlace k rest₂ in
    let s₁ = unless_ok (well_formed e) MalformedRecord k rest₁ c' h in
    let s₂ = unless_ok (known e c) UndeclaredPlace k rest₂ c' s₁.1 in
    let s₃ = unless_ok (roomy e k c) OverLimit k rest₃ c' s₂.1 in
    let s₄ = unless_ok (light e c) TooManyTokens k rest₄ c' s₃.1 in
    record { formed = s₁.0; names = s₂.0; room = s₃.0; weight = s₄.0; after = ok_same (counted e c) c' s₄.1 }

-- ## The limits of what is counted

pub record Few (c : Counts) : Type 0 where
  pub few_places : c.places ≤ most_places
  pub few_transitions : c.transitions ≤ most_transitions
  pub few_left : c.left ≤ most_tokens
  pub few_right : c.right ≤ most_tokens

few_counted : (e : Entry) (k : ℕ) (c c' : Counts) → Passed e k c c' → Few c → Few (counted e c)
few_counted (declares number) k c c' p few =
    let room = and_parts (nat_lt c.places most_places) (nat_lt k most_records) p.room in
    let less = ltb-true c.places most_places room.0 in
    record { few_places = omega arith; few_transitions = few.few_transitions; few_left = few.few_left; few_right = few.few_right }
few_counted (moves place label targets) k c c' p few =
    let room = and_parts (nat_lt c.transitions most_transitions) (nat_lt k most_records) p.room in
    let less = ltb-true c.transitions most_transitions room.0 in
    record { few_places = few.few_places; few_transitions = omega arith; few_left = few.few_left; few_right = few.few_right }
few_counted (holds side place n) k c c' p few = by_side (side == 0) p.weight
  where
    by_side : (v : Bool) → nat_le (cond v c.left c.right + n) most_tokens ≡ true →
        Few (cond v (record { places = c.places; transitions = c.transitions; left = c.left + n; right = c.right }) (record { places = c.places; transitions = c.transitions; left = c.left; right = c.right + n }))
    by_side true w = record { few_places = few.few_places; few_transitions = few.few_transitions; few_left = leb-true (c.left + n) most_tokens w; few_right = few.few_right }
    by_side false w = record { few_places = few.few_places; few_transitions = few.few_transitions; few_left = few.few_left; few_right = leb-true (c.right + n) most_tokens w }
few_counted broken k c c' p few = few

pub places_grow : (e : Entry) (c : Counts) → c.places ≤ (counted e c).places
places_grow (declares number) c = omega arith
places_grow (moves place label targets) c = omega arith
places_grow (holds side place n) c = by_side (side == 0)
  where
    by_side : (v : Bool) → c.places ≤ (cond {A = Counts} v (record { places = c.places; transitions = c.transitions; left = c.left + n; right = c.right }) (record { places = c.places; transitions = c.transitions; left = c.left; right = c.right + n })).places
    by_side true = omega arith
    by_side false = omega arith
places_grow broken c = omega arith

roomy_record : (e : Entry) (k : ℕ) (c : Counts) → roomy e k c ≡ true → k < most_records
roomy_record (declares number) k c h = ltb-true k most_records (and_parts (nat_lt c.places most_places) (nat_lt k most_records) h).1
roomy_record (moves place label targets) k c h = ltb-true k most_records (and_parts (nat_lt c.transitions most_transitions) (nat_lt k most_records) h).1
roomy_record (holds side place n) k c h = ltb-true k most_records h
roomy_record broken k c h = ltb-true k most_records h

-- ## The first k records

module _ (b : List ℕ) where
  -- a check that has come past record k was at some counts before it
  pub record Before (k : ℕ) (c' : Counts) : Type 0 where
    pub counts : Counts
    pub reached : checked_to b k ≡ Ok counts
    pub passed : Passed (reading (record_at b k)) k counts c'

  pub before : (k : ℕ) (c' : Counts) → checked_to b (suc k) ≡ Ok c' → Before k c'
  before k c' h = go (checked_to b k) refl h
    where
      go : (r : Result Counts Fault) → checked_to b k ≡ r → then r (admit (reading (record_at b k)) k) ≡ Ok c' → Before k c'
      go (Ok c) e h = record { counts = c; reached = e; passed = admit_ok (reading (record_at b k)) k c c' h }
      go (Err f) e h = err_not_ok f c' h

  pub counts_are : (k : ℕ) (c : Counts) → checked_to b k ≡ Ok c → c ≡ counts_of b k
  counts_are zero c h = sym (ok_same nothing c h)
  counts_are (suc k) c h =
      let p = before k c h in
      sym p.passed.after ∙ ap (counted (reading (record_at b k))) (counts_are k p.counts p.reached)

  pub few_to : (k : ℕ) (c : Counts) → checked_to b k ≡ Ok c → Few c
  few_to zero c h = subst Few (ok_same nothing c h) (record { few_places = omega arith; few_transitions = omega arith; few_left = omega arith; few_right = omega arith })
  few_to (suc k) c h =
      let p = before k c h in
      subst Few p.passed.after (few_counted (reading (record_at b k)) k p.counts c p.passed (few_to k p.counts p.reached))

  pub few_records : (k : ℕ) (c : Counts) → checked_to b k ≡ Ok c → k ≤ most_records
  few_records zero c h = omega arith
  few_records (suc k) c h = let p = before k c h in roomy_record (reading (record_at b k)) k p.counts p.passed.room

  -- each of the records has passed, after what the earlier ones hold
  settled : (e : Entry) (k : ℕ) (c c' d : Counts) → c ≡ d → Passed e k c c' → Passed e k d (counted e d)
  settled e k c c' d same p = record {
    formed = p.formed;
    names = subst (λ x. known e x ≡ true) same p.names;
    room = subst (λ x. roomy e k x ≡ true) same p.room;
    weight = subst (λ x. light e x ≡ true) same p.weight;
    after = refl;
  }

  pub passed_at : (n : ℕ) (c : Counts) → checked_to b n ≡ Ok c → (k : ℕ) → k < n → Passed (reading (record_at b k)) k (counts_of b k) (counts_of b (suc k))
  passed_at zero c h k l = absurd (omega arith)
  passed_at (suc n) c h k l =
      let p = before n c h in
      let earlier = passed_at n p.counts p.reached k in
      let last = settled (reading (record_at b n)) n p.counts c (counts_of b n) (counts_are n p.counts p.reached) p.passed in
      ⊎_elim earlier (λ g. let same : n ≡ k = omega arith in subst (λ j. Passed (reading (record_at b j)) j (counts_of b j) (counts_of b (suc j))) same last) (cases_lt k n)

  pub few_at : (n : ℕ) (c : Counts) → checked_to b n ≡ Ok c → (k : ℕ) → k ≤ n → Few (counts_of b k)
  few_at n c h zero l = record { few_places = omega arith; few_transitions = omega arith; few_left = omega arith; few_right = omega arith }
  few_at n c h (suc k) l = few_counted (reading (record_at b k)) k (counts_of b k) (counts_of b (suc k)) (passed_at n c h k l) (few_at n c h k (omega arith))

  places_by : (k d : ℕ) → (counts_of b k).places ≤ (counts_of b (k + d)).places
  places_by k zero = rw add-zero (omega arith)
  places_by k (suc d) = rw add-suc (omega (arith, places_by k d, places_grow (reading (record_at b (k + d))) (counts_of b (k + d))))

  pub places_mono : (k n : ℕ) → k ≤ n → (counts_of b k).places ≤ (counts_of b n).places
  places_mono k n h =
      let same : k + (n - k) ≡ n = omega arith in
      subst (λ j. (counts_of b k).places ≤ (counts_of b j).places) same (places_by k (n - k))

  -- a fault stays the first
  stays_by : (i d : ℕ) (f : Fault) → checked_to b i ≡ Err f → checked_to b (i + d) ≡ Err f
  stays_by i zero f h = rw add-zero h
  stays_by i (suc d) f h = rw (add-suc, stays_by i d f h) refl

  pub stays : (i n : ℕ) (f : Fault) → checked_to b i ≡ Err f → i ≤ n → checked_to b n ≡ Err f
  stays i n f h le =
      let same : i + (n - i) ≡ n = omega arith in
      subst (λ m. checked_to b m ≡ Err f) same (stays_by i (n - i) f h)

  -- one record more, as a loop counts and reads it
  pub checked_to_more : (k : ℕ) (c : Counts) (r : List ℕ) (result : Result Counts Fault) → checked_to b k ≡ Ok c → r ≡ record_at b k → result ≡ admit (reading r) k c → checked_to b (k + 1) ≡ result
  checked_to_more k c r result h read is = rw (add-one, h) (sym (is ∙ ap (λ x. admit (reading x) k c) read))
