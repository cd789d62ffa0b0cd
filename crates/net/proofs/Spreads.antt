-- The targets of a transition: as many as its tokens, each one a place, and each place as often as it is put a token.
use Rattle.std.proofs.Common.{◌≡◌, ℕ, zero, suc, ◌+◌, ◌-◌, ◌<◌, ◌≤◌, Bool, true, false, cond, eqb, ◌⊎◌, List, ◌∷◌, [], ◌++◌, length, get_or, set, take, replicate, sum, sym, refl, ap, ap₂, ◌∙◌, subst, inl, inr, ⊎_elim, add-one, arith, length-append}
use Rattle.std.specs.Prelude.{count_by, nat_eq}
use Rattle.std.proofs.Math.Seq.{set-append_seam, get_or-append_right}
use Rattle.std.proofs.lemmas.List.{append-nil, append_assoc, length-replicate, take_all, get_or_append_left, get_or-replicate, get_or_past, replicate-append-replicate}
use Rattle.std.proofs.lemmas.List.Sums.{sum_by_more, sum_by-append, sum_by-cons}
use Rattle.std.proofs.lemmas.Bool.{cases_eq, cases_lt, eqb-true, eqb-false, ne_eqb}
use Rattle.net.specs.Meaning.{Meaning, Transition, transition, idle, count_of, tokens_on, total_of}
use Rattle.net.specs.Limits.{Within, Lawful, most_total}
use Rattle.net.specs.Targets.{no_target, spread, filled}

-- ## As many targets as tokens

cases_none : (k : ℕ) → (k ≡ 0) ⊎ (0 < k)
cases_none zero = inl refl
cases_none (suc k) = inr (omega arith)

spread_more : (t : Transition) (p : ℕ) → length (spread t (suc p)) ≡ length (spread t p) + tokens_on t p
spread_more t p = omega (arith, length-append (spread t p) (replicate (tokens_on t p) p), length-replicate (tokens_on t p) p)

length_spread : (t : Transition) (n : ℕ) → n ≤ length t.puts → length (spread t n) ≡ sum (take n t.puts)
length_spread t zero h = refl
length_spread t (suc p) h =
    let more : sum (take (suc p) t.puts) ≡ sum (take p t.puts) + tokens_on t p = subst (λ q. sum (take q t.puts) ≡ sum (take p t.puts) + tokens_on t p) (add-one p) (sum_by_more (λ x. x) t.puts p 0 (omega arith)) in
    omega (arith, more, length_spread t p (omega arith), spread_more t p)

pub length_spread_all : (n : ℕ) (t : Transition) → Within n t → length (spread t n) ≡ total_of t
length_spread_all n t w = length_spread t n (omega (arith, w.targets_known)) ∙ ap sum (take_all n t.puts (omega (arith, w.targets_known)))

pub length_filled : (width : ℕ) (ts : List ℕ) → length ts ≤ width → length (filled width ts) ≡ width
length_filled width ts h = omega (arith, length-append ts (replicate (width - length ts) no_target), length-replicate {A = ℕ} (width - length ts) no_target)

spread_idle : (n : ℕ) → length (spread idle n) ≡ 0
spread_idle zero = refl
spread_idle (suc n) = omega (arith, spread_more idle n, spread_idle n)

-- also of a transition that is out of range
module _ (m : Meaning) (law : Lawful m) (t : ℕ) where
  pub total_spread : length (spread (transition m t) m.places) ≡ total_of (transition m t)
  total_spread = ⊎_elim inside outside (cases_lt t (count_of m))
    where
      inside : t < count_of m → length (spread (transition m t) m.places) ≡ total_of (transition m t)
      inside h = length_spread_all m.places (transition m t) (law.each t h)

      outside : count_of m ≤ t → length (spread (transition m t) m.places) ≡ total_of (transition m t)
      outside h = rw (get_or_past m.transitions t idle h) (spread_idle m.places)

  pub total_few : total_of (transition m t) ≤ most_total
  total_few = ⊎_elim inside outside (cases_lt t (count_of m))
    where
      inside : t < count_of m → total_of (transition m t) ≤ most_total
      inside h = (law.each t h).total_small

      outside : count_of m ≤ t → total_of (transition m t) ≤ most_total
      outside h = omega (arith, ap total_of (get_or_past m.transitions t idle h))

-- ## Places with and without a token

pub spread_grows : (t : Transition) (n p : ℕ) → p ≤ n → length (spread t p) ≤ length (spread t n)
spread_grows t zero p h = let e : p ≡ 0 = omega arith in rw e (omega arith)
spread_grows t (suc n) p h =
    elim (cases_eq p (suc n)) [
      | inl e ↦ omega (arith, ap (λ k. length (spread t k)) e)
      | inr d ↦ omega (arith, spread_grows t n p (omega arith), spread_more t n)
    ]

-- once all tokens are found, the places behind have none
pub spread_done : (t : Transition) (n p : ℕ) → p ≤ n → length (spread t n) ≤ length (spread t p) → spread t p ≡ spread t n
spread_done t zero p h l = let e : p ≡ 0 = omega arith in ap (spread t) e
spread_done t (suc n) p h l =
    elim (cases_eq p (suc n)) [
      | inl e ↦ ap (spread t) e
      | inr d ↦ (
          let none : tokens_on t n ≡ 0 = omega (arith, spread_more t n, spread_grows t n p (omega arith)) in
          let before : spread t p ≡ spread t n = spread_done t n p (omega arith) (omega (arith, spread_more t n)) in
          before ∙ sym (append-nil (spread t n)) ∙ ap (λ c. spread t n ++ replicate c n) (sym none)
          )
    ]

module _ (m : Meaning) (law : Lawful m) (t p : ℕ) where
  -- while tokens are missing, there is a place to ask
  pub place_left : p ≤ m.places → length (spread (transition m t) p) < total_of (transition m t) → p < m.places
  place_left h l =
      elim (cases_eq p m.places) [
        | inl e ↦ absurd (omega (arith, total_spread m law t, ap (λ k. length (spread (transition m t) k)) e))
        | inr d ↦ omega arith
      ]

  -- the targets on the place find room
  pub spread_room : p < m.places → length (spread (transition m t) p) + tokens_on (transition m t) p ≤ most_total
  spread_room h = omega (arith, spread_more (transition m t) p, spread_grows (transition m t) m.places (suc p) h, total_spread m law t, total_few m law t)

  pub all_found : p ≤ m.places → total_of (transition m t) ≤ length (spread (transition m t) p) → spread (transition m t) p ≡ spread (transition m t) m.places
  all_found h l = spread_done (transition m t) m.places p h (omega (arith, total_spread m law t))

-- ## One target more

pub filled_more : (width : ℕ) (ts : List ℕ) (p : ℕ) → length ts < width → set (filled width ts) (length ts) p ≡ filled width (ts ++ p ∷ [])
filled_more width ts p h =
    let k = (width - length ts) - 1 in
    let room : width - length ts ≡ suc k = omega arith in
    let left : k ≡ width - length (ts ++ p ∷ []) = omega (arith, length-append ts (p ∷ [])) in
    ap (λ n. set (ts ++ replicate n no_target) (length ts) p) room
    ∙ set-append_seam ts no_target (replicate {A = ℕ} k no_target) p
    ∙ sym (append_assoc ts (p ∷ []) (replicate {A = ℕ} k no_target))
    ∙ ap (λ n. (ts ++ p ∷ []) ++ replicate {A = ℕ} n no_target) left

pub one_more : (t : Transition) (p c : ℕ) → (spread t p ++ replicate c p) ++ p ∷ [] ≡ spread t p ++ replicate (c + 1) p
one_more t p c = append_assoc (spread t p) (replicate c p) (p ∷ []) ∙ ap (λ xs. spread t p ++ xs) (replicate-append-replicate c 1 p)

-- ## One place after the other

-- the targets on the places before p are written, and of those on p all but `left`
pub record Spreading (m : Meaning) (t p found left : ℕ) (targets : List ℕ) : Type 0 where
  pub put : ℕ
  pub here : put + left ≡ tokens_on (transition m t) p
  pub place : p ≤ m.places
  pub inside : 0 < put → p < m.places
  pub found_is : found ≡ length (spread (transition m t) p ++ replicate put p)
  pub written : targets ≡ filled most_total (spread (transition m t) p ++ replicate put p)

module _ (m : Meaning) (law : Lawful m) (t : ℕ) where
  module _ (p found left : ℕ) (targets : List ℕ) (S : Spreading m t p found left targets) where
    found_sum : found ≡ length (spread (transition m t) p) + S.put
    found_sum = omega (arith, S.found_is, length-append (spread (transition m t) p) (replicate S.put p), length-replicate S.put p)

    -- while tokens are missing, there is a place to ask, and room
    pub spreading_place : found < total_of (transition m t) → p < m.places
    spreading_place h = place_left m law t p S.place (omega (arith, found_sum))

    pub spreading_room : found < total_of (transition m t) → found < most_total
    spreading_room h = omega (arith, total_few m law t)

    pub spreading_more : found < total_of (transition m t) → 0 < left → Spreading m t p (found + 1) (left - 1) (set targets found p)
    spreading_more h l =
        let ts = spread (transition m t) p ++ replicate S.put p in
        let one : ts ++ p ∷ [] ≡ spread (transition m t) p ++ replicate (S.put + 1) p = one_more (transition m t) p S.put in
        record {
          put = S.put + 1;
          here = omega (arith, S.here);
          place = S.place;
          inside = λ _. spreading_place h;
          found_is = omega (arith, S.found_is, ap length one, length-append ts (p ∷ []));
          written = ap₂ (λ xs i. set xs i p) S.written S.found_is ∙ filled_more most_total ts p (omega (arith, spreading_room h, S.found_is)) ∙ ap (filled most_total) one;
        }

    -- all tokens of p stand
    all_here : S.put ≡ tokens_on (transition m t) p → spread (transition m t) p ++ replicate S.put p ≡ spread (transition m t) (p + 1)
    all_here all = ap (λ k. spread (transition m t) p ++ replicate k p) all ∙ ap (spread (transition m t)) (sym (add-one p))

    pub spreading_next : found < total_of (transition m t) → left ≡ 0 → (next : ℕ) → next ≡ tokens_on (transition m t) (p + 1) → Spreading m t (p + 1) found next targets
    spreading_next h none next all =
        let is : spread (transition m t) p ++ replicate S.put p ≡ spread (transition m t) (p + 1) ++ replicate 0 (p + 1) = all_here (omega (arith, S.here)) ∙ sym (append-nil (spread (transition m t) (p + 1))) in
        record {
          put = 0;
          here = omega arith;
          place = omega (arith, spreading_place h);
          inside = λ h. absurd (omega arith);
          found_is = S.found_is ∙ ap length is;
          written = S.written ∙ ap (filled most_total) is;
        }

    pub spreading_done : total_of (transition m t) ≤ found → targets ≡ filled most_total (spread (transition m t) m.places)
    spreading_done h = S.written ∙ ap (filled most_total) (⊎_elim before last (cases_lt p m.places))
      where
        before : p < m.places → spread (transition m t) p ++ replicate S.put p ≡ spread (transition m t) m.places
        before l =
            let e : p + 1 ≡ suc p = add-one p in
            let more : length (spread (transition m t) (p + 1)) ≡ length (spread (transition m t) p) + tokens_on (transition m t) p = ap (λ k. length (spread (transition m t) k)) e ∙ spread_more (transition m t) p in
            let most : length (spread (transition m t) (p + 1)) ≤ length (spread (transition m t) m.places) = spread_grows (transition m t) m.places (p + 1) (omega arith) in
            let all : S.put ≡ tokens_on (transition m t) p = omega (arith, found_sum, S.here, total_spread m law t) in
            all_here all ∙ all_found m law t (p + 1) (omega arith) (omega (arith, found_sum))

        last : m.places ≤ p → spread (transition m t) p ++ replicate S.put p ≡ spread (transition m t) m.places
        last l =
            let none : S.put ≡ 0 = ⊎_elim (λ e. e) (λ g. absurd (omega (arith, S.inside g))) (cases_none S.put) in
            let at_end : p ≡ m.places = omega (arith, S.place) in
            ap (λ k. spread (transition m t) p ++ replicate k p) none ∙ append-nil (spread (transition m t) p) ∙ ap (spread (transition m t)) at_end

-- ## Each place as often as it is put a token

-- how many of the targets are the place p
abbrev pub targets_on : List ℕ → ℕ → ℕ
targets_on ts p = count_by (λ q. nat_eq q p) ts

targets_same : (q c p : ℕ) → targets_on (replicate c q) p ≡ cond (eqb q p) c 0
targets_same q c p = go (eqb q p) refl
  where
    here : (c : ℕ) → eqb q p ≡ true → targets_on (replicate c q) p ≡ c
    here zero e = refl
    here (suc c) e =
        let one : ◌≡◌ {A = ℕ} (cond (eqb q p) 1 0) 1 = ap (λ v. cond v 1 0) e in
        omega (arith, sum_by-cons (λ t. cond (eqb t p) 1 0) q (replicate c q), here c e)

    none : (c : ℕ) → eqb q p ≡ false → targets_on (replicate c q) p ≡ 0
    none zero e = refl
    none (suc c) e =
        let zip : ◌≡◌ {A = ℕ} (cond (eqb q p) 1 0) 0 = ap (λ v. cond v 1 0) e in
        omega (arith, sum_by-cons (λ t. cond (eqb t p) 1 0) q (replicate c q), none c e)

    go : (v : Bool) → eqb q p ≡ v → targets_on (replicate c q) p ≡ cond v c 0
    go true e = here c e
    go false e = none c e

targets_more : (t : Transition) (n p : ℕ) → targets_on (spread t (suc n)) p ≡ targets_on (spread t n) p + cond (eqb n p) (tokens_on t n) 0
targets_more t n p =
    sum_by-append (λ q. cond (eqb q p) 1 0) (spread t n) (replicate (tokens_on t n) n) ∙ ap (λ c. targets_on (spread t n) p + c) (targets_same n (tokens_on t n) p)

targets_past : (t : Transition) (n p : ℕ) → n ≤ p → targets_on (spread t n) p ≡ 0
targets_past t zero p h = refl
targets_past t (suc n) p h =
    let other : cond (eqb n p) (tokens_on t n) 0 ≡ 0 = ap (λ v. cond v (tokens_on t n) 0) (ne_eqb n p (λ e. omega arith)) in
    omega (arith, targets_more t n p, targets_past t n p (omega arith))

pub targets_spread : (t : Transition) (n p : ℕ) → p < n → targets_on (spread t n) p ≡ tokens_on t p
targets_spread t zero p h = absurd (omega arith)
targets_spread t (suc n) p h = go (targets_spread t n p) (eqb n p) refl
  where
    go : (p < n → targets_on (spread t n) p ≡ tokens_on t p) → (v : Bool) → eqb n p ≡ v → targets_on (spread t (suc n)) p ≡ tokens_on t p
    go ih true e =
        let same = eqb-true n p e in
        let here : cond (eqb n p) (tokens_on t n) 0 ≡ tokens_on t n = ap (λ v. cond v (tokens_on t n) 0) e in
        let is : tokens_on t n ≡ tokens_on t p = ap (tokens_on t) same in
        omega (arith, targets_more t n p, targets_past t n p (omega arith))
    go ih false e =
        let apart = eqb-false n p e in
        let here : cond (eqb n p) (tokens_on t n) 0 ≡ 0 = ap (λ v. cond v (tokens_on t n) 0) e in
        omega (arith, targets_more t n p, ih (omega arith))

-- also among the entries that are filled up
pub targets_filled : (width n p : ℕ) (t : Transition) → p < n → n ≤ no_target → targets_on (filled width (spread t n)) p ≡ tokens_on t p
targets_filled width n p t h few =
    let k = width - length (spread t n) in
    let none : cond (eqb no_target p) k 0 ≡ 0 = ap (λ v. cond v k 0) (ne_eqb no_target p (λ e. omega arith)) in
    sum_by-append (λ q. cond (eqb q p) 1 0) (spread t n) (replicate k no_target) ∙ omega (arith, targets_same no_target k p, targets_spread t n p h)

-- ## Each entry a place or none

target_known : (t : Transition) (n j : ℕ) → j < length (spread t n) → get_or (spread t n) j 0 < n
target_known t zero j h = absurd (omega arith)
target_known t (suc n) j h =
    let here = replicate (tokens_on t n) n in
    elim (cases_lt j (length (spread t n))) [
      | inl l ↦ omega (arith, get_or_append_left (spread t n) here 0 j l, target_known t n j l)
      | inr l ↦ omega (
        arith,
        get_or-append_right (spread t n) here j 0 l,
        get_or-replicate (tokens_on t n) (j - length (spread t n)) n 0 (omega (arith, spread_more t n)),
      )
    ]

pub entry_known : (width n : ℕ) (t : Transition) (j : ℕ) → j < width → (get_or (filled width (spread t n)) j 0 < n) ⊎ (get_or (filled width (spread t n)) j 0 ≡ no_target)
entry_known width n t j h = ⊎_elim before behind (cases_lt j (length (spread t n)))
  where
    none : List ℕ
    none = replicate (width - length (spread t n)) no_target

    before : j < length (spread t n) → (get_or (spread t n ++ none) j 0 < n) ⊎ (get_or (spread t n ++ none) j 0 ≡ no_target)
    before l = inl (omega (arith, get_or_append_left (spread t n) none 0 j l, target_known t n j l))

    behind : length (spread t n) ≤ j → (get_or (spread t n ++ none) j 0 < n) ⊎ (get_or (spread t n ++ none) j 0 ≡ no_target)
    behind l = inr (get_or-append_right (spread t n) none j 0 l ∙ get_or-replicate (width - length (spread t n)) (j - length (spread t n)) no_target 0 (omega arith))
