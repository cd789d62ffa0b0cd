-- The test on profiles is the stage's step.
use Rattle.std.proofs.Common.{◌≡◌, ℕ, ◌+◌, ◌-◌, ◌<◌, ◌≤◌, List, length, get_or, Decides, refl, sym, ap, ◌∙◌, ap₂, inl, inr, arith}
use Rattle.std.proofs.lemmas.Bool.Decides.{Decides-eqb}
use Rattle.std.proofs.lemmas.Bool.{cases_lt}
use Rattle.net.specs.Meaning.{Meaning, transition, count_of}
use Rattle.net.specs.Limits.{most_places, most_transitions, most_total}
use Rattle.team.specs.Markings.{EvenBy}
use Rattle.team.specs.Teams.{Matched}
use Rattle.team.specs.Stages.{finer}
use Rattle.team.specs.Tables.{same}
use Rattle.team.proofs.Stages.{decides_finer}
use Rattle.classing.specs.Targets.{no_target, times}
use Rattle.classing.specs.Snapshots.{no_move, place_at, number_of, Keeps}
use Rattle.classing.specs.Shown.{Shows}
use Rattle.classing.specs.Profiles.{no_profile, spread, ProfileOf, Described}
use Rattle.classing.specs.Staying.{profiles_at, Covers, Stays, LowestStay}
use Rattle.classing.specs.declared.snapshot.Snapshot.{Snapshot}
use Rattle.classing.specs.declared.profile.Profile.{Profile}
use Rattle.classing.proofs.Runs.{run_length, run_at}
use Rattle.classing.proofs.Profiles.{copies, times_copies, same_rising, Low, held_spread, spread_most, spread_known}

-- ## On the profiles alone

module _ (s : Snapshot) (xs : List Profile) where
  covers_on : (p q r : ℕ) → Covers s xs p q → Covers s xs q r → Covers s xs p r
  covers_on p q r f g i l =
      let (j, k, b) = f i l in
      let (v, w, a) = g j k in
      (v, w, a ∙ b)

  -- places with equal profiles in equal order cover each other
  pub covers_equal : (p q : ℕ) → profiles_at s xs p ≡ profiles_at s xs q → Covers s xs p q
  covers_equal p q e i l = (i, rw e at l, rw e refl)

  pub stays_on : (cs : List ℕ) (p q r : ℕ) → Stays s xs cs p q → Stays s xs cs q r → Stays s xs cs p r
  stays_on cs p q r a b = record { before = a.before ∙ b.before; forth = covers_on p q r a.forth b.forth; back = covers_on r q p b.back a.back }

  -- a place that is not the lowest of its own class is the lowest of no other place's
  pub stays_later : (cs : List ℕ) (p q c : ℕ) → LowestStay s xs cs q c → (c ≡ q → ⊥) → ((i : ℕ) → i < q → Stays s xs cs i p → ⊥) → Stays s xs cs q p → ⊥
  stays_later cs p q c L d h y =
      let l : c < q = omega (arith, L.most) in
      h c l (stays_on cs c q p (L.near l) y)

-- ## On the net

module _ (m : Meaning) (s : Snapshot) (S : Shows m s) (few : m.places ≤ most_places) (cs : List ℕ) (low : Low m.places cs) (xs : List Profile) (wide : length xs ≡ most_transitions) (D : Described s cs xs) where
  in_net : (t : ℕ) → t < s.count → t < count_of m
  in_net t l = omega (arith, S.all_moves)

  place_is : (t : ℕ) → t < s.count → place_at s.moves t ≡ (transition m t).place
  place_is t l = (S.each t (in_net t l)).from

  -- x is the profile of the move t
  abbrev Of : ℕ → Profile → Type 0
  Of t x = ProfileOf cs (get_or s.moves t no_move) x

  -- the tokens of t in a place's class are in the profile of t
  held_profile : (t c : ℕ) (x : Profile) → Of t x → spread most_total cs (get_or s.moves t no_move).targets (get_or cs c 0) ≡ times most_total x.classes (get_or cs c 0)
  held_profile t c x P = sym (P.counts (get_or cs c 0))

  same_profile : (t u : ℕ) (x y : Profile) → t < s.count → u < s.count → Of t x → Of u y → y ≡ x
      → ((transition m u).label ≡ (transition m t).label) × EvenBy m.places (same cs) (transition m t).puts (transition m u).puts
  same_profile t u x y l r P Q e =
      let kt = S.each t (in_net t l) in
      let ku = S.each u (in_net u r) in (
        sym ku.labelled ∙ sym Q.labelled ∙ ap (λ (z : Profile). z.label) e ∙ P.labelled ∙ kt.labelled,
        λ c w. held_spread most_total m.places few cs low (transition m t).puts (get_or s.moves t no_move).targets kt.onto c w
            ∙ held_profile t c x P ∙ ap (λ (z : Profile). times most_total z.classes (get_or cs c 0)) (sym e) ∙ sym (held_profile u c y Q)
            ∙ sym (held_spread most_total m.places few cs low (transition m u).puts (get_or s.moves u no_move).targets ku.onto c w),
      )

  profile_same : (t u : ℕ) (x y : Profile) → t < s.count → u < s.count → Of t x → Of u y → (transition m u).label ≡ (transition m t).label
      → EvenBy m.places (same cs) (transition m t).puts (transition m u).puts → y ≡ x
  profile_same t u x y l r P Q e even =
      ap₂ (λ (k : ℕ) (ys : List ℕ). record { label = k; classes = ys })
      (Q.labelled ∙ ku.labelled ∙ e ∙ sym kt.labelled ∙ sym P.labelled)
      (same_rising y.classes x.classes (Q.wide ∙ sym P.wide) Q.rising P.rising
      (λ v h. spread_most most_total m.places few cs low (transition m u).puts (ts u) ku.onto v (omega (arith, h, counted u y Q v)))
      (λ v h. spread_most most_total m.places few cs low (transition m t).puts (ts t) kt.onto v (omega (arith, h, counted t x P v)))
      (λ v h. counted u y Q v ∙ level v h ∙ sym (counted t x P v)))
    where
      kt : Keeps m.places (transition m t) (get_or s.moves t no_move)
      kt = S.each t (in_net t l)

      ku : Keeps m.places (transition m u) (get_or s.moves u no_move)
      ku = S.each u (in_net u r)

      ts : ℕ → List ℕ
      ts i = (get_or s.moves i no_move).targets

      counted : (i : ℕ) (z : Profile) → Of i z → (v : ℕ) → copies v z.classes ≡ spread most_total cs (ts i) v
      counted i z R v = times_copies z.classes most_total v R.wide ∙ R.counts v

      at : (c : ℕ) → c < m.places → spread most_total cs (ts u) (get_or cs c 0) ≡ spread most_total cs (ts t) (get_or cs c 0)
      at c w = sym (held_spread most_total m.places few cs low (transition m u).puts (ts u) ku.onto c w) ∙ sym (even c w)
          ∙ held_spread most_total m.places few cs low (transition m t).puts (ts t) kt.onto c w

      level : (v : ℕ) → v < no_target → spread most_total cs (ts u) v ≡ spread most_total cs (ts t) v
      level v w =
          elim (cases_lt 0 (spread most_total cs (ts u) v)) [
            | inl h ↦ (let (c, k, e) = spread_known most_total m.places few cs low (transition m u).puts (ts u) ku.onto v w h in rw e (at c k))
            | inr h ↦ elim (cases_lt 0 (spread most_total cs (ts t) v)) [
              | inl h' ↦ (let (c, k, e) = spread_known most_total m.places few cs low (transition m t).puts (ts t) kt.onto v w h' in rw e (at c k))
              | inr h' ↦ omega arith
            ]
          ]

  -- ## From a profile of a place to its move, and back

  -- the profile x stands at i among those of p, and is that of the move t
  record Stands (p i : ℕ) (x : Profile) (t : ℕ) : Type 0 where
    within : i < length (profiles_at s xs p)
    at : get_or (profiles_at s xs p) i no_profile ≡ x
    known : t < s.count
    from : place_at s.moves t ≡ p
    of : Of t x

  module _ (p : ℕ) (l : p < most_places) where
    run : length (profiles_at s xs p) ≡ get_or s.starts (p + 1) 0 - get_or s.starts p 0
    run = run_length xs (get_or s.starts p 0) (get_or s.starts (p + 1) 0) (omega (arith, s.sound.grouped.ends p l, s.sound.few_moves, wide))

    shown : (i t : ℕ) → i < length (profiles_at s xs p) → get_or s.order (get_or s.starts p 0 + i) 0 ≡ t → Stands p i (get_or xs (get_or s.starts p 0 + i) no_profile) t
    shown i t h e =
        let k = get_or s.starts p 0 + i in
        let low : k < get_or s.starts (p + 1) 0 = omega (arith, run) in
        let A = s.sound.grouped.each p k l (omega arith) low in
        record {
          within = h;
          at = run_at xs (get_or s.starts p 0) (get_or s.starts (p + 1) 0) i no_profile (omega (arith, run));
          known = rw (← e) A.known;
          from = rw (← e) A.from;
          of = rw (← e) (D k (omega (arith, s.sound.grouped.ends p l)));
        }

    move_of : (i : ℕ) → i < length (profiles_at s xs p) → (t : ℕ) × Stands p i (get_or xs (get_or s.starts p 0 + i) no_profile) t
    move_of i h = (get_or s.order (get_or s.starts p 0 + i) 0, shown i _ h refl)

    profile_of : (t : ℕ) → t < s.count → place_at s.moves t ≡ p → (i : ℕ) × Stands p i (get_or xs (get_or s.starts p 0 + i) no_profile) t
    profile_of t h e =
        (number_of (place_at s.moves) p t, shown _ t (omega (arith, run, s.sound.grouped.room t p h e)) (s.sound.grouped.here t p h e))

  covers_matched : (p q : ℕ) → p < most_places → q < most_places → Covers s xs p q → Matched m (EvenBy m.places (same cs)) p q
  covers_matched p q a b f t l e =
      let t' : t < s.count = omega (arith, S.all_moves) in
      let (i, A) = profile_of p a t t' (place_is t t' ∙ e) in
      let (j, k, r) = f i A.within in
      let (u, B) = move_of q b j k in
      let (x, y) = same_profile t u _ _ t' B.known A.of B.of (sym B.at ∙ r ∙ A.at) in
      record { by = u; known = in_net u B.known; from = sym (place_is u B.known) ∙ B.from; label = x; puts = y }

  matched_covers : (p q : ℕ) → p < most_places → q < most_places → Matched m (EvenBy m.places (same cs)) p q → Covers s xs p q
  matched_covers p q a b f i l =
      let (t, A) = move_of p a i l in
      let w = f t (in_net t A.known) (sym (place_is t A.known) ∙ A.from) in
      let k : w.by < s.count = omega (arith, S.all_moves, w.known) in
      let (j, B) = profile_of q b w.by k (place_is w.by k ∙ w.from) in
      (j, B.within, B.at ∙ profile_same t w.by _ _ A.known k A.of B.of w.label w.puts ∙ sym A.at)

  -- the one lemma that joins the plain code to the theory
  pub stays_finer : (p q : ℕ) → p < most_places → q < most_places → Decides (finer m (same cs) p q) (Stays s xs cs p q)
  stays_finer p q a b = (
    λ h. (
        let F = (decides_finer m (same cs) p q).0 h in
        record { before = (Decides-eqb (get_or cs p 0) (get_or cs q 0)).0 F.before; forth = matched_covers p q a b F.forth; back = matched_covers q p b a F.back }),
    λ y. (decides_finer m (same cs) p q).1 (record {
      before = (Decides-eqb (get_or cs p 0) (get_or cs q 0)).1 y.before;
      forth = covers_matched p q a b y.forth;
      back = covers_matched q p b a y.back;
    }),
  )
