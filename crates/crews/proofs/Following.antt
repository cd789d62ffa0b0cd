-- How follow ends: y is the table on its side, z the one across.
use Rattle.std.proofs.Common.{◌≡◌, ℕ, ◌+◌, ◌<◌, ◌≤◌, true, false, ◌⊎◌, List, ◌++◌, length, get_or, is_some, Some, None, Ok, Err, sum, Option, sym, ◌∙◌, subst, inl, inr, arith}
use Rattle.net.specs.Meaning.{Meaning, transition, total_of}
use Rattle.net.specs.Limits.{Lawful}
use Rattle.net.specs.declared.Net.{Ghosts}
use Rattle.net.specs.Markings.{fired}
use Rattle.net.specs.Refusals.{Free, plain}
use Rattle.net.specs.declared.refusal.Fault.{Fault}
use Rattle.net.specs.declared.refusal.Refusal.TheVariants.{CrewsApart, TooManyTokens}
use Rattle.net.proofs.Markings.{sum_fired}
use Rattle.net.proofs.Refusals.{first_back, free_append}
use Rattle.team.specs.Teams.{Paired}
use Rattle.team.specs.Classes.{ClassedBy}
use Rattle.team.specs.Follow.{Fits}
use Rattle.crews.specs.Crews.{Crews, on_side, across, both}
use Rattle.crews.specs.Calls.{not_ready}
use Rattle.crews.specs.Counting.{DiffersAt, Found}
use Rattle.crews.specs.Following.{unlike, overfull, followed, FitsBy}
use Rattle.crews.specs.Tally.{followed_by}
use Rattle.crews.specs.Sides.{side_number, across_from}
use Rattle.crews.specs.Benches.{crews_held, Steps, Ready, LaidOut, Replaced, table_on}
use Rattle.crews.specs.declared.bench.Bench.{Bench}
use Rattle.crews.specs.declared.crew.Crew.{Crew}
use Rattle.crews.specs.declared.side.Side.{Side}
use Rattle.crews.specs.declared.side.Side.TheVariants.{Left, Right}
use Rattle.crews.specs.Verdicts.{ApartBy}
use Rattle.crews.specs.declared.crewed.Crewed.{Crewed}
use Rattle.crews.specs.declared.swap.Difference.{Difference}
use Rattle.crews.specs.declared.call.Call.TheVariants.{Follow}
use Rattle.crews.specs.declared.call.Answer.TheVariants.{Followed}
use Rattle.crews.proofs.Answering.{fits_from_by, by_from_fits, paired_sum, fits_total, paired_across, some_fits, answered, sum_across}
use Rattle.crews.proofs.Judging.{judged_alike, judged_apart}
use Rattle.crews.proofs.LayingOut.{laid_is}
use Rattle.crews.proofs.Steps.{stays, steps_to, token, free_ready, sum_side, sum_ready, holds_after, same_tokens}
use Rattle.crews.proofs.Tables.{Holds, Shows, holds_sum, holds_fired, shows_side}

-- ## Both sides

holds_across : {N : Type 0} {G : Ghosts N} (m : Meaning) (b : Bench N G) (s : ℕ) (side : Side) (z : Crew) (c : Crews) → s ≡ side_number side → z ≡ table_on b (across_from side) → Shows m b c
    → Holds m.places z.counts (across c s)
holds_across m b s side z c es ez h = rw (es, ez) (by_side side)
  where
    by_side : (side : Side) → Holds m.places (table_on b (across_from side)).counts (across c (side_number side))
    by_side Left = h.right
    by_side Right = h.left

-- first the table on the side is replaced, and then the one across
shows_both : {N : Type 0} {G : Ghosts N} (m : Meaning) (b b₁ b' : Bench N G) (s : ℕ) (side : Side) (x w : Crew) (xs ys : List ℕ) → s ≡ side_number side
    → Replaced b side x b₁ → Replaced b₁ (across_from side) w b' → Holds m.places x.counts xs → Holds m.places w.counts ys → Shows m b' (both s xs ys)
shows_both m b b₁ b' s side x w xs ys es r q hx hw = rw es (by_side side r q)
  where
    by_side : (side : Side) → Replaced b side x b₁ → Replaced b₁ (across_from side) w b' → Shows m b' (both (side_number side) xs ys)
    by_side Left r q = record { left = rw (q.there, r.here) hx; right = rw q.here hw }
    by_side Right r q = record { left = rw q.here hw; right = rw (q.there, r.here) hx }

-- ## What the comparison found

pub found_some : (x : Crewed) (o : Option Difference) → is_some o ≡ true → Found x o → (d : Difference) × DiffersAt x d
found_some x (Some d) e f = (d, f)
found_some x None e f = absurd (cc)

pub found_none : (x : Crewed) (o : Option Difference) → is_some o ≡ false → Found x o → Found x None
found_none x (Some d) e f = absurd (cc)
found_none x None e f = f

-- ## Follow

module _ {N : Type 0} {G : Ghosts N} (m : Meaning) (b : Bench N G) {s t : ℕ} {side : Side} {y z : Crew} (law : Lawful m) (ready : Ready m b s t side) (ey : y ≡ table_on b side) (ez : z ≡ table_on b (across_from side)) (h : Shows m b (crews_held m b))
    {x : Crewed} (laid : LaidOut m b x) where
  abbrev c : Crews
  c = crews_held m b

  ready_free : Free (not_ready m c s t)
  ready_free = free_ready m b law ready ey h

  pub follow_apart : (d : Difference) → DiffersAt x d → (f : Fault) → f ≡ plain CrewsApart → Steps m b (Follow s t) (Err f) b
  follow_apart d at f ef = stays m b (Follow s t) f
      (first_back (not_ready m c s t) (unlike m c ++ overfull m c s t) f ready_free
      (inl ((subst (λ a. ApartBy m a d) (laid_is m b x laid) (judged_apart m law x laid.places laid.classed d at)).unpaired, sym ef)))

  module _ (level : Found x None) where
    paired_held : Paired m c.left c.right
    paired_held = subst (λ a. Paired m a.left a.right) (laid_is m b x laid) (judged_alike m law x laid.places laid.classed level).paired

    enabled : 0 < get_or (on_side c s) (transition m t).place 0
    enabled = omega (arith, token m b law ready ey, same_tokens m b law ready ey h)

    free_unlike : Free (unlike m c)
    free_unlike = ((λ apart. apart paired_held), tt)

    side_held : Holds m.places y.counts (on_side c s)
    side_held = shows_side m b s side y c ready.number ey h

    across_held : Holds m.places z.counts (across c s)
    across_held = holds_across m b s side z c ready.number ez h

    -- the two tables hold equally many tokens
    sum_tables : sum z.counts ≡ sum y.counts
    sum_tables =
        omega (
          arith,
          paired_sum m (on_side c s) (across c s) (paired_across m law c s t paired_held ready.known enabled),
          holds_sum m.places z.counts (across c s) across_held,
          holds_sum m.places y.counts (on_side c s) side_held,
        )

    -- ### Too many tokens: in either table, since the two hold equally many

    module _ (f : Fault) (ef : f ≡ plain TooManyTokens) where
      pub follow_full : length y.counts ≡ 128 → (4097 < sum y.counts + total_of (transition m t)) ⊎ (4097 < sum z.counts + total_of (transition m t))
          → Steps m b (Follow s t) (Err f) b
      follow_full whole many = stays m b (Follow s t) f
          (first_back (not_ready m c s t) (unlike m c ++ overfull m c s t) f ready_free
          (first_back (unlike m c) (overfull m c s t) f free_unlike (inl (inl (omega (arith, too_many many, sum_ready m b law ready ey whole, sum_side m b law ready ey h)), sym ef))))
        where
          too_many : (4097 < sum y.counts + total_of (transition m t)) ⊎ (4097 < sum z.counts + total_of (transition m t)) → 4097 < sum y.counts + total_of (transition m t)
          too_many (inl q) = q
          too_many (inr q) = omega (arith, q, sum_tables)

    -- ### A transition that fits

    module _ {cs : List ℕ} (classed : ClassedBy m cs) where
      pub some_answer : (u : ℕ) × FitsBy m cs z.counts t u
      some_answer =
          let (u, f) = some_fits m law c s t paired_held ready.known enabled in
          (u, by_from_fits m law cs classed t u ready.known z.counts (across c s) across_held f)

      module _ {u : ℕ} (fits : FitsBy m cs z.counts t u) where
        fits_held : Fits m t u (across c s)
        fits_held = fits_from_by m law cs classed t u ready.known z.counts (across c s) across_held fits

        pub sum_answer : length z.counts ≡ 128 → sum (fired m u z.counts) + 1 ≡ sum z.counts + total_of (transition m t)
        sum_answer wz =
            let w = law.each u fits.known in
            omega (arith, fits_total m law t u (across c s) ready.known fits_held, sum_fired m u z.counts (omega (arith, w.place_known, law.few_places, wz)) (omega (arith, fits.token)))

        -- ### Accepted: x comes in the place of the table on the side, and w in that of the one across

        pub holds_answer : (w : Crew) → w.counts ≡ fired m u z.counts → Holds m.places w.counts (fired m u (across c s))
        holds_answer w ew = rw ew (holds_fired m u z.counts (across c s) law fits.known across_held)

        free_overfull : sum (fired m t y.counts) ≤ 4096 → Free (overfull m c s t)
        free_overfull few = ((λ q. by_side q), tt)
          where
            own : sum (fired m t (on_side c s)) ≤ 4096
            own = omega (arith, few, sum_side m b law ready ey h)

            by_side : (4096 < sum (fired m t (on_side c s))) ⊎ ((v : ℕ) × Fits m t v (across c s) × (4096 < sum (fired m v (across c s)))) → ⊥
            by_side (inl many) = omega (arith, many, own)
            by_side (inr (v, f, many)) = omega (arith, many, own, sum_across m law c s t paired_held ready.known enabled v f)

        pub follow_steps : (b₁ b' : Bench N G) (x w : Crew) → Replaced b side x b₁ → Replaced b₁ (across_from side) w b' → x.counts ≡ fired m t y.counts → w.counts ≡ fired m u z.counts
            → sum (fired m t y.counts) ≤ 4096 → Steps m b (Follow s t) (Ok (Followed u)) b'
        follow_steps b₁ b' x w r q ex ew few =
            steps_to m b b' (Follow s t) (Ok (Followed u)) (followed m c s t u) (q.same ∙ r.same)
            (shows_both m b b₁ b' s side x w (fired m t (on_side c s)) (fired m u (across c s)) ready.number r q (holds_after m b law ready ey h x ex) (holds_answer w ew))
            (followed_by s t u
            (free_append (not_ready m c s t) (unlike m c ++ overfull m c s t) ready_free (free_append (unlike m c) (overfull m c s t) free_unlike (free_overfull few)))
            (answered m law c s t paired_held ready.known enabled u fits_held))
