-- A transition that answers: told by classes and tables, and what it does to the crews.
use Rattle.std.proofs.Common.{◌≡◌, ℕ, ◌<◌, ◌≤◌, Bool, true, false, cond, eqb, ◌⊎◌, List, get_or, sum, sym, refl, ap, ◌∙◌, inl, inr, arith}
use Rattle.std.proofs.lemmas.Bool.{cases_lt, and_parts, eqb-true, ltb-true}
use Rattle.std.proofs.lemmas.Bool.Decides.{same_from_decides, Decides-eqb, Decides-like}
use Rattle.net.specs.Meaning.{Meaning, transition, count_of, total_of}
use Rattle.net.specs.Limits.{Lawful}
use Rattle.net.specs.Markings.{fired}
use Rattle.net.proofs.Markings.{sum_more, sum_fired}
use Rattle.team.specs.Below.{tally}
use Rattle.team.specs.Relations.{Relation}
use Rattle.team.specs.Closure.{Closure, none, more}
use Rattle.team.specs.Markings.{Enabled, held, EvenBy}
use Rattle.team.specs.Tables.{same}
use Rattle.team.specs.Teams.{Paired}
use Rattle.team.specs.Classes.{alike, ClassedBy}
use Rattle.team.specs.Follow.{Fits}
use Rattle.team.proofs.Sums.{tally_cong, tally_some, cond_some}
use Rattle.team.proofs.Closures.{closure_length}
use Rattle.team.proofs.Classes.{alike_decides, paired_known, even_paired}
use Rattle.team.proofs.Theorems.{follow_finds, follow_keeps, pairs_turn}
use Rattle.crews.specs.Crews.{Crews, on_side, across}
use Rattle.crews.specs.Counting.{in_class}
use Rattle.crews.specs.Following.{AnsweredBy, FitsBy, candidate}
use Rattle.crews.proofs.Judging.{same_alike}
use Rattle.crews.proofs.Tables.{Holds, holds_get_or}

-- ## Fits, by classes and tables

module _ (m : Meaning) (law : Lawful m) (cs : List ℕ) (classed : ClassedBy m cs) where
  held_same : (xs : List ℕ) (c : ℕ) → c < m.places → held m.places (same cs) xs c ≡ held m.places (alike m) xs c
  held_same xs c l =
      tally_cong m.places (λ i. cond (same cs c i) (get_or xs i 0) 0) (λ i. cond (alike m c i) (get_or xs i 0) 0)
      (λ i k. ap (λ b. cond b (get_or xs i 0) 0) (same_alike m law cs classed c i l k))

  module _ (t u : ℕ) (known : t < count_of m) (table crew : List ℕ) (h : Holds m.places table crew) where
    place_of : (v : ℕ) → v < count_of m → (transition m v).place < m.places
    place_of v l = (law.each v l).place_known

    pub fits_from_by : FitsBy m cs table t u → Fits m t u crew
    fits_from_by f =
        let p = place_of t known in
        let q = place_of u f.known in
        record {
          known = f.known;
          label = f.label;
          near = (alike_decides m law (transition m t).place (transition m u).place p q).0 (sym (same_alike m law cs classed (transition m t).place (transition m u).place p q) ∙ f.near);
          token = omega (arith, f.token, holds_get_or m.places table crew (transition m u).place h q);
          puts = λ c l. sym (held_same (transition m t).puts c l) ∙ f.puts c l ∙ held_same (transition m u).puts c l;
        }

    pub by_from_fits : Fits m t u crew → FitsBy m cs table t u
    by_from_fits f =
        let p = place_of t known in
        let q = place_of u f.known in
        record {
          known = f.known;
          label = f.label;
          near = same_alike m law cs classed (transition m t).place (transition m u).place p q ∙ (alike_decides m law (transition m t).place (transition m u).place p q).1 f.near;
          token = omega (arith, f.token, holds_get_or m.places table crew (transition m u).place h q);
          puts = λ c l. held_same (transition m t).puts c l ∙ f.puts c l ∙ sym (held_same (transition m u).puts c l);
        }

-- ## Paired crews hold equally many tokens

closure_sum : (n : ℕ) (R : Relation) {xs ys : List ℕ} → Closure n R xs ys → sum xs ≡ sum ys
closure_sum n R none = refl
closure_sum n R (more {xs = xs} {ys = ys} p q l k r rest) =
    let (a, b) = closure_length n R rest in
    omega (arith, closure_sum n R rest, sum_more xs p 1 (omega (arith, a, l)), sum_more ys q 1 (omega (arith, b, k)))

pub paired_sum : (m : Meaning) (xs ys : List ℕ) → Paired m xs ys → sum xs ≡ sum ys
paired_sum m xs ys (R, team, rel) = closure_sum m.places R rel

-- a transition that fits puts down as many tokens
pub fits_total : (m : Meaning) → Lawful m → (t u : ℕ) (ys : List ℕ) → t < count_of m → Fits m t u ys → total_of (transition m t) ≡ total_of (transition m u)
fits_total m law t u ys known f =
    paired_sum m (transition m t).puts (transition m u).puts
    (even_paired m law (transition m t).puts (transition m u).puts (law.each t known).targets_known (law.each u f.known).targets_known f.puts)

module _ (m : Meaning) (law : Lawful m) (xs ys : List ℕ) (pair : Paired m xs ys) (t u : ℕ) (known : t < count_of m) (on : Enabled m t xs) (f : Fits m t u ys) where
  -- the crew across then holds as many tokens as the one on the side
  pub sum_answered : sum (fired m u ys) ≡ sum (fired m t xs)
  sum_answered =
      let (a, b) = paired_known m law xs ys pair in
      let wt = law.each t known in
      let wu = law.each u f.known in
      let totals = fits_total m law t u ys known f in
      omega (arith, paired_sum m xs ys pair, totals, sum_fired m t xs (omega (arith, a, wt.place_known)) (omega (arith, on)), sum_fired m u ys (omega (arith, b, wu.place_known)) (omega (arith, f.token)))

-- ## On either side

module _ (m : Meaning) (law : Lawful m) (c : Crews) (s t : ℕ) (pair : Paired m c.left c.right) (known : t < count_of m) (on : Enabled m t (on_side c s)) where
  -- the side's crew and the one across are paired
  pub paired_across : Paired m (on_side c s) (across c s)
  paired_across = by_side (eqb s 0)
    where
      by_side : (v : Bool) → Paired m (cond v c.left c.right) (cond v c.right c.left)
      by_side true = pair
      by_side false = pairs_turn m law c.left c.right pair

  pub some_fits : (u : ℕ) × Fits m t u (across c s)
  some_fits = follow_finds m law (on_side c s) (across c s) paired_across t known on

  pub answered : (u : ℕ) → Fits m t u (across c s) → AnsweredBy m c s t u
  answered u f = record { fits = f; paired = by_side (eqb s 0) }
    where
      after : Paired m (fired m t (on_side c s)) (fired m u (across c s))
      after = follow_keeps m law (on_side c s) (across c s) paired_across t u known on f

      by_side : (v : Bool)
          → Paired m (cond {A = Crews} v (record { left = fired m t (on_side c s); right = fired m u (across c s) }) (record { left = fired m u (across c s); right = fired m t (on_side c s) })).left
          (cond {A = Crews} v (record { left = fired m t (on_side c s); right = fired m u (across c s) }) (record { left = fired m u (across c s); right = fired m t (on_side c s) })).right
      by_side true = after
      by_side false = pairs_turn m law (fired m t (on_side c s)) (fired m u (across c s)) after

  pub sum_across : (u : ℕ) → Fits m t u (across c s) → sum (fired m u (across c s)) ≡ sum (fired m t (on_side c s))
  sum_across u f = sum_answered m law (on_side c s) (across c s) paired_across t u known on f

-- ## The search

-- what is even by classes is even at every number, a class or not
even_in_class : (n : ℕ) (cs xs ys : List ℕ) → EvenBy n (same cs) xs ys → (c : ℕ) → in_class n cs xs c ≡ in_class n cs ys c
even_in_class n cs xs ys even c = by_left (cases_lt 0 (in_class n cs xs c))
  where
    at_holder : (zs : List ℕ) → 0 < in_class n cs zs c → in_class n cs xs c ≡ in_class n cs ys c
    at_holder zs h =
        let (i, l, some) = tally_some n (λ i. cond (eqb c (get_or cs i 0)) (get_or zs i 0) 0) h in
        let e : c ≡ get_or cs i 0 = eqb-true c (get_or cs i 0) (cond_some (eqb c (get_or cs i 0)) (get_or zs i 0) some).0 in
        ap (in_class n cs xs) e ∙ even i l ∙ ap (in_class n cs ys) (sym e)

    by_left : (0 < in_class n cs xs c) ⊎ (in_class n cs xs c ≤ 0) → in_class n cs xs c ≡ in_class n cs ys c
    by_left (inl h) = at_holder xs h
    by_left (inr z) = by_right (cases_lt 0 (in_class n cs ys c))
      where
        by_right : (0 < in_class n cs ys c) ⊎ (in_class n cs ys c ≤ 0) → in_class n cs xs c ≡ in_class n cs ys c
        by_right (inl h) = at_holder ys h
        by_right (inr w) = omega (arith, z, w)

-- tokens counted by the entry of their place are those of the class
pub by_entry : (n : ℕ) (cs xs : List ℕ) (c k : ℕ) → k ≡ tally n (λ p. cond (eqb (get_or cs p 0) c) (get_or xs p 0) 0) → k ≡ in_class n cs xs c
by_entry n cs xs c k e =
    e ∙ tally_cong n (λ p. cond (eqb (get_or cs p 0) c) (get_or xs p 0) 0) (λ p. cond (eqb c (get_or cs p 0)) (get_or xs p 0) 0)
    (λ p l. ap (λ b. cond b (get_or xs p 0) 0) (same_from_decides (eqb (get_or cs p 0) c) (eqb c (get_or cs p 0)) (Decides-eqb (get_or cs p 0) c) (Decides-like (eqb c (get_or cs p 0)) sym sym (Decides-eqb c (get_or cs p 0)))))

module _ (m : Meaning) (cs table : List ℕ) (t u : ℕ) where
  -- a transition that differs at some class does not fit
  pub differs_unfit : (c : ℕ) → (in_class m.places cs (transition m u).puts c ≡ in_class m.places cs (transition m t).puts c → ⊥) → FitsBy m cs table t u → ⊥
  differs_unfit c differ f = differ (sym (even_in_class m.places cs (transition m t).puts (transition m u).puts f.puts c))

  -- a candidate that differs at none fits
  pub even_fits : u < count_of m → ((p : ℕ) → p < m.places → get_or cs p 0 < m.places) → candidate m cs table t u ≡ true
      → ((c : ℕ) → c < m.places → in_class m.places cs (transition m u).puts c ≡ in_class m.places cs (transition m t).puts c) → FitsBy m cs table t u
  even_fits known named is level =
      let (label, rest) = and_parts _ _ is in
      let (near, token) = and_parts _ _ rest in
      record {
        known = known;
        label = eqb-true _ _ label;
        near = near;
        token = ltb-true _ _ token;
        puts = λ p l. sym (level (get_or cs p 0) (named p l));
      }
