-- The stages are equivalences, contain every team bisimulation, and one that is stable is such a relation.
use Rattle.std.proofs.Common.{◌≡◌, ℕ, zero, suc, ◌<◌, true, ◌&&◌, eqb, ltb, List, Decides, sym, refl, ◌∙◌}
use Rattle.std.proofs.lemmas.Bool.Decides.{Decides-eqb, Decides-and, Decides-like, Decides-below_and, Decides-below_or, same_from_decides}
use Rattle.std.proofs.lemmas.Bool.{and_parts, and_from, ltb-true, lt-ltb}
use Rattle.net.specs.Meaning.{Meaning, transition, count_of}
use Rattle.net.specs.Limits.{Lawful}
use Rattle.team.specs.Below.{every, some}
use Rattle.team.specs.Relations.{Relation, LiesIn, SameAmong, among}
use Rattle.team.specs.Markings.{held, EvenBy}
use Rattle.team.specs.Closure.{Closure}
use Rattle.team.specs.Teams.{Match, Matched, TeamBisimulation}
use Rattle.team.specs.Stages.{evenly, matches, matched, answered, covered, finer, together, Stable}
use Rattle.team.proofs.Below.{decides_implies}
use Rattle.team.proofs.Partitions.{Equivalence, held_cong}
use Rattle.team.proofs.Closures.{closure_even, closure_from_even}

-- what a stage's step asks
pub record Finer (m : Meaning) (E : Relation) (p q : ℕ) : Type 0 where
  pub before : E p q ≡ true
  pub forth : Matched m (EvenBy m.places E) p q
  pub back : Matched m (EvenBy m.places E) q p

module _ (m : Meaning) (E : Relation) where
  decides_evenly : (xs ys : List ℕ) → Decides (evenly m.places E xs ys) (EvenBy m.places E xs ys)
  decides_evenly xs ys =
      Decides-below_and (λ c. eqb (held m.places E xs c) (held m.places E ys c)) (λ c. held m.places E xs c ≡ held m.places E ys c)
      (λ n. every n (λ c. eqb (held m.places E xs c) (held m.places E ys c)))
      (λ c. Decides-eqb (held m.places E xs c) (held m.places E ys c)) refl (λ _. refl) m.places

  abbrev Fits : ℕ → ℕ → ℕ → Type 0
  Fits t q u =
      ((transition m u).place ≡ q)
      × (((transition m u).label ≡ (transition m t).label) × EvenBy m.places E (transition m t).puts (transition m u).puts)

  decides_matched : (t q : ℕ) → Decides (matched m E t q) (Match m (EvenBy m.places E) t q)
  decides_matched t q =
      Decides-like (matched m E t q)
      (λ (k, l, f). record { by = k; known = l; from = f.0; label = f.1.0; puts = f.1.1 })
      (λ a. (a.by, a.known, (a.from, (a.label, a.puts))))
      (Decides-below_or (matches m E t q) (Fits t q) (λ n. some n (matches m E t q))
      (λ u. Decides-and (eqb (transition m u).place q) _ (Decides-eqb (transition m u).place q)
      (Decides-and (eqb (transition m u).label (transition m t).label) _ (Decides-eqb (transition m u).label (transition m t).label) (decides_evenly (transition m t).puts (transition m u).puts)))
      refl (λ _. refl) (count_of m))

  decides_covered : (p q : ℕ) → Decides (covered m E p q) (Matched m (EvenBy m.places E) p q)
  decides_covered p q =
      Decides-below_and (answered m E p q)
      (λ t. (transition m t).place ≡ p → Match m (EvenBy m.places E) t q)
      (λ n. every n (answered m E p q))
      (λ t. decides_implies (eqb (transition m t).place p) (matched m E t q) (Decides-eqb (transition m t).place p) (decides_matched t q))
      refl (λ _. refl) (count_of m)

  pub decides_finer : (p q : ℕ) → Decides (finer m E p q) (Finer m E p q)
  decides_finer p q =
      Decides-like (finer m E p q)
      (λ f. record { before = f.0; forth = f.1.0; back = f.1.1 })
      (λ f. (f.before, (f.forth, f.back)))
      (Decides-and (E p q) (covered m E p q && covered m E q p) (λ e. e, λ e. e)
      (Decides-and (covered m E p q) (covered m E q p) (decides_covered p q) (decides_covered q p)))

  pub finer_equivalence : Equivalence E → Equivalence (finer m E)
  finer_equivalence eq =
      record {
        same = λ p. (decides_finer p p).1 (record { before = eq.same p; forth = own p; back = own p });
        back = λ p q h. let f = (decides_finer p q).0 h in (decides_finer q p).1 (record { before = eq.back p q f.before; forth = f.back; back = f.forth });
        on = λ p q r h k.
            let f = (decides_finer p q).0 h in
            let g = (decides_finer q r).0 k in
            (decides_finer p r).1 (record { before = eq.on p q r f.before g.before; forth = chain p q r f.forth g.forth; back = chain r q p g.back f.back });
      }
    where
      own : (p : ℕ) → Matched m (EvenBy m.places E) p p
      own p t l e = record { by = t; known = l; from = e; label = refl; puts = λ c _. refl }

      chain : (p q r : ℕ) → Matched m (EvenBy m.places E) p q → Matched m (EvenBy m.places E) q r → Matched m (EvenBy m.places E) p r
      chain p q r f g t l e =
          let a = f t l e in
          let b = g a.by a.known a.from in
          record { by = b.by; known = b.known; from = b.from; label = b.label ∙ a.label; puts = λ c k. a.puts c k ∙ b.puts c k }

pub together_equivalence : (m : Meaning) (k : ℕ) → Equivalence (together m k)
together_equivalence m zero = record { same = λ p. refl; back = λ p q _. refl; on = λ p q r _ _. refl }
together_equivalence m (suc k) = finer_equivalence m (together m k) (together_equivalence m k)

-- the relation of the next stage is inside
pub together_falls : (m : Meaning) (k p q : ℕ) → together m (suc k) p q ≡ true → together m k p q ≡ true
together_falls m k p q h = ((decides_finer m (together m k) p q).0 h).before

-- every team bisimulation is inside every stage
pub team_in_stage : (m : Meaning) (R : Relation) → TeamBisimulation m R → (k : ℕ) → LiesIn R (together m k)
team_in_stage m R team zero p q r = refl
team_in_stage m R team (suc k) p q r =
    (decides_finer m (together m k) p q).1 (record {
      before = team_in_stage m R team k p q r;
      forth = λ t l e. let a = team.forth p q r t l e in
          record {
            by = a.by;
            known = a.known;
            from = a.from;
            label = a.label;
            puts = λ c _. closure_even m.places R (together m k) (together_equivalence m k) (team_in_stage m R team k) a.puts c;
          };
      back = λ t l e. let a = team.back p q r t l e in
          record {
            by = a.by;
            known = a.known;
            from = a.from;
            label = a.label;
            puts = λ c _. sym (closure_even m.places R (together m k) (together_equivalence m k) (team_in_stage m R team k) a.puts c);
          };
    })

pub among_from : (n : ℕ) (E : Relation) (p q : ℕ) → p < n → q < n → E p q ≡ true → among n E p q ≡ true
among_from n E p q a b e = and_from (ltb p n) (ltb q n && E p q) (lt-ltb p n a) (and_from (ltb q n) (E p q) (lt-ltb q n b) e)

pub among_parts : (n : ℕ) (E : Relation) (p q : ℕ) → among n E p q ≡ true → (p < n) × (q < n) × (E p q ≡ true)
among_parts n E p q h =
    let (a, r) = and_parts (ltb p n) (ltb q n && E p q) h in
    let (b, e) = and_parts (ltb q n) (E p q) r in
    (ltb-true p n a, ltb-true q n b, e)

-- a stage that the next one does not split is a team bisimulation
pub stage_is_team : (m : Meaning) → Lawful m → (k : ℕ) → Stable m k → TeamBisimulation m (among m.places (together m k))
stage_is_team m law k stays =
    record {
      left_known = λ p q h. (among_parts m.places (together m k) p q h).0;
      right_known = λ p q h. (among_parts m.places (together m k) p q h).1;
      forth = λ p q h t l e.
          let (x, y, z) = among_parts m.places (together m k) p q h in
          let a = ((decides_finer m (together m k) p q).0 (sym (stays p q x y) ∙ z)).forth t l e in
          record { by = a.by; known = a.known; from = a.from; label = a.label; puts = paired t a.by l a.known a.puts };
      back = λ p q h t l e.
          let (x, y, z) = among_parts m.places (together m k) p q h in
          let a = ((decides_finer m (together m k) p q).0 (sym (stays p q x y) ∙ z)).back t l e in
          record { by = a.by; known = a.known; from = a.from; label = a.label; puts = paired a.by t a.known l (λ c w. sym (a.puts c w)) };
    }
  where
    paired : (t u : ℕ) → t < count_of m → u < count_of m → EvenBy m.places (together m k) (transition m t).puts (transition m u).puts
        → Closure m.places (among m.places (together m k)) (transition m t).puts (transition m u).puts
    paired t u l v h =
        closure_from_even m.places (together m k) (among m.places (together m k)) (together_equivalence m k) (among_from m.places (together m k))
        (transition m t).puts (transition m u).puts (law.each t l).targets_known (law.each u v).targets_known h

-- ## Relations that are the same among the places refine the same

module _ (m : Meaning) (D E : Relation) (s : SameAmong m.places D E) where
  matched_cong : (p q : ℕ) → Matched m (EvenBy m.places D) p q → Matched m (EvenBy m.places E) p q
  matched_cong p q f t l e =
      let a = f t l e in
      record {
        by = a.by;
        known = a.known;
        from = a.from;
        label = a.label;
        puts = λ c w. sym (held_cong m.places D E s (transition m t).puts c w) ∙ a.puts c w ∙ held_cong m.places D E s (transition m a.by).puts c w;
      }

  FinerCong : (p q : ℕ) → p < m.places → q < m.places → Finer m D p q → Finer m E p q
  FinerCong p q l k f = record { before = sym (s p q l k) ∙ f.before; forth = matched_cong p q f.forth; back = matched_cong q p f.back }

pub finer_cong : (m : Meaning) (D E : Relation) → SameAmong m.places D E → SameAmong m.places (finer m D) (finer m E)
finer_cong m D E s p q l k =
    same_from_decides (finer m D p q) (finer m E p q) (decides_finer m D p q)
    (Decides-like (finer m E p q) (FinerCong m E D (λ p q l k. sym (s p q l k)) p q l k) (FinerCong m D E s p q l k) (decides_finer m E p q))
