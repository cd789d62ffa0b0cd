-- The tables are the stages.
use Rattle.std.proofs.Common.{◌≡◌, ℕ, zero, suc, ◌+◌, ◌<◌, Bool, true, false, cond, eqb, List, get_or, Decides, sym, refl, ap, ◌∙◌, zero-add, arith}
use Rattle.std.proofs.lemmas.Bool.Decides.{same_from_decides, Decides-like, Decides-eqb}
use Rattle.std.proofs.lemmas.Bool.{eqb-true, eq-eqb}
use Rattle.std.proofs.lemmas.List.{get_or-replicate}
use Rattle.std.proofs.lemmas.List.FromFn.{get_or-map-range_with_len}
use Rattle.net.specs.Meaning.{Meaning}
use Rattle.team.specs.Below.{first}
use Rattle.team.specs.Relations.{SameAmong}
use Rattle.team.specs.Stages.{finer, together, Stable, stable, rounds, group_at}
use Rattle.team.specs.Tables.{same, table, agree, Settled, refined, settled}
use Rattle.team.proofs.Below.{decides_every, First, first_is, first_cong, first_all, first_one}
use Rattle.team.proofs.Partitions.{lowest_same, same_lowest}
use Rattle.team.proofs.Stages.{together_equivalence, finer_cong}
use Rattle.team.proofs.Rounds.{decides_stable}

-- two places are together exactly where their groups have one lowest place
pub together_groups : (m : Meaning) (k p q : ℕ) → Decides (together m k p q) (group_at m k p ≡ group_at m k q)
together_groups m k p q = (lowest_same (together m k) (together_equivalence m k) p q, same_lowest (together m k) (together_equivalence m k) p q)

-- ## A list that holds a stage, of which only the entries of places count

abbrev pub Holds : Meaning → ℕ → List ℕ → Type 0
Holds m k cs = (p : ℕ) → p < m.places → get_or cs p 0 ≡ group_at m k p

module _ (m : Meaning) where
  pub holds_same : (k : ℕ) (cs : List ℕ) → Holds m k cs → SameAmong m.places (same cs) (together m k)
  holds_same k cs h p q l r =
      same_from_decides (same cs p q) (together m k p q) (Decides-eqb (get_or cs p 0) (get_or cs q 0))
      (Decides-like (together m k p q) (λ e. h p l ∙ e ∙ sym (h q r)) (λ e. sym (h p l) ∙ e ∙ h q r) (together_groups m k p q))

  pub holds_none : (cs : List ℕ) → ((p : ℕ) → p < m.places → get_or cs p 0 ≡ 0) → Holds m 0 cs
  holds_none cs h p l = h p l ∙ sym (first_all p)

  -- the lowest place that stays together with p, at the next stage
  pub holds_next : (k : ℕ) (cs : List ℕ) → Holds m k cs → (p : ℕ) → p < m.places → first p (λ q. finer m (same cs) q p) ≡ group_at m (suc k) p
  holds_next k cs h p l =
      first_cong p (λ q. finer m (same cs) q p) (λ q. finer m (together m k) q p)
      (λ q w. finer_cong m (same cs) (together m k) (holds_same k cs h) q p (omega arith) l)

  pub table_holds : (k : ℕ) → Holds m k (table m k)
  table_holds zero p l = holds_none (table m 0) (λ p l. get_or-replicate m.places p 0 0 l) p l
  table_holds (suc k) p l =
      get_or-map-range_with_len (λ p. first p (λ q. finer m (same (table m k)) q p)) 0 m.places p p 0 l (omega arith) ∙ holds_next k (table m k) (table_holds k) p l

  pub table_groups : (k p q : ℕ) → p < m.places → q < m.places → Decides (together m k p q) (get_or (table m k) p 0 ≡ get_or (table m k) q 0)
  table_groups k p q l r =
      let h = table_holds k in
      Decides-like (together m k p q) (λ e. h p l ∙ e ∙ sym (h q r)) (λ e. sym (h p l) ∙ e ∙ h q r) (together_groups m k p q)

  -- ## Lists that hold a stage and the next agree exactly where the stage is stable

  agree_decides : (k : ℕ) (cs ds : List ℕ) → Holds m k cs → Holds m (suc k) ds → Decides (agree m.places cs ds) (Stable m k)
  agree_decides k cs ds h d = (
    λ s p q l r.
        let at : (i : ℕ) → i < m.places → group_at m k i ≡ group_at m (suc k) i =
        λ i w. sym (h i w) ∙ eqb-true (get_or cs i 0) (get_or ds i 0) ((decides_every m.places both).0 s i w) ∙ d i w in
        same_from_decides (together m k p q) (together m (suc k) p q) (together_groups m k p q)
        (Decides-like (together m (suc k) p q) (λ e. at p l ∙ e ∙ sym (at q r)) (λ e. sym (at p l) ∙ e ∙ at q r) (together_groups m (suc k) p q)),
    λ e. (decides_every m.places both).1 (λ p l. eq-eqb (get_or cs p 0) (get_or ds p 0)
        (h p l ∙ first_cong p (λ q. together m k q p) (λ q. together m (suc k) q p) (λ q w. e q p (omega arith) l) ∙ sym (d p l))),
  )
    where
      both : ℕ → Bool
      both p = eqb (get_or cs p 0) (get_or ds p 0)

  pub agree_stable : (k : ℕ) (cs ds : List ℕ) → Holds m k cs → Holds m (suc k) ds → agree m.places cs ds ≡ stable m k
  agree_stable k cs ds h d = same_from_decides (agree m.places cs ds) (stable m k) (agree_decides k cs ds h d) (decides_stable m k)

  -- ## Refined until it settles

  table_stable : (k : ℕ) → agree m.places (table m k) (table m (suc k)) ≡ stable m k
  table_stable k = agree_stable k (table m k) (table m (suc k)) (table_holds k) (table_holds (suc k))

  -- from stage k on, the first stable stage, with its table
  record From (fuel k : ℕ) (s : Settled) : Type 0 where
    is_first : First fuel (λ i. stable m (k + i)) s.rounds_done
    is_table : s.groups ≡ table m (k + s.rounds_done)

  from_stage : (fuel k : ℕ) → From fuel k (refined m fuel (table m k))
  from_stage zero k =
      record {
        is_first = record { bound = omega arith; below = λ i l. absurd (omega arith); here = λ l. absurd (omega arith) };
        is_table = (let z : k + 0 ≡ k = omega arith in rw z);
      }
  from_stage (suc fuel) k = go (from_stage fuel (suc k)) (agree m.places (table m k) (table m (suc k))) refl
    where
      later : Settled
      later = refined m fuel (table m (suc k))

      here : Settled
      here = record { rounds_done = 0; groups = table m k }

      after : Settled
      after = record { rounds_done = suc later.rounds_done; groups = later.groups }

      go : From fuel (suc k) later → (b : Bool) → agree m.places (table m k) (table m (suc k)) ≡ b → From (suc fuel) k (cond b here after)
      go F true e =
          let z : k + 0 ≡ k = omega arith in
          record {
            is_first = record { bound = omega arith; below = λ i l. absurd (omega arith); here = λ _. rw z (sym (table_stable k) ∙ e) };
            is_table = rw z;
          }
      go F false e =
          let z : k + suc later.rounds_done ≡ suc k + later.rounds_done = omega arith in
          record {
            is_first = record { bound = omega (arith, F.is_first.bound); below = below'; here = λ l. rw z (F.is_first.here (omega arith)) };
            is_table = rw z F.is_table;
          }
        where
          below' : (i : ℕ) → i < suc later.rounds_done → stable m (k + i) ≡ false
          below' zero l = let z : k + 0 ≡ k = omega arith in rw z (sym (table_stable k) ∙ e)
          below' (suc i) l = let z : k + suc i ≡ suc k + i = omega arith in rw z (F.is_first.below i (omega arith))

  pub settled_rounds : (settled m).rounds_done ≡ rounds m
  settled_rounds =
      first_one m.places (λ i. stable m (0 + i)) (settled m).rounds_done (rounds m) (from_stage m.places 0).is_first
      (simp zero-add (first_is m.places (stable m)))

  pub settled_groups : (settled m).groups ≡ table m (rounds m)
  settled_groups = (from_stage m.places 0).is_table ∙ ap (table m) (zero-add (settled m).rounds_done ∙ settled_rounds)
