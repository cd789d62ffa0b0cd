-- A turn of the refinement goes from a stage to the next.
use Rattle.std.proofs.Common.{◌≡◌, ℕ, suc, ◌+◌, ◌<◌, ◌≤◌, Bool, List, length, get_or, Decides, ap, ◌∙◌, inl, inr, arith}
use Rattle.std.proofs.lemmas.Bool.{cases_Bool}
use Rattle.net.specs.Meaning.{Meaning}
use Rattle.net.specs.Limits.{most_places, most_transitions}
use Rattle.team.specs.Below.{first}
use Rattle.team.specs.Stages.{finer, together, stable}
use Rattle.team.specs.Tables.{same, agree}
use Rattle.team.proofs.Below.{first_most, first_found}
use Rattle.team.proofs.Tables.{Holds, holds_next, agree_stable}
use Rattle.classing.specs.Shown.{Shows}
use Rattle.classing.specs.Profiles.{Described}
use Rattle.classing.specs.Staying.{Stays, LowestStay}
use Rattle.classing.specs.declared.snapshot.Snapshot.{Snapshot}
use Rattle.classing.specs.declared.profile.Profile.{Profile}
use Rattle.classing.proofs.Profiles.{Low}
use Rattle.classing.proofs.Staying.{stays_finer}

module _ (m : Meaning) where
  pub holds_low : (k : ℕ) (cs : List ℕ) → Holds m k cs → Low m.places cs
  holds_low k cs H p l = omega (arith, H p l, first_most p (λ q. together m k q p))

  module _ (s : Snapshot) (S : Shows m s) (few : m.places ≤ most_places) (k : ℕ) (cs ds : List ℕ) (xs : List Profile) (wide : length xs ≡ most_transitions) (H : Holds m k cs) (D : Described s cs xs)
      (L : (p : ℕ) → p < m.places → LowestStay s xs cs p (get_or ds p 0)) where
    lowest_first : (p : ℕ) → p < m.places → get_or ds p 0 ≡ first p (λ q. finer m (same cs) q p)
    lowest_first p l =
        first_found p (λ q. finer m (same cs) q p) (get_or ds p 0) (L p l).most
        (λ i w. elim (cases_Bool (finer m (same cs) i p)) [ inl y ↦ absurd ((L p l).below i w ((tells i (omega (arith, (L p l).most))).0 y)) | inr n ↦ n ])
        (λ w. (tells (get_or ds p 0) (omega (arith, (L p l).most))).1 ((L p l).near w))
      where
        tells : (i : ℕ) → i ≤ p → Decides (finer m (same cs) i p) (Stays s xs cs i p)
        tells i k' = stays_finer m s S few cs (holds_low k cs H) xs wide D i p (omega arith) (omega arith)

    next_holds : Holds m (suc k) ds
    next_holds p l = lowest_first p l ∙ holds_next m k cs H p l

    pub holds_more : Holds m (k + 1) ds
    holds_more = let e : k + 1 ≡ suc k = omega arith in rw e next_holds

    agree_tells : agree m.places cs ds ≡ stable m k
    agree_tells = agree_stable m k cs ds H next_holds

    -- the loop's test says whether the stage is stable
    pub turn_tells : (n : ℕ) (b : Bool) → n ≡ m.places → b ≡ agree n cs ds → b ≡ stable m k
    turn_tells n b e h = h ∙ ap (λ i. agree i cs ds) e ∙ agree_tells
