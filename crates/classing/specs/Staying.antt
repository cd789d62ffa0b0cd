-- Which places stay together at the next stage, told by the profiles of their moves.
use Rattle.std.specs.Prelude.{◌≡◌, ℕ, ◌+◌, ◌<◌, ◌≤◌, Bool, List, get_or, length, slice_index, slice_index_or, slice_range}
use Rattle.std.specs.List.{list_any, list_all}
use Rattle.classing.specs.Profiles.{no_profile, equal}
use Rattle.classing.specs.declared.snapshot.Snapshot.{Snapshot}
use Rattle.classing.specs.declared.profile.Profile.{Profile}

-- the profiles of the moves of p, of those of all moves in the snapshot's order
abbrev pub profiles_at : Snapshot → List Profile → ℕ → List Profile
profiles_at s xs p = slice_range xs (slice_index s.starts p) (slice_index s.starts (p + 1))

-- some move of q has the profile x
abbrev pub Has : Snapshot → List Profile → ℕ → Profile → Type 0
Has s xs q x = (i : ℕ) × (i < length (profiles_at s xs q)) × (slice_index_or (profiles_at s xs q) i no_profile ≡ x)

-- the profile of each move of p is that of some move of q
abbrev pub Covers : Snapshot → List Profile → ℕ → ℕ → Type 0
Covers s xs p q = (i : ℕ) → i < length (profiles_at s xs p) → Has s xs q (slice_index_or (profiles_at s xs p) i no_profile)

-- the test of it
abbrev pub covers : Snapshot → List Profile → ℕ → ℕ → Bool
covers s xs p q = list_all (λ x. list_any (λ y. equal y x) (profiles_at s xs q)) (profiles_at s xs p)

-- p and q were together in the table cs, and each covers the other
pub record Stays (s : Snapshot) (xs : List Profile) (cs : List ℕ) (p q : ℕ) : Type 0 where
  pub before : get_or cs p 0 ≡ slice_index cs q
  pub forth : Covers s xs p q
  pub back : Covers s xs q p

-- c is the lowest place that stays together with p
pub record LowestStay (s : Snapshot) (xs : List Profile) (cs : List ℕ) (p c : ℕ) : Type 0 where
  pub most : c ≤ p
  pub near : c < p → Stays s xs cs c p
  pub below : (q : ℕ) → q < c → Stays s xs cs q p → ⊥
