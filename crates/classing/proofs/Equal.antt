-- What the tests of equality of profiles say.
use Rattle.std.proofs.Common.{◌≡◌, ℕ, suc, ◌<◌, Bool, true, ◌&&◌, eqb, List, [], ◌∷◌, length, get_or, Decides, refl, ap, ap₂, inl, inr, arith}
use Rattle.std.specs.List.{list_any}
use Rattle.std.proofs.lemmas.Bool.{and_parts, or_cases}
use Rattle.std.proofs.lemmas.Bool.Decides.{Decides-eqb}
use Rattle.std.proofs.lemmas.List.{get_or_default}
use Rattle.std.proofs.lemmas.List.Folds.{list_any_at}
use Rattle.std.proofs.lemmas.Slice.Eq.{slice_eq-Decides}
use Rattle.std.proofs.lemmas.List.Sums.{AllPass-from_list_all, list_all-from_AllPass}
use Rattle.classing.specs.Profiles.{no_profile, equal}
use Rattle.classing.specs.Staying.{profiles_at, Covers, covers}
use Rattle.classing.specs.declared.snapshot.Snapshot.{Snapshot}
use Rattle.classing.specs.declared.profile.Profile.{Profile}
use lib.Pointwise.{pointwise}

pub equal_decides : (x y : Profile) → Decides (equal x y) (x ≡ y)
equal_decides x y =
    let classes = slice_eq-Decides Decides-eqb x.classes y.classes (pointwise eqb x.classes y.classes) refl in (
      λ r. (
          let (a, b) = and_parts (eqb x.label y.label) (pointwise eqb x.classes y.classes) r in
          ap₂ (λ (l : ℕ) (cs : List ℕ). record { label = l; classes = cs }) ((Decides-eqb x.label y.label).0 a) (classes.0 b)),
      λ e. ap₂ ◌&&◌ ((Decides-eqb x.label y.label).1 (ap (λ (z : Profile). z.label) e)) (classes.1 (ap (λ (z : Profile). z.classes) e)),
    )

-- what passes a test stands somewhere in the list
passes : (p : Profile → Bool) (xs : List Profile) → list_any p xs ≡ true → (i : ℕ) × (i < length xs) × (p (get_or xs i no_profile) ≡ true)
passes p [] e = cc
passes p (x ∷ xs) e =
    elim (or_cases (p x) (list_any p xs) e) [
      | inl y ↦ (0, omega arith, y)
      | inr n ↦ (let (i, l, r) = passes p xs n in (suc i, omega arith, r))
    ]

held_decides : (xs : List Profile) (x : Profile) → Decides (list_any (λ y. equal y x) xs) ((i : ℕ) × (i < length xs) × (get_or xs i no_profile ≡ x))
held_decides xs x = (
  λ t. (let (i, l, r) = passes (λ y. equal y x) xs t in (i, l, (equal_decides _ x).0 r)),
  λ (i, l, r). list_any_at (λ y. equal y x) xs i no_profile l ((equal_decides _ x).1 r),
)

-- each profile of the one list is in the other
pub covers_decides : (s : Snapshot) (xs : List Profile) (p q : ℕ)
    → Decides (covers s xs p q) (Covers s xs p q)
covers_decides s xs p q =
    let test : Profile → Bool = λ x. list_any (λ y. equal y x) (profiles_at s xs q) in (
      λ t i l. (held_decides (profiles_at s xs q) (get_or (profiles_at s xs p) i no_profile)).0 (AllPass-from_list_all test (profiles_at s xs p) t i no_profile l),
      λ f. list_all-from_AllPass test (profiles_at s xs p) (λ i d l.
          rw (get_or_default (profiles_at s xs p) i d no_profile l) ((held_decides (profiles_at s xs q) (get_or (profiles_at s xs p) i no_profile)).1 (f i l))),
    )
