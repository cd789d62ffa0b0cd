-- The profile of a transition at a stage: its label, and the classes of its targets in rising order.
use Rattle.std.specs.Prelude.{◌≡◌, ℕ, ◌<◌, Bool, ◌&&◌, cond, List, [], length, ◌==◌, nat_eq, nat_lt, slice_index, slice_index_or}
use Rattle.std.specs.List.Sorted.{IsNonDecreasing}
use lib.Pointwise.{pointwise}
use Rattle.net.specs.Limits.{most_places, most_total}
use Rattle.team.specs.Below.{tally}
use Rattle.classing.specs.Targets.{no_target, times}
use Rattle.classing.specs.Snapshots.{no_move}
use Rattle.classing.specs.declared.snapshot.Move.{Move}
use Rattle.classing.specs.declared.snapshot.Snapshot.{Snapshot}
use Rattle.classing.specs.declared.profile.Profile.{Profile}

abbrev pub no_profile : Profile
no_profile = record { label = 0; classes = [] }

-- whether two profiles are equal
abbrev pub equal : Profile → Profile → Bool
equal x y = (x.label == y.label) && pointwise nat_eq x.classes y.classes

-- the class of a target, which is none where there is no target
abbrev pub class_at : List ℕ → ℕ → ℕ
class_at cs target = cond (nat_lt target most_places) (slice_index cs target) no_target

-- how many of a move's targets are in the class v
abbrev pub spread : ℕ → List ℕ → List ℕ → ℕ → ℕ
spread w cs ts v = tally w (λ j. cond (v == class_at cs (slice_index ts j)) 1 0)

pub record ProfileOf (cs : List ℕ) (k : Move) (x : Profile) : Type 0 where
  pub labelled : x.label ≡ k.label
  pub wide : length x.classes ≡ most_total
  pub rising : IsNonDecreasing x.classes
  pub counts : (v : ℕ) → times most_total x.classes v ≡ spread most_total cs k.targets v

-- at k stands the profile, by the table cs, of the move that stands at k in the snapshot's order
abbrev pub Described : Snapshot → List ℕ → List Profile → Type 0
Described s cs xs = (k : ℕ) → k < s.count → ProfileOf cs (slice_index_or s.moves (slice_index s.order k) no_move) (slice_index_or xs k no_profile)
