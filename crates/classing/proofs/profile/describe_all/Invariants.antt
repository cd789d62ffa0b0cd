use Rattle.std.proofs.Common.{ℕ, ◌<◌, get_or}
use Rattle.classing.specs.Snapshots.{no_move}
use Rattle.classing.specs.Profiles.{no_profile, ProfileOf}
use Rattle.classing.proofs.profile.describe_all.Given as goal

abbrev pub invariant-loop-k : goal.invariant-loop-k
invariant-loop-k l =
    (k : ℕ) → k < l.k → ProfileOf l.table.classes (get_or l.snapshot.moves (get_or l.snapshot.order k 0) no_move) (get_or l.profile-items k no_profile)
