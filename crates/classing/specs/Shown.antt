-- Which snapshot says what a net means.
use Rattle.std.specs.Prelude.{◌≡◌, ℕ, ◌<◌, slice_index_or}
use Rattle.net.specs.Meaning.{Meaning, transition, count_of}
use Rattle.classing.specs.Snapshots.{Keeps, no_move}
use Rattle.classing.specs.declared.snapshot.Snapshot.{Snapshot}

-- a snapshot that says what the net means
pub record Shows (m : Meaning) (s : Snapshot) : Type 0 where
  pub all_places : s.places ≡ m.places
  pub all_moves : s.count ≡ count_of m
  pub each : (t : ℕ) → t < count_of m → Keeps m.places (transition m t) (slice_index_or s.moves t no_move)
