-- A net that is given as a list of moves.
use Rattle.std.specs.Prelude.{ℕ, Bool, ◌&&◌, ◌||◌, List, map, length, ◌==◌, nat_le, nat_lt, slice_index}
use Rattle.std.specs.List.{range_with_len, list_all}
use Rattle.net.specs.Meaning.{Meaning, Transition}
use Rattle.net.specs.Limits.{most_places, most_transitions, most_label, most_total}
use Rattle.team.specs.Below.{every}
use Rattle.classing.specs.Targets.{no_target, times}
use Rattle.classing.specs.declared.snapshot.Move.{Move}

-- a move among n places, as a transition
abbrev pub meant : ℕ → Move → Transition
meant n k = record { place = k.place; label = k.label; puts = map (times most_total k.targets) (range_with_len 0 n) }

-- n places and the moves
abbrev pub listed : ℕ → List Move → Meaning
listed n rows = record { places = n; transitions = map (meant n) rows }

abbrev pub target_fits : ℕ → ℕ → Bool
target_fits n x = nat_lt x n || x == no_target

abbrev pub targets_fit : ℕ → List ℕ → Bool
targets_fit n ts = every most_total (λ j. target_fits n (slice_index ts j))

-- a move names only places below n, and keeps the limit of labels
abbrev pub move_fits : ℕ → Move → Bool
move_fits n k = nat_lt k.place n && (nat_le k.label most_label && targets_fit n k.targets)

abbrev pub moves_fit : ℕ → List Move → Bool
moves_fit n rows = list_all (move_fits n) rows

-- a list that keeps the limits of a net
abbrev pub fits : ℕ → List Move → Bool
fits n rows = nat_le n most_places && (nat_le (length rows) most_transitions && moves_fit n rows)
