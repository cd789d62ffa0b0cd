-- The joined net: two nets side by side, the right one's numbers moved up by the left one's counts.
use Rattle.std.specs.Prelude.{ℕ, ◌+◌, Bool, cond, ◌&&◌, ◌++◌, map, nat_le}
use Rattle.net.specs.Meaning.{Meaning, Transition, count_of, empty}
use Rattle.net.specs.Limits.{most_places, most_transitions}
use Rattle.net.specs.Lists.{zeros}

-- a left transition, with n places more behind its own
abbrev pub kept : ℕ → Transition → Transition
kept n t = record { place = t.place; label = t.label; puts = t.puts ++ zeros n }

-- a right transition, moved up by n places
abbrev pub moved : ℕ → Transition → Transition
moved n t = record { place = n + t.place; label = t.label; puts = zeros n ++ t.puts }

abbrev pub beside : Meaning → Meaning → Meaning
beside a b = record {
  places = a.places + b.places;
  transitions = map (kept b.places) a.transitions ++ map (moved a.places) b.transitions;
}

-- whether two nets keep the limits together
abbrev pub fits : Meaning → Meaning → Bool
fits a b = nat_le (a.places + b.places) most_places && nat_le (count_of a + count_of b) most_transitions

abbrev pub joined : Meaning → Meaning → Meaning
joined a b = cond (fits a b) (beside a b) empty
