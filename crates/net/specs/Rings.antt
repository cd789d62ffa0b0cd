-- The ring net: k places, and from each a transition to the next one.
use Rattle.std.specs.Prelude.{ℕ, ◌+◌, ◌%◌, Bool, cond, ◌&&◌, map, nat_le, slice_set}
use Rattle.std.specs.List.{range_with_len}
use Rattle.net.specs.Meaning.{Meaning, Transition, empty}
use Rattle.net.specs.Limits.{most_places, most_label}
use Rattle.net.specs.Lists.{zeros}

-- the transition from place i to the next place of k
abbrev pub onward : ℕ → ℕ → ℕ → Transition
onward k label i = record { place = i; label = label; puts = slice_set (zeros k) ((i + 1) % k) 1 }

abbrev pub circle : ℕ → ℕ → Meaning
circle k label = record { places = k; transitions = map (onward k label) (range_with_len 0 k) }

-- whether a ring of k places with this label keeps the limits
abbrev pub ring_fits : ℕ → ℕ → Bool
ring_fits k label = nat_le k most_places && nat_le label most_label

abbrev pub ring : ℕ → ℕ → Meaning
ring k label = cond (ring_fits k label) (circle k label) empty
