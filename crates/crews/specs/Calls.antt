-- When a call on the crews c is refused: its reasons, in the order of their numbers.
use Rattle.std.specs.Prelude.{ℕ, ◌*◌, ◌<◌, ◌≤◌, List, [], ◌∷◌, ◌++◌, sum, slice_index}
use Rattle.net.specs.Meaning.{Meaning, transition, count_of}
use Rattle.net.specs.Limits.{most_tokens}
use Rattle.net.specs.Markings.{more, fired}
use Rattle.net.specs.Refusals.{Row, when, Rising}
use Rattle.net.specs.declared.refusal.Refusal.TheVariants.{UnknownSide, OutOfRange, TooFewTokens, TooManyTokens, ShortList}
use Rattle.crews.specs.Crews.{Crews, on_side}
use Rattle.crews.specs.Following.{unlike, overfull}
use Rattle.crews.specs.declared.call.Call.{Call}
use Rattle.crews.specs.declared.call.Call.TheVariants.{Put, Take, Fire, Follow, Count, Compare}

-- the side is neither 0 nor 1, or the number is not below the net's count
abbrev pub unknown : ℕ → ℕ → ℕ → List Row
unknown count s i = when UnknownSide (1 < s) ∷ when OutOfRange (count ≤ i) ∷ []

-- the place has fewer tokens than are taken
abbrev pub lacking : List ℕ → ℕ → ℕ → List Row
lacking xs p k = when TooFewTokens (slice_index xs p < k) ∷ []

-- the side or the transition is unknown, or its place has no token
abbrev pub not_ready : Meaning → Crews → ℕ → ℕ → List Row
not_ready m c s t = unknown (count_of m) s t ++ lacking (on_side c s) (transition m t).place 1

-- the crew would then hold more tokens than a crew may
abbrev pub crowded : List ℕ → List Row
crowded xs = when TooManyTokens (most_tokens < sum xs) ∷ []

-- a swap list may take two entries for each place
abbrev pub cramped : Meaning → ℕ → List Row
cramped m room = when ShortList (room < 2 * m.places) ∷ []

abbrev pub Meets : Meaning → Crews → Call → List Row
Meets m c (Put s p k) = unknown m.places s p ++ crowded (more (on_side c s) p k)
Meets m c (Take s p k) = unknown m.places s p ++ lacking (on_side c s) p k
Meets m c (Fire s t) = not_ready m c s t ++ crowded (fired m t (on_side c s))
Meets m c (Follow s t) = not_ready m c s t ++ (unlike m c ++ overfull m c s t)
Meets m c (Count s p) = unknown m.places s p
Meets m c (Compare room) = cramped m room

-- whatever the call, its reasons are tried in the order of their numbers
abbrev pub TriedInOrder : Type 0
TriedInOrder = (m : Meaning) (c : Crews) (call : Call) → Rising 0 (Meets m c call)
