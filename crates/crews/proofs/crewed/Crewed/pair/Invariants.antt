use Rattle.std.proofs.Common.{◌≡◌, ℕ, ◌<◌, get_or}
use Rattle.team.specs.Below.{tally}
use Rattle.crews.specs.Counting.{places_of}
use Rattle.crews.specs.Swaps.{swaps}
use Rattle.crews.specs.Pairs.{table_of}
use Rattle.crews.proofs.crewed.Crewed.pair.Given as goal

abbrev pub invariant-loop-p : goal.invariant-loop-p
invariant-loop-p l =
    ((j : ℕ) → j < places_of l.self → get_or l.taken j 0 ≡ tally l.p (λ i. table_of l.self i j))
    × (l.list.items ≡ swaps (table_of l.self) (places_of l.self) l.p)
