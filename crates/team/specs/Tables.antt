-- The stages as tables, a list of groups with one entry a place, each computed once from the one before.
use Rattle.std.specs.Prelude.{ℕ, zero, suc, Bool, cond, List, map, ◌==◌, nat_eq, slice_index}
use Rattle.std.specs.List.{range_with_len}
use Rattle.net.specs.Meaning.{Meaning}
use Rattle.net.specs.Lists.{zeros}
use Rattle.team.specs.Below.{every, first}
use Rattle.team.specs.Relations.{Relation}
use Rattle.team.specs.Stages.{finer}

-- the two places have one entry
abbrev pub same : List ℕ → Relation
same cs p q = slice_index cs p == slice_index cs q

-- each place's lowest place that stays together with it
abbrev pub next_table : Meaning → List ℕ → List ℕ
next_table m cs = map (λ p. first p (λ q. finer m (same cs) q p)) (range_with_len 0 m.places)

abbrev pub table : Meaning → ℕ → List ℕ
table m zero = zeros m.places
table m (suc k) = next_table m (table m k)

-- the first n entries of both are equal
abbrev pub agree : ℕ → List ℕ → List ℕ → Bool
agree n cs ds = every n (λ p. nat_eq (slice_index cs p) (slice_index ds p))

-- A table that agrees with the next, and how many stages came before it.
pub record Settled : Type 0 where
  pub rounds_done : ℕ
  pub groups : List ℕ

-- refined from cs on until a table and the next agree, at most `fuel` times
abbrev pub refined : Meaning → ℕ → List ℕ → Settled
refined m zero cs = record { rounds_done = 0; groups = cs }
refined m (suc fuel) cs =
    let ds = next_table m cs in
    let later = refined m fuel ds in
    cond (agree m.places cs ds) (record { rounds_done = 0; groups = cs }) (record { rounds_done = suc later.rounds_done; groups = later.groups })

abbrev pub settled : Meaning → Settled
settled m = refined m m.places (zeros m.places)
