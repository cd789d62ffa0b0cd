-- Where the lines of a sheet hold.
use Rattle.std.specs.Prelude.{ℕ, zero, suc, Bool, true, false, not, ◌&&◌, List, [], ◌∷◌, ◌++◌, map, ◌==◌, slice_index_or}
use Rattle.std.specs.List.{range_with_len}
use Rattle.net.specs.Meaning.{Meaning, transition, count_of, total_of}
use Rattle.team.specs.Below.{every, some}
use Rattle.team.specs.Markings.{held}
use Rattle.formulas.specs.declared.line.Line.{Line}
use Rattle.formulas.specs.Lines.{pair_at, line_at}

-- where lines hold: a test of a line's number and a place
abbrev pub Truths : Type 0
Truths = ℕ → ℕ → Bool

-- ## One line, where T says it of the lines before

-- t puts as many tokens where the line of pair k holds as the pair counts
abbrev pub puts_pair : Meaning → Truths → Line → ℕ → ℕ → Bool
puts_pair m T l t k = held m.places T (transition m t).puts (pair_at l k).line == (pair_at l k).count

-- t is a transition of p that does what the line says
abbrev pub does : Meaning → Truths → Line → ℕ → ℕ → Bool
does m T l p t =
    let puts = every l.used (puts_pair m T l t) in
    ((transition m t).place == p) && ((transition m t).label == l.label && (total_of (transition m t) == l.total && puts))

abbrev pub by_kind : ℕ → Meaning → Truths → Line → ℕ → Bool
by_kind zero m T l p = true
by_kind (suc zero) m T l p = not (T (pair_at l 0).line p)
by_kind (suc (suc zero)) m T l p = T (pair_at l 0).line p && T (pair_at l 1).line p
by_kind (suc (suc (suc kind))) m T l p = some (count_of m) (does m T l p)

abbrev pub truth : Meaning → Truths → Line → ℕ → Bool
truth m T l p = by_kind l.kind m T l p

-- ## The whole sheet: a row for each line, with an entry for each place, computed once from the rows before

abbrev pub cell : List (List Bool) → Truths
cell rows i p = slice_index_or (slice_index_or rows i []) p false

abbrev pub truth_rows : Meaning → List Line → ℕ → List (List Bool)
truth_rows m sheet zero = []
truth_rows m sheet (suc k) =
    let before = truth_rows m sheet k in
    before ++ map (truth m (cell before) (line_at sheet k)) (range_with_len 0 m.places) ∷ []

-- line i of the sheet holds at the place p
abbrev pub holds : Meaning → List Line → Truths
holds m sheet i p = cell (truth_rows m sheet (suc i)) i p
