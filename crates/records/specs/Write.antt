-- A net as a file: a record for each place, then one for each transition.
use Rattle.std.specs.Prelude.{ℕ, zero, suc, ◌+◌, ◌-◌, ◌*◌, cond, List, [], ◌∷◌, ◌++◌, length, drop, replicate, Ok, Err, Result, nat_le, nat_lt}
use Rattle.net.specs.declared.refusal.Refusal.TheVariants.{ShortList}
use Rattle.net.specs.declared.refusal.Fault.{Fault}
use Rattle.net.specs.Refusals.{plain}
use Rattle.net.specs.Meaning.{Meaning, Transition, transition, count_of, total_of}
use Rattle.net.specs.Targets.{spread, filled}
use Rattle.records.specs.Layout.{record_size, place_kind, transition_kind, record_targets}

abbrev pub place_record : ℕ → List ℕ
place_record p = place_kind ∷ p ∷ replicate {A = ℕ} (record_size - 2) 0

abbrev pub transition_record : ℕ → Transition → List ℕ
transition_record n t = transition_kind ∷ t.place ∷ t.label ∷ total_of t ∷ filled record_targets (spread t n)

-- record k of a net's file
abbrev pub record_of : Meaning → ℕ → List ℕ
record_of m k = cond (nat_lt k m.places) (place_record k) (transition_record m.places (transition m (k - m.places)))

-- the first k records
abbrev pub written : Meaning → ℕ → List ℕ
written m zero = []
written m (suc k) = written m k ++ record_of m k

-- how many records a net takes, and how many bytes
abbrev pub records_of : Meaning → ℕ
records_of m = m.places + count_of m

abbrev pub bytes_of : Meaning → ℕ
bytes_of m = record_size * records_of m

abbrev pub file_of : Meaning → List ℕ
file_of m = written m (records_of m)

-- what write answers, given the caller's bytes
abbrev pub write_answer : Meaning → List ℕ → Result ℕ Fault
write_answer m out = cond (nat_le (bytes_of m) (length out)) (Ok (bytes_of m)) (Err (plain ShortList))

-- a list with xs written over its front
abbrev pub over_front : List ℕ → List ℕ → List ℕ
over_front xs old = xs ++ drop (length xs) old

-- what the caller's bytes then hold
abbrev pub write_after : Meaning → List ℕ → List ℕ
write_after m out = cond (nat_le (bytes_of m) (length out)) (over_front (file_of m) out) out
