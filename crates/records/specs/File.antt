-- The net of a file: its place records, and its transition records in order. Empty where the check refuses the file.
use Rattle.std.specs.Prelude.{ℕ, zero, suc, Bool, cond, List, [], ◌∷◌, ◌++◌, map, is_ok, count_by, nat_eq}
use Rattle.std.specs.List.{range_with_len}
use Rattle.net.specs.Meaning.{Meaning, Transition, idle, empty}
use Rattle.records.specs.Layout.{record_count, record_at}
use Rattle.records.specs.Entry.{Entry, declares, moves, holds, broken, is_transition, reading}
use Rattle.records.specs.Check.{checked, counts_of}

-- whether the check admits the file
abbrev pub sound : List ℕ → Bool
sound bytes = is_ok (checked bytes)

-- how many records there are to go through: none where the check refuses the file
abbrev pub admitted_records : List ℕ → ℕ
admitted_records bytes = cond (sound bytes) (record_count bytes) 0

-- how often a place stands among targets
abbrev pub tokens_to : List ℕ → ℕ → ℕ
tokens_to ts p = count_by (λ t. nat_eq t p) ts

-- the transition of a record, among n places
abbrev pub transition_of : ℕ → Entry → Transition
transition_of n (declares number) = idle
transition_of n (moves place label targets) = record { place = place; label = label; puts = map (tokens_to targets) (range_with_len 0 n) }
transition_of n (holds side place count) = idle
transition_of n broken = idle

-- the numbers of the transition records among the first k
abbrev pub transition_records : List ℕ → ℕ → List ℕ
transition_records bytes zero = []
transition_records bytes (suc k) = cond (is_transition (reading (record_at bytes k))) (transition_records bytes k ++ k ∷ []) (transition_records bytes k)

-- those of the whole file: none where the check refuses it
abbrev pub picked : List ℕ → List ℕ
picked bytes = cond (sound bytes) (transition_records bytes (record_count bytes)) []

-- how many places the records declare
abbrev pub declared_places : List ℕ → ℕ
declared_places bytes = (counts_of bytes (record_count bytes)).places

-- the net that the records declare
abbrev pub declared_net : List ℕ → Meaning
declared_net bytes = record {
  places = declared_places bytes;
  transitions = map (λ k. transition_of (declared_places bytes) (reading (record_at bytes k))) (transition_records bytes (record_count bytes));
}

abbrev pub net_of : List ℕ → Meaning
net_of bytes = cond (sound bytes) (declared_net bytes) empty
