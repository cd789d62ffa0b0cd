-- How a file is laid out: a run of records of one size, numbered from 0.
use Rattle.std.specs.Prelude.{ℕ, ◌*◌, ◌/◌, List, length, take, drop, slice_index}

abbrev pub record_size : ℕ
record_size = 8

-- byte 0 of a record is its kind
abbrev pub place_kind : ℕ
place_kind = 1

abbrev pub transition_kind : ℕ
transition_kind = 2

abbrev pub tokens_kind : ℕ
tokens_kind = 3

-- the bytes of a transition record before its targets: kind, place, label, total
abbrev pub head_size : ℕ
head_size = 4

-- the targets that a transition record has room for
abbrev pub record_targets : ℕ
record_targets = 4

abbrev pub most_records : ℕ
most_records = 2048

-- how many whole records there are
abbrev pub record_count : List ℕ → ℕ
record_count bytes = length bytes / record_size

-- the bytes of record k
abbrev pub record_at : List ℕ → ℕ → List ℕ
record_at bytes k = take record_size (drop (record_size * k) bytes)

-- byte i of a record
abbrev pub at : List ℕ → ℕ → ℕ
at r i = slice_index r i
