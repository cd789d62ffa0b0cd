-- The file check: record by record, and the first fault ends it.
use Rattle.std.specs.Prelude.{ℕ, zero, suc, ◌+◌, ◌%◌, Bool, true, false, cond, ◌&&◌, List, length, Ok, Err, Result, ◌==◌, nat_le, nat_lt}
use Rattle.net.specs.declared.refusal.Refusal.{Refusal}
use Rattle.net.specs.declared.refusal.Refusal.TheVariants.{PartialRecord, MalformedRecord, UndeclaredPlace, OverLimit, TooManyTokens}
use Rattle.net.specs.declared.refusal.Fault.{Fault}
use Rattle.net.specs.Refusals.{at_spot}
use Rattle.net.specs.Limits.{most_places, most_transitions, most_tokens}
use Rattle.records.specs.declared.counts.Counts.{Counts}
use Rattle.records.specs.Layout.{record_size, most_records, record_count, record_at}
use Rattle.records.specs.Entry.{Entry, declares, moves, holds, broken, below, reading}

-- ## What a record adds

abbrev pub nothing : Counts
nothing = record { places = 0; transitions = 0; left = 0; right = 0 }

-- the tokens of a side, with n more
abbrev pub tokens_with : ℕ → ℕ → Counts → ℕ
tokens_with side n c = cond (side == 0) c.left c.right + n

abbrev pub counted : Entry → Counts → Counts
counted (declares number) c = record { places = c.places + 1; transitions = c.transitions; left = c.left; right = c.right }
counted (moves place label targets) c = record { places = c.places; transitions = c.transitions + 1; left = c.left; right = c.right }
counted (holds side place n) c =
    cond (side == 0)
    (record { places = c.places; transitions = c.transitions; left = c.left + n; right = c.right })
    (record { places = c.places; transitions = c.transitions; left = c.left; right = c.right + n })
counted broken c = c

-- what the first k records hold
abbrev pub counts_of : List ℕ → ℕ → Counts
counts_of bytes zero = nothing
counts_of bytes (suc k) = counted (reading (record_at bytes k)) (counts_of bytes k)

-- ## What record k is tried by, after records that hold c

abbrev pub well_formed : Entry → Bool
well_formed (declares number) = true
well_formed (moves place label targets) = true
well_formed (holds side place n) = true
well_formed broken = false

abbrev pub known : Entry → Counts → Bool
known (declares number) c = number == c.places
known (moves place label targets) c = nat_lt place c.places && below c.places targets
known (holds side place n) c = nat_lt place c.places
known broken c = true

abbrev pub roomy : Entry → ℕ → Counts → Bool
roomy (declares number) k c = nat_lt c.places most_places && nat_lt k most_records
roomy (moves place label targets) k c = nat_lt c.transitions most_transitions && nat_lt k most_records
roomy (holds side place n) k c = nat_lt k most_records
roomy broken k c = nat_lt k most_records

abbrev pub light : Entry → Counts → Bool
light (declares number) c = true
light (moves place label targets) c = true
light (holds side place n) c = nat_le (tokens_with side n c) most_tokens
light broken c = true

-- a test that record k has to pass, with the refusal of one that does not
abbrev pub unless : Bool → Refusal → ℕ → Result Counts Fault → Result Counts Fault
unless good why k rest = cond good rest (Err (at_spot why k))

-- record k, after records that hold c
abbrev pub admit : Entry → ℕ → Counts → Result Counts Fault
admit e k c =
    unless (well_formed e) MalformedRecord k
    (unless (known e c) UndeclaredPlace k
    (unless (roomy e k c) OverLimit k
    (unless (light e c) TooManyTokens k
    (Ok (counted e c)))))

-- ## The file

abbrev pub then : Result Counts Fault → (Counts → Result Counts Fault) → Result Counts Fault
then (Ok c) next = next c
then (Err f) next = Err f

-- the first k records, in order
abbrev pub checked_to : List ℕ → ℕ → Result Counts Fault
checked_to bytes zero = Ok nothing
checked_to bytes (suc k) = then (checked_to bytes k) (admit (reading (record_at bytes k)) k)

abbrev pub checked : List ℕ → Result Counts Fault
checked bytes = cond (length bytes % record_size == 0) (checked_to bytes (record_count bytes)) (Err (at_spot PartialRecord (record_count bytes)))
