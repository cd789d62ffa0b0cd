-- What a verdict on a file means.
use Rattle.std.specs.Prelude.{◌≡◌, ℕ, ◌%◌, ◌<◌, ◌≤◌, ◌⊎◌, List, [], ◌∷◌, length, Ok, Err, Result, slice_index}
use Rattle.net.specs.declared.refusal.Refusal.{Refusal}
use Rattle.net.specs.declared.refusal.Refusal.TheVariants.{PartialRecord, MalformedRecord, UndeclaredPlace, OverLimit, TooManyTokens}
use Rattle.net.specs.declared.refusal.Fault.{Fault}
use Rattle.net.specs.Refusals.{Row, First, Free, at_spot}
use Rattle.net.specs.Limits.{most_places, most_transitions, most_tokens}
use Rattle.records.specs.declared.counts.Counts.{Counts}
use Rattle.records.specs.Layout.{record_size, most_records, record_count, record_at}
use Rattle.records.specs.Entry.{Entry, declares, moves, holds, broken, reading}
use Rattle.records.specs.Check.{tokens_with, counts_of}

-- ## Why a record is refused, after records that hold c

-- it breaks its form
abbrev pub Malformed : Entry → Type 0
Malformed (declares number) = ⊥
Malformed (moves place label targets) = ⊥
Malformed (holds side place n) = ⊥
Malformed broken = Unit {0}

-- one of the places is not among the first n
abbrev pub Beyond : ℕ → List ℕ → Type 0
Beyond n ps = (i : ℕ) × (i < length ps) × (n ≤ slice_index ps i)

-- it names an undeclared place, or declares one out of turn
abbrev pub Undeclared : Entry → Counts → Type 0
Undeclared (declares number) c = ¬ (number ≡ c.places)
Undeclared (moves place label targets) c = (c.places ≤ place) ⊎ Beyond c.places targets
Undeclared (holds side place n) c = c.places ≤ place
Undeclared broken c = ⊥

-- it is one place, transition or record too many
abbrev pub Over : Entry → ℕ → Counts → Type 0
Over (declares number) k c = (most_places ≤ c.places) ⊎ (most_records ≤ k)
Over (moves place label targets) k c = (most_transitions ≤ c.transitions) ⊎ (most_records ≤ k)
Over (holds side place n) k c = most_records ≤ k
Over broken k c = most_records ≤ k

-- the crew of its side would hold too many tokens
abbrev pub Heavy : Entry → Counts → Type 0
Heavy (declares number) c = ⊥
Heavy (moves place label targets) c = ⊥
Heavy (holds side place n) c = most_tokens < tokens_with side n c
Heavy broken c = ⊥

-- a reason to refuse record k
abbrev pub at_record : ℕ → Refusal → Type 0 → Row
at_record k r met = record { fault = at_spot r k; met = met }

-- the reasons for which record k can be refused, in the order in which they are tried
abbrev pub reasons : Entry → ℕ → Counts → List Row
reasons e k c =
    at_record k MalformedRecord (Malformed e) ∷
    at_record k UndeclaredPlace (Undeclared e c) ∷
    at_record k OverLimit (Over e k c) ∷
    at_record k TooManyTokens (Heavy e c) ∷ []

abbrev pub reasons_at : List ℕ → ℕ → List Row
reasons_at bytes k = reasons (reading (record_at bytes k)) k (counts_of bytes k)

-- ## What a verdict means

abbrev pub Admitted : List ℕ → ℕ → Type 0
Admitted bytes k = Free (reasons_at bytes k)

-- the file ends in the midst of a record
pub record Cut (bytes : List ℕ) (f : Fault) : Type 0 where
  pub partial : ¬ (length bytes % record_size ≡ 0)
  pub fault : f ≡ at_spot PartialRecord (record_count bytes)

-- record k is the first that is not admitted, and f is the fault of its first reason
pub record Refused (bytes : List ℕ) (k : ℕ) (f : Fault) : Type 0 where
  pub whole : length bytes % record_size ≡ 0
  pub inside : k < record_count bytes
  pub earlier : (j : ℕ) → j < k → Admitted bytes j
  pub why : First (reasons_at bytes k) f

-- every record is admitted, and c is what they hold
pub record Accepted (bytes : List ℕ) (c : Counts) : Type 0 where
  pub whole : length bytes % record_size ≡ 0
  pub each : (k : ℕ) → k < record_count bytes → Admitted bytes k
  pub counts : c ≡ counts_of bytes (record_count bytes)

abbrev pub Verdict : List ℕ → Result Counts Fault → Type 0
Verdict bytes (Ok c) = Accepted bytes c
Verdict bytes (Err f) = Cut bytes f ⊎ ((k : ℕ) × Refused bytes k f)
