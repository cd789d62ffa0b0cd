-- What one record says, read by its kind.
use Rattle.std.specs.Prelude.{ℕ, ◌+◌, ◌*◌, Bool, true, false, cond, ◌&&◌, List, [], ◌∷◌, take, drop, ◌==◌, nat_le, nat_lt}
use Rattle.std.specs.List.{list_all}
use Rattle.net.specs.Limits.{most_label}
use Rattle.net.specs.Targets.{no_target}
use Rattle.records.specs.Layout.{at, place_kind, transition_kind, tokens_kind, head_size, record_targets}

pub data Entry : Type 0 where
  -- a place is declared: its number
  declares : ℕ → Entry
  -- a transition: its place, its label, its targets
  moves : ℕ → ℕ → List ℕ → Entry
  -- tokens: the side, the place, how many
  holds : ℕ → ℕ → ℕ → Entry
  -- the record breaks its form
  broken : Entry

abbrev pub is_transition : Entry → Bool
is_transition (declares number) = false
is_transition (moves place label targets) = true
is_transition (holds side place n) = false
is_transition broken = false

-- ## Lists of targets, of any width

-- each of these places is one of the first n
abbrev pub below : ℕ → List ℕ → Bool
below n ts = list_all (λ t. nat_lt t n) ts

-- the first is at least `last`, and each at least the one before it
abbrev pub rising : ℕ → List ℕ → Bool
rising last [] = true
rising last (t ∷ ts) = nat_le last t && rising t ts

-- no byte is a target
abbrev pub blank : List ℕ → Bool
blank ts = list_all (λ t. t == no_target) ts

-- the first k bytes are targets in rising order, and the others are none
abbrev pub padded : ℕ → List ℕ → Bool
padded k ts = rising 0 (take k ts) && blank (drop k ts)

-- ## The kinds

-- a place record: its number, then zeros
abbrev pub place_form : List ℕ → Bool
place_form r = at r 2 == 0 && at r 3 == 0 && at r 4 == 0 && at r 5 == 0 && at r 6 == 0 && at r 7 == 0

abbrev pub place_reading : List ℕ → Entry
place_reading r = cond (place_form r) (declares (at r 1)) broken

-- a transition record: a place, a label, a total, then the target bytes
abbrev pub transition_form : ℕ → ℕ → List ℕ → Bool
transition_form label total ts = nat_le label most_label && nat_le total record_targets && padded total ts

abbrev pub transition_by : ℕ → ℕ → ℕ → List ℕ → Entry
transition_by place label total ts = cond (transition_form label total ts) (moves place label (take total ts)) broken

abbrev pub transition_reading : List ℕ → Entry
transition_reading r = transition_by (at r 1) (at r 2) (at r 3) (drop head_size r)

-- the targets of a transition record
abbrev pub targets_of : List ℕ → List ℕ
targets_of r = take (at r 3) (drop head_size r)

-- a number of two bytes, high byte first
abbrev pub two_bytes : ℕ → ℕ → ℕ
two_bytes high low = high * 256 + low

-- a token record: a side, a place, a zero, a count in two bytes, then zeros
abbrev pub tokens_form : List ℕ → Bool
tokens_form r = nat_le (at r 1) 1 && at r 3 == 0 && at r 6 == 0 && at r 7 == 0

abbrev pub tokens_reading : List ℕ → Entry
tokens_reading r = cond (tokens_form r) (holds (at r 1) (at r 2) (two_bytes (at r 4) (at r 5))) broken

abbrev pub reading : List ℕ → Entry
reading r =
    cond (at r 0 == place_kind) (place_reading r)
    (cond (at r 0 == transition_kind) (transition_reading r)
    (cond (at r 0 == tokens_kind) (tokens_reading r)
    broken))
