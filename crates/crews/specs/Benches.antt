-- The crews that a bench holds, and what a call on a bench does to them.
use Rattle.std.specs.Prelude.{◌≡◌, ℕ, ◌<◌, ◌≤◌, List, [], ◌∷◌, ◌++◌, length, take, drop, Ok, Err, Result, slice_index}
use Rattle.std.specs.Result.{result_map_both}
use Rattle.net.specs.Meaning.{Meaning, transition, count_of}
use Rattle.net.specs.declared.Net.{Ghosts}
use Rattle.net.specs.Refusals.{when, First}
use Rattle.net.specs.declared.refusal.Refusal.TheVariants.{ShortList}
use Rattle.net.specs.declared.refusal.Fault.{Fault}
use Rattle.team.specs.Classes.{ClassedBy}
use Rattle.crews.specs.Crews.{Crews}
use Rattle.crews.specs.Counting.{places_of}
use Rattle.crews.specs.Calls.{unknown, not_ready}
use Rattle.crews.specs.Sides.{side_number, across_from}
use Rattle.crews.specs.Tally.{Step, Event, Run, events}
use Rattle.crews.specs.declared.bench.Bench.{Bench}
use Rattle.crews.specs.declared.crew.Crew.{Crew}
use Rattle.crews.specs.declared.crewed.Crewed.{Crewed}
use Rattle.crews.specs.declared.side.Side.{Side}
use Rattle.crews.specs.declared.side.Side.TheVariants.{Left, Right}
use Rattle.crews.specs.declared.call.Call.{Call}
use Rattle.crews.specs.declared.call.Answer.{Answer}

-- the two crews of the bench: what its tables hold on the places of its net
abbrev pub crews_held : {N : Type 0} {G : Ghosts N} → Meaning → Bench N G → Crews
crews_held m b = record { left = take m.places b.left.counts; right = take m.places b.right.counts }

-- The two crews of b, with the class of each place.
pub record LaidOut {N : Type 0} {G : Ghosts N} (m : Meaning) (b : Bench N G) (x : Crewed) : Type 0 where
  pub places : places_of x ≡ m.places
  pub classed : ClassedBy m x.classes.now
  pub left : x.left.now ≡ (crews_held m b).left
  pub right : x.right.now ≡ (crews_held m b).right

-- the table on a side
abbrev pub table_on : {N : Type 0} {G : Ghosts N} → Bench N G → Side → Crew
table_on b Left = b.left
table_on b Right = b.right

-- b' is b with the table y on that side.
pub record Replaced {N : Type 0} {G : Ghosts N} (b : Bench N G) (side : Side) (y : Crew) (b' : Bench N G) : Type 0 where
  pub same : b'.net ≡ b.net
  pub here : table_on b' side ≡ y
  pub there : table_on b' (across_from side) ≡ table_on b (across_from side)

-- The number s names the side, and i is below the count.
pub record Known (count s i : ℕ) (side : Side) : Type 0 where
  pub number : s ≡ side_number side
  pub below : i < count

abbrev pub KnownOr : ℕ → ℕ → ℕ → Result Side Fault → Type 0
KnownOr count s i (Ok side) = Known count s i side
KnownOr count s i (Err f) = First (unknown count s i) f

-- From the crews of b the call is answered so, and leads to those of b'. Its net stays as it was.
pub record Steps {N : Type 0} {G : Ghosts N} (m : Meaning) (b : Bench N G) (call : Call) (a : Result Answer Fault) (b' : Bench N G) : Type 0 where
  pub same : b'.net ≡ b.net
  pub leads : Step m (crews_held m b) call a (crews_held m b')

-- The side that s names, where its table has a token on the place of t, or the first of the reasons that it has none.
pub record Ready {N : Type 0} {G : Ghosts N} (m : Meaning) (b : Bench N G) (s t : ℕ) (side : Side) : Type 0 where
  pub number : s ≡ side_number side
  pub known : t < count_of m
  pub token : 1 ≤ slice_index (table_on b side).counts (transition m t).place

abbrev pub ReadyOr : {N : Type 0} {G : Ghosts N} → Meaning → Bench N G → ℕ → ℕ → Result Side Fault → Type 0
ReadyOr m b s t (Ok side) = Ready m b s t side
ReadyOr m b s t (Err f) = First (not_ready m (crews_held m b) s t) f

-- what a call answers, from what the bench's method for it answers
abbrev pub answer_of : {T : Type 0} → (T → Answer) → Result T Fault → Result Answer Fault
answer_of f r = result_map_both f (λ e. e) r

-- whatever events led to the crews of b, with this one they lead to those of b'
abbrev pub Extends : {N : Type 0} {G : Ghosts N} → Meaning → Bench N G → Call → Result Answer Fault → Bench N G → Type 0
Extends m b call a b' = (es : List Event) → Run m es (crews_held m b) → Run m (es ++ record { call = call; answer = a } ∷ []) (crews_held m b')

-- the calls with their answers lead from empty crews to those of b
abbrev pub Led : {N : Type 0} {G : Ghosts N} → Meaning → List Call → List (Result Answer Fault) → Bench N G → Type 0
Led m calls answers b = Run m (events calls answers) (crews_held m b)

-- All calls were made: their answers stand at the front of the list, and the rest of it is as it was.
pub record Replayed {N : Type 0} {G : Ghosts N} (m : Meaning) (calls : List Call) (before after : List (Result Answer Fault)) (b : Bench N G) : Type 0 where
  pub room : length calls ≤ length before
  pub led : Led m calls (take (length calls) after) b
  pub rest : after ≡ take (length calls) after ++ drop (length calls) before

-- Refused, for want of room for the answers: the list is as it was.
pub record Roomless (calls : List Call) (before after : List (Result Answer Fault)) (f : Fault) : Type 0 where
  pub first : First (when ShortList (length before < length calls) ∷ []) f
  pub same : after ≡ before

abbrev pub ReplayedOr : {N : Type 0} {G : Ghosts N} → Meaning → List Call → List (Result Answer Fault) → List (Result Answer Fault) → Result (Bench N G) Fault → Type 0
ReplayedOr m calls before after (Ok b) = Replayed m calls before after b
ReplayedOr m calls before after (Err f) = Roomless calls before after f
