-- The tally: what calls and answers make of two crews, empty at first.
use Rattle.std.specs.Prelude.{ℕ, List, [], ◌∷◌, ◌++◌, take, Ok, Err, Result, slice_index}
use Rattle.net.specs.Meaning.{Meaning}
use Rattle.net.specs.Markings.{more, fewer, fired}
use Rattle.net.specs.Refusals.{First, Free}
use Rattle.net.specs.declared.refusal.Fault.{Fault}
use Rattle.crews.specs.Crews.{Crews, on_side, with_side, nobody}
use Rattle.crews.specs.Calls.{Meets}
use Rattle.crews.specs.Following.{followed, AnsweredBy}
use Rattle.crews.specs.Verdicts.{AlikeBy, ApartBy}
use Rattle.crews.specs.declared.swap.SwapList.{SwapList}
use Rattle.crews.specs.declared.swap.Difference.{Difference}
use Rattle.crews.specs.declared.call.Call.{Call}
use Rattle.crews.specs.declared.call.Call.TheVariants.{Put, Take, Fire, Follow, Count, Compare}
use Rattle.crews.specs.declared.call.Answer.{Answer}
use Rattle.crews.specs.declared.call.Answer.TheVariants.{Done, Tokens, Followed, Alike, Apart}

-- At the crews c the call is answered so, and then the crews are d. A call that meets a reason is refused by the first, and changes nothing.
pub data Step (m : Meaning) (c : Crews) : Call → Result Answer Fault → Crews → Type 0 where
  refused : {call : Call} (f : Fault) → First (Meets m c call) f → Step m c call (Err f) c
  put : (s p k : ℕ) → Free (Meets m c (Put s p k)) → Step m c (Put s p k) (Ok Done) (with_side c s (more (on_side c s) p k))
  taken : (s p k : ℕ) → Free (Meets m c (Take s p k)) → Step m c (Take s p k) (Ok Done) (with_side c s (fewer (on_side c s) p k))
  moved : (s t : ℕ) → Free (Meets m c (Fire s t)) → Step m c (Fire s t) (Ok Done) (with_side c s (fired m t (on_side c s)))
  followed_by : (s t u : ℕ) → Free (Meets m c (Follow s t)) → AnsweredBy m c s t u → Step m c (Follow s t) (Ok (Followed u)) (followed m c s t u)
  alike : (room : ℕ) (l : SwapList) → Free (Meets m c (Compare room)) → AlikeBy m c (take l.used l.entries) → Step m c (Compare room) (Ok (Alike l)) c
  apart : (room : ℕ) (d : Difference) → Free (Meets m c (Compare room)) → ApartBy m c d → Step m c (Compare room) (Ok (Apart d)) c
  counted : (s p : ℕ) → Free (Meets m c (Count s p)) → Step m c (Count s p) (Ok (Tokens (slice_index (on_side c s) p))) c

-- A call and its answer.
pub record Event : Type 0 where
  pub call : Call
  pub answer : Result Answer Fault

-- the calls in order, each with its answer
abbrev pub events : List Call → List (Result Answer Fault) → List Event
events [] answers = []
events (c ∷ calls) [] = []
events (c ∷ calls) (a ∷ answers) = record { call = c; answer = a } ∷ events calls answers

-- The events lead from empty crews to the crews at the end.
pub data Run (m : Meaning) : List Event → Crews → Type 0 where
  begin : Run m [] (nobody m.places)
  then : {es : List Event} {c d : Crews} (e : Event) → Run m es c → Step m c e.call e.answer d → Run m (es ++ e ∷ []) d
