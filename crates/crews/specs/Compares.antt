-- What compare answers, and what it leaves in the caller's list.
use Rattle.std.specs.Prelude.{◌≡◌, ℕ, List, ◌++◌, length, drop, Ok, Err, Result}
use Rattle.net.specs.Meaning.{Meaning}
use Rattle.net.specs.declared.Net.{Ghosts}
use Rattle.net.specs.Refusals.{First, Free}
use Rattle.net.specs.declared.refusal.Fault.{Fault}
use Rattle.crews.specs.Crews.{Crews}
use Rattle.crews.specs.Calls.{cramped}
use Rattle.crews.specs.Verdicts.{AlikeBy, ApartBy}
use Rattle.crews.specs.Benches.{crews_held}
use Rattle.crews.specs.declared.bench.Bench.{Bench}
use Rattle.crews.specs.declared.swap.Swap.{Swap}
use Rattle.crews.specs.declared.swap.Difference.{Difference}
use Rattle.crews.specs.declared.swap.Verdict.{Verdict}
use Rattle.crews.specs.declared.swap.Verdict.TheVariants.{Alike, Apart}

-- ALIKE: the swap list stands at the front of the caller's list, and the rest of it is as it was
pub record Written (m : Meaning) (c : Crews) (before after : List Swap) (used : ℕ) : Type 0 where
  pub free : Free (cramped m (length before))
  pub list : List Swap
  pub alike : AlikeBy m c list
  pub count : used ≡ length list
  pub now_is : after ≡ list ++ drop used before

-- APART: the list is as it was
pub record Unwritten (m : Meaning) (c : Crews) (before after : List Swap) (d : Difference) : Type 0 where
  pub free : Free (cramped m (length before))
  pub apart : ApartBy m c d
  pub same : after ≡ before

-- refused, and the list is as it was
pub record TurnedDown (m : Meaning) (before after : List Swap) (f : Fault) : Type 0 where
  pub first : First (cramped m (length before)) f
  pub same : after ≡ before

abbrev pub Says : Meaning → Crews → List Swap → List Swap → Result Verdict Fault → Type 0
Says m c before after (Ok (Alike used)) = Written m c before after used
Says m c before after (Ok (Apart d)) = Unwritten m c before after d
Says m c before after (Err f) = TurnedDown m before after f

-- this is said of the crews of the bench
abbrev pub Compared : {N : Type 0} {G : Ghosts N} → Meaning → Bench N G → List Swap → List Swap → Result Verdict Fault → Type 0
Compared m b before after r = Says m (crews_held m b) before after r
