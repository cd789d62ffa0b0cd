-- What the classes call answers.
use Rattle.std.specs.Prelude.{◌≡◌, ℕ, ◌<◌, cond, List, [], ◌∷◌, ◌++◌, map, length, drop, Ok, Err, Result, ◌==◌, slice_index}
use Rattle.std.specs.List.{range_with_len}
use Rattle.net.specs.Meaning.{Meaning, transition, tokens_on}
use Rattle.net.specs.Refusals.{Row, when, First, Free}
use Rattle.net.specs.declared.refusal.Refusal.TheVariants.{ShortList}
use Rattle.net.specs.declared.refusal.Fault.{Fault}
use Rattle.team.specs.Below.{tally}
use Rattle.team.specs.Stages.{rounds}
use Rattle.team.specs.Classes.{class_of, class_count, ClassedBy}

-- the reason to refuse: the list has fewer entries than the net has places
abbrev pub classes_refusals : Meaning → List ℕ → List Row
classes_refusals m list = when ShortList (length list < m.places) ∷ []

-- The list has the class of each place, and from there on what it had; the answer is the rounds.
pub record Classed (m : Meaning) (before after : List ℕ) (answer : ℕ) : Type 0 where
  pub classes : ClassedBy m after
  pub written : after ≡ map (class_of m) (range_with_len 0 m.places) ++ drop m.places before
  pub after_rounds : answer ≡ rounds m

-- a refused call leaves the list as it was
abbrev pub ClassesAnswer : Meaning → List ℕ → List ℕ → Result ℕ Fault → Type 0
ClassesAnswer m before after (Ok k) = Free (classes_refusals m before) × Classed m before after k
ClassesAnswer m before after (Err f) = First (classes_refusals m before) f × (after ≡ before)

-- k tokens of transition t are on the places whose entry is `class`; where the entries are the classes, these are its tokens in that class
pub record TokensIn (m : Meaning) (cs : List ℕ) (t class k : ℕ) : Type 0 where
  pub counted : k ≡ tally m.places (λ p. cond (slice_index cs p == class) (tokens_on (transition m t) p) 0)
  pub in_class : ClassedBy m cs → (c : ℕ) → c < m.places → class ≡ slice_index cs c → k ≡ class_count m (transition m t).puts c
