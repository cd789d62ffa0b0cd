-- What a net means: a number of places, and a list of transitions. Nets with the same places and the same list mean the same.
use Rattle.std.specs.Prelude.{ℕ, List, [], length, sum, slice_index, slice_index_or}

-- A transition takes one token from its place and puts `puts[p]` tokens on each place p.
pub record Transition : Type 0 where
  pub place : ℕ
  pub label : ℕ
  pub puts : List ℕ

pub record Meaning : Type 0 where
  pub places : ℕ
  pub transitions : List Transition

-- how many transitions there are
abbrev pub count_of : Meaning → ℕ
count_of m = length m.transitions

-- the transition of a number that is out of range, of which every answer is 0
abbrev pub idle : Transition
idle = record { place = 0; label = 0; puts = [] }

-- the transition with the number t
abbrev pub transition : Meaning → ℕ → Transition
transition m t = slice_index_or m.transitions t idle

-- how many tokens a transition puts on the place p, and on all places
abbrev pub tokens_on : Transition → ℕ → ℕ
tokens_on t p = slice_index t.puts p

abbrev pub total_of : Transition → ℕ
total_of t = sum t.puts

-- no places and no transitions
abbrev pub empty : Meaning
empty = record { places = 0; transitions = [] }
