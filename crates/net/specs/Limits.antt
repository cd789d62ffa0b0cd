-- The limits that every net and every crew keeps.
use Rattle.std.specs.Prelude.{◌≡◌, ℕ, ◌<◌, ◌≤◌, length}
use Rattle.std.proofs.Common.{arith, ap, ⊎_elim}
use Rattle.std.proofs.lemmas.List.{get_or_past}
use Rattle.std.proofs.lemmas.Bool.{cases_lt}
use Rattle.net.specs.Meaning.{Meaning, Transition, transition, idle, count_of, total_of, empty}

abbrev pub most_places : ℕ
most_places = 128

abbrev pub most_transitions : ℕ
most_transitions = 1024

abbrev pub most_label : ℕ
most_label = 63

abbrev pub most_total : ℕ
most_total = 4

-- the most tokens that a crew holds
abbrev pub most_tokens : ℕ
most_tokens = 4096

-- A transition among n places: its own place and the places that it puts tokens on are among them.
pub record Within (n : ℕ) (t : Transition) : Type 0 where
  pub place_known : t.place < n
  pub label_small : t.label ≤ most_label
  pub targets_known : length t.puts ≡ n
  pub total_small : total_of t ≤ most_total

pub record Lawful (m : Meaning) : Type 0 where
  pub few_places : m.places ≤ most_places
  pub few_transitions : count_of m ≤ most_transitions
  pub each : (t : ℕ) → t < count_of m → Within m.places (transition m t)

-- the place of any transition, also of one that is out of range
pub place_small : (m : Meaning) → Lawful m → (t : ℕ) → (transition m t).place ≤ most_places
place_small m law t = ⊎_elim inside outside (cases_lt t (count_of m))
  where
    inside : t < count_of m → (transition m t).place ≤ most_places
    inside h = omega (arith, (law.each t h).place_known, law.few_places)

    outside : count_of m ≤ t → (transition m t).place ≤ most_places
    outside h = omega (arith, ap (λ x. x.place) (get_or_past m.transitions t idle h))

pub empty_lawful : Lawful empty
empty_lawful = record { few_places = omega arith; few_transitions = omega arith; each = λ t h. absurd (omega arith) }
