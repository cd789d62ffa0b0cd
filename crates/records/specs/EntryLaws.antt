-- What the reading of a record tells of its bytes.
use Rattle.std.specs.Prelude.{length, ◌≡◌, ℕ, ◌≤◌, Bool, true, false, cond, ◌&&◌, List, drop, ◌==◌, nat_eq, nat_le, refl}
use Rattle.std.proofs.Common.{length-take, arith, ap, subst, ◌∙◌}
use Rattle.std.proofs.lemmas.Bool.{false≢true, and_parts, leb-true, eqb-true, eq-eqb, ne_eqb}
use Rattle.net.specs.Limits.{most_label}
use Rattle.records.specs.Layout.{at, place_kind, transition_kind, tokens_kind, head_size, record_targets}
use Rattle.records.specs.Entry.{Entry, declares, moves, holds, broken, is_transition, padded, place_form, place_reading, transition_form, transition_reading, targets_of, two_bytes, tokens_form, tokens_reading, reading}
use Rattle.records.specs.Check.{well_formed}

pub reading_kind : (r : List ℕ) → at r 0 ≡ transition_kind → reading r ≡ transition_reading r
reading_kind r kind =
    let is : nat_eq (at r 0) transition_kind ≡ true = eq-eqb (at r 0) transition_kind kind in
    let other : nat_eq (at r 0) place_kind ≡ false = ne_eqb (at r 0) place_kind (λ e. omega arith) in
    rw (other, is) refl

-- ## Transition records

-- the bytes of a transition record
pub record MovingBytes (r : List ℕ) : Type 0 where
  pub kind : at r 0 ≡ transition_kind
  pub label_small : at r 2 ≤ most_label
  pub total_small : at r 3 ≤ record_targets
  pub is : reading r ≡ moves (at r 1) (at r 2) (targets_of r)

no_place : {X : Type 0} (v : Bool) (number : ℕ) → is_transition (cond v (declares number) broken) ≡ true → X
no_place true number h = absurd (false≢true h)
no_place false number h = absurd (false≢true h)

no_tokens : {X : Type 0} (v : Bool) (side place n : ℕ) → is_transition (cond v (holds side place n) broken) ≡ true → X
no_tokens true side place n h = absurd (false≢true h)
no_tokens false side place n h = absurd (false≢true h)

moving_by : (r : List ℕ) → at r 0 ≡ transition_kind → (v : Bool) → transition_form (at r 2) (at r 3) (drop head_size r) ≡ v → is_transition (cond v (moves (at r 1) (at r 2) (targets_of r)) broken) ≡ true → MovingBytes r
moving_by r kind true e h =
    let all = and_parts (nat_le (at r 2) most_label && nat_le (at r 3) record_targets) (padded (at r 3) (drop head_size r)) e in
    let both = and_parts (nat_le (at r 2) most_label) (nat_le (at r 3) record_targets) all.0 in
    record {
      kind = kind;
      label_small = leb-true (at r 2) most_label both.0;
      total_small = leb-true (at r 3) record_targets both.1;
      is = reading_kind r kind ∙ ap (λ v. cond v (moves (at r 1) (at r 2) (targets_of r)) broken) e;
    }
moving_by r kind false e h = absurd (false≢true h)

pub moving_bytes : (r : List ℕ) → is_transition (reading r) ≡ true → MovingBytes r
moving_bytes r h = by_kind (at r 0 == place_kind) (at r 0 == transition_kind) (at r 0 == tokens_kind) refl h
  where
    by_kind : (one two three : Bool) → (at r 0 == transition_kind) ≡ two → is_transition (cond one (place_reading r) (cond two (transition_reading r) (cond three (tokens_reading r) broken))) ≡ true → MovingBytes r
    by_kind true two three e h = no_place (place_form r) (at r 1) h
    by_kind false true three e h = moving_by r (eqb-true (at r 0) transition_kind e) (transition_form (at r 2) (at r 3) (drop head_size r)) refl h
    by_kind false false true e h = no_tokens (tokens_form r) (at r 1) (at r 2) (two_bytes (at r 4) (at r 5)) h
    by_kind false false false e h = absurd (false≢true h)

-- an entry that is a transition, in the limits that its form grants
pub record Moving (e : Entry) : Type 0 where
  pub place : ℕ
  pub label : ℕ
  pub targets : List ℕ
  pub is : e ≡ moves place label targets
  pub label_small : label ≤ most_label
  pub few : length targets ≤ record_targets

pub moving : (r : List ℕ) → is_transition (reading r) ≡ true → Moving (reading r)
moving r h =
    let m = moving_bytes r h in
    let small = m.total_small in
    record {
      place = at r 1;
      label = at r 2;
      targets = targets_of r;
      is = m.is;
      label_small = m.label_small;
      few = simp length-take (omega arith);
    }

-- a record of that kind that keeps its form is one
pub kind_moves : (r : List ℕ) → well_formed (reading r) ≡ true → at r 0 ≡ transition_kind → is_transition (reading r) ≡ true
kind_moves r h kind = ap is_transition (reading_kind r kind) ∙ by_form (transition_form (at r 2) (at r 3) (drop head_size r)) (subst (λ e. well_formed e ≡ true) (reading_kind r kind) h)
  where
    by_form : (v : Bool) → well_formed (cond v (moves (at r 1) (at r 2) (targets_of r)) broken) ≡ true → is_transition (cond v (moves (at r 1) (at r 2) (targets_of r)) broken) ≡ true
    by_form true h = refl
    by_form false h = absurd (false≢true h)
