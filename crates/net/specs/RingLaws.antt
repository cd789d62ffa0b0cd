-- What a ring's transitions are, that it keeps the limits, and its answers as the code gives them.
use Rattle.std.specs.Prelude.{◌≡◌, ℕ, ◌+◌, ◌%◌, ◌<◌, ◌≤◌, length, ◌≢◌, refl}
use Rattle.std.proofs.Common.{mod-lt, arith, sym, ap, subst, ◌∙◌, length-set, get_or-set_same, get_or-set_other}
use Rattle.std.proofs.lemmas.List.{get_or_past, length-replicate}
use Rattle.std.proofs.lemmas.List.FromFn.{length-map-range_with_len, get_or-map-range_with_len}
use Rattle.std.proofs.lemmas.List.Sums.{sum_by-set}
use Rattle.net.specs.Meaning.{transition, idle, count_of, tokens_on, total_of}
use Rattle.net.specs.Limits.{Lawful, Within, most_places, most_label}
use Rattle.net.specs.Lists.{zeros, get_or_zeros, sum_zeros}
use Rattle.net.specs.Rings.{onward, circle}

next_within : (k i : ℕ) → i < k → (i + 1) % k < length (zeros k)
next_within k i h = rw length-replicate (mod-lt (i + 1) (omega arith))

pub total_onward : (k label i : ℕ) → i < k → total_of (onward k label i) ≡ 1
total_onward k label i h =
    omega (arith, sum_by-set (λ x. x) (zeros k) ((i + 1) % k) 1 0 (next_within k i h), sum_zeros k, get_or_zeros k ((i + 1) % k))

pub tokens_next : (k label i : ℕ) → i < k → tokens_on (onward k label i) ((i + 1) % k) ≡ 1
tokens_next k label i h = get_or-set_same (zeros k) ((i + 1) % k) 1 0 (next_within k i h)

pub tokens_elsewhere : (k label i p : ℕ) → (p ≢ (i + 1) % k) → tokens_on (onward k label i) p ≡ 0
tokens_elsewhere k label i p ne = rw get_or-set_other (get_or_zeros k p)

pub length_circle : (k label : ℕ) → count_of (circle k label) ≡ k
length_circle k label = length-map-range_with_len (onward k label) 0 k

pub circle_at : (k label t : ℕ) → t < k → transition (circle k label) t ≡ onward k label t
circle_at k label t h = get_or-map-range_with_len (onward k label) 0 k t t idle h (omega arith)

pub circle_past : (k label t : ℕ) → k ≤ t → transition (circle k label) t ≡ idle
circle_past k label t h = get_or_past (circle k label).transitions t idle (rw (length_circle k label) h)

onward_within : (k label i : ℕ) → label ≤ most_label → i < k → Within k (onward k label i)
onward_within k label i small h = record {
  place_known = h;
  label_small = small;
  targets_known = simp (length-set, length-replicate) refl;
  total_small = omega (arith, total_onward k label i h);
}

pub circle_lawful : (k label : ℕ) → k ≤ most_places → label ≤ most_label → Lawful (circle k label)
circle_lawful k label few small = record {
  few_places = few;
  few_transitions = rw (length_circle k label) (omega arith);
  each = λ t h.
      let lt : t < k = rw (length_circle k label) at h in
      subst (Within k) (sym (circle_at k label t lt)) (onward_within k label t small lt);
}

-- ## The six answers

module _ (k label t : ℕ) where
  pub circle_count : k ≡ count_of (circle k label)
  circle_count = sym (length_circle k label)

  pub circle_place : t < k → t ≡ (transition (circle k label) t).place
  circle_place h = sym (ap (λ x. x.place) (circle_at k label t h))

  pub circle_label : t < k → label ≡ (transition (circle k label) t).label
  circle_label h = sym (ap (λ x. x.label) (circle_at k label t h))

  pub circle_total : t < k → 1 ≡ total_of (transition (circle k label) t)
  circle_total h = sym (ap total_of (circle_at k label t h) ∙ total_onward k label t h)

  pub circle_next : (p : ℕ) → t < k → p ≡ (t + 1) % k → 1 ≡ tokens_on (transition (circle k label) t) p
  circle_next p h e = sym (ap (λ x. tokens_on x p) (circle_at k label t h) ∙ ap (tokens_on (onward k label t)) e ∙ tokens_next k label t h)

  pub circle_elsewhere : (p : ℕ) → t < k → (p ≢ (t + 1) % k) → 0 ≡ tokens_on (transition (circle k label) t) p
  circle_elsewhere p h ne = sym (ap (λ x. tokens_on x p) (circle_at k label t h) ∙ tokens_elsewhere k label t p ne)

  pub past_place : k ≤ t → 0 ≡ (transition (circle k label) t).place
  past_place h = sym (ap (λ x. x.place) (circle_past k label t h))

  pub past_label : k ≤ t → 0 ≡ (transition (circle k label) t).label
  past_label h = sym (ap (λ x. x.label) (circle_past k label t h))

  pub past_total : k ≤ t → 0 ≡ total_of (transition (circle k label) t)
  past_total h = sym (ap total_of (circle_past k label t h))

  pub past_tokens : (p : ℕ) → k ≤ t → 0 ≡ tokens_on (transition (circle k label) t) p
  past_tokens p h = sym (ap (λ x. tokens_on x p) (circle_past k label t h))

pub ruleset ring_answers = (circle_count, circle_place, circle_label, circle_total, circle_next, circle_elsewhere, past_place, past_label, past_total, past_tokens)
