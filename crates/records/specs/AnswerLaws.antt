-- The answers of a file's net, as its records say them.
use Rattle.std.specs.Prelude.{◌≡◌, ℕ, ◌+◌, ◌*◌, ◌<◌, ◌≤◌, true, cond, List, [], ◌∷◌, length, take, Some, Option, ◌==◌, nat_lt, slice_index, refl}
use Rattle.std.specs.Option.{option_map_or}
use Rattle.std.proofs.Common.{arith, sym, ap, ◌∙◌, ⊎_elim, length-take, get_or-take}
use Rattle.std.proofs.lemmas.List.{get_or_past}
use Rattle.std.proofs.lemmas.List.FromFn.{get_or-map-range_with_len}
use Rattle.std.proofs.lemmas.List.Sums.{sum_by-cons}
use Rattle.std.proofs.lemmas.Bool.{and_parts, ltb-true, ne_eqb, cases_lt}
use Rattle.net.specs.Meaning.{transition, count_of, tokens_on, total_of}
use Rattle.records.specs.declared.record.Transition.{Transition as Read}
use Rattle.records.specs.Layout.{record_size, record_at}
use Rattle.records.specs.Entry.{moves, is_transition, below, reading}
use Rattle.records.specs.File.{tokens_to, transition_of, net_of, picked}
use Rattle.records.specs.TargetLaws.{sum_tokens}
use Rattle.records.specs.FileLaws.{found, net_at, count_is, net_lawful}

-- what is read of transition t tells each answer about it; none tells 0
pub record Tells (b : List ℕ) (t : ℕ) (o : Option Read) : Type 0 where
  pub place : option_map_or (λ x. x.place) o 0 ≡ (transition (net_of b) t).place
  pub label : option_map_or (λ x. x.label) o 0 ≡ (transition (net_of b) t).label
  pub total : option_map_or (λ x. length x.targets.now) o 0 ≡ total_of (transition (net_of b) t)
  pub tokens : (p : ℕ) → option_map_or (λ x. tokens_to x.targets.now p) o 0 ≡ tokens_on (transition (net_of b) t) p

-- ## A transition of the file

-- targets that are all known are none of the places past those
no_tokens : (n p : ℕ) (ts : List ℕ) → n ≤ p → below n ts ≡ true → tokens_to ts p ≡ 0
no_tokens n p [] h e = refl
no_tokens n p (t ∷ ts) h e =
    let both = and_parts (nat_lt t n) (below n ts) e in
    let small = ltb-true t n both.0 in
    let other : cond {A = ℕ} (t == p) 1 0 ≡ 0 = ap (λ v. cond v 1 0) (ne_eqb t p (λ e. omega arith)) in
    omega (arith, sum_by-cons (λ x. cond (x == p) 1 0) t ts, no_tokens n p ts h both.1)

-- no transition puts tokens past the places
puts_past : (b : List ℕ) (t p : ℕ) → t < count_of (net_of b) → (net_of b).places ≤ p → 0 ≡ tokens_on (transition (net_of b) t) p
puts_past b t p l h = sym (get_or_past (transition (net_of b) t).puts p 0 (omega (arith, ((net_lawful b).each t l).targets_known)))

-- a record that was read, of the transition with the number t
module _ (b : List ℕ) (t : ℕ) (h : t < length (picked b)) where
  tells_some : (x : Read) → reading (record_at b (slice_index (picked b) t)) ≡ moves x.place x.label x.targets.now → Tells b t (Some x)
  tells_some x e =
      let n = (net_of b).places in
      let ts = x.targets.now in
      let placed = (found b t h).placed in
      let is : transition_of n (moves x.place x.label ts) ≡ transition (net_of b) t = ap (transition_of n) (sym e) ∙ sym (net_at b t h) in
      let same : placed.move.targets ≡ ts = cc (e, placed.move.is) in
      let known : below n ts ≡ true = ap (below n) (sym same) ∙ placed.targets_known in
      let numbered : t < count_of (net_of b) = omega (arith, count_is b) in
      record {
        place = ap (λ x. x.place) is;
        label = ap (λ x. x.label) is;
        total = sym (sum_tokens n ts known) ∙ ap total_of is;
        tokens = λ p. ⊎_elim
            (λ l. sym (get_or-map-range_with_len (tokens_to ts) 0 n p p 0 l (omega arith)) ∙ ap (λ x. tokens_on x p) is)
            (λ g. no_tokens n p ts g known ∙ puts_past b t p numbered g)
            (cases_lt p n);
      }

-- ## By the table of record numbers that a file net keeps

module _ (b starts : List ℕ) (count : ℕ) (tied : take count starts ≡ picked b) (few : count ≤ length starts) where
  length_picked : count ≡ length (picked b)
  length_picked = omega (arith, ap length tied, length-take count starts)

  pub table_count : count ≡ count_of (net_of b)
  table_count = length_picked ∙ sym (count_is b)

  -- the number k of the record of transition t
  module _ (t k : ℕ) (h : t < count) (k_is : k ≡ slice_index starts t) where
    numbered : t < length (picked b)
    numbered = omega (arith, length_picked)

    start_is : k ≡ slice_index (picked b) t
    start_is = k_is ∙ sym (get_or-take count starts t 0 h) ∙ ap (λ xs. slice_index xs t) tied

    pub start_inside : record_size * k + record_size ≤ length b
    start_inside = omega (arith, (found b t numbered).inside, start_is)

    module _ (r : List ℕ) (e : r ≡ record_at b k) where
      at_start : r ≡ record_at b (slice_index (picked b) t)
      at_start = e ∙ ap (record_at b) start_is

      pub start_reads : is_transition (reading r) ≡ true
      start_reads = ap (λ r. is_transition (reading r)) at_start ∙ ap is_transition (found b t numbered).placed.move.is

      pub start_tells : (x : Read) → reading r ≡ moves x.place x.label x.targets.now → Tells b t (Some x)
      start_tells x value = tells_some b t numbered x (ap reading (sym at_start) ∙ value)
