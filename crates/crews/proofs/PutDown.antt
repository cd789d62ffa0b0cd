-- The tokens of a transition put down one place after the other.
use Rattle.std.proofs.Common.{◌≡◌, ℕ, ◌+◌, ◌-◌, ◌<◌, ◌≤◌, Bool, true, false, leb, ◌⊎◌, List, length, get_or, take, sum, sym, refl, ap, ◌∙◌, inl, inr, arith, take_all, leb-false, leb-true}
use Rattle.std.proofs.lemmas.List.{length-take}
use Rattle.std.proofs.lemmas.List.Sums.{sum_by_more, sum_by-take-le}
use Rattle.net.specs.Meaning.{Meaning, transition, count_of}
use Rattle.net.specs.Limits.{Lawful}
use Rattle.net.specs.Markings.{more, plus}
use Rattle.net.proofs.Markings.{get_or_le_sum, sum_plus, length_plus, plus_take_none, plus_take_more, plus_take_all}

-- before the place p the tokens are put down, and `left` are left
pub record Going (before puts : List ℕ) (p left : ℕ) (counts : List ℕ) : Type 0 where
  pub so_far : counts ≡ plus before (take p puts)
  pub rest : sum (take p puts) + left ≡ sum puts

pub going_none : (before puts : List ℕ) (left : ℕ) → left ≡ sum puts → Going before puts 0 left before
going_none before puts left e = record { so_far = sym (plus_take_none before puts); rest = omega (arith, e) }

-- while tokens are left, there is a place that gets some
going_within : (before puts : List ℕ) (p left : ℕ) (counts : List ℕ) → Going before puts p left counts → 0 < left → p < length puts
going_within before puts p left counts g some = by_order (leb (length puts) p) refl
  where
    by_order : (v : Bool) → leb (length puts) p ≡ v → p < length puts
    by_order true e = absurd (omega (arith, g.rest, ap sum (take_all p puts (leb-true _ _ e))))
    by_order false e = leb-false _ _ e

going_few : (before puts : List ℕ) (p left : ℕ) (counts : List ℕ) → Going before puts p left counts → p < length puts → get_or puts p 0 ≤ left
going_few before puts p left counts g h = omega (arith, g.rest, sum_by_more (λ x. x) puts p 0 h, sum_by-take-le (λ x. x) puts (p + 1))

going_length : (before puts : List ℕ) (p left : ℕ) (counts : List ℕ) → Going before puts p left counts → length puts ≤ length before → length counts ≡ length before
going_length before puts p left counts g h =
    ap length g.so_far ∙ length_plus before (take p puts) (omega (arith, length-take p puts))

-- what stands on a place never passes what all places hold in the end
going_small : (before puts : List ℕ) (p left : ℕ) (counts : List ℕ) → Going before puts p left counts → p < length counts → p < length puts → get_or counts p 0 + get_or puts p 0 ≤ sum before + sum puts
going_small before puts p left counts g h k =
    let all : sum counts ≡ sum before + sum (take p puts) = ap sum g.so_far ∙ sum_plus before (take p puts) in
    omega (arith, all, g.rest, going_few before puts p left counts g k, get_or_le_sum counts p h)

pub going_more : (before puts : List ℕ) (p left : ℕ) (counts : List ℕ) (tokens added : ℕ) → Going before puts p left counts → p < length before → p < length puts
    → tokens ≡ get_or puts p 0 → added ≡ tokens → Going before puts (p + 1) (left - tokens) (more counts p added)
going_more before puts p left counts tokens added g h k e same = record {
  so_far = ap (more counts p) (same ∙ e) ∙ ap (λ zs. more zs p (get_or puts p 0)) g.so_far ∙ sym (plus_take_more before puts p h k);
  rest = omega (arith, e, g.rest, going_few before puts p left counts g k, sum_by_more (λ x. x) puts p 0 k);
}

going_all : (before puts : List ℕ) (p left : ℕ) (counts : List ℕ) → Going before puts p left counts → length puts ≤ length before → left ≡ 0 → counts ≡ plus before puts
going_all before puts p left counts g h e = g.so_far ∙ plus_take_all before puts p h (omega (arith, g.rest, e))

-- what one more turn may rely on
pub record Turn (puts : List ℕ) (p left : ℕ) (before counts : List ℕ) : Type 0 where
  pub placed : p < length before
  pub target : p < length puts
  pub few : get_or puts p 0 ≤ left
  pub small : get_or counts p 0 + get_or puts p 0 ≤ sum before + sum puts

pub turn : (m : Meaning) (t p left : ℕ) (before counts : List ℕ) → Lawful m → t < count_of m → length before ≡ 128
    → Going before (transition m t).puts p left counts → 0 < left → Turn (transition m t).puts p left before counts
turn m t p left before counts law known whole g some =
    let puts = (transition m t).puts in
    let here : length puts ≤ length before = omega (arith, (law.each t known).targets_known, law.few_places, whole) in
    let target : p < length puts = going_within before puts p left counts g some in
    let counted : p < length counts = omega (arith, target, here, going_length before puts p left counts g here) in
    record {
      placed = omega (arith, target, here);
      target = target;
      few = going_few before puts p left counts g target;
      small = going_small before puts p left counts g counted target;
    }

-- at the last place of the table, or with no token left, all are put down
pub all_down : (m : Meaning) (t p left : ℕ) (before counts : List ℕ) → Lawful m → t < count_of m → length before ≡ 128
    → Going before (transition m t).puts p left counts → (128 ≤ p) ⊎ (left ≡ 0) → counts ≡ plus before (transition m t).puts
all_down m t p left before counts law known whole g end = going_all before puts p left counts g (omega (arith, few, whole)) (none_left end)
  where
    puts : List ℕ
    puts = (transition m t).puts

    few : length puts ≤ 128
    few = omega (arith, (law.each t known).targets_known, law.few_places)

    none_left : (128 ≤ p) ⊎ (left ≡ 0) → left ≡ 0
    none_left (inl over) = omega (arith, g.rest, ap sum (take_all p puts (omega (arith, few, over))))
    none_left (inr e) = e
