-- Every report fits into the bytes that the caller has to bring.
use Rattle.std.proofs.Common.{ℕ, zero, suc, All, ◌*◌, ◌^◌, ◌<◌, ◌≤◌, Bool, true, false, cond, ltb, List, [], ◌∷◌, length, get_or, IfSome, Some, None, sum, Option, sym, subst, arith, length-append}
use Rattle.std.proofs.lemmas.List.Elements.{All-nil, All-cons, All-head, All-tail, All-append}
use Rattle.std.proofs.lemmas.Fmt.{length-decimal-le}
use Rattle.std.proofs.lemmas.List.{get_or_past}
use Rattle.net.specs.Meaning.{Meaning}
use Rattle.net.specs.Limits.{Lawful, most_places, most_tokens}
use Rattle.net.specs.Refusals.{number_of}
use Rattle.net.specs.declared.refusal.Refusal.{Refusal}
use Rattle.net.specs.declared.refusal.Fault.{Fault}
use Rattle.net.proofs.Markings.{get_or_le_sum}
use Rattle.team.specs.Pairings.{Cells}
use Rattle.team.proofs.Sums.{tally_front}
use Rattle.crews.specs.Crews.{Crews}
use Rattle.crews.specs.Swaps.{swap_at, row_swaps, swaps}
use Rattle.crews.specs.Verdicts.{AlikeBy}
use Rattle.crews.specs.declared.swap.Swap.{Swap}
use Rattle.crews.specs.declared.swap.Difference.{Difference}
use Rattle.report.specs.Text.{report_size, field, swap_line, swap_lines, alike_text, apart_text, spot_field, refused_text}

-- ## Swap lists within the limits

-- An entry within the limits: two places, and no more tokens than a crew holds.
pub record Small (s : Swap) : Type 0 where
  pub left : s.left < most_places
  pub right : s.right < most_places
  pub count : s.count ≤ most_tokens

module _ (T : Cells) (n : ℕ) (few : n ≤ most_places) (cell : (p q : ℕ) → p < n → q < n → T p q ≤ most_tokens) where
  small_swap : (p q : ℕ) → p < n → q < n → All Small (swap_at T p q)
  small_swap p q l k = by_test (ltb 0 (T p q))
    where
      by_test : (b : Bool) → All Small (cond b (record { left = p; right = q; count = T p q } ∷ []) [])
      by_test true = All-cons Small _ [] (record { left = omega arith; right = omega arith; count = cell p q l k }) (All-nil Small)
      by_test false = All-nil Small

  small_row : (p q : ℕ) → p < n → q ≤ n → All Small (row_swaps T p q)
  small_row p zero l k = All-nil Small
  small_row p (suc q) l k = All-append Small (row_swaps T p q) (swap_at T p q) (small_row p q l (omega arith)) (small_swap p q l (omega arith))

  pub small_swaps : (p : ℕ) → p ≤ n → All Small (swaps T n p)
  small_swaps zero l = All-nil Small
  small_swaps (suc p) l = All-append Small (swaps T n p) (row_swaps T p n) (small_swaps p (omega arith)) (small_row p n (omega arith) (omega arith))

-- ## How long a line gets

abbrev most_line : ℕ
most_line = 13

line_short : (s : Swap) → Small s → length (swap_line s) ≤ most_line
line_short s small =
    simp length-append (grind (arith, small.left, small.right, small.count, length-decimal-le 3 s.left, length-decimal-le 3 s.right, length-decimal-le 4 s.count))

lines_short : (list : List Swap) → All Small list → length (swap_lines list) ≤ most_line * length list
lines_short [] u = omega arith
lines_short (s ∷ list) u = omega (arith, length-append (swap_line s) (swap_lines list), line_short s (All-head Small s list u), lines_short list (All-tail Small s list u))

-- a list of at most so many entries, all within the limits
alike_short : (list : List Swap) → All Small list → length list ≤ 2 * most_places → length (alike_text list) ≤ report_size
alike_short list small few = omega (arith, lines_short list small)

-- ## The three texts

pub get_or_small : (xs : List ℕ) (p : ℕ) → get_or xs p 0 ≤ sum xs
get_or_small xs p = grind (arith, get_or_le_sum xs p, get_or_past xs p 0)

pub alike_fits : (m : Meaning) → Lawful m → (c : Crews) → sum c.left ≤ most_tokens → (list : List Swap) → AlikeBy m c list → length (alike_text list) ≤ report_size
alike_fits m law c light list alike =
    let n = m.places in
    let T = alike.table in
    let cell : (p q : ℕ) → p < n → q < n → T p q ≤ most_tokens =
    λ p q l k. omega (arith, light, tally_front n q (T p) k, alike.greatest.pairs.pairing.rows p l, get_or_small c.left p) in
    alike_short list (subst (All Small) (sym alike.listed) (small_swaps T n law.few_places cell n (omega arith))) (omega (arith, alike.short, law.few_places))

-- a number of 64 bits behind a blank
field_short : (n : ℕ) → n < 2 ^ 64 → length (field n) ≤ 21
field_short n h = grind (arith, length-decimal-le 20 n)

pub apart_fits : (d : Difference) → d.class < 2 ^ 64 → d.left < 2 ^ 64 → d.right < 2 ^ 64 → length (apart_text d) ≤ report_size
apart_fits d a b c = simp length-append (omega (arith, field_short d.class a, field_short d.left b, field_short d.right c))

number_small : (r : Refusal) → number_of r ≤ 13
number_small r = grind arith

spot_short : (spot : Option ℕ) → IfSome spot (λ k. k < 2 ^ 64) → length (spot_field spot) ≤ 21
spot_short None h = omega arith
spot_short (Some k) h = field_short k h

pub refused_fits : (f : Fault) → IfSome f.spot (λ k. k < 2 ^ 64) → length (refused_text f) ≤ report_size
refused_fits f h =
    simp length-append (omega (arith, field_short (number_of f.refusal) (omega (arith, number_small f.refusal)), spot_short f.spot h))
