-- The targets of a transition spell its tokens.
use Rattle.std.proofs.Common.{◌≡◌, ℕ, Bool, true, false, cond, eqb, List, length, get_or, sym, refl, ap, ◌∙◌, arith}
use Rattle.std.proofs.lemmas.Bool.{eqb-true, eqb-false, eq-eqb, ne_eqb}
use Rattle.net.specs.Meaning.{Meaning, transition}
use Rattle.net.specs.Limits.{Lawful, most_total}
use Rattle.net.specs.Targets.{spread, filled}
use Rattle.net.proofs.Spreads.{targets_on, length_filled, total_spread, total_few, targets_filled, entry_known}
use Rattle.team.specs.Below.{tally}
use Rattle.team.proofs.Sums.{tally_cong, sum_by_tally}
use Rattle.classing.specs.Targets.{times, Spells}

eqb_turned : (x y : ℕ) → eqb x y ≡ eqb y x
eqb_turned x y = go (eqb y x) refl
  where
    go : (v : Bool) → eqb y x ≡ v → eqb x y ≡ v
    go true e = eq-eqb x y (sym (eqb-true y x e))
    go false e = ne_eqb x y (λ s. eqb-false y x e (sym s))

times_on : (w : ℕ) (xs : List ℕ) (p : ℕ) → length xs ≡ w → times w xs p ≡ targets_on xs p
times_on w xs p e =
    tally_cong w (λ j. cond (eqb p (get_or xs j 0)) 1 0) (λ j. cond (eqb (get_or xs j 0) p) 1 0) (λ j _. ap (λ b. cond b 1 0) (eqb_turned p (get_or xs j 0)))
    ∙ ap (λ k. tally k (λ j. cond (eqb (get_or xs j 0) p) 1 0)) (sym e) ∙ sym (sum_by_tally (λ q. cond (eqb q p) 1 0) xs 0)

pub spells : (m : Meaning) → Lawful m → (t : ℕ) → Spells most_total m.places (transition m t).puts (filled most_total (spread (transition m t) m.places))
spells m law t =
    let this = transition m t in
    let xs = filled most_total (spread this m.places) in
    let long : length xs ≡ most_total = length_filled most_total (spread this m.places) (omega (arith, total_spread m law t, total_few m law t)) in
    record {
      each = λ p h. times_on most_total xs p long ∙ targets_filled most_total m.places p this h (omega (arith, law.few_places));
      known = λ j h. entry_known most_total m.places this j h;
    }
