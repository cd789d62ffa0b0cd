-- The stages settle in fewer rounds than there are places.
use Rattle.std.proofs.Common.{◌≡◌, ℕ, zero, suc, ◌<◌, ◌≤◌, Bool, true, false, Decides, sym, refl, inl, inr, arith}
use mathlib.Core.Bool.{beq}
use Rattle.std.proofs.lemmas.Bool.{cases_lt, cases_eq, both_ways}
use Rattle.net.specs.Meaning.{Meaning}
use Rattle.team.specs.Below.{every}
use Rattle.team.specs.Stages.{together, Stable, stable, rounds}
use Rattle.team.proofs.Below.{decides_every, every_fails, first_is, first_one}
use Rattle.team.proofs.Sums.{tally_at}
use Rattle.team.proofs.Partitions.{leads, leaders, leaders_most, splits}
use Rattle.team.proofs.Stages.{together_equivalence, together_falls}

decides_beq : (a b : Bool) → Decides (beq a b) (a ≡ b)
decides_beq true true = (λ _. refl, λ _. refl)
decides_beq true false = (λ e. absurd (both_ways false refl e), λ e. sym e)
decides_beq false true = (λ e. absurd (both_ways false refl e), λ e. e)
decides_beq false false = (λ _. refl, λ _. refl)

-- where a test and a stronger one differ, only the weaker holds
beq_false : (a b : Bool) → beq a b ≡ false → (b ≡ true → a ≡ true) → (a ≡ true) × (b ≡ false)
beq_false true true e h = absurd (both_ways true e refl)
beq_false true false e h = (refl, refl)
beq_false false true e h = absurd (both_ways false refl (h refl))
beq_false false false e h = absurd (both_ways true e refl)

module _ (m : Meaning) where
  abbrev stays : ℕ → ℕ → ℕ → Bool
  stays k p q = beq (together m k p q) (together m (suc k) p q)

  abbrev row_stays : ℕ → ℕ → Bool
  row_stays k p = every m.places (stays k p)

  pub decides_stable : (k : ℕ) → Decides (stable m k) (Stable m k)
  decides_stable k = (
    λ s p q l r. (decides_beq (together m k p q) (together m (suc k) p q)).0 ((decides_every m.places (stays k p)).0 ((decides_every m.places (row_stays k)).0 s p l) q r),
    λ e. (decides_every m.places (row_stays k)).1 (λ p l. (decides_every m.places (stays k p)).1 (λ q r. (decides_beq (together m k p q) (together m (suc k) p q)).1 (e p q l r))),
  )

  -- a stage that is not stable is split by the next
  grows : (k : ℕ) → stable m k ≡ false → leaders m.places (together m k) < leaders m.places (together m (suc k))
  grows k f =
      let (p, l, row) = every_fails m.places (row_stays k) f in
      let (q, r, cell) = every_fails m.places (stays k p) row in
      let (e, d) = beq_false (together m k p q) (together m (suc k) p q) cell (together_falls m k p q) in
      splits m.places (together m k) (together m (suc k)) (together_equivalence m k) (together_equivalence m (suc k)) (together_falls m k) p q l r e d

  many : (k : ℕ) → 0 < m.places → ((i : ℕ) → i < k → stable m i ≡ false) → k < leaders m.places (together m k)
  many zero h _ = tally_at m.places (leads (together m 0)) 0 h
  many (suc k) h f = omega (arith, many k h (λ i l. f i (omega arith)), grows k (f k (omega arith)))

  pub rounds_before : (k : ℕ) → k < rounds m → stable m k ≡ false
  rounds_before = (first_is m.places (stable m)).below

  pub rounds_few : 0 < m.places → rounds m < m.places
  rounds_few h = omega (arith, many (rounds m) h rounds_before, leaders_most m.places (together m (rounds m)))

  pub rounds_most : rounds m ≤ m.places
  rounds_most = (first_is m.places (stable m)).bound

  pub rounds_stable : stable m (rounds m) ≡ true
  rounds_stable =
      elim (cases_lt 0 m.places) [
        | inl h ↦ (first_is m.places (stable m)).here (rounds_few h)
        | inr z ↦ (decides_stable (rounds m)).1 (λ p q l. absurd (omega arith))
      ]

  pub rounds_settle : Stable m (rounds m)
  rounds_settle = (decides_stable (rounds m)).0 rounds_stable

  pub rounds_lowest : (k : ℕ) → k < rounds m → Stable m k → ⊥
  rounds_lowest k l s = both_ways (stable m k) (rounds_before k l) ((decides_stable k).1 s)

  -- a loop that has met no stable stage has not passed the last round
  pub rounds_left : (k : ℕ) → ((i : ℕ) → i < k → stable m i ≡ false) → k ≤ rounds m
  rounds_left k f =
      elim (cases_lt (rounds m) k) [ inl l ↦ absurd (both_ways (stable m (rounds m)) (f (rounds m) l) rounds_stable) | inr w ↦ w ]

  -- and one that meets a stable stage has come to it
  pub rounds_here : (k : ℕ) → ((i : ℕ) → i < k → stable m i ≡ false) → stable m k ≡ true → k ≡ rounds m
  rounds_here k f t =
      first_one m.places (stable m) k (rounds m) (record { bound = omega (arith, rounds_left k f, rounds_most); below = f; here = λ _. t }) (first_is m.places (stable m))

  -- a later stage lies in an earlier one
  pub falls_to : (k j p q : ℕ) → j ≤ k → together m k p q ≡ true → together m j p q ≡ true
  falls_to zero j p q l h = let z : j ≡ 0 = omega arith in rw z h
  falls_to (suc k) j p q l h =
      elim (cases_eq j (suc k)) [ inl e ↦ rw e h | inr d ↦ falls_to k j p q (omega arith) (together_falls m k p q h) ]
