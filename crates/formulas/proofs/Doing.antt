-- What a modal line asks of a transition, as a test.
use Rattle.std.proofs.Common.{◌≡◌, ℕ, ◌<◌, eqb, Decides, refl}
use Rattle.std.proofs.lemmas.Bool.Decides.{Decides-eqb, Decides-and, Decides-like, Decides-below_and, Decides-below_or}
use Rattle.net.specs.Meaning.{Meaning, transition, count_of, total_of}
use Rattle.team.specs.Below.{every, some}
use Rattle.team.specs.Markings.{held}
use Rattle.formulas.specs.declared.line.Line.{Line}
use Rattle.formulas.specs.Lines.{pair_at}
use Rattle.formulas.specs.Truths.{Truths, puts_pair, does}
use Rattle.formulas.specs.Theorems.{Doing, Done}

module _ (m : Meaning) (T : Truths) (l : Line) (p : ℕ) where
  abbrev Puts : ℕ → ℕ → Type 0
  Puts t k = held m.places T (transition m t).puts (pair_at l k).line ≡ (pair_at l k).count

  decides_puts : (t : ℕ) → Decides (every l.used (puts_pair m T l t)) ((k : ℕ) → k < l.used → Puts t k)
  decides_puts t =
      Decides-below_and (puts_pair m T l t) (Puts t) (λ n. every n (puts_pair m T l t))
      (λ k. Decides-eqb (held m.places T (transition m t).puts (pair_at l k).line) (pair_at l k).count) refl (λ _. refl) l.used

  decides_does : (t : ℕ) → Decides (does m T l p t) (Doing m T l p t)
  decides_does t =
      Decides-like (does m T l p t)
      (λ f. record { from = f.0; label = f.1.0; total = f.1.1.0; each = f.1.1.1 })
      (λ d. (d.from, (d.label, (d.total, d.each))))
      (Decides-and (eqb (transition m t).place p) _ (Decides-eqb (transition m t).place p)
      (Decides-and (eqb (transition m t).label l.label) _ (Decides-eqb (transition m t).label l.label)
      (Decides-and (eqb (total_of (transition m t)) l.total) _ (Decides-eqb (total_of (transition m t)) l.total) (decides_puts t))))

  pub decides_done : Decides (some (count_of m) (does m T l p)) (Done m T l p)
  decides_done = Decides-below_or (does m T l p) (Doing m T l p) (λ n. some n (does m T l p)) decides_does refl (λ _. refl) (count_of m)
