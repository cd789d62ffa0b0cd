-- A transition that fires on one side is followed on the other.
use Rattle.std.proofs.Common.{◌≡◌, ℕ, ◌<◌, List, sym, refl, ap, ◌∙◌, arith}
use Rattle.net.specs.Meaning.{Meaning, transition, count_of}
use Rattle.net.specs.Limits.{Lawful}
use Rattle.net.specs.Markings.{fired}
use Rattle.net.proofs.Markings.{length_fired}
use Rattle.team.specs.Markings.{MarkingOf, token_less, Enabled, held}
use Rattle.team.specs.Teams.{Match, Paired}
use Rattle.team.specs.Classes.{alike, Even}
use Rattle.team.specs.Follow.{Fits}
use Rattle.team.proofs.Partitions.{in_one, one, met, held_less, held_plus}
use Rattle.team.proofs.Stages.{decides_finer}
use Rattle.team.proofs.Rounds.{rounds_settle}
use Rattle.team.proofs.Classes.{alike_equivalence, alike_decides, paired_even, paired_known, even_paired}

module _ (m : Meaning) (law : Lawful m) (xs ys : List ℕ) (pair : Paired m xs ys) (t : ℕ) (l : t < count_of m) (on : Enabled m t xs) where
  -- a token of t's class stands on the other side, and its place has a transition that does what t does
  pub follow_finds : (u : ℕ) × Fits m t u ys
  follow_finds =
      let p = (transition m t).place in
      let known : p < m.places = (law.each t l).place_known in
      let (q, q_known, near, token) = met m.places (alike m) (alike_equivalence m) xs ys p known on (paired_even m law xs ys pair p known) in
      let f : Match m (Even m) t q = ((decides_finer m (alike m) p q).0 (sym (rounds_settle m p q known q_known) ∙ near)).forth t l refl in
      let s : (transition m f.by).place ≡ q = f.from in (
        f.by,
        record {
          known = f.known;
          label = f.label;
          near = rw s ((alike_decides m law p q known q_known).0 near);
          token = rw s token;
          puts = f.puts;
        },
      )

  marking_fired : (v : ℕ) (zs : List ℕ) → v < count_of m → MarkingOf m zs → MarkingOf m (fired m v zs)
  marking_fired v zs w e = length_fired m v zs (omega (arith, (law.each v w).targets_known, e)) ∙ e

  pub follow_keeps : (u : ℕ) → Fits m t u ys → Paired m (fired m t xs) (fired m u ys)
  follow_keeps u f =
      let (a, b) = paired_known m law xs ys pair in
      even_paired m law (fired m t xs) (fired m u ys) (marking_fired t xs l a) (marking_fired u ys f.known b) (λ c w. even_after c w a b)
    where
      even_after : (c : ℕ) → c < m.places → MarkingOf m xs → MarkingOf m ys → held m.places (alike m) (fired m t xs) c ≡ held m.places (alike m) (fired m u ys) c
      even_after c w a b =
          let n = m.places in
          let E = alike m in
          let p = (transition m t).place in
          let q = (transition m u).place in
          let p_known : p < n = (law.each t l).place_known in
          let q_known : q < n = (law.each u f.known).place_known in
          omega (
            arith,
            held_plus n E (token_less p xs) (transition m t).puts c,
            held_plus n E (token_less q ys) (transition m u).puts c,
            held_less n E xs p c p_known (omega arith) on,
            held_less n E ys q c q_known (omega arith) f.token,
            paired_even m law xs ys pair c w,
            f.puts c w,
            ap one (in_one E (alike_equivalence m) p q ((alike_decides m law p q p_known q_known).1 f.near) c),
          )
