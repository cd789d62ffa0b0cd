-- The classes of the last stage are those of bisimilarity.
use Rattle.std.proofs.Common.{◌≡◌, ℕ, ◌<◌, ◌≤◌, cond, ◌↔◌, List, get_or, Decides, sym, refl, ap, ◌∙◌, arith}
use Rattle.std.proofs.lemmas.Bool.Decides.{same_from_decides}
use Rattle.std.proofs.lemmas.Bool.{both_ways}
use Rattle.net.specs.Meaning.{Meaning}
use Rattle.net.specs.Limits.{Lawful}
use Rattle.team.specs.Relations.{EquivalenceOn, among}
use Rattle.team.specs.Markings.{MarkingOf}
use Rattle.team.specs.Closure.{Closure}
use Rattle.team.specs.Teams.{TeamBisimulation, Bisimilar, Paired}
use Rattle.team.specs.Stages.{together, rounds}
use Rattle.team.specs.Classes.{alike, class_of, Lowest, ClassedBy, Even}
use Rattle.team.specs.Theorems.{Largest, CountsTell, EvenIsPaired}
use Rattle.team.proofs.Below.{first_is}
use Rattle.team.proofs.Sums.{tally_cong}
use Rattle.team.proofs.Partitions.{Equivalence, lowest_in, lowest_below, lowest_same, same_lowest}
use Rattle.team.proofs.Closures.{closure_length, closure_even, closure_from_even}
use Rattle.team.proofs.Stages.{together_equivalence, team_in_stage, stage_is_team, among_from, among_parts}
use Rattle.team.proofs.Rounds.{rounds_settle, falls_to}
use Rattle.team.proofs.Tables.{Holds}

pub alike_equivalence : (m : Meaning) → Equivalence (alike m)
alike_equivalence m = together_equivalence m (rounds m)

module _ (m : Meaning) (law : Lawful m) where
  pub alike_team : TeamBisimulation m (among m.places (alike m))
  alike_team = stage_is_team m law (rounds m) (rounds_settle m)

  -- from the last round on, a stage decides bisimilarity
  pub stage_decides : (k p q : ℕ) → rounds m ≤ k → p < m.places → q < m.places → Decides (together m k p q) (Bisimilar m p q)
  stage_decides k p q r l w = (
    λ t. (among m.places (alike m), alike_team, among_from m.places (alike m) p q l w (falls_to m k (rounds m) p q r t)),
    λ (R, team, e). team_in_stage m R team k p q e,
  )

  pub alike_decides : (p q : ℕ) → p < m.places → q < m.places → Decides (alike m p q) (Bisimilar m p q)
  alike_decides p q l w = stage_decides (rounds m) p q (omega arith) l w

  -- bisimilar places are places
  pub bisimilar_known : (p q : ℕ) → Bisimilar m p q → (p < m.places) × (q < m.places)
  bisimilar_known p q (R, team, e) = (team.left_known p q e, team.right_known p q e)

  pub bisimilar_equivalence : EquivalenceOn m.places (Bisimilar m)
  bisimilar_equivalence =
      record {
        reflexive = λ p l. (alike_decides p p l l).0 ((alike_equivalence m).same p);
        symmetric = λ p q b.
            let (l, k) = bisimilar_known p q b in
            (alike_decides q p k l).0 ((alike_equivalence m).back p q ((alike_decides p q l k).1 b));
        transitive = λ p q r a b.
            let (l, k) = bisimilar_known p q a in
            let (_, w) = bisimilar_known q r b in
            (alike_decides p r l w).0 ((alike_equivalence m).on p q r ((alike_decides p q l k).1 a) ((alike_decides q r k w).1 b));
      }

  pub alike_largest : Largest m (among m.places (alike m))
  alike_largest =
      record {
        tells = λ p q. (
          λ e. (let (l, k, t) = among_parts m.places (alike m) p q e in (alike_decides p q l k).0 t),
          λ b. (let (l, k) = bisimilar_known p q b in among_from m.places (alike m) p q l k ((alike_decides p q l k).1 b)),
        );
        team = alike_team;
        contains = λ S team p q e. among_from m.places (alike m) p q (team.left_known p q e) (team.right_known p q e) (team_in_stage m S team (rounds m) p q e);
      }

  -- ## The names of the classes

  pub class_same : (p q : ℕ) → p < m.places → q < m.places → (class_of m p ≡ class_of m q) ↔ Bisimilar m p q
  class_same p q l w = (
    λ s. (alike_decides p q l w).0 (same_lowest (alike m) (alike_equivalence m) p q s),
    λ b. lowest_same (alike m) (alike_equivalence m) p q ((alike_decides p q l w).1 b),
  )

  pub class_lowest : (p : ℕ) → p < m.places → Lowest m p (class_of m p)
  class_lowest p l =
      let b : class_of m p ≤ p = lowest_below (alike m) (alike_equivalence m) p in
      record {
        most = b;
        near = (alike_decides (class_of m p) p (omega arith) l).0 (lowest_in (alike m) (alike_equivalence m) p);
        below = λ q w s. both_ways (alike m q p) ((first_is p (λ q. alike m q p)).below q w) ((alike_decides q p (omega arith) l).1 s);
      }

  -- a list that holds the last stage has the class of each place
  pub holds_classes : (cs : List ℕ) → Holds m (rounds m) cs → ClassedBy m cs
  holds_classes cs h =
      record {
        same_class = λ p q l w. (
          λ e. (class_same p q l w).0 (sym (h p l) ∙ e ∙ h q w),
          λ b. h p l ∙ (class_same p q l w).1 b ∙ sym (h q w),
        );
        lowest = λ p l. rw (h p l) (class_lowest p l);
      }

  -- ## The tokens in a class

  pub counts_tell : (xs : List ℕ) (c : ℕ) → c < m.places → CountsTell m xs c
  counts_tell xs c l =
      record {
        counts = record { test = alike m c; tells = λ q k. alike_decides c q l k; counted = refl };
        alone = λ k I. I.counted ∙ tally_cong m.places (λ q. cond (I.test q) (get_or xs q 0) 0) (λ q. cond (alike m c q) (get_or xs q 0) 0)
            (λ q w. ap (λ b. cond b (get_or xs q 0) 0) (same_from_decides (I.test q) (alike m c q) (I.tells q w) (alike_decides c q l w)));
      }

  pub paired_even : (xs ys : List ℕ) → Paired m xs ys → Even m xs ys
  paired_even xs ys (R, team, rel) c _ = closure_even m.places R (alike m) (alike_equivalence m) (team_in_stage m R team (rounds m)) rel c

  pub paired_known : (xs ys : List ℕ) → Paired m xs ys → MarkingOf m xs × MarkingOf m ys
  paired_known xs ys (R, team, rel) = closure_length m.places R rel

  pub even_closed : (xs ys : List ℕ) → MarkingOf m xs → MarkingOf m ys → Even m xs ys → Closure m.places (among m.places (alike m)) xs ys
  even_closed xs ys a b even =
      closure_from_even m.places (alike m) (among m.places (alike m)) (alike_equivalence m) (among_from m.places (alike m)) xs ys a b even

  pub even_paired : (xs ys : List ℕ) → MarkingOf m xs → MarkingOf m ys → Even m xs ys → Paired m xs ys
  even_paired xs ys a b even = (among m.places (alike m), alike_team, even_closed xs ys a b even)

  pub even_is_paired : (xs ys : List ℕ) → MarkingOf m xs → MarkingOf m ys → EvenIsPaired m xs ys
  even_is_paired xs ys a b =
      record {
        closed = (λ rel. paired_even xs ys (among m.places (alike m), alike_team, rel), even_closed xs ys a b);
        paired = (paired_even xs ys, even_paired xs ys a b);
      }

  pub paired_turned : (xs ys : List ℕ) → Paired m xs ys → Paired m ys xs
  paired_turned xs ys pair =
      let (a, b) = paired_known xs ys pair in even_paired ys xs b a (λ c l. sym (paired_even xs ys pair c l))
