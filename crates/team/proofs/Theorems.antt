-- The theorems, as the contracts name them.
use Rattle.std.proofs.Common.{ℕ, List}
use Rattle.net.specs.Meaning.{Meaning}
use Rattle.net.specs.Limits.{Lawful}
use Rattle.team.specs.Classes.{alike, Even}
use Rattle.team.specs.Pairings.{Cells, TeamPairing, Pairing, Greedy, Greatest}
use Rattle.team.specs.Theorems.{
  BisimilarityIsEquivalence,
  BisimilarityIsLargest,
  TeamsLieInStages,
  StableStagesAreTeams,
  RoundsEnd,
  TablesAreStages,
  ClassesAlwaysDecide,
  CountsAlwaysTell,
  ClosureIsEven,
  ClosureIsPairing,
  GreedyIsGreatest,
  GreedyIsShort,
  FollowFinds,
  FollowKeeps,
  PairsTurn,
}
use Rattle.team.proofs.Stages.{team_in_stage, stage_is_team, among_from}
use Rattle.team.proofs.Rounds.{rounds_settle, rounds_lowest, rounds_few}
use Rattle.team.proofs.Tables.{table_holds, table_groups, settled_groups, settled_rounds}
use Rattle.team.proofs.Classes.{
  alike_equivalence,
  alike_decides,
  alike_team,
  bisimilar_equivalence,
  alike_largest,
  stage_decides,
  class_same,
  class_lowest,
  counts_tell,
  even_is_paired,
  paired_turned,
}
use Rattle.team.proofs.Greedy.{greedy_pairs, greedy_first, greedy_is}
use Rattle.team.proofs.Cells.{greedy_short}
use Rattle.team.proofs.Pairings.{closure_pairing, pairing_closure}
use Rattle.team.proofs.Follow as follow

pub bisimilarity_is_equivalence : BisimilarityIsEquivalence
bisimilarity_is_equivalence = bisimilar_equivalence

pub bisimilarity_is_largest : BisimilarityIsLargest
bisimilarity_is_largest = alike_largest

pub teams_lie_in_stages : TeamsLieInStages
teams_lie_in_stages = team_in_stage

pub stable_stages_are_teams : StableStagesAreTeams
stable_stages_are_teams = stage_is_team

pub rounds_end : RoundsEnd
rounds_end m = record { agrees = rounds_settle m; lowest = rounds_lowest m; few = rounds_few m }

pub tables_are_stages : TablesAreStages
tables_are_stages m = record { stages = table_holds m; groups = table_groups m; ends = settled_groups m; after = settled_rounds m }

pub classes_decide : ClassesAlwaysDecide
classes_decide m law = record { decides = stage_decides m law; same_class = class_same m law; lowest = class_lowest m law }

pub counts_are_told : CountsAlwaysTell
counts_are_told = counts_tell

pub closure_is_even : ClosureIsEven
closure_is_even = even_is_paired

pub closure_is_pairing : ClosureIsPairing
closure_is_pairing n R xs ys a b = (closure_pairing n R, pairing_closure n R xs ys a b)

-- a pairing through a team bisimulation is one through the classes
through_classes : (m : Meaning) → Lawful m → (xs ys : List ℕ) (T : Cells) → TeamPairing m xs ys T → Pairing m.places (alike m) xs ys T
through_classes m law xs ys T P =
    record {
      rows = P.pairing.rows;
      columns = P.pairing.columns;
      through = λ p q l k h. (alike_decides m law p q l k).1 (P.relation, P.team, P.pairing.through p q l k h);
    }

greatest : (m : Meaning) → Lawful m → (xs ys : List ℕ) → Even m xs ys → (T : Cells) → Greedy m.places (alike m) xs ys T → Greatest m xs ys T
greatest m law xs ys even T g =
    let P = greedy_pairs m.places (alike m) xs ys T g (alike_equivalence m) even in
    record {
      pairs = record {
        relation = _;
        team = alike_team m law;
        pairing = record { rows = P.rows; columns = P.columns; through = λ p q l k h. among_from m.places (alike m) p q l k (P.through p q l k h) };
      };
      above = λ S s p q l k before differ. greedy_first m.places (alike m) xs ys T g S (through_classes m law xs ys S s) p q l k before differ;
    }

pub greedy_is_greatest : GreedyIsGreatest
greedy_is_greatest m law xs ys even = record { greatest = greatest m law xs ys even; computed = greedy_is m.places (alike m) xs ys }

pub greedy_is_short : GreedyIsShort
greedy_is_short = greedy_short

pub follow_finds : FollowFinds
follow_finds = follow.follow_finds

pub follow_keeps : FollowKeeps
follow_keeps m law xs ys pair t u l on f = follow.follow_keeps m law xs ys pair t l on u f

pub pairs_turn : PairsTurn
pairs_turn = paired_turned
