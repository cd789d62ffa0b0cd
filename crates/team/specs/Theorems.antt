-- What is proved of team bisimulation, for every net that keeps the limits.
use Rattle.std.specs.Prelude.{◌≡◌, ℕ, ◌*◌, ◌<◌, ◌≤◌, ◌↔◌, List, length, Decides, slice_index}
use Rattle.net.specs.Meaning.{Meaning, count_of}
use Rattle.net.specs.Limits.{Lawful}
use Rattle.team.specs.Relations.{Relation, LiesIn, EquivalenceOn, among}
use Rattle.net.specs.Markings.{fired}
use Rattle.team.specs.Markings.{MarkingOf, Enabled}
use Rattle.team.specs.Closure.{Closure}
use Rattle.team.specs.Teams.{TeamBisimulation, Bisimilar, Paired}
use Rattle.team.specs.Stages.{together, Stable, rounds, group_at}
use Rattle.team.specs.Tables.{table, settled}
use Rattle.team.specs.Classes.{alike, class_of, class_count, Even, Lowest, InClass}
use Rattle.team.specs.Pairings.{Cells, Pairing, Greatest, Greedy, greedy, cells_above}
use Rattle.team.specs.Follow.{Fits}

-- ## Bisimilarity

abbrev pub BisimilarityIsEquivalence : Type 0
BisimilarityIsEquivalence = (m : Meaning) → Lawful m → EquivalenceOn m.places (Bisimilar m)

-- the relation that holds of the bisimilar places is a team bisimulation, and every other lies in it
pub record Largest (m : Meaning) (R : Relation) : Type 0 where
  pub tells : (p q : ℕ) → Decides (R p q) (Bisimilar m p q)
  pub team : TeamBisimulation m R
  pub contains : (S : Relation) → TeamBisimulation m S → LiesIn S R

abbrev pub BisimilarityIsLargest : Type 0
BisimilarityIsLargest = (m : Meaning) → Lawful m → Largest m (among m.places (alike m))

-- ## Stages

abbrev pub TeamsLieInStages : Type 0
TeamsLieInStages = (m : Meaning) (R : Relation) → TeamBisimulation m R → (k : ℕ) → LiesIn R (together m k)

abbrev pub StableStagesAreTeams : Type 0
StableStagesAreTeams = (m : Meaning) → Lawful m → (k : ℕ) → Stable m k → TeamBisimulation m (among m.places (together m k))

-- r is the lowest stage that agrees with the next, and lower than the number of places where there is one
pub record RoundsOf (m : Meaning) (r : ℕ) : Type 0 where
  pub agrees : Stable m r
  pub lowest : (k : ℕ) → k < r → Stable m k → ⊥
  pub few : 0 < m.places → r < m.places

abbrev pub RoundsEnd : Type 0
RoundsEnd = (m : Meaning) → RoundsOf m (rounds m)

-- the tables are the stages, and so is what they end with
pub record TablesShow (m : Meaning) : Type 0 where
  pub stages : (k p : ℕ) → p < m.places → slice_index (table m k) p ≡ group_at m k p
  pub groups : (k p q : ℕ) → p < m.places → q < m.places → Decides (together m k p q) (slice_index (table m k) p ≡ slice_index (table m k) q)
  pub ends : (settled m).groups ≡ table m (rounds m)
  pub after : (settled m).rounds_done ≡ rounds m

abbrev pub TablesAreStages : Type 0
TablesAreStages = (m : Meaning) → TablesShow m

-- ## Classes

-- the classes decide bisimilarity, and so does every stage from the last round on
pub record ClassesDecide (m : Meaning) : Type 0 where
  pub decides : (k p q : ℕ) → rounds m ≤ k → p < m.places → q < m.places → Decides (together m k p q) (Bisimilar m p q)
  pub same_class : (p q : ℕ) → p < m.places → q < m.places → (class_of m p ≡ class_of m q) ↔ Bisimilar m p q
  pub lowest : (p : ℕ) → p < m.places → Lowest m p (class_of m p)

abbrev pub ClassesAlwaysDecide : Type 0
ClassesAlwaysDecide = (m : Meaning) → Lawful m → ClassesDecide m

-- the class counts count what is in a class, and nothing else does
pub record CountsTell (m : Meaning) (xs : List ℕ) (c : ℕ) : Type 0 where
  pub counts : InClass m xs c (class_count m xs c)
  pub alone : (k : ℕ) → InClass m xs c k → k ≡ class_count m xs c

abbrev pub CountsAlwaysTell : Type 0
CountsAlwaysTell = (m : Meaning) → Lawful m → (xs : List ℕ) (c : ℕ) → c < m.places → CountsTell m xs c

-- ## Markings

-- Two markings are related by the closure of bisimilarity, and paired at all, exactly when each class holds equally many tokens of both.
pub record EvenIsPaired (m : Meaning) (xs ys : List ℕ) : Type 0 where
  pub closed : Closure m.places (among m.places (alike m)) xs ys ↔ Even m xs ys
  pub paired : Paired m xs ys ↔ Even m xs ys

abbrev pub ClosureIsEven : Type 0
ClosureIsEven = (m : Meaning) → Lawful m → (xs ys : List ℕ) → MarkingOf m xs → MarkingOf m ys → EvenIsPaired m xs ys

-- the closure of a relation relates two markings exactly when some table pairs them through it
abbrev pub ClosureIsPairing : Type 0
ClosureIsPairing =
    (n : ℕ) (R : Relation) (xs ys : List ℕ) → length xs ≡ n → length ys ≡ n
    → Closure n R xs ys ↔ ((T : Cells) × Pairing n R xs ys T)

-- ## The greatest pairing

-- a table that is greedy by the classes, as the computed one is, is the greatest pairing
pub record GreedyIs (m : Meaning) (xs ys : List ℕ) : Type 0 where
  pub greatest : (T : Cells) → Greedy m.places (alike m) xs ys T → Greatest m xs ys T
  pub computed : Greedy m.places (alike m) xs ys (greedy (alike m) xs ys)

abbrev pub GreedyIsGreatest : Type 0
GreedyIsGreatest = (m : Meaning) → Lawful m → (xs ys : List ℕ) → Even m xs ys → GreedyIs m xs ys

-- at most two cells for each place are above 0, whatever the relation
abbrev pub GreedyIsShort : Type 0
GreedyIsShort = (n : ℕ) (E : Relation) (xs ys : List ℕ) (T : Cells) → Greedy n E xs ys T → cells_above n T ≤ 2 * n

-- ## Follow

-- While the markings are paired, a transition that can fire on the left has one that fits on the right.
abbrev pub FollowFinds : Type 0
FollowFinds =
    (m : Meaning) → Lawful m → (xs ys : List ℕ) → Paired m xs ys → (t : ℕ) → t < count_of m → Enabled m t xs → (u : ℕ) × Fits m t u ys

-- Whichever fits, the markings after both have fired are paired again.
abbrev pub FollowKeeps : Type 0
FollowKeeps =
    (m : Meaning) → Lawful m → (xs ys : List ℕ) → Paired m xs ys
    → (t u : ℕ) → t < count_of m → Enabled m t xs → Fits m t u ys → Paired m (fired m t xs) (fired m u ys)

-- Paired markings are paired from right to left too, so that the right may begin.
abbrev pub PairsTurn : Type 0
PairsTurn = (m : Meaning) → Lawful m → (xs ys : List ℕ) → Paired m xs ys → Paired m ys xs
