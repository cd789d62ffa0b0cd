-- Pairings of two markings: a number for each left place p and right place q, of the tokens on p that go with tokens on q.
use Rattle.std.specs.Prelude.{◌≡◌, ℕ, zero, suc, ◌+◌, ◌-◌, ◌<◌, min, Bool, true, cond, ◌≢◌, List, nat_lt, slice_index}
use Rattle.net.specs.Meaning.{Meaning}
use Rattle.team.specs.Below.{tally}
use Rattle.team.specs.Relations.{Relation}
use Rattle.team.specs.Teams.{TeamBisimulation}

abbrev pub Cells : Type 0
Cells = ℕ → ℕ → ℕ

-- The rows add up to the left marking and the columns to the right one, and a number above 0 stands only at related places.
pub record Pairing (n : ℕ) (R : Relation) (xs ys : List ℕ) (T : Cells) : Type 0 where
  pub rows : (p : ℕ) → p < n → tally n (T p) ≡ slice_index xs p
  pub columns : (q : ℕ) → q < n → tally n (λ p. T p q) ≡ slice_index ys q
  pub through : (p q : ℕ) → p < n → q < n → 0 < T p q → R p q ≡ true

-- T pairs the two markings through some team bisimulation
pub record TeamPairing (m : Meaning) (xs ys : List ℕ) (T : Cells) : Type 0 where
  pub relation : Relation
  pub team : TeamBisimulation m relation
  pub pairing : Pairing m.places relation xs ys T

-- S and T agree at each cell before (p, q), by left place and then right
pub record AgreeBefore (n : ℕ) (S T : Cells) (p q : ℕ) : Type 0 where
  pub rows_before : (i j : ℕ) → i < p → j < n → S i j ≡ T i j
  pub cells_before : (j : ℕ) → j < q → S p j ≡ T p j

-- Every other such table has a smaller number at the first cell where the two differ.
pub record Greatest (m : Meaning) (xs ys : List ℕ) (T : Cells) : Type 0 where
  pub pairs : TeamPairing m xs ys T
  pub above : (S : Cells) → TeamPairing m xs ys S → (p q : ℕ) → p < m.places → q < m.places
      → AgreeBefore m.places S T p q → S p q ≢ T p q → S p q < T p q

-- how many cells of an n by n table are above 0
abbrev pub cells_above : ℕ → Cells → ℕ
cells_above n T = tally n (λ p. tally n (λ q. cond (nat_lt 0 (T p q)) 1 0))

-- Each cell in turn takes as many as its row and its column have left, if its places are related.
abbrev pub Greedy : ℕ → Relation → List ℕ → List ℕ → Cells → Type 0
Greedy n E xs ys T =
    (p q : ℕ) → p < n → q < n → T p q ≡ cond (E p q) (min (slice_index xs p - tally q (T p)) (slice_index ys q - tally p (λ i. T i q))) 0

-- what a row of x tokens uses before column q, where the columns have so many left
abbrev pub row_used : (ℕ → Bool) → ℕ → (ℕ → ℕ) → ℕ → ℕ
row_used ok x left zero = 0
row_used ok x left (suc q) = let s = row_used ok x left q in s + cond (ok q) (min (x - s) (left q)) 0

-- what the rows before p use of column q
abbrev pub column_used : Relation → List ℕ → List ℕ → ℕ → ℕ → ℕ
column_used E xs ys zero q = 0
column_used E xs ys (suc p) q =
    let left = λ (j : ℕ). slice_index ys j - column_used E xs ys p j in
    column_used E xs ys p q + cond (E p q) (min (slice_index xs p - row_used (E p) (slice_index xs p) left q) (left q)) 0

-- the greedy table, computed
abbrev pub greedy : Relation → List ℕ → List ℕ → Cells
greedy E xs ys p q =
    let left = λ (j : ℕ). slice_index ys j - column_used E xs ys p j in
    cond (E p q) (min (slice_index xs p - row_used (E p) (slice_index xs p) left q) (left q)) 0
