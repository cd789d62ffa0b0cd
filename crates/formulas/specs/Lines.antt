-- A sheet is a list of lines. Which lines are lawful.
use Rattle.std.specs.Prelude.{◌≡◌, ℕ, zero, suc, ◌<◌, ◌≤◌, if◌then◌else◌, List, [], length, Some, None, Option, ◌==◌, take, slice_index_or}
use Rattle.net.specs.Limits.{most_label, most_total}
use Rattle.formulas.specs.declared.kind.Kind.TheVariants.{Modal}
use Rattle.formulas.specs.declared.line.Line.{Line}
use Rattle.formulas.specs.declared.line.Pair.{Pair}
use Rattle.formulas.specs.Kind.{number_of}

-- a sheet has so many lines at most
abbrev pub most_lines : ℕ
most_lines = 512

abbrev pub no_pair : Pair
no_pair = record { line = 0; count = 0 }

abbrev pub no_line : Line
no_line = record { kind = 0; label = 0; total = 0; used = 0; pairs = [] }

-- the pair of a line with the number k, and the line of a sheet with the number i
abbrev pub pair_at : Line → ℕ → Pair
pair_at l k = slice_index_or l.pairs k no_pair

abbrev pub line_at : List Line → ℕ → Line
line_at sheet i = slice_index_or sheet i no_line

-- the pairs that a line says to use: its first ones, and all where it says more than there are
abbrev pub used_pairs : Line → List Pair
used_pairs l = take l.used l.pairs

-- how many of its pairs a line names, by its kind
abbrev pub uses : ℕ → ℕ → ℕ
uses zero used = 0
uses (suc zero) used = 1
uses (suc (suc zero)) used = 2
uses (suc (suc (suc kind))) used = used

-- only modal lines use the label, the total, the number of pairs and the counts; of the others these are 0
abbrev pub only_modal : ℕ → ℕ → ℕ
only_modal kind most = if kind == number_of Modal then most else 0

-- Pair k of line i: a used one names a line before i and has a count up to `most`, any other is 0.
pub record LawfulPair (i used most k : ℕ) (x : Pair) : Type 0 where
  pub names_lower : k < used → x.line < i
  pub count_small : k < used → x.count ≤ most
  pub no_name : used ≤ k → x.line ≡ 0
  pub no_count : used ≤ k → x.count ≡ 0

-- What stands before the pairs keeps the limits.
pub record LawfulHead (l : Line) : Type 0 where
  pub kind_known : l.kind ≤ 3
  pub label_small : l.label ≤ only_modal l.kind most_label
  pub total_small : l.total ≤ only_modal l.kind most_total
  pub few_used : l.used ≤ only_modal l.kind most_total

-- The pairs that the line l names are lawful at the number i, and the others are 0.
abbrev pub LawfulPairs : ℕ → Line → Type 0
LawfulPairs i l = (k : ℕ) → k < most_total → LawfulPair i (uses l.kind l.used) (only_modal l.kind most_total) k (pair_at l k)

-- The line l may stand at the number i.
pub record LawfulLine (i : ℕ) (l : Line) : Type 0 where
  pub head : LawfulHead l
  pub each_pair : LawfulPairs i l

-- Every line of the sheet may stand where it does, and they are not too many.
pub record LawfulSheet (sheet : List Line) : Type 0 where
  pub few : length sheet ≤ most_lines
  pub each : (i : ℕ) → i < length sheet → LawfulLine i (line_at sheet i)

-- the first line that is not lawful, if there is one
pub record UnlawfulAt (sheet : List Line) (i : ℕ) : Type 0 where
  pub known : i < length sheet
  pub unlawful : ¬ (LawfulLine i (line_at sheet i))
  pub lower : (j : ℕ) → j < i → LawfulLine j (line_at sheet j)

abbrev pub FirstUnlawful : List Line → Option ℕ → Type 0
FirstUnlawful sheet (Some i) = UnlawfulAt sheet i
FirstUnlawful sheet None = (i : ℕ) → i < length sheet → LawfulLine i (line_at sheet i)
