-- The line that says what a move does to the blocks cs.
use Rattle.std.specs.Prelude.{◌≡◌, ℕ, ◌<◌, ◌≤◌, List, All, Any, length, slice_index}
use Rattle.net.specs.Limits.{most_places, most_total}
use Rattle.classing.specs.declared.snapshot.Move.{Move}
use Rattle.formulas.specs.Kind.{number_of}
use Rattle.formulas.specs.Lines.{no_pair, pair_at, used_pairs}
use Rattle.formulas.specs.declared.kind.Kind.TheVariants.{Modal}
use Rattle.formulas.specs.declared.line.Line.{Line}
use Rattle.sheets.specs.Blocks.{in_block}
use Rattle.sheets.specs.Doing.{tokens_where, targets_in}

-- a used pair of the line names the line a
abbrev pub Names : Line → ℕ → Type 0
Names l a = Any (λ x. x.line ≡ a) (used_pairs l)

-- the line a is that of the block of some target
abbrev pub BlockOf : List ℕ → List ℕ → ℕ → Type 0
BlockOf cs targets a = (j : ℕ) × (j < most_total) × (slice_index targets j < most_places) × (a ≡ slice_index cs (slice_index targets j))

-- The line has the label and the total of the move, and names the blocks of its first k targets, each with the number of its targets there.
pub record Draws (cs : List ℕ) (this : Move) (k : ℕ) (l : Line) : Type 0 where
  pub modal : l.kind ≡ number_of Modal
  pub label : l.label ≡ this.label
  pub total : l.total ≡ targets_in this.targets
  pub few : l.used ≤ k
  pub long : length l.pairs ≡ most_total
  pub named : All (λ x. BlockOf cs this.targets x.line) (used_pairs l)
  pub counted : All (λ x. x.count ≡ tokens_where (in_block cs) this.targets x.line) (used_pairs l)
  pub all : (j : ℕ) → j < k → slice_index this.targets j < most_places → Names l (slice_index cs (slice_index this.targets j))
  pub rest : (i : ℕ) → l.used ≤ i → pair_at l i ≡ no_pair
