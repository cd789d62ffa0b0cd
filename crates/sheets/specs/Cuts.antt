-- A cut: four lines more, and a block parted in two.
use Rattle.std.specs.Prelude.{◌≡◌, ◌↔◌, ℕ, ◌+◌, ◌<◌, ◌≤◌, Bool, IsTrue, if◌then◌else◌, ◌≢◌, ◌⊎◌, List, slice_index}
use Rattle.formulas.specs.Lines.{line_at}
use Rattle.formulas.specs.declared.line.Line.{Line}
use Rattle.sheets.specs.declared.cut.Cut.{Cut}
use Rattle.sheets.specs.Blocks.{in_block}
use Rattle.sheets.specs.Doing.{Answers}
use Rattle.sheets.specs.Lines.{negated, joint}

-- From the cut's number on stand its line, the negation, and each of the two with the block's line; the others are as they were.
pub record FourMore (c : Cut) (old new : List Line) : Type 0 where
  pub before : (i : ℕ) → i < c.first → line_at new i ≡ line_at old i
  pub first : line_at new c.first ≡ c.line
  pub second : line_at new (c.first + 1) ≡ negated c.first
  pub third : line_at new (c.first + 2) ≡ joint c.first c.block
  pub fourth : line_at new (c.first + 3) ≡ joint (c.first + 1) c.block
  pub later : (i : ℕ) → c.first + 4 ≤ i → line_at new i ≡ line_at old i

-- place q goes to x: one of the cut's block to the third line of the cut if it answers the cut's line, else to the fourth; another stays
abbrev pub MovedTo : Cut → ℕ → ℕ → Type 0
MovedTo c q x =
    let cs = c.blocks.now.lines in
    ((slice_index cs q ≢ c.block) × (x ≡ slice_index cs q))
    ⊎ ((slice_index cs q ≡ c.block)
    × ((w : Bool) × (IsTrue w ↔ Answers c.snapshot.now (in_block cs) c.line q) × (x ≡ (if w then c.first + 2 else c.first + 3))))
