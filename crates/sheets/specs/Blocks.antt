-- The blocks of a sheet in the making: for each place the number of a line, the same for the places of one block.
use Rattle.std.specs.Prelude.{◌≡◌, ℕ, ◌<◌, Bool, List, ◌==◌, slice_index}

-- the place i is in the block of the line a
abbrev pub in_block : List ℕ → ℕ → ℕ → Bool
in_block cs a i = a == slice_index cs i

-- one of the first n places is in the block of the line a
abbrev pub SomeIn : List ℕ → ℕ → ℕ → Type 0
SomeIn cs n a = (q : ℕ) × (q < n) × (slice_index cs q ≡ a)
