-- The two sides of a bench, and the numbers by which callers name them.
use Rattle.std.specs.Prelude.{◌≡◌, ℕ, ◌<◌, [], ◌∷◌, Ok, Err, Result}
use Rattle.net.specs.Refusals.{when, First}
use Rattle.net.specs.declared.refusal.Refusal.TheVariants.{UnknownSide}
use Rattle.net.specs.declared.refusal.Fault.{Fault}
use Rattle.crews.specs.declared.side.Side.{Side}
use Rattle.crews.specs.declared.side.Side.TheVariants.{Left, Right}

-- the number by which callers name a side
abbrev pub side_number : Side → ℕ
side_number Left = 0
side_number Right = 1

-- the side across
abbrev pub across_from : Side → Side
across_from Left = Right
across_from Right = Left

-- the number s names the side, or it is refused, since it names none
abbrev pub NamesSide : ℕ → Result Side Fault → Type 0
NamesSide s (Ok side) = s ≡ side_number side
NamesSide s (Err f) = First (when UnknownSide (1 < s) ∷ []) f
