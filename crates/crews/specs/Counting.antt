-- Tokens counted by the class of their place.
use Rattle.std.specs.Prelude.{◌≡◌, ℕ, ◌<◌, cond, ◌≢◌, List, length, Some, None, Option, ◌==◌, slice_index}
use Rattle.team.specs.Below.{tally}
use Rattle.crews.specs.declared.crewed.Crewed.{Crewed}
use Rattle.crews.specs.declared.swap.Difference.{Difference}

-- how many tokens of xs are on the places, of n, whose class is c
abbrev pub in_class : ℕ → List ℕ → List ℕ → ℕ → ℕ
in_class n classes xs c = tally n (λ i. cond (c == slice_index classes i) (slice_index xs i) 0)

-- how many places the two crews stand on
abbrev pub places_of : Crewed → ℕ
places_of x = length x.classes.now

-- how many tokens of xs are on those of class c
abbrev pub counted : Crewed → List ℕ → ℕ → ℕ
counted x xs c = in_class (places_of x) x.classes.now xs c

-- the lowest number whose counts differ, or that there is none
pub record DiffersAt (x : Crewed) (d : Difference) : Type 0 where
  pub known : d.class < places_of x
  pub on_left : d.left ≡ counted x x.left.now d.class
  pub on_right : d.right ≡ counted x x.right.now d.class
  pub differ : d.left ≢ d.right
  pub lower : (c : ℕ) → c < d.class → counted x x.left.now c ≡ counted x x.right.now c

abbrev pub Found : Crewed → Option Difference → Type 0
Found x (Some d) = DiffersAt x d
Found x None = (c : ℕ) → c < places_of x → counted x x.left.now c ≡ counted x x.right.now c
