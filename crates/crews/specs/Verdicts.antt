-- What a comparison of two crews says.
use Rattle.std.specs.Prelude.{◌≡◌, ℕ, ◌*◌, ◌<◌, ◌≤◌, ◌≢◌, List, length}
use Rattle.net.specs.Meaning.{Meaning}
use Rattle.team.specs.Teams.{Paired}
use Rattle.team.specs.Classes.{Lowest, InClass}
use Rattle.team.specs.Pairings.{Cells, Greatest}
use Rattle.crews.specs.Crews.{Crews}
use Rattle.crews.specs.Swaps.{swap_list}
use Rattle.crews.specs.declared.swap.Swap.{Swap}
use Rattle.crews.specs.declared.swap.Difference.{Difference}

-- ALIKE: some team bisimulation pairs the crews token for token, and the list is that of the greatest pairing.
pub record AlikeBy (m : Meaning) (c : Crews) (list : List Swap) : Type 0 where
  pub paired : Paired m c.left c.right
  pub table : Cells
  pub greatest : Greatest m c.left c.right table
  pub listed : list ≡ swap_list table m.places
  pub short : length list ≤ 2 * m.places

-- APART: no team bisimulation pairs them, and d is the lowest class that holds more tokens of one than of the other, with both counts.
pub record ApartBy (m : Meaning) (c : Crews) (d : Difference) : Type 0 where
  pub unpaired : ¬ (Paired m c.left c.right)
  pub known : d.class < m.places
  pub named : Lowest m d.class d.class
  pub on_left : InClass m c.left d.class d.left
  pub on_right : InClass m c.right d.class d.right
  pub differ : d.left ≢ d.right
  pub lower : (q k l : ℕ) → q < d.class → InClass m c.left q k → InClass m c.right q l → k ≡ l
