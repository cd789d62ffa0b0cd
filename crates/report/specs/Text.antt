-- The report as text: ASCII lines, each ended by LF, with one blank between fields.
use Rattle.std.specs.Prelude.{ℕ, List, [], ◌∷◌, ◌++◌, Some, None, codes, decimal, Option}
use Rattle.net.specs.Refusals.{number_of}
use Rattle.net.specs.declared.refusal.Fault.{Fault}
use Rattle.crews.specs.declared.swap.Swap.{Swap}
use Rattle.crews.specs.declared.swap.Difference.{Difference}

-- every report fits into so many bytes
abbrev pub report_size : ℕ
report_size = 4096

-- a number behind a blank
abbrev pub field : ℕ → List ℕ
field n = codes " " ++ decimal n

-- an entry of a swap list
abbrev pub swap_line : Swap → List ℕ
swap_line s = decimal s.left ++ (field s.right ++ (field s.count ++ codes "\n"))

abbrev pub swap_lines : List Swap → List ℕ
swap_lines [] = []
swap_lines (s ∷ list) = let rest = swap_lines list in swap_line s ++ rest

-- the crews are ALIKE, with this swap list
abbrev pub alike_text : List Swap → List ℕ
alike_text list = codes "ALIKE\n" ++ swap_lines list

-- the crews are APART, by this difference
abbrev pub apart_text : Difference → List ℕ
apart_text d = codes "APART" ++ (field d.class ++ (field d.left ++ (field d.right ++ codes "\n")))

-- a spot, where a fault names one
abbrev pub spot_field : Option ℕ → List ℕ
spot_field None = []
spot_field (Some spot) = field spot

-- the file is refused, with this fault
abbrev pub refused_text : Fault → List ℕ
refused_text f = codes "REFUSED" ++ (field (number_of f.refusal) ++ (spot_field f.spot ++ codes "\n"))
