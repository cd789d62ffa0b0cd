-- How a fault is written.
use Rattle.std.specs.Prelude.{ℕ, List, [], ◌++◌, Some, None, Option, codes, decimal}
use Rattle.net.specs.declared.refusal.Fault.{Fault}
use Rattle.net.specs.Refusals.{number_of}

-- a space and the spot, where one is named
abbrev pub spot_field : Option ℕ → List ℕ
spot_field None = []
spot_field (Some spot) = codes " " ++ decimal spot

-- the number of the refusal, and behind it the spot where one is named
abbrev pub fault_text : Fault → List ℕ
fault_text fault = decimal (number_of fault.refusal) ++ spot_field fault.spot
