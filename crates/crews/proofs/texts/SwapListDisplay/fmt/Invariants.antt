use Rattle.std.proofs.Common.{◌++◌, take, codes}
use Rattle.std.specs.Fmt.{HasWritten, IsPlainFormatter}
use Rattle.std.specs.List.{flat_map}
use Rattle.crews.specs.Texts.{swap_text}
use Rattle.crews.proofs.texts.SwapListDisplay.fmt.Given as goal

abbrev pub invariant-loop-swap : goal.invariant-loop-swap
invariant-loop-swap g l =
    IsPlainFormatter l.fn.f → HasWritten g.W.Write.write_str_gives l.fn.f
    (codes "ALIKE" ++ flat_map (λ s. codes "\n" ++ swap_text s) (take l.swap-index l.swap-items)) l.f
