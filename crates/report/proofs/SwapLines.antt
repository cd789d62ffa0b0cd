-- The lines of a swap list, entry by entry.
use Rattle.std.proofs.Common.{◌≡◌, ℕ, ◌+◌, ◌<◌, List, ◌++◌, length, get_or, drop, ap}
use Rattle.std.proofs.lemmas.List.{drop_more}
use Rattle.crews.specs.declared.swap.Swap.{Swap}
use Rattle.report.specs.Text.{swap_line, swap_lines}

pub swap_lines_step : (xs : List Swap) (i : ℕ) (d : Swap) → i < length xs → swap_lines (drop i xs) ≡ swap_line (get_or xs i d) ++ swap_lines (drop (i + 1) xs)
swap_lines_step xs i d h = ap swap_lines (drop_more xs i d h)
