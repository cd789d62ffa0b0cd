-- The page that a report is written on.
use Rattle.std.specs.Prelude.{ℕ, ◌+◌, ◌≤◌, List, length}
use Rattle.arrayvec.specs.ArrayString.{ArrayString, array_string_len}
use Rattle.report.specs.Text.{report_size}

-- the text fits behind what the page holds
abbrev pub HasRoom : ArrayString → List ℕ → Type 0
HasRoom page text = array_string_len page + length text ≤ report_size
