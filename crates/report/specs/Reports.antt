-- Which text is the report of a file.
use Rattle.std.specs.Prelude.{◌≡◌, ℕ, true, List, Err}
use Rattle.net.specs.declared.refusal.Fault.{Fault}
use Rattle.records.specs.Check.{checked}
use Rattle.records.specs.File.{sound, net_of}
use Rattle.records.specs.Crews.{crew_after, crew_of}
use Rattle.crews.specs.Crews.{Crews}
use Rattle.crews.specs.Verdicts.{AlikeBy, ApartBy}
use Rattle.crews.specs.declared.swap.Swap.{Swap}
use Rattle.crews.specs.declared.swap.Difference.{Difference}
use Rattle.report.specs.Text.{alike_text, apart_text, refused_text}

-- the two crews after the first k records of a file
abbrev pub crews_after : List ℕ → ℕ → Crews
crews_after bytes k = record { left = crew_after bytes 0 k; right = crew_after bytes 1 k }

-- the two crews of a file
abbrev pub crews_of : List ℕ → Crews
crews_of bytes = record { left = crew_of bytes 0; right = crew_of bytes 1 }

-- The report of a file: its fault, where the check refuses it; otherwise the verdict on its crews, with the swap list or the difference.
pub data Reports (bytes : List ℕ) : List ℕ → Type 0 where
  refused : (f : Fault) → checked bytes ≡ Err f → Reports bytes (refused_text f)
  alike : (list : List Swap) → sound bytes ≡ true → AlikeBy (net_of bytes) (crews_of bytes) list → Reports bytes (alike_text list)
  apart : (d : Difference) → sound bytes ≡ true → ApartBy (net_of bytes) (crews_of bytes) d → Reports bytes (apart_text d)

-- a file has one report
abbrev pub OneText : Type 0
OneText = (bytes text other : List ℕ) → Reports bytes text → Reports bytes other → text ≡ other
