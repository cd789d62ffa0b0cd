-- What the report call answers, and what it leaves in the caller's bytes.
use Rattle.std.specs.Prelude.{◌≡◌, ℕ, ◌<◌, ◌≤◌, List, [], ◌∷◌, ◌++◌, length, take, drop, Ok, Err, Result}
use Rattle.net.specs.Refusals.{Row, when, First, Free}
use Rattle.net.specs.declared.refusal.Refusal.TheVariants.{ShortList}
use Rattle.net.specs.declared.refusal.Fault.{Fault}
use Rattle.crews.specs.declared.swap.Swap.{Swap}
use Rattle.crews.specs.declared.swap.Verdict.{Verdict}
use Rattle.crews.specs.declared.swap.Verdict.TheVariants.{Alike, Apart}
use Rattle.report.specs.Text.{report_size, alike_text, apart_text, refused_text}
use Rattle.report.specs.Reports.{Reports}

-- ## The call

-- the caller brings room for every report
abbrev pub scant : ℕ → List Row
scant room = when ShortList (room < report_size) ∷ []

-- the text of the report stands at the front of the caller's bytes, and those behind it are as they were
pub record Written (bytes before after : List ℕ) (n : ℕ) : Type 0 where
  pub free : Free (scant (length before))
  pub text : List ℕ
  pub reports : Reports bytes text
  pub count : n ≡ length text
  pub fits : n ≤ report_size
  pub now_is : after ≡ text ++ drop n before

-- refused, and the caller's bytes are as they were
pub record TurnedDown (before after : List ℕ) (f : Fault) : Type 0 where
  pub first : First (scant (length before)) f
  pub same : after ≡ before

abbrev pub Reported : List ℕ → List ℕ → List ℕ → Result ℕ Fault → Type 0
Reported bytes before after (Ok n) = Written bytes before after n
Reported bytes before after (Err f) = TurnedDown before after f

-- ## The verdict behind it

-- the text of a verdict, where the swap list stands at the front of the entries
abbrev pub verdict_text : List Swap → Verdict → List ℕ
verdict_text entries (Alike used) = alike_text (take used entries)
verdict_text entries (Apart d) = apart_text d

-- that text, or the text of the fault where the file is refused
abbrev pub text_of : List Swap → Result Verdict Fault → List ℕ
text_of entries (Ok v) = verdict_text entries v
text_of entries (Err f) = refused_text f

-- the verdict gives the report of the file, and its text is not too long
pub record Judges (bytes : List ℕ) (entries : List Swap) (r : Result Verdict Fault) : Type 0 where
  pub reports : Reports bytes (text_of entries r)
  pub fits : length (text_of entries r) ≤ report_size
