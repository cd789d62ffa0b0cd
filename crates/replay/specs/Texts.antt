-- Calls and their answers as they are printed.
use Rattle.std.specs.Prelude.{ℕ, List, ◌++◌, codes, decimal, Result, Ok, Err}
use Rattle.net.specs.Refusals.{number_of}
use Rattle.net.specs.declared.refusal.Fault.{Fault}
use Rattle.crews.specs.Texts.{call_text, answer_text}
use Rattle.crews.specs.declared.call.Call.{Call}
use Rattle.crews.specs.declared.call.Answer.{Answer}

-- behind the colon: the answer, a refusal by its number
abbrev pub outcome_text : Result Answer Fault → List ℕ
outcome_text (Ok answer) = answer_text answer
outcome_text (Err fault) = codes "refused " ++ decimal (number_of fault.refusal)

abbrev pub line_text : Call → Result Answer Fault → List ℕ
line_text call outcome = call_text call ++ (codes ": " ++ outcome_text outcome)
