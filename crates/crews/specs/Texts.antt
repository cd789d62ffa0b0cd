-- Calls and their answers as they are printed.
use Rattle.std.specs.Prelude.{ℕ, if◌then◌else◌, List, ◌++◌, take, codes, decimal, ◌==◌}
use Rattle.std.specs.List.{flat_map}
use Rattle.crews.specs.declared.call.Call.{Call}
use Rattle.crews.specs.declared.call.Call.TheVariants.{Put, Take, Fire, Follow, Count, Compare}
use Rattle.crews.specs.declared.call.Answer.{Answer}
use Rattle.crews.specs.declared.call.Answer.TheVariants.{Done, Tokens, Followed, Alike, Apart}
use Rattle.crews.specs.declared.swap.Swap.{Swap}
use Rattle.crews.specs.declared.swap.SwapList.{SwapList}
use Rattle.crews.specs.declared.swap.Difference.{Difference}

-- two or three numbers, with a blank between them
abbrev pub two_numbers : ℕ → ℕ → List ℕ
two_numbers a b = decimal a ++ (codes " " ++ decimal b)

abbrev pub three_numbers : ℕ → ℕ → ℕ → List ℕ
three_numbers a b c = decimal a ++ (codes " " ++ two_numbers b c)

-- a call as a script has it: its name and its numbers; a comparison into 256 entries is the plain one
abbrev pub call_text : Call → List ℕ
call_text (Put s p k) = codes "put " ++ three_numbers s p k
call_text (Take s p k) = codes "take " ++ three_numbers s p k
call_text (Fire s t) = codes "fire " ++ two_numbers s t
call_text (Follow s t) = codes "follow " ++ two_numbers s t
call_text (Count s p) = codes "count " ++ two_numbers s p
call_text (Compare room) = if room == 256 then codes "compare" else codes "compare " ++ decimal room

-- an entry of a swap list
abbrev pub swap_text : Swap → List ℕ
swap_text s = three_numbers s.left s.right s.count

-- the verdict ALIKE, and each entry of the swap list on a line of its own
abbrev pub swap_list_text : SwapList → List ℕ
swap_list_text l = codes "ALIKE" ++ flat_map (λ s. codes "\n" ++ swap_text s) (take l.used l.entries)

-- where the crews differ
abbrev pub difference_text : Difference → List ℕ
difference_text d = three_numbers d.class d.left d.right

-- what an accepted call answers
abbrev pub answer_text : Answer → List ℕ
answer_text Done = codes "done"
answer_text (Tokens k) = decimal k
answer_text (Followed u) = decimal u
answer_text (Alike l) = swap_list_text l
answer_text (Apart d) = codes "APART " ++ difference_text d
