-- A list of calls performed one after the other.
use Rattle.std.proofs.Common.{◌≡◌, ℕ, pred, ◌+◌, ◌<◌, ◌≤◌, List, [], ◌∷◌, ◌++◌, length, get_or, take, drop, set, Result, sym, refl, ap, ◌∙◌, subst, arith}
use Rattle.std.proofs.lemmas.List.{take_more, take_more_set, drop-set-lt, drop-drop, length-set, length-take}
use Rattle.net.specs.Meaning.{Meaning}
use Rattle.net.specs.declared.Net.{Ghosts}
use Rattle.net.specs.declared.refusal.Fault.{Fault}
use Rattle.crews.specs.Crews.{nobody}
use Rattle.crews.specs.Tally.{Run, begin, then, events}
use Rattle.crews.specs.Benches.{crews_held, Steps, Extends, Led}
use Rattle.crews.specs.declared.bench.Bench.{Bench}
use Rattle.crews.specs.declared.call.Call.{Call}
use Rattle.crews.specs.declared.call.Answer.{Answer}

pub extends : {N : Type 0} {G : Ghosts N} (m : Meaning) (b : Bench N G) (call : Call) (a : Result Answer Fault) (b' : Bench N G) → Steps m b call a b' → Extends m b call a b'
extends m b call a b' steps es run = then (record { call = call; answer = a }) run steps.leads

pub events_push : (calls : List Call) (answers : List (Result Answer Fault)) (c : Call) (a : Result Answer Fault) → length calls ≡ length answers
    → events (calls ++ c ∷ []) (answers ++ a ∷ []) ≡ events calls answers ++ record { call = c; answer = a } ∷ []
events_push [] [] c a e = refl
events_push [] (r ∷ answers) c a e = absurd (omega (arith, e))
events_push (d ∷ calls) [] c a e = absurd (omega (arith, e))
events_push (d ∷ calls) (r ∷ answers) c a e = ap (λ es. record { call = d; answer = r } ∷ es) (events_push calls answers c a (ap pred e))

-- i calls of the list are made, and the answers beyond are as they were
pub record Going {N : Type 0} {G : Ghosts N} (m : Meaning) (calls : List Call) (i : ℕ) (before after : List (Result Answer Fault)) (b : Bench N G) : Type 0 where
  pub led : Led m (take i calls) (take i after) b
  pub whole : length after ≡ length before
  pub rest : drop i after ≡ drop i before

pub going_none : {N : Type 0} {G : Ghosts N} (m : Meaning) (calls : List Call) (before : List (Result Answer Fault)) (b : Bench N G) → crews_held m b ≡ nobody m.places → Going m calls 0 before before b
going_none m calls before b empty = record { led = subst (Run m []) (sym empty) begin; whole = refl; rest = refl }

pub going_more : {N : Type 0} {G : Ghosts N} (m : Meaning) (calls : List Call) (i : ℕ) (before after : List (Result Answer Fault)) (b b' : Bench N G) (d : Call) (a : Result Answer Fault)
    → i < length calls → length calls ≤ length before → Going m calls i before after b → Extends m b (get_or calls i d) a b' → Going m calls (i + 1) before (set after i a) b'
going_more m calls i before after b b' d a h room g more =
    let within : i < length after = omega (arith, g.whole) in
    let es = events (take i calls) (take i after) in
    let even : length (take i calls) ≡ length (take i after) = omega (arith, length-take i calls, length-take i after) in
    let e : events (take (i + 1) calls) (take (i + 1) (set after i a)) ≡ es ++ record { call = get_or calls i d; answer = a } ∷ [] =
    ap (λ xs. events xs (take (i + 1) (set after i a))) (take_more calls i d h)
    ∙ ap (events (take i calls ++ get_or calls i d ∷ [])) (take_more_set after i a within)
    ∙ events_push (take i calls) (take i after) (get_or calls i d) a even in
    record {
      led = subst (λ xs. Run m xs (crews_held m b')) (sym e) (more es g.led);
      whole = length-set after i a ∙ g.whole;
      rest = drop-set-lt (i + 1) after i a (omega arith) ∙ sym (drop-drop 1 i after) ∙ ap (drop 1) g.rest ∙ drop-drop 1 i before;
    }
