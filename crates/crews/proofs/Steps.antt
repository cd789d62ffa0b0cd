-- How each call of the bench ends.
use Rattle.std.proofs.Common.{◌≡◌, ℕ, ◌+◌, ◌-◌, ◌<◌, ◌≤◌, List, ◌++◌, length, get_or, set, Ok, Err, Result, sum, sym, refl, ap, ◌∙◌, subst, inl, arith}
use Rattle.net.specs.Meaning.{Meaning, transition, count_of, total_of}
use Rattle.net.specs.Limits.{Lawful}
use Rattle.net.specs.declared.Net.{Ghosts}
use Rattle.net.specs.Markings.{more, fewer, fired}
use Rattle.net.specs.Refusals.{Row, First, Free, plain}
use Rattle.net.specs.declared.refusal.Fault.{Fault}
use Rattle.net.specs.declared.refusal.Refusal.TheVariants.{TooFewTokens, TooManyTokens}
use Rattle.net.proofs.Markings.{sum_more, sum_fired}
use Rattle.net.proofs.Refusals.{first_front, first_back, free_append}
use Rattle.crews.specs.Crews.{Crews, on_side, with_side}
use Rattle.crews.specs.Calls.{unknown, lacking, not_ready, crowded, Meets}
use Rattle.crews.specs.Tally.{Step, refused, put, taken, moved, counted}
use Rattle.crews.specs.Sides.{side_number}
use Rattle.crews.specs.Benches.{crews_held, Steps, Ready, Replaced, table_on}
use Rattle.crews.specs.declared.bench.Bench.{Bench}
use Rattle.crews.specs.declared.crew.Crew.{Crew}
use Rattle.crews.specs.declared.side.Side.{Side}
use Rattle.crews.specs.declared.side.Side.TheVariants.{Left, Right}
use Rattle.crews.specs.declared.call.Call.{Call}
use Rattle.crews.specs.declared.call.Call.TheVariants.{Put, Take, Fire, Count}
use Rattle.crews.specs.declared.call.Answer.{Answer}
use Rattle.crews.specs.declared.call.Answer.TheVariants.{Done, Tokens}
use Rattle.crews.proofs.Tables.{Holds, Shows, holds_get_or, holds_sum, holds_set, holds_fired, held_is, shows_side, shows_with}

-- ## Refused

pub stays : {N : Type 0} {G : Ghosts N} (m : Meaning) (b : Bench N G) (call : Call) (f : Fault) → First (Meets m (crews_held m b) call) f → Steps m b call (Err f) b
stays m b call f first = record { same = refl; leads = refused f first }

-- a side that is named and a number below the count meet no reason
pub free_known : (n s i : ℕ) (side : Side) → s ≡ side_number side → i < n → Free (unknown n s i)
free_known n s i side es l = ((λ q. omega (arith, q, es, small side)), ((λ q. omega (arith, q, l)), tt))
  where
    small : (side : Side) → side_number side ≤ 1
    small Left = omega arith
    small Right = omega arith

pub unknown_steps : {N : Type 0} {G : Ghosts N} (m : Meaning) (b : Bench N G) (call : Call) (n k s i : ℕ) (rest : List Row) (f : Fault)
    → n ≡ k → Meets m (crews_held m b) call ≡ unknown k s i ++ rest → First (unknown n s i) f → Steps m b call (Err f) b
unknown_steps m b call n k s i rest f en rows first =
    let here : First (unknown k s i) f = subst (λ (j : ℕ). First (unknown j s i) f) en first in
    stays m b call f (subst (λ (ws : List Row). First ws f) (sym rows) (first_front (unknown k s i) rest f here))

-- ## Accepted, and refused by what the table holds: y is the table on the side, x the one that comes in its place

-- a step to the crews that the bench holds then
pub steps_to : {N : Type 0} {G : Ghosts N} (m : Meaning) (b b' : Bench N G) (call : Call) (a : Result Answer Fault) (d : Crews) → b'.net ≡ b.net → Shows m b' d → Step m (crews_held m b) call a d
    → Steps m b call a b'
steps_to m b b' call a d same shows step = record { same = same; leads = subst (Step m (crews_held m b) call a) (held_is m b' d shows) step }

module _ {N : Type 0} {G : Ghosts N} (m : Meaning) (b : Bench N G) (h : Shows m b (crews_held m b)) (s : ℕ) (side : Side) (y : Crew) (es : s ≡ side_number side) (ey : y ≡ table_on b side) where
  abbrev c : Crews
  c = crews_held m b

  held_side : Holds m.places y.counts (on_side c s)
  held_side = shows_side m b s side y c es ey h

  same_get_or : (p : ℕ) → p < m.places → get_or y.counts p 0 ≡ get_or (on_side c s) p 0
  same_get_or p l = holds_get_or m.places y.counts (on_side c s) p held_side l

  sum_with : (p k : ℕ) → p < m.places → sum (more (on_side c s) p k) ≡ sum y.counts + k
  sum_with p k l = omega (arith, sum_more (on_side c s) p k (omega (arith, held_side.each, l)), holds_sum m.places y.counts (on_side c s) held_side)

  sum_after : (t : ℕ) → Lawful m → t < count_of m → sum (fired m t y.counts) ≡ sum (fired m t (on_side c s))
  sum_after t law known = holds_sum m.places (fired m t y.counts) (fired m t (on_side c s)) (holds_fired m t y.counts (on_side c s) law known held_side)

  -- a table that was changed on one place
  shows_set : (b' : Bench N G) (x : Crew) (p old new : ℕ) → Replaced b side x b' → x.counts ≡ set y.counts p old → old ≡ new → p < m.places → Shows m b' (with_side c s (set (on_side c s) p new))
  shows_set b' x p old new r e same l =
      shows_with m b b' s side x c (set (on_side c s) p new) es r h
      (subst (λ xs. Holds m.places xs (set (on_side c s) p new)) (sym (e ∙ ap (set y.counts p) same)) (holds_set m.places y.counts (on_side c s) p new held_side l))

  -- ### Put

  pub put_refused : (p k : ℕ) (f : Fault) → f ≡ plain TooManyTokens → p < m.places → 4096 < sum y.counts + k → Steps m b (Put s p k) (Err f) b
  put_refused p k f ef l many = stays m b (Put s p k) f
      (first_back (unknown m.places s p) (crowded (more (on_side c s) p k)) f (free_known m.places s p side es l)
      (inl (omega (arith, many, sum_with p k l), sym ef)))

  pub put_steps : (b' : Bench N G) (x : Crew) (p k : ℕ) → Replaced b side x b' → x.counts ≡ more y.counts p k → p < m.places → sum y.counts + k ≤ 4096 → Steps m b (Put s p k) (Ok Done) b'
  put_steps b' x p k r e l few =
      steps_to m b b' (Put s p k) (Ok Done) (with_side c s (more (on_side c s) p k)) r.same
      (shows_set b' x p (get_or y.counts p 0 + k) (get_or (on_side c s) p 0 + k) r e (omega (arith, same_get_or p l)) l)
      (put s p k (free_append (unknown m.places s p) (crowded (more (on_side c s) p k)) (free_known m.places s p side es l) ((λ q. omega (arith, q, few, sum_with p k l)), tt)))

  -- ### Take

  pub take_refused : (p k : ℕ) (f : Fault) → f ≡ plain TooFewTokens → p < m.places → get_or y.counts p 0 < k → Steps m b (Take s p k) (Err f) b
  take_refused p k f ef l short = stays m b (Take s p k) f
      (first_back (unknown m.places s p) (lacking (on_side c s) p k) f (free_known m.places s p side es l)
      (inl (omega (arith, short, same_get_or p l), sym ef)))

  pub take_steps : (b' : Bench N G) (x : Crew) (p k : ℕ) → Replaced b side x b' → x.counts ≡ fewer y.counts p k → p < m.places → k ≤ get_or y.counts p 0 → Steps m b (Take s p k) (Ok Done) b'
  take_steps b' x p k r e l enough =
      steps_to m b b' (Take s p k) (Ok Done) (with_side c s (fewer (on_side c s) p k)) r.same
      (shows_set b' x p (get_or y.counts p 0 - k) (get_or (on_side c s) p 0 - k) r e (omega (arith, same_get_or p l)) l)
      (taken s p k (free_append (unknown m.places s p) (lacking (on_side c s) p k) (free_known m.places s p side es l) ((λ q. omega (arith, q, enough, same_get_or p l)), tt)))

  -- ### Count

  pub count_steps : (p k : ℕ) → k ≡ get_or y.counts p 0 → p < m.places → Steps m b (Count s p) (Ok (Tokens k)) b
  count_steps p k e l = record {
    same = refl;
    leads = subst (λ (j : ℕ). Step m c (Count s p) (Ok (Tokens j)) c) (sym (e ∙ same_get_or p l)) (counted s p (free_known m.places s p side es l));
  }

-- ## A transition that may fire: y is the table on its side

pub not_ready_steps : {N : Type 0} {G : Ghosts N} (m : Meaning) (b : Bench N G) (call : Call) (s t : ℕ) (rest : List Row) (f : Fault) → Meets m (crews_held m b) call ≡ not_ready m (crews_held m b) s t ++ rest
    → First (not_ready m (crews_held m b) s t) f → Steps m b call (Err f) b
not_ready_steps m b call s t rest f rows first = stays m b call f (subst (λ (ws : List Row). First ws f) (sym rows) (first_front (not_ready m (crews_held m b) s t) rest f first))

module _ {N : Type 0} {G : Ghosts N} (m : Meaning) (b : Bench N G) {s t : ℕ} {side : Side} {y : Crew} (law : Lawful m) (ready : Ready m b s t side) (ey : y ≡ table_on b side) where
  pub token : 1 ≤ get_or y.counts (transition m t).place 0
  token = rw ey ready.token

  pub sum_ready : length y.counts ≡ 128 → sum (fired m t y.counts) + 1 ≡ sum y.counts + total_of (transition m t)
  sum_ready whole = sum_fired m t y.counts (omega (arith, (law.each t ready.known).place_known, law.few_places, whole)) token

  module _ (h : Shows m b (crews_held m b)) where
    abbrev crews : Crews
    crews = crews_held m b

    pub same_tokens : get_or y.counts (transition m t).place 0 ≡ get_or (on_side crews s) (transition m t).place 0
    same_tokens = same_get_or m b h s side y ready.number ey (transition m t).place (law.each t ready.known).place_known

    pub free_ready : Free (not_ready m crews s t)
    free_ready =
        free_append (unknown (count_of m) s t) (lacking (on_side crews s) (transition m t).place 1)
        (free_known (count_of m) s t side ready.number ready.known)
        ((λ q. omega (arith, q, token, same_tokens)), tt)

    pub sum_side : sum (fired m t y.counts) ≡ sum (fired m t (on_side crews s))
    sum_side = sum_after m b h s side y ready.number ey t law ready.known

    pub holds_after : (x : Crew) → x.counts ≡ fired m t y.counts → Holds m.places x.counts (fired m t (on_side crews s))
    holds_after x e =
        subst (λ xs. Holds m.places xs (fired m t (on_side crews s))) (sym e) (holds_fired m t y.counts (on_side crews s) law ready.known (held_side m b h s side y ready.number ey))

    pub fire_crowded : (f : Fault) → f ≡ plain TooManyTokens → 4096 < sum (fired m t y.counts) → Steps m b (Fire s t) (Err f) b
    fire_crowded f ef many =
        stays m b (Fire s t) f (first_back (not_ready m crews s t) (crowded (fired m t (on_side crews s))) f free_ready (inl (omega (arith, many, sum_side), sym ef)))

    pub fire_steps : (b' : Bench N G) (x : Crew) → Replaced b side x b' → x.counts ≡ fired m t y.counts → sum (fired m t y.counts) ≤ 4096 → Steps m b (Fire s t) (Ok Done) b'
    fire_steps b' x r e few =
        steps_to m b b' (Fire s t) (Ok Done) (with_side crews s (fired m t (on_side crews s))) r.same
        (shows_with m b b' s side x crews (fired m t (on_side crews s)) ready.number r h (holds_after x e))
        (moved s t (free_append (not_ready m crews s t) (crowded (fired m t (on_side crews s))) free_ready ((λ q. omega (arith, q, few, sum_side)), tt)))
