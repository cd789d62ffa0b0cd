-- What compare answers, from what its parts found.
use Rattle.std.proofs.Common.{◌≡◌, ℕ, ◌*◌, ◌≤◌, min, List, ◌++◌, length, take, drop, None, Ok, Err, sym, refl, ap, ◌∙◌, subst, inl, inr, append_assoc, arith}
use Rattle.std.proofs.lemmas.List.{take_at}
use Rattle.net.specs.Meaning.{Meaning}
use Rattle.net.specs.Limits.{Lawful}
use Rattle.net.specs.declared.Net.{Ghosts}
use Rattle.net.specs.Refusals.{First, Free}
use Rattle.net.specs.declared.refusal.Fault.{Fault}
use Rattle.crews.specs.Calls.{cramped}
use Rattle.crews.specs.Counting.{places_of, DiffersAt, Found}
use Rattle.crews.specs.Swaps.{swap_list}
use Rattle.crews.specs.Pairs.{table_of}
use Rattle.crews.specs.Tally.{alike, apart, refused}
use Rattle.crews.specs.Benches.{crews_held, Steps, LaidOut}
use Rattle.crews.specs.Verdicts.{AlikeBy, ApartBy}
use Rattle.crews.specs.Compares.{Written, Unwritten, TurnedDown}
use Rattle.crews.specs.declared.bench.Bench.{Bench}
use Rattle.crews.specs.declared.crewed.Crewed.{Crewed}
use Rattle.crews.specs.declared.swap.Swap.{Swap}
use Rattle.crews.specs.declared.swap.Difference.{Difference}
use Rattle.crews.specs.declared.call.Answer.TheVariants.{Alike, Apart}
use Rattle.crews.specs.declared.call.Call.TheVariants.{Compare}
use Rattle.crews.proofs.LayingOut.{laid_is}
use Rattle.crews.proofs.Judging.{judged_alike, judged_apart}

module _ {N : Type 0} {G : Ghosts N} (m : Meaning) (b : Bench N G) (law : Lawful m) (x : Crewed) (laid : LaidOut m b x) (before : List Swap) (room : 2 * m.places ≤ length before) where
  pub says_apart : (d : Difference) → DiffersAt x d → Unwritten m (crews_held m b) before before d
  says_apart d at = record {
    free = ((λ short. omega (arith, short, room)), tt);
    apart = subst (λ a. ApartBy m a d) (laid_is m b x laid) (judged_apart m law x laid.places laid.classed d at);
    same = refl;
  }

  pub says_alike : (used : ℕ) (list : List Swap) → Found x None → list ≡ swap_list (table_of x) (places_of x) → used ≡ length list → Written m (crews_held m b) before (list ++ drop used before) used
  says_alike used list level listed count = record {
    free = ((λ short. omega (arith, short, room)), tt);
    list = list;
    alike = subst (AlikeBy m (crews_held m b)) (sym (listed ∙ ap (λ (k : ℕ). swap_list (table_of x) k) laid.places))
        (subst (λ a. AlikeBy m a (swap_list (table_of x) m.places)) (laid_is m b x laid) (judged_alike m law x laid.places laid.classed level));
    count = count;
    now_is = refl;
  }

-- ## A comparison into the first entries of a list that is long enough is one into a list with that room

module _ {N : Type 0} {G : Ghosts N} (m : Meaning) (b : Bench N G) (room width : ℕ) (wide : 2 * m.places ≤ width) (before after : List Swap) (e : length before ≡ min room width) where
  free_room : Free (cramped m (length before)) → Free (cramped m room)
  free_room free = ((λ short. free.0 (omega (arith, short, e, wide))), tt)

  pub compared_alike : (used : ℕ) (rest entries : List Swap) → Written m (crews_held m b) before after used → entries ≡ after ++ rest → Steps m b (Compare room) (Ok (Alike (record { entries = entries; used = used }))) b
  compared_alike used rest entries w ee =
      let front : take used entries ≡ w.list =
      ap (take used) ee ∙ ap (λ xs. take used (xs ++ rest)) w.now_is ∙ ap (take used) (append_assoc w.list (drop used before) rest) ∙ take_at w.list (drop used before ++ rest) used (sym w.count) in
      record {
        same = refl;
        leads = alike room (record { entries = entries; used = used }) (free_room w.free) (subst (AlikeBy m (crews_held m b)) (sym front) w.alike);
      }

  pub compared_apart : (d : Difference) → Unwritten m (crews_held m b) before after d → Steps m b (Compare room) (Ok (Apart d)) b
  compared_apart d u = record { same = refl; leads = apart room d (free_room u.free) u.apart }

  pub compared_refused : (f : Fault) → TurnedDown m before after f → Steps m b (Compare room) (Err f) b
  compared_refused f refusal = record { same = refl; leads = refused f (as_room refusal.first) }
    where
      as_room : First (cramped m (length before)) f → First (cramped m room) f
      as_room (inl (short, same)) = inl (omega (arith, short, e, wide), same)
      as_room (inr (no_short, none)) = absurd none
