-- What a joined net's transitions are, that it keeps the limits, and which net each of them comes from.
use Rattle.std.specs.Prelude.{◌≡◌, ℕ, ◌+◌, ◌-◌, ◌<◌, ◌≤◌, Bool, true, false, cond, map, length, Some, None, Option, nat_le, refl}
use Rattle.std.proofs.Common.{arith, sym, subst, ◌∙◌, length-append, leb-true, leb-false}
use Rattle.std.proofs.lemmas.List.{get_or_append_left, get_or-append_right, get_or-map, length-map, length-replicate}
use Rattle.std.proofs.lemmas.Bool.{and_parts}
use Rattle.net.specs.Meaning.{Meaning, Transition, transition, idle, count_of, empty}
use Rattle.net.specs.Limits.{Lawful, Within, empty_lawful}
use Rattle.net.specs.Lists.{sum_append_zeros, sum_zeros_append}
use Rattle.net.specs.Joins.{kept, moved, fits, beside, joined}
use Rattle.net.specs.declared.joined.Seam.{Seam}
use Rattle.net.specs.declared.joined.Origin.{Origin}
use Rattle.net.specs.declared.joined.Origin.TheVariants.{Left, Right}

-- ## The transitions of two nets side by side

module _ (a b : Meaning) where
  pub count_beside : count_of (beside a b) ≡ count_of a + count_of b
  count_beside = simp (length-append, length-map) refl

  pub beside_left : (t : ℕ) → t < count_of a → transition (beside a b) t ≡ kept b.places (transition a t)
  beside_left t h =
      let within : t < length (map (kept b.places) a.transitions) = simp length-map h in
      get_or_append_left (map (kept b.places) a.transitions) (map (moved a.places) b.transitions) idle t within
      ∙ get_or-map (kept b.places) a.transitions t idle idle h

  pub beside_right : (t : ℕ) → count_of a ≤ t → t - count_of a < count_of b → transition (beside a b) t ≡ moved a.places (transition b (t - count_of a))
  beside_right t h k =
      get_or-append_right (map (kept b.places) a.transitions) (map (moved a.places) b.transitions) (count_of a) t idle (length-map a.transitions (kept b.places)) h
      ∙ get_or-map (moved a.places) b.transitions (t - count_of a) idle idle k

-- ## The limits

kept_within : (n k : ℕ) (t : Transition) → Within n t → Within (n + k) (kept k t)
kept_within n k t w = record {
  place_known = omega (arith, w.place_known);
  label_small = w.label_small;
  targets_known = simp (length-append, length-replicate) (omega (arith, w.targets_known));
  total_small = omega (arith, sum_append_zeros t.puts k, w.total_small);
}

moved_within : (n k : ℕ) (t : Transition) → Within k t → Within (n + k) (moved n t)
moved_within n k t w = record {
  place_known = omega (arith, w.place_known);
  label_small = w.label_small;
  targets_known = simp (length-append, length-replicate) (omega (arith, w.targets_known));
  total_small = omega (arith, sum_zeros_append n t.puts, w.total_small);
}

beside_within : (a b : Meaning) → Lawful a → Lawful b → (t : ℕ) → t < count_of a + count_of b → Within (a.places + b.places) (transition (beside a b) t)
beside_within a b la lb t h = by_side (nat_le (count_of a) t) refl
  where
    by_side : (v : Bool) → nat_le (count_of a) t ≡ v → Within (a.places + b.places) (transition (beside a b) t)
    by_side true e =
        let ge : count_of a ≤ t = leb-true _ _ e in
        let lt : t - count_of a < count_of b = omega arith in
        subst (Within (a.places + b.places)) (sym (beside_right a b t ge lt)) (moved_within a.places b.places _ (lb.each (t - count_of a) lt))
    by_side false e =
        let lt : t < count_of a = leb-false _ _ e in
        subst (Within (a.places + b.places)) (sym (beside_left a b t lt)) (kept_within a.places b.places _ (la.each t lt))

beside_lawful : (a b : Meaning) → Lawful a → Lawful b → fits a b ≡ true → Lawful (beside a b)
beside_lawful a b la lb e =
    let both = and_parts _ _ e in
    record {
      few_places = leb-true _ _ both.0;
      few_transitions = rw (count_beside a b) (leb-true _ _ both.1);
      each = λ t h. beside_within a b la lb t (rw (count_beside a b) at h);
    }

pub joined_lawful : (a b : Meaning) → Lawful a → Lawful b → Lawful (joined a b)
joined_lawful a b la lb = by_fit (fits a b) refl
  where
    by_fit : (v : Bool) → fits a b ≡ v → Lawful (cond v (beside a b) empty)
    by_fit true e = beside_lawful a b la lb e
    by_fit false e = empty_lawful

-- ## The seam

-- the counts at the seam, told only of two nets that fit
pub record Begins (a b : Meaning) (s : Seam) : Type 0 where
  pub fit : true ≡ fits a b
  pub left_places : s.left_places ≡ a.places
  pub places : s.places ≡ a.places + b.places
  pub left_transitions : s.left_transitions ≡ count_of a
  pub transitions : s.transitions ≡ count_of a + count_of b

-- the seam of two nets, or none where they do not fit
abbrev pub seam_between : Meaning → Meaning → Option Seam
seam_between a b =
    cond (fits a b)
    (Some (record { left_places = a.places; places = a.places + b.places; left_transitions = count_of a; transitions = count_of a + count_of b }))
    None

abbrev pub Seamed : Meaning → Meaning → Option Seam → Type 0
Seamed a b (Some s) = Begins a b s
Seamed a b None = false ≡ fits a b

pub seamed_between : (a b : Meaning) → Seamed a b (seam_between a b)
seamed_between a b = by_fit (fits a b) refl
  where
    by_fit : (v : Bool) → v ≡ fits a b → Seamed a b (cond v (Some (record { left_places = a.places; places = a.places + b.places; left_transitions = count_of a; transitions = count_of a + count_of b })) None)
    by_fit true e = record { fit = e; left_places = refl; places = refl; left_transitions = refl; transitions = refl }
    by_fit false e = e

-- ## Where a transition comes from

-- the transition of the joined net that comes from there
abbrev pub brought : Meaning → Meaning → Option Origin → Transition
brought a b None = idle
brought a b (Some (Left number)) = kept b.places (transition a number)
brought a b (Some (Right number before)) = moved before (transition b number)
