-- Tables of 128 entries that hold crews.
use Rattle.std.proofs.Common.{◌≡◌, ℕ, ◌+◌, ◌-◌, ◌<◌, ◌≤◌, List, ◌++◌, length, get_or, take, drop, set, sum, sym, ap, ◌∙◌, ap₂, arith}
use Rattle.std.proofs.lemmas.List.{take_at, take-append-drop, replicate-append-replicate, length-replicate, length-set, get_or_append_left, set-append_left, length-take-le}
use Rattle.std.proofs.Math.Seq.{drop-append_seam}
use Rattle.net.specs.Meaning.{Meaning, transition, count_of}
use Rattle.net.specs.Limits.{Lawful, most_places}
use Rattle.net.specs.declared.Net.{Ghosts}
use Rattle.net.specs.Lists.{zeros, sum_append_zeros}
use Rattle.net.specs.Markings.{fired}
use Rattle.net.proofs.Markings.{fired_append, length_fired}
use Rattle.crews.specs.Crews.{Crews, on_side, with_side}
use Rattle.crews.specs.Sides.{side_number}
use Rattle.crews.specs.Tables.{EndsAt}
use Rattle.crews.specs.Benches.{crews_held, table_on, Replaced}
use Rattle.crews.specs.declared.bench.Bench.{Bench}
use Rattle.crews.specs.declared.crew.Crew.{Crew}
use Rattle.crews.specs.declared.side.Side.{Side}
use Rattle.crews.specs.declared.side.Side.TheVariants.{Left, Right}

-- ## One table

-- A table holds a crew of n places: the crew's counts, and 0 beyond.
pub record Holds (n : ℕ) (table crew : List ℕ) : Type 0 where
  pub each : length crew ≡ n
  pub shown : table ≡ crew ++ zeros (most_places - n)

-- a table that ends at n places holds its front
pub holds_front : (n : ℕ) (table : List ℕ) → n ≤ 128 → length table ≡ 128 → EndsAt n table → Holds n table (take n table)
holds_front n table few whole ends = record {
  each = length-take-le n table (omega (arith, few, whole));
  shown = sym (take-append-drop n table) ∙ ap (λ zs. take n table ++ zs) ends;
}

-- it ends there, and its front is the crew
pub holds_ends : (n : ℕ) (table crew : List ℕ) → Holds n table crew → EndsAt n table
holds_ends n table crew h =
    ap (drop n) h.shown ∙ ap (λ (k : ℕ). drop k (crew ++ zeros (128 - n))) (sym h.each) ∙ drop-append_seam crew (zeros (128 - n))

pub front_is : (n : ℕ) (table crew : List ℕ) → Holds n table crew → take n table ≡ crew
front_is n table crew h = ap (take n) h.shown ∙ take_at crew _ n h.each

pub holds_nobody : (n : ℕ) (table : List ℕ) → n ≤ 128 → table ≡ zeros 128 → Holds n table (zeros n)
holds_nobody n table few e =
    let whole : n + (128 - n) ≡ 128 = omega arith in
    record { each = length-replicate n 0; shown = e ∙ sym (replicate-append-replicate n (128 - n) 0 ∙ ap zeros whole) }

pub holds_get_or : (n : ℕ) (table crew : List ℕ) (p : ℕ) → Holds n table crew → p < n → get_or table p 0 ≡ get_or crew p 0
holds_get_or n table crew p h l = ap (λ xs. get_or xs p 0) h.shown ∙ get_or_append_left crew (zeros (128 - n)) 0 p (omega (arith, h.each))

pub holds_sum : (n : ℕ) (table crew : List ℕ) → Holds n table crew → sum table ≡ sum crew
holds_sum n table crew h = ap sum h.shown ∙ sum_append_zeros crew (128 - n)

pub holds_set : (n : ℕ) (table crew : List ℕ) (p k : ℕ) → Holds n table crew → p < n → Holds n (set table p k) (set crew p k)
holds_set n table crew p k h l = record {
  each = length-set crew p k ∙ h.each;
  shown = ap (λ xs. set xs p k) h.shown ∙ set-append_left crew (zeros (128 - n)) p k (omega (arith, h.each));
}

pub holds_fired : (m : Meaning) (t : ℕ) (table crew : List ℕ) → Lawful m → t < count_of m → Holds m.places table crew → Holds m.places (fired m t table) (fired m t crew)
holds_fired m t table crew law known h =
    let w = law.each t known in
    let place : (transition m t).place < length crew = omega (arith, w.place_known, h.each) in
    let targets : length (transition m t).puts ≤ length crew = omega (arith, w.targets_known, h.each) in
    record {
      each = length_fired m t crew targets ∙ h.each;
      shown = ap (fired m t) h.shown ∙ fired_append m t crew (zeros (128 - m.places)) place targets;
    }

-- ## The tables of a bench

-- A bench over a net that means m holds the crews c.
pub record Shows {N : Type 0} {G : Ghosts N} (m : Meaning) (b : Bench N G) (c : Crews) : Type 0 where
  pub left : Holds m.places b.left.counts c.left
  pub right : Holds m.places b.right.counts c.right

-- every bench holds the fronts of its tables
pub shows_held : {N : Type 0} {G : Ghosts N} (b : Bench N G) → length b.left.counts ≡ 128 → length b.right.counts ≡ 128 → Shows (G.meaning b.net) b (crews_held (G.meaning b.net) b)
shows_held {N} {G} b wl wr =
    let few = (G.lawful b.net).few_places in
    record { left = holds_front _ b.left.counts few wl b.left_ends; right = holds_front _ b.right.counts few wr b.right_ends }

-- and no other crews
pub held_is : {N : Type 0} {G : Ghosts N} (m : Meaning) (b : Bench N G) (c : Crews) → Shows m b c → c ≡ crews_held m b
held_is m b c h =
    ap₂ (λ (xs ys : List ℕ). record { left = xs; right = ys }) (sym (front_is m.places b.left.counts c.left h.left)) (sym (front_is m.places b.right.counts c.right h.right))

-- the table on the side that the number s names
pub shows_side : {N : Type 0} {G : Ghosts N} (m : Meaning) (b : Bench N G) (s : ℕ) (side : Side) (y : Crew) (c : Crews) → s ≡ side_number side → y ≡ table_on b side → Shows m b c
    → Holds m.places y.counts (on_side c s)
shows_side m b s side y c es ey h = rw (es, ey) (by_side side)
  where
    by_side : (side : Side) → Holds m.places (table_on b side).counts (on_side c (side_number side))
    by_side Left = h.left
    by_side Right = h.right

pub shows_with : {N : Type 0} {G : Ghosts N} (m : Meaning) (b b' : Bench N G) (s : ℕ) (side : Side) (x : Crew) (c : Crews) (xs : List ℕ) → s ≡ side_number side → Replaced b side x b' → Shows m b c
    → Holds m.places x.counts xs → Shows m b' (with_side c s xs)
shows_with m b b' s side x c xs es r h k = rw es (by_side side r)
  where
    by_side : (side : Side) → Replaced b side x b' → Shows m b' (with_side c (side_number side) xs)
    by_side Left r = record { left = rw r.here k; right = rw r.there h.right }
    by_side Right r = record { left = rw r.there h.left; right = rw r.here k }
