-- The report that a comparison gives, and that it fits.
use Rattle.std.proofs.Common.{◌≡◌, ℕ, zero, suc, ◌*◌, ◌^◌, ◌<◌, ◌≤◌, Bool, true, cond, List, ◌++◌, length, get_or, take, drop, IfSome, Some, Ok, Err, sum, Option, Result, sym, ap, ◌∙◌, subst, inl, inr, arith}
use Rattle.std.proofs.lemmas.List.{take_all, take-append-le}
use Rattle.net.specs.Meaning.{Meaning}
use Rattle.net.specs.Limits.{Lawful, most_places, most_tokens}
use Rattle.net.specs.Refusals.{First}
use Rattle.net.specs.declared.refusal.Fault.{Fault}
use Rattle.team.specs.Below.{tally}
use Rattle.team.specs.Classes.{InClass}
use Rattle.records.specs.declared.counts.Counts.{Counts}
use Rattle.records.specs.Layout.{record_count}
use Rattle.records.specs.Entry.{Entry}
use Rattle.records.specs.Check.{checked}
use Rattle.records.specs.Verdict.{Verdict as Found, reasons}
use Rattle.records.specs.File.{sound, net_of}
use Rattle.records.specs.FileLaws.{net_lawful}
use Rattle.records.specs.Crews.{crew_of}
use Rattle.crews.specs.Compares.{Says}
use Rattle.crews.specs.declared.swap.Swap.{Swap}
use Rattle.crews.specs.declared.swap.Verdict.{Verdict}
use Rattle.crews.specs.declared.swap.Verdict.TheVariants.{Alike, Apart}
use Rattle.report.specs.Text.{alike_text}
use Rattle.report.specs.Reports.{Reports, crews_of, refused, alike, apart}
use Rattle.report.specs.Reporting.{Judges}
use Rattle.report.proofs.Fits.{get_or_small, alike_fits, apart_fits, refused_fits}

-- ## The numbers of a difference

tally_small : (n : ℕ) (f : ℕ → ℕ) → ((q : ℕ) → f q ≤ most_tokens) → tally n f ≤ most_tokens * n
tally_small zero f small = omega arith
tally_small (suc n) f small = omega (arith, small n, tally_small n f small)

cond_small : (b : Bool) (n : ℕ) → n ≤ most_tokens → cond b n 0 ≤ most_tokens
cond_small b n h = grind arith

class_small : (m : Meaning) → Lawful m → (xs : List ℕ) (p k : ℕ) → sum xs ≤ most_tokens → InClass m xs p k → k < 2 ^ 64
class_small m law xs p k light there =
    let cell : (q : ℕ) → cond (there.test q) (get_or xs q 0) 0 ≤ most_tokens = λ q. cond_small (there.test q) (get_or xs q 0) (omega (arith, get_or_small xs q)) in
    omega (arith, there.counted, law.few_places, tally_small m.places (λ q. cond (there.test q) (get_or xs q 0) 0) cell)

-- ## The fault of a file

first_spot : (e : Entry) (k : ℕ) (c : Counts) (f : Fault) → First (reasons e k c) f → f.spot ≡ Some k
first_spot e k c f first = grind arith

some_small : (spot : Option ℕ) (k : ℕ) → spot ≡ Some k → k < 2 ^ 64 → IfSome spot (λ i. i < 2 ^ 64)
some_small spot k same small = rw same small

spot_small : (bytes : List ℕ) (f : Fault) → length bytes < 2 ^ 64 → Found bytes (Err f) → IfSome f.spot (λ i. i < 2 ^ 64)
spot_small bytes f short (inl cut) = some_small f.spot (record_count bytes) (ap (λ x. x.spot) cut.fault) (omega arith)
spot_small bytes f short (inr (k, found)) = some_small f.spot k (first_spot _ k _ f found.why) (omega (arith, found.inside))

-- a file that the check refuses
pub judges_refused : (bytes : List ℕ) (entries : List Swap) (f : Fault) → length bytes < 2 ^ 64 → Err f ≡ checked bytes → Found bytes (Err f) → Judges bytes entries (Err f)
judges_refused bytes entries f short is found = record { reports = refused f (sym is); fits = refused_fits f (spot_small bytes f short found) }

-- ## The verdict on a file

front_is : (list before after : List Swap) (used : ℕ) → used ≡ length list → after ≡ list ++ drop used before → take used after ≡ list
front_is list before after used count is =
    ap (take used) is ∙ take-append-le used list (drop used before) (omega arith) ∙ take_all used list (omega arith)

-- an admitted file, compared into a list with room for every net
module _ (bytes : List ℕ) (law : sound bytes ≡ true) (left : sum (crew_of bytes 0) ≤ most_tokens) (right : sum (crew_of bytes 1) ≤ most_tokens) where
  pub judges_compared : (before after : List Swap) (r : Result Verdict Fault) → 2 * most_places ≤ length before → Says (net_of bytes) (crews_of bytes) before after r → Judges bytes after r
  judges_compared before after (Ok (Alike used)) room said =
      let list = said.list in
      let front = front_is list before after used said.count said.now_is in
      record {
        reports = subst (λ l. Reports bytes (alike_text l)) (sym front) (alike list law said.alike);
        fits = omega (arith, ap (λ l. length (alike_text l)) front, alike_fits (net_of bytes) (net_lawful bytes) (crews_of bytes) left list said.alike);
      }
  judges_compared before after (Ok (Apart d)) room said =
      let by = said.apart in
      let lawful = net_lawful bytes in
      record {
        reports = apart d law by;
        fits = apart_fits d (omega (arith, by.known, lawful.few_places)) (class_small (net_of bytes) lawful (crew_of bytes 0) d.class d.left left by.on_left) (class_small (net_of bytes) lawful (crew_of bytes 1) d.class d.right right by.on_right);
      }
  judges_compared before after (Err f) room said =
      elim said.first [ inl met ↦ absurd (omega (arith, met.0, (net_lawful bytes).few_places)) | inr none ↦ absurd none.1 ]
