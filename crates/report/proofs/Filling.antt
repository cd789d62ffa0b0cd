-- The tokens of a file, put on a bench record by record.
use Rattle.std.proofs.Common.{◌≡◌, ℕ, zero, suc, ◌+◌, ◌≤◌, cond, eqb, List, [], ◌∷◌, map, Some, None, Result, sum, sym, refl, ap, ◌∙◌, subst, ap₂, inl, inr, arith}
use Rattle.std.specs.List.{range_with_len}
use Rattle.net.specs.Meaning.{Meaning}
use Rattle.net.specs.Limits.{most_tokens}
use Rattle.net.specs.declared.Net.{Ghosts}
use Rattle.net.specs.Lists.{zeros}
use Rattle.net.specs.Markings.{more}
use Rattle.net.specs.Refusals.{Row, First, Free}
use Rattle.net.specs.declared.refusal.Fault.{Fault}
use Rattle.records.specs.declared.tokens.Tokens.{Tokens}
use Rattle.records.specs.File.{net_of}
use Rattle.records.specs.Crews.{crew_after, Put as PutBy}
use Rattle.crews.specs.Crews.{Crews, on_side, with_side, nobody}
use Rattle.crews.specs.Calls.{Meets}
use Rattle.crews.specs.Tally.{Step, refused, put}
use Rattle.crews.specs.Benches.{crews_held, Steps}
use Rattle.crews.specs.declared.bench.Bench.{Bench}
use Rattle.crews.specs.declared.call.Call.TheVariants.{Put}
use Rattle.crews.specs.declared.call.Answer.{Answer}
use Rattle.report.specs.Reports.{crews_after}

map_zero : (a n : ℕ) → map {B = ℕ} (λ p. 0) (range_with_len a n) ≡ zeros n
map_zero a zero = refl
map_zero a (suc n) = ap (λ xs. 0 ∷ xs) (map_zero (a + 1) n)

-- before the first record there is no token
pub crews_none : (bytes : List ℕ) → nobody (net_of bytes).places ≡ crews_after bytes 0
crews_none bytes = ap (λ xs. record { left = xs; right = xs }) (sym (map_zero 0 (net_of bytes).places))

-- a record that puts no tokens
pub crews_same : (bytes : List ℕ) (k : ℕ) → PutBy bytes k None → crews_after bytes (k + 1) ≡ crews_after bytes k
crews_same bytes k p = ap₂ (λ l r. record { left = l; right = r }) (p.next 0) (p.next 1)

-- the crews with n tokens more on place p of side s
abbrev with_more : Crews → ℕ → ℕ → ℕ → Crews
with_more c s p n = with_side c s (more (on_side c s) p n)

module _ (bytes : List ℕ) (k : ℕ) where
  abbrev Adds : ℕ → ℕ → ℕ → Type 0
  Adds s p n = (side : ℕ) → crew_after bytes side (k + 1) ≡ cond (eqb s side) (more (crew_after bytes side k) p n) (crew_after bytes side k)

  added_crews : (s p n : ℕ) → s ≤ 1 → Adds s p n → crews_after bytes (k + 1) ≡ with_more (crews_after bytes k) s p n
  added_crews zero p n l next = ap₂ (λ l r. record { left = l; right = r }) (next 0) (next 1)
  added_crews (suc zero) p n l next = ap₂ (λ l r. record { left = l; right = r }) (next 0) (next 1)
  added_crews (suc (suc s)) p n l next = absurd (omega arith)

  added_light : (s p n : ℕ) → s ≤ 1 → Adds s p n → ((side : ℕ) → side ≤ 1 → sum (crew_after bytes side (k + 1)) ≤ most_tokens) → sum (more (on_side (crews_after bytes k) s) p n) ≤ most_tokens
  added_light zero p n l next light = subst (λ xs. sum xs ≤ most_tokens) (next 0) (light 0 l)
  added_light (suc zero) p n l next light = subst (λ xs. sum xs ≤ most_tokens) (next 1) (light 1 l)
  added_light (suc (suc s)) p n l next light = absurd (omega arith)

free_first : (rows : List Row) (f : Fault) → Free rows → First rows f → ⊥
free_first [] f free first = first
free_first (w ∷ rows) f free (inl (met, e)) = free.0 met
free_first (w ∷ rows) f free (inr (unmet, first)) = free_first rows f free.1 first

-- a put that meets no reason to be refused is done
put_done : {m : Meaning} {c : Crews} {s p n : ℕ} {a : Result Answer Fault} {d : Crews} → Free (Meets m c (Put s p n)) → Step m c (Put s p n) a d → d ≡ with_more c s p n
put_done {m} {c} {s} {p} {n} free (refused f first) = absurd (free_first (Meets m c (Put s p n)) f free first)
put_done free (put s p n _) = refl

-- a record that puts tokens, on a bench with the crews of the records before
pub crews_more : {N : Type 0} {G : Ghosts N} (bytes : List ℕ) (k : ℕ) (t : Tokens) (b b' : Bench N G) (a : Result Answer Fault) → PutBy bytes k (Some t)
    → Steps (net_of bytes) b (Put t.side t.place t.count) a b' → crews_held (net_of bytes) b ≡ crews_after bytes k → crews_held (net_of bytes) b' ≡ crews_after bytes (k + 1)
crews_more bytes k t b b' a p steps before =
    let m = net_of bytes in
    let c = crews_after bytes k in
    let light = added_light bytes k t.side t.place t.count p.lawful.side_known p.next p.light in
    let free : Free (Meets m c (Put t.side t.place t.count)) =
    ((λ h. omega (arith, h, p.lawful.side_known)), ((λ h. omega (arith, h, p.lawful.place_known)), ((λ h. omega (arith, h, light)), tt))) in
    put_done free (subst (λ x. Step m x (Put t.side t.place t.count) a (crews_held m b')) before steps.leads) ∙ sym (added_crews bytes k t.side t.place t.count p.lawful.side_known p.next)
