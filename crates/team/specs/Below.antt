-- Tests, searches and sums over the numbers below k.
use Rattle.std.specs.Prelude.{ℕ, zero, suc, ◌+◌, Bool, true, false, cond, ◌&&◌, ◌||◌}

abbrev pub every : ℕ → (ℕ → Bool) → Bool
every zero P = true
every (suc k) P = let rest = every k P in P k && rest

abbrev pub some : ℕ → (ℕ → Bool) → Bool
some zero P = false
some (suc k) P = let rest = some k P in P k || rest

-- the lowest number below k with the property, or k
abbrev pub first : ℕ → (ℕ → Bool) → ℕ
first zero P = 0
first (suc k) P = let f = first k P in cond (P f) f (suc f)

abbrev pub tally : ℕ → (ℕ → ℕ) → ℕ
tally zero f = 0
tally (suc k) f = f k + tally k f
