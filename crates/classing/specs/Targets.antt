-- The tokens that a transition puts down as a list of w targets, one for each token.
use Rattle.std.specs.Prelude.{◌≡◌, ℕ, ◌<◌, cond, ◌⊎◌, List, ◌==◌, slice_index}
use Rattle.net.specs.Targets.{no_target as none}
use Rattle.team.specs.Below.{tally}

-- what stands in the list where there is no token, and for the class of no target
abbrev pub no_target : ℕ
no_target = none

-- how many of the first w entries are v
abbrev pub times : ℕ → List ℕ → ℕ → ℕ
times w xs v = tally w (λ j. cond (v == slice_index xs j) 1 0)

-- each of n places is a target as often as it is put a token, and the other entries are none
pub record Spells (w n : ℕ) (puts targets : List ℕ) : Type 0 where
  pub each : (p : ℕ) → p < n → times w targets p ≡ slice_index puts p
  pub known : (j : ℕ) → j < w → (slice_index targets j < n) ⊎ (slice_index targets j ≡ no_target)
