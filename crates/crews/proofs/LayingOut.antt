-- The crews of a bench laid out beside the classes of their places.
use Rattle.std.proofs.Common.{◌≡◌, ℕ, List, ap₂}
use Rattle.net.specs.Meaning.{Meaning}
use Rattle.net.specs.declared.Net.{Ghosts}
use Rattle.crews.specs.Benches.{crews_held, LaidOut}
use Rattle.crews.specs.declared.bench.Bench.{Bench}
use Rattle.crews.specs.declared.crewed.Crewed.{Crewed}
use Rattle.crews.proofs.Judging.{crews_on}

-- the crews that are laid out are those of the bench
pub laid_is : {N : Type 0} {G : Ghosts N} (m : Meaning) (b : Bench N G) (x : Crewed) → LaidOut m b x → crews_on x ≡ crews_held m b
laid_is m b x laid = ap₂ (λ (xs ys : List ℕ). record { left = xs; right = ys }) laid.left laid.right
