-- The tokens that a transition puts down as a list of targets, one for each token.
use Rattle.std.specs.Prelude.{ℕ, zero, suc, ◌-◌, List, [], ◌++◌, length, replicate}
use Rattle.net.specs.Meaning.{Transition, tokens_on}

-- what stands in the list where there is no token
abbrev pub no_target : ℕ
no_target = 255

-- the targets of a transition among the first n places, in rising order
abbrev pub spread : Transition → ℕ → List ℕ
spread t zero = []
spread t (suc p) = spread t p ++ replicate (tokens_on t p) p

-- targets, and no targets up to the width
abbrev pub filled : ℕ → List ℕ → List ℕ
filled width ts = ts ++ replicate (width - length ts) no_target
