-- Tables of a crew's counts, with an entry for each place that a net may have.
use Rattle.std.specs.Prelude.{◌≡◌, ℕ, ◌-◌, List, drop}
use Rattle.net.specs.Limits.{most_places}
use Rattle.net.specs.Lists.{zeros}

-- beyond n places the table holds nothing
abbrev pub EndsAt : ℕ → List ℕ → Type 0
EndsAt n table = drop n table ≡ zeros (most_places - n)
