-- What the moves of a place do by a line, told by their targets, where T says where lines hold.
use Rattle.std.specs.Prelude.{◌≡◌, ℕ, ◌<◌, Bool, ◌&&◌, IsTrue, List, count_by, ◌==◌, nat_lt, slice_index_or}
use Rattle.std.specs.List.{list_all}
use Rattle.net.specs.Limits.{most_places}
use Rattle.classing.specs.Snapshots.{no_move, place_at}
use Rattle.classing.specs.declared.snapshot.Move.{Move}
use Rattle.classing.specs.declared.snapshot.Snapshot.{Snapshot}
use Rattle.formulas.specs.Lines.{used_pairs}
use Rattle.formulas.specs.Truths.{Truths}
use Rattle.formulas.specs.declared.line.Line.{Line}

-- the target is a place at which the line a holds
abbrev pub stands : Truths → ℕ → ℕ → Bool
stands T a target = nat_lt target most_places && T a target

-- how many of the targets stand where the line a holds
abbrev pub tokens_where : Truths → List ℕ → ℕ → ℕ
tokens_where T targets a = count_by (stands T a) targets

-- how many targets there are
abbrev pub targets_in : List ℕ → ℕ
targets_in targets = count_by (λ target. nat_lt target most_places) targets

-- for each pair that the line uses, as many targets stand where its line holds as it counts
abbrev pub puts_like : Truths → Line → List ℕ → Bool
puts_like T l targets = list_all (λ x. tokens_where T targets x.line == x.count) (used_pairs l)

-- The move does what the line says.
pub record MoveDoes (T : Truths) (l : Line) (k : Move) : Type 0 where
  pub label : k.label ≡ l.label
  pub total : targets_in k.targets ≡ l.total
  pub puts : IsTrue (puts_like T l k.targets)

-- some move of q does what the line says
abbrev pub Answers : Snapshot → Truths → Line → ℕ → Type 0
Answers s T l q = (u : ℕ) × (u < s.count) × (place_at s.moves u ≡ q) × MoveDoes T l (slice_index_or s.moves u no_move)
