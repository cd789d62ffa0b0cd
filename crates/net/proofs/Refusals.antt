-- Reasons for a refusal that are tried one after the other.
use Rattle.std.proofs.Common.{List, [], ◌∷◌, ◌++◌, inl, inr}
use Rattle.net.specs.Refusals.{Row, First, Free}
use Rattle.net.specs.declared.refusal.Fault.{Fault}

pub first_front : (rows others : List Row) (f : Fault) → First rows f → First (rows ++ others) f
first_front [] others f h = absurd h
first_front (w ∷ rows) others f (inl h) = inl h
first_front (w ∷ rows) others f (inr (h, k)) = inr (h, first_front rows others f k)

pub first_back : (rows others : List Row) (f : Fault) → Free rows → First others f → First (rows ++ others) f
first_back [] others f free h = h
first_back (w ∷ rows) others f (none, free) h = inr (none, first_back rows others f free h)

pub free_append : (rows others : List Row) → Free rows → Free others → Free (rows ++ others)
free_append [] others free more = more
free_append (w ∷ rows) others (none, free) more = (none, free_append rows others free more)
