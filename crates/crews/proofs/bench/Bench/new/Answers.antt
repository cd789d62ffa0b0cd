use Rattle.std.proofs.Common.{ℕ, List, ap₂}
use Rattle.crews.proofs.Tables.{holds_ends, holds_nobody, front_is}
use Rattle.crews.proofs.bench.Bench.new.Goals as goal

pub invariant_of-result : goal.invariant_of-result
invariant_of-result g c =
    let few = (g.N.Net.lawful c.args.net).few_places in
    record { left_ends = holds_ends _ _ _ (holds_nobody _ _ few c.new.ensures); right_ends = holds_ends _ _ _ (holds_nobody _ _ few c.new-2.ensures) }

pub returns-clause-empty : goal.returns-clause-empty
returns-clause-empty g c =
    let few = (g.N.Net.lawful c.args.net).few_places in
    ap₂ (λ (xs ys : List ℕ). record { left = xs; right = ys }) (front_is _ _ _ (holds_nobody _ _ few c.new.ensures)) (front_is _ _ _ (holds_nobody _ _ few c.new-2.ensures))
