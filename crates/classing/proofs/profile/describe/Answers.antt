use Rattle.std.proofs.Common.{refl, ◌∙◌, arith}
use Rattle.std.proofs.lemmas.List.Sorted.{IsNonDecreasingBy-from_sort}
use Rattle.net.specs.Limits.{most_total}
use Rattle.classing.proofs.Profiles.{sorted_counts}
use Rattle.classing.proofs.profile.describe.Goals as goal

pub returns : goal.returns
returns c =
    let long = c.sort_unstable.ensures.len ∙ c.loop-j-test.array_long in
    record {
      labelled = refl;
      wide = long;
      rising = IsNonDecreasingBy-from_sort (λ x. x) c.sort_unstable.new.self c.sort_unstable.ensures.sorted;
      counts = sorted_counts most_total c.args.table.now.classes c.args.this.now.targets c.loop-j.class-items c.sort_unstable.new.self c.loop-j-test.array_long long
          (λ j l. c.loop-j.invariant j (omega arith)) c.sort_unstable.ensures.permutation;
    }
