use Rattle.records.proofs.TargetOrder.{sorted_rises}
use Rattle.records.proofs.targets.rises.Goals as goal

pub returns : goal.returns
returns c = sorted_rises c.args.targets.now c.is_sorted.result c.is_sorted.ensures.cases
