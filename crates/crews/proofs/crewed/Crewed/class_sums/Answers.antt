use Rattle.std.proofs.Common.{◌+◌, ◌≤◌, get_or, refl, arith, rules, length-append}
use Rattle.crews.proofs.ClassSums.{counting_none, counting_small, counting_more}
use Rattle.crews.proofs.crewed.Crewed.class_sums.Goals as goal

pub loop-class-init : goal.loop-class-init
loop-class-init c = ((tt, tt), tt, counting_none _ _ _ _ _ (search rules) (search rules) refl)

pub overflow_add-sums : goal.overflow_add-sums
overflow_add-sums c =
    let step = c.in-Some.ensures.steps in
    let small : get_or c.loop-class.sums c.from.result 0 + c.in-Some.count.now ≤ 4096 =
    omega (arith, c.requires.small, counting_small _ _ _ _ _ _ _ _ _ _ c.loop-class.invariant.2 step.0 step.1 c.args.self.now.named c.from.result c.from.ensures) in
    search rules

pub loop-class-preserved : goal.loop-class-preserved
loop-class-preserved c =
    let step = c.in-Some.ensures.steps in
    ((tt, tt), tt, counting_more _ _ _ _ _ _ _ _ _ _ c.loop-class.invariant.2 step.0 step.1 c.args.self.now.named _ _ _ (length-append c.loop-class.yielded _) c.from.ensures refl)
