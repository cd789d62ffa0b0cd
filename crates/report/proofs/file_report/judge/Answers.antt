use Rattle.std.proofs.Common.{◌≡◌, true, length, is_ok, sym, ap, arith, rules}
use Rattle.std.proofs.lemmas.Result.{err_from_is_err_and}
use Rattle.records.specs.File.{sound}
use Rattle.report.proofs.Judging.{judges_refused, judges_compared}
use Rattle.report.proofs.file_report.judge.Goals as goal

pub returns-in_err-check : goal.returns-in_err-check
returns-in_err-check c =
    let told = c.in_err-check.ensures in
    let p = err_from_is_err_and c.from_residual.result c.from_residual.ensures.1 in
    rw (p.1, p.2) (judges_refused c.args.bytes.now _ _ (omega arith) told.result told.verdict)

pub returns : goal.returns
returns c =
    let bytes = c.args.bytes.now in
    let told = c.in_ok-check.ensures in
    let ok : sound bytes ≡ true = sym (ap is_ok told.result) in
    let whole : length c.args.entries.now ≡ 256 = search rules in
    let compared = simp c.bench_of.ensures.same at c.compare.ensures in
    judges_compared bytes ok (omega (arith, told.crews)) (omega (arith, told.crews)) _ _ _ (omega (arith, whole)) (rw c.bench_of.ensures.crews at compared)
