use Rattle.std.proofs.Common.{◌≡◌, ◌+◌, ◌/◌, ◌%◌, length, Ok, Err, sym, arith, rules}
use Rattle.std.proofs.lemmas.Result.{err_from_is_err_and}
use Rattle.records.specs.Layout.{record_at}
use Rattle.records.specs.Entry.{reading}
use Rattle.records.specs.Check.{checked, counts_of}
use Rattle.records.specs.CheckLaws.{stays, few_to, checked_to_more}
use Rattle.records.proofs.CrewLaws.{measured}
use Rattle.records.proofs.Verdicts.{means, reasons_rise}
use Rattle.records.proofs.file_check.check.Goals as goal

pub invariant_of-admit-clause-left : goal.invariant_of-admit-clause-left
invariant_of-admit-clause-left c = (few_to c.args.bytes.now c.loop-k.k c.loop-k.seen c.loop-k.invariant).few_left

pub invariant_of-admit-clause-right : goal.invariant_of-admit-clause-right
invariant_of-admit-clause-right c = (few_to c.args.bytes.now c.loop-k.k c.loop-k.seen c.loop-k.invariant).few_right

pub loop-k-preserved : goal.loop-k-preserved
loop-k-preserved c =
    let b = c.args.bytes.now in
    let k = c.loop-k.k in
    checked_to_more b k c.loop-k.seen c.record_at.result.now (Ok c.in_ok-seen.seen) c.loop-k.invariant c.record_at.ensures.value c.in_ok-seen.ensures

pub returns-then-bytes-ne0 : goal.returns-then-bytes-ne0
returns-then-bytes-ne0 c =
    let b = c.args.bytes.now in
    let is : Err c.at.result ≡ checked b = search rules in
    record { result = is; verdict = means b (Err c.at.result) is; crews = tt; order = λ k. reasons_rise (reading (record_at b k)) k (counts_of b k) }

pub returns-in_err-seen : goal.returns-in_err-seen
returns-in_err-seen c =
    let p = err_from_is_err_and c.from_residual.result c.from_residual.ensures.1 in
    let b = c.args.bytes.now in
    let k = c.loop-k.k in
    let whole : length b % 8 ≡ 0 = search rules in
    let s = checked_to_more b k c.loop-k.seen c.record_at.result.now (Err c.in_err-seen.field-0.0) c.loop-k.invariant c.record_at.ensures.value c.in_err-seen.ensures in
    let is : c.from_residual.result ≡ checked b = rw (p.1, p.2, whole) (sym (stays b (k + 1) (length b / 8) _ s (omega arith))) in
    record { result = is; verdict = means b c.from_residual.result is; crews = measured b c.from_residual.result is; order = λ k. reasons_rise (reading (record_at b k)) k (counts_of b k) }

pub returns : goal.returns
returns c =
    let b = c.args.bytes.now in
    let is : Ok c.loop-k.seen ≡ checked b = search rules in
    record { result = is; verdict = means b (Ok c.loop-k.seen) is; crews = measured b (Ok c.loop-k.seen) is; order = λ k. reasons_rise (reading (record_at b k)) k (counts_of b k) }
