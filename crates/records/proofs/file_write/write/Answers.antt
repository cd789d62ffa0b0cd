use Rattle.std.proofs.Common.{◌≡◌, ◌+◌, ◌-◌, ◌*◌, ◌<◌, arith}
use Rattle.records.specs.Write.{records_of}
use Rattle.records.proofs.Writes.{written_more, all_answer, all_after, all_same}
use Rattle.records.proofs.file_write.write.Goals as goal

pub loop-k-preserved : goal.loop-k-preserved
loop-k-preserved g c =
    let m = g.N.Net.meaning c.args.net.now in
    let k = c.loop-k.k in
    let less : k < records_of m = omega (arith, c.places.ensures, c.transitions.ensures, c.loop-k-test.true) in
    written_more m (g.N.Net.lawful c.args.net.now) k ((8 * k + 8) - 8 * k) c.loop-k.out c.args.out.now c.copy_from_slice.new.self c.record_of-bytes.result
    less c.loop-k.invariant c.record_of-bytes.ensures c.copy_from_slice.ensures.after (omega arith)

pub returns : goal.returns
returns g c =
    let m = g.N.Net.meaning c.args.net.now in
    let law = g.N.Net.lawful c.args.net.now in
    let count = c.places.result + c.transitions.result in
    let k = c.loop-k.k in
    let count_is : count ≡ records_of m = omega (arith, c.places.ensures, c.transitions.ensures) in
    let k_is : k ≡ count = omega (arith, c.loop-k.auto.k-end, c.loop-k-test.false) in
    let old = c.args.out.now in
    let out = c.loop-k.out in
    record {
      answer = all_answer m law count k out old count_is k_is c.loop-k.invariant c.if-out-count.false;
      after = all_after m law count k out old count_is k_is c.loop-k.invariant c.if-out-count.false;
      same = all_same m law count k out old count_is k_is c.loop-k.invariant c.if-out-count.false;
    }
