use Rattle.std.proofs.Common.{◌<◌, Some, None, sym, ap, ◌∙◌, arith}
use Rattle.records.specs.File.{admitted_records}
use Rattle.records.specs.Crews.{Put as PutBy}
use Rattle.report.proofs.Filling.{crews_same, crews_more}
use Rattle.report.proofs.file_bench.bench_of.Goals as goal
use Rattle.report.proofs.file_bench.bench_of.Goals.{in-Some, in_default}

pub loop-k-preserved : goal.loop-k-preserved
loop-k-preserved c =
    let bytes = c.args.bytes.now in
    let k = c.loop-k.k in
    let inv = c.loop-k.invariant in
    let inside : k < admitted_records c.new-net.result.bytes.now = omega arith in
    elim c.match-token_record.branch [
      | in-Some w ↦
          let told : PutBy bytes k (Some w.in-Some.tokens) = rw c.new-net.ensures at (w.in-Some.ensures.crews inside) in
          let steps = simp (ap (λ n. n.bytes.now) inv.same, c.new-net.ensures) at w.put.ensures in
          rw w.bench-is (record { same = w.put.ensures.same ∙ inv.same; crews = crews_more bytes k w.in-Some.tokens c.loop-k.bench w.put.new.self _ told steps inv.crews })
      | in_default w ↦
          let told : PutBy bytes k None = rw c.new-net.ensures at (w.in_default.ensures.crews inside) in
          rw w.bench-is (record { same = inv.same; crews = inv.crews ∙ sym (crews_same bytes k told) })
    ]
