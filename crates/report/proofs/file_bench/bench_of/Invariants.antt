use Rattle.std.proofs.Common.{◌≡◌}
use Rattle.records.specs.File.{net_of}
use Rattle.crews.specs.Benches.{crews_held}
use Rattle.report.specs.Reports.{crews_after}
use Rattle.report.proofs.file_bench.bench_of.Given as goal

abbrev pub invariant-loop-k : goal.invariant-loop-k
invariant-loop-k l = record {
  same : l.bench.net ≡ l.net;
  crews : crews_held (net_of l.bytes) l.bench ≡ crews_after l.bytes l.k;
}
