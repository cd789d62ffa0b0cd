use Rattle.records.specs.FileLaws.{kept}
use Rattle.records.proofs.file_net.FileNet.admitted.Goals as goal

pub invariant_of-result : goal.invariant_of-result
invariant_of-result c = let k = kept c.args.bytes.now c.args.seen c.requires c.index_of.result c.index_of.ensures in record { whole = k.size; declared = k.places; tied = k.table; few = k.few }
