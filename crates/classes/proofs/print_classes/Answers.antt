use Rattle.std.proofs.Common.{rules}
use Rattle.records.specs.FileLaws.{net_lawful}
use Rattle.classes.proofs.print_classes.Goals as goal

pub unwrap-rounds-requires : goal.unwrap-rounds-requires
unwrap-rounds-requires c = let few = (net_lawful c.args.bytes.now).few_places in search rules
