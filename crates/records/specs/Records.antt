-- What the code reads of a record, as the entry that it says.
use Rattle.std.specs.Prelude.{Some, None, Option}
use Rattle.records.specs.declared.record.Record.{Record}
use Rattle.records.specs.declared.record.Record.TheVariants.{Place, Transition, Tokens}
use Rattle.records.specs.Entry.{Entry, declares, moves, holds, broken}

-- none is a record that breaks its form
abbrev pub entry_of : Option Record → Entry
entry_of None = broken
entry_of (Some (Place number)) = declares number
entry_of (Some (Transition t)) = moves t.place t.label t.targets.now
entry_of (Some (Tokens t)) = holds t.side t.place t.count
