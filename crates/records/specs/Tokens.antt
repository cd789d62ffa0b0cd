-- The tokens that one record puts.
use Rattle.std.specs.Prelude.{Some, None, Option}
use Rattle.records.specs.declared.tokens.Tokens.{Tokens}
use Rattle.records.specs.Entry.{Entry, declares, moves, holds, broken}

abbrev pub tokens_said : Entry → Option Tokens
tokens_said (declares number) = None
tokens_said (moves place label targets) = None
tokens_said (holds side place n) = Some (record { side = side; place = place; count = n })
tokens_said broken = None
