-- Which variable of a program one of code is.
use Rattle.v1_core.specs.Numbered as numbered
use Rattle.v1_block_laws.specs.Variables.{variable}
use Rattle.v1_block_seats.specs.declared.numbers.Variable.{Variable}

abbrev pub seen_variable : Variable → numbered.Variable
seen_variable v = variable v.name.now v.number
