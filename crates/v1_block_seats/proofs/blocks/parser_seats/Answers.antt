use Rattle.std.proofs.Common.{◌++◌, map, ap, ◌∙◌, List}
use Rattle.p416_syntax.specs.declared.parts.Param.{Param}
use Rattle.p416_syntax.specs.Declarations.{parameter_name}
use Rattle.v1_core.specs.Surroundings.{rooted}
use Rattle.v1_core.specs.Parsing.{parser_owners}
use Rattle.v1_ready_program.specs.Seen.{seen_seats}
use Rattle.v1_block_laws.specs.Variables.{parser_roots}
use Rattle.v1_block_seats.specs.internal.Wanted.{named_root}
use Rattle.v1_block_seats.proofs.Seating.{block_seated}
use Rattle.v1_block_seats.proofs.blocks.parser_seats.Goals as goal

pub returns : goal.returns
returns c =
    block_seated c.args.syntax.now c.args.seats.now (parser_roots c.args.parser.now) c.args.variables.now (seen_seats c.new-names.result) (seen_seats c.declare_variables.new.names) (seen_seats c.declare_of_parser.new.names) c.requires c.new-names.ensures c.in_ok-declare_variables.ensures
    (c.in_ok-declare_of_parser.ensures
    ∙ ap (λ (ps : List Param). map (named_root c.args.seats.now) (rooted (map parameter_name ps) parser_owners) ++ seen_seats c.declare_variables.new.names) c.as_slice.ensures)
