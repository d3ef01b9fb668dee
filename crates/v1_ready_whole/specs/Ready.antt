-- What is owed of the blocks of a program that are made ready: each is the one that the definitions tell, speaks of frames of this layout
-- and of objects of these shapes, and can be run.
use Rattle.std.specs.Prelude.{◌≡◌, List, Some}
use Rattle.state_store.specs.declared.shapes.Shape.{Shape}
use Rattle.p416_syntax.specs.declared.parsers.Parser16.{Parser16}
use Rattle.p416_syntax.specs.declared.controls.Control16.{Control16}
use Rattle.p416_syntax.specs.declared.program.Syntax16.{Syntax16}
use Rattle.v1_core.specs.declared.block.Block.{Block}
use Rattle.v1_core.specs.declared.block.Block.TheVariants.{Verify, Ingress, Egress, Compute, Deparse}
use Rattle.v1_core.specs.Blocks.{control_at}
use Rattle.v1_core.specs.Parsing.{parser_of}
use Rattle.v1_core.specs.Layouts.{Layout}
use Rattle.v1_statement_run.specs.Steps.{expressions_in, ground_of, trees_of}
use Rattle.v1_ready_states.specs.declared.states.ReadyParser.{ReadyParser}
use Rattle.v1_ready_states.specs.Rows.{parser_of as parser_by}
use Rattle.v1_parse_run.specs.Made.{FitsParser, Made}
use Rattle.v1_block_run.specs.declared.block.ReadyBlock.{ReadyBlock}
use Rattle.v1_block_run.specs.Blocks.{IsRunnable, seen_block}
use Rattle.v1_ready_statements.specs.Blocks.{ready_control}
use Rattle.v1_ready_locals.specs.Seen.{IsReadyOver}
use Rattle.v1_ready_whole.specs.Parsers.{ready_parser}
use Rattle.v1_ready_whole.specs.declared.program.ReadyBlocks.{ReadyBlocks}

-- the control that stands as this block
pub record IsReadyControl (syntax : Syntax16) (l : Layout) (shapes : List Shape) (block : Block) (b : ReadyBlock) : Type 0 where
  pub control : Control16
  pub at : control_at syntax block ≡ Some control
  pub is : ready_control syntax block control ≡ Some (seen_block b)
  pub over : IsReadyOver l shapes b

-- the parser, whose statements stand in this block
pub record IsReadyParser (syntax : Syntax16) (l : Layout) (objects : List Shape) (b : ReadyBlock) (r : ReadyParser) : Type 0 where
  pub parser : Parser16
  pub at : parser_of syntax ≡ Some parser
  pub is : ready_parser syntax parser ≡ Some (parser_by (expressions_in b.code) (trees_of b.code) r)
  pub layout : (ground_of b.code).layout ≡ l
  pub shapes : (ground_of b.code).shapes ≡ objects
  pub runs : IsRunnable b
  pub fits : (made : Made) → made.layout ≡ l → made.expressions ≡ expressions_in b.code → made.statements ≡ trees_of b.code → FitsParser made r

abbrev pub block_in : ReadyBlocks → Block → ReadyBlock
block_in r Verify = r.verify
block_in r Ingress = r.ingress
block_in r Egress = r.egress
block_in r Compute = r.compute
block_in r Deparse = r.deparse

pub record AreReadyBlocks (syntax : Syntax16) (l : Layout) (shapes : List Shape) (r : ReadyBlocks) : Type 0 where
  pub controls : (block : Block) → IsReadyControl syntax l shapes block (block_in r block)
  pub parser : IsReadyParser syntax l shapes r.states r.parser
