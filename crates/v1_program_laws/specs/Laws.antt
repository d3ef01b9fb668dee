-- That a block which is made ready as the definitions tell does what the block of the program does (P4_16 1.2, "Packet parsing",
-- "Control blocks"; ready blocks are this project's own).
use Rattle.std.specs.Prelude.{◌≡◌, ℕ, List, Some}
use Rattle.match_core.specs.Fits.{Fits}
use Rattle.match_core.specs.Tables.{tables_of}
use Rattle.p416_syntax.specs.declared.parsers.Parser16.{Parser16}
use Rattle.p416_syntax.specs.declared.controls.Control16.{Control16}
use Rattle.p416_syntax.specs.Breaks.{BreaksNone, program_rules}
use Rattle.v1_core.specs.declared.block.Block.{Block}
use Rattle.v1_core.specs.Signatures.{signature16}
use Rattle.v1_core.specs.Surroundings.{Setting}
use Rattle.v1_core.specs.Parsing.{parser_of}
use Rattle.v1_core.specs.Blocks.{control_at}
use Rattle.v1_ready_blocks.specs.Tables.{Fill}
use Rattle.v1_statement_run.specs.Steps.{expressions_in, ground_of, trees_of}
use Rattle.v1_ready_states.specs.declared.states.ReadyParser.{ReadyParser}
use Rattle.v1_ready_states.specs.Rows as rows
use Rattle.v1_parse_run.specs.Made.{FitsParser}
use Rattle.v1_block_run.specs.declared.block.ReadyBlock.{ReadyBlock}
use Rattle.v1_block_run.specs.Blocks.{IsRunnable, seen_block}
use Rattle.v1_block_tables.specs.Parts.{CanApply}
use Rattle.v1_ready_statements.specs.Blocks.{ready_control}
use Rattle.v1_program_laws.specs.Parsers.{ready_parser}
use Rattle.v1_control_run.specs.Prepared.{DoesControl, DoesParser, IsGroundOf, made_in}

-- the tables of a program are filled with its entries, which fit its signature
pub record IsFilledWith (c : Setting) (fill : Fill) : Type 0 where
  pub tables : fill.tables ≡ tables_of (signature16 c.syntax) c.entries
  pub fills : fill.fills ≡ c.entries.tables
  pub fits : Fits c.entries (signature16 c.syntax)

-- the parser of a program that breaks no rule
abbrev pub ReadyParsersDo : Type 0
ReadyParsersDo =
    (c : Setting) (p : Parser16) (b : ReadyBlock) (r : ReadyParser) → BreaksNone c.syntax program_rules →
    parser_of c.syntax ≡ Some p → ready_parser c.syntax p ≡ Some (rows.parser_of (expressions_in b.code) (trees_of b.code) r) →
    IsGroundOf c (ground_of b.code) → IsRunnable b → ((octets : List ℕ) → FitsParser (made_in b octets) r) → DoesParser c b r

-- a control of a program that breaks no rule
abbrev pub ReadyControlsDo : Type 0
ReadyControlsDo =
    (c : Setting) (fill : Fill) (block : Block) (k : Control16) (b : ReadyBlock) → BreaksNone c.syntax program_rules →
    IsFilledWith c fill → control_at c.syntax block ≡ Some k → ready_control c.syntax block k ≡ Some (seen_block b) →
    IsGroundOf c (ground_of b.code) → CanApply b → DoesControl c block fill b
