-- The laws on the parser and on controls, put together as what runs ready blocks asks.
use Rattle.p416_syntax.specs.declared.program.Syntax16.{Syntax16}
use Rattle.p416_syntax.specs.Breaks.{BreaksNone, program_rules}
use Rattle.v1_core.specs.Seats.{Form, slot_form, header_form, stack_form, struct_form, no_form}
use Rattle.v1_statement_run.specs.Steps.{expressions_in, trees_of}
use Rattle.v1_ready_states.specs.Rows.{parser_of}
use Rattle.v1_block_run.specs.Blocks.{seen_block}
use Rattle.v1_program_laws.specs.HeaderLaws as headers
use Rattle.v1_program_laws.proofs.Headers.{headers_are_whole}
use Rattle.v1_program_laws.proofs.Parsers.{ready_parser_shows}
use Rattle.v1_control_laws.proofs.Emitted.{octets_emitted}
use Rattle.v1_program_laws.specs.ControlLaws.{IsHeaded, HeadersWhole}
use Rattle.v1_program_laws.proofs.Finished.{controls_do}
use Rattle.v1_program_laws.specs.Laws.{ReadyControlsDo, ReadyParsersDo}

-- both say of a form that it has headers
headed : (form : Form) → IsHeaded form → headers.IsHeaded form
headed (slot_form of) h = h
headed (header_form type) h = h
headed (stack_form type size) h = h
headed (struct_form type) h = h
headed no_form h = h

headers_whole : (syntax : Syntax16) → BreaksNone syntax program_rules → HeadersWhole syntax
headers_whole syntax accepted p t at has = headers_are_whole syntax accepted p t at (headed t.form has)

pub ready_parsers_do : ReadyParsersDo
ready_parsers_do c p b r accepted at is ground runs fits = record {
  ground = ground;
  runs = runs;
  fits = fits;
  shows = λ m n h waits goes. ready_parser_shows c p (parser_of (expressions_in b.code) (trees_of b.code) r) m n accepted at is h goes;
}

pub ready_controls_do : ReadyControlsDo
ready_controls_do c fill block k b accepted filled at is ground applies = record {
  ground = ground;
  applies = applies;
  emits = octets_emitted c block;
  shows = λ m n h waits goes unhit.
      controls_do c block k (seen_block b) fill accepted at is filled.tables filled.fills filled.fits (headers_whole c.syntax accepted) m n h waits goes;
}
