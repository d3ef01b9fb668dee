-- The ready blocks of a program do what its blocks do.
use Rattle.std.proofs.Common.{◌∙◌, refl, sym}
use Rattle.p416_syntax.specs.Breaks.{BreaksNone, program_rules}
use Rattle.v1_core.specs.declared.block.Block.{Block}
use Rattle.v1_core.specs.declared.block.Block.TheVariants.{Verify, Ingress, Egress, Compute, Deparse}
use Rattle.v1_core.specs.Surroundings.{Setting}
use Rattle.v1_core.specs.Programs.{layout16}
use Rattle.v1_ready_blocks.specs.Tables.{Fill}
use Rattle.v1_ready_states.specs.declared.states.ReadyParser.{ReadyParser}
use Rattle.v1_block_run.specs.declared.block.ReadyBlock.{ReadyBlock}
use Rattle.v1_control_run.specs.Prepared.{DoesControl, DoesParser, made_in, objects_of}
use Rattle.v1_program_laws.specs.Laws.{IsFilledWith}
use Rattle.v1_program_laws.proofs.Laws.{ready_controls_do, ready_parsers_do}
use Rattle.v1_ready_whole.specs.Ready.{IsReadyControl, IsReadyParser}
use Rattle.v1model_program.specs.Laws.{ReadyBlocksDo}
use Rattle.v1model_program.proofs.Same.{parsers_same}

module _ (c : Setting) (accepted : BreaksNone c.syntax program_rules) where
  control_does : (fill : Fill) → IsFilledWith c fill → (block : Block) (b : ReadyBlock) → IsReadyControl c.syntax (layout16 c.syntax) (objects_of c) block b → DoesControl c block fill b
  control_does fill filled block b is =
      ready_controls_do c fill block is.control b accepted filled is.at is.is (record { layout = is.over.layout; shapes = is.over.shapes }) is.over.applies

  parser_does : (b : ReadyBlock) (r : ReadyParser) → IsReadyParser c.syntax (layout16 c.syntax) (objects_of c) b r → DoesParser c b r
  parser_does b r is =
      ready_parsers_do c is.parser b r accepted is.at (sym (parsers_same c.syntax is.parser) ∙ is.is) (record { layout = is.layout; shapes = is.shapes }) is.runs
      (λ octets. is.fits (made_in b octets) is.layout refl refl)

pub blocks_do : ReadyBlocksDo
blocks_do c fill b accepted filled are = record {
  parser = parser_does c accepted b.states b.parser are.parser;
  verify = control_does c accepted fill filled Verify b.verify (are.controls Verify);
  ingress = control_does c accepted fill filled Ingress b.ingress (are.controls Ingress);
  egress = control_does c accepted fill filled Egress b.egress (are.controls Egress);
  compute = control_does c accepted fill filled Compute b.compute (are.controls Compute);
  deparse = control_does c accepted fill filled Deparse b.deparse (are.controls Deparse);
}
