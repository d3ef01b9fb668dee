-- That the blocks of a program which are made ready do what its blocks do (P4_16 1.2, "Packet parsing", "Control blocks"; ready blocks
-- are this project's own).
use Rattle.p416_syntax.specs.Breaks.{BreaksNone, program_rules}
use Rattle.v1_core.specs.Surroundings.{Setting}
use Rattle.v1_core.specs.Programs.{layout16}
use Rattle.v1_ready_blocks.specs.Tables.{Fill}
use Rattle.v1_control_run.specs.Prepared.{objects_of}
use Rattle.v1_program_laws.specs.Laws.{IsFilledWith}
use Rattle.v1_ready_whole.specs.declared.program.ReadyBlocks.{ReadyBlocks as Made}
use Rattle.v1_ready_whole.specs.Ready.{AreReadyBlocks}
use Rattle.v1model_runner.specs.declared.ready.ReadyBlocks.{ReadyBlocks}
use Rattle.v1model_runner.specs.Ready.{AreReady}

-- the blocks as they are made, as a runner takes them
abbrev pub taken : Made → ReadyBlocks
taken b = record {
  parser = b.parser;
  states = b.states;
  verify = b.verify;
  ingress = b.ingress;
  egress = b.egress;
  compute = b.compute;
  deparse = b.deparse;
}

-- in a program that breaks no rule, over its frames and its objects, with tables that are filled with entries that fit
abbrev pub ReadyBlocksDo : Type 0
ReadyBlocksDo =
    (c : Setting) (fill : Fill) (b : Made) → BreaksNone c.syntax program_rules → IsFilledWith c fill →
    AreReadyBlocks c.syntax (layout16 c.syntax) (objects_of c) b → AreReady c fill (taken b)
