-- What runs the blocks keeps from packet to packet, and how a run begins and ends (this project's own).
use Rattle.std.specs.Prelude.{◌≡◌, ℕ, Bool, true, List, None}
use Rattle.p4x_bits.specs.BitLists.{octet_bits, IsOctets}
use Rattle.state_store.specs.State.{Contents}
use Rattle.v1_core.specs.declared.block.Block.{Block}
use Rattle.v1_core.specs.declared.block.Block.TheVariants.{Verify, Ingress, Egress, Compute, Deparse}
use Rattle.v1_core.specs.Programs.{layout16}
use Rattle.v1_ready_blocks.specs.Tables.{Fill}
use Rattle.v1_statement_run.specs.declared.run.Run.{Run}
use Rattle.v1_parse_run.specs.declared.machine.ParserMachine.{ParserMachine}
use Rattle.v1_block_run.specs.declared.block.ReadyBlock.{ReadyBlock}
use Rattle.v1_block_tables.specs.declared.parts.FilledBlock.{FilledBlock}
use Rattle.v1_control_run.specs.declared.prepared.Prepared.{Prepared}
use Rattle.v1_control_run.specs.Prepared.{DoesControl, IsPrepared, objects_of, setting_of}
use Rattle.v1_control_run.specs.declared.runners.Runners.{Runners}

-- the block that is run for a control
abbrev pub filled_of : Runners → Block → FilledBlock
filled_of r Verify = r.verify.tables.of
filled_of r Ingress = r.ingress.tables.of
filled_of r Egress = r.egress.tables.of
filled_of r Compute = r.compute.tables.of
filled_of r Deparse = r.deparse.tables.of

-- this block is run with these tables
pub record RunsBlock (b : FilledBlock) (block : ReadyBlock) (fill : Fill) : Type 0 where
  pub block_is : b.block.now ≡ block
  pub fill_is : b.fill.now ≡ fill

-- each control of a prepared program is run by a block that does what it does
pub record AreRunners (p : Prepared) (r : Runners) : Type 0 where
  pub controls : (block : Block) → DoesControl (setting_of p) block (filled_of r block).fill.now (filled_of r block).block.now

-- with what is kept from packet to packet a packet can be run
pub record CanBegin (p : Prepared) (store : Contents) (s : ParserMachine) : Type 0 where
  pub waiting : s.run.waiting.layout ≡ layout16 p.packets.now
  pub shapes : store.shapes ≡ objects_of (setting_of p)

-- what is kept from packet to packet, which can be used but for after want of memory in a block
pub record IsReady (p : Prepared) (r : Runners) (store : Contents) (usable : Bool) (s : ParserMachine) : Type 0 where
  pub prepared : IsPrepared p
  pub runners : AreRunners p r
  pub rests : usable ≡ true → CanBegin p store s

-- with these bits emitted, and this count of work; nothing is stopped, and no action runs
abbrev pub begun_run : List Bool → ℕ → Run → Run
begun_run emitted work r = record r { emitted = emitted; work = work; stopped = None; hit = None }

-- a run that emitted these octets, which no error stopped and in which no action runs
pub record HasEnded (r : Run) (out : List ℕ) : Type 0 where
  pub emitted : octet_bits out ≡ r.emitted
  pub octets : IsOctets out
  pub stopped : r.stopped ≡ None
  pub hit : r.hit ≡ None
