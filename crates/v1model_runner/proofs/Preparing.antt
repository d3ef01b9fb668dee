-- A program that is made ready is prepared.
use Rattle.std.proofs.Common.{◌≡◌, List, sym, ap, ◌∙◌}
use Rattle.state_store.specs.declared.shapes.Shape.{Shape}
use Rattle.state_store.specs.State.{Contents}
use Rattle.v1_core.specs.declared.block.Block.{Block}
use Rattle.v1_core.specs.declared.block.Block.TheVariants.{Verify, Ingress, Egress, Compute, Deparse}
use Rattle.v1_core.specs.Surroundings.{Setting}
use Rattle.v1_core.specs.Layouts.{Layout}
use Rattle.v1_core.specs.Programs.{layout16}
use Rattle.v1_ready_blocks.specs.Tables.{Fill}
use Rattle.v1_control_run.specs.declared.prepared.Prepared.{Prepared}
use Rattle.v1_control_run.specs.Prepared.{DoesControl, IsPrepared, control_of, objects_of, setting_of}
use Rattle.v1_control_run.specs.Running.{Running}
use Rattle.v1model_runner.specs.declared.ready.ReadyBlocks.{ReadyBlocks}
use Rattle.v1model_runner.specs.Ready.{AreReady, IsReady}

pub is_ready : (c : Setting) (l : Layout) (fill : Fill) (b : ReadyBlocks) → l ≡ layout16 c.syntax → AreReady c fill b → IsReady c l fill b
is_ready c l fill b layout blocks = record { layout = layout; blocks = blocks }

-- the parts of a program that is ready
abbrev lent : Prepared → ReadyBlocks
lent p = record {
  parser = p.parser.now;
  states = p.states.now;
  verify = p.verify.now;
  ingress = p.ingress.now;
  egress = p.egress.now;
  compute = p.compute.now;
  deparse = p.deparse.now;
}

pub is_prepared : (p : Prepared) → IsReady (setting_of p) p.layout.now p.fill.now (lent p) → IsPrepared p
is_prepared p is = record { layout = is.layout; parser = is.blocks.parser; controls = does } where
  does : (block : Block) → DoesControl (setting_of p) block p.fill.now (control_of p block)
  does Verify = is.blocks.verify
  does Ingress = is.blocks.ingress
  does Egress = is.blocks.egress
  does Compute = is.blocks.compute
  does Deparse = is.blocks.deparse

pub shaped : (p : Prepared) (c : Setting) (shapes : List Shape) → setting_of p ≡ c → shapes ≡ objects_of c → shapes ≡ objects_of (setting_of p)
shaped p c shapes is are = are ∙ sym (ap objects_of is)

pub runs_so : (c d : Setting) (store : Contents) (b : Running) → b ≡ record { setting = d; store = store } → d ≡ c → b ≡ record { setting = c; store = store }
runs_so c d store b is same = is ∙ ap (λ (x : Setting). record { setting = x; store = store }) same
