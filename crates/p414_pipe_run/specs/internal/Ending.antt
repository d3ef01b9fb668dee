-- How passes go on behind parsing and behind a control.
use Rattle.std.specs.Prelude.{◌≡◌, ◌==◌, if◌then◌else◌, List, option_map}
use Rattle.state_store.specs.Ports.{drop_port}
use Rattle.state_store.specs.State.{Contents}
use Rattle.fabric.specs.declared.items.EgressEnd.{EgressEnd}
use Rattle.fabric.specs.declared.items.EgressNext.{EgressNext}
use Rattle.fabric.specs.declared.items.EgressNext.TheVariants as after_egress
use Rattle.fabric.specs.declared.items.IngressEnd.{IngressEnd}
use Rattle.fabric.specs.declared.items.IngressNext.{IngressNext}
use Rattle.fabric.specs.declared.items.IngressNext.TheVariants as after_ingress
use Rattle.p414_syntax.specs.declared.syntax.Decl.{Decl}
use Rattle.p414_syntax.specs.Tree.{Stmt}
use Rattle.p414_layout.specs.Shapes.{layout_of}
use Rattle.p414_sem.specs.CalculatedFields.{fails_verification}
use Rattle.p414_sem.specs.Controls.{Setting, control_run}
use Rattle.p414_sem.specs.Expanded.{Expanded}
use Rattle.p414_sem.specs.Passes.{Ended, Held, Preserved, asked_clone, asked_egress_clone, dropped, handed_on, ingress_end, leaves, next_after}
use Rattle.p414_sem.specs.Runs.{Between}
use Rattle.p414_sem.specs.State.{State}
use Rattle.p414_state.specs.Packets.{Packet}
use Rattle.p414_pipe_run.specs.Prepared.{Prepared, setting_of}

-- a packet that isn't resubmitted is dropped, or goes on to egress
abbrev pub going_on : State → IngressNext Preserved Held
going_on s =
    if s.egress_spec == drop_port then after_ingress.Drop else after_ingress.Go s.egress_spec (handed_on s)

-- how ingress ends
abbrev pub ingress_answer : List Decl → Expanded → State → IngressEnd Preserved Held
ingress_answer ds x s =
    record { clone = option_map (asked_clone ds x s) s.clone_i2e; next = next_after ds x s s.resubmit }

-- how egress ends
abbrev pub egress_way : List Decl → Expanded → State → EgressNext Preserved
egress_way ds x s = if s.egress_spec == drop_port then after_egress.Drop else leaves ds x s s.recirculate

abbrev pub egress_answer : List Decl → Expanded → State → EgressEnd Preserved Held
egress_answer ds x s =
    record { clone = option_map (asked_egress_clone ds x s) s.clone_e2e; end = egress_way ds x s }

-- behind parsing
abbrev pub after_held : Setting → Contents → Held → Ended (IngressEnd Preserved Held)
after_held c store h =
    if h.failed then dropped store
    else
    if fails_verification c.decls c.expanded h.state then dropped store
    else
    ingress_end c.decls c.expanded (control_run c c.expanded.ingress (record { state = h.state; store = store }))

-- a control ran on a packet and a store
pub record IsRan (p : Prepared) (body : Stmt) (old new : Packet) (before : Contents) (behind : Between) : Type 0 where
  pub layout : new.layout ≡ layout_of p.loaded.decls
  pub moves : record { state = new.state; store = behind.store } ≡ control_run (setting_of p) body (record { state = old.state; store = before })
  pub events : behind.events ≡ new.state.events
