-- How ingress and egress end.
use Rattle.std.proofs.Common.{◌≡◌, ℕ, Bool, true, false, cond, nat_eq, List, [], refl, sym, ap, ap₂, ◌∙◌}
use Rattle.state_store.specs.Ports.{drop_port}
use Rattle.state_store.specs.State.{Contents}
use Rattle.fabric.specs.declared.items.IngressNext.{IngressNext}
use Rattle.fabric.specs.declared.items.IngressNext.TheVariants as after_ingress
use Rattle.fabric.specs.declared.items.EgressNext.{EgressNext}
use Rattle.fabric.specs.declared.items.EgressNext.TheVariants as after_egress
use Rattle.p414_syntax.specs.declared.syntax.Decl.{Decl}
use Rattle.p414_layout.specs.declared.shape.Shape.{Shape}
use Rattle.p414_layout.specs.Shapes.{layout_of}
use Rattle.p414_sem.specs.Expanded.{Expanded}
use Rattle.p414_sem.specs.Passes.{Preserved, after_parsing, dropped, handed_on, held_of, ingress_end, is_accepted}
use Rattle.p414_sem.specs.Parsing.{Parse}
use Rattle.p414_sem.specs.CalculatedFields.{fails_verification}
use Rattle.p414_sem.specs.Controls.{Setting, control_run}
use Rattle.p414_sem.specs.State.{State, without_requests}
use Rattle.p414_state.specs.Packets.{Packet, with_state}
use Rattle.p414_pipe_run.specs.declared.held.Held14.{Held14}
use Rattle.p414_pipe_run.specs.Packed.{packed_next}
use Rattle.p414_pipe_run.specs.internal.Ending.{after_held, going_on}

-- the drop port

abbrev next_by : List Decl → Bool → State → IngressNext Preserved Held14
next_by ds b s = packed_next ds (cond b after_ingress.Drop (after_ingress.Go s.egress_spec (handed_on s)))

test_is : (s : State) (spec : ℕ) (b : Bool) → spec ≡ s.egress_spec → nat_eq spec drop_port ≡ b → nat_eq s.egress_spec drop_port ≡ b
test_is s spec b same is = ap (λ (n : ℕ). nat_eq n drop_port) (sym same) ∙ is

pub drops_there : (ds : List Decl) (s : State) (spec : ℕ) → spec ≡ s.egress_spec → nat_eq spec drop_port ≡ true → after_ingress.Drop ≡ packed_next ds (going_on s)
drops_there ds s spec same is = ap (λ (b : Bool). next_by ds b s) (sym (test_is s spec true same is))

abbrev go : ℕ → List Shape → State → IngressNext Preserved Held14
go port layout s = after_ingress.Go port (record { packet = record { layout = layout; state = s }; failed = false })

pub goes_there : (ds : List Decl) (old new : Packet) (spec : ℕ) → spec ≡ old.state.egress_spec → nat_eq spec drop_port ≡ false → new ≡ with_state old (record (without_requests old.state) { events = [] }) → old.layout ≡ layout_of ds → after_ingress.Go spec (record { packet = new; failed = false }) ≡ packed_next ds (going_on old.state)
goes_there ds old new spec same not is laid =
    ap (λ (p : Packet). after_ingress.Go spec (record { packet = p; failed = false })) is
    ∙ (ap₂ (λ (n : ℕ) (l : List Shape). go n l (record (without_requests old.state) { events = [] })) same laid
    ∙ ap (λ (b : Bool). next_by ds b old.state) (sym (test_is old.state spec false same not)))

pub drops_behind : (ds : List Decl) (x : Expanded) (s : State) (spec : ℕ) (due : EgressNext Preserved) → spec ≡ s.egress_spec → nat_eq spec drop_port ≡ true → cond (nat_eq s.egress_spec drop_port) after_egress.Drop due ≡ after_egress.Drop
drops_behind ds x s spec due same is = ap (λ (b : Bool). cond b after_egress.Drop due) (test_is s spec true same is)

pub goes_behind : (ds : List Decl) (x : Expanded) (s : State) (spec : ℕ) (due : EgressNext Preserved) → spec ≡ s.egress_spec → nat_eq spec drop_port ≡ false → cond (nat_eq s.egress_spec drop_port) after_egress.Drop due ≡ due
goes_behind ds x s spec due same is = ap (λ (b : Bool). cond b after_egress.Drop due) (test_is s spec false same is)

-- what is held by its parse

turned : {A : Type 0} (b : Bool) (x y : A) → cond (cond b false true) x y ≡ cond b y x
turned true x y = refl
turned false x y = refl

pub held_by_parse : (c : Setting) (store : Contents) (p : Parse) → after_held c store (held_of p) ≡ after_parsing c store p
held_by_parse c store p = turned (is_accepted p.end) (dropped store) (cond (fails_verification c.decls c.expanded p.state) (dropped store) (ingress_end c.decls c.expanded (control_run c c.expanded.ingress (record { state = p.state; store = store }))))
