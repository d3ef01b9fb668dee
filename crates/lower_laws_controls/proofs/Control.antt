-- Whole controls: their tables, their guard, their beginning and their end.
use Rattle.std.proofs.Common.{◌≡◌, ℕ, Bool, true, Option, Some, None, List, [], refl, sym, ap, ◌∙◌, subst}
use Rattle.std.specs.Prelude.{filter_map, codes}
use Rattle.fabric.specs.declared.items.RequestKind.{RequestKind}
use Rattle.fabric.specs.declared.items.RequestKind.TheVariants.{CloneI2E, CloneE2E, Resubmit, Recirculate}
use Rattle.p414_syntax.specs.Tree.{Stmt}
use Rattle.p414_syntax.specs.Names.{Name}
use Rattle.p414_sem.specs.Effects.{Moment as Moment14}
use Rattle.p414_sem.specs.Controls.{Setting as Setting14, Applied as Applied14, applied as applied14, found as found14, application_of, control_run}
use Rattle.p416_syntax.specs.declared.parsers.Var.{Var}
use Rattle.p416_syntax.specs.declared.controls.Control16.{Control16}
use Rattle.p416_syntax.specs.declared.controls.Table16.{Table16}
use Rattle.p416_syntax.specs.Tree.{Stmt16}
use Rattle.p416_syntax.specs.Kinds.{table}
use Rattle.p416_syntax.specs.Scopes.{Scope}
use Rattle.v1_core.specs.declared.block.Block.{Block}
use Rattle.v1_core.specs.Values.{Value, a_number, an_error, number_in, to_member, member_in, part_of, with_part, with_member, fitted, width_in}
use Rattle.v1_core.specs.Frames.{Moment, of_standard, whole, ticked, request_of}
use Rattle.v1_core.specs.Surroundings.{Setting, Surroundings, World, Applied}
use Rattle.v1_core.specs.Tables.{applied_in, found as found16, applied_by}
use Rattle.v1_core.specs.Externs.Ports.{mark_to_drop}
use Rattle.v1_core.specs.Statements.{no_label, run}
use Rattle.v1_core.specs.Blocks.{act, control_world, with_variables, variables_of, begun, ended, control_at, around_control, var_in, run_control, run_block, control16}
use Rattle.agreement_of_meanings.proofs.Names.{is_there, part_is, put_is, member_same, member_other, differ_names}
use Rattle.lower_laws_base.specs.Context.{StateLayout, Lowering, words_of, Aside}
use Rattle.lower_laws_controls.specs.Controls.{Plan, block, control_stmt}
use Rattle.lower_laws_controls.specs.Alike.{Level, AppliedAgrees, TableStands}
use Rattle.lower_laws_controls.specs.Guards.{guarded_stmt, IsClear, Fails}
use Rattle.lower_laws_controls.specs.Blocks.{IsDropped}
use Rattle.lower_laws_controls.proofs.Applying.{application_alike}
use Rattle.lower_laws_controls.proofs.Guards.{guarded_does, guarded_drops}
use Rattle.lower_laws_controls.proofs.Beginning.{has_begun, block_begins, block_ends, has_all}
use Rattle.lower_laws_controls.specs.Whole.{BlockIs, ControlIs, TableFound}

pub table_stands : (c : Lowering) (s : Scope) (d : Setting14) (b : Surroundings) (k : Plan) → c.world ≡ control_world b → (name : Name) → TableFound c s d b k name → TableStands c s d k name
table_stands c s d b k world name found = record {
  sort = found.sort;
  copies = found.copies;
  applies = λ aside m n stands.
      subst (λ (x : Applied14). AppliedAgrees c.layout aside (k.copy name) x (c.world.apply (k.table name) n)) (sym (is14 m))
      (subst (λ (y : Applied). AppliedAgrees c.layout aside (k.copy name) (application_of d found.t (found14 d m.state found.t) m) y) (sym (is16 n))
      (application_alike c.layout d b (act b) (k.copy name) found.t found.u found.alike aside m n stands));
} where
  is14 : (m : Moment14) → applied14 d name m ≡ application_of d found.t (found14 d m.state found.t) m
  is14 m = rw found.declared14 refl

  is16 : (n : Moment) → c.world.apply (k.table name) n ≡ applied_by b (act b) found.u (found16 b n found.u) n
  is16 n = ap (λ (w : World). w.apply (k.table name) n) world ∙ ap (λ (o : Option Table16). applied_in b (act b) o n) found.declared16

-- what a packet is like that is dropped
pub is_dropped : (n : Moment) (v : Value) (x : ℕ) → member_in n.frame.standard (codes "egress_spec") ≡ a_number 9 x → IsDropped n (ended (mark_to_drop (whole of_standard) (ticked (ticked (with_variables v n)))))
is_dropped n v x there =
    let s = n.frame.standard in
    let word = codes "egress_spec" in
    let part : part_of s (to_member word) ≡ a_number 9 x = part_is s word (ap is_there there) ∙ there in
    let new : with_part s (to_member word) (fitted (part_of s (to_member word)) (a_number (width_in (part_of s (to_member word))) 511)) ≡ with_member s word (a_number 9 511) = ap (λ v. with_part s (to_member word) (fitted v (a_number (width_in v) 511))) part ∙ put_is s word (a_number 9 511) (ap is_there there) in
    let own : member_in (with_member s word (a_number 9 511)) word ≡ a_number 9 511 = member_same s word (a_number 9 511) (ap is_there there) in
    record {
      store = refl;
      events = refl;
      requests = requests;
      port = ap (λ z. number_in (part_of z (to_member word))) new ∙ ap number_in (part_is (with_member s word (a_number 9 511)) word (ap is_there own) ∙ own);
      error = ap (λ z. member_in z (codes "parser_error")) new ∙ member_other s word (codes "parser_error") (a_number 9 511) (differ_names word (codes "parser_error") refl);
      checksum = ap (λ z. member_in z (codes "checksum_error")) new ∙ member_other s word (codes "checksum_error") (a_number 9 511) (differ_names word (codes "checksum_error") refl);
    }
  where
    requests : (kind : RequestKind) → request_of (ended (mark_to_drop (whole of_standard) (ticked (ticked (with_variables v n))))).frame kind ≡ request_of n.frame kind
    requests CloneI2E = refl
    requests CloneE2E = refl
    requests Resubmit = refl
    requests Recirculate = refl

module _ (g : StateLayout) (c : Lowering) (d : Setting14) (b : Surroundings) (k : Plan) (checks : Bool) (body : Stmt) (control : Control16) (is : ControlIs g c d b k checks body control) where
  abbrev vars : List Var
  vars = filter_map var_in control.locals

  abbrev text : Stmt16
  text = guarded_stmt (words_of c) checks (control_stmt (words_of c) d.decls k block body)

  goes : (n : Moment) → run_control (control_world b) control n ≡ ended (run c.world b.scope no_label text (begun (control_world b) vars n))
  goes n =
      ap (λ (x : Stmt16). ended (run (control_world b) b.scope no_label x (begun (control_world b) vars n))) is.body_is
      ∙ ap (λ (w : World). ended (run w b.scope no_label text (begun (control_world b) vars n))) (sym is.world)

  -- Where nothing failed, the control does what the control of P4_14 does, and leaves the errors as they were.
  pub control_does : (aside : Aside) (m : Moment14) (n : Moment) → aside.error ≡ 0 → (checks ≡ true → aside.checksum ≡ 0) → Level g aside m n → Level g aside (control_run d body m) (run_control (control_world b) control n)
  control_does aside m n error checksum stands =
      let inside = block_begins g aside m n c.layout is.inside (control_world b) vars is.variables stands in
      let clear : IsClear checks (begun (control_world b) vars n).frame = record { error = inside.error ∙ ap (λ e. an_error e) error; checksum = λ e. inside.checksum ∙ ap (a_number 1) (checksum e) } in
      let done = guarded_does c b.scope is.sees is.parameters is.standard aside d k (TableFound c b.scope d b k) (table_stands c b.scope d b k is.world) checks body is.fits m (begun (control_world b) vars n) clear inside in
      subst (λ (x : Moment). Level g aside (control_run d body m) x) (sym (goes n))
      (block_ends g c.layout aside _ _ is.inside (has_all g c.layout aside _ _ is.inside is.all done) done)

  -- And else the packet is dropped, and nothing else happens.
  pub control_drops : (n : Moment) (x : ℕ) → Fails checks n.frame → n.stopped ≡ None → member_in n.frame.standard (codes "egress_spec") ≡ a_number 9 x → IsDropped n (run_control (control_world b) control n)
  control_drops n x fails runs port =
      let v = variables_of b.scope vars in
      let bare : Aside = record { error = 0; checksum = 0; emitted = []; hit = None } in
      let begins : begun (control_world b) vars n ≡ with_variables v n = has_begun b.scope (control_world b) vars c.layout.variables (with_variables v n) is.variables in
      subst (λ (z : Moment). IsDropped n z) (sym (goes n
      ∙ ap (λ (z : Moment). ended (run c.world b.scope no_label text z)) begins
      ∙ ap ended (guarded_drops c b.scope is.sees is.parameters is.standard bare d k (TableFound c b.scope d b k) (table_stands c b.scope d b k is.world) checks (control_stmt (words_of c) d.decls k block body) (with_variables v n) fails refl runs)))
      (is_dropped n v x port)

-- the control that stands for a block
pub block_is : (setting : Setting) (which : Block) (control : Control16) (n : Moment) → control_at setting.syntax which ≡ Some control → control16 setting which n ≡ run_control (control_world (around_control setting which control)) control n
unfolding control16
block_is setting which control n at = ap (λ (o : Option Control16). run_block setting which o n) at

-- The laws of ingress and egress, over the meaning of the block itself.

module _ (g : StateLayout) (d : Setting14) (setting : Setting) (which : Block) (checks : Bool) (body : Stmt) (is : BlockIs g d setting which checks body) where
  pub block_does : (aside : Aside) (m : Moment14) (n : Moment) → aside.error ≡ 0 → (checks ≡ true → aside.checksum ≡ 0) → Level g aside m n → Level g aside (control_run d body m) (control16 setting which n)
  block_does aside m n error checksum stands =
      subst (λ (x : Moment). Level g aside (control_run d body m) x) (sym (block_is setting which is.control n is.at))
      (control_does g is.lowering d (around_control setting which is.control) is.plan checks body is.control is.is aside m n error checksum stands)

  pub block_drops : (n : Moment) (x : ℕ) → Fails checks n.frame → n.stopped ≡ None → member_in n.frame.standard (codes "egress_spec") ≡ a_number 9 x → IsDropped n (control16 setting which n)
  block_drops n x fails runs port =
      subst (λ (z : Moment). IsDropped n z) (sym (block_is setting which is.control n is.at))
      (control_drops g is.lowering d (around_control setting which is.control) is.plan checks body is.control is.is n x fails runs port)
