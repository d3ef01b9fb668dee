-- The blocks that verify and update, and all controls together.
use Rattle.std.proofs.Common.{◌≡◌, Bool, true, false, cond, List, [], refl, sym, ap, ◌∙◌, subst}
use Rattle.std.specs.Prelude.{filter_map}
use Rattle.p4x_bits.specs.BitLists.{bit}
use Rattle.fabric.specs.declared.items.Event.{Event}
use Rattle.p414_syntax.specs.declared.syntax.Decl.{Decl}
use Rattle.p414_syntax.specs.Lists.{calculated_fields}
use Rattle.p414_sem.specs.CalculatedFields.{fails_verification, updated}
use Rattle.p414_sem.specs.Effects.{Moment as Moment14}
use Rattle.p414_sem.specs.Controls.{Setting as Setting14}
use Rattle.p414_sem.specs.Expanded.{Expanded}
use Rattle.p416_syntax.specs.declared.parsers.Var.{Var}
use Rattle.p416_syntax.specs.Tree.{Stmt16, no_statements}
use Rattle.v1_core.specs.declared.block.Block.{Block}
use Rattle.v1_core.specs.declared.block.Block.TheVariants.{Verify, Ingress, Egress, Compute}
use Rattle.v1_core.specs.Frames.{Moment, of_headers, of_metadata, of_standard, of_variables, of_inner, of_nothing}
use Rattle.v1_core.specs.Surroundings.{Setting, Surroundings, World}
use Rattle.v1_core.specs.Statements.{no_label, run}
use Rattle.v1_core.specs.Blocks.{control_world, with_variables, variables_of, begun, ended, around_control, var_in, control16}
use Rattle.lower_laws_base.specs.Context.{StateLayout, Lowering, words_of, Aside}
use Rattle.lower_laws_controls.specs.Alike.{Level}
use Rattle.lower_laws_controls.specs.Blocks.{HasAll}
use Rattle.lower_laws_controls.proofs.Beginning.{has_begun, block_begins, block_ends}
use Rattle.lower_laws_controls.proofs.Control.{block_is, block_does, block_drops}
use Rattle.lower_laws_sums.specs.Sums.{sums_stmt}
use Rattle.lower_laws_sums.specs.Alike.{ControlsAlike}
use Rattle.lower_laws_sums.proofs.Amid.{Amid}
use Rattle.lower_laws_sums.proofs.Verifying.{verify_fields}
use Rattle.lower_laws_sums.proofs.Updating.{update_fields}
use Rattle.lower_laws_controls.specs.Whole.{BlockIs}
use Rattle.lower_laws_sums.specs.Whole.{SumsAre}

module _ (g : StateLayout) (ds : List Decl) (x : Expanded) (setting : Setting) (which : Block) (updates : Bool) (is : SumsAre g ds x setting which updates) where
  abbrev c : Lowering
  c = is.lowering

  abbrev b : Surroundings
  b = around_control setting which is.control

  abbrev vars : List Var
  vars = filter_map var_in is.control.locals

  abbrev text : Stmt16
  text = sums_stmt (words_of c) ds x updates

  -- the moment at which statements begin, and what they leave
  abbrev start : Moment → Moment
  start n = begun (control_world b) vars n

  goes : (n : Moment) → control16 setting which n ≡ ended (run c.world b.scope no_label text (start n))
  goes n =
      block_is setting which is.control n is.at
      ∙ ap (λ (z : Stmt16). ended (run (control_world b) b.scope no_label z (start n))) is.body_is
      ∙ ap (λ (w : World). ended (run w b.scope no_label text (start n))) (sym is.world)

  begins : (aside : Aside) (m : Moment14) (n : Moment) → Level g aside m n → Amid g c.layout n.frame.events aside m (start n)
  begins aside m n level =
      let v = variables_of b.scope vars in
      let same : start n ≡ with_variables v n = has_begun b.scope (control_world b) vars c.layout.variables (with_variables v n) is.variables in
      record {
        level = block_begins g aside m n c.layout is.inside (control_world b) vars is.variables level;
        all = subst (λ (z : Moment). HasAll g z.frame) (sym same) (all v);
        events_are = ap (λ (z : Moment). z.frame.events) same;
      }
    where
      all : (v : _) → HasAll g (with_variables v n).frame
      all v of_headers there = level.members of_headers there
      all v of_metadata there = level.members of_metadata there
      all v of_standard there = level.members of_standard there
      all v of_variables there = absurd there
      all v of_inner there = absurd there
      all v of_nothing there = absurd there

  ends : (events : List Event) (aside : Aside) (m : Moment14) (n : Moment) → Amid g c.layout events aside m (run c.world b.scope no_label text (start n)) → Level g aside m (control16 setting which n) × ((control16 setting which n).frame.events ≡ events)
  ends events aside m n amid = (
    subst (λ (z : Moment). Level g aside m z) (sym (goes n)) (block_ends g c.layout aside m _ is.inside amid.all amid.level),
    ap (λ (z : Moment). z.frame.events) (goes n) ∙ amid.events_are,
  )

  abbrev Ends : Aside → Moment14 → Moment → Type 0
  Ends aside m n = Level g aside m (control16 setting which n) × ((control16 setting which n).frame.events ≡ n.frame.events)

-- the checksum is 1 exactly where P4_14 raises its exception
pub verify_does : (g : StateLayout) (ds : List Decl) (x : Expanded) (setting : Setting) (which : Block) → SumsAre g ds x setting which false → (aside : Aside) (m : Moment14) (n : Moment) → aside.checksum ≡ 0 → Level g aside m n → Level g (record aside { checksum = bit (fails_verification ds x m.state) }) m (control16 setting which n) × ((control16 setting which n).frame.events ≡ n.frame.events)
verify_does g ds x setting which is aside m n none level =
    subst (λ k. Ends g ds x setting which false is (record aside { checksum = k }) m n) (by (fails_verification ds x m.state))
    (ends g ds x setting which false is n.frame.events _ m n
    (verify_fields g is.lowering _ is.sees is.parameters ds x n.frame.events m aside (calculated_fields ds) is.fits no_statements (start g ds x setting which false is n) refl (begins g ds x setting which false is aside m n level)))
  where
    by : (b : Bool) → cond b 1 aside.checksum ≡ bit b
    by true = refl
    by false = none

-- each field is what its calculation gives
pub compute_does : (g : StateLayout) (ds : List Decl) (x : Expanded) (setting : Setting) (which : Block) → SumsAre g ds x setting which true → (aside : Aside) (m : Moment14) (n : Moment) → Level g aside m n → Level g aside (record m { state = updated ds x m.state }) (control16 setting which n) × ((control16 setting which n).frame.events ≡ n.frame.events)
compute_does g ds x setting which is aside m n level =
    ends g ds x setting which true is n.frame.events aside _ n
    (update_fields g is.lowering _ is.sees is.parameters ds x n.frame.events aside m (calculated_fields ds) is.fits no_statements (start g ds x setting which true is n) refl (begins g ds x setting which true is aside m n level))

-- all controls of a program
pub controls_alike : (g : StateLayout) (c14 : Setting14) (c16 : Setting) → SumsAre g c14.decls c14.expanded c16 Verify false → BlockIs g c14 c16 Ingress true c14.expanded.ingress → BlockIs g c14 c16 Egress false c14.expanded.egress → SumsAre g c14.decls c14.expanded c16 Compute true → ControlsAlike g c14 c16
controls_alike g c14 c16 verify ingress egress compute = record {
  verify = verify_does g c14.decls c14.expanded c16 Verify verify;
  ingress = λ aside m n error checksum level. block_does g c14 c16 Ingress true c14.expanded.ingress ingress aside m n error (λ e. checksum) level;
  egress = λ aside m n error level. block_does g c14 c16 Egress false c14.expanded.egress egress aside m n error (λ e. absurd (cc e)) level;
  failed_ingress = λ n port fails runs there. block_drops g c14 c16 Ingress true c14.expanded.ingress ingress n port fails runs there;
  failed_egress = λ n port fails runs there. block_drops g c14 c16 Egress false c14.expanded.egress egress n port fails runs there;
  compute = compute_does g c14.decls c14.expanded c16 Compute compute;
}
