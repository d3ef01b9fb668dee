-- The block that updates: each field becomes what its calculation gives, in order.
use Rattle.std.proofs.Common.{◌≡◌, ℕ, ◌%◌, ◌^◌, Bool, true, false, cond, List, [], ◌∷◌, Option, Some, None, refl, sym, ap, ◌∙◌, subst}
use Rattle.std.specs.Prelude.{filter, fold, pos}
use Rattle.std.proofs.Math.Nat.{mod-eq_of_lt}
use Rattle.std.proofs.lemmas.Nat.{mod_below, pow_pos}
use Rattle.fabric.specs.declared.items.Event.{Event}
use Rattle.p414_syntax.specs.declared.calculations.Calc.{Calc}
use Rattle.p414_syntax.specs.declared.calculations.CalcCond.{CalcCond}
use Rattle.p414_syntax.specs.declared.calculations.CalculatedField.{CalculatedField}
use Rattle.p414_syntax.specs.declared.syntax.Decl.{Decl}
use Rattle.p414_syntax.specs.Lists.{is_update}
use Rattle.p414_sem.specs.Wholes.{wrapped}
use Rattle.p414_sem.specs.Slots.{Slot, slot_of, bits_of_ref}
use Rattle.p414_sem.specs.State.{is_live, written}
use Rattle.p414_sem.specs.Effects.{Moment as Moment14}
use Rattle.p414_sem.specs.Expanded.{Expanded}
use Rattle.p414_sem.specs.Calculations.{Calculation, calculation_named, list_bits, summed}
use Rattle.p414_sem.specs.CalculatedFields.{condition_holds, first_holding, entry_result, updated_by, updated_field}
use Rattle.p416_syntax.specs.Tree.{Exp16, Stmt16}
use Rattle.p416_syntax.specs.Kinds.{boolean}
use Rattle.p416_syntax.specs.Scopes.{Scope}
use Rattle.p416_syntax.specs.Statements.{behind}
use Rattle.v1_core.specs.Values.{a_number, a_truth, width_in as width_of_value}
use Rattle.v1_core.specs.Frames.{Moment, Reference, ticked, number_put_at, read}
use Rattle.v1_core.specs.Statements.{no_label, run}
use Rattle.agreement_of_meanings.specs.Shown.{slot_reference, slot_width}
use Rattle.lower_laws_base.specs.Context.{StateLayout, Lowering, words_of, instances_of, now, Aside, Sees, Looks}
use Rattle.lower_laws_base.proofs.States.{Leaves}
use Rattle.lower_laws_base.proofs.Writes.{leaves_slot, value_written}
use Rattle.lower_laws_controls.specs.Alike.{Level}
use Rattle.lower_laws_controls.specs.Listing.{Each}
use Rattle.lower_laws_controls.proofs.Listing.{each_filter}
use Rattle.lower_laws_controls.proofs.Statements.{looks_at}
use Rattle.lower_laws_sums.specs.Sums.{condition_exp, header_exp, field_stmt, sum_stmt, OptionFits, EntryFits, FieldFits}
use Rattle.lower_laws_sums.proofs.Amid.{Amid, amid_ticked, all_left}
use Rattle.lower_laws_sums.proofs.Calls.{sum_runs}
use Rattle.lower_laws_sums.proofs.Chain.{Asks, Works, chain}
use Rattle.lower_laws_sums.proofs.Telling.{shows_calc, asks_header, header_slot, condition_after, live_after}
use Rattle.lower_laws_base.specs.Gives.{Shows}

module _ (g : StateLayout) (c : Lowering) (s : Scope) (sees : Sees c s []) (none : c.parameters ≡ []) (ds : List Decl) (x : Expanded) (events : List Event) (aside : Aside) where
  abbrev Here : Moment14 → Moment → Type 0
  Here m n = Amid g c.layout events aside m n

  looks : (m : Moment14) (n : Moment) → Here m n → Looks c s [] [] [] now m.state n.frame
  looks m n here = looks_at c s sees none aside m n here.level

  module _ (m : Moment14) (f : CalculatedField) (fits : FieldFits c.layout ds x f) where
    abbrev slot : Slot
    slot = slot_of ds f.field

    abbrev after : Option Calc → Moment14
    after o = record m { state = updated_by ds x m.state f o }

    -- neither conditions nor the header are touched by an update
    conditions : (o : Option Calc) (n : Moment) → Here m n → (k : CalcCond) → OptionFits c.layout ds slot (Some k) → condition_holds ds (after o).state k ≡ condition_holds ds m.state k
    conditions None n here k fit = refl
    conditions (Some e) n here k fit = condition_after c.layout m.state here.level.shaped slot fits.slot _ ds k fit

    live : (o : Option Calc) (n : Moment) → Here m n → is_live (after o).state slot ≡ is_live m.state slot
    live None n here = refl
    live (Some e) n here = live_after c.layout m.state here.level.shaped slot fits.slot _

    module _ (start : Moment) (first : Here m start) where
      works : Works c.world s (words_of c) ds x true slot m.state (λ o n. Here (after o) n) (EntryFits c.layout ds x slot)
      works = record {
        tells = λ k q fit is o n here.
            let fit_it = subst (OptionFits c.layout ds slot) is fit.condition in
            subst (λ b. Shows c.world s n (condition_exp (words_of c) ds q) boolean (a_truth b)) (conditions o start first q fit_it)
            (shows_calc c s (after o).state n (looks (after o) n here) ds slot q fit_it);
        fires = fires;
        skips = λ k fit e o n steady here.
            let began = amid_ticked g c.layout events aside (after o) n here in
            subst (λ z. Here (after o) z) (sym (sum_runs c s (after o).state n (looks (after o) (ticked n) began) ds true slot e false (calculation_named ds x k.calculation) here.level.both.packet.runs here.level.both.packet.unparsed (header_slot c.layout slot fits.slot) (steady o (ticked n) began) fit.items)) began;
      } where
        fires : (k : Calc) → EntryFits c.layout ds x slot k → (e : Exp16) (n : Moment) → ((o : Option Calc) (n : Moment) → Here (after o) n → Asks c.world s e true n) → Here (after None) n → Here (after (Some k)) (run c.world s no_label (sum_stmt (words_of c) ds true slot e (calculation_named ds x k.calculation)) n)
        fires k fit e n steady here =
            subst (λ z. Here (after (Some k)) z) (sym (sum_runs c s m.state n (looks m (ticked n) began) ds true slot e true calc here.level.both.packet.runs here.level.both.packet.unparsed (header_slot c.layout slot fits.slot) (steady None (ticked n) began) fit.items))
            (record {
              level = subst (λ i. Level c.layout aside (record m { state = written m.state slot i }) (number_put_at to result (ticked n))) kept (value_written c s [] sees [] aside m (ticked n) began.level slot (a_number width result) (header_slot c.layout slot fits.slot));
              all = all_left g (ticked n).frame _ left began.all;
              events_are = left.events ∙ began.events_are;
            })
          where
            began : Here m (ticked n)
            began = amid_ticked g c.layout events aside m n here

            calc : Calculation
            calc = calculation_named ds x k.calculation

            result : ℕ
            result = summed calc.algorithm (list_bits ds m.state calc.items)

            to : Reference
            to = slot_reference (instances_of c) slot

            width : ℕ
            width = width_of_value (read (ticked n).frame to)

            left : Leaves (ticked n).frame (number_put_at to result (ticked n)).frame
            left = leaves_slot (instances_of c) slot (a_number width result) (ticked n).frame

            w : ℕ
            w = slot_width c.layout.names.instances slot

            kept : result % 2 ^ w ≡ wrapped (bits_of_ref ds f.field) (pos (entry_result ds x m.state k))
            kept =
                sym (mod-eq_of_lt (mod_below result (2 ^ w) (pow_pos w)))
                ∙ ap (λ j. result % 2 ^ j % 2 ^ w) (sym fit.width)
                ∙ ap (λ j. result % 2 ^ calc.width % 2 ^ j) fits.width

    update_field : (before : Stmt16) (n : Moment) → behind before s ≡ s → Here m (run c.world s no_label before n) → (behind (field_stmt (words_of c) ds x true before f) s ≡ s) × Here (record m { state = updated_field ds x m.state f }) (run c.world s no_label (field_stmt (words_of c) ds x true before f) n)
    update_field before n stays here =
        let start = run c.world s no_label before n in
        let valid = is_live m.state slot in
        let entries = filter is_update f.entries in
        let made = chain c.world s (words_of c) ds x true slot m.state (λ o n. Here (after o) n) (EntryFits c.layout ds x slot) (works start here) entries (each_filter (EntryFits c.layout ds x slot) is_update f.entries fits.entries) before (header_exp (words_of c) slot) valid None n stays
        (λ o n2 here2. subst (λ b. Asks c.world s (header_exp (words_of c) slot) b n2) (live o start here) (asks_header c s (after o).state n2 (looks (after o) n2 here2) ds slot fits.slot)) (λ e. refl) here in
        (made.0, subst (λ (z : Moment14). Here z (run c.world s no_label (field_stmt (words_of c) ds x true before f) n)) (by valid (first_holding ds m.state entries)) made.1)
      where
        by : (valid : Bool) (o : Option Calc) → after (cond valid o None) ≡ record m { state = cond valid (updated_by ds x m.state f o) m.state }
        by true o = refl
        by false o = refl

  pub update_fields : (m : Moment14) (fs : List CalculatedField) → Each (FieldFits c.layout ds x) fs → (before : Stmt16) (n : Moment) → behind before s ≡ s → Here m (run c.world s no_label before n) → Here (record m { state = fold (updated_field ds x) m.state fs }) (run c.world s no_label (fold (field_stmt (words_of c) ds x true) before fs) n)
  update_fields m [] fits before n stays here = here
  update_fields m (f ∷ fs) fits before n stays here =
      let one = update_field m f fits.0 before n stays here in
      update_fields (record m { state = updated_field ds x m.state f }) fs fits.1 (field_stmt (words_of c) ds x true before f) n one.0 one.1
