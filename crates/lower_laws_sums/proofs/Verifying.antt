-- The block that verifies: the checksum is noted where P4_14 raises its exception.
use Rattle.std.proofs.Common.{◌≡◌, eqb, ℕ, ◌%◌, ◌^◌, Bool, true, false, not, ◌&&◌, ◌||◌, cond, List, [], ◌∷◌, Option, Some, None, refl, sym, subst}
use Rattle.std.specs.Prelude.{filter, fold}
use Rattle.std.specs.List.{list_any}
use Rattle.std.specs.Option.{option_map_or}
use Rattle.fabric.specs.declared.items.Event.{Event}
use Rattle.p414_syntax.specs.declared.calculations.Calc.{Calc}
use Rattle.p414_syntax.specs.declared.calculations.CalculatedField.{CalculatedField}
use Rattle.p414_syntax.specs.declared.syntax.Decl.{Decl}
use Rattle.p414_syntax.specs.Lists.{is_verify}
use Rattle.p414_sem.specs.Slots.{Slot, slot_of}
use Rattle.p414_sem.specs.State.{is_live, read as read14}
use Rattle.p414_sem.specs.Effects.{Moment as Moment14}
use Rattle.p414_sem.specs.Expanded.{Expanded}
use Rattle.p414_sem.specs.Calculations.{Calculation, calculation_named, list_bits, summed}
use Rattle.p414_sem.specs.CalculatedFields.{first_holding, entry_result, is_wrong}
use Rattle.p416_syntax.specs.Tree.{Exp16, Stmt16}
use Rattle.p416_syntax.specs.Scopes.{Scope}
use Rattle.p416_syntax.specs.Statements.{behind}
use Rattle.v1_core.specs.Frames.{Frame, Moment, ticked, with_frame}
use Rattle.v1_core.specs.Statements.{no_label, run}
use Rattle.lower_laws_base.specs.Context.{StateLayout, Lowering, words_of, now, Aside, Sees, Looks}
use Rattle.lower_laws_controls.specs.Listing.{Each}
use Rattle.lower_laws_controls.proofs.Listing.{each_filter}
use Rattle.lower_laws_controls.proofs.Statements.{looks_at}
use Rattle.lower_laws_sums.specs.Sums.{header_exp, field_stmt, sum_stmt, OptionFits, EntryFits, FieldFits}
use Rattle.lower_laws_sums.proofs.Amid.{Amid, amid_ticked, noted, all_noted, level_noted}
use Rattle.lower_laws_sums.proofs.Calls.{sum_runs}
use Rattle.lower_laws_sums.proofs.Chain.{Asks, Works, chain}
use Rattle.lower_laws_sums.proofs.Telling.{shows_calc, asks_header, header_slot}

module _ (g : StateLayout) (c : Lowering) (s : Scope) (sees : Sees c s []) (none : c.parameters ≡ []) (ds : List Decl) (x : Expanded) (events : List Event) (m : Moment14) where
  abbrev Here : Aside → Moment → Type 0
  Here aside n = Amid g c.layout events aside m n

  abbrev with_checksum : Aside → Bool → Aside
  with_checksum aside b = record aside { checksum = cond b 1 aside.checksum }

  looks : (aside : Aside) (n : Moment) → Here aside n → Looks c s [] [] [] now m.state n.frame
  looks aside n here = looks_at c s sees none aside m n here.level

  module _ (aside : Aside) (f : CalculatedField) (fits : FieldFits c.layout ds x f) where
    abbrev slot : Slot
    slot = slot_of ds f.field

    abbrev is_off : Calc → Bool
    is_off k = not (eqb (entry_result ds x m.state k) (read14 m.state slot))

    abbrev after : Option Calc → Aside
    after o = with_checksum aside (option_map_or is_off o false)

    works : Works c.world s (words_of c) ds x false slot m.state (λ o n. Here (after o) n) (EntryFits c.layout ds x slot)
    works = record {
      tells = λ k q fit is o n here. shows_calc c s m.state n (looks (after o) n here) ds slot q (subst (OptionFits c.layout ds slot) is fit.condition);
      fires = fires;
      skips = λ k fit e o n steady here.
          let began = amid_ticked g c.layout events (after o) m n here in
          subst (λ z. Here (after o) z) (sym (sum_runs c s m.state n (looks (after o) (ticked n) began) ds false slot e false (calculation_named ds x k.calculation) here.level.both.packet.runs here.level.both.packet.unparsed (header_slot c.layout slot fits.slot) (steady o (ticked n) began) fit.items)) began;
    } where
      fires : (k : Calc) → EntryFits c.layout ds x slot k → (e : Exp16) (n : Moment) → ((o : Option Calc) (n : Moment) → Here (after o) n → Asks c.world s e true n) → Here (after None) n → Here (after (Some k)) (run c.world s no_label (sum_stmt (words_of c) ds false slot e (calculation_named ds x k.calculation)) n)
      fires k fit e n steady here =
          subst (λ z. Here (after (Some k)) z) (sym (sum_runs c s m.state n (looks aside (ticked n) began) ds false slot e true calc here.level.both.packet.runs here.level.both.packet.unparsed (header_slot c.layout slot fits.slot) (steady None (ticked n) began) fit.items))
          (subst (λ w. Here (after (Some k)) (cond (not (eqb (result % 2 ^ w) (read14 m.state slot))) (with_frame (ticked n) marked) (ticked n))) fit.width (by (is_off k)))
        where
          began : Here aside (ticked n)
          began = amid_ticked g c.layout events aside m n here

          calc : Calculation
          calc = calculation_named ds x k.calculation

          result : ℕ
          result = summed calc.algorithm (list_bits ds m.state calc.items)

          marked : Frame
          marked = noted c.layout aside m (ticked n) began.level

          by : (b : Bool) → Here (with_checksum aside b) (cond b (with_frame (ticked n) marked) (ticked n))
          by false = began
          by true = record { level = level_noted c.layout aside m (ticked n) began.level; all = all_noted c.layout aside m (ticked n) began.level g began.all; events_are = began.events_are }

    verify_field : (before : Stmt16) (n : Moment) → behind before s ≡ s → Here aside (run c.world s no_label before n) → (behind (field_stmt (words_of c) ds x false before f) s ≡ s) × Here (with_checksum aside (is_wrong ds x m.state f)) (run c.world s no_label (field_stmt (words_of c) ds x false before f) n)
    verify_field before n stays here =
        let live = is_live m.state slot in
        let entries = filter is_verify f.entries in
        let made = chain c.world s (words_of c) ds x false slot m.state (λ o n. Here (after o) n) (EntryFits c.layout ds x slot) works entries (each_filter (EntryFits c.layout ds x slot) is_verify f.entries fits.entries) before (header_exp (words_of c) slot) live None n stays
        (λ o n2 here2. asks_header c s m.state n2 (looks (after o) n2 here2) ds slot fits.slot) (λ e. refl) here in
        (made.0, subst (λ (z : Aside). Here z (run c.world s no_label (field_stmt (words_of c) ds x false before f) n)) (by live (first_holding ds m.state entries)) made.1)
      where
        by : (live : Bool) (o : Option Calc) → after (cond live o None) ≡ with_checksum aside (live && option_map_or is_off o false)
        by true o = refl
        by false o = refl

  pub verify_fields : (aside : Aside) (fs : List CalculatedField) → Each (FieldFits c.layout ds x) fs → (before : Stmt16) (n : Moment) → behind before s ≡ s → Here aside (run c.world s no_label before n) → Here (with_checksum aside (list_any (is_wrong ds x m.state) fs)) (run c.world s no_label (fold (field_stmt (words_of c) ds x false) before fs) n)
  verify_fields aside [] fits before n stays here = here
  verify_fields aside (f ∷ fs) fits before n stays here =
      let one = verify_field aside f fits.0 before n stays here in
      subst (λ (z : Aside). Here z (run c.world s no_label (fold (field_stmt (words_of c) ds x false) before (f ∷ fs)) n)) (by (is_wrong ds x m.state f) (list_any (is_wrong ds x m.state) fs))
      (verify_fields (with_checksum aside (is_wrong ds x m.state f)) fs fits.1 (field_stmt (words_of c) ds x false before f) n one.0 one.1)
    where
      by : (a b : Bool) → with_checksum (with_checksum aside a) b ≡ with_checksum aside (a || b)
      by true true = refl
      by true false = refl
      by false true = refl
      by false false = refl
