-- The program that is written fits, field by field, so it carries the program of P4_14.
use Rattle.std.proofs.Common.{◌≡◌, inl, inr, Bool, true, false, ◌&&◌, Some, List, [], ◌∷◌, map, refl, ◌∙◌, subst}
use Rattle.std.specs.Prelude.{codes}
use Rattle.std.specs.List.{list_all}
use Rattle.match_core.specs.declared.entries.Entries.{Entries}
use Rattle.p414_syntax.specs.declared.parsers.Parser.{Parser}
use Rattle.p414_syntax.specs.declared.parsers.Return.{Return}
use Rattle.p414_syntax.specs.declared.parsers.Return.TheVariants as end_of
use Rattle.p414_syntax.specs.declared.parsers.PValue.{PValue}
use Rattle.p414_syntax.specs.declared.syntax.Decl.{Decl}
use Rattle.p414_syntax.specs.declared.syntax.Decl.TheVariants as decl
use Rattle.p414_syntax.specs.declared.syntax.Rule14.{Rule14}
use Rattle.p414_syntax.specs.declared.syntax.Sort.TheVariants as sort
use Rattle.p414_syntax.specs.declared.tables.Table.{Table}
use Rattle.p414_syntax.specs.Attributes.{reads_of}
use Rattle.p414_syntax.specs.Conditions.{is_decl, is_pstmt, is_return, is_some_listed, is_select_value}
use Rattle.p414_syntax.specs.Names.{Name, names_in}
use Rattle.p414_syntax.specs.ControlExpansion.{ingress as ingress_name, egress as egress_name}
use Rattle.p414_syntax.specs.Lists.{calculated_fields}
use Rattle.p414_syntax.specs.Tables.{tables}
use Rattle.p414_sem.specs.Controls.{Setting as Setting14}
use Rattle.p414_sem.specs.Expanded.{Expanded}
use Rattle.p414_sem.specs.Parsing.{state_named}
use Rattle.p414_sem.specs.Signatures.{parameter_widths}
use Rattle.p416_syntax.specs.declared.controls.Control16.{Control16}
use Rattle.p416_syntax.specs.declared.program.Decl16.TheVariants as decl16
use Rattle.v1_core.specs.declared.block.Block.TheVariants.{Verify, Ingress, Egress, Compute}
use Rattle.v1_core.specs.Blocks.{control_at, control_called, around_control, act}
use Rattle.lower_laws_names.specs.Copies.{Copy}
use Rattle.lower_laws_base.specs.Context.{StateLayout, Lowering}
use Rattle.lower_laws_base.specs.Alike.{ActsAlike}
use Rattle.lower_laws_parser.specs.Parsing.{IsSome}
use Rattle.lower_laws_controls.specs.Expanding.{ControlsFit}
use Rattle.lower_laws_controls.specs.Keys.{KeysFit}
use Rattle.lower_laws_controls.specs.Listing.{Each}
use Rattle.lower_laws_controls.proofs.Whole.{NamesSame, signature_same}
use Rattle.lower_laws_sums.specs.Sums.{FieldFits}
use Rattle.lower_laws_program.specs.Program.{Parts, decls_of, syntax_of, DeclaresOnce}
use Rattle.lower_laws_program.specs.Scopes.{block_layout}
use Rattle.lower_laws_program.specs.Controls.{checksum_block}
use Rattle.lower_laws_program.specs.Fits.{pipeline_block, ActionCopy, ActionsFit, setting_of, with_entries, layout_at, SelectHas, TranslationFits, Carries}
use Rattle.lower_laws_program.proofs.Layouts.{decls_once}
use Rattle.lower_laws_program.proofs.Tops.{control_has, has_behind}
use Rattle.lower_laws_program.proofs.Carries.{translation_carries}
use Rattle.lower_laws_program.proofs.Fit.{controls_fit}
use Rattle.lower_laws_states.specs.Expansions.{Has}
use Rattle.lower_laws_states.proofs.Accepted.{state_has}
use Rattle.lower_laws_states.proofs.Members.{mapped_has}
use Rattle.lower_laws_premises.proofs.Literals.{all_pass}
use Rattle.lower_laws_declared.specs.Layout.{program_layout, layout_shaped, type_words}
use Rattle.lower_laws_declared.specs.Objects.{objects_by_number}
use Rattle.lower_laws_declared.proofs.Numbers.{declared_once}
use Rattle.lower_laws_declared.proofs.TypesFit.{types_fit}
use Rattle.lower_laws_declared.proofs.Whole.{parts_parser, parts_deparser}
use Rattle.lower_laws_translated.specs.Given.{IsGiven}
use Rattle.lower_laws_translated.specs.Translated.{number_in, counter_in, copies_in, action_written, rule_in, translated}
use Rattle.lower_laws_translated.proofs.Parts.{parts_are}
use Rattle.lower_laws_translated.proofs.Acts.{copy_acts}
use Rattle.lower_laws_translated.proofs.Standing.{of_ingress, of_egress}
use Rattle.lower_laws_premises.specs.Shown.{Shows}
use Rattle.lower_laws_translated.proofs.Calculated.{fields_fit}
use Rattle.lower_laws_translated.proofs.Conditions.{controls_fit as statements_fit}
use Rattle.lower_laws_translated.proofs.Keys.{keys_fit}
use Rattle.lower_laws_translated.proofs.Names.{same_names}
use Rattle.lower_laws_translated.proofs.Shown.{within, within_shows}
use Rattle.lower_laws_translated.proofs.Pipelines.{block_is}
use Rattle.lower_laws_translated.proofs.Sums.{sums_are}

-- what the statements, keys and sums of the program are measured by

abbrev pub pipeline_layout : List Decl → Entries → Rule14 → StateLayout
pipeline_layout ds entries r = block_layout (program_layout ds entries) (pipeline_block r (objects_by_number ds))

abbrev pub sums_layout : List Decl → Entries → StateLayout
sums_layout ds entries = block_layout (program_layout ds entries) (checksum_block (objects_by_number ds))

-- what doesn't depend on entries
pub no_entries : Entries
no_entries = record { tables = []; sessions = []; colours = [] }

module _ (ds : List Decl) (x : Expanded) (given : IsGiven ds x) (under : Rule14) (entries_first : Entries) where
  abbrev p : Parts
  p = translated ds x under

  abbrev g : StateLayout
  g = layout_shaped ds []

  abbrev c14 : Setting14
  c14 = record { decls = ds; expanded = x; rule = under; entries = entries_first }

  once : DeclaresOnce p
  once = declared_once ds given.none given.short x p (parts_are ds x under)

  at_top : (c : Control16) → Has (decls_of p) (decl16.Control c) → control_called (decls_of p) c.name ≡ Some c
  at_top c h = control_has (decls_of p) c (decls_once g ds x (type_words ds x) p (types_fit ds x given.none given.expanded given.short []) once) h

  verify_at : control_at (syntax_of p) Verify ≡ Some p.verify
  verify_at = at_top p.verify (has_behind p.types _ _ (inr (inl refl)))

  ingress_at : control_at (syntax_of p) Ingress ≡ Some p.ingress
  ingress_at = at_top p.ingress (has_behind p.types _ _ (inr (inr (inl refl))))

  egress_at : control_at (syntax_of p) Egress ≡ Some p.egress
  egress_at = at_top p.egress (has_behind p.types _ _ (inr (inr (inr (inl refl)))))

  compute_at : control_at (syntax_of p) Compute ≡ Some p.compute
  compute_at = at_top p.compute (has_behind p.types _ _ (inr (inr (inr (inr (inl refl))))))

  -- what stands around a statement of ingress or egress
  abbrev around : Entries → Rule14 → Lowering
  around entries r = within ds given.none given.short x given.expanded entries r [] (around_control (setting_of p entries) Ingress p.ingress) 0

  shown : (entries : Entries) (r : Rule14) → Shows (around entries r) ds
  shown entries r = within_shows ds given.none given.short x given.expanded entries r [] (around_control (setting_of p entries) Ingress p.ingress) 0

  keys : (entries : Entries) (r : Rule14) (t : Table) → Has (tables ds) t → KeysFit (pipeline_layout ds entries r) ds (reads_of t.attributes)
  keys entries r = keys_fit (around entries r) ds given.none (shown entries r).instances (shown entries r).roots

  conditions : (entries : Entries) (r : Rule14) → ControlsFit (pipeline_layout ds entries r) ds (λ (n : Name). Has (names_in sort.Table ds) n)
  conditions entries r = statements_fit (around entries r) ds given.none given.spelt (shown entries r).instances (shown entries r).roots

  fields : (entries : Entries) → Each (FieldFits (sums_layout ds entries) ds x) (calculated_fields ds)
  fields entries = fields_fit ds x given entries (around_control (setting_of p entries) Ingress p.ingress)

  same : (entries : Entries) → NamesSame ds (syntax_of p)
  same entries = same_names ds x given under entries (keys entries (rule_in ds x under false)) (keys entries (rule_in ds x under true))

  -- the copies of a pipeline
  abbrev copy_of : Copy → ActionCopy
  copy_of c = record { action = number_in ds c; widths = parameter_widths ds (number_in ds c); direct = counter_in ds c; written = action_written ds x under c }

  abbrev copies_of : Bool → List ActionCopy
  copies_of e = map copy_of (copies_in ds x e)

  ingress_acts : (entries : Entries) → ActionsFit (layout_at g c14 entries) (with_entries c14 entries) (setting_of p entries) (rule_in ds x under false) (objects_by_number ds) Ingress p.ingress (copies_of false)
  ingress_acts entries k h =
      let c = mapped_has copy_of (copies_in ds x false) k h in
      subst (λ (k : ActionCopy). ActsAlike (pipeline_layout ds entries (rule_in ds x under false)) (with_entries c14 entries) (around_control (setting_of p entries) Ingress p.ingress) (act (around_control (setting_of p entries) Ingress p.ingress)) k.direct k.action k.widths k.written) c.2
      (copy_acts ds x given under entries false (codes "I") x.ingress Ingress refl c.0 c.1)

  egress_acts : (entries : Entries) → ActionsFit (layout_at g c14 entries) (with_entries c14 entries) (setting_of p entries) (rule_in ds x under true) (objects_by_number ds) Egress p.egress (copies_of true)
  egress_acts entries k h =
      let c = mapped_has copy_of (copies_in ds x true) k h in
      subst (λ (k : ActionCopy). ActsAlike (pipeline_layout ds entries (rule_in ds x under true)) (with_entries c14 entries) (around_control (setting_of p entries) Egress p.egress) (act (around_control (setting_of p entries) Egress p.egress)) k.direct k.action k.widths k.written) c.2
      (copy_acts ds x given under entries true (codes "E") x.egress Egress refl c.0 c.1)

  -- a select has a value, as each that was read
  selects : (called : Name) (y : Parser) → state_named ds called ≡ Some y → SelectHas y.end
  selects called y is = by y.end (split (list_all is_pstmt y.statements) (is_return y.end) (all_pass is_decl ds (decl.Parser y) given.spelt.grammar (state_has ds called y is))).1 where
    split : (a b : Bool) → (a && b) ≡ true → (a ≡ true) × (b ≡ true)
    split true b e = (refl, e)
    split false b e = absurd (cc e)

    some : (vs : List PValue) → is_some_listed vs ≡ true → IsSome vs
    some [] e = absurd (cc e)
    some (v ∷ vs) e = tt

    by : (r : Return) → is_return r ≡ true → SelectHas r
    by (end_of.Select vs cases) e = some vs (split (is_some_listed vs) (list_all is_select_value vs) (split (is_some_listed vs && list_all is_select_value vs) _ e).0).0
    by (end_of.State s) e = tt
    by (end_of.ParseError s) e = tt

  pub translation_fits : TranslationFits c14 g (type_words ds x) p
  translation_fits = record {
    types = types_fit ds x given.none given.expanded given.short [];
    signature = signature_same ds (syntax_of p) (same no_entries);
    parser = λ entries. parts_parser ds given.none given.short x given.expanded p (parts_are ds x under) [] refl c14 refl entries;
    objects = objects_by_number ds;
    ingress_variables = rule_in ds x under false;
    egress_variables = rule_in ds x under true;
    ingress_copies = copies_of false;
    egress_copies = copies_of true;
    ingress_actions = λ entries fit. ingress_acts entries;
    egress_actions = λ entries fit. egress_acts entries;
    controls = λ entries fit acts more.
        controls_fit (program_layout ds entries) (with_entries c14 entries) (setting_of p entries)
        (sums_are ds x given under entries false (codes "V") Verify refl (fields entries) verify_at)
        (block_is ds x given under entries false (codes "I") x.ingress Ingress refl (keys entries (rule_in ds x under false)) (conditions entries (rule_in ds x under false)) (of_ingress ds given.none x given.expanded) ingress_name given.expanded.to_ingress fit (same entries) ingress_at)
        (block_is ds x given under entries true (codes "E") x.egress Egress refl (keys entries (rule_in ds x under true)) (conditions entries (rule_in ds x under true)) (of_egress ds given.none x given.expanded) egress_name given.expanded.to_egress fit (same entries) egress_at)
        (sums_are ds x given under entries true (codes "C") Compute refl (fields entries) compute_at);
    deparser = λ entries. parts_deparser ds given.none given.short x given.expanded p (parts_are ds x under) [] refl c14 entries;
    once = once;
    none = given.none;
    expanded = given.expanded;
    selects = selects;
  }

  -- The written program carries the program of P4_14.
  pub translated_carries : Carries c14 (syntax_of p)
  translated_carries = translation_carries c14 g (type_words ds x) p translation_fits
