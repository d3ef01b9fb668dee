-- The written program breaks no rule of P4_16, from what is owed of its pipelines and of all its declarations together.
use Rattle.std.proofs.Common.{◌≡◌, inl, inr, Bool, true, false, not, ◌&&◌, List, [], ◌∷◌, ◌++◌, map, refl, ◌∙◌, subst}
use Rattle.std.specs.Prelude.{codes}
use Rattle.std.specs.List.{AllByRecursion, list_all}
use Rattle.std.specs.Str.{bytes_eq}
use Rattle.match_core.specs.declared.entries.Entries.{Entries}
use Rattle.p414_syntax.specs.declared.parsers.Parser.{Parser}
use Rattle.p414_syntax.specs.declared.parsers.Return.{Return}
use Rattle.p414_syntax.specs.declared.parsers.Return.TheVariants as end_of
use Rattle.p414_syntax.specs.declared.parsers.PValue.{PValue}
use Rattle.p414_syntax.specs.declared.syntax.Decl.{Decl}
use Rattle.p414_syntax.specs.declared.syntax.Decl.TheVariants as decl
use Rattle.p414_syntax.specs.declared.syntax.Rule14.{Rule14}
use Rattle.p414_syntax.specs.declared.syntax.Sort.TheVariants as sort
use Rattle.p414_syntax.specs.Conditions.{is_decl, is_pstmt, is_return, is_some_listed, is_select_value, is_case}
use Rattle.p414_syntax.specs.Tree.{Stmt}
use Rattle.p414_syntax.specs.Names.{Name, names_in}
use Rattle.p414_syntax.specs.ControlExpansion.{ingress as ingress_name, egress as egress_name, PipelineExpands}
use Rattle.p414_syntax.specs.Lists.{calculated_fields}
use Rattle.p414_syntax.specs.ParserGraph.{states}
use Rattle.p414_sem.specs.Expanded.{Expanded}
use Rattle.p416_syntax.specs.Breaks.{BreaksNone as BreaksNone16, program_rules as program_rules16}
use Rattle.p416_syntax.specs.Declarations.{known_state}
use Rattle.v1_core.specs.declared.block.Block.{Block}
use Rattle.v1_core.specs.declared.block.Block.TheVariants.{Verify, Ingress, Egress, Compute}
use Rattle.v1_core.specs.Blocks.{around_control, control_world}
use Rattle.lower_laws_names.specs.NewNames.{gives_initials}
use Rattle.lower_laws_names.specs.Words.{outer_words}
use Rattle.lower_laws_base.specs.Context.{Lowering}
use Rattle.lower_laws_controls.specs.Controls.{block}
use Rattle.lower_laws_controls.specs.Listing.{Each}
use Rattle.lower_laws_program.specs.Program.{Parts, syntax_of, root_struct, checksum_parameters, pipeline_parameters, DeclaresOnce}
use Rattle.lower_laws_program.specs.Controls.{old_locals, ControlNames}
use Rattle.lower_laws_program.specs.Scopes.{IsClear}
use Rattle.lower_laws_program.specs.Fits.{SelectHas, setting_of, ParserFits}
use Rattle.lower_laws_program.specs.TypesFit.{TypesFit}
use Rattle.lower_laws_parser.specs.Parsing.{IsSome}
use Rattle.lower_laws_states.specs.Expansions.{Has}
use Rattle.lower_laws_premises.proofs.Literals.{all_pass}
use Rattle.lower_laws_declared.specs.Layout.{program_layout, type_words}
use Rattle.lower_laws_declared.specs.Objects.{objects_by_number}
use Rattle.lower_laws_translated.specs.Given.{IsGiven}
use Rattle.lower_laws_translated.specs.Translated.{tables_in, plan, rule_in, translated}
use Rattle.lower_laws_translated.proofs.Acts.{outer}
use Rattle.lower_laws_translated.proofs.Calculated.{fields_fit}
use Rattle.lower_laws_translated.proofs.Conditions.{controls_fit}
use Rattle.lower_laws_translated.proofs.Shown.{within, within_shows}
use Rattle.lower_laws_translated.proofs.Standing.{fits_by, of_ingress, of_egress}
use Rattle.lower_laws_controls.proofs.Expanding.{pipeline_fits}
use Rattle.lower_laws_block_rules.proofs.Pipelines.{PipelineStands, pipeline_stands}
use Rattle.p416_syntax.specs.declared.controls.Control16.{Control16}
use Rattle.p416_syntax.specs.declared.program.Decl16.TheVariants as decl16
use Rattle.p416_syntax.specs.Breaks.{scope_of}
use Rattle.p416_syntax.specs.Scopes.{Scope}
use Rattle.p414_syntax.specs.Names.{has_name}
use Rattle.std.specs.List.{list_any}
use Rattle.v1_core.specs.Blocks.{owners_of}
use Rattle.v1_core.specs.Frames.{of_headers, of_metadata, of_standard}
use Rattle.lower_laws_base.specs.Context.{StateLayout}
use Rattle.lower_laws_controls.specs.Expanding.{ControlsFit}
use Rattle.lower_laws_sums.specs.Sums.{FieldFits}
use Rattle.lower_laws_program.proofs.Clear.{all_of}
use Rattle.lower_laws_program.proofs.Order.{order_stands}
use Rattle.lower_laws_states.proofs.Members.{picked_has}
use Rattle.lower_laws_states.proofs.Accepted.{declared_state}
use Rattle.p414_syntax.specs.ParserGraph.{state_in}
use Rattle.lower_laws_declared.specs.Controls.{DeclaresLocals}
use Rattle.lower_laws_declared.specs.Parser.{names_of_parser}
use Rattle.lower_laws_declared.proofs.Controls.{pipeline_names, checksum_names}
use Rattle.lower_laws_declared.proofs.Numbers.{declared_once}
use Rattle.lower_laws_declared.proofs.Parser.{parser_fits}
use Rattle.lower_laws_declared.proofs.States.{clear_begun}
use Rattle.lower_laws_declared.proofs.TypesFit.{types_fit}
use Rattle.lower_laws_declared.proofs.Whole.{parts_deparser}
use Rattle.lower_laws_translated.specs.Translated.{table_written, locals_in, pipeline_written}
use Rattle.lower_laws_translated.proofs.Acts.{own}
use Rattle.lower_laws_translated.proofs.Calculated.{sums}
use Rattle.lower_laws_translated.proofs.Parts.{parts_are}
use Rattle.lower_laws_block_rules.specs.Sums.{FieldHere}
use Rattle.lower_laws_block_rules.specs.Program.{LayoutWide, parser_fixed, PipelineRules}
use Rattle.lower_laws_block_rules.specs.Joined.{decl_held, RestKeeps}
use Rattle.lower_laws_block_rules.proofs.RuledControls.{field_ruled}
use Rattle.lower_laws_block_rules.proofs.RuledParser.{SelectRead, layout_wide, parser_ruled}
use Rattle.lower_laws_block_rules.proofs.OfParser.{program_parser_keeps}
use Rattle.lower_laws_block_rules.proofs.OfControls.{ingress_keeps, egress_keeps, verify_keeps, compute_keeps, program_deparser_keeps}
use Rattle.lower_laws_block_rules.proofs.Joined16.{program_keeps}
use Rattle.lower_laws_rules.specs.Whole.{ProgramKeeps}
use Rattle.lower_laws_rules.proofs.Program.{program_breaks_none}
use Rattle.lower_laws_translated.specs.Owed.{PipelineOwed}
use Rattle.lower_laws_translated.proofs.Lists.{lists_wide}
use Rattle.lower_laws_translated.proofs.NamesOnce.{pipeline_once}
use Rattle.lower_laws_translated.proofs.Counters.{pipeline_counters}
use Rattle.lower_laws_translated.proofs.Literals.{controls_stand}

-- a state of the program is declared
pub state_there : (ds : List Decl) (y : Parser) → Has (states ds) y → Has ds (decl.Parser y)
state_there ds y h = let d = picked_has state_in ds y h in subst (Has ds) (declared_state d.0 y d.2) d.1

-- what the rules ask of a pipeline's statements

module _ (ds : List Decl) (x : Expanded) (given : IsGiven ds x) (under : Rule14) (entries : Entries) where
  abbrev p : Parts
  p = translated ds x under

  abbrev around : Lowering
  around = within ds given.none given.short x given.expanded entries (rule_in ds x under false) [] (around_control (setting_of p entries) Ingress p.ingress) 0

  pub statements_stand : (pipeline : Name) (body : Stmt) → PipelineExpands ds pipeline body → PipelineStands ds (controls_stand ds given.none given.spelt around (λ (n : Name). Has (names_in sort.Table ds) n) (controls_fit around ds given.none given.spelt (within_shows ds given.none given.short x given.expanded entries (rule_in ds x under false) [] (around_control (setting_of p entries) Ingress p.ingress) 0).instances (within_shows ds given.none given.short x given.expanded entries (rule_in ds x under false) [] (around_control (setting_of p entries) Ingress p.ingress) 0).roots)) body
  statements_stand pipeline body expands =
      let shown = within_shows ds given.none given.short x given.expanded entries (rule_in ds x under false) [] (around_control (setting_of p entries) Ingress p.ingress) 0 in
      pipeline_stands ds (controls_stand ds given.none given.spelt around (λ (n : Name). Has (names_in sort.Table ds) n) (controls_fit around ds given.none given.spelt shown.instances shown.roots)) pipeline body expands

  -- the law

  abbrev pub top : Control16 → Scope
  top d = scope_of (syntax_of p) (decl16.Control d)

  abbrev pub in_ingress : Lowering
  in_ingress = outer ds x given under entries false (codes "I") x.ingress Ingress refl

  abbrev pub in_egress : Lowering
  in_egress = outer ds x given under entries true (codes "E") x.egress Egress refl

  here : StateLayout
  here = program_layout ds entries

  pub types : TypesFit (program_layout ds entries) ds x (type_words ds x) p.types
  types = types_fit ds x given.none given.expanded given.short (program_layout ds entries).shapes

  pub once : DeclaresOnce p
  once = declared_once ds given.none given.short x p (parts_are ds x under)

  pub wide : LayoutWide (program_layout ds entries)
  wide = layout_wide ds given.none (program_layout ds entries) x (type_words ds x) p.types types

  abbrev pub parser : ParserFits (program_layout ds entries) ds (type_words ds x) (setting_of p entries) p.parser
  parser = parser_fits ds given.none given.short (program_layout ds entries) x (type_words ds x) p.types types (setting_of p entries)

  -- S1
  pub read : (y : Parser) → Has (states ds) y → SelectHas y.end × SelectRead y.end
  read y h = by y.end (split (list_all is_pstmt y.statements) (is_return y.end) (all_pass is_decl ds (decl.Parser y) given.spelt.grammar (state_there ds y h))).1 where
    split : (a b : Bool) → (a && b) ≡ true → (a ≡ true) × (b ≡ true)
    split true b e = (refl, e)
    split false b e = absurd (cc e)

    some : (vs : List PValue) → is_some_listed vs ≡ true → IsSome vs
    some [] e = absurd (cc e)
    some (v ∷ vs) e = tt

    by : (r : Return) → is_return r ≡ true → SelectHas r × SelectRead r
    by (end_of.Select vs cases) e =
        let s = split (is_some_listed vs) (list_all is_select_value vs) (split (is_some_listed vs && list_all is_select_value vs) (is_some_listed cases && list_all is_case cases) e).0 in
        (some vs s.0, s.1)
    by (end_of.State s) e = (tt, tt)
    by (end_of.ParseError s) e = (tt, tt)

  -- no state bears the name of a parameter
  pub free : AllByRecursion (IsClear (map known_state p.parser.states)) parser_fixed
  free = all_of (λ text. has_name outer_words text && not (bytes_eq (codes "start") text) ≡ true) (IsClear (map known_state p.parser.states)) (clear_begun ds given.short.few (list_any gives_initials ds) (names_of_parser (program_layout ds entries) ds) (λ n. refl)) parser_fixed (refl, (refl, (refl, (refl, tt))))

  -- calculated fields
  each_at : {X : Type 0} (P : X → Type 0) (xs : List X) → Each P xs → (y : X) → Has xs y → P y
  each_at P [] all y h = absurd h
  each_at P (z ∷ xs) all y (inl same) = subst P same all.0
  each_at P (z ∷ xs) all y (inr h) = each_at P xs all.1 y h

  each_by : {X : Type 0} (P : X → Type 0) (xs : List X) → ((y : X) → Has xs y → P y) → Each P xs
  each_by P [] f = tt
  each_by P (z ∷ xs) f = (f z (inl refl), each_by P xs (λ y h. f y (inr h)))

  pub fields_here : (updates : Bool) → Each (FieldHere (sums ds entries) ds x updates) (calculated_fields ds)
  fields_here updates =
      each_by (FieldHere (sums ds entries) ds x updates) (calculated_fields ds) (λ f h.
      field_ruled ds given.none (sums ds entries) x given.expanded (lists_wide ds given.none given.spelt) updates f h
      (each_at (FieldFits (sums ds entries) ds x) (calculated_fields ds) (fields_fit ds x given entries (around_control (setting_of p entries) Ingress p.ingress)) f h))

  nothing_declared : DeclaresLocals ds (table_written ds x) [] []
  nothing_declared = record { each = tt; inside = tt }

  -- the names of the blocks

  pub names_of : (e : Bool) (text : Name) (body : Stmt) (which : Block) → owners_of which ≡ of_headers ∷ of_metadata ∷ of_standard ∷ [] → ControlNames (program_layout ds entries) p pipeline_parameters (old_locals (rule_in ds x under e)) (objects_by_number ds) (control_world (around_control (setting_of p entries) which (pipeline_written ds x under e text body))) (pipeline_written ds x under e text body)
  names_of e text body which owners =
      pipeline_names ds given.none given.short x p (parts_are ds x under) (table_written ds x) _ (locals_in ds x under e) (own ds x given under entries e text body which owners) (setting_of p entries) refl entries which (pipeline_written ds x under e text body) (rule_in ds x under e) refl refl

  pub names_of_sums : (which : Block) (d : Control16) → d.parameters ≡ checksum_parameters → d.locals ≡ [] → ControlNames (program_layout ds entries) p checksum_parameters [] (objects_by_number ds) (control_world (around_control (setting_of p entries) which d)) d
  names_of_sums which d parameters locals = checksum_names ds given.none given.short x p (parts_are ds x under) (table_written ds x) [] [] nothing_declared (setting_of p entries) refl entries which d parameters locals

  -- statements, with the tables of their pipeline
  abbrev pub Own : Bool → Name → Type 0
  Own e t = Has (tables_in ds x e) t

  conditions : (r : Rule14) → ControlsFit (within ds given.none given.short x given.expanded entries r [] (around_control (setting_of p entries) Ingress p.ingress) 0).layout ds (λ (n : Name). Has (names_in sort.Table ds) n)
  conditions r =
      let shown = within_shows ds given.none given.short x given.expanded entries r [] (around_control (setting_of p entries) Ingress p.ingress) 0 in
      controls_fit (within ds given.none given.short x given.expanded entries r [] (around_control (setting_of p entries) Ingress p.ingress) 0) ds given.none given.spelt shown.instances shown.roots

  module _ (ingress : PipelineOwed in_ingress ds (top p.ingress) (plan ds x) (Own false) p.ingress) (egress : PipelineOwed in_egress ds (top p.egress) (plan ds x) (Own true) p.egress) (rest : RestKeeps p) where
    pub ingress_rules : PipelineRules in_ingress ds (top p.ingress) (plan ds x) (Own false) true x.ingress p.ingress
    ingress_rules = record {
      names = pipeline_once ds x given under entries false (codes "I") x.ingress Ingress refl (top p.ingress).names;
      counters = pipeline_counters ds x given under entries false (codes "I") x.ingress Ingress refl;
      locals = ingress.locals;
      tables = ingress.tables;
      fits = fits_by in_ingress.layout ds (λ (n : Name). Has (names_in sort.Table ds) n) (Own false) block x.ingress (λ t h there. of_ingress ds given.none x given.expanded t there h) (pipeline_fits in_ingress.layout ds (λ (n : Name). Has (names_in sort.Table ds) n) (conditions (rule_in ds x under false)) ingress_name x.ingress given.expanded.to_ingress);
      stand = (statements_stand ingress_name x.ingress given.expanded.to_ingress).conditions;
      nests = (statements_stand ingress_name x.ingress given.expanded.to_ingress).nests;
      body_is = refl;
    }

    pub egress_rules : PipelineRules in_egress ds (top p.egress) (plan ds x) (Own true) false x.egress p.egress
    egress_rules = record {
      names = pipeline_once ds x given under entries true (codes "E") x.egress Egress refl (top p.egress).names;
      counters = pipeline_counters ds x given under entries true (codes "E") x.egress Egress refl;
      locals = egress.locals;
      tables = egress.tables;
      fits = fits_by in_egress.layout ds (λ (n : Name). Has (names_in sort.Table ds) n) (Own true) block x.egress (λ t h there. of_egress ds given.none x given.expanded t there h) (pipeline_fits in_egress.layout ds (λ (n : Name). Has (names_in sort.Table ds) n) (conditions (rule_in ds x under true)) egress_name x.egress given.expanded.to_egress);
      stand = (statements_stand egress_name x.egress given.expanded.to_egress).conditions;
      nests = (statements_stand egress_name x.egress given.expanded.to_egress).nests;
      body_is = refl;
    }

    pub translated_keeps : ProgramKeeps (syntax_of p) (root_struct of_headers) (root_struct of_metadata) decl_held
    translated_keeps =
        let g = program_layout ds entries in
        let t = type_words ds x in
        program_keeps g ds x t p types once (record { parser = refl; verify = refl; ingress = refl; egress = refl; compute = refl; deparser = refl }) rest
        (record {
          parser = program_parser_keeps g ds x t p types once entries parser wide (parser_ruled ds given.none g x t p.types types (setting_of p entries) p.parser parser free read);
          verify = verify_keeps g ds x t p types once entries wide (objects_by_number ds) (names_of_sums Verify p.verify refl refl) (record { bare = refl; fields = fields_here false; body_is = refl });
          ingress = ingress_keeps g ds x t p types once entries wide (rule_in ds x under false) (objects_by_number ds) (plan ds x) (Own false) x.ingress (names_of false (codes "I") x.ingress Ingress refl) ingress_rules;
          egress = egress_keeps g ds x t p types once entries wide (rule_in ds x under true) (objects_by_number ds) (plan ds x) (Own true) x.egress (names_of true (codes "E") x.egress Egress refl) egress_rules;
          compute = compute_keeps g ds x t p types once entries wide (objects_by_number ds) (names_of_sums Compute p.compute refl refl) (record { bare = refl; fields = fields_here true; body_is = refl });
          deparser = program_deparser_keeps g ds x t p types once entries wide (parts_deparser ds given.none given.short x given.expanded p (parts_are ds x under) [] refl (record { decls = ds; expanded = x; rule = under; entries = entries }) entries) (order_stands g ds types.shown types.widths given.none x given.expanded);
        })

    pub translated_breaks_none : BreaksNone16 (syntax_of p) program_rules16
    translated_breaks_none = program_breaks_none (syntax_of p) (root_struct of_headers) (root_struct of_metadata) decl_held translated_keeps
