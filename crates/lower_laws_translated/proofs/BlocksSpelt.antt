-- The written program is spelt: its types, its objects and its six blocks.
use Rattle.std.proofs.Common.{◌≡◌, Bool, true, false, List, [], ◌∷◌, ◌++◌, refl, sym, ap, subst}
use Rattle.std.specs.Prelude.{codes, is_some}
use Rattle.std.specs.List.{AllByRecursion}
use Rattle.match_core.specs.declared.entries.Entries.{Entries}
use Rattle.p414_syntax.specs.declared.parsers.Parser.{Parser}
use Rattle.p414_syntax.specs.declared.syntax.Decl.{Decl}
use Rattle.p414_syntax.specs.declared.syntax.Decl.TheVariants as decl
use Rattle.p414_syntax.specs.declared.syntax.Rule14.{Rule14}
use Rattle.p414_syntax.specs.declared.syntax.Sort.TheVariants as sort
use Rattle.p414_syntax.specs.ControlExpansion.{ingress as ingress_name, egress as egress_name}
use Rattle.p414_syntax.specs.Names.{name_in, names_in}
use Rattle.p414_syntax.specs.ParserGraph.{states}
use Rattle.p414_sem.specs.Expanded.{Expanded}
use Rattle.p416_syntax.specs.Spelt.{is_spelt16}
use Rattle.v1_core.specs.declared.block.Block.TheVariants.{Verify, Ingress as Ingress16, Egress as Egress16, Compute, Deparse}
use Rattle.v1_core.specs.Blocks.{around_control, control_world}
use Rattle.v1_core.specs.Frames.{of_headers, of_metadata}
use Rattle.v1_core.specs.Parsing.{around_parser}
use Rattle.v1_core.specs.Surroundings.{World, quiet_world}
use Rattle.lower_laws_names.specs.Objects.{object_decls}
use Rattle.lower_laws_names.specs.Types.{type_decls}
use Rattle.lower_laws_base.specs.Context.{StateLayout}
use Rattle.lower_laws_states.specs.Expansions.{Has}
use Rattle.lower_laws_states.proofs.Expansion.{each_joined}
use Rattle.lower_laws_states.proofs.Filling.{has_found}
use Rattle.lower_laws_states.proofs.Members.{has_picked, each_has}
use Rattle.lower_laws_program.specs.Controls.{checksum_block}
use Rattle.lower_laws_program.specs.Fits.{pipeline_block, parser_block, parser_lowering, deparser_block, deparser_lowering, setting_of}
use Rattle.lower_laws_program.specs.Program.{packet_called, root_struct, Parts, syntax_of}
use Rattle.lower_laws_program.specs.Scopes.{BlockWords, block_lowering}
use Rattle.lower_laws_program.specs.TypesFit.{TypeWords}
use Rattle.lower_laws_program.proofs.Order.{order_stands}
use Rattle.lower_laws_rules.specs.Spelling.{SpeltName, SpeltDecl, SpeltParser, SpeltControl}
use Rattle.lower_laws_block_rules.specs.Widths.{SpeltHere}
use Rattle.lower_laws_block_rules.proofs.Joined16.{parts_spelt}
use Rattle.lower_laws_block_rules.proofs.OfControls.{pipeline_is, sums_is, deparser_is}
use Rattle.lower_laws_block_rules.proofs.OfParser.{parser_is}
use Rattle.lower_laws_block_rules.proofs.RuledParser.{parser_ruled}
use Rattle.lower_laws_block_rules.proofs.SpeltWholes.{control_spelt, sums_spelt, deparser_spelt, parser_spelt}
use Rattle.lower_laws_block_rules.proofs.NamesSpelt.{LayoutNamed, named_here, roots}
use Rattle.lower_laws_declared.specs.Layout.{program_layout, type_words}
use Rattle.lower_laws_declared.specs.Objects.{objects_by_number}
use Rattle.lower_laws_declared.specs.Parser.{by_declared, state_called}
use Rattle.lower_laws_declared.proofs.Parser.{states_called}
use Rattle.lower_laws_declared.proofs.Whole.{parts_deparser}
use Rattle.lower_laws_translated.specs.Given.{IsGiven}
use Rattle.lower_laws_translated.specs.Translated.{rule_in, plan, translated}
use Rattle.lower_laws_translated.proofs.ActionsSpelt.{action_spelt}
use Rattle.lower_laws_translated.proofs.BlocksKept.{state_there, top, in_ingress, in_egress, types, once, wide, parser, read, free, fields_here, statements_stand, Own, names_of, names_of_sums, ingress_rules, egress_rules}
use Rattle.lower_laws_translated.proofs.LayoutSpelt.{layout_spelt}
use Rattle.lower_laws_translated.proofs.ObjectsSpelt.{objects_written_spelt}
use Rattle.lower_laws_translated.proofs.OuterSpelt.{sort_spelt}
use Rattle.lower_laws_translated.proofs.Parts.{parts_are}
use Rattle.lower_laws_translated.proofs.Rest.{rest_keeps}
use Rattle.lower_laws_translated.proofs.RulesKept.{Ingress, Egress, ingress_kept, egress_kept}
use Rattle.lower_laws_translated.proofs.TablesSpelt.{locals_spelt, tables_spelt}
use Rattle.lower_laws_translated.proofs.TypesSpelt.{types_spelt}

module _ (ds : List Decl) (x : Expanded) (given : IsGiven ds x) (under : Rule14) (entries : Entries) where
  abbrev p : Parts
  p = translated ds x under

  abbrev g : StateLayout
  g = program_layout ds entries

  abbrev t : TypeWords
  t = type_words ds x

  layout : LayoutNamed g
  layout = layout_spelt ds x given under entries

  here : (b : BlockWords) (w : World) → b.parameters ≡ [] → SpeltHere (block_lowering g t b w)
  here b w none = named_here g t layout b w none

  -- the parser

  state_spelt : (y : Parser) → Has (states ds) y → SpeltName (state_called ds y.name)
  state_spelt y h =
      let n : Has (names_in sort.Parse ds) y.name = has_picked (name_in sort.Parse) ds (decl.Parser y) y.name (state_there ds y h) refl in
      subst (λ (b : Bool). SpeltName (by_declared b ds y.name)) (sym (ap is_some (has_found (names_in sort.Parse ds) y.name n).1)) (sort_spelt ds x given sort.Parse y.name n)

  states_spelt : AllByRecursion (λ (y : Parser). SpeltName ((parser ds x given under entries).state y.name)) (states ds)
  states_spelt = each_has (λ (y : Parser). SpeltName ((parser ds x given under entries).state y.name)) (states ds) (λ y h.
      subst SpeltName (sym (states_called ds given.none given.short g x t p.types (types ds x given under entries) (setting_of p entries) y.name)) (state_spelt y h))

  the_parser_spelt : SpeltParser p.parser
  the_parser_spelt =
      parser_spelt _ (parser_lowering g t (setting_of p entries) p.parser) ds packet_called (parser ds x given under entries).state (root_struct of_headers) (root_struct of_metadata) p.parser
      (parser_is g ds x t p (types ds x given under entries) (once ds x given under entries) entries (parser ds x given under entries) (wide ds x given under entries)
      (parser_ruled ds given.none g x t p.types (types ds x given under entries) (setting_of p entries) p.parser (parser ds x given under entries) (free ds x given under entries) (read ds x given under entries)))
      (record { name = refl; roots = roots; here = here parser_block (quiet_world (around_parser (setting_of p entries) p.parser)) refl; packet_is = refl; each = states_spelt })

  -- calculated fields, and the deparser

  verify_spelt : SpeltControl p.verify
  verify_spelt =
      sums_spelt _ _ ds x false (root_struct of_headers) (root_struct of_metadata) p.verify
      (sums_is g ds x t p (types ds x given under entries) (once ds x given under entries) entries (wide ds x given under entries) (objects_by_number ds) Verify p.verify false (p.parser.name ∷ []) _ refl refl refl
      (names_of_sums ds x given under entries Verify p.verify refl refl) (record { bare = refl; fields = fields_here ds x given under entries false; body_is = refl }))
      (record { name = refl; roots = roots; here = here (checksum_block (objects_by_number ds)) (control_world (around_control (setting_of p entries) Verify p.verify)) refl })

  compute_spelt : SpeltControl p.compute
  compute_spelt =
      sums_spelt _ _ ds x true (root_struct of_headers) (root_struct of_metadata) p.compute
      (sums_is g ds x t p (types ds x given under entries) (once ds x given under entries) entries (wide ds x given under entries) (objects_by_number ds) Compute p.compute true (p.parser.name ∷ p.verify.name ∷ p.ingress.name ∷ p.egress.name ∷ []) _ refl refl refl
      (names_of_sums ds x given under entries Compute p.compute refl refl) (record { bare = refl; fields = fields_here ds x given under entries true; body_is = refl }))
      (record { name = refl; roots = roots; here = here (checksum_block (objects_by_number ds)) (control_world (around_control (setting_of p entries) Compute p.compute)) refl })

  the_deparser_spelt : SpeltControl p.deparser
  the_deparser_spelt =
      deparser_spelt _ (deparser_lowering g t (setting_of p entries) p.deparser) packet_called x.order (root_struct of_headers) (root_struct of_metadata) p.deparser
      (deparser_is g ds x t p (types ds x given under entries) (once ds x given under entries) entries (wide ds x given under entries)
      (parts_deparser ds given.none given.short x given.expanded p (parts_are ds x under) [] refl (record { decls = ds; expanded = x; rule = under; entries = entries }) entries)
      (order_stands g ds (types ds x given under entries).shown (types ds x given under entries).widths given.none x given.expanded))
      (record { name = refl; roots = roots; here = here deparser_block (control_world (around_control (setting_of p entries) Deparse p.deparser)) refl }) refl

  -- ingress and egress, where copies of actions stand in their places

  module _ (ingress : Ingress ds x given under entries) (egress : Egress ds x given under entries) where
    ingress_spelt : SpeltControl p.ingress
    ingress_spelt =
        control_spelt (top ds x given under entries p.ingress) (in_ingress ds x given under entries) ds (plan ds x) (Own ds x given under entries false) true x.ingress (root_struct of_headers) (root_struct of_metadata) p.ingress
        (pipeline_is g ds x t p (types ds x given under entries) (once ds x given under entries) entries (wide ds x given under entries) (rule_in ds x under false) (objects_by_number ds) Ingress16 p.ingress (plan ds x) (Own ds x given under entries false) true x.ingress (p.parser.name ∷ p.verify.name ∷ []) _ refl refl refl
        (names_of ds x given under entries false (codes "I") x.ingress Ingress16 refl)
        (ingress_rules ds x given under entries (ingress_kept ds x given under entries ingress) (egress_kept ds x given under entries egress) (rest_keeps ds x given under)))
        refl roots
        (here (pipeline_block (rule_in ds x under false) (objects_by_number ds)) (control_world (around_control (setting_of p entries) Ingress16 p.ingress)) refl)
        (tables_spelt ds x given under entries (wide ds x given under entries) layout false (codes "I") x.ingress Ingress16 refl)
        (statements_stand ds x given under entries ingress_name x.ingress given.expanded.to_ingress).form
        (locals_spelt ds x given under entries (wide ds x given under entries) layout false (codes "I") x.ingress Ingress16 refl (λ a has. action_spelt ds x given under entries layout false (codes "I") x.ingress Ingress16 refl a has (ingress a has)))

    egress_spelt : SpeltControl p.egress
    egress_spelt =
        control_spelt (top ds x given under entries p.egress) (in_egress ds x given under entries) ds (plan ds x) (Own ds x given under entries true) false x.egress (root_struct of_headers) (root_struct of_metadata) p.egress
        (pipeline_is g ds x t p (types ds x given under entries) (once ds x given under entries) entries (wide ds x given under entries) (rule_in ds x under true) (objects_by_number ds) Egress16 p.egress (plan ds x) (Own ds x given under entries true) false x.egress (p.parser.name ∷ p.verify.name ∷ p.ingress.name ∷ []) _ refl refl refl
        (names_of ds x given under entries true (codes "E") x.egress Egress16 refl)
        (egress_rules ds x given under entries (ingress_kept ds x given under entries ingress) (egress_kept ds x given under entries egress) (rest_keeps ds x given under)))
        refl roots
        (here (pipeline_block (rule_in ds x under true) (objects_by_number ds)) (control_world (around_control (setting_of p entries) Egress16 p.egress)) refl)
        (tables_spelt ds x given under entries (wide ds x given under entries) layout true (codes "E") x.egress Egress16 refl)
        (statements_stand ds x given under entries egress_name x.egress given.expanded.to_egress).form
        (locals_spelt ds x given under entries (wide ds x given under entries) layout true (codes "E") x.egress Egress16 refl (λ a has. action_spelt ds x given under entries layout true (codes "E") x.egress Egress16 refl a has (egress a has)))

    pub translated_spelt : is_spelt16 (syntax_of p) ≡ true
    translated_spelt = parts_spelt p (record {
      types = each_joined SpeltDecl (type_decls ds x) (object_decls ds) (types_spelt ds x given) (objects_written_spelt ds x given);
      parser = the_parser_spelt;
      verify = verify_spelt;
      ingress = ingress_spelt;
      egress = egress_spelt;
      compute = compute_spelt;
      deparser = the_deparser_spelt;
    })
