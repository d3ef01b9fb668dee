-- Ingress and egress are what stands for the controls of P4_14.
use Rattle.std.proofs.Common.{◌≡◌, Bool, not, Some, List, [], ◌∷◌, ◌++◌, refl, ◌∙◌}
use Rattle.match_core.specs.declared.entries.Entries.{Entries}
use Rattle.match_core.specs.Fits.{Fits}
use Rattle.match_core.specs.Stores.{first_store}
use Rattle.p414_syntax.specs.declared.syntax.Decl.{Decl}
use Rattle.p414_syntax.specs.declared.syntax.Rule14.{Rule14}
use Rattle.p414_syntax.specs.declared.syntax.Sort.TheVariants as sort
use Rattle.p414_syntax.specs.declared.tables.Table.{Table}
use Rattle.p414_syntax.specs.Attributes.{reads_of}
use Rattle.p414_syntax.specs.Tree.{Stmt}
use Rattle.p414_syntax.specs.Names.{Name, names_in}
use Rattle.p414_syntax.specs.ControlExpansion.{PipelineExpands}
use Rattle.p414_syntax.specs.Tables.{tables}
use Rattle.p414_sem.specs.Expanded.{Expanded}
use Rattle.p414_sem.specs.Signatures.{signature14}
use Rattle.v1_core.specs.declared.block.Block.{Block}
use Rattle.v1_core.specs.Frames.{Owner, of_headers, of_metadata, of_standard, of_variables, of_inner, of_nothing}
use Rattle.v1_core.specs.Blocks.{owners_of, control_at}
use Rattle.lower_laws_base.specs.Context.{StateLayout, HasRoot}
use Rattle.lower_laws_base.specs.Between.{between}
use Rattle.lower_laws_controls.specs.Controls.{block}
use Rattle.lower_laws_controls.specs.Expanding.{ControlsFit}
use Rattle.lower_laws_controls.specs.Keys.{KeysFit}
use Rattle.lower_laws_controls.proofs.Expanding.{pipeline_fits}
use Rattle.lower_laws_controls.proofs.Whole.{NamesSame}
use Rattle.lower_laws_program.specs.Program.{syntax_of}
use Rattle.lower_laws_program.specs.Fits.{setting_of}
use Rattle.lower_laws_states.specs.Expansions.{Has}
use Rattle.lower_laws_declared.specs.Layout.{program_layout}
use Rattle.lower_laws_declared.proofs.Variables.{variables_are}
use Rattle.lower_laws_translated.specs.Given.{IsGiven}
use Rattle.lower_laws_translated.specs.Translated.{applied_in, is_in_egress, tables_in, table_written, rule_in, locals_in, plan}
use Rattle.lower_laws_translated.proofs.Locals.{locals_are}
use Rattle.lower_laws_translated.proofs.Parts.{parts_are}
use Rattle.lower_laws_translated.proofs.Acts.{p, control, b, c14, outer, outer_sees, own}
use Rattle.lower_laws_declared.specs.Controls.{pipeline_things}
use Rattle.lower_laws_translated.proofs.Standing.{fits_by}
use Rattle.lower_laws_translated.proofs.Tables.{found_there}
use Rattle.lower_laws_controls.specs.Whole.{BlockIs, ControlIs, TableFound}

module _ (ds : List Decl) (x : Expanded) (given : IsGiven ds x) (under : Rule14) (entries : Entries) (e : Bool) (text : Name) (body : Stmt) (which : Block) (owners : owners_of which ≡ of_headers ∷ of_metadata ∷ of_standard ∷ []) where
  abbrev g : StateLayout
  g = (outer ds x given under entries e text body which owners).layout

  roots_there : (o : Owner) → HasRoot (between (program_layout ds entries)) o → HasRoot g o
  roots_there of_headers is = refl
  roots_there of_metadata is = refl
  roots_there of_standard is = refl
  roots_there of_variables is = is
  roots_there of_inner is = is
  roots_there of_nothing is = is

  roots_back : (o : Owner) → HasRoot g o → HasRoot (between (program_layout ds entries)) o
  roots_back of_headers is = refl
  roots_back of_metadata is = refl
  roots_back of_standard is = refl
  roots_back of_variables is = is
  roots_back of_inner is = is
  roots_back of_nothing is = is

  module _ (keys : (t : Table) → Has (tables ds) t → KeysFit g ds (reads_of t.attributes)) (conditions : ControlsFit g ds (λ (n : Name). Has (names_in sort.Table ds) n)) (stands : (t : Name) → Has (names_in sort.Table ds) t → Has (applied_in body) t → Has (tables_in ds x e) t) (pipeline : Name) (expands : PipelineExpands ds pipeline body) (fit : Fits entries (signature14 ds)) (same : NamesSame ds (syntax_of (p ds x given under entries e text body which owners))) where
    pub control_is : ControlIs (between (program_layout ds entries)) (outer ds x given under entries e text body which owners) (c14 ds x given under entries e text body which owners) (b ds x given under entries e text body which owners) (plan ds x) (not e) body (control ds x given under entries e text body which owners)
    control_is = record {
      world = refl;
      parameters = refl;
      inside = record { is = refl; has = roots_back; bare = refl };
      all = roots_there;
      standard = refl;
      variables = variables_are ds given.none given.short x given.expanded (p ds x given under entries e text body which owners) (parts_are ds x under) (pipeline_things ds (is_in_egress ds x) e (tables_in ds x e)) (table_written ds x) (locals_in ds x under e) (locals_are ds given.none given.short x under e) (own ds x given under entries e text body which owners).inside entries which (control ds x given under entries e text body which owners) (rule_in ds x under e) refl refl;
      body_is = refl;
      sees = outer_sees ds x given under entries e text body which owners;
      fits = fits_by g ds (λ (n : Name). Has (names_in sort.Table ds) n) (TableFound (outer ds x given under entries e text body which owners) (b ds x given under entries e text body which owners).scope (c14 ds x given under entries e text body which owners) (b ds x given under entries e text body which owners) (plan ds x)) block body
          (λ t h there. found_there ds x given under entries e text body which owners keys fit same (first_store (signature14 ds) entries) t (stands t there h))
          (pipeline_fits g ds (λ (n : Name). Has (names_in sort.Table ds) n) conditions pipeline body expands);
    }

    pub block_is : control_at (syntax_of (p ds x given under entries e text body which owners)) which ≡ Some (control ds x given under entries e text body which owners) → BlockIs (between (program_layout ds entries)) (c14 ds x given under entries e text body which owners) (setting_of (p ds x given under entries e text body which owners) entries) which (not e) body
    block_is at = record { control = control ds x given under entries e text body which owners; at = at; lowering = outer ds x given under entries e text body which owners; plan = plan ds x; is = control_is }
