-- The blocks that verify and update are what stands for the calculated fields.
use Rattle.std.proofs.Common.{◌≡◌, Bool, Some, List, [], ◌∷◌, refl}
use Rattle.match_core.specs.declared.entries.Entries.{Entries}
use Rattle.p414_syntax.specs.declared.syntax.Decl.{Decl}
use Rattle.p414_syntax.specs.declared.syntax.Rule14.{Rule14}
use Rattle.p414_syntax.specs.Names.{Name}
use Rattle.p414_syntax.specs.Lists.{calculated_fields}
use Rattle.p414_sem.specs.Expanded.{Expanded}
use Rattle.p416_syntax.specs.declared.controls.Control16.{Control16}
use Rattle.v1_core.specs.declared.block.Block.{Block}
use Rattle.v1_core.specs.Frames.{Owner, of_headers, of_metadata, of_standard, of_variables, of_inner, of_nothing}
use Rattle.v1_core.specs.Blocks.{owners_of, control_world, around_control, control_at}
use Rattle.lower_laws_base.specs.Context.{HasRoot, Lowering}
use Rattle.lower_laws_base.specs.Between.{between}
use Rattle.lower_laws_controls.specs.Listing.{Each}
use Rattle.lower_laws_sums.specs.Sums.{FieldFits}
use Rattle.lower_laws_program.specs.Program.{Parts, syntax_of}
use Rattle.lower_laws_program.specs.Scopes.{block_lowering}
use Rattle.lower_laws_program.specs.Controls.{checksum_block}
use Rattle.lower_laws_program.specs.Fits.{setting_of}
use Rattle.lower_laws_declared.specs.Layout.{program_layout, type_words}
use Rattle.lower_laws_declared.specs.Objects.{objects_by_number}
use Rattle.lower_laws_declared.specs.Controls.{DeclaresLocals}
use Rattle.lower_laws_declared.proofs.Whole.{sums_see}
use Rattle.lower_laws_translated.specs.Given.{IsGiven}
use Rattle.lower_laws_translated.specs.Translated.{table_written, sums_written, translated}
use Rattle.lower_laws_translated.proofs.Parts.{parts_are}
use Rattle.lower_laws_sums.specs.Whole.{SumsAre}

module _ (ds : List Decl) (x : Expanded) (given : IsGiven ds x) (under : Rule14) (entries : Entries) (updates : Bool) (text : Name) (which : Block) (owners : owners_of which ≡ of_headers ∷ of_metadata ∷ []) where
  abbrev p : Parts
  p = translated ds x under

  abbrev control : Control16
  control = sums_written ds x updates text

  abbrev pub within_sums : Lowering
  within_sums = block_lowering (program_layout ds entries) (type_words ds x) (checksum_block (objects_by_number ds)) (control_world (around_control (setting_of p entries) which control))

  nothing_declared : DeclaresLocals ds (table_written ds x) [] []
  nothing_declared = record { each = tt; inside = tt }

  roots_back : (o : Owner) → HasRoot within_sums.layout o → HasRoot (between (program_layout ds entries)) o
  roots_back of_headers is = refl
  roots_back of_metadata is = refl
  roots_back of_standard is = refl
  roots_back of_variables is = is
  roots_back of_inner is = is
  roots_back of_nothing is = is

  pub sums_are : Each (FieldFits within_sums.layout ds x) (calculated_fields ds) → control_at (syntax_of p) which ≡ Some control → SumsAre (between (program_layout ds entries)) ds x (setting_of p entries) which updates
  sums_are fits at = record {
    control = control;
    at = at;
    lowering = within_sums;
    world = refl;
    parameters = refl;
    inside = record { is = refl; has = roots_back; bare = refl };
    variables = tt;
    body_is = refl;
    sees = sums_see ds given.none given.short x given.expanded p (parts_are ds x under) (table_written ds x) [] [] nothing_declared entries which control owners refl refl;
    fits = fits;
  }
