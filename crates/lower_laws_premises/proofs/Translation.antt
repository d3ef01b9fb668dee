-- The actions of a pipeline of the whole program under any entries: the fields `ingress_actions` and `egress_actions` of
-- `TranslationFits`, from the types, the names of the control, and how each copy of an action is written.
use Rattle.std.proofs.Common.{◌≡◌, List, [], ◌∷◌, refl}
use Rattle.state_store.specs.declared.shapes.Shape.{Shape}
use Rattle.match_core.specs.declared.entries.Entries.{Entries}
use Rattle.match_core.specs.Stores.{shapes_of}
use Rattle.p414_syntax.specs.declared.syntax.Decl.{Decl}
use Rattle.p414_syntax.specs.declared.syntax.Rule14.{Rule14}
use Rattle.p414_syntax.specs.declared.syntax.Rule14.TheVariants as rule
use Rattle.p414_syntax.specs.Names.{Name as Name14}
use Rattle.p414_syntax.specs.Breaks.{BreaksNone, program_rules}
use Rattle.p414_sem.specs.Controls.{Setting as Setting14}
use Rattle.p414_sem.specs.Expanded.{Expanded, IsExpanded}
use Rattle.p414_sem.specs.Signatures.{signature14}
use Rattle.p416_syntax.specs.declared.controls.Control16.{Control16}
use Rattle.p416_syntax.specs.declared.program.Decl16.{Decl16}
use Rattle.p416_syntax.specs.Names.{Name}
use Rattle.v1_core.specs.declared.block.Block.{Block}
use Rattle.v1_core.specs.Frames.{of_headers, of_metadata, of_standard}
use Rattle.v1_core.specs.Surroundings.{Setting}
use Rattle.v1_core.specs.Blocks.{owners_of, around_control, control_world}
use Rattle.lower_laws_base.specs.Context.{StateLayout, ObjectName, Sees}
use Rattle.lower_laws_program.specs.Program.{pipeline_parameters, Parts, syntax_of, DeclaresOnce}
use Rattle.lower_laws_program.specs.TypesFit.{TypeWords, TypesFit}
use Rattle.lower_laws_program.specs.Scopes.{block_lowering}
use Rattle.lower_laws_program.specs.Controls.{old_locals, ControlNames}
use Rattle.lower_laws_program.specs.Fits.{pipeline_block, ActionCopy, ActionsFit, layout_with, layout_at, with_entries, setting_of}
use Rattle.lower_laws_program.proofs.Controls.{parallel_sees}
use Rattle.lower_laws_program.proofs.Sequential.{sequential_sees}
use Rattle.lower_laws_premises.specs.Literals.{IsSpelt}
use Rattle.lower_laws_names.specs.Marks.{marks}
use Rattle.lower_laws_premises.specs.Shown.{objects_shown}
use Rattle.lower_laws_premises.proofs.Controls.{GoByName, CopyFits, actions_fit}
use Rattle.lower_laws_states.specs.Expansions.{Has}

-- the types say nothing of the shapes of objects
pub types_with : (g : StateLayout) (ds : List Decl) (x : Expanded) (t : TypeWords) (types : List Decl16) (shapes : List Shape) → TypesFit g ds x t types → TypesFit (layout_with g shapes) ds x t types
types_with g ds x t types shapes fits = record {
  differ = fits.differ;
  shown = record { all = fits.shown.all; each = fits.shown.each };
  widths = fits.widths;
  stacks = fits.stacks;
  headers_struct = fits.headers_struct;
  metadata_struct = fits.metadata_struct;
  header = fits.header;
  struct = fits.struct;
  header_member = fits.header_member;
  metadata_member = fits.metadata_member;
  headers_once = fits.headers_once;
  metadata_once = fits.metadata_once;
  header_members = fits.header_members;
  metadata_members = fits.metadata_members;
  standard_members = fits.standard_members;
  first = fits.first;
  marked = fits.marked;
  unmarked = fits.unmarked;
}

-- what a pipeline sees, under both rules
sees_so : (g : StateLayout) (ds : List Decl) (x : Expanded) (t : TypeWords) (p : Parts) → TypesFit g ds x t p.types → DeclaresOnce p → (c16 : Setting) → c16.syntax ≡ syntax_of p → (which : Block) (d : Control16) (objects : List ObjectName) → owners_of which ≡ of_headers ∷ of_metadata ∷ of_standard ∷ [] → (r : Rule14) → ControlNames g p pipeline_parameters (old_locals r) objects (control_world (around_control c16 which d)) d → Sees (block_lowering g t (pipeline_block r objects) (control_world (around_control c16 which d))) (around_control c16 which d).scope []
sees_so g ds x t p fits once c16 syntax which d objects owners rule.Sequential their = sequential_sees g ds x t p fits once c16 syntax which d objects owners their
sees_so g ds x t p fits once c16 syntax which d objects owners rule.Parallel their = parallel_sees g ds x t p fits once c16 syntax which d objects owners their

module _ (c14 : Setting14) (none : BreaksNone c14.decls program_rules) (spelt : IsSpelt c14.decls) (is : IsExpanded c14.decls c14.expanded) (g : StateLayout) (t : TypeWords) (p : Parts) (types : TypesFit g c14.decls c14.expanded t p.types) (once : DeclaresOnce p) (by_name : GoByName g c14.decls c14.expanded t p.types types) (new : Name14 → Name) (marked : g.names.marks ≡ marks c14.decls) (entries : Entries) where
  abbrev pub here : StateLayout
  here = layout_at g c14 entries

  abbrev pub types_here : TypesFit here c14.decls c14.expanded t p.types
  types_here = types_with g c14.decls c14.expanded t p.types (shapes_of (signature14 c14.decls) entries) types

  abbrev pub by_name_here : GoByName here c14.decls c14.expanded t p.types types_here
  by_name_here = record { fields = by_name.fields; type = by_name.type; fields_are = by_name.fields_are; types_are = by_name.types_are }

  module _ (which : Block) (control : Control16) (variables : Rule14) (owners : owners_of which ≡ of_headers ∷ of_metadata ∷ of_standard ∷ []) (their : ControlNames here p pipeline_parameters (old_locals variables) (objects_shown new c14.decls) (control_world (around_control (setting_of p entries) which control)) control) where
    -- how a copy of an action is written in this control
    abbrev pub IsCopy : ActionCopy → Type 0
    IsCopy = CopyFits (with_entries c14 entries) none spelt is here t p.types types_here by_name_here new marked (setting_of p entries) which control variables

    pub pipeline_actions : (copies : List ActionCopy) → ((k : ActionCopy) → Has copies k → IsCopy k) → ActionsFit here (with_entries c14 entries) (setting_of p entries) variables (objects_shown new c14.decls) which control copies
    pipeline_actions copies each =
        actions_fit (with_entries c14 entries) none spelt is here t p.types types_here by_name_here new marked (setting_of p entries) which control variables
        (sees_so here c14.decls c14.expanded t p types_here once (setting_of p entries) refl which control (objects_shown new c14.decls) owners variables their) copies each
