-- The parts of what is answered.
use Rattle.std.proofs.Common.{◌≡◌, ◌∙◌, List, map, ap}
use Rattle.p414_syntax.specs.declared.syntax.Decl.{Decl}
use Rattle.p414_sem.specs.Expanded.{Expanded, IsExpanded}
use Rattle.p416_syntax.specs.declared.program.Decl16.{Decl16}
use Rattle.lower_laws_names.specs.Copies.{copies}
use Rattle.lower_laws_names.specs.Marks.{marks}
use Rattle.lower_laws_names.specs.Objects.{top_decls}
use Rattle.lower_laws_translated.specs.Translated.{is_in_egress}
use Rattle.lower_names.specs.FieldNames.{new_field_names}
use Rattle.lower_names.specs.RenamedSorts.{new_names}
use Rattle.lower_marks.specs.declared.marks.Marked.{Marked}
use Rattle.lower_marks.specs.Marking.{marked_in}
use Rattle.lower_copies.specs.declared.copies.ActionCopy.{ActionCopy}
use Rattle.lower_copies.specs.Copying.{action_copy}
use Rattle.lower_decls.specs.declared.lowered.LoweredTypes.{LoweredTypes}
use Rattle.lower_decls.specs.Lowered.{AreLowered}

pub are_lowered : (ds : List Decl) (t : LoweredTypes) (decls : List Decl16) (cs : List ActionCopy) (marked : List Marked) → t ≡ record { decls = decls; names = new_names ds; fields = new_field_names ds; copies = cs; marks = marked } → ((x : Expanded) → IsExpanded ds x → decls ≡ top_decls ds x) → ((x : Expanded) → IsExpanded ds x → cs ≡ map (action_copy ds) (copies ds (is_in_egress ds x))) → map marked_in marked ≡ marks ds → (x : Expanded) → IsExpanded ds x → AreLowered ds x t
are_lowered ds t decls cs marked is of_decls of_copies of_marks x expanded = record {
  decls = ap (λ (u : LoweredTypes). u.decls) is ∙ of_decls x expanded;
  names = ap (λ (u : LoweredTypes). u.names) is;
  fields = ap (λ (u : LoweredTypes). u.fields) is;
  copies = ap (λ (u : LoweredTypes). u.copies) is ∙ of_copies x expanded;
  marks = ap (λ (u : LoweredTypes). map marked_in u.marks) is ∙ of_marks;
}
