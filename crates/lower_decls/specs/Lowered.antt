-- What the lowering of types answers (this project's own): the declarations at the top, and under which names, in which copies
-- and with which marks the rest of the text is written.
use Rattle.std.specs.Prelude.{◌≡◌, List, map}
use Rattle.p414_syntax.specs.declared.syntax.Decl.{Decl}
use Rattle.p414_sem.specs.Expanded.{Expanded}
use Rattle.lower_laws_names.specs.Copies.{copies}
use Rattle.lower_laws_names.specs.Marks.{marks}
use Rattle.lower_laws_names.specs.Objects.{top_decls}
use Rattle.lower_laws_translated.specs.Translated.{is_in_egress}
use Rattle.lower_names.specs.FieldNames.{new_field_names}
use Rattle.lower_names.specs.RenamedSorts.{new_names}
use Rattle.lower_marks.specs.Marking.{marked_in}
use Rattle.lower_copies.specs.Copying.{action_copy}
use Rattle.lower_decls.specs.declared.lowered.LoweredTypes.{LoweredTypes}

-- These are the types of a program that comes to this: types and objects in front of the blocks, new names sort by sort and of
-- each instance's fields, the copies of actions of both pipelines, and the marks of the lists that calls preserve.
pub record AreLowered (ds : List Decl) (x : Expanded) (t : LoweredTypes) : Type 0 where
  pub decls : t.decls ≡ top_decls ds x
  pub names : t.names ≡ new_names ds
  pub fields : t.fields ≡ new_field_names ds
  pub copies : t.copies ≡ map (action_copy ds) (copies ds (is_in_egress ds x))
  pub marks : map marked_in t.marks ≡ marks ds
