-- What the table of the new names means (this project's own).
use Rattle.std.specs.Prelude.{ℕ, map, slice_index}
use Rattle.p416_syntax.specs.Names.{Name}
use Rattle.v1_core.specs.Frames.{Owner, of_headers, of_metadata}
use Rattle.lower_laws_base.specs.Context.{Words, At, now, entry}
use Rattle.lower_laws_program.specs.Program.{root_name}
use Rattle.lower_laws_program.specs.Fits.{nothing_copied, nothing_spare, old_name}
use Rattle.lower_laws_translated.specs.Translated.{spare_name}
use Rattle.lower_rows.specs.declared.instances.Form.{Form}
use Rattle.lower_rows.specs.declared.instances.Form.TheVariants as form
use Rattle.lower_rows.specs.Named.{named_field, instance_shown, size_of_row, object_named, marked_lists}
use Rattle.lower_expressions.specs.declared.table.WordsTable.{WordsTable}
use Rattle.lower_expressions.specs.declared.table.Variables.{Variables}
use Rattle.lower_expressions.specs.declared.table.Variables.TheVariants as variables
use Rattle.lower_expressions.specs.declared.table.ReadAt.{ReadAt}
use Rattle.lower_expressions.specs.declared.table.ReadAt.TheVariants as reading

-- the parameter of a block in which an instance of this form stands
abbrev pub owner_of_form : Form → Owner
owner_of_form form.Header = of_headers
owner_of_form form.Stack = of_headers
owner_of_form form.Metadata = of_metadata

-- the variables that hold copies of the parameters
abbrev pub copy_of : Variables → Owner → Name
copy_of variables.Nothing = nothing_copied
copy_of variables.Copies = old_name
copy_of variables.Primitives = old_name

-- the variables of the primitives of an action
abbrev pub spare_of : Variables → ℕ → ℕ → Name
spare_of variables.Nothing = nothing_spare
spare_of variables.Copies = nothing_spare
spare_of variables.Primitives = spare_name

-- what a block is written with
abbrev pub words_in : WordsTable → Words
words_in t = record {
  names = record { instances = map instance_shown t.instances.now; marks = marked_lists 0 t.marks.now };
  size_of = slice_index (map size_of_row t.instances.now);
  root = root_name;
  copy = copy_of t.variables;
  objects = map object_named t.objects.now;
  spare = spare_of t.variables;
  parameters = map named_field t.parameters.now;
}

-- where operands are read
abbrev pub at_in : ReadAt → At
at_in reading.Now = now
at_in reading.Entry = entry
