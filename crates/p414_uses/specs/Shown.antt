-- How the uses that the code collects are seen.
use Rattle.std.specs.Prelude.{option_copied}
use Rattle.p414_syntax.specs.Uses as uses
use Rattle.p414_uses.specs.declared.uses.Use.{Use}
use Rattle.p414_uses.specs.declared.uses.Use.TheVariants as use_of

abbrev pub shown_use : Use → uses.Use
shown_use (use_of.OfSort sort name) = uses.of_sort sort name.now
shown_use (use_of.OfAction name) = uses.of_action name.now
shown_use (use_of.OfNextState name) = uses.of_next_state name.now
shown_use (use_of.OfControl name) = uses.of_control name.now
shown_use (use_of.OfAnyInstance name) = uses.of_any_instance name.now
shown_use (use_of.OfInstance i) = uses.of_instance i.now
shown_use (use_of.OfExtracted i) = uses.of_extracted i.now
shown_use (use_of.OfItem i) = uses.of_item i.now
shown_use (use_of.OfField r) = uses.of_field r.now
shown_use (use_of.OfLatest last field) = uses.of_latest (option_copied last) field.now
shown_use (use_of.OfTypeField header_type field) = uses.of_type_field header_type.now field.now
