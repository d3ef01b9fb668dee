-- The names of annotations and the include lines, with their texts (P4_16 1.2, "Annotations" and "Preprocessing"; which
-- there are is this project's own).
use Rattle.std.specs.Prelude.{ℕ, List, codes}
use Rattle.p416_syntax.specs.declared.lexeme.Annotation16.{Annotation16}
use Rattle.p416_syntax.specs.declared.lexeme.Annotation16.TheVariants as annotation
use Rattle.p416_syntax.specs.declared.lexeme.Include16.{Include16}
use Rattle.p416_syntax.specs.declared.lexeme.Include16.TheVariants as line

-- the octets that the name of an annotation is written with, its `@` among them
abbrev pub annotation_text16 : Annotation16 → List ℕ
annotation_text16 annotation.Name = codes "@name"
annotation_text16 annotation.FieldList = codes "@field_list"

-- the octets of an include line, without blanks around it
abbrev pub include_text16 : Include16 → List ℕ
include_text16 line.Core = codes "#include <core.p4>"
include_text16 line.V1Model = codes "#include <v1model.p4>"
