-- What a table declares, and the name that an annotation gives (P4_16 1.2, "Tables" and "Control-plane API annotations").
-- Of two properties of one kind the first counts: that is this project's own, since the grammar has each at most once. So
-- of two `@name`.
use Rattle.std.specs.Prelude.{ℕ, List, [], ◌∷◌, Option, Some, None}
use Rattle.p416_syntax.specs.declared.lexeme.Literal16.{Literal16}
use Rattle.p416_syntax.specs.declared.parts.Note.{Note}
use Rattle.p416_syntax.specs.declared.parts.Note.TheVariants as note
use Rattle.p416_syntax.specs.declared.controls.ActionName.{ActionName}
use Rattle.p416_syntax.specs.declared.controls.TableKey.{TableKey}
use Rattle.p416_syntax.specs.declared.controls.Property.{Property}
use Rattle.p416_syntax.specs.declared.controls.Property.TheVariants as property
use Rattle.p416_syntax.specs.Tree.{Exp16}

-- the keys of the table, in order; none where there is no `key`
abbrev pub keys_of : List Property → List TableKey
keys_of [] = []
keys_of (property.Key ks ∷ rest) = ks
keys_of (other ∷ rest) = keys_of rest

-- the actions of the table, in order; none where there is no `actions`
abbrev pub actions_of : List Property → List ActionName
actions_of [] = []
actions_of (property.Actions names ∷ rest) = names
actions_of (other ∷ rest) = actions_of rest

-- the number behind `size`
abbrev pub size_of : List Property → Option Literal16
size_of [] = None
size_of (property.Size n ∷ rest) = Some n
size_of (other ∷ rest) = size_of rest

-- the name behind `counters`
abbrev pub counters_of : List Property → Option (List ℕ)
counters_of [] = None
counters_of (property.Counters text ∷ rest) = Some text
counters_of (other ∷ rest) = counters_of rest

-- the default action
abbrev pub default_action_of : List Property → Option ActionName
default_action_of [] = None
default_action_of (property.DefaultAction a given ∷ rest) = Some a
default_action_of (other ∷ rest) = default_action_of rest

-- the argument list of the default action
abbrev pub default_arguments_of : List Property → Option Exp16
default_arguments_of [] = None
default_arguments_of (property.DefaultAction a arguments ∷ rest) = Some arguments
default_arguments_of (other ∷ rest) = default_arguments_of rest

-- the text in `@name`
abbrev pub name_note_of : List Note → Option (List ℕ)
name_note_of [] = None
name_note_of (note.Name text ∷ rest) = Some text
name_note_of (note.FieldList lists ∷ rest) = name_note_of rest
