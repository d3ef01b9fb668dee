-- The forms of the lines of an entries file (this project's own).
use Rattle.std.specs.Prelude.{ℕ, ◌+◌, Bool, List, [], ◌∷◌, take, drop, position, codes, if◌then◌else◌, Option, Some, None}
use Rattle.std.specs.Str.{bytes_eq}
use Rattle.text_lines.specs.Words.{Word}

-- what a line says
pub data Form : Type 0 where
  -- `table_add TABLE ACTION KEY* => ARGUMENT* [PRIORITY]`, with the words behind the `=>` as they stand
  AddEntry : (table action : Word) (keys behind : List Word) → Form
  -- `table_set_default TABLE ACTION ARGUMENT*`
  SetDefault : (table action : Word) (arguments : List Word) → Form
  -- `mirroring_add SESSION PORT`
  AddSession : (session port : Word) → Form
  -- `meter_colours METER COLOUR*`
  AddColours : (meter : Word) (colours : List Word) → Form

-- `=>`
abbrev pub is_arrow : Word → Bool
is_arrow word = bytes_eq word (codes "=>")

-- the first `=>` divides the keys from what stands behind it
abbrev pub divided_at : Word → Word → List Word → Option ℕ → Option Form
divided_at table action words None = None
divided_at table action words (Some at) = Some (AddEntry table action (take at words) (drop (at + 1) words))

-- behind `table_add`: a table, an action, and words with a `=>` among them
abbrev pub entry_form : List Word → Option Form
entry_form (table ∷ action ∷ words) = divided_at table action words (position is_arrow words)
entry_form _ = None

-- behind `table_set_default`
abbrev pub default_form : List Word → Option Form
default_form (table ∷ action ∷ words) = Some (SetDefault table action words)
default_form _ = None

-- behind `mirroring_add`
abbrev pub session_form : List Word → Option Form
session_form (session ∷ port ∷ []) = Some (AddSession session port)
session_form _ = None

-- behind `meter_colours`
abbrev pub colours_form : List Word → Option Form
colours_form (meter ∷ words) = Some (AddColours meter words)
colours_form [] = None

-- the form of a line by its first word and the words behind it, if it is one of the four
abbrev pub form_of : Word → List Word → Option Form
form_of first words =
    if bytes_eq first (codes "table_add") then entry_form words
    else (if bytes_eq first (codes "table_set_default") then default_form words
    else (if bytes_eq first (codes "mirroring_add") then session_form words
    else (if bytes_eq first (codes "meter_colours") then colours_form words
    else None)))
