-- What the lowering of a table writes, whole (this project's own; P4_14 1.0.5, "Table Declarations"; P4_16 1.2,
-- "Tables", "Control-plane API annotations"; `v1model.p4`, `direct_counter`).
use Rattle.std.specs.Prelude.{ℕ, ◌-◌, ◌^◌, min, map, List, [], ◌∷◌, Option, Some, None, option_map, unwrap_or}
use Rattle.std.specs.List.{cons_option}
use Rattle.p414_syntax.specs.declared.lexeme.Literal.{Literal}
use Rattle.p416_syntax.specs.declared.lexeme.Literal16.{Literal16}
use Rattle.p414_syntax.specs.declared.parts.Number.{Number}
use Rattle.p414_syntax.specs.declared.tables.Table.{Table}
use Rattle.p414_syntax.specs.declared.syntax.Decl.{Decl}
use Rattle.p414_syntax.specs.Attributes.{reads_of, size_of, max_size_of, default_action_of, default_arguments_of}
use Rattle.p414_syntax.specs.Names.{Name}
use Rattle.p414_syntax.specs.Tables.{listed_in}
use Rattle.p414_sem.specs.Wholes.{whole, wrapped}
use Rattle.p416_syntax.specs.declared.parts.Note.TheVariants as note
use Rattle.p416_syntax.specs.declared.controls.TableKey.{TableKey}
use Rattle.p416_syntax.specs.declared.controls.Property.{Property}
use Rattle.p416_syntax.specs.declared.controls.Property.TheVariants as property
use Rattle.p416_syntax.specs.declared.controls.Table16.{Table16}
use Rattle.p416_syntax.specs.Tree.{Exp16, literal, no_arguments, argument}
use Rattle.lower_laws_base.specs.Context.{Words}
use Rattle.lower_laws_base.specs.Mirror.{plain, sized}
use Rattle.lower_laws_controls.specs.Keys.{key_of}
use Rattle.lower_laws_controls.specs.Listing.{each_once, copy_name, widths_of_action}

-- the property `key`; none is written where no key is read ("Tables")
abbrev pub keys_property : List TableKey → Option Property
keys_property [] = None
keys_property (k ∷ keys) = Some (property.Key (k ∷ keys))

-- `size`, else `max_size`, is at most the greatest number of 32 bits
abbrev pub size_literal : Option Literal → Option Literal → Option Literal16
size_literal (Some n) most = Some (plain (min (2 ^ 32 - 1) n.value))
size_literal None (Some n) = Some (plain (min (2 ^ 32 - 1) n.value))
size_literal None None = None

-- the property `size` ("Tables")
abbrev pub size_property : Literal16 → Property
size_property n = property.Size n

-- the property `counters`, with the direct counter of the table
abbrev pub counters_property : Name → Property
counters_property called = property.Counters called

-- arguments of a default action, each cut to the width of its parameter, behind others
abbrev pub arguments_exp : Exp16 → List ℕ → List Number → Exp16
arguments_exp before [] numbers = before
arguments_exp before (w ∷ widths) [] = before
arguments_exp before (w ∷ widths) (n ∷ numbers) =
    arguments_exp (argument before (literal (sized w (wrapped w (whole n))))) widths numbers

-- the property `default_action`, with its arguments
abbrev pub default_property : List Decl → (Name → Option Name) → Table → Name → Property
default_property ds copy t name =
    property.DefaultAction (copy_name copy name) (arguments_exp no_arguments (widths_of_action ds name) (unwrap_or (default_arguments_of t.attributes) []))

-- the properties that there are, in this order
abbrev pub properties_in_order : Option Property → Property → Option Property → Option Property → Option Property → List Property
properties_in_order keys actions size counters default =
    cons_option keys (actions ∷ cons_option size (cons_option counters (cons_option default [])))

-- the table with a new name, whose direct counter has a new name too
abbrev pub table_text : Words → List Decl → (Name → Option Name) → Name → Option Name → Table → Table16
table_text w ds copy called counter t = record {
  notes = note.Name t.name ∷ [];
  name = called;
  properties =
      properties_in_order (keys_property (map (key_of w ds) (reads_of t.attributes)))
      (property.Actions (map (copy_name copy) (each_once (listed_in t))))
      (option_map size_property (size_literal (size_of t.attributes) (max_size_of t.attributes)))
      (option_map counters_property counter)
      (option_map (default_property ds copy t) (default_action_of t.attributes));
}
