-- What is gathered of a program before its signature is put together.
use Rattle.std.specs.Prelude.{◌≡◌, ℕ, List, [], map, filter_map, fold, slice_get, Option, Some, None, option_and_then, option_map, unwrap_or}
use Rattle.std.specs.BTreeSet.{insert_key}
use Rattle.std.specs.Cmp.Lexicographic.{slice_cmp}
use Rattle.std.specs.Option.{option_map_or}
use Rattle.std.specs.Ordering.{nat_cmp}
use Rattle.name_numbers.specs.Names.{find_name}
use Rattle.state_store.specs.declared.shapes.Shape.{Shape}
use Rattle.state_store.specs.declared.shapes.Shape.TheVariants as shape
use Rattle.match_core.specs.declared.signatures.KeySpec.{KeySpec}
use Rattle.match_core.specs.declared.signatures.ActionSig.{ActionSig}
use Rattle.match_core.specs.declared.signatures.TableSig.{TableSig}
use Rattle.match_core.specs.declared.signatures.ObjectSig.{ObjectSig}
use Rattle.p416_syntax.specs.declared.controls.ActionName.{ActionName}
use Rattle.p416_syntax.specs.declared.controls.ActionName.TheVariants as action_name
use Rattle.p416_syntax.specs.declared.controls.TableKey.{TableKey}
use Rattle.p416_syntax.specs.declared.controls.Table16.{Table16}
use Rattle.p416_syntax.specs.declared.program.Decl16.{Decl16}
use Rattle.p416_syntax.specs.declared.program.Decl16.TheVariants as decl
use Rattle.p416_syntax.specs.declared.program.Syntax16.{Syntax16}
use Rattle.p416_syntax.specs.Properties.{keys_of, actions_of, counters_of}
use Rattle.p416_syntax.specs.Names.{Name}
use Rattle.p416_syntax.specs.Scopes.{Sort, Known, Handed, Scope, handed, sort_in}
use Rattle.p416_syntax.specs.Expressions.{kind_of}
use Rattle.p416_syntax.specs.Declarations.{sort_parameters, tables_in, control_scope, top_scope}
use Rattle.p416_syntax.specs.Tables.{sort_plane, table_plane}
use Rattle.v1_core.specs.Signatures.{Object, in_order, own_object, top_object, object_names, plane_among, shape_among, shape_of, place_among, kind_named, key_width, handed_width, table_size}
use Rattle.p416_signature.specs.declared.actions.Listed.{Listed}
use Rattle.p416_signature.specs.declared.by_name.ByName.{ByName}
use Rattle.p416_signature.specs.declared.objects.Objects.{Objects}
use Rattle.p416_signature.specs.internal.Seen.{seen_object}

-- a name is put at its place among names in order, unless it is there; and so are these names one after another

abbrev pub put_in_order : List Name → Name → List Name
put_in_order names name = insert_key (slice_cmp nat_cmp) names name

abbrev pub put_all : List Name → List Name → List Name
put_all names more = fold put_in_order names more

-- the first of these with a name
abbrev pub first_named : {X : Type 0} → (X → Name) → List X → Name → Option X
first_named called xs text = option_and_then (slice_get xs) (find_name (map called xs) text)

-- objects

abbrev pub objects_seen : ByName → List Object
objects_seen b = map seen_object b.objects.items

-- the control-plane name of the object that a name means, among a control's own objects and else among those at the top
abbrev pub plane_in : List Object → List Object → Name → Name
plane_in own top text = unwrap_or (plane_among own text) (unwrap_or (plane_among top text) text)

abbrev pub own_shape : Object → Shape
own_shape o = shape_of o.instance

abbrev pub shape_in : Option Object → Shape
shape_in o = option_map_or own_shape o (shape.Meter 0)

abbrev pub sig_among : List Object → Name → ObjectSig
sig_among os plane = record { name = plane; shape = shape_among os plane }

-- these are the objects of the program
pub record AreObjects (syntax : Syntax16) (o : Objects) : Type 0 where
  pub numbers : o.numbers ≡ object_names syntax
  pub top : objects_seen o.top ≡ filter_map top_object syntax.decls

abbrev pub number_in : Objects → List Object → Name → ℕ
number_in o own text = place_among o.numbers (plane_in own (objects_seen o.top) text)

-- actions

-- an action that a table lists, by its control-plane name, with its parameters
pub record Row : Type 0 where
  pub plane : Name
  pub given : List Handed

abbrev pub seen_listed : List Known → Listed → Row
seen_listed top l = record { plane = l.plane.now; given = map (handed top) l.parameters.now }

abbrev pub row_of : Name → Sort → Row
row_of text sort = record { plane = sort_plane text sort; given = sort_parameters sort }

abbrev pub row_named : List Known → Name → Row
row_named names text = row_of text (sort_in names text)

abbrev pub listed_row : List Known → ActionName → Option Row
listed_row names (action_name.Declared text) = Some (row_named names text)
listed_row names action_name.NoAction = None

abbrev pub row_plane : Row → Name
row_plane r = r.plane

abbrev pub row_given : Row → List Handed
row_given r = r.given

-- the parameters of the first of these with a control-plane name, where these are their names
abbrev pub given_with : List Row → List Name → Name → List Handed
given_with rows names plane = option_map_or row_given (option_and_then (slice_get rows) (find_name names plane)) []

abbrev pub row_sig : List Row → Name → ActionSig
row_sig rows plane = record { name = plane; widths = map handed_width (given_with rows (map row_plane rows) plane) }

abbrev pub sigs_of_rows : List Row → List ActionSig
sigs_of_rows rows = map (row_sig rows) (in_order (map row_plane rows))

abbrev pub sigs_in : List Known → List ActionName → List ActionSig
sigs_in names actions = sigs_of_rows (filter_map (listed_row names) actions)

-- tables

abbrev pub key_in : Scope → TableKey → KeySpec
key_in s k = record { kind = kind_named k.kind; width = key_width (kind_of s k.exp) }

-- a table in a scope, where these are the objects of its control and of the program
abbrev pub sig_in : Scope → List Object → Objects → Table16 → TableSig
sig_in s own o t = record {
  name = table_plane t;
  keys = map (key_in s) (keys_of t.properties);
  actions = sigs_in s.names (actions_of t.properties);
  size = table_size t;
  direct = option_map (number_in o own) (counters_of t.properties);
}

-- the tables of a declaration
abbrev pub sigs_of : List Decl16 → Objects → Decl16 → List TableSig
sigs_of ds o (decl.Control c) =
    map (sig_in (control_scope (top_scope ds []) c) (filter_map own_object c.locals) o) (tables_in c)
sigs_of ds o _ = []

-- tables by their names

abbrev pub sig_name : TableSig → Name
sig_name t = t.name

-- the first of these with a name, where these are their names
abbrev pub sig_at : List TableSig → List Name → Name → Option TableSig
sig_at sigs names plane = option_and_then (slice_get sigs) (find_name names plane)

abbrev pub sig_with : List TableSig → Name → Option TableSig
sig_with sigs plane = sig_at sigs (map sig_name sigs) plane
