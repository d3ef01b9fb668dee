-- T1: a name is declared twice in its scope, or used and not declared in the sort that its place asks for (P4_16 1.2, "Name
-- resolution", "Derived types"). Scopes are: the top with what is built in; a header's and a struct's fields; a parser with
-- its parameters, variables and states; a control with its parameters and all that it declares; the parameters of an
-- action; the statements of a state, of a block and of a case; a branch of an `if` without braces. An inner scope may hide
-- a name. A member that isn't there is such a name, where what stands before it has members at all; and a struct that holds
-- itself, through others or directly, is none that was declared.
use Rattle.std.specs.Prelude.{ℕ, Bool, true, false, not, ◌&&◌, is_none, List, [], map, filter_map, position, Option, Some, None}
use Rattle.std.specs.Str.{bytes_eq}
use Rattle.p416_syntax.specs.declared.parts.Type16.{Type16}
use Rattle.p416_syntax.specs.declared.parts.Type16.TheVariants.{Bit, Bool as BoolType, Named}
use Rattle.p416_syntax.specs.declared.parts.StructField.{StructField}
use Rattle.p416_syntax.specs.declared.program.Decl16.{Decl16}
use Rattle.p416_syntax.specs.declared.program.Decl16.TheVariants as decl
use Rattle.p416_syntax.specs.Tree.{Exp16, name, member, lookahead}
use Rattle.p416_syntax.specs.Names.{Name, repeats}
use Rattle.p416_syntax.specs.Kinds.{Kind, packet_in, direct_counter, is_plain}
use Rattle.p416_syntax.specs.Scopes.{Sort, a_value, an_enumeration, a_function, an_object, an_action, a_table, a_state, a_block, Scope, sort_of, called_of}
use Rattle.p416_syntax.specs.Calls.{Place, callee, owner, written_owner, method_signature}
use Rattle.p416_syntax.specs.Expressions.{kind_of, member_kind}
use Rattle.p416_syntax.specs.Uses.{WantedSort, some_action, some_table, some_state, some_direct_counter, some_block, Use, an_expression, a_type, a_name, names_of_scope}
use Rattle.p416_syntax.specs.Scopes as sort
use Rattle.p416_syntax.specs.Declarations.{top_name, top_names}

abbrev pub is_value_sort : Sort → Bool
is_value_sort (a_value k can) = true
is_value_sort _ = false

-- what may stand before a member
abbrev pub is_owner_sort : Sort → Bool
is_owner_sort (a_value k can) = true
is_owner_sort (an_enumeration e) = true
is_owner_sort (an_object o) = true
is_owner_sort (a_table actions counters) = true
is_owner_sort _ = false

-- what may be called
abbrev pub is_callee_sort : Sort → Bool
is_callee_sort (an_action plane parameters) = true
is_callee_sort a_function = true
is_callee_sort _ = false

-- the sort of declaration is the one that the place of an expression asks for
abbrev pub fits_place : Place → Sort → Bool
fits_place callee of = is_callee_sort of
fits_place owner of = is_owner_sort of
fits_place written_owner of = is_owner_sort of
fits_place _ of = is_value_sort of

abbrev pub is_wanted : WantedSort → Sort → Bool
is_wanted some_action (an_action plane parameters) = true
is_wanted some_table (a_table actions counters) = true
is_wanted some_state a_state = true
is_wanted some_direct_counter (an_object direct_counter) = true
is_wanted some_block a_block = true
is_wanted _ _ = false

abbrev pub is_type_sort : Sort → Bool
is_type_sort (sort.a_type k) = true
is_type_sort _ = false

-- a member, or a method, that isn't there
abbrev pub is_unknown_member : Scope → Place → Exp16 → Name → Bool
is_unknown_member s callee e word = is_none (method_signature (kind_of s e) word) && not (is_plain (kind_of s e))
is_unknown_member s p e word = is_none (member_kind s.layouts (kind_of s e) word) && not (is_plain (kind_of s e))

-- `lookahead` is a method of packets that are read
abbrev pub has_lookahead : Kind → Bool
has_lookahead packet_in = true
has_lookahead k = is_plain k

abbrev pub is_unknown_expression : Scope → Place → Exp16 → Bool
is_unknown_expression s p (name text) = not (fits_place p (sort_of s text))
is_unknown_expression s p (member e word) = is_unknown_member s p e word
is_unknown_expression s p (lookahead e to given) = not (has_lookahead (kind_of s e))
is_unknown_expression s p _ = false

abbrev pub is_unknown_type : Scope → Type16 → Bool
is_unknown_type s (Bit w) = false
is_unknown_type s BoolType = false
is_unknown_type s (Named text size) = not (is_type_sort (sort_of s text))

-- what is judged breaks T1
abbrev pub is_misnamed : Use → Bool
is_misnamed (an_expression s p e) = is_unknown_expression s p e
is_misnamed (a_type s p t) = is_unknown_type s t
is_misnamed (a_name s wanted text) = not (is_wanted wanted (sort_of s text))
is_misnamed (names_of_scope names) = repeats names
is_misnamed _ = false

-- the names at the top, the built-in ones among them
abbrev pub declares_twice : List Decl16 → Bool
declares_twice ds = repeats (map called_of (top_names ds))

-- what a struct holds, as a graph of the declarations at the top by their numbers

abbrev pub declared_name : Decl16 → Name
declared_name d = called_of (top_name d)

abbrev pub declaration_number : List Decl16 → Name → Option ℕ
declaration_number ds text = position (bytes_eq text) (map declared_name ds)

abbrev pub type_name : Type16 → Option Name
type_name (Bit w) = None
type_name BoolType = None
type_name (Named text size) = Some text

abbrev pub field_type_name : StructField → Option Name
field_type_name f = type_name f.of

abbrev pub held_names : Decl16 → List Name
held_names (decl.Struct x) = filter_map field_type_name x.fields
held_names _ = []

abbrev pub held_by : List Decl16 → Decl16 → List ℕ
held_by ds d = filter_map (declaration_number ds) (held_names d)

abbrev pub struct_graph : List Decl16 → List (List ℕ)
struct_graph ds = map (held_by ds) ds
