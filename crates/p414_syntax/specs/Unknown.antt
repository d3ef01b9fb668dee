-- C2: a name is used that its sort or type doesn't have, or there is no state `start` or no control `ingress` (P4_14
-- 1.0.5, "Summary of P4 BNF", "Packet Processing and Control Flow"). A transition names a parser state or the control
-- `ingress`, a control calls a control, and a table lists actions that the program declares. Primitives and fields of
-- `standard_metadata` that are left out count as names: other rules refuse them.
use Rattle.std.specs.Prelude.{Bool, false, not, ◌||◌, ◌&&◌, is_none, List, Option, Some, None, codes}
use Rattle.std.specs.List.{list_any}
use Rattle.std.specs.Str.{bytes_eq}
use Rattle.p414_syntax.specs.declared.parts.Inst.{Inst}
use Rattle.p414_syntax.specs.declared.syntax.Decl.{Decl}
use Rattle.p414_syntax.specs.declared.syntax.Sort.TheVariants as sort
use Rattle.p414_syntax.specs.Names.{Name, declaration_of, is_declared, is_state, is_control}
use Rattle.p414_syntax.specs.Primitives.{is_any_primitive}
use Rattle.p414_syntax.specs.Fields.{is_instance, ref_width, width_of, width_in_type}
use Rattle.p414_syntax.specs.Uses.{Use, of_sort, of_action, of_next_state, of_control, of_any_instance, of_instance, of_extracted, of_item, of_field, of_latest, of_type_field, uses}

-- what is declared by a name among parser states and controls
abbrev pub parse_of : List Decl → Name → Option Decl
parse_of ds name = declaration_of sort.Parse ds name

-- a parser state has the name, or it is that of the control `ingress`
abbrev pub is_next_state : List Decl → Name → Bool
is_next_state ds name =
    is_state (parse_of ds name) || bytes_eq name (codes "ingress") && is_control (parse_of ds name)

-- without an index the name may also be that of a field list
abbrev pub is_list_item : List Decl → Inst → Bool
is_list_item ds i = is_none i.index && is_declared sort.List ds i.name

-- The name of a use isn't there. A field of an instance or a type that isn't there isn't there either; `latest` with
-- nothing extracted before it is judged by C6.
abbrev pub is_unknown : List Decl → Use → Bool
is_unknown ds (of_sort sort name) = not (is_declared sort ds name)
is_unknown ds (of_action name) = not (is_any_primitive name || is_declared sort.Action ds name)
is_unknown ds (of_next_state name) = not (is_next_state ds name)
is_unknown ds (of_control name) = not (is_control (parse_of ds name))
is_unknown ds (of_any_instance name) = not (is_instance ds name)
is_unknown ds (of_instance i) = not (is_instance ds i.name)
is_unknown ds (of_extracted i) = not (is_instance ds i.name)
is_unknown ds (of_item i) = not (is_instance ds i.name || is_list_item ds i)
is_unknown ds (of_field r) = is_none (ref_width ds r)
is_unknown ds (of_latest (Some i) field) = is_none (width_of ds i.name field)
is_unknown ds (of_latest None field) = false
is_unknown ds (of_type_field header_type field) = is_none (width_in_type ds header_type field)

abbrev pub lacks_start : List Decl → Bool
lacks_start ds = not (is_state (parse_of ds (codes "start")))

abbrev pub lacks_ingress : List Decl → Bool
lacks_ingress ds = not (is_control (parse_of ds (codes "ingress")))

abbrev pub has_unknown_name : List Decl → Bool
has_unknown_name ds = list_any (is_unknown ds) (uses ds) || (lacks_start ds || lacks_ingress ds)
