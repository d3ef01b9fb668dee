-- C25: something that this profile leaves out stands there (all of it is this project's own choice; the sections of
-- P4_14 1.0.5 are those of the constructs): a parser value set, a parser exception, an action profile or an action
-- selector; the action profile of a table; `parse_error`; a primitive that is left out; an algorithm other than
-- csum16, crc16, crc32 and identity; a field attribute other than `saturating`; the width `*`; `length`; the index
-- `last`; a meter or a register that is direct; the layout of a register; `saturating` in a counter or a register;
-- `signed` in a counter, a meter or a register; the fields of `standard_metadata` that are left out; and a write of
-- `intrinsic_metadata.mcast_grp`, since groups are no part of the language yet.
use Rattle.std.specs.Prelude.{Bool, true, false, not, ◌||◌, ◌&&◌, is_some, List, [], ◌∷◌, Option, Some, None, codes}
use Rattle.std.specs.List.{list_any}
use Rattle.std.specs.Str.{bytes_eq}
use Rattle.p414_syntax.specs.declared.parts.Index.{Index}
use Rattle.p414_syntax.specs.declared.parts.Index.TheVariants.{At, Next, Last}
use Rattle.p414_syntax.specs.declared.parts.Inst.{Inst}
use Rattle.p414_syntax.specs.declared.parts.Ref.{Ref}
use Rattle.p414_syntax.specs.declared.headers.Field.{Field}
use Rattle.p414_syntax.specs.declared.parsers.CaseTarget.{CaseTarget}
use Rattle.p414_syntax.specs.declared.parsers.CaseTarget.TheVariants as case_target
use Rattle.p414_syntax.specs.declared.parsers.Case.{Case}
use Rattle.p414_syntax.specs.declared.parsers.Return.{Return}
use Rattle.p414_syntax.specs.declared.parsers.Return.TheVariants as end_of
use Rattle.p414_syntax.specs.declared.actions.Call.{Call}
use Rattle.p414_syntax.specs.declared.objects.StateAttr.{StateAttr}
use Rattle.p414_syntax.specs.declared.syntax.Decl.{Decl}
use Rattle.p414_syntax.specs.declared.syntax.Decl.TheVariants as decl
use Rattle.p414_syntax.specs.Attributes.{length_of, action_profile_of, direct_table_of, layout_of, is_saturating_of, is_signed_of}
use Rattle.p414_syntax.specs.Names.{Name, has_name}
use Rattle.p414_syntax.specs.Primitives.{is_standard, left_out_primitives, left_out_fields}
use Rattle.p414_syntax.specs.Fields.{is_rest_field}
use Rattle.p414_syntax.specs.Uses.{Use, of_instance, of_extracted, of_item, of_field, uses}
use Rattle.p414_syntax.specs.Targets.{parser_targets, action_targets}

-- fields of header types

abbrev pub is_unsupported_attribute : Name → Bool
is_unsupported_attribute attribute = not (bytes_eq attribute (codes "saturating"))

abbrev pub is_unsupported_field : Field → Bool
is_unsupported_field f = is_rest_field f || list_any is_unsupported_attribute f.attributes

-- calculations

abbrev pub algorithms : List Name
algorithms = codes "csum16" ∷ codes "crc16" ∷ codes "crc32" ∷ codes "identity" ∷ []

-- parser states

abbrev pub is_error_target : CaseTarget → Bool
is_error_target (case_target.ParseError name) = true
is_error_target (case_target.State name) = false

abbrev pub is_error_case : Case → Bool
is_error_case c = is_error_target c.target

abbrev pub ends_in_error : Return → Bool
ends_in_error (end_of.Select vs cs) = list_any is_error_case cs
ends_in_error (end_of.State name) = false
ends_in_error (end_of.ParseError name) = true

-- actions

abbrev pub is_unsupported_call : Call → Bool
is_unsupported_call c = has_name left_out_primitives c.name

-- counters, meters and registers

abbrev pub is_unsupported_counter : List StateAttr → Bool
is_unsupported_counter attributes = is_saturating_of attributes || is_signed_of attributes

abbrev pub is_unsupported_meter : List StateAttr → Bool
is_unsupported_meter attributes = is_some (direct_table_of attributes) || is_signed_of attributes

abbrev pub is_unsupported_register : List StateAttr → Bool
is_unsupported_register attributes =
    is_some (direct_table_of attributes) || is_some (layout_of attributes)
    || (is_saturating_of attributes || is_signed_of attributes)

-- what stands in a declaration
abbrev pub declares_unsupported : Decl → Bool
declares_unsupported (decl.HeaderType x) = is_some (length_of x.tails) || list_any is_unsupported_field x.fields
declares_unsupported (decl.FieldListCalculation x) = not (has_name algorithms x.algorithm)
declares_unsupported (decl.Parser x) = ends_in_error x.end
declares_unsupported (decl.Action x) = list_any is_unsupported_call x.calls
declares_unsupported (decl.Table x) = is_some (action_profile_of x.attributes)
declares_unsupported (decl.Counter x) = is_unsupported_counter x.attributes
declares_unsupported (decl.Meter x) = is_unsupported_meter x.attributes
declares_unsupported (decl.Register x) = is_unsupported_register x.attributes
declares_unsupported (decl.LeftOut x) = true
declares_unsupported _ = false

-- what is used: the index `last`, and fields of `standard_metadata`

abbrev pub is_last_index : Option Index → Bool
is_last_index None = false
is_last_index (Some (At n)) = false
is_last_index (Some Next) = false
is_last_index (Some Last) = true

abbrev pub is_last : Inst → Bool
is_last i = is_last_index i.index

abbrev pub is_unsupported_standard : Ref → Bool
is_unsupported_standard r = is_standard r.instance.name && has_name left_out_fields r.field

abbrev pub is_unsupported_use : Use → Bool
is_unsupported_use (of_instance i) = is_last i
is_unsupported_use (of_extracted i) = is_last i
is_unsupported_use (of_item i) = is_last i
is_unsupported_use (of_field r) = is_last r.instance || is_unsupported_standard r
is_unsupported_use _ = false

-- what is written
abbrev pub is_group_field : Ref → Bool
is_group_field r = bytes_eq r.instance.name (codes "intrinsic_metadata") && bytes_eq r.field (codes "mcast_grp")

abbrev pub writes_group : List Decl → Bool
writes_group ds = list_any is_group_field (parser_targets ds) || list_any is_group_field (action_targets ds)

abbrev pub has_unsupported : List Decl → Bool
has_unsupported ds =
    list_any declares_unsupported ds || (list_any is_unsupported_use (uses ds) || writes_group ds)
