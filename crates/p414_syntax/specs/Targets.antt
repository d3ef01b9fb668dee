-- C14: what is extracted isn't a header, or a target isn't writable: in the parser all but fields of the program's
-- metadata, in actions the fields of `standard_metadata` but `egress_spec` (P4_14 1.0.5, "Parser Specification",
-- "Primitive Actions", "Standard Intrinsic Metadata"). Targets are judged as they are written: one that is given for
-- a parameter isn't, since C27 judges the parameter.
use Rattle.std.specs.Prelude.{Bool, true, false, not, ◌||◌, ◌&&◌, List, [], ◌∷◌, flat_map, codes}
use Rattle.std.specs.List.{list_any}
use Rattle.std.specs.Option.{option_map_or}
use Rattle.std.specs.Str.{bytes_eq}
use Rattle.p414_syntax.specs.declared.parts.Inst.{Inst}
use Rattle.p414_syntax.specs.declared.parts.Ref.{Ref}
use Rattle.p414_syntax.specs.declared.parsers.PStmt.{PStmt}
use Rattle.p414_syntax.specs.declared.parsers.PStmt.TheVariants as pstmt
use Rattle.p414_syntax.specs.declared.syntax.Decl.{Decl}
use Rattle.p414_syntax.specs.declared.syntax.Decl.TheVariants as decl
use Rattle.p414_syntax.specs.declared.place.ArgumentPlace.{ArgumentPlace}
use Rattle.p414_syntax.specs.declared.place.ArgumentPlace.TheVariants as place
use Rattle.p414_syntax.specs.Names.{Name}
use Rattle.p414_syntax.specs.Primitives.{is_standard}
use Rattle.p414_syntax.specs.Fields.{instance_of, is_header}
use Rattle.p414_syntax.specs.Arguments.{Argument, field_argument, PlacedArgument, placed_arguments}

-- the instance with this name is metadata that the program declares
abbrev pub is_metadata_in : Decl → Bool
is_metadata_in (decl.Metadata x) = true
is_metadata_in _ = false

abbrev pub is_metadata : List Decl → Name → Bool
is_metadata ds name = option_map_or is_metadata_in (instance_of ds name) false

-- what parser states extract, and the fields that they write

abbrev pub statements_in : Decl → List PStmt
statements_in (decl.Parser x) = x.statements
statements_in _ = []

abbrev pub extracted_in : PStmt → List Inst
extracted_in (pstmt.Extract i) = i ∷ []
extracted_in (pstmt.SetMetadata r v) = []

abbrev pub extracts : List Decl → List Inst
extracts ds = flat_map extracted_in (flat_map statements_in ds)

abbrev pub set_in : PStmt → List Ref
set_in (pstmt.Extract i) = []
set_in (pstmt.SetMetadata r v) = r ∷ []

abbrev pub parser_targets : List Decl → List Ref
parser_targets ds = flat_map set_in (flat_map statements_in ds)

-- the fields that stand as targets in actions

abbrev pub target_at : ArgumentPlace → Argument → List Ref
target_at place.Target (field_argument r) = r ∷ []
target_at _ _ = []

abbrev pub target_of : PlacedArgument → List Ref
target_of a = target_at a.wanted a.argument

abbrev pub action_targets : List Decl → List Ref
action_targets ds = flat_map target_of (placed_arguments ds)

-- C14

abbrev pub is_no_header : List Decl → Inst → Bool
is_no_header ds i = not (is_header ds i.name)

abbrev pub is_no_metadata_field : List Decl → Ref → Bool
is_no_metadata_field ds r = not (is_metadata ds r.instance.name)

abbrev pub is_read_only : Ref → Bool
is_read_only r = is_standard r.instance.name && not (bytes_eq r.field (codes "egress_spec"))

abbrev pub has_bad_target : List Decl → Bool
has_bad_target ds =
    list_any (is_no_header ds) (extracts ds)
    || (list_any (is_no_metadata_field ds) (parser_targets ds) || list_any is_read_only (action_targets ds))
