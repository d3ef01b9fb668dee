-- What statements of parser states and arguments write, one by one.
use Rattle.std.specs.Prelude.{Bool, List}
use Rattle.std.specs.List.{list_any}
use Rattle.p414_syntax.specs.declared.parsers.PStmt.{PStmt}
use Rattle.p414_syntax.specs.declared.syntax.Decl.{Decl}
use Rattle.p414_syntax.specs.Arguments.{PlacedArgument}
use Rattle.p414_syntax.specs.Targets.{statements_in, extracted_in, set_in, target_of, is_no_header, is_no_metadata_field, is_read_only}
use Rattle.p414_syntax.specs.Unsupported.{is_group_field}

abbrev pub extracts_no_header : List Decl → PStmt → Bool
extracts_no_header ds s = list_any (is_no_header ds) (extracted_in s)

abbrev pub state_extracts_no_header : List Decl → Decl → Bool
state_extracts_no_header ds d = list_any (extracts_no_header ds) (statements_in d)

abbrev pub sets_no_metadata : List Decl → PStmt → Bool
sets_no_metadata ds s = list_any (is_no_metadata_field ds) (set_in s)

abbrev pub state_sets_no_metadata : List Decl → Decl → Bool
state_sets_no_metadata ds d = list_any (sets_no_metadata ds) (statements_in d)

abbrev pub sets_group : PStmt → Bool
sets_group s = list_any is_group_field (set_in s)

abbrev pub state_sets_group : Decl → Bool
state_sets_group d = list_any sets_group (statements_in d)

abbrev pub target_is_read_only : PlacedArgument → Bool
target_is_read_only a = list_any is_read_only (target_of a)

abbrev pub target_is_group : PlacedArgument → Bool
target_is_group a = list_any is_group_field (target_of a)
