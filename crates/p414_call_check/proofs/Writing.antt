-- What states extract and write, and what arguments write, is judged one by one.
use Rattle.std.proofs.Common.{◌≡◌, Bool, ◌||◌, List, [], ◌∷◌, flat_map, refl, sym, ap, ◌∙◌}
use Rattle.std.specs.List.{list_any}
use Rattle.std.proofs.lemmas.List.Folds.{list_any-append}
use Rattle.p414_syntax.specs.declared.parsers.PStmt.{PStmt}
use Rattle.p414_syntax.specs.declared.syntax.Decl.{Decl}
use Rattle.p414_syntax.specs.Arguments.{PlacedArgument, placed_arguments}
use Rattle.p414_syntax.specs.Targets.{statements_in, extracted_in, set_in, target_of, is_no_header, is_no_metadata_field, is_read_only, extracts, parser_targets, action_targets}
use Rattle.p414_syntax.specs.Unsupported.{is_group_field}
use Rattle.p414_call_check.specs.internal.Written.{state_extracts_no_header, state_sets_no_metadata, state_sets_group, target_is_read_only, target_is_group}

pub any_joined : {X Y : Type 0} (p : Y → Bool) (f : X → List Y) (xs : List X) → list_any p (flat_map f xs) ≡ list_any (λ x. list_any p (f x)) xs
any_joined p f [] = refl
any_joined p f (x ∷ xs) = list_any-append p (f x) (flat_map f xs) ∙ ap (λ b. list_any p (f x) || b) (any_joined p f xs)

any_state : {Y : Type 0} (p : Y → Bool) (f : PStmt → List Y) (ds : List Decl) → list_any (λ d. list_any (λ s. list_any p (f s)) (statements_in d)) ds ≡ list_any p (flat_map f (flat_map statements_in ds))
any_state p f ds = sym (any_joined p f (flat_map statements_in ds) ∙ any_joined (λ s. list_any p (f s)) statements_in ds)

pub any_extract : (ds : List Decl) → list_any (state_extracts_no_header ds) ds ≡ list_any (is_no_header ds) (extracts ds)
any_extract ds = any_state (is_no_header ds) extracted_in ds

pub any_set : (ds : List Decl) → list_any (state_sets_no_metadata ds) ds ≡ list_any (is_no_metadata_field ds) (parser_targets ds)
any_set ds = any_state (is_no_metadata_field ds) set_in ds

pub any_group : (ds : List Decl) → list_any state_sets_group ds ≡ list_any is_group_field (parser_targets ds)
any_group ds = any_state is_group_field set_in ds

-- what the arguments of actions write

pub any_read_only : (ds : List Decl) (arguments : List PlacedArgument) → arguments ≡ placed_arguments ds → list_any target_is_read_only arguments ≡ list_any is_read_only (action_targets ds)
any_read_only ds arguments is = ap (list_any target_is_read_only) is ∙ sym (any_joined is_read_only target_of (placed_arguments ds))

pub any_group_target : (ds : List Decl) (arguments : List PlacedArgument) → arguments ≡ placed_arguments ds → list_any target_is_group arguments ≡ list_any is_group_field (action_targets ds)
any_group_target ds arguments is = ap (list_any target_is_group) is ∙ sym (any_joined is_group_field target_of (placed_arguments ds))
