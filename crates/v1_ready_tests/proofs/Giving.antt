-- Of a block a list asks for the numbers of its tables alone.
use Rattle.std.proofs.Common.{◌≡◌, List, [], ◌∷◌, refl, ap}
use Rattle.std.specs.Prelude.{option_map}
use Rattle.p416_syntax.specs.Tree.{Exp16, literal, truth, error, name, member, index, slice, call, lookahead, cast, unary, binary, choice, parenthesized, no_arguments, argument, listed}
use Rattle.p416_syntax.specs.Scopes.{Scope}
use Rattle.p416_syntax.specs.Calls.{any_bits}
use Rattle.v1_ready_forms.specs.Named.{NamedSeat}
use Rattle.v1_ready_blocks.specs.Arguments.{an_item}
use Rattle.v1_ready_statements.specs.Around.{Around, table_found}
use Rattle.v1_ready_statements.specs.Tested.{ready_test}
use Rattle.v1_ready_statements.specs.Given.{join_option, items_given, list_given}
use Rattle.v1_ready_tests.specs.Items.{items_by, list_by}

module _ (b : Around) (s : Scope) (seats : List NamedSeat) where
  pub items_in : (e : Exp16) → items_by s seats (table_found b) e ≡ items_given b s seats e
  items_in (literal n) = refl
  items_in (truth x) = refl
  items_in error = refl
  items_in (name text) = refl
  items_in (member f word) = refl
  items_in (index f at) = refl
  items_in (slice f high low) = refl
  items_in (call f given) = refl
  items_in (lookahead f to given) = refl
  items_in (cast to f) = refl
  items_in (unary operator f) = refl
  items_in (binary operator f g) = refl
  items_in (choice x f g) = refl
  items_in (parenthesized f) = refl
  items_in no_arguments = refl
  items_in (argument before last) =
      ap (λ xs. join_option xs (option_map (λ t. an_item t ∷ []) (ready_test s seats (table_found b) any_bits last))) (items_in before)
  items_in (listed es) = refl

  pub list_in : (e : Exp16) → list_by s seats (table_found b) e ≡ list_given b s seats e
  list_in (literal n) = refl
  list_in (truth x) = refl
  list_in error = refl
  list_in (name text) = refl
  list_in (member f word) = refl
  list_in (index f at) = refl
  list_in (slice f high low) = refl
  list_in (call f given) = refl
  list_in (lookahead f to given) = refl
  list_in (cast to f) = refl
  list_in (unary operator f) = refl
  list_in (binary operator f g) = refl
  list_in (choice x f g) = refl
  list_in (parenthesized f) = refl
  list_in no_arguments = refl
  list_in (argument before last) = refl
  list_in (listed es) = items_in es
