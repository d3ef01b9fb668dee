-- Of a block the functions of `v1model.p4` ask for the numbers of its tables, and for one slot, alone.
use Rattle.std.proofs.Common.{◌≡◌, Bool, List, refl, ap}
use Rattle.std.specs.Prelude.{codes}
use Rattle.p416_syntax.specs.Tree.{Exp16}
use Rattle.p416_syntax.specs.Kinds.{boolean}
use Rattle.p416_syntax.specs.Scopes.{Scope}
use Rattle.p416_syntax.specs.Calls.{value, any_bits}
use Rattle.v1_ready_forms.specs.Named.{NamedSeat}
use Rattle.v1_ready_blocks.specs.declared.externs.Extern.TheVariants as extern
use Rattle.v1_ready_statements.specs.Targets.{target_given}
use Rattle.v1_ready_statements.specs.Around.{Around, table_found, standard_slot}
use Rattle.v1_ready_statements.specs.Given.{join_option, given_at}
use Rattle.v1_ready_statements.specs.Called.{executes, with_algorithm, with_slot, algorithm_given, hashes, verified, updated, clones}
use Rattle.v1_ready_tests.proofs.Giving.{list_in}
use Rattle.v1_ready_operands.specs.Functions.{value_by, hash_by, verify_by, update_by, clone_by}

module _ (b : Around) (s : Scope) (seats : List NamedSeat) (es : List Exp16) where
  pub hash_in : hash_by s seats (table_found b) es ≡ hashes b s seats es
  hash_in =
      ap (λ xs. executes (with_algorithm (λ algorithm to. extern.Hash algorithm to) (algorithm_given (given_at es 1)) (target_given s seats (given_at es 0))) (join_option (value_by s seats (table_found b) any_bits (given_at es 2)) (join_option xs (value_by s seats (table_found b) any_bits (given_at es 4)))))
      (list_in b s seats (given_at es 3))

  pub verify_in : (payload : Bool) → verify_by s seats (table_found b) (standard_slot b (codes "checksum_error")) payload es ≡ verified b s seats payload es
  verify_in payload =
      ap (λ xs. executes (with_slot (λ algorithm slot. extern.Verify algorithm payload slot) (algorithm_given (given_at es 3)) (standard_slot b (codes "checksum_error"))) (join_option (value_by s seats (table_found b) (value boolean) (given_at es 0)) (join_option xs (value_by s seats (table_found b) any_bits (given_at es 2)))))
      (list_in b s seats (given_at es 1))

  pub update_in : (payload : Bool) → update_by s seats (table_found b) payload es ≡ updated b s seats payload es
  update_in payload =
      ap (λ xs. executes (with_algorithm (λ algorithm to. extern.Update algorithm payload to) (algorithm_given (given_at es 3)) (target_given s seats (given_at es 2))) (join_option (value_by s seats (table_found b) (value boolean) (given_at es 0)) xs))
      (list_in b s seats (given_at es 1))

  pub clone_in : clone_by s seats (table_found b) es ≡ clones b s seats es
  clone_in = refl
