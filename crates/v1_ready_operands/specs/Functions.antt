-- The functions of `v1model.p4`, where tables have these numbers and `checksum_error` stands in this slot: as those of
-- v1_ready_statements, which ask the block for these alone.
use Rattle.std.specs.Prelude.{ℕ, Bool, if◌then◌else◌, List, [], ◌∷◌, Option, Some, option_map, option_and_then, codes}
use Rattle.std.specs.Str.{bytes_eq}
use Rattle.fabric.specs.declared.items.RequestKind.{RequestKind}
use Rattle.fabric.specs.declared.items.RequestKind.TheVariants.{CloneI2E, CloneE2E}
use Rattle.p416_syntax.specs.Tree.{Exp16}
use Rattle.p416_syntax.specs.Names.{Name}
use Rattle.p416_syntax.specs.Kinds.{boolean}
use Rattle.p416_syntax.specs.Scopes.{Scope}
use Rattle.p416_syntax.specs.Calls.{Place, value, any_bits, index_place}
use Rattle.v1_core.specs.Values.{to_member}
use Rattle.v1_ready_forms.specs.Named.{NamedSeat}
use Rattle.v1_ready_forms.specs.Spots.{spot_behind}
use Rattle.v1_ready_blocks.specs.declared.places.Target.{Target}
use Rattle.v1_ready_blocks.specs.declared.externs.Extern.TheVariants as extern
use Rattle.v1_ready_blocks.specs.Arguments.{Argument, a_value}
use Rattle.v1_ready_blocks.specs.Statements.{Deed}
use Rattle.v1_place_laws.specs.Places.{behind_meant, meant_by}
use Rattle.v1_ready_statements.specs.Targets.{target_of, target_given}
use Rattle.v1_ready_statements.specs.Tested.{ready_test}
use Rattle.v1_ready_statements.specs.Given.{join_option, given_at}
use Rattle.v1_ready_statements.specs.Called.{executes, with_algorithm, with_slot, algorithm_given, member_word, number_given}
use Rattle.v1_ready_tests.specs.Items.{list_by}

abbrev pub value_by : Scope → List NamedSeat → (Name → Option ℕ) → Place → Exp16 → Option (List Argument)
value_by s seats tables p e = option_map (λ t. a_value t ∷ []) (ready_test s seats tables p e)

abbrev pub hash_by : Scope → List NamedSeat → (Name → Option ℕ) → List Exp16 → Option Deed
hash_by s seats tables es =
    executes (with_algorithm (λ algorithm to. extern.Hash algorithm to) (algorithm_given (given_at es 1)) (target_given s seats (given_at es 0)))
    (join_option (value_by s seats tables any_bits (given_at es 2))
    (join_option (list_by s seats tables (given_at es 3)) (value_by s seats tables any_bits (given_at es 4))))

abbrev pub verify_by : Scope → List NamedSeat → (Name → Option ℕ) → Option ℕ → Bool → List Exp16 → Option Deed
verify_by s seats tables slot payload es =
    executes (with_slot (λ algorithm at. extern.Verify algorithm payload at) (algorithm_given (given_at es 3)) slot)
    (join_option (value_by s seats tables (value boolean) (given_at es 0))
    (join_option (list_by s seats tables (given_at es 1)) (value_by s seats tables any_bits (given_at es 2))))

abbrev pub update_by : Scope → List NamedSeat → (Name → Option ℕ) → Bool → List Exp16 → Option Deed
update_by s seats tables payload es =
    executes (with_algorithm (λ algorithm to. extern.Update algorithm payload to) (algorithm_given (given_at es 3)) (target_given s seats (given_at es 2)))
    (join_option (value_by s seats tables (value boolean) (given_at es 0)) (list_by s seats tables (given_at es 1)))

abbrev pub clone_by : Scope → List NamedSeat → (Name → Option ℕ) → List Exp16 → Option Deed
clone_by s seats tables es =
    executes
    (Some (extern.Clone (if bytes_eq (member_word (given_at es 0)) (codes "I2E") then CloneI2E else CloneE2E) (number_given (given_at es 2))))
    (value_by s seats tables index_place (given_at es 1))

abbrev pub request_by : RequestKind → List Exp16 → Option Deed
request_by kind es = executes (Some (extern.Request kind (number_given (given_at es 0)))) (Some [])

-- `mark_to_drop(sm)`

abbrev pub slot_in : Target → ℕ
slot_in t = t.slot

-- the slot of the field of this name of what is meant
abbrev pub field_slot_by : Scope → List NamedSeat → Name → Exp16 → Option ℕ
field_slot_by s seats word e =
    option_map slot_in
    (option_and_then target_of (behind_meant (spot_behind s.layouts (to_member word)) (meant_by s seats e)))

abbrev pub drop_by : Scope → List NamedSeat → Exp16 → Option Deed
drop_by s seats e =
    executes (option_map (λ slot. extern.MarkToDrop slot) (field_slot_by s seats (codes "egress_spec") e)) (Some [])
