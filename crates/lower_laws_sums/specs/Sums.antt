-- What the lowering of calculated fields writes: for each entry a call, whose condition says that the field's header is
-- valid, that no entry before it holds, and that it holds (this project's own; P4_14 1.0.5, "Checksums and Hash-value
-- Generators", "Field Lists"; `v1model.p4`, `verify_checksum`, `update_checksum` and the same with a payload).
use Rattle.std.specs.Prelude.{◌≡◌, ◌≢◌, ◌<◌, ◌^◌, nat_lt, Bool, true, false, if◌then◌else◌, codes, List, [], ◌∷◌, filter, fold, Option, Some, None, unwrap_or}
use Rattle.p414_syntax.specs.declared.calculations.Item.{Item}
use Rattle.p414_syntax.specs.declared.calculations.Item.TheVariants as item
use Rattle.p414_syntax.specs.declared.calculations.CalcCond.{CalcCond}
use Rattle.p414_syntax.specs.declared.calculations.CalcCond.TheVariants as calc_cond
use Rattle.p414_syntax.specs.declared.calculations.Calc.{Calc}
use Rattle.p414_syntax.specs.declared.calculations.CalculatedField.{CalculatedField}
use Rattle.p414_syntax.specs.declared.syntax.Decl.{Decl}
use Rattle.p414_syntax.specs.Lists.{calculated_fields, is_update, is_verify}
use Rattle.p414_sem.specs.Slots.{Slot, standard, declared, slot_of, element_of, bits_of_ref}
use Rattle.p414_sem.specs.Expanded.{Expanded}
use Rattle.p414_sem.specs.Calculations.{Calculation, calculation_named}
use Rattle.p416_syntax.specs.declared.node.UnaryOperator.TheVariants.{Not}
use Rattle.p416_syntax.specs.declared.node.BinaryOperator.TheVariants.{Equal, And}
use Rattle.p416_syntax.specs.Tree.{Exp16, literal, truth, name, member, call, unary, binary, no_arguments, argument, listed, Stmt16, no_statements, then, expression}
use Rattle.p416_syntax.specs.Names.{Name}
use Rattle.p416_syntax.specs.Kinds.{hash_algorithm}
use Rattle.agreement_of_meanings.specs.Shown.{slot_width}
use Rattle.lower_laws_base.specs.Context.{Words, now, enumeration_name, StateLayout, IsPart, IsSlot, IsHeaderPart}
use Rattle.lower_laws_base.specs.Mirror.{sized, width_in, part_exp, slot_exp, valid_exp}
use Rattle.lower_laws_controls.specs.Conditions.{is_valid_exp}
use Rattle.lower_laws_controls.specs.Listing.{Each}

-- the items of a list but for the payload, behind others
abbrev pub items_exp : Words → List Decl → Exp16 → List Item → Exp16
items_exp w ds before [] = before
items_exp w ds before (item.Payload ∷ rest) = items_exp w ds before rest
items_exp w ds before (item.Number n ∷ rest) = items_exp w ds (argument before (literal (sized (unwrap_or n.width 0) n.value))) rest
items_exp w ds before (item.Field r ∷ rest) = items_exp w ds (argument before (slot_exp w now (slot_of ds r))) rest
items_exp w ds before (item.Instance i ∷ rest) = items_exp w ds before rest

-- the payload is an item of the list
abbrev pub has_payload : List Item → Bool
has_payload [] = false
has_payload (item.Payload ∷ rest) = true
has_payload (x ∷ rest) = has_payload rest

-- whole numbers are compared: one of more bits than the field has is never its number
abbrev pub condition_exp : Words → List Decl → CalcCond → Exp16
condition_exp w ds (calc_cond.Valid i) = is_valid_exp w (element_of ds i)
condition_exp w ds (calc_cond.Equal r n) =
    if nat_lt n.value (2 ^ width_in w (slot_of ds r)) then binary Equal (slot_exp w now (slot_of ds r)) (literal (sized (width_in w (slot_of ds r)) n.value))
    else truth false

-- the header of a field is valid
abbrev pub header_exp : Words → Slot → Exp16
header_exp w (standard which) = truth true
header_exp w (declared i e k) = valid_exp (part_exp w now (record { instance = i; element = e }))

-- the call that verifies or updates, with a payload or without one
abbrev pub call_word : Bool → Bool → Name
call_word false false = codes "verify_checksum"
call_word false true = codes "verify_checksum_with_payload"
call_word true false = codes "update_checksum"
call_word true true = codes "update_checksum_with_payload"

-- the arguments of such a call: the condition, the items, the field, the algorithm
abbrev pub sum_arguments : Words → List Decl → Slot → Exp16 → Calculation → Exp16
sum_arguments w ds slot e c =
    argument (argument (argument (argument no_arguments e) (listed (items_exp w ds no_arguments c.items))) (slot_exp w now slot))
    (member (name (enumeration_name hash_algorithm)) c.algorithm)

-- the call for an entry
abbrev pub sum_stmt : Words → List Decl → Bool → Slot → Exp16 → Calculation → Stmt16
sum_stmt w ds updates slot e c =
    expression (call (name (call_word updates (has_payload c.items))) (sum_arguments w ds slot e c))

-- an entry without a condition is the last that counts
abbrev pub by_condition : Option CalcCond → Stmt16 → (CalcCond → Stmt16) → Stmt16
by_condition None last more = last
by_condition (Some k) last more = more k

-- the calls of these entries, behind other statements: `e` says that the header is valid and no entry before them holds
abbrev pub entries_stmt : Words → List Decl → Expanded → Bool → Slot → Stmt16 → Exp16 → List Calc → Stmt16
entries_stmt w ds x updates slot before e [] = before
entries_stmt w ds x updates slot before e (c ∷ rest) =
    by_condition c.condition ((then) before (sum_stmt w ds updates slot e (calculation_named ds x c.calculation)))
    (λ k. entries_stmt w ds x updates slot
    ((then) before (sum_stmt w ds updates slot (binary And e (condition_exp w ds k)) (calculation_named ds x c.calculation)))
    (binary And e (unary Not (condition_exp w ds k))) rest)

-- an entry verifies, or updates
abbrev pub is_used : Bool → Calc → Bool
is_used true c = is_update c
is_used false c = is_verify c

-- the calls for a field, by its entries of that use, behind other statements
abbrev pub field_stmt : Words → List Decl → Expanded → Bool → Stmt16 → CalculatedField → Stmt16
field_stmt w ds x updates before f =
    entries_stmt w ds x updates (slot_of ds f.field) before (header_exp w (slot_of ds f.field)) (filter (is_used updates) f.entries)

-- the calls for all calculated fields, in the order of declaration
abbrev pub sums_stmt : Words → List Decl → Expanded → Bool → Stmt16
sums_stmt w ds x updates = fold (field_stmt w ds x updates) no_statements (calculated_fields ds)

-- calculated fields of the program

-- numbers fit their widths, fields are there with these widths, and the payload is last
abbrev pub ItemsFit : StateLayout → List Decl → List Item → Type 0
ItemsFit g ds [] = Unit {0}
ItemsFit g ds (item.Payload ∷ rest) = rest ≡ []
ItemsFit g ds (item.Number n ∷ rest) = (n.value < 2 ^ unwrap_or n.width 0) × ItemsFit g ds rest
ItemsFit g ds (item.Field r ∷ rest) = IsSlot g (slot_of ds r) × (slot_width g.names.instances (slot_of ds r) ≡ bits_of_ref ds r) × ItemsFit g ds rest
ItemsFit g ds (item.Instance i ∷ rest) = ItemsFit g ds rest

-- a condition asks of an element that is there, or of a field that is there and isn't the calculated field itself
abbrev pub ConditionFits : StateLayout → List Decl → Slot → CalcCond → Type 0
ConditionFits g ds slot (calc_cond.Valid i) = IsPart g (element_of ds i)
ConditionFits g ds slot (calc_cond.Equal r n) = IsSlot g (slot_of ds r) × (slot_of ds r ≢ slot)

-- so does a condition that may be there
abbrev pub OptionFits : StateLayout → List Decl → Slot → Option CalcCond → Type 0
OptionFits g ds slot None = Unit {0}
OptionFits g ds slot (Some cond) = ConditionFits g ds slot cond

-- an entry's condition and items fit, and its result has the bits of the field
pub record EntryFits (g : StateLayout) (ds : List Decl) (x : Expanded) (slot : Slot) (c : Calc) : Type 0 where
  pub condition : OptionFits g ds slot c.condition
  pub items : ItemsFit g ds (calculation_named ds x c.calculation).items
  pub width : (calculation_named ds x c.calculation).width ≡ slot_width g.names.instances slot

-- the field of a header
abbrev pub IsHeaderSlot : StateLayout → Slot → Type 0
IsHeaderSlot g (standard which) = ⊥
IsHeaderSlot g (declared i e k) = IsSlot g (declared i e k) × IsHeaderPart g (record { instance = i; element = e })

-- a calculated field is one of a header, with its width, and all its entries fit
pub record FieldFits (g : StateLayout) (ds : List Decl) (x : Expanded) (f : CalculatedField) : Type 0 where
  pub slot : IsHeaderSlot g (slot_of ds f.field)
  pub width : slot_width g.names.instances (slot_of ds f.field) ≡ bits_of_ref ds f.field
  pub entries : Each (EntryFits g ds x (slot_of ds f.field)) f.entries
