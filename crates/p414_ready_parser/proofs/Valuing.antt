-- The rows of values give the same numbers.
use Rattle.std.proofs.Common.{◌≡◌, ℕ, ◌+◌, ◌%◌, ◌^◌, Bool, true, false, cond, pos, List, take, drop, Option, Some, None, option_map, refl, sym, ap}
use Rattle.p4x_bits.specs.BitLists.{num, octet_bits}
use Rattle.p414_syntax.specs.declared.parsers.PValue.{PValue}
use Rattle.p414_syntax.specs.declared.parsers.PValue.TheVariants as pvalue
use Rattle.p414_syntax.specs.declared.syntax.Decl.{Decl}
use Rattle.p414_syntax.specs.Names.{Name}
use Rattle.p414_sem.specs.Slots.{Slot, standard, declared, slot_of}
use Rattle.p414_sem.specs.State.{State, read}
use Rattle.p414_sem.specs.Wholes.{whole, wrapped}
use Rattle.p414_sem.specs.Parsing.{Latest, latest_instance, parser_value, has_bits}
use Rattle.p414_slots.specs.Shown.{slot_in, kept_slot}
use Rattle.p414_ready_parser.specs.Rows.{value_row}
use Rattle.p414_ready_parser.specs.Running.{ready_number}
use Rattle.p414_ready_parser.proofs.Powers.{wrapped_low}

-- the element that was extracted last, if one was
abbrev pub element_in : Option Latest → ℕ
element_in None = 0
element_in (Some l) = l.element

pub slot_back : (slot : Slot) → slot_in (kept_slot slot) ≡ slot
slot_back (standard which) = refl
slot_back (declared instance element field) = refl

abbrev pub low : ℕ → ℕ → ℕ
low width n = n % 2 ^ width

current_is : (width n : ℕ) (there : Bool) → option_map (wrapped width) (cond there (Some (pos n)) None) ≡ option_map (low width) (cond there (Some n) None)
current_is width n true = refl
current_is width n false = refl

latest_is : (ds : List Decl) (width : ℕ) (s : State) (field : Name) (l : Option Latest) → option_map (wrapped width) (parser_value ds l s (pvalue.Latest field)) ≡ option_map (low width) (ready_number (element_in l) s (value_row ds (option_map latest_instance l) width (pvalue.Latest field)))
latest_is ds width s field None = refl
latest_is ds width s field (Some l) = refl

-- a value, as what gets it keeps it
pub value_is : (ds : List Decl) (l : Option Latest) (s : State) (width : ℕ) (v : PValue) → option_map (wrapped width) (parser_value ds l s v) ≡ option_map (low width) (ready_number (element_in l) s (value_row ds (option_map latest_instance l) width v))
value_is ds l s width (pvalue.Current offset bits) = current_is width (num (take bits.value (drop offset.value (octet_bits s.unparsed)))) (has_bits s (offset.value + bits.value))
value_is ds l s width (pvalue.Latest field) = latest_is ds width s field l
value_is ds l s width (pvalue.Field r) = ap (λ (slot : Slot). Some (low width (read s slot))) (sym (slot_back (slot_of ds r)))
value_is ds l s width (pvalue.Number n) = ap Some (wrapped_low width (whole n))
