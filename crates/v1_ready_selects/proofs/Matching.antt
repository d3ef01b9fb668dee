-- Rows lead where the cases of the program do.
use Rattle.std.proofs.Common.{◌≡◌, ℕ, suc, ◌+◌, ◌≤◌, ◌&&◌, Bool, true, false, not, cond, nat_eq, List, [], ◌∷◌, length, slice_get, Option, Some, None, refl, sym, ap, ◌∙◌, arith, inl, inr}
use Rattle.std.specs.Prelude.{nat_lt, unwrap_or}
use Rattle.std.specs.List.{position_or_len}
use Rattle.std.proofs.lemmas.Bool.{cases_eq, ne_eqb}
use Rattle.std.proofs.lemmas.Bool.Decides.{nat_tests}
use Rattle.std.proofs.lemmas.List.Sums.{prefix_len-le-length}
use Rattle.std.specs.Str.{bytes_eq}
use Rattle.p416_syntax.specs.declared.parsers.Target.{Target}
use Rattle.p416_syntax.specs.declared.parsers.Simple.{Simple}
use Rattle.p416_syntax.specs.declared.parsers.Simple.TheVariants as simple
use Rattle.p416_syntax.specs.declared.parsers.Keyset.{Keyset}
use Rattle.p416_syntax.specs.declared.parsers.Keyset.TheVariants as keyset
use Rattle.p416_syntax.specs.declared.parsers.State.{State}
use Rattle.p416_syntax.specs.Tree.{Exp16, literal, truth, error, name, member, index, slice, call, lookahead, cast, unary, binary, choice, parenthesized, no_arguments, argument, listed}
use Rattle.p416_syntax.specs.Names.{Name}
use Rattle.p416_syntax.specs.Kinds.{Kind}
use Rattle.v1_core.specs.Values.{Value, a_number, a_truth, an_error, a_header, a_stack, no_members, a_member, a_symbol, some_bits, no_value}
use Rattle.v1_core.specs.Numbers.{is_equal}
use Rattle.v1_core.specs.Parsing.{Key, keyset_value, matches_simple, matches_all, matches_keyset, first_match, state_called}
use Rattle.v1_ready_selects.specs.declared.rows.Led.{Led}
use Rattle.v1_ready_selects.specs.declared.rows.Led.TheVariants.{To}
use Rattle.v1_ready_selects.specs.Selects.{bits_with, takes, takes_each, takes_keys, row_for}
use Rattle.v1_ready_selects.specs.Rows.{number_of_state, next_for, test_of_value, test_of_part, tests_of_parts, test_of_keyset, rows_of_cases}
use Rattle.v1_ready_selects.specs.Matching.{key_kinds, key_values, state_names, led_to, RowsLeadAlike, NumbersTellStates}

-- one part

numbers_equal : (v : Value) (width n : ℕ) → is_equal v (bits_with n) ≡ is_equal v (a_number width n)
numbers_equal (a_number w m) width n = refl
numbers_equal (a_truth holds) width n = refl
numbers_equal (an_error m) width n = refl
numbers_equal (a_header h) width n = refl
numbers_equal (a_stack place elements) width n = refl
numbers_equal no_members width n = refl
numbers_equal (a_member called of rest) width n = refl
numbers_equal (a_symbol word) width n = refl
numbers_equal (some_bits items) width n = refl
numbers_equal no_value width n = refl

never_equal : (v : Value) → false ≡ is_equal v no_value
never_equal (a_number w m) = refl
never_equal (a_truth holds) = refl
never_equal (an_error m) = refl
never_equal (a_header h) = refl
never_equal (a_stack place elements) = refl
never_equal no_members = refl
never_equal (a_member called of rest) = refl
never_equal (a_symbol word) = refl
never_equal (some_bits items) = refl
never_equal no_value = refl

equal_is : (k : Kind) (e : Exp16) (v : Value) → takes (test_of_value (keyset_value k e)) v ≡ is_equal v (keyset_value k e)
equal_is k (literal n) v = numbers_equal v _ _
equal_is k (truth holds) v = refl
equal_is k error v = never_equal v
equal_is k (name text) v = never_equal v
equal_is k (member e word) v = never_equal v
equal_is k (index e at) v = never_equal v
equal_is k (slice e high low) v = never_equal v
equal_is k (call e given) v = never_equal v
equal_is k (lookahead e to given) v = never_equal v
equal_is k (cast to e) v = never_equal v
equal_is k (unary operator e) v = never_equal v
equal_is k (binary operator a b) v = never_equal v
equal_is k (choice c a b) v = never_equal v
equal_is k (parenthesized e) v = never_equal v
equal_is k no_arguments v = never_equal v
equal_is k (argument before last) v = never_equal v
equal_is k (listed items) v = never_equal v

part_is : (k : Key) (part : Simple) → takes (test_of_part k.kind part) k.value ≡ matches_simple k part
part_is k simple.Default = refl
part_is k simple.Any = refl
part_is k (simple.Mask v mask) = refl
part_is k (simple.Range low high) = refl
part_is k (simple.Value v) = equal_is k.kind v k.value

-- one for each key

more_than_none : (n : ℕ) → nat_eq (suc n) 0 ≡ false
more_than_none n = grind (arith, nat_tests)

fewer_than_some : (n : ℕ) → nat_eq 0 (suc n) ≡ false
fewer_than_some n = grind (arith, nat_tests)

one_more_each : (m n : ℕ) → nat_eq (suc m) (suc n) ≡ nat_eq m n
one_more_each m n = grind (arith, nat_tests)

test_first : (as_many here behind : Bool) → as_many && (here && behind) ≡ here && (as_many && behind)
test_first true here behind = refl
test_first false true behind = refl
test_first false false behind = refl

parts_are : (keys : List Key) (parts : List Simple) → nat_eq (length (tests_of_parts (key_kinds keys) parts)) (length (key_values keys)) && takes_each (tests_of_parts (key_kinds keys) parts) (key_values keys) ≡ matches_all keys parts
parts_are [] [] = refl
parts_are [] (part ∷ parts) =
    ap (λ (b : Bool). b && takes_each (tests_of_parts [] (part ∷ parts)) []) (more_than_none (length (tests_of_parts [] parts)))
parts_are (k ∷ keys) [] =
    ap (λ (b : Bool). b && takes_each [] (key_values (k ∷ keys))) (fewer_than_some (length (key_values keys)))
parts_are (k ∷ keys) (part ∷ parts) =
    ap (λ (b : Bool). b && (takes (test_of_part k.kind part) k.value && takes_each (tests_of_parts (key_kinds keys) parts) (key_values keys)))
    (one_more_each (length (tests_of_parts (key_kinds keys) parts)) (length (key_values keys)))
    ∙ test_first (nat_eq (length (tests_of_parts (key_kinds keys) parts)) (length (key_values keys))) (takes (test_of_part k.kind part) k.value)
    (takes_each (tests_of_parts (key_kinds keys) parts) (key_values keys))
    ∙ ap (λ (b : Bool). takes (test_of_part k.kind part) k.value && b) (parts_are keys parts)
    ∙ ap (λ (b : Bool). b && matches_all keys parts) (part_is k part)

keyset_is : (keys : List Key) (s : Keyset) → takes_keys (test_of_keyset (key_kinds keys) s) (key_values keys) ≡ matches_keyset keys s
keyset_is keys (keyset.Tuple parts) = parts_are keys parts
keyset_is keys (keyset.One simple.Default) = refl
keyset_is keys (keyset.One simple.Any) = refl
keyset_is keys (keyset.One (simple.Mask v mask)) = parts_are keys (simple.Mask v mask ∷ [])
keyset_is keys (keyset.One (simple.Range low high)) = parts_are keys (simple.Range low high ∷ [])
keyset_is keys (keyset.One (simple.Value v)) = parts_are keys (simple.Value v ∷ [])

-- the first case

case_by : (names : List Name) (t : Target) (other : Option Target) (led : Led) (b : Bool) → led ≡ led_to names other → cond b (To (next_for names t)) led ≡ led_to names (cond b (Some t) other)
case_by names t other led true e = refl
case_by names t other led false e = e

pub rows_lead : RowsLeadAlike
rows_lead names keys [] = refl
rows_lead names keys (c ∷ cases) =
    ap (λ (b : Bool). cond b (To (next_for names c.target)) (row_for (rows_of_cases names (key_kinds keys) cases) (key_values keys))) (keyset_is keys c.keyset)
    ∙ case_by names c.target (first_match keys cases) (row_for (rows_of_cases names (key_kinds keys) cases) (key_values keys)) (matches_keyset keys c.keyset) (rows_lead names keys cases)

-- states

nat_either : (x y : ℕ) → nat_eq x y ≡ nat_eq y x
nat_either x y =
    elim (cases_eq x y) [
      | inl same ↦ rw same refl
      | inr apart ↦ rw (ne_eqb x y apart, ne_eqb y x (λ same. apart (sym same))) refl
    ]

bytes_either : (xs ys : List ℕ) → bytes_eq xs ys ≡ bytes_eq ys xs
bytes_either [] [] = refl
bytes_either [] (y ∷ ys) = refl
bytes_either (x ∷ xs) [] = refl
bytes_either (x ∷ xs) (y ∷ ys) = rw (nat_either x y, bytes_either xs ys) refl

by_order : (k n : ℕ) (b : Bool) → nat_lt k n ≡ b → k ≤ n → unwrap_or (cond b (Some k) None) n ≡ k
by_order k n true e le = refl
by_order k n false e le = grind (arith, nat_tests)

number_is : (names : List Name) (text : Name) → number_of_state names text ≡ position_or_len (bytes_eq text) names
number_is names text =
    by_order (position_or_len (bytes_eq text) names) (length names) (nat_lt (position_or_len (bytes_eq text) names) (length names)) refl
    (prefix_len-le-length (λ other. not (bytes_eq text other)) names)

found_by : (x : State) (states : List State) (n : ℕ) (o : Option State) (b : Bool) → slice_get states n ≡ o → slice_get (x ∷ states) (cond (not b) (1 + n) 0) ≡ cond b (Some x) o
found_by x states n o true e = refl
found_by x states n o false e =
    let next : 1 + n ≡ suc n = omega arith in
    ap (slice_get (x ∷ states)) next ∙ e

found : (states : List State) (text : Name) → slice_get states (position_or_len (bytes_eq text) (state_names states)) ≡ state_called states text
found [] text = refl
found (x ∷ states) text =
    found_by x states (position_or_len (bytes_eq text) (state_names states)) (state_called states text) (bytes_eq text x.name) (found states text)
    ∙ ap (λ (b : Bool). cond b (Some x) (state_called states text)) (bytes_either text x.name)

pub states_told : NumbersTellStates
states_told states text = ap (slice_get states) (number_is (state_names states) text) ∙ found states text
