-- The values of expressions are of their kinds.
use Rattle.std.proofs.Common.{◌≡◌, ◌⊎◌, inl, inr, ℕ, zero, suc, ◌+◌, ◌*◌, ◌-◌, ◌<◌, ◌≤◌, nat_eq, nat_lt, leb, ◌&&◌, Bool, true, false, cond, Option, Some, None, unwrap_or, List, [], ◌∷◌, length, take, get_or, refl, sym, ap, ◌∙◌, subst, arith, codes}
use Rattle.std.proofs.lemmas.List.{get_or_past}
use Rattle.std.proofs.lemmas.Bool.{eqb-true}
use Rattle.std.proofs.lemmas.Bool.Decides.{leb_tells}
use Rattle.std.proofs.lemmas.Slice.Eq.{bytes_eq-Decides}
use Rattle.std.specs.Str.{bytes_eq}
use Rattle.p4x_bits.specs.BitLists.{num, octet_bits}
use Rattle.p416_syntax.specs.declared.lexeme.Literal16.{Literal16}
use Rattle.p416_syntax.specs.declared.node.CastType.{CastType}
use Rattle.p416_syntax.specs.declared.node.CastType.TheVariants as cast_to
use Rattle.p416_syntax.specs.declared.node.UnaryOperator.{UnaryOperator}
use Rattle.p416_syntax.specs.declared.node.UnaryOperator.TheVariants.{Not, Complement, Negate}
use Rattle.p416_syntax.specs.declared.node.BinaryOperator.{BinaryOperator}
use Rattle.p416_syntax.specs.declared.node.BinaryOperator.TheVariants.{Multiply, Add, Subtract, SaturatingAdd, SaturatingSubtract, Concatenate, ShiftLeft, ShiftRight, BitAnd, BitXor, BitOr, Less, LessEqual, Greater, GreaterEqual, Equal, NotEqual, And, Or}
use Rattle.p416_syntax.specs.Names.{Name, has_name}
use Rattle.p416_syntax.specs.Kinds.{Kind, bits, unsized, boolean, error_code, header, stack, struct, packet_in, packet_out, errors, enumeration, one_of, table, applied, object, items, nothing, unknown, is_unsized, is_same_kind}
use Rattle.p416_syntax.specs.Scopes.{Layout as TypeLayout, FieldKind, fields_in}
use Rattle.p416_syntax.specs.Totals.{bits_in}
use Rattle.p416_syntax.specs.BuiltIn.{members_of, error_names}
use Rattle.p416_syntax.specs.Calls.{Place, value, any_bits}
use Rattle.p416_syntax.specs.Expressions.{field_kind_in, member_kind, known_kind, element_kind, slice_kind, lookahead_kind, cast_kind, unary_kind, binary_kind, number_kind, joint_bits, concatenated, same_choice, leaves_width}
use Rattle.p416_syntax.specs.Uses.{joint_place, unary_place, left_place, right_place, chosen_place}
use Rattle.p416_syntax.specs.Literals.{width_of_place}
use Rattle.v1_core.specs.declared.parser_error.ParserError.TheVariants.{PacketTooShort}
use Rattle.v1_core.specs.Values.{Field, Header, Value, a_number, a_truth, an_error, a_header, a_stack, no_members, a_member, a_symbol, some_bits, no_value, no_header, Step, to_member, to_element, part_of, member_in, field_in, field_value, place_in}
use Rattle.v1_core.specs.Numbers.{unary_value, binary_value, cast_value, of_numbers, of_truths, of_errors}
use Rattle.v1_core.specs.Frames.{Moment, raised}
use Rattle.v1_core.specs.Expressions.{Valued, valued, element_by, member_value, lookahead_value, has_bits}
use Rattle.v1_core.specs.Cells.{Cells, slot_value, header_valid}
use Rattle.v1_core.specs.Seats.{form_of, struct_form, Start, moved, behind}
use Rattle.v1_core.specs.PackedValues.{field_values, element_values, member_values, value_from}
use Rattle.v1_core.proofs.Reading.{by_truth, member_part}
use Rattle.v1_ready_laws.specs.Operands.{WidthsFit, PairFits}
use Rattle.v1_ready_laws.specs.Kinds.{HasWidth, HasNoParts, IsOf, IsOfAt, FieldsSized, TypesSized, Join, one_width, left_width, right_width, no_width, Concatenated, both_widths, KindsFit}
use Rattle.v1_ready_laws.proofs.Paths.{element_is, elements_count}

-- values that are of any kind

no_parts : HasNoParts no_value
no_parts (to_member word) = refl
no_parts (to_element number) = refl

header_missing : HasNoParts (a_header no_header)
header_missing (to_member word) = refl
header_missing (to_element number) = refl

number_parts : (w n : ℕ) → HasNoParts (a_number w n)
number_parts w n (to_member word) = refl
number_parts w n (to_element number) = refl

truth_parts : (b : Bool) → HasNoParts (a_truth b)
truth_parts b (to_member word) = refl
truth_parts b (to_element number) = refl

pub nothing_of : (types : List TypeLayout) (c : Cells) (p : Place) (k : Kind) → IsOfAt types c p k no_value
nothing_of types c p (bits width) = tt
nothing_of types c p unsized = tt
nothing_of types c p boolean = tt
nothing_of types c p error_code = tt
nothing_of types c p (header type) = inr no_parts
nothing_of types c p (stack type size) = inr no_parts
nothing_of types c p (struct type) = inr no_parts
nothing_of types c p packet_in = tt
nothing_of types c p packet_out = tt
nothing_of types c p errors = tt
nothing_of types c p (enumeration enum) = tt
nothing_of types c p (one_of enum) = tt
nothing_of types c p table = tt
nothing_of types c p applied = tt
nothing_of types c p (object kind) = tt
nothing_of types c p items = tt
nothing_of types c p nothing = tt
nothing_of types c p unknown = tt

pub truth_of : (types : List TypeLayout) (c : Cells) (p : Place) (k : Kind) (b : Bool) → IsOfAt types c p k (a_truth b)
truth_of types c p (bits width) b = tt
truth_of types c p unsized b = tt
truth_of types c p boolean b = tt
truth_of types c p error_code b = tt
truth_of types c p (header type) b = inr (truth_parts b)
truth_of types c p (stack type size) b = inr (truth_parts b)
truth_of types c p (struct type) b = inr (truth_parts b)
truth_of types c p packet_in b = tt
truth_of types c p packet_out b = tt
truth_of types c p errors b = tt
truth_of types c p (enumeration enum) b = tt
truth_of types c p (one_of enum) b = tt
truth_of types c p table b = tt
truth_of types c p applied b = tt
truth_of types c p (object kind) b = tt
truth_of types c p items b = tt
truth_of types c p nothing b = tt
truth_of types c p unknown b = tt

-- a number of a kind's width
number_of : (types : List TypeLayout) (c : Cells) (p : Place) (k : Kind) (n : ℕ) → is_unsized k ≡ false → IsOfAt types c p k (a_number (bits_in k) n)
number_of types c p (bits width) n sized = refl
number_of types c p unsized n sized = absurd (cc sized)
number_of types c p boolean n sized = tt
number_of types c p error_code n sized = tt
number_of types c p (header type) n sized = inr (number_parts 0 n)
number_of types c p (stack type size) n sized = inr (number_parts 0 n)
number_of types c p (struct type) n sized = inr (number_parts 0 n)
number_of types c p packet_in n sized = tt
number_of types c p packet_out n sized = tt
number_of types c p errors n sized = tt
number_of types c p (enumeration enum) n sized = tt
number_of types c p (one_of enum) n sized = tt
number_of types c p table n sized = tt
number_of types c p applied n sized = tt
number_of types c p (object kind) n sized = tt
number_of types c p items n sized = tt
number_of types c p nothing n sized = tt
number_of types c p unknown n sized = tt

-- what stands among the cells
pub seat_of : (types : List TypeLayout) (c : Cells) (p : Place) (k : Kind) (n : ℕ) (b : Start) → IsOfAt types c p k (value_from types c n (form_of k) b)
seat_of types c p (bits width) n b = refl
seat_of types c p unsized n b = tt
seat_of types c p boolean n b = tt
seat_of types c p error_code n b = tt
seat_of types c p (header type) n b = inl (b, refl)
seat_of types c p (stack type size) n b = inl (b, refl)
seat_of types c p (struct type) n b = inl (n, (b, refl))
seat_of types c p packet_in n b = tt
seat_of types c p packet_out n b = tt
seat_of types c p errors n b = tt
seat_of types c p (enumeration enum) n b = tt
seat_of types c p (one_of enum) n b = tt
seat_of types c p table n b = tt
seat_of types c p applied n b = tt
seat_of types c p (object kind) n b = tt
seat_of types c p items n b = tt
seat_of types c p nothing n b = tt
seat_of types c p unknown n b = tt

-- members

field_of : (types : List TypeLayout) (c : Cells) (p : Place) (valid : Bool) (fields : List FieldKind) (b : Start) (word : Name) → FieldsSized fields → IsOfAt types c p (known_kind (field_kind_in fields word)) (field_value valid (field_in (field_values fields c b) word))
field_of types c p valid [] b word sized = tt
field_of types c p valid (f ∷ fields) b word sized =
    let own : Option Field = Some (record { called = f.called; width = bits_in f.kind; number = slot_value c b.slot }) in
    by_truth (λ (same : Bool). IsOfAt types c p (known_kind (cond same (Some f.kind) (field_kind_in fields word))) (field_value valid (cond same own (field_in (field_values fields c (moved b 1 0 0)) word))))
    (number_of types c p f.kind (cond valid (slot_value c b.slot) 0) sized.0) (field_of types c p valid fields (moved b 1 0 0) word sized.1) (bytes_eq f.called word)

struct_member : (types : List TypeLayout) (c : Cells) (p : Place) (n : ℕ) (fields : List FieldKind) (b : Start) (word : Name) → IsOfAt types c p (known_kind (field_kind_in fields word)) (member_in (member_values (λ k s. value_from types c n k s) (λ k s. behind types n k s) fields b) word)
struct_member types c p n [] b word = tt
struct_member types c p n (f ∷ fields) b word =
    let next = behind types n (form_of f.kind) b in
    by_truth (λ (same : Bool). IsOfAt types c p (known_kind (cond same (Some f.kind) (field_kind_in fields word))) (cond same (value_from types c n (form_of f.kind) b) (member_in (member_values (λ k s. value_from types c n k s) (λ k s. behind types n k s) fields next) word)))
    (seat_of types c p f.kind n b) (struct_member types c p n fields next word) (bytes_eq f.called word)

-- a part of what has none
missing_of : (types : List TypeLayout) (c : Cells) (p : Place) (k : Kind) (v : Value) (step : Step) → HasNoParts v → IsOfAt types c p k (part_of v step)
missing_of types c p k v step none = subst (IsOfAt types c p k) (sym (none step)) (nothing_of types c p k)

header_member : (types : List TypeLayout) (c : Cells) (p : Place) (type word : Name) (v : Value) → TypesSized types → IsOf types c (header type) v → IsOfAt types c p (known_kind (field_kind_in (fields_in types type) word)) (part_of v (to_member word))
header_member types c p type word v sized (inl x) =
    subst (λ (u : Value). IsOfAt types c p (known_kind (field_kind_in (fields_in types type) word)) (part_of u (to_member word))) (sym x.1)
    (field_of types c p (header_valid c x.0.header) (fields_in types type) x.0 word (sized type))
header_member types c p type word v sized (inr none) = missing_of types c p (known_kind (field_kind_in (fields_in types type) word)) v (to_member word) none

struct_part : (types : List TypeLayout) (c : Cells) (p : Place) (type word : Name) (n : ℕ) (b : Start) → IsOfAt types c p (known_kind (field_kind_in (fields_in types type) word)) (part_of (value_from types c n (struct_form type) b) (to_member word))
struct_part types c p type word zero b = nothing_of types c p (known_kind (field_kind_in (fields_in types type) word))
struct_part types c p type word (suc n) b =
    subst (IsOfAt types c p (known_kind (field_kind_in (fields_in types type) word))) (sym (member_part (λ k s. value_from types c n k s) (λ k s. behind types n k s) (fields_in types type) b word))
    (struct_member types c p n (fields_in types type) b word)

members_of_struct : (types : List TypeLayout) (c : Cells) (p : Place) (type word : Name) (v : Value) → IsOf types c (struct type) v → IsOfAt types c p (known_kind (field_kind_in (fields_in types type) word)) (part_of v (to_member word))
members_of_struct types c p type word v (inl x) =
    subst (λ (u : Value). IsOfAt types c p (known_kind (field_kind_in (fields_in types type) word)) (part_of u (to_member word))) (sym x.1.1)
    (struct_part types c p type word x.0 x.1.0)
members_of_struct types c p type word v (inr none) = missing_of types c p (known_kind (field_kind_in (fields_in types type) word)) v (to_member word) none

below_or : (a n : ℕ) → (a < n) ⊎ (n ≤ a)
below_or a n = by (leb_tells n a) where
  by : ((leb n a ≡ true) × (n ≤ a)) ⊎ ((leb n a ≡ false) × (a < n)) → (a < n) ⊎ (n ≤ a)
  by (inl x) = inr x.1
  by (inr x) = inl x.1

element_at : (types : List TypeLayout) (c : Cells) (type : Name) (size : ℕ) (b : Start) (j : ℕ) → IsOf types c (header type) (a_header (get_or (element_values (fields_in types type) c size b) j no_header))
element_at types c type size b j = by (below_or j size) where
  by : (j < size) ⊎ (size ≤ j) → IsOf types c (header type) (a_header (get_or (element_values (fields_in types type) c size b) j no_header))
  by (inl lt) = inl (moved b (j * length (fields_in types type)) j 0, ap (λ (h : Header). a_header h) (element_is (fields_in types type) c size b j lt))
  by (inr le) =
      let past : get_or (element_values (fields_in types type) c size b) j no_header ≡ no_header =
      get_or_past (element_values (fields_in types type) c size b) j no_header (omega (arith, le, elements_count (fields_in types type) c size b)) in
      subst (λ (h : Header). IsOf types c (header type) (a_header h)) (sym past) (inr header_missing)

pub element_of : (types : List TypeLayout) (c : Cells) (type : Name) (size : ℕ) (v : Value) (j : ℕ) → IsOf types c (stack type size) v → IsOf types c (header type) (part_of v (to_element j))
element_of types c type size v j (inl x) = subst (λ (u : Value). IsOf types c (header type) (part_of u (to_element j))) (sym x.1) (element_at types c type size x.0 j)
element_of types c type size v j (inr none) = subst (IsOf types c (header type)) (sym (none (to_element j))) (inr no_parts)

-- one of some names, or what is unknown
among_of : (types : List TypeLayout) (c : Cells) (p : Place) (k : Kind) (v : Value) (t : Bool) → IsOfAt types c p k v → IsOfAt types c p (known_kind (cond t (Some k) None)) v
among_of types c p k v true h = h
among_of types c p k v false h = tt

-- the member of something of a kind
pub member_of : (types : List TypeLayout) (c : Cells) (p q : Place) (k : Kind) (word : Name) (x : Valued) → TypesSized types → IsOfAt types c q k x.value → IsOfAt types c p (known_kind (member_kind types k word)) (member_value k word x).value
member_of types c p q (bits width) word x sized h = tt
member_of types c p q unsized word x sized h = tt
member_of types c p q boolean word x sized h = tt
member_of types c p q error_code word x sized h = tt
member_of types c p q (header type) word x sized h = header_member types c p type word x.value sized h
member_of types c p q (stack type size) word x sized h = among_of types c p (header type) (part_of x.value (to_element (element_by word (place_in x.value)))) (has_name (codes "next" ∷ codes "last" ∷ []) word) (element_of types c type size x.value (element_by word (place_in x.value)) h)
member_of types c p q (struct type) word x sized h = members_of_struct types c p type word x.value h
member_of types c p q packet_in word x sized h = tt
member_of types c p q packet_out word x sized h = tt
member_of types c p q errors word x sized h = among_of types c p error_code (member_value errors word x).value (has_name error_names word) tt
member_of types c p q (enumeration enum) word x sized h = among_of types c p (one_of enum) (member_value (enumeration enum) word x).value (has_name (members_of enum) word) tt
member_of types c p q (one_of enum) word x sized h = tt
member_of types c p q table word x sized h = tt
member_of types c p q applied word x sized h = among_of types c p boolean (member_value applied word x).value (has_name (codes "hit" ∷ codes "miss" ∷ []) word) tt
member_of types c p q (object kind) word x sized h = tt
member_of types c p q items word x sized h = tt
member_of types c p q nothing word x sized h = tt
member_of types c p q unknown word x sized h = tt

pub indexed_of : (types : List TypeLayout) (c : Cells) (p q : Place) (k : Kind) (v : Value) (j : ℕ) → IsOfAt types c q k v → IsOfAt types c p (element_kind k) (part_of v (to_element j))
indexed_of types c p q (bits width) v j h = tt
indexed_of types c p q unsized v j h = tt
indexed_of types c p q boolean v j h = tt
indexed_of types c p q error_code v j h = tt
indexed_of types c p q (header type) v j h = tt
indexed_of types c p q (stack type size) v j h = element_of types c type size v j h
indexed_of types c p q (struct type) v j h = tt
indexed_of types c p q packet_in v j h = tt
indexed_of types c p q packet_out v j h = tt
indexed_of types c p q errors v j h = tt
indexed_of types c p q (enumeration enum) v j h = tt
indexed_of types c p q (one_of enum) v j h = tt
indexed_of types c p q table v j h = tt
indexed_of types c p q applied v j h = tt
indexed_of types c p q (object kind) v j h = tt
indexed_of types c p q items v j h = tt
indexed_of types c p q nothing v j h = tt
indexed_of types c p q unknown v j h = tt

-- slices, casts and bits ahead

pub slice_of : (types : List TypeLayout) (c : Cells) (p : Place) (k : Kind) (high low : Literal16) (n : ℕ) → IsOfAt types c p (slice_kind k high low) (a_number (suc high.value - low.value) n)
slice_of types c p (bits width) high low n = by_truth (λ (t : Bool). IsOfAt types c p (cond t unknown (bits (suc high.value - low.value))) (a_number (suc high.value - low.value) n)) tt refl (leaves_width width high low)
slice_of types c p unsized high low n = tt
slice_of types c p boolean high low n = tt
slice_of types c p error_code high low n = tt
slice_of types c p (header type) high low n = tt
slice_of types c p (stack type size) high low n = tt
slice_of types c p (struct type) high low n = tt
slice_of types c p packet_in high low n = tt
slice_of types c p packet_out high low n = tt
slice_of types c p errors high low n = tt
slice_of types c p (enumeration enum) high low n = tt
slice_of types c p (one_of enum) high low n = tt
slice_of types c p table high low n = tt
slice_of types c p applied high low n = tt
slice_of types c p (object kind) high low n = tt
slice_of types c p items high low n = tt
slice_of types c p nothing high low n = tt
slice_of types c p unknown high low n = tt

cast_width : (to : Literal16) (v : Value) → HasWidth to.value (cast_value (cast_to.Bit to) v)
cast_width to (a_number w n) = refl
cast_width to (a_truth b) = refl
cast_width to (an_error n) = tt
cast_width to (a_header h) = tt
cast_width to (a_stack place elements) = tt
cast_width to no_members = tt
cast_width to (a_member called of rest) = tt
cast_width to (a_symbol word) = tt
cast_width to (some_bits parts) = tt
cast_width to no_value = tt

pub cast_of : (types : List TypeLayout) (c : Cells) (p : Place) (to : CastType) (v : Value) → IsOfAt types c p (cast_kind to) (cast_value to v)
cast_of types c p (cast_to.Bit to) v = cast_width to v
cast_of types c p cast_to.Bool v = tt

ahead_width : (width : ℕ) (m : Moment) → HasWidth width (lookahead_value (bits width) m).value
ahead_width width m = by (has_bits m width) where
  by : (t : Bool) → (let x : Valued = cond t (valued (a_number width (num (take width (octet_bits m.unparsed)))) m) (valued (a_number width 0) (raised PacketTooShort m)) in HasWidth width x.value)
  by true = refl
  by false = refl

ahead_of : (types : List TypeLayout) (c : Cells) (p : Place) (k : Kind) (m : Moment) → IsOfAt types c p k (lookahead_value k m).value
ahead_of types c p (bits width) m = ahead_width width m
ahead_of types c p unsized m = tt
ahead_of types c p boolean m = tt
ahead_of types c p error_code m = tt
ahead_of types c p (header type) m = inr no_parts
ahead_of types c p (stack type size) m = inr no_parts
ahead_of types c p (struct type) m = inr no_parts
ahead_of types c p packet_in m = tt
ahead_of types c p packet_out m = tt
ahead_of types c p errors m = tt
ahead_of types c p (enumeration enum) m = tt
ahead_of types c p (one_of enum) m = tt
ahead_of types c p table m = tt
ahead_of types c p applied m = tt
ahead_of types c p (object kind) m = tt
ahead_of types c p items m = tt
ahead_of types c p nothing m = tt
ahead_of types c p unknown m = tt

pub lookahead_of : (types : List TypeLayout) (c : Cells) (p : Place) (of k : Kind) (m : Moment) → IsOfAt types c p (lookahead_kind of k) (lookahead_value k m).value
lookahead_of types c p (bits width) k m = tt
lookahead_of types c p unsized k m = tt
lookahead_of types c p boolean k m = tt
lookahead_of types c p error_code k m = tt
lookahead_of types c p (header type) k m = tt
lookahead_of types c p (stack type size) k m = tt
lookahead_of types c p (struct type) k m = tt
lookahead_of types c p packet_in k m = ahead_of types c p k m
lookahead_of types c p packet_out k m = tt
lookahead_of types c p errors k m = tt
lookahead_of types c p (enumeration enum) k m = tt
lookahead_of types c p (one_of enum) k m = tt
lookahead_of types c p table k m = tt
lookahead_of types c p applied k m = tt
lookahead_of types c p (object kind) k m = tt
lookahead_of types c p items k m = tt
lookahead_of types c p nothing k m = tt
lookahead_of types c p unknown k m = tt

-- operators

turned_width : (operator : UnaryOperator) (width : ℕ) (v : Value) → HasWidth width v → HasWidth width (unary_value operator v)
turned_width Not width (a_number w n) h = tt
turned_width Not width (a_truth b) h = tt
turned_width Not width (an_error n) h = tt
turned_width Not width (a_header g) h = tt
turned_width Not width (a_stack place elements) h = tt
turned_width Not width no_members h = tt
turned_width Not width (a_member called of rest) h = tt
turned_width Not width (a_symbol word) h = tt
turned_width Not width (some_bits parts) h = tt
turned_width Not width no_value h = tt
turned_width Complement width (a_number w n) h = h
turned_width Complement width (a_truth b) h = tt
turned_width Complement width (an_error n) h = tt
turned_width Complement width (a_header g) h = tt
turned_width Complement width (a_stack place elements) h = tt
turned_width Complement width no_members h = tt
turned_width Complement width (a_member called of rest) h = tt
turned_width Complement width (a_symbol word) h = tt
turned_width Complement width (some_bits parts) h = tt
turned_width Complement width no_value h = tt
turned_width Negate width (a_number w n) h = h
turned_width Negate width (a_truth b) h = tt
turned_width Negate width (an_error n) h = tt
turned_width Negate width (a_header g) h = tt
turned_width Negate width (a_stack place elements) h = tt
turned_width Negate width no_members h = tt
turned_width Negate width (a_member called of rest) h = tt
turned_width Negate width (a_symbol word) h = tt
turned_width Negate width (some_bits parts) h = tt
turned_width Negate width no_value h = tt

pub unary_of : (types : List TypeLayout) (c : Cells) (p : Place) (operator : UnaryOperator) (k : Kind) (v : Value) → IsOfAt types c (unary_place p operator k) k v → IsOfAt types c p (unary_kind operator k) (unary_value operator v)
unary_of types c p Not k v h = tt
unary_of types c p Complement (bits width) v h = turned_width Complement width v h
unary_of types c p Complement unsized v h = turned_width Complement (unwrap_or (width_of_place p) 0) v h
unary_of types c p Complement boolean v h = tt
unary_of types c p Complement error_code v h = tt
unary_of types c p Complement (header type) v h = tt
unary_of types c p Complement (stack type size) v h = tt
unary_of types c p Complement (struct type) v h = tt
unary_of types c p Complement packet_in v h = tt
unary_of types c p Complement packet_out v h = tt
unary_of types c p Complement errors v h = tt
unary_of types c p Complement (enumeration enum) v h = tt
unary_of types c p Complement (one_of enum) v h = tt
unary_of types c p Complement table v h = tt
unary_of types c p Complement applied v h = tt
unary_of types c p Complement (object kind) v h = tt
unary_of types c p Complement items v h = tt
unary_of types c p Complement nothing v h = tt
unary_of types c p Complement unknown v h = tt
unary_of types c p Negate (bits width) v h = turned_width Negate width v h
unary_of types c p Negate unsized v h = turned_width Negate (unwrap_or (width_of_place p) 0) v h
unary_of types c p Negate boolean v h = tt
unary_of types c p Negate error_code v h = tt
unary_of types c p Negate (header type) v h = tt
unary_of types c p Negate (stack type size) v h = tt
unary_of types c p Negate (struct type) v h = tt
unary_of types c p Negate packet_in v h = tt
unary_of types c p Negate packet_out v h = tt
unary_of types c p Negate errors v h = tt
unary_of types c p Negate (enumeration enum) v h = tt
unary_of types c p Negate (one_of enum) v h = tt
unary_of types c p Negate table v h = tt
unary_of types c p Negate applied v h = tt
unary_of types c p Negate (object kind) v h = tt
unary_of types c p Negate items v h = tt
unary_of types c p Negate nothing v h = tt
unary_of types c p Negate unknown v h = tt

-- what two values come to, by what two numbers do
pair_width : (operator : BinaryOperator) (width : ℕ) (X Y : Value → Type 0) (x y : Value) → ((v a w b : ℕ) → X (a_number v a) → Y (a_number w b) → HasWidth width (of_numbers operator v a w b)) → ((a b : Bool) → HasWidth width (of_truths operator a b)) → ((a b : ℕ) → HasWidth width (of_errors operator a b)) → X x → Y y → HasWidth width (binary_value operator x y)
pair_width operator width X Y (a_number v a) (a_number w b) numbers truths errors_too h k = numbers v a w b h k
pair_width operator width X Y (a_number v a) (a_truth b) numbers truths errors_too h k = tt
pair_width operator width X Y (a_number v a) (an_error b) numbers truths errors_too h k = tt
pair_width operator width X Y (a_number v a) (a_header of) numbers truths errors_too h k = tt
pair_width operator width X Y (a_number v a) (a_stack place elements) numbers truths errors_too h k = tt
pair_width operator width X Y (a_number v a) no_members numbers truths errors_too h k = tt
pair_width operator width X Y (a_number v a) (a_member called of rest) numbers truths errors_too h k = tt
pair_width operator width X Y (a_number v a) (a_symbol word) numbers truths errors_too h k = tt
pair_width operator width X Y (a_number v a) (some_bits parts) numbers truths errors_too h k = tt
pair_width operator width X Y (a_number v a) no_value numbers truths errors_too h k = tt
pair_width operator width X Y (a_truth a) (a_number w b) numbers truths errors_too h k = tt
pair_width operator width X Y (a_truth a) (a_truth b) numbers truths errors_too h k = truths a b
pair_width operator width X Y (a_truth a) (an_error b) numbers truths errors_too h k = tt
pair_width operator width X Y (a_truth a) (a_header of) numbers truths errors_too h k = tt
pair_width operator width X Y (a_truth a) (a_stack place elements) numbers truths errors_too h k = tt
pair_width operator width X Y (a_truth a) no_members numbers truths errors_too h k = tt
pair_width operator width X Y (a_truth a) (a_member called of rest) numbers truths errors_too h k = tt
pair_width operator width X Y (a_truth a) (a_symbol word) numbers truths errors_too h k = tt
pair_width operator width X Y (a_truth a) (some_bits parts) numbers truths errors_too h k = tt
pair_width operator width X Y (a_truth a) no_value numbers truths errors_too h k = tt
pair_width operator width X Y (an_error a) (a_number w b) numbers truths errors_too h k = tt
pair_width operator width X Y (an_error a) (a_truth b) numbers truths errors_too h k = tt
pair_width operator width X Y (an_error a) (an_error b) numbers truths errors_too h k = errors_too a b
pair_width operator width X Y (an_error a) (a_header of) numbers truths errors_too h k = tt
pair_width operator width X Y (an_error a) (a_stack place elements) numbers truths errors_too h k = tt
pair_width operator width X Y (an_error a) no_members numbers truths errors_too h k = tt
pair_width operator width X Y (an_error a) (a_member called of rest) numbers truths errors_too h k = tt
pair_width operator width X Y (an_error a) (a_symbol word) numbers truths errors_too h k = tt
pair_width operator width X Y (an_error a) (some_bits parts) numbers truths errors_too h k = tt
pair_width operator width X Y (an_error a) no_value numbers truths errors_too h k = tt
pair_width operator width X Y (a_header of) y numbers truths errors_too h k = tt
pair_width operator width X Y (a_stack place elements) y numbers truths errors_too h k = tt
pair_width operator width X Y no_members y numbers truths errors_too h k = tt
pair_width operator width X Y (a_member called of rest) y numbers truths errors_too h k = tt
pair_width operator width X Y (a_symbol word) y numbers truths errors_too h k = tt
pair_width operator width X Y (some_bits parts) y numbers truths errors_too h k = tt
pair_width operator width X Y no_value y numbers truths errors_too h k = tt

-- anything
abbrev Any : Value → Type 0
Any v = Unit {0}

abbrev IsLeft : BinaryOperator → Type 0
IsLeft Multiply = Unit {0}
IsLeft Add = Unit {0}
IsLeft Subtract = Unit {0}
IsLeft SaturatingAdd = Unit {0}
IsLeft SaturatingSubtract = Unit {0}
IsLeft BitAnd = Unit {0}
IsLeft BitXor = Unit {0}
IsLeft BitOr = Unit {0}
IsLeft ShiftLeft = Unit {0}
IsLeft ShiftRight = Unit {0}
IsLeft operator = ⊥

-- the width of the left operand is that of the whole
keeps_width : (operator : BinaryOperator) (width : ℕ) (x y : Value) → IsLeft operator → HasWidth width x → HasWidth width (binary_value operator x y)
keeps_width Multiply width x y is h = pair_width Multiply width (HasWidth width) Any x y (λ v a w b e f. e) (λ a b. tt) (λ a b. tt) h tt
keeps_width Add width x y is h = pair_width Add width (HasWidth width) Any x y (λ v a w b e f. e) (λ a b. tt) (λ a b. tt) h tt
keeps_width Subtract width x y is h = pair_width Subtract width (HasWidth width) Any x y (λ v a w b e f. e) (λ a b. tt) (λ a b. tt) h tt
keeps_width SaturatingAdd width x y is h = pair_width SaturatingAdd width (HasWidth width) Any x y (λ v a w b e f. e) (λ a b. tt) (λ a b. tt) h tt
keeps_width SaturatingSubtract width x y is h = pair_width SaturatingSubtract width (HasWidth width) Any x y (λ v a w b e f. e) (λ a b. tt) (λ a b. tt) h tt
keeps_width Concatenate width x y is h = absurd is
keeps_width ShiftLeft width x y is h = pair_width ShiftLeft width (HasWidth width) Any x y (λ v a w b e f. e) (λ a b. tt) (λ a b. tt) h tt
keeps_width ShiftRight width x y is h = pair_width ShiftRight width (HasWidth width) Any x y (λ v a w b e f. e) (λ a b. tt) (λ a b. tt) h tt
keeps_width BitAnd width x y is h = pair_width BitAnd width (HasWidth width) Any x y (λ v a w b e f. e) (λ a b. tt) (λ a b. tt) h tt
keeps_width BitXor width x y is h = pair_width BitXor width (HasWidth width) Any x y (λ v a w b e f. e) (λ a b. tt) (λ a b. tt) h tt
keeps_width BitOr width x y is h = pair_width BitOr width (HasWidth width) Any x y (λ v a w b e f. e) (λ a b. tt) (λ a b. tt) h tt
keeps_width Less width x y is h = absurd is
keeps_width LessEqual width x y is h = absurd is
keeps_width Greater width x y is h = absurd is
keeps_width GreaterEqual width x y is h = absurd is
keeps_width Equal width x y is h = absurd is
keeps_width NotEqual width x y is h = absurd is
keeps_width And width x y is h = absurd is
keeps_width Or width x y is h = absurd is

joined_width : (v w : ℕ) (x y : Value) → HasWidth v x → HasWidth w y → HasWidth (v + w) (binary_value Concatenate x y)
joined_width v w x y h k = pair_width Concatenate (v + w) (HasWidth v) (HasWidth w) x y (λ a m b n e f. omega (arith, e, f)) (λ a b. tt) (λ a b. tt) h k

-- operators of operands of one width
joint_of : (types : List TypeLayout) (c : Cells) (p : Place) (operator : BinaryOperator) (a b : Kind) (x y : Value) → IsLeft operator → Join a b → IsOfAt types c (joint_place p a b) a x → IsOfAt types c p (joint_bits a b) (binary_value operator x y)
joint_of types c p operator _ _ x y left (one_width w) h =
    by_truth (λ (t : Bool). IsOfAt types c p (cond t (bits w) unknown) (binary_value operator x y)) (keeps_width operator w x y left h) tt (nat_eq w w)
joint_of types c p operator _ _ x y left (left_width w) h = keeps_width operator w x y left h
joint_of types c p operator _ _ x y left (right_width w) h = keeps_width operator w x y left h
joint_of types c p operator _ _ x y left no_width h = keeps_width operator (unwrap_or (width_of_place p) 0) x y left h

shifted_of : (types : List TypeLayout) (c : Cells) (p : Place) (operator : BinaryOperator) (a : Kind) (x y : Value) → IsLeft operator → IsOfAt types c (joint_place p a a) a x → IsOfAt types c p (number_kind a) (binary_value operator x y)
shifted_of types c p operator (bits width) x y left h = keeps_width operator width x y left h
shifted_of types c p operator unsized x y left h = keeps_width operator (unwrap_or (width_of_place p) 0) x y left h
shifted_of types c p operator boolean x y left h = tt
shifted_of types c p operator error_code x y left h = tt
shifted_of types c p operator (header type) x y left h = tt
shifted_of types c p operator (stack type size) x y left h = tt
shifted_of types c p operator (struct type) x y left h = tt
shifted_of types c p operator packet_in x y left h = tt
shifted_of types c p operator packet_out x y left h = tt
shifted_of types c p operator errors x y left h = tt
shifted_of types c p operator (enumeration enum) x y left h = tt
shifted_of types c p operator (one_of enum) x y left h = tt
shifted_of types c p operator table x y left h = tt
shifted_of types c p operator applied x y left h = tt
shifted_of types c p operator (object kind) x y left h = tt
shifted_of types c p operator items x y left h = tt
shifted_of types c p operator nothing x y left h = tt
shifted_of types c p operator unknown x y left h = tt

concatenated_of : (types : List TypeLayout) (c : Cells) (p : Place) (a b : Kind) (x y : Value) → Concatenated a b → IsOfAt types c any_bits a x → IsOfAt types c any_bits b y → IsOfAt types c p (concatenated a b) (binary_value Concatenate x y)
concatenated_of types c p _ _ x y (both_widths v w le) h k =
    by_truth (λ (t : Bool). IsOfAt types c p (cond t unknown (bits (v + w))) (binary_value Concatenate x y)) tt (joined_width v w x y h k) (nat_lt 128 (v + w))

pub binary_of : (types : List TypeLayout) (c : Cells) (p : Place) (operator : BinaryOperator) (a b : Kind) (x y : Value) → KindsFit operator a b → IsOfAt types c (left_place p operator a b) a x → IsOfAt types c (right_place p operator a b) b y → IsOfAt types c p (binary_kind operator a b) (binary_value operator x y)
binary_of types c p Multiply a b x y fit h k = joint_of types c p Multiply a b x y tt fit h
binary_of types c p Add a b x y fit h k = joint_of types c p Add a b x y tt fit h
binary_of types c p Subtract a b x y fit h k = joint_of types c p Subtract a b x y tt fit h
binary_of types c p SaturatingAdd a b x y fit h k = joint_of types c p SaturatingAdd a b x y tt fit h
binary_of types c p SaturatingSubtract a b x y fit h k = joint_of types c p SaturatingSubtract a b x y tt fit h
binary_of types c p Concatenate a b x y fit h k = concatenated_of types c p a b x y fit h k
binary_of types c p ShiftLeft a b x y fit h k = shifted_of types c p ShiftLeft a x y tt h
binary_of types c p ShiftRight a b x y fit h k = shifted_of types c p ShiftRight a x y tt h
binary_of types c p BitAnd a b x y fit h k = joint_of types c p BitAnd a b x y tt fit h
binary_of types c p BitXor a b x y fit h k = joint_of types c p BitXor a b x y tt fit h
binary_of types c p BitOr a b x y fit h k = joint_of types c p BitOr a b x y tt fit h
binary_of types c p Less a b x y fit h k = tt
binary_of types c p LessEqual a b x y fit h k = tt
binary_of types c p Greater a b x y fit h k = tt
binary_of types c p GreaterEqual a b x y fit h k = tt
binary_of types c p Equal a b x y fit h k = tt
binary_of types c p NotEqual a b x y fit h k = tt
binary_of types c p And a b x y fit h k = tt
binary_of types c p Or a b x y fit h k = tt

-- the widths of two operands

joint_widths : (types : List TypeLayout) (c : Cells) (p : Place) (a b : Kind) (v m w n : ℕ) → Join a b → IsOfAt types c (joint_place p a b) a (a_number v m) → IsOfAt types c (joint_place p a b) b (a_number w n) → v ≡ w
joint_widths types c p _ _ v m w n (one_width x) h k = h ∙ sym k
joint_widths types c p _ _ v m w n (left_width x) h k = h ∙ sym k
joint_widths types c p _ _ v m w n (right_width x) h k = h ∙ sym k
joint_widths types c p _ _ v m w n no_width h k = h ∙ sym k

concatenated_widths : (types : List TypeLayout) (c : Cells) (a b : Kind) (v m w n : ℕ) → Concatenated a b → IsOfAt types c any_bits a (a_number v m) → IsOfAt types c any_bits b (a_number w n) → v + w ≤ 128
concatenated_widths types c _ _ v m w n (both_widths x y le) h k = omega (arith, le, h, k)

numbers_fit : (types : List TypeLayout) (c : Cells) (p : Place) (operator : BinaryOperator) (a b : Kind) (v m w n : ℕ) → KindsFit operator a b → IsOfAt types c (left_place p operator a b) a (a_number v m) → IsOfAt types c (right_place p operator a b) b (a_number w n) → WidthsFit operator v w
numbers_fit types c p Multiply a b v m w n fit h k = joint_widths types c p a b v m w n fit h k
numbers_fit types c p Add a b v m w n fit h k = joint_widths types c p a b v m w n fit h k
numbers_fit types c p Subtract a b v m w n fit h k = joint_widths types c p a b v m w n fit h k
numbers_fit types c p SaturatingAdd a b v m w n fit h k = joint_widths types c p a b v m w n fit h k
numbers_fit types c p SaturatingSubtract a b v m w n fit h k = joint_widths types c p a b v m w n fit h k
numbers_fit types c p Concatenate a b v m w n fit h k = concatenated_widths types c a b v m w n fit h k
numbers_fit types c p ShiftLeft a b v m w n fit h k = tt
numbers_fit types c p ShiftRight a b v m w n fit h k = tt
numbers_fit types c p BitAnd a b v m w n fit h k = joint_widths types c p a b v m w n fit h k
numbers_fit types c p BitXor a b v m w n fit h k = joint_widths types c p a b v m w n fit h k
numbers_fit types c p BitOr a b v m w n fit h k = joint_widths types c p a b v m w n fit h k
numbers_fit types c p Less a b v m w n fit h k = tt
numbers_fit types c p LessEqual a b v m w n fit h k = tt
numbers_fit types c p Greater a b v m w n fit h k = tt
numbers_fit types c p GreaterEqual a b v m w n fit h k = tt
numbers_fit types c p Equal a b v m w n fit h k = tt
numbers_fit types c p NotEqual a b v m w n fit h k = tt
numbers_fit types c p And a b v m w n fit h k = tt
numbers_fit types c p Or a b v m w n fit h k = tt

pub pair_fits : (types : List TypeLayout) (c : Cells) (p : Place) (operator : BinaryOperator) (a b : Kind) (x y : Value) → KindsFit operator a b → IsOfAt types c (left_place p operator a b) a x → IsOfAt types c (right_place p operator a b) b y → PairFits operator x y
pair_fits types c p operator a b (a_number v m) (a_number w n) fit h k = numbers_fit types c p operator a b v m w n fit h k
pair_fits types c p operator a b (a_number v m) (a_truth t) fit h k = tt
pair_fits types c p operator a b (a_number v m) (an_error t) fit h k = tt
pair_fits types c p operator a b (a_number v m) (a_header of) fit h k = tt
pair_fits types c p operator a b (a_number v m) (a_stack place elements) fit h k = tt
pair_fits types c p operator a b (a_number v m) no_members fit h k = tt
pair_fits types c p operator a b (a_number v m) (a_member called of rest) fit h k = tt
pair_fits types c p operator a b (a_number v m) (a_symbol word) fit h k = tt
pair_fits types c p operator a b (a_number v m) (some_bits parts) fit h k = tt
pair_fits types c p operator a b (a_number v m) no_value fit h k = tt
pair_fits types c p operator a b (a_truth t) y fit h k = tt
pair_fits types c p operator a b (an_error t) y fit h k = tt
pair_fits types c p operator a b (a_header of) y fit h k = tt
pair_fits types c p operator a b (a_stack place elements) y fit h k = tt
pair_fits types c p operator a b no_members y fit h k = tt
pair_fits types c p operator a b (a_member called of rest) y fit h k = tt
pair_fits types c p operator a b (a_symbol word) y fit h k = tt
pair_fits types c p operator a b (some_bits parts) y fit h k = tt
pair_fits types c p operator a b no_value y fit h k = tt

left_true : (a b : Bool) → (a && b) ≡ true → a ≡ true
left_true true b e = refl
left_true false b e = absurd (cc e)

right_true : (a b : Bool) → (a && b) ≡ true → b ≡ true
right_true true b e = e
right_true false b e = absurd (cc e)

-- `? :`: either value is of the kind of the whole

pub first_of : (types : List TypeLayout) (c : Cells) (p : Place) (a b : Kind) (v : Value) → IsOfAt types c (chosen_place p a b) a v → IsOfAt types c p (same_choice a b) v
first_of types c p (bits x) (bits w) v h = by_truth (λ (t : Bool). IsOfAt types c p (cond t (bits x) (cond t (bits x) unknown)) v) h tt (nat_eq x w)
first_of types c p (bits x) unsized v h = h
first_of types c p (bits x) boolean v h = tt
first_of types c p (bits x) error_code v h = tt
first_of types c p (bits x) (header type) v h = tt
first_of types c p (bits x) (stack type size) v h = tt
first_of types c p (bits x) (struct type) v h = tt
first_of types c p (bits x) packet_in v h = tt
first_of types c p (bits x) packet_out v h = tt
first_of types c p (bits x) errors v h = tt
first_of types c p (bits x) (enumeration enum) v h = tt
first_of types c p (bits x) (one_of enum) v h = tt
first_of types c p (bits x) table v h = tt
first_of types c p (bits x) applied v h = tt
first_of types c p (bits x) (object kind) v h = tt
first_of types c p (bits x) items v h = tt
first_of types c p (bits x) nothing v h = tt
first_of types c p (bits x) unknown v h = tt
first_of types c p unsized (bits width) v h = h
first_of types c p unsized unsized v h = h
first_of types c p unsized boolean v h = tt
first_of types c p unsized error_code v h = tt
first_of types c p unsized (header type) v h = tt
first_of types c p unsized (stack type size) v h = tt
first_of types c p unsized (struct type) v h = tt
first_of types c p unsized packet_in v h = tt
first_of types c p unsized packet_out v h = tt
first_of types c p unsized errors v h = tt
first_of types c p unsized (enumeration enum) v h = tt
first_of types c p unsized (one_of enum) v h = tt
first_of types c p unsized table v h = tt
first_of types c p unsized applied v h = tt
first_of types c p unsized (object kind) v h = tt
first_of types c p unsized items v h = tt
first_of types c p unsized nothing v h = tt
first_of types c p unsized unknown v h = tt
first_of types c p boolean b v h = by_truth (λ (t : Bool). IsOfAt types c p (cond t boolean unknown) v) h tt (is_same_kind boolean b)
first_of types c p error_code b v h = by_truth (λ (t : Bool). IsOfAt types c p (cond t error_code unknown) v) h tt (is_same_kind error_code b)
first_of types c p (header type) b v h = by_truth (λ (t : Bool). IsOfAt types c p (cond t (header type) unknown) v) h tt (is_same_kind (header type) b)
first_of types c p (stack type size) b v h = by_truth (λ (t : Bool). IsOfAt types c p (cond t (stack type size) unknown) v) h tt (is_same_kind (stack type size) b)
first_of types c p (struct type) b v h = by_truth (λ (t : Bool). IsOfAt types c p (cond t (struct type) unknown) v) h tt (is_same_kind (struct type) b)
first_of types c p packet_in b v h = tt
first_of types c p packet_out b v h = tt
first_of types c p errors b v h = tt
first_of types c p (enumeration enum) b v h = tt
first_of types c p (one_of enum) b v h = by_truth (λ (t : Bool). IsOfAt types c p (cond t unknown unknown) v) tt tt (is_same_kind (one_of enum) b)
first_of types c p table b v h = tt
first_of types c p applied b v h = tt
first_of types c p (object kind) b v h = tt
first_of types c p items b v h = tt
first_of types c p nothing b v h = tt
first_of types c p unknown b v h = tt

both_same : (types : List TypeLayout) (c : Cells) (type : Name) (size : ℕ) (other : Name) (many : ℕ) (v : Value) → (bytes_eq type other && nat_eq size many) ≡ true → IsOf types c (stack other many) v → IsOf types c (stack type size) v
both_same types c type size other many v same h =
    subst (λ (n : Name). IsOf types c (stack n size) v) (sym ((bytes_eq-Decides type other).0 (left_true (bytes_eq type other) (nat_eq size many) same)))
    (subst (λ (n : ℕ). IsOf types c (stack other n) v) (sym (eqb-true size many (right_true (bytes_eq type other) (nat_eq size many) same))) h)

header_second : (types : List TypeLayout) (c : Cells) (p q : Place) (type : Name) (b : Kind) (v : Value) (t : Bool) → is_same_kind (header type) b ≡ t → IsOfAt types c q b v → IsOfAt types c p (cond t (header type) unknown) v
header_second types c p q type (bits width) v true same h = absurd (cc same)
header_second types c p q type unsized v true same h = absurd (cc same)
header_second types c p q type boolean v true same h = absurd (cc same)
header_second types c p q type error_code v true same h = absurd (cc same)
header_second types c p q type (header other) v true same h = subst (λ (n : Name). IsOf types c (header n) v) (sym ((bytes_eq-Decides type other).0 same)) h
header_second types c p q type (stack other many) v true same h = absurd (cc same)
header_second types c p q type (struct other) v true same h = absurd (cc same)
header_second types c p q type packet_in v true same h = absurd (cc same)
header_second types c p q type packet_out v true same h = absurd (cc same)
header_second types c p q type errors v true same h = absurd (cc same)
header_second types c p q type (enumeration enum) v true same h = absurd (cc same)
header_second types c p q type (one_of enum) v true same h = absurd (cc same)
header_second types c p q type table v true same h = absurd (cc same)
header_second types c p q type applied v true same h = absurd (cc same)
header_second types c p q type (object kind) v true same h = absurd (cc same)
header_second types c p q type items v true same h = absurd (cc same)
header_second types c p q type nothing v true same h = absurd (cc same)
header_second types c p q type unknown v true same h = absurd (cc same)
header_second types c p q type b v false same h = tt

stack_second : (types : List TypeLayout) (c : Cells) (p q : Place) (type : Name) (size : ℕ) (b : Kind) (v : Value) (t : Bool) → is_same_kind (stack type size) b ≡ t → IsOfAt types c q b v → IsOfAt types c p (cond t (stack type size) unknown) v
stack_second types c p q type size (bits width) v true same h = absurd (cc same)
stack_second types c p q type size unsized v true same h = absurd (cc same)
stack_second types c p q type size boolean v true same h = absurd (cc same)
stack_second types c p q type size error_code v true same h = absurd (cc same)
stack_second types c p q type size (header other) v true same h = absurd (cc same)
stack_second types c p q type size (stack other many) v true same h = both_same types c type size other many v same h
stack_second types c p q type size (struct other) v true same h = absurd (cc same)
stack_second types c p q type size packet_in v true same h = absurd (cc same)
stack_second types c p q type size packet_out v true same h = absurd (cc same)
stack_second types c p q type size errors v true same h = absurd (cc same)
stack_second types c p q type size (enumeration enum) v true same h = absurd (cc same)
stack_second types c p q type size (one_of enum) v true same h = absurd (cc same)
stack_second types c p q type size table v true same h = absurd (cc same)
stack_second types c p q type size applied v true same h = absurd (cc same)
stack_second types c p q type size (object kind) v true same h = absurd (cc same)
stack_second types c p q type size items v true same h = absurd (cc same)
stack_second types c p q type size nothing v true same h = absurd (cc same)
stack_second types c p q type size unknown v true same h = absurd (cc same)
stack_second types c p q type size b v false same h = tt

struct_second : (types : List TypeLayout) (c : Cells) (p q : Place) (type : Name) (b : Kind) (v : Value) (t : Bool) → is_same_kind (struct type) b ≡ t → IsOfAt types c q b v → IsOfAt types c p (cond t (struct type) unknown) v
struct_second types c p q type (bits width) v true same h = absurd (cc same)
struct_second types c p q type unsized v true same h = absurd (cc same)
struct_second types c p q type boolean v true same h = absurd (cc same)
struct_second types c p q type error_code v true same h = absurd (cc same)
struct_second types c p q type (header other) v true same h = absurd (cc same)
struct_second types c p q type (stack other many) v true same h = absurd (cc same)
struct_second types c p q type (struct other) v true same h = subst (λ (n : Name). IsOf types c (struct n) v) (sym ((bytes_eq-Decides type other).0 same)) h
struct_second types c p q type packet_in v true same h = absurd (cc same)
struct_second types c p q type packet_out v true same h = absurd (cc same)
struct_second types c p q type errors v true same h = absurd (cc same)
struct_second types c p q type (enumeration enum) v true same h = absurd (cc same)
struct_second types c p q type (one_of enum) v true same h = absurd (cc same)
struct_second types c p q type table v true same h = absurd (cc same)
struct_second types c p q type applied v true same h = absurd (cc same)
struct_second types c p q type (object kind) v true same h = absurd (cc same)
struct_second types c p q type items v true same h = absurd (cc same)
struct_second types c p q type nothing v true same h = absurd (cc same)
struct_second types c p q type unknown v true same h = absurd (cc same)
struct_second types c p q type b v false same h = tt

bits_second : (types : List TypeLayout) (c : Cells) (p : Place) (x w : ℕ) (v : Value) (t : Bool) → nat_eq x w ≡ t → HasWidth w v → IsOfAt types c p (cond t (bits x) (cond t (bits x) unknown)) v
bits_second types c p x w v true same h = subst (λ (n : ℕ). HasWidth n v) (sym (eqb-true x w same)) h
bits_second types c p x w v false same h = tt

pub second_of : (types : List TypeLayout) (c : Cells) (p : Place) (a b : Kind) (v : Value) → IsOfAt types c (chosen_place p a b) b v → IsOfAt types c p (same_choice a b) v
second_of types c p (bits x) (bits w) v h = bits_second types c p x w v (nat_eq x w) refl h
second_of types c p (bits x) unsized v h = h
second_of types c p (bits x) boolean v h = tt
second_of types c p (bits x) error_code v h = tt
second_of types c p (bits x) (header type) v h = tt
second_of types c p (bits x) (stack type size) v h = tt
second_of types c p (bits x) (struct type) v h = tt
second_of types c p (bits x) packet_in v h = tt
second_of types c p (bits x) packet_out v h = tt
second_of types c p (bits x) errors v h = tt
second_of types c p (bits x) (enumeration enum) v h = tt
second_of types c p (bits x) (one_of enum) v h = tt
second_of types c p (bits x) table v h = tt
second_of types c p (bits x) applied v h = tt
second_of types c p (bits x) (object kind) v h = tt
second_of types c p (bits x) items v h = tt
second_of types c p (bits x) nothing v h = tt
second_of types c p (bits x) unknown v h = tt
second_of types c p unsized (bits width) v h = h
second_of types c p unsized unsized v h = h
second_of types c p unsized boolean v h = tt
second_of types c p unsized error_code v h = tt
second_of types c p unsized (header type) v h = tt
second_of types c p unsized (stack type size) v h = tt
second_of types c p unsized (struct type) v h = tt
second_of types c p unsized packet_in v h = tt
second_of types c p unsized packet_out v h = tt
second_of types c p unsized errors v h = tt
second_of types c p unsized (enumeration enum) v h = tt
second_of types c p unsized (one_of enum) v h = tt
second_of types c p unsized table v h = tt
second_of types c p unsized applied v h = tt
second_of types c p unsized (object kind) v h = tt
second_of types c p unsized items v h = tt
second_of types c p unsized nothing v h = tt
second_of types c p unsized unknown v h = tt
second_of types c p boolean b v h = by_truth (λ (t : Bool). IsOfAt types c p (cond t boolean unknown) v) tt tt (is_same_kind boolean b)
second_of types c p error_code b v h = by_truth (λ (t : Bool). IsOfAt types c p (cond t error_code unknown) v) tt tt (is_same_kind error_code b)
second_of types c p (header type) b v h = header_second types c p (value (header type)) type b v (is_same_kind (header type) b) refl h
second_of types c p (stack type size) b v h = stack_second types c p (value (stack type size)) type size b v (is_same_kind (stack type size) b) refl h
second_of types c p (struct type) b v h = struct_second types c p (value (struct type)) type b v (is_same_kind (struct type) b) refl h
second_of types c p packet_in b v h = tt
second_of types c p packet_out b v h = tt
second_of types c p errors b v h = tt
second_of types c p (enumeration enum) b v h = tt
second_of types c p (one_of enum) b v h = by_truth (λ (t : Bool). IsOfAt types c p (cond t unknown unknown) v) tt tt (is_same_kind (one_of enum) b)
second_of types c p table b v h = tt
second_of types c p applied b v h = tt
second_of types c p (object kind) b v h = tt
second_of types c p items b v h = tt
second_of types c p nothing b v h = tt
second_of types c p unknown b v h = tt
