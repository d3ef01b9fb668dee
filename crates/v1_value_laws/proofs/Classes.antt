-- Where a ready expression gives a value, it is of the class of its kind.
use Rattle.std.proofs.Common.{◌≡◌, ◌⊎◌, inl, inr, ℕ, suc, ◌+◌, ◌*◌, ◌-◌, ◌%◌, ◌^◌, ◌<◌, nat_eq, nat_lt, ◌==◌, ◌||◌, ◌&&◌, not, Bool, true, false, cond, Option, Some, None, IfSome, unwrap_or, take, List, [], ◌∷◌, ◌++◌, length, get_or, refl, sym, ap, ◌∙◌, subst, arith, pow_pos}
use Rattle.std.specs.Prelude.{option_map, codes}
use Rattle.std.specs.List.{list_any, position_or_len}
use Rattle.std.specs.Str.{bytes_eq}
use Rattle.std.proofs.lemmas.Bool.{lt-ltb, eqb-true}
use Rattle.std.proofs.lemmas.Slice.Eq.{bytes_eq-Decides}
use Rattle.p4x_bits.specs.BitLists.{bit, num, octet_bits}
use Rattle.p416_syntax.specs.declared.lexeme.Literal16.{Literal16}
use Rattle.p416_syntax.specs.declared.node.CastType.{CastType}
use Rattle.p416_syntax.specs.declared.node.CastType.TheVariants as cast_to
use Rattle.p416_syntax.specs.declared.node.UnaryOperator.{UnaryOperator}
use Rattle.p416_syntax.specs.declared.node.UnaryOperator.TheVariants.{Not, Complement, Negate}
use Rattle.p416_syntax.specs.declared.node.BinaryOperator.{BinaryOperator}
use Rattle.p416_syntax.specs.declared.node.BinaryOperator.TheVariants.{Multiply, Add, Subtract, SaturatingAdd, SaturatingSubtract, Concatenate, ShiftLeft, ShiftRight, BitAnd, BitXor, BitOr, Less, LessEqual, Greater, GreaterEqual, Equal, NotEqual, And, Or}
use Rattle.p416_syntax.specs.declared.program.Syntax16.{Syntax16}
use Rattle.p416_syntax.specs.Tree.{Exp16, literal, truth, error, name, member, index, slice, call, lookahead, cast, unary, binary, choice, parenthesized, no_arguments, argument, listed}
use Rattle.p416_syntax.specs.Names.{Name, has_name}
use Rattle.p416_syntax.specs.Kinds.{Kind, bits, unsized, boolean, error_code, header, stack, struct, packet_in, packet_out, errors, enumeration, one_of, table, applied, object, items, nothing, unknown, is_same_kind}
use Rattle.p416_syntax.specs.Scopes.{Layout as TypeLayout, fields_in, Scope, sort_of, kind_of_type}
use Rattle.p416_syntax.specs.BuiltIn.{error_names}
use Rattle.p416_syntax.specs.Calls.{Place, value, any_bits, bits_or_boolean, method, owner, a_stack, callee, unasked, method_signature}
use Rattle.p416_syntax.specs.Declarations.{layouts_of}
use Rattle.p416_syntax.specs.Breaks.{BreaksNone, program_rules}
use Rattle.p416_syntax.specs.Expressions.{field_kind_in, sort_kind, known_kind, member_kind, element_kind, slice_kind, lookahead_kind, cast_kind, unary_kind, binary_kind, number_kind, joint_bits, concatenated, same_choice, is_chosen, call_kind, leaves_width, kind_of, signature_of}
use Rattle.p416_syntax.specs.Uses.{Use, an_expression, a_number as a_judged_number, one, many, owner_place, wanted_by, cast_numbers, uses_at, unary_place, left_place, right_place, cast_place, chosen_place}
use Rattle.p416_syntax.specs.Types.{takes, is_mistyped}
use Rattle.p416_syntax.specs.Sizes.{leaves_size}
use Rattle.v1_core.specs.declared.parser_error.ParserError.TheVariants.{PacketTooShort, StackOutOfBounds}
use Rattle.v1_core.specs.Values.{Value, Step, a_number, a_truth, an_error, is_true, number_in, to_member, to_element, sliced}
use Rattle.v1_core.specs.Numbers.{unary_value, binary_value}
use Rattle.v1_core.specs.Frames.{Moment}
use Rattle.v1_core.specs.Surroundings.{World}
use Rattle.v1_core.specs.Numbered.{InScope, frame_in}
use Rattle.v1_core.specs.Expressions.{Valued, literal_number, number_of_error, value_of}
use Rattle.v1_core.specs.Cells.{Cells, is_live, slot_value, header_valid, stack_place, stack_size, AreWhole}
use Rattle.v1_core.specs.Seats.{Content, some_bits, Form, slot_form, header_form, stack_form, struct_form, no_form, form_of, Seat, stepped_seat}
use Rattle.v1_core.specs.Seats as seats_of
use Rattle.v1_core.specs.PackedValues.{value_from}
use Rattle.v1_core.specs.Laid.{IsLaidAt}
use Rattle.v1_core.specs.Programs.{slot_width, numbered16}
use Rattle.v1_core.specs.PackedFrames.{IsFrameOf}
use Rattle.v1_core.proofs.Reading.{by_truth}
use Rattle.v1_core.specs.declared.node.Element.{Element}
use Rattle.v1_core.specs.declared.node.Which.{Which}
use Rattle.v1_core.specs.Scalars.{bits_value, truth_value, pair_value}
use Rattle.v1_core.specs.Ready as ready
use Rattle.v1_core.specs.Ready.{Ready, Ended, given, failed, and_then, is_past, within_stack, bits_ahead, slice_at, ready_value}
use Rattle.v1_ready_forms.specs.Named.{NamedSeat, seat_of_name, seats_in}
use Rattle.v1_ready_forms.specs.Ways.{Way, its_value, its_validity, through_member, through_element, through_told, which_of}
use Rattle.v1_ready_forms.specs.Spots.{Told, Spot, spot, spot_with, spot_behind, told_spot, element_with, value_ready, validity_ready, ready_behind, way_ready}
use Rattle.v1_ready_forms.specs.Expressions.{alone, with_two, only_error, member_ready, method_ready, slice_ready, lookahead_ready, cast_ready, binary_ready, asked_ready, ready_of_exp}
use Rattle.v1_ready_laws.specs.Asked.{Gives}
use Rattle.v1_ready_laws.specs.Widths.{IsWide, TypesNarrow}
use Rattle.v1_ready_laws.specs.Rules.{KeepsAll, Keeps, SortSeated, NamesSeated}
use Rattle.v1_ready_laws.proofs.Rules.{second_false}
use Rattle.v1_ready_laws.proofs.Given.{if_more, if_map, if_two, if_three}
use Rattle.v1_ready_laws.proofs.Steps.{Stands, Leads, step_leads}
use Rattle.v1_ready_laws.proofs.Named.{At, name_at}
use Rattle.v1_ready_laws.proofs.Accepted.{accepted_narrow}
use Rattle.v1_ready_laws.proofs.Judged.{judged_gives}
use Rattle.v1_block_laws.proofs.Keeping.{front, back}
use Rattle.v1_value_laws.specs.Kinds.{KindFine, Fine, IsUnformed, FormIs}
use Rattle.v1_value_laws.specs.Classes.{IsNumber, IsTruth, IsError, IsOfClass}
use Rattle.v1_value_laws.specs.Laws.{ValuesOfClasses}
use Rattle.v1_value_laws.proofs.Taken.{taken, OfNumbers, bits_number, truth_only, Compared, numbers, truths, both_errors, compared_kinds, joint_numbers, one_number, number_or_truth}
use Rattle.v1_value_laws.proofs.Formed.{SpotIs, with_is, member_is, index_is, told_any, sort_form}

-- classes of kinds

unformed_class : (k : Kind) (v : Value) → IsUnformed k → IsOfClass k v
unformed_class (bits width) v un = absurd un
unformed_class unsized v un = absurd un
unformed_class boolean v un = absurd un
unformed_class error_code v un = absurd un
unformed_class (header type) v un = tt
unformed_class (stack type size) v un = tt
unformed_class (struct type) v un = tt
unformed_class packet_in v un = tt
unformed_class packet_out v un = tt
unformed_class errors v un = tt
unformed_class (enumeration enum) v un = tt
unformed_class (one_of enum) v un = tt
unformed_class table v un = tt
unformed_class applied v un = tt
unformed_class (object kind) v un = tt
unformed_class items v un = tt
unformed_class nothing v un = tt
unformed_class unknown v un = tt

number_class : (k : Kind) (v : Value) → OfNumbers k → IsNumber v → IsOfClass k v
number_class (bits width) v is h = h
number_class unsized v is h = h
number_class boolean v is h = absurd is
number_class error_code v is h = absurd is
number_class (header type) v is h = absurd is
number_class (stack type size) v is h = absurd is
number_class (struct type) v is h = absurd is
number_class packet_in v is h = absurd is
number_class packet_out v is h = absurd is
number_class errors v is h = absurd is
number_class (enumeration enum) v is h = absurd is
number_class (one_of enum) v is h = absurd is
number_class table v is h = absurd is
number_class applied v is h = absurd is
number_class (object kind) v is h = absurd is
number_class items v is h = absurd is
number_class nothing v is h = absurd is
number_class unknown v is h = absurd is

pub class_number : (k : Kind) (v : Value) → OfNumbers k → IsOfClass k v → IsNumber v
class_number (bits width) v is h = h
class_number unsized v is h = h
class_number boolean v is h = absurd is
class_number error_code v is h = absurd is
class_number (header type) v is h = absurd is
class_number (stack type size) v is h = absurd is
class_number (struct type) v is h = absurd is
class_number packet_in v is h = absurd is
class_number packet_out v is h = absurd is
class_number errors v is h = absurd is
class_number (enumeration enum) v is h = absurd is
class_number (one_of enum) v is h = absurd is
class_number table v is h = absurd is
class_number applied v is h = absurd is
class_number (object kind) v is h = absurd is
class_number items v is h = absurd is
class_number nothing v is h = absurd is
class_number unknown v is h = absurd is

of_number : (w n : ℕ) (v : Value) → given (a_number w n) ≡ given v → IsNumber v
of_number w n v is = let same : v ≡ a_number w n = cc is in (w, (n, same))

of_truth : (b : Bool) (v : Value) → given (a_truth b) ≡ given v → IsTruth v
of_truth b v is = let same : v ≡ a_truth b = cc is in (b, same)

-- what a way asks of a kind

abbrev pub way_kind : List TypeLayout → Way → Kind → Kind
way_kind types its_value k = k
way_kind types its_validity k = boolean
way_kind types (through_member word way) k = way_kind types way (known_kind (member_kind types k word))
way_kind types (through_element number way) k = way_kind types way (element_kind k)
way_kind types (through_told which way) k = way_kind types way (element_kind k)

way_unknown : (types : List TypeLayout) (way : Way) (k : Kind) (v : Value) → IsOfClass (way_kind types way k) v → IsOfClass (way_kind types way unknown) v
way_unknown types its_value k v h = tt
way_unknown types its_validity k v h = h
way_unknown types (through_member word way) k v h = way_unknown types way (known_kind (member_kind types k word)) v h
way_unknown types (through_element number way) k v h = way_unknown types way (element_kind k) v h
way_unknown types (through_told which way) k v h = way_unknown types way (element_kind k) v h

always : {A : Type 0} (B : A → Type 0) (o : Option A) → ((x : A) → B x) → IfSome o B
always B None f = tt
always B (Some x) f = f x

both_some : {A : Type 0} (B C : A → Type 0) (o : Option A) → IfSome o B → IfSome o C → IfSome o (λ x. B x × C x)
both_some B C None p q = tt
both_some B C (Some x) p q = (p, q)

-- names of errors

any_place : (test : Name → Bool) (xs : List Name) → list_any test xs ≡ true → position_or_len test xs < length xs
any_place test [] is = absurd (cc is)
any_place test (x ∷ xs) is = by (test x) refl (λ e. any_place test xs e) where
  more : (m n : ℕ) → m < n → 1 + m < suc n
  more m n lt = omega (arith, lt)

  later : (b : Bool) → b ≡ false → (b || list_any test xs) ≡ true → list_any test xs ≡ true
  later true e is = absurd (cc e)
  later false e is = is

  by : (b : Bool) → test x ≡ b → (list_any test xs ≡ true → position_or_len test xs < length xs) → position_or_len test (x ∷ xs) < length (x ∷ xs)
  by true e rest = subst (λ (b : Bool). cond (not b) (1 + position_or_len test xs) 0 < suc (length xs)) (sym e) (omega arith)
  by false e rest = subst (λ (b : Bool). cond (not b) (1 + position_or_len test xs) 0 < suc (length xs)) (sym e) (more (position_or_len test xs) (length xs) (rest (later (test x) e is)))

error_number : (word : Name) → has_name error_names word ≡ true → number_of_error word < 4
error_number word is =
    let lt : position_or_len (bytes_eq word) error_names < 4 = any_place (bytes_eq word) error_names is in
    by (nat_lt (position_or_len (bytes_eq word) error_names) 4) (lt-ltb (position_or_len (bytes_eq word) error_names) 4 lt) lt where
      by : (t : Bool) → t ≡ true → position_or_len (bytes_eq word) error_names < 4 → unwrap_or (cond t (Some (position_or_len (bytes_eq word) error_names)) None) 4 < 4
      by true e lt = lt
      by false e lt = absurd (cc e)

module _ (types : List TypeLayout) (members : (type word : Name) → KindFine types (known_kind (field_kind_in (fields_in types type) word))) (c : Cells) (left : List ℕ) (narrow : TypesNarrow types) (whole : AreWhole c) where
  abbrev Class : Way → Kind → Ready → Type 0
  Class way k r = (v : Value) → ready_value c left r ≡ given v → IsOfClass (way_kind types way k) v

  within_number : (e : Element) (w n : ℕ) (v : Value) → within_stack c e (a_number w n) ≡ given v → IsNumber v
  within_number e w n v is = by (is_past e.which (stack_place c e.stack) (stack_size c e.stack)) is where
    by : (t : Bool) → cond t (failed StackOutOfBounds) (given (a_number w n)) ≡ given v → IsNumber v
    by true e = absurd (cc e)
    by false e = of_number w n v e

  within_truth : (e : Element) (b : Bool) (v : Value) → within_stack c e (a_truth b) ≡ given v → IsTruth v
  within_truth e b v is = by (is_past e.which (stack_place c e.stack) (stack_size c e.stack)) is where
    by : (t : Bool) → cond t (failed StackOutOfBounds) (given (a_truth b)) ≡ given v → IsTruth v
    by true e = absurd (cc e)
    by false e = of_truth b v e

  -- what no stack tells is where its layout has it
  abbrev Standing : Seat → Option Told → Type 0
  Standing t None = Stands c.layout types t
  Standing t (Some d) = Unit {0}

  error_fits : (t : Seat) → t.form ≡ slot_form seats_of.an_error → Stands c.layout types t → slot_value c t.start.slot < 4
  error_fits t form stands = by t.form form stands.laid stands.wide where
    by : (f : Form) → f ≡ slot_form seats_of.an_error → IsLaidAt c.layout types t.depth f t.start t.owner → IsWide c.layout types t.depth f t.start → slot_value c t.start.slot < 4
    by (slot_form of) is laid wide =
        subst (λ (w : ℕ). slot_value c t.start.slot < 2 ^ w) (wide ∙ ap slot_width (content_is of is)) (live (is_live c t.start.slot)) where
          content_is : (x : Content) → slot_form x ≡ slot_form seats_of.an_error → x ≡ seats_of.an_error
          content_is x e = let same : x ≡ seats_of.an_error = cc e in same

          live : (b : Bool) → cond b (get_or c.numbers t.start.slot 0) 0 < 2 ^ get_or c.layout.widths t.start.slot 0
          live true = whole.fits t.start.slot laid.within
          live false = pow_pos (get_or c.layout.widths t.start.slot 0)
    by (header_form type) is laid wide = absurd (cc is)
    by (stack_form type size) is laid wide = absurd (cc is)
    by (struct_form type) is laid wide = absurd (cc is)
    by no_form is laid wide = absurd (cc is)

  told_number : (d : Told) (at : ℕ) (v : Value) → ready_value c left (ready.element_slot (element_with d at d.apart)) ≡ given v → IsNumber v
  told_number d at v is = within_number (element_with d at d.apart) (get_or c.layout.widths (ready.part_number c (element_with d at d.apart)) 0) (slot_value c (ready.part_number c (element_with d at d.apart))) v is

  told_truth : (d : Told) (at : ℕ) (v : Value) → ready_value c left (ready.element_valid (element_with d at 1)) ≡ given v → IsTruth v
  told_truth d at v is = within_truth (element_with d at 1) (header_valid c (ready.part_number c (element_with d at 1))) v is

  value_class : (t : Seat) (told : Option Told) (k : Kind) → FormIs types k t.form → Standing t told → IfSome (value_ready (record { seat = t; told = told })) (Class its_value k)
  value_class t told k (inl un) st = always (Class its_value k) (value_ready (record { seat = t; told = told })) (λ r v is. unformed_class k v un)
  value_class t told k (inr h) st = by k told h.0 st where
    by : (j : Kind) (o : Option Told) → t.form ≡ form_of j → Standing t o → IfSome (value_ready (record { seat = record { depth = t.depth; form = t.form; start = t.start; owner = t.owner }; told = o })) (Class its_value j)
    by (bits width) None is st = subst (λ (f : Form). IfSome (value_ready (record { seat = record { depth = t.depth; form = f; start = t.start; owner = t.owner }; told = None })) (Class its_value (bits width))) (sym is) (λ v e. of_number (get_or c.layout.widths t.start.slot 0) (slot_value c t.start.slot) v e)
    by (bits width) (Some d) is st = subst (λ (f : Form). IfSome (value_ready (record { seat = record { depth = t.depth; form = f; start = t.start; owner = t.owner }; told = (Some d) })) (Class its_value (bits width))) (sym is) (λ v e. told_number d t.start.slot v e)
    by boolean None is st = subst (λ (f : Form). IfSome (value_ready (record { seat = record { depth = t.depth; form = f; start = t.start; owner = t.owner }; told = None })) (Class its_value boolean)) (sym is) (λ v e. of_truth (not (slot_value c t.start.slot == 0)) v e)
    by boolean (Some d) is st = subst (λ (f : Form). IfSome (value_ready (record { seat = record { depth = t.depth; form = f; start = t.start; owner = t.owner }; told = (Some d) })) (Class its_value boolean)) (sym is) tt
    by error_code None is st = subst (λ (f : Form). IfSome (value_ready (record { seat = record { depth = t.depth; form = f; start = t.start; owner = t.owner }; told = None })) (Class its_value error_code)) (sym is) (λ v e. let same : v ≡ an_error (slot_value c t.start.slot) = cc e in (slot_value c t.start.slot, (same, error_fits t is st)))
    by error_code (Some d) is st = subst (λ (f : Form). IfSome (value_ready (record { seat = record { depth = t.depth; form = f; start = t.start; owner = t.owner }; told = (Some d) })) (Class its_value error_code)) (sym is) tt
    by unsized None is st = subst (λ (f : Form). IfSome (value_ready (record { seat = record { depth = t.depth; form = f; start = t.start; owner = t.owner }; told = None })) (Class its_value unsized)) (sym is) tt
    by unsized (Some d) is st = subst (λ (f : Form). IfSome (value_ready (record { seat = record { depth = t.depth; form = f; start = t.start; owner = t.owner }; told = (Some d) })) (Class its_value unsized)) (sym is) tt
    by (header type) None is st = subst (λ (f : Form). IfSome (value_ready (record { seat = record { depth = t.depth; form = f; start = t.start; owner = t.owner }; told = None })) (Class its_value (header type))) (sym is) tt
    by (header type) (Some d) is st = subst (λ (f : Form). IfSome (value_ready (record { seat = record { depth = t.depth; form = f; start = t.start; owner = t.owner }; told = (Some d) })) (Class its_value (header type))) (sym is) tt
    by (stack type size) None is st = subst (λ (f : Form). IfSome (value_ready (record { seat = record { depth = t.depth; form = f; start = t.start; owner = t.owner }; told = None })) (Class its_value (stack type size))) (sym is) tt
    by (stack type size) (Some d) is st = subst (λ (f : Form). IfSome (value_ready (record { seat = record { depth = t.depth; form = f; start = t.start; owner = t.owner }; told = (Some d) })) (Class its_value (stack type size))) (sym is) tt
    by (struct type) None is st = subst (λ (f : Form). IfSome (value_ready (record { seat = record { depth = t.depth; form = f; start = t.start; owner = t.owner }; told = None })) (Class its_value (struct type))) (sym is) tt
    by (struct type) (Some d) is st = subst (λ (f : Form). IfSome (value_ready (record { seat = record { depth = t.depth; form = f; start = t.start; owner = t.owner }; told = (Some d) })) (Class its_value (struct type))) (sym is) tt
    by packet_in None is st = subst (λ (f : Form). IfSome (value_ready (record { seat = record { depth = t.depth; form = f; start = t.start; owner = t.owner }; told = None })) (Class its_value packet_in)) (sym is) tt
    by packet_in (Some d) is st = subst (λ (f : Form). IfSome (value_ready (record { seat = record { depth = t.depth; form = f; start = t.start; owner = t.owner }; told = (Some d) })) (Class its_value packet_in)) (sym is) tt
    by packet_out None is st = subst (λ (f : Form). IfSome (value_ready (record { seat = record { depth = t.depth; form = f; start = t.start; owner = t.owner }; told = None })) (Class its_value packet_out)) (sym is) tt
    by packet_out (Some d) is st = subst (λ (f : Form). IfSome (value_ready (record { seat = record { depth = t.depth; form = f; start = t.start; owner = t.owner }; told = (Some d) })) (Class its_value packet_out)) (sym is) tt
    by errors None is st = subst (λ (f : Form). IfSome (value_ready (record { seat = record { depth = t.depth; form = f; start = t.start; owner = t.owner }; told = None })) (Class its_value errors)) (sym is) tt
    by errors (Some d) is st = subst (λ (f : Form). IfSome (value_ready (record { seat = record { depth = t.depth; form = f; start = t.start; owner = t.owner }; told = (Some d) })) (Class its_value errors)) (sym is) tt
    by (enumeration enum) None is st = subst (λ (f : Form). IfSome (value_ready (record { seat = record { depth = t.depth; form = f; start = t.start; owner = t.owner }; told = None })) (Class its_value (enumeration enum))) (sym is) tt
    by (enumeration enum) (Some d) is st = subst (λ (f : Form). IfSome (value_ready (record { seat = record { depth = t.depth; form = f; start = t.start; owner = t.owner }; told = (Some d) })) (Class its_value (enumeration enum))) (sym is) tt
    by (one_of enum) None is st = subst (λ (f : Form). IfSome (value_ready (record { seat = record { depth = t.depth; form = f; start = t.start; owner = t.owner }; told = None })) (Class its_value (one_of enum))) (sym is) tt
    by (one_of enum) (Some d) is st = subst (λ (f : Form). IfSome (value_ready (record { seat = record { depth = t.depth; form = f; start = t.start; owner = t.owner }; told = (Some d) })) (Class its_value (one_of enum))) (sym is) tt
    by table None is st = subst (λ (f : Form). IfSome (value_ready (record { seat = record { depth = t.depth; form = f; start = t.start; owner = t.owner }; told = None })) (Class its_value table)) (sym is) tt
    by table (Some d) is st = subst (λ (f : Form). IfSome (value_ready (record { seat = record { depth = t.depth; form = f; start = t.start; owner = t.owner }; told = (Some d) })) (Class its_value table)) (sym is) tt
    by applied None is st = subst (λ (f : Form). IfSome (value_ready (record { seat = record { depth = t.depth; form = f; start = t.start; owner = t.owner }; told = None })) (Class its_value applied)) (sym is) tt
    by applied (Some d) is st = subst (λ (f : Form). IfSome (value_ready (record { seat = record { depth = t.depth; form = f; start = t.start; owner = t.owner }; told = (Some d) })) (Class its_value applied)) (sym is) tt
    by (object kind) None is st = subst (λ (f : Form). IfSome (value_ready (record { seat = record { depth = t.depth; form = f; start = t.start; owner = t.owner }; told = None })) (Class its_value (object kind))) (sym is) tt
    by (object kind) (Some d) is st = subst (λ (f : Form). IfSome (value_ready (record { seat = record { depth = t.depth; form = f; start = t.start; owner = t.owner }; told = (Some d) })) (Class its_value (object kind))) (sym is) tt
    by items None is st = subst (λ (f : Form). IfSome (value_ready (record { seat = record { depth = t.depth; form = f; start = t.start; owner = t.owner }; told = None })) (Class its_value items)) (sym is) tt
    by items (Some d) is st = subst (λ (f : Form). IfSome (value_ready (record { seat = record { depth = t.depth; form = f; start = t.start; owner = t.owner }; told = (Some d) })) (Class its_value items)) (sym is) tt
    by nothing None is st = subst (λ (f : Form). IfSome (value_ready (record { seat = record { depth = t.depth; form = f; start = t.start; owner = t.owner }; told = None })) (Class its_value nothing)) (sym is) tt
    by nothing (Some d) is st = subst (λ (f : Form). IfSome (value_ready (record { seat = record { depth = t.depth; form = f; start = t.start; owner = t.owner }; told = (Some d) })) (Class its_value nothing)) (sym is) tt
    by unknown None is st = subst (λ (f : Form). IfSome (value_ready (record { seat = record { depth = t.depth; form = f; start = t.start; owner = t.owner }; told = None })) (Class its_value unknown)) (sym is) tt
    by unknown (Some d) is st = subst (λ (f : Form). IfSome (value_ready (record { seat = record { depth = t.depth; form = f; start = t.start; owner = t.owner }; told = (Some d) })) (Class its_value unknown)) (sym is) tt

  validity_class : (f : Form) (t : Seat) (told : Option Told) → IfSome (validity_ready (record { seat = record { depth = t.depth; form = f; start = t.start; owner = t.owner }; told = told })) (λ r. (v : Value) → ready_value c left r ≡ given v → IsTruth v)
  validity_class (slot_form of) t told = tt
  validity_class (header_form type) t None = λ v e. of_truth _ v e
  validity_class (header_form type) t (Some d) = λ v e. told_truth d t.start.header v e
  validity_class (stack_form type size) t told = tt
  validity_class (struct_form type) t told = tt
  validity_class no_form t told = tt

  stands_behind : (step : Step) (t : Seat) (told : Option Told) → Standing t told → IfSome (spot_with told (stepped_seat types t.depth t.form t.start step)) (λ x. Standing x.seat x.told)
  stands_behind step t None st = further (stepped_seat types t.depth t.form t.start step) (step_leads types c t.depth t.form t.start t.owner step st narrow) where
    further : (o : Option Seat) → IfSome o (Leads c types (value_from types c t.depth t.form t.start) step) → IfSome (spot_with None o) (λ x. Standing x.seat x.told)
    further None h = tt
    further (Some u) h = h.1
  stands_behind step t (Some d) st = further (stepped_seat types t.depth t.form t.start step) where
    further : (o : Option Seat) → IfSome (spot_with (Some d) o) (λ x. Standing x.seat x.told)
    further None = tt
    further (Some u) = tt

  told_stands : (which : Which) (x : Spot) → IfSome (told_spot types which x) (λ y. Standing y.seat y.told)
  told_stands which x = by x.seat.form x.told where
    further : (d : Told) (o : Option Seat) → IfSome (spot_with (Some d) o) (λ y. Standing y.seat y.told)
    further d None = tt
    further d (Some u) = tt

    by : (f : Form) (o : Option Told) → IfSome (told_spot types which (record { seat = record { depth = x.seat.depth; form = f; start = x.seat.start; owner = x.seat.owner }; told = o })) (λ y. Standing y.seat y.told)
    by (slot_form of) o = tt
    by (header_form type) o = tt
    by (stack_form type size) None = further _ (stepped_seat types x.seat.depth (stack_form type size) x.seat.start (to_element 0))
    by (stack_form type size) (Some d) = tt
    by (struct_form type) o = tt
    by no_form o = tt

  behind_class : (way : Way) (k : Kind) (o : Option Spot) → ((x : Spot) → FormIs types k x.seat.form → Standing x.seat x.told → IfSome (way_ready types way x) (Class way k)) → SpotIs types members k o → IfSome o (λ x. Standing x.seat x.told) → IfSome (ready_behind (way_ready types way) o) (Class way k)
  behind_class way k None f h st = tt
  behind_class way k (Some x) f h st = f x h st

  spot_class : (way : Way) (x : Spot) (k : Kind) → FormIs types k x.seat.form → Standing x.seat x.told → IfSome (way_ready types way x) (Class way k)
  spot_class its_value x k is st = value_class x.seat x.told k is st
  spot_class its_validity x k is st = validity_class x.seat.form x.seat x.told
  spot_class (through_member word way) x k is st =
      behind_class way (known_kind (member_kind types k word)) (spot_behind types (to_member word) x) (λ y h s. spot_class way y (known_kind (member_kind types k word)) h s)
      (with_is types members (known_kind (member_kind types k word)) x.told (stepped_seat types x.seat.depth x.seat.form x.seat.start (to_member word)) (member_is types members k word x.seat is))
      (stands_behind (to_member word) x.seat x.told st)
  spot_class (through_element number way) x k is st =
      behind_class way (element_kind k) (spot_behind types (to_element number) x) (λ y h s. spot_class way y (element_kind k) h s)
      (with_is types members (element_kind k) x.told (stepped_seat types x.seat.depth x.seat.form x.seat.start (to_element number)) (index_is types members k number x.seat is))
      (stands_behind (to_element number) x.seat x.told st)
  spot_class (through_told which way) x k is st =
      behind_class way (element_kind k) (told_spot types which x) (λ y h s. spot_class way y (element_kind k) h s)
      (told_any types members k which x is) (told_stands which x)

  -- what a name is asked
  name_class : (way : Way) (k : Kind) (o : Option Seat) → IfSome o (λ t. FormIs types k t.form) → IfSome o (λ t. Stands c.layout types t) → IfSome (ready_behind (way_ready types way) (spot_with None o)) (Class way k)
  name_class way k None h st = tt
  name_class way k (Some t) h st = spot_class way (spot None t) k h st

  lone_class : (way : Way) (k : Kind) (o : Option Ready) → IfSome o (Class its_value k) → IfSome (alone way o) (Class way k)
  lone_class its_value k o h = h
  lone_class its_validity k o h = tt
  lone_class (through_member word way) k o h = tt
  lone_class (through_element number way) k o h = tt
  lone_class (through_told which way) k o h = tt

  -- members

  only_class : (e : Exp16) (o : Option Ready) (B : Ready → Type 0) → IfSome o B → IfSome (only_error e o) B
  only_class (literal n) o B h = tt
  only_class (truth holds) o B h = tt
  only_class error o B h = h
  only_class (name text) o B h = tt
  only_class (member e word) o B h = tt
  only_class (index e at) o B h = tt
  only_class (slice e high low) o B h = tt
  only_class (call g other) o B h = tt
  only_class (lookahead e to other) o B h = tt
  only_class (cast to e) o B h = tt
  only_class (unary operator e) o B h = tt
  only_class (binary operator a b) o B h = tt
  only_class (choice d a b) o B h = tt
  only_class (parenthesized e) o B h = tt
  only_class no_arguments o B h = tt
  only_class (argument before last) o B h = tt
  only_class (listed es) o B h = tt

  error_class : (word : Name) (t : Bool) → has_name error_names word ≡ t → (v : Value) → given (an_error (number_of_error word)) ≡ given v → IsOfClass (known_kind (cond t (Some error_code) None)) v
  error_class word true is v e = let same : v ≡ an_error (number_of_error word) = cc e in (number_of_error word, (same, error_number word is))
  error_class word false is v e = tt

  stack_class : (type word : Name) (way : Way) (o : Option Ready) (t : Bool) → IfSome o (Class way (header type)) → IfSome o (Class way (known_kind (cond t (Some (header type)) None)))
  stack_class type word way o true h = h
  stack_class type word way None false h = tt
  stack_class type word way (Some r) false h = λ v e. way_unknown types way (header type) v (h v e)

  member_class : (k : Kind) (e : Exp16) (word : Name) (way : Way) (ask : Way → Option Ready) → ((further : Way) → IfSome (ask further) (Class further k)) → IfSome (member_ready k e word way ask) (Class way (known_kind (member_kind types k word)))
  member_class (bits width) e word way ask h = h (through_member word way)
  member_class unsized e word way ask h = h (through_member word way)
  member_class boolean e word way ask h = h (through_member word way)
  member_class error_code e word way ask h = h (through_member word way)
  member_class (header type) e word way ask h = h (through_member word way)
  member_class (stack type size) e word way ask h = stack_class type word way (ask (through_told (which_of word) way)) (has_name (codes "next" ∷ codes "last" ∷ []) word) (h (through_told (which_of word) way))
  member_class (struct type) e word way ask h = h (through_member word way)
  member_class packet_in e word way ask h = h (through_member word way)
  member_class packet_out e word way ask h = h (through_member word way)
  member_class errors e word way ask h = only_class e (alone way (Some (ready.constant (an_error (number_of_error word))))) (Class way (known_kind (member_kind types errors word))) (lone_class way (known_kind (member_kind types errors word)) (Some (ready.constant (an_error (number_of_error word)))) (λ v is. error_class word (has_name error_names word) refl v is))
  member_class (enumeration enum) e word way ask h = tt
  member_class (one_of enum) e word way ask h = h (through_member word way)
  member_class table e word way ask h = h (through_member word way)
  member_class applied e word way ask h = h (through_member word way)
  member_class (object kind) e word way ask h = h (through_member word way)
  member_class items e word way ask h = h (through_member word way)
  member_class nothing e word way ask h = h (through_member word way)
  member_class unknown e word way ask h = h (through_member word way)

  pub valid_class : (t : Bool) (u : Bool) (w : Bool) (v : Value) → IsTruth v → IsOfClass (call_kind (cond t (Some (method false [] boolean)) (cond u (Some (method true [] nothing)) (cond w (Some (method true [] nothing)) None)))) v
  valid_class true u w v h = h
  valid_class false true w v h = tt
  valid_class false false true v h = tt
  valid_class false false false v h = tt

  validity_only : (type word : Name) (way : Way) (o : Option Ready) → IfSome o (Class its_validity (header type)) → IfSome (alone way o) (Class way (call_kind (method_signature (header type) word)))
  validity_only type word way o h =
      lone_class way (call_kind (method_signature (header type) word)) o
      (if_more (Class its_validity (header type)) (Class its_value (call_kind (method_signature (header type) word))) o
      (λ r f v e. valid_class (bytes_eq word (codes "isValid")) (bytes_eq word (codes "setValid")) (bytes_eq word (codes "setInvalid")) v (f v e)) h)

  method_class : (k : Kind) (word : Name) (way : Way) (ask : Way → Option Ready) → ((further : Way) → IfSome (ask further) (Class further k)) → IfSome (method_ready k way ask) (Class way (call_kind (method_signature k word)))
  method_class (bits width) word way ask h = tt
  method_class unsized word way ask h = tt
  method_class boolean word way ask h = tt
  method_class error_code word way ask h = tt
  method_class (header type) word way ask h = validity_only type word way (ask its_validity) (h its_validity)
  method_class (stack type size) word way ask h = tt
  method_class (struct type) word way ask h = tt
  method_class packet_in word way ask h = tt
  method_class packet_out word way ask h = tt
  method_class errors word way ask h = tt
  method_class (enumeration enum) word way ask h = tt
  method_class (one_of enum) word way ask h = tt
  method_class table word way ask h = tt
  method_class applied word way ask h = tt
  method_class (object kind) word way ask h = tt
  method_class items word way ask h = tt
  method_class nothing word way ask h = tt
  method_class unknown word way ask h = tt

  -- slices, casts and bits ahead

  pub slice_class : (k : Kind) (high low : Literal16) (v : Value) → IsNumber v → IsOfClass (slice_kind k high low) v
  slice_class (bits width) high low v h = by_truth (λ (t : Bool). IsOfClass (cond t unknown (bits (suc high.value - low.value))) v) tt h (leaves_width width high low)
  slice_class unsized high low v h = tt
  slice_class boolean high low v h = tt
  slice_class error_code high low v h = tt
  slice_class (header type) high low v h = tt
  slice_class (stack type size) high low v h = tt
  slice_class (struct type) high low v h = tt
  slice_class packet_in high low v h = tt
  slice_class packet_out high low v h = tt
  slice_class errors high low v h = tt
  slice_class (enumeration enum) high low v h = tt
  slice_class (one_of enum) high low v h = tt
  slice_class table high low v h = tt
  slice_class applied high low v h = tt
  slice_class (object kind) high low v h = tt
  slice_class items high low v h = tt
  slice_class nothing high low v h = tt
  slice_class unknown high low v h = tt

  sliced_number : (place width : ℕ) (end : Ended) (v : Value) → and_then end (λ x. given (a_number width (sliced (slice_at place width) (number_in x)))) ≡ given v → IsNumber v
  sliced_number place width (given x) v is = of_number width (sliced (slice_at place width) (number_in x)) v is
  sliced_number place width (failed e) v is = absurd (cc is)

  ahead_number : (width : ℕ) (v : Value) → bits_ahead left width ≡ given v → IsNumber v
  ahead_number width v is = by (nat_lt width (8 * length left + 1)) is where
    by : (t : Bool) → cond t (given (a_number width (num (take width (octet_bits left))))) (failed PacketTooShort) ≡ given v → IsNumber v
    by true e = of_number width (num (take width (octet_bits left))) v e
    by false e = absurd (cc e)

  ahead_kind : (of : Kind) (width : ℕ) (v : Value) → IsNumber v → IsOfClass (lookahead_kind of (bits width)) v
  ahead_kind (bits other) width v h = tt
  ahead_kind unsized width v h = tt
  ahead_kind boolean width v h = tt
  ahead_kind error_code width v h = tt
  ahead_kind (header type) width v h = tt
  ahead_kind (stack type size) width v h = tt
  ahead_kind (struct type) width v h = tt
  ahead_kind packet_in width v h = h
  ahead_kind packet_out width v h = tt
  ahead_kind errors width v h = tt
  ahead_kind (enumeration enum) width v h = tt
  ahead_kind (one_of enum) width v h = tt
  ahead_kind table width v h = tt
  ahead_kind applied width v h = tt
  ahead_kind (object kind) width v h = tt
  ahead_kind items width v h = tt
  ahead_kind nothing width v h = tt
  ahead_kind unknown width v h = tt

  ahead_class : (of to : Kind) → IfSome (lookahead_ready to) (Class its_value (lookahead_kind of to))
  ahead_class of (bits width) = λ v e. ahead_kind of width v (ahead_number width v e)
  ahead_class of unsized = tt
  ahead_class of boolean = tt
  ahead_class of error_code = tt
  ahead_class of (header type) = tt
  ahead_class of (stack type size) = tt
  ahead_class of (struct type) = tt
  ahead_class of packet_in = tt
  ahead_class of packet_out = tt
  ahead_class of errors = tt
  ahead_class of (enumeration enum) = tt
  ahead_class of (one_of enum) = tt
  ahead_class of table = tt
  ahead_class of applied = tt
  ahead_class of (object kind) = tt
  ahead_class of items = tt
  ahead_class of nothing = tt
  ahead_class of unknown = tt

  number_cast : (width : ℕ) (x v : Value) → IsNumber x → given (bits_value width x) ≡ given v → IsNumber v
  number_cast width x v h is = let g : given (a_number width (h.1.0 % 2 ^ width)) ≡ given v = ap (λ (y : Value). given (bits_value width y)) (sym h.1.1) ∙ is in of_number width (h.1.0 % 2 ^ width) v g

  truth_cast : (width : ℕ) (x v : Value) → IsTruth x → given (bits_value width x) ≡ given v → IsNumber v
  truth_cast width x v h is = let g : given (a_number width (bit h.0)) ≡ given v = ap (λ (y : Value). given (bits_value width y)) (sym h.1) ∙ is in of_number width (bit h.0) v g

  to_truth_cast : (x v : Value) → IsNumber x → given (truth_value x) ≡ given v → IsTruth v
  to_truth_cast x v h is = let g : given (a_truth (not (h.1.0 == 0))) ≡ given v = ap (λ (y : Value). given (truth_value y)) (sym h.1.1) ∙ is in of_truth (not (h.1.0 == 0)) v g

  bits_cast : (width : ℕ) (e : Exp16) (k : Kind) (t : Bool) (x v : Value) → takes (cond t bits_or_boolean any_bits) e k ≡ true → IsOfClass k x → given (bits_value width x) ≡ given v → IsNumber v
  bits_cast width e k true x v is h g = by (number_or_truth e k is) where
    by : OfNumbers k ⊎ (k ≡ boolean) → IsNumber v
    by (inl of) = number_cast width x v (class_number k x of h) g
    by (inr same) = truth_cast width x v (subst (λ (j : Kind). IsOfClass j x) same h) g
  bits_cast width e k false x v is h g = number_cast width x v (class_number k x (bits_number k is) h) g

  pub cast_class : (to : CastType) (e : Exp16) (k : Kind) (r : Ready) → takes (cast_place to) e k ≡ true → Class its_value k r → Class its_value (cast_kind to) (cast_ready to r)
  cast_class (cast_to.Bit w) e k r is h = λ v g. by (ready_value c left r) refl v g where
    by : (end : Ended) → ready_value c left r ≡ end → (v : Value) → and_then end (λ x. given (bits_value w.value x)) ≡ given v → IsNumber v
    by (given x) same v g = bits_cast w.value e k (nat_eq w.value 1) x v is (h x same) g
    by (failed d) same v g = absurd (cc g)
  cast_class cast_to.Bool e k r is h = λ v g. by (ready_value c left r) refl v g where
    by : (end : Ended) → ready_value c left r ≡ end → (v : Value) → and_then end (λ x. given (truth_value x)) ≡ given v → IsTruth v
    by (given x) same v g = to_truth_cast x v (class_number k x (one_number e k is) (h x same)) g
    by (failed d) same v g = absurd (cc g)

  -- operators on one value

  not_class : (x v : Value) → IsTruth x → given (unary_value Not x) ≡ given v → IsTruth v
  not_class x v h is = let g : given (a_truth (not h.0)) ≡ given v = ap (λ (y : Value). given (unary_value Not y)) (sym h.1) ∙ is in of_truth (not h.0) v g

  turned_number : (operator : UnaryOperator) (x v : Value) → (operator ≡ Not → ⊥) → IsNumber x → given (unary_value operator x) ≡ given v → IsNumber v
  turned_number Not x v never h is = absurd (never refl)
  turned_number Complement x v never h is = let g : given (unary_value Complement (a_number h.0 h.1.0)) ≡ given v = ap (λ (y : Value). given (unary_value Complement y)) (sym h.1.1) ∙ is in of_number h.0 _ v g
  turned_number Negate x v never h is = let g : given (unary_value Negate (a_number h.0 h.1.0)) ≡ given v = ap (λ (y : Value). given (unary_value Negate y)) (sym h.1.1) ∙ is in of_number h.0 _ v g

  kept_number : (k : Kind) (x v : Value) → IsOfClass k x → (IsNumber x → IsNumber v) → IsOfClass (number_kind k) v
  kept_number (bits width) x v h f = f h
  kept_number unsized x v h f = f h
  kept_number boolean x v h f = tt
  kept_number error_code x v h f = tt
  kept_number (header type) x v h f = tt
  kept_number (stack type size) x v h f = tt
  kept_number (struct type) x v h f = tt
  kept_number packet_in x v h f = tt
  kept_number packet_out x v h f = tt
  kept_number errors x v h f = tt
  kept_number (enumeration enum) x v h f = tt
  kept_number (one_of enum) x v h f = tt
  kept_number table x v h f = tt
  kept_number applied x v h f = tt
  kept_number (object kind) x v h f = tt
  kept_number items x v h f = tt
  kept_number nothing x v h f = tt
  kept_number unknown x v h f = tt

  pub unary_class : (operator : UnaryOperator) (p : Place) (e : Exp16) (k : Kind) (r : Ready) → takes (unary_place p operator k) e k ≡ true → Class its_value k r → Class its_value (unary_kind operator k) (ready.unary operator r)
  unary_class operator p e k r is h = λ v g. by (ready_value c left r) refl v g where
    of : (o : UnaryOperator) (x v : Value) → takes (unary_place p o k) e k ≡ true → IsOfClass k x → given (unary_value o x) ≡ given v → IsOfClass (unary_kind o k) v
    of Not x v is h g = not_class x v (subst (λ (j : Kind). IsOfClass j x) (truth_only e k is) h) g
    of Complement x v is h g = kept_number k x v h (λ n. turned_number Complement x v (λ e. cc e) n g)
    of Negate x v is h g = kept_number k x v h (λ n. turned_number Negate x v (λ e. cc e) n g)

    by : (end : Ended) → ready_value c left r ≡ end → (v : Value) → and_then end (λ x. given (unary_value operator x)) ≡ given v → IsOfClass (unary_kind operator k) v
    by (given x) same v g = of operator x v is (h x same) g
    by (failed d) same v g = absurd (cc g)

-- operators on two values, as the meaning has them

two_numbers : (operator : BinaryOperator) (x y : Value) (B : Value → Type 0) → IsNumber x → IsNumber y → ((w a v b : ℕ) → B (binary_value operator (a_number w a) (a_number v b))) → B (binary_value operator x y)
two_numbers operator x y B h k f =
    subst (λ (u : Value). B (binary_value operator u y)) (sym h.1.1) (subst (λ (u : Value). B (binary_value operator (a_number h.0 h.1.0) u)) (sym k.1.1) (f h.0 h.1.0 k.0 k.1.0))

two_truths : (operator : BinaryOperator) (x y : Value) (B : Value → Type 0) → IsTruth x → IsTruth y → ((a b : Bool) → B (binary_value operator (a_truth a) (a_truth b))) → B (binary_value operator x y)
two_truths operator x y B h k f =
    subst (λ (u : Value). B (binary_value operator u y)) (sym h.1) (subst (λ (u : Value). B (binary_value operator (a_truth h.0) u)) (sym k.1) (f h.0 k.0))

two_errors : (operator : BinaryOperator) (x y : Value) (B : Value → Type 0) → IsError x → IsError y → ((a b : ℕ) → B (binary_value operator (an_error a) (an_error b))) → B (binary_value operator x y)
two_errors operator x y B h k f =
    subst (λ (u : Value). B (binary_value operator u y)) (sym h.1.0) (subst (λ (u : Value). B (binary_value operator (an_error h.0) u)) (sym k.1.0) (f h.0 k.0))

-- operators of arithmetic, which give numbers
joint_class : (a b : Kind) (x y v : Value) → IsOfClass a x → IsOfClass b y → (IsNumber x → IsNumber y → IsNumber v) → IsOfClass (joint_bits a b) v
joint_class (bits m) (bits n) x y v h k f = by_truth (λ (t : Bool). IsOfClass (cond t (bits m) unknown) v) (f h k) tt (nat_eq m n)
joint_class (bits m) unsized x y v h k f = f h k
joint_class unsized (bits n) x y v h k f = f h k
joint_class unsized unsized x y v h k f = f h k
joint_class (bits m) boolean x y v h k f = tt
joint_class (bits m) error_code x y v h k f = tt
joint_class (bits m) (header type) x y v h k f = tt
joint_class (bits m) (stack type size) x y v h k f = tt
joint_class (bits m) (struct type) x y v h k f = tt
joint_class (bits m) packet_in x y v h k f = tt
joint_class (bits m) packet_out x y v h k f = tt
joint_class (bits m) errors x y v h k f = tt
joint_class (bits m) (enumeration enum) x y v h k f = tt
joint_class (bits m) (one_of enum) x y v h k f = tt
joint_class (bits m) table x y v h k f = tt
joint_class (bits m) applied x y v h k f = tt
joint_class (bits m) (object kind) x y v h k f = tt
joint_class (bits m) items x y v h k f = tt
joint_class (bits m) nothing x y v h k f = tt
joint_class (bits m) unknown x y v h k f = tt
joint_class unsized boolean x y v h k f = tt
joint_class unsized error_code x y v h k f = tt
joint_class unsized (header type) x y v h k f = tt
joint_class unsized (stack type size) x y v h k f = tt
joint_class unsized (struct type) x y v h k f = tt
joint_class unsized packet_in x y v h k f = tt
joint_class unsized packet_out x y v h k f = tt
joint_class unsized errors x y v h k f = tt
joint_class unsized (enumeration enum) x y v h k f = tt
joint_class unsized (one_of enum) x y v h k f = tt
joint_class unsized table x y v h k f = tt
joint_class unsized applied x y v h k f = tt
joint_class unsized (object kind) x y v h k f = tt
joint_class unsized items x y v h k f = tt
joint_class unsized nothing x y v h k f = tt
joint_class unsized unknown x y v h k f = tt
joint_class boolean b x y v h k f = tt
joint_class error_code b x y v h k f = tt
joint_class (header type) b x y v h k f = tt
joint_class (stack type size) b x y v h k f = tt
joint_class (struct type) b x y v h k f = tt
joint_class packet_in b x y v h k f = tt
joint_class packet_out b x y v h k f = tt
joint_class errors b x y v h k f = tt
joint_class (enumeration enum) b x y v h k f = tt
joint_class (one_of enum) b x y v h k f = tt
joint_class table b x y v h k f = tt
joint_class applied b x y v h k f = tt
joint_class (object kind) b x y v h k f = tt
joint_class items b x y v h k f = tt
joint_class nothing b x y v h k f = tt
joint_class unknown b x y v h k f = tt

joined_class : (a b : Kind) (x y v : Value) → IsOfClass a x → IsOfClass b y → (IsNumber x → IsNumber y → IsNumber v) → IsOfClass (concatenated a b) v
joined_class (bits m) (bits n) x y v h k f = by_truth (λ (t : Bool). IsOfClass (cond t unknown (bits (m + n))) v) tt (f h k) (nat_lt 128 (m + n))
joined_class (bits m) unsized x y v h k f = tt
joined_class (bits m) boolean x y v h k f = tt
joined_class (bits m) error_code x y v h k f = tt
joined_class (bits m) (header type) x y v h k f = tt
joined_class (bits m) (stack type size) x y v h k f = tt
joined_class (bits m) (struct type) x y v h k f = tt
joined_class (bits m) packet_in x y v h k f = tt
joined_class (bits m) packet_out x y v h k f = tt
joined_class (bits m) errors x y v h k f = tt
joined_class (bits m) (enumeration enum) x y v h k f = tt
joined_class (bits m) (one_of enum) x y v h k f = tt
joined_class (bits m) table x y v h k f = tt
joined_class (bits m) applied x y v h k f = tt
joined_class (bits m) (object kind) x y v h k f = tt
joined_class (bits m) items x y v h k f = tt
joined_class (bits m) nothing x y v h k f = tt
joined_class (bits m) unknown x y v h k f = tt
joined_class unsized b x y v h k f = tt
joined_class boolean b x y v h k f = tt
joined_class error_code b x y v h k f = tt
joined_class (header type) b x y v h k f = tt
joined_class (stack type size) b x y v h k f = tt
joined_class (struct type) b x y v h k f = tt
joined_class packet_in b x y v h k f = tt
joined_class packet_out b x y v h k f = tt
joined_class errors b x y v h k f = tt
joined_class (enumeration enum) b x y v h k f = tt
joined_class (one_of enum) b x y v h k f = tt
joined_class table b x y v h k f = tt
joined_class applied b x y v h k f = tt
joined_class (object kind) b x y v h k f = tt
joined_class items b x y v h k f = tt
joined_class nothing b x y v h k f = tt
joined_class unknown b x y v h k f = tt

shifted_class : (a : Kind) (x v : Value) → IsOfClass a x → (IsNumber x → IsNumber v) → IsOfClass (number_kind a) v
shifted_class (bits m) x v h f = f h
shifted_class unsized x v h f = f h
shifted_class boolean x v h f = tt
shifted_class error_code x v h f = tt
shifted_class (header type) x v h f = tt
shifted_class (stack type size) x v h f = tt
shifted_class (struct type) x v h f = tt
shifted_class packet_in x v h f = tt
shifted_class packet_out x v h f = tt
shifted_class errors x v h f = tt
shifted_class (enumeration enum) x v h f = tt
shifted_class (one_of enum) x v h f = tt
shifted_class table x v h f = tt
shifted_class applied x v h f = tt
shifted_class (object kind) x v h f = tt
shifted_class items x v h f = tt
shifted_class nothing x v h f = tt
shifted_class unknown x v h f = tt

compared_class : (operator : BinaryOperator) (a b : Kind) (x y : Value) → ((w m v n : ℕ) → IsTruth (binary_value operator (a_number w m) (a_number v n))) → ((m n : Bool) → IsTruth (binary_value operator (a_truth m) (a_truth n))) → ((m n : ℕ) → IsTruth (binary_value operator (an_error m) (an_error n))) → Compared a b → IsOfClass a x → IsOfClass b y → IsTruth (binary_value operator x y)
compared_class operator a b x y f g e (numbers _ _ p q) h k = two_numbers operator x y IsTruth (class_number a x p h) (class_number b y q k) f
compared_class operator _ _ x y f g e truths h k = two_truths operator x y IsTruth h k g
compared_class operator _ _ x y f g e both_errors h k = two_errors operator x y IsTruth h k e

abbrev pub Strict : BinaryOperator → Type 0
Strict And = ⊥
Strict Or = ⊥
Strict operator = Unit {0}

pub pair_class : (operator : BinaryOperator) → Strict operator → (p : Place) (d e : Exp16) (a b : Kind) (x y : Value) → takes (left_place p operator a b) d a ≡ true → takes (right_place p operator a b) e b ≡ true → IsOfClass a x → IsOfClass b y → IsOfClass (binary_kind operator a b) (binary_value operator x y)
pair_class Multiply strict p d e a b x y s t h k = joint_class a b x y (binary_value Multiply x y) h k (λ f g. two_numbers Multiply x y IsNumber f g (λ w m v n. (w, (_, refl))))
pair_class Add strict p d e a b x y s t h k = joint_class a b x y (binary_value Add x y) h k (λ f g. two_numbers Add x y IsNumber f g (λ w m v n. (w, (_, refl))))
pair_class Subtract strict p d e a b x y s t h k = joint_class a b x y (binary_value Subtract x y) h k (λ f g. two_numbers Subtract x y IsNumber f g (λ w m v n. (w, (_, refl))))
pair_class SaturatingAdd strict p d e a b x y s t h k = joint_class a b x y (binary_value SaturatingAdd x y) h k (λ f g. two_numbers SaturatingAdd x y IsNumber f g (λ w m v n. (w, (_, refl))))
pair_class SaturatingSubtract strict p d e a b x y s t h k = joint_class a b x y (binary_value SaturatingSubtract x y) h k (λ f g. two_numbers SaturatingSubtract x y IsNumber f g (λ w m v n. (w, (_, refl))))
pair_class Concatenate strict p d e a b x y s t h k = joined_class a b x y (binary_value Concatenate x y) h k (λ f g. two_numbers Concatenate x y IsNumber f g (λ w m v n. (w + v, (_, refl))))
pair_class ShiftLeft strict p d e a b x y s t h k = shifted_class a x (binary_value ShiftLeft x y) h (λ f. two_numbers ShiftLeft x y IsNumber f (class_number b y (bits_number b t) k) (λ w m v n. (w, (_, refl))))
pair_class ShiftRight strict p d e a b x y s t h k = shifted_class a x (binary_value ShiftRight x y) h (λ f. two_numbers ShiftRight x y IsNumber f (class_number b y (bits_number b t) k) (λ w m v n. (w, (_, refl))))
pair_class BitAnd strict p d e a b x y s t h k = joint_class a b x y (binary_value BitAnd x y) h k (λ f g. two_numbers BitAnd x y IsNumber f g (λ w m v n. (w, (_, refl))))
pair_class BitXor strict p d e a b x y s t h k = joint_class a b x y (binary_value BitXor x y) h k (λ f g. two_numbers BitXor x y IsNumber f g (λ w m v n. (w, (_, refl))))
pair_class BitOr strict p d e a b x y s t h k = joint_class a b x y (binary_value BitOr x y) h k (λ f g. two_numbers BitOr x y IsNumber f g (λ w m v n. (w, (_, refl))))
pair_class Less strict p d e a b x y s t h k = let both = joint_numbers any_bits d e a b s t in two_numbers Less x y IsTruth (class_number a x both.0 h) (class_number b y both.1 k) (λ w m v n. (_, refl))
pair_class LessEqual strict p d e a b x y s t h k = let both = joint_numbers any_bits d e a b s t in two_numbers LessEqual x y IsTruth (class_number a x both.0 h) (class_number b y both.1 k) (λ w m v n. (_, refl))
pair_class Greater strict p d e a b x y s t h k = let both = joint_numbers any_bits d e a b s t in two_numbers Greater x y IsTruth (class_number a x both.0 h) (class_number b y both.1 k) (λ w m v n. (_, refl))
pair_class GreaterEqual strict p d e a b x y s t h k = let both = joint_numbers any_bits d e a b s t in two_numbers GreaterEqual x y IsTruth (class_number a x both.0 h) (class_number b y both.1 k) (λ w m v n. (_, refl))
pair_class Equal strict p d e a b x y s t h k = compared_class Equal a b x y (λ w m v n. (_, refl)) (λ m n. (_, refl)) (λ m n. (_, refl)) (compared_kinds d e a b s t) h k
pair_class And strict p d e a b x y s t h k = absurd strict
pair_class Or strict p d e a b x y s t h k = absurd strict
pair_class NotEqual strict p d e a b x y s t h k = compared_class NotEqual a b x y (λ w m v n. (_, refl)) (λ m n. (_, refl)) (λ m n. (_, refl)) (compared_kinds d e a b s t) h k

-- `? :`

left_true : (a b : Bool) → (a && b) ≡ true → a ≡ true
left_true true b e = refl
left_true false b e = absurd (cc e)

right_true : (a b : Bool) → (a && b) ≡ true → b ≡ true
right_true true b e = e
right_true false b e = absurd (cc e)

same_kind : (a b : Kind) → is_same_kind a b ≡ true → is_chosen a ≡ true → a ≡ b
same_kind (bits v) (bits w) is c = ap (λ (n : ℕ). bits n) (eqb-true v w is)
same_kind (bits v) unsized is c = absurd (cc is)
same_kind (bits v) boolean is c = absurd (cc is)
same_kind (bits v) error_code is c = absurd (cc is)
same_kind (bits v) (header type) is c = absurd (cc is)
same_kind (bits v) (stack type size) is c = absurd (cc is)
same_kind (bits v) (struct type) is c = absurd (cc is)
same_kind (bits v) packet_in is c = absurd (cc is)
same_kind (bits v) packet_out is c = absurd (cc is)
same_kind (bits v) errors is c = absurd (cc is)
same_kind (bits v) (enumeration enum) is c = absurd (cc is)
same_kind (bits v) (one_of enum) is c = absurd (cc is)
same_kind (bits v) table is c = absurd (cc is)
same_kind (bits v) applied is c = absurd (cc is)
same_kind (bits v) (object kind) is c = absurd (cc is)
same_kind (bits v) items is c = absurd (cc is)
same_kind (bits v) nothing is c = absurd (cc is)
same_kind (bits v) unknown is c = absurd (cc is)
same_kind unsized b is c = absurd (cc c)
same_kind boolean (bits width) is c = absurd (cc is)
same_kind boolean unsized is c = absurd (cc is)
same_kind boolean boolean is c = refl
same_kind boolean error_code is c = absurd (cc is)
same_kind boolean (header type) is c = absurd (cc is)
same_kind boolean (stack type size) is c = absurd (cc is)
same_kind boolean (struct type) is c = absurd (cc is)
same_kind boolean packet_in is c = absurd (cc is)
same_kind boolean packet_out is c = absurd (cc is)
same_kind boolean errors is c = absurd (cc is)
same_kind boolean (enumeration enum) is c = absurd (cc is)
same_kind boolean (one_of enum) is c = absurd (cc is)
same_kind boolean table is c = absurd (cc is)
same_kind boolean applied is c = absurd (cc is)
same_kind boolean (object kind) is c = absurd (cc is)
same_kind boolean items is c = absurd (cc is)
same_kind boolean nothing is c = absurd (cc is)
same_kind boolean unknown is c = absurd (cc is)
same_kind error_code (bits width) is c = absurd (cc is)
same_kind error_code unsized is c = absurd (cc is)
same_kind error_code boolean is c = absurd (cc is)
same_kind error_code error_code is c = refl
same_kind error_code (header type) is c = absurd (cc is)
same_kind error_code (stack type size) is c = absurd (cc is)
same_kind error_code (struct type) is c = absurd (cc is)
same_kind error_code packet_in is c = absurd (cc is)
same_kind error_code packet_out is c = absurd (cc is)
same_kind error_code errors is c = absurd (cc is)
same_kind error_code (enumeration enum) is c = absurd (cc is)
same_kind error_code (one_of enum) is c = absurd (cc is)
same_kind error_code table is c = absurd (cc is)
same_kind error_code applied is c = absurd (cc is)
same_kind error_code (object kind) is c = absurd (cc is)
same_kind error_code items is c = absurd (cc is)
same_kind error_code nothing is c = absurd (cc is)
same_kind error_code unknown is c = absurd (cc is)
same_kind (header t) (bits width) is c = absurd (cc is)
same_kind (header t) unsized is c = absurd (cc is)
same_kind (header t) boolean is c = absurd (cc is)
same_kind (header t) error_code is c = absurd (cc is)
same_kind (header t) (header u) is c = ap (λ (n : Name). header n) ((bytes_eq-Decides t u).0 is)
same_kind (header t) (stack type size) is c = absurd (cc is)
same_kind (header t) (struct type) is c = absurd (cc is)
same_kind (header t) packet_in is c = absurd (cc is)
same_kind (header t) packet_out is c = absurd (cc is)
same_kind (header t) errors is c = absurd (cc is)
same_kind (header t) (enumeration enum) is c = absurd (cc is)
same_kind (header t) (one_of enum) is c = absurd (cc is)
same_kind (header t) table is c = absurd (cc is)
same_kind (header t) applied is c = absurd (cc is)
same_kind (header t) (object kind) is c = absurd (cc is)
same_kind (header t) items is c = absurd (cc is)
same_kind (header t) nothing is c = absurd (cc is)
same_kind (header t) unknown is c = absurd (cc is)
same_kind (stack t m) (bits width) is c = absurd (cc is)
same_kind (stack t m) unsized is c = absurd (cc is)
same_kind (stack t m) boolean is c = absurd (cc is)
same_kind (stack t m) error_code is c = absurd (cc is)
same_kind (stack t m) (header type) is c = absurd (cc is)
same_kind (stack t m) (stack u n) is c = ap (λ (x : Name). stack x m) ((bytes_eq-Decides t u).0 (left_true (bytes_eq t u) (nat_eq m n) is)) ∙ ap (λ (x : ℕ). stack u x) (eqb-true m n (right_true (bytes_eq t u) (nat_eq m n) is))
same_kind (stack t m) (struct type) is c = absurd (cc is)
same_kind (stack t m) packet_in is c = absurd (cc is)
same_kind (stack t m) packet_out is c = absurd (cc is)
same_kind (stack t m) errors is c = absurd (cc is)
same_kind (stack t m) (enumeration enum) is c = absurd (cc is)
same_kind (stack t m) (one_of enum) is c = absurd (cc is)
same_kind (stack t m) table is c = absurd (cc is)
same_kind (stack t m) applied is c = absurd (cc is)
same_kind (stack t m) (object kind) is c = absurd (cc is)
same_kind (stack t m) items is c = absurd (cc is)
same_kind (stack t m) nothing is c = absurd (cc is)
same_kind (stack t m) unknown is c = absurd (cc is)
same_kind (struct t) (bits width) is c = absurd (cc is)
same_kind (struct t) unsized is c = absurd (cc is)
same_kind (struct t) boolean is c = absurd (cc is)
same_kind (struct t) error_code is c = absurd (cc is)
same_kind (struct t) (header type) is c = absurd (cc is)
same_kind (struct t) (stack type size) is c = absurd (cc is)
same_kind (struct t) (struct u) is c = ap (λ (n : Name). struct n) ((bytes_eq-Decides t u).0 is)
same_kind (struct t) packet_in is c = absurd (cc is)
same_kind (struct t) packet_out is c = absurd (cc is)
same_kind (struct t) errors is c = absurd (cc is)
same_kind (struct t) (enumeration enum) is c = absurd (cc is)
same_kind (struct t) (one_of enum) is c = absurd (cc is)
same_kind (struct t) table is c = absurd (cc is)
same_kind (struct t) applied is c = absurd (cc is)
same_kind (struct t) (object kind) is c = absurd (cc is)
same_kind (struct t) items is c = absurd (cc is)
same_kind (struct t) nothing is c = absurd (cc is)
same_kind (struct t) unknown is c = absurd (cc is)
same_kind packet_in b is c = absurd (cc c)
same_kind packet_out b is c = absurd (cc c)
same_kind errors b is c = absurd (cc c)
same_kind (enumeration enum) b is c = absurd (cc c)
same_kind (one_of enum) b is c = absurd (cc c)
same_kind table b is c = absurd (cc c)
same_kind applied b is c = absurd (cc c)
same_kind (object kind) b is c = absurd (cc c)
same_kind items b is c = absurd (cc c)
same_kind nothing b is c = absurd (cc c)
same_kind unknown b is c = absurd (cc c)

no_member : (types : List TypeLayout) (k : Kind) (word : Name) → OfNumbers k → known_kind (member_kind types k word) ≡ unknown
no_member types (bits width) word of = refl
no_member types unsized word of = refl
no_member types boolean word of = absurd of
no_member types error_code word of = absurd of
no_member types (header type) word of = absurd of
no_member types (stack type size) word of = absurd of
no_member types (struct type) word of = absurd of
no_member types packet_in word of = absurd of
no_member types packet_out word of = absurd of
no_member types errors word of = absurd of
no_member types (enumeration enum) word of = absurd of
no_member types (one_of enum) word of = absurd of
no_member types table word of = absurd of
no_member types applied word of = absurd of
no_member types (object kind) word of = absurd of
no_member types items word of = absurd of
no_member types nothing word of = absurd of
no_member types unknown word of = absurd of

no_element : (k : Kind) → OfNumbers k → element_kind k ≡ unknown
no_element (bits width) of = refl
no_element unsized of = refl
no_element boolean of = absurd of
no_element error_code of = absurd of
no_element (header type) of = absurd of
no_element (stack type size) of = absurd of
no_element (struct type) of = absurd of
no_element packet_in of = absurd of
no_element packet_out of = absurd of
no_element errors of = absurd of
no_element (enumeration enum) of = absurd of
no_element (one_of enum) of = absurd of
no_element table of = absurd of
no_element applied of = absurd of
no_element (object kind) of = absurd of
no_element items of = absurd of
no_element nothing of = absurd of
no_element unknown of = absurd of

-- what is asked of bits is asked of bits of another width
way_number : (types : List TypeLayout) (way : Way) (a b : Kind) (v : Value) → OfNumbers a → OfNumbers b → IsOfClass (way_kind types way a) v → IsOfClass (way_kind types way b) v
way_number types its_value a b v p q h = number_class b v q (class_number a v p h)
way_number types its_validity a b v p q h = h
way_number types (through_member word way) a b v p q h = subst (λ (k : Kind). IsOfClass (way_kind types way k) v) (no_member types a word p ∙ sym (no_member types b word q)) h
way_number types (through_element number way) a b v p q h = subst (λ (k : Kind). IsOfClass (way_kind types way k) v) (no_element a p ∙ sym (no_element b q)) h
way_number types (through_told which way) a b v p q h = subst (λ (k : Kind). IsOfClass (way_kind types way k) v) (no_element a p ∙ sym (no_element b q)) h

joint_way : (types : List TypeLayout) (way : Way) (a b : Kind) (v : Value) → IsOfClass (way_kind types way a) v → IsOfClass (way_kind types way (joint_bits a b)) v
joint_way types way (bits m) (bits n) v h = by_truth (λ (t : Bool). IsOfClass (way_kind types way (cond t (bits m) unknown)) v) h (way_unknown types way (bits m) v h) (nat_eq m n)
joint_way types way (bits m) unsized v h = h
joint_way types way unsized (bits n) v h = way_number types way unsized (bits n) v tt tt h
joint_way types way unsized unsized v h = h
joint_way types way (bits m) boolean v h = way_unknown types way (bits m) v h
joint_way types way (bits m) error_code v h = way_unknown types way (bits m) v h
joint_way types way (bits m) (header type) v h = way_unknown types way (bits m) v h
joint_way types way (bits m) (stack type size) v h = way_unknown types way (bits m) v h
joint_way types way (bits m) (struct type) v h = way_unknown types way (bits m) v h
joint_way types way (bits m) packet_in v h = way_unknown types way (bits m) v h
joint_way types way (bits m) packet_out v h = way_unknown types way (bits m) v h
joint_way types way (bits m) errors v h = way_unknown types way (bits m) v h
joint_way types way (bits m) (enumeration enum) v h = way_unknown types way (bits m) v h
joint_way types way (bits m) (one_of enum) v h = way_unknown types way (bits m) v h
joint_way types way (bits m) table v h = way_unknown types way (bits m) v h
joint_way types way (bits m) applied v h = way_unknown types way (bits m) v h
joint_way types way (bits m) (object kind) v h = way_unknown types way (bits m) v h
joint_way types way (bits m) items v h = way_unknown types way (bits m) v h
joint_way types way (bits m) nothing v h = way_unknown types way (bits m) v h
joint_way types way (bits m) unknown v h = way_unknown types way (bits m) v h
joint_way types way unsized boolean v h = way_unknown types way unsized v h
joint_way types way unsized error_code v h = way_unknown types way unsized v h
joint_way types way unsized (header type) v h = way_unknown types way unsized v h
joint_way types way unsized (stack type size) v h = way_unknown types way unsized v h
joint_way types way unsized (struct type) v h = way_unknown types way unsized v h
joint_way types way unsized packet_in v h = way_unknown types way unsized v h
joint_way types way unsized packet_out v h = way_unknown types way unsized v h
joint_way types way unsized errors v h = way_unknown types way unsized v h
joint_way types way unsized (enumeration enum) v h = way_unknown types way unsized v h
joint_way types way unsized (one_of enum) v h = way_unknown types way unsized v h
joint_way types way unsized table v h = way_unknown types way unsized v h
joint_way types way unsized applied v h = way_unknown types way unsized v h
joint_way types way unsized (object kind) v h = way_unknown types way unsized v h
joint_way types way unsized items v h = way_unknown types way unsized v h
joint_way types way unsized nothing v h = way_unknown types way unsized v h
joint_way types way unsized unknown v h = way_unknown types way unsized v h
joint_way types way boolean b v h = way_unknown types way boolean v h
joint_way types way error_code b v h = way_unknown types way error_code v h
joint_way types way (header type) b v h = way_unknown types way (header type) v h
joint_way types way (stack type size) b v h = way_unknown types way (stack type size) v h
joint_way types way (struct type) b v h = way_unknown types way (struct type) v h
joint_way types way packet_in b v h = way_unknown types way packet_in v h
joint_way types way packet_out b v h = way_unknown types way packet_out v h
joint_way types way errors b v h = way_unknown types way errors v h
joint_way types way (enumeration enum) b v h = way_unknown types way (enumeration enum) v h
joint_way types way (one_of enum) b v h = way_unknown types way (one_of enum) v h
joint_way types way table b v h = way_unknown types way table v h
joint_way types way applied b v h = way_unknown types way applied v h
joint_way types way (object kind) b v h = way_unknown types way (object kind) v h
joint_way types way items b v h = way_unknown types way items v h
joint_way types way nothing b v h = way_unknown types way nothing v h
joint_way types way unknown b v h = way_unknown types way unknown v h

joint_way_back : (types : List TypeLayout) (way : Way) (a b : Kind) (v : Value) → IsOfClass (way_kind types way b) v → IsOfClass (way_kind types way (joint_bits a b)) v
joint_way_back types way (bits m) (bits n) v h = by_truth (λ (t : Bool). IsOfClass (way_kind types way (cond t (bits m) unknown)) v) (way_number types way (bits n) (bits m) v tt tt h) (way_unknown types way (bits n) v h) (nat_eq m n)
joint_way_back types way (bits m) unsized v h = way_number types way unsized (bits m) v tt tt h
joint_way_back types way unsized (bits n) v h = h
joint_way_back types way unsized unsized v h = h
joint_way_back types way (bits m) boolean v h = way_unknown types way boolean v h
joint_way_back types way (bits m) error_code v h = way_unknown types way error_code v h
joint_way_back types way (bits m) (header type) v h = way_unknown types way (header type) v h
joint_way_back types way (bits m) (stack type size) v h = way_unknown types way (stack type size) v h
joint_way_back types way (bits m) (struct type) v h = way_unknown types way (struct type) v h
joint_way_back types way (bits m) packet_in v h = way_unknown types way packet_in v h
joint_way_back types way (bits m) packet_out v h = way_unknown types way packet_out v h
joint_way_back types way (bits m) errors v h = way_unknown types way errors v h
joint_way_back types way (bits m) (enumeration enum) v h = way_unknown types way (enumeration enum) v h
joint_way_back types way (bits m) (one_of enum) v h = way_unknown types way (one_of enum) v h
joint_way_back types way (bits m) table v h = way_unknown types way table v h
joint_way_back types way (bits m) applied v h = way_unknown types way applied v h
joint_way_back types way (bits m) (object kind) v h = way_unknown types way (object kind) v h
joint_way_back types way (bits m) items v h = way_unknown types way items v h
joint_way_back types way (bits m) nothing v h = way_unknown types way nothing v h
joint_way_back types way (bits m) unknown v h = way_unknown types way unknown v h
joint_way_back types way unsized boolean v h = way_unknown types way boolean v h
joint_way_back types way unsized error_code v h = way_unknown types way error_code v h
joint_way_back types way unsized (header type) v h = way_unknown types way (header type) v h
joint_way_back types way unsized (stack type size) v h = way_unknown types way (stack type size) v h
joint_way_back types way unsized (struct type) v h = way_unknown types way (struct type) v h
joint_way_back types way unsized packet_in v h = way_unknown types way packet_in v h
joint_way_back types way unsized packet_out v h = way_unknown types way packet_out v h
joint_way_back types way unsized errors v h = way_unknown types way errors v h
joint_way_back types way unsized (enumeration enum) v h = way_unknown types way (enumeration enum) v h
joint_way_back types way unsized (one_of enum) v h = way_unknown types way (one_of enum) v h
joint_way_back types way unsized table v h = way_unknown types way table v h
joint_way_back types way unsized applied v h = way_unknown types way applied v h
joint_way_back types way unsized (object kind) v h = way_unknown types way (object kind) v h
joint_way_back types way unsized items v h = way_unknown types way items v h
joint_way_back types way unsized nothing v h = way_unknown types way nothing v h
joint_way_back types way unsized unknown v h = way_unknown types way unknown v h
joint_way_back types way boolean b v h = way_unknown types way b v h
joint_way_back types way error_code b v h = way_unknown types way b v h
joint_way_back types way (header type) b v h = way_unknown types way b v h
joint_way_back types way (stack type size) b v h = way_unknown types way b v h
joint_way_back types way (struct type) b v h = way_unknown types way b v h
joint_way_back types way packet_in b v h = way_unknown types way b v h
joint_way_back types way packet_out b v h = way_unknown types way b v h
joint_way_back types way errors b v h = way_unknown types way b v h
joint_way_back types way (enumeration enum) b v h = way_unknown types way b v h
joint_way_back types way (one_of enum) b v h = way_unknown types way b v h
joint_way_back types way table b v h = way_unknown types way b v h
joint_way_back types way applied b v h = way_unknown types way b v h
joint_way_back types way (object kind) b v h = way_unknown types way b v h
joint_way_back types way items b v h = way_unknown types way b v h
joint_way_back types way nothing b v h = way_unknown types way b v h
joint_way_back types way unknown b v h = way_unknown types way b v h

pub first_way : (types : List TypeLayout) (way : Way) (a b : Kind) (v : Value) → IsOfClass (way_kind types way a) v → IsOfClass (way_kind types way (same_choice a b)) v
first_way types way a b v h = by (is_same_kind a b) where
  chosen : (t : Bool) → IsOfClass (way_kind types way (cond t a unknown)) v
  chosen true = h
  chosen false = way_unknown types way a v h

  by : (t : Bool) → IsOfClass (way_kind types way (cond t (cond (is_chosen a) a unknown) (joint_bits a b))) v
  by true = chosen (is_chosen a)
  by false = joint_way types way a b v h

pub second_way : (types : List TypeLayout) (way : Way) (a b : Kind) (v : Value) → IsOfClass (way_kind types way b) v → IsOfClass (way_kind types way (same_choice a b)) v
second_way types way a b v h = by (is_same_kind a b) refl where
  chosen : (t : Bool) → is_same_kind a b ≡ true → is_chosen a ≡ t → IsOfClass (way_kind types way (cond t a unknown)) v
  chosen true same c = subst (λ (k : Kind). IsOfClass (way_kind types way k) v) (sym (same_kind a b same c)) h
  chosen false same c = way_unknown types way b v h

  by : (t : Bool) → is_same_kind a b ≡ t → IsOfClass (way_kind types way (cond t (cond (is_chosen a) a unknown) (joint_bits a b))) v
  by true same = chosen (is_chosen a) same refl
  by false same = joint_way_back types way a b v h

-- what is judged in an expression is kept in its parts

pub rest_keeps : (x : Use) (xs : List Use) → KeepsAll (x ∷ xs) → KeepsAll xs
rest_keeps x xs keeps = (second_false (is_mistyped x) (list_any is_mistyped xs) keeps.0, second_false (leaves_size x) (list_any leaves_size xs) keeps.1)

-- what an end that is given tells of the value that the meaning has
value_given : (end : Ended) (x : Valued) (m : Moment) (v : Value) → Gives end its_value x m → end ≡ given v → (x.value ≡ v) × (x.moment ≡ m)
value_given end x m v (inl h) is = let same : x.value ≡ v = cc (h.1, is) in (same, h.0)
value_given end x m v (inr h) is = absurd (cc (h.2, is))

module _ (syntax : Syntax16) (c : Cells) (w : World) (s : Scope) (who : InScope) (m : Moment) (accepted : BreaksNone syntax program_rules) (is : IsFrameOf syntax c) (layouts : s.layouts ≡ layouts_of syntax.decls) (frame : m.frame ≡ frame_in who (numbered16 syntax c)) (runs : m.stopped ≡ None) (seated : NamesSeated s (seats_in syntax w.around.roots who)) (fine : Fine s) where
  abbrev seats : List NamedSeat
  seats = seats_in syntax w.around.roots who

  abbrev ClassAt : Way → Kind → Ready → Type 0
  ClassAt way k r = (v : Value) → ready_value c m.unparsed r ≡ given v → IsOfClass (way_kind s.layouts way k) v

  narrow : TypesNarrow s.layouts
  narrow = subst TypesNarrow (sym layouts) (accepted_narrow syntax accepted).0

  gives : (p q : Place) (e : Exp16) → Keeps s q e → IfSome (ready_of_exp s seats p e) (λ r. Gives (ready_value c m.unparsed r) its_value (value_of w s p e m) m)
  gives p q e keeps = judged_gives syntax c w s who m p q its_value e accepted is layouts frame runs seated keeps

  name_stands : (text : Name) → IfSome (seat_of_name seats text) (λ t. Stands c.layout s.layouts t)
  name_stands text =
      subst (λ (l : List TypeLayout). IfSome (seat_of_name seats text) (λ t. Stands c.layout l t)) (sym layouts)
      (if_more (At c (layouts_of syntax.decls) _) (λ t. Stands c.layout (layouts_of syntax.decls) t) (seat_of_name seats text) (λ t h. h.1) (name_at syntax c w who text is.layout (accepted_narrow syntax accepted).2))

  name_forms : (text : Name) → IfSome (seat_of_name seats text) (λ t. FormIs s.layouts (kind_of s (name text)) t.form)
  name_forms text = by (seat_of_name seats text) (seated text) where
    by : (o : Option Seat) → SortSeated (sort_of s text) o → IfSome o (λ t. FormIs s.layouts (sort_kind (sort_of s text)) t.form)
    by None h = tt
    by (Some t) h = sort_form s.layouts (sort_of s text) t h (fine.names text)

  literal_class : (p : Place) (width : Option ℕ) (number : ℕ) (v : Value) → given (literal_number p (record { width = width; value = number })) ≡ given v → IsOfClass (kind_of s (literal (record { width = width; value = number }))) v
  literal_class p (Some width) number v e = of_number width (number % 2 ^ width) v e
  literal_class p None number v e = of_number _ _ v e

  -- two operands that gave values
  pair_by : (operator : BinaryOperator) (p : Place) (d e : Exp16) (ra rb : Ready) (A B : Ended) → ready_value c m.unparsed ra ≡ A → ready_value c m.unparsed rb ≡ B
      → value_of w s p (binary operator d e) m ≡ record { value = binary_value operator (value_of w s (left_place p operator (kind_of s d) (kind_of s e)) d m).value (value_of w s (right_place p operator (kind_of s d) (kind_of s e)) e (value_of w s (left_place p operator (kind_of s d) (kind_of s e)) d m).moment).value; moment = (value_of w s (right_place p operator (kind_of s d) (kind_of s e)) e (value_of w s (left_place p operator (kind_of s d) (kind_of s e)) d m).moment).moment }
      → ((x y : Value) → IsOfClass (kind_of s d) x → IsOfClass (kind_of s e) y → IsOfClass (binary_kind operator (kind_of s d) (kind_of s e)) (binary_value operator x y))
      → Gives (and_then A (λ x. and_then B (λ y. given (pair_value operator x y)))) its_value (value_of w s p (binary operator d e) m) m
      → Gives A its_value (value_of w s (left_place p operator (kind_of s d) (kind_of s e)) d m) m → Gives B its_value (value_of w s (right_place p operator (kind_of s d) (kind_of s e)) e m) m
      → ClassAt its_value (kind_of s d) ra → ClassAt its_value (kind_of s e) rb → (v : Value) → and_then A (λ x. and_then B (λ y. given (pair_value operator x y))) ≡ given v → IsOfClass (binary_kind operator (kind_of s d) (kind_of s e)) v
  pair_by operator p d e ra rb (failed f) B sa sb means pairs whole left right ca cb v g = absurd (cc g)
  pair_by operator p d e ra rb (given x) (failed f) sa sb means pairs whole left right ca cb v g = absurd (cc g)
  pair_by operator p d e ra rb (given x) (given y) sa sb means pairs whole left right ca cb v g =
      let l = left_place p operator (kind_of s d) (kind_of s e) in
      let r = right_place p operator (kind_of s d) (kind_of s e) in
      let first = value_given (given x) (value_of w s l d m) m x left refl in
      let second = value_given (given y) (value_of w s r e m) m y right refl in
      let all = value_given (given (pair_value operator x y)) (value_of w s p (binary operator d e) m) m v whole g in
      subst (IsOfClass (binary_kind operator (kind_of s d) (kind_of s e)))
      (ap (λ (u : Value). binary_value operator u y) (sym first.0)
      ∙ (ap (λ (u : Value). binary_value operator (value_of w s l d m).value u) (sym second.0)
      ∙ (ap (λ (n : Moment). binary_value operator (value_of w s l d m).value (value_of w s r e n).value) (sym first.1)
      ∙ (sym (ap (λ (u : Valued). u.value) means) ∙ all.0))))
      (pairs x y (ca x sa) (cb y sb))

  -- `&&` and `||`
  truth_by : (A B : Ended) (ra rb : Ready) (v : Value) (f : Bool → Bool) → ready_value c m.unparsed ra ≡ A → ready_value c m.unparsed rb ≡ B → ClassAt its_value boolean ra → ClassAt its_value boolean rb → and_then A (λ x. cond (f (is_true x)) B (given x)) ≡ given v → IsTruth v
  truth_by (failed e) B ra rb v f sa sb ca cb g = absurd (cc g)
  truth_by (given x) B ra rb v f sa sb ca cb g = by (f (is_true x)) g where
    by : (t : Bool) → cond t B (given x) ≡ given v → IsTruth v
    by true e = cb v (sb ∙ e)
    by false e = ca v (sa ∙ e)

  or_by : (A B : Ended) (ra rb : Ready) (v : Value) → ready_value c m.unparsed ra ≡ A → ready_value c m.unparsed rb ≡ B → ClassAt its_value boolean ra → ClassAt its_value boolean rb → and_then A (λ x. cond (is_true x) (given x) B) ≡ given v → IsTruth v
  or_by (failed e) B ra rb v sa sb ca cb g = absurd (cc g)
  or_by (given x) B ra rb v sa sb ca cb g = by (is_true x) g where
    by : (t : Bool) → cond t (given x) B ≡ given v → IsTruth v
    by true e = ca v (sa ∙ e)
    by false e = cb v (sb ∙ e)

  -- one of two
  choice_by : (way : Way) (k : Kind) (A : Ended) (ra rb : Ready) (v : Value) → (ready_value c m.unparsed ra ≡ given v → IsOfClass k v) → (ready_value c m.unparsed rb ≡ given v → IsOfClass k v) → and_then A (λ x. cond (is_true x) (ready_value c m.unparsed ra) (ready_value c m.unparsed rb)) ≡ given v → IsOfClass k v
  choice_by way k (failed e) ra rb v f g h = absurd (cc h)
  choice_by way k (given x) ra rb v f g h = by (is_true x) h where
    by : (t : Bool) → cond t (ready_value c m.unparsed ra) (ready_value c m.unparsed rb) ≡ given v → IsOfClass k v
    by true e = f e
    by false e = g e

  abbrev Classes : Exp16 → Type 0
  Classes e = (p q : Place) (way : Way) → Keeps s q e → IfSome (asked_ready s seats p way e) (ClassAt way (kind_of s e))

  both_keep : (q : Place) (d e : Exp16) (o : BinaryOperator) → Keeps s q (binary o d e) → Keeps s (left_place q o (kind_of s d) (kind_of s e)) d × Keeps s (right_place q o (kind_of s d) (kind_of s e)) e
  both_keep q d e o k =
      let l = uses_at s (one (left_place q o (kind_of s d) (kind_of s e))) d in
      let r = uses_at s (one (right_place q o (kind_of s d) (kind_of s e))) e in
      let all : KeepsAll (l ++ r) = rest_keeps (an_expression s q (binary o d e)) (l ++ r) k in
      (front l r all, back l r all)

  abbrev Given : Place → Exp16 → Ready → Type 0
  Given p e z = Gives (ready_value c m.unparsed z) its_value (value_of w s p e m) m

  all_three : (p q : Place) (d e : Exp16) (o : BinaryOperator) → ((x y : Value) → IsOfClass (kind_of s d) x → IsOfClass (kind_of s e) y → IsOfClass (binary_kind o (kind_of s d) (kind_of s e)) (binary_value o x y)) → ((x : Ready) (y : Ready) → binary_ready o x y ≡ ready.binary o x y)
      → value_of w s p (binary o d e) m ≡ record { value = binary_value o (value_of w s (left_place p o (kind_of s d) (kind_of s e)) d m).value (value_of w s (right_place p o (kind_of s d) (kind_of s e)) e (value_of w s (left_place p o (kind_of s d) (kind_of s e)) d m).moment).value; moment = (value_of w s (right_place p o (kind_of s d) (kind_of s e)) e (value_of w s (left_place p o (kind_of s d) (kind_of s e)) d m).moment).moment }
      → (x y : Option Ready) → IfSome x (ClassAt its_value (kind_of s d)) → IfSome y (ClassAt its_value (kind_of s e)) → IfSome x (Given (left_place p o (kind_of s d) (kind_of s e)) d) → IfSome y (Given (right_place p o (kind_of s d) (kind_of s e)) e) → IfSome (with_two (binary_ready o) x y) (Given p (binary o d e)) → IfSome (with_two (binary_ready o) x y) (ClassAt its_value (binary_kind o (kind_of s d) (kind_of s e)))
  all_three p q d e o pairs same means None None a b i j t = tt
  all_three p q d e o pairs same means None (Some y) a b i j t = tt
  all_three p q d e o pairs same means (Some x) None a b i j t = tt
  all_three p q d e o pairs same means (Some x) (Some y) a b i j t =
      subst (ClassAt its_value (binary_kind o (kind_of s d) (kind_of s e))) (sym (same x y))
      (λ v h. pair_by o p d e x y (ready_value c m.unparsed x) (ready_value c m.unparsed y) refl refl means pairs
      (subst (Given p (binary o d e)) (same x y) t) i j a b v h)

  pair_with : (p q : Place) (d e : Exp16) (o : BinaryOperator) → Classes d → Classes e → ((x y : Value) → takes (left_place q o (kind_of s d) (kind_of s e)) d (kind_of s d) ≡ true → takes (right_place q o (kind_of s d) (kind_of s e)) e (kind_of s e) ≡ true → IsOfClass (kind_of s d) x → IsOfClass (kind_of s e) y → IsOfClass (binary_kind o (kind_of s d) (kind_of s e)) (binary_value o x y))
      → ((x : Ready) (y : Ready) → binary_ready o x y ≡ ready.binary o x y)
      → value_of w s p (binary o d e) m ≡ record { value = binary_value o (value_of w s (left_place p o (kind_of s d) (kind_of s e)) d m).value (value_of w s (right_place p o (kind_of s d) (kind_of s e)) e (value_of w s (left_place p o (kind_of s d) (kind_of s e)) d m).moment).value; moment = (value_of w s (right_place p o (kind_of s d) (kind_of s e)) e (value_of w s (left_place p o (kind_of s d) (kind_of s e)) d m).moment).moment }
      → Keeps s q (binary o d e) → IfSome (with_two (binary_ready o) (ready_of_exp s seats (left_place p o (kind_of s d) (kind_of s e)) d) (ready_of_exp s seats (right_place p o (kind_of s d) (kind_of s e)) e)) (Given p (binary o d e)) → IfSome (with_two (binary_ready o) (ready_of_exp s seats (left_place p o (kind_of s d) (kind_of s e)) d) (ready_of_exp s seats (right_place p o (kind_of s d) (kind_of s e)) e)) (ClassAt its_value (binary_kind o (kind_of s d) (kind_of s e)))
  pair_with p q d e o f g pairs same means k whole =
      let l = left_place p o (kind_of s d) (kind_of s e) in
      let r = right_place p o (kind_of s d) (kind_of s e) in
      let x = left_place q o (kind_of s d) (kind_of s e) in
      let y = right_place q o (kind_of s d) (kind_of s e) in
      let two = both_keep q d e o k in
      all_three p q d e o (λ u v cu cv. pairs u v (taken s x d two.0.0) (taken s y e two.1.0) cu cv) same means (ready_of_exp s seats l d) (ready_of_exp s seats r e) (f l x its_value two.0) (g r y its_value two.1) (gives l x d two.0) (gives r y e two.1) whole

  truth_with : (d e : Exp16) (o : BinaryOperator) → Classes d → Classes e → ((x y : Ready) → ClassAt its_value boolean x → ClassAt its_value boolean y → ClassAt its_value boolean (binary_ready o x y)) → Keeps s (value boolean) d → Keeps s (value boolean) e → IfSome (with_two (binary_ready o) (ready_of_exp s seats (value boolean) d) (ready_of_exp s seats (value boolean) e)) (ClassAt its_value boolean)
  truth_with d e o f g made kd ke =
      let sd : kind_of s d ≡ boolean = truth_only d (kind_of s d) (taken s (value boolean) d kd.0) in
      let se : kind_of s e ≡ boolean = truth_only e (kind_of s e) (taken s (value boolean) e ke.0) in
      if_two (ClassAt its_value (kind_of s d)) (ClassAt its_value (kind_of s e)) (ClassAt its_value boolean) (binary_ready o) (ready_of_exp s seats (value boolean) d) (ready_of_exp s seats (value boolean) e)
      (λ x y a b. made x y (subst (λ (j : Kind). ClassAt its_value j x) sd a) (subst (λ (j : Kind). ClassAt its_value j y) se b))
      (f (value boolean) (value boolean) its_value kd) (g (value boolean) (value boolean) its_value ke)

  two_classes : (o : BinaryOperator) (p q : Place) (d e : Exp16) → Classes d → Classes e → Keeps s q (binary o d e) → IfSome (with_two (binary_ready o) (ready_of_exp s seats (left_place p o (kind_of s d) (kind_of s e)) d) (ready_of_exp s seats (right_place p o (kind_of s d) (kind_of s e)) e)) (Given p (binary o d e)) → IfSome (with_two (binary_ready o) (ready_of_exp s seats (left_place p o (kind_of s d) (kind_of s e)) d) (ready_of_exp s seats (right_place p o (kind_of s d) (kind_of s e)) e)) (ClassAt its_value (binary_kind o (kind_of s d) (kind_of s e)))
  two_classes Multiply p q d e f g k whole = pair_with p q d e Multiply f g (λ x y v u a b. pair_class Multiply tt q d e (kind_of s d) (kind_of s e) x y v u a b) (λ x y. refl) refl k whole
  two_classes Add p q d e f g k whole = pair_with p q d e Add f g (λ x y v u a b. pair_class Add tt q d e (kind_of s d) (kind_of s e) x y v u a b) (λ x y. refl) refl k whole
  two_classes Subtract p q d e f g k whole = pair_with p q d e Subtract f g (λ x y v u a b. pair_class Subtract tt q d e (kind_of s d) (kind_of s e) x y v u a b) (λ x y. refl) refl k whole
  two_classes SaturatingAdd p q d e f g k whole = pair_with p q d e SaturatingAdd f g (λ x y v u a b. pair_class SaturatingAdd tt q d e (kind_of s d) (kind_of s e) x y v u a b) (λ x y. refl) refl k whole
  two_classes SaturatingSubtract p q d e f g k whole = pair_with p q d e SaturatingSubtract f g (λ x y v u a b. pair_class SaturatingSubtract tt q d e (kind_of s d) (kind_of s e) x y v u a b) (λ x y. refl) refl k whole
  two_classes Concatenate p q d e f g k whole = pair_with p q d e Concatenate f g (λ x y v u a b. pair_class Concatenate tt q d e (kind_of s d) (kind_of s e) x y v u a b) (λ x y. refl) refl k whole
  two_classes ShiftLeft p q d e f g k whole = pair_with p q d e ShiftLeft f g (λ x y v u a b. pair_class ShiftLeft tt q d e (kind_of s d) (kind_of s e) x y v u a b) (λ x y. refl) refl k whole
  two_classes ShiftRight p q d e f g k whole = pair_with p q d e ShiftRight f g (λ x y v u a b. pair_class ShiftRight tt q d e (kind_of s d) (kind_of s e) x y v u a b) (λ x y. refl) refl k whole
  two_classes BitAnd p q d e f g k whole = pair_with p q d e BitAnd f g (λ x y v u a b. pair_class BitAnd tt q d e (kind_of s d) (kind_of s e) x y v u a b) (λ x y. refl) refl k whole
  two_classes BitXor p q d e f g k whole = pair_with p q d e BitXor f g (λ x y v u a b. pair_class BitXor tt q d e (kind_of s d) (kind_of s e) x y v u a b) (λ x y. refl) refl k whole
  two_classes BitOr p q d e f g k whole = pair_with p q d e BitOr f g (λ x y v u a b. pair_class BitOr tt q d e (kind_of s d) (kind_of s e) x y v u a b) (λ x y. refl) refl k whole
  two_classes Less p q d e f g k whole = pair_with p q d e Less f g (λ x y v u a b. pair_class Less tt q d e (kind_of s d) (kind_of s e) x y v u a b) (λ x y. refl) refl k whole
  two_classes LessEqual p q d e f g k whole = pair_with p q d e LessEqual f g (λ x y v u a b. pair_class LessEqual tt q d e (kind_of s d) (kind_of s e) x y v u a b) (λ x y. refl) refl k whole
  two_classes Greater p q d e f g k whole = pair_with p q d e Greater f g (λ x y v u a b. pair_class Greater tt q d e (kind_of s d) (kind_of s e) x y v u a b) (λ x y. refl) refl k whole
  two_classes GreaterEqual p q d e f g k whole = pair_with p q d e GreaterEqual f g (λ x y v u a b. pair_class GreaterEqual tt q d e (kind_of s d) (kind_of s e) x y v u a b) (λ x y. refl) refl k whole
  two_classes Equal p q d e f g k whole = pair_with p q d e Equal f g (λ x y v u a b. pair_class Equal tt q d e (kind_of s d) (kind_of s e) x y v u a b) (λ x y. refl) refl k whole
  two_classes NotEqual p q d e f g k whole = pair_with p q d e NotEqual f g (λ x y v u a b. pair_class NotEqual tt q d e (kind_of s d) (kind_of s e) x y v u a b) (λ x y. refl) refl k whole
  two_classes And p q d e f g k whole = let two = both_keep q d e And k in truth_with d e And f g (λ x y a b v h. truth_by (ready_value c m.unparsed x) (ready_value c m.unparsed y) x y v (λ u. u) refl refl a b h) two.0 two.1
  two_classes Or p q d e f g k whole = let two = both_keep q d e Or k in truth_with d e Or f g (λ x y a b v h. or_by (ready_value c m.unparsed x) (ready_value c m.unparsed y) x y v refl refl a b h) two.0 two.1

  -- what is asked of an operator but its value is none
  alone_class : (way : Way) (k : Kind) (o : Option Ready) → IfSome o (ClassAt its_value k) → IfSome (alone way o) (ClassAt way k)
  alone_class its_value k o h = h
  alone_class its_validity k o h = tt
  alone_class (through_member word way) k o h = tt
  alone_class (through_element number way) k o h = tt
  alone_class (through_told which way) k o h = tt

  alone_given : (p q : Place) (o : BinaryOperator) (d e : Exp16) → Keeps s q (binary o d e) → IfSome (with_two (binary_ready o) (ready_of_exp s seats (left_place p o (kind_of s d) (kind_of s e)) d) (ready_of_exp s seats (right_place p o (kind_of s d) (kind_of s e)) e)) (Given p (binary o d e))
  alone_given p q o d e k = gives p q (binary o d e) k

  pub classes : (e : Exp16) → Classes e
  classes (literal n) p q way keeps = alone_class way (kind_of s (literal n)) (Some (ready.constant (literal_number p n))) (λ v h. literal_class p n.width n.value v h)
  classes (truth holds) p q way keeps = alone_class way boolean (Some (ready.constant (a_truth holds))) (λ v h. of_truth holds v h)
  classes error p q way keeps = tt
  classes (name text) p q way keeps = name_class s.layouts fine.members c m.unparsed narrow is.whole way (kind_of s (name text)) (seat_of_name seats text) (name_forms text) (name_stands text)
  classes (member e word) p q way keeps =
      let r = owner_place q (method_signature (kind_of s e) word) in
      member_class s.layouts fine.members c m.unparsed narrow is.whole (kind_of s e) e word way (λ further. asked_ready s seats owner further e)
      (λ further. classes e owner r further (rest_keeps (an_expression s q (member e word)) (uses_at s (one r) e) keeps))
  classes (index e at) p q way keeps =
      classes e a_stack a_stack (through_element at.value way) (rest_keeps (a_judged_number at) (uses_at s (one a_stack) e) (rest_keeps (an_expression s q (index e at)) (a_judged_number at ∷ uses_at s (one a_stack) e) keeps))
  classes (slice e high low) p q way keeps =
      alone_class way (kind_of s (slice e high low)) (option_map (slice_ready high low) (ready_of_exp s seats any_bits e))
      (if_map (λ r. Unit {0}) (ClassAt its_value (kind_of s (slice e high low))) (slice_ready high low) (ready_of_exp s seats any_bits e)
      (λ r h v g. slice_class s.layouts fine.members c m.unparsed narrow is.whole (kind_of s e) high low v (sliced_number s.layouts fine.members c m.unparsed narrow is.whole low.value (suc high.value - low.value) (ready_value c m.unparsed r) v g))
      (always (λ r. Unit {0}) (ready_of_exp s seats any_bits e) (λ r. tt)))
  classes (call (member e word) handed) p q way keeps =
      let f = member e word in
      let r = owner_place callee (method_signature (kind_of s e) word) in
      let arguments = uses_at s (many (wanted_by (signature_of s f)) unasked) handed in
      method_class s.layouts fine.members c m.unparsed narrow is.whole (kind_of s e) word way (λ further. asked_ready s seats owner further e)
      (λ further. classes e owner r further (rest_keeps (an_expression s callee f) (uses_at s (one r) e) (front (uses_at s (one callee) f) arguments (rest_keeps (an_expression s q (call f handed)) (uses_at s (one callee) f ++ arguments) keeps))))
  classes (call (literal n) handed) p q way keeps = tt
  classes (call (truth holds) handed) p q way keeps = tt
  classes (call error handed) p q way keeps = tt
  classes (call (name text) handed) p q way keeps = tt
  classes (call (index e at) handed) p q way keeps = tt
  classes (call (slice e high low) handed) p q way keeps = tt
  classes (call (call h other) handed) p q way keeps = tt
  classes (call (lookahead e to other) handed) p q way keeps = tt
  classes (call (cast to e) handed) p q way keeps = tt
  classes (call (unary operator e) handed) p q way keeps = tt
  classes (call (binary operator a b) handed) p q way keeps = tt
  classes (call (choice d a b) handed) p q way keeps = tt
  classes (call (parenthesized e) handed) p q way keeps = tt
  classes (call no_arguments handed) p q way keeps = tt
  classes (call (argument before last) handed) p q way keeps = tt
  classes (call (listed es) handed) p q way keeps = tt
  classes (lookahead e to handed) p q way keeps = alone_class way (kind_of s (lookahead e to handed)) (lookahead_ready (kind_of_type s.names to)) (ahead_class s.layouts fine.members c m.unparsed narrow is.whole (kind_of s e) (kind_of_type s.names to))
  classes (cast to e) p q way keeps =
      let inner : Keeps s (cast_place to) e = back (cast_numbers to) (uses_at s (one (cast_place to)) e) (rest_keeps (an_expression s q (cast to e)) (cast_numbers to ++ uses_at s (one (cast_place to)) e) keeps) in
      alone_class way (cast_kind to) (option_map (cast_ready to) (ready_of_exp s seats (cast_place to) e))
      (if_map (ClassAt its_value (kind_of s e)) (ClassAt its_value (cast_kind to)) (cast_ready to) (ready_of_exp s seats (cast_place to) e)
      (λ r h. cast_class s.layouts fine.members c m.unparsed narrow is.whole to e (kind_of s e) r (taken s (cast_place to) e inner.0) h)
      (classes e (cast_place to) (cast_place to) its_value inner))
  classes (unary operator e) p q way keeps =
      let inner : Keeps s (unary_place q operator (kind_of s e)) e = rest_keeps (an_expression s q (unary operator e)) (uses_at s (one (unary_place q operator (kind_of s e))) e) keeps in
      alone_class way (unary_kind operator (kind_of s e)) (option_map (ready.unary operator) (ready_of_exp s seats (unary_place p operator (kind_of s e)) e))
      (if_map (ClassAt its_value (kind_of s e)) (ClassAt its_value (unary_kind operator (kind_of s e))) (ready.unary operator) (ready_of_exp s seats (unary_place p operator (kind_of s e)) e)
      (λ r h. unary_class s.layouts fine.members c m.unparsed narrow is.whole operator q e (kind_of s e) r (taken s (unary_place q operator (kind_of s e)) e inner.0) h)
      (classes e (unary_place p operator (kind_of s e)) (unary_place q operator (kind_of s e)) its_value inner))
  classes (binary operator d e) p q way keeps =
      alone_class way (binary_kind operator (kind_of s d) (kind_of s e)) (with_two (binary_ready operator) (ready_of_exp s seats (left_place p operator (kind_of s d) (kind_of s e)) d) (ready_of_exp s seats (right_place p operator (kind_of s d) (kind_of s e)) e))
      (two_classes operator p q d e (classes d) (classes e) keeps (alone_given p q operator d e keeps))
  classes (choice x d e) p q way keeps =
      let r = chosen_place p (kind_of s d) (kind_of s e) in
      let k = chosen_place q (kind_of s d) (kind_of s e) in
      let a = uses_at s (one (value boolean)) x in
      let b = uses_at s (one k) d in
      let h = uses_at s (one k) e in
      let all : KeepsAll ((a ++ b) ++ h) = rest_keeps (an_expression s q (choice x d e)) ((a ++ b) ++ h) keeps in
      let first : KeepsAll (a ++ b) = front (a ++ b) h all in
      if_three (λ y. Unit {0}) (ClassAt way (kind_of s d)) (ClassAt way (kind_of s e)) (ClassAt way (same_choice (kind_of s d) (kind_of s e))) ready.choice (ready_of_exp s seats (value boolean) x) (asked_ready s seats r way d) (asked_ready s seats r way e)
      (λ y u z g cu cz v given_is. choice_by way (way_kind s.layouts way (same_choice (kind_of s d) (kind_of s e))) (ready_value c m.unparsed y) u z v (λ i. first_way s.layouts way (kind_of s d) (kind_of s e) v (cu v i)) (λ i. second_way s.layouts way (kind_of s d) (kind_of s e) v (cz v i)) given_is)
      (always (λ y. Unit {0}) (ready_of_exp s seats (value boolean) x) (λ y. tt)) (classes d r k way (back a b first)) (classes e r k way (back (a ++ b) h all))
  classes (parenthesized e) p q way keeps = tt
  classes no_arguments p q way keeps = tt
  classes (argument before last) p q way keeps = tt
  classes (listed es) p q way keeps = tt

pub values_of_classes : ValuesOfClasses
values_of_classes syntax c w s who m p q e accepted is layouts frame runs seated fine keeps = classes syntax c w s who m accepted is layouts frame runs seated fine e p q its_value keeps
