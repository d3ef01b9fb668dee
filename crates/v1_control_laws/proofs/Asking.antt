-- Tests in which tables are applied tell the values of expressions.
use Rattle.std.proofs.Common.{◌≡◌, inl, inr, ℕ, ◌<◌, ◌≤◌, suc, ◌-◌, nat_lt, Bool, true, false, cond, not, ◌||◌, codes, Option, Some, None, IfSome, option_map, List, [], ◌∷◌, ◌++◌, refl, sym, ap, ◌∙◌, subst, arith, bytes_eq}
use Rattle.std.specs.List.{list_any}
use Rattle.std.proofs.lemmas.Slice.Eq.{bytes_eq-Decides}
use Rattle.std.proofs.lemmas.Bool.{ltb-false}
use Rattle.p416_syntax.specs.declared.lexeme.Literal16.{Literal16}
use Rattle.p416_syntax.specs.declared.node.CastType.{CastType}
use Rattle.p416_syntax.specs.declared.node.CastType.TheVariants as cast_to
use Rattle.p416_syntax.specs.declared.node.UnaryOperator.{UnaryOperator}
use Rattle.p416_syntax.specs.declared.node.BinaryOperator.{BinaryOperator}
use Rattle.p416_syntax.specs.declared.node.BinaryOperator.TheVariants.{Multiply, Add, Subtract, SaturatingAdd, SaturatingSubtract, Concatenate, ShiftLeft, ShiftRight, BitAnd, BitXor, BitOr, Less, LessEqual, Greater, GreaterEqual, Equal, NotEqual, And, Or}
use Rattle.p416_syntax.specs.Tree.{Exp16, literal, truth, error, name, member, index, slice, call, lookahead, cast, unary, binary, choice, parenthesized, no_arguments, argument, listed}
use Rattle.p416_syntax.specs.Names.{Name}
use Rattle.p416_syntax.specs.Kinds.{ObjectKind, counter, direct_counter, register, meter, Kind, bits, unsized, boolean, error_code, header, stack, struct, packet_in, packet_out, errors, enumeration, one_of, table, applied, object, items, nothing, unknown}
use Rattle.p416_syntax.specs.Scopes.{Layout, Scope}
use Rattle.p416_syntax.specs.Calls.{Place, value, any_bits, owner, a_stack, callee, unasked, Signature, object_method, method_signature}
use Rattle.p416_syntax.specs.Expressions.{kind_of, known_kind, member_kind, element_kind, slice_kind, cast_kind, unary_kind, binary_kind, same_choice, call_kind, signature_of}
use Rattle.p416_syntax.specs.Uses.{an_expression, uses_at, one, many, wanted_by, owner_place, cast_numbers, joint_place, compared_place, unary_place, left_place, right_place, cast_place, chosen_place}
use Rattle.p416_syntax.specs.Uses.{a_number as number_use}
use Rattle.p416_syntax.specs.Types.{takes}
use Rattle.p416_syntax.specs.Sizes.{leaves_size, is_bad_width}
use Rattle.p416_syntax.specs.Breaks.{BreaksNone, program_rules}
use Rattle.p416_syntax.specs.Declarations.{layouts_of}
use Rattle.v1_core.specs.Values.{Value, a_number, a_truth, an_error, a_header, a_stack as a_whole_stack, no_members, a_member, a_symbol, some_bits, no_value, number_in, is_true, header_in, sliced, to_member, to_element, part_of}
use Rattle.v1_core.specs.Numbers.{unary_value, binary_value, cast_value}
use Rattle.v1_core.specs.Frames as sem
use Rattle.v1_core.specs.Surroundings as meaning
use Rattle.v1_core.specs.Numbered.{InScope}
use Rattle.v1_core.specs.Expressions as sem_expressions
use Rattle.v1_core.specs.Expressions.{valued, told, member_value, method_value, slice_of, value_of}
use Rattle.v1_core.specs.Cells.{Cells, AreWhole}
use Rattle.v1_core.specs.Ready as ready
use Rattle.v1_core.specs.Ready.{Ready, Ended, given, ready_value}
use Rattle.v1_core.specs.Scalars.{pair_value, bits_value, truth_value}
use Rattle.v1_ready_forms.specs.Named.{NamedSeat, seats_in}
use Rattle.v1_ready_forms.specs.Ways.{Way, its_value, its_validity, through_member, through_element, through_told}
use Rattle.v1_ready_forms.specs.Expressions.{asked_ready}
use Rattle.v1_ready_laws.specs.Asked.{asked_value, Gives}
use Rattle.v1_ready_laws.specs.Kinds.{NamesAreOf, KindsFit, IsOfAt, TypesSized}
use Rattle.v1_ready_laws.specs.Widths.{TypesNarrow}
use Rattle.v1_ready_laws.specs.Operands.{PairFits}
use Rattle.v1_ready_laws.specs.Rules.{AppliesNone, KeepsAll, Keeps, NamesSeated}
use Rattle.v1_ready_laws.proofs.Given.{Holds, Runs}
use Rattle.v1_ready_laws.proofs.Expressions.{expression_runs}
use Rattle.v1_ready_laws.proofs.Named.{names_give}
use Rattle.v1_ready_laws.proofs.Typed.{value_typed, operands_fit}
use Rattle.v1_ready_laws.proofs.OfKinds.{truth_of, member_of, indexed_of, slice_of as slice_typed, cast_of, unary_of, binary_of, pair_fits, first_of, second_of}
use Rattle.v1_ready_laws.proofs.Pairs.{pair_same, to_bits_same, to_truth_same}
use Rattle.v1_ready_laws.proofs.Rules.{operands_of_kinds, kinds_fit, first_false}
use Rattle.v1_ready_laws.proofs.Scoped.{names_are_of}
use Rattle.v1_ready_laws.proofs.Accepted.{accepted_narrow}
use Rattle.v1_ready_laws.proofs.Judged.{applies_none}
use Rattle.v1_ready_blocks.specs.declared.nodes.Single.{Single}
use Rattle.v1_ready_blocks.specs.declared.nodes.Single.TheVariants as single
use Rattle.v1_ready_blocks.specs.Moments.{Moment}
use Rattle.v1_ready_blocks.specs.Tests as tests
use Rattle.v1_ready_blocks.specs.Tests.{World, Test, plain, hits, misses, alone, both, either, pair, choice as test_choice, Valued, and_then, turned, single_value, test_value}
use Rattle.v1_block_laws.proofs.Keeping.{front, back}
use Rattle.v1_ready_statements.specs.Around.{Around, table_found}
use Rattle.v1_ready_statements.specs.Tested.{is_applied, is_application, applies, with_two, with_three, only_value, applied_test, slice_test, cast_test, part_test, member_test, method_test, by_application, asked_test}
use Rattle.v1_value_laws.specs.Kinds.{Fine}
use Rattle.v1_value_laws.specs.Classes.{IsNumber, IsTruth, IsOfClass}
use Rattle.v1_value_laws.proofs.Taken.{taken, truth_only}
use Rattle.v1_value_laws.proofs.Classes.{way_kind, slice_class, cast_class, unary_class, pair_class, Strict, first_way, second_way, rest_keeps, valid_class, classes}
use Rattle.v1_statement_laws.specs.Behind.{Shown}
use Rattle.v1_statement_laws.specs.Leaves.{AppliedShows}
use Rattle.v1_call_laws.specs.Telling.{IsTold, ToldNone, IsBelow, IsOfWidth, IsValueOf, Tells, TestsTell}
use Rattle.v1_call_laws.proofs.Below.{IfBelow, unary_below, pair_below, to_bits_below, slice_below, ready_sane, value_below, Sane}
use Rattle.v1_call_laws.proofs.Telling.{never_stops}
use Rattle.v1_control_laws.specs.Testing.{TablesNamed}

at_some : {A : Type 0} (B : A → Type 0) (o : Option A) (x : A) → o ≡ Some x → IfSome o B → B x
at_some {A = A} B o x is h = subst (λ (p : Option A). IfSome p B) is h

same_given : (u v : Value) → given u ≡ given v → u ≡ v
same_given u v e = cc e

-- a header, a stack or a struct is no operand

abbrev Parted : Kind → Type 0
Parted (header type) = Unit {0}
Parted (stack type extent) = Unit {0}
Parted (struct type) = Unit {0}
Parted k = ⊥

joint_refused : (p : Place) (e : Exp16) (a d : Kind) → Parted a → takes (joint_place p a d) e a ≡ true → ⊥
joint_refused p e (bits width) d h is = absurd h
joint_refused p e unsized d h is = absurd h
joint_refused p e boolean d h is = absurd h
joint_refused p e error_code d h is = absurd h
joint_refused p e (header type) (bits width) h is = cc is
joint_refused p e (header type) unsized h is = cc is
joint_refused p e (header type) boolean h is = cc is
joint_refused p e (header type) error_code h is = cc is
joint_refused p e (header type) (header other) h is = cc is
joint_refused p e (header type) (stack other size) h is = cc is
joint_refused p e (header type) (struct other) h is = cc is
joint_refused p e (header type) packet_in h is = cc is
joint_refused p e (header type) packet_out h is = cc is
joint_refused p e (header type) errors h is = cc is
joint_refused p e (header type) (enumeration enum) h is = cc is
joint_refused p e (header type) (one_of enum) h is = cc is
joint_refused p e (header type) table h is = cc is
joint_refused p e (header type) applied h is = cc is
joint_refused p e (header type) (object obj) h is = cc is
joint_refused p e (header type) items h is = cc is
joint_refused p e (header type) nothing h is = cc is
joint_refused p e (header type) unknown h is = cc is
joint_refused p e (stack type extent) (bits width) h is = cc is
joint_refused p e (stack type extent) unsized h is = cc is
joint_refused p e (stack type extent) boolean h is = cc is
joint_refused p e (stack type extent) error_code h is = cc is
joint_refused p e (stack type extent) (header other) h is = cc is
joint_refused p e (stack type extent) (stack other size) h is = cc is
joint_refused p e (stack type extent) (struct other) h is = cc is
joint_refused p e (stack type extent) packet_in h is = cc is
joint_refused p e (stack type extent) packet_out h is = cc is
joint_refused p e (stack type extent) errors h is = cc is
joint_refused p e (stack type extent) (enumeration enum) h is = cc is
joint_refused p e (stack type extent) (one_of enum) h is = cc is
joint_refused p e (stack type extent) table h is = cc is
joint_refused p e (stack type extent) applied h is = cc is
joint_refused p e (stack type extent) (object obj) h is = cc is
joint_refused p e (stack type extent) items h is = cc is
joint_refused p e (stack type extent) nothing h is = cc is
joint_refused p e (stack type extent) unknown h is = cc is
joint_refused p e (struct type) (bits width) h is = cc is
joint_refused p e (struct type) unsized h is = cc is
joint_refused p e (struct type) boolean h is = cc is
joint_refused p e (struct type) error_code h is = cc is
joint_refused p e (struct type) (header other) h is = cc is
joint_refused p e (struct type) (stack other size) h is = cc is
joint_refused p e (struct type) (struct other) h is = cc is
joint_refused p e (struct type) packet_in h is = cc is
joint_refused p e (struct type) packet_out h is = cc is
joint_refused p e (struct type) errors h is = cc is
joint_refused p e (struct type) (enumeration enum) h is = cc is
joint_refused p e (struct type) (one_of enum) h is = cc is
joint_refused p e (struct type) table h is = cc is
joint_refused p e (struct type) applied h is = cc is
joint_refused p e (struct type) (object obj) h is = cc is
joint_refused p e (struct type) items h is = cc is
joint_refused p e (struct type) nothing h is = cc is
joint_refused p e (struct type) unknown h is = cc is
joint_refused p e packet_in d h is = absurd h
joint_refused p e packet_out d h is = absurd h
joint_refused p e errors d h is = absurd h
joint_refused p e (enumeration enum) d h is = absurd h
joint_refused p e (one_of enum) d h is = absurd h
joint_refused p e table d h is = absurd h
joint_refused p e applied d h is = absurd h
joint_refused p e (object obj) d h is = absurd h
joint_refused p e items d h is = absurd h
joint_refused p e nothing d h is = absurd h
joint_refused p e unknown d h is = absurd h

compared_refused : (e : Exp16) (a d : Kind) → Parted a → takes (compared_place a d) e a ≡ true → ⊥
compared_refused e (bits width) d h is = absurd h
compared_refused e unsized d h is = absurd h
compared_refused e boolean d h is = absurd h
compared_refused e error_code d h is = absurd h
compared_refused e (header type) d h is = joint_refused any_bits e (header type) d h is
compared_refused e (stack type extent) d h is = joint_refused any_bits e (stack type extent) d h is
compared_refused e (struct type) d h is = joint_refused any_bits e (struct type) d h is
compared_refused e packet_in d h is = absurd h
compared_refused e packet_out d h is = absurd h
compared_refused e errors d h is = absurd h
compared_refused e (enumeration enum) d h is = absurd h
compared_refused e (one_of enum) d h is = absurd h
compared_refused e table d h is = absurd h
compared_refused e applied d h is = absurd h
compared_refused e (object obj) d h is = absurd h
compared_refused e items d h is = absurd h
compared_refused e nothing d h is = absurd h
compared_refused e unknown d h is = absurd h

bits_refused : (e : Exp16) (a : Kind) → Parted a → takes any_bits e a ≡ true → ⊥
bits_refused e (bits width) h is = absurd h
bits_refused e unsized h is = absurd h
bits_refused e boolean h is = absurd h
bits_refused e error_code h is = absurd h
bits_refused e (header type) h is = cc is
bits_refused e (stack type extent) h is = cc is
bits_refused e (struct type) h is = cc is
bits_refused e packet_in h is = absurd h
bits_refused e packet_out h is = absurd h
bits_refused e errors h is = absurd h
bits_refused e (enumeration enum) h is = absurd h
bits_refused e (one_of enum) h is = absurd h
bits_refused e table h is = absurd h
bits_refused e applied h is = absurd h
bits_refused e (object obj) h is = absurd h
bits_refused e items h is = absurd h
bits_refused e nothing h is = absurd h
bits_refused e unknown h is = absurd h

truth_refused : (e : Exp16) (a : Kind) → Parted a → takes (value boolean) e a ≡ true → ⊥
truth_refused e (bits width) h is = absurd h
truth_refused e unsized h is = absurd h
truth_refused e boolean h is = absurd h
truth_refused e error_code h is = absurd h
truth_refused e (header type) h is = cc is
truth_refused e (stack type extent) h is = cc is
truth_refused e (struct type) h is = cc is
truth_refused e packet_in h is = absurd h
truth_refused e packet_out h is = absurd h
truth_refused e errors h is = absurd h
truth_refused e (enumeration enum) h is = absurd h
truth_refused e (one_of enum) h is = absurd h
truth_refused e table h is = absurd h
truth_refused e applied h is = absurd h
truth_refused e (object obj) h is = absurd h
truth_refused e items h is = absurd h
truth_refused e nothing h is = absurd h
truth_refused e unknown h is = absurd h

left_refused : (p : Place) (operator : BinaryOperator) (e : Exp16) (a d : Kind) → Parted a → takes (left_place p operator a d) e a ≡ true → ⊥
left_refused p Multiply e a d h is = joint_refused p e a d h is
left_refused p Add e a d h is = joint_refused p e a d h is
left_refused p Subtract e a d h is = joint_refused p e a d h is
left_refused p SaturatingAdd e a d h is = joint_refused p e a d h is
left_refused p SaturatingSubtract e a d h is = joint_refused p e a d h is
left_refused p Concatenate e a d h is = bits_refused e a h is
left_refused p ShiftLeft e a d h is = joint_refused p e a a h is
left_refused p ShiftRight e a d h is = joint_refused p e a a h is
left_refused p BitAnd e a d h is = joint_refused p e a d h is
left_refused p BitXor e a d h is = joint_refused p e a d h is
left_refused p BitOr e a d h is = joint_refused p e a d h is
left_refused p Less e a d h is = joint_refused any_bits e a d h is
left_refused p LessEqual e a d h is = joint_refused any_bits e a d h is
left_refused p Greater e a d h is = joint_refused any_bits e a d h is
left_refused p GreaterEqual e a d h is = joint_refused any_bits e a d h is
left_refused p Equal e a d h is = compared_refused e a d h is
left_refused p NotEqual e a d h is = compared_refused e a d h is
left_refused p And e a d h is = truth_refused e a h is
left_refused p Or e a d h is = truth_refused e a h is

-- of which kind a value is doesn't stand in the cells, but for these
elsewhere : (types : List Layout) (c d : Cells) (p : Place) (k : Kind) (v : Value) → (Parted k → ⊥) → IsOfAt types c p k v → IsOfAt types d p k v
elsewhere types c d p (bits width) v never h = h
elsewhere types c d p unsized v never h = h
elsewhere types c d p boolean v never h = tt
elsewhere types c d p error_code v never h = tt
elsewhere types c d p (header type) v never h = absurd (never tt)
elsewhere types c d p (stack type extent) v never h = absurd (never tt)
elsewhere types c d p (struct type) v never h = absurd (never tt)
elsewhere types c d p packet_in v never h = tt
elsewhere types c d p packet_out v never h = tt
elsewhere types c d p errors v never h = tt
elsewhere types c d p (enumeration enum) v never h = tt
elsewhere types c d p (one_of enum) v never h = tt
elsewhere types c d p table v never h = tt
elsewhere types c d p applied v never h = tt
elsewhere types c d p (object obj) v never h = tt
elsewhere types c d p items v never h = tt
elsewhere types c d p nothing v never h = tt
elsewhere types c d p unknown v never h = tt

typed_truth : (types : List Layout) (c : Cells) (p : Place) (v : Value) → IsOfAt types c p boolean v
typed_truth types c p v = tt

-- the width of a cast
cast_wide : (n : Literal16) → list_any leaves_size (cast_numbers (cast_to.Bit n)) ≡ false → 0 < n.value
cast_wide n kept = wide n.value (first_false (nat_lt n.value 1) (nat_lt 128 n.value) (first_false (is_bad_width n) false kept)) where
  wide : (k : ℕ) → nat_lt k 1 ≡ false → 0 < k
  wide k e = let le : 1 ≤ k = ltb-false k 1 e in omega (arith, le)

truth_below : (v : Value) → IsBelow (truth_value v)
truth_below (a_number width number) = tt
truth_below (a_truth holds) = tt
truth_below (an_error number) = tt
truth_below (a_header h) = tt
truth_below (a_whole_stack place elements) = tt
truth_below no_members = tt
truth_below (a_member called of rest) = tt
truth_below (a_symbol word) = tt
truth_below (some_bits row) = tt
truth_below no_value = tt

width_of : (types : List Layout) (c : Cells) (p : Place) (k : Kind) (v : Value) → IsOfAt types c p k v → IsOfWidth p k v
width_of types c p (bits width) v h = h
width_of types c p unsized v h = h
width_of types c p boolean v h = tt
width_of types c p error_code v h = tt
width_of types c p (header type) v h = tt
width_of types c p (stack type extent) v h = tt
width_of types c p (struct type) v h = tt
width_of types c p packet_in v h = tt
width_of types c p packet_out v h = tt
width_of types c p errors v h = tt
width_of types c p (enumeration enum) v h = tt
width_of types c p (one_of enum) v h = tt
width_of types c p table v h = tt
width_of types c p applied v h = tt
width_of types c p (object obj) v h = tt
width_of types c p items v h = tt
width_of types c p nothing v h = tt
width_of types c p unknown v h = tt

if_more : (o : Option Test) (A Q : Test → Type 0) → ((t : Test) → A t → Q t) → IfSome o A → IfSome o Q
if_more None A Q f h = tt
if_more (Some t) A Q f h = f t h

-- only a table is applied

applied_only : (k : Kind) → is_applied k ≡ true → k ≡ applied
applied_only (bits width) is = absurd (cc is)
applied_only unsized is = absurd (cc is)
applied_only boolean is = absurd (cc is)
applied_only error_code is = absurd (cc is)
applied_only (header type) is = absurd (cc is)
applied_only (stack type extent) is = absurd (cc is)
applied_only (struct type) is = absurd (cc is)
applied_only packet_in is = absurd (cc is)
applied_only packet_out is = absurd (cc is)
applied_only errors is = absurd (cc is)
applied_only (enumeration enum) is = absurd (cc is)
applied_only (one_of enum) is = absurd (cc is)
applied_only table is = absurd (cc is)
applied_only applied is = refl
applied_only (object obj) is = absurd (cc is)
applied_only items is = absurd (cc is)
applied_only nothing is = absurd (cc is)
applied_only unknown is = absurd (cc is)

no_application : (t : Bool) (g : Signature) (o : Option Signature) → is_applied g.gives ≡ false → (is_applied (call_kind o) ≡ true → ⊥) → is_applied (call_kind (cond t (Some g) o)) ≡ true → ⊥
no_application true g o never h is = cc (sym never ∙ is)
no_application false g o never h is = h is

none_applied : is_applied (call_kind None) ≡ true → ⊥
none_applied is = cc is

object_applied : (of : ObjectKind) (word : Name) → is_applied (call_kind (object_method of word)) ≡ true → ⊥
object_applied counter word is = no_application (bytes_eq word (codes "count")) _ None refl none_applied is
object_applied direct_counter word is = no_application (bytes_eq word (codes "count")) _ None refl none_applied is
object_applied register word is = no_application (bytes_eq word (codes "read")) _ _ refl (no_application (bytes_eq word (codes "write")) _ None refl none_applied) is
object_applied meter word is = no_application (bytes_eq word (codes "execute_meter")) _ None refl none_applied is

table_only : (k : Kind) (word : Name) → is_applied (call_kind (method_signature k word)) ≡ true → k ≡ table
table_only (bits width) word is = absurd (cc is)
table_only unsized word is = absurd (cc is)
table_only boolean word is = absurd (cc is)
table_only error_code word is = absurd (cc is)
table_only (header type) word is = absurd (no_application (bytes_eq word (codes "isValid")) _ _ refl (no_application (bytes_eq word (codes "setValid")) _ _ refl (no_application (bytes_eq word (codes "setInvalid")) _ None refl none_applied)) is)
table_only (stack type extent) word is = absurd (no_application (bytes_eq word (codes "push_front")) _ _ refl (no_application (bytes_eq word (codes "pop_front")) _ None refl none_applied) is)
table_only (struct type) word is = absurd (cc is)
table_only packet_in word is = absurd (no_application (bytes_eq word (codes "extract")) _ None refl none_applied is)
table_only packet_out word is = absurd (no_application (bytes_eq word (codes "emit")) _ None refl none_applied is)
table_only errors word is = absurd (cc is)
table_only (enumeration enum) word is = absurd (cc is)
table_only (one_of enum) word is = absurd (cc is)
table_only table word is = refl
table_only applied word is = absurd (cc is)
table_only (object obj) word is = absurd (object_applied obj word is)
table_only items word is = absurd (cc is)
table_only nothing word is = absurd (cc is)
table_only unknown word is = absurd (cc is)

module _ (P : Cells → Type 0) (b : Around) (w : meaning.World) (z : World) (s : Scope) (who : InScope) (accepted : BreaksNone b.syntax program_rules) (layouts : s.layouts ≡ layouts_of b.syntax.decls) (seated : NamesSeated s (seats_in b.syntax w.around.roots who)) (fine : Fine s) where
  abbrev seats : List NamedSeat
  seats = seats_in b.syntax w.around.roots who

  abbrev Value16 : Type 0
  Value16 = sem_expressions.Valued

  -- what is asked of a value was told, and both left moments that are one and that nothing stopped
  pub record Told (way : Way) (p : Place) (k : Kind) (x : Value16) (y : Valued) : Type 0 where
    pub told : y.value ≡ asked_value way x.value
    pub runs : x.moment.stopped ≡ None
    pub shown : Shown P b.syntax who x.moment y.moment
    pub typed : IsOfAt s.layouts y.moment.cells p k x.value
    pub class : (v : Value) → y.value ≡ given v → IsOfClass (way_kind s.layouts way k) v
    pub below : IfBelow y.value

  abbrev pub Tell : Way → Place → Kind → (sem.Moment → Value16) → Test → Type 0
  Tell way p k evaluate t =
      (m : sem.Moment) (n : Moment) → Shown P b.syntax who m n → m.stopped ≡ None → Told way p k (evaluate m) (test_value z.apply t n)

  narrow : TypesNarrow s.layouts
  narrow = subst TypesNarrow (sym layouts) (accepted_narrow b.syntax accepted).0

  sized : TypesSized s.layouts
  sized = subst TypesSized (sym layouts) (accepted_narrow b.syntax accepted).1

  -- what applies no table
  plain_tells : (p q : Place) (way : Way) (e : Exp16) (r : Ready) → Keeps s q e → ToldNone s e → asked_ready s seats p way e ≡ Some r → Tell way p (kind_of s e) (value_of w s p e) (plain r)
  plain_tells p q way e r keeps free is m n h runs = by held.gives where
    names : NamesAreOf w s n.cells m.frame
    names = names_are_of b.syntax n.cells w s who m.frame h.shows.whole (accepted_narrow b.syntax accepted).2 layouts h.shows.frame seated

    none : AppliesNone s e
    none = at_some (λ (x : Ready). AppliesNone s e) (asked_ready s seats p way e) r is (applies_none s seats p way e)

    held : Runs m (ready_value n.cells m.unparsed r) way (value_of w s p e)
    held =
        at_some (Holds n.cells m way (value_of w s p e)) (asked_ready s seats p way e) r is
        (expression_runs w s seats n.cells m runs (names_give b.syntax n.cells w s who m h.shows.whole (accepted_narrow b.syntax accepted).0 (accepted_narrow b.syntax accepted).2 layouts h.shows.frame) p way e
        (operands_fit w s n.cells m sized names p e (operands_of_kinds s q e keeps none)))

    ends : (value_of w s p e m).moment.stopped ≡ None
    ends = never_stops w s p e m free none runs

    one_end : ready_value n.cells m.unparsed r ≡ ready_value n.cells n.unparsed r
    one_end = ap (λ (left : List ℕ). ready_value n.cells left r) h.shows.unparsed

    classed : (v : Value) → ready_value n.cells m.unparsed r ≡ given v → IsOfClass (way_kind s.layouts way (kind_of s e)) v
    classed =
        at_some (λ (x : Ready). (v : Value) → ready_value n.cells m.unparsed x ≡ given v → IsOfClass (way_kind s.layouts way (kind_of s e)) v) (asked_ready s seats p way e) r is
        (classes b.syntax n.cells w s who m accepted h.shows.whole layouts h.shows.frame runs seated fine e p q way keeps)

    by : Gives (ready_value n.cells m.unparsed r) way (value_of w s p e m) m → Told way p (kind_of s e) (value_of w s p e m) (test_value z.apply (plain r) n)
    by (inl g) = record {
      told = sym one_end ∙ g.1;
      runs = ends;
      shown = subst (λ (y : sem.Moment). Shown P b.syntax who y n) (sym g.0) h;
      typed = (value_typed w s n.cells m.frame sized names p e m refl (operands_of_kinds s q e keeps none)).is;
      class = λ v same. classed v (one_end ∙ same);
      below = value_below n.cells n.unparsed h.shows.whole.whole r (at_some Sane (asked_ready s seats p way e) r is (ready_sane s seats q p way e keeps.1));
    }
    by (inr g) = absurd (cc (sym ends ∙ ap (λ (y : sem.Moment). y.stopped) g.1))

  plain_some : (p q : Place) (way : Way) (e : Exp16) → Keeps s q e → ToldNone s e → IfSome (option_map plain (asked_ready s seats p way e)) (Tell way p (kind_of s e) (value_of w s p e))
  plain_some p q way e keeps free = by (asked_ready s seats p way e) refl where
    by : (o : Option Ready) → asked_ready s seats p way e ≡ o → IfSome (option_map plain o) (Tell way p (kind_of s e) (value_of w s p e))
    by None is = tt
    by (Some r) is = plain_tells p q way e r keeps free is

  -- one value

  turned_is : (y : Valued) (v : Value) (f : Value → Value) → y.value ≡ given v → turned y f ≡ tests.valued (given (f v)) y.moment
  turned_is y v f is = ap (λ (end : Ended). turned (tests.valued end y.moment) f) is

  then_is : (y : Valued) (v : Value) (f : Value → Moment → Valued) → y.value ≡ given v → and_then y f ≡ f v y.moment
  then_is y v f is = ap (λ (end : Ended). and_then (tests.valued end y.moment) f) is

  -- the value that stands there
  below_it : (y : Valued) (v : Value) → y.value ≡ given v → IfBelow y.value → IsBelow v
  below_it y v is h = subst IfBelow is h

  one_tells : (p q : Place) (j k : Kind) (evaluate : sem.Moment → Value16) (g : Value → Value) (of : Single) (t : Test) → ((v : Value) → single_value of v ≡ g v) → ((c : Cells) (v : Value) → IsOfAt s.layouts c q j v → IsOfAt s.layouts c p k (g v))
      → ((c : Cells) (v : Value) → AreWhole c → IsOfClass j v → IsOfClass k (g v)) → ((v : Value) → IsBelow v → IsBelow (g v))
      → Tell its_value q j evaluate t → Tell its_value p k (λ m. valued (g (evaluate m).value) (evaluate m).moment) (alone of t)
  one_tells p q j k evaluate g of t same types class below tells m n h runs =
      let x : Value16 = evaluate m in
      let y : Valued = test_value z.apply t n in
      let a : Told its_value q j x y = tells m n h runs in
      subst (λ (u : Valued). Told its_value p k (valued (g x.value) x.moment) u) (sym (turned_is y x.value (single_value of) a.told ∙ ap (λ (v : Value). tests.valued (given v) y.moment) (same x.value)))
      (record {
        told = refl;
        runs = a.runs;
        shown = a.shown;
        typed = types y.moment.cells x.value a.typed;
        class = λ u e. subst (IsOfClass k) (same_given (g x.value) u e) (class y.moment.cells x.value a.shown.shows.whole.whole (a.class x.value a.told));
        below = below x.value (below_it y x.value a.told a.below);
      })

  slice_tells : (p : Place) (j : Kind) (high low : Literal16) (evaluate : sem.Moment → Value16) (t : Test) → Tell its_value any_bits j evaluate t → Tell its_value p (slice_kind j high low) (λ m. valued (a_number (suc high.value - low.value) (sliced (slice_of high low) (number_in (evaluate m).value))) (evaluate m).moment) (slice_test high low t)
  slice_tells p j high low evaluate t tells =
      one_tells p any_bits j (slice_kind j high low) evaluate (λ v. a_number (suc high.value - low.value) (sliced (slice_of high low) (number_in v))) (single.Slice low.value (suc high.value - low.value)) t (λ v. refl)
      (λ c v h. slice_typed s.layouts c p j high low (sliced (slice_of high low) (number_in v)))
      (λ c v whole h. slice_class s.layouts fine.members c [] narrow whole j high low (a_number (suc high.value - low.value) (sliced (slice_of high low) (number_in v))) (suc high.value - low.value, (sliced (slice_of high low) (number_in v), refl)))
      (λ v h. slice_below low.value (suc high.value - low.value) (number_in v)) tells

  cast_tells : (p : Place) (to : CastType) (e : Exp16) (evaluate : sem.Moment → Value16) (t : Test) → takes (cast_place to) e (kind_of s e) ≡ true → list_any leaves_size (cast_numbers to) ≡ false → Tell its_value (cast_place to) (kind_of s e) evaluate t → Tell its_value p (cast_kind to) (λ m. valued (cast_value to (evaluate m).value) (evaluate m).moment) (cast_test to t)
  cast_tells p (cast_to.Bit n) e evaluate t is sizes tells =
      one_tells p (cast_place (cast_to.Bit n)) (kind_of s e) (cast_kind (cast_to.Bit n)) evaluate (cast_value (cast_to.Bit n)) (single.ToBits n.value) t (to_bits_same n)
      (λ c v h. cast_of s.layouts c p (cast_to.Bit n) v)
      (λ c v whole h. subst IsNumber (to_bits_same n v) (cast_class s.layouts fine.members c [] narrow whole (cast_to.Bit n) e (kind_of s e) (ready.constant v) is (λ u same. subst (IsOfClass (kind_of s e)) (same_given v u same) h) (bits_value n.value v) refl))
      (λ v h. subst IsBelow (to_bits_same n v) (to_bits_below n.value v (cast_wide n sizes))) tells
  cast_tells p cast_to.Bool e evaluate t is sizes tells =
      one_tells p (cast_place cast_to.Bool) (kind_of s e) (cast_kind cast_to.Bool) evaluate (cast_value cast_to.Bool) single.ToTruth t to_truth_same
      (λ c v h. cast_of s.layouts c p cast_to.Bool v)
      (λ c v whole h. subst IsTruth (to_truth_same v) (cast_class s.layouts fine.members c [] narrow whole cast_to.Bool e (kind_of s e) (ready.constant v) is (λ u same. subst (IsOfClass (kind_of s e)) (same_given v u same) h) (truth_value v) refl))
      (λ v h. subst IsBelow (to_truth_same v) (truth_below v)) tells

  unary_tells : (p q : Place) (operator : UnaryOperator) (e : Exp16) (evaluate : sem.Moment → Value16) (t : Test) → takes (unary_place q operator (kind_of s e)) e (kind_of s e) ≡ true → Tell its_value (unary_place p operator (kind_of s e)) (kind_of s e) evaluate t → Tell its_value p (unary_kind operator (kind_of s e)) (λ m. valued (unary_value operator (evaluate m).value) (evaluate m).moment) (alone (single.Operator operator) t)
  unary_tells p q operator e evaluate t is tells =
      one_tells p (unary_place p operator (kind_of s e)) (kind_of s e) (unary_kind operator (kind_of s e)) evaluate (unary_value operator) (single.Operator operator) t (λ v. refl)
      (λ c v h. unary_of s.layouts c p operator (kind_of s e) v h)
      (λ c v whole h. unary_class s.layouts fine.members c [] narrow whole operator q e (kind_of s e) (ready.constant v) is (λ u same. subst (IsOfClass (kind_of s e)) (same_given v u same) h) (unary_value operator v) refl)
      (λ v h. unary_below operator v h) tells

  -- two values

  pair_tells : (p q : Place) (operator : BinaryOperator) (d e : Exp16) (t u : Test) → Strict operator → KindsFit operator (kind_of s d) (kind_of s e) → takes (left_place q operator (kind_of s d) (kind_of s e)) d (kind_of s d) ≡ true → takes (right_place q operator (kind_of s d) (kind_of s e)) e (kind_of s e) ≡ true
      → (l r : sem.Moment → Value16) → Tell its_value (left_place p operator (kind_of s d) (kind_of s e)) (kind_of s d) l t → Tell its_value (right_place p operator (kind_of s d) (kind_of s e)) (kind_of s e) r u
      → Tell its_value p (binary_kind operator (kind_of s d) (kind_of s e)) (λ m. valued (binary_value operator (l m).value (r (l m).moment).value) (r (l m).moment).moment) (pair operator t u)
  pair_tells p q operator d e t u strict fits first second l r lt rt m n h runs =
      let x : Value16 = l m in
      let y : Valued = test_value z.apply t n in
      let a = lt m n h runs in
      let x2 : Value16 = r x.moment in
      let y2 : Valued = test_value z.apply u y.moment in
      let c = rt x.moment y.moment a.shown a.runs in
      let left_typed : IsOfAt s.layouts y2.moment.cells (left_place p operator (kind_of s d) (kind_of s e)) (kind_of s d) x.value =
      elsewhere s.layouts y.moment.cells y2.moment.cells (left_place p operator (kind_of s d) (kind_of s e)) (kind_of s d) x.value (λ parted. left_refused q operator d (kind_of s d) (kind_of s e) parted first) a.typed in
      let pairs : PairFits operator x.value x2.value = pair_fits s.layouts y2.moment.cells p operator (kind_of s d) (kind_of s e) x.value x2.value fits left_typed c.typed in
      let same : pair_value operator x.value x2.value ≡ binary_value operator x.value x2.value = pair_same operator x.value x2.value pairs in
      subst (λ (v : Valued). Told its_value p (binary_kind operator (kind_of s d) (kind_of s e)) (valued (binary_value operator x.value x2.value) x2.moment) v)
      (sym (then_is y x.value (λ i o. and_then (test_value z.apply u o) (λ j f. tests.valued (given (pair_value operator i j)) f)) a.told
      ∙ (then_is y2 x2.value (λ j f. tests.valued (given (pair_value operator x.value j)) f) c.told ∙ ap (λ (v : Value). tests.valued (given v) y2.moment) same)))
      (record {
        told = refl;
        runs = c.runs;
        shown = c.shown;
        typed = binary_of s.layouts y2.moment.cells p operator (kind_of s d) (kind_of s e) x.value x2.value fits left_typed c.typed;
        class = λ v i. subst (IsOfClass (binary_kind operator (kind_of s d) (kind_of s e))) (same_given (binary_value operator x.value x2.value) v i)
            (pair_class operator strict q d e (kind_of s d) (kind_of s e) x.value x2.value first second (a.class x.value a.told) (c.class x2.value c.told));
        below = subst IsBelow same (pair_below operator x.value x2.value (below_it y x.value a.told a.below) (below_it y2 x2.value c.told c.below));
      })

  -- one of two, by a truth value

  chosen_told : (v : Bool) (way : Way) (p : Place) (k : Kind) (x y : Value16) (t u : Valued) → Told way p k x t → Told way p k y u → Told way p k (cond v x y) (cond v t u)
  chosen_told true way p k x y t u h g = h
  chosen_told false way p k x y t u h g = g

  as_truth : (p : Place) (j : Kind) (x : Value16) (y : Valued) (r : Place) → j ≡ boolean → Told its_value r j x y → Told its_value p boolean x y
  as_truth p j x y r is h = record {
    told = h.told;
    runs = h.runs;
    shown = h.shown;
    typed = typed_truth s.layouts y.moment.cells p x.value;
    class = λ v e. subst (λ (k : Kind). IsOfClass k v) is (h.class v e);
    below = h.below;
  }

  -- the value as it stands
  itself_told : (p : Place) (k : Kind) (x : Value16) (y : Valued) → Told its_value p k x y → Told its_value p k x (tests.valued (given x.value) y.moment)
  itself_told p k x y h = subst (λ (end : Ended). Told its_value p k x (tests.valued end y.moment)) h.told h

  both_tells : (p : Place) (d e : Exp16) (t u : Test) → kind_of s d ≡ boolean → kind_of s e ≡ boolean → (l r : sem.Moment → Value16) → Tell its_value (value boolean) (kind_of s d) l t → Tell its_value (value boolean) (kind_of s e) r u → Tell its_value p boolean (λ m. cond (is_true (l m).value) (r (l m).moment) (l m)) (both t u)
  both_tells p d e t u dk ek l r lt rt m n h runs =
      let x : Value16 = l m in
      let y : Valued = test_value z.apply t n in
      let a = lt m n h runs in
      subst (λ (v : Valued). Told its_value p boolean (cond (is_true x.value) (r x.moment) x) v) (sym (then_is y x.value (λ i o. cond (is_true i) (test_value z.apply u o) (tests.valued (given i) o)) a.told))
      (chosen_told (is_true x.value) its_value p boolean (r x.moment) x (test_value z.apply u y.moment) (tests.valued (given x.value) y.moment)
      (as_truth p (kind_of s e) (r x.moment) (test_value z.apply u y.moment) (value boolean) ek (rt x.moment y.moment a.shown a.runs))
      (itself_told p boolean x y (as_truth p (kind_of s d) x y (value boolean) dk a)))

  either_tells : (p : Place) (d e : Exp16) (t u : Test) → kind_of s d ≡ boolean → kind_of s e ≡ boolean → (l r : sem.Moment → Value16) → Tell its_value (value boolean) (kind_of s d) l t → Tell its_value (value boolean) (kind_of s e) r u → Tell its_value p boolean (λ m. cond (is_true (l m).value) (l m) (r (l m).moment)) (either t u)
  either_tells p d e t u dk ek l r lt rt m n h runs =
      let x : Value16 = l m in
      let y : Valued = test_value z.apply t n in
      let a = lt m n h runs in
      subst (λ (v : Valued). Told its_value p boolean (cond (is_true x.value) x (r x.moment)) v) (sym (then_is y x.value (λ i o. cond (is_true i) (tests.valued (given i) o) (test_value z.apply u o)) a.told))
      (chosen_told (is_true x.value) its_value p boolean x (r x.moment) (tests.valued (given x.value) y.moment) (test_value z.apply u y.moment)
      (itself_told p boolean x y (as_truth p (kind_of s d) x y (value boolean) dk a))
      (as_truth p (kind_of s e) (r x.moment) (test_value z.apply u y.moment) (value boolean) ek (rt x.moment y.moment a.shown a.runs)))

  first_told : (way : Way) (p : Place) (a d : Kind) (x : Value16) (y : Valued) → Told way (chosen_place p a d) a x y → Told way p (same_choice a d) x y
  first_told way p a d x y h = record {
    told = h.told;
    runs = h.runs;
    shown = h.shown;
    typed = first_of s.layouts y.moment.cells p a d x.value h.typed;
    class = λ v e. first_way s.layouts way a d v (h.class v e);
    below = h.below;
  }

  second_told : (way : Way) (p : Place) (a d : Kind) (x : Value16) (y : Valued) → Told way (chosen_place p a d) d x y → Told way p (same_choice a d) x y
  second_told way p a d x y h = record {
    told = h.told;
    runs = h.runs;
    shown = h.shown;
    typed = second_of s.layouts y.moment.cells p a d x.value h.typed;
    class = λ v e. second_way s.layouts way a d v (h.class v e);
    below = h.below;
  }

  choice_tells : (way : Way) (p : Place) (a d : Kind) (j : Kind) (c t u : Test) (f l r : sem.Moment → Value16) → Tell its_value (value boolean) j f c → Tell way (chosen_place p a d) a l t → Tell way (chosen_place p a d) d r u → Tell way p (same_choice a d) (λ m. cond (is_true (f m).value) (l (f m).moment) (r (f m).moment)) (test_choice c t u)
  choice_tells way p a d j c t u f l r ft lt rt m n h runs =
      let x : Value16 = f m in
      let y : Valued = test_value z.apply c n in
      let g = ft m n h runs in
      subst (λ (v : Valued). Told way p (same_choice a d) (cond (is_true x.value) (l x.moment) (r x.moment)) v) (sym (then_is y x.value (λ i o. cond (is_true i) (test_value z.apply t o) (test_value z.apply u o)) g.told))
      (chosen_told (is_true x.value) way p (same_choice a d) (l x.moment) (r x.moment) (test_value z.apply t y.moment) (test_value z.apply u y.moment)
      (first_told way p a d (l x.moment) (test_value z.apply t y.moment) (lt x.moment y.moment g.shown g.runs))
      (second_told way p a d (r x.moment) (test_value z.apply u y.moment) (rt x.moment y.moment g.shown g.runs)))

  -- what is ready where its parts are

  flagged : (flag : Bool) (o : Option Ready) (t : Option Test) (Q : Test → Type 0) → IfSome (option_map plain o) Q → IfSome t Q → IfSome (by_application flag o t) Q
  flagged true o t Q h k = k
  flagged false o t Q h k = h

  mapped : (f : Test → Test) (o : Option Test) (A Q : Test → Type 0) → ((t : Test) → A t → Q (f t)) → IfSome o A → IfSome (option_map f o) Q
  mapped f None A Q g h = tt
  mapped f (Some t) A Q g h = g t h

  two_made : (f : Test → Test → Test) (o i : Option Test) (A B Q : Test → Type 0) → ((t u : Test) → A t → B u → Q (f t u)) → IfSome o A → IfSome i B → IfSome (with_two f o i) Q
  two_made f None i A B Q g h k = tt
  two_made f (Some t) None A B Q g h k = tt
  two_made f (Some t) (Some u) A B Q g h k = g t u h k

  three_made : (f : Test → Test → Test → Test) (o i j : Option Test) (A B C Q : Test → Type 0) → ((t u v : Test) → A t → B u → C v → Q (f t u v)) → IfSome o A → IfSome i B → IfSome j C → IfSome (with_three f o i j) Q
  three_made f None i j A B C Q g h k l = tt
  three_made f (Some t) None j A B C Q g h k l = tt
  three_made f (Some t) (Some u) None A B C Q g h k l = tt
  three_made f (Some t) (Some u) (Some v) A B C Q g h k l = g t u v h k l

  value_only : (way : Way) (p : Place) (k : Kind) (evaluate : sem.Moment → Value16) (o : Option Test) → IfSome o (Tell its_value p k evaluate) → IfSome (only_value way o) (Tell way p k evaluate)
  value_only its_value p k evaluate o h = h
  value_only its_validity p k evaluate o h = tt
  value_only (through_member word way) p k evaluate o h = tt
  value_only (through_element number way) p k evaluate o h = tt
  value_only (through_told which way) p k evaluate o h = tt

  no_test : (way : Way) (Q : Test → Type 0) → IfSome (only_value way None) Q
  no_test its_value Q = tt
  no_test its_validity Q = tt
  no_test (through_member word way) Q = tt
  no_test (through_element number way) Q = tt
  no_test (through_told which way) Q = tt

  -- members

  member_told : (k : Kind) (word : Name) (way : Way) (p : Place) (x : Value16) (y : Valued) → member_value k word x ≡ valued (part_of x.value (to_member word)) x.moment → Told (through_member word way) owner k x y → Told way p (known_kind (member_kind s.layouts k word)) (member_value k word x) y
  member_told k word way p x y is h = record {
    told = h.told ∙ ap (λ (v : Value16). asked_value way v.value) (sym is);
    runs = ap (λ (v : Value16). v.moment.stopped) is ∙ h.runs;
    shown = subst (λ (v : Value16). Shown P b.syntax who v.moment y.moment) (sym is) h.shown;
    typed = member_of s.layouts y.moment.cells p owner k word x sized h.typed;
    class = λ v e. h.class v e;
    below = h.below;
  }

  member_tells : (k : Kind) (word : Name) (way : Way) (p : Place) (evaluate : sem.Moment → Value16) (ask : Way → Option Test) → IsTold k word → ((further : Way) → IfSome (ask further) (Tell further owner k evaluate)) → IfSome (part_test k word way ask) (Tell way p (known_kind (member_kind s.layouts k word)) (λ m. member_value k word (evaluate m)))
  member_tells (bits width) word way p evaluate ask free h =
      if_more (ask (through_member word way)) (Tell (through_member word way) owner (bits width) evaluate) (Tell way p (known_kind (member_kind s.layouts (bits width) word)) (λ m. member_value (bits width) word (evaluate m)))
      (λ t g m n shown runs. member_told (bits width) word way p (evaluate m) (test_value z.apply t n) refl (g m n shown runs)) (h (through_member word way))
  member_tells unsized word way p evaluate ask free h =
      if_more (ask (through_member word way)) (Tell (through_member word way) owner unsized evaluate) (Tell way p (known_kind (member_kind s.layouts unsized word)) (λ m. member_value unsized word (evaluate m)))
      (λ t g m n shown runs. member_told unsized word way p (evaluate m) (test_value z.apply t n) refl (g m n shown runs)) (h (through_member word way))
  member_tells boolean word way p evaluate ask free h =
      if_more (ask (through_member word way)) (Tell (through_member word way) owner boolean evaluate) (Tell way p (known_kind (member_kind s.layouts boolean word)) (λ m. member_value boolean word (evaluate m)))
      (λ t g m n shown runs. member_told boolean word way p (evaluate m) (test_value z.apply t n) refl (g m n shown runs)) (h (through_member word way))
  member_tells error_code word way p evaluate ask free h =
      if_more (ask (through_member word way)) (Tell (through_member word way) owner error_code evaluate) (Tell way p (known_kind (member_kind s.layouts error_code word)) (λ m. member_value error_code word (evaluate m)))
      (λ t g m n shown runs. member_told error_code word way p (evaluate m) (test_value z.apply t n) refl (g m n shown runs)) (h (through_member word way))
  member_tells (header type) word way p evaluate ask free h =
      if_more (ask (through_member word way)) (Tell (through_member word way) owner (header type) evaluate) (Tell way p (known_kind (member_kind s.layouts (header type) word)) (λ m. member_value (header type) word (evaluate m)))
      (λ t g m n shown runs. member_told (header type) word way p (evaluate m) (test_value z.apply t n) refl (g m n shown runs)) (h (through_member word way))
  member_tells (stack type extent) word way p evaluate ask free h = absurd free
  member_tells (struct type) word way p evaluate ask free h =
      if_more (ask (through_member word way)) (Tell (through_member word way) owner (struct type) evaluate) (Tell way p (known_kind (member_kind s.layouts (struct type) word)) (λ m. member_value (struct type) word (evaluate m)))
      (λ t g m n shown runs. member_told (struct type) word way p (evaluate m) (test_value z.apply t n) refl (g m n shown runs)) (h (through_member word way))
  member_tells packet_in word way p evaluate ask free h =
      if_more (ask (through_member word way)) (Tell (through_member word way) owner packet_in evaluate) (Tell way p (known_kind (member_kind s.layouts packet_in word)) (λ m. member_value packet_in word (evaluate m)))
      (λ t g m n shown runs. member_told packet_in word way p (evaluate m) (test_value z.apply t n) refl (g m n shown runs)) (h (through_member word way))
  member_tells packet_out word way p evaluate ask free h =
      if_more (ask (through_member word way)) (Tell (through_member word way) owner packet_out evaluate) (Tell way p (known_kind (member_kind s.layouts packet_out word)) (λ m. member_value packet_out word (evaluate m)))
      (λ t g m n shown runs. member_told packet_out word way p (evaluate m) (test_value z.apply t n) refl (g m n shown runs)) (h (through_member word way))
  member_tells errors word way p evaluate ask free h = tt
  member_tells (enumeration enum) word way p evaluate ask free h = tt
  member_tells (one_of enum) word way p evaluate ask free h =
      if_more (ask (through_member word way)) (Tell (through_member word way) owner (one_of enum) evaluate) (Tell way p (known_kind (member_kind s.layouts (one_of enum) word)) (λ m. member_value (one_of enum) word (evaluate m)))
      (λ t g m n shown runs. member_told (one_of enum) word way p (evaluate m) (test_value z.apply t n) refl (g m n shown runs)) (h (through_member word way))
  member_tells table word way p evaluate ask free h =
      if_more (ask (through_member word way)) (Tell (through_member word way) owner table evaluate) (Tell way p (known_kind (member_kind s.layouts table word)) (λ m. member_value table word (evaluate m)))
      (λ t g m n shown runs. member_told table word way p (evaluate m) (test_value z.apply t n) refl (g m n shown runs)) (h (through_member word way))
  member_tells applied word way p evaluate ask free h =
      if_more (ask (through_member word way)) (Tell (through_member word way) owner applied evaluate) (Tell way p (known_kind (member_kind s.layouts applied word)) (λ m. member_value applied word (evaluate m)))
      (λ t g m n shown runs. member_told applied word way p (evaluate m) (test_value z.apply t n) refl (g m n shown runs)) (h (through_member word way))
  member_tells (object obj) word way p evaluate ask free h =
      if_more (ask (through_member word way)) (Tell (through_member word way) owner (object obj) evaluate) (Tell way p (known_kind (member_kind s.layouts (object obj) word)) (λ m. member_value (object obj) word (evaluate m)))
      (λ t g m n shown runs. member_told (object obj) word way p (evaluate m) (test_value z.apply t n) refl (g m n shown runs)) (h (through_member word way))
  member_tells items word way p evaluate ask free h =
      if_more (ask (through_member word way)) (Tell (through_member word way) owner items evaluate) (Tell way p (known_kind (member_kind s.layouts items word)) (λ m. member_value items word (evaluate m)))
      (λ t g m n shown runs. member_told items word way p (evaluate m) (test_value z.apply t n) refl (g m n shown runs)) (h (through_member word way))
  member_tells nothing word way p evaluate ask free h =
      if_more (ask (through_member word way)) (Tell (through_member word way) owner nothing evaluate) (Tell way p (known_kind (member_kind s.layouts nothing word)) (λ m. member_value nothing word (evaluate m)))
      (λ t g m n shown runs. member_told nothing word way p (evaluate m) (test_value z.apply t n) refl (g m n shown runs)) (h (through_member word way))
  member_tells unknown word way p evaluate ask free h =
      if_more (ask (through_member word way)) (Tell (through_member word way) owner unknown evaluate) (Tell way p (known_kind (member_kind s.layouts unknown word)) (λ m. member_value unknown word (evaluate m)))
      (λ t g m n shown runs. member_told unknown word way p (evaluate m) (test_value z.apply t n) refl (g m n shown runs)) (h (through_member word way))

  -- methods

  valid_told : (type word : Name) (p : Place) (x : Value16) (y : Valued) → Told its_validity owner (header type) x y → Told its_value p (call_kind (method_signature (header type) word)) (valued (a_truth (header_in x.value).valid) x.moment) y
  valid_told type word p x y h = record {
    told = h.told;
    runs = h.runs;
    shown = h.shown;
    typed = truth_of s.layouts y.moment.cells p (call_kind (method_signature (header type) word)) (header_in x.value).valid;
    class = λ v e. valid_class s.layouts fine.members y.moment.cells [] narrow h.shown.shows.whole.whole (bytes_eq word (codes "isValid")) (bytes_eq word (codes "setValid")) (bytes_eq word (codes "setInvalid")) v (h.class v e);
    below = h.below;
  }

  method_tells : (k : Kind) (word : Name) (e : Exp16) (way : Way) (p : Place) (evaluate : sem.Moment → Value16) (ask : Way → Option Test) → ((further : Way) → IfSome (ask further) (Tell further owner k evaluate)) → IfSome (method_test k way ask) (Tell way p (call_kind (method_signature k word)) (λ m. method_value w k e (evaluate m)))
  method_tells (bits width) word e way p evaluate ask h = tt
  method_tells unsized word e way p evaluate ask h = tt
  method_tells boolean word e way p evaluate ask h = tt
  method_tells error_code word e way p evaluate ask h = tt
  method_tells (header type) word e way p evaluate ask h =
      value_only way p (call_kind (method_signature (header type) word)) (λ m. method_value w (header type) e (evaluate m)) (ask its_validity)
      (if_more (ask its_validity) (Tell its_validity owner (header type) evaluate) (Tell its_value p (call_kind (method_signature (header type) word)) (λ m. method_value w (header type) e (evaluate m)))
      (λ t g m n shown runs. valid_told type word p (evaluate m) (test_value z.apply t n) (g m n shown runs)) (h its_validity))
  method_tells (stack type extent) word e way p evaluate ask h = tt
  method_tells (struct type) word e way p evaluate ask h = tt
  method_tells packet_in word e way p evaluate ask h = tt
  method_tells packet_out word e way p evaluate ask h = tt
  method_tells errors word e way p evaluate ask h = tt
  method_tells (enumeration enum) word e way p evaluate ask h = tt
  method_tells (one_of enum) word e way p evaluate ask h = tt
  method_tells table word e way p evaluate ask h = tt
  method_tells applied word e way p evaluate ask h = tt
  method_tells (object obj) word e way p evaluate ask h = tt
  method_tells items word e way p evaluate ask h = tt
  method_tells nothing word e way p evaluate ask h = tt
  method_tells unknown word e way p evaluate ask h = tt

  -- applications

  abbrev AllApply : Type 0
  AllApply =
      (text : Name) → IfSome (table_found b text) (λ number. (m : sem.Moment) (n : Moment) → Shown P b.syntax who m n → m.stopped ≡ None → AppliedShows P b who (w.apply text m) (z.apply number n))

  abbrev OneApplies : Name → ℕ → Type 0
  OneApplies text number = (m : sem.Moment) (n : Moment) → Shown P b.syntax who m n → m.stopped ≡ None → AppliedShows P b who (w.apply text m) (z.apply number n)

  hit_tells : (p : Place) (text : Name) (o : Option ℕ) → IfSome o (OneApplies text) → IfSome (option_map hits o) (Tell its_value p boolean (λ m. member_value applied (codes "hit") (told (w.apply text m))))
  hit_tells p text None h = tt
  hit_tells p text (Some number) h = λ m n shown runs.
      let a = h m n shown runs in
      record {
        told = ap (λ (t : Bool). given (a_truth t)) (sym a.hit);
        runs = a.runs;
        shown = a.moment;
        typed = tt;
        class = λ v e. ((z.apply number n).hit, sym (same_given (a_truth (z.apply number n).hit) v e));
        below = tt;
      }

  miss_tells : (p : Place) (text : Name) (o : Option ℕ) → IfSome o (OneApplies text) → IfSome (option_map misses o) (Tell its_value p boolean (λ m. member_value applied (codes "miss") (told (w.apply text m))))
  miss_tells p text None h = tt
  miss_tells p text (Some number) h = λ m n shown runs.
      let a = h m n shown runs in
      record {
        told = ap (λ (t : Bool). given (a_truth (not t))) (sym a.hit);
        runs = a.runs;
        shown = a.moment;
        typed = tt;
        class = λ v e. (not (z.apply number n).hit, sym (same_given (a_truth (not (z.apply number n).hit)) v e));
        below = tt;
      }

  abbrev Applies : Name → Name → Place → Kind → Kind → Type 0
  Applies text word p k j =
      IfSome (option_map (cond (bytes_eq word (codes "hit")) hits misses) (table_found b text))
      (Tell its_value p (known_kind (member_kind s.layouts k word)) (λ m. member_value k word (method_value w j (name text) (value_of w s owner (name text) m))))

  by_word : AllApply → (text word : Name) (p : Place) → IsTold applied word → Applies text word p applied table
  by_word all text word p (inl is) =
      let same : word ≡ codes "hit" = (bytes_eq-Decides word (codes "hit")).0 is in
      subst (λ (x : Name). Applies text x p applied table) (sym same) (hit_tells p text (table_found b text) (all text))
  by_word all text word p (inr is) =
      let same : word ≡ codes "miss" = (bytes_eq-Decides word (codes "miss")).0 is in
      subst (λ (x : Name). Applies text x p applied table) (sym same) (miss_tells p text (table_found b text) (all text))

  named_applies : AllApply → (text word : Name) (p : Place) (k j : Kind) → k ≡ applied → j ≡ table → IsTold k word → Applies text word p k j
  named_applies all text word p k j k_is j_is =
      subst (λ (i : Kind). IsTold i word → Applies text word p i j) (sym k_is)
      (subst (λ (i : Kind). IsTold applied word → Applies text word p applied i) (sym j_is) (by_word all text word p))

  -- an application

  module _ (all : AllApply) (named : TablesNamed s) where
    application_tells : (e : Exp16) (word : Name) (way : Way) (p : Place) → ToldNone s e → is_application s e ≡ true → IsTold (kind_of s e) word → IfSome (only_value way (applied_test (table_found b) e word)) (Tell way p (known_kind (member_kind s.layouts (kind_of s e) word)) (λ m. member_value (kind_of s e) word (value_of w s owner e m)))
    application_tells (literal n) word way p free is known = absurd (cc is)
    application_tells (truth holds) word way p free is known = absurd (cc is)
    application_tells error word way p free is known = absurd (cc is)
    application_tells (name text) word way p free is known = absurd (cc is)
    application_tells (member e term) word way p free is known = absurd (cc is)
    application_tells (index e at) word way p free is known = absurd (cc is)
    application_tells (slice e high low) word way p free is known = absurd (cc is)
    application_tells (call (literal n) handed) word way p free is known = no_test way _
    application_tells (call (truth holds) handed) word way p free is known = no_test way _
    application_tells (call error handed) word way p free is known = no_test way _
    application_tells (call (name text) handed) word way p free is known = no_test way _
    application_tells (call (member t term) handed) word way p free is known =
        value_only way p (known_kind (member_kind s.layouts (kind_of s (call (member t term) handed)) word)) (λ m. member_value (kind_of s (call (member t term) handed)) word (value_of w s owner (call (member t term) handed) m)) (applied_test (table_found b) (call (member t term) handed) word)
        (let its_name = named t free.1 (table_only (kind_of s t) term is) in by t its_name.0 its_name.1 is (table_only (kind_of s t) term is) known) where
          by : (x : Exp16) (text : Name) → x ≡ name text → is_application s (call (member x term) handed) ≡ true → kind_of s x ≡ table → IsTold (kind_of s (call (member x term) handed)) word → IfSome (applied_test (table_found b) (call (member x term) handed) word) (Tell its_value p (known_kind (member_kind s.layouts (kind_of s (call (member x term) handed)) word)) (λ m. member_value (kind_of s (call (member x term) handed)) word (value_of w s owner (call (member x term) handed) m)))
          by x text same =
              subst (λ (y : Exp16). is_application s (call (member y term) handed) ≡ true → kind_of s y ≡ table → IsTold (kind_of s (call (member y term) handed)) word → IfSome (applied_test (table_found b) (call (member y term) handed) word) (Tell its_value p (known_kind (member_kind s.layouts (kind_of s (call (member y term) handed)) word)) (λ m. member_value (kind_of s (call (member y term) handed)) word (value_of w s owner (call (member y term) handed) m)))) (sym same)
              (λ app kt k. named_applies all text word p (kind_of s (call (member (name text) term) handed)) (kind_of s (name text)) (applied_only (kind_of s (call (member (name text) term) handed)) app) kt k)
    application_tells (call (index e at) handed) word way p free is known = no_test way _
    application_tells (call (slice e high low) handed) word way p free is known = no_test way _
    application_tells (call (call g more) handed) word way p free is known = no_test way _
    application_tells (call (lookahead e to more) handed) word way p free is known = no_test way _
    application_tells (call (cast to e) handed) word way p free is known = no_test way _
    application_tells (call (unary operator e) handed) word way p free is known = no_test way _
    application_tells (call (binary operator a d) handed) word way p free is known = no_test way _
    application_tells (call (choice c a d) handed) word way p free is known = no_test way _
    application_tells (call (parenthesized e) handed) word way p free is known = no_test way _
    application_tells (call no_arguments handed) word way p free is known = no_test way _
    application_tells (call (argument before last) handed) word way p free is known = no_test way _
    application_tells (call (listed es) handed) word way p free is known = no_test way _
    application_tells (lookahead e to more) word way p free is known = absurd (cc is)
    application_tells (cast to e) word way p free is known = absurd (cc is)
    application_tells (unary operator e) word way p free is known = absurd (cc is)
    application_tells (binary operator a d) word way p free is known = absurd (cc is)
    application_tells (choice c a d) word way p free is known = absurd (cc is)
    application_tells (parenthesized e) word way p free is known = absurd (cc is)
    application_tells no_arguments word way p free is known = absurd (cc is)
    application_tells (argument before last) word way p free is known = absurd (cc is)
    application_tells (listed es) word way p free is known = absurd (cc is)

    -- all that is ready

    abbrev tables : Name → Option ℕ
    tables = table_found b

    abbrev Asks : Exp16 → Type 0
    Asks e = (p q : Place) (way : Way) → Keeps s q e → ToldNone s e → IfSome (asked_test s seats tables p way e) (Tell way p (kind_of s e) (value_of w s p e))

    member_asks : (e : Exp16) (word : Name) → Asks e → Asks (member e word)
    member_asks e word asks p q way keeps free =
        flagged (applies s e) (asked_ready s seats p way (member e word)) (member_test (is_application s e) (only_value way (applied_test tables e word)) (part_test (kind_of s e) word way (λ further. asked_test s seats tables owner further e)))
        (Tell way p (kind_of s (member e word)) (value_of w s p (member e word))) (plain_some p q way (member e word) keeps free) (by (is_application s e) refl) where
          r : Place
          r = owner_place q (method_signature (kind_of s e) word)

          by : (t : Bool) → is_application s e ≡ t → IfSome (member_test t (only_value way (applied_test tables e word)) (part_test (kind_of s e) word way (λ further. asked_test s seats tables owner further e))) (Tell way p (kind_of s (member e word)) (value_of w s p (member e word)))
          by true is = application_tells e word way p free.1 is free.0
          by false is =
              member_tells (kind_of s e) word way p (value_of w s owner e) (λ further. asked_test s seats tables owner further e) free.0
              (λ further. asks owner r further (rest_keeps (an_expression s q (member e word)) (uses_at s (one r) e) keeps) free.1)

    element_told : (k : Kind) (number : ℕ) (way : Way) (p : Place) (x : Value16) (y : Valued) → Told (through_element number way) a_stack k x y → Told way p (element_kind k) (valued (part_of x.value (to_element number)) x.moment) y
    element_told k number way p x y h = record {
      told = h.told;
      runs = h.runs;
      shown = h.shown;
      typed = indexed_of s.layouts y.moment.cells p a_stack k x.value number h.typed;
      class = λ v e. h.class v e;
      below = h.below;
    }

    index_asks : (e : Exp16) (at : Literal16) → Asks e → Asks (index e at)
    index_asks e at asks p q way keeps free =
        flagged (applies s e) (asked_ready s seats p way (index e at)) (asked_test s seats tables a_stack (through_element at.value way) e) (Tell way p (kind_of s (index e at)) (value_of w s p (index e at))) (plain_some p q way (index e at) keeps free)
        (if_more (asked_test s seats tables a_stack (through_element at.value way) e) (Tell (through_element at.value way) a_stack (kind_of s e) (value_of w s a_stack e)) (Tell way p (kind_of s (index e at)) (value_of w s p (index e at)))
        (λ t h m n shown runs. element_told (kind_of s e) at.value way p (value_of w s a_stack e m) (test_value z.apply t n) (h m n shown runs))
        (asks a_stack a_stack (through_element at.value way) (rest_keeps (number_use at) (uses_at s (one a_stack) e) (rest_keeps (an_expression s q (index e at)) (number_use at ∷ uses_at s (one a_stack) e) keeps)) free))

    slice_asks : (e : Exp16) (high low : Literal16) → Asks e → Asks (slice e high low)
    slice_asks e high low asks p q way keeps free =
        flagged (applies s e) (asked_ready s seats p way (slice e high low)) (only_value way (option_map (slice_test high low) (asked_test s seats tables any_bits its_value e))) (Tell way p (kind_of s (slice e high low)) (value_of w s p (slice e high low))) (plain_some p q way (slice e high low) keeps free)
        (value_only way p (kind_of s (slice e high low)) (value_of w s p (slice e high low)) (option_map (slice_test high low) (asked_test s seats tables any_bits its_value e))
        (mapped (slice_test high low) (asked_test s seats tables any_bits its_value e) (Tell its_value any_bits (kind_of s e) (value_of w s any_bits e)) (Tell its_value p (kind_of s (slice e high low)) (value_of w s p (slice e high low)))
        (λ t h. slice_tells p (kind_of s e) high low (value_of w s any_bits e) t h)
        (asks any_bits any_bits its_value (rest_keeps (number_use low) (uses_at s (one any_bits) e) (rest_keeps (number_use high) (number_use low ∷ uses_at s (one any_bits) e) (rest_keeps (an_expression s q (slice e high low)) (number_use high ∷ number_use low ∷ uses_at s (one any_bits) e) keeps))) free)))

    call_asks : (e handed : Exp16) (word : Name) → Asks e → Asks (call (member e word) handed)
    call_asks e handed word asks p q way keeps free =
        let f = member e word in
        let r = owner_place callee (method_signature (kind_of s e) word) in
        let arguments = uses_at s (many (wanted_by (signature_of s f)) unasked) handed in
        flagged (applies s e) (asked_ready s seats p way (call f handed)) (method_test (kind_of s e) way (λ further. asked_test s seats tables owner further e)) (Tell way p (kind_of s (call f handed)) (value_of w s p (call f handed))) (plain_some p q way (call f handed) keeps free)
        (method_tells (kind_of s e) word e way p (value_of w s owner e) (λ further. asked_test s seats tables owner further e)
        (λ further. asks owner r further (rest_keeps (an_expression s callee f) (uses_at s (one r) e) (front (uses_at s (one callee) f) arguments (rest_keeps (an_expression s q (call f handed)) (uses_at s (one callee) f ++ arguments) keeps))) free.1))

    cast_asks : (to : CastType) (e : Exp16) → Asks e → Asks (cast to e)
    cast_asks to e asks p q way keeps free =
        let own : KeepsAll (cast_numbers to ++ uses_at s (one (cast_place to)) e) = rest_keeps (an_expression s q (cast to e)) (cast_numbers to ++ uses_at s (one (cast_place to)) e) keeps in
        let inner : Keeps s (cast_place to) e = back (cast_numbers to) (uses_at s (one (cast_place to)) e) own in
        flagged (applies s e) (asked_ready s seats p way (cast to e)) (only_value way (option_map (cast_test to) (asked_test s seats tables (cast_place to) its_value e))) (Tell way p (kind_of s (cast to e)) (value_of w s p (cast to e))) (plain_some p q way (cast to e) keeps free)
        (value_only way p (kind_of s (cast to e)) (value_of w s p (cast to e)) (option_map (cast_test to) (asked_test s seats tables (cast_place to) its_value e))
        (mapped (cast_test to) (asked_test s seats tables (cast_place to) its_value e) (Tell its_value (cast_place to) (kind_of s e) (value_of w s (cast_place to) e)) (Tell its_value p (kind_of s (cast to e)) (value_of w s p (cast to e)))
        (λ t h. cast_tells p to e (value_of w s (cast_place to) e) t (taken s (cast_place to) e inner.0) (front (cast_numbers to) (uses_at s (one (cast_place to)) e) own).1 h)
        (asks (cast_place to) (cast_place to) its_value inner free)))

    unary_asks : (operator : UnaryOperator) (e : Exp16) → Asks e → Asks (unary operator e)
    unary_asks operator e asks p q way keeps free =
        let l = unary_place p operator (kind_of s e) in
        let r = unary_place q operator (kind_of s e) in
        let inner : Keeps s r e = rest_keeps (an_expression s q (unary operator e)) (uses_at s (one r) e) keeps in
        flagged (applies s e) (asked_ready s seats p way (unary operator e)) (only_value way (option_map (alone (single.Operator operator)) (asked_test s seats tables l its_value e))) (Tell way p (kind_of s (unary operator e)) (value_of w s p (unary operator e))) (plain_some p q way (unary operator e) keeps free)
        (value_only way p (kind_of s (unary operator e)) (value_of w s p (unary operator e)) (option_map (alone (single.Operator operator)) (asked_test s seats tables l its_value e))
        (mapped (alone (single.Operator operator)) (asked_test s seats tables l its_value e) (Tell its_value l (kind_of s e) (value_of w s l e)) (Tell its_value p (kind_of s (unary operator e)) (value_of w s p (unary operator e)))
        (λ t h. unary_tells p q operator e (value_of w s l e) t (taken s r e inner.0) h)
        (asks l r its_value inner free)))

    -- what is judged in two operands
    record Two (q : Place) (operator : BinaryOperator) (a d : Exp16) : Type 0 where
      left : Keeps s (left_place q operator (kind_of s a) (kind_of s d)) a
      right : Keeps s (right_place q operator (kind_of s a) (kind_of s d)) d
      fits : KindsFit operator (kind_of s a) (kind_of s d)

    two_kept : (q : Place) (operator : BinaryOperator) (a d : Exp16) → Keeps s q (binary operator a d) → Two q operator a d
    two_kept q operator a d keeps =
        let l = uses_at s (one (left_place q operator (kind_of s a) (kind_of s d))) a in
        let r = uses_at s (one (right_place q operator (kind_of s a) (kind_of s d))) d in
        let own : KeepsAll (l ++ r) = rest_keeps (an_expression s q (binary operator a d)) (l ++ r) keeps in
        record {
          left = front l r own;
          right = back l r own;
          fits =
              kinds_fit q operator a d (kind_of s a) (kind_of s d) (taken s (left_place q operator (kind_of s a) (kind_of s d)) a (front l r own).0) (taken s (right_place q operator (kind_of s a) (kind_of s d)) d (back l r own).0)
              (first_false (leaves_size (an_expression s q (binary operator a d))) (list_any leaves_size (l ++ r)) keeps.1);
        }

    -- an operator whose test is a pair
    pair_asks : (operator : BinaryOperator) (p q : Place) (way : Way) (a d : Exp16) → Strict operator → Keeps s q (binary operator a d) → ToldNone s a × ToldNone s d → Asks a → Asks d
        → IfSome (only_value way (with_two (pair operator) (asked_test s seats tables (left_place p operator (kind_of s a) (kind_of s d)) its_value a) (asked_test s seats tables (right_place p operator (kind_of s a) (kind_of s d)) its_value d)))
        (Tell way p (binary_kind operator (kind_of s a) (kind_of s d)) (λ m. valued (binary_value operator (value_of w s (left_place p operator (kind_of s a) (kind_of s d)) a m).value (value_of w s (right_place p operator (kind_of s a) (kind_of s d)) d (value_of w s (left_place p operator (kind_of s a) (kind_of s d)) a m).moment).value) (value_of w s (right_place p operator (kind_of s a) (kind_of s d)) d (value_of w s (left_place p operator (kind_of s a) (kind_of s d)) a m).moment).moment))
    pair_asks operator p q way a d strict keeps free f g =
        let l = left_place p operator (kind_of s a) (kind_of s d) in
        let r = right_place p operator (kind_of s a) (kind_of s d) in
        let two = two_kept q operator a d keeps in
        value_only way p (binary_kind operator (kind_of s a) (kind_of s d)) _ (with_two (pair operator) (asked_test s seats tables l its_value a) (asked_test s seats tables r its_value d))
        (two_made (pair operator) (asked_test s seats tables l its_value a) (asked_test s seats tables r its_value d) (Tell its_value l (kind_of s a) (value_of w s l a)) (Tell its_value r (kind_of s d) (value_of w s r d)) _
        (λ t u h k. pair_tells p q operator a d t u strict two.fits (taken s (left_place q operator (kind_of s a) (kind_of s d)) a two.left.0) (taken s (right_place q operator (kind_of s a) (kind_of s d)) d two.right.0) (value_of w s l a) (value_of w s r d) h k)
        (f l (left_place q operator (kind_of s a) (kind_of s d)) its_value two.left free.0) (g r (right_place q operator (kind_of s a) (kind_of s d)) its_value two.right free.1))

    truths : (q : Place) (a d : Exp16) → Two q And a d → (kind_of s a ≡ boolean) × (kind_of s d ≡ boolean)
    truths q a d two = (truth_only a (kind_of s a) (taken s (value boolean) a two.left.0), truth_only d (kind_of s d) (taken s (value boolean) d two.right.0))

    or_truths : (q : Place) (a d : Exp16) → Two q Or a d → (kind_of s a ≡ boolean) × (kind_of s d ≡ boolean)
    or_truths q a d two = (truth_only a (kind_of s a) (taken s (value boolean) a two.left.0), truth_only d (kind_of s d) (taken s (value boolean) d two.right.0))

    and_asks : (a d : Exp16) → Asks a → Asks d → Asks (binary And a d)
    and_asks a d f g p q way keeps free =
        let two = two_kept q And a d keeps in
        let are = truths q a d two in
        flagged (applies s a || applies s d) (asked_ready s seats p way (binary And a d)) (only_value way (with_two both (asked_test s seats tables (value boolean) its_value a) (asked_test s seats tables (value boolean) its_value d))) (Tell way p boolean (value_of w s p (binary And a d))) (plain_some p q way (binary And a d) keeps free)
        (value_only way p boolean (value_of w s p (binary And a d)) (with_two both (asked_test s seats tables (value boolean) its_value a) (asked_test s seats tables (value boolean) its_value d))
        (two_made both (asked_test s seats tables (value boolean) its_value a) (asked_test s seats tables (value boolean) its_value d) (Tell its_value (value boolean) (kind_of s a) (value_of w s (value boolean) a)) (Tell its_value (value boolean) (kind_of s d) (value_of w s (value boolean) d)) (Tell its_value p boolean (value_of w s p (binary And a d)))
        (λ t u h k. both_tells p a d t u are.0 are.1 (value_of w s (value boolean) a) (value_of w s (value boolean) d) h k)
        (f (value boolean) (value boolean) its_value two.left free.0) (g (value boolean) (value boolean) its_value two.right free.1)))

    or_asks : (a d : Exp16) → Asks a → Asks d → Asks (binary Or a d)
    or_asks a d f g p q way keeps free =
        let two = two_kept q Or a d keeps in
        let are = or_truths q a d two in
        flagged (applies s a || applies s d) (asked_ready s seats p way (binary Or a d)) (only_value way (with_two either (asked_test s seats tables (value boolean) its_value a) (asked_test s seats tables (value boolean) its_value d))) (Tell way p boolean (value_of w s p (binary Or a d))) (plain_some p q way (binary Or a d) keeps free)
        (value_only way p boolean (value_of w s p (binary Or a d)) (with_two either (asked_test s seats tables (value boolean) its_value a) (asked_test s seats tables (value boolean) its_value d))
        (two_made either (asked_test s seats tables (value boolean) its_value a) (asked_test s seats tables (value boolean) its_value d) (Tell its_value (value boolean) (kind_of s a) (value_of w s (value boolean) a)) (Tell its_value (value boolean) (kind_of s d) (value_of w s (value boolean) d)) (Tell its_value p boolean (value_of w s p (binary Or a d)))
        (λ t u h k. either_tells p a d t u are.0 are.1 (value_of w s (value boolean) a) (value_of w s (value boolean) d) h k)
        (f (value boolean) (value boolean) its_value two.left free.0) (g (value boolean) (value boolean) its_value two.right free.1)))

    choice_asks : (c a d : Exp16) → Asks c → Asks a → Asks d → Asks (choice c a d)
    choice_asks c a d h f g p q way keeps free =
        let l = chosen_place p (kind_of s a) (kind_of s d) in
        let r = chosen_place q (kind_of s a) (kind_of s d) in
        let x = uses_at s (one (value boolean)) c in
        let y = uses_at s (one r) a in
        let v = uses_at s (one r) d in
        let own : KeepsAll ((x ++ y) ++ v) = rest_keeps (an_expression s q (choice c a d)) ((x ++ y) ++ v) keeps in
        let first : KeepsAll (x ++ y) = front (x ++ y) v own in
        flagged (applies s c || applies s a || applies s d) (asked_ready s seats p way (choice c a d)) (with_three test_choice (asked_test s seats tables (value boolean) its_value c) (asked_test s seats tables l way a) (asked_test s seats tables l way d)) (Tell way p (kind_of s (choice c a d)) (value_of w s p (choice c a d))) (plain_some p q way (choice c a d) keeps free)
        (three_made test_choice (asked_test s seats tables (value boolean) its_value c) (asked_test s seats tables l way a) (asked_test s seats tables l way d) (Tell its_value (value boolean) (kind_of s c) (value_of w s (value boolean) c)) (Tell way l (kind_of s a) (value_of w s l a)) (Tell way l (kind_of s d) (value_of w s l d)) (Tell way p (kind_of s (choice c a d)) (value_of w s p (choice c a d)))
        (λ t u i k m n. choice_tells way p (kind_of s a) (kind_of s d) (kind_of s c) t u i (value_of w s (value boolean) c) (value_of w s l a) (value_of w s l d) k m n)
        (h (value boolean) (value boolean) its_value (front x y first) free.0) (f l r way (back x y first) free.1) (g l r way (back (x ++ y) v own) free.2))

    pub asks : (e : Exp16) → Asks e
    asks (literal n) p q way keeps free = plain_some p q way (literal n) keeps free
    asks (truth holds) p q way keeps free = plain_some p q way (truth holds) keeps free
    asks error p q way keeps free = plain_some p q way error keeps free
    asks (name text) p q way keeps free = plain_some p q way (name text) keeps free
    asks (member e word) p q way keeps free = member_asks e word (asks e) p q way keeps free
    asks (index e at) p q way keeps free = index_asks e at (asks e) p q way keeps free
    asks (slice e high low) p q way keeps free = slice_asks e high low (asks e) p q way keeps free
    asks (call (literal n) handed) p q way keeps free = plain_some p q way (call (literal n) handed) keeps free
    asks (call (truth holds) handed) p q way keeps free = plain_some p q way (call (truth holds) handed) keeps free
    asks (call error handed) p q way keeps free = plain_some p q way (call error handed) keeps free
    asks (call (name text) handed) p q way keeps free = plain_some p q way (call (name text) handed) keeps free
    asks (call (member e word) handed) p q way keeps free = call_asks e handed word (asks e) p q way keeps free
    asks (call (index e at) handed) p q way keeps free = plain_some p q way (call (index e at) handed) keeps free
    asks (call (slice e high low) handed) p q way keeps free = plain_some p q way (call (slice e high low) handed) keeps free
    asks (call (call g more) handed) p q way keeps free = plain_some p q way (call (call g more) handed) keeps free
    asks (call (lookahead e to more) handed) p q way keeps free = plain_some p q way (call (lookahead e to more) handed) keeps free
    asks (call (cast to e) handed) p q way keeps free = plain_some p q way (call (cast to e) handed) keeps free
    asks (call (unary operator e) handed) p q way keeps free = plain_some p q way (call (unary operator e) handed) keeps free
    asks (call (binary operator a d) handed) p q way keeps free = plain_some p q way (call (binary operator a d) handed) keeps free
    asks (call (choice c a d) handed) p q way keeps free = plain_some p q way (call (choice c a d) handed) keeps free
    asks (call (parenthesized e) handed) p q way keeps free = plain_some p q way (call (parenthesized e) handed) keeps free
    asks (call no_arguments handed) p q way keeps free = plain_some p q way (call no_arguments handed) keeps free
    asks (call (argument before last) handed) p q way keeps free = plain_some p q way (call (argument before last) handed) keeps free
    asks (call (listed es) handed) p q way keeps free = plain_some p q way (call (listed es) handed) keeps free
    asks (lookahead e to more) p q way keeps free = plain_some p q way (lookahead e to more) keeps free
    asks (cast to e) p q way keeps free = cast_asks to e (asks e) p q way keeps free
    asks (unary operator e) p q way keeps free = unary_asks operator e (asks e) p q way keeps free
    asks (binary And a d) p q way keeps free = and_asks a d (asks a) (asks d) p q way keeps free
    asks (binary Or a d) p q way keeps free = or_asks a d (asks a) (asks d) p q way keeps free
    asks (binary Multiply a d) p q way keeps free = flagged (applies s a || applies s d) (asked_ready s seats p way (binary Multiply a d)) (only_value way (with_two (pair Multiply) (asked_test s seats tables (left_place p Multiply (kind_of s a) (kind_of s d)) its_value a) (asked_test s seats tables (right_place p Multiply (kind_of s a) (kind_of s d)) its_value d))) (Tell way p (kind_of s (binary Multiply a d)) (value_of w s p (binary Multiply a d))) (plain_some p q way (binary Multiply a d) keeps free) (pair_asks Multiply p q way a d tt keeps free (asks a) (asks d))
    asks (binary Add a d) p q way keeps free = flagged (applies s a || applies s d) (asked_ready s seats p way (binary Add a d)) (only_value way (with_two (pair Add) (asked_test s seats tables (left_place p Add (kind_of s a) (kind_of s d)) its_value a) (asked_test s seats tables (right_place p Add (kind_of s a) (kind_of s d)) its_value d))) (Tell way p (kind_of s (binary Add a d)) (value_of w s p (binary Add a d))) (plain_some p q way (binary Add a d) keeps free) (pair_asks Add p q way a d tt keeps free (asks a) (asks d))
    asks (binary Subtract a d) p q way keeps free = flagged (applies s a || applies s d) (asked_ready s seats p way (binary Subtract a d)) (only_value way (with_two (pair Subtract) (asked_test s seats tables (left_place p Subtract (kind_of s a) (kind_of s d)) its_value a) (asked_test s seats tables (right_place p Subtract (kind_of s a) (kind_of s d)) its_value d))) (Tell way p (kind_of s (binary Subtract a d)) (value_of w s p (binary Subtract a d))) (plain_some p q way (binary Subtract a d) keeps free) (pair_asks Subtract p q way a d tt keeps free (asks a) (asks d))
    asks (binary SaturatingAdd a d) p q way keeps free = flagged (applies s a || applies s d) (asked_ready s seats p way (binary SaturatingAdd a d)) (only_value way (with_two (pair SaturatingAdd) (asked_test s seats tables (left_place p SaturatingAdd (kind_of s a) (kind_of s d)) its_value a) (asked_test s seats tables (right_place p SaturatingAdd (kind_of s a) (kind_of s d)) its_value d))) (Tell way p (kind_of s (binary SaturatingAdd a d)) (value_of w s p (binary SaturatingAdd a d))) (plain_some p q way (binary SaturatingAdd a d) keeps free) (pair_asks SaturatingAdd p q way a d tt keeps free (asks a) (asks d))
    asks (binary SaturatingSubtract a d) p q way keeps free = flagged (applies s a || applies s d) (asked_ready s seats p way (binary SaturatingSubtract a d)) (only_value way (with_two (pair SaturatingSubtract) (asked_test s seats tables (left_place p SaturatingSubtract (kind_of s a) (kind_of s d)) its_value a) (asked_test s seats tables (right_place p SaturatingSubtract (kind_of s a) (kind_of s d)) its_value d))) (Tell way p (kind_of s (binary SaturatingSubtract a d)) (value_of w s p (binary SaturatingSubtract a d))) (plain_some p q way (binary SaturatingSubtract a d) keeps free) (pair_asks SaturatingSubtract p q way a d tt keeps free (asks a) (asks d))
    asks (binary Concatenate a d) p q way keeps free = flagged (applies s a || applies s d) (asked_ready s seats p way (binary Concatenate a d)) (only_value way (with_two (pair Concatenate) (asked_test s seats tables (left_place p Concatenate (kind_of s a) (kind_of s d)) its_value a) (asked_test s seats tables (right_place p Concatenate (kind_of s a) (kind_of s d)) its_value d))) (Tell way p (kind_of s (binary Concatenate a d)) (value_of w s p (binary Concatenate a d))) (plain_some p q way (binary Concatenate a d) keeps free) (pair_asks Concatenate p q way a d tt keeps free (asks a) (asks d))
    asks (binary ShiftLeft a d) p q way keeps free = flagged (applies s a || applies s d) (asked_ready s seats p way (binary ShiftLeft a d)) (only_value way (with_two (pair ShiftLeft) (asked_test s seats tables (left_place p ShiftLeft (kind_of s a) (kind_of s d)) its_value a) (asked_test s seats tables (right_place p ShiftLeft (kind_of s a) (kind_of s d)) its_value d))) (Tell way p (kind_of s (binary ShiftLeft a d)) (value_of w s p (binary ShiftLeft a d))) (plain_some p q way (binary ShiftLeft a d) keeps free) (pair_asks ShiftLeft p q way a d tt keeps free (asks a) (asks d))
    asks (binary ShiftRight a d) p q way keeps free = flagged (applies s a || applies s d) (asked_ready s seats p way (binary ShiftRight a d)) (only_value way (with_two (pair ShiftRight) (asked_test s seats tables (left_place p ShiftRight (kind_of s a) (kind_of s d)) its_value a) (asked_test s seats tables (right_place p ShiftRight (kind_of s a) (kind_of s d)) its_value d))) (Tell way p (kind_of s (binary ShiftRight a d)) (value_of w s p (binary ShiftRight a d))) (plain_some p q way (binary ShiftRight a d) keeps free) (pair_asks ShiftRight p q way a d tt keeps free (asks a) (asks d))
    asks (binary BitAnd a d) p q way keeps free = flagged (applies s a || applies s d) (asked_ready s seats p way (binary BitAnd a d)) (only_value way (with_two (pair BitAnd) (asked_test s seats tables (left_place p BitAnd (kind_of s a) (kind_of s d)) its_value a) (asked_test s seats tables (right_place p BitAnd (kind_of s a) (kind_of s d)) its_value d))) (Tell way p (kind_of s (binary BitAnd a d)) (value_of w s p (binary BitAnd a d))) (plain_some p q way (binary BitAnd a d) keeps free) (pair_asks BitAnd p q way a d tt keeps free (asks a) (asks d))
    asks (binary BitXor a d) p q way keeps free = flagged (applies s a || applies s d) (asked_ready s seats p way (binary BitXor a d)) (only_value way (with_two (pair BitXor) (asked_test s seats tables (left_place p BitXor (kind_of s a) (kind_of s d)) its_value a) (asked_test s seats tables (right_place p BitXor (kind_of s a) (kind_of s d)) its_value d))) (Tell way p (kind_of s (binary BitXor a d)) (value_of w s p (binary BitXor a d))) (plain_some p q way (binary BitXor a d) keeps free) (pair_asks BitXor p q way a d tt keeps free (asks a) (asks d))
    asks (binary BitOr a d) p q way keeps free = flagged (applies s a || applies s d) (asked_ready s seats p way (binary BitOr a d)) (only_value way (with_two (pair BitOr) (asked_test s seats tables (left_place p BitOr (kind_of s a) (kind_of s d)) its_value a) (asked_test s seats tables (right_place p BitOr (kind_of s a) (kind_of s d)) its_value d))) (Tell way p (kind_of s (binary BitOr a d)) (value_of w s p (binary BitOr a d))) (plain_some p q way (binary BitOr a d) keeps free) (pair_asks BitOr p q way a d tt keeps free (asks a) (asks d))
    asks (binary Less a d) p q way keeps free = flagged (applies s a || applies s d) (asked_ready s seats p way (binary Less a d)) (only_value way (with_two (pair Less) (asked_test s seats tables (left_place p Less (kind_of s a) (kind_of s d)) its_value a) (asked_test s seats tables (right_place p Less (kind_of s a) (kind_of s d)) its_value d))) (Tell way p (kind_of s (binary Less a d)) (value_of w s p (binary Less a d))) (plain_some p q way (binary Less a d) keeps free) (pair_asks Less p q way a d tt keeps free (asks a) (asks d))
    asks (binary LessEqual a d) p q way keeps free = flagged (applies s a || applies s d) (asked_ready s seats p way (binary LessEqual a d)) (only_value way (with_two (pair LessEqual) (asked_test s seats tables (left_place p LessEqual (kind_of s a) (kind_of s d)) its_value a) (asked_test s seats tables (right_place p LessEqual (kind_of s a) (kind_of s d)) its_value d))) (Tell way p (kind_of s (binary LessEqual a d)) (value_of w s p (binary LessEqual a d))) (plain_some p q way (binary LessEqual a d) keeps free) (pair_asks LessEqual p q way a d tt keeps free (asks a) (asks d))
    asks (binary Greater a d) p q way keeps free = flagged (applies s a || applies s d) (asked_ready s seats p way (binary Greater a d)) (only_value way (with_two (pair Greater) (asked_test s seats tables (left_place p Greater (kind_of s a) (kind_of s d)) its_value a) (asked_test s seats tables (right_place p Greater (kind_of s a) (kind_of s d)) its_value d))) (Tell way p (kind_of s (binary Greater a d)) (value_of w s p (binary Greater a d))) (plain_some p q way (binary Greater a d) keeps free) (pair_asks Greater p q way a d tt keeps free (asks a) (asks d))
    asks (binary GreaterEqual a d) p q way keeps free = flagged (applies s a || applies s d) (asked_ready s seats p way (binary GreaterEqual a d)) (only_value way (with_two (pair GreaterEqual) (asked_test s seats tables (left_place p GreaterEqual (kind_of s a) (kind_of s d)) its_value a) (asked_test s seats tables (right_place p GreaterEqual (kind_of s a) (kind_of s d)) its_value d))) (Tell way p (kind_of s (binary GreaterEqual a d)) (value_of w s p (binary GreaterEqual a d))) (plain_some p q way (binary GreaterEqual a d) keeps free) (pair_asks GreaterEqual p q way a d tt keeps free (asks a) (asks d))
    asks (binary Equal a d) p q way keeps free = flagged (applies s a || applies s d) (asked_ready s seats p way (binary Equal a d)) (only_value way (with_two (pair Equal) (asked_test s seats tables (left_place p Equal (kind_of s a) (kind_of s d)) its_value a) (asked_test s seats tables (right_place p Equal (kind_of s a) (kind_of s d)) its_value d))) (Tell way p (kind_of s (binary Equal a d)) (value_of w s p (binary Equal a d))) (plain_some p q way (binary Equal a d) keeps free) (pair_asks Equal p q way a d tt keeps free (asks a) (asks d))
    asks (binary NotEqual a d) p q way keeps free = flagged (applies s a || applies s d) (asked_ready s seats p way (binary NotEqual a d)) (only_value way (with_two (pair NotEqual) (asked_test s seats tables (left_place p NotEqual (kind_of s a) (kind_of s d)) its_value a) (asked_test s seats tables (right_place p NotEqual (kind_of s a) (kind_of s d)) its_value d))) (Tell way p (kind_of s (binary NotEqual a d)) (value_of w s p (binary NotEqual a d))) (plain_some p q way (binary NotEqual a d) keeps free) (pair_asks NotEqual p q way a d tt keeps free (asks a) (asks d))
    asks (choice c a d) p q way keeps free = choice_asks c a d (asks c) (asks a) (asks d) p q way keeps free
    asks (parenthesized e) p q way keeps free = plain_some p q way (parenthesized e) keeps free
    asks no_arguments p q way keeps free = plain_some p q way no_arguments keeps free
    asks (argument before last) p q way keeps free = plain_some p q way (argument before last) keeps free
    asks (listed es) p q way keeps free = plain_some p q way (listed es) keeps free

    -- so tests tell
    pub tests_tell : TestsTell P b w z s who
    tests_tell p q e keeps free =
        if_more (asked_test s seats tables p its_value e) (Tell its_value p (kind_of s e) (value_of w s p e)) (Tells P b w z s who p e (IsValueOf p (kind_of s e)))
        (λ t h m n shown runs.
        let a = h m n shown runs in
        record {
          value = a.told;
          runs = a.runs;
          shown = a.shown;
          holds = record {
            class = a.class (value_of w s p e m).value a.told;
            width = width_of s.layouts (test_value z.apply t n).moment.cells p (kind_of s e) (value_of w s p e m).value a.typed;
            below = below_it (test_value z.apply t n) (value_of w s p e m).value a.told a.below;
          };
        })
        (asks e p q its_value keeps free)
