-- Where no table is applied a ready test is a ready expression, which gives what the expression means.
use Rattle.std.proofs.Common.{◌≡◌, ◌⊎◌, inl, inr, ℕ, Bool, true, false, cond, ◌||◌, Option, Some, None, IfSome, List, [], refl, sym, ap, ◌∙◌, subst}
use Rattle.std.specs.Prelude.{option_map, codes, filter_map}
use Rattle.std.specs.Str.{bytes_eq}
use Rattle.p416_syntax.specs.declared.controls.Local.{Local}
use Rattle.p416_syntax.specs.Tree.{Exp16, literal, truth, error, name, member, index, slice, call, lookahead, cast, unary, binary, choice, parenthesized, no_arguments, argument, listed}
use Rattle.p416_syntax.specs.Names.{Name}
use Rattle.p416_syntax.specs.Kinds.{Kind, bits, unsized, boolean, error_code, header, stack, struct, packet_in, packet_out, errors, enumeration, one_of, table, applied, object, items, nothing, unknown}
use Rattle.p416_syntax.specs.Scopes.{Scope}
use Rattle.p416_syntax.specs.Calls.{Place, value, any_bits, owner, a_stack, method, method_signature}
use Rattle.p416_syntax.specs.Expressions.{kind_of, call_kind}
use Rattle.p416_syntax.specs.Uses.{unary_place, left_place, right_place, cast_place, chosen_place}
use Rattle.p416_syntax.specs.Breaks.{BreaksNone, program_rules}
use Rattle.p416_syntax.specs.Declarations.{layouts_of, table_in}
use Rattle.v1_core.specs.Values.{Value}
use Rattle.v1_core.specs.Frames as sem
use Rattle.v1_core.specs.Surroundings as meaning
use Rattle.v1_core.specs.Numbered.{InScope}
use Rattle.v1_core.specs.Expressions as sem_expressions
use Rattle.v1_core.specs.Expressions.{value_of}
use Rattle.v1_core.specs.Cells.{Cells}
use Rattle.v1_core.specs.Ready.{Ready, given, ready_value}
use Rattle.v1_ready_forms.specs.Named.{NamedSeat, seats_in}
use Rattle.v1_ready_forms.specs.Ways.{Way, its_value, its_validity, through_member, through_element, through_told, which_of}
use Rattle.v1_ready_forms.specs.Expressions.{method_ready, asked_ready, ready_of_exp}
use Rattle.v1_ready_laws.specs.Rules.{Keeps, NamesSeated}
use Rattle.v1_ready_blocks.specs.declared.nodes.Single.TheVariants as single
use Rattle.v1_ready_blocks.specs.Moments.{Moment}
use Rattle.v1_ready_blocks.specs.Tests.{World, Test, plain, hits, misses, alone, choice as test_choice, test_value}
use Rattle.v1_ready_statements.specs.Around.{Around, number_of_table, table_found}
use Rattle.v1_ready_statements.specs.Tested.{is_applied, is_application, applies, with_two, with_three, only_value, applied_test, slice_test, cast_test, binary_test, part_test, member_test, method_test, by_application, asked_test, ready_test}
use Rattle.v1_value_laws.specs.Kinds.{Fine}
use Rattle.v1_value_laws.specs.Classes.{IsOfClass}
use Rattle.v1_value_laws.proofs.Classes.{values_of_classes}
use Rattle.v1_statement_laws.specs.Behind.{Waits, Shown, ValuedShows}
use Rattle.v1_statement_laws.specs.Laws.{TestsEvaluate}
use Rattle.v1_statement_laws.specs.Evaluating.{Evaluates}
use Rattle.v1_statement_laws.proofs.Plain.{plain_gives, plain_stays}

-- there is no such test
abbrev Never : Test → Type 0
Never t = ⊥

-- it is this ready expression
abbrev pub IsPlain : Option Ready → Test → Type 0
IsPlain o t = (r : Ready) × ((t ≡ plain r) × (o ≡ Some r))

first_true : (a b : Bool) → (a || b) ≡ true → (a ≡ true) ⊎ (b ≡ true)
first_true true b e = inl refl
first_true false b e = inr e

never_mapped : {A : Type 0} (f : A → Test) (o : Option A) → IfSome o (λ x. ⊥) → IfSome (option_map f o) Never
never_mapped f None h = tt
never_mapped f (Some x) h = absurd h

never_value : (way : Way) (o : Option Test) → IfSome o Never → IfSome (only_value way o) Never
never_value its_value o h = h
never_value its_validity o h = tt
never_value (through_member word way) o h = tt
never_value (through_element number way) o h = tt
never_value (through_told which way) o h = tt

never_left : (f : Test → Test → Test) (o p : Option Test) → IfSome o Never → IfSome (with_two f o p) Never
never_left f None p h = tt
never_left f (Some x) p h = absurd h

never_right : (f : Test → Test → Test) (o p : Option Test) → IfSome p Never → IfSome (with_two f o p) Never
never_right f None p h = tt
never_right f (Some x) None h = tt
never_right f (Some x) (Some y) h = absurd h

never_first : (f : Test → Test → Test → Test) (o p q : Option Test) → IfSome o Never → IfSome (with_three f o p q) Never
never_first f None p q h = tt
never_first f (Some x) p q h = absurd h

never_second : (f : Test → Test → Test → Test) (o p q : Option Test) → IfSome p Never → IfSome (with_three f o p q) Never
never_second f None p q h = tt
never_second f (Some x) None q h = tt
never_second f (Some x) (Some y) q h = absurd h

never_third : (f : Test → Test → Test → Test) (o p q : Option Test) → IfSome q Never → IfSome (with_three f o p q) Never
never_third f None p q h = tt
never_third f (Some x) None q h = tt
never_third f (Some x) (Some y) None h = tt
never_third f (Some x) (Some y) (Some z) h = absurd h

mapped_plain : (o : Option Ready) → IfSome (option_map plain o) (IsPlain o)
mapped_plain None = tt
mapped_plain (Some r) = (r, (refl, refl))

by_flag : (flag : Bool) (o : Option Ready) (t : Option Test) → (flag ≡ true → IfSome t Never) → IfSome (by_application flag o t) (IsPlain o)
by_flag true o None h = tt
by_flag true o (Some t) h = absurd (h refl)
by_flag false o t h = mapped_plain o

module _ (s : Scope) (seats : List NamedSeat) (tables : Name → Option ℕ) (none : (text : Name) → tables text ≡ None) where
  -- an application
  never_applied : (e : Exp16) (word : Name) → IfSome (applied_test tables e word) Never
  never_applied (literal n) word = tt
  never_applied (truth holds) word = tt
  never_applied error word = tt
  never_applied (name text) word = tt
  never_applied (index e at) word = tt
  never_applied (slice e high low) word = tt
  never_applied (lookahead e to other) word = tt
  never_applied (cast to e) word = tt
  never_applied (unary operator e) word = tt
  never_applied (binary operator a b) word = tt
  never_applied (choice c a b) word = tt
  never_applied (parenthesized e) word = tt
  never_applied no_arguments word = tt
  never_applied (argument before last) word = tt
  never_applied (listed es) word = tt
  never_applied (member e called) word = tt
  never_applied (call (literal n) handed) word = tt
  never_applied (call (truth holds) handed) word = tt
  never_applied (call error handed) word = tt
  never_applied (call (name text) handed) word = tt
  never_applied (call (index e at) handed) word = tt
  never_applied (call (slice e high low) handed) word = tt
  never_applied (call (call g more) handed) word = tt
  never_applied (call (lookahead e to more) handed) word = tt
  never_applied (call (cast to e) handed) word = tt
  never_applied (call (unary operator e) handed) word = tt
  never_applied (call (binary operator a b) handed) word = tt
  never_applied (call (choice c a b) handed) word = tt
  never_applied (call (parenthesized e) handed) word = tt
  never_applied (call no_arguments handed) word = tt
  never_applied (call (argument before last) handed) word = tt
  never_applied (call (listed es) handed) word = tt
  never_applied (call (member t called) handed) word =
      subst (λ (k : Option ℕ). IfSome (option_map (cond (bytes_eq word (codes "hit")) hits misses) k) Never) (sym (none (sem_expressions.name_in t))) tt

  never_part : (k : Kind) (word : Name) (way : Way) (ask : Way → Option Test) → ((further : Way) → IfSome (ask further) Never) → IfSome (part_test k word way ask) Never
  never_part (bits width) word way ask h = h (through_member word way)
  never_part unsized word way ask h = h (through_member word way)
  never_part boolean word way ask h = h (through_member word way)
  never_part error_code word way ask h = h (through_member word way)
  never_part (header type) word way ask h = h (through_member word way)
  never_part (stack type many) word way ask h = h (through_told (which_of word) way)
  never_part (struct type) word way ask h = h (through_member word way)
  never_part packet_in word way ask h = h (through_member word way)
  never_part packet_out word way ask h = h (through_member word way)
  never_part errors word way ask h = tt
  never_part (enumeration enum) word way ask h = tt
  never_part (one_of enum) word way ask h = h (through_member word way)
  never_part table word way ask h = h (through_member word way)
  never_part applied word way ask h = h (through_member word way)
  never_part (object obj) word way ask h = h (through_member word way)
  never_part items word way ask h = h (through_member word way)
  never_part nothing word way ask h = h (through_member word way)
  never_part unknown word way ask h = h (through_member word way)

  never_member : (t : Bool) (o p : Option Test) → IfSome o Never → IfSome p Never → IfSome (member_test t o p) Never
  never_member true o p h k = h
  never_member false o p h k = k

  never_method : (k : Kind) (way : Way) (ask : Way → Option Test) → ((further : Way) → IfSome (ask further) Never) → IfSome (method_test k way ask) Never
  never_method (bits width) way ask h = tt
  never_method unsized way ask h = tt
  never_method boolean way ask h = tt
  never_method error_code way ask h = tt
  never_method (header type) way ask h = never_value way (ask its_validity) (h its_validity)
  never_method (stack type many) way ask h = tt
  never_method (struct type) way ask h = tt
  never_method packet_in way ask h = tt
  never_method packet_out way ask h = tt
  never_method errors way ask h = tt
  never_method (enumeration enum) way ask h = tt
  never_method (one_of enum) way ask h = tt
  never_method table way ask h = tt
  never_method applied way ask h = tt
  never_method (object obj) way ask h = tt
  never_method items way ask h = tt
  never_method nothing way ask h = tt
  never_method unknown way ask h = tt

  flagged : (flag : Bool) (o : Option Ready) (t : Option Test) → flag ≡ true → IfSome t Never → IfSome (by_application flag o t) Never
  flagged true o t is h = h
  flagged false o t is h = absurd (cc is)

  -- methods of headers apply no table
  header_call : (type word : Name) → is_applied (call_kind (method_signature (header type) word)) ≡ true → ⊥
  header_call type word is = by (bytes_eq word (codes "isValid")) (bytes_eq word (codes "setValid")) (bytes_eq word (codes "setInvalid")) is where
    by : (t u v : Bool) → is_applied (call_kind (cond t (Some (method false [] boolean)) (cond u (Some (method true [] nothing)) (cond v (Some (method true [] nothing)) None)))) ≡ true → ⊥
    by true u v e = cc e
    by false true v e = cc e
    by false false true e = cc e
    by false false false e = cc e

  no_call : (k : Kind) (word : Name) (way : Way) (ask : Way → Option Ready) → is_applied (call_kind (method_signature k word)) ≡ true → IfSome (option_map plain (method_ready k way ask)) Never
  no_call (bits width) word way ask is = tt
  no_call unsized word way ask is = tt
  no_call boolean word way ask is = tt
  no_call error_code word way ask is = tt
  no_call (header type) word way ask is = absurd (header_call type word is)
  no_call (stack type many) word way ask is = tt
  no_call (struct type) word way ask is = tt
  no_call packet_in word way ask is = tt
  no_call packet_out word way ask is = tt
  no_call errors word way ask is = tt
  no_call (enumeration enum) word way ask is = tt
  no_call (one_of enum) word way ask is = tt
  no_call table word way ask is = tt
  no_call applied word way ask is = tt
  no_call (object obj) word way ask is = tt
  no_call items word way ask is = tt
  no_call nothing word way ask is = tt
  no_call unknown word way ask is = tt

  -- in which a table is applied
  never : (e : Exp16) → applies s e ≡ true → (p : Place) (way : Way) → IfSome (asked_test s seats tables p way e) Never
  never (member e word) is p way =
      flagged (applies s e) (asked_ready s seats p way (member e word)) (member_test (is_application s e) (only_value way (applied_test tables e word)) (part_test (kind_of s e) word way (λ further. asked_test s seats tables owner further e))) is
      (never_member (is_application s e) (only_value way (applied_test tables e word)) (part_test (kind_of s e) word way (λ further. asked_test s seats tables owner further e))
      (never_value way (applied_test tables e word) (never_applied e word))
      (never_part (kind_of s e) word way (λ further. asked_test s seats tables owner further e) (λ further. never e is owner further)))
  never (index e at) is p way =
      flagged (applies s e) (asked_ready s seats p way (index e at)) (asked_test s seats tables a_stack (through_element at.value way) e) is (never e is a_stack (through_element at.value way))
  never (slice e high low) is p way =
      flagged (applies s e) (asked_ready s seats p way (slice e high low)) (only_value way (option_map (slice_test high low) (asked_test s seats tables any_bits its_value e))) is
      (never_value way (option_map (slice_test high low) (asked_test s seats tables any_bits its_value e)) (never_mapped (slice_test high low) (asked_test s seats tables any_bits its_value e) (never e is any_bits its_value)))
  never (call (member e word) handed) is p way = called (applies s e) (λ so. never e so owner) refl (first_true (is_application s (call (member e word) handed)) (applies s (member e word)) is) where
    called : (t : Bool) → (applies s e ≡ true → (further : Way) → IfSome (asked_test s seats tables owner further e) Never) → applies s e ≡ t → (is_application s (call (member e word) handed) ≡ true) ⊎ (applies s (member e word) ≡ true) → IfSome (by_application t (asked_ready s seats p way (call (member e word) handed)) (method_test (kind_of s e) way (λ further. asked_test s seats tables owner further e))) Never
    called true rest so h = never_method (kind_of s e) way (λ further. asked_test s seats tables owner further e) (λ further. rest so further)
    called false rest away (inl h) = no_call (kind_of s e) word way (λ further. asked_ready s seats owner further e) h
    called false rest away (inr h) = absurd (cc (sym away ∙ h))
  never (call (literal n) handed) is p way = tt
  never (call (truth holds) handed) is p way = tt
  never (call error handed) is p way = tt
  never (call (name text) handed) is p way = tt
  never (call (index e at) handed) is p way = tt
  never (call (slice e high low) handed) is p way = tt
  never (call (call g more) handed) is p way = tt
  never (call (lookahead e to more) handed) is p way = tt
  never (call (cast to e) handed) is p way = tt
  never (call (unary operator e) handed) is p way = tt
  never (call (binary operator a b) handed) is p way = tt
  never (call (choice c a b) handed) is p way = tt
  never (call (parenthesized e) handed) is p way = tt
  never (call no_arguments handed) is p way = tt
  never (call (argument before last) handed) is p way = tt
  never (call (listed es) handed) is p way = tt
  never (cast to e) is p way =
      flagged (applies s e) (asked_ready s seats p way (cast to e)) (only_value way (option_map (cast_test to) (asked_test s seats tables (cast_place to) its_value e))) is
      (never_value way (option_map (cast_test to) (asked_test s seats tables (cast_place to) its_value e)) (never_mapped (cast_test to) (asked_test s seats tables (cast_place to) its_value e) (never e is (cast_place to) its_value)))
  never (unary operator e) is p way =
      let q : Place = unary_place p operator (kind_of s e) in
      flagged (applies s e) (asked_ready s seats p way (unary operator e)) (only_value way (option_map (alone (single.Operator operator)) (asked_test s seats tables q its_value e))) is
      (never_value way (option_map (alone (single.Operator operator)) (asked_test s seats tables q its_value e)) (never_mapped (alone (single.Operator operator)) (asked_test s seats tables q its_value e) (never e is q its_value)))
  never (binary operator a b) is p way = two (first_true (applies s a) (applies s b) is) (λ so. never a so) (λ so. never b so) where
    l : Place
    l = left_place p operator (kind_of s a) (kind_of s b)

    r : Place
    r = right_place p operator (kind_of s a) (kind_of s b)

    x : Option Test
    x = asked_test s seats tables l its_value a

    y : Option Test
    y = asked_test s seats tables r its_value b

    two : (applies s a ≡ true) ⊎ (applies s b ≡ true) → (applies s a ≡ true → (p : Place) (way : Way) → IfSome (asked_test s seats tables p way a) Never) → (applies s b ≡ true → (p : Place) (way : Way) → IfSome (asked_test s seats tables p way b) Never) → IfSome (by_application (applies s a || applies s b) (asked_ready s seats p way (binary operator a b)) (only_value way (with_two (binary_test operator) x y))) Never
    two (inl h) f g = flagged (applies s a || applies s b) (asked_ready s seats p way (binary operator a b)) (only_value way (with_two (binary_test operator) x y)) is (never_value way (with_two (binary_test operator) x y) (never_left (binary_test operator) x y (f h l its_value)))
    two (inr h) f g = flagged (applies s a || applies s b) (asked_ready s seats p way (binary operator a b)) (only_value way (with_two (binary_test operator) x y)) is (never_value way (with_two (binary_test operator) x y) (never_right (binary_test operator) x y (g h r its_value)))
  never (choice c a b) is p way = three (first_true (applies s c || applies s a) (applies s b) is) (λ so. never c so) (λ so. never a so) (λ so. never b so) where
    q : Place
    q = chosen_place p (kind_of s a) (kind_of s b)

    x : Option Test
    x = asked_test s seats tables (value boolean) its_value c

    y : Option Test
    y = asked_test s seats tables q way a

    z : Option Test
    z = asked_test s seats tables q way b

    all : IfSome (with_three test_choice x y z) Never → IfSome (by_application (applies s c || applies s a || applies s b) (asked_ready s seats p way (choice c a b)) (with_three test_choice x y z)) Never
    all h = flagged (applies s c || applies s a || applies s b) (asked_ready s seats p way (choice c a b)) (with_three test_choice x y z) is h

    further : (applies s c ≡ true) ⊎ (applies s a ≡ true) → (applies s c ≡ true → (p : Place) (way : Way) → IfSome (asked_test s seats tables p way c) Never) → (applies s a ≡ true → (p : Place) (way : Way) → IfSome (asked_test s seats tables p way a) Never) → IfSome (with_three test_choice x y z) Never
    further (inl h) d f = never_first test_choice x y z (d h (value boolean) its_value)
    further (inr h) d f = never_second test_choice x y z (f h q way)

    three : ((applies s c || applies s a) ≡ true) ⊎ (applies s b ≡ true) → (applies s c ≡ true → (p : Place) (way : Way) → IfSome (asked_test s seats tables p way c) Never) → (applies s a ≡ true → (p : Place) (way : Way) → IfSome (asked_test s seats tables p way a) Never) → (applies s b ≡ true → (p : Place) (way : Way) → IfSome (asked_test s seats tables p way b) Never) → IfSome (by_application (applies s c || applies s a || applies s b) (asked_ready s seats p way (choice c a b)) (with_three test_choice x y z)) Never
    three (inl h) d f g = all (further (first_true (applies s c) (applies s a) h) d f)
    three (inr h) d f g = all (never_third test_choice x y z (g h q way))
  never (literal n) is p way = absurd (cc is)
  never (truth holds) is p way = absurd (cc is)
  never error is p way = absurd (cc is)
  never (name text) is p way = absurd (cc is)
  never (lookahead e to handed) is p way = absurd (cc is)
  never (parenthesized e) is p way = absurd (cc is)
  never no_arguments is p way = absurd (cc is)
  never (argument before last) is p way = absurd (cc is)
  never (listed es) is p way = absurd (cc is)

  without : (flag : Bool) → flag ≡ true → (o : Option Ready) (t : Option Test) → IfSome (by_application flag o t) Never → IfSome t Never
  without true is o t h = h
  without false is o t h = absurd (cc is)

  -- so a test is a ready expression
  pub only_plain : (e : Exp16) (p : Place) (way : Way) → IfSome (asked_test s seats tables p way e) (IsPlain (asked_ready s seats p way e))
  only_plain (member e word) p way = by_flag (applies s e) (asked_ready s seats p way (member e word)) _ (λ is. without (applies s e) is (asked_ready s seats p way (member e word)) _ (never (member e word) is p way))
  only_plain (index e at) p way = by_flag (applies s e) (asked_ready s seats p way (index e at)) _ (λ is. without (applies s e) is (asked_ready s seats p way (index e at)) _ (never (index e at) is p way))
  only_plain (slice e high low) p way = by_flag (applies s e) (asked_ready s seats p way (slice e high low)) _ (λ is. without (applies s e) is (asked_ready s seats p way (slice e high low)) _ (never (slice e high low) is p way))
  only_plain (call (member e word) handed) p way = by_flag (applies s e) (asked_ready s seats p way (call (member e word) handed)) _ (λ is. never_method (kind_of s e) way (λ further. asked_test s seats tables owner further e) (λ further. never e is owner further))
  only_plain (cast to e) p way = by_flag (applies s e) (asked_ready s seats p way (cast to e)) _ (λ is. without (applies s e) is (asked_ready s seats p way (cast to e)) _ (never (cast to e) is p way))
  only_plain (unary operator e) p way = by_flag (applies s e) (asked_ready s seats p way (unary operator e)) _ (λ is. without (applies s e) is (asked_ready s seats p way (unary operator e)) _ (never (unary operator e) is p way))
  only_plain (binary operator a b) p way = by_flag (applies s a || applies s b) (asked_ready s seats p way (binary operator a b)) _ (λ is. without (applies s a || applies s b) is (asked_ready s seats p way (binary operator a b)) _ (never (binary operator a b) is p way))
  only_plain (choice c a b) p way = by_flag (applies s c || applies s a || applies s b) (asked_ready s seats p way (choice c a b)) _ (λ is. without (applies s c || applies s a || applies s b) is (asked_ready s seats p way (choice c a b)) _ (never (choice c a b) is p way))
  only_plain (literal n) p way = mapped_plain (asked_ready s seats p way (literal n))
  only_plain (truth holds) p way = mapped_plain (asked_ready s seats p way (truth holds))
  only_plain error p way = mapped_plain (asked_ready s seats p way error)
  only_plain (name text) p way = mapped_plain (asked_ready s seats p way (name text))
  only_plain (lookahead e to handed) p way = mapped_plain (asked_ready s seats p way (lookahead e to handed))
  only_plain (parenthesized e) p way = mapped_plain (asked_ready s seats p way (parenthesized e))
  only_plain no_arguments p way = mapped_plain (asked_ready s seats p way no_arguments)
  only_plain (argument before last) p way = mapped_plain (asked_ready s seats p way (argument before last))
  only_plain (listed es) p way = mapped_plain (asked_ready s seats p way (listed es))
  only_plain (call (literal n) handed) p way = mapped_plain (asked_ready s seats p way (call (literal n) handed))
  only_plain (call (truth holds) handed) p way = mapped_plain (asked_ready s seats p way (call (truth holds) handed))
  only_plain (call error handed) p way = mapped_plain (asked_ready s seats p way (call error handed))
  only_plain (call (name text) handed) p way = mapped_plain (asked_ready s seats p way (call (name text) handed))
  only_plain (call (index e at) handed) p way = mapped_plain (asked_ready s seats p way (call (index e at) handed))
  only_plain (call (slice e high low) handed) p way = mapped_plain (asked_ready s seats p way (call (slice e high low) handed))
  only_plain (call (call g more) handed) p way = mapped_plain (asked_ready s seats p way (call (call g more) handed))
  only_plain (call (lookahead e to more) handed) p way = mapped_plain (asked_ready s seats p way (call (lookahead e to more) handed))
  only_plain (call (cast to e) handed) p way = mapped_plain (asked_ready s seats p way (call (cast to e) handed))
  only_plain (call (unary operator e) handed) p way = mapped_plain (asked_ready s seats p way (call (unary operator e) handed))
  only_plain (call (binary operator a b) handed) p way = mapped_plain (asked_ready s seats p way (call (binary operator a b) handed))
  only_plain (call (choice c a b) handed) p way = mapped_plain (asked_ready s seats p way (call (choice c a b) handed))
  only_plain (call (parenthesized e) handed) p way = mapped_plain (asked_ready s seats p way (call (parenthesized e) handed))
  only_plain (call no_arguments handed) p way = mapped_plain (asked_ready s seats p way (call no_arguments handed))
  only_plain (call (argument before last) handed) p way = mapped_plain (asked_ready s seats p way (call (argument before last) handed))
  only_plain (call (listed es) handed) p way = mapped_plain (asked_ready s seats p way (call (listed es) handed))

-- what it gives
module _ (P : Cells → Type 0) (b : Around) (w : meaning.World) (z : World) (s : Scope) (who : InScope) (accepted : BreaksNone b.syntax program_rules) (layouts : s.layouts ≡ layouts_of b.syntax.decls) (seated : NamesSeated s (seats_in b.syntax w.around.roots who)) (fine : Fine s) where
  class_given : (p q : Place) (e : Exp16) (r : Ready) → Keeps s q e → ready_of_exp s (seats_in b.syntax w.around.roots who) p e ≡ Some r → (m : sem.Moment) (k : Moment) → Shown P b.syntax who m k → m.stopped ≡ None → (value_of w s p e m).moment.stopped ≡ None → IsOfClass (kind_of s e) (value_of w s p e m).value
  class_given p q e r keeps is m k h runs ends = by (plain_gives P b w z s who accepted layouts seated p q e r keeps is m k h runs) where
    classed : (v : Value) → ready_value k.cells m.unparsed r ≡ given v → IsOfClass (kind_of s e) v
    classed = of_some (ready_of_exp s (seats_in b.syntax w.around.roots who) p e) is (values_of_classes b.syntax k.cells w s who m p q e accepted h.shows.whole layouts h.shows.frame runs seated fine keeps) where
      of_some : (o : Option Ready) → o ≡ Some r → IfSome o (λ y. (v : Value) → ready_value k.cells m.unparsed y ≡ given v → IsOfClass (kind_of s e) v) → (v : Value) → ready_value k.cells m.unparsed r ≡ given v → IsOfClass (kind_of s e) v
      of_some o same f = subst (λ (x : Option Ready). IfSome x (λ y. (v : Value) → ready_value k.cells m.unparsed y ≡ given v → IsOfClass (kind_of s e) v)) same f

    by : ValuedShows P b.syntax who (value_of w s p e m) (test_value z.apply (plain r) k) → IsOfClass (kind_of s e) (value_of w s p e m).value
    by (inl g) = classed (value_of w s p e m).value (ap (λ (left : List ℕ). ready_value k.cells left r) h.shows.unparsed ∙ g.0)
    by (inr g) = absurd (cc (sym ends ∙ g.2))

  pub plain_evaluates : (p q : Place) (e : Exp16) (r : Ready) → Keeps s q e → ready_of_exp s (seats_in b.syntax w.around.roots who) p e ≡ Some r → Evaluates P b w z s who p e (IsOfClass (kind_of s e)) (plain r)
  plain_evaluates p q e r keeps is = record {
    gives = plain_gives P b w z s who accepted layouts seated p q e r keeps is;
    holds = class_given p q e r keeps is;
    stays = plain_stays P b w z s who accepted layouts seated p q e r keeps is;
  }

  -- the test of an expression, where there are no tables
  pub quiet_evaluates : (tables : Name → Option ℕ) → ((text : Name) → tables text ≡ None) → (p q : Place) (e : Exp16) → Keeps s q e → IfSome (ready_test s (seats_in b.syntax w.around.roots who) tables p e) (Evaluates P b w z s who p e (IsOfClass (kind_of s e)))
  quiet_evaluates tables none p q e keeps =
      weaker (ready_test s (seats_in b.syntax w.around.roots who) tables p e) (only_plain s (seats_in b.syntax w.around.roots who) tables none e p its_value) where
        weaker : (o : Option Test) → IfSome o (IsPlain (ready_of_exp s (seats_in b.syntax w.around.roots who) p e)) → IfSome o (Evaluates P b w z s who p e (IsOfClass (kind_of s e)))
        weaker None h = tt
        weaker (Some t) h = subst (Evaluates P b w z s who p e (IsOfClass (kind_of s e))) (sym h.1.0) (plain_evaluates p q e h.0 keeps h.1.1)

pub no_tables : (b : Around) → b.locals ≡ [] → (text : Name) → table_found b text ≡ None
no_tables b is text = ap (λ (ls : List Local). number_of_table 0 (filter_map table_in ls) text) is

pub tests_evaluate : TestsEvaluate
tests_evaluate calls b w z from to n s who p q e accepted at none keeps =
    quiet_evaluates (Waits calls b.syntax) b w z s who accepted at.layouts at.seated at.fine (table_found b) (no_tables b none) p q e keeps
