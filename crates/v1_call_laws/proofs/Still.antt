-- Where no table is applied evaluating changes nothing.
use Rattle.std.proofs.Common.{◌≡◌, ℕ, ◌||◌, Bool, true, false, cond, Option, Some, None, IfSome, List, refl, sym, ap, ◌∙◌, subst}
use Rattle.std.specs.Prelude.{option_map}
use Rattle.p416_syntax.specs.Tree.{Exp16, literal, truth, error, name, member, index, slice, call, lookahead, cast, unary, binary, choice, parenthesized, no_arguments, argument, listed}
use Rattle.p416_syntax.specs.Names.{Name}
use Rattle.p416_syntax.specs.Kinds.{Kind, bits, unsized, boolean, error_code, header, stack, struct, packet_in, packet_out, errors, enumeration, one_of, table, applied, object, items, nothing, unknown}
use Rattle.p416_syntax.specs.Scopes.{Scope}
use Rattle.p416_syntax.specs.Calls.{Place, value}
use Rattle.p416_syntax.specs.Expressions.{kind_of}
use Rattle.v1_core.specs.Values.{is_true}
use Rattle.v1_core.specs.Ready.{Ready, Ended, given, failed}
use Rattle.v1_ready_forms.specs.Named.{NamedSeat, seat_of_name}
use Rattle.v1_ready_forms.specs.Ways.{Way, its_value, through_member, through_element, through_told, which_of}
use Rattle.v1_ready_forms.specs.Spots.{spot_with}
use Rattle.v1_ready_forms.specs.Expressions.{asked_ready}
use Rattle.v1_ready_laws.proofs.Rules.{first_false, second_false}
use Rattle.v1_ready_blocks.specs.declared.places.RangePlace.{RangePlace}
use Rattle.v1_ready_blocks.specs.Moments.{Moment, value_at}
use Rattle.v1_ready_blocks.specs.Tests.{Applied, Test, plain, Source, parts, chosen, valued, when_tested, source_range}
use Rattle.v1_ready_statements.specs.Tested.{applies, is_application, by_application, asked_test, asked_source, with_chosen, member_source, range_behind, way_range}

module _ (s : Scope) (seats : List NamedSeat) (tables : Name → Option ℕ) where
  away : (t : Bool) (r : Option Ready) (x : Option Test) → t ≡ false → by_application t r x ≡ option_map plain r
  away t r x is = ap (λ (u : Bool). by_application u r x) is

  -- a test is a ready expression
  pub plain_test : (p : Place) (way : Way) (e : Exp16) → applies s e ≡ false → asked_test s seats tables p way e ≡ option_map plain (asked_ready s seats p way e)
  plain_test p way (member e word) is = away (applies s e) (asked_ready s seats p way (member e word)) _ is
  plain_test p way (index e at) is = away (applies s e) (asked_ready s seats p way (index e at)) _ is
  plain_test p way (slice e high low) is = away (applies s e) (asked_ready s seats p way (slice e high low)) _ is
  plain_test p way (call (member e word) other) is = away (applies s e) (asked_ready s seats p way (call (member e word) other)) _ (second_false (is_application s (call (member e word) other)) (applies s e) is)
  plain_test p way (cast to e) is = away (applies s e) (asked_ready s seats p way (cast to e)) _ is
  plain_test p way (unary operator e) is = away (applies s e) (asked_ready s seats p way (unary operator e)) _ is
  plain_test p way (binary operator a b) is = away (applies s a || applies s b) (asked_ready s seats p way (binary operator a b)) _ is
  plain_test p way (choice c a b) is = away (applies s c || applies s a || applies s b) (asked_ready s seats p way (choice c a b)) _ is
  plain_test p way (call (literal n) other) is = refl
  plain_test p way (call (truth holds) other) is = refl
  plain_test p way (call error other) is = refl
  plain_test p way (call (name text) other) is = refl
  plain_test p way (call (index e at) other) is = refl
  plain_test p way (call (slice e high low) other) is = refl
  plain_test p way (call (call g more) other) is = refl
  plain_test p way (call (lookahead e to more) other) is = refl
  plain_test p way (call (cast to e) other) is = refl
  plain_test p way (call (unary operator e) other) is = refl
  plain_test p way (call (binary operator a b) other) is = refl
  plain_test p way (call (choice c a d) other) is = refl
  plain_test p way (call (parenthesized e) other) is = refl
  plain_test p way (call no_arguments other) is = refl
  plain_test p way (call (argument before last) other) is = refl
  plain_test p way (call (listed es) other) is = refl
  plain_test p way (literal n) is = refl
  plain_test p way (truth holds) is = refl
  plain_test p way error is = refl
  plain_test p way (name text) is = refl
  plain_test p way (lookahead e to other) is = refl
  plain_test p way (parenthesized e) is = refl
  plain_test p way no_arguments is = refl
  plain_test p way (argument before last) is = refl
  plain_test p way (listed es) is = refl

  -- which one it is
  pub is_plain : (p : Place) (way : Way) (e : Exp16) (t : Test) → applies s e ≡ false → asked_test s seats tables p way e ≡ Some t → (r : Ready) × (t ≡ plain r)
  is_plain p way e t none is = by (asked_ready s seats p way e) (sym (plain_test p way e none) ∙ is) where
    by : (o : Option Ready) → option_map plain o ≡ Some t → (r : Ready) × (t ≡ plain r)
    by None h = absurd (cc h)
    by (Some r) h = let same : plain r ≡ t = cc h in (r, sym same)

  -- finding parts changes nothing
  abbrev Stays : Source → Type 0
  Stays x = (runs : ℕ → Moment → Applied) (k : Moment) → (source_range runs x k).moment ≡ k

  parts_stay : (o : Option RangePlace) → IfSome (option_map parts o) Stays
  parts_stay None = tt
  parts_stay (Some r) = λ runs k. refl

  members_stay : (k : Kind) (word : Name) (way : Way) (ask : Way → Option Source) → ((further : Way) → IfSome (ask further) Stays) → IfSome (member_source k word way ask) Stays
  members_stay (bits width) word way ask h = h (through_member word way)
  members_stay unsized word way ask h = h (through_member word way)
  members_stay boolean word way ask h = h (through_member word way)
  members_stay error_code word way ask h = h (through_member word way)
  members_stay (header type) word way ask h = h (through_member word way)
  members_stay (stack type many) word way ask h = h (through_told (which_of word) way)
  members_stay (struct type) word way ask h = h (through_member word way)
  members_stay packet_in word way ask h = h (through_member word way)
  members_stay packet_out word way ask h = h (through_member word way)
  members_stay errors word way ask h = h (through_member word way)
  members_stay (enumeration enum) word way ask h = h (through_member word way)
  members_stay (one_of enum) word way ask h = h (through_member word way)
  members_stay table word way ask h = h (through_member word way)
  members_stay applied word way ask h = h (through_member word way)
  members_stay (object obj) word way ask h = h (through_member word way)
  members_stay items word way ask h = h (through_member word way)
  members_stay nothing word way ask h = h (through_member word way)
  members_stay unknown word way ask h = h (through_member word way)

  choice_stays : (r : Ready) (x y : Source) → Stays x → Stays y → Stays (chosen (plain r) x y)
  choice_stays r x y f g runs k = by (value_at k r) where
    either : (t : Bool) → (cond t (source_range runs x k) (source_range runs y k)).moment ≡ k
    either true = f runs k
    either false = g runs k

    by : (end : Ended) → (when_tested (valued end k) (λ v n. cond (is_true v) (source_range runs x n) (source_range runs y n))).moment ≡ k
    by (given v) = either (is_true v)
    by (failed e) = refl

  choices_stay : (c : Exp16) (o : Option Test) (p q : Option Source) → ((t : Test) → o ≡ Some t → (r : Ready) × (t ≡ plain r)) → IfSome p Stays → IfSome q Stays → IfSome (with_chosen o p q) Stays
  choices_stay c None p q known f g = tt
  choices_stay c (Some t) None q known f g = tt
  choices_stay c (Some t) (Some x) None known f g = tt
  choices_stay c (Some t) (Some x) (Some y) known f g =
      let is = known t refl in
      subst (λ (u : Test). Stays (chosen u x y)) (sym is.1) (choice_stays is.0 x y f g)

  pub sources_stay : (way : Way) (e : Exp16) → applies s e ≡ false → IfSome (asked_source s seats tables way e) Stays
  sources_stay way (name text) is = parts_stay (range_behind (way_range s.layouts way) (spot_with None (seat_of_name seats text)))
  sources_stay way (member e word) is = members_stay (kind_of s e) word way (λ further. asked_source s seats tables further e) (λ further. sources_stay further e is)
  sources_stay way (index e at) is = sources_stay (through_element at.value way) e is
  sources_stay way (choice c a b) is =
      let front : (applies s c || applies s a) ≡ false = first_false (applies s c || applies s a) (applies s b) is in
      choices_stay c (asked_test s seats tables (value boolean) its_value c) (asked_source s seats tables way a) (asked_source s seats tables way b)
      (λ t there. is_plain (value boolean) its_value c t (first_false (applies s c) (applies s a) front) there)
      (sources_stay way a (second_false (applies s c) (applies s a) front))
      (sources_stay way b (second_false (applies s c || applies s a) (applies s b) is))
  sources_stay way (literal n) is = tt
  sources_stay way (truth holds) is = tt
  sources_stay way error is = tt
  sources_stay way (slice e high low) is = tt
  sources_stay way (call g other) is = tt
  sources_stay way (lookahead e to other) is = tt
  sources_stay way (cast to e) is = tt
  sources_stay way (unary operator e) is = tt
  sources_stay way (binary operator a b) is = tt
  sources_stay way (parenthesized e) is = tt
  sources_stay way no_arguments is = tt
  sources_stay way (argument before last) is = tt
  sources_stay way (listed es) is = tt
