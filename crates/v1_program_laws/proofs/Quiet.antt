-- Where nothing may apply a table nothing does (T8).
use Rattle.std.proofs.Common.{◌≡◌, ◌||◌, ◌&&◌, Bool, true, false, List, [], ◌∷◌, ◌++◌, get_or, refl, sym, ◌∙◌}
use Rattle.std.specs.List.{list_any}
use Rattle.p416_syntax.specs.Tree.{Exp16, literal, truth, error, name, member, index, slice, call, lookahead, cast, unary, binary, choice, parenthesized, no_arguments, argument, listed}
use Rattle.p416_syntax.specs.Scopes.{Scope}
use Rattle.p416_syntax.specs.Kinds.{Kind, bits, unsized, boolean, error_code, header, stack, struct, packet_in, packet_out, errors, enumeration, one_of, table, applied, object, items, nothing, unknown}
use Rattle.p416_syntax.specs.Calls.{Place, value, any_bits, a_stack, callee, unasked, method_signature}
use Rattle.p416_syntax.specs.Expressions.{kind_of, signature_of, argument_count}
use Rattle.p416_syntax.specs.Uses.{Use, an_expression, a_number, one, many, chosen_place, unary_place, left_place, right_place, cast_place, owner_place, wanted_by, cast_numbers, uses, uses_at, arguments_of}
use Rattle.p416_syntax.specs.Applications as rules
use Rattle.p416_syntax.specs.Applications.{applies_nothing, applies_wrongly}
use Rattle.v1_ready_laws.proofs.Rules.{first_false, front_none, rest_none}
use Rattle.v1_ready_statements.specs.Tested.{is_applied, is_application, applies}
use Rattle.v1_ready_statements.specs.Given.{any_applies}

both_off : (a b : Bool) → a ≡ false → b ≡ false → (a || b) ≡ false
both_off true b x y = absurd (cc x)
both_off false b x y = y

applied_same : (k : Kind) → rules.is_applied k ≡ is_applied k
applied_same (bits width) = refl
applied_same unsized = refl
applied_same boolean = refl
applied_same error_code = refl
applied_same (header type) = refl
applied_same (stack type size) = refl
applied_same (struct type) = refl
applied_same packet_in = refl
applied_same packet_out = refl
applied_same errors = refl
applied_same (enumeration enum) = refl
applied_same (one_of enum) = refl
applied_same table = refl
applied_same applied = refl
applied_same (object obj) = refl
applied_same items = refl
applied_same nothing = refl
applied_same unknown = refl

off : (a b : Bool) → a ≡ true → (a && b) ≡ false → b ≡ false
off true b x y = y
off false b x y = absurd (cc x)

joined : (s : Scope) (es : List Exp16) (e : Exp16) → any_applies s es ≡ false → applies s e ≡ false → any_applies s (es ++ e ∷ []) ≡ false
joined s [] e x y = both_off (applies s e) false y refl
joined s (a ∷ es) e x y = both_off (applies s a) (any_applies s (es ++ e ∷ [])) (first_false (applies s a) (any_applies s es) x) (joined s es e (rest (applies s a) (any_applies s es) x) y) where
  rest : (p q : Bool) → (p || q) ≡ false → q ≡ false
  rest true q z = absurd (cc z)
  rest false q z = z

module _ (s : Scope) (free : applies_nothing s.part ≡ true) where
  head_of : (p : Place) (e : Exp16) (test : Use → Bool) → list_any test (uses_at s (one p) e) ≡ false → test (an_expression s p e) ≡ false
  head_of p (literal n) test none = first_false (test (an_expression s p (literal n))) _ none
  head_of p (truth holds) test none = first_false (test (an_expression s p (truth holds))) _ none
  head_of p error test none = first_false (test (an_expression s p error)) _ none
  head_of p (name text) test none = first_false (test (an_expression s p (name text))) _ none
  head_of p (member e word) test none = first_false (test (an_expression s p (member e word))) _ none
  head_of p (index e i) test none = first_false (test (an_expression s p (index e i))) _ none
  head_of p (slice e high low) test none = first_false (test (an_expression s p (slice e high low))) _ none
  head_of p (call g more) test none = first_false (test (an_expression s p (call g more))) _ none
  head_of p (lookahead e to more) test none = first_false (test (an_expression s p (lookahead e to more))) _ none
  head_of p (cast to e) test none = first_false (test (an_expression s p (cast to e))) _ none
  head_of p (unary operator e) test none = first_false (test (an_expression s p (unary operator e))) _ none
  head_of p (binary operator a d) test none = first_false (test (an_expression s p (binary operator a d))) _ none
  head_of p (choice c a d) test none = first_false (test (an_expression s p (choice c a d))) _ none
  head_of p (parenthesized e) test none = first_false (test (an_expression s p (parenthesized e))) _ none
  head_of p no_arguments test none = first_false (test (an_expression s p no_arguments)) _ none
  head_of p (argument before last) test none = first_false (test (an_expression s p (argument before last))) _ none
  head_of p (listed es) test none = first_false (test (an_expression s p (listed es))) _ none

  no_application : (p : Place) (g more : Exp16) → list_any applies_wrongly (uses s p (call g more)) ≡ false → is_application s (call g more) ≡ false
  no_application p g more none = sym (applied_same (kind_of s (call g more))) ∙ off (applies_nothing s.part) (rules.is_application s (call g more)) free (head_of p (call g more) applies_wrongly none)

  pub applies_none : (p : Place) (e : Exp16) → list_any applies_wrongly (uses s p e) ≡ false → applies s e ≡ false
  applies_none p (literal n) none = refl
  applies_none p (truth holds) none = refl
  applies_none p error none = refl
  applies_none p (name text) none = refl
  applies_none p (member e word) none = let q : Place = owner_place p (method_signature (kind_of s e) word) in applies_none q e (rest_none applies_wrongly (an_expression s p (member e word) ∷ []) (uses s q e) none)
  applies_none p (index e i) none = applies_none a_stack e (rest_none applies_wrongly (an_expression s p (index e i) ∷ a_number i ∷ []) (uses s a_stack e) none)
  applies_none p (slice e high low) none = applies_none any_bits e (rest_none applies_wrongly (an_expression s p (slice e high low) ∷ a_number high ∷ a_number low ∷ []) (uses s any_bits e) none)
  applies_none p (call g more) none = both_off (is_application s (call g more)) (applies s g) (no_application p g more none) (applies_none callee g (rest_none applies_wrongly (an_expression s p (call g more) ∷ []) (uses s callee g) (front_none applies_wrongly (an_expression s p (call g more) ∷ uses s callee g) (uses_at s (many (wanted_by (signature_of s g)) unasked) more) none)))
  applies_none p (lookahead e to more) none = refl
  applies_none p (cast to e) none = applies_none (cast_place to) e (rest_none applies_wrongly (an_expression s p (cast to e) ∷ cast_numbers to) (uses s (cast_place to) e) none)
  applies_none p (unary operator e) none = let q : Place = unary_place p operator (kind_of s e) in applies_none q e (rest_none applies_wrongly (an_expression s p (unary operator e) ∷ []) (uses s q e) none)
  applies_none p (binary operator a d) none =
      let q : Place = left_place p operator (kind_of s a) (kind_of s d) in
      let r : Place = right_place p operator (kind_of s a) (kind_of s d) in
      let whole : List Use = an_expression s p (binary operator a d) ∷ [] in
      both_off (applies s a) (applies s d) (applies_none q a (rest_none applies_wrongly whole (uses s q a) (front_none applies_wrongly (whole ++ uses s q a) (uses s r d) none))) (applies_none r d (rest_none applies_wrongly (whole ++ uses s q a) (uses s r d) none))
  applies_none p (choice c a d) none =
      let q : Place = chosen_place p (kind_of s a) (kind_of s d) in
      let whole : List Use = an_expression s p (choice c a d) ∷ [] in
      let inner : List Use = (whole ++ uses s (value boolean) c) ++ uses s q a in
      both_off (applies s c || applies s a) (applies s d)
      (both_off (applies s c) (applies s a)
      (applies_none (value boolean) c (rest_none applies_wrongly whole (uses s (value boolean) c) (front_none applies_wrongly (whole ++ uses s (value boolean) c) (uses s q a) (front_none applies_wrongly inner (uses s q d) none))))
      (applies_none q a (rest_none applies_wrongly (whole ++ uses s (value boolean) c) (uses s q a) (front_none applies_wrongly inner (uses s q d) none))))
      (applies_none q d (rest_none applies_wrongly inner (uses s q d) none))
  applies_none p (parenthesized e) none = refl
  applies_none p no_arguments none = refl
  applies_none p (argument before last) none = refl
  applies_none p (listed es) none = refl

  pub none_apply : (places : List Place) (e : Exp16) → list_any applies_wrongly (uses_at s (many places unasked) e) ≡ false → any_applies s (arguments_of e) ≡ false
  none_apply places (literal n) none = refl
  none_apply places (truth holds) none = refl
  none_apply places error none = refl
  none_apply places (name text) none = refl
  none_apply places (member e word) none = refl
  none_apply places (index e i) none = refl
  none_apply places (slice e high low) none = refl
  none_apply places (call g more) none = refl
  none_apply places (lookahead e to more) none = refl
  none_apply places (cast to e) none = refl
  none_apply places (unary operator e) none = refl
  none_apply places (binary operator a d) none = refl
  none_apply places (choice c a d) none = refl
  none_apply places (parenthesized e) none = refl
  none_apply places no_arguments none = refl
  none_apply places (argument before last) none =
      let q : Place = get_or places (argument_count before) unasked in
      joined s (arguments_of before) last (none_apply places before (front_none applies_wrongly (uses_at s (many places unasked) before) (uses s q last) none)) (applies_none q last (rest_none applies_wrongly (uses_at s (many places unasked) before) (uses s q last) none))
  none_apply places (listed es) none = refl
