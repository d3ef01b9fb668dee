-- What is known of an expression tells which rule it breaks.
use Rattle.std.proofs.Common.{◌≡◌, Bool, cond, not, Some, None, refl, sym, ap, ◌∙◌}
use Rattle.p416_syntax.specs.Tree.{Exp16, literal, truth, error, name, member, index, slice, call, lookahead, cast, unary, binary, choice, parenthesized, no_arguments, argument, listed}
use Rattle.p416_syntax.specs.declared.rule.ProgramRule.{ProgramRule}
use Rattle.p416_syntax.specs.Scopes.{Scope}
use Rattle.p416_syntax.specs.declared.rule.ProgramRule.TheVariants.{T1, T2, T3, T4}
use Rattle.p416_syntax.specs.Names.{Name}
use Rattle.p416_syntax.specs.Calls.{Place, value, written, any_bits, written_bits, one_bit, bits_or_boolean, written_header, emitted, literal_of, any_literal, item_list, member_place, select_key, table_key, target, owner, written_owner, a_stack, callee, statement, unasked, method_signature}
use Rattle.p416_syntax.specs.Expressions.{kind_of}
use Rattle.p416_syntax.specs.Types.{takes}
use Rattle.p416_syntax.specs.Literals.{overflows}
use Rattle.p416_syntax.specs.Unknown.{is_unknown_member}
use Rattle.p416_syntax.specs.Uses.{an_expression}
use Rattle.p416_typing.specs.Rows.{RowOf, row_of}
use Rattle.p416_expression_check.specs.Judged.{first_lower, first_higher, first_of, first_broken}
use Rattle.p416_expression_check.specs.internal.Broken.{unknown_member_by, unknown_by, leaves_by, lower_by, higher_by}

-- a member is judged by what stands before it, whatever its place asks for
member_known : (s : Scope) (p : Place) (e : Exp16) (word : Name) → unknown_member_by s.layouts p (kind_of s e) (method_signature (kind_of s e) word) word ≡ is_unknown_member s p e word
member_known s (value k) e word = refl
member_known s (written k) e word = refl
member_known s any_bits e word = refl
member_known s written_bits e word = refl
member_known s one_bit e word = refl
member_known s bits_or_boolean e word = refl
member_known s written_header e word = refl
member_known s emitted e word = refl
member_known s (literal_of k) e word = refl
member_known s any_literal e word = refl
member_known s item_list e word = refl
member_known s (member_place of) e word = refl
member_known s select_key e word = refl
member_known s (table_key is_exact) e word = refl
member_known s target e word = refl
member_known s owner e word = refl
member_known s written_owner e word = refl
member_known s a_stack e word = refl
member_known s callee e word = refl
member_known s statement e word = refl
member_known s unasked e word = refl

lower_known : (s : Scope) (p : Place) (e : Exp16) → lower_by s p (row_of s e) e ≡ first_lower (an_expression s p e)
lower_known s p (literal n) = refl
lower_known s p (truth b) = refl
lower_known s p error = refl
lower_known s p (name text) = refl
lower_known s p (member e word) =
    ap (λ b. cond b (Some T1) (cond (not (takes p (member e word) (kind_of s (member e word)))) (Some T3) None)) (member_known s p e word)
lower_known s p (index e at) = refl
lower_known s p (slice e high low) = refl
lower_known s p (call e given) = refl
lower_known s p (lookahead e to given) = refl
lower_known s p (cast to e) = refl
lower_known s p (unary operator e) = refl
lower_known s p (binary operator a b) = refl
lower_known s p (choice c a b) = refl
lower_known s p (parenthesized e) = refl
lower_known s p no_arguments = refl
lower_known s p (argument before last) = refl
lower_known s p (listed es) = refl

higher_known : (s : Scope) (p : Place) (e : Exp16) → higher_by s p (row_of s e) e ≡ first_higher (an_expression s p e)
higher_known s p (literal n) = refl
higher_known s p (truth b) = refl
higher_known s p error = refl
higher_known s p (name text) = refl
higher_known s p (member e word) = refl
higher_known s p (index e at) = refl
higher_known s p (slice e high low) = refl
higher_known s p (call e given) = refl
higher_known s p (lookahead e to given) = refl
higher_known s p (cast to e) = refl
higher_known s p (unary operator e) = refl
higher_known s p (binary operator a b) = refl
higher_known s p (choice c a b) = refl
higher_known s p (parenthesized e) = refl
higher_known s p no_arguments = refl
higher_known s p (argument before last) = refl
higher_known s p (listed es) = refl

pub known_lower : (s : Scope) (p : Place) (e : Exp16) (r : RowOf) (rule : ProgramRule) → r ≡ row_of s e → lower_by s p r e ≡ Some rule → Some rule ≡ first_broken (an_expression s p e)
known_lower s p e r rule known is =
    sym (ap (λ o. first_of o (first_higher (an_expression s p e))) (sym (lower_known s p e) ∙ (ap (λ x. lower_by s p x e) (sym known) ∙ is)))

pub known_higher : (s : Scope) (p : Place) (e : Exp16) (r : RowOf) → r ≡ row_of s e → lower_by s p r e ≡ None → higher_by s p r e ≡ first_broken (an_expression s p e)
known_higher s p e r known is =
    ap (λ x. higher_by s p x e) known
    ∙ (higher_known s p e
    ∙ sym (ap (λ o. first_of o (first_higher (an_expression s p e))) (sym (lower_known s p e) ∙ (ap (λ x. lower_by s p x e) (sym known) ∙ is))))

-- the tests one after another
pub lower_at : (s : Scope) (p : Place) (r : RowOf) (e : Exp16) (a b c d : Bool)
    → unknown_by s p r.left r.callee e ≡ a → leaves_by r.left r.right e ≡ b → takes p e r.kind ≡ c → overflows (an_expression s p e) ≡ d
    → lower_by s p r e ≡ cond a (Some T1) (cond b (Some T2) (cond (not c) (Some T3) (cond d (Some T4) None)))
lower_at s p r e a b c d of_a of_b of_c of_d = rw (of_a, of_b, of_c, of_d) refl
