-- What T12 asks of an expression and all within it, whatever its scope and its place.
use Rattle.std.proofs.Common.{◌≡◌, ◌⊎◌, inl, inr, leb, ℕ, suc, ◌<◌, ◌≤◌, true, false, List, [], ◌++◌, flat_map, get_or, Some, None, refl, ◌∙◌, arith}
use Rattle.std.specs.Prelude.{nat_lt}
use Rattle.std.specs.List.{list_any}
use Rattle.std.proofs.lemmas.List.Folds.{list_any-append}
use Rattle.std.proofs.lemmas.Bool.Decides.{leb_tells}
use Rattle.p416_syntax.specs.declared.parts.Type16.{Type16}
use Rattle.p416_syntax.specs.declared.parts.Type16.TheVariants.{Bit, Bool as BoolType, Named}
use Rattle.p416_syntax.specs.declared.node.CastType.{CastType}
use Rattle.p416_syntax.specs.declared.node.CastType.TheVariants as cast_to
use Rattle.p416_syntax.specs.Tree.{Exp16, member, index, slice, call, lookahead, cast, unary, binary, choice, argument, listed}
use Rattle.p416_syntax.specs.Kinds.{boolean}
use Rattle.p416_syntax.specs.Scopes.{Scope}
use Rattle.p416_syntax.specs.Calls.{value, any_bits, owner, a_stack, callee, unasked, method_signature}
use Rattle.p416_syntax.specs.Expressions.{kind_of, signature_of, argument_count}
use Rattle.p416_syntax.specs.Uses.{Use, Places, one, many, unary_place, left_place, right_place, cast_place, chosen_place, owner_place, wanted_by, of_lookahead, type_uses, cast_numbers, uses_at}
use Rattle.p416_syntax.specs.Totals.{depth, held_kinds}
use Rattle.lower_laws_rules.specs.Keeping.{is_deep}
use Rattle.lower_laws_rules.proofs.Lists.{neither, flat_behind}

pub few : (n : ℕ) → n ≤ 400 → nat_lt 400 n ≡ false
few n le = by (leb_tells (suc 400) n) where
  by : ((leb (suc 400) n ≡ true) × (suc 400 ≤ n)) ⊎ ((leb (suc 400) n ≡ false) × (n < suc 400)) → leb (suc 400) n ≡ false
  by (inl more) = absurd (omega (arith, more.1, le))
  by (inr less) = less.0

two : (us vs : List Use) → list_any is_deep us ≡ false → list_any is_deep vs ≡ false → list_any is_deep (us ++ vs) ≡ false
two us vs a b = list_any-append is_deep us vs ∙ neither _ _ a b

cast_shallow : (t : CastType) → list_any is_deep (cast_numbers t) ≡ false
cast_shallow (cast_to.Bit w) = refl
cast_shallow cast_to.Bool = refl

type_shallow : (s : Scope) (t : Type16) → list_any is_deep (type_uses s of_lookahead t) ≡ false
type_shallow s (Bit w) = refl
type_shallow s BoolType = refl
type_shallow s (Named text None) = refl
type_shallow s (Named text (Some size)) = refl

pub shallow : (s : Scope) (q : Places) (e : Exp16) → depth e ≤ 400 → list_any is_deep (uses_at s q e) ≡ false
shallow s (one p) (member e word) le = neither _ _ (few _ le) (shallow s (one (owner_place p (method_signature (kind_of s e) word))) e (omega (arith, le)))
shallow s (one p) (index e at) le = neither _ _ (few _ le) (shallow s (one a_stack) e (omega (arith, le)))
shallow s (one p) (slice e high low) le = neither _ _ (few _ le) (shallow s (one any_bits) e (omega (arith, le)))
shallow s (one p) (call e given) le =
    neither _ _ (few _ le) (two (uses_at s (one callee) e) (uses_at s (many (wanted_by (signature_of s e)) unasked) given) (shallow s (one callee) e (omega (arith, le))) (shallow s (many (wanted_by (signature_of s e)) unasked) given (omega (arith, le))))
shallow s (one p) (lookahead e to given) le =
    neither _ _ (few _ le) (two (type_uses s of_lookahead to ++ uses_at s (one owner) e) (uses_at s (many [] unasked) given)
    (two (type_uses s of_lookahead to) (uses_at s (one owner) e) (type_shallow s to) (shallow s (one owner) e (omega (arith, le)))) (shallow s (many [] unasked) given (omega (arith, le))))
shallow s (one p) (cast to e) le = neither _ _ (few _ le) (two (cast_numbers to) (uses_at s (one (cast_place to)) e) (cast_shallow to) (shallow s (one (cast_place to)) e (omega (arith, le))))
shallow s (one p) (unary operator e) le = neither _ _ (few _ le) (shallow s (one (unary_place p operator (kind_of s e))) e (omega (arith, le)))
shallow s (one p) (binary operator a b) le =
    let l = one (left_place p operator (kind_of s a) (kind_of s b)) in
    let r = one (right_place p operator (kind_of s a) (kind_of s b)) in
    neither _ _ (few _ le) (two (uses_at s l a) (uses_at s r b) (shallow s l a (omega (arith, le))) (shallow s r b (omega (arith, le))))
shallow s (one p) (choice c a b) le =
    let q = one (chosen_place p (kind_of s a) (kind_of s b)) in
    neither _ _ (few _ le) (two (uses_at s (one (value boolean)) c ++ uses_at s q a) (uses_at s q b)
    (two (uses_at s (one (value boolean)) c) (uses_at s q a) (shallow s (one (value boolean)) c (omega (arith, le))) (shallow s q a (omega (arith, le)))) (shallow s q b (omega (arith, le))))
shallow s (one p) (listed es) le = neither _ _ (few _ le) (shallow s (many [] any_bits) es (omega (arith, le)))
shallow s (one p) e le = neither _ _ (few _ le) refl
shallow s (many wanted otherwise) (argument before last) le =
    let q = one (get_or wanted (argument_count before) otherwise) in
    two (uses_at s (many wanted otherwise) before) (uses_at s q last) (shallow s (many wanted otherwise) before (omega (arith, le))) (shallow s q last (omega (arith, le)))
shallow s (many wanted otherwise) e le = refl

-- no variable and no parameter is declared

cast_held : (t : CastType) → flat_map held_kinds (cast_numbers t) ≡ []
cast_held (cast_to.Bit w) = refl
cast_held cast_to.Bool = refl

type_held : (s : Scope) (t : Type16) → flat_map held_kinds (type_uses s of_lookahead t) ≡ []
type_held s (Bit w) = refl
type_held s BoolType = refl
type_held s (Named text None) = refl
type_held s (Named text (Some size)) = refl

pub unheld : (s : Scope) (q : Places) (e : Exp16) → flat_map held_kinds (uses_at s q e) ≡ []
unheld s (one p) (member e word) = unheld s (one (owner_place p (method_signature (kind_of s e) word))) e
unheld s (one p) (index e at) = unheld s (one a_stack) e
unheld s (one p) (slice e high low) = unheld s (one any_bits) e
unheld s (one p) (call e given) = flat_behind (uses_at s (one callee) e) (uses_at s (many (wanted_by (signature_of s e)) unasked) given) (unheld s (one callee) e) (unheld s (many (wanted_by (signature_of s e)) unasked) given)
unheld s (one p) (lookahead e to given) =
    flat_behind (type_uses s of_lookahead to ++ uses_at s (one owner) e) (uses_at s (many [] unasked) given)
    (flat_behind (type_uses s of_lookahead to) (uses_at s (one owner) e) (type_held s to) (unheld s (one owner) e)) (unheld s (many [] unasked) given)
unheld s (one p) (cast to e) = flat_behind (cast_numbers to) (uses_at s (one (cast_place to)) e) (cast_held to) (unheld s (one (cast_place to)) e)
unheld s (one p) (unary operator e) = unheld s (one (unary_place p operator (kind_of s e))) e
unheld s (one p) (binary operator a b) =
    let l = one (left_place p operator (kind_of s a) (kind_of s b)) in
    let r = one (right_place p operator (kind_of s a) (kind_of s b)) in
    flat_behind (uses_at s l a) (uses_at s r b) (unheld s l a) (unheld s r b)
unheld s (one p) (choice c a b) =
    let q = one (chosen_place p (kind_of s a) (kind_of s b)) in
    flat_behind (uses_at s (one (value boolean)) c ++ uses_at s q a) (uses_at s q b) (flat_behind (uses_at s (one (value boolean)) c) (uses_at s q a) (unheld s (one (value boolean)) c) (unheld s q a)) (unheld s q b)
unheld s (one p) (listed es) = unheld s (many [] any_bits) es
unheld s (one p) e = refl
unheld s (many wanted otherwise) (argument before last) =
    let q = one (get_or wanted (argument_count before) otherwise) in
    flat_behind (uses_at s (many wanted otherwise) before) (uses_at s q last) (unheld s (many wanted otherwise) before) (unheld s q last)
unheld s (many wanted otherwise) e = refl
