-- Keysets: what stands behind an expression that may be in the parentheses of a tuple, or in its own.
use Rattle.std.proofs.Common.{◌≡◌, true, false, not, ◌&&◌, ◌||◌, List, [], ◌∷◌, ◌++◌, map, refl, sym, ap, ap₂, ◌∙◌, append_assoc, append-nil}
use Rattle.std.specs.List.{flat_map, list_all}
use Rattle.p416_syntax.specs.declared.parsers.Keyset.TheVariants as keyset
use Rattle.p416_syntax.specs.Tree.{Exp16, member, index, slice, call, lookahead, binary, choice, parenthesized}
use Rattle.p416_syntax.specs.Tokens.{Seen16, paren_open, paren_close}
use Rattle.p416_syntax.specs.Written.{after_commas, written_exp, written_simple, written_keyset}
use Rattle.p416_syntax.specs.Parentheses.{bare_exp, bare_simple, bare_keyset}
use Rattle.p416_syntax.specs.Conditions.{with_parentheses, is_simple, is_parenthesized, is_parenthesized_value, is_keyset}
use Rattle.p416_reader.specs.declared.built.Built.{Built}
use Rattle.p416_reader.specs.internal.Actions.{cleared, first_exp}
use Rattle.p416_reader.proofs.Forms.{is_full, Suffix, called, looked, at, cut, dotted, written_suffix, is_suffix, with_suffixes, arguments_of, bare_suffix, Tail, done, by, chosen, written_tail, is_tail, is_some_tail, with_tail, bare_tail, SimpleEnd, alone, masked, ranged, simple_with, written_end, is_simple_end, is_some_end, bare_end, ParenRest, single, longer, is_some_suffix, written_rest, is_rest, keyset_behind, bare_rest, OpenRest, tuple, closes, written_open, is_open_rest, keyset_open, bare_open}
use Rattle.p416_reader.proofs.Meaning.{after_all, put_suffix, put_tail, same_exp}
use Rattle.p416_reader.proofs.Lists.{both, left_true, right_true, not_false}
use Rattle.p416_reader.proofs.ExpressionLaws.{weaker, written_suffixes, suffixes_are, bare_suffixes, bare_tails}
use Rattle.p416_reader.proofs.Sound.Expressions.{full_tokens, full_is, plain_suffixes}

-- a value, a mask or a range

pub written_with : (e : Exp16) (end : SimpleEnd) → written_simple (simple_with e end) ≡ written_exp e ++ written_end end
written_with e alone = sym (append-nil (written_exp e))
written_with e (masked m) = refl
written_with e (ranged m) = refl

pub with_is : (e : Exp16) (end : SimpleEnd) → is_full e ≡ true → is_simple_end end ≡ true → is_simple with_parentheses (simple_with e end) ≡ true
with_is e alone h k = h
with_is e (masked m) h k = both (is_full e) (is_full m) h k
with_is e (ranged m) h k = both (is_full e) (is_full m) h k

pub bare_with : (e : Exp16) (end : SimpleEnd) → bare_simple (simple_with e end) ≡ simple_with (bare_exp e) (bare_end end)
bare_with e alone = refl
bare_with e (masked m) = refl
bare_with e (ranged m) = refl

-- an operand with operators and such an end

pub simple_tokens : (e : Exp16) (t : Tail) (end : SimpleEnd) (us vs ws : List Seen16) → us ≡ written_exp e → vs ≡ written_tail t → ws ≡ written_end end → us ++ (vs ++ ws) ≡ written_simple (simple_with (with_tail e t) end)
simple_tokens e t end us vs ws f g h =
    sym (append_assoc us vs ws) ∙ ap₂ ◌++◌ (full_tokens e t us vs f g) h ∙ sym (written_with (with_tail e t) end)

-- what stands in no parentheses

pub plain_tail : (e : Exp16) (t : Tail) → is_parenthesized e ≡ false → is_parenthesized (with_tail e t) ≡ false
plain_tail e done h = h
plain_tail e (by operator right rest) h = plain_tail (binary operator e right) rest refl
plain_tail e (chosen a b) h = refl

pub plain_with : (e : Exp16) (end : SimpleEnd) → is_parenthesized e ≡ false → is_parenthesized_value (simple_with e end) ≡ false
plain_with e alone h = h
plain_with e (masked m) h = refl
plain_with e (ranged m) h = refl

pub one_is : (e : Exp16) (end : SimpleEnd) → is_full e ≡ true → is_simple_end end ≡ true → is_parenthesized_value (simple_with e end) ≡ false → is_keyset with_parentheses (keyset.One (simple_with e end)) ≡ true
one_is e end h k plain =
    both (is_simple with_parentheses (simple_with e end)) (not (is_parenthesized_value (simple_with e end))) (with_is e end h k) (not_false (is_parenthesized_value (simple_with e end)) plain)

-- where something stands behind the parentheses, they are not those of a whole value

behind_plain : (e : Exp16) (ss : List Suffix) (t : Tail) (end : SimpleEnd) → (is_some_suffix ss || (is_some_tail t || is_some_end end)) ≡ true → is_parenthesized_value (simple_with (with_tail (with_suffixes (parenthesized e) ss) t) end) ≡ false
behind_plain e [] done alone h = cc
behind_plain e [] done (masked m) h = refl
behind_plain e [] done (ranged m) h = refl
behind_plain e [] (by operator right rest) end h = plain_with (with_tail (binary operator (parenthesized e) right) rest) end (plain_tail (binary operator (parenthesized e) right) rest refl)
behind_plain e [] (chosen a b) end h = plain_with (choice (parenthesized e) a b) end refl
behind_plain e (dotted text ∷ ss) t end h = plain_with (with_tail (with_suffixes (member (parenthesized e) text) ss) t) end (plain_tail (with_suffixes (member (parenthesized e) text) ss) t (plain_suffixes (member (parenthesized e) text) ss refl))
behind_plain e (at n ∷ ss) t end h = plain_with (with_tail (with_suffixes (index (parenthesized e) n) ss) t) end (plain_tail (with_suffixes (index (parenthesized e) n) ss) t (plain_suffixes (index (parenthesized e) n) ss refl))
behind_plain e (cut high low ∷ ss) t end h = plain_with (with_tail (with_suffixes (slice (parenthesized e) high low) ss) t) end (plain_tail (with_suffixes (slice (parenthesized e) high low) ss) t (plain_suffixes (slice (parenthesized e) high low) ss refl))
behind_plain e (called es ∷ ss) t end h = plain_with (with_tail (with_suffixes (call (parenthesized e) (arguments_of es)) ss) t) end (plain_tail (with_suffixes (call (parenthesized e) (arguments_of es)) ss) t (plain_suffixes (call (parenthesized e) (arguments_of es)) ss refl))
behind_plain e (looked of es ∷ ss) t end h = plain_with (with_tail (with_suffixes (lookahead (parenthesized e) of (arguments_of es)) ss) t) end (plain_tail (with_suffixes (lookahead (parenthesized e) of (arguments_of es)) ss) t (plain_suffixes (lookahead (parenthesized e) of (arguments_of es)) ss refl))

-- the keyset behind `(`, an expression and `)`

rest_tokens : (e : Exp16) (r : ParenRest) → paren_open ∷ (written_exp e ++ paren_close ∷ written_rest r) ≡ written_keyset (keyset_behind parenthesized e r)
rest_tokens e single = ap (λ l. paren_open ∷ (l ++ paren_close ∷ [])) (sym (append-nil (written_exp e)))
rest_tokens e (longer ss t end) =
    let inner = parenthesized e in
    ap (λ l. paren_open ∷ l) (sym (append_assoc (written_exp e) (paren_close ∷ []) (flat_map written_suffix ss ++ (written_tail t ++ written_end end))))
    ∙ sym (append_assoc (written_exp inner) (flat_map written_suffix ss) (written_tail t ++ written_end end))
    ∙ ap (λ l. l ++ (written_tail t ++ written_end end)) (sym (written_suffixes inner ss))
    ∙ simple_tokens (with_suffixes inner ss) t end (written_exp (with_suffixes inner ss)) (written_tail t) (written_end end) refl refl refl

rest_is : (e : Exp16) (r : ParenRest) → is_full e ≡ true → is_rest r ≡ true → is_keyset with_parentheses (keyset_behind parenthesized e r) ≡ true
rest_is e single h k = both (is_full e) true h refl
rest_is e (longer ss t end) h k =
    let some = is_some_suffix ss || (is_some_tail t || is_some_end end) in
    let parts = list_all is_suffix ss && (is_tail 0 11 t && is_simple_end end) in
    let good = right_true some parts k in
    let ends = right_true (list_all is_suffix ss) (is_tail 0 11 t && is_simple_end end) good in
    let inner = with_suffixes (parenthesized e) ss in
    one_is (with_tail inner t) end
    (full_is inner t (weaker 11 12 inner refl (suffixes_are (parenthesized e) ss h (left_true (list_all is_suffix ss) (is_tail 0 11 t && is_simple_end end) good))) (left_true (is_tail 0 11 t) (is_simple_end end) ends))
    (right_true (is_tail 0 11 t) (is_simple_end end) ends) (behind_plain e ss t end (left_true some parts k))

bare_behind : (e : Exp16) (r : ParenRest) → bare_keyset (keyset_behind parenthesized e r) ≡ keyset_behind same_exp (bare_exp e) (bare_rest r)
bare_behind e single = refl
bare_behind e (longer ss t end) =
    ap keyset.One (bare_with (with_tail (with_suffixes (parenthesized e) ss) t) end
    ∙ ap (λ x. simple_with x (bare_end end)) (bare_tails (with_suffixes (parenthesized e) ss) t ∙ ap (λ x. with_tail x (bare_tail t)) (bare_suffixes (parenthesized e) ss)))

-- the keyset behind `(` and an expression

pub open_tokens : (e : Exp16) (o : OpenRest) → paren_open ∷ (written_exp e ++ written_open o) ≡ written_keyset (keyset_open parenthesized e o)
open_tokens e (tuple end more) =
    ap (λ l. paren_open ∷ l)
    (sym (append_assoc (written_exp e) (written_end end) (after_commas written_simple more ++ paren_close ∷ []))
    ∙ ap (λ l. l ++ (after_commas written_simple more ++ paren_close ∷ [])) (sym (written_with e end))
    ∙ sym (append_assoc (written_simple (simple_with e end)) (after_commas written_simple more) (paren_close ∷ [])))
open_tokens e (closes r) = rest_tokens e r

pub open_is : (e : Exp16) (o : OpenRest) → is_full e ≡ true → is_open_rest o ≡ true → is_keyset with_parentheses (keyset_open parenthesized e o) ≡ true
open_is e (tuple end more) h k =
    both (is_simple with_parentheses (simple_with e end)) (list_all (is_simple with_parentheses) more)
    (with_is e end h (left_true (is_simple_end end) (list_all (is_simple with_parentheses) more) k)) (right_true (is_simple_end end) (list_all (is_simple with_parentheses) more) k)
open_is e (closes r) h k = rest_is e r h k

pub bare_opened : (e : Exp16) (o : OpenRest) → bare_keyset (keyset_open parenthesized e o) ≡ keyset_open same_exp (bare_exp e) (bare_open o)
bare_opened e (tuple end more) = ap (λ s. keyset.Tuple (s ∷ map bare_simple more)) (bare_with e end)
bare_opened e (closes r) = bare_behind e r

-- what is built of the newest expression, while nothing else changes

pub suffixes_first : (ss : List Suffix) (b : Built) → first_exp (after_all put_suffix ss b).bodies.exps ≡ with_suffixes (first_exp b.bodies.exps) (map bare_suffix ss)
suffixes_first [] b = refl
suffixes_first (s ∷ ss) b = suffixes_first ss (put_suffix s b)

pub suffixes_clear : (ss : List Suffix) (b : Built) → cleared (after_all put_suffix ss b) ≡ cleared b
suffixes_clear [] b = refl
suffixes_clear (s ∷ ss) b = suffixes_clear ss (put_suffix s b)

pub tail_first : (t : Tail) (b : Built) → first_exp (put_tail t b).bodies.exps ≡ with_tail (first_exp b.bodies.exps) (bare_tail t)
tail_first done b = refl
tail_first (by operator right rest) b = tail_first rest (put_tail (by operator right done) b)
tail_first (chosen x y) b = refl

pub tail_clear : (t : Tail) (b : Built) → cleared (put_tail t b) ≡ cleared b
tail_clear done b = refl
tail_clear (by operator right rest) b = tail_clear rest (put_tail (by operator right done) b)
tail_clear (chosen x y) b = refl
