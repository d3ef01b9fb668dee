-- Turns of loops that judge one item after another.
use Rattle.std.proofs.Common.{◌≡◌, ℕ, ◌+◌, ◌<◌, List, [], ◌∷◌, ◌++◌, length, drop, map, flat_map, get_or, sym, ap, ◌∙◌}
use Rattle.std.proofs.lemmas.List.{append_assoc, map-append}
use Rattle.p416_syntax.specs.declared.parts.Note.{Note}
use Rattle.p416_syntax.specs.declared.parsers.Simple.{Simple}
use Rattle.p416_syntax.specs.Kinds.{Kind}
use Rattle.p416_syntax.specs.Tree.{Exp16}
use Rattle.p416_syntax.specs.Expressions.{kind_of}
use Rattle.p416_names.specs.declared.kind.Kind.{Kind as CodeKind}
use Rattle.p416_names.specs.SeenKinds.{seen_kind}
use Rattle.p416_syntax.specs.Scopes.{Scope}
use Rattle.p416_syntax.specs.Uses.{Use, a_number}
use Rattle.p416_syntax.specs.Declarations.{list_numbers, compared_uses, simple_uses}
use Rattle.p416_expression_uses.specs.Found.{Found, after, after_all}
use Rattle.p416_expression_uses.proofs.Finding.{after_turn}
use Rattle.p416_expression_uses.proofs.Running.{next}
use Rattle.p416_uses.specs.Parts.{key_at, paired}
use Rattle.p416_uses.proofs.Turns.{numbers_turn}

pub flat_on : {X : Type 0} (f : X → List Use) (xs : List X) (i : ℕ) (x : X) (found new whole : Found) → i < length xs → x ≡ get_or xs i x
    → new ≡ after_all found (f x) → after_all found (flat_map f (drop i xs)) ≡ whole → after_all new (flat_map f (drop (i + 1) xs)) ≡ whole
flat_on f xs i x found new whole lt is step so =
    after_turn found new whole (f x) (flat_map f (drop (i + 1) xs)) step (ap (λ ys. after_all found (flat_map f ys)) (sym (next xs i x lt is)) ∙ so)

pub map_on : {X : Type 0} (f : X → Use) (xs : List X) (i : ℕ) (x : X) (found new whole : Found) → i < length xs → x ≡ get_or xs i x
    → new ≡ after found (f x) → after_all found (map f (drop i xs)) ≡ whole → after_all new (map f (drop (i + 1) xs)) ≡ whole
map_on f xs i x found new whole lt is step so =
    ap (λ g. after_all g (map f (drop (i + 1) xs))) step ∙ (ap (λ ys. after_all found (map f ys)) (sym (next xs i x lt is)) ∙ so)

pub notes_on : (xs : List Note) (i : ℕ) (x : Note) (found new whole : Found) → i < length xs → x ≡ get_or xs i x
    → new ≡ after_all found (map a_number (list_numbers x)) → after_all found (map a_number (flat_map list_numbers (drop i xs))) ≡ whole
    → after_all new (map a_number (flat_map list_numbers (drop (i + 1) xs))) ≡ whole
notes_on xs i x found new whole lt is step so =
    numbers_turn found new whole (list_numbers x) (flat_map list_numbers (drop (i + 1) xs)) step
    (ap (λ ys. after_all found (map a_number (flat_map list_numbers ys))) (sym (next xs i x lt is)) ∙ so)

pub parts_on : (s : Scope) (ks : List Kind) (xs : List Simple) (i n m : ℕ) (x : Simple) (k : Kind) (found new whole : Found) → i < length xs → x ≡ get_or xs i x → k ≡ key_at ks n → m ≡ n + 1
    → new ≡ after_all found (simple_uses s k x) → after_all found (flat_map (compared_uses s) (paired ks n (drop i xs))) ≡ whole
    → after_all new (flat_map (compared_uses s) (paired ks m (drop (i + 1) xs))) ≡ whole
parts_on s ks xs i n m x k found new whole lt is of_key of_next step so =
    ap (λ j. after_all new (flat_map (compared_uses s) (paired ks j (drop (i + 1) xs)))) of_next
    ∙ after_turn found new whole (simple_uses s (key_at ks n) x) (flat_map (compared_uses s) (paired ks (n + 1) (drop (i + 1) xs)))
    (step ∙ ap (λ j. after_all found (simple_uses s j x)) of_key) (ap (λ ys. after_all found (flat_map (compared_uses s) (paired ks n ys))) (sym (next xs i x lt is)) ∙ so)

-- where the scope is the same again behind each item
pub scoped_on : {X : Type 0} (f : Scope → X → List Use) (s t : Scope) (xs : List X) (i : ℕ) (x : X) (found new whole : Found) → i < length xs → x ≡ get_or xs i x → t ≡ s
    → new ≡ after_all found (f t x) → after_all found (flat_map (f s) (drop i xs)) ≡ whole → after_all new (flat_map (f s) (drop (i + 1) xs)) ≡ whole
scoped_on f s t xs i x found new whole lt is same step so = flat_on (f s) xs i x found new whole lt is (step ∙ ap (λ u. after_all found (f u x)) same) so

-- one key more
pub kinds_on : (s : Scope) (keys : List Exp16) (i : ℕ) (x : Exp16) (old new : List CodeKind) (k : CodeKind) (whole : List Kind) → i < length keys → x ≡ get_or keys i x → new ≡ old ++ k ∷ []
    → seen_kind k ≡ kind_of s x → map seen_kind old ++ map (kind_of s) (drop i keys) ≡ whole → map seen_kind new ++ map (kind_of s) (drop (i + 1) keys) ≡ whole
kinds_on s keys i x old new k whole lt is step of_kind so =
    ap (λ ks. map seen_kind ks ++ map (kind_of s) (drop (i + 1) keys)) step
    ∙ (ap (λ ys. ys ++ map (kind_of s) (drop (i + 1) keys)) (map-append seen_kind old (k ∷ []))
    ∙ (append_assoc (map seen_kind old) (seen_kind k ∷ []) (map (kind_of s) (drop (i + 1) keys))
    ∙ (ap (λ j. map seen_kind old ++ (j ∷ map (kind_of s) (drop (i + 1) keys))) of_kind
    ∙ (ap (λ ys. map seen_kind old ++ map (kind_of s) ys) (sym (next keys i x lt is)) ∙ so))))
