-- Uses that are judged one behind another, and turns of loops.
use Rattle.std.proofs.Common.{◌≡◌, List, [], ◌∷◌, ◌++◌, map, flat_map, refl, sym, ap, ◌∙◌}
use Rattle.std.proofs.lemmas.List.{map-append}
use Rattle.p416_syntax.specs.declared.lexeme.Literal16.{Literal16}
use Rattle.p416_syntax.specs.declared.parts.Type16.{Type16}
use Rattle.p416_syntax.specs.Tree.{Exp16, Stmt16}
use Rattle.p416_syntax.specs.Kinds.{Kind}
use Rattle.p416_syntax.specs.Scopes.{Scope, kind_of_type}
use Rattle.p416_syntax.specs.Calls.{Place, value, target}
use Rattle.p416_syntax.specs.Expressions.{kind_of}
use Rattle.p416_syntax.specs.Uses.{Use, a_number, of_variable, type_uses, uses}
use Rattle.p416_syntax.specs.Statements.{Visit, visit, visit_uses, own_uses, assigned_place}
use Rattle.p416_expression_uses.specs.Found.{Found, after, after_all}
use Rattle.p416_expression_uses.proofs.Finding.{after_both, after_then, after_turn}

pub then_one : (f g h : Found) (a : List Use) (u : Use) → g ≡ after_all f a → h ≡ after g u → h ≡ after_all f (a ++ u ∷ [])
then_one f g h a u is so = after_then f g h a (u ∷ []) is so

pub three_seen : (f g h k : Found) (a b c : List Use) → g ≡ after_all f a → h ≡ after_all g b → k ≡ after_all h c → k ≡ after_all f (a ++ b ++ c)
three_seen f g h k a b c of_a of_b of_c = after_then f h k (a ++ b) c (after_then f g h a b of_a of_b) of_c

pub four_seen : (f g h k l : Found) (a b c d : List Use) → g ≡ after_all f a → h ≡ after_all g b → k ≡ after_all h c → l ≡ after_all k d → l ≡ after_all f (a ++ b ++ c ++ d)
four_seen f g h k l a b c d of_a of_b of_c of_d = after_then f k l (a ++ b ++ c) d (three_seen f g h k a b c of_a of_b of_c) of_d

pub numbers_turn : (f g whole : Found) (a b : List Literal16) → g ≡ after_all f (map a_number a) → after_all f (map a_number (a ++ b)) ≡ whole → after_all g (map a_number b) ≡ whole
numbers_turn f g whole a b is so = after_turn f g whole (map a_number a) (map a_number b) is (ap (after_all f) (sym (map-append a_number a b)) ∙ so)

pub assigned_seen : (f g h : Found) (s : Scope) (e v : Exp16) (k : Kind) (p : Place) → g ≡ after_all f (uses s target e) → k ≡ kind_of s e → p ≡ assigned_place k → h ≡ after_all g (uses s p v)
    → h ≡ after_all f (uses s target e ++ uses s (assigned_place (kind_of s e)) v)
assigned_seen f g h s e v k p of_target of_kind of_place of_value =
    after_then f g h (uses s target e) (uses s (assigned_place (kind_of s e)) v) of_target
    (of_value ∙ ap (λ q. after_all g (uses s q v)) (of_place ∙ ap assigned_place of_kind))

pub value_seen : (f g : Found) (s : Scope) (t : Type16) (v : Exp16) (k : Kind) → k ≡ kind_of_type s.names t → g ≡ after_all f (uses s (value k) v) → g ≡ after_all f (uses s (value (kind_of_type s.names t)) v)
value_seen f g s t v k of_kind of_value = of_value ∙ ap (λ j. after_all f (uses s (value j) v)) of_kind

pub initial_seen : (f g h : Found) (s : Scope) (t : Type16) (v : Exp16) (k : Kind) → g ≡ after_all f (type_uses s of_variable t) → k ≡ kind_of_type s.names t → h ≡ after_all g (uses s (value k) v)
    → h ≡ after_all f (type_uses s of_variable t ++ uses s (value (kind_of_type s.names t)) v)
initial_seen f g h s t v k of_type of_kind of_value =
    after_then f g h (type_uses s of_variable t) (uses s (value (kind_of_type s.names t)) v) of_type (value_seen g h s t v k of_kind of_value)

-- statements

pub statement_turn : (f g whole : Found) (old rest : List Visit) (s : Scope) (x : Stmt16) → old ≡ visit s x ∷ rest → g ≡ after_all f (own_uses s x)
    → after_all f (flat_map visit_uses old) ≡ whole → after_all g (flat_map visit_uses rest) ≡ whole
statement_turn f g whole old rest s x taken is so =
    after_turn f g whole (own_uses s x) (flat_map visit_uses rest) is (ap (λ vs. after_all f (flat_map visit_uses vs)) (sym taken) ∙ so)

pub statements_over : (f whole : Found) (old : List Visit) → old ≡ [] → after_all f (flat_map visit_uses old) ≡ whole → f ≡ whole
statements_over f whole old none so = ap (λ vs. after_all f (flat_map visit_uses vs)) (sym none) ∙ so
