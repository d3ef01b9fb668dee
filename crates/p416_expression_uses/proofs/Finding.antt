-- What is found of one use, and of lists of them one behind another.
use Rattle.std.proofs.Common.{◌≡◌, Bool, true, false, not, if◌then◌else◌, Option, Some, None, List, [], ◌∷◌, ◌++◌, option_to_list, filter_map, flat_map, refl, sym, ap, ◌∙◌}
use Rattle.std.proofs.lemmas.Bool.{false≢true}
use Rattle.std.proofs.lemmas.List.{append_assoc, append-nil}
use Rattle.p416_syntax.specs.declared.lexeme.Literal16.{Literal16}
use Rattle.p416_syntax.specs.declared.parts.Type16.{Type16}
use Rattle.p416_syntax.specs.declared.parts.Type16.TheVariants.{Named}
use Rattle.p416_syntax.specs.Tree.{Exp16, literal, truth, error, name, member, index, slice, call, lookahead, cast, unary, binary, choice, parenthesized, no_arguments, argument, listed}
use Rattle.p416_syntax.specs.declared.rule.ProgramRule.{ProgramRule}
use Rattle.p416_syntax.specs.declared.rule.ProgramRule.TheVariants.{T1, T3}
use Rattle.p416_syntax.specs.Names.{Name}
use Rattle.p416_syntax.specs.Kinds.{Kind}
use Rattle.p416_syntax.specs.Scopes.{Scope, sort_of}
use Rattle.p416_syntax.specs.Calls.{Place, callee}
use Rattle.p416_syntax.specs.Uses.{Use, an_expression, a_type, a_name, names_of_scope, a_width, a_size, a_number, a_header, a_member, a_keyset, a_count, a_switch, some_parameters, some_counters, a_table_of, a_body, TypePlace}
use Rattle.p416_syntax.specs.Unknown.{is_type_sort}
use Rattle.p416_syntax.specs.Types.{is_misplaced}
use Rattle.p416_syntax.specs.Applications.{called_action, called_name}
use Rattle.p416_syntax.specs.Expressions.{kind_of}
use Rattle.p416_syntax.specs.Totals.{held_kinds}
use Rattle.p416_names.specs.Seen.{kind_of_named}
use Rattle.p416_typing.specs.Rows.{RowOf, row_of, left_of}
use Rattle.p416_expression_check.specs.Judged.{first_of, first_broken}
use Rattle.p416_expression_uses.specs.First.{first_in, lower}
use Rattle.p416_expression_uses.specs.Found.{CountedIn, counted_by, counted_of, Found, after, after_all}
use Rattle.p416_expression_uses.specs.internal.Plain.{is_plain_use, is_listed_use, call_counted}
use Rattle.p416_expression_uses.specs.internal.Runs.{named_rule}
use Rattle.p416_expression_uses.proofs.Lowest.{lower_none, lower_assoc, first_of_none, first_of_one, first_joined}

-- one use

told : (f : Found) (r : Option ProgramRule) (c : List Name) (k : List CountedIn) (h : List Kind) (u : Use)
    → r ≡ first_in (u ∷ []) → c ≡ option_to_list (called_action u) → k ≡ counted_of u → h ≡ held_kinds u
    → record { rule = lower f.rule r; called = f.called ++ c; counted = f.counted ++ k; held = f.held ++ h } ≡ after f u
unfolding after
told f r c k h u of_rule of_called of_counted of_held = rw (of_rule, of_called, of_counted, of_held) refl

no_more : (f : Found) (r : Option ProgramRule) → record f { rule = r } ≡ record { rule = r; called = f.called ++ []; counted = f.counted ++ []; held = f.held ++ [] }
no_more f r =
    ap (λ xs. record f { rule = r; called = xs }) (sym (append-nil f.called))
    ∙ (ap (λ xs. record f { rule = r; called = f.called ++ []; counted = xs }) (sym (append-nil f.counted))
    ∙ ap (λ xs. record f { rule = r; called = f.called ++ []; counted = f.counted ++ []; held = xs }) (sym (append-nil f.held)))

rule_told : (f new : Found) (r : Option ProgramRule) (u : Use) → [] ≡ option_to_list (called_action u) → [] ≡ counted_of u → [] ≡ held_kinds u
    → r ≡ first_in (u ∷ []) → new ≡ record f { rule = lower f.rule r } → new ≡ after f u
rule_told f new r u none_called none_counted none_held is so = so ∙ (no_more f (lower f.rule r) ∙ told f r [] [] [] u is none_called none_counted none_held)

pub plain_seen : (f new : Found) (r : Option ProgramRule) (u : Use) → is_plain_use u ≡ true → r ≡ first_broken u → new ≡ record f { rule = lower f.rule r } → new ≡ after f u
plain_seen f new r (an_expression s p e) plain is so = absurd (false≢true plain)
plain_seen f new r (a_type s p t) plain is so = absurd (false≢true plain)
plain_seen f new r (a_switch s t ls) plain is so = absurd (false≢true plain)
plain_seen f new r (some_parameters ps) plain is so = absurd (false≢true plain)
plain_seen f new r (some_counters ns) plain is so = absurd (false≢true plain)
plain_seen f new r (a_table_of s t) plain is so = absurd (false≢true plain)
plain_seen f new r (a_name s w t) plain is so = rule_told f new r (a_name s w t) refl refl refl (is ∙ first_of_one (a_name s w t) refl) so
plain_seen f new r (names_of_scope ns) plain is so = rule_told f new r (names_of_scope ns) refl refl refl (is ∙ first_of_one (names_of_scope ns) refl) so
plain_seen f new r (a_width n) plain is so = rule_told f new r (a_width n) refl refl refl (is ∙ first_of_one (a_width n) refl) so
plain_seen f new r (a_size n) plain is so = rule_told f new r (a_size n) refl refl refl (is ∙ first_of_one (a_size n) refl) so
plain_seen f new r (a_number n) plain is so = rule_told f new r (a_number n) refl refl refl (is ∙ first_of_one (a_number n) refl) so
plain_seen f new r (a_header h) plain is so = rule_told f new r (a_header h) refl refl refl (is ∙ first_of_one (a_header h) refl) so
plain_seen f new r (a_member w m) plain is so = rule_told f new r (a_member w m) refl refl refl (is ∙ first_of_one (a_member w m) refl) so
plain_seen f new r (a_keyset ks k) plain is so = rule_told f new r (a_keyset ks k) refl refl refl (is ∙ first_of_one (a_keyset ks k) refl) so
plain_seen f new r (a_count w g) plain is so = rule_told f new r (a_count w g) refl refl refl (is ∙ first_of_one (a_count w g) refl) so
plain_seen f new r (a_body d) plain is so = rule_told f new r (a_body d) refl refl refl (is ∙ first_of_one (a_body d) refl) so

pub listed_seen : (f new : Found) (r : Option ProgramRule) (u : Use) → is_listed_use u ≡ true → r ≡ first_in (u ∷ []) → new ≡ record f { rule = lower f.rule r } → new ≡ after f u
listed_seen f new r (an_expression s p e) asked is so = absurd (false≢true asked)
listed_seen f new r (a_type s p t) asked is so = absurd (false≢true asked)
listed_seen f new r (a_name s w t) asked is so = absurd (false≢true asked)
listed_seen f new r (names_of_scope ns) asked is so = absurd (false≢true asked)
listed_seen f new r (a_width n) asked is so = absurd (false≢true asked)
listed_seen f new r (a_size n) asked is so = absurd (false≢true asked)
listed_seen f new r (a_number n) asked is so = absurd (false≢true asked)
listed_seen f new r (a_header h) asked is so = absurd (false≢true asked)
listed_seen f new r (a_member w m) asked is so = absurd (false≢true asked)
listed_seen f new r (a_keyset ks k) asked is so = absurd (false≢true asked)
listed_seen f new r (a_count w g) asked is so = absurd (false≢true asked)
listed_seen f new r (a_body d) asked is so = absurd (false≢true asked)
listed_seen f new r (a_switch s t ls) asked is so = rule_told f new r (a_switch s t ls) refl refl refl is so
listed_seen f new r (some_parameters ps) asked is so = rule_told f new r (some_parameters ps) refl refl refl is so
listed_seen f new r (some_counters ns) asked is so = rule_told f new r (some_counters ns) refl refl refl is so
listed_seen f new r (a_table_of s t) asked is so = rule_told f new r (a_table_of s t) refl refl refl is so

-- a use that breaks none of the rules leaves all as it was
pub skipped : (f : Found) (u : Use) → is_plain_use u ≡ true → None ≡ first_broken u → f ≡ after f u
skipped f u plain none = plain_seen f f None u plain none (ap (λ r. record f { rule = r }) (sym (lower_none f.rule)))

pub expression_seen : (f a b new : Found) (s : Scope) (p : Place) (e : Exp16) (r : Option ProgramRule) (o : Option Name) (k : List CountedIn)
    → a ≡ record f { rule = lower f.rule r } → r ≡ first_broken (an_expression s p e)
    → b ≡ record a { called = a.called ++ option_to_list o } → o ≡ called_name s p e
    → new ≡ record b { counted = b.counted ++ k } → k ≡ counted_by s p e → new ≡ after f (an_expression s p e)
expression_seen f a b new s p e r o k is_a of_rule is_b of_called is_new of_counted =
    is_new
    ∙ (ap (λ (g : Found). record g { counted = g.counted ++ k }) (is_b ∙ ap (λ (g : Found). record g { called = g.called ++ option_to_list o }) is_a)
    ∙ (ap (λ xs. record { rule = lower f.rule r; called = f.called ++ option_to_list o; counted = f.counted ++ k; held = xs }) (sym (append-nil f.held))
    ∙ told f r (option_to_list o) k [] (an_expression s p e) (of_rule ∙ first_of_one (an_expression s p e) refl) (ap option_to_list of_called) of_counted refl))

pub type_seen : (f a new : Found) (s : Scope) (p : TypePlace) (t : Type16) (r : Option ProgramRule) (h : List Kind)
    → a ≡ record f { rule = lower f.rule r } → r ≡ first_broken (a_type s p t) → new ≡ record a { held = a.held ++ h } → h ≡ held_kinds (a_type s p t)
    → new ≡ after f (a_type s p t)
type_seen f a new s p t r h is_a of_rule is_new of_held =
    is_new
    ∙ (ap (λ (g : Found). record g { held = g.held ++ h }) is_a
    ∙ (ap (λ xs. record { rule = lower f.rule r; called = xs; counted = f.counted; held = f.held ++ h }) (sym (append-nil f.called))
    ∙ (ap (λ xs. record { rule = lower f.rule r; called = f.called ++ []; counted = xs; held = f.held ++ h }) (sym (append-nil f.counted))
    ∙ told f r [] [] h (a_type s p t) (of_rule ∙ first_of_one (a_type s p t) refl) refl refl of_held)))

-- lists of uses

pub after_both : (f : Found) (a b : List Use) → after_all f (a ++ b) ≡ after_all (after_all f a) b
after_both f [] b = refl
after_both f (u ∷ a) b = after_both (after f u) a b

pub after_then : (f g h : Found) (a b : List Use) → g ≡ after_all f a → h ≡ after_all g b → h ≡ after_all f (a ++ b)
after_then f g h a b is so = so ∙ (ap (λ x. after_all x b) is ∙ sym (after_both f a b))

pub one_then : (f g h : Found) (u : Use) (us : List Use) → g ≡ after f u → h ≡ after_all g us → h ≡ after_all f (u ∷ us)
one_then f g h u us is so = so ∙ ap (λ x. after_all x us) is

-- a turn of a loop
pub after_turn : (f g whole : Found) (a b : List Use) → g ≡ after_all f a → after_all f (a ++ b) ≡ whole → after_all g b ≡ whole
after_turn f g whole a b is so = ap (λ x. after_all x b) is ∙ (sym (after_both f a b) ∙ so)

rule_after : (f : Found) (u : Use) → (after f u).rule ≡ lower f.rule (first_in (u ∷ []))
unfolding after
rule_after f u = refl

called_after : (f : Found) (u : Use) → (after f u).called ≡ f.called ++ option_to_list (called_action u)
unfolding after
called_after f u = refl

counted_after : (f : Found) (u : Use) → (after f u).counted ≡ f.counted ++ counted_of u
unfolding after
counted_after f u = refl

held_after : (f : Found) (u : Use) → (after f u).held ≡ f.held ++ held_kinds u
unfolding after
held_after f u = refl

-- what is found of all

pub rule_found : (f : Found) (us : List Use) → (after_all f us).rule ≡ lower f.rule (first_in us)
rule_found f [] = sym (ap (lower f.rule) first_of_none ∙ lower_none f.rule)
rule_found f (u ∷ us) =
    rule_found (after f u) us
    ∙ (ap (λ r. lower r (first_in us)) (rule_after f u)
    ∙ (lower_assoc f.rule (first_in (u ∷ [])) (first_in us) ∙ ap (lower f.rule) (first_joined (u ∷ []) us)))

pub called_found : (f : Found) (us : List Use) → (after_all f us).called ≡ f.called ++ filter_map called_action us
called_found f [] = sym (append-nil f.called)
called_found f (u ∷ us) =
    called_found (after f u) us
    ∙ (ap (λ c. c ++ filter_map called_action us) (called_after f u)
    ∙ (append_assoc f.called (option_to_list (called_action u)) (filter_map called_action us) ∙ ap (λ c. f.called ++ c) (one_more (called_action u) (filter_map called_action us) refl)))
  where
    one_more : (o : Option Name) (rest : List Name) → called_action u ≡ o → option_to_list o ++ filter_map called_action us ≡ filter_map called_action (u ∷ us)
    one_more (Some text) rest is = rw is refl
    one_more None rest is = rw is refl

pub counted_found : (f : Found) (us : List Use) → (after_all f us).counted ≡ f.counted ++ flat_map counted_of us
counted_found f [] = sym (append-nil f.counted)
counted_found f (u ∷ us) =
    counted_found (after f u) us ∙ (ap (λ k. k ++ flat_map counted_of us) (counted_after f u) ∙ append_assoc f.counted (counted_of u) (flat_map counted_of us))

pub held_found : (f : Found) (us : List Use) → (after_all f us).held ≡ f.held ++ flat_map held_kinds us
held_found f [] = sym (append-nil f.held)
held_found f (u ∷ us) =
    held_found (after f u) us ∙ (ap (λ h. h ++ flat_map held_kinds us) (held_after f u) ∙ append_assoc f.held (held_kinds u) (flat_map held_kinds us))

-- a type by the sort of its name

alone : (b c : Bool) → (if b then Some T1 else if c then Some T3 else None) ≡ first_of (if b then Some T1 else if c then Some T3 else None) None
alone true c = refl
alone false true = refl
alone false false = refl

pub type_named : (s : Scope) (p : TypePlace) (text : Name) (size : Option Literal16) → named_rule p (sort_of s text) size ≡ first_broken (a_type s p (Named text size))
type_named s p text None = alone (not (is_type_sort (sort_of s text))) (is_misplaced p (kind_of_named (sort_of s text) None))
type_named s p text (Some size) = alone (not (is_type_sort (sort_of s text))) (is_misplaced p (kind_of_named (sort_of s text) (Some size)))

-- a direct counter that is counted, by what is known of the expression

same_member : (s : Scope) (e : Exp16) (word : Name) → call_counted s.part (kind_of s e) (member e word) ≡ counted_by s callee (member e word)
same_member s (literal n) word = refl
same_member s (truth b) word = refl
same_member s error word = refl
same_member s (name text) word = refl
same_member s (member e inner) word = refl
same_member s (index e n) word = refl
same_member s (slice e high low) word = refl
same_member s (call e given) word = refl
same_member s (lookahead e to given) word = refl
same_member s (cast to e) word = refl
same_member s (unary operator e) word = refl
same_member s (binary operator a b) word = refl
same_member s (choice c a b) word = refl
same_member s (parenthesized e) word = refl
same_member s no_arguments word = refl
same_member s (argument before last) word = refl
same_member s (listed es) word = refl

same_counted : (s : Scope) (e : Exp16) → call_counted s.part (left_of s e) e ≡ counted_by s callee e
same_counted s (literal n) = refl
same_counted s (truth b) = refl
same_counted s error = refl
same_counted s (name text) = refl
same_counted s (member e word) = same_member s e word
same_counted s (index e n) = refl
same_counted s (slice e high low) = refl
same_counted s (call e given) = refl
same_counted s (lookahead e to given) = refl
same_counted s (cast to e) = refl
same_counted s (unary operator e) = refl
same_counted s (binary operator a b) = refl
same_counted s (choice c a b) = refl
same_counted s (parenthesized e) = refl
same_counted s no_arguments = refl
same_counted s (argument before last) = refl
same_counted s (listed es) = refl

pub counted_known : (s : Scope) (e : Exp16) (r : RowOf) (k : List CountedIn) → r ≡ row_of s e → k ≡ call_counted s.part r.left e → k ≡ counted_by s callee e
counted_known s e r k known is = is ∙ (ap (λ (v : RowOf). call_counted s.part v.left e) known ∙ same_counted s e)
