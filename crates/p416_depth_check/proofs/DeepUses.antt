-- What nests too deep among all that is judged in a declaration is what nests too deep by its trees alone.
use Rattle.std.proofs.Common.{◌≡◌, ◌⊎◌, inl, inr, ℕ, zero, suc, ◌+◌, ◌≤◌, max, Bool, true, false, ◌||◌, nat_lt, Option, Some, None, Result, Ok, Err, List, [], ◌∷◌, ◌++◌, length, map, flat_map, replicate, zip, option_to_list, get_or, IsTrue, refl, sym, ap, ◌∙◌, arith}
use Rattle.std.specs.Prelude.{IfOk}
use Rattle.std.specs.List.{list_any}
use Rattle.std.specs.Option.{option_map_or}
use Rattle.std.proofs.lemmas.Bool.{false≢true}
use Rattle.std.proofs.lemmas.Bool.Decides.{nat_tests}
use Rattle.std.proofs.lemmas.List.Folds.{list_any-append}
use Rattle.p416_syntax.specs.declared.parts.Note.{Note}
use Rattle.p416_syntax.specs.declared.parts.Type16.{Type16}
use Rattle.p416_syntax.specs.declared.parts.Type16.TheVariants.{Bit, Bool as BoolType, Named}
use Rattle.p416_syntax.specs.declared.parts.Param.{Param}
use Rattle.p416_syntax.specs.declared.parts.StructField.{StructField}
use Rattle.p416_syntax.specs.declared.parsers.Var.{Var}
use Rattle.p416_syntax.specs.declared.parsers.Target.{Target}
use Rattle.p416_syntax.specs.declared.parsers.Simple.{Simple}
use Rattle.p416_syntax.specs.declared.parsers.Simple.TheVariants as simple
use Rattle.p416_syntax.specs.declared.parsers.SelectCase.{SelectCase}
use Rattle.p416_syntax.specs.declared.parsers.Transition.{Transition}
use Rattle.p416_syntax.specs.declared.parsers.Transition.TheVariants as transition
use Rattle.p416_syntax.specs.declared.parsers.State.{State}
use Rattle.p416_syntax.specs.declared.parsers.Parser16.{Parser16}
use Rattle.p416_syntax.specs.declared.node.CastType.{CastType}
use Rattle.p416_syntax.specs.declared.node.CastType.TheVariants as cast_to
use Rattle.p416_syntax.specs.declared.node.CaseLabel.{CaseLabel}
use Rattle.p416_syntax.specs.declared.node.CaseLabel.TheVariants as label
use Rattle.p416_syntax.specs.declared.controls.Instance.{Instance}
use Rattle.p416_syntax.specs.declared.controls.Instance.TheVariants as instance
use Rattle.p416_syntax.specs.declared.controls.ActionName.{ActionName}
use Rattle.p416_syntax.specs.declared.controls.Action16.{Action16}
use Rattle.p416_syntax.specs.declared.controls.TableKey.{TableKey}
use Rattle.p416_syntax.specs.declared.controls.Table16.{Table16}
use Rattle.p416_syntax.specs.declared.controls.Local.{Local}
use Rattle.p416_syntax.specs.declared.controls.Local.TheVariants as local
use Rattle.p416_syntax.specs.declared.controls.Control16.{Control16}
use Rattle.p416_syntax.specs.declared.program.Decl16.{Decl16}
use Rattle.p416_syntax.specs.declared.program.Decl16.TheVariants as decl
use Rattle.p416_syntax.specs.declared.program.Syntax16.{Syntax16}
use Rattle.p416_syntax.specs.Properties.{keys_of, actions_of, size_of, counters_of, default_action_of, default_arguments_of}
use Rattle.p416_syntax.specs.Subtrees.{own_expressions, subtrees}
use Rattle.p416_syntax.specs.Tree.{Exp16, literal, truth, error, name, member, index, slice, call, lookahead, cast, unary, binary, choice, parenthesized, no_arguments, argument, listed, Stmt16, no_statements, then, block, empty, var, var_is, assign, expression, if_then, if_else, switch, no_cases, case_of}
use Rattle.p416_syntax.specs.declared.rule.ProgramRule.TheVariants.{T12}
use Rattle.p416_syntax.specs.Exact.{IsExact}
use Rattle.p416_syntax.specs.Names.{Name}
use Rattle.p416_syntax.specs.Kinds.{Kind, bits, boolean, unknown}
use Rattle.p416_syntax.specs.Expressions.{kind_of, signature_of, argument_count}
use Rattle.p416_syntax.specs.Scopes.{Scope, in_key, kind_of_type}
use Rattle.p416_syntax.specs.Calls.{Place, value, any_bits, literal_of, any_literal, select_key, table_key, target, owner, callee, statement, unasked}
use Rattle.p416_syntax.specs.Uses.{Use, a_number, a_name, names_of_scope, some_parameters, a_table_of, WantedSort, some_action, some_state, some_direct_counter, TypePlace, of_field, of_variable, of_action_parameter, of_block_parameter, of_lookahead, one, many, left_place, right_place, chosen_place, cast_place, wanted_by, type_uses, cast_numbers, uses, uses_at}
use Rattle.p416_syntax.specs.Statements.{Visit, visit, behind, declared_in, visits, visit_uses, own_uses, label_uses, assigned_place, statement_uses, nesting}
use Rattle.p416_syntax.specs.Declarations.{list_numbers, target_name, parameter_name, is_exact, declared_name, default_place, note_uses, field_width, struct_field_uses, instance_uses, object_uses, var_uses, parameter_uses, body_uses, target_uses, simple_uses, keyset_parts, compared_uses, with_keys, case_uses, transition_uses, state_uses, parser_scope, parser_uses, action_scope, action_uses, key_uses, action_name_uses, parameters_of, given_uses, defaults_of, table_uses, control_scope, local_uses, control_uses, declaration_uses}
use Rattle.p416_syntax.specs.Totals.{depth, is_too_deep}
use Rattle.p416_syntax.specs.Breaks.{has_use, scope_of, SomeDeclaration, SomeBreaks}
use Rattle.p416_depth_check.specs.internal.Deep.{is_deep, has_deep_argument, has_deep_expression, is_deep_body, is_deep_var, is_deep_instance, is_deep_simple, is_deep_case, is_deep_transition, is_deep_state, is_deep_parser, is_deep_key, is_deep_default, is_deep_table, is_deep_local, is_deep_control, is_deep_decl}

-- among these uses something nests too deep
abbrev deep_use : List Use → Bool
deep_use us = list_any is_too_deep us

-- truth values

or_false : (a : Bool) → (a || false) ≡ a
or_false true = refl
or_false false = refl

or_both : (a b c d : Bool) → a ≡ c → b ≡ d → (a || b) ≡ (c || d)
or_both a b c d e f = ap (λ (x : Bool). x || b) e ∙ ap (λ (y : Bool). c || y) f

absorbs : (whole part : Bool) → (part ≡ true → whole ≡ true) → (whole || part) ≡ whole
absorbs true part h = refl
absorbs false true h = sym (h refl)
absorbs false false h = refl

either : (a b whole : Bool) → (a ≡ true → whole ≡ true) → (b ≡ true → whole ≡ true) → (a || b) ≡ true → whole ≡ true
either true b whole h k e = h refl
either false b whole h k e = k e

-- lists of uses

joined : (xs ys : List Use) (a b : Bool) → deep_use xs ≡ a → deep_use ys ≡ b → deep_use (xs ++ ys) ≡ (a || b)
joined xs ys a b e f = list_any-append is_too_deep xs ys ∙ or_both (deep_use xs) (deep_use ys) a b e f

or_assoc : (a b c : Bool) → ((a || b) || c) ≡ (a || (b || c))
or_assoc true b c = refl
or_assoc false b c = refl

joined_three : (xs ys zs : List Use) (a b c : Bool) → deep_use xs ≡ a → deep_use ys ≡ b → deep_use zs ≡ c → deep_use (xs ++ ys ++ zs) ≡ (a || (b || c))
joined_three xs ys zs a b c e f g = joined (xs ++ ys) zs (a || b) c (joined xs ys a b e f) g ∙ or_assoc a b c

joined_none : (xs ys : List Use) (a : Bool) → deep_use xs ≡ a → deep_use ys ≡ false → deep_use (xs ++ ys) ≡ a
joined_none xs ys a e f = joined xs ys a false e f ∙ or_false a

any_flat : {X : Type 0} (f : X → List Use) (g : X → Bool) → ((x : X) → deep_use (f x) ≡ g x) → (xs : List X) → deep_use (flat_map f xs) ≡ list_any g xs
any_flat f g h [] = refl
any_flat f g h (x ∷ xs) = list_any-append is_too_deep (f x) (flat_map f xs) ∙ or_both (deep_use (f x)) (deep_use (flat_map f xs)) (g x) (list_any g xs) (h x) (any_flat f g h xs)

none_flat : {X : Type 0} (f : X → List Use) → ((x : X) → deep_use (f x) ≡ false) → (xs : List X) → deep_use (flat_map f xs) ≡ false
none_flat f h [] = refl
none_flat f h (x ∷ xs) = joined (f x) (flat_map f xs) false false (h x) (none_flat f h xs)

none_map : {X : Type 0} (f : X → Use) → ((x : X) → is_too_deep (f x) ≡ false) → (xs : List X) → deep_use (map f xs) ≡ false
none_map f h [] = refl
none_map f h (x ∷ xs) = or_both (is_too_deep (f x)) (deep_use (map f xs)) false false (h x) (none_map f h xs)

-- numbers

over : (m n : ℕ) → m ≤ n → nat_lt 512 m ≡ true → nat_lt 512 n ≡ true
over m n le h = grind (arith, nat_tests)

-- expressions

record DeepUses (e : Exp16) : Type 0 where
  alone : (s : Scope) (p : Place) → deep_use (uses_at s (one p) e) ≡ is_deep e
  each : (s : Scope) (wanted : List Place) (otherwise : Place) → deep_use (uses_at s (many wanted otherwise) e) ≡ has_deep_argument e

within_list : (e : Exp16) → has_deep_argument e ≡ true → is_deep e ≡ true
within_list (argument a b) h = either (has_deep_argument a) (is_deep b) (is_deep (argument a b)) (λ x. over (depth a) (max (depth a) (depth b)) (omega arith) (within_list a x)) (λ x. over (depth b) (max (depth a) (depth b)) (omega arith) x) h
within_list (literal v) h = absurd (false≢true h)
within_list (truth v) h = absurd (false≢true h)
within_list error h = absurd (false≢true h)
within_list (name t) h = absurd (false≢true h)
within_list (member a w) h = absurd (false≢true h)
within_list (index a i) h = absurd (false≢true h)
within_list (slice a i j) h = absurd (false≢true h)
within_list (call a b) h = absurd (false≢true h)
within_list (lookahead a t b) h = absurd (false≢true h)
within_list (cast t a) h = absurd (false≢true h)
within_list (unary o a) h = absurd (false≢true h)
within_list (binary o a b) h = absurd (false≢true h)
within_list (choice c a b) h = absurd (false≢true h)
within_list (parenthesized a) h = absurd (false≢true h)
within_list no_arguments h = absurd (false≢true h)
within_list (listed a) h = absurd (false≢true h)

types_none : (s : Scope) (p : TypePlace) (t : Type16) → deep_use (type_uses s p t) ≡ false
types_none s p (Bit w) = refl
types_none s p BoolType = refl
types_none s p (Named text None) = refl
types_none s p (Named text (Some n)) = refl

casts_none : (t : CastType) → deep_use (cast_numbers t) ≡ false
casts_none (cast_to.Bit w) = refl
casts_none cast_to.Bool = refl

-- one part, two and three parts, one level below the whole
below_one : (part : Bool) (d : ℕ) → part ≡ nat_lt 512 d → (nat_lt 512 (1 + d) || part) ≡ nat_lt 512 (1 + d)
below_one part d e = absorbs (nat_lt 512 (1 + d)) part (λ h. over d (1 + d) (omega arith) (sym e ∙ h))

below_two : (a b : Bool) (m n : ℕ) → (a ≡ true → nat_lt 512 m ≡ true) → (b ≡ true → nat_lt 512 n ≡ true) → (nat_lt 512 (1 + max m n) || (a || b)) ≡ nat_lt 512 (1 + max m n)
below_two a b m n h k = absorbs (nat_lt 512 (1 + max m n)) (a || b) (either a b (nat_lt 512 (1 + max m n)) (λ x. over m (1 + max m n) (omega arith) (h x)) (λ x. over n (1 + max m n) (omega arith) (k x)))

three_within : (a b c : Bool) (m n k : ℕ) → (a ≡ true → nat_lt 512 m ≡ true) → (b ≡ true → nat_lt 512 n ≡ true) → (c ≡ true → nat_lt 512 k ≡ true) → (nat_lt 512 (1 + max m (max n k)) || (a || (b || c))) ≡ nat_lt 512 (1 + max m (max n k))
three_within a b c m n k h i j =
    absorbs (nat_lt 512 (1 + max m (max n k))) (a || (b || c))
    (either a (b || c) (nat_lt 512 (1 + max m (max n k))) (λ x. over m (1 + max m (max n k)) (omega arith) (h x))
    (either b c (nat_lt 512 (1 + max m (max n k))) (λ x. over n (1 + max m (max n k)) (omega arith) (i x)) (λ x. over k (1 + max m (max n k)) (omega arith) (j x))))

deep_uses : (e : Exp16) → DeepUses e
deep_uses (literal v) = record { alone = λ s p. refl; each = λ s w o. refl }
deep_uses (truth v) = record { alone = λ s p. refl; each = λ s w o. refl }
deep_uses error = record { alone = λ s p. refl; each = λ s w o. refl }
deep_uses (name t) = record { alone = λ s p. refl; each = λ s w o. refl }
deep_uses (member a w) = let h = deep_uses a in record { alone = λ s p. below_one _ (depth a) (h.alone s _); each = λ s w o. refl }
deep_uses (index a i) = let h = deep_uses a in record { alone = λ s p. below_one _ (depth a) (h.alone s _); each = λ s w o. refl }
deep_uses (slice a i j) = let h = deep_uses a in record { alone = λ s p. below_one _ (depth a) (h.alone s _); each = λ s w o. refl }
deep_uses (call a b) =
    let h = deep_uses a in let k = deep_uses b in
    record {
      alone = λ s p.
          ap (λ (x : Bool). is_deep (call a b) || x)
          (joined (uses_at s (one callee) a) (uses_at s (many (wanted_by (signature_of s a)) unasked) b) (is_deep a) (has_deep_argument b) (h.alone s callee) (k.each s (wanted_by (signature_of s a)) unasked))
          ∙ below_two (is_deep a) (has_deep_argument b) (depth a) (depth b) (λ x. x) (within_list b);
      each = λ s w o. refl;
    }
deep_uses (lookahead a t b) =
    let h = deep_uses a in let k = deep_uses b in
    record {
      alone = λ s p.
          ap (λ (x : Bool). is_deep (lookahead a t b) || x)
          (joined_three (type_uses s of_lookahead t) (uses_at s (one owner) a) (uses_at s (many [] unasked) b) false (is_deep a) (has_deep_argument b) (types_none s of_lookahead t) (h.alone s owner) (k.each s [] unasked))
          ∙ below_two (is_deep a) (has_deep_argument b) (depth a) (depth b) (λ x. x) (within_list b);
      each = λ s w o. refl;
    }
deep_uses (cast t a) =
    let h = deep_uses a in
    record {
      alone = λ s p.
          ap (λ (x : Bool). is_deep (cast t a) || x) (joined (cast_numbers t) (uses_at s (one (cast_place t)) a) false (is_deep a) (casts_none t) (h.alone s (cast_place t)))
          ∙ below_one (is_deep a) (depth a) refl;
      each = λ s w o. refl;
    }
deep_uses (unary o a) = let h = deep_uses a in record { alone = λ s p. below_one _ (depth a) (h.alone s _); each = λ s w o. refl }
deep_uses (binary o a b) =
    let h = deep_uses a in let k = deep_uses b in
    record {
      alone = λ s p.
          ap (λ (x : Bool). is_deep (binary o a b) || x)
          (joined (uses_at s (one (left_place p o (kind_of s a) (kind_of s b))) a) (uses_at s (one (right_place p o (kind_of s a) (kind_of s b))) b) (is_deep a) (is_deep b) (h.alone s (left_place p o (kind_of s a) (kind_of s b))) (k.alone s (right_place p o (kind_of s a) (kind_of s b))))
          ∙ below_two (is_deep a) (is_deep b) (depth a) (depth b) (λ x. x) (λ x. x);
      each = λ s w o. refl;
    }
deep_uses (choice c a b) =
    let g = deep_uses c in let h = deep_uses a in let k = deep_uses b in
    record {
      alone = λ s p.
          ap (λ (x : Bool). is_deep (choice c a b) || x)
          (joined_three (uses_at s (one (value boolean)) c) (uses_at s (one (chosen_place p (kind_of s a) (kind_of s b))) a) (uses_at s (one (chosen_place p (kind_of s a) (kind_of s b))) b) (is_deep c) (is_deep a) (is_deep b)
          (g.alone s (value boolean)) (h.alone s (chosen_place p (kind_of s a) (kind_of s b))) (k.alone s (chosen_place p (kind_of s a) (kind_of s b))))
          ∙ three_within (is_deep c) (is_deep a) (is_deep b) (depth c) (depth a) (depth b) (λ x. x) (λ x. x) (λ x. x);
      each = λ s w o. refl;
    }
deep_uses (parenthesized a) = record { alone = λ s p. refl; each = λ s w o. refl }
deep_uses no_arguments = record { alone = λ s p. refl; each = λ s w o. refl }
deep_uses (argument a b) =
    let h = deep_uses a in let k = deep_uses b in
    record {
      alone = λ s p. or_false (is_deep (argument a b));
      each = λ s w o. joined (uses_at s (many w o) a) (uses_at s (one (get_or w (argument_count a) o)) b) (has_deep_argument a) (is_deep b) (h.each s w o) (k.alone s (get_or w (argument_count a) o));
    }
deep_uses (listed a) =
    let h = deep_uses a in
    record {
      alone = λ s p. absorbs (is_deep (listed a)) (deep_use (uses_at s (many [] any_bits) a)) (λ x. over (depth a) (1 + depth a) (omega arith) (within_list a (sym (h.each s [] any_bits) ∙ x)));
      each = λ s w o. refl;
    }

one_deep : (s : Scope) (p : Place) (e : Exp16) → deep_use (uses s p e) ≡ is_deep e
one_deep s p e = (deep_uses e).alone s p

arguments_deep : (s : Scope) (w : List Place) (o : Place) (e : Exp16) → deep_use (uses_at s (many w o) e) ≡ has_deep_argument e
arguments_deep s w o e = (deep_uses e).each s w o

-- statements

labels_none : (s : Scope) (l : CaseLabel) → deep_use (label_uses s l) ≡ false
labels_none s (label.Action text) = refl
labels_none s label.Default = refl

-- what is judged in one statement, and the expressions of one
abbrev is_deep_visit : Visit → Bool
is_deep_visit v = deep_use (visit_uses v)

abbrev has_own : Stmt16 → Bool
has_own x = list_any is_deep (own_expressions x)

both_visits : (a b : Stmt16) (s t : Scope) → list_any is_deep_visit (visits s a) ≡ list_any has_own (subtrees a) → list_any is_deep_visit (visits t b) ≡ list_any has_own (subtrees b) → list_any is_deep_visit (visits s a ++ visits t b) ≡ list_any has_own (subtrees a ++ subtrees b)
both_visits a b s t e f =
    list_any-append is_deep_visit (visits s a) (visits t b)
    ∙ (or_both (list_any is_deep_visit (visits s a)) (list_any is_deep_visit (visits t b)) (list_any has_own (subtrees a)) (list_any has_own (subtrees b)) e f
    ∙ sym (list_any-append has_own (subtrees a) (subtrees b)))

own_of_one : (us : List Use) (e : Exp16) → deep_use us ≡ is_deep e → (deep_use us || false) ≡ ((is_deep e || false) || false)
own_of_one us e h = ap (λ (b : Bool). b || false) (h ∙ sym (or_false (is_deep e)))

visits_deep : (x : Stmt16) (s : Scope) → list_any is_deep_visit (visits s x) ≡ list_any has_own (subtrees x)
visits_deep no_statements s = refl
visits_deep ((then) a b) s = both_visits a b s (behind a s) (visits_deep a s) (visits_deep b (behind a s))
visits_deep (block a) s = visits_deep a s
visits_deep empty s = refl
visits_deep (var t c) s = ap (λ (b : Bool). b || false) (types_none s of_variable t)
visits_deep (var_is t c e) s =
    own_of_one (own_uses s (var_is t c e)) e (joined (type_uses s of_variable t) (uses s (value (kind_of_type s.names t)) e) false (is_deep e) (types_none s of_variable t) (one_deep s (value (kind_of_type s.names t)) e))
visits_deep (assign e f) s =
    ap (λ (b : Bool). b || false)
    (joined (uses s target e) (uses s (assigned_place (kind_of s e)) f) (is_deep e) (is_deep f) (one_deep s target e) (one_deep s (assigned_place (kind_of s e)) f)
    ∙ ap (λ (b : Bool). is_deep e || b) (sym (or_false (is_deep f))))
visits_deep (expression e) s = own_of_one (uses s statement e) e (one_deep s statement e)
visits_deep (if_then c a) s =
    or_both (is_deep_visit (visit s (if_then c a))) (list_any is_deep_visit (visits s a)) (is_deep c || false) (list_any has_own (subtrees a)) (one_deep s (value boolean) c ∙ sym (or_false (is_deep c))) (visits_deep a s)
visits_deep (if_else c a b) s =
    or_both (is_deep_visit (visit s (if_else c a b))) (list_any is_deep_visit (visits s a ++ visits s b)) (is_deep c || false) (list_any has_own (subtrees a ++ subtrees b)) (one_deep s (value boolean) c ∙ sym (or_false (is_deep c)))
    (both_visits a b s s (visits_deep a s) (visits_deep b s))
visits_deep (switch t a) s = visits_deep a s
visits_deep no_cases s = refl
visits_deep (case_of a l b) s =
    list_any-append is_deep_visit (visits s a) (visit s (case_of a l b) ∷ visits s b)
    ∙ (or_both (list_any is_deep_visit (visits s a)) (is_deep_visit (visit s (case_of a l b)) || list_any is_deep_visit (visits s b)) (list_any has_own (subtrees a)) (list_any has_own (subtrees b)) (visits_deep a s)
    (or_both (is_deep_visit (visit s (case_of a l b))) (list_any is_deep_visit (visits s b)) false (list_any has_own (subtrees b)) (joined (label_uses s l) (names_of_scope (declared_in b) ∷ []) false false (labels_none s l) refl) (visits_deep b s))
    ∙ sym (list_any-append has_own (subtrees a) (subtrees b)))

own_flat : (xs : List Stmt16) → list_any is_deep (flat_map own_expressions xs) ≡ list_any has_own xs
own_flat [] = refl
own_flat (x ∷ xs) = list_any-append is_deep (own_expressions x) (flat_map own_expressions xs) ∙ ap (λ (b : Bool). has_own x || b) (own_flat xs)

statements_deep : (s : Scope) (x : Stmt16) → deep_use (statement_uses s x) ≡ has_deep_expression x
statements_deep s x = any_flat visit_uses is_deep_visit (λ v. refl) (visits s x) ∙ (visits_deep x s ∙ sym (own_flat (subtrees x)))

body_deep : (s : Scope) (braces : ℕ) (x : Stmt16) → deep_use (body_uses s braces x) ≡ is_deep_body braces x
body_deep s braces x = ap (λ (b : Bool). nat_lt 512 (braces + nesting x) || b) (statements_deep s x)

-- parts of declarations

notes_none : (notes : List Note) → deep_use (note_uses notes) ≡ false
notes_none notes = none_map a_number (λ n. refl) (flat_map list_numbers notes)

names_none : (s : Scope) (w : WantedSort) (names : List Name) → deep_use (map (a_name s w) names) ≡ false
names_none s w names = none_map (a_name s w) (λ n. refl) names

var_deep : (s : Scope) (v : Var) → deep_use (var_uses s v) ≡ is_deep_var v
var_deep s v = joined (type_uses s of_variable v.of) (option_map_or (uses s (value (kind_of_type s.names v.of))) v.initial []) false (is_deep_var v) (types_none s of_variable v.of) (by_value v.initial) where
  by_value : (o : Option Exp16) → deep_use (option_map_or (uses s (value (kind_of_type s.names v.of))) o []) ≡ option_map_or is_deep o false
  by_value None = refl
  by_value (Some e) = one_deep s (value (kind_of_type s.names v.of)) e

instance_deep : (s : Scope) (i : Instance) → deep_use (instance_uses s i) ≡ is_deep_instance i
instance_deep s (instance.Counter size m text) = one_deep s (literal_of (bits 32)) size
instance_deep s (instance.DirectCounter m text) = refl
instance_deep s (instance.Register width size text) = one_deep s (literal_of (bits 32)) size
instance_deep s (instance.Meter size m text) = one_deep s (literal_of (bits 32)) size

object_deep : (s : Scope) (notes : List Note) (i : Instance) → deep_use (object_uses s notes i) ≡ is_deep_instance i
object_deep s notes i = joined (note_uses notes) (instance_uses s i) false (is_deep_instance i) (notes_none notes) (instance_deep s i)

parameters_none : (s : Scope) (p : TypePlace) (ps : List Param) → deep_use (flat_map (parameter_uses s p) ps) ≡ false
parameters_none s p ps = none_flat (parameter_uses s p) (λ x. types_none s p x.of) ps

-- parsers

simple_deep : (s : Scope) (k : Kind) (x : Simple) → deep_use (simple_uses s k x) ≡ is_deep_simple x
simple_deep s k simple.Default = refl
simple_deep s k simple.Any = refl
simple_deep s k (simple.Mask a b) = joined (uses s (literal_of k) a) (uses s (literal_of k) b) (is_deep a) (is_deep b) (one_deep s (literal_of k) a) (one_deep s (literal_of k) b)
simple_deep s k (simple.Range a b) = joined (uses s (literal_of k) a) (uses s (literal_of k) b) (is_deep a) (is_deep b) (one_deep s (literal_of k) a) (one_deep s (literal_of k) b)
simple_deep s k (simple.Value a) = one_deep s (literal_of k) a

-- each part has a key, or what stands for one
parts_deep : (s : Scope) (keys : List Kind) (n : ℕ) (parts : List Simple) → length parts ≤ n → deep_use (flat_map (compared_uses s) (zip (keys ++ replicate n unknown) parts)) ≡ list_any is_deep_simple parts
parts_deep s [] n [] le = none_left (replicate n unknown) where
  none_left : (ks : List Kind) → deep_use (flat_map (compared_uses s) (zip ks [])) ≡ false
  none_left [] = refl
  none_left (k ∷ ks) = refl
parts_deep s (k ∷ keys) n [] le = refl
parts_deep s [] zero (x ∷ parts) le = absurd (omega arith)
parts_deep s [] (suc n) (x ∷ parts) le = joined (simple_uses s unknown x) (flat_map (compared_uses s) (zip (replicate n unknown) parts)) (is_deep_simple x) (list_any is_deep_simple parts) (simple_deep s unknown x) (parts_deep s [] n parts (omega arith))
parts_deep s (k ∷ keys) n (x ∷ parts) le = joined (simple_uses s k x) (flat_map (compared_uses s) (zip (keys ++ replicate n unknown) parts)) (is_deep_simple x) (list_any is_deep_simple parts) (simple_deep s k x) (parts_deep s keys n parts (omega arith))

target_none : (s : Scope) (t : Target) → deep_use (target_uses s t) ≡ false
target_none s t = names_none s some_state (option_to_list (target_name t))

case_deep : (s : Scope) (keys : List Kind) (c : SelectCase) → deep_use (case_uses s keys c) ≡ is_deep_case c
case_deep s keys c =
    joined (flat_map (compared_uses s) (with_keys keys (keyset_parts c.keyset))) (target_uses s c.target) (is_deep_case c) false
    (parts_deep s keys (length (keyset_parts c.keyset)) (keyset_parts c.keyset) (omega arith)) (target_none s c.target)
    ∙ or_false (is_deep_case c)

transition_deep : (s : Scope) (t : Transition) → deep_use (transition_uses s t) ≡ is_deep_transition t
transition_deep s (transition.Go t) = target_none s t
transition_deep s (transition.Select keys cases) = joined (flat_map (uses s select_key) keys) (flat_map (case_uses s (map (kind_of s) keys)) cases) (list_any is_deep keys) (list_any is_deep_case cases) (any_flat (uses s select_key) is_deep (one_deep s select_key) keys) (any_flat (case_uses s (map (kind_of s) keys)) is_deep_case (case_deep s (map (kind_of s) keys)) cases)

state_deep : (s : Scope) (x : State) → deep_use (state_uses s x) ≡ is_deep_state x
state_deep s x = joined (body_uses s 0 x.body) (transition_uses (behind x.body s) x.transition) (is_deep_body 0 x.body) (is_deep_transition x.transition) (body_deep s 0 x.body) (transition_deep (behind x.body s) x.transition)

parser_deep : (s : Scope) (p : Parser16) → deep_use (parser_uses s p) ≡ is_deep_parser p
parser_deep s p =
    joined_three (flat_map (parameter_uses s of_block_parameter) p.parameters) (flat_map (var_uses (parser_scope s p)) p.vars) (flat_map (state_uses (parser_scope s p)) p.states) false (list_any is_deep_var p.vars) (list_any is_deep_state p.states)
    (parameters_none s of_block_parameter p.parameters) (any_flat (var_uses (parser_scope s p)) is_deep_var (var_deep (parser_scope s p)) p.vars) (any_flat (state_uses (parser_scope s p)) is_deep_state (state_deep (parser_scope s p)) p.states)

-- controls

key_deep : (s : Scope) (k : TableKey) → deep_use (key_uses s k) ≡ is_deep_key k
key_deep s k =
    joined (uses (record s { part = in_key }) (table_key (is_exact k)) k.exp) (note_uses k.notes) (is_deep k.exp) false (one_deep (record s { part = in_key }) (table_key (is_exact k)) k.exp) (notes_none k.notes)
    ∙ or_false (is_deep k.exp)

action_name_none : (s : Scope) (a : ActionName) → deep_use (action_name_uses s a) ≡ false
action_name_none s a = names_none s some_action (option_to_list (declared_name a))

defaults_deep : (s : Scope) (a : Option ActionName) (given : Option Exp16) → deep_use (defaults_of s a given) ≡ is_deep_default a given
defaults_deep s None given = refl
defaults_deep s (Some a) None = joined (action_name_uses s a) [] false false (action_name_none s a) refl
defaults_deep s (Some a) (Some given) =
    joined (action_name_uses s a) (given_uses s (parameters_of s a) given) false (has_deep_argument given) (action_name_none s a) (arguments_deep s (map default_place (parameters_of s a)) any_literal given)

-- what is judged in a table up to its keys, its actions, its size and its counters
abbrev up_to_keys : Scope → Table16 → List Use
up_to_keys s t = note_uses t.notes ++ (a_table_of s t ∷ flat_map (key_uses s) (keys_of t.properties))

abbrev up_to_actions : Scope → Table16 → List Use
up_to_actions s t = up_to_keys s t ++ flat_map (action_name_uses s) (actions_of t.properties)

abbrev up_to_size : Scope → Table16 → List Use
up_to_size s t = up_to_actions s t ++ map a_number (option_to_list (size_of t.properties))

abbrev up_to_counters : Scope → Table16 → List Use
up_to_counters s t = up_to_size s t ++ map (a_name s some_direct_counter) (option_to_list (counters_of t.properties))

keys_deep : (s : Scope) (t : Table16) → deep_use (up_to_keys s t) ≡ list_any is_deep_key (keys_of t.properties)
keys_deep s t =
    joined (note_uses t.notes) (a_table_of s t ∷ flat_map (key_uses s) (keys_of t.properties)) false (list_any is_deep_key (keys_of t.properties)) (notes_none t.notes) (any_flat (key_uses s) is_deep_key (key_deep s) (keys_of t.properties))

counters_deep : (s : Scope) (t : Table16) → deep_use (up_to_counters s t) ≡ list_any is_deep_key (keys_of t.properties)
counters_deep s t =
    joined_none (up_to_size s t) (map (a_name s some_direct_counter) (option_to_list (counters_of t.properties))) (list_any is_deep_key (keys_of t.properties))
    (joined_none (up_to_actions s t) (map a_number (option_to_list (size_of t.properties))) (list_any is_deep_key (keys_of t.properties))
    (joined_none (up_to_keys s t) (flat_map (action_name_uses s) (actions_of t.properties)) (list_any is_deep_key (keys_of t.properties)) (keys_deep s t) (none_flat (action_name_uses s) (action_name_none s) (actions_of t.properties)))
    (none_map a_number (λ n. refl) (option_to_list (size_of t.properties))))
    (names_none s some_direct_counter (option_to_list (counters_of t.properties)))

table_deep : (s : Scope) (t : Table16) → deep_use (table_uses s t) ≡ is_deep_table t
table_deep s t =
    joined (up_to_counters s t) (defaults_of s (default_action_of t.properties) (default_arguments_of t.properties)) (list_any is_deep_key (keys_of t.properties)) (is_deep_default (default_action_of t.properties) (default_arguments_of t.properties))
    (counters_deep s t) (defaults_deep s (default_action_of t.properties) (default_arguments_of t.properties))

action_deep : (s : Scope) (a : Action16) → deep_use (action_uses s a) ≡ is_deep_body 1 a.body
action_deep s a =
    joined (note_uses a.notes ++ (names_of_scope (map parameter_name a.parameters) ∷ some_parameters a.parameters ∷ flat_map (parameter_uses s of_action_parameter) a.parameters)) (body_uses (action_scope s a) 1 a.body) false (is_deep_body 1 a.body)
    (joined (note_uses a.notes) (names_of_scope (map parameter_name a.parameters) ∷ some_parameters a.parameters ∷ flat_map (parameter_uses s of_action_parameter) a.parameters) false false (notes_none a.notes) (parameters_none s of_action_parameter a.parameters))
    (body_deep (action_scope s a) 1 a.body)

local_deep : (s : Scope) (l : Local) → deep_use (local_uses s l) ≡ is_deep_local l
local_deep s (local.Instance notes i) = object_deep s notes i
local_deep s (local.Var v) = var_deep s v
local_deep s (local.Action a) = action_deep s a
local_deep s (local.Table t) = table_deep s t

control_deep : (s : Scope) (c : Control16) → deep_use (control_uses s c) ≡ is_deep_control c
control_deep s c =
    joined_three (flat_map (parameter_uses s of_block_parameter) c.parameters) (flat_map (local_uses (control_scope s c)) c.locals) (body_uses (control_scope s c) 1 c.body) false (list_any is_deep_local c.locals) (is_deep_body 1 c.body)
    (parameters_none s of_block_parameter c.parameters) (any_flat (local_uses (control_scope s c)) is_deep_local (local_deep (control_scope s c)) c.locals) (body_deep (control_scope s c) 1 c.body)

-- types

field_none : (s : Scope) (f : StructField) → deep_use (struct_field_uses s f) ≡ false
field_none s f = joined (note_uses f.notes) (type_uses s of_field f.of) false false (notes_none f.notes) (types_none s of_field f.of)

declaration_deep : (s : Scope) (d : Decl16) → deep_use (declaration_uses s d) ≡ is_deep_decl d
declaration_deep s (decl.Header h) = none_map field_width (λ f. refl) h.fields
declaration_deep s (decl.Struct x) = none_flat (struct_field_uses s) (field_none s) x.fields
declaration_deep s (decl.Instance notes i) = object_deep s notes i
declaration_deep s (decl.Parser p) = parser_deep s p
declaration_deep s (decl.Control c) = control_deep s c

pub decl_by : {E : Type 0} (d : Decl16) (r : Result Bool E) → IfOk r (λ deep. deep ≡ is_deep_decl d) → IfOk r (λ deep. (s : Scope) → deep ≡ has_use is_too_deep s d)
decl_by d (Err e) h = tt
decl_by d (Ok deep) h = λ s. h ∙ sym (declaration_deep s d)

-- all declarations

some_by : (b rest : Bool) (P Q : Type 0) → (b ≡ true → P) → (rest ≡ true → Q) → (b || rest) ≡ true → P ⊎ Q
some_by true rest P Q f g h = inl (f refl)
some_by false rest P Q f g h = inr (g h)

some_breaks : (s : Syntax16) (ds : List Decl16) → list_any is_deep_decl ds ≡ true → SomeDeclaration (λ d. IsTrue (has_use is_too_deep (scope_of s d) d)) ds
some_breaks s [] h = absurd (false≢true h)
some_breaks s (d ∷ ds) h =
    some_by (is_deep_decl d) (list_any is_deep_decl ds) (IsTrue (has_use is_too_deep (scope_of s d) d)) (SomeDeclaration (λ x. IsTrue (has_use is_too_deep (scope_of s x) x)) ds) (λ is. declaration_deep (scope_of s d) d ∙ is) (λ more. some_breaks s ds more) h

none_breaks : (s : Syntax16) (ds : List Decl16) → SomeDeclaration (λ d. IsTrue (has_use is_too_deep (scope_of s d) d)) ds → list_any is_deep_decl ds ≡ true
none_breaks s [] h = absurd h
none_breaks s (d ∷ ds) (inl here) = ap (λ (b : Bool). b || list_any is_deep_decl ds) (sym (declaration_deep (scope_of s d) d) ∙ here)
none_breaks s (d ∷ ds) (inr behind) = or_right (is_deep_decl d) (list_any is_deep_decl ds) (none_breaks s ds behind) where
  or_right : (a b : Bool) → b ≡ true → (a || b) ≡ true
  or_right true b e = refl
  or_right false b e = e

exact_by : (s : Syntax16) (deep : Bool) → deep ≡ list_any is_deep_decl s.decls → IsExact deep (SomeBreaks T12 s)
exact_by s true is = some_breaks s s.decls (sym is)
exact_by s false is = λ some. false≢true (is ∙ none_breaks s s.decls some)

pub program_by : {E : Type 0} (s : Syntax16) (r : Result Bool E) → IfOk r (λ deep. deep ≡ list_any is_deep_decl s.decls) → IfOk r (λ deep. IsExact deep (SomeBreaks T12 s))
program_by s (Err e) h = tt
program_by s (Ok deep) h = exact_by s deep h
