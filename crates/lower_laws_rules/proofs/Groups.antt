-- No member `mcast_grp` of standard metadata is named in a program that keeps the rules: T1 would be broken, since every
-- expression stands in a scope with the program's types.
use Rattle.std.proofs.Common.{◌≡◌, ℕ, Bool, true, false, ◌&&◌, List, [], ◌∷◌, ◌++◌, map, flat_map, get_or, Option, Some, None, refl, sym, ap, ◌∙◌, subst}
use Rattle.std.specs.Prelude.{codes, not, is_none, option_to_list}
use Rattle.std.specs.Str.{bytes_eq}
use Rattle.std.specs.Option.{option_map_or}
use Rattle.std.specs.List.{list_any, AllByRecursion}
use Rattle.std.proofs.lemmas.Bool.{false≢true}
use Rattle.std.proofs.lemmas.Slice.Eq.{bytes_eq-Decides}
use Rattle.std.proofs.lemmas.Grind.{flat_map-append}
use Rattle.std.proofs.lemmas.List.Folds.{list_any-append}
use Rattle.p416_syntax.specs.declared.parts.Param.{Param}
use Rattle.p416_syntax.specs.declared.parts.Type16.{Type16}
use Rattle.p416_syntax.specs.declared.parts.Type16.TheVariants.{Bit, Bool as BoolType, Named}
use Rattle.p416_syntax.specs.declared.parts.Note.{Note}
use Rattle.p416_syntax.specs.declared.node.CastType.{CastType}
use Rattle.p416_syntax.specs.declared.node.CastType.TheVariants as cast_to
use Rattle.p416_syntax.specs.declared.node.CaseLabel.{CaseLabel}
use Rattle.p416_syntax.specs.declared.node.CaseLabel.TheVariants as label_of
use Rattle.p416_syntax.specs.declared.parsers.Var.{Var}
use Rattle.p416_syntax.specs.declared.parsers.Simple.{Simple}
use Rattle.p416_syntax.specs.declared.parsers.Simple.TheVariants as simple
use Rattle.p416_syntax.specs.declared.parsers.SelectCase.{SelectCase}
use Rattle.p416_syntax.specs.declared.parsers.Transition.{Transition}
use Rattle.p416_syntax.specs.declared.parsers.Transition.TheVariants as transition
use Rattle.p416_syntax.specs.declared.parsers.Target.{Target}
use Rattle.p416_syntax.specs.declared.parsers.State.{State}
use Rattle.p416_syntax.specs.declared.controls.Instance.{Instance}
use Rattle.p416_syntax.specs.declared.controls.Instance.TheVariants as instance
use Rattle.p416_syntax.specs.declared.controls.Action16.{Action16}
use Rattle.p416_syntax.specs.declared.controls.ActionName.{ActionName}
use Rattle.p416_syntax.specs.declared.controls.TableKey.{TableKey}
use Rattle.p416_syntax.specs.declared.controls.Table16.{Table16}
use Rattle.p416_syntax.specs.declared.controls.Local.{Local}
use Rattle.p416_syntax.specs.declared.controls.Local.TheVariants as local
use Rattle.p416_syntax.specs.declared.program.Decl16.{Decl16}
use Rattle.p416_syntax.specs.declared.program.Decl16.TheVariants as decl
use Rattle.p416_syntax.specs.declared.program.Syntax16.{Syntax16}
use Rattle.p416_syntax.specs.Properties.{keys_of, actions_of, size_of, counters_of, default_action_of, default_arguments_of}
use Rattle.p416_syntax.specs.Tree.{Exp16, member, index, slice, call, lookahead, cast, unary, binary, choice, argument, listed, Stmt16, no_statements, then, block, var, var_is, assign, expression, if_then, if_else, switch, no_cases, case_of}
use Rattle.p416_syntax.specs.Names.{Name}
use Rattle.p416_syntax.specs.Kinds.{Kind, bits, struct, boolean, is_same_kind, is_plain}
use Rattle.p416_syntax.specs.BuiltIn.{standard, standard_layout, standard_name}
use Rattle.p416_syntax.specs.Scopes.{Scope, Layout, fields_in, in_key, kind_of_type}
use Rattle.p416_syntax.specs.Calls.{Place, value, any_bits, owner, a_stack, callee, unasked, statement, target, any_literal, literal_of, select_key, table_key, method_signature}
use Rattle.p416_syntax.specs.Expressions.{kind_of, signature_of, argument_count, member_kind, field_kind_in}
use Rattle.p416_syntax.specs.Uses.{Use, an_expression, names_of_scope, some_parameters, a_table_of, a_number, a_name, TypePlace, of_lookahead, of_field, of_variable, of_block_parameter, of_action_parameter, some_action, some_state, some_direct_counter, Places, one, many, unary_place, left_place, right_place, cast_place, chosen_place, owner_place, wanted_by, type_uses, cast_numbers, uses_at}
use Rattle.p416_syntax.specs.Statements.{behind, visits, visit_uses, own_uses, label_uses, assigned_place, statement_uses}
use Rattle.p416_syntax.specs.Unknown.{is_unknown_member}
use Rattle.p416_syntax.specs.Declarations.{parameter_name, layouts_of, list_numbers, note_uses, field_width, struct_field_uses, instance_uses, object_uses, var_uses, parameter_uses, body_uses, target_name, target_uses, simple_uses, keyset_parts, compared_uses, with_keys, case_uses, transition_uses, state_uses, parser_scope, action_scope, action_uses, is_exact, key_uses, declared_name, action_name_uses, parameters_of, default_place, given_uses, defaults_of, table_uses, control_scope, local_uses, declaration_uses}
use Rattle.p416_syntax.specs.Breaks.{scope_of, uses_in, program_uses}
use Rattle.lower_laws_rules.specs.Keeping.{Fine, AllFine, names_group}
use Rattle.lower_laws_rules.specs.Whole.{EachKeeps, ProgramKeeps}
use Rattle.lower_laws_rules.proofs.Lists.{neither}
use Rattle.lower_laws_rules.proofs.Layouts.{standard_found}

module _ (layouts : List Layout) where
  abbrev Has : Use → Type 0
  Has (an_expression s p e) = s.layouts ≡ layouts
  Has u = Unit {0}

  abbrev AllHave : List Use → Type 0
  AllHave us = AllByRecursion Has us

  two : (us vs : List Use) → AllHave us → AllHave vs → AllHave (us ++ vs)
  two [] vs a b = b
  two (u ∷ us) vs a b = (a.0, two us vs a.1 b)

  flat : {X : Type 0} (f : X → List Use) → ((x : X) → AllHave (f x)) → (xs : List X) → AllHave (flat_map f xs)
  flat f each [] = tt
  flat f each (x ∷ xs) = two (f x) (flat_map f xs) (each x) (flat f each xs)

  mapped : {X : Type 0} (f : X → Use) → ((x : X) → Has (f x)) → (xs : List X) → AllHave (map f xs)
  mapped f each [] = tt
  mapped f each (x ∷ xs) = (each x, mapped f each xs)

  cast_has : (t : CastType) → AllHave (cast_numbers t)
  cast_has (cast_to.Bit w) = (tt, tt)
  cast_has cast_to.Bool = tt

  type_has : (s : Scope) (p : TypePlace) (t : Type16) → AllHave (type_uses s p t)
  type_has s p (Bit w) = (tt, (tt, tt))
  type_has s p BoolType = (tt, tt)
  type_has s p (Named text None) = (tt, tt)
  type_has s p (Named text (Some size)) = (tt, (tt, tt))

  exp_has : (s : Scope) → s.layouts ≡ layouts → (q : Places) (e : Exp16) → AllHave (uses_at s q e)
  exp_has s is (one p) (member e word) = (is, exp_has s is (one (owner_place p (method_signature (kind_of s e) word))) e)
  exp_has s is (one p) (index e at) = (is, (tt, exp_has s is (one a_stack) e))
  exp_has s is (one p) (slice e high low) = (is, (tt, (tt, exp_has s is (one any_bits) e)))
  exp_has s is (one p) (call e given) = (is, two (uses_at s (one callee) e) (uses_at s (many (wanted_by (signature_of s e)) unasked) given) (exp_has s is (one callee) e) (exp_has s is (many (wanted_by (signature_of s e)) unasked) given))
  exp_has s is (one p) (lookahead e to given) = (
    is,
    two (type_uses s of_lookahead to ++ uses_at s (one owner) e) (uses_at s (many [] unasked) given)
        (two (type_uses s of_lookahead to) (uses_at s (one owner) e) (type_has s of_lookahead to) (exp_has s is (one owner) e)) (exp_has s is (many [] unasked) given),
  )
  exp_has s is (one p) (cast to e) = (is, two (cast_numbers to) (uses_at s (one (cast_place to)) e) (cast_has to) (exp_has s is (one (cast_place to)) e))
  exp_has s is (one p) (unary operator e) = (is, exp_has s is (one (unary_place p operator (kind_of s e))) e)
  exp_has s is (one p) (binary operator a b) =
      let l = one (left_place p operator (kind_of s a) (kind_of s b)) in
      let r = one (right_place p operator (kind_of s a) (kind_of s b)) in
      (is, two (uses_at s l a) (uses_at s r b) (exp_has s is l a) (exp_has s is r b))
  exp_has s is (one p) (choice c a b) =
      let q = one (chosen_place p (kind_of s a) (kind_of s b)) in
      (is, two (uses_at s (one (value boolean)) c ++ uses_at s q a) (uses_at s q b) (two (uses_at s (one (value boolean)) c) (uses_at s q a) (exp_has s is (one (value boolean)) c) (exp_has s is q a)) (exp_has s is q b))
  exp_has s is (one p) (listed es) = (is, exp_has s is (many [] any_bits) es)
  exp_has s is (one p) e = (is, tt)
  exp_has s is (many wanted otherwise) (argument before last) =
      let q = one (get_or wanted (argument_count before) otherwise) in
      two (uses_at s (many wanted otherwise) before) (uses_at s q last) (exp_has s is (many wanted otherwise) before) (exp_has s is q last)
  exp_has s is (many wanted otherwise) e = tt

  -- statements

  behind_has : (x : Stmt16) (s : Scope) → s.layouts ≡ layouts → (behind x s).layouts ≡ layouts
  behind_has ((then) before last) s is = behind_has last (behind before s) (behind_has before s is)
  behind_has (var t called) s is = is
  behind_has (var_is t called e) s is = is
  behind_has x s is = is

  label_has : (s : Scope) (l : CaseLabel) → AllHave (label_uses s l)
  label_has s (label_of.Action text) = (tt, tt)
  label_has s label_of.Default = tt

  stmt_has : (s : Scope) → s.layouts ≡ layouts → (x : Stmt16) → AllHave (statement_uses s x)
  stmt_has s is no_statements = tt
  stmt_has s is ((then) before last) =
      subst AllHave (sym (flat_map-append visit_uses (visits s before) (visits (behind before s) last)))
      (two (statement_uses s before) (statement_uses (behind before s) last) (stmt_has s is before) (stmt_has (behind before s) (behind_has before s is) last))
  stmt_has s is (block body) = (tt, stmt_has s is body)
  stmt_has s is (var t called) = two (type_uses s of_variable t) [] (type_has s of_variable t) tt
  stmt_has s is (var_is t called e) = two (own_uses s (var_is t called e)) [] (two (type_uses s of_variable t) (uses_at s (one (value (kind_of_type s.names t))) e) (type_has s of_variable t) (exp_has s is (one (value (kind_of_type s.names t))) e)) tt
  stmt_has s is (assign e f) = two (own_uses s (assign e f)) [] (two (uses_at s (one target) e) (uses_at s (one (assigned_place (kind_of s e))) f) (exp_has s is (one target) e) (exp_has s is (one (assigned_place (kind_of s e))) f)) tt
  stmt_has s is (expression e) = two (uses_at s (one statement) e) [] (exp_has s is (one statement) e) tt
  stmt_has s is (if_then c x) = two (uses_at s (one (value boolean)) c) (statement_uses s x) (exp_has s is (one (value boolean)) c) (stmt_has s is x)
  stmt_has s is (if_else c x y) =
      two (uses_at s (one (value boolean)) c) (flat_map visit_uses (visits s x ++ visits s y)) (exp_has s is (one (value boolean)) c)
      (subst AllHave (sym (flat_map-append visit_uses (visits s x) (visits s y))) (two (statement_uses s x) (statement_uses s y) (stmt_has s is x) (stmt_has s is y)))
  stmt_has s is (switch table cases) = (tt, (tt, stmt_has s is cases))
  stmt_has s is no_cases = tt
  stmt_has s is (case_of before label body) =
      subst AllHave (sym (flat_map-append visit_uses (visits s before) (_ ∷ visits s body)))
      (two (statement_uses s before) (own_uses s (case_of before label body) ++ statement_uses s body) (stmt_has s is before)
      (two (own_uses s (case_of before label body)) (statement_uses s body) (two (label_uses s label) _ (label_has s label) (tt, tt)) (stmt_has s is body)))
  stmt_has s is x = tt

  -- declarations

  body_has : (s : Scope) → s.layouts ≡ layouts → (braces : ℕ) (x : Stmt16) → AllHave (body_uses s braces x)
  body_has s is braces x = (tt, (tt, stmt_has s is x))

  note_has : (notes : List Note) → AllHave (note_uses notes)
  note_has notes = mapped a_number (λ n. tt) (flat_map list_numbers notes)

  simple_has : (s : Scope) → s.layouts ≡ layouts → (k : Kind) (x : Simple) → AllHave (simple_uses s k x)
  simple_has s is k simple.Default = tt
  simple_has s is k simple.Any = tt
  simple_has s is k (simple.Mask a b) = two (uses_at s (one (literal_of k)) a) (uses_at s (one (literal_of k)) b) (exp_has s is (one (literal_of k)) a) (exp_has s is (one (literal_of k)) b)
  simple_has s is k (simple.Range a b) = two (uses_at s (one (literal_of k)) a) (uses_at s (one (literal_of k)) b) (exp_has s is (one (literal_of k)) a) (exp_has s is (one (literal_of k)) b)
  simple_has s is k (simple.Value a) = exp_has s is (one (literal_of k)) a

  target_has : (s : Scope) (t : Target) → AllHave (target_uses s t)
  target_has s t = mapped (a_name s some_state) (λ n. tt) (option_to_list (target_name t))

  case_has : (s : Scope) → s.layouts ≡ layouts → (keys : List Kind) (x : SelectCase) → AllHave (case_uses s keys x)
  case_has s is keys x = (tt, two (flat_map (compared_uses s) (with_keys keys (keyset_parts x.keyset))) (target_uses s x.target) (flat (compared_uses s) (λ pair. simple_has s is pair.0 pair.1) (with_keys keys (keyset_parts x.keyset))) (target_has s x.target))

  transition_has : (s : Scope) → s.layouts ≡ layouts → (x : Transition) → AllHave (transition_uses s x)
  transition_has s is (transition.Go t) = target_has s t
  transition_has s is (transition.Select keys cases) =
      two (flat_map (uses_at s (one select_key)) keys) (flat_map (case_uses s (map (kind_of s) keys)) cases) (flat (uses_at s (one select_key)) (λ e. exp_has s is (one select_key) e) keys) (flat (case_uses s (map (kind_of s) keys)) (case_has s is (map (kind_of s) keys)) cases)

  state_has : (s : Scope) → s.layouts ≡ layouts → (x : State) → AllHave (state_uses s x)
  state_has s is x = two (body_uses s 0 x.body) (transition_uses (behind x.body s) x.transition) (body_has s is 0 x.body) (transition_has (behind x.body s) (behind_has x.body s is) x.transition)

  instance_has : (s : Scope) → s.layouts ≡ layouts → (i : Instance) → AllHave (instance_uses s i)
  instance_has s is (instance.Counter size m text) = (tt, exp_has s is (one (literal_of (bits 32))) size)
  instance_has s is (instance.DirectCounter m text) = (tt, tt)
  instance_has s is (instance.Register width size text) = (tt, exp_has s is (one (literal_of (bits 32))) size)
  instance_has s is (instance.Meter size m text) = (tt, exp_has s is (one (literal_of (bits 32))) size)

  object_has : (s : Scope) → s.layouts ≡ layouts → (notes : List Note) (i : Instance) → AllHave (object_uses s notes i)
  object_has s is notes i = two (note_uses notes) (instance_uses s i) (note_has notes) (instance_has s is i)

  var_has : (s : Scope) → s.layouts ≡ layouts → (v : Var) → AllHave (var_uses s v)
  var_has s is v = two (type_uses s of_variable v.of) (option_map_or (uses_at s (one (value (kind_of_type s.names v.of)))) v.initial []) (type_has s of_variable v.of) (by v.initial) where
    by : (o : Option Exp16) → AllHave (option_map_or (uses_at s (one (value (kind_of_type s.names v.of)))) o [])
    by None = tt
    by (Some e) = exp_has s is (one (value (kind_of_type s.names v.of))) e

  params_have : (s : Scope) (p : TypePlace) (ps : List Param) → AllHave (flat_map (parameter_uses s p) ps)
  params_have s p ps = flat (parameter_uses s p) (λ x. type_has s p x.of) ps

  action_has : (s : Scope) → s.layouts ≡ layouts → (a : Action16) → AllHave (action_uses s a)
  action_has s is a =
      let first = names_of_scope (map parameter_name a.parameters) ∷ some_parameters a.parameters ∷ flat_map (parameter_uses s of_action_parameter) a.parameters in
      two (note_uses a.notes ++ first) (body_uses (action_scope s a) 1 a.body) (two (note_uses a.notes) first (note_has a.notes) (tt, (tt, params_have s of_action_parameter a.parameters))) (body_has (action_scope s a) is 1 a.body)

  key_has : (s : Scope) → s.layouts ≡ layouts → (k : TableKey) → AllHave (key_uses s k)
  key_has s is k = two (uses_at (record s { part = in_key }) (one (table_key (is_exact k))) k.exp) (note_uses k.notes) (exp_has (record s { part = in_key }) is (one (table_key (is_exact k))) k.exp) (note_has k.notes)

  name_has : (s : Scope) (a : ActionName) → AllHave (action_name_uses s a)
  name_has s a = mapped (a_name s some_action) (λ n. tt) (option_to_list (declared_name a))

  defaults_have : (s : Scope) → s.layouts ≡ layouts → (a : Option ActionName) (given : Option Exp16) → AllHave (defaults_of s a given)
  defaults_have s is None given = tt
  defaults_have s is (Some a) None = two (action_name_uses s a) [] (name_has s a) tt
  defaults_have s is (Some a) (Some e) = two (action_name_uses s a) (given_uses s (parameters_of s a) e) (name_has s a) (tt, exp_has s is (many (map default_place (parameters_of s a)) any_literal) e)

  table_has : (s : Scope) → s.layouts ≡ layouts → (t : Table16) → AllHave (table_uses s t)
  table_has s is t =
      let keys = note_uses t.notes ++ a_table_of s t ∷ flat_map (key_uses s) (keys_of t.properties) in
      let names = flat_map (action_name_uses s) (actions_of t.properties) in
      let sizes = map a_number (option_to_list (size_of t.properties)) in
      let counters = map (a_name s some_direct_counter) (option_to_list (counters_of t.properties)) in
      let defaults = defaults_of s (default_action_of t.properties) (default_arguments_of t.properties) in
      two (keys ++ names ++ sizes ++ counters) defaults
      (two (keys ++ names ++ sizes) counters
      (two (keys ++ names) sizes
      (two keys names (two (note_uses t.notes) (a_table_of s t ∷ flat_map (key_uses s) (keys_of t.properties)) (note_has t.notes) (tt, flat (key_uses s) (key_has s is) (keys_of t.properties))) (flat (action_name_uses s) (name_has s) (actions_of t.properties)))
      (mapped a_number (λ n. tt) (option_to_list (size_of t.properties))))
      (mapped (a_name s some_direct_counter) (λ n. tt) (option_to_list (counters_of t.properties))))
      (defaults_have s is (default_action_of t.properties) (default_arguments_of t.properties))

  local_has : (s : Scope) → s.layouts ≡ layouts → (l : Local) → AllHave (local_uses s l)
  local_has s is (local.Instance notes i) = object_has s is notes i
  local_has s is (local.Var v) = var_has s is v
  local_has s is (local.Action a) = action_has s is a
  local_has s is (local.Table t) = table_has s is t

  decl_has : (s : Scope) → s.layouts ≡ layouts → (d : Decl16) → AllHave (declaration_uses s d)
  decl_has s is (decl.Header h) = (tt, (tt, mapped field_width (λ f. tt) h.fields))
  decl_has s is (decl.Struct x) = (tt, flat (struct_field_uses s) (λ f. two (note_uses f.notes) (type_uses s of_field f.of) (note_has f.notes) (type_has s of_field f.of)) x.fields)
  decl_has s is (decl.Instance notes i) = object_has s is notes i
  decl_has s is (decl.Parser p) =
      let roots = flat_map (parameter_uses s of_block_parameter) p.parameters in
      let vars = flat_map (var_uses (parser_scope s p)) p.vars in
      (tt, two (roots ++ vars) (flat_map (state_uses (parser_scope s p)) p.states) (two roots vars (params_have s of_block_parameter p.parameters) (flat (var_uses (parser_scope s p)) (var_has (parser_scope s p) is) p.vars)) (flat (state_uses (parser_scope s p)) (state_has (parser_scope s p) is) p.states))
  decl_has s is (decl.Control c) =
      let roots = flat_map (parameter_uses s of_block_parameter) c.parameters in
      let locals = flat_map (local_uses (control_scope s c)) c.locals in
      (tt, (tt, two (roots ++ locals) (body_uses (control_scope s c) 1 c.body) (two roots locals (params_have s of_block_parameter c.parameters) (flat (local_uses (control_scope s c)) (local_has (control_scope s c) is) c.locals)) (body_has (control_scope s c) is 1 c.body)))

same_is : (k : Kind) → is_same_kind standard k ≡ true → k ≡ standard
same_is (struct b) e = ap (λ (t : Name). struct t) (sym ((bytes_eq-Decides standard_name b).0 e))
same_is k e = absurd (false≢true e)

misnamed : (layouts : List Layout) (s : Scope) (p : Place) (e : Exp16) → fields_in layouts standard_name ≡ standard_layout.fields → s.layouts ≡ layouts → kind_of s e ≡ standard → is_unknown_member s p e (codes "mcast_grp") ≡ true
misnamed layouts s callee e fields same kind = ap (λ (k : Kind). is_none (method_signature k (codes "mcast_grp")) && not (is_plain k)) kind
misnamed layouts s p e fields same kind =
    ap (λ (k : Kind). is_none (member_kind s.layouts k (codes "mcast_grp")) && not (is_plain k)) kind
    ∙ ap (λ fs. is_none (field_kind_in fs (codes "mcast_grp")) && true) (ap (λ ls. fields_in ls standard_name) same ∙ fields)

unnamed : (layouts : List Layout) → fields_in layouts standard_name ≡ standard_layout.fields → (u : Use) → Fine u → Has layouts u → names_group u ≡ false
unnamed layouts fields (an_expression s p (member e word)) fine has = by (is_same_kind standard (kind_of s e)) (bytes_eq word (codes "mcast_grp")) refl refl where
  by : (a b : Bool) → is_same_kind standard (kind_of s e) ≡ a → bytes_eq word (codes "mcast_grp") ≡ b → a && b ≡ false
  by false b same word_is = refl
  by true false same word_is = refl
  by true true same word_is =
      absurd (false≢true (sym fine.t1 ∙ ap (is_unknown_member s p e) ((bytes_eq-Decides word (codes "mcast_grp")).0 word_is) ∙ misnamed layouts s p e fields has (same_is (kind_of s e) same)))
unnamed layouts fields u fine has = refl

all_unnamed : (layouts : List Layout) → fields_in layouts standard_name ≡ standard_layout.fields → (us : List Use) → AllFine us → AllByRecursion (Has layouts) us → list_any names_group us ≡ false
all_unnamed layouts fields [] fine has = refl
all_unnamed layouts fields (u ∷ us) fine has = neither _ _ (unnamed layouts fields u fine.0 has.0) (all_unnamed layouts fields us fine.1 has.1)

pub program_unnamed : (s : Syntax16) (h m : Name) (held : Decl16 → List Kind) → ProgramKeeps s h m held → list_any names_group (program_uses s) ≡ false
program_unnamed s h m held k = by s.decls k.each where
  by : (ds : List Decl16) → AllByRecursion (EachKeeps s held) ds → list_any names_group (flat_map (uses_in s) ds) ≡ false
  by [] all = refl
  by (d ∷ ds) all =
      list_any-append names_group (uses_in s d) (flat_map (uses_in s) ds)
      ∙ neither _ _ (all_unnamed (layouts_of s.decls) (standard_found s.decls k.names) (uses_in s d) all.0.keeps.fine (decl_has (layouts_of s.decls) (scope_of s d) refl d)) (by ds all.1)
