-- All scopes in a declaration have the tables that it declares, and no others.
use Rattle.std.proofs.Common.{◌≡◌, ℕ, Bool, true, false, not, ◌||◌, ◌&&◌, cond, Option, Some, None, List, [], ◌∷◌, ◌++◌, map, flat_map, filter_map, option_to_list, get_or, refl, sym, ap, ◌∙◌}
use Rattle.std.specs.List.{list_any}
use Rattle.std.specs.Option.{option_map_or}
use Rattle.std.proofs.lemmas.List.Folds.{list_any-append}
use Rattle.p416_syntax.specs.declared.parts.Note.{Note}
use Rattle.p416_syntax.specs.declared.parts.Type16.{Type16}
use Rattle.p416_syntax.specs.declared.parts.Type16.TheVariants.{Bit, Bool as BoolType, Named}
use Rattle.p416_syntax.specs.declared.parts.Param.{Param}
use Rattle.p416_syntax.specs.declared.parsers.Var.{Var}
use Rattle.p416_syntax.specs.declared.parsers.Target.{Target}
use Rattle.p416_syntax.specs.declared.parsers.Simple.{Simple}
use Rattle.p416_syntax.specs.declared.parsers.Simple.TheVariants as simple
use Rattle.p416_syntax.specs.declared.parsers.SelectCase.{SelectCase}
use Rattle.p416_syntax.specs.declared.parsers.Transition.{Transition}
use Rattle.p416_syntax.specs.declared.parsers.Transition.TheVariants as transition
use Rattle.p416_syntax.specs.declared.parsers.State.{State}
use Rattle.p416_syntax.specs.declared.parsers.Parser16.{Parser16}
use Rattle.p416_syntax.specs.declared.node.CastType.{CastType}
use Rattle.p416_syntax.specs.declared.node.CastType.TheVariants as cast_to
use Rattle.p416_syntax.specs.declared.node.CaseLabel.{CaseLabel}
use Rattle.p416_syntax.specs.declared.node.CaseLabel.TheVariants as label
use Rattle.p416_syntax.specs.declared.controls.Instance.{Instance}
use Rattle.p416_syntax.specs.declared.controls.Instance.TheVariants as instance
use Rattle.p416_syntax.specs.declared.controls.ActionName.{ActionName}
use Rattle.p416_syntax.specs.declared.controls.Action16.{Action16}
use Rattle.p416_syntax.specs.declared.controls.TableKey.{TableKey}
use Rattle.p416_syntax.specs.declared.controls.Table16.{Table16}
use Rattle.p416_syntax.specs.declared.controls.Local.{Local}
use Rattle.p416_syntax.specs.declared.controls.Local.TheVariants as local
use Rattle.p416_syntax.specs.declared.controls.Control16.{Control16}
use Rattle.p416_syntax.specs.declared.program.Decl16.{Decl16}
use Rattle.p416_syntax.specs.declared.program.Decl16.TheVariants as decl
use Rattle.p416_syntax.specs.Properties.{keys_of, actions_of, size_of, counters_of, default_action_of, default_arguments_of}
use Rattle.p416_syntax.specs.Tree.{Exp16, literal, truth, error, name, member, index, slice, call, lookahead, cast, unary, binary, choice, parenthesized, no_arguments, argument, listed, Stmt16, no_statements, then, block, empty, var, var_is, assign, expression, if_then, if_else, switch, no_cases, case_of}
use Rattle.p416_syntax.specs.Names.{Name}
use Rattle.p416_syntax.specs.Kinds.{Kind, bits, boolean}
use Rattle.p416_syntax.specs.Expressions.{kind_of, signature_of, argument_count}
use Rattle.p416_syntax.specs.BuiltIn.{built_in}
use Rattle.p416_syntax.specs.Scopes.{Scope, Known, Part, in_parser, in_apply, in_action, in_key, elsewhere, kind_of_type, known_parameter, Handed}
use Rattle.p416_syntax.specs.Calls.{Place, value, written, any_bits, written_bits, one_bit, bits_or_boolean, written_header, emitted, literal_of, any_literal, item_list, member_place, select_key, table_key, target, owner, written_owner, a_stack, callee, statement, unasked}
use Rattle.p416_syntax.specs.Uses.{Use, an_expression, a_type, a_name, names_of_scope, a_width, a_size, a_number, a_header, a_member, a_keyset, a_count, a_switch, some_parameters, some_counters, a_table_of, a_body, some_action, some_state, some_direct_counter, TypePlace, of_field, of_variable, of_action_parameter, of_block_parameter, of_lookahead, one, many, left_place, right_place, chosen_place, cast_place, wanted_by, type_uses, cast_numbers, uses, uses_at}
use Rattle.p416_syntax.specs.Statements.{Visit, visit, behind, declared_in, visits, visit_uses, own_uses, label_uses, assigned_place}
use Rattle.p416_syntax.specs.Declarations.{top_name, top_names, top_scope, list_numbers, target_name, parameter_name, is_exact, declared_name, default_place, known_var, known_state, known_local, note_uses, field_width, struct_field_uses, instance_uses, object_uses, var_uses, parameter_uses, body_uses, target_uses, simple_uses, keyset_parts, compared_uses, with_keys, case_uses, transition_uses, state_uses, parser_scope, parser_uses, action_scope, action_uses, key_uses, action_name_uses, parameters_of, given_uses, defaults_of, table_in, tables_in, table_uses, control_scope, local_uses, control_uses, declaration_uses}
use Rattle.p416_syntax.specs.Tables.{is_direct_counter, is_counted_by, counts_outside, is_counted_outside}
use Rattle.p416_expression_uses.specs.Found.{counted_in, counted_by, counted_of}
use Rattle.p416_counter_check.specs.Counting.{is_counted_use, is_counter_of, counts_in_decl, is_outside}

-- truth values

or_false : (a : Bool) → (a || false) ≡ a
or_false true = refl
or_false false = refl

or_both : (a b c d : Bool) → a ≡ c → b ≡ d → (a || b) ≡ (c || d)
or_both a b c d e f = ap (λ (x : Bool). x || b) e ∙ ap (λ (y : Bool). c || y) f

module _ (counts : Name → Name → Bool) where
  -- among the names in scope are these tables, as far as counters are asked
  abbrev pub Agrees : Scope → Type 0
  Agrees s = (counter action : Name) → list_any (is_counted_by counter action) s.names ≡ counts counter action

  abbrev pub UseAgrees : Use → Type 0
  UseAgrees (an_expression s p e) = Agrees s
  UseAgrees _ = Unit {0}

  abbrev pub AllAgree : List Use → Type 0
  AllAgree [] = Unit {0}
  AllAgree (u ∷ us) = UseAgrees u × AllAgree us

  both : (xs ys : List Use) → AllAgree xs → AllAgree ys → AllAgree (xs ++ ys)
  both [] ys h k = k
  both (u ∷ xs) ys h k = (h.0, both xs ys h.1 k)

  flat : {X : Type 0} (f : X → List Use) → ((x : X) → AllAgree (f x)) → (xs : List X) → AllAgree (flat_map f xs)
  flat f h [] = _
  flat f h (x ∷ xs) = both (f x) (flat_map f xs) (h x) (flat f h xs)

  each : {X : Type 0} (f : X → Use) → ((x : X) → UseAgrees (f x)) → (xs : List X) → AllAgree (map f xs)
  each f h [] = _
  each f h (x ∷ xs) = (h x, each f h xs)

  given : {X : Type 0} (f : X → List Use) → ((x : X) → AllAgree (f x)) → (o : Option X) → AllAgree (option_map_or f o [])
  given f h None = _
  given f h (Some x) = h x

  -- expressions

  types_agree : (s : Scope) (p : TypePlace) (t : Type16) → AllAgree (type_uses s p t)
  types_agree s p (Bit w) = (_, (_, _))
  types_agree s p BoolType = (_, _)
  types_agree s p (Named text None) = (_, _)
  types_agree s p (Named text (Some n)) = (_, (_, _))

  casts_agree : (t : CastType) → AllAgree (cast_numbers t)
  casts_agree (cast_to.Bit w) = (_, _)
  casts_agree cast_to.Bool = _

  record AgreeAt (s : Scope) (e : Exp16) : Type 0 where
    alone : (p : Place) → AllAgree (uses_at s (one p) e)
    inside : (wanted : List Place) (otherwise : Place) → AllAgree (uses_at s (many wanted otherwise) e)

  agree_at : (s : Scope) → Agrees s → (e : Exp16) → AgreeAt s e
  agree_at s h (literal v) = record { alone = λ p. (h, _); inside = λ w o. _ }
  agree_at s h (truth v) = record { alone = λ p. (h, _); inside = λ w o. _ }
  agree_at s h error = record { alone = λ p. (h, _); inside = λ w o. _ }
  agree_at s h (name t) = record { alone = λ p. (h, _); inside = λ w o. _ }
  agree_at s h (member a w) = let r = agree_at s h a in record { alone = λ p. (h, r.alone _); inside = λ w o. _ }
  agree_at s h (index a i) = let r = agree_at s h a in record { alone = λ p. (h, (_, r.alone a_stack)); inside = λ w o. _ }
  agree_at s h (slice a i j) = let r = agree_at s h a in record { alone = λ p. (h, (_, (_, r.alone any_bits))); inside = λ w o. _ }
  agree_at s h (call a b) =
      let r = agree_at s h a in let k = agree_at s h b in
      record {
        alone = λ p. (h, both (uses_at s (one callee) a) (uses_at s (many (wanted_by (signature_of s a)) unasked) b) (r.alone callee) (k.inside (wanted_by (signature_of s a)) unasked));
        inside = λ w o. _;
      }
  agree_at s h (lookahead a t b) =
      let r = agree_at s h a in let k = agree_at s h b in
      record {
        alone = λ p. (
          h,
          both (type_uses s of_lookahead t ++ uses_at s (one owner) a) (uses_at s (many [] unasked) b)
              (both (type_uses s of_lookahead t) (uses_at s (one owner) a) (types_agree s of_lookahead t) (r.alone owner)) (k.inside [] unasked),
        );
        inside = λ w o. _;
      }
  agree_at s h (cast t a) =
      let r = agree_at s h a in
      record { alone = λ p. (h, both (cast_numbers t) (uses_at s (one (cast_place t)) a) (casts_agree t) (r.alone (cast_place t))); inside = λ w o. _ }
  agree_at s h (unary o a) = let r = agree_at s h a in record { alone = λ p. (h, r.alone _); inside = λ w o. _ }
  agree_at s h (binary o a b) =
      let r = agree_at s h a in let k = agree_at s h b in
      record {
        alone = λ p. (
          h,
          both (uses_at s (one (left_place p o (kind_of s a) (kind_of s b))) a) (uses_at s (one (right_place p o (kind_of s a) (kind_of s b))) b)
              (r.alone (left_place p o (kind_of s a) (kind_of s b))) (k.alone (right_place p o (kind_of s a) (kind_of s b))),
        );
        inside = λ w o. _;
      }
  agree_at s h (choice c a b) =
      let q = agree_at s h c in let r = agree_at s h a in let k = agree_at s h b in
      record {
        alone = λ p. (
          h,
          both (uses_at s (one (value boolean)) c ++ uses_at s (one (chosen_place p (kind_of s a) (kind_of s b))) a) (uses_at s (one (chosen_place p (kind_of s a) (kind_of s b))) b)
              (both (uses_at s (one (value boolean)) c) (uses_at s (one (chosen_place p (kind_of s a) (kind_of s b))) a) (q.alone (value boolean)) (r.alone (chosen_place p (kind_of s a) (kind_of s b))))
              (k.alone (chosen_place p (kind_of s a) (kind_of s b))),
        );
        inside = λ w o. _;
      }
  agree_at s h (parenthesized a) = record { alone = λ p. (h, _); inside = λ w o. _ }
  agree_at s h no_arguments = record { alone = λ p. (h, _); inside = λ w o. _ }
  agree_at s h (argument a b) =
      let r = agree_at s h a in let k = agree_at s h b in
      record {
        alone = λ p. (h, _);
        inside = λ w o. both (uses_at s (many w o) a) (uses_at s (one (get_or w (argument_count a) o)) b) (r.inside w o) (k.alone (get_or w (argument_count a) o));
      }
  agree_at s h (listed a) = let r = agree_at s h a in record { alone = λ p. (h, r.inside [] any_bits); inside = λ w o. _ }

  uses_agree : (s : Scope) → Agrees s → (p : Place) (e : Exp16) → AllAgree (uses s p e)
  uses_agree s h p e = (agree_at s h e).alone p

  -- statements

  abbrev AllVisits : List Visit → Type 0
  AllVisits [] = Unit {0}
  AllVisits (v ∷ vs) = Agrees v.scope × AllVisits vs

  both_visits : (xs ys : List Visit) → AllVisits xs → AllVisits ys → AllVisits (xs ++ ys)
  both_visits [] ys h k = k
  both_visits (v ∷ xs) ys h k = (h.0, both_visits xs ys h.1 k)

  behind_agrees : (x : Stmt16) (s : Scope) → Agrees s → Agrees (behind x s)
  behind_agrees no_statements s h = h
  behind_agrees ((then) before last) s h = behind_agrees last (behind before s) (behind_agrees before s h)
  behind_agrees (block body) s h = h
  behind_agrees empty s h = h
  behind_agrees (var t called) s h = h
  behind_agrees (var_is t called e) s h = h
  behind_agrees (assign e f) s h = h
  behind_agrees (expression e) s h = h
  behind_agrees (if_then c a) s h = h
  behind_agrees (if_else c a b) s h = h
  behind_agrees (switch t cs) s h = h
  behind_agrees no_cases s h = h
  behind_agrees (case_of before l body) s h = h

  visits_agree : (x : Stmt16) (s : Scope) → Agrees s → AllVisits (visits s x)
  visits_agree no_statements s h = _
  visits_agree ((then) before last) s h = both_visits (visits s before) (visits (behind before s) last) (visits_agree before s h) (visits_agree last (behind before s) (behind_agrees before s h))
  visits_agree (block body) s h = (h, visits_agree body s h)
  visits_agree empty s h = (h, _)
  visits_agree (var t called) s h = (h, _)
  visits_agree (var_is t called e) s h = (h, _)
  visits_agree (assign e f) s h = (h, _)
  visits_agree (expression e) s h = (h, _)
  visits_agree (if_then c a) s h = (h, visits_agree a s h)
  visits_agree (if_else c a b) s h = (h, both_visits (visits s a) (visits s b) (visits_agree a s h) (visits_agree b s h))
  visits_agree (switch t cs) s h = (h, visits_agree cs s h)
  visits_agree no_cases s h = _
  visits_agree (case_of before l body) s h =
      both_visits (visits s before) (visit s (case_of before l body) ∷ visits s body) (visits_agree before s h) (h, visits_agree body s h)

  labels_agree : (s : Scope) (l : CaseLabel) → AllAgree (label_uses s l)
  labels_agree s (label.Action text) = (_, _)
  labels_agree s label.Default = _

  own_agree : (s : Scope) → Agrees s → (x : Stmt16) → AllAgree (own_uses s x)
  own_agree s h no_statements = _
  own_agree s h ((then) before last) = _
  own_agree s h (block body) = (_, _)
  own_agree s h empty = _
  own_agree s h (var t called) = types_agree s of_variable t
  own_agree s h (var_is t called e) = both (type_uses s of_variable t) (uses s (value (kind_of_type s.names t)) e) (types_agree s of_variable t) (uses_agree s h (value (kind_of_type s.names t)) e)
  own_agree s h (assign e f) = both (uses s target e) (uses s (assigned_place (kind_of s e)) f) (uses_agree s h target e) (uses_agree s h (assigned_place (kind_of s e)) f)
  own_agree s h (expression e) = uses_agree s h statement e
  own_agree s h (if_then c a) = uses_agree s h (value boolean) c
  own_agree s h (if_else c a b) = uses_agree s h (value boolean) c
  own_agree s h (switch t cs) = (_, (_, _))
  own_agree s h no_cases = _
  own_agree s h (case_of before l body) = both (label_uses s l) (names_of_scope (declared_in body) ∷ []) (labels_agree s l) (_, _)

  visited : (vs : List Visit) → AllVisits vs → AllAgree (flat_map visit_uses vs)
  visited [] h = _
  visited (v ∷ vs) h = both (own_uses v.scope v.of) (flat_map visit_uses vs) (own_agree v.scope h.0 v.of) (visited vs h.1)

  body_agrees : (s : Scope) → Agrees s → (n : ℕ) (body : Stmt16) → AllAgree (body_uses s n body)
  body_agrees s h n body = (_, (_, visited (visits s body) (visits_agree body s h)))

  -- variables and objects

  var_agrees : (s : Scope) → Agrees s → (v : Var) → AllAgree (var_uses s v)
  var_agrees s h v =
      both (type_uses s of_variable v.of) (option_map_or (uses s (value (kind_of_type s.names v.of))) v.initial []) (types_agree s of_variable v.of)
      (given (uses s (value (kind_of_type s.names v.of))) (uses_agree s h (value (kind_of_type s.names v.of))) v.initial)

  notes_agree : (notes : List Note) → AllAgree (note_uses notes)
  notes_agree notes = each a_number (λ n. _) (flat_map list_numbers notes)

  instance_agrees : (s : Scope) → Agrees s → (i : Instance) → AllAgree (instance_uses s i)
  instance_agrees s h (instance.Counter size m text) = (_, uses_agree s h (literal_of (bits 32)) size)
  instance_agrees s h (instance.DirectCounter m text) = (_, _)
  instance_agrees s h (instance.Register width size text) = (_, uses_agree s h (literal_of (bits 32)) size)
  instance_agrees s h (instance.Meter size m text) = (_, uses_agree s h (literal_of (bits 32)) size)

  object_agrees : (s : Scope) → Agrees s → (notes : List Note) (i : Instance) → AllAgree (object_uses s notes i)
  object_agrees s h notes i = both (note_uses notes) (instance_uses s i) (notes_agree notes) (instance_agrees s h i)

  -- parsers

  targets_agree : (s : Scope) (t : Target) → AllAgree (target_uses s t)
  targets_agree s t = each (a_name s some_state) (λ n. _) (option_to_list (target_name t))

  simple_agrees : (s : Scope) → Agrees s → (k : Kind) (x : Simple) → AllAgree (simple_uses s k x)
  simple_agrees s h k simple.Default = _
  simple_agrees s h k simple.Any = _
  simple_agrees s h k (simple.Mask a b) = both (uses s (literal_of k) a) (uses s (literal_of k) b) (uses_agree s h (literal_of k) a) (uses_agree s h (literal_of k) b)
  simple_agrees s h k (simple.Range a b) = both (uses s (literal_of k) a) (uses s (literal_of k) b) (uses_agree s h (literal_of k) a) (uses_agree s h (literal_of k) b)
  simple_agrees s h k (simple.Value a) = uses_agree s h (literal_of k) a

  case_agrees : (s : Scope) → Agrees s → (keys : List Kind) (c : SelectCase) → AllAgree (case_uses s keys c)
  case_agrees s h keys c = (
    _,
    both (flat_map (compared_uses s) (with_keys keys (keyset_parts c.keyset))) (target_uses s c.target)
        (flat (compared_uses s) (λ pair. simple_agrees s h pair.0 pair.1) (with_keys keys (keyset_parts c.keyset))) (targets_agree s c.target),
  )

  transition_agrees : (s : Scope) → Agrees s → (t : Transition) → AllAgree (transition_uses s t)
  transition_agrees s h (transition.Go t) = targets_agree s t
  transition_agrees s h (transition.Select keys cases) =
      both (flat_map (uses s select_key) keys) (flat_map (case_uses s (map (kind_of s) keys)) cases) (flat (uses s select_key) (uses_agree s h select_key) keys) (flat (case_uses s (map (kind_of s) keys)) (case_agrees s h (map (kind_of s) keys)) cases)

  state_agrees : (s : Scope) → Agrees s → (x : State) → AllAgree (state_uses s x)
  state_agrees s h x =
      both (body_uses s 0 x.body) (transition_uses (behind x.body s) x.transition) (body_agrees s h 0 x.body) (transition_agrees (behind x.body s) (behind_agrees x.body s h) x.transition)

  params_agree : (s : Scope) (place : TypePlace) (ps : List Param) → AllAgree (flat_map (parameter_uses s place) ps)
  params_agree s place ps = flat (parameter_uses s place) (λ p. types_agree s place p.of) ps

  parser_agrees : (s : Scope) (p : Parser16) → Agrees (parser_scope s p) → AllAgree (parser_uses s p)
  parser_agrees s p h = (
    _,
    both (flat_map (parameter_uses s of_block_parameter) p.parameters ++ flat_map (var_uses (parser_scope s p)) p.vars) (flat_map (state_uses (parser_scope s p)) p.states)
        (both (flat_map (parameter_uses s of_block_parameter) p.parameters) (flat_map (var_uses (parser_scope s p)) p.vars) (params_agree s of_block_parameter p.parameters) (flat (var_uses (parser_scope s p)) (var_agrees (parser_scope s p) h) p.vars))
        (flat (state_uses (parser_scope s p)) (state_agrees (parser_scope s p) h) p.states),
  )

  -- actions and tables

  parameters_behind : (names outer : List Known) (counter action : Name) (ps : List Param) → list_any (is_counted_by counter action) (map (known_parameter names) ps ++ outer) ≡ list_any (is_counted_by counter action) outer
  parameters_behind names outer counter action [] = refl
  parameters_behind names outer counter action (p ∷ ps) = parameters_behind names outer counter action ps

  action_agrees : (s : Scope) → Agrees s → (a : Action16) → AllAgree (action_uses s a)
  action_agrees s h a =
      both (note_uses a.notes ++ names_of_scope (map parameter_name a.parameters) ∷ some_parameters a.parameters ∷ flat_map (parameter_uses s of_action_parameter) a.parameters) (body_uses (action_scope s a) 1 a.body)
      (both (note_uses a.notes) (names_of_scope (map parameter_name a.parameters) ∷ some_parameters a.parameters ∷ flat_map (parameter_uses s of_action_parameter) a.parameters) (notes_agree a.notes)
      (_, (_, params_agree s of_action_parameter a.parameters)))
      (body_agrees (action_scope s a) (λ counter action. parameters_behind s.names s.names counter action a.parameters ∙ h counter action) 1 a.body)

  key_agrees : (s : Scope) → Agrees s → (k : TableKey) → AllAgree (key_uses s k)
  key_agrees s h k = both (uses (record s { part = in_key }) (table_key (is_exact k)) k.exp) (note_uses k.notes) (uses_agree (record s { part = in_key }) h (table_key (is_exact k)) k.exp) (notes_agree k.notes)

  names_agree : (s : Scope) (a : ActionName) → AllAgree (action_name_uses s a)
  names_agree s a = each (a_name s some_action) (λ n. _) (option_to_list (declared_name a))

  given_agree : (s : Scope) → Agrees s → (hs : List Handed) (e : Exp16) → AllAgree (given_uses s hs e)
  given_agree s h hs e = (_, (agree_at s h e).inside (map default_place hs) any_literal)

  default_agrees : (s : Scope) → Agrees s → (a : Option ActionName) (e : Option Exp16) → AllAgree (defaults_of s a e)
  default_agrees s h None e = _
  default_agrees s h (Some a) e = both (action_name_uses s a) (option_map_or (given_uses s (parameters_of s a)) e []) (names_agree s a) (given (given_uses s (parameters_of s a)) (given_agree s h (parameters_of s a)) e)

  table_agrees : (s : Scope) → Agrees s → (t : Table16) → AllAgree (table_uses s t)
  table_agrees s h t =
      both
      ((((note_uses t.notes ++ a_table_of s t ∷ flat_map (key_uses s) (keys_of t.properties)) ++ flat_map (action_name_uses s) (actions_of t.properties)) ++ map a_number (option_to_list (size_of t.properties)))
      ++ map (a_name s some_direct_counter) (option_to_list (counters_of t.properties)))
      (defaults_of s (default_action_of t.properties) (default_arguments_of t.properties))
      (both (((note_uses t.notes ++ a_table_of s t ∷ flat_map (key_uses s) (keys_of t.properties)) ++ flat_map (action_name_uses s) (actions_of t.properties)) ++ map a_number (option_to_list (size_of t.properties)))
      (map (a_name s some_direct_counter) (option_to_list (counters_of t.properties)))
      (both ((note_uses t.notes ++ a_table_of s t ∷ flat_map (key_uses s) (keys_of t.properties)) ++ flat_map (action_name_uses s) (actions_of t.properties)) (map a_number (option_to_list (size_of t.properties)))
      (both (note_uses t.notes ++ a_table_of s t ∷ flat_map (key_uses s) (keys_of t.properties)) (flat_map (action_name_uses s) (actions_of t.properties))
      (both (note_uses t.notes) (a_table_of s t ∷ flat_map (key_uses s) (keys_of t.properties)) (notes_agree t.notes) (_, flat (key_uses s) (key_agrees s h) (keys_of t.properties)))
      (flat (action_name_uses s) (names_agree s) (actions_of t.properties)))
      (each a_number (λ n. _) (option_to_list (size_of t.properties))))
      (each (a_name s some_direct_counter) (λ n. _) (option_to_list (counters_of t.properties))))
      (default_agrees s h (default_action_of t.properties) (default_arguments_of t.properties))

  local_agrees : (s : Scope) → Agrees s → (x : Local) → AllAgree (local_uses s x)
  local_agrees s h (local.Instance notes i) = object_agrees s h notes i
  local_agrees s h (local.Var v) = var_agrees s h v
  local_agrees s h (local.Action a) = action_agrees s h a
  local_agrees s h (local.Table t) = table_agrees s h t

  control_agrees : (s : Scope) (c : Control16) → Agrees (control_scope s c) → AllAgree (control_uses s c)
  control_agrees s c h = (
    _,
    (
      _,
      both (flat_map (parameter_uses s of_block_parameter) c.parameters ++ flat_map (local_uses (control_scope s c)) c.locals) (body_uses (control_scope s c) 1 c.body)
          (both (flat_map (parameter_uses s of_block_parameter) c.parameters) (flat_map (local_uses (control_scope s c)) c.locals) (params_agree s of_block_parameter c.parameters) (flat (local_uses (control_scope s c)) (local_agrees (control_scope s c) h) c.locals))
          (body_agrees (control_scope s c) h 1 c.body),
    ),
  )

  -- what is counted

  part_is : (s : Scope) (counter : Name) → Agrees s → (part : Part) → counts_outside s.names part counter ≡ list_any (is_outside counts) (counted_in part counter)
  part_is s counter h in_parser = refl
  part_is s counter h in_apply = refl
  part_is s counter h (in_action text) = ap not (h counter text) ∙ sym (or_false (not (counts counter text)))
  part_is s counter h in_key = refl
  part_is s counter h elsewhere = refl

  direct_is : (s : Scope) (counter : Name) → Agrees s → (b : Bool) → (b && counts_outside s.names s.part counter) ≡ list_any (is_outside counts) (cond b (counted_in s.part counter) [])
  direct_is s counter h true = part_is s counter h s.part
  direct_is s counter h false = refl

  member_is : (s : Scope) → Agrees s → (e : Exp16) (word : Name) → is_counted_outside s callee (member e word) ≡ list_any (is_outside counts) (counted_by s callee (member e word))
  member_is s h (name text) word = direct_is s text h (is_direct_counter (kind_of s (name text)))
  member_is s h (literal v) word = refl
  member_is s h (truth v) word = refl
  member_is s h error word = refl
  member_is s h (member a w) word = refl
  member_is s h (index a i) word = refl
  member_is s h (slice a i j) word = refl
  member_is s h (call a b) word = refl
  member_is s h (lookahead a t b) word = refl
  member_is s h (cast t a) word = refl
  member_is s h (unary o a) word = refl
  member_is s h (binary o a b) word = refl
  member_is s h (choice c a b) word = refl
  member_is s h (parenthesized a) word = refl
  member_is s h no_arguments word = refl
  member_is s h (argument a b) word = refl
  member_is s h (listed a) word = refl

  called_is : (s : Scope) → Agrees s → (e : Exp16) → is_counted_outside s callee e ≡ list_any (is_outside counts) (counted_by s callee e)
  called_is s h (member e word) = member_is s h e word
  called_is s h (name text) = refl
  called_is s h (literal v) = refl
  called_is s h (truth v) = refl
  called_is s h error = refl
  called_is s h (index a i) = refl
  called_is s h (slice a i j) = refl
  called_is s h (call a b) = refl
  called_is s h (lookahead a t b) = refl
  called_is s h (cast t a) = refl
  called_is s h (unary o a) = refl
  called_is s h (binary o a b) = refl
  called_is s h (choice c a b) = refl
  called_is s h (parenthesized a) = refl
  called_is s h no_arguments = refl
  called_is s h (argument a b) = refl
  called_is s h (listed a) = refl

  expression_is : (s : Scope) → Agrees s → (p : Place) (e : Exp16) → is_counted_outside s p e ≡ list_any (is_outside counts) (counted_by s p e)
  expression_is s h callee e = called_is s h e
  expression_is s h (value k) e = refl
  expression_is s h (written k) e = refl
  expression_is s h any_bits e = refl
  expression_is s h written_bits e = refl
  expression_is s h one_bit e = refl
  expression_is s h bits_or_boolean e = refl
  expression_is s h written_header e = refl
  expression_is s h emitted e = refl
  expression_is s h (literal_of k) e = refl
  expression_is s h any_literal e = refl
  expression_is s h item_list e = refl
  expression_is s h (member_place m) e = refl
  expression_is s h select_key e = refl
  expression_is s h (table_key b) e = refl
  expression_is s h target e = refl
  expression_is s h owner e = refl
  expression_is s h written_owner e = refl
  expression_is s h a_stack e = refl
  expression_is s h statement e = refl
  expression_is s h unasked e = refl

  use_is : (u : Use) → UseAgrees u → is_counted_use u ≡ list_any (is_outside counts) (counted_of u)
  use_is (an_expression s p e) h = expression_is s h p e
  use_is (a_type s p t) h = refl
  use_is (a_name s wanted text) h = refl
  use_is (names_of_scope names) h = refl
  use_is (a_width n) h = refl
  use_is (a_size n) h = refl
  use_is (a_number n) h = refl
  use_is (a_header x) h = refl
  use_is (a_member wanted m) h = refl
  use_is (a_keyset keys k) h = refl
  use_is (a_count wanted n) h = refl
  use_is (a_switch s text labels) h = refl
  use_is (some_parameters ps) h = refl
  use_is (some_counters names) h = refl
  use_is (a_table_of s t) h = refl
  use_is (a_body d) h = refl

  uses_are : (us : List Use) → AllAgree us → list_any is_counted_use us ≡ list_any (is_outside counts) (flat_map counted_of us)
  uses_are [] h = refl
  uses_are (u ∷ us) h =
      or_both (is_counted_use u) (list_any is_counted_use us) (list_any (is_outside counts) (counted_of u)) (list_any (is_outside counts) (flat_map counted_of us)) (use_is u h.0) (uses_are us h.1)
      ∙ sym (list_any-append (is_outside counts) (counted_of u) (flat_map counted_of us))

-- the scopes of declarations

instances_none : (counter action : Name) (i : Instance) (notes : List Note) (more : List Known) → list_any (is_counted_by counter action) (top_name (decl.Instance notes i) ∷ more) ≡ list_any (is_counted_by counter action) more
instances_none counter action (instance.Counter size m text) notes more = refl
instances_none counter action (instance.DirectCounter m text) notes more = refl
instances_none counter action (instance.Register width size text) notes more = refl
instances_none counter action (instance.Meter size m text) notes more = refl

top_none : (counter action : Name) (ds : List Decl16) → list_any (is_counted_by counter action) (map top_name ds ++ built_in) ≡ false
top_none counter action [] = refl
top_none counter action (decl.Header h ∷ ds) = top_none counter action ds
top_none counter action (decl.Struct x ∷ ds) = top_none counter action ds
top_none counter action (decl.Instance notes i ∷ ds) = instances_none counter action i notes (map top_name ds ++ built_in) ∙ top_none counter action ds
top_none counter action (decl.Parser p ∷ ds) = top_none counter action ds
top_none counter action (decl.Control c ∷ ds) = top_none counter action ds

states_none : (counter action : Name) (xs : List State) → list_any (is_counted_by counter action) (map known_state xs) ≡ false
states_none counter action [] = refl
states_none counter action (x ∷ xs) = states_none counter action xs

none_of : (names : Known → Bool) (xs ys : List Known) → list_any names xs ≡ false → list_any names ys ≡ false → list_any names (xs ++ ys) ≡ false
none_of test xs ys e f = list_any-append test xs ys ∙ or_both (list_any test xs) (list_any test ys) false false e f

params_none : (names : List Known) (counter action : Name) (ps : List Param) → list_any (is_counted_by counter action) (map (known_parameter names) ps) ≡ false
params_none names counter action [] = refl
params_none names counter action (p ∷ ps) = params_none names counter action ps

vars_none : (names : List Known) (counter action : Name) (vs : List Var) → list_any (is_counted_by counter action) (map (known_var names) vs) ≡ false
vars_none names counter action [] = refl
vars_none names counter action (v ∷ vs) = vars_none names counter action vs

abbrev none : Name → Name → Bool
none counter action = false

parser_none : (ds : List Decl16) (positions : List ℕ) (p : Parser16) → Agrees none (parser_scope (top_scope ds positions) p)
parser_none ds positions p counter action =
    none_of (is_counted_by counter action) (map (known_parameter (top_names ds)) p.parameters ++ map (known_var (top_names ds)) p.vars ++ map known_state p.states) (top_names ds)
    (none_of (is_counted_by counter action) (map (known_parameter (top_names ds)) p.parameters ++ map (known_var (top_names ds)) p.vars) (map known_state p.states)
    (none_of (is_counted_by counter action) (map (known_parameter (top_names ds)) p.parameters) (map (known_var (top_names ds)) p.vars) (params_none (top_names ds) counter action p.parameters) (vars_none (top_names ds) counter action p.vars))
    (states_none counter action p.states))
    (top_none counter action ds)

local_instances : (names : List Known) (counter action : Name) (i : Instance) (notes : List Note) (more : List Known) → list_any (is_counted_by counter action) (known_local names (local.Instance notes i) ∷ more) ≡ list_any (is_counted_by counter action) more
local_instances names counter action (instance.Counter size m text) notes more = refl
local_instances names counter action (instance.DirectCounter m text) notes more = refl
local_instances names counter action (instance.Register width size text) notes more = refl
local_instances names counter action (instance.Meter size m text) notes more = refl

locals_are : (names : List Known) (counter action : Name) (xs : List Local) → list_any (is_counted_by counter action) (map (known_local names) xs) ≡ list_any (is_counter_of counter action) (filter_map table_in xs)
locals_are names counter action [] = refl
locals_are names counter action (local.Instance notes i ∷ xs) = local_instances names counter action i notes (map (known_local names) xs) ∙ locals_are names counter action xs
locals_are names counter action (local.Var v ∷ xs) = locals_are names counter action xs
locals_are names counter action (local.Action a ∷ xs) = locals_are names counter action xs
locals_are names counter action (local.Table t ∷ xs) = ap (λ (b : Bool). is_counter_of counter action t || b) (locals_are names counter action xs)

control_has : (ds : List Decl16) (positions : List ℕ) (c : Control16) → Agrees (counts_in_decl (decl.Control c)) (control_scope (top_scope ds positions) c)
control_has ds positions c counter action =
    list_any-append (is_counted_by counter action) (map (known_parameter (top_names ds)) c.parameters ++ map (known_local (top_names ds)) c.locals) (top_names ds)
    ∙ (or_both (list_any (is_counted_by counter action) (map (known_parameter (top_names ds)) c.parameters ++ map (known_local (top_names ds)) c.locals)) (list_any (is_counted_by counter action) (top_names ds))
    (list_any (is_counter_of counter action) (tables_in c)) false
    (list_any-append (is_counted_by counter action) (map (known_parameter (top_names ds)) c.parameters) (map (known_local (top_names ds)) c.locals)
    ∙ or_both (list_any (is_counted_by counter action) (map (known_parameter (top_names ds)) c.parameters)) (list_any (is_counted_by counter action) (map (known_local (top_names ds)) c.locals)) false
    (list_any (is_counter_of counter action) (tables_in c)) (params_none (top_names ds) counter action c.parameters) (locals_are (top_names ds) counter action c.locals))
    (top_none counter action ds)
    ∙ or_false (list_any (is_counter_of counter action) (tables_in c)))

declaration_agrees : (ds : List Decl16) (positions : List ℕ) (d : Decl16) → AllAgree (counts_in_decl d) (declaration_uses (top_scope ds positions) d)
declaration_agrees ds positions (decl.Header h) = (_, (_, each none field_width (λ f. _) h.fields))
declaration_agrees ds positions (decl.Struct x) = (
  _,
  flat none (struct_field_uses (top_scope ds positions))
      (λ f. both none (note_uses f.notes) (type_uses (top_scope ds positions) of_field f.of) (notes_agree none f.notes) (types_agree none (top_scope ds positions) of_field f.of)) x.fields,
)
declaration_agrees ds positions (decl.Instance notes i) = object_agrees none (top_scope ds positions) (λ counter action. top_none counter action ds) notes i
declaration_agrees ds positions (decl.Parser p) = parser_agrees none (top_scope ds positions) p (parser_none ds positions p)
declaration_agrees ds positions (decl.Control c) = control_agrees (counts_in_decl (decl.Control c)) (top_scope ds positions) c (control_has ds positions c)

-- what a declaration counts outside of its tables is told by what it counts
pub counted_is : (ds : List Decl16) (positions : List ℕ) (d : Decl16) → list_any is_counted_use (declaration_uses (top_scope ds positions) d) ≡ list_any (is_outside (counts_in_decl d)) (flat_map counted_of (declaration_uses (top_scope ds positions) d))
counted_is ds positions d = uses_are (counts_in_decl d) (declaration_uses (top_scope ds positions) d) (declaration_agrees ds positions d)
