-- What is called by a name within a control is the first of its actions with this name.
use Rattle.std.proofs.Common.{◌≡◌, ◌≢◌, ◌⊎◌, inl, inr, ℕ, suc, ◌+◌, ◌||◌, Bool, true, false, cond, Option, Some, None, IfSome, List, [], ◌∷◌, ◌++◌, length, map, refl, sym, ap, ◌∙◌, subst, append_assoc}
use Rattle.std.specs.Prelude.{filter_map, flat_map}
use Rattle.std.specs.List.{list_any}
use Rattle.std.specs.Str.{bytes_eq}
use Rattle.p416_syntax.specs.declared.parts.Direction.{Direction}
use Rattle.p416_syntax.specs.declared.parts.Direction.TheVariants.{In, Out, InOut}
use Rattle.p416_syntax.specs.declared.parts.Type16.{Type16}
use Rattle.p416_syntax.specs.declared.parts.Type16.TheVariants as type16
use Rattle.p416_syntax.specs.declared.parts.Param.{Param}
use Rattle.p416_syntax.specs.declared.controls.Instance.{Instance}
use Rattle.p416_syntax.specs.declared.controls.Instance.TheVariants as instance
use Rattle.p416_syntax.specs.declared.controls.Action16.{Action16}
use Rattle.p416_syntax.specs.declared.controls.Local.{Local}
use Rattle.p416_syntax.specs.declared.controls.Local.TheVariants as local
use Rattle.p416_syntax.specs.declared.program.Decl16.{Decl16}
use Rattle.p416_syntax.specs.declared.program.Decl16.TheVariants as decl
use Rattle.p416_syntax.specs.Tree.{Stmt16, no_statements, then, block as block_of, empty, var, var_is, assign, expression, if_then, if_else, switch, no_cases, case_of}
use Rattle.p416_syntax.specs.Names.{Name, has_name, repeats}
use Rattle.p416_syntax.specs.Kinds.{Kind, bits, unsized, boolean, error_code, header, stack, struct, packet_in, packet_out, errors, enumeration, one_of, table, applied, object, items, nothing, unknown}
use Rattle.p416_syntax.specs.Scopes.{Sort, a_type, a_value, an_enumeration, a_function, an_object, an_action, a_table, a_state, a_block, undeclared, Handed, handed, Known, known, sort_in, Scope, type_sort, stack_kind, kind_of_type, known_parameter, is_written}
use Rattle.p416_syntax.specs.BuiltIn.{built_in}
use Rattle.p416_syntax.specs.Statements.{behind}
use Rattle.p416_syntax.specs.Scopes.{called_of}
use Rattle.p416_syntax.specs.Uses.{Use, names_of_scope, some_parameters, some_counters, of_action_parameter, of_block_parameter}
use Rattle.p416_syntax.specs.Unknown.{is_misnamed}
use Rattle.p416_syntax.specs.Breaks.{scope_of}
use Rattle.p416_syntax.specs.Declarations.{parameter_name, parameter_uses, note_uses, body_uses, instance_sort, top_name, top_names, known_local, action_in, action_uses, local_uses, control_uses, tables_in, counters_in, control_names, top_scope, control_scope, action_scope}
use Rattle.v1_ready_laws.proofs.Rules.{front_none, rest_none}
use Rattle.v1_block_laws.specs.Variables.{is_control, scope_in_control}
use Rattle.v1_block_laws.proofs.Accepted.{names_kept, none_within}
use Rattle.v1_block_laws.proofs.Blocks.{control_declared}
use Rattle.v1_core.specs.Slots.{local_kinds}
use Rattle.v1_core.specs.Surroundings.{action_called, action_named}
use Rattle.v1_core.specs.Seats.{Content, slot_form, no_form, form_of}
use Rattle.v1_ready_statements.specs.Around.{Found, ActionPlace, action_places, found_from, action_found}
use Rattle.v1_ready_statements.specs.Given.{is_back}
use Rattle.v1_call_laws.specs.Calling.{IsNamedKind, SortPlain, NamesPlain}
use Rattle.v1_call_laws.specs.Handing.{AreHanded, NoneIsCalled, NamesDiffer}
use Rattle.v1_call_laws.specs.Declared.{IsValue, AreValues, IsWithin, ScopesWithin, IsAmong, ActionsDeclared, ParametersDiffer, DistinctParameters}
use Rattle.v1_call_laws.proofs.Plain.{top_is_plain, control_is_plain}

-- scopes

parameters_values : (names : List Known) (ps : List Param) → AreValues (map (known_parameter names) ps)
parameters_values names [] = tt
parameters_values names (p ∷ ps) = (tt, parameters_values names ps)

one_within : (block s : Scope) (k : Known) (t : Scope) → IsValue k.sort → t.names ≡ k ∷ s.names → IsWithin block s → IsWithin block t
one_within block s k t is names h = record {
  front = k ∷ h.front;
  names = names ∙ ap (λ (ks : List Known). k ∷ ks) h.names;
  values = (is, h.values);
}

behind_within : (block s : Scope) (x : Stmt16) → IsWithin block s → IsWithin block (behind x s)
behind_within block s no_statements h = h
behind_within block s ((then) before last) h = behind_within block (behind before s) last (behind_within block s before h)
behind_within block s (block_of body) h = h
behind_within block s empty h = h
behind_within block s (var t called) h = one_within block s (known (a_value (kind_of_type s.names t) true) called) (behind (var t called) s) tt refl h
behind_within block s (var_is t called e) h = one_within block s (known (a_value (kind_of_type s.names t) true) called) (behind (var_is t called e) s) tt refl h
behind_within block s (assign target e) h = h
behind_within block s (expression e) h = h
behind_within block s (if_then c positive) h = h
behind_within block s (if_else c positive negative) h = h
behind_within block s (switch named cases) h = h
behind_within block s no_cases h = h
behind_within block s (case_of before l body) h = h

pub scopes_within : ScopesWithin
scopes_within block = (
  record { front = []; names = refl; values = tt },
  (λ a. record { front = map (known_parameter block.names) a.parameters; names = refl; values = parameters_values block.names a.parameters }),
  (λ s x h. behind_within block s x h),
)

-- names in front that are no actions

abbrev NoAction : Sort → Type 0
NoAction (an_action plane hs) = ⊥
NoAction sort = Unit {0}

no_action : (x : Sort) (plane : Name) (hs : List Handed) → NoAction x → x ≡ an_action plane hs → ⊥
no_action (a_type k) plane hs free is = cc is
no_action (a_value k can) plane hs free is = cc is
no_action (an_enumeration enum) plane hs free is = cc is
no_action a_function plane hs free is = cc is
no_action (an_object obj) plane hs free is = cc is
no_action (an_action p qs) plane hs free is = free
no_action (a_table actions counters) plane hs free is = cc is
no_action a_state plane hs free is = cc is
no_action a_block plane hs free is = cc is
no_action undeclared plane hs free is = cc is

value_no_action : (x : Sort) → IsValue x → NoAction x
value_no_action (a_type k) h = tt
value_no_action (a_value k can) h = tt
value_no_action (an_enumeration enum) h = tt
value_no_action a_function h = tt
value_no_action (an_object obj) h = tt
value_no_action (an_action p qs) h = absurd h
value_no_action (a_table actions counters) h = tt
value_no_action a_state h = tt
value_no_action a_block h = tt
value_no_action undeclared h = tt

abbrev NoActions : List Known → Type 0
NoActions [] = Unit {0}
NoActions (k ∷ ks) = NoAction k.sort × NoActions ks

values_no_actions : (ks : List Known) → AreValues ks → NoActions ks
values_no_actions [] h = tt
values_no_actions (k ∷ ks) h = (value_no_action k.sort h.0, values_no_actions ks h.1)

past : (ks names : List Known) (text plane : Name) (hs : List Handed) → NoActions ks → sort_in (ks ++ names) text ≡ an_action plane hs → sort_in names text ≡ an_action plane hs
past [] names text plane hs h is = is
past (k ∷ ks) names text plane hs h is = by (bytes_eq k.called text) is (past ks names text plane hs h.1) where
  by : (t : Bool) → cond t k.sort (sort_in (ks ++ names) text) ≡ an_action plane hs → (sort_in (ks ++ names) text ≡ an_action plane hs → sort_in names text ≡ an_action plane hs) → sort_in names text ≡ an_action plane hs
  by true e f = absurd (no_action k.sort plane hs h.0 e)
  by false e f = f e

-- no action is declared at the top

instance_no_action : (i : Instance) → NoAction (instance_sort i)
instance_no_action (instance.Counter size m called) = tt
instance_no_action (instance.DirectCounter m called) = tt
instance_no_action (instance.Register width size called) = tt
instance_no_action (instance.Meter size m called) = tt

tops_no_actions : (ds : List Decl16) → NoActions (map top_name ds)
tops_no_actions [] = tt
tops_no_actions ((decl.Header h) ∷ ds) = (tt, tops_no_actions ds)
tops_no_actions ((decl.Struct x) ∷ ds) = (tt, tops_no_actions ds)
tops_no_actions ((decl.Instance notes i) ∷ ds) = (instance_no_action i, tops_no_actions ds)
tops_no_actions ((decl.Parser p) ∷ ds) = (tt, tops_no_actions ds)
tops_no_actions ((decl.Control c) ∷ ds) = (tt, tops_no_actions ds)

none_in : (ks : List Known) (text plane : Name) (hs : List Handed) → NoActions ks → sort_in ks text ≡ an_action plane hs → ⊥
none_in [] text plane hs h is = cc is
none_in (k ∷ ks) text plane hs h is = by (bytes_eq k.called text) is (none_in ks text plane hs h.1) where
  by : (t : Bool) → cond t k.sort (sort_in ks text) ≡ an_action plane hs → (sort_in ks text ≡ an_action plane hs → ⊥) → ⊥
  by true e f = no_action k.sort plane hs h.0 e
  by false e f = f e

none_at_top : (ds : List Decl16) (text plane : Name) (hs : List Handed) → sort_in (top_names ds) text ≡ an_action plane hs → ⊥
none_at_top ds text plane hs is = none_in built_in text plane hs (tt, (tt, (tt, (tt, (tt, (tt, (tt, (tt, (tt, (tt, (tt, (tt, (tt, (tt, (tt, (tt, tt)))))))))))))))) (past (map top_name ds) built_in text plane hs (tops_no_actions ds) is)

-- the first action with this name

record IsFirst (block : Scope) (names : List Known) (locals : List Local) (n i : ℕ) (text : Name) (hs : List Handed) : Type 0 where
  found : Found
  at : found_from i (action_places block n locals) text ≡ Some found
  named : action_called (filter_map action_in locals) text ≡ Some found.place.of
  handed_is : hs ≡ map (handed names) found.place.of.parameters
  among : IsAmong found.place.of locals

same_handed : (p q : Name) (gs hs : List Handed) → an_action p gs ≡ an_action q hs → gs ≡ hs
same_handed p q gs hs is = let same : gs ≡ hs = cc is in same

-- what is no action stands in front
skipped : (block : Scope) (names : List Known) (x : Local) (locals : List Local) (n m i : ℕ) (text : Name) (hs : List Handed) → action_places block n (x ∷ locals) ≡ action_places block m locals → filter_map action_in (x ∷ locals) ≡ filter_map action_in locals → IsFirst block names locals m i text hs → IsFirst block names (x ∷ locals) n i text hs
skipped block names x locals n m i text hs places actions h = record {
  found = h.found;
  at = ap (λ (l : List ActionPlace). found_from i l text) places ∙ h.at;
  named = ap (λ (l : List Action16). action_called l text) actions ∙ h.named;
  handed_is = h.handed_is;
  among = inr h.among;
}

no_one : (block : Scope) (names rest : List Known) (text plane : Name) (hs : List Handed) (x : Local) (locals : List Local) (n i : ℕ) → NoAction (known_local names x).sort → action_places block n (x ∷ locals) ≡ action_places block (n + length (local_kinds block x)) locals → filter_map action_in (x ∷ locals) ≡ filter_map action_in locals → sort_in (known_local names x ∷ map (known_local names) locals ++ rest) text ≡ an_action plane hs → (sort_in (map (known_local names) locals ++ rest) text ≡ an_action plane hs → IsFirst block names locals (n + length (local_kinds block x)) i text hs) → IsFirst block names (x ∷ locals) n i text hs
no_one block names rest text plane hs x locals n i free places actions is f = skipped block names x locals n (n + length (local_kinds block x)) i text hs places actions (f (past (known_local names x ∷ []) (map (known_local names) locals ++ rest) text plane hs (free, tt) is))

first : (block : Scope) (names rest : List Known) (text plane : Name) (hs : List Handed) → (sort_in rest text ≡ an_action plane hs → ⊥) → (locals : List Local) (n i : ℕ) → sort_in (map (known_local names) locals ++ rest) text ≡ an_action plane hs → IsFirst block names locals n i text hs
first block names rest text plane hs none [] n i is = absurd (none is)
first block names rest text plane hs none ((local.Action a) ∷ locals) n i is = by (bytes_eq a.name text) refl is (first block names rest text plane hs none locals (n + length (local_kinds block (local.Action a))) (suc i)) where
  rest_names : List Known
  rest_names = map (known_local names) locals ++ rest

  places : List ActionPlace
  places = action_places block (n + length (local_kinds block (local.Action a))) locals

  here : Found
  here = record { number = i; place = record { of = a; first = n } }

  by : (t : Bool) → bytes_eq a.name text ≡ t → cond t (known_local names (local.Action a)).sort (sort_in rest_names text) ≡ an_action plane hs → (sort_in rest_names text ≡ an_action plane hs → IsFirst block names locals (n + length (local_kinds block (local.Action a))) (suc i) text hs) → IsFirst block names ((local.Action a) ∷ locals) n i text hs
  by true same e f = record {
    found = here;
    at = ap (λ (t : Bool). cond t (Some here) (found_from (suc i) places text)) same;
    named = ap (λ (t : Bool). cond t (Some a) (action_called (filter_map action_in locals) text)) same;
    handed_is = sym (action_handed e);
    among = inl refl;
  } where
    action_handed : (known_local names (local.Action a)).sort ≡ an_action plane hs → map (handed names) a.parameters ≡ hs
    action_handed is_so = let same_ones : map (handed names) a.parameters ≡ hs = cc is_so in same_ones
  by false same e f =
      let g : IsFirst block names locals (n + length (local_kinds block (local.Action a))) (suc i) text hs = f e in
      record {
        found = g.found;
        at = ap (λ (t : Bool). cond t (Some here) (found_from (suc i) places text)) same ∙ g.at;
        named = ap (λ (t : Bool). cond t (Some a) (action_called (filter_map action_in locals) text)) same ∙ g.named;
        handed_is = g.handed_is;
        among = inr g.among;
      }
first block names rest text plane hs none ((local.Instance notes (instance.Counter size m called)) ∷ locals) n i is = no_one block names rest text plane hs (local.Instance notes (instance.Counter size m called)) locals n i tt refl refl is (first block names rest text plane hs none locals (n + length (local_kinds block (local.Instance notes (instance.Counter size m called)))) i)
first block names rest text plane hs none ((local.Instance notes (instance.DirectCounter m called)) ∷ locals) n i is = no_one block names rest text plane hs (local.Instance notes (instance.DirectCounter m called)) locals n i tt refl refl is (first block names rest text plane hs none locals (n + length (local_kinds block (local.Instance notes (instance.DirectCounter m called)))) i)
first block names rest text plane hs none ((local.Instance notes (instance.Register width size called)) ∷ locals) n i is = no_one block names rest text plane hs (local.Instance notes (instance.Register width size called)) locals n i tt refl refl is (first block names rest text plane hs none locals (n + length (local_kinds block (local.Instance notes (instance.Register width size called)))) i)
first block names rest text plane hs none ((local.Instance notes (instance.Meter size m called)) ∷ locals) n i is = no_one block names rest text plane hs (local.Instance notes (instance.Meter size m called)) locals n i tt refl refl is (first block names rest text plane hs none locals (n + length (local_kinds block (local.Instance notes (instance.Meter size m called)))) i)
first block names rest text plane hs none ((local.Var v) ∷ locals) n i is = no_one block names rest text plane hs (local.Var v) locals n i tt refl refl is (first block names rest text plane hs none locals (n + length (local_kinds block (local.Var v))) i)
first block names rest text plane hs none ((local.Table y) ∷ locals) n i is = no_one block names rest text plane hs (local.Table y) locals n i tt refl refl is (first block names rest text plane hs none locals (n + length (local_kinds block (local.Table y))) i)

-- types by their names

abbrev NoType : Sort → Type 0
NoType (a_type k) = ⊥
NoType sort = Unit {0}

abbrev NoTypes : List Known → Type 0
NoTypes [] = Unit {0}
NoTypes (k ∷ ks) = NoType k.sort × NoTypes ks

no_type : (x : Sort) → NoType x → type_sort x ≡ unknown
no_type (a_type k) h = absurd h
no_type (a_value k can) h = refl
no_type (an_enumeration enum) h = refl
no_type a_function h = refl
no_type (an_object obj) h = refl
no_type (an_action p qs) h = refl
no_type (a_table actions counters) h = refl
no_type a_state h = refl
no_type a_block h = refl
no_type undeclared h = refl

both_none : (ks ls : List Known) → NoTypes ks → NoTypes ls → NoTypes (ks ++ ls)
both_none [] ls h g = g
both_none (k ∷ ks) ls h g = (h.0, both_none ks ls h.1 g)

parameters_none : (names : List Known) (ps : List Param) → NoTypes (map (known_parameter names) ps)
parameters_none names [] = tt
parameters_none names (p ∷ ps) = (tt, parameters_none names ps)

instance_none : (i : Instance) → NoType (instance_sort i)
instance_none (instance.Counter size m called) = tt
instance_none (instance.DirectCounter m called) = tt
instance_none (instance.Register width size called) = tt
instance_none (instance.Meter size m called) = tt

locals_none : (names : List Known) (locals : List Local) → NoTypes (map (known_local names) locals)
locals_none names [] = tt
locals_none names ((local.Instance notes i) ∷ locals) = (instance_none i, locals_none names locals)
locals_none names ((local.Var v) ∷ locals) = (tt, locals_none names locals)
locals_none names ((local.Action a) ∷ locals) = (tt, locals_none names locals)
locals_none names ((local.Table t) ∷ locals) = (tt, locals_none names locals)

-- what a type names behind others is the same, or nothing
same_type : (ks names : List Known) (text : Name) → NoTypes ks → (type_sort (sort_in (ks ++ names) text) ≡ unknown) ⊎ (type_sort (sort_in names text) ≡ type_sort (sort_in (ks ++ names) text))
same_type [] names text h = inr refl
same_type (k ∷ ks) names text h = by (bytes_eq k.called text) (same_type ks names text h.1) where
  by : (t : Bool) → (type_sort (sort_in (ks ++ names) text) ≡ unknown) ⊎ (type_sort (sort_in names text) ≡ type_sort (sort_in (ks ++ names) text)) → (type_sort (cond t k.sort (sort_in (ks ++ names) text)) ≡ unknown) ⊎ (type_sort (sort_in names text) ≡ type_sort (cond t k.sort (sort_in (ks ++ names) text)))
  by true g = inl (no_type k.sort h.0)
  by false g = g

same_kind : (ks names : List Known) (t : Type16) → NoTypes ks → form_of (kind_of_type (ks ++ names) t) ≢ no_form → kind_of_type names t ≡ kind_of_type (ks ++ names) t
same_kind ks names (type16.Bit width) h some = refl
same_kind ks names type16.Bool h some = refl
same_kind ks names (type16.Named text None) h some = by (same_type ks names text h) where
  by : (type_sort (sort_in (ks ++ names) text) ≡ unknown) ⊎ (type_sort (sort_in names text) ≡ type_sort (sort_in (ks ++ names) text)) → type_sort (sort_in names text) ≡ type_sort (sort_in (ks ++ names) text)
  by (inl is) = absurd (some (ap form_of is))
  by (inr is) = is
same_kind ks names (type16.Named text (Some size)) h some = by (same_type ks names text h) where
  by : (type_sort (sort_in (ks ++ names) text) ≡ unknown) ⊎ (type_sort (sort_in names text) ≡ type_sort (sort_in (ks ++ names) text)) → stack_kind size.value (type_sort (sort_in names text)) ≡ stack_kind size.value (type_sort (sort_in (ks ++ names) text))
  by (inl is) = absurd (some (ap (λ (k : Kind). form_of (stack_kind size.value k)) is))
  by (inr is) = ap (stack_kind size.value) is

-- single values have types without names

no_slot : (k : Kind) (of : Content) → IsNamedKind k → form_of k ≡ slot_form of → ⊥
no_slot (bits width) of h is = h
no_slot unsized of h is = h
no_slot boolean of h is = h
no_slot error_code of h is = h
no_slot (header type) of h is = cc is
no_slot (stack type size) of h is = h
no_slot (struct type) of h is = cc is
no_slot packet_in of h is = cc is
no_slot packet_out of h is = cc is
no_slot errors of h is = h
no_slot (enumeration enum) of h is = h
no_slot (one_of enum) of h is = h
no_slot table of h is = h
no_slot applied of h is = h
no_slot (object obj) of h is = h
no_slot items of h is = h
no_slot nothing of h is = h
no_slot unknown of h is = cc is

stack_no_slot : (size : ℕ) (k : Kind) (of : Content) → form_of (stack_kind size k) ≡ slot_form of → ⊥
stack_no_slot many (bits width) of is = cc is
stack_no_slot many unsized of is = cc is
stack_no_slot many boolean of is = cc is
stack_no_slot many error_code of is = cc is
stack_no_slot many (header type) of is = cc is
stack_no_slot many (stack type size) of is = cc is
stack_no_slot many (struct type) of is = cc is
stack_no_slot many packet_in of is = cc is
stack_no_slot many packet_out of is = cc is
stack_no_slot many errors of is = cc is
stack_no_slot many (enumeration enum) of is = cc is
stack_no_slot many (one_of enum) of is = cc is
stack_no_slot many table of is = cc is
stack_no_slot many applied of is = cc is
stack_no_slot many (object obj) of is = cc is
stack_no_slot many items of is = cc is
stack_no_slot many nothing of is = cc is
stack_no_slot many unknown of is = cc is

named_kind : (x : Sort) → SortPlain x → IsNamedKind (type_sort x)
named_kind (a_type k) h = h
named_kind (a_value k can) h = tt
named_kind (an_enumeration enum) h = tt
named_kind a_function h = tt
named_kind (an_object obj) h = tt
named_kind (an_action p qs) h = tt
named_kind (a_table actions counters) h = tt
named_kind a_state h = tt
named_kind a_block h = tt
named_kind undeclared h = tt

slot_type : (names others : List Known) (t : Type16) (of : Content) → ((text : Name) → SortPlain (sort_in names text)) → form_of (kind_of_type names t) ≡ slot_form of → kind_of_type others t ≡ kind_of_type names t
slot_type names others (type16.Bit width) of plain is = refl
slot_type names others type16.Bool of plain is = refl
slot_type names others (type16.Named text None) of plain is = absurd (no_slot (type_sort (sort_in names text)) of (named_kind (sort_in names text) (plain text)) is)
slot_type names others (type16.Named text (Some size)) of plain is = absurd (stack_no_slot size.value (type_sort (sort_in names text)) of is)

-- what parameters are handed

written_back : (d : Option Direction) → is_written d ≡ is_back d
written_back None = refl
written_back (Some In) = refl
written_back (Some Out) = refl
written_back (Some InOut) = refl

are_handed : (s block : Scope) (front names : List Known) → block.names ≡ front ++ names → NoTypes front → NamesPlain block → (ps : List Param) → AreHanded s block (map (handed names) ps) ps
are_handed s block front names is none plain [] = tt
are_handed s block front names is none plain (p ∷ ps) = (
  record {
    written = written_back p.direction;
    kind = λ some.
        same_kind front names p.of none (λ empty. some (ap (λ (ks : List Known). form_of (kind_of_type ks p.of)) is ∙ empty))
        ∙ ap (λ (ks : List Known). kind_of_type ks p.of) (sym is);
    named = λ of slot. slot_type block.names s.names p.of of plain.names slot;
  },
  are_handed s block front names is none plain ps,
)

-- names that don't repeat

first_off : (a b : Bool) → (a || b) ≡ false → a ≡ false
first_off true b is = absurd (cc is)
first_off false b is = refl

second_off : (a b : Bool) → (a || b) ≡ false → b ≡ false
second_off true b is = absurd (cc is)
second_off false b is = is

none_called : (text : Name) (ps : List Param) → list_any (bytes_eq text) (map parameter_name ps) ≡ false → NoneIsCalled text ps
none_called text [] is = tt
none_called text (p ∷ ps) is = (first_off (bytes_eq text p.name) (list_any (bytes_eq text) (map parameter_name ps)) is, none_called text ps (second_off (bytes_eq text p.name) (list_any (bytes_eq text) (map parameter_name ps)) is))

pub parameters_differ : ParametersDiffer
parameters_differ [] is = tt
parameters_differ (p ∷ ps) is =
    (none_called p.name ps (first_off (has_name (map parameter_name ps) p.name) (repeats (map parameter_name ps)) is), parameters_differ ps (second_off (has_name (map parameter_name ps) p.name) (repeats (map parameter_name ps)) is))

-- a name that is called

own_names : (t : Scope) (a : Action16) → list_any is_misnamed (action_uses t a) ≡ false → repeats (map parameter_name a.parameters) ≡ false
own_names t a none =
    let behind_them : List Use = some_parameters a.parameters ∷ flat_map (parameter_uses t of_action_parameter) a.parameters in
    let own : List Use = names_of_scope (map parameter_name a.parameters) ∷ behind_them in
    first_off (repeats (map parameter_name a.parameters)) (list_any is_misnamed behind_them) (rest_none is_misnamed (note_uses a.notes) own (front_none is_misnamed (note_uses a.notes ++ own) (body_uses (action_scope t a) 1 a.body) none))

among_differ : (t : Scope) (a : Action16) (locals : List Local) → IsAmong a locals → list_any is_misnamed (flat_map (local_uses t) locals) ≡ false → NamesDiffer a.parameters
among_differ t a [] h none = absurd h
among_differ t a (x ∷ locals) (inl is) none = parameters_differ a.parameters (own_names t a (subst (λ (y : Local). list_any is_misnamed (local_uses t y) ≡ false) is (front_none is_misnamed (local_uses t x) (flat_map (local_uses t) locals) none)))
among_differ t a (x ∷ locals) (inr h) none = among_differ t a locals h (rest_none is_misnamed (local_uses t x) (flat_map (local_uses t) locals) none)

pub distinct_parameters : DistinctParameters
distinct_parameters syntax block c a keeps found among =
    let s : Scope = scope_of syntax (decl.Control c) in
    let t : Scope = scope_in_control syntax c in
    let own : List Use = names_of_scope (map called_of (control_names (top_names syntax.decls) c)) ∷ some_counters (filter_map counters_in (tables_in c)) ∷ flat_map (parameter_uses s of_block_parameter) c.parameters in
    let of_locals : List Use = flat_map (local_uses t) c.locals in
    let kept : list_any is_misnamed (control_uses s c) ≡ false = none_within syntax (is_control c.name) is_misnamed (decl.Control c) (control_declared syntax block c found) (names_kept syntax keeps) in
    among_differ t a c.locals among (rest_none is_misnamed own of_locals (front_none is_misnamed (own ++ of_locals) (body_uses t 1 c.body) kept))

pub actions_declared : ActionsDeclared
actions_declared b w ds positions c n s text plane hs scope locals actions within is =
    subst (λ (o : Option Found). IfSome o (λ f. (action_named w.around text ≡ Some f.place.of) × AreHanded s w.around.scope hs f.place.of.parameters × IsAmong f.place.of c.locals)) (sym at)
    (ap (λ (l : List Local). action_called (filter_map action_in l) text) locals ∙ one.named, given, one.among) where
      top : Scope
      top = top_scope ds positions

      block : Scope
      block = control_scope top c

      inner : sort_in block.names text ≡ an_action plane hs
      inner = past within.front block.names text plane hs (values_no_actions within.front within.values) (ap (λ (ks : List Known). sort_in ks text) (sym within.names) ∙ is)

      one : IsFirst block top.names c.locals n 0 text hs
      one = first block top.names top.names text plane hs (none_at_top ds text plane hs) c.locals n 0
          (past (map (known_parameter top.names) c.parameters) (map (known_local top.names) c.locals ++ top.names) text plane hs (values_no_actions (map (known_parameter top.names) c.parameters) (parameters_values top.names c.parameters))
          (ap (λ (ks : List Known). sort_in ks text) (sym (append_assoc (map (known_parameter top.names) c.parameters) (map (known_local top.names) c.locals) top.names)) ∙ inner))

      at : action_found b text ≡ Some one.found
      at = ap (λ (l : List ActionPlace). found_from 0 l text) actions ∙ one.at

      given : AreHanded s w.around.scope hs one.found.place.of.parameters
      given = subst (λ (x : Scope). AreHanded s x hs one.found.place.of.parameters) (sym scope)
          (subst (λ (gs : List Handed). AreHanded s block gs one.found.place.of.parameters) (sym one.handed_is)
          (are_handed s block (control_names top.names c) top.names refl (both_none (map (known_parameter top.names) c.parameters) (map (known_local top.names) c.locals) (parameters_none top.names c.parameters) (locals_none top.names c.locals)) (control_is_plain top c (top_is_plain ds positions)) one.found.place.of.parameters))
