-- Where each header that is declared has something, so has each header at a seat.
use Rattle.std.proofs.Common.{◌≡◌, ℕ, zero, suc, ◌&&◌, Bool, true, false, cond, Option, Some, None, IfSome, List, [], ◌∷◌, ◌++◌, length, map, flat_map, filter_map, refl}
use Rattle.std.specs.List.{cons_option}
use Rattle.std.specs.Str.{bytes_eq}
use Rattle.p416_syntax.specs.declared.parts.Type16.{Type16}
use Rattle.p416_syntax.specs.declared.parts.Type16.TheVariants.{Bit, Bool as BoolType, Named}
use Rattle.p416_syntax.specs.declared.parts.BitField.{BitField}
use Rattle.p416_syntax.specs.declared.parts.StructField.{StructField}
use Rattle.p416_syntax.specs.declared.controls.Instance.{Instance}
use Rattle.p416_syntax.specs.declared.controls.Instance.TheVariants as instance
use Rattle.p416_syntax.specs.declared.program.Decl16.{Decl16}
use Rattle.p416_syntax.specs.declared.program.Decl16.TheVariants as decl
use Rattle.p416_syntax.specs.declared.program.Syntax16.{Syntax16}
use Rattle.p416_syntax.specs.Names.{Name}
use Rattle.p416_syntax.specs.Kinds.{Kind, bits, unsized, boolean, error_code, header, stack, struct, packet_in, packet_out, errors, enumeration, one_of, table, applied, object, items, nothing, unknown}
use Rattle.p416_syntax.specs.Scopes.{Layout as TypeLayout, FieldKind, fields_in, Sort, a_type, a_value, an_enumeration, a_function, an_object, an_action, a_table, a_state, a_block, undeclared, Known, known, Scope, sort_in, type_sort, stack_kind, kind_of_type, known_parameter}
use Rattle.p416_syntax.specs.BuiltIn.{functions, built_in, standard_layout}
use Rattle.p416_syntax.specs.Declarations.{instance_sort, top_name, top_names, bit_field, struct_field, layout_in, layouts_of, known_var, known_state, parser_names, parser_scope, action_scope, known_local, control_names, control_scope}
use Rattle.p416_syntax.specs.Breaks.{scope_of}
use Rattle.p416_syntax.specs.declared.parsers.Parser16.{Parser16}
use Rattle.p416_syntax.specs.declared.controls.Action16.{Action16}
use Rattle.p416_syntax.specs.declared.controls.Local.{Local}
use Rattle.p416_syntax.specs.declared.controls.Control16.{Control16}
use Rattle.p416_syntax.specs.declared.controls.Local.TheVariants as local
use Rattle.p416_syntax.specs.Tree.{Stmt16, no_statements, then, block, empty, var, var_is, assign, expression, if_then, if_else, switch, no_cases, case_of}
use Rattle.p416_syntax.specs.Statements.{behind, Visit, visit, visits}
use Rattle.p416_syntax.specs.Main.{headers_kind, metadata_kind, is_header_field, is_metadata_field, is_struct_where, are_headers, is_metadata, is_main}
use Rattle.v1_core.specs.Values.{Step, to_member, to_element}
use Rattle.v1_core.specs.Slots.{FramePart, declared_kind, visited_kind, kinds_in, var_kind, parameter_kind, state_kinds, local_kinds, kinds_of}
use Rattle.v1_core.specs.Seats.{Form, slot_form, header_form, stack_form, struct_form, no_form, form_of, Start, moved, behind as behind_form, Seat, seat, field_form, field_seat, member_seat, element_seat, stepped_seat, seat_behind, seat_at}
use Rattle.v1_core.specs.Programs.{frame_kinds, first_start, seat_in, owner_number, owner_seat, part_seat}

module _ (W : Name → Type 0) where
  abbrev pub KindWhole : Kind → Type 0
  KindWhole (header type) = W type
  KindWhole (stack type size) = W type
  KindWhole k = Unit {0}

  abbrev SortWhole : Sort → Type 0
  SortWhole (a_type k) = KindWhole k
  SortWhole sort = Unit {0}

  abbrev AllWhole : List Known → Type 0
  AllWhole [] = Unit {0}
  AllWhole (k ∷ names) = SortWhole k.sort × AllWhole names

  found_whole : (names : List Known) (text : Name) → AllWhole names → SortWhole (sort_in names text)
  found_whole [] text whole = tt
  found_whole (k ∷ names) text whole = by (bytes_eq k.called text) (found_whole names text whole.1) where
    by : (b : Bool) → SortWhole (sort_in names text) → SortWhole (cond b k.sort (sort_in names text))
    by true rest = whole.0
    by false rest = rest

  sort_whole : (sort : Sort) → SortWhole sort → KindWhole (type_sort sort)
  sort_whole (a_type k) h = h
  sort_whole (a_value k can) h = tt
  sort_whole (an_enumeration enum) h = tt
  sort_whole a_function h = tt
  sort_whole (an_object kind) h = tt
  sort_whole (an_action plane handed) h = tt
  sort_whole (a_table actions counters) h = tt
  sort_whole a_state h = tt
  sort_whole a_block h = tt
  sort_whole undeclared h = tt

  stack_whole : (size : ℕ) (k : Kind) → KindWhole k → KindWhole (stack_kind size k)
  stack_whole size (bits width) h = tt
  stack_whole size unsized h = tt
  stack_whole size boolean h = tt
  stack_whole size error_code h = tt
  stack_whole size (header type) h = h
  stack_whole size (stack type many) h = tt
  stack_whole size (struct type) h = tt
  stack_whole size packet_in h = tt
  stack_whole size packet_out h = tt
  stack_whole size errors h = tt
  stack_whole size (enumeration enum) h = tt
  stack_whole size (one_of enum) h = tt
  stack_whole size table h = tt
  stack_whole size applied h = tt
  stack_whole size (object obj) h = tt
  stack_whole size items h = tt
  stack_whole size nothing h = tt
  stack_whole size unknown h = tt

  type_whole : (names : List Known) (of : Type16) → AllWhole names → KindWhole (kind_of_type names of)
  type_whole names (Bit w) whole = tt
  type_whole names BoolType whole = tt
  type_whole names (Named text None) whole = sort_whole (sort_in names text) (found_whole names text whole)
  type_whole names (Named text (Some size)) whole = stack_whole size.value (type_sort (sort_in names text)) (sort_whole (sort_in names text) (found_whole names text whole))

  -- the headers among these are such

  abbrev pub HeadersAre : List Decl16 → Type 0
  HeadersAre [] = Unit {0}
  HeadersAre (decl.Header h ∷ ds) = W h.name × HeadersAre ds
  HeadersAre (decl.Struct x ∷ ds) = HeadersAre ds
  HeadersAre (decl.Instance notes i ∷ ds) = HeadersAre ds
  HeadersAre (decl.Parser p ∷ ds) = HeadersAre ds
  HeadersAre (decl.Control c ∷ ds) = HeadersAre ds

  instance_whole : (i : Instance) → SortWhole (instance_sort i)
  instance_whole (instance.Counter size m text) = tt
  instance_whole (instance.DirectCounter m text) = tt
  instance_whole (instance.Register width size text) = tt
  instance_whole (instance.Meter size m text) = tt

  functions_whole : (names : List Name) → AllWhole (map (known a_function) names)
  functions_whole [] = tt
  functions_whole (text ∷ names) = (tt, functions_whole names)

  built_whole : AllWhole built_in
  built_whole = (tt, (tt, (tt, (tt, (tt, (tt, (tt, functions_whole functions)))))))

  top_whole : (ds : List Decl16) → HeadersAre ds → AllWhole (map top_name ds ++ built_in)
  top_whole [] h = built_whole
  top_whole (decl.Header x ∷ ds) h = (h.0, top_whole ds h.1)
  top_whole (decl.Struct x ∷ ds) h = (tt, top_whole ds h)
  top_whole (decl.Instance notes i ∷ ds) h = (instance_whole i, top_whole ds h)
  top_whole (decl.Parser p ∷ ds) h = (tt, top_whole ds h)
  top_whole (decl.Control c ∷ ds) h = (tt, top_whole ds h)

  -- fields of types

  abbrev FieldsWhole : List FieldKind → Type 0
  FieldsWhole [] = Unit {0}
  FieldsWhole (f ∷ fields) = KindWhole f.kind × FieldsWhole fields

  abbrev LayoutsWhole : List TypeLayout → Type 0
  LayoutsWhole [] = Unit {0}
  LayoutsWhole (l ∷ layouts) = FieldsWhole l.fields × LayoutsWhole layouts

  layouts_joined : (front back : List TypeLayout) → LayoutsWhole front → LayoutsWhole back → LayoutsWhole (front ++ back)
  layouts_joined [] back x y = y
  layouts_joined (l ∷ front) back x y = (x.0, layouts_joined front back x.1 y)

  bit_fields_whole : (fields : List BitField) → FieldsWhole (map bit_field fields)
  bit_fields_whole [] = tt
  bit_fields_whole (f ∷ fields) = (tt, bit_fields_whole fields)

  struct_fields_whole : (names : List Known) (fields : List StructField) → AllWhole names → FieldsWhole (map (struct_field names) fields)
  struct_fields_whole names [] whole = tt
  struct_fields_whole names (f ∷ fields) whole = (type_whole names f.of whole, struct_fields_whole names fields whole)

  layout_whole : (names : List Known) (d : Decl16) → AllWhole names → LayoutsWhole (layout_in names d)
  layout_whole names (decl.Header h) whole = (bit_fields_whole h.fields, tt)
  layout_whole names (decl.Struct x) whole = (struct_fields_whole names x.fields whole, tt)
  layout_whole names (decl.Instance notes i) whole = tt
  layout_whole names (decl.Parser p) whole = tt
  layout_whole names (decl.Control c) whole = tt

  all_layouts : (names : List Known) (ds : List Decl16) → AllWhole names → LayoutsWhole (flat_map (layout_in names) ds)
  all_layouts names [] whole = tt
  all_layouts names (d ∷ ds) whole = layouts_joined (layout_in names d) (flat_map (layout_in names) ds) (layout_whole names d whole) (all_layouts names ds whole)

  layouts_whole : (ds : List Decl16) → HeadersAre ds → LayoutsWhole (layouts_of ds)
  layouts_whole ds h = layouts_joined (flat_map (layout_in (top_names ds)) ds) (standard_layout ∷ []) (all_layouts (top_names ds) ds (top_whole ds h)) ((tt, (tt, (tt, (tt, (tt, (tt, (tt, tt))))))), tt)

  fields_whole : (layouts : List TypeLayout) (type : Name) → LayoutsWhole layouts → FieldsWhole (fields_in layouts type)
  fields_whole [] type whole = tt
  fields_whole (l ∷ layouts) type whole = by (bytes_eq l.called type) (fields_whole layouts type whole.1) where
    by : (b : Bool) → FieldsWhole (fields_in layouts type) → FieldsWhole (cond b l.fields (fields_in layouts type))
    by true rest = whole.0
    by false rest = rest

  -- variables

  abbrev KindsWhole : List Kind → Type 0
  KindsWhole [] = Unit {0}
  KindsWhole (k ∷ kinds) = KindWhole k × KindsWhole kinds

  names_joined : (front back : List Known) → AllWhole front → AllWhole back → AllWhole (front ++ back)
  names_joined [] back x y = y
  names_joined (k ∷ front) back x y = (x.0, names_joined front back x.1 y)

  all_mapped : {X : Type 0} (f : X → Known) → ((x : X) → SortWhole (f x).sort) → (xs : List X) → AllWhole (map f xs)
  all_mapped f each [] = tt
  all_mapped f each (x ∷ xs) = (each x, all_mapped f each xs)

  local_name_whole : (names : List Known) (x : Local) → SortWhole (known_local names x).sort
  local_name_whole names (local.Instance notes i) = instance_whole i
  local_name_whole names (local.Var v) = tt
  local_name_whole names (local.Action a) = tt
  local_name_whole names (local.Table t) = tt

  parser_names_whole : (s : Scope) (p : Parser16) → AllWhole s.names → AllWhole (parser_scope s p).names
  parser_names_whole s p whole =
      names_joined (parser_names s.names p) s.names
      (names_joined (map (known_parameter s.names) p.parameters ++ map (known_var s.names) p.vars) (map known_state p.states)
      (names_joined (map (known_parameter s.names) p.parameters) (map (known_var s.names) p.vars) (all_mapped (known_parameter s.names) (λ x. tt) p.parameters) (all_mapped (known_var s.names) (λ x. tt) p.vars))
      (all_mapped known_state (λ x. tt) p.states)) whole

  control_names_whole : (s : Scope) (c : Control16) → AllWhole s.names → AllWhole (control_scope s c).names
  control_names_whole s c whole =
      names_joined (control_names s.names c) s.names
      (names_joined (map (known_parameter s.names) c.parameters) (map (known_local s.names) c.locals) (all_mapped (known_parameter s.names) (λ x. tt) c.parameters) (all_mapped (known_local s.names) (local_name_whole s.names) c.locals)) whole

  action_names_whole : (s : Scope) (a : Action16) → AllWhole s.names → AllWhole (action_scope s a).names
  action_names_whole s a whole = names_joined (map (known_parameter s.names) a.parameters) s.names (all_mapped (known_parameter s.names) (λ x. tt) a.parameters) whole

  kinds_joined : (front back : List Kind) → KindsWhole front → KindsWhole back → KindsWhole (front ++ back)
  kinds_joined [] back x y = y
  kinds_joined (k ∷ front) back x y = (x.0, kinds_joined front back x.1 y)

  each_whole : {X : Type 0} (kinds : X → List Kind) → ((x : X) → KindsWhole (kinds x)) → (xs : List X) → KindsWhole (flat_map kinds xs)
  each_whole kinds each [] = tt
  each_whole kinds each (x ∷ xs) = kinds_joined (kinds x) (flat_map kinds xs) (each x) (each_whole kinds each xs)

  one_whole : {X : Type 0} (kind : X → Kind) → ((x : X) → KindWhole (kind x)) → (xs : List X) → KindsWhole (map kind xs)
  one_whole kind each [] = tt
  one_whole kind each (x ∷ xs) = (each x, one_whole kind each xs)

  abbrev VisitsWhole : List Visit → Type 0
  VisitsWhole [] = Unit {0}
  VisitsWhole (v ∷ more) = AllWhole v.scope.names × VisitsWhole more

  visits_joined : (front back : List Visit) → VisitsWhole front → VisitsWhole back → VisitsWhole (front ++ back)
  visits_joined [] back x y = y
  visits_joined (v ∷ front) back x y = (x.0, visits_joined front back x.1 y)

  behind_whole : (x : Stmt16) (s : Scope) → AllWhole s.names → AllWhole (behind x s).names
  behind_whole no_statements s whole = whole
  behind_whole ((then) before last) s whole = behind_whole last (behind before s) (behind_whole before s whole)
  behind_whole (block body) s whole = whole
  behind_whole empty s whole = whole
  behind_whole (var t called) s whole = (tt, whole)
  behind_whole (var_is t called e) s whole = (tt, whole)
  behind_whole (assign e g) s whole = whole
  behind_whole (expression e) s whole = whole
  behind_whole (if_then d positive) s whole = whole
  behind_whole (if_else d positive negative) s whole = whole
  behind_whole (switch text cases) s whole = whole
  behind_whole no_cases s whole = whole
  behind_whole (case_of before label body) s whole = whole

  visits_whole : (s : Scope) (x : Stmt16) → AllWhole s.names → VisitsWhole (visits s x)
  visits_whole s no_statements whole = tt
  visits_whole s ((then) before last) whole = visits_joined (visits s before) (visits (behind before s) last) (visits_whole s before whole) (visits_whole (behind before s) last (behind_whole before s whole))
  visits_whole s (block body) whole = (whole, visits_whole s body whole)
  visits_whole s empty whole = (whole, tt)
  visits_whole s (var t called) whole = (whole, tt)
  visits_whole s (var_is t called e) whole = (whole, tt)
  visits_whole s (assign e g) whole = (whole, tt)
  visits_whole s (expression e) whole = (whole, tt)
  visits_whole s (if_then d positive) whole = (whole, visits_whole s positive whole)
  visits_whole s (if_else d positive negative) whole = (whole, visits_joined (visits s positive) (visits s negative) (visits_whole s positive whole) (visits_whole s negative whole))
  visits_whole s (switch text cases) whole = (whole, visits_whole s cases whole)
  visits_whole s no_cases whole = tt
  visits_whole s (case_of before label body) whole = visits_joined (visits s before) (visit s (case_of before label body) ∷ visits s body) (visits_whole s before whole) (whole, visits_whole s body whole)

  statement_whole : (s : Scope) (x : Stmt16) (rest : List Kind) → AllWhole s.names → KindsWhole rest → KindsWhole (cons_option (declared_kind s x) rest)
  statement_whole s no_statements rest whole rest_whole = rest_whole
  statement_whole s ((then) before last) rest whole rest_whole = rest_whole
  statement_whole s (block body) rest whole rest_whole = rest_whole
  statement_whole s empty rest whole rest_whole = rest_whole
  statement_whole s (var t called) rest whole rest_whole = (type_whole s.names t whole, rest_whole)
  statement_whole s (var_is t called e) rest whole rest_whole = (type_whole s.names t whole, rest_whole)
  statement_whole s (assign e g) rest whole rest_whole = rest_whole
  statement_whole s (expression e) rest whole rest_whole = rest_whole
  statement_whole s (if_then d positive) rest whole rest_whole = rest_whole
  statement_whole s (if_else d positive negative) rest whole rest_whole = rest_whole
  statement_whole s (switch text cases) rest whole rest_whole = rest_whole
  statement_whole s no_cases rest whole rest_whole = rest_whole
  statement_whole s (case_of before label body) rest whole rest_whole = rest_whole

  kinds_visited : (all : List Visit) → VisitsWhole all → KindsWhole (filter_map visited_kind all)
  kinds_visited [] whole = tt
  kinds_visited (v ∷ more) whole = statement_whole v.scope v.of (filter_map visited_kind more) whole.0 (kinds_visited more whole.1)

  body_whole : (s : Scope) (body : Stmt16) → AllWhole s.names → KindsWhole (kinds_in s body)
  body_whole s body whole = kinds_visited (visits s body) (visits_whole s body whole)

  local_whole : (s : Scope) (x : Local) → AllWhole s.names → KindsWhole (local_kinds s x)
  local_whole s (local.Instance notes i) whole = tt
  local_whole s (local.Var v) whole = (type_whole s.names v.of whole, tt)
  local_whole s (local.Action a) whole =
      kinds_joined (map (parameter_kind s) a.parameters) (kinds_in (action_scope s a) a.body) (one_whole (parameter_kind s) (λ p. type_whole s.names p.of whole) a.parameters)
      (body_whole (action_scope s a) a.body (action_names_whole s a whole))
  local_whole s (local.Table t) whole = tt

  declared_whole : (syntax : Syntax16) (d : Decl16) → HeadersAre syntax.decls → KindsWhole (kinds_of syntax d)
  declared_whole syntax (decl.Header x) h = tt
  declared_whole syntax (decl.Struct x) h = tt
  declared_whole syntax (decl.Instance notes i) h = tt
  declared_whole syntax (decl.Parser p) h =
      let s : Scope = scope_of syntax (decl.Parser p) in
      let t : Scope = parser_scope s p in
      let whole : AllWhole t.names = parser_names_whole s p (top_whole syntax.decls h) in
      kinds_joined (map (var_kind t) p.vars) (flat_map (state_kinds t) p.states) (one_whole (var_kind t) (λ v. type_whole t.names v.of whole) p.vars)
      (each_whole (state_kinds t) (λ x. body_whole t x.body whole) p.states)
  declared_whole syntax (decl.Control c) h =
      let s : Scope = scope_of syntax (decl.Control c) in
      let t : Scope = control_scope s c in
      let whole : AllWhole t.names = control_names_whole s c (top_whole syntax.decls h) in
      kinds_joined (flat_map (local_kinds t) c.locals) (kinds_in t c.body) (each_whole (local_kinds t) (λ x. local_whole t x whole) c.locals) (body_whole t c.body whole)

  struct_whole : (test : FieldKind → Bool) (layouts : List TypeLayout) (k : Kind) → is_struct_where test layouts k ≡ true → KindWhole k
  struct_whole test layouts (bits width) is = tt
  struct_whole test layouts unsized is = tt
  struct_whole test layouts boolean is = tt
  struct_whole test layouts error_code is = tt
  struct_whole test layouts (header type) is = absurd (cc is)
  struct_whole test layouts (stack type many) is = absurd (cc is)
  struct_whole test layouts (struct type) is = tt
  struct_whole test layouts packet_in is = tt
  struct_whole test layouts packet_out is = tt
  struct_whole test layouts errors is = tt
  struct_whole test layouts (enumeration enum) is = tt
  struct_whole test layouts (one_of enum) is = tt
  struct_whole test layouts table is = tt
  struct_whole test layouts applied is = tt
  struct_whole test layouts (object obj) is = tt
  struct_whole test layouts items is = tt
  struct_whole test layouts nothing is = tt
  struct_whole test layouts unknown is = tt

  left_true : (a b : Bool) → (a && b) ≡ true → a ≡ true
  left_true true b e = refl
  left_true false b e = absurd (cc e)

  right_true : (a b : Bool) → (a && b) ≡ true → b ≡ true
  right_true true b e = e
  right_true false b e = absurd (cc e)

  frame_whole : (syntax : Syntax16) → is_main syntax ≡ true → HeadersAre syntax.decls → KindsWhole (frame_kinds syntax)
  frame_whole syntax main h =
      let layouts = layouts_of syntax.decls in
      let both = right_true _ (are_headers layouts (headers_kind syntax) && is_metadata layouts (metadata_kind syntax)) main in (
        struct_whole is_header_field layouts (headers_kind syntax) (left_true (are_headers layouts (headers_kind syntax)) (is_metadata layouts (metadata_kind syntax)) both),
        (
          struct_whole (is_metadata_field layouts) layouts (metadata_kind syntax) (right_true (are_headers layouts (headers_kind syntax)) (is_metadata layouts (metadata_kind syntax)) both),
          (tt, each_whole (kinds_of syntax) (λ d. declared_whole syntax d h) syntax.decls),
        ),
      )

  -- at seats

  abbrev pub FormWhole : Form → Type 0
  FormWhole (header_form type) = W type
  FormWhole (stack_form type size) = W type
  FormWhole form = Unit {0}

  form_whole : (k : Kind) → KindWhole k → FormWhole (form_of k)
  form_whole (bits width) h = tt
  form_whole unsized h = tt
  form_whole boolean h = tt
  form_whole error_code h = tt
  form_whole (header type) h = h
  form_whole (stack type many) h = h
  form_whole (struct type) h = tt
  form_whole packet_in h = tt
  form_whole packet_out h = tt
  form_whole errors h = tt
  form_whole (enumeration enum) h = tt
  form_whole (one_of enum) h = tt
  form_whole table h = tt
  form_whole applied h = tt
  form_whole (object obj) h = tt
  form_whole items h = tt
  form_whole nothing h = tt
  form_whole unknown h = tt

  module _ (types : List TypeLayout) (fields : (type : Name) → FieldsWhole (fields_in types type)) where
    field_seated : (owned n : ℕ) (list : List FieldKind) (b : Start) (word : Name) → IfSome (field_seat owned n list b word) (λ u. FormWhole u.form)
    field_seated owned n [] b word = tt
    field_seated owned n (f ∷ list) b word = by (bytes_eq f.called word) (field_seated owned n list (moved b 1 0 0) word) where
      by : (same : Bool) → IfSome (field_seat owned n list (moved b 1 0 0) word) (λ u. FormWhole u.form) → IfSome (cond same (Some (record { depth = n; form = field_form f; start = b; owner = Some owned })) (field_seat owned n list (moved b 1 0 0) word)) (λ u. FormWhole u.form)
      by true rest = tt
      by false rest = rest

    element_seated : (n : ℕ) (type : Name) (many size : ℕ) (b : Start) (number : ℕ) → W type → IfSome (element_seat n type many size b number) (λ u. FormWhole u.form)
    element_seated n type many zero b number h = tt
    element_seated n type many (suc size) b zero h = h
    element_seated n type many (suc size) b (suc number) h = element_seated n type many size (moved b many 1 0) number h

    member_seated : (n : ℕ) (list : List FieldKind) (b : Start) (word : Name) → FieldsWhole list → IfSome (member_seat (λ k s. behind_form types n k s) n list b word) (λ u. FormWhole u.form)
    member_seated n [] b word h = tt
    member_seated n (f ∷ list) b word h = by (bytes_eq f.called word) (member_seated n list (behind_form types n (form_of f.kind) b) word h.1) where
      by : (same : Bool) → IfSome (member_seat (λ k s. behind_form types n k s) n list (behind_form types n (form_of f.kind) b) word) (λ u. FormWhole u.form) → IfSome (cond same (Some (seat n (form_of f.kind) b)) (member_seat (λ k s. behind_form types n k s) n list (behind_form types n (form_of f.kind) b) word)) (λ u. FormWhole u.form)
      by true rest = form_whole f.kind h.0
      by false rest = rest

    step_seated : (n : ℕ) (f : Form) (b : Start) (step : Step) → FormWhole f → IfSome (stepped_seat types n f b step) (λ u. FormWhole u.form)
    step_seated n (slot_form of) b (to_member word) h = tt
    step_seated n (slot_form of) b (to_element number) h = tt
    step_seated n (header_form type) b (to_member word) h = field_seated b.header n (fields_in types type) b word
    step_seated n (header_form type) b (to_element number) h = tt
    step_seated n (stack_form type size) b (to_member word) h = tt
    step_seated n (stack_form type size) b (to_element number) h = element_seated n type (length (fields_in types type)) size b number h
    step_seated zero (struct_form type) b (to_member word) h = tt
    step_seated zero (struct_form type) b (to_element number) h = tt
    step_seated (suc n) (struct_form type) b (to_member word) h = member_seated n (fields_in types type) b word (fields type)
    step_seated (suc n) (struct_form type) b (to_element number) h = tt
    step_seated n no_form b (to_member word) h = tt
    step_seated n no_form b (to_element number) h = tt

    path_seated : (path : List Step) (t : Seat) → FormWhole t.form → IfSome (seat_at types path t) (λ u. FormWhole u.form)
    path_seated [] t h = h
    path_seated (step ∷ path) t h = by (stepped_seat types t.depth t.form t.start step) (step_seated t.depth t.form t.start step h) (λ u g. path_seated path u g) where
      by : (o : Option Seat) → IfSome o (λ u. FormWhole u.form) → ((u : Seat) → FormWhole u.form → IfSome (seat_at types path u) (λ v. FormWhole v.form)) → IfSome (seat_behind (λ u. seat_at types path u) o) (λ v. FormWhole v.form)
      by None g rest = tt
      by (Some u) g rest = rest u g

    kinds_seated : (kinds : List Kind) (b : Start) (number : ℕ) → KindsWhole kinds → IfSome (seat_in types kinds b number) (λ u. FormWhole u.form)
    kinds_seated [] b number h = tt
    kinds_seated (k ∷ kinds) b zero h = form_whole k h.0
    kinds_seated (k ∷ kinds) b (suc number) h = kinds_seated kinds (behind_form types (length types) (form_of k) b) number h.1

  pub part_whole : (syntax : Syntax16) (p : FramePart) → is_main syntax ≡ true → HeadersAre syntax.decls → IfSome (part_seat syntax p) (λ t. FormWhole t.form)
  part_whole syntax p main h = by (owner_seat syntax p.owner) (kinds_seated (layouts_of syntax.decls) each_type (frame_kinds syntax) first_start (owner_number p.owner) (frame_whole syntax main h)) where
    each_type : (type : Name) → FieldsWhole (fields_in (layouts_of syntax.decls) type)
    each_type type = fields_whole (layouts_of syntax.decls) type (layouts_whole syntax.decls h)

    by : (o : Option Seat) → IfSome o (λ t. FormWhole t.form) → IfSome (seat_behind (λ s. seat_at (layouts_of syntax.decls) p.path s) o) (λ t. FormWhole t.form)
    by None g = tt
    by (Some t) g = path_seated (layouts_of syntax.decls) (λ type. fields_whole (layouts_of syntax.decls) type (layouts_whole syntax.decls h)) p.path t g
