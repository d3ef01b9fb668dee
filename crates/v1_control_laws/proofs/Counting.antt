-- The actions of a table of an accepted program take bits, as many as its entries give (T1, T6, T9).
use Rattle.std.proofs.Common.{◌≡◌, ◌⊎◌, inl, inr, ℕ, suc, ◌+◌, ◌<◌, ◌||◌, not, nat_eq, Bool, true, false, cond, Option, Some, None, List, [], ◌∷◌, ◌++◌, length, map, flat_map, filter_map, get_or, refl, sym, ap, ◌∙◌, subst, arith, append_assoc, length-append, eqb-true, bytes_eq}
use Rattle.std.specs.Prelude.{option_to_list, option_and_then}
use Rattle.std.specs.Option.{option_map_or}
use Rattle.std.specs.List.{list_any}
use Rattle.std.proofs.lemmas.List.{length-map, get_or-map}
use Rattle.std.proofs.lemmas.Slice.Eq.{bytes_eq-Decides}
use Rattle.match_core.specs.Fits.{action_at}
use Rattle.p416_syntax.specs.declared.parts.Type16.{Type16}
use Rattle.p416_syntax.specs.declared.parts.Type16.TheVariants.{Bit, Bool as BoolType, Named}
use Rattle.p416_syntax.specs.declared.parts.Param.{Param}
use Rattle.p416_syntax.specs.declared.controls.Action16.{Action16}
use Rattle.p416_syntax.specs.declared.controls.ActionName.{ActionName}
use Rattle.p416_syntax.specs.declared.controls.ActionName.TheVariants as action_name
use Rattle.p416_syntax.specs.declared.controls.Property.{Property}
use Rattle.p416_syntax.specs.declared.controls.Property.TheVariants as property
use Rattle.p416_syntax.specs.declared.controls.Table16.{Table16}
use Rattle.p416_syntax.specs.declared.controls.Instance.{Instance}
use Rattle.p416_syntax.specs.declared.controls.Instance.TheVariants as instance
use Rattle.p416_syntax.specs.declared.controls.Local.{Local}
use Rattle.p416_syntax.specs.declared.controls.Local.TheVariants as local
use Rattle.p416_syntax.specs.declared.controls.Control16.{Control16}
use Rattle.p416_syntax.specs.declared.program.Decl16.TheVariants as decl
use Rattle.p416_syntax.specs.Properties.{keys_of, actions_of, size_of, counters_of, default_action_of, default_arguments_of}
use Rattle.p416_syntax.specs.Tree.{Exp16, literal, truth, error, name, member, index, slice, call, lookahead, cast, unary, binary, choice, parenthesized, no_arguments, argument, listed}
use Rattle.p416_syntax.specs.Names.{Name}
use Rattle.p416_syntax.specs.Kinds.{Kind, bits, unsized, boolean, error_code, header, stack, struct, packet_in, packet_out, errors, enumeration, one_of, table, applied, object, items, nothing, unknown, is_bits}
use Rattle.p416_syntax.specs.Scopes.{Handed, Sort, a_type, a_value, an_enumeration, a_function, an_object, an_action, a_table, a_state, a_block, undeclared, Known, Scope, sort_in, sort_of, kind_of_type, is_directed, handed, known_parameter}
use Rattle.p416_syntax.specs.Calls.{any_literal}
use Rattle.p416_syntax.specs.Expressions.{argument_count}
use Rattle.p416_syntax.specs.Uses.{Use, a_name, a_number, a_table_of, some_action, some_direct_counter, names_of_scope, some_parameters, of_variable, of_action_parameter, type_numbers, type_uses, many, uses_at, arguments_of}
use Rattle.p416_syntax.specs.Unknown.{is_type_sort, is_unknown_type, is_wanted, is_misnamed}
use Rattle.p416_syntax.specs.Arguments.{is_miscounted}
use Rattle.p416_syntax.specs.Declarations.{instance_sort, known_local, control_names, note_uses, parameter_name, parameter_uses, body_uses, action_scope, key_uses, action_name_uses, sort_parameters, parameters_of, default_place, given_uses, defaults_of, table_in, local_uses}
use Rattle.p416_syntax.specs.Tables.{action_plane, is_not_given, is_bad_action, is_same_action, is_outside_actions, has_bad_keys, has_bad_actions, mixes_up, is_bad_table, is_bad_in_table}
use Rattle.p416_syntax.specs.Totals.{size_value as literal_in}
use Rattle.p416_syntax.specs.Breaks.{scope_of, program_rules, BreaksNone}
use Rattle.v1_core.specs.declared.block.Block.{Block}
use Rattle.v1_core.specs.Slots.{local_kinds}
use Rattle.v1_core.specs.Signatures.{listed_plane, planes_of, action_with, handed_width, action_sig, table_sig}
use Rattle.v1_core.specs.Surroundings.{Setting, table_called, action_called}
use Rattle.v1_core.specs.Tables as meaning_tables
use Rattle.v1_core.specs.Tables.{name_of_number, own_default}
use Rattle.v1_core.specs.Blocks.{around_control, control_at}
use Rattle.v1_block_laws.specs.Variables.{scope_in_control, control_from}
use Rattle.v1_block_laws.proofs.Tests.{first_false, second_false, not_false, in_front, at_end, none_joined, none_mapped}
use Rattle.v1_block_laws.proofs.Naming.{var_at_top, local_no_type}
use Rattle.v1_ready_statements.specs.Around.{action_places, Found, found_from, action_found}
use Rattle.v1_ready_statements.specs.Blocks as ready_blocks
use Rattle.v1_statement_laws.specs.Meeting.{FindNothing}
use Rattle.v1_control_laws.specs.Controls.{rule_tests}
use Rattle.v1_control_laws.proofs.Places.{found_called}
use Rattle.v1_control_laws.proofs.Meeting.{back, declared, locals_pass, action_passes}
use Rattle.v1_control_laws.specs.Tables.{HaveBits, Takes, TableKeeps}
use Rattle.v1_control_laws.proofs.Signed.{Mem, ordered_from, mem_at}
use Rattle.v1_control_laws.proofs.Keyed.{table_passes, keys_fit}

-- the sort of an action's name

action_sort : (of : Sort) → is_wanted some_action of ≡ true → (plane : Name) × (hs : List Handed) × (of ≡ an_action plane hs)
action_sort (a_type k) h = absurd (cc h)
action_sort (a_value k can) h = absurd (cc h)
action_sort (an_enumeration enum) h = absurd (cc h)
action_sort a_function h = absurd (cc h)
action_sort (an_object obj) h = absurd (cc h)
action_sort (an_action plane hs) h = (plane, hs, refl)
action_sort (a_table actions counters) h = absurd (cc h)
action_sort a_state h = absurd (cc h)
action_sort a_block h = absurd (cc h)
action_sort undeclared h = absurd (cc h)

-- what is handed to the action that is found

no_value_is : (k : Kind) (can : Bool) (plane : Name) (hs : List Handed) → a_value k can ≡ an_action plane hs → ⊥
no_value_is k can plane hs e = cc e

pub behind_parameters : (tops rest : List Known) (ps : List Param) (text plane : Name) (hs : List Handed) → sort_in (map (known_parameter tops) ps ++ rest) text ≡ an_action plane hs → sort_in rest text ≡ an_action plane hs
behind_parameters tops rest [] text plane hs is = is
behind_parameters tops rest (p ∷ ps) text plane hs is = by (bytes_eq p.name text) is (behind_parameters tops rest ps text plane hs) where
  by : (t : Bool) → cond t (known_parameter tops p).sort (sort_in (map (known_parameter tops) ps ++ rest) text) ≡ an_action plane hs → (sort_in (map (known_parameter tops) ps ++ rest) text ≡ an_action plane hs → sort_in rest text ≡ an_action plane hs) → sort_in rest text ≡ an_action plane hs
  by true e later = absurd (cc e)
  by false e later = later e

pub handed_is : (tops rest : List Known) (s : Scope) (n : ℕ) (locals : List Local) (m : ℕ) (text plane : Name) (hs : List Handed) (f : Found) → sort_in (map (known_local tops) locals ++ rest) text ≡ an_action plane hs → found_from m (action_places s n locals) text ≡ Some f → hs ≡ map (handed tops) f.place.of.parameters
handed_is tops rest s n [] m text plane hs f is at = absurd (cc at)
handed_is tops rest s n (local.Instance notes i ∷ locals) m text plane hs f is at = by (bytes_eq (known_local tops (local.Instance notes i)).called text) is (λ e. handed_is tops rest s (n + length (local_kinds s (local.Instance notes i))) locals m text plane hs f e at) where
  none : (x : Sort) → is_wanted some_action x ≡ false → x ≡ an_action plane hs → ⊥
  none x away e = cc (sym away ∙ ap (λ (y : Sort). is_wanted some_action y) e)

  instance_away : (j : Instance) → is_wanted some_action (instance_sort j) ≡ false
  instance_away (instance.Counter size x called) = refl
  instance_away (instance.DirectCounter x called) = refl
  instance_away (instance.Register width size called) = refl
  instance_away (instance.Meter size x called) = refl

  by : (t : Bool) → cond t (instance_sort i) (sort_in (map (known_local tops) locals ++ rest) text) ≡ an_action plane hs → (sort_in (map (known_local tops) locals ++ rest) text ≡ an_action plane hs → hs ≡ map (handed tops) f.place.of.parameters) → hs ≡ map (handed tops) f.place.of.parameters
  by true e later = absurd (none (instance_sort i) (instance_away i) e)
  by false e later = later e
handed_is tops rest s n (local.Var v ∷ locals) m text plane hs f is at = by (bytes_eq v.name text) is (λ e. handed_is tops rest s (n + length (local_kinds s (local.Var v))) locals m text plane hs f e at) where
  by : (t : Bool) → cond t (known_local tops (local.Var v)).sort (sort_in (map (known_local tops) locals ++ rest) text) ≡ an_action plane hs → (sort_in (map (known_local tops) locals ++ rest) text ≡ an_action plane hs → hs ≡ map (handed tops) f.place.of.parameters) → hs ≡ map (handed tops) f.place.of.parameters
  by true e later = absurd (cc e)
  by false e later = later e
handed_is tops rest s n (local.Table t ∷ locals) m text plane hs f is at = by (bytes_eq t.name text) is (λ e. handed_is tops rest s (n + length (local_kinds s (local.Table t))) locals m text plane hs f e at) where
  by : (b : Bool) → cond b (known_local tops (local.Table t)).sort (sort_in (map (known_local tops) locals ++ rest) text) ≡ an_action plane hs → (sort_in (map (known_local tops) locals ++ rest) text ≡ an_action plane hs → hs ≡ map (handed tops) f.place.of.parameters) → hs ≡ map (handed tops) f.place.of.parameters
  by true e later = absurd (cc e)
  by false e later = later e
handed_is tops rest s n (local.Action a ∷ locals) m text plane hs f is at = by (bytes_eq a.name text) is at (λ e g. handed_is tops rest s (n + length (local_kinds s (local.Action a))) locals (suc m) text plane hs f e g) where
  by : (t : Bool) → cond t (known_local tops (local.Action a)).sort (sort_in (map (known_local tops) locals ++ rest) text) ≡ an_action plane hs → cond t (Some (record { number = m; place = record { of = a; first = n } })) (found_from (suc m) (action_places s (n + length (local_kinds s (local.Action a))) locals) text) ≡ Some f → (sort_in (map (known_local tops) locals ++ rest) text ≡ an_action plane hs → found_from (suc m) (action_places s (n + length (local_kinds s (local.Action a))) locals) text ≡ Some f → hs ≡ map (handed tops) f.place.of.parameters) → hs ≡ map (handed tops) f.place.of.parameters
  by true e g later =
      let own : map (handed tops) a.parameters ≡ hs = cc e in
      let one : record { number = m; place = record { of = a; first = n } } ≡ f = cc g in
      sym own ∙ ap (λ (x : Found). map (handed tops) x.place.of.parameters) one
  by false e g later = later e g

-- bits

bits_so : (k : Kind) → is_bits k ≡ true → (w : ℕ) × (k ≡ bits w)
bits_so (bits width) h = (width, refl)
bits_so unsized h = absurd (cc h)
bits_so boolean h = absurd (cc h)
bits_so error_code h = absurd (cc h)
bits_so (header type) h = absurd (cc h)
bits_so (stack type size) h = absurd (cc h)
bits_so (struct type) h = absurd (cc h)
bits_so packet_in h = absurd (cc h)
bits_so packet_out h = absurd (cc h)
bits_so errors h = absurd (cc h)
bits_so (enumeration enum) h = absurd (cc h)
bits_so (one_of enum) h = absurd (cc h)
bits_so table h = absurd (cc h)
bits_so applied h = absurd (cc h)
bits_so (object obj) h = absurd (cc h)
bits_so items h = absurd (cc h)
bits_so nothing h = absurd (cc h)
bits_so unknown h = absurd (cc h)

-- the arguments of a default

counted : (e : Exp16) → length (arguments_of e) ≡ argument_count e
counted (argument former last) =
    let earlier : length (arguments_of former) ≡ argument_count former = counted former in
    omega (arith, length-append (arguments_of former) (last ∷ []), earlier)
counted (literal n) = refl
counted (truth holds) = refl
counted error = refl
counted (name text) = refl
counted (member e word) = refl
counted (index e at) = refl
counted (slice e high low) = refl
counted (call g more) = refl
counted (lookahead e to more) = refl
counted (cast to e) = refl
counted (unary operator e) = refl
counted (binary operator a b) = refl
counted (choice d a b) = refl
counted (parenthesized e) = refl
counted no_arguments = refl
counted (listed es) = refl

both_default : (ps : List Property) (a : ActionName) → default_action_of ps ≡ Some a → (given : Exp16) × (default_arguments_of ps ≡ Some given)
both_default [] a is = absurd (cc is)
both_default (property.DefaultAction x given ∷ ps) a is = (given, refl)
both_default (property.Key ks ∷ ps) a is = both_default ps a is
both_default (property.Actions names ∷ ps) a is = both_default ps a is
both_default (property.Size n ∷ ps) a is = both_default ps a is
both_default (property.Counters text ∷ ps) a is = both_default ps a is

-- an action that a table lists

bytes_itself : (p : Name) → bytes_eq p p ≡ true
bytes_itself p = (bytes_eq-Decides p p).1 refl

listed_with : (s : Scope) (actions : List ActionName) (plane : Name) → Mem plane (filter_map (listed_plane s) actions) → (text : Name) × (action_with s actions plane ≡ action_name.Declared text) × Mem (action_name.Declared text) actions
listed_with s [] plane h = absurd h
listed_with s (action_name.NoAction ∷ actions) plane h =
    let rest = listed_with s actions plane h in (rest.0, rest.1, inr rest.2)
listed_with s (action_name.Declared t ∷ actions) plane h = by (bytes_eq plane (action_plane s (action_name.Declared t))) refl (listed_with s actions plane) where
  by : (b : Bool) → bytes_eq plane (action_plane s (action_name.Declared t)) ≡ b → (Mem plane (filter_map (listed_plane s) actions) → (text : Name) × (action_with s actions plane ≡ action_name.Declared text) × Mem (action_name.Declared text) actions) → (text : Name) × (cond (bytes_eq plane (action_plane s (action_name.Declared t))) (action_name.Declared t) (action_with s actions plane) ≡ action_name.Declared text) × Mem (action_name.Declared text) (action_name.Declared t ∷ actions)
  by true e later = (t, ap (λ (b : Bool). cond b (action_name.Declared t) (action_with s actions plane)) e, inl refl)
  by false e later = further (later (tail h)) where
    never : bytes_eq plane (action_plane s (action_name.Declared t)) ≡ true → ⊥
    never g = cc (sym g ∙ e)

    tail : (action_plane s (action_name.Declared t) ≡ plane) ⊎ Mem plane (filter_map (listed_plane s) actions) → Mem plane (filter_map (listed_plane s) actions)
    tail (inl same) = absurd (never (ap (λ (x : Name). bytes_eq plane x) same ∙ bytes_itself plane))
    tail (inr g) = g

    further : (text : Name) × (action_with s actions plane ≡ action_name.Declared text) × Mem (action_name.Declared text) actions → (text : Name) × (cond (bytes_eq plane (action_plane s (action_name.Declared t))) (action_name.Declared t) (action_with s actions plane) ≡ action_name.Declared text) × Mem (action_name.Declared text) (action_name.Declared t ∷ actions)
    further g = (g.0, ap (λ (b : Bool). cond b (action_name.Declared t) (action_with s actions plane)) e ∙ g.1, inr g.2)

-- of what no test finds in a list it finds nothing in one of it
pub one_passes : {X : Type 0} (test : X → Bool) (x : X) (xs : List X) → Mem x xs → list_any test xs ≡ false → test x ≡ false
one_passes test x [] h none = absurd h
one_passes test x (y ∷ xs) (inl same) none = ap test (sym same) ∙ first_false (test y) (list_any test xs) none
one_passes test x (y ∷ xs) (inr h) none = one_passes test x xs h (second_false (test y) (list_any test xs) none)

named_wanted : (s : Scope) (text : Name) (actions : List ActionName) → Mem (action_name.Declared text) actions → list_any is_misnamed (flat_map (action_name_uses s) actions) ≡ false → is_wanted some_action (sort_of s text) ≡ true
named_wanted s text [] h none = absurd h
named_wanted s text (a ∷ actions) (inl same) none =
    not_false (is_wanted some_action (sort_of s text))
    (first_false (not (is_wanted some_action (sort_of s text))) false
    (in_front is_misnamed (action_name_uses s (action_name.Declared text)) (flat_map (action_name_uses s) actions)
    (subst (λ (x : ActionName). list_any is_misnamed (action_name_uses s x ++ flat_map (action_name_uses s) actions) ≡ false) same none)))
named_wanted s text (a ∷ actions) (inr h) none = named_wanted s text actions h (at_end is_misnamed (action_name_uses s a) (flat_map (action_name_uses s) actions) none)

same_listed : (text : Name) (actions : List ActionName) → list_any (is_same_action (action_name.Declared text)) actions ≡ true → Mem (action_name.Declared text) actions
same_listed text [] h = absurd (cc h)
same_listed text (action_name.NoAction ∷ actions) h = inr (same_listed text actions h)
same_listed text (action_name.Declared t ∷ actions) h = by (bytes_eq text t) refl h (same_listed text actions) where
  by : (b : Bool) → bytes_eq text t ≡ b → (b || list_any (is_same_action (action_name.Declared text)) actions) ≡ true → (list_any (is_same_action (action_name.Declared text)) actions ≡ true → Mem (action_name.Declared text) actions) → (action_name.Declared t ≡ action_name.Declared text) ⊎ Mem (action_name.Declared text) actions
  by true e g later = inl (ap (λ (x : Name). action_name.Declared x) (sym ((bytes_eq-Decides text t).0 e)))
  by false e g later = inr (later g)

module _ (c : Setting) (place : Block) (k : Control16) (accepted : BreaksNone c.syntax program_rules) (stands : control_at c.syntax place ≡ Some k) where
  abbrev scope : Scope
  scope = scope_in_control c.syntax k

  abbrev tops : List Known
  tops = (scope_of c.syntax (decl.Control k)).names

  abbrev is_type : Known → Bool
  is_type x = is_type_sort x.sort

  no_types : list_any is_type (control_names tops k) ≡ false
  no_types = none_joined is_type (map (known_parameter tops) k.parameters) (map (known_local tops) k.locals) (none_mapped is_type (known_parameter tops) (λ x. refl) k.parameters) (none_mapped is_type (known_local tops) (local_no_type tops) k.locals)

  -- a type that is looked up in the control is that at the top
  pub at_top : (p : Param) → is_unknown_type scope p.of ≡ false → kind_of_type scope.names p.of ≡ kind_of_type tops p.of
  at_top p known_one = var_at_top scope (control_names tops k) tops (record { of = p.of; name = p.name; initial = None }) refl no_types (judged p.of known_one) where
    judged : (t : Type16) → is_unknown_type scope t ≡ false → list_any is_misnamed (type_uses scope of_variable t ++ []) ≡ false
    judged (Bit w) h = refl
    judged BoolType h = refl
    judged (Named text None) h = ap (λ (b : Bool). b || false) h
    judged (Named text (Some size)) h = ap (λ (b : Bool). b || false) h

  have_bits : (ps : List Param) → list_any is_not_given (map (handed tops) ps) ≡ false → list_any is_misnamed (flat_map (parameter_uses scope of_action_parameter) ps) ≡ false → HaveBits scope ps
  have_bits [] given known_ones = tt
  have_bits (p ∷ ps) given known_ones =
      let own = first_false (is_not_given (handed tops p)) (list_any is_not_given (map (handed tops) ps)) given in
      let all = bits_so (kind_of_type tops p.of) (not_false (is_bits (kind_of_type tops p.of)) (second_false (is_directed p.direction) (not (is_bits (kind_of_type tops p.of))) own)) in
      let known_one = first_false (is_unknown_type scope p.of) (list_any is_misnamed (type_numbers p.of)) (in_front is_misnamed (parameter_uses scope of_action_parameter p) (flat_map (parameter_uses scope of_action_parameter) ps) known_ones) in (
        (all.0, at_top p known_one ∙ all.1),
        have_bits ps (second_false (is_not_given (handed tops p)) (list_any is_not_given (map (handed tops) ps)) given) (at_end is_misnamed (parameter_uses scope of_action_parameter p) (flat_map (parameter_uses scope of_action_parameter) ps) known_ones),
      )

  -- what is judged in the parameters of an action
  pub parameters_known : (text : Name) (f : Found) → action_found (ready_blocks.around_control c.syntax k) text ≡ Some f → list_any is_misnamed (flat_map (parameter_uses scope of_action_parameter) f.place.of.parameters) ≡ false
  parameters_known text f at =
      let a : Action16 = f.place.of in
      let called = ap (λ (l : List Action16). action_called l text) (sym (declared c place k accepted stands)) ∙ found_called (ready_blocks.around_control c.syntax k).actions 0 text f at in
      let h = action_passes c place k accepted stands rule_tests k.locals text f.place.of (locals_pass c place k accepted stands) called in
      let parameters = flat_map (parameter_uses scope of_action_parameter) f.place.of.parameters in
      let judged = names_of_scope (map parameter_name f.place.of.parameters) ∷ some_parameters f.place.of.parameters ∷ parameters in
      at_end is_misnamed (names_of_scope (map parameter_name f.place.of.parameters) ∷ some_parameters f.place.of.parameters ∷ []) parameters
      (at_end is_misnamed (note_uses f.place.of.notes) judged
      (in_front is_misnamed (note_uses f.place.of.notes ++ judged) (body_uses (action_scope scope f.place.of) 1 f.place.of.body) h.0))

  -- an action with this name that a table lists
  listed_takes : (text : Name) (f : Found) → action_found (ready_blocks.around_control c.syntax k) text ≡ Some f → is_wanted some_action (sort_of scope text) ≡ true → is_bad_action scope (action_name.Declared text) ≡ false → (length (parameters_of scope (action_name.Declared text)) ≡ length f.place.of.parameters) × HaveBits scope f.place.of.parameters
  listed_takes text f at wanted good =
      let sort = action_sort (sort_of scope text) wanted in
      let there : sort_in ((map (known_parameter tops) k.parameters ++ map (known_local tops) k.locals) ++ tops) text ≡ an_action sort.0 sort.1 = sort.2 in
      let behind : sort_in (map (known_local tops) k.locals ++ tops) text ≡ an_action sort.0 sort.1 =
      behind_parameters tops (map (known_local tops) k.locals ++ tops) k.parameters text sort.0 sort.1
      (subst (λ (l : List Known). sort_in l text ≡ an_action sort.0 sort.1) (append_assoc (map (known_parameter tops) k.parameters) (map (known_local tops) k.locals) tops) there) in
      let hs : sort.1 ≡ map (handed tops) f.place.of.parameters = handed_is tops tops scope (control_from c.syntax k) k.locals 0 text sort.0 sort.1 f behind at in
      let own : parameters_of scope (action_name.Declared text) ≡ map (handed tops) f.place.of.parameters = ap (λ (x : Sort). sort_parameters x) sort.2 ∙ hs in (
        ap length own ∙ length-map f.place.of.parameters (handed tops),
        have_bits f.place.of.parameters (ap (λ (l : List Handed). list_any is_not_given l) (sym own) ∙ good) (parameters_known text f at),
      )

  module _ (text : Name) (t : Table16) (called : table_called (filter_map table_in k.locals) text ≡ Some t) where
    abbrev actions : List ActionName
    actions = actions_of t.properties

    judged : FindNothing rule_tests (local_uses scope (local.Table t))
    judged = table_passes c place k accepted stands k.locals text t (locals_pass c place k accepted stands) called

    abbrev keys_judged : List Use
    keys_judged = flat_map (key_uses scope) (keys_of t.properties)

    abbrev actions_judged : List Use
    actions_judged = flat_map (action_name_uses scope) (actions_of t.properties)

    abbrev size_judged : List Use
    size_judged = map a_number (option_to_list (size_of t.properties))

    abbrev counters_judged : List Use
    counters_judged = map (a_name scope some_direct_counter) (option_to_list (counters_of t.properties))

    abbrev defaults_judged : List Use
    defaults_judged = defaults_of scope (default_action_of t.properties) (default_arguments_of t.properties)

    abbrev with_keys : List Use
    with_keys = note_uses t.notes ++ a_table_of scope t ∷ keys_judged

    actions_known : list_any is_misnamed actions_judged ≡ false
    actions_known =
        at_end is_misnamed with_keys actions_judged (in_front is_misnamed (with_keys ++ actions_judged) size_judged (in_front is_misnamed (with_keys ++ actions_judged ++ size_judged) counters_judged (in_front is_misnamed (with_keys ++ actions_judged ++ size_judged ++ counters_judged) defaults_judged judged.0)))

    defaults_pass : FindNothing rule_tests defaults_judged
    defaults_pass = back rule_tests (with_keys ++ actions_judged ++ size_judged ++ counters_judged) defaults_judged judged

    table_good : is_bad_table scope t ≡ false
    table_good =
        first_false (is_bad_table scope t) (list_any is_bad_in_table keys_judged)
        (at_end is_bad_in_table (note_uses t.notes) (a_table_of scope t ∷ keys_judged)
        (in_front is_bad_in_table with_keys actions_judged (in_front is_bad_in_table (with_keys ++ actions_judged) size_judged (in_front is_bad_in_table (with_keys ++ actions_judged ++ size_judged) counters_judged (in_front is_bad_in_table (with_keys ++ actions_judged ++ size_judged ++ counters_judged) defaults_judged judged.1.1.1.1.1.1.1.0)))))

    outside_default : option_map_or (is_outside_actions actions) (default_action_of t.properties) false ≡ false
    outside_default = second_false (has_bad_keys (keys_of t.properties) || has_bad_actions scope actions) (option_map_or (is_outside_actions actions) (default_action_of t.properties) false) table_good

    actions_good : list_any (is_bad_action scope) actions ≡ false
    actions_good =
        first_false (list_any (is_bad_action scope) actions) (mixes_up scope actions)
        (second_false (has_bad_keys (keys_of t.properties)) (has_bad_actions scope actions)
        (first_false (has_bad_keys (keys_of t.properties) || has_bad_actions scope actions) (option_map_or (is_outside_actions actions) (default_action_of t.properties) false) table_good))

    one_takes : (called_so : Name) (f : Found) → Mem (action_name.Declared called_so) actions → action_found (ready_blocks.around_control c.syntax k) called_so ≡ Some f → (length (parameters_of scope (action_name.Declared called_so)) ≡ length f.place.of.parameters) × HaveBits scope f.place.of.parameters
    one_takes called_so f there at = listed_takes called_so f at (named_wanted scope called_so actions there actions_known) (one_passes (is_bad_action scope) (action_name.Declared called_so) actions there actions_good)

    plane_listed : (number : ℕ) → number < length (planes_of scope t) → Mem (get_or (planes_of scope t) number []) (filter_map (listed_plane scope) actions)
    plane_listed number lt = from (ordered_from (get_or (planes_of scope t) number []) (filter_map (listed_plane scope) actions) [] (mem_at (planes_of scope t) number lt)) where
      from : ⊥ ⊎ Mem (get_or (planes_of scope t) number []) (filter_map (listed_plane scope) actions) → Mem (get_or (planes_of scope t) number []) (filter_map (listed_plane scope) actions)
      from (inl h) = absurd h
      from (inr h) = h

    calls_take : (number : ℕ) (f : Found) → number < length (planes_of scope t) → action_found (ready_blocks.around_control c.syntax k) (name_of_number scope t number) ≡ Some f → Takes scope f (length (action_at (table_sig c.syntax k.locals scope t) number).widths)
    calls_take number f lt at =
        let plane : Name = get_or (planes_of scope t) number [] in
        let one = listed_with scope actions (get_or (planes_of scope t) number []) (plane_listed number lt) in
        let named : name_of_number scope t number ≡ one.0 = ap (λ (a : ActionName). meaning_tables.listed_name a) one.1 in
        let takes = one_takes one.0 f one.2 (ap (λ (x : Name). action_found (ready_blocks.around_control c.syntax k) x) (sym named) ∙ at) in
        let sig : action_at (table_sig c.syntax k.locals scope t) number ≡ action_sig scope t (get_or (planes_of scope t) number []) = get_or-map (action_sig scope t) (planes_of scope t) number [] (record { name = []; widths = [] }) lt in
        let wide : length (action_at (table_sig c.syntax k.locals scope t) number).widths ≡ length (parameters_of scope (action_name.Declared one.0)) =
        ap (λ x. length x.widths) sig
        ∙ (length-map (parameters_of scope (action_with scope actions (get_or (planes_of scope t) number []))) handed_width
        ∙ ap (λ (a : ActionName). length (parameters_of scope a)) one.1) in
        record { many = wide ∙ takes.0; bits = takes.1 }

    default_takes : (j : meaning_tables.Chosen) (f : Found) → option_and_then (own_default scope t) (default_action_of t.properties) ≡ Some j → action_found (ready_blocks.around_control c.syntax k) j.called ≡ Some f → Takes scope f (length j.arguments)
    default_takes j f is at = by (default_action_of t.properties) refl is outside_default defaults_pass where
      by : (o : Option ActionName) → default_action_of t.properties ≡ o → option_and_then (own_default scope t) o ≡ Some j → option_map_or (is_outside_actions actions) o false ≡ false → FindNothing rule_tests (defaults_of scope o (default_arguments_of t.properties)) → Takes scope f (length j.arguments)
      by None e g out pass = absurd (cc g)
      by (Some action_name.NoAction) e g out pass = absurd (cc g)
      by (Some (action_name.Declared called_so)) e g out pass =
          let one : called_so ≡ j.called = cc g in
          let given = both_default t.properties (action_name.Declared called_so) e in
          let numbers : map literal_in (option_map_or arguments_of (default_arguments_of t.properties) []) ≡ j.arguments = cc g in
          let takes = one_takes called_so f (same_listed called_so actions (not_false (list_any (is_same_action (action_name.Declared called_so)) actions) out)) (ap (λ (x : Name). action_found (ready_blocks.around_control c.syntax k) x) one ∙ at) in
          let own : FindNothing rule_tests (action_name_uses scope (action_name.Declared called_so) ++ given_uses scope (parameters_of scope (action_name.Declared called_so)) given.0) =
          subst (λ (o : Option Exp16). FindNothing rule_tests (action_name_uses scope (action_name.Declared called_so) ++ option_map_or (given_uses scope (parameters_of scope (action_name.Declared called_so))) o [])) given.1 pass in
          let count : nat_eq (length (parameters_of scope (action_name.Declared called_so))) (argument_count given.0) ≡ true =
          not_false (nat_eq (length (parameters_of scope (action_name.Declared called_so))) (argument_count given.0))
          (first_false (not (nat_eq (length (parameters_of scope (action_name.Declared called_so))) (argument_count given.0))) (list_any is_miscounted (uses_at scope (many (map default_place (parameters_of scope (action_name.Declared called_so))) any_literal) given.0))
          (at_end is_miscounted (action_name_uses scope (action_name.Declared called_so)) (given_uses scope (parameters_of scope (action_name.Declared called_so)) given.0) own.1.1.1.1.1.0)) in
          record {
            many =
                ap length (sym numbers)
                ∙ (length-map (option_map_or arguments_of (default_arguments_of t.properties) []) literal_in
                ∙ (ap (λ (o : Option Exp16). length (option_map_or arguments_of o [])) given.1
                ∙ (counted given.0 ∙ (sym (eqb-true (length (parameters_of scope (action_name.Declared called_so))) (argument_count given.0) count) ∙ takes.0))));
            bits = takes.1;
          }

    pub table_keeps : TableKeeps (around_control c place k) (ready_blocks.around_control c.syntax k).actions t
    table_keeps = record { keys = keys_fit c place k accepted stands text t called; calls = calls_take; default = default_takes }
