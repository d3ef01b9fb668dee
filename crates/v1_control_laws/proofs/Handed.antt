-- What is handed to an action of a control of an accepted program is of the kinds of its parameters, which have names of their own
-- (T1).
use Rattle.std.proofs.Common.{◌≡◌, ℕ, Bool, true, false, cond, Option, Some, None, List, [], ◌∷◌, ◌++◌, map, flat_map, refl, sym, ap, ◌∙◌, subst, append_assoc, bytes_eq}
use Rattle.std.specs.List.{list_any}
use Rattle.p416_syntax.specs.declared.parts.Type16.{Type16}
use Rattle.p416_syntax.specs.declared.parts.Type16.TheVariants.{Bit, Bool as BoolType, Named}
use Rattle.p416_syntax.specs.declared.parts.Direction.{Direction}
use Rattle.p416_syntax.specs.declared.parts.Direction.TheVariants.{In, Out, InOut}
use Rattle.p416_syntax.specs.declared.parts.Param.{Param}
use Rattle.p416_syntax.specs.declared.controls.Action16.{Action16}
use Rattle.p416_syntax.specs.declared.controls.Instance.{Instance}
use Rattle.p416_syntax.specs.declared.controls.Instance.TheVariants as instance
use Rattle.p416_syntax.specs.declared.controls.Local.{Local}
use Rattle.p416_syntax.specs.declared.controls.Local.TheVariants as local
use Rattle.p416_syntax.specs.declared.controls.Control16.{Control16}
use Rattle.p416_syntax.specs.declared.program.Decl16.{Decl16}
use Rattle.p416_syntax.specs.declared.program.Decl16.TheVariants as decl
use Rattle.p416_syntax.specs.Names.{Name, has_name, repeats}
use Rattle.p416_syntax.specs.BuiltIn.{built_in}
use Rattle.p416_syntax.specs.Kinds.{Kind, bits, unsized, boolean, error_code, header, stack, struct, packet_in, packet_out, errors, enumeration, one_of, table, applied, object, items, nothing, unknown}
use Rattle.p416_syntax.specs.Scopes.{Handed, Sort, an_action, Known, Scope, sort_in, type_sort, stack_kind, kind_of_type, is_written, handed, known_parameter}
use Rattle.p416_syntax.specs.Uses.{names_of_scope, some_parameters, some_action, type_numbers, of_action_parameter}
use Rattle.p416_syntax.specs.Unknown.{is_unknown_type, is_wanted, is_misnamed}
use Rattle.p416_syntax.specs.Declarations.{instance_sort, top_name, known_local, control_names, note_uses, parameter_name, parameter_uses, body_uses, action_scope}
use Rattle.p416_syntax.specs.Breaks.{scope_of, program_rules, BreaksNone}
use Rattle.v1_core.specs.declared.block.Block.{Block}
use Rattle.v1_core.specs.Surroundings.{Setting, action_called}
use Rattle.v1_core.specs.Blocks.{control_at}
use Rattle.v1_core.specs.Seats.{Content, slot_form, form_of}
use Rattle.v1_block_laws.specs.Variables.{scope_in_control, control_from}
use Rattle.v1_block_laws.proofs.Tests.{first_false, second_false, in_front, at_end}
use Rattle.v1_ready_statements.specs.Around.{Found, action_found}
use Rattle.v1_ready_statements.specs.Given.{is_back}
use Rattle.v1_ready_statements.specs.Blocks as ready_blocks
use Rattle.v1_call_laws.specs.Handing.{AreHanded, NoneIsCalled, NamesDiffer}
use Rattle.v1_control_laws.specs.Controls.{rule_tests}
use Rattle.v1_control_laws.proofs.Values.{either}
use Rattle.v1_control_laws.proofs.Places.{found_called}
use Rattle.v1_control_laws.proofs.Meeting.{declared, locals_pass, action_passes}
use Rattle.v1_control_laws.specs.TableLaws.{ParametersHanded}
use Rattle.v1_control_laws.proofs.Counting.{behind_parameters, handed_is, at_top, parameters_known}

-- written back

back_is : (d : Option Direction) → is_written d ≡ is_back d
back_is (Some In) = refl
back_is (Some Out) = refl
back_is (Some InOut) = refl
back_is None = refl

-- a type by its name is none of a single value

abbrev NoSlot : Kind → Type 0
NoSlot k = (of : Content) → form_of k ≡ slot_form of → ⊥

abbrev IsNamedKind : Kind → Type 0
IsNamedKind (header type) = Unit {0}
IsNamedKind (struct type) = Unit {0}
IsNamedKind packet_in = Unit {0}
IsNamedKind packet_out = Unit {0}
IsNamedKind unknown = Unit {0}
IsNamedKind k = ⊥

no_slot : (k : Kind) → IsNamedKind k → NoSlot k
no_slot (bits width) h of e = absurd h
no_slot unsized h of e = absurd h
no_slot boolean h of e = absurd h
no_slot error_code h of e = absurd h
no_slot (header type) h of e = cc e
no_slot (stack type size) h of e = absurd h
no_slot (struct type) h of e = cc e
no_slot packet_in h of e = cc e
no_slot packet_out h of e = cc e
no_slot errors h of e = absurd h
no_slot (enumeration enum) h of e = absurd h
no_slot (one_of enum) h of e = absurd h
no_slot table h of e = absurd h
no_slot applied h of e = absurd h
no_slot (object obj) h of e = absurd h
no_slot items h of e = absurd h
no_slot nothing h of e = absurd h
no_slot unknown h of e = cc e

no_stack_slot : (extent : ℕ) (k : Kind) → NoSlot (stack_kind extent k)
no_stack_slot extent (bits width) of e = cc e
no_stack_slot extent unsized of e = cc e
no_stack_slot extent boolean of e = cc e
no_stack_slot extent error_code of e = cc e
no_stack_slot extent (header type) of e = cc e
no_stack_slot extent (stack type size) of e = cc e
no_stack_slot extent (struct type) of e = cc e
no_stack_slot extent packet_in of e = cc e
no_stack_slot extent packet_out of e = cc e
no_stack_slot extent errors of e = cc e
no_stack_slot extent (enumeration enum) of e = cc e
no_stack_slot extent (one_of enum) of e = cc e
no_stack_slot extent table of e = cc e
no_stack_slot extent applied of e = cc e
no_stack_slot extent (object obj) of e = cc e
no_stack_slot extent items of e = cc e
no_stack_slot extent nothing of e = cc e
no_stack_slot extent unknown of e = cc e

abbrev TypeNamed : Known → Type 0
TypeNamed k = IsNamedKind (type_sort k.sort)

abbrev AllNamed : List Known → Type 0
AllNamed [] = Unit {0}
AllNamed (k ∷ ks) = TypeNamed k × AllNamed ks

found_named : (ks : List Known) → AllNamed ks → (text : Name) → IsNamedKind (type_sort (sort_in ks text))
found_named [] h text = tt
found_named (k ∷ ks) h text = either (λ (x : Sort). IsNamedKind (type_sort x)) (bytes_eq k.called text) k.sort (sort_in ks text) h.0 (found_named ks h.1 text)

both_named : (ks ls : List Known) → AllNamed ks → AllNamed ls → AllNamed (ks ++ ls)
both_named [] ls h g = g
both_named (k ∷ ks) ls h g = (h.0, both_named ks ls h.1 g)

instance_named : (i : Instance) → IsNamedKind (type_sort (instance_sort i))
instance_named (instance.Counter size m called) = tt
instance_named (instance.DirectCounter m called) = tt
instance_named (instance.Register width size called) = tt
instance_named (instance.Meter size m called) = tt

tops_named : (ds : List Decl16) → AllNamed (map top_name ds ++ built_in)
tops_named [] = (tt, (tt, (tt, (tt, (tt, (tt, (tt, (tt, (tt, (tt, (tt, (tt, (tt, (tt, (tt, (tt, tt))))))))))))))))
tops_named (decl.Header h ∷ ds) = (tt, tops_named ds)
tops_named (decl.Struct h ∷ ds) = (tt, tops_named ds)
tops_named (decl.Instance notes i ∷ ds) = (instance_named i, tops_named ds)
tops_named (decl.Parser p ∷ ds) = (tt, tops_named ds)
tops_named (decl.Control c ∷ ds) = (tt, tops_named ds)

parameters_named : (tops : List Known) (ps : List Param) → AllNamed (map (known_parameter tops) ps)
parameters_named tops [] = tt
parameters_named tops (p ∷ ps) = (tt, parameters_named tops ps)

locals_named : (tops : List Known) (ls : List Local) → AllNamed (map (known_local tops) ls)
locals_named tops [] = tt
locals_named tops (local.Instance notes i ∷ ls) = (instance_named i, locals_named tops ls)
locals_named tops (local.Var v ∷ ls) = (tt, locals_named tops ls)
locals_named tops (local.Action a ∷ ls) = (tt, locals_named tops ls)
locals_named tops (local.Table t ∷ ls) = (tt, locals_named tops ls)

-- a single value's type is the same in all scopes
slot_same : (names others : List Known) (t : Type16) (of : Content) → ((text : Name) → IsNamedKind (type_sort (sort_in names text))) → form_of (kind_of_type names t) ≡ slot_form of → kind_of_type others t ≡ kind_of_type names t
slot_same names others (Bit w) of all e = refl
slot_same names others BoolType of all e = refl
slot_same names others (Named text None) of all e = absurd (no_slot (type_sort (sort_in names text)) (all text) of e)
slot_same names others (Named text (Some size)) of all e = absurd (no_stack_slot size.value (type_sort (sort_in names text)) of e)

-- names in front that are no actions

behind_front : (front rest : List Known) (text plane : Name) (hs : List Handed) → list_any (λ (k : Known). is_wanted some_action k.sort) front ≡ false → sort_in (front ++ rest) text ≡ an_action plane hs → sort_in rest text ≡ an_action plane hs
behind_front [] rest text plane hs none is = is
behind_front (k ∷ front) rest text plane hs none is =
    by (bytes_eq k.called text) is (behind_front front rest text plane hs (second_false (is_wanted some_action k.sort) (list_any (λ (x : Known). is_wanted some_action x.sort) front) none)) where
      no_action : k.sort ≡ an_action plane hs → ⊥
      no_action e = cc (sym (first_false (is_wanted some_action k.sort) (list_any (λ (x : Known). is_wanted some_action x.sort) front) none) ∙ ap (λ (x : Sort). is_wanted some_action x) e)

      by : (t : Bool) → cond t k.sort (sort_in (front ++ rest) text) ≡ an_action plane hs → (sort_in (front ++ rest) text ≡ an_action plane hs → sort_in rest text ≡ an_action plane hs) → sort_in rest text ≡ an_action plane hs
      by true e later = absurd (no_action e)
      by false e later = later e

-- parameters

none_called : (text : Name) (ps : List Param) → has_name (map parameter_name ps) text ≡ false → NoneIsCalled text ps
none_called text [] h = tt
none_called text (p ∷ ps) h = (first_false (bytes_eq text p.name) (has_name (map parameter_name ps) text) h, none_called text ps (second_false (bytes_eq text p.name) (has_name (map parameter_name ps) text) h))

names_differ : (ps : List Param) → repeats (map parameter_name ps) ≡ false → NamesDiffer ps
names_differ [] h = tt
names_differ (p ∷ ps) h =
    (none_called p.name ps (first_false (has_name (map parameter_name ps) p.name) (repeats (map parameter_name ps)) h), names_differ ps (second_false (has_name (map parameter_name ps) p.name) (repeats (map parameter_name ps)) h))

module _ (c : Setting) (place : Block) (k : Control16) (accepted : BreaksNone c.syntax program_rules) (stands : control_at c.syntax place ≡ Some k) where
  abbrev scope : Scope
  scope = scope_in_control c.syntax k

  abbrev tops : List Known
  tops = (scope_of c.syntax (decl.Control k)).names

  own_named : (text : Name) → IsNamedKind (type_sort (sort_in scope.names text))
  own_named = found_named (control_names tops k ++ tops) (both_named (control_names tops k) tops (both_named (map (known_parameter tops) k.parameters) (map (known_local tops) k.locals) (parameters_named tops k.parameters) (locals_named tops k.locals)) (tops_named c.syntax.decls))

  are_handed : (s : Scope) (ps : List Param) → list_any is_misnamed (flat_map (parameter_uses scope of_action_parameter) ps) ≡ false → AreHanded s scope (map (handed tops) ps) ps
  are_handed s [] known_ones = tt
  are_handed s (p ∷ ps) known_ones =
      let known_one = first_false (is_unknown_type scope p.of) (list_any is_misnamed (type_numbers p.of)) (in_front is_misnamed (parameter_uses scope of_action_parameter p) (flat_map (parameter_uses scope of_action_parameter) ps) known_ones) in (
        record {
          written = back_is p.direction;
          kind = λ some. sym (at_top c place k accepted stands p known_one);
          named = λ of e. slot_same scope.names s.names p.of of own_named e;
        },
        are_handed s ps (at_end is_misnamed (parameter_uses scope of_action_parameter p) (flat_map (parameter_uses scope of_action_parameter) ps) known_ones),
      )

  differ : (text : Name) (f : Found) → action_found (ready_blocks.around_control c.syntax k) text ≡ Some f → NamesDiffer f.place.of.parameters
  differ text f at =
      let called = ap (λ (l : List Action16). action_called l text) (sym (declared c place k accepted stands)) ∙ found_called (ready_blocks.around_control c.syntax k).actions 0 text f at in
      let h = action_passes c place k accepted stands rule_tests k.locals text f.place.of (locals_pass c place k accepted stands) called in
      let parameters = flat_map (parameter_uses scope of_action_parameter) f.place.of.parameters in
      let judged = names_of_scope (map parameter_name f.place.of.parameters) ∷ some_parameters f.place.of.parameters ∷ parameters in
      names_differ f.place.of.parameters
      (first_false (repeats (map parameter_name f.place.of.parameters)) (list_any is_misnamed (some_parameters f.place.of.parameters ∷ parameters))
      (at_end is_misnamed (note_uses f.place.of.notes) judged
      (in_front is_misnamed (note_uses f.place.of.notes ++ judged) (body_uses (action_scope scope f.place.of) 1 f.place.of.body) h.0)))

pub parameters_handed : ParametersHanded
parameters_handed c place k s front text plane hs f accepted stands names none is at =
    let tops = (scope_of c.syntax (decl.Control k)).names in
    let own : sort_in ((map (known_parameter tops) k.parameters ++ map (known_local tops) k.locals) ++ tops) text ≡ an_action plane hs =
    behind_front front (scope_in_control c.syntax k).names text plane hs none (ap (λ (l : List Known). sort_in l text) (sym names) ∙ is) in
    let behind : sort_in (map (known_local tops) k.locals ++ tops) text ≡ an_action plane hs =
    behind_parameters tops (map (known_local tops) k.locals ++ tops) k.parameters text plane hs
    (subst (λ (l : List Known). sort_in l text ≡ an_action plane hs) (append_assoc (map (known_parameter tops) k.parameters) (map (known_local tops) k.locals) tops) own) in
    let given : hs ≡ map (handed tops) f.place.of.parameters = handed_is tops tops (scope_in_control c.syntax k) (control_from c.syntax k) k.locals 0 text plane hs f behind at in (
      subst (λ (l : List Handed). AreHanded s (scope_in_control c.syntax k) l f.place.of.parameters) (sym given) (are_handed c place k accepted stands s f.place.of.parameters (parameters_known c place k accepted stands text f at)),
      differ c place k accepted stands text f at,
    )
