-- The variables of a control with their initial values.
use Rattle.std.proofs.Common.{◌≡◌, ℕ, suc, ◌+◌, Bool, true, false, cond, Option, Some, None, IfSome, List, [], ◌∷◌, ◌++◌, length, map, refl, ap, ◌∙◌, subst, arith}
use Rattle.std.specs.Prelude.{flat_map, filter_map}
use Rattle.std.specs.List.{list_any}
use Rattle.std.specs.Option.{option_map_or}
use Rattle.std.specs.Str.{bytes_eq}
use Rattle.std.proofs.lemmas.Slice.Eq.{bytes_eq-Decides}
use Rattle.p416_syntax.specs.declared.parsers.Var.{Var}
use Rattle.p416_syntax.specs.declared.controls.Local.{Local}
use Rattle.p416_syntax.specs.declared.controls.Local.TheVariants as local
use Rattle.p416_syntax.specs.declared.controls.Control16.{Control16}
use Rattle.p416_syntax.specs.declared.program.Decl16.TheVariants as decl
use Rattle.p416_syntax.specs.Tree.{Exp16}
use Rattle.p416_syntax.specs.Names.{Name, has_name, repeats}
use Rattle.p416_syntax.specs.Scopes.{Known, called_of, Scope, kind_of_type, known_parameter}
use Rattle.p416_syntax.specs.Calls.{value}
use Rattle.p416_syntax.specs.Uses.{Use, of_variable, of_block_parameter, names_of_scope, some_counters, type_uses, uses}
use Rattle.p416_syntax.specs.Declarations.{known_local, control_names, parameter_uses, local_uses, var_uses, body_uses, control_uses, counters_in, tables_in}
use Rattle.p416_syntax.specs.Main.{positions_of}
use Rattle.p416_syntax.specs.Unknown.{declared_name}
use Rattle.p416_syntax.specs.Breaks.{BreaksNone, program_rules, scope_of, uses_in, program_uses}
use Rattle.v1_core.specs.declared.block.Block.{Block}
use Rattle.v1_core.specs.Frames as sem
use Rattle.v1_core.specs.Slots.{variable_kinds, local_kinds, kinds_in}
use Rattle.v1_core.specs.Surroundings as meaning
use Rattle.v1_core.specs.Surroundings.{Setting}
use Rattle.v1_core.specs.Numbered.{Variable, InScope, number_of}
use Rattle.v1_core.specs.Blocks.{around_control, control_world, control_at, with_initial}
use Rattle.v1_core.specs.Cells.{Cells}
use Rattle.v1_ready_blocks.specs.Moments.{Moment}
use Rattle.v1_ready_blocks.specs.Tests.{World}
use Rattle.v1_ready_blocks.specs.Statements.{Statement, run}
use Rattle.v1_block_laws.specs.Standing.{AreOfKinds}
use Rattle.v1_block_laws.specs.Variables.{variable, locals_from, is_control, scope_in_control, control_from, body_from, control_variables, control_seats}
use Rattle.v1_block_laws.proofs.Tests.{first_false, second_false}
use Rattle.v1_block_laws.proofs.Standing.{apart}
use Rattle.v1_block_laws.proofs.Accepted.{none_within}
use Rattle.v1_block_laws.proofs.Finding.{found_stands}
use Rattle.v1_block_laws.proofs.Blocks.{control_declared, control_seated, body_apart}
use Rattle.v1_parser_laws.specs.Shown.{in_block}
use Rattle.v1_value_laws.proofs.Scopes.{top_is_fine, control_is_fine}
use Rattle.v1_ready_statements.specs.Around.{Around}
use Rattle.v1_ready_statements.specs.Statements.{initial_ready}
use Rattle.v1_ready_statements.specs.Blocks as ready
use Rattle.v1_statement_laws.specs.Behind.{Waits, Shown, InContext}
use Rattle.v1_statement_laws.specs.Meeting.{FindNothing}
use Rattle.v1_program_laws.proofs.Kept.{find_front, find_back}
use Rattle.v1_call_laws.specs.Telling.{ToldNone, TestsTell}
use Rattle.v1_control_laws.specs.Controls.{rule_tests, InitialDoes, InitialsDo, BodyTablesDo}
use Rattle.v1_control_laws.proofs.Outside.{outside_parsers}
use Rattle.v1_control_laws.proofs.Answering.{tables_tell, rules_tell_none}
use Rattle.v1_program_laws.specs.Giving.{LocalsTold}
use Rattle.v1_program_laws.proofs.Beginning.{Begins, one_begins}

weaker : (A B : Statement → Type 0) (o : Option Statement) → ((r : Statement) → A r → B r) → IfSome o A → IfSome o B
weaker A B None f h = tt
weaker A B (Some r) f h = f r h

repeats_back : (xs ys : List Name) → repeats (xs ++ ys) ≡ false → repeats ys ≡ false
repeats_back [] ys h = h
repeats_back (x ∷ xs) ys h = repeats_back xs ys (second_false (list_any (bytes_eq x) (xs ++ ys)) (repeats (xs ++ ys)) h)

map_joined : (xs ys : List Known) → map called_of (xs ++ ys) ≡ map called_of xs ++ map called_of ys
map_joined [] ys = refl
map_joined (x ∷ xs) ys = ap (λ (l : List Name). called_of x ∷ l) (map_joined xs ys)

one_more : (q : ℕ) → suc q ≡ q + 1
one_more q = omega arith

-- each of these variables has its number by its name

module _ (s : Scope) (names : List Known) where
  abbrev names_in : List Local → List Name
  names_in locals = map called_of (map (known_local names) locals)

  abbrev pub Numbered : List Variable → ℕ → List Local → Type 0
  Numbered all n [] = Unit {0}
  Numbered all n (local.Var v ∷ locals) = (number_of all v.name ≡ Some n) × Numbered all (suc n) locals
  Numbered all n (local.Instance notes i ∷ locals) = Numbered all (n + length (local_kinds s (local.Instance notes i))) locals
  Numbered all n (local.Action a ∷ locals) = Numbered all (n + length (local_kinds s (local.Action a))) locals
  Numbered all n (local.Table t ∷ locals) = Numbered all (n + length (local_kinds s (local.Table t))) locals

  behind_other : (x : Variable) (all : List Variable) (n : ℕ) (locals : List Local) → list_any (bytes_eq x.called) (names_in locals) ≡ false → Numbered all n locals → Numbered (x ∷ all) n locals
  behind_other x all n [] other h = tt
  behind_other x all n (local.Var v ∷ locals) other h = (
    ap (λ (t : Bool). cond t (Some x.number) (number_of all v.name)) (first_false (bytes_eq x.called v.name) (list_any (bytes_eq x.called) (names_in locals)) other) ∙ h.0,
    behind_other x all (suc n) locals (second_false (bytes_eq x.called v.name) (list_any (bytes_eq x.called) (names_in locals)) other) h.1,
  )
  behind_other x all n (local.Instance notes i ∷ locals) other h = behind_other x all (n + length (local_kinds s (local.Instance notes i))) locals (second_false (bytes_eq x.called (called_of (known_local names (local.Instance notes i)))) (list_any (bytes_eq x.called) (names_in locals)) other) h
  behind_other x all n (local.Action a ∷ locals) other h = behind_other x all (n + length (local_kinds s (local.Action a))) locals (second_false (bytes_eq x.called (called_of (known_local names (local.Action a)))) (list_any (bytes_eq x.called) (names_in locals)) other) h
  behind_other x all n (local.Table t ∷ locals) other h = behind_other x all (n + length (local_kinds s (local.Table t))) locals (second_false (bytes_eq x.called (called_of (known_local names (local.Table t)))) (list_any (bytes_eq x.called) (names_in locals)) other) h

  pub numbered : (n : ℕ) (locals : List Local) → repeats (names_in locals) ≡ false → Numbered (locals_from s n locals) n locals
  numbered n [] once = tt
  numbered n (local.Var v ∷ locals) once = (
    ap (λ (t : Bool). cond t (Some n) (number_of (locals_from s (n + 1) locals) v.name)) ((bytes_eq-Decides v.name v.name).1 refl),
    behind_other (variable v.name n) (locals_from s (n + 1) locals) (suc n) locals (first_false (has_name (names_in locals) v.name) (repeats (names_in locals)) once)
        (subst (λ (q : ℕ). Numbered (locals_from s q locals) (suc n) locals) (one_more n) (numbered (suc n) locals (second_false (has_name (names_in locals) v.name) (repeats (names_in locals)) once))),
  )
  numbered n (local.Instance notes i ∷ locals) once = numbered (n + length (local_kinds s (local.Instance notes i))) locals (second_false (has_name (names_in locals) (called_of (known_local names (local.Instance notes i)))) (repeats (names_in locals)) once)
  numbered n (local.Action a ∷ locals) once = numbered (n + length (local_kinds s (local.Action a))) locals (second_false (has_name (names_in locals) (called_of (known_local names (local.Action a)))) (repeats (names_in locals)) once)
  numbered n (local.Table t ∷ locals) once = numbered (n + length (local_kinds s (local.Table t))) locals (second_false (has_name (names_in locals) (called_of (known_local names (local.Table t)))) (repeats (names_in locals)) once)

module _ (c : Setting) (place : Block) (k : Control16) (accepted : BreaksNone c.syntax program_rules) (stands : control_at c.syntax place ≡ Some k) (passes : FindNothing rule_tests (program_uses c.syntax)) (z : World) where
  abbrev scope : Scope
  scope = scope_in_control c.syntax k

  abbrev top : Scope
  top = scope_of c.syntax (decl.Control k)

  abbrev w : meaning.World
  w = control_world (around_control c place k)

  abbrev b : Around
  b = ready.around_control c.syntax k

  abbrev vars : List Variable
  vars = control_variables c.syntax k

  abbrev who : InScope
  who = in_block vars []

  abbrev first : ℕ
  first = body_from c.syntax k

  locals_stand : AreOfKinds (variable_kinds c.syntax) (control_from c.syntax k) (flat_map (local_kinds scope) k.locals)
  locals_stand = (apart (variable_kinds c.syntax) (control_from c.syntax k) (flat_map (local_kinds scope) k.locals) (kinds_in scope k.body) (found_stands c.syntax (is_control k.name) (decl.Control k) (control_declared c.syntax place k stands))).0

  at : InContext c.syntax w.around.roots first (first + length (kinds_in scope k.body)) first scope who
  at = record {
    layouts = refl;
    fine = control_is_fine top k (top_is_fine c.syntax.decls (positions_of c.syntax (declared_name (decl.Control k))));
    seated = control_seated c.syntax place k accepted stands;
    body = body_apart c.syntax place k stands;
  }

  -- what is judged in the control
  control_passes : FindNothing rule_tests (control_uses top k)
  control_passes = all rule_tests passes where
    all : (tests : List (Use → Bool)) → FindNothing tests (program_uses c.syntax) → FindNothing tests (uses_in c.syntax (decl.Control k))
    all [] h = tt
    all (test ∷ tests) h = (none_within c.syntax (is_control k.name) test (decl.Control k) (control_declared c.syntax place k stands) h.0, all tests h.1)

  abbrev in_front_of : List Use
  in_front_of = names_of_scope (map called_of (control_names top.names k)) ∷ some_counters (filter_map counters_in (tables_in k)) ∷ flat_map (parameter_uses top of_block_parameter) k.parameters

  locals_pass : FindNothing rule_tests (flat_map (local_uses scope) k.locals)
  locals_pass = find_back rule_tests in_front_of (flat_map (local_uses scope) k.locals) (find_front rule_tests (in_front_of ++ flat_map (local_uses scope) k.locals) (body_uses scope 1 k.body) control_passes)

  names_apart : repeats (map called_of (map (known_local top.names) k.locals)) ≡ false
  names_apart =
      let all : repeats (map called_of (control_names top.names k)) ≡ false = first_false (repeats (map called_of (control_names top.names k))) _ control_passes.0 in
      repeats_back (map called_of (map (known_parameter top.names) k.parameters)) (map called_of (map (known_local top.names) k.locals))
      (subst (λ (l : List Name). repeats l ≡ false) (map_joined (map (known_parameter top.names) k.parameters) (map (known_local top.names) k.locals)) all)

  module _ (tell : TestsTell (Waits true c.syntax) b w z scope who) where
    initial : (v : Var) (n : ℕ) → FindNothing rule_tests (var_uses scope v) → IfSome v.initial (ToldNone scope) → number_of vars v.name ≡ Some n → AreOfKinds (variable_kinds c.syntax) n (kind_of_type scope.names v.of ∷ []) → InitialDoes w z c.syntax place k n v.of v.name v.initial
    initial v n judged told named are = by v.initial (find_back rule_tests (type_uses scope of_variable v.of) (option_map_or (uses scope (value (kind_of_type scope.names v.of))) v.initial []) judged) told where
      by : (o : Option Exp16) → FindNothing rule_tests (option_map_or (uses scope (value (kind_of_type scope.names v.of))) o []) → IfSome o (ToldNone scope) → InitialDoes w z c.syntax place k n v.of v.name o
      by None judged told = tt
      by (Some e) judged told =
          weaker (Begins (Waits true c.syntax) b w z first (first + length (kinds_in scope k.body)) first who accepted at tell (record { of = v.of; name = v.name; initial = Some e }))
          (λ x. (m : sem.Moment) (j : Moment) → Shown (Waits true c.syntax) c.syntax who m j → m.stopped ≡ None → Shown (Waits true c.syntax) c.syntax who (with_initial w m (record { of = v.of; name = v.name; initial = Some e })) (run z None x j))
          (initial_ready b scope (control_seats c.syntax place k) n (kind_of_type scope.names v.of) e)
          (λ x f m j shown runs. f None m j shown runs)
          (one_begins (Waits true c.syntax) b w z first (first + length (kinds_in scope k.body)) first who accepted at tell (record { of = v.of; name = v.name; initial = Some e }) n e refl (judged, told) named are.0)

    each : (n : ℕ) (locals : List Local) → FindNothing rule_tests (flat_map (local_uses scope) locals) → LocalsTold scope locals → Numbered scope top.names vars n locals → AreOfKinds (variable_kinds c.syntax) n (flat_map (local_kinds scope) locals) → InitialsDo w z c.syntax place k n locals
    each n [] judged told numbers are = tt
    each n (local.Var v ∷ locals) judged told numbers are = (
      initial v n (find_front rule_tests (var_uses scope v) (flat_map (local_uses scope) locals) judged) told.0 numbers.0 (are.0, tt),
      each (suc n) locals (find_back rule_tests (var_uses scope v) (flat_map (local_uses scope) locals) judged) told.1 numbers.1 are.1,
    )
    each n (local.Instance notes i ∷ locals) judged told numbers are = each (n + length (local_kinds scope (local.Instance notes i))) locals (find_back rule_tests (local_uses scope (local.Instance notes i)) (flat_map (local_uses scope) locals) judged) told numbers (apart (variable_kinds c.syntax) n (local_kinds scope (local.Instance notes i)) (flat_map (local_kinds scope) locals) are).1
    each n (local.Action a ∷ locals) judged told numbers are = each (n + length (local_kinds scope (local.Action a))) locals (find_back rule_tests (local_uses scope (local.Action a)) (flat_map (local_uses scope) locals) judged) told numbers (apart (variable_kinds c.syntax) n (local_kinds scope (local.Action a)) (flat_map (local_kinds scope) locals) are).1
    each n (local.Table t ∷ locals) judged told numbers are = each (n + length (local_kinds scope (local.Table t))) locals (find_back rule_tests (local_uses scope (local.Table t)) (flat_map (local_uses scope) locals) judged) told numbers (apart (variable_kinds c.syntax) n (local_kinds scope (local.Table t)) (flat_map (local_kinds scope) locals) are).1

    pub initials_do : LocalsTold scope k.locals → InitialsDo w z c.syntax place k (control_from c.syntax k) k.locals
    initials_do told = each (control_from c.syntax k) k.locals locals_pass told (numbered scope top.names (control_from c.syntax k) k.locals names_apart) locals_stand

  -- where tables do the same

  told_in : (locals : List Local) → FindNothing rule_tests (flat_map (local_uses scope) locals) → LocalsTold scope locals
  told_in [] judged = tt
  told_in (local.Var v ∷ locals) judged = (
    by v.initial (find_back rule_tests (type_uses scope of_variable v.of) (option_map_or (uses scope (value (kind_of_type scope.names v.of))) v.initial []) (find_front rule_tests (var_uses scope v) (flat_map (local_uses scope) locals) judged)),
    told_in locals (find_back rule_tests (var_uses scope v) (flat_map (local_uses scope) locals) judged),
  ) where
    by : (o : Option Exp16) → FindNothing rule_tests (option_map_or (uses scope (value (kind_of_type scope.names v.of))) o []) → IfSome o (ToldNone scope)
    by None j = tt
    by (Some e) j = rules_tell_none scope (value (kind_of_type scope.names v.of)) e refl (outside_parsers c.syntax place k accepted stands) tt j.0 j.1.1.0 j.1.1.1.1.1.1.1.1.0
  told_in (local.Instance notes i ∷ locals) judged = told_in locals (find_back rule_tests (local_uses scope (local.Instance notes i)) (flat_map (local_uses scope) locals) judged)
  told_in (local.Action a ∷ locals) judged = told_in locals (find_back rule_tests (local_uses scope (local.Action a)) (flat_map (local_uses scope) locals) judged)
  told_in (local.Table t ∷ locals) judged = told_in locals (find_back rule_tests (local_uses scope (local.Table t)) (flat_map (local_uses scope) locals) judged)

  pub initials_follow : ((o : Option Cells) → BodyTablesDo c place k z o) → InitialsDo w z c.syntax place k (control_from c.syntax k) k.locals
  initials_follow tables =
      initials_do (tables_tell None b w z scope who accepted refl at.seated at.fine (λ text. tables None scope who first text (record { context = at; variables = refl })))
      (told_in k.locals locals_pass)
