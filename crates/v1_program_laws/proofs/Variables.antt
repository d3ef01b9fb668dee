-- The variables of a parser start at 0, one after another, and then come their initial values.
use Rattle.std.proofs.Common.{◌≡◌, ℕ, suc, ◌+◌, false, Option, Some, None, IfSome, List, [], ◌∷◌, ◌++◌, map, refl, sym, ap, ◌∙◌, subst, arith}
use Rattle.std.specs.Prelude.{flat_map, filter_map, fold}
use Rattle.p416_syntax.specs.declared.parsers.Var.{Var}
use Rattle.p416_syntax.specs.declared.parsers.Parser16.{Parser16}
use Rattle.p416_syntax.specs.Kinds.{Kind}
use Rattle.p416_syntax.specs.Scopes.{Scope}
use Rattle.p416_syntax.specs.Breaks.{BreaksNone, program_rules}
use Rattle.v1_core.specs.Frames as sem
use Rattle.v1_core.specs.Slots.{variable_kinds, var_kind, local_kinds}
use Rattle.v1_core.specs.Surroundings as meaning
use Rattle.v1_core.specs.Surroundings.{Setting}
use Rattle.v1_core.specs.Numbered.{Variable, InScope, nobody}
use Rattle.v1_core.specs.Parsing.{parser_of}
use Rattle.v1_core.specs.Blocks.{with_initial, begun, variables_of, with_variables, var_in}
use Rattle.v1_ready_blocks.specs.Moments.{Moment}
use Rattle.v1_ready_blocks.specs.Tests.{World, quiet_world}
use Rattle.v1_ready_blocks.specs.Statements as ready
use Rattle.v1_ready_blocks.specs.Statements.{Statement, nothing}
use Rattle.v1_ready_blocks.specs.Blocks.{parser_run}
use Rattle.v1_block_laws.specs.Standing.{AreOfKinds}
use Rattle.v1_block_laws.specs.Keeping.{Each}
use Rattle.v1_block_laws.specs.Variables.{vars_from, locals_from, scope_in_parser, parser_from, states_from, parser_variables, parser_seats}
use Rattle.v1_parser_laws.specs.Shown.{Shows, in_block}
use Rattle.v1_parser_laws.specs.States.{parser_world}
use Rattle.v1_ready_statements.specs.Blocks.{starts_from, initials_from, joined, whole_body, in_front as in_front_of}
use Rattle.v1_statement_laws.specs.Behind.{Waits, Shown, InContext}
use Rattle.v1_statement_laws.specs.Laws.{all_run}
use Rattle.v1_statement_laws.proofs.Quiet.{tests_evaluate}
use Rattle.v1_statement_laws.proofs.Starts.{variables_start}
use Rattle.v1_program_laws.specs.Parsers.{bare, as_locals, variables_of_parser}
use Rattle.v1_program_laws.proofs.Kept.{VarMeets, parser_meets, names_apart}
use Rattle.v1_program_laws.proofs.BegunVariables.{Numbered, numbered, all_on, EachBegun, all_begun, var_begins}
use Rattle.v1_program_laws.proofs.States.{vars_stand, context}

-- declarations that are variables

vars_again : (vars : List Var) → filter_map var_in (as_locals vars) ≡ vars
vars_again [] = refl
vars_again (v ∷ vars) = ap (λ (l : List Var). v ∷ l) (vars_again vars)

kinds_again : (s : Scope) (vars : List Var) → flat_map (local_kinds s) (as_locals vars) ≡ map (var_kind s) vars
kinds_again s [] = refl
kinds_again s (v ∷ vars) = ap (λ (l : List Kind). var_kind s v ∷ l) (kinds_again s vars)

variables_again : (s : Scope) (n : ℕ) (vars : List Var) → locals_from s n (as_locals vars) ≡ vars_from n vars
variables_again s n [] = refl
variables_again s n (v ∷ vars) =
    ap (λ (l : List Variable). record { called = v.name; number = n } ∷ l)
    (subst (λ (i : ℕ). locals_from s i (as_locals vars) ≡ vars_from (suc n) vars) (one_more n) (variables_again s (suc n) vars))
  where
    one_more : (q : ℕ) → suc q ≡ q + 1
    one_more q = omega arith

-- statements in front of another one
run_in_front : (z : World) (xs : List Statement) (last : Statement) (k : Moment) → ready.run z None (in_front_of xs last) k ≡ ready.run z None last (all_run z xs k)
run_in_front z [] last k = refl
run_in_front z (x ∷ xs) last k = run_in_front z xs last (ready.run z None x k)

module _ (c : Setting) (p : Parser16) (accepted : BreaksNone c.syntax program_rules) (found : parser_of c.syntax ≡ Some p) where
  abbrev s : Scope
  s = scope_in_parser c.syntax p

  abbrev w : meaning.World
  w = parser_world c p

  abbrev vars : List Variable
  vars = parser_variables c.syntax p

  abbrev from : ℕ
  from = parser_from c.syntax p

  abbrev who : InScope
  who = in_block vars []

  abbrev Starts : List Statement → Type 0
  Starts xs = (m : sem.Moment) (k : Moment) → Shown (Waits false c.syntax) c.syntax nobody m k → m.stopped ≡ None → Shown (Waits false c.syntax) c.syntax who (with_variables (variables_of s p.vars) m) (all_run quiet_world xs k)

  abbrev Begins : List Statement → Type 0
  Begins ys = (m : sem.Moment) (k : Moment) → Shown (Waits false c.syntax) c.syntax who m k → Shown (Waits false c.syntax) c.syntax who (fold (with_initial w) m p.vars) (all_run quiet_world ys k)

  starts : IfSome (starts_from (bare c.syntax) s from (as_locals p.vars)) Starts
  starts =
      subst (λ (l : List Var). IfSome (starts_from (bare c.syntax) s from (as_locals p.vars)) (λ xs. (m : sem.Moment) (k : Moment) → Shown (Waits false c.syntax) c.syntax nobody m k → m.stopped ≡ None → Shown (Waits false c.syntax) c.syntax who (with_variables (variables_of s l) m) (all_run quiet_world xs k))) (vars_again p.vars)
      (subst (λ (vs : List Variable). IfSome (starts_from (bare c.syntax) s from (as_locals p.vars)) (λ xs. (m : sem.Moment) (k : Moment) → Shown (Waits false c.syntax) c.syntax nobody m k → m.stopped ≡ None → Shown (Waits false c.syntax) c.syntax (in_block vs []) (with_variables (variables_of s (filter_map var_in (as_locals p.vars))) m) (all_run quiet_world xs k))) (variables_again s from p.vars)
      (variables_start false (bare c.syntax) quiet_world s from (as_locals p.vars) refl (subst (AreOfKinds (variable_kinds c.syntax) from) (sym (kinds_again s p.vars)) (vars_stand c p accepted found))))

  abbrev EachOf : ℕ → List Var → Type 0
  EachOf n vs = EachBegun (Waits false c.syntax) (bare c.syntax) w quiet_world who n (as_locals vs)

  at : InContext c.syntax w.around.roots (states_from c.syntax p) (states_from c.syntax p) (states_from c.syntax p) s who
  at = context c p accepted found (states_from c.syntax p) (states_from c.syntax p) (omega arith) (omega arith)

  each : (n : ℕ) (vs : List Var) → Each (VarMeets s) vs → Numbered vars n vs → AreOfKinds (variable_kinds c.syntax) n (map (var_kind s) vs) → EachOf n vs
  each n [] meets numbers are = tt
  each n (v ∷ vs) meets numbers are = (
    var_begins (Waits false c.syntax) (bare c.syntax) w quiet_world who (states_from c.syntax p) (states_from c.syntax p) (states_from c.syntax p) accepted at refl (λ text i. refl)
        (λ q r e kept. tests_evaluate false (bare c.syntax) w quiet_world (states_from c.syntax p) (states_from c.syntax p) (states_from c.syntax p) s who q r e accepted at refl kept)
        v n meets.0 numbers.0 are.0,
    each (suc n) vs meets.1 numbers.1 are.1,
  )

  initials : IfSome (initials_from (bare c.syntax) s (parser_seats c.syntax p) from (as_locals p.vars)) Begins
  initials =
      subst (λ (l : List Var). IfSome (initials_from (bare c.syntax) s (parser_seats c.syntax p) from (as_locals p.vars)) (λ ys. (m : sem.Moment) (k : Moment) → Shown (Waits false c.syntax) c.syntax who m k → Shown (Waits false c.syntax) c.syntax who (fold (with_initial w) m l) (all_run quiet_world ys k))) (vars_again p.vars)
      (all_begun (Waits false c.syntax) (bare c.syntax) w quiet_world who (as_locals p.vars) from
      (each from p.vars (parser_meets c.syntax p accepted found).0 (numbered from p.vars (names_apart c.syntax p accepted found)) (vars_stand c p accepted found)))

  pub variables_begin : (v : Statement) → variables_of_parser c.syntax p ≡ Some v
      → (m : sem.Moment) (n : Moment) → Shows c.syntax nobody m n → m.stopped ≡ None → Shows c.syntax who (begun w p.vars m) (parser_run v n)
  variables_begin v is m n h runs = by (starts_from (bare c.syntax) s from (as_locals p.vars)) (initials_from (bare c.syntax) s (parser_seats c.syntax p) from (as_locals p.vars)) starts initials is where
    by : (o q : Option (List Statement)) → IfSome o Starts → IfSome q Begins → whole_body (joined o q) (Some nothing) ≡ Some v → Shows c.syntax who (begun w p.vars m) (parser_run v n)
    by None None f g made = absurd (cc made)
    by None (Some ys) f g made = absurd (cc made)
    by (Some xs) None f g made = absurd (cc made)
    by (Some xs) (Some ys) f g made =
        subst (λ (r : Statement). Shows c.syntax who (begun w p.vars m) (parser_run r n)) (some_is (in_front_of (xs ++ ys) nothing) v made)
        (subst (λ (j : Moment). Shows c.syntax who (begun w p.vars m) j) (sym (run_in_front quiet_world (xs ++ ys) nothing n ∙ all_on quiet_world xs ys n))
        (g (with_variables (variables_of s p.vars) m) (all_run quiet_world xs n) (f m n (record { shows = h; waits = λ never. absurd (cc never) }) runs)).shows)
      where
        some_is : (x y : Statement) → Some x ≡ Some y → x ≡ y
        some_is x y h = cc
