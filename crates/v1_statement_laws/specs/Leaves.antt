-- What statements without others in them do, and the conditions of those that have some: that ready ones do the same (P4_16
-- 1.2, "Statements"). The laws on deeds, calls and tables give it for the blocks of a program.
use Rattle.std.specs.Prelude.{◌≡◌, ℕ, ◌+◌, ◌≤◌, List, [], ◌∷◌, length, map, IfSome, Option, Some, None}
use Rattle.p416_syntax.specs.declared.parts.Type16.{Type16}
use Rattle.p416_syntax.specs.Tree.{Exp16, Stmt16, assign, expression, var_is}
use Rattle.p416_syntax.specs.Names.{Name}
use Rattle.p416_syntax.specs.Kinds.{boolean}
use Rattle.p416_syntax.specs.Scopes.{Scope, kind_of_type}
use Rattle.p416_syntax.specs.Calls.{Place, value}
use Rattle.v1_core.specs.Frames as sem
use Rattle.v1_core.specs.Slots.{variable_kinds, parameter_kind}
use Rattle.v1_core.specs.Surroundings as meaning
use Rattle.v1_core.specs.Numbered.{Variable, InScope, named_values}
use Rattle.v1_core.specs.Statements.{condition, no_label, run}
use Rattle.v1_core.specs.Cells.{Cells}
use Rattle.v1_core.specs.Programs.{numbered16}
use Rattle.v1_core.specs.Scopes.{IsScope}
use Rattle.v1_ready_forms.specs.Named.{seats_in}
use Rattle.v1_ready_blocks.specs.Moments.{Moment}
use Rattle.v1_ready_blocks.specs.Tests.{Applied, World, test_value}
use Rattle.v1_ready_blocks.specs.Statements as ready
use Rattle.v1_ready_blocks.specs.Statements.{Statement}
use Rattle.v1_block_laws.specs.Standing.{AreOfKinds}
use Rattle.v1_block_laws.specs.Apart.{AreOutside}
use Rattle.v1_block_laws.specs.Variables.{parameters_from}
use Rattle.v1_ready_statements.specs.Around.{Around, Found, action_found, table_found}
use Rattle.v1_ready_statements.specs.Tested.{ready_test}
use Rattle.v1_ready_statements.specs.Statements.{ready_of_statement}
use Rattle.v1_statement_laws.specs.Behind.{Shown, LeftBehind, InContext, Within, declared_from, ValuedShows}
use Rattle.v1_statement_laws.specs.Meeting.{StatementMeets}

-- from moments that are one, and that nothing stopped, a statement and a ready one come to what is one behind these variables
abbrev pub RunsAlike : (Cells → Type 0) → Around → meaning.World → World → Scope → InScope → List Variable → Stmt16 → Statement → Type 0
RunsAlike P b w z s who vs x r =
    (ran : Option ℕ) (m : sem.Moment) (n : Moment) → Shown P b.syntax who m n → m.stopped ≡ None →
    LeftBehind P b.syntax who vs (run w s no_label x m) (ready.run z ran r n)

-- a statement whose expressions meet this, where it is ready
abbrev pub LeafShows : (Scope → Place → Exp16 → Type 0) → (Cells → Type 0) → Around → meaning.World → World → Scope → InScope → ℕ → Stmt16 → Type 0
LeafShows U P b w z s who n x =
    StatementMeets U s x → IfSome (ready_of_statement b s (seats_in b.syntax w.around.roots who) n x)
    (RunsAlike P b w z s who (declared_from s n x) x)

-- the action that ran by its name is the one by its number
abbrev pub ActionsAlike : Around → Option Name → Option ℕ → Type 0
ActionsAlike b None None = Unit {0}
ActionsAlike b (Some text) (Some number) = (f : Found) × (action_found b text ≡ Some f) × (f.number ≡ number)
ActionsAlike b _ _ = ⊥

-- applications of a table tell the same and leave moments that are one
pub record AppliedShows (P : Cells → Type 0) (b : Around) (who : InScope) (x : meaning.Applied) (y : Applied) : Type 0 where
  pub hit : x.hit ≡ y.hit
  pub action : ActionsAlike b x.action y.action
  pub moment : Shown P b.syntax who x.moment y.moment
  pub runs : x.moment.stopped ≡ None

-- while an action runs its parameters are in scope beside the variables of the block
abbrev pub called_names : InScope → Found → InScope
called_names who f = record { variables = who.variables; inner = parameters_from f.place.first f.place.of.parameters }

-- What an action does that a statement calls, where its parameters are in scope: from moments that are one it comes to moments that are
-- one, no error comes, and the variables of the statement stay. Its parameters have places of their own.
pub record ActionDoes (P : Cells → Type 0) (b : Around) (w : meaning.World) (z : World) (who : InScope) (f : Found) : Type 0 where
  pub shown : (m : sem.Moment) (k : Moment) → Shown P b.syntax (called_names who f) m k → m.stopped ≡ None → Shown P b.syntax (called_names who f) (w.act f.place.of m) (z.act f.number k)
  pub runs : (m : sem.Moment) (k : Moment) → Shown P b.syntax (called_names who f) m k → m.stopped ≡ None → (w.act f.place.of m).stopped ≡ None
  pub stays : (m : sem.Moment) (k : Moment) → Shown P b.syntax (called_names who f) m k → m.stopped ≡ None → named_values (numbered16 b.syntax (z.act f.number k).cells).variables who.inner ≡ named_values (numbered16 b.syntax k.cells).variables who.inner
  pub scope : IsScope (length (variable_kinds b.syntax)) (called_names who f)
  pub apart : AreOutside f.place.first (f.place.first + length f.place.of.parameters) who.inner
  pub outside : AreOutside f.place.first (f.place.first + length f.place.of.parameters) who.variables
  pub kinds : AreOfKinds (variable_kinds b.syntax) f.place.first (map (parameter_kind w.around.scope) f.place.of.parameters)

-- In a block with these variables, whose actions and tables do what these do. What is said of a statement is said where its
-- expressions meet something, such as the rules.
pub record Leaves (U : Scope → Place → Exp16 → Type 0) (P : Cells → Type 0) (b : Around) (w : meaning.World) (z : World) (vars : List Variable) (from to : ℕ) : Type 0 where
  pub assigns : (s : Scope) (who : InScope) (n : ℕ) (target e : Exp16) → Within vars b.syntax w.around.roots from to n s who → LeafShows U P b w z s who n (assign target e)
  pub calls : (s : Scope) (who : InScope) (n : ℕ) (e : Exp16) → Within vars b.syntax w.around.roots from to n s who → LeafShows U P b w z s who n (expression e)
  pub initials : (s : Scope) (who : InScope) (n : ℕ) (t : Type16) (called : Name) (e : Exp16) → Within vars b.syntax w.around.roots from to n s who → AreOfKinds (variable_kinds b.syntax) n (kind_of_type s.names t ∷ []) → n + 1 ≤ to → LeafShows U P b w z s who n (var_is t called e)
  pub conditions : (s : Scope) (who : InScope) (n : ℕ) (c : Exp16) → Within vars b.syntax w.around.roots from to n s who → U s (value boolean) c → IfSome (ready_test s (seats_in b.syntax w.around.roots who) (table_found b) (value boolean) c) (λ t. (m : sem.Moment) (k : Moment) → Shown P b.syntax who m k → m.stopped ≡ None → ValuedShows P b.syntax who (condition w s c m) (test_value z.apply t k))
  pub tables : (s : Scope) (who : InScope) (n : ℕ) (text : Name) → Within vars b.syntax w.around.roots from to n s who → IfSome (table_found b text) (λ table. (m : sem.Moment) (k : Moment) → Shown P b.syntax who m k → m.stopped ≡ None → AppliedShows P b who (w.apply text m) (z.apply table k))
