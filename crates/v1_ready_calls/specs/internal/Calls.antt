-- A call by what is called and its arguments.
use Rattle.std.specs.Prelude.{List, Option, Some, None}
use Rattle.p416_syntax.specs.Tree.{Exp16, call}
use Rattle.p416_syntax.specs.Scopes.{Scope}
use Rattle.v1_ready_forms.specs.Named.{NamedSeat}
use Rattle.v1_ready_blocks.specs.Statements.{Statement}
use Rattle.v1_ready_statements.specs.Around.{Around}
use Rattle.v1_ready_statements.specs.Called.{call_ready}
use Rattle.v1_ready_calls.specs.declared.calls.Called.{Called}
use Rattle.v1_ready_operands.specs.internal.Passes.{let_go_ready}

abbrev pub call_in : Exp16 → Option Called
call_in (call e given) = Some (record { callee = e; given = given })
call_in _ = None

abbrev pub ready_by : Around → Scope → List NamedSeat → Exp16 → Option Called → Option Statement
ready_by b s seats e (Some x) = call_ready b s seats x.callee x.given
ready_by b s seats e None = let_go_ready b s seats e
