use Rattle.std.proofs.Common.{◌≡◌, List, drop}
use Rattle.p416_syntax.specs.Scopes.{Scope}
use Rattle.v1_ready_forms.specs.Named.{NamedSeat}
use Rattle.v1_ready_statements.specs.Around.{Around}
use Rattle.v1_ready_statements.specs.Given.{all_incoming, all_outgoing}
use Rattle.v1_ready_operands.specs.internal.Passes.{behind_in, behind_out}
use Rattle.v1_ready_operands.proofs.passed.passed_to.Given as goal

abbrev pub invariant-loop-parameter : goal.invariant-loop-parameter
invariant-loop-parameter l = record {
  incoming : (b : Around) (s : Scope) (seats : List NamedSeat) → behind_in b s seats l.passed (all_incoming b s seats l.number (drop l.parameter-index l.parameters) l.arguments) ≡ all_incoming b s seats l.first l.parameters l.fn.arguments;
  outgoing : (b : Around) (s : Scope) (seats : List NamedSeat) → behind_out b s seats l.passed (all_outgoing b s seats l.number (drop l.parameter-index l.parameters) l.arguments) ≡ all_outgoing b s seats l.first l.parameters l.fn.arguments;
}
