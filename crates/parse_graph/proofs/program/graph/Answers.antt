use Rattle.std.proofs.Common.{rules}
use Rattle.parse_graph.proofs.Starts.{begins}
use Rattle.parse_graph.proofs.Stating.{whole, idle_same}
use Rattle.parse_graph.proofs.program.graph.Goals as goal

pub returns-clause-whole : goal.returns-clause-whole
returns-clause-whole c = whole c.args.syntax.now.decls c.in_ok-states.states (rw (c.in_ok-names.ensures, c.as_slice-decls.ensures) at c.in_ok-states.ensures)

pub returns-clause-idle : goal.returns-clause-idle
returns-clause-idle c = idle_same c.args.syntax.now.decls c.in_ok-states.states (rw (c.in_ok-names.ensures, c.as_slice-decls.ensures) at c.in_ok-states.ensures)

pub returns-clause-start : goal.returns-clause-start
returns-clause-start c = λ has. begins c.args.syntax.now.decls _ (search rules) has
