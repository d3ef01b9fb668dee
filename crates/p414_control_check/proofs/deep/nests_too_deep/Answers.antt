use Rattle.std.proofs.Common.{List, sym, subst}
use Rattle.std.specs.Prelude.{IsTrue}
use Rattle.p414_syntax.specs.declared.syntax.Decl.{Decl}
use Rattle.p414_syntax.specs.Controls.{ControlCallsItself}
use Rattle.p414_syntax.specs.Unknown.{has_unknown_name}
use Rattle.p414_control_check.proofs.deep.nests_too_deep.Goals as goal

pub nest_too_deep-requires-clause-known : goal.nest_too_deep-requires-clause-known
nest_too_deep-requires-clause-known c = subst (λ (ds : List Decl). IsTrue (has_unknown_name ds) → ⊥) (sym c.in_ok-controls.ensures) c.requires.known

pub nest_too_deep-requires-clause-acyclic : goal.nest_too_deep-requires-clause-acyclic
nest_too_deep-requires-clause-acyclic c = subst (λ (ds : List Decl). ControlCallsItself ds → ⊥) (sym c.in_ok-controls.ensures) c.requires.acyclic
