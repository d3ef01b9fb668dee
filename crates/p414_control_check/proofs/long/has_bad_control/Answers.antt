use Rattle.std.proofs.Common.{List, sym, subst}
use Rattle.std.specs.Prelude.{IsTrue}
use Rattle.p414_syntax.specs.declared.syntax.Decl.{Decl}
use Rattle.p414_syntax.specs.Unknown.{has_unknown_name}
use Rattle.p414_control_check.proofs.long.has_bad_control.Goals as goal

pub are_bad-requires : goal.are_bad-requires
are_bad-requires c = subst (λ (ds : List Decl). IsTrue (has_unknown_name ds) → ⊥) (sym c.in_ok-controls.ensures) c.requires
