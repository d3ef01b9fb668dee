use Rattle.std.proofs.Common.{refl, sym, subst}
use Rattle.p416_syntax.specs.Tree.{Exp16}
use Rattle.v1_ready_operands.specs.internal.Passes.{IsCallOf}
use Rattle.v1_ready_methods.proofs.methods.ready_method.Goals as goal

pub call_header-requires-clause-whole : goal.call_header-requires-clause-whole
call_header-requires-clause-whole c = subst (λ (x : Exp16). IsCallOf x c.args.owner.now) (sym c.requires.whole) refl
