use Rattle.std.proofs.Common.{length, subst}
use Rattle.std.specs.Prelude.{All}
use Rattle.v1_core.specs.Layouts.{Layout}
use Rattle.v1_core.specs.internal.Parts.{AreFields, AreOwned, AreWithin}
use Rattle.v1_core.proofs.layout.FrameLayout.is_whole.Goals as goal

pub returns-clause-owned : goal.returns-clause-owned
returns-clause-owned c = subst (λ (l : Layout). AreOwned l.owners l.headers) c.self.view_is c.self.invariant.owned

pub returns-clause-slots : goal.returns-clause-slots
returns-clause-slots c = subst (λ (l : Layout). All (AreWithin (length l.widths)) l.headers) c.self.view_is c.self.invariant.slots

pub returns-clause-fields : goal.returns-clause-fields
returns-clause-fields c = subst (λ (l : Layout). AreFields l.owners l.headers) c.self.view_is c.self.invariant.fields
