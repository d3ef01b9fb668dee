-- The ready expressions of a program give what its expressions mean.
use Rattle.std.proofs.Common.{◌≡◌, None, IfSome}
use Rattle.p416_syntax.specs.declared.program.Syntax16.{Syntax16}
use Rattle.p416_syntax.specs.Tree.{Exp16}
use Rattle.p416_syntax.specs.Scopes.{Scope}
use Rattle.p416_syntax.specs.Calls.{Place}
use Rattle.p416_syntax.specs.Declarations.{layouts_of}
use Rattle.v1_core.specs.Frames.{Moment}
use Rattle.v1_core.specs.Surroundings.{World}
use Rattle.v1_core.specs.Expressions.{value_of}
use Rattle.v1_core.specs.Numbered.{InScope, frame_in}
use Rattle.v1_core.specs.Cells.{Cells}
use Rattle.v1_core.specs.Programs.{frame_kinds, numbered16}
use Rattle.v1_core.specs.PackedFrames.{IsFrameOf}
use Rattle.v1_core.specs.Ready.{ready_value}
use Rattle.v1_ready_forms.specs.Named.{seats_in}
use Rattle.v1_ready_forms.specs.Ways.{Way}
use Rattle.v1_ready_forms.specs.Expressions.{asked_ready}
use Rattle.v1_ready_laws.specs.Asked.{Gives}
use Rattle.v1_ready_laws.specs.Operands.{OperandsFit}
use Rattle.v1_ready_laws.specs.Widths.{TypesNarrow, KindsNarrow}
use Rattle.v1_ready_laws.proofs.Expressions.{ready_gives}
use Rattle.v1_ready_laws.proofs.Named.{names_give}

pub program_gives : (syntax : Syntax16) (c : Cells) (w : World) (s : Scope) (who : InScope) (m : Moment) (p : Place) (way : Way) (e : Exp16) → IsFrameOf syntax c → TypesNarrow (layouts_of syntax.decls) → KindsNarrow (frame_kinds syntax) → s.layouts ≡ layouts_of syntax.decls → m.frame ≡ frame_in who (numbered16 syntax c) → m.stopped ≡ None → OperandsFit w s m p e → IfSome (asked_ready s (seats_in syntax w.around.roots who) p way e) (λ r. Gives (ready_value c m.unparsed r) way (value_of w s p e m) m)
program_gives syntax c w s who m p way e is narrow kinds types frame runs fit =
    ready_gives w s (seats_in syntax w.around.roots who) c m p way e runs (names_give syntax c w s who m is narrow kinds types frame) fit
