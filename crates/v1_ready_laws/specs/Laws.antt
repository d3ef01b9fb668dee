-- That a ready expression gives what the expression means.
use Rattle.std.specs.Prelude.{◌≡◌, List, IfSome, None}
use Rattle.std.specs.List.{AllZip}
use Rattle.p416_syntax.specs.declared.program.Syntax16.{Syntax16}
use Rattle.p416_syntax.specs.Tree.{Exp16}
use Rattle.p416_syntax.specs.Names.{Name}
use Rattle.p416_syntax.specs.Scopes.{Known, Scope, inside}
use Rattle.p416_syntax.specs.Calls.{Place}
use Rattle.p416_syntax.specs.Declarations.{layouts_of}
use Rattle.p416_syntax.specs.Breaks.{BreaksNone, program_rules}
use Rattle.v1_core.specs.Frames.{Moment, read}
use Rattle.v1_core.specs.Surroundings.{Root, World, named}
use Rattle.v1_core.specs.Expressions.{value_of}
use Rattle.v1_core.specs.Numbered.{Variable, InScope, frame_in}
use Rattle.v1_core.specs.Cells.{Cells}
use Rattle.v1_core.specs.Programs.{frame_kinds, numbered16}
use Rattle.v1_core.specs.PackedFrames.{IsFrameOf}
use Rattle.v1_core.specs.Ready.{ready_value}
use Rattle.v1_ready_forms.specs.Named.{NamedSeat, seats_in}
use Rattle.v1_ready_forms.specs.Ways.{Way}
use Rattle.v1_ready_forms.specs.Expressions.{name_ready, asked_ready}
use Rattle.v1_ready_laws.specs.Asked.{asked_value, Gives}
use Rattle.v1_ready_laws.specs.Operands.{OperandsFit}
use Rattle.v1_ready_laws.specs.Widths.{TypesNarrow, KindsNarrow}
use Rattle.v1_ready_laws.specs.Kinds.{TypesSized, NamesAreOf}
use Rattle.v1_ready_laws.specs.Rules.{AppliesNone, Keeps, NamesSeated, IsVariable, with_inner_ones}

-- what is asked of a name is asked of the value that it means
abbrev pub NamesGive : World → Scope → List NamedSeat → Cells → Moment → Type 0
NamesGive w s seats c m =
    (way : Way) (text : Name) →
    IfSome (name_ready s.layouts seats way text)
    (λ r. ready_value c m.unparsed r ≡ asked_value way (read m.frame (named w.around m.frame text)))

-- where an expression is ready, its ready form gives what is asked of it
abbrev pub ReadyGives : Type 0
ReadyGives =
    (w : World) (s : Scope) (seats : List NamedSeat) (c : Cells) (m : Moment) (p : Place) (way : Way) (e : Exp16) →
    m.stopped ≡ None → NamesGive w s seats c m → OperandsFit w s m p e →
    IfSome (asked_ready s seats p way e) (λ r. Gives (ready_value c m.unparsed r) way (value_of w s p e m) m)

-- in a frame of a program, with these variables in scope, names mean what stands at their seats
abbrev pub ProgramNamesGive : Type 0
ProgramNamesGive =
    (syntax : Syntax16) (c : Cells) (w : World) (s : Scope) (who : InScope) (m : Moment) → IsFrameOf syntax c →
    TypesNarrow (layouts_of syntax.decls) → KindsNarrow (frame_kinds syntax) → s.layouts ≡ layouts_of syntax.decls →
    m.frame ≡ frame_in who (numbered16 syntax c) → NamesGive w s (seats_in syntax w.around.roots who) c m

-- so the ready expressions of a program give what its expressions mean
abbrev pub ProgramReadyGives : Type 0
ProgramReadyGives =
    (syntax : Syntax16) (c : Cells) (w : World) (s : Scope) (who : InScope) (m : Moment) (p : Place) (way : Way) (e : Exp16) →
    IsFrameOf syntax c → TypesNarrow (layouts_of syntax.decls) → KindsNarrow (frame_kinds syntax) →
    s.layouts ≡ layouts_of syntax.decls → m.frame ≡ frame_in who (numbered16 syntax c) → m.stopped ≡ None →
    OperandsFit w s m p e →
    IfSome (asked_ready s (seats_in syntax w.around.roots who) p way e) (λ r. Gives (ready_value c m.unparsed r) way (value_of w s p e m) m)

-- where an expression keeps the rules on types and sizes, and names are of their kinds, its operands have the widths that fit
abbrev pub OperandsAlwaysFit : Type 0
OperandsAlwaysFit =
    (w : World) (s : Scope) (c : Cells) (m : Moment) (p q : Place) (e : Exp16) → TypesSized s.layouts →
    NamesAreOf w s c m.frame → Keeps s q e → AppliesNone s e → OperandsFit w s m p e

-- so the ready expressions of a program that keeps the rules give what its expressions mean
abbrev pub JudgedReadyGives : Type 0
JudgedReadyGives =
    (syntax : Syntax16) (c : Cells) (w : World) (s : Scope) (who : InScope) (m : Moment) (p q : Place) (way : Way) (e : Exp16) →
    BreaksNone syntax program_rules → IsFrameOf syntax c → s.layouts ≡ layouts_of syntax.decls →
    m.frame ≡ frame_in who (numbered16 syntax c) → m.stopped ≡ None →
    NamesSeated s (seats_in syntax w.around.roots who) → Keeps s q e →
    IfSome (asked_ready s (seats_in syntax w.around.roots who) p way e) (λ r. Gives (ready_value c m.unparsed r) way (value_of w s p e m) m)

-- in a program that keeps the rules no bits are wider than 128, and each field of a type has a width of its own
abbrev pub AcceptedNarrow : Type 0
AcceptedNarrow =
    (syntax : Syntax16) → BreaksNone syntax program_rules →
    TypesNarrow (layouts_of syntax.decls) × TypesSized (layouts_of syntax.decls) × KindsNarrow (frame_kinds syntax)

-- names stay declared as what stands at their seats where variables or parameters of an action come in front of them
abbrev pub DeclaredStaySeated : Type 0
DeclaredStaySeated =
    (syntax : Syntax16) (s : Scope) (roots : List Root) (who : InScope) (vs : List Variable) (ks : List Known) →
    AllZip (IsVariable syntax) vs ks → NamesSeated s (seats_in syntax roots who) →
    NamesSeated (inside s ks) (seats_in syntax roots (with_inner_ones vs who))
