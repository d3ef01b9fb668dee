-- That headers have bits for fields in all scopes, that l-values stand at seats of the forms of their kinds, and that values are of
-- the classes of theirs.
use Rattle.std.specs.Prelude.{◌≡◌, ℕ, List, None, IfSome}
use Rattle.p416_syntax.specs.declared.parsers.Parser16.{Parser16}
use Rattle.p416_syntax.specs.declared.controls.Action16.{Action16}
use Rattle.p416_syntax.specs.declared.controls.Control16.{Control16}
use Rattle.p416_syntax.specs.declared.program.Decl16.{Decl16}
use Rattle.p416_syntax.specs.declared.program.Syntax16.{Syntax16}
use Rattle.p416_syntax.specs.Tree.{Exp16, Stmt16}
use Rattle.p416_syntax.specs.Scopes.{Scope}
use Rattle.p416_syntax.specs.Calls.{Place}
use Rattle.p416_syntax.specs.Statements.{behind}
use Rattle.p416_syntax.specs.Declarations.{layouts_of, top_scope, parser_scope, control_scope, action_scope}
use Rattle.p416_syntax.specs.Expressions.{kind_of}
use Rattle.p416_syntax.specs.Breaks.{BreaksNone, program_rules}
use Rattle.v1_core.specs.Values.{Value}
use Rattle.v1_core.specs.Frames.{Moment}
use Rattle.v1_core.specs.Surroundings.{World}
use Rattle.v1_core.specs.Numbered.{InScope, frame_in}
use Rattle.v1_core.specs.Cells.{Cells}
use Rattle.v1_core.specs.Programs.{numbered16}
use Rattle.v1_core.specs.PackedFrames.{IsFrameOf}
use Rattle.v1_core.specs.Ready.{given, ready_value}
use Rattle.v1_ready_forms.specs.Named.{NamedSeat, seats_in}
use Rattle.v1_ready_forms.specs.Expressions.{ready_of_exp}
use Rattle.v1_ready_laws.specs.Rules.{Keeps, NamesSeated}
use Rattle.v1_place_laws.specs.Places.{meant_by}
use Rattle.v1_value_laws.specs.Kinds.{Fine, FormIs}
use Rattle.v1_value_laws.specs.Classes.{IsOfClass}

-- headers have bits for fields in the scopes of the top, of parsers, of controls and of their actions, and behind statements

abbrev pub ScopesFine : Type 0
ScopesFine =
    (ds : List Decl16) (positions : List ℕ) →
    Fine (top_scope ds positions) × ((p : Parser16) → Fine (parser_scope (top_scope ds positions) p))
    × ((c : Control16) → Fine (control_scope (top_scope ds positions) c))
    × ((c : Control16) (a : Action16) → Fine (action_scope (control_scope (top_scope ds positions) c) a))

abbrev pub ScopesStayFine : Type 0
ScopesStayFine = (s : Scope) (x : Stmt16) → Fine s → Fine (behind x s)

-- what an l-value means, but for a slice, stands at a seat of the form of its kind
abbrev pub PlacesOfForms : Type 0
PlacesOfForms =
    (s : Scope) (seats : List NamedSeat) (e : Exp16) → Fine s → NamesSeated s seats →
    IfSome (meant_by s seats e) (λ x. x.slice ≡ None → FormIs s.layouts (kind_of s e) x.spot.seat.form)

-- where a ready expression gives a value, it is of the class of its kind
abbrev pub ValuesOfClasses : Type 0
ValuesOfClasses =
    (syntax : Syntax16) (c : Cells) (w : World) (s : Scope) (who : InScope) (m : Moment) (p q : Place) (e : Exp16) →
    BreaksNone syntax program_rules → IsFrameOf syntax c → s.layouts ≡ layouts_of syntax.decls →
    m.frame ≡ frame_in who (numbered16 syntax c) → m.stopped ≡ None →
    NamesSeated s (seats_in syntax w.around.roots who) → Fine s → Keeps s q e →
    IfSome (ready_of_exp s (seats_in syntax w.around.roots who) p e)
    (λ r. (v : Value) → ready_value c m.unparsed r ≡ given v → IsOfClass (kind_of s e) v)
