-- Who is in scope behind statements, and when moments are one there (P4_16 1.2, "Variable declarations", "Block statement";
-- that an error stops the parser is said with frames).
use Rattle.std.specs.Prelude.{◌≡◌, ◌⊎◌, Bool, true, ℕ, ◌+◌, List, [], ◌∷◌, ◌++◌, length, None, Some}
use Rattle.p416_syntax.specs.declared.program.Syntax16.{Syntax16}
use Rattle.p416_syntax.specs.Tree.{Stmt16, then, var, var_is}
use Rattle.p416_syntax.specs.Scopes.{Scope}
use Rattle.p416_syntax.specs.Statements.{behind}
use Rattle.p416_syntax.specs.Declarations.{layouts_of}
use Rattle.v1_core.specs.declared.parser_error.ParserError.{ParserError}
use Rattle.v1_core.specs.Frames as sem
use Rattle.v1_core.specs.Slots.{variable_kinds, kinds_in}
use Rattle.v1_core.specs.Surroundings.{Root}
use Rattle.v1_core.specs.Numbered.{Variable, InScope}
use Rattle.v1_core.specs.Expressions as sem_expressions
use Rattle.v1_core.specs.Cells.{Cells}
use Rattle.v1_core.specs.PackedFrames.{IsFrameOf}
use Rattle.v1_core.specs.Ready.{given, failed}
use Rattle.v1_ready_forms.specs.Named.{seats_in}
use Rattle.v1_ready_laws.specs.Rules.{NamesSeated, with_inner_ones}
use Rattle.v1_ready_blocks.specs.Moments.{Moment, raised}
use Rattle.v1_ready_blocks.specs.Tests.{Valued}
use Rattle.v1_block_laws.specs.Variables.{variable}
use Rattle.v1_block_laws.specs.Apart.{AreInBody}
use Rattle.v1_parser_laws.specs.Shown.{Shows}
use Rattle.v1_value_laws.specs.Kinds.{Fine}

-- the variables that a list of statements declares, the innermost first, where the first variable in them has this number
abbrev pub declared_from : Scope → ℕ → Stmt16 → List Variable
declared_from s n ((then) before last) =
    declared_from (behind before s) (n + length (kinds_in s before)) last ++ declared_from s n before
declared_from s n (var t called) = variable called n ∷ []
declared_from s n (var_is t called e) = variable called n ∷ []
declared_from s n _ = []

-- moments are one, and this holds of the frame in which arguments of calls wait
pub record Shown (P : Cells → Type 0) (syntax : Syntax16) (who : InScope) (m : sem.Moment) (n : Moment) : Type 0 where
  pub shows : Shows syntax who m n
  pub waits : P n.waiting

-- what waits is a frame too, where actions are called
abbrev pub Waits : Bool → Syntax16 → Cells → Type 0
Waits calls syntax c = calls ≡ true → IsFrameOf syntax c

-- behind statements that declare these variables they are in scope; where an error stopped that, it may be fewer of them
pub record LeftBehind (P : Cells → Type 0) (syntax : Syntax16) (who : InScope) (vs : List Variable) (m : sem.Moment) (n : Moment) : Type 0 where
  pub some : List Variable
  pub shown : Shown P syntax (with_inner_ones some who) m n
  pub all : m.stopped ≡ None → some ≡ vs

-- Where statements stand that have these variables in scope: of the block's numbers those from one up to another are theirs,
-- and the next variable has this number.
pub record InContext (syntax : Syntax16) (roots : List Root) (from to next : ℕ) (s : Scope) (who : InScope) : Type 0 where
  pub layouts : s.layouts ≡ layouts_of syntax.decls
  pub fine : Fine s
  pub seated : NamesSeated s (seats_in syntax roots who)
  pub body : AreInBody (length (variable_kinds syntax)) from to next who

-- there, where the block has these variables
pub record Within (vars : List Variable) (syntax : Syntax16) (roots : List Root) (from to next : ℕ) (s : Scope) (who : InScope) : Type 0 where
  pub context : InContext syntax roots from to next s who
  pub variables : who.variables ≡ vars

-- evaluating gave one value and left moments that are one; or the same error stopped both
abbrev pub ValuedShows : (Cells → Type 0) → Syntax16 → InScope → sem_expressions.Valued → Valued → Type 0
ValuedShows P syntax who x y =
    ((y.value ≡ given x.value) × (x.moment.stopped ≡ None) × Shown P syntax who x.moment y.moment)
    ⊎ ((e : ParserError) × (y.value ≡ failed e) × (x.moment.stopped ≡ Some e) × Shown P syntax who x.moment (raised e y.moment))
