-- What the sources of ready statements reach, which ready copies do the same, and that pushing and popping do (P4_16 1.2,
-- "Assignment statement", "Variable declarations", "Operations on header stacks").
use Rattle.std.specs.Prelude.{◌≡◌, ℕ, ◌+◌, ◌≤◌, Bool, true, [], ◌∷◌, length, Option, Some, None, IfSome}
use Rattle.p416_syntax.specs.declared.lexeme.Literal16.{Literal16}
use Rattle.p416_syntax.specs.declared.parts.Type16.{Type16}
use Rattle.p416_syntax.specs.declared.parsers.Var.{Var}
use Rattle.p416_syntax.specs.declared.program.Syntax16.{Syntax16}
use Rattle.p416_syntax.specs.Tree.{Exp16, literal, member, call, assign, expression, var_is}
use Rattle.p416_syntax.specs.Names.{Name}
use Rattle.p416_syntax.specs.Kinds.{bits, stack}
use Rattle.p416_syntax.specs.Scopes.{Scope, kind_of_type}
use Rattle.p416_syntax.specs.Calls.{Place, value, literal_of}
use Rattle.p416_syntax.specs.Types.{takes}
use Rattle.p416_syntax.specs.Expressions.{kind_of}
use Rattle.p416_syntax.specs.Uses.{arguments_of}
use Rattle.p416_syntax.specs.Statements.{assigned_place}
use Rattle.p416_syntax.specs.Declarations.{layouts_of}
use Rattle.p416_syntax.specs.Breaks.{BreaksNone, program_rules}
use Rattle.v1_core.specs.Values.{number_in}
use Rattle.v1_core.specs.Frames as sem
use Rattle.v1_core.specs.Slots.{FramePart, the_variable, variable_kinds}
use Rattle.v1_core.specs.Surroundings as meaning
use Rattle.v1_core.specs.Numbered.{InScope, number_of}
use Rattle.v1_core.specs.Expressions.{literal_number, value_of}
use Rattle.v1_core.specs.Blocks.{with_initial}
use Rattle.v1_core.specs.Cells.{Cells}
use Rattle.v1_core.specs.Seats.{Form, header_form, stack_form, struct_form, form_of, Seat}
use Rattle.v1_core.specs.Scopes.{IsScope}
use Rattle.v1_core.specs.Programs.{part_seat, owner_seat}
use Rattle.v1_ready_forms.specs.Named.{seats_in}
use Rattle.v1_ready_forms.specs.Ways.{Way}
use Rattle.v1_ready_laws.specs.Rules.{NamesSeated}
use Rattle.v1_ready_blocks.specs.Moments.{Moment}
use Rattle.v1_ready_blocks.specs.Tests.{World, source_range}
use Rattle.v1_ready_blocks.specs.Statements as ready
use Rattle.v1_ready_blocks.specs.Statements.{does}
use Rattle.v1_block_laws.specs.Standing.{AreOfKinds}
use Rattle.v1_block_laws.specs.Variables.{variable}
use Rattle.v1_deed_laws.specs.Forms.{OneForm}
use Rattle.v1_value_laws.specs.Kinds.{Fine}
use Rattle.v1_ready_statements.specs.Around.{Around, table_found}
use Rattle.v1_place_laws.specs.Places.{Meant, meant_by}
use Rattle.v1_place_laws.specs.Finding.{seat_now}
use Rattle.v1_ready_statements.specs.Targets.{parts_meant}
use Rattle.v1_ready_statements.specs.Tested.{asked_source, ready_source}
use Rattle.v1_ready_statements.specs.Statements.{assigns_parts, initial_ready}
use Rattle.v1_ready_statements.specs.Called.{expression_ready}
use Rattle.v1_statement_laws.specs.Behind.{Waits, Shown, InContext}
use Rattle.v1_statement_laws.specs.Leaves.{RunsAlike}
use Rattle.v1_statement_laws.specs.Laws.{HasParts}
use Rattle.v1_program_laws.specs.Reaching.{Seeks, Still, ConditionsAsk, way_kind}

-- a form of values with parts
abbrev pub Headed : Form → Type 0
Headed (header_form type) = Unit {0}
Headed (stack_form type size) = Unit {0}
Headed (struct_form type) = Unit {0}
Headed f = ⊥

-- parts of a frame that are of one form are parts for parts of one form, however deep they are in structs
abbrev pub AllOne : Syntax16 → Type 0
AllOne syntax =
    (p q : FramePart) (t u : Seat) → part_seat syntax p ≡ Some t → part_seat syntax q ≡ Some u → Headed t.form →
    u.form ≡ t.form → OneForm (layouts_of syntax.decls) t u

abbrev pub PartsAreOneForm : Type 0
PartsAreOneForm = (syntax : Syntax16) → BreaksNone syntax program_rules → AllOne syntax

-- a source reaches the parts of what an expression is, or ends with its error
abbrev pub SourcesSought : Type 0
SourcesSought =
    (calls : Bool) (b : Around) (w : meaning.World) (z : World) (s : Scope) (who : InScope) (e : Exp16) (way : Way)
    (p : Place) (m : sem.Moment) (k : Moment) → BreaksNone b.syntax program_rules → s.layouts ≡ layouts_of b.syntax.decls →
    NamesSeated s (seats_in b.syntax w.around.roots who) → Fine s → ConditionsAsk (Waits calls b.syntax) b w z s who e → HasParts (kind_of s e) →
    Shown (Waits calls b.syntax) b.syntax who m k → m.stopped ≡ None →
    IfSome (asked_source s (seats_in b.syntax w.around.roots who) (table_found b) way e)
    (λ f. Seeks (Waits calls b.syntax) b.syntax who way (way_kind (layouts_of b.syntax.decls) way (kind_of s e)) (value_of w s p e m) (source_range z.apply f k))

-- the assignment of a header, a stack or a struct, from wherever it is
abbrev pub PartsGo : Type 0
PartsGo =
    (calls : Bool) (b : Around) (w : meaning.World) (z : World) (s : Scope) (who : InScope) (target e : Exp16)
    (x : Meant) → BreaksNone b.syntax program_rules → s.layouts ≡ layouts_of b.syntax.decls →
    NamesSeated s (seats_in b.syntax w.around.roots who) → Fine s → IsScope (length (variable_kinds b.syntax)) who →
    ((c : Cells) → seat_now c x.spot ≡ None → Still w s) →
    HasParts (kind_of s target) → takes (assigned_place (kind_of s target)) e (kind_of s e) ≡ true →
    ConditionsAsk (Waits calls b.syntax) b w z s who e → meant_by s (seats_in b.syntax w.around.roots who) target ≡ Some x →
    IfSome
    (assigns_parts (parts_meant s.layouts x) (ready_source s (seats_in b.syntax w.around.roots who) (table_found b) e))
    (λ d. RunsAlike (Waits calls b.syntax) b w z s who [] (assign target e) (does d))

-- a variable with an initial value that has parts
abbrev pub PartsBegin : Type 0
PartsBegin =
    (calls : Bool) (b : Around) (w : meaning.World) (z : World) (from to n : ℕ) (s : Scope) (who : InScope)
    (t : Type16) (called : Name) (e : Exp16) → BreaksNone b.syntax program_rules →
    InContext b.syntax w.around.roots from to n s who → AreOfKinds (variable_kinds b.syntax) n (kind_of_type s.names t ∷ []) →
    n + 1 ≤ to → HasParts (kind_of_type s.names t) → takes (value (kind_of_type s.names t)) e (kind_of s e) ≡ true →
    ConditionsAsk (Waits calls b.syntax) b w z s who e →
    IfSome (initial_ready b s (seats_in b.syntax w.around.roots who) n (kind_of_type s.names t) e)
    (RunsAlike (Waits calls b.syntax) b w z s who (variable called n ∷ []) (var_is t called e))

-- a variable of the block with such a value; the variable has this number
abbrev pub BlockPartsBegin : Type 0
BlockPartsBegin =
    (calls : Bool) (b : Around) (w : meaning.World) (z : World) (who : InScope) (v : Var) (e : Exp16) (n : ℕ) →
    BreaksNone b.syntax program_rules → IsScope (length (variable_kinds b.syntax)) who →
    w.around.scope.layouts ≡ layouts_of b.syntax.decls → NamesSeated w.around.scope (seats_in b.syntax w.around.roots who) →
    Fine w.around.scope → v.initial ≡ Some e → number_of who.variables v.name ≡ Some n →
    IfSome (owner_seat b.syntax (the_variable n)) (λ t. t.form ≡ form_of (kind_of_type w.around.scope.names v.of)) →
    HasParts (kind_of_type w.around.scope.names v.of) →
    takes (value (kind_of_type w.around.scope.names v.of)) e (kind_of w.around.scope e) ≡ true →
    ConditionsAsk (Waits calls b.syntax) b w z w.around.scope who e →
    IfSome
    (initial_ready b w.around.scope (seats_in b.syntax w.around.roots who) n (kind_of_type w.around.scope.names v.of) e)
    (λ r. (ran : Option ℕ) (m : sem.Moment) (k : Moment) → Shown (Waits calls b.syntax) b.syntax who m k → m.stopped ≡ None →
    Shown (Waits calls b.syntax) b.syntax who (with_initial w m v) (ready.run z ran r k))

-- `push_front` and `pop_front` with a literal that fits
abbrev pub StacksCalled : Type 0
StacksCalled =
    (calls : Bool) (b : Around) (w : meaning.World) (z : World) (s : Scope) (who : InScope) (e given : Exp16)
    (type word : Name) (size : ℕ) (n : Literal16) → BreaksNone b.syntax program_rules →
    s.layouts ≡ layouts_of b.syntax.decls → NamesSeated s (seats_in b.syntax w.around.roots who) → Fine s →
    IsScope (length (variable_kinds b.syntax)) who → kind_of s e ≡ stack type size → arguments_of given ≡ literal n ∷ [] →
    number_in (literal_number (literal_of (bits 32)) n) ≡ n.value →
    IfSome (expression_ready b s (seats_in b.syntax w.around.roots who) (call (member e word) given))
    (RunsAlike (Waits calls b.syntax) b w z s who [] (expression (call (member e word) given)))
