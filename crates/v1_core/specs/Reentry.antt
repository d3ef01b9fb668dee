-- Whether a program asks for further passes of a packet: whether one of `clone_preserving_field_list`,
-- `resubmit_preserving_field_list` and `recirculate_preserving_field_list` is called in it (`v1model.p4`).
use Rattle.std.specs.Prelude.{Bool, true, false, ◌&&◌, List, [], ◌∷◌, ◌++◌, flat_map, codes}
use Rattle.std.specs.List.{list_any}
use Rattle.std.specs.Str.{bytes_eq}
use Rattle.p416_syntax.specs.declared.parsers.State.{State}
use Rattle.p416_syntax.specs.declared.controls.Local.{Local}
use Rattle.p416_syntax.specs.declared.controls.Local.TheVariants as local
use Rattle.p416_syntax.specs.declared.program.Decl16.{Decl16}
use Rattle.p416_syntax.specs.declared.program.Decl16.TheVariants as decl
use Rattle.p416_syntax.specs.declared.program.Syntax16.{Syntax16}
use Rattle.p416_syntax.specs.Tree.{name, call, Stmt16, expression}
use Rattle.p416_syntax.specs.Names.{Name}
use Rattle.p416_syntax.specs.Scopes.{Sort, a_function, Scope, sort_of}
use Rattle.p416_syntax.specs.Statements.{Visit, visits}
use Rattle.p416_syntax.specs.Declarations.{parser_scope, control_scope, action_scope}
use Rattle.p416_syntax.specs.Breaks.{scope_of}

-- the functions that ask for a further pass
abbrev pub asking : List Name
asking =
    codes "clone_preserving_field_list" ∷ codes "resubmit_preserving_field_list"
    ∷ codes "recirculate_preserving_field_list" ∷ []

abbrev pub is_function : Sort → Bool
is_function a_function = true
is_function _ = false

-- a name means one of these functions, and no action of the same name
abbrev pub asks : Scope → Name → Bool
asks s text = is_function (sort_of s text) && list_any (bytes_eq text) asking

-- a statement calls one of them; they give no value, so a call stands by itself
abbrev pub calls_asking : Visit → Bool
calls_asking v = of_statement v.of where
  of_statement : Stmt16 → Bool
  of_statement (expression (call (name text) given)) = asks v.scope text
  of_statement _ = false

-- the statements of a declaration, each with its scope

abbrev pub state_visits : Scope → State → List Visit
state_visits s x = visits s x.body

abbrev pub local_visits : Scope → Local → List Visit
local_visits s (local.Action a) = visits (action_scope s a) a.body
local_visits s _ = []

abbrev pub visits_of : Syntax16 → Decl16 → List Visit
visits_of syntax (decl.Parser p) = flat_map (state_visits (parser_scope (scope_of syntax (decl.Parser p)) p)) p.states
visits_of syntax (decl.Control c) =
    let s = control_scope (scope_of syntax (decl.Control c)) c in flat_map (local_visits s) c.locals ++ visits s c.body
visits_of syntax _ = []

-- a program calls one of them
abbrev pub reenters16 : Syntax16 → Bool
reenters16 syntax = list_any calls_asking (flat_map (visits_of syntax) syntax.decls)
