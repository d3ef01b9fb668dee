-- Where no size is left, no variable and no parameter of an action is wider than 128 bits.
use Rattle.std.proofs.Common.{◌≡◌, ℕ, ◌≤◌, ◌&&◌, Bool, true, false, List, [], ◌∷◌, ◌++◌, map, flat_map, filter_map, refl}
use Rattle.std.specs.List.{list_any, cons_option}
use Rattle.p416_syntax.specs.declared.parts.Param.{Param}
use Rattle.p416_syntax.specs.declared.parsers.Var.{Var}
use Rattle.p416_syntax.specs.declared.parsers.State.{State}
use Rattle.p416_syntax.specs.declared.parsers.Parser16.{Parser16}
use Rattle.p416_syntax.specs.declared.controls.Action16.{Action16}
use Rattle.p416_syntax.specs.declared.controls.Local.{Local}
use Rattle.p416_syntax.specs.declared.controls.Control16.{Control16}
use Rattle.p416_syntax.specs.declared.controls.Local.TheVariants as local
use Rattle.p416_syntax.specs.declared.program.Decl16.{Decl16}
use Rattle.p416_syntax.specs.declared.program.Decl16.TheVariants as decl
use Rattle.p416_syntax.specs.declared.program.Syntax16.{Syntax16}
use Rattle.p416_syntax.specs.Tree.{Stmt16, no_statements, then, block, empty, var, var_is, assign, expression, if_then, if_else, switch, no_cases, case_of}
use Rattle.p416_syntax.specs.Kinds.{Kind, bits, unsized, boolean, error_code, header, stack, struct, packet_in, packet_out, errors, enumeration, one_of, table, applied, object, items, nothing, unknown}
use Rattle.p416_syntax.specs.Scopes.{Layout as TypeLayout, FieldKind, Known, Scope, kind_of_type, known_parameter}
use Rattle.p416_syntax.specs.Totals.{bits_in}
use Rattle.p416_syntax.specs.Calls.{value}
use Rattle.p416_syntax.specs.Uses.{Use, names_of_scope, some_parameters, of_variable, of_action_parameter, of_block_parameter, type_uses, uses}
use Rattle.p416_syntax.specs.Sizes.{leaves_size}
use Rattle.p416_syntax.specs.Statements.{behind, Visit, visit, visits, own_uses, visit_uses}
use Rattle.p416_syntax.specs.Declarations.{note_uses, var_uses, known_var, parameter_name, parameter_uses, body_uses, transition_uses, state_uses, known_state, parser_names, parser_scope, parser_uses, action_scope, action_uses, known_local, control_names, control_scope, local_uses, control_uses, layouts_of}
use Rattle.p416_syntax.specs.Main.{headers_kind, metadata_kind, is_header_field, is_metadata_field, is_struct_where, are_headers, is_metadata, is_main}
use Rattle.p416_syntax.specs.Breaks.{scope_of, uses_in, program_uses}
use Rattle.v1_core.specs.Slots.{declared_kind, visited_kind, kinds_in, var_kind, parameter_kind, state_kinds, local_kinds, parser_kinds, control_kinds, kinds_of}
use Rattle.v1_core.specs.Programs.{frame_kinds}
use Rattle.v1_ready_laws.specs.Widths.{KindsNarrow}
use Rattle.v1_ready_laws.proofs.Rules.{front_none, rest_none}
use Rattle.v1_ready_laws.proofs.Narrow.{SortPlain, AllPlain, small, type_plain, instance_plain, top_plain}

-- names that are no types

names_joined : (front back : List Known) → AllPlain front → AllPlain back → AllPlain (front ++ back)
names_joined [] back x y = y
names_joined (k ∷ front) back x y = (x.0, names_joined front back x.1 y)

all_mapped : {X : Type 0} (f : X → Known) → ((x : X) → SortPlain (f x).sort) → (xs : List X) → AllPlain (map f xs)
all_mapped f each [] = tt
all_mapped f each (x ∷ xs) = (each x, all_mapped f each xs)

local_plain : (names : List Known) (x : Local) → SortPlain (known_local names x).sort
local_plain names (local.Instance notes i) = instance_plain i
local_plain names (local.Var v) = tt
local_plain names (local.Action a) = tt
local_plain names (local.Table t) = tt

parser_plain : (s : Scope) (p : Parser16) → AllPlain s.names → AllPlain (parser_scope s p).names
parser_plain s p plain =
    names_joined (parser_names s.names p) s.names
    (names_joined (map (known_parameter s.names) p.parameters ++ map (known_var s.names) p.vars) (map known_state p.states)
    (names_joined (map (known_parameter s.names) p.parameters) (map (known_var s.names) p.vars) (all_mapped (known_parameter s.names) (λ x. tt) p.parameters) (all_mapped (known_var s.names) (λ x. tt) p.vars))
    (all_mapped known_state (λ x. tt) p.states)) plain

control_plain : (s : Scope) (c : Control16) → AllPlain s.names → AllPlain (control_scope s c).names
control_plain s c plain =
    names_joined (control_names s.names c) s.names
    (names_joined (map (known_parameter s.names) c.parameters) (map (known_local s.names) c.locals) (all_mapped (known_parameter s.names) (λ x. tt) c.parameters) (all_mapped (known_local s.names) (local_plain s.names) c.locals)) plain

action_plain : (s : Scope) (a : Action16) → AllPlain s.names → AllPlain (action_scope s a).names
action_plain s a plain = names_joined (map (known_parameter s.names) a.parameters) s.names (all_mapped (known_parameter s.names) (λ x. tt) a.parameters) plain

-- kinds, and the tests of lists that are joined

kinds_joined : (front back : List Kind) → KindsNarrow front → KindsNarrow back → KindsNarrow (front ++ back)
kinds_joined [] back x y = y
kinds_joined (k ∷ front) back x y = (x.0, kinds_joined front back x.1 y)

abbrev Kept : List Use → Type 0
Kept all = list_any leaves_size all ≡ false

in_front : (xs ys : List Use) → Kept (xs ++ ys) → Kept xs
in_front xs ys kept = front_none leaves_size xs ys kept

at_end : (xs ys : List Use) → Kept (xs ++ ys) → Kept ys
at_end xs ys kept = rest_none leaves_size xs ys kept

-- each item of a list, by what is judged of it
each_narrow : {X : Type 0} (judged : X → List Use) (kinds : X → List Kind) → ((x : X) → Kept (judged x) → KindsNarrow (kinds x)) → (xs : List X) → Kept (flat_map judged xs) → KindsNarrow (flat_map kinds xs)
each_narrow judged kinds each [] kept = tt
each_narrow judged kinds each (x ∷ xs) kept =
    kinds_joined (kinds x) (flat_map kinds xs) (each x (in_front (judged x) (flat_map judged xs) kept)) (each_narrow judged kinds each xs (at_end (judged x) (flat_map judged xs) kept))

one_narrow : {X : Type 0} (judged : X → List Use) (kind : X → Kind) → ((x : X) → Kept (judged x) → bits_in (kind x) ≤ 128) → (xs : List X) → Kept (flat_map judged xs) → KindsNarrow (map kind xs)
one_narrow judged kind each [] kept = tt
one_narrow judged kind each (x ∷ xs) kept =
    (each x (in_front (judged x) (flat_map judged xs) kept), one_narrow judged kind each xs (at_end (judged x) (flat_map judged xs) kept))

-- statements

abbrev VisitsPlain : List Visit → Type 0
VisitsPlain [] = Unit {0}
VisitsPlain (v ∷ more) = AllPlain v.scope.names × VisitsPlain more

visits_joined : (front back : List Visit) → VisitsPlain front → VisitsPlain back → VisitsPlain (front ++ back)
visits_joined [] back x y = y
visits_joined (v ∷ front) back x y = (x.0, visits_joined front back x.1 y)

behind_plain : (x : Stmt16) (s : Scope) → AllPlain s.names → AllPlain (behind x s).names
behind_plain no_statements s plain = plain
behind_plain ((then) before last) s plain = behind_plain last (behind before s) (behind_plain before s plain)
behind_plain (block body) s plain = plain
behind_plain empty s plain = plain
behind_plain (var t called) s plain = (tt, plain)
behind_plain (var_is t called e) s plain = (tt, plain)
behind_plain (assign e g) s plain = plain
behind_plain (expression e) s plain = plain
behind_plain (if_then d positive) s plain = plain
behind_plain (if_else d positive negative) s plain = plain
behind_plain (switch text cases) s plain = plain
behind_plain no_cases s plain = plain
behind_plain (case_of before label body) s plain = plain

visits_plain : (s : Scope) (x : Stmt16) → AllPlain s.names → VisitsPlain (visits s x)
visits_plain s no_statements plain = tt
visits_plain s ((then) before last) plain = visits_joined (visits s before) (visits (behind before s) last) (visits_plain s before plain) (visits_plain (behind before s) last (behind_plain before s plain))
visits_plain s (block body) plain = (plain, visits_plain s body plain)
visits_plain s empty plain = (plain, tt)
visits_plain s (var t called) plain = (plain, tt)
visits_plain s (var_is t called e) plain = (plain, tt)
visits_plain s (assign e g) plain = (plain, tt)
visits_plain s (expression e) plain = (plain, tt)
visits_plain s (if_then d positive) plain = (plain, visits_plain s positive plain)
visits_plain s (if_else d positive negative) plain = (plain, visits_joined (visits s positive) (visits s negative) (visits_plain s positive plain) (visits_plain s negative plain))
visits_plain s (switch text cases) plain = (plain, visits_plain s cases plain)
visits_plain s no_cases plain = tt
visits_plain s (case_of before label body) plain = visits_joined (visits s before) (visit s (case_of before label body) ∷ visits s body) (visits_plain s before plain) (plain, visits_plain s body plain)

-- with what a statement declares
statement_narrow : (s : Scope) (x : Stmt16) (rest : List Kind) → AllPlain s.names → Kept (own_uses s x) → KindsNarrow rest → KindsNarrow (cons_option (declared_kind s x) rest)
statement_narrow s no_statements rest plain kept narrow = narrow
statement_narrow s ((then) before last) rest plain kept narrow = narrow
statement_narrow s (block body) rest plain kept narrow = narrow
statement_narrow s empty rest plain kept narrow = narrow
statement_narrow s (var t called) rest plain kept narrow = ((type_plain s.names s of_variable t plain kept).0, narrow)
statement_narrow s (var_is t called e) rest plain kept narrow = ((type_plain s.names s of_variable t plain (in_front (type_uses s of_variable t) (uses s (value (kind_of_type s.names t)) e) kept)).0, narrow)
statement_narrow s (assign e g) rest plain kept narrow = narrow
statement_narrow s (expression e) rest plain kept narrow = narrow
statement_narrow s (if_then d positive) rest plain kept narrow = narrow
statement_narrow s (if_else d positive negative) rest plain kept narrow = narrow
statement_narrow s (switch text cases) rest plain kept narrow = narrow
statement_narrow s no_cases rest plain kept narrow = narrow
statement_narrow s (case_of before label body) rest plain kept narrow = narrow

visits_narrow : (all : List Visit) → VisitsPlain all → Kept (flat_map visit_uses all) → KindsNarrow (filter_map visited_kind all)
visits_narrow [] plain kept = tt
visits_narrow (v ∷ more) plain kept =
    statement_narrow v.scope v.of (filter_map visited_kind more) plain.0 (in_front (visit_uses v) (flat_map visit_uses more) kept)
    (visits_narrow more plain.1 (at_end (visit_uses v) (flat_map visit_uses more) kept))

body_narrow : (s : Scope) (braces : ℕ) (body : Stmt16) → AllPlain s.names → Kept (body_uses s braces body) → KindsNarrow (kinds_in s body)
body_narrow s braces body plain kept = visits_narrow (visits s body) (visits_plain s body plain) kept

-- declarations

var_narrow : (s : Scope) (v : Var) → AllPlain s.names → Kept (var_uses s v) → bits_in (var_kind s v) ≤ 128
var_narrow s v plain kept = (type_plain s.names s of_variable v.of plain (in_front (type_uses s of_variable v.of) _ kept)).0

parameter_narrow : (s : Scope) (p : Param) → AllPlain s.names → Kept (parameter_uses s of_action_parameter p) → bits_in (parameter_kind s p) ≤ 128
parameter_narrow s p plain kept = (type_plain s.names s of_action_parameter p.of plain kept).0

action_narrow : (s : Scope) (a : Action16) → AllPlain s.names → Kept (action_uses s a) → KindsNarrow (local_kinds s (local.Action a))
action_narrow s a plain kept =
    let parameters = flat_map (parameter_uses s of_action_parameter) a.parameters in
    let judged = names_of_scope (map parameter_name a.parameters) ∷ some_parameters a.parameters ∷ parameters in
    let body = body_uses (action_scope s a) 1 a.body in
    kinds_joined (map (parameter_kind s) a.parameters) (kinds_in (action_scope s a) a.body)
    (one_narrow (parameter_uses s of_action_parameter) (parameter_kind s) (λ p k. parameter_narrow s p plain k) a.parameters (at_end (note_uses a.notes) judged (in_front (note_uses a.notes ++ judged) body kept)))
    (body_narrow (action_scope s a) 1 a.body (action_plain s a plain) (at_end (note_uses a.notes ++ judged) body kept))

local_narrow : (s : Scope) (x : Local) → AllPlain s.names → Kept (local_uses s x) → KindsNarrow (local_kinds s x)
local_narrow s (local.Instance notes i) plain kept = tt
local_narrow s (local.Var v) plain kept = (var_narrow s v plain kept, tt)
local_narrow s (local.Action a) plain kept = action_narrow s a plain kept
local_narrow s (local.Table t) plain kept = tt

state_narrow : (s : Scope) (x : State) → AllPlain s.names → Kept (state_uses s x) → KindsNarrow (state_kinds s x)
state_narrow s x plain kept = body_narrow s 0 x.body plain (in_front (body_uses s 0 x.body) (transition_uses (behind x.body s) x.transition) kept)

parser_narrow : (s : Scope) (p : Parser16) → AllPlain s.names → Kept (parser_uses s p) → KindsNarrow (parser_kinds (parser_scope s p) p)
parser_narrow s p plain kept =
    let t = parser_scope s p in
    let at : AllPlain t.names = parser_plain s p plain in
    let parameters = flat_map (parameter_uses s of_block_parameter) p.parameters in
    let vars = flat_map (var_uses t) p.vars in
    let states = flat_map (state_uses t) p.states in
    kinds_joined (map (var_kind t) p.vars) (flat_map (state_kinds t) p.states)
    (one_narrow (var_uses t) (var_kind t) (λ v k. var_narrow t v at k) p.vars (at_end parameters vars (in_front (parameters ++ vars) states kept)))
    (each_narrow (state_uses t) (state_kinds t) (λ x k. state_narrow t x at k) p.states (at_end (parameters ++ vars) states kept))

control_narrow : (s : Scope) (c : Control16) → AllPlain s.names → Kept (control_uses s c) → KindsNarrow (control_kinds (control_scope s c) c)
control_narrow s c plain kept =
    let t = control_scope s c in
    let at : AllPlain t.names = control_plain s c plain in
    let parameters = flat_map (parameter_uses s of_block_parameter) c.parameters in
    let locals = flat_map (local_uses t) c.locals in
    let body = body_uses t 1 c.body in
    kinds_joined (flat_map (local_kinds t) c.locals) (kinds_in t c.body)
    (each_narrow (local_uses t) (local_kinds t) (λ x k. local_narrow t x at k) c.locals (at_end parameters locals (in_front (parameters ++ locals) body kept)))
    (body_narrow t 1 c.body at (at_end (parameters ++ locals) body kept))

declared_narrow : (syntax : Syntax16) (d : Decl16) → Kept (uses_in syntax d) → KindsNarrow (kinds_of syntax d)
declared_narrow syntax (decl.Header x) kept = tt
declared_narrow syntax (decl.Struct x) kept = tt
declared_narrow syntax (decl.Instance notes i) kept = tt
declared_narrow syntax (decl.Parser p) kept = parser_narrow (scope_of syntax (decl.Parser p)) p (top_plain syntax.decls) kept
declared_narrow syntax (decl.Control c) kept = control_narrow (scope_of syntax (decl.Control c)) c (top_plain syntax.decls) kept

-- headers and metadata are structs

struct_narrow : (test : FieldKind → Bool) (layouts : List TypeLayout) (k : Kind) → is_struct_where test layouts k ≡ true → bits_in k ≤ 128
struct_narrow test layouts (bits width) is = absurd (cc is)
struct_narrow test layouts unsized is = small
struct_narrow test layouts boolean is = small
struct_narrow test layouts error_code is = small
struct_narrow test layouts (header type) is = small
struct_narrow test layouts (stack type size) is = small
struct_narrow test layouts (struct type) is = small
struct_narrow test layouts packet_in is = small
struct_narrow test layouts packet_out is = small
struct_narrow test layouts errors is = small
struct_narrow test layouts (enumeration enum) is = small
struct_narrow test layouts (one_of enum) is = small
struct_narrow test layouts table is = small
struct_narrow test layouts applied is = small
struct_narrow test layouts (object kind) is = small
struct_narrow test layouts items is = small
struct_narrow test layouts nothing is = small
struct_narrow test layouts unknown is = small

left_true : (a b : Bool) → (a && b) ≡ true → a ≡ true
left_true true b e = refl
left_true false b e = absurd (cc e)

right_true : (a b : Bool) → (a && b) ≡ true → b ≡ true
right_true true b e = e
right_true false b e = absurd (cc e)

pub kinds_kept : (syntax : Syntax16) → list_any leaves_size (program_uses syntax) ≡ false → is_main syntax ≡ true → KindsNarrow (frame_kinds syntax)
kinds_kept syntax kept main =
    let layouts = layouts_of syntax.decls in
    let both = right_true _ (are_headers layouts (headers_kind syntax) && is_metadata layouts (metadata_kind syntax)) main in (
      struct_narrow is_header_field layouts (headers_kind syntax) (left_true (are_headers layouts (headers_kind syntax)) (is_metadata layouts (metadata_kind syntax)) both),
      (
        struct_narrow (is_metadata_field layouts) layouts (metadata_kind syntax) (right_true (are_headers layouts (headers_kind syntax)) (is_metadata layouts (metadata_kind syntax)) both),
        (small, each_narrow (uses_in syntax) (kinds_of syntax) (declared_narrow syntax) syntax.decls kept),
      ),
    )
