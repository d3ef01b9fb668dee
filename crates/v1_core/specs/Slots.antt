-- The parts of a frame by number: slots, which are numbers, truth values and errors; headers; and stacks (this project's own).
-- They are numbered from 0: those of the packet's headers, of its metadata and of its standard metadata, each in the order of
-- declaration and each element of a stack by itself, and then those of all variables and of all parameters of actions, in
-- the order of the text.
use Rattle.std.specs.Prelude.{ℕ, zero, suc, Bool, true, false, ◌&&◌, nat_eq, List, [], ◌∷◌, ◌++◌, length, map, flat_map, filter_map, Option, Some, None, position}
use Rattle.std.specs.Str.{bytes_eq}
use Rattle.p416_syntax.specs.declared.parts.Param.{Param}
use Rattle.p416_syntax.specs.declared.parsers.Var.{Var}
use Rattle.p416_syntax.specs.declared.parsers.State.{State}
use Rattle.p416_syntax.specs.declared.parsers.Parser16.{Parser16}
use Rattle.p416_syntax.specs.declared.controls.Local.{Local}
use Rattle.p416_syntax.specs.declared.controls.Local.TheVariants as local
use Rattle.p416_syntax.specs.declared.controls.Control16.{Control16}
use Rattle.p416_syntax.specs.declared.program.Decl16.{Decl16}
use Rattle.p416_syntax.specs.declared.program.Decl16.TheVariants as decl
use Rattle.p416_syntax.specs.declared.program.Syntax16.{Syntax16}
use Rattle.p416_syntax.specs.Tree.{Stmt16, var, var_is}
use Rattle.p416_syntax.specs.Names.{Name}
use Rattle.p416_syntax.specs.Kinds.{Kind, bits, boolean, error_code, header, stack, struct}
use Rattle.p416_syntax.specs.Scopes.{Scope, Layout, FieldKind, fields_in, kind_of_type}
use Rattle.p416_syntax.specs.BuiltIn.{standard}
use Rattle.p416_syntax.specs.Statements.{Visit, visits}
use Rattle.p416_syntax.specs.Declarations.{layouts_of, parser_scope, control_scope, action_scope}
use Rattle.p416_syntax.specs.Main.{headers_kind, metadata_kind}
use Rattle.p416_syntax.specs.Breaks.{scope_of}
use Rattle.v1_core.specs.Values.{Step, to_member, to_element}

-- which of a frame's values a part belongs to; variables and parameters of actions are counted from 0
pub data PartOwner : Type 0 where
  the_headers : PartOwner
  the_metadata : PartOwner
  the_standard : PartOwner
  the_variable : (number : ℕ) → PartOwner

-- a part by the value that it belongs to, and the steps that lead to it from there
pub record FramePart : Type 0 where
  pub owner : PartOwner
  pub path : List Step

-- the steps that lead to the parts of a kind, in order

abbrev pub behind_step : Step → List Step → List Step
behind_step step path = step ∷ path

abbrev pub field_path : FieldKind → List Step
field_path f = to_member f.called ∷ []

abbrev pub header_paths : List Layout → Name → List (List Step)
header_paths layouts type = map field_path (fields_in layouts type)

-- so many elements, from the one with this number on
abbrev pub elements_from : ℕ → ℕ → List Step
elements_from first zero = []
elements_from first (suc count) = to_element first ∷ elements_from (suc first) count

abbrev pub element_paths : List Layout → Name → Step → List (List Step)
element_paths layouts type step = map (behind_step step) (header_paths layouts type)

-- through the members of a struct
abbrev pub through_members : (Kind → List (List Step)) → FieldKind → List (List Step)
through_members paths f = map (behind_step (to_member f.called)) (paths f.kind)

-- numbers, truth values and errors
abbrev pub slot_paths : List Layout → ℕ → Kind → List (List Step)
slot_paths layouts n (bits width) = [] ∷ []
slot_paths layouts n boolean = [] ∷ []
slot_paths layouts n error_code = [] ∷ []
slot_paths layouts n (header type) = header_paths layouts type
slot_paths layouts n (stack type size) = flat_map (element_paths layouts type) (elements_from 0 size)
slot_paths layouts zero (struct type) = []
slot_paths layouts (suc n) (struct type) = flat_map (through_members (λ k. slot_paths layouts n k)) (fields_in layouts type)
slot_paths layouts n _ = []

abbrev pub one_step : Step → List Step
one_step step = step ∷ []

-- headers, also those that are elements of stacks
abbrev pub headers_in : List Layout → ℕ → Kind → List (List Step)
headers_in layouts n (header type) = [] ∷ []
headers_in layouts n (stack type size) = map one_step (elements_from 0 size)
headers_in layouts (suc n) (struct type) = flat_map (through_members (λ k. headers_in layouts n k)) (fields_in layouts type)
headers_in layouts n _ = []

abbrev pub stacks_in : List Layout → ℕ → Kind → List (List Step)
stacks_in layouts n (stack type size) = [] ∷ []
stacks_in layouts (suc n) (struct type) = flat_map (through_members (λ k. stacks_in layouts n k)) (fields_in layouts type)
stacks_in layouts n _ = []

-- the kinds of variables and of parameters of actions, in the order of the text

abbrev pub declared_kind : Scope → Stmt16 → Option Kind
declared_kind s (var t called) = Some (kind_of_type s.names t)
declared_kind s (var_is t called e) = Some (kind_of_type s.names t)
declared_kind s _ = None

abbrev pub visited_kind : Visit → Option Kind
visited_kind v = declared_kind v.scope v.of

abbrev pub kinds_in : Scope → Stmt16 → List Kind
kinds_in s body = filter_map visited_kind (visits s body)

abbrev pub var_kind : Scope → Var → Kind
var_kind s v = kind_of_type s.names v.of

abbrev pub parameter_kind : Scope → Param → Kind
parameter_kind s p = kind_of_type s.names p.of

abbrev pub state_kinds : Scope → State → List Kind
state_kinds s x = kinds_in s x.body

abbrev pub local_kinds : Scope → Local → List Kind
local_kinds s (local.Var v) = var_kind s v ∷ []
local_kinds s (local.Action a) = map (parameter_kind s) a.parameters ++ kinds_in (action_scope s a) a.body
local_kinds s _ = []

abbrev pub parser_kinds : Scope → Parser16 → List Kind
parser_kinds s p = map (var_kind s) p.vars ++ flat_map (state_kinds s) p.states

abbrev pub control_kinds : Scope → Control16 → List Kind
control_kinds s c = flat_map (local_kinds s) c.locals ++ kinds_in s c.body

abbrev pub kinds_of : Syntax16 → Decl16 → List Kind
kinds_of syntax (decl.Parser p) = parser_kinds (parser_scope (scope_of syntax (decl.Parser p)) p) p
kinds_of syntax (decl.Control c) = control_kinds (control_scope (scope_of syntax (decl.Control c)) c) c
kinds_of syntax _ = []

abbrev pub variable_kinds : Syntax16 → List Kind
variable_kinds syntax = flat_map (kinds_of syntax) syntax.decls

-- all parts of a frame

abbrev pub part_with : PartOwner → List Step → FramePart
part_with owner path = record { owner = owner; path = path }

abbrev pub parts_of : (Kind → List (List Step)) → PartOwner → Kind → List FramePart
parts_of paths owner k = map (part_with owner) (paths k)

-- those of variables, of which the first has this number
abbrev pub variable_parts : (Kind → List (List Step)) → ℕ → List Kind → List FramePart
variable_parts paths number [] = []
variable_parts paths number (k ∷ kinds) =
    parts_of paths (the_variable number) k ++ variable_parts paths (suc number) kinds

abbrev pub frame_parts : Syntax16 → (Kind → List (List Step)) → List FramePart
frame_parts syntax paths =
    parts_of paths the_headers (headers_kind syntax) ++ parts_of paths the_metadata (metadata_kind syntax)
    ++ parts_of paths the_standard standard ++ variable_parts paths 0 (variable_kinds syntax)

abbrev pub slots_of : Syntax16 → List FramePart
slots_of syntax = let layouts = layouts_of syntax.decls in frame_parts syntax (slot_paths layouts (length layouts))

abbrev pub headers_of : Syntax16 → List FramePart
headers_of syntax = let layouts = layouts_of syntax.decls in frame_parts syntax (headers_in layouts (length layouts))

abbrev pub stacks_of : Syntax16 → List FramePart
stacks_of syntax = let layouts = layouts_of syntax.decls in frame_parts syntax (stacks_in layouts (length layouts))

-- the number of the part to which a path leads, and none where it leads to no such part

abbrev pub is_same_step : Step → Step → Bool
is_same_step (to_member a) (to_member b) = bytes_eq a b
is_same_step (to_element m) (to_element n) = nat_eq m n
is_same_step _ _ = false

abbrev pub is_same_path : List Step → List Step → Bool
is_same_path [] [] = true
is_same_path (a ∷ xs) (b ∷ ys) = is_same_step a b && is_same_path xs ys
is_same_path _ _ = false

abbrev pub is_same_owner : PartOwner → PartOwner → Bool
is_same_owner the_headers the_headers = true
is_same_owner the_metadata the_metadata = true
is_same_owner the_standard the_standard = true
is_same_owner (the_variable m) (the_variable n) = nat_eq m n
is_same_owner _ _ = false

abbrev pub is_same_part : FramePart → FramePart → Bool
is_same_part a b = is_same_owner a.owner b.owner && is_same_path a.path b.path

abbrev pub slot_number : Syntax16 → FramePart → Option ℕ
slot_number syntax x = position (is_same_part x) (slots_of syntax)

abbrev pub header_number : Syntax16 → FramePart → Option ℕ
header_number syntax x = position (is_same_part x) (headers_of syntax)

abbrev pub stack_number : Syntax16 → FramePart → Option ℕ
stack_number syntax x = position (is_same_part x) (stacks_of syntax)
