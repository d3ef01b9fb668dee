-- Names that are declared as what stands at their seats, one behind another.
use Rattle.std.proofs.Common.{◌≡◌, ℕ, suc, ◌+◌, not, Bool, true, false, cond, Option, Some, None, List, [], ◌∷◌, ◌++◌, length, map, flat_map, refl, sym, ap, ◌∙◌, subst}
use Rattle.std.specs.List.{list_any, AllZip}
use Rattle.std.specs.Str.{bytes_eq}
use Rattle.std.proofs.lemmas.List.{map-append}
use Rattle.p416_syntax.specs.declared.parts.Type16.{Type16}
use Rattle.p416_syntax.specs.declared.parts.Type16.TheVariants.{Bit, Bool as BoolType, Named}
use Rattle.p416_syntax.specs.declared.parts.Param.{Param}
use Rattle.p416_syntax.specs.declared.parsers.Var.{Var}
use Rattle.p416_syntax.specs.declared.parsers.State.{State}
use Rattle.p416_syntax.specs.declared.controls.Instance.{Instance}
use Rattle.p416_syntax.specs.declared.controls.Instance.TheVariants as instance
use Rattle.p416_syntax.specs.declared.controls.Local.{Local}
use Rattle.p416_syntax.specs.declared.controls.Local.TheVariants as local
use Rattle.p416_syntax.specs.declared.program.Decl16.{Decl16}
use Rattle.p416_syntax.specs.declared.program.Decl16.TheVariants as decl
use Rattle.p416_syntax.specs.declared.program.Syntax16.{Syntax16}
use Rattle.p416_syntax.specs.Names.{Name}
use Rattle.p416_syntax.specs.Kinds.{Kind}
use Rattle.p416_syntax.specs.Scopes.{Sort, a_type, a_value, an_enumeration, a_function, an_object, an_action, a_table, a_state, a_block, undeclared, Known, known, Scope, sort_in, type_sort, stack_kind, kind_of_type, is_written, known_parameter}
use Rattle.p416_syntax.specs.BuiltIn.{built_in}
use Rattle.p416_syntax.specs.Uses.{a_type as a_type_use, of_variable, type_numbers}
use Rattle.p416_syntax.specs.Unknown.{is_value_sort, is_type_sort, is_unknown_type, is_misnamed}
use Rattle.p416_syntax.specs.Declarations.{instance_sort, top_name, top_names, known_var, known_state, var_uses, known_local, local_uses}
use Rattle.v1_core.specs.Slots.{variable_kinds, var_kind, parameter_kind, local_kinds}
use Rattle.v1_core.specs.Numbered.{Variable}
use Rattle.v1_core.specs.Seats.{Seat}
use Rattle.v1_ready_forms.specs.Named.{NamedSeat, seat_of_name, seat_of_variable}
use Rattle.v1_ready_laws.specs.Rules.{SortSeated, IsVariable}
use Rattle.v1_ready_laws.proofs.Seated.{one_more}
use Rattle.v1_block_laws.specs.Variables.{variable, vars_from, parameters_from, own_variables, locals_from}
use Rattle.v1_block_laws.specs.Standing.{IsOfKind, AreOfKinds}
use Rattle.v1_block_laws.proofs.Standing.{apart}
use Rattle.v1_block_laws.proofs.Tests.{first_false, second_false, not_false, in_front, at_end, none_mapped}

abbrev pub Seated : List Known → List NamedSeat → Type 0
Seated names seats = (text : Name) → SortSeated (sort_in names text) (seat_of_name seats text)

-- what is no value has no seat

abbrev is_value : Known → Bool
is_value k = is_value_sort k.sort

without_seat : (sort : Sort) (seat : Option Seat) → is_value_sort sort ≡ false → SortSeated sort seat
without_seat (a_value k can) seat e = absurd (cc e)
without_seat (a_type k) seat e = tt
without_seat (an_enumeration of) seat e = tt
without_seat a_function seat e = tt
without_seat (an_object of) seat e = tt
without_seat (an_action plane parameters) seat e = tt
without_seat (a_table actions counters) seat e = tt
without_seat a_state seat e = tt
without_seat a_block seat e = tt
without_seat undeclared seat e = tt

hidden_by : (k : Known) (names : List Known) (seats : List NamedSeat) → is_value k ≡ false → Seated names seats → Seated (k ∷ names) seats
hidden_by k names seats no_value seated text = by (bytes_eq k.called text) where
  by : (b : Bool) → SortSeated (cond b k.sort (sort_in names text)) (seat_of_name seats text)
  by true = without_seat k.sort (seat_of_name seats text) no_value
  by false = seated text

all_hidden : (front names : List Known) (seats : List NamedSeat) → list_any is_value front ≡ false → Seated names seats → Seated (front ++ names) seats
all_hidden [] names seats none seated = seated
all_hidden (k ∷ front) names seats none seated =
    hidden_by k (front ++ names) seats (first_false (is_value k) (list_any is_value front) none)
    (all_hidden front names seats (second_false (is_value k) (list_any is_value front) none) seated)

nothing_seated : Seated [] []
nothing_seated text = tt

instance_no_value : (i : Instance) → is_value_sort (instance_sort i) ≡ false
instance_no_value (instance.Counter size m text) = refl
instance_no_value (instance.DirectCounter m text) = refl
instance_no_value (instance.Register width size text) = refl
instance_no_value (instance.Meter size m text) = refl

top_no_value : (d : Decl16) → is_value (top_name d) ≡ false
top_no_value (decl.Header h) = refl
top_no_value (decl.Struct x) = refl
top_no_value (decl.Instance notes i) = instance_no_value i
top_no_value (decl.Parser p) = refl
top_no_value (decl.Control c) = refl

pub top_seated : (ds : List Decl16) → Seated (top_names ds) []
top_seated ds =
    all_hidden (map top_name ds) built_in [] (none_mapped is_value top_name top_no_value ds)
    (all_hidden built_in [] [] refl nothing_seated)

pub states_seated : (states : List State) (names : List Known) (seats : List NamedSeat) → Seated names seats → Seated (map known_state states ++ names) seats
states_seated states names seats seated = all_hidden (map known_state states) names seats (none_mapped is_value known_state (λ x. refl) states) seated

-- variables and parameters of actions

pub is_variable : (syntax : Syntax16) (n : ℕ) (kind : Kind) (can : Bool) (called : Name) → IsOfKind (variable_kinds syntax) n kind → IsVariable syntax (variable called n) (known (a_value kind can) called)
is_variable syntax n kind can called is = record {
  called = refl;
  number = is.within;
  can = can;
  sort = ap (λ (k : Kind). a_value k can) (sym is.kind);
}

pub are_variables : (syntax : Syntax16) (s : Scope) (n : ℕ) (ps : List Param) → AreOfKinds (variable_kinds syntax) n (map (parameter_kind s) ps) → AllZip (IsVariable syntax) (parameters_from n ps) (map (known_parameter s.names) ps)
are_variables syntax s n [] are = tt
are_variables syntax s n (p ∷ ps) are =
    (is_variable syntax n (kind_of_type s.names p.of) (is_written p.direction) p.name are.0, are_variables syntax s (suc n) ps are.1)

-- the kind of a type that the rules find is that at the top, since no name of a block is a type

abbrev is_type : Known → Bool
is_type k = is_type_sort k.sort

type_behind : (front names : List Known) (text : Name) → list_any is_type front ≡ false → is_type_sort (sort_in (front ++ names) text) ≡ true → sort_in (front ++ names) text ≡ sort_in names text
type_behind [] names text none is = refl
type_behind (k ∷ front) names text none is =
    by (bytes_eq k.called text) is (type_behind front names text (second_false (is_type k) (list_any is_type front) none)) where
      by : (b : Bool) → is_type_sort (cond b k.sort (sort_in (front ++ names) text)) ≡ true → (is_type_sort (sort_in (front ++ names) text) ≡ true → sort_in (front ++ names) text ≡ sort_in names text) → cond b k.sort (sort_in (front ++ names) text) ≡ sort_in names text
      by true here rest = absurd (clash (is_type k) here (first_false (is_type k) (list_any is_type front) none)) where
        clash : (b : Bool) → b ≡ true → b ≡ false → ⊥
        clash true yes_it_is e = cc e
        clash false e no_it_isnt = cc e
      by false here rest = rest here

found_behind : (s : Scope) (front names : List Known) (text : Name) → s.names ≡ front ++ names → list_any is_type front ≡ false → not (is_type_sort (sort_in s.names text)) ≡ false → sort_in s.names text ≡ sort_in names text
found_behind s front names text are none known_one =
    ap (λ (l : List Known). sort_in l text) are
    ∙ type_behind front names text none (subst (λ (l : List Known). is_type_sort (sort_in l text) ≡ true) are (not_false (is_type_sort (sort_in s.names text)) known_one))

kind_behind : (s : Scope) (front names : List Known) (of : Type16) → s.names ≡ front ++ names → list_any is_type front ≡ false → is_unknown_type s of ≡ false → kind_of_type s.names of ≡ kind_of_type names of
kind_behind s front names (Bit w) are none known_one = refl
kind_behind s front names BoolType are none known_one = refl
kind_behind s front names (Named text None) are none known_one = ap type_sort (found_behind s front names text are none known_one)
kind_behind s front names (Named text (Some size)) are none known_one = ap (λ (sort : Sort). stack_kind size.value (type_sort sort)) (found_behind s front names text are none known_one)

-- a variable of a block has the kind that its type has at the top
abbrev pub AtTop : Scope → List Known → Var → Type 0
AtTop s names v = kind_of_type s.names v.of ≡ kind_of_type names v.of

pub var_at_top : (s : Scope) (front names : List Known) (v : Var) → s.names ≡ front ++ names → list_any is_type front ≡ false → list_any is_misnamed (var_uses s v) ≡ false → AtTop s names v
var_at_top s front names v are none kept =
    kind_behind s front names v.of are none
    (first_false (is_unknown_type s v.of) (list_any is_misnamed (type_numbers v.of)) (in_front is_misnamed (a_type_use s of_variable v.of ∷ type_numbers v.of) _ kept))

pub var_seated : (syntax : Syntax16) (s : Scope) (tops : List Known) (n : ℕ) (v : Var) (names : List Known) (seats : List NamedSeat) → AtTop s tops v → IsOfKind (variable_kinds syntax) n (var_kind s v) → Seated names seats → Seated (known_var tops v ∷ names) (seat_of_variable syntax (variable v.name n) ∷ seats)
var_seated syntax s tops n v names seats at_top is seated =
    one_more syntax (variable v.name n) (known_var tops v) names seats
    (is_variable syntax n (kind_of_type tops v.of) true v.name (subst (IsOfKind (variable_kinds syntax) n) at_top is)) seated

pub vars_seated : (syntax : Syntax16) (s : Scope) (tops : List Known) (n : ℕ) (vars : List Var) (names : List Known) → ((v : Var) → list_any is_misnamed (var_uses s v) ≡ false → AtTop s tops v) → list_any is_misnamed (flat_map (var_uses s) vars) ≡ false → AreOfKinds (variable_kinds syntax) n (map (var_kind s) vars) → Seated names [] → Seated (map (known_var tops) vars ++ names) (map (seat_of_variable syntax) (vars_from n vars))
vars_seated syntax s tops n [] names at_top kept are seated = seated
vars_seated syntax s tops n (v ∷ vars) names at_top kept are seated =
    var_seated syntax s tops n v (map (known_var tops) vars ++ names) (map (seat_of_variable syntax) (vars_from (suc n) vars))
    (at_top v (in_front is_misnamed (var_uses s v) (flat_map (var_uses s) vars) kept)) are.0
    (vars_seated syntax s tops (suc n) vars names at_top (at_end is_misnamed (var_uses s v) (flat_map (var_uses s) vars) kept) are.1 seated)

-- what a control declares

pub local_no_type : (tops : List Known) (x : Local) → is_type (known_local tops x) ≡ false
local_no_type tops (local.Instance notes i) = of_instance i where
  of_instance : (i : Instance) → is_type_sort (instance_sort i) ≡ false
  of_instance (instance.Counter size m text) = refl
  of_instance (instance.DirectCounter m text) = refl
  of_instance (instance.Register width size text) = refl
  of_instance (instance.Meter size m text) = refl
local_no_type tops (local.Var v) = refl
local_no_type tops (local.Action a) = refl
local_no_type tops (local.Table t) = refl

-- one of it, with what stands behind it
local_seated : (syntax : Syntax16) (s : Scope) (tops : List Known) (n : ℕ) (x : Local) (names : List Known) (seats : List NamedSeat) → ((v : Var) → list_any is_misnamed (var_uses s v) ≡ false → AtTop s tops v) → list_any is_misnamed (local_uses s x) ≡ false → AreOfKinds (variable_kinds syntax) n (local_kinds s x) → Seated names seats → Seated (known_local tops x ∷ names) (map (seat_of_variable syntax) (own_variables n x) ++ seats)
local_seated syntax s tops n (local.Instance notes i) names seats at_top kept are seated = hidden_by (known_local tops (local.Instance notes i)) names seats (instance_no_value i) seated
local_seated syntax s tops n (local.Var v) names seats at_top kept are seated = var_seated syntax s tops n v names seats (at_top v kept) are.0 seated
local_seated syntax s tops n (local.Action a) names seats at_top kept are seated = hidden_by (known_local tops (local.Action a)) names seats refl seated
local_seated syntax s tops n (local.Table t) names seats at_top kept are seated = hidden_by (known_local tops (local.Table t)) names seats refl seated

pub locals_seated : (syntax : Syntax16) (s : Scope) (tops : List Known) (n : ℕ) (locals : List Local) (names : List Known) → ((v : Var) → list_any is_misnamed (var_uses s v) ≡ false → AtTop s tops v) → list_any is_misnamed (flat_map (local_uses s) locals) ≡ false → AreOfKinds (variable_kinds syntax) n (flat_map (local_kinds s) locals) → Seated names [] → Seated (map (known_local tops) locals ++ names) (map (seat_of_variable syntax) (locals_from s n locals))
locals_seated syntax s tops n [] names at_top kept are seated = seated
locals_seated syntax s tops n (x ∷ locals) names at_top kept are seated =
    let both = apart (variable_kinds syntax) n (local_kinds s x) (flat_map (local_kinds s) locals) are in
    let later : List Variable = locals_from s (n + length (local_kinds s x)) locals in
    subst (Seated (known_local tops x ∷ (map (known_local tops) locals ++ names))) (sym (map-append (seat_of_variable syntax) (own_variables n x) later))
    (local_seated syntax s tops n x (map (known_local tops) locals ++ names) (map (seat_of_variable syntax) later) at_top
    (in_front is_misnamed (local_uses s x) (flat_map (local_uses s) locals) kept) both.0
    (locals_seated syntax s tops (n + length (local_kinds s x)) locals names at_top (at_end is_misnamed (local_uses s x) (flat_map (local_uses s) locals) kept) both.1 seated))
