-- What is asked of a block and of a call of which laws speak: what stands around it, and what the rules on calls say (P4_16
-- 1.2, "Function calls and method invocations"; `v1model.p4`).
use Rattle.std.specs.Prelude.{◌≡◌, false, List, ◌∷◌, length, IfSome}
use Rattle.p416_syntax.specs.declared.program.Syntax16.{Syntax16}
use Rattle.p416_syntax.specs.Tree.{Exp16, name, member, call, listed}
use Rattle.p416_syntax.specs.Names.{Name}
use Rattle.p416_syntax.specs.Kinds.{Enumeration, Kind, header, struct, packet_in, packet_out, enumeration, one_of, table, items, unknown}
use Rattle.p416_syntax.specs.Scopes.{Sort, a_type, a_value, Scope, sort_of, fields_in}
use Rattle.p416_syntax.specs.BuiltIn.{standard_name, standard_layout}
use Rattle.p416_syntax.specs.Calls.{Place, item_list, member_place, literal_of, statement}
use Rattle.p416_syntax.specs.Expressions.{field_kind_in, known_kind, kind_of, signature_of}
use Rattle.p416_syntax.specs.Uses.{an_expression, arguments_of, wanted_by}
use Rattle.p416_syntax.specs.Literals.{overflows}
use Rattle.p416_syntax.specs.Declarations.{layouts_of}
use Rattle.v1_core.specs.Surroundings.{Surroundings}
use Rattle.v1_core.specs.Cells.{Cells}
use Rattle.v1_ready_laws.specs.Rules.{Keeps}
use Rattle.v1_block_laws.specs.Keeping.{Each}
use Rattle.v1_ready_statements.specs.Around.{Around}
use Rattle.v1_call_laws.specs.Telling.{ToldNone}

-- the program and what it declares in a block are those of its meaning
pub record IsAround (b : Around) (a : Surroundings) : Type 0 where
  pub syntax : a.setting.syntax ≡ b.syntax
  pub locals : a.locals ≡ b.locals

-- the type of standard metadata is that of `v1model.p4`
abbrev pub StandardIsOwn : Syntax16 → Type 0
StandardIsOwn syntax = fields_in (layouts_of syntax.decls) standard_name ≡ standard_layout.fields

-- the frame in which arguments wait is this
abbrev pub IsSame : Cells → Cells → Type 0
IsSame c d = d ≡ c

-- arguments

-- a member of an enumeration by its name
pub record IsMemberOf (s : Scope) (enum : Enumeration) (e : Exp16) : Type 0 where
  pub text : Name
  pub word : Name
  pub is : e ≡ member (name text) word
  pub kind : kind_of s (name text) ≡ enumeration enum

-- What T3 and T4 say of an argument at its place besides the kind: members stand behind the name of their enumeration, lists in
-- braces, and literals are within their width.
abbrev pub FitsPlace : Scope → Place → Exp16 → Type 0
FitsPlace s (member_place enum) e = IsMemberOf s enum e
FitsPlace s item_list e = (es : Exp16) × (e ≡ listed es)
FitsPlace s (literal_of k) e = overflows (an_expression s (literal_of k) e) ≡ false
FitsPlace s p e = Unit {0}

abbrev pub FitPlaces : Scope → List Place → List Exp16 → Type 0
FitPlaces s (p ∷ places) (e ∷ es) = FitsPlace s p e × FitPlaces s places es
FitPlaces s _ _ = Unit {0}

-- a call that keeps the rules on types and sizes, with as many arguments as are wanted (T6), each of which fits its place, and in
-- none of which a stack tells anything (T10)
pub record CallFits (s : Scope) (callee given : Exp16) : Type 0 where
  pub keeps : Keeps s statement (call callee given)
  pub count : IfSome (signature_of s callee) (λ g. length (arguments_of given) ≡ length g.wanted)
  pub places : FitPlaces s (wanted_by (signature_of s callee)) (arguments_of given)
  pub told : Each (ToldNone s) (arguments_of given)

-- so does each call that the rules find nothing in, where names and fields are of such kinds as types name

abbrev pub IsPlainKind : Kind → Type 0
IsPlainKind (enumeration enum) = ⊥
IsPlainKind (one_of enum) = ⊥
IsPlainKind table = ⊥
IsPlainKind items = ⊥
IsPlainKind k = Unit {0}

-- of types with names
abbrev pub IsNamedKind : Kind → Type 0
IsNamedKind (header type) = Unit {0}
IsNamedKind (struct type) = Unit {0}
IsNamedKind packet_in = Unit {0}
IsNamedKind packet_out = Unit {0}
IsNamedKind unknown = Unit {0}
IsNamedKind k = ⊥

abbrev pub SortPlain : Sort → Type 0
SortPlain (a_type k) = IsNamedKind k
SortPlain (a_value k can) = IsPlainKind k
SortPlain sort = Unit {0}

pub record NamesPlain (s : Scope) : Type 0 where
  pub names : (text : Name) → SortPlain (sort_of s text)
  pub members : (type word : Name) → IsPlainKind (known_kind (field_kind_in (fields_in s.layouts type) word))
