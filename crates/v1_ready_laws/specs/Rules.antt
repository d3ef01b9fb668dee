-- Expressions that keep the rules on types and sizes, and apply no table; and names that are declared as what stands at their
-- seats.
use Rattle.std.specs.Prelude.{◌≡◌, ◌<◌, Bool, false, List, ◌++◌, length, slice_index_or, Option, Some, None}
use Rattle.std.specs.List.{list_any}
use Rattle.p416_syntax.specs.declared.program.Syntax16.{Syntax16}
use Rattle.p416_syntax.specs.Tree.{Exp16, member, index, slice, call, cast, unary, binary, choice}
use Rattle.p416_syntax.specs.Names.{Name}
use Rattle.p416_syntax.specs.Kinds.{Kind, packet_in, packet_out, unknown}
use Rattle.p416_syntax.specs.Scopes.{Sort, a_value, Known, Scope, sort_of}
use Rattle.p416_syntax.specs.Calls.{Place}
use Rattle.p416_syntax.specs.Expressions.{kind_of}
use Rattle.p416_syntax.specs.Uses.{Use, uses}
use Rattle.p416_syntax.specs.Types.{is_mistyped}
use Rattle.p416_syntax.specs.Sizes.{leaves_size}
use Rattle.v1_core.specs.Slots.{variable_kinds}
use Rattle.v1_core.specs.Numbered.{Variable, InScope}
use Rattle.v1_core.specs.Seats.{form_of, Seat}
use Rattle.v1_ready_forms.specs.Named.{NamedSeat, seat_of_name}
use Rattle.v1_ready_laws.specs.Kinds.{IsNoTable}

-- nothing that is judged breaks T2 or T3
abbrev pub KeepsAll : List Use → Type 0
KeepsAll all = (list_any is_mistyped all ≡ false) × (list_any leaves_size all ≡ false)

-- an expression at its place, with all within it
abbrev pub Keeps : Scope → Place → Exp16 → Type 0
Keeps s p e = KeepsAll (uses s p e)

-- an expression in which no table is applied
abbrev pub AppliesNone : Scope → Exp16 → Type 0
AppliesNone s (member e word) = AppliesNone s e
AppliesNone s (index e at) = AppliesNone s e
AppliesNone s (slice e high low) = AppliesNone s e
AppliesNone s (call (member e word) given) = IsNoTable (kind_of s e) × AppliesNone s e
AppliesNone s (cast to e) = AppliesNone s e
AppliesNone s (unary operator e) = AppliesNone s e
AppliesNone s (binary operator a b) = AppliesNone s a × AppliesNone s b
AppliesNone s (choice c a b) = AppliesNone s c × AppliesNone s a × AppliesNone s b
AppliesNone s e = Unit {0}

-- What names are declared as stands at their seats: a value of a kind at a seat of its form. Only packets have none.

abbrev pub IsUnseated : Kind → Type 0
IsUnseated packet_in = Unit {0}
IsUnseated packet_out = Unit {0}
IsUnseated k = ⊥

abbrev pub SortSeated : Sort → Option Seat → Type 0
SortSeated (a_value k can) (Some t) = t.form ≡ form_of k
SortSeated (a_value k can) None = IsUnseated k
SortSeated sort seat = Unit {0}

abbrev pub NamesSeated : Scope → List NamedSeat → Type 0
NamesSeated s seats = (text : Name) → SortSeated (sort_of s text) (seat_of_name seats text)

-- a variable or a parameter of an action by its number, as it is declared
pub record IsVariable (syntax : Syntax16) (v : Variable) (k : Known) : Type 0 where
  pub called : v.called ≡ k.called
  pub number : v.number < length (variable_kinds syntax)
  pub can : Bool
  pub sort : k.sort ≡ a_value (slice_index_or (variable_kinds syntax) v.number unknown) can

-- with these in scope too, the innermost
abbrev pub with_inner_ones : List Variable → InScope → InScope
with_inner_ones vs who = record who { inner = vs ++ who.inner }
