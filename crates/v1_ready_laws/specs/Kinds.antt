-- Which values are of a kind, and expressions whose operands are of kinds that the rules on types allow (P4_16 1.2,
-- "Expressions", "Operations on fixed-width bit types (unsigned integers)").
use Rattle.std.specs.Prelude.{◌≡◌, ◌⊎◌, ℕ, ◌+◌, ◌≤◌, List, [], ◌∷◌, false, unwrap_or}
use Rattle.p416_syntax.specs.declared.node.BinaryOperator.{BinaryOperator}
use Rattle.p416_syntax.specs.declared.node.BinaryOperator.TheVariants.{Multiply, Add, Subtract, SaturatingAdd, SaturatingSubtract, Concatenate, BitAnd, BitXor, BitOr}
use Rattle.p416_syntax.specs.Tree.{Exp16, member, index, slice, call, cast, unary, binary, choice}
use Rattle.p416_syntax.specs.Names.{Name}
use Rattle.p416_syntax.specs.Kinds.{Kind, bits, unsized, header, stack, struct, table, is_unsized}
use Rattle.p416_syntax.specs.Scopes.{Layout, FieldKind, fields_in, Scope, sort_of}
use Rattle.p416_syntax.specs.Calls.{Place}
use Rattle.p416_syntax.specs.Expressions.{sort_kind, kind_of}
use Rattle.p416_syntax.specs.Literals.{width_of_place}
use Rattle.v1_core.specs.Values.{Value, a_number, a_header, a_stack, no_value, Step, part_of}
use Rattle.v1_core.specs.Frames.{Frame, read}
use Rattle.v1_core.specs.Surroundings.{World, named}
use Rattle.v1_core.specs.Cells.{Cells, stack_place}
use Rattle.v1_core.specs.Seats.{struct_form, Start}
use Rattle.v1_core.specs.PackedValues.{header_value, element_values, value_from}

-- a number has so many bits
abbrev pub HasWidth : ℕ → Value → Type 0
HasWidth width (a_number w n) = w ≡ width
HasWidth width v = Unit {0}

-- nothing is a part of it: so what `next` of a full stack gives, and of an element that isn't there
abbrev pub HasNoParts : Value → Type 0
HasNoParts v = (step : Step) → part_of v step ≡ no_value

-- A number of a kind has its width; a header, a stack or a struct stands among the cells of the frame, or has no parts.
abbrev pub IsOf : List Layout → Cells → Kind → Value → Type 0
IsOf types c (bits width) v = HasWidth width v
IsOf types c (header type) v = ((b : Start) × (v ≡ a_header (header_value (fields_in types type) c b))) ⊎ HasNoParts v
IsOf types c (stack type size) v =
    ((b : Start) × (v ≡ a_stack (stack_place c b.stack) (element_values (fields_in types type) c size b))) ⊎ HasNoParts v
IsOf types c (struct type) v =
    ((n : ℕ) × ((b : Start) × (v ≡ value_from types c n (struct_form type) b))) ⊎ HasNoParts v
IsOf types c k v = Unit {0}

-- at a place, whose width a number without a width takes
abbrev pub IsOfAt : List Layout → Cells → Place → Kind → Value → Type 0
IsOfAt types c p unsized v = HasWidth (unwrap_or (width_of_place p) 0) v
IsOfAt types c p k v = IsOf types c k v

-- what names mean is of their kinds
abbrev pub NamesAreOf : World → Scope → Cells → Frame → Type 0
NamesAreOf w s c f =
    (p : Place) (text : Name) → IsOfAt s.layouts c p (sort_kind (sort_of s text)) (read f (named w.around f text))

-- each field of a type has a width of its own
abbrev pub FieldsSized : List FieldKind → Type 0
FieldsSized [] = Unit {0}
FieldsSized (f ∷ fields) = (is_unsized f.kind ≡ false) × FieldsSized fields

abbrev pub TypesSized : List Layout → Type 0
TypesSized types = (type : Name) → FieldsSized (fields_in types type)

-- operands of one width, or of which one takes that of the other
pub data Join : Kind → Kind → Type 0 where
  one_width : (w : ℕ) → Join (bits w) (bits w)
  left_width : (w : ℕ) → Join (bits w) unsized
  right_width : (w : ℕ) → Join unsized (bits w)
  no_width : Join unsized unsized

-- bits that are 128 together at most
pub data Concatenated : Kind → Kind → Type 0 where
  both_widths : (v w : ℕ) → v + w ≤ 128 → Concatenated (bits v) (bits w)

abbrev pub KindsFit : BinaryOperator → Kind → Kind → Type 0
KindsFit Multiply a b = Join a b
KindsFit Add a b = Join a b
KindsFit Subtract a b = Join a b
KindsFit SaturatingAdd a b = Join a b
KindsFit SaturatingSubtract a b = Join a b
KindsFit Concatenate a b = Concatenated a b
KindsFit BitAnd a b = Join a b
KindsFit BitXor a b = Join a b
KindsFit BitOr a b = Join a b
KindsFit operator a b = Unit {0}

abbrev pub IsNoTable : Kind → Type 0
IsNoTable table = ⊥
IsNoTable k = Unit {0}

-- an expression with all within it, which applies no table
abbrev pub OperandKindsFit : Scope → Exp16 → Type 0
OperandKindsFit s (member e word) = OperandKindsFit s e
OperandKindsFit s (index e at) = OperandKindsFit s e
OperandKindsFit s (slice e high low) = OperandKindsFit s e
OperandKindsFit s (call (member e word) given) = IsNoTable (kind_of s e) × OperandKindsFit s e
OperandKindsFit s (cast to e) = OperandKindsFit s e
OperandKindsFit s (unary operator e) = OperandKindsFit s e
OperandKindsFit s (binary operator a b) =
    OperandKindsFit s a × OperandKindsFit s b × KindsFit operator (kind_of s a) (kind_of s b)
OperandKindsFit s (choice c a b) = OperandKindsFit s c × OperandKindsFit s a × OperandKindsFit s b
OperandKindsFit s e = Unit {0}
