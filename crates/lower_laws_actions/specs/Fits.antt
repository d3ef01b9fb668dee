-- Which primitives a block can have (this project's own; P4_14 1.0.5, "Primitive Actions", "Field Lists", "Counters",
-- "Meters", "Registers"; the bound of 128 bits and the mark of 8 bits are this project's own, too).
use Rattle.std.specs.Prelude.{◌≡◌, ℕ, ◌<◌, ◌^◌, suc, Bool, true, false, ◌&&◌, pos, negsuc, unwrap_or, Option, Some, None, List, [], ◌∷◌, length}
use Rattle.fabric.specs.declared.items.RequestKind.{RequestKind}
use Rattle.fabric.specs.declared.items.RequestKind.TheVariants.{CloneI2E, CloneE2E, Resubmit, Recirculate}
use Rattle.p414_sem.specs.Slots.{slot_of, bits_of_ref}
use Rattle.p414_syntax.specs.declared.calculations.Item.{Item}
use Rattle.p414_syntax.specs.declared.calculations.Item.TheVariants as item
use Rattle.p414_syntax.specs.declared.syntax.Decl.{Decl}
use Rattle.p414_sem.specs.Operations.{Source, number, Term, just, on_mask, sum, difference, conjunction, disjunction, exclusive, left_shift, right_shift, cell, hashed, Primitive, write, add_header, remove_header, copy_header, push, pop, count_cell, write_cell, execute_meter, ask, nothing}
use Rattle.p416_syntax.specs.Kinds.{ObjectKind, counter, register, meter}
use Rattle.agreement_of_meanings.specs.Shown.{NamedField, as_stack, fields_of}
use Rattle.agreement_of_meanings.specs.Agrees.{mark_of, MarksNone}
use Rattle.p416_syntax.specs.Names.{Name}
use Rattle.v1_core.specs.Frames.{of_headers}
use Rattle.lower_laws_base.specs.Context.{Lowering, words_of, instances_of, HasRoot, shown_in, object_at, IsSlot, IsHeaderPart, SourceFits}
use Rattle.lower_laws_base.specs.Mirror.{width_in}

-- the object with this number is one of this kind (`v1model.p4`, the stateful objects)
abbrev pub IsObject : Lowering → ObjectKind → ℕ → Type 0
IsObject c kind object = (object < length c.objects) × ((object_at c.objects object).kind ≡ kind)

-- literals

-- a literal's magnitude is below 2 ^ 128
abbrev pub IsSmall : Source → Type 0
IsSmall (number (pos k)) = k < 2 ^ 128
IsSmall (number (negsuc k)) = suc k < 2 ^ 128
IsSmall _ = Unit {0}

-- a literal isn't negative, and below 2 ^ 128
abbrev pub IsNatural : Source → Type 0
IsNatural (number (pos k)) = k < 2 ^ 128
IsNatural (number (negsuc k)) = ⊥
IsNatural _ = Unit {0}

-- the items of a hash; `payload` and instances are none
abbrev pub ItemFits : Lowering → List Decl → Item → Type 0
ItemFits c ds (item.Number n) = n.value < 2 ^ unwrap_or n.width 0
ItemFits c ds (item.Field r) = IsSlot c.layout (slot_of ds r) × (bits_of_ref ds r ≡ width_in (words_of c) (slot_of ds r))
ItemFits c ds _ = ⊥

-- all items of a hash fit
abbrev pub ItemsFit : Lowering → List Decl → List Item → Type 0
ItemsFit c ds [] = Unit {0}
ItemsFit c ds (i ∷ items) = ItemFits c ds i × ItemsFit c ds items

-- the operands of a term fit, and so do the register and the items that it names; a shift and a hash have no negative
-- operands
abbrev pub TermFits : Lowering → List Decl → Term → Type 0
TermFits c ds (just a) = SourceFits c a
TermFits c ds (on_mask a mask) = SourceFits c a × SourceFits c mask
TermFits c ds (sum a b) = SourceFits c a × SourceFits c b
TermFits c ds (difference a b) = SourceFits c a × SourceFits c b
TermFits c ds (conjunction a b) = SourceFits c a × SourceFits c b
TermFits c ds (disjunction a b) = SourceFits c a × SourceFits c b
TermFits c ds (exclusive a b) = SourceFits c a × SourceFits c b
TermFits c ds (cell object index) = IsObject c register object × SourceFits c index
TermFits c ds (left_shift a b) = SourceFits c a × SourceFits c b × IsNatural a × IsNatural b
TermFits c ds (right_shift a b) = SourceFits c a × SourceFits c b × IsNatural a × IsNatural b
TermFits c ds (hashed base calculation bound) = SourceFits c base × SourceFits c bound × IsNatural base × IsNatural bound × ItemsFit c ds calculation.items

-- Only a sum or a difference saturates, of literals that aren't too great.
abbrev pub KeptFits : Bool → Term → Type 0
KeptFits false term = Unit {0}
KeptFits true (sum a b) = IsSmall a × IsSmall b
KeptFits true (difference a b) = IsSmall a × IsSmall b
KeptFits true _ = ⊥

-- a list that is preserved has a mark of 8 bits, and none has 0
abbrev pub ListFits : Lowering → Option ℕ → Type 0
ListFits c None = MarksNone c.layout.names.marks 0
ListFits c (Some list) = (number : ℕ) × (mark_of c.layout.names.marks list ≡ Some number) × (number < 2 ^ 8)

-- only a clone has a session (P4_14, "Clone")
abbrev pub SessionFits : Lowering → RequestKind → Source → Type 0
SessionFits c CloneI2E session = SourceFits c session
SessionFits c CloneE2E session = SourceFits c session
SessionFits c Resubmit session = session ≡ number (pos 0)
SessionFits c Recirculate session = session ≡ number (pos 0)

-- the instance with this number is a stack that the block reaches
pub record IsStack (c : Lowering) (i : ℕ) : Type 0 where
  pub called : Name
  pub fields : List NamedField
  pub within : i < length (instances_of c)
  pub shown : shown_in c i ≡ as_stack called fields
  pub root : HasRoot c.layout of_headers

-- A primitive names fields, headers, stacks and objects that the block has, with the widths that these have; a header
-- is copied to one with the same fields, and a stack moves by a number of 32 bits.
abbrev pub PrimitiveFits : Lowering → List Decl → Primitive → Type 0
PrimitiveFits c ds (write sums t term) = IsSlot c.layout t.slot × (t.width ≡ width_in (words_of c) t.slot) × TermFits c ds term × KeptFits (sums && t.saturating) term
PrimitiveFits c ds (add_header part) = IsHeaderPart c.layout part
PrimitiveFits c ds (remove_header part) = IsHeaderPart c.layout part
PrimitiveFits c ds (copy_header to from) = IsHeaderPart c.layout to × IsHeaderPart c.layout from × (fields_of (shown_in c from.instance) ≡ fields_of (shown_in c to.instance))
PrimitiveFits c ds (count_cell object index) = IsObject c counter object × SourceFits c index
PrimitiveFits c ds (write_cell object index value) = IsObject c register object × SourceFits c index × SourceFits c value
PrimitiveFits c ds (execute_meter object index t) = IsObject c meter object × SourceFits c index × IsSlot c.layout t.slot × (t.width ≡ width_in (words_of c) t.slot)
PrimitiveFits c ds (ask kind session list) = SessionFits c kind session × ListFits c list
PrimitiveFits c ds (push i n) = IsStack c i × (n < 2 ^ 32)
PrimitiveFits c ds (pop i n) = IsStack c i × (n < 2 ^ 32)
PrimitiveFits c ds nothing = Unit {0}

-- all these primitives fit
abbrev pub AllFit : Lowering → List Decl → List Primitive → Type 0
AllFit c ds [] = Unit {0}
AllFit c ds (p ∷ ps) = PrimitiveFits c ds p × AllFit c ds ps
