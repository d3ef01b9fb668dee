-- What the lowering of a table's keys writes (this project's own; P4_14 1.0.5, "Table Declarations"; P4_16 1.2,
-- "Tables", "Control-plane API annotations"; `core.p4` and `v1model.p4`, the match kinds).
use Rattle.std.specs.Prelude.{◌≡◌, ◌%◌, ◌^◌, codes, List, [], ◌∷◌, Option, Some, None}
use Rattle.p414_syntax.specs.declared.lexeme.Literal.{Literal}
use Rattle.p414_syntax.specs.declared.tables.ReadKey.{ReadKey}
use Rattle.p414_syntax.specs.declared.tables.ReadKey.TheVariants as read_key
use Rattle.p414_syntax.specs.declared.tables.Read.{Read}
use Rattle.p414_syntax.specs.declared.syntax.Decl.{Decl}
use Rattle.p414_syntax.specs.Names.{Name}
use Rattle.p414_sem.specs.Slots.{Slot, standard, declared, slot_of, element_of, bits_of_ref}
use Rattle.p416_syntax.specs.declared.controls.TableKey.{TableKey}
use Rattle.p416_syntax.specs.declared.parts.Note.{Note}
use Rattle.p416_syntax.specs.declared.parts.Note.TheVariants as note
use Rattle.p416_syntax.specs.declared.node.BinaryOperator.TheVariants.{BitAnd}
use Rattle.p416_syntax.specs.Tree.{Exp16, literal, binary}
use Rattle.agreement_of_meanings.specs.Shown.{fields_of, field_at, shown_at, standard_word, slot_width}
use Rattle.lower_laws_base.specs.Context.{Words, now, StateLayout, IsSlot, IsHeaderPart}
use Rattle.lower_laws_base.specs.Mirror.{sized, width_in, slot_exp, part_exp, valid_exp}

-- a field, on the bits of its mask, which is cut to the field
abbrev pub masked_key : Words → Slot → Option Literal → Exp16
masked_key w slot None = slot_exp w now slot
masked_key w slot (Some mask) = binary BitAnd (slot_exp w now slot) (literal (sized (width_in w slot) (mask.value % 2 ^ width_in w slot)))

-- what is matched: a field, or whether a header is valid
abbrev pub key_exp : Words → List Decl → ReadKey → Option Literal → Exp16
key_exp w ds (read_key.Field f) mask = masked_key w (slot_of ds f) mask
key_exp w ds (read_key.Instance i) mask = valid_exp (part_exp w now (element_of ds i))

-- the match kind of a key; one of kind `valid` is matched exactly (P4_14, "Table Declarations"; `core.p4`, `exact`)
abbrev pub key_kind : ReadKey → Name → Name
key_kind (read_key.Field f) kind = kind
key_kind (read_key.Instance i) kind = codes "exact"

-- the name of a field in its header or in standard metadata
abbrev pub slot_word : Words → Slot → Name
slot_word w (standard which) = standard_word which
slot_word w (declared i e k) = (field_at (fields_of (shown_at w.names.instances i)) k).called

-- a masked key, which is no plain field, bears the field's name for a name
abbrev pub key_notes : Words → List Decl → ReadKey → Option Literal → List Note
key_notes w ds (read_key.Field f) (Some mask) = note.Name (slot_word w (slot_of ds f)) ∷ []
key_notes w ds _ _ = []

-- what is written for a key of the table
abbrev pub key_of : Words → List Decl → Read → TableKey
key_of w ds r = record { exp = key_exp w ds r.key r.mask; kind = key_kind r.key r.kind; notes = key_notes w ds r.key r.mask }

-- keys of the program

-- a field that is there, with its width, or a header
abbrev pub KeyFits : StateLayout → List Decl → ReadKey → Type 0
KeyFits g ds (read_key.Field f) = IsSlot g (slot_of ds f) × (slot_width g.names.instances (slot_of ds f) ≡ bits_of_ref ds f)
KeyFits g ds (read_key.Instance i) = IsHeaderPart g (element_of ds i)

-- all keys of a table are so
abbrev pub KeysFit : StateLayout → List Decl → List Read → Type 0
KeysFit g ds [] = Unit {0}
KeysFit g ds (r ∷ rs) = KeyFits g ds r.key × KeysFit g ds rs
