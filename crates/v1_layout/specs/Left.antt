-- What is left to be laid out.
use Rattle.std.specs.Prelude.{ℕ, zero, suc, ◌+◌, List, [], ◌∷◌}
use Rattle.p416_syntax.specs.declared.program.Decl16.{Decl16}
use Rattle.p416_syntax.specs.declared.program.Decl16.TheVariants as decl
use Rattle.p416_syntax.specs.Kinds.{Kind}
use Rattle.p416_syntax.specs.Scopes.{Layout as TypeLayout, FieldKind, fields_in}
use Rattle.p416_syntax.specs.Totals.{bits_in}
use Rattle.p416_names.specs.declared.kind.Kind.{Kind as CodeKind}
use Rattle.p416_names.specs.SeenKinds.{seen_kind}
use Rattle.v1_core.specs.Layouts.{Layout}
use Rattle.v1_core.specs.Seats.{some_bits, Form, slot_form, header_form, stack_form, struct_form, no_form, form_of}
use Rattle.v1_core.specs.Programs.{slot_width, with_value}
use Rattle.v1_layout.specs.declared.values.Left.{Left}

-- the kinds of fields

abbrev pub kind_of_field : FieldKind → Kind
kind_of_field f = f.kind

abbrev pub kind_width : Kind → ℕ
kind_width k = slot_width (some_bits (bits_in k))

-- a value of a kind
abbrev pub left_at : ℕ → CodeKind → Left
left_at depth k = record { depth = depth; kind = k }

-- the layout with the parts of all that is left
abbrev pub laid_out : List TypeLayout → List Left → Layout → Layout
laid_out types [] l = l
laid_out types (x ∷ more) l = laid_out types more (with_value types x.depth (form_of (seen_kind x.kind)) l)

-- how many steps that takes, where each value that is taken off is a step

abbrev pub member_steps : (Form → ℕ) → List FieldKind → ℕ
member_steps each [] = 0
member_steps each (f ∷ fields) = each (form_of f.kind) + member_steps each fields

abbrev pub steps_of : List TypeLayout → ℕ → Form → ℕ
steps_of types n (slot_form of) = 1
steps_of types n (header_form type) = 1
steps_of types n (stack_form type size) = 1
steps_of types zero (struct_form type) = 1
steps_of types (suc n) (struct_form type) = 1 + member_steps (λ k. steps_of types n k) (fields_in types type)
steps_of types n no_form = 1

abbrev pub steps : List TypeLayout → List Left → ℕ
steps types [] = 0
steps types (x ∷ more) = steps_of types x.depth (form_of (seen_kind x.kind)) + steps types more

-- how many types a declaration declares
abbrev pub type_count : Decl16 → ℕ
type_count (decl.Header h) = 1
type_count (decl.Struct x) = 1
type_count _ = 0

abbrev pub counted : List Decl16 → ℕ
counted [] = 0
counted (d ∷ ds) = type_count d + counted ds
