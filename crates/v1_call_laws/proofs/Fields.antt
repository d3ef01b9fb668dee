-- The fields of standard metadata stand as bits in the slots that are found by their names.
use Rattle.std.proofs.Common.{◌≡◌, ℕ, Option, Some, None, IfSome, List, [], ◌∷◌, length, refl, sym, ap, ◌∙◌, subst}
use Rattle.std.specs.Prelude.{codes}
use Rattle.p416_syntax.specs.declared.program.Syntax16.{Syntax16}
use Rattle.p416_syntax.specs.Names.{Name}
use Rattle.p416_syntax.specs.Scopes.{Layout, FieldKind, fields_in}
use Rattle.p416_syntax.specs.BuiltIn.{standard_name, standard_layout}
use Rattle.p416_syntax.specs.Declarations.{layouts_of}
use Rattle.p416_syntax.specs.Main.{headers_kind, metadata_kind}
use Rattle.v1_core.specs.Values.{to_member}
use Rattle.v1_core.specs.Slots.{the_standard, part_with}
use Rattle.v1_core.specs.Seats.{some_bits, Form, slot_form, struct_form, form_of, Start, behind, Seat, member_seat, stepped_seat, seat_behind, seat_at}
use Rattle.v1_core.specs.Programs.{first_start, part_seat}
use Rattle.v1_deed_laws.specs.Externs.{IsStandard}
use Rattle.v1_ready_statements.specs.Around.{Around, slot_of_seat, standard_slot}
use Rattle.v1_call_laws.specs.Calling.{StandardIsOwn}

abbrev IsBits : ℕ → Option Seat → Type 0
IsBits width o = IfSome o (λ u. u.form ≡ slot_form (some_bits width))

-- a step from the standard metadata
step_bits : (types : List Layout) (word : Name) (width : ℕ) (start : Start) → fields_in types standard_name ≡ standard_layout.fields → ((n : ℕ) (next : Form → Start → Start) → IsBits width (member_seat next n standard_layout.fields start word)) → IsBits width (stepped_seat types (length types) (struct_form standard_name) start (to_member word))
step_bits [] word width start own h = absurd (cc own)
step_bits (l ∷ types) word width start own h =
    subst (λ (fs : List FieldKind). IsBits width (member_seat (λ k b. behind (l ∷ types) (length types) k b) (length types) fs start word)) (sym own) (h (length types) (λ k b. behind (l ∷ types) (length types) k b))

one_step : (types : List Layout) (word : Name) (width : ℕ) (o : Option Seat) → IsBits width o → IsBits width (seat_behind (λ t. seat_at types [] t) o)
one_step types word width None h = tt
one_step types word width (Some u) h = h

-- where the standard metadata begins
abbrev begins : Syntax16 → Start
begins syntax = behind (layouts_of syntax.decls) (length (layouts_of syntax.decls)) (form_of (metadata_kind syntax)) (behind (layouts_of syntax.decls) (length (layouts_of syntax.decls)) (form_of (headers_kind syntax)) first_start)

field_bits : (syntax : Syntax16) (word : Name) (width : ℕ) → StandardIsOwn syntax → ((n : ℕ) (next : Form → Start → Start) (start : Start) → IsBits width (member_seat next n standard_layout.fields start word)) → IsBits width (part_seat syntax (part_with the_standard (to_member word ∷ [])))
field_bits syntax word width own h =
    let types : List Layout = layouts_of syntax.decls in
    one_step types word width (stepped_seat types (length types) (struct_form standard_name) (begins syntax) (to_member word))
    (step_bits types word width (begins syntax) own (λ n next. h n next (begins syntax)))

stands : (b : Around) (word : Name) (width slot : ℕ) → IsBits width (part_seat b.syntax (part_with the_standard (to_member word ∷ []))) → standard_slot b word ≡ Some slot → IsStandard b.syntax word width slot
stands b word width slot h is = by (part_seat b.syntax (part_with the_standard (to_member word ∷ []))) refl h is where
  there : (u : Seat) → part_seat b.syntax (part_with the_standard (to_member word ∷ [])) ≡ Some u → u.form ≡ slot_form (some_bits width) → slot_of_seat (Some u) ≡ Some slot → IsStandard b.syntax word width slot
  there u at form same =
      let slot_is : Some u.start.slot ≡ Some slot = ap (λ (f : Form). slot_of_seat (Some (record { depth = u.depth; form = f; start = u.start; owner = u.owner }))) (sym form) ∙ same in
      let number : u.start.slot ≡ slot = cc slot_is in
      record { seat = u; at = at; form = form; slot_is = sym number }

  by : (o : Option Seat) → part_seat b.syntax (part_with the_standard (to_member word ∷ [])) ≡ o → IsBits width o → slot_of_seat o ≡ Some slot → IsStandard b.syntax word width slot
  by None at g same = absurd (cc same)
  by (Some u) at g same = there u at g same

pub length_stands : (b : Around) (slot : ℕ) → StandardIsOwn b.syntax → standard_slot b (codes "packet_length") ≡ Some slot → IsStandard b.syntax (codes "packet_length") 32 slot
length_stands b slot own is = stands b (codes "packet_length") 32 slot (field_bits b.syntax (codes "packet_length") 32 own (λ n next start. refl)) is

pub error_stands : (b : Around) (slot : ℕ) → StandardIsOwn b.syntax → standard_slot b (codes "checksum_error") ≡ Some slot → IsStandard b.syntax (codes "checksum_error") 1 slot
error_stands b slot own is = stands b (codes "checksum_error") 1 slot (field_bits b.syntax (codes "checksum_error") 1 own (λ n next start. refl)) is
