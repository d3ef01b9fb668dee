-- What is read of an l-value, and headers that become valid or invalid.
use Rattle.std.proofs.Common.{◌≡◌, ℕ, Bool, true, false, cond, Option, Some, None, List, [], ◌∷◌, length, map, refl, sym, ap, ◌∙◌, subst}
use Rattle.p416_syntax.specs.declared.program.Syntax16.{Syntax16}
use Rattle.p416_syntax.specs.Names.{Name}
use Rattle.p416_syntax.specs.Scopes.{FieldKind, fields_in}
use Rattle.p416_syntax.specs.Totals.{bits_in}
use Rattle.p416_syntax.specs.Declarations.{layouts_of}
use Rattle.v1_core.specs.Values.{Field, Value, a_header, Header, header_in, cleared, cleared_field, Slice}
use Rattle.v1_core.specs.Numbers.{is_same_truth}
use Rattle.v1_core.specs.Frames.{Frame, Moment, Reference, place_value, within_slice, read, around_slice, write}
use Rattle.v1_core.specs.Slots.{FramePart, variable_kinds}
use Rattle.v1_core.specs.Numbered.{Numbered, InScope, frame_in, part_meant, part_value, with_part_value, made_valid}
use Rattle.v1_core.specs.HeaderCalls.{validated, set_valid, set_invalid}
use Rattle.v1_core.specs.Cells.{Cells, slot_value, header_valid, with_validity}
use Rattle.v1_core.specs.Seats.{Form, header_form, Start, moved, Seat}
use Rattle.v1_core.specs.PackedValues.{field_values, header_value, seat_value}
use Rattle.v1_core.specs.Laid.{AreFields}
use Rattle.v1_core.specs.Programs.{part_seat, numbered16}
use Rattle.v1_core.specs.PackedFrames.{IsFrameOf}
use Rattle.v1_core.specs.Scopes.{IsScope}
use Rattle.v1_core.proofs.Reading.{read_once}
use Rattle.v1_core.proofs.Named.{meant_read, meant_write}
use Rattle.v1_core.proofs.Laws.{part_put, part_read, validity_put}
use Rattle.v1_place_laws.specs.Finding.{IsAt}
use Rattle.v1_place_laws.proofs.Writing.{variables_counted}

pub place_read : (syntax : Syntax16) (c : Cells) (who : InScope) (r : Reference) (slice : Option Slice) (t : Seat) → IsFrameOf syntax c → IsAt syntax who r slice t → read (frame_in who (numbered16 syntax c)) r ≡ within_slice slice (seat_value (layouts_of syntax.decls) c t)
place_read syntax c who r slice t is at =
    ap (λ (cut : Option Slice). within_slice cut (place_value (frame_in who (numbered16 syntax c)) r)) at.cuts
    ∙ ap (within_slice slice)
    (meant_read who (numbered16 syntax c) r.owner r.steps r.slice at.part at.means ∙ part_read syntax c at.part t is.layout at.seat)

-- a header by its mark

validated_is : (h : Header) → validated h ≡ made_valid true h
validated_is h = by h.valid where
  by : (b : Bool) → cond b h (cleared true h) ≡ cond (is_same_truth b true) h (cleared true h)
  by true = refl
  by false = refl

-- the fields of an invalid header are 0
fields_zero : (c : Cells) (header : ℕ) (fields : List FieldKind) (b : Start) → AreFields c.layout header (length fields) b → header_valid c header ≡ false → map cleared_field (field_values fields c b) ≡ field_values fields c b
fields_zero c header [] b laid off = refl
fields_zero c header (f ∷ fields) b laid off =
    let none : 0 ≡ slot_value c b.slot = ap (λ (on : Bool). cond on (slot_value c b.slot) 0) (sym off) ∙ read_once c b.slot header laid.0 in
    ap (λ (n : ℕ). first n ∷ map cleared_field (field_values fields c (moved b 1 0 0))) none
    ∙ ap (λ (l : List Field). first (slot_value c b.slot) ∷ l) (fields_zero c header fields (moved b 1 0 0) laid.1 off) where
      first : ℕ → Field
      first n = record { called = f.called; width = bits_in f.kind; number = n }

abbrev header_with : Bool → List Field → Header
header_with on fields = record { valid = on; fields = fields }

invalid_is : (c : Cells) (fields : List FieldKind) (b : Start) → AreFields c.layout b.header (length fields) b → cleared false (header_value fields c b) ≡ made_valid false (header_value fields c b)
invalid_is c fields b laid = by (header_valid c b.header) refl where
  by : (on : Bool) → header_valid c b.header ≡ on → header_with false (map cleared_field (field_values fields c b)) ≡ cond (is_same_truth on false) (header_with on (field_values fields c b)) (header_with false (map cleared_field (field_values fields c b)))
  by true e = refl
  by false e = ap (header_with false) (fields_zero c b.header fields b laid e)

module _ (syntax : Syntax16) (c : Cells) (who : InScope) (is : IsFrameOf syntax c) (scope : IsScope (length (variable_kinds syntax)) who) where
  -- written whole where it stands
  marked : (r : Reference) (p : FramePart) (depth : ℕ) (type : Name) (b : Start) (owner : Option ℕ) (on : Bool) → r.slice ≡ None → part_meant who r ≡ Some p → part_seat syntax p ≡ Some (record { depth = depth; form = header_form type; start = b; owner = owner }) → write r (a_header (made_valid on (header_value (fields_in (layouts_of syntax.decls) type) c b))) (frame_in who (numbered16 syntax c)) ≡ frame_in who (numbered16 syntax (with_validity c b.header on))
  marked r p depth type b owner on cut means at =
      let x : Numbered = numbered16 syntax c in
      let t : Seat = record { depth = depth; form = header_form type; start = b; owner = owner } in
      let v : Value = a_header (made_valid on (header_value (fields_in (layouts_of syntax.decls) type) c b)) in
      meant_write who x r.owner r.steps r.slice v p (subst (λ (n : ℕ). IsScope n who) (sym (variables_counted syntax c)) scope) means
      ∙ ap (λ (y : Numbered). frame_in who y)
      (ap (λ (s : Option Slice). with_part_value x p (around_slice s (part_value x p) v)) cut
      ∙ (ap (λ (h : Value). with_part_value x p (a_header (made_valid on (header_in h)))) (sym (part_read syntax c p t is.layout at))
      ∙ validity_put syntax c p depth type b owner on is at))

  both : (r : Reference) (p : FramePart) (depth : ℕ) (type : Name) (b : Start) (owner : Option ℕ) (m : Moment) → r.slice ≡ None → part_meant who r ≡ Some p → part_seat syntax p ≡ Some (record { depth = depth; form = header_form type; start = b; owner = owner }) → m.frame ≡ frame_in who (numbered16 syntax c) → read (frame_in who (numbered16 syntax c)) r ≡ a_header (header_value (fields_in (layouts_of syntax.decls) type) c b) → ((set_valid r m).frame ≡ frame_in who (numbered16 syntax (with_validity c b.header true))) × ((set_invalid r m).frame ≡ frame_in who (numbered16 syntax (with_validity c b.header false)))
  both r p depth type b owner m cut means at frame stands =
      let h : Header = header_value (fields_in (layouts_of syntax.decls) type) c b in
      let t : Seat = record { depth = depth; form = header_form type; start = b; owner = owner } in
      let f : Frame = frame_in who (numbered16 syntax c) in (
        ap (λ (g : Frame). write r (a_header (validated (header_in (read g r)))) g) frame
            ∙ (ap (λ (v : Value). write r (a_header (validated (header_in v))) f) stands
            ∙ (ap (λ (k : Header). write r (a_header k) f) (validated_is h) ∙ marked r p depth type b owner true cut means at)),
        ap (λ (g : Frame). write r (a_header (cleared false (header_in (read g r)))) g) frame
            ∙ (ap (λ (v : Value). write r (a_header (cleared false (header_in v))) f) stands
            ∙ (ap (λ (k : Header). write r (a_header k) f) (invalid_is c (fields_in (layouts_of syntax.decls) type) b (part_put syntax c c p (a_header h) t is.layout refl at).laid.each)
            ∙ marked r p depth type b owner false cut means at)),
      )

  pub headers_marked : (r : Reference) (t : Seat) (type : Name) (m : Moment) → IsAt syntax who r None t → t.form ≡ header_form type → m.frame ≡ frame_in who (numbered16 syntax c) → ((set_valid r m).frame ≡ frame_in who (numbered16 syntax (with_validity c t.start.header true))) × ((set_invalid r m).frame ≡ frame_in who (numbered16 syntax (with_validity c t.start.header false)))
  headers_marked r t type m at form frame =
      let whole : Seat = record { depth = t.depth; form = header_form type; start = t.start; owner = t.owner } in
      let seat : part_seat syntax at.part ≡ Some whole = at.seat ∙ ap (λ (k : Form). Some (record { depth = t.depth; form = k; start = t.start; owner = t.owner })) form in
      let there : IsAt syntax who r None whole = record { part = at.part; cuts = at.cuts; means = at.means; seat = seat } in
      both r at.part t.depth type t.start t.owner m at.cuts at.means seat frame (place_read syntax c who r None whole is there)
