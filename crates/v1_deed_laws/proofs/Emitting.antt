-- The bits of a header or a stack that is emitted are those of its octets.
use Rattle.std.proofs.Common.{◌≡◌, ℕ, zero, suc, ◌+◌, ◌*◌, ◌/◌, min, ◌≤◌, Bool, true, false, cond, List, [], ◌∷◌, ◌++◌, length, flat_map, get_or, refl, sym, ap, ◌∙◌, subst, arith, length-append, None}
use Rattle.std.proofs.Math.Nat.{mul-div_cancel}
use Rattle.std.proofs.lemmas.List.{append-nil}
use Rattle.p4x_bits.specs.BitLists.{bits, octet_bits}
use Rattle.p4x_bits.proofs.BitLists.{length-bits, bits-num, octet_bits-append}
use Rattle.p416_syntax.specs.Scopes.{Layout as TypeLayout, FieldKind, fields_in}
use Rattle.p416_syntax.specs.Totals.{bits_in}
use Rattle.p416_syntax.specs.Declarations.{layouts_of}
use Rattle.v1_core.specs.Values.{Value}
use Rattle.v1_core.specs.Externs.Packets.{bits_of_field, octets_in, octets_of_header, octets_of}
use Rattle.v1_core.specs.Cells.{Cells, slot_value, header_valid}
use Rattle.v1_core.specs.Seats.{Form, slot_form, header_form, stack_form, struct_form, no_form, Start, moved}
use Rattle.v1_core.specs.PackedValues.{field_values, header_value, element_values, value_from}
use Rattle.v1_core.proofs.Making.{same_start}
use Rattle.v1_ready_laws.specs.Widths.{FieldsWide, ElementsWide, IsWide, FieldsNarrow}
use Rattle.v1_ready_laws.proofs.Accepted.{accepted_narrow}
use Rattle.v1_ready_laws.proofs.Steps.{Stands}
use Rattle.v1_ready_blocks.specs.declared.places.Range.{Range}
use Rattle.v1_ready_blocks.specs.Places.{slot_width}
use Rattle.v1_ready_blocks.specs.Stacks.{fields_each, element_of}
use Rattle.v1_ready_blocks.specs.Packets.{slot_bits, header_bits, element_bits}
use Rattle.v1_parser_laws.specs.Ranges.{IsRangeOf}
use Rattle.v1_place_laws.proofs.Writing.{part_stands}
use Rattle.v1_deed_laws.specs.Forms.{IsEmitted, total_bits}
use Rattle.v1_deed_laws.specs.Laws.{EmitShows}

-- bits of whole octets

whole_octets : (k : ℕ) (xs : List Bool) → length xs ≡ 8 * k → octet_bits (octets_in xs) ≡ xs
whole_octets zero [] is = refl
whole_octets zero (x ∷ xs) is = absurd (omega (arith, is))
whole_octets (suc k) [] is = absurd (omega (arith, is))
whole_octets (suc k) (a ∷ []) is = absurd (omega (arith, is))
whole_octets (suc k) (a ∷ b ∷ []) is = absurd (omega (arith, is))
whole_octets (suc k) (a ∷ b ∷ c ∷ []) is = absurd (omega (arith, is))
whole_octets (suc k) (a ∷ b ∷ c ∷ d ∷ []) is = absurd (omega (arith, is))
whole_octets (suc k) (a ∷ b ∷ c ∷ d ∷ e ∷ []) is = absurd (omega (arith, is))
whole_octets (suc k) (a ∷ b ∷ c ∷ d ∷ e ∷ f ∷ []) is = absurd (omega (arith, is))
whole_octets (suc k) (a ∷ b ∷ c ∷ d ∷ e ∷ f ∷ g ∷ []) is = absurd (omega (arith, is))
whole_octets (suc k) (a ∷ b ∷ c ∷ d ∷ e ∷ f ∷ g ∷ h ∷ rest) is =
    ap (λ (l : List Bool). l ++ octet_bits (octets_in rest)) (bits-num 8 (a ∷ b ∷ c ∷ d ∷ e ∷ f ∷ g ∷ h ∷ []) refl)
    ∙ ap (λ (l : List Bool). a ∷ b ∷ c ∷ d ∷ e ∷ f ∷ g ∷ h ∷ l) (whole_octets k rest (omega (arith, is)))

-- fields

field_bits : (fields : List FieldKind) (c : Cells) (b : Start) (slot : ℕ) → slot ≡ b.slot → FieldsWide c.layout fields b → FieldsNarrow fields → flat_map bits_of_field (field_values fields c b) ≡ slot_bits c (length fields) slot
field_bits [] c b slot is wide narrow = refl
field_bits (f ∷ fields) c b slot is wide narrow =
    ap (λ (l : List Bool). bits (bits_in f.kind) (slot_value c b.slot) ++ l) (field_bits fields c (moved b 1 0 0) (1 + slot) (omega (arith, is)) wide.1 narrow.1)
    ∙ (ap (λ (w : ℕ). bits w (slot_value c b.slot) ++ slot_bits c (length fields) (1 + slot)) (sym same_width)
    ∙ ap (λ (i : ℕ). bits (slot_width c slot) (slot_value c i) ++ slot_bits c (length fields) (1 + slot)) (sym is)) where
      least : (w : ℕ) → w ≤ 128 → min w 128 ≡ w
      least w le = omega (arith, le)

      same_width : slot_width c slot ≡ bits_in f.kind
      same_width = ap (λ (i : ℕ). get_or c.layout.widths i 0) is ∙ (wide.0 ∙ least (bits_in f.kind) narrow.0)

fields_long : (fields : List FieldKind) (c : Cells) (b : Start) → length (flat_map bits_of_field (field_values fields c b)) ≡ total_bits fields
fields_long [] c b = refl
fields_long (f ∷ fields) c b =
    length-append (bits (bits_in f.kind) (slot_value c b.slot)) (flat_map bits_of_field (field_values fields c (moved b 1 0 0)))
    ∙ (ap (λ (n : ℕ). n + length (flat_map bits_of_field (field_values fields c (moved b 1 0 0)))) (length-bits (bits_in f.kind) (slot_value c b.slot))
    ∙ ap (λ (n : ℕ). bits_in f.kind + n) (fields_long fields c (moved b 1 0 0)))

-- headers

header_by : (valid : Bool) (octets : List ℕ) (l : List Bool) → octet_bits octets ≡ l → octet_bits (cond valid octets []) ≡ cond valid l []
header_by true octets l is = is
header_by false octets l is = refl

header_emitted : (fields : List FieldKind) (c : Cells) (b : Start) (r : Range) (k : ℕ) → total_bits fields ≡ 8 * k → FieldsWide c.layout fields b → FieldsNarrow fields → r.slot ≡ b.slot → r.slots ≡ length fields → r.header ≡ b.header → octet_bits (octets_of_header (header_value fields c b)) ≡ header_bits c r
header_emitted fields c b r k whole wide narrow slot slots header =
    header_by (header_valid c b.header) (octets_in (flat_map bits_of_field (field_values fields c b))) (slot_bits c r.slots r.slot)
    (whole_octets k (flat_map bits_of_field (field_values fields c b)) (fields_long fields c b ∙ whole)
    ∙ (field_bits fields c b r.slot slot wide narrow ∙ ap (λ (n : ℕ). slot_bits c n r.slot) (sym slots)))
    ∙ ap (λ (i : ℕ). cond (header_valid c i) (slot_bits c r.slots r.slot) []) (sym header)

-- elements, from one on
elements_emitted : (fields : List FieldKind) (c : Cells) (k : ℕ) (r : Range) (a : Start) → total_bits fields ≡ 8 * k → FieldsNarrow fields → fields_each r ≡ length fields → r.slot ≡ a.slot → r.header ≡ a.header → (count from : ℕ) → ElementsWide c.layout fields count (moved a (from * length fields) from 0) → octet_bits (flat_map octets_of_header (element_values fields c count (moved a (from * length fields) from 0))) ≡ element_bits c r from count
elements_emitted fields c k r a whole narrow each slot header zero from wide = refl
elements_emitted fields c k r a whole narrow each slot header (suc count) from wide =
    let b = moved a (from * length fields) from 0 in
    let next : moved b (length fields) 1 0 ≡ moved a ((1 + from) * length fields) (1 + from) 0 = next_start a (length fields) from in
    octet_bits-append (octets_of_header (header_value fields c b)) (flat_map octets_of_header (element_values fields c count (moved b (length fields) 1 0)))
    ∙ (ap (λ (l : List Bool). l ++ octet_bits (flat_map octets_of_header (element_values fields c count (moved b (length fields) 1 0))))
    (header_emitted fields c b (element_of r from) k whole wide.0 narrow (same_slot r.slot a.slot from (fields_each r) (length fields) slot each) each (same_header r.header a.header from header))
    ∙ ap (λ (l : List Bool). header_bits c (element_of r from) ++ l)
    (ap (λ (s : Start). octet_bits (flat_map octets_of_header (element_values fields c count s))) next
    ∙ elements_emitted fields c k r a whole narrow each slot header count (1 + from) (subst (ElementsWide c.layout fields count) next wide.1))) where
      same_slot : (i j from m n : ℕ) → i ≡ j → m ≡ n → i + from * m ≡ j + from * n
      same_slot i j from m n x y = ap (λ (s : ℕ). s + from * m) x ∙ ap (λ (s : ℕ). j + from * s) y

      same_header : (i j from : ℕ) → i ≡ j → i + from ≡ j + from
      same_header i j from x = ap (λ (s : ℕ). s + from) x

      next_start : (a : Start) (fields from : ℕ) → moved (moved a (from * fields) from 0) fields 1 0 ≡ moved a ((1 + from) * fields) (1 + from) 0
      next_start a fields from = same_start (moved (moved a (from * fields) from 0) fields 1 0) (moved a ((1 + from) * fields) (1 + from) 0) (omega arith) (omega arith) (omega arith)

-- so many slots of so many headers
one_each : (n : ℕ) → n / 1 ≡ n
one_each n = ap (λ (m : ℕ). m / 1) (times_one n) ∙ mul-div_cancel n (omega arith) where
  times_one : (n : ℕ) → n ≡ n * 1
  times_one n = omega arith

value_emitted : (types : List TypeLayout) (c : Cells) (n : ℕ) (k : Form) (b : Start) (r : Range) → IsEmitted types k → IsWide c.layout types n k b → (narrow : (type : List ℕ) → FieldsNarrow (fields_in types type)) → IsRangeOf types (record { depth = n; form = k; start = b; owner = None }) r → octet_bits (octets_of (value_from types c n k b)) ≡ element_bits c r 0 r.headers
value_emitted types c n (slot_form of) b r emitted wide narrow range = absurd emitted
value_emitted types c n (struct_form type) b r emitted wide narrow range = absurd emitted
value_emitted types c n no_form b r emitted wide narrow range = absurd emitted
value_emitted types c n (header_form type) b r emitted wide narrow range =
    let fields = fields_in types type in
    let many : r.slots ≡ length fields = omega (arith, range.slot, range.slots) in
    let one : r.headers ≡ 1 = omega (arith, range.header, range.headers) in
    let each : fields_each r ≡ length fields = ap (λ (k : ℕ). r.slots / k) one ∙ (one_each r.slots ∙ many) in
    header_emitted fields c b (element_of r 0) emitted.0 emitted.1 wide (narrow type) (first_slot r.slot b.slot (fields_each r) range.slot) each (first_header r.header b.header range.header)
    ∙ (no_more (header_bits c (element_of r 0)) ∙ ap (λ (k : ℕ). element_bits c r 0 k) (sym one)) where
      first_slot : (i j m : ℕ) → i ≡ j → i + 0 * m ≡ j
      first_slot i j m x = omega (arith, x)

      first_header : (i j : ℕ) → i ≡ j → i + 0 ≡ j
      first_header i j x = omega (arith, x)

      no_more : (l : List Bool) → l ≡ l ++ []
      no_more l = sym (append-nil l)
value_emitted types c n (stack_form type size) b r emitted wide narrow range =
    let fields = fields_in types type in
    let many : r.slots ≡ size * length fields = omega (arith, range.slot, range.slots) in
    let count : r.headers ≡ size = omega (arith, range.header, range.headers) in
    by size count many wide.1 where
      none : (a : Start) (fields : ℕ) → a ≡ moved a (0 * fields) 0 0
      none a fields = same_start a (moved a (0 * fields) 0 0) (omega arith) (omega arith) (omega arith)

      by : (size : ℕ) → r.headers ≡ size → r.slots ≡ size * length (fields_in types type) → ElementsWide c.layout (fields_in types type) size b → octet_bits (flat_map octets_of_header (element_values (fields_in types type) c size b)) ≡ element_bits c r 0 r.headers
      by zero count many wide = ap (λ (k : ℕ). element_bits c r 0 k) (sym count)
      by (suc size) count many wide =
          let fields = fields_in types type in
          let each : fields_each r ≡ length fields =
          ap (λ (k : ℕ). r.slots / k) count ∙ (ap (λ (m : ℕ). m / (suc size)) (many ∙ swap (suc size) (length fields)) ∙ mul-div_cancel (length fields) (omega arith)) in
          ap (λ (s : Start). octet_bits (flat_map octets_of_header (element_values fields c (suc size) s))) (none b (length fields))
          ∙ (elements_emitted fields c emitted.0 r b emitted.1 (narrow type) each range.slot range.header (suc size) 0 (subst (ElementsWide c.layout fields (suc size)) (none b (length fields)) wide)
          ∙ ap (λ (k : ℕ). element_bits c r 0 k) (sym count)) where
            swap : (m n : ℕ) → m * n ≡ n * m
            swap m n = omega arith

pub emit_shows : EmitShows
emit_shows syntax who q u r v m n keeps there emitted range is h =
    let accepted = accepted_narrow syntax keeps in
    let stands : Stands n.cells.layout (layouts_of syntax.decls) u = part_stands syntax n.cells q u h.whole.layout accepted.0 accepted.2 there in
    record {
      frame = h.frame;
      whole = h.whole;
      store = h.store;
      unparsed = h.unparsed;
      emitted =
          octet_bits-append m.emitted (octets_of v)
          ∙ (ap (λ (l : List Bool). l ++ octet_bits (octets_of v)) h.emitted
          ∙ ap (λ (l : List Bool). n.emitted ++ l)
          (ap (λ (x : Value). octet_bits (octets_of x)) is
          ∙ value_emitted (layouts_of syntax.decls) n.cells u.depth u.form u.start r emitted stands.wide accepted.0
          (record { slot = range.slot; slots = range.slots; header = range.header; headers = range.headers; stack = range.stack; stacks = range.stacks })));
      work = h.work;
      stopped = h.stopped;
      hit = h.hit;
    }
