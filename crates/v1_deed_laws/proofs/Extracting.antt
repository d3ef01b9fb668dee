-- An extraction fills the slots of a header as it fills its fields, and `next` moves the place of its stack.
use Rattle.std.proofs.Common.{◌≡◌, ◌⊎◌, inl, inr, ℕ, zero, suc, ◌+◌, ◌*◌, ◌/◌, min, ◌<◌, ◌≤◌, nat_lt, Bool, true, false, cond, Option, Some, None, List, [], ◌∷◌, length, map, take, drop, get_or, sum, refl, sym, ap, ◌∙◌, subst, arith}
use Rattle.std.proofs.lemmas.List.{get_or-set_same, get_or-set_other}
use Rattle.std.proofs.lemmas.List.Sums.{sum_by-cons}
use Rattle.p4x_bits.specs.BitLists.{num, octet_bits}
use Rattle.p4x_bits.proofs.BitLists.{num_of_take_below}
use Rattle.p416_syntax.specs.declared.program.Syntax16.{Syntax16}
use Rattle.p416_syntax.specs.Names.{Name}
use Rattle.p416_syntax.specs.Scopes.{Layout as TypeLayout, FieldKind, fields_in}
use Rattle.p416_syntax.specs.Totals.{bits_in}
use Rattle.p416_syntax.specs.Declarations.{layouts_of}
use Rattle.v1_core.specs.declared.parser_error.ParserError.TheVariants.{PacketTooShort}
use Rattle.v1_core.specs.Values.{Value, a_header, a_stack, Field, header_in, place_in, elements_in}
use Rattle.v1_core.specs.Frames as sem
use Rattle.v1_core.specs.Frames.{Frame, Reference, read, write}
use Rattle.v1_core.specs.Slots.{variable_kinds}
use Rattle.v1_core.specs.Numbered.{InScope, frame_in, part_value, with_part_value}
use Rattle.v1_core.specs.Externs.Packets as packets
use Rattle.v1_core.specs.Externs.Packets.{field_width, header_width, fields_filled}
use Rattle.v1_core.specs.Layouts.{Layout}
use Rattle.v1_core.specs.Cells.{Cells, owner_valid, is_live, slot_value, with_slot, header_valid, with_validity, stack_place, stack_size, with_stack_place, AreWhole}
use Rattle.v1_core.proofs.Frames.{set_got, set_others}
use Rattle.v1_core.specs.Seats.{Form, header_form, stack_form, Start, moved, Seat}
use Rattle.v1_core.specs.PackedValues.{field_values, header_value, seat_value}
use Rattle.v1_core.specs.Laid.{AreFields, IsHeader, OwnersAgree}
use Rattle.v1_core.specs.Programs.{part_seat, numbered16, of_values}
use Rattle.v1_core.specs.Scopes.{IsScope}
use Rattle.v1_core.proofs.Kept.{validity_others}
use Rattle.v1_core.proofs.Laws.{part_read, place_put, program_laid}
use Rattle.v1_core.specs.declared.node.Which.{Which}
use Rattle.v1_ready_laws.specs.Widths.{FieldsWide, FieldsNarrow}
use Rattle.v1_ready_laws.proofs.Accepted.{accepted_narrow}
use Rattle.v1_ready_laws.proofs.Steps.{Stands}
use Rattle.v1_ready_blocks.specs.declared.places.Range.{Range}
use Rattle.v1_ready_blocks.specs.declared.places.RangePlace.{RangePlace}
use Rattle.v1_ready_blocks.specs.declared.places.RangePlace.TheVariants as range_place
use Rattle.v1_ready_blocks.specs.Moments.{Moment, raised}
use Rattle.v1_ready_blocks.specs.Places.{slot_width}
use Rattle.v1_ready_blocks.specs.Packets.{total_width, filled, extracted, moved_on, extract}
use Rattle.v1_ready_blocks.specs.Packets as blocks
use Rattle.v1_parser_laws.specs.Shown.{Shows}
use Rattle.v1_parser_laws.specs.Ranges.{IsRangeOf}
use Rattle.v1_parser_laws.proofs.Parts.{whole_number, whole_stack, whole_marked}
use Rattle.v1_parser_laws.proofs.States.{raised_shows}
use Rattle.v1_place_laws.specs.Finding.{IsAt}
use Rattle.v1_place_laws.proofs.Marking.{place_read}
use Rattle.v1_place_laws.proofs.Writing.{part_stands}
use Rattle.v1_deed_laws.specs.Laws.{ExtractShows, ExtractNextShows}
use Rattle.v1_deed_laws.proofs.Whole.{Untouched, meant_put, part_written}

-- so many slots from one on are filled; all else stays
record Fills (c d : Cells) (slot n : ℕ) : Type 0 where
  layout : d.layout ≡ c.layout
  values : (values : List Value) → of_values values c ≡ of_values values d
  whole : AreWhole d
  slots : (i : ℕ) → (i < slot) ⊎ (slot + n ≤ i) → slot_value c i ≡ slot_value d i
  headers : (i : ℕ) → header_valid c i ≡ header_valid d i
  stacks : (i : ℕ) → stack_place c i ≡ stack_place d i

far_one : (slot n i : ℕ) → (i < slot) ⊎ (slot + (suc n) ≤ i) → i ≡ slot → ⊥
far_one slot n i (inl lt) same = omega (arith, lt, same)
far_one slot n i (inr le) same = omega (arith, le, same)

further : (slot n i : ℕ) → (i < slot) ⊎ (slot + (suc n) ≤ i) → (i < 1 + slot) ⊎ (1 + slot + n ≤ i)
further slot n i (inl lt) = inl (omega (arith, lt))
further slot n i (inr le) = inr (omega (arith, le))

fills : (n slot : ℕ) (rest : List Bool) (c : Cells) → AreWhole c → Fills c (filled n slot rest c) slot n
fills zero slot rest c whole = record { layout = refl; values = λ values. refl; whole = whole; slots = λ i out. refl; headers = λ i. refl; stacks = λ i. refl }
fills (suc n) slot rest c whole =
    let number = num (take (slot_width c slot) rest) in
    let x = with_slot c slot number in
    let more : Fills x (filled n (1 + slot) (drop (slot_width c slot) rest) x) (1 + slot) n =
    fills n (1 + slot) (drop (slot_width c slot) rest) x (whole_number c slot number (num_of_take_below (slot_width c slot) rest) whole) in
    record {
      layout = more.layout;
      values = more.values;
      whole = more.whole;
      slots = λ i out. sym (set_others c slot number i (far_one slot n i out)) ∙ more.slots i (further slot n i out);
      headers = more.headers;
      stacks = more.stacks;
    }

places_filled : (n slot : ℕ) (rest : List Bool) (c : Cells) (i : ℕ) → stack_place c i ≡ stack_place (filled n slot rest c) i
places_filled zero slot rest c i = refl
places_filled (suc n) slot rest c i = places_filled n (1 + slot) (drop (slot_width c slot) rest) (with_slot c slot (num (take (slot_width c slot) rest))) i

-- an extraction moves no place of a stack by itself
places_stay : (to : Range) (n : Moment) (i : ℕ) → stack_place n.cells i ≡ stack_place (extracted to n).cells i
places_stay to n i = places_filled to.slots to.slot (octet_bits n.unparsed) (with_validity n.cells to.header true) i

-- each field gets its number
fields_are_filled : (fields : List FieldKind) (c x : Cells) (header : ℕ) (a b : Start) (slot : ℕ) (rest : List Bool) → slot ≡ b.slot → AreWhole x → AreFields x.layout header (length fields) b → FieldsWide x.layout fields b → FieldsNarrow fields → header_valid x header ≡ true → field_values fields (filled (length fields) slot rest x) b ≡ fields_filled (field_values fields c a) rest
fields_are_filled [] c x header a b slot rest is whole laid wide narrow on = refl
fields_are_filled (f ∷ fields) c x header a b slot rest is whole laid wide narrow on =
    ap (λ (n : ℕ). record { called = f.called; width = bits_in f.kind; number = n } ∷ field_values fields end (moved b 1 0 0)) first
    ∙ (ap (λ (w : ℕ). record { called = f.called; width = bits_in f.kind; number = num (take w rest) } ∷ field_values fields end (moved b 1 0 0)) same_width
    ∙ (ap (λ (l : List Field). record { called = f.called; width = bits_in f.kind; number = num (take (bits_in f.kind) rest) } ∷ l)
    (fields_are_filled fields c y header (moved a 1 0 0) (moved b 1 0 0) (1 + slot) (drop (slot_width x slot) rest) (omega (arith, is)) put_whole laid.1 wide.1 narrow.1 on)
    ∙ ap (λ (w : ℕ). record { called = f.called; width = bits_in f.kind; number = num (take (bits_in f.kind) rest) } ∷ fields_filled (field_values fields c (moved a 1 0 0)) (drop w rest)) same_width)) where
      number : ℕ
      number = num (take (slot_width x slot) rest)

      y : Cells
      y = with_slot x slot number

      end : Cells
      end = filled (length fields) (1 + slot) (drop (slot_width x slot) rest) y

      put_whole : AreWhole y
      put_whole = whole_number x slot number (num_of_take_below (slot_width x slot) rest) whole

      least : (w : ℕ) → w ≤ 128 → min w 128 ≡ w
      least w le = omega (arith, le)

      same_width : slot_width x slot ≡ bits_in f.kind
      same_width = ap (λ (i : ℕ). get_or x.layout.widths i 0) is ∙ (wide.0 ∙ least (bits_in f.kind) narrow.0)

      live : is_live x slot ≡ true
      live = ap (λ (i : ℕ). owner_valid x.valids (get_or x.layout.owners i None)) is ∙ (ap (λ (o : Option ℕ). owner_valid x.valids o) laid.0.owned ∙ on)

      first : slot_value end b.slot ≡ num (take (slot_width x slot) rest)
      first =
          sym ((fills (length fields) (1 + slot) (drop (slot_width x slot) rest) y put_whole).slots b.slot (inl (omega (arith, is))))
          ∙ (ap (λ (i : ℕ). slot_value y i) (sym is)
          ∙ (set_got x slot number (omega (arith, is, laid.0.within, whole.numbers)) ∙ ap (λ (on : Bool). cond on number 0) live))

-- the bits of a header are those of its slots
widths_are : (fields : List FieldKind) (c : Cells) (b : Start) (slot : ℕ) → slot ≡ b.slot → FieldsWide c.layout fields b → FieldsNarrow fields → sum (map field_width (field_values fields c b)) ≡ total_width c (length fields) slot
widths_are [] c b slot is wide narrow = refl
widths_are (f ∷ fields) c b slot is wide narrow =
    sum_by-cons (λ x. x) (bits_in f.kind) (map field_width (field_values fields c (moved b 1 0 0)))
    ∙ (ap (λ (n : ℕ). bits_in f.kind + n) (widths_are fields c (moved b 1 0 0) (1 + slot) (omega (arith, is)) wide.1 narrow.1)
    ∙ ap (λ (w : ℕ). w + total_width c (length fields) (1 + slot)) (sym same_width)) where
      least : (w : ℕ) → w ≤ 128 → min w 128 ≡ w
      least w le = omega (arith, le)

      same_width : slot_width c slot ≡ bits_in f.kind
      same_width = ap (λ (i : ℕ). get_or c.layout.widths i 0) is ∙ (wide.0 ∙ least (bits_in f.kind) narrow.0)

-- a header that is valid and filled
module _ (syntax : Syntax16) (who : InScope) (m : sem.Moment) (n : Moment) (r : Reference) (t : Seat) (type : Name) (to : Range) (h : Shows syntax who m n) (scope : IsScope (length (variable_kinds syntax)) who) (at : IsAt syntax who r None t) (form : t.form ≡ header_form type) (range : IsRangeOf (layouts_of syntax.decls) t to) (stands : Stands n.cells.layout (layouts_of syntax.decls) t) (narrow : FieldsNarrow (fields_in (layouts_of syntax.decls) type)) where
  abbrev types : List TypeLayout
  types = layouts_of syntax.decls

  abbrev fields : List FieldKind
  fields = fields_in (layouts_of syntax.decls) type

  abbrev whole_seat : Seat
  whole_seat = record { depth = t.depth; form = header_form type; start = t.start; owner = t.owner }

  same_seat : t ≡ whole_seat
  same_seat = ap (λ (k : Form). record { depth = t.depth; form = k; start = t.start; owner = t.owner }) form

  there : IsAt syntax who r None whole_seat
  there = subst (IsAt syntax who r None) same_seat at

  ranged : IsRangeOf types whole_seat to
  ranged = subst (λ (s : Seat). IsRangeOf types s to) same_seat range

  stood : Stands n.cells.layout types whole_seat
  stood = subst (Stands n.cells.layout types) same_seat stands

  laid : IsHeader n.cells.layout (length fields) t.start
  laid = stood.laid

  agree : OwnersAgree n.cells.layout
  agree = subst OwnersAgree (sym h.whole.layout) (program_laid syntax).0.agree

  many : to.slots ≡ length fields
  many = omega (arith, ranged.slot, ranged.slots)

  abbrev marked : Cells
  marked = with_validity n.cells t.start.header true

  -- with the bits that are left
  abbrev done : List Bool → Cells
  done rest = filled (length fields) t.start.slot rest marked

  whole_mark : AreWhole marked
  whole_mark = whole_marked n.cells (length fields) t.start true laid h.whole.whole

  fill : (rest : List Bool) → Fills marked (done rest) t.start.slot (length fields)
  fill rest = fills (length fields) t.start.slot rest marked whole_mark

  on : header_valid marked t.start.header ≡ true
  on = get_or-set_same n.cells.valids t.start.header true false (omega (arith, laid.within, h.whole.whole.valids))

  untouched : (rest : List Bool) → Untouched n.cells (done rest) t.start (moved t.start (length fields) 1 0)
  untouched rest = record {
    layout = (fill rest).layout;
    values = λ values. (fill rest).values values;
    slots = λ i out. sym (validity_others n.cells (length fields) t.start true i agree laid h.whole.whole.numbers out) ∙ (fill rest).slots i out;
    headers = λ i out. sym (get_or-set_other n.cells.valids t.start.header i true false (clash i out)) ∙ (fill rest).headers i;
    stacks = λ i out. (fill rest).stacks i;
  } where
    clash : (i : ℕ) → (i < t.start.header) ⊎ (t.start.header + 1 ≤ i) → i ≡ t.start.header → ⊥
    clash i (inl lt) same = omega (arith, lt, same)
    clash i (inr le) same = omega (arith, le, same)

  value : (rest : List Bool) → a_header (record { valid = true; fields = fields_filled (field_values fields n.cells t.start) rest }) ≡ a_header (header_value fields (done rest) t.start)
  value rest =
      ap (λ (l : List Field). a_header (record { valid = true; fields = l }))
      (sym (fields_are_filled fields n.cells marked t.start.header t.start t.start t.start.slot rest refl whole_mark laid.each stood.wide narrow on))
      ∙ ap (λ (v : Bool). a_header (record { valid = v; fields = field_values fields (done rest) t.start })) (sym on ∙ (fill rest).headers t.start.header)

  -- the header as it stood
  reads : read m.frame r ≡ a_header (header_value fields n.cells t.start)
  reads = ap (λ (f : Frame). read f r) h.frame ∙ place_read syntax n.cells who r None whole_seat h.whole there

  wide : header_width (header_in (read m.frame r)) ≡ total_width n.cells to.slots to.slot
  wide =
      ap (λ (v : Value). header_width (header_in v)) reads
      ∙ (widths_are fields n.cells t.start to.slot ranged.slot stood.wide narrow ∙ ap (λ (k : ℕ). total_width n.cells k to.slot) (sym many))

  cells_are : extracted to n ≡ record n { cells = done (octet_bits n.unparsed); unparsed = drop (total_width n.cells to.slots to.slot / 8) n.unparsed }
  cells_are =
      ap (λ (k : ℕ). record n { cells = filled k to.slot (octet_bits n.unparsed) (with_validity n.cells to.header true); unparsed = drop (total_width n.cells to.slots to.slot / 8) n.unparsed }) many
      ∙ (ap (λ (k : ℕ). record n { cells = filled (length fields) k (octet_bits n.unparsed) (with_validity n.cells to.header true); unparsed = drop (total_width n.cells to.slots to.slot / 8) n.unparsed }) ranged.slot
      ∙ ap (λ (k : ℕ). record n { cells = filled (length fields) t.start.slot (octet_bits n.unparsed) (with_validity n.cells k true); unparsed = drop (total_width n.cells to.slots to.slot / 8) n.unparsed }) ranged.header)

  frame_is : write r (a_header (record { valid = true; fields = fields_filled (header_in (read m.frame r)).fields (octet_bits m.unparsed) })) m.frame ≡ frame_in who (numbered16 syntax (done (octet_bits n.unparsed)))
  frame_is =
      ap (λ (v : Value). write r (a_header (record { valid = true; fields = fields_filled (header_in v).fields (octet_bits m.unparsed) })) m.frame) reads
      ∙ (ap (λ (l : List ℕ). write r (a_header (record { valid = true; fields = fields_filled (field_values fields n.cells t.start) (octet_bits l) })) m.frame) h.unparsed
      ∙ (ap (λ (f : Frame). write r (a_header (record { valid = true; fields = fields_filled (field_values fields n.cells t.start) (octet_bits n.unparsed) })) f) h.frame
      ∙ part_written syntax n.cells who h.whole scope (done (octet_bits n.unparsed)) r whole_seat (a_header (record { valid = true; fields = fields_filled (field_values fields n.cells t.start) (octet_bits n.unparsed) })) there (untouched (octet_bits n.unparsed)) (λ live. value (octet_bits n.unparsed))))

  pub extracted_shows : Shows syntax who (packets.extracted r m) (extracted to n)
  extracted_shows =
      subst (Shows syntax who (packets.extracted r m)) (sym cells_are)
      (record {
        frame = frame_is;
        whole = record { layout = (fill (octet_bits n.unparsed)).layout ∙ h.whole.layout; whole = (fill (octet_bits n.unparsed)).whole };
        store = h.store;
        unparsed = ap (λ (k : ℕ). drop (k / 8) m.unparsed) wide ∙ ap (λ (l : List ℕ). drop (total_width n.cells to.slots to.slot / 8) l) h.unparsed;
        emitted = h.emitted;
        work = h.work;
        stopped = h.stopped;
        hit = h.hit;
      })

  -- there are as many bits
  enough : (next : Option Reference) → packets.extract r next m ≡ cond (nat_lt (total_width n.cells to.slots to.slot) (8 * length n.unparsed + 1)) (packets.moved next (packets.extracted r m)) (sem.raised PacketTooShort m)
  enough next =
      ap (λ (k : ℕ). cond (nat_lt k (8 * length m.unparsed + 1)) (packets.moved next (packets.extracted r m)) (sem.raised PacketTooShort m)) wide
      ∙ ap (λ (l : List ℕ). cond (nat_lt (total_width n.cells to.slots to.slot) (8 * length l + 1)) (packets.moved next (packets.extracted r m)) (sem.raised PacketTooShort m)) h.unparsed

  by_bits : (b : Bool) (x : sem.Moment) (y : Moment) → Shows syntax who x y → Shows syntax who (cond b x (sem.raised PacketTooShort m)) (cond b y (raised PacketTooShort n))
  by_bits true x y shown = shown
  by_bits false x y shown = raised_shows syntax who PacketTooShort m n h

  -- with what follows an extraction
  pub extract_shows : (next : Option Reference) (place : RangePlace) → Shows syntax who (packets.moved next (packets.extracted r m)) (blocks.moved place (extracted to n)) → Shows syntax who (packets.extract r next m) (extract place to n)
  extract_shows next place shown =
      subst (λ (x : sem.Moment). Shows syntax who x (extract place to n)) (sym (enough next))
      (by_bits (nat_lt (total_width n.cells to.slots to.slot) (8 * length n.unparsed + 1)) (packets.moved next (packets.extracted r m)) (blocks.moved place (extracted to n)) shown)

pub extract_header_shows : ExtractShows
extract_header_shows syntax who r t type place to m n keeps scope at form range stays h =
    let accepted = accepted_narrow syntax keeps in
    let stands = part_stands syntax n.cells at.part t h.whole.layout accepted.0 accepted.2 at.seat in
    extract_shows syntax who m n r t type to h scope at form range stands (accepted.0 type) None place
    (subst (λ (c : Cells). Shows syntax who (packets.extracted r m) (record (extracted to n) { cells = c })) (sym (stays (extracted to n).cells))
    (extracted_shows syntax who m n r t type to h scope at form range stands (accepted.0 type)))

-- the place of a stack that isn't full moves by one
stack_moves : (syntax : Syntax16) (who : InScope) (m : sem.Moment) (n : Moment) (s : Reference) (u : Seat) (type : Name) (size : ℕ) → Shows syntax who m n → IsScope (length (variable_kinds syntax)) who → IsAt syntax who s None u → u.form ≡ stack_form type size → stack_place n.cells u.start.stack < stack_size n.cells u.start.stack
    → Shows syntax who (packets.moved (Some s) m) (record n { cells = with_stack_place n.cells u.start.stack (min (stack_place n.cells u.start.stack + 1) (stack_size n.cells u.start.stack)) })
stack_moves syntax who m n s u type size h scope at form lt = record {
  frame =
      ap (λ (f : Frame). write s (a_stack (place_in (read f s) + 1) (elements_in (read f s))) f) h.frame
      ∙ (ap (λ (v : Value). write s (a_stack (place_in v + 1) (elements_in v)) (frame_in who (numbered16 syntax n.cells))) (reads ∙ sym part)
      ∙ (meant_put syntax n.cells who h.whole scope s u (a_stack (place_in (part_value (numbered16 syntax n.cells) at.part) + 1) (elements_in (part_value (numbered16 syntax n.cells) at.part))) at
      ∙ (ap (λ (v : Value). frame_in who (with_part_value (numbered16 syntax n.cells) at.part (a_stack (place_in v + 1) (elements_in (part_value (numbered16 syntax n.cells) at.part))))) part
      ∙ (ap (frame_in who) (place_put syntax n.cells at.part u.depth type size u.start u.owner (stack_place n.cells u.start.stack + 1) h.whole seat)
      ∙ ap (λ (k : ℕ). frame_in who (numbered16 syntax (with_stack_place n.cells u.start.stack k))) (sym (least (stack_place n.cells u.start.stack) (stack_size n.cells u.start.stack) lt))))));
  whole = record {
    layout = h.whole.layout;
    whole = whole_stack n.cells u.start.stack (min (stack_place n.cells u.start.stack + 1) (stack_size n.cells u.start.stack)) (most (stack_place n.cells u.start.stack + 1) (stack_size n.cells u.start.stack)) h.whole.whole;
  };
  store = h.store;
  unparsed = h.unparsed;
  emitted = h.emitted;
  work = h.work;
  stopped = h.stopped;
  hit = h.hit;
} where
  least : (k l : ℕ) → k < l → min (k + 1) l ≡ k + 1
  least k l lt = omega (arith, lt)

  most : (k l : ℕ) → min k l ≤ l
  most k l = omega arith

  whole_seat : Seat
  whole_seat = record { depth = u.depth; form = stack_form type size; start = u.start; owner = u.owner }

  seat : part_seat syntax at.part ≡ Some whole_seat
  seat = at.seat ∙ ap (λ (k : Form). Some (record { depth = u.depth; form = k; start = u.start; owner = u.owner })) form

  there : IsAt syntax who s None whole_seat
  there = record { part = at.part; cuts = at.cuts; means = at.means; seat = seat }

  stands : Value
  stands = seat_value (layouts_of syntax.decls) n.cells whole_seat

  reads : read (frame_in who (numbered16 syntax n.cells)) s ≡ stands
  reads = place_read syntax n.cells who s None whole_seat h.whole there

  part : part_value (numbered16 syntax n.cells) at.part ≡ stands
  part = part_read syntax n.cells at.part whole_seat h.whole.layout seat

pub extract_next_shows : ExtractNextShows
extract_next_shows syntax who r s t u type other size told to m n keeps scope at form range stack stack_is which here lt h =
    let accepted = accepted_narrow syntax keeps in
    let stands = part_stands syntax n.cells at.part t h.whole.layout accepted.0 accepted.2 at.seat in
    let shown : Shows syntax who (packets.extracted r m) (extracted to n) = extracted_shows syntax who m n r t type to h scope at form range stands (accepted.0 type) in
    let kept : (i : ℕ) → stack_place n.cells i ≡ stack_place (extracted to n).cells i = places_stay to n in
    let same_size : stack_size (extracted to n).cells u.start.stack ≡ stack_size n.cells u.start.stack = ap (λ (l : Layout). get_or l.sizes u.start.stack 0) (shown.whole.layout ∙ sym h.whole.layout) in
    extract_shows syntax who m n r t type to h scope at form range stands (accepted.0 type) (Some s) (range_place.Told told)
    (subst (λ (w : Which). Shows syntax who (packets.moved (Some s) (packets.extracted r m)) (record (extracted to n) { cells = moved_on (range_place.Told (record told { which = w })) (extracted to n).cells })) (sym which)
    (subst (λ (k : ℕ). Shows syntax who (packets.moved (Some s) (packets.extracted r m)) (record (extracted to n) { cells = with_stack_place (extracted to n).cells k (min (stack_place (extracted to n).cells k + 1) (stack_size (extracted to n).cells k)) })) (sym here)
    (stack_moves syntax who (packets.extracted r m) (extracted to n) s u other size shown scope stack stack_is (below_moved (stack_place n.cells u.start.stack) (stack_place (extracted to n).cells u.start.stack) (stack_size n.cells u.start.stack) (stack_size (extracted to n).cells u.start.stack) (kept u.start.stack) same_size lt)))) where
      below_moved : (p q k l : ℕ) → p ≡ q → l ≡ k → p < k → q < l
      below_moved p q k l x y z = omega (arith, x, y, z)
