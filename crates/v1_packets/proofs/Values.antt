-- The values of a packed frame between two blocks.
use Rattle.std.proofs.Common.{◌≡◌, ◌⊎◌, inl, inr, ℕ, zero, suc, ◌-◌, ◌<◌, ◌≤◌, Bool, true, false, cond, Option, None, List, [], ◌∷◌, ◌++◌, length, replicate, get_or, refl, sym, ap, ◌∙◌, subst, arith}
use Rattle.std.proofs.lemmas.Bool.{cases_lt}
use Rattle.p416_syntax.specs.declared.program.Syntax16.{Syntax16}
use Rattle.p416_syntax.specs.BuiltIn.{standard}
use Rattle.p416_syntax.specs.Scopes.{Layout as TypeLayout, FieldKind, fields_in}
use Rattle.p416_syntax.specs.Declarations.{layouts_of}
use Rattle.p416_syntax.specs.Main.{headers_kind, metadata_kind}
use Rattle.v1_core.specs.Values.{Value, no_members, zero_value}
use Rattle.v1_core.specs.Frames.{Frame}
use Rattle.v1_core.specs.Numbered.{Numbered, nobody, frame_in}
use Rattle.v1_core.specs.Passes.{none_preserved, blank_frame}
use Rattle.v1_core.specs.Layouts.{Layout}
use Rattle.v1_core.specs.Cells.{Cells, owner_valid, is_live, slot_value, header_valid, stack_place, new_cells}
use Rattle.v1_core.specs.Seats.{Form, slot_form, header_form, stack_form, struct_form, no_form, form_of, Start, behind_members, behind}
use Rattle.v1_core.specs.PackedValues.{value_from}
use Rattle.v1_core.specs.Laid.{IsSlot, AreMembers, IsLaid}
use Rattle.v1_core.specs.Programs.{layout16, first_start}
use Rattle.v1_core.proofs.Starts.{Before, members_before, ends_behind}
use Rattle.v1_core.proofs.Same.{value_same}
use Rattle.v1_core.proofs.Blank.{new_is, blank_is}
use Rattle.v1_core.proofs.Laws.{program_laid}
use Rattle.v1_pass_slots.specs.declared.slots.Slots.{Slots}
use Rattle.v1_pass_slots.specs.Starts.{metadata_start, standard_start, variables_start}
use Rattle.v1_packets.specs.Packets.{packet_frame, numbers_from, kept_value}
use Rattle.v1_packets.specs.internal.Filled.{AreLone, IsFilled}
use Rattle.v1_pass_slots.specs.Found.{AreSlots}

-- what ends at the header at which it begins has no field of a header

members_lone : (l : Layout) (P : Form → Start → Type 0) (next : Form → Start → Start) → ((k : Form) (b : Start) → Before b (next k b)) → ((k : Form) (b : Start) → P k b → (next k b).header ≡ b.header → (slot : ℕ) → b.slot ≤ slot → slot < (next k b).slot → IsSlot l slot None) → (fields : List FieldKind) (b : Start) → AreMembers P next fields b → (behind_members next fields b).header ≡ b.header → (slot : ℕ) → b.slot ≤ slot → slot < (behind_members next fields b).slot → IsSlot l slot None
members_lone l P next grows each [] b laid same slot le lt = absurd never where
  never : ⊥
  never = omega (arith, le, lt)
members_lone l P next grows each (f ∷ fields) b laid same slot le lt = by (cases_lt slot m.slot) (λ further. members_lone l P next grows each fields m laid.1 there slot further lt) where
  k : Form
  k = form_of f.kind

  m : Start
  m = next k b

  before : Before b m
  before = grows k b

  after : Before m (behind_members next fields m)
  after = members_before next grows fields m

  here : m.header ≡ b.header
  here = omega (arith, before.header, after.header, same)

  there : (behind_members next fields m).header ≡ m.header
  there = omega (arith, here, same)

  by : (slot < m.slot) ⊎ (m.slot ≤ slot) → (m.slot ≤ slot → IsSlot l slot None) → IsSlot l slot None
  by (inl before_it) others = each k b laid.0 here slot le before_it
  by (inr further) others = others further

value_lone : (l : Layout) (types : List TypeLayout) (n : ℕ) (k : Form) (b : Start) → IsLaid l types n k b → (behind types n k b).header ≡ b.header → (slot : ℕ) → b.slot ≤ slot → slot < (behind types n k b).slot → IsSlot l slot None
value_lone l types n (slot_form of) b laid same slot le lt =
    let is : b.slot ≡ slot = omega (arith, le, lt) in subst (λ (s : ℕ). IsSlot l s None) is laid
value_lone l types n (header_form type) b laid same slot le lt = let never : ⊥ = omega (arith, same) in absurd never
value_lone l types n (stack_form type zero) b laid same slot le lt = let never : ⊥ = omega (arith, le, lt) in absurd never
value_lone l types n (stack_form type (suc size)) b laid same slot le lt = let never : ⊥ = omega (arith, same) in absurd never
value_lone l types zero (struct_form type) b laid same slot le lt = let never : ⊥ = omega (arith, le, lt) in absurd never
value_lone l types (suc n) (struct_form type) b laid same slot le lt =
    members_lone l (λ k s. IsLaid l types n k s) (λ k s. behind types n k s) (λ k s. ends_behind types n k s)
    (λ k s x e i il ir. value_lone l types n k s x e i il ir) (fields_in types type) b laid same slot le lt
value_lone l types n no_form b laid same slot le lt = let never : ⊥ = omega (arith, le, lt) in absurd never

between_lone : (l : Layout) (types : List TypeLayout) (n : ℕ) (k : Form) (b : Start) (slots : Slots) → IsLaid l types n k b → AreSlots b (behind types n k b) slots → AreLone l slots.from slots.to
between_lone l types n k b slots laid are slot le lt =
    value_lone l types n k b laid are.headers slot (omega (arith, le, are.from)) (omega (arith, lt, are.to))

pub metadata_lone : (s : Syntax16) (slots : Slots) → AreSlots (metadata_start s) (standard_start s) slots → AreLone (layout16 s) slots.from slots.to
metadata_lone s slots are =
    let types = layouts_of s.decls in
    between_lone (layout16 s) types (length types) (form_of (metadata_kind s)) (metadata_start s) slots (program_laid s).1.1.0 are

pub standard_lone : (s : Syntax16) (slots : Slots) → AreSlots (standard_start s) (variables_start s) slots → AreLone (layout16 s) slots.from slots.to
standard_lone s slots are =
    let types = layouts_of s.decls in
    between_lone (layout16 s) types (length types) (form_of standard) (standard_start s) slots (program_laid s).1.1.1.0 are

-- numbers by themselves

nothing_at : (i : ℕ) → get_or {A = Option ℕ} [] i None ≡ None
nothing_at zero = refl
nothing_at (suc i) = refl

behind_zeros : (from i : ℕ) (numbers : List ℕ) → from ≤ i → get_or (replicate from 0 ++ numbers) i 0 ≡ get_or numbers (i - from) 0
behind_zeros zero i numbers le = let at : i ≡ i - 0 = omega arith in ap (λ (j : ℕ). get_or numbers j 0) at
behind_zeros (suc from) zero numbers le = let never : ⊥ = omega arith in absurd never
behind_zeros (suc from) (suc i) numbers le =
    let at : i - from ≡ suc i - suc from = omega arith in
    behind_zeros from i numbers (omega arith) ∙ ap (λ (j : ℕ). get_or numbers j 0) at

pub numbers_at : (from i : ℕ) (numbers : List ℕ) → from ≤ i → slot_value (numbers_from from numbers) i ≡ get_or numbers (i - from) 0
numbers_at from i numbers le =
    ap (λ (o : Option ℕ). cond (owner_valid [] o) (get_or (replicate from 0 ++ numbers) i 0) 0) (nothing_at i)
    ∙ behind_zeros from i numbers le

-- the values of a frame by its parts

abbrev framed : Cells → Value → Value → Value → Frame
framed c headers metadata standard = record {
  headers = headers;
  metadata = metadata;
  standard = standard;
  variables = no_members;
  inner = no_members;
  clone_i2e = c.clone_i2e;
  clone_e2e = c.clone_e2e;
  resubmit = c.resubmit;
  recirculate = c.recirculate;
  events = c.events;
}

abbrev headers_of : Syntax16 → Cells → Value
headers_of s c = value_from (layouts_of s.decls) c (length (layouts_of s.decls)) (form_of (headers_kind s)) first_start

abbrev pub metadata_of : Syntax16 → Cells → Value
metadata_of s c = value_from (layouts_of s.decls) c (length (layouts_of s.decls)) (form_of (metadata_kind s)) (metadata_start s)

abbrev standard_of : Syntax16 → Cells → Value
standard_of s c = value_from (layouts_of s.decls) c (length (layouts_of s.decls)) (form_of standard) (standard_start s)

parts_framed : (s : Syntax16) (c : Cells) → packet_frame s c ≡ framed c (headers_of s c) (metadata_of s c) (standard_of s c)
parts_framed s c = refl

-- a value with the same numbers in its slots, where it has nothing else
alone_same : (types : List TypeLayout) (c d : Cells) (n : ℕ) (k : Form) (b : Start) (slots : Slots) → AreSlots b (behind types n k b) slots → ((i : ℕ) → slots.from ≤ i → i < slots.to → slot_value c i ≡ slot_value d i) → value_from types c n k b ≡ value_from types d n k b
alone_same types c d n k b slots are same = value_same types c d n k b (record {
  slots = λ i le lt. same i (omega (arith, le, are.from)) (omega (arith, lt, are.to));
  headers = λ i le lt. absurd (no_header i le lt);
  stacks = λ i le lt. absurd (no_stack i le lt);
}) where
  no_header : (i : ℕ) → b.header ≤ i → i < (behind types n k b).header → ⊥
  no_header i le lt = omega (arith, are.headers)

  no_stack : (i : ℕ) → b.stack ≤ i → i < (behind types n k b).stack → ⊥
  no_stack i le lt = omega (arith, are.stacks)

-- what is filled elsewhere stays
filled_others : (types : List TypeLayout) (c d : Cells) (from to : ℕ) (numbers : List ℕ) (n : ℕ) (k : Form) (b : Start) → IsFilled c d from to numbers → ((behind types n k b).slot ≤ from) ⊎ (to ≤ b.slot) → value_from types d n k b ≡ value_from types c n k b
filled_others types c d from to numbers n k b f away = value_same types d c n k b (record {
  slots = λ i le lt. f.others i (apart i le lt away);
  headers = λ i le lt. ap (λ (x : Cells). header_valid x i) f.rest;
  stacks = λ i le lt. ap (λ (x : Cells). stack_place x i) f.rest;
}) where
  apart : (i : ℕ) → b.slot ≤ i → i < (behind types n k b).slot → ((behind types n k b).slot ≤ from) ⊎ (to ≤ b.slot) → (i < from) ⊎ (to ≤ i)
  apart i le lt (inl before) = inl (omega (arith, lt, before))
  apart i le lt (inr after) = inr (omega (arith, le, after))

rest_framed : (c d : Cells) (from to : ℕ) (numbers : List ℕ) (h m t : Value) → IsFilled c d from to numbers → framed d h m t ≡ framed c h m t
rest_framed c d from to numbers h m t f = ap (λ (x : Cells). framed x h m t) f.rest

-- metadata is filled

pub metadata_filled : (s : Syntax16) (c d : Cells) (slots : Slots) (numbers : List ℕ) → AreSlots (metadata_start s) (standard_start s) slots → IsFilled c d slots.from slots.to numbers → packet_frame s d ≡ record (packet_frame s c) { metadata = kept_value s numbers }
metadata_filled s c d slots numbers are f =
    rest_framed c d slots.from slots.to numbers (headers_of s d) (metadata_of s d) (standard_of s d) f
    ∙ ap (λ (h : Value). framed c h (metadata_of s d) (standard_of s d))
    (filled_others types c d slots.from slots.to numbers n (form_of (headers_kind s)) first_start f (inl (omega (arith, are.from))))
    ∙ ap (λ (m : Value). framed c (headers_of s c) m (standard_of s d))
    (alone_same types d kept n (form_of (metadata_kind s)) (metadata_start s) slots are (λ i le lt. f.within i le lt ∙ sym (at i le)))
    ∙ ap (λ (t : Value). framed c (headers_of s c) (kept_value s numbers) t)
    (filled_others types c d slots.from slots.to numbers n (form_of standard) (standard_start s) f (inr (omega (arith, are.to)))) where
      types : List TypeLayout
      types = layouts_of s.decls

      n : ℕ
      n = length types

      kept : Cells
      kept = numbers_from (metadata_start s).slot numbers

      at : (i : ℕ) → slots.from ≤ i → slot_value kept i ≡ get_or numbers (i - slots.from) 0
      at i le = numbers_at (metadata_start s).slot i numbers (omega (arith, le, are.from)) ∙ ap (λ (from : ℕ). get_or numbers (i - from) 0) (sym are.from)

-- nothing stands in a new frame

zero_there : (n i : ℕ) → get_or {A = ℕ} (replicate n 0) i 0 ≡ 0
zero_there zero zero = refl
zero_there zero (suc i) = refl
zero_there (suc n) zero = refl
zero_there (suc n) (suc i) = zero_there n i

either_zero : (live : Bool) → cond {A = ℕ} live 0 0 ≡ 0
either_zero true = refl
either_zero false = refl

new_zero : (l : Layout) (i : ℕ) → slot_value (new_cells l) i ≡ 0
new_zero l i =
    ap (λ (m : ℕ). cond (is_live (new_cells l) i) m 0) (zero_there (length l.widths) i) ∙ either_zero (is_live (new_cells l) i)

no_number : (i : ℕ) → get_or {A = ℕ} [] i 0 ≡ 0
no_number zero = refl
no_number (suc i) = refl

pub new_framed : (s : Syntax16) → packet_frame s (new_cells (layout16 s)) ≡ blank_frame s
new_framed s = ap (λ (x : Numbered). frame_in nobody x) (new_is s) ∙ blank_is s

-- nothing is kept of a packet that comes in
pub none_kept : (s : Syntax16) (slots : Slots) → AreSlots (metadata_start s) (standard_start s) slots → kept_value s [] ≡ none_preserved s
none_kept s slots are =
    alone_same types (numbers_from (metadata_start s).slot []) (new_cells (layout16 s)) (length types) (form_of (metadata_kind s)) (metadata_start s) slots are
    (λ i le lt. numbers_at (metadata_start s).slot i [] (omega (arith, le, are.from)) ∙ no_number (i - (metadata_start s).slot) ∙ sym (new_zero (layout16 s) i))
    ∙ ap (λ (x : Numbered). x.metadata) (new_is s) where
      types : List TypeLayout
      types = layouts_of s.decls

-- standard metadata is filled with 0

pub standard_filled : (s : Syntax16) (c d : Cells) (slots : Slots) → AreSlots (standard_start s) (variables_start s) slots → IsFilled c d slots.from slots.to [] → packet_frame s d ≡ record (packet_frame s c) { standard = zero_value (layouts_of s.decls) standard }
standard_filled s c d slots are f =
    rest_framed c d slots.from slots.to [] (headers_of s d) (metadata_of s d) (standard_of s d) f
    ∙ ap (λ (h : Value). framed c h (metadata_of s d) (standard_of s d))
    (filled_others types c d slots.from slots.to [] n (form_of (headers_kind s)) first_start f (inl before))
    ∙ ap (λ (m : Value). framed c (headers_of s c) m (standard_of s d))
    (filled_others types c d slots.from slots.to [] n (form_of (metadata_kind s)) (metadata_start s) f (inl (omega (arith, are.from))))
    ∙ ap (λ (t : Value). framed c (headers_of s c) (metadata_of s c) t)
    (alone_same types d (new_cells (layout16 s)) n (form_of standard) (standard_start s) slots are (λ i le lt. f.within i le lt ∙ no_number (i - slots.from) ∙ sym (new_zero (layout16 s) i))
    ∙ ap (λ (x : Numbered). x.standard_metadata) (new_is s)) where
      types : List TypeLayout
      types = layouts_of s.decls

      n : ℕ
      n = length types

      ends : Before (metadata_start s) (standard_start s)
      ends = ends_behind types n (form_of (metadata_kind s)) (metadata_start s)

      before : (metadata_start s).slot ≤ slots.from
      before = omega (arith, ends.slot, are.from)
