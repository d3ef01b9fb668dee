-- The slots that a pass reads and writes by itself, where they were found.
use Rattle.std.proofs.Common.{◌≡◌, ℕ, ◌+◌, ◌<◌, ◌≤◌, Option, Some, None, List, [], length, get_or, refl, sym, ap, ◌∙◌, subst}
use Rattle.p416_syntax.specs.declared.program.Syntax16.{Syntax16}
use Rattle.p416_syntax.specs.Names.{Name}
use Rattle.p416_syntax.specs.Kinds.{Kind}
use Rattle.p416_syntax.specs.Scopes.{Layout as TypeLayout}
use Rattle.p416_syntax.specs.BuiltIn.{standard}
use Rattle.p416_syntax.specs.Declarations.{layouts_of}
use Rattle.p416_syntax.specs.Main.{headers_kind, metadata_kind}
use Rattle.v1_core.specs.Values.{to_member}
use Rattle.v1_core.specs.Layouts.{Layout}
use Rattle.v1_core.specs.Seats.{some_bits, slot_form, form_of, Start, Seat, seat, stepped_seat, seat_behind, seat_at}
use Rattle.v1_core.specs.Programs.{layout16}
use Rattle.v1_seats.specs.Seen.{seen_start}
use Rattle.v1_pass_slots.specs.declared.find.Starts.{Starts}
use Rattle.v1_pass_slots.specs.declared.slots.PassSlots.{PassSlots}
use Rattle.v1_pass_slots.specs.Starts.{start_behind, metadata_start, standard_start, variables_start}
use Rattle.v1_pass_slots.specs.Found.{IsStandard, AreSlots, IsMetadata, ArePassSlots}
use Rattle.v1_pass_slots.specs.internal.Places.{AreStarts, IsLoneSlot, HasField, HasFields}

-- fields of the standard metadata

pub lone_found : (l : Layout) (depth bits width slot header stack : ℕ) (owner : Option ℕ) → bits ≡ width → owner ≡ None → slot < length l.widths → get_or l.widths slot 0 ≡ width → IsLoneSlot l (record { depth = depth; form = slot_form (some_bits bits); start = record { slot = slot; header = header; stack = stack }; owner = owner }) width slot
lone_found l depth bits width slot header stack owner same none within wide = record {
  depth = depth;
  start = start;
  begins = refl;
  is =
      ap (λ (w : ℕ). of w owner) same ∙ ap (of width) none;
  within = within;
  wide = wide;
} where
  start : Start
  start = record { slot = slot; header = header; stack = stack }

  of : ℕ → Option ℕ → Seat
  of w o = record { depth = depth; form = slot_form (some_bits w); start = start; owner = o }

pub field_found : (types : List TypeLayout) (l : Layout) (of found : Seat) (from : Start) (word : Name) (width slot : ℕ) → of ≡ seat (length types) (form_of standard) from → Some found ≡ stepped_seat types of.depth of.form of.start (to_member word) → IsLoneSlot l found width slot → HasField types l from word width slot
field_found types l of found from word width slot whole step lone = record {
  depth = lone.depth;
  start = lone.start;
  begins = lone.begins;
  seat = sym (subst (λ (o : Seat). Some found ≡ stepped_seat types o.depth o.form o.start (to_member word)) whole step) ∙ ap (λ (t : Seat). Some t) lone.is;
  within = lone.within;
  wide = lone.wide;
}

standard_found : (s : Syntax16) (word : Name) (width slot : ℕ) → HasField (layouts_of s.decls) (layout16 s) (standard_start s) word width slot → IsStandard s word width slot
standard_found s word width slot h = record {
  depth = h.depth;
  start = h.start;
  begins = h.begins;
  seat = ap (seat_behind (λ t. seat_at (layouts_of s.decls) [] t)) h.seat;
  within = h.within;
  wide = h.wide;
}

-- all of them

pub slots_found : (s : Syntax16) (types : List TypeLayout) (l : Layout) (headers metadata : Kind) (starts : Starts) (p : PassSlots) → types ≡ layouts_of s.decls → l ≡ layout16 s → headers ≡ headers_kind s → metadata ≡ metadata_kind s → AreStarts types headers metadata starts → HasFields types l (seen_start starts.standard) p.fields → AreSlots (seen_start starts.metadata) (seen_start starts.standard) p.metadata → AreSlots (seen_start starts.standard) (seen_start starts.variables) p.standard → p.standard.from ≤ p.standard.to → IsMetadata s.decls metadata p.lists.items → p.metadata.to ≡ p.metadata.from + length p.lists.items → ArePassSlots s p
slots_found s types l headers metadata starts p typed laid of_headers of_metadata begin fields between_metadata between_standard order lists count = record {
  ingress_port = standard_found s _ 9 p.fields.ingress_port here.ingress_port;
  egress_spec = standard_found s _ 9 p.fields.egress_spec here.egress_spec;
  egress_port = standard_found s _ 9 p.fields.egress_port here.egress_port;
  packet_length = standard_found s _ 32 p.fields.packet_length here.packet_length;
  instance_type = standard_found s _ 32 p.fields.instance_type here.instance_type;
  standard =
      subst (λ (b : Start). AreSlots b (variables_start s) p.standard) standard_at
      (subst (λ (e : Start). AreSlots (seen_start starts.standard) e p.standard) variables_at between_standard);
  metadata =
      subst (λ (b : Start). AreSlots b (standard_start s) p.metadata) metadata_at
      (subst (λ (e : Start). AreSlots (seen_start starts.metadata) e p.metadata) standard_at between_metadata);
  standard_order = order;
  lists = subst (λ (k : Kind). IsMetadata s.decls k p.lists.items) of_metadata lists;
  count = count;
} where
  begins : AreStarts (layouts_of s.decls) (headers_kind s) (metadata_kind s) starts
  begins =
      subst (λ (ts : List TypeLayout). AreStarts ts (headers_kind s) (metadata_kind s) starts) typed
      (subst (λ (h : Kind). AreStarts types h (metadata_kind s) starts) of_headers
      (subst (λ (m : Kind). AreStarts types headers m starts) of_metadata begin))

  metadata_at : seen_start starts.metadata ≡ metadata_start s
  metadata_at = begins.metadata_at

  standard_at : seen_start starts.standard ≡ standard_start s
  standard_at = begins.standard_at ∙ ap (start_behind s (metadata_kind s)) metadata_at

  variables_at : seen_start starts.variables ≡ variables_start s
  variables_at = begins.variables_at ∙ ap (start_behind s standard) standard_at

  here : HasFields (layouts_of s.decls) (layout16 s) (standard_start s) p.fields
  here =
      subst (λ (b : Start). HasFields (layouts_of s.decls) (layout16 s) b p.fields) standard_at
      (subst (λ (m : Layout). HasFields (layouts_of s.decls) m (seen_start starts.standard) p.fields) laid
      (subst (λ (ts : List TypeLayout). HasFields ts l (seen_start starts.standard) p.fields) typed fields))
