-- Each extern does to a packed frame what it does to the frame of the program.
use Rattle.std.proofs.Common.{◌≡◌, ◌⊎◌, inl, inr, ℕ, min, ◌+◌, ◌-◌, ◌*◌, ◌%◌, ◌^◌, ◌==◌, ◌<◌, ◌≤◌, ◌&&◌, not, Bool, true, false, cond, Option, Some, None, IfSome, List, [], ◌∷◌, ◌++◌, length, get_or, refl, sym, ap, ◌∙◌, subst, arith, pow_pos}
use Rattle.std.specs.Prelude.{codes}
use Rattle.std.proofs.Math.Nat.{mod-eq_of_lt}
use Rattle.std.proofs.Math.Pow.{mod-mod-pow}
use Rattle.std.proofs.lemmas.List.{get_or_past}
use Rattle.p4x_bits.specs.BitLists.{octet_bits}
use Rattle.state_store.specs.State.{Contents, count as count_in_store, read as read_in_store, write as write_in_store, colour, colour_taken}
use Rattle.state_store.specs.Ports.{drop_port}
use Rattle.fabric.specs.declared.items.RequestKind.{RequestKind}
use Rattle.fabric.specs.declared.items.RequestKind.TheVariants.{CloneI2E, CloneE2E, Resubmit, Recirculate}
use Rattle.p416_syntax.specs.declared.program.Syntax16.{Syntax16}
use Rattle.p416_syntax.specs.Names.{Name}
use Rattle.p416_syntax.specs.Breaks.{BreaksNone, program_rules}
use Rattle.v1_core.specs.Values.{Value, a_number, number_in, width_in, to_member}
use Rattle.v1_core.specs.Frames as sem
use Rattle.v1_core.specs.Frames.{Frame, Hit, Reference, number_put_at, stepped, with_standard}
use Rattle.v1_core.specs.Slots.{the_standard, part_with, variable_kinds}
use Rattle.v1_core.specs.Numbered.{InScope, frame_in}
use Rattle.v1_core.specs.Externs.Objects as objects
use Rattle.v1_core.specs.Externs.Hashes as hashes
use Rattle.v1_core.specs.Externs.Hashes.{in_range}
use Rattle.v1_core.specs.Externs.Checksums as checksums
use Rattle.v1_core.specs.Externs.Requests as requests
use Rattle.v1_core.specs.Cells.{Cells, is_live, slot_value, with_slot, with_request, AreWhole}
use Rattle.v1_core.specs.Seats.{Form, some_bits, slot_form, Seat}
use Rattle.v1_core.specs.Programs.{part_seat, numbered16}
use Rattle.v1_core.specs.PackedFrames.{IsFrameOf}
use Rattle.v1_core.specs.Scopes.{IsScope}
use Rattle.v1_core.proofs.Laws.{part_read, slot_put, request_put}
use Rattle.v1_ready_laws.proofs.Accepted.{accepted_narrow}
use Rattle.v1_ready_laws.proofs.Steps.{Stands}
use Rattle.v1_ready_blocks.specs.declared.places.Slice.{Slice}
use Rattle.v1_ready_blocks.specs.declared.places.Target.{Target}
use Rattle.v1_ready_blocks.specs.Moments.{Moment, with_cells, with_store}
use Rattle.v1_ready_blocks.specs.Places.{slot_width, put}
use Rattle.v1_ready_blocks.specs.Externs as ready
use Rattle.v1_ready_blocks.specs.Externs.{Given, number_at, holds_at, value_at, result_by, executed}
use Rattle.v1_parser_laws.specs.Shown.{Shows}
use Rattle.v1_parser_laws.proofs.Parts.{below_or}
use Rattle.v1_place_laws.proofs.Writing.{part_stands}
use Rattle.v1_deed_laws.specs.Externs.{IsTarget, IsStandard, CountShows, CountEntryShows, ReadShows, WriteShows, MeterShows, HashShows, with_octets, VerifyShows, UpdateShows, DropShows, RequestShows, CloneShows}
use Rattle.v1_deed_laws.proofs.Whole.{cells_show}
use Rattle.v1_deed_laws.proofs.Slots.{slot_whole, numbers_put}

-- a store that changes
store_shows : (syntax : Syntax16) (who : InScope) (m : sem.Moment) (n : Moment) (x y : Contents) → x ≡ y → Shows syntax who m n → Shows syntax who (sem.with_store m x) (with_store y n)
store_shows syntax who m n x y same h = record {
  frame = h.frame;
  whole = h.whole;
  store = same;
  unparsed = h.unparsed;
  emitted = h.emitted;
  work = h.work;
  stopped = h.stopped;
  hit = h.hit;
}

small : (n : ℕ) → n < 2 ^ 32 → n % 2 ^ 32 ≡ n
small n lt = mod-eq_of_lt lt

-- a number goes to a target
target_put : (syntax : Syntax16) (who : InScope) (r : Reference) (to : Target) (number : ℕ) (m : sem.Moment) (n : Moment) → BreaksNone syntax program_rules → IsScope (length (variable_kinds syntax)) who → IsTarget syntax who r to → Shows syntax who m n → Shows syntax who (number_put_at r number m) (ready.number_put to number n)
target_put syntax who r to number m n keeps scope target h =
    subst (λ (slot : ℕ). Shows syntax who (number_put_at r number m) (with_cells (put slot to.slice number n.cells) n)) (sym target.slot)
    (numbers_put syntax who r to.slice target.seat target.width number m n keeps scope target.at target.form h)

-- fields of standard metadata

module _ (syntax : Syntax16) (who : InScope) (m : sem.Moment) (n : Moment) (word : Name) (width slot : ℕ) (is : IsStandard syntax word width slot) (keeps : BreaksNone syntax program_rules) (h : Shows syntax who m n) where
  abbrev field_seat : Seat
  field_seat = record { depth = is.seat.depth; form = slot_form (some_bits width); start = is.seat.start; owner = is.seat.owner }

  stands_there : part_seat syntax (part_with the_standard (to_member word ∷ [])) ≡ Some field_seat
  stands_there = is.at ∙ ap (λ (k : Form). Some (record { depth = is.seat.depth; form = k; start = is.seat.start; owner = is.seat.owner })) is.form

  -- reads as the slot
  standard_read : sem.standard_number m.frame word ≡ slot_value n.cells slot
  standard_read =
      ap (λ (f : Frame). sem.standard_number f word) h.frame
      ∙ (ap number_in (part_read syntax n.cells (part_with the_standard (to_member word ∷ [])) field_seat h.whole.layout stands_there)
      ∙ ap (slot_value n.cells) (sym is.slot_is))

  stands_wide : slot_width n.cells slot ≡ width
  stands_wide =
      let accepted = accepted_narrow syntax keeps in
      let stands : Stands n.cells.layout _ field_seat = part_stands syntax n.cells (part_with the_standard (to_member word ∷ [])) field_seat h.whole.layout accepted.0 accepted.2 stands_there in
      ap (λ (i : ℕ). get_or n.cells.layout.widths i 0) is.slot_is ∙ (stands.wide ∙ least width stands.narrow) where
        least : (w : ℕ) → w ≤ 128 → min w 128 ≡ w
        least w le = omega (arith, le)

  -- is written as the slot
  standard_put : (v : Value) (number : ℕ) → number_in v ≡ number → Shows syntax who (sem.with_frame m (with_standard word v m.frame)) (with_cells (put slot None number n.cells) n)
  standard_put v number same =
      cells_show syntax who m n (with_standard word v m.frame) (put slot None number n.cells) h
      (ap (λ (f : Frame). with_standard word v f) h.frame
      ∙ (ap (frame_in who) (slot_put syntax n.cells (part_with the_standard (to_member word ∷ [])) v is.seat.depth (some_bits width) is.seat.start is.seat.owner (number % 2 ^ width) h.whole stands_there
      (ap (λ (k : ℕ). a_number width (k % 2 ^ width)) same))
      ∙ (ap (λ (k : ℕ). frame_in who (numbered16 syntax (with_slot n.cells k (number % 2 ^ width)))) (sym is.slot_is)
      ∙ ap (λ (w : ℕ). frame_in who (numbered16 syntax (with_slot n.cells slot (number % 2 ^ w)))) (sym stands_wide))))
      (slot_whole syntax n.cells slot None number h.whole)

-- the packet's length has 32 bits
length_fits : (syntax : Syntax16) (who : InScope) (m : sem.Moment) (n : Moment) (slot : ℕ) → IsStandard syntax (codes "packet_length") 32 slot → BreaksNone syntax program_rules → Shows syntax who m n → objects.packet_length m.frame ≡ slot_value n.cells slot % 2 ^ 32
length_fits syntax who m n slot is keeps h =
    standard_read syntax who m n (codes "packet_length") 32 slot is keeps h ∙ sym (mod-eq_of_lt (subst (λ (w : ℕ). slot_value n.cells slot < 2 ^ w) (stands_wide syntax who m n (codes "packet_length") 32 slot is keeps h) (by (is_live n.cells slot) (below_or slot (length n.cells.layout.widths))))) where
      by : (live : Bool) → (slot < length n.cells.layout.widths) ⊎ (length n.cells.layout.widths ≤ slot) → cond live (get_or n.cells.numbers slot 0) 0 < 2 ^ slot_width n.cells slot
      by true (inl lt) = h.whole.whole.fits slot lt
      by true (inr le) = subst (λ (k : ℕ). k < 2 ^ slot_width n.cells slot) (sym (get_or_past n.cells.numbers slot 0 (omega (arith, le, h.whole.whole.numbers)))) (pow_pos (slot_width n.cells slot))
      by false place = pow_pos (slot_width n.cells slot)

-- objects

counted : (syntax : Syntax16) (who : InScope) (object slot index other : ℕ) (m : sem.Moment) (n : Moment) → IsStandard syntax (codes "packet_length") 32 slot → index ≡ other → BreaksNone syntax program_rules → Shows syntax who m n → Shows syntax who (objects.count object index m) (ready.count object slot other n)
counted syntax who object slot index other m n is same keeps h =
    store_shows syntax who m n (count_in_store m.store object index (objects.packet_length m.frame)) (count_in_store n.store object other (slot_value n.cells slot % 2 ^ 32))
    (ap (λ (s : Contents). count_in_store s object index (objects.packet_length m.frame)) h.store
    ∙ (ap (λ (k : ℕ). count_in_store n.store object k (objects.packet_length m.frame)) same
    ∙ ap (count_in_store n.store object other) (length_fits syntax who m n slot is keeps h))) h

pub count_shows : CountShows
count_shows syntax who object slot g m n is fits keeps h =
    counted syntax who object slot (number_at g 0) (ready.word_at g 0) m n is (sym (small (number_at g 0) fits)) keeps h

by_entry : (syntax : Syntax16) (who : InScope) (object slot : ℕ) (m : sem.Moment) (n : Moment) (x : Hit) (b : Bool) → IsStandard syntax (codes "packet_length") 32 slot → BreaksNone syntax program_rules → Shows syntax who m n → Shows syntax who (cond b (objects.count object x.entry m) m) (cond b (ready.count object slot x.entry n) n)
by_entry syntax who object slot m n x true is keeps h = counted syntax who object slot x.entry x.entry m n is refl keeps h
by_entry syntax who object slot m n x false is keeps h = h

by_hit : (syntax : Syntax16) (who : InScope) (object slot : ℕ) (m : sem.Moment) (n : Moment) (o : Option Hit) → o ≡ n.hit → m.hit ≡ o → IsStandard syntax (codes "packet_length") 32 slot → BreaksNone syntax program_rules → Shows syntax who m n → Shows syntax who (objects.count_entry object m) (ready.count_entry object slot n)
by_hit syntax who object slot m n None same is_hit is keeps h =
    subst (λ (p : Option Hit). Shows syntax who (entry_of p) (ready_of n.hit)) (sym is_hit) (subst (λ (p : Option Hit). Shows syntax who m (ready_of p)) same h) where
      entry_of : Option Hit → sem.Moment
      entry_of (Some x) = cond (x.counter == object) (objects.count object x.entry m) m
      entry_of None = m

      ready_of : Option Hit → Moment
      ready_of (Some x) = cond (x.counter == object) (ready.count object slot x.entry n) n
      ready_of None = n
by_hit syntax who object slot m n (Some x) same is_hit is keeps h =
    subst (λ (p : Option Hit). Shows syntax who (entry_of p) (ready_of n.hit)) (sym is_hit) (subst (λ (p : Option Hit). Shows syntax who (entry_of (Some x)) (ready_of p)) same (by_entry syntax who object slot m n x (x.counter == object) is keeps h)) where
      entry_of : Option Hit → sem.Moment
      entry_of (Some x) = cond (x.counter == object) (objects.count object x.entry m) m
      entry_of None = m

      ready_of : Option Hit → Moment
      ready_of (Some x) = cond (x.counter == object) (ready.count object slot x.entry n) n
      ready_of None = n

pub count_entry_shows : CountEntryShows
count_entry_shows syntax who object slot g m n is keeps h = by_hit syntax who object slot m n m.hit h.hit refl is keeps h

pub read_shows : ReadShows
read_shows syntax who object r to g m n keeps scope target fits h =
    subst (λ (k : ℕ). Shows syntax who (objects.register_read object r (number_at g 0) m) (ready.number_put to k n))
    (ap (λ (s : Contents). read_in_store s object (number_at g 0)) h.store ∙ ap (read_in_store n.store object) (sym (small (number_at g 0) fits)))
    (target_put syntax who r to (read_in_store m.store object (number_at g 0)) m n keeps scope target h)

pub write_shows : WriteShows
write_shows syntax who object g m n fits h =
    store_shows syntax who m n (write_in_store m.store object (number_at g 0) (number_at g 1)) (write_in_store n.store object (ready.word_at g 0) (number_at g 1))
    (ap (λ (s : Contents). write_in_store s object (number_at g 0) (number_at g 1)) h.store
    ∙ ap (λ (k : ℕ). write_in_store n.store object k (number_at g 1)) (sym (small (number_at g 0) fits))) h

pub meter_shows : MeterShows
meter_shows syntax who object r to g m n keeps scope target fits h =
    let index : number_at g 0 ≡ ready.word_at g 0 = sym (small (number_at g 0) fits) in
    let same : colour m.store object (number_at g 0) ≡ colour n.store object (ready.word_at g 0) =
    ap (λ (s : Contents). colour s object (number_at g 0)) h.store ∙ ap (colour n.store object) index in
    store_shows syntax who (number_put_at r (colour m.store object (number_at g 0)) m) (ready.number_put to (colour n.store object (ready.word_at g 0)) n) (colour_taken m.store object (number_at g 0)) (colour_taken n.store object (ready.word_at g 0))
    (ap (λ (s : Contents). colour_taken s object (number_at g 0)) h.store ∙ ap (colour_taken n.store object) index)
    (subst (λ (k : ℕ). Shows syntax who (number_put_at r (colour m.store object (number_at g 0)) m) (ready.number_put to k n)) same
    (target_put syntax who r to (colour m.store object (number_at g 0)) m n keeps scope target h))

-- hashes and checksums

-- what is cut to 128 bits first is cut to a target all the same
cut_twice : (w n : ℕ) → w ≤ 128 → n % 2 ^ 128 % 2 ^ w ≡ n % 2 ^ w
cut_twice w n le =
    let both : 128 - w + w ≡ 128 = omega (arith, le) in
    ap (λ (k : ℕ). n % 2 ^ k % 2 ^ w) (sym both) ∙ mod-mod-pow n (128 - w) w

put_cut : (slot width : ℕ) (slice : Option Slice) (n : ℕ) (c : Cells) → slot_width c slot ≡ width → width ≤ 128 → IfSome slice (λ s. s.width ≤ 128) → put slot slice (n % 2 ^ 128) c ≡ put slot slice n c
put_cut slot width None n c is narrow cut =
    ap (λ (k : ℕ). with_slot c slot k) (ap (λ (w : ℕ). n % 2 ^ 128 % 2 ^ w) is ∙ (cut_twice width n narrow ∙ ap (λ (w : ℕ). n % 2 ^ w) (sym is)))
put_cut slot width (Some s) n c is narrow cut =
    ap (λ (k : ℕ). with_slot c slot ((slot_value c slot - slot_value c slot % 2 ^ (s.low + s.width) + k * 2 ^ s.low + slot_value c slot % 2 ^ s.low) % 2 ^ slot_width c slot)) (cut_twice s.width n cut)

target_wide : (syntax : Syntax16) (who : InScope) (r : Reference) (to : Target) (m : sem.Moment) (n : Moment) → BreaksNone syntax program_rules → (target : IsTarget syntax who r to) → Shows syntax who m n → slot_width n.cells to.slot ≡ target.width
target_wide syntax who r to m n keeps target h =
    let accepted = accepted_narrow syntax keeps in
    let whole : Seat = record { depth = target.seat.depth; form = slot_form (some_bits target.width); start = target.seat.start; owner = target.seat.owner } in
    let there : part_seat syntax target.at.part ≡ Some whole = target.at.seat ∙ ap (λ (k : Form). Some (record { depth = target.seat.depth; form = k; start = target.seat.start; owner = target.seat.owner })) target.form in
    let stands : Stands n.cells.layout _ whole = part_stands syntax n.cells target.at.part whole h.whole.layout accepted.0 accepted.2 there in
    ap (λ (i : ℕ). get_or n.cells.layout.widths i 0) target.slot ∙ (stands.wide ∙ least target.width stands.narrow) where
      least : (w : ℕ) → w ≤ 128 → min w 128 ≡ w
      least w le = omega (arith, le)

pub hash_shows : HashShows
hash_shows syntax who r to word algorithm g m n keeps scope target same h =
    let number = in_range (number_at g 0) (hashes.result_of word g.list) (number_at g 1) in
    let put_same : put to.slot to.slice (number % 2 ^ 128) n.cells ≡ put to.slot to.slice number n.cells =
    put_cut to.slot target.width to.slice number n.cells (target_wide syntax who r to m n keeps target h) target.narrow target.cut in
    subst (λ (k : ℕ). Shows syntax who (number_put_at r number m) (ready.number_put to (in_range (number_at g 0) k (number_at g 1) % 2 ^ 128) n)) (same g.list)
    (subst (λ (d : Cells). Shows syntax who (number_put_at r number m) (with_cells d n)) (sym put_same)
    (target_put syntax who r to number m n keeps scope target h))

lists_are : (syntax : Syntax16) (who : InScope) (m : sem.Moment) (n : Moment) (payload : Bool) (g : Given) → Shows syntax who m n → with_octets payload m g.list ≡ ready.list_with payload g n
lists_are syntax who m n true g h = ap (λ (l : List ℕ). g.list ++ octet_bits l) h.unparsed
lists_are syntax who m n false g h = refl

wrong_by : (syntax : Syntax16) (who : InScope) (m : sem.Moment) (n : Moment) (slot : ℕ) (b d : Bool) → b ≡ d → IsStandard syntax (codes "checksum_error") 1 slot → BreaksNone syntax program_rules → Shows syntax who m n → Shows syntax who (cond b (sem.with_frame m (with_standard (codes "checksum_error") (a_number 1 1) m.frame)) m) (cond d (with_cells (put slot None 1 n.cells) n) n)
wrong_by syntax who m n slot true true same is keeps h = standard_put syntax who m n (codes "checksum_error") 1 slot is keeps h (a_number 1 1) 1 refl
wrong_by syntax who m n slot true false same is keeps h = absurd (cc same)
wrong_by syntax who m n slot false true same is keeps h = absurd (cc same)
wrong_by syntax who m n slot false false same is keeps h = h

pub verify_shows : VerifyShows
verify_shows syntax who word algorithm payload slot g m n is same keeps h =
    let lists : with_octets payload m g.list ≡ ready.list_with payload g n = lists_are syntax who m n payload g h in
    wrong_by syntax who m n slot (holds_at g 0 && checksums.is_wrong (with_octets payload m g.list) (value_at g 1) word) (holds_at g 0 && ready.is_wrong algorithm (ready.list_with payload g n) (value_at g 1))
    (ap (λ (k : ℕ). holds_at g 0 && not (k % 2 ^ width_in (value_at g 1) == number_in (value_at g 1))) (ap (hashes.result_of word) lists ∙ same (ready.list_with payload g n))) is keeps h

update_by : (syntax : Syntax16) (who : InScope) (m : sem.Moment) (n : Moment) (r : Reference) (to : Target) (number : ℕ) (b : Bool) → BreaksNone syntax program_rules → IsScope (length (variable_kinds syntax)) who → IsTarget syntax who r to → Shows syntax who m n → Shows syntax who (cond b (number_put_at r number m) m) (cond b (ready.number_put to number n) n)
update_by syntax who m n r to number true keeps scope target h = target_put syntax who r to number m n keeps scope target h
update_by syntax who m n r to number false keeps scope target h = h

pub update_shows : UpdateShows
update_shows syntax who r to word algorithm payload g m n keeps scope target same h =
    let lists : with_octets payload m g.list ≡ ready.list_with payload g n = lists_are syntax who m n payload g h in
    subst (λ (k : ℕ). Shows syntax who (cond (holds_at g 0) (number_put_at r (hashes.result_of word (with_octets payload m g.list)) m) m) (cond (holds_at g 0) (ready.number_put to k n) n)) (ap (hashes.result_of word) lists ∙ same (ready.list_with payload g n))
    (update_by syntax who m n r to (hashes.result_of word (with_octets payload m g.list)) (holds_at g 0) keeps scope target h)

-- the port that drops

pub drop_shows : DropShows
drop_shows syntax who r to g m n keeps scope target none h =
    subst (λ (slice : Option Slice). Shows syntax who (number_put_at (stepped r (to_member (codes "egress_spec"))) drop_port m) (with_cells (put to.slot slice drop_port n.cells) n)) none
    (target_put syntax who (stepped r (to_member (codes "egress_spec"))) to drop_port m n keeps scope target h)

-- requests

asked : (syntax : Syntax16) (who : InScope) (kind : RequestKind) (session list : ℕ) (m : sem.Moment) (n : Moment) → Shows syntax who m n → Shows syntax who (requests.requested kind session list m) (ready.requested kind session list n)
asked syntax who kind session list m n h =
    cells_show syntax who m n (sem.with_request kind (Some (session, list)) m.frame) (with_request kind (Some (session, list)) n.cells) h
    (ap (sem.with_request kind (Some (session, list))) h.frame ∙ sym (request_put syntax who n.cells kind (Some (session, list))))
    (request_whole kind) where
      w : AreWhole n.cells
      w = h.whole.whole

      request_whole : (k : RequestKind) → IsFrameOf syntax (with_request k (Some (session, list)) n.cells)
      request_whole CloneI2E = record { layout = h.whole.layout; whole = record { numbers = w.numbers; valids = w.valids; places = w.places; fits = w.fits; within = w.within } }
      request_whole CloneE2E = record { layout = h.whole.layout; whole = record { numbers = w.numbers; valids = w.valids; places = w.places; fits = w.fits; within = w.within } }
      request_whole Resubmit = record { layout = h.whole.layout; whole = record { numbers = w.numbers; valids = w.valids; places = w.places; fits = w.fits; within = w.within } }
      request_whole Recirculate = record { layout = h.whole.layout; whole = record { numbers = w.numbers; valids = w.valids; places = w.places; fits = w.fits; within = w.within } }

pub request_shows : RequestShows
request_shows syntax who kind list g m n h = asked syntax who kind 0 list m n h

pub clone_shows : CloneShows
clone_shows syntax who kind list g m n fits h =
    subst (λ (k : ℕ). Shows syntax who (requests.requested kind (number_at g 0) list m) (ready.requested kind k list n)) (sym (small (number_at g 0) fits))
    (asked syntax who kind (number_at g 0) list m n h)
