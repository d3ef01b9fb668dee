-- How a packet's frame begins, and fields of standard metadata.
use Rattle.std.proofs.Common.{◌≡◌, ℕ, ◌%◌, ◌<◌, ◌≤◌, ◌^◌, None, List, [], ◌∷◌, length, get_or, sym, ap, ◌∙◌, subst, arith, codes}
use Rattle.std.proofs.Math.Nat.{mod-eq_of_lt}
use Rattle.p416_syntax.specs.declared.program.Syntax16.{Syntax16}
use Rattle.p416_syntax.specs.Names.{Name}
use Rattle.v1_core.specs.Values.{Value, a_number, number_in}
use Rattle.v1_core.specs.Frames.{Frame, standard_number, with_standard, without_requests_and_events}
use Rattle.v1_core.specs.Numbered.{Numbered, nobody, frame_in}
use Rattle.v1_core.specs.Passes.{none_preserved, blank_frame, new_frame, preserved}
use Rattle.v1_core.specs.Layouts.{Layout}
use Rattle.v1_core.specs.Cells.{Cells, slot_value, with_slot, without_requests, without_events, new_cells, AreWhole}
use Rattle.v1_core.specs.Seats.{some_bits, slot_form}
use Rattle.v1_core.specs.Programs.{layout16}
use Rattle.v1_core.specs.PackedFrames.{IsFrameOf}
use Rattle.v1_core.proofs.Laws.{part_read, slot_put, cleared_put}
use Rattle.v1_pass_slots.specs.Starts.{metadata_start}
use Rattle.v1_packets.specs.Packets.{packet_frame, kept_value, with_metadata, with_zero_standard, AreFitting, with_fresh, clone_frame}
use Rattle.v1_packets.specs.internal.Filled.{AreLone, IsFilled}
use Rattle.v1_pass_slots.specs.declared.slots.PassSlots.{PassSlots}
use Rattle.v1_pass_slots.specs.Found.{standard_part, IsStandard, ArePassSlots}
use Rattle.v1_packets.specs.Kept.{kept_from}
use Rattle.v1_packets.proofs.Keeping.{kept_is}
use Rattle.v1_packets.proofs.Values.{metadata_lone, standard_lone, metadata_filled, standard_filled, none_kept, new_framed}

-- fields of standard metadata

pub standard_put : (s : Syntax16) (c d : Cells) (slot n : ℕ) → IsFrameOf s c → n < 2 ^ get_or c.layout.widths slot 0 → d ≡ with_slot c slot n → (word : Name) (width : ℕ) → IsStandard s word width slot → packet_frame s d ≡ with_standard word (a_number width n) (packet_frame s c)
standard_put s c d slot n is fits set word width i =
    ap (packet_frame s) set
    ∙ subst (λ (at : ℕ). packet_frame s (with_slot c at n) ≡ with_standard word (a_number width n) (packet_frame s c)) i.begins
    (ap (λ (x : Numbered). frame_in nobody x) (sym (slot_put s c (standard_part word) (a_number width n) i.depth (some_bits width) i.start None n is i.seat same))) where
      small : n < 2 ^ width
      small =
          subst (λ (w : ℕ). n < 2 ^ w) i.wide (subst (λ (l : Layout). n < 2 ^ get_or l.widths slot 0) is.layout fits)

      same : a_number width (n % 2 ^ width) ≡ a_number width n
      same = ap (λ (m : ℕ). a_number width m) (mod-eq_of_lt small)

pub standard_read : (s : Syntax16) (c : Cells) (word : Name) (width slot n : ℕ) → IsFrameOf s c → IsStandard s word width slot → n ≡ slot_value c slot → n ≡ standard_number (packet_frame s c) word
standard_read s c word width slot n is i got =
    got
    ∙ subst (λ (at : ℕ). slot_value c at ≡ standard_number (packet_frame s c) word) i.begins
    (sym (ap number_in (part_read s c (standard_part word) (record { depth = i.depth; form = slot_form (some_bits width); start = i.start; owner = None }) is.layout i.seat)))

pub cleared : (s : Syntax16) (c d e : Cells) → d ≡ without_requests c → e ≡ without_events d → packet_frame s e ≡ without_requests_and_events (packet_frame s c)
cleared s c d e first second = ap (packet_frame s) (second ∙ ap without_events first) ∙ cleared_put s nobody c

-- its slot is there, and has so many bits

pub slot_there : (s : Syntax16) (c : Cells) (word : Name) (width slot : ℕ) → IsFrameOf s c → IsStandard s word width slot → slot < length c.layout.widths
slot_there s c word width slot is i = subst (λ (l : Layout). slot < length l.widths) (sym is.layout) i.within

pub number_there : (s : Syntax16) (c : Cells) (word : Name) (width slot n : ℕ) → IsFrameOf s c → IsStandard s word width slot → n < 2 ^ width → n < 2 ^ get_or c.layout.widths slot 0
number_there s c word width slot n is i small =
    subst (λ (l : Layout). n < 2 ^ get_or l.widths slot 0) (sym is.layout) (subst (λ (w : ℕ). n < 2 ^ w) (sym i.wide) small)

pub number_small : (s : Syntax16) (c : Cells) (word : Name) (width slot n : ℕ) → IsFrameOf s c → IsStandard s word width slot → n < 2 ^ get_or c.layout.widths slot 0 → n < 2 ^ width
number_small s c word width slot n is i fits =
    subst (λ (w : ℕ). n < 2 ^ w) i.wide (subst (λ (l : Layout). n < 2 ^ get_or l.widths slot 0) is.layout fits)

-- frames of a program

pub frame_new : (s : Syntax16) (l : Layout) (c : Cells) → c ≡ new_cells l → l ≡ layout16 s → AreWhole c → IsFrameOf s c
frame_new s l c new laid whole = record { layout = ap (λ (x : Cells). x.layout) new ∙ laid; whole = whole }

pub frame_filled : (s : Syntax16) (c d : Cells) (from to : ℕ) (numbers : List ℕ) → IsFrameOf s c → IsFilled c d from to numbers → AreWhole d → IsFrameOf s d
frame_filled s c d from to numbers is f whole = record { layout = ap (λ (x : Cells). x.layout) f.rest ∙ is.layout; whole = whole }

-- what is filled is there

pub metadata_order : (s : Syntax16) (p : PassSlots) → ArePassSlots s p → p.metadata.from ≤ p.metadata.to
metadata_order s p are = omega (arith, are.count)

pub metadata_there : (s : Syntax16) (c : Cells) (p : PassSlots) → IsFrameOf s c → ArePassSlots s p → AreLone c.layout p.metadata.from p.metadata.to
metadata_there s c p is are =
    subst (λ (l : Layout). AreLone l p.metadata.from p.metadata.to) (sym is.layout) (metadata_lone s p.metadata are.metadata)

pub standard_there : (s : Syntax16) (c : Cells) (p : PassSlots) → IsFrameOf s c → ArePassSlots s p → AreLone c.layout p.standard.from p.standard.to
standard_there s c p is are =
    subst (λ (l : Layout). AreLone l p.standard.from p.standard.to) (sym is.layout) (standard_lone s p.standard are.standard)

pub kept_there : (s : Syntax16) (c : Cells) (p : PassSlots) (kept : List ℕ) → IsFrameOf s c → ArePassSlots s p → AreFitting (layout16 s).widths (metadata_start s).slot kept → AreFitting c.layout.widths p.metadata.from kept
kept_there s c p kept is are fits =
    subst (λ (l : Layout). AreFitting l.widths p.metadata.from kept) (sym is.layout)
    (subst (λ (n : ℕ). AreFitting (layout16 s).widths n kept) (sym are.metadata.from) fits)

pub metadata_put : (s : Syntax16) (c d : Cells) (p : PassSlots) (kept : List ℕ) → ArePassSlots s p → IsFilled c d p.metadata.from p.metadata.to kept → packet_frame s d ≡ with_metadata (kept_value s kept) (packet_frame s c)
metadata_put s c d p kept are f = metadata_filled s c d p.metadata kept are.metadata f

pub standard_cleared : (s : Syntax16) (c d : Cells) (p : PassSlots) → ArePassSlots s p → IsFilled c d p.standard.from p.standard.to [] → packet_frame s d ≡ with_zero_standard s (packet_frame s c)
standard_cleared s c d p are f = standard_filled s c d p.standard are.standard f

pub nothing_kept : (s : Syntax16) (p : PassSlots) → ArePassSlots s p → kept_value s [] ≡ none_preserved s
nothing_kept s p are = none_kept s p.metadata are.metadata

pub keeps : (s : Syntax16) (c : Cells) (p : PassSlots) (lists : List (List ℕ)) (list : ℕ) (kept : List ℕ) → ArePassSlots s p → lists ≡ p.lists.items → list < 256 → kept ≡ kept_from c p.metadata.from lists list → (session : ℕ) → kept_value s kept ≡ preserved s (packet_frame s c) (session, list)
keeps s c p lists list kept are same small is =
    kept_is s c p.lists.items list kept small are.lists
    (is ∙ ap (λ (ls : List (List ℕ)). kept_from c p.metadata.from ls list) same ∙ ap (λ (n : ℕ). kept_from c n p.lists.items list) are.metadata.from)

-- a frame that is new
pub blank_new : (s : Syntax16) (l : Layout) (c : Cells) → c ≡ new_cells l → l ≡ layout16 s → packet_frame s c ≡ blank_frame s
blank_new s l c new laid = ap (packet_frame s) (new ∙ ap new_cells laid) ∙ new_framed s

-- nothing is kept
pub none_brought : (s : Syntax16) (p : PassSlots) (kept : List ℕ) (f : Frame) → ArePassSlots s p → length kept ≡ 0 → f ≡ blank_frame s → f ≡ with_metadata (kept_value s kept) (blank_frame s)
none_brought s p [] f are empty blank = blank ∙ sym (ap (λ (v : Value). with_metadata v (blank_frame s)) (nothing_kept s p are))
none_brought s p (n ∷ kept) f are empty blank = let never : ⊥ = omega arith in absurd never

-- a frame as a pass begins
pub begun : (s : Syntax16) (f g : Frame) (port octets count kind : ℕ) (kept : Value) → f ≡ with_metadata kept (blank_frame s) → g ≡ with_fresh port count kind f → count ≡ octets % 2 ^ 32 → g ≡ new_frame s port (octets % 2 ^ 32) kind kept
begun s f g port octets count kind kept brought put short =
    put ∙ ap (with_fresh port count kind) brought ∙ ap (λ (n : ℕ). new_frame s port n kind kept) short

-- a clone made behind egress
pub clone_made : (s : Syntax16) (c : Cells) (copied cleared filled zero put : Frame) (kept given : List ℕ) (list port octets : ℕ) → copied ≡ packet_frame s c → cleared ≡ without_requests_and_events copied → filled ≡ with_metadata (kept_value s given) cleared → given ≡ kept → zero ≡ with_zero_standard s filled → put ≡ with_fresh port octets 0 zero → octets ≡ standard_number (packet_frame s c) (codes "packet_length") → kept_value s kept ≡ preserved s (packet_frame s c) (0, list) → put ≡ clone_frame s list port (standard_number (packet_frame s c) (codes "packet_length")) (packet_frame s c)
clone_made s c copied cleared filled zero put kept given list port octets same clears fills gives zeros puts long keeps =
    puts
    ∙ ap (with_fresh port octets 0)
    (zeros ∙ ap (with_zero_standard s) (fills ∙ ap (with_metadata (kept_value s given)) (clears ∙ ap without_requests_and_events same)))
    ∙ ap (λ (v : Value). with_fresh port octets 0 (with_zero_standard s (with_metadata v (without_requests_and_events (packet_frame s c))))) (ap (kept_value s) gives ∙ keeps)
    ∙ ap (λ (n : ℕ). clone_frame s list port n (packet_frame s c)) long
