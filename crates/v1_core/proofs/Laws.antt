-- The packed frame of a program and its values by number: each call does to the one what it does to the other.
use Rattle.std.proofs.Common.{◌≡◌, inl, inr, ℕ, zero, suc, ◌+◌, ◌<◌, ◌≤◌, Bool, true, false, cond, Option, Some, None, List, [], ◌∷◌, length, get_or, set, refl, sym, ap, ◌∙◌, subst, arith, IfSome}
use Rattle.std.proofs.lemmas.List.{get_or-set_same, get_or-set_other}
use Rattle.fabric.specs.declared.items.Event.{Event}
use Rattle.fabric.specs.declared.items.RequestKind.{RequestKind}
use Rattle.fabric.specs.declared.items.RequestKind.TheVariants.{CloneI2E, CloneE2E, Resubmit, Recirculate}
use Rattle.p416_syntax.specs.declared.program.Syntax16.{Syntax16}
use Rattle.p416_syntax.specs.Names.{Name}
use Rattle.p416_syntax.specs.Kinds.{Kind}
use Rattle.p416_syntax.specs.Scopes.{Layout as TypeLayout, FieldKind, fields_in}
use Rattle.p416_syntax.specs.Declarations.{layouts_of}
use Rattle.v1_core.specs.Values.{Header, Value, a_header, a_stack, no_value, Step, elements_in, header_in, part_at, with_part_at, fitted}
use Rattle.v1_core.specs.Slots.{PartOwner, the_headers, the_metadata, the_standard, the_variable, FramePart}
use Rattle.v1_core.specs.Frames as frame
use Rattle.v1_core.specs.Frames.{Request}
use Rattle.v1_core.specs.Numbered.{owner_value, with_owner_value, part_value, with_part_value, made_valid, InScope, frame_in}
use Rattle.v1_core.specs.Layouts.{Layout, no_parts}
use Rattle.v1_core.specs.Cells.{Cells, owner_valid, is_live, slot_value, with_slot, header_valid, with_validity, stack_place, with_stack_place, request_of, with_request, without_requests, with_event, without_events}
use Rattle.v1_core.proofs.Frames.{set_got, set_others}
use Rattle.v1_core.specs.Seats.{Content, slot_form, header_form, stack_form, form_of, Start, behind, Seat, seat, behind_seat, seat_behind, seat_at}
use Rattle.v1_core.specs.PackedValues.{content_value, header_value, element_values, seat_value}
use Rattle.v1_core.specs.Laid.{IsHeader, IsSeatLaid, OwnersAgree}
use Rattle.v1_core.specs.Programs.{layout16, frame_kinds, first_start, seat_in, behind_kinds, AreLaid, owner_number, owner_seat, part_seat, values_from, of_values, numbered16}
use Rattle.v1_core.specs.PackedFrames.{IsFrameOf}
use Rattle.v1_core.proofs.Same.{Same, elements_same}
use Rattle.v1_core.proofs.Owned.{seat_laid}
use Rattle.v1_core.proofs.Kept.{validity_others, validity_value}
use Rattle.v1_core.proofs.Whole.{PutsValue, values_same, values_put}
use Rattle.v1_core.proofs.Making.{IsMade, Grows, end_of, values_grow, none_made}

-- what one owner has

pub numbered_is : (syntax : Syntax16) (c : Cells) (owner : PartOwner) → owner_value (numbered16 syntax c) owner ≡ get_or (values_from (layouts_of syntax.decls) c (frame_kinds syntax) first_start) (owner_number owner) no_value
numbered_is syntax c the_headers = refl
numbered_is syntax c the_metadata = refl
numbered_is syntax c the_standard = refl
numbered_is syntax c (the_variable number) = refl

pub numbered_put : (syntax : Syntax16) (c : Cells) (owner : PartOwner) (v : Value) → with_owner_value (numbered16 syntax c) owner v ≡ of_values (set (values_from (layouts_of syntax.decls) c (frame_kinds syntax) first_start) (owner_number owner) v) c
numbered_put syntax c the_headers v = refl
numbered_put syntax c the_metadata v = refl
numbered_put syntax c the_standard v = refl
numbered_put syntax c (the_variable number) v = refl

-- what stands in a frame of a program

pub program_laid : (syntax : Syntax16) → IsMade (layout16 syntax) × AreLaid (layout16 syntax) (layouts_of syntax.decls) (frame_kinds syntax) first_start
program_laid syntax =
    let types = layouts_of syntax.decls in
    let g : Grows no_parts (layout16 syntax) (behind_kinds types (frame_kinds syntax) (end_of no_parts)) (λ m. AreLaid m types (frame_kinds syntax) (end_of no_parts)) =
    values_grow types (frame_kinds syntax) no_parts none_made in
    (g.made, g.laid)

-- a write that changes one part of the values of a program
pub record PutsPart (syntax : Syntax16) (c d : Cells) (p : FramePart) (v : Value) (t : Seat) : Type 0 where
  pub laid : IsSeatLaid c.layout (layouts_of syntax.decls) t
  pub read : part_value (numbered16 syntax c) p ≡ seat_value (layouts_of syntax.decls) c t
  pub put : ((values : List Value) → of_values values c ≡ of_values values d) → Same c d first_start t.start → Same c d (behind_seat (layouts_of syntax.decls) t) (behind_kinds (layouts_of syntax.decls) (frame_kinds syntax) first_start) → (owner_valid c.valids t.owner ≡ true → fitted (seat_value (layouts_of syntax.decls) c t) v ≡ seat_value (layouts_of syntax.decls) d t) → with_part_value (numbered16 syntax c) p v ≡ numbered16 syntax d

-- the parts of one value among values that are laid
pub kinds_laid : (l : Layout) (types : List TypeLayout) (kinds : List Kind) (number : ℕ) (b : Start) (path : List Step) (o t : Seat) → AreLaid l types kinds b → seat_in types kinds b number ≡ Some o → seat_at types path o ≡ Some t → IsSeatLaid l types t
kinds_laid l types [] number b path o t laid is at = absurd (cc is)
kinds_laid l types (k ∷ kinds) zero b path o t laid is at =
    let n = length types in
    let here : seat_at types path (seat n (form_of k) b) ≡ Some t = subst (λ (x : Option Seat). IfSome x (λ s. seat_at types path s ≡ Some t)) (sym is) at in
    subst (λ (x : Option Seat). IfSome x (IsSeatLaid l types)) here (seat_laid l types path n (form_of k) b laid.0)
kinds_laid l types (k ∷ kinds) (suc number) b path o t laid is at =
    kinds_laid l types kinds number (behind types (length types) (form_of k) b) path o t laid.1 is at

pub part_put : (syntax : Syntax16) (c d : Cells) (p : FramePart) (v : Value) (t : Seat) → c.layout ≡ layout16 syntax → d.layout ≡ c.layout → part_seat syntax p ≡ Some t → PutsPart syntax c d p v t
part_put syntax c d p v t layout same found = by (owner_seat syntax p.owner) refl found where
  types : List TypeLayout
  types = layouts_of syntax.decls

  by : (x : Option Seat) → owner_seat syntax p.owner ≡ x → seat_behind (λ s. seat_at (layouts_of syntax.decls) p.path s) x ≡ Some t → PutsPart syntax c d p v t
  by None e at = absurd (cc at)
  by (Some o) e at =
      let laid : AreLaid c.layout types (frame_kinds syntax) first_start = subst (λ (l : Layout). AreLaid l types (frame_kinds syntax) first_start) (sym layout) (program_laid syntax).1 in
      let puts : PutsValue types c d p.path v (frame_kinds syntax) (owner_number p.owner) first_start t =
      values_put types c d p.path v (frame_kinds syntax) (owner_number p.owner) first_start o t same laid e at in
      record {
        laid = kinds_laid c.layout types (frame_kinds syntax) (owner_number p.owner) first_start p.path o t laid e at;
        read = ap (λ (y : Value). part_at p.path y) (numbered_is syntax c p.owner) ∙ puts.read;
        put = λ alike l m live.
            numbered_put syntax c p.owner (with_part_at p.path v (owner_value (numbered16 syntax c) p.owner))
            ∙ ap (λ (y : Value). of_values (set (values_from types c (frame_kinds syntax) first_start) (owner_number p.owner) (with_part_at p.path v y)) c) (numbered_is syntax c p.owner)
            ∙ ap (λ (values : List Value). of_values values c) (puts.put l m live)
            ∙ alike (values_from types d (frame_kinds syntax) first_start);
      }

-- what is read of a part is the value at its seat
pub part_read : (syntax : Syntax16) (c : Cells) (p : FramePart) (t : Seat) → c.layout ≡ layout16 syntax → part_seat syntax p ≡ Some t → part_value (numbered16 syntax c) p ≡ seat_value (layouts_of syntax.decls) c t
part_read syntax c p t layout found = (part_put syntax c c p no_value t layout refl found).read

-- slots

pub slot_put : (syntax : Syntax16) (c : Cells) (p : FramePart) (v : Value) (depth : ℕ) (of : Content) (b : Start) (owner : Option ℕ) (n : ℕ) → IsFrameOf syntax c → part_seat syntax p ≡ Some (record { depth = depth; form = slot_form of; start = b; owner = owner }) → fitted (content_value of (slot_value c b.slot)) v ≡ content_value of n → with_part_value (numbered16 syntax c) p v ≡ numbered16 syntax (with_slot c b.slot n)
slot_put syntax c p v depth of b owner n is found fits = puts.put (λ values. refl)
    (record {
      slots = λ i le lt. sym (set_others c b.slot n i (λ e. clash i e lt));
      headers = λ i le lt. refl;
      stacks = λ i le lt. refl;
    })
    (record {
      slots = λ i le lt. sym (set_others c b.slot n i (λ e. past i e le));
      headers = λ i le lt. refl;
      stacks = λ i le lt. refl;
    })
    (λ on. fits ∙ ap (λ (m : ℕ). content_value of m) (sym (set_got c b.slot n within ∙ ap (λ (live : Bool). cond live n 0) (live on)))) where
      t : Seat
      t = record { depth = depth; form = slot_form of; start = b; owner = owner }

      puts : PutsPart syntax c (with_slot c b.slot n) p v t
      puts = part_put syntax c (with_slot c b.slot n) p v t is.layout refl found

      within : b.slot < length c.numbers
      within = omega (arith, puts.laid.within, is.whole.numbers)

      live : owner_valid c.valids owner ≡ true → is_live c b.slot ≡ true
      live on = ap (λ (o : Option ℕ). owner_valid c.valids o) puts.laid.owned ∙ on

      clash : (i : ℕ) → i ≡ b.slot → i < b.slot → ⊥
      clash i e lt = omega arith

      past : (i : ℕ) → i ≡ b.slot → b.slot + 1 ≤ i → ⊥
      past i e le = omega arith

-- headers

pub validity_put : (syntax : Syntax16) (c : Cells) (p : FramePart) (depth : ℕ) (type : Name) (b : Start) (owner : Option ℕ) (on : Bool) → IsFrameOf syntax c → part_seat syntax p ≡ Some (record { depth = depth; form = header_form type; start = b; owner = owner }) → with_part_value (numbered16 syntax c) p (a_header (made_valid on (header_in (part_value (numbered16 syntax c) p)))) ≡ numbered16 syntax (with_validity c b.header on)
validity_put syntax c p depth type b owner on is found =
    ap (λ (y : Value). with_part_value (numbered16 syntax c) p (a_header (made_valid on (header_in y)))) (part_read syntax c p t is.layout found)
    ∙ puts.put (λ values. refl)
    (record {
      slots = λ i le lt. sym (validity_others c (length fields) b on i agree laid is.whole.numbers (inl lt));
      headers = λ i le lt. sym (get_or-set_other c.valids b.header i on false (λ e. clash i e lt));
      stacks = λ i le lt. refl;
    })
    (record {
      slots = λ i le lt. sym (validity_others c (length fields) b on i agree laid is.whole.numbers (inr le));
      headers = λ i le lt. sym (get_or-set_other c.valids b.header i on false (λ e. past i e le));
      stacks = λ i le lt. refl;
    })
    (λ live. ap (λ (h : Header). a_header h) (validity_value c fields b on laid is.whole.numbers is.whole.valids)) where
      fields : List FieldKind
      fields = fields_in (layouts_of syntax.decls) type

      t : Seat
      t = record { depth = depth; form = header_form type; start = b; owner = owner }

      v : Value
      v = a_header (made_valid on (header_value fields c b))

      puts : PutsPart syntax c (with_validity c b.header on) p v t
      puts = part_put syntax c (with_validity c b.header on) p v t is.layout refl found

      laid : IsHeader c.layout (length fields) b
      laid = puts.laid

      agree : OwnersAgree c.layout
      agree = subst OwnersAgree (sym is.layout) (program_laid syntax).0.agree

      clash : (i : ℕ) → i ≡ b.header → i < b.header → ⊥
      clash i e lt = omega arith

      past : (i : ℕ) → i ≡ b.header → b.header + 1 ≤ i → ⊥
      past i e le = omega arith

-- stacks

pub place_put : (syntax : Syntax16) (c : Cells) (p : FramePart) (depth : ℕ) (type : Name) (size : ℕ) (b : Start) (owner : Option ℕ) (place : ℕ) → IsFrameOf syntax c → part_seat syntax p ≡ Some (record { depth = depth; form = stack_form type size; start = b; owner = owner }) → with_part_value (numbered16 syntax c) p (a_stack place (elements_in (part_value (numbered16 syntax c) p))) ≡ numbered16 syntax (with_stack_place c b.stack place)
place_put syntax c p depth type size b owner place is found =
    ap (λ (y : Value). with_part_value (numbered16 syntax c) p (a_stack place (elements_in y))) (part_read syntax c p t is.layout found)
    ∙ puts.put (λ values. refl)
    (record {
      slots = λ i le lt. refl;
      headers = λ i le lt. refl;
      stacks = λ i le lt. sym (get_or-set_other c.places b.stack i place 0 (λ e. clash i e lt));
    })
    (record {
      slots = λ i le lt. refl;
      headers = λ i le lt. refl;
      stacks = λ i le lt. sym (get_or-set_other c.places b.stack i place 0 (λ e. past i e le));
    })
    (λ live.
    ap (λ (n : ℕ). a_stack n (element_values fields c size b)) (sym (get_or-set_same c.places b.stack place 0 (omega (arith, puts.laid.0, is.whole.places))))
    ∙ ap (λ (l : List Header). a_stack (stack_place d b.stack) l) (elements_same fields c d size b (record {
      slots = λ i le lt. refl;
      headers = λ i le lt. refl;
      stacks = λ i le lt. absurd (none i le lt);
    }))) where
      fields : List FieldKind
      fields = fields_in (layouts_of syntax.decls) type

      d : Cells
      d = with_stack_place c b.stack place

      t : Seat
      t = record { depth = depth; form = stack_form type size; start = b; owner = owner }

      puts : PutsPart syntax c d p (a_stack place (element_values fields c size b)) t
      puts = part_put syntax c d p (a_stack place (element_values fields c size b)) t is.layout refl found

      clash : (i : ℕ) → i ≡ b.stack → i < b.stack → ⊥
      clash i e lt = omega arith

      past : (i : ℕ) → i ≡ b.stack → b.stack + 1 ≤ i → ⊥
      past i e le = omega arith

      none : (i : ℕ) → b.stack ≤ i → i < b.stack + 0 → ⊥
      none i le lt = omega arith

-- requests and events

-- cells in which the same stands have the same values
pub alike : (syntax : Syntax16) (c d : Cells) → ((i : ℕ) → slot_value c i ≡ slot_value d i) → ((i : ℕ) → header_valid c i ≡ header_valid d i) → ((i : ℕ) → stack_place c i ≡ stack_place d i) → values_from (layouts_of syntax.decls) c (frame_kinds syntax) first_start ≡ values_from (layouts_of syntax.decls) d (frame_kinds syntax) first_start
alike syntax c d slots headers stacks =
    values_same (layouts_of syntax.decls) c d (frame_kinds syntax) first_start (record {
      slots = λ i le lt. slots i;
      headers = λ i le lt. headers i;
      stacks = λ i le lt. stacks i;
    })

pub request_put : (syntax : Syntax16) (s : InScope) (c : Cells) (kind : RequestKind) (r : Option Request) → frame_in s (numbered16 syntax (with_request kind r c)) ≡ frame.with_request kind r (frame_in s (numbered16 syntax c))
request_put syntax s c CloneI2E r = sym (ap (λ (values : List Value). frame_in s (of_values values (with_request CloneI2E r c))) (alike syntax c (with_request CloneI2E r c) (λ i. refl) (λ i. refl) (λ i. refl)))
request_put syntax s c CloneE2E r = sym (ap (λ (values : List Value). frame_in s (of_values values (with_request CloneE2E r c))) (alike syntax c (with_request CloneE2E r c) (λ i. refl) (λ i. refl) (λ i. refl)))
request_put syntax s c Resubmit r = sym (ap (λ (values : List Value). frame_in s (of_values values (with_request Resubmit r c))) (alike syntax c (with_request Resubmit r c) (λ i. refl) (λ i. refl) (λ i. refl)))
request_put syntax s c Recirculate r = sym (ap (λ (values : List Value). frame_in s (of_values values (with_request Recirculate r c))) (alike syntax c (with_request Recirculate r c) (λ i. refl) (λ i. refl) (λ i. refl)))

pub request_read : (syntax : Syntax16) (s : InScope) (c : Cells) (kind : RequestKind) → frame.request_of (frame_in s (numbered16 syntax c)) kind ≡ request_of c kind
request_read syntax s c CloneI2E = refl
request_read syntax s c CloneE2E = refl
request_read syntax s c Resubmit = refl
request_read syntax s c Recirculate = refl

pub event_put : (syntax : Syntax16) (s : InScope) (c : Cells) (e : Event) → frame_in s (numbered16 syntax (with_event e c)) ≡ frame.with_event e (frame_in s (numbered16 syntax c))
event_put syntax s c e =
    sym (ap (λ (values : List Value). frame_in s (of_values values (with_event e c))) (alike syntax c (with_event e c) (λ i. refl) (λ i. refl) (λ i. refl)))

pub cleared_put : (syntax : Syntax16) (s : InScope) (c : Cells) → frame_in s (numbered16 syntax (without_events (without_requests c))) ≡ frame.without_requests_and_events (frame_in s (numbered16 syntax c))
cleared_put syntax s c =
    sym (ap (λ (values : List Value). frame_in s (of_values values (without_events (without_requests c)))) (alike syntax c (without_events (without_requests c)) (λ i. refl) (λ i. refl) (λ i. refl)))
