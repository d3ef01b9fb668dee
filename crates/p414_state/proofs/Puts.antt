-- Headers and stacks that are copied from a packet or put into it.
use Rattle.std.proofs.Common.{◌≡◌, ℕ, ◌<◌, ◌≤◌, ◌%◌, Bool, List, [], length, map, get_or, set, subst, slice_get, Option, Some, None, option_map, Result, Ok, Err, refl, sym, ap, ap₂, ◌∙◌, arith, ⊎_elim}
use Rattle.std.specs.Prelude.{unwrap_or, IfOk}
use Rattle.std.proofs.lemmas.Bool.{cases_lt}
use Rattle.std.proofs.lemmas.List.{get_or_past, set_past, length-map}
use Rattle.fabric.specs.declared.items.Event.{Event}
use Rattle.p4x_bits.specs.BitLists.{octet_bits}
use Rattle.p414_sem.specs.Packing.{bits_in}
use Rattle.p414_sem.specs.State.{Header, Instance, no_header, no_instance, header_at, elements_at, place_of, with_header, with_elements, cleared}
use Rattle.p414_layout.specs.declared.shape.Shape.{Shape}
use Rattle.p414_layout.specs.Placed.{total}
use Rattle.p414_layout.specs.Shapes.{no_shape, shape_at, element_count}
use Rattle.p414_state.specs.declared.standard.StandardFields.{StandardFields}
use Rattle.p414_state.specs.declared.requests.Requests.{Requests}
use Rattle.p414_state.specs.Packets.{Packet, with_state}
use Rattle.p414_state.specs.Headers.{Packed, header_in, HoldsHeader, HoldsStack, IsWhole, FitsShape, FitsAt}
use Rattle.p414_state.specs.internal.Cells.{Laid, element_in, with_element, with_all}
use Rattle.p414_state.specs.internal.Parts.{shape_of, instance_of, packet_of}
use Rattle.p414_state.proofs.Instances.{shape_is, instance_is, header_is, header_put, replaced, shape_seen, instance_seen}

-- what isn't there

abbrev pub nothing_fits : FitsShape no_shape no_instance
nothing_fits = record {
  count = refl;
  each = λ k d lt. absurd (omega arith);
  metadata = λ is. λ k d lt. absurd (omega arith);
  place = omega arith;
}

no_elements : HoldsStack no_shape [] []
no_elements = record { are = refl; packed = record { count = refl; each = λ k d lt. absurd (omega arith) } }

pub there : (layout : List Shape) (i e : ℕ) → e < element_count (shape_at layout i) → i < length layout
there layout i e lt =
    ⊎_elim (λ l. l)
    (λ le.
    let none : e < 0 = subst (λ (s : Shape). e < element_count s) (get_or_past layout i no_shape le) lt in
    absurd (omega arith))
    (cases_lt i (length layout))

module _ (octets : List ℕ) (parsed : ℕ) (standard : StandardFields) (requests : Requests) (events : List Event) where
  -- what is put

  pub cleared_seen : (instances : List Laid) (i e : ℕ) (valid : Bool) (old new : Laid) (now : Packet) → packet_of instances octets parsed standard requests events ≡ now → i < length now.layout → old ≡ get_or instances i old → new ≡ with_element old e (cleared valid (element_in old e)) → packet_of (set instances i new) octets parsed standard requests events ≡ with_state now (with_header now.state i e (cleared valid (header_at now.state i e)))
  cleared_seen instances i e valid old new now view lt found is =
      subst (λ (p : Packet). i < length p.layout → packet_of (set instances i new) octets parsed standard requests events ≡ with_state p (with_header p.state i e (cleared valid (header_at p.state i e)))) view (λ l.
      header_put octets parsed standard requests events instances i e old new (cleared valid (element_in (get_or instances i old) e)) (cleared valid (header_at (packet_of instances octets parsed standard requests events).state i e)) l
      (is ∙ ap (λ (x : Laid). with_element x e (cleared valid (element_in x e))) found)
      (ap (cleared valid) (sym (header_is instances i e old l)))) lt

  pub header_seen : (instances : List Laid) (i e : ℕ) (h : Packed) (old new : Laid) (now : Packet) → packet_of instances octets parsed standard requests events ≡ now → i < length now.layout → old ≡ get_or instances i old → new ≡ with_element old e (header_in old.shape.widths h) → packet_of (set instances i new) octets parsed standard requests events ≡ with_state now (with_header now.state i e (header_in (shape_at now.layout i).widths h))
  header_seen instances i e h old new now view lt found is =
      subst (λ (p : Packet). i < length p.layout → packet_of (set instances i new) octets parsed standard requests events ≡ with_state p (with_header p.state i e (header_in (shape_at p.layout i).widths h))) view (λ l.
      header_put octets parsed standard requests events instances i e old new (header_in (get_or instances i old).shape.widths h) (header_in (shape_at (map shape_of instances) i).widths h) l
      (is ∙ ap (λ (x : Laid). with_element x e (header_in x.shape.widths h)) found)
      (ap (λ (s : Shape). header_in s.widths h) (sym (shape_is instances i old l)))) lt

  pub stack_seen : (instances : List Laid) (i : ℕ) (stack : List Packed) (old new : Laid) (now : Packet) → packet_of instances octets parsed standard requests events ≡ now → i < length now.layout → old ≡ get_or instances i old → new ≡ with_all old (map (header_in old.shape.widths) stack) → packet_of (set instances i new) octets parsed standard requests events ≡ with_state now (with_elements now.state i (map (header_in (shape_at now.layout i).widths) stack))
  stack_seen instances i stack old new now view lt found is =
      subst (λ (p : Packet). i < length p.layout → packet_of (set instances i new) octets parsed standard requests events ≡ with_state p (with_elements p.state i (map (header_in (shape_at p.layout i).widths) stack))) view (λ l.
      let put : new ≡ with_all (get_or instances i old) (map (header_in (get_or instances i old).shape.widths) stack) = is ∙ ap (λ (x : Laid). with_all x (map (header_in x.shape.widths) stack)) found in
      replaced octets parsed standard requests events instances i old new (record { elements = map (header_in (shape_at (map shape_of instances) i).widths) stack; place = (get_or (map instance_of instances) i no_instance).place })
      (ap shape_of put)
      (ap instance_of put
      ∙ ap₂ (λ (s : Shape) (x : Instance). record { elements = map (header_in s.widths) stack; place = x.place }) (sym (shape_is instances i old l)) (sym (instance_is instances i old l)))) lt

  pub stack_nowhere : (instances : List Laid) (i : ℕ) (headers : List Header) (now : Packet) → packet_of instances octets parsed standard requests events ≡ now → length now.layout ≤ i → now ≡ with_state now (with_elements now.state i headers)
  stack_nowhere instances i headers now view le =
      let past : length now.state.instances ≤ i =
      subst (λ (p : Packet). length p.layout ≤ i → length p.state.instances ≤ i) view (λ n. rw (length-map instances instance_of) (rw (← length-map instances shape_of) n)) le in
      ap (λ (l : List Instance). with_state now (record now.state { instances = l }))
      (sym (set_past now.state.instances i (record { elements = headers; place = place_of now.state i }) past))

  -- what is read

  -- what holds of the instance with a number, by what stands there
  at_instance : (P : Shape → Instance → Type 0) (instances : List Laid) (i : ℕ) (o : Option Laid) (now : Packet) → packet_of instances octets parsed standard requests events ≡ now → slice_get instances i ≡ o → P (unwrap_or (option_map shape_of o) no_shape) (unwrap_or (option_map instance_of o) no_instance) → P (shape_at now.layout i) (get_or now.state.instances i no_instance)
  at_instance P instances i o now view is holds =
      subst (λ (s : Shape). P s (get_or now.state.instances i no_instance)) (sym (shape_seen octets parsed standard requests events instances i o now view is))
      (subst (P (unwrap_or (option_map shape_of o) no_shape)) (sym (instance_seen octets parsed standard requests events instances i o now view is)) holds)

  pub inside : (instances : List Laid) (i e : ℕ) (now : Packet) → packet_of instances octets parsed standard requests events ≡ now → e < element_count (shape_at now.layout i) → i < length instances
  inside instances i e now view lt =
      subst (λ (p : Packet). e < element_count (shape_at p.layout i) → i < length instances) view
      (λ l. rw (← length-map instances shape_of) (there (map shape_of instances) i e l)) lt

  pub holds_header : {E : Type 0} (instances : List Laid) (i e : ℕ) (old : Laid) (made : Result Packed E) (now : Packet) → packet_of instances octets parsed standard requests events ≡ now → i < length instances → old ≡ get_or instances i old → IfOk made (HoldsHeader old.shape (element_in old e)) → IfOk made (HoldsHeader (shape_at now.layout i) (header_at now.state i e))
  holds_header instances i e old (Err x) now view lt found holds = _
  holds_header instances i e old (Ok p) now view lt found holds =
      subst (λ (q : Packet). HoldsHeader (shape_at q.layout i) (header_at q.state i e) p) view
      (let l : i < length (map shape_of instances) = rw (length-map instances shape_of) lt in
      subst (λ (s : Shape). HoldsHeader s (header_at (packet_of instances octets parsed standard requests events).state i e) p) (sym (shape_is instances i old l))
      (subst (λ (h : Header). HoldsHeader (get_or instances i old).shape h p) (sym (header_is instances i e old l))
      (subst (λ (x : Laid). HoldsHeader x.shape (element_in x e) p) found holds)))

  pub fits_some : (instances : List Laid) (i : ℕ) (x : Laid) (now : Packet) → packet_of instances octets parsed standard requests events ≡ now → slice_get instances i ≡ Some x → FitsShape x.shape x.instance → FitsAt now i
  fits_some instances i x now view is fits = at_instance FitsShape instances i (Some x) now view is fits

  pub fits_none : (instances : List Laid) (i : ℕ) (now : Packet) → packet_of instances octets parsed standard requests events ≡ now → slice_get instances i ≡ None → FitsAt now i
  fits_none instances i now view is = at_instance FitsShape instances i None now view is nothing_fits

  pub stack_some : {E : Type 0} (instances : List Laid) (i : ℕ) (x : Laid) (made : Result (List Packed) E) (now : Packet) → packet_of instances octets parsed standard requests events ≡ now → slice_get instances i ≡ Some x → IfOk made (HoldsStack x.shape x.instance.elements) → IfOk made (HoldsStack (shape_at now.layout i) (elements_at now.state i))
  stack_some instances i x made now view is holds =
      at_instance (λ (s : Shape) (y : Instance). IfOk made (HoldsStack s y.elements)) instances i (Some x) now view is holds

  pub stack_none : (instances : List Laid) (i : ℕ) (stack : List Packed) (now : Packet) → packet_of instances octets parsed standard requests events ≡ now → slice_get instances i ≡ None → stack ≡ [] → HoldsStack (shape_at now.layout i) (elements_at now.state i) stack
  stack_none instances i stack now view is empty =
      at_instance (λ (s : Shape) (y : Instance). HoldsStack s y.elements stack) instances i None now view is
      (subst (HoldsStack no_shape []) (sym empty) no_elements)

  pub octets_some : (instances : List Laid) (i e : ℕ) (read : List ℕ) (x : Laid) (now : Packet) → packet_of instances octets parsed standard requests events ≡ now → slice_get instances i ≡ Some x → (e < element_count x.shape → total x.shape.widths % 8 ≡ 0 → octet_bits read ≡ bits_in x.shape.widths (element_in x e).numbers) → IsWhole now.layout i e → octet_bits read ≡ bits_in (shape_at now.layout i).widths (header_at now.state i e).numbers
  octets_some instances i e read x now view is holds whole =
      at_instance (λ (s : Shape) (y : Instance). e < element_count s → total s.widths % 8 ≡ 0 → octet_bits read ≡ bits_in s.widths (get_or y.elements e no_header).numbers) instances i (Some x) now view is holds whole.element whole.octets

  pub octets_none : (instances : List Laid) (i e : ℕ) (read : List ℕ) (now : Packet) → packet_of instances octets parsed standard requests events ≡ now → slice_get instances i ≡ None → IsWhole now.layout i e → octet_bits read ≡ bits_in (shape_at now.layout i).widths (header_at now.state i e).numbers
  octets_none instances i e read now view is whole =
      at_instance (λ (s : Shape) (y : Instance). e < element_count s → octet_bits read ≡ bits_in s.widths (get_or y.elements e no_header).numbers) instances i None now view is (λ lt. absurd (omega arith)) whole.element
