-- A packet in which one instance is another one.
use Rattle.std.proofs.Common.{◌≡◌, ℕ, ◌+◌, ◌%◌, ◌^◌, ◌<◌, ◌≤◌, Bool, true, false, List, [], ◌∷◌, ◌++◌, length, map, take, drop, get_or, set, cond, subst, slice_get, Option, None, option_map, refl, sym, ap, ap₂, ◌∙◌}
use Rattle.std.specs.Prelude.{unwrap_or}
use Rattle.std.proofs.lemmas.List.{get_or-map, get_or_past, map-set, set_past, set-get_or, length-map, append-nil, take_all, drop_all}
use Rattle.std.proofs.lemmas.List.Edits.{map_over_more}
use Rattle.std.proofs.Math.Seq.{map-set_same}
use Rattle.fabric.specs.declared.items.Event.{Event}
use Rattle.p4x_bits.specs.BitLists.{octet_bits}
use Rattle.p414_sem.specs.Packing.{numbers_in}
use Rattle.p414_sem.specs.Slots.{declared}
use Rattle.p414_sem.specs.State.{Header, Instance, State, no_header, no_instance, instance_at, header_at, is_valid, place_of, with_instance, with_header, with_place, with_field, written, cleared, with_valid, is_same}
use Rattle.p414_layout.specs.declared.shape.Shape.{Shape}
use Rattle.p414_layout.specs.Shapes.{no_shape, shape_at, blank_of}
use Rattle.p414_state.specs.declared.standard.StandardFields.{StandardFields}
use Rattle.p414_state.specs.declared.requests.Requests.{Requests}
use Rattle.p414_state.specs.Packets.{Packet, with_state, begun_one, begun_all, with_headers_begun, new_packet}
use Rattle.p414_state.specs.internal.Cells.{Laid, element_in, put_in, put_valid_in, with_element, with_place_of, begun_of, new_laid, renewed_of}
use Rattle.p414_state.specs.internal.Parts.{shape_of, instance_of, packet_with, packet_of}
use Rattle.p414_state.proofs.Elements.{got}

-- the shape and the instance with a number
pub shape_is : (instances : List Laid) (i : ℕ) (d : Laid) → i < length (map shape_of instances) → shape_at (map shape_of instances) i ≡ (get_or instances i d).shape
shape_is instances i d lt = get_or-map shape_of instances i d no_shape (rw (← length-map instances shape_of) lt)

pub instance_is : (instances : List Laid) (i : ℕ) (d : Laid) → i < length (map shape_of instances) → get_or (map instance_of instances) i no_instance ≡ (get_or instances i d).instance
instance_is instances i d lt = get_or-map instance_of instances i d no_instance (rw (← length-map instances shape_of) lt)

pub header_is : (instances : List Laid) (i e : ℕ) (d : Laid) → i < length (map shape_of instances) → get_or (get_or (map instance_of instances) i no_instance).elements e no_header ≡ element_in (get_or instances i d) e
header_is instances i e d lt = ap (λ (x : Instance). get_or x.elements e no_header) (instance_is instances i d lt)

begun_shapes : (instances : List Laid) → map shape_of (map begun_of instances) ≡ map shape_of instances
begun_shapes [] = refl
begun_shapes (x ∷ instances) = ap (λ (l : List Shape). x.shape ∷ l) (begun_shapes instances)

begun_instances : (instances : List Laid) → map instance_of (map begun_of instances) ≡ begun_all (map shape_of instances) (map instance_of instances)
begun_instances [] = refl
begun_instances (x ∷ instances) = ap (λ (l : List Instance). begun_one x.shape x.instance ∷ l) (begun_instances instances)

-- instances that aren't there

valid_none : (s : State) (i e : ℕ) → length s.instances ≤ i → is_valid s i e ≡ false
valid_none s i e le = ap (λ (x : Instance). (get_or x.elements e no_header).valid) (get_or_past s.instances i no_instance le)

instance_past : (s : State) (i : ℕ) (x : Instance) → length s.instances ≤ i → s ≡ with_instance s i x
instance_past s i x le = ap (λ (l : List Instance). record s { instances = l }) (sym (set_past s.instances i x le))

number_past : (s : State) (i e f n : ℕ) → length s.instances ≤ i → s ≡ written s (declared i e f) n
number_past s i e f n le = ap (λ (b : Bool). cond b (with_header s i e (with_field (header_at s i e) f n)) s) (sym (valid_none s i e le))

same_either : (b : Bool) (s t : State) → s ≡ t → s ≡ cond b s t
same_either true s t is = refl
same_either false s t is = is

valid_past : (s : State) (i e : ℕ) (on : Bool) → length s.instances ≤ i → s ≡ with_valid s i e on
valid_past s i e on le =
    same_either (is_same (is_valid s i e) on) s (with_header s i e (cleared on (header_at s i e)))
    (instance_past s i (record { elements = set (instance_at s i).elements e (cleared on (header_at s i e)); place = place_of s i }) le)

module _ (octets : List ℕ) (parsed : ℕ) (standard : StandardFields) (requests : Requests) (events : List Event) where
  -- the packet with another instance
  pub replaced : (instances : List Laid) (i : ℕ) (d new : Laid) (x : Instance) → new.shape ≡ (get_or instances i d).shape → new.instance ≡ x → packet_of (set instances i new) octets parsed standard requests events ≡ packet_with (map shape_of instances) (set (map instance_of instances) i x) octets parsed standard requests events
  replaced instances i d new x shape is =
      ap (λ (l : List Shape). packet_with l (map instance_of (set instances i new)) octets parsed standard requests events) (map-set_same shape_of instances i new d shape)
      ∙ ap (λ (l : List Instance). packet_with (map shape_of instances) l octets parsed standard requests events) (map-set instance_of instances i new ∙ ap (set (map instance_of instances) i) is)

  -- with another header
  pub header_put : (instances : List Laid) (i e : ℕ) (d new : Laid) (h g : Header) → i < length (map shape_of instances) → new ≡ with_element (get_or instances i d) e h → h ≡ g → packet_of (set instances i new) octets parsed standard requests events ≡ with_state (packet_of instances octets parsed standard requests events) (with_header (packet_of instances octets parsed standard requests events).state i e g)
  header_put instances i e d new h g lt is same =
      replaced instances i d new (record { elements = set (get_or (map instance_of instances) i no_instance).elements e g; place = (get_or (map instance_of instances) i no_instance).place })
      (ap shape_of is)
      (ap instance_of is
      ∙ ap (λ (y : Header). record { elements = set (get_or instances i d).instance.elements e y; place = (get_or instances i d).instance.place }) same
      ∙ ap (λ (x : Instance). record { elements = set x.elements e g; place = x.place }) (sym (instance_is instances i d lt)))

  -- with another number in a field of a valid header
  pub number_put : (instances : List Laid) (i e f value : ℕ) (d new : Laid) → i < length (map shape_of instances) → new ≡ with_element (get_or instances i d) e (with_field (element_in (get_or instances i d) e) f value) → is_valid (packet_of instances octets parsed standard requests events).state i e ≡ true → packet_of (set instances i new) octets parsed standard requests events ≡ with_state (packet_of instances octets parsed standard requests events) (written (packet_of instances octets parsed standard requests events).state (declared i e f) value)
  number_put instances i e f value d new lt is valid =
      let s = (packet_of instances octets parsed standard requests events).state in
      header_put instances i e d new _ (with_field (header_at s i e) f value) lt is
      (ap (λ (h : Header). with_field h f value) (sym (header_is instances i e d lt)))
      ∙ ap (λ (b : Bool). with_state (packet_of instances octets parsed standard requests events) (cond b (with_header s i e (with_field (header_at s i e) f value)) s)) (sym valid)

  -- with a header that became valid or invalid
  pub valid_put : (instances : List Laid) (i e : ℕ) (valid : Bool) (d new : Laid) → i < length (map shape_of instances) → new ≡ with_element (get_or instances i d) e (cleared valid (element_in (get_or instances i d) e)) → is_same (is_valid (packet_of instances octets parsed standard requests events).state i e) valid ≡ false → packet_of (set instances i new) octets parsed standard requests events ≡ with_state (packet_of instances octets parsed standard requests events) (with_valid (packet_of instances octets parsed standard requests events).state i e valid)
  valid_put instances i e valid d new lt is differs =
      let s = (packet_of instances octets parsed standard requests events).state in
      header_put instances i e d new _ (cleared valid (header_at s i e)) lt is
      (ap (λ (h : Header). cleared valid h) (sym (header_is instances i e d lt)))
      ∙ ap (λ (b : Bool). with_state (packet_of instances octets parsed standard requests events) (cond b s (with_header s i e (cleared valid (header_at s i e))))) (sym differs)

  -- with another place
  pub place_put : (instances : List Laid) (i place : ℕ) (d new : Laid) → i < length (map shape_of instances) → new ≡ with_place_of (get_or instances i d) place → packet_of (set instances i new) octets parsed standard requests events ≡ with_state (packet_of instances octets parsed standard requests events) (with_place (packet_of instances octets parsed standard requests events).state i place)
  place_put instances i place d new lt is =
      replaced instances i d new (record { elements = (get_or (map instance_of instances) i no_instance).elements; place = place })
      (ap shape_of is)
      (ap instance_of is
      ∙ ap (λ (x : Instance). record { elements = x.elements; place = place }) (sym (instance_is instances i d lt)))

  -- with an instance that stays as it was
  unchanged : (instances : List Laid) (i : ℕ) (d new : Laid) → new ≡ get_or instances i d → packet_of (set instances i new) octets parsed standard requests events ≡ packet_of instances octets parsed standard requests events
  unchanged instances i d new is =
      ap (λ (x : Laid). packet_of (set instances i x) octets parsed standard requests events) is
      ∙ ap (λ (l : List Laid). packet_of l octets parsed standard requests events) (set-get_or instances i d)

  -- with another number in a field, valid or not
  number_any : (instances : List Laid) (i e f value : ℕ) (d new : Laid) → i < length (map shape_of instances) → new ≡ put_in (get_or instances i d) e f value → packet_of (set instances i new) octets parsed standard requests events ≡ with_state (packet_of instances octets parsed standard requests events) (written (packet_of instances octets parsed standard requests events).state (declared i e f) value)
  number_any instances i e f value d new lt is = by_valid (element_in x e).valid refl where
    x : Laid
    x = get_or instances i d

    p : Packet
    p = packet_of instances octets parsed standard requests events

    by_valid : (b : Bool) → (element_in x e).valid ≡ b → packet_of (set instances i new) octets parsed standard requests events ≡ with_state p (written p.state (declared i e f) value)
    by_valid true v =
        number_put instances i e f value d new lt (is ∙ ap (λ (b : Bool). cond b (with_element x e (with_field (element_in x e) f value)) x) v)
        (ap (λ (h : Header). h.valid) (header_is instances i e d lt) ∙ v)
    by_valid false v =
        unchanged instances i d new (is ∙ ap (λ (b : Bool). cond b (with_element x e (with_field (element_in x e) f value)) x) v)
        ∙ ap (λ (b : Bool). with_state p (cond b (with_header p.state i e (with_field (header_at p.state i e) f value)) p.state)) (sym (ap (λ (h : Header). h.valid) (header_is instances i e d lt) ∙ v))

  -- with a header that is to be valid or invalid
  valid_any : (instances : List Laid) (i e : ℕ) (valid : Bool) (d new : Laid) → i < length (map shape_of instances) → new ≡ put_valid_in (get_or instances i d) e valid → packet_of (set instances i new) octets parsed standard requests events ≡ with_state (packet_of instances octets parsed standard requests events) (with_valid (packet_of instances octets parsed standard requests events).state i e valid)
  valid_any instances i e valid d new lt is = by_same (is_same (element_in x e).valid valid) refl where
    x : Laid
    x = get_or instances i d

    p : Packet
    p = packet_of instances octets parsed standard requests events

    by_same : (b : Bool) → is_same (element_in x e).valid valid ≡ b → packet_of (set instances i new) octets parsed standard requests events ≡ with_state p (with_valid p.state i e valid)
    by_same true v =
        unchanged instances i d new (is ∙ ap (λ (b : Bool). cond b x (with_element x e (cleared valid (element_in x e)))) v)
        ∙ ap (λ (b : Bool). with_state p (cond b p.state (with_header p.state i e (cleared valid (header_at p.state i e))))) (sym (ap (λ (h : Header). is_same h.valid valid) (header_is instances i e d lt) ∙ v))
    by_same false v =
        valid_put instances i e valid d new lt (is ∙ ap (λ (b : Bool). cond b x (with_element x e (cleared valid (element_in x e)))) v)
        (ap (λ (h : Header). is_same h.valid valid) (header_is instances i e d lt) ∙ v)

  -- The same where the packet is seen as `now`, and the instance that was changed as `old`.

  pub number_seen : (instances : List Laid) (i e f value : ℕ) (old new : Laid) (now : Packet) → packet_of instances octets parsed standard requests events ≡ now → i < length now.layout → old ≡ get_or instances i old → new ≡ put_in old e f value → packet_of (set instances i new) octets parsed standard requests events ≡ with_state now (written now.state (declared i e f) value)
  number_seen instances i e f value old new now view lt there is =
      subst (λ (p : Packet). i < length p.layout → packet_of (set instances i new) octets parsed standard requests events ≡ with_state p (written p.state (declared i e f) value)) view (λ l.
      number_any instances i e f value old new l (is ∙ ap (λ (x : Laid). put_in x e f value) there)) lt

  pub valid_seen : (instances : List Laid) (i e : ℕ) (valid : Bool) (old new : Laid) (now : Packet) → packet_of instances octets parsed standard requests events ≡ now → i < length now.layout → old ≡ get_or instances i old → new ≡ put_valid_in old e valid → packet_of (set instances i new) octets parsed standard requests events ≡ with_state now (with_valid now.state i e valid)
  valid_seen instances i e valid old new now view lt there is =
      subst (λ (p : Packet). i < length p.layout → packet_of (set instances i new) octets parsed standard requests events ≡ with_state p (with_valid p.state i e valid)) view (λ l.
      valid_any instances i e valid old new l (is ∙ ap (λ (x : Laid). put_valid_in x e valid) there)) lt

  pub place_seen : (instances : List Laid) (i place : ℕ) (old new : Laid) (now : Packet) → packet_of instances octets parsed standard requests events ≡ now → i < length now.layout → old ≡ get_or instances i old → new ≡ with_place_of old place → packet_of (set instances i new) octets parsed standard requests events ≡ with_state now (with_place now.state i place)
  place_seen instances i place old new now view lt there is =
      subst (λ (p : Packet). i < length p.layout → packet_of (set instances i new) octets parsed standard requests events ≡ with_state p (with_place p.state i place)) view (λ l.
      place_put instances i place old new l (is ∙ ap (λ (x : Laid). with_place_of x place) there)) lt

  pub fill_seen : (instances : List Laid) (i e : ℕ) (part : List ℕ) (old new : Laid) (now : Packet) → packet_of instances octets parsed standard requests events ≡ now → i < length now.layout → old ≡ get_or instances i old → new ≡ with_element old e (record { valid = true; numbers = numbers_in old.shape.widths (octet_bits part) }) → part ≡ drop parsed octets → packet_of (set instances i new) octets parsed standard requests events ≡ with_state now (with_header now.state i e (record { valid = true; numbers = numbers_in (shape_at now.layout i).widths (octet_bits now.state.unparsed) }))
  fill_seen instances i e part old new now view lt there is rest =
      subst (λ (p : Packet). i < length p.layout → packet_of (set instances i new) octets parsed standard requests events ≡ with_state p (with_header p.state i e (record { valid = true; numbers = numbers_in (shape_at p.layout i).widths (octet_bits p.state.unparsed) }))) view (λ l.
      header_put instances i e old new _ (record { valid = true; numbers = numbers_in (shape_at (map shape_of instances) i).widths (octet_bits (drop parsed octets)) }) l
      (is ∙ ap (λ (x : Laid). with_element x e (record { valid = true; numbers = numbers_in x.shape.widths (octet_bits part) })) there)
      (ap (λ (l : List ℕ). record { valid = true; numbers = numbers_in (get_or instances i old).shape.widths (octet_bits l) }) rest
      ∙ ap (λ (x : Shape). record { valid = true; numbers = numbers_in x.widths (octet_bits (drop parsed octets)) }) (sym (shape_is instances i old l)))) lt

  -- what stands at a number, if anything does
  pub instance_seen : (instances : List Laid) (i : ℕ) (o : Option Laid) (now : Packet) → packet_of instances octets parsed standard requests events ≡ now → slice_get instances i ≡ o → instance_at now.state i ≡ unwrap_or (option_map instance_of o) no_instance
  instance_seen instances i o now view is = ap (λ (p : Packet). instance_at p.state i) (sym view) ∙ got instance_of instances i no_instance o is

  pub shape_seen : (instances : List Laid) (i : ℕ) (o : Option Laid) (now : Packet) → packet_of instances octets parsed standard requests events ≡ now → slice_get instances i ≡ o → shape_at now.layout i ≡ unwrap_or (option_map shape_of o) no_shape
  shape_seen instances i o now view is = ap (λ (p : Packet). shape_at p.layout i) (sym view) ∙ got shape_of instances i no_shape o is

  -- what isn't there gets nothing

  past_in : (instances : List Laid) (i : ℕ) (now : Packet) → packet_of instances octets parsed standard requests events ≡ now → length now.layout ≤ i → length now.state.instances ≤ i
  past_in instances i now view =
      subst (λ (p : Packet). length p.layout ≤ i → length p.state.instances ≤ i) view (λ le.
      rw (length-map instances instance_of) (rw (← length-map instances shape_of) le))

  pub number_nowhere : (instances : List Laid) (i e f value : ℕ) (now : Packet) → packet_of instances octets parsed standard requests events ≡ now → length now.layout ≤ i → now ≡ with_state now (written now.state (declared i e f) value)
  number_nowhere instances i e f value now view le = ap (with_state now) (number_past now.state i e f value (past_in instances i now view le))

  pub valid_nowhere : (instances : List Laid) (i e : ℕ) (on : Bool) (now : Packet) → packet_of instances octets parsed standard requests events ≡ now → length now.layout ≤ i → now ≡ with_state now (with_valid now.state i e on)
  valid_nowhere instances i e on now view le = ap (with_state now) (valid_past now.state i e on (past_in instances i now view le))

  pub place_nowhere : (instances : List Laid) (i place : ℕ) (now : Packet) → packet_of instances octets parsed standard requests events ≡ now → length now.layout ≤ i → now ≡ with_state now (with_place now.state i place)
  place_nowhere instances i place now view le =
      ap (with_state now) (instance_past now.state i (record { elements = (instance_at now.state i).elements; place = place }) (past_in instances i now view le))

  pub header_nowhere : (instances : List Laid) (i e : ℕ) (h : Header) (now : Packet) → packet_of instances octets parsed standard requests events ≡ now → length now.layout ≤ i → now ≡ with_state now (with_header now.state i e h)
  header_nowhere instances i e h now view le =
      ap (with_state now) (instance_past now.state i (record { elements = set (instance_at now.state i).elements e h; place = place_of now.state i }) (past_in instances i now view le))

  -- with all headers invalid
  pub headers_begun : (instances : List Laid) → packet_of (map begun_of instances) octets parsed standard requests events ≡ with_state (packet_of instances octets parsed standard requests events) (with_headers_begun (packet_of instances octets parsed standard requests events))
  headers_begun instances =
      ap₂ (λ (l : List Shape) (x : List Instance). packet_with l x octets parsed standard requests events) (begun_shapes instances) (begun_instances instances)

  pub begun_seen : (instances all : List Laid) (now : Packet) → packet_of instances octets parsed standard requests events ≡ now → all ≡ map begun_of instances → packet_of all octets parsed standard requests events ≡ with_state now (with_headers_begun now)
  begun_seen instances all now view is =
      subst (λ (p : Packet). packet_of all octets parsed standard requests events ≡ with_state p (with_headers_begun p)) view
      (ap (λ (l : List Laid). packet_of l octets parsed standard requests events) is ∙ headers_begun instances)

-- the turn of the loop that makes them so, and its end
pub begun_turn : (xs now : List Laid) (i : ℕ) (x y : Laid) → i < length xs → now ≡ map begun_of (take i xs) ++ drop i xs → x ≡ get_or now i x → y ≡ begun_of x → set now i y ≡ map begun_of (take (i + 1) xs) ++ drop (i + 1) xs
begun_turn xs now i x y inside so_far x_is y_is = rw y_is (map_over_more begun_of xs now i x inside so_far x_is)

pub begun_all_is : (xs now : List Laid) (n : ℕ) → length xs ≤ n → now ≡ map begun_of (take n xs) ++ drop n xs → now ≡ map begun_of xs
begun_all_is xs now n enough done =
    done ∙ ap₂ (λ (front back : List Laid). map begun_of front ++ back) (take_all n xs enough) (drop_all n xs enough) ∙ append-nil (map begun_of xs)

-- a new packet

new_shapes : (layout : List Shape) → map shape_of (map new_laid layout) ≡ layout
new_shapes [] = refl
new_shapes (s ∷ layout) = ap (λ (l : List Shape). s ∷ l) (new_shapes layout)

new_instances : (layout : List Shape) → map instance_of (map new_laid layout) ≡ map blank_of layout
new_instances [] = refl
new_instances (s ∷ layout) = ap (λ (l : List Instance). blank_of s ∷ l) (new_instances layout)

pub new_seen : (layout : List Shape) (instances : List Laid) (kept octets : List ℕ) (events : List Event) (n port kind : ℕ) → instances ≡ map new_laid layout → kept ≡ octets → n ≡ length octets % 2 ^ 32 → events ≡ [] → packet_of instances kept 0 (record { ingress_port = port; egress_spec = 0; egress_port = 0; packet_length = n; instance_type = kind }) (record { clone_i2e = None; clone_e2e = None; resubmit = None; recirculate = None }) events ≡ new_packet layout octets port kind
new_seen layout instances kept octets events n port kind is same long nothing =
    let requests : Requests = record { clone_i2e = None; clone_e2e = None; resubmit = None; recirculate = None } in
    ap (λ (e : List Event). packet_of instances kept 0 (record { ingress_port = port; egress_spec = 0; egress_port = 0; packet_length = n; instance_type = kind }) requests e) nothing
    ∙ ap (λ (l : List Laid). packet_of l kept 0 (record { ingress_port = port; egress_spec = 0; egress_port = 0; packet_length = n; instance_type = kind }) requests []) is
    ∙ ap₂ (λ (l : List Shape) (x : List Instance). packet_with l x kept 0 (record { ingress_port = port; egress_spec = 0; egress_port = 0; packet_length = n; instance_type = kind }) requests []) (new_shapes layout) (new_instances layout)
    ∙ ap₂ (λ (o : List ℕ) (k : ℕ). packet_with layout (map blank_of layout) o 0 (record { ingress_port = port; egress_spec = 0; egress_port = 0; packet_length = k; instance_type = kind }) requests []) same long

-- a packet made new again

pub renewed_turn : (xs now : List Laid) (i : ℕ) (x y : Laid) → i < length xs → now ≡ map renewed_of (take i xs) ++ drop i xs → x ≡ get_or now i x → y ≡ renewed_of x → set now i y ≡ map renewed_of (take (i + 1) xs) ++ drop (i + 1) xs
renewed_turn xs now i x y inside so_far x_is y_is = rw y_is (map_over_more renewed_of xs now i x inside so_far x_is)

renewed_is : (instances : List Laid) → map renewed_of instances ≡ map new_laid (map shape_of instances)
renewed_is [] = refl
renewed_is (x ∷ instances) = ap (λ (l : List Laid). new_laid x.shape ∷ l) (renewed_is instances)

pub renewed_seen : (old instances : List Laid) (kept octets : List ℕ) (events : List Event) (n port kind : ℕ) → instances ≡ map renewed_of old → kept ≡ octets → n ≡ length octets % 2 ^ 32 → events ≡ [] → packet_of instances kept 0 (record { ingress_port = port; egress_spec = 0; egress_port = 0; packet_length = n; instance_type = kind }) (record { clone_i2e = None; clone_e2e = None; resubmit = None; recirculate = None }) events ≡ new_packet (map shape_of old) octets port kind
renewed_seen old instances kept octets events n port kind is same long nothing =
    new_seen (map shape_of old) instances kept octets events n port kind (is ∙ renewed_is old) same long nothing
