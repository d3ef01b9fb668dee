-- The elements of an instance, packed.
use Rattle.std.proofs.Common.{◌≡◌, ℕ, zero, suc, ◌+◌, ◌*◌, ◌/◌, ◌^◌, ◌<◌, ◌≤◌, Bool, true, false, List, [], ◌∷◌, ◌++◌, length, take, drop, map, get_or, set, replicate, cond, subst, refl, sym, ap, ap₂, ◌∙◌, ⊎_elim, nat_lt, MatchBool, arith, slice_get, Option, Some, None, option_map}
use Rattle.std.specs.Prelude.{unwrap_or}
use Rattle.std.specs.List.{All}
use Rattle.std.proofs.lemmas.Bool.{cases_lt}
use Rattle.std.proofs.lemmas.Bool.Decides.{nat_tests}
use Rattle.std.proofs.lemmas.Option.{slice_get-map, unwrap_or-slice_get}
use Rattle.std.proofs.lemmas.List.{get_or-map, get_or_past, map-set, set_past, set-get_or, length-set, length-map, length-replicate, append-nil, take_all, drop_all}
use Rattle.std.proofs.lemmas.List.Edits.{map_over_more}
use Rattle.std.proofs.lemmas.List.Elements.{All-set}
use Rattle.p4x_bits.specs.BitLists.{num, octet_bits}
use Rattle.p4x_bits.proofs.BitLists.{length-octet_bits}
use Rattle.p4x_bits.proofs.Windows.{written}
use Rattle.p414_sem.specs.State.{Header, no_header, with_field, cleared, blank}
use Rattle.p414_sem.specs.Packing.{numbers_in}
use Rattle.p414_layout.specs.declared.shape.Shape.{Shape}
use Rattle.p414_layout.specs.Placed.{total, octets_for, bits_before}
use Rattle.p414_layout.specs.Shapes.{element_count}
use Rattle.p414_state.specs.Headers.{Packed, header_in, IsPacked}
use Rattle.p414_state.specs.internal.Cells.{Laid, laid, element_in, IsLive, IsDead, read_in, put_in, with_element, begun_of, emptied, first_emptied, AreCells}
use Rattle.p414_state.proofs.Numbers.{length-numbers_in, number_at, number_fits, number_put, numbers_of_octets, numbers_of_zeros}

-- the element with a number
pub element_is : (shape : Shape) (elements : List Packed) (place e : ℕ) (d : Packed) → e < length elements → element_in (laid shape elements place) e ≡ header_in shape.widths (get_or elements e d)
element_is shape elements place e d lt = get_or-map (header_in shape.widths) elements e d no_header lt

pub packed_at : (shape : Shape) (elements : List Packed) (place e : ℕ) (d : Packed) → AreCells shape elements place → e < element_count shape → IsPacked shape (get_or elements e d)
packed_at shape elements place e d cells lt = cells.each e d (rw cells.count lt)

-- a field lies within the octets
pub within_room : (shape : Shape) (p : Packed) (end : ℕ) → IsPacked shape p → end ≤ total shape.widths → end ≤ 8 * length p.octets
within_room shape p end packed le = let room : length p.octets ≡ (total shape.widths + 7) / 8 = packed.room in omega arith

-- the number of a field
pub number_is : (shape : Shape) (elements : List Packed) (place e f : ℕ) (d : Packed) (at width number : ℕ) → e < length elements → f < length shape.widths → at ≡ bits_before shape.widths f → width ≡ get_or shape.widths f 0 → number ≡ num (take width (drop at (octet_bits (get_or elements e d).octets))) → number ≡ get_or (element_in (laid shape elements place) e).numbers f 0
number_is shape elements place e f d at width number lt field begins wide is =
    is
    ∙ ap (λ (w : ℕ). num (take w (drop at (octet_bits (get_or elements e d).octets)))) wide
    ∙ ap (λ (a : ℕ). num (take (get_or shape.widths f 0) (drop a (octet_bits (get_or elements e d).octets)))) begins
    ∙ sym (number_at shape.widths (octet_bits (get_or elements e d).octets) f field)
    ∙ ap (λ (h : Header). get_or h.numbers f 0) (sym (element_is shape elements place e d lt))

pub number_below : (shape : Shape) (elements : List Packed) (place e f : ℕ) (d : Packed) (at width number : ℕ) → e < length elements → f < length shape.widths → at ≡ bits_before shape.widths f → width ≡ get_or shape.widths f 0 → number ≡ num (take width (drop at (octet_bits (get_or elements e d).octets))) → number < 2 ^ get_or shape.widths f 0
number_below shape elements place e f d at width number lt field begins wide is =
    rw (number_is shape elements place e f d at width number lt field begins wide is)
    (rw (element_is shape elements place e d lt) (number_fits shape.widths (octet_bits (get_or elements e d).octets) f field))

-- another element in the place of one
pub cells_set : (shape : Shape) (elements : List Packed) (place e : ℕ) (new : Packed) → AreCells shape elements place → IsPacked shape new → AreCells shape (set elements e new) place
cells_set shape elements place e new cells packed = record {
  count = length-set elements e new ∙ cells.count;
  each = All-set (IsPacked shape) elements e new packed cells.each;
  within = cells.within;
}

pub set_is : (shape : Shape) (elements : List Packed) (place e : ℕ) (new : Packed) (h : Header) → header_in shape.widths new ≡ h → laid shape (set elements e new) place ≡ with_element (laid shape elements place) e h
set_is shape elements place e new h is =
    ap (λ (l : List Header). record { shape = shape; instance = record { elements = l; place = place } })
    (map-set (header_in shape.widths) elements e new ∙ ap (λ (x : Header). set (map (header_in shape.widths) elements) e x) is)

-- a number put into a field

pub packed_put : (shape : Shape) (old new : Packed) → IsPacked shape old → old.valid ≡ true → new.valid ≡ old.valid → length new.octets ≡ length old.octets → IsPacked shape new
packed_put shape old new packed valid same room = record {
  room = room ∙ packed.room;
  zeros = λ invalid. absurd (cc (sym invalid ∙ same ∙ valid));
  metadata = λ m. same ∙ packed.metadata m;
}

field_put : (widths : List ℕ) (old new : Packed) (f at width value : ℕ) → f < length widths → at ≡ bits_before widths f → width ≡ get_or widths f 0 → at + width ≤ 8 * length old.octets → value < 2 ^ width → new.valid ≡ old.valid → octet_bits new.octets ≡ written at width value (octet_bits old.octets) → header_in widths new ≡ with_field (header_in widths old) f value
field_put widths old new f at width value field begins wide le fits same bits =
    let long : length (octet_bits old.octets) ≡ 8 * length old.octets = length-octet_bits old.octets in
    let numbers : numbers_in widths (octet_bits new.octets) ≡ set (numbers_in widths (octet_bits old.octets)) f value =
    ap (numbers_in widths) bits
    ∙ ap (λ (w : ℕ). numbers_in widths (written at w value (octet_bits old.octets))) wide
    ∙ ap (λ (a : ℕ). numbers_in widths (written a (get_or widths f 0) value (octet_bits old.octets))) begins
    ∙ number_put widths (octet_bits old.octets) f value field (omega arith) (rw (← wide) fits) in
    ap (λ (v : Bool). record { valid = v; numbers = numbers_in widths (octet_bits new.octets) }) same
    ∙ ap (λ (l : List ℕ). record { valid = old.valid; numbers = l }) numbers

pub put_is : (shape : Shape) (elements : List Packed) (place e f : ℕ) (d new : Packed) (at width value : ℕ) → e < length elements → f < length shape.widths → at ≡ bits_before shape.widths f → width ≡ get_or shape.widths f 0 → at + width ≤ 8 * length (get_or elements e d).octets → value < 2 ^ width → new.valid ≡ (get_or elements e d).valid → octet_bits new.octets ≡ written at width value (octet_bits (get_or elements e d).octets) → laid shape (set elements e new) place ≡ with_element (laid shape elements place) e (with_field (element_in (laid shape elements place) e) f value)
put_is shape elements place e f d new at width value lt field begins wide le fits same bits =
    set_is shape elements place e new (with_field (element_in (laid shape elements place) e) f value)
    (field_put shape.widths (get_or elements e d) new f at width value field begins wide le fits same bits
    ∙ ap (λ (h : Header). with_field h f value) (sym (element_is shape elements place e d lt)))

-- an element made valid or invalid, with all fields 0

pub packed_clear : (shape : Shape) (old : Packed) (valid : Bool) → IsPacked shape old → shape.metadata ≡ false → IsPacked shape (record { valid = valid; octets = replicate (length old.octets) 0 })
packed_clear shape old valid packed header = record {
  room = length-replicate (length old.octets) 0 ∙ packed.room;
  zeros = λ _. ap (λ (n : ℕ). replicate n 0) packed.room;
  metadata = λ m. absurd (cc (sym header ∙ m));
}

pub clear_is : (shape : Shape) (elements : List Packed) (place e : ℕ) (d : Packed) (valid : Bool) → e < length elements → laid shape (set elements e (record { valid = valid; octets = replicate (length (get_or elements e d).octets) 0 })) place ≡ with_element (laid shape elements place) e (cleared valid (element_in (laid shape elements place) e))
clear_is shape elements place e d valid lt =
    let old = get_or elements e d in
    let many : length (element_in (laid shape elements place) e).numbers ≡ length shape.widths =
    ap (λ (h : Header). length h.numbers) (element_is shape elements place e d lt) ∙ length-numbers_in shape.widths (octet_bits old.octets) in
    set_is shape elements place e (record { valid = valid; octets = replicate (length old.octets) 0 }) (cleared valid (element_in (laid shape elements place) e))
    (ap (λ (l : List ℕ). record { valid = valid; numbers = l }) (numbers_of_zeros shape.widths (length old.octets) ∙ ap (λ (n : ℕ). replicate n 0) (sym many)))

-- an element filled with the front of octets

pub packed_fill : (shape : Shape) (octets : List ℕ) → length octets ≡ octets_for (total shape.widths) → IsPacked shape (record { valid = true; octets = octets })
packed_fill shape octets room = record { room = room; zeros = λ e. absurd (cc e); metadata = λ _. refl }

pub fill_is : (shape : Shape) (elements : List Packed) (place e : ℕ) (octets : List ℕ) → laid shape (set elements e (record { valid = true; octets = take (octets_for (total shape.widths)) octets })) place ≡ with_element (laid shape elements place) e (record { valid = true; numbers = numbers_in shape.widths (octet_bits octets) })
fill_is shape elements place e octets =
    let n = octets_for (total shape.widths) in
    let le : total shape.widths ≤ 8 * ((total shape.widths + 7) / 8) = omega arith in
    set_is shape elements place e (record { valid = true; octets = take n octets }) (record { valid = true; numbers = numbers_in shape.widths (octet_bits octets) })
    (ap (λ (l : List ℕ). record { valid = true; numbers = l }) (numbers_of_octets shape.widths n octets le))

-- a new instance

map_replicate : (f : Packed → Header) (n : ℕ) (p : Packed) → map f (replicate n p) ≡ replicate n (f p)
map_replicate f zero p = refl
map_replicate f (suc n) p = ap (λ (l : List Header). f p ∷ l) (map_replicate f n p)

each_of : (P : Packed → Type 0) (n : ℕ) (p : Packed) → P p → All P (replicate n p)
each_of P zero p h = λ k d lt. absurd (omega arith)
each_of P (suc n) p h = λ k d lt. at (each_of P n p h) k d lt where
  at : All P (replicate n p) → (k : ℕ) (d : Packed) → k < length (replicate (suc n) p) → P (get_or (replicate (suc n) p) k d)
  at rest zero d lt = h
  at rest (suc k) d lt = rest k d (omega arith)

pub new_cells : (shape : Shape) → AreCells shape (replicate (element_count shape) (record { valid = shape.metadata; octets = replicate (octets_for (total shape.widths)) 0 })) 0
new_cells shape = record {
  count = length-replicate (element_count shape) (record { valid = shape.metadata; octets = replicate (octets_for (total shape.widths)) 0 });
  each = each_of (IsPacked shape) (element_count shape) (record { valid = shape.metadata; octets = replicate (octets_for (total shape.widths)) 0 })
      (record { room = length-replicate (octets_for (total shape.widths)) 0; zeros = λ _. refl; metadata = λ m. m });
  within = omega arith;
}

pub new_is : (shape : Shape) → laid shape (replicate (element_count shape) (record { valid = shape.metadata; octets = replicate (octets_for (total shape.widths)) 0 })) 0 ≡ record { shape = shape; instance = record { elements = replicate (element_count shape) (blank shape.metadata (length shape.widths)); place = 0 } }
new_is shape =
    let p : Packed = record { valid = shape.metadata; octets = replicate (octets_for (total shape.widths)) 0 } in
    ap (λ (l : List Header). record { shape = shape; instance = record { elements = l; place = 0 } })
    (map_replicate (header_in shape.widths) (element_count shape) p
    ∙ ap (λ (l : List ℕ). replicate (element_count shape) (record { valid = shape.metadata; numbers = l })) (numbers_of_zeros shape.widths (octets_for (total shape.widths))))

-- all elements made invalid

pub emptied_turn : (valid : Bool) (xs now : List Packed) (i : ℕ) (x y : Packed) → i < length xs → now ≡ first_emptied valid i xs → x ≡ get_or now i x → y ≡ record { valid = valid; octets = replicate (length x.octets) 0 } → set now i y ≡ first_emptied valid (i + 1) xs
emptied_turn valid xs now i x y inside so_far x_is y_is = rw y_is (map_over_more (emptied valid) xs now i x inside so_far x_is)

pub emptied_all : (xs now : List Packed) (n : ℕ) → length xs ≤ n → now ≡ first_emptied false n xs → now ≡ map (emptied false) xs
emptied_all xs now n enough done =
    done ∙ ap₂ (λ (front back : List Packed). map (emptied false) front ++ back) (take_all n xs enough) (drop_all n xs enough) ∙ append-nil (map (emptied false) xs)

emptied_header : (widths : List ℕ) (p : Packed) → header_in widths (emptied false p) ≡ cleared false (header_in widths p)
emptied_header widths p =
    ap (λ (l : List ℕ). record { valid = false; numbers = l })
    (numbers_of_zeros widths (length p.octets) ∙ ap (λ (n : ℕ). replicate n 0) (sym (length-numbers_in widths (octet_bits p.octets))))

emptied_headers : (widths : List ℕ) (elements : List Packed) → map (header_in widths) (map (emptied false) elements) ≡ map (cleared false) (map (header_in widths) elements)
emptied_headers widths [] = refl
emptied_headers widths (p ∷ elements) = ap₂ (λ (h : Header) (l : List Header). h ∷ l) (emptied_header widths p) (emptied_headers widths elements)

pub begun_is : (shape : Shape) (elements : List Packed) (place : ℕ) → shape.metadata ≡ false → laid shape (map (emptied false) elements) 0 ≡ begun_of (laid shape elements place)
begun_is shape elements place header =
    ap (λ (l : List Header). record { shape = shape; instance = record { elements = l; place = 0 } }) (emptied_headers shape.widths elements)
    ∙ ap (λ (b : Bool). record { shape = shape; instance = cond b (laid shape elements place).instance (record { elements = map (cleared false) (map (header_in shape.widths) elements); place = 0 }) }) (sym header)

pub emptied_each : (shape : Shape) (valid : Bool) (elements : List Packed) → shape.metadata ≡ false → All (IsPacked shape) elements → All (IsPacked shape) (map (emptied valid) elements)
emptied_each shape valid elements header each = λ k d lt.
    let inside : k < length elements = rw (← length-map elements (emptied valid)) lt in
    subst (IsPacked shape) (sym (get_or-map (emptied valid) elements k d d inside)) (packed_clear shape (get_or elements k d) valid (each k d inside) header)

pub begun_cells : (shape : Shape) (elements : List Packed) (place : ℕ) → shape.metadata ≡ false → AreCells shape elements place → AreCells shape (map (emptied false) elements) 0
begun_cells shape elements place header cells = record {
  count = length-map elements (emptied false) ∙ cells.count;
  each = emptied_each shape false elements header cells.each;
  within = omega arith;
}

-- what was made as the shape says
pub made : (shape : Shape) (elements : List Packed) (n m : ℕ) → n ≡ element_count shape → m ≡ octets_for (total shape.widths) → elements ≡ replicate n (record { valid = shape.metadata; octets = replicate m 0 }) → elements ≡ replicate (element_count shape) (record { valid = shape.metadata; octets = replicate (octets_for (total shape.widths)) 0 })
made shape elements n m many room is =
    is
    ∙ ap (λ (k : ℕ). replicate k (record { valid = shape.metadata; octets = replicate m 0 })) many
    ∙ ap (λ (k : ℕ). replicate (element_count shape) (record { valid = shape.metadata; octets = replicate k 0 })) room

pub made_is : (shape : Shape) (elements : List Packed) (n m : ℕ) → n ≡ element_count shape → m ≡ octets_for (total shape.widths) → elements ≡ replicate n (record { valid = shape.metadata; octets = replicate m 0 }) → laid shape elements 0 ≡ record { shape = shape; instance = record { elements = replicate (element_count shape) (blank shape.metadata (length shape.widths)); place = 0 } }
made_is shape elements n m many room is =
    ap (λ (l : List Packed). laid shape l 0) (made shape elements n m many room is) ∙ new_is shape

pub made_cells : (shape : Shape) (elements : List Packed) (n m : ℕ) → n ≡ element_count shape → m ≡ octets_for (total shape.widths) → elements ≡ replicate n (record { valid = shape.metadata; octets = replicate m 0 }) → AreCells shape elements 0
made_cells shape elements n m many room is =
    rw (made shape elements n m many room is) (new_cells shape)

-- all elements made as those of an instance in which nothing is parsed

emptied_alike : (valid : Bool) (room : ℕ) (elements : List Packed) → All (λ (p : Packed). length p.octets ≡ room) elements → map (emptied valid) elements ≡ replicate (length elements) (record { valid = valid; octets = replicate room 0 })
emptied_alike valid room [] each = refl
emptied_alike valid room (p ∷ elements) each =
    ap₂ (λ (q : Packed) (l : List Packed). q ∷ l) (ap (λ (n : ℕ). record { valid = valid; octets = replicate n 0 }) (each 0 p (omega arith)))
    (emptied_alike valid room elements (λ k d lt. each (suc k) d (omega arith)))

pub renewed : (shape : Shape) (elements all : List Packed) (place n : ℕ) → AreCells shape elements place → length elements ≤ n → all ≡ first_emptied shape.metadata n elements → all ≡ replicate (element_count shape) (record { valid = shape.metadata; octets = replicate (octets_for (total shape.widths)) 0 })
renewed shape elements all place n cells enough done =
    done
    ∙ ap₂ (λ (front back : List Packed). map (emptied shape.metadata) front ++ back) (take_all n elements enough) (drop_all n elements enough)
    ∙ append-nil (map (emptied shape.metadata) elements)
    ∙ emptied_alike shape.metadata (octets_for (total shape.widths)) elements (λ k d lt. (cells.each k d lt).room)
    ∙ ap (λ (k : ℕ). replicate k (record { valid = shape.metadata; octets = replicate (octets_for (total shape.widths)) 0 })) cells.count

-- elements and fields that may not be there

-- what stands at a number in a list whose items were turned into others
pub got : {X Y : Type 0} (f : X → Y) (xs : List X) (i : ℕ) (d : Y) (o : Option X) → slice_get xs i ≡ o → get_or (map f xs) i d ≡ unwrap_or (option_map f o) d
got f xs i d o is =
    sym (unwrap_or-slice_get (map f xs) i d)
    ∙ ap (λ (q : Option _). unwrap_or q d) (slice_get-map f xs i ∙ ap (option_map f) is)

element_past : (shape : Shape) (elements : List Packed) (place e : ℕ) → length elements ≤ e → element_in (laid shape elements place) e ≡ no_header
element_past shape elements place e le =
    get_or_past (map (header_in shape.widths) elements) e no_header (rw (length-map elements (header_in shape.widths)) le)

-- a valid element is there
inside : (shape : Shape) (elements : List Packed) (place e : ℕ) → (element_in (laid shape elements place) e).valid ≡ true → e < length elements
inside shape elements place e valid =
    ⊎_elim (λ lt. lt) (λ le. absurd (cc (sym (ap (λ (h : Header). h.valid) (element_past shape elements place e le)) ∙ valid))) (cases_lt e (length elements))

-- a field of a valid element that isn't live has a number past all others
field_past : (shape : Shape) (elements : List Packed) (place e f : ℕ) → AreCells shape elements place → (IsLive (laid shape elements place) e f → ⊥) → (element_in (laid shape elements place) e).valid ≡ true → length (element_in (laid shape elements place) e).numbers ≤ f
field_past shape elements place e f cells never valid =
    let there : e < length elements = inside shape elements place e valid in
    let many : length (element_in (laid shape elements place) e).numbers ≡ length shape.widths =
    ap (λ (h : Header). length h.numbers) (element_is shape elements place e (record { valid = false; octets = [] }) there)
    ∙ length-numbers_in shape.widths (octet_bits (get_or elements e (record { valid = false; octets = [] })).octets) in
    rw many (⊎_elim
    (λ lt. absurd (never (record { element = rw (← cells.count) there; field = lt; valid = valid })))
    (λ le. le)
    (cases_lt f (length shape.widths)))

absent_read : (shape : Shape) (elements : List Packed) (place e f : ℕ) → AreCells shape elements place → (IsLive (laid shape elements place) e f → ⊥) → 0 ≡ read_in (laid shape elements place) e f
absent_read shape elements place e f cells never = by_valid (element_in (laid shape elements place) e).valid refl where
  by_valid : (b : Bool) → (element_in (laid shape elements place) e).valid ≡ b → 0 ≡ read_in (laid shape elements place) e f
  by_valid false is = ap (λ (b : Bool). cond b (get_or (element_in (laid shape elements place) e).numbers f 0) 0) (sym is)
  by_valid true is =
      sym (get_or_past (element_in (laid shape elements place) e).numbers f 0 (field_past shape elements place e f cells never is))
      ∙ ap (λ (b : Bool). cond b (get_or (element_in (laid shape elements place) e).numbers f 0) 0) (sym is)

absent_put : (shape : Shape) (elements : List Packed) (place e f value : ℕ) → AreCells shape elements place → (IsLive (laid shape elements place) e f → ⊥) → laid shape elements place ≡ put_in (laid shape elements place) e f value
absent_put shape elements place e f value cells never = by_valid (element_in (laid shape elements place) e).valid refl where
  put : Laid
  put = with_element (laid shape elements place) e (with_field (element_in (laid shape elements place) e) f value)

  by_valid : (b : Bool) → (element_in (laid shape elements place) e).valid ≡ b → laid shape elements place ≡ cond (element_in (laid shape elements place) e).valid put (laid shape elements place)
  by_valid false is = ap (λ (b : Bool). cond b put (laid shape elements place)) (sym is)
  by_valid true is =
      let h = element_in (laid shape elements place) e in
      let same : put ≡ laid shape elements place =
      ap (λ (l : List ℕ). with_element (laid shape elements place) e (record { valid = h.valid; numbers = l })) (set_past h.numbers f value (field_past shape elements place e f cells never is))
      ∙ ap (λ (l : List Header). record { shape = shape; instance = record { elements = l; place = place } }) (set-get_or (map (header_in shape.widths) elements) e no_header) in
      sym same ∙ ap (λ (b : Bool). cond b put (laid shape elements place)) (sym is)

-- a number of a live field, read and put

pub live_read : (l : Laid) (e f n : ℕ) → IsLive l e f → n ≡ get_or (element_in l e).numbers f 0 → n ≡ read_in l e f
live_read l e f n live is = is ∙ ap (λ (b : Bool). cond b (get_or (element_in l e).numbers f 0) 0) (sym live.valid)

pub live_put : (l new : Laid) (e f value : ℕ) → IsLive l e f → new ≡ with_element l e (with_field (element_in l e) f value) → new ≡ put_in l e f value
live_put l new e f value live is =
    is ∙ ap (λ (b : Bool). cond b (with_element l e (with_field (element_in l e) f value)) l) (sym live.valid)

-- What the calls of an instance leave, where it is seen as `now`.

module _ (shape : Shape) (elements : List Packed) (place : ℕ) where
  pub number_seen : (e f : ℕ) (old : Packed) (at width number : ℕ) (now : Laid) → laid shape elements place ≡ now → AreCells shape elements place → e < element_count now.shape → f < length now.shape.widths → at ≡ bits_before shape.widths f → width ≡ get_or shape.widths f 0 → old ≡ get_or elements e old → number ≡ num (take width (drop at (octet_bits old.octets))) → (number ≡ get_or (element_in now e).numbers f 0) × (number < 2 ^ get_or now.shape.widths f 0)
  number_seen e f old at width number now view cells lt field begins wide there is =
      subst (λ (n : Laid). e < element_count n.shape → f < length n.shape.widths → (number ≡ get_or (element_in n e).numbers f 0) × (number < 2 ^ get_or n.shape.widths f 0)) view (λ l g.
      let inside : e < length elements = rw cells.count l in
      let told : number ≡ num (take width (drop at (octet_bits (get_or elements e old).octets))) = is ∙ ap (λ (p : Packed). num (take width (drop at (octet_bits p.octets)))) there in
      (number_is shape elements place e f old at width number inside g begins wide told, number_below shape elements place e f old at width number inside g begins wide told)) lt field

  pub put_seen : (e f value : ℕ) (old new : Packed) (at width : ℕ) (now : Laid) → laid shape elements place ≡ now → AreCells shape elements place → e < element_count now.shape → f < length now.shape.widths → value < 2 ^ get_or now.shape.widths f 0 → at ≡ bits_before shape.widths f → width ≡ get_or shape.widths f 0 → at + width ≤ total shape.widths → old ≡ get_or elements e old → new.valid ≡ old.valid → octet_bits new.octets ≡ written at width value (octet_bits old.octets) → laid shape (set elements e new) place ≡ with_element now e (with_field (element_in now e) f value)
  put_seen e f value old new at width now view cells lt field fits begins wide within there same bits =
      subst (λ (n : Laid). e < element_count n.shape → f < length n.shape.widths → value < 2 ^ get_or n.shape.widths f 0 → laid shape (set elements e new) place ≡ with_element n e (with_field (element_in n e) f value)) view (λ l g v.
      put_is shape elements place e f old new at width value (rw cells.count l) g begins wide
      (within_room shape (get_or elements e old) (at + width) (packed_at shape elements place e old cells l) within)
      (rw wide v) (same ∙ ap (λ (p : Packed). p.valid) there) (bits ∙ ap (λ (p : Packed). written at width value (octet_bits p.octets)) there)) lt field fits

  pub clear_seen : (e : ℕ) (valid : Bool) (old new : Packed) (now : Laid) → laid shape elements place ≡ now → AreCells shape elements place → e < element_count now.shape → old ≡ get_or elements e old → new ≡ record { valid = valid; octets = replicate (length old.octets) 0 } → laid shape (set elements e new) place ≡ with_element now e (cleared valid (element_in now e))
  clear_seen e valid old new now view cells lt there is =
      subst (λ (n : Laid). e < element_count n.shape → laid shape (set elements e new) place ≡ with_element n e (cleared valid (element_in n e))) view (λ l.
      ap (λ (p : Packed). laid shape (set elements e p) place) (is ∙ ap (λ (p : Packed). record { valid = valid; octets = replicate (length p.octets) 0 }) there)
      ∙ clear_is shape elements place e old valid (rw cells.count l)) lt

  pub fill_seen : (e room : ℕ) (octets part : List ℕ) (new : Packed) (now : Laid) → laid shape elements place ≡ now → room ≡ octets_for (total shape.widths) → new ≡ record { valid = true; octets = part } → part ≡ take room octets → laid shape (set elements e new) place ≡ with_element now e (record { valid = true; numbers = numbers_in now.shape.widths (octet_bits octets) })
  fill_seen e room octets part new now view wide is front =
      subst (λ (n : Laid). laid shape (set elements e new) place ≡ with_element n e (record { valid = true; numbers = numbers_in n.shape.widths (octet_bits octets) })) view
      (ap (λ (p : Packed). laid shape (set elements e p) place) (is ∙ ap (λ (l : List ℕ). record { valid = true; octets = l }) (front ∙ ap (λ (n : ℕ). take n octets) wide))
      ∙ fill_is shape elements place e octets)

  pub valid_seen : (e : ℕ) (o : Option Packed) (now : Laid) → laid shape elements place ≡ now → slice_get elements e ≡ o → unwrap_or (option_map (λ (p : Packed). p.valid) o) false ≡ (element_in now e).valid
  valid_seen e o now view is = by_option o is ∙ ap (λ (l : Laid). (element_in l e).valid) view where
    by_option : (o : Option Packed) → slice_get elements e ≡ o → unwrap_or (option_map (λ (p : Packed). p.valid) o) false ≡ (element_in (laid shape elements place) e).valid
    by_option (Some p) is = ap (λ (h : Header). h.valid) (sym (got (header_in shape.widths) elements e no_header (Some p) is))
    by_option None is = ap (λ (h : Header). h.valid) (sym (got (header_in shape.widths) elements e no_header None is))

  pub dead_seen : (e f : ℕ) (now : Laid) → laid shape elements place ≡ now → AreCells shape elements place → (IsLive now e f → ⊥) → IsDead now e f
  dead_seen e f now view cells =
      subst (λ (n : Laid). (IsLive n e f → ⊥) → IsDead n e f) view (λ never. record {
        reads = absent_read shape elements place e f cells never;
        gets = λ n. absent_put shape elements place e f n cells never;
      })

  pub live_or_dead : (e f n : ℕ) (now : Laid) → laid shape elements place ≡ now → AreCells shape elements place → (element_in now e).valid ≡ true → n ≡ length shape.widths → MatchBool (nat_lt f n) (IsLive now e f) (IsDead now e f)
  live_or_dead e f n now view cells valid many = by_test (nat_lt f n) refl where
    here : (element_in (laid shape elements place) e).valid ≡ true
    here = ap (λ (l : Laid). (element_in l e).valid) view ∙ valid

    wide : (b : Bool) → nat_lt f n ≡ b → MatchBool b (f < length now.shape.widths) (length now.shape.widths ≤ f)
    wide true is = rw (← view, ← many) (grind (arith, nat_tests))
    wide false is = rw (← view, ← many) (grind (arith, nat_tests))

    by_test : (b : Bool) → nat_lt f n ≡ b → MatchBool b (IsLive now e f) (IsDead now e f)
    by_test true is = record {
      element = rw (← view, ← cells.count) (inside shape elements place e here);
      field = wide true is;
      valid = valid;
    }
    by_test false is = dead_seen e f now view cells (λ live. let field : f < length now.shape.widths = live.field in let past : length now.shape.widths ≤ f = wide false is in absurd (omega arith))

  -- an element that isn't there gets nothing
  pub past_seen : (e : ℕ) (h : Header) (now : Laid) → laid shape elements place ≡ now → AreCells shape elements place → element_count now.shape ≤ e → now ≡ with_element now e h
  past_seen e h now view cells past =
      subst (λ (n : Laid). element_count n.shape ≤ e → n ≡ with_element n e h) view (λ le.
      ap (λ (l : List Header). record { shape = shape; instance = record { elements = l; place = place } })
      (sym (set_past (map (header_in shape.widths) elements) e h (rw (length-map elements (header_in shape.widths), cells.count) le)))) past

  pub begun_seen : (now : Laid) (all : List Packed) → laid shape elements place ≡ now → shape.metadata ≡ false → all ≡ map (emptied false) elements → laid shape all 0 ≡ begun_of now
  begun_seen now all view header is =
      ap (λ (l : List Packed). laid shape l 0) is ∙ begun_is shape elements place header ∙ ap begun_of view
