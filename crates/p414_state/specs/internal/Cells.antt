-- An instance by its elements, which are packed.
use Rattle.std.specs.Prelude.{◌≡◌, ℕ, ◌-◌, ◌<◌, ◌≤◌, Bool, true, false, if◌then◌else◌, List, ◌++◌, length, map, take, drop, replicate, slice_index, slice_index_or, slice_set, All}
use Rattle.p414_sem.specs.State.{Header, Instance, no_header, with_field, cleared, is_same}
use Rattle.p414_layout.specs.declared.shape.Shape.{Shape}
use Rattle.p414_layout.specs.Shapes.{element_count, last_place, blank_of}
use Rattle.p414_state.specs.Packets.{begun_one}
use Rattle.p414_state.specs.Headers.{Packed, header_in, IsPacked}

-- an instance with what it is made of
pub record Laid : Type 0 where
  pub shape : Shape
  pub instance : Instance

abbrev pub laid : Shape → List Packed → ℕ → Laid
laid shape elements place =
    record { shape = shape; instance = record { elements = map (header_in shape.widths) elements; place = place } }

pub record AreCells (shape : Shape) (elements : List Packed) (place : ℕ) : Type 0 where
  pub count : length elements ≡ element_count shape
  pub each : All (IsPacked shape) elements
  pub within : place ≤ last_place shape

-- the element with this number
abbrev pub element_in : Laid → ℕ → Header
element_in l e = slice_index_or l.instance.elements e no_header

-- the number of a field; 0 where its element is invalid, or where there is no such field
abbrev pub read_in : Laid → ℕ → ℕ → ℕ
read_in l e f = if (element_in l e).valid then slice_index (element_in l e).numbers f else 0

-- another header in the place of an element; nothing where there is no such element
abbrev pub with_element : Laid → ℕ → Header → Laid
with_element l e h = record {
  shape = l.shape;
  instance = record { elements = slice_set l.instance.elements e h; place = l.instance.place };
}

-- a number put into a field of a valid element
abbrev pub put_in : Laid → ℕ → ℕ → ℕ → Laid
put_in l e f n = if (element_in l e).valid then with_element l e (with_field (element_in l e) f n) else l

-- there is such a field, and its element is valid
pub record IsLive (l : Laid) (e f : ℕ) : Type 0 where
  pub element : e < element_count l.shape
  pub field : f < length l.shape.widths
  pub valid : (element_in l e).valid ≡ true

-- else it reads 0 and gets nothing
pub record IsDead (l : Laid) (e f : ℕ) : Type 0 where
  pub reads : 0 ≡ read_in l e f
  pub gets : (n : ℕ) → l ≡ put_in l e f n

-- an element made valid or invalid; where that changes it, its fields become 0
abbrev pub put_valid_in : Laid → ℕ → Bool → Laid
put_valid_in l e valid =
    if is_same (element_in l e).valid valid then l else with_element l e (cleared valid (element_in l e))

abbrev pub with_place_of : Laid → ℕ → Laid
with_place_of l place =
    record { shape = l.shape; instance = record { elements = l.instance.elements; place = place } }

-- all headers invalid, at place 0
abbrev pub begun_of : Laid → Laid
begun_of l = record { shape = l.shape; instance = begun_one l.shape l.instance }

-- an instance in which nothing is parsed
abbrev pub new_laid : Shape → Laid
new_laid shape = record { shape = shape; instance = blank_of shape }

-- the instance in which nothing is parsed that is laid out as one
abbrev pub renewed_of : Laid → Laid
renewed_of l = new_laid l.shape

-- other elements in the place of all
abbrev pub with_all : Laid → List Header → Laid
with_all l headers =
    record { shape = l.shape; instance = record { elements = headers; place = l.instance.place } }

-- an element that is valid or not, with all bits 0
abbrev pub emptied : Bool → Packed → Packed
emptied valid p = record { valid = valid; octets = replicate (length p.octets) 0 }

-- elements of which so many from the first on are made so
abbrev pub first_emptied : Bool → ℕ → List Packed → List Packed
first_emptied valid count elements = map (emptied valid) (take count elements) ++ drop count elements

-- elements moved up by so many, of which the first ones become valid with all bits 0; and moved down, of which the last ones
-- become invalid
abbrev pub raised : ℕ → List Packed → List Packed
raised count elements =
    first_emptied true count (drop (length elements - count) elements ++ take (length elements - count) elements)

abbrev pub lowered : ℕ → List Packed → List Packed
lowered count elements =
    let cleared = first_emptied false count elements in drop count cleared ++ take count cleared
