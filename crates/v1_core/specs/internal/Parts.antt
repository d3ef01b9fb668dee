-- A layout and a frame by their parts.
use Rattle.std.specs.Prelude.{◌≡◌, ℕ, ◌<◌, ◌≤◌, Bool, false, List, length, slice_index, slice_index_or, Option, Some, None, All}
use Rattle.fabric.specs.declared.items.Event.{Event}
use Rattle.fabric.specs.declared.items.RequestKind.{RequestKind}
use Rattle.fabric.specs.declared.items.RequestKind.TheVariants.{CloneI2E, CloneE2E, Resubmit, Recirculate}
use Rattle.v1_core.specs.Frames.{Request}
use Rattle.v1_core.specs.declared.layout.HeaderSlots.{HeaderSlots}
use Rattle.v1_core.specs.declared.requests.Requests.{Requests}
use Rattle.v1_core.specs.Layouts.{Layout, no_slots}
use Rattle.v1_core.specs.Cells.{Cells, is_live, AreWhole}

abbrev pub layout_with : List ℕ → List (Option ℕ) → List HeaderSlots → List ℕ → Layout
layout_with widths owners headers sizes =
    record { widths = widths; owners = owners; headers = headers; sizes = sizes }

abbrev pub cells_with : Layout → List ℕ → List Bool → List ℕ → Requests → List Event → Cells
cells_with layout numbers valids places requests events = record {
  layout = layout;
  numbers = numbers;
  valids = valids;
  places = places;
  clone_i2e = requests.clone_i2e;
  clone_e2e = requests.clone_e2e;
  resubmit = requests.resubmit;
  recirculate = requests.recirculate;
  events = events;
}

abbrev pub request_in : Requests → RequestKind → Option Request
request_in r CloneI2E = r.clone_i2e
request_in r CloneE2E = r.clone_e2e
request_in r Resubmit = r.resubmit
request_in r Recirculate = r.recirculate

abbrev pub with_request_in : Requests → RequestKind → Option Request → Requests
with_request_in r CloneI2E request = record r { clone_i2e = request }
with_request_in r CloneE2E request = record r { clone_e2e = request }
with_request_in r Resubmit request = record r { resubmit = request }
with_request_in r Recirculate request = record r { recirculate = request }

-- the slots of a header are among so many
pub record AreWithin (count : ℕ) (s : HeaderSlots) : Type 0 where
  pub order : s.from ≤ s.to
  pub within : s.to ≤ count

-- a slot is among those of a header that is there
pub record IsOwned (headers : List HeaderSlots) (slot header : ℕ) : Type 0 where
  pub there : header < length headers
  pub from : (slice_index_or headers header no_slots).from ≤ slot
  pub to : slot < (slice_index_or headers header no_slots).to

abbrev pub AreOwned : List (Option ℕ) → List HeaderSlots → Type 0
AreOwned owners headers =
    (slot header : ℕ) → slice_index_or owners slot None ≡ Some header → IsOwned headers slot header

-- and each slot of a header that tells its header tells this one
abbrev pub AreFields : List (Option ℕ) → List HeaderSlots → Type 0
AreFields owners headers =
    (slot header : ℕ) → header < length headers → (slice_index_or headers header no_slots).from ≤ slot → slot < (slice_index_or headers header no_slots).to → slot < length owners → slice_index_or owners slot None ≡ Some header

-- no slot has more than 128 bits, and what is a field of a header is among its slots; after want of memory, owners may lack
pub record AreParts (widths : List ℕ) (owners : List (Option ℕ)) (headers : List HeaderSlots) : Type 0 where
  pub narrow : All (λ width. width ≤ 128) widths
  pub slots : All (AreWithin (length widths)) headers
  pub owned : AreOwned owners headers
  pub fields : AreFields owners headers

-- what is kept in a frame: the number of a slot that is a field of an invalid header is 0, so that it is read as it stands
pub record AreKept (c : Cells) : Type 0 where
  pub whole : AreWhole c
  pub owners : length c.layout.owners ≡ length c.layout.widths
  pub slots : All (AreWithin (length c.layout.widths)) c.layout.headers
  pub owned : AreOwned c.layout.owners c.layout.headers
  pub fields : AreFields c.layout.owners c.layout.headers
  pub quiet : (slot : ℕ) → is_live c slot ≡ false → slice_index c.numbers slot ≡ 0
