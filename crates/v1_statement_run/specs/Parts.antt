-- What calls ask of the parts of a frame, and what an extraction comes to (P4_16 1.2, "Data extraction").
use Rattle.std.specs.Prelude.{◌≡◌, ℕ, ◌/◌, ◌<◌, ◌≤◌, true, List, length, Option, Some, None}
use Rattle.p4x_bits.specs.BitLists.{octet_bits}
use Rattle.v1_core.specs.Layouts.{Layout}
use Rattle.v1_core.specs.Cells.{Cells, with_validity}
use Rattle.v1_ready_blocks.specs.declared.places.Range.{Range}
use Rattle.v1_ready_blocks.specs.Packets.{filled, total_width}
use Rattle.v1_ready_blocks.specs.Nodes.{IsRange}

-- the parts of a header
pub record IsHeader (l : Layout) (r : Range) : Type 0 where
  pub range : IsRange l r
  pub some : 0 < r.headers

-- a header got the bits in front of octets, so many octets of them
pub record IsFilled (header : Range) (octets : List ℕ) (old new : Cells) (count : ℕ) : Type 0 where
  pub taken : count ≡ total_width old header.slots header.slot / 8
  pub within : count ≤ length octets
  pub fields : new ≡ filled header.slots header.slot (octet_bits octets) (with_validity old header.header true)

abbrev pub HasExtracted : Range → List ℕ → Cells → Cells → Option ℕ → Type 0
HasExtracted header octets old new None = new ≡ old
HasExtracted header octets old new (Some count) = IsFilled header octets old new count
