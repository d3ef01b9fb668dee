-- The externs of `v1model.p4`, each by the values of its arguments, in the order of their positions but for what the program
-- writes down, and by the bits of its list. Sessions and indices have 32 bits, and the packet's length as well.
use Rattle.std.specs.Prelude.{ℕ, ◌%◌, ◌^◌, ◌==◌, Bool, not, ◌&&◌, if◌then◌else◌, List, ◌++◌, slice_index_or, Option, Some, None}
use Rattle.p4x_bits.specs.BitLists.{octet_bits}
use Rattle.state_store.specs.State.{count as count_in_store, read as read_in_store, write as write_in_store, colour, colour_taken}
use Rattle.state_store.specs.Ports.{drop_port}
use Rattle.calc_core.specs.Calculations.{csum16, crc16, crc32, identity}
use Rattle.fabric.specs.declared.items.RequestKind.{RequestKind}
use Rattle.p416_syntax.specs.declared.parts.HashAlgorithm.{HashAlgorithm}
use Rattle.p416_syntax.specs.declared.parts.HashAlgorithm.TheVariants.{Csum16, Crc16, Crc32, Identity}
use Rattle.v1_core.specs.Values.{Value, no_value, number_in, width_in, is_true}
use Rattle.v1_core.specs.Frames.{Hit}
use Rattle.v1_core.specs.Externs.Hashes.{in_range}
use Rattle.v1_core.specs.Cells.{slot_value, with_request}
use Rattle.v1_ready_blocks.specs.declared.places.Target.{Target}
use Rattle.v1_ready_blocks.specs.declared.externs.Extern.{Extern}
use Rattle.v1_ready_blocks.specs.declared.externs.Extern.TheVariants as extern
use Rattle.v1_ready_blocks.specs.Moments.{Moment, with_cells, with_store}
use Rattle.v1_ready_blocks.specs.Places.{put, put_at}

-- what an extern is called with
pub record Given : Type 0 where
  pub values : List Value
  pub list : List Bool

abbrev pub value_at : Given → ℕ → Value
value_at g n = slice_index_or g.values n no_value

abbrev pub number_at : Given → ℕ → ℕ
number_at g n = number_in (value_at g n)

abbrev pub holds_at : Given → ℕ → Bool
holds_at g n = is_true (value_at g n)

-- the low 32 bits
abbrev pub word_at : Given → ℕ → ℕ
word_at g n = number_at g n % 2 ^ 32

-- a number goes to a target
abbrev pub number_put : Target → ℕ → Moment → Moment
number_put t n m = with_cells (put_at t n m.cells) m

-- objects

-- one more packet, with its length as it stands
abbrev pub count : ℕ → ℕ → ℕ → Moment → Moment
count object length index m =
    with_store (count_in_store m.store object index (slot_value m.cells length % 2 ^ 32)) m

-- the entry that was hit, where the counter's own table runs the action; nothing on a miss
abbrev pub count_entry : ℕ → ℕ → Moment → Moment
count_entry object length m = by_hit m.hit where
  by_hit : Option Hit → Moment
  by_hit (Some h) = if h.counter == object then count object length h.entry m else m
  by_hit None = m

abbrev pub execute_meter : ℕ → Target → ℕ → Moment → Moment
execute_meter object to index m =
    with_store (colour_taken m.store object index) (number_put to (colour m.store object index) m)

-- hashes and checksums

abbrev pub result_by : HashAlgorithm → List Bool → ℕ
result_by Csum16 list = csum16 list
result_by Crc16 list = crc16 list
result_by Crc32 list = crc32 list
result_by Identity list = identity list

-- no target has more than 128 bits
abbrev pub hashed : HashAlgorithm → Given → ℕ
hashed algorithm g = in_range (number_at g 0) (result_by algorithm g.list) (number_at g 1) % 2 ^ 128

abbrev pub list_with : Bool → Given → Moment → List Bool
list_with payload g m = if payload then g.list ++ octet_bits m.unparsed else g.list

-- the result, cut to the field's width, isn't the field
abbrev pub is_wrong : HashAlgorithm → List Bool → Value → Bool
is_wrong algorithm list field = not (result_by algorithm list % 2 ^ width_in field == number_in field)

abbrev pub verify : HashAlgorithm → Bool → ℕ → Given → Moment → Moment
verify algorithm payload slot g m =
    if holds_at g 0 && is_wrong algorithm (list_with payload g m) (value_at g 1) then
    with_cells (put slot None 1 m.cells) m
    else m

abbrev pub update : HashAlgorithm → Bool → Target → Given → Moment → Moment
update algorithm payload to g m =
    if holds_at g 0 then number_put to (result_by algorithm (list_with payload g m)) m else m

-- requests; the last one of each kind in a block counts
abbrev pub requested : RequestKind → ℕ → ℕ → Moment → Moment
requested kind session list m = with_cells (with_request kind (Some (session, list)) m.cells) m

abbrev pub executed : Extern → Given → Moment → Moment
executed (extern.Count object length) g m = count object length (word_at g 0) m
executed (extern.CountEntry object length) g m = count_entry object length m
executed (extern.Read object to) g m = number_put to (read_in_store m.store object (word_at g 0)) m
executed (extern.Write object) g m = with_store (write_in_store m.store object (word_at g 0) (number_at g 1)) m
executed (extern.ExecuteMeter object to) g m = execute_meter object to (word_at g 0) m
executed (extern.Hash algorithm to) g m = number_put to (hashed algorithm g) m
executed (extern.MarkToDrop slot) g m = with_cells (put slot None drop_port m.cells) m
executed (extern.Verify algorithm payload slot) g m = verify algorithm payload slot g m
executed (extern.Update algorithm payload to) g m = update algorithm payload to g m
executed (extern.Clone kind list) g m = requested kind (word_at g 0) list m
executed (extern.Request kind list) g m = requested kind 0 list m
