-- Stateful objects, by their numbers in the signature (`v1model.p4`, `counter`, `direct_counter`, `register`, `meter`; what
-- an index out of range does, and that a meter's colours are handed in, is this project's own). An index out of range counts
-- and writes nothing to the store, takes no colour, and reads 0: so does `execute_meter`, whose target becomes 0.
use Rattle.std.specs.Prelude.{ℕ, ◌==◌, if◌then◌else◌, Option, Some, None, codes}
use Rattle.state_store.specs.State.{count as count_in_store, read as read_in_store, write as write_in_store, colour, colour_taken}
use Rattle.v1_core.specs.Frames.{Frame, Hit, Moment, with_store, Reference, number_put_at, standard_number}

-- the octets that are counted: the packet's length as it stands
abbrev pub packet_length : Frame → ℕ
packet_length f = standard_number f (codes "packet_length")

-- `c.count(i)`
abbrev pub count : ℕ → ℕ → Moment → Moment
count object index m = with_store m (count_in_store m.store object index (packet_length m.frame))

-- `d.count()`: the entry that was hit, where the counter's own table runs the action; nothing on a miss
abbrev pub count_entry : ℕ → Moment → Moment
count_entry object m = by_hit m.hit where
  by_hit : Option Hit → Moment
  by_hit (Some h) = if h.counter == object then count object h.entry m else m
  by_hit None = m

-- `r.read(v, i)`: what is read is cut or extended
abbrev pub register_read : ℕ → Reference → ℕ → Moment → Moment
register_read object to index m = number_put_at to (read_in_store m.store object index) m

-- `r.write(i, v)`
abbrev pub register_write : ℕ → ℕ → ℕ → Moment → Moment
register_write object index number m = with_store m (write_in_store m.store object index number)

-- `m.execute_meter(i, v)`
abbrev pub execute_meter : ℕ → ℕ → Reference → Moment → Moment
execute_meter object index to m =
    with_store (number_put_at to (colour m.store object index) m) (colour_taken m.store object index)
