-- A primitive leaves what it doesn't change, wherever its operands are read.
use Rattle.std.proofs.Common.{◌≡◌, ℕ, Bool, true, false, cond, List, [], ◌∷◌, refl}
use Rattle.std.specs.Prelude.{pos}
use Rattle.state_store.specs.State.{Contents, colour, colour_taken, count as count_in_store, write as write_to_cell}
use Rattle.p414_syntax.specs.declared.syntax.Decl.{Decl}
use Rattle.fabric.specs.declared.items.RequestKind.TheVariants.{CloneI2E, CloneE2E, Resubmit, Recirculate}
use Rattle.p414_sem.specs.declared.standard.Standard.TheVariants.{IngressPort, EgressSpec, EgressPort, PacketLength, InstanceType}
use Rattle.p414_sem.specs.Wholes.{wrapped, kept}
use Rattle.p414_sem.specs.Slots.{Slot, Target, standard, declared}
use Rattle.p414_sem.specs.State.{State, header_of, header_at, is_valid, is_valid_at, is_live, with_header, with_field, written, cleared}
use Rattle.p414_sem.specs.Operations.{Primitive, write, add_header, remove_header, copy_header, push, pop, count_cell, write_cell, execute_meter, ask, nothing}
use Rattle.p414_sem.specs.Effects.{Moment, put_field, put_header, index_of, term_number, coloured, all_fallen}
use Rattle.lower_laws_actions.specs.Apart.{Part, number_of, form_of, whole_of, elements_of, cells_of, changes, is_written, is_stored}
use Rattle.lower_laws_actions.specs.Runs.{after}
use Rattle.lower_laws_actions.specs.Same.{Same, SameElse}
use Rattle.lower_laws_actions.proofs.ApartWrites.{SameRegisters, moment, unchanged_kept, written_kept, replaced_kept, moved_kept, asked_kept}
use Rattle.lower_laws_actions.proofs.ApartStores.{count_kept, taken_kept, stored_kept, taken_shapes}

same_registers : (a : Contents) → SameRegisters a a
same_registers a object index = refl

pub nothing_changed : (m : Moment) (x : Part) → Same m m x
nothing_changed m x = unchanged_kept m.state m.store m.store (same_registers m.store) x

stored_there : (m : Moment) (object index n : ℕ) (x : Part) → is_stored object x ≡ false → Same m (moment m.state (write_to_cell m.store object index n)) x
stored_there m object index n (number_of (standard which)) differ = refl
stored_there m object index n (number_of (declared i e f)) differ = refl
stored_there m object index n (form_of header) differ = (refl, refl)
stored_there m object index n (whole_of header) differ = refl
stored_there m object index n (elements_of instance) differ = refl
stored_there m object index n (cells_of other) differ = stored_kept m.store object index n other differ

coloured_there : (m : Moment) (target : Target) (live : Bool) (n : ℕ) (b : Contents) → SameRegisters m.store b → (x : Part) → is_written target.slot x ≡ false → Same m (moment (coloured target live n m.state) b) x
coloured_there m target true n b cells x differ = written_kept m.state target.slot (wrapped target.width (pos n)) m.store b cells x differ
coloured_there m target false n b cells x differ = unchanged_kept m.state m.store b cells x

pub primitive_keeps : (ds : List Decl) (arguments : List ℕ) (r m : Moment) (p : Primitive) (x : Part) → changes p x ≡ false → Same m (after ds arguments r p m) x
primitive_keeps ds arguments r m (write sums target term) x differ = by (is_live r.state target.slot) (kept _ target.width (term_number ds arguments r target.slot term)) where
  by : (live : Bool) (n : ℕ) → Same m (all_fallen m (cond live (put_field target.slot n ∷ []) [])) x
  by true n = written_kept m.state target.slot n m.store m.store (same_registers m.store) x differ
  by false n = nothing_changed m x
primitive_keeps ds arguments r m (add_header header) x differ = by (is_valid_at r.state header) where
  by : (valid : Bool) → Same m (all_fallen m (cond valid [] (put_header header (cleared true (header_of r.state header)) ∷ []))) x
  by true = nothing_changed m x
  by false = replaced_kept m.state header _ m.store m.store (same_registers m.store) x differ
primitive_keeps ds arguments r m (remove_header header) x differ = replaced_kept m.state header _ m.store m.store (same_registers m.store) x differ
primitive_keeps ds arguments r m (copy_header header from) x differ = replaced_kept m.state header _ m.store m.store (same_registers m.store) x differ
primitive_keeps ds arguments r m (push stack count) x differ = moved_kept m.state stack _ m.store m.store (same_registers m.store) x differ
primitive_keeps ds arguments r m (pop stack count) x differ = moved_kept m.state stack _ m.store m.store (same_registers m.store) x differ
primitive_keeps ds arguments r m (count_cell object index) x differ = unchanged_kept m.state m.store (count_in_store m.store object (index_of arguments r.state index) m.state.packet_length) (count_kept m.store object (index_of arguments r.state index) m.state.packet_length) x
primitive_keeps ds arguments r m (write_cell object index value) x differ = stored_there m object (index_of arguments r.state index) _ x differ
primitive_keeps ds arguments r m (execute_meter object index target) x differ =
    let k = index_of arguments r.state index in
    coloured_there m target (is_live r.state target.slot) (colour m.store object k) (colour_taken m.store object k) (taken_kept m.store object k) x differ
primitive_keeps ds arguments r m (ask kind session list) x differ = asked_kept m.state kind _ m.store m.store (same_registers m.store) x
primitive_keeps ds arguments r m nothing x differ = nothing_changed m x

-- what no primitive changes

else_written : (s : State) (slot : Slot) (n : ℕ) → s.unparsed ≡ (written s slot n).unparsed
else_written s (standard IngressPort) n = refl
else_written s (standard EgressSpec) n = refl
else_written s (standard EgressPort) n = refl
else_written s (standard PacketLength) n = refl
else_written s (standard InstanceType) n = refl
else_written s (declared i e f) n = by (is_valid s i e) where
  by : (v : Bool) → s.unparsed ≡ (cond {A = State} v (with_header s i e (with_field (header_at s i e) f n)) s).unparsed
  by true = refl
  by false = refl

else_coloured : (s : State) (target : Target) (live : Bool) (n : ℕ) → s.unparsed ≡ (coloured target live n s).unparsed
else_coloured s target true n = else_written s target.slot (wrapped target.width (pos n))
else_coloured s target false n = refl

pub primitive_keeps_else : (ds : List Decl) (arguments : List ℕ) (r m : Moment) (p : Primitive) → SameElse m (after ds arguments r p m)
primitive_keeps_else ds arguments r m (write sums target term) = by (is_live r.state target.slot) (kept _ target.width (term_number ds arguments r target.slot term)) where
  by : (live : Bool) (n : ℕ) → SameElse m (all_fallen m (cond live (put_field target.slot n ∷ []) []))
  by true n = record { unparsed = else_written m.state target.slot n; shapes = refl }
  by false n = record { unparsed = refl; shapes = refl }
primitive_keeps_else ds arguments r m (add_header header) = by (is_valid_at r.state header) where
  by : (valid : Bool) → SameElse m (all_fallen m (cond valid [] (put_header header (cleared true (header_of r.state header)) ∷ [])))
  by true = record { unparsed = refl; shapes = refl }
  by false = record { unparsed = refl; shapes = refl }
primitive_keeps_else ds arguments r m (remove_header header) = record { unparsed = refl; shapes = refl }
primitive_keeps_else ds arguments r m (copy_header header from) = record { unparsed = refl; shapes = refl }
primitive_keeps_else ds arguments r m (push stack count) = record { unparsed = refl; shapes = refl }
primitive_keeps_else ds arguments r m (pop stack count) = record { unparsed = refl; shapes = refl }
primitive_keeps_else ds arguments r m (count_cell object index) = record { unparsed = refl; shapes = refl }
primitive_keeps_else ds arguments r m (write_cell object index value) = record { unparsed = refl; shapes = refl }
primitive_keeps_else ds arguments r m (execute_meter object index target) =
    let k = index_of arguments r.state index in
    record { unparsed = else_coloured m.state target (is_live r.state target.slot) (colour m.store object k); shapes = taken_shapes m.store object k }
primitive_keeps_else ds arguments r m (ask CloneI2E session list) = record { unparsed = refl; shapes = refl }
primitive_keeps_else ds arguments r m (ask CloneE2E session list) = record { unparsed = refl; shapes = refl }
primitive_keeps_else ds arguments r m (ask Resubmit session list) = record { unparsed = refl; shapes = refl }
primitive_keeps_else ds arguments r m (ask Recirculate session list) = record { unparsed = refl; shapes = refl }
primitive_keeps_else ds arguments r m nothing = record { unparsed = refl; shapes = refl }
