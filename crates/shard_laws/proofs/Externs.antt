-- What headers, stacks, packets, objects and functions do in moments that are alike.
use Rattle.std.proofs.Common.{ℕ, Bool, Option, Some, None, List, ◌==◌, ◌&&◌, subst}
use Rattle.std.specs.Prelude.{codes}
use Rattle.std.specs.Str.{bytes_eq}
use Rattle.p416_syntax.specs.Names.{Name}
use Rattle.p416_syntax.specs.Kinds.{ObjectKind, counter, direct_counter, register, meter}
use Rattle.state_store.specs.State.{read as read_in_store, colour_taken}
use Rattle.v1_core.specs.declared.parser_error.ParserError.TheVariants.{PacketTooShort}
use Rattle.v1_core.specs.Values.{Value, header_in}
use Rattle.v1_core.specs.Frames.{Hit, Moment, Reference, read, number_put_at}
use Rattle.v1_core.specs.Expressions.{has_bits}
use Rattle.v1_core.specs.HeaderCalls.{set_valid, set_invalid, push_front, pop_front, header_call, stack_call}
use Rattle.v1_core.specs.Externs.Packets.{header_width, extracted, moved, extract, emit}
use Rattle.v1_core.specs.Externs.Ports.{mark_to_drop}
use Rattle.v1_core.specs.Externs.Objects.{packet_length, count, count_entry, register_write, execute_meter}
use Rattle.v1_core.specs.Externs.Checksums.{with_payload, is_wrong, verify_checksum, update_checksum}
use Rattle.v1_core.specs.Externs.Requests.{clone_preserving, resubmit_preserving, recirculate_preserving}
use Rattle.v1_core.specs.Calls.{Given, target_at, value_at, number_at, symbol_at, bits_at, holds_at, function_call, register_call, object_call}
use Rattle.shard_laws.specs.Likeness.{Pairing, other, Like, like}
use Rattle.shard_laws.proofs.Leaves.{either, raises}

module _ (k : Pairing) where
  pub header_calls : (word : Name) (r : Reference) (m n : Moment) → Like k m n → Like k (header_call word r m) (header_call word r n)
  header_calls word r m _ (like _ s w a b) =
      either k (bytes_eq word (codes "setValid")) (like (set_valid r m) s w a b)
      (either k (bytes_eq word (codes "setInvalid")) (like (set_invalid r m) s w a b) (like m s w a b))

  pub stack_calls : (word : Name) (r : Reference) (count : ℕ) (m n : Moment) → Like k m n → Like k (stack_call word r count m) (stack_call word r count n)
  stack_calls word r count m _ (like _ s w a b) =
      either k (bytes_eq word (codes "push_front")) (like (push_front r count m) s w a b)
      (either k (bytes_eq word (codes "pop_front")) (like (pop_front r count m) s w a b) (like m s w a b))

  moves : (next : Option Reference) (m n : Moment) → Like k m n → Like k (moved next m) (moved next n)
  moves None m n h = h
  moves (Some r) m _ (like _ s w a b) = like (moved (Some r) m) s w a b

  pub extracts : (r : Reference) (next : Option Reference) (m n : Moment) → Like k m n → Like k (extract r next m) (extract r next n)
  extracts r next m _ (like _ s w a b) =
      either k (has_bits m (header_width (header_in (read m.frame r))))
      (moves next (extracted r m) _ (like (extracted r m) s w a b)) (raises k PacketTooShort m _ (like m s w a b))

  pub emits : (v : Value) (m n : Moment) → Like k m n → Like k (emit v m) (emit v n)
  emits v m _ (like _ s w a b) = like (emit v m) s w a b

  verifies : (holds : Bool) (list : List Bool) (field : Value) (algorithm : Name) (m n : Moment) → Like k m n → Like k (verify_checksum holds list field algorithm m) (verify_checksum holds list field algorithm n)
  verifies holds list field algorithm m _ (like _ s w a b) =
      either k (holds && is_wrong list field algorithm) (like (record m { frame = _ }) s w a b) (like m s w a b)

  updates : (holds : Bool) (list : List Bool) (to : Reference) (algorithm : Name) (m n : Moment) → Like k m n → Like k (update_checksum holds list to algorithm m) (update_checksum holds list to algorithm n)
  updates holds list to algorithm m _ (like _ s w a b) = either k holds (like (number_put_at to _ m) s w a b) (like m s w a b)

  pub functions : (text : Name) (given : List Given) (m n : Moment) → Like k m n → Like k (function_call text given m) (function_call text given n)
  functions text given m _ (like _ s w a b) =
      let same = like m s w a b in
      either k (bytes_eq text (codes "mark_to_drop")) (like (mark_to_drop (target_at given 0) m) s w a b)
      (either k (bytes_eq text (codes "hash")) (like (number_put_at (target_at given 0) _ m) s w a b)
      (either k (bytes_eq text (codes "verify_checksum")) (verifies (holds_at given 0) (bits_at given 1) (value_at given 2) (symbol_at given 3) m _ same)
      (either k (bytes_eq text (codes "verify_checksum_with_payload")) (verifies (holds_at given 0) (with_payload m (bits_at given 1)) (value_at given 2) (symbol_at given 3) m _ same)
      (either k (bytes_eq text (codes "update_checksum")) (updates (holds_at given 0) (bits_at given 1) (target_at given 2) (symbol_at given 3) m _ same)
      (either k (bytes_eq text (codes "update_checksum_with_payload")) (updates (holds_at given 0) (with_payload m (bits_at given 1)) (target_at given 2) (symbol_at given 3) m _ same)
      (either k (bytes_eq text (codes "clone_preserving_field_list")) (like (clone_preserving (symbol_at given 0) (number_at given 1) (number_at given 2) m) s w a b)
      (either k (bytes_eq text (codes "resubmit_preserving_field_list")) (like (resubmit_preserving (number_at given 0) m) s w a b)
      (either k (bytes_eq text (codes "recirculate_preserving_field_list")) (like (recirculate_preserving (number_at given 0) m) s w a b) same))))))))

  counted : (object index : ℕ) (m n : Moment) → Like k m n → Like k (count object index m) (count object index n)
  counted object index m _ (like _ s w a b) = like (count object index m) _ w (k.counts m.store s object index (packet_length m.frame) a) b

  counted_entry : (object : ℕ) (m n : Moment) → Like k m n → Like k (count_entry object m) (count_entry object n)
  counted_entry object m _ (like _ s w a b) = by m.hit (like m s w a b) where
    by : (hit : Option Hit) → Like k (record m { hit = hit }) (other (record m { hit = hit }) s w) → Like k (count_entry object (record m { hit = hit })) (count_entry object (other (record m { hit = hit }) s w))
    by None h = h
    by (Some hit) h = either k (hit.counter == object) (counted object hit.entry _ _ h) h

  registers : (word : Name) (object : ℕ) (given : List Given) (m n : Moment) → Like k m n → Like k (register_call word object given m) (register_call word object given n)
  registers word object given m _ (like _ s w a b) =
      let to = target_at given 0 in
      let index = number_at given 1 in
      either k (bytes_eq word (codes "read"))
      (subst (λ (x : ℕ). Like k (number_put_at to (read_in_store m.store object index) m) (number_put_at to x (other m s w))) (k.reads m.store s object index a) (like (number_put_at to (read_in_store m.store object index) m) s w a b))
      (like (register_write object (number_at given 0) (number_at given 1) m) _ w (k.writes m.store s object (number_at given 0) (number_at given 1) a) b)

  meters : (object index : ℕ) (to : Reference) (m n : Moment) → Like k m n → Like k (execute_meter object index to m) (execute_meter object index to n)
  meters object index to m _ (like _ s w a b) =
      subst (λ (x : ℕ). Like k (execute_meter object index to m) (record (number_put_at to x (other m s w)) { store = colour_taken s object index })) (k.colours m.store s object index a)
      (like (execute_meter object index to m) _ w (k.takes m.store s object index a) b)

  pub objects : (kind : ObjectKind) (word : Name) (object : ℕ) (given : List Given) (m n : Moment) → Like k m n → Like k (object_call kind word object given m) (object_call kind word object given n)
  objects counter word object given m n h = counted object (number_at given 0) m n h
  objects direct_counter word object given m n h = counted_entry object m n h
  objects register word object given m n h = registers word object given m n h
  objects meter word object given m n h = meters object (number_at given 0) (target_at given 1) m n h
