-- What calls keep, where actions and tables keep it.
use Rattle.std.proofs.Common.{◌≡◌, ℕ, Bool, cond, ◌&&◌, codes, Option, Some, None, List, [], ◌∷◌, map, refl, bytes_eq}
use Rattle.p416_syntax.specs.declared.parts.Direction.{Direction}
use Rattle.p416_syntax.specs.declared.parts.Direction.TheVariants.{In, Out, InOut}
use Rattle.p416_syntax.specs.declared.parts.Param.{Param}
use Rattle.p416_syntax.specs.declared.controls.Action16.{Action16}
use Rattle.p416_syntax.specs.Tree.{Exp16, literal, truth, error, name, member, index, slice, call, lookahead, cast, unary, binary, choice, parenthesized, no_arguments, argument, listed}
use Rattle.p416_syntax.specs.Names.{Name}
use Rattle.p416_syntax.specs.Kinds.{ObjectKind, counter, direct_counter, register, meter, Kind, bits, unsized, boolean, error_code, header, stack, struct, packet_in, packet_out, errors, enumeration, one_of, table, applied, object, items, nothing, unknown, is_stack}
use Rattle.p416_syntax.specs.Scopes.{Handed, Sort, a_type, a_value, an_enumeration, a_function, an_object, an_action, a_table, a_state, a_block, undeclared, Scope, sort_of}
use Rattle.p416_syntax.specs.Calls.{Place, owner, emitted, place_of, method_signature}
use Rattle.p416_syntax.specs.Expressions.{kind_of, signature_of}
use Rattle.p416_syntax.specs.Uses.{wanted_by, arguments_of}
use Rattle.fabric.specs.declared.items.RequestKind.TheVariants.{Resubmit, Recirculate}
use Rattle.v1_core.specs.declared.parser_error.ParserError.TheVariants.{PacketTooShort}
use Rattle.v1_core.specs.Values.{Value, a_number, header_in, member_in, to_member}
use Rattle.v1_core.specs.Frames.{Moment, Hit, Reference, read, stepped, put_at, with_inner, raised, is_stopped, going_on}
use Rattle.v1_core.specs.Surroundings.{Surroundings, World, action_named}
use Rattle.v1_core.specs.Expressions.{has_bits, value_of, reference_of, name_in}
use Rattle.v1_core.specs.HeaderCalls.{header_call, stack_call, set_valid, set_invalid, push_front, pop_front}
use Rattle.v1_core.specs.Externs.Packets.{header_width, extracted, moved, extract}
use Rattle.v1_core.specs.Externs.Objects.{count, count_entry, register_read, register_write, execute_meter}
use Rattle.v1_core.specs.Externs.Checksums.{verify_checksum, update_checksum, with_payload}
use Rattle.v1_core.specs.Externs.Requests.{clone_kind}
use Rattle.v1_core.specs.Calls.{Given, Arguments, arguments, value_at, target_at, number_at, symbol_at, bits_at, holds_at, copied_back, copied_out, bound_arguments, acted, call_action, function_call, named_call, object_in, object_call, stack_of_next, first_stack_of_next, method_call, call_leaves, call_statement}
use Rattle.v1_control_laws.specs.Erring.{MayRead, Free, AllFree, FreeCallee, FreeAt}
use Rattle.v1_control_laws.proofs.Values.{either, Kept, Keeps, reference_means, AllGood, good_at, value_kept, arguments_kept}

module _ (b : Surroundings) (R : Type 0) (Q : Moment → Type 0) (Good : Reference → Type 0) (kept : Kept b R Q Good) where
  pub going_kept : (f : Moment → Moment) (m : Moment) → Q m → Q (f m) → Q (going_on f m)
  going_kept f m h k = either Q (is_stopped m) m (f m) h k

  -- what packets, headers and stacks do

  abbrev AnyGood : Option Reference → Type 0
  AnyGood None = Unit {0}
  AnyGood (Some r) = Good r

  extracted_kept : (r : Reference) (m : Moment) → Good r → Q m → Q (extracted r m)
  extracted_kept r m g h = kept.others (put_at r _ m) (extracted r m) refl refl refl (kept.puts r _ m g h)

  moved_kept : (next : Option Reference) (m : Moment) → AnyGood next → Q m → Q (moved next m)
  moved_kept None m g h = h
  moved_kept (Some r) m g h = kept.puts r _ m g h

  extract_kept : R → (r : Reference) (next : Option Reference) (m : Moment) → Good r → AnyGood next → Q m → Q (extract r next m)
  extract_kept may r next m g k h =
      either Q (has_bits m (header_width (header_in (read m.frame r)))) (moved next (extracted r m)) (raised PacketTooShort m)
      (moved_kept next (extracted r m) k (extracted_kept r m g h)) (kept.raises may PacketTooShort m h)

  header_call_kept : (word : Name) (r : Reference) (m : Moment) → Good r → Q m → Q (header_call word r m)
  header_call_kept word r m g h =
      either Q (bytes_eq word (codes "setValid")) (set_valid r m) (cond (bytes_eq word (codes "setInvalid")) (set_invalid r m) m) (kept.puts r _ m g h)
      (either Q (bytes_eq word (codes "setInvalid")) (set_invalid r m) m (kept.puts r _ m g h) h)

  stack_call_kept : (word : Name) (r : Reference) (count : ℕ) (m : Moment) → Good r → Q m → Q (stack_call word r count m)
  stack_call_kept word r count m g h =
      either Q (bytes_eq word (codes "push_front")) (push_front r count m) (cond (bytes_eq word (codes "pop_front")) (pop_front r count m) m) (kept.puts r _ m g h)
      (either Q (bytes_eq word (codes "pop_front")) (pop_front r count m) m (kept.puts r _ m g h) h)

  abbrev Next : Option Reference → Type 0
  Next o = AnyGood o

  next_means : (s : Scope) (e : Exp16) (m : Moment) → Free R s e → Q m → AnyGood (stack_of_next b s e m)
  next_means s (literal n) m free h = tt
  next_means s (truth holds) m free h = tt
  next_means s error m free h = tt
  next_means s (name text) m free h = tt
  next_means s (member e word) m free h =
      either Next (is_stack (kind_of s e) && bytes_eq word (codes "next")) (Some (reference_of b s e m).reference) None (reference_means b R Q Good kept s e m free.1 h).good tt
  next_means s (index e at) m free h = tt
  next_means s (slice e high low) m free h = tt
  next_means s (call g more) m free h = tt
  next_means s (lookahead e to more) m free h = tt
  next_means s (cast to e) m free h = tt
  next_means s (unary operator e) m free h = tt
  next_means s (binary operator a b) m free h = tt
  next_means s (choice d a b) m free h = tt
  next_means s (parenthesized e) m free h = tt
  next_means s no_arguments m free h = tt
  next_means s (argument before last) m free h = tt
  next_means s (listed es) m free h = tt

  first_next_means : (s : Scope) (es : List Exp16) (m : Moment) → AllFree R s es → Q m → AnyGood (first_stack_of_next b s es m)
  first_next_means s [] m free h = tt
  first_next_means s (e ∷ es) m free h = next_means s e m free.0 h

  -- objects and functions

  entry_kept : (number : ℕ) (m : Moment) → Q m → Q (count_entry number m)
  entry_kept number m h = by m.hit h where
    by : (hit : Option Hit) → Q (record m { hit = hit }) → Q (count_entry number (record m { hit = hit }))
    by None k = k
    by (Some hit) k = either Q _ _ _ (kept.others (record m { hit = Some hit }) (count number hit.entry (record m { hit = Some hit })) refl refl refl k) k

  object_kept : (k : ObjectKind) (word : Name) (number : ℕ) (given : List Given) (m : Moment) → AllGood b R Q Good kept given → Q m → Q (object_call k word number given m)
  object_kept counter word number given m g h = kept.others m (count number (number_at given 0) m) refl refl refl h
  object_kept direct_counter word number given m g h = entry_kept number m h
  object_kept register word number given m g h =
      either Q (bytes_eq word (codes "read")) (register_read number (target_at given 0) (number_at given 1) m) (register_write number (number_at given 0) (number_at given 1) m)
      (kept.puts (target_at given 0) _ m (good_at b R Q Good kept given 0 g) h) (kept.others m (register_write number (number_at given 0) (number_at given 1) m) refl refl refl h)
  object_kept meter word number given m g h =
      kept.others (put_at (target_at given 1) _ m) (execute_meter number (number_at given 0) (target_at given 1) m) refl refl refl (kept.puts (target_at given 1) _ m (good_at b R Q Good kept given 1 g) h)

  verify_kept : (condition : Bool) (list : List Bool) (field : Value) (algorithm : Name) (m : Moment) → Q m → Q (verify_checksum condition list field algorithm m)
  verify_kept condition list field algorithm m h = either Q _ _ m (kept.standard (codes "checksum_error") (a_number 1 1) m h) h

  update_kept : (condition : Bool) (list : List Bool) (to : Reference) (algorithm : Name) (m : Moment) → Good to → Q m → Q (update_checksum condition list to algorithm m)
  update_kept condition list to algorithm m g h = either Q condition _ m (kept.puts to _ m g h) h

  function_kept : (text : Name) (given : List Given) (m : Moment) → AllGood b R Q Good kept given → Q m → Q (function_call text given m)
  function_kept text given m g h =
      either Q (bytes_eq text (codes "mark_to_drop")) _ _ (kept.puts (stepped (target_at given 0) (to_member (codes "egress_spec"))) _ m (kept.steps (target_at given 0) (to_member (codes "egress_spec")) (good_at b R Q Good kept given 0 g)) h)
      (either Q (bytes_eq text (codes "hash")) _ _ (kept.puts (target_at given 0) _ m (good_at b R Q Good kept given 0 g) h)
      (either Q (bytes_eq text (codes "verify_checksum")) _ _ (verify_kept (holds_at given 0) (bits_at given 1) (value_at given 2) (symbol_at given 3) m h)
      (either Q (bytes_eq text (codes "verify_checksum_with_payload")) _ _ (verify_kept (holds_at given 0) (with_payload m (bits_at given 1)) (value_at given 2) (symbol_at given 3) m h)
      (either Q (bytes_eq text (codes "update_checksum")) _ _ (update_kept (holds_at given 0) (bits_at given 1) (target_at given 2) (symbol_at given 3) m (good_at b R Q Good kept given 2 g) h)
      (either Q (bytes_eq text (codes "update_checksum_with_payload")) _ _ (update_kept (holds_at given 0) (with_payload m (bits_at given 1)) (target_at given 2) (symbol_at given 3) m (good_at b R Q Good kept given 2 g) h)
      (either Q (bytes_eq text (codes "clone_preserving_field_list")) _ _ (kept.requests (clone_kind (symbol_at given 0)) (Some (number_at given 1, number_at given 2)) m h)
      (either Q (bytes_eq text (codes "resubmit_preserving_field_list")) _ _ (kept.requests Resubmit (Some (0, number_at given 0)) m h)
      (either Q (bytes_eq text (codes "recirculate_preserving_field_list")) _ _ (kept.requests Recirculate (Some (0, number_at given 0)) m h) h))))))))

  -- actions

  back_kept : (d : Option Direction) (to : Reference) (v : Value) (m : Moment) → Good to → Q m → Q (copied_back d to v m)
  back_kept None to v m g h = h
  back_kept (Some In) to v m g h = h
  back_kept (Some Out) to v m g h = kept.puts to v m g h
  back_kept (Some InOut) to v m g h = kept.puts to v m g h

  out_kept : (parameters : List Param) (given : List Given) (inner : Value) (m : Moment) → AllGood b R Q Good kept given → Q m → Q (copied_out parameters given inner m)
  out_kept [] given inner m good h = h
  out_kept (p ∷ parameters) [] inner m good h = h
  out_kept (p ∷ parameters) (g ∷ given) inner m good h =
      out_kept parameters given inner (copied_back p.direction g.target (member_in inner p.name) m) good.1
      (back_kept p.direction g.target (member_in inner p.name) m good.0 h)

module _ (w : World) (R : Type 0) (Q : Moment → Type 0) (Good : Reference → Type 0) (kept : Kept w.around R Q Good) (keeps : Keeps w Q) where
  abbrev Args : Arguments → Type 0
  Args x = AllGood w.around R Q Good kept x.given × Q x.moment

  all_kept : (s : Scope) (places : List Place) (given : Exp16) (m : Moment) → AllFree R s (arguments_of given) → Q m → Args (arguments w s places given m)
  all_kept s places given m free h = arguments_kept w R Q Good kept keeps.applies s places (arguments_of given) m free h

  acted_kept : (text : Name) (a : Action16) → action_named w.around text ≡ Some a → (x : Arguments) → Args x → Q (acted w a x)
  acted_kept text a is x h =
      let before : Moment = with_inner (bound_arguments w.around.scope a.parameters x.given) x.moment in
      let n : Moment = w.act a before in
      out_kept w.around R Q Good kept a.parameters x.given n.frame.inner (with_inner x.moment.frame.inner n) h.0
      (kept.inner x.moment.frame.inner n (keeps.acts text a is before (kept.inner (bound_arguments w.around.scope a.parameters x.given) x.moment h.1)))

  action_kept : (s : Scope) (handed : List Handed) (text : Name) (o : Option Action16) → action_named w.around text ≡ o → (given : Exp16) (m : Moment) → AllFree R s (arguments_of given) → Q m → Q (call_action w s handed o given m)
  action_kept s handed text None is given m free h = h
  action_kept s handed text (Some a) is given m free h = acted_kept text a is (arguments w s (map place_of handed) given m) (all_kept s (map place_of handed) given m free h)

  named_kept : (s : Scope) (sort : Sort) (text : Name) (given : Exp16) (m : Moment) → AllFree R s (arguments_of given) → Q m → Q (named_call w s sort text given m)
  named_kept s (a_type k) text given m free h = h
  named_kept s (a_value k can) text given m free h = h
  named_kept s (an_enumeration enum) text given m free h = h
  named_kept s a_function text given m free h =
      let x = arguments w s (wanted_by (signature_of s (name text))) given m in
      let k = all_kept s (wanted_by (signature_of s (name text))) given m free h in
      function_kept w.around R Q Good kept text x.given x.moment k.0 k.1
  named_kept s (an_object of) text given m free h = h
  named_kept s (an_action plane handed) text given m free h = action_kept s handed text (action_named w.around text) refl given m free h
  named_kept s (a_table actions counters) text given m free h = h
  named_kept s a_state text given m free h = h
  named_kept s a_block text given m free h = h
  named_kept s undeclared text given m free h = h

  method_call_kept : (s : Scope) (k : Kind) (e : Exp16) (word : Name) (given : Exp16) (m : Moment) → Free R s e → MayRead R k → AllFree R s (arguments_of given) → Q m → Q (method_call w s k e word given m)
  method_call_kept s (bits width) e word given m free may args h = h
  method_call_kept s unsized e word given m free may args h = h
  method_call_kept s boolean e word given m free may args h = h
  method_call_kept s error_code e word given m free may args h = h
  method_call_kept s (header type) e word given m free may args h =
      let r = reference_of w.around s e m in
      let x = reference_means w.around R Q Good kept s e m free h in
      either Q (bytes_eq word (codes "isValid")) (value_of w s owner e m).moment (going_on (header_call word r.reference) r.moment) (value_kept w R Q Good kept keeps.applies s owner e m free h)
      (going_kept w.around R Q Good kept (header_call word r.reference) r.moment x.moment (header_call_kept w.around R Q Good kept word r.reference r.moment x.good x.moment))
  method_call_kept s (stack type many) e word given m free may args h =
      let r = reference_of w.around s e m in
      let x = reference_means w.around R Q Good kept s e m free h in
      let y = arguments w s (wanted_by (method_signature (stack type many) word)) given r.moment in
      let k = all_kept s (wanted_by (method_signature (stack type many) word)) given r.moment args x.moment in
      going_kept w.around R Q Good kept (stack_call word r.reference (number_at y.given 0)) y.moment k.1 (stack_call_kept w.around R Q Good kept word r.reference (number_at y.given 0) y.moment x.good k.1)
  method_call_kept s (struct type) e word given m free may args h = h
  method_call_kept s packet_in e word given m free may args h =
      let x = arguments w s (wanted_by (method_signature packet_in word)) given m in
      let k = all_kept s (wanted_by (method_signature packet_in word)) given m args h in
      let next = first_stack_of_next w.around s (arguments_of given) m in
      going_kept w.around R Q Good kept (extract (target_at x.given 0) next) x.moment k.1
      (extract_kept w.around R Q Good kept may (target_at x.given 0) next x.moment (good_at w.around R Q Good kept x.given 0 k.0) (first_next_means w.around R Q Good kept s (arguments_of given) m args h) k.1)
  method_call_kept s packet_out e word given m free may args h =
      kept.emits (value_at (arguments w s (emitted ∷ []) given m).given 0) (arguments w s (emitted ∷ []) given m).moment (all_kept s (emitted ∷ []) given m args h).1
  method_call_kept s errors e word given m free may args h = h
  method_call_kept s (enumeration enum) e word given m free may args h = h
  method_call_kept s (one_of enum) e word given m free may args h = h
  method_call_kept s table e word given m free may args h = keeps.applies (name_in e) m h
  method_call_kept s applied e word given m free may args h = h
  method_call_kept s (object of) e word given m free may args h =
      let x = arguments w s (wanted_by (method_signature (object of) word)) given m in
      let k = all_kept s (wanted_by (method_signature (object of) word)) given m args h in
      object_kept w.around R Q Good kept of word (object_in w e) x.given x.moment k.0 k.1
  method_call_kept s items e word given m free may args h = h
  method_call_kept s nothing e word given m free may args h = h
  method_call_kept s unknown e word given m free may args h = h

  leaves_kept : (s : Scope) (e : Exp16) (given : Exp16) (m : Moment) → Free R s (call e given) → FreeCallee R s e → AllFree R s (arguments_of given) → Q m → Q (call_leaves w s e given m)
  leaves_kept s (literal n) given m free may args h = h
  leaves_kept s (truth holds) given m free may args h = h
  leaves_kept s error given m free may args h = h
  leaves_kept s (name text) given m free may args h = named_kept s (sort_of s text) text given m args h
  leaves_kept s (member e word) given m free may args h = method_call_kept s (kind_of s e) e word given m free may args h
  leaves_kept s (index e at) given m free may args h = h
  leaves_kept s (slice e high low) given m free may args h = h
  leaves_kept s (call g more) given m free may args h = h
  leaves_kept s (lookahead e to more) given m free may args h = h
  leaves_kept s (cast to e) given m free may args h = h
  leaves_kept s (unary operator e) given m free may args h = h
  leaves_kept s (binary operator a b) given m free may args h = h
  leaves_kept s (choice d a b) given m free may args h = h
  leaves_kept s (parenthesized e) given m free may args h = h
  leaves_kept s no_arguments given m free may args h = h
  leaves_kept s (argument before last) given m free may args h = h
  leaves_kept s (listed es) given m free may args h = h

  pub call_kept : (s : Scope) (p : Place) (e : Exp16) (m : Moment) → FreeAt R s p e → Q m → Q (call_statement w s e m)
  call_kept s p (literal n) m free h = value_kept w R Q Good kept keeps.applies s owner (literal n) m free.0 h
  call_kept s p (truth holds) m free h = value_kept w R Q Good kept keeps.applies s owner (truth holds) m free.0 h
  call_kept s p error m free h = value_kept w R Q Good kept keeps.applies s owner error m free.0 h
  call_kept s p (name text) m free h = value_kept w R Q Good kept keeps.applies s owner (name text) m free.0 h
  call_kept s p (member e word) m free h = value_kept w R Q Good kept keeps.applies s owner (member e word) m free.0 h
  call_kept s p (index e at) m free h = value_kept w R Q Good kept keeps.applies s owner (index e at) m free.0 h
  call_kept s p (slice e high low) m free h = value_kept w R Q Good kept keeps.applies s owner (slice e high low) m free.0 h
  call_kept s p (call g given) m free h = leaves_kept s g given m free.0 free.1.0 free.1.1 h
  call_kept s p (lookahead e to more) m free h = value_kept w R Q Good kept keeps.applies s owner (lookahead e to more) m free.0 h
  call_kept s p (cast to e) m free h = value_kept w R Q Good kept keeps.applies s owner (cast to e) m free.0 h
  call_kept s p (unary operator e) m free h = value_kept w R Q Good kept keeps.applies s owner (unary operator e) m free.0 h
  call_kept s p (binary operator a b) m free h = value_kept w R Q Good kept keeps.applies s owner (binary operator a b) m free.0 h
  call_kept s p (choice d a b) m free h = value_kept w R Q Good kept keeps.applies s owner (choice d a b) m free.0 h
  call_kept s p (parenthesized e) m free h = value_kept w R Q Good kept keeps.applies s owner (parenthesized e) m free.0 h
  call_kept s p no_arguments m free h = value_kept w R Q Good kept keeps.applies s owner no_arguments m free.0 h
  call_kept s p (argument before last) m free h = value_kept w R Q Good kept keeps.applies s owner (argument before last) m free.0 h
  call_kept s p (listed es) m free h = value_kept w R Q Good kept keeps.applies s owner (listed es) m free.0 h
