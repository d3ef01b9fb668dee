-- What calls as statements leave of moments that are alike.
use Rattle.std.proofs.Common.{◌≡◌, Bool, true, false, cond, Option, Some, None, List, [], ◌∷◌, ◌++◌, ◌&&◌, map, refl, ap, subst}
use Rattle.std.specs.Prelude.{codes}
use Rattle.std.specs.Str.{bytes_eq}
use Rattle.p4x_bits.specs.BitLists.{bits as bit_list}
use Rattle.p416_syntax.specs.declared.parts.Direction.{Direction}
use Rattle.p416_syntax.specs.declared.parts.Direction.TheVariants.{Out, InOut}
use Rattle.p416_syntax.specs.declared.parts.Param.{Param}
use Rattle.p416_syntax.specs.declared.controls.Action16.{Action16}
use Rattle.p416_syntax.specs.Tree.{Exp16, name, member, call, argument, listed}
use Rattle.p416_syntax.specs.Names.{Name}
use Rattle.p416_syntax.specs.Kinds.{Kind, header, stack, packet_in, packet_out, table, object, is_stack}
use Rattle.p416_syntax.specs.Scopes.{Handed, Sort, an_action, a_function, Scope, sort_of}
use Rattle.p416_syntax.specs.Calls.{Place, any_bits, owner, emitted, place_of, method_signature}
use Rattle.p416_syntax.specs.Expressions.{kind_of, signature_of}
use Rattle.p416_syntax.specs.Uses.{wanted_by, arguments_of}
use Rattle.p416_syntax.specs.Writes.{is_written_place}
use Rattle.v1_core.specs.Values.{Value, member_in, number_in, width_in, some_bits, bits_of_list}
use Rattle.v1_core.specs.Frames.{Moment, going_on, Reference, with_inner}
use Rattle.v1_core.specs.Surroundings.{Surroundings, Applied, World, action_named}
use Rattle.v1_core.specs.Expressions.{Valued, valued, Referred, name_in, value_of}
use Rattle.v1_core.specs.HeaderCalls.{header_call, stack_call}
use Rattle.v1_core.specs.Externs.Packets.{extract, emit}
use Rattle.v1_core.specs.Calls.{Given, Arguments, items_of, by_value, by_reference, argument_at, arguments_from, arguments, target_at, value_at, number_at, copied_back, copied_out, bound_arguments, acted, call_action, function_call, named_call, object_in, object_call, stack_of_next, first_stack_of_next, method_call, call_leaves, call_statement}
use Rattle.shard_laws.specs.Likeness.{Pairing, Like, like, LikeValued, like_valued, LikeReferred, like_referred, LikeApplied, like_applied, LikeGiven, like_given, LikeArguments, like_arguments, LikeWorld}
use Rattle.shard_laws.proofs.Leaves.{either, puts, inner, goes}
use Rattle.shard_laws.proofs.Values.{values, references}
use Rattle.shard_laws.proofs.Externs.{header_calls, stack_calls, extracts, emits, functions, objects}

module _ (k : Pairing) where
  pub value_leaves : (x y : Valued) → LikeValued k x y → Like k x.moment y.moment
  value_leaves _ _ (like_valued v m n h) = h

  applied_leaves : (x y : Applied) → LikeApplied k x y → Like k x.moment y.moment
  applied_leaves _ _ (like_applied hit action m n h) = h

  given_by_value : (x y : Valued) → LikeValued k x y → LikeGiven k (by_value x) (by_value y)
  given_by_value _ _ (like_valued v m n h) = like_given _ m n h

  given_by_reference : (x y : Referred) → LikeReferred k x y → LikeGiven k (by_reference x) (by_reference y)
  given_by_reference _ _ (like_referred r m _ (like _ s w a b)) = like_given _ m _ (like m s w a b)

  either_given : (b : Bool) {x y v w : Given × Moment} → LikeGiven k x v → LikeGiven k y w → LikeGiven k (cond b x y) (cond b v w)
  either_given true h i = h
  either_given false h i = i

  copies_back : (d : Option Direction) (to : Reference) (v : Value) (m n : Moment) → Like k m n → Like k (copied_back d to v m) (copied_back d to v n)
  copies_back (Some Out) to v m n h = puts k to v m n h
  copies_back (Some InOut) to v m n h = puts k to v m n h
  copies_back _ to v m n h = h

  copies_out : (parameters : List Param) (given : List Given) (v : Value) (m n : Moment) → Like k m n → Like k (copied_out parameters given v m) (copied_out parameters given v n)
  copies_out [] given v m n h = h
  copies_out (p ∷ parameters) [] v m n h = h
  copies_out (p ∷ parameters) (g ∷ given) v m n h =
      copies_out parameters given v _ _ (copies_back p.direction g.target (member_in v p.name) m n h)

  copies_all : (parameters : List Param) (given : List Given) (v : Value) (m n : Moment) → Like k m n → Like k (copied_out parameters given m.frame.inner (with_inner v m)) (copied_out parameters given n.frame.inner (with_inner v n))
  copies_all parameters given v m _ (like _ s w a b) =
      copies_out parameters given m.frame.inner _ _ (inner k v m _ (like m s w a b))

  -- the stack whose `next` is extracted is the same
  same_reference : (x y : Referred) → LikeReferred k x y → x.reference ≡ y.reference
  same_reference _ _ (like_referred r m n h) = refl

  same_stack : (b : Surroundings) (s : Scope) (e : Exp16) (m n : Moment) → Like k m n → stack_of_next b s e m ≡ stack_of_next b s e n
  same_stack b s (member e word) m n h =
      ap (λ (r : Reference). cond (is_stack (kind_of s e) && bytes_eq word (codes "next")) (Some r) None) (same_reference _ _ (references k b s e m n h))
  same_stack b s _ m n h = refl

  same_next : (b : Surroundings) (s : Scope) (es : List Exp16) (m n : Moment) → Like k m n → first_stack_of_next b s es m ≡ first_stack_of_next b s es n
  same_next b s [] m n h = refl
  same_next b s (e ∷ es) m n h = same_stack b s e m n h

module _ (k : Pairing) (w : World) (same : LikeWorld k w) where
  item_behind : (x y : Valued) (g : Moment → Valued) → ((m n : Moment) → Like k m n → LikeValued k (g m) (g n)) → LikeValued k x y → LikeValued k (let z = g x.moment in valued (some_bits (bits_of_list x.value ++ bit_list (width_in z.value) (number_in z.value))) z.moment) (let z = g y.moment in valued (some_bits (bits_of_list y.value ++ bit_list (width_in z.value) (number_in z.value))) z.moment)
  item_behind _ _ g last_like (like_valued v m n h) = by (g m) (g n) (last_like m n h) where
    by : (x y : Valued) → LikeValued k x y → LikeValued k (valued (some_bits (bits_of_list v ++ bit_list (width_in x.value) (number_in x.value))) x.moment) (valued (some_bits (bits_of_list v ++ bit_list (width_in y.value) (number_in y.value))) y.moment)
    by _ _ (like_valued u p q i) = like_valued _ p q i

  items : (s : Scope) (e : Exp16) (m n : Moment) → Like k m n → LikeValued k (items_of w s e m) (items_of w s e n)
  items s (argument before last) m n h =
      item_behind _ _ (value_of w s any_bits last) (values k w same s any_bits last) (items s before m n h)
  items s _ m n h = like_valued _ m n h

  argument_given : (s : Scope) (p : Place) (e : Exp16) (m n : Moment) → Like k m n → LikeGiven k (argument_at w s p e m) (argument_at w s p e n)
  argument_given s p (listed es) m n h = given_by_value k _ _ (items s es m n h)
  argument_given s p e m n h =
      either_given k (is_written_place p) (given_by_reference k _ _ (references k w.around s e m n h)) (given_by_value k _ _ (values k w same s p e m n h))

  given_behind : (f : Moment → Arguments) → ((m n : Moment) → Like k m n → LikeArguments k (f m) (f n)) → (x y : Given × Moment) → LikeGiven k x y → LikeArguments k (let rest = f x.1 in record { given = x.0 ∷ rest.given; moment = rest.moment }) (let rest = f y.1 in record { given = y.0 ∷ rest.given; moment = rest.moment })
  given_behind f rest_like _ _ (like_given g m n h) = by (f m) (f n) (rest_like m n h) where
    by : (x y : Arguments) → LikeArguments k x y → LikeArguments k (record { given = g ∷ x.given; moment = x.moment }) (record { given = g ∷ y.given; moment = y.moment })
    by _ _ (like_arguments given p q i) = like_arguments _ p q i

  all_given : (s : Scope) (places : List Place) (es : List Exp16) (m n : Moment) → Like k m n → LikeArguments k (arguments_from w s places es m) (arguments_from w s places es n)
  all_given s [] es m n h = like_arguments [] m n h
  all_given s (p ∷ places) [] m n h = like_arguments [] m n h
  all_given s (p ∷ places) (e ∷ es) m n h =
      given_behind (arguments_from w s places es) (all_given s places es) _ _ (argument_given s p e m n h)

  acts : (a : Action16) (x y : Arguments) → LikeArguments k x y → Like k (acted w a x) (acted w a y)
  acts a _ _ (like_arguments given m _ (like _ s t c d)) =
      copies_all k a.parameters given m.frame.inner _ _ (same.acts a _ _ (inner k (bound_arguments w.around.scope a.parameters given) m _ (like m s t c d)))

  action_calls : (s : Scope) (handed : List Handed) (o : Option Action16) (given : Exp16) (m n : Moment) → Like k m n → Like k (call_action w s handed o given m) (call_action w s handed o given n)
  action_calls s handed None given m n h = h
  action_calls s handed (Some a) given m n h = acts a _ _ (all_given s (map place_of handed) (arguments_of given) m n h)

  -- a step by the arguments
  with_given : (f : List Given → Moment → Moment) → ((given : List Given) (m n : Moment) → Like k m n → Like k (f given m) (f given n)) → (x y : Arguments) → LikeArguments k x y → Like k (f x.given x.moment) (f y.given y.moment)
  with_given f keeps _ _ (like_arguments given m n h) = keeps given m n h

  named_calls : (s : Scope) (sort : Sort) (text : Name) (given : Exp16) (m n : Moment) → Like k m n → Like k (named_call w s sort text given m) (named_call w s sort text given n)
  named_calls s (an_action plane handed) text given m n h = action_calls s handed (action_named w.around text) given m n h
  named_calls s a_function text given m n h =
      with_given (function_call text) (functions k text) _ _ (all_given s (wanted_by (signature_of s (name text))) (arguments_of given) m n h)
  named_calls s _ text given m n h = h

  header_done : (word : Name) (x y : Referred) → LikeReferred k x y → Like k (going_on (header_call word x.reference) x.moment) (going_on (header_call word y.reference) y.moment)
  header_done word _ _ (like_referred r m n h) = goes k (header_call word r) m n h (header_calls k word r m n h)

  stack_done : (word : Name) (f : Moment → Arguments) → ((m n : Moment) → Like k m n → LikeArguments k (f m) (f n)) → (x y : Referred) → LikeReferred k x y → Like k (let z = f x.moment in going_on (stack_call word x.reference (number_at z.given 0)) z.moment) (let z = f y.moment in going_on (stack_call word y.reference (number_at z.given 0)) z.moment)
  stack_done word f given_like _ _ (like_referred r m n h) =
      with_given (λ given m. going_on (stack_call word r (number_at given 0)) m) (λ given p q i. goes k (stack_call word r (number_at given 0)) p q i (stack_calls k word r (number_at given 0) p q i)) _ _ (given_like m n h)

  method_calls : (s : Scope) (kind : Kind) (e : Exp16) (word : Name) (given : Exp16) (m n : Moment) → Like k m n → Like k (method_call w s kind e word given m) (method_call w s kind e word given n)
  method_calls s (header type) e word given m n h =
      either k (bytes_eq word (codes "isValid")) (value_leaves k _ _ (values k w same s owner e m n h))
      (header_done word _ _ (references k w.around s e m n h))
  method_calls s (stack type size) e word given m n h =
      let places = wanted_by (method_signature (stack type size) word) in
      stack_done word (arguments w s places given) (all_given s places (arguments_of given)) _ _ (references k w.around s e m n h)
  method_calls s packet_in e word given m n h =
      let next : Moment → Option Reference = first_stack_of_next w.around s (arguments_of given) in
      let x = arguments w s (wanted_by (method_signature packet_in word)) given in
      subst (λ (o : Option Reference). Like k (going_on (extract (target_at (x m).given 0) (next m)) (x m).moment) (going_on (extract (target_at (x n).given 0) o) (x n).moment)) (same_next k w.around s (arguments_of given) m n h)
      (with_given (λ g p. going_on (extract (target_at g 0) (next m)) p) (λ g p q i. goes k (extract (target_at g 0) (next m)) p q i (extracts k (target_at g 0) (next m) p q i)) _ _ (all_given s (wanted_by (method_signature packet_in word)) (arguments_of given) m n h))
  method_calls s packet_out e word given m n h =
      with_given (λ g p. emit (value_at g 0) p) (λ g p q i. emits k (value_at g 0) p q i) _ _ (all_given s (emitted ∷ []) (arguments_of given) m n h)
  method_calls s (object kind) e word given m n h =
      with_given (λ g p. object_call kind word (object_in w e) g p) (λ g p q i. objects k kind word (object_in w e) g p q i) _ _ (all_given s (wanted_by (method_signature (object kind) word)) (arguments_of given) m n h)
  method_calls s table e word given m n h = applied_leaves k _ _ (same.applies (name_in e) m n h)
  method_calls s _ e word given m n h = h

  calls_leave : (s : Scope) (e given : Exp16) (m n : Moment) → Like k m n → Like k (call_leaves w s e given m) (call_leaves w s e given n)
  calls_leave s (name text) given m n h = named_calls s (sort_of s text) text given m n h
  calls_leave s (member e word) given m n h = method_calls s (kind_of s e) e word given m n h
  calls_leave s _ given m n h = h

  pub calls : (s : Scope) (e : Exp16) (m n : Moment) → Like k m n → Like k (call_statement w s e m) (call_statement w s e n)
  calls s (call e given) m n h = calls_leave s e given m n h
  calls s e m n h = value_leaves k _ _ (values k w same s owner e m n h)
