-- What expressions give in moments that are alike.
use Rattle.std.proofs.Common.{Bool, true, false, cond, length}
use Rattle.p416_syntax.specs.declared.node.BinaryOperator.TheVariants.{And, Or}
use Rattle.p416_syntax.specs.Tree.{Exp16, literal, truth, name, member, index, slice, call, lookahead, cast, unary, binary, choice}
use Rattle.p416_syntax.specs.Names.{Name}
use Rattle.p416_syntax.specs.Kinds.{Kind, bits, boolean, header, stack, errors, enumeration, table}
use Rattle.p416_syntax.specs.Scopes.{Scope, kind_of_type}
use Rattle.p416_syntax.specs.Calls.{Place, value, any_bits, owner, a_stack as an_indexed_stack}
use Rattle.p416_syntax.specs.Expressions.{kind_of}
use Rattle.p416_syntax.specs.Uses.{unary_place, left_place, right_place, cast_place, chosen_place}
use Rattle.v1_core.specs.declared.parser_error.ParserError.TheVariants.{PacketTooShort, StackOutOfBounds}
use Rattle.v1_core.specs.Values.{Value, a_number, no_value, number_in, is_true, place_in, elements_in, to_element, part_of, sliced}
use Rattle.v1_core.specs.Numbers.{unary_value, binary_value, cast_value}
use Rattle.v1_core.specs.Frames.{Moment, Reference, nowhere, stepped, sliced_to, read}
use Rattle.v1_core.specs.Surroundings.{Surroundings, Applied, World}
use Rattle.v1_core.specs.Expressions.{Valued, valued, is_beyond, bounded, member_value, slice_of, name_in, told, method_value, has_bits, lookahead_value, value_of, Referred, referred, member_reference, reference_of}
use Rattle.shard_laws.specs.Likeness.{Pairing, Like, like, LikeValued, like_valued, LikeReferred, like_referred, LikeApplied, like_applied, LikeWorld}
use Rattle.shard_laws.proofs.Leaves.{either, raises}

pub either_valued : (k : Pairing) (b : Bool) {x y v w : Valued} → LikeValued k x v → LikeValued k y w → LikeValued k (cond b x y) (cond b v w)
either_valued k true h i = h
either_valued k false h i = i

bounds : (k : Pairing) (word : Name) (v : Value) (m n : Moment) → Like k m n → Like k (bounded word v m) (bounded word v n)
bounds k word v m n h = either k (is_beyond word (place_in v) (length (elements_in v))) (raises k StackOutOfBounds m n h) h

-- another value
changed : (k : Pairing) (f : Value → Value) (x y : Valued) → LikeValued k x y → LikeValued k (valued (f x.value) x.moment) (valued (f y.value) y.moment)
changed k f _ _ (like_valued v m n h) = like_valued (f v) m n h

members : (k : Pairing) (kind : Kind) (word : Name) (x y : Valued) → LikeValued k x y → LikeValued k (member_value kind word x) (member_value kind word y)
members k errors word _ _ (like_valued v m n h) = like_valued _ m n h
members k (enumeration e) word _ _ (like_valued v m n h) = like_valued _ m n h
members k (stack type size) word _ _ (like_valued v m n h) = like_valued _ _ _ (bounds k word v m n h)
members k _ word _ _ (like_valued v m n h) = like_valued _ m n h

tells : (k : Pairing) (a b : Applied) → LikeApplied k a b → LikeValued k (told a) (told b)
tells k _ _ (like_applied hit action m n h) = like_valued _ m n h

methods : (k : Pairing) (w : World) → LikeWorld k w → (kind : Kind) (e : Exp16) (x y : Valued) → LikeValued k x y → LikeValued k (method_value w kind e x) (method_value w kind e y)
methods k w same table e _ _ (like_valued v m n h) = tells k _ _ (same.applies (name_in e) m n h)
methods k w same (header type) e _ _ (like_valued v m n h) = like_valued _ m n h
methods k w same _ e _ _ (like_valued v m n h) = like_valued _ m n h

ahead : (k : Pairing) (kind : Kind) (m n : Moment) → Like k m n → LikeValued k (lookahead_value kind m) (lookahead_value kind n)
ahead k (bits width) m _ (like _ s w a b) =
    either_valued k (has_bits m width) (like_valued _ m _ (like m s w a b)) (like_valued _ _ _ (raises k PacketTooShort m _ (like m s w a b)))
ahead k _ m n h = like_valued _ m n h

module _ (k : Pairing) (w : World) (same : LikeWorld k w) where
  -- two operands
  both : (f : Value → Value → Value) (x y : Valued) (g : Moment → Valued) → ((m n : Moment) → Like k m n → LikeValued k (g m) (g n)) → LikeValued k x y → LikeValued k (valued (f x.value (g x.moment).value) (g x.moment).moment) (valued (f y.value (g y.moment).value) (g y.moment).moment)
  both f _ _ g then_like (like_valued v m n h) = changed k (f v) _ _ (then_like m n h)

  -- as the value tells, one or the other
  chosen : (x y : Valued) (f g : Moment → Valued) → ((m n : Moment) → Like k m n → LikeValued k (f m) (f n)) → ((m n : Moment) → Like k m n → LikeValued k (g m) (g n)) → LikeValued k x y → LikeValued k (cond (is_true x.value) (f x.moment) (g x.moment)) (cond (is_true y.value) (f y.moment) (g y.moment))
  chosen _ _ f g yes_like no_like (like_valued v m n h) = either_valued k (is_true v) (yes_like m n h) (no_like m n h)

  if_holds : (x y : Valued) (f : Moment → Valued) → ((m n : Moment) → Like k m n → LikeValued k (f m) (f n)) → LikeValued k x y → LikeValued k (cond (is_true x.value) (f x.moment) x) (cond (is_true y.value) (f y.moment) y)
  if_holds _ _ f yes_like (like_valued v m n h) = either_valued k (is_true v) (yes_like m n h) (like_valued v m n h)

  if_fails : (x y : Valued) (f : Moment → Valued) → ((m n : Moment) → Like k m n → LikeValued k (f m) (f n)) → LikeValued k x y → LikeValued k (cond (is_true x.value) x (f x.moment)) (cond (is_true y.value) y (f y.moment))
  if_fails _ _ f no_like (like_valued v m n h) = either_valued k (is_true v) (like_valued v m n h) (no_like m n h)

  pub values : (s : Scope) (p : Place) (e : Exp16) (m n : Moment) → Like k m n → LikeValued k (value_of w s p e m) (value_of w s p e n)
  values s p (literal n) l m h = like_valued _ l m h
  values s p (truth holds) m n h = like_valued _ m n h
  values s p (name text) m _ (like _ t u a b) = like_valued _ m _ (like m t u a b)
  values s p (member e word) m n h = members k (kind_of s e) word _ _ (values s owner e m n h)
  values s p (index e at) m n h = changed k (λ v. part_of v (to_element at.value)) _ _ (values s an_indexed_stack e m n h)
  values s p (slice e high low) m n h = changed k (λ v. a_number (slice_of high low).width (sliced (slice_of high low) (number_in v))) _ _ (values s any_bits e m n h)
  values s p (call (member e word) given) m n h = methods k w same (kind_of s e) e _ _ (values s owner e m n h)
  values s p (lookahead e to given) m n h = ahead k (kind_of_type s.names to) m n h
  values s p (cast to e) m n h = changed k (cast_value to) _ _ (values s (cast_place to) e m n h)
  values s p (unary operator e) m n h = changed k (unary_value operator) _ _ (values s (unary_place p operator (kind_of s e)) e m n h)
  values s p (binary And a b) m n h = if_holds _ _ (value_of w s (value boolean) b) (values s (value boolean) b) (values s (value boolean) a m n h)
  values s p (binary Or a b) m n h = if_fails _ _ (value_of w s (value boolean) b) (values s (value boolean) b) (values s (value boolean) a m n h)
  values s p (binary operator a b) m n h =
      both (binary_value operator) _ _ (value_of w s (right_place p operator (kind_of s a) (kind_of s b)) b) (values s (right_place p operator (kind_of s a) (kind_of s b)) b)
      (values s (left_place p operator (kind_of s a) (kind_of s b)) a m n h)
  values s p (choice c a b) m n h =
      chosen _ _ (value_of w s (chosen_place p (kind_of s a) (kind_of s b)) a) (value_of w s (chosen_place p (kind_of s a) (kind_of s b)) b) (values s (chosen_place p (kind_of s a) (kind_of s b)) a) (values s (chosen_place p (kind_of s a) (kind_of s b)) b) (values s (value boolean) c m n h)
  values s p _ m n h = like_valued no_value m n h

-- l-values

met : (k : Pairing) (f : Reference → Reference) (x y : Referred) → LikeReferred k x y → LikeReferred k (referred (f x.reference) x.moment) (referred (f y.reference) y.moment)
met k f _ _ (like_referred r m n h) = like_referred (f r) m n h

member_met : (k : Pairing) (kind : Kind) (word : Name) (x y : Referred) → LikeReferred k x y → LikeReferred k (member_reference kind word x) (member_reference kind word y)
member_met k (stack type size) word _ _ (like_referred r m _ (like _ t u a b)) =
    like_referred _ _ _ (bounds k word (read m.frame r) m _ (like m t u a b))
member_met k _ word _ _ (like_referred r m n h) = like_referred _ m n h

pub references : (k : Pairing) (b : Surroundings) (s : Scope) (e : Exp16) (m n : Moment) → Like k m n → LikeReferred k (reference_of b s e m) (reference_of b s e n)
references k b s (name text) m _ (like _ t u c d) = like_referred _ m _ (like m t u c d)
references k b s (member e word) m n h = member_met k (kind_of s e) word _ _ (references k b s e m n h)
references k b s (index e at) m n h = met k (λ r. stepped r (to_element at.value)) _ _ (references k b s e m n h)
references k b s (slice e high low) m n h = met k (λ r. sliced_to r (slice_of high low)) _ _ (references k b s e m n h)
references k b s _ m n h = like_referred nowhere m n h
