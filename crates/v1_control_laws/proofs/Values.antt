-- What evaluating expressions and arguments keeps, where applying tables keeps it.
use Rattle.std.proofs.Common.{◌≡◌, ℕ, zero, suc, Bool, true, false, cond, Option, Some, List, [], ◌∷◌, length, take}
use Rattle.p4x_bits.specs.BitLists.{num, octet_bits}
use Rattle.p416_syntax.specs.declared.controls.Action16.{Action16}
use Rattle.p416_syntax.specs.declared.node.BinaryOperator.TheVariants.{Multiply, Add, Subtract, SaturatingAdd, SaturatingSubtract, Concatenate, ShiftLeft, ShiftRight, BitAnd, BitXor, BitOr, Less, LessEqual, Greater, GreaterEqual, Equal, NotEqual, And, Or}
use Rattle.p416_syntax.specs.Tree.{Exp16, literal, truth, error, name, member, index, slice, call, lookahead, cast, unary, binary, choice, parenthesized, no_arguments, argument, listed}
use Rattle.p416_syntax.specs.Names.{Name}
use Rattle.p416_syntax.specs.Kinds.{Kind, bits, unsized, boolean, error_code, header, stack, struct, packet_in, packet_out, errors, enumeration, one_of, table, applied, object, items, nothing, unknown}
use Rattle.p416_syntax.specs.Scopes.{Scope, kind_of_type}
use Rattle.p416_syntax.specs.Calls.{Place, value, any_bits, owner, a_stack}
use Rattle.p416_syntax.specs.Expressions.{kind_of}
use Rattle.p416_syntax.specs.Uses.{unary_place, left_place, right_place, cast_place, chosen_place}
use Rattle.p416_syntax.specs.Writes.{is_written_place}
use Rattle.fabric.specs.declared.items.RequestKind.{RequestKind}
use Rattle.v1_core.specs.declared.parser_error.ParserError.{ParserError}
use Rattle.v1_core.specs.declared.parser_error.ParserError.TheVariants.{PacketTooShort, StackOutOfBounds}
use Rattle.v1_core.specs.Values.{Value, a_number, is_true, place_in, elements_in, Step, to_element, to_member, Slice}
use Rattle.v1_core.specs.Frames.{Frame, Request, Moment, raised, Reference, nowhere, stepped, sliced_to, read, put_at, with_inner, with_frame, with_request, with_standard}
use Rattle.v1_core.specs.Surroundings.{Surroundings, World, named, action_named}
use Rattle.v1_core.specs.Expressions.{Valued, valued, element_by, is_beyond, bounded, member_value, method_value, has_bits, lookahead_bits, lookahead_value, slice_of, value_of, Referred, member_reference, reference_of}
use Rattle.v1_core.specs.Externs.Packets.{emit}
use Rattle.v1_control_laws.specs.Erring.{MayTell, FreeIn, Free, AllFree}
use Rattle.v1_core.specs.Calls.{items_of, by_value, by_reference, Given, argument_at, arguments_from, target_at}

pub either : {A : Type 0} (P : A → Type 0) (b : Bool) (x y : A) → P x → P y → P (cond b x y)
either P true x y h k = h
either P false x y h k = k

-- Of moments something holds that a write keeps at each of the references that l-values can mean, and that what is emitted and what
-- stands elsewhere keeps; an error, where one may come.
pub record Kept (b : Surroundings) (R : Type 0) (Q : Moment → Type 0) (Good : Reference → Type 0) : Type 0 where
  pub nothing_good : Good nowhere
  pub names : (f : Frame) (text : Name) → Good (named b f text)
  pub steps : (r : Reference) (step : Step) → Good r → Good (stepped r step)
  pub slices : (r : Reference) (s : Slice) → Good r → Good (sliced_to r s)
  pub puts : (r : Reference) (v : Value) (m : Moment) → Good r → Q m → Q (put_at r v m)
  pub inner : (v : Value) (m : Moment) → Q m → Q (with_inner v m)
  pub standard : (word : Name) (v : Value) (m : Moment) → Q m → Q (with_frame m (with_standard word v m.frame))
  pub requests : (kind : RequestKind) (r : Option Request) (m : Moment) → Q m → Q (with_frame m (with_request kind r m.frame))
  pub emits : (v : Value) (m : Moment) → Q m → Q (emit v m)
  pub raises : R → (e : ParserError) (m : Moment) → Q m → Q (raised e m)
  pub others : (m n : Moment) → n.frame ≡ m.frame → n.emitted ≡ m.emitted → n.stopped ≡ m.stopped → Q m → Q n

-- so what the actions of the block and tables do keeps it
pub record Keeps (w : World) (Q : Moment → Type 0) : Type 0 where
  pub acts : (text : Name) (a : Action16) → action_named w.around text ≡ Some a → (m : Moment) → Q m → Q (w.act a m)
  pub applies : (text : Name) (m : Moment) → Q m → Q (w.apply text m).moment

module _ (b : Surroundings) (R : Type 0) (Q : Moment → Type 0) (Good : Reference → Type 0) (kept : Kept b R Q Good) where
  bounded_kept : R → (word : Name) (v : Value) (m : Moment) → Q m → Q (bounded word v m)
  bounded_kept may word v m h =
      either Q (is_beyond word (place_in v) (length (elements_in v))) (raised StackOutOfBounds m) m (kept.raises may StackOutOfBounds m h) h

  member_kept : (k : Kind) (word : Name) (x : Valued) → MayTell R k → Q x.moment → Q (member_value k word x).moment
  member_kept (bits width) word x may h = h
  member_kept unsized word x may h = h
  member_kept boolean word x may h = h
  member_kept error_code word x may h = h
  member_kept (header type) word x may h = h
  member_kept (stack type many) word x may h = bounded_kept may word x.value x.moment h
  member_kept (struct type) word x may h = h
  member_kept packet_in word x may h = h
  member_kept packet_out word x may h = h
  member_kept errors word x may h = h
  member_kept (enumeration enum) word x may h = h
  member_kept (one_of enum) word x may h = h
  member_kept table word x may h = h
  member_kept applied word x may h = h
  member_kept (object of) word x may h = h
  member_kept items word x may h = h
  member_kept nothing word x may h = h
  member_kept unknown word x may h = h

  abbrev Left : Valued → Type 0
  Left x = Q x.moment

  ahead_kept : R → (width : ℕ) (m : Moment) → Q m → Q (lookahead_bits width m).moment
  ahead_kept may width m h =
      either Left (has_bits m width) (valued (a_number width (num (take width (octet_bits m.unparsed)))) m)
      (valued (a_number width 0) (raised PacketTooShort m)) h (kept.raises may PacketTooShort m h)

  lookahead_kept : R → (k : Kind) (m : Moment) → Q m → Q (lookahead_value k m).moment
  lookahead_kept may (bits width) m h = ahead_kept may width m h
  lookahead_kept may unsized m h = h
  lookahead_kept may boolean m h = h
  lookahead_kept may error_code m h = h
  lookahead_kept may (header type) m h = h
  lookahead_kept may (stack type many) m h = h
  lookahead_kept may (struct type) m h = h
  lookahead_kept may packet_in m h = h
  lookahead_kept may packet_out m h = h
  lookahead_kept may errors m h = h
  lookahead_kept may (enumeration enum) m h = h
  lookahead_kept may (one_of enum) m h = h
  lookahead_kept may table m h = h
  lookahead_kept may applied m h = h
  lookahead_kept may (object of) m h = h
  lookahead_kept may items m h = h
  lookahead_kept may nothing m h = h
  lookahead_kept may unknown m h = h

  -- l-values

  -- what an l-value means can be written, and finding it keeps what holds
  pub record Means (x : Referred) : Type 0 where
    pub moment : Q x.moment
    pub good : Good x.reference

  member_means : (k : Kind) (word : Name) (x : Referred) → MayTell R k → Means x → Means (member_reference k word x)
  member_means (bits width) word x may h = record { moment = h.moment; good = kept.steps x.reference (to_member word) h.good }
  member_means unsized word x may h = record { moment = h.moment; good = kept.steps x.reference (to_member word) h.good }
  member_means boolean word x may h = record { moment = h.moment; good = kept.steps x.reference (to_member word) h.good }
  member_means error_code word x may h = record { moment = h.moment; good = kept.steps x.reference (to_member word) h.good }
  member_means (header type) word x may h = record { moment = h.moment; good = kept.steps x.reference (to_member word) h.good }
  member_means (stack type many) word x may h =
      record { moment = bounded_kept may word (read x.moment.frame x.reference) x.moment h.moment; good = kept.steps x.reference (to_element (element_by word (place_in (read x.moment.frame x.reference)))) h.good }
  member_means (struct type) word x may h = record { moment = h.moment; good = kept.steps x.reference (to_member word) h.good }
  member_means packet_in word x may h = record { moment = h.moment; good = kept.steps x.reference (to_member word) h.good }
  member_means packet_out word x may h = record { moment = h.moment; good = kept.steps x.reference (to_member word) h.good }
  member_means errors word x may h = record { moment = h.moment; good = kept.steps x.reference (to_member word) h.good }
  member_means (enumeration enum) word x may h = record { moment = h.moment; good = kept.steps x.reference (to_member word) h.good }
  member_means (one_of enum) word x may h = record { moment = h.moment; good = kept.steps x.reference (to_member word) h.good }
  member_means table word x may h = record { moment = h.moment; good = kept.steps x.reference (to_member word) h.good }
  member_means applied word x may h = record { moment = h.moment; good = kept.steps x.reference (to_member word) h.good }
  member_means (object of) word x may h = record { moment = h.moment; good = kept.steps x.reference (to_member word) h.good }
  member_means items word x may h = record { moment = h.moment; good = kept.steps x.reference (to_member word) h.good }
  member_means nothing word x may h = record { moment = h.moment; good = kept.steps x.reference (to_member word) h.good }
  member_means unknown word x may h = record { moment = h.moment; good = kept.steps x.reference (to_member word) h.good }

  pub reference_means : (s : Scope) (e : Exp16) (m : Moment) → Free R s e → Q m → Means (reference_of b s e m)
  reference_means s (literal n) m free h = record { moment = h; good = kept.nothing_good }
  reference_means s (truth holds) m free h = record { moment = h; good = kept.nothing_good }
  reference_means s error m free h = record { moment = h; good = kept.nothing_good }
  reference_means s (name text) m free h = record { moment = h; good = kept.names m.frame text }
  reference_means s (member e word) m free h = member_means (kind_of s e) word (reference_of b s e m) free.0 (reference_means s e m free.1 h)
  reference_means s (index e at) m free h = let x = reference_means s e m free h in record { moment = x.moment; good = kept.steps (reference_of b s e m).reference (to_element at.value) x.good }
  reference_means s (slice e high low) m free h = let x = reference_means s e m free h in record { moment = x.moment; good = kept.slices (reference_of b s e m).reference (slice_of high low) x.good }
  reference_means s (call g more) m free h = record { moment = h; good = kept.nothing_good }
  reference_means s (lookahead e to more) m free h = record { moment = h; good = kept.nothing_good }
  reference_means s (cast to e) m free h = record { moment = h; good = kept.nothing_good }
  reference_means s (unary operator e) m free h = record { moment = h; good = kept.nothing_good }
  reference_means s (binary operator a b) m free h = record { moment = h; good = kept.nothing_good }
  reference_means s (choice d a b) m free h = record { moment = h; good = kept.nothing_good }
  reference_means s (parenthesized e) m free h = record { moment = h; good = kept.nothing_good }
  reference_means s no_arguments m free h = record { moment = h; good = kept.nothing_good }
  reference_means s (argument before last) m free h = record { moment = h; good = kept.nothing_good }
  reference_means s (listed es) m free h = record { moment = h; good = kept.nothing_good }

  -- arguments whose targets can be written
  abbrev pub AllGood : List Given → Type 0
  AllGood [] = Unit {0}
  AllGood (g ∷ given) = Good g.target × AllGood given

  pub good_at : (given : List Given) (n : ℕ) → AllGood given → Good (target_at given n)
  good_at [] n h = kept.nothing_good
  good_at (g ∷ given) zero h = h.0
  good_at (g ∷ given) (suc n) h = good_at given n h.1

module _ (w : World) (R : Type 0) (Q : Moment → Type 0) (Good : Reference → Type 0) (kept : Kept w.around R Q Good) (applies : (text : Name) (m : Moment) → Q m → Q (w.apply text m).moment) where
  abbrev Leaves : Valued → Type 0
  Leaves x = Q x.moment

  method_kept : (k : Kind) (e : Exp16) (x : Valued) → Q x.moment → Q (method_value w k e x).moment
  method_kept (bits width) e x h = h
  method_kept unsized e x h = h
  method_kept boolean e x h = h
  method_kept error_code e x h = h
  method_kept (header type) e x h = h
  method_kept (stack type many) e x h = h
  method_kept (struct type) e x h = h
  method_kept packet_in e x h = h
  method_kept packet_out e x h = h
  method_kept errors e x h = h
  method_kept (enumeration enum) e x h = h
  method_kept (one_of enum) e x h = h
  method_kept table e x h = applies _ x.moment h
  method_kept applied e x h = h
  method_kept (object of) e x h = h
  method_kept items e x h = h
  method_kept nothing e x h = h
  method_kept unknown e x h = h

  pub value_kept : (s : Scope) (p : Place) (e : Exp16) (m : Moment) → Free R s e → Q m → Q (value_of w s p e m).moment
  value_kept s p (literal n) m free h = h
  value_kept s p (truth holds) m free h = h
  value_kept s p error m free h = h
  value_kept s p (name text) m free h = h
  value_kept s p (member e word) m free h = member_kept w.around R Q Good kept (kind_of s e) word (value_of w s owner e m) free.0 (value_kept s owner e m free.1 h)
  value_kept s p (index e at) m free h = value_kept s a_stack e m free h
  value_kept s p (slice e high low) m free h = value_kept s any_bits e m free h
  value_kept s p (call (literal n) given) m free h = h
  value_kept s p (call (truth holds) given) m free h = h
  value_kept s p (call error given) m free h = h
  value_kept s p (call (name text) given) m free h = h
  value_kept s p (call (member e word) given) m free h = method_kept (kind_of s e) e (value_of w s owner e m) (value_kept s owner e m free h)
  value_kept s p (call (index e at) given) m free h = h
  value_kept s p (call (slice e high low) given) m free h = h
  value_kept s p (call (call g more) given) m free h = h
  value_kept s p (call (lookahead e to more) given) m free h = h
  value_kept s p (call (cast to e) given) m free h = h
  value_kept s p (call (unary operator e) given) m free h = h
  value_kept s p (call (binary operator a b) given) m free h = h
  value_kept s p (call (choice d a b) given) m free h = h
  value_kept s p (call (parenthesized e) given) m free h = h
  value_kept s p (call no_arguments given) m free h = h
  value_kept s p (call (argument before last) given) m free h = h
  value_kept s p (call (listed es) given) m free h = h
  value_kept s p (lookahead e to more) m free h = lookahead_kept w.around R Q Good kept free (kind_of_type s.names to) m h
  value_kept s p (cast to e) m free h = value_kept s (cast_place to) e m free h
  value_kept s p (unary operator e) m free h = value_kept s (unary_place p operator (kind_of s e)) e m free h
  value_kept s p (binary And a b) m free h =
      let first = value_kept s (value boolean) a m free.0 h in
      either Leaves (is_true (value_of w s (value boolean) a m).value) (value_of w s (value boolean) b (value_of w s (value boolean) a m).moment) (value_of w s (value boolean) a m)
      (value_kept s (value boolean) b (value_of w s (value boolean) a m).moment free.1 first) first
  value_kept s p (binary Or a b) m free h =
      let first = value_kept s (value boolean) a m free.0 h in
      either Leaves (is_true (value_of w s (value boolean) a m).value) (value_of w s (value boolean) a m) (value_of w s (value boolean) b (value_of w s (value boolean) a m).moment)
      first (value_kept s (value boolean) b (value_of w s (value boolean) a m).moment free.1 first)
  value_kept s p (binary Multiply a b) m free h =
      value_kept s (right_place p Multiply (kind_of s a) (kind_of s b)) b (value_of w s (left_place p Multiply (kind_of s a) (kind_of s b)) a m).moment free.1
      (value_kept s (left_place p Multiply (kind_of s a) (kind_of s b)) a m free.0 h)
  value_kept s p (binary Add a b) m free h =
      value_kept s (right_place p Add (kind_of s a) (kind_of s b)) b (value_of w s (left_place p Add (kind_of s a) (kind_of s b)) a m).moment free.1
      (value_kept s (left_place p Add (kind_of s a) (kind_of s b)) a m free.0 h)
  value_kept s p (binary Subtract a b) m free h =
      value_kept s (right_place p Subtract (kind_of s a) (kind_of s b)) b (value_of w s (left_place p Subtract (kind_of s a) (kind_of s b)) a m).moment free.1
      (value_kept s (left_place p Subtract (kind_of s a) (kind_of s b)) a m free.0 h)
  value_kept s p (binary SaturatingAdd a b) m free h =
      value_kept s (right_place p SaturatingAdd (kind_of s a) (kind_of s b)) b (value_of w s (left_place p SaturatingAdd (kind_of s a) (kind_of s b)) a m).moment free.1
      (value_kept s (left_place p SaturatingAdd (kind_of s a) (kind_of s b)) a m free.0 h)
  value_kept s p (binary SaturatingSubtract a b) m free h =
      value_kept s (right_place p SaturatingSubtract (kind_of s a) (kind_of s b)) b (value_of w s (left_place p SaturatingSubtract (kind_of s a) (kind_of s b)) a m).moment free.1
      (value_kept s (left_place p SaturatingSubtract (kind_of s a) (kind_of s b)) a m free.0 h)
  value_kept s p (binary Concatenate a b) m free h =
      value_kept s (right_place p Concatenate (kind_of s a) (kind_of s b)) b (value_of w s (left_place p Concatenate (kind_of s a) (kind_of s b)) a m).moment free.1
      (value_kept s (left_place p Concatenate (kind_of s a) (kind_of s b)) a m free.0 h)
  value_kept s p (binary ShiftLeft a b) m free h =
      value_kept s (right_place p ShiftLeft (kind_of s a) (kind_of s b)) b (value_of w s (left_place p ShiftLeft (kind_of s a) (kind_of s b)) a m).moment free.1
      (value_kept s (left_place p ShiftLeft (kind_of s a) (kind_of s b)) a m free.0 h)
  value_kept s p (binary ShiftRight a b) m free h =
      value_kept s (right_place p ShiftRight (kind_of s a) (kind_of s b)) b (value_of w s (left_place p ShiftRight (kind_of s a) (kind_of s b)) a m).moment free.1
      (value_kept s (left_place p ShiftRight (kind_of s a) (kind_of s b)) a m free.0 h)
  value_kept s p (binary BitAnd a b) m free h =
      value_kept s (right_place p BitAnd (kind_of s a) (kind_of s b)) b (value_of w s (left_place p BitAnd (kind_of s a) (kind_of s b)) a m).moment free.1
      (value_kept s (left_place p BitAnd (kind_of s a) (kind_of s b)) a m free.0 h)
  value_kept s p (binary BitXor a b) m free h =
      value_kept s (right_place p BitXor (kind_of s a) (kind_of s b)) b (value_of w s (left_place p BitXor (kind_of s a) (kind_of s b)) a m).moment free.1
      (value_kept s (left_place p BitXor (kind_of s a) (kind_of s b)) a m free.0 h)
  value_kept s p (binary BitOr a b) m free h =
      value_kept s (right_place p BitOr (kind_of s a) (kind_of s b)) b (value_of w s (left_place p BitOr (kind_of s a) (kind_of s b)) a m).moment free.1
      (value_kept s (left_place p BitOr (kind_of s a) (kind_of s b)) a m free.0 h)
  value_kept s p (binary Less a b) m free h =
      value_kept s (right_place p Less (kind_of s a) (kind_of s b)) b (value_of w s (left_place p Less (kind_of s a) (kind_of s b)) a m).moment free.1
      (value_kept s (left_place p Less (kind_of s a) (kind_of s b)) a m free.0 h)
  value_kept s p (binary LessEqual a b) m free h =
      value_kept s (right_place p LessEqual (kind_of s a) (kind_of s b)) b (value_of w s (left_place p LessEqual (kind_of s a) (kind_of s b)) a m).moment free.1
      (value_kept s (left_place p LessEqual (kind_of s a) (kind_of s b)) a m free.0 h)
  value_kept s p (binary Greater a b) m free h =
      value_kept s (right_place p Greater (kind_of s a) (kind_of s b)) b (value_of w s (left_place p Greater (kind_of s a) (kind_of s b)) a m).moment free.1
      (value_kept s (left_place p Greater (kind_of s a) (kind_of s b)) a m free.0 h)
  value_kept s p (binary GreaterEqual a b) m free h =
      value_kept s (right_place p GreaterEqual (kind_of s a) (kind_of s b)) b (value_of w s (left_place p GreaterEqual (kind_of s a) (kind_of s b)) a m).moment free.1
      (value_kept s (left_place p GreaterEqual (kind_of s a) (kind_of s b)) a m free.0 h)
  value_kept s p (binary Equal a b) m free h =
      value_kept s (right_place p Equal (kind_of s a) (kind_of s b)) b (value_of w s (left_place p Equal (kind_of s a) (kind_of s b)) a m).moment free.1
      (value_kept s (left_place p Equal (kind_of s a) (kind_of s b)) a m free.0 h)
  value_kept s p (binary NotEqual a b) m free h =
      value_kept s (right_place p NotEqual (kind_of s a) (kind_of s b)) b (value_of w s (left_place p NotEqual (kind_of s a) (kind_of s b)) a m).moment free.1
      (value_kept s (left_place p NotEqual (kind_of s a) (kind_of s b)) a m free.0 h)
  value_kept s p (choice d a b) m free h =
      let n = (value_of w s (value boolean) d m).moment in
      let first = value_kept s (value boolean) d m free.0 h in
      either Leaves (is_true (value_of w s (value boolean) d m).value) (value_of w s (chosen_place p (kind_of s a) (kind_of s b)) a n) (value_of w s (chosen_place p (kind_of s a) (kind_of s b)) b n)
      (value_kept s (chosen_place p (kind_of s a) (kind_of s b)) a n free.1 first) (value_kept s (chosen_place p (kind_of s a) (kind_of s b)) b n free.2 first)
  value_kept s p (parenthesized e) m free h = h
  value_kept s p no_arguments m free h = h
  value_kept s p (argument before last) m free h = h
  value_kept s p (listed es) m free h = h

  items_kept : (s : Scope) (e : Exp16) (m : Moment) → FreeIn R s true e → Q m → Q (items_of w s e m).moment
  items_kept s (literal n) m free h = h
  items_kept s (truth holds) m free h = h
  items_kept s error m free h = h
  items_kept s (name text) m free h = h
  items_kept s (member e word) m free h = h
  items_kept s (index e at) m free h = h
  items_kept s (slice e high low) m free h = h
  items_kept s (call g more) m free h = h
  items_kept s (lookahead e to more) m free h = h
  items_kept s (cast to e) m free h = h
  items_kept s (unary operator e) m free h = h
  items_kept s (binary operator a b) m free h = h
  items_kept s (choice d a b) m free h = h
  items_kept s (parenthesized e) m free h = h
  items_kept s no_arguments m free h = h
  items_kept s (argument before last) m free h = value_kept s any_bits last (items_of w s before m).moment free.1 (items_kept s before m free.0 h)
  items_kept s (listed es) m free h = h

  -- an argument whose target can be written
  abbrev OneGiven : Given × Moment → Type 0
  OneGiven x = Good x.0.target × Q x.1

  argument_kept : (s : Scope) (p : Place) (e : Exp16) (m : Moment) → Free R s e → Q m → OneGiven (argument_at w s p e m)
  argument_kept s p (literal n) m free h = let r = reference_means w.around R Q Good kept s (literal n) m free h in either OneGiven (is_written_place p) (by_reference (reference_of w.around s (literal n) m)) (by_value (value_of w s p (literal n) m)) (r.good, r.moment) (kept.nothing_good, value_kept s p (literal n) m free h)
  argument_kept s p (truth holds) m free h = let r = reference_means w.around R Q Good kept s (truth holds) m free h in either OneGiven (is_written_place p) (by_reference (reference_of w.around s (truth holds) m)) (by_value (value_of w s p (truth holds) m)) (r.good, r.moment) (kept.nothing_good, value_kept s p (truth holds) m free h)
  argument_kept s p error m free h = let r = reference_means w.around R Q Good kept s error m free h in either OneGiven (is_written_place p) (by_reference (reference_of w.around s error m)) (by_value (value_of w s p error m)) (r.good, r.moment) (kept.nothing_good, value_kept s p error m free h)
  argument_kept s p (name text) m free h = let r = reference_means w.around R Q Good kept s (name text) m free h in either OneGiven (is_written_place p) (by_reference (reference_of w.around s (name text) m)) (by_value (value_of w s p (name text) m)) (r.good, r.moment) (kept.nothing_good, value_kept s p (name text) m free h)
  argument_kept s p (member e word) m free h = let r = reference_means w.around R Q Good kept s (member e word) m free h in either OneGiven (is_written_place p) (by_reference (reference_of w.around s (member e word) m)) (by_value (value_of w s p (member e word) m)) (r.good, r.moment) (kept.nothing_good, value_kept s p (member e word) m free h)
  argument_kept s p (index e at) m free h = let r = reference_means w.around R Q Good kept s (index e at) m free h in either OneGiven (is_written_place p) (by_reference (reference_of w.around s (index e at) m)) (by_value (value_of w s p (index e at) m)) (r.good, r.moment) (kept.nothing_good, value_kept s p (index e at) m free h)
  argument_kept s p (slice e high low) m free h = let r = reference_means w.around R Q Good kept s (slice e high low) m free h in either OneGiven (is_written_place p) (by_reference (reference_of w.around s (slice e high low) m)) (by_value (value_of w s p (slice e high low) m)) (r.good, r.moment) (kept.nothing_good, value_kept s p (slice e high low) m free h)
  argument_kept s p (call g more) m free h = let r = reference_means w.around R Q Good kept s (call g more) m free h in either OneGiven (is_written_place p) (by_reference (reference_of w.around s (call g more) m)) (by_value (value_of w s p (call g more) m)) (r.good, r.moment) (kept.nothing_good, value_kept s p (call g more) m free h)
  argument_kept s p (lookahead e to more) m free h = let r = reference_means w.around R Q Good kept s (lookahead e to more) m free h in either OneGiven (is_written_place p) (by_reference (reference_of w.around s (lookahead e to more) m)) (by_value (value_of w s p (lookahead e to more) m)) (r.good, r.moment) (kept.nothing_good, value_kept s p (lookahead e to more) m free h)
  argument_kept s p (cast to e) m free h = let r = reference_means w.around R Q Good kept s (cast to e) m free h in either OneGiven (is_written_place p) (by_reference (reference_of w.around s (cast to e) m)) (by_value (value_of w s p (cast to e) m)) (r.good, r.moment) (kept.nothing_good, value_kept s p (cast to e) m free h)
  argument_kept s p (unary operator e) m free h = let r = reference_means w.around R Q Good kept s (unary operator e) m free h in either OneGiven (is_written_place p) (by_reference (reference_of w.around s (unary operator e) m)) (by_value (value_of w s p (unary operator e) m)) (r.good, r.moment) (kept.nothing_good, value_kept s p (unary operator e) m free h)
  argument_kept s p (binary operator a b) m free h = let r = reference_means w.around R Q Good kept s (binary operator a b) m free h in either OneGiven (is_written_place p) (by_reference (reference_of w.around s (binary operator a b) m)) (by_value (value_of w s p (binary operator a b) m)) (r.good, r.moment) (kept.nothing_good, value_kept s p (binary operator a b) m free h)
  argument_kept s p (choice d a b) m free h = let r = reference_means w.around R Q Good kept s (choice d a b) m free h in either OneGiven (is_written_place p) (by_reference (reference_of w.around s (choice d a b) m)) (by_value (value_of w s p (choice d a b) m)) (r.good, r.moment) (kept.nothing_good, value_kept s p (choice d a b) m free h)
  argument_kept s p (parenthesized e) m free h = let r = reference_means w.around R Q Good kept s (parenthesized e) m free h in either OneGiven (is_written_place p) (by_reference (reference_of w.around s (parenthesized e) m)) (by_value (value_of w s p (parenthesized e) m)) (r.good, r.moment) (kept.nothing_good, value_kept s p (parenthesized e) m free h)
  argument_kept s p no_arguments m free h = let r = reference_means w.around R Q Good kept s no_arguments m free h in either OneGiven (is_written_place p) (by_reference (reference_of w.around s no_arguments m)) (by_value (value_of w s p no_arguments m)) (r.good, r.moment) (kept.nothing_good, value_kept s p no_arguments m free h)
  argument_kept s p (argument before last) m free h = let r = reference_means w.around R Q Good kept s (argument before last) m free h in either OneGiven (is_written_place p) (by_reference (reference_of w.around s (argument before last) m)) (by_value (value_of w s p (argument before last) m)) (r.good, r.moment) (kept.nothing_good, value_kept s p (argument before last) m free h)
  argument_kept s p (listed es) m free h = (kept.nothing_good, items_kept s es m free h)

  pub arguments_kept : (s : Scope) (places : List Place) (es : List Exp16) (m : Moment) → AllFree R s es → Q m → AllGood w.around R Q Good kept (arguments_from w s places es m).given × Q (arguments_from w s places es m).moment
  arguments_kept s [] es m free h = (tt, h)
  arguments_kept s (p ∷ places) [] m free h = (tt, h)
  arguments_kept s (p ∷ places) (e ∷ es) m free h =
      let first = argument_kept s p e m free.0 h in
      let rest = arguments_kept s places es (argument_at w s p e m).1 free.1 first.1 in
      ((first.0, rest.0), rest.1)
