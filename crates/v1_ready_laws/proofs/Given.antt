-- What an expression gives, made up of what its parts give.
use Rattle.std.proofs.Common.{◌≡◌, inl, inr, ℕ, ◌+◌, ◌*◌, ◌-◌, nat_lt, ◌==◌, Bool, true, false, not, cond, Option, Some, None, IfSome, option_map, is_some, length, take, refl, sym, ap, subst, ◌∙◌}
use Rattle.p4x_bits.specs.BitLists.{num, octet_bits}
use Rattle.p416_syntax.specs.Tree.{Exp16, literal, truth, error, name, member, index, slice, call, lookahead, cast, unary, binary, choice, parenthesized, no_arguments, argument, listed}
use Rattle.p416_syntax.specs.Names.{Name}
use Rattle.p416_syntax.specs.Kinds.{Kind, bits, unsized, boolean, error_code, header, stack, struct, packet_in, packet_out, errors, enumeration, one_of, table, applied, object, items, nothing, unknown}
use Rattle.p416_syntax.specs.Scopes.{Scope}
use Rattle.p416_syntax.specs.Calls.{owner}
use Rattle.v1_core.specs.declared.parser_error.ParserError.{ParserError}
use Rattle.v1_core.specs.declared.parser_error.ParserError.TheVariants.{PacketTooShort, StackOutOfBounds}
use Rattle.v1_core.specs.Values.{Value, a_number, a_truth, an_error, header_in, place_in, elements_in, part_of, to_member, to_element, is_true}
use Rattle.v1_core.specs.Frames.{Moment, raised}
use Rattle.v1_core.specs.Surroundings.{World}
use Rattle.v1_core.specs.Expressions.{Valued, valued, number_of_error, is_last, element_by as element_by16, is_beyond, member_value, method_value, lookahead_value, value_of}
use Rattle.v1_core.specs.Cells.{Cells}
use Rattle.v1_core.specs.declared.node.Which.TheVariants.{Next, Last}
use Rattle.v1_core.specs.Ready.{Ready, constant, ahead, Ended, given, failed, and_then, element_by, is_past, ready_value}
use Rattle.v1_ready_forms.specs.Ways.{Way, its_value, its_validity, through_member, through_element, through_told, which_of}
use Rattle.v1_ready_forms.specs.Expressions.{alone, with_two, with_three, only_error, member_ready, method_ready, lookahead_ready}
use Rattle.v1_ready_laws.specs.Asked.{asked_value, stopped_by, Gives}

-- what evaluating gives in a moment that nothing stopped, and that it changes nothing in one that is stopped
pub record Runs (m : Moment) (end : Ended) (way : Way) (evaluate : Moment → Valued) : Type 0 where
  pub gives : Gives end way (evaluate m) m
  pub stays : (e : ParserError) → (evaluate (stopped_by e m)).moment ≡ stopped_by e m

-- a ready expression of that
abbrev pub Holds : Cells → Moment → Way → (Moment → Valued) → Ready → Type 0
Holds c m way evaluate r = Runs m (ready_value c m.unparsed r) way evaluate

-- options

pub if_alone : (c : Cells) (m : Moment) (way : Way) (o : Option Ready) (evaluate : Moment → Valued) → IfSome o (Holds c m its_value evaluate) → IfSome (alone way o) (Holds c m way evaluate)
if_alone c m its_value o evaluate h = h
if_alone c m its_validity o evaluate h = tt
if_alone c m (through_member word way) o evaluate h = tt
if_alone c m (through_element number way) o evaluate h = tt
if_alone c m (through_told which way) o evaluate h = tt

pub if_more : {A : Type 0} (P Q : A → Type 0) (o : Option A) → ((x : A) → P x → Q x) → IfSome o P → IfSome o Q
if_more P Q None f h = tt
if_more P Q (Some x) f h = f x h

pub if_map : {A B : Type 0} (P : A → Type 0) (Q : B → Type 0) (g : A → B) (o : Option A) → ((x : A) → P x → Q (g x)) → IfSome o P → IfSome (option_map g o) Q
if_map P Q g None f h = tt
if_map P Q g (Some x) f h = f x h

pub if_two : (P Q R : Ready → Type 0) (g : Ready → Ready → Ready) (o p : Option Ready) → ((x y : Ready) → P x → Q y → R (g x y)) → IfSome o P → IfSome p Q → IfSome (with_two g o p) R
if_two P Q R g None None f h k = tt
if_two P Q R g None (Some y) f h k = tt
if_two P Q R g (Some x) None f h k = tt
if_two P Q R g (Some x) (Some y) f h k = f x y h k

pub if_three : (P Q R S : Ready → Type 0) (g : Ready → Ready → Ready → Ready) (o p q : Option Ready) → ((x y z : Ready) → P x → Q y → R z → S (g x y z)) → IfSome o P → IfSome p Q → IfSome q R → IfSome (with_three g o p q) S
if_three P Q R S g None None None f h k l = tt
if_three P Q R S g None None (Some z) f h k l = tt
if_three P Q R S g None (Some y) None f h k l = tt
if_three P Q R S g None (Some y) (Some z) f h k l = tt
if_three P Q R S g (Some x) None None f h k l = tt
if_three P Q R S g (Some x) None (Some z) f h k l = tt
if_three P Q R S g (Some x) (Some y) None f h k l = tt
if_three P Q R S g (Some x) (Some y) (Some z) f h k l = f x y z h k l

-- single values

pub constant_runs : (m : Moment) (v : Value) → Runs m (given v) its_value (valued v)
constant_runs m v = record { gives = inl (refl, refl); stays = λ e. refl }

-- an operator on one value
pub one_runs : (m : Moment) (end : Ended) (evaluate : Moment → Valued) (f : Value → Ended) (g : Value → Value) → ((v : Value) → f v ≡ given (g v)) → Runs m end its_value evaluate → Runs m (and_then end f) its_value (λ n. valued (g (evaluate n).value) (evaluate n).moment)
one_runs m end evaluate f g same h = record { gives = by h.gives; stays = h.stays } where
  by : Gives end its_value (evaluate m) m → Gives (and_then end f) its_value (valued (g (evaluate m).value) (evaluate m).moment) m
  by (inl x) = inl (x.0, ap (λ (z : Ended). and_then z f) x.1 ∙ same (evaluate m).value)
  by (inr x) = inr (x.0, x.1, ap (λ (z : Ended). and_then z f) x.2)

-- an operator on two
pub two_runs : (m : Moment) (a b : Ended) (left right : Moment → Valued) (f : Value → Value → Value) (g : Value → Value → Value) → f (left m).value (right m).value ≡ g (left m).value (right m).value → Runs m a its_value left → Runs m b its_value right → Runs m (and_then a (λ x. and_then b (λ y. given (f x y)))) its_value (λ n. valued (g (left n).value (right (left n).moment).value) (right (left n).moment).moment)
two_runs m a b left right f g same h k = record {
  gives = by h.gives k.gives;
  stays = λ e. ap (λ (n : Moment). (right n).moment) (h.stays e) ∙ k.stays e;
} where
  by : Gives a its_value (left m) m → Gives b its_value (right m) m → Gives (and_then a (λ x. and_then b (λ y. given (f x y)))) its_value (valued (g (left m).value (right (left m).moment).value) (right (left m).moment).moment) m
  by (inl x) (inl y) = inl (
    ap (λ (n : Moment). (right n).moment) x.0 ∙ y.0,
    ap (λ (z : Ended). and_then z (λ v. and_then b (λ u. given (f v u)))) x.1 ∙ ap (λ (z : Ended). and_then z (λ u. given (f (left m).value u))) y.1
        ∙ ap given (same ∙ ap (λ (n : Moment). g (left m).value (right n).value) (sym x.0)),
  )
  by (inl x) (inr y) = inr (
    y.0,
    ap (λ (n : Moment). (right n).moment) x.0 ∙ y.1,
    ap (λ (z : Ended). and_then z (λ v. and_then b (λ u. given (f v u)))) x.1 ∙ ap (λ (z : Ended). and_then z (λ u. given (f (left m).value u))) y.2,
  )
  by (inr x) y = inr (x.0, ap (λ (n : Moment). (right n).moment) x.1 ∙ k.stays x.0, ap (λ (z : Ended). and_then z (λ v. and_then b (λ u. given (f v u)))) x.2)

-- a second value where the first one is true, and where it is false
pub choice_runs : (m : Moment) (way : Way) (a b d : Ended) (first positive other : Moment → Valued) → Runs m a its_value first → Runs m b way positive → Runs m d way other → Runs m (and_then a (λ x. cond (is_true x) b d)) way (λ n. cond (is_true (first n).value) (positive (first n).moment) (other (first n).moment))
choice_runs m way a b d first positive other h k l = record {
  gives = by h.gives (is_true (first m).value) refl;
  stays = λ e. stay e (is_true (first (stopped_by e m)).value);
} where
  stay : (e : ParserError) (t : Bool) → (let x : Valued = cond t (positive (first (stopped_by e m)).moment) (other (first (stopped_by e m)).moment) in x.moment) ≡ stopped_by e m
  stay e true = ap (λ (n : Moment). (positive n).moment) (h.stays e) ∙ k.stays e
  stay e false = ap (λ (n : Moment). (other n).moment) (h.stays e) ∙ l.stays e

  failing : (e : ParserError) (t : Bool) → (first m).moment ≡ stopped_by e m → (let x : Valued = cond t (positive (first m).moment) (other (first m).moment) in x.moment) ≡ stopped_by e m
  failing e true moved = ap (λ (n : Moment). (positive n).moment) moved ∙ k.stays e
  failing e false moved = ap (λ (n : Moment). (other n).moment) moved ∙ l.stays e

  chosen : (t : Bool) → (first m).moment ≡ m → Gives (cond t b d) way (cond t (positive (first m).moment) (other (first m).moment)) m
  chosen true moved = subst (λ (n : Moment). Gives b way (positive n) m) (sym moved) k.gives
  chosen false moved = subst (λ (n : Moment). Gives d way (other n) m) (sym moved) l.gives

  by : Gives a its_value (first m) m → (t : Bool) → is_true (first m).value ≡ t → Gives (and_then a (λ x. cond (is_true x) b d)) way (cond (is_true (first m).value) (positive (first m).moment) (other (first m).moment)) m
  by (inl x) t is = subst (λ (z : Ended). Gives (and_then z (λ v. cond (is_true v) b d)) way (cond (is_true (first m).value) (positive (first m).moment) (other (first m).moment)) m) (sym x.1) (chosen (is_true (first m).value) x.0)
  by (inr x) t is = inr (x.0, failing x.0 (is_true (first m).value) x.1, ap (λ (z : Ended). and_then z (λ v. cond (is_true v) b d)) x.2)

-- `&&` and `||`: the first, where it tells
abbrev pub both_end : Ended → Ended → Ended
both_end a b = and_then a (λ x. cond (is_true x) b (given x))

abbrev pub either_end : Ended → Ended → Ended
either_end a b = and_then a (λ x. cond (is_true x) (given x) b)

pub both_runs : (m : Moment) (a b : Ended) (first second : Moment → Valued) → Runs m a its_value first → Runs m b its_value second → Runs m (both_end a b) its_value (λ n. cond (is_true (first n).value) (second (first n).moment) (first n))
both_runs m a b first second h k = record {
  gives = by h.gives;
  stays = λ e. stay e (is_true (first (stopped_by e m)).value);
} where
  stay : (e : ParserError) (t : Bool) → (let x : Valued = cond t (second (first (stopped_by e m)).moment) (first (stopped_by e m)) in x.moment) ≡ stopped_by e m
  stay e true = ap (λ (n : Moment). (second n).moment) (h.stays e) ∙ k.stays e
  stay e false = h.stays e

  failing : (e : ParserError) (t : Bool) → (first m).moment ≡ stopped_by e m → (let x : Valued = cond t (second (first m).moment) (first m) in x.moment) ≡ stopped_by e m
  failing e true moved = ap (λ (n : Moment). (second n).moment) moved ∙ k.stays e
  failing e false moved = moved

  chosen : (t : Bool) → (first m).moment ≡ m → Gives (cond t b (given (first m).value)) its_value (cond t (second (first m).moment) (first m)) m
  chosen true moved = subst (λ (n : Moment). Gives b its_value (second n) m) (sym moved) k.gives
  chosen false moved = inl (moved, refl)

  by : Gives a its_value (first m) m → Gives (both_end a b) its_value (cond (is_true (first m).value) (second (first m).moment) (first m)) m
  by (inl x) = subst (λ (z : Ended). Gives (both_end z b) its_value (cond (is_true (first m).value) (second (first m).moment) (first m)) m) (sym x.1) (chosen (is_true (first m).value) x.0)
  by (inr x) = inr (x.0, failing x.0 (is_true (first m).value) x.1, ap (λ (z : Ended). both_end z b) x.2)

pub either_runs : (m : Moment) (a b : Ended) (first second : Moment → Valued) → Runs m a its_value first → Runs m b its_value second → Runs m (either_end a b) its_value (λ n. cond (is_true (first n).value) (first n) (second (first n).moment))
either_runs m a b first second h k = record {
  gives = by h.gives;
  stays = λ e. stay e (is_true (first (stopped_by e m)).value);
} where
  stay : (e : ParserError) (t : Bool) → (let x : Valued = cond t (first (stopped_by e m)) (second (first (stopped_by e m)).moment) in x.moment) ≡ stopped_by e m
  stay e true = h.stays e
  stay e false = ap (λ (n : Moment). (second n).moment) (h.stays e) ∙ k.stays e

  failing : (e : ParserError) (t : Bool) → (first m).moment ≡ stopped_by e m → (let x : Valued = cond t (first m) (second (first m).moment) in x.moment) ≡ stopped_by e m
  failing e true moved = moved
  failing e false moved = ap (λ (n : Moment). (second n).moment) moved ∙ k.stays e

  chosen : (t : Bool) → (first m).moment ≡ m → Gives (cond t (given (first m).value) b) its_value (cond t (first m) (second (first m).moment)) m
  chosen true moved = inl (moved, refl)
  chosen false moved = subst (λ (n : Moment). Gives b its_value (second n) m) (sym moved) k.gives

  by : Gives a its_value (first m) m → Gives (either_end a b) its_value (cond (is_true (first m).value) (first m) (second (first m).moment)) m
  by (inl x) = subst (λ (z : Ended). Gives (either_end z b) its_value (cond (is_true (first m).value) (first m) (second (first m).moment)) m) (sym x.1) (chosen (is_true (first m).value) x.0)
  by (inr x) = inr (x.0, failing x.0 (is_true (first m).value) x.1, ap (λ (z : Ended). either_end z b) x.2)

-- parts

pub member_runs : (m : Moment) (end : Ended) (word : Name) (way : Way) (evaluate : Moment → Valued) → Runs m end (through_member word way) evaluate → Runs m end way (λ n. valued (part_of (evaluate n).value (to_member word)) (evaluate n).moment)
member_runs m end word way evaluate h = record { gives = h.gives; stays = h.stays }

pub element_runs : (m : Moment) (end : Ended) (number : ℕ) (way : Way) (evaluate : Moment → Valued) → Runs m end (through_element number way) evaluate → Runs m end way (λ n. valued (part_of (evaluate n).value (to_element number)) (evaluate n).moment)
element_runs m end number way evaluate h = record { gives = h.gives; stays = h.stays }

validity_runs : (m : Moment) (end : Ended) (evaluate : Moment → Valued) → Runs m end its_validity evaluate → Runs m end its_value (λ n. valued (a_truth (header_in (evaluate n).value).valid) (evaluate n).moment)
validity_runs m end evaluate h = record { gives = h.gives; stays = h.stays }

-- the element that the place of a stack tells

told_number : (word : Name) (place : ℕ) → element_by (which_of word) place ≡ element_by16 word place
told_number word place = by (is_last word) where
  by : (t : Bool) → element_by (cond t Last Next) place ≡ cond t (place - 1) place
  by true = refl
  by false = refl

told_past : (word : Name) (place size : ℕ) → is_past (which_of word) place size ≡ is_beyond word place size
told_past word place size = by (is_last word) where
  by : (t : Bool) → is_past (cond t Last Next) place size ≡ cond t (place == 0) (not (nat_lt place size))
  by true = refl
  by false = refl

stays_stopped : (e f : ParserError) (n m : Moment) (t : Bool) → n ≡ stopped_by e m → cond t (raised f n) n ≡ stopped_by e m
stays_stopped e f n m true is = ap (raised f) is
stays_stopped e f n m false is = is

raised_is : (e : ParserError) (m : Moment) → m.stopped ≡ None → raised e m ≡ stopped_by e m
raised_is e m runs = ap (λ (t : Bool). cond t m (stopped_by e m)) (ap is_some runs)

pub told_runs : (m : Moment) (end : Ended) (word : Name) (way : Way) (type : Name) (size : ℕ) (evaluate : Moment → Valued) → m.stopped ≡ None → Runs m end (through_told (which_of word) way) evaluate → Runs m end way (λ n. member_value (stack type size) word (evaluate n))
told_runs m end word way type size evaluate runs h = record {
  gives = by h.gives;
  stays = λ e. stays_stopped e StackOutOfBounds (evaluate (stopped_by e m)).moment m _ (h.stays e);
} where
  told : (x : Valued) (t : Bool) → x.moment ≡ m → is_beyond word (place_in x.value) (length (elements_in x.value)) ≡ t → end ≡ cond t (failed StackOutOfBounds) (asked_value way (part_of x.value (to_element (element_by16 word (place_in x.value))))) → Gives end way (member_value (stack type size) word x) m
  told x true moved past is = inr (StackOutOfBounds, ap (λ (t : Bool). cond t (raised StackOutOfBounds x.moment) x.moment) past ∙ ap (raised StackOutOfBounds) moved ∙ raised_is StackOutOfBounds m runs, is)
  told x false moved past is = inl (ap (λ (t : Bool). cond t (raised StackOutOfBounds x.moment) x.moment) past ∙ moved, is)

  by : Gives end (through_told (which_of word) way) (evaluate m) m → Gives end way (member_value (stack type size) word (evaluate m)) m
  by (inl x) =
      let v = (evaluate m).value in
      told (evaluate m) (is_beyond word (place_in v) (length (elements_in v))) x.0 refl
      (x.1 ∙ ap (λ (t : Bool). cond t (failed StackOutOfBounds) (asked_value way (part_of v (to_element (element_by (which_of word) (place_in v)))))) (told_past word (place_in v) (length (elements_in v)))
      ∙ ap (λ (n : ℕ). cond (is_beyond word (place_in v) (length (elements_in v))) (failed StackOutOfBounds) (asked_value way (part_of v (to_element n)))) (told_number word (place_in v)))
  by (inr x) = inr (x.0, stays_stopped x.0 StackOutOfBounds (evaluate m).moment m _ x.1, x.2)

-- members, by the kind of what stands before them

error_runs : (w : World) (s : Scope) (c : Cells) (m : Moment) (way : Way) (word : Name) (e : Exp16) → IfSome (only_error e (alone way (Some (constant (an_error (number_of_error word)))))) (Holds c m way (λ n. member_value errors word (value_of w s owner e n)))
error_runs w s c m way word error = if_alone c m way (Some (constant (an_error (number_of_error word)))) (valued (an_error (number_of_error word))) (constant_runs m (an_error (number_of_error word)))
error_runs w s c m way word (literal n) = tt
error_runs w s c m way word (truth holds) = tt
error_runs w s c m way word (name text) = tt
error_runs w s c m way word (member e other) = tt
error_runs w s c m way word (index e at) = tt
error_runs w s c m way word (slice e high low) = tt
error_runs w s c m way word (call f handed) = tt
error_runs w s c m way word (lookahead e to handed) = tt
error_runs w s c m way word (cast to e) = tt
error_runs w s c m way word (unary operator e) = tt
error_runs w s c m way word (binary operator a b) = tt
error_runs w s c m way word (choice d a b) = tt
error_runs w s c m way word (parenthesized e) = tt
error_runs w s c m way word no_arguments = tt
error_runs w s c m way word (argument before last) = tt
error_runs w s c m way word (listed es) = tt

-- a field or a member
through : (c : Cells) (m : Moment) (word : Name) (way : Way) (ask : Way → Option Ready) (evaluate : Moment → Valued) → ((further : Way) → IfSome (ask further) (Holds c m further evaluate)) → IfSome (ask (through_member word way)) (Holds c m way (λ n. valued (part_of (evaluate n).value (to_member word)) (evaluate n).moment))
through c m word way ask evaluate h =
    if_more (Holds c m (through_member word way) evaluate) (Holds c m way (λ n. valued (part_of (evaluate n).value (to_member word)) (evaluate n).moment)) (ask (through_member word way))
    (λ r x. member_runs m (ready_value c m.unparsed r) word way evaluate x) (h (through_member word way))

pub members_run : (w : World) (s : Scope) (c : Cells) (m : Moment) (k : Kind) (e : Exp16) (word : Name) (way : Way) (ask : Way → Option Ready) → m.stopped ≡ None → ((further : Way) → IfSome (ask further) (Holds c m further (value_of w s owner e))) → IfSome (member_ready k e word way ask) (Holds c m way (λ n. member_value k word (value_of w s owner e n)))
members_run w s c m errors e word way ask runs h = error_runs w s c m way word e
members_run w s c m (enumeration of) e word way ask runs h = tt
members_run w s c m (stack type size) e word way ask runs h =
    if_more (Holds c m (through_told (which_of word) way) (value_of w s owner e)) (Holds c m way (λ n. member_value (stack type size) word (value_of w s owner e n))) (ask (through_told (which_of word) way))
    (λ r x. told_runs m (ready_value c m.unparsed r) word way type size (value_of w s owner e) runs x) (h (through_told (which_of word) way))
members_run w s c m (bits width) e word way ask runs h = through c m word way ask (value_of w s owner e) h
members_run w s c m unsized e word way ask runs h = through c m word way ask (value_of w s owner e) h
members_run w s c m boolean e word way ask runs h = through c m word way ask (value_of w s owner e) h
members_run w s c m error_code e word way ask runs h = through c m word way ask (value_of w s owner e) h
members_run w s c m (header type) e word way ask runs h = through c m word way ask (value_of w s owner e) h
members_run w s c m (struct type) e word way ask runs h = through c m word way ask (value_of w s owner e) h
members_run w s c m packet_in e word way ask runs h = through c m word way ask (value_of w s owner e) h
members_run w s c m packet_out e word way ask runs h = through c m word way ask (value_of w s owner e) h
members_run w s c m (one_of of) e word way ask runs h = through c m word way ask (value_of w s owner e) h
members_run w s c m table e word way ask runs h = through c m word way ask (value_of w s owner e) h
members_run w s c m applied e word way ask runs h = through c m word way ask (value_of w s owner e) h
members_run w s c m (object of) e word way ask runs h = through c m word way ask (value_of w s owner e) h
members_run w s c m items e word way ask runs h = through c m word way ask (value_of w s owner e) h
members_run w s c m nothing e word way ask runs h = through c m word way ask (value_of w s owner e) h
members_run w s c m unknown e word way ask runs h = through c m word way ask (value_of w s owner e) h

-- methods, by the kind of what stands before them
pub methods_run : (w : World) (c : Cells) (m : Moment) (k : Kind) (e : Exp16) (way : Way) (ask : Way → Option Ready) (evaluate : Moment → Valued) → ((further : Way) → IfSome (ask further) (Holds c m further evaluate)) → IfSome (method_ready k way ask) (Holds c m way (λ n. method_value w k e (evaluate n)))
methods_run w c m (header type) e way ask evaluate h =
    if_alone c m way (ask its_validity) (λ n. valued (a_truth (header_in (evaluate n).value).valid) (evaluate n).moment)
    (if_more (Holds c m its_validity evaluate) (Holds c m its_value (λ n. valued (a_truth (header_in (evaluate n).value).valid) (evaluate n).moment)) (ask its_validity)
    (λ r x. validity_runs m (ready_value c m.unparsed r) evaluate x) (h its_validity))
methods_run w c m (bits width) e way ask evaluate h = tt
methods_run w c m unsized e way ask evaluate h = tt
methods_run w c m boolean e way ask evaluate h = tt
methods_run w c m error_code e way ask evaluate h = tt
methods_run w c m (stack type size) e way ask evaluate h = tt
methods_run w c m (struct type) e way ask evaluate h = tt
methods_run w c m packet_in e way ask evaluate h = tt
methods_run w c m packet_out e way ask evaluate h = tt
methods_run w c m errors e way ask evaluate h = tt
methods_run w c m (enumeration of) e way ask evaluate h = tt
methods_run w c m (one_of of) e way ask evaluate h = tt
methods_run w c m table e way ask evaluate h = tt
methods_run w c m applied e way ask evaluate h = tt
methods_run w c m (object of) e way ask evaluate h = tt
methods_run w c m items e way ask evaluate h = tt
methods_run w c m nothing e way ask evaluate h = tt
methods_run w c m unknown e way ask evaluate h = tt

-- bits ahead

ahead_runs : (c : Cells) (m : Moment) (width : ℕ) → m.stopped ≡ None → Holds c m its_value (λ n. lookahead_value (bits width) n) (ahead width)
ahead_runs c m width runs = record {
  gives = by (nat_lt width (8 * length m.unparsed + 1));
  stays = λ e. stay e (nat_lt width (8 * length m.unparsed + 1));
} where
  by : (t : Bool) → Gives (cond t (given (a_number width (num (take width (octet_bits m.unparsed))))) (failed PacketTooShort)) its_value (cond t (valued (a_number width (num (take width (octet_bits m.unparsed)))) m) (valued (a_number width 0) (raised PacketTooShort m))) m
  by true = inl (refl, refl)
  by false = inr (PacketTooShort, raised_is PacketTooShort m runs, refl)

  stay : (e : ParserError) (t : Bool) → (let x : Valued = cond t (valued (a_number width (num (take width (octet_bits m.unparsed)))) (stopped_by e m)) (valued (a_number width 0) (raised PacketTooShort (stopped_by e m))) in x.moment) ≡ stopped_by e m
  stay e true = refl
  stay e false = refl

pub lookahead_runs : (c : Cells) (m : Moment) (way : Way) (k : Kind) → m.stopped ≡ None → IfSome (alone way (lookahead_ready k)) (Holds c m way (λ n. lookahead_value k n))
lookahead_runs c m way k runs = if_alone c m way (lookahead_ready k) (λ n. lookahead_value k n) (by k) where
  by : (k : Kind) → IfSome (lookahead_ready k) (Holds c m its_value (λ n. lookahead_value k n))
  by (bits width) = ahead_runs c m width runs
  by unsized = tt
  by boolean = tt
  by error_code = tt
  by (header type) = tt
  by (stack type size) = tt
  by (struct type) = tt
  by packet_in = tt
  by packet_out = tt
  by errors = tt
  by (enumeration of) = tt
  by (one_of of) = tt
  by table = tt
  by applied = tt
  by (object of) = tt
  by items = tt
  by nothing = tt
  by unknown = tt
