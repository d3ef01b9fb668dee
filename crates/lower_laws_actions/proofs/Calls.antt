-- Arguments of calls, and calls of objects.
use Rattle.std.proofs.Common.{◌≡◌, ℕ, false, true, cond, None, List, refl, ap, ◌∙◌}
use Rattle.std.specs.Prelude.{codes, is_some}
use Rattle.p414_sem.specs.declared.standard.Standard.TheVariants.{PacketLength}
use Rattle.p414_sem.specs.Effects.{Moment as Moment14}
use Rattle.p416_syntax.specs.Tree.{Exp16, literal, truth, error, name, member, index, slice, call, lookahead, cast, unary, binary, choice, parenthesized, no_arguments, argument, listed}
use Rattle.p416_syntax.specs.Names.{Name, has_name}
use Rattle.p416_syntax.specs.BuiltIn.{functions}
use Rattle.p416_syntax.specs.Kinds.{Kind, bits, object, counter, register, ObjectKind}
use Rattle.p416_syntax.specs.Scopes.{Scope, Sort, a_function as of_function, sort_of}
use Rattle.p416_syntax.specs.Uses.{wanted_by}
use Rattle.p416_syntax.specs.Calls.{Place, index_place, written_bits, any_bits}
use Rattle.p416_syntax.specs.Expressions.{kind_of, sort_kind, sort_signature}
use Rattle.p416_syntax.specs.Writes.{is_written_place}
use Rattle.v1_core.specs.Values.{Value, a_number, number_in}
use Rattle.v1_core.specs.Frames.{Moment, Reference, ticked, nowhere}
use Rattle.v1_core.specs.Surroundings.{World}
use Rattle.v1_core.specs.Expressions.{value_of, reference_of}
use Rattle.v1_core.specs.Calls.{Given, by_value, by_reference, argument_at, arguments, object_in, method_call, named_call, function_call}
use Rattle.v1_core.specs.Externs.Objects.{packet_length, count, register_read, register_write}
use Rattle.v1_core.specs.Statements.{no_label, run}
use Rattle.agreement_of_meanings.proofs.Names.{is_there, part_is}
use Rattle.lower_laws_base.specs.Context.{Local, Lowering, words_of, object_at, an_object, a_function, Sees, StateLayout, Aside, Stands}
use Rattle.lower_laws_base.proofs.Means.{Means}
use Rattle.lower_laws_actions.specs.Mirror.{function_stmt, object_stmt, one_argument, two_arguments}
use Rattle.lower_laws_actions.specs.Fits.{IsObject}
use Rattle.lower_laws_base.specs.Gives.{Gives}

-- what is of bits is no list in braces
pub one_by_one : (w : World) (s : Scope) (p : Place) (e : Exp16) (width : ℕ) (n : Moment) → kind_of s e ≡ bits width → is_written_place p ≡ false → argument_at w s p e n ≡ by_value (value_of w s p e n)
one_by_one w s p (literal l) width n kind plain = ap (λ b. cond b (by_reference (reference_of w.around s (literal l) n)) (by_value (value_of w s p (literal l) n))) plain
one_by_one w s p (truth b) width n kind plain = absurd (cc kind)
one_by_one w s p error width n kind plain = absurd (cc kind)
one_by_one w s p (name text) width n kind plain = ap (λ b. cond b (by_reference (reference_of w.around s (name text) n)) (by_value (value_of w s p (name text) n))) plain
one_by_one w s p (member e word) width n kind plain = ap (λ b. cond b (by_reference (reference_of w.around s (member e word) n)) (by_value (value_of w s p (member e word) n))) plain
one_by_one w s p (index e at) width n kind plain = ap (λ b. cond b (by_reference (reference_of w.around s (index e at) n)) (by_value (value_of w s p (index e at) n))) plain
one_by_one w s p (slice e h l) width n kind plain = ap (λ b. cond b (by_reference (reference_of w.around s (slice e h l) n)) (by_value (value_of w s p (slice e h l) n))) plain
one_by_one w s p (call e g) width n kind plain = ap (λ b. cond b (by_reference (reference_of w.around s (call e g) n)) (by_value (value_of w s p (call e g) n))) plain
one_by_one w s p (lookahead e t g) width n kind plain = ap (λ b. cond b (by_reference (reference_of w.around s (lookahead e t g) n)) (by_value (value_of w s p (lookahead e t g) n))) plain
one_by_one w s p (cast t e) width n kind plain = ap (λ b. cond b (by_reference (reference_of w.around s (cast t e) n)) (by_value (value_of w s p (cast t e) n))) plain
one_by_one w s p (unary o e) width n kind plain = ap (λ b. cond b (by_reference (reference_of w.around s (unary o e) n)) (by_value (value_of w s p (unary o e) n))) plain
one_by_one w s p (binary o a b) width n kind plain = ap (λ t. cond t (by_reference (reference_of w.around s (binary o a b) n)) (by_value (value_of w s p (binary o a b) n))) plain
one_by_one w s p (choice c a b) width n kind plain = ap (λ t. cond t (by_reference (reference_of w.around s (choice c a b) n)) (by_value (value_of w s p (choice c a b) n))) plain
one_by_one w s p (parenthesized e) width n kind plain = absurd (cc kind)
one_by_one w s p no_arguments width n kind plain = absurd (cc kind)
one_by_one w s p (argument a b) width n kind plain = absurd (cc kind)
one_by_one w s p (listed e) width n kind plain = absurd (cc kind)

-- a number as an argument
abbrev pub a_given : ℕ → ℕ → Given
a_given width k = record { target = nowhere; value = a_number width k }

pub number_given : (w : World) (s : Scope) (p : Place) (e : Exp16) (width k : ℕ) (n : Moment) → is_written_place p ≡ false → Gives w s n e width k → argument_at w s p e n ≡ (a_given width k, n)
number_given w s p e width k n plain g = one_by_one w s p e width n g.kind plain ∙ ap by_value (g.value p)

-- bits that are written, as an argument
pub written_given : (w : World) (s : Scope) (e : Exp16) (width : ℕ) (n : Moment) → kind_of s e ≡ bits width → argument_at w s written_bits e n ≡ by_reference (reference_of w.around s e n)
written_given w s (literal l) width n kind = refl
written_given w s (truth b) width n kind = refl
written_given w s error width n kind = refl
written_given w s (name text) width n kind = refl
written_given w s (member e word) width n kind = refl
written_given w s (index e at) width n kind = refl
written_given w s (slice e h l) width n kind = refl
written_given w s (call e g) width n kind = refl
written_given w s (lookahead e t g) width n kind = refl
written_given w s (cast t e) width n kind = refl
written_given w s (unary o e) width n kind = refl
written_given w s (binary o a b) width n kind = refl
written_given w s (choice c a b) width n kind = refl
written_given w s (parenthesized e) width n kind = refl
written_given w s no_arguments width n kind = refl
written_given w s (argument a b) width n kind = refl
written_given w s (listed e) width n kind = absurd (cc kind)

-- the octets of the packet
pub length_is : (g : StateLayout) (ls : List Local) (vs : List Value) (k : Aside) (m : Moment14) (n : Moment) → Stands g ls vs k m n → packet_length n.frame ≡ m.state.packet_length
length_is g ls vs k m n stands =
    let there = stands.both.packet.agrees.standard PacketLength in
    ap number_in (part_is n.frame.standard (codes "packet_length") (ap is_there there) ∙ there)

-- objects

module _ (c : Lowering) (s : Scope) (ls : List Local) (sees : Sees c s ls) (kind : ObjectKind) (number : ℕ) (is : IsObject c kind number) where
  abbrev called : Name
  called = (object_at c.objects number).called

  pub object_kind : kind_of s (name called) ≡ object kind
  object_kind = ap sort_kind (sees.declares.named (an_object number) is.0) ∙ ap object is.1

  pub object_number : object_in c.world (name called) ≡ number
  object_number = sees.declares.numbered number is.0

  -- a call of a method, where nothing stopped
  pub object_called : (word : Name) (given : Exp16) (n : Moment) → n.stopped ≡ None → run c.world s no_label (object_stmt (words_of c) number word given) n ≡ method_call c.world s (object kind) (name called) word given (ticked n)
  object_called word given n runs =
      ap (λ b. cond b n (method_call c.world s (kind_of s (name called)) (name called) word given (ticked n))) (ap is_some runs)
      ∙ ap (λ (z : Kind). method_call c.world s z (name called) word given (ticked n)) object_kind

-- c.count(i)
pub counts : (c : Lowering) (s : Scope) (ls : List Local) → Sees c s ls → (number : ℕ) → IsObject c counter number → (width k : ℕ) (e : Exp16) (n : Moment) → n.stopped ≡ None → Gives c.world s (ticked n) e width k → run c.world s no_label (object_stmt (words_of c) number (codes "count") (one_argument e)) n ≡ count number k (ticked n)
counts c s ls sees number is width k e n runs g =
    object_called c s ls sees counter number is (codes "count") (one_argument e) n runs
    ∙ ap (λ (x : Given × Moment). count (object_in c.world (name (object_at c.objects number).called)) (number_in x.0.value) x.1) (number_given c.world s index_place e width k (ticked n) refl g)
    ∙ ap (λ z. count z k (ticked n)) (object_number c s ls sees counter number is)

-- r.read(v, i)
pub reads : (c : Lowering) (s : Scope) (ls : List Local) → Sees c s ls → (number : ℕ) → IsObject c register number → (width own k : ℕ) (to e : Exp16) (r : Reference) (n : Moment) → n.stopped ≡ None → Means c.world s to (bits own) r (ticked n) → Gives c.world s (ticked n) e width k → run c.world s no_label (object_stmt (words_of c) number (codes "read") (two_arguments to e)) n ≡ register_read number r k (ticked n)
reads c s ls sees number is width own k to e r n runs m g =
    object_called c s ls sees register number is (codes "read") (two_arguments to e) n runs
    ∙ ap (λ (t : Given × Moment). let u = argument_at c.world s index_place e t.1 in register_read (object_in c.world (name (object_at c.objects number).called)) t.0.target (number_in u.0.value) u.1)
    (written_given c.world s to own (ticked n) m.kind ∙ ap by_reference m.reference)
    ∙ ap (λ (u : Given × Moment). register_read (object_in c.world (name (object_at c.objects number).called)) r (number_in u.0.value) u.1) (number_given c.world s index_place e width k (ticked n) refl g)
    ∙ ap (λ z. register_read z r k (ticked n)) (object_number c s ls sees register number is)

-- r.write(i, v)
pub stores : (c : Lowering) (s : Scope) (ls : List Local) → Sees c s ls → (number : ℕ) → IsObject c register number → (width own k j : ℕ) (e f : Exp16) (n : Moment) → n.stopped ≡ None → Gives c.world s (ticked n) e width k → Gives c.world s (ticked n) f own j → run c.world s no_label (object_stmt (words_of c) number (codes "write") (two_arguments e f)) n ≡ register_write number k j (ticked n)
stores c s ls sees number is width own k j e f n runs g h =
    object_called c s ls sees register number is (codes "write") (two_arguments e f) n runs
    ∙ ap (λ (t : Given × Moment). let u = argument_at c.world s any_bits f t.1 in register_write (object_in c.world (name (object_at c.objects number).called)) (number_in t.0.value) (number_in u.0.value) u.1)
    (number_given c.world s index_place e width k (ticked n) refl g)
    ∙ ap (λ (u : Given × Moment). register_write (object_in c.world (name (object_at c.objects number).called)) k (number_in u.0.value) u.1) (number_given c.world s any_bits f own j (ticked n) refl h)
    ∙ ap (λ z. register_write z k j (ticked n)) (object_number c s ls sees register number is)

-- calls of functions

module _ (c : Lowering) (s : Scope) (ls : List Local) (sees : Sees c s ls) (text : Name) (is : has_name functions text ≡ true) (given : Exp16) where
  abbrev pub called_as : Sort → Moment → Moment
  called_as sort n = let x = arguments c.world s (wanted_by (sort_signature sort text)) given n in function_call text x.given x.moment

  pub function_called : (n : Moment) → n.stopped ≡ None → run c.world s no_label (function_stmt text given) n ≡ called_as of_function (ticked n)
  function_called n runs =
      let sort = sees.declares.named (a_function text) is in
      ap (λ b. cond b n (named_call c.world s (sort_of s text) text given (ticked n))) (ap is_some runs)
      ∙ ap (λ (z : Sort). named_call c.world s z text given (ticked n)) sort
      ∙ ap (λ (z : Sort). called_as z (ticked n)) sort
