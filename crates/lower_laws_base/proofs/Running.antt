-- Statements one after another, with the variables that they declare.
use Rattle.std.proofs.Common.{◌≡◌, ◌≢◌, ℕ, zero, suc, ◌+◌, ◌<◌, ◌%◌, ◌^◌, Bool, true, cond, None, List, ◌∷◌, length, refl, sym, ap, ◌∙◌, arith}
use Rattle.std.specs.Prelude.{is_some}
use Rattle.p414_sem.specs.Effects.{Moment as Moment14}
use Rattle.p416_syntax.specs.declared.parts.Type16.{Type16}
use Rattle.p416_syntax.specs.declared.parts.Type16.TheVariants.{Bit}
use Rattle.p416_syntax.specs.Tree.{Stmt16, var}
use Rattle.p416_syntax.specs.Names.{Name}
use Rattle.p416_syntax.specs.Kinds.{bits}
use Rattle.p416_syntax.specs.Scopes.{Scope, a_value, sort_of, kind_of_type}
use Rattle.p416_syntax.specs.Statements.{with_variable}
use Rattle.v1_core.specs.Values.{width_in, Value, a_number, a_truth, an_error, a_header, a_stack, no_members, a_member, a_symbol, some_bits, no_value, to_member, fitted, with_part, part_of}
use Rattle.v1_core.specs.Frames.{Moment, declared, with_inner, without, number_put_at, owned, of_headers, of_metadata, of_standard, of_variables, of_inner, of_nothing}
use Rattle.v1_core.specs.Statements.{no_label, run}
use Rattle.agreement_of_meanings.proofs.Extracted.{frame_like}
use Rattle.agreement_of_meanings.proofs.Written.{requests_by16}
use Rattle.agreement_of_meanings.proofs.Names.{other_name, same_name}
use Rattle.lower_laws_base.specs.Context.{Local, local_at, inner_of, AreDistinct, HasNone, StateLayout, HasRoot, HasMembers, Lowering, Item, IsItem, item_name, Declares, Sees, IsFresh, Holds, AreGiven, Aside, Stands}
use Rattle.lower_laws_base.specs.Mirror.{plain}
use Rattle.lower_laws_base.proofs.Means.{local_reference}
use Rattle.lower_laws_base.proofs.States.{variables_left}

-- what holds still holds

pub holds_first : (ls : List Local) (vs : List Value) (l : Local) (v : Value) → Holds (l ∷ ls) (v ∷ vs) l v
holds_first ls vs l v = record { place = 0; within = omega arith; stands = refl; holds = refl }

pub holds_more : (ls : List Local) (vs : List Value) (k : Local) (u : Value) (l : Local) (v : Value) → Holds ls vs l v → Holds (k ∷ ls) (u ∷ vs) l v
holds_more ls vs k u l v h = record { place = suc h.place; within = omega (arith, h.within); stands = h.stands; holds = h.holds }

-- parameters and variables with others before them
pub record Over (ls : List Local) (vs : List Value) (ks : List Local) (us : List Value) : Type 0 where
  pub keeps : (l : Local) (v : Value) → Holds ls vs l v → Holds ks us l v
  pub count : ℕ
  pub counted : length ks ≡ count + length ls
  pub left : without count (inner_of ks us) ≡ inner_of ls vs

pub over_same : (ls : List Local) (vs : List Value) → Over ls vs ls vs
over_same ls vs = record { keeps = λ l v h. h; count = 0; counted = omega arith; left = refl }

pub over_one : (ls : List Local) (vs : List Value) (l : Local) (v : Value) → Over ls vs (l ∷ ls) (v ∷ vs)
over_one ls vs l v = record { keeps = holds_more ls vs l v; count = 1; counted = omega arith; left = refl }

-- what has no members is what is left of it
abbrev IsNone : Value → Type 0
IsNone (a_member called of rest) = ⊥
IsNone v = Unit {0}

stays_other : (b : ℕ) (v : Value) → IsNone v → without b v ≡ v
stays_other zero v is = refl
stays_other (suc b) (a_member called of rest) is = absurd is
stays_other (suc b) (a_number width number) is = refl
stays_other (suc b) (a_truth holds) is = refl
stays_other (suc b) (an_error number) is = refl
stays_other (suc b) (a_header of) is = refl
stays_other (suc b) (a_stack place elements) is = refl
stays_other (suc b) no_members is = refl
stays_other (suc b) (a_symbol word) is = refl
stays_other (suc b) (some_bits items) is = refl
stays_other (suc b) no_value is = refl

without_both : (a b d : ℕ) (v : Value) → d ≡ a + b → without d v ≡ without b (without a v)
without_both zero b d v is = let same : d ≡ b = omega (arith, is) in ap (λ z. without z v) same
without_both (suc a) b zero v is = absurd (omega (arith, is))
without_both (suc a) b (suc d) (a_member called of rest) is = without_both a b d rest (omega (arith, is))
without_both (suc a) b (suc d) (a_number width number) is = sym (stays_other b (a_number width number) tt)
without_both (suc a) b (suc d) (a_truth holds) is = sym (stays_other b (a_truth holds) tt)
without_both (suc a) b (suc d) (an_error number) is = sym (stays_other b (an_error number) tt)
without_both (suc a) b (suc d) (a_header of) is = sym (stays_other b (a_header of) tt)
without_both (suc a) b (suc d) (a_stack place elements) is = sym (stays_other b (a_stack place elements) tt)
without_both (suc a) b (suc d) no_members is = sym (stays_other b no_members tt)
without_both (suc a) b (suc d) (a_symbol word) is = sym (stays_other b (a_symbol word) tt)
without_both (suc a) b (suc d) (some_bits items) is = sym (stays_other b (some_bits items) tt)
without_both (suc a) b (suc d) no_value is = sym (stays_other b no_value tt)

pub over_both : (ls ks js : List Local) (vs us ws : List Value) → Over ls vs ks us → Over ks us js ws → Over ls vs js ws
over_both ls ks js vs us ws a b = record {
  keeps = λ l v h. b.keeps l v (a.keeps l v h);
  count = b.count + a.count;
  counted = omega (arith, a.counted, b.counted);
  left = without_both b.count a.count (b.count + a.count) (inner_of js ws) refl ∙ ap (without a.count) b.left ∙ a.left;
}

pub given_over : (parameters : _) (ls ks : List Local) (vs us : List Value) (arguments : List ℕ) → Over ls vs ks us → AreGiven parameters ls vs arguments → AreGiven parameters ks us arguments
given_over parameters ls ks vs us arguments over given j lt = let g = given j lt in record { holds = over.keeps _ _ g.holds; fits = g.fits }

-- a scope with one variable more
module _ (c : Lowering) (s : Scope) (ls : List Local) (sees : Sees c s ls) (t : Type16) (called : Name) (fresh : IsFresh c ls called) where
  abbrev inside_it : Scope
  inside_it = with_variable t called s

  abbrev one : Local
  one = record { called = called; kind = kind_of_type s.names t }

  other_sort : (text : Name) → called ≢ text → sort_of inside_it text ≡ sort_of s text
  other_sort text apart = rw (other_name called text apart) refl

  own_sort : sort_of inside_it called ≡ a_value (kind_of_type s.names t) true
  own_sort = rw (same_name called) refl

  declares_still : Declares c inside_it
  declares_still = record {
    differ = sees.declares.differ;
    apart = sees.declares.apart;
    named = λ x is. other_sort (item_name c x) (fresh.items x is) ∙ sees.declares.named x is;
    rooted = sees.declares.rooted;
    copied = sees.declares.copied;
    numbered = sees.declares.numbered;
    stored = sees.declares.stored;
    shape = sees.declares.shape;
    instance = sees.declares.instance;
    field = sees.declares.field;
    standard_is = sees.declares.standard_is;
    standard = sees.declares.standard;
    error = sees.declares.error;
    checksum = sees.declares.checksum;
  }

  locals_still : (j : ℕ) → j < length (one ∷ ls) → (can : Bool) × (sort_of inside_it (local_at (one ∷ ls) j).called ≡ a_value (local_at (one ∷ ls) j).kind can)
  locals_still zero lt = (true, own_sort)
  locals_still (suc j) lt = ((sees.locals j (omega arith)).0, other_sort (local_at ls j).called (λ e. fresh.locals j (omega arith) (sym e)) ∙ (sees.locals j (omega arith)).1)

  distinct_still : AreDistinct (one ∷ ls)
  distinct_still zero zero a b apart e = absurd (apart refl)
  distinct_still zero (suc k) a b apart e = fresh.locals k (omega arith) (sym e)
  distinct_still (suc j) zero a b apart e = fresh.locals j (omega arith) e
  distinct_still (suc j) (suc k) a b apart e = sees.distinct j k (omega arith) (omega arith) (λ f. apart (omega (arith, f))) e

  apart_still : (x : Item) → IsItem c x → HasNone (one ∷ ls) (item_name c x)
  apart_still x is zero lt = fresh.items x is
  apart_still x is (suc j) lt = sees.apart x is j (omega arith)

  -- the scope behind its declaration
  pub sees_more : Sees c inside_it (one ∷ ls)
  sees_more = record { declares = declares_still; locals = locals_still; distinct = distinct_still; apart = apart_still }

-- Nothing that corresponds lies in the variables of statements.
pub stands_inner : (g : StateLayout) (ls ks : List Local) (vs us : List Value) (k : Aside) (m : Moment14) (n : Moment) (v : Value) → v ≡ inner_of ks us → length us ≡ length ks → Stands g ls vs k m n → Stands g ks us k m (with_inner v n)
stands_inner g ls ks vs us k m n v is count stands = record {
  both = record {
    packet = record {
      agrees = frame_like g.names m.state n.frame (with_inner v n).frame refl refl refl (requests_by16 n.frame (with_inner v n).frame refl refl refl refl) stands.both.packet.agrees;
      unparsed = stands.both.packet.unparsed;
      events = stands.both.packet.events;
      runs = stands.both.packet.runs;
    };
    store = stands.both.store;
  };
  shaped = stands.shaped;
  stored = stands.stored;
  inner = is;
  count = count;
  variables = variables_left g ls vs k g.variables n.frame (with_inner v n).frame refl stands.variables;
  members = members;
  error = stands.error;
  checksum = stands.checksum;
  emitted = stands.emitted;
  hit = stands.hit;
} where
  members : (o : _) → HasRoot g o → HasMembers (g.members o) (owned (with_inner v n).frame o)
  members of_headers has = stands.members of_headers has
  members of_metadata has = stands.members of_metadata has
  members of_standard has = stands.members of_standard has
  members of_variables has = absurd has
  members of_inner has = absurd has
  members of_nothing has = absurd has

pub stands_more : (g : StateLayout) (ls : List Local) (vs : List Value) (k : Aside) (m : Moment14) (n : Moment) (l : Local) (v : Value) → Stands g ls vs k m n → Stands g (l ∷ ls) (v ∷ vs) k m (declared l.called v n)
stands_more g ls vs k m n l v stands =
    stands_inner g ls (l ∷ ls) vs (v ∷ vs) k m n (a_member l.called v n.frame.inner) (ap (a_member l.called v) stands.inner) (ap suc stands.count) stands

-- a statement that declares nothing
pub record Done (c : Lowering) (s : Scope) (ls : List Local) (vs : List Value) (k : Aside) (x : Stmt16) (m : Moment14) (n : Moment) : Type 0 where
  pub stands : Stands c.layout ls vs k m (run c.world s no_label x n)
  pub variables : (run c.world s no_label x n).frame.variables ≡ n.frame.variables

-- a variable of bits starts at 0
pub declares_it : (c : Lowering) (s : Scope) (width : ℕ) (called : Name) (n : Moment) → n.stopped ≡ None → run c.world s no_label (var (Bit (plain width)) called) n ≡ declared called (a_number width 0) n
declares_it c s width called n runs = ap (λ b. cond b n (declared called (a_number width 0) n)) (ap is_some runs)

-- a number that an extern gives to the innermost variable
pub number_filled : (called : Name) (width old x : ℕ) (ls : List Local) (vs : List Value) (n : Moment) → n.frame.inner ≡ inner_of (record { called = called; kind = bits width } ∷ ls) (a_number width old ∷ vs) → number_put_at (local_reference called) x n ≡ with_inner (inner_of (record { called = called; kind = bits width } ∷ ls) (a_number width (x % 2 ^ width) ∷ vs)) n
number_filled called width old x ls vs n inner =
    let put = λ (v : Value). with_inner (with_part v (to_member called) (fitted (part_of v (to_member called)) (a_number (width_in (part_of v (to_member called))) x))) n in
    ap put inner ∙ filled
  where
    filled : with_inner (with_part (a_member called (a_number width old) (inner_of ls vs)) (to_member called) (fitted (part_of (a_member called (a_number width old) (inner_of ls vs)) (to_member called)) (a_number (width_in (part_of (a_member called (a_number width old) (inner_of ls vs)) (to_member called))) x))) n ≡ with_inner (a_member called (a_number width (x % 2 ^ width)) (inner_of ls vs)) n
    filled = rw (same_name called) refl
