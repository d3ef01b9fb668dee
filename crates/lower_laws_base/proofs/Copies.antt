-- The parameters of a block, copied whole to variables of the block: what is read there is the moment of the copies.
use Rattle.std.proofs.Common.{◌≡◌, ◌≢◌, ◌⊎◌, inl, inr, eqb, true, false, ℕ, ◌<◌, List, ◌∷◌, [], length, get_or, set, refl, sym, ap, ◌∙◌, subst, arith}
use Rattle.std.proofs.lemmas.List.{get_or-set_same, get_or-set_other, length-set}
use Rattle.std.proofs.lemmas.Bool.Decides.{eqb_tells}
use Rattle.p414_sem.specs.State.{State}
use Rattle.p414_sem.specs.Effects.{Moment as Moment14}
use Rattle.p416_syntax.specs.Tree.{name}
use Rattle.p416_syntax.specs.Kinds.{struct}
use Rattle.p416_syntax.specs.Scopes.{Scope}
use Rattle.v1_core.specs.Values.{Value, no_value, to_member, fitted, part_of, with_part, part_at, member_in, with_member}
use Rattle.v1_core.specs.Frames.{Frame, Moment, Owner, of_headers, of_metadata, of_standard, of_variables, of_inner, of_nothing, owned, ticked, put_at, place_value}
use Rattle.v1_core.specs.Statements.{no_label, run}
use Rattle.agreement_of_meanings.proofs.Extracted.{frame_like}
use Rattle.agreement_of_meanings.proofs.Written.{requests_by16}
use Rattle.lower_laws_base.specs.Context.{Local, local_at, value_at, inner_of, AreDistinct, HasRoot, Lowering, words_of, now, entry, base_at, Copies, IsCopied, HasMembers, IsWhole, HasVariables, Aside, Stands, Seen, Sees}
use Rattle.lower_laws_base.specs.Mirror.{copy_stmt}
use Rattle.lower_laws_base.proofs.Locals.{inner_part, inner_put, member_value, member_written}
use Rattle.lower_laws_base.proofs.Means.{means_root}
use Rattle.lower_laws_base.proofs.States.{struct_whole, stands_ticked, stands_at}
use Rattle.lower_laws_base.proofs.Writes.{assigns}

-- a variable of the block that is written whole

pub variable_put : (vars : List Local) (f : Frame) (has : HasVariables vars f) (j : ℕ) (v : Value) → AreDistinct vars → j < length vars → with_part f.variables (to_member (local_at vars j).called) (fitted (part_of f.variables (to_member (local_at vars j).called)) v) ≡ inner_of vars (set has.values j v)
variable_put vars f has j v distinct lt =
    let t = (local_at vars j).called in
    ap (λ z. with_part z (to_member t) (fitted (part_of z (to_member t)) v)) has.is
    ∙ inner_put vars has.values t (fitted (part_of (inner_of vars has.values) (to_member t)) v)
    ∙ ap (λ z. with_member (inner_of vars has.values) t (fitted z v)) (inner_part vars has.values t ∙ member_value vars has.values j lt has.count distinct)
    ∙ ap (λ z. with_member (inner_of vars has.values) t z) (has.whole j lt v)
    ∙ member_written vars has.values j v lt has.count distinct

whole_set : (values : List Value) (j i : ℕ) (v : Value) → IsWhole v → j < length values → IsWhole (value_at values i) → IsWhole (value_at (set values j v) i)
whole_set values j i v whole lt old = by (eqb_tells i j) where
  by : ((eqb i j ≡ true) × (i ≡ j)) ⊎ ((eqb i j ≡ false) × (i ≢ j)) → IsWhole (value_at (set values j v) i)
  by (inl same) = subst IsWhole (sym (ap (λ a. get_or (set values j v) a no_value) same.1 ∙ get_or-set_same values j v no_value lt)) whole
  by (inr other) = subst IsWhole (sym (get_or-set_other values j i v no_value other.1)) old

module _ (c : Lowering) (s : Scope) (ls : List Local) (sees : Sees c s ls) (vs : List Value) (k : Aside) (m : Moment14) (n : Moment) (stands : Stands c.layout ls vs k m n) (copies : Copies c) (o : Owner) (is : HasRoot c.layout o) where
  abbrev its : IsCopied c o
  its = copies.copied o is

  abbrev vars : List Local
  vars = c.layout.variables

  abbrev next : Moment
  next = run c.world s no_label (copy_stmt (words_of c) o) n

  abbrev v : Value
  v = owned n.frame o

  abbrev values : List Value
  values = set stands.variables.values its.place v

  named : (local_at vars its.place).called ≡ c.copy o
  named = ap (λ (l : Local). l.called) its.stands

  whole : IsWhole v
  whole = struct_whole (c.layout.members o) v (stands.members o is)

  copied_moment : next ≡ put_at (base_at (words_of c) entry o) v (ticked n)
  copied_moment =
      assigns c.world s (name (c.copy o)) (name (c.root o)) (struct (c.root_type o)) (base_at (words_of c) entry o) v n stands.both.packet.runs
      (means_root c s ls sees vs (ticked n) stands.inner entry copies o is) (means_root c s ls sees vs (ticked n) stands.inner now tt o is).value

  abbrev put : Value
  put = with_part n.frame.variables (to_member (c.copy o)) (fitted (part_of n.frame.variables (to_member (c.copy o))) v)

  put_is : put ≡ inner_of vars values
  put_is =
      subst (λ t. with_part n.frame.variables (to_member t) (fitted (part_of n.frame.variables (to_member t)) v) ≡ inner_of vars values) named
      (variable_put vars n.frame stands.variables its.place v sees.declares.apart its.within)

  count_is : length values ≡ length vars
  count_is = length-set stands.variables.values its.place v ∙ stands.variables.count

  pub copy_frame : next.frame ≡ record n.frame { variables = put }
  copy_frame = ap (λ (z : Moment). z.frame) copied_moment

  pub copy_holds : part_of next.frame.variables (to_member (c.copy o)) ≡ v
  copy_holds =
      ap (λ (f : Frame). part_of f.variables (to_member (c.copy o))) copy_frame ∙ ap (λ z. part_of z (to_member (c.copy o))) put_is
      ∙ inner_part vars values (c.copy o) ∙ ap (member_in (inner_of vars values)) (sym named)
      ∙ member_value vars values its.place its.within count_is sees.declares.apart
      ∙ get_or-set_same stands.variables.values its.place v no_value (omega (arith, its.within, stands.variables.count))

  -- the copies of the others stay
  pub copy_keeps : (p : Owner) → HasRoot c.layout p → o ≢ p → part_of next.frame.variables (to_member (c.copy p)) ≡ part_of n.frame.variables (to_member (c.copy p))
  copy_keeps p has apart =
      let other = copies.copied p has in
      let other_name = ap (λ (l : Local). l.called) other.stands in
      let differ : other.place ≢ its.place = λ same. apart (copies.differ o p is has (sym named ∙ ap (λ j. (local_at vars j).called) (sym same) ∙ other_name)) in
      ap (λ (f : Frame). part_of f.variables (to_member (c.copy p))) copy_frame ∙ ap (λ z. part_of z (to_member (c.copy p))) put_is
      ∙ held values count_is other.place other.within other_name
      ∙ get_or-set_other stands.variables.values its.place other.place v no_value differ
      ∙ sym (ap (λ z. part_of z (to_member (c.copy p))) stands.variables.is ∙ held stands.variables.values stands.variables.count other.place other.within other_name)
    where
      held : (us : List Value) → length us ≡ length vars → (j : ℕ) → j < length vars → (local_at vars j).called ≡ c.copy p → part_of (inner_of vars us) (to_member (c.copy p)) ≡ value_at us j
      held us count j lt called = inner_part vars us (c.copy p) ∙ ap (member_in (inner_of vars us)) (sym called) ∙ member_value vars us j lt count sees.declares.apart

  variables_are : HasVariables vars (put_at (base_at (words_of c) entry o) v (ticked n)).frame
  variables_are = record {
    values = values;
    count = count_is;
    is = put_is;
    whole = λ j lt. whole_set stands.variables.values its.place j v whole (omega (arith, its.within, stands.variables.count)) (stands.variables.whole j lt);
  }

  pub copy_stands : Stands c.layout ls vs k m next
  copy_stands = stands_at c.layout ls vs k _ _ _ _ refl copied_moment (
      let began = stands_ticked c.layout ls vs k m n stands in
      let f : Frame = (put_at (base_at (words_of c) entry o) v (ticked n)).frame in
      record {
        both = record {
          packet = record {
            agrees = frame_like c.layout.names m.state n.frame f refl refl refl (requests_by16 n.frame f refl refl refl refl) began.both.packet.agrees;
            unparsed = began.both.packet.unparsed;
            events = began.both.packet.events;
            runs = began.both.packet.runs;
          };
          store = began.both.store;
        };
        shaped = began.shaped;
        stored = began.stored;
        inner = began.inner;
        count = began.count;
        variables = variables_are;
        members = members;
        error = began.error;
        checksum = began.checksum;
        emitted = began.emitted;
        hit = began.hit;
      }
      ) where
        members : (p : Owner) → HasRoot c.layout p → HasMembers (c.layout.members p) (owned (put_at (base_at (words_of c) entry o) v (ticked n)).frame p)
        members of_headers has = stands.members of_headers has
        members of_metadata has = stands.members of_metadata has
        members of_standard has = stands.members of_standard has
        members of_variables has = absurd has
        members of_inner has = absurd has
        members of_nothing has = absurd has

-- all three

pub copy_owned : (c : Lowering) (s : Scope) (ls : List Local) (sees : Sees c s ls) (vs : List Value) (k : Aside) (m : Moment14) (n : Moment) (stands : Stands c.layout ls vs k m n) (copies : Copies c) (o : Owner) (is : HasRoot c.layout o) (p : Owner) → HasRoot c.layout p → owned (run c.world s no_label (copy_stmt (words_of c) o) n).frame p ≡ owned n.frame p
copy_owned c s ls sees vs k m n stands copies o is p has = ap (λ (f : Frame). owned f p) (copy_frame c s ls sees vs k m n stands copies o is) ∙ by p has where
  by : (p : Owner) → HasRoot c.layout p → owned (record n.frame { variables = with_part n.frame.variables (to_member (c.copy o)) (fitted (part_of n.frame.variables (to_member (c.copy o))) (owned n.frame o)) }) p ≡ owned n.frame p
  by of_headers x = refl
  by of_metadata x = refl
  by of_standard x = refl
  by of_variables x = absurd x
  by of_inner x = absurd x
  by of_nothing x = absurd x

-- what stands at the entry, and the copies of it, behind the three assignments
pub record Entered (c : Lowering) (ls : List Local) (vs : List Value) (k : Aside) (m : Moment14) (n : Moment) : Type 0 where
  pub stands : Stands c.layout ls vs k m n
  pub seen : Seen c entry m.state n.frame

pub copies_stand : (c : Lowering) (s : Scope) (ls : List Local) → Sees c s ls → (vs : List Value) (k : Aside) (m : Moment14) (n : Moment) → Stands c.layout ls vs k m n → Copies c → HasRoot c.layout of_headers → HasRoot c.layout of_metadata → HasRoot c.layout of_standard → Entered c ls vs k m (run c.world s no_label (copy_stmt (words_of c) of_standard) (run c.world s no_label (copy_stmt (words_of c) of_metadata) (run c.world s no_label (copy_stmt (words_of c) of_headers) n)))
copies_stand c s ls sees vs k m n stands copies hs ms ss =
    let first = copy_stands c s ls sees vs k m n stands copies of_headers hs in
    let n1 = run c.world s no_label (copy_stmt (words_of c) of_headers) n in
    let second = copy_stands c s ls sees vs k m n1 first copies of_metadata ms in
    let n2 = run c.world s no_label (copy_stmt (words_of c) of_metadata) n1 in
    let third = copy_stands c s ls sees vs k m n2 second copies of_standard ss in
    let n3 = run c.world s no_label (copy_stmt (words_of c) of_standard) n2 in
    record {
      stands = third;
      seen = record {
        frame = n.frame;
        agrees = stands.both.packet.agrees;
        shaped = stands.shaped;
        same = same n1 n2 n3
            (copy_keeps c s ls sees vs k m n2 second copies of_standard ss of_headers hs (λ e. absurd (cc e))
            ∙ copy_keeps c s ls sees vs k m n1 first copies of_metadata ms of_headers hs (λ e. absurd (cc e))
            ∙ copy_holds c s ls sees vs k m n stands copies of_headers hs)
            (copy_keeps c s ls sees vs k m n2 second copies of_standard ss of_metadata ms (λ e. absurd (cc e))
            ∙ copy_holds c s ls sees vs k m n1 first copies of_metadata ms
            ∙ copy_owned c s ls sees vs k m n stands copies of_headers hs of_metadata ms)
            (copy_holds c s ls sees vs k m n2 second copies of_standard ss
            ∙ copy_owned c s ls sees vs k m n1 first copies of_metadata ms of_standard ss
            ∙ copy_owned c s ls sees vs k m n stands copies of_headers hs of_standard ss);
      };
    }
  where
    same : (n1 n2 n3 : Moment) → part_of n3.frame.variables (to_member (c.copy of_headers)) ≡ n.frame.headers → part_of n3.frame.variables (to_member (c.copy of_metadata)) ≡ n.frame.metadata → part_of n3.frame.variables (to_member (c.copy of_standard)) ≡ n.frame.standard → (o : Owner) → HasRoot c.layout o → place_value n3.frame (base_at (words_of c) entry o) ≡ owned n.frame o
    same n1 n2 n3 a b d of_headers has = a
    same n1 n2 n3 a b d of_metadata has = b
    same n1 n2 n3 a b d of_standard has = d
    same n1 n2 n3 a b d of_variables has = absurd has
    same n1 n2 n3 a b d of_inner has = absurd has
    same n1 n2 n3 a b d of_nothing has = absurd has

-- the copies stay as long as the variables of the block do
pub seen_kept : (c : Lowering) (r : State) (f h : Frame) → h.variables ≡ f.variables → Seen c entry r f → Seen c entry r h
seen_kept c r f h left seen = record {
  frame = seen.frame;
  agrees = seen.agrees;
  shaped = seen.shaped;
  same = λ o is. ap (λ v. part_at (to_member (c.copy o) ∷ []) v) left ∙ seen.same o is;
}
