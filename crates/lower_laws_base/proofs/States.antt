-- Moments that stand beside each other, and what a write to the packet leaves.
use Rattle.std.proofs.Common.{◌≡◌, ◌≢◌, Bool, true, false, cond, List, [], ◌∷◌, refl, sym, ◌∙◌, subst}
use Rattle.std.specs.Prelude.{codes}
use Rattle.std.specs.Str.{bytes_eq}
use Rattle.state_store.specs.State.{Contents}
use Rattle.p414_sem.specs.State.{State}
use Rattle.p414_sem.specs.Effects.{Moment as Moment14}
use Rattle.p416_syntax.specs.Names.{Name}
use Rattle.v1_core.specs.Values.{Value, a_number, a_truth, an_error, a_header, a_stack, no_members, a_member, a_symbol, some_bits, no_value, Step, to_member, member_in, with_member, with_part}
use Rattle.v1_core.specs.Frames.{Frame, Moment, Owner, of_headers, of_metadata, of_standard, of_variables, of_inner, of_nothing, owned, write, ticked, with_store}
use Rattle.agreement_of_meanings.specs.Agrees.{Agrees}
use Rattle.agreement_of_meanings.proofs.Names.{member_other}
use Rattle.lower_laws_base.specs.Context.{Local, StateLayout, HasRoot, Lowering, At, now, entry, Shaped, HasMembers, IsWhole, Aside, HasVariables, Stored, Stands, Seen, Reads}
use Rattle.lower_laws_base.proofs.Means.{plainly}

-- structs

-- a write to a member leaves a struct with its members

pub member_kept : (xs : List Name) (v : Value) (word : Name) (y : Value) → HasMembers xs v → HasMembers xs (with_member v word y)
member_kept [] no_members word y has = tt
member_kept [] (a_number a b) word y has = absurd has
member_kept [] (a_truth a) word y has = absurd has
member_kept [] (an_error a) word y has = absurd has
member_kept [] (a_header a) word y has = absurd has
member_kept [] (a_stack a b) word y has = absurd has
member_kept [] (a_symbol a) word y has = absurd has
member_kept [] (some_bits a) word y has = absurd has
member_kept [] no_value word y has = absurd has
member_kept [] (a_member a b d) word y has = absurd has
member_kept (x ∷ xs) no_members word y has = absurd has
member_kept (x ∷ xs) (a_number a b) word y has = absurd has
member_kept (x ∷ xs) (a_truth a) word y has = absurd has
member_kept (x ∷ xs) (an_error a) word y has = absurd has
member_kept (x ∷ xs) (a_header a) word y has = absurd has
member_kept (x ∷ xs) (a_stack a b) word y has = absurd has
member_kept (x ∷ xs) (a_symbol a) word y has = absurd has
member_kept (x ∷ xs) (some_bits a) word y has = absurd has
member_kept (x ∷ xs) no_value word y has = absurd has
member_kept (x ∷ xs) (a_member called of rest) word y has = by (bytes_eq called word) (member_kept xs rest word y has.1) where
  by : (t : Bool) → HasMembers xs (with_member rest word y) → HasMembers (x ∷ xs) (cond t (a_member called y rest) (a_member called of (with_member rest word y)))
  by true below = has
  by false below = (has.0, below)

pub members_put : (xs : List Name) (v : Value) (word : Name) (y : Value) → HasMembers xs v → HasMembers xs (with_part v (to_member word) y)
members_put [] no_members word y has = tt
members_put [] (a_number a b) word y has = absurd has
members_put [] (a_truth a) word y has = absurd has
members_put [] (an_error a) word y has = absurd has
members_put [] (a_header a) word y has = absurd has
members_put [] (a_stack a b) word y has = absurd has
members_put [] (a_symbol a) word y has = absurd has
members_put [] (some_bits a) word y has = absurd has
members_put [] no_value word y has = absurd has
members_put [] (a_member a b d) word y has = absurd has
members_put (x ∷ xs) no_members word y has = absurd has
members_put (x ∷ xs) (a_number a b) word y has = absurd has
members_put (x ∷ xs) (a_truth a) word y has = absurd has
members_put (x ∷ xs) (an_error a) word y has = absurd has
members_put (x ∷ xs) (a_header a) word y has = absurd has
members_put (x ∷ xs) (a_stack a b) word y has = absurd has
members_put (x ∷ xs) (a_symbol a) word y has = absurd has
members_put (x ∷ xs) (some_bits a) word y has = absurd has
members_put (x ∷ xs) no_value word y has = absurd has
members_put (x ∷ xs) (a_member called of rest) word y has = member_kept (x ∷ xs) (a_member called of rest) word y has

-- a struct is written whole
pub struct_whole : (xs : List Name) (v : Value) → HasMembers xs v → IsWhole v
struct_whole xs no_members has x = refl
struct_whole xs (a_member called of rest) has x = refl
struct_whole xs (a_truth a) has x = refl
struct_whole xs (an_error a) has x = refl
struct_whole xs (a_header a) has x = refl
struct_whole xs (a_stack a b) has x = refl
struct_whole xs (a_symbol a) has x = refl
struct_whole xs (some_bits a) has x = refl
struct_whole xs no_value has x = refl
struct_whole [] (a_number a b) has x = absurd has
struct_whole (z ∷ xs) (a_number a b) has x = absurd has

-- frames

-- what a change of the packet leaves as it was
pub record Leaves (f h : Frame) : Type 0 where
  pub inner : h.inner ≡ f.inner
  pub variables : h.variables ≡ f.variables
  pub events : h.events ≡ f.events
  pub error : member_in h.standard (codes "parser_error") ≡ member_in f.standard (codes "parser_error")
  pub checksum : member_in h.standard (codes "checksum_error") ≡ member_in f.standard (codes "checksum_error")
  pub headers : (xs : List Name) → HasMembers xs f.headers → HasMembers xs h.headers
  pub metadata : (xs : List Name) → HasMembers xs f.metadata → HasMembers xs h.metadata
  pub standard : (xs : List Name) → HasMembers xs f.standard → HasMembers xs h.standard

part_left : (v x : Value) (word other : Name) → word ≢ other → member_in (with_part v (to_member word) x) other ≡ member_in v other
part_left (a_header h) x word other differ = refl
part_left (a_number a b) x word other differ = refl
part_left (a_truth a) x word other differ = refl
part_left (an_error a) x word other differ = refl
part_left (a_stack a b) x word other differ = refl
part_left no_members x word other differ = refl
part_left (a_member a b d) x word other differ = member_other (a_member a b d) word other x differ
part_left (a_symbol a) x word other differ = refl
part_left (some_bits a) x word other differ = refl
part_left no_value x word other differ = refl

-- a write to a part of the headers, of the metadata, or of standard metadata but for the errors

pub leaves_headers : (f : Frame) (word : Name) (steps : List Step) (v : Value) → Leaves f (write (plainly of_headers (to_member word ∷ steps)) v f)
leaves_headers f word steps v = record { inner = refl; variables = refl; events = refl; error = refl; checksum = refl; headers = λ xs has. members_put xs f.headers word _ has; metadata = λ xs has. has; standard = λ xs has. has }

pub leaves_metadata : (f : Frame) (word : Name) (steps : List Step) (v : Value) → Leaves f (write (plainly of_metadata (to_member word ∷ steps)) v f)
leaves_metadata f word steps v = record { inner = refl; variables = refl; events = refl; error = refl; checksum = refl; headers = λ xs has. has; metadata = λ xs has. members_put xs f.metadata word _ has; standard = λ xs has. has }

pub leaves_standard : (f : Frame) (word : Name) (steps : List Step) (v : Value) → word ≢ codes "parser_error" → word ≢ codes "checksum_error" → Leaves f (write (plainly of_standard (to_member word ∷ steps)) v f)
leaves_standard f word steps v a b = record { inner = refl; variables = refl; events = refl; error = part_left f.standard _ word (codes "parser_error") a; checksum = part_left f.standard _ word (codes "checksum_error") b; headers = λ xs has. has; metadata = λ xs has. has; standard = λ xs has. members_put xs f.standard word _ has }

-- moments

module _ (g : StateLayout) (ls : List Local) (vs : List Value) (k : Aside) where
  pub variables_left : (vars : List Local) (f h : Frame) → h.variables ≡ f.variables → HasVariables vars f → HasVariables vars h
  variables_left vars f h same has = record { values = has.values; count = has.count; is = same ∙ has.is; whole = has.whole }

  -- the packet changed, and nothing beside it
  pub stands_moved : (m : Moment14) (n : Moment) → Stands g ls vs k m n → (t : State) (f : Frame) → Leaves n.frame f → Agrees g.names t f → Shaped g t → t.unparsed ≡ m.state.unparsed → t.events ≡ m.state.events → Stands g ls vs k (record { state = t; store = m.store }) (record n { frame = f })
  stands_moved m n stands t f leaves agrees shaped unparsed events = record {
    both = record {
      packet = record {
        agrees = agrees;
        unparsed = stands.both.packet.unparsed ∙ sym unparsed;
        events = leaves.events ∙ stands.both.packet.events ∙ sym events;
        runs = stands.both.packet.runs;
      };
      store = stands.both.store;
    };
    shaped = shaped;
    stored = stands.stored;
    inner = leaves.inner ∙ stands.inner;
    count = stands.count;
    variables = variables_left g.variables n.frame f leaves.variables stands.variables;
    members = members;
    error = leaves.error ∙ stands.error;
    checksum = leaves.checksum ∙ stands.checksum;
    emitted = stands.emitted;
    hit = stands.hit;
  } where
    members : (o : Owner) → HasRoot g o → HasMembers (g.members o) (owned f o)
    members of_headers is = leaves.headers (g.members of_headers) (stands.members of_headers is)
    members of_metadata is = leaves.metadata (g.members of_metadata) (stands.members of_metadata is)
    members of_standard is = leaves.standard (g.members of_standard) (stands.members of_standard is)
    members of_variables is = absurd is
    members of_inner is = absurd is
    members of_nothing is = absurd is

  -- the store changed
  pub stands_stored : (m : Moment14) (n : Moment) (store : Contents) → Stored g.shapes store → Stands g ls vs k m n → Stands g ls vs k (record { state = m.state; store = store }) (with_store n store)
  stands_stored m n store stored stands = record {
    both = record { packet = record { agrees = stands.both.packet.agrees; unparsed = stands.both.packet.unparsed; events = stands.both.packet.events; runs = stands.both.packet.runs }; store = refl };
    shaped = stands.shaped;
    stored = stored;
    inner = stands.inner;
    count = stands.count;
    variables = record { values = stands.variables.values; count = stands.variables.count; is = stands.variables.is; whole = stands.variables.whole };
    members = stands.members;
    error = stands.error;
    checksum = stands.checksum;
    emitted = stands.emitted;
    hit = stands.hit;
  }

  -- the count of work is nothing that corresponds
  pub stands_ticked : (m : Moment14) (n : Moment) → Stands g ls vs k m n → Stands g ls vs k m (ticked n)
  stands_ticked m n stands = record {
    both = record { packet = record { agrees = stands.both.packet.agrees; unparsed = stands.both.packet.unparsed; events = stands.both.packet.events; runs = stands.both.packet.runs }; store = stands.both.store };
    shaped = stands.shaped;
    stored = stands.stored;
    inner = stands.inner;
    count = stands.count;
    variables = record { values = stands.variables.values; count = stands.variables.count; is = stands.variables.is; whole = stands.variables.whole };
    members = stands.members;
    error = stands.error;
    checksum = stands.checksum;
    emitted = stands.emitted;
    hit = stands.hit;
  }

  -- moments that are these
  pub stands_at : (m p : Moment14) (n q : Moment) → p ≡ m → q ≡ n → Stands g ls vs k m n → Stands g ls vs k p q
  stands_at m p n q a b stands =
      subst (λ z. Stands g ls vs k z q) (sym a) (subst (λ z. Stands g ls vs k m z) (sym b) stands)

-- what operands need

pub seen_now : (c : Lowering) (ls : List Local) (vs : List Value) (k : Aside) (m : Moment14) (n : Moment) → Stands c.layout ls vs k m n → Seen c now m.state n.frame
seen_now c ls vs k m n stands = record { frame = n.frame; agrees = stands.both.packet.agrees; shaped = stands.shaped; same = λ o is. refl }

pub seen_at : (c : Lowering) (ls : List Local) (vs : List Value) (k : Aside) (at : At) (r m : Moment14) (n : Moment) → Stands c.layout ls vs k m n → Reads c at r m n.frame → Seen c at r.state n.frame
seen_at c ls vs k now r m n stands reads = subst (λ (z : Moment14). Seen c now z.state n.frame) (sym reads) (seen_now c ls vs k m n stands)
seen_at c ls vs k entry r m n stands reads = reads.0
