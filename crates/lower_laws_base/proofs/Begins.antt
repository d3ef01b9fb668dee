-- A control begins and ends: its variables stand between, and hold anything that is written whole.
use Rattle.std.proofs.Common.{◌≡◌, ℕ, zero, suc, ◌<◌, None, Option, List, [], ◌∷◌, length, refl, sym, ap, ap₂, ◌∙◌, subst, arith}
use Rattle.std.specs.Prelude.{fold}
use Rattle.p414_sem.specs.Effects.{Moment as Moment14}
use Rattle.p416_syntax.specs.declared.parsers.Var.{Var}
use Rattle.p416_syntax.specs.Tree.{Exp16}
use Rattle.p416_syntax.specs.Names.{Name}
use Rattle.p416_syntax.specs.Kinds.{Kind, struct}
use Rattle.p416_syntax.specs.Scopes.{Scope, Layout, FieldKind, fields_in, kind_of_type}
use Rattle.v1_core.specs.Values.{Value, no_members, a_member, zero_value, zero_within, members_from}
use Rattle.v1_core.specs.Frames.{Moment, Owner, of_headers, of_metadata, of_standard, of_variables, of_inner, of_nothing, owned}
use Rattle.v1_core.specs.Surroundings.{World}
use Rattle.v1_core.specs.Blocks.{variables_of, with_variables, with_initial, begun, ended}
use Rattle.agreement_of_meanings.proofs.Extracted.{frame_like}
use Rattle.agreement_of_meanings.proofs.Written.{requests_by16}
use Rattle.lower_laws_base.specs.Context.{Local, value_at, inner_of, StateLayout, HasRoot, HasMembers, IsWhole, Aside, Stands}

-- the same layout with other variables
abbrev pub with_vars : StateLayout → List Local → StateLayout
with_vars g ls = record g { variables = ls }

pub stands_vars : (g : StateLayout) (ls : List Local) (us : List Value) (k : Aside) (m : Moment14) (n : Moment) (v : Value) → v ≡ inner_of ls us → length us ≡ length ls → ((j : ℕ) → j < length ls → IsWhole (value_at us j)) → Stands g [] [] k m n → Stands (with_vars g ls) [] [] k m (with_variables v n)
stands_vars g ls us k m n v is count whole stands = record {
  both = record {
    packet = record {
      agrees = frame_like g.names m.state n.frame (with_variables v n).frame refl refl refl (requests_by16 n.frame (with_variables v n).frame refl refl refl refl) stands.both.packet.agrees;
      unparsed = stands.both.packet.unparsed;
      events = stands.both.packet.events;
      runs = stands.both.packet.runs;
    };
    store = stands.both.store;
  };
  shaped = record { count = stands.shaped.count; sizes = stands.shaped.sizes; places = stands.shaped.places; each = stands.shaped.each; standard = stands.shaped.standard };
  stored = stands.stored;
  inner = refl;
  count = refl;
  variables = record { values = us; count = count; is = is; whole = whole };
  members = members;
  error = stands.error;
  checksum = stands.checksum;
  emitted = stands.emitted;
  hit = stands.hit;
} where
  members : (o : Owner) → HasRoot (with_vars g ls) o → HasMembers (g.members o) (owned (with_variables v n).frame o)
  members of_headers has = stands.members of_headers has
  members of_metadata has = stands.members of_metadata has
  members of_standard has = stands.members of_standard has
  members of_variables has = absurd has
  members of_inner has = absurd has
  members of_nothing has = absurd has

-- variables without a value, each a struct
abbrev pub AreVars : Scope → List Var → List Local → Type 0
AreVars s [] [] = Unit {0}
AreVars s (v ∷ vars) (l ∷ ls) = (v.name ≡ l.called) × (v.initial ≡ None) × (kind_of_type s.names v.of ≡ l.kind) × ((type : Name) × (l.kind ≡ struct type)) × AreVars s vars ls
AreVars s _ _ = ⊥

members_whole : (value : Kind → Value) (fields : List FieldKind) → IsWhole (members_from value fields)
members_whole value [] x = refl
members_whole value (f ∷ fields) x = refl

struct_starts : (layouts : List Layout) (n : ℕ) (type : _) → IsWhole (zero_within layouts n (struct type))
struct_starts layouts zero type x = refl
struct_starts layouts (suc n) type x = members_whole (λ k. zero_within layouts n k) (fields_in layouts type) x

-- what they start as
abbrev pub started : Scope → List Local → List Value
started s [] = []
started s (l ∷ ls) = zero_value s.layouts l.kind ∷ started s ls

started_is : (s : Scope) (vars : List Var) (ls : List Local) → AreVars s vars ls → variables_of s vars ≡ inner_of ls (started s ls)
started_is s [] [] are = refl
started_is s [] (l ∷ ls) are = absurd are
started_is s (v ∷ vars) [] are = absurd are
started_is s (v ∷ vars) (l ∷ ls) are =
    ap (λ (k : Kind). a_member v.name (zero_value s.layouts k) (variables_of s vars)) are.2
    ∙ ap₂ (λ text rest. a_member text (zero_value s.layouts l.kind) rest) are.0 (started_is s vars ls are.4)

started_count : (s : Scope) (ls : List Local) → length (started s ls) ≡ length ls
started_count s [] = refl
started_count s (l ∷ ls) = ap suc (started_count s ls)

started_whole : (s : Scope) (vars : List Var) (ls : List Local) → AreVars s vars ls → (j : ℕ) → j < length ls → IsWhole (value_at (started s ls) j)
started_whole s [] [] are j lt = absurd (omega (arith, lt))
started_whole s [] (l ∷ ls) are j lt = absurd are
started_whole s (v ∷ vars) [] are j lt = absurd are
started_whole s (v ∷ vars) (l ∷ ls) are zero lt = subst (λ k. IsWhole (zero_value s.layouts k)) (sym are.3.1) (struct_starts s.layouts (length s.layouts) are.3.0)
started_whole s (v ∷ vars) (l ∷ ls) are (suc j) lt = started_whole s vars ls are.4 j (omega arith)

none_initial : (w : World) (v : Var) (m : Moment) → v.initial ≡ None → with_initial w m v ≡ m
none_initial w v m none = ap (λ (e : Option Exp16). with_initial w m (record v { initial = e })) none

none_run : (w : World) (s : Scope) (vars : List Var) (ls : List Local) (m : Moment) → AreVars s vars ls → fold (with_initial w) m vars ≡ m
none_run w s [] ls m are = refl
none_run w s (v ∷ vars) [] m are = absurd are
none_run w s (v ∷ vars) (l ∷ ls) m are = ap (λ q. fold (with_initial w) q vars) (none_initial w v m are.1) ∙ none_run w s vars ls m are.4

-- a control begins
pub stands_begun : (g : StateLayout) (w : World) (vars : List Var) (ls : List Local) → AreVars w.around.scope vars ls → (k : Aside) (m : Moment14) (n : Moment) → Stands g [] [] k m n → Stands (with_vars g ls) [] [] k m (begun w vars n)
stands_begun g w vars ls are k m n stands =
    let s = w.around.scope in
    subst (λ q. Stands (with_vars g ls) [] [] k m q) (sym (none_run w s vars ls (with_variables (variables_of s vars) n) are))
    (stands_vars g ls (started s ls) k m n (variables_of s vars) (started_is s vars ls are) (started_count s ls) (started_whole s vars ls are) stands)

-- .. and ends, without variables
pub stands_ended : (g : StateLayout) (k : Aside) (m : Moment14) (n : Moment) → Stands g [] [] k m n → Stands (with_vars g []) [] [] k m (ended n)
stands_ended g k m n stands = stands_vars g [] [] k m n no_members refl refl (λ j lt. absurd (omega (arith, lt))) stands
