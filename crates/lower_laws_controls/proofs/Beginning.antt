-- The variables of a block begin with it and end with it: between blocks nothing is left of them.
use Rattle.std.proofs.Common.{◌≡◌, ℕ, zero, suc, ◌<◌, Bool, List, [], ◌∷◌, length, map, fold, refl, sym, ap, ◌∙◌, subst, arith}
use Rattle.p414_sem.specs.Effects.{Moment as Moment14}
use Rattle.p416_syntax.specs.declared.parsers.Var.{Var}
use Rattle.p416_syntax.specs.Kinds.{Kind, struct}
use Rattle.p416_syntax.specs.Scopes.{Scope, FieldKind, Layout, fields_in}
use Rattle.v1_core.specs.Values.{Value, no_members, fitted, members_from, zero_within, zero_value}
use Rattle.v1_core.specs.Frames.{Moment, Owner, of_headers, of_metadata, of_standard, of_variables, of_inner, of_nothing, owned}
use Rattle.v1_core.specs.Surroundings.{World}
use Rattle.v1_core.specs.Statements.{starts}
use Rattle.v1_core.specs.Blocks.{variables_of, with_variables, with_initial, begun, ended}
use Rattle.agreement_of_meanings.proofs.Extracted.{frame_like}
use Rattle.agreement_of_meanings.proofs.Written.{requests_by16}
use Rattle.lower_laws_base.specs.Context.{Local, inner_of, value_at, StateLayout, HasRoot, HasMembers, IsWhole, Aside}
use Rattle.lower_laws_controls.specs.Alike.{Level}
use Rattle.lower_laws_controls.specs.Blocks.{Inside, HasAll, VariablesAre}

-- structs are whole
struct_starts : (layouts : List Layout) (n : ℕ) (type : _) → IsWhole (zero_within layouts n (struct type))
struct_starts layouts zero type x = refl
struct_starts layouts (suc n) type x = by (fields_in layouts type) where
  by : (fields : List FieldKind) → fitted (members_from (λ k. zero_within layouts n k) fields) x ≡ x
  by [] = refl
  by (f ∷ fields) = refl

module _ (s : Scope) where
  abbrev value_of_var : Var → Value
  value_of_var v = starts s v.of

  holds_all : (vars : List Var) (ls : List Local) → VariablesAre s vars ls → variables_of s vars ≡ inner_of ls (map value_of_var vars)
  holds_all [] [] are = refl
  holds_all [] (l ∷ ls) are = absurd are
  holds_all (v ∷ vars) [] are = absurd are
  holds_all (v ∷ vars) (l ∷ ls) are = rw (are.0.is) (ap (λ z. z) (rw (holds_all vars ls are.1) refl))

  as_many : (vars : List Var) (ls : List Local) → VariablesAre s vars ls → length (map value_of_var vars) ≡ length ls
  as_many [] [] are = refl
  as_many [] (l ∷ ls) are = absurd are
  as_many (v ∷ vars) [] are = absurd are
  as_many (v ∷ vars) (l ∷ ls) are = ap suc (as_many vars ls are.1)

  all_whole : (vars : List Var) (ls : List Local) → VariablesAre s vars ls → (j : ℕ) → j < length ls → IsWhole (value_at (map value_of_var vars) j)
  all_whole [] [] are j lt = absurd (omega (arith, lt))
  all_whole [] (l ∷ ls) are j lt = absurd are
  all_whole (v ∷ vars) [] are j lt = absurd are
  all_whole (v ∷ vars) (l ∷ ls) are zero lt =
      subst (λ (k : Kind). IsWhole (zero_value s.layouts k)) (sym are.0.struct_is) (struct_starts s.layouts (length s.layouts) are.0.type)
  all_whole (v ∷ vars) (l ∷ ls) are (suc j) lt = all_whole vars ls are.1 j (omega (arith, lt))

  -- a block begins with its variables
  pub has_begun : (w : World) (vars : List Var) (ls : List Local) (n : Moment) → VariablesAre s vars ls → fold (with_initial w) n vars ≡ n
  has_begun w [] [] n are = refl
  has_begun w [] (l ∷ ls) n are = absurd are
  has_begun w (v ∷ vars) [] n are = absurd are
  has_begun w (v ∷ vars) (l ∷ ls) n are = rw (are.0.initial) (has_begun w vars ls n are.1)

-- variables of a block are nothing that corresponds
module _ (g : StateLayout) (aside : Aside) (m : Moment14) (n : Moment) where
  pub stands_with : (has : Owner → Bool) (variables : List Local) (v : Value) (values : List Value) → HasAll (record g { has = has; variables = variables }) n.frame → v ≡ inner_of variables values → length values ≡ length variables → ((j : ℕ) → j < length variables → IsWhole (value_at values j)) → Level g aside m n → Level (record g { has = has; variables = variables }) aside m (with_variables v n)
  stands_with has variables v values all is count whole stands = record {
    both = record {
      packet = record {
        agrees = frame_like g.names m.state n.frame (with_variables v n).frame refl refl refl (requests_by16 n.frame (with_variables v n).frame refl refl refl refl) stands.both.packet.agrees;
        unparsed = stands.both.packet.unparsed;
        events = stands.both.packet.events;
        runs = stands.both.packet.runs;
      };
      store = stands.both.store;
    };
    shaped = record { count = stands.shaped.count; sizes = stands.shaped.sizes; places = stands.shaped.places; each = stands.shaped.each; standard = stands.shaped.standard };
    stored = stands.stored;
    inner = refl;
    count = refl;
    variables = record { values = values; count = count; is = is; whole = whole };
    members = members;
    error = stands.error;
    checksum = stands.checksum;
    emitted = stands.emitted;
    hit = stands.hit;
  } where
    members : HasAll (record g { has = has; variables = variables }) (with_variables v n).frame
    members of_headers there = all of_headers there
    members of_metadata there = all of_metadata there
    members of_standard there = all of_standard there
    members of_variables there = absurd there
    members of_inner there = absurd there
    members of_nothing there = absurd there

  pub block_begins : (h : StateLayout) → Inside g h → (w : World) (vars : List Var) → VariablesAre w.around.scope vars h.variables → Level g aside m n → Level h aside m (begun w vars n)
  block_begins h inside w vars are stands =
      let s = w.around.scope in
      let inner : StateLayout = record g { has = h.has; variables = h.variables } in
      let all : HasAll inner n.frame = λ o there. stands.members o (inside.has o (subst (λ (z : StateLayout). HasRoot z o) (sym inside.is) there)) in
      subst (λ (z : StateLayout). Level z aside m (begun w vars n)) (sym inside.is)
      (subst (λ (z : Moment). Level inner aside m z) (sym (has_begun s w vars h.variables (with_variables (variables_of s vars) n) are))
      (stands_with h.has h.variables (variables_of s vars) (map (value_of_var s) vars) all (holds_all s vars h.variables are) (as_many s vars h.variables are) (all_whole s vars h.variables are) stands))

-- and they end with it
pub block_ends : (g h : StateLayout) (aside : Aside) (m : Moment14) (n : Moment) → Inside g h → HasAll g n.frame → Level h aside m n → Level g aside m (ended n)
block_ends g h aside m n inside all stands =
    subst (λ (z : StateLayout). Level z aside m (ended n)) whole
    (stands_with h aside m n g.has [] no_members [] (subst (λ (z : StateLayout). HasAll z n.frame) (sym whole) all) refl refl (λ j lt. absurd (omega (arith, lt))) stands)
  where
    whole : record h { has = g.has; variables = [] } ≡ g
    whole = ap (λ (z : StateLayout). let x : StateLayout = record z { has = g.has; variables = [] } in x) inside.is ∙ ap (λ (vs : List Local). let x : StateLayout = record g { variables = vs } in x) (sym inside.bare)

-- a block with all parameters
pub has_all : (g h : StateLayout) (aside : Aside) (m : Moment14) (n : Moment) → Inside g h → ((o : Owner) → HasRoot g o → HasRoot h o) → Level h aside m n → HasAll g n.frame
has_all g h aside m n inside more stands o there =
    subst (λ (z : StateLayout). HasMembers (z.members o) (owned n.frame o)) inside.is (stands.members o (more o there))
