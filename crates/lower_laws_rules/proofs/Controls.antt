-- Controls, parsers and their states break no rule.
use Rattle.std.proofs.Common.{◌≡◌, ◌⊎◌, inl, inr, ℕ, zero, suc, ◌<◌, ◌≤◌, ◌^◌, Bool, false, List, [], ◌∷◌, ◌++◌, map, flat_map, filter_map, Option, Some, None, refl, sym, ap, ap₂, ◌∙◌, subst, arith, IsTrue}
use Rattle.std.specs.Prelude.{not, Contains, codes}
use Rattle.std.specs.List.{AllByRecursion}
use Rattle.std.proofs.lemmas.Bool.{false≢true}
use Rattle.digraph.specs.Graphs.{Among, IsEdge, Walk, Edge, Onward}
use Rattle.digraph.specs.Expansions.{HasCycle}
use Rattle.p414_syntax.specs.declared.syntax.Decl.{Decl as Decl14}
use Rattle.p414_syntax.specs.Walks.{IsWalk}
use Rattle.p414_syntax.specs.ParserGraph.{next_of, extracts_of, walk_extracts, HasIdleCycle}
use Rattle.p416_syntax.specs.declared.parsers.Target.{Target}
use Rattle.p416_syntax.specs.declared.parsers.Target.TheVariants as target_of
use Rattle.p416_syntax.specs.declared.parsers.Simple.TheVariants as simple
use Rattle.p416_syntax.specs.declared.parsers.Keyset.TheVariants as keyset
use Rattle.p416_syntax.specs.declared.parsers.SelectCase.{SelectCase}
use Rattle.p416_syntax.specs.declared.parsers.Transition.TheVariants as transition
use Rattle.p416_syntax.specs.declared.parsers.State.{State}
use Rattle.p416_syntax.specs.declared.parsers.Var.{Var}
use Rattle.p416_syntax.specs.declared.parsers.Parser16.{Parser16}
use Rattle.p416_syntax.specs.declared.parts.Direction.{Direction}
use Rattle.p416_syntax.specs.declared.parts.Direction.TheVariants.{In, Out, InOut}
use Rattle.p416_syntax.specs.declared.controls.Local.{Local}
use Rattle.p416_syntax.specs.declared.controls.Local.TheVariants as local
use Rattle.p416_syntax.specs.declared.controls.Control16.{Control16}
use Rattle.p416_syntax.specs.declared.program.Decl16.TheVariants as decl
use Rattle.p416_syntax.specs.Tree.{Exp16, literal}
use Rattle.p416_syntax.specs.Names.{Name}
use Rattle.p416_syntax.specs.Kinds.{Kind, bits, struct, packet_in, packet_out}
use Rattle.p416_syntax.specs.BuiltIn.{standard_name}
use Rattle.p416_syntax.specs.Scopes.{Scope, Sort, a_type, a_state, sort_of, called_of}
use Rattle.p416_syntax.specs.Calls.{select_key}
use Rattle.p416_syntax.specs.Uses.{some_state, of_block_parameter, of_variable}
use Rattle.p416_syntax.specs.Declarations.{parameter_uses, var_uses, target_uses, case_uses, transition_uses, state_uses, parser_names, parser_scope, action_uses, control_names, control_scope, local_uses, action_in, actions_in, control_uses}
use Rattle.p416_syntax.specs.Unknown.{is_wanted}
use Rattle.p416_syntax.specs.Types.{is_misplaced}
use Rattle.p416_syntax.specs.ParserStates.{idle_graph, has_no_start}
use Rattle.p416_syntax.specs.Applications.{action_number, calls_of, call_graph}
use Rattle.lower_laws_base.specs.Mirror.{sized}
use Rattle.lower_laws_rules.specs.Keeping.{Keeps, Asks, Sound, Part}
use Rattle.lower_laws_rules.specs.Written.{block_param, whole_var}
use Rattle.lower_laws_rules.specs.Whole.{RootNames, parser_params, checksum_params, pipeline_params, deparser_params}
use Rattle.lower_laws_rules.specs.Declared.{local_held, LocalKeeps, ControlFits, control_held, StateKeeps, ParserFits, DeclarationKeeps}
use Rattle.lower_laws_rules.proofs.Lists.{none_kept, behind_kept, first_kept, calls_none}
use Rattle.lower_laws_rules.proofs.Places.{sits}
use Rattle.lower_laws_rules.proofs.Sound.{sits_literal}
use Rattle.lower_laws_rules.proofs.Calls.{sits_kept}
use Rattle.lower_laws_rules.proofs.Parts.{names_fine}
use Rattle.lower_laws_rules.proofs.Types.{named_type}
use Rattle.lower_laws_rules.proofs.Tables.{body_kept}

-- parameters and variables

pub block_param_kept : (s : Scope) (direction : Option Direction) (type called : Name) (k : Kind) → sort_of s type ≡ a_type k → is_misplaced of_block_parameter k ≡ false → Keeps (parameter_uses s of_block_parameter (block_param direction type called)) []
block_param_kept s direction type called k known fits = named_type s of_block_parameter type k known fits

pub parser_params_kept : (s : Scope) (h m : Name) (r : RootNames) → sort_of s (codes "packet_in") ≡ a_type packet_in → sort_of s h ≡ a_type (struct h) → sort_of s m ≡ a_type (struct m) → sort_of s standard_name ≡ a_type (struct standard_name) → Keeps (flat_map (parameter_uses s of_block_parameter) (parser_params h m r)) []
parser_params_kept s h m r p a b c =
    behind_kept (block_param_kept s None (codes "packet_in") r.packet packet_in p refl) (behind_kept (block_param_kept s (Some Out) h r.headers (struct h) a refl) (behind_kept (block_param_kept s (Some InOut) m r.metadata (struct m) b refl) (behind_kept (block_param_kept s (Some InOut) standard_name r.standard (struct standard_name) c refl) none_kept)))

pub checksum_params_kept : (s : Scope) (h m : Name) (r : RootNames) → sort_of s h ≡ a_type (struct h) → sort_of s m ≡ a_type (struct m) → Keeps (flat_map (parameter_uses s of_block_parameter) (checksum_params h m r)) []
checksum_params_kept s h m r a b = behind_kept (block_param_kept s (Some InOut) h r.headers (struct h) a refl) (behind_kept (block_param_kept s (Some InOut) m r.metadata (struct m) b refl) none_kept)

pub pipeline_params_kept : (s : Scope) (h m : Name) (r : RootNames) → sort_of s h ≡ a_type (struct h) → sort_of s m ≡ a_type (struct m) → sort_of s standard_name ≡ a_type (struct standard_name) → Keeps (flat_map (parameter_uses s of_block_parameter) (pipeline_params h m r)) []
pipeline_params_kept s h m r a b c =
    behind_kept (block_param_kept s (Some InOut) h r.headers (struct h) a refl) (behind_kept (block_param_kept s (Some InOut) m r.metadata (struct m) b refl) (behind_kept (block_param_kept s (Some InOut) standard_name r.standard (struct standard_name) c refl) none_kept))

pub deparser_params_kept : (s : Scope) (h : Name) (r : RootNames) → sort_of s (codes "packet_out") ≡ a_type packet_out → sort_of s h ≡ a_type (struct h) → Keeps (flat_map (parameter_uses s of_block_parameter) (deparser_params h r)) []
deparser_params_kept s h r p a = behind_kept (block_param_kept s None (codes "packet_out") r.packet packet_out p refl) (behind_kept (block_param_kept s (Some In) h r.headers (struct h) a refl) none_kept)

pub whole_var_kept : (s : Scope) (type called : Name) → sort_of s type ≡ a_type (struct type) → Keeps (var_uses s (whole_var type called)) (struct type ∷ [])
whole_var_kept s type called known = behind_kept (named_type s of_variable type (struct type) known refl) none_kept

-- states

pub target_state : (s : Scope) (text : Name) → sort_of s text ≡ a_state → Keeps (target_uses s (target_of.State text)) []
target_state s text known = first_kept (record { t1 = ap (λ (x : Sort). not (is_wanted some_state x)) known; t2 = refl; t3 = refl; t4 = refl; t5 = refl; t6 = refl; t8 = refl; t9 = refl; t10 = refl; calls = refl }) refl refl none_kept

pub target_accept : (s : Scope) → Keeps (target_uses s target_of.Accept) []
target_accept s = none_kept

-- one line of a `select` whose one key is bits

pub case_value : (s : Scope) (width v : ℕ) (t : Target) → v < 2 ^ width → Keeps (target_uses s t) [] → Keeps (case_uses s (bits width ∷ []) (record { keyset = keyset.One (simple.Value (literal (sized width v))); target = t })) []
case_value s width v t fits goes =
    first_kept (record { t1 = refl; t2 = refl; t3 = refl; t4 = refl; t5 = refl; t6 = refl; t8 = refl; t9 = refl; t10 = refl; calls = refl }) refl refl
    (behind_kept (behind_kept (sits_kept (sits_literal s width v fits) (omega arith)) none_kept) goes)

pub case_mask : (s : Scope) (width v m : ℕ) (t : Target) → v < 2 ^ width → m < 2 ^ width → Keeps (target_uses s t) [] → Keeps (case_uses s (bits width ∷ []) (record { keyset = keyset.One (simple.Mask (literal (sized width v)) (literal (sized width m))); target = t })) []
case_mask s width v m t fits masks goes =
    first_kept (record { t1 = refl; t2 = refl; t3 = refl; t4 = refl; t5 = refl; t6 = refl; t8 = refl; t9 = refl; t10 = refl; calls = refl }) refl refl
    (behind_kept (behind_kept (behind_kept (sits_kept (sits_literal s width v fits) (omega arith)) (sits_kept (sits_literal s width m masks) (omega arith))) none_kept) goes)

pub case_default : (s : Scope) (width : ℕ) (t : Target) → Keeps (target_uses s t) [] → Keeps (case_uses s (bits width ∷ []) (record { keyset = keyset.One simple.Default; target = t })) []
case_default s width t goes =
    first_kept (record { t1 = refl; t2 = refl; t3 = refl; t4 = refl; t5 = refl; t6 = refl; t8 = refl; t9 = refl; t10 = refl; calls = refl }) refl refl goes

pub transition_go : (s : Scope) (t : Target) → Keeps (target_uses s t) [] → Keeps (transition_uses s (transition.Go t)) []
transition_go s t goes = goes

asks_select : (width : ℕ) (can : Bool) → Asks select_key (bits width) can
asks_select width can = record { opens = refl; takes_it = refl; writes = refl }

abbrev pub CaseKeeps : Scope → ℕ → SelectCase → Type 0
CaseKeeps s width c = Keeps (case_uses s (bits width ∷ []) c) []

pub transition_select : {key : Exp16} {width d : ℕ} {can : Bool} (s : Scope) (cases : List SelectCase) → Sound s key (bits width) can d → d ≤ 400 → AllByRecursion (CaseKeeps s width) cases → Keeps (transition_uses s (transition.Select (key ∷ []) cases)) []
transition_select {key} {width} {can = can} s cases x few all =
    behind_kept (behind_kept (sits_kept (sits x select_key (asks_select width can)) few) none_kept)
    (subst (λ (k : Kind). Keeps (flat_map (case_uses s (k ∷ [])) cases) []) (sym x.kind) (each cases all)) where
      each : (cs : List SelectCase) → AllByRecursion (CaseKeeps s width) cs → Keeps (flat_map (case_uses s (bits width ∷ [])) cs) []
      each [] all = none_kept
      each (c ∷ cs) all = behind_kept all.0 (each cs all.1)

-- states declare no variables
pub state_kept : {deep : ℕ} (s : Scope) (x : State) → Part s s [] deep x.body → deep ≤ 400 → Keeps (transition_uses s x.transition) [] → StateKeeps s x
state_kept s x p few goes = behind_kept (body_kept 0 x.body p refl (omega (arith, few))) (subst (λ (t : Scope). Keeps (transition_uses t x.transition) []) (sym p.goes) goes)

states_kept : (s : Scope) (states : List State) → AllByRecursion (StateKeeps s) states → Keeps (flat_map (state_uses s) states) []
states_kept s [] all = none_kept
states_kept s (x ∷ states) all = behind_kept all.0 (states_kept s states all.1)

pub parser_kept : (s : Scope) (p : Parser16) → ParserFits s p → DeclarationKeeps s (decl.Parser p) []
parser_kept s p fits = record {
  keeps = first_kept (names_fine (map called_of (parser_names s.names p)) fits.names) refl refl
      (behind_kept (behind_kept fits.parameters (subst (λ (vs : List Var). Keeps (flat_map (var_uses (parser_scope s p)) vs) []) (sym fits.bare) none_kept)) (states_kept (parser_scope s p) p.states fits.states));
  states = states;
  calls = λ never. never;
} where
  states : IsTrue (has_no_start p) ⊎ HasCycle (idle_graph p) → ⊥
  states (inl lacks) = false≢true (sym (ap not fits.start) ∙ lacks)
  states (inr cycle) = fits.acyclic cycle

-- C9: where the states of each edge but from a state that none leads to are states of P4_14, with the same edge, and the first
-- of them extracts nothing, there is no cycle.
module _ (ds : List Decl14) (g : List (List ℕ)) (f : ℕ → ℕ) (edges : (z a b : ℕ) → IsEdge g z a → IsEdge g a b → Contains (next_of ds (f a)) (f b) × (extracts_of ds (f a) ≡ [])) where
  last_edge : (c a : ℕ) → Walk g a c → (z : ℕ) × IsEdge g z c
  last_edge c a (Edge _ e) = (a, e)
  last_edge c a (Onward _ b e rest) = last_edge c b rest

  shown : (c a z : ℕ) → IsEdge g z a → Walk g a c → (between : List ℕ) × IsWalk (next_of ds) (f a ∷ between ++ f c ∷ []) × (walk_extracts ds (f a ∷ between) ≡ [])
  shown c a z into (Edge _ e) = let one = edges z a c into e in ([], (one.0, tt), ap (λ (xs : List ℕ). xs ++ []) one.1)
  shown c a z into (Onward _ b e rest) =
      let one = edges z a b into e in
      let more = shown c b a e rest in
      (f b ∷ more.0, (one.0, more.1), ap₂ (λ (xs ys : List ℕ). xs ++ ys) one.1 more.2)

  pub idle_shown : (HasIdleCycle ds → ⊥) → HasCycle g → ⊥
  idle_shown none cycle =
      let z = last_edge cycle.0 cycle.0 cycle.1 in
      let found = shown cycle.0 cycle.0 z.0 z.1 cycle.1 in
      none (record { state = f cycle.0; between = found.0; cycle = found.1; idle = found.2 })

-- where each edge leads down
down : (g : List (List ℕ)) → ((a b : ℕ) → IsEdge g a b → b < a) → (c a : ℕ) → Walk g a c → c < a
down g falls c a (Edge _ e) = falls a c e
down g falls c a (Onward _ b e rest) = let lower = down g falls c b rest in let first = falls a b e in omega (arith, lower, first)

pub falling : (g : List (List ℕ)) → ((a b : ℕ) → IsEdge g a b → b < a) → HasCycle g → ⊥
falling g falls cycle = let lower = down g falls cycle.0 cycle.0 cycle.1 in absurd (omega (arith, lower))

-- controls

locals_kept : (s : Scope) (locals : List Local) → AllByRecursion (LocalKeeps s) locals → Keeps (flat_map (local_uses s) locals) (flat_map local_held locals)
locals_kept s [] all = none_kept
locals_kept s (l ∷ locals) all = behind_kept all.0 (locals_kept s locals all.1)

-- no action calls another
calls_bare : (s : Scope) (c : Control16) (locals : List Local) → AllByRecursion (LocalKeeps (control_scope s c)) locals → AllByRecursion (λ a. calls_of s c a ≡ []) (filter_map action_in locals)
calls_bare s c [] all = tt
calls_bare s c (local.Action a ∷ locals) all = (ap (filter_map (action_number c)) (calls_none (action_uses (control_scope s c) a) all.0.fine), calls_bare s c locals all.1)
calls_bare s c (l ∷ locals) all = calls_bare s c locals all.1

no_edges : {X : Type 0} (f : X → List ℕ) (xs : List X) → AllByRecursion (λ x. f x ≡ []) xs → (a b : ℕ) → IsEdge (map f xs) a b → ⊥
no_edges f [] all zero b e = e
no_edges f [] all (suc a) b e = e
no_edges f (x ∷ xs) all zero b e = subst (Among b) all.0 e
no_edges f (x ∷ xs) all (suc a) b e = no_edges f xs all.1 a b e

pub control_kept : (s : Scope) (c : Control16) → ControlFits s c → DeclarationKeeps s (decl.Control c) (control_held c)
control_kept s c fits = record {
  keeps = subst (Keeps (control_uses s c)) (none_behind (control_held c))
      (first_kept (names_fine (map called_of (control_names s.names c)) fits.names) refl refl
      (first_kept (record { t1 = refl; t2 = refl; t3 = refl; t4 = refl; t5 = refl; t6 = refl; t8 = refl; t9 = fits.counters; t10 = refl; calls = refl }) refl refl
      (behind_kept (behind_kept fits.parameters (locals_kept (control_scope s c) c.locals fits.locals)) (body_kept 1 c.body fits.body refl (let few = fits.few in omega (arith, few))))));
  states = λ never. never;
  calls = falling (call_graph s c) (λ a b e. absurd (no_edges (calls_of s c) (actions_in c) (calls_bare s c c.locals fits.locals) a b e));
} where
  none_behind : (ks : List Kind) → ks ++ [] ≡ ks
  none_behind [] = refl
  none_behind (x ∷ ks) = ap (λ (zs : List Kind). x ∷ zs) (none_behind ks)
