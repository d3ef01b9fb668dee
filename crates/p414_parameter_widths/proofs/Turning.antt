-- Turns of the loop over the actions in the order of their components.
use Rattle.std.proofs.Common.{◌≡◌, ℕ, zero, suc, ◌+◌, ◌<◌, ◌≤◌, ⊎_elim, List, [], ◌∷◌, ◌++◌, length, get_or, set, take, map, flat_map, slice_get, Some, refl, sym, ap, ◌∙◌, subst, arith}
use Rattle.std.specs.Option.{option_map_or}
use Rattle.std.proofs.lemmas.Bool.{cases_eq}
use Rattle.std.proofs.lemmas.List.{take_more, get_or-set_same, get_or-set_other, length-append, length-map}
use Rattle.digraph.specs.Graphs.{Among, IsEdge, OnCycle}
use Rattle.digraph.specs.Components.{Condensation, AreComponents}
use Rattle.digraph.proofs.Listing.{among_append}
use Rattle.digraph.proofs.Members.{among_place}
use Rattle.digraph.proofs.Sizing.{comes_before}
use Rattle.p414_syntax.specs.declared.actions.Action.{Action}
use Rattle.p414_syntax.specs.declared.syntax.Decl.{Decl}
use Rattle.p414_syntax.specs.Arguments.{Invocation, invocations_of, actions}
use Rattle.p414_syntax.specs.ActionExpansion.{called_in}
use Rattle.p414_syntax.specs.Actions.{ActionCallsItself}
use Rattle.p414_list_check.proofs.Expanding.{get_within, at_row}
use Rattle.p414_action_check.specs.internal.Counted.{action_graph}
use Rattle.p414_action_check.proofs.Expanding.{called}
use Rattle.p414_action_check.proofs.Holding.{closed, calls_itself}
use Rattle.p414_sem.specs.Signatures.{use_widths, greatest, width_within}
use Rattle.p414_parameter_widths.specs.internal.Noting.{row_at, width_of, widths_at, parameter_count}
use Rattle.p414_parameter_widths.proofs.Asking.{width_in, row_of, wide, widths_length, calls_same}

-- the row of an action is right, where so many calls are counted or more
pub record Known (ds : List Decl) (rows : List (List ℕ)) (limit b : ℕ) : Type 0 where
  pub each : length (row_at rows b) ≡ get_or (map parameter_count (actions ds)) b 0
  pub right : (calls : ℕ) → limit ≤ calls → (p : ℕ) → width_in rows b p ≡ width_within ds calls b p

pub at_place : {X Y : Type 0} (f : X → Y) (xs : List X) (l : ℕ) (x : X) (d : Y) → slice_get xs l ≡ Some x → get_or (map f xs) l d ≡ f x
at_place f [] l x d e = absurd (cc e)
at_place f (y ∷ xs) zero x d e = ap f (cc e)
at_place f (y ∷ xs) (suc l) x d e = at_place f xs l x d e

acyclic : (ds : List Decl) → (ActionCallsItself ds → ⊥) → (a : ℕ) → OnCycle (action_graph ds) a → ⊥
acyclic ds none a cycle = none (calls_itself ds (a, cycle))

graph_length : (ds : List Decl) → length (action_graph ds) ≡ length (actions ds)
graph_length ds = length-map (actions ds) (called_in ds)

-- the node that is read is that of an action
pub node_within : (ds : List Decl) (c : Condensation) (xs : List ℕ) (k : ℕ) → AreComponents (action_graph ds) c → xs ≡ c.order → k < length xs → get_or xs k 0 < length (actions ds)
node_within ds c xs k h e lt =
    subst (λ n. get_or xs k 0 < n) (graph_length ds) ((h.nodes (get_or xs k 0)).0 (subst (λ ys. Among (get_or xs k 0) ys) e (among_place xs k 0 lt)))

module _ (ds : List Decl) (k : Condensation) (rows : List (List ℕ)) (i : ℕ) (h : AreComponents (action_graph ds) k) (none : ActionCallsItself ds → ⊥) (lt : i < length k.order) (each : length rows ≡ length (actions ds)) (known : (b : ℕ) → Among b (take i k.order) → Known ds rows (length (take i k.order)) b) where
  abbrev node : ℕ
  node = get_or k.order i 0

  callee_known : (a : Action) (calls c : ℕ) → slice_get (actions ds) (get_or k.order i 0) ≡ Some a → length (take i k.order) ≤ calls → Among c (called ds (invocations_of a)) → (p : ℕ) → width_in rows c p ≡ width_within ds calls c p
  callee_known a calls c there le among p =
      let edge : IsEdge (action_graph ds) (get_or k.order i 0) c = subst (Among c) (sym (at_row (called_in ds) (actions ds) (get_or k.order i 0) a there)) among in
      (known c (comes_before (action_graph ds) k i c (closed ds) h (acyclic ds none) lt edge)).right calls le p

  new_right : (a : Action) (new : List ℕ) → slice_get (actions ds) (get_or k.order i 0) ≡ Some a → new ≡ map width_of (row_of ds rows a) → (calls : ℕ) → length (take i k.order) + 1 ≤ calls → (p : ℕ) → get_or new p 8 ≡ width_within ds calls (get_or k.order i 0) p
  new_right a new there is zero le p = absurd (omega arith)
  new_right a new there is (suc calls) le p =
      ap (λ l. get_or l p 8) is
      ∙ (wide ds rows a p
      ∙ (ap greatest (calls_same ds (width_in rows) (width_within ds calls) p (invocations_of a) (λ c among q. callee_known a calls c there (omega arith) among q))
      ∙ sym (ap (λ o. greatest (flat_map (use_widths ds (width_within ds calls) p) (option_map_or invocations_of o []))) there)))

  pub known_more : (a : Action) (new : List ℕ) → slice_get (actions ds) (get_or k.order i 0) ≡ Some a → new ≡ map width_of (row_of ds rows a) → (b : ℕ) → Among b (take (i + 1) k.order) → Known ds (set rows (get_or k.order i 0) new) (length (take (i + 1) k.order)) b
  known_more a new there is b among =
      let order : take (i + 1) k.order ≡ take i k.order ++ get_or k.order i 0 ∷ [] = take_more k.order i 0 lt in
      let limit : length (take (i + 1) k.order) ≡ length (take i k.order) + 1 = ap length order ∙ length-append (take i k.order) (get_or k.order i 0 ∷ []) in
      let within : get_or k.order i 0 < length rows = subst (λ n. get_or k.order i 0 < n) (sym each) (node_within ds k k.order i h refl lt) in
      ⊎_elim
      (λ same.
      let row : row_at (set rows (get_or k.order i 0) new) (get_or k.order i 0) ≡ new = get_or-set_same rows (get_or k.order i 0) new [] within in
      subst (λ y. Known ds (set rows (get_or k.order i 0) new) (length (take (i + 1) k.order)) y) (sym same)
      (record {
        each = ap length row ∙ (ap length is ∙ (widths_length ds rows a ∙ sym (at_place parameter_count (actions ds) (get_or k.order i 0) a 0 there)));
        right = λ calls le p. ap (λ l. get_or l p 8) row ∙ new_right a new there is calls (omega arith) p;
      }))
      (λ differs.
      let old : Among b (take i k.order) = ⊎_elim (λ l. l) (λ r. ⊎_elim (λ e. absurd (differs e)) (λ never. absurd never) r) (among_append b (take i k.order) (get_or k.order i 0 ∷ []) (subst (λ ys. Among b ys) order among)) in
      let row : row_at (set rows (get_or k.order i 0) new) b ≡ row_at rows b = get_or-set_other rows (get_or k.order i 0) b new [] differs in
      let was = known b old in
      record {
        each = ap length row ∙ was.each;
        right = λ calls le p. ap (λ l. get_or l p 8) row ∙ was.right calls (omega arith) p;
      })
      (cases_eq b (get_or k.order i 0))

-- one more action, as the loop takes it
pub turn : (ds : List Decl) (k : Condensation) (xs : List ℕ) (rows read : List (List ℕ)) (counts : List ℕ) (calls : List (List Invocation)) (i : ℕ) (new : List ℕ) → (ActionCallsItself ds → ⊥) → AreComponents (action_graph ds) k → calls ≡ map invocations_of (actions ds) → counts ≡ map parameter_count (actions ds) → xs ≡ k.order → read ≡ rows → i < length xs → length rows ≡ length (actions ds)
    → ((b : ℕ) → Among b (take i k.order) → Known ds rows (length (take i k.order)) b)
    → new ≡ widths_at ds read (get_or counts (get_or xs i 0) 0) (get_or calls (get_or xs i 0) [])
    → (b : ℕ) → Among b (take (i + 1) k.order) → Known ds (set rows (get_or xs i 0) new) (length (take (i + 1) k.order)) b
turn ds k xs rows read counts calls i new none h called_so counted order same lt each known is b among =
    let inside : i < length k.order = subst (λ ys. i < length ys) order lt in
    let node : get_or xs i 0 ≡ get_or k.order i 0 = ap (λ ys. get_or ys i 0) order in
    let within = node_within ds k k.order i h refl inside in
    let a = get_within (actions ds) (get_or k.order i 0) within in
    let count : get_or counts (get_or xs i 0) 0 ≡ length a.0.parameters = ap (λ l. get_or l (get_or xs i 0) 0) counted ∙ (ap (λ n. get_or (map parameter_count (actions ds)) n 0) node ∙ at_place parameter_count (actions ds) (get_or k.order i 0) a.0 0 a.1) in
    let body : get_or calls (get_or xs i 0) [] ≡ invocations_of a.0 = ap (λ l. get_or l (get_or xs i 0) []) called_so ∙ (ap (λ n. get_or (map invocations_of (actions ds)) n []) node ∙ at_place invocations_of (actions ds) (get_or k.order i 0) a.0 [] a.1) in
    let value : new ≡ map width_of (row_of ds rows a.0) = is ∙ (ap (λ r. widths_at ds r (get_or counts (get_or xs i 0) 0) (get_or calls (get_or xs i 0) [])) same ∙ (ap (λ n. widths_at ds rows n (get_or calls (get_or xs i 0) [])) count ∙ ap (λ l. widths_at ds rows (length a.0.parameters) l) body)) in
    subst (λ n. Known ds (set rows n new) (length (take (i + 1) k.order)) b) (sym node) (known_more ds k rows i h none inside each known a.0 new a.1 value b among)
