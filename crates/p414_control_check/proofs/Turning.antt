-- Turns of the loop over the controls in the order of their components.
use Rattle.std.proofs.Common.{◌≡◌, ℕ, ◌+◌, ◌<◌, ◌≤◌, min, List, length, get_or, set, take, refl, sym, ap, ◌∙◌, subst}
use Rattle.std.specs.Prelude.{IsTrue}
use Rattle.std.specs.Option.{option_map_or}
use Rattle.std.proofs.lemmas.List.{length-map}
use Rattle.digraph.specs.Graphs.{Among}
use Rattle.digraph.specs.Components.{Condensation, AreComponents}
use Rattle.digraph.proofs.Members.{among_place}
use Rattle.p414_syntax.specs.declared.syntax.Decl.{Decl}
use Rattle.p414_syntax.specs.ControlExpansion.{controls, calls_in}
use Rattle.p414_syntax.specs.Controls.{ControlCallsItself}
use Rattle.p414_syntax.specs.Unknown.{has_unknown_name}
use Rattle.p414_control_check.specs.internal.Expanded.{control_graph}
use Rattle.p414_control_check.specs.internal.Depths.{depth_in, depth_at, depth_within, IsDeep, AreDepths}
use Rattle.p414_control_check.proofs.Expanding.{get_within}
use Rattle.p414_control_check.proofs.Declared.{all_there}
use Rattle.p414_control_check.proofs.Holding.{closed, acyclic_by}
use Rattle.p414_control_check.proofs.Deepening.{deep_more, all_deep}

-- the node that is read is that of a control
pub node_within : (ds : List Decl) (c : Condensation) (xs : List ℕ) (k : ℕ) → AreComponents (control_graph ds) c → xs ≡ c.order → k < length xs → get_or xs k 0 < length (controls ds)
node_within ds c xs k h e lt =
    let rows : length (control_graph ds) ≡ length (controls ds) = length-map (controls ds) (calls_in ds) in
    subst (λ n. get_or xs k 0 < n) rows ((h.nodes (get_or xs k 0)).0 (subst (λ ys. Among (get_or xs k 0) ys) e (among_place xs k 0 lt)))

pub deep_turn : (ds : List Decl) (k : Condensation) (xs depths read : List ℕ) (i v : ℕ) → (IsTrue (has_unknown_name ds) → ⊥) → AreComponents (control_graph ds) k → (ControlCallsItself ds → ⊥) → xs ≡ k.order → read ≡ depths → i < length xs → length depths ≡ length (controls ds)
    → ((b : ℕ) → Among b (take i k.order) → IsDeep ds depths b) → v ≡ depth_at ds read (get_or xs i 0)
    → (b : ℕ) → Among b (take (i + 1) k.order) → IsDeep ds (set depths (get_or xs i 0) v) b
deep_turn ds k xs depths read i v known h acyclic order same lt each deep is b among =
    let n : ℕ = get_or k.order i 0 in
    let at : get_or xs i 0 ≡ get_or k.order i 0 = ap (λ ys. get_or ys i 0) order in
    let inside : i < length k.order = subst (λ ys. i < length ys) order lt in
    let within : get_or k.order i 0 < length (controls ds) = node_within ds k k.order i h refl inside in
    let c = get_within (controls ds) (get_or k.order i 0) within in
    let rows : length (control_graph ds) ≡ length (controls ds) = length-map (controls ds) (calls_in ds) in
    let value : v ≡ min 65 (depth_within ds depths c.0.body) =
    is ∙ (ap (λ m. depth_at ds read m) at ∙ (ap (λ ds_read. depth_at ds ds_read (get_or k.order i 0)) same ∙ ap (λ o. min 65 (option_map_or (depth_in ds depths) o 0)) c.1)) in
    subst (λ m. IsDeep ds (set depths m v) b) (sym at)
    (deep_more ds (control_graph ds) k depths i v c.0 refl (all_there ds known) (closed ds) h (acyclic_by ds (control_graph ds) refl acyclic) inside (each ∙ sym rows) c.1 deep value b among)

pub are_depths : (ds : List Decl) (k : Condensation) (xs depths : List ℕ) (i : ℕ) → AreComponents (control_graph ds) k → xs ≡ k.order → length xs ≤ i → length depths ≡ length (controls ds)
    → ((b : ℕ) → Among b (take i k.order) → IsDeep ds depths b) → AreDepths ds depths
are_depths ds k xs depths i h order le each deep =
    record { each = each; all = all_deep ds (control_graph ds) k depths i refl h (subst (λ ys. length ys ≤ i) order le) deep }
