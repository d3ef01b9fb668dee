-- From what the calls on a graph of controls answer to what is said of the controls.
use Rattle.std.proofs.Common.{◌≡◌, ℕ, Bool, nat_lt, List, length, Option, None, Some, MatchOption, Result, sym, ap, ◌∙◌, subst}
use Rattle.std.specs.Global.{Vec}
use Rattle.std.specs.Prelude.{IfOk, IsTrue}
use Rattle.std.proofs.lemmas.List.{length-map}
use Rattle.digraph.specs.Expansions.{AreSizes, HasCycle}
use Rattle.p414_syntax.specs.declared.syntax.Decl.{Decl}
use Rattle.p414_syntax.specs.ControlExpansion.{controls, calls_in}
use Rattle.p414_syntax.specs.Controls.{HasBadControl}
use Rattle.p414_syntax.specs.Exact.{IsExact}
use Rattle.p414_syntax.specs.Unknown.{has_unknown_name}
use Rattle.p414_control_check.specs.internal.Expanded.{control_graph, capped_count, own_counts, pipelines_size}
use Rattle.p414_control_check.proofs.Declared.{all_there}
use Rattle.p414_control_check.proofs.Sized.{bad_is}

pub own_each : (ds : List Decl) (g : List (List ℕ)) (counts : List ℕ) → g ≡ control_graph ds → counts ≡ own_counts 65537 ds → length counts ≡ length g
own_each ds g counts e h =
    ap length h ∙ (length-map (controls ds) (capped_count 65537) ∙ (sym (length-map (controls ds) (calls_in ds)) ∙ ap length (sym e)))

pub sizes_by : {E : Type 0} (result : Result (Option (Vec ℕ)) E) (g graph : List (List ℕ)) (counts own : List ℕ) → g ≡ graph → counts ≡ own → IfOk result (λ found. MatchOption found (HasCycle g) (λ s. AreSizes g counts 65537 s.items)) → IfOk result (λ found. MatchOption found (HasCycle graph) (λ s. AreSizes graph own 65537 s.items))
sizes_by result g graph counts own e h known =
    subst (λ (o : List ℕ). IfOk result (λ found. MatchOption found (HasCycle graph) (λ s. AreSizes graph o 65537 s.items))) h
    (subst (λ (n : List (List ℕ)). IfOk result (λ found. MatchOption found (HasCycle n) (λ s. AreSizes n counts 65537 s.items))) e known)

pub cycle_there : (ds : List Decl) (own : List ℕ) (found : Option (Vec ℕ)) → MatchOption found (HasCycle (control_graph ds)) (λ s. AreSizes (control_graph ds) own 65537 s.items) → found ≡ None → HasCycle (control_graph ds)
cycle_there ds own found h e =
    subst (λ (o : Option (Vec ℕ)). MatchOption o (HasCycle (control_graph ds)) (λ s. AreSizes (control_graph ds) own 65537 s.items)) e h

pub sizes_there : (ds : List Decl) (own : List ℕ) (found : Option (Vec ℕ)) (sizes : Vec ℕ) → MatchOption found (HasCycle (control_graph ds)) (λ s. AreSizes (control_graph ds) own 65537 s.items) → found ≡ Some sizes → AreSizes (control_graph ds) own 65537 sizes.items
sizes_there ds own found sizes h e =
    subst (λ (o : Option (Vec ℕ)). MatchOption o (HasCycle (control_graph ds)) (λ s. AreSizes (control_graph ds) own 65537 s.items)) e h

pub bad_by : (ds : List Decl) (sizes there : List ℕ) (bad : Bool) → (IsTrue (has_unknown_name ds) → ⊥) → AreSizes (control_graph ds) (own_counts 65537 ds) 65537 there → sizes ≡ there → bad ≡ nat_lt 65536 (pipelines_size ds sizes) → IsExact bad (HasBadControl ds)
bad_by ds sizes there bad known are same is =
    bad_is ds sizes (subst (λ (s : List ℕ). AreSizes (control_graph ds) (own_counts 65537 ds) 65537 s) (sym same) are) (all_there ds known) bad (sym is)
