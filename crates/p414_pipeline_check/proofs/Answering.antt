-- From what is known of the tables to what is said of requests.
use Rattle.std.proofs.Common.{◌≡◌, ℕ, ◌<◌, Bool, true, false, not, ◌&&◌, ◌||◌, ◌⊎◌, inl, inr, ⊎_elim, List, length, Option, None, Some, MatchOption, Result, refl, sym, ap, ◌∙◌, subst}
use Rattle.std.specs.Global.{Vec}
use Rattle.std.specs.Prelude.{IfOk}
use Rattle.std.proofs.lemmas.List.{length-map}
use Rattle.std.proofs.lemmas.Result.{IfOk-weaker}
use Rattle.digraph.specs.Graphs.{IsClosed}
use Rattle.digraph.specs.Expansions.{AreSizes, HasCycle}
use Rattle.p414_syntax.specs.declared.syntax.Decl.{Decl}
use Rattle.p414_syntax.specs.Names.{Name}
use Rattle.p414_syntax.specs.Arguments.{invocations_of, actions}
use Rattle.p414_syntax.specs.ActionExpansion.{called_in}
use Rattle.p414_syntax.specs.Actions.{ActionCallsItself}
use Rattle.p414_syntax.specs.ControlExpansion.{ingress, egress}
use Rattle.p414_syntax.specs.Exact.{IsExact}
use Rattle.p414_syntax.specs.Tables.{tables}
use Rattle.p414_syntax.specs.Pipelines.{ingress_requests, egress_requests, IsApplied, ListsRequest, CountsAsIngress, HasMisplacedRequest}
use Rattle.p414_pipeline_check.specs.internal.Applied.{AreApplied}
use Rattle.p414_pipeline_check.specs.internal.Requests.{any_request, own_requests, all_calls, action_graph, tables_with_requests, AreListed, Marks, is_marked, is_misplaced, IsSomeMisplaced}
use Rattle.p414_pipeline_check.proofs.Requesting.{calls_itself, closed, are_listed, listed_within}

-- Boolean tests

and_left : (a b : Bool) → (a && b) ≡ true → a ≡ true
and_left true b e = refl
and_left false b e = e

by_both : (a b : Bool) → a ≡ true → b ≡ true → (a && b) ≡ true
by_both a b e f = ap (λ x. x && b) e ∙ f

and_right : (a b : Bool) → (a && b) ≡ true → b ≡ true
and_right true b e = e
and_right false b e = absurd (cc e)

or_parts : (a b : Bool) → (a || b) ≡ true → (a ≡ true) ⊎ (b ≡ true)
or_parts true b e = inl e
or_parts false b e = inr e

or_left : (a b : Bool) → a ≡ true → (a || b) ≡ true
or_left a b e = ap (λ x. x || b) e

or_right : (a b : Bool) → b ≡ true → (a || b) ≡ true
or_right true b e = refl
or_right false b e = e

is_not : (a : Bool) → not a ≡ true → a ≡ true → ⊥
is_not true e f = cc e
is_not false e f = cc f

by_not : (a : Bool) → (a ≡ true → ⊥) → not a ≡ true
by_not true h = absurd (h (refl))
by_not false h = refl

module _ (ds : List Decl) (m : Marks) (in_ingress : AreApplied ds ingress m.ingress) (in_egress : AreApplied ds egress m.egress) (of_ingress : AreListed ds ingress_requests m.of_ingress) (of_egress : AreListed ds egress_requests m.of_egress) where
  counts : (k : ℕ) → k < length (tables ds) → (is_marked m.ingress k || not (is_marked m.egress k)) ≡ true → CountsAsIngress ds k
  counts k lt e = by_mark (is_marked m.ingress k) refl e where
    by_mark : (b : Bool) → is_marked m.ingress k ≡ b → (b || not (is_marked m.egress k)) ≡ true → CountsAsIngress ds k
    by_mark true is h = inl ((in_ingress.exact k lt).0 is)
    by_mark false is h = inr (λ x. cc (is, (in_ingress.exact k lt).1 x), λ x. is_not (is_marked m.egress k) h ((in_egress.exact k lt).1 x))

  counted : (k : ℕ) → k < length (tables ds) → CountsAsIngress ds k → (is_marked m.ingress k || not (is_marked m.egress k)) ≡ true
  counted k lt (inl h) = or_left (is_marked m.ingress k) _ ((in_ingress.exact k lt).1 h)
  counted k lt (inr h) = or_right (is_marked m.ingress k) _ (by_not (is_marked m.egress k) (λ e. h.1 ((in_egress.exact k lt).0 e)))

  misplaced_at : (k : ℕ) → k < length (tables ds) → is_misplaced m k ≡ true → HasMisplacedRequest ds
  misplaced_at k lt e =
      ⊎_elim
      (λ h. inl (k, (in_egress.exact k lt).0 (and_left (is_marked m.egress k) _ h), (of_ingress.exact k lt).0 (and_right (is_marked m.egress k) _ h)))
      (λ h. inr (k, counts k lt (and_left (is_marked m.ingress k || not (is_marked m.egress k)) _ h), (of_egress.exact k lt).0 (and_right (is_marked m.ingress k || not (is_marked m.egress k)) _ h)))
      (or_parts (is_marked m.egress k && is_marked m.of_ingress k) ((is_marked m.ingress k || not (is_marked m.egress k)) && is_marked m.of_egress k) e)

  at_egress : (k : ℕ) → k < length (tables ds) → IsApplied ds egress k → ListsRequest ds k ingress_requests → is_misplaced m k ≡ true
  at_egress k lt a r = or_left (is_marked m.egress k && is_marked m.of_ingress k) _ (by_both (is_marked m.egress k) (is_marked m.of_ingress k) ((in_egress.exact k lt).1 a) ((of_ingress.exact k lt).1 r))

  at_ingress : (k : ℕ) → k < length (tables ds) → CountsAsIngress ds k → ListsRequest ds k egress_requests → is_misplaced m k ≡ true
  at_ingress k lt a r = or_right (is_marked m.egress k && is_marked m.of_ingress k) _ (by_both (is_marked m.ingress k || not (is_marked m.egress k)) (is_marked m.of_egress k) (counted k lt a) ((of_egress.exact k lt).1 r))

  pub misplaced_is : (some : Bool) → IsSomeMisplaced some m → IsExact some (HasMisplacedRequest ds)
  misplaced_is true h = misplaced_at h.0 (subst (λ n. h.0 < n) in_ingress.each h.1) h.2
  misplaced_is false h = λ r.
      ⊎_elim
      (λ x. let lt = listed_within ds x.0 ingress_requests x.2 in h x.0 (subst (λ n. x.0 < n) (sym in_ingress.each) lt) (at_egress x.0 lt x.1 x.2))
      (λ x. let lt = listed_within ds x.0 egress_requests x.2 in h x.0 (subst (λ n. x.0 < n) (sym in_ingress.each) lt) (at_ingress x.0 lt x.1 x.2))
      r

-- what the calls on graphs answer

pub closed_by : (ds : List Decl) (g : List (List ℕ)) → g ≡ action_graph ds → IsClosed g
closed_by ds g e = subst (λ (n : List (List ℕ)). IsClosed n) (sym e) (closed ds)

pub own_each : (ds : List Decl) (primitives : List Name) (g : List (List ℕ)) (own : List ℕ) → g ≡ action_graph ds → own ≡ own_requests ds primitives (all_calls ds) → length own ≡ length g
own_each ds primitives g own e h =
    ap length h
    ∙ (length-map (all_calls ds) (any_request ds primitives)
    ∙ (length-map (actions ds) invocations_of ∙ (sym (length-map (actions ds) (called_in ds)) ∙ ap length (sym e))))

pub sizes_of : (ds : List Decl) (g : List (List ℕ)) (own there : List ℕ) (found : Option (Vec ℕ)) (sizes : Vec ℕ) → g ≡ action_graph ds → own ≡ there → MatchOption found (HasCycle g) (λ s. AreSizes g own 1 s.items) → found ≡ Some sizes → AreSizes (action_graph ds) there 1 sizes.items
sizes_of ds g own there found sizes e h known is =
    let at : AreSizes g own 1 sizes.items = subst (λ (o : Option (Vec ℕ)). MatchOption o (HasCycle g) (λ s. AreSizes g own 1 s.items)) is known in
    subst (λ (o : List ℕ). AreSizes (action_graph ds) o 1 sizes.items) h (subst (λ (n : List (List ℕ)). AreSizes n own 1 sizes.items) e at)

pub no_sizes : (ds : List Decl) (g : List (List ℕ)) (own : List ℕ) (found : Option (Vec ℕ)) (P : Type 0) → g ≡ action_graph ds → (ActionCallsItself ds → ⊥) → MatchOption found (HasCycle g) (λ s. AreSizes g own 1 s.items) → found ≡ None → P
no_sizes ds g own found P e none known is =
    let cycle : HasCycle g = subst (λ (o : Option (Vec ℕ)). MatchOption o (HasCycle g) (λ s. AreSizes g own 1 s.items)) is known in
    absurd (none (calls_itself ds (subst (λ (n : List (List ℕ)). HasCycle n) e cycle)))

pub listed_by : (ds : List Decl) (primitives : List Name) (sizes read : List ℕ) (marks : List Bool) → AreSizes (action_graph ds) (own_requests ds primitives (all_calls ds)) 1 sizes → read ≡ sizes → marks ≡ tables_with_requests ds read → AreListed ds primitives marks
listed_by ds primitives sizes read marks known same is =
    subst (λ (l : List Bool). AreListed ds primitives l) (sym (is ∙ ap (tables_with_requests ds) same)) (are_listed ds primitives sizes known)

pub marks_by : {E : Type 0} (ds : List Decl) (primitives : List Name) (sizes read : List ℕ) (result : Result (Vec Bool) E) → AreSizes (action_graph ds) (own_requests ds primitives (all_calls ds)) 1 sizes → read ≡ sizes → IfOk result (λ found. found.items ≡ tables_with_requests ds read) → IfOk result (λ listed. AreListed ds primitives listed.items)
marks_by ds primitives sizes read result known same h =
    IfOk-weaker result (λ found. found.items ≡ tables_with_requests ds read) (λ listed. AreListed ds primitives listed.items) (λ found is. listed_by ds primitives sizes read found.items known same is) h

pub misplaced_by : (ds : List Decl) (ins outs of_in of_out there_in there_out : List Bool) (some : Bool) → AreApplied ds ingress ins → AreApplied ds egress outs → AreListed ds ingress_requests there_in → AreListed ds egress_requests there_out → of_in ≡ there_in → of_out ≡ there_out → IsSomeMisplaced some (record { ingress = ins; egress = outs; of_ingress = of_in; of_egress = of_out }) → IsExact some (HasMisplacedRequest ds)
misplaced_by ds ins outs of_in of_out there_in there_out some a b c d e f h =
    misplaced_is ds (record { ingress = ins; egress = outs; of_ingress = of_in; of_egress = of_out }) a b
    (subst (λ (l : List Bool). AreListed ds ingress_requests l) (sym e) c) (subst (λ (l : List Bool). AreListed ds egress_requests l) (sym f) d) some h

pub onto : {E : Type 0} (result : Result Bool E) (a b : List Decl) → a ≡ b → IfOk result (λ m. IsExact m (HasMisplacedRequest a)) → IfOk result (λ m. IsExact m (HasMisplacedRequest b))
onto result a b e h = subst (λ (ds : List Decl). IfOk result (λ m. IsExact m (HasMisplacedRequest ds))) e h
