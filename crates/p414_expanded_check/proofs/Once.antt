-- Calls come to the same primitives, whichever way they are expanded, and where no action calls itself, to some.
use Rattle.std.proofs.Common.{◌≡◌, ℕ, ◌⊎◌, List, [], ◌∷◌, ◌++◌, slice_get, inl, inr, Some, None, refl, sym, ap, ◌∙◌, subst}
use Rattle.p414_syntax.specs.declared.actions.Action.{Action}
use Rattle.p414_syntax.specs.declared.syntax.Decl.{Decl}
use Rattle.p414_syntax.specs.Arguments.{Invocation, invocations_of, actions, action_of}
use Rattle.p414_syntax.specs.ActionExpansion.{body_with, CallsExpand, NoCalls, OfPrimitive, OfAction, ActionExpands}
use Rattle.p414_expanded_check.specs.internal.Flow.{IsOrder}
use Rattle.p414_expanded_check.proofs.Order.{some_primitives}

-- what calls come to, by the first of them

abbrev First : List Decl → Invocation → List Invocation → List Invocation → Type 0
First ds i rest other =
    ((all : List Invocation) × (action_of ds i.callee ≡ None) × CallsExpand ds rest all × (other ≡ i ∷ all))
    ⊎ ((a : Action) × (within : List Invocation) × (all : List Invocation) × (action_of ds i.callee ≡ Some a) × CallsExpand ds (body_with i.arguments a) within × CallsExpand ds rest all × (other ≡ within ++ all))

abbrev ByFirst : List Decl → List Invocation → List Invocation → Type 0
ByFirst ds [] other = other ≡ []
ByFirst ds (i ∷ rest) other = First ds i rest other

by_first : (ds : List Decl) (is other : List Invocation) → CallsExpand ds is other → ByFirst ds is other
by_first ds _ _ NoCalls = refl
by_first ds _ _ (OfPrimitive i rest all alone h) = inl (all, alone, h, refl)
by_first ds _ _ (OfAction i rest within all a there h k) = inr (a, within, all, there, h, k, refl)

some_same : {X : Type 0} {x y : X} → Some x ≡ Some y → x ≡ y
some_same e = cc e

-- calls come to the same primitives, whichever way they are expanded
pub expands_once : (ds : List Decl) (is all : List Invocation) → CallsExpand ds is all → (other : List Invocation) → CallsExpand ds is other → all ≡ other
expands_once ds _ _ NoCalls other k = sym (by_first ds [] other k)
expands_once ds _ _ (OfPrimitive i rest all alone h) other k = by_other (expands_once ds rest all h) (by_first ds (i ∷ rest) other k) where
  by_other : ((o : List Invocation) → CallsExpand ds rest o → all ≡ o) → First ds i rest other → i ∷ all ≡ other
  by_other same (inl (o, none, g, e)) = ap (λ l. i ∷ l) (same o g) ∙ sym e
  by_other same (inr (a, w, o, there, f, g, e)) = absurd (cc (alone, there))
expands_once ds _ _ (OfAction i rest within all a there h l) other k = by_other (expands_once ds (body_with i.arguments a) within h) (expands_once ds rest all l) (by_first ds (i ∷ rest) other k) where
  by_other : ((o : List Invocation) → CallsExpand ds (body_with i.arguments a) o → within ≡ o) → ((o : List Invocation) → CallsExpand ds rest o → all ≡ o) → First ds i rest other → within ++ all ≡ other
  by_other inside same (inl (o, none, g, e)) = absurd (cc (there, none))
  by_other inside same (inr (b, w, o, is, f, g, e)) =
      let body : b ≡ a = some_same (sym is ∙ there) in
      ap (λ x. x ++ all) (inside w (subst (λ (c : Action). CallsExpand ds (body_with i.arguments c) w) body f)) ∙ (ap (λ x. w ++ x) (same o g) ∙ sym e)

pub action_expands_once : (ds : List Decl) (n : ℕ) (all other : List Invocation) → ActionExpands ds n all → ActionExpands ds n other → all ≡ other
action_expands_once ds n all other x y =
    let same : y.action ≡ x.action = some_same (sym y.numbered ∙ x.numbered) in
    expands_once ds (invocations_of x.action) all x.expands other (subst (λ (a : Action). CallsExpand ds (invocations_of a) other) same y.expands)

-- with an order in which each action stands behind those that it calls, each declared action comes to some primitives
pub action_expands : (ds : List Decl) (order : List ℕ) → IsOrder ds order → (n : ℕ) (a : Action) → slice_get (actions ds) n ≡ Some a → (all : List Invocation) × ActionExpands ds n all
action_expands ds order is n a there =
    let h = some_primitives ds order is.behind is.each n a there in
    (h.0, record { action = a; numbered = there; expands = h.1 })
