use Rattle.std.proofs.Common.{◌≡◌, ◌∙◌, ℕ, sym, ap, refl, List, [], ◌∷◌, drop, get_or, slice_get, Some, arith}
use Rattle.std.proofs.lemmas.Option.{get_or_from_slice_get}
use Rattle.std.proofs.lemmas.Result.{on_ok_weaker}
use Rattle.digraph.specs.declared.search.Mark.{Mark}
use Rattle.digraph.specs.declared.search.Mark.TheVariants.{Open}
use Rattle.digraph.specs.internal.Search.{State, Closes, Stays}
use Rattle.digraph.proofs.Marking.{waits_within}
use Rattle.digraph.proofs.search.Search.leave.Goals as goal

-- the place that was read is that of the node
place_is : (marks read : List Mark) (node place p : ℕ) (m : Mark) → read ≡ marks → m ≡ get_or read node m → m ≡ Open place → slice_get marks node ≡ Some (Open p) → p ≡ place
place_is marks read node place p m same got is e =
    let here : Open place ≡ Open p = sym is ∙ (got ∙ (ap (λ ms. get_or ms node m) same ∙ get_or_from_slice_get marks node (Open p) m e)) in cc

first_is : (begins ks js : List ℕ) (p k : ℕ) → begins ≡ p ∷ ks → begins ≡ k ∷ js → p ≡ k
first_is begins ks js p k e f = let g : p ∷ ks ≡ k ∷ js = sym e ∙ f in cc

not_first : (begins ks : List ℕ) (p : ℕ) → begins ≡ [] → begins ≡ p ∷ ks → ⊥
not_first begins ks p e f = let g : [] ≡ p ∷ ks = sym e ∙ f in cc

pub close-requires-clause-begin : goal.close-requires-clause-begin
close-requires-clause-begin c =
    let o = c.requires.is_open in
    let same = place_is c.args.self.now.marks c.self.inside.marks.items c.args.frame.node c.in-Open.place o.0 c.index.result.now (ap (λ (s : State). s.marks) c.self.view_is) c.index.ensures c.in-Open.is o.1 in
    let lt = waits_within c.args.self.now.waiting o.0 c.args.frame.node (c.requires.waiting.waits c.args.frame.node o.0 o.1) in
    omega (arith, lt, same)

pub returns-in_default-front : goal.returns-in_default-front
returns-in_default-front c =
    Stays c.requires.is_open.0 c.requires.is_open.1
    (λ ks e. not_first c.args.self.now.begins ks c.requires.is_open.0 (sym (ap (λ (s : State). s.begins) c.self.view_is) ∙ c.in_default-front.ensures) e) refl

pub returns-else-begin-place : goal.returns-else-begin-place
returns-else-begin-place c =
    let o = c.requires.is_open in
    let same = place_is c.args.self.now.marks c.self.inside.marks.items c.args.frame.node c.in-Open.place o.0 c.index.result.now (ap (λ (s : State). s.marks) c.self.view_is) c.index.ensures c.in-Open.is o.1 in
    Stays o.0 o.1
    (λ ks e. c.if-begin-place.false (sym (first_is c.args.self.now.begins ks _ o.0 c.in-Some.begin e (sym (ap (λ (s : State). s.begins) c.self.view_is) ∙ c.in-Some.ensures)) ∙ same)) refl

pub returns-then-begin-place : goal.returns-then-begin-place
returns-then-begin-place c =
    let o = c.requires.is_open in
    let same = place_is c.args.self.now.marks c.self.inside.marks.items c.args.frame.node c.in-Open.place o.0 c.index.result.now (ap (λ (s : State). s.marks) c.self.view_is) c.index.ensures c.in-Open.is o.1 in
    on_ok_weaker c.close.result
    (λ e. Closes c.in-Open.place (drop 1 c.self.inside.begins)
    (o.1 ∙ ap (λ p. Some (Open p)) same)
    (sym (ap (λ (s : State). s.begins) c.self.view_is) ∙ (c.in-Some.ensures ∙ ap (λ k. k ∷ drop 1 c.self.inside.begins) c.if-begin-place.true))
    e)
    c.close.ensures
