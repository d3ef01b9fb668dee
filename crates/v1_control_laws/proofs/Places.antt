-- The actions of a control by their numbers: their parameters and variables have numbers of their own, and what they call has
-- other numbers.
use Rattle.std.proofs.Common.{◌≡◌, ◌≢◌, ◌⊎◌, inl, inr, ℕ, suc, ◌+◌, ◌≤◌, Bool, true, false, cond, ◌||◌, ◌==◌, Option, Some, None, List, [], ◌∷◌, ◌++◌, length, map, flat_map, filter_map, get_or, refl, sym, ap, ◌∙◌, subst, arith, bytes_eq, length-append}
use Rattle.std.proofs.lemmas.Bool.Decides.{Decides-eqb}
use Rattle.std.proofs.lemmas.Slice.Eq.{bytes_eq-Decides}
use Rattle.digraph.specs.Graphs.{Among, IsEdge, Edge, Onward, Reaches, OnCycle}
use Rattle.p416_syntax.specs.declared.controls.Action16.{Action16}
use Rattle.p416_syntax.specs.declared.controls.Local.{Local}
use Rattle.p416_syntax.specs.declared.controls.Local.TheVariants as local
use Rattle.p416_syntax.specs.declared.controls.Control16.{Control16}
use Rattle.p416_syntax.specs.declared.program.Decl16.{Decl16}
use Rattle.p416_syntax.specs.declared.program.Decl16.TheVariants as decl
use Rattle.p416_syntax.specs.declared.program.Syntax16.{Syntax16}
use Rattle.p416_syntax.specs.Names.{Name}
use Rattle.p416_syntax.specs.Kinds.{Kind}
use Rattle.p416_syntax.specs.Scopes.{Scope}
use Rattle.p416_syntax.specs.Declarations.{action_in}
use Rattle.p416_syntax.specs.Applications.{call_graph}
use Rattle.p416_syntax.specs.Breaks.{scope_of, SomeDeclaration, DeclarationBreaks, IsBroken, program_rules, BreaksNone}
use Rattle.p416_syntax.specs.declared.rule.ProgramRule.TheVariants.{T8}
use Rattle.v1_core.specs.declared.block.Block.{Block}
use Rattle.v1_core.specs.Slots.{local_kinds}
use Rattle.v1_core.specs.Surroundings.{action_called}
use Rattle.v1_core.specs.Blocks.{control_at}
use Rattle.v1_block_laws.specs.Variables.{action_from}
use Rattle.v1_block_laws.specs.Standing.{AreOfKinds}
use Rattle.v1_block_laws.proofs.Standing.{apart}
use Rattle.v1_block_laws.proofs.Blocks.{control_declared}
use Rattle.v1_ready_statements.specs.Around.{ActionPlace, action_places, Found, found_from}
use Rattle.v1_ready_statements.specs.Given.{cons_option}
use Rattle.v1_ready_statements.specs.Blocks.{all_of}
use Rattle.v1_control_laws.specs.Controls.{calls_among}

abbrev pub action_of : ActionPlace → Action16
action_of a = a.of

-- the number behind those of an action
abbrev pub end_of : Scope → Found → ℕ
end_of s f = f.place.first + length (local_kinds s (local.Action f.place.of))

-- the actions of a control are those that it declares
pub places_declared : (s : Scope) (n : ℕ) (locals : List Local) → map action_of (action_places s n locals) ≡ filter_map action_in locals
places_declared s n [] = refl
places_declared s n (local.Instance notes i ∷ locals) = places_declared s (n + length (local_kinds s (local.Instance notes i))) locals
places_declared s n (local.Var v ∷ locals) = places_declared s (n + length (local_kinds s (local.Var v))) locals
places_declared s n (local.Action a ∷ locals) = ap (λ (l : List Action16). a ∷ l) (places_declared s (n + length (local_kinds s (local.Action a))) locals)
places_declared s n (local.Table t ∷ locals) = places_declared s (n + length (local_kinds s (local.Table t))) locals

pub found_called : (actions : List ActionPlace) (n : ℕ) (text : Name) (f : Found) → found_from n actions text ≡ Some f → action_called (map action_of actions) text ≡ Some f.place.of
found_called [] n text f is = absurd (cc is)
found_called (a ∷ actions) n text f is = by (bytes_eq a.of.name text) (found_called actions (suc n) text f) is where
  by : (t : Bool) → (found_from (suc n) actions text ≡ Some f → action_called (map action_of actions) text ≡ Some f.place.of) → cond t (Some (record { number = n; place = a })) (found_from (suc n) actions text) ≡ Some f → cond t (Some a.of) (action_called (map action_of actions) text) ≡ Some f.place.of
  by true rest e = let same : record { number = n; place = a } ≡ f = cc e in ap (λ (g : Found). Some g.place.of) same
  by false rest e = rest e

-- an action has the name by which it is found
pub found_named : (actions : List ActionPlace) (n : ℕ) (text : Name) (f : Found) → found_from n actions text ≡ Some f → f.place.of.name ≡ text
found_named [] n text f is = absurd (cc is)
found_named (a ∷ actions) n text f is = by (bytes_eq a.of.name text) refl (found_named actions (suc n) text f) is where
  by : (t : Bool) → bytes_eq a.of.name text ≡ t → (found_from (suc n) actions text ≡ Some f → f.place.of.name ≡ text) → cond t (Some (record { number = n; place = a })) (found_from (suc n) actions text) ≡ Some f → f.place.of.name ≡ text
  by true same rest e =
      let one : record { number = n; place = a } ≡ f = cc e in
      ap (λ (g : Found). g.place.of.name) (sym one) ∙ (bytes_eq-Decides a.of.name text).0 same
  by false same rest e = rest e

-- the number of its first parameter is where its declaration says
pub found_first : (s : Scope) (n : ℕ) (locals : List Local) (m : ℕ) (text : Name) (f : Found) → found_from m (action_places s n locals) text ≡ Some f → f.place.first ≡ action_from s n locals text
found_first s n [] m text f is = absurd (cc is)
found_first s n (local.Instance notes i ∷ locals) m text f is = found_first s (n + length (local_kinds s (local.Instance notes i))) locals m text f is
found_first s n (local.Var v ∷ locals) m text f is = found_first s (n + length (local_kinds s (local.Var v))) locals m text f is
found_first s n (local.Table t ∷ locals) m text f is = found_first s (n + length (local_kinds s (local.Table t))) locals m text f is
found_first s n (local.Action a ∷ locals) m text f is = by (bytes_eq a.name text) (found_first s (n + length (local_kinds s (local.Action a))) locals (suc m) text f) is where
  by : (t : Bool) → (found_from (suc m) (action_places s (n + length (local_kinds s (local.Action a))) locals) text ≡ Some f → f.place.first ≡ action_from s (n + length (local_kinds s (local.Action a))) locals text) → cond t (Some (record { number = m; place = record { of = a; first = n } })) (found_from (suc m) (action_places s (n + length (local_kinds s (local.Action a))) locals) text) ≡ Some f → f.place.first ≡ cond t n (action_from s (n + length (local_kinds s (local.Action a))) locals text)
  by true rest e =
      let one : record { number = m; place = record { of = a; first = n } } ≡ f = cc e in
      ap (λ (g : Found). g.place.first) (sym one)
  by false rest e = rest e

-- its parameters and variables are of their kinds
pub found_stands : (all : List Kind) (s : Scope) (n : ℕ) (locals : List Local) (m : ℕ) (text : Name) (f : Found) → AreOfKinds all n (flat_map (local_kinds s) locals) → found_from m (action_places s n locals) text ≡ Some f → AreOfKinds all f.place.first (local_kinds s (local.Action f.place.of))
found_stands all s n [] m text f are is = absurd (cc is)
found_stands all s n (local.Instance notes i ∷ locals) m text f are is = found_stands all s (n + length (local_kinds s (local.Instance notes i))) locals m text f (apart all n (local_kinds s (local.Instance notes i)) (flat_map (local_kinds s) locals) are).1 is
found_stands all s n (local.Var v ∷ locals) m text f are is = found_stands all s (n + length (local_kinds s (local.Var v))) locals m text f (apart all n (local_kinds s (local.Var v)) (flat_map (local_kinds s) locals) are).1 is
found_stands all s n (local.Table t ∷ locals) m text f are is = found_stands all s (n + length (local_kinds s (local.Table t))) locals m text f (apart all n (local_kinds s (local.Table t)) (flat_map (local_kinds s) locals) are).1 is
found_stands all s n (local.Action a ∷ locals) m text f are is = by (bytes_eq a.name text) (found_stands all s (n + length (local_kinds s (local.Action a))) locals (suc m) text f (apart all n (local_kinds s (local.Action a)) (flat_map (local_kinds s) locals) are).1) is where
  by : (t : Bool) → (found_from (suc m) (action_places s (n + length (local_kinds s (local.Action a))) locals) text ≡ Some f → AreOfKinds all f.place.first (local_kinds s (local.Action f.place.of))) → cond t (Some (record { number = m; place = record { of = a; first = n } })) (found_from (suc m) (action_places s (n + length (local_kinds s (local.Action a))) locals) text) ≡ Some f → AreOfKinds all f.place.first (local_kinds s (local.Action f.place.of))
  by true rest e =
      let one : record { number = m; place = record { of = a; first = n } } ≡ f = cc e in
      subst (λ (g : Found). AreOfKinds all g.place.first (local_kinds s (local.Action g.place.of))) one (apart all n (local_kinds s (local.Action a)) (flat_map (local_kinds s) locals) are).0
  by false rest e = rest e

-- numbers

-- its numbers are not below those of what stands in front of it
found_above : (s : Scope) (n : ℕ) (locals : List Local) (m : ℕ) (text : Name) (f : Found) → found_from m (action_places s n locals) text ≡ Some f → n ≤ f.place.first
found_above s n [] m text f is = absurd (cc is)
found_above s n (local.Instance notes i ∷ locals) m text f is = weaker n (length (local_kinds s (local.Instance notes i))) f.place.first (found_above s (n + length (local_kinds s (local.Instance notes i))) locals m text f is) where
  weaker : (a b c : ℕ) → a + b ≤ c → a ≤ c
  weaker a b c le = omega (arith, le)
found_above s n (local.Var v ∷ locals) m text f is = weaker n (length (local_kinds s (local.Var v))) f.place.first (found_above s (n + length (local_kinds s (local.Var v))) locals m text f is) where
  weaker : (a b c : ℕ) → a + b ≤ c → a ≤ c
  weaker a b c le = omega (arith, le)
found_above s n (local.Table t ∷ locals) m text f is = weaker n (length (local_kinds s (local.Table t))) f.place.first (found_above s (n + length (local_kinds s (local.Table t))) locals m text f is) where
  weaker : (a b c : ℕ) → a + b ≤ c → a ≤ c
  weaker a b c le = omega (arith, le)
found_above s n (local.Action a ∷ locals) m text f is = by (bytes_eq a.name text) (found_above s (n + length (local_kinds s (local.Action a))) locals (suc m) text f) is where
  weaker : (a b c : ℕ) → a + b ≤ c → a ≤ c
  weaker a b c le = omega (arith, le)

  least : (k l : ℕ) → k ≡ l → k ≤ l
  least k l e = omega (arith, e)

  by : (t : Bool) → (found_from (suc m) (action_places s (n + length (local_kinds s (local.Action a))) locals) text ≡ Some f → n + length (local_kinds s (local.Action a)) ≤ f.place.first) → cond t (Some (record { number = m; place = record { of = a; first = n } })) (found_from (suc m) (action_places s (n + length (local_kinds s (local.Action a))) locals) text) ≡ Some f → n ≤ f.place.first
  by true rest e =
      let one : record { number = m; place = record { of = a; first = n } } ≡ f = cc e in
      least n f.place.first (ap (λ (g : Found). g.place.first) one)
  by false rest e = weaker n (length (local_kinds s (local.Action a))) f.place.first (rest e)

-- nor are they behind those of all that is declared

module _ (s : Scope) (text : Name) (f : Found) where
  abbrev Below : ℕ → List Local → Type 0
  Below n locals = end_of s f ≤ n + length (flat_map (local_kinds s) locals)

  below_behind : (n : ℕ) (y : Local) (locals : List Local) → Below (n + length (local_kinds s y)) locals → Below n (y ∷ locals)
  below_behind n y locals le = further n (length (local_kinds s y)) (length (flat_map (local_kinds s) locals)) (end_of s f) (length (local_kinds s y ++ flat_map (local_kinds s) locals)) le (length-append (local_kinds s y) (flat_map (local_kinds s) locals)) where
    further : (a b d e l : ℕ) → e ≤ a + b + d → l ≡ b + d → e ≤ a + l
    further a b d e l le long = omega (arith, le, long)

  pub found_below : (n : ℕ) (locals : List Local) (m : ℕ) → found_from m (action_places s n locals) text ≡ Some f → Below n locals
  found_below n [] m is = absurd (cc is)
  found_below n (local.Instance notes i ∷ locals) m is = below_behind n (local.Instance notes i) locals (found_below (n + length (local_kinds s (local.Instance notes i))) locals m is)
  found_below n (local.Var v ∷ locals) m is = below_behind n (local.Var v) locals (found_below (n + length (local_kinds s (local.Var v))) locals m is)
  found_below n (local.Table t ∷ locals) m is = below_behind n (local.Table t) locals (found_below (n + length (local_kinds s (local.Table t))) locals m is)
  found_below n (local.Action a ∷ locals) m is = by (bytes_eq a.name text) (found_below (n + length (local_kinds s (local.Action a))) locals (suc m)) is where
    within : (a b d e l : ℕ) → e ≡ a + b → l ≡ b + d → e ≤ a + l
    within a b d e l x long = omega (arith, x, long)

    by : (t : Bool) → (found_from (suc m) (action_places s (n + length (local_kinds s (local.Action a))) locals) text ≡ Some f → Below (n + length (local_kinds s (local.Action a))) locals) → cond t (Some (record { number = m; place = record { of = a; first = n } })) (found_from (suc m) (action_places s (n + length (local_kinds s (local.Action a))) locals) text) ≡ Some f → Below n (local.Action a ∷ locals)
    by true rest k =
        let one : record { number = m; place = record { of = a; first = n } } ≡ f = cc k in
        within n (length (local_kinds s (local.Action a))) (length (flat_map (local_kinds s) locals)) (end_of s f) (length (local_kinds s (local.Action a) ++ flat_map (local_kinds s) locals)) (ap (λ (g : Found). end_of s g) (sym one)) (length-append (local_kinds s (local.Action a)) (flat_map (local_kinds s) locals))
    by false rest k = below_behind n (local.Action a) locals (rest k)

-- two actions have numbers apart
module _ (s : Scope) (t u : Name) (f g : Found) where
  abbrev Apart : Type 0
  Apart = (end_of s f ≤ g.place.first) ⊎ (end_of s g ≤ f.place.first)

  pub found_apart : (n : ℕ) (locals : List Local) (m : ℕ) → found_from m (action_places s n locals) t ≡ Some f → found_from m (action_places s n locals) u ≡ Some g → f.number ≢ g.number → Apart
  found_apart n [] m is also differ = absurd (cc is)
  found_apart n (local.Instance notes i ∷ locals) m is also differ = found_apart (n + length (local_kinds s (local.Instance notes i))) locals m is also differ
  found_apart n (local.Var v ∷ locals) m is also differ = found_apart (n + length (local_kinds s (local.Var v))) locals m is also differ
  found_apart n (local.Table x ∷ locals) m is also differ = found_apart (n + length (local_kinds s (local.Table x))) locals m is also differ
  found_apart n (local.Action a ∷ locals) m is also differ = by (bytes_eq a.name t) (bytes_eq a.name u) (λ e k. found_apart (n + length (local_kinds s (local.Action a))) locals (suc m) e k differ) is also where
    behind : (h k : Found) (v : Name) → record { number = m; place = record { of = a; first = n } } ≡ h → found_from (suc m) (action_places s (n + length (local_kinds s (local.Action a))) locals) v ≡ Some k → end_of s h ≤ k.place.first
    behind h k v one there = subst (λ (x : Found). end_of s x ≤ k.place.first) one (found_above s (n + length (local_kinds s (local.Action a))) locals (suc m) v k there)

    by : (x y : Bool) → (found_from (suc m) (action_places s (n + length (local_kinds s (local.Action a))) locals) t ≡ Some f → found_from (suc m) (action_places s (n + length (local_kinds s (local.Action a))) locals) u ≡ Some g → Apart) → cond x (Some (record { number = m; place = record { of = a; first = n } })) (found_from (suc m) (action_places s (n + length (local_kinds s (local.Action a))) locals) t) ≡ Some f → cond y (Some (record { number = m; place = record { of = a; first = n } })) (found_from (suc m) (action_places s (n + length (local_kinds s (local.Action a))) locals) u) ≡ Some g → Apart
    by true true rest e k =
        let one : record { number = m; place = record { of = a; first = n } } ≡ f = cc e in
        let two : record { number = m; place = record { of = a; first = n } } ≡ g = cc k in
        absurd (differ (ap (λ (h : Found). h.number) (sym one ∙ two)))
    by true false rest e k = let one : record { number = m; place = record { of = a; first = n } } ≡ f = cc e in inl (behind f g u one k)
    by false true rest e k = let one : record { number = m; place = record { of = a; first = n } } ≡ g = cc k in inr (behind g f t one e)
    by false false rest e k = rest e k

-- what is made of each action, by its number

pub record At {X : Type 0} (n : ℕ) (actions : List ActionPlace) (f : Found) (make : ActionPlace → Option X) (ys : List X) : Type 0 where
  pub place : ℕ
  pub number : f.number ≡ n + place
  pub made : (d : X) → make f.place ≡ Some (get_or ys place d)

pub made_at : {X : Type 0} (make : ActionPlace → Option X) (actions : List ActionPlace) (n : ℕ) (text : Name) (f : Found) (ys : List X) → found_from n actions text ≡ Some f → all_of make actions ≡ Some ys → At n actions f make ys
made_at make [] n text f ys is all = absurd (cc is)
made_at {X = X} make (a ∷ actions) n text f ys is all = by (bytes_eq a.of.name text) is (make a) refl (all_of make actions) refl (λ zs e y. made_at make actions (suc n) text f zs e y) all where
  first : (m : ℕ) → m ≡ m + 0
  first m = omega arith

  later : (m i k : ℕ) → k ≡ suc m + i → k ≡ m + suc i
  later m i k e = omega (arith, e)

  by : (t : Bool) → cond t (Some (record { number = n; place = a })) (found_from (suc n) actions text) ≡ Some f → (o : Option X) → make a ≡ o → (q : Option (List X)) → all_of make actions ≡ q → ((zs : List X) → found_from (suc n) actions text ≡ Some f → all_of make actions ≡ Some zs → At (suc n) actions f make zs) → cons_option o q ≡ Some ys → At n (a ∷ actions) f make ys
  by t e None x None y later_one k = absurd (cc k)
  by t e None x (Some zs) y later_one k = absurd (cc k)
  by t e (Some z) x None y later_one k = absurd (cc k)
  by true e (Some z) x (Some zs) y later_one k =
      let one : record { number = n; place = a } ≡ f = cc e in
      let same : z ∷ zs ≡ ys = cc k in
      record {
        place = 0;
        number = ap (λ (h : Found). h.number) (sym one) ∙ first n;
        made = λ d. ap (λ (h : Found). make h.place) (sym one) ∙ (x ∙ ap (λ (l : List X). Some (get_or l 0 d)) same);
      }
  by false e (Some z) x (Some zs) y later_one k =
      let rest : At (suc n) actions f make zs = later_one zs e y in
      let same : z ∷ zs ≡ ys = cc k in
      record {
        place = suc rest.place;
        number = later n rest.place f.number rest.number;
        made = λ d. rest.made d ∙ ap (λ (l : List X). Some (get_or l (suc rest.place) d)) same;
      }

pub made_first : {X : Type 0} (make : ActionPlace → Option X) (actions : List ActionPlace) (text : Name) (f : Found) (ys : List X) (d : X) → found_from 0 actions text ≡ Some f → all_of make actions ≡ Some ys → make f.place ≡ Some (get_or ys f.number d)
made_first {X = X} make actions text f ys d is all =
    let h = made_at make actions 0 text f ys is all in
    let same : f.number ≡ h.place = h.number ∙ none_more h.place in
    h.made d ∙ ap (λ (i : ℕ). Some (get_or ys i d)) (sym same) where
      none_more : (i : ℕ) → 0 + i ≡ i
      none_more i = omega arith

pub all_counted : {X : Type 0} (make : ActionPlace → Option X) (actions : List ActionPlace) (ys : List X) → all_of make actions ≡ Some ys → length ys ≡ length actions
all_counted make [] ys is = let same : [] ≡ ys = cc is in ap length (sym same)
all_counted {X = X} make (a ∷ actions) ys is = by (make a) (all_of make actions) refl (λ zs y. all_counted make actions zs y) is where
  by : (o : Option X) (q : Option (List X)) → all_of make actions ≡ q → ((zs : List X) → all_of make actions ≡ Some zs → length zs ≡ length actions) → cons_option o q ≡ Some ys → length ys ≡ suc (length actions)
  by None None y rest k = absurd (cc k)
  by None (Some zs) y rest k = absurd (cc k)
  by (Some z) None y rest k = absurd (cc k)
  by (Some z) (Some zs) y rest k =
      let same : z ∷ zs ≡ ys = cc k in
      ap (λ (l : List X). length l) (sym same) ∙ ap suc (rest zs y)

-- calls of actions

pub among : (numbers : List ℕ) (n : ℕ) → calls_among numbers n ≡ true → Among n numbers
among [] n is = absurd (cc is)
among (m ∷ numbers) n is = by (n == m) refl (among numbers n) is where
  by : (t : Bool) → (n == m) ≡ t → (calls_among numbers n ≡ true → Among n numbers) → (t || calls_among numbers n) ≡ true → Among n (m ∷ numbers)
  by true e rest k = inl ((Decides-eqb n m).0 e)
  by false e rest k = inr (rest k)

pub reaches_further : (graph : List (List ℕ)) (a b c : ℕ) → IsEdge graph a b → Reaches graph b c → Reaches graph a c
reaches_further graph a b c edge (inl same) = inr (Edge a (subst (λ (x : ℕ). IsEdge graph a x) same edge))
reaches_further graph a b c edge (inr walk) = inr (Onward a b edge walk)

pub never_back : (graph : List (List ℕ)) (a b : ℕ) → (OnCycle graph a → ⊥) → IsEdge graph a b → Reaches graph b a → ⊥
never_back graph a b acyclic edge (inl same) = acyclic (Edge a (subst (λ (x : ℕ). IsEdge graph a x) same edge))
never_back graph a b acyclic edge (inr walk) = acyclic (Onward a b edge walk)

-- T8

some_at : (P : Decl16 → Type 0) (before : List Decl16) (d : Decl16) (after : List Decl16) → P d → SomeDeclaration P (before ++ d ∷ after)
some_at P [] d after h = inl h
some_at P (x ∷ before) d after h = inr (some_at P before d after h)

pub calls_acyclic : (syntax : Syntax16) (block : Block) (k : Control16) → BreaksNone syntax program_rules → control_at syntax block ≡ Some k → (a : ℕ) → OnCycle (call_graph (scope_of syntax (decl.Control k)) k) a → ⊥
unfolding IsBroken
calls_acyclic syntax block k accepted stands a cycle =
    let found = control_declared syntax block k stands in
    accepted.1.1.1.1.1.1.1.0 (inl (subst (λ (ds : List Decl16). SomeDeclaration (λ d. DeclarationBreaks T8 (scope_of syntax d) d) ds) (sym found.is)
    (some_at (λ d. DeclarationBreaks T8 (scope_of syntax d) d) found.before (decl.Control k) found.after (inr (a, cycle)))))
