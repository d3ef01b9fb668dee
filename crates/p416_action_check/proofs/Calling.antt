-- The graph of actions by their names, and what is known of a control and of all declarations.
use Rattle.std.proofs.Common.{◌≡◌, inl, inr, ◌<◌, ◌≤◌, ◌+◌, ℕ, zero, suc, Bool, true, false, Result, Ok, Err, List, [], ◌∷◌, ◌++◌, length, get_or, drop, map, filter_map, refl, sym, ap, ◌∙◌, subst, arith, add-one, drop-cons, append_assoc}
use Rattle.std.specs.Prelude.{IfOk}
use Rattle.std.specs.Bool.{MatchBool}
use Rattle.digraph.specs.Expansions.{HasCycle}
use Rattle.name_numbers.specs.Names.{find_name}
use Rattle.name_cycles.specs.Named.{NamedNode, called_of, next_of, named_graph}
use Rattle.p416_syntax.specs.declared.controls.Action16.{Action16}
use Rattle.p416_syntax.specs.declared.controls.Control16.{Control16}
use Rattle.p416_syntax.specs.declared.controls.Local.{Local}
use Rattle.p416_syntax.specs.declared.controls.Local.TheVariants as local
use Rattle.p416_syntax.specs.declared.program.Decl16.{Decl16}
use Rattle.p416_syntax.specs.Exact.{IsExact}
use Rattle.p416_syntax.specs.Names.{Name}
use Rattle.p416_syntax.specs.Scopes.{Scope}
use Rattle.p416_syntax.specs.Declarations.{action_in, actions_in, action_uses, control_scope, top_scope}
use Rattle.p416_syntax.specs.Applications.{action_name_of, called_action, calls_of, call_graph}
use Rattle.p416_syntax.specs.Main.{positions_from}
use Rattle.p416_syntax.specs.Breaks.{SomeDeclaration}
use Rattle.p416_expression_uses.specs.Found.{Found, nothing_found, after_all}
use Rattle.p416_expression_uses.proofs.Finding.{called_found}
use Rattle.p416_action_check.specs.internal.Nodes.{action_node}

-- an action with those that it calls

pub node_is : (s : Scope) (a : Action16) (found : Found) (name : Name) (texts : List Name) (node : NamedNode) → found ≡ after_all nothing_found (action_uses s a) → name ≡ a.name → texts ≡ found.called → node ≡ record { called = name; leads_to = texts }
    → node ≡ action_node s a
node_is s a found name texts node is named same made =
    made
    ∙ (ap (λ (text : Name). record { called = text; leads_to = texts }) named
    ∙ ap (λ (names : List Name). record { called = a.name; leads_to = names }) (same ∙ (ap (λ (f : Found). f.called) is ∙ called_found nothing_found (action_uses s a))))

-- the next of what is declared

next_items : {X : Type 0} (xs : List X) (i : ℕ) (d : X) → i < length xs → drop i xs ≡ get_or xs i d ∷ drop (i + 1) xs
next_items xs i d h = rw (add-one, drop-cons xs i d h) refl

pub action_more : (outer inner : Scope) (locals : List Local) (i : ℕ) (d : Local) (a : Action16) (items new whole : List NamedNode) (node : NamedNode) → i < length locals → d ≡ get_or locals i d → d ≡ local.Action a → inner ≡ outer → node ≡ action_node inner a
    → new ≡ items ++ node ∷ [] → items ++ map (action_node outer) (filter_map action_in (drop i locals)) ≡ whole → new ++ map (action_node outer) (filter_map action_in (drop (i + 1) locals)) ≡ whole
action_more outer inner locals i d a items new whole node lt here is same made put so =
    ap (λ (l : List NamedNode). l ++ map (action_node outer) (filter_map action_in (drop (i + 1) locals))) put
    ∙ (append_assoc items (node ∷ []) (map (action_node outer) (filter_map action_in (drop (i + 1) locals)))
    ∙ (ap (λ (n : NamedNode). items ++ n ∷ map (action_node outer) (filter_map action_in (drop (i + 1) locals))) (made ∙ ap (λ (s : Scope). action_node s a) same)
    ∙ (sym (ap (λ (ls : List Local). items ++ map (action_node outer) (filter_map action_in ls)) (next_items locals i d lt ∙ ap (λ (x : Local). x ∷ drop (i + 1) locals) (sym here ∙ is))) ∙ so)))

-- the graph by the names of actions is that by their numbers

names_are : (s : Scope) (actions : List Action16) → map called_of (map (action_node s) actions) ≡ map action_name_of actions
names_are s [] = refl
names_are s (a ∷ actions) = ap (λ (names : List Name). a.name ∷ names) (names_are s actions)

rows_are : (s : Scope) (c : Control16) (actions : List Action16) → map (next_of (map action_name_of (actions_in c))) (map (action_node (control_scope s c)) actions) ≡ map (calls_of s c) actions
rows_are s c [] = refl
rows_are s c (a ∷ actions) = ap (λ (rows : List (List ℕ)). calls_of s c a ∷ rows) (rows_are s c actions)

graph_is : (s : Scope) (c : Control16) → named_graph (map (action_node (control_scope s c)) (actions_in c)) ≡ call_graph s c
graph_is s c =
    ap (λ (names : List Name). map (next_of names) (map (action_node (control_scope s c)) (actions_in c))) (names_are (control_scope s c) (actions_in c))
    ∙ rows_are s c (actions_in c)

-- what is known of a control

pub control_by : {E : Type 0} (r : Result Bool E) (ds : List Decl16) (main : List Name) (c : Control16) (name : Name) (positions : List ℕ) (inner : Scope) (nodes : List NamedNode)
    → name ≡ c.name → positions ≡ positions_from 0 main name → inner ≡ control_scope (top_scope ds positions) c → nodes ≡ map (action_node inner) (actions_in c)
    → IfOk r (λ found. MatchBool found (HasCycle (named_graph nodes)) (HasCycle (named_graph nodes) → ⊥)) → IfOk r (λ found. IsExact found (HasCycle (call_graph (top_scope ds (positions_from 0 main c.name)) c)))
control_by {E} r ds main c name positions inner nodes named standing inside are h =
    subst (λ (g : List (List ℕ)). IfOk r (λ found. IsExact found (HasCycle g)))
    (ap named_graph are
    ∙ (ap (λ (s : Scope). named_graph (map (action_node s) (actions_in c))) inside
    ∙ (graph_is (top_scope ds positions) c ∙ ap (λ (ps : List ℕ). call_graph (top_scope ds ps) c) (standing ∙ ap (λ (text : Name). positions_from 0 main text) named))))
    h

-- what is known of all declarations

some_place : (P : Decl16 → Type 0) (ds : List Decl16) (i : ℕ) (d : Decl16) → i < length ds → P (get_or ds i d) → SomeDeclaration P ds
some_place P [] i d lt h = absurd (omega arith)
some_place P (x ∷ ds) zero d lt h = inl h
some_place P (x ∷ ds) (suc i) d lt h = inr (some_place P ds i d (omega arith) h)

pub some_at : (P : Decl16 → Type 0) (ds : List Decl16) (i : ℕ) (d : Decl16) (found : Bool) → i < length ds → d ≡ get_or ds i d → found ≡ true → IsExact found (P d) → SomeDeclaration P ds
some_at P ds i d found lt here is exact = some_place P ds i d lt (subst P here (rw is at exact))

pass_place : (P : Decl16 → Type 0) (ds : List Decl16) (i : ℕ) (d : Decl16) → i < length ds → (P (get_or ds i d) → ⊥) → SomeDeclaration P (drop i ds) → SomeDeclaration P (drop (suc i) ds)
pass_place P [] i d lt keeps h = absurd (omega arith)
pass_place P (x ∷ ds) zero d lt keeps (inl here) = absurd (keeps here)
pass_place P (x ∷ ds) zero d lt keeps (inr behind) = behind
pass_place P (x ∷ ds) (suc i) d lt keeps h = pass_place P ds i d (omega arith) keeps h

pub some_behind : (P : Decl16 → Type 0) (ds : List Decl16) (i : ℕ) (d : Decl16) (found : Bool) → i < length ds → d ≡ get_or ds i d → found ≡ false → IsExact found (P d) → SomeDeclaration P (drop i ds) → SomeDeclaration P (drop (i + 1) ds)
some_behind P ds i d found lt here is exact some =
    let keeps : P d → ⊥ = rw is at exact in
    rw add-one (pass_place P ds i d lt (λ broken. keeps (subst P (sym here) broken)) some)

pub none_left : (P : Decl16 → Type 0) (ds : List Decl16) (i : ℕ) → length ds ≤ i → SomeDeclaration P (drop i ds) → ⊥
none_left P [] zero le h = h
none_left P [] (suc i) le h = h
none_left P (x ∷ ds) zero le h = absurd (omega arith)
none_left P (x ∷ ds) (suc i) le h = none_left P ds i (omega arith) h
