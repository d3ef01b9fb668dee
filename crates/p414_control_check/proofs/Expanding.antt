-- What a statement comes to is what the calls of its node in the graph of controls expand to.
use Rattle.std.proofs.Common.{◌≡◌, ℕ, suc, zero, ◌+◌, ◌<◌, inl, inr, List, [], ◌∷◌, ◌++◌, length, get_or, map, sum_by, slice_get, Option, Some, None, option_and_then, refl, sym, ap, ◌∙◌, subst, append_assoc, append-nil, arith}
use Rattle.std.specs.Prelude.{flat_map, filter_map}
use Rattle.std.specs.List.{cons_option}
use Rattle.std.specs.Option.{option_map_or}
use Rattle.std.specs.Str.{bytes_eq}
use Rattle.std.proofs.lemmas.Grind.{flat_map-append}
use Rattle.std.proofs.lemmas.List.{length-map}
use Rattle.std.proofs.lemmas.List.Sums.{sum_by-append, sum_by-cons}
use Rattle.std.proofs.lemmas.List.Quantifiers.{position-Some}
use Rattle.digraph.specs.Graphs.{Among, successors}
use Rattle.digraph.specs.Expansions as calls
use Rattle.p414_syntax.specs.declared.syntax.Decl.{Decl}
use Rattle.p414_syntax.specs.Tree.{Stmt, no_statements, then, apply, apply_branches, if_then, call, no_else, else_block, else_if, no_branches, branch}
use Rattle.p414_syntax.specs.Subtrees.{subtrees}
use Rattle.p414_syntax.specs.Views.{ControlTree}
use Rattle.p414_syntax.specs.Names.{Name}
use Rattle.p414_syntax.specs.ControlExpansion.{controls, control_name, control_number, control_of, own_call, calls_in, StatementExpands, NoStatements, Then, Apply, ApplyBranches, If, Call, NoElse, ElseBlock, ElseIf, NoBranches, Branch}
use Rattle.p414_syntax.specs.Controls.{own_count, statement_count}
use Rattle.p414_control_check.specs.internal.Expanded.{control_graph}
use Rattle.p414_control_check.specs.internal.Depths.{SomeStatement, NodeExpands}

-- numbers of controls

pub named_within : (ds : List Decl) (name : Name) (n : ℕ) → control_number ds name ≡ Some n → n < length (controls ds)
named_within ds name n e =
    let within : n < length (map control_name (controls ds)) = (position-Some (bytes_eq name) (map control_name (controls ds)) n [] e).0 in
    let same : length (map control_name (controls ds)) ≡ length (controls ds) = length-map (controls ds) control_name in
    omega arith

pub get_within : {X : Type 0} (xs : List X) (n : ℕ) → n < length xs → (x : X) × (slice_get xs n ≡ Some x)
get_within [] n h = absurd (omega arith)
get_within (x ∷ xs) zero h = (x, refl)
get_within (x ∷ xs) (suc n) h = get_within xs n (omega arith)

pub there_within : {X : Type 0} (xs : List X) (n : ℕ) (x : X) → slice_get xs n ≡ Some x → n < length xs
there_within [] n x e = absurd (cc e)
there_within (y ∷ ys) zero x e = omega arith
there_within (y ∷ ys) (suc n) x e = let h = there_within ys n x e in omega arith

pub at_row : {X : Type 0} (f : X → List ℕ) (xs : List X) (n : ℕ) (x : X) → slice_get xs n ≡ Some x → get_or (map f xs) n [] ≡ f x
at_row f [] n x e = absurd (cc e)
at_row f (y ∷ xs) zero x e = ap f (cc e)
at_row f (y ∷ xs) (suc n) x e = at_row f xs n x e

-- the number of a control that is called, and the control with it
pub number_of_control : (ds : List Decl) (o : Option ℕ) (c : ControlTree) → option_and_then (slice_get (controls ds)) o ≡ Some c → (n : ℕ) × (o ≡ Some n) × (slice_get (controls ds) n ≡ Some c)
number_of_control ds None c e = absurd (cc e)
number_of_control ds (Some n) c e = (n, refl, e)

-- calls in statements

abbrev pub calls_of : List Decl → Stmt → List ℕ
calls_of ds s = filter_map (control_number ds) (flat_map own_call (subtrees s))

pub filter_append : {A B : Type 0} (f : A → Option B) (xs ys : List A) → filter_map f (xs ++ ys) ≡ filter_map f xs ++ filter_map f ys
filter_append f [] ys = refl
filter_append f (x ∷ xs) ys = ap (cons_option (f x)) (filter_append f xs ys) ∙ by_option (f x) where
  by_option : (o : Option _) → cons_option o (filter_map f xs ++ filter_map f ys) ≡ cons_option o (filter_map f xs) ++ filter_map f ys
  by_option None = refl
  by_option (Some y) = refl

pub calls_two : (ds : List Decl) (xs ys : List Stmt) → filter_map (control_number ds) (flat_map own_call (xs ++ ys)) ≡ filter_map (control_number ds) (flat_map own_call xs) ++ filter_map (control_number ds) (flat_map own_call ys)
calls_two ds xs ys = ap (filter_map (control_number ds)) (flat_map-append own_call xs ys) ∙ filter_append (control_number ds) (flat_map own_call xs) (flat_map own_call ys)

pub call_is : (ds : List Decl) (name : Name) (n : ℕ) → control_number ds name ≡ Some n → calls_of ds (call name) ≡ n ∷ []
call_is ds name n e = ap (λ o. cons_option o []) e

-- two calls after another
pub expands_two : (g : List (List ℕ)) (xs ys more : List ℕ) (nodes : List ℕ) → calls.Expands g xs nodes → calls.Expands g ys more → calls.Expands g (xs ++ ys) (nodes ++ more)
expands_two g _ ys more _ calls.Nothing f = f
expands_two g _ ys more _ (calls.Call a rest nodes behind e h) f =
    subst (λ l. calls.Expands g (a ∷ (rest ++ ys)) (a ∷ l)) (sym (append_assoc nodes behind more))
    (calls.Call a (rest ++ ys) nodes (behind ++ more) e (expands_two g rest ys more behind h f))

-- counts

abbrev pub count_of : List Stmt → ℕ
count_of ss = sum_by own_count ss

-- what the control with this number counts by itself
abbrev pub count_in : Option ControlTree → ℕ
count_in o = option_map_or (λ (c : ControlTree). count_of (subtrees c.body)) o 0

abbrev pub row_count : List Decl → ℕ → ℕ
row_count ds n = count_in (slice_get (controls ds) n)

-- a statement comes to as much as its own statements and the nodes that its calls expand to
pub record Comes (ds : List Decl) (s to : Stmt) : Type 0 where
  pub nodes : List ℕ
  pub expands : calls.Expands (control_graph ds) (calls_of ds s) nodes
  pub count : statement_count to ≡ count_of (subtrees s) + sum_by (row_count ds) nodes

module _ (ds : List Decl) where
  -- a statement without calls by itself
  leaf_comes : (s : Stmt) → calls_of ds s ≡ [] → Comes ds s s
  leaf_comes s e = record {
    nodes = [];
    expands = subst (λ ns. calls.Expands (control_graph ds) ns []) (sym e) calls.Nothing;
    count = let z : sum_by (row_count ds) [] ≡ 0 = refl in omega arith;
  }

  -- a statement over one or two others, which counts so much by itself
  one_comes : (s to a to_a : Stmt) → subtrees s ≡ s ∷ subtrees a → subtrees to ≡ to ∷ subtrees to_a → own_call s ≡ [] → own_count to ≡ own_count s → Comes ds a to_a → Comes ds s to
  one_comes s to a to_a is to_is none own h =
      let x : count_of (s ∷ subtrees a) ≡ own_count s + count_of (subtrees a) = sum_by-cons own_count s (subtrees a) in
      let y : count_of (to ∷ subtrees to_a) ≡ own_count to + count_of (subtrees to_a) = sum_by-cons own_count to (subtrees to_a) in
      let u : count_of (subtrees s) ≡ count_of (s ∷ subtrees a) = ap count_of is in
      let v : count_of (subtrees to) ≡ count_of (to ∷ subtrees to_a) = ap count_of to_is in
      let c : count_of (subtrees to_a) ≡ count_of (subtrees a) + sum_by (row_count ds) h.nodes = h.count in
      let same : calls_of ds s ≡ calls_of ds a = ap (λ l. filter_map (control_number ds) (flat_map own_call l)) is ∙ ap (λ l. filter_map (control_number ds) (l ++ flat_map own_call (subtrees a))) none in
      record {
        nodes = h.nodes;
        expands = subst (λ ns. calls.Expands (control_graph ds) ns h.nodes) (sym same) h.expands;
        count = omega arith;
      }

  two_comes : (s to a b to_a to_b : Stmt) → subtrees s ≡ s ∷ (subtrees a ++ subtrees b) → subtrees to ≡ to ∷ (subtrees to_a ++ subtrees to_b) → own_call s ≡ [] → own_count to ≡ own_count s → Comes ds a to_a → Comes ds b to_b → Comes ds s to
  two_comes s to a b to_a to_b is to_is none own h k =
      let x : count_of (s ∷ (subtrees a ++ subtrees b)) ≡ own_count s + count_of (subtrees a ++ subtrees b) = sum_by-cons own_count s (subtrees a ++ subtrees b) in
      let xx : count_of (subtrees a ++ subtrees b) ≡ count_of (subtrees a) + count_of (subtrees b) = sum_by-append own_count (subtrees a) (subtrees b) in
      let y : count_of (to ∷ (subtrees to_a ++ subtrees to_b)) ≡ own_count to + count_of (subtrees to_a ++ subtrees to_b) = sum_by-cons own_count to (subtrees to_a ++ subtrees to_b) in
      let yy : count_of (subtrees to_a ++ subtrees to_b) ≡ count_of (subtrees to_a) + count_of (subtrees to_b) = sum_by-append own_count (subtrees to_a) (subtrees to_b) in
      let u : count_of (subtrees s) ≡ count_of (s ∷ (subtrees a ++ subtrees b)) = ap count_of is in
      let v : count_of (subtrees to) ≡ count_of (to ∷ (subtrees to_a ++ subtrees to_b)) = ap count_of to_is in
      let c : count_of (subtrees to_a) ≡ count_of (subtrees a) + sum_by (row_count ds) h.nodes = h.count in
      let d : count_of (subtrees to_b) ≡ count_of (subtrees b) + sum_by (row_count ds) k.nodes = k.count in
      let n : sum_by (row_count ds) (h.nodes ++ k.nodes) ≡ sum_by (row_count ds) h.nodes + sum_by (row_count ds) k.nodes = sum_by-append (row_count ds) h.nodes k.nodes in
      let same : calls_of ds s ≡ calls_of ds a ++ calls_of ds b =
      ap (λ l. filter_map (control_number ds) (flat_map own_call l)) is
      ∙ (ap (λ l. filter_map (control_number ds) (l ++ flat_map own_call (subtrees a ++ subtrees b))) none
      ∙ calls_two ds (subtrees a) (subtrees b)) in
      record {
        nodes = h.nodes ++ k.nodes;
        expands = subst (λ ns. calls.Expands (control_graph ds) ns (h.nodes ++ k.nodes)) (sym same) (expands_two (control_graph ds) (calls_of ds a) (calls_of ds b) k.nodes h.nodes h.expands k.expands);
        count = omega arith;
      }

  call_comes : (name : Name) (c : ControlTree) (body : Stmt) → control_of ds name ≡ Some c → Comes ds c.body body → Comes ds (call name) body
  call_comes name c body is h =
      let found = number_of_control ds (control_number ds name) c is in
      let n = found.0 in
      let row : successors (control_graph ds) n ≡ calls_of ds c.body = at_row (calls_in ds) (controls ds) n c found.2 in
      let own : row_count ds n ≡ count_of (subtrees c.body) = ap count_in found.2 in
      let x : sum_by (row_count ds) (n ∷ (h.nodes ++ [])) ≡ row_count ds n + sum_by (row_count ds) (h.nodes ++ []) = sum_by-cons (row_count ds) n (h.nodes ++ []) in
      let y : sum_by (row_count ds) (h.nodes ++ []) ≡ sum_by (row_count ds) h.nodes = ap (sum_by (row_count ds)) (append-nil h.nodes) in
      let z : count_of (subtrees (call name)) ≡ 0 = refl in
      let w : statement_count body ≡ count_of (subtrees c.body) + sum_by (row_count ds) h.nodes = h.count in
      record {
        nodes = n ∷ (h.nodes ++ []);
        expands = subst (λ ns. calls.Expands (control_graph ds) ns (n ∷ (h.nodes ++ []))) (sym (call_is ds name n found.1))
            (calls.Call n [] h.nodes [] (subst (λ ns. calls.Expands (control_graph ds) ns h.nodes) (sym row) h.expands) calls.Nothing);
        count = omega arith;
      }

  -- what a statement comes to is counted by what its calls' nodes expand to
  pub comes : (s to : Stmt) → StatementExpands ds s to → Comes ds s to
  comes _ _ NoStatements = leaf_comes no_statements refl
  comes _ _ (Then a b to_a to_b e f) = two_comes (then a b) (then to_a to_b) a b to_a to_b refl refl refl refl (comes a to_a e) (comes b to_b f)
  comes _ _ (Apply table) = leaf_comes (apply table) refl
  comes _ _ (ApplyBranches table a to_a e) = one_comes (apply_branches table a) (apply_branches table to_a) a to_a refl refl refl refl (comes a to_a e)
  comes _ _ (If c a b to_a to_b e f) = two_comes (if_then c a b) (if_then c to_a to_b) a b to_a to_b refl refl refl refl (comes a to_a e) (comes b to_b f)
  comes _ _ (Call name control body is e) = call_comes name control body is (comes control.body body e)
  comes _ _ NoElse = leaf_comes no_else refl
  comes _ _ (ElseBlock a to_a e) = one_comes (else_block a) (else_block to_a) a to_a refl refl refl refl (comes a to_a e)
  comes _ _ (ElseIf a to_a e) = one_comes (else_if a) (else_if to_a) a to_a refl refl refl refl (comes a to_a e)
  comes _ _ NoBranches = leaf_comes no_branches refl
  comes _ _ (Branch a b to_a to_b l e f) = two_comes (branch a l b) (branch to_a l to_b) a b to_a to_b refl refl refl refl (comes a to_a e) (comes b to_b f)

-- Where the nodes' calls expand, and each control that is called is there, a statement comes to some statement.

-- each control that a statement calls is there
abbrev pub CallsAreThere : List Decl → Stmt → Type 0
CallsAreThere ds no_statements = Unit {0}
CallsAreThere ds (then a b) = CallsAreThere ds a × CallsAreThere ds b
CallsAreThere ds (apply t) = Unit {0}
CallsAreThere ds (apply_branches t a) = CallsAreThere ds a
CallsAreThere ds (if_then c a b) = CallsAreThere ds a × CallsAreThere ds b
CallsAreThere ds (call name) = (n : ℕ) × (control_number ds name ≡ Some n)
CallsAreThere ds no_else = Unit {0}
CallsAreThere ds (else_block a) = CallsAreThere ds a
CallsAreThere ds (else_if a) = CallsAreThere ds a
CallsAreThere ds no_branches = Unit {0}
CallsAreThere ds (branch a l b) = CallsAreThere ds a × CallsAreThere ds b

pub among_left : (x : ℕ) (xs ys : List ℕ) → Among x xs → Among x (xs ++ ys)
among_left x [] ys h = absurd h
among_left x (y ∷ xs) ys (inl e) = inl e
among_left x (y ∷ xs) ys (inr h) = inr (among_left x xs ys h)

pub among_right : (x : ℕ) (xs ys : List ℕ) → Among x ys → Among x (xs ++ ys)
among_right x [] ys h = h
among_right x (y ∷ xs) ys h = inr (among_right x xs ys h)

module _ (ds : List Decl) where
  abbrev pub CalleesExpand : Stmt → Type 0
  CalleesExpand s = (n : ℕ) → Among n (calls_of ds s) → NodeExpands ds n

  left_of : (a b : Stmt) → ((n : ℕ) → Among n (filter_map (control_number ds) (flat_map own_call (subtrees a ++ subtrees b))) → NodeExpands ds n) → CalleesExpand a
  left_of a b h n i = h n (subst (Among n) (sym (calls_two ds (subtrees a) (subtrees b))) (among_left n (calls_of ds a) (calls_of ds b) i))

  right_of : (a b : Stmt) → ((n : ℕ) → Among n (filter_map (control_number ds) (flat_map own_call (subtrees a ++ subtrees b))) → NodeExpands ds n) → CalleesExpand b
  right_of a b h n i = h n (subst (Among n) (sym (calls_two ds (subtrees a) (subtrees b))) (among_right n (calls_of ds a) (calls_of ds b) i))

  called : (name : Name) (n : ℕ) → control_number ds name ≡ Some n → CalleesExpand (call name) → SomeStatement ds (call name)
  called name n is h =
      let f = get_within (controls ds) n (named_within ds name n is) in
      let inner = h n (subst (Among n) (sym (call_is ds name n is)) (inl refl)) f.0 f.1 in
      (inner.0, Call name f.0 inner.0 (ap (option_and_then (slice_get (controls ds))) is ∙ f.1) inner.1)

  pub some_statement : (s : Stmt) → CallsAreThere ds s → CalleesExpand s → SomeStatement ds s
  some_statement no_statements there h = (no_statements, NoStatements)
  some_statement (then a b) there h =
      let x = some_statement a there.0 (left_of a b h) in
      let y = some_statement b there.1 (right_of a b h) in
      (then x.0 y.0, Then a b x.0 y.0 x.1 y.1)
  some_statement (apply t) there h = (apply t, Apply t)
  some_statement (apply_branches t a) there h = let x = some_statement a there h in (apply_branches t x.0, ApplyBranches t a x.0 x.1)
  some_statement (if_then c a b) there h =
      let x = some_statement a there.0 (left_of a b h) in
      let y = some_statement b there.1 (right_of a b h) in
      (if_then c x.0 y.0, If c a b x.0 y.0 x.1 y.1)
  some_statement (call name) there h = called name there.0 there.1 h
  some_statement no_else there h = (no_else, NoElse)
  some_statement (else_block a) there h = let x = some_statement a there h in (else_block x.0, ElseBlock a x.0 x.1)
  some_statement (else_if a) there h = let x = some_statement a there h in (else_if x.0, ElseIf a x.0 x.1)
  some_statement no_branches there h = (no_branches, NoBranches)
  some_statement (branch a l b) there h =
      let x = some_statement a there.0 (left_of a b h) in
      let y = some_statement b there.1 (right_of a b h) in
      (branch x.0 l y.0, Branch a b x.0 y.0 l x.1 y.1)

  -- each control's calls are there
  abbrev pub AllAreThere : Type 0
  AllAreThere = (n : ℕ) (c : ControlTree) → slice_get (controls ds) n ≡ Some c → CallsAreThere ds c.body

  -- where calls of nodes expand, each of the nodes comes to something
  pub nodes_expand : AllAreThere → (ns nodes : List ℕ) → calls.Expands (control_graph ds) ns nodes → (n : ℕ) → Among n ns → NodeExpands ds n
  nodes_expand all _ _ calls.Nothing n i = absurd i
  nodes_expand all _ _ (calls.Call a rest nodes more e f) n (inl same) =
      λ c is.
      let at_a : slice_get (controls ds) a ≡ Some c = ap (slice_get (controls ds)) (sym same) ∙ is in
      some_statement c.body (all a c at_a)
      (λ m j. nodes_expand all (successors (control_graph ds) a) nodes e m (subst (Among m) (sym (at_row (calls_in ds) (controls ds) a c at_a)) j))
  nodes_expand all _ _ (calls.Call a rest nodes more e f) n (inr i) = nodes_expand all rest more f n i
