-- How deep blocks nest within a statement that is expanded, by what is known of the controls that it calls.
use Rattle.std.proofs.Common.{◌≡◌, ℕ, suc, ◌+◌, ◌<◌, ◌≤◌, max, min, Bool, true, false, ◌||◌, nat_lt, inl, ⊎_elim, List, [], ◌∷◌, ◌++◌, length, get_or, set, take, slice_get, Option, Some, refl, sym, ap, ◌∙◌, subst, arith}
use Rattle.std.proofs.lemmas.Bool.{cases_eq, lt-ltb, ltb-true}
use Rattle.std.proofs.lemmas.Grind.{flat_map-append}
use Rattle.std.proofs.lemmas.List.Folds.{list_any_at}
use Rattle.std.specs.Bool.{MatchBool}
use Rattle.std.specs.List.{list_any}
use Rattle.std.proofs.lemmas.List.{take_all, take_more, get_or-set_same, get_or-set_other, length-append, length-map}
use Rattle.std.specs.Option.{option_map_or}
use Rattle.std.specs.Prelude.{flat_map, filter_map}
use Rattle.digraph.specs.Graphs.{Among, IsEdge, IsClosed, OnCycle}
use Rattle.digraph.specs.Components.{Condensation, AreComponents}
use Rattle.digraph.proofs.Listing.{among_append}
use Rattle.digraph.proofs.Sizing.{comes_before}
use Rattle.p414_syntax.specs.declared.syntax.Decl.{Decl}
use Rattle.p414_syntax.specs.Tree.{Stmt, no_statements, then, apply, apply_branches, if_then, call, no_else, else_block, else_if, no_branches, branch}
use Rattle.p414_syntax.specs.Subtrees.{subtrees}
use Rattle.p414_syntax.specs.Views.{ControlTree}
use Rattle.p414_syntax.specs.Names.{Name}
use Rattle.p414_syntax.specs.ControlExpansion.{controls, control_number, control_of, own_call, calls_in, StatementExpands, NoStatements, Then, Apply, ApplyBranches, If, Call, NoElse, ElseBlock, ElseIf, NoBranches, Branch}
use Rattle.p414_syntax.specs.Nesting.{nesting, NestsTooDeep}
use Rattle.p414_control_check.specs.internal.Expanded.{control_graph}
use Rattle.p414_control_check.specs.internal.Depths.{depth_of_call, depth_within, SomeStatement, IsDeep, AreDepths, own_depth, levels_within, deepest}
use Rattle.p414_control_check.specs.declared.depth.Level.{Level}
use Rattle.p414_control_check.proofs.Expanding.{get_within, there_within, at_row, number_of_control, calls_of, calls_two, call_is, among_left, among_right, AllAreThere, some_statement}

cut_two : (a b x y : ℕ) → min 65 a ≡ min 65 x → min 65 b ≡ min 65 y → min 65 (max a b) ≡ min 65 (max x y)
cut_two a b x y e f = omega arith

cut_first : (a b x y : ℕ) → min 65 a ≡ min 65 x → min 65 b ≡ min 65 y → min 65 (max (1 + a) b) ≡ min 65 (max (1 + x) y)
cut_first a b x y e f = omega arith

cut_second : (a b x y : ℕ) → min 65 a ≡ min 65 x → min 65 b ≡ min 65 y → min 65 (max a (1 + b)) ≡ min 65 (max x (1 + y))
cut_second a b x y e f = omega arith

cut_block : (a x : ℕ) → min 65 a ≡ min 65 x → min 65 (1 + a) ≡ min 65 (1 + x)
cut_block a x e = omega arith

cut_known : (d n : ℕ) → d ≡ min 65 n → min 65 n ≡ min 65 d
cut_known d n e = omega arith

abbrev calls_within : List Decl → Stmt → Stmt → List ℕ
calls_within ds a b = filter_map (control_number ds) (flat_map own_call (subtrees a ++ subtrees b))

module _ (ds : List Decl) (depths : List ℕ) where
  abbrev pub CalleesAreDeep : Stmt → Type 0
  CalleesAreDeep s = (n : ℕ) → Among n (calls_of ds s) → IsDeep ds depths n

  left_deep : (a b : Stmt) → ((n : ℕ) → Among n (calls_within ds a b) → IsDeep ds depths n) → CalleesAreDeep a
  left_deep a b h n i = h n (subst (Among n) (sym (calls_two ds (subtrees a) (subtrees b))) (among_left n (calls_of ds a) (calls_of ds b) i))

  right_deep : (a b : Stmt) → ((n : ℕ) → Among n (calls_within ds a b) → IsDeep ds depths n) → CalleesAreDeep b
  right_deep a b h n i = h n (subst (Among n) (sym (calls_two ds (subtrees a) (subtrees b))) (among_right n (calls_of ds a) (calls_of ds b) i))

  deep_call : (name : Name) (control : ControlTree) (body : Stmt) → control_of ds name ≡ Some control → StatementExpands ds control.body body → CalleesAreDeep (call name) → min 65 (nesting body) ≡ min 65 (depth_of_call ds depths name)
  deep_call name control body is e h =
      let found = number_of_control ds (control_number ds name) control is in
      let n = found.0 in
      let known : get_or depths n 0 ≡ min 65 (nesting body) = (h n (subst (Among n) (sym (call_is ds name n found.1)) (inl refl))).deep control found.2 body e in
      let there : depth_of_call ds depths name ≡ get_or depths n 0 = ap (λ o. option_map_or (λ k. get_or depths k 0) o 0) found.1 in
      cut_known (get_or depths n 0) (nesting body) known ∙ ap (min 65) (sym there)

  -- how deep blocks nest where the callees are known
  pub nested : (s to : Stmt) → StatementExpands ds s to → CalleesAreDeep s → min 65 (nesting to) ≡ min 65 (depth_within ds depths s)
  nested _ _ NoStatements h = refl
  nested _ _ (Then a b to_a to_b e f) h = cut_two (nesting to_a) (nesting to_b) _ _ (nested a to_a e (left_deep a b h)) (nested b to_b f (right_deep a b h))
  nested _ _ (Apply table) h = refl
  nested _ _ (ApplyBranches table a to_a e) h = nested a to_a e h
  nested _ _ (If c a b to_a to_b e f) h = cut_first (nesting to_a) (nesting to_b) _ _ (nested a to_a e (left_deep a b h)) (nested b to_b f (right_deep a b h))
  nested _ _ (Call name control body is e) h = deep_call name control body is e h
  nested _ _ NoElse h = refl
  nested _ _ (ElseBlock a to_a e) h = cut_block (nesting to_a) _ (nested a to_a e h)
  nested _ _ (ElseIf a to_a e) h = nested a to_a e h
  nested _ _ NoBranches h = refl
  nested _ _ (Branch a b to_a to_b l e f) h = cut_second (nesting to_a) (nesting to_b) _ _ (nested a to_a e (left_deep a b h)) (nested b to_b f (right_deep a b h))

-- one more control, behind those that it calls

callee_deep : (ds : List Decl) (depths : List ℕ) (c : ControlTree) (a : ℕ) (P : ℕ → Type 0) → slice_get (controls ds) a ≡ Some c → ((b : ℕ) → IsEdge (control_graph ds) a b → P b) → (b : ℕ) → Among b (calls_of ds c.body) → P b
callee_deep ds depths c a P is h b i = h b (subst (Among b) (sym (at_row (calls_in ds) (controls ds) a c is)) i)

same_control : (o : Option ControlTree) (c d : ControlTree) → o ≡ Some c → o ≡ Some d → c ≡ d
same_control o c d e f = cc

pub deep_more : (ds : List Decl) (g : List (List ℕ)) (k : Condensation) (depths : List ℕ) (i v : ℕ) (c : ControlTree) → g ≡ control_graph ds → AllAreThere ds → IsClosed g → AreComponents g k → ((a : ℕ) → OnCycle g a → ⊥)
    → i < length k.order → length depths ≡ length g
    → slice_get (controls ds) (get_or k.order i 0) ≡ Some c
    → ((b : ℕ) → Among b (take i k.order) → IsDeep ds depths b)
    → v ≡ min 65 (depth_within ds depths c.body)
    → (b : ℕ) → Among b (take (i + 1) k.order) → IsDeep ds (set depths (get_or k.order i 0) v) b
deep_more ds g k depths i v c graph all closed_g h acyclic lt each is known value b among =
    ⊎_elim
    (λ same.
    let a : ℕ = get_or k.order i 0 in
    let inside : get_or k.order i 0 < length (controls ds) = there_within (controls ds) (get_or k.order i 0) c is in
    let rows : length (control_graph ds) ≡ length (controls ds) = length-map (controls ds) (calls_in ds) in
    let nodes : length g ≡ length (control_graph ds) = ap length graph in
    let within : get_or k.order i 0 < length depths = omega arith in
    let callees : (d : ℕ) → Among d (calls_of ds c.body) → IsDeep ds depths d =
    callee_deep ds depths c (get_or k.order i 0) (IsDeep ds depths) is
    (λ d edge. known d (comes_before g k i d closed_g h acyclic lt (subst (λ n. IsEdge n (get_or k.order i 0) d) (sym graph) edge))) in
    let some : SomeStatement ds c.body = some_statement ds c.body (all (get_or k.order i 0) c is) (λ d j. (callees d j).there) in
    subst (λ y. IsDeep ds (set depths (get_or k.order i 0) v) y) (sym same)
    (record {
      there = λ x e. subst (λ (t : ControlTree). SomeStatement ds t.body) (same_control (slice_get (controls ds) (get_or k.order i 0)) c x is e) some;
      deep = λ x e to expands.
          let there : StatementExpands ds c.body to = subst (λ (t : ControlTree). StatementExpands ds t.body to) (sym (same_control (slice_get (controls ds) (get_or k.order i 0)) c x is e)) expands in
          get_or-set_same depths (get_or k.order i 0) v 0 within ∙ (value ∙ sym (nested ds depths c.body to there callees));
    }))
    (λ differs.
    let old : Among b (take i k.order) = ⊎_elim (λ l. l) (λ r. ⊎_elim (λ e. absurd (differs e)) (λ none. absurd none) r) (among_append b (take i k.order) (get_or k.order i 0 ∷ []) (subst (λ ys. Among b ys) (take_more k.order i 0 lt) among)) in
    let was = known b old in
    record {
      there = was.there;
      deep = λ x e to expands. get_or-set_other depths (get_or k.order i 0) b v 0 differs ∙ was.deep x e to expands;
    })
    (cases_eq b (get_or k.order i 0))

-- all controls are known at the end
pub all_deep : (ds : List Decl) (g : List (List ℕ)) (k : Condensation) (depths : List ℕ) (i : ℕ) → g ≡ control_graph ds → AreComponents g k → length k.order ≤ i
    → ((b : ℕ) → Among b (take i k.order) → IsDeep ds depths b) → (b : ℕ) → b < length (controls ds) → IsDeep ds depths b
all_deep ds g k depths i graph h le known b lt =
    let rows : length (control_graph ds) ≡ length (controls ds) = length-map (controls ds) (calls_in ds) in
    let nodes : length g ≡ length (control_graph ds) = ap length graph in
    known b (subst (λ ys. Among b ys) (sym (take_all i k.order le)) ((h.nodes b).1 (omega arith)))

-- statements that are still to be looked at

deepest_two : (ds : List Decl) (depths : List ℕ) (xs ys : List Level) → deepest ds depths (xs ++ ys) ≡ max (deepest ds depths xs) (deepest ds depths ys)
deepest_two ds depths [] ys = omega arith
deepest_two ds depths (x ∷ xs) ys = let h = deepest_two ds depths xs ys in omega arith

deepest_within : (ds : List Decl) (depths : List ℕ) (d : ℕ) (s : Stmt) → min 65 (max (min 65 (d + own_depth ds depths s)) (deepest ds depths (levels_within d s))) ≡ min 65 (d + depth_within ds depths s)
deepest_within ds depths d no_statements = omega arith
deepest_within ds depths d (then a b) = omega arith
deepest_within ds depths d (apply t) = omega arith
deepest_within ds depths d (apply_branches t a) = omega arith
deepest_within ds depths d (if_then c a b) = omega arith
deepest_within ds depths d (call name) = omega arith
deepest_within ds depths d no_else = omega arith
deepest_within ds depths d (else_block a) = omega arith
deepest_within ds depths d (else_if a) = omega arith
deepest_within ds depths d no_branches = omega arith
deepest_within ds depths d (branch a l b) = omega arith

regrouped : (most x inner rest : ℕ) → max (max most x) (max inner rest) ≡ max (max x inner) (max most rest)
regrouped most x inner rest = omega arith

in_front : (most y rest : ℕ) → max y (max most rest) ≡ max most (max y rest)
in_front most y rest = omega arith

turn : (most x inner y rest : ℕ) → min 65 (max x inner) ≡ min 65 y → min 65 (max (max most x) (max inner rest)) ≡ min 65 (max most (max y rest))
turn most x inner y rest e =
    ap (min 65) (regrouped most x inner rest) ∙ (cut_two (max x inner) (max most rest) y (max most rest) e refl ∙ ap (min 65) (in_front most y rest))

-- one of them is looked at
pub level_now : (ds : List Decl) (depths : List ℕ) (l : Level) (rest new : List Level) (most whole : ℕ) → new ≡ levels_within l.depth l.statement ++ rest → min 65 (max most (deepest ds depths (l ∷ rest))) ≡ whole → min 65 (max (max most (min 65 (l.depth + own_depth ds depths l.statement))) (deepest ds depths new)) ≡ whole
level_now ds depths l rest new most whole is same =
    ap (λ n. min 65 (max (max most (min 65 (l.depth + own_depth ds depths l.statement))) n)) (ap (deepest ds depths) is ∙ deepest_two ds depths (levels_within l.depth l.statement) rest)
    ∙ (turn most (min 65 (l.depth + own_depth ds depths l.statement)) (deepest ds depths (levels_within l.depth l.statement)) (l.depth + depth_within ds depths l.statement) (deepest ds depths rest) (deepest_within ds depths l.depth l.statement)
    ∙ same)

-- how much is still to be looked at

less_one : (xs : List Stmt) → length (xs ++ []) < suc (length xs)
less_one xs = let e = length-append xs [] in omega arith

less_two : (xs ys : List Stmt) → length (xs ++ (ys ++ [])) < suc (length (xs ++ ys))
less_two xs ys =
    let a = length-append xs (ys ++ []) in
    let b = length-append ys [] in
    let c = length-append xs ys in
    omega arith

abbrev pub all_left : Level → List Stmt
all_left l = subtrees l.statement

abbrev pub work : List Level → ℕ
work ls = length (flat_map all_left ls)

work_two : (xs ys : List Level) → work (xs ++ ys) ≡ work xs + work ys
work_two xs ys = ap length (flat_map-append all_left xs ys) ∙ length-append (flat_map all_left xs) (flat_map all_left ys)

work_within : (d : ℕ) (s : Stmt) → work (levels_within d s) < length (subtrees s)
work_within d no_statements = omega arith
work_within d (then a b) = less_two (subtrees a) (subtrees b)
work_within d (apply t) = omega arith
work_within d (apply_branches t a) = less_one (subtrees a)
work_within d (if_then c a b) = less_two (subtrees a) (subtrees b)
work_within d (call name) = omega arith
work_within d no_else = omega arith
work_within d (else_block a) = less_one (subtrees a)
work_within d (else_if a) = less_one (subtrees a)
work_within d no_branches = omega arith
work_within d (branch a l b) = less_two (subtrees a) (subtrees b)

pub work_less : (l : Level) (rest new : List Level) → new ≡ levels_within l.depth l.statement ++ rest → work new < work (l ∷ rest)
work_less l rest new is =
    let a : work new ≡ work (levels_within l.depth l.statement ++ rest) = ap work is in
    let b = work_two (levels_within l.depth l.statement) rest in
    let c = work_within l.depth l.statement in
    let d : work (l ∷ rest) ≡ length (subtrees l.statement) + work rest = length-append (subtrees l.statement) (flat_map all_left rest) in
    omega arith

-- what the depths say

some_deep : (xs : List ℕ) → list_any (nat_lt 63) xs ≡ true → (k : ℕ) × (k < length xs) × (63 < get_or xs k 0)
some_deep [] e = absurd (cc e)
some_deep (x ∷ xs) e = first (nat_lt 63 x) refl e (some_deep xs) where
  first : (b : Bool) → nat_lt 63 x ≡ b → (b || list_any (nat_lt 63) xs) ≡ true → (list_any (nat_lt 63) xs ≡ true → (k : ℕ) × (k < length xs) × (63 < get_or xs k 0)) → (k : ℕ) × (k < suc (length xs)) × (63 < get_or (x ∷ xs) k 0)
  first true is h more = (0, omega arith, ltb-true _ _ is)
  first false is h more = let p = more h in (suc p.0, omega (arith, p.1), p.2)

pub deep_is : (ds : List Decl) (depths : List ℕ) (deep : Bool) → AreDepths ds depths → list_any (nat_lt 63) depths ≡ deep → MatchBool deep (NestsTooDeep ds) (NestsTooDeep ds → ⊥)
deep_is ds depths true are e =
    let p = some_deep depths e in
    let within : p.0 < length (controls ds) = subst (λ n. p.0 < n) are.each p.1 in
    let c = get_within (controls ds) p.0 within in
    let known = are.all p.0 within in
    let to = known.there c.0 c.1 in
    let same : get_or depths p.0 0 ≡ min 65 (nesting to.0) = known.deep c.0 c.1 to.0 to.1 in
    let over : 63 < get_or depths p.0 0 = p.2 in
    record { control = p.0; body = to.0; expands = record { control = c.0; numbered = c.1; expands = to.1 }; deep = omega (arith, same, over) }
deep_is ds depths false are e = λ h.
    let within : h.control < length (controls ds) = there_within (controls ds) h.control h.expands.control h.expands.numbered in
    let same : get_or depths h.control 0 ≡ min 65 (nesting h.body) = (are.all h.control within).deep h.expands.control h.expands.numbered h.body h.expands.expands in
    let place : h.control < length depths = subst (λ n. h.control < n) (sym are.each) within in
    let long : 64 < 1 + nesting h.body = h.deep in
    let over : 63 < get_or depths h.control 0 = omega (arith, same, long) in
    cc (e, list_any_at (nat_lt 63) depths h.control 0 place (lt-ltb _ _ over))
