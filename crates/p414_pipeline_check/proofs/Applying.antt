-- A pipeline applies the tables that its control reaches in the graph of controls and tables.
use Rattle.std.proofs.Common.{◌≡◌, ℕ, suc, zero, ◌+◌, ◌<◌, Bool, true, false, inl, inr, ⊎_elim, List, [], ◌∷◌, ◌++◌, length, get_or, map, drop, slice_get, Option, Some, None, option_map, Contains, refl, sym, ap, ◌∙◌, subst, arith}
use Rattle.std.specs.Prelude.{filter_map, flat_map}
use Rattle.std.specs.List.{cons_option}
use Rattle.std.specs.Option.{option_map_or}
use Rattle.std.specs.Str.{bytes_eq}
use Rattle.std.proofs.lemmas.List.{length-map, length-append, length-drop, get_or-drop}
use Rattle.std.proofs.lemmas.List.Quantifiers.{position-Some}
use Rattle.digraph.specs.Graphs.{Among, successors, IsEdge, WalkTo, Edge, Onward, Reaches, IsClosed}
use Rattle.digraph.proofs.Listing.{among_append}
use Rattle.p414_syntax.specs.declared.tables.Table.{Table}
use Rattle.p414_syntax.specs.declared.syntax.Decl.{Decl}
use Rattle.p414_syntax.specs.declared.syntax.Decl.TheVariants as decl
use Rattle.p414_syntax.specs.declared.syntax.Sort.TheVariants as sort
use Rattle.p414_syntax.specs.Tree.{Stmt, no_statements, then, apply, apply_branches, if_then, call, no_else, else_block, else_if, no_branches, branch}
use Rattle.p414_syntax.specs.Subtrees.{subtrees}
use Rattle.p414_syntax.specs.Views.{ControlTree}
use Rattle.p414_syntax.specs.Names.{Name, names_in}
use Rattle.p414_syntax.specs.Walks.{IsWalk}
use Rattle.p414_syntax.specs.ControlExpansion.{controls, control_number, own_call, calls_in, controls_called_by, ingress, egress}
use Rattle.p414_syntax.specs.Tables.{tables, table_number}
use Rattle.p414_syntax.specs.Pipelines.{own_table, applied_in, applied_by, IsApplied, IsTableShared}
use Rattle.p414_syntax.specs.Exact.{IsExact}
use Rattle.p414_control_check.proofs.Expanding.{named_within, there_within, among_left, among_right, filter_append}
use Rattle.p414_control_check.proofs.Holding.{among, contains}
use Rattle.p414_pipeline_check.specs.internal.Applied.{table_node, named_table, leads_to, control_row, table_row, control_rows, table_rows, applied_graph, IsReachedFrom, AreReachedFrom, AreApplied, IsBoth}

-- numbers of tables

same_length : (ds : List Decl) → length (names_in sort.Table ds) ≡ length (tables ds)
same_length [] = refl
same_length (decl.Table x ∷ ds) = ap suc (same_length ds)
same_length (decl.HeaderType x ∷ ds) = same_length ds
same_length (decl.Header x ∷ ds) = same_length ds
same_length (decl.Metadata x ∷ ds) = same_length ds
same_length (decl.FieldList x ∷ ds) = same_length ds
same_length (decl.FieldListCalculation x ∷ ds) = same_length ds
same_length (decl.CalculatedField x ∷ ds) = same_length ds
same_length (decl.Parser x ∷ ds) = same_length ds
same_length (decl.Action x ∷ ds) = same_length ds
same_length (decl.Counter x ∷ ds) = same_length ds
same_length (decl.Meter x ∷ ds) = same_length ds
same_length (decl.Register x ∷ ds) = same_length ds
same_length (decl.Control x ∷ ds) = same_length ds
same_length (decl.LeftOut x ∷ ds) = same_length ds

pub table_within : (ds : List Decl) (name : Name) (t : ℕ) → table_number ds name ≡ Some t → t < length (tables ds)
table_within ds name t e =
    let within : t < length (names_in sort.Table ds) = (position-Some (bytes_eq name) (names_in sort.Table ds) t [] e).0 in
    subst (λ n. t < n) (same_length ds) within

-- what an Option gives

from_option : (b : ℕ) (o : Option ℕ) → Among b (cons_option o []) → o ≡ Some b
from_option b None a = absurd a
from_option b (Some n) (inl e) = ap Some (sym e)
from_option b (Some n) (inr a) = absurd a

to_option : (b : ℕ) (o : Option ℕ) → o ≡ Some b → Among b (cons_option o [])
to_option b o e = subst (λ (p : Option ℕ). Among b (cons_option p [])) (sym e) (inl refl)

from_map : (f : ℕ → ℕ) (b : ℕ) (o : Option ℕ) → option_map f o ≡ Some b → (n : ℕ) × (o ≡ Some n) × (b ≡ f n)
from_map f b None e = absurd (cc e)
from_map f b (Some n) e = (n, refl, cc e)

-- what statements lead to, one after another

flat_among : (f g : Stmt → List ℕ) (b c : ℕ) → ((s : Stmt) → Among b (f s) → Among c (g s)) → (ss : List Stmt) → Among b (flat_map f ss) → Among c (flat_map g ss)
flat_among f g b c each [] a = absurd a
flat_among f g b c each (s ∷ ss) a =
    ⊎_elim (λ h. among_left c (g s) (flat_map g ss) (each s h)) (λ h. among_right c (g s) (flat_map g ss) (flat_among f g b c each ss h)) (among_append b (f s) (flat_map f ss) a)

flat_bound : (f : Stmt → List ℕ) (b limit : ℕ) → ((s : Stmt) → Among b (f s) → b < limit) → (ss : List Stmt) → Among b (flat_map f ss) → b < limit
flat_bound f b limit each [] a = absurd a
flat_bound f b limit each (s ∷ ss) a = ⊎_elim (each s) (flat_bound f b limit each ss) (among_append b (f s) (flat_map f ss) a)

joined : {A : Type 0} (h : A → Option ℕ) (own : Stmt → List A) (ss : List Stmt) → flat_map (λ s. filter_map h (own s)) ss ≡ filter_map h (flat_map own ss)
joined h own [] = refl
joined h own (s ∷ ss) = ap (λ l. filter_map h (own s) ++ l) (joined h own ss) ∙ sym (filter_append h (own s) (flat_map own ss))

abbrev own_calls : List Decl → Stmt → List ℕ
own_calls ds s = filter_map (control_number ds) (own_call s)

abbrev own_tables : List Decl → Stmt → List ℕ
own_tables ds s = filter_map (table_number ds) (own_table s)

module _ (ds : List Decl) where
  -- a table by its name
  from_table : (b : ℕ) (name : Name) → Among b (cons_option (named_table ds name) []) → (t : ℕ) × (table_number ds name ≡ Some t) × (b ≡ table_node ds t)
  from_table b name a = from_map (table_node ds) b (table_number ds name) (from_option b (named_table ds name) a)

  no_control : (b : ℕ) (name : Name) (P : Type 0) → b < length (controls ds) → Among b (cons_option (named_table ds name) []) → P
  no_control b name P lt a = let h = from_table b name a in let e : b ≡ length (controls ds) + h.0 = h.2 in absurd (omega arith)

  no_table : (t : ℕ) (name : Name) (P : Type 0) → Among (table_node ds t) (cons_option (control_number ds name) []) → P
  no_table t name P a = let lt : length (controls ds) + t < length (controls ds) = named_within ds name (table_node ds t) (from_option (table_node ds t) (control_number ds name) a) in absurd (omega arith)

  same_table : (t : ℕ) (name : Name) → Among (table_node ds t) (cons_option (named_table ds name) []) → Among t (cons_option (table_number ds name) [])
  same_table t name a =
      let h = from_table (table_node ds t) name a in
      let e : length (controls ds) + t ≡ length (controls ds) + h.0 = h.2 in
      let same : h.0 ≡ t = omega arith in
      to_option t (table_number ds name) (h.1 ∙ ap Some same)

  node_of_table : (t : ℕ) (name : Name) → Among t (cons_option (table_number ds name) []) → Among (table_node ds t) (cons_option (named_table ds name) [])
  node_of_table t name a = to_option (table_node ds t) (named_table ds name) (ap (option_map (table_node ds)) (from_option t (table_number ds name) a))

  -- one statement

  call_of : (b : ℕ) → b < length (controls ds) → (s : Stmt) → Among b (leads_to ds s) → Among b (own_calls ds s)
  call_of b lt no_statements a = absurd a
  call_of b lt (then x y) a = absurd a
  call_of b lt (apply t) a = no_control b t _ lt a
  call_of b lt (apply_branches t x) a = no_control b t _ lt a
  call_of b lt (if_then c x y) a = absurd a
  call_of b lt (call name) a = a
  call_of b lt no_else a = absurd a
  call_of b lt (else_block x) a = absurd a
  call_of b lt (else_if x) a = absurd a
  call_of b lt no_branches a = absurd a
  call_of b lt (branch x l y) a = absurd a

  of_call : (b : ℕ) → (s : Stmt) → Among b (own_calls ds s) → Among b (leads_to ds s)
  of_call b no_statements a = absurd a
  of_call b (then x y) a = absurd a
  of_call b (apply t) a = absurd a
  of_call b (apply_branches t x) a = absurd a
  of_call b (if_then c x y) a = absurd a
  of_call b (call name) a = a
  of_call b no_else a = absurd a
  of_call b (else_block x) a = absurd a
  of_call b (else_if x) a = absurd a
  of_call b no_branches a = absurd a
  of_call b (branch x l y) a = absurd a

  table_of : (t : ℕ) → (s : Stmt) → Among (table_node ds t) (leads_to ds s) → Among t (own_tables ds s)
  table_of t no_statements a = absurd a
  table_of t (then x y) a = absurd a
  table_of t (apply name) a = same_table t name a
  table_of t (apply_branches name x) a = same_table t name a
  table_of t (if_then c x y) a = absurd a
  table_of t (call name) a = no_table t name _ a
  table_of t no_else a = absurd a
  table_of t (else_block x) a = absurd a
  table_of t (else_if x) a = absurd a
  table_of t no_branches a = absurd a
  table_of t (branch x l y) a = absurd a

  of_table : (t : ℕ) → (s : Stmt) → Among t (own_tables ds s) → Among (table_node ds t) (leads_to ds s)
  of_table t no_statements a = absurd a
  of_table t (then x y) a = absurd a
  of_table t (apply name) a = node_of_table t name a
  of_table t (apply_branches name x) a = node_of_table t name a
  of_table t (if_then c x y) a = absurd a
  of_table t (call name) a = absurd a
  of_table t no_else a = absurd a
  of_table t (else_block x) a = absurd a
  of_table t (else_if x) a = absurd a
  of_table t no_branches a = absurd a
  of_table t (branch x l y) a = absurd a

  control_below : (b : ℕ) (name : Name) → Among b (cons_option (control_number ds name) []) → b < length (controls ds) + length (tables ds)
  control_below b name a = let lt = named_within ds name b (from_option b (control_number ds name) a) in omega arith

  table_below : (b : ℕ) (name : Name) → Among b (cons_option (named_table ds name) []) → b < length (controls ds) + length (tables ds)
  table_below b name a =
      let h = from_table b name a in
      let e : b ≡ length (controls ds) + h.0 = h.2 in
      let lt = table_within ds name h.0 h.1 in
      omega arith

  node_below : (b : ℕ) (s : Stmt) → Among b (leads_to ds s) → b < length (controls ds) + length (tables ds)
  node_below b no_statements a = absurd a
  node_below b (then x y) a = absurd a
  node_below b (apply t) a = table_below b t a
  node_below b (apply_branches t x) a = table_below b t a
  node_below b (if_then c x y) a = absurd a
  node_below b (call name) a = control_below b name a
  node_below b no_else a = absurd a
  node_below b (else_block x) a = absurd a
  node_below b (else_if x) a = absurd a
  node_below b no_branches a = absurd a
  node_below b (branch x l y) a = absurd a

  -- one control

  row_call : (b : ℕ) (c : ControlTree) → b < length (controls ds) → Among b (control_row ds c) → Among b (calls_in ds c)
  row_call b c lt a = subst (Among b) (joined (control_number ds) own_call (subtrees c.body)) (flat_among (leads_to ds) (own_calls ds) b b (call_of b lt) (subtrees c.body) a)

  call_row : (b : ℕ) (c : ControlTree) → Among b (calls_in ds c) → Among b (control_row ds c)
  call_row b c a = flat_among (own_calls ds) (leads_to ds) b b (of_call b) (subtrees c.body) (subst (Among b) (sym (joined (control_number ds) own_call (subtrees c.body))) a)

  row_table : (t : ℕ) (c : ControlTree) → Among (table_node ds t) (control_row ds c) → Among t (applied_in ds c)
  row_table t c a = subst (Among t) (joined (table_number ds) own_table (subtrees c.body)) (flat_among (leads_to ds) (own_tables ds) (table_node ds t) t (table_of t) (subtrees c.body) a)

  table_in_row : (t : ℕ) (c : ControlTree) → Among t (applied_in ds c) → Among (table_node ds t) (control_row ds c)
  table_in_row t c a = flat_among (own_tables ds) (leads_to ds) t (table_node ds t) (of_table t) (subtrees c.body) (subst (Among t) (sym (joined (table_number ds) own_table (subtrees c.body))) a)

  -- the rows of the graph

  no_row : (ts : List Table) (n : ℕ) → get_or (map table_row ts) n [] ≡ []
  no_row [] n = refl
  no_row (t ∷ ts) zero = refl
  no_row (t ∷ ts) (suc n) = no_row ts n

  row_there : (cs : List ControlTree) (ts : List Table) (n : ℕ) → get_or (map (control_row ds) cs ++ map table_row ts) n [] ≡ option_map_or (control_row ds) (slice_get cs n) []
  row_there [] ts n = no_row ts n
  row_there (c ∷ cs) ts zero = refl
  row_there (c ∷ cs) ts (suc n) = row_there cs ts n

  row_is : (n : ℕ) → successors (applied_graph ds) n ≡ option_map_or (control_row ds) (slice_get (controls ds) n) []
  row_is n = row_there (controls ds) (tables ds) n

  by_row : (P Q : ControlTree → List ℕ) (b c : ℕ) → ((x : ControlTree) → Among b (P x) → Among c (Q x)) → (o : Option ControlTree) → Among b (option_map_or P o []) → Among c (option_map_or Q o [])
  by_row P Q b c each None a = absurd a
  by_row P Q b c each (Some x) a = each x a

  edge_call : (a b : ℕ) → b < length (controls ds) → IsEdge (applied_graph ds) a b → Contains (controls_called_by ds a) b
  edge_call a b lt e = contains b (controls_called_by ds a) (by_row (control_row ds) (calls_in ds) b b (λ x h. row_call b x lt h) (slice_get (controls ds) a) (subst (Among b) (row_is a) e))

  call_edge : (a b : ℕ) → Contains (controls_called_by ds a) b → IsEdge (applied_graph ds) a b
  call_edge a b h = subst (Among b) (sym (row_is a)) (by_row (calls_in ds) (control_row ds) b b (call_row b) (slice_get (controls ds) a) (among b (controls_called_by ds a) h))

  edge_table : (a t : ℕ) → IsEdge (applied_graph ds) a (table_node ds t) → Among t (applied_by ds a)
  edge_table a t e = by_row (control_row ds) (applied_in ds) (table_node ds t) t (row_table t) (slice_get (controls ds) a) (subst (Among (table_node ds t)) (row_is a) e)

  table_edge : (a t : ℕ) → Among t (applied_by ds a) → IsEdge (applied_graph ds) a (table_node ds t)
  table_edge a t h = subst (Among (table_node ds t)) (sym (row_is a)) (by_row (applied_in ds) (control_row ds) t (table_node ds t) (table_in_row t) (slice_get (controls ds) a) h)

  from_control : (a b : ℕ) → IsEdge (applied_graph ds) a b → a < length (controls ds)
  from_control a b e = by_option (slice_get (controls ds) a) refl (subst (Among b) (row_is a) e) where
    by_option : (o : Option ControlTree) → slice_get (controls ds) a ≡ o → Among b (option_map_or (control_row ds) o []) → a < length (controls ds)
    by_option None is h = absurd h
    by_option (Some x) is h = there_within (controls ds) a x is

  nodes_are : length (applied_graph ds) ≡ length (controls ds) + length (tables ds)
  nodes_are =
      let a = length-append (control_rows ds) (table_rows ds) in
      let b : length (control_rows ds) ≡ length (controls ds) = length-map (controls ds) (control_row ds) in
      let c : length (table_rows ds) ≡ length (tables ds) = length-map (tables ds) table_row in
      omega arith

  row_below : (b : ℕ) (o : Option ControlTree) → Among b (option_map_or (control_row ds) o []) → b < length (controls ds) + length (tables ds)
  row_below b None a = absurd a
  row_below b (Some c) a = flat_bound (leads_to ds) b (length (controls ds) + length (tables ds)) (node_below b) (subtrees c.body) a

  pub closed : IsClosed (applied_graph ds)
  closed =
      record {
        within = λ a b e. let lt = row_below b (slice_get (controls ds) a) (subst (Among b) (row_is a) e) in let n = nodes_are in omega arith;
      }

  -- walks

  source : (c a : ℕ) → WalkTo (applied_graph ds) c a → a < length (controls ds)
  source c a (Edge _ e) = from_control a c e
  source c a (Onward _ b e w) = from_control a b e

  walk_from : (t a : ℕ) → WalkTo (applied_graph ds) (table_node ds t) a → (rest : List ℕ) × IsWalk (controls_called_by ds) (a ∷ rest) × Among t (flat_map (applied_by ds) (a ∷ rest))
  walk_from t a (Edge _ e) = ([], _, among_left t (applied_by ds a) [] (edge_table a t e))
  walk_from t a (Onward _ b e w) =
      let h = walk_from t b w in
      (b ∷ h.0, (edge_call a b (source (table_node ds t) b w) e, h.1), among_right t (applied_by ds a) (flat_map (applied_by ds) (b ∷ h.0)) h.2)

  walk_to : (t a : ℕ) (rest : List ℕ) → IsWalk (controls_called_by ds) (a ∷ rest) → Among t (flat_map (applied_by ds) (a ∷ rest)) → WalkTo (applied_graph ds) (table_node ds t) a
  walk_to t a [] w h = ⊎_elim (λ x. Edge a (table_edge a t x)) (λ x. absurd x) (among_append t (applied_by ds a) [] h)
  walk_to t a (b ∷ rest) w h =
      ⊎_elim (λ x. Edge a (table_edge a t x)) (λ x. Onward a b (call_edge a b w.0) (walk_to t b rest w.1 x)) (among_append t (applied_by ds a) (flat_map (applied_by ds) (b ∷ rest)) h)

  -- what a pipeline applies

  to_applied : (pipeline : Name) (t first : ℕ) → control_number ds pipeline ≡ Some first → Reaches (applied_graph ds) first (table_node ds t) → IsApplied ds pipeline t
  to_applied pipeline t first is (inl e) =
      let lt = named_within ds pipeline first is in
      let same : first ≡ length (controls ds) + t = e in
      absurd (omega arith)
  to_applied pipeline t first is (inr w) =
      let h = walk_from t first w in
      record {
        walk = first ∷ h.0;
        from_pipeline = record { first = first; rest = h.0; start = is; begins = refl; walks = h.1 };
        applied = contains t (flat_map (applied_by ds) (first ∷ h.0)) h.2;
      }

  from_applied : (pipeline : Name) (t : ℕ) → IsApplied ds pipeline t → (first : ℕ) × (control_number ds pipeline ≡ Some first) × Reaches (applied_graph ds) first (table_node ds t)
  from_applied pipeline t h =
      let from = h.from_pipeline in
      let walks : IsWalk (controls_called_by ds) (from.first ∷ from.rest) = subst (IsWalk (controls_called_by ds)) from.begins from.walks in
      let there : Among t (flat_map (applied_by ds) (from.first ∷ from.rest)) = subst (λ w. Among t (flat_map (applied_by ds) w)) from.begins (among t (flat_map (applied_by ds) h.walk) h.applied) in
      (from.first, from.start, inr (walk_to t from.first from.rest walks there))

  reached_applied : (pipeline : Name) (t : ℕ) (o : Option ℕ) → control_number ds pipeline ≡ o → IsReachedFrom (applied_graph ds) o (table_node ds t) → IsApplied ds pipeline t
  reached_applied pipeline t None is h = absurd h
  reached_applied pipeline t (Some first) is h = to_applied pipeline t first is h

  applied_reached : (pipeline : Name) (t : ℕ) → IsApplied ds pipeline t → IsReachedFrom (applied_graph ds) (control_number ds pipeline) (table_node ds t)
  applied_reached pipeline t h =
      let r = from_applied pipeline t h in
      subst (λ (o : Option ℕ). IsReachedFrom (applied_graph ds) o (table_node ds t)) (sym r.1) r.2

  last_below : (c first : ℕ) → WalkTo (applied_graph ds) c first → c < length (applied_graph ds)
  last_below c first (Edge _ e) = closed.within first c e
  last_below c first (Onward _ b e w) = last_below c b w

  end_below : (pipeline : Name) (t first : ℕ) → control_number ds pipeline ≡ Some first → Reaches (applied_graph ds) first (table_node ds t) → length (controls ds) + t < length (applied_graph ds)
  end_below pipeline t first is (inl e) = let lt = named_within ds pipeline first is in let same : first ≡ length (controls ds) + t = e in absurd (omega arith)
  end_below pipeline t first is (inr w) = last_below (table_node ds t) first w

  pub applied_within : (pipeline : Name) (t : ℕ) → IsApplied ds pipeline t → t < length (tables ds)
  applied_within pipeline t h =
      let r = from_applied pipeline t h in
      let lt = end_below pipeline t r.0 r.1 r.2 in
      let n = nodes_are in
      omega arith

  -- from what was reached, the tables' part
  pub are_applied : (pipeline : Name) (reached : List Bool) → AreReachedFrom (applied_graph ds) (control_number ds pipeline) reached → AreApplied ds pipeline (drop (length (controls ds)) reached)
  are_applied pipeline reached are =
      let n = nodes_are in
      record {
        each = let l = length-drop (length (controls ds)) reached in let same : length reached ≡ length (applied_graph ds) = are.each in omega arith;
        exact = λ t lt.
            let within : length (controls ds) + t < length (applied_graph ds) = omega arith in
            let exact = are.exact (table_node ds t) within in
            let at : get_or (drop (length (controls ds)) reached) t false ≡ get_or reached (length (controls ds) + t) false = get_or-drop (length (controls ds)) reached t false in (
              λ e. reached_applied pipeline t (control_number ds pipeline) refl (exact.0 (sym at ∙ e)),
              λ h. at ∙ exact.1 (applied_reached pipeline t h),
            );
      }

-- C17

pub shared_is : (ds : List Decl) (a b : List Bool) (shared : Bool) → AreApplied ds ingress a → AreApplied ds egress b → IsBoth shared a b → IsExact shared (IsTableShared ds)
shared_is ds a b true x y h =
    let within : h.0 < length (tables ds) = subst (λ n. h.0 < n) x.each h.1 in
    (h.0, (x.exact h.0 within).0 h.2, (y.exact h.0 within).0 h.3)
shared_is ds a b false x y h = λ s.
    let within : s.0 < length (tables ds) = applied_within ds ingress s.0 s.1 in
    let place : s.0 < length a = subst (λ n. s.0 < n) (sym x.each) within in
    h s.0 place ((x.exact s.0 within).1 s.1) ((y.exact s.0 within).1 s.2)

-- from what is known of equal graphs

pub closed_by : (ds : List Decl) (g : List (List ℕ)) → g ≡ applied_graph ds → IsClosed g
closed_by ds g e = subst (λ (n : List (List ℕ)). IsClosed n) (sym e) (closed ds)

pub shared_by : (ds : List Decl) (a b x y : List Bool) (shared : Bool) → AreApplied ds ingress a → AreApplied ds egress b → x ≡ a → y ≡ b → IsBoth shared x y → IsExact shared (IsTableShared ds)
shared_by ds a b x y shared are_a are_b e f both =
    shared_is ds x y shared (subst (λ (l : List Bool). AreApplied ds ingress l) (sym e) are_a) (subst (λ (l : List Bool). AreApplied ds egress l) (sym f) are_b) both

pub applied_by_parts : (ds : List Decl) (pipeline : Name) (g : List (List ℕ)) (from : Option ℕ) (n : ℕ) (reached left : List Bool) → g ≡ applied_graph ds → from ≡ control_number ds pipeline → n ≡ length (controls ds) → AreReachedFrom g from reached → left ≡ drop n reached → AreApplied ds pipeline left
applied_by_parts ds pipeline g from n reached left graph start count are is =
    let same : AreReachedFrom (applied_graph ds) (control_number ds pipeline) reached =
    subst (λ (o : Option ℕ). AreReachedFrom (applied_graph ds) o reached) start (subst (λ (x : List (List ℕ)). AreReachedFrom x from reached) graph are) in
    subst (λ (l : List Bool). AreApplied ds pipeline l) (sym (is ∙ ap (λ m. drop m reached) count)) (are_applied ds pipeline reached same)
