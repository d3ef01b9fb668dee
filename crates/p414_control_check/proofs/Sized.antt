-- The sizes of the nodes of the graph of controls say how much the pipelines come to.
use Rattle.std.proofs.Common.{◌≡◌, ℕ, suc, zero, ◌+◌, ◌<◌, min, Bool, true, false, nat_lt, List, [], ◌∷◌, length, get_or, map, sum_by, slice_get, slice_index, inl, inr, ⊎_elim, Option, Some, None, MatchOption, option_and_then, refl, sym, ap, ◌∙◌, subst, arith}
use Rattle.std.specs.Option.{option_map_or}
use Rattle.std.specs.Bool.{MatchBool}
use Rattle.std.proofs.lemmas.Bool.{lt-ltb, ltb-true}
use Rattle.std.proofs.lemmas.List.{length-map}
use Rattle.std.proofs.lemmas.List.Sums.{sum_by-cons}
use Rattle.digraph.specs.Graphs.{Among, successors}
use Rattle.digraph.specs.Expansions as calls
use Rattle.digraph.specs.Expansions.{AreSizes, HasCycle, size_of}
use Rattle.p414_syntax.specs.declared.syntax.Decl.{Decl}
use Rattle.p414_syntax.specs.Tree.{Stmt, no_statements}
use Rattle.p414_syntax.specs.Subtrees.{subtrees}
use Rattle.p414_syntax.specs.Views.{ControlTree}
use Rattle.p414_syntax.specs.Names.{Name}
use Rattle.p414_syntax.specs.ControlExpansion.{controls, control_number, control_of, calls_in, StatementExpands, PipelineExpands, ingress, egress}
use Rattle.p414_syntax.specs.Controls.{statement_count, PipelinesTooLong, HasBadControl}
use Rattle.p414_control_check.specs.internal.Expanded.{control_graph, capped_count, own_counts, pipeline_size, pipelines_size}
use Rattle.p414_control_check.proofs.Expanding.{count_in, count_of, row_count, comes, at_row, get_within, there_within, number_of_control, named_within, AllAreThere, nodes_expand, some_statement}
use Rattle.p414_control_check.specs.internal.Depths.{SomeStatement}
use Rattle.p414_control_check.proofs.Holding.{calls_itself, calls_none}

-- sums that are cut off at a limit

cut_sum : (limit : ℕ) (f g : ℕ → ℕ) → ((n : ℕ) → f n ≡ min limit (g n)) → (ns : List ℕ) → min limit (sum_by f ns) ≡ min limit (sum_by g ns)
cut_sum limit f g same [] = refl
cut_sum limit f g same (n ∷ ns) =
    let a : sum_by f (n ∷ ns) ≡ f n + sum_by f ns = sum_by-cons f n ns in
    let b : sum_by g (n ∷ ns) ≡ g n + sum_by g ns = sum_by-cons g n ns in
    let c : f n ≡ min limit (g n) = same n in
    let d : min limit (sum_by f ns) ≡ min limit (sum_by g ns) = cut_sum limit f g same ns in
    omega arith

-- what is counted of the control with a number

count_there : (limit : ℕ) (cs : List ControlTree) (n : ℕ) → get_or (map (capped_count limit) cs) n 0 ≡ min limit (count_in (slice_get cs n))
count_there limit [] n = omega arith
count_there limit (c ∷ cs) zero = refl
count_there limit (c ∷ cs) (suc n) = count_there limit cs n

pub count_is : (limit : ℕ) (ds : List Decl) (n : ℕ) → slice_index (own_counts limit ds) n ≡ min limit (row_count ds n)
count_is limit ds n = count_there limit (controls ds) n

node_within : (ds : List Decl) (n : ℕ) (c : ControlTree) → slice_get (controls ds) n ≡ Some c → n < length (control_graph ds)
node_within ds n c there =
    let h : n < length (controls ds) = there_within (controls ds) n c there in
    let same : length (control_graph ds) ≡ length (controls ds) = length-map (controls ds) (calls_in ds) in
    omega arith

same_order : (most a b : ℕ) → ((most < a) → most < b) → ((most < b) → most < a) → nat_lt most a ≡ nat_lt most b
same_order most a b f g = by_value (nat_lt most a) refl where
  by_value : (t : Bool) → nat_lt most a ≡ t → nat_lt most a ≡ nat_lt most b
  by_value true e = e ∙ sym (lt-ltb _ _ (f (ltb-true _ _ e)))
  by_value false e = e ∙ by_other (nat_lt most b) refl where
    by_other : (u : Bool) → nat_lt most b ≡ u → false ≡ nat_lt most b
    by_other true h = absurd (cc (e, lt-ltb _ _ (g (ltb-true _ _ h))))
    by_other false h = sym h

cut_two : (a b x y : ℕ) → a ≡ min 65537 x → b ≡ min 65537 y → nat_lt 65536 (a + b) ≡ nat_lt 65536 (x + y)
cut_two a b x y e f = same_order 65536 (a + b) (x + y) (λ h. omega arith) (λ h. omega arith)

module _ (ds : List Decl) (sizes : List ℕ) (known : AreSizes (control_graph ds) (own_counts 65537 ds) 65537 sizes) where
  -- the size of a control's node is what is counted of the statements that it comes to
  size_is : (n : ℕ) (c : ControlTree) (to : Stmt) → slice_get (controls ds) n ≡ Some c → StatementExpands ds c.body to → slice_index sizes n ≡ min 65537 (statement_count to)
  size_is n c to there e =
      let h = comes ds c.body to e in
      let row : successors (control_graph ds) n ≡ calls_in ds c = at_row (calls_in ds) (controls ds) n c there in
      let first : row_count ds n ≡ count_of (subtrees c.body) = ap count_in there in
      let known_size : slice_index sizes n ≡ min 65537 (size_of (own_counts 65537 ds) (n ∷ h.nodes)) = known.size n h.nodes (node_within ds n c there) (subst (λ ns. calls.Expands (control_graph ds) ns h.nodes) (sym row) h.expands) in
      let a : min 65537 (sum_by (slice_index (own_counts 65537 ds)) (n ∷ h.nodes)) ≡ min 65537 (sum_by (row_count ds) (n ∷ h.nodes)) = cut_sum 65537 (slice_index (own_counts 65537 ds)) (row_count ds) (count_is 65537 ds) (n ∷ h.nodes) in
      let b : sum_by (row_count ds) (n ∷ h.nodes) ≡ row_count ds n + sum_by (row_count ds) h.nodes = sum_by-cons (row_count ds) n h.nodes in
      let d : statement_count to ≡ count_of (subtrees c.body) + sum_by (row_count ds) h.nodes = h.count in
      known_size ∙ (a ∙ ap (min 65537) (b ∙ (ap (λ m. m + sum_by (row_count ds) h.nodes) first ∙ sym d)))

  -- each control comes to some statement
  some_body : AllAreThere ds → (n : ℕ) (c : ControlTree) → slice_get (controls ds) n ≡ Some c → SomeStatement ds c.body
  some_body all n c there =
      let row : successors (control_graph ds) n ≡ calls_in ds c = at_row (calls_in ds) (controls ds) n c there in
      let h = known.expands n (node_within ds n c there) in
      some_statement ds c.body (all n c there) (λ m i. nodes_expand ds all (successors (control_graph ds) n) h.0 h.1 m (subst (Among m) (sym row) i))

  -- a pipeline

  size_by : (name : Name) (o : Option ControlTree) (to : Stmt) → control_of ds name ≡ o → MatchOption o (to ≡ no_statements) (λ (c : ControlTree). StatementExpands ds c.body to) → pipeline_size ds sizes name ≡ min 65537 (statement_count to)
  size_by name None to is e = ap (λ o. option_map_or (slice_index sizes) o 0) (none_is (control_number ds name) refl is) ∙ sym (ap (λ (s : Stmt). min 65537 (statement_count s)) e) where
    none_is : (o : Option ℕ) → control_number ds name ≡ o → option_and_then (slice_get (controls ds)) o ≡ None → control_number ds name ≡ None
    none_is None at e = at
    none_is (Some n) at e = let f = get_within (controls ds) n (named_within ds name n at) in absurd (cc (f.1, e))
  size_by name (Some c) to is e =
      let found = number_of_control ds (control_number ds name) c is in
      ap (λ o. option_map_or (slice_index sizes) o 0) found.1 ∙ size_is found.0 c to found.2 e

  pipeline_is : (name : Name) (to : Stmt) → PipelineExpands ds name to → pipeline_size ds sizes name ≡ min 65537 (statement_count to)
  pipeline_is name to e = size_by name (control_of ds name) to refl e

  some_by : AllAreThere ds → (name : Name) (o : Option ControlTree) → control_of ds name ≡ o → (to : Stmt) × MatchOption o (to ≡ no_statements) (λ (c : ControlTree). StatementExpands ds c.body to)
  some_by all name None is = (no_statements, refl)
  some_by all name (Some c) is =
      let found = number_of_control ds (control_number ds name) c is in
      some_body all found.0 c found.2

  some_pipeline : AllAreThere ds → (name : Name) → (to : Stmt) × PipelineExpands ds name to
  some_pipeline all name = some_by all name (control_of ds name) refl

  -- both together are too long where their sizes are
  long_is : (a b : Stmt) → PipelineExpands ds ingress a → PipelineExpands ds egress b → nat_lt 65536 (pipelines_size ds sizes) ≡ nat_lt 65536 (statement_count a + statement_count b)
  long_is a b e f = cut_two _ _ (statement_count a) (statement_count b) (pipeline_is ingress a e) (pipeline_is egress b f)

  too_long : AllAreThere ds → nat_lt 65536 (pipelines_size ds sizes) ≡ true → PipelinesTooLong ds
  too_long all e =
      let a = some_pipeline all ingress in
      let b = some_pipeline all egress in
      record { ingress_body = a.0; egress_body = b.0; ingress_expands = a.1; egress_expands = b.1; long = ltb-true _ _ (sym (long_is a.0 b.0 a.1 b.1) ∙ e) }

  none_long : nat_lt 65536 (pipelines_size ds sizes) ≡ false → PipelinesTooLong ds → ⊥
  none_long e h = cc (e, long_is h.ingress_body h.egress_body h.ingress_expands h.egress_expands, lt-ltb _ _ h.long)

  pub bad_is : AllAreThere ds → (bad : Bool) → nat_lt 65536 (pipelines_size ds sizes) ≡ bad → MatchBool bad (HasBadControl ds) (HasBadControl ds → ⊥)
  bad_is all true e = inr (too_long all e)
  bad_is all false e = λ h. ⊎_elim (calls_none ds known.acyclic) (none_long e) h

pub cyclic_is : (ds : List Decl) → HasCycle (control_graph ds) → HasBadControl ds
cyclic_is ds h = inl (calls_itself ds h)
