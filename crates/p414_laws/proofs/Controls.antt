-- What a control comes to.
use Rattle.std.proofs.Common.{◌≡◌, ℕ, suc, zero, inl, List, [], ◌++◌, slice_get, Option, Some, option_and_then, refl, sym, ap, ◌∙◌, subst}
use Rattle.std.specs.Option.{option_map_or}
use Rattle.std.specs.Prelude.{filter_map, flat_map}
use Rattle.digraph.specs.Graphs.{Among}
use Rattle.p414_syntax.specs.declared.syntax.Decl.{Decl}
use Rattle.p414_syntax.specs.Tree.{Stmt, no_statements, then, apply, apply_branches, if_then, call, no_else, else_block, else_if, no_branches, branch}
use Rattle.p414_syntax.specs.Subtrees.{subtrees}
use Rattle.p414_syntax.specs.Views.{ControlTree}
use Rattle.p414_syntax.specs.Names.{Name}
use Rattle.p414_syntax.specs.ControlExpansion.{calls_in, controls, controls_called_by, control_number, control_of, own_call, StatementExpands, NoStatements, Then, Apply, ApplyBranches, If, Call, NoElse, ElseBlock, ElseIf, NoBranches, Branch}
use Rattle.p414_control_check.proofs.Expanding.{AllAreThere, CallsAreThere, call_is, calls_of, calls_two}
use Rattle.p414_control_check.proofs.Expanding as within
use Rattle.p414_laws.specs.Expansion.{statement_by, statement_within}
use Rattle.p414_laws.proofs.Depths.{IsDeep}
use Rattle.p414_laws.proofs.Members.{among_left, among_right}

module _ (ds : List Decl) (there : AllAreThere ds) where
  abbrev pub CallDeep : ℕ → Stmt → Type 0
  CallDeep levels s = (n : ℕ) → Among n (calls_of ds s) → IsDeep (controls_called_by ds) levels n

  abbrev Comes : ℕ → Type 0
  Comes levels =
      (n : ℕ) (c : ControlTree) → IsDeep (controls_called_by ds) levels n → slice_get (controls ds) n ≡ Some c
      → StatementExpands ds c.body (statement_within ds levels c.body)

  left_of : (levels : ℕ) (a b : Stmt) → ((n : ℕ) → Among n (filter_map (control_number ds) (flat_map own_call (subtrees a ++ subtrees b))) → IsDeep (controls_called_by ds) levels n) → CallDeep levels a
  left_of levels a b h n i = h n (subst (Among n) (sym (calls_two ds (subtrees a) (subtrees b))) (among_left n (calls_of ds a) (calls_of ds b) i))

  right_of : (levels : ℕ) (a b : Stmt) → ((n : ℕ) → Among n (filter_map (control_number ds) (flat_map own_call (subtrees a ++ subtrees b))) → IsDeep (controls_called_by ds) levels n) → CallDeep levels b
  right_of levels a b h n i = h n (subst (Among n) (sym (calls_two ds (subtrees a) (subtrees b))) (among_right n (calls_of ds a) (calls_of ds b) i))

  get_by : (n : ℕ) (o : Option ControlTree) → slice_get (controls ds) n ≡ o → option_and_then (slice_get (controls ds)) (Some n) ≡ o
  get_by n o e = e

  call_comes : (levels : ℕ) (name : Name) (n : ℕ) (c : ControlTree) → Comes levels → CallDeep levels (call name) → control_number ds name ≡ Some n → slice_get (controls ds) n ≡ Some c
      → StatementExpands ds (call name) (option_map_or (λ (x : ControlTree). statement_within ds levels x.body) (control_of ds name) no_statements)
  call_comes levels name n c comes deep is get =
      let found : control_of ds name ≡ Some c = ap (option_and_then (slice_get (controls ds))) is ∙ get in
      subst (λ (o : Option ControlTree). StatementExpands ds (call name) (option_map_or (λ (x : ControlTree). statement_within ds levels x.body) o no_statements)) (sym found)
      (Call name c (statement_within ds levels c.body) found (comes n c (deep n (subst (Among n) (sym (call_is ds name n is)) (inl refl))) get))

  named_within : (name : Name) (n : ℕ) → control_number ds name ≡ Some n → (c : ControlTree) × (slice_get (controls ds) n ≡ Some c)
  named_within name n is = within.get_within (controls ds) n (within.named_within ds name n is)

  statement_comes : (levels : ℕ) → Comes levels → (s : Stmt) → CallsAreThere ds s → CallDeep levels s → StatementExpands ds s (statement_by ds (statement_within ds levels) s)
  statement_comes levels comes no_statements t deep = NoStatements
  statement_comes levels comes (then a b) t deep = Then a b _ _ (statement_comes levels comes a t.0 (left_of levels a b deep)) (statement_comes levels comes b t.1 (right_of levels a b deep))
  statement_comes levels comes (apply table) t deep = Apply table
  statement_comes levels comes (apply_branches table a) t deep = ApplyBranches table a _ (statement_comes levels comes a t deep)
  statement_comes levels comes (if_then c a b) t deep = If c a b _ _ (statement_comes levels comes a t.0 (left_of levels a b deep)) (statement_comes levels comes b t.1 (right_of levels a b deep))
  statement_comes levels comes (call name) t deep = let f = named_within name t.0 t.1 in call_comes levels name t.0 f.0 comes deep t.1 f.1
  statement_comes levels comes no_else t deep = NoElse
  statement_comes levels comes (else_block a) t deep = ElseBlock a _ (statement_comes levels comes a t deep)
  statement_comes levels comes (else_if a) t deep = ElseIf a _ (statement_comes levels comes a t deep)
  statement_comes levels comes no_branches t deep = NoBranches
  statement_comes levels comes (branch a l b) t deep = Branch a b _ _ l (statement_comes levels comes a t.0 (left_of levels a b deep)) (statement_comes levels comes b t.1 (right_of levels a b deep))

  called_by : (n : ℕ) (c : ControlTree) → slice_get (controls ds) n ≡ Some c → controls_called_by ds n ≡ calls_of ds c.body
  called_by n c e = ap (λ (o : Option ControlTree). option_map_or (calls_in ds) o []) e

  control_comes : (levels : ℕ) → Comes levels
  control_comes zero n c deep is = absurd deep
  control_comes (suc levels) n c deep is =
      statement_comes levels (control_comes levels) c.body (there n c is) (λ m h. deep m (subst (Among m) (sym (called_by n c is)) h))

  -- the body of a control comes to something
  pub body_comes : (levels : ℕ) (n : ℕ) (c : ControlTree) → slice_get (controls ds) n ≡ Some c → IsDeep (controls_called_by ds) (suc levels) n → StatementExpands ds c.body (statement_within ds (suc levels) c.body)
  body_comes levels n c is deep = control_comes (suc levels) n c deep is
