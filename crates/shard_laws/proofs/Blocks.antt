-- What the blocks that are controls leave of moments that are alike.
use Rattle.std.proofs.Common.{Option, Some, None, List, [], ◌∷◌, fold, filter_map}
use Rattle.p416_syntax.specs.declared.parts.Type16.{Type16}
use Rattle.p416_syntax.specs.declared.parsers.Var.{Var}
use Rattle.p416_syntax.specs.declared.controls.Control16.{Control16}
use Rattle.p416_syntax.specs.Tree.{Exp16}
use Rattle.p416_syntax.specs.Names.{Name}
use Rattle.p416_syntax.specs.Scopes.{kind_of_type}
use Rattle.p416_syntax.specs.Calls.{value}
use Rattle.v1_core.specs.declared.block.Block.{Block}
use Rattle.v1_core.specs.Values.{Value, to_member}
use Rattle.v1_core.specs.Frames.{Moment, of_variables, whole, stepped, put_at}
use Rattle.v1_core.specs.Surroundings.{Setting, World}
use Rattle.v1_core.specs.Expressions.{Valued, value_of}
use Rattle.v1_core.specs.Statements.{no_label}
use Rattle.v1_core.specs.Blocks.{control_world, variables_of, with_variables, with_value, with_initial, begun, control_at, around_control, var_in, run_control, run_block, control16}
use Rattle.shard_laws.specs.Likeness.{Pairing, Like, like, LikeValued, like_valued, LikeWorld}
use Rattle.shard_laws.proofs.Leaves.{puts, goes}
use Rattle.shard_laws.proofs.Values.{values}
use Rattle.shard_laws.proofs.Statements.{begins, runs}
use Rattle.shard_laws.proofs.Tables.{control_like}

module _ (k : Pairing) where
  pub variables : (v : Value) (m n : Moment) → Like k m n → Like k (with_variables v m) (with_variables v n)
  variables v m _ (like _ s w a b) = like (with_variables v m) s w a b

  valued_at : (called : Name) (x y : Valued) → LikeValued k x y → Like k (with_value called x) (with_value called y)
  valued_at called _ _ (like_valued v m n h) =
      goes k (put_at (stepped (whole of_variables) (to_member called)) v) m n h (puts k (stepped (whole of_variables) (to_member called)) v m n h)

  module _ (w : World) (same : LikeWorld k w) where
    initial : (t : Type16) (called : Name) (o : Option Exp16) (m n : Moment) → Like k m n → Like k (with_initial w m (record { of = t; name = called; initial = o })) (with_initial w n (record { of = t; name = called; initial = o }))
    initial t called None m n h = h
    initial t called (Some e) m n h =
        let place = value (kind_of_type w.around.scope.names t) in
        begins k (λ p. with_value called (value_of w w.around.scope place e p)) (λ p q i. valued_at called _ _ (values k w same w.around.scope place e p q i)) m n h

    initials : (vars : List Var) (m n : Moment) → Like k m n → Like k (fold (with_initial w) m vars) (fold (with_initial w) n vars)
    initials [] m n h = h
    initials (v ∷ vars) m n h = initials vars _ _ (initial v.of v.name v.initial m n h)

    pub opens : (vars : List Var) (m n : Moment) → Like k m n → Like k (begun w vars m) (begun w vars n)
    opens vars m n h = initials vars _ _ (variables (variables_of w.around.scope vars) m n h)

    control_runs : (control : Control16) (m n : Moment) → Like k m n → Like k (run_control w control m) (run_control w control n)
    control_runs control m n h =
        variables _ _ _ (runs k w same w.around.scope no_label control.body _ _ (opens (filter_map var_in control.locals) m n h))

  block_runs : (c : Setting) (block : Block) (o : Option Control16) (m n : Moment) → Like k m n → Like k (run_block c block o m) (run_block c block o n)
  block_runs c block None m n h = h
  block_runs c block (Some control) m n h =
      control_runs (control_world (around_control c block control)) (control_like k (around_control c block control)) control m n h

  pub controls : (c : Setting) (block : Block) (m n : Moment) → Like k m n → Like k (control16 c block m) (control16 c block n)
  unfolding control16
  controls c block m n h = block_runs c block (control_at c.syntax block) m n h
