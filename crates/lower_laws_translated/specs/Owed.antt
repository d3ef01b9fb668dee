-- What the rules of P4_16 ask of the declarations of ingress and egress as they are written, which is shown by itself,
-- and all other rules over it (this project's own; P4_16 1.2, "Control blocks", "Actions", "Tables").
use Rattle.std.specs.Prelude.{List}
use Rattle.std.specs.List.{AllByRecursion}
use Rattle.p414_syntax.specs.declared.syntax.Decl.{Decl}
use Rattle.p414_syntax.specs.Names.{Name}
use Rattle.p416_syntax.specs.declared.controls.Control16.{Control16}
use Rattle.p416_syntax.specs.Scopes.{Scope}
use Rattle.p416_syntax.specs.Declarations.{control_scope}
use Rattle.lower_laws_base.specs.Context.{Lowering}
use Rattle.lower_laws_controls.specs.Controls.{Plan}
use Rattle.lower_laws_block_rules.specs.Wholes.{LocalHere, TablePlaced}

-- Of ingress or egress: its actions and tables are as the rules ask.
pub record PipelineOwed (c : Lowering) (ds : List Decl) (top : Scope) (k : Plan) (P : Name → Type 0) (d : Control16) : Type 0 where
  pub locals : AllByRecursion (LocalHere c ds (control_scope top d) k) d.locals
  pub tables : (t : Name) → P t → TablePlaced c ds (control_scope top d) k d.locals t
