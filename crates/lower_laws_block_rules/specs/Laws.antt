-- What holds of the blocks that are written as they are asked to be: they break no rule of P4_16 (laws of this
-- project's own; P4_16 1.2, "Control blocks", "Packet parsing", "Deparsing").
use Rattle.std.specs.Prelude.{ℕ, Bool, List, []}
use Rattle.p414_syntax.specs.declared.syntax.Decl.{Decl}
use Rattle.p414_syntax.specs.Names.{Name}
use Rattle.p414_syntax.specs.Tree.{Stmt}
use Rattle.p416_syntax.specs.declared.controls.Control16.{Control16}
use Rattle.p416_syntax.specs.declared.parsers.Parser16.{Parser16}
use Rattle.p416_syntax.specs.declared.program.Decl16.TheVariants as decl
use Rattle.p416_syntax.specs.Scopes.{Scope}
use Rattle.lower_laws_base.specs.Context.{Lowering}
use Rattle.lower_laws_controls.specs.Controls.{Plan}
use Rattle.lower_laws_states.specs.Expansions.{Has}
use Rattle.lower_laws_rules.specs.Declared.{control_held, DeclarationKeeps}
use Rattle.lower_laws_block_rules.specs.Wholes.{PipelineIs, DeparserIs, ParserIs}

-- ingress or egress, with these tables; the deparser; the parser
pub record BlocksKeep : Type 0 where
  pub pipelines : (s : Scope) (c : Lowering) (ds : List Decl) (k : Plan) (tables : List Name) (checks : Bool) (body : Stmt) (h m : Name) (d : Control16) → PipelineIs s c ds k (Has tables) checks body h m d → DeclarationKeeps s (decl.Control d) (control_held d)
  pub deparsers : (s : Scope) (c : Lowering) (packet : Name) (order : List ℕ) (h : Name) (d : Control16) → DeparserIs s c packet order h d → DeclarationKeeps s (decl.Control d) (control_held d)
  pub parsers : (s : Scope) (c : Lowering) (ds : List Decl) (packet : Name) (state : Name → Name) (h m : Name) (q : Parser16) → ParserIs s c ds packet state h m q → DeclarationKeeps s (decl.Parser q) []
