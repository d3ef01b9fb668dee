-- The meanings of a program by their names, each in one line: the definitions that they name say what they are. `Run16` and
-- `Work16` stand in Runs.
use Rattle.std.specs.Prelude.{ℕ}
use Rattle.match_core.specs.declared.signatures.Signature.{Signature}
use Rattle.fabric.specs.declared.items.Item.{Item}
use Rattle.fabric.specs.declared.items.IngressEnd.{IngressEnd}
use Rattle.fabric.specs.declared.items.EgressEnd.{EgressEnd}
use Rattle.p416_syntax.specs.declared.program.Syntax16.{Syntax16}
use Rattle.p416_syntax.specs.Tree.{Exp16, Stmt16}
use Rattle.p416_syntax.specs.Names.{Name}
use Rattle.p416_syntax.specs.Scopes.{Scope}
use Rattle.p416_syntax.specs.Calls.{Place}
use Rattle.v1_core.specs.declared.block.Block.{Block}
use Rattle.v1_core.specs.Values.{Value}
use Rattle.v1_core.specs.Frames.{Moment}
use Rattle.v1_core.specs.Signatures.{signature16}
use Rattle.v1_core.specs.Surroundings.{Setting, Surroundings, Applied, World}
use Rattle.v1_core.specs.Expressions.{Valued, value_of}
use Rattle.v1_core.specs.Statements.{no_label, run}
use Rattle.v1_core.specs.Tables.{applied}
use Rattle.v1_core.specs.Blocks.{act, control16}
use Rattle.v1_core.specs.Parsing.{Parsed, parse16}
use Rattle.v1_core.specs.Passes.{Between, Held, ingress16, reparse16, egress16}

-- the value of an expression at its place, and what evaluating it leaves
abbrev pub Value16 : World → Scope → Place → Exp16 → Moment → Valued
Value16 w s p e m = value_of w s p e m

-- what statements leave
abbrev pub Statement16 : World → Scope → Stmt16 → Moment → Moment
Statement16 w s x m = run w s no_label x m

-- what applying the table with a name tells and leaves
abbrev pub Table16 : Surroundings → Name → Moment → Applied
Table16 b text m = applied b (act b) text m

-- how parsing ends, and what it leaves
abbrev pub Parser16 : Setting → Moment → Parsed
Parser16 c m = parse16 c m

-- what a block that is a control leaves
abbrev pub Control16 : Setting → Block → Moment → Moment
Control16 c block m = control16 c block m

-- what a control plane sees of a program
abbrev pub Signature16 : Syntax16 → Signature
Signature16 syntax = signature16 syntax

-- the end of ingress, of a second parsing, and of egress
abbrev pub Ingress16 : Setting → Between → Item Value → IngressEnd Value Held × Between
Ingress16 c b came = ingress16 c b came

abbrev pub Reparse16 : Setting → Between → Item Value → Held × Between
Reparse16 c b came = reparse16 c b came

abbrev pub Egress16 : Setting → Between → Held → ℕ → ℕ → EgressEnd Value Held × Between
Egress16 c b held port kind = egress16 c b held port kind
