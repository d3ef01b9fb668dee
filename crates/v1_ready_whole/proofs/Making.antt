-- The ready parser over what is held, and the ready blocks of their parts.
use Rattle.std.proofs.Common.{◌≡◌, ℕ, ◌<◌, List, [], length, get_or, Some, sym, subst, ap, ◌∙◌, arith}
use Rattle.state_store.specs.declared.shapes.Shape.{Shape}
use Rattle.node_lists.proofs.Growth as growth
use Rattle.p416_syntax.specs.declared.parsers.Parser16.{Parser16}
use Rattle.p416_syntax.specs.declared.program.Syntax16.{Syntax16}
use Rattle.v1_core.specs.declared.block.Block.{Block}
use Rattle.v1_core.specs.declared.block.Block.TheVariants.{Verify, Ingress, Egress, Compute, Deparse}
use Rattle.v1_core.specs.Parsing.{parser_of}
use Rattle.v1_core.specs.Layouts.{Layout}
use Rattle.v1_core.specs.Nodes.{ready_of}
use Rattle.v1_core.specs.Kept as expressions
use Rattle.v1_ready_selects.specs.Selects.{FitsTransition}
use Rattle.v1_ready_blocks.specs.Nodes.{Ground, IsRange}
use Rattle.v1_ready_blocks.specs.Kept as statements
use Rattle.v1_statement_run.specs.Steps.{expressions_in, trees_of, ground_of}
use Rattle.v1_ready_states.specs.declared.states.ReadyParser.{ReadyParser}
use Rattle.v1_parse_run.specs.Made.{Made, HoldsErrors, FitsParser}
use Rattle.v1_block_run.specs.declared.block.ReadyBlock.{ReadyBlock}
use Rattle.v1_block_run.specs.Blocks.{IsRunnable}
use Rattle.v1_ready_nodes.specs.Held.{Held, ready_in, trees_in, IsHeld, Grows}
use Rattle.v1_ready_parser.specs.Places.{seen_parser, IsStateIn, IsParserIn}
use Rattle.v1_ready_locals.specs.Seen.{code_of}
use Rattle.v1_ready_whole.specs.declared.program.ReadyBlocks.{ReadyBlocks}
use Rattle.v1_ready_whole.specs.Parsers.{ready_parser}
use Rattle.v1_ready_whole.specs.Ready.{IsReadyControl, IsReadyParser, AreReadyBlocks, block_in}
use Rattle.v1_ready_whole.specs.internal.Standing.{IsParserOver}

-- a block without actions can be run

pub can_run : (h : Held) (b : ReadyBlock) → code_of b ≡ h → b.actions ≡ [] → IsHeld h → h.expressions.layout ≡ h.statements.ground.layout → IsRunnable b
can_run h b code none held same = record {
  code = record {
    layout = ap (λ (x : Held). x.expressions.layout) code ∙ (same ∙ sym (ap (λ (x : Held). x.statements.ground.layout) code));
    expressions =
        let ground : (ground_of b.code).expressions ≡ h.statements.ground.expressions = ap (λ (x : Held). x.statements.ground.expressions) code in
        let nodes : length b.code.expressions.nodes ≡ length h.expressions.nodes = ap (λ (x : Held). length x.expressions.nodes) code in
        let all : length (ready_in h) ≡ length h.expressions.nodes = growth.count ready_of h.expressions.nodes in
        omega (arith, held.named, ground, nodes, all);
  };
  bodies = λ k d lt. absurd (let few : length b.actions ≡ 0 = ap length none in omega (arith, lt, few));
}

-- what the parser names is there

parser_fits : (l : Layout) (h : Held) (b : ReadyBlock) (r : ReadyParser) → code_of b ≡ h → IsParserIn h r → IsParserOver l r → (made : Made) → made.layout ≡ l → made.expressions ≡ expressions_in b.code → made.statements ≡ trees_of b.code → FitsParser made r
parser_fits l h b r code within over made same exprs stmts =
    let es : length made.expressions ≡ length (ready_in h) = ap length (exprs ∙ ap ready_in code) in
    let ts : length made.statements ≡ length (trees_in h) = ap length (stmts ∙ ap trees_in code) in
    record {
      headers = subst (λ (x : Layout). IsRange x r.headers) (sym same) over.headers;
      error = subst (λ (x : Layout). HoldsErrors x r.error) (sym same) over.error;
      variables = let v : r.variables < length (trees_in h) = within.variables in omega (arith, v, ts);
      states = λ k d lt. let one : IsStateIn h (get_or r.states k d) = within.states k d lt in record {
        body = let v : (get_or r.states k d).body < length (trees_in h) = one.body in omega (arith, v, ts);
        transition = subst (λ (n : ℕ). FitsTransition n (get_or r.states k d).transition) (sym es) one.transition;
      };
    }

pub parser_made : (syntax : Syntax16) (l : Layout) (shapes : List Shape) (x : Parser16) (start new : Held) (r : ReadyParser) (b : ReadyBlock) → parser_of syntax ≡ Some x → start ≡ record { expressions = expressions.kept l []; statements = statements.kept (record { layout = l; shapes = shapes; expressions = 0 }) [] } → Grows start new
    → Some (seen_parser new r) ≡ ready_parser syntax x → IsParserIn new r → IsParserOver l r → code_of b ≡ new → (IsHeld new → new.expressions.layout ≡ new.statements.ground.layout → IsRunnable b) → IsReadyParser syntax l shapes b r
parser_made syntax l shapes x start new r b at from grows is within over code runs =
    let ground : statements.over 0 new.statements.ground ≡ record { layout = l; shapes = shapes; expressions = 0 } = grows.ground ∙ ap (λ (h : Held). statements.over 0 h.statements.ground) from in
    let there : new.statements.ground.layout ≡ l = ap (λ (g : Ground). g.layout) ground in
    let held : new.expressions.layout ≡ l = grows.layout ∙ ap (λ (h : Held). h.expressions.layout) from in
    record {
      parser = x;
      at = at;
      is = sym is ∙ ap (λ (h : Held). Some (seen_parser h r)) (sym code);
      layout = ap (λ (h : Held). h.statements.ground.layout) code ∙ there;
      shapes = ap (λ (h : Held). h.statements.ground.shapes) code ∙ ap (λ (g : Ground). g.shapes) ground;
      runs = runs grows.held (held ∙ sym there);
      fits = parser_fits l new b r code within over;
    }

-- all blocks

pub are_ready : (syntax : Syntax16) (l : Layout) (shapes : List Shape) (r : ReadyBlocks) → IsReadyControl syntax l shapes Verify r.verify → IsReadyControl syntax l shapes Ingress r.ingress → IsReadyControl syntax l shapes Egress r.egress
    → IsReadyControl syntax l shapes Compute r.compute → IsReadyControl syntax l shapes Deparse r.deparse → IsReadyParser syntax l shapes r.states r.parser → AreReadyBlocks syntax l shapes r
are_ready syntax l shapes r verify ingress egress compute deparse parser = record { controls = each; parser = parser } where
  each : (block : Block) → IsReadyControl syntax l shapes block (block_in r block)
  each Verify = verify
  each Ingress = ingress
  each Egress = egress
  each Compute = compute
  each Deparse = deparse
