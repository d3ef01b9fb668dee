-- More expressions and more nodes leave those that are there as they are.
use Rattle.std.proofs.Common.{◌≡◌, ℕ, ◌<◌, ◌≤◌, List, [], ◌∷◌, ◌++◌, length, Option, Some, None, refl, sym, ap, ◌∙◌, arith}
use Rattle.std.specs.Option.{IfSome}
use Rattle.node_lists.specs.Trees.{Adds}
use Rattle.node_lists.proofs.Growth as growth
use Rattle.v1_core.specs.Ready.{Ready}
use Rattle.v1_core.specs.Nodes.{ready_of}
use Rattle.v1_core.specs.Kept as expressions
use Rattle.v1_ready_blocks.specs.declared.nodes.TestNode.{TestNode}
use Rattle.v1_ready_blocks.specs.declared.nodes.TestNode.TheVariants as test_node
use Rattle.v1_ready_blocks.specs.declared.nodes.Node.{Node}
use Rattle.v1_ready_blocks.specs.declared.nodes.Node.TheVariants as node
use Rattle.v1_ready_blocks.specs.Nodes.{Tree, no_tree, a_test, at, test_of, tree_of, trees, Ground}
use Rattle.v1_ready_blocks.specs.Tests.{plain}
use Rattle.v1_ready_blocks.specs.Kept as statements
use Rattle.v1_ready_blocks.specs.Kept.{needed_by, needed, over, over_node}
use Rattle.v1_ready_program.specs.Seen.{Keeps}
use Rattle.v1_ready_program.proofs.Valuing.{keeps_same, keeps_more}
use Rattle.v1_ready_nodes.specs.Held.{Held, ready_in, trees_in, AgreeBelow, StaysOver, IsHeld, IsOver, Grows}

-- nothing is held

pub none_held : (x : expressions.Kept) (g : Ground) → g.expressions ≡ 0 → IsHeld (record { expressions = x; statements = statements.kept g [] })
none_held x g none = record { stays = λ es fs same. refl; named = omega (arith, none) }

-- growing

pub grows_same : (h : Held) → IsHeld h → Grows h h
grows_same h held = record {
  held = held;
  ready = keeps_same (ready_in h);
  trees = λ i within. refl;
  more = omega arith;
  layout = refl;
  ground = refl;
}

pub grows_further : (a b c : Held) → Grows a b → Grows b c → Grows a c
grows_further a b c first second = record {
  held = second.held;
  ready = keeps_more (ready_in a) (ready_in b) (ready_in c) first.ready second.ready;
  trees = λ i within. let wide : length (trees_in a) ≤ length (trees_in b) = first.more in second.trees i (omega arith) ∙ first.trees i within;
  more = let one : length (trees_in a) ≤ length (trees_in b) = first.more in let two : length (trees_in b) ≤ length (trees_in c) = second.more in omega arith;
  layout = second.layout ∙ first.layout;
  ground = second.ground ∙ first.ground;
}

-- more expressions

agree_kept : (es fs : List Ready) (n : ℕ) → n ≤ length es → Keeps es fs → AgreeBelow n fs es
agree_kept es fs n few keeps i within = keeps.places i (omega arith)

pub grows_ready : (x y : expressions.Kept) (k : statements.Kept) → IsHeld (record { expressions = x; statements = k }) → Keeps (expressions.trees x) (expressions.trees y) → y.layout ≡ x.layout
    → Grows (record { expressions = x; statements = k }) (record { expressions = y; statements = k })
grows_ready x y k held keeps same =
    let es = expressions.trees x in
    let fs = expressions.trees y in
    let named : k.ground.expressions ≤ length es = held.named in
    let longer : length es ≤ length fs = keeps.grows in
    let is : trees fs k.nodes ≡ trees es k.nodes = held.stays fs es (agree_kept es fs k.ground.expressions named keeps) in
    record {
      held = record { stays = held.stays; named = omega arith };
      ready = keeps;
      trees = λ i within. ap (λ ts. at ts i) is;
      more = let as_many : length (trees fs k.nodes) ≡ length (trees es k.nodes) = ap length is in omega arith;
      layout = same;
      ground = refl;
    }

pub place_within : (x : expressions.Kept) (found : Option ℕ) → IfSome found (λ place. place < length x.nodes) → IfSome found (λ place. place < length (expressions.trees x))
place_within x None within = tt
place_within x (Some place) within = let same : length (expressions.trees x) ≡ length x.nodes = growth.count ready_of x.nodes in omega arith

-- one more node

test_same : (n : ℕ) (es fs : List Ready) (ts : List Tree) (t : TestNode) → AgreeBelow (needed_by t n) es fs → test_of es ts t ≡ test_of fs ts t
test_same n es fs ts (test_node.Plain e) same = ap plain (same e (omega arith))
test_same n es fs ts (test_node.Hits table) same = refl
test_same n es fs ts (test_node.Misses table) same = refl
test_same n es fs ts (test_node.Alone of a) same = refl
test_same n es fs ts (test_node.Both a b) same = refl
test_same n es fs ts (test_node.Either a b) same = refl
test_same n es fs ts (test_node.Pair of a b) same = refl
test_same n es fs ts (test_node.Choice c a b) same = refl

tree_same : (n : ℕ) (es fs : List Ready) (ts : List Tree) (x : Node) → AgreeBelow (needed x n) es fs → tree_of es ts x ≡ tree_of fs ts x
tree_same n es fs ts (node.Test of) same = ap a_test (test_same n es fs ts of same)
tree_same n es fs ts (node.Source of) same = refl
tree_same n es fs ts (node.Argument of) same = refl
tree_same n es fs ts (node.Incoming of) same = refl
tree_same n es fs ts (node.Outgoing of) same = refl
tree_same n es fs ts (node.Statement of) same = refl

needs_more : (x : Node) (n : ℕ) → n ≤ needed x n
needs_more (node.Test (test_node.Plain e)) n = omega arith
needs_more (node.Test (test_node.Hits table)) n = omega arith
needs_more (node.Test (test_node.Misses table)) n = omega arith
needs_more (node.Test (test_node.Alone of a)) n = omega arith
needs_more (node.Test (test_node.Both a b)) n = omega arith
needs_more (node.Test (test_node.Either a b)) n = omega arith
needs_more (node.Test (test_node.Pair of a b)) n = omega arith
needs_more (node.Test (test_node.Choice c a b)) n = omega arith
needs_more (node.Source of) n = omega arith
needs_more (node.Argument of) n = omega arith
needs_more (node.Incoming of) n = omega arith
needs_more (node.Outgoing of) n = omega arith
needs_more (node.Statement of) n = omega arith

needs_these : (x : Node) (n many : ℕ) → n ≤ many → IsOver many x → needed x n ≤ many
needs_these (node.Test (test_node.Plain e)) n many few over = omega arith
needs_these (node.Test (test_node.Hits table)) n many few over = omega arith
needs_these (node.Test (test_node.Misses table)) n many few over = omega arith
needs_these (node.Test (test_node.Alone of a)) n many few over = omega arith
needs_these (node.Test (test_node.Both a b)) n many few over = omega arith
needs_these (node.Test (test_node.Either a b)) n many few over = omega arith
needs_these (node.Test (test_node.Pair of a b)) n many few over = omega arith
needs_these (node.Test (test_node.Choice c a b)) n many few over = omega arith
needs_these (node.Source of) n many few over = omega arith
needs_these (node.Argument of) n many few over = omega arith
needs_these (node.Incoming of) n many few over = omega arith
needs_these (node.Outgoing of) n many few over = omega arith
needs_these (node.Statement of) n many few over = omega arith

-- over all expressions the node adds its tree
abbrev pub AddsOver : statements.Kept → statements.Kept → ℕ → Node → Type 0
AddsOver old new place x = (es : List Ready) → Adds (trees es old.nodes) (trees es new.nodes) place (tree_of es (trees es old.nodes) x)

stays_more : (old new : statements.Kept) (place : ℕ) (x : Node) → StaysOver old → AddsOver old new place x → new.ground ≡ over_node x old.ground → StaysOver new
stays_more old new place x stays adds ground es fs same =
    let n = old.ground.expressions in
    let wide : n ≤ needed x n = needs_more x n in
    let count : new.ground.expressions ≡ needed x n = ap (λ (g : Ground). g.expressions) ground in
    let first : trees es old.nodes ≡ trees fs old.nodes = stays es fs (λ i within. same i (omega arith)) in
    (adds es).trees
    ∙ (ap (λ ts. ts ++ tree_of es ts x ∷ []) first
    ∙ (ap (λ t. trees fs old.nodes ++ t ∷ []) (tree_same n es fs (trees fs old.nodes) x (λ i within. same i (omega arith)))
    ∙ sym (adds fs).trees))

pub grows_tree : (e : expressions.Kept) (old new : statements.Kept) (place : ℕ) (x : Node) → IsHeld (record { expressions = e; statements = old }) → IsOver (length (expressions.trees e)) x → AddsOver old new place x → new.ground ≡ over_node x old.ground
    → Grows (record { expressions = e; statements = old }) (record { expressions = e; statements = new })
grows_tree e old new place x held named adds ground =
    let es = expressions.trees e in
    let n = old.ground.expressions in
    let count : new.ground.expressions ≡ needed x n = ap (λ (g : Ground). g.expressions) ground in
    let few : needed x n ≤ length es = needs_these x n (length es) held.named named in
    record {
      held = record { stays = stays_more old new place x held.stays adds ground; named = omega arith };
      ready = keeps_same es;
      trees = growth.adds_keeps (trees es old.nodes) (trees es new.nodes) place (tree_of es (trees es old.nodes) x) (adds es) no_tree;
      more = omega (arith, growth.adds_len (trees es old.nodes) (trees es new.nodes) place (tree_of es (trees es old.nodes) x) (adds es));
      layout = refl;
      ground = ap (over 0) ground;
    }
