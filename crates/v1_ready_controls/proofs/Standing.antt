-- How a control stands in a program, and what its calls and its tables name.
use Rattle.std.proofs.Common.{◌≡◌, ℕ, ◌+◌, ◌<◌, List, [], length, get_or, map, flat_map, All, sym, subst, ap, ◌∙◌, arith}
use Rattle.std.specs.Borrow.{Bor}
use Rattle.std.specs.Prelude.{filter_map, codes}
use Rattle.state_store.specs.declared.shapes.Shape.{Shape}
use Rattle.node_lists.proofs.Growth as growth
use Rattle.name_numbers.specs.Names.{find_name}
use Rattle.p416_syntax.specs.declared.controls.Local.{Local}
use Rattle.p416_syntax.specs.declared.controls.Control16.{Control16}
use Rattle.p416_syntax.specs.declared.program.Decl16.{Decl16}
use Rattle.p416_syntax.specs.declared.program.Syntax16.{Syntax16}
use Rattle.p416_syntax.specs.Names.{Name}
use Rattle.p416_syntax.specs.Scopes.{Scope}
use Rattle.p416_syntax.specs.Declarations.{action_in, control_scope, layouts_of, top_scope, table_in}
use Rattle.p416_syntax.specs.Main.{positions_from}
use Rattle.p416_scopes.specs.Seen.{seen_scope}
use Rattle.v1_core.specs.declared.block.Block.{Block as BlockName}
use Rattle.v1_core.specs.Numbered as numbered
use Rattle.v1_core.specs.Slots.{local_kinds}
use Rattle.v1_core.specs.Signatures.{key_scope, own_object, table_names}
use Rattle.v1_core.specs.Blocks.{var_in}
use Rattle.v1_core.specs.Programs.{frame_kinds, first_start}
use Rattle.v1_seats.specs.Seen.{seen_seat}
use Rattle.v1_seats.specs.Frame.{seats_from}
use Rattle.p416_signature.specs.internal.Gathered.{objects_seen, AreObjects}
use Rattle.v1_core.specs.Layouts.{Layout}
use Rattle.v1_core.specs.Nodes.{ready_of}
use Rattle.v1_core.specs.Kept as expressions
use Rattle.v1_ready_blocks.specs.Nodes.{Ground, tree_of}
use Rattle.v1_ready_blocks.specs.Kept as statements
use Rattle.v1_ready_forms.specs.Named.{seats_in}
use Rattle.v1_block_laws.specs.Variables.{scope_in_control, control_from, locals_from, control_roots, own_names}
use Rattle.v1_ready_program.specs.Seen.{seen_seats}
use Rattle.v1_block_seats.specs.declared.numbers.Variable.{Variable}
use Rattle.v1_block_seats.specs.Seen.{seen_variable}
use Rattle.v1_block_seats.specs.Numbers.{actions_from}
use Rattle.v1_block_run.specs.declared.block.ReadyBlock.{ReadyBlock}
use Rattle.v1_block_tables.specs.Parts.{CanApply}
use Rattle.v1_ready_statements.specs.Around.{Around, ActionPlace}
use Rattle.v1_ready_statements.specs.Blocks.{around_control}
use Rattle.v1_ready_nodes.specs.Held.{Held, ready_in, trees_in, IsHeld, Grows}
use Rattle.v1_ready_operands.specs.declared.callees.Callees.{Callees}
use Rattle.v1_ready_operands.specs.Callees.{around_of, seen_action, action_name, table_name, AreCallees}
use Rattle.v1_ready_operands.proofs.Naming.{action_numbered}
use Rattle.v1_ready_tables.specs.declared.names.TableNames.{TableNames}
use Rattle.v1_ready_tables.specs.Seen.{IsTableIn}
use Rattle.v1_ready_tables.specs.Tables.{AreNames}
use Rattle.v1_ready_controls.specs.declared.program.ProgramParts.{ProgramParts}
use Rattle.v1_ready_controls.specs.declared.control.Control.{Control}
use Rattle.v1_ready_controls.specs.declared.whole.Parts.{Parts}
use Rattle.v1_ready_controls.specs.Program.{slot_in_standard, IsProgram}
use Rattle.v1_ready_locals.specs.Seen.{IsActionIn, code_of, IsReadyOver}
use Rattle.v1_ready_controls.specs.internal.Declared.{AreDeclared, IsControl, ArePartsIn}
use Rattle.v1_ready_locals.specs.internal.Zipped.{number_in, zip_actions, zip_variables}
use Rattle.v1_ready_locals.proofs.Owning.{actions_are, variables_are}

pub scope_is : (p : ProgramParts) (c : Control16) (s : Scope) (positions : List ℕ) → IsProgram p → positions ≡ positions_from 0 p.places.now c.name → s ≡ control_scope (top_scope p.top.now positions) c → s ≡ scope_in_control p.syntax.now c
scope_is p c s positions are at is =
    is
    ∙ (ap (λ (ps : List ℕ). control_scope (top_scope p.top.now ps) c) (at ∙ ap (λ (main : List Name). positions_from 0 main c.name) are.places)
    ∙ ap (λ (ds : List Decl16). control_scope (top_scope ds (positions_from 0 p.syntax.now.main c.name)) c) are.top)

-- the types are those at the top of its scope
pub types_over : (p : ProgramParts) → IsProgram p → (top : Bor (List Decl16)) → top ≡ p.top → p.types.now ≡ layouts_of top.now
types_over p are top is = are.types ∙ sym (ap layouts_of (ap (λ (t : Bor (List Decl16)). t.now) is ∙ are.top))

-- the keys stand in the scope of keys
pub keys_over : (s t k : Scope) → s ≡ t → k ≡ key_scope t → k ≡ key_scope s
keys_over s t k at is = is ∙ sym (ap key_scope at)

-- a control from its parts
module _ (p : ProgramParts) (block : BlockName) (c : Control16) (x : Control) (s : Scope) (first : ℕ) (locals : List Local) (variables : List Variable) (actions : List ℕ) (mine : locals ≡ c.locals) (scope : s ≡ scope_in_control p.syntax.now c) (from : first ≡ control_from p.syntax.now c) where
  here : {X : Type 0} (f : Scope → ℕ → List Local → X) → f s first locals ≡ f (scope_in_control p.syntax.now c) (control_from p.syntax.now c) c.locals
  here f = ap (λ (y : Scope). f y first locals) scope ∙ (ap (λ (n : ℕ). f (scope_in_control p.syntax.now c) n locals) from ∙ ap (f (scope_in_control p.syntax.now c) (control_from p.syntax.now c)) mine)

  pub stands : map seen_variable variables ≡ locals_from s first locals → actions ≡ actions_from s first locals → x.body ≡ first + length (flat_map (local_kinds s) locals) → seen_scope x.scope ≡ s → x.scope.top ≡ p.top → seen_scope x.keys ≡ key_scope (scope_in_control p.syntax.now c)
      → x.keys.top ≡ p.top → seen_seats x.seats ≡ seats_in p.syntax.now (control_roots block c) (own_names (map seen_variable variables)) → AreDeclared variables actions locals x.own → IsControl p block c x
  stands vars acts body at top keys keys_top seats own =
      let vars' : map seen_variable variables ≡ locals_from (scope_in_control p.syntax.now c) (control_from p.syntax.now c) c.locals = vars ∙ here locals_from in
      let acts' : actions ≡ actions_from (scope_in_control p.syntax.now c) (control_from p.syntax.now c) c.locals = acts ∙ here actions_from in
      record {
        scope = at ∙ scope;
        scope_top = top;
        keys = keys;
        keys_top = keys_top;
        seats = seats ∙ ap (λ (vs : List numbered.Variable). seats_in p.syntax.now (control_roots block c) (own_names vs)) vars';
        variables = own.variables ∙ (ap (λ (ls : List Local). zip_variables (map number_in variables) (filter_map var_in ls)) mine ∙ variables_are (scope_in_control p.syntax.now c) (control_from p.syntax.now c) variables c.locals vars');
        actions = own.actions ∙ (ap (λ (ls : List Local). zip_actions actions (filter_map action_in ls)) mine ∙ (ap (λ (ns : List ℕ). zip_actions ns (filter_map action_in c.locals)) acts' ∙ actions_are (scope_in_control p.syntax.now c) (control_from p.syntax.now c) c.locals));
        action_names = own.action_names;
        tables = own.tables ∙ ap (filter_map table_in) mine;
        table_names = own.table_names;
        objects = own.objects ∙ ap (filter_map own_object) mine;
        body = body ∙ here (λ y n ls. n + length (flat_map (local_kinds y) ls));
      }

-- what calls and tables name
module _ (p : ProgramParts) (is : IsProgram p) (block : BlockName) (c : Control16) (x : Control) (stand : IsControl p block c x) (k : Callees) (syntax : k.syntax.now ≡ p.syntax.now) (locals : k.locals.now ≡ c.locals) (actions : k.actions.now ≡ x.own.actions.items) where
  pub around_is : around_of k ≡ around_control p.syntax.now c
  around_is =
      ap (λ (y : Syntax16). around y k.locals.now (map seen_action k.actions.now)) syntax
      ∙ (ap (λ (ls : List Local). around p.syntax.now ls (map seen_action k.actions.now)) locals
      ∙ ap (around p.syntax.now c.locals) (ap (map seen_action) actions ∙ stand.actions))
    where
      around : Syntax16 → List Local → List ActionPlace → Around
      around y ls acts = record { syntax = y; locals = ls; actions = acts }

  pub callees_are : k.action_names.now ≡ x.own.action_names → k.tables.now ≡ x.own.table_names → k.own_objects.now ≡ x.own.objects → k.objects.now ≡ p.objects.now → k.seats.now ≡ p.seats.now → k.checksum_error ≡ p.checksum_error → k.packet_length ≡ p.packet_length → AreCallees k
  callees_are names tables own objects seats checksum length = record {
    names = names ∙ (stand.action_names ∙ sym (ap (λ acts. map action_name (map seen_action acts)) actions));
    tables = tables ∙ (stand.table_names ∙ ap (map table_name) (stand.tables ∙ sym (ap (filter_map table_in) locals)));
    own = ap objects_seen own ∙ (stand.objects ∙ sym (ap (filter_map own_object) locals));
    objects = subst (λ (y : Syntax16). AreObjects y k.objects.now) (sym syntax) (subst (AreObjects p.syntax.now) (sym objects) is.objects);
    seats = ap (map seen_seat) seats ∙ (is.seats ∙ sym (ap (λ (y : Syntax16). seats_from (layouts_of y.decls) (frame_kinds y) first_start) syntax));
    checksum_error = checksum ∙ (is.checksum_error ∙ sym (ap (λ (y : Syntax16). slot_in_standard y (codes "checksum_error")) syntax));
    packet_length = length ∙ (is.packet_length ∙ sym (ap (λ (y : Syntax16). slot_in_standard y (codes "packet_length")) syntax));
  }

  pub names_are : (n : TableNames) → AreCallees k → n.tables.now ≡ p.tables.now → n.own.now ≡ x.own.objects → n.objects.now ≡ p.objects.now → n.actions.now ≡ x.own.action_names → k.action_names.now ≡ x.own.action_names → AreNames (around_of k) n
  names_are n are tables own objects named same = record {
    tables = tables ∙ (is.tables ∙ sym (ap table_names syntax));
    own = ap objects_seen own ∙ (stand.objects ∙ sym (ap (filter_map own_object) locals));
    objects = subst (λ (y : Syntax16). AreObjects y n.objects.now) (sym syntax) (subst (AreObjects p.syntax.now) (sym objects) is.objects);
    actions = λ text. ap (λ (ns : List Name). find_name ns text) (named ∙ sym same) ∙ action_numbered k are text;
  }

-- a block of these parts can be run

abbrev pub block_over : Held → Parts → ReadyBlock
block_over h p = record { code = record { expressions = h.expressions; statements = h.statements }; actions = p.actions; tables = p.tables; body = p.body }

pub can_apply : (h : Held) (p : Parts) (b : ReadyBlock) → b ≡ block_over h p → IsHeld h → h.expressions.layout ≡ h.statements.ground.layout → ArePartsIn h.statements.ground.layout h p → CanApply b
can_apply h p b is held same parts = subst CanApply (sym is) (record {
  runnable = record {
    code = record { layout = same; expressions = omega (arith, held.named, many) };
    bodies = λ k d lt. let one : IsActionIn h.statements.ground.layout h (get_or p.actions k d) = parts.actions k d lt in record { body = omega (arith, one.body, nodes) };
  };
  body = omega (arith, parts.body, nodes);
  keys = λ k d lt. let one : IsTableIn h (get_or p.tables k d) = parts.tables k d lt in record { keys = subst (λ (n : ℕ). All (λ place. place < n) (get_or p.tables k d).keys) many one.keys };
  parameters = λ k d lt. let one : IsActionIn h.statements.ground.layout h (get_or p.actions k d) = parts.actions k d lt in record { slots = one.slots };
}) where
  many : length (ready_in h) ≡ length h.expressions.nodes
  many = growth.count ready_of h.expressions.nodes

  nodes : length (trees_in h) ≡ length h.statements.nodes
  nodes = growth.count (tree_of (ready_in h)) h.statements.nodes

-- over what is held behind its parts it is one of this layout and these shapes
pub ready_over : (l : Layout) (shapes : List Shape) (start new : Held) (p : Parts) (b : ReadyBlock) → start ≡ record { expressions = expressions.kept l []; statements = statements.kept (record { layout = l; shapes = shapes; expressions = 0 }) [] } → Grows start new → ArePartsIn l new p → code_of b ≡ new
    → (IsHeld new → new.expressions.layout ≡ new.statements.ground.layout → ArePartsIn new.statements.ground.layout new p → CanApply b) → IsReadyOver l shapes b
ready_over l shapes start new p b from grows parts code can =
    let ground : statements.over 0 new.statements.ground ≡ record { layout = l; shapes = shapes; expressions = 0 } = grows.ground ∙ ap (λ (h : Held). statements.over 0 h.statements.ground) from in
    let there : new.statements.ground.layout ≡ l = ap (λ (g : Ground). g.layout) ground in
    let held : new.expressions.layout ≡ l = grows.layout ∙ ap (λ (h : Held). h.expressions.layout) from in
    record {
      layout = ap (λ (h : Held). h.statements.ground.layout) code ∙ there;
      shapes = ap (λ (h : Held). h.statements.ground.shapes) code ∙ ap (λ (g : Ground). g.shapes) ground;
      applies = can grows.held (held ∙ sym there) (subst (λ (x : Layout). ArePartsIn x new p) (sym there) parts);
    }
