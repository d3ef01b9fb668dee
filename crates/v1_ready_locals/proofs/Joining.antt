-- A control is made ready of its parts.
use Rattle.std.proofs.Common.{◌≡◌, ℕ, ◌<◌, ◌≤◌, List, [], ◌∷◌, length, map, All, Option, Some, None, option_map, refl, sym, ap, ◌∙◌, arith}
use Rattle.std.specs.Borrow.{Bor}
use Rattle.std.specs.Prelude.{IfSome, filter_map}
use Rattle.p416_syntax.specs.declared.controls.Table16.{Table16}
use Rattle.p416_syntax.specs.declared.controls.Control16.{Control16}
use Rattle.p416_syntax.specs.declared.program.Decl16.{Decl16}
use Rattle.p416_syntax.specs.declared.program.Syntax16.{Syntax16}
use Rattle.p416_syntax.specs.Tree.{Stmt16}
use Rattle.p416_syntax.specs.Scopes.{Scope}
use Rattle.p416_syntax.specs.Declarations.{layouts_of, table_in}
use Rattle.v1_core.specs.declared.block.Block.{Block as BlockName}
use Rattle.v1_core.specs.Layouts.{Layout}
use Rattle.v1_block_laws.specs.Variables.{scope_in_control, control_from, body_from, control_seats}
use Rattle.v1_core.specs.Ready.{Ready}
use Rattle.v1_core.specs.Nodes.{ready_at}
use Rattle.v1_ready_forms.specs.Named.{NamedSeat}
use Rattle.v1_ready_blocks.specs.Nodes.{as_statement}
use Rattle.v1_ready_blocks.specs.Tables.{Table}
use Rattle.v1_ready_blocks.specs.Statements.{Statement}
use Rattle.v1_ready_blocks.specs.Blocks.{Block}
use Rattle.v1_block_run.specs.declared.block.ReadyAction.{ReadyAction}
use Rattle.v1_block_run.specs.declared.block.ReadyTable.{ReadyTable}
use Rattle.v1_block_run.specs.Blocks.{seen_chosen}
use Rattle.v1_ready_statements.specs.Around.{Around, ActionPlace, action_places}
use Rattle.v1_ready_statements.specs.Statements.{ready_of_statement}
use Rattle.v1_ready_statements.specs.Blocks.{all_of, body_ready, parameter_slots, table_ready, starts_from, initials_from, joined, whole_body, with_all, around_control, ready_control}
use Rattle.v1_ready_nodes.specs.Held.{Held, ready_in, trees_in, Grows}
use Rattle.v1_ready_operands.specs.declared.callees.OwnAction.{OwnAction}
use Rattle.v1_ready_operands.specs.Callees.{seen_action}
use Rattle.v1_ready_bodies.specs.declared.standing.Standing.{Standing}
use Rattle.v1_ready_bodies.specs.declared.variables.OwnVariable.{OwnVariable}
use Rattle.v1_ready_bodies.specs.Variables.{variables_ready}
use Rattle.v1_ready_bodies.proofs.Fronts.{all_mapped}
use Rattle.v1_ready_bodies.proofs.Grown.{all_kept, all_wider}
use Rattle.v1_ready_tables.specs.declared.names.TableNames.{TableNames}
use Rattle.v1_ready_tables.specs.Seen.{seen_table, seen_tables, IsTableIn}
use Rattle.v1_ready_tables.specs.Tables.{table_by, AreNames}
use Rattle.v1_ready_tables.proofs.Telling.{tables_are}
use Rattle.v1_ready_locals.specs.Seen.{seen_body, seen_bodies, IsActionIn}
use Rattle.v1_ready_locals.specs.Owned.{seen_own, owned}
use Rattle.v1_ready_locals.proofs.Starting.{variables_are}

-- what was made stays

module _ (l : Layout) (h g : Held) (grows : Grows h g) where
  pub body_kept : (a : ReadyAction) → IsActionIn l h a → seen_body g a ≡ seen_body h a
  body_kept a within = ap as_statement (grows.trees a.body within.body)

  pub body_wider : (a : ReadyAction) → IsActionIn l h a → IsActionIn l g a
  body_wider a within = record { body = let more : length (trees_in h) ≤ length (trees_in g) = grows.more in let here : a.body < length (trees_in h) = within.body in omega arith; slots = within.slots }

  pub actions_kept : (rows : Option (List ReadyAction)) → IfSome rows (All (IsActionIn l h)) → option_map (seen_bodies g) rows ≡ option_map (seen_bodies h) rows
  actions_kept None within = refl
  actions_kept (Some rows) within = ap Some (all_kept seen_body (IsActionIn l) h g body_kept body_wider rows within)

  pub actions_wider : (rows : Option (List ReadyAction)) → IfSome rows (All (IsActionIn l h)) → IfSome rows (All (IsActionIn l g))
  actions_wider None within = tt
  actions_wider (Some rows) within = all_wider seen_body (IsActionIn l) h g body_kept body_wider rows within

abbrev sees_key : Held → ℕ → Ready
sees_key h place = ready_at (ready_in h) place

abbrev IsKeyIn : Held → ℕ → Type 0
IsKeyIn h place = place < length (ready_in h)

abbrev with_keys : ReadyTable → List Ready → Table
with_keys t keys = record { number = t.number; keys = keys; direct = t.direct; actions = t.actions; default = option_map seen_chosen t.default }

module _ (h g : Held) (grows : Grows h g) where
  key_kept : (place : ℕ) → IsKeyIn h place → sees_key g place ≡ sees_key h place
  key_kept place within = grows.ready.places place within

  key_wider : (place : ℕ) → IsKeyIn h place → IsKeyIn g place
  key_wider place within = let more : length (ready_in h) ≤ length (ready_in g) = grows.ready.grows in omega arith

  table_kept : (t : ReadyTable) → IsTableIn h t → seen_table g t ≡ seen_table h t
  table_kept t within = ap (with_keys t) (all_kept sees_key IsKeyIn h g key_kept key_wider t.keys within.keys)

  table_wider : (t : ReadyTable) → IsTableIn h t → IsTableIn g t
  table_wider t within = record { keys = all_wider sees_key IsKeyIn h g key_kept key_wider t.keys within.keys }

  pub tables_kept : (rows : Option (List ReadyTable)) → IfSome rows (All (IsTableIn h)) → option_map (seen_tables g) rows ≡ option_map (seen_tables h) rows
  tables_kept None within = refl
  tables_kept (Some rows) within = ap Some (all_kept seen_table IsTableIn h g table_kept table_wider rows within)

  pub tables_wider : (rows : Option (List ReadyTable)) → IfSome rows (All (IsTableIn h)) → IfSome rows (All (IsTableIn g))
  tables_wider None within = tt
  tables_wider (Some rows) within = all_wider seen_table IsTableIn h g table_kept table_wider rows within

-- the types are those at the top of another scope
pub types_there : (p : Standing) (top : Bor (List Decl16)) → p.types.now ≡ layouts_of p.scope.top.now → top ≡ p.scope.top → p.types.now ≡ layouts_of top.now
types_there p top is same = is ∙ sym (ap (λ (t : Bor (List Decl16)). layouts_of t.now) same)

-- from all parts, where each is told by what is made of a control

pub parts_are : (bodies bodies' : Option (List Statement)) (ps : List (List ℕ)) (tables tables' : Option (List Table)) (body body' : Option Statement) → bodies ≡ bodies' → tables ≡ tables' → body ≡ body' → with_all bodies ps tables body ≡ with_all bodies' ps tables' body'
parts_are bodies bodies' ps tables tables' body body' a b c =
    ap (λ (x : Option (List Statement)). with_all x ps tables body) a
    ∙ (ap (λ (x : Option (List Table)). with_all bodies' ps x body) b
    ∙ ap (λ (x : Option Statement). with_all bodies' ps tables' x) c)

mapped : {A B C : Type 0} (f : B → C) (h : A → B) (xs : List A) → map (λ (x : A). f (h x)) xs ≡ map f (map h xs)
mapped f h [] = refl
mapped f h (x ∷ xs) = ap (λ ys. f (h x) ∷ ys) (mapped f h xs)

-- (over lists without references)
abbrev block_by : Around → Scope → List NamedSeat → ℕ → Control16 → ℕ → List ActionPlace → List Table16 → Option Block
block_by b s seats n c number actions tables =
    with_all (all_of (body_ready b s seats) actions) (map (parameter_slots b) actions) (all_of (table_ready b s seats) tables)
    (whole_body (joined (starts_from b s n c.locals) (initials_from b s seats n c.locals)) (ready_of_statement b s seats number c.body))

module _ (b : Around) (names : TableNames) (s : Scope) (seats : List NamedSeat) (actions : List OwnAction) (tables : List (Bor Table16)) (vs : List OwnVariable) (n number : ℕ) (c : Control16) where
  abbrev pub told : Option Block
  told =
      with_all (all_of (λ (a : OwnAction). body_ready b s seats (seen_action a)) actions) (map (λ (a : OwnAction). parameter_slots b (seen_action a)) actions)
      (all_of (λ (t : Bor Table16). table_by names s seats t.now) tables) (variables_ready b s seats vs (ready_of_statement b s seats number c.body))

  plain : AreNames b names → map seen_own vs ≡ owned s n c.locals → told ≡ block_by b s seats n c number (map seen_action actions) (map (λ (t : Bor Table16). t.now) tables)
  plain are own =
      let rest = ready_of_statement b s seats number c.body in
      let ps = map (parameter_slots b) (map seen_action actions) in
      let bodies = all_of (λ (a : OwnAction). body_ready b s seats (seen_action a)) actions in
      let bodies' = all_of (body_ready b s seats) (map seen_action actions) in
      let ts = all_of (λ (t : Bor Table16). table_by names s seats t.now) tables in
      let ts' = all_of (table_ready b s seats) (map (λ (t : Bor Table16). t.now) tables) in
      let body = variables_ready b s seats vs rest in
      let body' = whole_body (joined (starts_from b s n c.locals) (initials_from b s seats n c.locals)) rest in
      ap (λ (x : List (List ℕ)). with_all bodies x ts body) (mapped (parameter_slots b) seen_action actions)
      ∙ parts_are bodies bodies' ps ts ts' body body' (all_mapped (body_ready b s seats) seen_action actions)
      (all_mapped (table_by names s seats) (λ (t : Bor Table16). t.now) tables ∙ tables_are b names s seats (map (λ (t : Bor Table16). t.now) tables) are)
      (variables_are b s seats n c.locals vs rest own)

-- that is the ready control
pub control_is : (syntax : Syntax16) (block : BlockName) (c : Control16) (b : Around) (names : TableNames) (s : Scope) (seats : List NamedSeat) (actions : List OwnAction) (tables : List (Bor Table16)) (vs : List OwnVariable) (number : ℕ) → b ≡ around_control syntax c → AreNames b names → s ≡ scope_in_control syntax c
    → seats ≡ control_seats syntax block c → map seen_action actions ≡ action_places (scope_in_control syntax c) (control_from syntax c) c.locals → map (λ (t : Bor Table16). t.now) tables ≡ filter_map table_in c.locals → map seen_own vs ≡ owned (scope_in_control syntax c) (control_from syntax c) c.locals
    → number ≡ body_from syntax c → told b names s seats actions tables vs (control_from syntax c) number c ≡ ready_control syntax block c
control_is syntax block c b names s seats actions tables vs number around are scope seated acts tabs vars body =
    let n = control_from syntax c in
    let acts' = map seen_action actions in
    let tabs' = map (λ (t : Bor Table16). t.now) tables in
    let b' = around_control syntax c in
    let s' = scope_in_control syntax c in
    let seats' = control_seats syntax block c in
    plain b names s seats actions tables vs n number c are (vars ∙ ap (λ (x : Scope). owned x n c.locals) (sym scope))
    ∙ (ap (λ (x : Around). block_by x s seats n c number acts' tabs') around
    ∙ (ap (λ (x : Scope). block_by b' x seats n c number acts' tabs') scope
    ∙ (ap (λ (x : List NamedSeat). block_by b' s' x n c number acts' tabs') seated
    ∙ (ap (λ (x : List ActionPlace). block_by b' s' seats' n c number x tabs') acts
    ∙ (ap (λ (x : List Table16). block_by b' s' seats' n c number b'.actions x) tabs
    ∙ ap (λ (x : ℕ). block_by b' s' seats' n c x b'.actions (filter_map table_in c.locals)) body)))))

-- the statements behind the variables
pub body_told : (b : Around) (s t : Scope) (seats there : List NamedSeat) (vs : List OwnVariable) (n : ℕ) (view x : Stmt16) (rest r : Option Statement) → t ≡ s → there ≡ seats → view ≡ x → rest ≡ ready_of_statement b s seats n view → r ≡ variables_ready b t there vs rest
    → r ≡ variables_ready b s seats vs (ready_of_statement b s seats n x)
body_told b s t seats there vs n view x rest r scope seated viewed is so =
    so
    ∙ (ap (λ (y : Scope). variables_ready b y there vs rest) scope
    ∙ (ap (λ (y : List NamedSeat). variables_ready b s y vs rest) seated
    ∙ ap (variables_ready b s seats vs) (is ∙ ap (ready_of_statement b s seats n) viewed)))

-- in a scope that is the same

pub tables_here : (names : TableNames) (s t : Scope) (seats there : List NamedSeat) (tables : List (Bor Table16)) (r : Option (List Table)) → s ≡ t → seats ≡ there → r ≡ all_of (λ (x : Bor Table16). table_by names s seats x.now) tables → r ≡ all_of (λ (x : Bor Table16). table_by names t there x.now) tables
tables_here names s t seats there tables r scope seated is =
    is ∙ (ap (λ (y : Scope). all_of (λ (x : Bor Table16). table_by names y seats x.now) tables) scope ∙ ap (λ (y : List NamedSeat). all_of (λ (x : Bor Table16). table_by names t y x.now) tables) seated)

pub body_here : (b : Around) (s t : Scope) (seats there : List NamedSeat) (vs : List OwnVariable) (n : ℕ) (x : Stmt16) (r : Option Statement) → s ≡ t → seats ≡ there → r ≡ variables_ready b s seats vs (ready_of_statement b s seats n x) → r ≡ variables_ready b t there vs (ready_of_statement b t there n x)
body_here b s t seats there vs n x r scope seated is =
    is ∙ (ap (λ (y : Scope). variables_ready b y seats vs (ready_of_statement b y seats n x)) scope ∙ ap (λ (y : List NamedSeat). variables_ready b t y vs (ready_of_statement b t y n x)) seated)
