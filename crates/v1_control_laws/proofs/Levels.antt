-- The actions of a control do what its ready ones do, however deep calls nest.
use Rattle.std.proofs.Common.{◌≡◌, ◌≢◌, ◌⊎◌, inl, inr, ℕ, zero, suc, ◌+◌, ◌≤◌, Bool, Option, Some, None, IfSome, List, [], ◌∷◌, ◌++◌, length, map, get_or, refl, sym, ap, ◌∙◌, subst, arith, append_assoc, length-append}
use Rattle.std.proofs.lemmas.List.{length-map}
use Rattle.digraph.specs.Graphs.{successors, IsEdge, Reaches}
use Rattle.p416_syntax.specs.declared.node.CaseLabel.{CaseLabel}
use Rattle.p416_syntax.specs.declared.parts.Param.{Param}
use Rattle.p416_syntax.specs.declared.controls.Action16.{Action16}
use Rattle.p416_syntax.specs.declared.controls.Control16.{Control16}
use Rattle.p416_syntax.specs.declared.program.Decl16.TheVariants as decl
use Rattle.p416_syntax.specs.Names.{Name}
use Rattle.p416_syntax.specs.Kinds.{Kind}
use Rattle.p416_syntax.specs.Scopes.{Scope}
use Rattle.p416_syntax.specs.Uses.{Use}
use Rattle.p416_syntax.specs.Applications.{call_graph}
use Rattle.p416_syntax.specs.Declarations.{parameter_name, action_scope}
use Rattle.p416_syntax.specs.Breaks.{scope_of, program_rules, BreaksNone}
use Rattle.p416_syntax.specs.Main.{positions_of}
use Rattle.p416_syntax.specs.Unknown.{declared_name}
use Rattle.v1_core.specs.declared.block.Block.{Block as BlockName}
use Rattle.v1_core.specs.Values.{Value}
use Rattle.v1_core.specs.Frames as sem
use Rattle.v1_core.specs.Frames.{Frame}
use Rattle.v1_core.specs.Slots.{variable_kinds, parameter_kind, kinds_in}
use Rattle.v1_core.specs.Surroundings as meaning
use Rattle.v1_core.specs.Surroundings.{Setting, Root, action_named, action_called}
use Rattle.v1_core.specs.Numbered.{Variable, InScope, named_values, frame_in}
use Rattle.v1_core.specs.Statements.{no_label}
use Rattle.v1_core.specs.Statements as sem_statements
use Rattle.v1_core.specs.Blocks.{act_at, around_control, control_at}
use Rattle.v1_core.specs.Cells.{Cells}
use Rattle.v1_core.specs.Programs.{numbered16}
use Rattle.v1_core.specs.Scopes.{AreApart}
use Rattle.v1_ready_forms.specs.Named.{NamedSeat, seat_of_name, seat_of_root, seat_of_variable, seats_in}
use Rattle.v1_ready_laws.specs.Rules.{NamesSeated}
use Rattle.v1_ready_blocks.specs.Moments.{Moment}
use Rattle.v1_ready_blocks.specs.Tests as ready_tests
use Rattle.v1_ready_blocks.specs.Tests.{World}
use Rattle.v1_ready_blocks.specs.Statements.{Statement, nothing, run}
use Rattle.v1_ready_blocks.specs.Blocks.{Block, acted}
use Rattle.v1_block_laws.specs.Variables.{parameters_from, scope_in_control, control_from, control_variables, control_roots, control_seats, action_in_control}
use Rattle.v1_block_laws.specs.Apart.{AreOutside}
use Rattle.v1_block_laws.specs.Standing.{AreOfKinds}
use Rattle.v1_block_laws.proofs.Standing.{apart}
use Rattle.v1_block_laws.proofs.Apart.{parameters_apart, body_scope}
use Rattle.v1_block_laws.proofs.Blocks.{action_seated}
use Rattle.v1_value_laws.proofs.Scopes.{top_is_fine, control_is_fine, action_is_fine}
use Rattle.v1_ready_statements.specs.Around.{Around, Found, action_found, table_found, declared_seat}
use Rattle.v1_ready_statements.specs.Statements.{ready_of_statement}
use Rattle.v1_ready_statements.specs.Blocks as ready
use Rattle.v1_ready_statements.specs.Blocks.{parameter_seats, body_ready, ready_control}
use Rattle.v1_statement_laws.specs.Behind.{Shown, LeftBehind, Within, declared_from}
use Rattle.v1_statement_laws.specs.Leaves.{AppliedShows, called_names, ActionDoes}
use Rattle.v1_statement_laws.proofs.Closing.{inner_counted, closed_shows}
use Rattle.v1_statement_laws.proofs.Induction.{all_do}
use Rattle.v1_control_laws.specs.Controls.{Waiting, calls_among, ActionsDo, TablesDo, InActions, ActionLeavesDo, BodiesMeet}
use Rattle.v1_control_laws.proofs.Values.{Kept}
use Rattle.v1_control_laws.specs.Erring.{BodiesFree}
use Rattle.v1_control_laws.proofs.Statements.{acts_kept}
use Rattle.v1_control_laws.proofs.Emitted.{bodies_meet}
use Rattle.v1_control_laws.proofs.Seats.{statement_same}
use Rattle.v1_control_laws.proofs.Places.{end_of, places_declared, found_called, found_named, found_first, found_stands, found_apart, made_first, among, reaches_further, never_back, calls_acyclic}
use Rattle.v1_control_laws.proofs.Veiled.{renamed, renamed_both, apart_both, outside_both, between_outside, narrower_outside, seats_same, hidden_seated, members, IsAway, RootsGiven, roots_given, Hides, hidden_kept, hidden_same}
use Rattle.v1_control_laws.proofs.Running.{control_parts, locals_stand, at_some}

-- no error comes

abbrev Runs : sem.Moment → Type 0
Runs m = m.stopped ≡ None

abbrev Any : sem.Reference → Type 0
Any r = Unit {0}

running_kept : (b : meaning.Surroundings) → Kept b ⊥ Runs Any
running_kept b = record {
  nothing_good = tt;
  names = λ f text. tt;
  steps = λ r step g. tt;
  slices = λ r s g. tt;
  puts = λ r v m g h. h;
  inner = λ v m h. h;
  standard = λ word v m h. h;
  requests = λ kind r m h. h;
  emits = λ v m h. h;
  raises = λ may e m h. absurd may;
  others = λ m n same emitted stopped h. stopped ∙ h;
}

-- the seats of the parameters of an action
parameters_seated : (b : Around) (n : ℕ) (parameters : List Param) (seats : List NamedSeat) → parameter_seats b n parameters seats ≡ map (seat_of_variable b.syntax) (parameters_from n parameters) ++ seats
parameters_seated b n [] seats = refl
parameters_seated b n (p ∷ parameters) seats = ap (λ (l : List NamedSeat). declared_seat b p.name n l) (parameters_seated b (suc n) parameters seats)

module _ (c : Setting) (block : BlockName) (k : Control16) (accepted : BreaksNone c.syntax program_rules) (stands : control_at c.syntax block ≡ Some k) (r : Block) (is : ready_control c.syntax block k ≡ Some r) (root : Root) (roots : List Root) (rooted : control_roots block k ≡ root ∷ roots) (free : BodiesFree ⊥ (around_control c block k)) (tests : List (Use → Bool)) (leaves : ActionLeavesDo tests (around_control c block k) (ready.around_control c.syntax k)) (meets : BodiesMeet tests (around_control c block k) (ready.around_control c.syntax k) (call_graph (scope_of c.syntax (decl.Control k)) k)) where
  abbrev S : meaning.Surroundings
  S = around_control c block k

  abbrev B : Around
  B = ready.around_control c.syntax k

  abbrev scope : Scope
  scope = scope_in_control c.syntax k

  abbrev vars : List Variable
  vars = control_variables c.syntax k

  abbrev graph : List (List ℕ)
  graph = call_graph (scope_of c.syntax (decl.Control k)) k

  abbrev count : ℕ
  count = length (variable_kinds c.syntax)

  -- the variables of the block with hidden ones in front
  abbrev pub with_hidden : List Variable → List Variable
  with_hidden hs = renamed root.called hs ++ vars

  abbrev inside : List Variable → Found → InScope
  inside hs f = record { variables = with_hidden hs; inner = parameters_from f.place.first f.place.of.parameters }

  -- none has a number of those of the actions that an action reaches
  pub record Clear (hs : List Variable) (f : Found) : Type 0 where
    pub apart : AreApart count (with_hidden hs)
    pub outside : (t : Name) (g : Found) → action_found B t ≡ Some g → Reaches graph f.number g.number → AreOutside g.place.first (end_of scope g) (with_hidden hs)

  abbrev pub Acts : ℕ → ℕ → Type 0
  Acts n i =
      (o : Option Cells) (t : Name) (f : Found) → action_found B t ≡ Some f → (hs : List Variable) → Clear hs f → (m : sem.Moment) (j : Moment) → Shown (Waiting c.syntax o) c.syntax (inside hs f) m j → m.stopped ≡ None →
      Shown (Waiting c.syntax o) c.syntax (inside hs f) (act_at S n f.place.of m) (acted r i f.number j)

  pub called_is : (t : Name) (f : Found) → action_found B t ≡ Some f → action_named S t ≡ Some f.place.of
  called_is t f at = ap (λ (l : List Action16). action_called l t) (sym (places_declared scope (control_from c.syntax k) k.locals)) ∙ found_called B.actions 0 t f at

  abbrev parameters_behind : Found → ℕ
  parameters_behind f = f.place.first + length f.place.of.parameters

  -- the kinds of its parameters and its variables
  pub record Kinds (f : Found) : Type 0 where
    pub parameters : AreOfKinds (variable_kinds c.syntax) f.place.first (map (parameter_kind scope) f.place.of.parameters)
    pub variables : AreOfKinds (variable_kinds c.syntax) (parameters_behind f) (kinds_in (action_scope scope f.place.of) f.place.of.body)
    pub fits : parameters_behind f + length (kinds_in (action_scope scope f.place.of) f.place.of.body) ≤ end_of scope f
    pub shorter : parameters_behind f ≤ end_of scope f

  pub kinds_of_action : (t : Name) (f : Found) → action_found B t ≡ Some f → Kinds f
  kinds_of_action t f at =
      let all = found_stands (variable_kinds c.syntax) scope (control_from c.syntax k) k.locals 0 t f (locals_stand c block k accepted stands) at in
      let parameters : List Kind = map (parameter_kind scope) f.place.of.parameters in
      let variables : List Kind = kinds_in (action_scope scope f.place.of) f.place.of.body in
      let both = apart (variable_kinds c.syntax) f.place.first parameters variables all in
      let long : length parameters ≡ length f.place.of.parameters = length-map f.place.of.parameters (parameter_kind scope) in
      let whole : length (parameters ++ variables) ≡ length parameters + length variables = length-append parameters variables in
      record {
        parameters = both.0;
        variables = subst (λ (n : ℕ). AreOfKinds (variable_kinds c.syntax) (f.place.first + n) variables) long both.1;
        fits = filled f.place.first (length f.place.of.parameters) (length parameters) (length variables) (length (parameters ++ variables)) long whole;
        shorter = less f.place.first (length f.place.of.parameters) (length parameters) (length variables) (length (parameters ++ variables)) long whole;
      } where
        filled : (a b d e g : ℕ) → d ≡ b → g ≡ d + e → a + b + e ≤ a + g
        filled a b d e g x y = omega (arith, x, y)

        less : (a b d e g : ℕ) → d ≡ b → g ≡ d + e → a + b ≤ a + g
        less a b d e g x y = omega (arith, x, y)

  -- where the statements of an action stand
  within_action : (t : Name) (f : Found) → action_found B t ≡ Some f → (hs : List Variable) → Clear hs f → Within (with_hidden hs) c.syntax S.roots f.place.first (end_of scope f) (parameters_behind f) (action_scope scope f.place.of) (inside hs f)
  within_action t f at hs clear =
      let kinds = kinds_of_action t f at in
      let own = parameters_apart (variable_kinds c.syntax) scope f.place.first f.place.of.parameters kinds.parameters in
      let first : f.place.first ≡ action_in_control c.syntax k f.place.of.name =
      found_first scope (control_from c.syntax k) k.locals 0 t f at ∙ ap (λ (n : Name). action_in_control c.syntax k n) (sym (found_named B.actions 0 t f at)) in
      let there : NamesSeated (action_scope scope f.place.of) (seats_in c.syntax (control_roots block k) (record { variables = vars; inner = parameters_from f.place.first f.place.of.parameters })) =
      subst (λ (n : ℕ). NamesSeated (action_scope scope f.place.of) (seats_in c.syntax (control_roots block k) (record { variables = vars; inner = parameters_from n f.place.of.parameters }))) (sym first)
      (action_seated c.syntax block k t f.place.of accepted stands (called_is t f at)) in
      record {
        context = record {
          layouts = refl;
          fine = action_is_fine scope f.place.of (control_is_fine (scope_of c.syntax (decl.Control k)) k (top_is_fine c.syntax.decls (positions_of c.syntax (declared_name (decl.Control k)))));
          seated =
              subst (λ (l : List Root). NamesSeated (action_scope scope f.place.of) (seats_in c.syntax l (inside hs f))) (sym rooted)
              (hidden_seated c.syntax root roots (action_scope scope f.place.of) (parameters_from f.place.first f.place.of.parameters) hs vars
              (subst (λ (l : List Root). NamesSeated (action_scope scope f.place.of) (seats_in c.syntax l (record { variables = vars; inner = parameters_from f.place.first f.place.of.parameters }))) rooted there));
          body = record {
            begun = more f.place.first (length f.place.of.parameters);
            left = kinds.shorter;
            variables = clear.apart;
            outside = clear.outside t f at (inl refl);
            inner = own.0;
            between = own.1;
          };
        };
        variables = refl;
      } where
        more : (a b : ℕ) → a ≤ a + b
        more a b = omega arith

  -- the ready body of an action
  abbrev pub body_at : Found → Statement
  body_at f = get_or r.bodies f.number nothing

  body_is : (t : Name) (f : Found) → action_found B t ≡ Some f → (hs : List Variable) → ready_of_statement B (action_scope scope f.place.of) (seats_in c.syntax S.roots (inside hs f)) (parameters_behind f) f.place.of.body ≡ Some (body_at f)
  body_is t f at hs =
      let seats : List NamedSeat = control_seats c.syntax block k in
      let made : body_ready B scope seats f.place ≡ Some (body_at f) = made_first (body_ready B scope seats) B.actions t f r.bodies nothing at (control_parts c.syntax block k r is).bodies in
      let plain : List NamedSeat = seats_in c.syntax (control_roots block k) (record { variables = vars; inner = parameters_from f.place.first f.place.of.parameters }) in
      let alike : (text : Name) → seat_of_name (seats_in c.syntax (control_roots block k) (inside hs f)) text ≡ seat_of_name plain text =
      λ text. subst (λ (l : List Root). seat_of_name (seats_in c.syntax l (inside hs f)) text ≡ seat_of_name (seats_in c.syntax l (record { variables = vars; inner = parameters_from f.place.first f.place.of.parameters })) text) (sym rooted)
      (seats_same c.syntax root roots (parameters_from f.place.first f.place.of.parameters) hs vars text) in
      statement_same B (action_scope scope f.place.of) (seats_in c.syntax (control_roots block k) (inside hs f)) plain alike (parameters_behind f) f.place.of.body
      ∙ (ap (λ (l : List NamedSeat). ready_of_statement B (action_scope scope f.place.of) l (parameters_behind f) f.place.of.body) (append_assoc (map (seat_of_variable c.syntax) (parameters_from f.place.first f.place.of.parameters)) (map (seat_of_root c.syntax) (control_roots block k)) (map (seat_of_variable c.syntax) vars) ∙ sym (parameters_seated B f.place.first f.place.of.parameters seats)) ∙ made)

  abbrev reached : Found → ℕ → Bool
  reached f = calls_among (successors graph f.number)

  -- an action that is called, in the scope of some statements whose variables have the numbers from one up to another

  abbrev pub world_at : ℕ → (Name → sem.Moment → meaning.Applied) → meaning.World
  world_at n apply = record { around = S; act = act_at S n; apply = apply }

  abbrev pub ready_at : ℕ → (ℕ → Moment → ready_tests.Applied) → World
  ready_at i apply = record { act = acted r i; apply = apply }

  module _ (n i : ℕ) (acts : Acts n i) (o : Option Cells) (apply : Name → sem.Moment → meaning.Applied) (ready_apply : ℕ → Moment → ready_tests.Applied) (hs : List Variable) (from to : ℕ) (out : AreOutside from to (with_hidden hs)) (s : Scope) (who : InScope) (next : ℕ) (within : Within (with_hidden hs) c.syntax S.roots from to next s who) (t : Name) (g : Found) (at : action_found B t ≡ Some g) (clear : Clear hs g) (other : (v : Name) (h : Found) → action_found B v ≡ Some h → Reaches graph g.number h.number → AreOutside h.place.first (end_of scope h) who.inner) where
    abbrev deeper : List Variable
    deeper = who.inner ++ hs

    deeper_is : with_hidden deeper ≡ renamed root.called who.inner ++ with_hidden hs
    deeper_is = renamed_both root.called who.inner hs vars

    deeper_clear : Clear deeper g
    deeper_clear = record {
      apart = subst (AreApart count) (sym deeper_is)
          (apart_both root.called count from to next who.inner (with_hidden hs) within.context.body.left within.context.body.inner within.context.body.between clear.apart out);
      outside = λ v h there reach. subst (AreOutside h.place.first (end_of scope h)) (sym deeper_is)
          (outside_both root.called h.place.first (end_of scope h) who.inner (with_hidden hs) (other v h there reach) (clear.outside v h there reach));
    }

    abbrev Now : sem.Moment → Moment → Type 0
    Now m j = Shown (Waiting c.syntax o) c.syntax (called_names who g) m j

    acts_here : (m : sem.Moment) (j : Moment) → Now m j → m.stopped ≡ None → Now (act_at S n g.place.of m) (acted r i g.number j)
    acts_here m j h runs =
        subst (λ (vs : List Variable). Shown (Waiting c.syntax o) c.syntax (record { variables = vs; inner = parameters_from g.place.first g.place.of.parameters }) (act_at S n g.place.of m) (acted r i g.number j)) (sym within.variables)
        (acts o t g at hs clear m j
        (subst (λ (vs : List Variable). Shown (Waiting c.syntax o) c.syntax (record { variables = vs; inner = parameters_from g.place.first g.place.of.parameters }) m j) within.variables h) runs)

    -- the variables of the statements stay
    stay : (m : sem.Moment) (j : Moment) → Now m j → m.stopped ≡ None → named_values (numbered16 c.syntax (acted r i g.number j).cells).variables who.inner ≡ named_values (numbered16 c.syntax j.cells).variables who.inner
    stay m j h runs =
        let seen : sem.Moment = record m { frame = frame_in (inside deeper g) (numbered16 c.syntax j.cells) } in
        let begins : Shown (Waiting c.syntax o) c.syntax (inside deeper g) seen j = record {
          shows = record {
            frame = refl;
            whole = h.shows.whole;
            store = h.shows.store;
            unparsed = h.shows.unparsed;
            emitted = h.shows.emitted;
            work = h.shows.work;
            stopped = h.shows.stopped;
            hit = h.shows.hit;
          };
          waits = h.waits;
        } in
        let ends = acts o t g at deeper deeper_clear seen j begins runs in
        let values : List Value = members root.called seen.frame.variables in
        let kept : Hides root.called values (act_at S n g.place.of seen) =
        acts_kept S (Unit {0}) (Hides root.called values) (IsAway root.called) (hidden_kept root.called S (Unit {0}) root roots rooted refl (subst (λ (l : List Root). RootsGiven l) rooted (roots_given block (map parameter_name k.parameters))) values) (bodies_meet S) n t g.place.of (called_is t g at) seen refl in
        hidden_same root.called (numbered16 c.syntax (acted r i g.number j).cells).variables (numbered16 c.syntax j.cells).variables who.inner (with_hidden hs)
        (subst (λ (vs : List Variable). members root.called (named_values (numbered16 c.syntax (acted r i g.number j).cells).variables vs) ≡ members root.called (named_values (numbered16 c.syntax j.cells).variables vs)) deeper_is
        (ap (λ (fr : Frame). members root.called fr.variables) (sym ends.shows.frame) ∙ kept))

    runs_on : (m : sem.Moment) → m.stopped ≡ None → (act_at S n g.place.of m).stopped ≡ None
    runs_on m runs = acts_kept S ⊥ Runs Any (running_kept S) free n t g.place.of (called_is t g at) m runs

    pub does : ActionDoes (Waiting c.syntax o) B (world_at n apply) (ready_at i ready_apply) who g
    does =
        let kinds = kinds_of_action t g at in
        let own = parameters_apart (variable_kinds c.syntax) scope g.place.first g.place.of.parameters kinds.parameters in
        let outside : AreOutside g.place.first (end_of scope g) who.variables = subst (AreOutside g.place.first (end_of scope g)) (sym within.variables) (clear.outside t g at (inl refl)) in
        record {
          shown = acts_here;
          runs = λ m j h runs. runs_on m runs;
          stays = stay;
          scope = body_scope count g.place.first (end_of scope g) (parameters_behind g) (called_names who g) (record {
            begun = more g.place.first (length g.place.of.parameters);
            left = kinds.shorter;
            variables = subst (AreApart count) (sym within.variables) clear.apart;
            outside = outside;
            inner = own.0;
            between = own.1;
          });
          apart = narrower_outside g.place.first (end_of scope g) (parameters_behind g) who.inner kinds.shorter (other t g at (inl refl));
          outside = narrower_outside g.place.first (end_of scope g) (parameters_behind g) who.variables kinds.shorter outside;
          kinds = kinds.parameters;
        } where
          more : (a b : ℕ) → a ≤ a + b
          more a b = omega arith

  -- one level more

  -- no table is applied
  tables_do : (o : Option Cells) (n : ℕ) (vs : List Variable) (from to : ℕ) → TablesDo (Waiting c.syntax o) B (world_at n meaning.no_table_applies) (ready_at n ready_tests.no_table_applies) vs from to
  tables_do o n vs from to s who next text at = all (table_found B text) where
    all : (x : Option ℕ) → IfSome x (λ table. (m : sem.Moment) (j : Moment) → Shown (Waiting c.syntax o) c.syntax who m j → m.stopped ≡ None → AppliedShows (Waiting c.syntax o) B who (meaning.no_table_applies text m) (ready_tests.no_table_applies table j))
    all None = tt
    all (Some table) = λ m j h runs. record { hit = refl; action = tt; moment = h; runs = runs }

  module _ (n : ℕ) (acts : Acts n n) (o : Option Cells) (u : Name) (f : Found) (found : action_found B u ≡ Some f) (hs : List Variable) (clear : Clear hs f) where
    abbrev Here : Scope → InScope → ℕ → Type 0
    Here s who next = Within (with_hidden hs) c.syntax S.roots f.place.first (end_of scope f) next s who

    called_clear : (g : Found) → IsEdge graph f.number g.number → Clear hs g
    called_clear g edge = record { apart = clear.apart; outside = λ t h at reach. clear.outside t h at (reaches_further graph f.number g.number h.number edge reach) }

    -- an action that another one calls is not this one, and reaches it not
    other_one : (s : Scope) (who : InScope) (next : ℕ) → Here s who next → (g : Found) → IsEdge graph f.number g.number → (v : Name) (h : Found) → action_found B v ≡ Some h → Reaches graph g.number h.number → AreOutside h.place.first (end_of scope h) who.inner
    other_one s who next within g edge v h there reach =
        between_outside f.place.first next h.place.first (end_of scope h) who.inner within.context.body.between
        (wider (found_apart scope u v f h (control_from c.syntax k) k.locals 0 found there differ)) where
          differ : f.number ≢ h.number
          differ same = never_back graph f.number g.number (calls_acyclic c.syntax block k accepted stands f.number) edge (subst (λ (x : ℕ). Reaches graph g.number x) (sym same) reach)

          below : (a b d : ℕ) → a ≤ b → b ≤ d → a ≤ d
          below a b d x y = omega (arith, x, y)

          wider : (end_of scope f ≤ h.place.first) ⊎ (end_of scope h ≤ f.place.first) → (next ≤ h.place.first) ⊎ (end_of scope h ≤ f.place.first)
          wider (inl le) = inl (below next (end_of scope f) h.place.first within.context.body.left le)
          wider (inr le) = inr le

    abbrev w : meaning.World
    w = world_at n meaning.no_table_applies

    abbrev z : World
    z = ready_at n ready_tests.no_table_applies

    actions_do : ActionsDo (Waiting c.syntax o) B w z (with_hidden hs) f.place.first (end_of scope f) (reached f)
    actions_do s who next t g within at may =
        let edge : IsEdge graph f.number g.number = among (successors graph f.number) g.number may in
        does n n acts o meaning.no_table_applies ready_tests.no_table_applies hs f.place.first (end_of scope f) (clear.outside u f found (inl refl)) s who next within t g at (called_clear g edge) (other_one s who next within g edge)

    one_more : (m : sem.Moment) (j : Moment) → Shown (Waiting c.syntax o) c.syntax (inside hs f) m j → m.stopped ≡ None → Shown (Waiting c.syntax o) c.syntax (inside hs f) (act_at S (suc n) f.place.of m) (acted r (suc n) f.number j)
    one_more m j h runs =
        let kinds = kinds_of_action u f found in
        let left : LeftBehind (Waiting c.syntax o) c.syntax (inside hs f) (declared_from (action_scope scope f.place.of) (parameters_behind f) f.place.of.body) (sem_statements.run w (action_scope scope f.place.of) no_label f.place.of.body m) (run z None (body_at f) j) =
        at_some (λ (x : Statement). (taken : CaseLabel → Bool) (ran : Option ℕ) (p : sem.Moment) (l : Moment) → Shown (Waiting c.syntax o) c.syntax (inside hs f) p l → LeftBehind (Waiting c.syntax o) c.syntax (inside hs f) (declared_from (action_scope scope f.place.of) (parameters_behind f) f.place.of.body) (sem_statements.run w (action_scope scope f.place.of) taken f.place.of.body p) (run z ran x l))
        (ready_of_statement B (action_scope scope f.place.of) (seats_in c.syntax S.roots (inside hs f)) (parameters_behind f) f.place.of.body) (body_at f) (body_is u f found hs)
        ((all_do (InActions tests scope B (reached f)) (Waiting c.syntax o) B w z (with_hidden hs) f.place.first (end_of scope f) accepted
        (leaves o w z (with_hidden hs) f.place.first (end_of scope f) (reached f) refl actions_do (λ p. tables_do p n (with_hidden hs) f.place.first (end_of scope f)))
        f.place.of.body).0 (action_scope scope f.place.of) (inside hs f) (parameters_behind f) (within_action u f found hs clear) (meets u f found) kinds.variables kinds.fits) no_label None m j h in
        closed_shows (Waiting c.syntax o) c.syntax (inside hs f) m (sem_statements.run w (action_scope scope f.place.of) no_label f.place.of.body m) (run z None (body_at f) j) left.some (inner_counted (Waiting c.syntax o) c.syntax (inside hs f) m j h) left.shown

  pub all_act : (n : ℕ) → Acts n n
  all_act zero o t f at hs clear m j h runs = h
  all_act (suc n) o t f at hs clear m j h runs = one_more n (all_act n) o t f at hs clear m j h runs
