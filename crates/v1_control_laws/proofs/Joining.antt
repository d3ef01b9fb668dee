-- A control runs as its ready block.
use Rattle.std.proofs.Common.{◌≡◌, inr, ℕ, ◌+◌, Bool, true, Option, Some, None, List, [], ◌∷◌, length, filter_map, refl, sym, ap, ◌∙◌, subst}
use Rattle.std.proofs.lemmas.List.{length-map}
use Rattle.digraph.specs.Graphs.{Reaches}
use Rattle.p416_syntax.specs.declared.controls.Action16.{Action16}
use Rattle.p416_syntax.specs.declared.controls.Local.TheVariants as local
use Rattle.p416_syntax.specs.declared.controls.Control16.{Control16}
use Rattle.p416_syntax.specs.declared.program.Decl16.TheVariants as decl
use Rattle.p416_syntax.specs.Names.{Name}
use Rattle.p416_syntax.specs.Scopes.{Scope}
use Rattle.p416_syntax.specs.Uses.{Use}
use Rattle.p416_syntax.specs.Declarations.{action_in}
use Rattle.p416_syntax.specs.Applications.{call_graph}
use Rattle.p416_syntax.specs.Breaks.{scope_of, program_rules, BreaksNone}
use Rattle.v1_core.specs.declared.block.Block.{Block as BlockName}
use Rattle.v1_core.specs.Frames as sem
use Rattle.v1_core.specs.Slots.{variable_kinds, local_kinds, kinds_in}
use Rattle.v1_core.specs.Surroundings as meaning
use Rattle.v1_core.specs.Surroundings.{Setting, Root}
use Rattle.v1_core.specs.Numbered.{Variable, nobody}
use Rattle.v1_core.specs.Tables.{applied}
use Rattle.v1_core.specs.Blocks.{act, control_world, around_control, run_block, control_at, control16}
use Rattle.v1_core.specs.Cells.{Cells}
use Rattle.v1_core.specs.PackedFrames.{IsFrameOf}
use Rattle.v1_ready_blocks.specs.Moments.{Moment}
use Rattle.v1_ready_blocks.specs.Tests.{World}
use Rattle.v1_ready_blocks.specs.Tables.{Fill}
use Rattle.v1_ready_blocks.specs.Blocks.{Block, table_applied, world_of, ready_run}
use Rattle.v1_block_laws.specs.Variables.{scope_in_control, control_from, body_from, control_variables, control_roots, control_seats, action_from}
use Rattle.v1_block_laws.specs.Apart.{AreOutside}
use Rattle.v1_block_laws.proofs.Apart.{locals_apart, action_outside}
use Rattle.v1_parser_laws.specs.Shown.{Shows}
use Rattle.v1_ready_statements.specs.Around.{Around, Found, action_found}
use Rattle.v1_ready_statements.specs.Blocks as ready
use Rattle.v1_ready_statements.specs.Blocks.{body_ready, ready_control}
use Rattle.v1_statement_laws.specs.Meeting.{StatementMeets}
use Rattle.v1_control_laws.specs.Controls.{Waiting, Meets, ActionsDo, TablesDo, LeavesDo, ActionLeavesDo, BodiesMeet, InitialsDo}
use Rattle.v1_control_laws.specs.Erring.{BodiesFree}
use Rattle.v1_control_laws.proofs.Places.{end_of, action_of, places_declared, found_first, found_below, all_counted}
use Rattle.v1_control_laws.proofs.Veiled.{between_outside}
use Rattle.v1_control_laws.proofs.Running.{within as body_within, control_parts, locals_stand, control_runs}
use Rattle.v1_control_laws.proofs.Levels.{Clear, called_is, Acts, does, all_act}

abbrev pub each_action : ℕ → Bool
each_action n = true

module _ (c : Setting) (block : BlockName) (k : Control16) (accepted : BreaksNone c.syntax program_rules) (stands : control_at c.syntax block ≡ Some k) (r : Block) (is : ready_control c.syntax block k ≡ Some r) (root : Root) (roots : List Root) (rooted : control_roots block k ≡ root ∷ roots) (free : BodiesFree ⊥ (around_control c block k)) (tests : List (Use → Bool)) (leaves : ActionLeavesDo tests (around_control c block k) (ready.around_control c.syntax k)) (meets : BodiesMeet tests (around_control c block k) (ready.around_control c.syntax k) (call_graph (scope_of c.syntax (decl.Control k)) k)) where
  abbrev S : meaning.Surroundings
  S = around_control c block k

  abbrev B : Around
  B = ready.around_control c.syntax k

  abbrev scope : Scope
  scope = scope_in_control c.syntax k

  abbrev vars : List Variable
  vars = control_variables c.syntax k

  abbrev graph : List (List ℕ)
  graph = call_graph (scope_of c.syntax (decl.Control k)) k

  abbrev count : ℕ
  count = length (variable_kinds c.syntax)

  abbrev first : ℕ
  first = body_from c.syntax k

  abbrev behind : ℕ
  behind = first + length (kinds_in scope k.body)

  abbrev depth : ℕ
  depth = length (filter_map action_in k.locals)

  -- as many actions are ready as are declared
  counted : length r.bodies ≡ depth
  counted =
      all_counted (body_ready B scope (control_seats c.syntax block k)) B.actions r.bodies (control_parts c.syntax block k r is).bodies
      ∙ (sym (length-map B.actions action_of) ∙ ap (λ (l : List Action16). length l) (places_declared scope (control_from c.syntax k) k.locals))

  abbrev ActsAt : ℕ → ℕ → Type 0
  ActsAt n i = Acts c block k accepted stands r is root roots rooted free tests leaves meets n i

  acts : ActsAt depth (length r.bodies)
  acts = subst (λ (i : ℕ). ActsAt depth i) (sym counted) (all_act c block k accepted stands r is root roots rooted free tests leaves meets depth)

  -- the numbers of an action are those of no variable of the block
  variables_outside : (t : Name) (f : Found) → action_found B t ≡ Some f → AreOutside f.place.first (end_of scope f) vars
  variables_outside t f at =
      let place : f.place.first ≡ action_from scope (control_from c.syntax k) k.locals t = found_first scope (control_from c.syntax k) k.locals 0 t f at in
      subst (λ (n : ℕ). AreOutside n (n + length (local_kinds scope (local.Action f.place.of))) vars) (sym place)
      (action_outside (variable_kinds c.syntax) scope (control_from c.syntax k) k.locals t f.place.of (locals_stand c block k accepted stands) (called_is c block k accepted stands r is root roots rooted free tests leaves meets t f at))

  clear : (f : Found) → Clear c block k accepted stands r is root roots rooted free tests leaves meets [] f
  clear f = record {
    apart = (locals_apart (variable_kinds c.syntax) scope (control_from c.syntax k) k.locals (locals_stand c block k accepted stands)).0;
    outside = λ t g at reach. variables_outside t g at;
  }

  module _ (fill : Fill) where
    abbrev w : meaning.World
    w = control_world S

    abbrev z : World
    z = world_of fill r

    pub actions_do : (o : Option Cells) → ActionsDo (Waiting c.syntax o) B w z vars first behind each_action
    actions_do o s who next t g within at may =
        does c block k accepted stands r is root roots rooted free tests leaves meets depth (length r.bodies) acts o (applied S (act S)) (table_applied fill r) [] first behind
        (body_within c block k accepted stands).context.body.outside s who next within t g at (clear g) inner_outside where
          inner_outside : (v : Name) (h : Found) → action_found B v ≡ Some h → Reaches graph g.number h.number → AreOutside h.place.first (end_of scope h) who.inner
          inner_outside v h there reach =
              between_outside first next h.place.first (end_of scope h) who.inner within.context.body.between (inr (found_below scope v h (control_from c.syntax k) k.locals 0 there))

    module _ (body_leaves : LeavesDo tests S B) (tables : ((o : Option Cells) → ActionsDo (Waiting c.syntax o) B w z vars first behind each_action) → (o : Option Cells) → TablesDo (Waiting c.syntax o) B w z vars first behind) (body_meets : StatementMeets (Meets tests scope B each_action) scope k.body) (initials : ((o : Option Cells) → TablesDo (Waiting c.syntax o) B w z vars first behind) → InitialsDo w z c.syntax block k (control_from c.syntax k) k.locals) where
      pub control_shows : (m : sem.Moment) (j : Moment) → Shows c.syntax nobody m j → IsFrameOf c.syntax j.waiting → m.stopped ≡ None → Shows c.syntax nobody (control16 c block m) (ready_run fill r j)
      unfolding control16
      control_shows m j h waits runs =
          let there = tables actions_do in
          subst (λ (x : Option Control16). Shows c.syntax nobody (run_block c block x m) (ready_run fill r j)) (sym stands)
          (control_runs c block k accepted stands w z refl (Meets tests scope B each_action) (body_leaves w z vars first behind each_action refl (actions_do None) there) body_meets (initials there) r is m j h waits runs)
