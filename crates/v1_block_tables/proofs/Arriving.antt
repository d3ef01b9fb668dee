-- What an application of a table comes to.
use Rattle.std.proofs.Common.{◌≡◌, ℕ, List, [], drop, All, slice_get, slice_index_or, is_some, Option, Some, None, sym, ap, subst, ◌∙◌, length}
use Rattle.std.specs.Prelude.{option_map}
use Rattle.state_store.specs.State.{Contents}
use Rattle.v1_core.specs.Frames as sem
use Rattle.v1_core.specs.Cells.{Cells}
use Rattle.v1_core.specs.Layouts.{Layout}
use Rattle.v1_ready_blocks.specs.Blocks.{act, table_applied}
use Rattle.v1_ready_blocks.specs.Blocks as blocks
use Rattle.v1_ready_blocks.specs.Moments.{Moment, with_hit}
use Rattle.v1_ready_blocks.specs.Nodes.{Ground}
use Rattle.v1_ready_blocks.specs.Tables.{Chosen, Fill, Table, action_in, applied, applied_by, bound_numbers, chosen, found, hit_of, noted, run_chosen}
use Rattle.v1_statement_run.specs.declared.run.Hit.{Hit}
use Rattle.v1_statement_run.specs.declared.run.Run.{Run}
use Rattle.v1_statement_run.specs.Seen.{given_of, moment, seen_hit}
use Rattle.v1_statement_run.specs.declared.tables.Told.{Told}
use Rattle.v1_statement_run.specs.Steps.{Comes, IsOver, Tells, ground_of}
use Rattle.v1_block_run.specs.declared.tasks.Task.{Task}
use Rattle.v1_block_run.specs.declared.block.ReadyAction.{ReadyAction}
use Rattle.v1_block_run.specs.declared.block.ReadyTable.{ReadyTable}
use Rattle.v1_block_run.specs.declared.block.ReadyBlock.{ReadyBlock}
use Rattle.v1_block_run.specs.Blocks.{seen_block, seen_table}
use Rattle.v1_block_tables.specs.declared.calls.Call.{Call}
use Rattle.v1_block_tables.specs.declared.spare.Spare.{Spare}
use Rattle.v1_block_tables.specs.Applying.{lent_run, lent_spare, seen_call}
use Rattle.v1_block_tables.specs.Parts.{CanApply, HasKeys, HasParameters}
use Rattle.v1_block_tables.proofs.Looking.{all_at, index_some}

-- the action of a call

abbrev pub with_tasks : List Task → Spare → Spare
with_tasks tasks s = record s { tasks = tasks }

module _ (g : Ground) (f : Cells) (s : Contents) (u : List ℕ) (r : Run) where
  pub lent_over : (sp : Spare) (hit : Option Hit) (n : Run) → IsOver g (moment f s u r) → n ≡ lent_run sp hit r → IsOver g (moment f s (drop 0 u) n)
  lent_over sp hit n over is =
      subst (λ (k : Run). IsOver g (moment f s u k)) (sym is) (record { cells = over.cells; waiting = over.waiting; shapes = over.shapes })

  pub body_came : (does : Moment → Moment) (hit before : Option Hit) (end : ℕ) (sp lent after : Spare) (tasks : List Task) (new : Cells) (t : Contents) (lent_r q final : Run) → lent_r ≡ lent_run sp hit r → before ≡ r.hit → Comes g (does (moment f s (drop 0 u) lent_r)) (moment new t (drop end u) q) → end ≡ 0 → final ≡ lent_run after before q → Comes g (with_hit (seen_hit r.hit) (does (with_hit (seen_hit hit) (moment f s u r)))) (moment new t u final)
  body_came does hit before end sp lent after tasks new t lent_r q final begins was comes none ends =
      let now : Comes g (does (moment f s u (lent_run sp hit r))) (moment new t u q) =
      subst (λ (k : Run). Comes g (does (moment f s u k)) (moment new t u q)) begins
      (subst (λ (e : ℕ). Comes g (does (moment f s u lent_r)) (moment new t (drop e u) q)) none comes) in
      let over : IsOver g (moment new t u (lent_run after before q)) = record { cells = now.over.cells; waiting = now.over.waiting; shapes = now.over.shapes } in
      record {
        over = subst (λ (k : Run). IsOver g (moment new t u k)) (sym ends) over;
        comes =
            ap (with_hit (seen_hit r.hit)) now.comes
            ∙ ap (λ (h : Option Hit). moment new t u (lent_run after h q)) (sym was)
            ∙ ap (λ (k : Run). moment new t u k) (sym ends);
      }

  pub given_stays : (before : Option Hit) (sp lent : Spare) (tasks : List Task) (q final : Run) → lent ≡ lent_spare r sp → final ≡ lent_run (with_tasks tasks lent) before q → given_of final ≡ given_of r
  given_stays before sp lent tasks q final is ends =
      ap given_of ends ∙ ap (λ (k : Spare). given_of (lent_run (with_tasks tasks k) before q)) is

  -- arguments

  pub parameters_over : (actions : List ReadyAction) → IsOver g (moment f s u r) → All (HasParameters g.layout) actions → All (HasParameters f.layout) actions
  parameters_over actions over all = subst (λ (l : Layout). All (HasParameters l) actions) (sym over.cells) all

  pub bound_over : (new : Cells) → new.layout ≡ f.layout → IsOver g (moment f s u r) → IsOver g (moment new s u r)
  bound_over new layout over = record { cells = layout ∙ over.cells; waiting = over.waiting; shapes = over.shapes }

  pub call_came : (parameters : List (List ℕ)) (does : ℕ → Moment → Moment) (c : Call) (hit : Option sem.Hit) (new : Cells) (now : Moment) → new ≡ bound_numbers (slice_index_or parameters c.action []) c.arguments.now f → Comes g (with_hit (seen_hit r.hit) (does c.action (with_hit hit (moment new s u r)))) now → Comes g (run_chosen parameters does hit (Some (seen_call c)) (moment f s u r)) now
  call_came parameters does c hit new now is comes = record {
    over = comes.over;
    comes =
        ap (λ (k : Cells). with_hit (seen_hit r.hit) (does c.action (with_hit hit (moment k s u r)))) (sym is) ∙ comes.comes;
  }

-- an application

module _ (g : Ground) (fill : Fill) (parameters : List (List ℕ)) (does : ℕ → Moment → Moment) (t : Table) (entry : Option ℕ) (old : Moment) where
  pub tells_none : (noted_at now : Moment) (hit : Option ℕ) (o : Option Chosen) → o ≡ chosen fill t entry → o ≡ None → noted_at ≡ noted t.number entry o old → IsOver g noted_at → Tells g (applied_by fill parameters does t entry old) noted_at (record { hit = is_some entry; action = None })
  tells_none noted_at now hit o is none notes over = record {
    over = over;
    tells =
        ap (λ (k : Option Chosen). record { hit = is_some entry; action = option_map action_in k; moment = run_chosen parameters does (hit_of t.direct entry) k (noted t.number entry k old) }) (sym is ∙ none)
        ∙ ap (λ (m : Moment). record { hit = is_some entry; action = None; moment = m }) (ap (λ (k : Option Chosen). noted t.number entry k old) (sym none) ∙ sym notes);
  }

  pub tells_some : (noted_at now : Moment) (c : Call) (o : Option Chosen) → o ≡ chosen fill t entry → o ≡ Some (seen_call c) → noted_at ≡ noted t.number entry o old → Comes g (run_chosen parameters does (hit_of t.direct entry) (Some (seen_call c)) noted_at) now → Tells g (applied_by fill parameters does t entry old) now (record { hit = is_some entry; action = Some c.action })
  tells_some noted_at now c o is some notes comes = record {
    over = comes.over;
    tells =
        ap (λ (k : Option Chosen). record { hit = is_some entry; action = option_map action_in k; moment = run_chosen parameters does (hit_of t.direct entry) k (noted t.number entry k old) }) (sym is ∙ some)
        ∙ ap (λ (m : Moment). record { hit = is_some entry; action = Some c.action; moment = m })
        (ap (λ (m : Moment). run_chosen parameters does (hit_of t.direct entry) (Some (seen_call c)) m)
        (ap (λ (k : Option Chosen). noted t.number entry k old) (sym some) ∙ sym notes)
        ∙ comes.comes);
  }

pub noted_over : (g : Ground) (f new : Cells) (s : Contents) (u : List ℕ) (r : Run) → new.layout ≡ f.layout → IsOver g (moment f s u r) → IsOver g (moment new s u r)
noted_over g f new s u r layout over = record { cells = layout ∙ over.cells; waiting = over.waiting; shapes = over.shapes }

-- the table with a number

module _ (b : ReadyBlock) (n : ℕ) (t : ReadyTable) (some : Some t ≡ slice_get b.tables n) where
  pub table_there : CanApply b → HasKeys (length b.code.expressions.nodes) t
  table_there can = all_at (HasKeys (length b.code.expressions.nodes)) b.tables n t some can.keys

  pub was_applied : (fill : Fill) (entry : Option ℕ) (told : Told) (old now : Moment) → entry ≡ found fill old (seen_table b t) → Tells (ground_of b.code) (applied_by fill (seen_block b).parameters (act (seen_block b)) (seen_table b t) entry old) now told → Tells (ground_of b.code) (table_applied fill (seen_block b) n old) now told
  was_applied fill entry told old now is tells = record {
    over = tells.over;
    tells =
        ap (λ (k : Table). applied fill (seen_block b).parameters (act (seen_block b)) k old) (index_some (seen_table b) b.tables n t blocks.no_table some)
        ∙ ap (λ (e : Option ℕ). applied_by fill (seen_block b).parameters (act (seen_block b)) (seen_table b t) e old) (sym is)
        ∙ tells.tells;
  }
