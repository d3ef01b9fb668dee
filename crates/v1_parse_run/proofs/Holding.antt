-- What a parser does on a packet keeps its machine at work, and makes the moment that is due.
use Rattle.std.proofs.Common.{◌≡◌, ℕ, ◌<◌, ◌≤◌, List, Bool, length, Option, Some, None, refl, sym, ap, subst, ◌∙◌, arith}
use Rattle.node_lists.proofs.Growth as growth
use Rattle.state_store.specs.State.{Contents}
use Rattle.v1_core.specs.declared.parser_error.ParserError.{ParserError}
use Rattle.v1_core.specs.Frames.{Hit}
use Rattle.v1_core.specs.Cells.{Cells}
use Rattle.v1_core.specs.Layouts.{Layout}
use Rattle.v1_core.specs.Nodes.{ready_of}
use Rattle.v1_ready_selects.specs.declared.rows.Led.{Led}
use Rattle.v1_ready_selects.specs.declared.rows.ReadyTransition.{ReadyTransition}
use Rattle.v1_ready_selects.specs.Selects.{FitsTransition, Transition, lead}
use Rattle.v1_ready_blocks.specs.declared.places.Range.{Range}
use Rattle.v1_ready_blocks.specs.Blocks.{parser_run}
use Rattle.v1_ready_blocks.specs.Moments.{Moment, raised}
use Rattle.v1_ready_blocks.specs.Nodes.{IsRange, statement_at, tree_of}
use Rattle.v1_ready_blocks.specs.Places.{emptied}
use Rattle.v1_ready_blocks.specs.Statements.{run}
use Rattle.v1_ready_blocks.specs.Tests.{no_table_applies}
use Rattle.v1_statement_run.specs.declared.run.Run.{Run}
use Rattle.v1_statement_run.specs.Seen.{moment, seen_hit}
use Rattle.v1_ready_states.specs.States.{with_headers_empty}
use Rattle.v1_statement_run.specs.Steps.{Comes, expressions_in, first_error, ground_of, stopped_by, trees_of}
use Rattle.v1_parse_run.specs.Made.{HoldsErrors}
use Rattle.v1_block_run.specs.declared.tasks.Level.TheVariants as level
use Rattle.v1_block_run.specs.declared.block.ReadyBlock.{ReadyBlock}
use Rattle.v1_block_run.specs.Blocks.{IsRunnable, count_of, seen_block}
use Rattle.v1_block_run.specs.Tasks.{world_at}
use Rattle.v1_parse_run.specs.declared.machine.ParserMachine.{ParserMachine}
use Rattle.v1_parse_run.specs.Working.{Works, moment_of}

-- statements

pub place_there : (b : ReadyBlock) (place : ℕ) → place < length (trees_of b.code) → place < count_of b
place_there b place lt = omega (arith, lt, growth.count (tree_of (expressions_in b.code)) b.code.statements.nodes)

pub ran_works : (b : ReadyBlock) (f : Cells) (s : Contents) (octets : List ℕ) (m : ParserMachine) (due : Moment) → IsRunnable b → Comes (ground_of b.code) due (moment_of f s octets m) → m.parsed ≤ length octets → Works b f s octets m
ran_works b f s octets m due runnable comes within = record { runnable = runnable; over = comes.over; within = within }

pub ran_quietly : (b : ReadyBlock) (place : ℕ) (old now : Moment) → Comes (ground_of b.code) (run (world_at no_table_applies (seen_block b) (level.Action 0)) None (statement_at (trees_of b.code) place) old) now → now ≡ parser_run (statement_at (trees_of b.code) place) old
ran_quietly b place old now comes = sym comes.comes

-- transitions

pub keys_there : (b : ReadyBlock) (t : ReadyTransition) → FitsTransition (length (expressions_in b.code)) t → FitsTransition (length b.code.expressions.nodes) t
keys_there b t fits = subst (λ (k : ℕ). FitsTransition k t) (growth.count ready_of b.code.expressions.nodes) fits

pub same_layout : (b : ReadyBlock) (f : Cells) (s : Contents) (octets : List ℕ) (m : ParserMachine) → Works b f s octets m → f.layout ≡ b.code.expressions.layout
same_layout b f s octets m works = works.over.cells ∙ sym works.runnable.code.layout

pub led_so : (f : Cells) (u left : List ℕ) (t : Transition) (led : Led) → u ≡ left → led ≡ lead f u t → led ≡ lead f left t
led_so f u left t led is leads = leads ∙ ap (λ (l : List ℕ). lead f l t) is

-- headers, and the slot of errors

pub range_there : (b : ReadyBlock) (f : Cells) (s : Contents) (octets : List ℕ) (m : ParserMachine) (range : Range) → Works b f s octets m → IsRange (ground_of b.code).layout range → IsRange f.layout range
range_there b f s octets m range works is = subst (λ (l : Layout). IsRange l range) (sym works.over.cells) is

pub emptied_works : (b : ReadyBlock) (f : Cells) (s : Contents) (octets : List ℕ) (m : ParserMachine) (new : Cells) → Works b f s octets m → new.layout ≡ f.layout → Works b new s octets m
emptied_works b f s octets m new works layout = record {
  runnable = works.runnable;
  over = record { cells = layout ∙ works.over.cells; waiting = works.over.waiting; shapes = works.over.shapes };
  within = works.within;
}

pub slot_there : (b : ReadyBlock) (f : Cells) (s : Contents) (octets : List ℕ) (m : ParserMachine) (slot : ℕ) → Works b f s octets m → HoldsErrors (ground_of b.code).layout slot → HoldsErrors f.layout slot
slot_there b f s octets m slot works is = subst (λ (l : Layout). HoldsErrors l slot) (sym works.over.cells) is

-- a machine with another run

pub runs_on : (b : ReadyBlock) (f : Cells) (s : Contents) (octets : List ℕ) (m n : ParserMachine) → Works b f s octets m → n.parsed ≡ m.parsed → n.run.waiting.layout ≡ m.run.waiting.layout → Works b f s octets n
runs_on b f s octets m n works parsed waiting = record {
  runnable = works.runnable;
  over = record { cells = works.over.cells; waiting = waiting ∙ works.over.waiting; shapes = works.over.shapes };
  within = subst (λ (k : ℕ). k ≤ length octets) (sym parsed) works.within;
}

stopped_is : (f : Cells) (w : Cells) (s : Contents) (u : List ℕ) (emitted : List Bool) (work : ℕ) (stopped : Option ParserError) (hit : Option Hit) (e : ParserError) →
    let m : Option ParserError → Moment = λ x. record { cells = f; waiting = w; store = s; unparsed = u; emitted = emitted; work = work; stopped = x; hit = hit } in
    m (Some (first_error stopped e)) ≡ raised e (m stopped)
stopped_is f w s u emitted work None hit e = refl
stopped_is f w s u emitted work (Some earlier) hit e = refl

pub raises : (f : Cells) (s : Contents) (u : List ℕ) (r q : Run) (e : ParserError) → q ≡ stopped_by e r → moment f s u q ≡ raised e (moment f s u r)
raises f s u r q e is = ap (moment f s u) is ∙ stopped_is f r.waiting s u r.emitted r.work r.stopped (seen_hit r.hit) e

pub empties : (f : Cells) (s : Contents) (u : List ℕ) (r : Run) (headers : Range) (new : Cells) → new ≡ emptied headers f → moment new s u r ≡ with_headers_empty headers (moment f s u r)
empties f s u r headers new is = ap (λ (c : Cells). moment c s u r) is
