-- A ready block is run, and the ready parser.
use Rattle.std.proofs.Common.{◌≡◌, ℕ, List, [], Bool, true, false, drop, refl, sym, ap, subst, ◌∙◌, arith}
use Rattle.p4x_bits.specs.BitLists.{octet_bits, IsOctets}
use Rattle.state_store.specs.State.{Contents}
use Rattle.v1_core.specs.declared.block.Block.{Block}
use Rattle.v1_core.specs.declared.block.Block.TheVariants.{Verify, Ingress, Egress, Compute, Deparse}
use Rattle.v1_core.specs.declared.parser_error.ParserError.{ParserError}
use Rattle.v1_core.specs.Frames as sem
use Rattle.v1_core.specs.Surroundings.{Setting}
use Rattle.v1_core.specs.Numbered.{nobody}
use Rattle.v1_core.specs.Parsing.{Parsed, parse16}
use Rattle.v1_core.specs.Blocks.{control16}
use Rattle.v1_core.specs.Cells.{AreWhole, Cells}
use Rattle.v1_core.specs.Programs.{layout16}
use Rattle.v1_core.specs.PackedFrames.{IsFrameOf}
use Rattle.v1_ready_blocks.specs.Moments.{Moment}
use Rattle.v1_ready_blocks.specs.Nodes.{Ground}
use Rattle.v1_ready_blocks.specs.Tables.{Fill}
use Rattle.v1_ready_blocks.specs.Blocks.{ready_run}
use Rattle.v1_statement_run.specs.declared.run.Run.{Run}
use Rattle.v1_statement_run.specs.Seen.{moment}
use Rattle.v1_statement_run.specs.Steps.{Comes, IsOver, ground_of}
use Rattle.v1_ready_states.specs.States.{ready_parse}
use Rattle.v1_parse_run.specs.Made.{made_parser}
use Rattle.v1_parse_run.specs.declared.machine.ParserMachine.{ParserMachine}
use Rattle.v1_parse_run.specs.Working.{Works, made_of, moment_of}
use Rattle.v1_block_run.specs.declared.block.ReadyBlock.{ReadyBlock}
use Rattle.v1_block_run.specs.Blocks.{seen_block}
use Rattle.v1_block_tables.specs.declared.parts.FilledBlock.{FilledBlock}
use Rattle.v1_block_tables.specs.Parts.{CanApply}
use Rattle.v1_passes.specs.Moments.{moment_at}
use Rattle.v1_parser_laws.specs.Shown.{Shows}
use Rattle.v1_parser_laws.specs.Laws.{ParseShows}
use Rattle.v1_control_run.specs.declared.prepared.Prepared.{Prepared}
use Rattle.v1_control_run.specs.declared.runners.Runners.{Runners}
use Rattle.v1_control_run.specs.Prepared.{DoesControl, IsGroundOf, IsPrepared, objects_of, setting_of}
use Rattle.v1_control_run.specs.internal.Runs.{AreRunners, CanBegin, HasEnded, IsReady, RunsBlock, begun_run, filled_of}
use Rattle.v1_control_run.proofs.Fixed.{begins_so, fixed, fixed_silently}

-- what is kept from packet to packet

pub begins_first : (p : Prepared) (store : Contents) (s : ParserMachine) → IsPrepared p → store.shapes ≡ objects_of (setting_of p) → s.run.waiting.layout ≡ p.layout.now → CanBegin p store s
begins_first p store s is shapes waiting = record { waiting = waiting ∙ is.layout; shapes = shapes }

pub ready_first : (p : Prepared) (r : Runners) (store : Contents) (s : ParserMachine) → IsPrepared p → AreRunners p r → store.shapes ≡ objects_of (setting_of p) → s.run.waiting.layout ≡ p.layout.now → IsReady p r store true s
ready_first p r store s is are shapes waiting =
    record { prepared = is; runners = are; rests = λ usable. begins_first p store s is shapes waiting }

pub are_still : (p : Prepared) (q r : Runners) → AreRunners p q → ((b : Block) → filled_of r b ≡ filled_of q b) → AreRunners p r
are_still p q r are same = record {
  controls = λ block. subst (λ (x : FilledBlock). DoesControl (setting_of p) block x.fill.now x.block.now) (sym (same block)) (are.controls block);
}

pub can_begin : (p : Prepared) (r : Runners) (store : Contents) (usable : Bool) (s : ParserMachine) → IsReady p r store usable s → usable ≡ true → CanBegin p store s
can_begin p r store usable s is may = is.rests may

pub ready_without : (p : Prepared) (r t : Runners) (store after : Contents) (usable : Bool) (s n : ParserMachine) → IsReady p r store usable s → ((b : Block) → filled_of t b ≡ filled_of r b) → IsReady p t after false n
ready_without p r t store after usable s n is same =
    record { prepared = is.prepared; runners = are_still p r t is.runners same; rests = λ (never : false ≡ true). absurd (cc) }

pub ready_again : (p : Prepared) (r t : Runners) (store after : Contents) (usable : Bool) (s n : ParserMachine) → IsReady p r store usable s → ((b : Block) → filled_of t b ≡ filled_of r b) → CanBegin p after n → IsReady p t after true n
ready_again p r t store after usable s n is same begins =
    record { prepared = is.prepared; runners = are_still p r t is.runners same; rests = λ may. begins }

-- controls

pub runs_block : (b of : FilledBlock) → b ≡ of → RunsBlock b of.block.now of.fill.now
runs_block b of is = record { block_is = ap (λ (x : FilledBlock). x.block.now) is; fill_is = ap (λ (x : FilledBlock). x.fill.now) is }

does_by : (c : Setting) (block : Block) (b : FilledBlock) (ready : ReadyBlock) (fill : Fill) → RunsBlock b ready fill → DoesControl c block fill ready → DoesControl c block b.fill.now b.block.now
does_by c block b ready fill runs does =
    subst (λ (x : Fill). DoesControl c block x b.block.now) (sym runs.fill_is)
    (subst (λ (x : ReadyBlock). DoesControl c block fill x) (sym runs.block_is) does)

pub are_runners : (p : Prepared) (r : Runners) → IsPrepared p → RunsBlock r.verify.tables.of p.verify.now p.fill.now → RunsBlock r.ingress.tables.of p.ingress.now p.fill.now → RunsBlock r.egress.tables.of p.egress.now p.fill.now → RunsBlock r.compute.tables.of p.compute.now p.fill.now → RunsBlock r.deparse.tables.of p.deparse.now p.fill.now → AreRunners p r
are_runners p r is v i e c d = record { controls = by } where
  by : (block : Block) → DoesControl (setting_of p) block (filled_of r block).fill.now (filled_of r block).block.now
  by Verify = does_by (setting_of p) Verify r.verify.tables.of p.verify.now p.fill.now v (is.controls Verify)
  by Ingress = does_by (setting_of p) Ingress r.ingress.tables.of p.ingress.now p.fill.now i (is.controls Ingress)
  by Egress = does_by (setting_of p) Egress r.egress.tables.of p.egress.now p.fill.now e (is.controls Egress)
  by Compute = does_by (setting_of p) Compute r.compute.tables.of p.compute.now p.fill.now c (is.controls Compute)
  by Deparse = does_by (setting_of p) Deparse r.deparse.tables.of p.deparse.now p.fill.now d (is.controls Deparse)

pub verify_applies : (p : Prepared) → IsPrepared p → CanApply p.verify.now
verify_applies p is = (is.controls Verify).applies

pub ingress_applies : (p : Prepared) → IsPrepared p → CanApply p.ingress.now
ingress_applies p is = (is.controls Ingress).applies

pub egress_applies : (p : Prepared) → IsPrepared p → CanApply p.egress.now
egress_applies p is = (is.controls Egress).applies

pub compute_applies : (p : Prepared) → IsPrepared p → CanApply p.compute.now
compute_applies p is = (is.controls Compute).applies

pub deparse_applies : (p : Prepared) → IsPrepared p → CanApply p.deparse.now
deparse_applies p is = (is.controls Deparse).applies

pub over_ground : (c : Setting) (g : Ground) (f : Cells) (store : Contents) (unparsed : List ℕ) (r : Run) → IsGroundOf c g → IsFrameOf c.syntax f → r.waiting.layout ≡ layout16 c.syntax → store.shapes ≡ objects_of c → IsOver g (moment f store unparsed r)
over_ground c g f store unparsed r ground frame waiting shapes = record {
  cells = frame.layout ∙ sym ground.layout;
  waiting = waiting ∙ sym ground.layout;
  shapes = shapes ∙ sym ground.shapes;
}

-- a run begins with a frame of the program in which arguments wait
pub waits : (p : Prepared) (store : Contents) (s : ParserMachine) (emitted : List Bool) (work : ℕ) (q : Run) → CanBegin p store s → q ≡ begun_run emitted work s.run → AreWhole q.waiting → IsFrameOf p.packets.now q.waiting
waits p store s emitted work q rests begins whole =
    record { layout = ap (λ (x : Run). x.waiting.layout) begins ∙ rests.waiting; whole = whole }

module _ (p : Prepared) (block : Block) (r : Runners) (f g : Cells) (store after : Contents) (unparsed emitted : List ℕ) (work : ℕ) (s : ParserMachine) (q t : Run) (are : AreRunners p r) (frame : IsFrameOf p.packets.now f) (rests : CanBegin p store s) (begins : q ≡ begun_run (octet_bits emitted) work s.run) (whole : AreWhole q.waiting) (comes : Comes (ground_of (filled_of r block).block.now.code) (ready_run (filled_of r block).fill.now (seen_block (filled_of r block).block.now) (moment f store unparsed q)) (moment g after unparsed t)) where
  abbrev control_start : sem.Moment
  control_start = moment_at p.packets.now f store unparsed emitted q.work

  control_shown : Shows p.packets.now nobody (control16 (setting_of p) block control_start) (moment g after unparsed t)
  control_shown =
      subst (λ (x : Moment). Shows p.packets.now nobody (control16 (setting_of p) block control_start) x) comes.comes
      ((are.controls block).shows control_start (moment f store unparsed q)
      (begins_so p.packets.now f store unparsed emitted q frame (sym (ap (λ (x : Run). x.emitted) begins)) (ap (λ (x : Run). x.stopped) begins) (ap (λ (x : Run). x.hit) begins))
      (waits p store s (octet_bits emitted) work q rests begins whole) refl refl)

  pub control_frame : IsFrameOf p.packets.now g
  control_frame = control_shown.whole

  pub control_runs : (done : ℕ) (out : List ℕ) → IsOctets emitted → HasEnded t out → done ≡ t.work → control16 (setting_of p) block (moment_at p.packets.now f store unparsed emitted work) ≡ moment_at p.packets.now g after unparsed out done
  control_runs done out octets ends counted =
      ap (λ (n : ℕ). control16 (setting_of p) block (moment_at p.packets.now f store unparsed emitted n)) (sym (ap (λ (x : Run). x.work) begins))
      ∙ fixed p.packets.now (control16 (setting_of p) block control_start) g after unparsed out t control_shown
      ((are.controls block).emits control_start octets) ends
      ∙ ap (moment_at p.packets.now g after unparsed out) (sym counted)

pub block_applies : (p : Prepared) (r : Runners) (block : Block) (of : FilledBlock) → AreRunners p r → of ≡ filled_of r block → CanApply of.block.now
block_applies p r block of are is = subst (λ (x : FilledBlock). CanApply x.block.now) (sym is) ((are.controls block).applies)

pub over_control : (p : Prepared) (block : Block) (r : Runners) (f : Cells) (store : Contents) (unparsed : List ℕ) (emitted : List Bool) (work : ℕ) (s : ParserMachine) (q : Run) → AreRunners p r → IsFrameOf p.packets.now f → CanBegin p store s → q ≡ begun_run emitted work s.run → IsOver (ground_of (filled_of r block).block.now.code) (moment f store unparsed q)
over_control p block r f store unparsed emitted work s q are frame rests begins =
    over_ground (setting_of p) (ground_of (filled_of r block).block.now.code) f store unparsed q (are.controls block).ground frame
    (ap (λ (x : Run). x.waiting.layout) begins ∙ rests.waiting) rests.shapes

-- a control whose block leaves everything as it is does nothing
pub nothing_runs : (p : Prepared) (block : Block) (r : Runners) (of : FilledBlock) (f : Cells) (store : Contents) (unparsed emitted : List ℕ) (work : ℕ) (s : ParserMachine) → AreRunners p r → IsFrameOf p.packets.now f → CanBegin p store s → of ≡ filled_of r block → ((m : Moment) → ready_run of.fill.now (seen_block of.block.now) m ≡ m) → AreWhole s.run.waiting → IsOctets emitted → control16 (setting_of p) block (moment_at p.packets.now f store unparsed emitted work) ≡ moment_at p.packets.now f store unparsed emitted work
nothing_runs p block r of f store unparsed emitted work s are frame rests is none whole octets =
    let q = begun_run (octet_bits emitted) work s.run in
    let still : (m : Moment) → ready_run (filled_of r block).fill.now (seen_block (filled_of r block).block.now) m ≡ m = subst (λ (x : FilledBlock). (m : Moment) → ready_run x.fill.now (seen_block x.block.now) m ≡ m) is none in
    control_runs p block r f f store store unparsed emitted work s q q are frame rests refl whole
    (record { over = over_control p block r f store unparsed (octet_bits emitted) work s q are frame rests refl; comes = still (moment f store unparsed q) })
    work emitted octets (record { emitted = refl; octets = octets; stopped = refl; hit = refl }) refl

pub rests_behind : (p : Prepared) (block : Block) (r : Runners) (due : Moment) (f : Cells) (store : Contents) (unparsed : List ℕ) (s : ParserMachine) → AreRunners p r → Comes (ground_of (filled_of r block).block.now.code) due (moment f store unparsed s.run) → CanBegin p store s
rests_behind p block r due f store unparsed s are comes = record {
  waiting = comes.over.waiting ∙ (are.controls block).ground.layout;
  shapes = comes.over.shapes ∙ (are.controls block).ground.shapes;
}

-- the parser

parsed_by : (x : Parsed) (error : ParserError) (m : sem.Moment) → x.error ≡ error → x.moment ≡ m → x ≡ record { error = error; moment = m }
parsed_by x error m failed is =
    let P : ParserError → sem.Moment → Parsed = λ e n. record { error = e; moment = n } in
    ap (λ (e : ParserError). P e x.moment) failed ∙ ap (P error) is

-- a packet of which nothing is parsed

module _ (p : Prepared) (f : Cells) (store : Contents) (work : ℕ) (s m : ParserMachine) (is : IsPrepared p) (frame : IsFrameOf p.packets.now f) (rests : CanBegin p store s) (begins : m.run ≡ begun_run [] work s.run) (whole : AreWhole m.run.waiting) (nothing : m.parsed ≡ 0) (octets : List ℕ) where
  pub begun_works : Works p.states.now f store octets m
  begun_works = record {
    runnable = is.parser.runs;
    over = over_ground (setting_of p) (ground_of p.states.now.code) f store (drop m.parsed octets) m.run is.parser.ground frame (ap (λ (x : Run). x.waiting.layout) begins ∙ rests.waiting) rests.shapes;
    within = omega (arith, nothing);
  }

  parser_shown : ParseShows p.packets.now (parse16 (setting_of p) (moment_at p.packets.now f store (drop m.parsed octets) [] m.run.work)) (ready_parse (made_parser (made_of p.states.now octets) p.parser.now) (moment_of f store octets m))
  parser_shown =
      is.parser.shows (moment_at p.packets.now f store (drop m.parsed octets) [] m.run.work) (moment_of f store octets m)
      (begins_so p.packets.now f store (drop m.parsed octets) [] m.run frame (sym (ap (λ (x : Run). x.emitted) begins)) (ap (λ (x : Run). x.stopped) begins) (ap (λ (x : Run). x.hit) begins))
      (waits p store s [] work m.run rests begins whole) refl

  parsed_shown : (g : Cells) (after : Contents) (n : ParserMachine) → moment_of g after octets n ≡ (ready_parse (made_parser (made_of p.states.now octets) p.parser.now) (moment_of f store octets m)).moment → Shows p.packets.now nobody (parse16 (setting_of p) (moment_at p.packets.now f store (drop m.parsed octets) [] m.run.work)).moment (moment_of g after octets n)
  parsed_shown g after n moves =
      subst (λ (x : Moment). Shows p.packets.now nobody (parse16 (setting_of p) (moment_at p.packets.now f store (drop m.parsed octets) [] m.run.work)).moment x) (sym moves) parser_shown.moment

  pub left_frame : (g : Cells) (after : Contents) (n : ParserMachine) → moment_of g after octets n ≡ (ready_parse (made_parser (made_of p.states.now octets) p.parser.now) (moment_of f store octets m)).moment → IsFrameOf p.packets.now g
  left_frame g after n moves = (parsed_shown g after n moves).whole

  pub packet_runs : (g : Cells) (after : Contents) (n : ParserMachine) (error : ParserError) → error ≡ (ready_parse (made_parser (made_of p.states.now octets) p.parser.now) (moment_of f store octets m)).error → moment_of g after octets n ≡ (ready_parse (made_parser (made_of p.states.now octets) p.parser.now) (moment_of f store octets m)).moment → HasEnded n.run [] → parse16 (setting_of p) (moment_at p.packets.now f store octets [] work) ≡ record { error = error; moment = moment_at p.packets.now g after (drop n.parsed octets) [] n.run.work }
  packet_runs g after n error failed moves ends =
      ap (parse16 (setting_of p))
      (ap (λ (k : ℕ). moment_at p.packets.now f store (drop k octets) [] work) (sym nothing)
      ∙ ap (moment_at p.packets.now f store (drop m.parsed octets) []) (sym (ap (λ (x : Run). x.work) begins)))
      ∙ parsed_by (parse16 (setting_of p) (moment_at p.packets.now f store (drop m.parsed octets) [] m.run.work)) error (moment_at p.packets.now g after (drop n.parsed octets) [] n.run.work)
      (parser_shown.error ∙ sym failed)
      (fixed_silently p.packets.now (parse16 (setting_of p) (moment_at p.packets.now f store (drop m.parsed octets) [] m.run.work)).moment g after (drop n.parsed octets) n.run (parsed_shown g after n moves) ends)

pub left_rests : (p : Prepared) (g : Cells) (after : Contents) (octets : List ℕ) (n : ParserMachine) → IsPrepared p → Works p.states.now g after octets n → CanBegin p after n
left_rests p g after octets n is works = record {
  waiting = works.over.waiting ∙ is.parser.ground.layout;
  shapes = works.over.shapes ∙ is.parser.ground.shapes;
}
