-- What a block does, by what contracts see of what runs it.
use Rattle.std.proofs.Common.{◌≡◌, ℕ, List, [], None, Result, OnOk, ap, sym, subst, ◌∙◌}
use Rattle.p4x_bits.specs.BitLists.{octet_bits}
use Rattle.state_store.specs.State.{Contents}
use Rattle.v1_core.specs.declared.block.Block.{Block}
use Rattle.v1_core.specs.Frames as sem
use Rattle.v1_core.specs.Surroundings.{Setting}
use Rattle.v1_core.specs.Parsing.{Parsed, parse16}
use Rattle.v1_core.specs.Blocks.{control16}
use Rattle.v1_core.specs.Cells.{Cells}
use Rattle.v1_ready_blocks.specs.Moments.{Moment}
use Rattle.v1_ready_blocks.specs.Nodes.{statement_at}
use Rattle.v1_ready_blocks.specs.Statements.{Statement, nothing, run}
use Rattle.v1_ready_blocks.specs.Tables.{Fill}
use Rattle.v1_ready_blocks.specs.Blocks.{ready_run, world_of}
use Rattle.v1_statement_run.specs.declared.run.Run.{Run}
use Rattle.v1_statement_run.specs.Steps.{Comes, ground_of, trees_of}
use Rattle.v1_block_run.specs.declared.block.ReadyBlock.{ReadyBlock}
use Rattle.v1_block_run.specs.Blocks.{seen_block}
use Rattle.v1_block_tables.specs.declared.parts.FilledBlock.{FilledBlock}
use Rattle.v1_passes.specs.Moments.{moment_at}
use Rattle.v1_control_run.specs.declared.runners.Runners.{Runners}
use Rattle.v1_control_run.specs.Running.{Running}
use Rattle.v1_control_run.specs.internal.Runs.{begun_run, filled_of}

pub parsed_seen : (c : Setting) (store : Contents) (old : Running) (f : Cells) (octets : List ℕ) (work : ℕ) (y : Parsed) → record { setting = c; store = store } ≡ old → parse16 c (moment_at c.syntax f store octets [] work) ≡ y → parse16 old.setting (moment_at old.setting.syntax f old.store octets [] work) ≡ y
parsed_seen c store old f octets work y view is =
    subst (λ (r : Running). parse16 r.setting (moment_at r.setting.syntax f r.store octets [] work) ≡ y) view is

pub control_seen : (c : Setting) (store : Contents) (old : Running) (block : Block) (f : Cells) (unparsed emitted : List ℕ) (work : ℕ) (y : sem.Moment) → record { setting = c; store = store } ≡ old → control16 c block (moment_at c.syntax f store unparsed emitted work) ≡ y → control16 old.setting block (moment_at old.setting.syntax f old.store unparsed emitted work) ≡ y
control_seen c store old block f unparsed emitted work y view is =
    subst (λ (r : Running). control16 r.setting block (moment_at r.setting.syntax f r.store unparsed emitted work) ≡ y) view is

-- the block of a control ran
abbrev RanBy : Runners → Block → Moment → Moment → Type 0
RanBy r b before after =
    Comes (ground_of (filled_of r b).block.now.code) (ready_run (filled_of r b).fill.now (seen_block (filled_of r b).block.now) before) after

pub ran_so : {A E : Type 0} (result : Result A E) (r : Runners) (block b : Block) (before after : Moment) → block ≡ b → OnOk result (RanBy r b before after) → OnOk result (RanBy r block before after)
ran_so result r block b before after is ran =
    subst (λ (x : Block). OnOk result (RanBy r x before after)) (sym is) ran

pub slice_begins : (slice emitted : List ℕ) (work : ℕ) (before q : Run) → slice ≡ emitted → q ≡ begun_run (octet_bits slice) work before → q ≡ begun_run (octet_bits emitted) work before
slice_begins slice emitted work before q same begins =
    subst (λ (x : List ℕ). q ≡ begun_run (octet_bits x) work before) same begins

-- the block of a control, by the control
pub filled_so : (r : Runners) (block b : Block) (of : FilledBlock) → block ≡ b → of ≡ filled_of r b → of ≡ filled_of r block
filled_so r block b of is same = same ∙ ap (filled_of r) (sym is)

-- a block without statements leaves everything as it is
pub nothing_ran : (fill : Fill) (b : ReadyBlock) → statement_at (trees_of b.code) b.body ≡ nothing → (m : Moment) → ready_run fill (seen_block b) m ≡ m
nothing_ran fill b none m = ap (λ (s : Statement). run (world_of fill (seen_block b)) None s m) none
