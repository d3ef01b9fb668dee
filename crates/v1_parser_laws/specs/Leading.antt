-- When a ready transition leads where one of the program does (P4_16 1.2, "Transition statements", "Select expressions").
use Rattle.std.specs.Prelude.{◌≡◌, ◌⊎◌, List}
use Rattle.p416_syntax.specs.declared.parsers.Target.{Target}
use Rattle.p416_syntax.specs.Names.{Name}
use Rattle.v1_core.specs.declared.parser_error.ParserError.{ParserError}
use Rattle.v1_core.specs.Frames.{Moment}
use Rattle.v1_core.specs.Parsing.{Onward, finished, to_target}
use Rattle.v1_ready_laws.specs.Asked.{stopped_by}
use Rattle.v1_ready_selects.specs.declared.rows.Led.{Led}
use Rattle.v1_ready_selects.specs.declared.rows.Led.TheVariants.{To, Failed}
use Rattle.v1_ready_selects.specs.Rows.{next_for}

-- Both lead to one target, and the moment stayed as it was; or the same error ended both.
abbrev pub LeadAlike : List Name → Onward → Led → Moment → Type 0
LeadAlike names x led m =
    ((t : Target) × (x ≡ to_target t m) × (led ≡ To (next_for names t)))
    ⊎ ((e : ParserError) × (x ≡ finished (stopped_by e m)) × (led ≡ Failed e))
