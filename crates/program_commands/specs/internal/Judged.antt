-- What the calls below the commands answer.
use Rattle.std.specs.Prelude.{◌≡◌, List, ℕ, Result, Ok, Err}
use Rattle.p414_syntax.specs.declared.syntax.Syntax14.{Syntax14}
use Rattle.file_work.specs.declared.stop.Stop.{Stop}
use Rattle.file_work.specs.declared.stop.Stop.TheVariants.{Judged, Memory}
use Rattle.p414_syntax.specs.declared.rule.ProgramRule.{ProgramRule}
use Rattle.p414_syntax.specs.Breaks.{Breaks14, rule_fault}
use Rattle.p414_body_check.specs.Answers.{IsAccepted}
use Rattle.program_commands.specs.Answers.{IsAlone}
use Rattle.program_commands.specs.Programs.{TextIs}

-- the answer to a syntax, which may be want of memory
abbrev pub AnswersSyntax : Syntax14 → Result Syntax14 Stop → Type 0
AnswersSyntax s (Ok program) = (program ≡ s) × IsAccepted s
AnswersSyntax s (Err Memory) = Unit {0}
AnswersSyntax s (Err (Judged fault)) = (rule : ProgramRule) × Breaks14 s rule × (fault ≡ rule_fault rule)
AnswersSyntax s (Err stop) = ⊥

-- the answer to a text, which may be want of memory
abbrev pub AnswersText : List ℕ → Result Syntax14 Stop → Type 0
AnswersText text (Ok s) = IsAlone (TextIs text) (Ok s)
AnswersText text (Err Memory) = Unit {0}
AnswersText text (Err stop) = IsAlone (TextIs text) (Err stop)
