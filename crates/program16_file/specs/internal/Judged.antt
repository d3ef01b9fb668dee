-- What private functions answer (this project's own).
use Rattle.std.specs.Prelude.{◌≡◌, List, ℕ, Result, Ok, Err}
use Rattle.p416_syntax.specs.declared.program.Syntax16.{Syntax16}
use Rattle.file_work.specs.declared.stop.Stop.{Stop}
use Rattle.file_work.specs.declared.stop.Stop.TheVariants.{Text, Memory}
use Rattle.p416_syntax.specs.declared.rule.ProgramRule.{ProgramRule}
use Rattle.p416_syntax.specs.Breaks.{Breaks16, rule_number, rule_fault}
use Rattle.p416_types.specs.Answers.{IsAccepted}
use Rattle.program16_file.specs.Answers.{IsAlone}
use Rattle.program16_file.specs.Programs.{TextIs}

-- the answer to a syntax, which may be want of memory
abbrev pub AnswersSyntax : Syntax16 → Result Syntax16 Stop → Type 0
AnswersSyntax s (Ok program) = (program ≡ s) × IsAccepted s
AnswersSyntax s (Err Memory) = Unit {0}
AnswersSyntax s (Err (Text fault)) = (rule : ProgramRule) × Breaks16 s (rule_number rule) × (fault ≡ rule_fault rule)
AnswersSyntax s (Err stop) = ⊥

-- the answer to a text, which may be want of memory
abbrev pub AnswersText : List ℕ → Result Syntax16 Stop → Type 0
AnswersText text (Ok s) = IsAlone (TextIs text) (Ok s)
AnswersText text (Err Memory) = Unit {0}
AnswersText text (Err stop) = IsAlone (TextIs text) (Err stop)
