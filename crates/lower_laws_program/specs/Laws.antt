-- The law of the program that is put together (this project's own; both languages are meant as a whole: P4_14 1.0.5,
-- and P4_16 1.2 with `v1model.p4`).
use Rattle.p414_sem.specs.Controls.{Setting as Setting14}
use Rattle.lower_laws_base.specs.Context.{StateLayout}
use Rattle.lower_laws_program.specs.Fits.{Carries, TranslationFits}
use Rattle.lower_laws_program.specs.Program.{Parts, syntax_of}
use Rattle.lower_laws_program.specs.TypesFit.{TypeWords}

-- A program whose parts are as asked carries the program of P4_14.
abbrev pub TranslationCarries : Type 0
TranslationCarries =
    (c14 : Setting14) (g : StateLayout) (t : TypeWords) (p : Parts) → TranslationFits c14 g t p → Carries c14 (syntax_of p)
