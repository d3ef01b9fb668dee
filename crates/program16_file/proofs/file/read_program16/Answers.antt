use Rattle.std.proofs.Common.{ℕ, List, Option, Some, OnOk, sym, subst}
use Rattle.program16_file.specs.Answers.{AnswersFile}
use Rattle.program16_file.specs.internal.Judged.{AnswersText}
use Rattle.program16_file.specs.Programs.{ReadsOnce}
use Rattle.program16_file.proofs.Files.{file_within}
use Rattle.program16_file.proofs.Texts.{once_told}
use Rattle.program16_file.proofs.file.read_program16.Goals as goal

pub returns-clause-gives : goal.returns-clause-gives
returns-clause-gives g c = λ file told.
    let read = c.in-Ok.ensures.gives file told in
    subst (λ (f : Option (List ℕ)). AnswersFile f c.program_of.result) (sym read.0)
    (file_within c.in-Ok.text.items c.program_of.result read.1 (subst (λ (t : List ℕ). AnswersText t c.program_of.result) c.deref.ensures.value c.program_of.ensures.is))

pub returns-clause-once : goal.returns-clause-once
returns-clause-once g c =
    once_told c.program_of.result _ c.in-Ok.text.items
    (λ other told. let read = (c.in-Ok.ensures.gives (Some other) told).0 in cc read)
    (subst (λ (t : List ℕ). OnOk c.program_of.result (ReadsOnce t)) c.deref.ensures.value c.program_of.ensures.once)
