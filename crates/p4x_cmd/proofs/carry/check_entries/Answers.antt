use Rattle.std.proofs.Common.{◌≡◌, inr, ℕ, List, Option, Some, None, ◌∙◌, ap}
use Rattle.p4x_cmd.proofs.Taking.{entries_none, entries_some}
use Rattle.p4x_cmd.proofs.carry.check_entries.Goals as goal

pub returns-in-Ok-false-clause-gives : goal.returns-in-Ok-false-clause-gives
returns-in-Ok-false-clause-gives g c = λ file told.
    entries_none file (λ (absent : file ≡ None). c.in-Ok-false.ensures.there (told ∙ ap (λ (f : Option (List ℕ)). Some f) absent))
    (λ text is. rw c.in-Ok-false.field-0-test at (c.in-Ok-false.ensures.exact text (told ∙ ap (λ (f : Option (List ℕ)). Some f) is)))

pub returns-in-Ok-true-clause-gives : goal.returns-in-Ok-true-clause-gives
returns-in-Ok-true-clause-gives g c = λ file told.
    inr (inr (entries_some file (λ (absent : file ≡ None). c.in-Ok-true.ensures.there (told ∙ ap (λ (f : Option (List ℕ)). Some f) absent))
    (λ text is. rw c.in-Ok-true.field-0-test at (c.in-Ok-true.ensures.exact text (told ∙ ap (λ (f : Option (List ℕ)). Some f) is)))))
