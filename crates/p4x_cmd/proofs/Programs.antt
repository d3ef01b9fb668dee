-- What the file of a program comes to.
use Rattle.std.proofs.Common.{◌≡◌, ◌⊎◌, inl, inr, ℕ, List, Option, Some, None, Result, Ok, Err, refl, sym, ◌∙◌, ap}
use Rattle.p414_syntax.specs.declared.syntax.Syntax14.{Syntax14}
use Rattle.p414_one_table.specs.declared.program.OneTable14.{OneTable14}
use Rattle.p414_one_table.specs.Form.{one_table_of}
use Rattle.file_work.specs.declared.stop.Limited.TheVariants.{Program as TheProgram, Entries, Ports, Capture, Text as TheText}
use Rattle.file_work.specs.declared.stop.Stop.{Stop}
use Rattle.file_work.specs.declared.stop.Stop.TheVariants.{Fault, Usage, Program, Judged, Unfit, Refused, Limit, Memory, Text}
use Rattle.file_work.proofs.Order.{loosely_as}
use Rattle.program_commands.specs.Answers as answered
use Rattle.program_commands.specs.Programs as programs
use Rattle.p4x_cmd.specs.Carry.{ProgramIs, ComesOnce, OfProgram}
use Rattle.p4x_cmd.specs.internal.Phases.{IsAlone, AnswersFile}

-- Where a stop comes from, in the order of the work: from the program, the entries or the ports alone, or from none of
-- them alone.
abbrev pub rank : Stop → ℕ
rank Program = 1
rank (Judged fault) = 1
rank (Limit TheProgram) = 1
rank (Unfit fault) = 2
rank (Limit Entries) = 2
rank (Limit Ports) = 3
rank (Limit Capture) = 4
rank Fault = 4
rank Usage = 4
rank (Refused fault) = 4
rank Memory = 4
rank (Text fault) = 4
rank (Limit TheText) = 4

pub rank_program : (stop : Stop) → OfProgram stop → rank stop ≡ 1
rank_program stop (inl is) = ap rank is
rank_program stop (inr (inl (fault, is))) = ap rank is
rank_program stop (inr (inr is)) = ap rank is

-- what stops the command at the file of its program
pub file_stops : (o : Option (List ℕ)) (stop : Stop) → ProgramIs o (Err stop) → (stop ≡ Fault) ⊎ OfProgram stop
file_stops None Fault is = inl refl
file_stops (Some text) Fault is = absurd is
file_stops o Program is = inr (inl refl)
file_stops o (Judged fault) is = inr (inr (inl (fault, refl)))
file_stops o (Limit TheProgram) is = inr (inr (inr refl))
file_stops None (Limit Entries) is = absurd is
file_stops None (Limit TheText) is = absurd is
file_stops (Some text) (Limit Entries) is = absurd is
file_stops (Some text) (Limit TheText) is = absurd is
file_stops None (Limit Ports) is = absurd is
file_stops (Some text) (Limit Ports) is = absurd is
file_stops None (Limit Capture) is = absurd is
file_stops (Some text) (Limit Capture) is = absurd is
file_stops None Usage is = absurd is
file_stops (Some text) Usage is = absurd is
file_stops None (Unfit fault) is = absurd is
file_stops None (Text fault) is = absurd is
file_stops (Some text) (Unfit fault) is = absurd is
file_stops (Some text) (Text fault) is = absurd is
file_stops None (Refused fault) is = absurd is
file_stops (Some text) (Refused fault) is = absurd is
file_stops None Memory is = absurd is
file_stops (Some text) Memory is = absurd is

-- nothing else does
pub not_here : (o : Option (List ℕ)) (stop : Stop) → ProgramIs o (Err stop) → (stop ≡ Fault → ⊥) → (rank stop ≡ 1 → ⊥) → ⊥
not_here o stop is no_fault behind = elim (file_stops o stop is) [ inl fault ↦ no_fault fault | inr own ↦ behind (rank_program stop own) ]

-- one thing only

pub alone_once : (o : Option (List ℕ)) (answer : Result OneTable14 Stop) → IsAlone o answer → ComesOnce o
alone_once o answer alone = λ a b one other. alone.1 a one ∙ sym (alone.1 b other)

module _ (o : Option (List ℕ)) (once : ComesOnce o) where
  pub taken_goes_on : (p : OneTable14) (stop : Stop) → ProgramIs o (Ok p) → ProgramIs o (Err stop) → ⊥
  taken_goes_on p stop taken is = let same : ◌≡◌ {A = Result OneTable14 Stop} (Ok p) (Err stop) = once (Ok p) (Err stop) taken is in cc same

  pub stops_alike : (a b : Stop) → ProgramIs o (Err a) → ProgramIs o (Err b) → a ≡ b
  stops_alike a b one other = let same : ◌≡◌ {A = Result OneTable14 Stop} (Err a) (Err b) = once (Err a) (Err b) one other in cc same

-- What follows from the answer to the file as a program of the whole language.

module _ (o : Option (List ℕ)) where
  -- what stops the reading of it stops the command
  as_stop : (stop : Stop) → programs.ProgramIs o (Err stop) → ProgramIs o (Err stop)
  as_stop Fault is = is
  as_stop Usage is = is
  as_stop Program is = absurd (none o is)
    where
      none : (o : Option (List ℕ)) → programs.ProgramIs o (Err Program) → ⊥
      none None is = is
      none (Some text) is = is
  as_stop (Judged fault) is = is
  as_stop (Unfit fault) is = is
  as_stop (Text fault) is = is
  as_stop (Refused fault) is = is
  as_stop (Limit file) is = is
  as_stop Memory is = is

  -- what the file comes to comes of what it is as a program of the whole language
  abbrev Whence : Result OneTable14 Stop → Type 0
  Whence (Ok p) = (s : Syntax14) × programs.ProgramIs o (Ok s) × (one_table_of s ≡ Some p)
  Whence (Err stop) = programs.ProgramIs o (Err stop) ⊎ ((stop ≡ Program) × ((s : Syntax14) × programs.ProgramIs o (Ok s) × (one_table_of s ≡ None)))

  whence : (r : Result OneTable14 Stop) → ProgramIs o r → Whence r
  whence (Ok p) is = is
  whence (Err Fault) is = inl is
  whence (Err Usage) is = inl is
  whence (Err Program) is = inr (refl, is)
  whence (Err (Judged fault)) is = inl is
  whence (Err (Unfit fault)) is = inl is
  whence (Err (Text fault)) is = inl is
  whence (Err (Refused fault)) is = inl is
  whence (Err (Limit file)) is = inl is
  whence (Err Memory) is = inl is

  module _ (s : Syntax14) (alone : answered.IsAlone (programs.ProgramIs o) (Ok s)) where
    syntax_is : (other : Syntax14) → programs.ProgramIs o (Ok other) → other ≡ s
    syntax_is other is = let same : ◌≡◌ {A = Result Syntax14 Stop} (Ok other) (Ok s) = alone.1 (Ok other) is in cc same

    no_stop : (stop : Stop) → programs.ProgramIs o (Err stop) → ⊥
    no_stop stop is = let same : ◌≡◌ {A = Result Syntax14 Stop} (Err stop) (Ok s) = alone.1 (Err stop) is in cc same

    pub answers_form : (p : OneTable14) → one_table_of s ≡ Some p → AnswersFile o (Ok p)
    answers_form p form = ((s, alone.0, form), λ other is. only other (whence other is))
      where
        only : (other : Result OneTable14 Stop) → Whence other → other ≡ Ok p
        only (Ok q) is =
            let found : ◌≡◌ {A = Option OneTable14} (Some q) (Some p) = sym is.2 ∙ ap one_table_of (syntax_is is.0 is.1) ∙ form in
            cc found
        only (Err stop) (inl is) = absurd (no_stop stop is)
        only (Err stop) (inr is) =
            let found : ◌≡◌ {A = Option OneTable14} None (Some p) = sym is.1.2 ∙ ap one_table_of (syntax_is is.1.0 is.1.1) ∙ form in
            cc found

    pub answers_no_form : one_table_of s ≡ None → AnswersFile o (Err Program)
    answers_no_form form = inr (inr ((s, alone.0, form), λ other is. only other (whence other is)))
      where
        only : (other : Result OneTable14 Stop) → Whence other → other ≡ Err Program
        only (Ok q) is =
            let found : ◌≡◌ {A = Option OneTable14} (Some q) None = sym is.2 ∙ ap one_table_of (syntax_is is.0 is.1) ∙ form in
            cc found
        only (Err stop) (inl is) = absurd (no_stop stop is)
        only (Err stop) (inr is) = ap (λ x. Err x) is.0

  pub answers_stop : (stop : Stop) → answered.AnswersFile o (Err stop) → AnswersFile o (Err stop)
  answers_stop stop answers = loosely_as stop _ _ alone answers
    where
      alone : answered.IsAlone (programs.ProgramIs o) (Err stop) → IsAlone o (Err stop)
      alone is = (as_stop stop is.0, λ other so. only other (whence other so))
        where
          no_program : (s : Syntax14) → programs.ProgramIs o (Ok s) → ⊥
          no_program s so = let same : ◌≡◌ {A = Result Syntax14 Stop} (Ok s) (Err stop) = is.1 (Ok s) so in cc same

          only : (other : Result OneTable14 Stop) → Whence other → other ≡ Err stop
          only (Ok q) so = absurd (no_program so.0 so.1)
          only (Err one) (inl so) = let same : ◌≡◌ {A = Result Syntax14 Stop} (Err one) (Err stop) = is.1 (Err one) so in cc same
          only (Err one) (inr so) = absurd (no_program so.1.0 so.1.1)
