-- What an outcome says of a command that reads a program and writes no file.
use Rattle.std.proofs.Common.{◌≡◌, ◌⊎◌, inl, inr, ℕ, List, [], ◌∷◌, Option, Some, Result, Ok, Err, refl, sym, ◌∙◌, ap, subst, arith}
use Rattle.std.specs.Prelude.{IfErr, OnOk}
use Rattle.p4x_io.specs.Desk.{DeskView, SinkView, said}
use Rattle.p414_syntax.specs.declared.syntax.Syntax14.{Syntax14}
use Rattle.file_work.specs.declared.stop.Limited.TheVariants as limited
use Rattle.file_work.specs.declared.stop.Stop.{Stop}
use Rattle.file_work.specs.declared.stop.Stop.TheVariants.{Judged, Limit}
use Rattle.file_work.specs.Clauses.{Ended, ComesWhere, EndsAsDue, AsDue}
use Rattle.file_work.specs.Stops.{code_of, line_of, stop_code}
use Rattle.file_work.specs.Works.{Due, Held, Tells, IsLoose}
use Rattle.file_work.proofs.Ends.{is_usage, loose_code, not_done}
use Rattle.file_work.proofs.Laws.{IsDone, left_ends, left_as_due, left_done}
use Rattle.program_commands.specs.Commands.{ProgramDue, EndsAs, TakesText, RefusesText, OverText}
use Rattle.program_commands.specs.Programs.{ReadsOnce, ProgramIs, IsProgramStop}
use Rattle.program_commands.proofs.Stops.{FileStop, file_stops, one_program}
use Rattle.p4x_cmd.specs.Calls.{Printed, IsProgramStatus, ProgramStatuses, WorksOnProgram}

-- the status of what can stop it
status_of : (end : Result (List ℕ) Stop) → IfErr end IsProgramStop → IsProgramStatus (code_of end)
status_of (Ok line) only = inl refl
status_of (Err stop) (inl fault) = inr (inl (ap stop_code fault))
status_of (Err stop) (inr (inl memory)) = inr (inr (inr (inr (ap stop_code memory))))
status_of (Err stop) (inr (inr (inl (fault, judged)))) = inr (inr (inl (ap stop_code judged)))
status_of (Err stop) (inr (inr (inr limit))) = inr (inr (inr (inl (ap stop_code limit))))

-- a loose end under its status
loose_status : (status code : ℕ) (end : Result (List ℕ) Stop) → status ≡ code_of end → IsLoose end → (status ≡ code) ⊎ (status ≡ 1) ⊎ (status ≡ 7)
loose_status status code end whole loose = elim (loose_code end loose) [ inl one ↦ inr (inl (whole ∙ one)) | inr seven ↦ inr (inr (whole ∙ seven)) ]

module _ (Prints : Syntax14 → List ℕ → Type 0) (program : List ℕ) (old new : DeskView) where
  pub program_ends : (end : Result (List ℕ) Stop) → WorksOnProgram Prints program old new end
      → ((files : Held) → Tells (program ∷ []) old files → EndsAsDue (ProgramDue Prints program files) end) × IfErr end IsProgramStop
  program_ends end works = ((λ files told. left_ends [] (ProgramDue Prints program files) old new end (works.works.leaves files told)), works.only)

  module _ (before after : SinkView) (status : ℕ) (e : Ended (WorksOnProgram Prints program old new) before after status) where
    pub no_usage : status ≡ 2 → ⊥
    no_usage two = elim e.says.said [
      | inl whole ↦ e.is.works.cause.usage (is_usage e.end (sym whole.0 ∙ two))
      | inr cut ↦ omega (arith, cut.0)
    ]

    one_of : IsProgramStatus status
    one_of = elim e.says.said [
      | inl whole ↦ subst (λ (n : ℕ). IsProgramStatus n) (sym whole.0) (status_of e.end e.is.only)
      | inr cut ↦ inr (inl cut.0)
    ]

    module _ (files : Held) (told : Tells (program ∷ []) old files) where
      pub program_left : AsDue (ProgramDue Prints program files) old new status
      program_left = left_as_due [] (ProgramDue Prints program files) old new e.end (e.is.works.leaves files told) before after status e.says

      -- what the file comes to gives its status
      gives : (code : ℕ) (r : Result Syntax14 Stop) → ProgramIs (files program) r → (EndsAs Prints r e.end → code_of e.end ≡ code) → (status ≡ code) ⊎ (status ≡ 1) ⊎ (status ≡ 7)
      gives code r is so = elim e.says.said [
        | inl whole ↦ elim (e.is.by_file files told) [
          | inl loose ↦ loose_status status code e.end whole.0 loose
          | inr alone ↦ inl (whole.0 ∙ so (alone r is))
        ]
        | inr cut ↦ inr (inl cut.0)
      ]

      stop_gives : (stop : Stop) → ProgramIs (files program) (Err stop) → (status ≡ stop_code stop) ⊎ (status ≡ 1) ⊎ (status ≡ 7)
      stop_gives stop is = gives (stop_code stop) (Err stop) is (λ ends. ap code_of ends)

      taken_gives : (s : Syntax14) → ProgramIs (files program) (Ok s) → (status ≡ 0) ⊎ (status ≡ 1) ⊎ (status ≡ 7)
      taken_gives s is = gives 0 (Ok s) is (λ ends. ap code_of ends.2)

      by_due : (code : ℕ) (Q : Type 0) → (code ≡ 1 → ⊥) → (code ≡ 7 → ⊥) → ((d : Due) → ProgramDue Prints program files d → code_of d.end ≡ code → Q) → status ≡ code → Q
      by_due code Q not_one not_seven so is = of_due program_left
        where
          of_due : AsDue (ProgramDue Prints program files) old new status → Q
          of_due (inl one) = absurd (not_one (sym is ∙ one))
          of_due (inr (inl seven)) = absurd (not_seven (sym is ∙ seven))
          of_due (inr (inr due)) = so due.0 due.1 (sym due.2 ∙ is)

      accepted_due : (d : Due) → ProgramDue Prints program files d → code_of d.end ≡ 0 → TakesText program files
      accepted_due d (inl stopped) zero = absurd (not_done stopped.0 (sym zero ∙ ap (λ (x : Due). code_of x.end) stopped.2))
      accepted_due d (inr done) zero = (done.0, done.2)

      code_is : (d : Due) (stop : Stop) (code : ℕ) → d ≡ record { outs = []; end = Err stop } → code_of d.end ≡ code → stop_code stop ≡ code
      code_is d stop code is so = sym (ap (λ (x : Due). code_of x.end) is) ∙ so

      refused_due : (d : Due) → ProgramDue Prints program files d → code_of d.end ≡ 3 → RefusesText program files
      refused_due d (inl stopped) three = by_stop (file_stops (files program) stopped.0 stopped.1)
        where
          code : stop_code stopped.0 ≡ 3
          code = code_is d stopped.0 3 stopped.2 three

          by_stop : FileStop stopped.0 → RefusesText program files
          by_stop (inl fault) = absurd (omega (arith, sym (ap stop_code fault) ∙ code))
          by_stop (inr (inl (fault, judged))) = (fault, subst (λ (s : Stop). ProgramIs (files program) (Err s)) judged stopped.1)
          by_stop (inr (inr limit)) = absurd (omega (arith, sym (ap stop_code limit) ∙ code))
      refused_due d (inr done) three = absurd (omega (arith, sym (ap (λ (x : Due). code_of x.end) done.4) ∙ three))

      over_due : (d : Due) → ProgramDue Prints program files d → code_of d.end ≡ 6 → OverText program files
      over_due d (inl stopped) six = by_stop (file_stops (files program) stopped.0 stopped.1)
        where
          code : stop_code stopped.0 ≡ 6
          code = code_is d stopped.0 6 stopped.2 six

          by_stop : FileStop stopped.0 → OverText program files
          by_stop (inl fault) = absurd (omega (arith, sym (ap stop_code fault) ∙ code))
          by_stop (inr (inl (fault, judged))) = absurd (omega (arith, sym (ap stop_code judged) ∙ code))
          by_stop (inr (inr limit)) = subst (λ (s : Stop). ProgramIs (files program) (Err s)) limit stopped.1
      over_due d (inr done) six = absurd (omega (arith, sym (ap (λ (x : Due). code_of x.end) done.4) ∙ six))

      pub program_done : status ≡ 0 → Printed Prints program files before after
      program_done zero = by_done (left_done [] (ProgramDue Prints program files) old new e.end (e.is.works.leaves files told) before after status e.says zero)
        where
          by_done : IsDone (ProgramDue Prints program files) old new before after e.end → Printed Prints program files before after
          by_done d = of_due d.due_is
            where
              once_of : {line : List ℕ} → e.end ≡ Ok line → (text : List ℕ) → files program ≡ Some text → ReadsOnce text
              once_of is text here =
                  subst (λ (r : Result (List ℕ) Stop). OnOk r ((read : List ℕ) → old.told program ≡ Some (Some read) → ReadsOnce read)) is e.is.once
                  text (told.0 ∙ ap (λ (f : Option (List ℕ)). Some f) here)

              of_due : ProgramDue Prints program files d.what → Printed Prints program files before after
              of_due (inl stopped) = absurd (not_done stopped.0 (d.zero ∙ ap code_of d.end_is ∙ ap (λ (x : Due). code_of x.end) stopped.2))
              of_due (inr done) = record {
                source = done.0;
                line = done.1;
                taken = done.2;
                only = one_program (files program) done.0 done.2 (once_of (d.end_is ∙ ap (λ (x : Due). x.end) done.4));
                prints = done.3;
                line_is = d.printed ∙ ap (λ (x : Result (List ℕ) Stop). said before.printed (line_of x)) (d.end_is ∙ ap (λ (x : Due). x.end) done.4);
              }

    pub program_statuses : (files : Held) → ProgramStatuses program old files status
    program_statuses files = record { accepted = accepted; refused = refused; limit = limit; only = one_of }
      where
        accepted : Tells (program ∷ []) old files → ComesWhere status 0 (TakesText program files)
        accepted told = (by_due files told 0 _ (λ e. omega arith) (λ e. omega arith) (accepted_due files told), (λ is. taken_gives files told is.0 is.1))

        refused : Tells (program ∷ []) old files → ComesWhere status 3 (RefusesText program files)
        refused told = (by_due files told 3 _ (λ e. omega arith) (λ e. omega arith) (refused_due files told), (λ is. stop_gives files told (Judged is.0) is.1))

        limit : Tells (program ∷ []) old files → ComesWhere status 6 (OverText program files)
        limit told = (by_due files told 6 _ (λ e. omega arith) (λ e. omega arith) (over_due files told), (λ is. stop_gives files told (Limit limited.Program) is))
