-- One thing only comes of a text.
use Rattle.std.proofs.Common.{◌≡◌, inl, inr, ℕ, List, Result, Ok, Err, OnOk, sym, ◌∙◌, ap, subst}
use Rattle.p4x_fault.specs.declared.Fault.{Fault as Refusal}
use Rattle.p416_syntax.specs.declared.program.Syntax16.{Syntax16}
use Rattle.p416_syntax.specs.declared.rule.ProgramRule.{ProgramRule}
use Rattle.p416_syntax.specs.Breaks.{Breaks16, rule_number, rule_fault}
use Rattle.p416_reader.specs.Reading.{Reads16, IsRefused16}
use Rattle.p416_types.specs.Answers.{IsAccepted}
use Rattle.file_work.specs.declared.stop.Stop.{Stop}
use Rattle.file_work.specs.declared.stop.Stop.TheVariants.{Fault, Usage, Program, Judged, Unfit, Refused, Limit, Memory, Text}
use Rattle.program16_file.specs.Programs.{ReadsOnce, IsTaken, BreaksRule, IsRefused, TextIs}
use Rattle.program16_file.specs.internal.Judged.{AnswersSyntax, AnswersText}
use Rattle.program16_file.proofs.Rules.{fault_once, accepted_not}

-- what comes of a text is a program or a refusal
other_is : (text : List ℕ) (answer : Result Syntax16 Stop) → ((s : Syntax16) → IsTaken text s → Ok s ≡ answer) → ((fault : Refusal) → IsRefused text fault → Err (Text fault) ≡ answer)
    → (other : Result Syntax16 Stop) → TextIs text other → other ≡ answer
other_is text answer taken refused (Ok s) is = taken s is
other_is text answer taken refused (Err Fault) is = absurd is
other_is text answer taken refused (Err Usage) is = absurd is
other_is text answer taken refused (Err Program) is = absurd is
other_is text answer taken refused (Err (Text fault)) is = refused fault is
other_is text answer taken refused (Err (Unfit fault)) is = absurd is
other_is text answer taken refused (Err (Judged fault)) is = absurd is
other_is text answer taken refused (Err (Refused fault)) is = absurd is
other_is text answer taken refused (Err (Limit file)) is = absurd is
other_is text answer taken refused (Err Memory) is = absurd is

-- a text that reads as a program
module _ (text : List ℕ) (s : Syntax16) (reads : Reads16 text s) (one : (other : Syntax16) → Reads16 text other → s ≡ other)
    (never : (fault : Refusal) → IsRefused16 text fault → ⊥) where
  -- it is refused only by a rule that this program breaks
  breaks_own : (fault : Refusal) → IsRefused text fault → (rule : ProgramRule) × Breaks16 s (rule_number rule) × (fault ≡ rule_fault rule)
  breaks_own fault (inl is) = absurd (never fault is)
  breaks_own fault (inr is) = (is.rule, subst (λ (t : Syntax16). Breaks16 t (rule_number is.rule)) (sym (one is.program is.reads)) is.breaks, is.fault_is)

  pub judged_text : (r : Result Syntax16 Stop) → AnswersSyntax s r → AnswersText text r
  judged_text (Ok p) is = (taken, other_is text (Ok p) (λ t h. ap (λ (q : Syntax16). Ok q) (sym (one t h.reads) ∙ sym is.0)) never_refused)
    where
      taken : IsTaken text p
      taken = record {
        reads = subst (λ (q : Syntax16). Reads16 text q) (sym is.0) reads;
        accepted = subst (λ (q : Syntax16). IsAccepted q) (sym is.0) is.1;
      }

      never_refused : (fault : Refusal) → IsRefused text fault → ◌≡◌ {A = Result Syntax16 Stop} (Err (Text fault)) (Ok p)
      never_refused fault refused = let own = breaks_own fault refused in absurd (accepted_not s own.0 is.1 own.1)
  judged_text (Err Fault) is = absurd is
  judged_text (Err Usage) is = absurd is
  judged_text (Err Program) is = absurd is
  judged_text (Err (Text fault)) is = (inr broken, other_is text (Err (Text fault)) never_taken same)
    where
      broken : BreaksRule text fault
      broken = record { program = s; rule = is.0; reads = reads; breaks = is.1; fault_is = is.2 }

      never_taken : (t : Syntax16) → IsTaken text t → ◌≡◌ {A = Result Syntax16 Stop} (Ok t) (Err (Text fault))
      never_taken t h = absurd (accepted_not s is.0 (subst (λ (q : Syntax16). IsAccepted q) (sym (one t h.reads)) h.accepted) is.1)

      same : (other : Refusal) → IsRefused text other → ◌≡◌ {A = Result Syntax16 Stop} (Err (Text other)) (Err (Text fault))
      same other refused =
          let own = breaks_own other refused in
          ap (λ (f : Refusal). Err (Text f)) (own.2 ∙ fault_once s own.0 is.0 own.1 is.1 ∙ sym is.2)
  judged_text (Err (Unfit fault)) is = absurd is
  judged_text (Err (Judged fault)) is = absurd is
  judged_text (Err (Refused fault)) is = absurd is
  judged_text (Err (Limit file)) is = absurd is
  judged_text (Err Memory) is = tt

-- a text that reads as no program
pub unread_text : (text : List ℕ) (fault : Refusal) → IsRefused16 text fault → ((s : Syntax16) → Reads16 text s → ⊥) → ((other : Refusal) → IsRefused16 text other → fault ≡ other)
    → AnswersText text (Err (Text fault))
unread_text text fault refused never one = (inl refused, other_is text (Err (Text fault)) (λ s is. absurd (never s is.reads)) same)
  where
    same : (other : Refusal) → IsRefused text other → ◌≡◌ {A = Result Syntax16 Stop} (Err (Text other)) (Err (Text fault))
    same other (inl is) = ap (λ (f : Refusal). Err (Text f)) (sym (one other is))
    same other (inr is) = absurd (never is.program is.reads)

-- a text that reads as a program reads as one
pub read_once : (text : List ℕ) (s : Syntax16) → ((other : Syntax16) → Reads16 text other → s ≡ other) → (r : Result Syntax16 Stop) → OnOk r (ReadsOnce text)
read_once text s one (Ok p) = λ a b reads other. sym (one a reads) ∙ one b other
read_once text s one (Err stop) = tt

-- the same of what is told of a file
pub once_told : (r : Result Syntax16 Stop) (P : List ℕ → Type 0) (text : List ℕ) → ((other : List ℕ) → P other → other ≡ text) → OnOk r (ReadsOnce text) → OnOk r ((other : List ℕ) → P other → ReadsOnce other)
once_told (Ok p) P text so once = λ other told. subst (λ (t : List ℕ). ReadsOnce t) (sym (so other told)) once
once_told (Err stop) P text so once = tt
