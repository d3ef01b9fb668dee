-- What holds of the text of a program that was made from another one.
use Rattle.std.proofs.Common.{◌≡◌, true, ℕ, List, Option, Ok, refl, sym, subst}
use Rattle.p414_one_table.specs.declared.program.OneTable14.{OneTable14}
use Rattle.one_table_text.specs.declared.one_table.OneTable16.{OneTable16}
use Rattle.p4x_cmd.specs.Carries.{Carries}
use Rattle.p4x_cmd.specs.Carry.{ProgramIs, Written}
use Rattle.p4x_cmd.specs.FirstCut.{is_first_cut}
use Rattle.p414_one_table.specs.Programs.{is_one_table}
use Rattle.p416_syntax.specs.Breaks.{BreaksNone, program_rules}
use Rattle.p414_one_table.proofs.Forms.{form_is}
use Rattle.one_table_text.specs.Programs.{program16}
use Rattle.p4x_cmd.specs.internal.Lowering.{lowered}
use Rattle.p4x_cmd.specs.internal.Phases.{IsTextOf}
use Rattle.p4x_cmd.proofs.Carrying.{carries_is}
use Rattle.p4x_cmd.proofs.Lawful.{keeps_rules}

-- a program of the one-table form is one on which the meaning is whole
first_cut_is : (q : OneTable16) → is_first_cut (program16 q) ≡ true
unfolding program16
first_cut_is q = refl

taken_form : (program : Option (List ℕ)) (p : OneTable14) → ProgramIs program (Ok p) → is_one_table p ≡ true
taken_form program p is = form_is is.0 p is.2

pub written_is : (program : Option (List ℕ)) (p : OneTable14) (q : OneTable16) (text : List ℕ) → ProgramIs program (Ok p) → q ≡ lowered p → IsTextOf text (program16 q) → Written p text (program16 q)
written_is program p q text is same is_text =
    let form = taken_form program p is in
    record {
      reads = is_text.reads;
      only = is_text.only;
      typed = subst (λ (x : OneTable16). BreaksNone (program16 x) program_rules) (sym same) (keeps_rules p form);
      whole = first_cut_is q;
      carries = subst (λ (x : OneTable16). Carries p (program16 x)) (sym same) (carries_is p form);
    }
