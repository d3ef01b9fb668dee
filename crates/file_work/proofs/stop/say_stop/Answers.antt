use Rattle.std.proofs.Common.{◌≡◌, ℕ, List, [], ◌∷◌, ◌++◌, None, codes, ◌∙◌, ap, subst, arith}
use Rattle.std.specs.Fmt.{decimal}
use Rattle.std.proofs.lemmas.Fmt.{decimal_digit, decimal_step}
use Rattle.p4x_fault.specs.declared.Rule.TheVariants.{C}
use Rattle.p4x_fault.specs.Fault.{refusal_line}
use Rattle.p4x_io.specs.Desk.{SinkView}
use Rattle.p4x_io.specs.Files.{Says}
use Rattle.file_work.proofs.stop.say_stop.Goals as goal

two : decimal 2 ≡ 50 ∷ []
two = decimal_digit 2 (omega arith)

twenty_five : decimal 25 ≡ 50 ∷ 53 ∷ []
twenty_five = decimal_step 25 (omega arith) (omega arith) ∙ ap (λ (l : List ℕ). l ++ (53 ∷ [])) two

-- the line of the refusal whose rule is fixed
program_line : refusal_line (record { rule = C 25; place = None }) ≡ codes "refused C25\n"
program_line = ap (λ (l : List ℕ). codes "refused " ++ (codes "C" ++ l) ++ [] ++ codes "\n") twenty_five

-- what is said of a line is said of an equal one
of_equal : (a b : List ℕ) (due status : ℕ) (old new : SinkView) → a ≡ b → Says a due status old new → Says b due status old new
of_equal a b due status old new same says = subst (λ (l : List ℕ). Says l due status old new) same says

pub returns-in-Program : goal.returns-in-Program
returns-in-Program g c = rw c.in-Program.is (of_equal _ _ _ _ _ _ program_line c.say_refusal.ensures)
