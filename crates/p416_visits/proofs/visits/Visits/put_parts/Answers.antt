use Rattle.std.proofs.Common.{◌≡◌, ◌∷◌}
use Rattle.std.proofs.lemmas.Result.{on_ok_weaker}
use Rattle.p416_visits.specs.declared.visits.Work.TheVariants as work
use Rattle.p416_visits.proofs.Visiting.{puts_block, puts_if, puts_if_else, puts_switch, puts_case, ends_block, ends_if, ends_if_else, ends_switch, ends_case}
use Rattle.p416_visits.proofs.visits.Visits.put_parts.Goals as goal

pub returns-in-Case-clause-within : goal.returns-in-Case-clause-within
returns-in-Case-clause-within c =
    on_ok_weaker c.put_cases.result
    (λ (put : c.put_cases.new.self.work ≡ work.Visit c.in-Case.before ∷ work.Shorten c.args.len ∷ work.VisitCase c.again.result c.in-Case.body ∷ work.Shorten c.args.len ∷ c.args.self.now.work) ds s high. rw (put, c.again.ensures, c.in-Case.ensures) (puts_case ds s c.args.len c.in-Case.before c.in-Case.field-1.now c.in-Case.body c.args.self.now.work high))
    c.put_cases.ensures

pub returns-in-Case-clause-behind : goal.returns-in-Case-clause-behind
returns-in-Case-clause-behind c =
    on_ok_weaker c.put_cases.result
    (λ (put : c.put_cases.new.self.work ≡ work.Visit c.in-Case.before ∷ work.Shorten c.args.len ∷ work.VisitCase c.again.result c.in-Case.body ∷ work.Shorten c.args.len ∷ c.args.self.now.work) ds s high. rw (put, c.in-Case.ensures) (ends_case ds s c.args.len c.in-Case.before c.in-Case.field-1.now c.in-Case.body c.args.self.now.work high))
    c.put_cases.ensures

pub returns-in-Block-clause-within : goal.returns-in-Block-clause-within
returns-in-Block-clause-within c =
    on_ok_weaker c.put_within.result
    (λ (put : c.put_within.new.self.work ≡ work.Visit c.in-Block.body ∷ work.Shorten c.args.len ∷ c.args.self.now.work) ds s high. rw (put, c.in-Block.ensures) (puts_block ds s c.args.len c.in-Block.body c.args.self.now.work high))
    c.put_within.ensures

pub returns-in-Block-clause-behind : goal.returns-in-Block-clause-behind
returns-in-Block-clause-behind c =
    on_ok_weaker c.put_within.result
    (λ (put : c.put_within.new.self.work ≡ work.Visit c.in-Block.body ∷ work.Shorten c.args.len ∷ c.args.self.now.work) ds s high. rw (put, c.in-Block.ensures) (ends_block ds s c.args.len c.in-Block.body c.args.self.now.work high))
    c.put_within.ensures

pub returns-in-If-clause-within : goal.returns-in-If-clause-within
returns-in-If-clause-within c =
    on_ok_weaker c.put_within-in-If.result
    (λ (put : c.put_within-in-If.new.self.work ≡ work.Visit c.in-If.positive ∷ work.Shorten c.args.len ∷ c.args.self.now.work) ds s high. rw (put, c.in-If.ensures) (puts_if ds s c.args.len c.in-If.field-0 c.in-If.positive c.args.self.now.work high))
    c.put_within-in-If.ensures

pub returns-in-If-clause-behind : goal.returns-in-If-clause-behind
returns-in-If-clause-behind c =
    on_ok_weaker c.put_within-in-If.result
    (λ (put : c.put_within-in-If.new.self.work ≡ work.Visit c.in-If.positive ∷ work.Shorten c.args.len ∷ c.args.self.now.work) ds s high. rw (put, c.in-If.ensures) (ends_if ds s c.args.len c.in-If.field-0 c.in-If.positive c.args.self.now.work high))
    c.put_within-in-If.ensures

pub returns-in-IfElse-clause-within : goal.returns-in-IfElse-clause-within
returns-in-IfElse-clause-within c =
    on_ok_weaker c.put_branches.result
    (λ (put : c.put_branches.new.self.work ≡ work.Visit c.in-IfElse.positive ∷ work.Shorten c.args.len ∷ work.Visit c.in-IfElse.negative ∷ work.Shorten c.args.len ∷ c.args.self.now.work) ds s high. rw (put, c.in-IfElse.ensures) (puts_if_else ds s c.args.len c.in-IfElse.field-0 c.in-IfElse.positive c.in-IfElse.negative c.args.self.now.work high))
    c.put_branches.ensures

pub returns-in-IfElse-clause-behind : goal.returns-in-IfElse-clause-behind
returns-in-IfElse-clause-behind c =
    on_ok_weaker c.put_branches.result
    (λ (put : c.put_branches.new.self.work ≡ work.Visit c.in-IfElse.positive ∷ work.Shorten c.args.len ∷ work.Visit c.in-IfElse.negative ∷ work.Shorten c.args.len ∷ c.args.self.now.work) ds s high. rw (put, c.in-IfElse.ensures) (ends_if_else ds s c.args.len c.in-IfElse.field-0 c.in-IfElse.positive c.in-IfElse.negative c.args.self.now.work high))
    c.put_branches.ensures

pub returns-in-Switch-clause-within : goal.returns-in-Switch-clause-within
returns-in-Switch-clause-within c =
    on_ok_weaker c.put_within-in-Switch.result
    (λ (put : c.put_within-in-Switch.new.self.work ≡ work.Visit c.in-Switch.cases ∷ work.Shorten c.args.len ∷ c.args.self.now.work) ds s high. rw (put, c.in-Switch.ensures) (puts_switch ds s c.args.len c.in-Switch.field-0.now c.in-Switch.cases c.args.self.now.work high))
    c.put_within-in-Switch.ensures

pub returns-in-Switch-clause-behind : goal.returns-in-Switch-clause-behind
returns-in-Switch-clause-behind c =
    on_ok_weaker c.put_within-in-Switch.result
    (λ (put : c.put_within-in-Switch.new.self.work ≡ work.Visit c.in-Switch.cases ∷ work.Shorten c.args.len ∷ c.args.self.now.work) ds s high. rw (put, c.in-Switch.ensures) (ends_switch ds s c.args.len c.in-Switch.field-0.now c.in-Switch.cases c.args.self.now.work high))
    c.put_within-in-Switch.ensures
