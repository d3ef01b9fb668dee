-- An expression is a test where a table is applied in one of its parts, and else a ready expression.
use Rattle.std.proofs.Common.{◌≡◌, Bool, true, false, Option, None, refl, sym, ap}
use Rattle.std.specs.Prelude.{◌||◌, if◌then◌else◌, option_map}
use Rattle.v1_core.specs.Ready.{Ready}
use Rattle.v1_ready_blocks.specs.Tests.{Test, plain}
use Rattle.v1_ready_program.specs.internal.Passes.{Plan, made}
use Rattle.v1_ready_statements.specs.Tested.{by_application}
use Rattle.v1_ready_tests.specs.internal.Passes.{plainly, tested, as_ready, as_test, has_table, chosen_made}

pub applied_raw : (has : Bool) (r : Option Ready) (t : Option Test) → has ≡ true → t ≡ by_application has r t
applied_raw true r t is = refl
applied_raw false r t is = absurd (cc is)

pub unapplied : (has : Bool) (r : Option Ready) (t : Option Test) → has ≡ false → by_application has r t ≡ option_map plain r
unapplied true r t is = absurd (cc is)
unapplied false r t is = refl

pub first_false : (a b : Bool) → (a || b) ≡ false → a ≡ false
first_false true b is = absurd (cc is)
first_false false b is = refl

pub second_false : (a b : Bool) → (a || b) ≡ false → b ≡ false
second_false true b is = absurd (cc is)
second_false false b is = is

-- what is no test isn't one of its own
pub as_chosen : (has own : Bool) (r : Option Ready) (t : Option Test) → (has ≡ false → t ≡ option_map plain r) → as_test (chosen_made has own r t) ≡ t
as_chosen true own r t is = refl
as_chosen false own r t is = sym (is refl)

pub nothing_ready : (has own : Bool) (t : Option Test) → as_ready (chosen_made has own None t) ≡ None
nothing_ready true own t = refl
nothing_ready false own t = refl

-- of one part, of two, of three, and of a call

pub of_one : (has own : Bool) (r r' : Option Ready) (t t' x : Option Test) (plan : Plan)
    → made plan (record { first = r; second = None; third = None }) ≡ r' → (has ≡ true → x ≡ t')
    → (if has_table (chosen_made has own r t) then tested false x
    else plainly (made plan (record { first = as_ready (chosen_made has own r t); second = None; third = None }))) ≡ chosen_made has false r' t'
of_one true own r r' t t' x plan ready test = ap (tested false) (test refl)
of_one false own r r' t t' x plan ready test = ap plainly ready

pub of_two : (has own has2 own2 : Bool) (r r2 r' : Option Ready) (t t2 t' x : Option Test) (plan : Plan)
    → made plan (record { first = r; second = r2; third = None }) ≡ r' → ((has || has2) ≡ true → x ≡ t')
    → (if has_table (chosen_made has own r t) || has_table (chosen_made has2 own2 r2 t2) then tested false x
    else plainly (made plan (record { first = as_ready (chosen_made has own r t); second = as_ready (chosen_made has2 own2 r2 t2); third = None })))
    ≡ chosen_made (has || has2) false r' t'
of_two true own has2 own2 r r2 r' t t2 t' x plan ready test = ap (tested false) (test refl)
of_two false own true own2 r r2 r' t t2 t' x plan ready test = ap (tested false) (test refl)
of_two false own false own2 r r2 r' t t2 t' x plan ready test = ap plainly ready

pub of_three : (has own has2 own2 has3 own3 : Bool) (r r2 r3 r' : Option Ready) (t t2 t3 t' x : Option Test) (plan : Plan)
    → made plan (record { first = r; second = r2; third = r3 }) ≡ r' → ((has || has2 || has3) ≡ true → x ≡ t')
    → (if has_table (chosen_made has own r t) || has_table (chosen_made has2 own2 r2 t2) || has_table (chosen_made has3 own3 r3 t3) then tested false x
    else plainly (made plan (record { first = as_ready (chosen_made has own r t); second = as_ready (chosen_made has2 own2 r2 t2); third = as_ready (chosen_made has3 own3 r3 t3) })))
    ≡ chosen_made (has || has2 || has3) false r' t'
of_three true own true own2 has3 own3 r r2 r3 r' t t2 t3 t' x plan ready test = ap (tested false) (test refl)
of_three true own false own2 has3 own3 r r2 r3 r' t t2 t3 t' x plan ready test = ap (tested false) (test refl)
of_three false own true own2 has3 own3 r r2 r3 r' t t2 t3 t' x plan ready test = ap (tested false) (test refl)
of_three false own false own2 true own3 r r2 r3 r' t t2 t3 t' x plan ready test = ap (tested false) (test refl)
of_three false own false own2 false own3 r r2 r3 r' t t2 t3 t' x plan ready test = ap plainly ready

pub of_call : (own_call has own : Bool) (r r2 r' : Option Ready) (t t' x : Option Test) (plan : Plan)
    → made plan (record { first = r; second = r2; third = None }) ≡ r' → ((own_call || has) ≡ true → x ≡ t')
    → (if own_call || has_table (chosen_made has own r t) then tested own_call x
    else plainly (made plan (record { first = as_ready (chosen_made has own r t); second = r2; third = None })))
    ≡ chosen_made (own_call || has) own_call r' t'
of_call true has own r r2 r' t t' x plan ready test = ap (tested true) (test refl)
of_call false true own r r2 r' t t' x plan ready test = ap (tested false) (test refl)
of_call false false own r r2 r' t t' x plan ready test = ap plainly ready
