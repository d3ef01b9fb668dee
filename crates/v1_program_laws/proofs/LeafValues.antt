-- No stack tells anything in what is assigned, in what that is assigned to, and in initial values.
use Rattle.std.proofs.Common.{◌≡◌, ◌||◌, Bool, true, false, cond, ap, subst}
use Rattle.std.specs.List.{list_any}
use Rattle.p416_syntax.specs.Tree.{Exp16, literal, truth, error, name, member, index, slice, call, lookahead, cast, unary, binary, choice, parenthesized, no_arguments, argument, listed}
use Rattle.p416_syntax.specs.Kinds.{Kind, is_packet}
use Rattle.p416_syntax.specs.Scopes.{Scope}
use Rattle.p416_syntax.specs.Calls.{Place, value, target, unasked}
use Rattle.p416_syntax.specs.Expressions.{is_chosen}
use Rattle.p416_syntax.specs.Statements.{assigned_place}
use Rattle.p416_syntax.specs.Uses.{uses}
use Rattle.p416_syntax.specs.Writes.{writes_constant}
use Rattle.v1_statement_laws.specs.Meeting.{Judged}
use Rattle.v1_call_laws.specs.Telling.{ToldNone}
use Rattle.v1_call_laws.specs.Standing.{StandsIn}
use Rattle.v1_call_laws.proofs.Told.{CallHere, told, rules_tell_none}
use Rattle.v1_control_laws.specs.Controls.{rule_tests}
use Rattle.v1_program_laws.proofs.ControlLeaves.{ruled, head_of}

-- no call is written (T5)
written_here : (s : Scope) (e : Exp16) → list_any writes_constant (uses s target e) ≡ false → CallHere s target e
written_here s (call g more) none = absurd (cc (head_of s target (call g more) writes_constant none))
written_here s (literal n) none = tt
written_here s (truth holds) none = tt
written_here s error none = tt
written_here s (name text) none = tt
written_here s (member e word) none = tt
written_here s (index e at) none = tt
written_here s (slice e high low) none = tt
written_here s (lookahead e to more) none = tt
written_here s (cast to e) none = tt
written_here s (unary operator e) none = tt
written_here s (binary operator a d) none = tt
written_here s (choice c a d) none = tt
written_here s (parenthesized e) none = tt
written_here s no_arguments none = tt
written_here s (argument before last) none = tt
written_here s (listed es) none = tt

pub target_told : (block s : Scope) (e : Exp16) → StandsIn block s → Judged rule_tests s target e → ToldNone s e
target_told block s e stands judged = told s stands.out e false target (tt, written_here s e judged.1.1.1.1.0) (ruled s target e judged)

pub value_told : (block s : Scope) (k : Kind) (e : Exp16) → StandsIn block s → Judged rule_tests s (value k) e → ToldNone s e
value_told block s k e stands judged = rules_tell_none s (value k) e stands.out tt (ruled s (value k) e judged)

pub assigned_told : (block s : Scope) (k : Kind) (e : Exp16) → StandsIn block s → is_chosen k ≡ true → Judged rule_tests s (assigned_place k) e → ToldNone s e
assigned_told block s k e stands chosen judged =
    value_told block s k e stands (subst (λ (p : Place). Judged rule_tests s p e) (ap (λ (t : Bool). cond (t || is_packet k) (value k) unasked) chosen) judged)
