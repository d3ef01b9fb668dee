-- Conditions, calls and tables in a control, and in its actions.
use Rattle.std.proofs.Common.{◌≡◌, inl, ℕ, Bool, true, false, Option, Some, None, IfSome, List, ◌∷◌, length, refl, ap, subst}
use Rattle.std.specs.List.{list_any}
use Rattle.p416_syntax.specs.declared.controls.Control16.{Control16}
use Rattle.p416_syntax.specs.Tree.{Exp16, literal, truth, error, name, member, index, slice, call, lookahead, cast, unary, binary, choice, parenthesized, no_arguments, argument, listed}
use Rattle.p416_syntax.specs.Names.{Name}
use Rattle.p416_syntax.specs.Kinds.{Kind, bits, unsized, boolean, error_code, header, stack, struct, packet_in, packet_out, errors, enumeration, one_of, table, applied, object, items, nothing, unknown}
use Rattle.p416_syntax.specs.Scopes.{Sort, Scope}
use Rattle.p416_syntax.specs.Calls.{Place, value, callee, statement, unasked}
use Rattle.p416_syntax.specs.Expressions.{kind_of, signature_of}
use Rattle.p416_syntax.specs.Uses.{Use, an_expression, many, wanted_by, uses, uses_at}
use Rattle.p416_syntax.specs.Externs.{is_outside_block}
use Rattle.p416_syntax.specs.Applications.{applies_nothing, applies_wrongly, if_action}
use Rattle.p416_syntax.specs.Breaks.{BreaksNone, program_rules}
use Rattle.v1_core.specs.declared.block.Block.{Block}
use Rattle.v1_core.specs.Frames as sem
use Rattle.v1_core.specs.Slots.{variable_kinds}
use Rattle.v1_core.specs.Surroundings as meaning
use Rattle.v1_core.specs.Surroundings.{Setting}
use Rattle.v1_core.specs.Numbered.{Variable, InScope}
use Rattle.v1_core.specs.Statements.{condition}
use Rattle.v1_core.specs.Blocks.{around_control, control_at}
use Rattle.v1_core.specs.Cells.{Cells}
use Rattle.v1_core.specs.Scopes.{IsScope}
use Rattle.v1_ready_forms.specs.Named.{seats_in}
use Rattle.v1_ready_blocks.specs.Moments.{Moment}
use Rattle.v1_ready_blocks.specs.Tests.{World, Test, test_value}
use Rattle.v1_block_laws.specs.Variables.{scope_in_control, control_from}
use Rattle.v1_block_laws.proofs.Apart.{body_scope}
use Rattle.v1_ready_statements.specs.Around.{Around, Found, action_found, table_found}
use Rattle.v1_ready_statements.specs.Tested.{ready_test}
use Rattle.v1_ready_statements.specs.Blocks as ready
use Rattle.v1_statement_laws.specs.Behind.{Waits, Shown, Within, ValuedShows}
use Rattle.v1_statement_laws.specs.Meeting.{Judged}
use Rattle.v1_statement_laws.specs.Leaves.{ActionDoes}
use Rattle.v1_control_laws.specs.Controls.{Waiting, CallsSuch, rule_tests, ActionsDo, TablesDo}
use Rattle.v1_control_laws.proofs.Answering.{tables_tell}
use Rattle.v1_call_laws.specs.Telling.{IsValueOf, Tells, TestsTell}
use Rattle.v1_call_laws.specs.Calling.{CallFits}
use Rattle.v1_call_laws.specs.Sourcing.{SourcesTell}
use Rattle.v1_call_laws.specs.Whole.{CallTold, AtOnce, IsOther, CallShows, OtherShows}
use Rattle.v1_call_laws.specs.Controls.{AreOf, CalledDoes}
use Rattle.v1_call_laws.specs.Ruled.{Ruled}
use Rattle.v1_call_laws.specs.Standing.{StandsIn}
use Rattle.v1_call_laws.proofs.Fits.{call_fits}
use Rattle.v1_call_laws.proofs.Told.{rules_tell_none}
use Rattle.v1_call_laws.proofs.Standing.{calls_told_none}
use Rattle.v1_call_laws.proofs.Controls.{control_calls_show, control_calls_show_at_once}
use Rattle.v1_program_laws.specs.ControlLaws.{HeadersWhole}
use Rattle.v1_program_laws.proofs.Sought.{forms_agree, sources_told}
use Rattle.v1_program_laws.proofs.Quiet.{none_apply}
use Rattle.v1_program_laws.proofs.Others.{table_applied, packet_unread, stack_changed, packet_emits}
use Rattle.v1_ready_laws.proofs.Rules.{first_false, rest_none}

pub ruled : (s : Scope) (p : Place) (e : Exp16) → Judged rule_tests s p e → Ruled (uses s p e)
ruled s p e h = record { known = h.0; typed = h.1.1.0; placed = h.1.1.1.1.1.1.1.1.0 }

pub head_of : (s : Scope) (p : Place) (e : Exp16) (test : Use → Bool) → list_any test (uses s p e) ≡ false → test (an_expression s p e) ≡ false
head_of s p (literal n) test none = first_false (test (an_expression s p (literal n))) _ none
head_of s p (truth holds) test none = first_false (test (an_expression s p (truth holds))) _ none
head_of s p error test none = first_false (test (an_expression s p error)) _ none
head_of s p (name text) test none = first_false (test (an_expression s p (name text))) _ none
head_of s p (member e word) test none = first_false (test (an_expression s p (member e word))) _ none
head_of s p (index e i) test none = first_false (test (an_expression s p (index e i))) _ none
head_of s p (slice e high low) test none = first_false (test (an_expression s p (slice e high low))) _ none
head_of s p (call g more) test none = first_false (test (an_expression s p (call g more))) _ none
head_of s p (lookahead e to more) test none = first_false (test (an_expression s p (lookahead e to more))) _ none
head_of s p (cast to e) test none = first_false (test (an_expression s p (cast to e))) _ none
head_of s p (unary operator e) test none = first_false (test (an_expression s p (unary operator e))) _ none
head_of s p (binary operator a d) test none = first_false (test (an_expression s p (binary operator a d))) _ none
head_of s p (choice c a d) test none = first_false (test (an_expression s p (choice c a d))) _ none
head_of s p (parenthesized e) test none = first_false (test (an_expression s p (parenthesized e))) _ none
head_of s p no_arguments test none = first_false (test (an_expression s p no_arguments)) _ none
head_of s p (argument before last) test none = first_false (test (an_expression s p (argument before last))) _ none
head_of s p (listed es) test none = first_false (test (an_expression s p (listed es))) _ none

module _ (c : Setting) (place : Block) (k : Control16) (accepted : BreaksNone c.syntax program_rules) (found : control_at c.syntax place ≡ Some k) where
  abbrev pub B : Around
  B = ready.around_control c.syntax k

  abbrev pub block : Scope
  block = scope_in_control c.syntax k

  module _ (w : meaning.World) (z : World) (vars : List Variable) (from to : ℕ) (may : ℕ → Bool) (is : w.around ≡ around_control c place k) (tables : (p : Option Cells) → TablesDo (Waiting c.syntax p) B w z vars from to) where
    of : AreOf B w place k (control_from c.syntax k)
    of = record {
      found = found;
      around = record { syntax = ap (λ (a : meaning.Surroundings). a.setting.syntax) is; locals = ap (λ (a : meaning.Surroundings). a.locals) is };
      scope = ap (λ (a : meaning.Surroundings). a.scope) is;
      locals = refl;
      actions = refl;
    }

    module _ (s : Scope) (who : InScope) (n : ℕ) (at : Within vars c.syntax w.around.roots from to n s who) (stands : StandsIn block s) where
      pub tell : (p : Option Cells) → TestsTell (Waiting c.syntax p) B w z s who
      tell p = tables_tell p B w z s who accepted at.context.layouts at.context.seated at.context.fine (λ text. tables p s who n text at)

      pub sources : (p : Option Cells) → SourcesTell (Waiting c.syntax p) B w z s who
      sources p = sources_told (Waiting c.syntax p) B w z s who accepted at.context.layouts at.context.seated at.context.fine (tell p)

      -- a condition
      pub condition_shows : (p : Option Cells) (e : Exp16) → Judged rule_tests s (value boolean) e → IfSome (ready_test s (seats_in c.syntax w.around.roots who) (table_found B) (value boolean) e) (λ t. (m : sem.Moment) (j : Moment) → Shown (Waiting c.syntax p) c.syntax who m j → m.stopped ≡ None → ValuedShows (Waiting c.syntax p) c.syntax who (condition w s e m) (test_value z.apply t j))
      condition_shows p e judged = by (ready_test s (seats_in c.syntax w.around.roots who) (table_found B) (value boolean) e) (tell p (value boolean) (value boolean) e (judged.1.1.0, judged.1.0) (rules_tell_none s (value boolean) e stands.out tt (ruled s (value boolean) e judged))) where
        by : (o : Option Test) → IfSome o (Tells (Waiting c.syntax p) B w z s who (value boolean) e (IsValueOf (value boolean) (kind_of s e))) → IfSome o (λ t. (m : sem.Moment) (j : Moment) → Shown (Waiting c.syntax p) c.syntax who m j → m.stopped ≡ None → ValuedShows (Waiting c.syntax p) c.syntax who (condition w s e m) (test_value z.apply t j))
        by None h = tt
        by (Some t) h = λ m j shown runs. let y = h m j shown runs in inl (y.value, y.runs, y.shown)

      scope : IsScope (length (variable_kinds c.syntax)) who
      scope = body_scope (length (variable_kinds c.syntax)) from to n who at.context.body

      call_told : (e : Exp16) → Judged rule_tests s statement e → CallTold s e
      call_told e judged = calls_told_none block s e stands (ruled s statement e judged) judged.1.1.1.1.1.0

      -- calls of what this module has by itself
      other : (p : Option Cells) → HeadersWhole c.syntax → (e handed : Exp16) (word : Name) → Judged rule_tests s statement (call (member e word) handed) → IsOther (kind_of s e) → CallShows (Waiting c.syntax p) B w z s who (call (member e word) handed)
      other p whole e handed word judged h = by (kind_of s e) refl h where
        fits : CallFits s (member e word) handed
        fits = call_fits s stands.plain (member e word) handed (judged.1.1.0, judged.1.0) judged.1.1.1.0 judged.1.1.1.1.1.0 (call_told (call (member e word) handed) judged).1

        by : (j : Kind) → kind_of s e ≡ j → IsOther j → CallShows (Waiting c.syntax p) B w z s who (call (member e word) handed)
        by (bits width) same g = absurd g
        by unsized same g = absurd g
        by boolean same g = absurd g
        by error_code same g = absurd g
        by (header type) same g = absurd g
        by (stack type size) same g = stack_changed (Waiting c.syntax p) B w z s who accepted at.context.layouts at.context.seated at.context.fine scope e handed type word size same fits
        by (struct type) same g = absurd g
        by packet_in same g = packet_unread (Waiting c.syntax p) B w z s who stands.out e handed word same (head_of s statement (call (member e word) handed) is_outside_block judged.1.1.1.1.1.1.1.1.0)
        by packet_out same g = packet_emits (Waiting c.syntax p) B w z s who accepted at.context.layouts at.context.seated at.context.fine scope (sources p) whole e handed word same fits
        by errors same g = absurd g
        by (enumeration enum) same g = absurd g
        by (one_of enum) same g = absurd g
        by table same g = table_applied (Waiting c.syntax p) B w z s who (λ text. tables p s who n text at) e handed word same
        by applied same g = absurd g
        by (object obj) same g = absurd g
        by items same g = absurd g
        by nothing same g = absurd g
        by unknown same g = absurd g

      others : (p : Option Cells) → HeadersWhole c.syntax → (e : Exp16) → Judged rule_tests s statement e → OtherShows (Waiting c.syntax p) B w z s who e
      others p whole (literal n) judged = tt
      others p whole (truth holds) judged = tt
      others p whole error judged = tt
      others p whole (name text) judged = tt
      others p whole (member e word) judged = tt
      others p whole (index e i) judged = tt
      others p whole (slice e high low) judged = tt
      others p whole (call (literal n) more) judged = tt
      others p whole (call (truth holds) more) judged = tt
      others p whole (call error more) judged = tt
      others p whole (call (name text) more) judged = tt
      others p whole (call (member e word) more) judged = other p whole e more word judged
      others p whole (call (index e i) more) judged = tt
      others p whole (call (slice e high low) more) judged = tt
      others p whole (call (call f again) more) judged = tt
      others p whole (call (lookahead e to again) more) judged = tt
      others p whole (call (cast to e) more) judged = tt
      others p whole (call (unary operator e) more) judged = tt
      others p whole (call (binary operator a d) more) judged = tt
      others p whole (call (choice c a d) more) judged = tt
      others p whole (call (parenthesized e) more) judged = tt
      others p whole (call no_arguments more) judged = tt
      others p whole (call (argument before last) more) judged = tt
      others p whole (call (listed es) more) judged = tt
      others p whole (lookahead e to more) judged = tt
      others p whole (cast to e) judged = tt
      others p whole (unary operator e) judged = tt
      others p whole (binary operator a d) judged = tt
      others p whole (choice c a d) judged = tt
      others p whole (parenthesized e) judged = tt
      others p whole no_arguments judged = tt
      others p whole (argument before last) judged = tt
      others p whole (listed es) judged = tt

      -- the action that is called
      does : (p : Option Cells) → ActionsDo (Waiting c.syntax p) B w z vars from to may → (e : Exp16) → CallsSuch B may s e → CalledDoes (Waiting c.syntax p) B w z s who e
      does p actions (literal n) such = tt
      does p actions (truth holds) such = tt
      does p actions error such = tt
      does p actions (name text) such = tt
      does p actions (member e word) such = tt
      does p actions (index e i) such = tt
      does p actions (slice e high low) such = tt
      does p actions (call (literal n) more) such = tt
      does p actions (call (truth holds) more) such = tt
      does p actions (call error more) such = tt
      does p actions (call (name text) more) such = λ plane hs same. by (action_found B text) refl (subst (λ (x : Sort). IfSome (if_action text x) (λ t. (f : Found) → action_found B t ≡ Some f → may f.number ≡ true)) same such) where
        by : (o : Option Found) → action_found B text ≡ o → ((f : Found) → action_found B text ≡ Some f → may f.number ≡ true) → IfSome o (ActionDoes (Waiting c.syntax p) B w z who)
        by None found h = tt
        by (Some f) found h = actions s who n text f at found (h f found)
      does p actions (call (member e word) more) such = tt
      does p actions (call (index e i) more) such = tt
      does p actions (call (slice e high low) more) such = tt
      does p actions (call (call f again) more) such = tt
      does p actions (call (lookahead e to again) more) such = tt
      does p actions (call (cast to e) more) such = tt
      does p actions (call (unary operator e) more) such = tt
      does p actions (call (binary operator a d) more) such = tt
      does p actions (call (choice c a d) more) such = tt
      does p actions (call (parenthesized e) more) such = tt
      does p actions (call no_arguments more) such = tt
      does p actions (call (argument before last) more) such = tt
      does p actions (call (listed es) more) such = tt
      does p actions (lookahead e to more) such = tt
      does p actions (cast to e) such = tt
      does p actions (unary operator e) such = tt
      does p actions (binary operator a d) such = tt
      does p actions (choice c a d) such = tt
      does p actions (parenthesized e) such = tt
      does p actions no_arguments such = tt
      does p actions (argument before last) such = tt
      does p actions (listed es) such = tt

      -- a call in the body of the control
      pub call_shows : HeadersWhole c.syntax → ActionsDo (Waits true c.syntax) B w z vars from to may → (e : Exp16) → Judged rule_tests s statement e → CallsSuch B may s e → CallShows (Waits true c.syntax) B w z s who e
      call_shows whole actions e judged such =
          control_calls_show B w z place k (control_from c.syntax k) from to n s who e accepted of (forms_agree c.syntax accepted) at.context stands.within stands.plain (λ d. tell (Some d)) (λ d. sources (Some d))
          (does None actions e such) (others None whole e judged) (judged.1.1.0, judged.1.0) judged.1.1.1.0 judged.1.1.1.1.1.0 (call_told e judged)

      -- no table is applied in actions
      at_once : applies_nothing s.part ≡ true → (e : Exp16) → list_any applies_wrongly (uses s statement e) ≡ false → AtOnce s e
      at_once free (literal n) none = tt
      at_once free (truth holds) none = tt
      at_once free error none = tt
      at_once free (name text) none = tt
      at_once free (member e word) none = tt
      at_once free (index e i) none = tt
      at_once free (slice e high low) none = tt
      at_once free (call g more) none = none_apply s free (wanted_by (signature_of s g)) more (rest_none applies_wrongly (an_expression s statement (call g more) ∷ uses s callee g) (uses_at s (many (wanted_by (signature_of s g)) unasked) more) none)
      at_once free (lookahead e to more) none = tt
      at_once free (cast to e) none = tt
      at_once free (unary operator e) none = tt
      at_once free (binary operator a d) none = tt
      at_once free (choice c a d) none = tt
      at_once free (parenthesized e) none = tt
      at_once free no_arguments none = tt
      at_once free (argument before last) none = tt
      at_once free (listed es) none = tt

      -- a call in an action
      pub action_call_shows : (p : Option Cells) → HeadersWhole c.syntax → ActionsDo (Waiting c.syntax p) B w z vars from to may → applies_nothing s.part ≡ true → (e : Exp16) → Judged rule_tests s statement e → CallsSuch B may s e → CallShows (Waiting c.syntax p) B w z s who e
      action_call_shows p whole actions free e judged such =
          control_calls_show_at_once (Waiting c.syntax p) B w z place k (control_from c.syntax k) from to n s who e accepted of (forms_agree c.syntax accepted) at.context stands.within stands.plain (tell p) (sources p)
          (does p actions e such) (at_once free e judged.1.1.1.1.1.1.0) (others p whole e judged) (judged.1.1.0, judged.1.0) judged.1.1.1.0 judged.1.1.1.1.1.0 (call_told e judged)
