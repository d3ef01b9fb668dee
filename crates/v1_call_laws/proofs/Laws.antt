-- The laws, by what is called.
use Rattle.std.proofs.Common.{◌≡◌, Bool, true, false, Option, Some, None, IfSome, List, [], length, map, refl, sym, ap, subst}
use Rattle.std.specs.Prelude.{option_map, option_and_then}
use Rattle.p416_syntax.specs.Tree.{Exp16, name, member, call, expression}
use Rattle.p416_syntax.specs.Kinds.{Kind, ObjectKind, object}
use Rattle.p416_syntax.specs.Names.{Name}
use Rattle.p416_syntax.specs.Scopes.{Handed, Sort, an_action, a_function, Scope, sort_of}
use Rattle.p416_syntax.specs.Calls.{Signature, statement, place_of}
use Rattle.p416_syntax.specs.Expressions.{kind_of, sort_signature}
use Rattle.p416_syntax.specs.Uses.{arguments_of, wanted_by}
use Rattle.p416_syntax.specs.Breaks.{BreaksNone, program_rules}
use Rattle.p416_syntax.specs.Declarations.{layouts_of}
use Rattle.v1_core.specs.Slots.{variable_kinds}
use Rattle.v1_core.specs.Surroundings as meaning
use Rattle.v1_core.specs.Surroundings.{action_named}
use Rattle.v1_core.specs.Numbered.{InScope}
use Rattle.v1_core.specs.Cells.{Cells}
use Rattle.v1_core.specs.PackedFrames.{IsFrameOf}
use Rattle.v1_core.specs.Scopes.{IsScope}
use Rattle.v1_ready_forms.specs.Named.{NamedSeat, seats_in}
use Rattle.v1_ready_laws.specs.Rules.{NamesSeated}
use Rattle.v1_block_laws.specs.Keeping.{ArgumentsKeep}
use Rattle.v1_block_laws.proofs.Apart.{body_scope}
use Rattle.v1_block_laws.proofs.Calling.{call_kept}
use Rattle.v1_ready_blocks.specs.Tests.{World}
use Rattle.v1_ready_blocks.specs.Arguments.{Incoming, Outgoing}
use Rattle.v1_ready_blocks.specs.Statements.{Statement, does, call as ready_call}
use Rattle.v1_ready_statements.specs.Around.{Around, Found, action_found}
use Rattle.v1_ready_statements.specs.Given.{any_applies, all_incoming, all_outgoing}
use Rattle.v1_ready_statements.specs.Called.{with_both, action_call, method_deed, named_statement, expression_ready}
use Rattle.v1_value_laws.specs.Kinds.{Fine}
use Rattle.v1_statement_laws.specs.Behind.{Waits}
use Rattle.v1_statement_laws.specs.Leaves.{RunsAlike, ActionDoes}
use Rattle.v1_statement_laws.proofs.Quiet.{no_tables}
use Rattle.v1_call_laws.specs.Telling.{TestsTell}
use Rattle.v1_call_laws.specs.Calling.{IsAround, StandardIsOwn, IsSame, CallFits}
use Rattle.v1_call_laws.specs.Sourcing.{SourcesTell, FormsAgree}
use Rattle.v1_call_laws.specs.Handing.{AreHanded, NamesDiffer}
use Rattle.v1_call_laws.specs.Laws.{QuietTestsTell, FunctionsCalled, ObjectsCalled, ActionsCalled, ActionsCalledApart, CallsFit}
use Rattle.v1_call_laws.proofs.Telling.{quiet_tell}
use Rattle.v1_call_laws.proofs.Functions.{function_called}
use Rattle.v1_call_laws.proofs.Objects.{object_called}
use Rattle.v1_call_laws.proofs.Called.{called_at_once}
use Rattle.v1_call_laws.proofs.Fits.{call_fits}
use Rattle.v1_call_laws.proofs.Apart.{tests_tell, sources_tell, called_apart}

module _ (P : Cells → Type 0) (b : Around) (w : meaning.World) (z : World) (s : Scope) (who : InScope) (accepted : BreaksNone b.syntax program_rules) (layouts : s.layouts ≡ layouts_of b.syntax.decls) (seated : NamesSeated s (seats_in b.syntax w.around.roots who)) (fine : Fine s) (scope : IsScope (length (variable_kinds b.syntax)) who) where
  abbrev seats : List NamedSeat
  seats = seats_in b.syntax w.around.roots who

  abbrev Alike : Exp16 → Exp16 → Option Statement → Type 0
  Alike callee handed o = IfSome o (RunsAlike P b w z s who [] (expression (call callee handed)))

  pub a_function_called : TestsTell P b w z s who → StandardIsOwn b.syntax → (text : Name) (handed : Exp16) → sort_of s text ≡ a_function → CallFits s (name text) handed → Alike (name text) handed (expression_ready b s seats (call (name text) handed))
  a_function_called tell own text handed is fits =
      subst (λ (x : Sort). Alike (name text) handed (named_statement b s seats x text (arguments_of handed))) (sym is)
      (function_called P b w z s who accepted layouts seated fine scope tell own text handed is fits)

  pub an_object_called : TestsTell P b w z s who → StandardIsOwn b.syntax → IsAround b w.around → (e handed : Exp16) (word : Name) (kind : ObjectKind) → kind_of s e ≡ object kind → CallFits s (member e word) handed → Alike (member e word) handed (expression_ready b s seats (call (member e word) handed))
  an_object_called tell own around e handed word kind is fits =
      subst (λ (j : Kind). Alike (member e word) handed (option_map does (method_deed b s seats j e word (arguments_of handed)))) (sym is)
      (object_called P b w z s who accepted layouts seated fine scope tell own e handed word kind around is fits)

  -- the arguments of a call of an action
  handed_kept : (text plane : Name) (handed : Exp16) (hs : List Handed) → sort_of s text ≡ an_action plane hs → CallFits s (name text) handed → ArgumentsKeep s (map place_of hs) (arguments_of handed)
  handed_kept text plane handed hs is fits =
      subst (λ (o : Option Signature). ArgumentsKeep s (wanted_by o) (arguments_of handed)) (ap (λ (x : Sort). sort_signature x text) is) (call_kept s statement (name text) handed fits.keeps)

  pub an_action_called : TestsTell P b w z s who → SourcesTell P b w z s who → FormsAgree b.syntax → w.around.scope.layouts ≡ layouts_of b.syntax.decls → (text plane : Name) (handed : Exp16) (hs : List Handed) (f : Found) → ActionDoes P b w z who f → NamesDiffer f.place.of.parameters → sort_of s text ≡ an_action plane hs → action_found b text ≡ Some f → action_named w.around text ≡ Some f.place.of → AreHanded s w.around.scope hs f.place.of.parameters → CallFits s (name text) handed → any_applies s (arguments_of handed) ≡ false → Alike (name text) handed (expression_ready b s seats (call (name text) handed))
  an_action_called tell sources agree same_types text plane handed hs f does_so differ is found named are fits none =
      subst (λ (x : Sort). Alike (name text) handed (named_statement b s seats x text (arguments_of handed))) (sym is)
      (subst (λ (o : Option Found). Alike (name text) handed (option_and_then (action_call b s seats (arguments_of handed)) o)) (sym found)
      (subst (λ (t : Bool). Alike (name text) handed (with_both (ready_call f.number t) (all_incoming b s seats f.place.first f.place.of.parameters (arguments_of handed)) (all_outgoing b s seats f.place.first f.place.of.parameters (arguments_of handed)))) (sym none)
      (by (all_incoming b s seats f.place.first f.place.of.parameters (arguments_of handed)) (all_outgoing b s seats f.place.first f.place.of.parameters (arguments_of handed)) refl refl))) where
        by : (o : Option (List Incoming)) (p : Option (List Outgoing)) → all_incoming b s seats f.place.first f.place.of.parameters (arguments_of handed) ≡ o → all_outgoing b s seats f.place.first f.place.of.parameters (arguments_of handed) ≡ p → Alike (name text) handed (with_both (ready_call f.number false) o p)
        by None p enters backs = tt
        by (Some incs) None enters backs = tt
        by (Some incs) (Some outs) enters backs =
            called_at_once P b w z s who accepted layouts seated fine scope tell sources agree same_types text plane handed hs f incs outs does_so differ is named are (handed_kept text plane handed hs is fits) fits.told none enters backs

  pub any_action_called : ((c : Cells) → P c → IsFrameOf b.syntax c) → ((c : Cells) → IsFrameOf b.syntax c → P c) → ((c : Cells) → TestsTell (IsSame c) b w z s who) → ((c : Cells) → SourcesTell (IsSame c) b w z s who) → FormsAgree b.syntax → w.around.scope.layouts ≡ layouts_of b.syntax.decls → (text plane : Name) (handed : Exp16) (hs : List Handed) (f : Found) → ActionDoes P b w z who f → NamesDiffer f.place.of.parameters → sort_of s text ≡ an_action plane hs → action_found b text ≡ Some f → action_named w.around text ≡ Some f.place.of → AreHanded s w.around.scope hs f.place.of.parameters → CallFits s (name text) handed → Alike (name text) handed (expression_ready b s seats (call (name text) handed))
  any_action_called framed waiting_framed tell sources agree same_types text plane handed hs f does_so differ is found named are fits = either (any_applies s (arguments_of handed)) refl where
    apart : any_applies s (arguments_of handed) ≡ true → Alike (name text) handed (expression_ready b s seats (call (name text) handed))
    apart some =
        subst (λ (x : Sort). Alike (name text) handed (named_statement b s seats x text (arguments_of handed))) (sym is)
        (subst (λ (o : Option Found). Alike (name text) handed (option_and_then (action_call b s seats (arguments_of handed)) o)) (sym found)
        (subst (λ (t : Bool). Alike (name text) handed (with_both (ready_call f.number t) (all_incoming b s seats f.place.first f.place.of.parameters (arguments_of handed)) (all_outgoing b s seats f.place.first f.place.of.parameters (arguments_of handed)))) (sym some)
        (by (all_incoming b s seats f.place.first f.place.of.parameters (arguments_of handed)) (all_outgoing b s seats f.place.first f.place.of.parameters (arguments_of handed)) refl refl))) where
          by : (o : Option (List Incoming)) (p : Option (List Outgoing)) → all_incoming b s seats f.place.first f.place.of.parameters (arguments_of handed) ≡ o → all_outgoing b s seats f.place.first f.place.of.parameters (arguments_of handed) ≡ p → Alike (name text) handed (with_both (ready_call f.number true) o p)
          by None p enters backs = tt
          by (Some incs) None enters backs = tt
          by (Some incs) (Some outs) enters backs =
              called_apart P b w z s who accepted layouts seated fine scope framed waiting_framed tell sources agree same_types text plane handed hs f incs outs does_so differ is named are (handed_kept text plane handed hs is fits) fits.told enters backs

    either : (t : Bool) → any_applies s (arguments_of handed) ≡ t → Alike (name text) handed (expression_ready b s seats (call (name text) handed))
    either true some = apart some
    either false none = an_action_called (tests_tell P b w z s who tell) (sources_tell P b w z s who sources) agree same_types text plane handed hs f does_so differ is found named are fits none

pub quiet_tests_tell : QuietTestsTell
quiet_tests_tell calls b w z from to n s who accepted at none =
    quiet_tell (Waits calls b.syntax) b w z s who accepted at.layouts at.seated at.fine (no_tables b none)

pub functions_called : FunctionsCalled
functions_called calls b w z from to n s who text handed accepted own at tell is fits =
    a_function_called (Waits calls b.syntax) b w z s who accepted at.layouts at.seated at.fine (body_scope (length (variable_kinds b.syntax)) from to n who at.body) tell own text handed is fits

pub objects_called : ObjectsCalled
objects_called calls b w z from to n s who e handed word kind accepted own at tell around is fits =
    an_object_called (Waits calls b.syntax) b w z s who accepted at.layouts at.seated at.fine (body_scope (length (variable_kinds b.syntax)) from to n who at.body) tell own around e handed word kind is fits

pub actions_called : ActionsCalled
actions_called calls b w z from to n s who text plane handed hs f accepted agree at same_types tell sources does_so differ is found named are fits none =
    an_action_called (Waits calls b.syntax) b w z s who accepted at.layouts at.seated at.fine (body_scope (length (variable_kinds b.syntax)) from to n who at.body) tell sources agree same_types text plane handed hs f does_so differ is found named are fits none

pub actions_called_apart : ActionsCalledApart
actions_called_apart b w z from to n s who text plane handed hs f accepted agree at same_types tell sources does_so differ is found named are fits =
    any_action_called (Waits true b.syntax) b w z s who accepted at.layouts at.seated at.fine (body_scope (length (variable_kinds b.syntax)) from to n who at.body) (λ c waits. waits refl) (λ c whole yes. whole) tell sources agree same_types text plane handed hs f does_so differ is found named are fits

pub calls_fit : CallsFit
calls_fit s g handed plain keeps fit count told = call_fits s plain g handed keeps fit count told
