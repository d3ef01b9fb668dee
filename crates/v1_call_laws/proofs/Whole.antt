-- All calls as statements.
use Rattle.std.proofs.Common.{◌≡◌, true, false, Option, Some, None, IfSome, List, [], length, refl, sym, subst}
use Rattle.std.specs.Prelude.{option_map, option_and_then}
use Rattle.std.specs.List.{list_any}
use Rattle.p416_syntax.specs.Tree.{Exp16, literal, truth, error, name, member, index, slice, call, lookahead, cast, unary, binary, choice, parenthesized, no_arguments, argument, listed, expression}
use Rattle.p416_syntax.specs.Names.{Name}
use Rattle.p416_syntax.specs.Kinds.{Kind, bits, unsized, boolean, error_code, header, stack, struct, packet_in, packet_out, errors, enumeration, one_of, table, applied, object, items, nothing, unknown}
use Rattle.p416_syntax.specs.Scopes.{Sort, a_type, a_value, an_enumeration, a_function, an_object, an_action, a_table, a_state, a_block, undeclared, Handed, Scope, sort_of}
use Rattle.p416_syntax.specs.Calls.{statement}
use Rattle.p416_syntax.specs.Expressions.{kind_of}
use Rattle.p416_syntax.specs.Uses.{uses, arguments_of}
use Rattle.p416_syntax.specs.Literals.{overflows}
use Rattle.p416_syntax.specs.Arguments.{is_miscounted}
use Rattle.p416_syntax.specs.Breaks.{BreaksNone, program_rules}
use Rattle.p416_syntax.specs.Declarations.{layouts_of}
use Rattle.v1_core.specs.Slots.{variable_kinds}
use Rattle.v1_core.specs.Surroundings as meaning
use Rattle.v1_core.specs.Numbered.{InScope}
use Rattle.v1_core.specs.Cells.{Cells}
use Rattle.v1_core.specs.PackedFrames.{IsFrameOf}
use Rattle.v1_core.specs.Scopes.{IsScope}
use Rattle.v1_ready_forms.specs.Named.{NamedSeat, seats_in}
use Rattle.v1_ready_laws.specs.Rules.{Keeps, NamesSeated}
use Rattle.v1_block_laws.proofs.Apart.{body_scope}
use Rattle.v1_ready_blocks.specs.Tests.{World}
use Rattle.v1_ready_blocks.specs.Statements.{does}
use Rattle.v1_ready_statements.specs.Around.{Around, Found, action_found}
use Rattle.v1_ready_statements.specs.Called.{action_call, method_deed, named_statement}
use Rattle.v1_value_laws.specs.Kinds.{Fine}
use Rattle.v1_statement_laws.specs.Behind.{Waits}
use Rattle.v1_statement_laws.specs.Leaves.{RunsAlike}
use Rattle.v1_call_laws.specs.Telling.{ToldNone, TestsTell}
use Rattle.v1_call_laws.specs.Calling.{IsAround, StandardIsOwn, IsSame, CallFits, NamesPlain}
use Rattle.v1_call_laws.specs.Sourcing.{SourcesTell, FormsAgree}
use Rattle.v1_call_laws.specs.Whole.{CallTold, AtOnce, IsOther, CallShows, NamedShows, OtherShows, ActionCalls, ActionDone, CallsShow, CallsShowAtOnce}
use Rattle.v1_call_laws.proofs.Fits.{call_fits}
use Rattle.v1_call_laws.proofs.Apart.{tests_tell}
use Rattle.v1_call_laws.proofs.Gone.{values_gone, headers_done}
use Rattle.v1_call_laws.proofs.Laws.{a_function_called, an_object_called, an_action_called, any_action_called}

module _ (P : Cells → Type 0) (b : Around) (w : meaning.World) (z : World) (s : Scope) (who : InScope) (accepted : BreaksNone b.syntax program_rules) (layouts : s.layouts ≡ layouts_of b.syntax.decls) (seated : NamesSeated s (seats_in b.syntax w.around.roots who)) (fine : Fine s) (scope : IsScope (length (variable_kinds b.syntax)) who) (own : StandardIsOwn b.syntax) (around : IsAround b w.around) (plain : NamesPlain s) (tells : TestsTell P b w z s who) where
  abbrev seats : List NamedSeat
  seats = seats_in b.syntax w.around.roots who

  abbrev Alike : Exp16 → Type 0
  Alike e = CallShows P b w z s who e

  by_name : (text : Name) (handed : Exp16) → NamedShows P b w z s who (call (name text) handed) → CallFits s (name text) handed → Alike (call (name text) handed)
  by_name text handed shows fits = by (sort_of s text) refl where
    Is : Sort → Type 0
    Is x = IfSome (named_statement b s seats x text (arguments_of handed)) (RunsAlike P b w z s who [] (expression (call (name text) handed)))

    by : (x : Sort) → sort_of s text ≡ x → Is x
    by (a_type k) is = tt
    by (a_value k can) is = tt
    by (an_enumeration enum) is = tt
    by a_function is = subst Is is (a_function_called P b w z s who accepted layouts seated fine scope tells own text handed is fits)
    by (an_object obj) is = tt
    by (an_action plane hs) is = subst Is is (shows plane hs is)
    by (a_table actions counters) is = tt
    by a_state is = tt
    by a_block is = tt
    by undeclared is = tt

  by_member : (e handed : Exp16) (word : Name) → OtherShows P b w z s who (call (member e word) handed) → Keeps s statement (call (member e word) handed) → ToldNone s e → CallFits s (member e word) handed → Alike (call (member e word) handed)
  by_member e handed word others keeps told fits = by (kind_of s e) refl where
    Is : Kind → Type 0
    Is k = IfSome (option_map does (method_deed b s seats k e word (arguments_of handed))) (RunsAlike P b w z s who [] (expression (call (member e word) handed)))

    other : (k : Kind) → kind_of s e ≡ k → IsOther k → Is k
    other k is h = subst Is is (others (subst IsOther (sym is) h))

    by : (k : Kind) → kind_of s e ≡ k → Is k
    by (bits width) is = tt
    by unsized is = tt
    by boolean is = tt
    by error_code is = tt
    by (header type) is = subst Is is (headers_done P b w z s who accepted layouts seated fine scope tells e handed type word is keeps told)
    by (stack type size) is = other (stack type size) is tt
    by (struct type) is = tt
    by packet_in is = other packet_in is tt
    by packet_out is = other packet_out is tt
    by errors is = tt
    by (enumeration enum) is = tt
    by (one_of enum) is = tt
    by table is = other table is tt
    by applied is = tt
    by (object obj) is = subst Is is (an_object_called P b w z s who accepted layouts seated fine scope tells own around e handed word obj is fits)
    by items is = tt
    by nothing is = tt
    by unknown is = tt

  -- a statement that is an expression
  pub any_call_shown : (e : Exp16) → NamedShows P b w z s who e → OtherShows P b w z s who e → Keeps s statement e → list_any overflows (uses s statement e) ≡ false → list_any is_miscounted (uses s statement e) ≡ false → CallTold s e → Alike e
  any_call_shown (literal n) named others keeps fit count told = values_gone P b w z s who tells (literal n) tt keeps told
  any_call_shown (truth holds) named others keeps fit count told = values_gone P b w z s who tells (truth holds) tt keeps told
  any_call_shown error named others keeps fit count told = values_gone P b w z s who tells error tt keeps told
  any_call_shown (name text) named others keeps fit count told = values_gone P b w z s who tells (name text) tt keeps told
  any_call_shown (member f word) named others keeps fit count told = values_gone P b w z s who tells (member f word) tt keeps told
  any_call_shown (index f at) named others keeps fit count told = values_gone P b w z s who tells (index f at) tt keeps told
  any_call_shown (slice f high low) named others keeps fit count told = values_gone P b w z s who tells (slice f high low) tt keeps told
  any_call_shown (call (literal n) more) named others keeps fit count told = tt
  any_call_shown (call (truth holds) more) named others keeps fit count told = tt
  any_call_shown (call error more) named others keeps fit count told = tt
  any_call_shown (call (name text) more) named others keeps fit count told = by_name text more named (call_fits s plain (name text) more keeps fit count told)
  any_call_shown (call (member f word) more) named others keeps fit count told = by_member f more word others keeps told.0 (call_fits s plain (member f word) more keeps fit count told.1)
  any_call_shown (call (index f at) more) named others keeps fit count told = tt
  any_call_shown (call (slice f high low) more) named others keeps fit count told = tt
  any_call_shown (call (call h again) more) named others keeps fit count told = tt
  any_call_shown (call (lookahead f to again) more) named others keeps fit count told = tt
  any_call_shown (call (cast to f) more) named others keeps fit count told = tt
  any_call_shown (call (unary operator f) more) named others keeps fit count told = tt
  any_call_shown (call (binary operator a d) more) named others keeps fit count told = tt
  any_call_shown (call (choice c a d) more) named others keeps fit count told = tt
  any_call_shown (call (parenthesized f) more) named others keeps fit count told = tt
  any_call_shown (call no_arguments more) named others keeps fit count told = tt
  any_call_shown (call (argument before last) more) named others keeps fit count told = tt
  any_call_shown (call (listed es) more) named others keeps fit count told = tt
  any_call_shown (lookahead f to more) named others keeps fit count told = values_gone P b w z s who tells (lookahead f to more) tt keeps told
  any_call_shown (cast to f) named others keeps fit count told = values_gone P b w z s who tells (cast to f) tt keeps told
  any_call_shown (unary operator f) named others keeps fit count told = values_gone P b w z s who tells (unary operator f) tt keeps told
  any_call_shown (binary operator a d) named others keeps fit count told = values_gone P b w z s who tells (binary operator a d) tt keeps told
  any_call_shown (choice c a d) named others keeps fit count told = values_gone P b w z s who tells (choice c a d) tt keeps told
  any_call_shown (parenthesized f) named others keeps fit count told = values_gone P b w z s who tells (parenthesized f) tt keeps told
  any_call_shown no_arguments named others keeps fit count told = values_gone P b w z s who tells no_arguments tt keeps told
  any_call_shown (argument before last) named others keeps fit count told = values_gone P b w z s who tells (argument before last) tt keeps told
  any_call_shown (listed es) named others keeps fit count told = values_gone P b w z s who tells (listed es) tt keeps told

-- calls of actions
module _ (P : Cells → Type 0) (b : Around) (w : meaning.World) (z : World) (s : Scope) (who : InScope) (accepted : BreaksNone b.syntax program_rules) (layouts : s.layouts ≡ layouts_of b.syntax.decls) (seated : NamesSeated s (seats_in b.syntax w.around.roots who)) (fine : Fine s) (scope : IsScope (length (variable_kinds b.syntax)) who) (agree : FormsAgree b.syntax) (same_types : w.around.scope.layouts ≡ layouts_of b.syntax.decls) where
  found_shows : (text : Name) (handed : Exp16) (hs : List Handed) → ((f : Found) → action_found b text ≡ Some f → ActionCalls P b w z s who text hs f → CallShows P b w z s who (call (name text) handed)) → (plane : Name) → sort_of s text ≡ an_action plane hs → IfSome (action_found b text) (ActionCalls P b w z s who text hs) → CallShows P b w z s who (call (name text) handed)
  found_shows text handed hs each plane is = by (action_found b text) refl where
    by : (o : Option Found) → action_found b text ≡ o → IfSome o (ActionCalls P b w z s who text hs) → CallShows P b w z s who (call (name text) handed)
    by None found h =
        subst (λ (x : Sort). IfSome (named_statement b s (seats_in b.syntax w.around.roots who) x text (arguments_of handed)) (RunsAlike P b w z s who [] (expression (call (name text) handed)))) (sym is)
        (subst (λ (q : Option Found). IfSome (option_and_then (action_call b s (seats_in b.syntax w.around.roots who) (arguments_of handed)) q) (RunsAlike P b w z s who [] (expression (call (name text) handed)))) (sym found) tt)
    by (Some f) found h = each f found h

  -- where none of their arguments applies a table
  pub at_once_shown : NamesPlain s → TestsTell P b w z s who → SourcesTell P b w z s who → (e : Exp16) → AtOnce s e → Keeps s statement e → list_any overflows (uses s statement e) ≡ false → list_any is_miscounted (uses s statement e) ≡ false → CallTold s e → ActionDone P b w z s who e → NamedShows P b w z s who e
  at_once_shown plain tell sources (call (name text) handed) none keeps fit count told done = λ plane hs is.
      found_shows text handed hs (λ f found h. an_action_called P b w z s who accepted layouts seated fine scope tell sources agree same_types text plane handed hs f h.0 h.1 is found h.2 h.3 (call_fits s plain (name text) handed keeps fit count told) none) plane is (done plane hs is)
  at_once_shown plain tell sources (literal n) none keeps fit count told done = tt
  at_once_shown plain tell sources (truth holds) none keeps fit count told done = tt
  at_once_shown plain tell sources error none keeps fit count told done = tt
  at_once_shown plain tell sources (name text) none keeps fit count told done = tt
  at_once_shown plain tell sources (member f word) none keeps fit count told done = tt
  at_once_shown plain tell sources (index f at) none keeps fit count told done = tt
  at_once_shown plain tell sources (slice f high low) none keeps fit count told done = tt
  at_once_shown plain tell sources (call (literal n) more) none keeps fit count told done = tt
  at_once_shown plain tell sources (call (truth holds) more) none keeps fit count told done = tt
  at_once_shown plain tell sources (call error more) none keeps fit count told done = tt
  at_once_shown plain tell sources (call (member f word) more) none keeps fit count told done = tt
  at_once_shown plain tell sources (call (index f at) more) none keeps fit count told done = tt
  at_once_shown plain tell sources (call (slice f high low) more) none keeps fit count told done = tt
  at_once_shown plain tell sources (call (call h again) more) none keeps fit count told done = tt
  at_once_shown plain tell sources (call (lookahead f to again) more) none keeps fit count told done = tt
  at_once_shown plain tell sources (call (cast to f) more) none keeps fit count told done = tt
  at_once_shown plain tell sources (call (unary operator f) more) none keeps fit count told done = tt
  at_once_shown plain tell sources (call (binary operator a d) more) none keeps fit count told done = tt
  at_once_shown plain tell sources (call (choice c a d) more) none keeps fit count told done = tt
  at_once_shown plain tell sources (call (parenthesized f) more) none keeps fit count told done = tt
  at_once_shown plain tell sources (call no_arguments more) none keeps fit count told done = tt
  at_once_shown plain tell sources (call (argument before last) more) none keeps fit count told done = tt
  at_once_shown plain tell sources (call (listed es) more) none keeps fit count told done = tt
  at_once_shown plain tell sources (lookahead f to more) none keeps fit count told done = tt
  at_once_shown plain tell sources (cast to f) none keeps fit count told done = tt
  at_once_shown plain tell sources (unary operator f) none keeps fit count told done = tt
  at_once_shown plain tell sources (binary operator a d) none keeps fit count told done = tt
  at_once_shown plain tell sources (choice c a d) none keeps fit count told done = tt
  at_once_shown plain tell sources (parenthesized f) none keeps fit count told done = tt
  at_once_shown plain tell sources no_arguments none keeps fit count told done = tt
  at_once_shown plain tell sources (argument before last) none keeps fit count told done = tt
  at_once_shown plain tell sources (listed es) none keeps fit count told done = tt

  -- or in whatever way, where what waits is a frame
  pub apart_shown : ((c : Cells) → P c → IsFrameOf b.syntax c) → ((c : Cells) → IsFrameOf b.syntax c → P c) → NamesPlain s → ((c : Cells) → TestsTell (IsSame c) b w z s who) → ((c : Cells) → SourcesTell (IsSame c) b w z s who) → (e : Exp16) → Keeps s statement e → list_any overflows (uses s statement e) ≡ false → list_any is_miscounted (uses s statement e) ≡ false → CallTold s e → ActionDone P b w z s who e → NamedShows P b w z s who e
  apart_shown framed waiting_framed plain tell sources (call (name text) handed) keeps fit count told done = λ plane hs is.
      found_shows text handed hs (λ f found h. any_action_called P b w z s who accepted layouts seated fine scope framed waiting_framed tell sources agree same_types text plane handed hs f h.0 h.1 is found h.2 h.3 (call_fits s plain (name text) handed keeps fit count told)) plane is (done plane hs is)
  apart_shown framed waiting_framed plain tell sources (literal n) keeps fit count told done = tt
  apart_shown framed waiting_framed plain tell sources (truth holds) keeps fit count told done = tt
  apart_shown framed waiting_framed plain tell sources error keeps fit count told done = tt
  apart_shown framed waiting_framed plain tell sources (name text) keeps fit count told done = tt
  apart_shown framed waiting_framed plain tell sources (member f word) keeps fit count told done = tt
  apart_shown framed waiting_framed plain tell sources (index f at) keeps fit count told done = tt
  apart_shown framed waiting_framed plain tell sources (slice f high low) keeps fit count told done = tt
  apart_shown framed waiting_framed plain tell sources (call (literal n) more) keeps fit count told done = tt
  apart_shown framed waiting_framed plain tell sources (call (truth holds) more) keeps fit count told done = tt
  apart_shown framed waiting_framed plain tell sources (call error more) keeps fit count told done = tt
  apart_shown framed waiting_framed plain tell sources (call (member f word) more) keeps fit count told done = tt
  apart_shown framed waiting_framed plain tell sources (call (index f at) more) keeps fit count told done = tt
  apart_shown framed waiting_framed plain tell sources (call (slice f high low) more) keeps fit count told done = tt
  apart_shown framed waiting_framed plain tell sources (call (call h again) more) keeps fit count told done = tt
  apart_shown framed waiting_framed plain tell sources (call (lookahead f to again) more) keeps fit count told done = tt
  apart_shown framed waiting_framed plain tell sources (call (cast to f) more) keeps fit count told done = tt
  apart_shown framed waiting_framed plain tell sources (call (unary operator f) more) keeps fit count told done = tt
  apart_shown framed waiting_framed plain tell sources (call (binary operator a d) more) keeps fit count told done = tt
  apart_shown framed waiting_framed plain tell sources (call (choice c a d) more) keeps fit count told done = tt
  apart_shown framed waiting_framed plain tell sources (call (parenthesized f) more) keeps fit count told done = tt
  apart_shown framed waiting_framed plain tell sources (call no_arguments more) keeps fit count told done = tt
  apart_shown framed waiting_framed plain tell sources (call (argument before last) more) keeps fit count told done = tt
  apart_shown framed waiting_framed plain tell sources (call (listed es) more) keeps fit count told done = tt
  apart_shown framed waiting_framed plain tell sources (lookahead f to more) keeps fit count told done = tt
  apart_shown framed waiting_framed plain tell sources (cast to f) keeps fit count told done = tt
  apart_shown framed waiting_framed plain tell sources (unary operator f) keeps fit count told done = tt
  apart_shown framed waiting_framed plain tell sources (binary operator a d) keeps fit count told done = tt
  apart_shown framed waiting_framed plain tell sources (choice c a d) keeps fit count told done = tt
  apart_shown framed waiting_framed plain tell sources (parenthesized f) keeps fit count told done = tt
  apart_shown framed waiting_framed plain tell sources no_arguments keeps fit count told done = tt
  apart_shown framed waiting_framed plain tell sources (argument before last) keeps fit count told done = tt
  apart_shown framed waiting_framed plain tell sources (listed es) keeps fit count told done = tt

pub calls_show : CallsShow
calls_show b w z from to n s who e accepted own agree around at same_types plain tell sources actions others keeps fit count told =
    let scope : IsScope (length (variable_kinds b.syntax)) who = body_scope (length (variable_kinds b.syntax)) from to n who at.body in
    any_call_shown (Waits true b.syntax) b w z s who accepted at.layouts at.seated at.fine scope own around plain (tests_tell (Waits true b.syntax) b w z s who tell) e
    (apart_shown (Waits true b.syntax) b w z s who accepted at.layouts at.seated at.fine scope agree same_types (λ c waits. waits refl) (λ c whole yes. whole) plain tell sources e keeps fit count told actions) others keeps fit count told

pub calls_show_at_once : CallsShowAtOnce
calls_show_at_once P b w z from to n s who e accepted own agree around at same_types plain tell sources actions none others keeps fit count told =
    let scope : IsScope (length (variable_kinds b.syntax)) who = body_scope (length (variable_kinds b.syntax)) from to n who at.body in
    any_call_shown P b w z s who accepted at.layouts at.seated at.fine scope own around plain tell e
    (at_once_shown P b w z s who accepted at.layouts at.seated at.fine scope agree same_types plain tell sources e none keeps fit count told actions) others keeps fit count told
