-- What a control emits are octets.
use Rattle.std.proofs.Common.{◌≡◌, ℕ, ◌<◌, Bool, true, false, Option, Some, None, List, [], ◌∷◌, length, filter_map, flat_map, fold, refl, sym, subst}
use Rattle.std.proofs.lemmas.List.Elements.{All-nil, All-cons, All-append}
use Rattle.p4x_bits.specs.BitLists.{IsOctets, num}
use Rattle.p4x_bits.proofs.BitLists.{num_below}
use Rattle.p416_syntax.specs.declared.parts.Type16.{Type16}
use Rattle.p416_syntax.specs.declared.parsers.Var.{Var}
use Rattle.p416_syntax.specs.declared.controls.Action16.{Action16}
use Rattle.p416_syntax.specs.declared.controls.Table16.{Table16}
use Rattle.p416_syntax.specs.declared.controls.Control16.{Control16}
use Rattle.p416_syntax.specs.Tree.{Exp16, literal, truth, error, name, member, index, slice, call, lookahead, cast, unary, binary, choice, parenthesized, no_arguments, argument, listed, Stmt16, no_statements, then, block, empty, var, var_is, assign, expression, if_then, if_else, switch, no_cases, case_of}
use Rattle.p416_syntax.specs.Names.{Name}
use Rattle.p416_syntax.specs.Kinds.{Kind, bits, unsized, boolean, error_code, header, stack, struct, packet_in, packet_out, errors, enumeration, one_of, table, applied, object, items, nothing, unknown}
use Rattle.p416_syntax.specs.Scopes.{Scope, kind_of_type}
use Rattle.p416_syntax.specs.Calls.{Place, value, target, statement}
use Rattle.p416_syntax.specs.Expressions.{kind_of}
use Rattle.p416_syntax.specs.Uses.{arguments_of}
use Rattle.p416_syntax.specs.Statements.{behind, assigned_place}
use Rattle.p416_syntax.specs.Declarations.{action_scope, action_in}
use Rattle.v1_core.specs.declared.block.Block.{Block}
use Rattle.v1_core.specs.Values.{Value, a_number, a_truth, an_error, a_header, a_stack, no_members, a_member, a_symbol, some_bits, no_value, Header, to_member}
use Rattle.v1_core.specs.Frames.{Moment, Reference, Hit, ticked, is_stopped, put_at, with_inner, whole, stepped, of_variables}
use Rattle.v1_core.specs.Surroundings.{Setting, Surroundings, World, action_named, table_named}
use Rattle.v1_core.specs.Expressions.{value_of}
use Rattle.v1_core.specs.Externs.Packets.{bits_of_field, octets_in, octets_of_header, octets_of}
use Rattle.v1_core.specs.Statements.{no_label}
use Rattle.v1_core.specs.Tables.{found, Chosen, chosen, bound_numbers, hit_of, run_action, run_chosen, with_application, applied_in}
use Rattle.v1_core.specs.Signatures.{table_sig, table_number}
use Rattle.v1_core.specs.Blocks.{act, control_world, with_value, variables_of, with_variables, with_initial, begun, control_at, around_control, var_in, run_control, run_block, control16}
use Rattle.v1_statement_laws.specs.Meeting.{StatementMeets}
use Rattle.v1_control_laws.specs.Laws.{OctetsEmitted}
use Rattle.v1_control_laws.specs.Erring.{MayTell, MayRead, FreeIn, AllFree, FreeCallee, FreeCall, FreeAt, BodiesFree}
use Rattle.v1_control_laws.proofs.Values.{either, Kept, Keeps, value_kept}
use Rattle.v1_control_laws.proofs.Calling.{going_kept}
use Rattle.v1_control_laws.proofs.Statements.{run_kept, acts_kept}

-- what is emitted

octets_are : (list : List Bool) → IsOctets (octets_in list)
octets_are [] = All-nil (λ octet. octet < 256)
octets_are (a ∷ []) = All-nil (λ octet. octet < 256)
octets_are (a ∷ b ∷ []) = All-nil (λ octet. octet < 256)
octets_are (a ∷ b ∷ c ∷ []) = All-nil (λ octet. octet < 256)
octets_are (a ∷ b ∷ c ∷ d ∷ []) = All-nil (λ octet. octet < 256)
octets_are (a ∷ b ∷ c ∷ d ∷ e ∷ []) = All-nil (λ octet. octet < 256)
octets_are (a ∷ b ∷ c ∷ d ∷ e ∷ f ∷ []) = All-nil (λ octet. octet < 256)
octets_are (a ∷ b ∷ c ∷ d ∷ e ∷ f ∷ g ∷ []) = All-nil (λ octet. octet < 256)
octets_are (a ∷ b ∷ c ∷ d ∷ e ∷ f ∷ g ∷ h ∷ rest) =
    All-cons (λ octet. octet < 256) (num (a ∷ b ∷ c ∷ d ∷ e ∷ f ∷ g ∷ h ∷ [])) (octets_in rest)
    (num_below (a ∷ b ∷ c ∷ d ∷ e ∷ f ∷ g ∷ h ∷ [])) (octets_are rest)

header_octets : (h : Header) → IsOctets (octets_of_header h)
header_octets h =
    either IsOctets h.valid (octets_in (flat_map bits_of_field h.fields)) [] (octets_are (flat_map bits_of_field h.fields))
    (All-nil (λ octet. octet < 256))

element_octets : (hs : List Header) → IsOctets (flat_map octets_of_header hs)
element_octets [] = All-nil (λ octet. octet < 256)
element_octets (h ∷ hs) =
    All-append (λ octet. octet < 256) (octets_of_header h) (flat_map octets_of_header hs) (header_octets h) (element_octets hs)

value_octets : (v : Value) → IsOctets (octets_of v)
value_octets (a_number width number) = All-nil (λ octet. octet < 256)
value_octets (a_truth holds) = All-nil (λ octet. octet < 256)
value_octets (an_error number) = All-nil (λ octet. octet < 256)
value_octets (a_header h) = header_octets h
value_octets (a_stack place elements) = element_octets elements
value_octets no_members = All-nil (λ octet. octet < 256)
value_octets (a_member called of rest) = All-nil (λ octet. octet < 256)
value_octets (a_symbol word) = All-nil (λ octet. octet < 256)
value_octets (some_bits list) = All-nil (λ octet. octet < 256)
value_octets no_value = All-nil (λ octet. octet < 256)

-- octets were emitted
abbrev Octets : Moment → Type 0
Octets m = IsOctets m.emitted

-- each reference will do
abbrev Any : Reference → Type 0
Any r = Unit {0}

octets_kept : (b : Surroundings) → Kept b (Unit {0}) Octets Any
octets_kept b = record {
  nothing_good = tt;
  names = λ f text. tt;
  steps = λ r step g. tt;
  slices = λ r s g. tt;
  puts = λ r v m g h. h;
  inner = λ v m h. h;
  standard = λ word v m h. h;
  requests = λ kind r m h. h;
  emits = λ v m h. All-append (λ octet. octet < 256) m.emitted (octets_of v) h (value_octets v);
  raises = λ may e m h. either Octets (is_stopped m) m (record m { stopped = Some e }) h h;
  others = λ m n same emits stopped h. subst IsOctets (sym emits) h;
}

-- where an error may come, all is such

may_tell : (k : Kind) → MayTell (Unit {0}) k
may_tell (bits width) = tt
may_tell unsized = tt
may_tell boolean = tt
may_tell error_code = tt
may_tell (header type) = tt
may_tell (stack type many) = tt
may_tell (struct type) = tt
may_tell packet_in = tt
may_tell packet_out = tt
may_tell errors = tt
may_tell (enumeration enum) = tt
may_tell (one_of enum) = tt
may_tell table = tt
may_tell applied = tt
may_tell (object of) = tt
may_tell items = tt
may_tell nothing = tt
may_tell unknown = tt

may_read : (k : Kind) → MayRead (Unit {0}) k
may_read (bits width) = tt
may_read unsized = tt
may_read boolean = tt
may_read error_code = tt
may_read (header type) = tt
may_read (stack type many) = tt
may_read (struct type) = tt
may_read packet_in = tt
may_read packet_out = tt
may_read errors = tt
may_read (enumeration enum) = tt
may_read (one_of enum) = tt
may_read table = tt
may_read applied = tt
may_read (object of) = tt
may_read items = tt
may_read nothing = tt
may_read unknown = tt

all_free : (s : Scope) (list : Bool) (e : Exp16) → FreeIn (Unit {0}) s list e
all_free s false (literal n) = tt
all_free s false (truth holds) = tt
all_free s false error = tt
all_free s false (name text) = tt
all_free s false (member e word) = (may_tell (kind_of s e), all_free s false e)
all_free s false (index e at) = all_free s false e
all_free s false (slice e high low) = all_free s false e
all_free s false (call (literal n) more) = tt
all_free s false (call (truth holds) more) = tt
all_free s false (call error more) = tt
all_free s false (call (name text) more) = tt
all_free s false (call (member e word) more) = all_free s false e
all_free s false (call (index e at) more) = tt
all_free s false (call (slice e high low) more) = tt
all_free s false (call (call g others) more) = tt
all_free s false (call (lookahead e to others) more) = tt
all_free s false (call (cast to e) more) = tt
all_free s false (call (unary operator e) more) = tt
all_free s false (call (binary operator a b) more) = tt
all_free s false (call (choice d a b) more) = tt
all_free s false (call (parenthesized e) more) = tt
all_free s false (call no_arguments more) = tt
all_free s false (call (argument before last) more) = tt
all_free s false (call (listed es) more) = tt
all_free s false (lookahead e to more) = tt
all_free s false (cast to e) = all_free s false e
all_free s false (unary operator e) = all_free s false e
all_free s false (binary operator a b) = (all_free s false a, all_free s false b)
all_free s false (choice d a b) = (all_free s false d, all_free s false a, all_free s false b)
all_free s false (parenthesized e) = tt
all_free s false no_arguments = tt
all_free s false (argument before last) = tt
all_free s false (listed es) = all_free s true es
all_free s true (literal n) = tt
all_free s true (truth holds) = tt
all_free s true error = tt
all_free s true (name text) = tt
all_free s true (member e word) = tt
all_free s true (index e at) = tt
all_free s true (slice e high low) = tt
all_free s true (call g more) = tt
all_free s true (lookahead e to more) = tt
all_free s true (cast to e) = tt
all_free s true (unary operator e) = tt
all_free s true (binary operator a b) = tt
all_free s true (choice d a b) = tt
all_free s true (parenthesized e) = tt
all_free s true no_arguments = tt
all_free s true (argument before last) = (all_free s true before, all_free s false last)
all_free s true (listed es) = tt

list_free : (s : Scope) (es : List Exp16) → AllFree (Unit {0}) s es
list_free s [] = tt
list_free s (e ∷ es) = (all_free s false e, list_free s es)

callee_free : (s : Scope) (e : Exp16) → FreeCallee (Unit {0}) s e
callee_free s (literal n) = tt
callee_free s (truth holds) = tt
callee_free s error = tt
callee_free s (name text) = tt
callee_free s (member e word) = may_read (kind_of s e)
callee_free s (index e at) = tt
callee_free s (slice e high low) = tt
callee_free s (call g more) = tt
callee_free s (lookahead e to more) = tt
callee_free s (cast to e) = tt
callee_free s (unary operator e) = tt
callee_free s (binary operator a b) = tt
callee_free s (choice d a b) = tt
callee_free s (parenthesized e) = tt
callee_free s no_arguments = tt
callee_free s (argument before last) = tt
callee_free s (listed es) = tt

call_free : (s : Scope) (e : Exp16) → FreeCall (Unit {0}) s e
call_free s (literal n) = tt
call_free s (truth holds) = tt
call_free s error = tt
call_free s (name text) = tt
call_free s (member e word) = tt
call_free s (index e at) = tt
call_free s (slice e high low) = tt
call_free s (call g more) = (callee_free s g, list_free s (arguments_of more))
call_free s (lookahead e to more) = tt
call_free s (cast to e) = tt
call_free s (unary operator e) = tt
call_free s (binary operator a b) = tt
call_free s (choice d a b) = tt
call_free s (parenthesized e) = tt
call_free s no_arguments = tt
call_free s (argument before last) = tt
call_free s (listed es) = tt

at_free : (s : Scope) (p : Place) (e : Exp16) → FreeAt (Unit {0}) s p e
at_free s p e = (all_free s false e, call_free s e)

all_meet : (x : Stmt16) (s : Scope) → StatementMeets (FreeAt (Unit {0})) s x
all_meet no_statements s = tt
all_meet ((then) before last) s = (all_meet before s, all_meet last (behind before s))
all_meet (block body) s = all_meet body s
all_meet empty s = tt
all_meet (var t called) s = tt
all_meet (var_is t called e) s = at_free s (value (kind_of_type s.names t)) e
all_meet (assign f e) s = (at_free s target f, at_free s (assigned_place (kind_of s f)) e)
all_meet (expression e) s = at_free s statement e
all_meet (if_then c positive) s = (at_free s (value boolean) c, all_meet positive s)
all_meet (if_else c positive negative) s = (at_free s (value boolean) c, all_meet positive s, all_meet negative s)
all_meet (switch text cases) s = all_meet cases s
all_meet no_cases s = tt
all_meet (case_of before l body) s = (all_meet before s, all_meet body s)

pub bodies_meet : (b : Surroundings) → BodiesFree (Unit {0}) b
bodies_meet b text a is = all_meet a.body (action_scope b.scope a)

-- the variables of a block

module _ (w : World) (keeps : Keeps w Octets) where
  initial_kept : (t : Type16) (called : Name) (o : Option Exp16) (m : Moment) → Octets m → Octets (with_initial w m (record { of = t; name = called; initial = o }))
  initial_kept t called None m h = h
  initial_kept t called (Some e) m h =
      let x = value_of w w.around.scope (value (kind_of_type w.around.scope.names t)) e (ticked m) in
      let k = value_kept w (Unit {0}) Octets Any (octets_kept w.around) keeps.applies w.around.scope (value (kind_of_type w.around.scope.names t)) e (ticked m) (all_free w.around.scope false e) h in
      either Octets (is_stopped m) m (with_value called x) h
      (going_kept w.around (Unit {0}) Octets Any (octets_kept w.around) (put_at (stepped (whole of_variables) (to_member called)) x.value) x.moment k k)

  initials_kept : (vars : List Var) (m : Moment) → Octets m → Octets (fold (with_initial w) m vars)
  initials_kept [] m h = h
  initials_kept (v ∷ vars) m h = initials_kept vars (with_initial w m v) (initial_kept v.of v.name v.initial m h)

  control_kept : (control : Control16) (m : Moment) → Octets m → Octets (run_control w control m)
  control_kept control m h =
      let vars = filter_map var_in control.locals in
      run_kept w (Unit {0}) Octets Any (octets_kept w.around) keeps w.around.scope no_label control.body (begun w vars m) (all_meet control.body w.around.scope)
      (initials_kept vars (with_variables (variables_of w.around.scope vars) m) h)

-- tables

action_runs : (b : Surroundings) (hit : Option Hit) (numbers : List ℕ) (text : Name) (o : Option Action16) → action_named b text ≡ o → (m : Moment) → Octets m → Octets (run_action b (act b) hit numbers o m)
action_runs b hit numbers text None is m h = h
action_runs b hit numbers text (Some a) is m h =
    acts_kept b (Unit {0}) Octets Any (octets_kept b) (bodies_meet b) (length (filter_map action_in b.locals)) text a is (record (with_inner (bound_numbers b.scope a.parameters numbers) m) { hit = hit }) h

chosen_runs : (b : Surroundings) (hit : Option Hit) (k : Option Chosen) (m : Moment) → Octets m → Octets (run_chosen b (act b) hit k m)
chosen_runs b hit None m h = h
chosen_runs b hit (Some k) m h = action_runs b hit k.arguments k.called (action_named b k.called) refl m h

table_kept : (b : Surroundings) (o : Option Table16) (m : Moment) → Octets m → Octets (applied_in b (act b) o m).moment
table_kept b None m h = h
table_kept b (Some t) m h =
    let entry = found b m t in
    let k = chosen b t entry in
    chosen_runs b (hit_of (table_sig b.setting.syntax b.locals b.scope t).direct entry) k (with_application (table_number b.setting.syntax t) entry k m) h

world_keeps : (b : Surroundings) → Keeps (control_world b) Octets
world_keeps b = record { acts = acts_kept b (Unit {0}) Octets Any (octets_kept b) (bodies_meet b) (length (filter_map action_in b.locals)); applies = λ text m h. table_kept b (table_named b text) m h }

block_kept : (c : Setting) (place : Block) (o : Option Control16) (m : Moment) → Octets m → Octets (run_block c place o m)
block_kept c place None m h = h
block_kept c place (Some control) m h = control_kept (control_world (around_control c place control)) (world_keeps (around_control c place control)) control m h

pub octets_emitted : OctetsEmitted
unfolding control16
octets_emitted c place m h = block_kept c place (control_at c.syntax place) m h
