-- A ready expression applies no table; so where no rule on types and sizes is broken, it gives what the expression means.
use Rattle.std.proofs.Common.{◌≡◌, Option, Some, None, IfSome, option_map, List, sym, subst}
use Rattle.p416_syntax.specs.declared.program.Syntax16.{Syntax16}
use Rattle.p416_syntax.specs.Tree.{Exp16, literal, truth, error, name, member, index, slice, call, lookahead, cast, unary, binary, choice, parenthesized, no_arguments, argument, listed}
use Rattle.p416_syntax.specs.Names.{Name}
use Rattle.p416_syntax.specs.Kinds.{Kind, bits, unsized, boolean, error_code, header, stack, struct, packet_in, packet_out, errors, enumeration, one_of, table, applied, object, items, nothing, unknown}
use Rattle.p416_syntax.specs.Scopes.{Scope}
use Rattle.p416_syntax.specs.Calls.{Place, value, any_bits, owner, a_stack}
use Rattle.p416_syntax.specs.Declarations.{layouts_of}
use Rattle.p416_syntax.specs.Breaks.{BreaksNone, program_rules}
use Rattle.p416_syntax.specs.Expressions.{kind_of}
use Rattle.p416_syntax.specs.Uses.{unary_place, left_place, right_place, cast_place, chosen_place}
use Rattle.v1_core.specs.Frames.{Moment}
use Rattle.v1_core.specs.Surroundings.{World}
use Rattle.v1_core.specs.Expressions.{value_of}
use Rattle.v1_core.specs.Numbered.{InScope, frame_in}
use Rattle.v1_core.specs.Cells.{Cells}
use Rattle.v1_core.specs.Programs.{numbered16}
use Rattle.v1_core.specs.PackedFrames.{IsFrameOf}
use Rattle.v1_core.specs.Ready as ready
use Rattle.v1_core.specs.Ready.{Ready, ready_value}
use Rattle.v1_ready_forms.specs.Named.{NamedSeat, seats_in}
use Rattle.v1_ready_forms.specs.Ways.{Way, its_value, its_validity, through_member, through_element, through_told, which_of}
use Rattle.v1_ready_forms.specs.Expressions.{alone, with_two, only_error, member_ready, method_ready, slice_ready, cast_ready, binary_ready, asked_ready}
use Rattle.v1_ready_laws.specs.Asked.{Gives}
use Rattle.v1_ready_laws.specs.Operands.{OperandsFit}
use Rattle.v1_ready_laws.specs.Kinds.{TypesSized, NamesAreOf, IsNoTable}
use Rattle.v1_ready_laws.specs.Rules.{AppliesNone, Keeps, NamesSeated}
use Rattle.v1_ready_laws.proofs.Given.{if_two, if_three}
use Rattle.v1_ready_laws.proofs.Typed.{operands_fit}
use Rattle.v1_ready_laws.proofs.Rules.{operands_of_kinds}
use Rattle.v1_ready_laws.proofs.Scoped.{names_are_of}
use Rattle.v1_ready_laws.proofs.Accepted.{accepted_narrow}
use Rattle.v1_ready_laws.proofs.Programs.{program_gives}

-- something holds where there is one
abbrev pub If : Option Ready → Type 0 → Type 0
If o A = IfSome o (λ r. A)

always : (o : Option Ready) → If o (Unit {0})
always None = tt
always (Some r) = tt

if_so : (A B : Type 0) (o : Option Ready) → (A → B) → If o A → If o B
if_so A B None f h = tt
if_so A B (Some r) f h = f h

if_lone : (A : Type 0) (way : Way) (o : Option Ready) → If o A → If (alone way o) A
if_lone A its_value o h = h
if_lone A its_validity o h = tt
if_lone A (through_member word way) o h = tt
if_lone A (through_element number way) o h = tt
if_lone A (through_told which way) o h = tt

if_mapped : (A : Type 0) (g : Ready → Ready) (o : Option Ready) → If o A → If (option_map g o) A
if_mapped A g None h = tt
if_mapped A g (Some r) h = h

error_none : (s : Scope) (e : Exp16) (o : Option Ready) → If (only_error e o) (AppliesNone s e)
error_none s (literal n) o = tt
error_none s (truth holds) o = tt
error_none s error o = always o
error_none s (name text) o = tt
error_none s (member e word) o = tt
error_none s (index e at) o = tt
error_none s (slice e high low) o = tt
error_none s (call g handed) o = tt
error_none s (lookahead e to handed) o = tt
error_none s (cast to e) o = tt
error_none s (unary operator e) o = tt
error_none s (binary operator a b) o = tt
error_none s (choice d a b) o = tt
error_none s (parenthesized e) o = tt
error_none s no_arguments o = tt
error_none s (argument before last) o = tt
error_none s (listed es) o = tt

members_none : (s : Scope) (k : Kind) (e : Exp16) (word : Name) (way : Way) (ask : Way → Option Ready) → ((further : Way) → If (ask further) (AppliesNone s e)) → If (member_ready k e word way ask) (AppliesNone s e)
members_none s (bits width) e word way ask h = h (through_member word way)
members_none s unsized e word way ask h = h (through_member word way)
members_none s boolean e word way ask h = h (through_member word way)
members_none s error_code e word way ask h = h (through_member word way)
members_none s (header type) e word way ask h = h (through_member word way)
members_none s (stack type size) e word way ask h = h (through_told (which_of word) way)
members_none s (struct type) e word way ask h = h (through_member word way)
members_none s packet_in e word way ask h = h (through_member word way)
members_none s packet_out e word way ask h = h (through_member word way)
members_none s errors e word way ask h = error_none s e _
members_none s (enumeration enum) e word way ask h = tt
members_none s (one_of enum) e word way ask h = h (through_member word way)
members_none s table e word way ask h = h (through_member word way)
members_none s applied e word way ask h = h (through_member word way)
members_none s (object kind) e word way ask h = h (through_member word way)
members_none s items e word way ask h = h (through_member word way)
members_none s nothing e word way ask h = h (through_member word way)
members_none s unknown e word way ask h = h (through_member word way)

methods_none : (s : Scope) (k : Kind) (e : Exp16) (way : Way) (ask : Way → Option Ready) → ((further : Way) → If (ask further) (AppliesNone s e)) → If (method_ready k way ask) (IsNoTable k × AppliesNone s e)
methods_none s (bits width) e way ask h = tt
methods_none s unsized e way ask h = tt
methods_none s boolean e way ask h = tt
methods_none s error_code e way ask h = tt
methods_none s (header type) e way ask h = if_lone (IsNoTable (header type) × AppliesNone s e) way (ask its_validity) (if_so (AppliesNone s e) (IsNoTable (header type) × AppliesNone s e) (ask its_validity) (λ x. (tt, x)) (h its_validity))
methods_none s (stack type size) e way ask h = tt
methods_none s (struct type) e way ask h = tt
methods_none s packet_in e way ask h = tt
methods_none s packet_out e way ask h = tt
methods_none s errors e way ask h = tt
methods_none s (enumeration enum) e way ask h = tt
methods_none s (one_of enum) e way ask h = tt
methods_none s table e way ask h = tt
methods_none s applied e way ask h = tt
methods_none s (object kind) e way ask h = tt
methods_none s items e way ask h = tt
methods_none s nothing e way ask h = tt
methods_none s unknown e way ask h = tt

pub applies_none : (s : Scope) (seats : List NamedSeat) (p : Place) (way : Way) (e : Exp16) → If (asked_ready s seats p way e) (AppliesNone s e)
applies_none s seats p way (literal n) = always (asked_ready s seats p way (literal n))
applies_none s seats p way (truth holds) = always (asked_ready s seats p way (truth holds))
applies_none s seats p way error = always (asked_ready s seats p way error)
applies_none s seats p way (name text) = always (asked_ready s seats p way (name text))
applies_none s seats p way (lookahead e to handed) = always (asked_ready s seats p way (lookahead e to handed))
applies_none s seats p way (parenthesized e) = always (asked_ready s seats p way (parenthesized e))
applies_none s seats p way no_arguments = always (asked_ready s seats p way no_arguments)
applies_none s seats p way (argument before last) = always (asked_ready s seats p way (argument before last))
applies_none s seats p way (listed es) = always (asked_ready s seats p way (listed es))
applies_none s seats p way (member e word) = members_none s (kind_of s e) e word way (λ further. asked_ready s seats owner further e) (λ further. applies_none s seats owner further e)
applies_none s seats p way (index e at) = applies_none s seats a_stack (through_element at.value way) e
applies_none s seats p way (slice e high low) = if_lone (AppliesNone s e) way (option_map (slice_ready high low) (asked_ready s seats any_bits its_value e)) (if_mapped (AppliesNone s e) (slice_ready high low) (asked_ready s seats any_bits its_value e) (applies_none s seats any_bits its_value e))
applies_none s seats p way (call (member e word) handed) = methods_none s (kind_of s e) e way (λ further. asked_ready s seats owner further e) (λ further. applies_none s seats owner further e)
applies_none s seats p way (call (literal n) handed) = tt
applies_none s seats p way (call (truth holds) handed) = tt
applies_none s seats p way (call error handed) = tt
applies_none s seats p way (call (name text) handed) = tt
applies_none s seats p way (call (index e at) handed) = tt
applies_none s seats p way (call (slice e high low) handed) = tt
applies_none s seats p way (call (call g other) handed) = tt
applies_none s seats p way (call (lookahead e to other) handed) = tt
applies_none s seats p way (call (cast to e) handed) = tt
applies_none s seats p way (call (unary operator e) handed) = tt
applies_none s seats p way (call (binary operator a b) handed) = tt
applies_none s seats p way (call (choice d a b) handed) = tt
applies_none s seats p way (call (parenthesized e) handed) = tt
applies_none s seats p way (call no_arguments handed) = tt
applies_none s seats p way (call (argument before last) handed) = tt
applies_none s seats p way (call (listed es) handed) = tt
applies_none s seats p way (cast to e) = if_lone (AppliesNone s e) way (option_map (cast_ready to) (asked_ready s seats (cast_place to) its_value e)) (if_mapped (AppliesNone s e) (cast_ready to) (asked_ready s seats (cast_place to) its_value e) (applies_none s seats (cast_place to) its_value e))
applies_none s seats p way (unary operator e) =
    let q = unary_place p operator (kind_of s e) in
    if_lone (AppliesNone s e) way (option_map (ready.unary operator) (asked_ready s seats q its_value e)) (if_mapped (AppliesNone s e) (ready.unary operator) (asked_ready s seats q its_value e) (applies_none s seats q its_value e))
applies_none s seats p way (binary operator a b) =
    let l = left_place p operator (kind_of s a) (kind_of s b) in
    let r = right_place p operator (kind_of s a) (kind_of s b) in
    if_lone (AppliesNone s a × AppliesNone s b) way (with_two (binary_ready operator) (asked_ready s seats l its_value a) (asked_ready s seats r its_value b))
    (if_two (λ x. AppliesNone s a) (λ y. AppliesNone s b) (λ z. AppliesNone s a × AppliesNone s b) (binary_ready operator) (asked_ready s seats l its_value a) (asked_ready s seats r its_value b) (λ x y h k. (h, k))
    (applies_none s seats l its_value a) (applies_none s seats r its_value b))
applies_none s seats p way (choice d a b) =
    let q = chosen_place p (kind_of s a) (kind_of s b) in
    if_three (λ x. AppliesNone s d) (λ x. AppliesNone s a) (λ x. AppliesNone s b) (λ x. AppliesNone s d × AppliesNone s a × AppliesNone s b) ready.choice (asked_ready s seats (value boolean) its_value d) (asked_ready s seats q way a) (asked_ready s seats q way b) (λ x y z h k l. (h, k, l))
    (applies_none s seats (value boolean) its_value d) (applies_none s seats q way a) (applies_none s seats q way b)

-- the law, from the rules

pub where_some : (A : Type 0) (P : Ready → Type 0) (o : Option Ready) → If o A → (A → IfSome o P) → IfSome o P
where_some A P None h f = tt
where_some A P (Some r) h f = f h

pub judged_gives : (syntax : Syntax16) (c : Cells) (w : World) (s : Scope) (who : InScope) (m : Moment) (p q : Place) (way : Way) (e : Exp16) → BreaksNone syntax program_rules → IsFrameOf syntax c → s.layouts ≡ layouts_of syntax.decls → m.frame ≡ frame_in who (numbered16 syntax c) → m.stopped ≡ None → NamesSeated s (seats_in syntax w.around.roots who) → Keeps s q e → IfSome (asked_ready s (seats_in syntax w.around.roots who) p way e) (λ r. Gives (ready_value c m.unparsed r) way (value_of w s p e m) m)
judged_gives syntax c w s who m p q way e accepted is types frame runs seated keeps =
    let narrow = accepted_narrow syntax accepted in
    let sized : TypesSized s.layouts = subst TypesSized (sym types) narrow.1 in
    let names = names_are_of syntax c w s who m.frame is narrow.2 types frame seated in
    let seats = seats_in syntax w.around.roots who in
    where_some (AppliesNone s e) (λ (r : Ready). Gives (ready_value c m.unparsed r) way (value_of w s p e m) m) (asked_ready s seats p way e) (applies_none s seats p way e)
    (λ none. program_gives syntax c w s who m p way e is narrow.0 narrow.2 types frame runs (operands_fit w s c m sized names p e (operands_of_kinds s q e keeps none)))

pub operands_always_fit : (w : World) (s : Scope) (c : Cells) (m : Moment) (p q : Place) (e : Exp16) → TypesSized s.layouts → NamesAreOf w s c m.frame → Keeps s q e → AppliesNone s e → OperandsFit w s m p e
operands_always_fit w s c m p q e sized names keeps none = operands_fit w s c m sized names p e (operands_of_kinds s q e keeps none)
