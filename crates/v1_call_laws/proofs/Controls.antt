-- Every call in a control of a program.
use Rattle.std.proofs.Common.{◌≡◌, ℕ, inl, inr, IsTrue, ◌||◌, Bool, true, false, cond, Option, Some, None, IfSome, List, [], ◌∷◌, ◌++◌, map, refl, ap, ◌∙◌}
use Rattle.std.specs.Prelude.{flat_map, codes}
use Rattle.std.specs.List.{list_any}
use Rattle.std.specs.Str.{bytes_eq}
use Rattle.p416_syntax.specs.declared.program.Decl16.{Decl16}
use Rattle.p416_syntax.specs.declared.program.Decl16.TheVariants as decl
use Rattle.p416_syntax.specs.declared.program.Syntax16.{Syntax16}
use Rattle.p416_syntax.specs.declared.controls.Control16.{Control16}
use Rattle.p416_syntax.specs.Tree.{Exp16, literal, truth, error, name, member, index, slice, call, lookahead, cast, unary, binary, choice, parenthesized, no_arguments, argument, listed}
use Rattle.p416_syntax.specs.Names.{Name, has_name, repeats}
use Rattle.p416_syntax.specs.Scopes.{FieldKind, fields_in, Known, called_of, Scope}
use Rattle.p416_syntax.specs.BuiltIn.{functions, built_in, standard_name, standard_layout}
use Rattle.p416_syntax.specs.Unknown.{declares_twice}
use Rattle.p416_syntax.specs.Declarations.{top_name, bit_field, struct_field, layout_in, top_names}
use Rattle.p416_syntax.specs.Main.{positions_of}
use Rattle.p416_syntax.specs.Breaks.{is_no_block, IsBroken, BreaksNone, program_rules}
use Rattle.v1_core.specs.declared.block.Block.{Block}
use Rattle.v1_core.specs.Surroundings as meaning
use Rattle.v1_core.specs.Surroundings.{action_named}
use Rattle.v1_core.specs.Numbered.{InScope}
use Rattle.v1_core.specs.Cells.{Cells}
use Rattle.v1_ready_blocks.specs.Tests.{World}
use Rattle.v1_block_laws.specs.Variables.{scope_in_control}
use Rattle.v1_ready_statements.specs.Around.{Around, action_found}
use Rattle.v1_statement_laws.specs.Behind.{Waits}
use Rattle.v1_statement_laws.specs.Leaves.{ActionDoes}
use Rattle.v1_call_laws.specs.Handing.{AreHanded}
use Rattle.v1_call_laws.specs.Declared.{IsWithin, IsAmong}
use Rattle.v1_call_laws.specs.Whole.{ActionCalls, ActionDone}
use Rattle.v1_call_laws.specs.Controls.{StandardStands, AreOf, CalledDoes, ControlCallsShow, ControlCallsShowAtOnce}
use Rattle.v1_call_laws.proofs.Declared.{actions_declared, distinct_parameters}
use Rattle.v1_call_laws.proofs.Whole.{calls_show, calls_show_at_once}

-- the type of standard metadata

first_off : (a b : Bool) → (a || b) ≡ false → a ≡ false
first_off true b is = absurd (cc is)
first_off false b is = refl

second_off : (a b : Bool) → (a || b) ≡ false → b ≡ false
second_off true b is = absurd (cc is)
second_off false b is = is

never_true : (t : Bool) → (IsTrue t → ⊥) → t ≡ false
never_true true never = absurd (never refl)
never_true false never = refl

declared_once : (syntax : Syntax16) → BreaksNone syntax program_rules → repeats (map called_of (top_names syntax.decls)) ≡ false
unfolding IsBroken
declared_once syntax keeps =
    first_off (declares_twice syntax.decls) (list_any (is_no_block syntax) syntax.main)
    (never_true (declares_twice syntax.decls || list_any (is_no_block syntax) syntax.main) (λ x. keeps.0 (inr (inl x))))

abbrev rest_names : List Name
rest_names = codes "HashAlgorithm" ∷ codes "CounterType" ∷ codes "MeterType" ∷ codes "CloneType" ∷ functions

-- names that are none of the names at the top aren't that of the standard metadata
other_name : (ds : List Decl16) (text : Name) → list_any (bytes_eq text) (map called_of (map top_name ds ++ built_in)) ≡ false → bytes_eq text standard_name ≡ false
other_name [] text is =
    first_off (bytes_eq text standard_name) (list_any (bytes_eq text) rest_names)
    (second_off (bytes_eq text (codes "packet_out")) (list_any (bytes_eq text) (standard_name ∷ rest_names))
    (second_off (bytes_eq text (codes "packet_in")) (list_any (bytes_eq text) (codes "packet_out" ∷ standard_name ∷ rest_names)) is))
other_name (d ∷ ds) text is = other_name ds text (second_off (bytes_eq text (called_of (top_name d))) (list_any (bytes_eq text) (map called_of (map top_name ds ++ built_in))) is)

behind_first : (text : Name) (ds : List Decl16) → repeats (text ∷ map called_of (map top_name ds ++ built_in)) ≡ false → repeats (map called_of (map top_name ds ++ built_in)) ≡ false
behind_first text ds once = second_off (has_name (map called_of (map top_name ds ++ built_in)) text) (repeats (map called_of (map top_name ds ++ built_in))) once

passed : (text : Name) (fields : List FieldKind) (names : List Known) (ds : List Decl16) → repeats (text ∷ map called_of (map top_name ds ++ built_in)) ≡ false → fields_in (flat_map (layout_in names) ds ++ standard_layout ∷ []) standard_name ≡ standard_layout.fields → fields_in (record { called = text; fields = fields } ∷ (flat_map (layout_in names) ds ++ standard_layout ∷ [])) standard_name ≡ standard_layout.fields
passed text fields names ds once is =
    ap (λ (t : Bool). cond t fields (fields_in (flat_map (layout_in names) ds ++ standard_layout ∷ []) standard_name)) (other_name ds text (first_off (has_name (map called_of (map top_name ds ++ built_in)) text) (repeats (map called_of (map top_name ds ++ built_in))) once))
    ∙ is

standard_fields : (names : List Known) (ds : List Decl16) → repeats (map called_of (map top_name ds ++ built_in)) ≡ false → fields_in (flat_map (layout_in names) ds ++ standard_layout ∷ []) standard_name ≡ standard_layout.fields
standard_fields names [] once = refl
standard_fields names ((decl.Header h) ∷ ds) once = passed h.name (map bit_field h.fields) names ds once (standard_fields names ds (behind_first h.name ds once))
standard_fields names ((decl.Struct x) ∷ ds) once = passed x.name (map (struct_field names) x.fields) names ds once (standard_fields names ds (behind_first x.name ds once))
standard_fields names ((decl.Instance notes i) ∷ ds) once = standard_fields names ds (behind_first (called_of (top_name (decl.Instance notes i))) ds once)
standard_fields names ((decl.Parser p) ∷ ds) once = standard_fields names ds (behind_first p.name ds once)
standard_fields names ((decl.Control c) ∷ ds) once = standard_fields names ds (behind_first c.name ds once)

pub standard_stands : StandardStands
standard_stands syntax keeps = standard_fields (top_names syntax.decls) syntax.decls (declared_once syntax keeps)

-- calls

both_some : {A : Type 0} (B C D : A → Type 0) (o : Option A) → ((x : A) → B x → C x → D x) → IfSome o B → IfSome o C → IfSome o D
both_some B C D None f h g = tt
both_some B C D (Some x) f h g = f x h g

actions_done : (P : Cells → Type 0) (b : Around) (w : meaning.World) (z : World) (block : Block) (c : Control16) (first : ℕ) (s : Scope) (who : InScope) (e : Exp16) → BreaksNone b.syntax program_rules → AreOf b w block c first → IsWithin (scope_in_control b.syntax c) s → CalledDoes P b w z s who e → ActionDone P b w z s who e
actions_done P b w z block c first s who (call (name text) handed) accepted of within does = λ plane hs is.
    both_some (λ f. (action_named w.around text ≡ Some f.place.of) × AreHanded s w.around.scope hs f.place.of.parameters × IsAmong f.place.of c.locals) (ActionDoes P b w z who) (ActionCalls P b w z s who text hs) (action_found b text)
    (λ f declared done. (done, distinct_parameters b.syntax block c f.place.of accepted of.found declared.2, declared.0, declared.1))
    (actions_declared b w b.syntax.decls (positions_of b.syntax c.name) c first s text plane hs of.scope (of.around.locals ∙ of.locals) of.actions within is)
    (does plane hs is)
actions_done P b w z block c first s who (literal n) accepted of within does = tt
actions_done P b w z block c first s who (truth holds) accepted of within does = tt
actions_done P b w z block c first s who error accepted of within does = tt
actions_done P b w z block c first s who (name text) accepted of within does = tt
actions_done P b w z block c first s who (member f word) accepted of within does = tt
actions_done P b w z block c first s who (index f at) accepted of within does = tt
actions_done P b w z block c first s who (slice f high low) accepted of within does = tt
actions_done P b w z block c first s who (call (literal n) more) accepted of within does = tt
actions_done P b w z block c first s who (call (truth holds) more) accepted of within does = tt
actions_done P b w z block c first s who (call error more) accepted of within does = tt
actions_done P b w z block c first s who (call (member f word) more) accepted of within does = tt
actions_done P b w z block c first s who (call (index f at) more) accepted of within does = tt
actions_done P b w z block c first s who (call (slice f high low) more) accepted of within does = tt
actions_done P b w z block c first s who (call (call h again) more) accepted of within does = tt
actions_done P b w z block c first s who (call (lookahead f to again) more) accepted of within does = tt
actions_done P b w z block c first s who (call (cast to f) more) accepted of within does = tt
actions_done P b w z block c first s who (call (unary operator f) more) accepted of within does = tt
actions_done P b w z block c first s who (call (binary operator a d) more) accepted of within does = tt
actions_done P b w z block c first s who (call (choice x a d) more) accepted of within does = tt
actions_done P b w z block c first s who (call (parenthesized f) more) accepted of within does = tt
actions_done P b w z block c first s who (call no_arguments more) accepted of within does = tt
actions_done P b w z block c first s who (call (argument before last) more) accepted of within does = tt
actions_done P b w z block c first s who (call (listed es) more) accepted of within does = tt
actions_done P b w z block c first s who (lookahead f to more) accepted of within does = tt
actions_done P b w z block c first s who (cast to f) accepted of within does = tt
actions_done P b w z block c first s who (unary operator f) accepted of within does = tt
actions_done P b w z block c first s who (binary operator a d) accepted of within does = tt
actions_done P b w z block c first s who (choice x a d) accepted of within does = tt
actions_done P b w z block c first s who (parenthesized f) accepted of within does = tt
actions_done P b w z block c first s who no_arguments accepted of within does = tt
actions_done P b w z block c first s who (argument before last) accepted of within does = tt
actions_done P b w z block c first s who (listed es) accepted of within does = tt

pub control_calls_show : ControlCallsShow
control_calls_show b w z block c first from to n s who e accepted of agree at within plain tell sources does others keeps fit count told =
    calls_show b w z from to n s who e accepted (standard_stands b.syntax accepted) agree of.around at (ap (λ (x : Scope). x.layouts) of.scope) plain tell sources (actions_done (Waits true b.syntax) b w z block c first s who e accepted of within does) others keeps fit count told

pub control_calls_show_at_once : ControlCallsShowAtOnce
control_calls_show_at_once P b w z block c first from to n s who e accepted of agree at within plain tell sources does none others keeps fit count told =
    calls_show_at_once P b w z from to n s who e accepted (standard_stands b.syntax accepted) agree of.around at (ap (λ (x : Scope). x.layouts) of.scope) plain tell sources (actions_done P b w z block c first s who e accepted of within does) none others keeps fit count told
