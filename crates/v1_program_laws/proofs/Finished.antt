-- Assignments and initial values put in.
use Rattle.std.proofs.Common.{◌≡◌, ◌||◌, Bool, true, false, cond, Option, Some, None, IfSome, List, [], refl, sym, ap, ◌∙◌, subst}
use Rattle.std.specs.Prelude.{option_map, option_and_then}
use Rattle.p416_syntax.specs.declared.controls.Control16.{Control16}
use Rattle.p416_syntax.specs.Tree.{Exp16, assign}
use Rattle.p416_syntax.specs.Kinds.{Kind, bits, unsized, boolean, error_code, header, stack, struct, packet_in, packet_out, errors, enumeration, one_of, table, applied, object, items, nothing, unknown, is_packet}
use Rattle.p416_syntax.specs.Scopes.{Scope, kind_of_type}
use Rattle.p416_syntax.specs.Calls.{Place, value, target, unasked}
use Rattle.p416_syntax.specs.Expressions.{is_chosen, can_write, kind_of}
use Rattle.p416_syntax.specs.Statements.{assigned_place}
use Rattle.p416_syntax.specs.Breaks.{BreaksNone, program_rules}
use Rattle.v1_core.specs.declared.block.Block.{Block}
use Rattle.v1_core.specs.Values.{Slice}
use Rattle.v1_core.specs.Surroundings as meaning
use Rattle.v1_core.specs.Surroundings.{Setting}
use Rattle.v1_core.specs.Numbered.{InScope}
use Rattle.v1_core.specs.Blocks.{control_at}
use Rattle.v1_core.specs.Cells.{Cells}
use Rattle.v1_core.specs.Seats.{Form, slot_form, header_form, stack_form, struct_form, no_form, form_of}
use Rattle.v1_ready_forms.specs.Named.{NamedSeat, seats_in}
use Rattle.v1_ready_laws.specs.Rules.{NamesSeated}
use Rattle.v1_ready_laws.proofs.Rules.{first_false}
use Rattle.v1_ready_blocks.specs.Tests.{World}
use Rattle.v1_ready_blocks.specs.Statements.{Deed, does}
use Rattle.v1_block_laws.specs.Variables.{scope_in_control}
use Rattle.v1_place_laws.specs.Places.{Meant, meant_by}
use Rattle.v1_ready_statements.specs.Around.{Around, table_found}
use Rattle.v1_ready_statements.specs.Targets.{parts_meant}
use Rattle.v1_ready_statements.specs.Tested.{ready_source}
use Rattle.v1_ready_statements.specs.Statements.{assigns_parts, assigned_to, assignment_ready}
use Rattle.v1_ready_statements.specs.Blocks as ready
use Rattle.v1_value_laws.specs.Kinds.{Fine}
use Rattle.v1_statement_laws.specs.Meeting.{Judged}
use Rattle.v1_statement_laws.specs.Leaves.{RunsAlike}
use Rattle.v1_statement_laws.proofs.Sources.{Composite}
use Rattle.v1_program_laws.specs.SourceLaws.{Headed}
use Rattle.v1_program_laws.proofs.Targets.{known_members, not_target, written_can, target_formed, target_chosen, headed_composite}
use Rattle.v1_ready_blocks.specs.Blocks.{world_of}
use Rattle.v1_control_laws.specs.Controls.{Waiting, rule_tests}
use Rattle.v1_control_laws.proofs.Answering.{controls_run}
use Rattle.v1_call_laws.specs.Telling.{ToldNone}
use Rattle.v1_program_laws.proofs.ControlValues.{told_conditions}
use Rattle.v1_program_laws.proofs.ValueLaws.{values_assigned, values_begin, initials_follow_tables}
use Rattle.v1_program_laws.specs.ControlLaws.{AssignmentsDo, BeginningsDo}
use Rattle.v1_program_laws.specs.Finished.{ControlLeavesDo, ControlsDo}
use Rattle.v1_program_laws.proofs.LeafValues.{target_told, value_told}
use Rattle.v1_program_laws.proofs.Joined.{body_leaves_do, action_bodies_do}

chosen_composite : (k : Kind) → Composite k → is_chosen k ≡ true
chosen_composite (bits width) h = absurd h
chosen_composite unsized h = absurd h
chosen_composite boolean h = absurd h
chosen_composite error_code h = absurd h
chosen_composite (header type) h = refl
chosen_composite (stack type size) h = refl
chosen_composite (struct type) h = refl
chosen_composite packet_in h = absurd h
chosen_composite packet_out h = absurd h
chosen_composite errors h = absurd h
chosen_composite (enumeration enum) h = absurd h
chosen_composite (one_of enum) h = absurd h
chosen_composite table h = absurd h
chosen_composite applied h = absurd h
chosen_composite (object obj) h = absurd h
chosen_composite items h = absurd h
chosen_composite nothing h = absurd h
chosen_composite unknown h = absurd h

at_some : {A : Type 0} (B : A → Type 0) (o : Option A) (x : A) → o ≡ Some x → IfSome o B → B x
at_some {A = A} B o x is h = subst (λ (p : Option A). IfSome p B) is h

never : (t : Bool) → t ≡ false → t ≡ true → ⊥
never true x y = cc x
never false x y = cc y

-- what isn't assigned to
module _ (P : Cells → Type 0) (b : Around) (w : meaning.World) (z : World) (s : Scope) (who : InScope) (seated : NamesSeated s (seats_in b.syntax w.around.roots who)) (fine : Fine s) where
  abbrev seats : List NamedSeat
  seats = seats_in b.syntax w.around.roots who

  unasked_nothing : (e f : Exp16) → Judged rule_tests s target e → is_chosen (kind_of s e) ≡ false → IfSome (assignment_ready b s seats e f) (RunsAlike P b w z s who [] (assign e f))
  unasked_nothing e f judged other = by_meant (meant_by s seats e) refl where
    can : can_write s e ≡ true
    can = written_can s e judged.1.1.1.1.0

    Alike : Deed → Type 0
    Alike d = RunsAlike P b w z s who [] (assign e f) (does d)

    each : (o : Option Deed) → IfSome o Alike → IfSome (option_map does o) (RunsAlike P b w z s who [] (assign e f))
    each None h = tt
    each (Some d) h = h

    headed_to : (x : Meant) (form : Form) → x.spot.seat.form ≡ form → Headed form → IfSome (assigns_parts (parts_meant s.layouts x) (ready_source s seats (table_found b) f)) Alike → IfSome (assigned_to b s seats (assigned_place (kind_of s e)) f x) Alike
    headed_to x form is heads g = by x.spot.seat.form (subst Headed (sym is) heads) g where
      by : (k : Form) → Headed k → IfSome (assigns_parts (parts_meant s.layouts (record { spot = record { seat = record { depth = x.spot.seat.depth; form = k; start = x.spot.seat.start; owner = x.spot.seat.owner }; told = x.spot.told }; slice = x.slice })) (ready_source s seats (table_found b) f)) Alike → IfSome (assigned_to b s seats (assigned_place (kind_of s e)) f (record { spot = record { seat = record { depth = x.spot.seat.depth; form = k; start = x.spot.seat.start; owner = x.spot.seat.owner }; told = x.spot.told }; slice = x.slice })) Alike
      by (slot_form of) h g = absurd h
      by (header_form type) h g = g
      by (stack_form type size) h g = g
      by (struct_form type) h g = g
      by no_form h g = absurd h

    parts : (x : Meant) → meant_by s seats e ≡ Some x → (form : Form) → x.spot.seat.form ≡ form → Headed form → IfSome (assigns_parts (parts_meant s.layouts x) (ready_source s seats (table_found b) f)) Alike
    parts x means form is heads = by x.slice refl where
      by : (cut : Option Slice) → x.slice ≡ cut → IfSome (assigns_parts (parts_meant s.layouts x) (ready_source s seats (table_found b) f)) Alike
      by (Some c) cuts = subst (λ (o : Option Slice). IfSome (assigns_parts (parts_meant s.layouts (record { spot = x.spot; slice = o })) (ready_source s seats (table_found b) f)) Alike) (sym cuts) tt
      by None whole =
          let formed : x.spot.seat.form ≡ form_of (kind_of s e) =
          at_some (λ (y : Meant). y.slice ≡ None → y.spot.seat.form ≡ form_of (kind_of s e)) (meant_by s seats e) x means
          (target_formed s seats fine seated e can (known_members s seats fine seated e target not_target judged.0)) whole in
          absurd (never (is_chosen (kind_of s e)) other (chosen_composite (kind_of s e) (headed_composite (kind_of s e) (subst Headed (sym is ∙ formed) heads))))

    nothing_to : (x : Meant) → IfSome (assigned_to b s seats (assigned_place (kind_of s e)) f (record { spot = record { seat = record { depth = x.spot.seat.depth; form = no_form; start = x.spot.seat.start; owner = x.spot.seat.owner }; told = x.spot.told }; slice = x.slice })) Alike
    nothing_to x = by x.slice where
      by : (cut : Option Slice) → IfSome (assigned_to b s seats (assigned_place (kind_of s e)) f (record { spot = record { seat = record { depth = x.spot.seat.depth; form = no_form; start = x.spot.seat.start; owner = x.spot.seat.owner }; told = x.spot.told }; slice = cut })) Alike
      by (Some c) = tt
      by None = tt

    by_form : (x : Meant) → meant_by s seats e ≡ Some x → (form : Form) → x.spot.seat.form ≡ form → IfSome (assigned_to b s seats (assigned_place (kind_of s e)) f x) Alike
    by_form x means (slot_form of) is = absurd (never (is_chosen (kind_of s e)) other (target_chosen s seats fine seated e x of can judged.0 judged.1.1.0 judged.1.0 means is))
    by_form x means (header_form type) is = headed_to x (header_form type) is tt (parts x means (header_form type) is tt)
    by_form x means (stack_form type size) is = headed_to x (stack_form type size) is tt (parts x means (stack_form type size) is tt)
    by_form x means (struct_form type) is = headed_to x (struct_form type) is tt (parts x means (struct_form type) is tt)
    by_form x means no_form is = subst (λ (form : Form). IfSome (assigned_to b s seats (assigned_place (kind_of s e)) f (record { spot = record { seat = record { depth = x.spot.seat.depth; form = form; start = x.spot.seat.start; owner = x.spot.seat.owner }; told = x.spot.told }; slice = x.slice })) Alike) (sym is) (nothing_to x)

    by_meant : (o : Option Meant) → meant_by s seats e ≡ o → IfSome (option_map does (option_and_then (assigned_to b s seats (assigned_place (kind_of s e)) f) o)) (RunsAlike P b w z s who [] (assign e f))
    by_meant None means = tt
    by_meant (Some x) means = each (assigned_to b s seats (assigned_place (kind_of s e)) f x) (by_form x means x.spot.seat.form refl)

module _ (c : Setting) (place : Block) (k : Control16) (accepted : BreaksNone c.syntax program_rules) (found : control_at c.syntax place ≡ Some k) where
  assignments_do : AssignmentsDo c k
  assignments_do w z vars from to n p s who e f h into of = by (is_chosen (kind_of s e) || is_packet (kind_of s e)) refl where
    none_told : is_chosen (kind_of s e) || is_packet (kind_of s e) ≡ true → ToldNone s f
    none_told is = value_told (scope_in_control c.syntax k) s (kind_of s e) f h.1 (subst (λ (q : Place). Judged rule_tests s q f) (ap (λ (t : Bool). cond t (value (kind_of s e)) unasked) is) of)

    by : (t : Bool) → (is_chosen (kind_of s e) || is_packet (kind_of s e)) ≡ t → IfSome (assignment_ready (ready.around_control c.syntax k) s (seats_in c.syntax w.around.roots who) e f) (RunsAlike (Waiting c.syntax p) (ready.around_control c.syntax k) w z s who [] (assign e f))
    by true is =
        values_assigned p (ready.around_control c.syntax k) w z from to n s who e f accepted h.0.context h.2
        (into, target_told (scope_in_control c.syntax k) s e h.1 into)
        of (λ chosen. none_told is) (told_conditions s f (none_told is))
    by false is = unasked_nothing (Waiting c.syntax p) (ready.around_control c.syntax k) w z s who h.0.context.seated h.0.context.fine e f into (first_false (is_chosen (kind_of s e)) (is_packet (kind_of s e)) is)

  beginnings_do : BeginningsDo c k
  beginnings_do w z vars from to n p s who t called e h are le judged =
      values_begin p (ready.around_control c.syntax k) w z from to n s who t called e accepted h.0.context h.2 are le (judged, value_told (scope_in_control c.syntax k) s (kind_of_type s.names t) e h.1 judged)

pub control_leaves_do : ControlLeavesDo
control_leaves_do c place k accepted found whole = (
  body_leaves_do c place k accepted found (assignments_do c place k accepted found) (beginnings_do c place k accepted found) whole,
  action_bodies_do c place k accepted found (assignments_do c place k accepted found) (beginnings_do c place k accepted found) whole,
)

pub controls_do : ControlsDo
controls_do c place k r fill accepted found made tables fills fit whole m j h waits runs =
    controls_run c place k r fill accepted found made tables fills fit (control_leaves_do c place k accepted found whole).1 (control_leaves_do c place k accepted found whole).0
    (λ applied. initials_follow_tables c place k (world_of fill r) accepted found applied) m j h waits runs
