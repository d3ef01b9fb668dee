-- A variable of the block with its initial value.
use Rattle.std.proofs.Common.{◌≡◌, ℕ, Option, Some, None, IfSome, List, length, refl, sym, ◌∙◌, subst}
use Rattle.std.specs.Prelude.{option_map, option_and_then}
use Rattle.p416_syntax.specs.declared.parsers.Var.{Var}
use Rattle.p416_syntax.specs.Tree.{Exp16}
use Rattle.p416_syntax.specs.Kinds.{Kind}
use Rattle.p416_syntax.specs.Scopes.{Scope, kind_of_type}
use Rattle.p416_syntax.specs.Calls.{value}
use Rattle.p416_syntax.specs.Breaks.{BreaksNone, program_rules}
use Rattle.v1_core.specs.Frames as sem
use Rattle.v1_core.specs.Slots.{the_variable, variable_kinds}
use Rattle.v1_core.specs.Surroundings as meaning
use Rattle.v1_core.specs.Numbered.{InScope, number_of}
use Rattle.v1_core.specs.Blocks.{with_initial}
use Rattle.v1_core.specs.Cells.{Cells}
use Rattle.v1_core.specs.Seats.{Form, slot_form, header_form, stack_form, struct_form, no_form, form_of, Seat}
use Rattle.v1_core.specs.Programs.{owner_seat}
use Rattle.v1_ready_forms.specs.Named.{NamedSeat, seats_in}
use Rattle.v1_ready_laws.specs.Rules.{Keeps}
use Rattle.v1_ready_blocks.specs.Moments.{Moment}
use Rattle.v1_ready_blocks.specs.Tests.{World}
use Rattle.v1_ready_blocks.specs.Statements as ready
use Rattle.v1_ready_blocks.specs.Statements.{Statement, does}
use Rattle.v1_block_laws.specs.Standing.{IsOfKind}
use Rattle.v1_block_laws.proofs.Apart.{body_scope}
use Rattle.v1_ready_statements.specs.Around.{Around}
use Rattle.v1_ready_statements.specs.Statements.{assigned_to, whole_seat, initial_ready}
use Rattle.v1_value_laws.proofs.Taken.{taken}
use Rattle.v1_statement_laws.specs.Behind.{Shown, InContext}
use Rattle.v1_program_laws.specs.SourceLaws.{Headed}
use Rattle.v1_program_laws.proofs.Shapes.{all_one}
use Rattle.v1_program_laws.proofs.Initializing.{block_begins}
use Rattle.v1_program_laws.proofs.Targets.{headed_composite}
use Rattle.v1_program_laws.proofs.BegunVariables.{variable_formed}
use Rattle.v1_call_laws.specs.Telling.{TestsTell}
use Rattle.v1_program_laws.specs.Giving.{Kept}
use Rattle.v1_program_laws.proofs.BegunValues.{begins}
use Rattle.v1_program_laws.proofs.ControlValues.{keeps, told_conditions, tests, conditions_ask}

module _ (P : Cells → Type 0) (b : Around) (w : meaning.World) (z : World) (from to next : ℕ) (who : InScope) (accepted : BreaksNone b.syntax program_rules) (at : InContext b.syntax w.around.roots from to next w.around.scope who) (tell : TestsTell P b w z w.around.scope who) where
  abbrev s : Scope
  s = w.around.scope

  abbrev seats : List NamedSeat
  seats = seats_in b.syntax w.around.roots who

  abbrev pub Begins : Var → Statement → Type 0
  Begins v r = (ran : Option ℕ) (m : sem.Moment) (k : Moment) → Shown P b.syntax who m k → m.stopped ≡ None → Shown P b.syntax who (with_initial w m v) (ready.run z ran r k)

  pub one_begins : (v : Var) (n : ℕ) (e : Exp16) → v.initial ≡ Some e → Kept s (value (kind_of_type s.names v.of)) e → number_of who.variables v.name ≡ Some n → IsOfKind (variable_kinds b.syntax) n (kind_of_type s.names v.of) → IfSome (initial_ready b s seats n (kind_of_type s.names v.of) e) (Begins v)
  one_begins v n e initial kept named is = by (form_of kind) refl where
    kind : Kind
    kind = kind_of_type w.around.scope.names v.of

    kept_it : Keeps w.around.scope (value (kind_of_type w.around.scope.names v.of)) e
    kept_it = keeps w.around.scope (value (kind_of_type w.around.scope.names v.of)) e kept

    formed : IfSome (owner_seat b.syntax (the_variable n)) (λ t. t.form ≡ form_of (kind_of_type w.around.scope.names v.of))
    formed = variable_formed b n (kind_of_type w.around.scope.names v.of) is

    whole : Headed (form_of (kind_of_type w.around.scope.names v.of)) → IfSome (initial_ready b s seats n (kind_of_type w.around.scope.names v.of) e) (Begins v)
    whole heads =
        block_begins P b w z accepted (all_one b.syntax accepted) who (body_scope (length (variable_kinds b.syntax)) from to next who at.body) at.layouts at.seated at.fine v e n initial named formed (headed_composite (kind_of_type w.around.scope.names v.of) heads)
        (taken w.around.scope (value (kind_of_type w.around.scope.names v.of)) e kept_it.0) (conditions_ask P b w z from to next w.around.scope who accepted at tell e (value (kind_of_type w.around.scope.names v.of)) kept_it (told_conditions w.around.scope e kept.1))

    nothing_at : (o : Option Seat) → IfSome o (λ t. t.form ≡ form_of (kind_of_type w.around.scope.names v.of)) → form_of (kind_of_type w.around.scope.names v.of) ≡ no_form → IfSome (option_map does (option_and_then (λ u. assigned_to b s seats (value (kind_of_type w.around.scope.names v.of)) e (whole_seat u)) o)) (Begins v)
    nothing_at None h is_none = tt
    nothing_at (Some seat) h is_none = subst (λ (form : Form). IfSome (option_map does (assigned_to b s seats (value (kind_of_type w.around.scope.names v.of)) e (whole_seat (record { depth = seat.depth; form = form; start = seat.start; owner = seat.owner })))) (Begins v)) (sym (h ∙ is_none)) tt

    by : (form : Form) → form_of (kind_of_type w.around.scope.names v.of) ≡ form → IfSome (initial_ready b s seats n (kind_of_type w.around.scope.names v.of) e) (Begins v)
    by (slot_form of) single =
        begins P b w z who accepted (body_scope (length (variable_kinds b.syntax)) from to next who at.body) v e n of initial named
        (slots (owner_seat b.syntax (the_variable n)) formed) single kept_it (tests P b w z from to next w.around.scope who accepted at tell (value (kind_of_type w.around.scope.names v.of)) (value (kind_of_type w.around.scope.names v.of)) e kept_it kept.1) where
          slots : (o : Option Seat) → IfSome o (λ t. t.form ≡ form_of (kind_of_type w.around.scope.names v.of)) → IfSome o (λ t. t.form ≡ slot_form of)
          slots None h = tt
          slots (Some t) h = h ∙ single
    by (header_form type) single = whole (subst Headed (sym single) tt)
    by (stack_form type size) single = whole (subst Headed (sym single) tt)
    by (struct_form type) single = whole (subst Headed (sym single) tt)
    by no_form single = nothing_at (owner_seat b.syntax (the_variable n)) formed single
