-- The laws.
use Rattle.p414_syntax.specs.ControlExpansion.{ingress, egress}
use Rattle.p414_sem.specs.Expanded.{primitives_at}
use Rattle.p414_sem.specs.Operations.{primitive_of}
use Rattle.lower_laws_states.specs.Fits.{FitsPrimitive}
use Rattle.lower_laws_states.proofs.Members.{has_each}
use Rattle.lower_laws_states.specs.Laws.{EffectsKeepStates, PrimitivesKeepStates, ParsingKeepsStates, ActionsKeepStates, ControlsKeepStates, UpdatesKeepStates, PassesKeepStates, NumbersFit, FieldsAreWide, ArrivalIsKept, NoBoundStops, ExpansionsStand, TablesFit}
use Rattle.lower_laws_states.proofs.Reading.{read_fits}
use Rattle.lower_laws_states.proofs.Effects.{fallen_fits, one_fits, acted_by_fits}
use Rattle.lower_laws_states.proofs.Parsing.{parsed_fits, updated_fits}
use Rattle.lower_laws_states.proofs.Tables.{control_run_fits}
use Rattle.lower_laws_states.proofs.Passes.{ingress_fits, reparse_fits, egress_fits}
use Rattle.lower_laws_states.proofs.Expansion.{pipeline_without_calls}
use Rattle.lower_laws_states.proofs.Accepted.{accepted_states, accepted_primitives}
use Rattle.lower_laws_states.proofs.Keeping.{parsed_same, control_same, updated_same}
use Rattle.lower_laws_states.proofs.Premises.{actions_fit, accepted_fits, accepted_keeps}
use Rattle.lower_laws_states.proofs.Bounded.{never_stopped}
use Rattle.lower_laws_states.proofs.Standing.{accepted_stands}
use Rattle.lower_laws_states.proofs.Items.{accepted_items}
use Rattle.lower_laws_states.proofs.Widths.{slot_wide}
use Rattle.lower_laws_states.proofs.Filling.{fill_fits}
use Rattle.lower_laws_states.proofs.Chosen.{chosen_fits}

pub effects_keep_states : EffectsKeepStates
effects_keep_states = fallen_fits

pub primitives_keep_states : PrimitivesKeepStates
primitives_keep_states ds x none is action i h arguments read now before state =
    one_fits ds x arguments read now i before state (has_each (λ i. FitsPrimitive ds (primitive_of ds x i)) (primitives_at x action) i (actions_fit ds none x is action) h)

pub parsing_keeps_states : ParsingKeepsStates
parsing_keeps_states ds none s state = parsed_fits ds (accepted_states ds none) s state

pub actions_keep_states : ActionsKeepStates
actions_keep_states ds x none is rule action arguments m state = acted_by_fits ds x arguments rule action m state (actions_fit ds none x is action)

pub controls_keep_states : ControlsKeepStates
controls_keep_states c none is few body m state = control_run_fits c (accepted_fits c.decls none c.expanded is.expanded few) is.entries body m state

pub updates_keep_states : UpdatesKeepStates
updates_keep_states = updated_fits

pub passes_keep_states : PassesKeepStates
passes_keep_states c none is few =
    let fits = accepted_fits c.decls none c.expanded is.expanded few in
    let keeps = accepted_keeps c.decls none c.expanded is.expanded in record {
      ingress = ingress_fits c fits keeps is.entries;
      reparse = reparse_fits c fits keeps;
      egress = egress_fits c fits keeps is.entries;
    }

pub numbers_fit : NumbersFit
numbers_fit = read_fits

pub fields_are_wide : FieldsAreWide
fields_are_wide = slot_wide

pub arrival_is_kept : ArrivalIsKept
arrival_is_kept c none is =
    let keeps = accepted_keeps c.decls none c.expanded is in record {
      parser = parsed_same c.decls c.expanded keeps;
      control = control_same c keeps;
      update = updated_same c.decls c.expanded keeps;
    }

pub no_bound_stops : NoBoundStops
no_bound_stops = never_stopped

pub expansions_stand : ExpansionsStand
expansions_stand ds x none is = record {
  actions_stand = λ n lt. record { primitives = accepted_primitives ds none x is n lt; stand = accepted_stands ds none x is n lt };
  lists_stand = accepted_items ds none x is;
  ingress = pipeline_without_calls ds ingress x.ingress is.to_ingress;
  egress = pipeline_without_calls ds egress x.egress is.to_egress;
}

pub tables_fit : TablesFit
tables_fit c none is name t e = record { fill = fill_fits c is.entries name t e; choice = chosen_fits c none is.entries name t e }
