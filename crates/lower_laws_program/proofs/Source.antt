-- What of a translation is a law of P4_14 alone.
use Rattle.std.proofs.Common.{List, ap}
use Rattle.match_core.specs.declared.entries.Entries.{Entries}
use Rattle.p414_syntax.specs.declared.syntax.Decl.{Decl}
use Rattle.p414_syntax.specs.Breaks.{BreaksNone, program_rules}
use Rattle.p414_sem.specs.Expanded.{IsExpanded}
use Rattle.p414_sem.specs.Controls.{Setting}
use Rattle.lower_laws_states.specs.Arrival.{Arrived}
use Rattle.lower_laws_states.proofs.Whole.{arrival_is_kept, no_bound_stops}
use Rattle.lower_laws_passes.specs.Held.{PortStays}
use Rattle.lower_laws_parser.specs.Parsing.{NeverStopped}
use Rattle.lower_laws_program.specs.Fits.{with_entries}

-- no accepted program writes the port of arrival
pub port_stays : (c14 : Setting) → BreaksNone c14.decls program_rules → IsExpanded c14.decls c14.expanded → (entries : Entries) → PortStays (with_entries c14 entries)
port_stays c14 none is entries =
    let stays = arrival_is_kept (with_entries c14 entries) none is in
    record {
      parser = λ t. ap (λ (a : Arrived). a.ingress_port) (stays.parser t);
      ingress = λ x. ap (λ (a : Arrived). a.ingress_port) (stays.control c14.expanded.ingress x);
      egress = λ x. ap (λ (a : Arrived). a.ingress_port) (stays.control c14.expanded.egress x);
    }

-- nor does a bound stop its parser
pub never_stopped : (ds : List Decl) → BreaksNone ds program_rules → NeverStopped ds
never_stopped ds none = no_bound_stops ds none
