-- A program whose parts fit carries the program of P4_14, under either rule.
use Rattle.std.proofs.Common.{List, All, refl, arith}
use Rattle.state_store.specs.declared.shapes.Shape.{Shape}
use Rattle.match_core.specs.declared.entries.Entries.{Entries}
use Rattle.match_core.specs.Fits.{Fits}
use Rattle.fabric.specs.declared.packets.Arrival.{Arrival}
use Rattle.fabric.specs.Twins.{FitsSession, FitsArrival, fit_packets, SamePasses}
use Rattle.p414_syntax.specs.declared.syntax.Decl.{Decl}
use Rattle.p414_sem.specs.Expanded.{Expanded}
use Rattle.p414_sem.specs.Controls.{Setting as Setting14}
use Rattle.p414_sem.specs.Runs.{machine14}
use Rattle.p414_sem.specs.Signatures.{signature14}
use Rattle.p416_syntax.specs.declared.program.Decl16.{Decl16}
use Rattle.v1_core.specs.Surroundings.{Setting}
use Rattle.v1_core.specs.Runs.{machine16}
use Rattle.lower_laws_base.specs.Context.{StateLayout}
use Rattle.lower_laws_base.specs.Blocks.{BlocksAlike}
use Rattle.lower_laws_passes.specs.Preserving.{KeptAlike}
use Rattle.lower_laws_passes.specs.Types.{TypesAlike}
use Rattle.lower_laws_passes.specs.Held.{HeldAlike, SameState, fit_nine}
use Rattle.lower_laws_passes.proofs.Passes.{passes_alike}
use Rattle.lower_laws_passes.proofs.Carries.{carries}
use Rattle.lower_laws_program.specs.Program.{Parts, syntax_of}
use Rattle.lower_laws_program.specs.TypesFit.{TypeWords, TypesFit}
use Rattle.lower_laws_program.specs.Fits.{setting_of, with_entries, layout_with, layout_at, TranslationFits, Carries}
use Rattle.lower_laws_program.proofs.Types.{types_alike}
use Rattle.lower_laws_program.proofs.Parser.{parser_alike}
use Rattle.lower_laws_program.proofs.Order.{order_stands}
use Rattle.lower_laws_program.proofs.States.{state_fits}
use Rattle.lower_laws_states.proofs.Accepted.{state_has}
use Rattle.lower_laws_program.proofs.Deparser.{deparser_alike}
use Rattle.lower_laws_program.proofs.Stores.{first_stored}
use Rattle.lower_laws_program.proofs.Source.{port_stays, never_stopped}

-- the types say nothing of the shapes of objects
pub types_with : (g : StateLayout) (ds : List Decl) (x : Expanded) (t : TypeWords) (types : List Decl16) (shapes : List Shape) → TypesFit g ds x t types → TypesFit (layout_with g shapes) ds x t types
types_with g ds x t types shapes fits = record {
  differ = fits.differ;
  shown = record { all = fits.shown.all; each = fits.shown.each };
  widths = fits.widths;
  stacks = fits.stacks;
  headers_struct = fits.headers_struct;
  metadata_struct = fits.metadata_struct;
  header = fits.header;
  struct = fits.struct;
  header_member = fits.header_member;
  metadata_member = fits.metadata_member;
  headers_once = fits.headers_once;
  metadata_once = fits.metadata_once;
  header_members = fits.header_members;
  metadata_members = fits.metadata_members;
  standard_members = fits.standard_members;
  first = fits.first;
  marked = fits.marked;
  unmarked = fits.unmarked;
}

module _ (c14 : Setting14) (g : StateLayout) (t : TypeWords) (p : Parts) (fits : TranslationFits c14 g t p) (entries : Entries) (fit : Fits entries (signature14 c14.decls)) where
  abbrev pub here : StateLayout
  here = layout_at g c14 entries

  abbrev pub c16 : Setting
  c16 = setting_of p entries

  types : TypesFit here c14.decls c14.expanded t p.types
  types = types_with g c14.decls c14.expanded t p.types _ fits.types

  pub blocks : BlocksAlike here (with_entries c14 entries) c16
  blocks =
      let controls = fits.controls entries fit (fits.ingress_actions entries fit) (fits.egress_actions entries fit) in
      record {
        parser = parser_alike here c14.decls c14.expanded t p types fits.once c16 refl (fits.parser entries) (never_stopped c14.decls fits.none) (λ called y is. state_fits here c14.decls c14.expanded t p.types types fits.none c16 p.parser _ y (state_has c14.decls called y is) (fits.selects called y is));
        verify = controls.verify;
        ingress = controls.ingress;
        egress = controls.egress;
        failed_ingress = controls.failed_ingress;
        failed_egress = controls.failed_egress;
        compute = controls.compute;
        deparser = deparser_alike here c14.decls c14.expanded t p types fits.once c16 refl (fits.deparser entries) (order_stands here c14.decls types.shown types.widths fits.none c14.expanded fits.expanded);
      }

  pub all_types : TypesAlike here c14.decls c14.expanded c16.syntax
  all_types = types_alike here c14.decls c14.expanded t p types fits.once (fits.parser entries).parameters

  -- pass by pass
  pub translation_passes : SamePasses fit_nine (SameState here.shapes) (KeptAlike here) (HeldAlike here) (machine14 (with_entries c14 entries)) (machine16 c16)
  translation_passes = passes_alike here (with_entries c14 entries) c16 blocks (port_stays c14 fits.none fits.expanded entries) all_types

  sessions : All (FitsSession fit_nine) entries.sessions
  sessions = λ k d lt. omega (arith, (fit.sessions.each k d lt).port)

  arrivals_fit : (arrivals : List Arrival) → All (FitsArrival fit_packets) arrivals → All (FitsArrival fit_nine) arrivals
  arrivals_fit arrivals all = λ k d lt. (tt, omega (arith, (all k d lt).1))

pub translation_carries : (c14 : Setting14) (g : StateLayout) (t : TypeWords) (p : Parts) → TranslationFits c14 g t p → Carries c14 (syntax_of p)
translation_carries c14 g t p fits = record {
  signature = fits.signature;
  runs = λ entries fit bound arrivals all.
      carries (layout_at g c14 entries) (with_entries c14 entries) (setting_of p entries) (blocks c14 g t p fits entries fit) (port_stays c14 fits.none fits.expanded entries) (all_types c14 g t p fits entries fit)
      refl (first_stored (signature14 c14.decls) entries fit) fits.signature (sessions c14 g t p fits entries fit) bound arrivals (arrivals_fit c14 g t p fits entries fit arrivals all);
}
