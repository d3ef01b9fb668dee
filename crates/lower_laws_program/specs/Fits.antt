-- What each part of the lowering gives, and what a program carries (this project's own; P4_14 1.0.5, "Parser
-- Specification", "Deparsing", "Actions", "Packet Processing and Control Flow"; P4_16 1.2, "Packet parsing", "Control
-- blocks", "Deparsing"; `v1model.p4`, `V1Switch`).
use Rattle.std.specs.Prelude.{codes, ◌∷◌, None, Option, ◌≡◌, ◌≢◌, ℕ, Bool, true, false, List, [], map, Some, All}
use Rattle.std.specs.List.{AllByRecursion}
use Rattle.state_store.specs.declared.shapes.Shape.{Shape}
use Rattle.match_core.specs.declared.entries.Entries.{Entries}
use Rattle.match_core.specs.Fits.{Fits}
use Rattle.match_core.specs.Stores.{shapes_of}
use Rattle.fabric.specs.declared.packets.Arrival.{Arrival}
use Rattle.fabric.specs.Twins.{FitsArrival, fit_packets}
use Rattle.p414_syntax.specs.declared.parsers.Parser.{Parser}
use Rattle.p414_syntax.specs.declared.syntax.Decl.{Decl}
use Rattle.p414_syntax.specs.Names.{Name}
use Rattle.p414_sem.specs.Parsing.{state_named}
use Rattle.p414_sem.specs.Expanded.{Expanded, IsExpanded}
use Rattle.p414_syntax.specs.Breaks.{BreaksNone, program_rules}
use Rattle.p414_sem.specs.Controls.{Setting as Setting14}
use Rattle.p414_sem.specs.Signatures.{signature14}
use Rattle.p414_sem.specs.Runs.{Run14}
use Rattle.p416_syntax.specs.declared.parsers.Parser16.{Parser16}
use Rattle.p416_syntax.specs.declared.controls.Control16.{Control16}
use Rattle.p416_syntax.specs.declared.program.Syntax16.{Syntax16}
use Rattle.p416_syntax.specs.Kinds.{packet_in, packet_out}
use Rattle.p416_syntax.specs.BuiltIn.{functions}
use Rattle.v1_core.specs.Frames.{Owner, of_headers}
use Rattle.v1_core.specs.Signatures.{signature16}
use Rattle.v1_core.specs.Surroundings.{Setting, quiet_world}
use Rattle.v1_core.specs.Runs.{Run16}
use Rattle.v1_core.specs.Parsing.{around_parser}
use Rattle.v1_core.specs.Blocks.{around_control, control_world}
use Rattle.v1_core.specs.declared.block.Block.TheVariants.{Ingress, Egress, Deparse}
use Rattle.v1_core.specs.declared.block.Block.{Block}
use Rattle.p416_syntax.specs.declared.controls.Action16.{Action16}
use Rattle.p414_syntax.specs.declared.syntax.Rule14.{Rule14}
use Rattle.p414_syntax.specs.declared.syntax.Rule14.TheVariants as rule
use Rattle.v1_core.specs.Frames.{of_metadata, of_standard}
use Rattle.p416_syntax.specs.Kinds.{struct}
use Rattle.lower_laws_base.specs.Context.{Local, ObjectName}
use Rattle.lower_laws_base.specs.Alike.{ActsAlike}
use Rattle.v1_core.specs.Blocks.{act}
use Rattle.lower_laws_base.specs.Context.{StateLayout, Lowering, words_of}
use Rattle.lower_laws_base.specs.Between.{every}
use Rattle.lower_laws_base.specs.Blocks.{VerifyAlike, IngressAlike, EgressAlike, ComputeAlike, IngressIdle, EgressIdle}
use Rattle.lower_laws_parser.specs.Parsing.{IsSome, parser_words}
use Rattle.p414_syntax.specs.declared.parsers.Return.{Return}
use Rattle.p414_syntax.specs.declared.parsers.Return.TheVariants as end_of
use Rattle.p414_syntax.specs.declared.parsers.Parser.{Parser}
use Rattle.p414_sem.specs.Parsing.{state_named}
use Rattle.lower_laws_parser.specs.Starts.{Begins}
use Rattle.lower_laws_parser.specs.Deparsing.{emits}
use Rattle.lower_laws_program.specs.Program.{root_struct, packet_called, parser_parameters, deparser_parameters, Parts, syntax_of, DeclaresOnce}
use Rattle.lower_laws_program.specs.TypesFit.{TypeWords, TypesFit}
use Rattle.p416_syntax.specs.Declarations.{known_state}
use Rattle.lower_laws_program.specs.Scopes.{IsClear, BlockWords, block_layout, block_lowering, enumerations}
use Rattle.lower_laws_states.specs.Expansions.{Has}

-- the parser

-- a select has a value, as each that was read
abbrev pub SelectHas : Return → Type 0
SelectHas (end_of.Select vs cases) = IsSome vs
SelectHas _ = Unit {0}

-- no parameter has a copy
abbrev pub nothing_copied : Owner → Name
nothing_copied o = []

-- no primitive has a variable
abbrev pub nothing_spare : ℕ → ℕ → Name
nothing_spare a i = []

-- what is told of the parser
abbrev pub parser_block : BlockWords
parser_block = record {
  has = every;
  variables = [];
  copy = nothing_copied;
  objects = [];
  spare = nothing_spare;
  parameters = [];
  can_write = every;
  packet = Some (record { called = packet_called; kind = packet_in });
}

-- what stands around the parser's states
abbrev pub parser_lowering : StateLayout → TypeWords → Setting → Parser16 → Lowering
parser_lowering g t c16 q = block_lowering g t parser_block (quiet_world (around_parser c16 q))

-- What the parser gives: it is written as it is asked to be, under new names of states, which hide no built-in name.
pub record ParserFits (g : StateLayout) (ds : List Decl) (t : TypeWords) (c16 : Setting) (q : Parser16) : Type 0 where
  pub state : Name → Name
  pub parameters : q.parameters ≡ parser_parameters
  pub vars : q.vars ≡ []
  pub begins : Begins (parser_lowering g t c16 q) ds (parser_words (parser_lowering g t c16 q) packet_called state) q.states
  pub differ : (a b : Name) → a ≢ b → state a ≢ state b
  pub functions_free : AllByRecursion (IsClear (map known_state q.states)) functions
  pub enumerations_free : AllByRecursion (IsClear (map known_state q.states)) enumerations

-- the deparser

-- the parameter of the deparser beside the packet
abbrev pub headers_alone : Owner → Bool
headers_alone of_headers = true
headers_alone _ = false

-- no parameter of the deparser can be written
abbrev pub none_written : Owner → Bool
none_written o = false

-- what is told of the deparser
abbrev pub deparser_block : BlockWords
deparser_block = record {
  has = headers_alone;
  variables = [];
  copy = nothing_copied;
  objects = [];
  spare = nothing_spare;
  parameters = [];
  can_write = none_written;
  packet = Some (record { called = packet_called; kind = packet_out });
}

-- what stands around the deparser's statements
abbrev pub deparser_lowering : StateLayout → TypeWords → Setting → Control16 → Lowering
deparser_lowering g t c16 d = block_lowering g t deparser_block (control_world (around_control c16 Deparse d))

-- What the deparser gives: it emits the headers in their order.
pub record DeparserFits (g : StateLayout) (ds : List Decl) (x : Expanded) (t : TypeWords) (c16 : Setting) (d : Control16) : Type 0 where
  pub parameters : d.parameters ≡ deparser_parameters
  pub locals : d.locals ≡ []
  pub body : d.body ≡ emits (words_of (deparser_lowering g t c16 d)) packet_called x.order

-- ingress and egress

-- the names of the copies of the parameters
abbrev pub old_name : Owner → Name
old_name of_headers = codes "old_hdr"
old_name of_metadata = codes "old_meta"
old_name of_standard = codes "old_sm"
old_name _ = []

-- a variable that holds the copy of a parameter
abbrev pub old_variable : Owner → Local
old_variable o = record { called = old_name o; kind = struct (root_struct o) }

-- the variables of a pipeline, which only the parallel rule has
abbrev pub old_variables : Rule14 → List Local
old_variables rule.Sequential = []
old_variables rule.Parallel = old_variable of_headers ∷ old_variable of_metadata ∷ old_variable of_standard ∷ []

-- what is told of ingress or egress
abbrev pub pipeline_block : Rule14 → List ObjectName → BlockWords
pipeline_block r objects = record {
  has = every;
  variables = old_variables r;
  copy = old_name;
  objects = objects;
  spare = nothing_spare;
  parameters = [];
  can_write = every;
  packet = None;
}

-- A copy of an action in a control: of which action, the widths of its parameters, and the direct counter that it counts.
pub record ActionCopy : Type 0 where
  pub action : ℕ
  pub widths : List ℕ
  pub direct : Option ℕ
  pub written : Action16

-- What the actions of a control with the variables of a rule give: each copy does what its action does.
abbrev pub ActionsFit : StateLayout → Setting14 → Setting → Rule14 → List ObjectName → Block → Control16 → List ActionCopy → Type 0
ActionsFit g c14 c16 variables objects which control copies =
    (k : ActionCopy) → Has copies k →
    ActsAlike (block_layout g (pipeline_block variables objects)) c14 (around_control c16 which control) (act (around_control c16 which control)) k.direct k.action k.widths k.written

-- What the four controls give: each does what P4_14 says, and a packet that failed is dropped.
pub record ControlsFit (g : StateLayout) (c14 : Setting14) (c16 : Setting) : Type 0 where
  pub verify : VerifyAlike g c14 c16
  pub ingress : IngressAlike g c14 c16
  pub egress : EgressAlike g c14 c16
  pub failed_ingress : IngressIdle c16
  pub failed_egress : EgressIdle c16
  pub compute : ComputeAlike g c14 c16

-- the whole

-- the layout with the shapes that the objects have under some entries
abbrev pub layout_with : StateLayout → List Shape → StateLayout
layout_with g shapes = record { names = g.names; size_of = g.size_of; has = g.has; members = g.members; variables = g.variables; shapes = shapes }

-- the program of these parts under entries
abbrev pub setting_of : Parts → Entries → Setting
setting_of p entries = record { syntax = syntax_of p; entries = entries }

-- a program of P4_14 under entries
abbrev pub with_entries : Setting14 → Entries → Setting14
with_entries c14 entries = record { decls = c14.decls; expanded = c14.expanded; rule = c14.rule; entries = entries }

-- What everything is measured by under these entries: a direct counter has as many cells as its table has entries.
abbrev pub layout_at : StateLayout → Setting14 → Entries → StateLayout
layout_at g c14 entries = layout_with g (shapes_of (signature14 c14.decls) entries)

-- All that is asked of the parts of one translation, under one rule.
pub record TranslationFits (c14 : Setting14) (g : StateLayout) (t : TypeWords) (p : Parts) : Type 0 where
  -- types and objects
  pub types : TypesFit g c14.decls c14.expanded t p.types
  pub signature : signature16 (syntax_of p) ≡ signature14 c14.decls
  -- the parser
  pub parser : (entries : Entries) → ParserFits (layout_at g c14 entries) c14.decls t (setting_of p entries) p.parser
  -- the actions of ingress and egress
  pub objects : List ObjectName
  -- a pipeline has the variables of the parallel rule only where one of its actions needs copies
  pub ingress_variables : Rule14
  pub egress_variables : Rule14
  pub ingress_copies : List ActionCopy
  pub egress_copies : List ActionCopy
  pub ingress_actions : (entries : Entries) → Fits entries (signature14 c14.decls) → ActionsFit (layout_at g c14 entries) (with_entries c14 entries) (setting_of p entries) ingress_variables objects Ingress p.ingress ingress_copies
  pub egress_actions : (entries : Entries) → Fits entries (signature14 c14.decls) → ActionsFit (layout_at g c14 entries) (with_entries c14 entries) (setting_of p entries) egress_variables objects Egress p.egress egress_copies
  -- the controls, given what the actions do
  pub controls :
      (entries : Entries) → Fits entries (signature14 c14.decls) →
      ActionsFit (layout_at g c14 entries) (with_entries c14 entries) (setting_of p entries) ingress_variables objects Ingress p.ingress ingress_copies →
      ActionsFit (layout_at g c14 entries) (with_entries c14 entries) (setting_of p entries) egress_variables objects Egress p.egress egress_copies →
      ControlsFit (layout_at g c14 entries) (with_entries c14 entries) (setting_of p entries)
  -- the deparser, and the names at the top
  pub deparser : (entries : Entries) → DeparserFits (layout_at g c14 entries) c14.decls c14.expanded t (setting_of p entries) p.deparser
  pub once : DeclaresOnce p
  -- the program is accepted, and expanded
  pub none : BreaksNone c14.decls program_rules
  pub expanded : IsExpanded c14.decls c14.expanded
  pub selects : (called : Name) (y : Parser) → state_named c14.decls called ≡ Some y → SelectHas y.end

-- Both programs send the same, leave the same and cut as many, under all entries that fit.
pub record Carries (c14 : Setting14) (syntax : Syntax16) : Type 0 where
  pub signature : signature16 syntax ≡ signature14 c14.decls
  pub runs :
      (entries : Entries) → Fits entries (signature14 c14.decls) → (bound : ℕ) (arrivals : List Arrival) → All (FitsArrival fit_packets) arrivals →
      ((Run14 (with_entries c14 entries) bound arrivals).sent ≡ (Run16 (record { syntax = syntax; entries = entries }) bound arrivals).sent)
      × ((Run14 (with_entries c14 entries) bound arrivals).cut ≡ (Run16 (record { syntax = syntax; entries = entries }) bound arrivals).cut)
      × ((Run16 (record { syntax = syntax; entries = entries }) bound arrivals).state.store ≡ (Run14 (with_entries c14 entries) bound arrivals).state.store)
