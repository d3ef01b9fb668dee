-- The passes of a packet through the six blocks (`v1model.p4`, `V1Switch`, `standard_metadata_t`; what is preserved, the
-- order behind a block, and what a clone keeps are this project's own).
use Rattle.std.specs.Prelude.{ℕ, ◌%◌, ◌^◌, Bool, true, false, ◌==◌, if◌then◌else◌, List, [], ◌∷◌, ◌++◌, length, flat_map, Option, Some, None, option_map, codes}
use Rattle.std.specs.List.{list_any}
use Rattle.std.specs.Str.{bytes_eq}
use Rattle.state_store.specs.Ports.{drop_port}
use Rattle.state_store.specs.State.{Contents}
use Rattle.fabric.specs.declared.items.Event.{Event}
use Rattle.fabric.specs.declared.items.Item.{Item}
use Rattle.fabric.specs.declared.items.IngressEnd.{IngressEnd}
use Rattle.fabric.specs.declared.items.IngressNext.{IngressNext}
use Rattle.fabric.specs.declared.items.IngressNext.TheVariants as after_ingress
use Rattle.fabric.specs.declared.items.EgressEnd.{EgressEnd}
use Rattle.fabric.specs.declared.items.EgressNext.{EgressNext}
use Rattle.fabric.specs.declared.items.EgressNext.TheVariants as after_egress
use Rattle.p416_syntax.specs.declared.lexeme.Literal16.{Literal16}
use Rattle.p416_syntax.specs.declared.parts.Type16.{Type16}
use Rattle.p416_syntax.specs.declared.parts.Type16.TheVariants as type_of
use Rattle.p416_syntax.specs.declared.parts.StructField.{StructField}
use Rattle.p416_syntax.specs.declared.program.Decl16.{Decl16}
use Rattle.p416_syntax.specs.declared.program.Decl16.TheVariants as decl
use Rattle.p416_syntax.specs.declared.program.Syntax16.{Syntax16}
use Rattle.p416_syntax.specs.Names.{Name}
use Rattle.p416_syntax.specs.Kinds.{Kind, struct}
use Rattle.p416_syntax.specs.BuiltIn.{standard}
use Rattle.p416_syntax.specs.Declarations.{layouts_of, list_numbers}
use Rattle.p416_syntax.specs.Main.{headers_kind, metadata_kind}
use Rattle.v1_core.specs.declared.block.Block.TheVariants.{Verify, Ingress, Egress, Compute, Deparse}
use Rattle.v1_core.specs.declared.parser_error.ParserError.{ParserError}
use Rattle.v1_core.specs.declared.parser_error.ParserError.TheVariants.{NoError, PacketTooShort, StackOutOfBounds, NoMatch}
use Rattle.v1_core.specs.Values.{Value, a_number, a_member, no_members, zero_value}
use Rattle.v1_core.specs.Frames.{Frame, Moment, Request, standard_number, with_standard, without_requests_and_events}
use Rattle.v1_core.specs.Surroundings.{Setting}
use Rattle.v1_core.specs.Blocks.{control16}
use Rattle.v1_core.specs.Parsing.{Parsed, parse16}

-- what is preserved

-- metadata of which nothing is preserved: all of it is 0
abbrev pub none_preserved : Syntax16 → Value
none_preserved syntax = zero_value (layouts_of syntax.decls) (metadata_kind syntax)

-- the fields of the struct with a name
abbrev pub struct_called : List Decl16 → Name → List StructField
struct_called [] text = []
struct_called (decl.Struct x ∷ ds) text = if bytes_eq x.name text then x.fields else struct_called ds text
struct_called (d ∷ ds) text = struct_called ds text

-- the fields of what is declared to be of a type, and of a kind, if that is a struct
abbrev pub fields_of_type : List Decl16 → Type16 → List StructField
fields_of_type ds (type_of.Named text None) = struct_called ds text
fields_of_type ds _ = []

abbrev pub struct_fields : List Decl16 → Kind → List StructField
struct_fields ds (struct text) = struct_called ds text
struct_fields ds _ = []

-- a field's own declaration bears `@field_list` with this number
abbrev pub is_number : ℕ → Literal16 → Bool
is_number list n = n.value == list

abbrev pub is_in_list : ℕ → StructField → Bool
is_in_list list f = list_any (is_number list) (flat_map list_numbers f.notes)

abbrev pub number_if_in_list : ℕ → StructField → ℕ → ℕ
number_if_in_list list f number = if is_in_list list f then number else 0

-- what a list preserves of a struct's bits and of those of the structs in it; the other bits are 0
abbrev pub preserved_in : List Decl16 → ℕ → List StructField → Value → Value
preserved_in ds list (f ∷ fields) (a_member called (a_number width number) rest) =
    a_member called (a_number width (number_if_in_list list f number)) (preserved_in ds list fields rest)
preserved_in ds list (f ∷ fields) (a_member called of rest) =
    a_member called (preserved_in ds list (fields_of_type ds f.of) of) (preserved_in ds list fields rest)
preserved_in ds list fields v = v

-- what a request preserves, as it stands
abbrev pub preserved : Syntax16 → Frame → Request → Value
preserved syntax f request =
    preserved_in syntax.decls request.1 (struct_fields syntax.decls (metadata_kind syntax)) f.metadata

-- frames as a pass begins

-- these values, no variable, nothing requested, no table applied
abbrev pub frame_of : Value → Value → Value → Frame
frame_of headers metadata standard = record {
  headers = headers;
  metadata = metadata;
  standard = standard;
  variables = no_members;
  inner = no_members;
  clone_i2e = None;
  clone_e2e = None;
  resubmit = None;
  recirculate = None;
  events = [];
}

-- standard metadata that is 0 but for the port of arrival, the packet's length and its kind
abbrev pub fresh_standard : Syntax16 → ℕ → ℕ → ℕ → Value
fresh_standard syntax port octets kind =
    let zeros = frame_of no_members no_members (zero_value (layouts_of syntax.decls) standard) in
    (with_standard (codes "ingress_port") (a_number 9 port)
    (with_standard (codes "packet_length") (a_number 32 octets)
    (with_standard (codes "instance_type") (a_number 32 kind) zeros))).standard

-- all headers are invalid and all stacks at place 0, and the metadata is what is preserved
abbrev pub new_frame : Syntax16 → ℕ → ℕ → ℕ → Value → Frame
new_frame syntax port octets kind kept =
    frame_of (zero_value (layouts_of syntax.decls) (headers_kind syntax)) kept (fresh_standard syntax port octets kind)

-- all numbers are 0, all headers invalid, all stacks at place 0
abbrev pub blank_frame : Syntax16 → Frame
blank_frame syntax =
    frame_of (zero_value (layouts_of syntax.decls) (headers_kind syntax)) (none_preserved syntax)
    (zero_value (layouts_of syntax.decls) standard)

-- what stands between two calls of a pass: the store, the count of work, and the applications of tables in the last call
pub record Between : Type 0 where
  pub store : Contents
  pub work : ℕ
  pub events : List Event

-- what is held of a packet between ingress and egress: its frame, the octets that weren't parsed, the port of arrival
pub record Held : Type 0 where
  pub frame : Frame
  pub unparsed : List ℕ
  pub port : ℕ

-- as a block begins with these octets: nothing stopped the parser, nothing is emitted, and no table runs an action
abbrev pub moment_of : Between → Frame → List ℕ → Moment
moment_of b f unparsed = record {
  frame = f;
  store = b.store;
  unparsed = unparsed;
  emitted = [];
  work = b.work;
  stopped = None;
  hit = None;
}

-- an item as its pass begins
abbrev pub item_moment : Setting → Between → Item Value → Moment
item_moment c b came =
    moment_of b (new_frame c.syntax came.port (length came.octets % 2 ^ 32) came.instance came.kept) came.octets

-- an answer, with what the pass that gives it leaves
abbrev pub answered : {A : Type 0} → A → Moment → A × Between
answered answer m = (answer, record { store = m.store; work = m.work; events = m.frame.events })

-- ingress

abbrev pub is_no_error : ParserError → Bool
is_no_error NoError = true
is_no_error PacketTooShort = false
is_no_error StackOutOfBounds = false
is_no_error NoMatch = false

-- verification, which is left out after an error, and ingress, which runs in any case
abbrev pub verified_and_run : Setting → Parsed → Moment
verified_and_run c p = control16 c Ingress (if is_no_error p.error then control16 c Verify p.moment else p.moment)

-- Egress begins with nothing requested, and its own events.
abbrev pub handed_on : ℕ → Moment → Held
handed_on port m = record { frame = without_requests_and_events m.frame; unparsed = m.unparsed; port = port }

-- a clone that was asked for: its session, and what its list preserves
abbrev pub asked_clone : Syntax16 → Frame → Request → ℕ × Value
asked_clone syntax f request = (request.0, preserved syntax f request)

-- the port that the program sends the packet to, or the one that drops it
abbrev pub egress_spec : Frame → ℕ
egress_spec f = standard_number f (codes "egress_spec")

-- where resubmit was asked for the pass ends; else it ends where the packet is dropped; else the packet goes on to egress
abbrev pub next_after : Setting → ℕ → Moment → Option Request → IngressNext Value Held
next_after c port m (Some request) = after_ingress.Resubmit (preserved c.syntax m.frame request)
next_after c port m None =
    if egress_spec m.frame == drop_port then after_ingress.Drop
    else after_ingress.Go (egress_spec m.frame) (handed_on port m)

-- what ingress ends with: the clone, and what the packet does next
abbrev pub ingress_end : Setting → ℕ → Moment → IngressEnd Value Held × Between
ingress_end c port m =
    let answer : IngressEnd Value Held = record {
      clone = option_map (asked_clone c.syntax m.frame) m.frame.clone_i2e;
      next = next_after c port m m.frame.resubmit;
    } in
    answered answer m

-- parsing, verification and ingress
unfoldable pub ingress16 : Setting → Between → Item Value → IngressEnd Value Held × Between
ingress16 c b came = ingress_end c came.port (verified_and_run c (parse16 c (item_moment c b came)))

-- parsing alone, of a clone made at the end of ingress
unfoldable pub reparse16 : Setting → Between → Item Value → Held × Between
reparse16 c b came = let p = parse16 c (item_moment c b came) in answered (handed_on came.port p.moment) p.moment

-- egress

-- as egress begins: on this port and of this kind, with `egress_spec` 0, and nothing requested and no table applied, as what is
-- held between two blocks has it already; the rest is as it was left
abbrev pub egress_frame : Held → ℕ → ℕ → Frame
egress_frame held port kind =
    with_standard (codes "egress_spec") (a_number 9 0)
    (with_standard (codes "egress_port") (a_number 9 port)
    (with_standard (codes "instance_type") (a_number 32 kind) (without_requests_and_events held.frame)))

-- A clone made behind egress has the headers, the octets that weren't parsed and the packet's length as egress left them,
-- and its port of arrival. Its metadata is what is preserved, and the rest of its standard metadata is 0 until its egress
-- begins. Its stacks keep their places.
abbrev pub cloned : Syntax16 → ℕ → Moment → Request → Held
cloned syntax port m request = record {
  frame =
      frame_of m.frame.headers (preserved syntax m.frame request)
      (fresh_standard syntax port (standard_number m.frame (codes "packet_length")) 0);
  unparsed = m.unparsed;
  port = port;
}

-- a clone that egress asked for: its session, and what its pass begins with
abbrev pub asked_egress_clone : Syntax16 → ℕ → Moment → Request → ℕ × Held
asked_egress_clone syntax port m request = (request.0, cloned syntax port m request)

-- checksums are computed and the headers emitted
abbrev pub put_together : Setting → Moment → Moment
put_together c m = control16 c Deparse (control16 c Compute m)

-- what was emitted, and then the octets that weren't parsed
abbrev pub octets_left : Moment → List ℕ
octets_left m = m.emitted ++ m.unparsed

-- The packet takes another pass if recirculate was asked for, else it is sent. What is preserved is taken at the end of
-- egress.
abbrev pub leaves : Setting → Frame → List ℕ → Option Request → EgressNext Value
leaves c f octets (Some request) = after_egress.Recirculate octets (preserved c.syntax f request)
leaves c f octets None = after_egress.Send octets

-- after egress the clone, then a dropped packet ends the pass, and only one that leaves is put together
abbrev pub egress_end : Setting → ℕ → Moment → EgressEnd Value Held × Between
egress_end c arrived m =
    if egress_spec m.frame == drop_port then with_clone after_egress.Drop m
    else
    let out = put_together c m in with_clone (leaves c m.frame (octets_left out) m.frame.recirculate) out where
      with_clone : EgressNext Value → Moment → EgressEnd Value Held × Between
      with_clone next left =
          answered (record { clone = option_map (asked_egress_clone c.syntax arrived m) m.frame.clone_e2e; end = next }) left

-- egress, the clone, and then the computation of checksums and the deparser
unfoldable pub egress16 : Setting → Between → Held → ℕ → ℕ → EgressEnd Value Held × Between
egress16 c b held port kind =
    egress_end c held.port (control16 c Egress (moment_of b (egress_frame held port kind) held.unparsed))
