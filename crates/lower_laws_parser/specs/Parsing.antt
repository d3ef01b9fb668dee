-- What stands around a parser in P4_16, and how its moments stand to those of P4_14 (this project's own; P4_14 1.0.5,
-- "Parser Specification", "Standard Parser Exceptions"; P4_16 1.2, "Packet parsing", "Parser states").
use Rattle.std.specs.Prelude.{◌≡◌, ℕ, ◌+◌, ◌<◌, ◌≤◌, true, false, List, [], ◌∷◌, length, map, Option, Some, None, is_some, codes}
use Rattle.state_store.specs.State.{Contents}
use Rattle.p414_syntax.specs.declared.parts.Index.{Index}
use Rattle.p414_syntax.specs.declared.parts.Index.TheVariants.{Next, Last}
use Rattle.p414_syntax.specs.declared.parts.Inst.{Inst}
use Rattle.p414_syntax.specs.declared.parsers.PValue.{PValue}
use Rattle.p414_syntax.specs.declared.parsers.PValue.TheVariants as pvalue
use Rattle.p414_syntax.specs.declared.parsers.PStmt.{PStmt}
use Rattle.p414_syntax.specs.declared.parsers.PStmt.TheVariants as pstmt
use Rattle.p414_syntax.specs.declared.parsers.Return.{Return}
use Rattle.p414_syntax.specs.declared.parsers.Return.TheVariants as end_of
use Rattle.p414_syntax.specs.declared.parsers.Parser.{Parser}
use Rattle.p414_syntax.specs.declared.syntax.Decl.{Decl}
use Rattle.p414_syntax.specs.Names.{Name}
use Rattle.p414_syntax.specs.Uses.{last_behind, last_of}
use Rattle.p414_syntax.specs.ParserGraph.{instance_number}
use Rattle.p414_sem.specs.declared.parsed.Parsed.{Parsed}
use Rattle.p414_sem.specs.Slots.{slot_of, element_number, field_number, bits_of_ref}
use Rattle.p414_sem.specs.State.{State, place_of}
use Rattle.p414_sem.specs.Packing.{widths_of}
use Rattle.p414_sem.specs.Parsing.{Latest, Progress, goes_on, stops, Step, to, ended, Parse, state_named, begun, parse_from, most_states, parsed}
use Rattle.p416_syntax.specs.declared.parsers.State.{State as State16}
use Rattle.p416_syntax.specs.Kinds.{packet_in}
use Rattle.p416_syntax.specs.Scopes.{Scope}
use Rattle.v1_core.specs.Frames.{Frame, Moment}
use Rattle.v1_core.specs.Parsing.{Onward, finished, to_target, state_called}
use Rattle.agreement_of_meanings.specs.Shown.{NamedField, as_stack, fields_of, is_metadata, width_of}
use Rattle.agreement_of_meanings.specs.Agrees.{stop_of}
use Rattle.agreement_of_meanings.specs.Lowered.{LeadToStates}
use Rattle.p414_sem.specs.Effects.{Moment as Moment14}
use Rattle.lower_laws_base.specs.Context.{Lowering, words_of, shown_in, Sees, IsSlot, Aside, Stands}
use Rattle.lower_laws_base.specs.Between.{between}
use Rattle.lower_laws_base.specs.Mirror.{width_in}
use Rattle.lower_laws_parser.specs.Words.{ParserWords, next_of, state_of, width_of_key}

-- nothing more was asked for, and no table applied
pub record SameRequests (f g : Frame) : Type 0 where
  pub clone_i2e : g.clone_i2e ≡ f.clone_i2e
  pub clone_e2e : g.clone_e2e ≡ f.clone_e2e
  pub resubmit : g.resubmit ≡ f.resubmit
  pub recirculate : g.recirculate ≡ f.recirculate
  pub events : g.events ≡ f.events

-- what stays as it was since a parser began
pub record Origin : Type 0 where
  pub aside : Aside
  pub store : Contents
  pub frame : Frame

-- a state with a store, as a moment of P4_14
abbrev pub with_store : State → Contents → Moment14
with_store s store = record { state = s; store = store }

-- neither parser ended, and their moments stand beside each other
pub record Going (c : Lowering) (o : Origin) (s : State) (n : Moment) : Type 0 where
  pub stands : Stands c.layout [] [] o.aside (with_store s o.store) n
  pub requests : SameRequests o.frame n.frame

-- both parsers ended, in the same way: but for the error, their moments still stand beside each other
pub record Halted (c : Lowering) (o : Origin) (end : Parsed) (s : State) (n : Moment) : Type 0 where
  pub moment : Moment
  pub going : Going c o s moment
  pub is : n ≡ record moment { stopped = stop_of end }

-- what a program has

-- `next` of a stack, or an element that is there
abbrev pub IsIndex : Lowering → ℕ → Option Index → Type 0
IsIndex c k (Some Next) = (called : Name) × (fields : List NamedField) × (shown_in c k ≡ as_stack called fields)
IsIndex c k (Some Last) = ⊥
IsIndex c k other = element_number other < c.layout.size_of k

-- a header, an element of a stack or `next`, which the block reaches
pub record InstFits (c : Lowering) (ds : List Decl) (i : Inst) : Type 0 where
  pub instance : instance_number ds i.name < length c.layout.names.instances
  pub plain : is_metadata (shown_in c (instance_number ds i.name)) ≡ false
  pub index : IsIndex c (instance_number ds i.name) i.index

-- a field of what was extracted last, which is there
abbrev pub LatestFits : Lowering → List Decl → Option Inst → Name → Type 0
LatestFits c ds None called = ⊥
LatestFits c ds (Some i) called =
    InstFits c ds i × (field_number ds i.name called < length (fields_of (shown_in c (instance_number ds i.name))))

-- a value of a `set_metadata` or a select, whose field is there
abbrev pub ValueFits : Lowering → List Decl → Option Inst → PValue → Type 0
ValueFits c ds last (pvalue.Current offset bits) = Unit {0}
ValueFits c ds last (pvalue.Latest called) = LatestFits c ds last called
ValueFits c ds last (pvalue.Field r) = IsSlot c.layout (slot_of ds r)
ValueFits c ds last (pvalue.Number n) = Unit {0}

-- a statement of a state: what it extracts or sets is there, with the field's width
abbrev pub StmtFits : Lowering → List Decl → Option Inst → PStmt → Type 0
StmtFits c ds last (pstmt.Extract i) = InstFits c ds i
StmtFits c ds last (pstmt.SetMetadata r v) =
    IsSlot c.layout (slot_of ds r) × (bits_of_ref ds r ≡ width_in (words_of c) (slot_of ds r)) × ValueFits c ds last v

-- statements, each with what was extracted last before it
abbrev pub BodyFits : Lowering → List Decl → Option Inst → List PStmt → Type 0
BodyFits c ds last [] = Unit {0}
BodyFits c ds last (q ∷ qs) = StmtFits c ds last q × BodyFits c ds (last_behind last q) qs

-- each value of a select has a field that is there
abbrev pub ValuesFit : Lowering → List Decl → Option Inst → List PValue → Type 0
ValuesFit c ds last [] = Unit {0}
ValuesFit c ds last (v ∷ vs) = ValueFits c ds last v × ValuesFit c ds last vs

-- a select has a value
abbrev pub IsSome : List PValue → Type 0
IsSome [] = ⊥
IsSome (v ∷ vs) = Unit {0}

-- a select has a value, of at most 128 bits joined; `parse_error` ends no state
abbrev pub EndFits : Lowering → List Decl → ParserWords → Option Inst → Return → Type 0
EndFits c ds p last (end_of.Select vs cases) =
    IsSome vs × ValuesFit c ds last vs × (width_of_key ds p last vs ≤ 128) × LeadToStates cases
EndFits c ds p last (end_of.State called) = Unit {0}
EndFits c ds p last (end_of.ParseError called) = ⊥

-- a state of the program, whose statements and whose end fit
pub record StateFits (c : Lowering) (ds : List Decl) (p : ParserWords) (x : Parser) : Type 0 where
  pub body : BodyFits c ds None x.statements
  pub end : EndFits c ds p (last_of None x.statements) x.end

-- what was extracted last, as it is written and as it was

-- the element that an extraction was of: for `next` the one before the stack's place by now
abbrev pub IsLatestElement : Lowering → State → ℕ → Option Index → ℕ → Type 0
IsLatestElement c s k (Some Next) element = (place_of s k ≡ element + 1) × (element < c.layout.size_of k)
IsLatestElement c s k other element = element ≡ element_number other

-- what was extracted last as it is written is what was extracted last as it was
abbrev pub IsLatest : Lowering → List Decl → State → Option Inst → Option Latest → Type 0
IsLatest c ds s None None = Unit {0}
IsLatest c ds s (Some i) (Some l) = (l.instance ≡ i) × IsLatestElement c s (instance_number ds i.name) i.index l.element
IsLatest c ds s _ _ = ⊥

-- parsing ended with an exception (P4_14, "Standard Parser Exceptions")
abbrev pub IsStop : Parsed → Type 0
IsStop end = is_some (stop_of end) ≡ true

-- behind some statements of a state both parsers go on, or both ended
abbrev pub ProgressStands : Lowering → List Decl → Origin → Option Inst → Progress → Moment → Type 0
ProgressStands c ds o last (goes_on latest s) n = Going c o s n × IsLatest c ds s last latest
ProgressStands c ds o last (stops end s) n = IsStop end × Halted c o end s n

-- behind a state both parsers go on to the same state, or both ended
abbrev pub StepStands : Lowering → List Decl → ParserWords → Origin → Step → Onward → Type 0
StepStands c ds p o (to called s) x = (n : Moment) × (x ≡ to_target (next_of ds p called) n) × Going c o s n
StepStands c ds p o (ended end s) x = (n : Moment) × (x ≡ finished n) × Halted c o end s n

-- the words of a parser, with these new names of states
abbrev pub parser_words : Lowering → Name → (Name → Name) → ParserWords
parser_words c packet state = record { words = words_of c; packet = packet; state = state }

-- What ties the states: the only facts on names of instances and states that the proofs rest on.
pub record Parses (c : Lowering) (ds : List Decl) (packet : Name) (s : Scope) : Type 0 where
  pub sees : Sees c s []
  pub whole : c.layout ≡ between c.layout
  pub parameters : c.parameters ≡ []
  pub packet_is : c.packet ≡ Some (record { called = packet; kind = packet_in })
  pub widths : (called : Name) → instance_number ds called < length c.layout.names.instances → widths_of ds called ≡ map width_of (fields_of (shown_in c (instance_number ds called)))

-- a state of the program stands under its new name
abbrev pub HasState : Lowering → List Decl → ParserWords → List State16 → Name → Option Parser → Type 0
HasState c ds p states called None = Unit {0}
HasState c ds p states called (Some x) =
    (state_called states (p.state called) ≡ Some (state_of ds p x)) × StateFits c ds p x

-- each state of the program stands under its new name
abbrev pub HasStates : Lowering → List Decl → ParserWords → List State16 → Type 0
HasStates c ds p states = (called : Name) → HasState c ds p states called (state_named ds called)

-- any greater bound on states gives the same end: a law of P4_14 alone
abbrev pub NeverStopped : List Decl → Type 0
NeverStopped ds = (s : State) (left : ℕ) → most_states ds s ≤ left → parse_from ds left (codes "start") (begun ds s) ≡ parsed ds s

-- both parsers ended beside each other
abbrev pub ParseStands : Lowering → Origin → Parse → Moment → Type 0
ParseStands c o x n = Halted c o x.end x.state n
