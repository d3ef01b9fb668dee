-- How a packet is parsed (P4_16 1.2, "Packet parsing", "Parser states", "Transition statements", "Select expressions";
-- `core.p4`, `error`; that `reject` stops without an error is this project's own). Parsing begins in the state `start` and
-- ends with `accept`, with `reject` or with an error.
use Rattle.std.specs.Prelude.{ℕ, zero, suc, ◌+◌, ◌*◌, Bool, true, false, ◌&&◌, ◌==◌, nat_le, if◌then◌else◌, bit_and, List, [], ◌∷◌, length, map, slice_index_or, Option, Some, None, codes, unwrap_or}
use Rattle.std.specs.Str.{bytes_eq}
use Rattle.p416_syntax.specs.declared.parsers.Target.{Target}
use Rattle.p416_syntax.specs.declared.parsers.Target.TheVariants as target
use Rattle.p416_syntax.specs.declared.parsers.Simple.{Simple}
use Rattle.p416_syntax.specs.declared.parsers.Simple.TheVariants as simple
use Rattle.p416_syntax.specs.declared.parsers.Keyset.{Keyset}
use Rattle.p416_syntax.specs.declared.parsers.Keyset.TheVariants as keyset
use Rattle.p416_syntax.specs.declared.parsers.SelectCase.{SelectCase}
use Rattle.p416_syntax.specs.declared.parsers.Transition.{Transition}
use Rattle.p416_syntax.specs.declared.parsers.Transition.TheVariants as transition
use Rattle.p416_syntax.specs.declared.parsers.State.{State}
use Rattle.p416_syntax.specs.declared.parsers.Parser16.{Parser16}
use Rattle.p416_syntax.specs.declared.program.Decl16.{Decl16}
use Rattle.p416_syntax.specs.declared.program.Decl16.TheVariants as decl
use Rattle.p416_syntax.specs.declared.program.Syntax16.{Syntax16}
use Rattle.p416_syntax.specs.Tree.{Exp16, literal, truth}
use Rattle.p416_syntax.specs.Names.{Name}
use Rattle.p416_syntax.specs.Kinds.{Kind}
use Rattle.p416_syntax.specs.Scopes.{Scope}
use Rattle.p416_syntax.specs.Calls.{literal_of, select_key, parser_position}
use Rattle.p416_syntax.specs.Expressions.{kind_of}
use Rattle.p416_syntax.specs.Statements.{behind}
use Rattle.p416_syntax.specs.Declarations.{parameter_name, parser_scope, layouts_of}
use Rattle.p416_syntax.specs.Main.{headers_kind}
use Rattle.p416_syntax.specs.Breaks.{scope_of}
use Rattle.v1_core.specs.declared.parser_error.ParserError.{ParserError}
use Rattle.v1_core.specs.declared.parser_error.ParserError.TheVariants.{NoError, PacketTooShort, NoMatch}
use Rattle.v1_core.specs.Values.{Value, a_truth, an_error, no_members, no_value, number_in, zero_value}
use Rattle.v1_core.specs.Numbers.{is_equal}
use Rattle.v1_core.specs.Frames.{Moment, ticked, is_stopped, raised, error_number, Owner, of_headers, of_metadata, of_standard, of_nothing, with_standard, with_inner}
use Rattle.v1_core.specs.Surroundings.{Setting, rooted, Surroundings, World, quiet_world}
use Rattle.v1_core.specs.Expressions.{literal_number, value_of}
use Rattle.v1_core.specs.Statements.{no_label, run}
use Rattle.v1_core.specs.Blocks.{begun, ended}

-- selects

-- a key, and of which kind it is
pub record Key : Type 0 where
  pub kind : Kind
  pub value : Value

-- keys, and what evaluating them leaves
pub record Keys : Type 0 where
  pub keys : List Key
  pub moment : Moment

-- from left to right
abbrev pub keys_from : World → Scope → List Exp16 → Moment → Keys
keys_from w s [] m = record { keys = []; moment = m }
keys_from w s (e ∷ es) m =
    let x = value_of w s select_key e m in
    let rest = keys_from w s es x.moment in
    record { keys = record { kind = kind_of s e; value = x.value } ∷ rest.keys; moment = rest.moment }

-- a literal that a key of a kind is compared with
abbrev pub keyset_value : Kind → Exp16 → Value
keyset_value k (literal n) = literal_number (literal_of k) n
keyset_value k (truth holds) = a_truth holds
keyset_value k _ = no_value

abbrev pub agrees : ℕ → ℕ → ℕ → Bool
agrees n v mask = bit_and n mask == bit_and v mask

abbrev pub is_between : ℕ → ℕ → ℕ → Bool
is_between n low high = nat_le low n && nat_le n high

-- `V &&& M` matches where key and V agree on the bits of M, `L .. H` where the key is between both, and a value where the
-- key is equal
abbrev pub matches_simple : Key → Simple → Bool
matches_simple k simple.Default = true
matches_simple k simple.Any = true
matches_simple k (simple.Mask v mask) =
    agrees (number_in k.value) (number_in (keyset_value k.kind v)) (number_in (keyset_value k.kind mask))
matches_simple k (simple.Range low high) =
    is_between (number_in k.value) (number_in (keyset_value k.kind low)) (number_in (keyset_value k.kind high))
matches_simple k (simple.Value v) = is_equal k.value (keyset_value k.kind v)

-- one for each key
abbrev pub matches_all : List Key → List Simple → Bool
matches_all [] [] = true
matches_all (k ∷ keys) (x ∷ parts) = matches_simple k x && matches_all keys parts
matches_all _ _ = false

-- `default` and `_` by themselves match any number of keys
abbrev pub matches_keyset : List Key → Keyset → Bool
matches_keyset keys (keyset.Tuple parts) = matches_all keys parts
matches_keyset keys (keyset.One simple.Default) = true
matches_keyset keys (keyset.One simple.Any) = true
matches_keyset keys (keyset.One part) = matches_all keys (part ∷ [])

-- where the first case that matches leads
abbrev pub first_match : List Key → List SelectCase → Option Target
first_match keys [] = None
first_match keys (c ∷ cases) = if matches_keyset keys c.keyset then Some c.target else first_match keys cases

-- states

-- behind a state: the next one by its name, or the end
pub data Onward : Type 0 where
  onward : (called : Name) (moment : Moment) → Onward
  finished : (moment : Moment) → Onward

abbrev pub to_target : Target → Moment → Onward
to_target (target.State text) m = onward text m
to_target target.Accept m = finished m
to_target target.Reject m = finished m

-- the transition of the case that was found, or the error
abbrev pub to_found : Option Target → Moment → Onward
to_found (Some t) m = to_target t m
to_found None m = finished (raised NoMatch m)

-- an error in a key ends parsing
abbrev pub selected : List SelectCase → Keys → Onward
selected cases x =
    if is_stopped x.moment then finished x.moment else to_found (first_match x.keys cases) x.moment

abbrev pub leads : World → Scope → Transition → Moment → Onward
leads w s (transition.Go t) m = to_target t m
leads w s (transition.Select es cases) m = selected cases (keys_from w s es m)

-- a transition counts one, before its keys are evaluated; it sees the variables of the state
abbrev pub passed : World → Scope → Transition → Moment → Onward
passed w s t m = if is_stopped m then finished m else leads w s t (ticked m)

abbrev pub in_state : World → State → Moment → Onward
in_state w x m =
    passed w (behind x.body w.around.scope) x.transition
    (run w w.around.scope no_label x.body (with_inner no_members m))

abbrev pub state_called : List State → Name → Option State
state_called [] text = None
state_called (x ∷ states) text = if bytes_eq x.name text then Some x else state_called states text

-- from the state that was called; no accepted program calls one that isn't there
abbrev pub from_state : World → Option State → Moment → Onward
from_state w None m = finished m
from_state w (Some x) m = in_state w x m

abbrev pub followed : (Name → Moment → Moment) → Onward → Moment
followed parse (onward text m) = parse text m
followed parse (finished m) = m

-- Parsing from a state on, in so many states at most. No walk of an accepted program is longer than `most_states`: a cycle
-- of states extracts, and an extraction takes at least one octet or stops, so between two extractions each state stands
-- once at most. Where no more states may run, the packet counts as too short.
abbrev pub parse_from : World → List State → ℕ → Name → Moment → Moment
parse_from w states zero text m = raised PacketTooShort m
parse_from w states (suc left) text m =
    if is_stopped m then m
    else followed (parse_from w states left) (from_state w (state_called states text) m)

abbrev pub most_states : List State → Moment → ℕ
most_states states m = (length m.unparsed + 1) * (length states + 1)

-- the parser of a program

abbrev pub parser_called : List Decl16 → Name → Option Parser16
parser_called [] text = None
parser_called (decl.Parser p ∷ ds) text = if bytes_eq p.name text then Some p else parser_called ds text
parser_called (d ∷ ds) text = parser_called ds text

abbrev pub parser_of : Syntax16 → Option Parser16
parser_of syntax = parser_called syntax.decls (slice_index_or syntax.main parser_position [])

abbrev pub parser_owners : List Owner
parser_owners = of_nothing ∷ of_headers ∷ of_metadata ∷ of_standard ∷ []

abbrev pub around_parser : Setting → Parser16 → Surroundings
around_parser c p = record {
  setting = c;
  scope = parser_scope (scope_of c.syntax (decl.Parser p)) p;
  roots = rooted (map parameter_name p.parameters) parser_owners;
  locals = [];
}

-- the headers are an `out` parameter
abbrev pub without_headers : Setting → Moment → Moment
without_headers c m =
    record m {
      frame = record m.frame { headers = zero_value (layouts_of c.syntax.decls) (headers_kind c.syntax) };
    }

abbrev pub run_states : World → Parser16 → Moment → Moment
run_states w p m = ended (parse_from w p.states (most_states p.states m) (codes "start") (begun w p.vars m))

-- the parser of the program, which begins with all headers invalid
abbrev pub run_parser : Setting → Option Parser16 → Moment → Moment
run_parser c None m = m
run_parser c (Some p) m = run_states (quiet_world (around_parser c p)) p (without_headers c m)

-- the end of parsing
pub record Parsed : Type 0 where
  pub error : ParserError
  pub moment : Moment

-- an error stands in `parser_error`
abbrev pub with_error : Option ParserError → Moment → Moment
with_error None m = m
with_error (Some e) m =
    record m { frame = with_standard (codes "parser_error") (an_error (error_number e)) m.frame; stopped = None }

abbrev pub parse_ended : Moment → Parsed
parse_ended m = record { error = unwrap_or m.stopped NoError; moment = with_error m.stopped m }

-- the parser block; nothing stopped it yet
unfoldable pub parse16 : Setting → Moment → Parsed
parse16 c m = parse_ended (run_parser c (parser_of c.syntax) m)
