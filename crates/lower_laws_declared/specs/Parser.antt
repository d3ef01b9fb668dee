-- The parser that is written: its states under their new names, behind a state of initial values where there are any
-- (this project's own; P4_14 1.0.5, "Parser Specification", "Header and Metadata Instances"; P4_16 1.2, "Packet
-- parsing", "Parser states").
use Rattle.std.specs.Prelude.{Bool, true, false, if◌then◌else◌, List, [], ◌∷◌, ◌++◌, map, replicate, codes}
use Rattle.std.specs.List.{list_any}
use Rattle.p414_syntax.specs.declared.syntax.Decl.{Decl}
use Rattle.p414_syntax.specs.declared.syntax.Sort.TheVariants as sort
use Rattle.p414_syntax.specs.Names.{Name, is_declared}
use Rattle.p414_syntax.specs.ParserGraph.{states as states14}
use Rattle.p416_syntax.specs.declared.parsers.State.{State as State16}
use Rattle.p416_syntax.specs.declared.parsers.Parser16.{Parser16}
use Rattle.lower_laws_names.specs.Made.{line}
use Rattle.lower_laws_names.specs.NewNames.{gives_initials, new_name}
use Rattle.lower_laws_base.specs.Context.{StateLayout, Words}
use Rattle.lower_laws_parser.specs.Words.{ParserWords, state_of}
use Rattle.lower_laws_parser.specs.Starts.{start_state}
use Rattle.lower_laws_program.specs.Program.{root_name, packet_called, parser_parameters}
use Rattle.lower_laws_program.specs.Fits.{nothing_copied, nothing_spare}

-- The new name of a state. The laws ask a name for whatever name, each another one: a name that is declared nowhere is
-- never written, and gets one that is longer than each new name.
abbrev pub by_declared : Bool → List Decl → Name → Name
by_declared true ds called = new_name ds sort.Parse called
by_declared false ds called = replicate 65 line ++ called

-- the new name of a state, whether it is declared or not
abbrev pub state_called : List Decl → Name → Name
state_called ds called = by_declared (is_declared sort.Parse ds called) ds called

-- the words of a parser's expressions, which know no copies, objects and variables
abbrev pub parser_base : StateLayout → Words
parser_base g = record {
  names = g.names;
  size_of = g.size_of;
  root = root_name;
  copy = nothing_copied;
  objects = [];
  spare = nothing_spare;
  parameters = [];
}

-- the words of the parser, with the packet and the states
abbrev pub names_of_parser : StateLayout → List Decl → ParserWords
names_of_parser g ds = record { words = parser_base g; packet = packet_called; state = state_called ds }

-- a state of initial values stands in front where metadata has any
abbrev pub begun_with : Bool → List Decl → ParserWords → List State16
begun_with true ds p = start_state ds p ∷ map (state_of ds p) (states14 ds)
begun_with false ds p = map (state_of ds p) (states14 ds)

-- what is written for the states of the program, as the parser has them
abbrev pub states_written : StateLayout → List Decl → List State16
states_written g ds = begun_with (list_any gives_initials ds) ds (names_of_parser g ds)

-- what is written for the parser of the program
abbrev pub parser_written : StateLayout → List Decl → Parser16
parser_written g ds =
    record { name = codes "P"; parameters = parser_parameters; vars = []; states = states_written g ds }
