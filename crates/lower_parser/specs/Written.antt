-- The names that the parser of a program is written with, and what the program has to be (this project's own).
use Rattle.std.specs.Prelude.{◌≡◌, List, [], map}
use Rattle.p414_syntax.specs.declared.syntax.Decl.{Decl}
use Rattle.p414_syntax.specs.declared.syntax.Sort.TheVariants as sort
use Rattle.p414_syntax.specs.Names.{Name}
use Rattle.p414_syntax.specs.ParserGraph.{states, state_name}
use Rattle.p414_sem.specs.Expanded.{Expanded}
use Rattle.p416_syntax.specs.declared.parsers.Parser16.{Parser16}
use Rattle.v1_core.specs.Frames.{of_headers, of_metadata, of_standard}
use Rattle.lower_laws_names.specs.Instances.{shown_instances}
use Rattle.lower_laws_names.specs.NewNames.{new_name}
use Rattle.lower_laws_base.specs.Context.{Words}
use Rattle.lower_laws_parser.specs.Words.{ParserWords}
use Rattle.lower_laws_program.specs.Program.{root_name}
use Rattle.lower_laws_declared.specs.Layout.{layout_shaped}
use Rattle.lower_laws_declared.specs.Parser.{names_of_parser, parser_written}
use Rattle.lower_laws_translated.specs.Given.{IsGiven}

-- the names of a program's parser
abbrev pub parser_names : List Decl → ParserWords
parser_names ds = names_of_parser (layout_shaped ds []) ds

-- A table names the instances, and the parameters of the parser, as these declarations do. Nothing else stands in what is written.
pub record NamesAre (ds : List Decl) (w : Words) : Type 0 where
  pub instances : shown_instances ds ≡ w.names.instances
  pub headers : root_name of_headers ≡ w.root of_headers
  pub metadata : root_name of_metadata ≡ w.root of_metadata
  pub standard : root_name of_standard ≡ w.root of_standard

-- the names of a program's states, and their new names
pub record AreNames (ds : List Decl) (names called : List Name) : Type 0 where
  pub old : names ≡ map state_name (states ds)
  pub new : called ≡ map (new_name ds sort.Parse) (map state_name (states ds))

-- declarations that were read from a text, that break no rule, and that come to something
abbrev pub IsAccepted : List Decl → Type 0
IsAccepted ds = (x : Expanded) × IsGiven ds x

-- the parser of a program as the laws have it
abbrev pub lowered_parser : List Decl → Parser16
lowered_parser ds = parser_written (layout_shaped ds []) ds
