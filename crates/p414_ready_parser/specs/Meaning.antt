-- What it is for rows to be the parser of a program.
use Rattle.std.specs.Prelude.{◌≡◌, ℕ, List}
use Rattle.p414_syntax.specs.declared.syntax.Decl.{Decl}
use Rattle.p414_syntax.specs.declared.syntax.Sort.TheVariants as sort
use Rattle.p414_syntax.specs.Names.{Name, declared_in}
use Rattle.p414_syntax.specs.ParserGraph.{instance_number}
use Rattle.p414_sem.specs.Packing.{widths_of}
use Rattle.p414_sem.specs.Parsing.{begun_instances}
use Rattle.p414_sem.specs.Meanings.{Parse14}
use Rattle.p414_sem.specs.State.{State}
use Rattle.p414_ready_parser.specs.Running.{ready_parse}
use Rattle.p414_ready_parser.specs.declared.parser.ReadyParser.{ReadyParser}

-- these are the widths of the fields of each instance, by its number
abbrev pub AreWidthsOf : List Decl → (ℕ → List ℕ) → Type 0
AreWidthsOf ds widths = (name : Name) → widths (instance_number ds name) ≡ widths_of ds name

-- the state as parsing begins: all headers are invalid and all stacks at place 0
abbrev pub headers_off : List Decl → State → State
headers_off ds s = record s { instances = begun_instances (declared_in sort.Instance ds) s.instances }

-- the rows parse each state as the program does
abbrev pub Means : List Decl → ReadyParser → Type 0
Means ds parser =
    (widths : ℕ → List ℕ) → AreWidthsOf ds widths → (s : State)
    → ready_parse widths parser (headers_off ds s) ≡ Parse14 ds s
