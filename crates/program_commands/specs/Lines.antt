-- What the commands print of a program (this project's own).
use Rattle.std.specs.Prelude.{◌≡◌, ℕ, List, ◌++◌, flat_map, codes, slice_get, unwrap_or}
use Rattle.p414_syntax.specs.declared.syntax.Decl.{Decl}
use Rattle.p414_syntax.specs.declared.syntax.Syntax14.{Syntax14}
use Rattle.p414_syntax.specs.declared.syntax.Sort.TheVariants as sort
use Rattle.p414_syntax.specs.Names.{Name, names_in}
use Rattle.p414_syntax.specs.ParserGraph.{Order}
use Rattle.p414_syntax.specs.Primitives.{standard_metadata}

-- the line of a program that is taken
abbrev pub accepted_line : List ℕ
accepted_line = codes "accepted\n"

-- the name of the instance with a number; that of `standard_metadata`, which isn't declared, is behind the last
abbrev pub instance_name : List Name → ℕ → Name
instance_name names number = unwrap_or (slice_get names number) standard_metadata

-- a line with the name of an instance
abbrev pub instance_line : List Name → ℕ → List ℕ
instance_line names number = instance_name names number ++ codes "\n"

-- the names of these instances of a program, one a line, and nothing else
abbrev pub instance_lines : List Decl → List ℕ → List ℕ
instance_lines ds order = flat_map (instance_line (names_in sort.Instance ds)) order

-- what `check` prints of a program
abbrev pub PrintsAccepted : Syntax14 → List ℕ → Type 0
PrintsAccepted s line = line ≡ accepted_line

-- what `order` prints of a program: the names of its headers, in the order in which they leave
pub record PrintsOrder (s : Syntax14) (lines : List ℕ) : Type 0 where
  pub order : List ℕ
  pub is_order : Order s.decls order
  pub lines_are : lines ≡ instance_lines s.decls order
