-- What holds of each program that breaks no rule.
use Rattle.std.specs.Prelude.{◌≡◌, ℕ, List}
use Rattle.p414_syntax.specs.declared.syntax.Decl.{Decl}
use Rattle.p414_syntax.specs.Breaks.{BreaksNone, program_rules}
use Rattle.p414_syntax.specs.ParserGraph.{Order}
use Rattle.p414_sem.specs.Expanded.{Expanded, IsExpanded}
use Rattle.p414_laws.specs.Expansion.{expansion}

-- it comes to something
abbrev pub ComesToSomething : Type 0
ComesToSomething =
    (ds : List Decl) (order : List ℕ) → BreaksNone ds program_rules → Order ds order → IsExpanded ds (expansion ds order)

-- what declarations come to is one thing
abbrev pub ComesToOneThing : Type 0
ComesToOneThing = (ds : List Decl) (x y : Expanded) → IsExpanded ds x → IsExpanded ds y → x ≡ y
