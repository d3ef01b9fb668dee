-- Names that are those of no block, by the names at the top.
use Rattle.std.specs.Prelude.{Bool, not, List}
use Rattle.p416_syntax.specs.declared.program.Decl16.{Decl16}
use Rattle.p416_syntax.specs.Names.{Name}
use Rattle.p416_syntax.specs.Scopes.{sort_in}
use Rattle.p416_syntax.specs.Declarations.{top_names}
use Rattle.p416_syntax.specs.Uses.{some_block}
use Rattle.p416_syntax.specs.Unknown.{is_wanted}

abbrev pub is_other : List Decl16 → Name → Bool
is_other ds text = not (is_wanted some_block (sort_in (top_names ds) text))
