-- What the expressions of a parser keep: the rules T1 to T6 and T10, in a scope of the parser of the program.
use Rattle.std.specs.Prelude.{◌≡◌, Bool, true, nat_eq, List, [], ◌∷◌}
use Rattle.std.specs.List.{list_any}
use Rattle.p416_syntax.specs.Tree.{Exp16}
use Rattle.p416_syntax.specs.Scopes.{Scope}
use Rattle.p416_syntax.specs.Calls.{Place, parser_position}
use Rattle.p416_syntax.specs.Uses.{Use}
use Rattle.p416_syntax.specs.Unknown.{is_misnamed}
use Rattle.p416_syntax.specs.Sizes.{leaves_size}
use Rattle.p416_syntax.specs.Types.{is_mistyped}
use Rattle.p416_syntax.specs.Literals.{overflows}
use Rattle.p416_syntax.specs.Writes.{writes_constant}
use Rattle.p416_syntax.specs.Arguments.{is_miscounted}
use Rattle.p416_syntax.specs.Externs.{is_parser_part, is_outside_block}
use Rattle.v1_statement_laws.specs.Meeting.{Judged}

-- T1, T2, T3, T4, T5, T6 and T10
abbrev pub judged_rules : List (Use → Bool)
judged_rules =
    is_misnamed ∷ leaves_size ∷ is_mistyped ∷ overflows ∷ writes_constant ∷ is_miscounted ∷ is_outside_block ∷ []

-- the scope is one of a parser, which stands at the parser's place in `main`
pub record InParser (s : Scope) : Type 0 where
  pub part : is_parser_part s.part ≡ true
  pub stands : list_any (nat_eq parser_position) s.positions ≡ true

-- an expression of the parser at its place, with all within it
pub record KeptInParser (s : Scope) (p : Place) (e : Exp16) : Type 0 where
  pub within : InParser s
  pub judged : Judged judged_rules s p e
