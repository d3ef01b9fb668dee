-- That outside parsers the rules let no stack tell anything (T1, T3, T10; P4_16 1.2, "Operations on header stacks", "Packet
-- lookahead").
use Rattle.std.specs.Prelude.{◌≡◌, false, List, [], ◌∷◌, is_some, true}
use Rattle.std.specs.List.{list_any}
use Rattle.p416_syntax.specs.Tree.{Exp16, call}
use Rattle.p416_syntax.specs.Scopes.{Scope}
use Rattle.p416_syntax.specs.Calls.{Place, target, callee, statement, unasked, parser_position}
use Rattle.p416_syntax.specs.Expressions.{signature_of}
use Rattle.p416_syntax.specs.Uses.{Use, uses}
use Rattle.p416_syntax.specs.Unknown.{is_misnamed}
use Rattle.p416_syntax.specs.Types.{is_mistyped}
use Rattle.p416_syntax.specs.Arguments.{is_miscounted}
use Rattle.p416_syntax.specs.Externs.{is_outside_block, is_parser_part, are_allowed}
use Rattle.v1_call_laws.specs.Telling.{ToldNone}
use Rattle.v1_call_laws.specs.Whole.{CallTold}

-- places that ask for some value, or for what has members
abbrev pub Asking : Place → Type 0
Asking target = ⊥
Asking callee = ⊥
Asking statement = ⊥
Asking unasked = ⊥
Asking p = Unit {0}

-- neither T1, T3 nor T10 is broken by what is judged
pub record Ruled (judged : List Use) : Type 0 where
  pub known : list_any is_misnamed judged ≡ false
  pub typed : list_any is_mistyped judged ≡ false
  pub placed : list_any is_outside_block judged ≡ false

-- a scope outside the parser
pub record OutsideParsers (s : Scope) : Type 0 where
  pub part : is_parser_part s.part ≡ false
  pub positions : are_allowed (parser_position ∷ []) s.positions ≡ false

abbrev pub RulesTellNone : Type 0
RulesTellNone = (s : Scope) (p : Place) (e : Exp16) → OutsideParsers s → Asking p → Ruled (uses s p e) → ToldNone s e

-- what is called is known
abbrev pub Signed : Scope → Exp16 → Type 0
Signed s (call e handed) = is_some (signature_of s e) ≡ true
Signed s e = Unit {0}

abbrev pub CallsTellNone : Type 0
CallsTellNone =
    (s : Scope) (e : Exp16) → OutsideParsers s → Ruled (uses s statement e) → list_any is_miscounted (uses s statement e) ≡ false →
    Signed s e → CallTold s e
