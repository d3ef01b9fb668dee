-- What an expression gives (this project's own; P4_16 1.2, "Expressions").
use Rattle.std.specs.Prelude.{ℕ, ◌≡◌}
use Rattle.p416_syntax.specs.Tree.{Exp16}
use Rattle.p416_syntax.specs.Kinds.{Kind, bits}
use Rattle.p416_syntax.specs.Scopes.{Scope}
use Rattle.p416_syntax.specs.Calls.{Place}
use Rattle.p416_syntax.specs.Expressions.{kind_of}
use Rattle.v1_core.specs.Values.{Value, a_number}
use Rattle.v1_core.specs.Frames.{Moment}
use Rattle.v1_core.specs.Surroundings.{World}
use Rattle.v1_core.specs.Expressions.{value_of, valued}

-- an expression of so many bits that gives this number, and changes nothing
pub record Gives (w : World) (s : Scope) (n : Moment) (e : Exp16) (width k : ℕ) : Type 0 where
  pub kind : kind_of s e ≡ bits width
  pub value : (p : Place) → value_of w s p e n ≡ valued (a_number width k) n

-- an expression that gives a value of a kind, and changes nothing
pub record Shows (w : World) (s : Scope) (n : Moment) (e : Exp16) (k : Kind) (v : Value) : Type 0 where
  pub kind : kind_of s e ≡ k
  pub value : (p : Place) → value_of w s p e n ≡ valued v n
