-- What ready tests tell of expressions in which no place of a stack tells an element, and nothing is looked ahead at: so in
-- controls, where no error comes (P4_16 1.2, "Expressions", "Operations on header stacks", "Packet lookahead").
use Rattle.std.specs.Prelude.{◌≡◌, ◌⊎◌, ◌<◌, ◌^◌, Bool, true, false, unwrap_or, IfSome, None, codes}
use Rattle.std.specs.Str.{bytes_eq}
use Rattle.p416_syntax.specs.Tree.{Exp16, member, index, slice, call, lookahead, cast, unary, binary, choice, argument, listed}
use Rattle.p416_syntax.specs.Names.{Name}
use Rattle.p416_syntax.specs.Kinds.{Kind, bits, unsized, stack, applied}
use Rattle.p416_syntax.specs.Scopes.{Scope}
use Rattle.p416_syntax.specs.Calls.{Place}
use Rattle.p416_syntax.specs.Expressions.{kind_of}
use Rattle.p416_syntax.specs.Literals.{width_of_place}
use Rattle.v1_core.specs.Values.{Value, a_number}
use Rattle.v1_core.specs.Frames as sem
use Rattle.v1_core.specs.Surroundings as meaning
use Rattle.v1_core.specs.Numbered.{InScope}
use Rattle.v1_core.specs.Expressions as sem_expressions
use Rattle.v1_core.specs.Expressions.{value_of}
use Rattle.v1_core.specs.Cells.{Cells}
use Rattle.v1_core.specs.Ready.{given}
use Rattle.v1_ready_forms.specs.Named.{seats_in}
use Rattle.v1_ready_laws.specs.Kinds.{HasWidth}
use Rattle.v1_ready_laws.specs.Rules.{Keeps}
use Rattle.v1_ready_blocks.specs.Moments.{Moment}
use Rattle.v1_ready_blocks.specs.Tests.{Valued, World, Test, test_value}
use Rattle.v1_ready_statements.specs.Around.{Around, table_found}
use Rattle.v1_ready_statements.specs.Tested.{ready_test}
use Rattle.v1_value_laws.specs.Classes.{IsOfClass}
use Rattle.v1_statement_laws.specs.Behind.{Shown}

-- no stack tells which element a member is, and of an application its member tells something
abbrev pub IsTold : Kind → Name → Type 0
IsTold (stack type size) word = ⊥
IsTold applied word = (bytes_eq word (codes "hit") ≡ true) ⊎ (bytes_eq word (codes "miss") ≡ true)
IsTold k word = Unit {0}

-- in an expression, or in the items of a list, neither `next` nor `last` nor `lookahead` stands
abbrev pub ToldIn : Scope → Bool → Exp16 → Type 0
ToldIn s false (member e word) = IsTold (kind_of s e) word × ToldIn s false e
ToldIn s false (index e at) = ToldIn s false e
ToldIn s false (slice e high low) = ToldIn s false e
ToldIn s false (call e handed) = ToldIn s false e
ToldIn s false (lookahead e to handed) = ⊥
ToldIn s false (cast to e) = ToldIn s false e
ToldIn s false (unary operator e) = ToldIn s false e
ToldIn s false (binary operator a b) = ToldIn s false a × ToldIn s false b
ToldIn s false (choice c a b) = ToldIn s false c × ToldIn s false a × ToldIn s false b
ToldIn s false (listed es) = ToldIn s true es
ToldIn s true (argument before last) = ToldIn s true before × ToldIn s false last
ToldIn s lists e = Unit {0}

abbrev pub ToldNone : Scope → Exp16 → Type 0
ToldNone s e = ToldIn s false e

-- values

-- a number is below 2 ^ its width
abbrev pub IsBelow : Value → Type 0
IsBelow (a_number width number) = number < 2 ^ width
IsBelow v = Unit {0}

-- a number of a kind at a place has its width
abbrev pub IsOfWidth : Place → Kind → Value → Type 0
IsOfWidth p (bits width) v = HasWidth width v
IsOfWidth p unsized v = HasWidth (unwrap_or (width_of_place p) 0) v
IsOfWidth p k v = Unit {0}

-- what an expression of a kind gives at a place
pub record IsValueOf (p : Place) (k : Kind) (v : Value) : Type 0 where
  pub class : IsOfClass k v
  pub width : IsOfWidth p k v
  pub below : IsBelow v

-- both gave one value, of which this holds, and left moments that are one and that nothing stopped
pub record ValueTold (P : Cells → Type 0) (b : Around) (who : InScope) (Q : Value → Type 0) (x : sem_expressions.Valued) (y : Valued) : Type 0 where
  pub value : y.value ≡ given x.value
  pub runs : x.moment.stopped ≡ None
  pub shown : Shown P b.syntax who x.moment y.moment
  pub holds : Q x.value

-- so a test gives the value of an expression at its place
abbrev pub Tells : (Cells → Type 0) → Around → meaning.World → World → Scope → InScope → Place → Exp16 → (Value → Type 0) → Test → Type 0
Tells P b w z s who p e Q t =
    (m : sem.Moment) (k : Moment) → Shown P b.syntax who m k → m.stopped ≡ None →
    ValueTold P b who Q (value_of w s p e m) (test_value z.apply t k)

-- and so do those of all expressions that keep the rules on types and sizes, and in which no stack tells anything
abbrev pub TestsTell : (Cells → Type 0) → Around → meaning.World → World → Scope → InScope → Type 0
TestsTell P b w z s who =
    (p q : Place) (e : Exp16) → Keeps s q e → ToldNone s e →
    IfSome (ready_test s (seats_in b.syntax w.around.roots who) (table_found b) p e)
    (Tells P b w z s who p e (IsValueOf p (kind_of s e)))
