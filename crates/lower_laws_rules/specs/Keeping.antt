-- That what is judged breaks no rule, all rules together (this project's own, as the rules T1 to T12 are; P4_16 1.2,
-- "Expressions", "Statements", "Name resolution").
use Rattle.std.specs.Prelude.{codes, ◌≡◌, ℕ, ◌≤◌, Bool, true, false, not, ◌&&◌, List, [], ◌∷◌, flat_map, None, nat_lt}
use Rattle.std.specs.Str.{bytes_eq}
use Rattle.std.specs.List.{list_any}
use Rattle.p416_syntax.specs.Tree.{Exp16, member, no_arguments, Stmt16}
use Rattle.p416_syntax.specs.Names.{Name}
use Rattle.p416_syntax.specs.Kinds.{Kind, is_same_kind}
use Rattle.p416_syntax.specs.BuiltIn.{standard}
use Rattle.p416_syntax.specs.Scopes.{Scope}
use Rattle.p416_syntax.specs.Calls.{Place, literal_of, any_literal, callee}
use Rattle.p416_syntax.specs.Expressions.{kind_of, can_write}
use Rattle.p416_syntax.specs.Uses.{Use, an_expression, a_body, one, many, uses_at}
use Rattle.p416_syntax.specs.Statements.{behind, declared_in, statement_uses, nesting}
use Rattle.p416_syntax.specs.Unknown.{is_misnamed}
use Rattle.p416_syntax.specs.Sizes.{leaves_size}
use Rattle.p416_syntax.specs.Types.{is_mistyped, takes}
use Rattle.p416_syntax.specs.Literals.{overflows}
use Rattle.p416_syntax.specs.Writes.{writes_constant, is_written_place}
use Rattle.p416_syntax.specs.Arguments.{is_miscounted}
use Rattle.p416_syntax.specs.Applications.{applies_wrongly, called_action}
use Rattle.p416_syntax.specs.Tables.{is_bad_in_table}
use Rattle.p416_syntax.specs.Externs.{is_outside_block}
use Rattle.p416_syntax.specs.Totals.{depth, held_kinds}

-- what is judged breaks none of the rules that ask each use by itself, and calls no action
pub record Fine (u : Use) : Type 0 where
  pub t1 : is_misnamed u ≡ false
  pub t2 : leaves_size u ≡ false
  pub t3 : is_mistyped u ≡ false
  pub t4 : overflows u ≡ false
  pub t5 : writes_constant u ≡ false
  pub t6 : is_miscounted u ≡ false
  pub t8 : applies_wrongly u ≡ false
  pub t9 : is_bad_in_table u ≡ false
  pub t10 : is_outside_block u ≡ false
  pub calls : called_action u ≡ None

-- each of these uses breaks no such rule
abbrev pub AllFine : List Use → Type 0
AllFine [] = Unit {0}
AllFine (u ∷ us) = Fine u × AllFine us

-- the same as a record, which proofs hand on whole
pub record Fines (us : List Use) : Type 0 where
  pub each : AllFine us

-- what is judged nests deeper than is ever written; T12 allows 512
abbrev pub is_deep : Use → Bool
is_deep (an_expression s p e) = nat_lt 400 (depth e)
is_deep (a_body d) = nat_lt 400 d
is_deep _ = false

-- an expression names a member `mcast_grp` of standard metadata (`v1model.p4`, `standard_metadata_t`)
abbrev pub names_group : Use → Bool
names_group (an_expression s p (member e word)) = is_same_kind standard (kind_of s e) && bytes_eq word (codes "mcast_grp")
names_group u = false

-- so with what T12 asks: nothing nests too deep, and the variables and parameters that its sums count are of these kinds
pub record Keeps (us : List Use) (held : List Kind) : Type 0 where
  pub fine : AllFine us
  pub shallow : list_any is_deep us ≡ false
  pub holds : flat_map held_kinds us ≡ held

-- A place of values: neither what is called nor one of literals.
abbrev pub is_open : Place → Bool
is_open callee = false
is_open (literal_of k) = false
is_open any_literal = false
is_open p = true

-- such a place takes this kind, and what can be written if it is written
pub record Asks (p : Place) (k : Kind) (can : Bool) : Type 0 where
  pub opens : is_open p ≡ true
  pub takes_it : takes p no_arguments k ≡ true
  pub writes : is_written_place p && not can ≡ false

-- an expression of a kind, which can be written or not, so deep at most, wherever it stands
pub record Sound (s : Scope) (e : Exp16) (k : Kind) (can : Bool) (deep : ℕ) : Type 0 where
  pub kind : kind_of s e ≡ k
  pub writes : can ≡ true → can_write s e ≡ true
  pub depths : depth e ≤ deep
  pub keeps : (p : Place) → Asks p k can → Fines (uses_at s (one p) e)

-- an expression breaks no rule at its place, and is so deep at most
pub record Sits (s : Scope) (p : Place) (e : Exp16) (deep : ℕ) : Type 0 where
  pub depths : depth e ≤ deep
  pub keeps : Fines (uses_at s (one p) e)

-- the arguments of a call, or the items of a list, at their places
pub record Given (s : Scope) (wanted : List Place) (otherwise : Place) (given : Exp16) (deep : ℕ) : Type 0 where
  pub depths : depth given ≤ deep
  pub keeps : Fines (uses_at s (many wanted otherwise) given)

-- Statements: behind them the scope is this one, they declare these names, and blocks nest so deep at most.
pub record Part (s t : Scope) (names : List Name) (deep : ℕ) (x : Stmt16) : Type 0 where
  pub goes : behind x s ≡ t
  pub declares : declared_in x ≡ names
  pub nests : nesting x ≤ deep
  pub keeps : Keeps (statement_uses s x) []
