-- Forms of P4_16 that do what forms of P4_14 do (this project's own).
use Rattle.std.specs.Prelude.{◌≡◌, ℕ, ◌%◌, ◌^◌, nat_lt, if◌then◌else◌, List, [], ◌∷◌, ◌++◌, map, codes, Option, Some, None}
use Rattle.p414_syntax.specs.declared.lexeme.Literal.{Literal}
use Rattle.p414_syntax.specs.declared.parsers.Masked.{Masked}
use Rattle.p414_syntax.specs.declared.parsers.CaseValues.{CaseValues}
use Rattle.p414_syntax.specs.declared.parsers.CaseValues.TheVariants as case_values
use Rattle.p414_syntax.specs.declared.parsers.CaseTarget.{CaseTarget}
use Rattle.p414_syntax.specs.declared.parsers.CaseTarget.TheVariants as case_target
use Rattle.p414_syntax.specs.declared.parsers.Case.{Case}
use Rattle.p414_syntax.specs.declared.syntax.Decl.{Decl}
use Rattle.p414_syntax.specs.ParserGraph.{instance_number}
use Rattle.p414_sem.specs.Packing.{widths_of}
use Rattle.p416_syntax.specs.declared.lexeme.Literal16.{Literal16}
use Rattle.p416_syntax.specs.declared.parsers.Target.{Target}
use Rattle.p416_syntax.specs.declared.parsers.Target.TheVariants as target
use Rattle.p416_syntax.specs.declared.parsers.Simple.{Simple}
use Rattle.p416_syntax.specs.declared.parsers.Simple.TheVariants as simple
use Rattle.p416_syntax.specs.declared.parsers.Keyset.TheVariants as keyset
use Rattle.p416_syntax.specs.declared.parsers.SelectCase.{SelectCase}
use Rattle.p416_syntax.specs.Tree.{Exp16, literal}
use Rattle.p416_syntax.specs.Names.{Name}
use Rattle.p416_syntax.specs.Kinds.{stack}
use Rattle.v1_core.specs.Frames.{Moment, going_on, Reference}
use Rattle.v1_core.specs.Expressions.{referred, member_reference}
use Rattle.v1_core.specs.Externs.Packets.{extract}
use Rattle.agreement_of_meanings.specs.Shown.{Shown, shown_at, fields_of, width_of}

-- the instance with a name has this number, and fields of the widths that it is shown with
pub record IsNamed (ds : List Decl) (xs : List Shown) (name : Name) (k : ℕ) : Type 0 where
  pub number : instance_number ds name ≡ k
  pub widths : widths_of ds name ≡ map width_of (fields_of (shown_at xs k))

-- what `p.extract(S.next)` leaves, where a reference means the stack
abbrev pub extracts_next : Reference → Moment → Moment
extracts_next r m =
    let x = member_reference (stack [] 0) (codes "next") (referred r m) in going_on (extract x.reference (Some r)) x.moment

-- the cases of a select on one key of so many bits: a value that doesn't fit them is left out, and a mask is cut to them

abbrev pub number16 : ℕ → Exp16
number16 n = let l : Literal16 = record { width = None; value = n } in literal l

abbrev pub simple_of : ℕ → ℕ → Option Literal → Simple
simple_of width n None = simple.Value (number16 n)
simple_of width n (Some mask) = simple.Mask (number16 n) (number16 (mask.value % 2 ^ width))

abbrev pub case_to : Target → Simple → SelectCase
case_to t part = record { keyset = keyset.One part; target = t }

abbrev pub value_cases : ℕ → Target → List Masked → List SelectCase
value_cases width t [] = []
value_cases width t (m ∷ values) =
    if nat_lt m.value.value (2 ^ width) then case_to t (simple_of width m.value.value m.mask) ∷ value_cases width t values
    else value_cases width t values

abbrev pub cases_of : ℕ → Target → CaseValues → List SelectCase
cases_of width t case_values.Default = case_to t simple.Default ∷ []
cases_of width t (case_values.Values values) = value_cases width t values

-- `parse_error` is left out of P4_14, so that no case leads there
abbrev pub target16 : (Name → Target) → CaseTarget → Target
target16 next (case_target.State name) = next name
target16 next (case_target.ParseError name) = target.Reject

abbrev pub select_cases : ℕ → (Name → Target) → List Case → List SelectCase
select_cases width next [] = []
select_cases width next (c ∷ cases) = cases_of width (target16 next c.target) c.values ++ select_cases width next cases

abbrev pub IsState : CaseTarget → Type 0
IsState (case_target.State name) = Unit {0}
IsState (case_target.ParseError name) = ⊥

abbrev pub LeadToStates : List Case → Type 0
LeadToStates [] = Unit {0}
LeadToStates (c ∷ cases) = IsState c.target × LeadToStates cases
