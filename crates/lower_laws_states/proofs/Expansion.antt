-- What is behind expansion: primitives alone, each one of the text, with parameters of the outermost action; no control is
-- called.
use Rattle.std.proofs.Common.{◌≡◌, inl, inr, ℕ, Bool, true, false, cond, Option, Some, None, List, [], ◌∷◌, ◌++◌, length, map, slice_get, refl, sym, ap, ◌∙◌, subst, arith}
use Rattle.std.specs.Prelude.{unwrap_or, option_and_then, is_some, MatchOption}
use Rattle.std.specs.Str.{bytes_eq}
use Rattle.std.proofs.lemmas.List.Quantifiers.{position-Some}
use Rattle.std.proofs.lemmas.Slice.Zip.{AllZip-long}
use Rattle.std.specs.List.{AllByRecursion, AllZip}
use Rattle.p414_syntax.specs.declared.actions.Call.{Call as CallOf}
use Rattle.p414_syntax.specs.declared.actions.Arg.{Arg}
use Rattle.p414_syntax.specs.declared.actions.Arg.TheVariants as arg
use Rattle.p414_syntax.specs.declared.actions.Action.{Action}
use Rattle.p414_syntax.specs.declared.syntax.Decl.{Decl}
use Rattle.p414_syntax.specs.Tree.{Stmt, no_statements}
use Rattle.p414_syntax.specs.Views.{ControlTree}
use Rattle.p414_syntax.specs.Names.{Name, find_name}
use Rattle.p414_syntax.specs.Arguments.{Argument, number_argument, field_argument, parameter_argument, name_argument, Invocation, parameter_or_name, argument_of, invocation_of, invocations_of, actions, action_number, action_of, all_invocations}
use Rattle.p414_syntax.specs.ActionExpansion.{given_for, invoked_with, body_with, CallsExpand, ActionExpands}
use Rattle.p414_syntax.specs.ActionExpansion.CallsExpand.{NoCalls, OfPrimitive, OfAction}
use Rattle.p414_syntax.specs.ControlExpansion.StatementExpands.{NoStatements, Then, Apply, ApplyBranches, If, Call, NoElse, ElseBlock, ElseIf, NoBranches, Branch}
use Rattle.p414_syntax.specs.ControlExpansion.{StatementExpands, PipelineExpands, control_of}
use Rattle.lower_laws_states.specs.Expansions.{Has, StandsFor, IsOfText, IsBelow, IsFieldOfText, IsPrimitiveOf, HasNoCall}
use Rattle.lower_laws_states.proofs.Used.{field_used}
use Rattle.lower_laws_states.proofs.Members.{has_joined, has_at, has_each, each_has, each_weaker, mapped_has, none_past}

pub each_joined : {X : Type 0} (P : X → Type 0) (xs ys : List X) → AllByRecursion P xs → AllByRecursion P ys → AllByRecursion P (xs ++ ys)
each_joined P [] ys h k = k
each_joined P (x ∷ xs) ys h k = (h.0, each_joined P xs ys h.1 k)

-- What holds of the calls of an action, and of those of each action that such a call calls, holds of its primitives.
pub expanded : (ds : List Decl) (P : Invocation → Type 0) → ((i : Invocation) (a : Action) → P i → action_of ds i.callee ≡ Some a → AllByRecursion P (body_with i.arguments a)) → (calls all : List Invocation) → CallsExpand ds calls all → AllByRecursion P calls → AllByRecursion (λ i. P i × (action_of ds i.callee ≡ None)) all
expanded ds P inner _ _ NoCalls each = tt
expanded ds P inner _ _ (OfPrimitive i rest all none more) each = ((each.0, none), expanded ds P inner rest all more each.1)
expanded ds P inner _ _ (OfAction i rest within all a named body more) each =
    each_joined _ within all (expanded ds P inner (body_with i.arguments a) within body (inner i a each.0 named)) (expanded ds P inner rest all more each.1)

-- arguments

given_stands : (given : List Argument) (a : Argument) → StandsFor a (given_for given a)
given_stands given (parameter_argument n) = tt
given_stands given (number_argument n) = refl
given_stands given (field_argument r) = refl
given_stands given (name_argument i) = refl

all_given : (given list : List Argument) → AllZip StandsFor list (map (given_for given) list)
all_given given [] = tt
all_given given (a ∷ list) = (given_stands given a, all_given given list)

itself : (a : Argument) → StandsFor a a
itself (parameter_argument n) = tt
itself (number_argument n) = refl
itself (field_argument r) = refl
itself (name_argument i) = refl

all_themselves : (list : List Argument) → AllZip StandsFor list list
all_themselves [] = tt
all_themselves (a ∷ list) = (itself a, all_themselves list)

-- parameters of the outermost action

argument_below : (parameters : List Name) (a : Arg) → IsBelow (length parameters) (argument_of parameters a)
argument_below parameters (arg.Number n) = tt
argument_below parameters (arg.Field r) = tt
argument_below parameters (arg.Instance i) = by (is_some i.index) (find_name parameters i.name) refl where
  by : (b : Bool) (o : Option ℕ) → find_name parameters i.name ≡ o → IsBelow (length parameters) (cond b (name_argument i) (parameter_or_name o i))
  by true o e = tt
  by false None e = tt
  by false (Some n) e = (position-Some (bytes_eq i.name) parameters n [] e).0

arguments_below : (parameters : List Name) (list : List Arg) → AllByRecursion (IsBelow (length parameters)) (map (argument_of parameters) list)
arguments_below parameters [] = tt
arguments_below parameters (a ∷ list) = (argument_below parameters a, arguments_below parameters list)

given_below : (count : ℕ) (given : List Argument) → AllByRecursion (IsBelow count) given → (a : Argument) → IsBelow (length given) a → IsBelow count (given_for given a)
given_below count given each (parameter_argument n) lt = by (slice_get given n) refl where
  by : (o : Option Argument) → slice_get given n ≡ o → IsBelow count (unwrap_or o (parameter_argument n))
  by None e = absurd (omega (arith, lt, none_past given n e))
  by (Some g) e = has_each (IsBelow count) given g each (has_at given n g e)
given_below count given each (number_argument n) lt = tt
given_below count given each (field_argument r) lt = tt
given_below count given each (name_argument i) lt = tt

all_below : (count : ℕ) (given : List Argument) → AllByRecursion (IsBelow count) given → (list : List Argument) → AllByRecursion (IsBelow (length given)) list → AllByRecursion (IsBelow count) (map (given_for given) list)
all_below count given each [] lt = tt
all_below count given each (a ∷ list) lt = (given_below count given each a lt.0, all_below count given each list lt.1)

-- fields of the text

given_field : (ds : List Decl) (given : List Argument) → AllByRecursion (IsFieldOfText ds) given → (a : Argument) → IsFieldOfText ds a → IsFieldOfText ds (given_for given a)
given_field ds given each (parameter_argument n) is = by (slice_get given n) refl where
  by : (o : Option Argument) → slice_get given n ≡ o → IsFieldOfText ds (unwrap_or o (parameter_argument n))
  by None e = tt
  by (Some g) e = has_each (IsFieldOfText ds) given g each (has_at given n g e)
given_field ds given each (number_argument n) is = tt
given_field ds given each (field_argument r) is = is
given_field ds given each (name_argument i) is = tt

all_fields : (ds : List Decl) (given : List Argument) → AllByRecursion (IsFieldOfText ds) given → (list : List Argument) → AllByRecursion (IsFieldOfText ds) list → AllByRecursion (IsFieldOfText ds) (map (given_for given) list)
all_fields ds given each [] is = tt
all_fields ds given each (a ∷ list) is = (given_field ds given each a is.0, all_fields ds given each list is.1)

-- the calls of an action that is declared

has_action : (ds : List Decl) (name : Name) (a : Action) → action_of ds name ≡ Some a → Has (actions ds) a
has_action ds name a e = by (action_number ds name) e where
  by : (o : Option ℕ) → option_and_then (slice_get (actions ds)) o ≡ Some a → Has (actions ds) a
  by None e = absurd (cc e)
  by (Some n) e = has_at (actions ds) n a e

text_call : (ds : List Decl) (a : Action) (given : List Argument) (j : Invocation) → Has (actions ds) a → Has (invocations_of a) j → IsOfText ds (invoked_with given j)
text_call ds a given j declared there = record {
  text = j;
  stands = has_joined invocations_of (actions ds) a j declared there;
  callee = refl;
  arguments = all_given given j.arguments;
}

call_below : (a : Action) (j : Invocation) → Has (invocations_of a) j → AllByRecursion (IsBelow (length a.parameters)) j.arguments
call_below a j there =
    let c = mapped_has (invocation_of a.parameters) a.calls j there in
    subst (λ (i : Invocation). AllByRecursion (IsBelow (length a.parameters)) i.arguments) c.2 (arguments_below a.parameters c.0.arguments)

pub each_mapped : {X Y : Type 0} (P : Y → Type 0) (f : X → Y) (xs : List X) → ((x : X) → Has xs x → P (f x)) → AllByRecursion P (map f xs)
each_mapped P f [] h = tt
each_mapped P f (x ∷ xs) h = (h x (inl refl), each_mapped P f xs (λ y k. h y (inr k)))

argument_field : (ds : List Decl) (a : Action) → Has (actions ds) a → (c : CallOf) → Has a.calls c → (x : Arg) → Has c.arguments x → IsFieldOfText ds (argument_of a.parameters x)
argument_field ds a declared c called (arg.Number n) h = tt
argument_field ds a declared c called (arg.Field r) h = field_used ds a declared c called r h
argument_field ds a declared c called (arg.Instance i) h = by (is_some i.index) (find_name a.parameters i.name) where
  by : (b : Bool) (o : Option ℕ) → IsFieldOfText ds (cond b (name_argument i) (parameter_or_name o i))
  by true o = tt
  by false None = tt
  by false (Some n) = tt

call_fields : (ds : List Decl) (a : Action) (j : Invocation) → Has (actions ds) a → Has (invocations_of a) j → AllByRecursion (IsFieldOfText ds) j.arguments
call_fields ds a j declared there =
    let c = mapped_has (invocation_of a.parameters) a.calls j there in
    subst (λ (i : Invocation). AllByRecursion (IsFieldOfText ds) i.arguments) c.2
    (each_mapped (IsFieldOfText ds) (argument_of a.parameters) c.0.arguments (λ x h. argument_field ds a declared c.0 c.1 x h))

-- A call of an action has as many arguments as the action has parameters.
abbrev pub CountsFit : List Decl → Type 0
CountsFit ds = (i : Invocation) (a : Action) → Has (all_invocations ds) i → action_of ds i.callee ≡ Some a → length i.arguments ≡ length a.parameters

abbrev Stands : List Decl → ℕ → Invocation → Type 0
Stands ds count i = IsOfText ds i × AllByRecursion (IsBelow count) i.arguments × AllByRecursion (IsFieldOfText ds) i.arguments

inner_stands : (ds : List Decl) (count : ℕ) → CountsFit ds → (i : Invocation) (a : Action) → Stands ds count i → action_of ds i.callee ≡ Some a → AllByRecursion (Stands ds count) (body_with i.arguments a)
inner_stands ds count counts i a stands named =
    each_mapped (Stands ds count) (invoked_with i.arguments) (invocations_of a) (λ j there. (
      text_call ds a i.arguments j (has_action ds i.callee a named) there,
      all_below count i.arguments stands.1 j.arguments (subst (λ n. AllByRecursion (IsBelow n) j.arguments) (sym long) (call_below a j there)),
      all_fields ds i.arguments stands.2 j.arguments (call_fields ds a j (has_action ds i.callee a named) there),
    ))
  where
    long : length i.arguments ≡ length a.parameters
    long = AllZip-long StandsFor stands.0.text.arguments i.arguments stands.0.arguments ∙ counts stands.0.text a stands.0.stands (ap (action_of ds) (sym stands.0.callee) ∙ named)

-- what an action comes to
pub primitives_stand : (ds : List Decl) → CountsFit ds → (n : ℕ) (all : List Invocation) (e : ActionExpands ds n all) → AllByRecursion (IsPrimitiveOf ds (length e.action.parameters)) all
primitives_stand ds counts n all e =
    let count = length e.action.parameters in
    let own : AllByRecursion (Stands ds count) (invocations_of e.action) =
    each_has (Stands ds count) (invocations_of e.action) (λ j there. (
      record {
        text = j;
        stands = has_joined invocations_of (actions ds) e.action j (has_at (actions ds) n e.action e.numbered) there;
        callee = refl;
        arguments = all_themselves j.arguments;
      },
      call_below e.action j there,
      call_fields ds e.action j (has_at (actions ds) n e.action e.numbered) there,
    )) in
    each_weaker (λ i. Stands ds count i × (action_of ds i.callee ≡ None)) (IsPrimitiveOf ds count)
    (λ i is. record { no_action = is.1; of_text = is.0.0; below = is.0.1; fields = is.0.2 }) all
    (expanded ds (Stands ds count) (inner_stands ds count counts) (invocations_of e.action) all e.expands own)

-- controls

no_call_left : (ds : List Decl) (s t : Stmt) → StatementExpands ds s t → HasNoCall t
no_call_left ds _ _ NoStatements = tt
no_call_left ds _ _ (Then a b to_a to_b e f) = (no_call_left ds a to_a e, no_call_left ds b to_b f)
no_call_left ds _ _ (Apply table) = tt
no_call_left ds _ _ (ApplyBranches table a to_a e) = no_call_left ds a to_a e
no_call_left ds _ _ (If c a b to_a to_b e f) = (no_call_left ds a to_a e, no_call_left ds b to_b f)
no_call_left ds _ _ (Call name control body found e) = no_call_left ds control.body body e
no_call_left ds _ _ NoElse = tt
no_call_left ds _ _ (ElseBlock a to_a e) = no_call_left ds a to_a e
no_call_left ds _ _ (ElseIf a to_a e) = no_call_left ds a to_a e
no_call_left ds _ _ NoBranches = tt
no_call_left ds _ _ (Branch a b to_a to_b l e f) = (no_call_left ds a to_a e, no_call_left ds b to_b f)

pub pipeline_without_calls : (ds : List Decl) (name : Name) (body : Stmt) → PipelineExpands ds name body → HasNoCall body
pipeline_without_calls ds name body expands = by (control_of ds name) expands where
  by : (o : Option ControlTree) → MatchOption o (body ≡ no_statements) (λ (control : ControlTree). StatementExpands ds control.body body) → HasNoCall body
  by None e = subst HasNoCall (sym e) tt
  by (Some control) e = no_call_left ds control.body body e
