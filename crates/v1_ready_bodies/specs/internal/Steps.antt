-- What each thing that is left to be done does to where statements stand and to the statements that are made so far.
use Rattle.std.specs.Prelude.{◌≡◌, ℕ, ◌+◌, ◌-◌, Bool, true, false, if◌then◌else◌, List, [], ◌∷◌, ◌++◌, length, drop, map, Option, Some, None, option_map}
use Rattle.p416_syntax.specs.declared.program.Decl16.{Decl16}
use Rattle.p416_syntax.specs.declared.node.CaseLabel.{CaseLabel}
use Rattle.p416_syntax.specs.declared.node.CaseLabel.TheVariants as label
use Rattle.p416_syntax.specs.Tree.{Stmt16, then, block, if_then, if_else, switch, no_cases, case_of}
use Rattle.p416_syntax.specs.Kinds.{boolean}
use Rattle.p416_syntax.specs.Scopes.{Scope}
use Rattle.p416_syntax.specs.Calls.{value}
use Rattle.p416_syntax.specs.Statements.{behind}
use Rattle.p416_scopes.specs.Seen.{seen_scope}
use Rattle.p416_visits.specs.Left.{height, shortened}
use Rattle.v1_ready_forms.specs.Named.{NamedSeat}
use Rattle.v1_ready_blocks.specs.Tests.{Test}
use Rattle.v1_ready_blocks.specs.Statements.{Statement, nothing, sequence, labelled, otherwise}
use Rattle.v1_ready_program.specs.Seen.{seen_seats}
use Rattle.v1_ready_nodes.specs.Held.{Held}
use Rattle.v1_ready_statements.specs.Tested.{ready_test}
use Rattle.v1_ready_statements.specs.Around.{Around, table_found, action_found}
use Rattle.v1_ready_statements.specs.Statements.{both_ready, branch_ready, switch_ready, has_default, number_behind, seats_behind, ready_of_statement}
use Rattle.v1_ready_statements.specs.Blocks.{number_in}
use Rattle.v1_ready_bodies.specs.declared.standing.Standing.{Standing}
use Rattle.v1_ready_bodies.specs.declared.making.Work.{Work}
use Rattle.v1_ready_bodies.specs.declared.making.Work.TheVariants as work
use Rattle.v1_ready_bodies.specs.Seen.{seen_statement, IsNodeIn}

-- what is made so far, the last one in front

abbrev pub seen_all : Held → List (Option ℕ) → List (Option Statement)
seen_all h vs = map (seen_statement h) vs

abbrev pub AreNodesIn : Held → List (Option ℕ) → Type 0
AreNodesIn h [] = Unit {0}
AreNodesIn h (v ∷ vs) = IsNodeIn h v × AreNodesIn h vs

-- where statements stand, and what is made so far
pub record State : Type 0 where
  pub scope : Scope
  pub seats : List NamedSeat
  pub number : ℕ
  pub made : List (Option Statement)

abbrev pub state_of : Held → Standing → List (Option ℕ) → State
state_of h p vs =
    record { scope = seen_scope p.scope; seats = seen_seats p.seats; number = p.number; made = seen_all h vs }

abbrev pub first_made : List (Option Statement) → Option Statement
first_made [] = None
first_made (x ∷ xs) = x

abbrev pub others_made : List (Option Statement) → List (Option Statement)
others_made [] = []
others_made (x ∷ xs) = xs

-- what was made last is joined

abbrev pub sequence_made : List (Option Statement) → List (Option Statement)
sequence_made made =
    both_ready sequence (first_made (others_made made)) (first_made made) ∷ others_made (others_made made)

abbrev pub branch_made : Option Test → List (Option Statement) → List (Option Statement)
branch_made c made =
    branch_ready c (first_made (others_made made)) (first_made made) ∷ others_made (others_made made)

-- Of cases the statement of `default` stands in front of those of actions, which stand behind it in order, the last one first.

abbrev pub default_made : Bool → List (Option Statement) → List (Option Statement)
default_made true made = others_made made
default_made false made = option_map otherwise (first_made made) ∷ others_made (others_made made)

-- the statements of one more case are made
abbrev pub case_made : CaseLabel → Bool → List (Option Statement) → List (Option Statement)
case_made (label.Action a) had made =
    first_made (others_made made) ∷ first_made made ∷ others_made (others_made made)
case_made label.Default had made = default_made had made

-- the statement of `default` so far
abbrev pub default_of : Around → Scope → List NamedSeat → ℕ → Stmt16 → Option Statement
default_of b s seats n (case_of before (label.Action a) body) = default_of b s seats n before
default_of b s seats n (case_of before label.Default body) =
    if has_default before then default_of b s seats n before
    else option_map otherwise (ready_of_statement b s seats (number_behind s before n) body)
default_of b s seats n _ = Some nothing

-- those of actions
abbrev pub labelled_in : Around → Scope → List NamedSeat → ℕ → Stmt16 → List (Option Statement)
labelled_in b s seats n (case_of before (label.Action a) body) =
    ready_of_statement b s seats (number_behind s before n) body ∷ labelled_in b s seats n before
labelled_in b s seats n (case_of before label.Default body) = labelled_in b s seats n before
labelled_in b s seats n _ = []

abbrev pub labelled_by : Option ℕ → Option Statement → Option Statement → Option Statement
labelled_by (Some action) (Some body) (Some cases) = Some (labelled action body cases)
labelled_by _ _ _ = None

abbrev pub number_of : Around → List ℕ → Option ℕ
number_of b text = option_map number_in (action_found b text)

-- one case is joined, in front of what stands behind it
abbrev pub one_joined : Around → Option Statement → CaseLabel → List (Option Statement) → List (Option Statement)
one_joined b rest (label.Action a) made = labelled_by (number_of b a) (first_made made) rest ∷ others_made made
one_joined b rest label.Default made = rest ∷ made

-- the cases are joined from the last one on, in front of what stands behind them
abbrev pub cases_joined : Around → Option Statement → Stmt16 → List (Option Statement) → List (Option Statement)
cases_joined b rest no_cases made = rest ∷ made
cases_joined b rest (case_of before (label.Action a) body) made =
    cases_joined b (labelled_by (number_of b a) (first_made made) rest) before (others_made made)
cases_joined b rest (case_of before label.Default body) made = cases_joined b rest before made
cases_joined b rest _ made = None ∷ made

abbrev pub switch_made : Option ℕ → List (Option Statement) → List (Option Statement)
switch_made table made = switch_ready table (first_made made) ∷ others_made made

-- one thing is done
abbrev pub step : Around → List Decl16 → Work → State → State
step b ds (work.Make x) st = record {
  scope = behind x st.scope;
  seats = seats_behind b st.scope st.number x st.seats;
  number = number_behind st.scope x st.number;
  made = ready_of_statement b st.scope st.seats st.number x ∷ st.made;
}
step b ds (work.MakeCases x) st = record st {
  number = number_behind st.scope x st.number;
  made = default_of b st.scope st.seats st.number x ∷ (labelled_in b st.scope st.seats st.number x ++ st.made);
}
step b ds (work.Case l had) st = record st { made = case_made l.now had st.made }
step b ds (work.Shorten names seats) st = record st {
  scope = shortened (height ds names) st.scope;
  seats = drop (length st.seats - seats) st.seats;
}
step b ds work.Sequence st = record st { made = sequence_made st.made }
step b ds (work.If c) st = record st {
  made = branch_made (ready_test st.scope st.seats (table_found b) (value boolean) c) (Some nothing ∷ st.made);
}
step b ds (work.IfElse c) st = record st {
  made = branch_made (ready_test st.scope st.seats (table_found b) (value boolean) c) st.made;
}
step b ds (work.Switch table cases) st = record st {
  made =
      switch_made (table_found b table.now)
      (cases_joined b (first_made st.made) cases (others_made st.made));
}

-- all of it is done
abbrev pub finish : Around → List Decl16 → List Work → State → State
finish b ds [] st = st
finish b ds (w ∷ more) st = finish b ds more (step b ds w st)

-- how many steps that takes

abbrev pub steps_of : Stmt16 → ℕ
steps_of ((then) before last) = 2 + steps_of before + steps_of last
steps_of (block body) = 2 + steps_of body
steps_of (if_then c positive) = 3 + steps_of positive
steps_of (if_else c positive negative) = 4 + steps_of positive + steps_of negative
steps_of (switch table cases) = 2 + steps_of cases
steps_of (case_of before l body) = 3 + steps_of before + steps_of body
steps_of _ = 1

abbrev pub steps : List Work → ℕ
steps [] = 0
steps (work.Make x ∷ more) = steps_of x + steps more
steps (work.MakeCases x ∷ more) = steps_of x + steps more
steps (w ∷ more) = 1 + steps more

-- where names are taken off again down to these numbers, they are what they are
pub record AreHigh (ds : List Decl16) (names seats : ℕ) (st : State) : Type 0 where
  pub named : length st.scope.names ≡ height ds names
  pub seated : length st.seats ≡ seats
