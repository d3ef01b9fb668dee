-- T7: a parser has no state `start`, or there is a cycle of states none of which has an `extract` outside every `if` (P4_16
-- 1.2, "Packet parsing", "Data extraction"; that such a cycle is refused is this project's own). A statement that is a
-- branch of an `if` without braces is inside it too; a block by itself isn't.
use Rattle.std.specs.Prelude.{ℕ, ◌⊎◌, IsTrue, Bool, false, not, ◌||◌, if◌then◌else◌, List, [], map, filter_map, option_to_list, position, codes, Option}
use Rattle.std.specs.Str.{bytes_eq}
use Rattle.digraph.specs.Expansions.{HasCycle}
use Rattle.p416_syntax.specs.declared.parsers.SelectCase.{SelectCase}
use Rattle.p416_syntax.specs.declared.parsers.Transition.{Transition}
use Rattle.p416_syntax.specs.declared.parsers.Transition.TheVariants as transition
use Rattle.p416_syntax.specs.declared.parsers.State.{State}
use Rattle.p416_syntax.specs.declared.parsers.Parser16.{Parser16}
use Rattle.p416_syntax.specs.Tree.{Exp16, member, call, Stmt16, then, block, expression}
use Rattle.p416_syntax.specs.Names.{Name, has_name}
use Rattle.p416_syntax.specs.Declarations.{state_name, target_name}

-- a call of `extract`
abbrev pub is_extract_method : Exp16 → Bool
is_extract_method (member e word) = bytes_eq word (codes "extract")
is_extract_method _ = false

abbrev pub is_extract : Exp16 → Bool
is_extract (call e given) = is_extract_method e
is_extract _ = false

-- a statement calls `extract` outside every `if`
abbrev pub extracts : Stmt16 → Bool
extracts ((then) before last) = extracts before || extracts last
extracts (block body) = extracts body
extracts (expression e) = is_extract e
extracts _ = false

-- the states that a transition leads to
abbrev pub case_target : SelectCase → Option Name
case_target c = target_name c.target

abbrev pub targets_of : Transition → List Name
targets_of (transition.Go t) = option_to_list (target_name t)
targets_of (transition.Select keys cases) = filter_map case_target cases

abbrev pub state_number : List State → Name → Option ℕ
state_number states text = position (bytes_eq text) (map state_name states)

-- The graph of a parser's states by their numbers, where no edge leaves a state that extracts: its cycles are those none of
-- whose states extracts.
abbrev pub idle_next : List State → State → List ℕ
idle_next states x = if extracts x.body then [] else filter_map (state_number states) (targets_of x.transition)

abbrev pub idle_graph : Parser16 → List (List ℕ)
idle_graph p = map (idle_next p.states) p.states

abbrev pub has_no_start : Parser16 → Bool
has_no_start p = not (has_name (map state_name p.states) (codes "start"))

-- a parser breaks T7
abbrev pub StatesBreak : Parser16 → Type 0
StatesBreak p = IsTrue (has_no_start p) ⊎ HasCycle (idle_graph p)
