-- The parser states of a program as a graph, and what its walks extract (P4_14 1.0.5, "Parser Specification"; the
-- order of headers, and that an idle cycle is refused, are this project's own). A transition to `ingress` leads to no
-- state.
use Rattle.std.specs.Prelude.{◌≡◌, ℕ, ◌<◌, ◌⊎◌, List, [], ◌∷◌, ◌++◌, length, map, flat_map, filter_map, slice_get, Contains, codes, Option, Some, None, unwrap_or}
use Rattle.std.specs.Option.{option_map_or}
use Rattle.p414_syntax.specs.declared.parsers.PStmt.{PStmt}
use Rattle.p414_syntax.specs.declared.parsers.PStmt.TheVariants as pstmt
use Rattle.p414_syntax.specs.declared.parsers.CaseTarget.{CaseTarget}
use Rattle.p414_syntax.specs.declared.parsers.CaseTarget.TheVariants as case_target
use Rattle.p414_syntax.specs.declared.parsers.Case.{Case}
use Rattle.p414_syntax.specs.declared.parsers.Return.{Return}
use Rattle.p414_syntax.specs.declared.parsers.Return.TheVariants as end_of
use Rattle.p414_syntax.specs.declared.parsers.Parser.{Parser}
use Rattle.p414_syntax.specs.declared.syntax.Decl.{Decl}
use Rattle.p414_syntax.specs.declared.syntax.Decl.TheVariants as decl
use Rattle.p414_syntax.specs.declared.syntax.Sort.TheVariants as sort
use Rattle.p414_syntax.specs.Names.{Name, find_name, number_of, names_in}
use Rattle.p414_syntax.specs.Walks.{IsWalk, IsCycle}

-- the parser states of a program, and their names, in order
abbrev pub state_in : Decl → Option Parser
state_in (decl.Parser x) = Some x
state_in _ = None

abbrev pub states : List Decl → List Parser
states ds = filter_map state_in ds

abbrev pub state_name : Parser → Name
state_name p = p.name

abbrev pub state_number : List Decl → Name → Option ℕ
state_number ds name = find_name (map state_name (states ds)) name

-- The number of an instance; `standard_metadata` has the number behind the last declared one. A stack is one instance.
abbrev pub instance_number : List Decl → Name → ℕ
instance_number ds name = unwrap_or (number_of sort.Instance ds name) (length (names_in sort.Instance ds))

-- what a state extracts, in order
abbrev pub extracted_by : List Decl → PStmt → List ℕ
extracted_by ds (pstmt.Extract i) = instance_number ds i.name ∷ []
extracted_by ds (pstmt.SetMetadata r v) = []

abbrev pub extracts_in : List Decl → Parser → List ℕ
extracts_in ds p = flat_map (extracted_by ds) p.statements

-- the states that a state's return names, in the order of the text
abbrev pub target_of : CaseTarget → Option Name
target_of (case_target.ParseError name) = None
target_of (case_target.State name) = Some name

abbrev pub case_target_of : Case → Option Name
case_target_of c = target_of c.target

abbrev pub targets_of : Return → List Name
targets_of (end_of.Select vs cs) = filter_map case_target_of cs
targets_of (end_of.State name) = name ∷ []
targets_of (end_of.ParseError name) = []

abbrev pub next_in : List Decl → Parser → List ℕ
next_in ds p = filter_map (state_number ds) (targets_of p.end)

-- the same of the state with this number
abbrev pub extracts_of : List Decl → ℕ → List ℕ
extracts_of ds s = option_map_or (extracts_in ds) (slice_get (states ds) s) []

abbrev pub next_of : List Decl → ℕ → List ℕ
next_of ds s = option_map_or (next_in ds) (slice_get (states ds) s) []

-- what a walk extracts, in order
abbrev pub walk_extracts : List Decl → List ℕ → List ℕ
walk_extracts ds walk = flat_map (extracts_of ds) walk

-- C9: a cycle of states by written transitions extracts nothing
pub record HasIdleCycle (ds : List Decl) : Type 0 where
  pub state : ℕ
  pub between : List ℕ
  pub cycle : IsCycle (next_of ds) state between
  pub idle : walk_extracts ds (state ∷ between) ≡ []

-- walks by written transitions that begin in the state `start`
pub record IsWalkFromStart (ds : List Decl) (walk : List ℕ) : Type 0 where
  pub first : ℕ
  pub rest : List ℕ
  pub start : state_number ds (codes "start") ≡ Some first
  pub begins : walk ≡ first ∷ rest
  pub walks : IsWalk (next_of ds) walk

-- a state that `start` reaches extracts the instance
pub record IsExtracted (ds : List Decl) (x : ℕ) : Type 0 where
  pub walk : List ℕ
  pub from_start : IsWalkFromStart ds walk
  pub extracted : Contains (walk_extracts ds walk) x

-- x is before y: a walk from `start` extracts x and later y, and they differ
pub record IsBefore (ds : List Decl) (x y : ℕ) : Type 0 where
  pub walk : List ℕ
  pub before : List ℕ
  pub between : List ℕ
  pub behind : List ℕ
  pub from_start : IsWalkFromStart ds walk
  pub extracts : walk_extracts ds walk ≡ before ++ x ∷ between ++ y ∷ behind
  pub differ : x ≡ y → ⊥

-- the instances that reachable states extract, each once
pub record AreExtracted (ds : List Decl) (order : List ℕ) : Type 0 where
  pub each : (x : ℕ) → IsExtracted ds x → Contains order x
  pub extracted : (x : ℕ) → Contains order x → IsExtracted ds x
  pub once : (before between behind : List ℕ) (x : ℕ) → order ≡ before ++ x ∷ between ++ x ∷ behind → ⊥

-- the order inverts no pair: nothing stands behind what it is before
abbrev pub InvertsNone : List Decl → List ℕ → Type 0
InvertsNone ds order =
    (before between behind : List ℕ) (x y : ℕ) → order ≡ before ++ y ∷ between ++ x ∷ behind
    → IsBefore ds x y → ⊥

pub record IsHeaderOrder (ds : List Decl) (order : List ℕ) : Type 0 where
  pub instances : AreExtracted ds order
  pub pairs : InvertsNone ds order

-- C10: no order of the extracted instances inverts no pair
abbrev pub HasNoOrder : List Decl → Type 0
HasNoOrder ds = (order : List ℕ) → IsHeaderOrder ds order → ⊥

-- of two lists of numbers the one is not behind the other, compared number by number from the front
abbrev pub AtMost : List ℕ → List ℕ → Type 0
AtMost [] ys = Unit {0}
AtMost (x ∷ xs) [] = ⊥
AtMost (x ∷ xs) (y ∷ ys) = (x < y) ⊎ ((x ≡ y) × AtMost xs ys)

-- the order in which headers leave: the least that inverts no pair
pub record Order (ds : List Decl) (order : List ℕ) : Type 0 where
  pub is_order : IsHeaderOrder ds order
  pub least : (other : List ℕ) → IsHeaderOrder ds other → AtMost order other
