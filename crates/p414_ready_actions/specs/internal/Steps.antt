-- How calls are expanded step by step: rows that are made, and calls that wait.
use Rattle.std.specs.Prelude.{◌≡◌, List, [], ◌∷◌, ◌++◌, map}
use Rattle.p414_syntax.specs.declared.syntax.Decl.{Decl}
use Rattle.p414_syntax.specs.Arguments.{Invocation}
use Rattle.p414_syntax.specs.ActionExpansion.{CallsExpand}
use Rattle.p414_ready_actions.specs.declared.rows.ReadyPrimitive.{ReadyPrimitive}
use Rattle.p414_ready_actions.specs.Words.{row_of}

-- the calls of bodies that wait, the innermost body first
abbrev pub waiting : List (List Invocation) → List Invocation
waiting [] = []
waiting (body ∷ bodies) = body ++ waiting bodies

-- Some calls and these rows in front come to the same as other calls and those rows.
pub record Steps (ds : List Decl) (before : List Invocation) (rows : List ReadyPrimitive) (behind : List Invocation) (more : List ReadyPrimitive) : Type 0 where
  pub steps : (all : List Invocation) → CallsExpand ds before all
      → (rest : List Invocation) × CallsExpand ds behind rest × (more ++ map (row_of ds) rest ≡ rows ++ map (row_of ds) all)
