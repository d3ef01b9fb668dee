-- The widths of the parameters of all actions (P4_14 1.0.5, "Actions"; how wide a parameter is, is this project's own).
use Rattle.std.specs.Prelude.{◌≡◌, ℕ, List, [], slice_index_or}
use Rattle.p414_syntax.specs.declared.syntax.Decl.{Decl}
use Rattle.p414_sem.specs.Signatures.{parameter_widths}

-- these are the widths of each action's parameters, by the numbers of the actions
abbrev pub AreWidths : List Decl → List (List ℕ) → Type 0
AreWidths ds rows = (action : ℕ) → slice_index_or rows action [] ≡ parameter_widths ds action
