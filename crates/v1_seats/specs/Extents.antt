-- How far values reach: how many slots, headers and stacks a value has, wherever it begins and through however many structs
-- within each other it is looked into, if these are enough (this project's own).
use Rattle.std.specs.Prelude.{◌≡◌, ℕ, ◌≤◌, List, [], ◌∷◌, map}
use Rattle.p416_syntax.specs.Names.{Name}
use Rattle.p416_syntax.specs.Scopes.{Layout, FieldKind, fields_in}
use Rattle.v1_core.specs.Seats.{Form, form_of, Start, moved, behind}

abbrev pub no_size : Start
no_size = record { slot = 0; header = 0; stack = 0 }

abbrev pub one_slot : Start
one_slot = record { slot = 1; header = 0; stack = 0 }

-- behind a value that reaches so far
abbrev pub further : Start → Start → Start
further b by = moved b by.slot by.header by.stack

abbrev pub form_of_field : FieldKind → Form
form_of_field f = form_of f.kind

abbrev pub forms_in : List Layout → Name → List Form
forms_in types name = map form_of_field (fields_in types name)

-- where what stands behind values of these forms begins, and where each of them begins

abbrev pub behind_forms : (Form → Start → Start) → List Form → Start → Start
behind_forms next [] b = b
behind_forms next (k ∷ forms) b = behind_forms next forms (next k b)

abbrev pub starts_from : (Form → Start → Start) → List Form → Start → List Start
starts_from next [] b = []
starts_from next (k ∷ forms) b = b ∷ starts_from next forms (next k b)

-- a value reaches so far, looked into through at least so many structs
pub record Reaches (types : List Layout) (form : Form) (size : Start) (depth : ℕ) : Type 0 where
  pub ends : (n : ℕ) (b : Start) → depth ≤ n → behind types n form b ≡ further b size

-- the members of a struct reach so far together, and begin there
pub record AreLaid (types : List Layout) (forms : List Form) (starts : List Start) (size : Start) (depth : ℕ) : Type 0 where
  pub begin : (n : ℕ) (b : Start) → depth ≤ n → starts_from (λ k s. behind types n k s) forms b ≡ map (further b) starts
  pub ends : (n : ℕ) (b : Start) → depth ≤ n → behind_forms (λ k s. behind types n k s) forms b ≡ further b size
