-- How the pass of an item begins, by the layout of a program (P4_14 1.0.5, "Resubmit", "Recirculate").
use Rattle.std.specs.Prelude.{ℕ, ◌+◌, true, if◌then◌else◌, List, [], ◌∷◌}
use Rattle.p414_sem.specs.Slots.{declared}
use Rattle.p414_sem.specs.State.{Instance, State, instance_at, with_instance, written}
use Rattle.p414_sem.specs.Passes.{Preserved}
use Rattle.p414_layout.specs.declared.shape.Shape.{Shape}
use Rattle.p414_layout.specs.Shapes.{shape_at}

-- numbers written to the fields of an instance, from this field on
abbrev pub written_from : ℕ → ℕ → List ℕ → State → State
written_from instance field [] s = s
written_from instance field (n ∷ numbers) s =
    written_from instance (field + 1) numbers (written s (declared instance 0 field) n)

-- metadata with other numbers; headers stay
abbrev pub with_numbers : Shape → List ℕ → Instance → Instance
with_numbers shape numbers i =
    if shape.metadata then record { elements = record { valid = true; numbers = numbers } ∷ []; place = i.place } else i

-- the same of the instance with this number, and of all instances from there on

abbrev pub numbers_put : List Shape → ℕ → List ℕ → State → State
numbers_put layout instance numbers s =
    with_instance s instance (with_numbers (shape_at layout instance) numbers (instance_at s instance))

abbrev pub all_put_from : List Shape → ℕ → Preserved → State → State
all_put_from layout instance [] s = s
all_put_from layout instance (numbers ∷ q) s =
    all_put_from layout (instance + 1) q (numbers_put layout instance numbers s)

-- all of them by their lists
abbrev pub with_all_numbers : List Shape → Preserved → List Instance → List Instance
with_all_numbers (shape ∷ layout) (numbers ∷ q) (i ∷ instances) =
    with_numbers shape numbers i ∷ with_all_numbers layout q instances
with_all_numbers _ _ instances = instances

abbrev pub with_kept : List Shape → Preserved → State → State
with_kept layout q s = record s { instances = with_all_numbers layout q s.instances }
