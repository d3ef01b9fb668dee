-- What expressions ask of where they stand, beside what a scope sees (this project's own; P4_16 1.2, "L-values", "Name
-- resolution").
use Rattle.std.specs.Prelude.{◌≡◌, ℕ, ◌<◌, Bool, true, List, length}
use Rattle.p414_sem.specs.Slots.{Slot, standard, declared}
use Rattle.v1_core.specs.Frames.{Owner, of_standard}
use Rattle.agreement_of_meanings.specs.Shown.{owner_of, field_at}
use Rattle.lower_laws_base.specs.Context.{Local, local_at, local_of, Lowering, shown_in, At, now, entry}

-- a parameter of the block, or its copy, can be written
abbrev pub can_at : Lowering → At → Owner → Bool
can_at c now o = c.can_write o
can_at c entry o = true

-- the parameter of the block in which a field stands
abbrev pub slot_owner : Lowering → Slot → Owner
slot_owner c (standard which) = of_standard
slot_owner c (declared i e k) = owner_of (shown_in c i)

-- this stands among the parameters and variables
pub record Among (ls : List Local) (l : Local) : Type 0 where
  pub place : ℕ
  pub within : place < length ls
  pub stands : local_at ls place ≡ l

-- the parameters of the action stand among them
abbrev pub HasParameters : Lowering → List Local → Type 0
HasParameters c ls = (j : ℕ) → j < length c.parameters → Among ls (local_of (field_at c.parameters j))
