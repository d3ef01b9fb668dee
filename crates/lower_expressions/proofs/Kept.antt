-- What is kept of slots and sources, and shown again, is what it was.
use Rattle.std.proofs.Common.{◌≡◌, pos, negsuc, refl, ap}
use Rattle.p414_sem.specs.Slots.{Slot, standard, declared}
use Rattle.p414_sem.specs.Operations.{Source, number, field, parameter}
use Rattle.p414_slots.specs.Shown.{slot_in, kept_slot}
use Rattle.p414_ready_actions.specs.Rows.{kept_source}
use Rattle.p414_ready_actions.specs.Running.{shown_source}

pub slot_same : (s : Slot) → slot_in (kept_slot s) ≡ s
slot_same (standard which) = refl
slot_same (declared i e k) = refl

pub source_same : (a : Source) → shown_source (kept_source a) ≡ a
source_same (number (pos n)) = refl
source_same (number (negsuc n)) = refl
source_same (field slot) = ap field (slot_same slot)
source_same (parameter j) = refl
