-- What stands by number is in the table, and what is written has at most 128 bits (this project's own).
use Rattle.std.specs.Prelude.{ℕ, ◌<◌, ◌≤◌, length}
use Rattle.p414_sem.specs.Slots.{Slot, standard, declared, Target}
use Rattle.p414_sem.specs.Operations.{Source, number, field, parameter}
use Rattle.agreement_of_meanings.specs.Shown.{fields_of, field_at, shown_at}
use Rattle.lower_laws_base.specs.Context.{Words, object_at}
use Rattle.lower_laws_base.specs.Mirror.{width_in}

-- what a slot names is in the table
abbrev pub SlotHas : Words → Slot → Type 0
SlotHas w (standard which) = Unit {0}
SlotHas w (declared i e k) = (i < length w.names.instances) × (k < length (fields_of (shown_at w.names.instances i)))

-- what a source names is in the table
abbrev pub SourceHas : Words → Source → Type 0
SourceHas w (number z) = Unit {0}
SourceHas w (field slot) = SlotHas w slot × (width_in w slot ≤ 128)
SourceHas w (parameter j) = (j < length w.parameters) × ((field_at w.parameters j).width ≤ 128)

-- an object is in the table
abbrev pub ObjectHas : Words → ℕ → Type 0
ObjectHas w object = (object < length w.objects) × ((object_at w.objects object).width ≤ 128)

-- what a target names is in the table
abbrev pub TargetHas : Words → Target → Type 0
TargetHas w t = SlotHas w t.slot × (t.width ≤ 128) × (width_in w t.slot ≤ 128)

-- an instance is in the table
abbrev pub IsInstance : Words → ℕ → Type 0
IsInstance w instance = instance < length w.names.instances
