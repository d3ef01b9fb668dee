-- What the sets of changed parts hold (this project's own).
use Rattle.std.specs.Prelude.{ℕ, Bool, ◌||◌}
use Rattle.std.specs.declared.cmp.Ordering.{Ordering}
use Rattle.std.specs.Ordering.{nat_cmp, ordering_then}
use Rattle.std.specs.BTreeSet.{contains}
use Rattle.p414_sem.specs.Slots.{Element, standard, declared}
use Rattle.lower_laws_actions.specs.Apart.{Part, number_of, form_of, whole_of, elements_of, cells_of, standard_place}
use Rattle.lower_bodies.specs.declared.changed.ChangedParts.{ChangedParts}

-- numbers in the order of the first, then of the second, then of the third
abbrev pub pair_cmp : ℕ × ℕ → ℕ × ℕ → Ordering
pair_cmp x y = ordering_then (nat_cmp x.0 y.0) (nat_cmp x.1 y.1)

-- the same of three numbers
abbrev pub triple_cmp : ℕ × ℕ × ℕ → ℕ × ℕ × ℕ → Ordering
triple_cmp x y = ordering_then (ordering_then (nat_cmp x.0 y.0) (nat_cmp x.1 y.1)) (nat_cmp x.2 y.2)

-- an element of an instance
abbrev pub at : ℕ → ℕ → Element
at instance element = record { instance = instance; element = element }

-- the form of a header was changed
abbrev pub form_kept : ChangedParts → ℕ → ℕ → Bool
form_kept c i e = contains pair_cmp c.headers (i, e) || contains nat_cmp c.stacks i

-- a part was changed
abbrev pub is_kept : ChangedParts → Part → Bool
is_kept c (number_of (standard which)) = contains nat_cmp c.standard (standard_place which)
is_kept c (number_of (declared i e f)) = contains triple_cmp c.fields (i, e, f) || form_kept c i e
is_kept c (form_of h) = form_kept c h.instance h.element
is_kept c (whole_of h) = contains pair_cmp c.written_headers (h.instance, h.element) || form_kept c h.instance h.element
is_kept c (elements_of i) = contains nat_cmp c.written_instances i || contains nat_cmp c.instances i || contains nat_cmp c.stacks i
is_kept c (cells_of o) = contains nat_cmp c.registers o
