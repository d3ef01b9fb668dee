-- What is asked of a header, a stack or a struct: a way to a part of it, and what is asked there (P4_16 1.2, "Operations on
-- headers", "Operations on header stacks", "Operations on struct types").
use Rattle.std.specs.Prelude.{ℕ, if◌then◌else◌}
use Rattle.p416_syntax.specs.Names.{Name}
use Rattle.v1_core.specs.Expressions.{is_last}
use Rattle.v1_core.specs.declared.node.Which.{Which}
use Rattle.v1_core.specs.declared.node.Which.TheVariants.{Next, Last}

pub data Way : Type 0 where
  -- the value; whether the header is valid
  its_value : Way
  its_validity : Way
  -- a field or a member, an element by its number, the element that the place of a stack tells; and what is asked of that
  through_member : (word : Name) (way : Way) → Way
  through_element : (number : ℕ) (way : Way) → Way
  through_told : (which : Which) (way : Way) → Way

-- the element of a stack that a member of it is
abbrev pub which_of : Name → Which
which_of word = if is_last word then Last else Next
