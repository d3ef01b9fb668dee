-- T4: a literal doesn't fit its width (P4_16 1.2, "Literal constants"). A literal without a width is judged where its place
-- asks for one. Numbers in types, sizes, elements, slices and annotations have no width but what is written.
use Rattle.std.specs.Prelude.{ℕ, Bool, false, nat_le, ◌^◌, Option, Some, None}
use Rattle.std.specs.Option.{option_map_or}
use Rattle.p416_syntax.specs.declared.lexeme.Literal16.{Literal16}
use Rattle.p416_syntax.specs.Tree.{literal}
use Rattle.p416_syntax.specs.Kinds.{Kind, bits}
use Rattle.p416_syntax.specs.Calls.{Place, value, written, literal_of}
use Rattle.p416_syntax.specs.Uses.{Use, an_expression, a_width, a_size, a_number}

abbrev pub width_of_kind : Kind → Option ℕ
width_of_kind (bits w) = Some w
width_of_kind _ = None

-- the width that a place asks for
abbrev pub width_of_place : Place → Option ℕ
width_of_place (value k) = width_of_kind k
width_of_place (written k) = width_of_kind k
width_of_place (literal_of k) = width_of_kind k
width_of_place _ = None

abbrev pub is_over : ℕ → ℕ → Bool
is_over n width = nat_le (2 ^ width) n

-- the width that is written counts, else this one
abbrev pub is_too_large : Option ℕ → Literal16 → Bool
is_too_large wanted n = of n.width
  where
    of : Option ℕ → Bool
    of (Some w) = is_over n.value w
    of None = option_map_or (is_over n.value) wanted false

-- what is judged breaks T4
abbrev pub overflows : Use → Bool
overflows (an_expression s p (literal n)) = is_too_large (width_of_place p) n
overflows (a_width n) = is_too_large None n
overflows (a_size n) = is_too_large None n
overflows (a_number n) = is_too_large None n
overflows _ = false
