-- The variables of a primitive, by what they are for (this project's own).
use Rattle.std.specs.Prelude.{ℕ, codes}
use Rattle.p416_syntax.specs.Names.{Name}
use Rattle.lower_primitives.specs.declared.spares.Spare.{Spare}
use Rattle.lower_primitives.specs.declared.spares.Spare.TheVariants as spare

-- which of the variables of a primitive it is
abbrev pub spare_number : Spare → ℕ
spare_number spare.Got = 0
spare_number spare.Cut = 1
spare_number spare.Colour = 2

-- how its name begins; behind that stand the number of the primitive and `_`
abbrev pub spare_front : Spare → Name
spare_front spare.Got = codes "got_v"
spare_front spare.Cut = codes "cut_w"
spare_front spare.Colour = codes "colour_x"
