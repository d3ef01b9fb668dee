-- What primitives do one after another, under both rules (this project's own, both rules, too; P4_14 1.0.5, "Actions",
-- "Primitive Actions").
use Rattle.std.specs.Prelude.{ℕ, List, [], ◌∷◌, map}
use Rattle.p414_syntax.specs.declared.syntax.Decl.{Decl}
use Rattle.p414_syntax.specs.declared.syntax.Rule14.{Rule14}
use Rattle.p414_syntax.specs.declared.syntax.Rule14.TheVariants.{Sequential, Parallel}
use Rattle.p414_syntax.specs.Arguments.{Invocation}
use Rattle.p414_sem.specs.Expanded.{Expanded}
use Rattle.p414_sem.specs.Operations.{Primitive, primitive_of}
use Rattle.p414_sem.specs.Effects.{Moment as Moment14, effects, all_fallen}

-- the effects of a primitive whose operands are read in one moment fall on another
abbrev pub after : List Decl → List ℕ → Moment14 → Primitive → Moment14 → Moment14
after ds arguments r p m = all_fallen m (effects ds arguments r p)

-- the sequential rule: each primitive reads what the one before left
abbrev pub after_sequence : List Decl → List ℕ → List Primitive → Moment14 → Moment14
after_sequence ds arguments [] m = m
after_sequence ds arguments (p ∷ ps) m = after_sequence ds arguments ps (after ds arguments m p m)

-- the parallel rule: each reads the moment of the entry
abbrev pub after_parallel : List Decl → List ℕ → Moment14 → List Primitive → Moment14 → Moment14
after_parallel ds arguments r [] m = m
after_parallel ds arguments r (p ∷ ps) m = after_parallel ds arguments r ps (after ds arguments r p m)

-- the primitives under this rule
abbrev pub after_rule : List Decl → Rule14 → List ℕ → List Primitive → Moment14 → Moment14
after_rule ds Sequential arguments ps m = after_sequence ds arguments ps m
after_rule ds Parallel arguments ps m = after_parallel ds arguments m ps m

-- the primitives that the calls of an expanded action are
abbrev pub primitives_of : List Decl → Expanded → List Invocation → List Primitive
primitives_of ds x all = map (primitive_of ds x) all
