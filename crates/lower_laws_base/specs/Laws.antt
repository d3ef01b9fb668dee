-- Laws of what all statements share (this project's own; P4_14 1.0.5, "Field Value Conversions", "Primitive Actions";
-- P4_16 1.2, "Casts").
use Rattle.std.specs.Prelude.{List, ℕ}
use Rattle.p414_sem.specs.Effects.{source_number}
use Rattle.p414_sem.specs.Operations.{Source}
use Rattle.p414_sem.specs.State.{State}
use Rattle.p414_sem.specs.Wholes.{wrapped}
use Rattle.p416_syntax.specs.Scopes.{Scope}
use Rattle.v1_core.specs.Frames.{Moment}
use Rattle.v1_core.specs.Values.{Value}
use Rattle.lower_laws_base.specs.Context.{At, Local, Looks, Lowering, SourceFits, words_of}
use Rattle.lower_laws_base.specs.Gives.{Gives}
use Rattle.lower_laws_base.specs.Mirror.{source_exp}

-- A source at a width gives its whole number modulo 2 ^ width, read as the state stands or at the copies of the entry's.
abbrev pub SourcesGive : Type 0
SourcesGive =
    (c : Lowering) (s : Scope) (ls : List Local) (vs : List Value) (arguments : List ℕ) (at : At) (r : State) (n : Moment) → Looks c s ls vs arguments at r n.frame →
    (width : ℕ) (a : Source) → SourceFits c a → Gives c.world s n (source_exp (words_of c) at width a) width (wrapped width (source_number arguments r a))
