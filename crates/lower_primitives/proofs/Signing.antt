-- The sum and the difference that are written.
use Rattle.std.proofs.Common.{◌≡◌, ℕ, true, false, pos, negsuc, refl}
use Rattle.p414_sem.specs.Slots.{Target}
use Rattle.p414_sem.specs.Operations.{Source, number, field, parameter, sum, difference}
use Rattle.lower_laws_base.specs.Context.{Words, At}
use Rattle.lower_laws_actions.specs.Mirror.{signed, term_exp}
use Rattle.lower_primitives.specs.Terms.{signed_exp}

pub signed_sum : (w : Words) (at : At) (K : ℕ) (t : Target) (a b : Source) → term_exp w at K t (signed (sum a b)) ≡ signed_exp w at t.width true a b
signed_sum w at K t a (number (pos k)) = refl
signed_sum w at K t a (number (negsuc k)) = refl
signed_sum w at K t a (field slot) = refl
signed_sum w at K t a (parameter j) = refl

pub signed_difference : (w : Words) (at : At) (K : ℕ) (t : Target) (a b : Source) → term_exp w at K t (signed (difference a b)) ≡ signed_exp w at t.width false a b
signed_difference w at K t a (number (pos k)) = refl
signed_difference w at K t a (number (negsuc k)) = refl
signed_difference w at K t a (field slot) = refl
signed_difference w at K t a (parameter j) = refl
