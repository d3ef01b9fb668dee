-- The name of a variable, put together from its parts, is the mirror's.
use Rattle.std.proofs.Common.{◌≡◌, ℕ, ◌^◌, ◌<◌, cond, List, [], ◌∷◌, ◌++◌, decimal, refl, sym, ap, ◌∙◌}
use Rattle.std.proofs.lemmas.Bool.{lt-ltb}
use Rattle.lower_laws_translated.specs.Translated.{far_name, near_name, spare_name}
use Rattle.lower_primitives.specs.declared.spares.Spare.{Spare}
use Rattle.lower_primitives.specs.declared.spares.Spare.TheVariants as spare
use Rattle.lower_primitives.specs.Spares.{spare_front, spare_number}

near_is : (K : ℕ) (which : Spare) → near_name K (spare_number which) ≡ spare_front which ++ decimal K ++ 95 ∷ []
near_is K spare.Got = refl
near_is K spare.Cut = refl
near_is K spare.Colour = refl

name_is : (K : ℕ) (which : Spare) → K < 2 ^ 32 → spare_name K (spare_number which) ≡ spare_front which ++ decimal K ++ 95 ∷ []
name_is K which lt =
    ap (λ b. cond b (near_name K (spare_number which)) (far_name K (spare_number which))) (lt-ltb K (2 ^ 32) lt) ∙ near_is K which

pub spare_is : (K : ℕ) (which : Spare) (text : List ℕ) → K < 2 ^ 32 → text ≡ spare_front which ++ decimal K ++ 95 ∷ [] → text ≡ spare_name K (spare_number which)
spare_is K which text lt is = is ∙ sym (name_is K which lt)
