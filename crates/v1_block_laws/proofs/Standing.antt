-- Variables one behind another.
use Rattle.std.proofs.Common.{◌≡◌, ℕ, suc, ◌+◌, List, [], ◌∷◌, ◌++◌, length, subst, arith, append_assoc, length-append}
use Rattle.std.proofs.Math.Seq.{get_or-append_seam}
use Rattle.p416_syntax.specs.Kinds.{Kind, unknown}
use Rattle.v1_block_laws.specs.Standing.{IsOfKind, AreOfKinds}

-- these in the middle of all
pub in_the_middle : (front kinds back : List Kind) → AreOfKinds (front ++ (kinds ++ back)) (length front) kinds
in_the_middle front [] back = tt
in_the_middle front (k ∷ kinds) back =
    let rest : AreOfKinds ((front ++ k ∷ []) ++ (kinds ++ back)) (length (front ++ k ∷ [])) kinds = in_the_middle (front ++ k ∷ []) kinds back in
    let longer : length (front ++ k ∷ []) ≡ suc (length front) = omega (arith, length-append front (k ∷ [])) in
    let first : IsOfKind (front ++ (k ∷ (kinds ++ back))) (length front) k = record {
      within = omega (arith, length-append front (k ∷ (kinds ++ back)));
      kind = get_or-append_seam front k (kinds ++ back) unknown;
    } in (
      first,
      subst (λ (n : ℕ). AreOfKinds (front ++ (k ∷ (kinds ++ back))) n kinds) longer
          (subst (λ (all : List Kind). AreOfKinds all (length (front ++ k ∷ [])) kinds) (append_assoc front (k ∷ []) (kinds ++ back)) rest),
    )

pub apart : (all : List Kind) (n : ℕ) (front back : List Kind) → AreOfKinds all n (front ++ back) → AreOfKinds all n front × AreOfKinds all (n + length front) back
apart all n [] back are = let none : n ≡ n + 0 = omega arith in (tt, subst (λ (m : ℕ). AreOfKinds all m back) none are)
apart all n (k ∷ front) back are =
    let rest : AreOfKinds all (suc n) front × AreOfKinds all (suc n + length front) back = apart all (suc n) front back are.1 in
    let later : suc n + length front ≡ n + suc (length front) = omega arith in
    let own : AreOfKinds all n (k ∷ front) = (are.0, rest.0) in
    (own, subst (λ (m : ℕ). AreOfKinds all m back) later rest.1)
