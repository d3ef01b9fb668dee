-- Keysets, part by part with their keys.
use Rattle.std.proofs.Common.{◌≡◌, ℕ, zero, suc, ◌+◌, ◌≤◌, Bool, true, false, not, ◌||◌, nat_eq, Option, Some, None, List, [], ◌∷◌, ◌++◌, length, map, flat_map, replicate, zip, get_or, slice_get, refl, sym, ap, ◌∙◌, arith}
use Rattle.std.specs.List.{list_any}
use Rattle.std.proofs.lemmas.Bool.Decides.{nat_tests}
use Rattle.std.proofs.lemmas.List.{append-nil}
use Rattle.p416_syntax.specs.declared.parsers.Simple.{Simple}
use Rattle.p416_syntax.specs.Kinds.{Kind, unknown}
use Rattle.p416_names.specs.declared.kind.Kind.{Kind as CodeKind}
use Rattle.p416_names.specs.SeenKinds.{seen_kind}
use Rattle.p416_syntax.specs.Scopes.{Scope}
use Rattle.p416_syntax.specs.Types.{compares_other, is_misfit}
use Rattle.p416_syntax.specs.Declarations.{compared_uses, simple_uses, with_keys}
use Rattle.p416_expression_uses.specs.Found.{Found, after_all}
use Rattle.p416_uses.specs.Parts.{key_at, paired}

-- the key with a number

abbrev told : Option CodeKind → Kind
told (Some k) = seen_kind k
told None = unknown

pub key_there : (ks : List CodeKind) (n : ℕ) (k : CodeKind) → slice_get ks n ≡ Some k → seen_kind k ≡ key_at (map seen_kind ks) n
key_there [] n k is = absurd (cc is)
key_there (x ∷ ks) zero k is = sym (ap told is)
key_there (x ∷ ks) (suc n) k is = key_there ks n k is

pub key_past : (ks : List CodeKind) (n : ℕ) → slice_get ks n ≡ None → unknown ≡ key_at (map seen_kind ks) n
key_past [] n is = refl
key_past (x ∷ ks) zero is = absurd (cc is)
key_past (x ∷ ks) (suc n) is = key_past ks n is

-- without the first key

shifted : (k : Kind) (ks : List Kind) (n : ℕ) (ps : List Simple) → paired (k ∷ ks) (suc n) ps ≡ paired ks n ps
shifted k ks n [] = refl
shifted k ks n (p ∷ ps) =
    let next : suc n + 1 ≡ suc (n + 1) = omega arith in
    ap (λ rest. (key_at ks n, p) ∷ rest) (ap (λ m. paired (k ∷ ks) m ps) next ∙ shifted k ks (n + 1) ps)

behind_first : (k : Kind) (ks : List Kind) (ps : List Simple) → paired (k ∷ ks) (0 + 1) ps ≡ paired ks 0 ps
behind_first k ks ps = let one : 0 + 1 ≡ suc 0 = omega arith in ap (λ m. paired (k ∷ ks) m ps) one ∙ shifted k ks 0 ps

no_key : (n : ℕ) (ps : List Simple) → paired [] (n + 1) ps ≡ paired [] n ps
no_key n [] = refl
no_key n (p ∷ ps) = ap (λ rest. (unknown, p) ∷ rest) (no_key (n + 1) ps)

-- as many keys as parts

abbrev none : List Simple
none = []

no_parts : (ks : List Kind) → zip ks none ≡ []
no_parts [] = refl
no_parts (k ∷ ks) = refl

zipped : (ks : List Kind) (ps : List Simple) → length ks ≡ length ps → zip ks ps ≡ paired ks 0 ps
zipped ks [] same = no_parts ks
zipped [] (p ∷ ps) same = absurd (cc same)
zipped (k ∷ ks) (p ∷ ps) same = ap (λ rest. (k, p) ∷ rest) (zipped ks ps (omega (arith, same)) ∙ sym (behind_first k ks ps))

filled : (ks : List Kind) (m : ℕ) (ps : List Simple) → length ps ≤ m → zip (ks ++ replicate m unknown) ps ≡ paired ks 0 ps
filled ks m [] within = no_parts (ks ++ replicate m unknown)
filled [] zero (p ∷ ps) within = let never : ⊥ = omega arith in absurd never
filled [] (suc m) (p ∷ ps) within = ap (λ rest. (unknown, p) ∷ rest) (filled [] m ps (omega arith) ∙ sym (no_key 0 ps))
filled (k ∷ ks) m (p ∷ ps) within = ap (λ rest. (k, p) ∷ rest) (filled ks m ps (omega arith) ∙ sym (behind_first k ks ps))

with_all_keys : (ks : List Kind) (ps : List Simple) → paired ks 0 ps ≡ with_keys ks ps
with_all_keys ks ps = sym (filled ks (length ps) ps (omega arith))

-- whether a keyset fits the keys

pub misfit_told : (ks : List Kind) (ps : List Simple) → (not (nat_eq (length ks) (length ps)) || list_any compares_other (paired ks 0 ps)) ≡ is_misfit ks ps
misfit_told ks ps = by_case (nat_eq (length ks) (length ps)) refl
  where
    by_case : (b : Bool) → nat_eq (length ks) (length ps) ≡ b → (not b || list_any compares_other (paired ks 0 ps)) ≡ (not b || list_any compares_other (zip ks ps))
    by_case true h = let same : length ks ≡ length ps = grind (arith, nat_tests) in ap (list_any compares_other) (sym (zipped ks ps same))
    by_case false h = refl

pub misfit_from : (ks : List CodeKind) (ps : List Simple) (count other found : Bool) → count ≡ not (nat_eq (length ks) (length ps))
    → other ≡ list_any compares_other (paired (map seen_kind ks) 0 ps) → found ≡ (count || other) → found ≡ is_misfit (map seen_kind ks) ps
misfit_from ks ps count other found of_count of_other is =
    is
    ∙ (ap (λ b. b || other) of_count
    ∙ (ap (λ b. not (nat_eq (length ks) (length ps)) || b) of_other
    ∙ (ap (λ n. not (nat_eq n (length ps)) || list_any compares_other (paired (map seen_kind ks) 0 ps)) (sym (as_many ks)) ∙ misfit_told (map seen_kind ks) ps)))
  where
    as_many : (ks : List CodeKind) → length (map seen_kind ks) ≡ length ks
    as_many [] = refl
    as_many (k ∷ ks) = ap suc (as_many ks)

pub one_misfit_told : (ks : List Kind) (p : Simple) → (not (nat_eq (length ks) 1) || compares_other (key_at ks 0, p)) ≡ is_misfit ks (p ∷ [])
one_misfit_told ks p = ap (λ b. not (nat_eq (length ks) 1) || b) (sym (or_false (compares_other (key_at ks 0, p)))) ∙ misfit_told ks (p ∷ [])
  where
    or_false : (b : Bool) → (b || false) ≡ b
    or_false true = refl
    or_false false = refl

-- the uses of a keyset

pub parts_told : (f g : Found) (s : Scope) (ks : List Kind) (ps : List Simple) → g ≡ after_all f (flat_map (compared_uses s) (paired ks 0 ps)) → g ≡ after_all f (flat_map (compared_uses s) (with_keys ks ps))
parts_told f g s ks ps is = is ∙ ap (λ xs. after_all f (flat_map (compared_uses s) xs)) (with_all_keys ks ps)

pub part_told : (f g : Found) (s : Scope) (ks : List Kind) (k : Kind) (p : Simple) → k ≡ key_at ks 0 → g ≡ after_all f (simple_uses s k p) → g ≡ after_all f (flat_map (compared_uses s) (with_keys ks (p ∷ [])))
part_told f g s ks k p of_key is =
    is
    ∙ (ap (λ j. after_all f (simple_uses s j p)) of_key
    ∙ (ap (after_all f) (sym (append-nil (simple_uses s (key_at ks 0) p))) ∙ ap (λ xs. after_all f (flat_map (compared_uses s) xs)) (with_all_keys ks (p ∷ []))))
