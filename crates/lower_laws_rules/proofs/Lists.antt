-- Lists of uses, one behind another.
use Rattle.std.proofs.Common.{◌≡◌, Bool, true, false, ◌||◌, ◌&&◌, Option, List, [], ◌∷◌, ◌++◌, flat_map, filter_map, refl, sym, ap, ap₂, ◌∙◌}
use Rattle.std.specs.List.{list_any, cons_option, AllByRecursion}
use Rattle.std.proofs.lemmas.List.Folds.{list_any-append}
use Rattle.p416_syntax.specs.Names.{Name}
use Rattle.p416_syntax.specs.Kinds.{Kind}
use Rattle.p416_syntax.specs.Uses.{Use}
use Rattle.p416_syntax.specs.Applications.{called_action}
use Rattle.p416_syntax.specs.Totals.{held_kinds}
use Rattle.lower_laws_rules.specs.Keeping.{is_deep, Fine, AllFine, Fines, Keeps}

pub neither : (a b : Bool) → a ≡ false → b ≡ false → a || b ≡ false
neither a b p q = ap₂ (λ x y. x || y) p q

pub both_false : (a b : Bool) → b ≡ false → a && b ≡ false
both_false true b e = e
both_false false b e = refl

pub both_true : (a b : Bool) → a ≡ true → b ≡ true → a && b ≡ true
both_true a b p q = ap₂ (λ x y. x && y) p q

pub all_behind : (us vs : List Use) → AllFine us → AllFine vs → AllFine (us ++ vs)
all_behind [] vs a b = b
all_behind (u ∷ us) vs a b = (a.0, all_behind us vs a.1 b)

pub no_fines : Fines []
no_fines = record { each = tt }

pub fine_first : {u : Use} {us : List Use} → Fine u → Fines us → Fines (u ∷ us)
fine_first f rest = record { each = (f, rest.each) }

pub fine_behind : {us vs : List Use} → Fines us → Fines vs → Fines (us ++ vs)
fine_behind {us} {vs} a b = record { each = all_behind us vs a.each b.each }

pub held_behind : (us vs : List Use) → flat_map held_kinds (us ++ vs) ≡ flat_map held_kinds us ++ flat_map held_kinds vs
held_behind [] vs = refl
held_behind (u ∷ us) vs = ap (λ (ks : List Kind). held_kinds u ++ ks) (held_behind us vs) ∙ sym (regroup (held_kinds u) (flat_map held_kinds us) (flat_map held_kinds vs)) where
  regroup : (xs ys zs : List Kind) → (xs ++ ys) ++ zs ≡ xs ++ (ys ++ zs)
  regroup [] ys zs = refl
  regroup (x ∷ xs) ys zs = ap (λ (ks : List Kind). x ∷ ks) (regroup xs ys zs)

pub flat_behind : (us vs : List Use) → flat_map held_kinds us ≡ [] → flat_map held_kinds vs ≡ [] → flat_map held_kinds (us ++ vs) ≡ []
flat_behind us vs a b = held_behind us vs ∙ ap₂ (λ (xs ys : List Kind). xs ++ ys) a b

pub none_kept : Keeps [] []
none_kept = record { fine = tt; shallow = refl; holds = refl }

pub behind_kept : {us vs : List Use} {ks ls : List Kind} → Keeps us ks → Keeps vs ls → Keeps (us ++ vs) (ks ++ ls)
behind_kept {us} {vs} a b = record {
  fine = all_behind us vs a.fine b.fine;
  shallow = list_any-append is_deep us vs ∙ neither _ _ a.shallow b.shallow;
  holds = held_behind us vs ∙ ap₂ (λ (xs ys : List Kind). xs ++ ys) a.holds b.holds;
}

pub first_kept : {u : Use} {us : List Use} {ks : List Kind} → Fine u → is_deep u ≡ false → held_kinds u ≡ [] → Keeps us ks → Keeps (u ∷ us) ks
first_kept f shallow none rest = record {
  fine = (f, rest.fine);
  shallow = neither _ _ shallow rest.shallow;
  holds = ap₂ (λ (xs ys : List Kind). xs ++ ys) none rest.holds;
}

pub all_kept : {X : Type 0} (f : X → List Use) (P : X → Type 0) → ((x : X) → P x → Keeps (f x) []) → (xs : List X) → AllByRecursion P xs → Keeps (flat_map f xs) []
all_kept f P each [] all = none_kept
all_kept f P each (x ∷ xs) all = behind_kept (each x all.0) (all_kept f P each xs all.1)

-- so one rule is kept
pub rule_kept : (test : Use → Bool) → ((u : Use) → Fine u → test u ≡ false) → (us : List Use) → AllFine us → list_any test us ≡ false
rule_kept test each [] all = refl
rule_kept test each (u ∷ us) all = neither _ _ (each u all.0) (rule_kept test each us all.1)

pub calls_none : (us : List Use) → AllFine us → filter_map called_action us ≡ []
calls_none [] all = refl
calls_none (u ∷ us) all = ap₂ (λ (o : Option Name) (xs : List Name). cons_option o xs) all.0.calls (calls_none us all.1)
