-- New names differ where names do; where blocks stand in `main`.
use Rattle.std.proofs.Common.{◌≡◌, ◌≢◌, false, List, [], ◌∷◌, ◌++◌, map, refl}
use Rattle.p416_syntax.specs.Names.{Name, has_name, repeats}
use Rattle.p416_syntax.specs.Scopes.{Known, called_of}
use Rattle.agreement_of_meanings.proofs.Names.{other_name, differ_names}
use Rattle.lower_laws_program.specs.Scopes.{IsClear}
use Rattle.lower_laws_rules.proofs.Lists.{neither}
use Rattle.lower_laws_rules.proofs.Found.{left_false, right_false, turned}

module _ (f : Name → Name) (differ : (a b : Name) → a ≢ b → f a ≢ f b) where
  map_lacks : (xs : List Name) (x : Name) → has_name xs x ≡ false → has_name (map f xs) (f x) ≡ false
  map_lacks [] x e = refl
  map_lacks (y ∷ xs) x e = neither _ _ (other_name (f x) (f y) (differ x y (differ_names x y (left_false _ _ e)))) (map_lacks xs x (right_false _ _ e))

  pub map_once : (xs : List Name) → repeats xs ≡ false → repeats (map f xs) ≡ false
  map_once [] e = refl
  map_once (x ∷ xs) e = neither _ _ (map_lacks xs x (left_false _ _ e)) (map_once xs (right_false _ _ e))

-- another name is among none of these
pub none_new : (f : Name → Name) (text : Name) → ((called : Name) → f called ≢ text) → (xs : List Name) → has_name (map f xs) text ≡ false
none_new f text other [] = refl
none_new f text other (x ∷ xs) = neither _ _ (turned (f x) text (other_name (f x) text (other x))) (none_new f text other xs)

-- what is clear of a name lacks it
pub clear_lacks : (near : List Known) (text : Name) → IsClear near text → has_name (map called_of near) text ≡ false
clear_lacks [] text clear = refl
clear_lacks (k ∷ near) text clear = neither _ _ (turned k.called text clear.0) (clear_lacks near text clear.1)

pub last_once : (xs ys : List Name) → repeats (xs ++ ys) ≡ false → repeats ys ≡ false
last_once [] ys e = e
last_once (x ∷ xs) ys e = last_once xs ys (right_false _ _ e)
