-- Built-in names that a block's own names don't hide.
use Rattle.std.proofs.Common.{◌≡◌, Bool, true, false, not, ◌&&◌, List, [], ◌∷◌, refl}
use Rattle.std.specs.List.{AllByRecursion}
use Rattle.std.specs.Str.{bytes_eq}
use Rattle.p416_syntax.specs.Names.{Name}

abbrev pub AreNot : List Name → Name → Type 0
AreNot [] text = Unit {0}
AreNot (first ∷ names) text = (bytes_eq first text ≡ false) × AreNot names text

abbrev pub are_not : List Name → Name → Bool
are_not [] text = true
are_not (first ∷ names) text = not (bytes_eq first text) && are_not names text

abbrev pub all_are_not : List Name → List Name → Bool
all_are_not names [] = true
all_are_not names (text ∷ all) = are_not names text && all_are_not names all

both : (a b : Bool) → a && b ≡ true → (a ≡ true) × (b ≡ true)
both true b is = (refl, is)
both false b is = absurd (cc is)

is_false : (b : Bool) → not b ≡ true → b ≡ false
is_false true is = absurd (cc is)
is_false false is = refl

are_not_so : (names : List Name) (text : Name) → are_not names text ≡ true → AreNot names text
are_not_so [] text is = tt
are_not_so (first ∷ names) text is =
    let so = both (not (bytes_eq first text)) (are_not names text) is in (is_false (bytes_eq first text) so.0, are_not_so names text so.1)

pub all_not : (names all : List Name) → all_are_not names all ≡ true → AllByRecursion (AreNot names) all
all_not names [] is = tt
all_not names (text ∷ all) is =
    let so = both (are_not names text) (all_are_not names all) is in (are_not_so names text so.0, all_not names all so.1)

-- what follows of each from two facts
pub all_both : (P Q R : Name → Type 0) → ((text : Name) → P text → Q text → R text) → (all : List Name) → AllByRecursion P all → AllByRecursion Q all → AllByRecursion R all
all_both P Q R gives [] p q = tt
all_both P Q R gives (text ∷ all) p q = (gives text p.0 q.0, all_both P Q R gives all p.1 q.1)

pub all_of : (P R : Name → Type 0) → ((text : Name) → P text → R text) → (all : List Name) → AllByRecursion P all → AllByRecursion R all
all_of P R gives [] p = tt
all_of P R gives (text ∷ all) p = (gives text p.0, all_of P R gives all p.1)
