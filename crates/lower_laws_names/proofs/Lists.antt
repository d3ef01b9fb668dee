-- New names in a list don't repeat.
use Rattle.std.proofs.Common.{◌≡◌, ◌≢◌, ℕ, ◌+◌, ◌<◌, ◌≤◌, ◌^◌, Bool, true, false, ◌||◌, List, [], ◌∷◌, ◌++◌, length, map, refl, sym, ap, ◌∙◌, arith}
use Rattle.std.specs.Str.{bytes_eq}
use Rattle.std.proofs.lemmas.Bool.{true≢false}
use Rattle.std.proofs.lemmas.List.Folds.{list_any-append}
use Rattle.std.proofs.lemmas.Slice.Eq.{bytes_eq-Decides}
use Rattle.p414_syntax.specs.declared.syntax.Decl.{Decl}
use Rattle.p414_syntax.specs.Names.{Name, has_name, repeats_behind, repeats}
use Rattle.p416_syntax.specs.Names.{repeats as repeats16}
use Rattle.lower_laws_names.specs.Made.{Thing, called}
use Rattle.lower_laws_names.specs.NewNames.{numbered_from, numbered, field_thing, parameter_thing}
use Rattle.lower_laws_names.specs.Reaches.{IsProper, AreProper, IsApartFrom, AreAllApart}
use Rattle.lower_laws_names.proofs.Things.{apart_differ}
use Rattle.lower_laws_names.proofs.Sorts.{can_parts, outside_parts}

-- things that are apart have names that don't repeat

unequal_by : (b : Bool) (n m : Name) → bytes_eq n m ≡ b → n ≢ m → bytes_eq n m ≡ false
unequal_by false n m e differ = e
unequal_by true n m e differ = absurd (differ ((bytes_eq-Decides n m).0 e))

pub unequal : (n m : Name) → n ≢ m → bytes_eq n m ≡ false
unequal n m differ = unequal_by (bytes_eq n m) n m refl differ

none_called : (x : Thing) (ys : List Thing) → IsProper x → AreProper ys → IsApartFrom x ys → has_name (map called ys) (called x) ≡ false
none_called x [] p ps a = refl
none_called x (y ∷ ys) p ps a =
    rw (unequal (called x) (called y) (apart_differ x y p ps.0 a.0), none_called x ys p ps.1 a.1) refl

pub called_once : (xs : List Thing) → AreProper xs → AreAllApart xs → repeats16 (map called xs) ≡ false
called_once [] p a = refl
called_once (x ∷ xs) p a = rw (none_called x xs p.0 p.1 a.0, called_once xs p.1 a.1) refl

-- names that don't repeat in P4_14

pub or_parts : (a b : Bool) → (a || b) ≡ false → (a ≡ false) × (b ≡ false)
or_parts true b e = cc
or_parts false b e = (refl, e)

pub same_has : (names : List Name) (n m : Name) → n ≡ m → has_name names n ≡ has_name names m
same_has names n m e = ap (has_name names) e

pub not_again : (before names : List Name) (m : Name) → has_name before m ≡ true → repeats_behind before names ≡ false → has_name names m ≡ false
not_again before [] m has none = refl
not_again before (n ∷ names) m has none =
    let both = or_parts (has_name before n) (repeats_behind (before ++ n ∷ []) names) none in
    let other : bytes_eq m n ≡ false = unequal m n (λ same. true≢false (sym has ∙ (same_has before m n same ∙ both.0))) in
    let more : has_name (before ++ n ∷ []) m ≡ true = list_any-append (bytes_eq m) before (n ∷ []) ∙ (rw has refl) in
    rw (other, not_again (before ++ n ∷ []) names m more both.1) refl

pub itself : (before : List Name) (n : Name) → has_name (before ++ n ∷ []) n ≡ true
itself before n = list_any-append (bytes_eq n) before (n ∷ []) ∙ (rw ((bytes_eq-Decides n n).1 refl) (or_true (has_name before n)))
  where
    or_true : (b : Bool) → (b || (true || false)) ≡ true
    or_true true = refl
    or_true false = refl

-- things by number

pub record IsNumbering (of : ℕ → Name → Thing) : Type 0 where
  pub number : (k : ℕ) (n : Name) → (of k n).number ≡ k
  pub name : (k : ℕ) (n : Name) → (of k n).name ≡ n

from_numbered : (of : ℕ → Name → Thing) (is : IsNumbering of) (j : ℕ) (n : Name) (k : ℕ) (names : List Name) → j < k → has_name names n ≡ false
    → IsApartFrom (of j n) (numbered_from of k names)
from_numbered of is j n k [] lt none = tt
from_numbered of is j n k (m ∷ names) lt none =
    let both = or_parts (bytes_eq n m) (has_name names n) none in (
      record {
        tag = λ (same : ((of j n).letter ≡ (of k m).letter) × ((of j n).number ≡ (of k m).number)). omega (arith, same.1, is.number j n, is.number k m);
        names = λ p q same. true≢false (sym ((bytes_eq-Decides n m).1 (sym (is.name j n) ∙ (same ∙ is.name k m))) ∙ both.0);
      },
      from_numbered of is j n (k + 1) names (omega arith) both.1,
    )

numbered_behind : (of : ℕ → Name → Thing) (is : IsNumbering of) (before : List Name) (k : ℕ) (names : List Name) → repeats_behind before names ≡ false
    → AreAllApart (numbered_from of k names)
numbered_behind of is before k [] none = tt
numbered_behind of is before k (n ∷ names) none =
    let both = or_parts (has_name before n) (repeats_behind (before ++ n ∷ []) names) none in
    (from_numbered of is k n (k + 1) names (omega arith) (not_again (before ++ n ∷ []) names n (itself before n) both.1), numbered_behind of is (before ++ n ∷ []) (k + 1) names both.1)

pub numbered_apart : (of : ℕ → Name → Thing) → IsNumbering of → (names : List Name) → repeats names ≡ false → AreAllApart (numbered of names)
numbered_apart of is names once = numbered_behind of is [] 0 names once

proper_from : (of : ℕ → Name → Thing) → ((k : ℕ) (n : Name) → k < 2 ^ 32 → IsProper (of k n)) → (k : ℕ) (names : List Name) → k + length names ≤ 2 ^ 32
    → AreProper (numbered_from of k names)
proper_from of each k [] few = tt
proper_from of each k (n ∷ names) few = (each k n (omega arith), proper_from of each (k + 1) names (omega arith))

pub numbered_proper : (of : ℕ → Name → Thing) → ((k : ℕ) (n : Name) → k < 2 ^ 32 → IsProper (of k n)) → (names : List Name) → length names ≤ 2 ^ 32
    → AreProper (numbered of names)
numbered_proper of each names few = proper_from of each 0 names (omega arith)

-- fields

pub field_proper : (k : ℕ) (n : Name) → k < 2 ^ 32 → IsProper (field_thing k n)
field_proper k n small = record {
  letter = refl;
  word = refl;
  small = small;
  short = λ e. (can_parts n e).short;
  plain = λ e. (can_parts n e).plain;
  unreserved = λ e. (can_parts n e).unreserved;
}

pub fields_once : (names : List Name) → repeats names ≡ false → length names ≤ 2 ^ 32 → repeats16 (map called (numbered field_thing names)) ≡ false
fields_once names once few =
    called_once (numbered field_thing names) (numbered_proper field_thing field_proper names few) (numbered_apart field_thing (record { number = λ k n. refl; name = λ k n. refl }) names once)

-- parameters

pub parameter_proper : (ds : List Decl) (k : ℕ) (n : Name) → k < 2 ^ 32 → IsProper (parameter_thing ds k n)
parameter_proper ds k n small = record {
  letter = refl;
  word = refl;
  small = small;
  short = λ e. (can_parts n (outside_parts n _ e).can).short;
  plain = λ e. (can_parts n (outside_parts n _ e).can).plain;
  unreserved = λ e. (can_parts n (outside_parts n _ e).can).unreserved;
}

pub parameters_once : (ds : List Decl) (names : List Name) → repeats names ≡ false → length names ≤ 2 ^ 32 → repeats16 (map called (numbered (parameter_thing ds) names)) ≡ false
parameters_once ds names once few =
    called_once (numbered (parameter_thing ds) names) (numbered_proper (parameter_thing ds) (parameter_proper ds) names few) (numbered_apart (parameter_thing ds) (record { number = λ k n. refl; name = λ k n. refl }) names once)
