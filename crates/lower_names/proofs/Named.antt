-- Names that are picked out of declarations, each once.
use Rattle.std.proofs.Common.{◌≡◌, Bool, true, false, ◌||◌, cond, List, [], ◌∷◌, ◌++◌, Option, Some, None, refl, sym, ap, ◌∙◌}
use Rattle.std.specs.List.{list_any}
use Rattle.std.specs.Str.{bytes_eq}
use Rattle.std.proofs.lemmas.Bool.{true≢false}
use Rattle.std.proofs.lemmas.List.Folds.{list_any-append}
use Rattle.std.proofs.lemmas.Slice.Eq.{bytes_eq-Decides}
use Rattle.p414_syntax.specs.declared.syntax.Decl.{Decl}
use Rattle.p414_syntax.specs.Names.{Name, has_name}
use Rattle.lower_names.specs.Picked.{with_name, with_some, picked_from}

pub or_false : (b : Bool) → (b || false) ≡ b
or_false true = refl
or_false false = refl

pub or_assoc : (a b c : Bool) → ((a || b) || c) ≡ (a || (b || c))
or_assoc true b c = refl
or_assoc false b c = refl

pub bytes_turned : (a b : Name) → bytes_eq a b ≡ bytes_eq b a
bytes_turned a b = by (bytes_eq a b) (bytes_eq b a) refl refl where
  by : (p q : Bool) → bytes_eq a b ≡ p → bytes_eq b a ≡ q → p ≡ q
  by true true e f = refl
  by false false e f = refl
  by true false e f = absurd (true≢false (sym ((bytes_eq-Decides b a).1 (sym ((bytes_eq-Decides a b).0 e))) ∙ f))
  by false true e f = absurd (true≢false (sym ((bytes_eq-Decides a b).1 (sym ((bytes_eq-Decides b a).0 f))) ∙ e))

-- names, each once

pub with_has : (names : List Name) (x n : Name) → has_name (with_name names x) n ≡ (has_name names n || bytes_eq n x)
with_has names x n = by (has_name names x) refl where
  known : (c : Bool) → bytes_eq n x ≡ c → has_name names x ≡ true → has_name names n ≡ (has_name names n || c)
  known true e h =
      let there : has_name names n ≡ true = ap (has_name names) ((bytes_eq-Decides n x).0 e) ∙ h in
      rw there refl
  known false e h = sym (or_false (has_name names n))

  by : (b : Bool) → has_name names x ≡ b → has_name (cond b names (names ++ x ∷ [])) n ≡ (has_name names n || bytes_eq n x)
  by true e = known (bytes_eq n x) refl e
  by false e = list_any-append (bytes_eq n) names (x ∷ []) ∙ ap (λ b. has_name names n || b) (or_false (bytes_eq n x))

-- names of declarations

-- a declaration has this name
abbrev pub is_name : Name → Option Name → Bool
is_name n None = false
is_name n (Some t) = bytes_eq n t

abbrev pub names_it : (Decl → Option Name) → Name → Decl → Bool
names_it pick n d = is_name n (pick d)

some_has : (found : List Name) (o : Option Name) (n : Name) → has_name (with_some found o) n ≡ (has_name found n || is_name n o)
some_has found None n = sym (or_false (has_name found n))
some_has found (Some t) n = with_has found t n

pub picked_have : (pick : Decl → Option Name) (found : List Name) (ds : List Decl) (n : Name) → has_name (picked_from pick found ds) n ≡ (has_name found n || list_any (names_it pick n) ds)
picked_have pick found [] n = sym (or_false (has_name found n))
picked_have pick found (d ∷ ds) n =
    picked_have pick (with_some found (pick d)) ds n
    ∙ ap (λ b. b || list_any (names_it pick n) ds) (some_has found (pick d) n)
    ∙ or_assoc (has_name found n) (names_it pick n d) (list_any (names_it pick n) ds)
