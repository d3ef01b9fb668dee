-- What is declared under a name that no other declaration of its sort has is found by that name (C1).
use Rattle.std.proofs.Common.{◌≡◌, ◌≢◌, inl, inr, ℕ, suc, Bool, true, false, ◌||◌, cond, Option, Some, None, List, [], ◌∷◌, ◌++◌, refl, sym, ap, ◌∙◌}
use Rattle.std.specs.Prelude.{filter, filter_map, is_some, slice_get, option_and_then, option_map}
use Rattle.std.specs.List.{cons_option}
use Rattle.std.specs.Str.{bytes_eq}
use Rattle.std.proofs.lemmas.Bool.{true≢false}
use Rattle.std.proofs.lemmas.Slice.Eq.{bytes_eq-Decides}
use Rattle.p414_syntax.specs.declared.syntax.Decl.{Decl}
use Rattle.p414_syntax.specs.declared.syntax.Sort.{Sort}
use Rattle.p414_syntax.specs.Names.{Name, name_in, names_in, declaration_of, is_declared, find_name, has_name, repeats_behind}
use Rattle.lower_laws_names.proofs.Lists.{not_again, itself}
use Rattle.lower_laws_names.proofs.OneSort.{sort_once}
use Rattle.lower_laws_names.proofs.Objects.{next_place}
use Rattle.lower_laws_states.specs.Expansions.{Has}
use Rattle.lower_laws_states.specs.Laws.{BreaksNo}
use Rattle.lower_laws_states.proofs.Members.{has_picked, none_passes, neither}
use Rattle.lower_laws_states.proofs.Rules.{none_twice}
use Rattle.lower_laws_states.proofs.Filling.{has_found}
use Rattle.lower_laws_states.proofs.Declared.{declared_has}

module _ {X : Type 0} (f : X → Option Name) where
  abbrev found_by : List X → Name → Option X
  found_by xs n = option_and_then (slice_get (filter (λ x. is_some (f x)) xs)) (find_name (filter_map f xs) n)

  -- one that comes first
  step : (x : X) (rest : List X) (m n : Name) (ns : List Name) → option_and_then (slice_get (x ∷ rest)) (find_name (m ∷ ns) n) ≡ cond (bytes_eq n m) (Some x) (option_and_then (slice_get rest) (find_name ns n))
  step x rest m n ns = ap (option_and_then (slice_get (x ∷ rest))) (next_place [] (bytes_eq n) m ns) ∙ by (bytes_eq n m) (find_name ns n) where
    by : (b : Bool) (o : Option ℕ) → option_and_then (slice_get (x ∷ rest)) (cond b (Some 0) (option_map (λ (k : ℕ). suc k) o)) ≡ cond b (Some x) (option_and_then (slice_get rest) o)
    by true o = refl
    by false None = refl
    by false (Some k) = refl

  pub first_found : (before : List Name) (xs : List X) (x : X) (n : Name) → Has xs x → f x ≡ Some n → repeats_behind before (filter_map f xs) ≡ false → found_by xs n ≡ Some x
  first_found before [] x n h e once = absurd h
  first_found before (y ∷ xs) x n h e once = by (f y) refl h (λ more there none. first_found more xs x n there e none) once where
    by : (o : Option Name) → f y ≡ o → Has (y ∷ xs) x → ((more : List Name) → Has xs x → repeats_behind more (filter_map f xs) ≡ false → found_by xs n ≡ Some x) → repeats_behind before (cons_option o (filter_map f xs)) ≡ false → option_and_then (slice_get (cond (is_some o) (y ∷ filter (λ x. is_some (f x)) xs) (filter (λ x. is_some (f x)) xs))) (find_name (cons_option o (filter_map f xs)) n) ≡ Some x
    by None is (inl same) rest once = absurd (none_some (sym is ∙ ap f same ∙ e)) where
      none_some : None ≡ Some n → ⊥
      none_some g = absurd (cc g)
    by None is (inr h) rest once = rest before h once
    by (Some m) is (inl same) rest once =
        let named : m ≡ n = cc (is, same, e) in
        step y (filter (λ x. is_some (f x)) xs) m n (filter_map f xs)
        ∙ ap (λ (b : Bool). cond b (Some y) (found_by xs n)) ((bytes_eq-Decides n m).1 (sym named)) ∙ ap Some same
    by (Some m) is (inr h) rest once =
        let both = neither (has_name before m) (repeats_behind (before ++ m ∷ []) (filter_map f xs)) once in
        let other : bytes_eq m n ≡ false = none_passes (bytes_eq m) (filter_map f xs) n (not_again (before ++ m ∷ []) (filter_map f xs) m (itself before m) both.1) (has_picked f xs x n h e) in
        step y (filter (λ x. is_some (f x)) xs) m n (filter_map f xs)
        ∙ ap (λ (b : Bool). cond b (Some y) (found_by xs n)) (turned other) ∙ rest (before ++ m ∷ []) h both.1
      where
        turned : bytes_eq m n ≡ false → bytes_eq n m ≡ false
        turned apart = of (bytes_eq n m) refl where
          of : (b : Bool) → bytes_eq n m ≡ b → b ≡ false
          of false g = refl
          of true g = absurd (true≢false (sym ((bytes_eq-Decides m n).1 (sym ((bytes_eq-Decides n m).0 g))) ∙ apart))

  -- and what is found has the name
  pub found_back : (xs : List X) (x : X) (n : Name) → found_by xs n ≡ Some x → Has xs x × (f x ≡ Some n)
  found_back [] x n e = absurd (cc e)
  found_back (y ∷ xs) x n e = by (f y) refl (found_back xs x n) e where
    by : (o : Option Name) → f y ≡ o → (found_by xs n ≡ Some x → Has xs x × (f x ≡ Some n)) → option_and_then (slice_get (cond (is_some o) (y ∷ filter (λ x. is_some (f x)) xs) (filter (λ x. is_some (f x)) xs))) (find_name (cons_option o (filter_map f xs)) n) ≡ Some x → Has (y ∷ xs) x × (f x ≡ Some n)
    by None is rest e = let r = rest e in (inr r.0, r.1)
    by (Some m) is rest e = of (bytes_eq n m) refl (sym (step y (filter (λ x. is_some (f x)) xs) m n (filter_map f xs)) ∙ e) where
      of : (b : Bool) → bytes_eq n m ≡ b → cond b (Some y) (found_by xs n) ≡ Some x → Has (y ∷ xs) x × (f x ≡ Some n)
      of true same g = let it : y ≡ x = cc g in (inl it, ap f (sym it) ∙ is ∙ ap Some (sym ((bytes_eq-Decides n m).0 same)))
      of false same g = let r = rest g in (inr r.0, r.1)

-- C1
pub declaration_found : (ds : List Decl) → BreaksNo ds → (s : Sort) (d : Decl) (n : Name) → Has ds d → name_in s d ≡ Some n → declaration_of s ds n ≡ Some d
declaration_found ds none s d n h e = first_found (name_in s) [] ds d n h e (sort_once ds (none_twice ds none) s)

pub declaration_named : (ds : List Decl) (s : Sort) (d : Decl) (n : Name) → declaration_of s ds n ≡ Some d → Has ds d × (name_in s d ≡ Some n)
declaration_named ds s d n e = found_back (name_in s) ds d n e

-- a name that is declared, in both words
pub named_declared : (ds : List Decl) (s : Sort) (d : Decl) (n : Name) → Has ds d → name_in s d ≡ Some n → is_declared s ds n ≡ true
named_declared ds s d n h e = ap is_some (has_found (names_in s ds) n (has_picked (name_in s) ds d n h e)).1

pub declared_named : (ds : List Decl) (s : Sort) (n : Name) → is_declared s ds n ≡ true → has_name (names_in s ds) n ≡ true
declared_named ds s n there = by (has_name (names_in s ds) n) refl where
  by : (b : Bool) → has_name (names_in s ds) n ≡ b → b ≡ true
  by true e = refl
  by false e = absurd (true≢false (sym ((bytes_eq-Decides n n).1 refl) ∙ none_passes (bytes_eq n) (names_in s ds) n e (declared_has ds s n there)))
