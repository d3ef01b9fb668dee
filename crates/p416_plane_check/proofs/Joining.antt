-- Lists of names that are joined.
use Rattle.std.proofs.Common.{◌≡◌, ℕ, ◌+◌, ◌<◌, Bool, true, false, not, ◌||◌, cond, Some, None, List, [], ◌∷◌, ◌++◌, length, get_or, drop, map, flat_map, is_none, refl, sym, ap, ◌∙◌, append_assoc, add-one, drop-cons, ltb, arith}
use Rattle.std.specs.List.{list_any, position_or_len}
use Rattle.std.specs.Str.{bytes_eq}
use Rattle.std.proofs.lemmas.List.{map-append}
use Rattle.std.proofs.lemmas.Bool.{lt-ltb, ltb-true, false≢true}
use Rattle.name_numbers.specs.Names.{find_name}
use Rattle.p416_syntax.specs.declared.controls.Control16.{Control16}
use Rattle.p416_syntax.specs.declared.program.Decl16.{Decl16}
use Rattle.p416_syntax.specs.Names.{Name}
use Rattle.p416_syntax.specs.Scopes.{called_of, known_parameter}
use Rattle.p416_syntax.specs.Declarations.{known_local, control_names}
use Rattle.p416_syntax.specs.Tables.{table_plane, tables_of, is_not_among}

next_items : {X : Type 0} (xs : List X) (i : ℕ) (d : X) → i < length xs → drop i xs ≡ get_or xs i d ∷ drop (i + 1) xs
next_items xs i d h = rw (add-one, drop-cons xs i d h) refl

pub tables_now : (decls : List Decl16) (i : ℕ) (d : Decl16) (old new whole : List Name) → i < length decls → new ≡ old ++ map table_plane (tables_of (get_or decls i d)) → old ++ map table_plane (flat_map tables_of (drop i decls)) ≡ whole → new ++ map table_plane (flat_map tables_of (drop (i + 1) decls)) ≡ whole
tables_now decls i d old new whole h is same =
    ap (λ l. l ++ map table_plane (flat_map tables_of (drop (i + 1) decls))) is
    ∙ (append_assoc old (map table_plane (tables_of (get_or decls i d))) (map table_plane (flat_map tables_of (drop (i + 1) decls)))
    ∙ (ap (λ l. old ++ l) (sym (map-append table_plane (tables_of (get_or decls i d)) (flat_map tables_of (drop (i + 1) decls))))
    ∙ (sym (ap (λ xs. old ++ map table_plane (flat_map tables_of xs)) (next_items decls i d h)) ∙ same)))

pub control_joined : (c : Control16) (first whole : List Name) → first ≡ map called_of (map (known_parameter []) c.parameters) → whole ≡ first ++ map called_of (map (known_local []) c.locals) → whole ≡ map called_of (control_names [] c)
control_joined c first whole is all =
    all ∙ (ap (λ l. l ++ map called_of (map (known_local []) c.locals)) is ∙ sym (map-append called_of (map (known_parameter []) c.parameters) (map (known_local []) c.locals)))

-- a name has a number where it is among the names

none_where : (names : List Name) (name : Name) → (position_or_len (bytes_eq name) names < length names → list_any (bytes_eq name) names ≡ true) × (list_any (bytes_eq name) names ≡ true → position_or_len (bytes_eq name) names < length names)
none_where [] name = (λ lt. absurd (omega arith), λ h. cc)
none_where (x ∷ names) name = by_first (bytes_eq name x) (none_where names name) where
  by_first : (b : Bool) → (position_or_len (bytes_eq name) names < length names → list_any (bytes_eq name) names ≡ true) × (list_any (bytes_eq name) names ≡ true → position_or_len (bytes_eq name) names < length names)
      → (cond (not b) (1 + position_or_len (bytes_eq name) names) 0 < length (x ∷ names) → (b || list_any (bytes_eq name) names) ≡ true) × ((b || list_any (bytes_eq name) names) ≡ true → cond (not b) (1 + position_or_len (bytes_eq name) names) 0 < length (x ∷ names))
  by_first true more = (λ lt. refl, λ h. omega arith)
  by_first false more = (λ lt. more.0 (omega arith), λ h. let lt = more.1 h in omega arith)

pub found_is : (names : List Name) (name : Name) → is_none (find_name names name) ≡ is_not_among names name
found_is names name = by_both (ltb (position_or_len (bytes_eq name) names) (length names)) (list_any (bytes_eq name) names) refl refl where
  by_both : (a b : Bool) → ltb (position_or_len (bytes_eq name) names) (length names) ≡ a → list_any (bytes_eq name) names ≡ b → is_none (cond a (Some (position_or_len (bytes_eq name) names)) None) ≡ not b
  by_both true true e f = refl
  by_both true false e f = absurd (false≢true (sym f ∙ (none_where names name).0 (ltb-true _ _ e)))
  by_both false true e f = absurd (false≢true (sym e ∙ lt-ltb _ _ ((none_where names name).1 f)))
  by_both false false e f = refl
