-- The turn of the loop over declarations.
use Rattle.std.proofs.Common.{◌≡◌, ℕ, ◌+◌, ◌<◌, ◌∙◌, Bool, true, false, refl, sym, ap, List, [], ◌∷◌, ◌++◌, drop, get_or, length, map, cond, append_assoc, drop-cons, add-one}
use Rattle.p414_syntax.specs.declared.syntax.Decl.{Decl}
use Rattle.p414_syntax.specs.declared.syntax.Sort.TheVariants as sort
use Rattle.p414_syntax.specs.Names.{is_in, declared_in}
use Rattle.p414_layout.specs.declared.shape.Shape.{Shape}
use Rattle.p414_layout.specs.Shapes.{shape_in}

next_items : (xs : List Decl) (i : ℕ) (d : Decl) → i < length xs → drop i xs ≡ get_or xs i d ∷ drop (i + 1) xs
next_items xs i d h = rw (add-one, drop-cons xs i d h) refl

-- the shapes of one declaration and of those behind it
one_more : (ds : List Decl) (b : Bool) (d : Decl) (rest : List Decl) → map (shape_in ds) (cond b (d ∷ rest) rest) ≡ map (shape_in ds) (cond b (d ∷ []) []) ++ map (shape_in ds) rest
one_more ds true d rest = refl
one_more ds false d rest = refl

pub shape_now : (ds decls : List Decl) (i : ℕ) (d : Decl) (old new whole : List Shape) → i < length decls → new ≡ old ++ map (shape_in ds) (declared_in sort.Instance (get_or decls i d ∷ [])) → old ++ map (shape_in ds) (declared_in sort.Instance (drop i decls)) ≡ whole → new ++ map (shape_in ds) (declared_in sort.Instance (drop (i + 1) decls)) ≡ whole
shape_now ds decls i d old new whole h is same =
    ap (λ (l : List Shape). l ++ map (shape_in ds) (declared_in sort.Instance (drop (i + 1) decls))) is
    ∙ (append_assoc old (map (shape_in ds) (declared_in sort.Instance (get_or decls i d ∷ []))) (map (shape_in ds) (declared_in sort.Instance (drop (i + 1) decls)))
    ∙ (ap (λ (l : List Shape). old ++ l) (sym (one_more ds (is_in sort.Instance (get_or decls i d)) (get_or decls i d) (declared_in sort.Instance (drop (i + 1) decls))))
    ∙ (sym (ap (λ (xs : List Decl). old ++ map (shape_in ds) (declared_in sort.Instance xs)) (next_items decls i d h)) ∙ same)))
