-- Turns of the loop that gathers calculations.
use Rattle.std.proofs.Common.{◌≡◌, ℕ, ◌+◌, ◌<◌, List, [], ◌∷◌, ◌++◌, length, get_or, drop, option_to_list, Option, Some, None, refl, sym, ap, ◌∙◌, append_assoc, drop-cons, add-one}
use Rattle.std.specs.Prelude.{filter_map}
use Rattle.std.specs.List.{cons_option}
use Rattle.p414_syntax.specs.declared.syntax.Decl.{Decl}
use Rattle.p414_syntax.specs.Names.{Name}

next_items : {X : Type 0} (xs : List X) (i : ℕ) (d : X) → i < length xs → drop i xs ≡ get_or xs i d ∷ drop (i + 1) xs
next_items xs i d h = rw (add-one, drop-cons xs i d h) refl

named_by : (o : Option Name) (old rest : List Name) → (old ++ option_to_list o) ++ rest ≡ old ++ cons_option o rest
named_by None old rest = append_assoc old [] rest
named_by (Some name) old rest = append_assoc old (name ∷ []) rest

pub name_now : (pick : Decl → Option Name) (decls : List Decl) (i : ℕ) (d : Decl) (old new whole : List Name) → i < length decls → new ≡ old ++ option_to_list (pick (get_or decls i d)) → old ++ filter_map pick (drop i decls) ≡ whole → new ++ filter_map pick (drop (i + 1) decls) ≡ whole
name_now pick decls i d old new whole lt is same =
    ap (λ l. l ++ filter_map pick (drop (i + 1) decls)) is
    ∙ (named_by (pick (get_or decls i d)) old (filter_map pick (drop (i + 1) decls))
    ∙ (sym (ap (λ l. old ++ filter_map pick l) (next_items decls i d lt)) ∙ same))
