-- The header types that have headers.
use Rattle.std.proofs.Common.{◌≡◌, Bool, ◌||◌, List, [], ◌∷◌, map, refl, sym, ap, ap₂, ◌∙◌}
use Rattle.std.specs.List.{list_any}
use Rattle.p414_syntax.specs.declared.syntax.Decl.{Decl}
use Rattle.p414_syntax.specs.declared.syntax.Decl.TheVariants as decl
use Rattle.p414_syntax.specs.Fields.{types}
use Rattle.p414_syntax.specs.Names.{Name, has_name}
use Rattle.p414_syntax.specs.Views.{HeaderTypeTree}
use Rattle.lower_laws_names.specs.Types.{has_type, is_used}
use Rattle.lower_names.specs.Picked.{picked_from}
use Rattle.lower_decls.specs.Using.{used_in, has_of}
use Rattle.lower_names.proofs.Named.{bytes_turned, names_it, picked_have}

entry_is : (n : Name) (d : Decl) → names_it used_in n d ≡ has_type n d
entry_is n (decl.Header x) = bytes_turned n x.header_type
entry_is n _ = refl

entries_are : (n : Name) (ds : List Decl) → list_any (names_it used_in n) ds ≡ list_any (has_type n) ds
entries_are n [] = refl
entries_are n (d ∷ ds) = ap₂ (λ a b. a || b) (entry_is n d) (entries_are n ds)

flags_are : (ds : List Decl) (used : List Name) (ts : List HeaderTypeTree) → used ≡ picked_from used_in [] ds → map (has_of used) ts ≡ map (is_used ds) ts
flags_are ds used [] is = refl
flags_are ds used (t ∷ ts) is =
    ap₂ (λ b bs. b ∷ bs)
    (ap (λ (names : List Name). has_name names t.name) is ∙ picked_have used_in [] ds t.name ∙ entries_are t.name ds)
    (flags_are ds used ts is)

pub all_used : (ds : List Decl) (used : List Name) → used ≡ picked_from used_in [] ds → map (has_of used) (types ds) ≡ map (is_used ds) (types ds)
all_used ds used is = flags_are ds used (types ds) is
