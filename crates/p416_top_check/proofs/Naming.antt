-- The names at the top in one list, and the rule's own words for a name of no block.
use Rattle.std.proofs.Common.{◌≡◌, Bool, List, [], ◌∷◌, ◌++◌, map, refl, sym, ap, ◌∙◌}
use Rattle.std.specs.List.{list_any}
use Rattle.p416_syntax.specs.declared.program.Decl16.{Decl16}
use Rattle.p416_syntax.specs.declared.program.Syntax16.{Syntax16}
use Rattle.p416_syntax.specs.Names.{Name, repeats}
use Rattle.p416_syntax.specs.BuiltIn.{built_in}
use Rattle.p416_syntax.specs.Scopes.{Known, called_of}
use Rattle.p416_syntax.specs.Declarations.{top_name}
use Rattle.p416_syntax.specs.Unknown.{declared_name, declares_twice}
use Rattle.p416_syntax.specs.Breaks.{is_no_block}
use Rattle.p416_top_check.specs.internal.Blocks.{is_other}

names_are : (ds : List Decl16) (rest : List Known) → map called_of (map top_name ds ++ rest) ≡ map declared_name ds ++ map called_of rest
names_are [] rest = refl
names_are (d ∷ ds) rest = ap (λ l. declared_name d ∷ l) (names_are ds rest)

pub twice_is : (ds : List Decl16) (names : List Name) (found : Bool) → names ≡ map declared_name ds ++ map called_of built_in → found ≡ repeats names → found ≡ declares_twice ds
twice_is ds names found are is = is ∙ ap repeats (are ∙ sym (names_are ds built_in))

pub none_is : (ds : List Decl16) (s : Syntax16) (main : List Name) (found : Bool) → s.decls ≡ ds → found ≡ list_any (is_other ds) main → found ≡ list_any (is_no_block s) main
none_is ds s main found same is = is ∙ ap (λ decls. list_any (is_other decls) main) (sym same)
