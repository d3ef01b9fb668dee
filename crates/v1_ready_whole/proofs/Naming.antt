-- The objects of a program by their control-plane names.
use Rattle.std.proofs.Common.{◌≡◌, List, [], ◌∷◌, ◌++◌, map, flat_map, refl, ap, ◌∙◌}
use Rattle.std.proofs.lemmas.List.{map-append}
use Rattle.std.specs.Prelude.{filter_map}
use Rattle.p416_syntax.specs.declared.controls.Local.{Local}
use Rattle.p416_syntax.specs.declared.controls.Local.TheVariants as local
use Rattle.p416_syntax.specs.declared.program.Decl16.{Decl16}
use Rattle.p416_syntax.specs.declared.program.Decl16.TheVariants as decl
use Rattle.p416_syntax.specs.declared.program.Syntax16.{Syntax16}
use Rattle.p416_syntax.specs.Names.{Name}
use Rattle.p416_syntax.specs.Tables.{local_object, objects_of}
use Rattle.v1_core.specs.Signatures.{Object, own_object, objects_in, in_order, top_object}
use Rattle.p416_signature.specs.declared.objects.Objects.{Objects}
use Rattle.p416_signature.specs.internal.Seen.{plane_of}
use Rattle.p416_signature.specs.internal.Gathered.{AreObjects, objects_seen}

planes_own : (locals : List Local) → map plane_of (filter_map own_object locals) ≡ flat_map local_object locals
planes_own [] = refl
planes_own (local.Instance notes i ∷ locals) = ap (λ (l : List Name). local_object (local.Instance notes i) ++ l) (planes_own locals)
planes_own (local.Var v ∷ locals) = planes_own locals
planes_own (local.Action a ∷ locals) = planes_own locals
planes_own (local.Table t ∷ locals) = planes_own locals

planes_in : (d : Decl16) → map plane_of (objects_in d) ≡ objects_of d
planes_in (decl.Header h) = refl
planes_in (decl.Struct x) = refl
planes_in (decl.Instance notes i) = refl
planes_in (decl.Parser p) = refl
planes_in (decl.Control c) = planes_own c.locals

planes_are : (ds : List Decl16) → map plane_of (flat_map objects_in ds) ≡ flat_map objects_of ds
planes_are [] = refl
planes_are (d ∷ ds) =
    map-append plane_of (objects_in d) (flat_map objects_in ds)
    ∙ (ap (λ (l : List Name). l ++ map plane_of (flat_map objects_in ds)) (planes_in d) ∙ ap (λ (l : List Name). objects_of d ++ l) (planes_are ds))

pub numbered : (syntax : Syntax16) (o : Objects) (found : List Object) (names : List Name) → found ≡ flat_map objects_in syntax.decls → names ≡ in_order (map plane_of found) → o.numbers ≡ names → objects_seen o.top ≡ filter_map top_object syntax.decls → AreObjects syntax o
numbered syntax o found names are is numbers top = record { numbers = numbers ∙ (is ∙ ap in_order (ap (map plane_of) are ∙ planes_are syntax.decls)); top = top }
