-- In an accepted program the type of standard metadata is that of `v1model.p4`.
use Rattle.std.proofs.Common.{◌≡◌, inl, inr, ◌||◌, IsTrue, Bool, true, false, cond, List, [], ◌∷◌, ◌++◌, map, flat_map, refl, ap, ◌∙◌, bytes_eq}
use Rattle.std.specs.List.{list_any}
use Rattle.p416_syntax.specs.declared.program.Decl16.{Decl16}
use Rattle.p416_syntax.specs.declared.program.Decl16.TheVariants as decl
use Rattle.p416_syntax.specs.declared.program.Syntax16.{Syntax16}
use Rattle.p416_syntax.specs.Names.{Name, has_name, repeats}
use Rattle.p416_syntax.specs.BuiltIn.{built_in, standard_name, standard_layout}
use Rattle.p416_syntax.specs.Scopes.{Known, called_of, fields_in}
use Rattle.p416_syntax.specs.Declarations.{bit_field, struct_field, top_name, top_names, layout_in}
use Rattle.p416_syntax.specs.Breaks.{is_no_block, IsBroken, program_rules, BreaksNone}
use Rattle.v1_block_laws.proofs.Tests.{first_false, second_false}
use Rattle.v1_control_laws.specs.TableLaws.{StandardsOwn}
use Rattle.v1_control_laws.proofs.Signed.{Mem}
use Rattle.v1_control_laws.proofs.Counting.{one_passes}

abbrev names_of : List Decl16 → List Name
names_of ds = map called_of (map top_name ds ++ built_in)

standard_there : (ds : List Decl16) → Mem standard_name (names_of ds)
standard_there [] = inr (inr (inl refl))
standard_there (d ∷ ds) = inr (standard_there ds)

no_other : (ds : List Decl16) (called : Name) → has_name (names_of ds) called ≡ false → bytes_eq called standard_name ≡ false
no_other ds called none = one_passes (bytes_eq called) standard_name (names_of ds) (standard_there ds) none

own : (all : List Known) (ds : List Decl16) → repeats (names_of ds) ≡ false → fields_in (flat_map (layout_in all) ds ++ standard_layout ∷ []) standard_name ≡ standard_layout.fields
own all [] once = refl
own all (decl.Header h ∷ ds) once =
    ap (λ (b : Bool). cond b (map bit_field h.fields) (fields_in (flat_map (layout_in all) ds ++ standard_layout ∷ []) standard_name)) (no_other ds h.name (first_false (has_name (names_of ds) h.name) (repeats (names_of ds)) once))
    ∙ own all ds (second_false (has_name (names_of ds) h.name) (repeats (names_of ds)) once)
own all (decl.Struct x ∷ ds) once =
    ap (λ (b : Bool). cond b (map (struct_field all) x.fields) (fields_in (flat_map (layout_in all) ds ++ standard_layout ∷ []) standard_name)) (no_other ds x.name (first_false (has_name (names_of ds) x.name) (repeats (names_of ds)) once))
    ∙ own all ds (second_false (has_name (names_of ds) x.name) (repeats (names_of ds)) once)
own all (decl.Instance notes i ∷ ds) once = own all ds (second_false (has_name (names_of ds) (called_of (top_name (decl.Instance notes i)))) (repeats (names_of ds)) once)
own all (decl.Parser p ∷ ds) once = own all ds (second_false (has_name (names_of ds) p.name) (repeats (names_of ds)) once)
own all (decl.Control c ∷ ds) once = own all ds (second_false (has_name (names_of ds) c.name) (repeats (names_of ds)) once)

-- T1
declared_once : (syntax : Syntax16) → BreaksNone syntax program_rules → repeats (names_of syntax.decls) ≡ false
unfolding IsBroken
declared_once syntax accepted = by (repeats (names_of syntax.decls)) (λ x. accepted.0 (inr (inl x))) where
  by : (b : Bool) → (IsTrue (b || list_any (is_no_block syntax) syntax.main) → ⊥) → b ≡ false
  by true never = absurd (never refl)
  by false never = refl

pub standards_own : StandardsOwn
standards_own syntax accepted = own (top_names syntax.decls) syntax.decls (declared_once syntax accepted)
