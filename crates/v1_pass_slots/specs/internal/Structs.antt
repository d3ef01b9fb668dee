-- The types of a program in a list by their names.
use Rattle.std.specs.Prelude.{◌≡◌, ℕ, List, map, filter, slice_get, Some}
use Rattle.p416_syntax.specs.declared.parts.StructField.{StructField}
use Rattle.p416_syntax.specs.declared.program.Decl16.{Decl16}
use Rattle.p416_syntax.specs.declared.program.Decl16.TheVariants as decl
use Rattle.p416_syntax.specs.Unknown.{declared_name}
use Rattle.p416_names.specs.internal.Tables.{is_type}
use Rattle.v1_pass_slots.specs.declared.structs.Types.{Types}

-- the types of a program, each with its name
pub record AreTypes (t : Types) : Type 0 where
  pub names : t.names ≡ map declared_name (filter is_type t.top.now)
  pub decls : map (λ d. d.now) t.decls.items ≡ filter is_type t.top.now

-- a declaration is a struct with these fields
abbrev pub HasFields : Decl16 → List StructField → Type 0
HasFields (decl.Struct x) fields = x.fields ≡ fields
HasFields _ fields = ⊥

-- the one at a place is
pub record FieldsAt (ds : List Decl16) (place : ℕ) (fields : List StructField) : Type 0 where
  pub of : Decl16
  pub at : slice_get ds place ≡ Some of
  pub has : HasFields of fields
