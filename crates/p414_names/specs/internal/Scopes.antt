-- The names of a sort while they are gathered.
use Rattle.std.specs.Prelude.{◌≡◌, Bool, true, false, List, [], ◌∷◌, ◌++◌, Option, Some, None}
use Rattle.std.specs.Option.{option_map_or}
use Rattle.p414_syntax.specs.declared.syntax.Decl.{Decl}
use Rattle.p414_syntax.specs.declared.syntax.Sort.{Sort}
use Rattle.p414_syntax.specs.Names.{Name, name_in, names_in, declared_in, has_name}
use Rattle.p414_syntax.specs.Twice.{is_reserved}
use Rattle.p414_names.specs.declared.scope.Gathered.{Gathered}

-- all names and declarations of the sort, in order
pub record IsGathered (sort : Sort) (ds : List Decl) (s : Gathered) : Type 0 where
  pub names : s.names ≡ names_in sort ds
  pub declared : s.declared ≡ declared_in sort ds

-- a declaration and the name that it declares, if it declares one, are put behind these, unless the name is there
abbrev pub IsPutAs : Option Name → Gathered → Gathered → Decl → Bool → Type 0
IsPutAs None old new d fresh = (new ≡ old) × (fresh ≡ true)
IsPutAs (Some name) old new d true =
    (has_name old.names name ≡ false) × (new.names ≡ old.names ++ name ∷ []) × (new.declared ≡ old.declared ++ d ∷ [])
IsPutAs (Some name) old new d false = has_name old.names name ≡ true

abbrev pub IsPut : Sort → Gathered → Gathered → Decl → Bool → Type 0
IsPut sort old new d fresh = IsPutAs (name_in sort d) old new d fresh

-- a declaration declares a name that its sort has before anything is declared
abbrev pub declares_reserved : Sort → Decl → Bool
declares_reserved sort d = option_map_or (is_reserved sort) (name_in sort d) false
