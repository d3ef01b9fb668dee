-- The names of the field lists are those of their sort.
use Rattle.std.proofs.Common.{◌≡◌, List, [], ◌∷◌, map, refl, ap}
use Rattle.p414_syntax.specs.declared.syntax.Decl.{Decl}
use Rattle.p414_syntax.specs.declared.syntax.Decl.TheVariants as decl
use Rattle.p414_syntax.specs.declared.syntax.Sort.TheVariants as sort
use Rattle.p414_syntax.specs.Names.{Name, names_in, find_name, number_of}
use Rattle.p414_syntax.specs.Expansion.{lists, list_name, list_number}

same_names : (ds : List Decl) → names_in sort.List ds ≡ map list_name (lists ds)
same_names [] = refl
same_names (decl.FieldList x ∷ ds) = ap (λ names. x.name ∷ names) (same_names ds)
same_names (decl.HeaderType x ∷ ds) = same_names ds
same_names (decl.Header x ∷ ds) = same_names ds
same_names (decl.Metadata x ∷ ds) = same_names ds
same_names (decl.FieldListCalculation x ∷ ds) = same_names ds
same_names (decl.CalculatedField x ∷ ds) = same_names ds
same_names (decl.Parser x ∷ ds) = same_names ds
same_names (decl.Action x ∷ ds) = same_names ds
same_names (decl.Table x ∷ ds) = same_names ds
same_names (decl.Counter x ∷ ds) = same_names ds
same_names (decl.Meter x ∷ ds) = same_names ds
same_names (decl.Register x ∷ ds) = same_names ds
same_names (decl.Control x ∷ ds) = same_names ds
same_names (decl.LeftOut x ∷ ds) = same_names ds

pub same_number : (ds : List Decl) (name : Name) → number_of sort.List ds name ≡ list_number ds name
same_number ds name = ap (λ names. find_name names name) (same_names ds)
