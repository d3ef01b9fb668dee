-- Tables by their names.
use Rattle.std.proofs.Common.{◌≡◌, ℕ, ◌+◌, ◌<◌, List, [], ◌∷◌, ◌++◌, length, get_or, drop, map, option_to_list, slice_get, Option, Some, None, option_map, option_and_then, refl, sym, ap, ◌∙◌, append_assoc}
use Rattle.std.specs.Prelude.{filter_map}
use Rattle.std.specs.List.{cons_option}
use Rattle.std.proofs.lemmas.Option.{slice_get-map}
use Rattle.p414_syntax.specs.declared.syntax.Decl.{Decl}
use Rattle.p414_syntax.specs.declared.syntax.Decl.TheVariants as decl
use Rattle.p414_syntax.specs.declared.syntax.Sort.TheVariants as sort
use Rattle.p414_syntax.specs.declared.tables.Table.{Table}
use Rattle.p414_list_check.proofs.Loops.{next_items}
use Rattle.p414_syntax.specs.Names.{Name, declared_in, numbered, number_of}
use Rattle.p414_syntax.specs.Tables.{table_in, tables}
use Rattle.p414_sem.specs.Signatures.{table_of}
use Rattle.p414_signature.specs.internal.Gathered.{declared_table}

abbrev some : Table → Option Table
some t = Some t

same_tables : (ds : List Decl) → map table_in (declared_in sort.Table ds) ≡ map some (tables ds)
same_tables [] = refl
same_tables (decl.Table x ∷ ds) = ap (λ found. Some x ∷ found) (same_tables ds)
same_tables (decl.Action x ∷ ds) = same_tables ds
same_tables (decl.FieldList x ∷ ds) = same_tables ds
same_tables (decl.HeaderType x ∷ ds) = same_tables ds
same_tables (decl.Header x ∷ ds) = same_tables ds
same_tables (decl.Metadata x ∷ ds) = same_tables ds
same_tables (decl.FieldListCalculation x ∷ ds) = same_tables ds
same_tables (decl.CalculatedField x ∷ ds) = same_tables ds
same_tables (decl.Parser x ∷ ds) = same_tables ds
same_tables (decl.Counter x ∷ ds) = same_tables ds
same_tables (decl.Meter x ∷ ds) = same_tables ds
same_tables (decl.Register x ∷ ds) = same_tables ds
same_tables (decl.Control x ∷ ds) = same_tables ds
same_tables (decl.LeftOut x ∷ ds) = same_tables ds

abbrev inner : Option (Option Table) → Option Table
inner None = None
inner (Some o) = o

through : (o : Option Decl) → option_and_then table_in o ≡ inner (option_map table_in o)
through None = refl
through (Some d) = refl

as_it_was : (o : Option Table) → inner (option_map some o) ≡ o
as_it_was None = refl
as_it_was (Some t) = refl

by_number : (ds : List Decl) (n : ℕ) → option_and_then table_in (numbered sort.Table ds n) ≡ slice_get (tables ds) n
by_number ds n =
    through (numbered sort.Table ds n)
    ∙ (ap inner (sym (slice_get-map table_in (declared_in sort.Table ds) n))
    ∙ (ap (λ (xs : List (Option Table)). inner (slice_get xs n)) (same_tables ds)
    ∙ (ap inner (slice_get-map some (tables ds) n) ∙ as_it_was (slice_get (tables ds) n))))

by_option : (ds : List Decl) (o : Option ℕ) → option_and_then table_in (option_and_then (numbered sort.Table ds) o) ≡ option_and_then (slice_get (tables ds)) o
by_option ds None = refl
by_option ds (Some n) = by_number ds n

pub table_is : (ds : List Decl) (name : Name) → declared_table ds name ≡ table_of ds name
table_is ds name = by_option ds (number_of sort.Table ds name)

-- the table of one more name

kept_by : {B : Type 0} (f : Table → B) (o : Option Table) (rest : List Table) → map f (cons_option o rest) ≡ map f (option_to_list o) ++ map f rest
kept_by f None rest = refl
kept_by f (Some x) rest = refl

pub table_now : {X B : Type 0} (name_of : X → Name) (pick : Name → Option Table) (f : Table → B) (names : List X) (i : ℕ) (d : X) (old new whole : List B) → i < length names → new ≡ old ++ map f (option_to_list (pick (name_of (get_or names i d)))) → old ++ map f (filter_map pick (map name_of (drop i names))) ≡ whole → new ++ map f (filter_map pick (map name_of (drop (i + 1) names))) ≡ whole
table_now name_of pick f names i d old new whole lt is same =
    ap (λ l. l ++ map f (filter_map pick (map name_of (drop (i + 1) names)))) is
    ∙ (append_assoc old (map f (option_to_list (pick (name_of (get_or names i d))))) (map f (filter_map pick (map name_of (drop (i + 1) names))))
    ∙ (ap (λ l. old ++ l) (sym (kept_by f (pick (name_of (get_or names i d))) (filter_map pick (map name_of (drop (i + 1) names)))))
    ∙ (sym (ap (λ l. old ++ map f (filter_map pick (map name_of l))) (next_items names i d lt)) ∙ same)))
