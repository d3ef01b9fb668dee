-- The counters that count the entries of tables.
use Rattle.std.proofs.Common.{◌≡◌, ℕ, suc, ◌+◌, ◌<◌, Bool, true, false, cond, List, [], ◌∷◌, ◌++◌, length, get_or, drop, option_to_list, slice_get, Option, Some, None, option_map, option_and_then, refl, sym, ap, ◌∙◌, append_assoc}
use Rattle.std.specs.Prelude.{filter_map}
use Rattle.std.specs.List.{cons_option}
use Rattle.std.specs.Str.{bytes_eq}
use Rattle.p414_syntax.specs.declared.objects.Stateful.{Stateful}
use Rattle.p414_syntax.specs.declared.syntax.Decl.{Decl}
use Rattle.p414_syntax.specs.declared.syntax.Decl.TheVariants as decl
use Rattle.p414_syntax.specs.declared.syntax.Sort.TheVariants as sort
use Rattle.p414_syntax.specs.Attributes.{direct_table_of}
use Rattle.p414_list_check.proofs.Loops.{next_items}
use Rattle.p414_syntax.specs.Names.{Name, find_name, names_in}
use Rattle.p414_sem.specs.Operations.{in_order, object_number}
use Rattle.p414_sem.specs.Signatures.{counts_entries_of, first_name, direct_counter}
use Rattle.p414_signature.specs.declared.directs.Objects.{Objects}
use Rattle.p414_signature.specs.internal.Gathered.{counting_tables, counting_names, number_in, AreObjects, direct_in}
use Rattle.p414_signature.proofs.Places.{past, here, bytes_either}

-- what is kept of a declaration

kept_by : (o : Option Name) (old rest : List Name) → (old ++ option_to_list o) ++ rest ≡ old ++ cons_option o rest
kept_by None old rest = append_assoc old [] rest
kept_by (Some name) old rest = append_assoc old (name ∷ []) rest

pub kept_now : (pick : Decl → Option Name) (decls : List Decl) (i : ℕ) (d : Decl) (old new whole : List Name) → i < length decls → new ≡ old ++ option_to_list (pick (get_or decls i d)) → old ++ filter_map pick (drop i decls) ≡ whole → new ++ filter_map pick (drop (i + 1) decls) ≡ whole
kept_now pick decls i d old new whole lt is same =
    ap (λ l. l ++ filter_map pick (drop (i + 1) decls)) is
    ∙ (kept_by (pick (get_or decls i d)) old (filter_map pick (drop (i + 1) decls))
    ∙ (sym (ap (λ l. old ++ filter_map pick l) (next_items decls i d lt)) ∙ same))

-- the first counter of a table is the one at the table's place

abbrev at_place : List Name → List Name → Name → Option Name
at_place names tables table = option_and_then (slice_get names) (find_name tables table)

later : (name : Name) (names : List Name) (o : Option ℕ) → option_and_then (slice_get (name ∷ names)) (option_map suc o) ≡ option_and_then (slice_get names) o
later name names None = refl
later name names (Some n) = refl

counted_first : (table t name : Name) (tables names rest : List Name) (b : Bool) → bytes_eq t table ≡ b → first_name rest ≡ at_place names tables table
    → first_name (cons_option (cond b (Some name) None) rest) ≡ at_place (name ∷ names) (t ∷ tables) table
counted_first table t name tables names rest true is same =
    sym (ap (option_and_then (slice_get (name ∷ names))) (here (bytes_eq table) t tables (bytes_either table t ∙ is)))
counted_first table t name tables names rest false is same =
    same
    ∙ (sym (later name names (find_name tables table))
    ∙ sym (ap (option_and_then (slice_get (name ∷ names))) (past (bytes_eq table) t tables (bytes_either table t ∙ is))))

behind_counter : (table : Name) (x : Stateful) (ds : List Decl) (o : Option Name) → direct_table_of x.attributes ≡ o → first_name (filter_map (counts_entries_of table) ds) ≡ at_place (counting_names ds) (counting_tables ds) table
    → first_name (filter_map (counts_entries_of table) (decl.Counter x ∷ ds)) ≡ at_place (counting_names (decl.Counter x ∷ ds)) (counting_tables (decl.Counter x ∷ ds)) table
behind_counter table x ds None is same = rw is same
behind_counter table x ds (Some t) is same = rw is (counted_first table t x.name (counting_tables ds) (counting_names ds) (filter_map (counts_entries_of table) ds) (bytes_eq t table) refl same)

pub by_place : (table : Name) (ds : List Decl) → first_name (filter_map (counts_entries_of table) ds) ≡ at_place (counting_names ds) (counting_tables ds) table
by_place table [] = refl
by_place table (decl.Counter x ∷ ds) = behind_counter table x ds (direct_table_of x.attributes) refl (by_place table ds)
by_place table (decl.Meter x ∷ ds) = by_place table ds
by_place table (decl.Register x ∷ ds) = by_place table ds
by_place table (decl.HeaderType x ∷ ds) = by_place table ds
by_place table (decl.Header x ∷ ds) = by_place table ds
by_place table (decl.Metadata x ∷ ds) = by_place table ds
by_place table (decl.FieldList x ∷ ds) = by_place table ds
by_place table (decl.FieldListCalculation x ∷ ds) = by_place table ds
by_place table (decl.CalculatedField x ∷ ds) = by_place table ds
by_place table (decl.Parser x ∷ ds) = by_place table ds
by_place table (decl.Action x ∷ ds) = by_place table ds
by_place table (decl.Table x ∷ ds) = by_place table ds
by_place table (decl.Control x ∷ ds) = by_place table ds
by_place table (decl.LeftOut x ∷ ds) = by_place table ds

number_is : (ds : List Decl) (numbers : List Name) (o : Option Name) → numbers ≡ in_order (names_in sort.Object ds) → option_map (number_in numbers) o ≡ option_map (object_number ds) o
number_is ds numbers None e = refl
number_is ds numbers (Some name) e = ap (λ l. Some (number_in l name)) e

-- the direct counter of a table
pub direct_is : (ds : List Decl) (o : Objects) (table : Name) → AreObjects ds o → direct_in o table ≡ direct_counter ds table
direct_is ds o table h =
    ap (λ l. option_map (number_in o.numbers) (option_and_then (slice_get l) (find_name o.tables table))) h.counters
    ∙ (ap (λ l. option_map (number_in o.numbers) (at_place (counting_names ds) l table)) h.tables
    ∙ (ap (option_map (number_in o.numbers)) (sym (by_place table ds))
    ∙ number_is ds o.numbers (first_name (filter_map (counts_entries_of table) ds)) h.numbers))
