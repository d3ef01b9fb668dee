-- The copies and tables of a pipeline have names (C2).
use Rattle.std.proofs.Common.{◌≡◌, inl, inr, ℕ, ◌+◌, ◌<◌, ◌≤◌, ◌^◌, Bool, true, List, [], ◌∷◌, ◌++◌, length, map, refl, ap, ◌∙◌, subst, arith}
use Rattle.std.specs.Prelude.{is_some, flat_map}
use Rattle.std.specs.List.{list_any}
use Rattle.std.proofs.lemmas.List.{length-append}
use Rattle.std.proofs.lemmas.List.Concat.{flat_map-cons}
use Rattle.p414_syntax.specs.declared.tables.Table.{Table}
use Rattle.p414_syntax.specs.declared.syntax.Decl.{Decl}
use Rattle.p414_syntax.specs.declared.syntax.Decl.TheVariants as decl
use Rattle.p414_syntax.specs.declared.syntax.Sort.TheVariants as sort
use Rattle.p414_syntax.specs.Names.{Name, is_declared}
use Rattle.p414_syntax.specs.Tables.{table_in, tables, listed_in}
use Rattle.p414_syntax.specs.Unknown.{is_unknown}
use Rattle.p414_syntax.specs.Uses.{of_sort, uses_of, uses}
use Rattle.p414_sem.specs.Signatures.{direct_counter}
use Rattle.lower_laws_names.specs.Reaches.{declared, AreIn}
use Rattle.lower_laws_names.specs.Copies.{Listing, lines_from, listings_from, listings, LinesFit, AllNumbered, copies, outers}
use Rattle.lower_laws_names.proofs.Top.{in_both, named_in, copies_in}
use Rattle.lower_laws_states.specs.Expansions.{Has}
use Rattle.lower_laws_states.specs.Laws.{BreaksNo}
use Rattle.lower_laws_states.proofs.Members.{has_joined, none_passes, neither, of_not, picked_has}
use Rattle.lower_laws_states.proofs.Rules.{none_unknown}
use Rattle.lower_laws_states.proofs.Chosen.{listed_used, declared_table}
use Rattle.lower_laws_declared.specs.Layout.{IsShort}
use Rattle.lower_laws_declared.specs.Controls.{pipeline_things, LocalsAre, DeclaresLocals}
use Rattle.lower_laws_declared.proofs.States.{numbered_here}
use Rattle.p416_syntax.specs.declared.controls.Local.{Local}
use Rattle.p416_syntax.specs.declared.controls.Table16.{Table16}

lines_both : (ds : List Decl) (xs ys : List Listing) → LinesFit ds xs → LinesFit ds ys → LinesFit ds (xs ++ ys)
lines_both ds [] ys a b = b
lines_both ds (l ∷ xs) ys a b = (a.0, a.1, lines_both ds xs ys a.2 b)

module _ (ds : List Decl) (none : BreaksNo ds) (short : IsShort ds) where
  -- a listed action is declared (C2)
  pub listed_declared : (t : Table) → Has (tables ds) t → (n : Name) → Has (listed_in t) n → is_declared sort.Action ds n ≡ true
  listed_declared t h n listed =
      let d = picked_has table_in ds t h in
      let there : Has ds (decl.Table t) = subst (Has ds) (declared_table d.0 t d.2) d.1 in
      of_not _ (none_passes (is_unknown ds) (uses ds) (of_sort sort.Action n) (neither (list_any (is_unknown ds) (uses ds)) _ (none_unknown ds none)).0 (has_joined uses_of ds (decl.Table t) (of_sort sort.Action n) there (listed_used t.attributes n listed)))

  lines_fit : (counted egress : Bool) (table number : ℕ) (names : List Name) → number + length names ≤ 2 ^ 32 → ((n : Name) → Has names n → is_declared sort.Action ds n ≡ true) → LinesFit ds (lines_from counted egress table number names)
  lines_fit counted egress table number [] few there = tt
  lines_fit counted egress table number (n ∷ names) few there =
      (numbered_here ds short.few sort.Action n (there n (inl refl)), omega (arith, few), lines_fit counted egress table (number + 1) names (omega (arith, few)) (λ m h. there m (inr h)))

  tables_fit : (egress : ℕ → Bool) (table number : ℕ) (ts : List Table) → number + length (flat_map listed_in ts) ≤ 2 ^ 32 → ((t : Table) → Has ts t → Has (tables ds) t) → LinesFit ds (listings_from ds egress table number ts)
  tables_fit egress table number [] few among = tt
  tables_fit egress table number (t ∷ ts) few among =
      let split : length (flat_map listed_in (t ∷ ts)) ≡ length (listed_in t) + length (flat_map listed_in ts) = ap length (flat_map-cons listed_in t ts) ∙ length-append (listed_in t) (flat_map listed_in ts) in
      lines_both ds (lines_from (is_some (direct_counter ds t.name)) (egress table) table number (listed_in t)) (listings_from ds egress (table + 1) (number + length (listed_in t)) ts)
      (lines_fit (is_some (direct_counter ds t.name)) (egress table) table number (listed_in t) (omega (arith, few, split)) (listed_declared t (among t (inl refl))))
      (tables_fit egress (table + 1) (number + length (listed_in t)) ts (omega (arith, few, split)) (λ u h. among u (inr h)))

  -- C2
  pub all_lines_fit : (egress : ℕ → Bool) → LinesFit ds (listings ds egress)
  all_lines_fit egress = tables_fit egress 0 0 (tables ds) (omega (arith, short.few_lines)) (λ t h. h)

  pub all_numbered : (names : List Name) → ((n : Name) → Has names n → is_declared sort.Table ds n ≡ true) → AllNumbered ds sort.Table names
  all_numbered [] there = tt
  all_numbered (n ∷ names) there = (numbered_here ds short.few sort.Table n (there n (inl refl)), all_numbered names (λ m h. there m (inr h)))

  -- so the copies and tables of a pipeline stand in reach
  pub things_in : (egress : ℕ → Bool) (e : Bool) (tables : List Name) → ((n : Name) → Has tables n → is_declared sort.Table ds n ≡ true) → AreIn ds (pipeline_things ds egress e tables)
  things_in egress e tables there =
      in_both ds (outers e (copies ds egress)) (map (declared sort.Table) tables) (copies_in ds egress e [] (listings ds egress) (all_lines_fit egress)) (named_in ds sort.Table tt tables (all_numbered tables there))

  pub pipeline_declares : (egress : ℕ → Bool) (e : Bool) (tables : List Name) → ((n : Name) → Has tables n → is_declared sort.Table ds n ≡ true) → (as_table : Name → Table16) (locals : List Local) → LocalsAre ds as_table (pipeline_things ds egress e tables) locals → DeclaresLocals ds as_table (pipeline_things ds egress e tables) locals
  pipeline_declares egress e tables there as_table locals are = record { each = are; inside = things_in egress e tables there }
