-- What a pipeline declares is what names are told of: its copies of actions and its tables (C1, C2).
use Rattle.std.proofs.Common.{◌≡◌, ◌⊎◌, inl, inr, ℕ, ◌<◌, ◌^◌, Bool, true, Option, List, [], ◌∷◌, ◌++◌, map, refl, sym, ap, ◌∙◌, subst}
use Rattle.std.specs.Prelude.{unwrap_or}
use Rattle.std.specs.Option.{option_map_or}
use Rattle.p414_syntax.specs.declared.syntax.Decl.{Decl}
use Rattle.p414_syntax.specs.declared.syntax.Rule14.{Rule14}
use Rattle.p414_syntax.specs.declared.syntax.Sort.TheVariants as sort
use Rattle.p414_syntax.specs.declared.tables.Table.{Table}
use Rattle.p414_syntax.specs.Names.{Name, names_in}
use Rattle.p414_syntax.specs.Breaks.{BreaksNone, program_rules}
use Rattle.p414_sem.specs.Expanded.{Expanded}
use Rattle.p414_sem.specs.Signatures.{parameter_widths}
use Rattle.p416_syntax.specs.declared.controls.Local.{Local}
use Rattle.p416_syntax.specs.declared.controls.Local.TheVariants as local
use Rattle.p416_syntax.specs.Scopes.{Known, handed}
use Rattle.v1_core.specs.Signatures.{handed_width}
use Rattle.agreement_of_meanings.specs.Shown.{NamedField, width_of}
use Rattle.lower_laws_names.specs.Reaches.{Outer, declared, copy, outer_name, IsNumbered}
use Rattle.lower_laws_names.specs.Copies.{Listing, listings, Copy, plain_copy, counted_copy, copies, in_pipeline, LinesFit}
use Rattle.lower_laws_states.specs.Expansions.{Has}
use Rattle.lower_laws_states.proofs.Declared.{kept_has}
use Rattle.lower_laws_states.proofs.Filling.{each_there, named_so}
use Rattle.lower_laws_declared.specs.Layout.{IsShort}
use Rattle.lower_laws_declared.specs.Controls.{CopyIs, TableIs, LocalIs, LocalsAre, pipeline_things}
use Rattle.lower_laws_declared.proofs.Listed.{all_lines_fit}
use Rattle.lower_laws_translated.specs.Translated.{parameter_of, new_parameters_of, number_in, is_in_egress, tables_in, copies_in, table_written, action_written, locals_in, no_table}
use Rattle.lower_laws_translated.proofs.Parameters.{parameters_wide}
use Rattle.lower_laws_translated.proofs.Copies.{IsOf, copies_of}

-- a copy has one of two names
pub outer_of : (ls : List Listing) (c : Copy) → IsOf ls c → (c.outer ≡ declared sort.Action c.action) ⊎ ((k : ℕ) × (c.outer ≡ copy k c.action))
outer_of ls c of = by of.is where
  by : (c ≡ plain_copy of.line) ⊎ ((of.line.is_counted ≡ true) × (c ≡ counted_copy of.line)) → (c.outer ≡ declared sort.Action c.action) ⊎ ((k : ℕ) × (c.outer ≡ copy k c.action))
  by (inl e) = inl (subst (λ (d : Copy). d.outer ≡ declared sort.Action d.action) (sym e) refl)
  by (inr (counted, e)) = inr (of.line.number, subst (λ (d : Copy). d.outer ≡ copy of.line.number d.action) (sym e) refl)

pub line_fits : (ds : List Decl) (ls : List Listing) (l : Listing) → LinesFit ds ls → Has ls l → IsNumbered ds sort.Action l.action × (l.number < 2 ^ 32)
line_fits ds [] l fit h = absurd h
line_fits ds (m ∷ ls) l fit (inl same) = subst (λ (z : Listing). IsNumbered ds sort.Action z.action × (z.number < 2 ^ 32)) same (fit.0, fit.1)
line_fits ds (m ∷ ls) l fit (inr h) = line_fits ds ls l fit.2 h

pub action_is : (ls : List Listing) (c : Copy) (of : IsOf ls c) → c.action ≡ of.line.action
action_is ls c of = by of.is where
  by : (c ≡ plain_copy of.line) ⊎ ((of.line.is_counted ≡ true) × (c ≡ counted_copy of.line)) → c.action ≡ of.line.action
  by (inl e) = ap (λ (d : Copy). d.action) e
  by (inr (counted, e)) = ap (λ (d : Copy). d.action) e

handed_widths : (names : List Known) (ps : List NamedField) → map handed_width (map (handed names) (map parameter_of ps)) ≡ map width_of ps
handed_widths names [] = refl
handed_widths names (f ∷ ps) = ap (λ (l : List ℕ). f.width ∷ l) (handed_widths names ps)

module _ (ds : List Decl) (none : BreaksNone ds program_rules) (short : IsShort ds) (x : Expanded) (under : Rule14) where
  abbrev ls : List Listing
  ls = listings ds (is_in_egress ds x)

  pub copy_numbered : (c : Copy) → IsOf ls c → IsNumbered ds sort.Action c.action
  copy_numbered c of = subst (IsNumbered ds sort.Action) (sym (action_is ls c of)) (line_fits ds ls of.line (all_lines_fit ds none short (is_in_egress ds x)) of.has).0

  -- the number of its action
  pub number_is : (c : Copy) (n : IsNumbered ds sort.Action c.action) → number_in ds c ≡ n.number
  number_is c n = ap (λ (o : Option ℕ). unwrap_or o 0) n.found

  copy_is : (c : Copy) → IsNumbered ds sort.Action c.action → (o : Outer) → c.outer ≡ o → CopyIs ds o c.action (action_written ds x under c)
  copy_is c n o e = record {
    called = ap (outer_name ds) e;
    plane = refl;
    widths = λ names.
        handed_widths names (new_parameters_of ds (number_in ds c)) ∙ parameters_wide ds (number_in ds c) ∙ ap (parameter_widths ds) (number_is c n)
        ∙ ap (λ (o : Option ℕ). option_map_or (parameter_widths ds) o []) (sym n.found);
  }

  local_is : (c : Copy) → IsOf ls c → LocalIs ds (table_written ds x) c.outer (local.Action (action_written ds x under c))
  local_is c of = by (outer_of ls c of) where
    by : (c.outer ≡ declared sort.Action c.action) ⊎ ((k : ℕ) × (c.outer ≡ copy k c.action)) → LocalIs ds (table_written ds x) c.outer (local.Action (action_written ds x under c))
    by (inl e) = subst (λ (o : Outer). LocalIs ds (table_written ds x) o (local.Action (action_written ds x under c))) (sym e) (copy_is c (copy_numbered c of) (declared sort.Action c.action) e)
    by (inr (k, e)) = subst (λ (o : Outer). LocalIs ds (table_written ds x) o (local.Action (action_written ds x under c))) (sym e) (copy_is c (copy_numbered c of) (copy k c.action) e)

  -- each copy of a pipeline is of a line
  pub each_of : (e : Bool) (c : Copy) → Has (copies_in ds x e) c → IsOf ls c
  each_of e c h = copies_of [] ls c (kept_has (in_pipeline e) (copies ds (is_in_egress ds x)) c h)

  copies_local : (cs : List Copy) → ((c : Copy) → Has cs c → IsOf ls c) → (things : List Outer) (more : List Local) → LocalsAre ds (table_written ds x) things more → LocalsAre ds (table_written ds x) (map (λ (c : Copy). c.outer) cs ++ things) (map (λ (c : Copy). local.Action (action_written ds x under c)) cs ++ more)
  copies_local [] of things more are = are
  copies_local (c ∷ cs) of things more are = (local_is c (of c (inl refl)), copies_local cs (λ d h. of d (inr h)) things more are)

  -- tables

  pub tables_there : (e : Bool) (n : Name) → Has (tables_in ds x e) n → Has (names_in sort.Table ds) n
  tables_there e n h = kept_has _ (names_in sort.Table ds) n h

  table_is : (n : Name) → Has (names_in sort.Table ds) n → TableIs ds (table_written ds x) n (table_written ds x n)
  table_is n h =
      let t = each_there ds n h in
      record { is = refl; called = refl; plane = ap (λ (o : Option Table). (unwrap_or o (no_table n)).name) t.1 ∙ named_so ds n t.0 t.1 }

  tables_local : (names : List Name) → ((n : Name) → Has names n → Has (names_in sort.Table ds) n) → LocalsAre ds (table_written ds x) (map (declared sort.Table) names) (map (λ (n : Name). local.Table (table_written ds x n)) names)
  tables_local [] there = tt
  tables_local (n ∷ names) there = (table_is n (there n (inl refl)), tables_local names (λ m h. there m (inr h)))

  pub locals_are : (e : Bool) → LocalsAre ds (table_written ds x) (pipeline_things ds (is_in_egress ds x) e (tables_in ds x e)) (locals_in ds x under e)
  locals_are e = copies_local (copies_in ds x e) (each_of e) (map (declared sort.Table) (tables_in ds x e)) _ (tables_local (tables_in ds x e) (tables_there e))
