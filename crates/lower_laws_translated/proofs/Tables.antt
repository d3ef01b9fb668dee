-- The tables of a pipeline are all that its statements ask of them.
use Rattle.std.proofs.Common.{◌≡◌, ◌⊎◌, inl, inr, ℕ, zero, suc, ◌<◌, Bool, true, false, cond, Option, Some, None, option_map, List, [], ◌∷◌, ◌++◌, length, get_or, refl, sym, ap, ◌∙◌, subst, arith}
use Rattle.std.specs.Prelude.{filter_map, slice_get, unwrap_or}
use Rattle.match_core.specs.declared.entries.Entries.{Entries}
use Rattle.match_core.specs.Fits.{Fits}
use Rattle.state_store.specs.State.{Contents}
use Rattle.p414_syntax.specs.declared.syntax.Decl.{Decl}
use Rattle.p414_syntax.specs.declared.syntax.Decl.TheVariants as decl
use Rattle.p414_syntax.specs.declared.syntax.Rule14.{Rule14}
use Rattle.p414_syntax.specs.declared.syntax.Sort.TheVariants as sort
use Rattle.p414_syntax.specs.declared.tables.Table.{Table}
use Rattle.p414_syntax.specs.Attributes.{reads_of, direct_table_of}
use Rattle.p414_syntax.specs.Tree.{Stmt}
use Rattle.p414_syntax.specs.Names.{Name, names_in, name_in}
use Rattle.p414_syntax.specs.Tables.{tables, listed_in}
use Rattle.p414_sem.specs.Expanded.{Expanded}
use Rattle.p414_sem.specs.Operations.{in_order, object_number}
use Rattle.p414_sem.specs.Signatures.{counts_entries_of, first_name, direct_counter, table_of, signature14}
use Rattle.v1_core.specs.declared.block.Block.{Block}
use Rattle.v1_core.specs.Frames.{of_headers, of_metadata, of_standard}
use Rattle.v1_core.specs.Signatures.{direct_number}
use Rattle.v1_core.specs.Blocks.{owners_of}
use Rattle.lower_laws_names.specs.NewNames.{new_name}
use Rattle.lower_laws_base.specs.Context.{ObjectName, object_at}
use Rattle.std.specs.Str.{bytes_eq}
use Rattle.lower_laws_controls.specs.Keys.{KeysFit}
use Rattle.lower_laws_controls.specs.Written.{table_text}
use Rattle.lower_laws_controls.specs.Listing.{Each}
use Rattle.lower_laws_controls.proofs.Tables.{CopyDeclared}
use Rattle.p414_sem.specs.Signatures.{table_sig as table_sig14}
use Rattle.v1_core.specs.Signatures.{table_sig as table_sig16}
use Rattle.lower_laws_controls.proofs.Listing.{signatures_same}
use Rattle.lower_laws_controls.proofs.Written.{TableFits, table_written as table_written16}
use Rattle.lower_laws_controls.proofs.Whole.{NamesSame}
use Rattle.lower_laws_controls.proofs.Fills.{TableDeclared, table_found}
use Rattle.lower_laws_states.specs.Expansions.{Has}
use Rattle.lower_laws_states.proofs.Members.{has_at, picked_has, has_picked}
use Rattle.lower_laws_states.proofs.Filling.{in_order_has, has_found, named_so, table_numbered}
use Rattle.lower_laws_program.specs.Program.{syntax_of}
use Rattle.lower_laws_declared.specs.Objects.{objects_by_number}
use Rattle.lower_laws_declared.proofs.Objects.{objects_count, object_name_at}
use Rattle.lower_laws_declared.proofs.Pipelines.{table_declared}
use Rattle.lower_laws_translated.specs.Given.{IsGiven}
use Rattle.lower_laws_translated.specs.Translated.{counter_called, is_in_egress, tables_in, table_written, rule_in, locals_in, plan, no_table, pipeline_words}
use Rattle.lower_laws_translated.proofs.Locals.{locals_are}
use Rattle.lower_laws_translated.proofs.Acts.{p, control, b, c14, outer, outer_sees, tables_declared}
use Rattle.lower_laws_translated.proofs.Defaults.{default_fits}
use Rattle.lower_laws_translated.proofs.Listed.{tables_once, listed_copy}
use Rattle.lower_laws_controls.specs.Whole.{TableFound}

-- what counts the entries of a table is an object
counts : (ds : List Decl) (table : Name) (d : Decl) (n : Name) → counts_entries_of table d ≡ Some n → name_in sort.Object d ≡ Some n
counts ds table (decl.Counter x) n e = of (direct_table_of x.attributes) refl e where
  of : (o : Option Name) → direct_table_of x.attributes ≡ o → counts_entries_of table (decl.Counter x) ≡ Some n → Some x.name ≡ Some n
  of None f e = let none : counts_entries_of table (decl.Counter x) ≡ None = rw f refl in absurd (cc (none, e))
  of (Some t) f e = let some : counts_entries_of table (decl.Counter x) ≡ cond (bytes_eq t table) (Some x.name) None = rw f refl in told (bytes_eq t table) (sym some ∙ e) where
    told : (b : Bool) → cond b (Some x.name) None ≡ Some n → Some x.name ≡ Some n
    told true e = e
    told false e = absurd (cc e)
counts ds table _ n e = absurd (cc e)

each_has : {X : Type 0} (P : X → Type 0) (xs : List X) → ((x : X) → Has xs x → P x) → Each P xs
each_has P [] f = tt
each_has P (x ∷ xs) f = (f x (inl refl), each_has P xs (λ y h. f y (inr h)))

module _ (ds : List Decl) (x : Expanded) (given : IsGiven ds x) (under : Rule14) (entries : Entries) (e : Bool) (text : Name) (body : Stmt) (which : Block) (owners : owners_of which ≡ of_headers ∷ of_metadata ∷ of_standard ∷ []) where
  -- an object has one number in both programs
  object_is : (n : Name) → Has (names_in sort.Object ds) n → direct_number (b ds x given under entries e text body which owners).setting.syntax (b ds x given under entries e text body which owners).locals (new_name ds sort.Object n) ≡ object_number ds n
  object_is n h =
      let found = has_found (in_order (names_in sort.Object ds)) n (in_order_has (names_in sort.Object ds) n h) in
      let j = found.0 in
      let lt : j < length (objects_by_number ds) = omega (arith, slice_within (in_order (names_in sort.Object ds)) j n found.2, objects_count ds) in
      let called : (object_at (objects_by_number ds) j).called ≡ new_name ds sort.Object n = ap (λ (o : ObjectName). o.called) (object_name_at ds j lt) ∙ ap (new_name ds sort.Object) (got_or (in_order (names_in sort.Object ds)) j n found.2) in
      ap (λ (z : Name). direct_number (b ds x given under entries e text body which owners).setting.syntax (b ds x given under entries e text body which owners).locals z) (sym called)
      ∙ (outer_sees ds x given under entries e text body which owners).declares.numbered j lt
      ∙ sym (ap (λ (o : Option ℕ). unwrap_or o (length (in_order (names_in sort.Object ds)))) found.1)
    where
      slice_within : (names : List Name) (j : ℕ) (n : Name) → slice_get names j ≡ Some n → j < length names
      slice_within [] j n e = absurd (cc e)
      slice_within (m ∷ names) zero n e = omega arith
      slice_within (m ∷ names) (suc j) n e = omega (arith, slice_within names j n e)

      got_or : (names : List Name) (j : ℕ) (n : Name) → slice_get names j ≡ Some n → get_or names j [] ≡ n
      got_or [] j n e = absurd (cc e)
      got_or (m ∷ names) zero n e = cc e
      got_or (m ∷ names) (suc j) n e = got_or names j n e

  counter_is : (table : Name) → option_map (direct_number (b ds x given under entries e text body which owners).setting.syntax (b ds x given under entries e text body which owners).locals) (counter_called ds table) ≡ direct_counter ds table
  counter_is table = by (filter_map (counts_entries_of table) ds) refl where
    by : (names : List Name) → filter_map (counts_entries_of table) ds ≡ names → option_map (direct_number (b ds x given under entries e text body which owners).setting.syntax (b ds x given under entries e text body which owners).locals) (option_map (new_name ds sort.Object) (first_name names)) ≡ option_map (object_number ds) (first_name names)
    by [] e = refl
    by (n ∷ names) e =
        let d = picked_has (counts_entries_of table) ds n (subst (λ (l : List Name). Has l n) (sym e) (inl refl)) in
        ap Some (object_is n (has_picked (name_in sort.Object) ds d.0 n d.1 (counts ds table d.0 n d.2)))

  module _ (keys : (t : Table) → Has (tables ds) t → KeysFit (outer ds x given under entries e text body which owners).layout ds (reads_of t.attributes)) where
    table_fits : (name : Name) → Has (tables_in ds x e) name → (t : Table) → table_of ds name ≡ Some t → TableFits (outer ds x given under entries e text body which owners) (c14 ds x given under entries e text body which owners) (b ds x given under entries e text body which owners) ((plan ds x).copy name) (counter_called ds name) t
    table_fits name h t is =
        let n = table_numbered ds name t is in
        let there = has_at (tables ds) n.0 t n.2 in
        record {
          keys = keys t there;
          copies = each_has (CopyDeclared (outer ds x given under entries e text body which owners) (c14 ds x given under entries e text body which owners) (b ds x given under entries e text body which owners) ((plan ds x).copy name) (direct_counter ds t.name)) (listed_in t) (λ action listed. listed_copy ds x given under entries e text body which owners name h t is action listed);
          counter_is = counter_is name ∙ ap (direct_counter ds) (sym (named_so ds name t is));
          default = default_fits ds given.none given.short t there;
        }

    declared_there : (name : Name) → Has (tables_in ds x e) name → TableDeclared (outer ds x given under entries e text body which owners) (c14 ds x given under entries e text body which owners) (b ds x given under entries e text body which owners) (plan ds x) name
    declared_there name h =
        table_declared ds given.none given.short (p ds x given under entries e text body which owners) (is_in_egress ds x) e (tables_in ds x e) (tables_once ds x given under entries e text body which owners) (tables_declared ds x given under entries e text body which owners) (table_written ds x) (locals_in ds x under e) (locals_are ds given.none given.short x under e) entries which (control ds x given under entries e text body which owners) (rule_in ds x under e) refl refl
        (outer ds x given under entries e text body which owners) (c14 ds x given under entries e text body which owners) refl name h (counter_called ds name)
        (λ t is. (table_fits name h t is, ap (λ (o : Option Table). table_text (pipeline_words ds) ds ((plan ds x).copy name) ((plan ds x).table name) (counter_called ds name) (unwrap_or o (no_table name))) is))

    -- what statements ask of a table that stands in this pipeline
    pub found_there : Fits entries (signature14 ds) → NamesSame ds (syntax_of (p ds x given under entries e text body which owners)) → Contents → (name : Name) → Has (tables_in ds x e) name → TableFound (outer ds x given under entries e text body which owners) (b ds x given under entries e text body which owners).scope (c14 ds x given under entries e text body which owners) (b ds x given under entries e text body which owners) (plan ds x) name
    found_there fit same store name h =
        table_found (outer ds x given under entries e text body which owners) (c14 ds x given under entries e text body which owners) (b ds x given under entries e text body which owners) (plan ds x) refl refl (outer_sees ds x given under entries e text body which owners) refl fit same store name (declared_there name h)

    -- one signature
    pub signature_there : Contents → (name : Name) → Has (tables_in ds x e) name → (t : Table) → table_of ds name ≡ Some t → table_sig16 (b ds x given under entries e text body which owners).setting.syntax (b ds x given under entries e text body which owners).locals (b ds x given under entries e text body which owners).scope (table_written ds x name) ≡ table_sig14 ds t
    signature_there store name h t is =
        let c = outer ds x given under entries e text body which owners in
        let at = b ds x given under entries e text body which owners in
        ap (λ (o : Option Table). table_sig16 at.setting.syntax at.locals at.scope (table_text (pipeline_words ds) ds ((plan ds x).copy name) ((plan ds x).table name) (counter_called ds name) (unwrap_or o (no_table name)))) is
        ∙ signatures_same c ds at ((plan ds x).copy name) t _ (table_written16 c (c14 ds x given under entries e text body which owners) at ((plan ds x).copy name) ((plan ds x).table name) (counter_called ds name) t (table_fits name h t is)).is refl refl (outer_sees ds x given under entries e text body which owners) store
