-- The tables of a text are those of its two pipelines, in their order.
use Rattle.std.proofs.Common.{◌≡◌, inl, inr, Bool, true, false, cond, Some, None, List, [], ◌∷◌, ◌++◌, map, refl, sym, ap, ap₂, ◌∙◌}
use Rattle.std.specs.Prelude.{filter, filter_map, flat_map}
use Rattle.std.specs.Str.{bytes_eq}
use Rattle.std.proofs.lemmas.Slice.Eq.{bytes_eq-Decides}
use Rattle.p414_syntax.specs.declared.syntax.Decl.{Decl}
use Rattle.p414_syntax.specs.declared.syntax.Decl.TheVariants as decl
use Rattle.p414_syntax.specs.declared.syntax.Sort.TheVariants as sort
use Rattle.p414_syntax.specs.Views.{HeaderTypeTree}
use Rattle.p414_syntax.specs.Names.{Name}
use Rattle.p414_syntax.specs.Fields.{types}
use Rattle.p414_sem.specs.Expanded.{Expanded}
use Rattle.p416_syntax.specs.declared.controls.Table16.{Table16}
use Rattle.p416_syntax.specs.declared.controls.Local.{Local}
use Rattle.p416_syntax.specs.declared.controls.Local.TheVariants as local
use Rattle.p416_syntax.specs.declared.program.Decl16.{Decl16}
use Rattle.p416_syntax.specs.declared.program.Decl16.TheVariants as decl16
use Rattle.p416_syntax.specs.Declarations.{table_in}
use Rattle.p416_syntax.specs.Tables.{table_plane}
use Rattle.v1_core.specs.Signatures.{Placed, table_with}
use Rattle.agreement_of_meanings.specs.Shown.{Shown, as_header, as_stack, as_metadata}
use Rattle.lower_laws_names.specs.Reaches.{Outer, declared, copy}
use Rattle.lower_laws_names.specs.Types.{is_used, header_decl, header_decls, Member, members, struct_decl, struct_decls, headers_decl, metadata_decl, type_decls}
use Rattle.lower_laws_names.specs.Objects.{object_decl, object_decls, top_decls}
use Rattle.lower_laws_states.specs.Expansions.{Has}
use Rattle.lower_laws_declared.specs.Controls.{LocalIs, LocalsAre}
use Rattle.lower_laws_declared.proofs.Apart.{IsCopy, AreCopies}

-- at the top stand no blocks before those of the end
abbrev pub NoBlocks : List Decl16 → Type 0
NoBlocks [] = Unit {0}
NoBlocks (decl16.Control c ∷ ds) = ⊥
NoBlocks (d ∷ ds) = NoBlocks ds

no_blocks_more : (xs ys : List Decl16) → NoBlocks xs → NoBlocks ys → NoBlocks (xs ++ ys)
no_blocks_more [] ys a b = b
no_blocks_more (decl16.Control c ∷ xs) ys a b = absurd a
no_blocks_more (decl16.Header c ∷ xs) ys a b = no_blocks_more xs ys a b
no_blocks_more (decl16.Struct c ∷ xs) ys a b = no_blocks_more xs ys a b
no_blocks_more (decl16.Instance n c ∷ xs) ys a b = no_blocks_more xs ys a b
no_blocks_more (decl16.Parser c ∷ xs) ys a b = no_blocks_more xs ys a b

no_headers : (ds : List Decl) (ts : List HeaderTypeTree) → NoBlocks (map (header_decl ds) ts)
no_headers ds [] = tt
no_headers ds (t ∷ ts) = no_headers ds ts

no_structs : (ds : List Decl) (x : Expanded) (ms : List Member) → NoBlocks (filter_map (struct_decl ds x) ms)
no_structs ds x [] = tt
no_structs ds x (m ∷ ms) = by m.shown (no_structs ds x ms) where
  by : (s : Shown) → NoBlocks (filter_map (struct_decl ds x) ms) → NoBlocks (filter_map (struct_decl ds x) (record m { shown = s } ∷ ms))
  by (as_header n fs) e = e
  by (as_stack n fs) e = e
  by (as_metadata n fs) e = e

no_objects : (ds es : List Decl) → NoBlocks (filter_map (object_decl ds) es)
no_objects ds [] = tt
no_objects ds (decl.Counter c ∷ es) = no_objects ds es
no_objects ds (decl.Meter c ∷ es) = no_objects ds es
no_objects ds (decl.Register c ∷ es) = no_objects ds es
no_objects ds (_ ∷ es) = no_objects ds es

pub top_no_blocks : (ds : List Decl) (x : Expanded) → NoBlocks (top_decls ds x)
top_no_blocks ds x =
    no_blocks_more (type_decls ds x) (object_decls ds)
    (no_blocks_more (header_decls ds) (struct_decls ds x ++ headers_decl ds ∷ metadata_decl ds ∷ []) (no_headers ds (filter (is_used ds) (types ds))) (no_blocks_more (struct_decls ds x) (headers_decl ds ∷ metadata_decl ds ∷ []) (no_structs ds x (members ds)) tt))
    (no_objects ds ds)

-- so what is gathered of controls comes from the blocks
pub gathered : {X : Type 0} (f : Decl16 → List X) → ((d : Decl16) → NoBlocks (d ∷ []) → f d ≡ []) → (xs ys : List Decl16) → NoBlocks xs → flat_map f (xs ++ ys) ≡ flat_map f ys
gathered f none [] ys a = refl
gathered f none (decl16.Control c ∷ xs) ys a = absurd a
gathered f none (decl16.Header c ∷ xs) ys a = Rattle.std.proofs.lemmas.List.Concat.flat_map-cons f (decl16.Header c) (xs ++ ys) ∙ ap (λ l. l ++ flat_map f (xs ++ ys)) (none (decl16.Header c) tt) ∙ gathered f none xs ys a
gathered f none (decl16.Struct c ∷ xs) ys a = Rattle.std.proofs.lemmas.List.Concat.flat_map-cons f (decl16.Struct c) (xs ++ ys) ∙ ap (λ l. l ++ flat_map f (xs ++ ys)) (none (decl16.Struct c) tt) ∙ gathered f none xs ys a
gathered f none (decl16.Instance n c ∷ xs) ys a = Rattle.std.proofs.lemmas.List.Concat.flat_map-cons f (decl16.Instance n c) (xs ++ ys) ∙ ap (λ l. l ++ flat_map f (xs ++ ys)) (none (decl16.Instance n c) tt) ∙ gathered f none xs ys a
gathered f none (decl16.Parser c ∷ xs) ys a = Rattle.std.proofs.lemmas.List.Concat.flat_map-cons f (decl16.Parser c) (xs ++ ys) ∙ ap (λ l. l ++ flat_map f (xs ++ ys)) (none (decl16.Parser c) tt) ∙ gathered f none xs ys a

-- the tables of a control
no_table_in : (ds : List Decl) (as_table : Name → Table16) (y : Outer) (l : Local) → IsCopy y → LocalIs ds as_table y l → table_in l ≡ None
no_table_in ds as_table (declared sort.Action n) (local.Action a) is at = refl
no_table_in ds as_table (copy k n) (local.Action a) is at = refl
no_table_in ds as_table (declared sort.Table n) l is at = absurd is
no_table_in ds as_table _ _ is at = absurd at

own_tables : (ds : List Decl) (as_table : Name → Table16) (tables : List Name) (locals : List Local) → LocalsAre ds as_table (map (declared sort.Table) tables) locals → filter_map table_in locals ≡ map as_table tables
own_tables ds as_table [] [] are = refl
own_tables ds as_table [] (l ∷ locals) are = absurd are
own_tables ds as_table (n ∷ tables) [] are = absurd are
own_tables ds as_table (n ∷ tables) (local.Table t ∷ locals) are = ap₂ (λ (u : Table16) (us : List Table16). u ∷ us) are.0.is (own_tables ds as_table tables locals are.1)
own_tables ds as_table (n ∷ tables) (local.Action a ∷ locals) are = absurd are.0
own_tables ds as_table (n ∷ tables) (local.Var v ∷ locals) are = absurd are.0
own_tables ds as_table (n ∷ tables) (local.Instance notes i ∷ locals) are = absurd are.0

pub tables_are : (ds : List Decl) (as_table : Name → Table16) (front : List Outer) → AreCopies front → (tables : List Name) (locals : List Local) → LocalsAre ds as_table (front ++ map (declared sort.Table) tables) locals → filter_map table_in locals ≡ map as_table tables
tables_are ds as_table [] copies tables locals are = own_tables ds as_table tables locals are
tables_are ds as_table (y ∷ front) copies tables [] are = absurd are
tables_are ds as_table (y ∷ front) copies tables (l ∷ locals) are = rw (no_table_in ds as_table y l copies.0 are.0) (tables_are ds as_table front copies.1 tables locals are.1)

-- the table that is placed under a name
module _ (place : Table16 → Placed) (same : (t : Table16) → (place t).table ≡ t) (as_table : Name → Table16) (planes : (n : Name) → table_plane (as_table n) ≡ n) where
  pub placed_has : (names : List Name) (more : List Placed) (name : Name) → Has names name → table_with (map place (map as_table names) ++ more) name ≡ Some (place (as_table name))
  placed_has [] more name h = absurd h
  placed_has (n ∷ names) more name h = by (bytes_eq n name) refl h (placed_has names more name) where
    step : bytes_eq (table_plane (place (as_table n)).table) name ≡ bytes_eq n name
    step = ap (λ (t : Table16). bytes_eq (table_plane t) name) (same (as_table n)) ∙ ap (λ (m : Name). bytes_eq m name) (planes n)

    by : (b : Bool) → bytes_eq n name ≡ b → Has (n ∷ names) name → (Has names name → table_with (map place (map as_table names) ++ more) name ≡ Some (place (as_table name))) → cond (bytes_eq (table_plane (place (as_table n)).table) name) (Some (place (as_table n))) (table_with (map place (map as_table names) ++ more) name) ≡ Some (place (as_table name))
    by true e h rest = ap (λ (b : Bool). cond b (Some (place (as_table n))) (table_with (map place (map as_table names) ++ more) name)) (step ∙ e) ∙ ap (λ (m : Name). Some (place (as_table m))) ((bytes_eq-Decides n name).0 e)
    by false e (inr h) rest = ap (λ (b : Bool). cond b (Some (place (as_table n))) (table_with (map place (map as_table names) ++ more) name)) (step ∙ e) ∙ rest h
    by false e (inl is) rest = absurd (cc (e, (bytes_eq-Decides n name).1 is))

  pub placed_lacks : (names : List Name) (more : List Placed) (name : Name) → (Has names name → ⊥) → table_with (map place (map as_table names) ++ more) name ≡ table_with more name
  placed_lacks [] more name none = refl
  placed_lacks (n ∷ names) more name none = ap (λ (b : Bool). cond b (Some (place (as_table n))) (table_with (map place (map as_table names) ++ more) name)) (by (bytes_eq (table_plane (place (as_table n)).table) name) refl) ∙ placed_lacks names more name (λ h. none (inr h)) where
    by : (b : Bool) → bytes_eq (table_plane (place (as_table n)).table) name ≡ b → bytes_eq (table_plane (place (as_table n)).table) name ≡ false
    by false e = e
    by true e = absurd (none (inl (sym (ap table_plane (same (as_table n)) ∙ planes n) ∙ (bytes_eq-Decides (table_plane (place (as_table n)).table) name).0 e)))
