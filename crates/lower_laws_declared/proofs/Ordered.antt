-- What a struct holds is declared before it (C2).
use Rattle.std.proofs.Common.{◌≡◌, inl, inr, ℕ, ◌+◌, ◌<◌, Bool, true, false, ◌||◌, ◌&&◌, List, [], ◌∷◌, ◌++◌, map, refl, sym, ap, ap₂, ◌∙◌, subst}
use Rattle.std.specs.Prelude.{filter, filter_map}
use Rattle.std.specs.List.{list_all, list_any}
use Rattle.std.specs.Str.{bytes_eq}
use Rattle.std.proofs.lemmas.List.{append_assoc}
use Rattle.std.proofs.lemmas.List.Folds.{list_any-append}
use Rattle.std.proofs.lemmas.Slice.Eq.{bytes_eq-Decides}
use Rattle.p414_syntax.specs.declared.syntax.Decl.{Decl}
use Rattle.p414_syntax.specs.declared.syntax.Decl.TheVariants as decl
use Rattle.p414_syntax.specs.declared.syntax.Sort.TheVariants as sort
use Rattle.p414_syntax.specs.Views.{HeaderTypeTree}
use Rattle.p414_syntax.specs.Fields.{types}
use Rattle.p414_sem.specs.Expanded.{Expanded}
use Rattle.p416_syntax.specs.declared.program.Decl16.{Decl16}
use Rattle.p416_syntax.specs.Names.{Name, has_name}
use Rattle.p416_syntax.specs.Unknown.{declared_name, held_names, field_type_name}
use Rattle.agreement_of_meanings.specs.Shown.{NamedField, Shown, as_header, as_stack, as_metadata, is_metadata}
use Rattle.lower_laws_names.specs.NewNames.{new_name}
use Rattle.lower_laws_names.specs.Types.{has_type, is_used, header_decl, header_decls, Member, members, struct_fields_from, struct_decl, struct_decls, header_member, metadata_member, headers_decl, metadata_decl, type_decls}
use Rattle.lower_laws_names.specs.Objects.{object_decl, object_decls, top_decls}
use Rattle.lower_laws_names.specs.Declared.{Among}
use Rattle.lower_laws_names.proofs.Declared.{type_named, OfHeader, Origin, origin}
use Rattle.lower_laws_names.proofs.Types.{among_map, among_filter, among_some}
use Rattle.lower_laws_states.specs.Laws.{BreaksNo}
use Rattle.lower_laws_rules.specs.Whole.{IsOrdered}
use Rattle.lower_laws_program.specs.Program.{Parts, blocks_of, decls_of}
use Rattle.lower_laws_program.specs.TypesFit.{struct_of}
use Rattle.lower_laws_declared.specs.Controls.{PartsAre}
use Rattle.lower_laws_declared.proofs.Accepted.{types_known}

ordered_more : (seen : List Name) (xs ys : List Decl16) → IsOrdered seen xs → IsOrdered (seen ++ map declared_name xs) ys → IsOrdered seen (xs ++ ys)
ordered_more seen [] ys a b = subst (λ (l : List Name). IsOrdered l ys) (Rattle.std.proofs.lemmas.List.append-nil seen) b
ordered_more seen (x ∷ xs) ys a b =
    (a.0, ordered_more (seen ++ declared_name x ∷ []) xs ys a.1 (subst (λ (l : List Name). IsOrdered l ys) (sym (append_assoc seen (declared_name x ∷ []) (map declared_name xs))) b))

-- these hold nothing
abbrev HoldNone : List Decl16 → Type 0
HoldNone [] = Unit {0}
HoldNone (d ∷ ds) = (held_names d ≡ []) × HoldNone ds

plain : (seen : List Name) (xs : List Decl16) → HoldNone xs → IsOrdered seen xs
plain seen [] h = tt
plain seen (x ∷ xs) h = (ap (list_all (has_name seen)) h.0, plain (seen ++ declared_name x ∷ []) xs h.1)

headers_hold : (ds : List Decl) (ts : List HeaderTypeTree) → HoldNone (map (header_decl ds) ts)
headers_hold ds [] = tt
headers_hold ds (t ∷ ts) = (refl, headers_hold ds ts)

bits_hold : (ds : List Decl) (x : Expanded) (k f : ℕ) (fields : List NamedField) → filter_map field_type_name (struct_fields_from ds x k f fields) ≡ []
bits_hold ds x k f [] = refl
bits_hold ds x k f (field ∷ fields) = bits_hold ds x k (f + 1) fields

structs_hold : (ds : List Decl) (x : Expanded) (ms : List Member) → HoldNone (filter_map (struct_decl ds x) ms)
structs_hold ds x [] = tt
structs_hold ds x (m ∷ ms) = by m.shown (structs_hold ds x ms) where
  by : (s : Shown) → HoldNone (filter_map (struct_decl ds x) ms) → HoldNone (filter_map (struct_decl ds x) (record m { shown = s } ∷ ms))
  by (as_header n fs) e = e
  by (as_stack n fs) e = e
  by (as_metadata n fs) e = (bits_hold ds x m.number 0 fs, e)

objects_hold : (ds es : List Decl) → HoldNone (filter_map (object_decl ds) es)
objects_hold ds [] = tt
objects_hold ds (decl.Counter c ∷ es) = (refl, objects_hold ds es)
objects_hold ds (decl.Meter c ∷ es) = (refl, objects_hold ds es)
objects_hold ds (decl.Register c ∷ es) = (refl, objects_hold ds es)
objects_hold ds (_ ∷ es) = objects_hold ds es

-- names that were declared

or_left : (a b : Bool) → a ≡ true → a || b ≡ true
or_left true b e = refl
or_left false b e = absurd (cc e)

or_right : (a b : Bool) → b ≡ true → a || b ≡ true
or_right true b e = refl
or_right false b e = e

among_named : (d : Decl16) (xs : List Decl16) → Among d xs → has_name (map declared_name xs) (declared_name d) ≡ true
among_named d [] h = absurd h
among_named d (x ∷ xs) (inl e) = or_left _ _ ((bytes_eq-Decides (declared_name d) (declared_name x)).1 (ap declared_name (sym e)))
among_named d (x ∷ xs) (inr h) = or_right (bytes_eq (declared_name d) (declared_name x)) _ (among_named d xs h)

seen_left : (xs ys : List Name) (n : Name) → has_name xs n ≡ true → has_name (xs ++ ys) n ≡ true
seen_left xs ys n e = list_any-append (bytes_eq n) xs ys ∙ or_left (has_name xs n) (has_name ys n) e

seen_right : (xs ys : List Name) (n : Name) → has_name ys n ≡ true → has_name (xs ++ ys) n ≡ true
seen_right xs ys n e = list_any-append (bytes_eq n) xs ys ∙ or_right (has_name xs n) (has_name ys n) e

-- the two structs hold types that were declared
all_headers : (seen : List Name) (ms : List Member) → ((m : Member) → Among m ms → is_metadata m.shown ≡ false → has_name seen m.type ≡ true) → list_all (has_name seen) (filter_map field_type_name (filter_map header_member ms)) ≡ true
all_headers seen [] each = refl
all_headers seen (m ∷ ms) each = by m.shown refl (all_headers seen ms (λ n h. each n (inr h))) where
  by : (s : Shown) → m.shown ≡ s → list_all (has_name seen) (filter_map field_type_name (filter_map header_member ms)) ≡ true → list_all (has_name seen) (filter_map field_type_name (filter_map header_member (m ∷ ms))) ≡ true
  by (as_header n fs) e rest = ap (λ (s : Shown). list_all (has_name seen) (filter_map field_type_name (filter_map header_member (record m { shown = s } ∷ ms)))) e ∙ ap₂ (λ (a b : Bool). a && b) (each m (inl refl) (ap is_metadata e)) rest
  by (as_stack n fs) e rest = ap (λ (s : Shown). list_all (has_name seen) (filter_map field_type_name (filter_map header_member (record m { shown = s } ∷ ms)))) e ∙ ap₂ (λ (a b : Bool). a && b) (each m (inl refl) (ap is_metadata e)) rest
  by (as_metadata n fs) e rest = ap (λ (s : Shown). list_all (has_name seen) (filter_map field_type_name (filter_map header_member (record m { shown = s } ∷ ms)))) e ∙ rest

all_metadata : (seen : List Name) (ms : List Member) → ((m : Member) → Among m ms → is_metadata m.shown ≡ true → has_name seen m.type ≡ true) → list_all (has_name seen) (filter_map field_type_name (filter_map metadata_member ms)) ≡ true
all_metadata seen [] each = refl
all_metadata seen (m ∷ ms) each = by m.shown refl (all_metadata seen ms (λ n h. each n (inr h))) where
  by : (s : Shown) → m.shown ≡ s → list_all (has_name seen) (filter_map field_type_name (filter_map metadata_member ms)) ≡ true → list_all (has_name seen) (filter_map field_type_name (filter_map metadata_member (m ∷ ms))) ≡ true
  by (as_metadata n fs) e rest = ap (λ (s : Shown). list_all (has_name seen) (filter_map field_type_name (filter_map metadata_member (record m { shown = s } ∷ ms)))) e ∙ ap₂ (λ (a b : Bool). a && b) (each m (inl refl) (ap is_metadata e)) rest
  by (as_header n fs) e rest = ap (λ (s : Shown). list_all (has_name seen) (filter_map field_type_name (filter_map metadata_member (record m { shown = s } ∷ ms)))) e ∙ rest
  by (as_stack n fs) e rest = ap (λ (s : Shown). list_all (has_name seen) (filter_map field_type_name (filter_map metadata_member (record m { shown = s } ∷ ms)))) e ∙ rest

module _ (ds : List Decl) (none : BreaksNo ds) (x : Expanded) where
  header_there : (m : Member) → OfHeader ds m → has_name (map declared_name (header_decls ds)) m.type ≡ true
  header_there m o =
      let there = type_named ds o.type o.tree o.found in
      let used : is_used ds o.tree ≡ true = ap (λ (n : Name). list_any (has_type n) ds) there.0 ∙ o.used in
      subst (λ (n : Name). has_name (map declared_name (header_decls ds)) n ≡ true) (ap (new_name ds sort.HeaderType) there.0 ∙ sym o.is)
      (among_named (header_decl ds o.tree) (header_decls ds) (among_map (header_decl ds) o.tree (filter (is_used ds) (types ds)) (among_filter (is_used ds) o.tree (types ds) used there.1)))

  header_seen : (m : Member) → Among m (members ds) → is_metadata m.shown ≡ false → has_name (map declared_name (header_decls ds)) m.type ≡ true
  header_seen m h is = by m.shown (origin ds 0 0 ds (λ d g. (g, types_known ds none d g)) m h) is where
    by : (s : Shown) → Origin ds m s → is_metadata s ≡ false → has_name (map declared_name (header_decls ds)) m.type ≡ true
    by (as_header n fs) o is = header_there m o
    by (as_stack n fs) o is = header_there m o
    by (as_metadata n fs) o is = absurd (cc is)

  struct_seen : (m : Member) → Among m (members ds) → is_metadata m.shown ≡ true → has_name (map declared_name (struct_decls ds x)) m.type ≡ true
  struct_seen m h is = by m.shown refl is where
    by : (s : Shown) → m.shown ≡ s → is_metadata s ≡ true → has_name (map declared_name (struct_decls ds x)) m.type ≡ true
    by (as_metadata n fs) e is = among_named (struct_of m.type (struct_fields_from ds x m.number 0 fs)) (struct_decls ds x) (among_some (struct_decl ds x) m (struct_of m.type (struct_fields_from ds x m.number 0 fs)) (members ds) (ap (λ (s : Shown). struct_decl ds x (record m { shown = s })) e) h)
    by (as_header n fs) e is = absurd (cc is)
    by (as_stack n fs) e is = absurd (cc is)

  abbrev seen : List Name
  seen = map declared_name (header_decls ds) ++ map declared_name (struct_decls ds x)

  types_ordered : IsOrdered [] (type_decls ds x)
  types_ordered =
      ordered_more [] (header_decls ds) (struct_decls ds x ++ headers_decl ds ∷ metadata_decl ds ∷ []) (plain [] (header_decls ds) (headers_hold ds (filter (is_used ds) (types ds))))
      (ordered_more (map declared_name (header_decls ds)) (struct_decls ds x) (headers_decl ds ∷ metadata_decl ds ∷ []) (plain (map declared_name (header_decls ds)) (struct_decls ds x) (structs_hold ds x (members ds))) (
        all_headers seen (members ds) (λ m h is. seen_left (map declared_name (header_decls ds)) (map declared_name (struct_decls ds x)) m.type (header_seen m h is)),
        (all_metadata (seen ++ declared_name (headers_decl ds) ∷ []) (members ds) (λ m h is. seen_left seen (declared_name (headers_decl ds) ∷ []) m.type (seen_right (map declared_name (header_decls ds)) (map declared_name (struct_decls ds x)) m.type (struct_seen m h is))), tt),
      ))

  pub parts_ordered : (p : Parts) → PartsAre ds x p → IsOrdered [] (decls_of p)
  parts_ordered p are = subst (λ (l : List Decl16). IsOrdered [] (l ++ blocks_of p)) (sym are.types)
      (ordered_more [] (top_decls ds x) (blocks_of p) (ordered_more [] (type_decls ds x) (object_decls ds) types_ordered (plain (map declared_name (type_decls ds x)) (object_decls ds) (objects_hold ds ds)))
      (plain (map declared_name (top_decls ds x)) (blocks_of p) (refl, (refl, (refl, (refl, (refl, (refl, tt))))))))
