-- The names at the top don't repeat.
use Rattle.std.proofs.Common.{◌≡◌, ◌≢◌, ℕ, ◌+◌, ◌<◌, ◌≤◌, ◌^◌, Bool, true, false, ◌&&◌, not, cond, Option, Some, None, List, [], ◌∷◌, ◌++◌, length, map, filter_map, refl, sym, ap, ◌∙◌, subst, arith}
use Rattle.std.specs.List.{list_any, list_all, filter}
use Rattle.std.specs.Prelude.{codes}
use Rattle.std.specs.Str.{bytes_eq}
use Rattle.std.proofs.lemmas.Bool.{true≢false, and_parts}
use Rattle.std.proofs.lemmas.List.{append_assoc, map-append}
use Rattle.std.proofs.lemmas.List.Folds.{list_any-append}
use Rattle.std.proofs.lemmas.Slice.Eq.{bytes_eq-Decides}
use Rattle.p414_syntax.specs.declared.lexeme.Literal.{Literal}
use Rattle.p414_syntax.specs.declared.syntax.Decl.{Decl}
use Rattle.p414_syntax.specs.declared.syntax.Decl.TheVariants as decl
use Rattle.p414_syntax.specs.declared.syntax.Sort.{Sort}
use Rattle.p414_syntax.specs.declared.syntax.Sort.TheVariants as sort
use Rattle.p414_syntax.specs.Attributes.{direct_table_of}
use Rattle.p414_syntax.specs.Views.{HeaderTypeTree}
use Rattle.p414_syntax.specs.Names.{name_in, names_in, has_name as has_name14, repeats_behind, repeats as repeats14}
use Rattle.p414_syntax.specs.Totals.{elements_of}
use Rattle.p414_syntax.specs.Fields.{types}
use Rattle.p414_sem.specs.Expanded.{Expanded}
use Rattle.p416_syntax.specs.declared.program.Decl16.{Decl16}
use Rattle.p416_syntax.specs.declared.program.Syntax16.{Syntax16}
use Rattle.p416_syntax.specs.Names.{Name, has_name, repeats}
use Rattle.p416_syntax.specs.Scopes.{called_of}
use Rattle.p416_syntax.specs.BuiltIn.{built_in}
use Rattle.p416_syntax.specs.Declarations.{instance_name, top_name, top_names}
use Rattle.p416_syntax.specs.Unknown.{declares_twice}
use Rattle.lower_laws_names.specs.Words.{outer_words}
use Rattle.lower_laws_names.specs.NewNames.{new_name}
use Rattle.lower_laws_names.specs.Reaches.{IsOuter, Outer, declared, struct, copy, fixed, outer_name, AreTwo, AreIn, IsNoneOf, AreEachOnce}
use Rattle.lower_laws_names.proofs.Lists.{not_again, itself}
use Rattle.lower_laws_names.proofs.OneSort.{AreNumbered, all_numbered, sort_once}
use Rattle.lower_laws_names.proofs.Proved.{outer_names_differ}
use Rattle.lower_laws_names.specs.Instances.{shown_header, HasNames}
use Rattle.lower_laws_names.specs.Types.{header_decl, is_used, header_decls, Member, members_from, struct_decl, struct_decls, headers_decl, metadata_decl}
use Rattle.lower_laws_names.specs.Objects.{counter_instance, object_decl, object_decls, top_decls, block_names}
use Rattle.lower_laws_names.specs.Declared.{decl_name}
use Rattle.lower_laws_names.specs.Copies.{Listing, listings, is_same_bit, is_same_table, copies_behind, copies, outers, control_words, LinesFit, AllNumbered}
use Rattle.lower_laws_names.proofs.Copies.{seen, put, none_put, in_put, behind_is, copies_once}
use Rattle.lower_laws_names.proofs.Types.{or_parts}
use Rattle.lower_laws_names.proofs.Declared.{tree_name, type_names}

-- lists of things put together

abbrev pub AreAcross : List Outer → List Outer → Type 0
AreAcross [] ys = Unit {0}
AreAcross (x ∷ xs) ys = IsNoneOf x ys × AreAcross xs ys

pub none_both : (x : Outer) (ys zs : List Outer) → IsNoneOf x ys → IsNoneOf x zs → IsNoneOf x (ys ++ zs)
none_both x [] zs a b = b
none_both x (y ∷ ys) zs a b = (a.0, none_both x ys zs a.1 b)

pub once_both : (xs ys : List Outer) → AreEachOnce xs → AreEachOnce ys → AreAcross xs ys → AreEachOnce (xs ++ ys)
once_both [] ys a b c = b
once_both (x ∷ xs) ys a b c = (none_both x xs ys a.0 c.0, once_both xs ys a.1 b c.1)

pub in_both : (ds : List Decl) (xs ys : List Outer) → AreIn ds xs → AreIn ds ys → AreIn ds (xs ++ ys)
in_both ds [] ys a b = b
in_both ds (x ∷ xs) ys a b = (a.0, in_both ds xs ys a.1 b)

pub across_both : (xs ys zs : List Outer) → AreAcross xs ys → AreAcross xs zs → AreAcross xs (ys ++ zs)
across_both [] ys zs a b = tt
across_both (x ∷ xs) ys zs a b = (none_both x ys zs a.0 b.0, across_both xs ys zs a.1 b.1)

pub both_across : (xs ys zs : List Outer) → AreAcross xs zs → AreAcross ys zs → AreAcross (xs ++ ys) zs
both_across [] ys zs a b = b
both_across (x ∷ xs) ys zs a b = (a.0, both_across xs ys zs a.1 b)

pub none_map : {B : Type 0} (x : Outer) (g : B → Outer) → ((b : B) → AreTwo x (g b)) → (ys : List B) → IsNoneOf x (map g ys)
none_map {B} x g two [] = tt
none_map {B} x g two (y ∷ ys) = (two y, none_map x g two ys)

pub across_maps : {A B : Type 0} (f : A → Outer) (g : B → Outer) → ((a : A) (b : B) → AreTwo (f a) (g b)) → (xs : List A) (ys : List B) → AreAcross (map f xs) (map g ys)
across_maps {A} {B} f g two [] ys = tt
across_maps {A} {B} f g two (x ∷ xs) ys = (none_map (f x) g (two x) ys, across_maps f g two xs ys)

-- names that don't repeat

unlike : (n m : Name) → bytes_eq n m ≡ false → n ≢ m
unlike n m e same = true≢false (sym ((bytes_eq-Decides n m).1 same) ∙ e)

none_named : (s : Sort) (n : Name) (names : List Name) → has_name14 names n ≡ false → IsNoneOf (declared s n) (map (declared s) names)
none_named s n [] e = tt
none_named s n (m ∷ names) e =
    let both = or_parts (bytes_eq n m) (has_name14 names n) e in
    (λ same. unlike n m both.0, none_named s n names both.1)

named_behind : (s : Sort) (before names : List Name) → repeats_behind before names ≡ false → AreEachOnce (map (declared s) names)
named_behind s before [] e = tt
named_behind s before (n ∷ names) e =
    let both = or_parts (has_name14 before n) (repeats_behind (before ++ n ∷ []) names) e in
    (none_named s n names (not_again (before ++ n ∷ []) names n (itself before n) both.1), named_behind s (before ++ n ∷ []) names both.1)

pub named_once : (s : Sort) (names : List Name) → repeats14 names ≡ false → AreEachOnce (map (declared s) names)
named_once s names e = named_behind s [] names e

pub named_in : (ds : List Decl) (s : Sort) → IsOuter s → (names : List Name) → AllNumbered ds s names → AreIn ds (map (declared s) names)
named_in ds s o [] d = tt
named_in ds s o (n ∷ names) d = ((o, d.0), named_in ds s o names d.1)

every : (ds : List Decl) (s : Sort) (names : List Name) → AreNumbered ds s names → AllNumbered ds s names
every ds s [] d = tt
every ds s (n ∷ names) d = (d.0, every ds s names d.1)

fixed_none : (n : Name) (names : List Name) → has_name names n ≡ false → IsNoneOf (fixed n) (map fixed names)
fixed_none n [] e = tt
fixed_none n (m ∷ names) e =
    let both = or_parts (bytes_eq n m) (has_name names n) e in (unlike n m both.0, fixed_none n names both.1)

pub fixed_once : (names : List Name) → repeats names ≡ false → AreEachOnce (map fixed names)
fixed_once [] e = tt
fixed_once (n ∷ names) e =
    let both = or_parts (has_name names n) (repeats names) e in (fixed_none n names both.0, fixed_once names both.1)

pub fixed_in : (ds : List Decl) (names : List Name) → list_all (has_name outer_words) names ≡ true → AreIn ds (map fixed names)
fixed_in ds [] e = tt
fixed_in ds (n ∷ names) e =
    let both = and_parts (has_name outer_words n) (list_all (has_name outer_words) names) e in (both.0, fixed_in ds names both.1)

-- some of a list

none_filter : {A : Type 0} (f : A → Outer) (p : A → Bool) (x : Outer) (xs : List A) → IsNoneOf x (map f xs) → IsNoneOf x (map f (filter p xs))
none_filter {A} f p x [] a = tt
none_filter {A} f p x (y ∷ xs) a = by (p y) (none_filter f p x xs a.1)
  where
    by : (b : Bool) → IsNoneOf x (map f (filter p xs)) → IsNoneOf x (map f (cond b (y ∷ filter p xs) (filter p xs)))
    by true r = (a.0, r)
    by false r = r

once_filter : {A : Type 0} (f : A → Outer) (p : A → Bool) (xs : List A) → AreEachOnce (map f xs) → AreEachOnce (map f (filter p xs))
once_filter {A} f p [] a = tt
once_filter {A} f p (y ∷ xs) a = by (p y) (none_filter f p (f y) xs a.0) (once_filter f p xs a.1)
  where
    by : (b : Bool) → IsNoneOf (f y) (map f (filter p xs)) → AreEachOnce (map f (filter p xs)) → AreEachOnce (map f (cond b (y ∷ filter p xs) (filter p xs)))
    by true n r = (n, r)
    by false n r = r

in_filter : {A : Type 0} (ds : List Decl) (f : A → Outer) (p : A → Bool) (xs : List A) → AreIn ds (map f xs) → AreIn ds (map f (filter p xs))
in_filter {A} ds f p [] a = tt
in_filter {A} ds f p (y ∷ xs) a = by (p y) (in_filter ds f p xs a.1)
  where
    by : (b : Bool) → AreIn ds (map f (filter p xs)) → AreIn ds (map f (cond b (y ∷ filter p xs) (filter p xs)))
    by true r = (a.0, r)
    by false r = r

-- what is declared at the top

-- the names of the blocks, and those that are built in
abbrev last_names : List Name
last_names = block_names ++ map called_of built_in

abbrev tree_thing : HeaderTypeTree → Outer
tree_thing t = declared sort.HeaderType t.name

tree_things : (ts : List HeaderTypeTree) → map tree_thing ts ≡ map (declared sort.HeaderType) (map tree_name ts)
tree_things [] = refl
tree_things (t ∷ ts) = ap (λ (xs : List Outer). tree_thing t ∷ xs) (tree_things ts)

-- a struct by its number and its type
pub record Numbered : Type 0 where
  pub number : ℕ
  pub type : Name

abbrev struct_thing_of : Numbered → Outer
struct_thing_of p = struct p.number p.type

abbrev structs_from : ℕ → List Decl → List Numbered
structs_from i [] = []
structs_from i (decl.Metadata x ∷ es) = record { number = i; type = x.header_type } ∷ structs_from (i + 1) es
structs_from i (d ∷ es) = structs_from i es

structs_above : (j i : ℕ) (type : Name) (es : List Decl) → j < i → IsNoneOf (struct j type) (map struct_thing_of (structs_from i es))
structs_above j i type [] lt = tt
structs_above j i type (decl.Metadata x ∷ es) lt = (λ e. omega arith, structs_above j (i + 1) type es (omega arith))
structs_above j i type (d ∷ es) lt = structs_above j i type es lt

structs_once : (i : ℕ) (es : List Decl) → AreEachOnce (map struct_thing_of (structs_from i es))
structs_once i [] = tt
structs_once i (decl.Metadata x ∷ es) = (structs_above i (i + 1) x.header_type es (omega arith), structs_once (i + 1) es)
structs_once i (d ∷ es) = structs_once i es

structs_in : (ds : List Decl) (i : ℕ) (es : List Decl) → i + length es ≤ 2 ^ 32 → AreIn ds (map struct_thing_of (structs_from i es))
structs_in ds i [] le = tt
structs_in ds i (decl.Metadata x ∷ es) le = (omega arith, structs_in ds (i + 1) es (omega arith))
structs_in ds i (d ∷ es) le = structs_in ds i es (omega arith)

module _ (ds : List Decl) (x : Expanded) where
  header_names : (ts : List HeaderTypeTree) → map decl_name (map (header_decl ds) ts) ≡ map (outer_name ds) (map tree_thing ts)
  header_names [] = refl
  header_names (t ∷ ts) = ap (λ (ns : List Name). new_name ds sort.HeaderType t.name ∷ ns) (header_names ts)

  no_struct_of : (type name : Name) (size : Option Literal) (k : ℕ) (rest : List Member) → filter_map (struct_decl ds x) (record { number = k; shown = shown_header ds type name size; type = new_name ds sort.HeaderType type; size = elements_of size } ∷ rest) ≡ filter_map (struct_decl ds x) rest
  no_struct_of type name None k rest = refl
  no_struct_of type name (Some n) k rest = refl

  struct_names : (k i : ℕ) (es : List Decl) → map decl_name (filter_map (struct_decl ds x) (members_from ds k i es)) ≡ map (outer_name ds) (map struct_thing_of (structs_from i es))
  struct_names k i [] = refl
  struct_names k i (decl.Header h ∷ es) = ap (map decl_name) (no_struct_of h.header_type h.name h.size k (members_from ds (k + 1) i es)) ∙ struct_names (k + 1) i es
  struct_names k i (decl.Metadata m ∷ es) = ap (λ (ns : List Name). outer_name ds (struct i m.header_type) ∷ ns) (struct_names (k + 1) (i + 1) es)
  struct_names k i (d ∷ es) = struct_names k i es

  object_names : (es : List Decl) → map decl_name (filter_map (object_decl ds) es) ≡ map (outer_name ds) (map (declared sort.Object) (filter_map (name_in sort.Object) es))
  object_names [] = refl
  object_names (decl.Counter c ∷ es) = by (direct_table_of c.attributes) (object_names es)
    where
      by : (direct : Option Name) → map decl_name (filter_map (object_decl ds) es) ≡ map (outer_name ds) (map (declared sort.Object) (filter_map (name_in sort.Object) es))
          → instance_name (counter_instance (new_name ds sort.Object c.name) c.attributes direct) ∷ map decl_name (filter_map (object_decl ds) es) ≡ new_name ds sort.Object c.name ∷ map (outer_name ds) (map (declared sort.Object) (filter_map (name_in sort.Object) es))
      by None e = ap (λ (ns : List Name). new_name ds sort.Object c.name ∷ ns) e
      by (Some t) e = ap (λ (ns : List Name). new_name ds sort.Object c.name ∷ ns) e
  object_names (decl.Meter c ∷ es) = ap (λ (ns : List Name). new_name ds sort.Object c.name ∷ ns) (object_names es)
  object_names (decl.Register c ∷ es) = ap (λ (ns : List Name). new_name ds sort.Object c.name ∷ ns) (object_names es)
  object_names (d ∷ es) = object_names es

  abbrev trees : List Outer
  trees = map tree_thing (filter (is_used ds) (types ds))

  abbrev structs : List Outer
  structs = map struct_thing_of (structs_from 0 ds)

  abbrev roots : List Outer
  roots = map fixed (codes "hs" ∷ codes "ms" ∷ [])

  abbrev objects : List Outer
  objects = map (declared sort.Object) (names_in sort.Object ds)

  -- the blocks, and what is built in
  abbrev blocks : List Outer
  blocks = map fixed last_names

  abbrev all_things : List Outer
  all_things = trees ++ (structs ++ (roots ++ (objects ++ blocks)))

  decl_names : (ds16 : List Decl16) → map called_of (map top_name ds16) ≡ map decl_name ds16
  decl_names [] = refl
  decl_names (d ∷ ds16) = ap (λ (ns : List Name). decl_name d ∷ ns) (decl_names ds16)

  front_names : (bs : List Decl16) → map called_of (top_names (top_decls ds x ++ bs)) ≡ map decl_name (top_decls ds x ++ bs) ++ map called_of built_in
  front_names bs =
      map-append called_of (map top_name (top_decls ds x ++ bs)) built_in ∙ ap (λ (ns : List Name). ns ++ map called_of built_in) (decl_names (top_decls ds x ++ bs))

  all_names : (bs : List Decl16) → map decl_name bs ≡ block_names → map called_of (top_names (top_decls ds x ++ bs)) ≡ map (outer_name ds) all_things
  all_names bs e =
      let h : List Decl16 = header_decls ds in
      let s : List Decl16 = struct_decls ds x in
      let r : List Decl16 = headers_decl ds ∷ metadata_decl ds ∷ [] in
      let o : List Decl16 = object_decls ds in
      let b : List Name = map called_of built_in in
      let whole : top_decls ds x ++ bs ≡ h ++ (s ++ (r ++ (o ++ bs))) = append_assoc (h ++ (s ++ r)) o bs ∙ (append_assoc h (s ++ r) (o ++ bs) ∙ ap (λ (l : List Decl16). h ++ l) (append_assoc s r (o ++ bs))) in
      let names : map decl_name (top_decls ds x ++ bs) ≡ map (outer_name ds) trees ++ (map (outer_name ds) structs ++ (map (outer_name ds) roots ++ (map (outer_name ds) objects ++ block_names))) =
      ap (map decl_name) whole ∙ (rw (map-append decl_name h (s ++ (r ++ (o ++ bs))), map-append decl_name s (r ++ (o ++ bs)), map-append decl_name r (o ++ bs), map-append decl_name o bs, header_names (filter (is_used ds) (types ds)), struct_names 0 0 ds, object_names ds, e) refl) in
      let regroup : (map (outer_name ds) trees ++ (map (outer_name ds) structs ++ (map (outer_name ds) roots ++ (map (outer_name ds) objects ++ block_names)))) ++ b ≡ map (outer_name ds) trees ++ (map (outer_name ds) structs ++ (map (outer_name ds) roots ++ (map (outer_name ds) objects ++ (block_names ++ b)))) = simp append_assoc in
      front_names bs
      ∙ (ap (λ (ns : List Name). ns ++ b) names
      ∙ (regroup
      ∙ rw (map-append (outer_name ds) trees (structs ++ (roots ++ (objects ++ blocks))), map-append (outer_name ds) structs (roots ++ (objects ++ blocks)), map-append (outer_name ds) roots (objects ++ blocks), map-append (outer_name ds) objects blocks) refl))

  repeats_front : (xs ys : List Name) → repeats (xs ++ ys) ≡ false → repeats xs ≡ false
  repeats_front [] ys e = refl
  repeats_front (n ∷ xs) ys e =
      let both = or_parts (has_name (xs ++ ys) n) (repeats (xs ++ ys)) e in
      rw ((or_parts (has_name xs n) (has_name ys n) (sym (list_any-append (bytes_eq n) xs ys) ∙ both.0)).0, repeats_front xs ys both.1) refl

  pub top_once : HasNames ds → (bs : List Decl16) → map decl_name bs ≡ block_names → declares_twice (top_decls ds x ++ bs) ≡ false
  top_once n bs e = ap repeats (all_names bs e) ∙ outer_names_differ.once ds all_things inside each
    where
      trees_once : AreEachOnce trees
      trees_once = once_filter tree_thing (is_used ds) (types ds) (subst AreEachOnce (ap (map (declared sort.HeaderType)) (type_names ds) ∙ sym (tree_things (types ds))) (named_once sort.HeaderType (names_in sort.HeaderType ds) (sort_once ds n.once sort.HeaderType)))

      trees_in : AreIn ds trees
      trees_in = in_filter ds tree_thing (is_used ds) (types ds) (subst (AreIn ds) (ap (map (declared sort.HeaderType)) (type_names ds) ∙ sym (tree_things (types ds))) (named_in ds sort.HeaderType tt (names_in sort.HeaderType ds) (every ds sort.HeaderType (names_in sort.HeaderType ds) (all_numbered ds sort.HeaderType n.few))))

      objects_once : AreEachOnce objects
      objects_once = named_once sort.Object (names_in sort.Object ds) (sort_once ds n.once sort.Object)

      objects_in : AreIn ds objects
      objects_in = named_in ds sort.Object tt (names_in sort.Object ds) (every ds sort.Object (names_in sort.Object ds) (all_numbered ds sort.Object n.few))

      behind_roots : AreAcross roots (objects ++ blocks)
      behind_roots = across_both roots objects blocks (across_maps fixed (declared sort.Object) (λ a b. tt) (codes "hs" ∷ codes "ms" ∷ []) (names_in sort.Object ds)) ((fixed_none (codes "hs") last_names refl, (fixed_none (codes "ms") last_names refl, tt)))

      behind_structs : AreAcross structs (roots ++ (objects ++ blocks))
      behind_structs = across_both structs roots (objects ++ blocks) (across_maps struct_thing_of fixed (λ a b. tt) (structs_from 0 ds) (codes "hs" ∷ codes "ms" ∷ [])) (across_both structs objects blocks (across_maps struct_thing_of (declared sort.Object) (λ a b. tt) (structs_from 0 ds) (names_in sort.Object ds)) (across_maps struct_thing_of fixed (λ a b. tt) (structs_from 0 ds) last_names))

      behind_trees : AreAcross trees (structs ++ (roots ++ (objects ++ blocks)))
      behind_trees = across_both trees structs (roots ++ (objects ++ blocks)) (across_maps tree_thing struct_thing_of (λ a b. tt) (filter (is_used ds) (types ds)) (structs_from 0 ds)) (across_both trees roots (objects ++ blocks) (across_maps tree_thing fixed (λ a b. tt) (filter (is_used ds) (types ds)) (codes "hs" ∷ codes "ms" ∷ [])) (across_both trees objects blocks (across_maps tree_thing (declared sort.Object) (λ a b same. cc) (filter (is_used ds) (types ds)) (names_in sort.Object ds)) (across_maps tree_thing fixed (λ a b. tt) (filter (is_used ds) (types ds)) last_names)))

      objects_blocks : AreEachOnce (objects ++ blocks)
      objects_blocks = once_both objects blocks objects_once (fixed_once last_names refl) (across_maps (declared sort.Object) fixed (λ a b. tt) (names_in sort.Object ds) last_names)

      each : AreEachOnce all_things
      each = once_both trees (structs ++ (roots ++ (objects ++ blocks))) trees_once (once_both structs (roots ++ (objects ++ blocks)) (structs_once 0 ds) (once_both roots (objects ++ blocks) (fixed_once (codes "hs" ∷ codes "ms" ∷ []) refl) objects_blocks behind_roots) behind_structs) behind_trees

      inside : AreIn ds all_things
      inside = in_both ds trees (structs ++ (roots ++ (objects ++ blocks))) trees_in (in_both ds structs (roots ++ (objects ++ blocks)) (structs_in ds 0 ds (omega (arith, n.few))) (in_both ds roots (objects ++ blocks) (fixed_in ds (codes "hs" ∷ codes "ms" ∷ []) refl) (in_both ds objects blocks objects_in (fixed_in ds last_names refl))))

  pub top_names_once : HasNames ds → (bs : List Decl16) → map decl_name bs ≡ block_names → repeats (map decl_name (top_decls ds x ++ bs)) ≡ false
  top_names_once n bs e = repeats_front (map decl_name (top_decls ds x ++ bs)) (map called_of built_in) (ap repeats (sym (front_names bs)) ∙ top_once n bs e)

-- a control

module _ (ds : List Decl) (egress : ℕ → Bool) (e : Bool) where
  no_words : (before ls : List Listing) (n : Name) → IsNoneOf (fixed n) (outers e (copies_behind before ls))
  no_words before [] n = tt
  no_words before (l ∷ ls) n =
      let rest : List Outer = outers e (copies_behind (before ++ l ∷ []) ls) in
      let counted : Bool = l.is_counted && not (list_any (is_same_table l) before) in
      let further : IsNoneOf (fixed n) rest = no_words (before ++ l ∷ []) ls n in
      subst (IsNoneOf (fixed n)) (sym (behind_is e before l ls)) (none_put (fixed n) (not (seen l.in_egress l.action before)) (is_same_bit e l.in_egress) (declared sort.Action l.action) (put counted (is_same_bit e l.in_egress) (copy l.number l.action) rest) (λ p q. tt) (none_put (fixed n) counted (is_same_bit e l.in_egress) (copy l.number l.action) rest (λ p q. tt) further))

  no_tables : (before ls : List Listing) (n : Name) → IsNoneOf (declared sort.Table n) (outers e (copies_behind before ls))
  no_tables before [] n = tt
  no_tables before (l ∷ ls) n =
      let rest : List Outer = outers e (copies_behind (before ++ l ∷ []) ls) in
      let counted : Bool = l.is_counted && not (list_any (is_same_table l) before) in
      let further : IsNoneOf (declared sort.Table n) rest = no_tables (before ++ l ∷ []) ls n in
      subst (IsNoneOf (declared sort.Table n)) (sym (behind_is e before l ls)) (none_put (declared sort.Table n) (not (seen l.in_egress l.action before)) (is_same_bit e l.in_egress) (declared sort.Action l.action) (put counted (is_same_bit e l.in_egress) (copy l.number l.action) rest) (λ p q same. cc) (none_put (declared sort.Table n) counted (is_same_bit e l.in_egress) (copy l.number l.action) rest (λ p q. tt) further))

  pub copies_in : (before ls : List Listing) → LinesFit ds ls → AreIn ds (outers e (copies_behind before ls))
  copies_in before [] f = tt
  copies_in before (l ∷ ls) f =
      let rest : List Outer = outers e (copies_behind (before ++ l ∷ []) ls) in
      let counted : Bool = l.is_counted && not (list_any (is_same_table l) before) in
      subst (AreIn ds) (sym (behind_is e before l ls)) (in_put ds (not (seen l.in_egress l.action before)) (is_same_bit e l.in_egress) (declared sort.Action l.action) (put counted (is_same_bit e l.in_egress) (copy l.number l.action) rest) (tt, f.0) (in_put ds counted (is_same_bit e l.in_egress) (copy l.number l.action) rest f.1 (copies_in (before ++ l ∷ []) ls f.2)))

  words_across : (names : List Name) → AreAcross (map fixed names) (outers e (copies ds egress))
  words_across [] = tt
  words_across (n ∷ names) = (no_words [] (listings ds egress) n, words_across names)

  tables_across : (names : List Name) → AreAcross (map (declared sort.Table) names) (outers e (copies ds egress))
  tables_across [] = tt
  tables_across (n ∷ names) = (no_tables [] (listings ds egress) n, tables_across names)

  -- the words, some tables, and the copies of a pipeline
  pub control_once : (tables : List Name) → repeats14 tables ≡ false → AllNumbered ds sort.Table tables → LinesFit ds (listings ds egress)
      → repeats (map (outer_name ds) (map fixed control_words ++ (map (declared sort.Table) tables ++ outers e (copies ds egress)))) ≡ false
  control_once ts once ns fit =
      let t : List Outer = map (declared sort.Table) ts in
      let c : List Outer = outers e (copies ds egress) in
      outer_names_differ.once ds (map fixed control_words ++ (t ++ c))
      (in_both ds (map fixed control_words) (t ++ c) (fixed_in ds control_words refl) (in_both ds t c (named_in ds sort.Table tt ts ns) (copies_in [] (listings ds egress) fit)))
      (once_both (map fixed control_words) (t ++ c) (fixed_once control_words refl) (once_both t c (named_once sort.Table ts once) (copies_once ds egress e) (tables_across ts)) (across_both (map fixed control_words) t c (across_maps fixed (declared sort.Table) (λ a b. tt) control_words ts) (words_across control_words)))

pub names_of_text : (ds : List Decl) (x : Expanded) (syntax : Syntax16) (bs : List Decl16) → syntax.decls ≡ top_decls ds x ++ bs → repeats (map decl_name (top_decls ds x ++ bs)) ≡ false → repeats (map decl_name syntax.decls) ≡ false
names_of_text ds x syntax bs e once = ap (λ (l : List Decl16). repeats (map decl_name l)) e ∙ once

pub top_of_text : (ds : List Decl) (x : Expanded) (syntax : Syntax16) (bs : List Decl16) → syntax.decls ≡ top_decls ds x ++ bs → declares_twice (top_decls ds x ++ bs) ≡ false → declares_twice syntax.decls ≡ false
top_of_text ds x syntax bs e once = ap declares_twice e ∙ once
