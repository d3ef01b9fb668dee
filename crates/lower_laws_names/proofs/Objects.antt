-- The objects that are written have the signature of those that were declared.
use Rattle.std.proofs.Common.{◌≡◌, ℕ, suc, ◌+◌, Bool, true, false, not, cond, ltb, Option, Some, None, List, [], ◌∷◌, ◌++◌, length, map, filter_map, refl, sym, ap, ◌∙◌, arith}
use Rattle.std.specs.List.{filter, flat_map, prefix_len}
use Rattle.std.specs.Prelude.{slice_get, option_and_then, option_map, position}
use Rattle.std.specs.Option.{option_map_or}
use Rattle.std.specs.Str.{bytes_eq}
use Rattle.std.proofs.lemmas.Bool.{lt-ltb, le-ltb, ltb-true, ltb-false}
use Rattle.std.proofs.lemmas.Bool.Decides.{same_from_decides}
use Rattle.std.proofs.lemmas.List.{append_assoc, append-nil}
use Rattle.std.proofs.lemmas.Slice.Eq.{bytes_eq-Decides}
use Rattle.state_store.specs.declared.shapes.Shape.{Shape}
use Rattle.state_store.specs.declared.shapes.Shape.TheVariants as shape
use Rattle.p414_syntax.specs.declared.objects.CounterType.{CounterType as CounterType14}
use Rattle.p414_syntax.specs.declared.objects.CounterType.TheVariants as type14
use Rattle.p414_syntax.specs.declared.objects.StateAttr.{StateAttr}
use Rattle.p414_syntax.specs.declared.syntax.Decl.{Decl}
use Rattle.p414_syntax.specs.declared.syntax.Decl.TheVariants as decl
use Rattle.p414_syntax.specs.declared.syntax.Sort.TheVariants as sort
use Rattle.p414_syntax.specs.Attributes.{counts_of, direct_table_of}
use Rattle.p414_syntax.specs.Names.{Name, name_in, names_in, declared_in, find_name, declaration_of}
use Rattle.p414_syntax.specs.Fields.{types}
use Rattle.p414_syntax.specs.Views.{HeaderTypeTree}
use Rattle.p414_sem.specs.Signatures.{shape_in, counter_shape, kind_of, object_sig as object_sig14, signature14}
use Rattle.p414_sem.specs.Expanded.{Expanded}
use Rattle.p416_syntax.specs.declared.program.Decl16.{Decl16}
use Rattle.p416_syntax.specs.declared.program.Syntax16.{Syntax16}
use Rattle.p416_syntax.specs.Tables.{objects_of}
use Rattle.v1_core.specs.Signatures.{Object, objects_in, shape_of, shape_among, counted_by, in_order, object_names, object_sig as object_sig16, signature16}
use Rattle.lower_laws_names.specs.NewNames.{new_name}
use Rattle.agreement_of_meanings.specs.Shown.{Shown, as_header, as_stack, as_metadata}
use Rattle.lower_laws_names.specs.Types.{Member, header_decl, is_used, header_decls, members, struct_decl, struct_decls, headers_decl, metadata_decl, type_decls}
use Rattle.lower_laws_names.specs.Objects.{counter_member, counter_instance, object_decl, object_decls, top_decls}

-- control-plane names

module _ (ds : List Decl) where
  pub names_more : (xs ys : List Decl16) → flat_map objects_of (xs ++ ys) ≡ flat_map objects_of xs ++ flat_map objects_of ys
  names_more [] ys = refl
  names_more (x ∷ xs) ys =
      ap (λ (ns : List Name). objects_of x ++ ns) (names_more xs ys) ∙ sym (append_assoc (objects_of x) (flat_map objects_of xs) (flat_map objects_of ys))

  planes : (es : List Decl) → flat_map objects_of (filter_map (object_decl ds) es) ≡ filter_map (name_in sort.Object) es
  planes [] = refl
  planes (decl.Counter x ∷ es) = ap (λ (ns : List Name). x.name ∷ ns) (planes es)
  planes (decl.Meter x ∷ es) = ap (λ (ns : List Name). x.name ∷ ns) (planes es)
  planes (decl.Register x ∷ es) = ap (λ (ns : List Name). x.name ∷ ns) (planes es)
  planes (d ∷ es) = planes es

  pub object_planes : flat_map objects_of (object_decls ds) ≡ names_in sort.Object ds
  object_planes = planes ds

  -- shapes

  counted_alike : (c : Option CounterType14) → counted_by (counter_member c) ≡ kind_of c
  counted_alike (Some type14.Packets) = refl
  counted_alike (Some type14.Bytes) = refl
  counted_alike (Some type14.PacketsAndBytes) = refl
  counted_alike None = refl

  counter_alike : (name : Name) (attributes : List StateAttr) (direct : Option Name) → shape_of (counter_instance name attributes direct) ≡ counter_shape attributes direct
  counter_alike name attributes None = rw (counted_alike (counts_of attributes)) refl
  counter_alike name attributes (Some t) = rw (counted_alike (counts_of attributes)) refl

  -- the first object of a name
  abbrev first_shape : List Decl → Name → Shape
  first_shape [] name = shape.Meter 0
  first_shape (decl.Counter x ∷ es) name = cond (bytes_eq x.name name) (shape_in (decl.Counter x)) (first_shape es name)
  first_shape (decl.Meter x ∷ es) name = cond (bytes_eq x.name name) (shape_in (decl.Meter x)) (first_shape es name)
  first_shape (decl.Register x ∷ es) name = cond (bytes_eq x.name name) (shape_in (decl.Register x)) (first_shape es name)
  first_shape (d ∷ es) name = first_shape es name

  written : (es : List Decl) (name : Name) → shape_among (flat_map objects_in (filter_map (object_decl ds) es)) name ≡ first_shape es name
  written [] name = refl
  written (decl.Counter x ∷ es) name = rw (counter_alike (new_name ds sort.Object x.name) x.attributes (direct_table_of x.attributes), written es name) refl
  written (decl.Meter x ∷ es) name = rw (written es name) refl
  written (decl.Register x ∷ es) name = rw (written es name) refl
  written (d ∷ es) name = written es name

  -- a declaration by its name is the first that has it

  pub next_place : (p : Name → Bool) (n : Name) (ns : List Name) → position p (n ∷ ns) ≡ cond (p n) (Some 0) (option_map (λ (k : ℕ). suc k) (position p ns))
  next_place p n ns = by (p n) (ltb (prefix_len (λ m. not (p m)) ns) (length ns)) refl
    where
      by : (b c : Bool) → ltb (prefix_len (λ m. not (p m)) ns) (length ns) ≡ c
          → cond (ltb (cond (not b) (1 + prefix_len (λ m. not (p m)) ns) 0) (suc (length ns))) (Some (cond (not b) (1 + prefix_len (λ m. not (p m)) ns) 0)) None
          ≡ cond b (Some 0) (option_map (λ (k : ℕ). suc k) (cond (ltb (prefix_len (λ m. not (p m)) ns) (length ns)) (Some (prefix_len (λ m. not (p m)) ns)) None))
      by true c e = ap (λ (t : Bool). cond t (Some 0) None) (lt-ltb 0 (suc (length ns)) (omega arith))
      by false true e =
          let below = ltb-true (prefix_len (λ m. not (p m)) ns) (length ns) e in
          let more : 1 + prefix_len (λ m. not (p m)) ns ≡ suc (prefix_len (λ m. not (p m)) ns) = omega arith in
          rw (e, more, lt-ltb (suc (prefix_len (λ m. not (p m)) ns)) (suc (length ns)) (omega arith)) refl
      by false false e =
          let above = ltb-false (prefix_len (λ m. not (p m)) ns) (length ns) e in
          let more : 1 + prefix_len (λ m. not (p m)) ns ≡ suc (prefix_len (λ m. not (p m)) ns) = omega arith in
          rw (e, more, le-ltb (suc (prefix_len (λ m. not (p m)) ns)) (suc (length ns)) (omega arith)) refl

  either_way : (n m : Name) → bytes_eq n m ≡ bytes_eq m n
  either_way n m =
      let there = bytes_eq-Decides n m in
      let back = bytes_eq-Decides m n in
      same_from_decides {P = n ≡ m} (bytes_eq n m) (bytes_eq m n) there (λ e. sym (back.0 e), λ e. back.1 (sym e))

  abbrev shape_at : List Decl → Option ℕ → Shape
  shape_at es o = option_map_or shape_in (option_and_then (slice_get es) o) (shape.Meter 0)

  one_further : (d : Decl) (es : List Decl) (b : Bool) (o : Option ℕ) → shape_at (d ∷ es) (cond b (Some 0) (option_map (λ (k : ℕ). suc k) o)) ≡ cond b (shape_in d) (shape_at es o)
  one_further d es true o = refl
  one_further d es false None = refl
  one_further d es false (Some k) = refl

  step : (d : Decl) (n name : Name) (es : List Decl) (ns : List Name) (rest : Shape) → shape_at es (find_name ns name) ≡ rest
      → shape_at (d ∷ es) (find_name (n ∷ ns) name) ≡ cond (bytes_eq n name) (shape_in d) rest
  step d n name es ns rest e =
      ap (shape_at (d ∷ es)) (next_place (bytes_eq name) n ns)
      ∙ (one_further d es (bytes_eq name n) (find_name ns name)
      ∙ (rw (either_way name n, e) refl))

  declared_shape : (es : List Decl) (name : Name) → shape_at (declared_in sort.Object es) (find_name (names_in sort.Object es) name) ≡ first_shape es name
  declared_shape [] name = refl
  declared_shape (decl.Counter x ∷ es) name = step (decl.Counter x) x.name name (declared_in sort.Object es) (names_in sort.Object es) (first_shape es name) (declared_shape es name)
  declared_shape (decl.Meter x ∷ es) name = step (decl.Meter x) x.name name (declared_in sort.Object es) (names_in sort.Object es) (first_shape es name) (declared_shape es name)
  declared_shape (decl.Register x ∷ es) name = step (decl.Register x) x.name name (declared_in sort.Object es) (names_in sort.Object es) (first_shape es name) (declared_shape es name)
  declared_shape (d ∷ es) name = declared_shape es name

  pub object_shape : (name : Name) → shape_among (flat_map objects_in (object_decls ds)) name ≡ option_map_or shape_in (declaration_of sort.Object ds name) (shape.Meter 0)
  object_shape name = written ds name ∙ sym (declared_shape ds name)

  -- the whole text

  objects_more : (xs ys : List Decl16) → flat_map objects_in (xs ++ ys) ≡ flat_map objects_in xs ++ flat_map objects_in ys
  objects_more [] ys = refl
  objects_more (x ∷ xs) ys =
      ap (λ (os : List Object). objects_in x ++ os) (objects_more xs ys) ∙ sym (append_assoc (objects_in x) (flat_map objects_in xs) (flat_map objects_in ys))

  module _ (x : Expanded) where
    -- a list of types declares no object
    no_headers : (ts : List HeaderTypeTree) → (flat_map objects_of (map (header_decl ds) ts) ≡ []) × (flat_map objects_in (map (header_decl ds) ts) ≡ [])
    no_headers [] = (refl, refl)
    no_headers (t ∷ ts) = no_headers ts

    no_structs : (ms : List Member) → (flat_map objects_of (filter_map (struct_decl ds x) ms) ≡ []) × (flat_map objects_in (filter_map (struct_decl ds x) ms) ≡ [])
    no_structs [] = (refl, refl)
    no_structs (m ∷ ms) = by m.shown (no_structs ms)
      where
        rest : List Decl16
        rest = filter_map (struct_decl ds x) ms

        by : (s : Shown) → (flat_map objects_of (filter_map (struct_decl ds x) ms) ≡ []) × (flat_map objects_in (filter_map (struct_decl ds x) ms) ≡ [])
            → (flat_map objects_of (filter_map (struct_decl ds x) (record m { shown = s } ∷ ms)) ≡ []) × (flat_map objects_in (filter_map (struct_decl ds x) (record m { shown = s } ∷ ms)) ≡ [])
        by (as_header n fs) e = e
        by (as_stack n fs) e = e
        by (as_metadata n fs) e = e

    pub no_types : (flat_map objects_of (type_decls ds x) ≡ []) × (flat_map objects_in (type_decls ds x) ≡ [])
    no_types =
        let a = no_headers (filter (is_used ds) (types ds)) in
        let b = no_structs (members ds) in
        let tail : List Decl16 = headers_decl ds ∷ metadata_decl ds ∷ [] in
        (names_more (header_decls ds) (struct_decls ds x ++ tail) ∙ (rw (a.0, names_more (struct_decls ds x) tail, b.0) refl), objects_more (header_decls ds) (struct_decls ds x ++ tail) ∙ (rw (a.1, objects_more (struct_decls ds x) tail, b.1) refl))

    -- Of a text that begins as it is written here, and has no further object.
    pub objects_alike : (syntax : Syntax16) (blocks : List Decl16) → syntax.decls ≡ top_decls ds x ++ blocks → flat_map objects_of blocks ≡ [] → flat_map objects_in blocks ≡ []
        → (object_names syntax ≡ in_order (names_in sort.Object ds)) × ((name : Name) → object_sig16 syntax name ≡ object_sig14 ds name)
    objects_alike syntax blocks e none empty =
        let whole : syntax.decls ≡ type_decls ds x ++ (object_decls ds ++ blocks) = e ∙ append_assoc (type_decls ds x) (object_decls ds) blocks in
        let names : flat_map objects_of syntax.decls ≡ names_in sort.Object ds = ap (flat_map objects_of) whole ∙ (names_more (type_decls ds x) (object_decls ds ++ blocks) ∙ (rw (no_types.0, names_more (object_decls ds) blocks, none, object_planes) (append-nil (names_in sort.Object ds)))) in
        let objects : flat_map objects_in syntax.decls ≡ flat_map objects_in (object_decls ds) = ap (flat_map objects_in) whole ∙ (objects_more (type_decls ds x) (object_decls ds ++ blocks) ∙ (rw (no_types.1, objects_more (object_decls ds) blocks, empty) (append-nil (flat_map objects_in (object_decls ds))))) in
        (ap in_order names, λ name. ap (λ (s : Shape). record { name = name; shape = s }) (ap (λ (os : List Object). shape_among os name) objects ∙ object_shape name))

same_on : {A B : Type 0} (f g : A → B) → ((a : A) → f a ≡ g a) → (xs : List A) → map f xs ≡ map g xs
same_on {A} {B} f g each [] = refl
same_on {A} {B} f g each (x ∷ xs) = rw (each x, same_on f g each xs) refl

-- the objects of the signatures
pub same_objects : (ds : List Decl) (x : Expanded) (syntax : Syntax16) (blocks : List Decl16) → syntax.decls ≡ top_decls ds x ++ blocks → flat_map objects_of blocks ≡ [] → flat_map objects_in blocks ≡ []
    → (signature16 syntax).objects ≡ (signature14 ds).objects
unfolding signature16 signature14
same_objects ds x syntax blocks e none empty =
    let both = objects_alike ds x syntax blocks e none empty in
    ap (map (object_sig16 syntax)) both.0 ∙ same_on (object_sig16 syntax) (object_sig14 ds) both.1 (in_order (names_in sort.Object ds))
