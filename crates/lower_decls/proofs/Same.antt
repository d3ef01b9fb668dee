-- What is written by the tables is what is declared.
use Rattle.std.proofs.Common.{◌≡◌, ℕ, ◌+◌, suc, Bool, true, false, if◌then◌else◌, List, [], ◌∷◌, ◌++◌, map, filter, filter_map, Option, Some, None, drop, length, refl, sym, ap, ap₂, ◌∙◌, subst, arith}
use Rattle.std.specs.Prelude.{slice_index_or}
use Rattle.std.proofs.lemmas.List.{append_assoc}
use Rattle.p414_syntax.specs.declared.syntax.Decl.{Decl}
use Rattle.p414_syntax.specs.Views.{HeaderTypeTree}
use Rattle.p414_syntax.specs.Fields.{types}
use Rattle.p414_sem.specs.Expanded.{Expanded}
use Rattle.p416_syntax.specs.declared.program.Decl16.{Decl16}
use Rattle.p416_syntax.specs.declared.program.Decl16.TheVariants as decl16
use Rattle.agreement_of_meanings.specs.Shown.{NamedField, Shown, as_header, as_stack, as_metadata}
use Rattle.lower_laws_names.specs.Objects.{object_decls, top_decls}
use Rattle.lower_laws_names.specs.Types.{Member, members, is_used, header_decl, header_decls, struct_decl, struct_decls, headers_decl, metadata_decl, struct_field, struct_fields_from}
use Rattle.lower_marks.specs.FieldMarks.{marks_in, AreMarks}
use Rattle.lower_decls.specs.Tops.{used_from, AreUsed, marked_field, marked_from, struct_by, structs}

-- flags

used_by : (ds : List Decl) (flags : List Bool) (number : ℕ) (ts : List HeaderTypeTree) → ((n : ℕ) → slice_index_or flags (number + n) false ≡ slice_index_or (map (is_used ds) ts) n false) → used_from flags number ts ≡ filter (is_used ds) ts
used_by ds flags number [] h = refl
used_by ds flags number (t ∷ ts) h =
    let first : number + 0 ≡ number = omega arith in
    let here : slice_index_or flags number false ≡ is_used ds t = subst (λ k. slice_index_or flags k false ≡ is_used ds t) first (h 0) in
    let rest : used_from flags (number + 1) ts ≡ filter (is_used ds) ts = used_by ds flags (number + 1) ts (λ n. further n (h (suc n))) in
    ap₂ (λ b r. if b then t ∷ r else r) here rest
  where
    further : (n : ℕ) → slice_index_or flags (number + suc n) false ≡ slice_index_or (map (is_used ds) ts) n false → slice_index_or flags ((number + 1) + n) false ≡ slice_index_or (map (is_used ds) ts) n false
    further n e =
        let same : number + suc n ≡ (number + 1) + n = omega arith in
        subst (λ k. slice_index_or flags k false ≡ slice_index_or (map (is_used ds) ts) n false) same e

pub used_same : (ds : List Decl) (flags : List Bool) → AreUsed ds flags → used_from flags 0 (types ds) ≡ filter (is_used ds) (types ds)
used_same ds flags are = used_by ds flags 0 (types ds) h where
  h : (n : ℕ) → slice_index_or flags (0 + n) false ≡ slice_index_or (map (is_used ds) (types ds)) n false
  h n =
      let same : n ≡ 0 + n = omega arith in
      subst (λ k. slice_index_or flags k false ≡ slice_index_or (map (is_used ds) (types ds)) n false) same (ap (λ fs. slice_index_or fs n false) are)

-- marks

pub fields_same : (ds : List Decl) (x : Expanded) (marks : List (List (List ℕ))) (k f : ℕ) (fields : List NamedField) → AreMarks ds x marks → marked_from (marks_in marks k) f fields ≡ struct_fields_from ds x k f fields
fields_same ds x marks k f [] are = refl
fields_same ds x marks k f (field ∷ fields) are =
    ap₂ (λ ns rest. marked_field ns field ∷ rest) (are k f) (fields_same ds x marks k (f + 1) fields are)

pub struct_same : (ds : List Decl) (x : Expanded) (marks : List (List (List ℕ))) (m : Member) → AreMarks ds x marks → struct_by marks m ≡ struct_decl ds x m
struct_same ds x marks m are = of m.shown refl where
  of : (s : Shown) → m.shown ≡ s → struct_by marks m ≡ struct_decl ds x m
  of (as_header name fields) e = rw e refl
  of (as_stack name fields) e = rw e refl
  of (as_metadata name fields) e =
      rw e (ap (λ fs. Some (decl16.Struct (record { name = m.type; fields = fs }))) (fields_same ds x marks m.number 0 fields are))

filter_map_same : (f g : Member → Option Decl16) (ms : List Member) → ((m : Member) → f m ≡ g m) → filter_map f ms ≡ filter_map g ms
filter_map_same f g [] same = refl
filter_map_same f g (m ∷ ms) same = rw (same m, filter_map_same f g ms same) refl

pub top_same : (ds : List Decl) (x : Expanded) (flags : List Bool) (marks : List (List (List ℕ))) (ms : List Member) → AreUsed ds flags → AreMarks ds x marks → ms ≡ members ds → (map (header_decl ds) (used_from flags 0 (types ds)) ++ structs marks ms) ++ object_decls ds ≡ top_decls ds x
top_same ds x flags marks ms used are is =
    let headers : map (header_decl ds) (used_from flags 0 (types ds)) ≡ header_decls ds = ap (map (header_decl ds)) (used_same ds flags used) in
    let structured : filter_map (struct_by marks) (members ds) ≡ struct_decls ds x = filter_map_same (struct_by marks) (struct_decl ds x) (members ds) (λ m. struct_same ds x marks m are) in
    let all : structs marks ms ≡ struct_decls ds x ++ headers_decl ds ∷ metadata_decl ds ∷ [] =
    ap (structs marks) is ∙ ap (λ ss. ss ++ headers_decl ds ∷ metadata_decl ds ∷ []) structured in
    ap₂ (λ hs ss. (hs ++ ss) ++ object_decls ds) headers all
