-- What the scope of a control tells: its copies and tables hide no built-in name, no object and no parameter (C1).
use Rattle.std.proofs.Common.{◌≡◌, ◌≢◌, inl, inr, ℕ, ◌<◌, ◌≤◌, ◌^◌, Bool, true, false, ◌&&◌, None, List, [], ◌∷◌, ◌++◌, length, map, get_or, refl, sym, ap, ◌∙◌, subst}
use Rattle.std.specs.Prelude.{codes, filter_map}
use Rattle.std.specs.List.{AllByRecursion}
use Rattle.std.specs.Str.{bytes_eq}
use Rattle.std.proofs.lemmas.Slice.Eq.{bytes_eq-Decides}
use Rattle.match_core.specs.declared.entries.Entries.{Entries}
use Rattle.p414_syntax.specs.declared.syntax.Decl.{Decl}
use Rattle.p414_syntax.specs.declared.syntax.Rule14.{Rule14}
use Rattle.p414_syntax.specs.declared.syntax.Rule14.TheVariants as rule
use Rattle.p414_syntax.specs.declared.syntax.Sort.{Sort}
use Rattle.p414_syntax.specs.declared.syntax.Sort.TheVariants as sort
use Rattle.p414_syntax.specs.Names.{Name, names_in, has_name}
use Rattle.p414_sem.specs.Operations.{in_order}
use Rattle.p414_sem.specs.Expanded.{Expanded}
use Rattle.p416_syntax.specs.declared.controls.Local.{Local}
use Rattle.p416_syntax.specs.declared.controls.Local.TheVariants as local
use Rattle.p416_syntax.specs.declared.controls.Control16.{Control16}
use Rattle.p416_syntax.specs.declared.controls.Table16.{Table16}
use Rattle.p416_syntax.specs.declared.program.Decl16.{Decl16}
use Rattle.p416_syntax.specs.declared.program.Decl16.TheVariants as decl16
use Rattle.p416_syntax.specs.declared.parts.Note.TheVariants as note
use Rattle.p416_syntax.specs.Scopes.{Known}
use Rattle.p416_syntax.specs.BuiltIn.{functions}
use Rattle.p416_syntax.specs.Declarations.{known_local, top_names}
use Rattle.v1_core.specs.declared.block.Block.{Block}
use Rattle.v1_core.specs.Surroundings.{Setting}
use Rattle.v1_core.specs.Blocks.{around_control, control_world}
use Rattle.v1_core.specs.Signatures.{own_object}
use Rattle.lower_laws_names.specs.Words.{outer_words}
use Rattle.lower_laws_names.specs.Reaches.{IsNumbered, Outer, declared, struct, copy, fixed, outer_name, IsIn, AreTwo, AreIn}
use Rattle.lower_laws_names.proofs.Proved.{outer_names_differ}
use Rattle.lower_laws_base.specs.Context.{object_at}
use Rattle.lower_laws_states.specs.Expansions.{Has}
use Rattle.lower_laws_states.specs.Laws.{BreaksNo}
use Rattle.lower_laws_program.specs.Program.{Parts, decls_of, syntax_of, pipeline_parameters, checksum_parameters}
use Rattle.lower_laws_program.specs.Scopes.{IsClear, IsDeclared, enumerations}
use Rattle.lower_laws_program.specs.Controls.{old_locals, near_of, ControlNames}
use Rattle.lower_laws_program.proofs.Clear.{all_of}
use Rattle.lower_laws_declared.specs.Layout.{program_layout, IsShort}
use Rattle.lower_laws_declared.specs.Objects.{objects_by_number}
use Rattle.lower_laws_declared.specs.Controls.{LocalIs, LocalsAre, DeclaresLocals, PartsAre}
use Rattle.lower_laws_declared.proofs.States.{all_pass}
use Rattle.lower_laws_declared.proofs.Objects.{object_written, objects_shaped, objects_stored, object_name_at}
use Rattle.lower_laws_declared.proofs.Numbers.{object_there, objects_numbered}
use Rattle.lower_laws_names.proofs.OneSort.{is_numbered}

unlike : (a b : Name) → a ≢ b → bytes_eq a b ≡ false
unlike a b apart = by (bytes_eq a b) refl where
  by : (c : Bool) → bytes_eq a b ≡ c → c ≡ false
  by false e = refl
  by true e = absurd (apart ((bytes_eq-Decides a b).0 e))

-- no local is an object

own_none : (ds : List Decl) (as_table : Name → Table16) (y : Outer) (l : Local) → LocalIs ds as_table y l → own_object l ≡ None
own_none ds as_table y (local.Action a) is = refl
own_none ds as_table y (local.Table t) is = refl
own_none ds as_table y (local.Var v) is = refl
own_none ds as_table y (local.Instance notes i) is = absurd (by y is) where
  by : (y : Outer) → LocalIs ds as_table y (local.Instance notes i) → ⊥
  by (declared sort.Action n) is = is
  by (declared sort.Table n) is = is
  by (declared _ n) is = is
  by (struct k n) is = is
  by (copy k n) is = is
  by (fixed n) is = is

pub none_own : (ds : List Decl) (as_table : Name → Table16) (things : List Outer) (locals : List Local) → LocalsAre ds as_table things locals → filter_map own_object locals ≡ []
none_own ds as_table [] [] are = refl
none_own ds as_table (y ∷ things) (l ∷ locals) are = rw (own_none ds as_table y l are.0, none_own ds as_table things locals are.1) refl
none_own ds as_table [] (l ∷ locals) are = absurd are
none_own ds as_table (y ∷ things) [] are = absurd are

pub old_none : (r : Rule14) (locals : List Local) → filter_map own_object locals ≡ [] → filter_map own_object (old_locals r ++ locals) ≡ []
old_none rule.Sequential locals e = e
old_none rule.Parallel locals e = e

-- a local has the name of its thing, which is a table or a copy
local_apart : (ds : List Decl) (as_table : Name → Table16) (names : List Known) (z : Outer) → IsIn ds z → (y : Outer) (l : Local) → IsIn ds y → LocalIs ds as_table y l → ((s : Sort) (n : Name) → y ≡ declared s n → AreTwo (declared s n) z) → ((k : ℕ) (n : Name) → AreTwo (copy k n) z) → bytes_eq (known_local names l).called (outer_name ds z) ≡ false
local_apart ds as_table names z at (declared sort.Action n) (local.Action a) inside is of_sort of_copy = ap (λ (t : Name). bytes_eq t (outer_name ds z)) is.called ∙ unlike _ _ (outer_names_differ.two ds (declared sort.Action n) z inside at (of_sort sort.Action n refl))
local_apart ds as_table names z at (declared sort.Table n) (local.Table t) inside is of_sort of_copy = ap (λ (t : Name). bytes_eq t (outer_name ds z)) is.called ∙ unlike _ _ (outer_names_differ.two ds (declared sort.Table n) z inside at (of_sort sort.Table n refl))
local_apart ds as_table names z at (copy k n) (local.Action a) inside is of_sort of_copy = ap (λ (t : Name). bytes_eq t (outer_name ds z)) is.called ∙ unlike _ _ (outer_names_differ.two ds (copy k n) z inside at (of_copy k n))
local_apart ds as_table names z at _ _ inside is of_sort of_copy = absurd is

pub locals_apart : (ds : List Decl) (as_table : Name → Table16) (names : List Known) (z : Outer) → IsIn ds z → ((s : Sort) (n : Name) → AreTwo (declared s n) z) → ((k : ℕ) (n : Name) → AreTwo (copy k n) z) → (things : List Outer) (locals : List Local) → AreIn ds things → LocalsAre ds as_table things locals → IsClear (map (known_local names) locals) (outer_name ds z)
locals_apart ds as_table names z at of_sort of_copy [] [] inside are = tt
locals_apart ds as_table names z at of_sort of_copy (y ∷ things) (l ∷ locals) inside are =
    (local_apart ds as_table names z at y l inside.0 are.0 (λ s n e. of_sort s n) of_copy, locals_apart ds as_table names z at of_sort of_copy things locals inside.1 are.1)
locals_apart ds as_table names z at of_sort of_copy [] (l ∷ locals) inside are = absurd are
locals_apart ds as_table names z at of_sort of_copy (y ∷ things) [] inside are = absurd are

-- an object is neither a table nor an action
object_apart : (ds : List Decl) (as_table : Name → Table16) (names : List Known) (n : Name) → IsNumbered ds sort.Object n → (things : List Outer) (locals : List Local) → AreIn ds things → LocalsAre ds as_table things locals → IsClear (map (known_local names) locals) (outer_name ds (declared sort.Object n))
object_apart ds as_table names n at [] [] inside are = tt
object_apart ds as_table names n at (y ∷ things) (l ∷ locals) inside are =
    (by y l inside.0 are.0, object_apart ds as_table names n at things locals inside.1 are.1)
  where
    by : (y : Outer) (l : Local) → IsIn ds y → LocalIs ds as_table y l → bytes_eq (known_local names l).called (outer_name ds (declared sort.Object n)) ≡ false
    by (declared sort.Action m) (local.Action a) inside is = ap (λ (t : Name). bytes_eq t (outer_name ds (declared sort.Object n))) is.called ∙ unlike _ _ (outer_names_differ.two ds (declared sort.Action m) (declared sort.Object n) inside (tt, at) (λ e. absurd (cc e)))
    by (declared sort.Table m) (local.Table t) inside is = ap (λ (t : Name). bytes_eq t (outer_name ds (declared sort.Object n))) is.called ∙ unlike _ _ (outer_names_differ.two ds (declared sort.Table m) (declared sort.Object n) inside (tt, at) (λ e. absurd (cc e)))
    by (copy k m) (local.Action a) inside is = ap (λ (t : Name). bytes_eq t (outer_name ds (declared sort.Object n))) is.called ∙ unlike _ _ (outer_names_differ.two ds (copy k m) (declared sort.Object n) inside (tt, at) tt)
    by _ _ inside is = absurd is
object_apart ds as_table names n at [] (l ∷ locals) inside are = absurd are
object_apart ds as_table names n at (y ∷ things) [] inside are = absurd are

clear_both : (xs ys : List Known) (text : Name) → IsClear xs text → IsClear ys text → IsClear (xs ++ ys) text
clear_both [] ys text a b = b
clear_both (k ∷ xs) ys text a b = (a.0, clear_both xs ys text a.1 b)

-- names of the text that no object has
word_apart : (ds : List Decl) (n w : Name) → IsNumbered ds sort.Object n → has_name outer_words w ≡ true → bytes_eq w (outer_name ds (declared sort.Object n)) ≡ false
word_apart ds n w at outer = unlike _ _ (λ same. outer_names_differ.two ds (declared sort.Object n) (fixed w) (tt, at) outer tt (sym same))

module _ (ds : List Decl) (none : BreaksNo ds) (short : IsShort ds) (x : Expanded) (p : Parts) (are : PartsAre ds x p) (as_table : Name → Table16) (things : List Outer) (locals : List Local) (own : DeclaresLocals ds as_table things locals) where
  abbrev names : List Known
  names = top_names (decls_of p)

  pub functions_free : AllByRecursion (IsClear (map (known_local names) locals)) functions
  functions_free = all_of (λ n. has_name outer_words n ≡ true) (IsClear (map (known_local names) locals)) (λ text outer. locals_apart ds as_table names (fixed text) outer (λ s n. tt) (λ k n. tt) things locals own.inside own.each) functions (all_pass (has_name outer_words) functions refl)

  pub enumerations_free : AllByRecursion (IsClear (map (known_local names) locals)) enumerations
  enumerations_free = all_of (λ n. has_name outer_words n ≡ true) (IsClear (map (known_local names) locals)) (λ text outer. locals_apart ds as_table names (fixed text) outer (λ s n. tt) (λ k n. tt) things locals own.inside own.each) enumerations (all_pass (has_name outer_words) enumerations refl)

  object_numbered : (n : Name) → Has (names_in sort.Object ds) n → IsNumbered ds sort.Object n
  object_numbered n h = is_numbered ds sort.Object n short.few (of_has (names_in sort.Object ds) n h) where
    of_has : (all : List Name) (n : Name) → Has all n → has_name all n ≡ true
    of_has [] n h = absurd h
    of_has (m ∷ all) n (inl same) = first (bytes_eq n m) _ ((bytes_eq-Decides n m).1 (sym same)) where
      first : (a b : Bool) → a ≡ true → Rattle.std.specs.Prelude.◌||◌ a b ≡ true
      first true b e = refl
      first false b e = absurd (cc e)
    of_has (m ∷ all) n (inr h) = more (bytes_eq n m) _ (of_has all n h) where
      more : (a b : Bool) → b ≡ true → Rattle.std.specs.Prelude.◌||◌ a b ≡ true
      more true b e = refl
      more false b e = e

  -- an object with a clear name is declared at the top
  declared_at : (near : List Known) → ((n : Name) → IsNumbered ds sort.Object n → IsClear near (outer_name ds (declared sort.Object n))) → (j : ℕ) → j < length (objects_by_number ds) → IsDeclared p near (object_at (objects_by_number ds) j)
  declared_at near clear j lt =
      let n : Name = get_or (in_order (names_in sort.Object ds)) j [] in
      let there = object_there ds none short x p are j lt in
      let it = object_written ds none x n there in
      subst (IsDeclared p near) (sym (object_name_at ds j lt)) (record {
        notes = note.Name n ∷ [];
        instance = it.instance;
        has = subst (λ (l : List Decl16). Has l (decl16.Instance (note.Name n ∷ []) it.instance)) (sym are.types) it.has;
        named = it.named;
        sort = it.sort;
        clear = clear n (object_numbered n there);
      })

  near_pipeline : (r : Rule14) (n : Name) → IsNumbered ds sort.Object n → IsClear (near_of names pipeline_parameters (old_locals r) locals) (outer_name ds (declared sort.Object n))
  near_pipeline rule.Sequential n at =
      (word_apart ds n (codes "hdr") at refl, (word_apart ds n (codes "meta") at refl, (word_apart ds n (codes "sm") at refl, object_apart ds as_table names n at things locals own.inside own.each)))
  near_pipeline rule.Parallel n at =
      (word_apart ds n (codes "hdr") at refl, (word_apart ds n (codes "meta") at refl, (word_apart ds n (codes "sm") at refl, (word_apart ds n (codes "old_hdr") at refl, (word_apart ds n (codes "old_meta") at refl, (word_apart ds n (codes "old_sm") at refl, object_apart ds as_table names n at things locals own.inside own.each))))))

  near_checksum : (n : Name) → IsNumbered ds sort.Object n → IsClear (near_of names checksum_parameters [] locals) (outer_name ds (declared sort.Object n))
  near_checksum n at = (word_apart ds n (codes "hdr") at refl, (word_apart ds n (codes "meta") at refl, object_apart ds as_table names n at things locals own.inside own.each))

  module _ (c16 : Setting) (same : c16.syntax ≡ syntax_of p) (entries : Entries) (which : Block) (d : Control16) where
    -- ingress and egress
    pub pipeline_names : (r : Rule14) → d.parameters ≡ pipeline_parameters → d.locals ≡ old_locals r ++ locals → ControlNames (program_layout ds entries) p pipeline_parameters (old_locals r) (objects_by_number ds) (control_world (around_control c16 which d)) d
    pipeline_names r parameters_are locals_are = record {
      locals = locals;
      parameters_are = parameters_are;
      locals_are = locals_are;
      functions_free = functions_free;
      enumerations_free = enumerations_free;
      objects_there = declared_at (near_of names pipeline_parameters (old_locals r) locals) (near_pipeline r);
      numbered = objects_numbered ds none short x p are c16 same which d (ap (filter_map own_object) locals_are ∙ old_none r locals (none_own ds as_table things locals own.each));
      stored = objects_stored ds entries;
      shape = objects_shaped ds entries;
    }

    -- verify and compute
    pub checksum_names : d.parameters ≡ checksum_parameters → d.locals ≡ locals → ControlNames (program_layout ds entries) p checksum_parameters [] (objects_by_number ds) (control_world (around_control c16 which d)) d
    checksum_names parameters_are locals_are = record {
      locals = locals;
      parameters_are = parameters_are;
      locals_are = locals_are;
      functions_free = functions_free;
      enumerations_free = enumerations_free;
      objects_there = declared_at (near_of names checksum_parameters [] locals) near_checksum;
      numbered = objects_numbered ds none short x p are c16 same which d (ap (filter_map own_object) locals_are ∙ none_own ds as_table things locals own.each);
      stored = objects_stored ds entries;
      shape = objects_shaped ds entries;
    }
