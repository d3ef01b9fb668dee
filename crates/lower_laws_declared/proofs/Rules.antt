-- What the rules of P4_16 ask of the whole program: names for the control plane differ (C1), cells are few (C23).
use Rattle.std.proofs.Common.{◌≡◌, inl, inr, ◌+◌, ◌<◌, ◌≤◌, Bool, true, false, not, ◌||◌, cond, List, [], ◌∷◌, ◌++◌, map, refl, sym, ap, ap₂, ◌∙◌}
use Rattle.std.specs.Prelude.{filter, flat_map}
use Rattle.std.specs.List.{AllByRecursion}
use Rattle.std.specs.Str.{bytes_eq}
use Rattle.std.proofs.lemmas.Bool.{true≢false}
use Rattle.p414_syntax.specs.declared.syntax.Decl.{Decl}
use Rattle.p414_syntax.specs.declared.syntax.Sort.TheVariants as sort
use Rattle.p414_syntax.specs.Names.{Name, has_name, names_in, repeats_behind}
use Rattle.p414_sem.specs.Expanded.{Expanded}
use Rattle.p416_syntax.specs.declared.controls.Table16.{Table16}
use Rattle.p416_syntax.specs.Names.{repeats}
use Rattle.p416_syntax.specs.Tables.{table_plane, tables_of, objects_of}
use Rattle.lower_laws_names.proofs.Lists.{not_again, itself}
use Rattle.lower_laws_names.proofs.OneSort.{sort_once}
use Rattle.lower_laws_states.specs.Expansions.{Has}
use Rattle.lower_laws_states.specs.Laws.{BreaksNo}
use Rattle.lower_laws_states.proofs.Members.{neither}
use Rattle.lower_laws_states.proofs.Rules.{none_twice}
use Rattle.lower_laws_rules.proofs.Names.{once_behind}
use Rattle.lower_laws_program.specs.Program.{Parts, decls_of}
use Rattle.lower_laws_declared.specs.Controls.{PartsAre, TablesAre}
use Rattle.lower_laws_declared.proofs.Signatures.{tables_same, objects_same, passes}

-- no name twice, as P4_16 tests it
once_more : (before names : List Name) → repeats_behind before names ≡ false → repeats names ≡ false
once_more before [] e = refl
once_more before (n ∷ names) e =
    let both = neither (has_name before n) (repeats_behind (before ++ n ∷ []) names) e in
    ap₂ (λ (a b : Bool). a || b) (not_again (before ++ n ∷ []) names n (itself before n) both.1) (once_more (before ++ n ∷ []) names both.1)

lacks_still : (p : Name → Bool) (names : List Name) (n : Name) → has_name names n ≡ false → has_name (filter p names) n ≡ false
lacks_still p [] n e = refl
lacks_still p (m ∷ names) n e = let both = neither (bytes_eq n m) (has_name names n) e in by (p m) both.0 (lacks_still p names n both.1) where
  by : (b : Bool) → bytes_eq n m ≡ false → has_name (filter p names) n ≡ false → has_name (cond b (m ∷ filter p names) (filter p names)) n ≡ false
  by true a c = ap₂ (λ (x y : Bool). x || y) a c
  by false a c = c

once_still : (p : Name → Bool) (names : List Name) → repeats names ≡ false → repeats (filter p names) ≡ false
once_still p [] e = refl
once_still p (m ∷ names) e = let both = neither (has_name names m) (repeats names) e in by (p m) (lacks_still p names m both.0) (once_still p names both.1) where
  by : (b : Bool) → has_name (filter p names) m ≡ false → repeats (filter p names) ≡ false → repeats (cond b (m ∷ filter p names) (filter p names)) ≡ false
  by true a c = ap₂ (λ (x y : Bool). x || y) a c
  by false a c = c

pub named_has : (names : List Name) (n : Name) → has_name names n ≡ true → Has names n
named_has [] n e = absurd (cc e)
named_has (m ∷ names) n e = by (bytes_eq n m) refl e (named_has names n) where
  by : (b : Bool) → bytes_eq n m ≡ b → b || has_name names n ≡ true → (has_name names n ≡ true → Has names n) → Has (m ∷ names) n
  by true is e rest = inl (sym ((Rattle.std.proofs.lemmas.Slice.Eq.bytes_eq-Decides n m).0 is))
  by false is e rest = inr (rest e)

-- what passes and what doesn't have nothing in common
halves_apart : (p : Name → Bool) (all names : List Name) → ((n : Name) → Has names n → Has (filter p all) n) → AllByRecursion (λ n. has_name (filter (λ m. not (p m)) all) n ≡ false) names
halves_apart p all [] among = tt
halves_apart p all (n ∷ names) among = (by (has_name (filter (λ m. not (p m)) all) n) refl, halves_apart p all names (λ m h. among m (inr h))) where
  by : (b : Bool) → has_name (filter (λ m. not (p m)) all) n ≡ b → b ≡ false
  by false e = refl
  by true e =
      let here : p n ≡ true = passes p all n (among n (inl refl)) in
      absurd (true≢false (sym (passes (λ m. not (p m)) all n (named_has (filter (λ m. not (p m)) all) n e)) ∙ ap not here))

module _ (ds : List Decl) (none : BreaksNo ds) (x : Expanded) (p : Parts) (are : PartsAre ds x p) (in_ingress : Name → Bool) (as_table : Name → Table16) (own : TablesAre ds in_ingress as_table p) where
  -- C1
  pub objects_once : repeats (flat_map objects_of (decls_of p)) ≡ false
  objects_once = ap repeats (objects_same ds x p are in_ingress as_table own) ∙ once_more [] (names_in sort.Object ds) (sort_once ds (none_twice ds none) sort.Object)

  pub tables_once : repeats (map table_plane (flat_map tables_of (decls_of p))) ≡ false
  tables_once =
      let all : repeats (names_in sort.Table ds) ≡ false = once_more [] (names_in sort.Table ds) (sort_once ds (none_twice ds none) sort.Table) in
      ap repeats (tables_same ds x p are in_ingress as_table own)
      ∙ once_behind (filter in_ingress (names_in sort.Table ds)) (filter (λ n. not (in_ingress n)) (names_in sort.Table ds)) (once_still in_ingress (names_in sort.Table ds) all) (once_still (λ n. not (in_ingress n)) (names_in sort.Table ds) all) (halves_apart in_ingress (names_in sort.Table ds) (filter in_ingress (names_in sort.Table ds)) (λ n h. h))
