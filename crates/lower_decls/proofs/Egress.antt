-- The tables that egress applies, itself or by a control that it calls, are those that its statements apply when they are expanded.
use Rattle.std.proofs.Common.{◌≡◌, ◌⊎◌, inl, inr, ℕ, zero, suc, ◌<◌, Bool, true, false, cond, ◌||◌, List, [], ◌∷◌, ◌++◌, length, map, get_or, slice_get, Option, Some, None, option_map, refl, sym, ap, ◌∙◌, subst, arith}
use Rattle.std.specs.Prelude.{position, slice_index_or}
use Rattle.std.specs.Option.{option_map_or}
use Rattle.std.specs.Str.{bytes_eq}
use Rattle.std.proofs.lemmas.List.Quantifiers.{position-Some}
use Rattle.std.proofs.lemmas.Option.{slice_get-map}
use Rattle.std.proofs.lemmas.Slice.Eq.{bytes_eq-Decides}
use Rattle.p414_syntax.specs.declared.tables.Table.{Table}
use Rattle.p414_syntax.specs.declared.syntax.Decl.{Decl}
use Rattle.p414_syntax.specs.declared.syntax.Sort.TheVariants as sort
use Rattle.p414_syntax.specs.ControlExpansion.{egress}
use Rattle.p414_syntax.specs.Names.{Name, find_name, has_name, names_in, repeats_behind}
use Rattle.p414_syntax.specs.Pipelines.{IsApplied}
use Rattle.p414_syntax.specs.Tables.{tables, table_number}
use Rattle.p414_syntax.specs.Twice.{declares_twice}
use Rattle.p414_sem.specs.Expanded.{Expanded, IsExpanded}
use Rattle.p414_pipeline_check.specs.internal.Applied.{AreApplied}
use Rattle.lower_laws_states.specs.Expansions.{Has}
use Rattle.lower_laws_states.proofs.Filling.{table_names}
use Rattle.lower_laws_names.proofs.Lists.{not_again, itself, or_parts}
use Rattle.lower_laws_names.proofs.Objects.{next_place}
use Rattle.lower_laws_names.proofs.OneSort.{sort_once}
use Rattle.lower_laws_translated.specs.Translated.{applied_in, table_called, is_in_egress}
use Rattle.lower_laws_translated.proofs.Applied.{pipeline_applies}
use Rattle.lower_laws_translated.proofs.Complete.{pipeline_finds}
use Rattle.lower_copies.specs.Copying.{StandsBy}

-- names that stand in a list

or_true : (b : Bool) → (b || true) ≡ true
or_true true = refl
or_true false = refl

has_so : (names : List Name) (n : Name) → Has names n → has_name names n ≡ true
has_so [] n h = absurd h
has_so (x ∷ names) n (inl e) = ap (λ (b : Bool). b || has_name names n) ((bytes_eq-Decides n x).1 (sym e))
has_so (x ∷ names) n (inr h) = ap (λ (b : Bool). bytes_eq n x || b) (has_so names n h) ∙ or_true (bytes_eq n x)

found : (names : List Name) (n : Name) → has_name names n ≡ true → Has names n
found [] n e = absurd (cc e)
found (x ∷ names) n e = by (bytes_eq n x) refl e (found names n) where
  by : (b : Bool) → bytes_eq n x ≡ b → (b || has_name names n) ≡ true → (has_name names n ≡ true → Has names n) → Has (x ∷ names) n
  by true is e more = inl (sym ((bytes_eq-Decides n x).0 is))
  by false is e more = inr (more e)

-- a name that stands once is found at its place

got : (names : List Name) (k : ℕ) (n : Name) → slice_get names k ≡ Some n → Has names n
got [] k n e = absurd (cc e)
got (x ∷ names) zero n e = inl (cc e)
got (x ∷ names) (suc k) n e = inr (got names k n e)

differs : (a b : Name) → (a ≡ b → ⊥) → bytes_eq a b ≡ false
differs a b other = by (bytes_eq a b) refl where
  by : (q : Bool) → bytes_eq a b ≡ q → q ≡ false
  by true e = absurd (other ((bytes_eq-Decides a b).0 e))
  by false e = refl

at_its_place : (before names : List Name) (k : ℕ) (n : Name) → repeats_behind before names ≡ false → slice_get names k ≡ Some n → find_name names n ≡ Some k
at_its_place before [] k n once e = absurd (cc e)
at_its_place before (x ∷ xs) zero n once e =
    next_place [] (bytes_eq n) x xs
    ∙ ap (λ (q : Bool). cond q (Some 0) (option_map (λ (k : ℕ). suc k) (position (bytes_eq n) xs))) ((bytes_eq-Decides n x).1 (sym (the_same e)))
  where
    the_same : Some x ≡ Some n → x ≡ n
    the_same e = cc e
at_its_place before (x ∷ xs) (suc k) n once e =
    let later : repeats_behind (before ++ x ∷ []) xs ≡ false = (or_parts (has_name before x) (repeats_behind (before ++ x ∷ []) xs) once).1 in
    let here : has_name xs n ≡ true = has_so xs n (got xs k n e) in
    let none : has_name xs x ≡ false = not_again (before ++ x ∷ []) xs x (itself before x) later in
    next_place [] (bytes_eq n) x xs
    ∙ ap (λ (q : Bool). cond q (Some 0) (option_map (λ (k : ℕ). suc k) (position (bytes_eq n) xs)))
    (differs n x (λ (same : n ≡ x). no_longer (sym here ∙ (ap (has_name xs) same ∙ none))))
    ∙ ap (option_map (λ (k : ℕ). suc k)) (at_its_place (before ++ x ∷ []) xs k n later e)
  where
    no_longer : true ≡ false → ⊥
    no_longer e = cc e

-- a table by its number

within : {X : Type 0} (xs : List X) (n : ℕ) → n < length xs → (x : X) × (slice_get xs n ≡ Some x)
within [] n h = absurd (omega arith)
within (x ∷ xs) zero h = (x, refl)
within (x ∷ xs) (suc n) h = within xs n (omega arith)

at_place : (names : List Name) (k : ℕ) (n d : Name) → slice_get names k ≡ Some n → get_or names k d ≡ n
at_place [] k n d e = absurd (cc e)
at_place (x ∷ names) zero n d e = the_same e where
  the_same : Some x ≡ Some n → x ≡ n
  the_same e = cc e
at_place (x ∷ names) (suc k) n d e = at_place names k n d e

module _ (ds : List Decl) (once : declares_twice ds ≡ false) (x : Expanded) (expanded : IsExpanded ds x) (t : ℕ) (table : Table) (there : slice_get (tables ds) t ≡ Some table) where
  named_there : slice_get (names_in sort.Table ds) t ≡ Some table.name
  named_there =
      ap (λ (l : List Name). slice_get l t) (table_names ds)
      ∙ (slice_get-map (λ (u : Table). u.name) (tables ds) t ∙ ap (option_map (λ (u : Table). u.name)) there)

  numbered : table_number ds table.name ≡ Some t
  numbered = at_its_place [] (names_in sort.Table ds) t table.name (sort_once ds once sort.Table) named_there

  called : table_called ds t ≡ table.name
  called = ap (λ (o : Option Table). option_map_or (λ (u : Table). u.name) o []) there

  applies : IsApplied ds egress t → has_name (applied_in x.egress) table.name ≡ true
  applies is =
      let f = pipeline_finds ds egress x.egress expanded.to_egress t is in
      let same : f.0 ≡ table.name =
      (bytes_eq-Decides f.0 (get_or (names_in sort.Table ds) t [])).0 (position-Some (bytes_eq f.0) (names_in sort.Table ds) t [] f.1).1
      ∙ at_place (names_in sort.Table ds) t table.name [] named_there in
      has_so (applied_in x.egress) table.name (subst (Has (applied_in x.egress)) same f.2)

  is_applied : has_name (applied_in x.egress) table.name ≡ true → IsApplied ds egress t
  is_applied is = pipeline_applies ds table.name t numbered egress x.egress expanded.to_egress (found (applied_in x.egress) table.name is)

  flag_is : (b : Bool) → (b ≡ true → IsApplied ds egress t) → (IsApplied ds egress t → b ≡ true) → b ≡ has_name (applied_in x.egress) table.name
  flag_is true to from = sym (applies (to refl))
  flag_is false to from = by (has_name (applied_in x.egress) table.name) refl where
    by : (q : Bool) → has_name (applied_in x.egress) table.name ≡ q → false ≡ q
    by true e = from (is_applied e)
    by false e = refl

-- the flags of the tables that egress applies tell which of them stand in egress
pub stands_by : (ds : List Decl) (flags read : List Bool) → declares_twice ds ≡ false → AreApplied ds egress flags → read ≡ flags → (x : Expanded) → IsExpanded ds x → StandsBy ds (is_in_egress ds x) read
stands_by ds flags read once are same x expanded t lt =
    let one = within (tables ds) t lt in
    ap (λ (l : List Bool). slice_index_or l t false) same
    ∙ flag_is ds once x expanded t one.0 one.1 (slice_index_or flags t false) (are.exact t lt).0 (are.exact t lt).1
    ∙ ap (has_name (applied_in x.egress)) (sym (called ds once x expanded t one.0 one.1))
