-- A field bears the number of each preserved list that holds it, and no other number.
use Rattle.std.proofs.Common.{◌≡◌, ℕ, zero, suc, ◌+◌, ◌<◌, ◌≤◌, Bool, true, false, ◌||◌, cond, eqb, Option, Some, List, [], ◌∷◌, length, map, get_or, refl, ap, ◌∙◌, arith}
use Rattle.std.specs.List.{list_any, filter, flat_map}
use Rattle.std.proofs.lemmas.Bool.{eqb-true, ne_eqb, eq-eqb}
use Rattle.std.proofs.lemmas.List.{append-nil}
use Rattle.p414_syntax.specs.declared.syntax.Decl.{Decl}
use Rattle.p414_syntax.specs.declared.syntax.Sort.TheVariants as sort
use Rattle.p414_syntax.specs.Names.{Name, has_name, names_in}
use Rattle.p414_syntax.specs.Preserved.{preserved_lists}
use Rattle.p414_sem.specs.Expanded.{Expanded, items_in_list}
use Rattle.p416_syntax.specs.Declarations.{list_numbers}
use Rattle.p416_syntax.specs.declared.parts.StructField.{StructField}
use Rattle.v1_core.specs.Passes.{is_number, is_in_list}
use Rattle.agreement_of_meanings.specs.Shown.{NamedField, field_at}
use Rattle.agreement_of_meanings.specs.Agrees.{Marked, mark_of, MarksNone}
use Rattle.lower_laws_names.specs.Marks.{marks_from, marks, is_item, mark_number, marks_of_field}
use Rattle.lower_laws_names.specs.Types.{plain, notes_of, struct_field, struct_fields_from}

-- the number stands among these
abbrev pub has_number : ℕ → List ℕ → Bool
has_number number ns = list_any (λ (k : ℕ). eqb k number) ns

-- numbers in annotations

plain_any : (number : ℕ) (ns : List ℕ) → list_any (is_number number) (map plain ns) ≡ has_number number ns
plain_any number [] = refl
plain_any number (n ∷ ns) = ap (λ (b : Bool). eqb n number || b) (plain_any number ns)

notes_any : (number : ℕ) (ns : List ℕ) → list_any (is_number number) (flat_map list_numbers (notes_of ns)) ≡ has_number number ns
notes_any number [] = refl
notes_any number (n ∷ ns) =
    ap (list_any (is_number number)) (append-nil (map plain (n ∷ ns))) ∙ plain_any number (n ∷ ns)

-- marks of lists that pass a test

module _ (h : ℕ → Bool) where
  abbrev pub passes : Marked → Bool
  passes m = h m.list

  abbrev pub numbers_of : List Marked → List ℕ
  numbers_of ms = map mark_number (filter passes ms)

  abbrev kept_one : Bool → Marked → List Marked → List ℕ
  kept_one b m ms = map mark_number (cond b (m ∷ filter passes ms) (filter passes ms))

  one_below : (b : Bool) (m : Marked) (ms : List Marked) (number : ℕ) → number < m.number → has_number number (numbers_of ms) ≡ false → has_number number (kept_one b m ms) ≡ false
  one_below true m ms number lt none = rw (ne_eqb m.number number (λ e. omega arith), none) refl
  one_below false m ms number lt none = none

  none_below : (preserved : List Name) (list n : ℕ) (names : List Name) (number : ℕ) → number < n → has_number number (numbers_of (marks_from preserved list n names)) ≡ false
  none_below preserved list n [] number lt = refl
  none_below preserved list n (name ∷ names) number lt =
      by (has_name preserved name) (one_below (h list) (record { list = list; number = n }) (marks_from preserved (list + 1) (n + 1) names) number lt (none_below preserved (list + 1) (n + 1) names number (omega arith))) (none_below preserved (list + 1) n names number lt)
    where
      by : (b : Bool) → has_number number (kept_one (h list) (record { list = list; number = n }) (marks_from preserved (list + 1) (n + 1) names)) ≡ false → has_number number (numbers_of (marks_from preserved (list + 1) n names)) ≡ false
          → has_number number (numbers_of (cond b (record { list = list; number = n } ∷ marks_from preserved (list + 1) (n + 1) names) (marks_from preserved (list + 1) n names))) ≡ false
      by true one rest = one
      by false one rest = rest

  abbrev first : ℕ → ℕ → Marked
  first list n = record { list = list; number = n }

  -- a mark is no less than the first one
  mark_above : (preserved : List Name) (list n : ℕ) (names : List Name) (wanted number : ℕ) → mark_of (marks_from preserved list n names) wanted ≡ Some number → n ≤ number
  mark_above preserved list n [] wanted number e = cc
  mark_above preserved list n (name ∷ names) wanted number e =
      by (has_name preserved name) (mark_above preserved (list + 1) (n + 1) names wanted number) (mark_above preserved (list + 1) n names wanted number) e
    where
      one_of : (c : Bool) (o : Option ℕ) → (o ≡ Some number → n + 1 ≤ number) → cond c (Some n) o ≡ Some number → n ≤ number
      one_of true o above f = let same : n ≡ number = cc in omega arith
      one_of false o above f = omega (arith, above f)

      by : (b : Bool) → (mark_of (marks_from preserved (list + 1) (n + 1) names) wanted ≡ Some number → n + 1 ≤ number) → (mark_of (marks_from preserved (list + 1) n names) wanted ≡ Some number → n ≤ number)
          → mark_of (cond b (first list n ∷ marks_from preserved (list + 1) (n + 1) names) (marks_from preserved (list + 1) n names)) wanted ≡ Some number → n ≤ number
      by true one rest f = one_of (eqb list wanted) (mark_of (marks_from preserved (list + 1) (n + 1) names) wanted) one f
      by false one rest f = rest f

  here_by : (b : Bool) (n number : ℕ) (m : Marked) (ms : List Marked) → m.number ≡ n → n ≡ number → has_number number (numbers_of ms) ≡ false → has_number number (kept_one b m ms) ≡ b
  here_by true n number m ms e f none = rw (eq-eqb m.number number (e ∙ f)) refl
  here_by false n number m ms e f none = none

  there_by : (b : Bool) (number : ℕ) (m : Marked) (ms : List Marked) → m.number < number → has_number number (kept_one b m ms) ≡ has_number number (numbers_of ms)
  there_by true number m ms lt = rw (ne_eqb m.number number (λ e. omega arith)) refl
  there_by false number m ms lt = refl

  pub marked : (preserved : List Name) (list n : ℕ) (names : List Name) (wanted number : ℕ) → mark_of (marks_from preserved list n names) wanted ≡ Some number → has_number number (numbers_of (marks_from preserved list n names)) ≡ h wanted
  marked preserved list n [] wanted number e = cc
  marked preserved list n (name ∷ names) wanted number e =
      by (has_name preserved name) (marked preserved (list + 1) (n + 1) names wanted number) (marked preserved (list + 1) n names wanted number) e
    where
      more : List Marked
      more = marks_from preserved (list + 1) (n + 1) names

      at : (c : Bool) → eqb list wanted ≡ c → (mark_of (marks_from preserved (list + 1) (n + 1) names) wanted ≡ Some number → has_number number (numbers_of (marks_from preserved (list + 1) (n + 1) names)) ≡ h wanted)
          → cond c (Some n) (mark_of (marks_from preserved (list + 1) (n + 1) names) wanted) ≡ Some number → has_number number (kept_one (h list) (first list n) (marks_from preserved (list + 1) (n + 1) names)) ≡ h wanted
      at true same one f =
          let is : n ≡ number = cc in
          here_by (h list) n number (first list n) (marks_from preserved (list + 1) (n + 1) names) refl is (none_below preserved (list + 1) (n + 1) names number (omega arith)) ∙ ap h (eqb-true list wanted same)
      at false same one f =
          let above : n + 1 ≤ number = mark_above preserved (list + 1) (n + 1) names wanted number f in
          there_by (h list) number (first list n) (marks_from preserved (list + 1) (n + 1) names) (omega arith) ∙ one f

      by : (b : Bool) → (mark_of (marks_from preserved (list + 1) (n + 1) names) wanted ≡ Some number → has_number number (numbers_of (marks_from preserved (list + 1) (n + 1) names)) ≡ h wanted)
          → (mark_of (marks_from preserved (list + 1) n names) wanted ≡ Some number → has_number number (numbers_of (marks_from preserved (list + 1) n names)) ≡ h wanted)
          → mark_of (cond b (first list n ∷ marks_from preserved (list + 1) (n + 1) names) (marks_from preserved (list + 1) n names)) wanted ≡ Some number
          → has_number number (numbers_of (cond b (first list n ∷ marks_from preserved (list + 1) (n + 1) names) (marks_from preserved (list + 1) n names))) ≡ h wanted
      by true one rest f = at (eqb list wanted) refl one f
      by false one rest f = rest f

  pub unmarked : (ms : List Marked) (number : ℕ) → MarksNone ms number → has_number number (numbers_of ms) ≡ false
  unmarked [] number none = refl
  unmarked (m ∷ ms) number none = by (h m.list) (unmarked ms number none.1)
    where
      by : (b : Bool) → has_number number (numbers_of ms) ≡ false → has_number number (kept_one b m ms) ≡ false
      by true rest = rw (ne_eqb m.number number none.0, rest) refl
      by false rest = rest

-- 0 is the mark of no list

above_zero : (preserved : List Name) (list n : ℕ) (names : List Name) → 0 < n → MarksNone (marks_from preserved list n names) 0
above_zero preserved list n [] lt = tt
above_zero preserved list n (name ∷ names) lt =
    by (has_name preserved name) (above_zero preserved (list + 1) (n + 1) names (omega arith)) (above_zero preserved (list + 1) n names lt)
  where
    by : (b : Bool) → MarksNone (marks_from preserved (list + 1) (n + 1) names) 0 → MarksNone (marks_from preserved (list + 1) n names) 0
        → MarksNone (cond b (record { list = list; number = n } ∷ marks_from preserved (list + 1) (n + 1) names) (marks_from preserved (list + 1) n names)) 0
    by true one rest = (λ e. omega arith, one)
    by false one rest = rest

pub none_is_zero : (ds : List Decl) → MarksNone (marks ds) 0
none_is_zero ds = above_zero (preserved_lists ds) 0 1 (names_in sort.List ds) (omega arith)

-- fields

module _ (ds : List Decl) (x : Expanded) where
  pub field_at_place : (k f : ℕ) (fields : List NamedField) (i : ℕ) (d : StructField) → i < length fields → get_or (struct_fields_from ds x k f fields) i d ≡ struct_field ds x k (f + i) (field_at fields i)
  field_at_place k f [] i d lt = absurd (omega arith)
  field_at_place k f (field ∷ fields) zero d lt = ap (λ (j : ℕ). struct_field ds x k j field) (omega arith)
  field_at_place k f (field ∷ fields) (suc i) d lt =
      field_at_place k (f + 1) fields i d (omega arith) ∙ ap (λ (j : ℕ). struct_field ds x k j (field_at fields i)) (omega arith)

  pub fields_count : (k f : ℕ) (fields : List NamedField) → length (struct_fields_from ds x k f fields) ≡ length fields
  fields_count k f [] = refl
  fields_count k f (field ∷ fields) = ap suc (fields_count k (f + 1) fields)

  -- the field bears the number of a list exactly where the list holds it
  pub is_marked : (k f : ℕ) (field : NamedField) (list number : ℕ) → mark_of (marks ds) list ≡ Some number
      → is_in_list number (struct_field ds x k f field) ≡ list_any (is_item ds k f) (items_in_list x list)
  is_marked k f field list number e =
      notes_any number (marks_of_field ds x k f)
      ∙ marked (λ (l : ℕ). list_any (is_item ds k f) (items_in_list x l)) (preserved_lists ds) 0 1 (names_in sort.List ds) list number e

  pub is_unmarked : (k f : ℕ) (field : NamedField) (number : ℕ) → MarksNone (marks ds) number → is_in_list number (struct_field ds x k f field) ≡ false
  is_unmarked k f field number none =
      notes_any number (marks_of_field ds x k f) ∙ unmarked (λ (l : ℕ). list_any (is_item ds k f) (items_in_list x l)) (marks ds) number none
