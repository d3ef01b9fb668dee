-- The marks of a program: each list that is preserved has one, none is 0, and none is greater than there are such lists (C1).
use Rattle.std.proofs.Common.{◌≡◌, inl, inr, ℕ, zero, suc, ◌+◌, ◌<◌, ◌≤◌, Bool, true, false, cond, ◌||◌, Some, List, [], ◌∷◌, ◌++◌, length, map, slice_get, refl, sym, ap, ◌∙◌, subst, arith}
use Rattle.std.specs.Prelude.{filter}
use Rattle.std.specs.List.{list_any}
use Rattle.std.specs.Str.{bytes_eq}
use Rattle.std.proofs.lemmas.Bool.{eq-eqb, ne_eqb}
use Rattle.std.proofs.lemmas.List.Quantifiers.{position-Some}
use Rattle.std.proofs.lemmas.Option.{slice_get-get_or}
use Rattle.p414_syntax.specs.declared.syntax.Decl.{Decl}
use Rattle.p414_syntax.specs.declared.syntax.Sort.TheVariants as sort
use Rattle.p414_syntax.specs.Names.{Name, has_name, repeats_behind, repeats, names_in}
use Rattle.p414_syntax.specs.Expansion.{lists, list_name, list_number}
use Rattle.p414_syntax.specs.Preserved.{preserved_lists}
use Rattle.p414_syntax.specs.Twice.{declares_twice, sorts, repeats_in}
use Rattle.agreement_of_meanings.specs.Agrees.{Marked, mark_of, MarksNone}
use Rattle.lower_laws_base.specs.Context.{Lowering}
use Rattle.lower_laws_states.specs.Expansions.{Has}
use Rattle.lower_laws_states.proofs.Members.{neither, none_passes, same_name}
use Rattle.lower_laws_premises.specs.Shown.{ShowsMarks}
use Rattle.lower_laws_names.specs.Marks.{marks_from, marks}
use Rattle.lower_laws_premises.proofs.Counting.{first_of, second_of}
use Rattle.lower_laws_premises.proofs.Objects.{not_behind}
use Rattle.lower_laws_premises.proofs.Hashes.{list_names}

-- how many of these names stand among those

abbrev without : Name → List Name → List Name
without name [] = []
without name (x ∷ xs) = cond (bytes_eq name x) xs (x ∷ without name xs)

one_fewer : (name : Name) (list : List Name) → has_name list name ≡ true → suc (length (without name list)) ≡ length list
one_fewer name [] e = absurd (cc e)
one_fewer name (x ∷ xs) e = by (bytes_eq name x) e (one_fewer name xs) where
  by : (b : Bool) → b || has_name xs name ≡ true → (has_name xs name ≡ true → suc (length (without name xs)) ≡ length xs) → suc (length (cond b xs (x ∷ without name xs))) ≡ suc (length xs)
  by true e rest = refl
  by false e rest = ap suc (rest e)

still_there : (name m : Name) (list : List Name) → bytes_eq m name ≡ false → has_name list m ≡ true → has_name (without name list) m ≡ true
still_there name m [] other e = absurd (cc e)
still_there name m (x ∷ xs) other e = by (bytes_eq name x) refl (bytes_eq m x) refl e (still_there name m xs other) where
  by : (b : Bool) → bytes_eq name x ≡ b → (d : Bool) → bytes_eq m x ≡ d → d || has_name xs m ≡ true → (has_name xs m ≡ true → has_name (without name xs) m ≡ true) → has_name (cond b xs (x ∷ without name xs)) m ≡ true
  by true is false not e rest = e
  by true is true same e rest = absurd (cc (other, ap (bytes_eq m) (same_name name x is), same))
  by false is true same e rest = first_of (bytes_eq m x) _ same
  by false is false not e rest = second_of (bytes_eq m x) _ (rest e)

more_pass : (p q : Name → Bool) (names : List Name) → ((m : Name) → Has names m → p m ≡ true → q m ≡ true) → length (filter p names) ≤ length (filter q names)
more_pass p q [] each = omega arith
more_pass p q (m ∷ names) each = by (p m) refl (q m) refl (more_pass p q names (λ n h. each n (inr h))) where
  by : (a : Bool) → p m ≡ a → (b : Bool) → q m ≡ b → length (filter p names) ≤ length (filter q names) → length (cond a (m ∷ filter p names) (filter p names)) ≤ length (cond b (m ∷ filter q names) (filter q names))
  by true e true f rest = omega (arith, rest)
  by true e false f rest = absurd (cc (each m (inl refl) e, f))
  by false e true f rest = omega (arith, rest)
  by false e false f rest = rest

last : (l : List Name) (m : Name) → Has (l ++ m ∷ []) m
last [] m = inl refl
last (x ∷ l) m = inr (last l m)

few_among : (before names preserved : List Name) → repeats_behind before names ≡ false → length (filter (has_name preserved) names) ≤ length preserved
few_among before [] preserved once = omega arith
few_among before (name ∷ names) preserved once = by (has_name preserved name) refl (λ ps. few_among (before ++ name ∷ []) names ps more) where
  more : repeats_behind (before ++ name ∷ []) names ≡ false
  more = (neither (has_name before name) _ once).1

  another : (m : Name) → Has names m → bytes_eq m name ≡ false
  another m h = of (bytes_eq m name) refl where
    of : (b : Bool) → bytes_eq m name ≡ b → b ≡ false
    of true e = absurd (not_behind (before ++ name ∷ []) names name more (last before name) (subst (Has names) (same_name m name e) h))
    of false e = refl

  by : (b : Bool) → has_name preserved name ≡ b → ((ps : List Name) → length (filter (has_name ps) names) ≤ length ps) → length (cond b (name ∷ filter (has_name preserved) names) (filter (has_name preserved) names)) ≤ length preserved
  by true e rest =
      let fewer = one_fewer name preserved e in
      let most = more_pass (has_name preserved) (has_name (without name preserved)) names (λ m h is. still_there name m preserved (another m h) is) in
      let few = rest (without name preserved) in
      omega (arith, fewer, most, few)
  by false e rest = rest preserved

-- the mark of a list

mark_there : (preserved : List Name) (name : Name) → has_name preserved name ≡ true → (list n : ℕ) (names : List Name) (k : ℕ) → slice_get names k ≡ Some name → (number : ℕ) × (mark_of (marks_from preserved list n names) (list + k) ≡ Some number) × (number < n + length (filter (has_name preserved) names))
mark_there preserved name has list n [] k e = absurd (cc e)
mark_there preserved name has list n (m ∷ names) zero e = by (has_name preserved m) (ap (has_name preserved) (cc e) ∙ has) where
  by : (b : Bool) → b ≡ true → (number : ℕ) × (mark_of (cond b (record { list = list; number = n } ∷ marks_from preserved (list + 1) (n + 1) names) (marks_from preserved (list + 1) n names)) (list + 0) ≡ Some number) × (number < n + length (cond b (m ∷ filter (has_name preserved) names) (filter (has_name preserved) names)))
  by true is = (n, ap (λ (c : Bool). cond c (Some n) (mark_of (marks_from preserved (list + 1) (n + 1) names) (list + 0))) (eq-eqb list (list + 0) (omega arith)), omega arith)
  by false is = absurd (cc is)
mark_there preserved name has list n (m ∷ names) (suc k) e = by (has_name preserved m) (mark_there preserved name has (list + 1) (n + 1) names k e) (mark_there preserved name has (list + 1) n names k e) where
  moved : (list + 1) + k ≡ list + suc k
  moved = omega arith

  by : (b : Bool) → ((number : ℕ) × (mark_of (marks_from preserved (list + 1) (n + 1) names) (list + 1 + k) ≡ Some number) × (number < n + 1 + length (filter (has_name preserved) names))) → ((number : ℕ) × (mark_of (marks_from preserved (list + 1) n names) (list + 1 + k) ≡ Some number) × (number < n + length (filter (has_name preserved) names)))
      → (number : ℕ) × (mark_of (cond b (record { list = list; number = n } ∷ marks_from preserved (list + 1) (n + 1) names) (marks_from preserved (list + 1) n names)) (list + suc k) ≡ Some number) × (number < n + length (cond b (m ∷ filter (has_name preserved) names) (filter (has_name preserved) names)))
  by true one rest = let few = one.2 in (one.0, ap (λ (c : Bool). cond c (Some n) (mark_of (marks_from preserved (list + 1) (n + 1) names) (list + suc k))) (ne_eqb list (list + suc k) (λ same. omega (arith, same))) ∙ (ap (mark_of (marks_from preserved (list + 1) (n + 1) names)) (sym moved) ∙ one.1), omega (arith, few))
  by false one rest = (rest.0, ap (mark_of (marks_from preserved (list + 1) n names)) (sym moved) ∙ rest.1, rest.2)

none_zero : (preserved : List Name) (list n : ℕ) (names : List Name) → 0 < n → MarksNone (marks_from preserved list n names) 0
none_zero preserved list n [] lt = tt
none_zero preserved list n (m ∷ names) lt = by (has_name preserved m) (none_zero preserved (list + 1) (n + 1) names (omega arith)) (none_zero preserved (list + 1) n names lt) where
  by : (b : Bool) → MarksNone (marks_from preserved (list + 1) (n + 1) names) 0 → MarksNone (marks_from preserved (list + 1) n names) 0 → MarksNone (cond b (record { list = list; number = n } ∷ marks_from preserved (list + 1) (n + 1) names) (marks_from preserved (list + 1) n names)) 0
  by true one rest = (λ e. omega (arith, e, lt), one)
  by false one rest = rest

-- So the marks of the lowering are as they are asked for.
pub shows_marks : (c : Lowering) (ds : List Decl) → declares_twice ds ≡ false → c.layout.names.marks ≡ marks ds → ShowsMarks c ds
shows_marks c ds unique same = record { marked = marked; zero = subst (λ (ms : List Marked). MarksNone ms 0) (sym same) (none_zero (preserved_lists ds) 0 1 (names_in sort.List ds) (omega arith)) } where
  once : repeats (names_in sort.List ds) ≡ false
  once = (neither _ (repeats (names_in sort.List ds)) (none_passes (repeats_in ds) sorts sort.List (neither (list_any (repeats_in ds) sorts) _ unique).0 (inr (inr (inr (inr (inr (inl refl)))))))).1

  marked : (name : Name) (list : ℕ) → has_name (preserved_lists ds) name ≡ true → list_number ds name ≡ Some list → (number : ℕ) × (mark_of c.layout.names.marks list ≡ Some number) × (number ≤ length (preserved_lists ds))
  marked name list has e =
      let at = position-Some (bytes_eq name) (map list_name (lists ds)) list [] e in
      let there : slice_get (names_in sort.List ds) list ≡ Some name = ap (λ (l : List Name). slice_get l list) (list_names ds) ∙ (slice_get-get_or (map list_name (lists ds)) list [] at.0 ∙ ap Some (sym (same_name name _ at.1))) in
      let m = mark_there (preserved_lists ds) name has 0 1 (names_in sort.List ds) list there in
      let below = m.2 in
      let few = few_among [] (names_in sort.List ds) (preserved_lists ds) once in
      (m.0, subst (λ (ms : List Marked). mark_of ms list ≡ Some m.0) (sym same) (subst (λ k. mark_of (marks ds) k ≡ Some m.0) (from_zero list) m.1), omega (arith, below, few))
    where
      from_zero : (k : ℕ) → 0 + k ≡ k
      from_zero k = omega arith
