-- Marks of lists.
use Rattle.std.proofs.Common.{◌≡◌, ℕ, ◌+◌, suc, ◌<◌, drop, get_or, Bool, true, false, if◌then◌else◌, List, [], ◌∷◌, ◌++◌, map, length, Option, Some, None, refl, sym, ap, ap₂, ◌∙◌, subst, arith}
use Rattle.std.proofs.lemmas.List.{append_assoc, drop_more, length-append}
use Rattle.p414_syntax.specs.declared.syntax.Decl.{Decl}
use Rattle.p414_syntax.specs.declared.syntax.Sort.TheVariants as sort
use Rattle.p414_syntax.specs.Names.{Name, has_name, names_in}
use Rattle.p414_syntax.specs.Preserved.{preserved_lists}
use Rattle.agreement_of_meanings.specs.Agrees.{Marked}
use Rattle.lower_laws_names.specs.Marks.{marks, marks_from}
use Rattle.lower_rows.specs.Named.{marked_lists}
use Rattle.lower_marks.specs.Marking.{marks_by, mark_if, marked_if, next_mark, ArePreserved}

marks_one : (preserved : List Name) (list number : ℕ) (name : Name) (flags : List Bool) (names : List Name) (b : Bool) → has_name preserved name ≡ b → ((k n : ℕ) → marks_by flags k n ≡ marks_from preserved k n names) → marks_by (has_name preserved name ∷ flags) list number ≡ marks_from preserved list number (name ∷ names)
marks_one preserved list number name flags names true e rest =
    rw e (ap (λ ms. (record { list = list; number = number }) ∷ ms) (rest (list + 1) (number + 1)))
marks_one preserved list number name flags names false e rest = rw e (rest (list + 1) number)

marks_same : (preserved : List Name) (names : List Name) (list number : ℕ) → marks_by (map (has_name preserved) names) list number ≡ marks_from preserved list number names
marks_same preserved [] list number = refl
marks_same preserved (name ∷ names) list number =
    marks_one preserved list number name (map (has_name preserved) names) names (has_name preserved name) refl (marks_same preserved names)

pub all_marks : (ds : List Decl) (flags : List Bool) → ArePreserved ds flags → marks_by flags 0 1 ≡ marks ds
all_marks ds flags are = ap (λ fs. marks_by fs 0 1) are ∙ marks_same (preserved_lists ds) (names_in sort.List ds) 0 1

marked_append : (list : ℕ) (xs : List (Option ℕ)) (y : Option ℕ) → marked_lists list (xs ++ y ∷ []) ≡ marked_lists list xs ++ marked_lists (list + length xs) (y ∷ [])
marked_append list [] y =
    let same : list ≡ list + 0 = omega arith in
    ap (λ k. marked_lists k (y ∷ [])) same
marked_append list (None ∷ xs) y =
    let same : (list + 1) + length xs ≡ list + suc (length xs) = omega arith in
    marked_append (list + 1) xs y ∙ ap (λ k. marked_lists (list + 1) xs ++ marked_lists k (y ∷ [])) same
marked_append list (Some n ∷ xs) y =
    let same : (list + 1) + length xs ≡ list + suc (length xs) = omega arith in
    ap (λ ms. (record { list = list; number = n }) ∷ ms)
    (marked_append (list + 1) xs y ∙ ap (λ k. marked_lists (list + 1) xs ++ marked_lists k (y ∷ [])) same)

pub marked_some : (xs : List (Option ℕ)) (i n : ℕ) → length xs ≡ i → marked_lists 0 (xs ++ Some n ∷ []) ≡ marked_lists 0 xs ++ (record { list = i; number = n }) ∷ []
marked_some xs i n e =
    let same : 0 + length xs ≡ i = omega (arith, e) in
    marked_append 0 xs (Some n) ∙ ap (λ k. marked_lists 0 xs ++ marked_lists k (Some n ∷ [])) same

pub marked_none : (xs : List (Option ℕ)) → marked_lists 0 (xs ++ None ∷ []) ≡ marked_lists 0 xs ++ []
marked_none xs = marked_append 0 xs None

-- a turn of the loop

turn_by : (found : List (Option ℕ)) (rest : List Bool) (i number : ℕ) (b : Bool) (z : List Marked) → length found ≡ i → marked_lists 0 found ++ marks_by (b ∷ rest) i number ≡ z → marked_lists 0 (found ++ mark_if b number ∷ []) ++ marks_by rest (i + 1) (next_mark b number) ≡ z
turn_by found rest i number true z len so =
    ap (λ ms. ms ++ marks_by rest (i + 1) (number + 1)) (marked_some found i number len)
    ∙ append_assoc (marked_lists 0 found) ((record { list = i; number = number }) ∷ []) (marks_by rest (i + 1) (number + 1))
    ∙ so
turn_by found rest i number false z len so =
    ap (λ ms. ms ++ marks_by rest (i + 1) number) (marked_none found)
    ∙ append_assoc (marked_lists 0 found) [] (marks_by rest (i + 1) number)
    ∙ so

pub turn : (found new : List (Option ℕ)) (flags : List Bool) (i number next : ℕ) (mark : Option ℕ) (d : Bool) (z : List Marked) → i < length flags → length found ≡ i → marked_lists 0 found ++ marks_by (drop i flags) i number ≡ z → mark ≡ mark_if (get_or flags i d) number → next ≡ next_mark (get_or flags i d) number → new ≡ found ++ mark ∷ [] → marked_lists 0 new ++ marks_by (drop (i + 1) flags) (i + 1) next ≡ z
turn found new flags i number next mark d z lt len so marked nexts is =
    let before : marked_lists 0 found ++ marks_by (get_or flags i d ∷ drop (i + 1) flags) i number ≡ z =
    ap (λ bs. marked_lists 0 found ++ marks_by bs i number) (sym (drop_more flags i d lt)) ∙ so in
    let after = turn_by found (drop (i + 1) flags) i number (get_or flags i d) z len before in
    ap₂ (λ ms n. marked_lists 0 ms ++ marks_by (drop (i + 1) flags) (i + 1) n) (is ∙ ap (λ m. found ++ m ∷ []) marked) nexts ∙ after

pub turn_length : (found new : List (Option ℕ)) (mark : Option ℕ) (i : ℕ) → length found ≡ i → new ≡ found ++ mark ∷ [] → length new ≡ i + 1
turn_length found new mark i e is = ap length is ∙ length-append found (mark ∷ []) ∙ ap (λ k. k + 1) e

-- the lists that have a mark, one after another

marked_first : (list : ℕ) (mark : Option ℕ) (rows : List (Option ℕ)) → marked_lists list (mark ∷ rows) ≡ marked_if list mark ++ marked_lists (list + 1) rows
marked_first list None rows = refl
marked_first list (Some number) rows = refl

pub marked_turn : (rows : List (Option ℕ)) (i : ℕ) (d : Option ℕ) (old new whole : List Marked) → i < length rows → new ≡ old ++ marked_if i (get_or rows i d) → old ++ marked_lists i (drop i rows) ≡ whole → new ++ marked_lists (i + 1) (drop (i + 1) rows) ≡ whole
marked_turn rows i d old new whole h is same =
    ap (λ l. l ++ marked_lists (i + 1) (drop (i + 1) rows)) is
    ∙ (append_assoc old (marked_if i (get_or rows i d)) (marked_lists (i + 1) (drop (i + 1) rows))
    ∙ (ap (λ l. old ++ l) (sym (ap (marked_lists i) (drop_more rows i d h) ∙ marked_first i (get_or rows i d) (drop (i + 1) rows))) ∙ same))
