-- The lists of fields one after another.
use Rattle.std.proofs.Common.{◌≡◌, ℕ, ◌+◌, ◌<◌, ◌≤◌, nat_lt, Bool, true, false, cond, List, [], ◌∷◌, ◌++◌, length, map, flat_map, take, drop, get_or, All, refl, sym, ap, ◌∙◌, subst, append_assoc}
use Rattle.std.proofs.lemmas.List.{drop_more, take_all}
use Rattle.std.proofs.lemmas.List.Elements.{All-more}
use Rattle.p416_syntax.specs.declared.lexeme.Literal16.{Literal16}
use Rattle.p416_syntax.specs.declared.parts.Note.{Note}
use Rattle.p416_syntax.specs.declared.parts.StructField.{StructField}
use Rattle.p416_syntax.specs.declared.program.Decl16.{Decl16}
use Rattle.p416_syntax.specs.Declarations.{list_numbers}
use Rattle.v1_pass_slots.specs.Lists.{small_numbers, lists_of, slot_lists, all_lists}

small_both : (xs ys : List Literal16) → small_numbers (xs ++ ys) ≡ small_numbers xs ++ small_numbers ys
small_both [] ys = refl
small_both (x ∷ xs) ys = by (nat_lt x.value 256) (small_both xs ys) where
  by : (b : Bool) → small_numbers (xs ++ ys) ≡ small_numbers xs ++ small_numbers ys → cond b (x.value ∷ small_numbers (xs ++ ys)) (small_numbers (xs ++ ys)) ≡ cond b (x.value ∷ small_numbers xs) (small_numbers xs) ++ small_numbers ys
  by true more = ap (λ (l : List ℕ). x.value ∷ l) more
  by false more = more

-- a number of 8 bits, and one of more
pub one_more : (old whole : List ℕ) (n : Literal16) (rest : List Literal16) → nat_lt n.value 256 ≡ true → old ++ small_numbers (n ∷ rest) ≡ whole → (old ++ n.value ∷ []) ++ small_numbers rest ≡ whole
one_more old whole n rest small is =
    append_assoc old (n.value ∷ []) (small_numbers rest)
    ∙ ap (λ (b : Bool). old ++ cond b (n.value ∷ small_numbers rest) (small_numbers rest)) (sym small) ∙ is

pub none_more : (old whole : List ℕ) (n : Literal16) (rest : List Literal16) → nat_lt n.value 256 ≡ false → old ++ small_numbers (n ∷ rest) ≡ whole → old ++ small_numbers rest ≡ whole
none_more old whole n rest large is =
    ap (λ (b : Bool). old ++ cond b (n.value ∷ small_numbers rest) (small_numbers rest)) (sym large) ∙ is

-- turns of loops

next : {X : Type 0} (xs : List X) (i : ℕ) (x : X) → i < length xs → x ≡ get_or xs i x → drop i xs ≡ x ∷ drop (i + 1) xs
next xs i x lt is = drop_more xs i x lt ∙ ap (λ y. y ∷ drop (i + 1) xs) (sym is)

-- the lists of one annotation more
pub note_on : (notes : List Note) (i : ℕ) (x : Note) (old new whole : List ℕ) → i < length notes → x ≡ get_or notes i x → new ≡ old ++ small_numbers (list_numbers x) → old ++ small_numbers (flat_map list_numbers (drop i notes)) ≡ whole → new ++ small_numbers (flat_map list_numbers (drop (i + 1) notes)) ≡ whole
note_on notes i x old new whole lt is step so =
    let rest : List Note = drop (i + 1) notes in
    ap (λ (l : List ℕ). l ++ small_numbers (flat_map list_numbers rest)) step
    ∙ append_assoc old (small_numbers (list_numbers x)) (small_numbers (flat_map list_numbers rest))
    ∙ ap (λ (l : List ℕ). old ++ l) (sym (small_both (list_numbers x) (flat_map list_numbers rest)))
    ∙ ap (λ (ns : List Note). old ++ small_numbers (flat_map list_numbers ns)) (sym (next notes i x lt is)) ∙ so

-- those of one field more
pub field_on : (fields : List StructField) (i : ℕ) (f : StructField) (old new whole : List (List ℕ)) → i < length fields → f ≡ get_or fields i f → new ≡ old ++ lists_of f ∷ [] → old ++ map lists_of (drop i fields) ≡ whole → new ++ map lists_of (drop (i + 1) fields) ≡ whole
field_on fields i f old new whole lt is step so =
    ap (λ (l : List (List ℕ)). l ++ map lists_of (drop (i + 1) fields)) step
    ∙ append_assoc old (lists_of f ∷ []) (map lists_of (drop (i + 1) fields))
    ∙ ap (λ (fs : List StructField). old ++ map lists_of fs) (sym (next fields i f lt is)) ∙ so

pub metadata_on : (ds : List Decl16) (fields : List StructField) (i : ℕ) (f : StructField) (old new whole : List (List ℕ)) → i < length fields → f ≡ get_or fields i f → new ≡ old ++ slot_lists ds f → old ++ all_lists ds (drop i fields) ≡ whole → new ++ all_lists ds (drop (i + 1) fields) ≡ whole
metadata_on ds fields i f old new whole lt is step so =
    ap (λ (l : List (List ℕ)). l ++ all_lists ds (drop (i + 1) fields)) step
    ∙ append_assoc old (slot_lists ds f) (all_lists ds (drop (i + 1) fields))
    ∙ ap (λ (fs : List StructField). old ++ all_lists ds fs) (sym (next fields i f lt is)) ∙ so

-- what holds of each so far
pub each_on : {X : Type 0} (P : X → Type 0) (xs : List X) (i : ℕ) (x : X) → i < length xs → x ≡ get_or xs i x → P x → All P (take i xs) → All P (take (i + 1) xs)
each_on P xs i x lt is now so = All-more P xs i x lt so (subst P is now)

pub each_one : {X : Type 0} (P : X → Type 0) (xs : List X) (i : ℕ) → length xs ≤ i → All P (take i xs) → All P xs
each_one P xs i le so = subst (λ ys. All P ys) (take_all i xs le) so
