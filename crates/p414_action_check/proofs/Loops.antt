-- Turns of the loops that gather what C15 asks.
use Rattle.std.proofs.Common.{◌≡◌, ℕ, ◌+◌, ◌<◌, min, true, false, cond, List, [], ◌∷◌, ◌++◌, length, get_or, drop, map, flat_map, option_to_list, Option, Some, None, refl, sym, ap, ◌∙◌, append_assoc, arith}
use Rattle.std.specs.Prelude.{filter_map}
use Rattle.std.specs.List.{cons_option}
use Rattle.std.proofs.lemmas.Grind.{flat_map-append}
use Rattle.std.proofs.lemmas.List.{map-append}
use Rattle.p414_syntax.specs.declared.syntax.Decl.{Decl}
use Rattle.p414_syntax.specs.declared.place.ArgumentPlace.{ArgumentPlace}
use Rattle.p414_syntax.specs.Names.{Name, has_name}
use Rattle.p414_syntax.specs.Distinct.{distinct_behind}
use Rattle.p414_syntax.specs.Uses.{first_place, further_places}
use Rattle.p414_syntax.specs.Arguments.{Argument, action_number}
use Rattle.p414_syntax.specs.Tables.{tables}
use Rattle.p414_syntax.specs.Actions.{distinct_listed, all_listed}
use Rattle.p414_list_check.proofs.Loops.{next_items}
use Rattle.p414_action_check.specs.internal.Counted.{first_length, placed_length, listed_numbers}

-- an argument with its place
pub placed_now : {X : Type 0} (ds : List Decl) (inputs : List ℕ) (left : List ArgumentPlace) (f : X → Argument) (xs : List X) (i : ℕ) (d : X) (total whole : ℕ) → i < length xs → min 65537 (total + placed_length ds inputs left (map f (drop i xs))) ≡ whole → min 65537 (min 65537 (total + first_length ds inputs (first_place left) (f (get_or xs i d))) + placed_length ds inputs (further_places left) (map f (drop (i + 1) xs))) ≡ whole
placed_now ds inputs left f xs i d total whole h same =
    let e : placed_length ds inputs left (map f (drop i xs)) ≡ first_length ds inputs (first_place left) (f (get_or xs i d)) + placed_length ds inputs (further_places left) (map f (drop (i + 1) xs)) = ap (λ ys. placed_length ds inputs left (map f ys)) (next_items xs i d h) in
    omega arith

-- what is kept of a declaration of one kind

kept_by : {X B : Type 0} (f : X → B) (o : Option X) (rest : List X) → map f (cons_option o rest) ≡ map f (option_to_list o) ++ map f rest
kept_by f None rest = refl
kept_by f (Some x) rest = refl

pub kept_now : {X B : Type 0} (pick : Decl → Option X) (f : X → B) (decls : List Decl) (i : ℕ) (d : Decl) (old new whole : List B) → i < length decls → new ≡ old ++ map f (option_to_list (pick (get_or decls i d))) → old ++ map f (filter_map pick (drop i decls)) ≡ whole → new ++ map f (filter_map pick (drop (i + 1) decls)) ≡ whole
kept_now pick f decls i d old new whole h is same =
    ap (λ l. l ++ map f (filter_map pick (drop (i + 1) decls))) is
    ∙ (append_assoc old (map f (option_to_list (pick (get_or decls i d)))) (map f (filter_map pick (drop (i + 1) decls)))
    ∙ (ap (λ l. old ++ l) (sym (kept_by f (pick (get_or decls i d)) (filter_map pick (drop (i + 1) decls))))
    ∙ (sym (ap (λ xs. old ++ map f (filter_map pick xs)) (next_items decls i d h)) ∙ same)))

joined_by : {X B : Type 0} (f : X → List B) (o : Option X) (rest : List X) → flat_map f (cons_option o rest) ≡ flat_map f (option_to_list o) ++ flat_map f rest
joined_by f None rest = refl
joined_by f (Some x) rest = flat_map-append f (x ∷ []) rest

pub joined_now : {X B : Type 0} (pick : Decl → Option X) (f : X → List B) (decls : List Decl) (i : ℕ) (d : Decl) (old new whole : List B) → i < length decls → new ≡ old ++ flat_map f (option_to_list (pick (get_or decls i d))) → old ++ flat_map f (filter_map pick (drop i decls)) ≡ whole → new ++ flat_map f (filter_map pick (drop (i + 1) decls)) ≡ whole
joined_now pick f decls i d old new whole h is same =
    ap (λ l. l ++ flat_map f (filter_map pick (drop (i + 1) decls))) is
    ∙ (append_assoc old (flat_map f (option_to_list (pick (get_or decls i d)))) (flat_map f (filter_map pick (drop (i + 1) decls)))
    ∙ (ap (λ l. old ++ l) (sym (joined_by f (pick (get_or decls i d)) (filter_map pick (drop (i + 1) decls))))
    ∙ (sym (ap (λ xs. old ++ flat_map f (filter_map pick xs)) (next_items decls i d h)) ∙ same)))

-- a name that a table lists, for the first time or again

pub fresh_now : {B : Type 0} (f : Name → B) (before after : List Name) (name : Name) (old new : List B) → has_name before name ≡ false → after ≡ before ++ name ∷ [] → new ≡ old ++ f name ∷ [] → (rest : List Name) → new ++ map f (distinct_behind after rest) ≡ old ++ map f (distinct_behind before (name ∷ rest))
fresh_now f before after name old new e a n rest =
    ap (λ l. l ++ map f (distinct_behind after rest)) n
    ∙ (append_assoc old (f name ∷ []) (map f (distinct_behind after rest))
    ∙ (ap (λ l. old ++ f name ∷ map f (distinct_behind l rest)) a
    ∙ sym (ap (λ b. old ++ map f (cond b (distinct_behind before rest) (name ∷ distinct_behind (before ++ name ∷ []) rest))) e)))

pub seen_now : {B : Type 0} (f : Name → B) (before after : List Name) (name : Name) (old : List B) → has_name before name ≡ true → after ≡ before → (rest : List Name) → old ++ map f (distinct_behind after rest) ≡ old ++ map f (distinct_behind before (name ∷ rest))
seen_now f before after name old e a rest =
    ap (λ l. old ++ map f (distinct_behind l rest)) a
    ∙ sym (ap (λ b. old ++ map f (cond b (distinct_behind before rest) (name ∷ distinct_behind (before ++ name ∷ []) rest))) e)

pub next_name : (names : List Name) (i : ℕ) (d name : Name) → i < length names → name ≡ get_or names i d → drop i names ≡ name ∷ drop (i + 1) names
next_name names i d name h is = next_items names i d h ∙ ap (λ n. n ∷ drop (i + 1) names) (sym is)

-- the numbers of all that is listed are those of their names

numbers_of : {X A B : Type 0} (g : A → B) (f : X → List A) (xs : List X) → flat_map (λ x. map g (f x)) xs ≡ map g (flat_map f xs)
numbers_of g f [] = refl
numbers_of g f (x ∷ xs) = ap (λ l. map g (f x) ++ l) (numbers_of g f xs) ∙ sym (map-append g (f x) (flat_map f xs))

pub numbers_are : (ds : List Decl) → flat_map (listed_numbers ds) (tables ds) ≡ map (action_number ds) (all_listed ds)
numbers_are ds = numbers_of (action_number ds) distinct_listed (tables ds)
