-- Arguments as they are placed one by one.
use Rattle.std.proofs.Common.{◌≡◌, ⊎_elim, ℕ, ◌+◌, ◌<◌, ◌≤◌, List, [], ◌∷◌, ◌++◌, length, get_or, drop, map, slice_get, Option, refl, sym, ap, ◌∙◌, append_assoc, append-nil, arith}
use Rattle.std.proofs.lemmas.List.{drop_more, drop_all}
use Rattle.std.proofs.lemmas.Bool.{cases_lt}
use Rattle.std.proofs.lemmas.Option.{slice_get-get_or, slice_get_past}
use Rattle.p414_syntax.specs.declared.place.ArgumentPlace.{ArgumentPlace}
use Rattle.p414_syntax.specs.declared.place.ArgumentPlace.TheVariants as place
use Rattle.p414_syntax.specs.Arguments.{Argument, PlacedArgument, placed}
use Rattle.p414_calls.specs.declared.argument.Argument as kept
use Rattle.p414_calls.specs.Shown.{shown_argument}
use Rattle.p414_parameter_widths.specs.internal.Noting.{placed_with}

within : (ps : List ArgumentPlace) (i : ℕ) (a : Argument) (rest : List Argument) → i < length ps → placed (drop i ps) (a ∷ rest) ≡ placed_with (slice_get ps i) a ++ placed (drop (i + 1) ps) rest
within ps i a rest h =
    ap (λ (l : List ArgumentPlace). placed l (a ∷ rest)) (drop_more ps i place.Source h)
    ∙ sym (ap (λ (o : Option ArgumentPlace). placed_with o a ++ placed (drop (i + 1) ps) rest) (slice_get-get_or ps i place.Source h))

beyond : (ps : List ArgumentPlace) (i : ℕ) (a : Argument) (rest : List Argument) → length ps ≤ i → placed (drop i ps) (a ∷ rest) ≡ placed_with (slice_get ps i) a ++ placed (drop (i + 1) ps) rest
beyond ps i a rest h =
    ap (λ (l : List ArgumentPlace). placed l (a ∷ rest)) (drop_all i ps h)
    ∙ (sym (ap (λ (l : List ArgumentPlace). placed l rest) (drop_all (i + 1) ps (omega arith)))
    ∙ sym (ap (λ (o : Option ArgumentPlace). placed_with o a ++ placed (drop (i + 1) ps) rest) (slice_get_past ps i h)))

first_placed : (ps : List ArgumentPlace) (i : ℕ) (a : Argument) (rest : List Argument) → placed (drop i ps) (a ∷ rest) ≡ placed_with (slice_get ps i) a ++ placed (drop (i + 1) ps) rest
first_placed ps i a rest = ⊎_elim (within ps i a rest) (beyond ps i a rest) (cases_lt i (length ps))

-- the arguments from a place on: the one there, and those behind it
next_placed : (ps : List ArgumentPlace) (xs : List kept.Argument) (i : ℕ) (d : kept.Argument) → i < length xs
    → placed (drop i ps) (map shown_argument (drop i xs)) ≡ placed_with (slice_get ps i) (shown_argument (get_or xs i d)) ++ placed (drop (i + 1) ps) (map shown_argument (drop (i + 1) xs))
next_placed ps xs i d h =
    ap (λ (l : List kept.Argument). placed (drop i ps) (map shown_argument l)) (drop_more xs i d h)
    ∙ first_placed ps i (shown_argument (get_or xs i d)) (map shown_argument (drop (i + 1) xs))

nothing_placed : (ps : List ArgumentPlace) → placed ps [] ≡ []
nothing_placed [] = refl
nothing_placed (p ∷ ps) = refl

none_placed : (ps : List ArgumentPlace) (xs : List kept.Argument) (i : ℕ) → length xs ≤ i → placed (drop i ps) (map shown_argument (drop i xs)) ≡ []
none_placed ps xs i h =
    ap (λ (l : List kept.Argument). placed (drop i ps) (map shown_argument l)) (drop_all i xs h) ∙ nothing_placed (drop i ps)

placed_by : (old : List PlacedArgument) (ps : List ArgumentPlace) (xs : List kept.Argument) (i : ℕ) (x : kept.Argument) (o : Option ArgumentPlace) (new : List PlacedArgument) → x ≡ get_or xs i x → o ≡ slice_get ps i
    → new ≡ old ++ placed_with o (shown_argument x) → new ≡ old ++ placed_with (slice_get ps i) (shown_argument (get_or xs i x))
placed_by old ps xs i x o new here at is =
    is
    ∙ (ap (λ (p : Option ArgumentPlace). old ++ placed_with p (shown_argument x)) at
    ∙ ap (λ (y : kept.Argument). old ++ placed_with (slice_get ps i) (shown_argument y)) here)

pub placed_now : (ps : List ArgumentPlace) (xs : List kept.Argument) (i : ℕ) (x : kept.Argument) (o : Option ArgumentPlace) (old new whole : List PlacedArgument) → i < length xs → x ≡ get_or xs i x → o ≡ slice_get ps i
    → new ≡ old ++ placed_with o (shown_argument x) → old ++ placed (drop i ps) (map shown_argument (drop i xs)) ≡ whole
    → new ++ placed (drop (i + 1) ps) (map shown_argument (drop (i + 1) xs)) ≡ whole
placed_now ps xs i x o old new whole h here at is same =
    ap (λ l. l ++ placed (drop (i + 1) ps) (map shown_argument (drop (i + 1) xs))) (placed_by old ps xs i x o new here at is)
    ∙ (append_assoc old (placed_with (slice_get ps i) (shown_argument (get_or xs i x))) (placed (drop (i + 1) ps) (map shown_argument (drop (i + 1) xs)))
    ∙ (ap (λ l. old ++ l) (sym (next_placed ps xs i x h)) ∙ same))

pub placed_all : (ps : List ArgumentPlace) (xs : List kept.Argument) (i : ℕ) (new whole : List PlacedArgument) → length xs ≤ i → new ++ placed (drop i ps) (map shown_argument (drop i xs)) ≡ whole → new ≡ whole
placed_all ps xs i new whole h same =
    sym (append-nil new) ∙ (ap (λ (l : List PlacedArgument). new ++ l) (sym (none_placed ps xs i h)) ∙ same)
