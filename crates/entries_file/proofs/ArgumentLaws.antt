-- The arguments of a call, word by word.
use Rattle.std.proofs.Common.{◌≡◌, ◌⊎◌, inl, inr, ℕ, zero, suc, ◌+◌, ◌<◌, ◌≤◌, min, Bool, true, false, not, cond, ltb, List, [], ◌∷◌, ◌++◌, drop, take, length, map, get_or, refl, sym, ap, ◌∙◌, arith, append_assoc, Option, Some, None}
use Rattle.std.specs.Prelude.{◌||◌}
use Rattle.std.specs.Option.{option_map_or}
use Rattle.std.specs.List.{list_any, filter_map}
use Rattle.std.proofs.lemmas.Bool.{cases_lt}
use Rattle.std.proofs.lemmas.List.{length-map, append-nil, drop_all}
use Rattle.entries_file.specs.declared.arguments.ArgumentRead.{ArgumentRead}
use Rattle.entries_file.specs.declared.arguments.ArgumentRead.TheVariants.{NoNumber, TooWide, Argument}
use Rattle.entries_file.specs.Numbers.{number_of, fits, number_up_to}
use Rattle.entries_file.specs.Rules.{is_wide_argument, has_wide_argument, is_no_number, is_no_colour, has_wrong_arguments, arguments_of}
use Rattle.entries_file.specs.internal.Kept.{argument_as}
use Rattle.entries_file.proofs.KeyLaws.{seen_at, item_at, or_middle, or_nothing}

no_number_by : (b : Bool) (n : ℕ) → NoNumber ≡ cond b (Argument n) TooWide → ⊥
no_number_by true n is = cc
no_number_by false n is = cc

no_number : (width : ℕ) (o : Option ℕ) → NoNumber ≡ argument_as width o → o ≡ None
no_number width None is = refl
no_number width (Some n) is = absurd (no_number_by (fits width n) n is)

too_wide_by : (b : Bool) (n : ℕ) → TooWide ≡ cond b (Argument n) TooWide → not b ≡ true
too_wide_by true n is = absurd (cc)
too_wide_by false n is = refl

too_wide : (width : ℕ) (o : Option ℕ) → TooWide ≡ argument_as width o → option_map_or (λ number. not (fits width number)) o false ≡ true
too_wide width None is = absurd (cc)
too_wide width (Some n) is = too_wide_by (fits width n) n is

argument_by : (b : Bool) (n other : ℕ) → Argument other ≡ cond b (Argument n) TooWide → (n ≡ other) × (not b ≡ false)
argument_by true n other is = (cc, refl)
argument_by false n other is = absurd (cc)

argument_some : (width : ℕ) (o : Option ℕ) (n : ℕ) → Argument n ≡ argument_as width o → (o ≡ Some n) × (option_map_or (λ number. not (fits width number)) o false ≡ false)
argument_some width None n is = absurd (cc)
argument_some width (Some other) n is =
    let parts = argument_by (fits width other) other n is in
    (ap Some parts.0, parts.1)

-- the arguments so far
pub record ArgumentsSoFar (widths : List ℕ) (texts : List (List ℕ)) (i : ℕ) (is_wrong : Bool) (arguments : List ℕ) : Type 0 where
  pub wide : has_wide_argument widths texts ≡ has_wide_argument (drop i widths) (drop i texts)
  pub numbers : list_any is_no_number (take (length widths) texts) ≡ (is_wrong || list_any is_no_number (take (length (drop i widths)) (drop i texts)))
  pub found : is_wrong ≡ false → filter_map number_of (take (length widths) texts) ≡ arguments ++ filter_map number_of (take (length (drop i widths)) (drop i texts))

pub arguments_start : (widths : List ℕ) (texts : List (List ℕ)) → ArgumentsSoFar widths texts 0 false []
arguments_start widths texts = record { wide = refl; numbers = refl; found = λ _. refl }

-- the argument at a place is read
pub record ReadsArgument {X : Type 0} (now : X → List ℕ) (widths : List ℕ) (words : List X) (i : ℕ) (read : ArgumentRead) : Type 0 where
  pub width : ℕ
  pub word : X
  pub width_is : drop i widths ≡ width ∷ drop (i + 1) widths
  pub text_is : drop i (map now words) ≡ now word ∷ drop (i + 1) (map now words)
  pub is : read ≡ argument_as width (number_of (now word))

pub reads_argument : {X : Type 0} (now : X → List ℕ) (widths : List ℕ) (words : List X) (i : ℕ) (d : ℕ) (e : X) (read : ArgumentRead) → i < min (length widths) (length words)
    → read ≡ argument_as (get_or widths i d) (number_of (now (get_or words i e))) → ReadsArgument now widths words i read
reads_argument now widths words i d e read lt is = record {
  width = get_or widths i d;
  word = get_or words i e;
  width_is = item_at widths i d (omega arith);
  text_is = seen_at now words i e (omega arith);
  is = is;
}

pub argument_wide : {X : Type 0} (now : X → List ℕ) (widths : List ℕ) (words : List X) (i : ℕ) (is_wrong : Bool) (arguments : List ℕ) (read : ArgumentRead) → ArgumentsSoFar widths (map now words) i is_wrong arguments → ReadsArgument now widths words i read → read ≡ TooWide → has_wide_argument widths (map now words) ≡ true
argument_wide now widths words i is_wrong arguments read so_far reads bad =
    let wide : is_wide_argument reads.width (now reads.word) ≡ true = too_wide reads.width (number_of (now reads.word)) (sym bad ∙ reads.is) in
    so_far.wide ∙ (rw (reads.width_is, reads.text_is, wide) refl)

pub argument_wrong : {X : Type 0} (now : X → List ℕ) (widths : List ℕ) (words : List X) (i : ℕ) (is_wrong : Bool) (arguments : List ℕ) (read : ArgumentRead) → ArgumentsSoFar widths (map now words) i is_wrong arguments → ReadsArgument now widths words i read → read ≡ NoNumber → ArgumentsSoFar widths (map now words) (i + 1) true arguments
argument_wrong now widths words i is_wrong arguments read so_far reads bad =
    let none : number_of (now reads.word) ≡ None = no_number reads.width (number_of (now reads.word)) (sym bad ∙ reads.is) in
    record {
      wide = so_far.wide ∙ (rw (reads.width_is, reads.text_is, none) refl);
      numbers = so_far.numbers ∙ (rw (reads.width_is, reads.text_is) (or_middle is_wrong (is_no_number (now reads.word)) _ (rw none refl)));
      found = λ right. absurd (cc);
    }

pub argument_more : {X : Type 0} (now : X → List ℕ) (widths : List ℕ) (words : List X) (i : ℕ) (is_wrong : Bool) (arguments : List ℕ) (read : ArgumentRead) (n : ℕ) → ArgumentsSoFar widths (map now words) i is_wrong arguments → ReadsArgument now widths words i read → read ≡ Argument n → ArgumentsSoFar widths (map now words) (i + 1) is_wrong (arguments ++ n ∷ [])
argument_more now widths words i is_wrong arguments read n so_far reads good =
    let some = argument_some reads.width (number_of (now reads.word)) n (sym good ∙ reads.is) in
    let narrow : is_wide_argument reads.width (now reads.word) ≡ false = some.1 in
    let is : number_of (now reads.word) ≡ Some n = some.0 in
    record {
      wide = so_far.wide ∙ (rw (reads.width_is, reads.text_is, narrow) refl);
      numbers = so_far.numbers ∙ (rw (reads.width_is, reads.text_is, is) refl);
      found = λ right. so_far.found right ∙ (rw (reads.width_is, reads.text_is, is) (sym (append_assoc arguments (n ∷ []) _)));
    }

take-nil : (n : ℕ) → take n (let none : List (List ℕ) = [] in none) ≡ []
take-nil zero = refl
take-nil (suc n) = refl

no_words : (widths : List ℕ) → has_wide_argument widths [] ≡ false
no_words [] = refl
no_words (width ∷ widths) = refl

pub min_cases : (a b i : ℕ) → min a b ≤ i → (a ≤ i) ⊎ (b ≤ i)
min_cases a b i le = elim (cases_lt i a) [ inl lt ↦ inr (omega arith) | inr below ↦ inl below ]

-- no argument is left, or no word
nothing_left : (widths : List ℕ) (texts : List (List ℕ)) (i : ℕ) → min (length widths) (length texts) ≤ i → (take (length (drop i widths)) (drop i texts) ≡ []) × (has_wide_argument (drop i widths) (drop i texts) ≡ false)
nothing_left widths texts i le =
    elim (min_cases (length widths) (length texts) i le) [
      | inl few ↦
          let none : drop i widths ≡ [] = drop_all i widths few in
          (rw none refl, rw none refl)
      | inr short ↦
          let none : drop i texts ≡ [] = drop_all i texts short in
          (rw none (take-nil (length (drop i widths))), rw none (no_words (drop i widths)))
    ]

pub arguments_end : (widths : List ℕ) (texts : List (List ℕ)) (i : ℕ) (is_wrong : Bool) (arguments : List ℕ) → min (length widths) (length texts) ≤ i → ArgumentsSoFar widths texts i is_wrong arguments
    → (has_wide_argument widths texts ≡ false) × (list_any is_no_number (take (length widths) texts) ≡ is_wrong) × (is_wrong ≡ false → arguments_of widths texts ≡ arguments)
arguments_end widths texts i is_wrong arguments le so_far =
    let none = nothing_left widths texts i le in (
      so_far.wide ∙ none.1,
      so_far.numbers ∙ (rw none.0 (or_nothing is_wrong)),
      λ right. so_far.found right ∙ (rw none.0 (append-nil arguments)),
    )

-- the colours so far
pub colours_turn : {X : Type 0} (now : X → List ℕ) (words : List X) (i : ℕ) (e : X) (colours : List ℕ) (colour : ℕ) → i < length words → number_up_to 2 (now (get_or words i e)) ≡ Some colour
    → (list_any is_no_colour (map now words) ≡ list_any is_no_colour (drop i (map now words))) → (filter_map (number_up_to 2) (map now words) ≡ colours ++ filter_map (number_up_to 2) (drop i (map now words)))
    → (list_any is_no_colour (map now words) ≡ list_any is_no_colour (drop (i + 1) (map now words))) × (filter_map (number_up_to 2) (map now words) ≡ (colours ++ colour ∷ []) ++ filter_map (number_up_to 2) (drop (i + 1) (map now words)))
colours_turn now words i e colours colour lt is only found =
    let text : drop i (map now words) ≡ now (get_or words i e) ∷ drop (i + 1) (map now words) = seen_at now words i e lt in
    (only ∙ (rw (text, is) refl), found ∙ (rw (text, is) (sym (append_assoc colours (colour ∷ []) _))))

none_wrong : (a b c : Bool) → (a || (b || c)) ≡ false → c ≡ false
none_wrong true b c is = absurd (cc)
none_wrong false true c is = absurd (cc)
none_wrong false false c is = is

-- the arguments as a whole
pub record ArgumentsAre (widths : List ℕ) (others : ℕ) (texts : List (List ℕ)) (wrong : Bool) (arguments : List ℕ) : Type 0 where
  pub narrow : has_wide_argument widths texts ≡ false
  pub judged : has_wrong_arguments widths others texts ≡ wrong
  pub found : wrong ≡ false → arguments ≡ arguments_of widths texts

pub arguments_are : {X : Type 0} (now : X → List ℕ) (widths : List ℕ) (others : ℕ) (words : List X) (i : ℕ) (is_wrong : Bool) (arguments : List ℕ) (wrong : Bool) → min (length widths) (length words) ≤ i → ArgumentsSoFar widths (map now words) i is_wrong arguments
    → wrong ≡ (ltb (length words) (length widths) || (ltb (length widths + others) (length words) || is_wrong)) → ArgumentsAre widths others (map now words) wrong arguments
arguments_are now widths others words i is_wrong arguments wrong le so_far is =
    let end = arguments_end widths (map now words) i is_wrong arguments (rw (length-map words now) le) so_far in
    record {
      narrow = end.0;
      judged = rw (length-map words now, end.1) (sym is);
      found = λ right. sym (end.2 (none_wrong _ _ is_wrong (sym is ∙ right)));
    }

pub colour_wrong : {X : Type 0} (now : X → List ℕ) (words : List X) (i : ℕ) (e : X) → i < length words → number_up_to 2 (now (get_or words i e)) ≡ None
    → (list_any is_no_colour (map now words) ≡ list_any is_no_colour (drop i (map now words))) → list_any is_no_colour (map now words) ≡ true
colour_wrong now words i e lt is only =
    let text : drop i (map now words) ≡ now (get_or words i e) ∷ drop (i + 1) (map now words) = seen_at now words i e lt in
    only ∙ (rw (text, is) refl)
