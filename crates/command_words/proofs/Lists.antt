-- Lists of words by their length.
use Rattle.std.proofs.Common.{◌≡◌, ℕ, ◌<◌, ◌≤◌, ◌-◌, List, [], ◌∷◌, length, map, take, drop, get_or, Some, None, refl, sym, ◌∙◌, ap, arith}
use Rattle.std.proofs.lemmas.List.{take_rest}
use Rattle.std.specs.Option.{option_and_then}
use Rattle.command_words.specs.Words.{Options, with_option, options_in, carry_form, run14_form, run16_form, form}

-- two words, and those behind them
pub two_words : {A : Type 0} (h : A → List ℕ) (words : List A) (a b : A) → 2 ≤ length words → a ≡ get_or words 0 a → b ≡ get_or words 1 b
    → map h words ≡ h a ∷ h b ∷ map h (take (length words - 2) (drop 2 words))
two_words h (x ∷ y ∷ rest) a b size pa pb = λ n. h (sym pa n) ∷ h (sym pb n) ∷ map h (sym (take_rest (x ∷ y ∷ rest) 2) n)
two_words h _ a b size pa pb = absurd (omega arith)

-- fewer words are no form
pub too_few : {A : Type 0} (h : A → List ℕ) (words : List A) → length words < 3 → carry_form (map h words) ≡ None
too_few h (x ∷ y ∷ z ∷ rest) few = absurd (omega arith)
too_few h _ few = refl

pub too_few_of_run14 : {A : Type 0} (h : A → List ℕ) (words : List A) → length words < 3 → run14_form (map h words) ≡ None
too_few_of_run14 h (x ∷ y ∷ z ∷ rest) few = absurd (omega arith)
too_few_of_run14 h _ few = refl

pub too_few_of_run16 : {A : Type 0} (h : A → List ℕ) (words : List A) → length words < 3 → run16_form (map h words) ≡ None
too_few_of_run16 h (x ∷ y ∷ z ∷ rest) few = absurd (omega arith)
too_few_of_run16 h _ few = refl

pub no_words : {A : Type 0} (h : A → List ℕ) (words : List A) → length words < 1 → form (map h words) ≡ None
no_words h (x ∷ rest) few = absurd (omega arith)
no_words h [] few = refl

-- the options behind one that was taken
pub behind_one : (words behind : List (List ℕ)) (option value : List ℕ) (found next : Options) → words ≡ option ∷ value ∷ behind
    → Some next ≡ with_option option value found → options_in behind next ≡ options_in words found
behind_one words behind option value found next is taken = ap (option_and_then (options_in behind)) taken ∙ sym (ap (λ (l : List (List ℕ)). options_in l found) is)
