-- The new name of a thing can be written and begins as the old one; those of two things that are apart differ.
use Rattle.std.proofs.Common.{◌≡◌, ◌≢◌, ℕ, zero, suc, ◌<◌, ◌≤◌, ◌^◌, Bool, true, false, ◌||◌, cond, List, [], ◌∷◌, ◌++◌, length, take, drop, decimal, refl, sym, ap, ◌∙◌, arith}
use Rattle.std.specs.List.{list_all, list_any}
use Rattle.std.specs.Prelude.{slice_index}
use Rattle.std.specs.Str.{bytes_eq}
use Rattle.std.proofs.lemmas.Bool.{and_from, and_parts, true≢false}
use Rattle.std.proofs.lemmas.Bool.Decides.{nat_tests}
use Rattle.std.proofs.lemmas.List.{append_assoc, length-append, length-take, take-append-drop}
use Rattle.std.proofs.lemmas.List.Folds.{list_all-append, list_any-append}
use Rattle.std.proofs.lemmas.Fmt.{length-decimal-le}
use Rattle.std.proofs.lemmas.Slice.Eq.{bytes_eq-Decides}
use Rattle.token_division.specs.Octets.{is_decimal, is_letter, is_word}
use Rattle.p416_syntax.specs.SpeltLexemes.{is_identifier16}
use Rattle.p416_syntax.specs.Keywords.{is_reserved16}
use Rattle.p414_syntax.specs.SpeltLexemes.{is_identifier}
use Rattle.p414_syntax.specs.Names.{Name, has_name}
use Rattle.lower_laws_names.specs.Words.{reserved, further, words, outer_words}
use Rattle.lower_laws_names.specs.Made.{line, looks_made, made, Thing, called}
use Rattle.lower_laws_names.specs.Reaches.{IsProper, IsWritable, BeginsAs, AreApart}
use Rattle.lower_laws_names.proofs.Tags.{digits-decimal, made_same, looks_made-made}

-- words

none_looks_made : list_any looks_made words ≡ false
none_looks_made = refl

none_outside : list_any looks_made outer_words ≡ false
none_outside = refl

other_by : (b : Bool) (n w : Name) → bytes_eq n w ≡ b → looks_made n ≡ true → looks_made w ≡ false → bytes_eq n w ≡ false
other_by false n w e made plain = e
other_by true n w e made plain = absurd (true≢false (sym made ∙ (ap looks_made ((bytes_eq-Decides n w).0 e) ∙ plain)))

or_parts : (a b : Bool) → (a || b) ≡ false → (a ≡ false) × (b ≡ false)
or_parts true b e = cc
or_parts false b e = (refl, e)

or_none : (a b : Bool) → a ≡ false → b ≡ false → (a || b) ≡ false
or_none a b p q = rw (p, q) refl

no_word : (ws : List Name) (n : Name) → list_any looks_made ws ≡ false → looks_made n ≡ true → has_name ws n ≡ false
no_word [] n none made = refl
no_word (w ∷ ws) n none made =
    let both = or_parts (looks_made w) (list_any looks_made ws) none in
    or_none (bytes_eq n w) (has_name ws n) (other_by (bytes_eq n w) n w refl made both.0) (no_word ws n both.1 made)

pub made_no_word : (a j : ℕ) (n : Name) → j < 2 ^ 32 → has_name words (made a j n) ≡ false
made_no_word a j n small = no_word words (made a j n) none_looks_made (looks_made-made a j n (omega arith))

pub made_not_outside : (a j : ℕ) (n : Name) → j < 2 ^ 32 → has_name outer_words (made a j n) ≡ false
made_not_outside a j n small = no_word outer_words (made a j n) none_outside (looks_made-made a j n (omega arith))

pub words_parts : (n : Name) → has_name words n ≡ (is_reserved16 n || has_name further n)
words_parts n = list_any-append (bytes_eq n) reserved further

-- the words that are reserved stand first
unquoted : (n : Name) → has_name words n ≡ false → is_reserved16 n ≡ false
unquoted n e = (or_parts (is_reserved16 n) (has_name further n) (sym (list_any-append (bytes_eq n) reserved further) ∙ e)).0

-- code

pub short_plain : (n : Name) → length n < 2 → looks_made n ≡ false
short_plain [] lt = refl
short_plain (c ∷ []) lt = grind (arith, nat_tests)
short_plain (c ∷ d ∷ n) lt = absurd (omega arith)

pub made_parts : (a j : ℕ) (n : Name) → ((take 48 n ++ line ∷ a ∷ []) ++ decimal j) ++ line ∷ [] ≡ made a j n
made_parts a j n = ap (λ (l : List ℕ). l ++ line ∷ []) (append_assoc (take 48 n) (line ∷ a ∷ []) (decimal j))

-- one thing

pub made_short : (a j : ℕ) (n : Name) → j < 2 ^ 32 → length (made a j n) ≤ 64
made_short a j n small =
    let digits : length (decimal j) ≤ 10 = length-decimal-le 10 j (omega arith) (omega arith) (omega arith) in
    let front : length (take 48 n) ≤ 48 = omega (arith, length-take 48 n) in
    omega (arith, length-append (take 48 n ++ line ∷ a ∷ decimal j) (line ∷ []), length-append (take 48 n) (line ∷ a ∷ decimal j))

decimal_word : (c : ℕ) → is_decimal c ≡ true → is_word c ≡ true
decimal_word c e = rw e (or_true (is_letter c))
  where
    or_true : (b : Bool) → (b || true) ≡ true
    or_true true = refl
    or_true false = refl

all_words : (ds : List ℕ) → list_all is_decimal ds ≡ true → list_all is_word ds ≡ true
all_words [] e = refl
all_words (d ∷ ds) e =
    let both = and_parts (is_decimal d) (list_all is_decimal ds) e in
    and_from (is_word d) (list_all is_word ds) (decimal_word d both.0) (all_words ds both.1)

all_taken : (p : ℕ → Bool) (k : ℕ) (xs : List ℕ) → list_all p xs ≡ true → list_all p (take k xs) ≡ true
all_taken p zero xs e = refl
all_taken p (suc k) [] e = refl
all_taken p (suc k) (x ∷ xs) e =
    let both = and_parts (p x) (list_all p xs) e in
    and_from (p x) (list_all p (take k xs)) both.0 (all_taken p k xs both.1)

made_words : (a j : ℕ) (n : Name) → is_word a ≡ true → j < 2 ^ 32 → list_all is_word n ≡ true → list_all is_word (made a j n) ≡ true
made_words a j n letter small all =
    let digits : list_all is_word (decimal j) ≡ true = all_words (decimal j) (digits-decimal j (omega arith)).all in
    let tag : list_all is_word (line ∷ a ∷ decimal j) ≡ true = rw (letter, digits) refl in
    let front : list_all is_word (take 48 n ++ line ∷ a ∷ decimal j) ≡ true = list_all-append is_word (take 48 n) (line ∷ a ∷ decimal j) ∙ (rw (all_taken is_word 48 n all, tag) refl) in
    list_all-append is_word (take 48 n ++ line ∷ a ∷ decimal j) (line ∷ []) ∙ (rw front refl)

first_letter : (a j : ℕ) (n : Name) → is_letter (slice_index n 0) ≡ true → is_letter (slice_index (made a j n) 0) ≡ true
first_letter a j [] e = refl
first_letter a j (x ∷ n) e = e

made_spelt : (a j : ℕ) (n : Name) → is_word a ≡ true → j < 2 ^ 32 → is_identifier n ≡ true → is_identifier16 (made a j n) ≡ true
made_spelt a j n letter small e =
    let both = and_parts (is_letter (slice_index n 0)) (list_all is_word n) e in
    and_from (is_letter (slice_index (made a j n) 0)) (list_all is_word (made a j n)) (first_letter a j n both.0) (made_words a j n letter small both.1)

pub writable : (x : Thing) → IsProper x → is_identifier x.name ≡ true → IsWritable (called x)
writable x p spelt = by x.stays refl
  where
    by : (b : Bool) → x.stays ≡ b → IsWritable (cond b x.name (made x.letter x.number x.name))
    by true e = record { short = p.short e; spelt = spelt; unreserved = unquoted x.name (p.unreserved e); new = p.unreserved e }
    by false e =
        let new = made_no_word x.letter x.number x.name p.small in
        record {
          short = made_short x.letter x.number x.name p.small;
          spelt = made_spelt x.letter x.number x.name p.word p.small spelt;
          unreserved = unquoted (made x.letter x.number x.name) new;
          new = new;
        }

pub begins : (x : Thing) → BeginsAs (called x) x.name
begins x = by x.stays
  where
    by : (b : Bool) → BeginsAs (cond b x.name (made x.letter x.number x.name)) x.name
    by true = (drop 48 x.name, sym (take-append-drop 48 x.name))
    by false = ((line ∷ x.letter ∷ decimal x.number) ++ line ∷ [], append_assoc (take 48 x.name) (line ∷ x.letter ∷ decimal x.number) (line ∷ []))

-- two things

pub apart_differ : (x y : Thing) → IsProper x → IsProper y → AreApart x y → called x ≢ called y
apart_differ x y p q apart = by x.stays y.stays refl refl
  where
    by : (b c : Bool) → x.stays ≡ b → y.stays ≡ c → cond b x.name (made x.letter x.number x.name) ≢ cond c y.name (made y.letter y.number y.name)
    by true true e f same = apart.names e f same
    by true false e f same = true≢false (sym (looks_made-made y.letter y.number y.name (omega (arith, q.small))) ∙ (ap looks_made (sym same) ∙ p.plain e))
    by false true e f same = true≢false (sym (looks_made-made x.letter x.number x.name (omega (arith, p.small))) ∙ (ap looks_made same ∙ q.plain f))
    by false false e f same =
        apart.tag (made_same x.letter y.letter x.number y.number x.name y.name p.letter q.letter (omega (arith, p.small)) (omega (arith, q.small)) same)
