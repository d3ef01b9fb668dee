-- What the rules say of the arguments of a call in a parser.
use Rattle.std.proofs.Common.{◌≡◌, ℕ, ◌%◌, ◌^◌, ◌||◌, nat_eq, Bool, true, false, Option, Some, None, List, [], ◌∷◌, ◌++◌, length, get_or, refl, sym, ap, ◌∙◌, subst, arith}
use Rattle.std.specs.Prelude.{codes}
use Rattle.std.specs.List.{list_any, list_all}
use Rattle.std.specs.Option.{option_map_or}
use Rattle.std.specs.Str.{bytes_eq}
use Rattle.std.proofs.lemmas.Bool.{eqb-true, leb-false}
use Rattle.std.proofs.lemmas.List.{length-append}
use Rattle.std.proofs.Math.Nat.{mod-eq_of_lt}
use Rattle.p416_syntax.specs.declared.lexeme.Literal16.{Literal16}
use Rattle.p416_syntax.specs.Tree.{Exp16, literal, truth, error, name, member, index, slice, call, lookahead, cast, unary, binary, choice, parenthesized, no_arguments, argument, listed}
use Rattle.p416_syntax.specs.Kinds.{Kind, bits, boolean}
use Rattle.p416_syntax.specs.Scopes.{Part, in_parser, in_apply, in_action, in_key, elsewhere, Scope}
use Rattle.p416_syntax.specs.Calls.{Place, literal_of, unasked, parser_position}
use Rattle.p416_syntax.specs.Expressions.{kind_of, argument_count}
use Rattle.p416_syntax.specs.Uses.{Use, uses_at, uses, many, arguments_of}
use Rattle.p416_syntax.specs.Types.{takes}
use Rattle.p416_syntax.specs.Literals.{is_over, is_too_large}
use Rattle.p416_syntax.specs.Externs.{is_some_position, is_allowed_at, are_allowed, is_action_part, is_parser_part, clone_positions, first_clone_positions}
use Rattle.v1_core.specs.Values.{number_in}
use Rattle.v1_core.specs.Expressions.{literal_width, literal_number}
use Rattle.v1_block_laws.proofs.Tests.{left_true, right_true, at_end}
use Rattle.v1_program_laws.specs.Rules.{InParser}

-- how many arguments there are
counted : (e : Exp16) → length (arguments_of e) ≡ argument_count e
counted (argument before last) =
    let earlier : length (arguments_of before) ≡ argument_count before = counted before in
    let both = length-append (arguments_of before) (last ∷ []) in
    omega (arith, both, earlier)
counted (literal n) = refl
counted (truth holds) = refl
counted error = refl
counted (name text) = refl
counted (member e word) = refl
counted (index e at) = refl
counted (slice e high low) = refl
counted (call e more) = refl
counted (lookahead e to more) = refl
counted (cast to e) = refl
counted (unary operator e) = refl
counted (binary operator a d) = refl
counted (choice c a d) = refl
counted (parenthesized e) = refl
counted no_arguments = refl
counted (listed es) = refl

-- the only argument is judged at the first place
pub record Only (given f : Exp16) : Type 0 where
  pub before : Exp16
  pub is : given ≡ argument before f
  pub first : argument_count before ≡ 0

last_same : (xs : List Exp16) (x y : Exp16) → xs ++ x ∷ [] ≡ y ∷ [] → (length xs ≡ 0) × (x ≡ y)
last_same [] x y e = (refl, (let same : x ≡ y = cc e in same))
last_same (z ∷ []) x y e = absurd (cc e)
last_same (z ∷ v ∷ xs) x y e = absurd (cc e)

pub only_one : (given f : Exp16) → arguments_of given ≡ f ∷ [] → Only given f
only_one (argument before last) f is =
    let two = last_same (arguments_of before) last f is in
    record { before = before; is = ap (λ (x : Exp16). argument before x) two.1; first = sym (counted before) ∙ two.0 }
only_one (literal n) f is = absurd (cc is)
only_one (truth holds) f is = absurd (cc is)
only_one error f is = absurd (cc is)
only_one (name text) f is = absurd (cc is)
only_one (member e word) f is = absurd (cc is)
only_one (index e at) f is = absurd (cc is)
only_one (slice e high low) f is = absurd (cc is)
only_one (call e more) f is = absurd (cc is)
only_one (lookahead e to more) f is = absurd (cc is)
only_one (cast to e) f is = absurd (cc is)
only_one (unary operator e) f is = absurd (cc is)
only_one (binary operator a d) f is = absurd (cc is)
only_one (choice c a d) f is = absurd (cc is)
only_one (parenthesized e) f is = absurd (cc is)
only_one no_arguments f is = absurd (cc is)
only_one (listed es) f is = absurd (cc is)

pub only_judged : (test : Use → Bool) (s : Scope) (p : Place) (places : List Place) (given f : Exp16) → arguments_of given ≡ f ∷ [] → list_any test (uses_at s (many (p ∷ places) unasked) given) ≡ false → list_any test (uses s p f) ≡ false
only_judged test s p places given f is none = by (only_one given f is) where
  by : Only given f → list_any test (uses s p f) ≡ false
  by h =
      subst (λ (n : ℕ). list_any test (uses s (get_or (p ∷ places) n unasked) f) ≡ false) h.first
      (at_end test (uses_at s (many (p ∷ places) unasked) h.before) (uses s (get_or (p ∷ places) (argument_count h.before) unasked) f)
      (subst (λ (x : Exp16). list_any test (uses_at s (many (p ∷ places) unasked) x) ≡ false) h.is none))

-- one is wanted, and one given
pub one_given : (given : Exp16) → nat_eq 1 (argument_count given) ≡ true → (f : Exp16) × (arguments_of given ≡ f ∷ [])
one_given given is = by (arguments_of given) (counted given ∙ sym (eqb-true 1 (argument_count given) is)) where
  by : (es : List Exp16) → length es ≡ 1 → (f : Exp16) × (es ≡ f ∷ [])
  by [] e = absurd (cc e)
  by (f ∷ []) e = (f, refl)
  by (f ∷ g ∷ es) e = absurd (omega (arith, e))

-- a literal of bits, which fits its width

abbrev LiteralKind : Exp16 → Kind → Type 0
LiteralKind (truth holds) k = k ≡ boolean
LiteralKind e k = Unit {0}

pub literal_kind : (s : Scope) (f : Exp16) → LiteralKind f (kind_of s f)
literal_kind s (literal n) = tt
literal_kind s (truth holds) = refl
literal_kind s error = tt
literal_kind s (name text) = tt
literal_kind s (member e word) = tt
literal_kind s (index e at) = tt
literal_kind s (slice e high low) = tt
literal_kind s (call e more) = tt
literal_kind s (lookahead e to more) = tt
literal_kind s (cast to e) = tt
literal_kind s (unary operator e) = tt
literal_kind s (binary operator a d) = tt
literal_kind s (choice c a d) = tt
literal_kind s (parenthesized e) = tt
literal_kind s no_arguments = tt
literal_kind s (argument before last) = tt
literal_kind s (listed es) = tt

abbrev over_by : Option ℕ → Literal16 → Option ℕ → Bool
over_by w n (Some v) = is_over n.value v
over_by w n None = option_map_or (is_over n.value) w false

pub bits_literal : (f : Exp16) (k : Kind) (width : ℕ) → takes (literal_of (bits width)) f k ≡ true → LiteralKind f k → (n : Literal16) × (f ≡ literal n)
bits_literal (literal n) k width is e = (n, refl)
bits_literal (truth holds) k width is e = absurd (by k e is) where
  by : (j : Kind) → j ≡ boolean → takes (literal_of (bits width)) (truth holds) j ≡ true → ⊥
  by j same h = cc (sym (ap (λ (i : Kind). takes (literal_of (bits width)) (truth holds) i) same) ∙ h)
bits_literal error k width is e = absurd (cc is)
bits_literal (name text) k width is e = absurd (cc is)
bits_literal (member f word) k width is e = absurd (cc is)
bits_literal (index f at) k width is e = absurd (cc is)
bits_literal (slice f high low) k width is e = absurd (cc is)
bits_literal (call f more) k width is e = absurd (cc is)
bits_literal (lookahead f to more) k width is e = absurd (cc is)
bits_literal (cast to f) k width is e = absurd (cc is)
bits_literal (unary operator f) k width is e = absurd (cc is)
bits_literal (binary operator a d) k width is e = absurd (cc is)
bits_literal (choice c a d) k width is e = absurd (cc is)
bits_literal (parenthesized f) k width is e = absurd (cc is)
bits_literal no_arguments k width is e = absurd (cc is)
bits_literal (argument before last) k width is e = absurd (cc is)
bits_literal (listed es) k width is e = absurd (cc is)

below_width : (n : ℕ) (width : ℕ) → is_over n width ≡ false → n % 2 ^ width ≡ n
below_width n width is = mod-eq_of_lt (leb-false (2 ^ width) n is)

too_large : (w : Option ℕ) (n : Literal16) → is_too_large w n ≡ over_by w n n.width
too_large w n = by n.width refl where
  by : (o : Option ℕ) → n.width ≡ o → is_too_large w n ≡ over_by w n o
  by (Some v) is = rw is refl
  by None is = rw is refl

pub literal_fits : (n : Literal16) → is_too_large (Some 32) n ≡ false → number_in (literal_number (literal_of (bits 32)) n) ≡ n.value
literal_fits n is = by n.width refl (sym (too_large (Some 32) n) ∙ is) where
  by : (o : Option ℕ) → n.width ≡ o → over_by (Some 32) n o ≡ false → n.value % 2 ^ literal_width (literal_of (bits 32)) o ≡ n.value
  by (Some v) e h = below_width n.value v h
  by None e h = below_width n.value 32 h

-- T10: what may stand in the parser

all_test : (test : ℕ → Bool) (q : ℕ) (xs : List ℕ) → list_all test xs ≡ true → list_any (nat_eq q) xs ≡ true → test q ≡ true
all_test test q [] all any = absurd (cc any)
all_test test q (x ∷ xs) all any = by (nat_eq q x) refl (all_test test q xs (right_true (test x) (list_all test xs) all)) any where
  by : (t : Bool) → nat_eq q x ≡ t → (list_any (nat_eq q) xs ≡ true → test q ≡ true) → (t || list_any (nat_eq q) xs) ≡ true → test q ≡ true
  by true e rest h = subst (λ (y : ℕ). test y ≡ true) (sym (eqb-true q x e)) (left_true (test x) (list_all test xs) all)
  by false e rest h = rest h

pub not_allowed : (s : Scope) (allowed : List ℕ) → InParser s → is_allowed_at allowed parser_position ≡ false → are_allowed allowed s.positions ≡ false
not_allowed s allowed within other = by (are_allowed allowed s.positions) refl where
  by : (t : Bool) → are_allowed allowed s.positions ≡ t → are_allowed allowed s.positions ≡ false
  by false e = e
  by true e = absurd (cc (sym other ∙ all_test (is_allowed_at allowed) parser_position s.positions (right_true (is_some_position s.positions) (list_all (is_allowed_at allowed) s.positions) e) within.stands))

pub no_action_part : (p : Part) → is_parser_part p ≡ true → is_action_part p ≡ false
no_action_part in_parser is = refl
no_action_part in_apply is = absurd (cc is)
no_action_part (in_action text) is = absurd (cc is)
no_action_part in_key is = absurd (cc is)
no_action_part elsewhere is = absurd (cc is)

clone_elsewhere : (e : Exp16) → is_allowed_at (clone_positions e) parser_position ≡ false
clone_elsewhere (literal n) = refl
clone_elsewhere (truth holds) = refl
clone_elsewhere error = refl
clone_elsewhere (name text) = refl
clone_elsewhere (member e word) = by (bytes_eq word (codes "I2E")) refl where
  by : (t : Bool) → bytes_eq word (codes "I2E") ≡ t → is_allowed_at (clone_positions (member e word)) parser_position ≡ false
  by true is = rw is refl
  by false is = rw is refl
clone_elsewhere (index e at) = refl
clone_elsewhere (slice e high low) = refl
clone_elsewhere (call e more) = refl
clone_elsewhere (lookahead e to more) = refl
clone_elsewhere (cast to e) = refl
clone_elsewhere (unary operator e) = refl
clone_elsewhere (binary operator a d) = refl
clone_elsewhere (choice c a d) = refl
clone_elsewhere (parenthesized e) = refl
clone_elsewhere no_arguments = refl
clone_elsewhere (argument before last) = refl
clone_elsewhere (listed es) = refl

pub clones_elsewhere : (es : List Exp16) → is_allowed_at (first_clone_positions es) parser_position ≡ false
clones_elsewhere [] = refl
clones_elsewhere (e ∷ es) = clone_elsewhere e
