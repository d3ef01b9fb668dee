-- Each list of tokens that a text can have is what some text is divided into: each of them with a blank behind it.
use Rattle.std.proofs.Common.{◌≡◌, ℕ, zero, suc, ◌+◌, ◌-◌, ◌<◌, ◌≤◌, Bool, true, List, [], ◌∷◌, ◌++◌, length, get_or, take, drop, refl, sym, ap, ◌∙◌, subst, arith, append_assoc, Result, Ok, Err}
use Rattle.std.specs.List.{list_all}
use Rattle.std.proofs.Math.Seq.{drop-append_seam, take-append_seam}
use Rattle.std.proofs.lemmas.List.{length-append}
use Rattle.std.proofs.lemmas.Bool.{and_parts}
use Rattle.p4x_fault.specs.declared.Fault.{Fault}
use Rattle.token_division.specs.declared.division.Token.{Token}
use Rattle.token_division.specs.declared.division.What.{What}
use Rattle.token_division.specs.declared.division.What.TheVariants as what
use Rattle.token_division.specs.Division.{divided, division, behind, token_of, first_after, place_after}
use Rattle.token_division.proofs.Steps.{one_piece, behind_nothing}
use Rattle.p414_syntax.specs.declared.lexeme.Lexeme.{Lexeme}
use Rattle.p414_syntax.specs.declared.lexeme.Lexeme.TheVariants as lexeme
use Rattle.p414_syntax.specs.SpeltLexemes.{is_spelt_lexeme}
use Rattle.p414_tok.specs.declared.kind.TokenKind14.{TokenKind14}
use Rattle.p414_tok.specs.Front.{front}
use Rattle.p414_tok.specs.Lexemes.{lexeme_as, lexeme_in, lexemes}
use Rattle.p414_tok.proofs.Texts.{lexeme_text, kind_of, lexeme_front, some_text}

-- each token, and a blank behind it
abbrev pub spaced : List Lexeme → List ℕ
spaced [] = []
spaced (l ∷ ls) = lexeme_text l ++ 32 ∷ spaced ls

read_as : (l : Lexeme) → lexeme_as (kind_of l) (lexeme_text l) ≡ l
read_as (lexeme.Name text) = refl
read_as (lexeme.Number n) = refl
read_as (lexeme.Mark m) = refl

-- the tokens behind `before`
abbrev Reads : List ℕ → Bool → List Lexeme → Type 0
Reads before is_first ls =
    (tokens : List (Token TokenKind14)) × (divided front before is_first 0 (spaced ls) ≡ Ok tokens)
    × (lexemes (before ++ spaced ls) tokens ≡ ls)

abbrev blank : What TokenKind14
blank = what.Blank

-- one token more in front
one_more : (before : List ℕ) (is_first later : Bool) (l : Lexeme) (ls : List Lexeme) → is_spelt_lexeme l ≡ true
    → first_after blank (first_after (what.Token (kind_of l)) is_first (get_or (lexeme_text l ++ 32 ∷ spaced ls) 0 0)) 32 ≡ later
    → Reads ((before ++ lexeme_text l) ++ 32 ∷ []) later ls → Reads before is_first (l ∷ ls)
one_more before is_first later l ls h f more =
    let text = lexeme_text l in
    let rest = 32 ∷ spaced ls in
    let whole = text ++ rest in
    let n = length text in
    let within : n ≤ length whole = omega (arith, length-append text rest) in
    let w : What TokenKind14 = what.Token (kind_of l) in
    let then = first_after w is_first (get_or whole 0 0) in
    let token : Token TokenKind14 = record { kind = kind_of l; «from» = length before; to = length before + n; place = place_after before } in
    let passed : divided front (before ++ text) then 0 rest ≡ divided front ((before ++ text) ++ 32 ∷ []) later 0 (spaced ls) =
    behind_nothing (divided front ((before ++ text) ++ 32 ∷ []) (first_after blank then 32) 0 (spaced ls)) ∙ ap (λ t. divided front ((before ++ text) ++ 32 ∷ []) t 0 (spaced ls)) f in
    let first : divided front before is_first 0 whole ≡ behind (token ∷ []) (Ok more.0) =
    one_piece front before whole is_first (record { what = w; size = n }) (lexeme_front l h is_first (spaced ls)) (some_text l h) within
    ∙ ap (λ xs. behind (token ∷ []) (divided front (before ++ xs) then 0 (drop n whole))) (take-append_seam text rest)
    ∙ ap (λ xs. behind (token ∷ []) (divided front (before ++ text) then 0 xs)) (drop-append_seam text rest)
    ∙ ap (behind (token ∷ [])) (passed ∙ more.1) in
    let size : (length before + n) - length before ≡ n = omega arith in
    let own : lexeme_in (before ++ whole) token ≡ l =
    ap (λ m. lexeme_as (kind_of l) (take m (drop (length before) (before ++ whole)))) size
    ∙ ap (λ xs. lexeme_as (kind_of l) (take n xs)) (drop-append_seam before whole)
    ∙ ap (lexeme_as (kind_of l)) (take-append_seam text rest) ∙ read_as l in
    let parts : ((before ++ text) ++ 32 ∷ []) ++ spaced ls ≡ before ++ whole =
    append_assoc (before ++ text) (32 ∷ []) (spaced ls) ∙ append_assoc before text rest in
    let others : lexemes (before ++ whole) more.0 ≡ ls = ap (λ xs. lexemes xs more.0) (sym parts) ∙ more.2 in
    (token ∷ more.0, first, ap (λ x. x ∷ lexemes (before ++ whole) more.0) own ∙ ap (λ xs. l ∷ xs) others)

reads_from : (ls : List Lexeme) → list_all is_spelt_lexeme ls ≡ true → (before : List ℕ) (is_first : Bool) → Reads before is_first ls
reads_from [] h before is_first = ([], refl, refl)
reads_from (l ∷ ls) h before is_first =
    let parts = and_parts (is_spelt_lexeme l) (list_all is_spelt_lexeme ls) h in
    one_more before is_first _ l ls parts.0 refl (reads_from ls parts.1 ((before ++ lexeme_text l) ++ 32 ∷ []) _)

-- The tokens of such a text are these.
pub spaced_division : (ls : List Lexeme) → list_all is_spelt_lexeme ls ≡ true → (tokens : List (Token TokenKind14)) × (division front (spaced ls) ≡ Ok tokens) × (lexemes (spaced ls) tokens ≡ ls)
spaced_division ls h = reads_from ls h [] true
