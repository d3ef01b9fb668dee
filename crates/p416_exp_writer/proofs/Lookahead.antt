-- The words of `.lookahead<TYPE>(`, put together from its three pieces.
use Rattle.std.proofs.Common.{◌≡◌, List, [], ◌∷◌, ◌++◌, sym, ap, ◌∙◌, append_assoc}
use Rattle.std.proofs.lemmas.List.{map-append}
use Rattle.p416_tok.specs.declared.kind.TokenKind16.{TokenKind16}
use Rattle.p416_syntax.specs.declared.parts.Type16.{Type16}
use Rattle.p416_syntax.specs.Tokens.{id, opens, lookahead_text, dot, greater, paren_open}
use Rattle.p416_syntax.specs.Written.{written_type}
use Rattle.token_sheet.specs.Words.{Word}
use Rattle.p416_spelling.specs.Words.{word16, words16}

pub lookahead_said : (s a b c : List (Word TokenKind16)) (of : Type16) → a ≡ s ++ words16 (dot ∷ id lookahead_text ∷ opens ∷ []) → b ≡ a ++ words16 (written_type of) → c ≡ b ++ words16 (greater ∷ paren_open ∷ []) → c ≡ s ++ words16 (dot ∷ id lookahead_text ∷ opens ∷ (written_type of ++ greater ∷ paren_open ∷ []))
lookahead_said s a b c of first second third =
    let front = words16 (dot ∷ id lookahead_text ∷ opens ∷ []) in
    let between = words16 (written_type of) in
    let behind = words16 (greater ∷ paren_open ∷ []) in
    third ∙ ap (λ ws. ws ++ behind) (second ∙ ap (λ ws. ws ++ between) first)
    ∙ append_assoc (s ++ front) between behind ∙ append_assoc s front (between ++ behind)
    ∙ ap (λ ws. s ++ (front ++ ws)) (sym (map-append word16 (written_type of) (greater ∷ paren_open ∷ [])))
