-- What a text reads as is a syntax that a text can have.
use Rattle.std.proofs.Common.{◌≡◌, ℕ, Bool, true, List, Result, sym, ap, ◌∙◌}
use Rattle.std.specs.Prelude.{IfOk}
use Rattle.std.specs.List.{list_all}
use Rattle.std.proofs.lemmas.Bool.{and_from, and_parts}
use Rattle.std.proofs.lemmas.Result.{IfOk-weaker}
use Rattle.p414_syntax.specs.SpeltLexemes.{is_spelt_lexeme}
use Rattle.p414_tok.proofs.Spelt.{division_spelt}
use Rattle.p414_tok.proofs.Spaced.{spaced, spaced_division}
use Rattle.p414_syntax.specs.declared.syntax.Syntax14.{Syntax14}
use Rattle.p414_syntax.specs.Written.{written}
use Rattle.p414_syntax.specs.Conditions.{is_syntax}
use Rattle.p414_syntax.specs.Spelt.{is_spelt14}
use Rattle.text_reading.specs.declared.error.ReadError.{ReadError}
use Rattle.p414_reader.specs.Reading.{Reads14}
use Rattle.p414_reader.specs.internal.Machine.{IsRead14}
use Rattle.p414_reader.proofs.Clauses.{found14}

pub spelt : (text : List ℕ) (s : Syntax14) → Reads14 text s → is_spelt14 s ≡ true
spelt text s h =
    and_from (is_syntax s) (list_all is_spelt_lexeme (written s)) h.spelled.keeps
    (ap (list_all is_spelt_lexeme) (sym h.spelled.tokens_are) ∙ division_spelt text h.tokens h.divided)

pub spelt_answer : (text : List ℕ) (r : Result Syntax14 ReadError) → IsRead14 text r → IfOk r (λ s. is_spelt14 s ≡ true)
spelt_answer text r h = IfOk-weaker r (Reads14 text) (λ s. is_spelt14 s ≡ true) (spelt text) (found14 text r h)

-- Each such syntax is what some text reads as: its tokens with a blank behind each.
pub read_back : (s : Syntax14) → is_spelt14 s ≡ true → Reads14 (spaced (written s)) s
read_back s h =
    let parts = and_parts (is_syntax s) (list_all is_spelt_lexeme (written s)) h in
    let d = spaced_division (written s) parts.1 in
    record { tokens = d.0; divided = d.1; spelled = record { tokens_are = d.2; keeps = parts.0 } }
