-- A text with the words of a syntax reads as the syntax, and as no other.
use Rattle.std.proofs.Common.{◌≡◌, ℕ, true, List, [], refl, sym, subst, append-nil, None}
use Rattle.std.specs.List.{list_all}
use Rattle.std.proofs.lemmas.Bool.{and_parts}
use Rattle.token_sheet.specs.Words.{IsDividedInto}
use Rattle.p416_tok.specs.Front.{front}
use Rattle.p416_syntax.specs.declared.program.Syntax16.{Syntax16}
use Rattle.p416_syntax.specs.Tokens.{Seen16, is_spelt_seen}
use Rattle.p416_syntax.specs.Written.{written}
use Rattle.p416_syntax.specs.Conditions.{without_parentheses, is_syntax}
use Rattle.p416_syntax.specs.Spells.{Spells16}
use Rattle.p416_syntax.specs.Spelt.{is_spelt16}
use Rattle.p416_parentheses.specs.Syntax.{full_syntax}
use Rattle.p416_parentheses.proofs.Spells.{spells_full, full_spelt}
use Rattle.p416_spelling.specs.Spelled.{meets16}
use Rattle.p416_spelling.specs.Words.{words16}
use Rattle.p416_reader.specs.Reading.{Reads16}
use Rattle.p416_reader.proofs.Clauses.{one16}
use Rattle.p416_read_back.proofs.Told.{Told}
use Rattle.p416_read_back.proofs.Seeing.{seen_is}
use Rattle.p416_read_back.proofs.Parts.{good_syntax}

told_syntax : (s : Syntax16) → is_syntax without_parentheses s ≡ true → Told (None, None) (written (full_syntax s))
told_syntax s h = subst (λ (xs : List Seen16). Told (None, None) xs) (append-nil (written (full_syntax s))) ((good_syntax s h).goes (None, None) [] (refl, refl) tt)

pub reads_back : (text : List ℕ) (s : Syntax16) → is_spelt16 s ≡ true → IsDividedInto front meets16 text (words16 (written (full_syntax s))) → Reads16 text s
reads_back text s h d =
    let keeps = (and_parts (is_syntax without_parentheses s) (list_all is_spelt_seen (written s)) h).0 in
    let same = seen_is text d.tokens (written (full_syntax s)) d.are (full_spelt s h) (told_syntax s keeps) in
    record { tokens = d.tokens; divided = d.divided; spelled = subst (λ (xs : List Seen16). Spells16 s xs) (sym same) (spells_full s h) }

pub reads_alone : (text : List ℕ) (s other : Syntax16) → is_spelt16 s ≡ true → IsDividedInto front meets16 text (words16 (written (full_syntax s))) → Reads16 text other → other ≡ s
reads_alone text s other h d r = one16 text other s r (reads_back text s h d)
