-- That the grammar means what its words are given as their meaning: what is read is spelled so.
use Rattle.std.proofs.Common.{◌≡◌, List, Ok, sym}
use Rattle.predictive_parser.specs.Grammar.{parse}
use Rattle.predictive_parser.proofs.Meanings.{RowsShow, NoneShows, IsRight, sound_word}
use Rattle.p414_syntax.specs.declared.lexeme.Lexeme.{Lexeme}
use Rattle.p414_syntax.specs.declared.syntax.Syntax14.{Syntax14}
use Rattle.p414_syntax.specs.Spells.{Spells}
use Rattle.p414_reader.specs.declared.symbols.Word.{Word}
use Rattle.p414_reader.specs.declared.symbols.Word.TheVariants as word
use Rattle.p414_reader.specs.declared.built.Built.{Built}
use Rattle.p414_reader.specs.internal.Built.{nothing}
use Rattle.p414_reader.specs.internal.Rows.{grammar14}
use Rattle.p414_reader.proofs.Meaning.{meaning14}
use Rattle.p414_reader.proofs.Fixed.{fixed14}
use Rattle.p414_reader.proofs.Sound.Parts as parts
use Rattle.p414_reader.proofs.Sound.Headers as headers
use Rattle.p414_reader.proofs.Sound.Calculations as calculations
use Rattle.p414_reader.proofs.Sound.States as states
use Rattle.p414_reader.proofs.Sound.Calls as calls
use Rattle.p414_reader.proofs.Sound.Tables as tables
use Rattle.p414_reader.proofs.Sound.Objects as objects
use Rattle.p414_reader.proofs.Sound.Controls as controls
use Rattle.p414_reader.proofs.Sound.Declarations.{end_rows_mean, group_rows_mean, group_none_means, decl_rows_mean, decl_none_means}

rows_mean : (w : Word) (b : Built) → RowsShow grammar14 fixed14 meaning14 w b (grammar14.rows w)
rows_mean (word.Part w) b = parts.rows_mean w b
rows_mean (word.Header w) b = headers.rows_mean w b
rows_mean (word.Calculation w) b = calculations.rows_mean w b
rows_mean (word.State w) b = states.rows_mean w b
rows_mean (word.Call w) b = calls.rows_mean w b
rows_mean (word.Table w) b = tables.rows_mean w b
rows_mean (word.Object w) b = objects.rows_mean w b
rows_mean (word.Body w) b = controls.rows_mean w b
rows_mean word.LeftOutEnd b = end_rows_mean b
rows_mean word.Group b = group_rows_mean b
rows_mean word.Decls b = decl_rows_mean b

none_means : (w : Word) (b : Built) → NoneShows grammar14 fixed14 meaning14 w b (grammar14.otherwise w)
none_means (word.Part w) b = parts.none_means w b
none_means (word.Header w) b = headers.none_means w b
none_means (word.Calculation w) b = calculations.none_means w b
none_means (word.State w) b = states.none_means w b
none_means (word.Call w) b = calls.none_means w b
none_means (word.Table w) b = tables.none_means w b
none_means (word.Object w) b = objects.none_means w b
none_means (word.Body w) b = controls.none_means w b
none_means word.LeftOutEnd b = tt
none_means word.Group b = group_none_means b
none_means word.Decls b = decl_none_means b

pub right14 : IsRight grammar14 fixed14 meaning14
right14 = record { rows_mean = rows_mean; none_means = none_means }

-- What is read of the tokens of a text is a syntax that they spell.
pub sound14 : (tokens : List Lexeme) (end : Built) → parse grammar14 word.Decls nothing tokens ≡ Ok end → (s : Syntax14) × Spells s tokens × (end ≡ record nothing { decls = s.decls })
sound14 tokens end e =
    let m = sound_word grammar14 fixed14 meaning14 right14 word.Decls nothing end tokens e in
    (record { decls = m.0 }, record { tokens_are = m.1.0; keeps = m.1.1 }, sym m.2)
