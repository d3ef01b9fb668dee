-- That the grammar means what its words are given as their meaning: what is read is spelled so.
use Rattle.std.proofs.Common.{◌≡◌, List, Ok, sym}
use Rattle.predictive_parser.specs.Grammar.{parse}
use Rattle.predictive_parser.proofs.Meanings.{RowsShow, NoneShows, IsRight, sound_word}
use Rattle.p416_syntax.specs.Tokens.{Seen16}
use Rattle.p416_reader.specs.declared.symbols.Word.{Word}
use Rattle.p416_reader.specs.declared.symbols.Word.TheVariants as word
use Rattle.p416_reader.specs.declared.symbols.DeclWord.TheVariants as declare
use Rattle.p416_reader.specs.declared.built.Built.{Built}
use Rattle.p416_reader.specs.internal.Built.{nothing}
use Rattle.p416_reader.specs.internal.Rows.{grammar16}
use Rattle.p416_reader.proofs.Meaning.{meaning16, Program, DeclSpells, after_decl}
use Rattle.p416_reader.proofs.Fixed.{fixed16}
use Rattle.p416_reader.proofs.Sound.Parts as parts
use Rattle.p416_reader.proofs.Sound.Statements as bodies
use Rattle.p416_reader.proofs.Sound.States as states
use Rattle.p416_reader.proofs.Sound.Controls as controls
use Rattle.p416_reader.proofs.Sound.Declarations as declarations

rows_mean : (w : Word) (b : Built) → RowsShow grammar16 fixed16 meaning16 w b (grammar16.rows w)
rows_mean (word.Part w) b = parts.rows_mean w b
rows_mean (word.Body w) b = bodies.rows_mean w b
rows_mean (word.State w) b = states.rows_mean w b
rows_mean (word.Control w) b = controls.rows_mean w b
rows_mean (word.Decl w) b = declarations.rows_mean w b

none_means : (w : Word) (b : Built) → NoneShows grammar16 fixed16 meaning16 w b (grammar16.otherwise w)
none_means (word.Part w) b = parts.none_means w b
none_means (word.Body w) b = bodies.none_means w b
none_means (word.State w) b = states.none_means w b
none_means (word.Control w) b = controls.none_means w b
none_means (word.Decl w) b = declarations.none_means w b

pub right16 : IsRight grammar16 fixed16 meaning16
right16 = record { rows_mean = rows_mean; none_means = none_means }

-- What is read of the tokens of a text is a program with its parentheses, and what is built has it without them.
pub sound16 : (tokens : List Seen16) (end : Built) → parse grammar16 (word.Decl declare.Program) nothing tokens ≡ Ok end → (p : Program) × DeclSpells declare.Program p tokens × (end ≡ after_decl declare.Program p nothing)
sound16 tokens end e =
    let m = sound_word grammar16 fixed16 meaning16 right16 (word.Decl declare.Program) nothing end tokens e in
    (m.0, m.1, sym m.2)
