-- From what the machine answers to the clauses of the reader.
use Rattle.std.proofs.Common.{◌≡◌, ℕ, List, Result, Ok, Err, refl}
use Rattle.std.specs.Prelude.{IfOk}
use Rattle.p4x_fault.specs.declared.Fault.{Fault}
use Rattle.p416_tok.specs.Front.{front}
use Rattle.p416_syntax.specs.declared.program.Syntax16.{Syntax16}
use Rattle.p416_syntax.specs.Spells.{Spells16}
use Rattle.text_reading.specs.declared.error.ReadError.{ReadError}
use Rattle.text_reading.specs.Reading.{IfRefused, Answers}
use Rattle.text_reading.proofs.Clauses.{ReadsExactly, found, accepts, refused, refuses, one}
use Rattle.p416_reader.specs.declared.symbols.Word.TheVariants as word
use Rattle.p416_reader.specs.declared.symbols.DeclWord.TheVariants as declare
use Rattle.p416_reader.specs.internal.Built.{nothing}
use Rattle.p416_reader.specs.internal.Rows.{grammar16}
use Rattle.p416_reader.specs.Seen.{seen16}
use Rattle.p416_reader.specs.Reading.{Reads16, IsRefused16}
use Rattle.p416_reader.specs.internal.Machine.{HoldsProgram, IsRead16}
use Rattle.p416_reader.proofs.Language.{whole, language16, refused_place}

exactly16 : ReadsExactly front seen16 Spells16 grammar16 (word.Decl declare.Program) nothing HoldsProgram
exactly16 = record {
  after = whole;
  language = language16;
  refuses = refused_place;
  stands = λ value. refl;
  tells = λ value other e. e;
}

pub found16 : (text : List ℕ) (r : Result Syntax16 ReadError) → IsRead16 text r → IfOk r (Reads16 text)
found16 = found front seen16 Spells16 grammar16 (word.Decl declare.Program) nothing HoldsProgram exactly16

pub accepts16 : (text : List ℕ) (r : Result Syntax16 ReadError) → IsRead16 text r → (s : Syntax16) → Reads16 text s → Answers r (Ok s)
accepts16 = accepts front seen16 Spells16 grammar16 (word.Decl declare.Program) nothing HoldsProgram exactly16

pub refused16 : (text : List ℕ) (r : Result Syntax16 ReadError) → IsRead16 text r → IfRefused r (IsRefused16 text)
refused16 = refused front seen16 Spells16 grammar16 (word.Decl declare.Program) nothing HoldsProgram exactly16

pub refuses16 : (text : List ℕ) (r : Result Syntax16 ReadError) → IsRead16 text r → (fault : Fault) → IsRefused16 text fault → Answers r (Err fault)
refuses16 = refuses front seen16 Spells16 grammar16 (word.Decl declare.Program) nothing HoldsProgram exactly16

pub one16 : (text : List ℕ) (s t : Syntax16) → Reads16 text s → Reads16 text t → s ≡ t
one16 = one front seen16 Spells16 grammar16 (word.Decl declare.Program) nothing HoldsProgram exactly16
