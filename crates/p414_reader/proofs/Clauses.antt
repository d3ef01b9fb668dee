-- From what the machine answers to the clauses of the reader.
use Rattle.std.proofs.Common.{◌≡◌, ℕ, List, Result, Ok, Err, refl, ap}
use Rattle.std.specs.Prelude.{IfOk}
use Rattle.p4x_fault.specs.declared.Fault.{Fault}
use Rattle.p414_tok.specs.Front.{front}
use Rattle.p414_syntax.specs.declared.syntax.Decl.{Decl}
use Rattle.p414_syntax.specs.declared.syntax.Syntax14.{Syntax14}
use Rattle.p414_syntax.specs.Spells.{Spells}
use Rattle.text_reading.specs.declared.error.ReadError.{ReadError}
use Rattle.text_reading.specs.Reading.{IfRefused, Answers}
use Rattle.text_reading.proofs.Clauses.{ReadsExactly, found, accepts, refused, refuses, one}
use Rattle.p414_reader.specs.declared.symbols.Word.TheVariants as word
use Rattle.p414_reader.specs.internal.Built.{nothing}
use Rattle.p414_reader.specs.internal.Rows.{grammar14}
use Rattle.p414_reader.specs.Reading.{Reads14, IsRefused14}
use Rattle.p414_reader.specs.internal.Machine.{HoldsDecls, IsRead14}
use Rattle.p414_reader.proofs.Language.{whole, language14, refused_place}
use Rattle.p414_tok.specs.Lexemes.{lexemes}

exactly14 : ReadsExactly front lexemes Spells grammar14 word.Decls nothing HoldsDecls
exactly14 = record {
  after = whole;
  language = language14;
  refuses = refused_place;
  stands = λ value. refl;
  tells = λ value other e. ap (λ (ds : List Decl). record { decls = ds }) e;
}

pub found14 : (text : List ℕ) (r : Result Syntax14 ReadError) → IsRead14 text r → IfOk r (Reads14 text)
found14 = found front lexemes Spells grammar14 word.Decls nothing HoldsDecls exactly14

pub accepts14 : (text : List ℕ) (r : Result Syntax14 ReadError) → IsRead14 text r → (s : Syntax14) → Reads14 text s → Answers r (Ok s)
accepts14 = accepts front lexemes Spells grammar14 word.Decls nothing HoldsDecls exactly14

pub refused14 : (text : List ℕ) (r : Result Syntax14 ReadError) → IsRead14 text r → IfRefused r (IsRefused14 text)
refused14 = refused front lexemes Spells grammar14 word.Decls nothing HoldsDecls exactly14

pub refuses14 : (text : List ℕ) (r : Result Syntax14 ReadError) → IsRead14 text r → (fault : Fault) → IsRefused14 text fault → Answers r (Err fault)
refuses14 = refuses front lexemes Spells grammar14 word.Decls nothing HoldsDecls exactly14

pub one14 : (text : List ℕ) (s t : Syntax14) → Reads14 text s → Reads14 text t → s ≡ t
one14 = one front lexemes Spells grammar14 word.Decls nothing HoldsDecls exactly14
