-- The rows read exactly what the grammar spells.
use Rattle.std.proofs.Common.{◌≡◌, ℕ, List, [], ◌∷◌, ◌++◌, map, Ok, Err, refl, sym, ap, subst, ◌∙◌, append_assoc, append-nil}
use Rattle.std.specs.List.{list_all}
use Rattle.predictive_parser.specs.declared.symbol.Symbol.TheVariants as symbol
use Rattle.predictive_parser.specs.Grammar.{parse}
use Rattle.predictive_parser.specs.Answers.{IsRefusedAt}
use Rattle.predictive_parser.proofs.Chains.{reads_all}
use Rattle.predictive_parser.proofs.Languages.{IsLanguage, refused_at}
use Rattle.p416_syntax.specs.declared.program.Decl16.{Decl16}
use Rattle.p416_syntax.specs.declared.program.Syntax16.{Syntax16}
use Rattle.p416_syntax.specs.Tokens.{Seen16}
use Rattle.p416_syntax.specs.Written.{written}
use Rattle.p416_syntax.specs.Parentheses.{bare, bare_decl}
use Rattle.p416_syntax.specs.Conditions.{with_parentheses, is_decl, is_some_listed}
use Rattle.p416_syntax.specs.Spells.{Spells16}
use Rattle.p416_reader.specs.declared.symbols.Word.TheVariants as word
use Rattle.p416_reader.specs.declared.symbols.DeclWord.TheVariants as declare
use Rattle.p416_reader.specs.declared.built.Built.{Built}
use Rattle.p416_reader.specs.internal.Built.{nothing, no_decls}
use Rattle.p416_reader.specs.internal.Rows.{grammar16}
use Rattle.p416_reader.proofs.Lists.{left_true, right_true}
use Rattle.p416_reader.proofs.Meaning.{after_all, add_decl, add_block, syntax_of}
use Rattle.p416_reader.proofs.Closing.{closing16, closed16}
use Rattle.p416_reader.proofs.Sound.Grammar.{sound16}
use Rattle.p416_reader.proofs.Complete.Declarations.{program_read}

-- what is built of a whole program
abbrev pub whole_of : List Decl16 → List (List ℕ) → Built
whole_of ds names = record nothing { decls = record no_decls { decls = ds; main = names } }

abbrev pub whole : Syntax16 → Built
whole s = whole_of s.decls s.main

decls_added : (ds before : List Decl16) (names : List (List ℕ)) → after_all add_decl ds (whole_of before names) ≡ whole_of (before ++ map bare_decl ds) names
decls_added [] before names = ap (λ l. whole_of l names) (sym (append-nil before))
decls_added (d ∷ ds) before names =
    decls_added ds (before ++ bare_decl d ∷ []) names ∙ ap (λ l. whole_of l names) (append_assoc before (bare_decl d ∷ []) (map bare_decl ds))

blocks_added : (names before : List (List ℕ)) (ds : List Decl16) → after_all add_block names (whole_of ds before) ≡ whole_of ds (before ++ names)
blocks_added [] before ds = ap (λ l. whole_of ds l) (sym (append-nil before))
blocks_added (text ∷ names) before ds = blocks_added names (before ++ text ∷ []) ds ∙ ap (λ l. whole_of ds l) (append_assoc before (text ∷ []) names)

built_is : (ds : List Decl16) (names : List (List ℕ)) → after_all add_block names (after_all add_decl ds nothing) ≡ whole_of (map bare_decl ds) names
built_is ds names = ap (after_all add_block names) (decls_added ds [] []) ∙ blocks_added names [] (map bare_decl ds)

complete16 : (s : Syntax16) (tokens : List Seen16) → Spells16 s tokens → parse grammar16 (word.Decl declare.Program) nothing tokens ≡ Ok (whole s)
complete16 s tokens h =
    let f = h.in_full in
    let end = after_all add_block f.main (after_all add_decl f.decls nothing) in
    let read : parse grammar16 (word.Decl declare.Program) nothing (written f) ≡ Ok end =
    reads_all grammar16 (symbol.Word (word.Decl declare.Program) ∷ []) nothing end (written f)
    (program_read f.decls f.main nothing (left_true (list_all (is_decl with_parentheses) f.decls) (is_some_listed f.main) h.keeps) (right_true (list_all (is_decl with_parentheses) f.decls) (is_some_listed f.main) h.keeps)) in
    subst (λ ts. parse grammar16 (word.Decl declare.Program) nothing ts ≡ Ok (whole s)) (sym h.tokens_are)
    (read ∙ ap Ok (built_is f.decls f.main ∙ ap whole h.same))

pub language16 : IsLanguage grammar16 (word.Decl declare.Program) nothing Spells16 whole
language16 = record {
  sound = λ tokens end e.
      let r = sound16 tokens end e in
      (bare (syntax_of r.0), record { in_full = syntax_of r.0; same = refl; tokens_are = r.1.0; keeps = r.1.1 }, sym (built_is r.0.decls r.0.main) ∙ sym r.2);
  complete = complete16;
}

-- where a token is refused, it is the first that can't stand there
pub refused_place : (tokens : List Seen16) (at : ℕ) → parse grammar16 (word.Decl declare.Program) nothing tokens ≡ Err at → IsRefusedAt Spells16 tokens at
refused_place tokens at e = refused_at grammar16 (word.Decl declare.Program) nothing Spells16 whole language16 closing16 closed16 tokens at refl e
