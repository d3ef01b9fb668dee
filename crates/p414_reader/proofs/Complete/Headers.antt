-- Header types, header instances and metadata: what is written so is read.
use Rattle.std.proofs.Common.{◌≡◌, ℕ, Bool, true, false, not, cond, List, [], ◌∷◌, ◌++◌, codes, map, Option, Some, None, refl, ap, append_assoc}
use Rattle.std.specs.List.{flat_map, list_all}
use Rattle.p414_syntax.specs.declared.lexeme.Literal.{Literal}
use Rattle.p414_syntax.specs.declared.lexeme.Lexeme.{Lexeme}
use Rattle.p414_syntax.specs.declared.lexeme.Lexeme.TheVariants as lexeme
use Rattle.p414_syntax.specs.declared.headers.FieldWidth.{FieldWidth}
use Rattle.p414_syntax.specs.declared.headers.FieldWidth.TheVariants as width
use Rattle.p414_syntax.specs.declared.headers.Field.{Field}
use Rattle.p414_syntax.specs.declared.headers.Initial.{Initial}
use Rattle.p414_syntax.specs.declared.headers.Initials.{Initials}
use Rattle.p414_syntax.specs.Words.{name, keyword, brace_open, brace_close, bracket_open, bracket_close, paren_open, paren_close, semicolon, colon, star}
use Rattle.p414_syntax.specs.Written.{written_option, after_commas, written_name, written_width, written_field_attributes, written_field, tail_word, written_tail, written_expr, written_size, written_initial, written_initials}
use Rattle.p414_syntax.specs.Tree.{Expr}
use Rattle.p414_syntax.specs.Views.{TailTree, length_is, max_length_is}
use Rattle.p414_syntax.specs.Conditions.{all_different, is_expr, is_tail}
use Rattle.p414_syntax.specs.declared.keyword.Keyword.TheVariants as key
use Rattle.p414_reader.specs.declared.symbols.Class.TheVariants as class
use Rattle.p414_reader.specs.declared.symbols.Word.TheVariants as word
use Rattle.p414_reader.specs.declared.symbols.HeaderWord.TheVariants as header
use Rattle.p414_reader.specs.declared.symbols.BodyWord.TheVariants as body
use Rattle.predictive_parser.specs.Values.{newest}
use Rattle.p414_reader.specs.internal.Rows.{Sym, header_sym}
use Rattle.p414_reader.specs.declared.built.Built.{Built}
use Rattle.p414_reader.proofs.Meaning.{after_word}
use Rattle.p414_reader.proofs.Readings.{Goes, Calm, Reads, ReadsCalm, ◌▷◌, reads, does, from, giving, skips, builds, extended_is, both, takes_row, is_new_text, next_words}
use Rattle.p414_reader.proofs.Complete.Parts.{reads_more_names, reads_number}

pub reads_width : (w : FieldWidth) → Reads (word.Header header.Width) w (written_width w)
reads_width (width.Bits n) symbols b rest = reads (lexeme.Number n ∷ []) refl ▷ does
reads_width width.Rest symbols b rest = reads (star ∷ []) refl ▷ does

pub reads_attributes : (names : List (List ℕ)) → ReadsCalm (word.Header header.Attributes) names (written_field_attributes names)
reads_attributes [] symbols b rest c = builds (word.Header header.Attributes) _ symbols b rest refl refl c
reads_attributes (n ∷ names) symbols b rest c =
    from (written_field_attributes (n ∷ names) ++ rest) (ap (λ ts. paren_open ∷ name n ∷ ts) (append_assoc (after_commas written_name names) (paren_close ∷ []) rest))
    (giving (ap (λ ls. record b { parts = record b.parts { name_lists = ls } }) (extended_is names (n ∷ []) b.parts.name_lists))
    (reads (paren_open ∷ name n ∷ []) refl ▷ does ▷ reads_more_names names _ _ (paren_close ∷ rest) refl ▷ reads (paren_close ∷ []) refl))

pub reads_fields : (fields : List Field) → ReadsCalm (word.Header header.Fields) fields (flat_map written_field fields)
reads_fields [] symbols b rest c = skips (word.Header header.Fields) symbols b rest refl refl c
reads_fields (f ∷ fields) symbols b rest c =
    from (flat_map written_field (f ∷ fields) ++ rest) (simp append_assoc)
    (reads (name f.name ∷ colon ∷ []) refl
    ▷ reads_width f.width _ _ (written_field_attributes f.attributes ++ semicolon ∷ (flat_map written_field fields ++ rest))
    ▷ reads_attributes f.attributes _ _ (semicolon ∷ (flat_map written_field fields ++ rest)) refl
    ▷ reads (semicolon ∷ []) refl ▷ does ▷ reads_fields fields symbols _ rest c)

pub reads_size : (size : Option Literal) → ReadsCalm (word.Header header.Size) size (written_option written_size size)
reads_size None symbols b rest c = builds (word.Header header.Size) _ symbols b rest refl refl c
reads_size (Some n) symbols b rest c = reads (bracket_open ∷ lexeme.Number n ∷ bracket_close ∷ []) refl ▷ does

pub reads_initials : (initials : List Initial) → ReadsCalm (word.Header header.Initials) initials (flat_map written_initial initials)
reads_initials [] symbols b rest c = skips (word.Header header.Initials) symbols b rest refl refl c
reads_initials (i ∷ initials) symbols b rest c =
    from (flat_map written_initial (i ∷ initials) ++ rest) (simp append_assoc)
    (reads (name i.field ∷ colon ∷ []) refl
    ▷ reads_number i.value _ _ (semicolon ∷ (flat_map written_initial initials ++ rest))
    ▷ reads (semicolon ∷ []) refl ▷ does ▷ reads_initials initials symbols _ rest c)

pub reads_semicolon : (is_there : Bool) → ReadsCalm (word.Header header.Semicolon) is_there (cond is_there (semicolon ∷ []) [])
reads_semicolon true symbols b rest c = reads (semicolon ∷ []) refl ▷ does
reads_semicolon false symbols b rest c = builds (word.Header header.Semicolon) _ symbols b rest refl refl c

pub reads_metadata_end : (initials : Option Initials) → ReadsCalm (word.Header header.MetadataEnd) initials (written_initials initials)
reads_metadata_end None symbols b rest c = reads (semicolon ∷ []) refl ▷ does
reads_metadata_end (Some i) symbols b rest c =
    from (written_initials (Some i) ++ rest) (simp append_assoc)
    (reads (brace_open ∷ []) refl ▷ does
    ▷ giving (ap (λ ls. record b { headers = record b.headers { initials = ls } }) (extended_is i.values [] b.headers.initials))
    (reads_initials i.values _ _ (brace_close ∷ (cond i.semicolon (semicolon ∷ []) [] ++ rest)) refl)
    ▷ reads (brace_close ∷ []) refl
    ▷ reads_semicolon i.semicolon symbols _ rest c)

-- each expression is read
abbrev pub ReadsExpr : Type 0
ReadsExpr = (e : Expr) → is_expr 0 e ≡ true → ReadsCalm (word.Body (body.Expr 0)) e (written_expr e)

pub reads_tails : ReadsExpr → (tails : List TailTree) → list_all is_tail tails ≡ true → (symbols : List Sym) (b : Built) (rest : List Lexeme)
    → all_different (map tail_word (newest [] b.bodies.tails) ++ map tail_word tails) ≡ true → Calm (word.Header header.Tails) rest
    → Goes (header_sym header.Tails ∷ symbols) b (flat_map written_tail tails ++ rest) symbols (after_word (word.Header header.Tails) tails b) rest
reads_tails f [] k symbols b rest d c = skips (word.Header header.Tails) symbols b rest refl refl c
reads_tails f (length_is e ∷ tails) k symbols b rest d c =
    let p = both (is_expr 0 e) (list_all is_tail tails) k in
    from (flat_map written_tail (length_is e ∷ tails) ++ rest) (simp append_assoc)
    (takes_row (word.Header header.Tails) (class.NewTail key.Length) _ _ symbols b (keyword key.Length) (colon ∷ (written_expr e ++ semicolon ∷ (flat_map written_tail tails ++ rest)))
    (ap not (is_new_text (map tail_word (newest [] b.bodies.tails)) (codes "length") (map tail_word tails) d)) refl
    ▷ reads (colon ∷ []) refl ▷ f e p.0 _ _ (semicolon ∷ (flat_map written_tail tails ++ rest)) refl ▷ reads (semicolon ∷ []) refl ▷ does
    ▷ reads_tails f tails p.1 symbols _ rest (next_words tail_word (length_is e) tails b.bodies.tails d) c)
reads_tails f (max_length_is e ∷ tails) k symbols b rest d c =
    let p = both (is_expr 0 e) (list_all is_tail tails) k in
    from (flat_map written_tail (max_length_is e ∷ tails) ++ rest) (simp append_assoc)
    (takes_row (word.Header header.Tails) (class.NewTail key.MaxLength) _ _ symbols b (keyword key.MaxLength) (colon ∷ (written_expr e ++ semicolon ∷ (flat_map written_tail tails ++ rest)))
    (ap not (is_new_text (map tail_word (newest [] b.bodies.tails)) (codes "max_length") (map tail_word tails) d)) refl
    ▷ reads (colon ∷ []) refl ▷ f e p.0 _ _ (semicolon ∷ (flat_map written_tail tails ++ rest)) refl ▷ reads (semicolon ∷ []) refl ▷ does
    ▷ reads_tails f tails p.1 symbols _ rest (next_words tail_word (max_length_is e) tails b.bodies.tails d) c)
