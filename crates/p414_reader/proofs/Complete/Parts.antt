-- Names, numbers, instances and fields: what is written so is read.
use Rattle.std.proofs.Common.{◌≡◌, ℕ, List, [], ◌∷◌, ◌++◌, Option, Some, None, refl, sym, ap, ◌∙◌, append_assoc, append-nil}
use Rattle.predictive_parser.specs.declared.symbol.Symbol.TheVariants.{Put}
use Rattle.p414_syntax.specs.declared.keyword.Keyword.TheVariants as key
use Rattle.p414_syntax.specs.declared.lexeme.Literal.{Literal}
use Rattle.p414_syntax.specs.declared.lexeme.Lexeme.{Lexeme}
use Rattle.p414_syntax.specs.declared.lexeme.Lexeme.TheVariants as lexeme
use Rattle.p414_syntax.specs.declared.parts.Sign.{Sign}
use Rattle.p414_syntax.specs.declared.parts.Sign.TheVariants as sign
use Rattle.p414_syntax.specs.declared.parts.Number.{Number}
use Rattle.p414_syntax.specs.declared.parts.Index.{Index}
use Rattle.p414_syntax.specs.declared.parts.Index.TheVariants as index
use Rattle.p414_syntax.specs.declared.parts.Inst.{Inst}
use Rattle.p414_syntax.specs.declared.parts.Ref.{Ref}
use Rattle.p414_syntax.specs.Words.{name, keyword, bracket_open, bracket_close, paren_open, paren_close, semicolon, dot, comma, plus, minus}
use Rattle.p414_syntax.specs.Written.{written_option, after_commas, by_commas, written_name, name_line, written_number, index_token, written_index, written_inst, written_ref, written_mask, written_arguments}
use Rattle.p414_reader.specs.declared.symbols.Action.TheVariants as action
use Rattle.p414_reader.specs.declared.symbols.PartAction.TheVariants as part_action
use Rattle.p414_reader.specs.declared.symbols.Word.TheVariants as word
use Rattle.p414_reader.specs.declared.symbols.PartWord.TheVariants as part
use Rattle.p414_reader.specs.declared.built.Built.{Built}
use Rattle.p414_reader.specs.internal.Rows.{Sym, part_sym}
use Rattle.p414_reader.proofs.Meaning.{after_word, written_dot, with_arguments}
use Rattle.p414_reader.proofs.Readings.{Goes, Reads, ReadsCalm, ◌▷◌, reads, does, from, giving, skips, builds, calmer, first_of}
use Rattle.std.specs.List.{flat_map}

pub reads_more_names : (names : List (List ℕ)) → ReadsCalm (word.Part part.MoreNames) names (after_commas written_name names)
reads_more_names [] symbols b rest c = skips (word.Part part.MoreNames) symbols b rest refl refl c
reads_more_names (n ∷ names) symbols b rest c =
    reads (comma ∷ name n ∷ []) refl ▷ does ▷ reads_more_names names symbols _ rest c

pub reads_name_lines : (names : List (List ℕ)) → ReadsCalm (word.Part part.NameLines) names (flat_map name_line names)
reads_name_lines [] symbols b rest c = skips (word.Part part.NameLines) symbols b rest refl refl c
reads_name_lines (n ∷ names) symbols b rest c =
    reads (name n ∷ semicolon ∷ []) refl ▷ does ▷ reads_name_lines names symbols _ rest c

pub reads_index_in : (i : Index) → Reads (word.Part part.IndexIn) i (index_token i ∷ [])
reads_index_in (index.At n) symbols b rest = reads (lexeme.Number n ∷ []) refl ▷ does
reads_index_in index.Next symbols b rest = reads (keyword key.Next ∷ []) refl ▷ does
reads_index_in index.Last symbols b rest = reads (keyword key.Last ∷ []) refl ▷ does

pub reads_index_option : (i : Option Index) → ReadsCalm (word.Part part.IndexOption) i (written_option written_index i)
reads_index_option None symbols b rest c = builds (word.Part part.IndexOption) _ symbols b rest refl refl c
reads_index_option (Some i) symbols b rest c =
    reads (bracket_open ∷ []) refl ▷ reads_index_in i _ _ (bracket_close ∷ rest) ▷ reads (bracket_close ∷ []) refl

pub reads_inst : (i : Inst) → ReadsCalm (word.Part part.Inst) i (written_inst i)
reads_inst i symbols b rest c =
    reads (name i.name ∷ []) refl ▷ reads_index_option i.index _ _ rest c ▷ does

pub reads_field_option : (f : Option (List ℕ)) → ReadsCalm (word.Part part.FieldOption) f (written_option written_dot f)
reads_field_option None symbols b rest c = builds (word.Part part.FieldOption) _ symbols b rest refl refl c
reads_field_option (Some f) symbols b rest c = reads (dot ∷ name f ∷ []) refl ▷ does

-- the tokens of a field, its name in front
pub ref_tokens : (r : Ref) (rest : List Lexeme) → written_ref r ++ rest ≡ name r.instance.name ∷ (written_option written_index r.instance.index ++ dot ∷ name r.field ∷ rest)
ref_tokens r rest = ap (λ ts. name r.instance.name ∷ ts) (append_assoc (written_option written_index r.instance.index) (dot ∷ name r.field ∷ []) rest)

pub reads_ref : (r : Ref) → Reads (word.Part part.Ref) r (written_ref r)
reads_ref r symbols b rest =
    from (written_ref r ++ rest) (ref_tokens r rest)
    (reads (name r.instance.name ∷ []) refl ▷ reads_index_option r.instance.index _ _ (dot ∷ name r.field ∷ rest) refl ▷ does
    ▷ reads (dot ∷ name r.field ∷ []) refl ▷ does)

reads_signed : (s : Option Sign) (n : Literal) → Reads (word.Part part.Number) (record { sign = s; literal = n }) (written_number (record { sign = s; literal = n }))
reads_signed None n symbols b rest = reads (lexeme.Number n ∷ []) refl ▷ does
reads_signed (Some sign.Plus) n symbols b rest = reads (plus ∷ lexeme.Number n ∷ []) refl ▷ does
reads_signed (Some sign.Minus) n symbols b rest = reads (minus ∷ lexeme.Number n ∷ []) refl ▷ does

pub reads_number : (n : Number) → Reads (word.Part part.Number) n (written_number n)
reads_number n = reads_signed n.sign n.literal

pub reads_more_numbers : (ns : List Number) → ReadsCalm (word.Part part.MoreNumbers) ns (after_commas written_number ns)
reads_more_numbers [] symbols b rest c = skips (word.Part part.MoreNumbers) symbols b rest refl refl c
reads_more_numbers (n ∷ ns) symbols b rest c =
    from (after_commas written_number (n ∷ ns) ++ rest) (first_of (λ x. comma ∷ written_number x) n ns rest)
    (reads (comma ∷ []) refl ▷ reads_number n _ _ (after_commas written_number ns ++ rest) ▷ does ▷ reads_more_numbers ns symbols _ rest c)

-- the first number of a list is read as any number
list_like : (s : Option Sign) (n : Literal) (symbols : List Sym) (b : Built) (rest : List Lexeme)
    → Goes (part_sym part.NumberList ∷ symbols) b (written_number (record { sign = s; literal = n }) ++ rest)
    (Put (action.Part part_action.AddNumber) ∷ part_sym part.MoreNumbers ∷ symbols) (after_word (word.Part part.Number) (record { sign = s; literal = n }) b) rest
list_like None n symbols b rest = reads (lexeme.Number n ∷ []) refl ▷ does
list_like (Some sign.Plus) n symbols b rest = reads (plus ∷ lexeme.Number n ∷ []) refl ▷ does
list_like (Some sign.Minus) n symbols b rest = reads (minus ∷ lexeme.Number n ∷ []) refl ▷ does

pub reads_number_list : (ns : List Number) → ReadsCalm (word.Part part.NumberList) ns (by_commas written_number ns)
reads_number_list [] symbols b rest c = skips (word.Part part.NumberList) symbols b rest refl refl c
reads_number_list (n ∷ ns) symbols b rest c =
    from (by_commas written_number (n ∷ ns) ++ rest) (append_assoc (written_number n) (after_commas written_number ns) rest)
    (list_like n.sign n.literal symbols b (after_commas written_number ns ++ rest) ▷ does
    ▷ reads_more_numbers ns symbols _ rest (calmer (word.Part part.MoreNumbers) (word.Part part.NumberList) rest refl c))

arguments_are : (ns list : List Number) (lists : List (Option (List Number))) → with_arguments ns (Some list ∷ lists) ≡ Some (list ++ ns) ∷ lists
arguments_are [] list lists = ap (λ l. Some l ∷ lists) (sym (append-nil list))
arguments_are (n ∷ ns) list lists = arguments_are ns (list ++ n ∷ []) lists ∙ ap (λ l. Some l ∷ lists) (append_assoc list (n ∷ []) ns)

pub reads_arguments : (ns : Option (List Number)) → ReadsCalm (word.Part part.Arguments) ns (written_option written_arguments ns)
reads_arguments None symbols b rest c = builds (word.Part part.Arguments) _ symbols b rest refl refl c
reads_arguments (Some ns) symbols b rest c =
    from (written_arguments ns ++ rest) (ap (λ ts. paren_open ∷ ts) (append_assoc (by_commas written_number ns) (paren_close ∷ []) rest))
    (giving (ap (λ ls. record b { parts = record b.parts { arguments = ls } }) (arguments_are ns [] b.parts.arguments))
    (reads (paren_open ∷ []) refl ▷ does ▷ reads_number_list ns _ _ (paren_close ∷ rest) refl ▷ reads (paren_close ∷ []) refl))

pub reads_mask_option : (m : Option Literal) → ReadsCalm (word.Part part.MaskOption) m (written_option written_mask m)
reads_mask_option None symbols b rest c = builds (word.Part part.MaskOption) _ symbols b rest refl refl c
reads_mask_option (Some m) symbols b rest c = reads (keyword key.Mask ∷ lexeme.Number m ∷ []) refl ▷ does
