-- Tables: what is written so is read.
use Rattle.std.proofs.Common.{◌≡◌, ℕ, Bool, true, false, not, List, [], ◌∷◌, ◌++◌, map, Option, Some, None, refl, ap, ◌∙◌, append_assoc}
use Rattle.std.specs.List.{flat_map, list_all}
use Rattle.predictive_parser.specs.Grammar.{◌⇒◌}
use Rattle.p414_syntax.specs.declared.lexeme.Literal.{Literal}
use Rattle.p414_syntax.specs.declared.lexeme.Lexeme.{Lexeme}
use Rattle.p414_syntax.specs.declared.lexeme.Lexeme.TheVariants as lexeme
use Rattle.p414_syntax.specs.declared.tables.ReadKey.{ReadKey}
use Rattle.p414_syntax.specs.declared.tables.ReadKey.TheVariants as read_key
use Rattle.p414_syntax.specs.declared.tables.Read.{Read}
use Rattle.p414_syntax.specs.declared.tables.TableAttr.{TableAttr}
use Rattle.p414_syntax.specs.declared.tables.TableAttr.TheVariants as attr
use Rattle.p414_syntax.specs.Words.{name, keyword, brace_open, brace_close, semicolon, colon, dot}
use Rattle.p414_syntax.specs.Written.{written_option, written_ref, written_arguments, written_truth, written_mask, written_read, table_word, written_table_value, written_table_attr}
use Rattle.p414_syntax.specs.Conditions.{is_among, all_different, is_table_attr, has_word, table_needs}
use Rattle.p414_syntax.specs.declared.keyword.Keyword.TheVariants as key
use Rattle.p414_reader.specs.declared.symbols.Class.TheVariants as class
use Rattle.p414_reader.specs.declared.symbols.Word.{Word}
use Rattle.p414_reader.specs.declared.symbols.Word.TheVariants as word
use Rattle.p414_reader.specs.declared.symbols.PartWord.TheVariants as part
use Rattle.p414_reader.specs.declared.symbols.TableWord.TheVariants as table
use Rattle.p414_reader.specs.declared.built.Built.{Built}
use Rattle.p414_reader.specs.internal.Actions.{with_table_attr}
use Rattle.p414_reader.specs.internal.Rows.{Sym, Rows, table_sym, actions_rest, profile_rest}
use Rattle.p414_reader.proofs.Meaning.{after_word, table_words}
use Rattle.p414_reader.proofs.Readings.{Goes, Calm, Reads, ReadsCalm, ◌▷◌, reads, does, from, giving, skips, first_of, extended_is, both, takes_row, like_row, like_end, is_new_text, next_words}
use Rattle.p414_reader.proofs.Complete.Parts.{reads_name_lines, reads_index_option, reads_field_option, reads_arguments, reads_mask_option, ref_tokens}

pub reads_timeout : (on : Bool) → Reads (word.Table table.Timeout) on (written_truth on ++ semicolon ∷ [])
reads_timeout true symbols b rest = reads (keyword key.True ∷ semicolon ∷ []) refl ▷ does
reads_timeout false symbols b rest = reads (keyword key.False ∷ semicolon ∷ []) refl ▷ does

-- what is read

-- a mask that may be left out, where the word goes on neither with it nor with what follows
calm_mask : (w : Word) (m : Option Literal) (tokens : List Lexeme) → Calm w (keyword key.Mask ∷ []) → Calm w tokens → Calm w (written_option written_mask m ++ tokens)
calm_mask w None tokens c d = d
calm_mask w (Some m) tokens c d = c

reads_read : (k : ReadKey) (m : Option Literal) (kind : List ℕ) (symbols : List Sym) (b : Built) (rest : List Lexeme)
    → Goes (table_sym table.Reads ∷ symbols) b (written_read (record { key = k; mask = m; kind = kind }) ++ rest)
    (table_sym table.Reads ∷ symbols) (after_word (word.Table table.Reads) (record { key = k; mask = m; kind = kind } ∷ []) b) rest
reads_read (read_key.Field r) m kind symbols b rest =
    from (written_read (record { key = read_key.Field r; mask = m; kind = kind }) ++ rest)
    (append_assoc (written_ref r) (written_option written_mask m ++ colon ∷ name kind ∷ semicolon ∷ []) rest
    ∙ ap (λ ts. written_ref r ++ ts) (append_assoc (written_option written_mask m) (colon ∷ name kind ∷ semicolon ∷ []) rest)
    ∙ ref_tokens r (written_option written_mask m ++ colon ∷ name kind ∷ semicolon ∷ rest))
    (reads (name r.instance.name ∷ []) refl
    ▷ reads_index_option r.instance.index _ _ (dot ∷ name r.field ∷ (written_option written_mask m ++ colon ∷ name kind ∷ semicolon ∷ rest)) refl ▷ does
    ▷ reads (dot ∷ name r.field ∷ []) refl ▷ does
    ▷ reads_mask_option m _ _ (colon ∷ name kind ∷ semicolon ∷ rest) refl
    ▷ reads (colon ∷ name kind ∷ semicolon ∷ []) refl ▷ does)
reads_read (read_key.Instance i) m kind symbols b rest =
    from (written_read (record { key = read_key.Instance i; mask = m; kind = kind }) ++ rest) (simp append_assoc)
    (reads (name i.name ∷ []) refl
    ▷ reads_index_option i.index _ _ (written_option written_mask m ++ colon ∷ name kind ∷ semicolon ∷ rest) (calm_mask (word.Part part.IndexOption) m (colon ∷ name kind ∷ semicolon ∷ rest) refl refl) ▷ does
    ▷ reads_field_option None _ _ (written_option written_mask m ++ colon ∷ name kind ∷ semicolon ∷ rest) (calm_mask (word.Part part.FieldOption) m (colon ∷ name kind ∷ semicolon ∷ rest) refl refl)
    ▷ reads_mask_option m _ _ (colon ∷ name kind ∷ semicolon ∷ rest) refl
    ▷ reads (colon ∷ name kind ∷ semicolon ∷ []) refl ▷ does)

pub reads_reads : (rs : List Read) → ReadsCalm (word.Table table.Reads) rs (flat_map written_read rs)
reads_reads [] symbols b rest c = skips (word.Table table.Reads) symbols b rest refl refl c
reads_reads (r ∷ rs) symbols b rest c =
    from (flat_map written_read (r ∷ rs) ++ rest) (first_of written_read r rs rest)
    (reads_read r.key r.mask r.kind symbols b (flat_map written_read rs ++ rest) ▷ reads_reads rs symbols _ rest c)

-- attributes

-- the names of actions in braces, of which there is one at least
reads_actions : (n : List ℕ) (names : List (List ℕ)) (symbols : List Sym) (b : Built) (rest : List Lexeme)
    → Goes (actions_rest ++ symbols) b (written_table_value (attr.Actions (n ∷ names)) ++ rest) symbols (with_table_attr (attr.Actions (n ∷ names)) b) rest
reads_actions n names symbols b rest =
    from (written_table_value (attr.Actions (n ∷ names)) ++ rest) (simp append_assoc)
    (reads (brace_open ∷ name n ∷ semicolon ∷ []) refl ▷ does
    ▷ giving (ap (λ ls. record b { parts = record b.parts { name_lists = ls } }) (extended_is names (n ∷ []) b.parts.name_lists))
    (reads_name_lines names _ _ (brace_close ∷ rest) refl)
    ▷ reads (brace_close ∷ []) refl ▷ does)

-- an attribute that isn't needed
pub reads_table_attr : (a : TableAttr) → is_among (table_word a) table_needs ≡ false → (symbols : List Sym) (b : Built) (rest : List Lexeme) → is_among (table_word a) (table_words b) ≡ false
    → Goes (table_sym table.Attr ∷ symbols) b (written_table_attr a ++ rest) symbols (after_word (word.Table table.Attr) a b) rest
reads_table_attr (attr.Reads rs) k symbols b rest h =
    from (written_table_attr (attr.Reads rs) ++ rest) (simp append_assoc)
    (takes_row (word.Table table.Attr) (class.NewTableAttr key.Reads) _ _ symbols b (keyword key.Reads) (brace_open ∷ (flat_map written_read rs ++ brace_close ∷ rest)) (ap not h) refl
    ▷ reads (brace_open ∷ []) refl ▷ does
    ▷ giving (ap (λ ls. record b { tables = record b.tables { reads = ls } }) (extended_is rs [] b.tables.reads)) (reads_reads rs _ _ (brace_close ∷ rest) refl)
    ▷ reads (brace_close ∷ []) refl ▷ does)
reads_table_attr (attr.Actions names) k symbols b rest h = cc
reads_table_attr (attr.MinSize n) k symbols b rest h =
    takes_row (word.Table table.Attr) (class.NewTableAttr key.MinSize) _ _ symbols b (keyword key.MinSize) (colon ∷ lexeme.Number n ∷ semicolon ∷ rest) (ap not h) refl
    ▷ reads (colon ∷ lexeme.Number n ∷ semicolon ∷ []) refl ▷ does
reads_table_attr (attr.MaxSize n) k symbols b rest h =
    takes_row (word.Table table.Attr) (class.NewTableAttr key.MaxSize) _ _ symbols b (keyword key.MaxSize) (colon ∷ lexeme.Number n ∷ semicolon ∷ rest) (ap not h) refl
    ▷ reads (colon ∷ lexeme.Number n ∷ semicolon ∷ []) refl ▷ does
reads_table_attr (attr.Size n) k symbols b rest h =
    takes_row (word.Table table.Attr) (class.NewTableAttr key.Size) _ _ symbols b (keyword key.Size) (colon ∷ lexeme.Number n ∷ semicolon ∷ rest) (ap not h) refl
    ▷ reads (colon ∷ lexeme.Number n ∷ semicolon ∷ []) refl ▷ does
reads_table_attr (attr.SupportTimeout on) k symbols b rest h =
    takes_row (word.Table table.Attr) (class.NewTableAttr key.SupportTimeout) _ _ symbols b (keyword key.SupportTimeout) (colon ∷ ((written_truth on ++ semicolon ∷ []) ++ rest)) (ap not h) refl
    ▷ reads (colon ∷ []) refl ▷ reads_timeout on symbols b rest
reads_table_attr (attr.DefaultAction a arguments) k symbols b rest h =
    from (written_table_attr (attr.DefaultAction a arguments) ++ rest) (simp append_assoc)
    (takes_row (word.Table table.Attr) (class.NewTableAttr key.DefaultAction) _ _ symbols b (keyword key.DefaultAction) (colon ∷ name a ∷ (written_option written_arguments arguments ++ semicolon ∷ rest)) (ap not h) refl
    ▷ reads (colon ∷ name a ∷ []) refl ▷ reads_arguments arguments _ _ (semicolon ∷ rest) refl ▷ reads (semicolon ∷ []) refl ▷ does)
reads_table_attr (attr.ActionProfile p) k symbols b rest h = cc

-- the rows for an attribute that is needed, where one is there
abbrev new_rows : Rows
new_rows =
    (class.NewTableAttr key.Actions ⇒ actions_rest ++ table_sym table.MoreAttrs ∷ []) ∷ (class.NewTableAttr key.ActionProfile ⇒ profile_rest ++ table_sym table.MoreAttrs ∷ []) ∷ []

-- the next attribute, which isn't needed, is read as any attribute
like_more : (a : TableAttr) (symbols : List Sym) (b : Built) (tokens : List Lexeme) → is_among (table_word a) table_needs ≡ false → is_among (table_word a) (table_words b) ≡ false
    → Goes (table_sym table.MoreAttrs ∷ symbols) b (name (table_word a) ∷ tokens) (table_sym table.Attr ∷ table_sym table.MoreAttrs ∷ symbols) b (name (table_word a) ∷ tokens)
like_more (attr.Reads rs) symbols b tokens k h = like_row (word.Table table.MoreAttrs) (word.Table table.Attr) new_rows _ symbols b (keyword key.Reads) tokens (class.NewTableAttr key.Reads) _ _ refl refl refl (ap not h) refl
like_more (attr.Actions names) symbols b tokens k h = cc
like_more (attr.MinSize n) symbols b tokens k h = like_row (word.Table table.MoreAttrs) (word.Table table.Attr) new_rows _ symbols b (keyword key.MinSize) tokens (class.NewTableAttr key.MinSize) _ _ refl refl refl (ap not h) refl
like_more (attr.MaxSize n) symbols b tokens k h = like_row (word.Table table.MoreAttrs) (word.Table table.Attr) new_rows _ symbols b (keyword key.MaxSize) tokens (class.NewTableAttr key.MaxSize) _ _ refl refl refl (ap not h) refl
like_more (attr.Size n) symbols b tokens k h = like_row (word.Table table.MoreAttrs) (word.Table table.Attr) new_rows _ symbols b (keyword key.Size) tokens (class.NewTableAttr key.Size) _ _ refl refl refl (ap not h) refl
like_more (attr.SupportTimeout on) symbols b tokens k h = like_row (word.Table table.MoreAttrs) (word.Table table.Attr) new_rows _ symbols b (keyword key.SupportTimeout) tokens (class.NewTableAttr key.SupportTimeout) _ _ refl refl refl (ap not h) refl
like_more (attr.DefaultAction a arguments) symbols b tokens k h = like_row (word.Table table.MoreAttrs) (word.Table table.Attr) new_rows _ symbols b (keyword key.DefaultAction) tokens (class.NewTableAttr key.DefaultAction) _ _ refl refl refl (ap not h) refl
like_more (attr.ActionProfile p) symbols b tokens k h = cc

-- the next attribute, where one that is needed is there
next_attr : (a : TableAttr) → is_table_attr a ≡ true → (symbols : List Sym) (b : Built) (rest : List Lexeme) → is_among (table_word a) (table_words b) ≡ false
    → Goes (table_sym table.MoreAttrs ∷ symbols) b (written_table_attr a ++ rest) (table_sym table.MoreAttrs ∷ symbols) (with_table_attr a b) rest
next_attr (attr.Reads rs) k symbols b rest h = like_more (attr.Reads rs) symbols b _ refl h ▷ reads_table_attr (attr.Reads rs) refl _ b rest h
next_attr (attr.Actions []) k symbols b rest h = cc
next_attr (attr.Actions (n ∷ names)) k symbols b rest h =
    takes_row (word.Table table.MoreAttrs) (class.NewTableAttr key.Actions) _ _ symbols b (keyword key.Actions) _ (ap not h) refl ▷ reads_actions n names (table_sym table.MoreAttrs ∷ symbols) b rest
next_attr (attr.MinSize n) k symbols b rest h = like_more (attr.MinSize n) symbols b _ refl h ▷ reads_table_attr (attr.MinSize n) refl _ b rest h
next_attr (attr.MaxSize n) k symbols b rest h = like_more (attr.MaxSize n) symbols b _ refl h ▷ reads_table_attr (attr.MaxSize n) refl _ b rest h
next_attr (attr.Size n) k symbols b rest h = like_more (attr.Size n) symbols b _ refl h ▷ reads_table_attr (attr.Size n) refl _ b rest h
next_attr (attr.SupportTimeout on) k symbols b rest h = like_more (attr.SupportTimeout on) symbols b _ refl h ▷ reads_table_attr (attr.SupportTimeout on) refl _ b rest h
next_attr (attr.DefaultAction a arguments) k symbols b rest h = like_more (attr.DefaultAction a arguments) symbols b _ refl h ▷ reads_table_attr (attr.DefaultAction a arguments) refl _ b rest h
next_attr (attr.ActionProfile p) k symbols b rest h =
    takes_row (word.Table table.MoreAttrs) (class.NewTableAttr key.ActionProfile) _ _ symbols b (keyword key.ActionProfile) (colon ∷ name p ∷ semicolon ∷ rest) (ap not h) refl
    ▷ reads (colon ∷ name p ∷ semicolon ∷ []) refl ▷ does

pub reads_more_attrs : (attrs : List TableAttr) → list_all is_table_attr attrs ≡ true → (symbols : List Sym) (b : Built) (rest : List Lexeme)
    → all_different (table_words b ++ map table_word attrs) ≡ true → Calm (word.Table table.MoreAttrs) rest
    → Goes (table_sym table.MoreAttrs ∷ symbols) b (flat_map written_table_attr attrs ++ rest) symbols (after_word (word.Table table.MoreAttrs) attrs b) rest
reads_more_attrs [] k symbols b rest d c = skips (word.Table table.MoreAttrs) symbols b rest refl refl c
reads_more_attrs (a ∷ attrs) k symbols b rest d c =
    let p = both (is_table_attr a) (list_all is_table_attr attrs) k in
    let new = is_new_text (table_words b) (table_word a) (map table_word attrs) d in
    from (flat_map written_table_attr (a ∷ attrs) ++ rest) (first_of written_table_attr a attrs rest)
    (next_attr a p.0 symbols b (flat_map written_table_attr attrs ++ rest) new
    ▷ reads_more_attrs attrs p.1 symbols _ rest (next_words table_word a attrs b.tables.attributes d) c)

-- the rows for an attribute that is needed
abbrev own_rows : Rows
own_rows = (class.Word key.Actions ⇒ actions_rest ++ table_sym table.MoreAttrs ∷ []) ∷ (class.Word key.ActionProfile ⇒ profile_rest ++ table_sym table.MoreAttrs ∷ []) ∷ []

-- an attribute that isn't needed is read as any attribute
like_other : (a : TableAttr) (symbols : List Sym) (b : Built) (tokens : List Lexeme) → is_among (table_word a) table_needs ≡ false
    → Goes (table_sym table.Attrs ∷ symbols) b (name (table_word a) ∷ tokens) (table_sym table.Attr ∷ table_sym table.Attrs ∷ symbols) b (name (table_word a) ∷ tokens)
like_other (attr.Reads rs) symbols b tokens h = like_end (word.Table table.Attrs) (word.Table table.Attr) own_rows _ symbols b (keyword key.Reads) tokens refl refl refl refl refl
like_other (attr.Actions names) symbols b tokens h = cc
like_other (attr.MinSize n) symbols b tokens h = like_end (word.Table table.Attrs) (word.Table table.Attr) own_rows _ symbols b (keyword key.MinSize) tokens refl refl refl refl refl
like_other (attr.MaxSize n) symbols b tokens h = like_end (word.Table table.Attrs) (word.Table table.Attr) own_rows _ symbols b (keyword key.MaxSize) tokens refl refl refl refl refl
like_other (attr.Size n) symbols b tokens h = like_end (word.Table table.Attrs) (word.Table table.Attr) own_rows _ symbols b (keyword key.Size) tokens refl refl refl refl refl
like_other (attr.SupportTimeout on) symbols b tokens h = like_end (word.Table table.Attrs) (word.Table table.Attr) own_rows _ symbols b (keyword key.SupportTimeout) tokens refl refl refl refl refl
like_other (attr.DefaultAction a arguments) symbols b tokens h = like_end (word.Table table.Attrs) (word.Table table.Attr) own_rows _ symbols b (keyword key.DefaultAction) tokens refl refl refl refl refl
like_other (attr.ActionProfile p) symbols b tokens h = cc

-- attributes up to the first that is needed, and the others
abbrev ReadsAttrs : List TableAttr → List Sym → Built → List Lexeme → Type 0
ReadsAttrs attrs symbols b rest =
    Goes (table_sym table.Attrs ∷ symbols) b (flat_map written_table_attr attrs ++ rest) symbols (after_word (word.Table table.Attrs) attrs b) rest

reads_other : (a : TableAttr) (attrs : List TableAttr) (symbols : List Sym) (b : Built) (rest : List Lexeme)
    → is_among (table_word a) table_needs ≡ false → all_different (table_words b ++ map table_word (a ∷ attrs)) ≡ true
    → ReadsAttrs attrs symbols (with_table_attr a b) rest → ReadsAttrs (a ∷ attrs) symbols b rest
reads_other a attrs symbols b rest n d f =
    from (flat_map written_table_attr (a ∷ attrs) ++ rest) (first_of written_table_attr a attrs rest)
    (like_other a symbols b (written_table_value a ++ (flat_map written_table_attr attrs ++ rest)) n
    ▷ reads_table_attr a n _ b (flat_map written_table_attr attrs ++ rest) (is_new_text (table_words b) (table_word a) (map table_word attrs) d)
    ▷ f)

pub reads_attrs : (attrs : List TableAttr) → list_all is_table_attr attrs ≡ true → has_word table_needs (map table_word attrs) ≡ true → (symbols : List Sym) (b : Built) (rest : List Lexeme)
    → all_different (table_words b ++ map table_word attrs) ≡ true → Calm (word.Table table.Attrs) rest
    → Goes (table_sym table.Attrs ∷ symbols) b (flat_map written_table_attr attrs ++ rest) symbols (after_word (word.Table table.Attrs) attrs b) rest
reads_attrs [] k n symbols b rest d c = cc
reads_attrs (attr.Reads rs ∷ attrs) k n symbols b rest d c =
    reads_other (attr.Reads rs) attrs symbols b rest refl d (reads_attrs attrs k n symbols (with_table_attr (attr.Reads rs) b) rest (next_words table_word (attr.Reads rs) attrs b.tables.attributes d) c)
reads_attrs (attr.Actions [] ∷ attrs) k n symbols b rest d c = cc
reads_attrs (attr.Actions (a ∷ names) ∷ attrs) k n symbols b rest d c =
    from (flat_map written_table_attr (attr.Actions (a ∷ names) ∷ attrs) ++ rest) (first_of written_table_attr (attr.Actions (a ∷ names)) attrs rest)
    (reads (keyword key.Actions ∷ []) refl ▷ reads_actions a names _ b (flat_map written_table_attr attrs ++ rest)
    ▷ reads_more_attrs attrs k symbols _ rest (next_words table_word (attr.Actions (a ∷ names)) attrs b.tables.attributes d) c)
reads_attrs (attr.MinSize m ∷ attrs) k n symbols b rest d c =
    reads_other (attr.MinSize m) attrs symbols b rest refl d (reads_attrs attrs k n symbols (with_table_attr (attr.MinSize m) b) rest (next_words table_word (attr.MinSize m) attrs b.tables.attributes d) c)
reads_attrs (attr.MaxSize m ∷ attrs) k n symbols b rest d c =
    reads_other (attr.MaxSize m) attrs symbols b rest refl d (reads_attrs attrs k n symbols (with_table_attr (attr.MaxSize m) b) rest (next_words table_word (attr.MaxSize m) attrs b.tables.attributes d) c)
reads_attrs (attr.Size m ∷ attrs) k n symbols b rest d c =
    reads_other (attr.Size m) attrs symbols b rest refl d (reads_attrs attrs k n symbols (with_table_attr (attr.Size m) b) rest (next_words table_word (attr.Size m) attrs b.tables.attributes d) c)
reads_attrs (attr.SupportTimeout on ∷ attrs) k n symbols b rest d c =
    reads_other (attr.SupportTimeout on) attrs symbols b rest refl d (reads_attrs attrs k n symbols (with_table_attr (attr.SupportTimeout on) b) rest (next_words table_word (attr.SupportTimeout on) attrs b.tables.attributes d) c)
reads_attrs (attr.DefaultAction a arguments ∷ attrs) k n symbols b rest d c =
    reads_other (attr.DefaultAction a arguments) attrs symbols b rest refl d (reads_attrs attrs k n symbols (with_table_attr (attr.DefaultAction a arguments) b) rest (next_words table_word (attr.DefaultAction a arguments) attrs b.tables.attributes d) c)
reads_attrs (attr.ActionProfile p ∷ attrs) k n symbols b rest d c =
    reads (keyword key.ActionProfile ∷ colon ∷ name p ∷ semicolon ∷ []) refl ▷ does
    ▷ reads_more_attrs attrs k symbols _ rest (next_words table_word (attr.ActionProfile p) attrs b.tables.attributes d) c
