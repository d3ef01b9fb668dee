-- Annotations, types, parameters and members of enumerations: what is written so is read.
use Rattle.std.proofs.Common.{◌≡◌, ℕ, ◌+◌, true, false, not, List, [], ◌∷◌, ◌++◌, Option, Some, None, refl, sym, ap, ◌∙◌, subst, append_assoc}
use Rattle.std.specs.List.{list_all, list_any}
use Rattle.predictive_parser.specs.Values.{newest, extended}
use Rattle.predictive_parser.specs.Machine.{settle, goes_on, run}
use Rattle.predictive_parser.specs.Grammar.{move}
use Rattle.p416_syntax.specs.declared.keyword.Keyword16.TheVariants as key
use Rattle.p416_syntax.specs.declared.lexeme.Annotation16.TheVariants as annotation_of
use Rattle.p416_syntax.specs.declared.lexeme.Literal16.{Literal16}
use Rattle.p416_syntax.specs.declared.parts.Note.{Note}
use Rattle.p416_syntax.specs.declared.parts.Note.TheVariants as note
use Rattle.p416_syntax.specs.declared.parts.Type16.{Type16}
use Rattle.p416_syntax.specs.declared.parts.Type16.TheVariants as kind
use Rattle.p416_syntax.specs.declared.parts.Direction.{Direction}
use Rattle.p416_syntax.specs.declared.parts.Direction.TheVariants as direction
use Rattle.p416_syntax.specs.declared.parts.Param.{Param}
use Rattle.p416_syntax.specs.declared.parts.Member.{Member}
use Rattle.p416_syntax.specs.declared.parts.Member.TheVariants as member
use Rattle.p416_syntax.specs.declared.parts.HashAlgorithm.TheVariants as hash
use Rattle.p416_syntax.specs.declared.parts.CounterType.TheVariants as counter
use Rattle.p416_syntax.specs.declared.parts.MeterType.TheVariants as meter
use Rattle.p416_syntax.specs.declared.parts.CloneType.TheVariants as clone
use Rattle.p416_syntax.specs.Tokens.{Seen16, id, quoted, number, string, annotation, comma, less, greater, paren_open, paren_close, bracket_open, bracket_close}
use Rattle.p416_syntax.specs.Written.{written_option, after_commas, by_commas, written_number, written_note, written_notes, written_type, written_direction, written_param, written_member}
use Rattle.p416_syntax.specs.Conditions.{is_note, is_name_note, is_named_once}
use Rattle.p416_reader.specs.declared.symbols.Class.TheVariants as class
use Rattle.p416_reader.specs.declared.symbols.Word.TheVariants as word
use Rattle.p416_reader.specs.declared.symbols.PartWord.TheVariants as part
use Rattle.p416_reader.specs.declared.built.Built.{Built}
use Rattle.p416_reader.specs.declared.parts.Parts.{Parts}
use Rattle.predictive_parser.specs.declared.symbol.Symbol.TheVariants.{Put}
use Rattle.p416_reader.specs.declared.symbols.Action.TheVariants as action
use Rattle.p416_reader.specs.declared.symbols.PartAction.TheVariants as part_action
use Rattle.p416_reader.specs.internal.Rows.{Sym, grammar16, part_sym, a_name}
use Rattle.p416_reader.proofs.Meaning.{after_word, newest_notes}
use Rattle.p416_reader.proofs.Readings.{Goes, Calm, Reads, ReadsCalm, ◌▷◌, reads, does, from, giving, skips, builds, calmer, first_of, extended_is, not_true, takes_row}

pub never : false ≡ true → ⊥
never e = cc

-- two lists of symbols that the next token leaves alike
pub same : {xs ys : List Sym} {b : Built} {t : Seen16} {ts : List Seen16} → settle (move grammar16) xs b t ≡ settle (move grammar16) ys b t → Goes xs b (t ∷ ts) ys b (t ∷ ts)
same {xs} {ys} {b} {t} {ts} e = record { by = λ place. (place, ap (λ o. goes_on (move grammar16) o place (λ left next. run (move grammar16) left next (place + 1) ts)) e) }

-- types

pub reads_type : (t : Type16) → ReadsCalm (word.Part part.TypeOf) t (written_type t)
reads_type (kind.Bit w) symbols b rest c = reads (quoted key.Bit ∷ less ∷ number w ∷ greater ∷ []) refl ▷ does
reads_type kind.Bool symbols b rest c = reads (quoted key.Bool ∷ []) refl ▷ does
reads_type (kind.Named text None) symbols b rest c =
    reads (id text ∷ []) refl ▷ builds (word.Part part.SizeOption) _ _ _ rest refl refl c ▷ does
reads_type (kind.Named text (Some n)) symbols b rest c =
    reads (id text ∷ bracket_open ∷ number n ∷ bracket_close ∷ []) refl ▷ does ▷ does

-- parameters

param_like : (t : Type16) (symbols : List Sym) (b : Built) (ts : List Seen16)
    → Goes (part_sym part.Param ∷ symbols) b (written_type t ++ ts) (part_sym part.TypeOf ∷ a_name ∷ Put (action.Part (part_action.AddParam None)) ∷ symbols) b (written_type t ++ ts)
param_like (kind.Bit w) symbols b ts = same refl
param_like kind.Bool symbols b ts = same refl
param_like (kind.Named text size) symbols b ts = same refl

param_tokens : (d : Option Direction) (t : Type16) (text : List ℕ) (rest : List Seen16)
    → written_param (record { direction = d; of = t; name = text }) ++ rest ≡ written_option written_direction d ++ (written_type t ++ id text ∷ rest)
param_tokens d t text rest =
    append_assoc (written_option written_direction d) (written_type t ++ id text ∷ []) rest
    ∙ ap (λ ts. written_option written_direction d ++ ts) (append_assoc (written_type t) (id text ∷ []) rest)

reads_directed : (d : Option Direction) (t : Type16) (text : List ℕ) → Reads (word.Part part.Param) (record { direction = d; of = t; name = text }) (written_param (record { direction = d; of = t; name = text }))
reads_directed None t text symbols b rest =
    from _ (param_tokens None t text rest)
    (param_like t symbols b (id text ∷ rest) ▷ reads_type t _ _ (id text ∷ rest) refl ▷ reads (id text ∷ []) refl ▷ does)
reads_directed (Some direction.In) t text symbols b rest =
    from _ (param_tokens (Some direction.In) t text rest)
    (reads (quoted key.In ∷ []) refl ▷ reads_type t _ _ (id text ∷ rest) refl ▷ reads (id text ∷ []) refl ▷ does)
reads_directed (Some direction.Out) t text symbols b rest =
    from _ (param_tokens (Some direction.Out) t text rest)
    (reads (quoted key.Out ∷ []) refl ▷ reads_type t _ _ (id text ∷ rest) refl ▷ reads (id text ∷ []) refl ▷ does)
reads_directed (Some direction.InOut) t text symbols b rest =
    from _ (param_tokens (Some direction.InOut) t text rest)
    (reads (quoted key.InOut ∷ []) refl ▷ reads_type t _ _ (id text ∷ rest) refl ▷ reads (id text ∷ []) refl ▷ does)

pub reads_param : (p : Param) → Reads (word.Part part.Param) p (written_param p)
reads_param p = reads_directed p.direction p.of p.name

pub reads_more_params : (ps : List Param) → ReadsCalm (word.Part part.MoreParams) ps (after_commas written_param ps)
reads_more_params [] symbols b rest c = skips (word.Part part.MoreParams) symbols b rest refl refl c
reads_more_params (p ∷ ps) symbols b rest c =
    from _ (first_of (λ x. comma ∷ written_param x) p ps rest)
    (reads (comma ∷ []) refl ▷ reads_param p _ _ (after_commas written_param ps ++ rest) ▷ reads_more_params ps symbols _ rest c)

-- the first parameter of a list that may be empty is read as any
first_typed : (t : Type16) (symbols : List Sym) (b : Built) (ts : List Seen16)
    → Goes (part_sym part.Params ∷ symbols) b (written_type t ++ ts) (part_sym part.Param ∷ part_sym part.MoreParams ∷ symbols) b (written_type t ++ ts)
first_typed (kind.Bit w) symbols b ts = same refl
first_typed kind.Bool symbols b ts = same refl
first_typed (kind.Named text size) symbols b ts = same refl

first_directed : (d : Option Direction) (t : Type16) (text : List ℕ) (symbols : List Sym) (b : Built) (rest : List Seen16)
    → Goes (part_sym part.Params ∷ symbols) b (written_param (record { direction = d; of = t; name = text }) ++ rest) (part_sym part.Param ∷ part_sym part.MoreParams ∷ symbols) b (written_param (record { direction = d; of = t; name = text }) ++ rest)
first_directed None t text symbols b rest =
    subst (λ ts. Goes (part_sym part.Params ∷ symbols) b ts (part_sym part.Param ∷ part_sym part.MoreParams ∷ symbols) b ts) (sym (param_tokens None t text rest))
    (first_typed t symbols b (id text ∷ rest))
first_directed (Some direction.In) t text symbols b rest = same refl
first_directed (Some direction.Out) t text symbols b rest = same refl
first_directed (Some direction.InOut) t text symbols b rest = same refl

pub reads_params : (ps : List Param) → ReadsCalm (word.Part part.Params) ps (by_commas written_param ps)
reads_params [] symbols b rest c = skips (word.Part part.Params) symbols b rest refl refl c
reads_params (p ∷ ps) symbols b rest c =
    from _ (append_assoc (written_param p) (after_commas written_param ps) rest)
    (first_directed p.direction p.of p.name symbols b (after_commas written_param ps ++ rest)
    ▷ reads_param p _ _ (after_commas written_param ps ++ rest)
    ▷ reads_more_params ps symbols _ rest (calmer (word.Part part.MoreParams) (word.Part part.Params) rest refl c))

-- members of enumerations

pub reads_member : (m : Member) → Reads (word.Part part.Member) m (written_member m)
reads_member (member.HashAlgorithm hash.Csum16) symbols b rest = reads (written_member (member.HashAlgorithm hash.Csum16)) refl ▷ does
reads_member (member.HashAlgorithm hash.Crc16) symbols b rest = reads (written_member (member.HashAlgorithm hash.Crc16)) refl ▷ does
reads_member (member.HashAlgorithm hash.Crc32) symbols b rest = reads (written_member (member.HashAlgorithm hash.Crc32)) refl ▷ does
reads_member (member.HashAlgorithm hash.Identity) symbols b rest = reads (written_member (member.HashAlgorithm hash.Identity)) refl ▷ does
reads_member (member.CounterType counter.Packets) symbols b rest = reads (written_member (member.CounterType counter.Packets)) refl ▷ does
reads_member (member.CounterType counter.Bytes) symbols b rest = reads (written_member (member.CounterType counter.Bytes)) refl ▷ does
reads_member (member.CounterType counter.PacketsAndBytes) symbols b rest = reads (written_member (member.CounterType counter.PacketsAndBytes)) refl ▷ does
reads_member (member.MeterType meter.Packets) symbols b rest = reads (written_member (member.MeterType meter.Packets)) refl ▷ does
reads_member (member.MeterType meter.Bytes) symbols b rest = reads (written_member (member.MeterType meter.Bytes)) refl ▷ does
reads_member (member.CloneType clone.I2E) symbols b rest = reads (written_member (member.CloneType clone.I2E)) refl ▷ does
reads_member (member.CloneType clone.E2E) symbols b rest = reads (written_member (member.CloneType clone.E2E)) refl ▷ does

-- annotations

pub reads_more_numbers : (ns : List Literal16) → ReadsCalm (word.Part part.MoreNumbers) ns (after_commas written_number ns)
reads_more_numbers [] symbols b rest c = skips (word.Part part.MoreNumbers) symbols b rest refl refl c
reads_more_numbers (n ∷ ns) symbols b rest c = reads (comma ∷ number n ∷ []) refl ▷ does ▷ reads_more_numbers ns symbols _ rest c

list_tokens : (n : Literal16) (ns : List Literal16) (rest : List Seen16)
    → written_note (note.FieldList (n ∷ ns)) ++ rest ≡ annotation annotation_of.FieldList ∷ paren_open ∷ number n ∷ (after_commas written_number ns ++ paren_close ∷ rest)
list_tokens n ns rest = ap (λ ts. annotation annotation_of.FieldList ∷ paren_open ∷ number n ∷ ts) (append_assoc (after_commas written_number ns) (paren_close ∷ []) rest)

abbrev with_lists : Parts → List (List Literal16) → List (List Note) → Parts
with_lists p ls ns = record p { literal_lists = ls; notes = ns }

-- `@name` doesn't stand among annotations behind which it may stand
named_before : (before : List Note) (text : List ℕ) (more : List Note) → is_named_once (before ++ note.Name text ∷ more) ≡ true → list_any is_name_note before ≡ false
named_before [] text more h = refl
named_before (note.Name other ∷ before) text more h = absurd (go before (not_true _ h))
  where
    go : (ns : List Note) → list_any is_name_note (ns ++ note.Name text ∷ more) ≡ false → ⊥
    go [] e = cc
    go (note.Name other ∷ ns) e = cc
    go (note.FieldList lists ∷ ns) e = go ns e
named_before (note.FieldList lists ∷ before) text more h = named_before before text more h

notes_next : (n : Note) (ns : List Note) (lists : List (List Note)) → is_named_once (newest [] lists ++ n ∷ ns) ≡ true → is_named_once (newest [] (extended (n ∷ []) lists) ++ ns) ≡ true
notes_next n ns [] h = h
notes_next n ns (list ∷ lists) h = subst (λ l. is_named_once l ≡ true) (sym (append_assoc list (n ∷ []) ns)) h

pub reads_notes : (ns : List Note) (symbols : List Sym) (b : Built) (rest : List Seen16) → list_all is_note ns ≡ true → is_named_once (newest_notes b ++ ns) ≡ true → Calm (word.Part part.Notes) rest
    → Goes (part_sym part.Notes ∷ symbols) b (written_notes ns ++ rest) symbols (after_word (word.Part part.Notes) ns b) rest
reads_notes [] symbols b rest h k c = skips (word.Part part.Notes) symbols b rest refl refl c
reads_notes (note.Name text ∷ ns) symbols b rest h k c =
    takes_row (word.Part part.Notes) class.NewNameNote _ _ symbols b (annotation annotation_of.Name) _ (ap not (named_before (newest_notes b) text ns k)) refl
    ▷ reads (paren_open ∷ string text ∷ paren_close ∷ []) refl ▷ does
    ▷ reads_notes ns symbols _ rest h (notes_next (note.Name text) ns b.parts.notes k) c
reads_notes (note.FieldList [] ∷ ns) symbols b rest h k c = absurd (never h)
reads_notes (note.FieldList (n ∷ more) ∷ ns) symbols b rest h k c =
    from _ (first_of written_note (note.FieldList (n ∷ more)) ns rest ∙ list_tokens n more (written_notes ns ++ rest))
    (reads (annotation annotation_of.FieldList ∷ paren_open ∷ number n ∷ []) refl ▷ does
    ▷ giving (ap (λ ls. record b { parts = with_lists b.parts ls b.parts.notes }) (extended_is more (n ∷ []) b.parts.literal_lists))
    (reads_more_numbers more _ _ (paren_close ∷ (written_notes ns ++ rest)) refl)
    ▷ reads (paren_close ∷ []) refl ▷ does
    ▷ reads_notes ns symbols _ rest h (notes_next (note.FieldList (n ∷ more)) ns b.parts.notes k) c)

-- the first annotation of several
pub reads_first_note : (n : Note) → is_note n ≡ true → Reads (word.Part part.FirstNote) n (written_note n)
reads_first_note (note.Name text) h symbols b rest = reads (annotation annotation_of.Name ∷ paren_open ∷ string text ∷ paren_close ∷ []) refl ▷ does
reads_first_note (note.FieldList []) h symbols b rest = absurd (never h)
reads_first_note (note.FieldList (n ∷ more)) h symbols b rest =
    from _ (list_tokens n more rest)
    (reads (annotation annotation_of.FieldList ∷ paren_open ∷ number n ∷ []) refl ▷ does
    ▷ giving (ap (λ ls. record b { parts = with_lists b.parts ls ([] ∷ b.parts.notes) }) (extended_is more (n ∷ []) b.parts.literal_lists))
    (reads_more_numbers more _ _ (paren_close ∷ rest) refl)
    ▷ reads (paren_close ∷ []) refl ▷ does)
