-- That the rows of annotations, types, parameters and members have the meaning of their words.
use Rattle.std.proofs.Common.{◌≡◌, ℕ, true, false, not, ◌||◌, List, [], ◌∷◌, ◌++◌, Some, None, refl, sym, ap, ap₂, subst, ◌∙◌, append_assoc, append-nil}
use Rattle.std.specs.List.{list_any}
use Rattle.predictive_parser.proofs.Meanings.{MeansWord, RowsShow, NoneShows}
use Rattle.predictive_parser.specs.Values.{newest, older, extended}
use Rattle.p416_syntax.specs.declared.keyword.Keyword16.TheVariants as key
use Rattle.p416_syntax.specs.declared.lexeme.Annotation16.TheVariants as note_of
use Rattle.p416_syntax.specs.declared.lexeme.Literal16.{Literal16}
use Rattle.p416_syntax.specs.declared.parts.Note.{Note}
use Rattle.p416_syntax.specs.declared.parts.Note.TheVariants as note
use Rattle.p416_syntax.specs.declared.parts.Type16.{Type16}
use Rattle.p416_syntax.specs.declared.parts.Type16.TheVariants as kind
use Rattle.p416_syntax.specs.declared.parts.Param.{Param}
use Rattle.p416_syntax.specs.declared.parts.Direction.TheVariants as direction
use Rattle.p416_syntax.specs.declared.parts.Member.TheVariants as member_of
use Rattle.p416_syntax.specs.declared.parts.HashAlgorithm.TheVariants as hash
use Rattle.p416_syntax.specs.declared.parts.CounterType.TheVariants as counter
use Rattle.p416_syntax.specs.declared.parts.MeterType.TheVariants as meter
use Rattle.p416_syntax.specs.declared.parts.CloneType.TheVariants as clone
use Rattle.p416_syntax.specs.Members.{enumeration_text}
use Rattle.p416_syntax.specs.Tokens.{Seen16, id, quoted, number, annotation, dot, comma, paren_open, paren_close, string}
use Rattle.p416_syntax.specs.Written.{after_commas, written_number, written_note, written_type, written_param}
use Rattle.p416_syntax.specs.Conditions.{is_name_note, is_named_once}
use Rattle.p416_reader.specs.declared.symbols.Word.TheVariants as word
use Rattle.p416_reader.specs.declared.symbols.PartWord.{PartWord}
use Rattle.p416_reader.specs.declared.symbols.PartWord.TheVariants as part
use Rattle.p416_reader.specs.declared.symbols.PartAction.TheVariants as act
use Rattle.p416_reader.specs.declared.built.Built.{Built}
use Rattle.p416_reader.specs.internal.Classes as classes
use Rattle.p416_reader.specs.internal.Actions.{put_part}
use Rattle.p416_reader.specs.internal.Rows.{grammar16}
use Rattle.p416_reader.proofs.Meaning.{meaning16, extended_by, newest_notes, PartSpells}
use Rattle.p416_reader.proofs.Lists.{extended_by_list, not_true}
use Rattle.p416_reader.proofs.Fixed.{fixed16, by_name, by_number, by_string, by_test, is_note_only}

abbrev pub Means : PartWord → Built → List Seen16 → Built → Type 0
Means w b us end = MeansWord grammar16 fixed16 meaning16 (word.Part w) b us end

abbrev pub Rows : PartWord → Built → Type 0
Rows w b = RowsShow grammar16 fixed16 meaning16 (word.Part w) b (grammar16.rows (word.Part w))

-- `@name` stands at most once

any_more : (notes : List Note) (numbers : List Literal16) → list_any is_name_note (notes ++ note.FieldList numbers ∷ []) ≡ list_any is_name_note notes
any_more [] numbers = refl
any_more (n ∷ notes) numbers = ap (λ c. is_name_note n || c) (any_more notes numbers)

list_behind : (notes : List Note) (numbers : List Literal16) → is_named_once notes ≡ true → is_named_once (notes ++ note.FieldList numbers ∷ []) ≡ true
list_behind [] numbers h = refl
list_behind (note.Name text ∷ notes) numbers h = ap not (any_more notes numbers) ∙ h
list_behind (note.FieldList others ∷ notes) numbers h = list_behind notes numbers h

name_behind : (notes : List Note) (text : List ℕ) → list_any is_name_note notes ≡ false → is_named_once (notes ++ note.Name text ∷ []) ≡ true
name_behind [] text h = refl
name_behind (note.Name other ∷ notes) text h = cc
name_behind (note.FieldList numbers ∷ notes) text h = name_behind notes text h

-- where one more may be put behind these, and more behind it, all may be put behind these
once_more : (x : Note) (xs : List Note) (lists : List (List Note)) → (is_named_once (newest [] lists) ≡ true → is_named_once (newest [] lists ++ x ∷ []) ≡ true)
    → (is_named_once (newest [] (extended (x ∷ []) lists)) ≡ true → is_named_once (newest [] (extended (x ∷ []) lists) ++ xs) ≡ true)
    → is_named_once (newest [] lists) ≡ true → is_named_once (newest [] lists ++ x ∷ xs) ≡ true
once_more x xs [] f g h = g (f h)
once_more x xs (l ∷ lists) f g h = subst (λ ns. is_named_once ns ≡ true) (append_assoc l (x ∷ []) xs) (g (f h))

-- annotations

list_tokens : (n : Literal16) (ns : List Literal16) (us vs : List Seen16) → us ≡ after_commas written_number ns → annotation note_of.FieldList ∷ paren_open ∷ number n ∷ (us ++ paren_close ∷ vs) ≡ written_note (note.FieldList (n ∷ ns)) ++ vs
list_tokens n ns us vs f =
    ap (λ l. annotation note_of.FieldList ∷ paren_open ∷ number n ∷ l) (ap (λ l. l ++ paren_close ∷ vs) f ∙ sym (append_assoc (after_commas written_number ns) (paren_close ∷ []) vs))

first_list : (b : Built) (n : Literal16) (us : List Seen16) (ns : List Literal16) → us ≡ after_commas written_number ns
    → Means part.FirstNote b (annotation note_of.FieldList ∷ paren_open ∷ number n ∷ (us ++ paren_close ∷ []))
    (record b { parts = put_part act.AddListNote (record b.parts { literal_lists = extended_by ns ((n ∷ []) ∷ b.parts.literal_lists); notes = [] ∷ b.parts.notes }) })
first_list b n us ns f = (
  note.FieldList (n ∷ ns),
  (ap (λ l. annotation note_of.FieldList ∷ paren_open ∷ number n ∷ (l ++ paren_close ∷ [])) f, refl),
  ap (λ ls. record b { parts = put_part act.AddListNote (record b.parts { literal_lists = ls; notes = [] ∷ b.parts.notes }) }) (sym (extended_by_list ns (n ∷ []) b.parts.literal_lists)),
)

-- what is built where the numbers of an annotation are the newest of these lists
abbrev list_built : Built → List (List Literal16) → Built
list_built b ls = record b { parts = put_part act.AddListNote (record b.parts { literal_lists = ls }) }

one_list : (b : Built) (n : Literal16) (ns : List Literal16) (us vs : List Seen16) (xs : List Note) → us ≡ after_commas written_number ns → PartSpells part.Notes xs (list_built b ((n ∷ ns) ∷ b.parts.literal_lists)) vs
    → Means part.Notes b (annotation note_of.FieldList ∷ paren_open ∷ number n ∷ (us ++ paren_close ∷ vs))
    (record b { parts = record b.parts { notes = extended_by xs (extended (note.FieldList (n ∷ ns) ∷ []) b.parts.notes) } })
one_list b n ns us vs xs f h = (
  note.FieldList (n ∷ ns) ∷ xs,
  (
    list_tokens n ns us vs f ∙ ap (λ l. written_note (note.FieldList (n ∷ ns)) ++ l) h.0,
    h.1,
    once_more (note.FieldList (n ∷ ns)) xs b.parts.notes (list_behind (newest_notes b) (n ∷ ns)) h.2,
  ),
  refl,
)

more_list : (b : Built) (n : Literal16) (ns : List Literal16) (us vs : List Seen16) (xs : List Note) (ls : List (List Literal16)) → (n ∷ ns) ∷ b.parts.literal_lists ≡ ls → us ≡ after_commas written_number ns → PartSpells part.Notes xs (list_built b ls) vs
    → Means part.Notes b (annotation note_of.FieldList ∷ paren_open ∷ number n ∷ (us ++ paren_close ∷ vs))
    (record b { parts = record b.parts { literal_lists = older ls; notes = extended_by xs (extended (note.FieldList (newest [] ls) ∷ []) b.parts.notes) } })
more_list b n ns us vs xs ls e f =
    subst (λ ks. PartSpells part.Notes xs (list_built b ks) vs → Means part.Notes b (annotation note_of.FieldList ∷ paren_open ∷ number n ∷ (us ++ paren_close ∷ vs)) (record b { parts = record b.parts { literal_lists = older ks; notes = extended_by xs (extended (note.FieldList (newest [] ks) ∷ []) b.parts.notes) } }))
    e (one_list b n ns us vs xs f)

type_rows : (b : Built) → Rows part.TypeOf b
type_rows b = (
  by_name _ (λ text us n h. (kind.Named text n, ap (λ l. id text ∷ l) h, refl)),
  (by_number _ (λ n. (kind.Bit n, refl, refl)), ((kind.Bool, refl, refl), tt)),
)

first_rows : (b : Built) → Rows part.FirstNote b
first_rows b = (
  by_string _ (λ text. (note.Name text, (refl, refl), refl)),
  (by_number _ (λ n us ns h. first_list b n us ns h), tt),
)

notes_rows : (b : Built) → Rows part.Notes b
notes_rows b = (
  by_test (annotation note_of.Name) (classes.is_note note_of.Name) (not (list_any is_name_note (newest_notes b))) _ (is_note_only note_of.Name) (λ new. by_string _ (λ text us ns h. (
    note.Name text ∷ ns,
    (
      ap (λ l. annotation note_of.Name ∷ paren_open ∷ string text ∷ paren_close ∷ l) h.0,
      h.1,
      once_more (note.Name text) ns b.parts.notes (λ e. name_behind (newest_notes b) text (not_true (list_any is_name_note (newest_notes b)) new)) h.2,
    ),
    refl,
  ))),
  (
    by_number _ (λ n us ns h vs xs k. more_list b n ns us vs xs (extended_by ns ((n ∷ []) ∷ b.parts.literal_lists)) (sym (extended_by_list ns (n ∷ []) b.parts.literal_lists)) h k),
    tt,
  ),
)

-- parameters

more_params : (t : Type16) (text : List ℕ) (us vs : List Seen16) (ps : List Param) → us ≡ written_type t → vs ≡ after_commas written_param ps → us ++ id text ∷ vs ≡ (written_type t ++ id text ∷ []) ++ after_commas written_param ps
more_params t text us vs ps f g = ap₂ (λ l m. l ++ id text ∷ m) f g ∙ sym (append_assoc (written_type t) (id text ∷ []) (after_commas written_param ps))

param_rows : (b : Built) → Rows part.Param b
param_rows b = (
  λ us t h. by_name _ (λ text. (record { direction = Some direction.In; of = t; name = text }, ap (λ l. quoted key.In ∷ (l ++ id text ∷ [])) h, refl)),
  (
    λ us t h. by_name _ (λ text. (record { direction = Some direction.Out; of = t; name = text }, ap (λ l. quoted key.Out ∷ (l ++ id text ∷ [])) h, refl)),
    (
      λ us t h. by_name _ (λ text. (record { direction = Some direction.InOut; of = t; name = text }, ap (λ l. quoted key.InOut ∷ (l ++ id text ∷ [])) h, refl)),
      (λ us t h. by_name _ (λ text. (record { direction = None; of = t; name = text }, ap (λ l. l ++ id text ∷ []) h, refl)), tt),
    ),
  ),
)

params_rows : (b : Built) → Rows part.Params b
params_rows b = (
  λ us t h. by_name _ (λ text vs ps k. (record { direction = Some direction.In; of = t; name = text } ∷ ps, ap (λ l. quoted key.In ∷ l) (more_params t text us vs ps h k), refl)),
  (
    λ us t h. by_name _ (λ text vs ps k. (record { direction = Some direction.Out; of = t; name = text } ∷ ps, ap (λ l. quoted key.Out ∷ l) (more_params t text us vs ps h k), refl)),
    (
      λ us t h. by_name _ (λ text vs ps k. (record { direction = Some direction.InOut; of = t; name = text } ∷ ps, ap (λ l. quoted key.InOut ∷ l) (more_params t text us vs ps h k), refl)),
      (λ us t h. by_name _ (λ text vs ps k. (record { direction = None; of = t; name = text } ∷ ps, more_params t text us vs ps h k, refl)), tt),
    ),
  ),
)

-- members

member_rows : (b : Built) → Rows part.Member b
member_rows b = (
  λ us m h. (member_of.HashAlgorithm m, ap (λ l. id (enumeration_text (member_of.HashAlgorithm m)) ∷ dot ∷ l) h, refl),
  (
    λ us m h. (member_of.CounterType m, ap (λ l. id (enumeration_text (member_of.CounterType m)) ∷ dot ∷ l) h, refl),
    (
      λ us m h. (member_of.MeterType m, ap (λ l. id (enumeration_text (member_of.MeterType m)) ∷ dot ∷ l) h, refl),
      (λ us m h. (member_of.CloneType m, ap (λ l. id (enumeration_text (member_of.CloneType m)) ∷ dot ∷ l) h, refl), tt),
    ),
  ),
)

-- all of them

pub rows_mean : (w : PartWord) (b : Built) → Rows w b
rows_mean part.TypeOf b = type_rows b
rows_mean part.SizeOption b = (by_number _ (λ n. (Some n, refl, refl)), tt)
rows_mean part.FirstNote b = first_rows b
rows_mean part.Notes b = notes_rows b
rows_mean part.MoreNumbers b = (by_number _ (λ n us ns h. (n ∷ ns, ap (λ l. comma ∷ number n ∷ l) h, refl)), tt)
rows_mean part.Param b = param_rows b
rows_mean part.Params b = params_rows b
rows_mean part.MoreParams b = (λ us p h vs ps k. (p ∷ ps, ap₂ (λ l m. comma ∷ (l ++ m)) h k, refl), tt)
rows_mean part.Member b = member_rows b
rows_mean part.HashMember b = ((hash.Csum16, refl, refl), ((hash.Crc16, refl, refl), ((hash.Crc32, refl, refl), ((hash.Identity, refl, refl), tt))))
rows_mean part.CounterMember b = ((counter.Packets, refl, refl), ((counter.Bytes, refl, refl), ((counter.PacketsAndBytes, refl, refl), tt)))
rows_mean part.MeterMember b = ((meter.Packets, refl, refl), ((meter.Bytes, refl, refl), tt))
rows_mean part.CloneMember b = ((clone.I2E, refl, refl), ((clone.E2E, refl, refl), tt))

pub none_means : (w : PartWord) (b : Built) → NoneShows grammar16 fixed16 meaning16 (word.Part w) b (grammar16.otherwise (word.Part w))
none_means part.TypeOf b = tt
none_means part.SizeOption b = (None, refl, refl)
none_means part.FirstNote b = tt
none_means part.Notes b = ([], (refl, refl, λ h. subst (λ ns. is_named_once ns ≡ true) (sym (append-nil (newest_notes b))) h), refl)
none_means part.MoreNumbers b = ([], refl, refl)
none_means part.Param b = tt
none_means part.Params b = ([], refl, refl)
none_means part.MoreParams b = ([], refl, refl)
none_means part.Member b = tt
none_means part.HashMember b = tt
none_means part.CounterMember b = tt
none_means part.MeterMember b = tt
none_means part.CloneMember b = tt
