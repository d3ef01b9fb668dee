-- Counters, meters and registers: what is written so is read.
use Rattle.std.proofs.Common.{◌≡◌, true, false, not, List, [], ◌∷◌, ◌++◌, map, refl, sym, ap, append_assoc}
use Rattle.std.specs.List.{flat_map}
use Rattle.predictive_parser.specs.Grammar.{◌⇒◌}
use Rattle.p414_syntax.specs.declared.lexeme.Lexeme.{Lexeme}
use Rattle.p414_syntax.specs.declared.lexeme.Lexeme.TheVariants as lexeme
use Rattle.p414_syntax.specs.declared.objects.CounterType.{CounterType}
use Rattle.p414_syntax.specs.declared.objects.CounterType.TheVariants as counter_type
use Rattle.p414_syntax.specs.declared.objects.StateAttr.{StateAttr}
use Rattle.p414_syntax.specs.declared.objects.StateAttr.TheVariants as attr
use Rattle.p414_syntax.specs.Words.{name, keyword, semicolon, colon}
use Rattle.p414_syntax.specs.Written.{written_ref, written_counter_type, state_word, written_state_attr}
use Rattle.p414_syntax.specs.Conditions.{is_among, all_different, has_word, counter_needs, register_needs}
use Rattle.p414_syntax.specs.declared.keyword.Keyword.TheVariants as key
use Rattle.p414_reader.specs.declared.symbols.Class.TheVariants as class
use Rattle.p414_reader.specs.declared.symbols.Word.TheVariants as word
use Rattle.p414_reader.specs.declared.symbols.ObjectWord.TheVariants as object
use Rattle.p414_reader.specs.declared.built.Built.{Built}
use Rattle.p414_reader.specs.internal.Actions.{with_state_attr}
use Rattle.p414_reader.specs.internal.Rows.{Sym, Rows, object_sym, type_rest, width_rest, layout_rest}
use Rattle.p414_reader.proofs.Meaning.{after_word, object_words, object_needs}
use Rattle.p414_reader.proofs.Readings.{Goes, Calm, Reads, ◌▷◌, reads, does, from, skips, first_of, takes_row, like_row, like_end, is_new_text, next_words}
use Rattle.p414_reader.proofs.Complete.Parts.{reads_ref}

pub reads_counter_type : (t : CounterType) → Reads (word.Object object.CounterType) t (written_counter_type t ++ semicolon ∷ [])
reads_counter_type counter_type.Packets symbols b rest = reads (keyword key.Packets ∷ semicolon ∷ []) refl ▷ does
reads_counter_type counter_type.Bytes symbols b rest = reads (keyword key.Bytes ∷ semicolon ∷ []) refl ▷ does
reads_counter_type counter_type.PacketsAndBytes symbols b rest = reads (keyword key.PacketsAndBytes ∷ semicolon ∷ []) refl ▷ does

-- attributes

-- an attribute that is needed nowhere
pub reads_state_attr : (a : StateAttr) → is_among (state_word a) object_needs ≡ false → (symbols : List Sym) (b : Built) (rest : List Lexeme) → is_among (state_word a) (object_words b) ≡ false
    → Goes (object_sym object.Attr ∷ symbols) b (written_state_attr a ++ rest) symbols (after_word (word.Object object.Attr) a b) rest
reads_state_attr (attr.Counts t) n symbols b rest h = cc
reads_state_attr (attr.Direct t) n symbols b rest h =
    takes_row (word.Object object.Attr) (class.NewStateAttr key.Direct) _ _ symbols b (keyword key.Direct) (colon ∷ name t ∷ semicolon ∷ rest) (ap not h) refl
    ▷ reads (colon ∷ name t ∷ semicolon ∷ []) refl ▷ does
reads_state_attr (attr.Static t) n symbols b rest h =
    takes_row (word.Object object.Attr) (class.NewStateAttr key.Static) _ _ symbols b (keyword key.Static) (colon ∷ name t ∷ semicolon ∷ rest) (ap not h) refl
    ▷ reads (colon ∷ name t ∷ semicolon ∷ []) refl ▷ does
reads_state_attr (attr.Layout t) n symbols b rest h = cc
reads_state_attr (attr.Result r) n symbols b rest h =
    from (written_state_attr (attr.Result r) ++ rest) (ap (λ ts. keyword key.Result ∷ colon ∷ ts) (append_assoc (written_ref r) (semicolon ∷ []) rest))
    (takes_row (word.Object object.Attr) (class.NewStateAttr key.Result) _ _ symbols b (keyword key.Result) (colon ∷ (written_ref r ++ semicolon ∷ rest)) (ap not h) refl
    ▷ reads (colon ∷ []) refl ▷ reads_ref r _ _ (semicolon ∷ rest) ▷ reads (semicolon ∷ []) refl ▷ does)
reads_state_attr (attr.InstanceCount m) n symbols b rest h =
    takes_row (word.Object object.Attr) (class.NewStateAttr key.InstanceCount) _ _ symbols b (keyword key.InstanceCount) (colon ∷ lexeme.Number m ∷ semicolon ∷ rest) (ap not h) refl
    ▷ reads (colon ∷ lexeme.Number m ∷ semicolon ∷ []) refl ▷ does
reads_state_attr (attr.Width m) n symbols b rest h = cc
reads_state_attr (attr.MinWidth m) n symbols b rest h =
    takes_row (word.Object object.Attr) (class.NewStateAttr key.MinWidth) _ _ symbols b (keyword key.MinWidth) (colon ∷ lexeme.Number m ∷ semicolon ∷ rest) (ap not h) refl
    ▷ reads (colon ∷ lexeme.Number m ∷ semicolon ∷ []) refl ▷ does
reads_state_attr attr.Saturating n symbols b rest h =
    takes_row (word.Object object.Attr) (class.NewStateAttr key.Saturating) _ _ symbols b (keyword key.Saturating) (semicolon ∷ rest) (ap not h) refl
    ▷ reads (semicolon ∷ []) refl ▷ does
reads_state_attr attr.Signed n symbols b rest h =
    takes_row (word.Object object.Attr) (class.NewStateAttr key.Signed) _ _ symbols b (keyword key.Signed) (semicolon ∷ rest) (ap not h) refl
    ▷ reads (semicolon ∷ []) refl ▷ does

-- the rows for the attributes that are needed somewhere
abbrev more_rows : Rows
more_rows =
    (class.NewStateAttr key.Counts ⇒ type_rest ++ object_sym object.MoreAttrs ∷ [])
    ∷ (class.NewStateAttr key.Width ⇒ width_rest ++ object_sym object.MoreAttrs ∷ [])
    ∷ (class.NewStateAttr key.Layout ⇒ layout_rest ++ object_sym object.MoreAttrs ∷ [])
    ∷ []

-- the next attribute is read as any attribute
like_more : (a : StateAttr) → is_among (state_word a) object_needs ≡ false → (symbols : List Sym) (b : Built) (tokens : List Lexeme) → is_among (state_word a) (object_words b) ≡ false
    → Goes (object_sym object.MoreAttrs ∷ symbols) b (name (state_word a) ∷ tokens) (object_sym object.Attr ∷ object_sym object.MoreAttrs ∷ symbols) b (name (state_word a) ∷ tokens)
like_more (attr.Direct t) n symbols b tokens h = like_row (word.Object object.MoreAttrs) (word.Object object.Attr) more_rows _ symbols b (keyword key.Direct) tokens (class.NewStateAttr key.Direct) _ _ refl refl refl (ap not h) refl
like_more (attr.Static t) n symbols b tokens h = like_row (word.Object object.MoreAttrs) (word.Object object.Attr) more_rows _ symbols b (keyword key.Static) tokens (class.NewStateAttr key.Static) _ _ refl refl refl (ap not h) refl
like_more (attr.Result r) n symbols b tokens h = like_row (word.Object object.MoreAttrs) (word.Object object.Attr) more_rows _ symbols b (keyword key.Result) tokens (class.NewStateAttr key.Result) _ _ refl refl refl (ap not h) refl
like_more (attr.InstanceCount m) n symbols b tokens h = like_row (word.Object object.MoreAttrs) (word.Object object.Attr) more_rows _ symbols b (keyword key.InstanceCount) tokens (class.NewStateAttr key.InstanceCount) _ _ refl refl refl (ap not h) refl
like_more (attr.MinWidth m) n symbols b tokens h = like_row (word.Object object.MoreAttrs) (word.Object object.Attr) more_rows _ symbols b (keyword key.MinWidth) tokens (class.NewStateAttr key.MinWidth) _ _ refl refl refl (ap not h) refl
like_more attr.Saturating n symbols b tokens h = like_row (word.Object object.MoreAttrs) (word.Object object.Attr) more_rows _ symbols b (keyword key.Saturating) tokens (class.NewStateAttr key.Saturating) _ _ refl refl refl (ap not h) refl
like_more attr.Signed n symbols b tokens h = like_row (word.Object object.MoreAttrs) (word.Object object.Attr) more_rows _ symbols b (keyword key.Signed) tokens (class.NewStateAttr key.Signed) _ _ refl refl refl (ap not h) refl
like_more (attr.Counts t) n symbols b tokens h = cc
like_more (attr.Layout t) n symbols b tokens h = cc
like_more (attr.Width m) n symbols b tokens h = cc

next_attr : (a : StateAttr) (symbols : List Sym) (b : Built) (rest : List Lexeme) → is_among (state_word a) (object_words b) ≡ false
    → Goes (object_sym object.MoreAttrs ∷ symbols) b (written_state_attr a ++ rest) (object_sym object.MoreAttrs ∷ symbols) (with_state_attr a b) rest
next_attr (attr.Direct t) symbols b rest h = like_more (attr.Direct t) refl symbols b _ h ▷ reads_state_attr (attr.Direct t) refl _ b rest h
next_attr (attr.Static t) symbols b rest h = like_more (attr.Static t) refl symbols b _ h ▷ reads_state_attr (attr.Static t) refl _ b rest h
next_attr (attr.Result r) symbols b rest h = like_more (attr.Result r) refl symbols b _ h ▷ reads_state_attr (attr.Result r) refl _ b rest h
next_attr (attr.InstanceCount m) symbols b rest h = like_more (attr.InstanceCount m) refl symbols b _ h ▷ reads_state_attr (attr.InstanceCount m) refl _ b rest h
next_attr (attr.MinWidth m) symbols b rest h = like_more (attr.MinWidth m) refl symbols b _ h ▷ reads_state_attr (attr.MinWidth m) refl _ b rest h
next_attr attr.Saturating symbols b rest h = like_more attr.Saturating refl symbols b _ h ▷ reads_state_attr attr.Saturating refl _ b rest h
next_attr attr.Signed symbols b rest h = like_more attr.Signed refl symbols b _ h ▷ reads_state_attr attr.Signed refl _ b rest h
next_attr (attr.Counts t) symbols b rest h =
    from (written_state_attr (attr.Counts t) ++ rest) (ap (λ ts. keyword key.Counts ∷ colon ∷ ts) (append_assoc (written_counter_type t) (semicolon ∷ []) rest))
    (takes_row (word.Object object.MoreAttrs) (class.NewStateAttr key.Counts) _ _ symbols b (keyword key.Counts) (colon ∷ (written_counter_type t ++ semicolon ∷ rest)) (ap not h) refl
    ▷ reads (colon ∷ []) refl ▷ from (written_counter_type t ++ semicolon ∷ rest) (sym (append_assoc (written_counter_type t) (semicolon ∷ []) rest)) (reads_counter_type t (object_sym object.MoreAttrs ∷ symbols) b rest))
next_attr (attr.Layout t) symbols b rest h =
    takes_row (word.Object object.MoreAttrs) (class.NewStateAttr key.Layout) _ _ symbols b (keyword key.Layout) (colon ∷ name t ∷ semicolon ∷ rest) (ap not h) refl
    ▷ reads (colon ∷ name t ∷ semicolon ∷ []) refl ▷ does
next_attr (attr.Width m) symbols b rest h =
    takes_row (word.Object object.MoreAttrs) (class.NewStateAttr key.Width) _ _ symbols b (keyword key.Width) (colon ∷ lexeme.Number m ∷ semicolon ∷ rest) (ap not h) refl
    ▷ reads (colon ∷ lexeme.Number m ∷ semicolon ∷ []) refl ▷ does

pub reads_more_attrs : (attrs : List StateAttr) (symbols : List Sym) (b : Built) (rest : List Lexeme)
    → all_different (object_words b ++ map state_word attrs) ≡ true → Calm (word.Object object.MoreAttrs) rest
    → Goes (object_sym object.MoreAttrs ∷ symbols) b (flat_map written_state_attr attrs ++ rest) symbols (after_word (word.Object object.MoreAttrs) attrs b) rest
reads_more_attrs [] symbols b rest d c = skips (word.Object object.MoreAttrs) symbols b rest refl refl c
reads_more_attrs (a ∷ attrs) symbols b rest d c =
    from (flat_map written_state_attr (a ∷ attrs) ++ rest) (first_of written_state_attr a attrs rest)
    (next_attr a symbols b (flat_map written_state_attr attrs ++ rest) (is_new_text (object_words b) (state_word a) (map state_word attrs) d)
    ▷ reads_more_attrs attrs symbols _ rest (next_words state_word a attrs b.objects d) c)

-- of a counter

abbrev counter_rows : Rows
counter_rows =
    (class.Word key.Counts ⇒ type_rest ++ object_sym object.MoreAttrs ∷ [])
    ∷ (class.NewStateAttr key.Width ⇒ width_rest ++ object_sym object.CounterAttrs ∷ [])
    ∷ (class.NewStateAttr key.Layout ⇒ layout_rest ++ object_sym object.CounterAttrs ∷ [])
    ∷ []

like_counter : (a : StateAttr) → is_among (state_word a) object_needs ≡ false → (symbols : List Sym) (b : Built) (tokens : List Lexeme)
    → Goes (object_sym object.CounterAttrs ∷ symbols) b (name (state_word a) ∷ tokens) (object_sym object.Attr ∷ object_sym object.CounterAttrs ∷ symbols) b (name (state_word a) ∷ tokens)
like_counter (attr.Direct t) n symbols b tokens = like_end (word.Object object.CounterAttrs) (word.Object object.Attr) counter_rows _ symbols b (keyword key.Direct) tokens refl refl refl refl refl
like_counter (attr.Static t) n symbols b tokens = like_end (word.Object object.CounterAttrs) (word.Object object.Attr) counter_rows _ symbols b (keyword key.Static) tokens refl refl refl refl refl
like_counter (attr.Result r) n symbols b tokens = like_end (word.Object object.CounterAttrs) (word.Object object.Attr) counter_rows _ symbols b (keyword key.Result) tokens refl refl refl refl refl
like_counter (attr.InstanceCount m) n symbols b tokens = like_end (word.Object object.CounterAttrs) (word.Object object.Attr) counter_rows _ symbols b (keyword key.InstanceCount) tokens refl refl refl refl refl
like_counter (attr.MinWidth m) n symbols b tokens = like_end (word.Object object.CounterAttrs) (word.Object object.Attr) counter_rows _ symbols b (keyword key.MinWidth) tokens refl refl refl refl refl
like_counter attr.Saturating n symbols b tokens = like_end (word.Object object.CounterAttrs) (word.Object object.Attr) counter_rows _ symbols b (keyword key.Saturating) tokens refl refl refl refl refl
like_counter attr.Signed n symbols b tokens = like_end (word.Object object.CounterAttrs) (word.Object object.Attr) counter_rows _ symbols b (keyword key.Signed) tokens refl refl refl refl refl
like_counter (attr.Counts t) n symbols b tokens = cc
like_counter (attr.Layout t) n symbols b tokens = cc
like_counter (attr.Width m) n symbols b tokens = cc

other_of_counter : (a : StateAttr) → is_among (state_word a) counter_needs ≡ false → (symbols : List Sym) (b : Built) (rest : List Lexeme) → is_among (state_word a) (object_words b) ≡ false
    → Goes (object_sym object.CounterAttrs ∷ symbols) b (written_state_attr a ++ rest) (object_sym object.CounterAttrs ∷ symbols) (with_state_attr a b) rest
other_of_counter (attr.Direct t) n symbols b rest h = like_counter (attr.Direct t) refl symbols b _ ▷ reads_state_attr (attr.Direct t) refl _ b rest h
other_of_counter (attr.Static t) n symbols b rest h = like_counter (attr.Static t) refl symbols b _ ▷ reads_state_attr (attr.Static t) refl _ b rest h
other_of_counter (attr.Result r) n symbols b rest h = like_counter (attr.Result r) refl symbols b _ ▷ reads_state_attr (attr.Result r) refl _ b rest h
other_of_counter (attr.InstanceCount m) n symbols b rest h = like_counter (attr.InstanceCount m) refl symbols b _ ▷ reads_state_attr (attr.InstanceCount m) refl _ b rest h
other_of_counter (attr.MinWidth m) n symbols b rest h = like_counter (attr.MinWidth m) refl symbols b _ ▷ reads_state_attr (attr.MinWidth m) refl _ b rest h
other_of_counter attr.Saturating n symbols b rest h = like_counter attr.Saturating refl symbols b _ ▷ reads_state_attr attr.Saturating refl _ b rest h
other_of_counter attr.Signed n symbols b rest h = like_counter attr.Signed refl symbols b _ ▷ reads_state_attr attr.Signed refl _ b rest h
other_of_counter (attr.Layout t) n symbols b rest h =
    takes_row (word.Object object.CounterAttrs) (class.NewStateAttr key.Layout) _ _ symbols b (keyword key.Layout) (colon ∷ name t ∷ semicolon ∷ rest) (ap not h) refl
    ▷ reads (colon ∷ name t ∷ semicolon ∷ []) refl ▷ does
other_of_counter (attr.Width m) n symbols b rest h =
    takes_row (word.Object object.CounterAttrs) (class.NewStateAttr key.Width) _ _ symbols b (keyword key.Width) (colon ∷ lexeme.Number m ∷ semicolon ∷ rest) (ap not h) refl
    ▷ reads (colon ∷ lexeme.Number m ∷ semicolon ∷ []) refl ▷ does
other_of_counter (attr.Counts t) n symbols b rest h = cc

abbrev ReadsCounterAttrs : List StateAttr → Type 0
ReadsCounterAttrs attrs =
    (symbols : List Sym) (b : Built) (rest : List Lexeme) → all_different (object_words b ++ map state_word attrs) ≡ true → Calm (word.Object object.CounterAttrs) rest
    → Goes (object_sym object.CounterAttrs ∷ symbols) b (flat_map written_state_attr attrs ++ rest) symbols (after_word (word.Object object.CounterAttrs) attrs b) rest

behind_other_counter : (a : StateAttr) (attrs : List StateAttr) → is_among (state_word a) counter_needs ≡ false → ReadsCounterAttrs attrs → ReadsCounterAttrs (a ∷ attrs)
behind_other_counter a attrs n f symbols b rest d c =
    from (flat_map written_state_attr (a ∷ attrs) ++ rest) (first_of written_state_attr a attrs rest)
    (other_of_counter a n symbols b (flat_map written_state_attr attrs ++ rest) (is_new_text (object_words b) (state_word a) (map state_word attrs) d)
    ▷ f symbols (with_state_attr a b) rest (next_words state_word a attrs b.objects d) c)

pub reads_counter_attrs : (attrs : List StateAttr) → has_word counter_needs (map state_word attrs) ≡ true → ReadsCounterAttrs attrs
reads_counter_attrs [] n = λ symbols b rest d c. cc
reads_counter_attrs (attr.Direct t ∷ attrs) n = behind_other_counter (attr.Direct t) attrs refl (reads_counter_attrs attrs n)
reads_counter_attrs (attr.Static t ∷ attrs) n = behind_other_counter (attr.Static t) attrs refl (reads_counter_attrs attrs n)
reads_counter_attrs (attr.Result r ∷ attrs) n = behind_other_counter (attr.Result r) attrs refl (reads_counter_attrs attrs n)
reads_counter_attrs (attr.InstanceCount m ∷ attrs) n = behind_other_counter (attr.InstanceCount m) attrs refl (reads_counter_attrs attrs n)
reads_counter_attrs (attr.MinWidth m ∷ attrs) n = behind_other_counter (attr.MinWidth m) attrs refl (reads_counter_attrs attrs n)
reads_counter_attrs (attr.Saturating ∷ attrs) n = behind_other_counter attr.Saturating attrs refl (reads_counter_attrs attrs n)
reads_counter_attrs (attr.Signed ∷ attrs) n = behind_other_counter attr.Signed attrs refl (reads_counter_attrs attrs n)
reads_counter_attrs (attr.Layout t ∷ attrs) n = behind_other_counter (attr.Layout t) attrs refl (reads_counter_attrs attrs n)
reads_counter_attrs (attr.Width m ∷ attrs) n = behind_other_counter (attr.Width m) attrs refl (reads_counter_attrs attrs n)
reads_counter_attrs (attr.Counts t ∷ attrs) n = λ symbols b rest d c.
    from (flat_map written_state_attr (attr.Counts t ∷ attrs) ++ rest) (first_of written_state_attr (attr.Counts t) attrs rest)
    (reads (keyword key.Counts ∷ colon ∷ []) refl ▷ reads_counter_type t _ b (flat_map written_state_attr attrs ++ rest)
    ▷ reads_more_attrs attrs symbols _ rest (next_words state_word (attr.Counts t) attrs b.objects d) c)

-- of a register

abbrev register_rows : Rows
register_rows =
    (class.Word key.Width ⇒ width_rest ++ object_sym object.MoreAttrs ∷ [])
    ∷ (class.Word key.Layout ⇒ layout_rest ++ object_sym object.MoreAttrs ∷ [])
    ∷ (class.NewStateAttr key.Counts ⇒ type_rest ++ object_sym object.RegisterAttrs ∷ [])
    ∷ []

like_register : (a : StateAttr) → is_among (state_word a) object_needs ≡ false → (symbols : List Sym) (b : Built) (tokens : List Lexeme)
    → Goes (object_sym object.RegisterAttrs ∷ symbols) b (name (state_word a) ∷ tokens) (object_sym object.Attr ∷ object_sym object.RegisterAttrs ∷ symbols) b (name (state_word a) ∷ tokens)
like_register (attr.Direct t) n symbols b tokens = like_end (word.Object object.RegisterAttrs) (word.Object object.Attr) register_rows _ symbols b (keyword key.Direct) tokens refl refl refl refl refl
like_register (attr.Static t) n symbols b tokens = like_end (word.Object object.RegisterAttrs) (word.Object object.Attr) register_rows _ symbols b (keyword key.Static) tokens refl refl refl refl refl
like_register (attr.Result r) n symbols b tokens = like_end (word.Object object.RegisterAttrs) (word.Object object.Attr) register_rows _ symbols b (keyword key.Result) tokens refl refl refl refl refl
like_register (attr.InstanceCount m) n symbols b tokens = like_end (word.Object object.RegisterAttrs) (word.Object object.Attr) register_rows _ symbols b (keyword key.InstanceCount) tokens refl refl refl refl refl
like_register (attr.MinWidth m) n symbols b tokens = like_end (word.Object object.RegisterAttrs) (word.Object object.Attr) register_rows _ symbols b (keyword key.MinWidth) tokens refl refl refl refl refl
like_register attr.Saturating n symbols b tokens = like_end (word.Object object.RegisterAttrs) (word.Object object.Attr) register_rows _ symbols b (keyword key.Saturating) tokens refl refl refl refl refl
like_register attr.Signed n symbols b tokens = like_end (word.Object object.RegisterAttrs) (word.Object object.Attr) register_rows _ symbols b (keyword key.Signed) tokens refl refl refl refl refl
like_register (attr.Counts t) n symbols b tokens = cc
like_register (attr.Layout t) n symbols b tokens = cc
like_register (attr.Width m) n symbols b tokens = cc

other_of_register : (a : StateAttr) → is_among (state_word a) register_needs ≡ false → (symbols : List Sym) (b : Built) (rest : List Lexeme) → is_among (state_word a) (object_words b) ≡ false
    → Goes (object_sym object.RegisterAttrs ∷ symbols) b (written_state_attr a ++ rest) (object_sym object.RegisterAttrs ∷ symbols) (with_state_attr a b) rest
other_of_register (attr.Direct t) n symbols b rest h = like_register (attr.Direct t) refl symbols b _ ▷ reads_state_attr (attr.Direct t) refl _ b rest h
other_of_register (attr.Static t) n symbols b rest h = like_register (attr.Static t) refl symbols b _ ▷ reads_state_attr (attr.Static t) refl _ b rest h
other_of_register (attr.Result r) n symbols b rest h = like_register (attr.Result r) refl symbols b _ ▷ reads_state_attr (attr.Result r) refl _ b rest h
other_of_register (attr.InstanceCount m) n symbols b rest h = like_register (attr.InstanceCount m) refl symbols b _ ▷ reads_state_attr (attr.InstanceCount m) refl _ b rest h
other_of_register (attr.MinWidth m) n symbols b rest h = like_register (attr.MinWidth m) refl symbols b _ ▷ reads_state_attr (attr.MinWidth m) refl _ b rest h
other_of_register attr.Saturating n symbols b rest h = like_register attr.Saturating refl symbols b _ ▷ reads_state_attr attr.Saturating refl _ b rest h
other_of_register attr.Signed n symbols b rest h = like_register attr.Signed refl symbols b _ ▷ reads_state_attr attr.Signed refl _ b rest h
other_of_register (attr.Counts t) n symbols b rest h =
    from (written_state_attr (attr.Counts t) ++ rest) (ap (λ ts. keyword key.Counts ∷ colon ∷ ts) (append_assoc (written_counter_type t) (semicolon ∷ []) rest))
    (takes_row (word.Object object.RegisterAttrs) (class.NewStateAttr key.Counts) _ _ symbols b (keyword key.Counts) (colon ∷ (written_counter_type t ++ semicolon ∷ rest)) (ap not h) refl
    ▷ reads (colon ∷ []) refl ▷ from (written_counter_type t ++ semicolon ∷ rest) (sym (append_assoc (written_counter_type t) (semicolon ∷ []) rest)) (reads_counter_type t (object_sym object.RegisterAttrs ∷ symbols) b rest))
other_of_register (attr.Layout t) n symbols b rest h = cc
other_of_register (attr.Width m) n symbols b rest h = cc

abbrev ReadsRegisterAttrs : List StateAttr → Type 0
ReadsRegisterAttrs attrs =
    (symbols : List Sym) (b : Built) (rest : List Lexeme) → all_different (object_words b ++ map state_word attrs) ≡ true → Calm (word.Object object.RegisterAttrs) rest
    → Goes (object_sym object.RegisterAttrs ∷ symbols) b (flat_map written_state_attr attrs ++ rest) symbols (after_word (word.Object object.RegisterAttrs) attrs b) rest

behind_other_register : (a : StateAttr) (attrs : List StateAttr) → is_among (state_word a) register_needs ≡ false → ReadsRegisterAttrs attrs → ReadsRegisterAttrs (a ∷ attrs)
behind_other_register a attrs n f symbols b rest d c =
    from (flat_map written_state_attr (a ∷ attrs) ++ rest) (first_of written_state_attr a attrs rest)
    (other_of_register a n symbols b (flat_map written_state_attr attrs ++ rest) (is_new_text (object_words b) (state_word a) (map state_word attrs) d)
    ▷ f symbols (with_state_attr a b) rest (next_words state_word a attrs b.objects d) c)

pub reads_register_attrs : (attrs : List StateAttr) → has_word register_needs (map state_word attrs) ≡ true → ReadsRegisterAttrs attrs
reads_register_attrs [] n = λ symbols b rest d c. cc
reads_register_attrs (attr.Direct t ∷ attrs) n = behind_other_register (attr.Direct t) attrs refl (reads_register_attrs attrs n)
reads_register_attrs (attr.Static t ∷ attrs) n = behind_other_register (attr.Static t) attrs refl (reads_register_attrs attrs n)
reads_register_attrs (attr.Result r ∷ attrs) n = behind_other_register (attr.Result r) attrs refl (reads_register_attrs attrs n)
reads_register_attrs (attr.InstanceCount m ∷ attrs) n = behind_other_register (attr.InstanceCount m) attrs refl (reads_register_attrs attrs n)
reads_register_attrs (attr.MinWidth m ∷ attrs) n = behind_other_register (attr.MinWidth m) attrs refl (reads_register_attrs attrs n)
reads_register_attrs (attr.Saturating ∷ attrs) n = behind_other_register attr.Saturating attrs refl (reads_register_attrs attrs n)
reads_register_attrs (attr.Signed ∷ attrs) n = behind_other_register attr.Signed attrs refl (reads_register_attrs attrs n)
reads_register_attrs (attr.Counts t ∷ attrs) n = behind_other_register (attr.Counts t) attrs refl (reads_register_attrs attrs n)
reads_register_attrs (attr.Layout t ∷ attrs) n = λ symbols b rest d c.
    reads (keyword key.Layout ∷ colon ∷ name t ∷ semicolon ∷ []) refl ▷ does
    ▷ reads_more_attrs attrs symbols _ rest (next_words state_word (attr.Layout t) attrs b.objects d) c
reads_register_attrs (attr.Width m ∷ attrs) n = λ symbols b rest d c.
    reads (keyword key.Width ∷ colon ∷ lexeme.Number m ∷ semicolon ∷ []) refl ▷ does
    ▷ reads_more_attrs attrs symbols _ rest (next_words state_word (attr.Width m) attrs b.objects d) c
