-- That the rows of controls have the meaning of their words.
use Rattle.std.proofs.Common.{◌≡◌, ℕ, Bool, true, false, not, ◌&&◌, ◌||◌, List, [], ◌∷◌, ◌++◌, map, refl, sym, ap, ap₂, subst, ◌∙◌, append_assoc, append-nil, bytes_eq}
use Rattle.std.specs.List.{flat_map, list_all}
use Rattle.predictive_parser.proofs.Meanings.{MeansWord, RowsShow, NoneShows}
use Rattle.predictive_parser.specs.Values.{newest, older, extended}
use Rattle.p416_syntax.specs.declared.keyword.Keyword16.TheVariants as key
use Rattle.p416_syntax.specs.Keywords.{keyword_text16}
use Rattle.p416_syntax.specs.declared.parts.Note.{Note}
use Rattle.p416_syntax.specs.declared.parts.Note.TheVariants as note
use Rattle.p416_syntax.specs.declared.parts.Param.{Param}
use Rattle.p416_syntax.specs.declared.parts.Member.{Member}
use Rattle.p416_syntax.specs.declared.controls.Instance.TheVariants as instance
use Rattle.p416_syntax.specs.declared.controls.Action16.{Action16}
use Rattle.p416_syntax.specs.declared.controls.ActionName.{ActionName}
use Rattle.p416_syntax.specs.declared.controls.ActionName.TheVariants as action_name
use Rattle.p416_syntax.specs.declared.controls.TableKey.{TableKey}
use Rattle.p416_syntax.specs.declared.controls.Property.{Property}
use Rattle.p416_syntax.specs.declared.controls.Property.TheVariants as property
use Rattle.p416_syntax.specs.declared.controls.Table16.{Table16}
use Rattle.p416_syntax.specs.declared.controls.Local.{Local}
use Rattle.p416_syntax.specs.declared.controls.Local.TheVariants as local
use Rattle.p416_syntax.specs.Tree.{Exp16, no_arguments, Stmt16, no_statements}
use Rattle.p416_syntax.specs.Tokens.{Seen16, id, quoted, number, comma, colon, semicolon, equals, less, greater, paren_open, paren_close, brace_open, brace_close}
use Rattle.p416_syntax.specs.Written.{by_commas, written_exp, written_stmt, written_notes, written_param, written_member, written_block, written_instance, written_action, written_action_name, written_listed_action, written_key, property_word, written_property_value, written_property, written_table, written_local}
use Rattle.p416_syntax.specs.Parentheses.{bare_stmt, bare_key, bare_property}
use Rattle.p416_syntax.specs.Conditions.{with_parentheses, is_among, all_different, is_option, is_note, is_named_once, are_notes, is_stmt, statements, is_instance, is_action, is_key, is_property, property_texts, are_properties, is_table, is_local}
use Rattle.p416_reader.specs.declared.symbols.Word.TheVariants as word
use Rattle.p416_reader.specs.declared.symbols.StateAction.TheVariants as state_act
use Rattle.p416_reader.specs.declared.symbols.ControlWord.{ControlWord}
use Rattle.p416_reader.specs.declared.symbols.ControlWord.TheVariants as control
use Rattle.p416_reader.specs.declared.symbols.ControlAction.TheVariants as act
use Rattle.p416_reader.specs.declared.built.Built.{Built}
use Rattle.p416_reader.specs.internal.Classes.{is_quoted}
use Rattle.p416_reader.specs.internal.Actions.{cleared, with_exps, with_stmt, with_property, put_state, put_control}
use Rattle.p416_reader.specs.internal.Rows.{grammar16}
use Rattle.p416_reader.proofs.Forms.{is_full, is_of, Tail, written_tail, is_tail, with_tail, arguments_of, stmts_of}
use Rattle.p416_reader.proofs.Meaning.{meaning16, after_all, with_exp, put_tail, extended_by, newest_notes, add_stmt, put_argument, StayDifferent, table_words, needed_text, bare_notes, written_noted, is_noted, ControlSpells, add_key, add_name, add_property, add_local, after_control}
use Rattle.p416_reader.proofs.Lists.{extended_by_list, all_added, both, right_true, not_true, stay_none, stay_more, stay_extended, map_one, among_one_more}
use Rattle.p416_reader.proofs.Fixed.{fixed16, by_name, by_number, by_test, is_quoted_only}
use Rattle.p416_reader.proofs.ExpressionLaws.{written_arguments, bare_arguments, are_many, arguments_built, written_stmts, stmts_are, stmts_built}
use Rattle.p416_reader.proofs.Sound.Expressions.{full_tokens, full_is, full_built}
use Rattle.p416_reader.proofs.Sound.States.{var_tokens}

abbrev pub Means : ControlWord → Built → List Seen16 → Built → Type 0
Means w b us end = MeansWord grammar16 fixed16 meaning16 (word.Control w) b us end

abbrev pub Rows : ControlWord → Built → Type 0
Rows w b = RowsShow grammar16 fixed16 meaning16 (word.Control w) b (grammar16.rows (word.Control w))

-- instances

-- `( SIZE , MEMBER ) NAME`
sized_tokens : (e : Exp16) (m : Member) (text : List ℕ) (us vs : List Seen16) → us ≡ written_exp e → vs ≡ written_member m
    → paren_open ∷ (us ++ comma ∷ (vs ++ paren_close ∷ id text ∷ [])) ≡ (paren_open ∷ ((written_exp e ++ comma ∷ written_member m) ++ paren_close ∷ [])) ++ id text ∷ []
sized_tokens e m text us vs f g =
    ap (λ l. paren_open ∷ l)
    (ap₂ (λ l r. l ++ comma ∷ (r ++ paren_close ∷ id text ∷ [])) f g
    ∙ sym (append_assoc (written_exp e) (comma ∷ written_member m) (paren_close ∷ id text ∷ []))
    ∙ sym (append_assoc (written_exp e ++ comma ∷ written_member m) (paren_close ∷ []) (id text ∷ [])))

-- `( SOMETHING ) NAME`
paren_tokens : (text : List ℕ) (us vs : List Seen16) → us ≡ vs → paren_open ∷ (us ++ paren_close ∷ id text ∷ []) ≡ (paren_open ∷ (vs ++ paren_close ∷ [])) ++ id text ∷ []
paren_tokens text us vs f = ap (λ l. paren_open ∷ l) (ap (λ l. l ++ paren_close ∷ id text ∷ []) f ∙ sym (append_assoc vs (paren_close ∷ []) (id text ∷ [])))

instance_rows : (b : Built) → Rows control.Instance b
instance_rows b = (
  λ us e h vs m k. by_name _ (λ text. (instance.Counter e m text, (ap (λ l. quoted key.Counter ∷ l) (sized_tokens e m text us vs h.0 k), h.1), refl)),
  (
    λ us m h. by_name _ (λ text. (instance.DirectCounter m text, (ap (λ l. quoted key.DirectCounter ∷ l) (paren_tokens text us (written_member m) h), refl), refl)),
    (
      by_number _ (λ n us e h. by_name _ (λ text. (
        instance.Register n e text,
        (ap (λ l. quoted key.Register ∷ less ∷ quoted key.Bit ∷ less ∷ number n ∷ greater ∷ greater ∷ l) (paren_tokens text us (written_exp e) h.0), h.1),
        refl,
      ))),
      (λ us e h vs m k. by_name _ (λ text. (instance.Meter e m text, (ap (λ l. quoted key.Meter ∷ l) (sized_tokens e m text us vs h.0 k), h.1), refl)), tt),
    ),
  ),
)

-- actions and tables, without annotations

action_tokens : (text : List ℕ) (ps : List Param) (ss : List Stmt16) (us vs : List Seen16) → us ≡ by_commas written_param ps → vs ≡ flat_map written_stmt ss
    → quoted key.Action ∷ id text ∷ paren_open ∷ (us ++ paren_close ∷ brace_open ∷ (vs ++ brace_close ∷ [])) ≡ written_action (record { notes = []; name = text; parameters = ps; body = stmts_of ss })
action_tokens text ps ss us vs f g =
    ap (λ l. quoted key.Action ∷ id text ∷ paren_open ∷ l)
    (ap₂ (λ l m. l ++ paren_close ∷ brace_open ∷ (m ++ brace_close ∷ [])) f (g ∙ sym (written_stmts ss))
    ∙ sym (append_assoc (by_commas written_param ps) (paren_close ∷ []) (written_block (stmts_of ss))))

action_rows : (b : Built) → Rows control.ActionDecl b
action_rows b = (
  by_name _ (λ text us ps h vs ss k. (
    record { notes = []; name = text; parameters = ps; body = stmts_of ss },
    (action_tokens text ps ss us vs h k.0, refl, stmts_are ss k.1),
    action_built text ps ss,
  )),
  tt,
)
  where
    action_built : (text : List ℕ) (ps : List Param) (ss : List Stmt16) → after_control control.ActionDecl (record { notes = []; name = text; parameters = ps; body = stmts_of ss }) b
        ≡ put_state state_act.TakeBlock (after_all add_stmt ss (with_stmt b.bodies.is_open b.bodies.exps (no_statements ∷ b.bodies.stmts) (record b { parts = record b.parts { names = text ∷ b.parts.names; params = extended_by ps ([] ∷ b.parts.params) } })))
    action_built text ps ss =
        sym (ap (put_state state_act.TakeBlock) (stmts_built ss b.bodies.is_open b.bodies.exps b.bodies.stmts (record b { parts = record b.parts { names = text ∷ b.parts.names; params = extended_by ps ([] ∷ b.parts.params) } }))
        ∙ ap (λ lists. record (cleared b) { parts = record b.parts { names = text ∷ b.parts.names; params = lists }; states = record b.states { blocks = bare_stmt (stmts_of ss) ∷ b.states.blocks } }) (extended_by_list ps [] b.parts.params))

-- properties

-- the word of a property is the same without parentheses
word_bare : (p : Property) → property_word (bare_property p) ≡ property_word p
word_bare (property.Key ks) = refl
word_bare (property.Actions names) = refl
word_bare (property.Size n) = refl
word_bare (property.Counters text) = refl
word_bare (property.DefaultAction a given) = refl

pub texts_bare : (ps : List Property) → property_texts (map bare_property ps) ≡ property_texts ps
texts_bare [] = refl
texts_bare (p ∷ ps) = ap₂ (λ w ws. keyword_text16 w ∷ ws) (word_bare p) (texts_bare ps)

abbrev text_of : Property → List ℕ
text_of p = keyword_text16 (property_word p)

-- with these lists of properties
abbrev properties : Built → List (List Property) → Built
properties b lists = record (cleared b) { controls = record b.controls { properties = lists } }

abbrev keys : Built → List (List TableKey) → Built
keys b lists = record (cleared b) { controls = record b.controls { keys = lists } }

keys_built : (ks : List TableKey) (b : Built) → add_property (property.Key ks) b ≡ put_control act.AddKeys (after_all add_key ks (put_control act.NoKeys b))
keys_built ks b = sym (ap (put_control act.AddKeys) (all_added add_key bare_key (keys b) (λ k lists. refl) ks [] b.controls.keys))

names_built : (names before : List ActionName) (lists : List (List ActionName)) (b : Built) → after_all add_name names (record b { controls = record b.controls { action_lists = before ∷ lists } }) ≡ record b { controls = record b.controls { action_lists = (before ++ names) ∷ lists } }
names_built [] before lists b = ap (λ l. record b { controls = record b.controls { action_lists = l ∷ lists } }) (sym (append-nil before))
names_built (a ∷ names) before lists b =
    names_built names (before ++ a ∷ []) lists b ∙ ap (λ l. record b { controls = record b.controls { action_lists = l ∷ lists } }) (append_assoc before (a ∷ []) names)

default_tokens : (a : ActionName) (es : List Exp16) (us vs : List Seen16) → us ≡ written_action_name a → vs ≡ by_commas written_exp es
    → us ++ paren_open ∷ (vs ++ paren_close ∷ semicolon ∷ []) ≡ written_property_value (property.DefaultAction a (arguments_of es))
default_tokens a es us vs f g =
    ap₂ (λ l m. l ++ paren_open ∷ m) f (ap (λ l. l ++ paren_close ∷ semicolon ∷ []) (g ∙ sym (written_arguments es)) ∙ sym (append_assoc (written_exp (arguments_of es)) (paren_close ∷ []) (semicolon ∷ [])))

default_built : (a : ActionName) (es : List Exp16) (b : Built) → add_property (property.DefaultAction a (arguments_of es)) b
    ≡ put_control act.AddDefault (after_all put_argument es (with_exps (no_arguments ∷ b.bodies.exps) (record b { controls = record b.controls { action_names = a ∷ b.controls.action_names } })))
default_built a es b =
    ap (λ x. with_property (property.DefaultAction a x) b) (bare_arguments no_arguments es)
    ∙ sym (ap (put_control act.AddDefault) (arguments_built es no_arguments b.bodies.exps (record b { controls = record b.controls { action_names = a ∷ b.controls.action_names } })))

property_rows : (b : Built) → Rows control.Property b
property_rows b = (
  by_test (quoted key.Key) (is_quoted key.Key) (not (is_among (keyword_text16 key.Key) (table_words b))) _ (is_quoted_only key.Key) (λ new us ks h. (
    property.Key ks,
    (ap (λ l. quoted key.Key ∷ equals ∷ brace_open ∷ (l ++ brace_close ∷ [])) h.0, h.1, refl, not_true (is_among (keyword_text16 key.Key) (table_words b)) new),
    keys_built ks b,
  )),
  (
    by_test (quoted key.Size) (is_quoted key.Size) (not (is_among (keyword_text16 key.Size) (table_words b))) _ (is_quoted_only key.Size) (λ new. by_number _ (λ n. (
      property.Size n,
      (refl, refl, refl, not_true (is_among (keyword_text16 key.Size) (table_words b)) new),
      refl,
    ))),
    (
      by_test (quoted key.Counters) (is_quoted key.Counters) (not (is_among (keyword_text16 key.Counters) (table_words b))) _ (is_quoted_only key.Counters) (λ new. by_name _ (λ text. (
        property.Counters text,
        (refl, refl, refl, not_true (is_among (keyword_text16 key.Counters) (table_words b)) new),
        refl,
      ))),
      (
        by_test (quoted key.DefaultAction) (is_quoted key.DefaultAction) (not (is_among (keyword_text16 key.DefaultAction) (table_words b))) _ (is_quoted_only key.DefaultAction) (λ new us a h vs es k. (
          property.DefaultAction a (arguments_of es),
          (
            ap (λ l. quoted key.DefaultAction ∷ equals ∷ l) (default_tokens a es us vs h k.0),
            are_many false no_arguments es refl k.1,
            refl,
            not_true (is_among (keyword_text16 key.DefaultAction) (table_words b)) new,
          ),
          default_built a es b,
        )),
        tt,
      ),
    ),
  ),
)

-- what is built of the lines behind `actions`
abbrev listed : Built → ActionName → List ActionName → Built
listed b a names = after_all add_name names (record b { controls = record b.controls { action_lists = (a ∷ []) ∷ b.controls.action_lists } })

actions_tokens : (a : ActionName) (names : List ActionName) (ps : List Property) (us vs ws : List Seen16) → us ≡ written_action_name a → vs ≡ flat_map written_listed_action names → ws ≡ flat_map written_property ps
    → quoted key.Actions ∷ equals ∷ brace_open ∷ (us ++ semicolon ∷ (vs ++ brace_close ∷ ws)) ≡ written_property (property.Actions (a ∷ names)) ++ flat_map written_property ps
actions_tokens a names ps us vs ws f g h =
    ap (λ l. quoted key.Actions ∷ equals ∷ brace_open ∷ l)
    (ap₂ (λ l m. l ++ semicolon ∷ m) f (ap₂ (λ l m. l ++ brace_close ∷ m) g h)
    ∙ sym (append_assoc (written_action_name a) (semicolon ∷ []) (flat_map written_listed_action names ++ brace_close ∷ flat_map written_property ps))
    ∙ sym (append_assoc (written_listed_action a) (flat_map written_listed_action names) (brace_close ∷ flat_map written_property ps))
    ∙ sym (append_assoc (written_listed_action a ++ flat_map written_listed_action names) (brace_close ∷ []) (flat_map written_property ps)))

actions_built : (a : ActionName) (names : List ActionName) (ps : List Property) (b : Built) → after_all add_property ps (add_property (property.Actions (a ∷ names)) b) ≡ after_all add_property ps (put_control act.AddActions (listed b a names))
actions_built a names ps b = sym (ap (λ c. after_all add_property ps (put_control act.AddActions c)) (names_built names (a ∷ []) b.controls.action_lists b))

actions_differ : (a : ActionName) (names : List ActionName) (ps : List Property) (b : Built) → is_among needed_text (table_words b) ≡ false → StayDifferent (table_words (put_control act.AddActions (listed b a names))) (property_texts ps) → StayDifferent (table_words b) (property_texts (property.Actions (a ∷ names) ∷ ps))
actions_differ a names ps b new h =
    stay_extended text_of (property.Actions (a ∷ names)) ps b.controls.properties new
    (subst (λ c. StayDifferent (table_words (put_control act.AddActions c)) (property_texts ps)) (names_built names (a ∷ []) b.controls.action_lists b) h)

-- a property in front of others

or_right : (c d : Bool) → d ≡ true → (c || d) ≡ true
or_right true d h = refl
or_right false d h = h

or_none : (c : Bool) → (c || false) ≡ false → c ≡ false
or_none true h = h
or_none false h = refl

-- the words with one more property
words_behind : (p : Property) (lists : List (List Property)) → property_texts (newest [] (extended (bare_property p ∷ []) lists)) ≡ property_texts (newest [] lists) ++ text_of p ∷ []
words_behind p [] = ap (λ w. keyword_text16 w ∷ []) (word_bare p)
words_behind p (l ∷ lists) = map_one text_of (bare_property p) l ∙ ap (λ w. property_texts l ++ keyword_text16 w ∷ []) (word_bare p)

more_differ : (p : Property) (ps : List Property) (b : Built) → is_among (text_of p) (table_words b) ≡ false → StayDifferent (table_words (add_property p b)) (property_texts ps) → StayDifferent (table_words b) (property_texts (p ∷ ps))
more_differ p ps b new h =
    stay_more (text_of p) (table_words b) (property_texts ps) new (subst (λ l. StayDifferent l (property_texts ps)) (words_behind p b.controls.properties) h)

still_needed : (p : Property) (b : Built) → is_among needed_text (property_texts (p ∷ [])) ≡ false → is_among needed_text (table_words b) ≡ false → is_among needed_text (table_words (add_property p b)) ≡ false
still_needed p b h k =
    subst (λ l. is_among needed_text l ≡ false) (sym (words_behind p b.controls.properties)) (among_one_more needed_text (text_of p) (table_words b) k (or_none (bytes_eq needed_text (text_of p)) h))

properties_rows : (b : Built) → Rows control.Properties b
properties_rows b = (
  λ us a h vs names k ws ps l. (
    property.Actions (a ∷ names) ∷ ps,
    (actions_tokens a names ps us vs ws h k l.0, l.1, refl, λ new. actions_differ a names ps b new l.2),
    actions_built a names ps b,
  ),
  (
    λ us p h vs ps k. (
      p ∷ ps,
      (
        ap₂ ◌++◌ h.0 k.0,
        both (is_property with_parentheses p) (list_all (is_property with_parentheses) ps) h.1 k.1,
        or_right (bytes_eq needed_text (text_of p)) (is_among needed_text (property_texts ps)) k.2,
        λ none. more_differ p ps b h.3 (k.3 (still_needed p b h.2 none)),
      ),
      refl,
    ),
    tt,
  ),
)

more_properties_rows : (b : Built) → Rows control.MoreProperties b
more_properties_rows b = (
  by_test (quoted key.Actions) (is_quoted key.Actions) (not (is_among (keyword_text16 key.Actions) (table_words b))) _ (is_quoted_only key.Actions) (λ new us a h vs names k ws ps l. (
    property.Actions (a ∷ names) ∷ ps,
    (actions_tokens a names ps us vs ws h k l.0, l.1, actions_differ a names ps b (not_true (is_among needed_text (table_words b)) new) l.2),
    actions_built a names ps b,
  )),
  (
    λ us p h vs ps k. (
      p ∷ ps,
      (
        ap₂ ◌++◌ h.0 k.0,
        both (is_property with_parentheses p) (list_all (is_property with_parentheses) ps) h.1 k.1,
        more_differ p ps b h.3 k.2,
      ),
      refl,
    ),
    tt,
  ),
)

table_rows : (b : Built) → Rows control.TableDecl b
table_rows b = (
  by_name _ (λ text us ps h. (
    record { notes = []; name = text; properties = ps },
    (
      ap (λ l. quoted key.Table ∷ id text ∷ brace_open ∷ (l ++ brace_close ∷ [])) h.0,
      refl,
      both (list_all (is_property with_parentheses) ps) (all_different (property_texts ps) && is_among needed_text (property_texts ps)) h.1
          (both (all_different (property_texts ps)) (is_among needed_text (property_texts ps)) (h.3 refl refl) h.2),
    ),
    sym (all_added add_property bare_property (properties (record b { parts = record b.parts { names = text ∷ b.parts.names } })) (λ p lists. refl) ps [] b.controls.properties),
  )),
  tt,
)

-- keys

key_tokens : (e : Exp16) (text : List ℕ) (ns : List Note) (ks : List TableKey) (us vs ws : List Seen16) → us ≡ written_exp e → vs ≡ written_notes ns → ws ≡ flat_map written_key ks
    → us ++ colon ∷ id text ∷ (vs ++ semicolon ∷ ws) ≡ written_key (record { exp = e; kind = text; notes = ns }) ++ flat_map written_key ks
key_tokens e text ns ks us vs ws f g h =
    ap₂ (λ l m. l ++ colon ∷ id text ∷ m) f (ap₂ (λ l m. l ++ semicolon ∷ m) g h ∙ sym (append_assoc (written_notes ns) (semicolon ∷ []) (flat_map written_key ks)))
    ∙ sym (append_assoc (written_exp e) (colon ∷ id text ∷ (written_notes ns ++ semicolon ∷ [])) (flat_map written_key ks))

-- what is built where the key's annotations are the newest of these lists
abbrev key_built : List ℕ → List (List Note) → Built → Built
key_built text lists c = put_control act.AddKey (record c { parts = record c.parts { names = text ∷ c.parts.names; notes = lists } })

key_means : (e : Exp16) (t : Tail) (text : List ℕ) (ns : List Note) (ks : List TableKey) (us vs ws xs : List Seen16) (b : Built) → ((us ≡ written_exp e) × (is_of 11 e ≡ true)) → ((vs ≡ written_tail t) × (is_tail 0 11 t ≡ true)) → ws ≡ written_notes ns
    → are_notes ns ≡ true → ((xs ≡ flat_map written_key ks) × (list_all (is_key with_parentheses) ks ≡ true))
    → Means control.Keys b (us ++ (vs ++ colon ∷ id text ∷ (ws ++ semicolon ∷ xs))) (after_all add_key ks (key_built text (extended_by ns ([] ∷ (put_tail t (with_exp e b)).parts.notes)) (put_state state_act.TakeExp (put_tail t (with_exp e b)))))
key_means e t text ns ks us vs ws xs b h k m good l = (
  record { exp = with_tail e t; kind = text; notes = ns } ∷ ks,
  (
    sym (append_assoc us vs (colon ∷ id text ∷ (ws ++ semicolon ∷ xs)))
        ∙ key_tokens (with_tail e t) text ns ks (us ++ vs) ws xs (full_tokens e t us vs h.0 k.0) m l.0,
    both (is_full (with_tail e t) && are_notes ns) (list_all (is_key with_parentheses) ks) (both (is_full (with_tail e t)) (are_notes ns) (full_is e t h.1 k.1) good) l.1,
  ),
  ap (λ lists. after_all add_key ks (key_built text lists (put_state state_act.TakeExp (with_exp (with_tail e t) b)))) (sym (extended_by_list ns [] b.parts.notes))
      ∙ ap (λ c. after_all add_key ks (key_built text (extended_by ns ([] ∷ c.parts.notes)) (put_state state_act.TakeExp c))) (full_built e t b),
)

keys_rows : (b : Built) → Rows control.Keys b
keys_rows b = (
  λ us e h vs t k. by_name _ (λ text ws ns m xs ks l. key_means e t text ns ks us vs ws xs b h k m.0 (both (list_all is_note ns) (is_named_once ns) m.1 (m.2 refl)) l),
  tt,
)

-- what a control declares

noted_action : (a : Action16) (us : List Seen16) → us ≡ written_action a → a.notes ≡ [] → us ≡ written_action (record { notes = []; name = a.name; parameters = a.parameters; body = a.body })
noted_action a us f e = f ∙ ap (λ ns. written_action (record { notes = ns; name = a.name; parameters = a.parameters; body = a.body })) e

noted_table : (t : Table16) (us : List Seen16) → us ≡ written_table t → t.notes ≡ [] → us ≡ written_table (record { notes = []; name = t.name; properties = t.properties })
noted_table t us f e = f ∙ ap (λ ns. written_table (record { notes = ns; name = t.name; properties = t.properties })) e

noted_rows : (b : Built) → Rows control.Noted b
noted_rows b = (
  λ us i h. (local.Instance (newest_notes b) i, (ap (λ l. l ++ semicolon ∷ []) h.0, refl, h.1), refl),
  (
    λ us a h. (
      local.Action (record { notes = newest_notes b; name = a.name; parameters = a.parameters; body = a.body }),
      (noted_action a us h.0 h.1, refl, right_true (are_notes a.notes) (is_stmt with_parentheses statements a.body) h.2),
      refl,
    ),
    (
      λ us t h. (
        local.Table (record { notes = newest_notes b; name = t.name; properties = t.properties }),
        (noted_table t us h.0 h.1, refl, right_true (are_notes t.notes) (are_properties with_parentheses t.properties) h.2),
        refl,
      ),
      tt,
    ),
  ),
)

-- the annotations, and then the rest
written_local_is : (l : Local) → is_noted l ≡ true → written_local l ≡ written_notes (bare_notes l) ++ written_noted l
written_local_is (local.Instance notes i) h = refl
written_local_is (local.Var v) h = cc
written_local_is (local.Action a) h = refl
written_local_is (local.Table t) h = refl

local_is : (l : Local) → is_noted l ≡ true → are_notes (bare_notes l) ≡ true → is_local with_parentheses l ≡ true
local_is (local.Instance notes i) h k = both (are_notes notes) (is_instance with_parentheses i) k h
local_is (local.Var v) h k = cc
local_is (local.Action a) h k = both (are_notes a.notes) (is_stmt with_parentheses statements a.body) k h
local_is (local.Table t) h k = both (are_notes t.notes) (are_properties with_parentheses t.properties) k h

-- one annotation stands at most once
pub alone_once : (n : Note) → is_named_once (n ∷ []) ≡ true
alone_once (note.Name text) = refl
alone_once (note.FieldList numbers) = refl

pub notes_good : (n : Note) (ns : List Note) → is_note n ≡ true → list_all is_note ns ≡ true → (is_named_once (n ∷ []) ≡ true → is_named_once (n ∷ ns) ≡ true) → are_notes (n ∷ ns) ≡ true
notes_good n ns h k m = both (list_all is_note (n ∷ ns)) (is_named_once (n ∷ ns)) (both (is_note n) (list_all is_note ns) h k) (m (alone_once n))

local_means : (n : Note) (ns : List Note) (l : Local) (ls : List Local) (us vs ws xs : List Seen16) (b : Built) (lists : List (List Note)) → lists ≡ (n ∷ ns) ∷ b.parts.notes → us ++ vs ≡ written_notes (n ∷ ns) → are_notes (n ∷ ns) ≡ true
    → ControlSpells control.Noted l (record b { parts = record b.parts { notes = lists } }) ws → ((xs ≡ flat_map written_local ls) × (list_all (is_local with_parentheses) ls ≡ true))
    → Means control.Locals b (us ++ (vs ++ (ws ++ xs))) (after_all add_local ls (add_local l (record b { parts = record b.parts { notes = older lists } })))
local_means n ns l ls us vs ws xs b lists e f good h k =
    let is : bare_notes l ≡ n ∷ ns = h.1 ∙ ap (newest []) e in (
      l ∷ ls,
      (
        sym (append_assoc us vs (ws ++ xs)) ∙ ap₂ (λ p q. p ++ (q ++ xs)) (f ∙ ap written_notes (sym is)) h.0
            ∙ sym (append_assoc (written_notes (bare_notes l)) (written_noted l) xs)
            ∙ ap₂ ◌++◌ (sym (written_local_is l h.2)) k.0,
        both (is_local with_parentheses l) (list_all (is_local with_parentheses) ls) (local_is l h.2 (subst (λ ms. are_notes ms ≡ true) (sym is) good)) k.1,
      ),
      ap (λ ms. after_all add_local ls (add_local l (record b { parts = record b.parts { notes = older ms } }))) (sym e),
    )

-- actions and tables without annotations

plain_action : (a : Action16) → a.notes ≡ [] → a ≡ record { notes = []; name = a.name; parameters = a.parameters; body = a.body }
plain_action a e = ap (λ ns. record { notes = ns; name = a.name; parameters = a.parameters; body = a.body }) e

plain_table : (t : Table16) → t.notes ≡ [] → t ≡ record { notes = []; name = t.name; properties = t.properties }
plain_table t e = ap (λ ns. record { notes = ns; name = t.name; properties = t.properties }) e

locals_rows : (b : Built) → Rows control.Locals b
locals_rows b = (
  λ us t h. by_name _ (λ text vs i k ws ls m. (
    local.Var (record { of = t; name = text; initial = i }) ∷ ls,
    (var_tokens t text i us vs ws (flat_map written_local ls) h k.0 m.0, both (is_option is_full i) (list_all (is_local with_parentheses) ls) k.1 m.1),
    refl,
  )),
  (
    λ us i h vs ls k. (
      local.Instance [] i ∷ ls,
      (ap₂ (λ l m. l ++ semicolon ∷ m) h.0 k.0 ∙ sym (append_assoc (written_instance i) (semicolon ∷ []) (flat_map written_local ls)), both (is_instance with_parentheses i) (list_all (is_local with_parentheses) ls) h.1 k.1),
      refl,
    ),
    (
      λ us a h vs ls k. (
        local.Action a ∷ ls,
        (ap₂ ◌++◌ h.0 k.0, both (is_action with_parentheses a) (list_all (is_local with_parentheses) ls) h.2 k.1),
        ap (λ c. after_all add_local ls (add_local (local.Action c) b)) (plain_action a h.1),
      ),
      (
        λ us t h vs ls k. (
          local.Table t ∷ ls,
          (ap₂ ◌++◌ h.0 k.0, both (is_table with_parentheses t) (list_all (is_local with_parentheses) ls) h.2 k.1),
          ap (λ c. after_all add_local ls (add_local (local.Table c) b)) (plain_table t h.1),
        ),
        (
          λ us n h vs ns k ws l m xs ls o.
              local_means n ns l ls us vs ws xs b (extended_by ns ((n ∷ []) ∷ b.parts.notes)) (extended_by_list ns (n ∷ []) b.parts.notes) (ap₂ ◌++◌ h.0 k.0)
              (notes_good n ns h.1 k.1 k.2) m o,
          tt,
        ),
      ),
    ),
  ),
)

-- all of them

pub rows_mean : (w : ControlWord) (b : Built) → Rows w b
rows_mean control.Instance b = instance_rows b
rows_mean control.ActionDecl b = action_rows b
rows_mean control.TableDecl b = table_rows b
rows_mean control.Property b = property_rows b
rows_mean control.Properties b = properties_rows b
rows_mean control.MoreProperties b = more_properties_rows b
rows_mean control.ActionRef b = (by_name _ (λ text. (action_name.Declared text, refl, refl)), ((action_name.NoAction, refl, refl), tt))
rows_mean control.ActionLines b = (λ us a h vs names k. (a ∷ names, ap₂ (λ l m. l ++ semicolon ∷ m) h k ∙ sym (append_assoc (written_action_name a) (semicolon ∷ []) (flat_map written_listed_action names)), refl), tt)
rows_mean control.Keys b = keys_rows b
rows_mean control.Noted b = noted_rows b
rows_mean control.Locals b = locals_rows b

pub none_means : (w : ControlWord) (b : Built) → NoneShows grammar16 fixed16 meaning16 (word.Control w) b (grammar16.otherwise (word.Control w))
none_means control.Instance b = tt
none_means control.ActionDecl b = tt
none_means control.TableDecl b = tt
none_means control.Property b = tt
none_means control.Properties b = tt
none_means control.MoreProperties b = ([], (refl, refl, stay_none (table_words b)), refl)
none_means control.ActionRef b = tt
none_means control.ActionLines b = ([], refl, refl)
none_means control.Keys b = ([], (refl, refl), refl)
none_means control.Noted b = tt
none_means control.Locals b = ([], (refl, refl), refl)
