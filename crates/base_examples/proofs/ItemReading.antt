-- The grammar of items reads exactly what is written so, and what it reads can be completed.
use Rattle.std.proofs.Common.{◌≡◌, ℕ, suc, ◌+◌, ◌<◌, ◌≤◌, Bool, true, false, cond, nat_lt, nat_le, ◌&&◌, List, [], ◌∷◌, ◌++◌, get_or, Option, Some, None, refl, sym, ap, ◌∙◌, subst, arith, append_assoc, append-nil, leb-true, ltb-true, add-one}
use Rattle.std.proofs.lemmas.Bool.{le-leb, lt-ltb}
use Rattle.base_examples.specs.declared.item_reader.Lexeme.{Lexeme}
use Rattle.base_examples.specs.declared.item_reader.Lexeme.TheVariants as token
use Rattle.base_examples.specs.declared.item_reader.Class.{Class}
use Rattle.base_examples.specs.declared.item_reader.Class.TheVariants as class
use Rattle.base_examples.specs.declared.item_reader.Phrase.{Phrase}
use Rattle.base_examples.specs.declared.item_reader.Phrase.TheVariants.{Item, Tail, ListEnd, More}
use Rattle.base_examples.specs.declared.item_reader.Event.{Event}
use Rattle.base_examples.specs.declared.item_reader.Event.TheVariants as event
use Rattle.predictive_parser.specs.declared.symbol.Symbol.{Symbol}
use Rattle.predictive_parser.specs.declared.symbol.Symbol.TheVariants.{Token, Put, Word}
use Rattle.predictive_parser.specs.Grammar.{◌⇒◌}
use Rattle.predictive_parser.specs.Choices.{Chooses}
use Rattle.base_examples.specs.Syntax as syntax
use Rattle.base_examples.specs.Syntax.{Items, None_left, First, Name, Both, Group, power, Spells, SpellsMore, postorder, postorders}
use Rattle.base_examples.specs.Items.{items, accepts, is_operator}
use Rattle.predictive_parser.proofs.Meanings.{Meaning, Fixed, RowsShow, NoneShows, MeansWord, sound_word}
use Rattle.predictive_parser.proofs.Chains.{Leads, then, at_tokens, to_built, passes, reads, row, put, like_last, reads_all}
use Rattle.predictive_parser.proofs.Closings.{Closing, IsClosed, calm, pass, build}
use Rattle.predictive_parser.proofs.Languages.{IsLanguage}

-- operators with their right operands, behind a left operand
data Rest : Type 0 where
  Done : Rest
  Further : Lexeme → syntax.Item → Rest → Rest

abbrev SpellsRest : ℕ → ℕ → Rest → List Lexeme → Type 0
SpellsRest least most Done tokens = tokens ≡ []
SpellsRest least most (Further operator item rest) tokens =
    (part : List Lexeme) × (more : List Lexeme) × (tokens ≡ operator ∷ (part ++ more)) × (is_operator least most (power operator) ≡ true)
    × Spells (suc (power operator)) item part × SpellsRest least (power operator) rest more

-- the item that operators make of a left operand
abbrev join : syntax.Item → Rest → syntax.Item
join left Done = left
join left (Further operator right rest) = join (Both operator left right) rest

abbrev after_rest : Rest → List Event → List Event
after_rest Done built = built
after_rest (Further operator right rest) built = after_rest rest ((built ++ postorder right) ++ event.Both operator ∷ [])

-- what each phrase stands for
abbrev Value : Phrase → Type 0
Value (Item least) = syntax.Item
Value (Tail least most) = Rest
Value ListEnd = Items
Value More = Items

abbrev SpellsPhrase : (phrase : Phrase) → Value phrase → List Event → List Lexeme → Type 0
SpellsPhrase (Item least) item built tokens = Spells least item tokens
SpellsPhrase (Tail least most) rest built tokens = SpellsRest least most rest tokens
SpellsPhrase ListEnd list built tokens = Spells 0 (Group list) (token.Open ∷ tokens)
SpellsPhrase More list built tokens = SpellsMore list tokens

abbrev after : (phrase : Phrase) → Value phrase → List Event → List Event
after (Item least) item built = built ++ postorder item
after (Tail least most) rest built = after_rest rest built
after ListEnd list built = built ++ postorder (Group list)
after More list built = built ++ postorders list

abbrev meaning : Meaning Phrase Lexeme (List Event)
meaning = record { Value = Value; Spells = SpellsPhrase; after = after }

abbrev only : Class → Option Lexeme
only class.AnyName = None
only (class.Operator least most) = None
only class.Open = Some token.Open
only class.Close = Some token.Close
only class.Comma = Some token.Comma

is_only : (c : Class) (kept t : Lexeme) → only c ≡ Some kept → accepts c t ≡ true → t ≡ kept
is_only class.Open kept token.Open e h = cc
is_only class.Close kept token.Close e h = cc
is_only class.Comma kept token.Comma e h = cc
is_only c kept t e h = cc

abbrev fixed : Fixed items
fixed = record { only = only; is_only = λ c kept t built. is_only c kept t }

both : (a b : Bool) → (a && b) ≡ true → (a ≡ true) × (b ≡ true)
both true b h = (refl, h)
both false b h = cc

operator_is : (least most p : ℕ) → is_operator least most p ≡ true → (0 < p) × (least ≤ p) × (p ≤ most)
operator_is least most p h =
    let a = both (nat_lt 0 p && nat_le least p) (nat_le p most) h in
    let b = both (nat_lt 0 p) (nat_le least p) a.0 in
    (ltb-true 0 p b.0, leb-true least p b.1, leb-true p most a.1)

-- an item that may stand where operators bind tight may stand where they bind less tight
lower : (item : syntax.Item) (most least : ℕ) (part : List Lexeme) → least ≤ most → Spells most item part → Spells least item part
lower (Name name) most least part l h = h
lower (Both operator left right) most least part l h = (h.0, h.1, h.2, h.3, omega (arith, h.4), h.5, h.6)
lower (Group None_left) most least part l h = h
lower (Group (First item list)) most least part l h = h

join_spells : (rest : Rest) (left : syntax.Item) (least most : ℕ) (part tokens : List Lexeme) → SpellsRest least most rest tokens → Spells most left part → Spells least left part → Spells least (join left rest) (part ++ tokens)
join_spells Done left least most part tokens r m l = subst (λ us. Spells least left us) (sym (ap (λ us. part ++ us) r ∙ append-nil part)) l
join_spells (Further operator right rest) left least most part tokens r m l =
    let o = operator_is least most (power operator) r.3 in
    let n : Spells (power operator) left part = lower left most (power operator) part o.2 m in
    subst (λ us. Spells least (join (Both operator left right) rest) us) (append_assoc part (operator ∷ r.0) r.1 ∙ ap (λ us. part ++ us) (sym r.2))
    (join_spells rest (Both operator left right) least (power operator) (part ++ operator ∷ r.0) r.1 r.5 (part, r.0, refl, o.0, omega arith, n, r.4) (part, r.0, refl, o.0, o.1, n, r.4))

join_built : (rest : Rest) (left : syntax.Item) (built : List Event) → built ++ postorder (join left rest) ≡ after_rest rest (built ++ postorder left)
join_built Done left built = refl
join_built (Further operator right rest) left built =
    join_built rest (Both operator left right) built
    ∙ ap (after_rest rest) (sym (append_assoc (built ++ postorder left) (postorder right) (event.Both operator ∷ []) ∙ append_assoc built (postorder left) (postorder right ++ event.Both operator ∷ [])))

-- each row is right
name_row : (least : ℕ) (t : Lexeme) (built : List Event) (front : List Lexeme) (rest : Rest) → accepts class.AnyName t ≡ true → SpellsRest least 9 rest front → MeansWord items fixed meaning (Item least) built (t ∷ front) (after_rest rest (items.shift class.AnyName t built))
name_row least (token.Name name) built front rest ok h = (join (Name name) rest, join_spells rest (Name name) least 9 (token.Name name ∷ []) front h refl refl, join_built rest (Name name) built)
name_row least token.Plus built front rest ok h = cc
name_row least token.Times built front rest ok h = cc
name_row least token.Open built front rest ok h = cc
name_row least token.Close built front rest ok h = cc
name_row least token.Comma built front rest ok h = cc

group_spells : (list : Items) (least most : ℕ) (tokens : List Lexeme) → Spells least (Group list) tokens → Spells most (Group list) tokens
group_spells None_left least most tokens h = h
group_spells (First item list) least most tokens h = h

operator_row : (least most : ℕ) (t : Lexeme) (built : List Event) (front : List Lexeme) (item : syntax.Item) (more : List Lexeme) (rest : Rest) → is_operator least most (power t) ≡ true → Spells (suc (power t)) item front → SpellsRest least (power t) rest more → MeansWord items fixed meaning (Tail least most) built (t ∷ (front ++ more)) (after_rest rest ((items.shift (class.Operator least most) t built ++ postorder item) ++ event.Both t ∷ []))
operator_row least most t built front item more rest ok h k = (Further t item rest, (front, more, refl, ok, h, k), ap (λ b. after_rest rest ((b ++ postorder item) ++ event.Both t ∷ [])) (no_name t ok))
  where
    no_name : (u : Lexeme) → is_operator least most (power u) ≡ true → built ≡ items.shift (class.Operator least most) u built
    no_name token.Plus e = refl
    no_name token.Times e = refl
    no_name (token.Name name) e = cc
    no_name token.Open e = cc
    no_name token.Close e = cc
    no_name token.Comma e = cc

rows_mean : (phrase : Phrase) (built : List Event) → RowsShow items fixed meaning phrase built (items.rows phrase)
rows_mean (Item least) built = (
  λ t ok front rest h. name_row least t built front rest ok h,
  (λ front list h more rest k. (join (Group list) rest, join_spells rest (Group list) least 9 (token.Open ∷ front) more k (group_spells list 0 9 _ h) (group_spells list 0 least _ h), join_built rest (Group list) built), tt),
)
rows_mean (Tail least most) built = (λ t ok front item h more rest k. operator_row least most t built front item more rest ok h k, tt)
rows_mean ListEnd built = (
  (None_left, refl, sym (append_assoc built (event.Nil ∷ []) (event.List ∷ []))),
  (λ front item h more list k. (First item list, (front, more, refl, h, k), simp append_assoc), tt),
)
rows_mean More built = (λ front item h more list k. (First item list, (front, more, refl, h, k), simp append_assoc), tt)

none_means : (phrase : Phrase) (built : List Event) → NoneShows items fixed meaning phrase built (items.otherwise phrase)
none_means (Item least) built = tt
none_means (Tail least most) built = (Done, refl, refl)
none_means ListEnd built = tt
none_means More built = (None_left, refl, refl)

-- how each phrase is closed
abbrev pub closing : Phrase → List Lexeme
closing (Item least) = token.Name 0 ∷ []
closing (Tail least most) = []
closing ListEnd = token.Close ∷ []
closing More = []

abbrev pub sample : Class → Lexeme
sample class.AnyName = token.Name 0
sample (class.Operator least most) = token.Plus
sample class.Open = token.Open
sample class.Close = token.Close
sample class.Comma = token.Comma

-- kinds: 0 are the operators, and 1 is the comma
abbrev pub kinds : List (Lexeme → Bool)
kinds = (λ t. nat_lt 0 (power t)) ∷ accepts class.Comma ∷ []

abbrev pub kind : Class → ℕ
kind class.AnyName = 2
kind (class.Operator least most) = 0
kind class.Open = 2
kind class.Close = 2
kind class.Comma = 1

abbrev pub ends : Phrase → List ℕ
ends (Item least) = 0 ∷ []
ends (Tail least most) = 0 ∷ []
ends ListEnd = []
ends More = 0 ∷ 1 ∷ []

pub foreseen : (c : Class) (t : Lexeme) (answer : Bool) → Some (accepts c t) ≡ Some answer → accepts c t ≡ answer
foreseen c t answer e = cc

pub of_kind : (c : Class) (t : Lexeme) → accepts c t ≡ true → get_or kinds (kind c) (λ u. true) t ≡ true
of_kind class.AnyName t h = refl
of_kind (class.Operator least most) t h = (both (nat_lt 0 (power t)) (nat_le least (power t)) (both (nat_lt 0 (power t) && nat_le least (power t)) (nat_le (power t) most) h).0).0
of_kind class.Open t h = refl
of_kind class.Close t h = refl
of_kind class.Comma t h = h

abbrev pub closings : Closing items
closings = record {
  foresees = λ c t. Some (accepts c t);
  foreseen = λ c t answer built. foreseen c t answer;
  stands = λ phrase. true;
  sample = sample;
  closing = closing;
  kinds = kinds;
  kind = kind;
  of_kind = λ c t built. of_kind c t;
  ends = ends;
}

pub closed : (phrase : Phrase) → closings.stands phrase ≡ true → IsClosed items closings phrase
closed (Item least) s = (λ t. refl, refl)
closed (Tail least most) s = (λ t. refl, refl)
closed ListEnd s = (λ t. refl, refl)
closed More s = (λ t. refl, refl)

-- what is written so is read

-- how tight the operator of an item outside parentheses binds, or more than any
abbrev top : syntax.Item → ℕ
top (Name name) = 9
top (Both operator left right) = power operator
top (Group list) = 9

abbrev next_power : List Lexeme → ℕ
next_power [] = 0
next_power (t ∷ tokens) = power t

power_small : (t : Lexeme) → power t ≤ 2
power_small token.Plus = omega arith
power_small token.Times = omega arith
power_small (token.Name name) = omega arith
power_small token.Open = omega arith
power_small token.Close = omega arith
power_small token.Comma = omega arith

top_least : (item : syntax.Item) (least : ℕ) (part : List Lexeme) → least ≤ 9 → Spells least item part → least ≤ top item
top_least (Name name) least part l h = l
top_least (Both operator left right) least part l h = h.4
top_least (Group list) least part l h = l

fits_between : (least most p : ℕ) → 0 < p → least ≤ p → p ≤ most → is_operator least most p ≡ true
fits_between least most p a b c = rw (lt-ltb 0 p a, le-leb least p b, le-leb p most c) refl

-- a tail passes before an operator that binds less tight
tail_passes : (least most : ℕ) (symbols : List (Symbol Class Event Phrase)) (built : List Event) (tokens : List Lexeme) → next_power tokens < least → Leads items (Word (Tail least most) ∷ symbols) built tokens symbols built tokens
tail_passes least most symbols built [] h = passes items (Word (Tail least most)) symbols built built [] refl
tail_passes least most symbols built (t ∷ tokens) h = passes items (Word (Tail least most)) symbols built built (t ∷ tokens) (rw too_loose refl)
  where
    too_loose : is_operator least most (power t) ≡ false
    too_loose = go (is_operator least most (power t)) refl
      where
        go : (b : Bool) → is_operator least most (power t) ≡ b → b ≡ false
        go false e = refl
        go true e = let o = operator_is least most (power t) e in absurd (omega (arith, h, o.1))

-- a tail takes an operator that is between its bounds
operator_leads : (operator : Lexeme) (least most : ℕ) (symbols : List (Symbol Class Event Phrase)) (built : List Event) (tokens : List Lexeme) → is_operator least most (power operator) ≡ true
    → Leads items (Word (Tail least most) ∷ symbols) built (operator ∷ tokens) (Word (Item (suc (power operator))) ∷ Put (event.Both operator) ∷ Word (Tail least (power operator)) ∷ symbols) built tokens
operator_leads operator least most symbols built tokens h = to_built (sym (no_name operator h))
    (row items (Tail least most) symbols built operator tokens (class.Operator least most, Word (Item (suc (power operator))) ∷ Put (event.Both operator) ∷ Word (Tail least (power operator)) ∷ []) (rw h refl))
  where
    no_name : (u : Lexeme) → is_operator least most (power u) ≡ true → built ≡ items.shift (class.Operator least most) u built
    no_name token.Plus e = refl
    no_name token.Times e = refl
    no_name (token.Name name) e = cc
    no_name token.Open e = cc
    no_name token.Close e = cc
    no_name token.Comma e = cc

-- an item begins with a token that closes no list
starts : (item : syntax.Item) (least : ℕ) (part : List Lexeme) → Spells least item part → (first : Lexeme) × (rest : List Lexeme) × (part ≡ first ∷ rest) × (accepts class.Close first ≡ false)
starts (Name name) least part h = (token.Name name, [], h, refl)
starts (Both operator left right) least part h =
    let s = starts left (power operator) h.0 h.5 in
    (s.0, s.1 ++ operator ∷ h.1, h.2 ∙ ap (λ us. us ++ operator ∷ h.1) s.2, s.3)
starts (Group None_left) least part h = (token.Open, token.Close ∷ [], h, refl)
starts (Group (First item list)) least part h = (token.Open, h.0 ++ (h.1 ++ token.Close ∷ []), h.2, refl)

abbrev behind_item : List (Symbol Class Event Phrase)
behind_item = Word More ∷ Token class.Close ∷ Put event.Cons ∷ Put event.List ∷ []

-- what stands behind an open parenthesis is read as an item, if one stands there
list_end : (item : syntax.Item) (symbols : List (Symbol Class Event Phrase)) (built : List Event) (part tokens : List Lexeme) → Spells 0 item part
    → Leads items (Word ListEnd ∷ symbols) built (part ++ tokens) (Word (Item 0) ∷ (behind_item ++ symbols)) built (part ++ tokens)
list_end item symbols built part tokens h =
    let s = starts item 0 part h in
    subst (λ us. Leads items (Word ListEnd ∷ symbols) built (us ++ tokens) (Word (Item 0) ∷ (behind_item ++ symbols)) built (us ++ tokens)) (sym s.2)
    (like_last items ListEnd (Item 0) ((class.Close ⇒ Put event.Nil ∷ Put event.List ∷ []) ∷ []) behind_item symbols built s.0 (s.1 ++ tokens) refl (rw s.3 refl) refl refl refl)

-- an item of a list is followed by a comma or by what follows the list
no_operator : (list : Items) (more tokens : List Lexeme) → SpellsMore list more → next_power tokens ≡ 0 → next_power (more ++ tokens) ≡ 0
no_operator None_left more tokens h k = ap (λ us. next_power (us ++ tokens)) h ∙ k
no_operator (First item list) more tokens h k = ap (λ us. next_power (us ++ tokens)) h.2

calm_tail : (least most : ℕ) (tokens : List Lexeme) → next_power tokens ≡ 0 → calm items closings (Tail least most) tokens ≡ true
calm_tail least most [] h = refl
calm_tail least most (t ∷ tokens) h = rw h refl

calm_more : (tokens : List Lexeme) → calm items closings More tokens ≡ true → next_power tokens ≡ 0
calm_more [] h = refl
calm_more (token.Name name ∷ tokens) h = refl
calm_more (token.Plus ∷ tokens) h = cc
calm_more (token.Times ∷ tokens) h = cc
calm_more (token.Open ∷ tokens) h = refl
calm_more (token.Close ∷ tokens) h = refl
calm_more (token.Comma ∷ tokens) h = refl

-- an item is read whole where no operator stands behind it
whole_item : (item : syntax.Item) (symbols : List (Symbol Class Event Phrase)) (built next : List Event) (part tokens : List Lexeme) → next_power tokens ≡ 0
    → Leads items (Word (Item 0) ∷ symbols) built part (Word (Tail 0 (top item)) ∷ symbols) next tokens → Leads items (Word (Item 0) ∷ symbols) built part symbols next tokens
whole_item item symbols built next part tokens k f = then f (pass items closings closed (Tail 0 (top item)) symbols next tokens refl refl (calm_tail 0 (top item) tokens k))

mutual
  -- an item is read up to the operators that may stand behind it
  item_leads : (item : syntax.Item) (least : ℕ) (symbols : List (Symbol Class Event Phrase)) (built : List Event) (part tokens : List Lexeme) → Spells least item part → next_power tokens ≤ top item
      → Leads items (Word (Item least) ∷ symbols) built (part ++ tokens) (Word (Tail least (top item)) ∷ symbols) (built ++ postorder item) tokens
  item_leads (Name name) least symbols built part tokens h k = at_tokens (ap (λ us. us ++ tokens) h) (reads items (token.Name name ∷ []) refl)
  item_leads (Both operator left right) least symbols built part tokens h k =
      let n = power_small operator in
      at_tokens (ap (λ us. us ++ tokens) h.2 ∙ append_assoc h.0 (operator ∷ h.1) tokens) (to_built (simp append_assoc)
      (then (item_leads left least symbols built h.0 (operator ∷ (h.1 ++ tokens)) (lower left (power operator) least h.0 h.4 h.5) (top_least left (power operator) h.0 (omega arith) h.5))
      (then (operator_leads operator least (top left) symbols (built ++ postorder left) (h.1 ++ tokens) (fits_between least (top left) (power operator) h.3 h.4 (top_least left (power operator) h.0 (omega arith) h.5)))
      (then (item_leads right (suc (power operator)) (Put (event.Both operator) ∷ Word (Tail least (power operator)) ∷ symbols) (built ++ postorder left) h.1 tokens h.6 (let t = top_least right (suc (power operator)) h.1 (omega arith) h.6 in omega (arith, k, t)))
      (then (tail_passes (suc (power operator)) (top right) (Put (event.Both operator) ∷ Word (Tail least (power operator)) ∷ symbols) ((built ++ postorder left) ++ postorder right) tokens (omega (arith, k)))
      (put items (event.Both operator) (Word (Tail least (power operator)) ∷ symbols) ((built ++ postorder left) ++ postorder right) tokens))))))
  item_leads (Group None_left) least symbols built part tokens h k = at_tokens (ap (λ us. us ++ tokens) h) (to_built (append_assoc built (event.Nil ∷ []) (event.List ∷ []))
      (then (reads items (token.Open ∷ token.Close ∷ []) refl)
      (then (put items event.Nil (Put event.List ∷ Word (Tail least 9) ∷ symbols) built tokens)
      (put items event.List (Word (Tail least 9) ∷ symbols) _ tokens))))
  item_leads (Group (First item list)) least symbols built part tokens h k = at_tokens (ap (λ us. us ++ tokens) h.2 ∙ simp append_assoc) (to_built (simp append_assoc)
      (then (reads items (token.Open ∷ []) refl)
      (then (list_end item (Word (Tail least 9) ∷ symbols) built h.0 (h.1 ++ token.Close ∷ tokens) h.3)
      (then (let n = no_operator list h.1 (token.Close ∷ tokens) h.4 refl in whole_item item (behind_item ++ Word (Tail least 9) ∷ symbols) built (built ++ postorder item) (h.0 ++ (h.1 ++ token.Close ∷ tokens)) (h.1 ++ token.Close ∷ tokens) n (item_leads item 0 (behind_item ++ Word (Tail least 9) ∷ symbols) built h.0 (h.1 ++ token.Close ∷ tokens) h.3 (omega (arith, n))))
      (then (more_reads list (Token class.Close ∷ Put event.Cons ∷ Put event.List ∷ Word (Tail least 9) ∷ symbols) (built ++ postorder item) h.1 (token.Close ∷ tokens) h.4 refl)
      (then (reads items (token.Close ∷ []) refl)
      (then (put items event.Cons (Put event.List ∷ Word (Tail least 9) ∷ symbols) _ tokens)
      (put items event.List (Word (Tail least 9) ∷ symbols) _ tokens))))))))

  more_reads : (list : Items) (symbols : List (Symbol Class Event Phrase)) (built : List Event) (part tokens : List Lexeme) → SpellsMore list part → calm items closings More tokens ≡ true
      → Leads items (Word More ∷ symbols) built (part ++ tokens) symbols (built ++ postorders list) tokens
  more_reads None_left symbols built part tokens h k = at_tokens (ap (λ us. us ++ tokens) h) (build items closings closed More event.Nil symbols built tokens refl refl k)
  more_reads (First item list) symbols built part tokens h k = at_tokens (ap (λ us. us ++ tokens) h.2 ∙ simp append_assoc) (to_built (simp append_assoc)
      (then (reads items (token.Comma ∷ []) refl)
      (then (let n = no_operator list h.1 tokens h.4 (calm_more tokens k) in whole_item item (Word More ∷ Put event.Cons ∷ symbols) built (built ++ postorder item) (h.0 ++ (h.1 ++ tokens)) (h.1 ++ tokens) n (item_leads item 0 (Word More ∷ Put event.Cons ∷ symbols) built h.0 (h.1 ++ tokens) h.3 (omega (arith, n))))
      (then (more_reads list (Put event.Cons ∷ symbols) (built ++ postorder item) h.1 tokens h.4 k)
      (put items event.Cons symbols _ tokens)))))

-- the grammar reads exactly what is written so
pub language : IsLanguage items (Item 0) [] (Spells 0) postorder
language = record {
  sound = λ tokens end e. let m = sound_word items fixed meaning (record { rows_mean = rows_mean; none_means = none_means }) (Item 0) [] end tokens e in (m.0, m.1, m.2);
  complete = λ item tokens h. reads_all items (Word (Item 0) ∷ []) [] (postorder item) tokens
      (at_tokens (sym (append-nil tokens)) (whole_item item [] [] (postorder item) (tokens ++ []) [] refl (item_leads item 0 [] [] tokens [] h (omega arith))));
}

-- For code: the row of a tail, written with the operator and its power.
pub tail_row : (least most p : ℕ) (operator t : Lexeme) (more : List (Symbol Class Event Phrase)) (chosen : Option Class) (old new : List (Symbol Class Event Phrase)) → operator ≡ t → p ≡ power operator
    → Chooses chosen (cond (is_operator least most (power t)) (Some (class.Operator least most, Word (Item (p + 1)) ∷ Put (event.Both operator) ∷ Word (Tail least p) ∷ more)) None) old new
    → Chooses chosen (cond (is_operator least most (power t)) (Some (class.Operator least most, Word (Item (suc (power t))) ∷ Put (event.Both t) ∷ Word (Tail least (power t)) ∷ more)) None) old new
tail_row least most p operator t more chosen old new e q h =
    let a : p ≡ power t = q ∙ ap power e in
    let b : p + 1 ≡ suc (power t) = add-one p ∙ ap suc a in
    let k : Word (Item (p + 1)) ∷ Put (event.Both operator) ∷ Word (Tail least p) ∷ more ≡ Word (Item (suc (power t))) ∷ Put (event.Both t) ∷ Word (Tail least (power t)) ∷ more = cc in
    subst (λ symbols. Chooses chosen (cond (is_operator least most (power t)) (Some (class.Operator least most, symbols)) None) old new) k h
