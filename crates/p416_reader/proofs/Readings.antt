-- What the proofs that a word of the grammar is read share: what leads to what, which tokens a word doesn't go on with, and
-- lemmas on lists of tokens.
use Rattle.std.proofs.Common.{◌≡◌, ℕ, Bool, true, false, not, cond, ◌&&◌, ◌||◌, List, [], ◌∷◌, ◌++◌, map, Option, Some, None, refl, sym, ap, ◌∙◌, subst, append_assoc, append-nil}
use Rattle.std.proofs.lemmas.List.{map-append}
use Rattle.std.specs.List.{flat_map}
use Rattle.std.specs.Str.{bytes_eq}
use Rattle.std.proofs.lemmas.Slice.Eq.{bytes_eq-Decides}
use Rattle.predictive_parser.specs.declared.symbol.Symbol.TheVariants.{Put}
use Rattle.predictive_parser.specs.declared.symbol.Symbol.TheVariants as symbol
use Rattle.predictive_parser.specs.declared.symbol.Otherwise.TheVariants.{Refuse, Pass, Build}
use Rattle.predictive_parser.specs.Grammar.{Like, lines_of, plain_lines, first_fit, move}
use Rattle.predictive_parser.proofs.Chains as chains
use Rattle.predictive_parser.proofs.Closings as closings
use Rattle.p416_syntax.specs.Tokens.{Seen16, comma}
use Rattle.p416_syntax.specs.Written.{after_commas}
use Rattle.p416_syntax.specs.Conditions.{is_among, all_different}
use Rattle.p416_reader.specs.declared.symbols.Class.{Class}
use Rattle.p416_reader.specs.declared.symbols.Action.{Action}
use Rattle.p416_reader.specs.declared.symbols.Word.{Word}
use Rattle.predictive_parser.specs.Values.{newest, extended}
use Rattle.p416_reader.specs.internal.Classes.{accepts, shift}
use Rattle.p416_reader.specs.internal.Rows.{Sym, Rows, grammar16}
use Rattle.p416_reader.specs.declared.built.Built.{Built}
use Rattle.p416_reader.proofs.Meaning.{Value, after_word, extended_by}
use Rattle.p416_reader.proofs.Closing.{stands, ends, closing16, closed16}

-- reading these symbols on these tokens is reading those on those
abbrev pub Goes : List Sym → Built → List Seen16 → List Sym → Built → List Seen16 → Type 0
Goes symbols built tokens left next behind = chains.Leads grammar16 symbols built tokens left next behind

-- the word doesn't go on with these tokens
abbrev pub Calm : Word → List Seen16 → Type 0
Calm w tokens = closings.calm grammar16 closing16 w tokens ≡ true

-- wherever the word is to be found, it is read on these tokens, and this value is built
abbrev pub Reads : (w : Word) → Value w → List Seen16 → Type 0
Reads w value tokens =
    (symbols : List Sym) (b : Built) (rest : List Seen16) → Goes (symbol.Word w ∷ symbols) b (tokens ++ rest) symbols (after_word w value b) rest

-- the same, before tokens that the word doesn't go on with
abbrev pub ReadsCalm : (w : Word) → Value w → List Seen16 → Type 0
ReadsCalm w value tokens =
    (symbols : List Sym) (b : Built) (rest : List Seen16) → Calm w rest → Goes (symbol.Word w ∷ symbols) b (tokens ++ rest) symbols (after_word w value b) rest

-- one after the other
infixr 5 ◌▷◌
pub ◌▷◌ : {xs ys zs : List Sym} {b c d : Built} {ts us vs : List Seen16} → Goes xs b ts ys c us → Goes ys c us zs d vs → Goes xs b ts zs d vs
f ▷ g = chains.then f g

-- Tokens that are all known are taken in one go: the equation closes by `refl`.
pub reads : (known : List Seen16) {symbols left : List Sym} {b next : Built} {tokens : List Seen16} → chains.settles (move grammar16) symbols b known ≡ Some (left, next) → Goes symbols b (known ++ tokens) left next tokens
reads known e = chains.reads grammar16 known e

-- an action is done
pub does : {action : Action} {symbols : List Sym} {b : Built} {tokens : List Seen16} → Goes (Put action ∷ symbols) b tokens symbols (grammar16.put action b) tokens
does {action} {symbols} {b} {tokens} = chains.put grammar16 action symbols b tokens

-- the same, of tokens that are written in another way
pub from : {symbols left : List Sym} {b c : Built} {us behind : List Seen16} (tokens : List Seen16) → tokens ≡ us → Goes symbols b us left c behind → Goes symbols b tokens left c behind
from {symbols} {left} {b} {c} {us} {behind} tokens e g = subst (λ ts. Goes symbols b ts left c behind) (sym e) g

-- the same, of what is built and is written in another way
pub giving : {symbols left : List Sym} {b c d : Built} {us behind : List Seen16} → c ≡ d → Goes symbols b us left c behind → Goes symbols b us left d behind
giving {symbols} {left} {b} {c} {d} {us} {behind} e g = subst (λ x. Goes symbols b us left x behind) e g

-- a word that may stand for no token does so before tokens that it doesn't take
pub skips : (w : Word) (symbols : List Sym) (b : Built) (tokens : List Seen16) → stands w ≡ true → grammar16.otherwise w ≡ Pass → Calm w tokens → Goes (symbol.Word w ∷ symbols) b tokens symbols b tokens
skips w symbols b tokens s o c = closings.pass grammar16 closing16 closed16 w symbols b tokens s o c

-- the same for one that does an action then
pub builds : (w : Word) (action : Action) (symbols : List Sym) (b : Built) (tokens : List Seen16) → stands w ≡ true → grammar16.otherwise w ≡ Build action → Calm w tokens → Goes (symbol.Word w ∷ symbols) b tokens symbols (grammar16.put action b) tokens
builds w action symbols b tokens s o c = closings.build grammar16 closing16 closed16 w action symbols b tokens s o c

-- a word that takes no more at its end than another doesn't go on with what the other doesn't go on with
pub calmer : (w other : Word) (tokens : List Seen16) → closings.subset grammar16 closing16 (ends w) (ends other) ≡ true → Calm other tokens → Calm w tokens
calmer w other tokens s c = closings.subset_calm grammar16 closing16 w other tokens s c

-- both of two tests that hold together
pub both : (a b : Bool) → (a && b) ≡ true → (a ≡ true) × (b ≡ true)
both true b h = (refl, h)
both false b h = cc

-- what is put behind an open list one by one is put behind it as a whole
pub extended_is : {A : Type 0} (xs list : List A) (lists : List (List A)) → extended_by xs (list ∷ lists) ≡ (list ++ xs) ∷ lists
extended_is [] list lists = ap (λ l. l ∷ lists) (sym (append-nil list))
extended_is (x ∷ xs) list lists = extended_is xs (list ++ x ∷ []) lists ∙ ap (λ l. l ∷ lists) (append_assoc list (x ∷ []) xs)

-- the tokens of a list, the first part in front
pub first_of : {A : Type 0} (written : A → List Seen16) (x : A) (xs : List A) (rest : List Seen16) → flat_map written (x ∷ xs) ++ rest ≡ written x ++ (flat_map written xs ++ rest)
first_of written x xs rest = append_assoc (written x) (flat_map written xs) rest

-- a text that passes the test for a word is that word
pub is_word : (word text : List ℕ) → bytes_eq word text ≡ true → text ≡ word
is_word word text h = sym ((bytes_eq-Decides word text).0 h)

same_text : (text : List ℕ) → bytes_eq text text ≡ true
same_text text = (bytes_eq-Decides text text).1 refl

-- The word is read by the row of this class.
takes_fit : (w : Word) (c : Class) (more symbols : List Sym) (b : Built) (token : Seen16) (tokens : List Seen16)
    → first_fit grammar16 token b (lines_of grammar16 (grammar16.rows w)) ≡ Some (c, more)
    → Goes (symbol.Word w ∷ symbols) b (token ∷ tokens) (more ++ symbols) (shift c token b) tokens
takes_fit w c more symbols b token tokens e =
    chains.takes grammar16 (symbol.Word w) symbols more b (shift c token b) token tokens (chains.fits grammar16 w token b (c, more) e)

-- The word is read by the row of this class, where the token is of the class by what is built and of no class of a row before:
-- the second equation closes by `refl`.
pub takes_row : (w : Word) (c : Class) (more : List Sym) (other : Option (Class × List Sym)) (symbols : List Sym) (b : Built) (token : Seen16) (tokens : List Seen16)
    → accepts c token b ≡ true
    → first_fit grammar16 token b (lines_of grammar16 (grammar16.rows w)) ≡ cond (accepts c token b) (Some (c, more)) other
    → Goes (symbol.Word w ∷ symbols) b (token ∷ tokens) (more ++ symbols) (shift c token b) tokens
takes_row w c more other symbols b token tokens a e =
    takes_fit w c more symbols b token tokens (e ∙ ap (λ (t : Bool). cond t (Some (c, more)) other) a)

-- The same past one row, whose test fails.
pub takes_past : (test : Bool) (w : Word) (c : Class) (more : List Sym) (other : Option (Class × List Sym)) (symbols : List Sym) (b : Built) (token : Seen16) (tokens : List Seen16)
    → test ≡ false
    → first_fit grammar16 token b (lines_of grammar16 (grammar16.rows w)) ≡ cond test other (Some (c, more))
    → Goes (symbol.Word w ∷ symbols) b (token ∷ tokens) (more ++ symbols) (shift c token b) tokens
takes_past test w c more other symbols b token tokens f e =
    takes_fit w c more symbols b token tokens (e ∙ ap (λ (t : Bool). cond t other (Some (c, more))) f)

-- The same past two.
pub takes_past_two : (test second : Bool) (w : Word) (c : Class) (more : List Sym) (other another : Option (Class × List Sym)) (symbols : List Sym) (b : Built) (token : Seen16) (tokens : List Seen16)
    → test ≡ false → second ≡ false
    → first_fit grammar16 token b (lines_of grammar16 (grammar16.rows w)) ≡ cond test other (cond second another (Some (c, more)))
    → Goes (symbol.Word w ∷ symbols) b (token ∷ tokens) (more ++ symbols) (shift c token b) tokens
takes_past_two test second w c more other another symbols b token tokens f g e =
    takes_fit w c more symbols b token tokens
    (e ∙ ap (λ (t : Bool). cond t other (cond second another (Some (c, more)))) f ∙ ap (λ (t : Bool). cond t another (Some (c, more))) g)

-- A word is read as another, whose rows are its last: the equations close by `refl`.
pub like : (w other : Word) (before : Rows) (more symbols : List Sym) (b : Built) (token : Seen16) (tokens : List Seen16) (fit : Class × List Sym)
    → grammar16.rows w ≡ before ++ Like other more ∷ []
    → first_fit grammar16 token b (lines_of grammar16 before) ≡ None
    → lines_of grammar16 (grammar16.rows other) ≡ plain_lines (grammar16.rows other)
    → first_fit grammar16 token b (plain_lines (grammar16.rows other)) ≡ Some fit
    → Goes (symbol.Word w ∷ symbols) b (token ∷ tokens) (symbol.Word other ∷ (more ++ symbols)) b (token ∷ tokens)
like w other before more symbols b token tokens fit is none plain some = chains.like grammar16 w other before [] more symbols b token tokens fit is none plain some

-- The same, where the row of the other takes the token by what is built.
pub like_row : (w other : Word) (before : Rows) (more symbols : List Sym) (b : Built) (token : Seen16) (tokens : List Seen16) (c : Class) (part : List Sym) (another : Option (Class × List Sym))
    → grammar16.rows w ≡ before ++ Like other more ∷ []
    → first_fit grammar16 token b (lines_of grammar16 before) ≡ None
    → lines_of grammar16 (grammar16.rows other) ≡ plain_lines (grammar16.rows other)
    → accepts c token b ≡ true
    → first_fit grammar16 token b (plain_lines (grammar16.rows other)) ≡ cond (accepts c token b) (Some (c, part)) another
    → Goes (symbol.Word w ∷ symbols) b (token ∷ tokens) (symbol.Word other ∷ (more ++ symbols)) b (token ∷ tokens)
like_row w other before more symbols b token tokens c part another is none plain a e =
    like w other before more symbols b token tokens (c, part) is none plain (e ∙ ap (λ (t : Bool). cond t (Some (c, part)) another) a)

-- The same whether a row of the other fits or not, where neither may stand for no token.
pub like_end : (w other : Word) (before : Rows) (more symbols : List Sym) (b : Built) (token : Seen16) (tokens : List Seen16)
    → grammar16.rows w ≡ before ++ Like other more ∷ []
    → first_fit grammar16 token b (lines_of grammar16 before) ≡ None
    → lines_of grammar16 (grammar16.rows other) ≡ plain_lines (grammar16.rows other)
    → grammar16.otherwise w ≡ Refuse
    → grammar16.otherwise other ≡ Refuse
    → Goes (symbol.Word w ∷ symbols) b (token ∷ tokens) (symbol.Word other ∷ (more ++ symbols)) b (token ∷ tokens)
like_end w other before more symbols b token tokens is none plain refuses too = chains.like_last grammar16 w other before more symbols b token tokens is none plain refuses too

-- a list with commas in front, where the word goes on with no comma
pub calm_commas : {A : Type 0} (w : Word) (written : A → List Seen16) (xs : List A) (rest : List Seen16) → Calm w (comma ∷ []) → Calm w rest → Calm w (after_commas written xs ++ rest)
calm_commas w written [] rest c d = d
calm_commas w written (x ∷ xs) rest c d = c

-- words that stand once

or_left : (a b : Bool) → a ≡ true → (a || b) ≡ true
or_left true b h = refl
or_left false b h = cc

or_right : (a b : Bool) → b ≡ true → (a || b) ≡ true
or_right true b h = refl
or_right false b h = h

neither : (a b : Bool) → a ≡ false → b ≡ false → (a || b) ≡ false
neither true b g h = cc
neither false b g h = h

stands_there : (text : List ℕ) (before more : List (List ℕ)) → is_among text (before ++ text ∷ more) ≡ true
stands_there text [] more = or_left (bytes_eq text text) (is_among text more) (same_text text)
stands_there text (other ∷ before) more = or_right (bytes_eq text other) (is_among text (before ++ text ∷ more)) (stands_there text before more)

-- a text of texts that are all different is not among those before it
pub is_new_text : (before : List (List ℕ)) (text : List ℕ) (more : List (List ℕ)) → all_different (before ++ text ∷ more) ≡ true → is_among text before ≡ false
is_new_text [] text more h = refl
is_new_text (other ∷ before) text more h =
    let p = both (not (is_among other (before ++ text ∷ more))) (all_different (before ++ text ∷ more)) h in
    neither (bytes_eq text other) (is_among text before) (go (bytes_eq text other) refl p.0) (is_new_text before text more p.1)
  where
    go : (a : Bool) → bytes_eq text other ≡ a → not (is_among other (before ++ text ∷ more)) ≡ true → a ≡ false
    go false e n = refl
    go true e n =
        let s : is_among other (before ++ text ∷ more) ≡ true =
        subst (λ t. is_among t (before ++ text ∷ more) ≡ true) (sym (is_word text other e)) (stands_there text before more) in
        cc

newest_extended : {A : Type 0} (x : A) (lists : List (List A)) → newest [] (extended (x ∷ []) lists) ≡ newest [] lists ++ x ∷ []
newest_extended x [] = refl
newest_extended x (list ∷ lists) = refl

-- the words of the newest list and those that follow are the same once the next is put behind the list
pub next_words : {A : Type 0} (word : A → List ℕ) (x : A) (xs : List A) (lists : List (List A))
    → all_different (map word (newest [] lists) ++ map word (x ∷ xs)) ≡ true → all_different (map word (newest [] (extended (x ∷ []) lists)) ++ map word xs) ≡ true
next_words word x xs lists h =
    subst (λ ws. all_different ws ≡ true)
    (sym (ap (λ ys. map word ys ++ map word xs) (newest_extended x lists)
    ∙ ap (λ ws. ws ++ map word xs) (map-append word (newest [] lists) (x ∷ []))
    ∙ append_assoc (map word (newest [] lists)) (word x ∷ []) (map word xs)))
    h

pub not_true : (a : Bool) → not a ≡ true → a ≡ false
not_true true h = cc
not_true false h = refl
