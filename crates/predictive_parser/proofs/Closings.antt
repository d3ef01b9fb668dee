-- That what is read before a refusal can be completed: from tokens that close each word, and from tests
-- of the rows that compute.
use Rattle.std.proofs.Common.{◌≡◌, ℕ, ◌+◌, Bool, true, false, not, cond, nat_eq, ◌&&◌, ◌||◌, List, [], ◌∷◌, ◌++◌, get_or, Option, Some, None, Ok, Err, refl, sym, ap, ◌∙◌, subst, append_assoc, eqb-true}
use Rattle.predictive_parser.specs.declared.symbol.Symbol.{Symbol}
use Rattle.predictive_parser.specs.declared.symbol.Symbol.TheVariants.{Token, Put, Word}
use Rattle.predictive_parser.specs.declared.symbol.Otherwise.{Otherwise}
use Rattle.predictive_parser.specs.declared.symbol.Otherwise.TheVariants.{Refuse, Pass, Build}
use Rattle.predictive_parser.specs.Machine.{Takes, Passes, Stops, moved, settle, ended, finish, goes_on, run, next_of}
use Rattle.predictive_parser.specs.Grammar.{Grammar, Line, lines_of, first_fit, passed, taken, move, parse}
use Rattle.predictive_parser.proofs.Refusals.{CanEnd, BeginsAt, begins}
use Rattle.predictive_parser.proofs.Chains.{Leads, passes}

-- How each word can be closed, and what it may still take at its end. A kind is a set of tokens, which
-- is named by its number in the list of kinds; one past the list has every token.
pub record Closing {C A W T B : Type 0} (grammar : Grammar C A W T B) : Type 0 where
  -- whether a token is of a class whatever is built, where that is known
  pub foresees : C → T → Option Bool
  pub foreseen : (class : C) (token : T) (answer : Bool) (built : B) → foresees class token ≡ Some answer → grammar.accepts class token built ≡ answer
  -- whether the word may be left to find by itself; one that does not gives its rows to other words
  pub stands : W → Bool
  -- a token of a class
  pub sample : C → T
  -- tokens that a word stands for: none where it may stand for none
  pub closing : W → List T
  pub kinds : List (T → Bool)
  -- a kind that has each token of the class
  pub kind : C → ℕ
  pub of_kind : (class : C) (token : T) (built : B) → grammar.accepts class token built ≡ true → get_or kinds (kind class) (λ t. true) token ≡ true
  -- the kinds of tokens that the word may still take at its end
  pub ends : W → List ℕ

module _ {C A W T B : Type 0} (grammar : Grammar C A W T B) (closing : Closing grammar) where
  abbrev pub close : Symbol C A W → List T
  close (Token class) = closing.sample class ∷ []
  close (Put action) = []
  close (Word word) = closing.closing word

  -- tokens that close the symbols
  abbrev pub closings : List (Symbol C A W) → List T
  closings [] = []
  closings (symbol ∷ symbols) = close symbol ++ closings symbols

  abbrev pub is_of_any : List ℕ → T → Bool
  is_of_any [] token = false
  is_of_any (kind ∷ kinds) token = get_or closing.kinds kind (λ t. true) token || is_of_any kinds token

  abbrev pub may_take : List ℕ → Option T → Bool
  may_take kinds None = false
  may_take kinds (Some token) = is_of_any kinds token

  -- the word doesn't go on with these tokens
  abbrev pub calm : W → List T → Bool
  calm word tokens = not (may_take (closing.ends word) (next_of tokens))

  abbrev pub member : ℕ → List ℕ → Bool
  member kind [] = false
  member kind (other ∷ others) = nat_eq kind other || member kind others

  abbrev pub subset : List ℕ → List ℕ → Bool
  subset [] others = true
  subset (kind ∷ kinds) others = member kind others && subset kinds others

  abbrev pub is_true : Option Bool → Bool
  is_true None = false
  is_true (Some answer) = answer

  -- a symbol closes before these tokens
  abbrev pub ready : Symbol C A W → List T → Bool
  ready (Token class) tokens = is_true (closing.foresees class (closing.sample class))
  ready (Put action) tokens = true
  ready (Word word) tokens = closing.stands word && calm word tokens

  abbrev pub good : List (Symbol C A W) → Bool
  good [] = true
  good (symbol ∷ symbols) = ready symbol (closings symbols) && good symbols

  -- a symbol of a row closes before these tokens; at the end of a row a word takes no more than the
  -- row's word
  abbrev pub fits_in : W → Symbol C A W → List T → Bool
  fits_in word (Token class) tokens = is_true (closing.foresees class (closing.sample class))
  fits_in word (Put action) tokens = true
  fits_in word (Word part) [] = closing.stands part && subset (closing.ends part) (closing.ends word)
  fits_in word (Word part) (token ∷ tokens) = closing.stands part && not (is_of_any (closing.ends part) token)

  abbrev pub row_fits : W → List (Symbol C A W) → Bool
  row_fits word [] = true
  row_fits word (symbol ∷ symbols) = fits_in word symbol (closings symbols) && row_fits word symbols

  abbrev pub rows_fit : W → T → List (Line C A W T) → Bool
  rows_fit word token [] = true
  rows_fit word token (line ∷ lines) = row_fits word (line.rest token) && rows_fit word token lines

  -- what the rows of a word begin with, it may still take where it stands for no token
  abbrev pub firsts_end : W → List (Line C A W T) → Bool
  firsts_end word [] = true
  firsts_end word (line ∷ lines) = member (closing.kind line.first) (closing.ends word) && firsts_end word lines

  -- the closing tokens are those of the first line that fits the first of them
  abbrev pub ClosesAnswer : Option Bool → Type 0 → Type 0 → Type 0
  ClosesAnswer None here later = ⊥
  ClosesAnswer (Some true) here later = here
  ClosesAnswer (Some false) here later = later

  abbrev pub ClosesBy : T → List T → List (Line C A W T) → Type 0
  ClosesBy token tokens [] = ⊥
  ClosesBy token tokens (line ∷ lines) = ClosesAnswer (closing.foresees line.first token) (closings (line.rest token) ≡ tokens) (ClosesBy token tokens lines)

  abbrev pub ClosesFirst : List T → List (Line C A W T) → Type 0
  ClosesFirst [] lines = ⊥
  ClosesFirst (token ∷ tokens) lines = ClosesBy token tokens lines

  abbrev pub has_no_token : List T → Bool
  has_no_token [] = true
  has_no_token (token ∷ tokens) = false

  abbrev pub ClosesItself : W → Otherwise A → Type 0
  ClosesItself word Refuse = ClosesFirst (closing.closing word) (lines_of grammar (grammar.rows word))
  ClosesItself word Pass = (has_no_token (closing.closing word) && firsts_end word (lines_of grammar (grammar.rows word))) ≡ true
  ClosesItself word (Build action) = (has_no_token (closing.closing word) && firsts_end word (lines_of grammar (grammar.rows word))) ≡ true

  -- The tests of a word. For a word that is written out each of the two closes by `refl`.
  abbrev pub IsClosed : W → Type 0
  IsClosed word = ((token : T) → rows_fit word token (lines_of grammar (grammar.rows word)) ≡ true) × ClosesItself word (grammar.otherwise word)

  both : (a b : Bool) → (a && b) ≡ true → (a ≡ true) × (b ≡ true)
  both true b h = (refl, h)
  both false b h = cc

  and_of : (a b : Bool) → a ≡ true → b ≡ true → (a && b) ≡ true
  and_of true b g h = h
  and_of false b g h = cc

  or_left : (a b : Bool) → a ≡ true → (a || b) ≡ true
  or_left true b h = refl
  or_left false b h = cc

  or_right : (a b : Bool) → b ≡ true → (a || b) ≡ true
  or_right true b h = refl
  or_right false b h = h

  member_is : (kind : ℕ) (kinds : List ℕ) (token : T) → member kind kinds ≡ true → get_or closing.kinds kind (λ t. true) token ≡ true → is_of_any kinds token ≡ true
  member_is kind [] token m h = cc
  member_is kind (other ∷ others) token m h = go (nat_eq kind other) refl m (λ k. member_is kind others token k h)
    where
      go : (b : Bool) → nat_eq kind other ≡ b → (b || member kind others) ≡ true → (member kind others ≡ true → is_of_any others token ≡ true) → is_of_any (other ∷ others) token ≡ true
      go true e k f = or_left (get_or closing.kinds other (λ t. true) token) (is_of_any others token) (subst (λ n. get_or closing.kinds n (λ t. true) token ≡ true) (eqb-true kind other e) h)
      go false e k f = or_right (get_or closing.kinds other (λ t. true) token) (is_of_any others token) (f k)

  subset_is : (kinds others : List ℕ) (token : T) → subset kinds others ≡ true → is_of_any kinds token ≡ true → is_of_any others token ≡ true
  subset_is [] others token s h = cc
  subset_is (kind ∷ kinds) others token s h = go (get_or closing.kinds kind (λ t. true) token) refl h (subset_is kinds others token (both _ _ s).1)
    where
      go : (b : Bool) → get_or closing.kinds kind (λ t. true) token ≡ b → (b || is_of_any kinds token) ≡ true → (is_of_any kinds token ≡ true → is_of_any others token ≡ true) → is_of_any others token ≡ true
      go true e k f = member_is kind others token (both _ _ s).0 e
      go false e k f = f k

  not_true : (a : Bool) → not a ≡ true → a ≡ false
  not_true true h = cc
  not_true false h = refl

  -- what doesn't take the first of these tokens, as one that takes no less doesn't
  pub subset_calm : (part word : W) (tokens : List T) → subset (closing.ends part) (closing.ends word) ≡ true → calm word tokens ≡ true → calm part tokens ≡ true
  subset_calm part word [] s h = refl
  subset_calm part word (token ∷ tokens) s h = go (is_of_any (closing.ends part) token) refl
    where
      go : (b : Bool) → is_of_any (closing.ends part) token ≡ b → not b ≡ true
      go false e = refl
      go true e = let k : is_of_any (closing.ends word) token ≡ true = subset_is (closing.ends part) (closing.ends word) token s e in
          let j : is_of_any (closing.ends word) token ≡ false = not_true _ h in cc

  closings_append : (front back : List (Symbol C A W)) → closings (front ++ back) ≡ closings front ++ closings back
  closings_append [] back = refl
  closings_append (symbol ∷ front) back = ap (λ ts. close symbol ++ ts) (closings_append front back) ∙ sym (append_assoc (close symbol) (closings front) (closings back))

  ready_in : (word : W) (symbol : Symbol C A W) (front back : List T) → fits_in word symbol front ≡ true → calm word back ≡ true → ready symbol (front ++ back) ≡ true
  ready_in word (Token class) front back f h = f
  ready_in word (Put action) front back f h = refl
  ready_in word (Word part) [] back f h =
      let p = both (closing.stands part) (subset (closing.ends part) (closing.ends word)) f in
      and_of (closing.stands part) (calm part back) p.0 (subset_calm part word back p.1 h)
  ready_in word (Word part) (token ∷ front) back f h = f

  good_append : (word : W) (front back : List (Symbol C A W)) → row_fits word front ≡ true → calm word (closings back) ≡ true → good back ≡ true → good (front ++ back) ≡ true
  good_append word [] back f h g = g
  good_append word (symbol ∷ front) back f h g =
      let p = both (fits_in word symbol (closings front)) (row_fits word front) f in
      and_of (ready symbol (closings (front ++ back))) (good (front ++ back))
      (subst (λ ts. ready symbol ts ≡ true) (sym (closings_append front back)) (ready_in word symbol (closings front) (closings back) p.0 h))
      (good_append word front back p.1 h g)

  fit_fits : (word : W) (token : T) (built : B) (fit : C × List (Symbol C A W)) (lines : List (Line C A W T)) → rows_fit word token lines ≡ true → first_fit grammar token built lines ≡ Some fit → row_fits word fit.1 ≡ true
  fit_fits word token built fit [] r e = cc
  fit_fits word token built fit (line ∷ lines) r e = go (grammar.accepts line.first token built) e (fit_fits word token built fit lines (both _ _ r).1)
    where
      go : (b : Bool) → cond b (Some (line.first, line.rest token)) (first_fit grammar token built lines) ≡ Some fit → (first_fit grammar token built lines ≡ Some fit → row_fits word fit.1 ≡ true) → row_fits word fit.1 ≡ true
      go true h f = let q : fit ≡ (line.first, line.rest token) = cc in subst (λ (p : C × List (Symbol C A W)). row_fits word p.1 ≡ true) (sym q) (both _ _ r).0
      go false h f = f h

  -- no line fits a token that the word doesn't take at its end
  none_fits : (word : W) (token : T) (built : B) (lines : List (Line C A W T)) → firsts_end word lines ≡ true → is_of_any (closing.ends word) token ≡ false → first_fit grammar token built lines ≡ None
  none_fits word token built [] f h = refl
  none_fits word token built (line ∷ lines) f h = go (grammar.accepts line.first token built) refl (none_fits word token built lines (both _ _ f).1 h)
    where
      go : (b : Bool) → grammar.accepts line.first token built ≡ b → first_fit grammar token built lines ≡ None → cond b (Some (line.first, line.rest token)) (first_fit grammar token built lines) ≡ None
      go true e k =
          let j : is_of_any (closing.ends word) token ≡ true = member_is (closing.kind line.first) (closing.ends word) token (both _ _ f).0 (closing.of_kind line.first token built e) in
          cc
      go false e k = k

  module _ (closed : (word : W) → closing.stands word ≡ true → IsClosed word) where
    -- a word that is left to find stands by itself, and is calm before what closes the others
    stands_calm : (word : W) (symbols : List (Symbol C A W)) → good (Word word ∷ symbols) ≡ true → (closing.stands word ≡ true) × (calm word (closings symbols) ≡ true)
    stands_calm word symbols g = both (closing.stands word) (calm word (closings symbols)) (both (closing.stands word && calm word (closings symbols)) (good symbols) g).0

    passing : (symbol : Symbol C A W) (symbols : List (Symbol C A W)) → good (symbol ∷ symbols) ≡ true → good symbols ≡ true
    passing symbol symbols g = (both (ready symbol (closings symbols)) (good symbols) g).1

    word_taking : (word : W) (symbols : List (Symbol C A W)) (built : B) (token : T) (fit : C × List (Symbol C A W)) → first_fit grammar token built (lines_of grammar (grammar.rows word)) ≡ Some fit → good (Word word ∷ symbols) ≡ true → good (fit.1 ++ symbols) ≡ true
    word_taking word symbols built token fit e g =
        let p = both (ready (Word word) (closings symbols)) (good symbols) g in
        let q = stands_calm word symbols g in
        good_append word fit.1 symbols (fit_fits word token built fit (lines_of grammar (grammar.rows word)) ((closed word q.0).0 token) e) q.1 p.1

    never_takes : (o : Otherwise A) (built next : B) (more : List (Symbol C A W)) → passed grammar o built ≡ Takes more next → ⊥
    never_takes Refuse built next more h = cc
    never_takes Pass built next more h = cc
    never_takes (Build action) built next more h = cc

    taking : (symbol : Symbol C A W) (symbols more : List (Symbol C A W)) (built next : B) (token : T) → move grammar symbol (Some token) built ≡ Takes more next → good (symbol ∷ symbols) ≡ true → good (more ++ symbols) ≡ true
    taking (Token class) symbols more built next token e g = go (grammar.accepts class token built) e
      where
        go : (b : Bool) → cond b (Takes [] (grammar.shift class token built)) Stops ≡ Takes more next → good (more ++ symbols) ≡ true
        go true h = let q : [] ≡ more = cc in subst (λ ys. good (ys ++ symbols) ≡ true) q (passing (Token class) symbols g)
        go false h = cc
    taking (Put action) symbols more built next token e g = cc
    taking (Word word) symbols more built next token e g = go (first_fit grammar token built (lines_of grammar (grammar.rows word))) refl e
      where
        go : (o : Option (C × List (Symbol C A W))) → first_fit grammar token built (lines_of grammar (grammar.rows word)) ≡ o → taken grammar o word token built ≡ Takes more next → good (more ++ symbols) ≡ true
        go (Some fit) s h = let q : fit.1 ≡ more = cc in subst (λ ys. good (ys ++ symbols) ≡ true) q (word_taking word symbols built token fit s g)
        go None s h = absurd (never_takes (grammar.otherwise word) built next more h)

    -- a word that stands for no token, before tokens that it doesn't take
    calm_passes : (word : W) (symbols : List (Symbol C A W)) (built next : B) (tokens : List T) → firsts_end word (lines_of grammar (grammar.rows word)) ≡ true → passed grammar (grammar.otherwise word) built ≡ Passes next → calm word tokens ≡ true → Leads grammar (Word word ∷ symbols) built tokens symbols next tokens
    calm_passes word symbols built next [] f e h = passes grammar (Word word) symbols built next [] e
    calm_passes word symbols built next (token ∷ tokens) f e h =
        passes grammar (Word word) symbols built next (token ∷ tokens)
        (ap (λ o. taken grammar o word token built) (none_fits word token built (lines_of grammar (grammar.rows word)) f (not_true _ h)) ∙ e)

    own : (word : W) (o : Otherwise A) → closing.stands word ≡ true → grammar.otherwise word ≡ o → ClosesItself word o
    own word o t e = subst (ClosesItself word) e (closed word t).1

    -- A word that may pass does so before tokens that it doesn't take.
    pub pass : (word : W) (symbols : List (Symbol C A W)) (built : B) (tokens : List T) → closing.stands word ≡ true → grammar.otherwise word ≡ Pass → calm word tokens ≡ true → Leads grammar (Word word ∷ symbols) built tokens symbols built tokens
    pass word symbols built tokens t e h = calm_passes word symbols built built tokens (both _ _ (own word Pass t e)).1 (ap (λ o. passed grammar o built) e) h

    -- The same for one that does an action then.
    pub build : (word : W) (action : A) (symbols : List (Symbol C A W)) (built : B) (tokens : List T) → closing.stands word ≡ true → grammar.otherwise word ≡ Build action → calm word tokens ≡ true → Leads grammar (Word word ∷ symbols) built tokens symbols (grammar.put action built) tokens
    build word action symbols built tokens t e h = calm_passes word symbols built (grammar.put action built) tokens (both _ _ (own word (Build action) t e)).1 (ap (λ o. passed grammar o built) e) h

    is_empty : (tokens : List T) → has_no_token tokens ≡ true → tokens ≡ []
    is_empty [] h = refl
    is_empty (token ∷ tokens) h = cc

    sure : (class : C) (token : T) (built : B) → is_true (closing.foresees class token) ≡ true → grammar.accepts class token built ≡ true
    sure class token built h = go (closing.foresees class token) refl h
      where
        go : (o : Option Bool) → closing.foresees class token ≡ o → is_true o ≡ true → grammar.accepts class token built ≡ true
        go None e k = cc
        go (Some answer) e k = closing.foreseen class token answer built e ∙ k

    -- the line that closes a word fits, and the rest of the closing tokens are those of its symbols
    pub record ClosingFit (token : T) (tokens : List T) (built : B) (lines : List (Line C A W T)) : Type 0 where
      pub fit : C × List (Symbol C A W)
      pub found : first_fit grammar token built lines ≡ Some fit
      pub rest : closings fit.1 ≡ tokens

    closing_fit : (token : T) (tokens : List T) (built : B) (lines : List (Line C A W T)) → ClosesBy token tokens lines → ClosingFit token tokens built lines
    closing_fit token tokens built [] h = absurd h
    closing_fit token tokens built (line ∷ lines) h = go (closing.foresees line.first token) refl h (closing_fit token tokens built lines)
      where
        go : (o : Option Bool) → closing.foresees line.first token ≡ o → ClosesAnswer o (closings (line.rest token) ≡ tokens) (ClosesBy token tokens lines) → (ClosesBy token tokens lines → ClosingFit token tokens built lines) → ClosingFit token tokens built (line ∷ lines)
        go None e k f = absurd k
        go (Some true) e k f =
            record { fit = (line.first, line.rest token); found = ap (λ (b : Bool). cond b (Some (line.first, line.rest token)) (first_fit grammar token built lines)) (closing.foreseen line.first token true built e); rest = k }
        go (Some false) e k f =
            let r = f k in
            record { fit = r.fit; found = ap (λ (b : Bool). cond b (Some (line.first, line.rest token)) (first_fit grammar token built lines)) (closing.foreseen line.first token false built e) ∙ r.found; rest = r.rest }

    -- symbols that are closed by no token are done
    finish_closes : (symbols : List (Symbol C A W)) (built : B) → closings symbols ≡ [] → good symbols ≡ true → (end : B) × ((place : ℕ) → finish (move grammar) symbols built place ≡ Ok end)
    finish_closes [] built e g = (built, λ place. refl)
    finish_closes (Token class ∷ symbols) built e g = cc
    finish_closes (Put action ∷ symbols) built e g = finish_closes symbols (grammar.put action built) e g
    finish_closes (Word word ∷ symbols) built e g = go (grammar.otherwise word) refl (λ next k. finish_closes symbols next k (passing (Word word) symbols g))
      where
        stand : closing.stands word ≡ true
        stand = (stands_calm word symbols g).0

        go : (o : Otherwise A) → grammar.otherwise word ≡ o → ((next : B) → closings symbols ≡ [] → (end : B) × ((place : ℕ) → finish (move grammar) symbols next place ≡ Ok end)) → (end : B) × ((place : ℕ) → finish (move grammar) (Word word ∷ symbols) built place ≡ Ok end)
        go Refuse h f = none (closing.closing word) (own word Refuse stand h) e
          where
            none : (us : List T) → ClosesFirst us (lines_of grammar (grammar.rows word)) → us ++ closings symbols ≡ [] → (end : B) × ((place : ℕ) → finish (move grammar) (Word word ∷ symbols) built place ≡ Ok end)
            none [] c q = absurd c
            none (token ∷ us) c q = cc
        go Pass h f =
            let u = is_empty _ (both _ _ (own word Pass stand h)).0 in
            let r = f built (sym (ap (λ us. us ++ closings symbols) u) ∙ e) in
            (r.0, λ place. ap (λ o. ended (move grammar) (passed grammar o built) place (λ next. finish (move grammar) symbols next place)) h ∙ r.1 place)
        go (Build action) h f =
            let u = is_empty _ (both _ _ (own word (Build action) stand h)).0 in
            let r = f (grammar.put action built) (sym (ap (λ us. us ++ closings symbols) u) ∙ e) in
            (r.0, λ place. ap (λ o. ended (move grammar) (passed grammar o built) place (λ next. finish (move grammar) symbols next place)) h ∙ r.1 place)

    -- the first closing token is taken, and the others close what is left
    pub record Settled (symbols : List (Symbol C A W)) (built : B) (token : T) (tokens : List T) : Type 0 where
      pub left : List (Symbol C A W)
      pub next : B
      pub found : settle (move grammar) symbols built token ≡ Some (left, next)
      pub rest : closings left ≡ tokens
      pub stays : good left ≡ true

    settle_closes : (symbols : List (Symbol C A W)) (built : B) (token : T) (tokens : List T) → closings symbols ≡ token ∷ tokens → good symbols ≡ true → Settled symbols built token tokens
    settle_closes [] built token tokens e g = cc
    settle_closes (Token class ∷ symbols) built token tokens e g =
        let p = both (ready (Token class) (closings symbols)) (good symbols) g in
        let q : closing.sample class ≡ token = cc in
        let ok : grammar.accepts class token built ≡ true = subst (λ t. grammar.accepts class t built ≡ true) q (sure class (closing.sample class) built p.0) in
        record {
          left = symbols;
          next = grammar.shift class token built;
          found = ap (λ (b : Bool). moved (move grammar) (cond b (Takes [] (grammar.shift class token built)) Stops) symbols (λ c. settle (move grammar) symbols c token)) ok;
          rest = cc;
          stays = p.1;
        }
    settle_closes (Put action ∷ symbols) built token tokens e g =
        let r = settle_closes symbols (grammar.put action built) token tokens e g in
        record { left = r.left; next = r.next; found = r.found; rest = r.rest; stays = r.stays }
    settle_closes (Word word ∷ symbols) built token tokens e g = go (grammar.otherwise word) refl (λ next k. settle_closes symbols next token tokens k (both _ _ g).1)
      where
        stand : closing.stands word ≡ true
        stand = (stands_calm word symbols g).0

        first : (us : List T) → ClosesFirst us (lines_of grammar (grammar.rows word)) → us ++ closings symbols ≡ token ∷ tokens → Settled (Word word ∷ symbols) built token tokens
        first [] c q = absurd c
        first (u ∷ us) c q =
            let t : u ≡ token = cc in
            let r = closing_fit token us built (lines_of grammar (grammar.rows word)) (subst (λ v. ClosesBy v us (lines_of grammar (grammar.rows word))) t c) in
            let k : us ++ closings symbols ≡ tokens = cc in
            record {
              left = r.fit.1 ++ symbols;
              next = grammar.shift r.fit.0 token built;
              found = ap (λ o. moved (move grammar) (taken grammar o word token built) symbols (λ d. settle (move grammar) symbols d token)) r.found;
              rest = closings_append r.fit.1 symbols ∙ ap (λ vs. vs ++ closings symbols) r.rest ∙ k;
              stays = word_taking word symbols built token r.fit r.found g;
            }

        none : (next : B) → passed grammar (grammar.otherwise word) built ≡ Passes next → (has_no_token (closing.closing word) && firsts_end word (lines_of grammar (grammar.rows word))) ≡ true → (closings symbols ≡ token ∷ tokens → Settled symbols next token tokens) → Settled (Word word ∷ symbols) built token tokens
        none next h c f =
            let u = is_empty (closing.closing word) (both (has_no_token (closing.closing word)) (firsts_end word (lines_of grammar (grammar.rows word))) c).0 in
            let k : closings symbols ≡ token ∷ tokens = sym (ap (λ us. us ++ closings symbols) u) ∙ e in
            let w : not (is_of_any (closing.ends word) token) ≡ true = subst (λ us. calm word us ≡ true) k (stands_calm word symbols g).1 in
            let r = f k in
            record {
              left = r.left;
              next = r.next;
              found = ap (λ o. moved (move grammar) (taken grammar o word token built) symbols (λ d. settle (move grammar) symbols d token)) (none_fits word token built (lines_of grammar (grammar.rows word)) (both (has_no_token (closing.closing word)) (firsts_end word (lines_of grammar (grammar.rows word))) c).1 (not_true (is_of_any (closing.ends word) token) w))
                  ∙ ap (λ v. moved (move grammar) v symbols (λ d. settle (move grammar) symbols d token)) h ∙ r.found;
              rest = r.rest;
              stays = r.stays;
            }

        go : (o : Otherwise A) → grammar.otherwise word ≡ o → ((next : B) → closings symbols ≡ token ∷ tokens → Settled symbols next token tokens) → Settled (Word word ∷ symbols) built token tokens
        go Refuse h f = first (closing.closing word) (own word Refuse stand h) e
        go Pass h f = none built (ap (λ o. passed grammar o built) h) (own word Pass stand h) (f built)
        go (Build action) h f = none (grammar.put action built) (ap (λ o. passed grammar o built) h) (own word (Build action) stand h) (f (grammar.put action built))

    run_closes : (tokens : List T) (symbols : List (Symbol C A W)) (built : B) → closings symbols ≡ tokens → good symbols ≡ true → (end : B) × ((place : ℕ) → run (move grammar) symbols built place tokens ≡ Ok end)
    run_closes [] symbols built e g = finish_closes symbols built e g
    run_closes (token ∷ tokens) symbols built e g =
        let s = settle_closes symbols built token tokens e g in
        let r = run_closes tokens s.left s.next s.rest s.stays in
        (r.0, λ place. ap (λ o. goes_on (move grammar) o place (λ ys d. run (move grammar) ys d (place + 1) tokens)) s.found ∙ r.1 (place + 1))

    can_end : CanEnd (move grammar) (λ symbols built. good symbols ≡ true)
    can_end = record {
      passing = λ symbol symbols built next token e g. passing symbol symbols g;
      taking = taking;
      ends = λ symbols built g. let r = run_closes (closings symbols) symbols built refl g in (closings symbols, r.0, r.1);
    }

    -- the tokens before the place of a refusal can be completed
    pub begins_word : (word : W) (built : B) (tokens : List T) (at : ℕ) → closing.stands word ≡ true → parse grammar word built tokens ≡ Err at → BeginsAt (move grammar) (Word word ∷ []) built 0 tokens at
    begins_word word built tokens at t e =
        begins (move grammar) (λ symbols b. good symbols ≡ true) can_end tokens (Word word ∷ []) built 0 at (ap (λ b. (b && true) && true) t) e
