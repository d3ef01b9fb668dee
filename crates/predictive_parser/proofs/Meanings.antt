-- That what is read has the meaning that each word is given: once for every grammar, from one fact for
-- each row.
use Rattle.std.proofs.Common.{◌≡◌, ℕ, ◌+◌, Bool, true, false, cond, List, [], ◌∷◌, ◌++◌, map, Option, Some, None, Ok, refl, sym, ap, ◌∙◌, subst, append_assoc, append-nil}
use Rattle.predictive_parser.specs.declared.symbol.Symbol.{Symbol}
use Rattle.predictive_parser.specs.declared.symbol.Symbol.TheVariants.{Token, Put, Word}
use Rattle.predictive_parser.specs.declared.symbol.Otherwise.{Otherwise}
use Rattle.predictive_parser.specs.declared.symbol.Otherwise.TheVariants.{Refuse, Pass, Build}
use Rattle.predictive_parser.specs.Machine.{Move, Takes, Passes, Stops, moved, settle, ended, finish, goes_on, run}
use Rattle.predictive_parser.specs.Grammar.{Row, Plain, Like, Grammar, Line, with_more, plain_lines, lines_of, first_fit, passed, taken, move, parse}

-- What the words of a grammar stand for. A word stands for a value, as a tree; which tokens the value is
-- spelled with; and what is built behind them, where so much was built before.
pub record Meaning (W T B : Type 0) : Type 1 where
  pub Value : W → Type 0
  pub Spells : (word : W) → Value word → B → List T → Type 0
  pub after : (word : W) → Value word → B → B

-- the tokens of the classes that have only one
pub record Fixed {C A W T B : Type 0} (grammar : Grammar C A W T B) : Type 0 where
  pub only : C → Option T
  pub is_only : (class : C) (kept token : T) (built : B) → only class ≡ Some kept → grammar.accepts class token built ≡ true → token ≡ kept

module _ {C A W T B : Type 0} (grammar : Grammar C A W T B) (fixed : Fixed grammar) (meaning : Meaning W T B) where
  -- the symbols stand for these tokens, and build this
  abbrev pub MeansAll : List (Symbol C A W) → B → List T → B → Type 0
  MeansAll [] built tokens end = (tokens ≡ []) × (built ≡ end)
  MeansAll (Token class ∷ symbols) built tokens end =
      (token : T) × (more : List T) × (tokens ≡ token ∷ more) × (grammar.accepts class token built ≡ true) × MeansAll symbols (grammar.shift class token built) more end
  MeansAll (Put action ∷ symbols) built tokens end = MeansAll symbols (grammar.put action built) tokens end
  MeansAll (Word word ∷ symbols) built tokens end =
      (front : List T) × (back : List T) × (value : meaning.Value word) × (tokens ≡ front ++ back) × meaning.Spells word value built front × MeansAll symbols (meaning.after word value built) back end

  -- the word stands for these tokens, and builds this
  abbrev pub MeansWord : W → B → List T → B → Type 0
  MeansWord word built tokens end = (value : meaning.Value word) × meaning.Spells word value built tokens × (meaning.after word value built ≡ end)

  -- What is to be shown of symbols, where `goal` is wanted of the tokens and of what is built: a class
  -- with one token puts that token in front, another class any token of it, an action changes what is
  -- built, and a word brings its tokens, its value, and that they spell it.
  abbrev pub only_puts : List (Symbol C A W) → Bool
  only_puts [] = true
  only_puts (Token class ∷ symbols) = false
  only_puts (Put action ∷ symbols) = only_puts symbols
  only_puts (Word word ∷ symbols) = false

  abbrev pub joined : Bool → List T → List T → List T
  joined true front back = front
  joined false front back = front ++ back

  abbrev pub ShowsToken : Option T → C → B → (T → Type 0) → Type 0
  ShowsToken (Some kept) class built rest = rest kept
  ShowsToken None class built rest = (token : T) → grammar.accepts class token built ≡ true → rest token

  abbrev pub Shows : List (Symbol C A W) → B → (List T → List T) → (List T → B → Type 0) → Type 0
  Shows [] built before goal = goal (before []) built
  Shows (Token class ∷ symbols) built before goal =
      ShowsToken (fixed.only class) class built (λ token. Shows symbols (grammar.shift class token built) (λ more. before (token ∷ more)) goal)
  Shows (Put action ∷ symbols) built before goal = Shows symbols (grammar.put action built) before goal
  Shows (Word word ∷ symbols) built before goal =
      (front : List T) (value : meaning.Value word) → meaning.Spells word value built front → Shows symbols (meaning.after word value built) (λ more. before (joined (only_puts symbols) front more)) goal

  -- what is to be shown of a row of a word
  abbrev pub RowShows : W → B → Row C A W T → Type 0
  RowShows word built (Plain first rest) =
      ShowsToken (fixed.only first) first built (λ token. Shows (rest token) (grammar.shift first token built) (λ more. token ∷ more) (MeansWord word built))
  RowShows word built (Like other more) = Shows (Word other ∷ more) built (λ tokens. tokens) (MeansWord word built)

  abbrev pub RowsShow : W → B → List (Row C A W T) → Type 0
  RowsShow word built [] = Unit {0}
  RowsShow word built (row ∷ rows) = RowShows word built row × RowsShow word built rows

  -- what is to be shown of a word that may stand for no token
  abbrev pub NoneShows : W → B → Otherwise A → Type 0
  NoneShows word built Refuse = Unit {0}
  NoneShows word built Pass = MeansWord word built [] built
  NoneShows word built (Build action) = MeansWord word built [] (grammar.put action built)

  -- each row has the meaning of its word
  pub record IsRight : Type 0 where
    pub rows_mean : (word : W) (built : B) → RowsShow word built (grammar.rows word)
    pub none_means : (word : W) (built : B) → NoneShows word built (grammar.otherwise word)

  token_shown : (class : C) (built : B) (token : T) (rest : T → Type 0) → grammar.accepts class token built ≡ true → ShowsToken (fixed.only class) class built rest → rest token
  token_shown class built token rest ok s = go (fixed.only class) refl s
    where
      go : (o : Option T) → fixed.only class ≡ o → ShowsToken o class built rest → rest token
      go (Some kept) e h = subst rest (sym (fixed.is_only class kept token built e ok)) h
      go None e h = h token ok

  no_tokens : (symbols : List (Symbol C A W)) (built end : B) (tokens : List T) → only_puts symbols ≡ true → MeansAll symbols built tokens end → tokens ≡ []
  no_tokens [] built end tokens p m = m.0
  no_tokens (Token class ∷ symbols) built end tokens p m = cc
  no_tokens (Put action ∷ symbols) built end tokens p m = no_tokens symbols (grammar.put action built) end tokens p m
  no_tokens (Word word ∷ symbols) built end tokens p m = cc

  joined_is : (symbols : List (Symbol C A W)) (built end : B) (front back : List T) → MeansAll symbols built back end → joined (only_puts symbols) front back ≡ front ++ back
  joined_is symbols built end front back m = go (only_puts symbols) refl
    where
      go : (b : Bool) → only_puts symbols ≡ b → joined b front back ≡ front ++ back
      go false e = refl
      go true e = sym (ap (λ us. front ++ us) (no_tokens symbols built end back e m) ∙ append-nil front)

  shown : (symbols : List (Symbol C A W)) (built end : B) (before : List T → List T) (tokens : List T) (goal : List T → B → Type 0) → Shows symbols built before goal → MeansAll symbols built tokens end → goal (before tokens) end
  shown [] built end before tokens goal s m = subst (λ us. goal (before us) end) (sym m.0) (subst (goal (before [])) m.1 s)
  shown (Token class ∷ symbols) built end before tokens goal s m =
      let h : Shows symbols (grammar.shift class m.0 built) (λ more. before (m.0 ∷ more)) goal = token_shown class built m.0 (λ token. Shows symbols (grammar.shift class token built) (λ more. before (token ∷ more)) goal) m.3 s in
      subst (λ us. goal (before us) end) (sym m.2) (shown symbols (grammar.shift class m.0 built) end (λ more. before (m.0 ∷ more)) m.1 goal h m.4)
  shown (Put action ∷ symbols) built end before tokens goal s m = shown symbols (grammar.put action built) end before tokens goal s m
  shown (Word word ∷ symbols) built end before tokens goal s m =
      subst (λ us. goal (before us) end) (joined_is symbols (meaning.after word m.2 built) end m.0 m.1 m.5 ∙ sym m.3)
      (shown symbols (meaning.after word m.2 built) end (λ more. before (joined (only_puts symbols) m.0 more)) m.1 goal (s m.0 m.2 m.4) m.5)

  -- what symbols stand for is what their two parts stand for, one behind the other
  pub record Split (front back : List (Symbol C A W)) (built : B) (tokens : List T) (end : B) : Type 0 where
    pub first : List T
    pub second : List T
    pub between : B
    pub whole : tokens ≡ first ++ second
    pub means_first : MeansAll front built first between
    pub means_second : MeansAll back between second end

  pub means_split : (front back : List (Symbol C A W)) (built end : B) (tokens : List T) → MeansAll (front ++ back) built tokens end → Split front back built tokens end
  means_split [] back built end tokens m = record { first = []; second = tokens; between = built; whole = refl; means_first = (refl, refl); means_second = m }
  means_split (Token class ∷ front) back built end tokens m =
      let r = means_split front back (grammar.shift class m.0 built) end m.1 m.4 in
      record { first = m.0 ∷ r.first; second = r.second; between = r.between; whole = m.2 ∙ ap (λ us. m.0 ∷ us) r.whole; means_first = (m.0, r.first, refl, m.3, r.means_first); means_second = r.means_second }
  means_split (Put action ∷ front) back built end tokens m =
      let r = means_split front back (grammar.put action built) end tokens m in
      record { first = r.first; second = r.second; between = r.between; whole = r.whole; means_first = r.means_first; means_second = r.means_second }
  means_split (Word word ∷ front) back built end tokens m =
      let r = means_split front back (meaning.after word m.2 built) end m.1 m.5 in
      record {
        first = m.0 ++ r.first;
        second = r.second;
        between = r.between;
        whole = m.3 ∙ ap (λ us. m.0 ++ us) r.whole ∙ sym (append_assoc m.0 r.first r.second);
        means_first = (m.0, r.first, m.2, refl, m.4, r.means_first);
        means_second = r.means_second;
      }

  -- what a word stands for, before what more symbols stand for
  word_first : (word : W) (symbols : List (Symbol C A W)) (built between end : B) (tokens front back : List T) → tokens ≡ front ++ back → MeansWord word built front between → MeansAll symbols between back end → MeansAll (Word word ∷ symbols) built tokens end
  word_first word symbols built between end tokens front back e w m =
      (front, back, w.0, e, w.1, subst (λ d. MeansAll symbols d back end) (sym w.2) m)

  -- a line has the meaning of the word
  abbrev LineMeans : W → B → Line C A W T → Type 0
  LineMeans word built line =
      (token : T) (tokens : List T) (end : B) → grammar.accepts line.first token built ≡ true → MeansAll (line.rest token) (grammar.shift line.first token built) tokens end → MeansWord word built (token ∷ tokens) end

  abbrev LinesMean : W → B → List (Line C A W T) → Type 0
  LinesMean word built [] = Unit {0}
  LinesMean word built (line ∷ lines) = LineMeans word built line × LinesMean word built lines

  lines_append : (word : W) (built : B) (front back : List (Line C A W T)) → LinesMean word built front → LinesMean word built back → LinesMean word built (front ++ back)
  lines_append word built [] back f g = g
  lines_append word built (line ∷ front) back f g = (f.0, lines_append word built front back f.1 g)

  plain_shows : (word : W) (built : B) (first : C) (rest : T → List (Symbol C A W)) → RowShows word built (Plain first rest) → LineMeans word built (record { first = first; rest = rest })
  plain_shows word built first rest s token tokens end ok m =
      shown (rest token) (grammar.shift first token built) end (λ more. token ∷ more) tokens (MeansWord word built)
      (token_shown first built token (λ t. Shows (rest t) (grammar.shift first t built) (λ more. t ∷ more) (MeansWord word built)) ok s) m

  plain_mean : (word : W) (built : B) (rows : List (Row C A W T)) → RowsShow word built rows → LinesMean word built (plain_lines rows)
  plain_mean word built [] s = tt
  plain_mean word built (Plain first rest ∷ rows) s = (plain_shows word built first rest s.0, plain_mean word built rows s.1)
  plain_mean word built (Like other more ∷ rows) s = plain_mean word built rows s.1

  like_mean : (word other : W) (built : B) (more : List (Symbol C A W)) (lines : List (Line C A W T)) → RowShows word built (Like other more) → LinesMean other built lines → LinesMean word built (map (with_more more) lines)
  like_mean word other built more [] s f = tt
  like_mean word other built more (line ∷ lines) s f = (one, like_mean word other built more lines s f.1)
    where
      one : LineMeans word built (with_more more line)
      one token tokens end ok m =
          let r = means_split (line.rest token) more (grammar.shift line.first token built) end tokens m in
          let w = f.0 token r.first r.between ok r.means_first in
          shown (Word other ∷ more) built end (λ us. us) (token ∷ tokens) (MeansWord word built) s
          (word_first other more built r.between end (token ∷ tokens) (token ∷ r.first) r.second (ap (λ us. token ∷ us) r.whole) w r.means_second)

  module _ (right : IsRight) where
    lines_mean : (word : W) (built : B) (rows : List (Row C A W T)) → RowsShow word built rows → LinesMean word built (lines_of grammar rows)
    lines_mean word built [] s = tt
    lines_mean word built (Plain first rest ∷ rows) s = (plain_shows word built first rest s.0, lines_mean word built rows s.1)
    lines_mean word built (Like other more ∷ rows) s =
        lines_append word built (map (with_more more) (plain_lines (grammar.rows other))) (lines_of grammar rows)
        (like_mean word other built more (plain_lines (grammar.rows other)) s.0 (plain_mean other built (grammar.rows other) (right.rows_mean other built)))
        (lines_mean word built rows s.1)

    fit_means : (word : W) (built end : B) (token : T) (tokens : List T) (fit : C × List (Symbol C A W)) (lines : List (Line C A W T)) → LinesMean word built lines → first_fit grammar token built lines ≡ Some fit → MeansAll fit.1 (grammar.shift fit.0 token built) tokens end → MeansWord word built (token ∷ tokens) end
    fit_means word built end token tokens fit [] f e m = cc
    fit_means word built end token tokens fit (line ∷ lines) f e m = go (grammar.accepts line.first token built) refl e (λ h. fit_means word built end token tokens fit lines f.1 h m)
      where
        go : (b : Bool) → grammar.accepts line.first token built ≡ b → cond b (Some (line.first, line.rest token)) (first_fit grammar token built lines) ≡ Some fit → (first_fit grammar token built lines ≡ Some fit → MeansWord word built (token ∷ tokens) end) → MeansWord word built (token ∷ tokens) end
        go true ok h k =
            let q : fit ≡ (line.first, line.rest token) = cc in
            f.0 token tokens end ok (subst (λ (p : C × List (Symbol C A W)). MeansAll p.1 (grammar.shift p.0 token built) tokens end) q m)
        go false ok h k = k h

    -- a word that stands for no token, before more symbols
    pass_means : (word : W) (symbols : List (Symbol C A W)) (built next end : B) (tokens : List T) → passed grammar (grammar.otherwise word) built ≡ Passes next → MeansAll symbols next tokens end → MeansAll (Word word ∷ symbols) built tokens end
    pass_means word symbols built next end tokens e m = go (grammar.otherwise word) e (right.none_means word built)
      where
        put_in : MeansWord word built [] next → MeansAll (Word word ∷ symbols) built tokens end
        put_in w = word_first word symbols built next end tokens [] tokens refl w m

        go : (o : Otherwise A) → passed grammar o built ≡ Passes next → NoneShows word built o → MeansAll (Word word ∷ symbols) built tokens end
        go Refuse h n = cc
        go Pass h n = let q : built ≡ next = cc in put_in (subst (MeansWord word built []) q n)
        go (Build action) h n = let q : grammar.put action built ≡ next = cc in put_in (subst (MeansWord word built []) q n)

    finish_means : (symbols : List (Symbol C A W)) (built end : B) (place : ℕ) → finish (move grammar) symbols built place ≡ Ok end → MeansAll symbols built [] end
    finish_means [] built end place e = (refl, cc)
    finish_means (Token class ∷ symbols) built end place e = cc
    finish_means (Put action ∷ symbols) built end place e = finish_means symbols (grammar.put action built) end place e
    finish_means (Word word ∷ symbols) built end place e = go (passed grammar (grammar.otherwise word) built) refl e (λ next. finish_means symbols next end place)
      where
        go : (v : Move (Symbol C A W) B) → passed grammar (grammar.otherwise word) built ≡ v → ended (move grammar) v place (λ next. finish (move grammar) symbols next place) ≡ Ok end → ((next : B) → finish (move grammar) symbols next place ≡ Ok end → MeansAll symbols next [] end) → MeansAll (Word word ∷ symbols) built [] end
        go (Passes next) s h f = pass_means word symbols built next end [] s (f next h)
        go Stops s h f = cc
        go (Takes more next) s h f = cc

    settle_means : (symbols : List (Symbol C A W)) (built end : B) (token : T) (tokens : List T) (left : List (Symbol C A W) × B) → settle (move grammar) symbols built token ≡ Some left → MeansAll left.0 left.1 tokens end → MeansAll symbols built (token ∷ tokens) end
    settle_means [] built end token tokens left e m = cc
    settle_means (Token class ∷ symbols) built end token tokens left e m = go (grammar.accepts class token built) refl e
      where
        go : (b : Bool) → grammar.accepts class token built ≡ b → moved (move grammar) (cond b (Takes [] (grammar.shift class token built)) Stops) symbols (λ next. settle (move grammar) symbols next token) ≡ Some left → MeansAll (Token class ∷ symbols) built (token ∷ tokens) end
        go true ok h =
            let q : left ≡ (symbols, grammar.shift class token built) = cc in
            (token, tokens, refl, ok, subst (λ (p : List (Symbol C A W) × B). MeansAll p.0 p.1 tokens end) q m)
        go false ok h = cc
    settle_means (Put action ∷ symbols) built end token tokens left e m = settle_means symbols (grammar.put action built) end token tokens left e m
    settle_means (Word word ∷ symbols) built end token tokens left e m = go (first_fit grammar token built (lines_of grammar (grammar.rows word))) refl e (λ next s. settle_means symbols next end token tokens left s m)
      where
        none : (v : Move (Symbol C A W) B) → passed grammar (grammar.otherwise word) built ≡ v → ((ys : List (Symbol C A W)) (c : B) → v ≡ Takes ys c → ⊥) → moved (move grammar) v symbols (λ next. settle (move grammar) symbols next token) ≡ Some left → ((next : B) → settle (move grammar) symbols next token ≡ Some left → MeansAll symbols next (token ∷ tokens) end) → MeansAll (Word word ∷ symbols) built (token ∷ tokens) end
        none (Passes next) s never h f = pass_means word symbols built next end (token ∷ tokens) s (f next h)
        none Stops s never h f = cc
        none (Takes more next) s never h f = absurd (never more next refl)

        passes_only : (o : Otherwise A) (ys : List (Symbol C A W)) (c : B) → passed grammar o built ≡ Takes ys c → ⊥
        passes_only Refuse ys c h = cc
        passes_only Pass ys c h = cc
        passes_only (Build action) ys c h = cc

        go : (o : Option (C × List (Symbol C A W))) → first_fit grammar token built (lines_of grammar (grammar.rows word)) ≡ o → moved (move grammar) (taken grammar o word token built) symbols (λ next. settle (move grammar) symbols next token) ≡ Some left → ((next : B) → settle (move grammar) symbols next token ≡ Some left → MeansAll symbols next (token ∷ tokens) end) → MeansAll (Word word ∷ symbols) built (token ∷ tokens) end
        go (Some fit) s h f =
            let q : left ≡ (fit.1 ++ symbols, grammar.shift fit.0 token built) = cc in
            let n : MeansAll (fit.1 ++ symbols) (grammar.shift fit.0 token built) tokens end = subst (λ (p : List (Symbol C A W) × B). MeansAll p.0 p.1 tokens end) q m in
            let r = means_split fit.1 symbols (grammar.shift fit.0 token built) end tokens n in
            let w = fit_means word built r.between token r.first fit (lines_of grammar (grammar.rows word)) (lines_mean word built (grammar.rows word) (right.rows_mean word built)) s r.means_first in
            word_first word symbols built r.between end (token ∷ tokens) (token ∷ r.first) r.second (ap (λ us. token ∷ us) r.whole) w r.means_second
        go None s h f = none (passed grammar (grammar.otherwise word) built) refl (passes_only (grammar.otherwise word)) h f

    -- what is read has the meaning of the symbols
    pub sound : (tokens : List T) (symbols : List (Symbol C A W)) (built end : B) (place : ℕ) → run (move grammar) symbols built place tokens ≡ Ok end → MeansAll symbols built tokens end
    sound [] symbols built end place e = finish_means symbols built end place e
    sound (token ∷ tokens) symbols built end place e = go (settle (move grammar) symbols built token) refl e (λ left. sound tokens left.0 left.1 end (place + 1))
      where
        go : (o : Option (List (Symbol C A W) × B)) → settle (move grammar) symbols built token ≡ o → goes_on (move grammar) o place (λ ys d. run (move grammar) ys d (place + 1) tokens) ≡ Ok end → ((left : List (Symbol C A W) × B) → run (move grammar) left.0 left.1 (place + 1) tokens ≡ Ok end → MeansAll left.0 left.1 tokens end) → MeansAll symbols built (token ∷ tokens) end
        go None s h f = cc
        go (Some left) s h f = settle_means symbols built end token tokens left s (f left h)

    -- what is read of a word has the word's meaning
    pub sound_word : (word : W) (built end : B) (tokens : List T) → parse grammar word built tokens ≡ Ok end → MeansWord word built tokens end
    sound_word word built end tokens e =
        let m = sound tokens (Word word ∷ []) built end 0 e in
        let q : tokens ≡ m.0 = m.3 ∙ ap (λ us. m.0 ++ us) m.5.0 ∙ append-nil m.0 in
        (m.2, subst (meaning.Spells word m.2 built) (sym q) m.4, m.5.1)
