-- What leads to what: that reading these symbols on these tokens is reading those on those. That tokens
-- are read is shown by a chain of such facts.
use Rattle.std.proofs.Common.{◌≡◌, ℕ, ◌+◌, Bool, true, false, cond, List, [], ◌∷◌, ◌++◌, map, Option, Some, None, Ok, refl, sym, ap, ◌∙◌, subst, append_assoc}
use Rattle.predictive_parser.specs.declared.symbol.Symbol.{Symbol}
use Rattle.predictive_parser.specs.declared.symbol.Symbol.TheVariants.{Token, Put, Word}
use Rattle.predictive_parser.specs.declared.symbol.Otherwise.TheVariants.{Refuse}
use Rattle.predictive_parser.specs.Machine.{Move, Takes, Passes, Stops, moved, settle, ended, finish, goes_on, run, next_of}
use Rattle.predictive_parser.specs.Choices.{Chooses}
use Rattle.predictive_parser.specs.Grammar.{Row, Plain, Like, Grammar, Line, with_more, plain_lines, lines_of, first_fit, passed, taken, move}

module _ {S T B : Type 0} (step : S → Option T → B → Move S B) where
  -- reading these symbols on these tokens is reading those on those
  pub record LeadsBy (symbols : List S) (built : B) (tokens : List T) (left : List S) (next : B) (behind : List T) : Type 0 where
    pub by : (place : ℕ) → (at : ℕ) × (run step symbols built place tokens ≡ run step left next at behind)

  abbrev pub settled : Option (List S × B) → (List S → B → Option (List S × B)) → Option (List S × B)
  settled None rest = None
  settled (Some left) rest = rest left.0 left.1

  -- what is left behind tokens that are all known
  abbrev pub settles : List S → B → List T → Option (List S × B)
  settles symbols built [] = Some (symbols, built)
  settles symbols built (token ∷ tokens) = settled (settle step symbols built token) (λ left next. settles left next tokens)

pub then : {S T B : Type 0} {step : S → Option T → B → Move S B} {xs ys zs : List S} {b c d : B} {ts us vs : List T} → LeadsBy step xs b ts ys c us → LeadsBy step ys c us zs d vs → LeadsBy step xs b ts zs d vs
then f g = record { by = λ place. let a = f.by place in let e = g.by a.0 in (e.0, a.1 ∙ e.1) }

-- the same for tokens that are equal to these, and for what is built in the end
pub at_tokens : {S T B : Type 0} {step : S → Option T → B → Move S B} {xs ys : List S} {b c : B} {ts us vs : List T} → ts ≡ us → LeadsBy step xs b us ys c vs → LeadsBy step xs b ts ys c vs
at_tokens {S} {T} {B} {step} {xs} {ys} {b} {c} {ts} {us} {vs} e f = subst (λ ws. LeadsBy step xs b ws ys c vs) (sym e) f

pub to_built : {S T B : Type 0} {step : S → Option T → B → Move S B} {xs ys : List S} {b c d : B} {ts vs : List T} → c ≡ d → LeadsBy step xs b ts ys c vs → LeadsBy step xs b ts ys d vs
to_built {S} {T} {B} {step} {xs} {ys} {b} {c} {d} {ts} {vs} e f = subst (λ next. LeadsBy step xs b ts ys next vs) e f

module _ {C A W T B : Type 0} (grammar : Grammar C A W T B) where
  abbrev pub Leads : List (Symbol C A W) → B → List T → List (Symbol C A W) → B → List T → Type 0
  Leads symbols built tokens left next behind = LeadsBy (move grammar) symbols built tokens left next behind

  pub here : (symbols : List (Symbol C A W)) (built : B) (tokens : List T) → Leads symbols built tokens symbols built tokens
  here symbols built tokens = record { by = λ place. (place, refl) }

  -- a symbol takes the next token
  pub takes : (symbol : Symbol C A W) (symbols more : List (Symbol C A W)) (built next : B) (token : T) (tokens : List T) → move grammar symbol (Some token) built ≡ Takes more next → Leads (symbol ∷ symbols) built (token ∷ tokens) (more ++ symbols) next tokens
  takes symbol symbols more built next token tokens e =
      record { by = λ place. (place + 1, ap (λ v. goes_on (move grammar) (moved (move grammar) v symbols (λ c. settle (move grammar) symbols c token)) place (λ zs d. run (move grammar) zs d (place + 1) tokens)) e) }

  -- a symbol stands for no token
  pub passes : (symbol : Symbol C A W) (symbols : List (Symbol C A W)) (built next : B) (tokens : List T) → move grammar symbol (next_of tokens) built ≡ Passes next → Leads (symbol ∷ symbols) built tokens symbols next tokens
  passes symbol symbols built next [] e =
      record { by = λ place. (place, ap (λ v. ended (move grammar) v place (λ c. finish (move grammar) symbols c place)) e) }
  passes symbol symbols built next (token ∷ tokens) e =
      record { by = λ place. (place, ap (λ v. goes_on (move grammar) (moved (move grammar) v symbols (λ c. settle (move grammar) symbols c token)) place (λ zs d. run (move grammar) zs d (place + 1) tokens)) e) }

  -- an action is done
  pub put : (action : A) (symbols : List (Symbol C A W)) (built : B) (tokens : List T) → Leads (Put action ∷ symbols) built tokens symbols (grammar.put action built) tokens
  put action symbols built [] = passes (Put action) symbols built (grammar.put action built) [] refl
  put action symbols built (token ∷ tokens) = passes (Put action) symbols built (grammar.put action built) (token ∷ tokens) refl

  -- a token of a class is taken
  pub token : (class : C) (symbols : List (Symbol C A W)) (built : B) (next : T) (tokens : List T) → grammar.accepts class next built ≡ true → Leads (Token class ∷ symbols) built (next ∷ tokens) symbols (grammar.shift class next built) tokens
  token class symbols built next tokens e =
      takes (Token class) symbols [] built (grammar.shift class next built) next tokens (ap (λ (b : Bool). cond b (Takes [] (grammar.shift class next built)) Stops) e)

  -- Tokens that are all known are taken in one go: the equation closes by `refl`.
  pub reads : (known : List T) {symbols left : List (Symbol C A W)} {built next : B} {tokens : List T} → settles (move grammar) symbols built known ≡ Some (left, next) → Leads symbols built (known ++ tokens) left next tokens
  reads [] {symbols} {left} {built} {next} {tokens} e =
      record { by = λ place. (place, ap (λ (o : Option (List (Symbol C A W) × B)). goes_on (move grammar) o place (λ ys c. run (move grammar) ys c place tokens)) e) }
  reads (t ∷ known) {symbols} {left} {built} {next} {tokens} e =
      go (settle (move grammar) symbols built t) refl e (λ p. reads known {symbols = p.0} {left = left} {built = p.1} {next = next} {tokens = tokens})
    where
      go : (o : Option (List (Symbol C A W) × B)) → settle (move grammar) symbols built t ≡ o → settled (move grammar) o (λ ys c. settles (move grammar) ys c known) ≡ Some (left, next)
          → ((p : List (Symbol C A W) × B) → settles (move grammar) p.0 p.1 known ≡ Some (left, next) → Leads p.0 p.1 (known ++ tokens) left next tokens) → Leads symbols built (t ∷ (known ++ tokens)) left next tokens
      go None s h f = cc
      go (Some p) s h f =
          record { by = λ place. let a = (f p h).by (place + 1) in (a.0, ap (λ o. goes_on (move grammar) o place (λ zs d. run (move grammar) zs d (place + 1) (known ++ tokens))) s ∙ a.1) }

  -- what a word does where one of its lines fits
  pub fits : (word : W) (next : T) (built : B) (fit : C × List (Symbol C A W)) → first_fit grammar next built (lines_of grammar (grammar.rows word)) ≡ Some fit → move grammar (Word word) (Some next) built ≡ Takes fit.1 (grammar.shift fit.0 next built)
  fits word next built fit e = ap (λ o. taken grammar o word next built) e

  -- a word takes the next token by the first of its lines that fits
  pub row : (word : W) (symbols : List (Symbol C A W)) (built : B) (next : T) (tokens : List T) (fit : C × List (Symbol C A W)) → first_fit grammar next built (lines_of grammar (grammar.rows word)) ≡ Some fit → Leads (Word word ∷ symbols) built (next ∷ tokens) (fit.1 ++ symbols) (grammar.shift fit.0 next built) tokens
  row word symbols built next tokens fit e = takes (Word word) symbols fit.1 built (grammar.shift fit.0 next built) next tokens (fits word next built fit e)

  none_before : (next : T) (built : B) (before after : List (Line C A W T)) → first_fit grammar next built before ≡ None → first_fit grammar next built (before ++ after) ≡ first_fit grammar next built after
  none_before next built [] after e = refl
  none_before next built (line ∷ before) after e = go (grammar.accepts line.first next built) e (none_before next built before after)
    where
      go : (b : Bool) → cond b (Some (line.first, line.rest next)) (first_fit grammar next built before) ≡ None → (first_fit grammar next built before ≡ None → first_fit grammar next built (before ++ after) ≡ first_fit grammar next built after)
          → cond b (Some (line.first, line.rest next)) (first_fit grammar next built (before ++ after)) ≡ first_fit grammar next built after
      go true h f = cc
      go false h f = f h

  fit_first : (next : T) (built : B) (before after : List (Line C A W T)) (fit : C × List (Symbol C A W)) → first_fit grammar next built before ≡ Some fit → first_fit grammar next built (before ++ after) ≡ Some fit
  fit_first next built [] after fit e = cc
  fit_first next built (line ∷ before) after fit e = go (grammar.accepts line.first next built) e (fit_first next built before after fit)
    where
      go : (b : Bool) → cond b (Some (line.first, line.rest next)) (first_fit grammar next built before) ≡ Some fit → (first_fit grammar next built before ≡ Some fit → first_fit grammar next built (before ++ after) ≡ Some fit)
          → cond b (Some (line.first, line.rest next)) (first_fit grammar next built (before ++ after)) ≡ Some fit
      go true h f = h
      go false h f = f h

  abbrev behind_fit : List (Symbol C A W) → Option (C × List (Symbol C A W)) → Option (C × List (Symbol C A W))
  behind_fit more None = None
  behind_fit more (Some fit) = Some (fit.0, fit.1 ++ more)

  fit_with_more : (next : T) (built : B) (more : List (Symbol C A W)) (lines : List (Line C A W T)) → first_fit grammar next built (map (with_more more) lines) ≡ behind_fit more (first_fit grammar next built lines)
  fit_with_more next built more [] = refl
  fit_with_more next built more (line ∷ lines) = go (grammar.accepts line.first next built) (fit_with_more next built more lines)
    where
      go : (b : Bool) → first_fit grammar next built (map (with_more more) lines) ≡ behind_fit more (first_fit grammar next built lines)
          → cond b (Some (line.first, line.rest next ++ more)) (first_fit grammar next built (map (with_more more) lines)) ≡ behind_fit more (cond b (Some (line.first, line.rest next)) (first_fit grammar next built lines))
      go true h = refl
      go false h = h

  lines_append : (before after : List (Row C A W T)) → lines_of grammar (before ++ after) ≡ lines_of grammar before ++ lines_of grammar after
  lines_append [] after = refl
  lines_append (Plain first rest ∷ before) after = ap (λ ls. record { first = first; rest = rest } ∷ ls) (lines_append before after)
  lines_append (Like word more ∷ before) after =
      ap (λ ls. map (with_more more) (plain_lines (grammar.rows word)) ++ ls) (lines_append before after)
      ∙ sym (append_assoc (map (with_more more) (plain_lines (grammar.rows word))) (lines_of grammar before) (lines_of grammar after))

  -- Where no row before fits, a word with a row "like that other" is read as the other, if one of its
  -- lines fits.
  pub like : (word other : W) (before after : List (Row C A W T)) (more symbols : List (Symbol C A W)) (built : B) (next : T) (tokens : List T) (fit : C × List (Symbol C A W))
      → grammar.rows word ≡ before ++ Like other more ∷ after
      → first_fit grammar next built (lines_of grammar before) ≡ None
      → lines_of grammar (grammar.rows other) ≡ plain_lines (grammar.rows other)
      → first_fit grammar next built (plain_lines (grammar.rows other)) ≡ Some fit
      → Leads (Word word ∷ symbols) built (next ∷ tokens) (Word other ∷ (more ++ symbols)) built (next ∷ tokens)
  like word other before after more symbols built next tokens fit is none plain some =
      record { by = λ place. (place, ap (λ o. goes_on (move grammar) o place (λ zs d. run (move grammar) zs d (place + 1) tokens)) (one ∙ sym two)) }
    where
      line : first_fit grammar next built (lines_of grammar (grammar.rows word)) ≡ Some (fit.0, fit.1 ++ more)
      line =
          ap (λ rs. first_fit grammar next built (lines_of grammar rs)) is
          ∙ ap (first_fit grammar next built) (lines_append before (Like other more ∷ after))
          ∙ none_before next built (lines_of grammar before) (lines_of grammar (Like other more ∷ after)) none
          ∙ fit_first next built (map (with_more more) (plain_lines (grammar.rows other))) (lines_of grammar after) (fit.0, fit.1 ++ more) (fit_with_more next built more (plain_lines (grammar.rows other)) ∙ ap (behind_fit more) some)

      one : settle (move grammar) (Word word ∷ symbols) built next ≡ Some ((fit.1 ++ more) ++ symbols, grammar.shift fit.0 next built)
      one = ap (λ v. moved (move grammar) v symbols (λ c. settle (move grammar) symbols c next)) (fits word next built (fit.0, fit.1 ++ more) line)

      two : settle (move grammar) (Word other ∷ (more ++ symbols)) built next ≡ Some ((fit.1 ++ more) ++ symbols, grammar.shift fit.0 next built)
      two =
          ap (λ v. moved (move grammar) v (more ++ symbols) (λ c. settle (move grammar) (more ++ symbols) c next)) (fits other next built fit (ap (first_fit grammar next built) plain ∙ some))
          ∙ ap (λ zs. Some (zs, grammar.shift fit.0 next built)) (sym (append_assoc fit.1 more symbols))

  -- The same for the last row, whether one of its lines fits or not, where neither word may stand for no
  -- token.
  pub like_last : (word other : W) (before : List (Row C A W T)) (more symbols : List (Symbol C A W)) (built : B) (next : T) (tokens : List T)
      → grammar.rows word ≡ before ++ Like other more ∷ []
      → first_fit grammar next built (lines_of grammar before) ≡ None
      → lines_of grammar (grammar.rows other) ≡ plain_lines (grammar.rows other)
      → grammar.otherwise word ≡ Refuse
      → grammar.otherwise other ≡ Refuse
      → Leads (Word word ∷ symbols) built (next ∷ tokens) (Word other ∷ (more ++ symbols)) built (next ∷ tokens)
  like_last word other before more symbols built next tokens is none plain refuses_word refuses_other = go (first_fit grammar next built (plain_lines (grammar.rows other))) refl
    where
      refuses : (w : W) (ys : List (Symbol C A W)) → grammar.otherwise w ≡ Refuse → first_fit grammar next built (lines_of grammar (grammar.rows w)) ≡ None → settle (move grammar) (Word w ∷ ys) built next ≡ None
      refuses w ys h e =
          ap (λ o. moved (move grammar) (taken grammar o w next built) ys (λ c. settle (move grammar) ys c next)) e
          ∙ ap (λ o. moved (move grammar) (passed grammar o built) ys (λ c. settle (move grammar) ys c next)) h

      line : first_fit grammar next built (plain_lines (grammar.rows other)) ≡ None → first_fit grammar next built (lines_of grammar (grammar.rows word)) ≡ None
      line e =
          ap (λ rs. first_fit grammar next built (lines_of grammar rs)) is
          ∙ ap (first_fit grammar next built) (lines_append before (Like other more ∷ []))
          ∙ none_before next built (lines_of grammar before) (lines_of grammar (Like other more ∷ [])) none
          ∙ none_before next built (map (with_more more) (plain_lines (grammar.rows other))) [] (fit_with_more next built more (plain_lines (grammar.rows other)) ∙ ap (behind_fit more) e)

      go : (o : Option (C × List (Symbol C A W))) → first_fit grammar next built (plain_lines (grammar.rows other)) ≡ o → Leads (Word word ∷ symbols) built (next ∷ tokens) (Word other ∷ (more ++ symbols)) built (next ∷ tokens)
      go (Some fit) e = like word other before [] more symbols built next tokens fit is none plain e
      go None e =
          record {
            by = λ place. (
              place,
              ap (λ o. goes_on (move grammar) o place (λ zs d. run (move grammar) zs d (place + 1) tokens))
                  (refuses word symbols refuses_word (line e) ∙ sym (refuses other (more ++ symbols) refuses_other (ap (first_fit grammar next built) plain ∙ e))),
            );
          }

  -- what leads to an end is read
  pub reads_all : (symbols : List (Symbol C A W)) (built next : B) (tokens : List T) → Leads symbols built tokens [] next [] → run (move grammar) symbols built 0 tokens ≡ Ok next
  reads_all symbols built next tokens r = (r.by 0).1

  -- For code: a row that is chosen among the first rows of a word is chosen among all of them.
  pub chosen_in_front : (word same : W) (before after : List (Row C A W T)) (next : T) (built : B) (chosen : Option C) (class : C) (old new : List (Symbol C A W))
      → same ≡ word
      → grammar.rows word ≡ before ++ after
      → chosen ≡ Some class
      → Chooses chosen (first_fit grammar next built (lines_of grammar before)) old new
      → Chooses (Some class) (first_fit grammar next built (lines_of grammar (grammar.rows same))) old new
  chosen_in_front word same before after next built chosen class old new w r is c =
      go (first_fit grammar next built (lines_of grammar before)) refl (subst (λ o. Chooses o (first_fit grammar next built (lines_of grammar before)) old new) is c)
    where
      go : (o : Option (C × List (Symbol C A W))) → first_fit grammar next built (lines_of grammar before) ≡ o → Chooses (Some class) o old new → Chooses (Some class) (first_fit grammar next built (lines_of grammar (grammar.rows same))) old new
      go None e k = absurd k
      go (Some fit) e k =
          subst (λ o. Chooses (Some class) o old new)
          (sym (ap (λ v. first_fit grammar next built (lines_of grammar (grammar.rows v))) w
          ∙ ap (λ rs. first_fit grammar next built (lines_of grammar rs)) r
          ∙ ap (first_fit grammar next built) (lines_append before after)
          ∙ fit_first next built (lines_of grammar before) (lines_of grammar after) fit e)) k
