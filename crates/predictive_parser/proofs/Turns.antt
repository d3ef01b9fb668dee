-- The turns of the parser's loops are the moves of the machine.
use Rattle.std.proofs.Common.{◌≡◌, ℕ, zero, suc, ◌+◌, ◌<◌, ◌≤◌, Bool, true, false, cond, List, [], ◌∷◌, length, drop, Option, Some, None, Result, Ok, Err, refl, sym, ap, ◌∙◌, subst, arith, add-one}
use Rattle.std.specs.Prelude.{slice_get}
use Rattle.std.proofs.Math.ListN.{drop_of_length-le}
use Rattle.predictive_parser.specs.declared.parser.ParseError.TheVariants.{Refused}
use Rattle.predictive_parser.specs.declared.symbol.Symbol.{Symbol}
use Rattle.predictive_parser.specs.declared.symbol.Symbol.TheVariants.{Token, Put, Word}
use Rattle.predictive_parser.specs.Machine.{Move, Takes, Passes, Stops, moved, settle, ended, finish, goes_on, run}
use Rattle.predictive_parser.specs.Grammar.{Grammar, Line, lines_of, first_fit, passed, taken, move}
use Rattle.predictive_parser.specs.Choices.{Chooses}
use Rattle.predictive_parser.specs.internal.Steps.{Settles, Finishes, Passing}
use Rattle.predictive_parser.specs.Answers.{Parses}

module _ {C A W T B : Type 0} (grammar : Grammar C A W T B) (holds : B → Type 0) where
  -- what is held where the symbols that were to find are as good as those that are left
  abbrev pub FinishTurn : List (Symbol C A W) → List (Symbol C A W) → B → ℕ → Type 0
  FinishTurn old new built place = (next : B) × holds next × (finish (move grammar) old built place ≡ finish (move grammar) new next place)

  finish_popped : (symbol : Symbol C A W) (old popped new : List (Symbol C A W)) (built next : B) (place : ℕ) → finish (move grammar) old built place ≡ finish (move grammar) popped next place → popped ≡ symbol ∷ new → finish (move grammar) old built place ≡ ended (move grammar) (move grammar symbol None next) place (λ d. finish (move grammar) new d place)
  finish_popped symbol old popped new built next place e p = e ∙ ap (λ ys. finish (move grammar) ys next place) p

  pub finish_put : (action : A) (symbol : Symbol C A W) (old popped new : List (Symbol C A W)) (built next : B) (place : ℕ) → finish (move grammar) old built place ≡ finish (move grammar) popped next place → popped ≡ symbol ∷ new → symbol ≡ Put action → holds (grammar.put action next) → FinishTurn old new built place
  finish_put action symbol old popped new built next place e p is h =
      (grammar.put action next, h, finish_popped (Put action) old popped new built next place e (p ∙ ap (λ s. s ∷ new) is))

  pub finish_pass : (word : W) (symbol : Symbol C A W) (old popped new : List (Symbol C A W)) (built next : B) (place : ℕ) (done : Bool) → finish (move grammar) old built place ≡ finish (move grammar) popped next place → popped ≡ symbol ∷ new → symbol ≡ Word word → done ≡ true → Passing done (passed grammar (grammar.otherwise word) next) holds → FinishTurn old new built place
  finish_pass word symbol old popped new built next place done e p is d h = go (passed grammar (grammar.otherwise word) next) refl (subst (λ b. Passing b (passed grammar (grammar.otherwise word) next) holds) d h)
    where
      go : (v : Move (Symbol C A W) B) → passed grammar (grammar.otherwise word) next ≡ v → Passing true v holds → FinishTurn old new built place
      go (Passes c) s k = (c, k, finish_popped (Word word) old popped new built next place e (p ∙ ap (λ x. x ∷ new) is) ∙ ap (λ v. ended (move grammar) v place (λ d. finish (move grammar) new d place)) s)
      go Stops s k = absurd k
      go (Takes more c) s k = absurd k

  pub finish_stop : (word : W) (symbol : Symbol C A W) (old popped new : List (Symbol C A W)) (built next : B) (place : ℕ) (done : Bool) → finish (move grammar) old built place ≡ finish (move grammar) popped next place → popped ≡ symbol ∷ new → symbol ≡ Word word → done ≡ false → Passing done (passed grammar (grammar.otherwise word) next) holds → Finishes false place (finish (move grammar) old built place) holds
  finish_stop word symbol old popped new built next place done e p is d h = go (passed grammar (grammar.otherwise word) next) refl (subst (λ b. Passing b (passed grammar (grammar.otherwise word) next) holds) d h)
    where
      go : (v : Move (Symbol C A W) B) → passed grammar (grammar.otherwise word) next ≡ v → Passing false v holds → Finishes false place (finish (move grammar) old built place) holds
      go (Passes c) s k = absurd k
      go Stops s k = subst (λ r. Finishes false place r holds) (sym (finish_popped (Word word) old popped new built next place e (p ∙ ap (λ x. x ∷ new) is) ∙ ap (λ v. ended (move grammar) v place (λ d. finish (move grammar) new d place)) s)) refl
      go (Takes more c) s k = absurd k

  pub finish_token : (class : C) (symbol : Symbol C A W) (old popped new : List (Symbol C A W)) (built next : B) (place : ℕ) → finish (move grammar) old built place ≡ finish (move grammar) popped next place → popped ≡ symbol ∷ new → symbol ≡ Token class → Finishes false place (finish (move grammar) old built place) holds
  finish_token class symbol old popped new built next place e p is = subst (λ r. Finishes false place r holds) (sym (finish_popped (Token class) old popped new built next place e (p ∙ ap (λ s. s ∷ new) is))) refl

  pub finish_end : (old popped : List (Symbol C A W)) (built next : B) (place : ℕ) → finish (move grammar) old built place ≡ finish (move grammar) popped next place → popped ≡ [] → holds next → Finishes true place (finish (move grammar) old built place) holds
  finish_end old popped built next place e p h = subst (λ r. Finishes true place r holds) (sym (e ∙ ap (λ ys. finish (move grammar) ys next place) p)) h

  abbrev pub SettleTurn : List (Symbol C A W) → List (Symbol C A W) → B → T → Type 0
  SettleTurn old new built token = (next : B) × holds next × (settle (move grammar) old built token ≡ settle (move grammar) new next token)

  settle_popped : (symbol : Symbol C A W) (old popped new : List (Symbol C A W)) (built next : B) (token : T) → settle (move grammar) old built token ≡ settle (move grammar) popped next token → popped ≡ symbol ∷ new → settle (move grammar) old built token ≡ moved (move grammar) (move grammar symbol (Some token) next) new (λ d. settle (move grammar) new d token)
  settle_popped symbol old popped new built next token e p = e ∙ ap (λ ys. settle (move grammar) ys next token) p

  pub settle_put : (action : A) (symbol : Symbol C A W) (old popped new : List (Symbol C A W)) (built next : B) (token : T) → settle (move grammar) old built token ≡ settle (move grammar) popped next token → popped ≡ symbol ∷ new → symbol ≡ Put action → holds (grammar.put action next) → SettleTurn old new built token
  settle_put action symbol old popped new built next token e p is h =
      (grammar.put action next, h, settle_popped (Put action) old popped new built next token e (p ∙ ap (λ s. s ∷ new) is))

  -- a token of the class is taken, or it is of another class
  pub settle_token : (class : C) (symbol : Symbol C A W) (old popped new : List (Symbol C A W)) (built next : B) (token : T) (taken : Bool) → settle (move grammar) old built token ≡ settle (move grammar) popped next token → popped ≡ symbol ∷ new → symbol ≡ Token class → taken ≡ grammar.accepts class token next → (taken ≡ true → holds (grammar.shift class token next)) → Settles taken (settle (move grammar) old built token) new holds
  settle_token class symbol old popped new built next token taken e p is a h = go taken a h
    where
      left : settle (move grammar) old built token ≡ moved (move grammar) (cond (grammar.accepts class token next) (Takes [] (grammar.shift class token next)) Stops) new (λ d. settle (move grammar) new d token)
      left = settle_popped (Token class) old popped new built next token e (p ∙ ap (λ s. s ∷ new) is)

      go : (b : Bool) → b ≡ grammar.accepts class token next → (b ≡ true → holds (grammar.shift class token next)) → Settles b (settle (move grammar) old built token) new holds
      go true q f = subst (λ o. Settles true o new holds) (sym (left ∙ ap (λ (b : Bool). moved (move grammar) (cond b (Takes [] (grammar.shift class token next)) Stops) new (λ d. settle (move grammar) new d token)) (sym q))) (refl, f refl)
      go false q f = subst (λ o. Settles false o new holds) (sym (left ∙ ap (λ (b : Bool). moved (move grammar) (cond b (Takes [] (grammar.shift class token next)) Stops) new (λ d. settle (move grammar) new d token)) (sym q))) tt

  fit_accepts : (token : T) (built : B) (fit : C × List (Symbol C A W)) (lines : List (Line C A W T)) → first_fit grammar token built lines ≡ Some fit → grammar.accepts fit.0 token built ≡ true
  fit_accepts token built fit [] e = cc
  fit_accepts token built fit (line ∷ lines) e = go (grammar.accepts line.first token built) refl e (fit_accepts token built fit lines)
    where
      go : (b : Bool) → grammar.accepts line.first token built ≡ b → cond b (Some (line.first, line.rest token)) (first_fit grammar token built lines) ≡ Some fit → (first_fit grammar token built lines ≡ Some fit → grammar.accepts fit.0 token built ≡ true) → grammar.accepts fit.0 token built ≡ true
      go true q h f = let k : (line.first, line.rest token) ≡ fit = cc in subst (λ (r : C × List (Symbol C A W)). grammar.accepts r.0 token built ≡ true) k q
      go false q h f = f h

  -- the class of a row that is chosen has the token
  pub chosen_accepts : (word : W) (class : C) (chosen : Option C) (old new : List (Symbol C A W)) (built : B) (token : T) → chosen ≡ Some class → Chooses chosen (first_fit grammar token built (lines_of grammar (grammar.rows word))) old new → grammar.accepts class token built ≡ true
  chosen_accepts word class chosen old new built token is c = go (first_fit grammar token built (lines_of grammar (grammar.rows word))) refl (subst (λ o. Chooses o (first_fit grammar token built (lines_of grammar (grammar.rows word))) old new) is c)
    where
      go : (o : Option (C × List (Symbol C A W))) → first_fit grammar token built (lines_of grammar (grammar.rows word)) ≡ o → Chooses (Some class) o old new → grammar.accepts class token built ≡ true
      go None e k = absurd k
      go (Some fit) e k = subst (λ d. grammar.accepts d token built ≡ true) (sym k.0) (fit_accepts token built fit (lines_of grammar (grammar.rows word)) e)

  pub settle_row : (word : W) (symbol : Symbol C A W) (old popped rest new : List (Symbol C A W)) (built next : B) (token : T) (chosen : Option C) (class : C) → settle (move grammar) old built token ≡ settle (move grammar) popped next token → popped ≡ symbol ∷ rest → symbol ≡ Word word → chosen ≡ Some class → Chooses chosen (first_fit grammar token next (lines_of grammar (grammar.rows word))) rest new → holds (grammar.shift class token next) → Settles true (settle (move grammar) old built token) new holds
  settle_row word symbol old popped rest new built next token chosen class e p is s c h = go (first_fit grammar token next (lines_of grammar (grammar.rows word))) refl (subst (λ o. Chooses o (first_fit grammar token next (lines_of grammar (grammar.rows word))) rest new) s c)
    where
      go : (o : Option (C × List (Symbol C A W))) → first_fit grammar token next (lines_of grammar (grammar.rows word)) ≡ o → Chooses (Some class) o rest new → Settles true (settle (move grammar) old built token) new holds
      go None q k = absurd k
      go (Some fit) q k =
          subst (λ o. Settles true o new holds)
          (sym (settle_popped (Word word) old popped rest built next token e (p ∙ ap (λ x. x ∷ rest) is) ∙ ap (λ o. moved (move grammar) (taken grammar o word token next) rest (λ d. settle (move grammar) rest d token)) q))
          (k.1, subst (λ d. holds (grammar.shift d token next)) k.0 h)

  -- no row is chosen, so the stack is as it was
  none_chosen : (word : W) (chosen : Option C) (rest new : List (Symbol C A W)) (next : B) (token : T) → ((class : C) → chosen ≡ Some class → ⊥) → Chooses chosen (first_fit grammar token next (lines_of grammar (grammar.rows word))) rest new → (first_fit grammar token next (lines_of grammar (grammar.rows word)) ≡ None) × (new ≡ rest)
  none_chosen word chosen rest new next token n c = go chosen (first_fit grammar token next (lines_of grammar (grammar.rows word))) n c refl
    where
      go : (d : Option C) (o : Option (C × List (Symbol C A W))) → ((class : C) → d ≡ Some class → ⊥) → Chooses d o rest new → first_fit grammar token next (lines_of grammar (grammar.rows word)) ≡ o → (first_fit grammar token next (lines_of grammar (grammar.rows word)) ≡ None) × (new ≡ rest)
      go (Some class) o m k e = absurd (m class refl)
      go None None m k e = (e, k)
      go None (Some fit) m k e = absurd k

  pub settle_pass : (word : W) (symbol : Symbol C A W) (old popped rest new : List (Symbol C A W)) (built next : B) (token : T) (chosen : Option C) (done : Bool) → settle (move grammar) old built token ≡ settle (move grammar) popped next token → popped ≡ symbol ∷ rest → symbol ≡ Word word → ((class : C) → chosen ≡ Some class → ⊥) → Chooses chosen (first_fit grammar token next (lines_of grammar (grammar.rows word))) rest new → done ≡ true → Passing done (passed grammar (grammar.otherwise word) next) holds → SettleTurn old new built token
  settle_pass word symbol old popped rest new built next token chosen done e p is n c d h = go (passed grammar (grammar.otherwise word) next) refl (subst (λ b. Passing b (passed grammar (grammar.otherwise word) next) holds) d h)
    where
      left : settle (move grammar) old built token ≡ moved (move grammar) (passed grammar (grammar.otherwise word) next) rest (λ x. settle (move grammar) rest x token)
      left = settle_popped (Word word) old popped rest built next token e (p ∙ ap (λ x. x ∷ rest) is) ∙ ap (λ o. moved (move grammar) (taken grammar o word token next) rest (λ x. settle (move grammar) rest x token)) (none_chosen word chosen rest new next token n c).0

      go : (v : Move (Symbol C A W) B) → passed grammar (grammar.otherwise word) next ≡ v → Passing true v holds → SettleTurn old new built token
      go (Passes b) s k = (b, k, left ∙ ap (λ v. moved (move grammar) v rest (λ x. settle (move grammar) rest x token)) s ∙ ap (λ ys. settle (move grammar) ys b token) (sym (none_chosen word chosen rest new next token n c).1))
      go Stops s k = absurd k
      go (Takes more b) s k = absurd k

  pub settle_stop : (word : W) (symbol : Symbol C A W) (old popped rest new : List (Symbol C A W)) (built next : B) (token : T) (chosen : Option C) (done : Bool) → settle (move grammar) old built token ≡ settle (move grammar) popped next token → popped ≡ symbol ∷ rest → symbol ≡ Word word → ((class : C) → chosen ≡ Some class → ⊥) → Chooses chosen (first_fit grammar token next (lines_of grammar (grammar.rows word))) rest new → done ≡ false → Passing done (passed grammar (grammar.otherwise word) next) holds → Settles false (settle (move grammar) old built token) new holds
  settle_stop word symbol old popped rest new built next token chosen done e p is n c d h = go (passed grammar (grammar.otherwise word) next) refl (subst (λ b. Passing b (passed grammar (grammar.otherwise word) next) holds) d h)
    where
      left : settle (move grammar) old built token ≡ moved (move grammar) (passed grammar (grammar.otherwise word) next) rest (λ x. settle (move grammar) rest x token)
      left = settle_popped (Word word) old popped rest built next token e (p ∙ ap (λ x. x ∷ rest) is) ∙ ap (λ o. moved (move grammar) (taken grammar o word token next) rest (λ x. settle (move grammar) rest x token)) (none_chosen word chosen rest new next token n c).0

      go : (v : Move (Symbol C A W) B) → passed grammar (grammar.otherwise word) next ≡ v → Passing false v holds → Settles false (settle (move grammar) old built token) new holds
      go (Passes b) s k = absurd k
      go Stops s k = subst (λ o. Settles false o new holds) (sym (left ∙ ap (λ v. moved (move grammar) v rest (λ x. settle (move grammar) rest x token)) s)) tt
      go (Takes more b) s k = absurd k

  pub settle_end : (old popped new : List (Symbol C A W)) (built next : B) (token : T) → settle (move grammar) old built token ≡ settle (move grammar) popped next token → popped ≡ [] → Settles false (settle (move grammar) old built token) new holds
  settle_end old popped new built next token e p = subst (λ o. Settles false o new holds) (sym (e ∙ ap (λ ys. settle (move grammar) ys next token) p)) tt

  -- one turn over the tokens, where the one at this place is taken
  pub run_taken : (all : List T) (old new : List (Symbol C A W)) (next : B) (place : ℕ) (token : T) (taken : Bool) (answer : Result B ℕ) → drop place all ≡ token ∷ drop (suc place) all → answer ≡ run (move grammar) old next place (drop place all) → taken ≡ true → Settles taken (settle (move grammar) old next token) new holds → (end : B) × holds end × (answer ≡ run (move grammar) new end (place + 1) (drop (place + 1) all))
  run_taken all old new next place token taken answer d e t s = go (settle (move grammar) old next token) refl (subst (λ b. Settles b (settle (move grammar) old next token) new holds) t s)
    where
      go : (o : Option (List (Symbol C A W) × B)) → settle (move grammar) old next token ≡ o → Settles true o new holds → (end : B) × holds end × (answer ≡ run (move grammar) new end (place + 1) (drop (place + 1) all))
      go None q k = absurd k
      go (Some left) q k = (
        left.1,
        k.1,
        e ∙ ap (λ ts. run (move grammar) old next place ts) d
            ∙ ap (λ o. goes_on (move grammar) o place (λ ys c. run (move grammar) ys c (place + 1) (drop (suc place) all))) q
            ∙ ap (λ ys. run (move grammar) ys left.1 (place + 1) (drop (suc place) all)) (sym k.0)
            ∙ ap (λ n. run (move grammar) new left.1 (place + 1) (drop n all)) (sym (add-one place)),
      )

  -- no symbol can take the token at this place
  pub run_stopped : (all : List T) (old new : List (Symbol C A W)) (next : B) (place : ℕ) (token : T) (taken : Bool) (answer : Result B ℕ) → drop place all ≡ token ∷ drop (suc place) all → answer ≡ run (move grammar) old next place (drop place all) → taken ≡ false → Settles taken (settle (move grammar) old next token) new holds → answer ≡ Err place
  run_stopped all old new next place token taken answer d e t s = go (settle (move grammar) old next token) refl (subst (λ b. Settles b (settle (move grammar) old next token) new holds) t s)
    where
      go : (o : Option (List (Symbol C A W) × B)) → settle (move grammar) old next token ≡ o → Settles false o new holds → answer ≡ Err place
      go (Some left) q k = absurd k
      go None q k =
          e ∙ ap (λ ts. run (move grammar) old next place ts) d
          ∙ ap (λ o. goes_on (move grammar) o place (λ ys c. run (move grammar) ys c (place + 1) (drop (suc place) all))) q

  -- behind the last token
  run_ended : (all : List T) (old : List (Symbol C A W)) (next : B) (place : ℕ) (answer : Result B ℕ) → length all ≤ place → answer ≡ run (move grammar) old next place (drop place all) → answer ≡ finish (move grammar) old next place
  run_ended all old next place answer l e = e ∙ ap (λ ts. run (move grammar) old next place ts) (drop_of_length-le all l)

  pub run_finished : (all : List T) (old : List (Symbol C A W)) (next : B) (place : ℕ) (done : Bool) (answer : Result B ℕ) → length all ≤ place → answer ≡ run (move grammar) old next place (drop place all) → done ≡ true → Finishes done place (finish (move grammar) old next place) holds → Parses (Ok (tt {0})) answer (λ done. holds)
  run_finished all old next place done answer l e t f = go (finish (move grammar) old next place) refl (subst (λ b. Finishes b place (finish (move grammar) old next place) holds) t f)
    where
      go : (r : Result B ℕ) → finish (move grammar) old next place ≡ r → Finishes true place r holds → Parses (Ok (tt {0})) answer (λ done. holds)
      go (Ok end) q k = subst (λ r. Parses (Ok (tt {0})) r (λ done. holds)) (sym (run_ended all old next place answer l e ∙ q)) k
      go (Err at) q k = absurd k

  pub run_cut : (all : List T) (old : List (Symbol C A W)) (next : B) (place count : ℕ) (done : Bool) (answer : Result B ℕ) → length all ≤ place → place ≡ count → answer ≡ run (move grammar) old next place (drop place all) → done ≡ false → Finishes done place (finish (move grammar) old next place) holds → Parses {R = Unit {0}} (Err (Refused count)) answer (λ done. holds)
  run_cut all old next place count done answer l p e t f = go (finish (move grammar) old next place) refl (subst (λ b. Finishes b place (finish (move grammar) old next place) holds) t f)
    where
      go : (r : Result B ℕ) → finish (move grammar) old next place ≡ r → Finishes false place r holds → Parses {R = Unit {0}} (Err (Refused count)) answer (λ done. holds)
      go (Ok end) q k = absurd k
      go (Err at) q k = subst (λ r. Parses {R = Unit {0}} (Err (Refused count)) r (λ done. holds)) (sym (run_ended all old next place answer l e ∙ q)) (sym p ∙ k)

-- the token at a place
pub token_at : {T : Type 0} (all : List T) (place : ℕ) → place < length all → (token : T) × (slice_get all place ≡ Some token) × (drop place all ≡ token ∷ drop (suc place) all)
token_at [] place l = absurd (omega arith)
token_at (token ∷ all) zero l = (token, refl, refl)
token_at (token ∷ all) (suc place) l = let r = token_at all place (omega arith) in (r.0, r.1, r.2)
