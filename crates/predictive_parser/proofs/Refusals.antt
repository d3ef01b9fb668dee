-- What holds of a refusal, whatever the grammar: no list that goes on so is read, and where each list
-- of symbols that comes up can be completed, the tokens before it begin one that is.
use Rattle.std.proofs.Common.{◌≡◌, ◌≢◌, ◌⊎◌, ℕ, ◌+◌, List, [], ◌∷◌, ◌++◌, length, Option, Some, None, Result, Ok, Err, refl, sym, ap, ◌∙◌, subst, inl, inr, arith}
use Rattle.predictive_parser.specs.Machine.{Move, Takes, Passes, Stops, moved, settle, ended, finish, goes_on, run}

module _ {S T B : Type 0} (move : S → Option T → B → Move S B) where
  -- The tokens are refused behind those of `front`: either they end there, and aren't read; or another
  -- token stands there, and no list that begins up to it is read.
  pub record RefusedAt (symbols : List S) (built : B) (place : ℕ) (tokens : List T) (at : ℕ) : Type 0 where
    pub front : List T
    pub counts : place + length front ≡ at
    pub never :
        ((tokens ≡ front) × ((end : B) → run move symbols built place front ≢ Ok end))
        ⊎ ((token : T) × (back : List T) × (tokens ≡ front ++ token ∷ back) × ((more : List T) (end : B) → run move symbols built place (front ++ token ∷ more) ≢ Ok end))

  ended_place : (v : Move S B) (place at : ℕ) (rest : B → Result B ℕ) → ((next : B) → rest next ≡ Err at → place ≡ at) → ended move v place rest ≡ Err at → place ≡ at
  ended_place (Passes next) place at rest f h = f next h
  ended_place Stops place at rest f h = cc
  ended_place (Takes more next) place at rest f h = cc

  pub finish_place : (symbols : List S) (built : B) (place at : ℕ) → finish move symbols built place ≡ Err at → place ≡ at
  finish_place [] built place at e = cc
  finish_place (symbol ∷ symbols) built place at e =
      ended_place (move symbol None built) place at (λ next. finish move symbols next place) (λ next. finish_place symbols next place at) e

  pub refused : (tokens : List T) (symbols : List S) (built : B) (place at : ℕ) → run move symbols built place tokens ≡ Err at → RefusedAt symbols built place tokens at
  refused [] symbols built place at e =
      record { front = []; counts = let h : place ≡ at = finish_place symbols built place at e in omega arith; never = inl (refl, λ end h. cc) }
  refused (token ∷ tokens) symbols built place at e =
      go (settle move symbols built token) refl e (λ left. refused tokens left.0 left.1 (place + 1) at)
    where
      deep : (left : List S × B) → settle move symbols built token ≡ Some left → RefusedAt left.0 left.1 (place + 1) tokens at → RefusedAt symbols built place (token ∷ tokens) at
      deep left s r = record {
        front = token ∷ r.front;
        counts = omega (arith, r.counts);
        never = elim r.never [
          | inl h ↦ inl (ap (λ us. token ∷ us) h.0, λ end k. h.1 end (sym (ap (λ o. goes_on move o place (λ ys d. run move ys d (place + 1) r.front)) s) ∙ k))
          | inr h ↦ inr (h.0, h.1, ap (λ us. token ∷ us) h.2, λ more end k. h.3 more end (sym (ap (λ o. goes_on move o place (λ ys d. run move ys d (place + 1) (r.front ++ h.0 ∷ more))) s) ∙ k))
        ];
      }

      go : (o : Option (List S × B)) → settle move symbols built token ≡ o → goes_on move o place (λ ys c. run move ys c (place + 1) tokens) ≡ Err at → ((left : List S × B) → run move left.0 left.1 (place + 1) tokens ≡ Err at → RefusedAt left.0 left.1 (place + 1) tokens at) → RefusedAt symbols built place (token ∷ tokens) at
      go None s h f = record { front = []; counts = let k : place ≡ at = cc in omega arith; never = inr (token, tokens, refl, λ more end k. let j = sym (ap (λ o. goes_on move o place (λ ys d. run move ys d (place + 1) more)) s) ∙ k in cc) }
      go (Some left) s h f = deep left s (f left h)

  -- lists of symbols of which each can be completed: the property goes on with each move, and there are
  -- tokens that complete the list
  pub record CanEnd (Good : List S → B → Type 0) : Type 0 where
    pub passing : (symbol : S) (symbols : List S) (built next : B) (token : T) → move symbol (Some token) built ≡ Passes next → Good (symbol ∷ symbols) built → Good symbols next
    pub taking : (symbol : S) (symbols more : List S) (built next : B) (token : T) → move symbol (Some token) built ≡ Takes more next → Good (symbol ∷ symbols) built → Good (more ++ symbols) next
    pub ends : (symbols : List S) (built : B) → Good symbols built → (more : List T) × (end : B) × ((place : ℕ) → run move symbols built place more ≡ Ok end)

  -- the tokens before the place of the refusal can be completed
  pub record BeginsAt (symbols : List S) (built : B) (place : ℕ) (tokens : List T) (at : ℕ) : Type 0 where
    pub front : List T
    pub back : List T
    pub whole : tokens ≡ front ++ back
    pub counts : place + length front ≡ at
    pub more : List T
    pub end : B
    pub reads : run move symbols built place (front ++ more) ≡ Ok end

  module _ (Good : List S → B → Type 0) (can : CanEnd Good) where
    settle_good : (symbols : List S) (built : B) (token : T) (left : List S × B) → settle move symbols built token ≡ Some left → Good symbols built → Good left.0 left.1
    settle_good [] built token left e g = cc
    settle_good (symbol ∷ symbols) built token left e g =
        go (move symbol (Some token) built) refl e (λ next m s. settle_good symbols next token left s (can.passing symbol symbols built next token m g))
      where
        go : (v : Move S B) → move symbol (Some token) built ≡ v → moved move v symbols (λ next. settle move symbols next token) ≡ Some left → ((next : B) → move symbol (Some token) built ≡ Passes next → settle move symbols next token ≡ Some left → Good left.0 left.1) → Good left.0 left.1
        go (Passes next) s h f = f next s h
        go Stops s h f = cc
        go (Takes more next) s h f = let q : (more ++ symbols, next) ≡ left = cc in subst (λ (k : List S × B). Good k.0 k.1) q (can.taking symbol symbols more built next token s g)

    stop_here : (tokens : List T) (symbols : List S) (built : B) (place at : ℕ) → Good symbols built → place ≡ at → BeginsAt symbols built place tokens at
    stop_here tokens symbols built place at g e =
        let c = can.ends symbols built g in
        record { front = []; back = tokens; whole = refl; counts = omega arith; more = c.0; end = c.1; reads = c.2 place }

    pub begins : (tokens : List T) (symbols : List S) (built : B) (place at : ℕ) → Good symbols built → run move symbols built place tokens ≡ Err at → BeginsAt symbols built place tokens at
    begins [] symbols built place at g e = stop_here [] symbols built place at g (finish_place symbols built place at e)
    begins (token ∷ tokens) symbols built place at g e =
        go (settle move symbols built token) refl e (λ left. begins tokens left.0 left.1 (place + 1) at)
      where
        go : (o : Option (List S × B)) → settle move symbols built token ≡ o → goes_on move o place (λ ys c. run move ys c (place + 1) tokens) ≡ Err at → ((left : List S × B) → Good left.0 left.1 → run move left.0 left.1 (place + 1) tokens ≡ Err at → BeginsAt left.0 left.1 (place + 1) tokens at) → BeginsAt symbols built place (token ∷ tokens) at
        go None s h f = stop_here (token ∷ tokens) symbols built place at g (cc)
        go (Some left) s h f =
            let r = f left (settle_good symbols built token left s g) h in
            record {
              front = token ∷ r.front;
              back = r.back;
              whole = ap (λ us. token ∷ us) r.whole;
              counts = omega (arith, r.counts);
              more = r.more;
              end = r.end;
              reads = ap (λ o. goes_on move o place (λ ys d. run move ys d (place + 1) (r.front ++ r.more))) s ∙ r.reads;
            }
