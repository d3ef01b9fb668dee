-- States under new names: where no two names come to one new name, each state is found.
use Rattle.std.proofs.Common.{◌≡◌, ◌≢◌, ℕ, suc, ◌+◌, ◌<◌, Bool, true, false, not, cond, nat_lt, Option, Some, None, List, [], ◌∷◌, length, map, refl, sym, ap, ◌∙◌, arith}
use Rattle.std.specs.Prelude.{slice_get, position, option_and_then, option_map, codes}
use Rattle.std.specs.List.{position_or_len}
use Rattle.std.specs.Str.{bytes_eq}
use Rattle.std.proofs.lemmas.Slice.Eq.{bytes_eq-Decides}
use Rattle.std.proofs.lemmas.Bool.{lt-ltb, ltb-true}
use Rattle.p414_syntax.specs.declared.parsers.Parser.{Parser}
use Rattle.p414_syntax.specs.declared.syntax.Decl.{Decl}
use Rattle.p414_syntax.specs.Names.{Name}
use Rattle.p414_syntax.specs.ParserGraph.{states, state_name}
use Rattle.p414_sem.specs.Parsing.{state_named}
use Rattle.v1_core.specs.Parsing.{state_called}
use Rattle.agreement_of_meanings.proofs.Names.{same_name, other_name, differ_names}
use Rattle.lower_laws_base.specs.Context.{Lowering}
use Rattle.lower_laws_parser.specs.Words.{ParserWords, state_of}
use Rattle.lower_laws_parser.specs.Parsing.{StateFits, HasState, HasStates}
use Rattle.lower_laws_parser.specs.Starts.{start_state}

-- the place of the first that passes, from the front on: as in p414_control_check

same_order : (a b c d : ℕ) → ((a < b) → c < d) → ((c < d) → a < b) → nat_lt a b ≡ nat_lt c d
same_order a b c d f g = by_value (nat_lt a b) refl where
  by_value : (t : Bool) → nat_lt a b ≡ t → nat_lt a b ≡ nat_lt c d
  by_value true e = e ∙ sym (lt-ltb _ _ (f (ltb-true _ _ e)))
  by_value false e = e ∙ by_other (nat_lt c d) refl where
    by_other : (u : Bool) → nat_lt c d ≡ u → false ≡ nat_lt c d
    by_other true h = absurd (cc (e, lt-ltb _ _ (g (ltb-true _ _ h))))
    by_other false h = sym h

suc_of : (b : Bool) (n : ℕ) → cond b (Some (suc n)) None ≡ option_map suc (cond b (Some n) None)
suc_of true n = refl
suc_of false n = refl

pub position_past : {X : Type 0} (p : X → Bool) (x : X) (xs : List X) → p x ≡ false → position p (x ∷ xs) ≡ option_map suc (position p xs)
position_past p x xs e =
    let n : position_or_len p (x ∷ xs) ≡ suc (position_or_len p xs) = ap (λ b. cond (not b) (1 + position_or_len p xs) 0) e ∙ more (position_or_len p xs) in
    ap (λ k. cond (nat_lt k (suc (length xs))) (Some k) None) n
    ∙ (ap (λ b. cond b (Some (suc (position_or_len p xs))) None) (same_order (suc (position_or_len p xs)) (suc (length xs)) (position_or_len p xs) (length xs) (λ h. omega arith) (λ h. omega arith))
    ∙ suc_of (nat_lt (position_or_len p xs) (length xs)) (position_or_len p xs))
  where
    more : (m : ℕ) → 1 + m ≡ suc m
    more m = omega arith

pub position_here : {X : Type 0} (p : X → Bool) (x : X) (xs : List X) → p x ≡ true → position p (x ∷ xs) ≡ Some 0
position_here p x xs e =
    let n : position_or_len p (x ∷ xs) ≡ 0 = ap (λ b. cond (not b) (1 + position_or_len p xs) 0) e in
    ap (λ k. cond (nat_lt k (suc (length xs))) (Some k) None) n
    ∙ ap (λ b. cond b (Some 0) None) (lt-ltb 0 (suc (length xs)) (omega arith))

abbrev at_place : List Parser → Option ℕ → Option Parser
at_place xs o = option_and_then (slice_get xs) o

next_place : (x : Parser) (xs : List Parser) (o : Option ℕ) → at_place (x ∷ xs) (option_map suc o) ≡ at_place xs o
next_place x xs None = refl
next_place x xs (Some n) = refl

module _ (ds : List Decl) (p : ParserWords) (differ : (a b : Name) → a ≢ b → p.state a ≢ p.state b) where
  abbrev Found : List Parser → Name → Parser → Type 0
  Found xs called x = state_called (map (state_of ds p) xs) (p.state called) ≡ Some (state_of ds p x)

  found : (xs : List Parser) (called : Name) (x : Parser) → at_place xs (position (bytes_eq called) (map state_name xs)) ≡ Some x → Found xs called x
  found [] called x e = absurd (cc e)
  found (y ∷ xs) called x e = by (bytes_eq called y.name) refl (found xs called x) where
    by : (b : Bool) → bytes_eq called y.name ≡ b → (at_place xs (position (bytes_eq called) (map state_name xs)) ≡ Some x → Found xs called x) → Found (y ∷ xs) called x
    by true is more =
        let here : Some y ≡ Some x = sym (ap (at_place (y ∷ xs)) (position_here (bytes_eq called) y.name (map state_name xs) is)) ∙ e in
        let same : called ≡ y.name = (bytes_eq-Decides called y.name).0 is in
        ap (λ b. cond b (Some (state_of ds p y)) (state_called (map (state_of ds p) xs) (p.state called))) (ap (λ z. bytes_eq (p.state y.name) (p.state z)) same ∙ same_name (p.state y.name))
        ∙ ap (λ (o : Option Parser). option_map (state_of ds p) o) here
    by false is more =
        let there : at_place xs (position (bytes_eq called) (map state_name xs)) ≡ Some x = sym (next_place y xs (position (bytes_eq called) (map state_name xs))) ∙ sym (ap (at_place (y ∷ xs)) (position_past (bytes_eq called) y.name (map state_name xs) is)) ∙ e in
        ap (λ b. cond b (Some (state_of ds p y)) (state_called (map (state_of ds p) xs) (p.state called))) (other_name (p.state y.name) (p.state called) (differ y.name called (λ z. differ_names called y.name is (sym z))))
        ∙ more there

  -- the states of the program behind the one that writes initial values
  pub has_states : (c : Lowering) → ((called : Name) → p.state called ≢ codes "start") → ((called : Name) (x : Parser) → state_named ds called ≡ Some x → StateFits c ds p x) → HasStates c ds p (start_state ds p ∷ map (state_of ds p) (states ds))
  has_states c apart fits called = by (state_named ds called) refl where
    by : (x : Option Parser) → state_named ds called ≡ x → HasState c ds p (start_state ds p ∷ map (state_of ds p) (states ds)) called x
    by None e = tt
    by (Some x) e = (
      ap (λ b. cond b (Some (start_state ds p)) (state_called (map (state_of ds p) (states ds)) (p.state called))) (other_name (codes "start") (p.state called) (λ z. apart called (sym z)))
          ∙ found (states ds) called x e,
      fits called x e,
    )

  -- without such a state
  pub has_plainly : (c : Lowering) → ((called : Name) (x : Parser) → state_named ds called ≡ Some x → StateFits c ds p x) → HasStates c ds p (map (state_of ds p) (states ds))
  has_plainly c fits called = by (state_named ds called) refl where
    by : (x : Option Parser) → state_named ds called ≡ x → HasState c ds p (map (state_of ds p) (states ds)) called x
    by None e = tt
    by (Some x) e = (found (states ds) called x e, fits called x e)
