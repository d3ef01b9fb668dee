-- States by their names.
use Rattle.std.proofs.Common.{◌≡◌, ℕ, suc, Bool, true, false, ◌||◌, cond, List, [], ◌∷◌, ◌++◌, map, Option, Some, None, refl, sym, ap, ◌∙◌}
use Rattle.std.specs.Prelude.{is_some, position, option_map, slice_get}
use Rattle.std.specs.List.{list_any}
use Rattle.std.specs.Str.{bytes_eq}
use Rattle.std.specs.Option.{option_and_then}
use Rattle.std.proofs.lemmas.List.{append-nil}
use Rattle.std.proofs.lemmas.Slice.Eq.{bytes_eq-Decides}
use Rattle.p414_syntax.specs.declared.parsers.Parser.{Parser}
use Rattle.p414_syntax.specs.declared.syntax.Decl.{Decl}
use Rattle.p414_syntax.specs.Names.{Name}
use Rattle.p414_syntax.specs.ParserGraph.{states, state_name}
use Rattle.p414_sem.specs.Parsing.{state_named}
use Rattle.p416_syntax.specs.declared.parsers.State.{State}
use Rattle.p416_syntax.specs.declared.parsers.Parser16.{Parser16}
use Rattle.p416_syntax.specs.Names.{has_name, repeats}
use Rattle.p416_syntax.specs.Scopes.{Scope, Known, a_state, called_of, known_parameter, sort_in, sort_of}
use Rattle.p416_syntax.specs.Declarations.{known_state, known_var, parser_names, parser_scope, state_name as name16}
use Rattle.lower_laws_parser.specs.Words.{ParserWords, state_of}
use Rattle.lower_laws_parser.proofs.Named.{position_past}
use Rattle.lower_laws_rules.proofs.Found.{left_false, right_false, found_beyond, turned}

-- what is found passes
nowhere : {X : Type 0} (p : X → Bool) (xs : List X) → list_any p xs ≡ false → is_some (position p xs) ≡ false
nowhere p [] none = refl
nowhere p (x ∷ xs) none = ap is_some (position_past p x xs (left_false _ _ none)) ∙ by (position p xs) (nowhere p xs (right_false _ _ none)) where
  by : (o : Option ℕ) → is_some o ≡ false → is_some (option_map suc o) ≡ false
  by None e = refl
  by (Some n) e = absurd (cc e)

pub named_among : (ds : List Decl) (called : Name) → is_some (state_named ds called) ≡ true → has_name (map state_name (states ds)) called ≡ true
named_among ds called is = by (has_name (map state_name (states ds)) called) refl where
  by : (b : Bool) → has_name (map state_name (states ds)) called ≡ b → has_name (map state_name (states ds)) called ≡ true
  by true e = e
  by false e = absurd (none (position (bytes_eq called) (map state_name (states ds))) (nowhere (bytes_eq called) (map state_name (states ds)) e) is) where
    none : (o : Option ℕ) → is_some o ≡ false → is_some (option_and_then (slice_get (states ds)) o) ≡ true → ⊥
    none None e is = absurd (cc is)
    none (Some n) e is = absurd (cc e)

-- in the scope of the parser

apart : (xs ys : List Name) (text : Name) → repeats (xs ++ ys) ≡ false → has_name ys text ≡ true → has_name xs text ≡ false
apart [] ys text once has = refl
apart (x ∷ xs) ys text once has = by (bytes_eq text x) refl (apart xs ys text (right_false _ _ once) has) where
  lacks : (zs : List Name) → has_name (zs ++ ys) x ≡ false → has_name ys x ≡ false
  lacks [] e = e
  lacks (z ∷ zs) e = lacks zs (right_false _ _ e)

  by : (b : Bool) → bytes_eq text x ≡ b → has_name xs text ≡ false → b || has_name xs text ≡ false
  by true same rest = absurd (cc (has, ap (has_name ys) ((bytes_eq-Decides text x).0 same) ∙ lacks xs (left_false _ _ once)))
  by false other rest = rest

a_state_found : (xs : List State) (more : List Known) (text : Name) → has_name (map name16 xs) text ≡ true → sort_in (map known_state xs ++ more) text ≡ a_state
a_state_found [] more text has = absurd (cc has)
a_state_found (x ∷ xs) more text has = by (bytes_eq x.name text) refl (a_state_found xs more text) where
  by : (b : Bool) → bytes_eq x.name text ≡ b → (has_name (map name16 xs) text ≡ true → sort_in (map known_state xs ++ more) text ≡ a_state) → cond b a_state (sort_in (map known_state xs ++ more) text) ≡ a_state
  by true same rest = refl
  by false other rest = rest (sym (ap (λ b. b || has_name (map name16 xs) text) (turned x.name text other)) ∙ has)

pub called_states : (xs : List State) → map called_of (map known_state xs) ≡ map name16 xs
called_states [] = refl
called_states (x ∷ xs) = ap (λ ys. x.name ∷ ys) (called_states xs)

pub called_behind : (xs ys : List Known) → map called_of (xs ++ ys) ≡ map called_of xs ++ map called_of ys
called_behind [] ys = refl
called_behind (x ∷ xs) ys = ap (λ zs. x.called ∷ zs) (called_behind xs ys)

grouped : (xs ys zs : List Known) → (xs ++ ys) ++ zs ≡ xs ++ (ys ++ zs)
grouped [] ys zs = refl
grouped (x ∷ xs) ys zs = ap (λ ks. x ∷ ks) (grouped xs ys zs)

pub state_found : (s : Scope) (q : Parser16) → q.vars ≡ [] → repeats (map called_of (parser_names s.names q)) ≡ false → (text : Name) → has_name (map name16 q.states) text ≡ true → sort_of (parser_scope s q) text ≡ a_state
state_found s q bare once text has =
    let params = map (known_parameter s.names) q.parameters in
    let all : parser_names s.names q ≡ params ++ map known_state q.states = ap (λ vs. (params ++ map (known_var s.names) vs) ++ map known_state q.states) bare ∙ ap (λ ks. ks ++ map known_state q.states) (append-nil params) in
    let differ : repeats (map called_of params ++ map name16 q.states) ≡ false = ap repeats (sym (ap (λ ks. map called_of ks) all ∙ called_behind params (map known_state q.states) ∙ ap (λ ks. map called_of params ++ ks) (called_states q.states))) ∙ once in
    ap (λ (ks : List Known). sort_in (ks ++ s.names) text) all
    ∙ ap (λ (ks : List Known). sort_in ks text) (grouped params (map known_state q.states) s.names)
    ∙ found_beyond params (map known_state q.states ++ s.names) text (apart (map called_of params) (map name16 q.states) text differ has)
    ∙ a_state_found q.states s.names text has

-- the new names of the states
pub new_names : (ds : List Decl) (p : ParserWords) (xs : List Parser) → map name16 (map (state_of ds p) xs) ≡ map p.state (map state_name xs)
new_names ds p [] = refl
new_names ds p (x ∷ xs) = ap (λ ys. p.state x.name ∷ ys) (new_names ds p xs)
