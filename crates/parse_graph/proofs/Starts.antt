-- A parser state that is declared by a name has a number among the states.
use Rattle.std.proofs.Common.{◌≡◌, ℕ, ◌<◌, Bool, true, false, not, ◌||◌, List, [], ◌∷◌, length, get_or, map, position, Option, Some, None, zero, suc, cond, ◌+◌, refl, sym, ap, ◌∙◌, subst, arith}
use Rattle.std.specs.Prelude.{slice_get, codes, option_and_then, unwrap_or}
use Rattle.std.specs.List.{list_any, position_or_len}
use Rattle.std.specs.Str.{bytes_eq}
use Rattle.std.proofs.lemmas.Bool.{false≢true, lt-ltb}
use Rattle.std.proofs.lemmas.List.{length-map}
use Rattle.std.proofs.lemmas.List.Quantifiers.{position-Some}
use Rattle.p414_syntax.specs.declared.syntax.Decl.{Decl}
use Rattle.p414_syntax.specs.declared.syntax.Decl.TheVariants as decl
use Rattle.p414_syntax.specs.declared.syntax.Sort.TheVariants as sort
use Rattle.p414_syntax.specs.Names.{Name, names_in, declared_in, number_of, numbered, is_state}
use Rattle.p414_syntax.specs.Unknown.{parse_of, lacks_start}
use Rattle.p414_syntax.specs.ParserGraph.{states, state_name, state_number}
use Rattle.parse_graph.specs.declared.nodes.Graph.{Graph}
use Rattle.parse_graph.specs.Programs.{IsGraph, BeginsInStart, node_of}

or_right : (a b : Bool) → b ≡ true → (a || b) ≡ true
or_right true b e = refl
or_right false b e = e

or_left : (a b : Bool) → a ≡ true → (a || b) ≡ true
or_left true b e = refl
or_left false b e = absurd (false≢true e)

-- the name that stands at the place of a parser state is among the names of the states
at : (ds : List Decl) (name : Name) (n : ℕ) (o : Option Decl) → slice_get (declared_in sort.Parse ds) n ≡ o → is_state o ≡ true → bytes_eq name (get_or (names_in sort.Parse ds) n []) ≡ true → list_any (bytes_eq name) (map state_name (states ds)) ≡ true
at [] name n o is state same = absurd (false≢true (subst (λ o. is_state o ≡ true) (sym is) state))
at (decl.Parser x ∷ ds) name zero o is state same = or_left _ _ same
at (decl.Parser x ∷ ds) name (suc n) o is state same = or_right _ _ (at ds name n o is state same)
at (decl.Control x ∷ ds) name zero o is state same = absurd (false≢true (subst (λ o. is_state o ≡ true) (sym is) state))
at (decl.Control x ∷ ds) name (suc n) o is state same = at ds name n o is state same
at (decl.HeaderType x ∷ ds) name n o is state same = at ds name n o is state same
at (decl.Header x ∷ ds) name n o is state same = at ds name n o is state same
at (decl.Metadata x ∷ ds) name n o is state same = at ds name n o is state same
at (decl.FieldList x ∷ ds) name n o is state same = at ds name n o is state same
at (decl.FieldListCalculation x ∷ ds) name n o is state same = at ds name n o is state same
at (decl.CalculatedField x ∷ ds) name n o is state same = at ds name n o is state same
at (decl.Action x ∷ ds) name n o is state same = at ds name n o is state same
at (decl.Table x ∷ ds) name n o is state same = at ds name n o is state same
at (decl.Counter x ∷ ds) name n o is state same = at ds name n o is state same
at (decl.Meter x ∷ ds) name n o is state same = at ds name n o is state same
at (decl.Register x ∷ ds) name n o is state same = at ds name n o is state same
at (decl.LeftOut x ∷ ds) name n o is state same = at ds name n o is state same

by_number : (ds : List Decl) (name : Name) (o : Option ℕ) → number_of sort.Parse ds name ≡ o → is_state (option_and_then (numbered sort.Parse ds) o) ≡ true → list_any (bytes_eq name) (map state_name (states ds)) ≡ true
by_number ds name None is state = absurd (false≢true state)
by_number ds name (Some n) is state = at ds name n (numbered sort.Parse ds n) refl state (position-Some (bytes_eq name) (names_in sort.Parse ds) n [] is).1

pub declared_state : (ds : List Decl) (name : Name) → is_state (parse_of ds name) ≡ true → list_any (bytes_eq name) (map state_name (states ds)) ≡ true
declared_state ds name state = by_number ds name (number_of sort.Parse ds name) refl state

-- a test that holds somewhere has a first place
found_if : (b : Bool) (n l : ℕ) (rest : Bool) → (rest ≡ true → n < l) → (b || rest) ≡ true → cond (not b) (1 + n) 0 < suc l
found_if true n l rest h e = omega arith
found_if false n l rest h e = let lt : n < l = h e in omega arith

within : {X : Type 0} (p : X → Bool) (xs : List X) → list_any p xs ≡ true → position_or_len p xs < length xs
within p [] e = absurd (false≢true e)
within p (x ∷ xs) e = found_if (p x) (position_or_len p xs) (length xs) (list_any p xs) (within p xs) e

abbrev IsPlace : {X : Type 0} → (X → Bool) → List X → ℕ → Type 0
IsPlace p xs n = (position p xs ≡ Some n) × (n < length xs)

pub first_place : {X : Type 0} (p : X → Bool) (xs : List X) → list_any p xs ≡ true → (n : ℕ) × IsPlace p xs n
first_place p xs e =
    let lt = within p xs e in
    (position_or_len p xs, (ap (λ b. cond b (Some (position_or_len p xs)) None) (lt-ltb _ _ lt), lt))

-- so it has a number among the states
pub numbered_state : (ds : List Decl) (name : Name) → is_state (parse_of ds name) ≡ true → (n : ℕ) × (state_number ds name ≡ Some n) × (n < length (states ds))
numbered_state ds name state =
    let found = first_place (bytes_eq name) (map state_name (states ds)) (declared_state ds name state) in
    (found.0, found.1.0, subst (λ l. found.0 < l) (length-map (states ds) state_name) found.1.1)

-- the graph of declarations with a state `start` begins in it

not_false : (b : Bool) → not b ≡ false → b ≡ true
not_false true e = refl
not_false false e = absurd (false≢true (sym e))

pub begins : (ds : List Decl) (g : Graph) → IsGraph ds g → lacks_start ds ≡ false → BeginsInStart ds g
begins ds g is has =
    let found = numbered_state ds (codes "start") (not_false (is_state (parse_of ds (codes "start"))) has) in
    let start : g.start ≡ found.0 = is.start_is ∙ ap (λ o. unwrap_or o 0) found.1 in
    record {
      named = found.1 ∙ ap Some (sym start);
      within = subst (λ n. n < length g.states) (sym start) (subst (λ l. found.0 < l) (sym (ap length is.states_are ∙ length-map (states ds) (node_of ds))) found.2);
    }
