-- Where a name leads, and the new names of states.
use Rattle.std.proofs.Common.{◌≡◌, ◌⊎◌, inl, inr, ℕ, ◌<◌, ◌≤◌, Bool, true, List, [], length, map, get_or, refl, sym, ap, ◌∙◌, arith, subst, Option, Some, None}
use Rattle.std.specs.Prelude.{slice_get, option_and_then, is_some}
use Rattle.std.specs.Str.{bytes_eq}
use Rattle.std.proofs.lemmas.Slice.Eq.{bytes_eq-Decides}
use Rattle.std.proofs.lemmas.List.{get_or-map, length-map}
use Rattle.std.proofs.lemmas.List.Quantifiers.{position-Some}
use Rattle.std.proofs.lemmas.Option.{slice_get_cases}
use Rattle.p414_syntax.specs.declared.parsers.Parser.{Parser}
use Rattle.p414_syntax.specs.declared.syntax.Decl.{Decl}
use Rattle.p414_syntax.specs.declared.syntax.Decl.TheVariants as decl
use Rattle.p414_syntax.specs.declared.syntax.Sort.TheVariants as sort
use Rattle.p414_syntax.specs.Names.{Name, is_declared, find_name}
use Rattle.p414_syntax.specs.ParserGraph.{states, state_name, state_in}
use Rattle.p416_syntax.specs.declared.parsers.Target.TheVariants as target
use Rattle.lower_laws_states.specs.Expansions.{Has}
use Rattle.lower_laws_states.proofs.Accepted.{declared_state}
use Rattle.lower_laws_states.proofs.Members.{has_at, picked_has}
use Rattle.lower_laws_names.specs.NewNames.{new_name}
use Rattle.lower_laws_parser.specs.Words.{next_by, next_of}
use Rattle.lower_laws_declared.specs.Parser.{by_declared}
use Rattle.lower_laws_declared.proofs.Found.{named_declared}
use Rattle.lower_parser.specs.Written.{AreNames, parser_names}

pub state_declared : (ds : List Decl) (x : Parser) → Has (states ds) x → is_declared sort.Parse ds x.name ≡ true
state_declared ds x h =
    let d = picked_has state_in ds x h in
    named_declared ds sort.Parse (decl.Parser x) x.name (subst (Has ds) (declared_state d.0 x d.2) d.1) refl

-- the new name of a state
pub state_called_so : (ds : List Decl) (x : Parser) → Has (states ds) x → new_name ds sort.Parse x.name ≡ (parser_names ds).state x.name
state_called_so ds x h = ap (λ (b : Bool). by_declared b ds x.name) (sym (state_declared ds x h))

called_at : (ds : List Decl) (called : Name) (n : ℕ) → find_name (map state_name (states ds)) called ≡ Some n → (n < length (states ds)) × (called ≡ get_or (map state_name (states ds)) n [])
called_at ds called n e =
    let at = position-Some (bytes_eq called) (map state_name (states ds)) n [] e in
    (omega (arith, at.0, length-map (states ds) state_name), (bytes_eq-Decides called (get_or (map state_name (states ds)) n [])).0 at.1)

pub are_names : (ds : List Decl) (from names called : List Name) → from ≡ map state_name (states ds) → names ≡ from → called ≡ map (new_name ds sort.Parse) from → AreNames ds names called
are_names ds from names called is first all = record { old = first ∙ is; new = all ∙ ap (map (new_name ds sort.Parse)) is }

-- the number of a state is one of a new name
pub called_inside : (ds : List Decl) (called : Name) (n : ℕ) (names all : List Name) → AreNames ds names all → find_name names called ≡ Some n → n < length all
called_inside ds called n names all are e =
    let at = called_at ds called n (ap (λ (xs : List Name). find_name xs called) (sym are.old) ∙ e) in
    omega (arith, at.0, ap length are.new, length-map (map state_name (states ds)) (new_name ds sort.Parse), length-map (states ds) state_name)

found : (ds : List Decl) (called text : Name) (n : ℕ) → find_name (map state_name (states ds)) called ≡ Some n → text ≡ new_name ds sort.Parse called → (x : Parser) → n < length (states ds) → slice_get (states ds) n ≡ Some x → get_or (states ds) n x ≡ x → target.State text ≡ next_of ds (parser_names ds) called
found ds called text n e new x lt there is =
    let so : called ≡ x.name = (called_at ds called n e).1 ∙ (get_or-map state_name (states ds) n x [] lt ∙ ap state_name is) in
    let declared : is_declared sort.Parse ds called ≡ true = ap (is_declared sort.Parse ds) so ∙ state_declared ds x (has_at (states ds) n x there) in
    ap target.State (new ∙ ap (λ (b : Bool). by_declared b ds called) (sym declared))
    ∙ ap (λ (o : Option Parser). next_by ds (parser_names ds) (is_some o) called) (sym (ap (option_and_then (slice_get (states ds))) e ∙ there))

by_number : (ds : List Decl) (called text : Name) (n : ℕ) → find_name (map state_name (states ds)) called ≡ Some n → text ≡ new_name ds sort.Parse called → target.State text ≡ next_of ds (parser_names ds) called
by_number ds called text n e new = in_list (slice_get_cases (states ds) n).1 where
  in_list : ((x : Parser) × (n < length (states ds)) × (slice_get (states ds) n ≡ Some x) × (get_or (states ds) n x ≡ x)) ⊎ ((length (states ds) ≤ n) × (slice_get (states ds) n ≡ None)) → target.State text ≡ next_of ds (parser_names ds) called
  in_list (inl (x, lt, there, is)) = found ds called text n e new x lt there is
  in_list (inr (past, none)) = absurd (omega (arith, (called_at ds called n e).0, past))

-- the new name with a state's number is that of the state
pub leads_there : (ds : List Decl) (called text d : Name) (n : ℕ) (names all : List Name) → AreNames ds names all → find_name names called ≡ Some n → text ≡ get_or all n d → target.State text ≡ next_of ds (parser_names ds) called
leads_there ds called text d n names all are e is =
    let there : find_name (map state_name (states ds)) called ≡ Some n = ap (λ (xs : List Name). find_name xs called) (sym are.old) ∙ e in
    let at = called_at ds called n there in
    let within : n < length (map state_name (states ds)) = omega (arith, at.0, length-map (states ds) state_name) in
    by_number ds called text n there
    (is ∙ ap (λ (xs : List Name). get_or xs n d) are.new ∙ get_or-map (new_name ds sort.Parse) (map state_name (states ds)) n [] d within ∙ ap (new_name ds sort.Parse) (sym at.1))

pub leads_seen : (es ds : List Decl) (called text d : Name) (n : ℕ) (names all : List Name) → es ≡ ds → AreNames es names all → find_name names called ≡ Some n → text ≡ get_or all n d → target.State text ≡ next_of ds (parser_names ds) called
leads_seen es ds called text d n names all same are e is =
    subst (λ (xs : List Decl). target.State text ≡ next_of xs (parser_names xs) called) same (leads_there es called text d n names all are e is)

pub leads_out : (ds : List Decl) (called : Name) (names all : List Name) → AreNames ds names all → find_name names called ≡ None → target.Accept ≡ next_of ds (parser_names ds) called
leads_out ds called names all are e =
    ap (λ (o : Option ℕ). next_by ds (parser_names ds) (is_some (option_and_then (slice_get (states ds)) o)) called)
    (sym (ap (λ (xs : List Name). find_name xs called) (sym are.old) ∙ e))
