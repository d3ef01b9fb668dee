-- Actions are made ready one after another.
use Rattle.std.proofs.Common.{◌≡◌, ℕ, suc, ◌+◌, ◌<◌, List, [], ◌∷◌, ◌++◌, length, get_or, map, drop, Option, Some, None, sym, ap, ◌∙◌, arith}
use Rattle.std.proofs.lemmas.List.{append_assoc, map-append}
use Rattle.p416_syntax.specs.declared.parts.Param.{Param}
use Rattle.p416_syntax.specs.Scopes.{Scope}
use Rattle.v1_ready_forms.specs.Named.{NamedSeat}
use Rattle.v1_ready_blocks.specs.Statements.{Statement}
use Rattle.v1_block_run.specs.declared.block.ReadyAction.{ReadyAction}
use Rattle.v1_block_run.specs.Blocks.{seen_parameters}
use Rattle.v1_ready_statements.specs.Around.{Around, ActionPlace, slot_of_seat, variable_seat}
use Rattle.v1_ready_statements.specs.Given.{cons_option}
use Rattle.v1_ready_statements.specs.Blocks.{body_ready, slots_from}
use Rattle.v1_ready_bodies.specs.Fronts.{in_front}
use Rattle.v1_ready_bodies.proofs.Fronts.{next_items, one_on, none_on}

one : (n : ℕ) → n + 1 ≡ suc n
one n = omega arith

first_of : {X : Type 0} (xs : List X) (i : ℕ) (d : X) → i < length xs → drop i xs ≡ get_or xs i d ∷ drop (i + 1) xs
first_of xs i d lt = next_items xs i d lt

-- slots of parameters

some_first : (ps : List Param) (i : ℕ) → i < length ps → Param
some_first (p ∷ ps) i lt = p
some_first [] i lt = absurd (omega arith)

next_slot : (b : Around) (n : ℕ) (ps : List Param) (i : ℕ) → i < length ps → slots_from b n (drop i ps) ≡ cons_option (slot_of_seat (variable_seat b n)) (slots_from b (suc n) (drop (i + 1) ps))
next_slot b n ps i lt = ap (slots_from b n) (next_items ps i (some_first ps i lt) lt)

pub slots_on : (b : Around) (ps : List Param) (i n m : ℕ) → i < length ps → (slots now : List ℕ) (slot : ℕ) (due : Option (List ℕ)) → now ≡ slots ++ slot ∷ [] → m ≡ n + 1 → Some slot ≡ slot_of_seat (variable_seat b n) → in_front slots (slots_from b n (drop i ps)) ≡ due
    → in_front now (slots_from b m (drop (i + 1) ps)) ≡ due
slots_on b ps i n m lt slots now slot due pushed at is so =
    ap (λ (l : List ℕ). in_front l (slots_from b m (drop (i + 1) ps))) pushed
    ∙ (ap (λ (k : ℕ). in_front (slots ++ slot ∷ []) (slots_from b k (drop (i + 1) ps))) (at ∙ one n)
    ∙ one_on (slots_from b n (drop i ps)) (slots_from b (suc n) (drop (i + 1) ps)) (slot_of_seat (variable_seat b n)) (next_slot b n ps i lt) slots slot due is so)

pub slots_none : (b : Around) (ps : List Param) (i n : ℕ) → i < length ps → (slots : List ℕ) (due : Option (List ℕ)) → None ≡ slot_of_seat (variable_seat b n) → in_front slots (slots_from b n (drop i ps)) ≡ due → None ≡ due
slots_none b ps i n lt slots due is so = none_on (slots_from b n (drop i ps)) (slots_from b (suc n) (drop (i + 1) ps)) (slot_of_seat (variable_seat b n)) (next_slot b n ps i lt) slots due is so

-- parameters of actions

pub parameters_on : {A : Type 0} (f : A → List ℕ) (actions : List A) (i : ℕ) (own : A) → i < length actions → own ≡ get_or actions i own → (rows now : List ReadyAction) (row : ReadyAction) (due : List (List ℕ)) → now ≡ rows ++ row ∷ [] → row.parameters ≡ f own
    → map seen_parameters rows ++ map f (drop i actions) ≡ due → map seen_parameters now ++ map f (drop (i + 1) actions) ≡ due
parameters_on f actions i own lt at rows now row due pushed is so =
    let more = map f (drop (i + 1) actions) in
    let step : map f (drop i actions) ≡ f own ∷ more = ap (map f) (next_items actions i own lt ∙ ap (λ a. a ∷ drop (i + 1) actions) (sym at)) in
    ap (λ l. map seen_parameters l ++ more) pushed
    ∙ (ap (λ l. l ++ more) (map-append seen_parameters rows (row ∷ []))
    ∙ (append_assoc (map seen_parameters rows) (row.parameters ∷ []) more
    ∙ (ap (λ l. map seen_parameters rows ++ l) (ap (λ ps. ps ∷ more) is ∙ sym step) ∙ so)))

-- in a scope that is the same
pub body_here : (b : Around) (s t : Scope) (seats there : List NamedSeat) (a : ActionPlace) (r : Option Statement) → s ≡ t → seats ≡ there → r ≡ body_ready b s seats a → r ≡ body_ready b t there a
body_here b s t seats there a r scope seated is = is ∙ (ap (λ (y : Scope). body_ready b y seats a) scope ∙ ap (λ (y : List NamedSeat). body_ready b t y a) seated)
