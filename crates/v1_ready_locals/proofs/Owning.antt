-- Numbers in the order of the text are those of the declarations of a control.
use Rattle.std.proofs.Common.{◌≡◌, ℕ, suc, ◌+◌, ◌<◌, ◌≤◌, List, [], ◌∷◌, ◌++◌, length, get_or, map, drop, Some, refl, sym, ap, ◌∙◌, drop-cons, add-one, slice_get, arith}
use Rattle.std.specs.Borrow.{Bor}
use Rattle.std.proofs.lemmas.List.{append_assoc, append-nil, drop_all, map-append}
use Rattle.std.proofs.lemmas.Option.{slice_get_within, get_or_from_slice_get}
use Rattle.std.specs.Prelude.{filter_map}
use Rattle.p416_syntax.specs.declared.parsers.Var.{Var}
use Rattle.p416_syntax.specs.declared.controls.Action16.{Action16}
use Rattle.p416_syntax.specs.declared.controls.Local.{Local}
use Rattle.p416_syntax.specs.declared.controls.Local.TheVariants as local
use Rattle.p416_syntax.specs.Scopes.{Scope}
use Rattle.p416_syntax.specs.Declarations.{action_in}
use Rattle.v1_core.specs.Blocks.{var_in}
use Rattle.v1_core.specs.Slots.{local_kinds}
use Rattle.v1_core.specs.Numbered as numbered
use Rattle.v1_block_laws.specs.Variables.{locals_from}
use Rattle.v1_block_seats.specs.declared.numbers.Variable.{Variable}
use Rattle.v1_block_seats.specs.Seen.{seen_variable}
use Rattle.v1_block_seats.specs.Numbers.{actions_from}
use Rattle.v1_ready_statements.specs.Around.{ActionPlace, action_places}
use Rattle.v1_ready_locals.specs.Owned.{Owned, seen_own, owned_by, owned}
use Rattle.v1_ready_locals.specs.internal.Zipped.{action_from, number_in, zip_actions, zip_variables}
use Rattle.v1_ready_operands.specs.declared.callees.OwnAction.{OwnAction}
use Rattle.v1_ready_operands.specs.Callees.{seen_action}
use Rattle.v1_ready_bodies.specs.declared.variables.OwnVariable.{OwnVariable}

-- the numbers are those of the text

pub actions_are : (s : Scope) (n : ℕ) (locals : List Local) → zip_actions (actions_from s n locals) (filter_map action_in locals) ≡ action_places s n locals
actions_are s n [] = refl
actions_are s n (local.Action a ∷ locals) = ap (λ (l : List ActionPlace). action_from n a ∷ l) (actions_are s (n + length (local_kinds s (local.Action a))) locals)
actions_are s n (local.Var v ∷ locals) = actions_are s (n + length (local_kinds s (local.Var v))) locals
actions_are s n (local.Instance notes i ∷ locals) = actions_are s (n + length (local_kinds s (local.Instance notes i))) locals
actions_are s n (local.Table t ∷ locals) = actions_are s (n + length (local_kinds s (local.Table t))) locals

abbrev first_number : List numbered.Variable → ℕ
first_number [] = 0
first_number (v ∷ vs) = v.number

abbrev behind_first : List numbered.Variable → List numbered.Variable
behind_first [] = []
behind_first (v ∷ vs) = vs

one : (n : ℕ) → n + 1 ≡ suc n
one n = omega arith

-- a list from a place on

next_items : {X : Type 0} (xs : List X) (i : ℕ) (d : X) → i < length xs → drop i xs ≡ get_or xs i d ∷ drop (i + 1) xs
next_items xs i d h = rw (add-one, drop-cons xs i d h) refl

pub variables_are : (s : Scope) (n : ℕ) (vs : List Variable) (locals : List Local) → map seen_variable vs ≡ locals_from s n locals → zip_variables (map number_in vs) (filter_map var_in locals) ≡ owned s n locals
variables_are s n [] [] is = refl
variables_are s n (v ∷ vs) [] is = refl
variables_are s n [] (local.Var x ∷ locals) is = absurd (cc is)
variables_are s n (v ∷ vs) (local.Var x ∷ locals) is =
    ap (λ (k : ℕ). owned_by k x ∷ zip_variables (map number_in vs) (filter_map var_in locals)) (ap first_number is)
    ∙ ap (λ (l : List Owned). owned_by n x ∷ l) (variables_are s (suc n) vs locals (ap behind_first is ∙ ap (λ (k : ℕ). locals_from s k locals) (one n)))
variables_are s n vs (local.Action a ∷ locals) is = variables_are s (n + length (local_kinds s (local.Action a))) vs locals is
variables_are s n vs (local.Instance notes i ∷ locals) is = variables_are s (n + length (local_kinds s (local.Instance notes i))) vs locals is
variables_are s n vs (local.Table t ∷ locals) is = variables_are s (n + length (local_kinds s (local.Table t))) vs locals is

-- one more of them

got : {X : Type 0} (xs : List X) (i : ℕ) (x : X) → slice_get xs i ≡ Some x → drop i xs ≡ x ∷ drop (i + 1) xs
got xs i x is = next_items xs i x (slice_get_within xs i x is) ∙ ap (λ y. y ∷ drop (i + 1) xs) (get_or_from_slice_get xs i x x is)

next_now : {X : Type 0} (xs : List (Bor X)) (i : ℕ) (d : Bor X) → i < length xs → map (λ (y : Bor X). y.now) (drop i xs) ≡ (get_or xs i d).now ∷ map (λ (y : Bor X). y.now) (drop (i + 1) xs)
next_now xs i d lt = ap (map (λ y. y.now)) (next_items xs i d lt)

abbrev own_by : Bor Action16 → ℕ → OwnAction
own_by a n = record { action = a; first = n }

abbrev variable_by : ℕ → Bor Var → OwnVariable
variable_by n v = record { number = n; var = v }

module _ (numbers : List ℕ) (next n : ℕ) (there : slice_get numbers next ≡ Some n) where
  pub action_on : (actions : List (Bor Action16)) (i : ℕ) (a : Bor Action16) → i < length actions → a ≡ get_or actions i a → (found now : List OwnAction) (due : List ActionPlace) → now ≡ found ++ own_by a n ∷ []
      → map seen_action found ++ zip_actions (drop next numbers) (map (λ (y : Bor Action16). y.now) (drop i actions)) ≡ due → map seen_action now ++ zip_actions (drop (next + 1) numbers) (map (λ (y : Bor Action16). y.now) (drop (i + 1) actions)) ≡ due
  action_on actions i a lt at found now due is so =
      let rest = map (λ (y : Bor Action16). y.now) (drop (i + 1) actions) in
      let more = zip_actions (drop (next + 1) numbers) rest in
      let here : map (λ (y : Bor Action16). y.now) (drop i actions) ≡ a.now ∷ rest = next_now actions i a lt ∙ ap (λ (y : Bor Action16). y.now ∷ rest) (sym at) in
      let step : zip_actions (drop next numbers) (map (λ (y : Bor Action16). y.now) (drop i actions)) ≡ action_from n a.now ∷ more = ap (λ ns. zip_actions ns (map (λ (y : Bor Action16). y.now) (drop i actions))) (got numbers next n there) ∙ ap (zip_actions (n ∷ drop (next + 1) numbers)) here in
      ap (λ l. map seen_action l ++ more) is
      ∙ (ap (λ l. l ++ more) (map-append seen_action found (own_by a n ∷ []))
      ∙ (append_assoc (map seen_action found) (action_from n a.now ∷ []) more
      ∙ (ap (λ l. map seen_action found ++ l) (sym step) ∙ so)))

  pub variable_on : (vars : List (Bor Var)) (i : ℕ) (v : Bor Var) → i < length vars → v ≡ get_or vars i v → (found now : List OwnVariable) (due : List Owned) → now ≡ found ++ variable_by n v ∷ []
      → map seen_own found ++ zip_variables (drop next numbers) (map (λ (y : Bor Var). y.now) (drop i vars)) ≡ due → map seen_own now ++ zip_variables (drop (next + 1) numbers) (map (λ (y : Bor Var). y.now) (drop (i + 1) vars)) ≡ due
  variable_on vars i v lt at found now due is so =
      let rest = map (λ (y : Bor Var). y.now) (drop (i + 1) vars) in
      let more = zip_variables (drop (next + 1) numbers) rest in
      let here : map (λ (y : Bor Var). y.now) (drop i vars) ≡ v.now ∷ rest = next_now vars i v lt ∙ ap (λ (y : Bor Var). y.now ∷ rest) (sym at) in
      let step : zip_variables (drop next numbers) (map (λ (y : Bor Var). y.now) (drop i vars)) ≡ owned_by n v.now ∷ more = ap (λ ns. zip_variables ns (map (λ (y : Bor Var). y.now) (drop i vars))) (got numbers next n there) ∙ ap (zip_variables (n ∷ drop (next + 1) numbers)) here in
      ap (λ l. map seen_own l ++ more) is
      ∙ (ap (λ l. l ++ more) (map-append seen_own found (variable_by n v ∷ []))
      ∙ (append_assoc (map seen_own found) (owned_by n v.now ∷ []) more
      ∙ (ap (λ l. map seen_own found ++ l) (sym step) ∙ so)))

-- nothing is left
none_left : (ns : List ℕ) → zip_actions ns [] ≡ []
none_left [] = refl
none_left (n ∷ ns) = refl

no_variables_left : (ns : List ℕ) → zip_variables ns [] ≡ []
no_variables_left [] = refl
no_variables_left (n ∷ ns) = refl

pub actions_through : (ns : List ℕ) (next : ℕ) (actions : List (Bor Action16)) (i : ℕ) → length actions ≤ i → (found due : List ActionPlace) → found ++ zip_actions (drop next ns) (map (λ (y : Bor Action16). y.now) (drop i actions)) ≡ due → found ≡ due
actions_through ns next actions i le found due so =
    sym (append-nil found)
    ∙ (ap (λ (l : List ActionPlace). found ++ l) (sym (none_left (drop next ns)))
    ∙ (ap (λ (xs : List (Bor Action16)). found ++ zip_actions (drop next ns) (map (λ (y : Bor Action16). y.now) xs)) (sym (drop_all i actions le)) ∙ so))

pub variables_through : (ns : List ℕ) (next : ℕ) (vars : List (Bor Var)) (i : ℕ) → length vars ≤ i → (found due : List Owned) → found ++ zip_variables (drop next ns) (map (λ (y : Bor Var). y.now) (drop i vars)) ≡ due → found ≡ due
variables_through ns next vars i le found due so =
    sym (append-nil found)
    ∙ (ap (λ (l : List Owned). found ++ l) (sym (no_variables_left (drop next ns)))
    ∙ (ap (λ (xs : List (Bor Var)). found ++ zip_variables (drop next ns) (map (λ (y : Bor Var). y.now) xs)) (sym (drop_all i vars le)) ∙ so))
