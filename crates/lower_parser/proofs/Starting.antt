-- Turns of the loops over initial values and over states.
use Rattle.std.proofs.Common.{◌≡◌, ℕ, zero, suc, ◌+◌, ◌<◌, ◌≤◌, inl, inr, List, [], ◌∷◌, ◌++◌, map, length, get_or, drop, refl, sym, ap, ap₂, ◌∙◌, subst, append_assoc, arith}
use Rattle.std.specs.Borrow.{Bor}
use Rattle.std.proofs.lemmas.List.{drop_more, drop_all, append-nil, get_or-map, length-map}
use Rattle.p414_syntax.specs.declared.parsers.Parser.{Parser}
use Rattle.p414_syntax.specs.declared.syntax.Decl.{Decl}
use Rattle.p414_syntax.specs.References.{referred}
use Rattle.p414_syntax.specs.ParserGraph.{states}
use Rattle.p414_slots.specs.Shown.{slot_in}
use Rattle.p414_ready_parser.specs.declared.rows.InitialRow.{InitialRow}
use Rattle.p414_ready_parser.specs.declared.rows.ReadyState.{ReadyState}
use Rattle.p414_ready_parser.specs.Rows.{state_row}
use Rattle.p416_syntax.specs.declared.parsers.State.{State}
use Rattle.p416_syntax.specs.Tree.{Stmt16, then, Trees, Keeps, AddsStmt, stmt_at}
use Rattle.lower_laws_base.specs.Context.{Words}
use Rattle.lower_laws_states.specs.Expansions.{Has}
use Rattle.lower_laws_actions.specs.Mirror.{behind_stmts}
use Rattle.lower_expressions.specs.Has.{SlotHas}
use Rattle.lower_expressions.specs.Making.{MakesStmt}
use Rattle.lower_parser.specs.Has.{InitialsHave, StateHas, StatesHave}
use Rattle.lower_parser.specs.Rows.{row_initial}
use Rattle.lower_parser.proofs.Turning.{keeps_on}

-- what the loop over initial values keeps: those that are left stand behind those that are done
pub record GoesInitials (w : Words) (before later : Trees) (done : ℕ) (rows : List InitialRow) (z : Stmt16) : Type 0 where
  pub keeps : Keeps before later
  pub place : done < length later.stmts
  pub left : behind_stmts (stmt_at later.stmts done) (map (row_initial w) rows) ≡ z
  pub have : InitialsHave w rows

pub initial_has : (w : Words) (rows : List InitialRow) (i : ℕ) (d : InitialRow) → i < length rows → InitialsHave w (drop i rows) → SlotHas w (slot_in (get_or rows i d).slot)
initial_has w rows i d lt have =
    let both : InitialsHave w (get_or rows i d ∷ drop (i + 1) rows) = subst (InitialsHave w) (drop_more rows i d lt) have in both.0

pub initial_turn : (w : Words) (before old mid new : Trees) (done next place : ℕ) (rows : List InitialRow) (i : ℕ) (d : InitialRow) (z : Stmt16) → i < length rows → GoesInitials w before old done (drop i rows) z → MakesStmt old mid next (row_initial w (get_or rows i d)) → AddsStmt mid new place ((then) (stmt_at mid.stmts done) (stmt_at mid.stmts next)) → GoesInitials w before new place (drop (i + 1) rows) z
initial_turn w before old mid new done next place rows i d z lt goes makes adds =
    let x = get_or rows i d in
    let rest = drop (i + 1) rows in
    let there : drop i rows ≡ x ∷ rest = drop_more rows i d lt in
    let is : stmt_at new.stmts place ≡ (then) (stmt_at old.stmts done) (row_initial w x) = adds.tree ∙ ap₂ (then) (makes.keeps.stmts done goes.place) makes.tree in
    let both : InitialsHave w (x ∷ rest) = subst (InitialsHave w) there goes.have in
    record {
      keeps = keeps_on before mid new (keeps_on before old mid goes.keeps makes.keeps) adds.keeps;
      place = adds.place;
      left = ap (λ y. behind_stmts y (map (row_initial w) rest)) is ∙ ap (λ l. behind_stmts (stmt_at old.stmts done) (map (row_initial w) l)) (sym there) ∙ goes.left;
      have = both.1;
    }

-- states

has_get : {X : Type 0} (xs : List X) (i : ℕ) (d : X) → i < length xs → Has xs (get_or xs i d)
has_get [] i d lt = absurd (omega (arith, lt))
has_get (x ∷ xs) zero d lt = inl refl
has_get (x ∷ xs) (suc i) d lt = inr (has_get xs i d (omega (arith, lt)))

-- behind the last state
pub states_end : (ds : List Decl) (found : List (Bor Parser)) (f : Parser → State) (i : ℕ) (made z : List State) → map referred found ≡ states ds → length found ≤ i → made ++ map f (drop i (states ds)) ≡ z → made ≡ z
states_end ds found f i made z are le same =
    let none : drop i (states ds) ≡ [] = drop_all i (states ds) (omega (arith, le, length-map found referred, ap length are)) in
    sym (append-nil made) ∙ ap (λ l. made ++ map f l) (sym none) ∙ same

found_inside : (ds : List Decl) (found : List (Bor Parser)) (i : ℕ) → map referred found ≡ states ds → i < length found → i < length (states ds)
found_inside ds found i are lt = omega (arith, lt, length-map found referred, ap length are)

pub row_inside : (ds : List Decl) (rows : List ReadyState) (found : List (Bor Parser)) (i : ℕ) → map referred found ≡ states ds → rows ≡ map (state_row ds) (states ds) → i < length found → i < length rows
row_inside ds rows found i are kept lt = omega (arith, found_inside ds found i are lt, ap length kept, length-map (states ds) (state_row ds))

found_is : (ds : List Decl) (found : List (Bor Parser)) (i : ℕ) (d : Bor Parser) → map referred found ≡ states ds → i < length found → (get_or found i d).now ≡ get_or (states ds) i d.now
found_is ds found i d are lt = sym (get_or-map referred found i d d.now lt) ∙ ap (λ (xs : List Parser). get_or xs i d.now) are

pub state_there : (ds : List Decl) (found : List (Bor Parser)) (i : ℕ) (d : Bor Parser) → map referred found ≡ states ds → i < length found → Has (states ds) (get_or found i d).now
state_there ds found i d are lt = subst (Has (states ds)) (sym (found_is ds found i d are lt)) (has_get (states ds) i d.now (found_inside ds found i are lt))

pub row_is : (ds : List Decl) (rows : List ReadyState) (found : List (Bor Parser)) (i : ℕ) (d : Bor Parser) (e : ReadyState) → map referred found ≡ states ds → rows ≡ map (state_row ds) (states ds) → i < length found → get_or rows i e ≡ state_row ds (get_or found i d).now
row_is ds rows found i d e are kept lt =
    ap (λ (rs : List ReadyState). get_or rs i e) kept ∙ get_or-map (state_row ds) (states ds) i d.now e (found_inside ds found i are lt)
    ∙ ap (state_row ds) (sym (found_is ds found i d are lt))

pub state_has : (w : Words) (rows : List ReadyState) (i : ℕ) (e : ReadyState) → i < length rows → StatesHave w rows → StateHas w (get_or rows i e)
state_has w [] i e lt have = absurd (omega (arith, lt))
state_has w (row ∷ rows) zero e lt have = have.0
state_has w (row ∷ rows) (suc i) e lt have = state_has w rows i e (omega (arith, lt)) have.1

pub state_turn : (ds : List Decl) (found : List (Bor Parser)) (i : ℕ) (d : Bor Parser) (f : Parser → State) (old new z : List State) → map referred found ≡ states ds → i < length found → new ≡ old ++ f (get_or found i d).now ∷ [] → old ++ map f (drop i (states ds)) ≡ z → new ++ map f (drop (i + 1) (states ds)) ≡ z
state_turn ds found i d f old new z are lt is same =
    ap (λ l. l ++ map f (drop (i + 1) (states ds))) (is ∙ ap (λ x. old ++ f x ∷ []) (found_is ds found i d are lt))
    ∙ append_assoc old (f (get_or (states ds) i d.now) ∷ []) (map f (drop (i + 1) (states ds)))
    ∙ ap (λ l. old ++ map f l) (sym (drop_more (states ds) i d.now (found_inside ds found i are lt)))
    ∙ same
