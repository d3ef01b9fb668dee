-- What a statement puts in front of what is left comes to the statement.
use Rattle.std.proofs.Common.{◌≡◌, ℕ, ◌+◌, ◌-◌, ◌<◌, Bool, true, false, cond, List, [], ◌∷◌, ◌++◌, length, drop, Option, Some, None, option_map, refl, sym, ap, ◌∙◌, arith}
use Rattle.std.specs.List.{filter_map}
use Rattle.std.proofs.Math.Seq.{drop-append_seam}
use Rattle.std.proofs.lemmas.List.{append_assoc, length-append}
use Rattle.std.proofs.lemmas.List.Elements.{filter_map-append}
use Rattle.p416_syntax.specs.declared.program.Decl16.{Decl16}
use Rattle.p416_syntax.specs.declared.node.CaseLabel.{CaseLabel}
use Rattle.p416_syntax.specs.declared.node.CaseLabel.TheVariants as label
use Rattle.p416_syntax.specs.Tree.{Exp16, Stmt16, no_statements, then, block, empty, var, var_is, assign, expression, if_then, if_else, switch, no_cases, case_of}
use Rattle.p416_syntax.specs.Names.{Name}
use Rattle.p416_syntax.specs.Scopes.{Scope}
use Rattle.p416_syntax.specs.Statements.{Visit, visit, visits, behind}
use Rattle.p416_scopes.specs.declared.scope.Scope.{Scope as CodeScope}
use Rattle.p416_scopes.specs.Seen.{seen_scope}
use Rattle.p416_visits.specs.Left.{height, shortened}
use Rattle.p416_visits.proofs.Visiting.{left_again, scope_height}
use Rattle.v1_core.specs.Slots.{visited_kind}
use Rattle.v1_ready_forms.specs.Named.{NamedSeat, named_seat}
use Rattle.v1_ready_blocks.specs.Statements.{Statement, nothing, otherwise}
use Rattle.v1_ready_statements.specs.Around.{Around, Found, table_found, action_found, variable_seat}
use Rattle.v1_ready_statements.specs.Blocks.{number_in}
use Rattle.v1_ready_statements.specs.Statements.{ready_of_statement, ready_in, labelled_ones, the_default, labelled_ready, default_ready, has_default, switch_ready, number_behind, seats_behind}
use Rattle.v1_ready_program.specs.Seen.{seen_seats}
use Rattle.v1_ready_nodes.specs.Held.{Held}
use Rattle.v1_ready_bodies.specs.declared.standing.Standing.{Standing}
use Rattle.v1_ready_bodies.specs.declared.making.Work.{Work}
use Rattle.v1_ready_bodies.specs.declared.making.Work.TheVariants as work
use Rattle.v1_ready_bodies.specs.Seen.{Stays}
use Rattle.v1_ready_bodies.specs.internal.Steps.{State, state_of, seen_all, first_made, others_made, case_made, default_made, default_of, labelled_in, labelled_by, number_of, cases_joined, one_joined, switch_made, step, finish, steps_of, AreHigh}

-- numbers behind two statements

numbers_both : (n : ℕ) (xs ys : List Visit) → (n + length (filter_map visited_kind xs)) + length (filter_map visited_kind ys) ≡ n + length (filter_map visited_kind (xs ++ ys))
numbers_both n xs ys =
    let all : length (filter_map visited_kind (xs ++ ys)) ≡ length (filter_map visited_kind xs ++ filter_map visited_kind ys) = ap length (filter_map-append visited_kind xs ys) in
    let two : length (filter_map visited_kind xs ++ filter_map visited_kind ys) ≡ length (filter_map visited_kind xs) + length (filter_map visited_kind ys) = length-append (filter_map visited_kind xs) (filter_map visited_kind ys) in
    omega (arith, all, two)

-- seats are taken off again

left_over : {X : Type 0} (xs ys : List X) (n : ℕ) → length ys ≡ n → drop (length (xs ++ ys) - n) (xs ++ ys) ≡ ys
left_over xs ys n is =
    let short : length (xs ++ ys) - n ≡ length xs = omega (arith, length-append xs ys, is) in
    ap (λ k. drop k (xs ++ ys)) short ∙ drop-append_seam xs ys

abbrev added : Around → Scope → ℕ → Stmt16 → List NamedSeat
added b s n ((then) before last) = added b (behind before s) (number_behind s before n) last ++ added b s n before
added b s n (var t called) = named_seat called (variable_seat b n) ∷ []
added b s n (var_is t called e) = named_seat called (variable_seat b n) ∷ []
added b s n _ = []

adds : (b : Around) (s : Scope) (n : ℕ) (x : Stmt16) (seats : List NamedSeat) → seats_behind b s n x seats ≡ added b s n x ++ seats
adds b s n ((then) before last) seats =
    adds b (behind before s) (number_behind s before n) last (seats_behind b s n before seats)
    ∙ (ap (λ more. added b (behind before s) (number_behind s before n) last ++ more) (adds b s n before seats)
    ∙ sym (append_assoc (added b (behind before s) (number_behind s before n) last) (added b s n before) seats))
adds b s n no_statements seats = refl
adds b s n (block body) seats = refl
adds b s n empty seats = refl
adds b s n (var t called) seats = refl
adds b s n (var_is t called e) seats = refl
adds b s n (assign e f) seats = refl
adds b s n (expression e) seats = refl
adds b s n (if_then c x) seats = refl
adds b s n (if_else c x y) seats = refl
adds b s n (switch table cases) seats = refl
adds b s n no_cases seats = refl
adds b s n (case_of before l body) seats = refl

seats_again : (b : Around) (s : Scope) (n : ℕ) (x : Stmt16) (seats : List NamedSeat) (k : ℕ) → length seats ≡ k → drop (length (seats_behind b s n x seats) - k) (seats_behind b s n x seats) ≡ seats
seats_again b s n x seats k is = ap (λ all. drop (length all - k) all) (adds b s n x seats) ∙ left_over (added b s n x) seats k is

-- a statement within another one, behind which names and seats are what they were

abbrev within : Around → State → Stmt16 → State
within b st x = record {
  scope = st.scope;
  seats = st.seats;
  number = number_behind st.scope x st.number;
  made = ready_of_statement b st.scope st.seats st.number x ∷ st.made;
}

again : (b : Around) (ds : List Decl16) (st : State) (x : Stmt16) (names seats : ℕ) → AreHigh ds names seats st → step b ds (work.Shorten names seats) (step b ds (work.Make x) st) ≡ within b st x
again b ds st x names seats high =
    ap (λ s. record {
      scope = s;
      seats = drop (length (seats_behind b st.scope st.number x st.seats) - seats) (seats_behind b st.scope st.number x st.seats);
      number = number_behind st.scope x st.number;
      made = ready_of_statement b st.scope st.seats st.number x ∷ st.made;
    }) (left_again (height ds names) x st.scope high.named)
    ∙ ap (λ (ss : List NamedSeat). record {
      scope = st.scope;
      seats = ss;
      number = number_behind st.scope x st.number;
      made = ready_of_statement b st.scope st.seats st.number x ∷ st.made;
    }) (seats_again b st.scope st.number x st.seats seats high.seated)

-- another number of the next variable

numbered : (st : State) (n : ℕ) → st.number ≡ n → st ≡ record { scope = st.scope; seats = st.seats; number = n; made = st.made }
numbered st n is = ap (λ m. record { scope = st.scope; seats = st.seats; number = m; made = st.made }) is

-- what is put in front

pub puts_then : (b : Around) (ds : List Decl16) (st : State) (before last : Stmt16) (more : List Work) → finish b ds (work.Make before ∷ work.Make last ∷ work.Sequence ∷ more) st ≡ finish b ds (work.Make (then before last) ∷ more) st
puts_then b ds st before last more =
    ap (finish b ds more)
    (numbered (step b ds work.Sequence (step b ds (work.Make last) (step b ds (work.Make before) st))) (number_behind st.scope (then before last) st.number)
    (numbers_both st.number (visits st.scope before) (visits (behind before st.scope) last)))

pub puts_block : (b : Around) (ds : List Decl16) (st : State) (body : Stmt16) (names seats : ℕ) (more : List Work) → AreHigh ds names seats st → finish b ds (work.Make body ∷ work.Shorten names seats ∷ more) st ≡ finish b ds (work.Make (block body) ∷ more) st
puts_block b ds st body names seats more high = ap (finish b ds more) (again b ds st body names seats high)

pub puts_if : (b : Around) (ds : List Decl16) (st : State) (c : Exp16) (body : Stmt16) (names seats : ℕ) (more : List Work) → AreHigh ds names seats st → finish b ds (work.Make body ∷ work.Shorten names seats ∷ work.If c ∷ more) st ≡ finish b ds (work.Make (if_then c body) ∷ more) st
puts_if b ds st c body names seats more high = ap (λ t. finish b ds more (step b ds (work.If c) t)) (again b ds st body names seats high)

pub puts_if_else : (b : Around) (ds : List Decl16) (st : State) (c : Exp16) (x y : Stmt16) (names seats : ℕ) (more : List Work) → AreHigh ds names seats st → finish b ds (work.Make x ∷ work.Shorten names seats ∷ work.Make y ∷ work.Shorten names seats ∷ work.IfElse c ∷ more) st ≡ finish b ds (work.Make (if_else c x y) ∷ more) st
puts_if_else b ds st c x y names seats more high =
    ap (λ t. finish b ds more (step b ds (work.IfElse c) (step b ds (work.Shorten names seats) (step b ds (work.Make y) t)))) (again b ds st x names seats high)
    ∙ (ap (λ t. finish b ds more (step b ds (work.IfElse c) t)) (again b ds (within b st x) y names seats (record { named = high.named; seated = high.seated }))
    ∙ ap (finish b ds more)
    (numbered (step b ds (work.IfElse c) (within b (within b st x) y)) (number_behind st.scope (if_else c x y) st.number)
    (numbers_both st.number (visits st.scope x) (visits st.scope y))))

-- cases

default_first : (had : Bool) (d : Option Statement) (body : Option Statement) (made : List (Option Statement)) → default_made had (body ∷ d ∷ made) ≡ cond had d (option_map otherwise body) ∷ made
default_first true d body made = refl
default_first false d body made = refl

case_first : (b : Around) (s : Scope) (seats : List NamedSeat) (n : ℕ) (before body : Stmt16) (l : CaseLabel) (made : List (Option Statement))
    → case_made l (has_default before) (ready_of_statement b s seats (number_behind s before n) body ∷ default_of b s seats n before ∷ (labelled_in b s seats n before ++ made)) ≡ default_of b s seats n (case_of before l body) ∷ (labelled_in b s seats n (case_of before l body) ++ made)
case_first b s seats n before body (label.Action a) made = refl
case_first b s seats n before body label.Default made =
    default_first (has_default before) (default_of b s seats n before) (ready_of_statement b s seats (number_behind s before n) body) (labelled_in b s seats n before ++ made)

abbrev cased : CaseLabel → Bool → State → State
cased l had st = record { scope = st.scope; seats = st.seats; number = st.number; made = case_made l had st.made }

pub puts_case : (b : Around) (ds : List Decl16) (st : State) (before : Stmt16) (l : CaseLabel) (body : Stmt16) (names seats : ℕ) → AreHigh ds names seats st
    → cased l (has_default before) (step b ds (work.Shorten names seats) (step b ds (work.Make body) (step b ds (work.MakeCases before) st))) ≡ step b ds (work.MakeCases (case_of before l body)) st
puts_case b ds st before l body names seats high =
    ap (cased l (has_default before)) (again b ds (step b ds (work.MakeCases before) st) body names seats (record { named = high.named; seated = high.seated }))
    ∙ (ap (λ (m : List (Option Statement)). record { scope = st.scope; seats = st.seats; number = number_behind st.scope body (number_behind st.scope before st.number); made = m }) (case_first b st.scope st.seats st.number before body l st.made)
    ∙ numbered (record { scope = st.scope; seats = st.seats; number = number_behind st.scope body (number_behind st.scope before st.number); made = (step b ds (work.MakeCases (case_of before l body)) st).made }) (number_behind st.scope (case_of before l body) st.number)
    (numbers_both st.number (visits st.scope before) (visit st.scope (case_of before l body) ∷ visits st.scope body)))

-- a switch

label_same : (f : Option Found) (body rest : Option Statement) → labelled_by (option_map number_in f) body rest ≡ labelled_ready f body rest
label_same None body rest = refl
label_same (Some f) None rest = refl
label_same (Some f) (Some x) None = refl
label_same (Some f) (Some x) (Some y) = refl

cases_same : (b : Around) (s : Scope) (seats : List NamedSeat) (n : ℕ) (x : Stmt16) (rest : Option Statement) (made : List (Option Statement)) → cases_joined b rest x (labelled_in b s seats n x ++ made) ≡ ready_in b s seats n (labelled_ones rest) x ∷ made
cases_same b s seats n no_cases rest made = refl
cases_same b s seats n (case_of before (label.Action a) body) rest made =
    let of = ready_of_statement b s seats (number_behind s before n) body in
    cases_same b s seats n before (labelled_by (number_of b a) of rest) made
    ∙ ap (λ r. ready_in b s seats n (labelled_ones r) before ∷ made) (label_same (action_found b a) of rest)
cases_same b s seats n (case_of before label.Default body) rest made = cases_same b s seats n before rest made
cases_same b s seats n no_statements rest made = refl
cases_same b s seats n ((then) before last) rest made = refl
cases_same b s seats n (block body) rest made = refl
cases_same b s seats n empty rest made = refl
cases_same b s seats n (var t called) rest made = refl
cases_same b s seats n (var_is t called e) rest made = refl
cases_same b s seats n (assign e f) rest made = refl
cases_same b s seats n (expression e) rest made = refl
cases_same b s seats n (if_then c x) rest made = refl
cases_same b s seats n (if_else c x y) rest made = refl
cases_same b s seats n (switch table cases) rest made = refl

abbrev are_cases : Stmt16 → Bool
are_cases no_cases = true
are_cases (case_of before l body) = are_cases before
are_cases _ = false

never : (b : Around) (s : Scope) (seats : List NamedSeat) (n : ℕ) (x : Stmt16) (rest : Option Statement) → are_cases x ≡ false → ready_in b s seats n (labelled_ones rest) x ≡ None
never b s seats n no_cases rest isnt = absurd (cc isnt)
never b s seats n (case_of before (label.Action a) body) rest isnt = never b s seats n before (labelled_ready (action_found b a) (ready_of_statement b s seats (number_behind s before n) body) rest) isnt
never b s seats n (case_of before label.Default body) rest isnt = never b s seats n before rest isnt
never b s seats n no_statements rest isnt = refl
never b s seats n ((then) before last) rest isnt = refl
never b s seats n (block body) rest isnt = refl
never b s seats n empty rest isnt = refl
never b s seats n (var t called) rest isnt = refl
never b s seats n (var_is t called e) rest isnt = refl
never b s seats n (assign e f) rest isnt = refl
never b s seats n (expression e) rest isnt = refl
never b s seats n (if_then c x) rest isnt = refl
never b s seats n (if_else c x y) rest isnt = refl
never b s seats n (switch table cases) rest isnt = refl

module _ (b : Around) (s : Scope) (seats : List NamedSeat) (n : ℕ) where
  none_given : (x : Stmt16) → are_cases x ≡ true → has_default x ≡ false → ready_in b s seats n the_default x ≡ Some nothing
  none_given no_cases are isnt = refl
  none_given (case_of before (label.Action a) body) are isnt =
      ap (λ had. default_ready had (label.Action a) (ready_in b s seats n the_default before) (ready_of_statement b s seats (number_behind s before n) body)) isnt
  none_given (case_of before label.Default body) are isnt = absurd (cc isnt)
  none_given no_statements are isnt = absurd (cc are)
  none_given ((then) before last) are isnt = absurd (cc are)
  none_given (block body) are isnt = absurd (cc are)
  none_given empty are isnt = absurd (cc are)
  none_given (var t called) are isnt = absurd (cc are)
  none_given (var_is t called e) are isnt = absurd (cc are)
  none_given (assign e f) are isnt = absurd (cc are)
  none_given (expression e) are isnt = absurd (cc are)
  none_given (if_then c x) are isnt = absurd (cc are)
  none_given (if_else c x y) are isnt = absurd (cc are)
  none_given (switch table cases) are isnt = absurd (cc are)

  passed : (before : Stmt16) (a : Name) (body : Option Statement) → are_cases before ≡ true → (had : Bool) → has_default before ≡ had → ready_in b s seats n the_default before ≡ default_ready had (label.Action a) (ready_in b s seats n the_default before) body
  passed before a body are true is = refl
  passed before a body are false is = none_given before are is

  given : (had : Bool) (d body : Option Statement) → cond had d (option_map otherwise body) ≡ default_ready had label.Default d body
  given true d body = refl
  given false d body = refl

  default_same : (x : Stmt16) → are_cases x ≡ true → default_of b s seats n x ≡ ready_in b s seats n the_default x
  default_same no_cases are = refl
  default_same (case_of before (label.Action a) body) are =
      default_same before are ∙ passed before a (ready_of_statement b s seats (number_behind s before n) body) are (has_default before) refl
  default_same (case_of before label.Default body) are =
      let of = ready_of_statement b s seats (number_behind s before n) body in
      ap (λ d. cond (has_default before) d (option_map otherwise of)) (default_same before are)
      ∙ given (has_default before) (ready_in b s seats n the_default before) of
  default_same no_statements are = absurd (cc are)
  default_same ((then) before last) are = absurd (cc are)
  default_same (block body) are = absurd (cc are)
  default_same empty are = absurd (cc are)
  default_same (var t called) are = absurd (cc are)
  default_same (var_is t called e) are = absurd (cc are)
  default_same (assign e f) are = absurd (cc are)
  default_same (expression e) are = absurd (cc are)
  default_same (if_then c x) are = absurd (cc are)
  default_same (if_else c x y) are = absurd (cc are)
  default_same (switch table cases) are = absurd (cc are)

  all_same : (x : Stmt16) (are : Bool) → are_cases x ≡ are → ready_in b s seats n (labelled_ones (default_of b s seats n x)) x ≡ ready_in b s seats n (labelled_ones (ready_in b s seats n the_default x)) x
  all_same x true is = ap (λ d. ready_in b s seats n (labelled_ones d) x) (default_same x is)
  all_same x false is = never b s seats n x (default_of b s seats n x) is ∙ sym (never b s seats n x (ready_in b s seats n the_default x) is)

abbrev switched : Around → Name → Stmt16 → State → State
switched b table x st = record { scope = st.scope; seats = st.seats; number = st.number; made = switch_made (table_found b table) (cases_joined b (first_made st.made) x (others_made st.made)) }

pub puts_switch : (b : Around) (ds : List Decl16) (st : State) (table : Name) (x : Stmt16) → switched b table x (step b ds (work.MakeCases x) st) ≡ step b ds (work.Make (switch table x)) st
puts_switch b ds st table x =
    ap (λ (m : List (Option Statement)). record { scope = st.scope; seats = st.seats; number = number_behind st.scope x st.number; made = m })
    (ap (switch_made (table_found b table)) (cases_same b st.scope st.seats st.number x (default_of b st.scope st.seats st.number x) st.made)
    ∙ ap (λ r. switch_ready (table_found b table) r ∷ st.made) (all_same b st.scope st.seats st.number x (are_cases x) refl))

-- a statement that is a scope of its own

pub scope_again : (old mid : CodeScope) (x : Stmt16) → length old.names ≡ length old.sorts.items → mid.top ≡ old.top → seen_scope mid ≡ behind x (seen_scope old) → shortened (height mid.top.now (length old.names)) (seen_scope mid) ≡ seen_scope old
scope_again old mid x same top is =
    ap (λ t. shortened (height t.now (length old.names)) (seen_scope mid)) top
    ∙ (ap (shortened (height old.top.now (length old.names))) is
    ∙ left_again (height old.top.now (length old.names)) x (seen_scope old) (scope_height old same))

pub seats_off : (b : Around) (s : Scope) (n : ℕ) (x : Stmt16) (seats mid : List NamedSeat) → mid ≡ seats_behind b s n x seats → drop (length mid - length seats) mid ≡ seats
seats_off b s n x seats mid is = ap (λ all. drop (length all - length seats) all) is ∙ seats_again b s n x seats (length seats) refl

pub high_in : (s : CodeScope) (ss : List NamedSeat) (n : ℕ) (made : List (Option Statement)) → length s.names ≡ length s.sorts.items
    → AreHigh s.top.now (length s.names) (length ss) (record { scope = seen_scope s; seats = ss; number = n; made = made })
high_in s ss n made same = record { named = scope_height s same; seated = refl }

-- a statement that is made, and other statements that were made, where names and seats stay

pub some_steps : (x : Stmt16) → 0 < steps_of x
some_steps no_statements = omega arith
some_steps ((then) before last) = omega arith
some_steps (block body) = omega arith
some_steps empty = omega arith
some_steps (var t called) = omega arith
some_steps (var_is t called e) = omega arith
some_steps (assign e f) = omega arith
some_steps (expression e) = omega arith
some_steps (if_then c x) = omega arith
some_steps (if_else c x y) = omega arith
some_steps (switch table cases) = omega arith
some_steps no_cases = omega arith
some_steps (case_of before l body) = omega arith

pub turned : (b : Around) (ds : List Decl16) (more : List Work) (s : Scope) (ss : List NamedSeat) (n : ℕ) (x y : List (Option Statement)) → x ≡ y
    → finish b ds more (record { scope = s; seats = ss; number = n; made = x }) ≡ finish b ds more (record { scope = s; seats = ss; number = n; made = y })
turned b ds more s ss n x y is = ap (λ (m : List (Option Statement)). finish b ds more (record { scope = s; seats = ss; number = n; made = m })) is

-- one more case is joined
pub cases_on : (b : Around) (l : CaseLabel) (before body : Stmt16) (rest new : Option Statement) (made left : List (Option Statement)) → one_joined b rest l made ≡ new ∷ left → cases_joined b new before left ≡ cases_joined b rest (case_of before l body) made
cases_on b (label.Action a) before body rest new made left is = ap (λ ms. cases_joined b (first_made ms) before (others_made ms)) (sym is)
cases_on b label.Default before body rest new made left is = ap (λ ms. cases_joined b (first_made ms) before (others_made ms)) (sym is)

-- a statement that isn't made of others is made
pub single_done : (b : Around) (x : Stmt16) (s t : CodeScope) (left now : List Work) (old new : State) → now ≡ left → t.top ≡ s.top → new ≡ step b s.top.now (work.Make x) old → finish b t.top.now now new ≡ finish b s.top.now (work.Make x ∷ left) old
single_done b x s t left now old new same top is =
    ap (λ d. finish b d.now now new) top
    ∙ (ap (λ ws. finish b s.top.now ws new) same ∙ ap (finish b s.top.now left) is)

-- from its parts

abbrev pub state : Scope → List NamedSeat → ℕ → List (Option Statement) → State
state s ss n made = record { scope = s; seats = ss; number = n; made = made }

pub state_by : (s t : Scope) (ss ts : List NamedSeat) (n m : ℕ) (xs ys : List (Option Statement)) → s ≡ t → ss ≡ ts → n ≡ m → xs ≡ ys → state s ss n xs ≡ state t ts m ys
state_by s t ss ts n m xs ys scope seats number made =
    ap (λ x. state x ss n xs) scope ∙ (ap (λ x. state t x n xs) seats ∙ (ap (λ x. state t ts x xs) number ∙ ap (state t ts m) made))

-- names are taken off
pub shorten_done : (b : Around) (h : Held) (p q : Standing) (left : List Work) (made : List (Option ℕ)) (names seats : ℕ) → seen_scope q.scope ≡ shortened (height p.scope.top.now names) (seen_scope p.scope)
    → seen_seats q.seats ≡ drop (length (seen_seats p.seats) - seats) (seen_seats p.seats) → q.number ≡ p.number → Stays p q
    → finish b q.scope.top.now left (state_of h q made) ≡ finish b p.scope.top.now (work.Shorten names seats ∷ left) (state_of h p made)
shorten_done b h p q left made names seats scope taken number stays =
    ap (λ d. finish b d.now left (state_of h q made)) stays.top
    ∙ ap (finish b p.scope.top.now left) (state_by (seen_scope q.scope) (shortened (height p.scope.top.now names) (seen_scope p.scope)) (seen_seats q.seats) (drop (length (seen_seats p.seats) - seats) (seen_seats p.seats)) q.number p.number (seen_all h made) (seen_all h made) scope taken number refl)

-- all of one statement is done
pub body_done : (b : Around) (ds : List Decl16) (h g : Held) (p q : Standing) (x : Stmt16) (left : List Work) (none made : List (Option ℕ)) → left ≡ work.Make x ∷ [] → none ≡ [] → state_of g q made ≡ finish b ds left (state_of h p none)
    → state_of g q made ≡ step b ds (work.Make x) (state_of h p [])
body_done b ds h g p q x left none made is nil so =
    so ∙ (ap (λ l. finish b ds l (state_of h p none)) is ∙ ap (λ m. step b ds (work.Make x) (state_of h p m)) nil)
