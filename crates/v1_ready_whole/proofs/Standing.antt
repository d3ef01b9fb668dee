-- How the parser stands in a program, and which ready parser it is.
use Rattle.std.proofs.Common.{◌≡◌, ℕ, suc, ◌+◌, ◌<◌, List, [], ◌∷◌, ◌++◌, map, length, get_or, drop, Option, Some, None, slice_get, refl, sym, ap, ◌∙◌, arith}
use Rattle.std.proofs.lemmas.List.{append_assoc, map-append}
use Rattle.std.specs.Borrow.{Bor}
use Rattle.std.specs.Prelude.{codes}
use Rattle.p416_syntax.specs.declared.parsers.Var.{Var}
use Rattle.p416_syntax.specs.declared.parsers.State.{State as Written}
use Rattle.p416_syntax.specs.declared.parsers.Parser16.{Parser16}
use Rattle.p416_syntax.specs.declared.program.Decl16.{Decl16}
use Rattle.p416_syntax.specs.declared.program.Syntax16.{Syntax16}
use Rattle.p416_syntax.specs.Names.{Name}
use Rattle.p416_syntax.specs.Kinds.{Kind}
use Rattle.p416_syntax.specs.Scopes.{Layout as TypeLayout, Scope}
use Rattle.p416_syntax.specs.Declarations.{layouts_of, parser_scope, top_scope}
use Rattle.p416_syntax.specs.Main.{positions_from}
use Rattle.p416_scopes.specs.Seen.{seen_scope}
use Rattle.v1_core.specs.Numbered as numbered
use Rattle.v1_core.specs.Seats as seats
use Rattle.v1_core.specs.Programs.{frame_kinds, first_start}
use Rattle.v1_place_laws.specs.Places.{range_of}
use Rattle.v1_block_laws.specs.Variables.{scope_in_parser, parser_from, states_from, parser_seats, parser_roots, vars_from, own_names}
use Rattle.v1_parser_laws.specs.Ranges.{headers_seat}
use Rattle.v1_ready_forms.specs.Named.{NamedSeat, seats_in}
use Rattle.v1_ready_selects.specs.Rows.{number_of_state}
use Rattle.v1_ready_selects.specs.Matching.{state_names}
use Rattle.v1_ready_blocks.specs.declared.places.Range.{Range}
use Rattle.v1_ready_blocks.specs.Statements.{Statement, nothing}
use Rattle.v1_seats.specs.declared.seat.Seat.{Seat}
use Rattle.v1_seats.specs.Seen.{seen_seat}
use Rattle.v1_seats.specs.Frame.{seats_from}
use Rattle.v1_ready_program.specs.Seen.{seen_seats}
use Rattle.v1_block_seats.specs.declared.numbers.Variable.{Variable}
use Rattle.v1_block_seats.specs.Seen.{seen_variable}
use Rattle.v1_ready_statements.specs.Around.{Around}
use Rattle.v1_ready_bodies.specs.declared.variables.OwnVariable.{OwnVariable}
use Rattle.v1_ready_bodies.proofs.Fronts.{next_items}
use Rattle.v1_ready_parser.specs.Parsers.{with_states, parser_ready}
use Rattle.v1_ready_controls.specs.declared.program.ProgramParts.{ProgramParts}
use Rattle.v1_ready_controls.specs.Program.{IsProgram, slot_in_standard}
use Rattle.v1_ready_locals.specs.Owned.{Owned, seen_own, owned_by, owned}
use Rattle.v1_ready_locals.proofs.Starting.{variables_are}
use Rattle.v1_ready_whole.specs.declared.parser.Standing16.{Standing16}
use Rattle.v1_ready_whole.specs.Parsers.{around_parser, vars_of, vars_of_list, with_error_slot, ready_parser, parser_variables_ready, parser_states_ready}
use Rattle.v1_ready_whole.specs.internal.Counted.{counted}
use Rattle.v1_ready_whole.specs.internal.Standing.{IsParser}

pub range_is : (syntax : Syntax16) (types : List TypeLayout) (all : List Seat) (t : seats.Seat) (found : Option seats.Seat) (r : Range) → types ≡ layouts_of syntax.decls → map seen_seat all ≡ seats_from (layouts_of syntax.decls) (frame_kinds syntax) first_start → found ≡ slice_get (map seen_seat all) 0 → found ≡ Some t
    → r ≡ range_of types t → r ≡ range_of (layouts_of syntax.decls) (headers_seat syntax)
range_is syntax types all t found r same are there here is =
    is
    ∙ (ap (λ (ls : List TypeLayout). range_of ls t) same
    ∙ ap (λ (x : seats.Seat). range_of (layouts_of syntax.decls) x) (ap (first t) (sym here ∙ (there ∙ ap (λ (l : List seats.Seat). slice_get l 0) are))))
  where
    first : seats.Seat → Option seats.Seat → seats.Seat
    first d None = d
    first d (Some x) = x

pub seats_are : (syntax : Syntax16) (types : List TypeLayout) (kinds : List Kind) (all : List Seat) → map seen_seat all ≡ seats_from types kinds first_start → types ≡ layouts_of syntax.decls → kinds ≡ frame_kinds syntax → map seen_seat all ≡ seats_from (layouts_of syntax.decls) (frame_kinds syntax) first_start
seats_are syntax types kinds all is same are =
    is ∙ (ap (λ (ls : List TypeLayout). seats_from ls kinds first_start) same ∙ ap (λ (ks : List Kind). seats_from (layouts_of syntax.decls) ks first_start) are)

-- the types are those at the top of its scope
pub types_over : (p : ProgramParts) → IsProgram p → (top : Bor (List Decl16)) → top ≡ p.top → p.types.now ≡ layouts_of top.now
types_over p are top is = are.types ∙ sym (ap layouts_of (ap (λ (t : Bor (List Decl16)). t.now) is ∙ are.top))

-- its variables are those that it declares

counted_are : (s : Scope) (n : ℕ) (vars : List Var) → counted n vars ≡ owned s n (vars_of_list vars)
counted_are s n [] = refl
counted_are s n (v ∷ vars) = ap (λ (l : List Owned). owned_by n v ∷ l) (counted_are s (suc n) vars)

one : (n : ℕ) → n + 1 ≡ suc n
one n = omega arith

pub counted_on : (vars : List Var) (i n m : ℕ) (x : Var) → i < length vars → x ≡ get_or vars i x → (found : List OwnVariable) (v : OwnVariable) (now : List OwnVariable) (due : List Owned) → now ≡ found ++ v ∷ [] → seen_own v ≡ owned_by n x → m ≡ n + 1 → map seen_own found ++ counted n (drop i vars) ≡ due
    → map seen_own now ++ counted m (drop (i + 1) vars) ≡ due
counted_on vars i n m x lt at found v now due pushed is next so =
    let more = counted (suc n) (drop (i + 1) vars) in
    let step : counted n (drop i vars) ≡ owned_by n x ∷ more = ap (counted n) (next_items vars i x lt ∙ ap (λ (y : Var). y ∷ drop (i + 1) vars) (sym at)) in
    ap (λ (l : List OwnVariable). map seen_own l ++ counted m (drop (i + 1) vars)) pushed
    ∙ (ap (λ (k : ℕ). map seen_own (found ++ v ∷ []) ++ counted k (drop (i + 1) vars)) (next ∙ one n)
    ∙ (ap (λ (l : List Owned). l ++ more) (map-append seen_own found (v ∷ []))
    ∙ (append_assoc (map seen_own found) (seen_own v ∷ []) more
    ∙ (ap (λ (l : List Owned). map seen_own found ++ l) (ap (λ (o : Owned). o ∷ more) is ∙ sym step) ∙ so))))

-- the parser from its parts
pub stands : (p : ProgramParts) (x : Parser16) (y : Standing16) (first : ℕ) (vars : List Var) (positions : List ℕ) (variables : List Variable) → IsProgram p → vars ≡ x.vars → positions ≡ positions_from 0 p.places.now x.name → seen_scope y.scope ≡ parser_scope (top_scope p.top.now positions) x → y.scope.top ≡ p.top
    → first ≡ parser_from p.syntax.now x → map seen_variable variables ≡ vars_from first vars → seen_seats y.seats ≡ seats_in p.syntax.now (parser_roots x) (own_names (map seen_variable variables)) → map seen_own y.variables.items ≡ counted first vars → y.number ≡ first + length vars → y.names ≡ state_names x.states
    → IsParser p x y
stands p x y first vars positions variables are mine at scope top from numbers seats own number names =
    let n = parser_from p.syntax.now x in
    record {
      scope =
          scope
          ∙ (ap (λ (ps : List ℕ). parser_scope (top_scope p.top.now ps) x) (at ∙ ap (λ (main : List Name). positions_from 0 main x.name) are.places)
          ∙ ap (λ (ds : List Decl16). parser_scope (top_scope ds (positions_from 0 p.syntax.now.main x.name)) x) are.top);
      top = top;
      seats = seats ∙ ap (λ (vs : List numbered.Variable). seats_in p.syntax.now (parser_roots x) (own_names vs)) (numbers ∙ (ap (λ (k : ℕ). vars_from k vars) from ∙ ap (vars_from n) mine));
      variables = own ∙ (counted_are (scope_in_parser p.syntax.now x) first vars ∙ (ap (λ (k : ℕ). owned (scope_in_parser p.syntax.now x) k (vars_of_list vars)) from ∙ ap (λ (vs : List Var). owned (scope_in_parser p.syntax.now x) n (vars_of_list vs)) mine));
      number = number ∙ (ap (λ (k : ℕ). k + length vars) from ∙ ap (λ (vs : List Var). n + length vs) mine);
      names = names;
    }

-- without a slot of `parser_error` there is none
pub no_parser : (syntax : Syntax16) (x : Parser16) (slot : Option ℕ) → slot ≡ slot_in_standard syntax (codes "parser_error") → slot ≡ None → None ≡ ready_parser syntax x
no_parser syntax x slot at none =
    ap (with_error_slot (λ k. with_states (range_of (layouts_of syntax.decls) (headers_seat syntax)) k (number_of_state (state_names x.states) (codes "start")) (parser_variables_ready syntax x) (parser_states_ready syntax x))) (sym none ∙ at)

-- the ready parser that is made of it
pub parser_is : (syntax : Syntax16) (x : Parser16) (b : Around) (s : Scope) (seats : List NamedSeat) (n : ℕ) (names : List Name) (headers : Range) (slot : Option ℕ) (error : ℕ) (vs : List OwnVariable) (states : List Written) → b ≡ around_parser syntax → s ≡ scope_in_parser syntax x → seats ≡ parser_seats syntax x → n ≡ states_from syntax x
    → names ≡ state_names x.states → headers ≡ range_of (layouts_of syntax.decls) (headers_seat syntax) → slot ≡ slot_in_standard syntax (codes "parser_error") → slot ≡ Some error → map seen_own vs ≡ owned (scope_in_parser syntax x) (parser_from syntax x) (vars_of x) → states ≡ x.states
    → parser_ready b s seats n names headers error (number_of_state names (codes "start")) vs states ≡ ready_parser syntax x
parser_is syntax x b s seats n names headers slot error vs states around scope seated number named parts at some own mine =
    let b' = around_parser syntax in
    let s' = scope_in_parser syntax x in
    let seats' = parser_seats syntax x in
    let n' = states_from syntax x in
    let names' = state_names x.states in
    let headers' = range_of (layouts_of syntax.decls) (headers_seat syntax) in
    let first = number_of_state names' (codes "start") in
    ap (λ (y : Around). parser_ready y s seats n names headers error (number_of_state names (codes "start")) vs states) around
    ∙ (ap (λ (y : Scope). parser_ready b' y seats n names headers error (number_of_state names (codes "start")) vs states) scope
    ∙ (ap (λ (y : List NamedSeat). parser_ready b' s' y n names headers error (number_of_state names (codes "start")) vs states) seated
    ∙ (ap (λ (y : ℕ). parser_ready b' s' seats' y names headers error (number_of_state names (codes "start")) vs states) number
    ∙ (ap (λ (y : List Name). parser_ready b' s' seats' n' y headers error (number_of_state y (codes "start")) vs states) named
    ∙ (ap (λ (y : Range). parser_ready b' s' seats' n' names' y error first vs states) parts
    ∙ (ap (λ (y : List Written). parser_ready b' s' seats' n' names' headers' error first vs y) mine
    ∙ (ap (λ (v : Option Statement). with_states headers' error first v (parser_states_ready syntax x)) (variables_are b' s' seats' (parser_from syntax x) (vars_of x) vs (Some nothing) own)
    ∙ ap (with_error_slot (λ k. with_states headers' k first (parser_variables_ready syntax x) (parser_states_ready syntax x))) (sym some ∙ at))))))))
