-- What single statements ask of a block is what its calls name.
use Rattle.std.proofs.Common.{◌≡◌, ℕ, List, Option, option_map, ap, ◌∙◌}
use Rattle.std.proofs.Math.Path.{fun_ext}
use Rattle.std.specs.Prelude.{option_and_then}
use Rattle.name_numbers.specs.Names.{find_name}
use Rattle.p416_syntax.specs.Tree.{Exp16}
use Rattle.p416_syntax.specs.Names.{Name}
use Rattle.p416_syntax.specs.Kinds.{Kind}
use Rattle.p416_syntax.specs.Scopes.{Layout, Scope}
use Rattle.p416_syntax.specs.Calls.{Place, value}
use Rattle.v1_core.specs.Seats.{Seat}
use Rattle.v1_place_laws.specs.Places.{range_of}
use Rattle.v1_ready_forms.specs.Named.{NamedSeat}
use Rattle.v1_ready_blocks.specs.Tests.{Test}
use Rattle.v1_ready_blocks.specs.Statements.{Statement, start, does}
use Rattle.v1_ready_statements.specs.Around.{table_found, variable_seat}
use Rattle.v1_ready_statements.specs.Tested.{ready_test}
use Rattle.v1_ready_statements.specs.Statements.{assigned_to, whole_seat, start_ready, initial_ready, assignment_ready}
use Rattle.v1_ready_calls.specs.Assigned.{assigned_by, assignment_by}
use Rattle.v1_ready_calls.proofs.Assigning.{assigned_in, assignment_in}
use Rattle.v1_ready_operands.specs.declared.callees.Callees.{Callees}
use Rattle.v1_ready_operands.specs.Callees.{around_of, AreCallees}
use Rattle.v1_ready_operands.proofs.Naming.{tables_found}

module _ (c : Callees) (are : AreCallees c) where
  pub table_is : (text : Name) (r : Option ℕ) → r ≡ find_name c.tables.now text → r ≡ table_found (around_of c) text
  table_is text r is = is ∙ ap (λ (f : Name → Option ℕ). f text) (tables_found c are)

  pub test_is : (s : Scope) (seats : List NamedSeat) (p : Place) (e : Exp16) (r : Option Test) → r ≡ ready_test s seats (find_name c.tables.now) p e → r ≡ ready_test s seats (table_found (around_of c)) p e
  test_is s seats p e r is = is ∙ ap (λ (f : Name → Option ℕ). ready_test s seats f p e) (tables_found c are)

  pub start_is : (s : Scope) (types : List Layout) (n : ℕ) (seat : Option Seat) (r : Option Statement) → r ≡ option_map (λ t. start (range_of types t)) seat → types ≡ s.layouts → seat ≡ variable_seat (around_of c) n → r ≡ start_ready (around_of c) s n
  start_is s types n seat r is same of =
      is
      ∙ (ap (λ (ls : List Layout). option_map (λ t. start (range_of ls t)) seat) same
      ∙ ap (option_map (λ t. start (range_of s.layouts t))) of)

  pub initial_is : (s : Scope) (seats : List NamedSeat) (n : ℕ) (k : Kind) (e : Exp16) (seat : Option Seat) (r : Option Statement)
      → r ≡ option_map does (option_and_then (λ t. assigned_by s seats (find_name c.tables.now) (value k) e (whole_seat t)) seat) → seat ≡ variable_seat (around_of c) n → r ≡ initial_ready (around_of c) s seats n k e
  initial_is s seats n k e seat r is of =
      is
      ∙ (ap (λ (f : Name → Option ℕ). option_map does (option_and_then (λ t. assigned_by s seats f (value k) e (whole_seat t)) seat)) (tables_found c are)
      ∙ (ap (λ f. option_map does (option_and_then f seat)) (fun_ext (λ (t : Seat). assigned_in (around_of c) s seats (value k) e (whole_seat t)))
      ∙ ap (λ (o : Option Seat). option_map does (option_and_then (λ t. assigned_to (around_of c) s seats (value k) e (whole_seat t)) o)) of))

  pub assignment_is : (s : Scope) (seats : List NamedSeat) (target e : Exp16) (r : Option Statement) → r ≡ assignment_by s seats (find_name c.tables.now) target e → r ≡ assignment_ready (around_of c) s seats target e
  assignment_is s seats target e r is =
      is
      ∙ (ap (λ (f : Name → Option ℕ). assignment_by s seats f target e) (tables_found c are)
      ∙ assignment_in (around_of c) s seats target e)
