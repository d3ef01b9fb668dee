-- The tables of a control apply as those of its ready block, where its actions do the same; so the control runs as that block.
use Rattle.std.proofs.Common.{◌≡◌, ℕ, suc, ◌+◌, Bool, true, false, cond, Option, Some, None, IfSome, List, [], ◌∷◌, filter_map, get_or, refl, sym, ap, ◌∙◌, subst, arith, bytes_eq}
use Rattle.p416_syntax.specs.declared.controls.Table16.{Table16}
use Rattle.p416_syntax.specs.declared.controls.Control16.{Control16}
use Rattle.p416_syntax.specs.Names.{Name}
use Rattle.p416_syntax.specs.Scopes.{Scope}
use Rattle.p416_syntax.specs.Declarations.{table_in}
use Rattle.p416_syntax.specs.Breaks.{program_rules, BreaksNone}
use Rattle.v1_core.specs.declared.block.Block.{Block as BlockName}
use Rattle.v1_core.specs.Frames as sem
use Rattle.v1_core.specs.Surroundings as meaning
use Rattle.v1_core.specs.Surroundings.{Setting, table_called}
use Rattle.v1_core.specs.Numbered.{Variable, InScope}
use Rattle.v1_core.specs.Tables.{applied}
use Rattle.v1_core.specs.Blocks.{act, control_world, around_control, control_at}
use Rattle.v1_core.specs.Cells.{Cells}
use Rattle.v1_ready_forms.specs.Named.{NamedSeat}
use Rattle.v1_ready_blocks.specs.Moments.{Moment}
use Rattle.v1_ready_blocks.specs.Tests.{World}
use Rattle.v1_ready_blocks.specs.Tables as ready_tables
use Rattle.v1_ready_blocks.specs.Tables.{Fill}
use Rattle.v1_ready_blocks.specs.Blocks.{Block, no_table, world_of}
use Rattle.v1_ready_blocks.specs.Blocks as blocks
use Rattle.v1_block_laws.specs.Variables.{scope_in_control, control_from, control_variables, control_seats}
use Rattle.v1_block_laws.proofs.Blocks.{control_seated}
use Rattle.v1_ready_statements.specs.Around.{Around, number_of_table, table_found}
use Rattle.v1_ready_statements.specs.Given.{cons_option}
use Rattle.v1_ready_statements.specs.Blocks as ready
use Rattle.v1_ready_statements.specs.Blocks.{all_of, table_ready, ready_control}
use Rattle.v1_statement_laws.specs.Behind.{Shown, Within}
use Rattle.v1_statement_laws.specs.Leaves.{AppliedShows}
use Rattle.v1_control_laws.specs.Controls.{Waiting, ActionsDo, TablesDo}
use Rattle.v1_control_laws.proofs.Places.{places_declared}
use Rattle.v1_control_laws.proofs.Running.{control_parts}
use Rattle.v1_control_laws.specs.Tables.{TablesFit}
use Rattle.v1_control_laws.proofs.Applying.{table_shows}

-- a table by its name, and what is made of it
record Tabled {X : Type 0} (n : ℕ) (tables : List Table16) (text : Name) (i : ℕ) (make : Table16 → Option X) (ys : List X) : Type 0 where
  place : ℕ
  number : i ≡ n + place
  of : Table16
  called : table_called tables text ≡ Some of
  made : (d : X) → make of ≡ Some (get_or ys place d)

tabled : {X : Type 0} (make : Table16 → Option X) (tables : List Table16) (n : ℕ) (text : Name) (i : ℕ) (ys : List X) → number_of_table n tables text ≡ Some i → all_of make tables ≡ Some ys → Tabled n tables text i make ys
tabled make [] n text i ys is all = absurd (cc is)
tabled {X = X} make (t ∷ tables) n text i ys is all = by (bytes_eq t.name text) refl is (make t) refl (all_of make tables) refl (λ zs e y. tabled make tables (suc n) text i zs e y) all where
  first : (m : ℕ) → m ≡ m + 0
  first m = omega arith

  later : (m j k : ℕ) → k ≡ suc m + j → k ≡ m + suc j
  later m j k e = omega (arith, e)

  by : (b : Bool) → bytes_eq t.name text ≡ b → cond b (Some n) (number_of_table (suc n) tables text) ≡ Some i → (o : Option X) → make t ≡ o → (q : Option (List X)) → all_of make tables ≡ q → ((zs : List X) → number_of_table (suc n) tables text ≡ Some i → all_of make tables ≡ Some zs → Tabled (suc n) tables text i make zs) → cons_option o q ≡ Some ys → Tabled n (t ∷ tables) text i make ys
  by b same e None x None y later_one k = absurd (cc k)
  by b same e None x (Some zs) y later_one k = absurd (cc k)
  by b same e (Some z) x None y later_one k = absurd (cc k)
  by true same e (Some z) x (Some zs) y later_one k =
      let one : n ≡ i = cc e in
      let list : z ∷ zs ≡ ys = cc k in
      record {
        place = 0;
        number = sym one ∙ first n;
        of = t;
        called = ap (λ (b : Bool). cond b (Some t) (table_called tables text)) same;
        made = λ d. x ∙ ap (λ (l : List X). Some (get_or l 0 d)) list;
      }
  by false same e (Some z) x (Some zs) y later_one k =
      let rest : Tabled (suc n) tables text i make zs = later_one zs e y in
      let list : z ∷ zs ≡ ys = cc k in
      record {
        place = suc rest.place;
        number = later n rest.place i rest.number;
        of = rest.of;
        called = ap (λ (b : Bool). cond b (Some t) (table_called tables text)) same ∙ rest.called;
        made = λ d. rest.made d ∙ ap (λ (l : List X). Some (get_or l (suc rest.place) d)) list;
      }

module _ (c : Setting) (place : BlockName) (k : Control16) (accepted : BreaksNone c.syntax program_rules) (stands : control_at c.syntax place ≡ Some k) (r : Block) (is : ready_control c.syntax place k ≡ Some r) (fill : Fill) where
  abbrev S : meaning.Surroundings
  S = around_control c place k

  abbrev B : Around
  B = ready.around_control c.syntax k

  abbrev scope : Scope
  scope = scope_in_control c.syntax k

  abbrev seats : List NamedSeat
  seats = control_seats c.syntax place k

  abbrev vars : List Variable
  vars = control_variables c.syntax k

  abbrev w : meaning.World
  w = control_world S

  abbrev z : World
  z = world_of fill r

  module _ (fit : TablesFit c place k fill) (o : Option Cells) (from to : ℕ) (actions : ActionsDo (Waiting c.syntax o) B w z vars from to (λ n. true)) where
    one_table : (s : Scope) (who : InScope) (next : ℕ) (text : Name) → Within vars c.syntax S.roots from to next s who → (number : ℕ) → table_found B text ≡ Some number → (m : sem.Moment) (j : Moment) → Shown (Waiting c.syntax o) c.syntax who m j → m.stopped ≡ None → AppliedShows (Waiting c.syntax o) B who (w.apply text m) (z.apply number j)
    one_table s who next text within number at m j h runs =
        let parts = control_parts c.syntax place k r is in
        let found : Tabled 0 (filter_map table_in k.locals) text number (table_ready B scope seats) r.tables = tabled (table_ready B scope seats) (filter_map table_in k.locals) 0 text number r.tables at parts.tables in
        let same : number ≡ found.place = found.number ∙ none_more found.place in
        let fits = fit text found.of (get_or r.tables found.place no_table) found.called (found.made no_table) in
        subst (λ (i : ℕ). AppliedShows (Waiting c.syntax o) B who (applied S (act S) text m) (ready_tables.applied fill r.parameters (blocks.act r) (get_or r.tables i no_table) j)) (sym same)
        (table_shows (Waiting c.syntax o) S B.actions vars accepted refl (control_seated c.syntax place k accepted stands) (places_declared scope (control_from c.syntax k) k.locals)
        w z (act S) refl refl r.parameters (sym parts.parameters) who within.variables
        (λ f called there. actions s who next called f within there refl) text found.of (get_or r.tables found.place no_table) fill found.called (found.made no_table) fits.0 fits.1 m j h runs) where
          none_more : (i : ℕ) → 0 + i ≡ i
          none_more i = omega arith

    pub tables_do : TablesDo (Waiting c.syntax o) B w z vars from to
    tables_do s who next text within = by (table_found B text) refl where
      by : (x : Option ℕ) → table_found B text ≡ x → IfSome x (λ table. (m : sem.Moment) (j : Moment) → Shown (Waiting c.syntax o) c.syntax who m j → m.stopped ≡ None → AppliedShows (Waiting c.syntax o) B who (w.apply text m) (z.apply table j))
      by None e = tt
      by (Some number) e = one_table s who next text within number e
