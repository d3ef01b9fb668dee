-- The variables of a control start at 0, one after another.
use Rattle.std.proofs.Common.{◌≡◌, ◌≢◌, ℕ, suc, ◌+◌, ◌<◌, Bool, Option, Some, None, IfSome, List, [], ◌∷◌, length, get_or, refl, sym, ap, ◌∙◌, subst, arith}
use Rattle.std.specs.Prelude.{option_map, filter_map, flat_map}
use Rattle.std.proofs.lemmas.List.{get_or-set_other}
use Rattle.p416_syntax.specs.declared.parts.Type16.{Type16}
use Rattle.p416_syntax.specs.declared.parsers.Var.{Var}
use Rattle.p416_syntax.specs.declared.controls.Local.{Local}
use Rattle.p416_syntax.specs.declared.controls.Local.TheVariants as local
use Rattle.p416_syntax.specs.Kinds.{Kind}
use Rattle.p416_syntax.specs.Scopes.{Layout, Scope, kind_of_type}
use Rattle.p416_syntax.specs.Declarations.{layouts_of}
use Rattle.v1_core.specs.Values.{Value, no_value, no_members, a_member, zero_value, fitted}
use Rattle.v1_core.specs.Frames as sem
use Rattle.v1_core.specs.Frames.{Frame}
use Rattle.v1_core.specs.Slots.{the_variable, variable_kinds, local_kinds}
use Rattle.v1_core.specs.Numbered.{Numbered, Variable, nobody, named_values, frame_in, part_value, new_numbered}
use Rattle.v1_core.specs.Statements.{starts}
use Rattle.v1_core.specs.Blocks.{variables_of, with_variables, var_in}
use Rattle.v1_core.specs.Cells.{Cells}
use Rattle.v1_core.specs.Seats.{Seat}
use Rattle.v1_core.specs.Programs.{owner_seat, numbered16}
use Rattle.v1_core.specs.PackedFrames.{IsFrameOf}
use Rattle.v1_ready_blocks.specs.declared.places.Range.{Range}
use Rattle.v1_ready_blocks.specs.Moments.{Moment, with_cells}
use Rattle.v1_ready_blocks.specs.Places.{emptied}
use Rattle.v1_ready_blocks.specs.Tests.{World}
use Rattle.v1_ready_blocks.specs.Statements.{Statement, start}
use Rattle.v1_block_laws.specs.Standing.{IsOfKind, AreOfKinds}
use Rattle.v1_block_laws.specs.Variables.{variable, locals_from}
use Rattle.v1_block_laws.proofs.Standing.{apart}
use Rattle.v1_parser_laws.specs.Ranges.{IsRangeOf, all_of, IsBegun}
use Rattle.v1_parser_laws.specs.Shown.{in_block}
use Rattle.v1_parser_laws.proofs.Emptied.{emptied_begins}
use Rattle.v1_place_laws.specs.Places.{range_of}
use Rattle.v1_ready_statements.specs.Around.{Around}
use Rattle.v1_ready_statements.specs.Given.{cons_option}
use Rattle.v1_ready_statements.specs.Blocks.{starts_from}
use Rattle.v1_statement_laws.specs.Behind.{Waits, Shown}
use Rattle.v1_statement_laws.specs.Laws.{all_run, VariablesStart}
use Rattle.v1_statement_laws.proofs.Closing.{running_is}
use Rattle.v1_statement_laws.proofs.Starting.{range_is, mapped_at}

module _ (b : Around) (z : World) (s : Scope) (layouts : s.layouts ≡ layouts_of b.syntax.decls) where
  abbrev values : Cells → List Value
  values c = (numbered16 b.syntax c).variables

  abbrev value_at : Cells → ℕ → Value
  value_at c j = get_or (values c) j no_value

  -- one variable
  record OneStarted (n : ℕ) (t : Type16) (c d : Cells) : Type 0 where
    whole : IsFrameOf b.syntax d
    same : frame_in nobody (numbered16 b.syntax d) ≡ frame_in nobody (numbered16 b.syntax c)
    value : value_at d n ≡ starts s t
    others : (j : ℕ) → j ≢ n → value_at d j ≡ value_at c j

  one_started : (n : ℕ) (t : Type16) (seat : Seat) (c : Cells) → IsFrameOf b.syntax c → IsOfKind (variable_kinds b.syntax) n (kind_of_type s.names t) → owner_seat b.syntax (the_variable n) ≡ Some seat → OneStarted n t c (emptied (range_of s.layouts seat) c)
  one_started n t seat c whole are there =
      let x : Numbered = numbered16 b.syntax c in
      let ranged : IsRangeOf (layouts_of b.syntax.decls) seat (range_of s.layouts seat) = subst (λ (l : List Layout). IsRangeOf (layouts_of b.syntax.decls) seat (range_of l seat)) (sym layouts) (range_is (layouts_of b.syntax.decls) seat) in
      let begun : IsBegun b.syntax c (emptied (range_of s.layouts seat) c) (the_variable n) = emptied_begins b.syntax c (the_variable n) seat (range_of s.layouts seat) whole there ranged in
      let v : Value = part_value (new_numbered b.syntax) (all_of (the_variable n)) in
      record {
        whole = begun.frame;
        same = ap (λ (y : Numbered). frame_in nobody y) (sym begun.value);
        value =
            begun.is
            ∙ (mapped_at (zero_value (layouts_of b.syntax.decls)) (variable_kinds b.syntax) n (kind_of_type s.names t) are
            ∙ ap (λ (l : List Layout). zero_value l (kind_of_type s.names t)) (sym layouts));
        others = λ j away.
            ap (λ (y : Numbered). get_or y.variables j no_value) (sym begun.value)
            ∙ get_or-set_other x.variables n j (fitted (get_or x.variables n no_value) v) no_value away;
      }

  -- those of these declarations, of which the first has this number
  record AllStarted (n : ℕ) (locals : List Local) (c d : Cells) : Type 0 where
    whole : IsFrameOf b.syntax d
    same : frame_in nobody (numbered16 b.syntax d) ≡ frame_in nobody (numbered16 b.syntax c)
    named : named_values (values d) (locals_from s n locals) ≡ variables_of s (filter_map var_in locals)
    before : (j : ℕ) → j < n → value_at d j ≡ value_at c j

  record Ran (n : ℕ) (locals : List Local) (rs : List Statement) (k : Moment) : Type 0 where
    cells : Cells
    left : all_run z rs k ≡ with_cells cells k
    all : AllStarted n locals k.cells cells

  abbrev Start : ℕ → List Local → List Statement → Type 0
  Start n locals rs = (k : Moment) → k.stopped ≡ None → IsFrameOf b.syntax k.cells → Ran n locals rs k

  weaker : (A B : List Statement → Type 0) (o : Option (List Statement)) → ((rs : List Statement) → A rs → B rs) → IfSome o A → IfSome o B
  weaker A B None f h = tt
  weaker A B (Some rs) f h = f rs h

  both : (v : Var) (n : ℕ) (locals : List Local) (o : Option Seat) (p : Option (List Statement)) → IsOfKind (variable_kinds b.syntax) n (kind_of_type s.names v.of) → owner_seat b.syntax (the_variable n) ≡ o → IfSome p (Start (suc n) locals) → IfSome (cons_option (option_map (λ t. start (range_of s.layouts t)) o) p) (Start n (local.Var v ∷ locals))
  both v n locals None p are there h = tt
  both v n locals (Some seat) None are there h = tt
  both v n locals (Some seat) (Some rs) are there h = λ k runs whole.
      let r : Range = range_of s.layouts seat in
      let c : Cells = emptied r k.cells in
      let one : OneStarted n v.of k.cells c = one_started n v.of seat k.cells whole are there in
      let rest : Ran (suc n) locals rs (with_cells c k) = h (with_cells c k) runs one.whole in
      record {
        cells = rest.cells;
        left = ap (all_run z rs) (running_is k.stopped k (with_cells c k) runs) ∙ rest.left;
        all = record {
          whole = rest.all.whole;
          same = rest.all.same ∙ one.same;
          named =
              subst (λ (q : ℕ). named_values (values rest.cells) (variable v.name n ∷ locals_from s q locals) ≡ variables_of s (filter_map var_in (local.Var v ∷ locals))) (one_more n)
              (ap (λ (y : Value). a_member v.name y (named_values (values rest.cells) (locals_from s (suc n) locals))) (rest.all.before n (omega arith) ∙ one.value)
              ∙ ap (λ (y : Value). a_member v.name (starts s v.of) y) rest.all.named);
          before = λ j lt. rest.all.before j (omega (arith, lt)) ∙ one.others j (λ same. omega (arith, same, lt));
        };
      }
    where
      one_more : (q : ℕ) → suc q ≡ q + 1
      one_more q = omega arith

  next_kind : (q : ℕ) (kinds : List Kind) → AreOfKinds (variable_kinds b.syntax) (q + 1) kinds → AreOfKinds (variable_kinds b.syntax) (suc q) kinds
  next_kind q kinds = subst (λ (i : ℕ). AreOfKinds (variable_kinds b.syntax) i kinds) (one_less q) where
    one_less : (q : ℕ) → q + 1 ≡ suc q
    one_less q = omega arith

  -- a declaration without variables
  past : (n count : ℕ) (locals : List Local) (x : Local) → locals_from s n (x ∷ locals) ≡ locals_from s (n + count) locals → filter_map var_in (x ∷ locals) ≡ filter_map var_in locals → (rs : List Statement) → Start (n + count) locals rs → Start n (x ∷ locals) rs
  past n count locals x same none rs f k runs whole =
      let ran : Ran (n + count) locals rs k = f k runs whole in
      record {
        cells = ran.cells;
        left = ran.left;
        all = record {
          whole = ran.all.whole;
          same = ran.all.same;
          named = ap (λ (vs : List Variable). named_values (values ran.cells) vs) same ∙ (ran.all.named ∙ ap (variables_of s) (sym none));
          before = λ j lt. ran.all.before j (omega (arith, lt));
        };
      }

  starts_all : (locals : List Local) (n : ℕ) → AreOfKinds (variable_kinds b.syntax) n (flat_map (local_kinds s) locals) → IfSome (starts_from b s n locals) (Start n locals)
  starts_all [] n are = λ k runs whole. record {
    cells = k.cells;
    left = refl;
    all = record { whole = whole; same = refl; named = refl; before = λ j lt. refl };
  }
  starts_all (local.Var v ∷ locals) n are =
      let two = apart (variable_kinds b.syntax) n (local_kinds s (local.Var v)) (flat_map (local_kinds s) locals) are in
      both v n locals (owner_seat b.syntax (the_variable n)) (starts_from b s (suc n) locals) two.0.0 refl
      (starts_all locals (suc n) (next_kind n (flat_map (local_kinds s) locals) two.1))
  starts_all (local.Instance notes i ∷ locals) n are =
      let two = apart (variable_kinds b.syntax) n (local_kinds s (local.Instance notes i)) (flat_map (local_kinds s) locals) are in
      weaker (Start (n + length (local_kinds s (local.Instance notes i))) locals) (Start n (local.Instance notes i ∷ locals)) (starts_from b s (n + length (local_kinds s (local.Instance notes i))) locals)
      (past n (length (local_kinds s (local.Instance notes i))) locals (local.Instance notes i) refl refl)
      (starts_all locals (n + length (local_kinds s (local.Instance notes i))) two.1)
  starts_all (local.Action a ∷ locals) n are =
      let two = apart (variable_kinds b.syntax) n (local_kinds s (local.Action a)) (flat_map (local_kinds s) locals) are in
      weaker (Start (n + length (local_kinds s (local.Action a))) locals) (Start n (local.Action a ∷ locals)) (starts_from b s (n + length (local_kinds s (local.Action a))) locals)
      (past n (length (local_kinds s (local.Action a))) locals (local.Action a) refl refl)
      (starts_all locals (n + length (local_kinds s (local.Action a))) two.1)
  starts_all (local.Table t ∷ locals) n are =
      let two = apart (variable_kinds b.syntax) n (local_kinds s (local.Table t)) (flat_map (local_kinds s) locals) are in
      weaker (Start (n + length (local_kinds s (local.Table t))) locals) (Start n (local.Table t ∷ locals)) (starts_from b s (n + length (local_kinds s (local.Table t))) locals)
      (past n (length (local_kinds s (local.Table t))) locals (local.Table t) refl refl)
      (starts_all locals (n + length (local_kinds s (local.Table t))) two.1)

  shown : (calls : Bool) (n : ℕ) (locals : List Local) (rs : List Statement) → Start n locals rs → (m : sem.Moment) (k : Moment) → Shown (Waits calls b.syntax) b.syntax nobody m k → m.stopped ≡ None → Shown (Waits calls b.syntax) b.syntax (in_block (locals_from s n locals) []) (with_variables (variables_of s (filter_map var_in locals)) m) (all_run z rs k)
  shown calls n locals rs f m k h runs =
      let ran : Ran n locals rs k = f k (sym h.shows.stopped ∙ runs) h.shows.whole in
      let y : Numbered = numbered16 b.syntax ran.cells in
      subst (λ (j : Moment). Shown (Waits calls b.syntax) b.syntax (in_block (locals_from s n locals) []) (with_variables (variables_of s (filter_map var_in locals)) m) j) (sym ran.left)
      (record {
        shows = record {
          frame =
              ap (λ (g : Frame). record g { variables = variables_of s (filter_map var_in locals); inner = no_members }) (h.shows.frame ∙ sym ran.all.same)
              ∙ ap (λ (v : Value). record (frame_in nobody y) { variables = v; inner = no_members }) (sym ran.all.named);
          whole = ran.all.whole;
          store = h.shows.store;
          unparsed = h.shows.unparsed;
          emitted = h.shows.emitted;
          work = h.shows.work;
          stopped = h.shows.stopped;
          hit = h.shows.hit;
        };
        waits = h.waits;
      })

pub variables_start : VariablesStart
variables_start calls b z s n locals layouts are =
    weaker b z s layouts (Start b z s layouts n locals) (λ rs. (m : sem.Moment) (k : Moment) → Shown (Waits calls b.syntax) b.syntax nobody m k → m.stopped ≡ None → Shown (Waits calls b.syntax) b.syntax (in_block (locals_from s n locals) []) (with_variables (variables_of s (filter_map var_in locals)) m) (all_run z rs k)) (starts_from b s n locals)
    (λ rs f m k h runs. shown b z s layouts calls n locals rs f m k h runs)
    (starts_all b z s layouts locals n are)
