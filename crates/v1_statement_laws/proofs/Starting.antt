-- A variable without an initial value starts at 0.
use Rattle.std.proofs.Common.{◌≡◌, ◌⊎◌, inl, inr, ℕ, zero, suc, ◌+◌, ◌-◌, ◌<◌, ◌≤◌, ◌≢◌, Option, Some, None, IfSome, List, [], ◌∷◌, length, map, get_or, set, is_some, cond, refl, sym, ap, ◌∙◌, subst, arith}
use Rattle.std.specs.Prelude.{option_map}
use Rattle.std.proofs.lemmas.List.{get_or-set_other}
use Rattle.p416_syntax.specs.declared.parts.Type16.{Type16}
use Rattle.p416_syntax.specs.declared.program.Syntax16.{Syntax16}
use Rattle.p416_syntax.specs.Tree.{var}
use Rattle.p416_syntax.specs.Names.{Name}
use Rattle.p416_syntax.specs.Kinds.{Kind, unknown}
use Rattle.p416_syntax.specs.Scopes.{Layout, Scope, kind_of_type}
use Rattle.p416_syntax.specs.Declarations.{layouts_of}
use Rattle.v1_core.specs.declared.parser_error.ParserError.{ParserError}
use Rattle.v1_core.specs.Values.{Value, no_value, a_member, zero_value, fitted}
use Rattle.v1_core.specs.Frames as sem
use Rattle.v1_core.specs.Frames.{Frame}
use Rattle.v1_core.specs.Slots.{the_variable, variable_kinds}
use Rattle.v1_core.specs.Surroundings as meaning
use Rattle.v1_core.specs.Numbered.{Numbered, Variable, InScope, named_values, frame_in, part_value, with_part_value, new_numbered}
use Rattle.v1_core.specs.Statements.{starts}
use Rattle.v1_core.specs.Cells.{Cells}
use Rattle.v1_core.specs.Seats.{Seat, behind_seat}
use Rattle.v1_core.specs.Scopes.{AreAway}
use Rattle.v1_core.specs.Programs.{owner_seat, numbered16}
use Rattle.v1_core.proofs.Starts.{Before, ends_behind}
use Rattle.v1_ready_laws.specs.Rules.{with_inner_ones}
use Rattle.v1_ready_blocks.specs.declared.places.Range.{Range}
use Rattle.v1_ready_blocks.specs.Moments as blocks
use Rattle.v1_ready_blocks.specs.Moments.{Moment}
use Rattle.v1_ready_blocks.specs.Places.{emptied}
use Rattle.v1_ready_blocks.specs.Tests.{World}
use Rattle.v1_ready_blocks.specs.Statements as ready
use Rattle.v1_ready_blocks.specs.Statements.{Statement, start}
use Rattle.v1_block_laws.specs.Standing.{IsOfKind, AreOfKinds}
use Rattle.v1_block_laws.specs.Apart.{AreBetween, AreOutside}
use Rattle.v1_block_laws.specs.Variables.{variable}
use Rattle.v1_parser_laws.specs.Ranges.{IsRangeOf, all_of, IsBegun}
use Rattle.v1_parser_laws.proofs.Emptied.{emptied_begins}
use Rattle.v1_place_laws.specs.Places.{range_of}
use Rattle.v1_ready_statements.specs.Around.{Around}
use Rattle.v1_ready_statements.specs.Statements.{start_ready}
use Rattle.v1_statement_laws.specs.Behind.{LeftBehind, InContext}
use Rattle.v1_statement_laws.specs.Leaves.{RunsAlike}

-- the range of a seat is that of its parts
pub range_is : (types : List Layout) (t : Seat) → IsRangeOf types t (range_of types t)
range_is types t =
    let e : Before t.start (behind_seat types t) = ends_behind types t.depth t.form t.start in
    record {
      slot = refl;
      slots = whole t.start.slot (behind_seat types t).slot e.slot;
      header = refl;
      headers = whole t.start.header (behind_seat types t).header e.header;
      stack = refl;
      stacks = whole t.start.stack (behind_seat types t).stack e.stack;
    } where
      whole : (a b : ℕ) → a ≤ b → a + (b - a) ≡ b
      whole a b le = omega (arith, le)

-- values with other numbers stay
pub away_same : (values : List Value) (vs : List Variable) (k : ℕ) (x : Value) → AreAway k vs → named_values (set values k x) vs ≡ named_values values vs
away_same values [] k x away = refl
away_same values (v ∷ vs) k x away =
    ap (λ (y : Value). a_member v.called y (named_values (set values k x) vs)) (get_or-set_other values k v.number x no_value away.0)
    ∙ ap (λ (y : Value). a_member v.called (get_or values v.number no_value) y) (away_same values vs k x away.1)

-- the next number is away from those in scope

pub below_away : (from next : ℕ) (vs : List Variable) → AreBetween from next vs → AreAway next vs
below_away from next [] h = tt
below_away from next (v ∷ vs) h = ((λ same. omega (arith, same, h.1)), below_away from next vs h.2)

pub outside_away : (from to next : ℕ) (vs : List Variable) → from ≤ next → next < to → AreOutside from to vs → AreAway next vs
outside_away from to next [] le lt h = tt
outside_away from to next (v ∷ vs) le lt h = (by h.0, outside_away from to next vs le lt h.1) where
  by : (v.number < from) ⊎ (to ≤ v.number) → v.number ≢ next
  by (inl before) same = omega (arith, same, before, le)
  by (inr after) same = omega (arith, same, after, lt)

mapped : (zeros : Kind → Value) (kinds : List Kind) (n : ℕ) → n < length kinds → get_or (map zeros kinds) n no_value ≡ zeros (get_or kinds n unknown)
mapped zeros [] n lt = absurd (omega (arith, lt))
mapped zeros (k ∷ kinds) zero lt = refl
mapped zeros (k ∷ kinds) (suc n) lt = mapped zeros kinds n (omega (arith, lt))

pub mapped_at : (zeros : Kind → Value) (kinds : List Kind) (n : ℕ) (k : Kind) → IsOfKind kinds n k → get_or (map zeros kinds) n no_value ≡ zeros k
mapped_at zeros kinds n k h = mapped zeros kinds n h.within ∙ ap zeros h.kind

-- a variable that is declared with this value, at its number
pub declared_put : (syntax : Syntax16) (who : InScope) (called : Name) (n : ℕ) (v : Value) (c d : Cells) → with_part_value (numbered16 syntax c) (all_of (the_variable n)) v ≡ numbered16 syntax d → part_value (numbered16 syntax d) (all_of (the_variable n)) ≡ v → AreAway n who.inner → AreAway n who.variables
    → record (frame_in who (numbered16 syntax c)) { inner = a_member called v (frame_in who (numbered16 syntax c)).inner } ≡ frame_in (with_inner_ones (variable called n ∷ []) who) (numbered16 syntax d)
declared_put syntax who called n v c d put is inner variables =
    let x : Numbered = numbered16 syntax c in
    let w : Value = fitted (get_or x.variables n no_value) v in
    ap (λ (y : Value). record (frame_in who x) { inner = a_member called v y }) (sym (away_same x.variables who.inner n w inner))
    ∙ (ap (λ (y : Value). record (frame_in who x) { variables = y; inner = a_member called v (named_values (set x.variables n w) who.inner) }) (sym (away_same x.variables who.variables n w variables))
    ∙ (ap (λ (y : Numbered). record (frame_in who y) { inner = a_member called v (frame_in who y).inner }) put
    ∙ ap (λ (y : Value). record (frame_in who (numbered16 syntax d)) { inner = a_member called y (frame_in who (numbered16 syntax d)).inner }) (sym is)))

running_is : {A : Type 0} (o : Option ParserError) (x y : A) → o ≡ None → cond (is_some o) x y ≡ y
running_is o x y is = ap (λ (p : Option ParserError). cond (is_some p) x y) is

module _ (P : Cells → Type 0) (b : Around) (w : meaning.World) (z : World) (from to : ℕ) where
  -- what a variable starts with is what a new frame has there
  starts_new : (s : Scope) (who : InScope) (n : ℕ) (t : Type16) → InContext b.syntax w.around.roots from to n s who → AreOfKinds (variable_kinds b.syntax) n (kind_of_type s.names t ∷ []) → part_value (new_numbered b.syntax) (all_of (the_variable n)) ≡ starts s t
  starts_new s who n t at are =
      mapped_at (zero_value (layouts_of b.syntax.decls)) (variable_kinds b.syntax) n (kind_of_type s.names t) are.0
      ∙ ap (λ (l : List Layout). zero_value l (kind_of_type s.names t)) (sym at.layouts)

  started : (s : Scope) (who : InScope) (n : ℕ) (t : Type16) (called : Name) (seat : Seat) → InContext b.syntax w.around.roots from to n s who → AreOfKinds (variable_kinds b.syntax) n (kind_of_type s.names t ∷ []) → n + 1 ≤ to → owner_seat b.syntax (the_variable n) ≡ Some seat → RunsAlike P b w z s who (variable called n ∷ []) (var t called) (start (range_of s.layouts seat))
  started s who n t called seat at are fits there ran m k h runs =
      let r : Range = range_of s.layouts seat in
      let ranged : IsRangeOf (layouts_of b.syntax.decls) seat r = subst (λ (l : List Layout). IsRangeOf (layouts_of b.syntax.decls) seat (range_of l seat)) (sym at.layouts) (range_is (layouts_of b.syntax.decls) seat) in
      let begun : IsBegun b.syntax k.cells (emptied r k.cells) (the_variable n) = emptied_begins b.syntax k.cells (the_variable n) seat r h.shows.whole there ranged in
      let new : part_value (new_numbered b.syntax) (all_of (the_variable n)) ≡ starts s t = starts_new s who n t at are in
      let put : with_part_value (numbered16 b.syntax k.cells) (all_of (the_variable n)) (starts s t) ≡ numbered16 b.syntax (emptied r k.cells) =
      subst (λ (v : Value). with_part_value (numbered16 b.syntax k.cells) (all_of (the_variable n)) v ≡ numbered16 b.syntax (emptied r k.cells)) new begun.value in
      subst (λ (y : sem.Moment). LeftBehind P b.syntax who (variable called n ∷ []) y (ready.run z ran (start r) k)) (sym (running_is m.stopped m (sem.declared called (starts s t) m) runs))
      (subst (λ (y : Moment). LeftBehind P b.syntax who (variable called n ∷ []) (sem.declared called (starts s t) m) y) (sym (running_is k.stopped k (blocks.with_cells (emptied r k.cells) k) (sym h.shows.stopped ∙ runs)))
      (record {
        some = variable called n ∷ [];
        shown = record {
          shows = record {
            frame =
                ap (λ (f : Frame). record f { inner = a_member called (starts s t) f.inner }) h.shows.frame
                ∙ declared_put b.syntax who called n (starts s t) k.cells (emptied r k.cells) put (begun.is ∙ new) (below_away from n who.inner at.body.between) (outside_away from to n who.variables at.body.begun (omega (arith, fits)) at.body.outside);
            whole = begun.frame;
            store = h.shows.store;
            unparsed = h.shows.unparsed;
            emitted = h.shows.emitted;
            work = h.shows.work;
            stopped = h.shows.stopped;
            hit = h.shows.hit;
          };
          waits = h.waits;
        };
        all = λ none. refl;
      }))

  by_seat : (s : Scope) (who : InScope) (n : ℕ) (t : Type16) (called : Name) (o : Option Seat) → owner_seat b.syntax (the_variable n) ≡ o → InContext b.syntax w.around.roots from to n s who → AreOfKinds (variable_kinds b.syntax) n (kind_of_type s.names t ∷ []) → n + 1 ≤ to → IfSome (option_map (λ seat. start (range_of s.layouts seat)) o) (RunsAlike P b w z s who (variable called n ∷ []) (var t called))
  by_seat s who n t called None there at are fits = tt
  by_seat s who n t called (Some seat) there at are fits = started s who n t called seat at are fits there

  pub start_shows : (s : Scope) (who : InScope) (n : ℕ) (t : Type16) (called : Name) → InContext b.syntax w.around.roots from to n s who → AreOfKinds (variable_kinds b.syntax) n (kind_of_type s.names t ∷ []) → n + 1 ≤ to → IfSome (start_ready b s n) (RunsAlike P b w z s who (variable called n ∷ []) (var t called))
  start_shows s who n t called at are fits = by_seat s who n t called (owner_seat b.syntax (the_variable n)) refl at are fits
