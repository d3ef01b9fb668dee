-- The bodies of actions under both rules.
use Rattle.std.proofs.Common.{◌≡◌, ℕ, ◌+◌, ◌-◌, ◌<◌, Bool, true, false, cond, Option, Some, None, List, length, refl, sym, ap, ap₂, ◌∙◌, arith}
use Rattle.std.specs.Prelude.{codes}
use Rattle.state_store.specs.State.{Contents, count as count_in_store}
use Rattle.p414_syntax.specs.declared.syntax.Decl.{Decl}
use Rattle.p414_syntax.specs.declared.syntax.Rule14.{Rule14}
use Rattle.p414_syntax.specs.declared.syntax.Rule14.TheVariants.{Sequential}
use Rattle.p414_sem.specs.Operations.{Primitive}
use Rattle.p414_sem.specs.Effects.{Moment as Moment14}
use Rattle.p414_sem.specs.Controls.{counted}
use Rattle.p416_syntax.specs.Tree.{Stmt16, no_arguments}
use Rattle.p416_syntax.specs.Kinds.{direct_counter}
use Rattle.p416_syntax.specs.Scopes.{Scope}
use Rattle.p416_syntax.specs.Statements.{behind}
use Rattle.v1_core.specs.Values.{Value}
use Rattle.v1_core.specs.Frames.{Hit, Moment, ticked, closed, without, variable_count, of_headers, of_metadata, of_standard}
use Rattle.v1_core.specs.Surroundings.{World}
use Rattle.v1_core.specs.Tables.{hit_of}
use Rattle.v1_core.specs.Externs.Objects.{count, count_entry}
use Rattle.v1_core.specs.Statements.{no_label, run}
use Rattle.lower_laws_actions.specs.Apart.{needs_copies}
use Rattle.lower_laws_actions.specs.Runs.{after_sequence, after_parallel, after_rule}
use Rattle.lower_laws_actions.proofs.RulesAgree.{run_with_copies, run_without_copies}
use Rattle.lower_laws_base.specs.Context.{Local, Lowering, Words, words_of, Copies, Sees, Spares, Aside, Stands, AreGiven}
use Rattle.lower_laws_base.specs.Mirror.{copy_stmt, copies_stmt}
use Rattle.lower_laws_base.proofs.Locals.{inner_count}
use Rattle.lower_laws_base.proofs.Gives.{same_number}
use Rattle.lower_laws_base.proofs.States.{stands_at, stands_ticked, stands_stored}
use Rattle.lower_laws_base.proofs.Copies.{copies_stand}
use Rattle.lower_laws_base.proofs.Running.{Over, Done, stands_inner}
use Rattle.lower_laws_actions.specs.Mirror.{object_stmt, in_order, parallel_stmts, sequential_body, parallel_body, counts_first, body_stmt}
use Rattle.lower_laws_actions.specs.Fits.{IsObject, AllFit}
use Rattle.lower_laws_actions.proofs.Lists.{run_all, run_behind, free_of}
use Rattle.lower_laws_actions.proofs.Calls.{length_is, object_called, object_number}
use Rattle.lower_laws_actions.proofs.Stores.{count_stored}
use Rattle.lower_laws_actions.proofs.Sequences.{sequence_runs, parallel_runs}
use Rattle.lower_laws_actions.specs.Actions.{CounterIs, RuleFits, HasAll}

-- the variables that a body declared end with it
closed_over : (c : Lowering) (ls ks : List Local) (vs us : List Value) (k : Aside) (r m : Moment14) (n p : Moment) → Stands c.layout ls vs k r n → Stands c.layout ks us k m p → Over ls vs ks us → Stands c.layout ls vs k m (closed n p)
closed_over c ls ks vs us k r m n p before now over =
    let number : variable_count p.frame.inner - variable_count n.frame.inner ≡ over.count = ap₂ (λ i j. i - j) (ap variable_count now.inner ∙ inner_count ks us now.count ∙ over.counted) (ap variable_count before.inner ∙ inner_count ls vs before.count) ∙ less over.count (length ls) in
    stands_inner c.layout ks ls us vs k m p (without (variable_count p.frame.inner - variable_count n.frame.inner) p.frame.inner) (ap₂ without number now.inner ∙ over.left) before.count now
  where
    less : (i j : ℕ) → i + j - j ≡ i
    less i j = omega arith

-- a direct counter that counts first

abbrev counted_there : ℕ → Option ℕ → Moment → Moment
counted_there number (Some entry) n = count number entry n
counted_there number None n = n

entry_counts : (number : ℕ) (entry : Option ℕ) (n : Moment) → n.hit ≡ hit_of (Some number) entry → count_entry number n ≡ counted_there number entry n
entry_counts number (Some entry) n is =
    ap (λ (h : Option Hit). count_entry number (record n { hit = h })) is
    ∙ ap (λ b. let z : Moment = record n { hit = hit_of (Some number) (Some entry) } in cond b (count number entry z) z) (same_number number)
    ∙ ap (λ (h : Option Hit). count number entry (record n { hit = h })) (sym is)
entry_counts number None n is = ap (λ (h : Option Hit). count_entry number (record n { hit = h })) is ∙ ap (λ (h : Option Hit). let z : Moment = record n { hit = h } in z) (sym is)

module _ (c : Lowering) (s : Scope) (ls : List Local) (sees : Sees c s ls) (vs : List Value) (k : Aside) (m : Moment14) (n : Moment) (stands : Stands c.layout ls vs k m n) where
  counted_done : (number : ℕ) (entry : Option ℕ) → IsObject c direct_counter number → k.hit ≡ hit_of (Some number) entry → Done c s ls vs k (object_stmt (words_of c) number (codes "count") no_arguments) (counted (Some number) entry m) n
  counted_done number entry is hits = by entry (
      object_called c s ls sees direct_counter number is (codes "count") no_arguments n stands.both.packet.runs
      ∙ ap (λ z. count_entry z (ticked n)) (object_number c s ls sees direct_counter number is)
      ∙ entry_counts number entry (ticked n) (stands.hit ∙ hits)
      ) where
        began : Stands c.layout ls vs k m (ticked n)
        began = stands_ticked c.layout ls vs k m n stands

        within : number < length c.layout.shapes
        within = omega (arith, is.0, sees.declares.stored)

        by : (entry : Option ℕ) → run c.world s no_label (object_stmt (words_of c) number (codes "count") no_arguments) n ≡ counted_there number entry (ticked n) → Done c s ls vs k (object_stmt (words_of c) number (codes "count") no_arguments) (counted (Some number) entry m) n
        by None done = record { stands = stands_at c.layout ls vs k _ _ _ _ refl done began; variables = ap (λ (z : Moment). z.frame.variables) done }
        by (Some entry) done = record {
          stands = stands_at c.layout ls vs k _ _ _ _ refl
              (done ∙ ap₂ (λ (store : Contents) (size : ℕ). record (ticked n) { store = count_in_store store number entry size }) stands.both.store (length_is c.layout ls vs k m n stands))
              (stands_stored c.layout ls vs k m (ticked n) (count_in_store m.store number entry m.state.packet_length)
              (count_stored c.layout.shapes m.store stands.stored number within entry m.state.packet_length) began);
          variables = ap (λ (z : Moment). z.frame.variables) done;
        }

  pub first_done : (counter : Option ℕ) (entry : Option ℕ) → CounterIs c counter → k.hit ≡ hit_of counter entry → Done c s ls vs k (counts_first (words_of c) counter) (counted counter entry m) n
  first_done None entry is hits = record { stands = stands; variables = refl }
  first_done (Some number) entry is hits = let done = counted_done number entry is hits in record { stands = done.stands; variables = done.variables }

first_stays : (c : Lowering) (s : Scope) (counter : Option ℕ) → behind (counts_first (words_of c) counter) s ≡ s
first_stays c s None = refl
first_stays c s (Some number) = refl

module _ (c : Lowering) (s : Scope) (ls : List Local) (sees : Sees c s ls) (spares : Spares c ls 0) (ds : List Decl) (arguments : List ℕ) (vs : List Value) (given : AreGiven c.parameters ls vs arguments) (k : Aside) (m : Moment14) (n : Moment) (stands : Stands c.layout ls vs k m n) (counter entry_hit : Option ℕ) (is : CounterIs c counter) (hits : k.hit ≡ hit_of counter entry_hit) (ps : List Primitive) (fits : AllFit c ds ps) where
  abbrev w : World
  w = c.world

  abbrev x : Stmt16
  x = counts_first (words_of c) counter

  abbrev m1 : Moment14
  m1 = counted counter entry_hit m

  abbrev n1 : Moment
  n1 = run w s no_label x n

  first : Done c s ls vs k x m1 n
  first = first_done c s ls sees vs k m n stands counter entry_hit is hits

  pub sequential_stands : Stands c.layout ls vs k (after_sequence ds arguments ps m1) (closed n (run w s no_label (sequential_body ds (words_of c) x ps) n))
  sequential_stands =
      let ends = sequence_runs c k ds arguments ps fits s ls sees vs given 0 (free_of c ls spares) m1 n1 first.stands in
      let is_run : run w s no_label (sequential_body ds (words_of c) x ps) n ≡ run_all w s (in_order ds (words_of c) 0 ps) n1 = run_behind w s (in_order ds (words_of c) 0 ps) x n ∙ ap (λ t. run_all w t (in_order ds (words_of c) 0 ps) n1) (first_stays c s counter) in
      stands_at c.layout ls vs k _ _ _ _ refl (ap (closed n) is_run)
      (closed_over c ls ends.runs.locals vs ends.runs.values k m (after_sequence ds arguments ps m1) n (run_all w s (in_order ds (words_of c) 0 ps) n1) stands ends.runs.stands ends.runs.over)

  abbrev n4 : Moment
  n4 = run w s no_label (copy_stmt (words_of c) of_standard) (run w s no_label (copy_stmt (words_of c) of_metadata) (run w s no_label (copy_stmt (words_of c) of_headers) n1))

  pub parallel_stands : Copies c → HasAll c → Stands c.layout ls vs k (after_parallel ds arguments m1 ps m1) (closed n (run w s no_label (parallel_body ds (words_of c) x ps) n))
  parallel_stands copies has =
      let ys = parallel_stmts ds (words_of c) ps in
      let entered = copies_stand c s ls sees vs k m1 n1 first.stands copies has.headers has.metadata has.standard in
      let ends = parallel_runs c k copies ds arguments ps fits s ls sees vs given (free_of c ls spares) m1 n4 entered.stands entered.seen in
      let is_run : run w s no_label (parallel_body ds (words_of c) x ps) n ≡ run_all w s ys n4 =
      run_behind w s ys (copies_stmt (words_of c) x) n
      ∙ ap (λ t. run_all w t ys (run w t no_label (copy_stmt (words_of c) of_standard) (run w t no_label (copy_stmt (words_of c) of_metadata) (run w t no_label (copy_stmt (words_of c) of_headers) n1)))) (first_stays c s counter) in
      stands_at c.layout ls vs k _ _ _ _ refl (ap (closed n) is_run)
      (closed_over c ls ends.runs.locals vs ends.runs.values k m (after_parallel ds arguments m1 ps m1) n (run_all w s ys n4) stands ends.runs.stands ends.runs.over)

-- where none are needed, an action is written as under the sequential rule
pub written_in_turn : (ds : List Decl) (w : Words) (rule : Rule14) (counter : Option ℕ) (ps : List Primitive) → needs_copies ds rule ps ≡ false → body_stmt ds w rule counter ps ≡ body_stmt ds w Sequential counter ps
written_in_turn ds w rule counter ps needs = ap (λ b. cond b (parallel_body ds w (counts_first w counter) ps) (sequential_body ds w (counts_first w counter) ps)) needs

pub body_stands : (c : Lowering) (s : Scope) (ls : List Local) → Sees c s ls → Spares c ls 0 → (ds : List Decl) (arguments : List ℕ) (vs : List Value) → AreGiven c.parameters ls vs arguments → (k : Aside) (m : Moment14) (n : Moment) → Stands c.layout ls vs k m n → (counter entry_hit : Option ℕ) → CounterIs c counter → k.hit ≡ hit_of counter entry_hit → (ps : List Primitive) → AllFit c ds ps → (rule : Rule14) → RuleFits c ds rule ps → Stands c.layout ls vs k (after_rule ds rule arguments ps (counted counter entry_hit m)) (closed n (run c.world s no_label (body_stmt ds (words_of c) rule counter ps) n))
body_stands c s ls sees spares ds arguments vs given k m n stands counter hit is hits ps fits rule rule_fits = by (needs_copies ds rule ps) refl where
  by : (b : Bool) → needs_copies ds rule ps ≡ b → Stands c.layout ls vs k (after_rule ds rule arguments ps (counted counter hit m)) (closed n (run c.world s no_label (cond b (parallel_body ds (words_of c) (counts_first (words_of c) counter) ps) (sequential_body ds (words_of c) (counts_first (words_of c) counter) ps)) n))
  by true needs =
      let has = rule_fits needs in
      stands_at c.layout ls vs k _ _ _ _ (run_with_copies ds rule arguments ps (counted counter hit m) needs) refl
      (parallel_stands c s ls sees spares ds arguments vs given k m n stands counter hit is hits ps fits has.0 has.1)
  by false needs =
      stands_at c.layout ls vs k _ _ _ _ (run_without_copies ds rule arguments ps (counted counter hit m) needs) refl
      (sequential_stands c s ls sees spares ds arguments vs given k m n stands counter hit is hits ps fits)
