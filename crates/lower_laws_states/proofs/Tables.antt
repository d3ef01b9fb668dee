-- An application of a table notes numbers of 32 bits, so a control leaves a state of the program.
use Rattle.std.proofs.Common.{◌≡◌, ℕ, zero, suc, ◌+◌, ◌<◌, ◌≤◌, ◌-◌, ◌^◌, Bool, true, false, cond, Option, Some, None, List, [], ◌∷◌, length, fold, refl, arith}
use Rattle.std.specs.Prelude.{All, IfSome, min, option_map, unwrap_or, nat_lt}
use Rattle.std.specs.BTreeSet.{insert_key}
use Rattle.std.specs.Cmp.Lexicographic.{slice_cmp}
use Rattle.std.specs.Ordering.{match_ordering, nat_cmp}
use Rattle.std.specs.Str.{bytes_eq}
use Rattle.std.specs.declared.cmp.Ordering.{Ordering}
use Rattle.std.specs.declared.cmp.Ordering.TheVariants.{Less, Equal, Greater}
use Rattle.std.proofs.Math.Nat.{min-le_left}
use Rattle.std.proofs.lemmas.List.{length-map}
use Rattle.std.proofs.lemmas.List.Elements.{All-weaker}
use Rattle.std.proofs.lemmas.List.Quantifiers.{position-Some}
use Rattle.match_core.specs.declared.entries.DefaultCall.{DefaultCall}
use Rattle.match_core.specs.declared.entries.Entry.{Entry}
use Rattle.match_core.specs.declared.entries.TableFill.{TableFill}
use Rattle.match_core.specs.declared.signatures.TableSig.{TableSig}
use Rattle.match_core.specs.Best.{lead, leader}
use Rattle.match_core.specs.Fits.{Fits, FitsFill, FitsEntry, FitsCall}
use Rattle.p414_syntax.specs.declared.tables.Table.{Table}
use Rattle.p414_syntax.specs.Attributes.{default_action_of}
use Rattle.p414_syntax.specs.Tree.{Stmt}
use Rattle.p414_syntax.specs.declared.syntax.Decl.{Decl}
use Rattle.p414_syntax.specs.declared.syntax.Sort.TheVariants as sort
use Rattle.p414_syntax.specs.Names.{Name, find_name, names_in}
use Rattle.p414_syntax.specs.Tables.{listed_in}
use Rattle.p414_sem.specs.State.{State}
use Rattle.p414_sem.specs.Operations.{in_order}
use Rattle.p414_sem.specs.Effects.{Moment}
use Rattle.p414_sem.specs.Fitting.{IsState}
use Rattle.p414_sem.specs.Signatures.{actions_in_order, action_sig, table_sig, table_of, signature14}
use Rattle.p414_sem.specs.Controls.{control_run, Setting, Chosen, signature_number, fill_of, found, program_default, chosen, noted}
use Rattle.lower_laws_states.specs.Programs.{FewTables, ProgramFits}
use Rattle.lower_laws_states.proofs.States.{with_event_fits}
use Rattle.lower_laws_states.proofs.Filling.{fill_fits}
use Rattle.lower_laws_states.proofs.Folds.{control_keeps}
use Rattle.lower_laws_states.proofs.Effects.{acted_by_fits}

-- numbers of tables and actions

insert_short : (names : List Name) (name : Name) → length (insert_key (slice_cmp nat_cmp) names name) ≤ suc (length names)
insert_short [] name = omega arith
insert_short (n ∷ names) name = by (slice_cmp nat_cmp name n) (insert_short names name) where
  by : (r : Ordering) → length (insert_key (slice_cmp nat_cmp) names name) ≤ suc (length names) → length (match_ordering r (name ∷ n ∷ names) (n ∷ names) (n ∷ insert_key (slice_cmp nat_cmp) names name)) ≤ suc (suc (length names))
  by Less rest = omega arith
  by Equal rest = omega arith
  by Greater rest = omega (arith, rest)

in_order_from : (names kept : List Name) → length (fold (insert_key (slice_cmp nat_cmp)) kept names) ≤ length kept + length names
in_order_from [] kept = omega arith
in_order_from (n ∷ names) kept = omega (arith, in_order_from names (insert_key (slice_cmp nat_cmp) kept n), insert_short kept n)

pub in_order_short : (names : List Name) → length (in_order names) ≤ length names
in_order_short names = omega (arith, in_order_from names [])

pub number_short : (names : List Name) (name : Name) → unwrap_or (find_name names name) (length names) ≤ length names
number_short names name = by (find_name names name) refl where
  by : (o : Option ℕ) → find_name names name ≡ o → unwrap_or o (length names) ≤ length names
  by None e = omega arith
  by (Some k) e = omega (arith, (position-Some (bytes_eq name) names k [] e).0)

-- the best entry is one of them

leader_within : (test : ℕ → Bool) (rank : ℕ → ℕ) (n : ℕ) → IfSome (leader test rank n) (λ k. k < n)
leader_within test rank zero = tt
leader_within test rank (suc n) = by (test n) (leader test rank n) (leader_within test rank n) where
  lead_within : (o : Option ℕ) → IfSome o (λ k. k < n) → IfSome (lead rank o n) (λ k. k < suc n)
  lead_within None h = omega arith
  lead_within (Some k) h = by (nat_lt (rank n) (rank k)) where
    by : (b : Bool) → IfSome (cond b (Some n) (Some k)) (λ k. k < suc n)
    by true = omega arith
    by false = omega (arith, h)

  by : (b : Bool) (o : Option ℕ) → IfSome o (λ k. k < n) → IfSome (cond b (lead rank o n) o) (λ k. k < suc n)
  by true o h = lead_within o h
  by false None h = tt
  by false (Some k) h = omega (arith, h)

-- the entry that a packet hits is one of the table
pub found_within : (c : Setting) (s : State) (t : Table) → IfSome (found c s t) (λ k. k < length (fill_of c t).entries)
found_within c s t = leader_within _ _ (length (fill_of c t).entries)

-- what fills a table

pub record FewEntries (fill : TableFill) : Type 0 where
  pub few : length fill.entries < 2 ^ 32
  pub actions : All (λ (e : Entry). e.action < 2 ^ 32) fill.entries
  pub default : IfSome fill.default (λ (d : DefaultCall). d.action < 2 ^ 32)

record FewInTable (t : TableSig) : Type 0 where
  size : t.size < 2 ^ 32
  actions : length t.actions < 2 ^ 32

few_entries : (t : TableSig) (fill : TableFill) → FewInTable t → FitsFill t fill → FewEntries fill
few_entries t fill few fits = record {
  few = omega (arith, fits.size, few.size);
  actions = All-weaker (FitsEntry t) (λ e. e.action < 2 ^ 32) (λ e one. omega (arith, one.call.listed, few.actions)) fill.entries fits.entries;
  default = by fill.default fits.call;
} where
  by : (o : Option DefaultCall) → IfSome o (λ d. FitsCall t d.action d.arguments) → IfSome o (λ d. d.action < 2 ^ 32)
  by None h = tt
  by (Some d) h = omega (arith, h.listed, few.actions)

few_actions : (ds : List Decl) → FewTables ds → (name : Name) (t : Table) → table_of ds name ≡ Some t → length (actions_in_order t) < 2 ^ 32
few_actions ds few name t e = omega (arith, in_order_short (listed_in t), few.actions name t e)

min_few : (n : ℕ) → min (2 ^ 32 - 1) n < 2 ^ 32
min_few n = omega (arith, min-le_left (2 ^ 32 - 1) n)

few_table : (ds : List Decl) → FewTables ds → (name : Name) (t : Table) → table_of ds name ≡ Some t → FewInTable (table_sig ds t)
few_table ds few name t e = record { size = min_few _; actions = omega (arith, length-map (actions_in_order t) (action_sig ds), few_actions ds few name t e) }

-- applications

module _ (c : Setting) (fits : ProgramFits c.decls c.expanded) (entries : Fits c.entries (signature14 c.decls)) where
  fill_few : (name : Name) (t : Table) → table_of c.decls name ≡ Some t → FewEntries (fill_of c t)
  fill_few name t e = few_entries (table_sig c.decls t) (fill_of c t) (few_table c.decls fits.few name t e) (fill_fits c entries name t e)

  table_few : (t : Table) → signature_number c.decls t < 2 ^ 32
  table_few t = omega (arith, number_short (in_order (names_in sort.Table c.decls)) t.name, in_order_short (names_in sort.Table c.decls), fits.few.tables)

  chosen_few : (name : Name) (t : Table) → table_of c.decls name ≡ Some t → (entry : Option ℕ) → IfSome entry (λ k. k < length (fill_of c t).entries) → IfSome (chosen c t entry) (λ k. k.action < 2 ^ 32)
  chosen_few name t e (Some k) h = (fill_few name t e).actions k _ h
  chosen_few name t e None h = by (fill_of c t).default refl (fill_few name t e).default where
    given : (o : Option Name) → IfSome (option_map (program_default c.decls t) o) (λ k. k.action < 2 ^ 32)
    given None = tt
    given (Some action) = omega (arith, number_short (actions_in_order t) action, few_actions c.decls fits.few name t e)

    by : (o : Option DefaultCall) → (fill_of c t).default ≡ o → IfSome o (λ d. d.action < 2 ^ 32) → IfSome (chosen c t None) (λ k. k.action < 2 ^ 32)
    by (Some d) is few = rw is few
    by None is few = rw is (given (default_action_of t.attributes))

  noted_fits : (name : Name) (t : Table) → table_of c.decls name ≡ Some t → (entry : Option ℕ) → IfSome entry (λ k. k < length (fill_of c t).entries) → (m : Moment) → IsState c.decls m.state → IsState c.decls (noted (signature_number c.decls t) entry (chosen c t entry) m).state
  noted_fits name t e entry h m state = with_event_fits c.decls m.state _ state (record {
    table = table_few t;
    entry = by entry h;
    action = of (chosen c t entry) (chosen_few name t e entry h);
  }) where
    by : (o : Option ℕ) → IfSome o (λ k. k < length (fill_of c t).entries) → IfSome o (λ k. k < 2 ^ 32)
    by None h = tt
    by (Some k) h = omega (arith, h, (fill_few name t e).few)

    of : (o : Option Chosen) → IfSome o (λ k. k.action < 2 ^ 32) → IfSome (option_map (λ (k : Chosen). k.action) o) (λ a. a < 2 ^ 32)
    of None h = tt
    of (Some k) h = h

  pub control_run_fits : (body : Stmt) (m : Moment) → IsState c.decls m.state → IsState c.decls (control_run c body m).state
  control_run_fits =
      control_keeps c (IsState c.decls) (λ action arguments m state. acted_by_fits c.decls c.expanded arguments c.rule action m state (fits.actions action))
      (λ name t m e state. noted_fits name t e (found c m.state t) (found_within c m.state t) m state)
