-- Applications of a table: the same entry, the same action under its copy, and moments that correspond.
use Rattle.std.proofs.Common.{◌≡◌, ℕ, zero, suc, ◌<◌, ◌^◌, Bool, true, false, cond, Option, Some, None, option_map, IfSome, List, [], ◌∷◌, ◌++◌, length, map, get_or, refl, sym, ap, ap₂, ◌∙◌, subst, arith}
use Rattle.std.specs.Prelude.{nat_lt, option_and_then, unwrap_or}
use Rattle.std.proofs.lemmas.List.Elements.{All-get_or}
use Rattle.std.proofs.lemmas.List.Quantifiers.{position-Some}
use Rattle.std.specs.Str.{bytes_eq}
use Rattle.std.proofs.lemmas.Slice.Eq.{bytes_eq-Decides}
use Rattle.fabric.specs.declared.items.Event.{Event}
use Rattle.match_core.specs.declared.entries.DefaultCall.{DefaultCall}
use Rattle.match_core.specs.declared.entries.Entries.{Entries}
use Rattle.match_core.specs.declared.entries.TableFill.{TableFill}
use Rattle.match_core.specs.declared.signatures.TableSig.{TableSig}
use Rattle.match_core.specs.Best.{best, leader, lead, entry_at, Filled}
use Rattle.match_core.specs.Fits.{FitsCall, FitsEntry}
use Rattle.match_core.specs.Tables.{filled_of}
use Rattle.p414_syntax.specs.declared.tables.Table.{Table}
use Rattle.p414_syntax.specs.Attributes.{default_action_of as default14}
use Rattle.p414_syntax.specs.Names.{Name}
use Rattle.p414_syntax.specs.Arguments.{action_number}
use Rattle.p414_sem.specs.State.{State, with_event as with_event14}
use Rattle.p414_sem.specs.Effects.{Moment as Moment14, acted_by}
use Rattle.p414_sem.specs.Signatures.{table_sig as sig14, actions_in_order}
use Rattle.p414_sem.specs.Controls.{Setting as Setting14, Chosen as Chosen14, keys_of, signature_number, fill_of as fill14, found as found14, chosen as chosen14, chosen_action, chosen_name, action_in_table, program_default, counted, noted, run_chosen as run14, application_of}
use Rattle.p416_syntax.specs.declared.controls.Action16.{Action16}
use Rattle.p416_syntax.specs.declared.controls.ActionName.{ActionName}
use Rattle.p416_syntax.specs.declared.controls.ActionName.TheVariants as action_name
use Rattle.p416_syntax.specs.declared.controls.Table16.{Table16}
use Rattle.p416_syntax.specs.Properties.{default_action_of as default16}
use Rattle.v1_core.specs.Frames.{Frame, Moment, Owner, of_headers, of_metadata, of_standard, of_variables, of_inner, of_nothing, owned, with_event}
use Rattle.v1_core.specs.Signatures.{table_number, place_among}
use Rattle.v1_core.specs.Surroundings.{Surroundings, action_named}
use Rattle.v1_core.specs.Tables.{Chosen, key_values, fill_of as fill16, found as found16, chosen as chosen16, chosen_entry, chosen_on_miss, name_of_number, own_default, number_of, called_in, hit_of, run_action, run_chosen as run16, with_application, applied_by}
use Rattle.agreement_of_meanings.specs.Shown.{standard_width}
use Rattle.agreement_of_meanings.proofs.Written.{requests_by14, requests_by16}
use Rattle.agreement_of_meanings.proofs.Extracted.{numbers_by, state_like, frame_like}
use Rattle.lower_laws_base.specs.Context.{StateLayout, HasRoot, HasMembers, Aside}
use Rattle.lower_laws_base.specs.Alike.{FitWidths}
use Rattle.lower_laws_base.proofs.Shapes.{shaped_like}
use Rattle.lower_laws_base.proofs.States.{stands_at}
use Rattle.lower_laws_controls.specs.Alike.{Level, ActionsAgree, AppliedAgrees}
use Rattle.lower_laws_controls.specs.Tables.{named_at, widths_at, DefaultStands, TableAlike}

-- the best entry is one of the table's

led : (rank : ℕ → ℕ) (o : Option ℕ) (i n : ℕ) → (o ≡ Some n → n < i) → lead rank o i ≡ Some n → n < suc i
led rank None i n before e = let same : i ≡ n = cc e in omega (arith, same)
led rank (Some k) i n before e = by (nat_lt (rank i) (rank k)) e where
  by : (b : Bool) → cond b (Some i) (Some k) ≡ Some n → n < suc i
  by true e = let same : i ≡ n = cc e in omega (arith, same)
  by false e = let lt = before e in omega (arith, lt)

leads : (test : ℕ → Bool) (rank : ℕ → ℕ) (count n : ℕ) → leader test rank count ≡ Some n → n < count
leads test rank zero n e = absurd (cc e)
leads test rank (suc i) n e = by (test i) (leads test rank i n) e where
  by : (b : Bool) → (leader test rank i ≡ Some n → n < i) → cond b (lead rank (leader test rank i) i) (leader test rank i) ≡ Some n → n < suc i
  by true before e = led rank (leader test rank i) i n before e
  by false before e = let lt = before e in omega (arith, lt)

best_within : (table : Filled) (key : List ℕ) (n : ℕ) → best table key ≡ Some n → n < length table.entries
best_within table key n e = leads _ _ (length table.entries) n e

-- what is noted

noted_stands : (g : StateLayout) (aside : Aside) (m : Moment14) (n : Moment) (x y : ℕ) (entry : Option ℕ) (k : Option Chosen14) (q : Option Chosen) → x ≡ y → option_map number_of q ≡ option_map chosen_action k → Level g aside m n → Level g aside (noted y entry k m) (with_application x entry q n)
noted_stands g aside m n x y entry k q number same stands =
    let event14 : Event = record { table = y; entry = entry; action = option_map chosen_action k } in
    let event16 : Event = record { table = x; entry = entry; action = option_map number_of q } in
    let events : event16 ≡ event14 = ap₂ (λ (i : ℕ) (o : Option ℕ). let e : Event = record { table = i; entry = entry; action = o } in e) number same in
    let s : State = with_event14 m.state event14 in
    let f : Frame = with_event event16 n.frame in
    record {
      both = record {
        packet = record {
          agrees = frame_like g.names s n.frame f refl refl refl (requests_by16 n.frame f refl refl refl refl)
              (state_like g.names m.state s n.frame refl (numbers_by m.state s refl refl refl refl refl) (requests_by14 m.state s refl refl refl refl) stands.both.packet.agrees);
          unparsed = stands.both.packet.unparsed;
          events = ap₂ (λ (l : List Event) (e : Event). l ++ e ∷ []) stands.both.packet.events events;
          runs = stands.both.packet.runs;
        };
        store = stands.both.store;
      };
      shaped = shaped_like g m.state stands.shaped s refl (λ which. subst (λ k. k < 2 ^ standard_width which) (numbers_by m.state s refl refl refl refl refl which) (stands.shaped.standard which));
      stored = stands.stored;
      inner = stands.inner;
      count = stands.count;
      variables = record { values = stands.variables.values; count = stands.variables.count; is = stands.variables.is; whole = stands.variables.whole };
      members = members;
      error = stands.error;
      checksum = stands.checksum;
      emitted = stands.emitted;
      hit = stands.hit;
    }
  where
    members : (o : Owner) → HasRoot g o → HasMembers (g.members o) (owned (with_application x entry q n).frame o)
    members of_headers has = stands.members of_headers has
    members of_metadata has = stands.members of_metadata has
    members of_standard has = stands.members of_standard has
    members of_variables has = absurd has
    members of_inner has = absurd has
    members of_nothing has = absurd has

module _ (g : StateLayout) (d : Setting14) (b : Surroundings) (act : Action16 → Moment → Moment) (copy : Name → Option Name) (t : Table) (u : Table16) (alike : TableAlike g d b act copy t u) (aside : Aside) where
  -- the same entries, and the same best one

  fills_same : fill16 b u ≡ fill14 d t
  fills_same = ap₂ (λ (e : Entries) (n : ℕ). get_or e.tables n (record { entries = []; default = None })) alike.entries alike.number

  found_same : (m : Moment14) (n : Moment) → Level g aside m n → found16 b n u ≡ found14 d m.state t
  found_same m n stands =
      ap (λ sig. best (filled_of sig (fill16 b u)) (key_values b n u)) alike.signature
      ∙ ap₂ (λ fill l. best (filled_of (sig14 d.decls t) fill) l) fills_same (alike.keys aside m n stands)

  -- an action that both tables choose
  record Same (k : Chosen14) (q : Chosen) : Type 0 where
    pub within : k.action < length (actions_in_order t)
    pub number : q.number ≡ k.action
    pub called : q.called ≡ (alike.each k.action within).text
    pub arguments : q.arguments ≡ k.arguments
    pub fit : FitWidths (widths_at d t k.action) k.arguments

  abbrev AreSame : Option Chosen14 → Option Chosen → Type 0
  AreSame None None = Unit {0}
  AreSame (Some k) (Some q) = Same k q
  AreSame _ _ = ⊥

  -- how many actions there are in the signature
  counted_actions : length (sig14 d.decls t).actions ≡ length (actions_in_order t)
  counted_actions = length_map _ (actions_in_order t) where
    length_map : {A B : Type 0} (f : A → B) (xs : List A) → length (map f xs) ≡ length xs
    length_map f [] = refl
    length_map f (x ∷ xs) = ap suc (length_map f xs)

  -- a call of the entries
  by_call : (action : ℕ) (arguments : List ℕ) → FitsCall (sig14 d.decls t) action arguments → Same (record { action = action; arguments = arguments }) (record { called = name_of_number b.scope u action; number = action; arguments = arguments })
  by_call action arguments fits =
      let lt : action < length (actions_in_order t) = subst (λ k. action < k) counted_actions fits.listed in
      record { within = lt; number = refl; called = (alike.each action lt).numbered; arguments = refl; fit = fits.widths }

  of_default : (o : Option Name) (p : Option ActionName) → DefaultStands d b copy t u o p → AreSame (option_map (program_default d.decls t) o) (option_and_then (own_default b.scope u) p)
  of_default None None stands = tt
  of_default None (Some p) stands = absurd stands
  of_default (Some name) None stands = absurd stands
  of_default (Some name) (Some action_name.NoAction) stands = absurd stands
  of_default (Some name) (Some (action_name.Declared text)) stands =
      let i = stands.2.0 in
      let there = position-Some (bytes_eq name) (actions_in_order t) i [] stands.2.1 in
      let at : action_in_table t name ≡ i = ap (λ (o : Option ℕ). unwrap_or o (length (actions_in_order t))) stands.2.1 in
      let here : name ≡ named_at t (action_in_table t name) = (bytes_eq-Decides name (named_at t i)).0 there.1 ∙ ap (named_at t) (sym at) in
      let lt : action_in_table t name < length (actions_in_order t) = subst (λ j. j < length (actions_in_order t)) (sym at) there.0 in
      record {
        within = lt;
        number = ap₂ place_among alike.planes stands.1;
        called = named_once name (named_at t (action_in_table t name)) text (alike.each (action_in_table t name) lt).text here stands.0 (alike.each (action_in_table t name) lt).copied;
        arguments = stands.3;
        fit = subst (λ j. FitWidths (widths_at d t j) (program_default d.decls t name).arguments) (sym at) stands.2.2;
      }
    where
      named_once : (a e x y : Name) → a ≡ e → copy a ≡ Some x → copy e ≡ Some y → x ≡ y
      named_once a e x y same f g = cc

  abbrev IsWithin : Option ℕ → Type 0
  IsWithin None = Unit {0}
  IsWithin (Some e) = e < length (fill14 d t).entries

  -- the same action, by its number and under its copy
  chosen_alike : (entry : Option ℕ) → IsWithin entry → AreSame (chosen14 d t entry) (chosen16 b u entry)
  chosen_alike (Some e) lt =
      let there = All-get_or (FitsEntry (sig14 d.decls t)) (fill14 d t).entries e (record { keys = []; priority = 0; action = 0; arguments = [] }) lt alike.fill.entries in
      subst (λ (f : TableFill). AreSame (chosen14 d t (Some e)) (Some (chosen_entry b.scope u (entry_at f.entries e)))) (sym fills_same)
      (by_call (entry_at (fill14 d t).entries e).action (entry_at (fill14 d t).entries e).arguments there.call)
  chosen_alike None lt =
      subst (λ (f : TableFill). AreSame (chosen14 d t None) (chosen_on_miss b.scope u f.default)) (sym fills_same)
      (by (fill14 d t).default refl alike.fill.call)
    where
      by : (o : Option DefaultCall) → (fill14 d t).default ≡ o → IfSome o (λ call. FitsCall (sig14 d.decls t) call.action call.arguments) → AreSame (chosen14 d t None) (chosen_on_miss b.scope u o)
      by (Some k) e fits = rw e (by_call k.action k.arguments fits)
      by None e fits = rw e (of_default (default14 t.attributes) (default16 u.properties) alike.default)

  number_alike : (k : Option Chosen14) (q : Option Chosen) → AreSame k q → option_map number_of q ≡ option_map chosen_action k
  number_alike None None same = refl
  number_alike None (Some q) same = absurd same
  number_alike (Some k) None same = absurd same
  number_alike (Some k) (Some q) same = ap Some same.number

  action_alike : (k : Option Chosen14) (q : Option Chosen) → AreSame k q → ActionsAgree copy (option_map (chosen_name t) k) (option_map called_in q)
  action_alike None None same = tt
  action_alike None (Some q) same = absurd same
  action_alike (Some k) None same = absurd same
  action_alike (Some k) (Some q) same = (alike.each k.action same.within).copied ∙ ap Some (sym same.called)

  -- what running the chosen action leaves

  abbrev direct : Option ℕ
  direct = (sig14 d.decls t).direct

  counted_none : (o : Option ℕ) (m : Moment14) → counted o None m ≡ m
  counted_none None m = refl
  counted_none (Some counter) m = refl

  runs14 : (k : Chosen14) (action : ℕ) (m : Moment14) → action_number d.decls (named_at t k.action) ≡ Some action → run14 d t (Some k) m ≡ acted_by d.decls d.expanded d.rule action k.arguments m
  runs14 k action m listed = rw listed refl

  run_alike : (entry : Option ℕ) (k : Option Chosen14) (q : Option Chosen) (m : Moment14) (n : Moment) → AreSame k q → (k ≡ None → entry ≡ None) → Level g aside m n → Level g aside (run14 d t k (counted direct entry m)) (run16 b act (hit_of direct entry) q n)
  run_alike entry None None m n same misses stands =
      subst (λ (x : Option ℕ). Level g aside (counted direct x m) n) (sym (misses refl))
      (subst (λ (x : Moment14). Level g aside x n) (sym (counted_none direct m)) stands)
  run_alike entry None (Some q) m n same misses stands = absurd same
  run_alike entry (Some k) None m n same misses stands = absurd same
  run_alike entry (Some k) (Some q) m n same misses stands =
      let one = alike.each k.action same.within in
      let hit = hit_of direct entry in
      stands_at g [] [] aside _ _ _ _ (runs14 k one.action (counted direct entry m) one.listed14)
      (ap₂ (λ (l : List ℕ) (o : Option Action16). run_action b act hit l o n) same.arguments (ap (action_named b) same.called ∙ one.listed16))
      (one.acts aside entry k.arguments m n same.fit stands)

  misses_none : (entry : Option ℕ) → chosen14 d t entry ≡ None → entry ≡ None
  misses_none None e = refl
  misses_none (Some entry) e = absurd (cc e)

  by_entry : (entry : Option ℕ) (m : Moment14) (n : Moment) → IsWithin entry → Level g aside m n → AppliedAgrees g aside copy (application_of d t entry m) (applied_by b act u entry n)
  by_entry entry m n lt stands =
      let k = chosen14 d t entry in
      let q = chosen16 b u entry in
      let same = chosen_alike entry lt in
      let before = with_application (table_number b.setting.syntax u) entry q n in
      let after = noted_stands g aside m n (table_number b.setting.syntax u) (signature_number d.decls t) entry k q alike.number (number_alike k q same) stands in
      record {
        hit = refl;
        action = action_alike k q same;
        moment = subst (λ (o : Option ℕ). Level g aside (run14 d t k (counted direct entry (noted (signature_number d.decls t) entry k m))) (run16 b act (hit_of o entry) q before)) (sym (ap (λ (sig : TableSig). sig.direct) alike.signature))
            (run_alike entry k q (noted (signature_number d.decls t) entry k m) before same (misses_none entry) after);
      }

  found_within : (m : Moment14) (o : Option ℕ) → found14 d m.state t ≡ o → IsWithin o
  found_within m None e = tt
  found_within m (Some n) e = best_within (filled_of (sig14 d.decls t) (fill14 d t)) (keys_of d.decls m.state t) n e

  pub application_alike : (m : Moment14) (n : Moment) → Level g aside m n → AppliedAgrees g aside copy (application_of d t (found14 d m.state t) m) (applied_by b act u (found16 b n u) n)
  application_alike m n stands =
      subst (λ (e : Option ℕ). AppliedAgrees g aside copy (application_of d t (found14 d m.state t) m) (applied_by b act u e n)) (sym (found_same m n stands))
      (by_entry (found14 d m.state t) m n (found_within m _ refl) stands)
