-- Applications of a table with one action correspond.
use Rattle.std.proofs.Common.{◌≡◌, ℕ, Option, Some, None, option_map, is_some, IfSome, List, [], ◌∷◌, ◌++◌, get_or, refl, sym, ap, ap₂, ◌∙◌, subst}
use Rattle.fabric.specs.declared.items.Event.{Event}
use Rattle.match_core.specs.declared.entries.DefaultCall.{DefaultCall}
use Rattle.match_core.specs.declared.entries.Entries.{Entries}
use Rattle.match_core.specs.declared.signatures.TableSig.{TableSig}
use Rattle.match_core.specs.Best.{best}
use Rattle.match_core.specs.Tables.{filled_of}
use Rattle.p414_syntax.specs.declared.tables.Table.{Table}
use Rattle.p414_syntax.specs.Arguments.{action_number}
use Rattle.p414_sem.specs.State.{State, with_event as with_event14}
use Rattle.p414_sem.specs.Effects.{Moment as Moment14, acted_by}
use Rattle.p414_sem.specs.Signatures.{table_sig as sig14, actions_in_order}
use Rattle.p414_sem.specs.Controls.{Setting as Setting14, Chosen as Chosen14, keys_of, signature_number, fill_of as fill14, found as found14, chosen as chosen14, chosen_action, counted, noted, run_chosen as run14, application_of}
use Rattle.p416_syntax.specs.declared.controls.Action16.{Action16}
use Rattle.p416_syntax.specs.declared.controls.Table16.{Table16}
use Rattle.p416_syntax.specs.Names.{Name}
use Rattle.v1_core.specs.Frames.{Frame, Hit, Moment, with_inner, with_event}
use Rattle.v1_core.specs.Signatures.{table_sig as sig16, table_number}
use Rattle.v1_core.specs.Surroundings.{Surroundings, action_named}
use Rattle.v1_core.specs.Tables.{Chosen, key_values, fill_of as fill16, found as found16, chosen as chosen16, number_of, hit_of, run_action, run_chosen as run16, with_application, applied_by}
use Rattle.agreement_of_meanings.specs.Agrees.{NewNames, Corresponds}
use Rattle.agreement_of_meanings.specs.Tables.{ChosenAgree, only_action, IsAlike, AppliedAgree}
use Rattle.agreement_of_meanings.proofs.Written.{requests_by14, requests_by16}
use Rattle.agreement_of_meanings.proofs.Extracted.{numbers_by, state_like, frame_like}

-- the same entries, and the same best one

fills_same : (names : NewNames) (c : Setting14) (b : Surroundings) (act : Action16 → Moment → Moment) (t : Table) (u : Table16) (action : ℕ) (a : Action16) → IsAlike names c b act t u action a → fill16 b u ≡ fill14 c t
fills_same names c b act t u action a alike =
    ap₂ (λ (e : Entries) (n : ℕ). get_or e.tables n (record { entries = []; default = None })) alike.entries alike.number

found_same : (names : NewNames) (c : Setting14) (b : Surroundings) (act : Action16 → Moment → Moment) (t : Table) (u : Table16) (action : ℕ) (a : Action16) (s : State) (n : Moment) → IsAlike names c b act t u action a → key_values b n u ≡ keys_of c.decls s t → found16 b n u ≡ found14 c s t
found_same names c b act t u action a s n alike keys =
    ap (λ sig. best (filled_of sig (fill16 b u)) (key_values b n u)) alike.signature
    ∙ ap₂ (λ fill l. best (filled_of (sig14 c.decls t) fill) l) (fills_same names c b act t u action a alike) keys

-- the same action

chosen_alike : (names : NewNames) (c : Setting14) (b : Surroundings) (act : Action16 → Moment → Moment) (t : Table) (u : Table16) (action : ℕ) (a : Action16) (entry : Option ℕ) → IsAlike names c b act t u action a → ChosenAgree (only_action b u) (chosen14 c t entry) (chosen16 b u entry)
chosen_alike names c b act t u action a (Some entry) alike =
    rw (fills_same names c b act t u action a alike, alike.each_entry entry) (refl, refl, refl, refl)
chosen_alike names c b act t u action a None alike = by (fill14 c t).default refl alike.its_default where
  by : (d : Option DefaultCall) → (fill14 c t).default ≡ d → IfSome d (λ k. k.action ≡ 0) → ChosenAgree (only_action b u) (chosen14 c t None) (chosen16 b u None)
  by (Some d) e zero = rw (fills_same names c b act t u action a alike, e, zero) (refl, refl, refl, refl)
  by None e zero = rw (fills_same names c b act t u action a alike, e) alike.defaults

number_alike : (called : Name) (k : Option Chosen14) (q : Option Chosen) → ChosenAgree called k q → option_map number_of q ≡ option_map chosen_action k
number_alike called None None alike = refl
number_alike called None (Some q) alike = absurd alike
number_alike called (Some k) None alike = absurd alike
number_alike called (Some k) (Some q) alike = ap Some (alike.1 ∙ sym alike.0)

some_alike : (called : Name) (k : Option Chosen14) (q : Option Chosen) → ChosenAgree called k q → is_some q ≡ is_some k
some_alike called None None alike = refl
some_alike called None (Some q) alike = absurd alike
some_alike called (Some k) None alike = absurd alike
some_alike called (Some k) (Some q) alike = refl

some_of_map : {A B : Type 0} (f : A → B) (o : Option A) → is_some (option_map f o) ≡ is_some o
some_of_map f None = refl
some_of_map f (Some x) = refl

-- the application is noted in both

noted_alike : (names : NewNames) (m : Moment14) (n : Moment) (x y : ℕ) (entry : Option ℕ) (k : Option Chosen14) (q : Option Chosen) → x ≡ y → option_map number_of q ≡ option_map chosen_action k → Corresponds names m n → Corresponds names (noted y entry k m) (with_application x entry q n)
noted_alike names m n x y entry k q number same both =
    let event14 : Event = record { table = y; entry = entry; action = option_map chosen_action k } in
    let event16 : Event = record { table = x; entry = entry; action = option_map number_of q } in
    let events : event16 ≡ event14 = ap₂ (λ (i : ℕ) (o : Option ℕ). let e : Event = record { table = i; entry = entry; action = o } in e) number same in
    let s : State = with_event14 m.state event14 in
    let f : Frame = with_event event16 n.frame in
    record {
      packet = record {
        agrees = frame_like names s n.frame f refl refl refl (requests_by16 n.frame f refl refl refl refl)
            (state_like names m.state s n.frame refl (numbers_by m.state s refl refl refl refl refl) (requests_by14 m.state s refl refl refl refl) both.packet.agrees);
        unparsed = both.packet.unparsed;
        events = ap₂ (λ (l : List Event) (e : Event). l ++ e ∷ []) both.packet.events events;
        runs = both.packet.runs;
      };
      store = both.store;
    }

-- the action begins and ends

restored : (names : NewNames) (m : Moment14) (n : Moment) (b : Surroundings) (hit : Option Hit) → Corresponds names m n → (before : Moment) → Corresponds names m (record (with_inner before.frame.inner n) { hit = before.hit })
restored names m n b hit both before =
    let f : Frame = record n.frame { inner = before.frame.inner } in
    record {
      packet = record {
        agrees = frame_like names m.state n.frame f refl refl refl (requests_by16 n.frame f refl refl refl refl) both.packet.agrees;
        unparsed = both.packet.unparsed;
        events = both.packet.events;
        runs = both.packet.runs;
      };
      store = both.store;
    }

runs14 : (c : Setting14) (t : Table) (k : Chosen14) (action : ℕ) (m : Moment14) → k.action ≡ 0 → action_number c.decls (get_or (actions_in_order t) 0 []) ≡ Some action → run14 c t (Some k) m ≡ acted_by c.decls c.expanded c.rule action k.arguments m
runs14 c t k action m zero listed = rw (zero, listed) refl

counted_none : (direct : Option ℕ) (m : Moment14) → counted direct None m ≡ m
counted_none None m = refl
counted_none (Some counter) m = refl

-- what running the chosen action leaves
run_alike : (names : NewNames) (c : Setting14) (b : Surroundings) (act : Action16 → Moment → Moment) (t : Table) (u : Table16) (action : ℕ) (a : Action16) (entry : Option ℕ) (k : Option Chosen14) (q : Option Chosen) (m : Moment14) (n : Moment) → IsAlike names c b act t u action a → ChosenAgree (only_action b u) k q → (k ≡ None → entry ≡ None) → Corresponds names m n → Corresponds names (run14 c t k (counted (sig14 c.decls t).direct entry m)) (run16 b act (hit_of (sig14 c.decls t).direct entry) q n)
run_alike names c b act t u action a entry None None m n alike chosen misses both =
    subst (λ (x : Option ℕ). Corresponds names (counted (sig14 c.decls t).direct x m) n) (sym (misses refl))
    (subst (λ (x : Moment14). Corresponds names x n) (sym (counted_none (sig14 c.decls t).direct m)) both)
run_alike names c b act t u action a entry None (Some q) m n alike chosen misses both = absurd chosen
run_alike names c b act t u action a entry (Some k) None m n alike chosen misses both = absurd chosen
run_alike names c b act t u action a entry (Some k) (Some q) m n alike chosen misses both =
    let direct = (sig14 c.decls t).direct in
    let hit = hit_of direct entry in
    subst (λ (x : Moment14). Corresponds names x (run16 b act hit (Some q) n)) (sym (runs14 c t k action (counted direct entry m) chosen.0 alike.listed14))
    (subst (λ (x : Moment). Corresponds names (acted_by c.decls c.expanded c.rule action k.arguments (counted direct entry m)) x) (sym (ap₂ (λ (l : List ℕ) (o : Option Action16). run_action b act hit l o n) chosen.3 (ap (action_named b) chosen.2 ∙ alike.listed16)))
    (restored names _ _ b hit (alike.acts entry k.arguments m n both) n))

-- nothing but the moment's frame is changed by what runs
inner_kept : (b : Surroundings) (act : Action16 → Moment → Moment) (hit : Option Hit) (q : Option Chosen) (n : Moment) → (run16 b act hit q n).frame.inner ≡ n.frame.inner
inner_kept b act hit None n = refl
inner_kept b act hit (Some q) n = by (action_named b q.called) where
  by : (o : Option Action16) → (run_action b act hit q.arguments o n).frame.inner ≡ n.frame.inner
  by None = refl
  by (Some a) = refl

hit_kept : (b : Surroundings) (act : Action16 → Moment → Moment) (hit : Option Hit) (q : Option Chosen) (n : Moment) → (run16 b act hit q n).hit ≡ n.hit
hit_kept b act hit None n = refl
hit_kept b act hit (Some q) n = by (action_named b q.called) where
  by : (o : Option Action16) → (run_action b act hit q.arguments o n).hit ≡ n.hit
  by None = refl
  by (Some a) = refl

misses_none : (c : Setting14) (t : Table) (entry : Option ℕ) → chosen14 c t entry ≡ None → entry ≡ None
misses_none c t None e = refl
misses_none c t (Some entry) e = absurd (cc e)

by_entry : (names : NewNames) (c : Setting14) (b : Surroundings) (act : Action16 → Moment → Moment) (t : Table) (u : Table16) (action : ℕ) (a : Action16) (entry : Option ℕ) (m : Moment14) (n : Moment) → IsAlike names c b act t u action a → Corresponds names m n → AppliedAgree names n (application_of c t entry m) (applied_by b act u entry n)
by_entry names c b act t u action a entry m n alike both =
    let k = chosen14 c t entry in
    let q = chosen16 b u entry in
    let chosen = chosen_alike names c b act t u action a entry alike in
    let before = with_application (table_number b.setting.syntax u) entry q n in
    let direct16 = (sig16 b.setting.syntax b.locals b.scope u).direct in
    let after = noted_alike names m n (table_number b.setting.syntax u) (signature_number c.decls t) entry k q alike.number (number_alike (only_action b u) k q chosen) both in
    record {
      hit = refl;
      action = some_of_map _ q ∙ some_alike (only_action b u) k q chosen ∙ sym (some_of_map _ k);
      moment = subst (λ (d : Option ℕ). Corresponds names (run14 c t k (counted (sig14 c.decls t).direct entry (noted (signature_number c.decls t) entry k m))) (run16 b act (hit_of d entry) q before)) (sym (ap (λ (sig : TableSig). sig.direct) alike.signature))
          (run_alike names c b act t u action a entry k q (noted (signature_number c.decls t) entry k m) before alike chosen (misses_none c t entry) after);
      inner = inner_kept b act (hit_of direct16 entry) q before;
      entry = hit_kept b act (hit_of direct16 entry) q before;
    }

pub application_alike : (names : NewNames) (c : Setting14) (b : Surroundings) (act : Action16 → Moment → Moment) (t : Table) (u : Table16) (action : ℕ) (a : Action16) (m : Moment14) (n : Moment) → IsAlike names c b act t u action a → key_values b n u ≡ keys_of c.decls m.state t → Corresponds names m n → AppliedAgree names n (application_of c t (found14 c m.state t) m) (applied_by b act u (found16 b n u) n)
application_alike names c b act t u action a m n alike keys both =
    subst (λ (e : Option ℕ). AppliedAgree names n (application_of c t (found14 c m.state t) m) (applied_by b act u e n)) (sym (found_same names c b act t u action a m.state n alike keys))
    (by_entry names c b act t u action a (found14 c m.state t) m n alike both)
