-- An application by numbers is one by names.
use Rattle.std.proofs.Common.{◌≡◌, ℕ, zero, suc, ◌<◌, Bool, List, [], ◌∷◌, length, get_or, map, slice_get, All, Option, Some, None, Result, option_map, refl, sym, ap, ◌∙◌, subst}
use Rattle.std.specs.Prelude.{IfOk, bit_and, is_some, slice_index_or}
use Rattle.std.specs.List.{AllZip}
use Rattle.std.proofs.lemmas.Option.{get_or_from_slice_get, slice_get-map}
use Rattle.std.proofs.lemmas.Result.{IfOk-weaker}
use Rattle.state_store.specs.declared.shapes.Shape as objects
use Rattle.state_store.specs.State.{Contents}
use Rattle.match_core.specs.declared.entries.DefaultCall.{DefaultCall}
use Rattle.match_core.specs.declared.entries.TableFill.{TableFill}
use Rattle.match_core.specs.declared.entries.Entries.{Entries}
use Rattle.match_core.specs.declared.signatures.Signature.{Signature}
use Rattle.match_core.specs.declared.signatures.TableSig.{TableSig}
use Rattle.match_core.specs.Best.{Filled, best, entry_at}
use Rattle.match_core.specs.Stores.{shapes_of}
use Rattle.match_core.specs.Tables.{filled_of, filled_tables, tables_of}
use Rattle.p414_syntax.specs.declared.lexeme.Literal.{Literal}
use Rattle.p414_syntax.specs.declared.tables.Read.{Read}
use Rattle.p414_syntax.specs.declared.tables.ReadKey.{ReadKey}
use Rattle.p414_syntax.specs.declared.tables.ReadKey.TheVariants as read_key
use Rattle.p414_syntax.specs.declared.tables.Table.{Table}
use Rattle.p414_syntax.specs.declared.syntax.Decl.{Decl}
use Rattle.p414_syntax.specs.declared.syntax.Rule14.{Rule14}
use Rattle.p414_syntax.specs.Attributes.{reads_of, default_action_of}
use Rattle.p414_syntax.specs.Names.{Name}
use Rattle.p414_syntax.specs.Arguments.{action_number, actions}
use Rattle.p414_pipeline_check.proofs.Requesting.{action_within}
use Rattle.p414_sem.specs.State.{State, read}
use Rattle.p414_sem.specs.Slots.{Slot, standard, declared, slot_of}
use Rattle.p414_sem.specs.Expanded.{Expanded, IsExpanded}
use Rattle.p414_sem.specs.Effects.{Moment, acted_by}
use Rattle.p414_sem.specs.Controls.{Setting, Chosen, Applied, applied, application_of, chosen, chosen_name, counted, default_of, entry_of, fill_of, found, key_value, keys_of, no_fill, noted, program_default, run_chosen, signature_number}
use Rattle.p414_sem.specs.Signatures.{actions_in_order, signature14, table_of, table_sig, tables_in_order}
use Rattle.p414_layout.specs.declared.shape.Shape.{Shape}
use Rattle.p414_layout.specs.Shapes.{layout_of}
use Rattle.p414_slots.specs.Shown.{slot_in, kept_slot}
use Rattle.p414_state.specs.Packets.{Packet}
use Rattle.p414_act_run.specs.Moments.{IsMoved, moment}
use Rattle.p414_act_run.specs.Sums.{sums_in}
use Rattle.p414_ready_controls.specs.Nodes.{table_place}
use Rattle.p414_ready_tables.specs.declared.actions.ReadyActions.{ReadyActions}
use Rattle.p414_ready_tables.specs.declared.applied.ReadyApplied.{ReadyApplied}
use Rattle.p414_ready_tables.specs.declared.tables.ReadyTable.{ReadyTable}
use Rattle.p414_ready_tables.specs.Loaded.{Loaded, setting}
use Rattle.p414_ready_tables.specs.Tables.{AreReadyTables, FitsDirect, FitsTable, IsReadyTable, key_row, row_by, row_value, some_number}
use Rattle.p414_ready_tables.specs.Applied.{IsApplied, IsNamed}
use Rattle.p414_ready_tables.specs.internal.Acting.{AreActions, FitsActions, acted}
use Rattle.p414_ready_tables.specs.internal.Applying.{AreReady, IsCalled, IsRun, RanBy, after_call, call_by, first_default, found_by, noted_by}
use Rattle.p414_ready_tables.proofs.Acting.{direct_fits}
use Rattle.p414_ready_tables.proofs.Declared.{number_is, table_placed}

-- keys

slot_back : (s : Slot) → slot_in (kept_slot s) ≡ s
slot_back (standard which) = refl
slot_back (declared i e f) = refl

row_at : (ds : List Decl) (s : State) (k : ReadKey) (m : Option Literal) (kind : Name) → row_value s (row_by ds k m) ≡ key_value ds s (record { key = k; kind = kind; mask = m })
row_at ds s (read_key.Field f) None kind = ap (read s) (slot_back (slot_of ds f))
row_at ds s (read_key.Field f) (Some m) kind = ap (λ (slot : Slot). bit_and (read s slot) m.value) (slot_back (slot_of ds f))
row_at ds s (read_key.Instance i) m kind = refl

rows_are : (ds : List Decl) (s : State) (reads : List Read) → map (row_value s) (map (key_row ds) reads) ≡ map (key_value ds s) reads
rows_are ds s [] = refl
rows_are ds s (r ∷ reads) =
    ap (λ (n : ℕ). n ∷ map (row_value s) (map (key_row ds) reads)) (row_at ds s r.key r.mask r.kind)
    ∙ ap (λ (l : List ℕ). key_value ds s r ∷ l) (rows_are ds s reads)

-- what stands at a number in each list

zipped : {A B : Type 0} (R : A → B → Type 0) (xs : List A) (ys : List B) → AllZip R xs ys → (n : ℕ) (y : B) → slice_get ys n ≡ Some y → (x : A) × (slice_get xs n ≡ Some x) × R x y
zipped R [] [] all n y e = absurd (cc e)
zipped R [] (z ∷ ys) all n y e = absurd all
zipped R (x ∷ xs) [] all n y e = absurd all
zipped R (x ∷ xs) (z ∷ ys) all zero y e = let same : z ≡ y = cc e in (x, refl, subst (R x) same all.0)
zipped R (x ∷ xs) (z ∷ ys) all (suc n) y e = zipped R xs ys all.1 n y e

filled_at : (sigs : List TableSig) (fills : List TableFill) (n : ℕ) (f : Filled) (fill : TableFill) (sig : TableSig) → slice_get (filled_tables sigs fills) n ≡ Some f → slice_get fills n ≡ Some fill → slice_get sigs n ≡ Some sig → f ≡ filled_of sig fill
filled_at [] fills n f fill sig e g h = absurd (cc h)
filled_at (s ∷ sigs) [] n f fill sig e g h = absurd (cc g)
filled_at (s ∷ sigs) (x ∷ fills) zero f fill sig e g h =
    let first : filled_of s x ≡ f = cc e in
    let is_fill : x ≡ fill = cc g in
    let is_sig : s ≡ sig = cc h in
    sym first ∙ (ap (λ (y : TableFill). filled_of s y) is_fill ∙ ap (λ (t : TableSig). filled_of t fill) is_sig)
filled_at (s ∷ sigs) (x ∷ fills) (suc n) f fill sig e g h = filled_at sigs fills n f fill sig e g h

sig_at : (ds : List Decl) (n : ℕ) (t : Table) → slice_get (tables_in_order ds) n ≡ Some t → slice_get (signature14 ds).tables n ≡ Some (table_sig ds t)
unfolding signature14
sig_at ds n t e = slice_get-map (table_sig ds) (tables_in_order ds) n ∙ ap (option_map (table_sig ds)) e

-- the action that ran

number_named : (ds : List Decl) (numbers : List ℕ) (names : List Name) (k n : ℕ) → map some_number numbers ≡ map (action_number ds) names → slice_get numbers k ≡ Some n → action_number ds (get_or names k []) ≡ Some n
number_named ds [] names k n e f = absurd (cc f)
number_named ds (m ∷ numbers) [] k n e f = absurd (cc e)
number_named ds (m ∷ numbers) (x ∷ names) zero n e f =
    let here : Some m ≡ action_number ds x = cc e in sym here ∙ f
number_named ds (m ∷ numbers) (x ∷ names) (suc k) n e f =
    let rest : map some_number numbers ≡ map (action_number ds) names = cc e in number_named ds numbers names k n rest f

named_by : (ds : List Decl) (a : ReadyActions) (t : Table) (r : ReadyTable) → IsReadyTable ds t r → (k : Option Chosen) (ran : Option ℕ) → RanBy a r.actions k ran → IsNamed ds ran (option_map (chosen_name t) k)
named_by ds a t r is None None by = _
named_by ds a t r is (Some k) (Some n) by = number_named ds r.actions (actions_in_order t) k.action n is.actions by.0
named_by ds a t r is None (Some n) by = absurd by
named_by ds a t r is (Some k) None by = absurd by

run_there : (c : Setting) (t : Table) (k : Chosen) (n : ℕ) (m : Moment) → action_number c.decls (chosen_name t k) ≡ Some n → run_chosen c t (Some k) m ≡ acted_by c.decls c.expanded c.rule n k.arguments m
run_there c t k n m e = rw e refl

ran_is : (c : Loaded) (a : ReadyActions) (t : Table) (r : ReadyTable) (x : Expanded) → AreActions c.decls a → a.rule ≡ c.rule → IsReadyTable c.decls t r → IsExpanded c.decls x → (k : Option Chosen) (ran : Option ℕ) (m : Moment) → RanBy a r.actions k ran → after_call a ran k m ≡ run_chosen (setting c x) t k m
ran_is c a t r x are rule is ex None None m by = refl
ran_is c a t r x are rule is ex (Some k) (Some n) m by =
    let name = chosen_name t k in
    let named : action_number c.decls name ≡ Some n = number_named c.decls r.actions (actions_in_order t) k.action n is.actions by.0 in
    are.mean n by.1 x ex (action_within c.decls name n named) (sums_in a.calculations) (are.sums x ex) a.rule k.arguments m
    ∙ (ap (λ (rule : Rule14). acted_by c.decls x rule n k.arguments m) rule
    ∙ sym (run_there (setting c x) t k n m named))
ran_is c a t r x are rule is ex None (Some n) m by = absurd by
ran_is c a t r x are rule is ex (Some k) None m by = absurd by

-- the call that is made

default_there : (c : Setting) (t : Table) (d : DefaultCall) → (fill_of c t).default ≡ Some d → chosen c t None ≡ Some (default_of d)
default_there c t d e = rw e refl

no_default : (c : Setting) (t : Table) → (fill_of c t).default ≡ None → chosen c t None ≡ option_map (program_default c.decls t) (default_action_of t.attributes)
no_default c t e = rw e refl

on_miss : (c : Setting) (t : Table) (default o : Option DefaultCall) → (fill_of c t).default ≡ o → option_map default_of default ≡ option_map (program_default c.decls t) (default_action_of t.attributes) → chosen c t None ≡ first_default o default
on_miss c t default (Some d) e is = default_there c t d e
on_miss c t default None e is = no_default c t e ∙ sym is

call_is : (c : Setting) (t : Table) (fill : TableFill) (default : Option DefaultCall) (entry : Option ℕ) → fill_of c t ≡ fill → option_map default_of default ≡ option_map (program_default c.decls t) (default_action_of t.attributes) → chosen c t entry ≡ call_by fill default entry
call_is c t fill default (Some n) e is = ap (λ (f : TableFill). Some (entry_of (entry_at f.entries n))) e
call_is c t fill default None e is = on_miss c t default fill.default (ap (λ (f : TableFill). f.default) e) is

-- the application

applied_there : (c : Setting) (name : Name) (t : Table) (m : Moment) → table_of c.decls name ≡ Some t → applied c name m ≡ application_of c t (found c m.state t) m
applied_there c name t m e = rw e refl

abbrev left_by : Setting → Table → Option ℕ → Moment → Option Chosen → ℕ → Option ℕ → Moment
left_by c t entry m k number direct = run_chosen c t k (counted direct entry (noted number entry k m))

module _ (c : Loaded) (a : ReadyActions) (x : Expanded) (ex : IsExpanded c.decls x) (are : AreActions c.decls a) (rule : a.rule ≡ c.rule) where
  application_is : (n : ℕ) (t : Table) (r : ReadyTable) (fill : TableFill) (entry : Option ℕ) (ran : ReadyApplied) (old new : Packet) (before behind : Contents) → IsReadyTable c.decls t r → signature_number c.decls t ≡ n → fill_of (setting c x) t ≡ fill → IsRun a n r fill entry ran old new before behind → IsApplied c.decls ran (moment new behind) (application_of (setting c x) t entry (moment old before))
  application_is n t r fill entry ran old new before behind is number fill_is run = record {
    hit = run.hit;
    action =
        subst (λ (k : Option Chosen). IsNamed c.decls ran.action (option_map (chosen_name t) k)) (sym call)
        (named_by c.decls a t r is (call_by fill r.default entry) ran.action run.ran_by);
    moment =
        run.moved.moves
        ∙ (ran_is c a t r x are rule is ex (call_by fill r.default entry) ran.action (noted_by n r fill entry (moment old before)) run.ran_by
        ∙ (ap (λ (k : Option Chosen). left_by (setting c x) t entry (moment old before) k n r.direct) (sym call)
        ∙ (ap (λ (j : ℕ). left_by (setting c x) t entry (moment old before) (chosen (setting c x) t entry) j r.direct) (sym number)
        ∙ ap (λ (d : Option ℕ). left_by (setting c x) t entry (moment old before) (chosen (setting c x) t entry) (signature_number c.decls t) d) is.direct)));
  } where
    call : chosen (setting c x) t entry ≡ call_by fill r.default entry
    call = call_is (setting c x) t fill r.default entry fill_is is.default

found_is : (c : Setting) (s : State) (t : Table) (r : ReadyTable) (f : Filled) (fill : TableFill) → IsReadyTable c.decls t r → f ≡ filled_of (table_sig c.decls t) fill → fill_of c t ≡ fill → found_by s r f ≡ found c s t
found_is c s t r f fill is filled fill_is =
    ap (λ (g : Filled). best g (map (row_value s) r.keys)) (filled ∙ ap (filled_of (table_sig c.decls t)) (sym fill_is))
    ∙ ap (best (filled_of (table_sig c.decls t) (fill_of c t)))
    (ap (map (row_value s)) is.keys ∙ rows_are c.decls s (reads_of t.attributes))

pub applied_is : (c : Loaded) (tables : List ReadyTable) (filled : List Filled) (a : ReadyActions) (n : ℕ) (r : ReadyTable) (f : Filled) (fill : TableFill) (entry : Option ℕ) (ran : ReadyApplied) (old new : Packet) (before behind : Contents) → AreReady c tables filled a → slice_get tables n ≡ Some r → slice_get filled n ≡ Some f → slice_get c.entries.tables n ≡ Some fill → entry ≡ found_by old.state r f → IsRun a n r fill entry ran old new before behind → (x : Expanded) → IsExpanded c.decls x → (name : Name) → n ≡ table_place c.decls name → IsApplied c.decls ran (moment new behind) (applied (setting c x) name (moment old before))
applied_is c tables filled a n r f fill entry ran old new before behind are at_table at_filled at_fill entry_is run x ex name place =
    subst (IsApplied c.decls ran (moment new behind))
    (sym (applied_there (setting c x) name t (moment old before) there
    ∙ ap (λ (o : Option ℕ). application_of (setting c x) t o (moment old before)) (sym found_so)))
    (application_is c a x ex are.actions_are are.rule_is n t r fill entry ran old new before behind is number fill_is run) where
      table : (t : Table) × (slice_get (tables_in_order c.decls) n ≡ Some t) × IsReadyTable c.decls t r
      table = zipped (IsReadyTable c.decls) (tables_in_order c.decls) tables are.tables_are n r at_table

      t : Table
      t = table.0

      is : IsReadyTable c.decls t r
      is = table.2

      there : table_of c.decls name ≡ Some t
      there = table_placed c.decls n t name table.1 place

      number : signature_number c.decls t ≡ n
      number = number_is c.decls n t name there place

      fill_is : fill_of (setting c x) t ≡ fill
      fill_is =
          ap (λ (k : ℕ). slice_index_or c.entries.tables k no_fill) number
          ∙ get_or_from_slice_get c.entries.tables n fill no_fill at_fill

      filled_is : f ≡ filled_of (table_sig c.decls t) fill
      filled_is =
          filled_at (signature14 c.decls).tables c.entries.tables n f fill (table_sig c.decls t)
          (sym (ap (λ (l : List Filled). slice_get l n) are.filled_are) ∙ at_filled) at_fill (sig_at c.decls n t table.1)

      found_so : entry ≡ found (setting c x) old.state t
      found_so = entry_is ∙ found_is (setting c x) old.state t r f fill is filled_is fill_is

-- the parts of an application

pub still_fit : (a : ReadyActions) (old mid : Packet) (s t : Contents) (due : Moment) → IsMoved old mid s t due → FitsActions old.layout s.shapes a → FitsActions mid.layout t.shapes a
still_fit a old mid s t due moved fits =
    subst (λ (l : List Shape). FitsActions l t.shapes a) (sym moved.layout)
    (subst (λ (k : List objects.Shape). FitsActions old.layout k a) (sym moved.shapes) fits)

pub run_made : (a : ReadyActions) (number : ℕ) (r : ReadyTable) (fill : TableFill) (entry : Option ℕ) (hit : Bool) (ran : Option ℕ) (old mid new : Packet) (s t u : Contents) → hit ≡ is_some entry → IsMoved old mid s t (noted_by number r fill entry (moment old s)) → IsCalled a r (call_by fill r.default entry) ran mid new t u → IsRun a number r fill entry (record { hit = hit; action = ran }) old new s u
run_made a number r fill entry hit ran old mid new s t u is noted_so called = record {
  hit = is;
  ran_by = called.ran_by;
  moved =
      record {
        layout = called.moved.layout ∙ noted_so.layout;
        shapes = called.moved.shapes ∙ noted_so.shapes;
        moves = called.moved.moves ∙ ap (after_call a ran (call_by fill r.default entry)) noted_so.moves;
      };
}

-- of tables as they are kept

pub ready_made : (decls taken : List Decl) (signature : Signature) (entries : Entries) (shapes : List objects.Shape) (tables seen : List ReadyTable) (filled : List Filled) (a : ReadyActions) → taken ≡ decls → signature ≡ signature14 decls → shapes ≡ shapes_of signature entries → seen ≡ tables → AreReadyTables taken tables → filled ≡ tables_of signature entries → AreActions decls a → FitsActions (layout_of decls) shapes a → All (FitsTable shapes) seen → AreReady (record { decls = decls; rule = a.rule; entries = entries }) tables filled a
ready_made decls taken signature entries shapes tables seen filled a same is shapes_are seen_are tables_are filled_are actions_are actions_fit tables_fit = record {
  rule_is = refl;
  tables_are = subst (λ (ds : List Decl). AreReadyTables ds tables) same tables_are;
  filled_are = filled_are ∙ ap (λ (g : Signature). tables_of g entries) is;
  actions_are = actions_are;
  actions_fit = subst (λ (k : List objects.Shape). FitsActions (layout_of decls) k a) all_shapes actions_fit;
  tables_fit =
      subst (λ (l : List ReadyTable). All (FitsTable (shapes_of (signature14 decls) entries)) l) seen_are
      (subst (λ (k : List objects.Shape). All (FitsTable k) seen) all_shapes tables_fit);
} where
  all_shapes : shapes ≡ shapes_of (signature14 decls) entries
  all_shapes = shapes_are ∙ ap (λ (g : Signature). shapes_of g entries) is

pub actions_fit_seen : (v now : Loaded) (tables : List ReadyTable) (filled : List Filled) (a : ReadyActions) (p : Packet) (s : Contents) → v ≡ now → AreReady v tables filled a → p.layout ≡ layout_of now.decls → s.shapes ≡ shapes_of (signature14 now.decls) now.entries → FitsActions p.layout s.shapes a
actions_fit_seen v now tables filled a p s same are layout shapes =
    subst (λ (l : List Shape). FitsActions l s.shapes a) (sym layout)
    (subst (λ (k : List objects.Shape). FitsActions (layout_of now.decls) k a) (sym shapes)
    (subst (λ (c : Loaded). AreReady c tables filled a) same are).actions_fit)

pub direct_fits_seen : (v now : Loaded) (tables : List ReadyTable) (filled : List Filled) (a : ReadyActions) (n : ℕ) (r : ReadyTable) (s : Contents) → v ≡ now → AreReady v tables filled a → slice_get tables n ≡ Some r → s.shapes ≡ shapes_of (signature14 now.decls) now.entries → FitsDirect s.shapes r.direct
direct_fits_seen v now tables filled a n r s same are at shapes =
    subst (λ (k : List objects.Shape). FitsDirect k r.direct) (sym shapes)
    (direct_fits (shapes_of (signature14 now.decls) now.entries) tables n r
    (subst (λ (c : Loaded). AreReady c tables filled a) same are).tables_fit at)

abbrev AppliesAs : Loaded → ℕ → ReadyApplied → Moment → Moment → Type 0
AppliesAs c n ran m left =
    (x : Expanded) → IsExpanded c.decls x → (name : Name) → n ≡ table_place c.decls name
    → IsApplied c.decls ran left (applied (setting c x) name m)

abbrev RunSo : ReadyActions → ℕ → ReadyTable → TableFill → Option ℕ → Packet → Packet → Contents → Contents → ReadyApplied → Type 0
RunSo a n r fill entry old new before behind ran = IsRun a n r fill entry ran old new before behind

pub all_applied : {E : Type 0} (result : Result ReadyApplied E) (v now : Loaded) (tables : List ReadyTable) (filled : List Filled) (a : ReadyActions) (n : ℕ) (r : ReadyTable) (f : Filled) (fill : TableFill) (entry : Option ℕ) (old new : Packet) (before behind : Contents) → v ≡ now → AreReady v tables filled a → slice_get tables n ≡ Some r → slice_get filled n ≡ Some f → slice_get v.entries.tables n ≡ Some fill → entry ≡ found_by old.state r f → IfOk result (RunSo a n r fill entry old new before behind) → IfOk result (λ (ran : ReadyApplied). AppliesAs now n ran (moment old before) (moment new behind))
all_applied result v now tables filled a n r f fill entry old new before behind same are at_table at_filled at_fill entry_is run =
    IfOk-weaker result (RunSo a n r fill entry old new before behind)
    (λ (ran : ReadyApplied). AppliesAs now n ran (moment old before) (moment new behind))
    (λ ran one.
    subst (λ (c : Loaded). AppliesAs c n ran (moment old before) (moment new behind)) same
    (applied_is v tables filled a n r f fill entry ran old new before behind are at_table at_filled at_fill entry_is one)) run
