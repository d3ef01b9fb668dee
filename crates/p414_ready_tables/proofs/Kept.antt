-- Tables are made as they are declared.
use Rattle.std.proofs.Common.{◌≡◌, ℕ, zero, suc, ◌+◌, ◌-◌, ◌<◌, ◌≤◌, min, Bool, true, false, cond, List, [], ◌∷◌, ◌++◌, length, get_or, take, drop, map, position, slice_get, Option, Some, None, Result, option_map, ℤ, pos, negsuc, neg_ℤ, refl, sym, ap, ap₂, ◌∙◌, subst, append_assoc, append-nil, drop-cons, add-one, arith}
use Rattle.std.specs.Prelude.{IfOk, unwrap_or}
use Rattle.std.specs.Option.{option_map_or}
use Rattle.std.specs.List.{AllZip, position_from}
use Rattle.std.specs.Str.{bytes_eq}
use Rattle.std.proofs.lemmas.Iterator.Adapters.{position_from-zero}
use Rattle.std.proofs.lemmas.List.{drop_all, get_or-map, length-map, map-append, take_all, take_more}
use Rattle.std.proofs.lemmas.List.Quantifiers.{position-Some}
use Rattle.std.proofs.lemmas.Option.{get_or_from_slice_get, slice_get-map}
use Rattle.std.proofs.lemmas.Result.{IfOk-weaker}
use Rattle.std.proofs.lemmas.Slice.Eq.{bytes_eq-Decides}
use Rattle.match_core.specs.declared.entries.DefaultCall.{DefaultCall}
use Rattle.match_core.specs.declared.signatures.ActionSig.{ActionSig}
use Rattle.match_core.specs.declared.signatures.TableSig.{TableSig}
use Rattle.p414_syntax.specs.declared.parts.Number.{Number}
use Rattle.p414_syntax.specs.declared.syntax.Decl.{Decl}
use Rattle.p414_syntax.specs.declared.syntax.Decl.TheVariants as decl
use Rattle.p414_syntax.specs.declared.syntax.Sort.TheVariants as sort
use Rattle.p414_syntax.specs.declared.tables.Table.{Table}
use Rattle.p414_syntax.specs.Attributes.{reads_of, default_action_of, default_arguments_of}
use Rattle.p414_syntax.specs.Names.{Name, declaration_of, find_name}
use Rattle.p414_syntax.specs.Arguments.{action_number}
use Rattle.p414_sem.specs.Controls.{Chosen, action_in_table, default_of, kept_arguments, program_default}
use Rattle.p414_sem.specs.Signatures.{action_sig, actions_in_order, direct_counter, parameter_widths, signature14, table_of, table_sig, tables_in_order}
use Rattle.p414_sem.specs.Wholes.{whole, wrapped}
use Rattle.p414_wholes.specs.declared.whole.Whole.{Whole}
use Rattle.p414_wholes.specs.declared.whole.Whole.TheVariants as number
use Rattle.p414_wholes.specs.Shown.{whole_in, kept_whole}
use Rattle.p414_ready_tables.specs.declared.tables.KeyRow.{KeyRow}
use Rattle.p414_ready_tables.specs.declared.tables.ReadyTable.{ReadyTable}
use Rattle.p414_ready_tables.specs.Tables.{AreReadyTables, IsReadyTable, key_row, some_number}
use Rattle.p414_ready_tables.specs.internal.Defaults.{IsCall, IsDefault, action_name, numbers_in, sig_number, widths_at}
use Rattle.p414_ready_tables.proofs.Declared.{declared_table, table_itself}

next_items : {X : Type 0} (xs : List X) (i : ℕ) (d : X) → i < length xs → drop i xs ≡ get_or xs i d ∷ drop (i + 1) xs
next_items xs i d h = rw (add-one, drop-cons xs i d h) refl

-- numbers as they are written

pub minus_none : (value : ℕ) → value ≡ 0 → number.Plus 0 ≡ kept_whole (neg_ℤ (pos value))
minus_none zero e = refl
minus_none (suc n) e = absurd (cc e)

pub minus_some : (value : ℕ) → (value ≡ 0 → ⊥) → number.Minus (value - 1) ≡ kept_whole (neg_ℤ (pos value))
minus_some zero some = absurd (some refl)
minus_some (suc n) some = let same : suc n - 1 ≡ n = omega arith in ap number.Minus same

whole_back : (z : ℤ) → whole_in (kept_whole z) ≡ z
whole_back (pos n) = refl
whole_back (negsuc n) = refl

pub whole_kept : (width : ℕ) (n : Number) (w : Whole) (value : ℕ) → value ≡ wrapped width (whole_in w) → w ≡ kept_whole (whole n) → value ≡ wrapped width (whole n)
whole_kept width n w value is kept = is ∙ ap (wrapped width) (ap whole_in kept ∙ whole_back (whole n))

-- arguments

pub one_kept : (widths : List ℕ) (numbers : List Number) (i d : ℕ) (e : Number) (old new all : List ℕ) (value : ℕ) → i < length widths → i < length numbers → value ≡ wrapped (get_or widths i d) (whole (get_or numbers i e)) → new ≡ old ++ value ∷ [] → old ++ kept_arguments (drop i widths) (drop i numbers) ≡ all → new ++ kept_arguments (drop (i + 1) widths) (drop (i + 1) numbers) ≡ all
one_kept widths numbers i d e old new all value lt lt2 is put same =
    ap (λ (l : List ℕ). l ++ kept_arguments (drop (i + 1) widths) (drop (i + 1) numbers)) put
    ∙ (append_assoc old (value ∷ []) (kept_arguments (drop (i + 1) widths) (drop (i + 1) numbers))
    ∙ (ap (λ (v : ℕ). old ++ v ∷ kept_arguments (drop (i + 1) widths) (drop (i + 1) numbers)) is
    ∙ (sym (ap₂ (λ (ws : List ℕ) (ns : List Number). old ++ kept_arguments ws ns) (next_items widths i d lt) (next_items numbers i e lt2)) ∙ same)))

none_given : (widths : List ℕ) → kept_arguments widths [] ≡ []
none_given [] = refl
none_given (w ∷ widths) = refl

past : (widths : List ℕ) (numbers : List Number) (n : ℕ) → min (length widths) (length numbers) ≤ n → kept_arguments (drop n widths) (drop n numbers) ≡ []
past [] numbers zero h = refl
past [] numbers (suc n) h = refl
past (w ∷ widths) [] zero h = refl
past (w ∷ widths) [] (suc n) h = none_given (drop n widths)
past (w ∷ widths) (x ∷ numbers) zero h = absurd (omega (arith, h))
past (w ∷ widths) (x ∷ numbers) (suc n) h = past widths numbers n (omega (arith, h))

pub all_kept : (widths : List ℕ) (numbers : List Number) (n : ℕ) (kept : List ℕ) → min (length widths) (length numbers) ≤ n → kept ++ kept_arguments (drop n widths) (drop n numbers) ≡ kept_arguments widths numbers → kept ≡ kept_arguments widths numbers
all_kept widths numbers n kept h same =
    let none : kept_arguments (drop n widths) (drop n numbers) ≡ [] = past widths numbers n h in
    sym (ap (λ (l : List ℕ). kept ++ l) none ∙ append-nil kept) ∙ same

-- the place of an action

name_same : (xs ys : Name) → xs ≡ ys → bytes_eq xs ys ≡ true
name_same xs ys e = (bytes_eq-Decides xs ys).1 e

name_is : (xs ys : Name) → bytes_eq xs ys ≡ true → xs ≡ ys
name_is xs ys e = (bytes_eq-Decides xs ys).0 e

-- the place of a name among those of these actions, of which the first stands at a place
abbrev pub found_from : Name → ℕ → List ActionSig → Option ℕ
found_from name place actions = position_from (bytes_eq name) place (map action_name actions)

pub found_first : (actions : List ActionSig) (name : Name) → found_from name 0 actions ≡ find_name (map action_name actions) name
found_first actions name = sym (position_from-zero (bytes_eq name) (map action_name actions))

pub found_past : (actions : List ActionSig) (name : Name) (i : ℕ) (d : ActionSig) (o : Option ℕ) → i < length actions → bytes_eq name (get_or actions i d).name ≡ false → found_from name i (drop i actions) ≡ o → found_from name (i + 1) (drop (i + 1) actions) ≡ o
found_past actions name i d o lt other is =
    sym (ap (found_from name i) (next_items actions i d lt)
    ∙ ap (λ (b : Bool). cond b (Some i) (found_from name (i + 1) (drop (i + 1) actions))) other)
    ∙ is

pub found_here : (actions : List ActionSig) (name : Name) (i : ℕ) (d : ActionSig) (o : Option ℕ) → i < length actions → bytes_eq name (get_or actions i d).name ≡ true → found_from name i (drop i actions) ≡ o → Some i ≡ o
found_here actions name i d o lt yes_ is =
    sym (ap (found_from name i) (next_items actions i d lt)
    ∙ ap (λ (b : Bool). cond b (Some i) (found_from name (i + 1) (drop (i + 1) actions))) yes_)
    ∙ is

pub found_nowhere : (actions : List ActionSig) (name : Name) (i : ℕ) (o : Option ℕ) → length actions ≤ i → found_from name i (drop i actions) ≡ o → None ≡ o
found_nowhere actions name i o le is = sym (ap (found_from name i) (drop_all i actions le)) ∙ is

-- numbers of actions

pub one_numbered : (ds : List Decl) (actions : List ActionSig) (i n : ℕ) (d : ActionSig) (old new : List ℕ) → i < length actions → Some n ≡ action_number ds (get_or actions i d).name → new ≡ old ++ n ∷ [] → map some_number old ++ map (sig_number ds) (drop i actions) ≡ map (sig_number ds) actions → map some_number new ++ map (sig_number ds) (drop (i + 1) actions) ≡ map (sig_number ds) actions
one_numbered ds actions i n d old new lt is put same =
    ap (λ (l : List ℕ). map some_number l ++ map (sig_number ds) (drop (i + 1) actions)) put
    ∙ (ap (λ (l : List (Option ℕ)). l ++ map (sig_number ds) (drop (i + 1) actions)) (map-append some_number old (n ∷ []))
    ∙ (append_assoc (map some_number old) (Some n ∷ []) (map (sig_number ds) (drop (i + 1) actions))
    ∙ (ap (λ (o : Option ℕ). map some_number old ++ o ∷ map (sig_number ds) (drop (i + 1) actions)) is
    ∙ (sym (ap (λ (l : List ActionSig). map some_number old ++ map (sig_number ds) l) (next_items actions i d lt)) ∙ same))))

numbers_same : (ds : List Decl) (names : List Name) → map (sig_number ds) (map (action_sig ds) names) ≡ map (action_number ds) names
numbers_same ds [] = refl
numbers_same ds (name ∷ names) = ap (λ (l : List (Option ℕ)). action_number ds name ∷ l) (numbers_same ds names)

-- defaults

names_same : (ds : List Decl) (names : List Name) → map action_name (map (action_sig ds) names) ≡ names
names_same ds [] = refl
names_same ds (name ∷ names) = ap (λ (l : List Name). name ∷ l) (names_same ds names)

abbrev no_action : ActionSig
no_action = record { name = []; widths = [] }

widths_named : (ds : List Decl) (names : List Name) (name : Name) (place : ℕ) → find_name names name ≡ Some place → widths_at (map (action_sig ds) names) place ≡ option_map_or (parameter_widths ds) (action_number ds name) []
widths_named ds names name place e =
    let there = position-Some (bytes_eq name) names place [] e in
    ap (λ (a : ActionSig). a.widths) (get_or-map (action_sig ds) names place [] no_action there.0)
    ∙ ap (λ (n : Name). option_map_or (parameter_widths ds) (action_number ds n) []) (sym (name_is name (get_or names place []) there.1))

call_is : (ds : List Decl) (t : Table) (name : Name) (call : DefaultCall) → IsCall (map (action_sig ds) (actions_in_order t)) name (numbers_in t) call → default_of call ≡ program_default ds t name
call_is ds t name call is =
    let found : find_name (actions_in_order t) name ≡ Some call.action =
    ap (λ (l : List Name). find_name l name) (sym (names_same ds (actions_in_order t))) ∙ is.found in
    let place : call.action ≡ action_in_table t name =
    sym (ap (λ (o : Option ℕ). unwrap_or o (length (actions_in_order t))) found) in
    let arguments : call.arguments ≡ kept_arguments (option_map_or (parameter_widths ds) (action_number ds name) []) (numbers_in t) =
    is.arguments ∙ ap (λ (ws : List ℕ). kept_arguments ws (numbers_in t)) (widths_named ds (actions_in_order t) name call.action found) in
    ap₂ chosen place arguments where
      chosen : ℕ → List ℕ → Chosen
      chosen action given = record { action = action; arguments = given }

default_is : (ds : List Decl) (t : Table) (o : Option Name) (made : Option DefaultCall) → IsDefault (map (action_sig ds) (actions_in_order t)) (numbers_in t) o made → option_map default_of made ≡ option_map (program_default ds t) o
default_is ds t None None is = refl
default_is ds t (Some name) (Some call) is = ap (λ (k : Chosen). Some k) (call_is ds t name call is)
default_is ds t None (Some call) is = absurd is
default_is ds t (Some name) None is = absurd is

-- a table

pub table_made : (ds : List Decl) (t : Table) (sig : TableSig) (keys : List KeyRow) (actions : List ℕ) (default : Option DefaultCall) → keys ≡ map (key_row ds) (reads_of t.attributes) → map some_number actions ≡ map (sig_number ds) sig.actions → IsDefault sig.actions (numbers_in t) (default_action_of t.attributes) default → sig ≡ table_sig ds t → IsReadyTable ds t (record { keys = keys; actions = actions; direct = sig.direct; default = default })
table_made ds t sig keys actions default keys_are actions_are default_made is = record {
  keys = keys_are;
  actions =
      actions_are
      ∙ (ap (λ (s : TableSig). map (sig_number ds) s.actions) is ∙ numbers_same ds (actions_in_order t));
  direct = ap (λ (s : TableSig). s.direct) is;
  default =
      default_is ds t (default_action_of t.attributes) default
      (subst (λ (s : TableSig). IsDefault s.actions (numbers_in t) (default_action_of t.attributes) default) is default_made);
}

-- the table with a name
abbrev pub MadeSo : List Decl → TableSig → ReadyTable → Type 0
MadeSo ds sig made = (t : Table) → table_of ds t.name ≡ Some t → sig ≡ table_sig ds t → IsReadyTable ds t made

named_made : (ds : List Decl) (sig : TableSig) (name : Name) (table : Table) (made : ReadyTable) → declaration_of sort.Table ds name ≡ Some (decl.Table table) → name ≡ sig.name → (sig ≡ table_sig ds table → IsReadyTable ds table made) → MadeSo ds sig made
named_made ds sig name table made at name_is made_so t there is =
    let same_name : name ≡ t.name = name_is ∙ ap (λ (s : TableSig). s.name) is in
    let found : table_of ds t.name ≡ Some table = sym (ap (table_of ds) same_name) ∙ declared_table ds name table at in
    let same : table ≡ t = cc (found, there) in
    subst (λ (u : Table). (sig ≡ table_sig ds u → IsReadyTable ds u made)) same made_so is

pub all_made : {E : Type 0} (result : Result ReadyTable E) (ds : List Decl) (sig : TableSig) (name : Name) (table : Table) → declaration_of sort.Table ds name ≡ Some (decl.Table table) → name ≡ sig.name → IfOk result (λ (made : ReadyTable). sig ≡ table_sig ds table → IsReadyTable ds table made) → IfOk result (MadeSo ds sig)
all_made result ds sig name table at name_is made =
    IfOk-weaker result (λ (made : ReadyTable). sig ≡ table_sig ds table → IsReadyTable ds table made) (MadeSo ds sig)
    (λ one made_so. named_made ds sig name table one at name_is made_so) made

-- all tables

one_more : {A B : Type 0} (R : A → B → Type 0) (xs : List A) (ys : List B) (x : A) (y : B) → AllZip R xs ys → R x y → AllZip R (xs ++ x ∷ []) (ys ++ y ∷ [])
one_more R [] [] x y all r = (r, _)
one_more R [] (z ∷ ys) x y all r = absurd all
one_more R (w ∷ xs) [] x y all r = absurd all
one_more R (w ∷ xs) (z ∷ ys) x y all r = (all.0, one_more R xs ys x y all.1 r)

there_is : {X : Type 0} (xs : List X) (n : ℕ) → n < length xs → (x : X) × (slice_get xs n ≡ Some x)
there_is [] n lt = absurd (omega (arith, lt))
there_is (x ∷ xs) zero lt = (x, refl)
there_is (x ∷ xs) (suc n) lt = there_is xs n (omega (arith, lt))

as_many : (ds : List Decl) (sigs : List TableSig) → sigs ≡ (signature14 ds).tables → length sigs ≡ length (tables_in_order ds)
unfolding signature14
as_many ds sigs is = ap length is ∙ length-map (tables_in_order ds) (table_sig ds)

sig_is : (ds : List Decl) (sigs : List TableSig) (n : ℕ) (d : TableSig) (t : Table) → sigs ≡ (signature14 ds).tables → slice_get (tables_in_order ds) n ≡ Some t → get_or sigs n d ≡ table_sig ds t
unfolding signature14
sig_is ds sigs n d t is e =
    get_or_from_slice_get sigs n (table_sig ds t) d
    (ap (λ (l : List TableSig). slice_get l n) is
    ∙ (slice_get-map (table_sig ds) (tables_in_order ds) n ∙ ap (option_map (table_sig ds)) e))

pub no_tables : (ds : List Decl) → AllZip (IsReadyTable ds) (take 0 (tables_in_order ds)) []
no_tables ds = _

pub one_ready : (ds : List Decl) (sigs : List TableSig) (i : ℕ) (d : TableSig) (old new : List ReadyTable) (made : ReadyTable) → sigs ≡ (signature14 ds).tables → i < length sigs → ((t : Table) → table_of ds t.name ≡ Some t → get_or sigs i d ≡ table_sig ds t → IsReadyTable ds t made) → new ≡ old ++ made ∷ [] → AllZip (IsReadyTable ds) (take i (tables_in_order ds)) old → AllZip (IsReadyTable ds) (take (i + 1) (tables_in_order ds)) new
one_ready ds sigs i d old new made is lt made_so put all =
    subst (λ (l : List Table). AllZip (IsReadyTable ds) l new) (sym front)
    (subst (λ (l : List ReadyTable). AllZip (IsReadyTable ds) (take i ts ++ found.0 ∷ []) l) (sym put)
    (one_more (IsReadyTable ds) (take i ts) old found.0 made all
    (made_so found.0 (table_itself ds i found.0 found.1) (sig_is ds sigs i d found.0 is found.1)))) where
      ts : List Table
      ts = tables_in_order ds

      within : i < length ts
      within = omega (arith, lt, as_many ds sigs is)

      found : (t : Table) × (slice_get ts i ≡ Some t)
      found = there_is ts i within

      front : take (i + 1) ts ≡ take i ts ++ found.0 ∷ []
      front =
          take_more ts i found.0 within
          ∙ ap (λ (t : Table). take i ts ++ t ∷ []) (get_or_from_slice_get ts i found.0 found.0 found.1)

pub all_ready : (ds : List Decl) (sigs : List TableSig) (n : ℕ) (made : List ReadyTable) → sigs ≡ (signature14 ds).tables → length sigs ≤ n → AllZip (IsReadyTable ds) (take n (tables_in_order ds)) made → AreReadyTables ds made
all_ready ds sigs n made is le all =
    subst (λ (l : List Table). AllZip (IsReadyTable ds) l made)
    (take_all n (tables_in_order ds) (omega (arith, le, as_many ds sigs is))) all
