-- The tables of a program.
use Rattle.std.proofs.Common.{◌≡◌, ℕ, ◌+◌, ◌<◌, Bool, true, false, cond, List, [], ◌∷◌, ◌++◌, length, get_or, drop, map, flat_map, option_to_list, Option, Some, None, refl, sym, ap, ◌∙◌, append_assoc, add-one, drop-cons}
use Rattle.std.specs.Borrow.{Bor}
use Rattle.std.specs.Prelude.{filter_map, unwrap_or}
use Rattle.std.specs.List.{cons_option}
use Rattle.std.specs.Option.{option_map}
use Rattle.std.specs.Str.{bytes_eq}
use Rattle.std.proofs.lemmas.List.{map-append}
use Rattle.match_core.specs.declared.signatures.KeySpec.{KeySpec}
use Rattle.match_core.specs.declared.signatures.ActionSig.{ActionSig}
use Rattle.match_core.specs.declared.signatures.TableSig.{TableSig}
use Rattle.match_core.specs.declared.signatures.ObjectSig.{ObjectSig}
use Rattle.p416_syntax.specs.declared.controls.TableKey.{TableKey}
use Rattle.p416_syntax.specs.declared.controls.Table16.{Table16}
use Rattle.p416_syntax.specs.declared.controls.Local.{Local}
use Rattle.p416_syntax.specs.declared.controls.Local.TheVariants as local
use Rattle.p416_syntax.specs.declared.controls.Control16.{Control16}
use Rattle.p416_syntax.specs.declared.program.Decl16.{Decl16}
use Rattle.p416_syntax.specs.declared.program.Decl16.TheVariants as decl
use Rattle.p416_syntax.specs.declared.program.Syntax16.{Syntax16}
use Rattle.p416_syntax.specs.Properties.{keys_of, actions_of, counters_of}
use Rattle.p416_names.specs.SeenKinds.{referred}
use Rattle.p416_names.proofs.Found.{first_step}
use Rattle.p416_syntax.specs.Names.{Name}
use Rattle.p416_syntax.specs.Kinds.{Kind}
use Rattle.p416_syntax.specs.Scopes.{Scope}
use Rattle.p416_syntax.specs.Breaks.{scope_of}
use Rattle.p416_syntax.specs.Declarations.{control_scope, tables_in, top_scope}
use Rattle.p416_syntax.specs.Tables.{local_object, objects_of, table_plane, tables_of}
use Rattle.v1_core.specs.Signatures.{Object, Placed, placed, placed_in, placed_sig, placed_tables, in_order, key_scope, key_spec, key_width, kind_named, direct_number, object_names, object_sig, objects_in, or_at_top, own_object, place_among, plane_among, table_names, table_sig, table_size, table_with, tables_in_order, top_object}
use Rattle.p416_signature.specs.declared.objects.Objects.{Objects}
use Rattle.p416_signature.specs.internal.Seen.{plane_of}
use Rattle.p416_signature.specs.internal.Gathered.{AreObjects, key_in, number_in, objects_seen, plane_in, sig_among, sig_at, sig_in, sig_name, sig_with, sigs_in, sigs_of}
use Rattle.p416_signature.proofs.Acting.{actions_are, same_map}
use Rattle.p416_signature.proofs.Telling.{same_kind}

-- a table in its control

abbrev of_width : TableKey → Kind → KeySpec
of_width k kind = record { kind = kind_named k.kind; width = key_width kind }

keys_are : (s t : Scope) → s.layouts ≡ t.layouts → s.names ≡ t.names → (keys : List TableKey) → map (key_in s) keys ≡ map (key_spec t) keys
keys_are s t layouts names keys = same_map (key_in s) (key_spec t) (λ k. ap (of_width k) (same_kind s (key_scope t) layouts names k.exp)) keys

at_top_is : (ds : List Decl16) (text : Name) (o : Option Name) → unwrap_or o (unwrap_or (plane_among (filter_map top_object ds) text) text) ≡ or_at_top ds text o
at_top_is ds text None = refl
at_top_is ds text (Some plane) = refl

number_is : (syntax : Syntax16) (o : Objects) (c : Control16) (text : Name) → AreObjects syntax o → number_in o (filter_map own_object c.locals) text ≡ direct_number syntax c.locals text
number_is syntax o c text are =
    ap (λ (l : List Name). place_among l (plane_in (filter_map own_object c.locals) (objects_seen o.top) text)) are.numbers
    ∙ (ap (λ (top : List Object). place_among (object_names syntax) (plane_in (filter_map own_object c.locals) top text)) are.top
    ∙ ap (place_among (object_names syntax)) (at_top_is syntax.decls text (plane_among (filter_map own_object c.locals) text)))

direct_is : (syntax : Syntax16) (o : Objects) (c : Control16) (named : Option Name) → AreObjects syntax o → option_map (number_in o (filter_map own_object c.locals)) named ≡ option_map (direct_number syntax c.locals) named
direct_is syntax o c None are = refl
direct_is syntax o c (Some text) are = ap (λ (n : ℕ). Some n) (number_is syntax o c text are)

abbrev table_of : Name → List KeySpec → List ActionSig → ℕ → Option ℕ → TableSig
table_of name keys actions size direct = record { name = name; keys = keys; actions = actions; size = size; direct = direct }

sig_is : (syntax : Syntax16) (o : Objects) (c : Control16) (t : Table16) → AreObjects syntax o → sig_in (control_scope (top_scope syntax.decls []) c) (filter_map own_object c.locals) o t ≡ table_sig syntax c.locals (control_scope (scope_of syntax (decl.Control c)) c) t
sig_is syntax o c t are =
    ap (λ (keys : List KeySpec). table_of (table_plane t) keys (sigs_in (control_scope (top_scope syntax.decls []) c).names (actions_of t.properties)) (table_size t) (option_map (number_in o (filter_map own_object c.locals)) (counters_of t.properties))) (keys_are (control_scope (top_scope syntax.decls []) c) (control_scope (scope_of syntax (decl.Control c)) c) refl refl (keys_of t.properties))
    ∙ (ap (λ (actions : List ActionSig). table_of (table_plane t) (map (key_spec (control_scope (scope_of syntax (decl.Control c)) c)) (keys_of t.properties)) actions (table_size t) (option_map (number_in o (filter_map own_object c.locals)) (counters_of t.properties))) (actions_are (control_scope (scope_of syntax (decl.Control c)) c) t)
    ∙ ap (λ (direct : Option ℕ). record (table_sig syntax c.locals (control_scope (scope_of syntax (decl.Control c)) c) t) { direct = direct }) (direct_is syntax o c (counters_of t.properties) are))

-- the tables of the controls

in_control : (syntax : Syntax16) (o : Objects) (c : Control16) → AreObjects syntax o → (ts : List Table16) → map (sig_in (control_scope (top_scope syntax.decls []) c) (filter_map own_object c.locals) o) ts ≡ map (placed_sig syntax) (map (placed (control_scope (scope_of syntax (decl.Control c)) c) c.locals) ts)
in_control syntax o c are [] = refl
in_control syntax o c are (t ∷ ts) =
    ap (λ (x : TableSig). x ∷ map (sig_in (control_scope (top_scope syntax.decls []) c) (filter_map own_object c.locals) o) ts) (sig_is syntax o c t are)
    ∙ ap (λ (xs : List TableSig). table_sig syntax c.locals (control_scope (scope_of syntax (decl.Control c)) c) t ∷ xs) (in_control syntax o c are ts)

in_decl : (syntax : Syntax16) (o : Objects) (d : Decl16) → AreObjects syntax o → sigs_of syntax.decls o d ≡ map (placed_sig syntax) (placed_in syntax d)
in_decl syntax o (decl.Control c) are = in_control syntax o c are (tables_in c)
in_decl syntax o (decl.Header h) are = refl
in_decl syntax o (decl.Struct x) are = refl
in_decl syntax o (decl.Instance notes i) are = refl
in_decl syntax o (decl.Parser p) are = refl

in_all : (syntax : Syntax16) (o : Objects) → AreObjects syntax o → (ds : List Decl16) → flat_map (sigs_of syntax.decls o) ds ≡ map (placed_sig syntax) (flat_map (placed_in syntax) ds)
in_all syntax o are [] = refl
in_all syntax o are (d ∷ ds) =
    ap (λ (l : List TableSig). l ++ flat_map (sigs_of syntax.decls o) ds) (in_decl syntax o d are)
    ∙ (ap (λ (l : List TableSig). map (placed_sig syntax) (placed_in syntax d) ++ l) (in_all syntax o are ds)
    ∙ sym (map-append (placed_sig syntax) (placed_in syntax d) (flat_map (placed_in syntax) ds)))

-- their names

abbrev placed_plane : Placed → Name
placed_plane p = table_plane p.table

names_of_sigs : (syntax : Syntax16) (ps : List Placed) → map sig_name (map (placed_sig syntax) ps) ≡ map placed_plane ps
names_of_sigs syntax [] = refl
names_of_sigs syntax (p ∷ ps) = ap (λ (l : List Name). placed_plane p ∷ l) (names_of_sigs syntax ps)

names_in_control : (s : Scope) (c : Control16) (ts : List Table16) → map placed_plane (map (placed s c.locals) ts) ≡ map table_plane ts
names_in_control s c [] = refl
names_in_control s c (t ∷ ts) = ap (λ (l : List Name). table_plane t ∷ l) (names_in_control s c ts)

names_in_decl : (syntax : Syntax16) (d : Decl16) → map placed_plane (placed_in syntax d) ≡ map table_plane (tables_of d)
names_in_decl syntax (decl.Control c) = names_in_control (control_scope (scope_of syntax (decl.Control c)) c) c (tables_in c)
names_in_decl syntax (decl.Header h) = refl
names_in_decl syntax (decl.Struct x) = refl
names_in_decl syntax (decl.Instance notes i) = refl
names_in_decl syntax (decl.Parser p) = refl

names_in_all : (syntax : Syntax16) (ds : List Decl16) → map placed_plane (flat_map (placed_in syntax) ds) ≡ map table_plane (flat_map tables_of ds)
names_in_all syntax [] = refl
names_in_all syntax (d ∷ ds) =
    map-append placed_plane (placed_in syntax d) (flat_map (placed_in syntax) ds)
    ∙ (ap (λ (l : List Name). l ++ map placed_plane (flat_map (placed_in syntax) ds)) (names_in_decl syntax d)
    ∙ (ap (λ (l : List Name). map table_plane (tables_of d) ++ l) (names_in_all syntax ds)
    ∙ sym (map-append table_plane (tables_of d) (flat_map tables_of ds))))

-- the first table with a name

found_step : (syntax : Syntax16) (b : Bool) (p : Placed) (o : Option Placed) → cond b (Some (placed_sig syntax p)) (option_map (placed_sig syntax) o) ≡ option_map (placed_sig syntax) (cond b (Some p) o)
found_step syntax true p o = refl
found_step syntax false p o = refl

found_is : (syntax : Syntax16) (ps : List Placed) (plane : Name) → sig_with (map (placed_sig syntax) ps) plane ≡ option_map (placed_sig syntax) (table_with ps plane)
found_is syntax [] plane = refl
found_is syntax (p ∷ ps) plane =
    first_step sig_name (placed_sig syntax p) (map (placed_sig syntax) ps) plane
    ∙ (ap (λ (o : Option TableSig). cond (bytes_eq (table_plane p.table) plane) (Some (placed_sig syntax p)) o) (found_is syntax ps plane)
    ∙ found_step syntax (bytes_eq (table_plane p.table) plane) p (table_with ps plane))

kept_as : (syntax : Syntax16) (o : Option TableSig) (p : Option Placed) (sigs : List TableSig) (rest : List Placed) → o ≡ option_map (placed_sig syntax) p → sigs ≡ map (placed_sig syntax) rest → cons_option o sigs ≡ map (placed_sig syntax) (cons_option p rest)
kept_as syntax o p sigs rest is are = ap (λ (x : Option TableSig). cons_option x sigs) is ∙ by_case p where
  by_case : (q : Option Placed) → cons_option (option_map (placed_sig syntax) q) sigs ≡ map (placed_sig syntax) (cons_option q rest)
  by_case None = are
  by_case (Some x) = ap (λ (l : List TableSig). placed_sig syntax x ∷ l) are

in_order_are : (syntax : Syntax16) (ps : List Placed) (planes : List Name) → filter_map (sig_with (map (placed_sig syntax) ps)) planes ≡ map (placed_sig syntax) (filter_map (table_with ps) planes)
in_order_are syntax ps [] = refl
in_order_are syntax ps (plane ∷ planes) =
    kept_as syntax (sig_with (map (placed_sig syntax) ps) plane) (table_with ps plane) (filter_map (sig_with (map (placed_sig syntax) ps)) planes) (filter_map (table_with ps) planes) (found_is syntax ps plane) (in_order_are syntax ps planes)

pub tables_are : (syntax : Syntax16) (o : Objects) (sigs : List TableSig) → AreObjects syntax o → sigs ≡ flat_map (sigs_of syntax.decls o) syntax.decls → filter_map (sig_with sigs) (in_order (map sig_name sigs)) ≡ map (placed_sig syntax) (tables_in_order syntax)
tables_are syntax o sigs are is =
    let same : sigs ≡ map (placed_sig syntax) (placed_tables syntax) = is ∙ in_all syntax o are syntax.decls in
    let names : map sig_name sigs ≡ map table_plane (flat_map tables_of syntax.decls) = ap (map sig_name) same ∙ (names_of_sigs syntax (placed_tables syntax) ∙ names_in_all syntax syntax.decls) in
    ap (λ (l : List Name). filter_map (sig_with sigs) (in_order l)) names
    ∙ (ap (λ (l : List TableSig). filter_map (sig_with l) (table_names syntax)) same
    ∙ in_order_are syntax (placed_tables syntax) (table_names syntax))

-- the objects

planes_own : (locals : List Local) → map plane_of (filter_map own_object locals) ≡ flat_map local_object locals
planes_own [] = refl
planes_own (local.Instance notes i ∷ locals) = ap (λ (l : List Name). local_object (local.Instance notes i) ++ l) (planes_own locals)
planes_own (local.Var v ∷ locals) = planes_own locals
planes_own (local.Action a ∷ locals) = planes_own locals
planes_own (local.Table t ∷ locals) = planes_own locals

planes_in : (d : Decl16) → map plane_of (objects_in d) ≡ objects_of d
planes_in (decl.Header h) = refl
planes_in (decl.Struct x) = refl
planes_in (decl.Instance notes i) = refl
planes_in (decl.Parser p) = refl
planes_in (decl.Control c) = planes_own c.locals

planes_are : (ds : List Decl16) → map plane_of (flat_map objects_in ds) ≡ flat_map objects_of ds
planes_are [] = refl
planes_are (d ∷ ds) =
    map-append plane_of (objects_in d) (flat_map objects_in ds)
    ∙ (ap (λ (l : List Name). l ++ map plane_of (flat_map objects_in ds)) (planes_in d) ∙ ap (λ (l : List Name). objects_of d ++ l) (planes_are ds))

names_are : (syntax : Syntax16) (found : List Object) (names : List Name) → found ≡ flat_map objects_in syntax.decls → names ≡ in_order (map plane_of found) → names ≡ object_names syntax
names_are syntax found names are is = is ∙ ap in_order (ap (map plane_of) are ∙ planes_are syntax.decls)

pub objects_are : (syntax : Syntax16) (found : List Object) (names : List Name) (sigs : List ObjectSig) → found ≡ flat_map objects_in syntax.decls → names ≡ in_order (map plane_of found) → sigs ≡ map (sig_among found) names → sigs ≡ map (object_sig syntax) (object_names syntax)
objects_are syntax found names sigs are is made =
    made ∙ (ap (λ (l : List Object). map (sig_among l) names) are ∙ ap (map (object_sig syntax)) (names_are syntax found names are is))

pub numbered : (syntax : Syntax16) (o : Objects) (found : List Object) (names : List Name) → found ≡ flat_map objects_in syntax.decls → names ≡ in_order (map plane_of found) → o.numbers ≡ names → objects_seen o.top ≡ filter_map top_object syntax.decls → AreObjects syntax o
numbered syntax o found names are is numbers top = record { numbers = numbers ∙ names_are syntax found names are is; top = top }

-- a table is put together

pub made : (s : Scope) (own : List Object) (o : Objects) (t : Table16) (name : Name) (keys : List KeySpec) (actions : List ActionSig) (size : ℕ) (direct : Option ℕ) → name ≡ table_plane t → keys ≡ map (key_in s) (keys_of t.properties) → actions ≡ sigs_in s.names (actions_of t.properties) → size ≡ table_size t → direct ≡ option_map (number_in o own) (counters_of t.properties) → table_of name keys actions size direct ≡ sig_in s own o t
made s own o t name keys actions size direct e f g h i =
    ap (λ (x : Name). table_of x keys actions size direct) e
    ∙ (ap (λ (x : List KeySpec). table_of (table_plane t) x actions size direct) f
    ∙ (ap (λ (x : List ActionSig). table_of (table_plane t) (map (key_in s) (keys_of t.properties)) x size direct) g
    ∙ (ap (λ (x : ℕ). table_of (table_plane t) (map (key_in s) (keys_of t.properties)) (sigs_in s.names (actions_of t.properties)) x direct) h
    ∙ ap (λ (x : Option ℕ). record (sig_in s own o t) { direct = x }) i)))

-- tables are put in order

next_items : {X : Type 0} (xs : List X) (i : ℕ) (d : X) → i < length xs → drop i xs ≡ get_or xs i d ∷ drop (i + 1) xs
next_items xs i d h = rw (add-one, drop-cons xs i d h) refl

kept_by : (o : Option TableSig) (old rest : List TableSig) → (old ++ option_to_list o) ++ rest ≡ old ++ cons_option o rest
kept_by None old rest = append_assoc old [] rest
kept_by (Some sig) old rest = append_assoc old (sig ∷ []) rest

pub kept_now : (pick : Name → Option TableSig) (names : List (Bor Name)) (i : ℕ) (d : Bor Name) (old new whole : List TableSig) → i < length names → new ≡ old ++ option_to_list (pick ((get_or names i d).now)) → old ++ filter_map pick (map referred (drop i names)) ≡ whole → new ++ filter_map pick (map referred (drop (i + 1) names)) ≡ whole
kept_now pick names i d old new whole lt is same =
    ap (λ l. l ++ filter_map pick (map referred (drop (i + 1) names))) is
    ∙ (kept_by (pick ((get_or names i d).now)) old (filter_map pick (map referred (drop (i + 1) names)))
    ∙ (sym (ap (λ l. old ++ filter_map pick (map referred l)) (next_items names i d lt)) ∙ same))

pub ordered_are : (sigs : List TableSig) (names numbers ordered : List Name) (tables : List TableSig) → names ≡ map sig_name sigs → ordered ≡ in_order names → numbers ≡ names → tables ≡ filter_map (sig_at sigs numbers) ordered → tables ≡ filter_map (sig_with sigs) (in_order (map sig_name sigs))
ordered_are sigs names numbers ordered tables are in_turn same is =
    is
    ∙ (ap (λ (l : List Name). filter_map (sig_at sigs l) ordered) (same ∙ are)
    ∙ ap (filter_map (sig_with sigs)) (in_turn ∙ ap in_order are))

pub tables_from : (syntax : Syntax16) (o : Objects) (sigs slice tables : List TableSig) → AreObjects syntax o → sigs ≡ flat_map (sigs_of syntax.decls o) syntax.decls → slice ≡ sigs → tables ≡ filter_map (sig_with slice) (in_order (map sig_name slice)) → tables ≡ map (placed_sig syntax) (tables_in_order syntax)
tables_from syntax o sigs slice tables are is same made = made ∙ tables_are syntax o slice are (same ∙ is)
