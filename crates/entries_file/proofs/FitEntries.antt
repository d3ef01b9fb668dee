-- What is added to entries that fit leaves them fitting.
use Rattle.std.proofs.Common.{◌≡◌, inl, inr, ℕ, zero, suc, ◌+◌, ◌<◌, ◌≤◌, Bool, true, false, cond, leb, nat_eq, eq-eqb, List, [], ◌∷◌, ◌++◌, length, map, set, replicate, get_or, refl, sym, ap, ◌∙◌, arith, Option, Some, None, All}
use Rattle.std.specs.List.{AllZip, filter_map, cons_option}
use Rattle.std.proofs.lemmas.Bool.{cases_lt}
use Rattle.std.proofs.lemmas.Bool.Decides.{nat_tests}
use Rattle.std.proofs.lemmas.List.{length-append, length-map, get_or-map, get_or_push, get_or_append_left}
use Rattle.std.proofs.lemmas.List.Elements.{All-nil, All-cons, All-push, All-append}
use Rattle.std.proofs.lemmas.List.Folds.{list_any_at}
use Rattle.std.proofs.lemmas.List.Quantifiers.{position-Some}
use Rattle.state_store.specs.declared.shapes.Shape.{Shape}
use Rattle.state_store.specs.declared.shapes.Shape.TheVariants.{Counter, Direct, Register, Meter}
use Rattle.state_store.specs.declared.ports.Session.{Session}
use Rattle.match_core.specs.declared.signatures.TableSig.{TableSig}
use Rattle.match_core.specs.declared.signatures.ObjectSig.{ObjectSig}
use Rattle.match_core.specs.declared.signatures.Signature.{Signature}
use Rattle.match_core.specs.declared.entries.Entry.{Entry}
use Rattle.match_core.specs.declared.entries.DefaultCall.{DefaultCall}
use Rattle.match_core.specs.declared.entries.Entries.{Entries}
use Rattle.state_store.specs.Ports.{IsSession, AreDistinct}
use Rattle.match_core.specs.declared.signatures.KeySpec.{KeySpec}
use Rattle.match_core.specs.Fits.{Fits, FitsFill, FitsEntry, FitsCall, FitsColours}
use Rattle.entries_file.specs.Numbers.{number_of, up_to, number_up_to}
use Rattle.entries_file.specs.Filling.{empty_fill, nothing, table_at, fill_at, colours_at, with_entry, with_default, with_session, with_colours}
use Rattle.entries_file.specs.Rules.{has_session, is_full, named_meter, meter_name, meter_of, has_name}

-- two lists of one length, item by item
pub zip_get : {X Y : Type 0} (R : X → Y → Type 0) (xs : List X) (ys : List Y) (i : ℕ) (d : X) (e : Y) → AllZip R xs ys → i < length xs → R (get_or xs i d) (get_or ys i e)
zip_get R [] ys i d e all lt = absurd (omega arith)
zip_get R (x ∷ xs) [] i d e all lt = absurd all
zip_get R (x ∷ xs) (y ∷ ys) zero d e all lt = all.0
zip_get R (x ∷ xs) (y ∷ ys) (suc i) d e all lt = zip_get R xs ys i d e all.1 (omega arith)

pub zip_set : {X Y : Type 0} (R : X → Y → Type 0) (xs : List X) (ys : List Y) (i : ℕ) (d : X) (y : Y) → AllZip R xs ys → i < length xs → R (get_or xs i d) y → AllZip R xs (set ys i y)
zip_set R [] ys i d y all lt here = absurd (omega arith)
zip_set R (x ∷ xs) [] i d y all lt here = absurd all
zip_set R (x ∷ xs) (z ∷ ys) zero d y all lt here = (here, all.1)
zip_set R (x ∷ xs) (z ∷ ys) (suc i) d y all lt here = (all.0, zip_set R xs ys i d y all.1 (omega arith) here)

zip_replicate : {X Y : Type 0} (R : X → Y → Type 0) (xs : List X) (y : Y) → ((x : X) → R x y) → AllZip R xs (replicate (length xs) y)
zip_replicate R [] y each = tt
zip_replicate R (x ∷ xs) y each = (each x, zip_replicate R xs y each)

empty_fits : (table : TableSig) → FitsFill table empty_fill
empty_fits table = record { size = omega arith; no_keys = λ none. refl; entries = All-nil (FitsEntry table); call = tt }

no_colours_fit : (shape : Shape) → FitsColours shape []
no_colours_fit (Counter kind cells) = refl
no_colours_fit (Direct kind cells) = refl
no_colours_fit (Register width cells) = refl
no_colours_fit (Meter cells) = All-nil (λ colour. colour ≤ 2)

-- before the first line
pub nothing_fits : (g : Signature) → Fits (nothing g) g
nothing_fits g = record {
  tables = zip_replicate FitsFill g.tables empty_fill empty_fits;
  sessions = record { each = All-nil IsSession; distinct = λ i j d lt lt' same. absurd (omega arith) };
  colours = zip_replicate (λ (object : ObjectSig). FitsColours object.shape) g.objects [] (λ object. no_colours_fit object.shape);
}

room : (size count : ℕ) → leb size count ≡ false → count + 1 ≤ size
room size count is = grind (arith, nat_tests)

keyless : (specs : List KeySpec) → specs ≡ [] → 0 < length specs → ⊥
keyless [] none some = omega arith
keyless (spec ∷ specs) none some = cc

-- one more entry
pub entry_fits : (g : Signature) (read : Entries) (table : ℕ) (entry : Entry) → Fits read g → table < length g.tables → is_full (table_at g table) (fill_at read table) ≡ false
    → 0 < length (table_at g table).keys → FitsEntry (table_at g table) entry → Fits (with_entry read table entry) g
entry_fits g read table entry fits within open_ keys here =
    let fill : FitsFill (table_at g table) (fill_at read table) = zip_get FitsFill g.tables read.tables table _ empty_fill fits.tables within in
    let count : length ((fill_at read table).entries ++ entry ∷ []) ≡ length (fill_at read table).entries + 1 = length-append (fill_at read table).entries (entry ∷ []) in
    record {
      tables = zip_set FitsFill g.tables read.tables table _ _ fits.tables within
          (record {
            size = rw count (room (table_at g table).size (length (fill_at read table).entries) open_);
            no_keys = λ none. absurd (keyless (table_at g table).keys none keys);
            entries = All-push (FitsEntry (table_at g table)) (fill_at read table).entries entry fill.entries here;
            call = fill.call;
          });
      sessions = fits.sessions;
      colours = fits.colours;
    }

-- another default
pub default_fits : (g : Signature) (read : Entries) (table : ℕ) (call : DefaultCall) → Fits read g → table < length g.tables → FitsCall (table_at g table) call.action call.arguments → Fits (with_default read table call) g
default_fits g read table call fits within here =
    let fill : FitsFill (table_at g table) (fill_at read table) = zip_get FitsFill g.tables read.tables table _ empty_fill fits.tables within in
    record {
      tables = zip_set FitsFill g.tables read.tables table _ _ fits.tables within (record { size = fill.size; no_keys = fill.no_keys; entries = fill.entries; call = here });
      sessions = fits.sessions;
      colours = fits.colours;
    }

known_session : (sessions : List Session) (i : ℕ) (d : Session) (n : ℕ) → i < length sessions → (get_or sessions i d).number ≡ n → has_session sessions n ≡ true
known_session sessions i d n lt is = list_any_at (λ (session : Session). nat_eq session.number n) sessions i d lt (eq-eqb (get_or sessions i d).number n is)

unlike : (sessions : List Session) (session : Session) (i j : ℕ) (d : Session) → has_session sessions session.number ≡ false → i < length sessions → j ≡ length sessions → (get_or (sessions ++ session ∷ []) i d).number ≡ (get_or (sessions ++ session ∷ []) j d).number → ⊥
unlike sessions session i j d new lt last same =
    let first : get_or (sessions ++ session ∷ []) i d ≡ get_or sessions i d = get_or_append_left sessions (session ∷ []) d i lt in
    let second : get_or (sessions ++ session ∷ []) j d ≡ session = get_or_push sessions session d j (sym last) in
    let is : (get_or sessions i d).number ≡ session.number = ap (λ (s : Session). s.number) (sym first) ∙ (same ∙ ap (λ (s : Session). s.number) second) in
    let known : has_session sessions session.number ≡ true = known_session sessions i d session.number lt is in
    cc

distinct_push : (sessions : List Session) (session : Session) → AreDistinct sessions → has_session sessions session.number ≡ false → AreDistinct (sessions ++ session ∷ [])
distinct_push sessions session distinct new i j d within within' same =
    let count : length (sessions ++ session ∷ []) ≡ length sessions + 1 = length-append sessions (session ∷ []) in
    elim (cases_lt i (length sessions)) [
      | inl first ↦ elim (cases_lt j (length sessions)) [
        | inl second ↦
            distinct i j d first second
            (ap (λ (s : Session). s.number) (sym (get_or_append_left sessions (session ∷ []) d i first)) ∙ (same ∙ ap (λ (s : Session). s.number) (get_or_append_left sessions (session ∷ []) d j second)))
        | inr last ↦ absurd (unlike sessions session i j d new first (omega arith) same)
      ]
      | inr last ↦ elim (cases_lt j (length sessions)) [
        | inl second ↦ absurd (unlike sessions session j i d new second (omega arith) (sym same))
        | inr end ↦ omega arith
      ]
    ]

-- one more session
pub session_fits : (g : Signature) (read : Entries) (session : Session) → Fits read g → has_session read.sessions session.number ≡ false → IsSession session → Fits (with_session read session) g
session_fits g read session fits new here = record {
  tables = fits.tables;
  sessions = record {
    each = All-push IsSession read.sessions session fits.sessions.each here;
    distinct = distinct_push read.sessions session fits.sessions.distinct new;
  };
  colours = fits.colours;
}

more_colour : (o : Option ℕ) (colours : List ℕ) → ((n : ℕ) → o ≡ Some n → n ≤ 2) → All (λ colour. colour ≤ 2) colours → All (λ colour. colour ≤ 2) (cons_option o colours)
more_colour None colours small rest = rest
more_colour (Some n) colours small rest = All-cons (λ colour. colour ≤ 2) n colours (small n refl) rest

up_to_small_by : (limit n m : ℕ) (b : Bool) → leb n limit ≡ b → cond b (Some n) None ≡ Some m → m ≤ limit
up_to_small_by limit n m true test is =
    let same : n ≡ m = cc in
    grind (arith, nat_tests)
up_to_small_by limit n m false test is = absurd (cc)

up_to_small : (limit m : ℕ) (o : Option ℕ) → up_to limit o ≡ Some m → m ≤ limit
up_to_small limit m None is = absurd (cc)
up_to_small limit m (Some n) is = up_to_small_by limit n m (leb n limit) refl is

pub colours_small : (words : List (List ℕ)) → All (λ colour. colour ≤ 2) (filter_map (number_up_to 2) words)
colours_small [] = All-nil (λ colour. colour ≤ 2)
colours_small (word ∷ words) = more_colour (number_up_to 2 word) (filter_map (number_up_to 2) words) (λ n is. up_to_small 2 n (number_of word) is) (colours_small words)

-- the object is a meter
abbrev pub IsMeter : Shape → Type 0
IsMeter (Counter kind cells) = ⊥
IsMeter (Direct kind cells) = ⊥
IsMeter (Register width cells) = ⊥
IsMeter (Meter cells) = Unit {0}

meter_named : (name word : List ℕ) (shape : Shape) → has_name word (named_meter name shape) ≡ true → IsMeter shape
meter_named name word (Counter kind cells) is = absurd (cc)
meter_named name word (Direct kind cells) is = absurd (cc)
meter_named name word (Register width cells) is = absurd (cc)
meter_named name word (Meter cells) is = tt

colours_push : (shape : Shape) (colours more : List ℕ) → IsMeter shape → FitsColours shape colours → All (λ colour. colour ≤ 2) more → FitsColours shape (colours ++ more)
colours_push (Counter kind cells) colours more is fits small = absurd is
colours_push (Direct kind cells) colours more is fits small = absurd is
colours_push (Register width cells) colours more is fits small = absurd is
colours_push (Meter cells) colours more is fits small = All-append (λ colour. colour ≤ 2) colours more fits small

-- the object that a line names as a meter
abbrev pub object_at : Signature → ℕ → ObjectSig
object_at g object = get_or g.objects object (record { name = []; shape = Meter 0 })

pub meter_is : (g : Signature) (word : List ℕ) (meter : ℕ) → meter_of g word ≡ Some meter → (meter < length g.objects) × IsMeter (object_at g meter).shape
meter_is g word meter is =
    let found = position-Some (has_name word) (map meter_name g.objects) meter None is in
    let within : meter < length g.objects = omega (arith, found.0, length-map g.objects meter_name) in
    let name : get_or (map meter_name g.objects) meter None ≡ meter_name (object_at g meter) = get_or-map meter_name g.objects meter _ None within in
    (within, meter_named (object_at g meter).name word (object_at g meter).shape (ap (has_name word) (sym name) ∙ found.1))

-- more colours of a meter
pub colours_fit : (g : Signature) (read : Entries) (meter : ℕ) (words : List (List ℕ)) → Fits read g → meter < length g.objects → IsMeter (object_at g meter).shape → Fits (with_colours read meter (filter_map (number_up_to 2) words)) g
colours_fit g read meter words fits within is =
    let old : FitsColours (object_at g meter).shape (colours_at read meter) = zip_get (λ (object : ObjectSig). FitsColours object.shape) g.objects read.colours meter _ [] fits.colours within in
    record {
      tables = fits.tables;
      sessions = fits.sessions;
      colours = zip_set (λ (object : ObjectSig). FitsColours object.shape) g.objects read.colours meter _ _ fits.colours within
          (colours_push (object_at g meter).shape (colours_at read meter) (filter_map (number_up_to 2) words) is old (colours_small words));
    }
