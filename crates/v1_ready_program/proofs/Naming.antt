-- The seat of a name is that of its last declaration, and names that are taken off.
use Rattle.std.proofs.Common.{◌≡◌, ℕ, zero, suc, ◌+◌, ◌-◌, Bool, true, false, cond, Option, Some, None, List, [], ◌∷◌, ◌++◌, length, take, drop, refl, sym, ap, ◌∙◌, arith}
use Rattle.std.proofs.Math.Seq.{drop-append_seam}
use Rattle.std.proofs.lemmas.List.{length-append}
use Rattle.std.specs.Prelude.{option_map}
use Rattle.std.specs.Str.{bytes_eq}
use Rattle.name_stack.specs.Newest.{newest, behind_first}
use Rattle.p416_syntax.specs.Names.{Name}
use Rattle.v1_core.specs.Seats as seats
use Rattle.v1_seats.specs.declared.seat.Seat.{Seat}
use Rattle.v1_seats.specs.Seen.{seen_seat}
use Rattle.v1_ready_forms.specs.Named.{NamedSeat, named_seat, seat_of_name}
use Rattle.p416_syntax.specs.Scopes.{Layout}
use Rattle.v1_core.specs.Ready.{Ready}
use Rattle.v1_ready_forms.specs.Ways.{Way}
use Rattle.v1_ready_forms.specs.Spots.{spot, spot_with, ready_behind, way_ready}
use Rattle.v1_ready_forms.specs.Expressions.{name_ready}
use Rattle.v1_ready_program.specs.Seen.{seats_named, seat_at}
use Rattle.v1_ready_program.specs.internal.Passes.{nothing, leaf, leaf_by}

-- the seat at the place that was found, or another
abbrev pub picked : List (Option Seat) → Option seats.Seat → Option ℕ → Option seats.Seat
picked given other None = other
picked given other (Some place) = seat_at given place

picked_more : (x : Option Seat) (given : List (Option Seat)) (outer : Option seats.Seat) (b : Bool) (found : Option ℕ)
    → picked given (cond b (option_map seen_seat x) outer) found ≡ picked (x ∷ given) outer (behind_first found b)
picked_more x given outer true None = refl
picked_more x given outer false None = refl
picked_more x given outer b (Some n) = refl

less_by_one : {X Y : Type 0} (x : X) (y : Y) (xs : List X) (ys : List Y) → length (x ∷ xs) ≡ length (y ∷ ys) → length xs ≡ length ys
less_by_one x y xs ys e = omega (arith, e)

found_by : (names : List Name) (given : List (Option Seat)) (outer : List NamedSeat) (text : Name) → length names ≡ length given
    → seat_of_name (seats_named names given outer) text ≡ picked given (seat_of_name outer text) (newest names text)
found_by [] given outer text same = refl
found_by (name ∷ names) [] outer text same = absurd (cc same)
found_by (name ∷ names) (x ∷ given) outer text same =
    found_by names given (named_seat name (option_map seen_seat x) ∷ outer) text (less_by_one name x names given same)
    ∙ picked_more x given (seat_of_name outer text) (bytes_eq name text) (newest names text)

pub seat_found : (names : List Name) (given : List (Option Seat)) (text : Name) (found : Option ℕ) (seat : Option seats.Seat) → length names ≡ length given → found ≡ newest names text → seat ≡ picked given None found → seat ≡ seat_of_name (seats_named names given []) text
seat_found names given text found seat same is so = so ∙ (ap (picked given None) is ∙ sym (found_by names given [] text same))

seats_more : (names : List Name) (given : List (Option Seat)) (outer : List NamedSeat) (name : Name) (x : Option Seat) → length names ≡ length given
    → seats_named (names ++ name ∷ []) (given ++ x ∷ []) outer ≡ named_seat name (option_map seen_seat x) ∷ seats_named names given outer
seats_more [] [] outer name x same = refl
seats_more [] (y ∷ given) outer name x same = absurd (cc same)
seats_more (n ∷ names) [] outer name x same = absurd (cc same)
seats_more (n ∷ names) (y ∷ given) outer name x same = seats_more names given (named_seat n (option_map seen_seat y) ∷ outer) name x (less_by_one n y names given same)

pub seats_push : (names : List Name) (given : List (Option Seat)) (name : Name) (x : Option Seat) → length names ≡ length given
    → seats_named (names ++ name ∷ []) (given ++ x ∷ []) [] ≡ named_seat name (option_map seen_seat x) ∷ seats_named names given []
seats_push names given name x same = seats_more names given [] name x same

-- how many names there are, and those that stay where names are taken off

named_front : (names : List Name) (given : List (Option Seat)) (outer : List NamedSeat) → length names ≡ length given → length (seats_named names given outer) ≡ length names + length outer
named_front [] given outer same = omega arith
named_front (n ∷ names) [] outer same = absurd (cc same)
named_front (n ∷ names) (x ∷ given) outer same =
    let before : length (seats_named names given (named_seat n (option_map seen_seat x) ∷ outer)) ≡ length names + suc (length outer) = named_front names given (named_seat n (option_map seen_seat x) ∷ outer) (less_by_one n x names given same) in
    omega (arith, before)

pub seats_counted : (names : List Name) (given : List (Option Seat)) → length names ≡ length given → length names ≡ length (seats_named names given [])
seats_counted names given same = let all : length (seats_named names given []) ≡ length names + 0 = named_front names given [] same in omega (arith, all)

named_split : (names : List Name) (given : List (Option Seat)) (more outer : List NamedSeat) → length names ≡ length given → seats_named names given (more ++ outer) ≡ seats_named names given more ++ outer
named_split [] given more outer same = refl
named_split (n ∷ names) [] more outer same = absurd (cc same)
named_split (n ∷ names) (x ∷ given) more outer same = named_split names given (named_seat n (option_map seen_seat x) ∷ more) outer (less_by_one n x names given same)

left_over : {X : Type 0} (xs ys : List X) → drop (length (xs ++ ys) - length ys) (xs ++ ys) ≡ ys
left_over xs ys =
    let short : length (xs ++ ys) - length ys ≡ length xs = omega (arith, length-append xs ys) in
    ap (λ k. drop k (xs ++ ys)) short ∙ drop-append_seam xs ys

kept_first : (len : ℕ) (names : List Name) (given : List (Option Seat)) (outer : List NamedSeat) → length names ≡ length given
    → seats_named (take len names) (take len given) outer ≡ drop (length (seats_named names given outer) - (len + length outer)) (seats_named names given outer)
kept_first zero names given outer same =
    let all_off : drop (length (seats_named names given outer) - length outer) (seats_named names given outer) ≡ outer = ap (λ all. drop (length all - length outer) all) (named_split names given [] outer same) ∙ left_over (seats_named names given []) outer in
    let none : 0 + length outer ≡ length outer = omega arith in
    sym (ap (λ k. drop (length (seats_named names given outer) - k) (seats_named names given outer)) none ∙ all_off)
kept_first (suc len) [] given outer same = sym (ap (λ n. drop n outer) (none_over len (length outer)))
  where
    none_over : (a b : ℕ) → b - (suc a + b) ≡ 0
    none_over a b = omega arith
kept_first (suc len) (n ∷ names) [] outer same = absurd (cc same)
kept_first (suc len) (n ∷ names) (x ∷ given) outer same =
    let named = named_seat n (option_map seen_seat x) ∷ outer in
    kept_first len names given named (less_by_one n x names given same)
    ∙ ap (λ k. drop (length (seats_named names given named) - k) (seats_named names given named)) (one_later len (length outer))
  where
    one_later : (a b : ℕ) → a + suc b ≡ suc a + b
    one_later a b = omega arith

pub seats_shortened : (len : ℕ) (names fewer : List Name) (given less : List (Option Seat)) → length names ≡ length given → fewer ≡ take len names → less ≡ take len given
    → seats_named fewer less [] ≡ drop (length (seats_named names given []) - len) (seats_named names given [])
seats_shortened len names fewer given less same of_names of_seats =
    let same_count : len + 0 ≡ len = omega arith in
    ap (λ ns. seats_named ns less []) of_names
    ∙ (ap (λ xs. seats_named (take len names) xs []) of_seats
    ∙ (kept_first len names given [] same
    ∙ ap (λ k. drop (length (seats_named names given []) - k) (seats_named names given [])) same_count))

-- what a way from the seat of a name leads to

module _ (types : List Layout) (seats : List NamedSeat) (way : Way) (text : Name) where
  pub name_leaf : (found : Option Seat) (seat : Seat) (r : Ready) → found ≡ Some seat → option_map seen_seat found ≡ seat_of_name seats text → Some r ≡ way_ready types way (spot None (seen_seat seat)) → leaf r ≡ leaf_by (name_ready types seats way text)
  name_leaf found seat r is named leads =
      ap leaf_by (leads ∙ ap (λ o. ready_behind (way_ready types way) (spot_with None o)) (sym (ap (option_map seen_seat) is) ∙ named))

  pub name_none : (found : Option Seat) (seat : Seat) → found ≡ Some seat → option_map seen_seat found ≡ seat_of_name seats text → None ≡ way_ready types way (spot None (seen_seat seat)) → nothing ≡ leaf_by (name_ready types seats way text)
  name_none found seat is named leads =
      ap leaf_by (leads ∙ ap (λ o. ready_behind (way_ready types way) (spot_with None o)) (sym (ap (option_map seen_seat) is) ∙ named))

  pub name_missing : (found : Option Seat) → found ≡ None → option_map seen_seat found ≡ seat_of_name seats text → nothing ≡ leaf_by (name_ready types seats way text)
  name_missing found is named =
      ap (λ o. leaf_by (ready_behind (way_ready types way) (spot_with None o))) (sym (ap (option_map seen_seat) is) ∙ named)
