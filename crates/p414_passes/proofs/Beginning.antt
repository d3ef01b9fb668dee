-- What is preserved becomes the metadata of a packet.
use Rattle.std.proofs.Common.{◌≡◌, ℕ, zero, suc, ◌+◌, ◌^◌, ◌<◌, ◌≤◌, Bool, true, false, cond, List, [], ◌∷◌, ◌++◌, length, get_or, drop, map, Option, None, refl, sym, ap, ap₂, ◌∙◌, subst, arith, append_assoc, length-append}
use Rattle.std.specs.Prelude.{slice_index, slice_index_or, slice_set, MatchBool, All, Result, Ok}
use Rattle.std.proofs.lemmas.List.{get_or_default}
use Rattle.std.proofs.lemmas.List.Elements.{All-head, All-tail}
use Rattle.p414_syntax.specs.declared.syntax.Decl.{Decl}
use Rattle.p414_syntax.specs.declared.syntax.Decl.TheVariants as decl
use Rattle.p414_syntax.specs.declared.syntax.Sort.TheVariants as sort
use Rattle.p414_syntax.specs.Names.{declared_in}
use Rattle.p414_sem.specs.Fitting.{FitWidths, FitsHeader}
use Rattle.p414_sem.specs.Passes.{Preserved, cloned, egress_begins, with_preserved, with_preserved_from}
use Rattle.p414_sem.specs.Slots.{declared}
use Rattle.p414_sem.specs.State.{Header, Instance, State, instance_at, new_state, no_header, no_instance, with_field, with_instance, written}
use Rattle.p414_layout.specs.declared.shape.Shape.{Shape}
use Rattle.p414_layout.specs.Shapes.{element_count, layout_of, no_shape, shape_at, shape_in}
use Rattle.p414_state.specs.Headers.{FitsAt, FitsShape, IsValid}
use Rattle.p414_state.specs.Packets.{Packet, new_packet, with_state, width_at}
use Rattle.p414_state.proofs.Programs.{new_of_layout}
use Rattle.p414_passes.specs.Begun.{all_put_from, numbers_put, with_all_numbers, with_kept, with_numbers, written_from}
use Rattle.p414_passes.specs.Kept.{FitsKept, FitsNumbers}
use Rattle.p414_passes.specs.Leaving.{AreWhole, IsWholeShape}
use Rattle.p414_passes.proofs.Keeping.{next_items}

-- lists in which one element changes

set_here : {X : Type 0} (front rest : List X) (x y : X) (n : ℕ) → length front ≡ n → slice_set (front ++ x ∷ rest) n y ≡ front ++ y ∷ rest
set_here [] rest x y n e = subst (λ (k : ℕ). slice_set (x ∷ rest) k y ≡ y ∷ rest) e refl
set_here (z ∷ front) rest x y zero e = absurd (omega arith)
set_here (z ∷ front) rest x y (suc n) e = ap (λ l. z ∷ l) (set_here front rest x y n (omega arith))

get_here : {X : Type 0} (front rest : List X) (x d : X) (n : ℕ) → length front ≡ n → slice_index_or (front ++ x ∷ rest) n d ≡ x
get_here [] rest x d n e = subst (λ (k : ℕ). slice_index_or (x ∷ rest) k d ≡ x) e refl
get_here (z ∷ front) rest x d zero e = absurd (omega arith)
get_here (z ∷ front) rest x d (suc n) e = get_here front rest x d n (omega arith)

set_past : {X : Type 0} (xs : List X) (n : ℕ) (y : X) → length xs ≤ n → slice_set xs n y ≡ xs
set_past [] n y h = refl
set_past (x ∷ xs) zero y h = absurd (omega arith)
set_past (x ∷ xs) (suc n) y h = ap (λ l. x ∷ l) (set_past xs n y (omega arith))

set_same : {X : Type 0} (xs : List X) (n : ℕ) (d : X) → slice_set xs n (slice_index_or xs n d) ≡ xs
set_same [] n d = refl
set_same (x ∷ xs) zero d = refl
set_same (x ∷ xs) (suc n) d = ap (λ l. x ∷ l) (set_same xs n d)

set_twice : {X : Type 0} (xs : List X) (n : ℕ) (y z : X) → slice_set (slice_set xs n y) n z ≡ slice_set xs n z
set_twice [] n y z = refl
set_twice (x ∷ xs) zero y z = refl
set_twice (x ∷ xs) (suc n) y z = ap (λ l. x ∷ l) (set_twice xs n y z)

get_set : {X : Type 0} (xs : List X) (n : ℕ) (y d : X) → n < length xs → slice_index_or (slice_set xs n y) n d ≡ y
get_set [] n y d h = absurd (omega arith)
get_set (x ∷ xs) zero y d h = refl
get_set (x ∷ xs) (suc n) y d h = get_set xs n y d (omega arith)

-- numbers written to a list, from a place on

abbrev put_from : ℕ → List ℕ → List ℕ → List ℕ
put_from f [] old = old
put_from f (n ∷ ns) old = put_from (f + 1) ns (slice_set old f n)

put_behind : (front ns olds : List ℕ) (f : ℕ) → length front ≡ f → length ns ≡ length olds → put_from f ns (front ++ olds) ≡ front ++ ns
put_behind front [] [] f e same = refl
put_behind front [] (o ∷ olds) f e same = absurd (omega arith)
put_behind front (n ∷ ns) [] f e same = absurd (omega arith)
put_behind front (n ∷ ns) (o ∷ olds) f e same =
    ap (put_from (f + 1) ns) (set_here front olds o n f e ∙ sym (append_assoc front (n ∷ []) olds))
    ∙ (put_behind (front ++ n ∷ []) ns olds (f + 1) (simp length-append (omega arith)) (omega arith)
    ∙ append_assoc front (n ∷ []) ns)

put_all : (ns olds : List ℕ) → length ns ≡ length olds → put_from 0 ns olds ≡ ns
put_all ns olds same = put_behind [] ns olds 0 refl same

-- numbers written to metadata

abbrev alone : List ℕ → ℕ → Instance
alone numbers place = record { elements = record { valid = true; numbers = numbers } ∷ []; place = place }

abbrev written_in : State → ℕ → ℕ → ℕ → Instance → State
written_in s i f n x =
    cond (slice_index_or x.elements 0 no_header).valid
    (with_instance s i (record { elements = slice_set x.elements 0 (with_field (slice_index_or x.elements 0 no_header) f n); place = x.place })) s

one_written : (s : State) (i f n place : ℕ) (old : List ℕ) → instance_at s i ≡ alone old place → written s (declared i 0 f) n ≡ with_instance s i (alone (slice_set old f n) place)
one_written s i f n place old is = ap (written_in s i f n) is

there : (xs : List Instance) (i place : ℕ) (old : List ℕ) → slice_index_or xs i no_instance ≡ alone old place → i < length xs
there [] i place old e = absurd (cc (ap (λ (x : Instance). x.elements) e))
there (x ∷ xs) zero place old e = omega arith
there (x ∷ xs) (suc i) place old e = let h = there xs i place old e in omega arith

all_written : (ns : List ℕ) (s : State) (i f place : ℕ) (old : List ℕ) → instance_at s i ≡ alone old place → written_from i f ns s ≡ with_instance s i (alone (put_from f ns old) place)
all_written [] s i f place old is =
    sym (ap (λ (x : Instance). with_instance s i x) (sym is) ∙ ap (λ (l : List Instance). record s { instances = l }) (set_same s.instances i no_instance))
all_written (n ∷ ns) s i f place old is =
    ap (written_from i (f + 1) ns) (one_written s i f n place old is)
    ∙ (all_written ns (with_instance s i (alone (slice_set old f n) place)) i (f + 1) place (slice_set old f n)
    (get_set s.instances i (alone (slice_set old f n) place) no_instance (there s.instances i place old is))
    ∙ ap (λ (l : List Instance). record s { instances = l }) (set_twice s.instances i (alone (slice_set old f n) place) (alone (put_from (f + 1) ns (slice_set old f n)) place)))

-- metadata is alone in its instance

counted_one : (shape : Shape) → shape.stack ≡ None → element_count shape ≡ 1
counted_one shape e = ap (λ (o : Option ℕ). element_count (record shape { stack = o })) e

lone : (elements : List Header) (place : ℕ) → length elements ≡ 1 → All IsValid elements → (h : Header) × (elements ≡ h ∷ []) × (h.valid ≡ true)
lone [] place e valid = absurd (omega arith)
lone (h ∷ []) place e valid = (h, refl, All-head IsValid h [] valid)
lone (h ∷ g ∷ more) place e valid = absurd (omega arith)

abbrev element : Bool → List ℕ → Header
element valid numbers = record { valid = valid; numbers = numbers }

is_alone : (shape : Shape) (i : Instance) → shape.metadata ≡ true → shape.stack ≡ None → FitsShape shape i → (old : List ℕ) × (i ≡ alone old i.place) × FitWidths shape.widths old
is_alone shape i meta one fits =
    let h = lone i.elements i.place (fits.count ∙ counted_one shape one) (fits.metadata meta) in
    let first : FitsHeader shape.widths h.0 = All-head (FitsHeader shape.widths) h.0 [] (subst (All (FitsHeader shape.widths)) h.1 fits.each) in (
      h.0.numbers,
      ap (λ (l : List Header). record { elements = l; place = i.place }) h.1
          ∙ ap (λ (b : Bool). record { elements = element b h.0.numbers ∷ []; place = i.place }) h.2,
      first.numbers,
    )

as_long : (widths xs ys : List ℕ) → FitWidths widths xs → FitWidths widths ys → length xs ≡ length ys
as_long [] [] [] h k = refl
as_long [] [] (y ∷ ys) h k = absurd k
as_long [] (x ∷ xs) ys h k = absurd h
as_long (w ∷ widths) [] ys h k = absurd h
as_long (w ∷ widths) (x ∷ xs) [] h k = absurd k
as_long (w ∷ widths) (x ∷ xs) (y ∷ ys) h k = ap suc (as_long widths xs ys h.1 k.1)

abbrev with_by : Bool → List ℕ → Instance → Instance
with_by b numbers i = cond b (alone numbers i.place) i

put_metadata : (shape : Shape) (s : State) (i : ℕ) (numbers : List ℕ) → shape.metadata ≡ true → shape.stack ≡ None → FitsShape shape (instance_at s i) → FitWidths shape.widths numbers → written_from i 0 numbers s ≡ with_instance s i (with_numbers shape numbers (instance_at s i))
put_metadata shape s i numbers meta one fits good =
    let h = is_alone shape (instance_at s i) meta one fits in
    all_written numbers s i 0 (instance_at s i).place h.0 h.1
    ∙ (ap (λ (l : List ℕ). with_instance s i (alone l (instance_at s i).place)) (put_all numbers h.0 (as_long shape.widths numbers h.0 good h.2))
    ∙ ap (λ (b : Bool). with_instance s i (with_by b numbers (instance_at s i))) (sym meta))

put_header : (shape : Shape) (s : State) (i : ℕ) (numbers : List ℕ) → shape.metadata ≡ false → numbers ≡ [] → written_from i 0 numbers s ≡ with_instance s i (with_numbers shape numbers (instance_at s i))
put_header shape s i numbers meta none =
    ap (λ (l : List ℕ). written_from i 0 l s) none
    ∙ (sym (ap (λ (l : List Instance). record s { instances = l }) (set_same s.instances i no_instance))
    ∙ ap (λ (b : Bool). with_instance s i (with_by b numbers (instance_at s i))) (sym meta))

by_kind : (shape : Shape) (s : State) (i : ℕ) (numbers : List ℕ) (b : Bool) → shape.metadata ≡ b → MatchBool b (shape.stack ≡ None) (Unit {0}) → MatchBool b (FitWidths shape.widths numbers) (numbers ≡ []) → FitsShape shape (instance_at s i) → written_from i 0 numbers s ≡ with_instance s i (with_numbers shape numbers (instance_at s i))
by_kind shape s i numbers true meta one good fits = put_metadata shape s i numbers meta one fits good
by_kind shape s i numbers false meta one none fits = put_header shape s i numbers meta none

-- the shape of an instance is whole, also where there is none
pub shape_whole : (layout : List Shape) (i : ℕ) → AreWhole layout → IsWholeShape (shape_at layout i)
shape_whole [] i whole = refl
shape_whole (s ∷ layout) zero whole = All-head IsWholeShape s layout whole
shape_whole (s ∷ layout) (suc i) whole = shape_whole layout i (All-tail IsWholeShape s layout whole)

plain : (b : Bool) (P Q : Type 0) → MatchBool b P Q → MatchBool b P (Unit {0})
plain true P Q h = h
plain false P Q h = _

pub numbers_are_put : (old new : Packet) (i : ℕ) (numbers kept : List ℕ) → AreWhole old.layout → FitsNumbers (shape_at old.layout i) kept → FitsAt old i → numbers ≡ kept → new ≡ with_state old (written_from i 0 numbers old.state) → new ≡ with_state old (numbers_put old.layout i kept old.state)
numbers_are_put old new i numbers kept whole good fits same is =
    let shape = shape_at old.layout i in
    is
    ∙ (ap (λ (l : List ℕ). with_state old (written_from i 0 l old.state)) same
    ∙ ap (with_state old) (by_kind shape old.state i kept shape.metadata refl (plain shape.metadata (shape.stack ≡ None) _ (shape_whole old.layout i whole)) good fits))

-- numbers of metadata have the widths of its fields

within : (widths numbers : List ℕ) → FitWidths widths numbers → (f : ℕ) → f < length numbers → slice_index numbers f < 2 ^ slice_index widths f
within [] [] h f lt = absurd (omega arith)
within [] (n ∷ numbers) h f lt = absurd h
within (w ∷ widths) [] h f lt = absurd h
within (w ∷ widths) (n ∷ numbers) h zero lt = h.0
within (w ∷ widths) (n ∷ numbers) h (suc f) lt = within widths numbers h.1 f (omega arith)

none_within : (numbers : List ℕ) (widths : List ℕ) → numbers ≡ [] → (f : ℕ) → f < length numbers → slice_index numbers f < 2 ^ slice_index widths f
none_within numbers widths e f lt = let n : length numbers ≡ 0 = ap length e in absurd (omega arith)

within_by : (b : Bool) (widths numbers : List ℕ) → MatchBool b (FitWidths widths numbers) (numbers ≡ []) → (f : ℕ) → f < length numbers → slice_index numbers f < 2 ^ slice_index widths f
within_by true widths numbers h = within widths numbers h
within_by false widths numbers h = none_within numbers widths h

pub numbers_within : (layout : List Shape) (i : ℕ) (numbers kept : List ℕ) → numbers ≡ kept → FitsNumbers (shape_at layout i) kept → (f : ℕ) → f < length numbers → slice_index numbers f < 2 ^ width_at layout i f
numbers_within layout i numbers kept same good =
    subst (λ (l : List ℕ). (f : ℕ) → f < length l → slice_index l f < 2 ^ width_at layout i f) (sym same)
    (within_by (shape_at layout i).metadata (shape_at layout i).widths kept good)

pub within_now : (old now : List Shape) (i field place : ℕ) (numbers : List ℕ) (d : ℕ) → now ≡ old → field ≡ place → place < length numbers → ((f : ℕ) → f < length numbers → slice_index numbers f < 2 ^ width_at old i f) → get_or numbers place d < 2 ^ width_at now i field
within_now old now i field place numbers d same at lt each =
    let there : get_or numbers place d ≡ slice_index numbers place = get_or_default numbers place d 0 lt in
    subst (λ (l : List Shape). get_or numbers place d < 2 ^ width_at l i field) (sym same)
    (subst (λ (f : ℕ). get_or numbers place d < 2 ^ width_at old i f) (sym at) (subst (λ (n : ℕ). n < 2 ^ width_at old i place) (sym there) (each place lt)))

-- turns of the loops

pub next_written : (i : ℕ) (numbers : List ℕ) (f : ℕ) (d : ℕ) (now new : Packet) (due : State) → f < length numbers → new ≡ with_state now (written now.state (declared i 0 f) (get_or numbers f d)) → written_from i f (drop f numbers) now.state ≡ due → written_from i (f + 1) (drop (f + 1) numbers) new.state ≡ due
next_written i numbers f d now new due lt is all =
    ap (λ (p : Packet). written_from i (f + 1) (drop (f + 1) numbers) p.state) is
    ∙ (ap (λ l. written_from i f l now.state) (sym (next_items numbers f d lt)) ∙ all)

pub next_put : (layout : List Shape) (q : Preserved) (i : ℕ) (d : List ℕ) (now new : Packet) (due : State) → i < length q → now.layout ≡ layout → new ≡ with_state now (numbers_put now.layout i (get_or q i d) now.state) → all_put_from layout i (drop i q) now.state ≡ due → all_put_from layout (i + 1) (drop (i + 1) q) new.state ≡ due
next_put layout q i d now new due lt same is all =
    ap (λ (p : Packet). all_put_from layout (i + 1) (drop (i + 1) q) p.state) is
    ∙ (ap (λ (l : List Shape). all_put_from layout (i + 1) (drop (i + 1) q) (numbers_put l i (get_or q i d) now.state)) same
    ∙ (ap (λ l. all_put_from layout i l now.state) (sym (next_items q i d lt)) ∙ all))

pub kept_at_place : (layout : List Shape) (q : Preserved) (i : ℕ) (d : List ℕ) → FitsKept layout q → i < length q → FitsNumbers (shape_at layout i) (get_or q i d)
kept_at_place [] [] i d h lt = absurd (omega arith)
kept_at_place [] (n ∷ q) i d h lt = absurd h
kept_at_place (s ∷ layout) [] i d h lt = absurd h
kept_at_place (s ∷ layout) (n ∷ q) zero d h lt = h.0
kept_at_place (s ∷ layout) (n ∷ q) (suc i) d h lt = kept_at_place layout q i d h.1 (omega arith)

-- all instances

abbrev put_list : List Shape → ℕ → Preserved → List Instance → List Instance
put_list layout i [] xs = xs
put_list layout i (numbers ∷ q) xs =
    put_list layout (i + 1) q (slice_set xs i (with_numbers (shape_at layout i) numbers (slice_index_or xs i no_instance)))

by_list : (layout : List Shape) (i : ℕ) (q : Preserved) (s : State) → all_put_from layout i q s ≡ record s { instances = put_list layout i q s.instances }
by_list layout i [] s = refl
by_list layout i (numbers ∷ q) s = by_list layout (i + 1) q (numbers_put layout i numbers s)

list_past : (layout : List Shape) (i : ℕ) (q : Preserved) (xs : List Instance) → length xs ≤ i → put_list layout i q xs ≡ xs
list_past layout i [] xs h = refl
list_past layout i (numbers ∷ q) xs h =
    ap (put_list layout (i + 1) q) (set_past xs i (with_numbers (shape_at layout i) numbers (slice_index_or xs i no_instance)) h)
    ∙ list_past layout (i + 1) q xs (omega arith)

longer : {X : Type 0} (front : List X) (x : X) (i : ℕ) → length front ≡ i → length (front ++ x ∷ []) ≡ i + 1
longer front x i e = simp length-append (omega arith)

all_by_list : (before layout : List Shape) (front rest : List Instance) (q : Preserved) (i : ℕ) → length before ≡ i → length front ≡ i → length q ≡ length layout → put_list (before ++ layout) i q (front ++ rest) ≡ front ++ with_all_numbers layout q rest
all_by_list before [] front rest [] i e f same = refl
all_by_list before [] front rest (n ∷ q) i e f same = absurd (omega arith)
all_by_list before (s ∷ layout) front rest [] i e f same = absurd (omega arith)
all_by_list before (s ∷ layout) front [] (n ∷ q) i e f same =
    list_past (before ++ s ∷ layout) i (n ∷ q) (front ++ []) (simp length-append (omega arith))
all_by_list before (s ∷ layout) front (x ∷ rest) (n ∷ q) i e f same =
    ap (put_list (before ++ s ∷ layout) (i + 1) q)
    (ap₂ (λ (h : Shape) (y : Instance). slice_set (front ++ x ∷ rest) i (with_numbers h n y)) (get_here before layout s no_shape i e) (get_here front rest x no_instance i f)
    ∙ (set_here front rest x (with_numbers s n x) i f ∙ sym (append_assoc front (with_numbers s n x ∷ []) rest)))
    ∙ (ap (λ (l : List Shape). put_list l (i + 1) q ((front ++ with_numbers s n x ∷ []) ++ rest)) (sym (append_assoc before (s ∷ []) layout))
    ∙ (all_by_list (before ++ s ∷ []) layout (front ++ with_numbers s n x ∷ []) rest q (i + 1) (longer before s i e) (longer front (with_numbers s n x) i f) (omega arith)
    ∙ append_assoc front (with_numbers s n x ∷ []) (with_all_numbers layout q rest)))

same_length : (layout : List Shape) (q : Preserved) → FitsKept layout q → length q ≡ length layout
same_length [] [] h = refl
same_length [] (n ∷ q) h = absurd h
same_length (s ∷ layout) [] h = absurd h
same_length (s ∷ layout) (n ∷ q) h = ap suc (same_length layout q h.1)

pub all_are_put : (layout : List Shape) (q : Preserved) (s : State) → FitsKept layout q → all_put_from layout 0 q s ≡ with_kept layout q s
all_are_put layout q s fits =
    by_list layout 0 q s
    ∙ ap (λ (l : List Instance). record s { instances = l }) (all_by_list [] layout [] s.instances q 0 refl refl (same_length layout q fits))

none_left : {X : Type 0} (xs : List X) (i : ℕ) → length xs ≤ i → drop i xs ≡ []
none_left [] zero h = refl
none_left [] (suc i) h = refl
none_left (x ∷ xs) zero h = absurd (omega arith)
none_left (x ∷ xs) (suc i) h = none_left xs i (omega arith)

-- the end of the loop over instances
pub put_done : (q sets : Preserved) (place : ℕ) (now old : Packet) → length sets ≤ place → sets ≡ q → now.layout ≡ old.layout → all_put_from old.layout place (drop place sets) now.state ≡ all_put_from old.layout 0 sets old.state → FitsKept old.layout q → now ≡ with_state old (with_kept old.layout q old.state)
put_done q sets place now old le same laid put fits =
    let state : now.state ≡ with_kept old.layout q old.state =
    ap (λ (l : Preserved). all_put_from old.layout place l now.state) (sym (none_left sets place le))
    ∙ (put ∙ (ap (λ (l : Preserved). all_put_from old.layout 0 l old.state) same ∙ all_are_put old.layout q old.state fits)) in
    ap₂ (λ (l : List Shape) (s : State). record { layout = l; state = s }) laid state

-- of a program

same_by : (ds rest : List Decl) (q : Preserved) (instances : List Instance) → with_all_numbers (map (shape_in ds) (declared_in sort.Instance rest)) q instances ≡ with_preserved_from (declared_in sort.Instance rest) q instances
same_by ds [] q instances = refl
same_by ds (decl.Header x ∷ rest) [] instances = refl
same_by ds (decl.Header x ∷ rest) (n ∷ q) [] = refl
same_by ds (decl.Header x ∷ rest) (n ∷ q) (i ∷ instances) = ap (λ (l : List Instance). i ∷ l) (same_by ds rest q instances)
same_by ds (decl.Metadata x ∷ rest) [] instances = refl
same_by ds (decl.Metadata x ∷ rest) (n ∷ q) [] = refl
same_by ds (decl.Metadata x ∷ rest) (n ∷ q) (i ∷ instances) = ap (λ (l : List Instance). alone n i.place ∷ l) (same_by ds rest q instances)
same_by ds (decl.HeaderType x ∷ rest) q instances = same_by ds rest q instances
same_by ds (decl.FieldList x ∷ rest) q instances = same_by ds rest q instances
same_by ds (decl.FieldListCalculation x ∷ rest) q instances = same_by ds rest q instances
same_by ds (decl.CalculatedField x ∷ rest) q instances = same_by ds rest q instances
same_by ds (decl.Parser x ∷ rest) q instances = same_by ds rest q instances
same_by ds (decl.Action x ∷ rest) q instances = same_by ds rest q instances
same_by ds (decl.Table x ∷ rest) q instances = same_by ds rest q instances
same_by ds (decl.Counter x ∷ rest) q instances = same_by ds rest q instances
same_by ds (decl.Meter x ∷ rest) q instances = same_by ds rest q instances
same_by ds (decl.Register x ∷ rest) q instances = same_by ds rest q instances
same_by ds (decl.Control x ∷ rest) q instances = same_by ds rest q instances
same_by ds (decl.LeftOut x ∷ rest) q instances = same_by ds rest q instances

pub kept_preserved : (ds : List Decl) (q : Preserved) (s : State) → with_kept (layout_of ds) q s ≡ with_preserved ds q s
kept_preserved ds q s = ap (λ (l : List Instance). record s { instances = l }) (same_by ds ds q s.instances)

-- an item as its pass begins
pub item_begins : (layout : List Shape) (octets : List ℕ) (port kind : ℕ) (q : Preserved) (made new : Packet) → made ≡ new_packet layout octets port kind → new ≡ with_state made (with_kept made.layout q made.state) → (ds : List Decl) → layout ≡ layout_of ds → new ≡ record { layout = layout_of ds; state = with_preserved ds q (new_state ds octets port kind) }
item_begins layout octets port kind q made new is became ds same =
    let done : Result Packet ℕ = Ok made in
    let begun : made ≡ record { layout = layout_of ds; state = new_state ds octets port kind } = new_of_layout {E = ℕ} ds layout octets octets port kind done is same refl in
    became
    ∙ (ap (λ (p : Packet). with_state p (with_kept p.layout q p.state)) begun
    ∙ ap (λ (s : State). record { layout = layout_of ds; state = s }) (kept_preserved ds q (new_state ds octets port kind)))

-- a clone behind egress
pub clone_as : (q : Preserved) (old copy kept clone : Packet) → copy ≡ old → kept ≡ with_state copy (with_kept copy.layout q copy.state) → clone ≡ with_state kept (egress_begins kept.state 0 0) → (ds : List Decl) → old.layout ≡ layout_of ds → (record { state = clone.state; failed = false } ≡ cloned ds q old.state) × (clone.layout ≡ layout_of ds)
clone_as q old copy kept clone same was is ds laid =
    let all : clone ≡ record { layout = old.layout; state = egress_begins (with_kept old.layout q old.state) 0 0 } =
    is
    ∙ (ap (λ (p : Packet). with_state p (egress_begins p.state 0 0)) was
    ∙ ap (λ (p : Packet). record { layout = p.layout; state = egress_begins (with_kept p.layout q p.state) 0 0 }) same) in (
      ap (λ (p : Packet). record { state = p.state; failed = false }) all
          ∙ (ap (λ (l : List Shape). record { state = egress_begins (with_kept l q old.state) 0 0; failed = false }) laid
          ∙ ap (λ (s : State). record { state = egress_begins s 0 0; failed = false }) (kept_preserved ds q old.state)),
      ap (λ (p : Packet). p.layout) all ∙ laid,
    )
