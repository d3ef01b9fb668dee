-- What a row of parameters says after some calls: of each parameter the most bits that these calls ask of it.
use Rattle.std.proofs.Common.{◌≡◌, ℕ, zero, suc, ◌+◌, ◌<◌, ◌≤◌, inl, inr, ⊎_elim, Bool, true, false, cond, is_some, nat_eq, List, [], ◌∷◌, ◌++◌, length, get_or, map, max, replicate, flat_map, Option, Some, None, refl, sym, ap, ◌∙◌, arith, eq-eqb}
use Rattle.std.specs.Prelude.{fold, unwrap_or}
use Rattle.std.specs.List.{cons_option}
use Rattle.std.specs.Str.{bytes_eq}
use Rattle.std.proofs.lemmas.Bool.{cases_eq, cases_lt, ne_eqb}
use Rattle.std.proofs.lemmas.List.{get_or_past, get_or-replicate, get_or-set_same, get_or-set_other, length-map, length-replicate}
use Rattle.std.proofs.lemmas.List.Quantifiers.{position-Some}
use Rattle.digraph.specs.Graphs.{Among}
use Rattle.p414_syntax.specs.declared.actions.Action.{Action}
use Rattle.p414_syntax.specs.declared.actions.Arg.{Arg}
use Rattle.p414_syntax.specs.declared.actions.Arg.TheVariants as arg
use Rattle.p414_syntax.specs.declared.actions.Call.{Call}
use Rattle.p414_syntax.specs.declared.parts.Inst.{Inst}
use Rattle.p414_syntax.specs.declared.syntax.Decl.{Decl}
use Rattle.p414_syntax.specs.declared.place.ArgumentPlace.{ArgumentPlace}
use Rattle.p414_syntax.specs.Names.{Name, find_name}
use Rattle.p414_syntax.specs.Arguments.{Argument, number_argument, field_argument, parameter_argument, name_argument, Invocation, PlacedArgument, parameter_or_name, argument_of, invocation_of, invocations_of, action_number, wanted_of, placed, placed_in}
use Rattle.p414_action_check.proofs.Expanding.{called}
use Rattle.p414_sem.specs.Signatures.{is_use_of, use_widths_from, wanted_at, use_width, use_widths, greatest}
use Rattle.p414_parameter_widths.specs.internal.Noting.{asked_more, noted, noted_argument, noted_from, row_at, noted_by, noted_invocation, noted_calls, width_of}
use Rattle.p414_parameter_widths.proofs.Rows.{argument_length, by_length, calls_length, primitive_is}

-- bits that are asked one after another

abbrev pub all_asked : Option ℕ → List ℕ → Option ℕ
all_asked o [] = o
all_asked o (n ∷ ns) = all_asked (Some (asked_more o n)) ns

asked_two : (o : Option ℕ) (xs ys : List ℕ) → all_asked o (xs ++ ys) ≡ all_asked (all_asked o xs) ys
asked_two o [] ys = refl
asked_two o (x ∷ xs) ys = asked_two (Some (asked_more o x)) xs ys

greatest_from : (n : ℕ) (ns : List ℕ) → width_of (all_asked (Some n) ns) ≡ fold max n ns
greatest_from n [] = refl
greatest_from n (m ∷ ns) = greatest_from (max n m) ns

is_greatest : (ns : List ℕ) → width_of (all_asked None ns) ≡ greatest ns
is_greatest [] = refl
is_greatest (n ∷ ns) = greatest_from n ns

-- the width of a parameter by the rows that are known
abbrev pub width_in : List (List ℕ) → ℕ → ℕ → ℕ
width_in rows action p = get_or (row_at rows action) p 8

-- one argument

one_parameter : (row : List (Option ℕ)) (p q bits : ℕ) → p < length row → get_or (noted row q bits) p None ≡ all_asked (get_or row p None) (cond (nat_eq q p) (bits ∷ []) [])
one_parameter row p q bits lt =
    ⊎_elim
    (λ same.
    ap (λ k. get_or (noted row k bits) p None) same
    ∙ (get_or-set_same row p (Some (asked_more (get_or row p None) bits)) None lt
    ∙ sym (ap (λ b. all_asked (get_or row p None) (cond b (bits ∷ []) [])) (eq-eqb q p same))))
    (λ differs.
    get_or-set_other row q p (Some (asked_more (get_or row q None) bits)) None (λ e. differs (sym e))
    ∙ sym (ap (λ b. all_asked (get_or row p None) (cond b (bits ∷ []) [])) (ne_eqb q p differs)))
    (cases_eq q p)

one_argument : (row : List (Option ℕ)) (p : ℕ) (a : Argument) (bits : ℕ) → p < length row → get_or (noted_argument row a bits) p None ≡ all_asked (get_or row p None) (cond (is_use_of p a) (bits ∷ []) [])
one_argument row p (number_argument n) bits lt = refl
one_argument row p (field_argument r) bits lt = refl
one_argument row p (name_argument i) bits lt = refl
one_argument row p (parameter_argument q) bits lt = one_parameter row p q bits lt

one_more : (o : Option ℕ) (b : Bool) (n m : ℕ) (xs : List ℕ) → n ≡ m → all_asked (all_asked o (cond b (n ∷ []) [])) xs ≡ all_asked o (cond b (m ∷ xs) xs)
one_more o true n m xs e = ap (λ k. all_asked (Some (asked_more o k)) xs) e
one_more o false n m xs e = refl

-- the arguments of a call
from_asks : (f : ℕ → ArgumentPlace → ℕ) (g : ℕ → ℕ) (whole : List PlacedArgument) (p : ℕ) (rest : List PlacedArgument) (k : ℕ) (row : List (Option ℕ)) → ((j : ℕ) → f j (wanted_at whole j) ≡ g j) → ((j : ℕ) → wanted_at whole (k + j) ≡ wanted_at rest j) → p < length row
    → get_or (noted_from f row k rest) p None ≡ all_asked (get_or row p None) (use_widths_from g p k rest)
from_asks f g whole p [] k row bits at lt = refl
from_asks f g whole p (a ∷ rest) k row bits at lt =
    let next : List (Option ℕ) = noted_argument row a.argument (f k a.wanted) in
    let same : length (noted_argument row a.argument (f k a.wanted)) ≡ length row = argument_length row a.argument (f k a.wanted) in
    let more : p < length (noted_argument row a.argument (f k a.wanted)) = omega arith in
    let here : wanted_at whole k ≡ a.wanted = ap (wanted_at whole) (omega arith) ∙ at 0 in
    let value : f k a.wanted ≡ g k = ap (f k) (sym here) ∙ bits k in
    from_asks f g whole p rest (k + 1) (noted_argument row a.argument (f k a.wanted)) bits (λ j. ap (wanted_at whole) (omega arith) ∙ at (suc j)) more
    ∙ (ap (λ o. all_asked o (use_widths_from g p (k + 1) rest)) (one_argument row p a.argument (f k a.wanted) lt)
    ∙ one_more (get_or row p None) (is_use_of p a.argument) (f k a.wanted) (g k) (use_widths_from g p (k + 1) rest) value)

by_asks : (ds : List Decl) (rows : List (List ℕ)) (p : ℕ) (row : List (Option ℕ)) (i : Invocation) (o : Option ℕ) → p < length row
    → get_or (noted_by ds rows row i o) p None ≡ all_asked (get_or row p None) (use_widths_from (use_width ds (width_in rows) i o) p 0 (placed_in ds i))
by_asks ds rows p row i (Some callee) lt =
    from_asks (λ place wanted. get_or (row_at rows callee) place 8) (use_width ds (width_in rows) i (Some callee)) (placed_in ds i) p (placed_in ds i) 0 row (λ j. refl) (λ j. ap (wanted_at (placed_in ds i)) (omega arith)) lt
by_asks ds rows p row i None lt =
    ap (λ l. get_or l p None) (primitive_is _ _ row 0 (placed_in ds i))
    ∙ from_asks _ (use_width ds (width_in rows) i None) (placed_in ds i) p (placed_in ds i) 0 row (λ j. refl) (λ j. ap (wanted_at (placed_in ds i)) (omega arith)) lt

calls_ask : (ds : List Decl) (rows : List (List ℕ)) (p : ℕ) (calls : List Invocation) (row : List (Option ℕ)) → p < length row
    → get_or (noted_calls ds rows row calls) p None ≡ all_asked (get_or row p None) (flat_map (use_widths ds (width_in rows) p) calls)
calls_ask ds rows p [] row lt = refl
calls_ask ds rows p (i ∷ calls) row lt =
    let same : length (noted_invocation ds rows row i) ≡ length row = by_length ds rows row i (action_number ds i.callee) in
    let more : p < length (noted_invocation ds rows row i) = omega arith in
    calls_ask ds rows p calls (noted_invocation ds rows row i) more
    ∙ (ap (λ o. all_asked o (flat_map (use_widths ds (width_in rows) p) calls)) (by_asks ds rows p row i (action_number ds i.callee) lt)
    ∙ sym (asked_two (get_or row p None) (use_widths ds (width_in rows) p i) (flat_map (use_widths ds (width_in rows) p) calls)))

-- of a parameter that an action doesn't have nothing is asked

named_other : (ps : List Name) (i : Inst) (p : ℕ) (b : Bool) (o : Option ℕ) → find_name ps i.name ≡ o → length ps ≤ p → is_use_of p (cond b (name_argument i) (parameter_or_name o i)) ≡ false
named_other ps i p true o is le = refl
named_other ps i p false None is le = refl
named_other ps i p false (Some n) is le =
    let lt : n < length ps = (position-Some (bytes_eq i.name) ps n [] is).0 in
    ne_eqb n p (λ e. absurd (omega arith))

other : (ps : List Name) (x : Arg) (p : ℕ) → length ps ≤ p → is_use_of p (argument_of ps x) ≡ false
other ps (arg.Number n) p le = refl
other ps (arg.Field r) p le = refl
other ps (arg.Instance i) p le = named_other ps i p (is_some i.index) (find_name ps i.name) refl le

none_asked : (g : ℕ → ℕ) (ps : List Name) (p k : ℕ) (places : List ArgumentPlace) (xs : List Arg) → length ps ≤ p → use_widths_from g p k (placed places (map (argument_of ps) xs)) ≡ []
none_asked g ps p k [] xs le = refl
none_asked g ps p k (w ∷ places) [] le = refl
none_asked g ps p k (w ∷ places) (x ∷ xs) le =
    ap (λ b. cond b (g k ∷ use_widths_from g p (k + 1) (placed places (map (argument_of ps) xs))) (use_widths_from g p (k + 1) (placed places (map (argument_of ps) xs)))) (other ps x p le)
    ∙ none_asked g ps p (k + 1) places xs le

calls_none : (ds : List Decl) (inner : ℕ → ℕ → ℕ) (ps : List Name) (p : ℕ) (calls : List Call) → length ps ≤ p → flat_map (use_widths ds inner p) (map (invocation_of ps) calls) ≡ []
calls_none ds inner ps p [] le = refl
calls_none ds inner ps p (c ∷ calls) le =
    ap (λ l. l ++ flat_map (use_widths ds inner p) (map (invocation_of ps) calls)) (none_asked _ ps p 0 (unwrap_or (wanted_of ds c.name) []) c.arguments le)
    ∙ calls_none ds inner ps p calls le

-- the width of a parameter, by the widths of the parameters of the actions that are called

at_none : (row : List (Option ℕ)) (p : ℕ) → get_or (map width_of row) p 8 ≡ width_of (get_or row p None)
at_none [] zero = refl
at_none [] (suc p) = refl
at_none (o ∷ row) zero = refl
at_none (o ∷ row) (suc p) = at_none row p

abbrev blank : ℕ → List (Option ℕ)
blank count = replicate count None

blank_length : (count : ℕ) → length (blank count) ≡ count
blank_length count = length-replicate count None

abbrev pub row_of : List Decl → List (List ℕ) → Action → List (Option ℕ)
row_of ds rows a = noted_calls ds rows (replicate (length a.parameters) None) (invocations_of a)

row_length : (ds : List Decl) (rows : List (List ℕ)) (a : Action) → length (row_of ds rows a) ≡ length a.parameters
row_length ds rows a = calls_length ds rows (replicate (length a.parameters) None) (invocations_of a) ∙ length-replicate (length a.parameters) None

pub widths_length : (ds : List Decl) (rows : List (List ℕ)) (a : Action) → length (map width_of (row_of ds rows a)) ≡ length a.parameters
widths_length ds rows a = length-map (row_of ds rows a) width_of ∙ row_length ds rows a

wide_within : (ds : List Decl) (rows : List (List ℕ)) (a : Action) (p : ℕ) → p < length a.parameters → width_of (get_or (row_of ds rows a) p None) ≡ greatest (flat_map (use_widths ds (width_in rows) p) (invocations_of a))
wide_within ds rows a p lt =
    let count : length (blank (length a.parameters)) ≡ length a.parameters = blank_length (length a.parameters) in
    let there : p < length (blank (length a.parameters)) = omega arith in
    ap width_of (calls_ask ds rows p (invocations_of a) (blank (length a.parameters)) there
    ∙ ap (λ o. all_asked o (flat_map (use_widths ds (width_in rows) p) (invocations_of a))) (get_or-replicate (length a.parameters) p None None lt))
    ∙ is_greatest (flat_map (use_widths ds (width_in rows) p) (invocations_of a))

wide_beyond : (ds : List Decl) (rows : List (List ℕ)) (a : Action) (p : ℕ) → length a.parameters ≤ p → width_of (get_or (row_of ds rows a) p None) ≡ greatest (flat_map (use_widths ds (width_in rows) p) (invocations_of a))
wide_beyond ds rows a p le =
    let count : length (row_of ds rows a) ≡ length a.parameters = row_length ds rows a in
    ap width_of (get_or_past (row_of ds rows a) p None (omega arith))
    ∙ sym (ap greatest (calls_none ds (width_in rows) a.parameters p a.calls le))

pub wide : (ds : List Decl) (rows : List (List ℕ)) (a : Action) (p : ℕ) → get_or (map width_of (row_of ds rows a)) p 8 ≡ greatest (flat_map (use_widths ds (width_in rows) p) (invocations_of a))
wide ds rows a p =
    at_none (row_of ds rows a) p
    ∙ ⊎_elim (wide_within ds rows a p) (wide_beyond ds rows a p) (cases_lt p (length a.parameters))

-- it is the same by other widths that are the same for these actions

either : (b : Bool) (x y : ℕ) (xs ys : List ℕ) → x ≡ y → xs ≡ ys → cond b (x ∷ xs) xs ≡ cond b (y ∷ ys) ys
either true x y xs ys e f = ap (λ n. n ∷ xs) e ∙ ap (λ l. y ∷ l) f
either false x y xs ys e f = f

at_same : (f g : ℕ → ℕ) (p k : ℕ) (args : List PlacedArgument) → ((j : ℕ) → f j ≡ g j) → use_widths_from f p k args ≡ use_widths_from g p k args
at_same f g p k [] h = refl
at_same f g p k (a ∷ args) h = either (is_use_of p a.argument) (f k) (g k) (use_widths_from f p (k + 1) args) (use_widths_from g p (k + 1) args) (h k) (at_same f g p (k + 1) args h)

by_same : (ds : List Decl) (f g : ℕ → ℕ → ℕ) (i : Invocation) (o : Option ℕ) → ((c : ℕ) → o ≡ Some c → (k : ℕ) → f c k ≡ g c k) → (j : ℕ) → use_width ds f i o j ≡ use_width ds g i o j
by_same ds f g i None h j = refl
by_same ds f g i (Some c) h j = h c refl j

first_called : (c : ℕ) (o : Option ℕ) (rest : List ℕ) → o ≡ Some c → Among c (cons_option o rest)
first_called c None rest e = absurd (cc e)
first_called c (Some n) rest e = inl (sym (cc e))

later_called : (c : ℕ) (o : Option ℕ) (rest : List ℕ) → Among c rest → Among c (cons_option o rest)
later_called c None rest h = h
later_called c (Some n) rest h = inr h

pub calls_same : (ds : List Decl) (f g : ℕ → ℕ → ℕ) (p : ℕ) (calls : List Invocation) → ((c : ℕ) → Among c (called ds calls) → (k : ℕ) → f c k ≡ g c k)
    → flat_map (use_widths ds f p) calls ≡ flat_map (use_widths ds g p) calls
calls_same ds f g p [] h = refl
calls_same ds f g p (i ∷ calls) h =
    ap (λ l. l ++ flat_map (use_widths ds f p) calls)
    (at_same _ _ p 0 (placed_in ds i) (by_same ds f g i (action_number ds i.callee) (λ c e k. h c (first_called c (action_number ds i.callee) (called ds calls) e) k)))
    ∙ ap (λ l. use_widths ds g p i ++ l) (calls_same ds f g p calls (λ c among k. h c (later_called c (action_number ds i.callee) (called ds calls) among) k))
