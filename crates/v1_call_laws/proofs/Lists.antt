-- The parameters of an action enter one after another, and go back in the order of their positions.
use Rattle.std.proofs.Common.{◌≡◌, ◌≢◌, ◌⊎◌, inl, inr, ℕ, zero, suc, ◌+◌, ◌<◌, ◌≤◌, ◌||◌, Bool, true, false, cond, Option, Some, None, IfSome, List, [], ◌∷◌, ◌++◌, length, map, get_or, refl, sym, ap, ◌∙◌, subst, arith}
use Rattle.std.specs.Prelude.{option_map, option_and_then}
use Rattle.std.proofs.lemmas.Slice.Eq.{bytes_eq-Decides}
use Rattle.p416_syntax.specs.declared.parts.Direction.{Direction}
use Rattle.p416_syntax.specs.declared.parts.Direction.TheVariants.{In, Out, InOut}
use Rattle.p416_syntax.specs.declared.parts.Param.{Param}
use Rattle.p416_syntax.specs.Tree.{Exp16}
use Rattle.p416_syntax.specs.Names.{Name}
use Rattle.p416_syntax.specs.Kinds.{Kind, unknown}
use Rattle.p416_syntax.specs.Scopes.{Layout as TypeLayout, Scope, Handed, kind_of_type}
use Rattle.p416_syntax.specs.Calls.{place_of}
use Rattle.p416_syntax.specs.Breaks.{BreaksNone, program_rules}
use Rattle.p416_syntax.specs.Declarations.{layouts_of}
use Rattle.v1_core.specs.Values.{Value, a_member, member_in, zero_value, Slice as SliceOf}
use Rattle.v1_core.specs.Frames as sem
use Rattle.v1_core.specs.Frames.{Reference, put_at}
use Rattle.v1_core.specs.Slots.{the_variable, variable_kinds, parameter_kind}
use Rattle.v1_core.specs.Surroundings as meaning
use Rattle.v1_core.specs.Numbered.{InScope, named_values}
use Rattle.v1_core.specs.Calls as calls
use Rattle.v1_core.specs.Calls.{argument_at, arguments_from, copied_in, bound_arguments, copied_back, copied_out}
use Rattle.v1_core.specs.Cells.{Cells}
use Rattle.v1_core.specs.Seats.{Content, Form, slot_form, header_form, stack_form, struct_form, no_form, form_of, Start, behind, Seat}
use Rattle.v1_core.specs.Programs.{frame_kinds, first_start, seat_in, owner_seat, numbered16}
use Rattle.v1_core.specs.Scopes.{AreAway, IsScope}
use Rattle.v1_ready_forms.specs.Named.{NamedSeat, seats_in}
use Rattle.v1_ready_forms.specs.Spots.{Told}
use Rattle.v1_ready_laws.specs.Rules.{NamesSeated}
use Rattle.v1_block_laws.specs.Keeping.{Each, ArgumentsKeep}
use Rattle.v1_block_laws.specs.Standing.{IsOfKind, AreOfKinds}
use Rattle.v1_block_laws.specs.Variables.{parameters_from}
use Rattle.v1_ready_blocks.specs.declared.places.Target.{Target}
use Rattle.v1_ready_blocks.specs.declared.places.Range.{Range}
use Rattle.v1_ready_blocks.specs.Moments.{Moment, with_cells}
use Rattle.v1_ready_blocks.specs.Tests.{World}
use Rattle.v1_ready_blocks.specs.Arguments.{Incoming, Outgoing, value_out, parts_out, all_in, placed, all_back}
use Rattle.v1_place_laws.specs.Places.{Meant, meant_by, range_of, range_place_of}
use Rattle.v1_deed_laws.specs.Forms.{IsParted}
use Rattle.v1_ready_statements.specs.Around.{Around, variable_seat}
use Rattle.v1_ready_statements.specs.Targets.{fixed_range, target_of, target_given, parts_meant, range_given}
use Rattle.v1_ready_statements.specs.Tested.{applies}
use Rattle.v1_ready_statements.specs.Given.{cons_option, join_option, any_applies, is_back, is_out, incoming_at, outgoing_at, incoming_of, outgoing_of, all_incoming, all_outgoing}
use Rattle.v1_value_laws.specs.Kinds.{Fine}
use Rattle.v1_statement_laws.specs.Behind.{Shown}
use Rattle.v1_statement_laws.proofs.Closing.{running_is}
use Rattle.v1_statement_laws.proofs.Starting.{mapped_at}
use Rattle.v1_call_laws.specs.Telling.{ToldNone, TestsTell}
use Rattle.v1_call_laws.proofs.Targets.{targeted}
use Rattle.v1_call_laws.specs.Sourcing.{SourcesTell, FormsAgree}
use Rattle.v1_call_laws.specs.Handing.{AreHanded, NoneIsCalled, NamesDiffer}
use Rattle.v1_call_laws.proofs.Setting.{value_at, set_shown}
use Rattle.v1_call_laws.proofs.Incoming.{Entered, slot_enters, parts_enter, zero_enters, Stepped, step}
use Rattle.v1_call_laws.proofs.Parameters.{Stands, Held, Bound, OutWay, out_slot, out_parts, Aims}
use Rattle.v1_call_laws.proofs.Outgoing.{Returned, returns}

-- a value among values of these kinds stands at a seat of its form
seat_kind : (types : List TypeLayout) (kinds : List Kind) (b : Start) (number : ℕ) → number < length kinds → IfSome (seat_in types kinds b number) (λ t. t.form ≡ form_of (get_or kinds number unknown))
seat_kind types [] b number lt = tt
seat_kind types (k ∷ kinds) b zero lt = refl
seat_kind types (k ∷ kinds) b (suc number) lt = seat_kind types kinds (behind types (length types) (form_of k) b) number (omega (arith, lt))

at_some : {A : Type 0} (B : A → Type 0) (o : Option A) (x : A) → o ≡ Some x → IfSome o B → B x
at_some {A = A} B o x is h = subst (λ (p : Option A). IfSome p B) is h

pub record Consed {A : Type 0} (o : Option A) (p : Option (List A)) (zs : List A) : Type 0 where
  pub head : A
  pub tail : List A
  pub first : o ≡ Some head
  pub rest : p ≡ Some tail
  pub is : zs ≡ head ∷ tail

pub consed : {A : Type 0} (o : Option A) (p : Option (List A)) (zs : List A) → cons_option o p ≡ Some zs → Consed o p zs
consed None p zs is = absurd (cc is)
consed (Some x) None zs is = absurd (cc is)
consed (Some x) (Some xs) zs is = let same : x ∷ xs ≡ zs = cc is in record { head = x; tail = xs; first = refl; rest = refl; is = sym same }

pub record Joined {A : Type 0} (o p : Option (List A)) (zs : List A) : Type 0 where
  pub front : List A
  pub back : List A
  pub first : o ≡ Some front
  pub rest : p ≡ Some back
  pub is : zs ≡ front ++ back

pub joined : {A : Type 0} (o p : Option (List A)) (zs : List A) → join_option o p ≡ Some zs → Joined o p zs
joined None p zs is = absurd (cc is)
joined (Some xs) None zs is = absurd (cc is)
joined (Some xs) (Some ys) zs is = let same : xs ++ ys ≡ zs = cc is in record { front = xs; back = ys; first = refl; rest = refl; is = sym same }

both_back : (xs ys : List Outgoing) (c : Cells) → all_back (xs ++ ys) c ≡ all_back ys (all_back xs c)
both_back [] ys c = refl
both_back (x ∷ xs) ys c = both_back xs ys _

first_off : (a b : Bool) → (a || b) ≡ false → (a ≡ false) × (b ≡ false)
first_off true b is = absurd (cc is)
first_off false b is = (refl, is)

-- an `out` or `inout` parameter goes back
back_put : (d : Option Direction) (to : Reference) (v : Value) (m : sem.Moment) → is_back d ≡ true → copied_back d to v m ≡ put_at to v m
back_put None to v m is = absurd (cc is)
back_put (Some In) to v m is = absurd (cc is)
back_put (Some Out) to v m is = refl
back_put (Some InOut) to v m is = refl

no_back_put : (d : Option Direction) (to : Reference) (v : Value) (m : sem.Moment) → is_back d ≡ false → copied_back d to v m ≡ m
no_back_put None to v m is = refl
no_back_put (Some In) to v m is = refl
no_back_put (Some Out) to v m is = absurd (cc is)
no_back_put (Some InOut) to v m is = absurd (cc is)

module _ (P : Cells → Type 0) (b : Around) (w : meaning.World) (z : World) (s : Scope) (who : InScope) (accepted : BreaksNone b.syntax program_rules) (layouts : s.layouts ≡ layouts_of b.syntax.decls) (seated : NamesSeated s (seats_in b.syntax w.around.roots who)) (fine : Fine s) (scope : IsScope (length (variable_kinds b.syntax)) who) where
  abbrev seats : List NamedSeat
  seats = seats_in b.syntax w.around.roots who

  abbrev types : List TypeLayout
  types = layouts_of b.syntax.decls

  abbrev kind_in : Param → Kind
  kind_in p = parameter_kind w.around.scope p

  -- where parameters stand
  pub stands : (n : ℕ) (k : Kind) (t : Seat) → variable_seat b n ≡ Some t → IsOfKind (variable_kinds b.syntax) n k → Stands b n t k
  stands n k t at is = record {
    at = at;
    within = is.within;
    form =
        at_some (λ (u : Seat). u.form ≡ form_of (get_or (frame_kinds b.syntax) (suc (suc (suc n))) unknown)) (owner_seat b.syntax (the_variable n)) t at (seat_kind types (frame_kinds b.syntax) first_start (suc (suc (suc n))) (past n (length (variable_kinds b.syntax)) is.within))
        ∙ ap form_of is.kind;
    zero_is = mapped_at (zero_value types) (variable_kinds b.syntax) n k is;
  } where
    past : (i m : ℕ) → i < m → suc (suc (suc i)) < suc (suc (suc m))
    past i m lt = omega (arith, lt)

  -- where a parameter goes back

  record PartsGiven (x : Meant) (r : Range) : Type 0 where
    whole : x.slice ≡ None
    untold : x.spot.told ≡ None
    parted : IsParted x.spot.seat.form
    same : r ≡ range_of s.layouts x.spot.seat

  parts_fixed : (x : Meant) (r : Range) → option_and_then fixed_range (parts_meant s.layouts x) ≡ Some r → PartsGiven x r
  parts_fixed x r is = by_slice x.slice refl is where
    with_form : Form → Seat
    with_form f = record { depth = x.spot.seat.depth; form = f; start = x.spot.seat.start; owner = x.spot.seat.owner }

    found : (f : Form) → x.spot.seat.form ≡ f → IsParted f → x.slice ≡ None → x.spot.told ≡ None → Some (range_of s.layouts (with_form f)) ≡ Some r → PartsGiven x r
    found f form parted whole untold e =
        let same : range_of s.layouts (with_form f) ≡ r = cc e in
        record { whole = whole; untold = untold; parted = subst IsParted (sym form) parted; same = sym same ∙ ap (λ (g : Form). range_of s.layouts (with_form g)) (sym form) }

    by : (f : Form) (told : Option Told) → x.spot.seat.form ≡ f → x.spot.told ≡ told → x.slice ≡ None → option_and_then fixed_range (range_place_of s.layouts (record { seat = with_form f; told = told })) ≡ Some r → PartsGiven x r
    by (slot_form of) None form untold whole e = absurd (cc e)
    by (slot_form of) (Some d) form untold whole e = absurd (cc e)
    by (header_form type) None form untold whole e = found (header_form type) form tt whole untold e
    by (header_form type) (Some d) form untold whole e = absurd (cc e)
    by (stack_form type size) None form untold whole e = found (stack_form type size) form tt whole untold e
    by (stack_form type size) (Some d) form untold whole e = absurd (cc e)
    by (struct_form type) None form untold whole e = found (struct_form type) form tt whole untold e
    by (struct_form type) (Some d) form untold whole e = absurd (cc e)
    by no_form None form untold whole e = absurd (cc e)
    by no_form (Some d) form untold whole e = absurd (cc e)

    by_slice : (cut : Option SliceOf) → x.slice ≡ cut → option_and_then fixed_range (parts_meant s.layouts (record { spot = x.spot; slice = cut })) ≡ Some r → PartsGiven x r
    by_slice None whole e = by x.spot.seat.form x.spot.told refl refl whole e
    by_slice (Some c) whole e = absurd (cc e)

  abbrev pub Way : Exp16 → Seat → List Outgoing → Type 0
  Way e t outs = OutWay b w s who e t outs

  pub out_way : (e : Exp16) (t : Seat) (outs : List Outgoing) → outgoing_at s seats true t e ≡ Some outs → Way e t outs
  out_way e t outs is = by t.form refl is where
    with_form : Form → Seat
    with_form f = record { depth = t.depth; form = f; start = t.start; owner = t.owner }

    single : (f : Form) (of : Content) → t.form ≡ slot_form of → (o : Option Meant) → meant_by s seats e ≡ o → (q : Option Target) → option_and_then target_of o ≡ q → option_map (λ to. value_out t.start.slot to ∷ []) q ≡ Some outs → Way e t outs
    single f of form None means q target got = absurd (cc (ap (λ (u : Option Target). option_map (λ to. value_out t.start.slot to ∷ []) u) target ∙ got))
    single f of form (Some x) means None target got = absurd (cc got)
    single f of form (Some x) means (Some to) target got = let same : value_out t.start.slot to ∷ [] ≡ outs = cc got in out_slot x to of means (targeted x to target) form (sym same)

    parts : (f : Form) → t.form ≡ f → IsParted f → (o : Option Meant) → meant_by s seats e ≡ o → (q : Option Range) → option_and_then fixed_range (option_and_then (parts_meant s.layouts) o) ≡ q → option_map (λ to. parts_out (range_of s.layouts (with_form f)) to ∷ []) q ≡ Some outs → Way e t outs
    parts f form parted None means q range got = absurd (cc (ap (λ (u : Option Range). option_map (λ to. parts_out (range_of s.layouts (with_form f)) to ∷ []) u) range ∙ got))
    parts f form parted (Some x) means None range got = absurd (cc got)
    parts f form parted (Some x) means (Some r) range got =
        let same : parts_out (range_of s.layouts (with_form f)) r ∷ [] ≡ outs = cc got in
        let all : PartsGiven x r = parts_fixed x r range in
        out_parts x means all.whole all.untold (subst IsParted (sym form) parted) all.parted
        (sym same ∙ (ap (λ (g : Form). parts_out (range_of s.layouts (with_form g)) r ∷ []) (sym form) ∙ ap (λ (i : Range). parts_out (range_of s.layouts t) i ∷ []) all.same))

    by : (f : Form) → t.form ≡ f → outgoing_at s seats true (with_form f) e ≡ Some outs → Way e t outs
    by (slot_form of) form got = single (slot_form of) of form (meant_by s seats e) refl (target_given s seats e) refl got
    by (header_form type) form got = parts (header_form type) form tt (meant_by s seats e) refl (option_and_then fixed_range (range_given s seats e)) refl got
    by (stack_form type size) form got = parts (stack_form type size) form tt (meant_by s seats e) refl (option_and_then fixed_range (range_given s seats e)) refl got
    by (struct_form type) form got = parts (struct_form type) form tt (meant_by s seats e) refl (option_and_then fixed_range (range_given s seats e)) refl got
    by no_form form got = absurd (cc got)

  -- what entered

  pub record AllEntered (n : ℕ) (ps : List Param) (es : List Exp16) (x : calls.Arguments) (incs : List Incoming) (k : Moment) : Type 0 where
    pub cells : Cells
    pub placed : all_in (placed z.apply) incs k ≡ with_cells cells k
    pub shown : Shown P b.syntax who x.moment (with_cells cells k)
    pub runs : x.moment.stopped ≡ None
    pub bound : Bound b w n ps x.given cells
    pub kept : (j : ℕ) → (j < n) ⊎ (n + length ps ≤ j) → value_at b.syntax cells j ≡ value_at b.syntax k.cells j
    pub aims : Aims b w s who n ps es x.given

  abbrev Away : ℕ → ℕ → Type 0
  Away from to = (j : ℕ) → from ≤ j → j < to → AreAway j who.variables × AreAway j who.inner

  -- one of them
  pub record SeatAt (n : ℕ) (p : Param) (e : Exp16) (inc : Incoming) (outs : List Outgoing) : Type 0 where
    pub seat : Seat
    pub at : variable_seat b n ≡ Some seat
    pub enters : incoming_at b s seats (kind_of_type s.names p.of) (is_out p.direction) seat e ≡ Some inc
    pub returns : outgoing_at s seats (is_back p.direction) seat e ≡ Some outs

  pub seat_at : (n : ℕ) (p : Param) (e : Exp16) (inc : Incoming) (outs : List Outgoing) → incoming_of b s seats n p e ≡ Some inc → outgoing_of b s seats n p e ≡ Some outs → SeatAt n p e inc outs
  seat_at n p e inc outs enters returns = by (variable_seat b n) refl enters returns where
    by : (o : Option Seat) → variable_seat b n ≡ o → option_and_then (λ t. incoming_at b s seats (kind_of_type s.names p.of) (is_out p.direction) t e) o ≡ Some inc → option_and_then (λ t. outgoing_at s seats (is_back p.direction) t e) o ≡ Some outs → SeatAt n p e inc outs
    by None at x y = absurd (cc x)
    by (Some t) at x y = record { seat = t; at = at; enters = x; returns = y }

  pub way_back : (p : Param) (e : Exp16) (t : Seat) (outs : List Outgoing) → outgoing_at s seats (is_back p.direction) t e ≡ Some outs → is_back p.direction ≡ true → Way e t outs
  way_back p e t outs is back = out_way e t outs (ap (λ (o : Bool). outgoing_at s seats o t e) (sym back) ∙ is)

  module _ (tell : TestsTell P b w z s who) (sources : SourcesTell P b w z s who) (agree : FormsAgree b.syntax) (same_types : w.around.scope.layouts ≡ layouts_of b.syntax.decls) where
    pub all_enter : (n : ℕ) (ps : List Param) (es : List Exp16) (hs : List Handed) (incs : List Incoming) (outs : List Outgoing) → AreHanded s w.around.scope hs ps → all_incoming b s seats n ps es ≡ Some incs → all_outgoing b s seats n ps es ≡ Some outs → AreOfKinds (variable_kinds b.syntax) n (map (parameter_kind w.around.scope) ps) → ArgumentsKeep s (map place_of hs) es → Each (ToldNone s) es → any_applies s es ≡ false → Away n (n + length ps)
        → (m : sem.Moment) (k : Moment) → Shown P b.syntax who m k → m.stopped ≡ None → AllEntered n ps es (arguments_from w s (map place_of hs) es m) incs k
    all_enter n [] [] [] incs outs handed is backs are keeps told none away m k h runs = let same : [] ≡ incs = cc is in subst (λ (l : List Incoming). AllEntered n [] [] (record { given = []; moment = m }) l k) same (record { cells = k.cells; placed = refl; shown = h; runs = runs; bound = tt; kept = λ j out. refl; aims = tt })
    all_enter n [] [] (hd ∷ hs) incs outs handed is backs are keeps told none away m k h runs = absurd handed
    all_enter n [] (e ∷ es) hs incs outs handed is backs are keeps told none away m k h runs = absurd (cc is)
    all_enter n (p ∷ ps) [] hs incs outs handed is backs are keeps told none away m k h runs = absurd (cc is)
    all_enter n (p ∷ ps) (e ∷ es) [] incs outs handed is backs are keeps told none away m k h runs = absurd handed
    all_enter n (p ∷ ps) (e ∷ es) (hd ∷ hs) incs outs handed is backs are keeps told none away m k h runs =
        let rest : AllEntered (suc n) ps es (arguments_from w s (map place_of hs) es (argument_at w s (place_of hd) e m).1) two.tail (with_cells one.entered.cells k) = all_enter (suc n) ps es hs two.tail two_back.back handed.1 two.rest two_back.rest are.1 keeps.1 told.1 quiet.1 (λ j le lt. away j (omega (arith, le)) (omega (arith, lt))) (argument_at w s (place_of hd) e m).1 (with_cells one.entered.cells k) next one.entered.runs in
        subst (λ (l : List Incoming). AllEntered n (p ∷ ps) (e ∷ es) (arguments_from w s (map place_of (hd ∷ hs)) (e ∷ es) m) l k) (sym two.is)
        (record {
          cells = rest.cells;
          placed =
              ap (all_in (placed z.apply) two.tail) (running_is k.stopped k (placed z.apply two.head k) (sym h.shows.stopped ∙ runs) ∙ one.entered.placed)
              ∙ rest.placed;
          shown = rest.shown;
          runs = rest.runs;
          bound = (rest.kept n (inl (below n)) ∙ one.entered.set.value, rest.bound);
          kept = λ j out. rest.kept j (narrower n (length ps) j out) ∙ one.entered.set.others j (differs n (length ps) j out);
          aims = (λ back. (one.target back, one.kind back), rest.aims);
        }) where
          two : Consed (incoming_of b s seats n p e) (all_incoming b s seats (suc n) ps es) incs
          two = consed (incoming_of b s seats n p e) (all_incoming b s seats (suc n) ps es) incs is

          two_back : Joined (outgoing_of b s seats n p e) (all_outgoing b s seats (suc n) ps es) outs
          two_back = joined (outgoing_of b s seats n p e) (all_outgoing b s seats (suc n) ps es) outs backs

          there : SeatAt n p e two.head two_back.front
          there = seat_at n p e two.head two_back.front two.first two_back.first

          quiet : (applies s e ≡ false) × (any_applies s es ≡ false)
          quiet = first_off (applies s e) (any_applies s es) none

          at_parameter : Stands b n there.seat (kind_in p)
          at_parameter = stands n (kind_in p) there.seat there.at are.0

          one : Stepped P b w z s who accepted layouts seated fine (Entered P b w z s who accepted layouts seated fine) n p e (argument_at w s (place_of hd) e m) two.head k
          one = step P b w z s who accepted layouts seated fine (Entered P b w z s who accepted layouts seated fine) (λ f. applies s f ≡ false) (slot_enters P b w z s who accepted layouts seated fine tell) (parts_enter P b w z s who accepted layouts seated fine sources agree) (zero_enters P b w z s who accepted layouts seated fine) same_types n p e hd there.seat two.head two_back.front m k at_parameter handed.0 keeps.0 told.0 quiet.0 there.enters (way_back p e there.seat two_back.front there.returns) h runs

          here_away : AreAway n who.variables × AreAway n who.inner
          here_away = away n (omega arith) (omega arith)

          next : Shown P b.syntax who (argument_at w s (place_of hd) e m).1 (with_cells one.entered.cells k)
          next = set_shown P b.syntax who (argument_at w s (place_of hd) e m).1 k one.entered.cells n (copied_in p.direction (zero_value types (kind_in p)) (argument_at w s (place_of hd) e m).0.value) one.entered.set here_away.0 here_away.1 one.entered.shown

          below : (i : ℕ) → i < suc i
          below i = omega arith

          narrower : (i many j : ℕ) → (j < i) ⊎ (i + suc many ≤ j) → (j < suc i) ⊎ (suc i + many ≤ j)
          narrower i many j (inl lt) = inl (omega (arith, lt))
          narrower i many j (inr le) = inr (omega (arith, le))

          differs : (i many j : ℕ) → (j < i) ⊎ (i + suc many ≤ j) → j ≢ i
          differs i many j (inl lt) same = omega (arith, lt, same)
          differs i many j (inr le) same = omega (arith, le, same)

  -- what goes back

  held_kept : (n : ℕ) (ps : List Param) (inner : Value) (c d : Cells) → ((j : ℕ) → n ≤ j → j < n + length ps → value_at b.syntax d j ≡ value_at b.syntax c j) → Held b n ps inner c → Held b n ps inner d
  held_kept n [] inner c d same h = tt
  held_kept n (p ∷ ps) inner c d same h = (h.0 ∙ sym (same n (omega arith) (omega arith)), held_kept (suc n) ps inner c d (λ j le lt. same j (omega (arith, le)) (omega (arith, lt))) h.1)

  pub all_return : FormsAgree b.syntax → (n : ℕ) (ps : List Param) (es : List Exp16) (gs : List calls.Given) (outs : List Outgoing) (inner : Value) → all_outgoing b s seats n ps es ≡ Some outs → AreOfKinds (variable_kinds b.syntax) n (map (parameter_kind w.around.scope) ps) → Aims b w s who n ps es gs → Away n (n + length ps) → (m : sem.Moment) (k : Moment) → Held b n ps inner k.cells → Shown P b.syntax who m k → Shown P b.syntax who (copied_out ps gs inner m) (with_cells (all_back outs k.cells) k)
  all_return agree n [] [] [] outs inner is are aims away m k held h = let same : [] ≡ outs = cc is in subst (λ (l : List Outgoing). Shown P b.syntax who m (with_cells (all_back l k.cells) k)) same h
  all_return agree n [] [] (g ∷ gs) outs inner is are aims away m k held h = absurd aims
  all_return agree n [] (e ∷ es) gs outs inner is are aims away m k held h = absurd (cc is)
  all_return agree n (p ∷ ps) [] gs outs inner is are aims away m k held h = absurd (cc is)
  all_return agree n (p ∷ ps) (e ∷ es) [] outs inner is are aims away m k held h = absurd aims
  all_return agree n (p ∷ ps) (e ∷ es) (g ∷ gs) outs inner is are aims away m k held h =
      subst (λ (c : Cells). Shown P b.syntax who (copied_out ps gs inner (copied_back p.direction g.target (member_in inner p.name) m)) (with_cells c k)) (sym (ap (λ (l : List Outgoing). all_back l k.cells) two.is ∙ both_back two.front two.back k.cells))
      (all_return agree (suc n) ps es gs two.back inner two.rest are.1 aims.1 (λ j le lt. away j (omega (arith, le)) (omega (arith, lt))) (copied_back p.direction g.target (member_in inner p.name) m) (with_cells (all_back two.front k.cells) k)
      (held_kept (suc n) ps inner k.cells (all_back two.front k.cells) (λ j le lt. let far = away j (omega (arith, le)) (omega (arith, lt)) in one.others j far.0 far.1) held.1) one.shown) where
        two : Joined (outgoing_of b s seats n p e) (all_outgoing b s seats (suc n) ps es) outs
        two = joined (outgoing_of b s seats n p e) (all_outgoing b s seats (suc n) ps es) outs is

        by_back : (t : Bool) (o : Option Seat) → is_back p.direction ≡ t → variable_seat b n ≡ o → option_and_then (λ u. outgoing_at s seats t u e) o ≡ Some two.front → Returned P b w z s who accepted layouts seated fine scope (copied_back p.direction g.target (member_in inner p.name) m) k (all_back two.front k.cells)
        by_back t None back at got = absurd (cc got)
        by_back false (Some u) back at got =
            let none : [] ≡ two.front = cc got in
            subst (λ (l : List Outgoing). Returned P b w z s who accepted layouts seated fine scope (copied_back p.direction g.target (member_in inner p.name) m) k (all_back l k.cells)) none
            (record { shown = subst (λ (j : sem.Moment). Shown P b.syntax who j k) (sym (no_back_put p.direction g.target (member_in inner p.name) m back)) h; others = λ j outer inside. refl })
        by_back true (Some u) back at got =
            subst (λ (j : sem.Moment). Returned P b w z s who accepted layouts seated fine scope j k (all_back two.front k.cells)) (sym (back_put p.direction g.target (member_in inner p.name) m back))
            (returns P b w z s who accepted layouts seated fine scope agree e (kind_in p) n u two.front g (member_in inner p.name) m k (stands n (kind_in p) u at are.0) (out_way e u two.front got) (aims.0 back).0 (aims.0 back).1 held.0 h)

        one : Returned P b w z s who accepted layouts seated fine scope (copied_back p.direction g.target (member_in inner p.name) m) k (all_back two.front k.cells)
        one = by_back (is_back p.direction) (variable_seat b n) refl refl two.first

  -- by name

  pub bound_named : (same_types : w.around.scope.layouts ≡ layouts_of b.syntax.decls) (n : ℕ) (ps : List Param) (gs : List calls.Given) (c : Cells) → Bound b w n ps gs c → bound_arguments w.around.scope ps gs ≡ named_values (numbered16 b.syntax c).variables (parameters_from n ps)
  bound_named same_types n [] [] c h = refl
  bound_named same_types n [] (g ∷ gs) c h = absurd h
  bound_named same_types n (p ∷ ps) [] c h = absurd h
  bound_named same_types n (p ∷ ps) (g ∷ gs) c h =
      ap (λ (v : Value). a_member p.name v (bound_arguments w.around.scope ps gs)) (ap (λ (l : List TypeLayout). copied_in p.direction (zero_value l (kind_in p)) g.value) same_types ∙ sym h.0)
      ∙ ap (λ (v : Value). a_member p.name (value_at b.syntax c n) v) (bound_named same_types (suc n) ps gs c h.1)

  held_more : (n : ℕ) (ps : List Param) (word : Name) (v rest : Value) (c : Cells) → NoneIsCalled word ps → Held b n ps rest c → Held b n ps (a_member word v rest) c
  held_more n [] word v rest c none h = tt
  held_more n (p ∷ ps) word v rest c none h = (ap (λ (t : Bool). cond t v (member_in rest p.name)) none.0 ∙ h.0, held_more (suc n) ps word v rest c none.1 h.1)

  pub named_held : (n : ℕ) (ps : List Param) (c : Cells) → NamesDiffer ps → Held b n ps (named_values (numbered16 b.syntax c).variables (parameters_from n ps)) c
  named_held n [] c differ = tt
  named_held n (p ∷ ps) c differ =
      let rest : Value = named_values (numbered16 b.syntax c).variables (parameters_from (suc n) ps) in
      (ap (λ (t : Bool). cond t (value_at b.syntax c n) (member_in rest p.name)) ((bytes_eq-Decides p.name p.name).1 refl), held_more (suc n) ps p.name (value_at b.syntax c n) rest c differ.0 (named_held (suc n) ps c differ.1))
