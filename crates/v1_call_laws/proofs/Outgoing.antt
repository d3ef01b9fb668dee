-- A parameter of an action goes back to what its argument means: other variables stay.
use Rattle.std.proofs.Common.{◌≡◌, ◌≢◌, ◌⊎◌, inl, inr, ℕ, zero, suc, ◌+◌, ◌%◌, ◌^◌, ◌==◌, ◌<◌, ◌≤◌, not, ◌||◌, ◌&&◌, Bool, true, false, cond, Option, Some, None, IfSome, List, [], ◌∷◌, length, get_or, refl, sym, ap, ◌∙◌, subst, arith, pow_pos}
use Rattle.std.specs.Prelude.{option_map}
use Rattle.std.specs.Str.{bytes_eq}
use Rattle.std.proofs.lemmas.Bool.{eq-eqb}
use Rattle.std.proofs.lemmas.List.{get_or-set_other}
use Rattle.std.proofs.Math.Nat.{mod-eq_of_lt, mod-lt}
use Rattle.p4x_bits.specs.BitLists.{bit}
use Rattle.p416_syntax.specs.declared.program.Syntax16.{Syntax16}
use Rattle.p416_syntax.specs.Tree.{Exp16}
use Rattle.p416_syntax.specs.Names.{Name}
use Rattle.p416_syntax.specs.Kinds.{Kind, bits, unsized, boolean, error_code, header, stack, struct, packet_in, packet_out, errors, enumeration, one_of, table, applied, object, items, nothing, unknown}
use Rattle.p416_syntax.specs.Scopes.{Layout as TypeLayout, Scope}
use Rattle.p416_syntax.specs.Expressions.{kind_of, is_chosen}
use Rattle.p416_syntax.specs.Statements.{assigned_place}
use Rattle.p416_syntax.specs.Types.{takes}
use Rattle.p416_syntax.specs.Breaks.{BreaksNone, program_rules}
use Rattle.p416_syntax.specs.Declarations.{layouts_of}
use Rattle.v1_core.specs.Values.{Value, a_number, as_number, fitted, Step, to_member, to_element, Slice as SliceOf}
use Rattle.v1_core.specs.Values as value
use Rattle.v1_core.specs.Frames as sem
use Rattle.v1_core.specs.Frames.{Owner, of_headers, of_metadata, of_standard, of_variables, of_inner, of_nothing, Reference, put_at}
use Rattle.v1_core.specs.Slots.{PartOwner, the_headers, the_metadata, the_standard, the_variable, FramePart, part_with, variable_kinds}
use Rattle.v1_core.specs.Surroundings as meaning
use Rattle.v1_core.specs.Numbered.{Numbered, Variable, InScope, with_part_value, number_of, part_behind, variable_part, part_meant}
use Rattle.v1_core.specs.Calls as calls
use Rattle.v1_core.specs.Cells.{Cells, slot_value, with_slot}
use Rattle.v1_core.proofs.Frames.{set_others}
use Rattle.v1_core.specs.Seats.{Content, some_bits, a_truth, an_error, Form, slot_form, form_of, Seat, behind_seat}
use Rattle.v1_core.specs.PackedValues.{content_value, seat_value}
use Rattle.v1_core.specs.Programs.{part_seat, numbered16}
use Rattle.v1_core.specs.PackedFrames.{IsFrameOf}
use Rattle.v1_core.specs.Scopes.{AreAway, IsScope}
use Rattle.v1_core.proofs.Laws.{part_put}
use Rattle.v1_ready_forms.specs.Named.{NamedSeat, seats_in}
use Rattle.v1_ready_laws.specs.Rules.{NamesSeated}
use Rattle.v1_ready_laws.proofs.Accepted.{accepted_narrow}
use Rattle.v1_ready_blocks.specs.declared.places.Slice.{Slice}
use Rattle.v1_ready_blocks.specs.declared.places.Target.{Target}
use Rattle.v1_ready_blocks.specs.declared.places.Range.{Range}
use Rattle.v1_ready_blocks.specs.Moments.{Moment, with_cells}
use Rattle.v1_ready_blocks.specs.Places.{seen_slice, slot_width, around, put, put_value, copied}
use Rattle.v1_ready_blocks.specs.Arguments.{Outgoing, all_back}
use Rattle.v1_ready_blocks.specs.Tests.{World}
use Rattle.v1_parser_laws.specs.Ranges.{all_of}
use Rattle.v1_parser_laws.specs.Shown.{Shows}
use Rattle.v1_parser_laws.proofs.Parts.{whole_number}
use Rattle.v1_place_laws.specs.Places.{Meant, meant_by, range_of}
use Rattle.v1_place_laws.specs.Finding.{IsAt}
use Rattle.v1_place_laws.specs.Laws.{FitsSlot}
use Rattle.v1_deed_laws.specs.Forms.{IsParted}
use Rattle.v1_deed_laws.proofs.Slots.{slots_put}
use Rattle.v1_deed_laws.proofs.Whole.{Untouched}
use Rattle.v1_deed_laws.proofs.Parts.{Copied, parts_copied, parted_fits, parts_put}
use Rattle.v1_ready_statements.specs.Around.{Around}
use Rattle.v1_ready_statements.specs.Targets.{ready_slice}
use Rattle.v1_value_laws.specs.Kinds.{Fine, FormIs}
use Rattle.v1_value_laws.specs.Classes.{IsOfClass}
use Rattle.v1_value_laws.proofs.Formed.{meant_kind}
use Rattle.v1_statement_laws.specs.Behind.{Shown}
use Rattle.v1_statement_laws.proofs.Fitting.{fits_target}
use Rattle.v1_statement_laws.proofs.Sources.{Composite}
use Rattle.v1_call_laws.proofs.Targets.{Targeted}
use Rattle.v1_call_laws.specs.Sourcing.{FormsAgree}
use Rattle.v1_call_laws.proofs.Setting.{value_at, seated, stands_as, bits_of, number_below}
use Rattle.v1_call_laws.proofs.Reading.{Single}
use Rattle.v1_call_laws.proofs.Incoming.{formed_as, composite_form, single_form, ranged}
use Rattle.v1_call_laws.proofs.Parameters.{Stands as StandsAs, OutAt, OutWay, out_slot, out_parts}

-- owners

found_away : (vs : List Variable) (text : Name) (j : ℕ) → AreAway j vs → IfSome (number_of vs text) (λ n. n ≢ j)
found_away [] text j away = tt
found_away (v ∷ vs) text j away = by (bytes_eq v.called text) (found_away vs text j away.1) where
  by : (t : Bool) → IfSome (number_of vs text) (λ n. n ≢ j) → IfSome (cond t (Some v.number) (number_of vs text)) (λ n. n ≢ j)
  by true h = away.0
  by false h = h

-- the part that an l-value means is none of a variable that isn't in scope
owner_away : (who : InScope) (r : Reference) (p : FramePart) (j : ℕ) → part_meant who r ≡ Some p → AreAway j who.variables → AreAway j who.inner → p.owner ≢ the_variable j
owner_away who r p j means outer inner = by r.owner r.steps means where
  packet : (o : PartOwner) (path : List Step) → Some (part_with o path) ≡ Some p → (o ≢ the_variable j) → p.owner ≢ the_variable j
  packet o path is other same = let part : part_with o path ≡ p = cc is in other (ap (λ (q : FramePart). q.owner) part ∙ same)

  found : (vs : List Variable) (text : Name) (path : List Step) (o : Option ℕ) → IfSome o (λ n. n ≢ j) → part_behind path o ≡ Some p → p.owner ≢ the_variable j
  found vs text path None away is = absurd (cc is)
  found vs text path (Some n) away is = λ same.
      let part : part_with (the_variable n) path ≡ p = cc is in
      let owners : the_variable n ≡ the_variable j = ap (λ (q : FramePart). q.owner) part ∙ same in
      let numbers : n ≡ j = cc owners in
      away numbers

  variable_away : (vs : List Variable) → AreAway j vs → (steps : List Step) → variable_part vs steps ≡ Some p → p.owner ≢ the_variable j
  variable_away vs away [] is = absurd (cc is)
  variable_away vs away (to_member text ∷ path) is = found vs text path (number_of vs text) (found_away vs text j away) is
  variable_away vs away (to_element i ∷ path) is = absurd (cc is)

  by : (o : Owner) (steps : List Step) → part_meant who (record { owner = o; steps = steps; slice = r.slice }) ≡ Some p → p.owner ≢ the_variable j
  by of_headers steps is = packet the_headers steps is (λ e. cc e)
  by of_metadata steps is = packet the_metadata steps is (λ e. cc e)
  by of_standard steps is = packet the_standard steps is (λ e. cc e)
  by of_variables steps is = variable_away who.variables outer steps is
  by of_inner steps is = variable_away who.inner inner steps is
  by of_nothing steps is = absurd (cc is)

-- where one part changes, a variable that isn't its owner stays
part_kept : (x : Numbered) (p : FramePart) (v : Value) (j : ℕ) → p.owner ≢ the_variable j → get_or (with_part_value x p v).variables j value.no_value ≡ get_or x.variables j value.no_value
part_kept x p v j away = by p.owner away where
  by : (o : PartOwner) → o ≢ the_variable j → get_or (with_part_value x (record { owner = o; path = p.path }) v).variables j value.no_value ≡ get_or x.variables j value.no_value
  by the_headers differ = refl
  by the_metadata differ = refl
  by the_standard differ = refl
  by (the_variable i) differ = get_or-set_other x.variables i j _ value.no_value (λ same. differ (ap the_variable (sym same)))

module _ (syntax : Syntax16) (accepted : BreaksNone syntax program_rules) (c d : Cells) (whole : IsFrameOf syntax c) (after : IsFrameOf syntax d) (p : FramePart) (t : Seat) (at : part_seat syntax p ≡ Some t) (un : Untouched c d t.start (behind_seat (layouts_of syntax.decls) t)) where
  others_kept : fitted (seat_value (layouts_of syntax.decls) c t) (seat_value (layouts_of syntax.decls) d t) ≡ seat_value (layouts_of syntax.decls) d t → (j : ℕ) → p.owner ≢ the_variable j → value_at syntax d j ≡ value_at syntax c j
  others_kept fits j away =
      ap (λ (y : Numbered). get_or y.variables j value.no_value)
      (sym ((part_put syntax c d p (seat_value (layouts_of syntax.decls) d t) t whole.layout un.layout at).put un.values
      (record {
        slots = λ i le lt. un.slots i (inl lt);
        headers = λ i le lt. un.headers i (inl lt);
        stacks = λ i le lt. un.stacks i (inl lt);
      })
      (record {
        slots = λ i le lt. un.slots i (inr le);
        headers = λ i le lt. un.headers i (inr le);
        stacks = λ i le lt. un.stacks i (inr le);
      }) (λ live. fits)))
      ∙ part_kept (numbered16 syntax c) p (seat_value (layouts_of syntax.decls) d t) j away

-- a number in a slot
slot_untouched : (c : Cells) (t : Seat) (types : List TypeLayout) (of : Content) (n : ℕ) → t.form ≡ slot_form of → Untouched c (with_slot c t.start.slot n) t.start (behind_seat types t)
slot_untouched c t types of n form =
    subst (λ (f : Form). Untouched c (with_slot c t.start.slot n) t.start (behind_seat types (record { depth = t.depth; form = f; start = t.start; owner = t.owner }))) (sym form)
    (record {
      layout = refl;
      values = λ values. refl;
      slots = λ i out. sym (set_others c t.start.slot n i (λ same. outside i same out));
      headers = λ i out. refl;
      stacks = λ i out. refl;
    }) where
      outside : (i : ℕ) → i ≡ t.start.slot → (i < t.start.slot) ⊎ (t.start.slot + 1 ≤ i) → ⊥
      outside i same (inl lt) = omega (arith, same, lt)
      outside i same (inr le) = omega (arith, same, le)

-- what is below fits
pub content_fits : (of : Content) (old x : ℕ) → x < 2 ^ bits_of of → fitted (content_value of old) (content_value of x) ≡ content_value of x
content_fits (some_bits width) old x lt = ap (λ (k : ℕ). a_number width k) (mod-eq_of_lt lt)
content_fits a_truth old x lt = refl
content_fits an_error old x lt = refl

pub content_back : (of : Content) (x : ℕ) → x < 2 ^ bits_of of → as_number (content_value of x) ≡ x
content_back (some_bits width) x lt = refl
content_back a_truth x lt = small x (subst (λ (k : ℕ). x < k) refl lt) where
  small : (y : ℕ) → y < 2 → bit (not (y == 0)) ≡ y
  small zero h = refl
  small (suc zero) h = refl
  small (suc (suc y)) h = absurd (omega (arith, h))
content_back an_error x lt = refl

-- of its class
content_class : (k : Kind) (of : Content) (x : ℕ) → form_of k ≡ slot_form of → x < 2 ^ bits_of of → IsOfClass k (content_value of x)
content_class k of x form lt = subst (λ (c : Content). IsOfClass k (content_value c x)) refl (by k of form lt) where
  by : (j : Kind) (c : Content) → form_of j ≡ slot_form c → x < 2 ^ bits_of c → IsOfClass j (content_value c x)
  by (bits width) (some_bits w) e h = (w, (x, refl))
  by (bits width) a_truth e h = absurd (cc e)
  by (bits width) an_error e h = absurd (cc e)
  by boolean (some_bits w) e h = absurd (cc e)
  by boolean a_truth e h = (not (x == 0), refl)
  by boolean an_error e h = absurd (cc e)
  by error_code (some_bits w) e h = absurd (cc e)
  by error_code a_truth e h = absurd (cc e)
  by error_code an_error e h = (x, (refl, h))
  by unsized c e h = absurd (cc e)
  by (header type) c e h = tt
  by (stack type many) c e h = tt
  by (struct type) c e h = tt
  by packet_in c e h = tt
  by packet_out c e h = tt
  by errors c e h = tt
  by (enumeration enum) c e h = tt
  by (one_of enum) c e h = tt
  by table c e h = tt
  by applied c e h = tt
  by (object obj) c e h = tt
  by items c e h = tt
  by nothing c e h = tt
  by unknown c e h = tt

-- a kind of a single value is assigned where it is wanted
own_place : (k : Kind) (e : Exp16) → Single k → (is_chosen k ≡ true) × (takes (assigned_place k) e k ≡ true)
own_place (bits width) e h = (refl, ap (λ (t : Bool). t || (true && false)) (eq-eqb width width refl))
own_place boolean e h = (refl, refl)
own_place error_code e h = (refl, refl)
own_place unsized e h = absurd h
own_place (header type) e h = absurd h
own_place (stack type many) e h = absurd h
own_place (struct type) e h = absurd h
own_place packet_in e h = absurd h
own_place packet_out e h = absurd h
own_place errors e h = absurd h
own_place (enumeration enum) e h = absurd h
own_place (one_of enum) e h = absurd h
own_place table e h = absurd h
own_place applied e h = absurd h
own_place (object obj) e h = absurd h
own_place items e h = absurd h
own_place nothing e h = absurd h
own_place unknown e h = absurd h

slices_are : (cut : Option SliceOf) → option_map seen_slice (option_map ready_slice cut) ≡ cut
slices_are None = refl
slices_are (Some s) = refl

at_some : {A : Type 0} (B : A → Type 0) (o : Option A) (x : A) → o ≡ Some x → IfSome o B → B x
at_some {A = A} B o x is h = subst (λ (p : Option A). IfSome p B) is h

same_some : {A : Type 0} (x y : A) → Some x ≡ Some y → x ≡ y
same_some x y is = let same : x ≡ y = cc is in same

module _ (P : Cells → Type 0) (b : Around) (w : meaning.World) (z : World) (s : Scope) (who : InScope) (accepted : BreaksNone b.syntax program_rules) (layouts : s.layouts ≡ layouts_of b.syntax.decls) (seated_names : NamesSeated s (seats_in b.syntax w.around.roots who)) (fine : Fine s) (scope : IsScope (length (variable_kinds b.syntax)) who) where
  abbrev seats : List NamedSeat
  seats = seats_in b.syntax w.around.roots who

  abbrev types : List TypeLayout
  types = layouts_of b.syntax.decls

  -- what stays
  pub record Returned (m : sem.Moment) (k : Moment) (d : Cells) : Type 0 where
    pub shown : Shown P b.syntax who m (with_cells d k)
    pub others : (j : ℕ) → AreAway j who.variables → AreAway j who.inner → value_at b.syntax d j ≡ value_at b.syntax k.cells j

  slot_returns : (e : Exp16) (k0 : Kind) (n : ℕ) (t : Seat) (of : Content) (x : Meant) (to : Target) (g : calls.Given) (v : Value) (m : sem.Moment) (k : Moment) → StandsAs b n t k0 → meant_by s seats e ≡ Some x → Targeted x to → t.form ≡ slot_form of → kind_of s e ≡ k0 → IsAt b.syntax who g.target x.slice x.spot.seat → v ≡ value_at b.syntax k.cells n → Shown P b.syntax who m k
      → Returned (put_at g.target v m) k (put to.slot to.slice (slot_value k.cells t.start.slot) k.cells)
  slot_returns e k0 n t of x to g v m k stands means target form kind at is h =
      let c : Cells = k.cells in
      let number : ℕ = slot_value c t.start.slot in
      let kind_form : form_of k0 ≡ slot_form of = sym stands.form ∙ form in
      let there : part_seat b.syntax (all_of (the_variable n)) ≡ Some t = seated b.syntax accepted c h.shows.whole n t stands.at stands.within in
      let small : number < 2 ^ bits_of of = number_below b.syntax accepted c (all_of (the_variable n)) t of h.shows.whole there form in
      let value_is : v ≡ content_value of number = is ∙ (stands_as b.syntax accepted c h.shows.whole n t stands.at stands.within ∙ ap (λ (f : Form). seat_value types c (record { depth = t.depth; form = f; start = t.start; owner = t.owner })) form) in
      let own = own_place k0 e (single_form k0 of kind_form) in
      let fits : FitsSlot target.of (option_map ready_slice x.slice) v =
      fits_target s seats e e x target.of k0 v fine seated_names (ap is_chosen kind ∙ own.0) means target.form (ap (λ (j : Kind). takes (assigned_place j) e k0) kind ∙ own.1) (subst (IsOfClass k0) (sym value_is) (content_class k0 of number kind_form small)) in
      let slice : Option Slice = option_map ready_slice x.slice in
      let seen : IsAt b.syntax who g.target (option_map seen_slice slice) x.spot.seat = subst (λ (cut : Option SliceOf). IsAt b.syntax who g.target cut x.spot.seat) (sym (slices_are x.slice)) at in
      let shows : Shows b.syntax who (put_at g.target v m) (with_cells (put_value x.spot.seat.start.slot slice v c) k) = slots_put b.syntax who g.target slice x.spot.seat target.of v m k accepted scope seen target.form fits h.shows in
      let same_number : as_number v ≡ number = ap as_number value_is ∙ content_back of number small in
      let same : put_value x.spot.seat.start.slot slice v c ≡ put to.slot to.slice number c = ap (λ (i : ℕ). put x.spot.seat.start.slot slice i c) same_number ∙ ap (λ (u : Target). put u.slot u.slice number c) (sym target.same) in
      let d : Cells = put x.spot.seat.start.slot slice number c in
      let written : ℕ = around slice (slot_value c x.spot.seat.start.slot) number % 2 ^ slot_width c x.spot.seat.start.slot in
      let after : IsFrameOf b.syntax d = record { layout = h.shows.whole.layout; whole = whole_number c x.spot.seat.start.slot written (mod-lt (around slice (slot_value c x.spot.seat.start.slot) number) (pow_pos (slot_width c x.spot.seat.start.slot))) h.shows.whole.whole } in
      subst (λ (e : Cells). Returned (put_at g.target v m) k e) (ap (λ (u : Target). put u.slot u.slice number c) (sym target.same))
      (record {
        shown = record { shows = subst (λ (e : Cells). Shows b.syntax who (put_at g.target v m) (with_cells e k)) (ap (λ (i : ℕ). put x.spot.seat.start.slot slice i c) same_number) shows; waits = h.waits };
        others = λ j outer inner.
            others_kept b.syntax accepted c d h.shows.whole after at.part x.spot.seat at.seat (slot_untouched c x.spot.seat types target.of written target.form)
            (kept_fits d after at.part x.spot.seat target.of at.seat target.form) j (owner_away who g.target at.part j at.means outer inner);
      }) where
        kept_fits : (d : Cells) → IsFrameOf b.syntax d → (p : FramePart) (u : Seat) (content : Content) → part_seat b.syntax p ≡ Some u → u.form ≡ slot_form content → fitted (seat_value types k.cells u) (seat_value types d u) ≡ seat_value types d u
        kept_fits d after p u content there form_is =
            let here : Seat = record { depth = u.depth; form = slot_form content; start = u.start; owner = u.owner } in
            subst (λ (f : Form). fitted (seat_value types k.cells (record { depth = u.depth; form = f; start = u.start; owner = u.owner })) (seat_value types d (record { depth = u.depth; form = f; start = u.start; owner = u.owner })) ≡ seat_value types d (record { depth = u.depth; form = f; start = u.start; owner = u.owner })) (sym form_is)
            (content_fits content (slot_value k.cells u.start.slot) (slot_value d u.start.slot) (number_below b.syntax accepted d p u content after there form_is))

  parts_return : FormsAgree b.syntax → (e : Exp16) (k0 : Kind) (n : ℕ) (t : Seat) (x : Meant) (g : calls.Given) (v : Value) (m : sem.Moment) (k : Moment) → StandsAs b n t k0 → meant_by s seats e ≡ Some x → x.slice ≡ None → IsParted t.form → kind_of s e ≡ k0 → IsAt b.syntax who g.target x.slice x.spot.seat → v ≡ value_at b.syntax k.cells n → Shown P b.syntax who m k
      → Returned (put_at g.target v m) k (copied (range_of s.layouts t) (range_of s.layouts x.spot.seat) k.cells)
  parts_return agree e k0 n t x g v m k stands means whole parted kind at is h =
      let c : Cells = k.cells in
      let narrow = accepted_narrow b.syntax accepted in
      let composite : Composite k0 = composite_form k0 (subst IsParted stands.form parted) in
      let there : part_seat b.syntax (all_of (the_variable n)) ≡ Some t = seated b.syntax accepted c h.shows.whole n t stands.at stands.within in
      let form : x.spot.seat.form ≡ form_of k0 = formed_as types k0 x.spot.seat.form composite (subst (λ (l : List TypeLayout). FormIs l k0 x.spot.seat.form) layouts (subst (λ (j : Kind). FormIs s.layouts j x.spot.seat.form) kind (at_some (λ (y : Meant). y.slice ≡ None → FormIs s.layouts (kind_of s e) y.spot.seat.form) (meant_by s seats e) x means (meant_kind s seats e fine seated_names) whole))) in
      let at_whole : IsAt b.syntax who g.target None x.spot.seat = subst (λ (cut : Option SliceOf). IsAt b.syntax who g.target cut x.spot.seat) whole at in
      let target_parted : IsParted x.spot.seat.form = subst IsParted (stands.form ∙ sym form) parted in
      let one = agree at.part (all_of (the_variable n)) x.spot.seat t at.seat there (stands.form ∙ sym form) target_parted in
      let value_is : v ≡ seat_value types c t = is ∙ stands_as b.syntax accepted c h.shows.whole n t stands.at stands.within in
      let to : Range = range_of s.layouts x.spot.seat in
      let from : Range = range_of s.layouts t in
      let to_is = ranged P b w z s who accepted layouts seated_names fine x.spot.seat in
      let from_is = ranged P b w z s who accepted layouts seated_names fine t in
      let done : Copied b.syntax c h.shows.whole narrow.0 narrow.2 x.spot.seat t (copied from to c) = parts_copied b.syntax c h.shows.whole narrow.0 narrow.2 at.part (all_of (the_variable n)) x.spot.seat t to from at.seat there target_parted one to_is from_is in
      let after : IsFrameOf b.syntax (copied from to c) = record { layout = done.untouched.layout ∙ h.shows.whole.layout; whole = done.whole } in
      record {
        shown = record {
          shows = parts_put b.syntax who g.target x.spot.seat (all_of (the_variable n)) t to from v m k accepted scope at_whole there target_parted one to_is from_is value_is h.shows;
          waits = h.waits;
        };
        others = λ j outer inner.
            others_kept b.syntax accepted c (copied from to c) h.shows.whole after at.part x.spot.seat at.seat done.untouched
            (parted_fits types c x.spot.seat.depth x.spot.seat.form x.spot.seat.start (seat_value types (copied from to c) x.spot.seat) target_parted) j (owner_away who g.target at.part j at.means outer inner);
      }

  -- a parameter goes back
  pub returns : FormsAgree b.syntax → (e : Exp16) (k0 : Kind) (n : ℕ) (t : Seat) (outs : List Outgoing) (g : calls.Given) (v : Value) (m : sem.Moment) (k : Moment) → StandsAs b n t k0 → OutWay b w s who e t outs → OutAt b w s who e g → kind_of s e ≡ k0 → v ≡ value_at b.syntax k.cells n → Shown P b.syntax who m k → Returned (put_at g.target v m) k (all_back outs k.cells)
  returns agree e k0 n t outs g v m k stands (out_slot x to of means target form same) at kind is h =
      let one : at.0 ≡ x = same_some at.0 x (sym at.1.0 ∙ means) in
      subst (λ (o : List Outgoing). Returned (put_at g.target v m) k (all_back o k.cells)) (sym same)
      (slot_returns e k0 n t of x to g v m k stands means target form kind (subst (λ (y : Meant). IsAt b.syntax who g.target y.slice y.spot.seat) one at.1.2) is h)
  returns agree e k0 n t outs g v m k stands (out_parts x means whole untold parted there same) at kind is h =
      let one : at.0 ≡ x = same_some at.0 x (sym at.1.0 ∙ means) in
      subst (λ (o : List Outgoing). Returned (put_at g.target v m) k (all_back o k.cells)) (sym same)
      (parts_return agree e k0 n t x g v m k stands means whole parted kind (subst (λ (y : Meant). IsAt b.syntax who g.target y.slice y.spot.seat) one at.1.2) is h)
