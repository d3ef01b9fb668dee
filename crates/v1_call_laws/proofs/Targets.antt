-- The targets of externs: bits that an l-value means, with their slot; and the port of standard metadata that drops.
use Rattle.std.proofs.Common.{◌≡◌, ◌⊎◌, inl, inr, ℕ, suc, ◌-◌, ◌≤◌, ◌<◌, nat_lt, nat_le, ◌||◌, Bool, true, false, cond, Option, Some, None, IfSome, List, refl, sym, ap, ◌∙◌, subst, arith}
use Rattle.std.specs.Prelude.{option_map, option_and_then}
use Rattle.std.proofs.lemmas.Bool.{leb-false}
use Rattle.p416_syntax.specs.declared.lexeme.Literal16.{Literal16}
use Rattle.p416_syntax.specs.Tree.{Exp16, literal, truth, error, name, member, index, slice, call, lookahead, cast, unary, binary, choice, parenthesized, no_arguments, argument, listed}
use Rattle.p416_syntax.specs.Names.{Name}
use Rattle.p416_syntax.specs.Kinds.{Kind, bits, unsized, boolean, error_code, header, stack, struct, packet_in, packet_out, errors, enumeration, one_of, table, applied, object, items, nothing, unknown, is_bits, is_unsized}
use Rattle.p416_syntax.specs.Scopes.{Layout, Scope}
use Rattle.p416_syntax.specs.Calls.{written_bits}
use Rattle.p416_syntax.specs.Expressions.{kind_of, is_chosen, slice_kind, leaves_width}
use Rattle.p416_syntax.specs.Types.{takes}
use Rattle.p416_syntax.specs.Breaks.{BreaksNone, program_rules}
use Rattle.p416_syntax.specs.Declarations.{layouts_of}
use Rattle.v1_core.specs.Values.{to_member, to_element, Slice}
use Rattle.v1_core.specs.Frames as sem
use Rattle.v1_core.specs.Frames.{Reference, cut_to}
use Rattle.v1_core.specs.Surroundings as meaning
use Rattle.v1_core.specs.Numbered.{InScope}
use Rattle.v1_core.specs.Expressions.{reference_of, slice_of}
use Rattle.v1_core.specs.Cells.{Cells}
use Rattle.v1_core.specs.Seats.{Content, some_bits, Form, slot_form, header_form, stack_form, struct_form, no_form, Seat}
use Rattle.v1_ready_forms.specs.Named.{NamedSeat, seat_of_name, seats_in}
use Rattle.v1_ready_forms.specs.Ways.{which_of}
use Rattle.v1_ready_forms.specs.Spots.{Told, Spot, spot_with, spot_behind, told_spot}
use Rattle.v1_ready_laws.specs.Widths.{IsNarrow}
use Rattle.v1_ready_laws.specs.Rules.{NamesSeated}
use Rattle.v1_ready_laws.proofs.Accepted.{accepted_narrow}
use Rattle.v1_ready_laws.proofs.Rules.{second_false}
use Rattle.v1_ready_laws.proofs.Steps.{Stands}
use Rattle.v1_ready_blocks.specs.declared.places.Slice.{Slice as ReadySlice}
use Rattle.v1_ready_blocks.specs.declared.places.Target.{Target}
use Rattle.v1_ready_blocks.specs.Moments.{Moment}
use Rattle.v1_ready_blocks.specs.Places.{seen_slice}
use Rattle.v1_place_laws.specs.Places.{Meant, meant, behind_meant, slice_meant, member_meant, meant_by}
use Rattle.v1_place_laws.specs.Finding.{IsAt, FoundAt, IsFound, seat_now}
use Rattle.v1_place_laws.proofs.Finding.{places_found}
use Rattle.v1_place_laws.proofs.Writing.{part_stands}
use Rattle.v1_deed_laws.specs.Externs.{IsTarget}
use Rattle.v1_ready_statements.specs.Around.{Around}
use Rattle.v1_ready_statements.specs.Targets.{ready_slice, target_of, target_given}
use Rattle.v1_value_laws.specs.Kinds.{Fine, FormIs}
use Rattle.v1_value_laws.proofs.Formed.{meant_kind}
use Rattle.v1_statement_laws.specs.Behind.{Shown}
use Rattle.v1_statement_laws.proofs.Fitting.{cut_is}

at_some : {A : Type 0} (B : A → Type 0) (o : Option A) (x : A) → o ≡ Some x → IfSome o B → B x
at_some {A = A} B o x is h = subst (λ (p : Option A). IfSome p B) is h

-- slices are as wide as their kinds

abbrev pub CutWide : Kind → Option Slice → Type 0
CutWide k None = Unit {0}
CutWide k (Some c) = (is_unsized k ≡ false) × ((w : ℕ) → k ≡ bits w → (c.width ≡ w) × (w ≤ 128))

abbrev pub IsCutWide : Kind → Meant → Type 0
IsCutWide k x = IsNarrow x.spot.seat.form → CutWide k x.slice

uncut : (k : Kind) (o : Option Meant) → IfSome o (λ x. x.slice ≡ None) → IfSome o (IsCutWide k)
uncut k None h = tt
uncut k (Some x) h = λ narrow. subst (CutWide k) (sym h) tt

whole_meant : (o : Option Spot) → IfSome (meant None o) (λ x. x.slice ≡ None)
whole_meant None = tt
whole_meant (Some x) = refl

pub whole_behind : (further : Spot → Option Spot) (o : Option Meant) → IfSome (behind_meant further o) (λ x. x.slice ≡ None)
whole_behind further None = tt
whole_behind further (Some x) = by x.slice where
  by : (cut : Option Slice) → IfSome (behind_meant further (Some (record { spot = x.spot; slice = cut }))) (λ y. y.slice ≡ None)
  by None = whole_meant (further x.spot)
  by (Some c) = tt

whole_member : (types : List Layout) (k : Kind) (word : Name) (o : Option Meant) → IfSome (member_meant types k word o) (λ x. x.slice ≡ None)
whole_member types (bits width) word o = whole_behind (spot_behind types (to_member word)) o
whole_member types unsized word o = whole_behind (spot_behind types (to_member word)) o
whole_member types boolean word o = whole_behind (spot_behind types (to_member word)) o
whole_member types error_code word o = whole_behind (spot_behind types (to_member word)) o
whole_member types (header type) word o = whole_behind (spot_behind types (to_member word)) o
whole_member types (stack type many) word o = whole_behind (told_spot types (which_of word)) o
whole_member types (struct type) word o = whole_behind (spot_behind types (to_member word)) o
whole_member types packet_in word o = whole_behind (spot_behind types (to_member word)) o
whole_member types packet_out word o = whole_behind (spot_behind types (to_member word)) o
whole_member types errors word o = whole_behind (spot_behind types (to_member word)) o
whole_member types (enumeration enum) word o = whole_behind (spot_behind types (to_member word)) o
whole_member types (one_of enum) word o = whole_behind (spot_behind types (to_member word)) o
whole_member types table word o = whole_behind (spot_behind types (to_member word)) o
whole_member types applied word o = whole_behind (spot_behind types (to_member word)) o
whole_member types (object obj) word o = whole_behind (spot_behind types (to_member word)) o
whole_member types items word o = whole_behind (spot_behind types (to_member word)) o
whole_member types nothing word o = whole_behind (spot_behind types (to_member word)) o
whole_member types unknown word o = whole_behind (spot_behind types (to_member word)) o

bits_narrow : (types : List Layout) (v : ℕ) (form : Form) → FormIs types (bits v) form → IsNarrow form → v ≤ 128
bits_narrow types v form (inl un) narrow = absurd un
bits_narrow types v form (inr h) narrow = subst IsNarrow h.0 narrow

-- behind what is of a kind; the bits of a slice are among its bits
cut_cut : (types : List Layout) (k : Kind) (high low : Literal16) (form : Form) (cut : Option Slice) → (cut ≡ None → FormIs types k form) → IsNarrow form → CutWide k cut → CutWide (slice_kind k high low) (Some (cut_to (slice_of high low) cut))
cut_cut types (bits v) high low form cut formed narrow h = by (leaves_width v high low) refl where
  inner : (c : Option Slice) → (c ≡ None → FormIs types (bits v) form) → CutWide (bits v) c → v ≤ 128
  inner None f g = bits_narrow types v form (f refl) narrow
  inner (Some c) f g = (g.1 v refl).1

  same : (c : Option Slice) → (cut_to (slice_of high low) c).width ≡ suc high.value - low.value
  same None = refl
  same (Some c) = refl

  few : (h l n w : ℕ) → nat_le n h ≡ false → n ≤ 128 → suc h - l ≡ w → w ≤ 128
  few h l n w inside le is = let lt : h < n = leb-false n h inside in omega (arith, lt, le, is)

  wide : (w : ℕ) → leaves_width v high low ≡ false → bits (suc high.value - low.value) ≡ bits w → ((cut_to (slice_of high low) cut).width ≡ w) × (w ≤ 128)
  wide w inside is =
      let number : suc high.value - low.value ≡ w = cc is in
      (same cut ∙ number, few high.value low.value v w (second_false (nat_lt high.value low.value) (nat_le v high.value) inside) (inner cut formed h) number)

  by : (t : Bool) → leaves_width v high low ≡ t → CutWide (slice_kind (bits v) high low) (Some (cut_to (slice_of high low) cut))
  by true e = subst (λ (t : Bool). CutWide (cond t unknown (bits (suc high.value - low.value))) (Some (cut_to (slice_of high low) cut))) (sym e) (refl, (λ w is. absurd (cc is)))
  by false e = subst (λ (t : Bool). CutWide (cond t unknown (bits (suc high.value - low.value))) (Some (cut_to (slice_of high low) cut))) (sym e) (refl, (λ w is. wide w e is))
cut_cut types unsized high low form cut formed narrow h = (refl, (λ w is. absurd (cc is)))
cut_cut types boolean high low form cut formed narrow h = (refl, (λ w is. absurd (cc is)))
cut_cut types error_code high low form cut formed narrow h = (refl, (λ w is. absurd (cc is)))
cut_cut types (header type) high low form cut formed narrow h = (refl, (λ w is. absurd (cc is)))
cut_cut types (stack type many) high low form cut formed narrow h = (refl, (λ w is. absurd (cc is)))
cut_cut types (struct type) high low form cut formed narrow h = (refl, (λ w is. absurd (cc is)))
cut_cut types packet_in high low form cut formed narrow h = (refl, (λ w is. absurd (cc is)))
cut_cut types packet_out high low form cut formed narrow h = (refl, (λ w is. absurd (cc is)))
cut_cut types errors high low form cut formed narrow h = (refl, (λ w is. absurd (cc is)))
cut_cut types (enumeration enum) high low form cut formed narrow h = (refl, (λ w is. absurd (cc is)))
cut_cut types (one_of enum) high low form cut formed narrow h = (refl, (λ w is. absurd (cc is)))
cut_cut types table high low form cut formed narrow h = (refl, (λ w is. absurd (cc is)))
cut_cut types applied high low form cut formed narrow h = (refl, (λ w is. absurd (cc is)))
cut_cut types (object obj) high low form cut formed narrow h = (refl, (λ w is. absurd (cc is)))
cut_cut types items high low form cut formed narrow h = (refl, (λ w is. absurd (cc is)))
cut_cut types nothing high low form cut formed narrow h = (refl, (λ w is. absurd (cc is)))
cut_cut types unknown high low form cut formed narrow h = (refl, (λ w is. absurd (cc is)))

cut_of : (s : Scope) (e : Exp16) (high low : Literal16) (o : Option Meant) → IfSome o (λ x. x.slice ≡ None → FormIs s.layouts (kind_of s e) x.spot.seat.form) → IfSome o (IsCutWide (kind_of s e)) → IfSome (slice_meant (slice_of high low) o) (IsCutWide (slice_kind (kind_of s e) high low))
cut_of s e high low None f h = tt
cut_of s e high low (Some x) f h = λ narrow. cut_cut s.layouts (kind_of s e) high low x.spot.seat.form x.slice f narrow (h narrow)

pub cut_wide : (s : Scope) (seats : List NamedSeat) (e : Exp16) → Fine s → NamesSeated s seats → IfSome (meant_by s seats e) (IsCutWide (kind_of s e))
cut_wide s seats (name text) fine seated = uncut (kind_of s (name text)) (meant_by s seats (name text)) (whole_meant (spot_with None (seat_of_name seats text)))
cut_wide s seats (member e word) fine seated = uncut (kind_of s (member e word)) (meant_by s seats (member e word)) (whole_member s.layouts (kind_of s e) word (meant_by s seats e))
cut_wide s seats (index e at) fine seated = uncut (kind_of s (index e at)) (meant_by s seats (index e at)) (whole_behind (spot_behind s.layouts (to_element at.value)) (meant_by s seats e))
cut_wide s seats (slice e high low) fine seated = cut_of s e high low (meant_by s seats e) (meant_kind s seats e fine seated) (cut_wide s seats e fine seated)
cut_wide s seats (literal n) fine seated = tt
cut_wide s seats (truth holds) fine seated = tt
cut_wide s seats error fine seated = tt
cut_wide s seats (call g other) fine seated = tt
cut_wide s seats (lookahead e to other) fine seated = tt
cut_wide s seats (cast to e) fine seated = tt
cut_wide s seats (unary operator e) fine seated = tt
cut_wide s seats (binary operator a b) fine seated = tt
cut_wide s seats (choice c a d) fine seated = tt
cut_wide s seats (parenthesized e) fine seated = tt
cut_wide s seats no_arguments fine seated = tt
cut_wide s seats (argument before last) fine seated = tt
cut_wide s seats (listed es) fine seated = tt

slices_are : (cut : Option Slice) → option_map seen_slice (option_map ready_slice cut) ≡ cut
slices_are None = refl
slices_are (Some c) = refl

-- bits, or a number without a width
bits_or_not : (k : Kind) → (is_bits k || is_unsized k) ≡ true → ((w : ℕ) × (k ≡ bits w)) ⊎ (is_unsized k ≡ true)
bits_or_not (bits w) is = inl (w, refl)
bits_or_not unsized is = inr refl
bits_or_not boolean is = absurd (cc is)
bits_or_not error_code is = absurd (cc is)
bits_or_not (header type) is = absurd (cc is)
bits_or_not (stack type many) is = absurd (cc is)
bits_or_not (struct type) is = absurd (cc is)
bits_or_not packet_in is = absurd (cc is)
bits_or_not packet_out is = absurd (cc is)
bits_or_not errors is = absurd (cc is)
bits_or_not (enumeration enum) is = absurd (cc is)
bits_or_not (one_of enum) is = absurd (cc is)
bits_or_not table is = absurd (cc is)
bits_or_not applied is = absurd (cc is)
bits_or_not (object obj) is = absurd (cc is)
bits_or_not items is = absurd (cc is)
bits_or_not nothing is = absurd (cc is)
bits_or_not unknown is = absurd (cc is)

unsized_only : (k : Kind) → is_unsized k ≡ true → k ≡ unsized
unsized_only (bits width) is = absurd (cc is)
unsized_only unsized is = refl
unsized_only boolean is = absurd (cc is)
unsized_only error_code is = absurd (cc is)
unsized_only (header type) is = absurd (cc is)
unsized_only (stack type many) is = absurd (cc is)
unsized_only (struct type) is = absurd (cc is)
unsized_only packet_in is = absurd (cc is)
unsized_only packet_out is = absurd (cc is)
unsized_only errors is = absurd (cc is)
unsized_only (enumeration enum) is = absurd (cc is)
unsized_only (one_of enum) is = absurd (cc is)
unsized_only table is = absurd (cc is)
unsized_only applied is = absurd (cc is)
unsized_only (object obj) is = absurd (cc is)
unsized_only items is = absurd (cc is)
unsized_only nothing is = absurd (cc is)
unsized_only unknown is = absurd (cc is)

unsized_formless : (types : List Layout) (form : Form) (of : Content) → FormIs types unsized form → form ≡ slot_form of → ⊥
unsized_formless types form of (inl un) is = absurd un
unsized_formless types form of (inr h) is = cc (sym h.0 ∙ is)

-- what a target is of
pub record Targeted (x : Meant) (to : Target) : Type 0 where
  pub of : Content
  pub form : x.spot.seat.form ≡ slot_form of
  pub untold : x.spot.told ≡ None
  pub same : to ≡ record { slot = x.spot.seat.start.slot; slice = option_map ready_slice x.slice }

pub targeted : (x : Meant) (to : Target) → target_of x ≡ Some to → Targeted x to
targeted x to is = by x.spot.seat.form x.spot.told refl refl is where
  here : (content : Content) → x.spot.seat.form ≡ slot_form content → x.spot.told ≡ None → Some (record { slot = x.spot.seat.start.slot; slice = option_map ready_slice x.slice }) ≡ Some to → Targeted x to
  here content form untold e =
      let same : record { slot = x.spot.seat.start.slot; slice = option_map ready_slice x.slice } ≡ to = cc e in
      record { of = content; form = form; untold = untold; same = sym same }

  by : (f : Form) (told : Option Told) → x.spot.seat.form ≡ f → x.spot.told ≡ told → target_of (record { spot = record { seat = record { depth = x.spot.seat.depth; form = f; start = x.spot.seat.start; owner = x.spot.seat.owner }; told = told }; slice = x.slice }) ≡ Some to → Targeted x to
  by (slot_form content) None form untold e = here content form untold e
  by (slot_form content) (Some t) form untold e = absurd (cc e)
  by (header_form type) None form untold e = absurd (cc e)
  by (header_form type) (Some t) form untold e = absurd (cc e)
  by (stack_form type size) None form untold e = absurd (cc e)
  by (stack_form type size) (Some t) form untold e = absurd (cc e)
  by (struct_form type) None form untold e = absurd (cc e)
  by (struct_form type) (Some t) form untold e = absurd (cc e)
  by no_form None form untold e = absurd (cc e)
  by no_form (Some t) form untold e = absurd (cc e)

module _ (P : Cells → Type 0) (b : Around) (w : meaning.World) (s : Scope) (who : InScope) (accepted : BreaksNone b.syntax program_rules) (layouts : s.layouts ≡ layouts_of b.syntax.decls) (seated : NamesSeated s (seats_in b.syntax w.around.roots who)) (fine : Fine s) where
  abbrev seats : List NamedSeat
  seats = seats_in b.syntax w.around.roots who

  -- what is found of it
  pub record IsAim (e : Exp16) (to : Target) (m : sem.Moment) : Type 0 where
    pub same : (reference_of w.around s e m).moment ≡ m
    pub target : IsTarget b.syntax who (reference_of w.around s e m).reference to

  pub at_once : (x : Meant) (e : Exp16) (m : sem.Moment) (k : Moment) → meant_by s seats e ≡ Some x → x.spot.told ≡ None → Shown P b.syntax who m k → m.stopped ≡ None → ((reference_of w.around s e m).moment ≡ m) × IsAt b.syntax who (reference_of w.around s e m).reference x.slice x.spot.seat
  at_once x e m k means untold h runs =
      by x.spot.told untold (at_some (λ (y : Meant). IsFound b.syntax who k.cells y (reference_of w.around s e m) m) (meant_by s seats e) x means (places_found b.syntax k.cells w.around s who m e accepted h.shows.whole layouts h.shows.frame runs)) where
        by : (told : Option Told) → told ≡ None → FoundAt b.syntax who x.slice (reference_of w.around s e m) m (seat_now k.cells (record { seat = x.spot.seat; told = told })) → ((reference_of w.around s e m).moment ≡ m) × IsAt b.syntax who (reference_of w.around s e m).reference x.slice x.spot.seat
        by None none f = f
        by (Some t) none f = absurd (cc none)

  pub narrow_at : (c : Cells) (r : Reference) (cut : Option Slice) (t : Seat) (m : sem.Moment) (k : Moment) → IsAt b.syntax who r cut t → Shown P b.syntax who m k → IsNarrow t.form
  narrow_at c r cut t m k at h =
      let accepted_is = accepted_narrow b.syntax accepted in
      let stands : Stands k.cells.layout (layouts_of b.syntax.decls) t = part_stands b.syntax k.cells at.part t h.shows.whole.layout accepted_is.0 accepted_is.2 at.seat in
      stands.narrow

  -- by its width
  aimed : (x : Meant) (e : Exp16) (to : Target) (width : ℕ) (m : sem.Moment) (k : Moment) → meant_by s seats e ≡ Some x → (h : Targeted x to) → kind_of s e ≡ bits width → Shown P b.syntax who m k → m.stopped ≡ None → IsAim e to m
  aimed x e to width m k means is kind h runs =
      let found = at_once x e m k means is.untold h runs in
      let narrow : IsNarrow x.spot.seat.form = narrow_at k.cells (reference_of w.around s e m).reference x.slice x.spot.seat m k found.1 h in
      let wide : CutWide (kind_of s e) x.slice = at_some (IsCutWide (kind_of s e)) (meant_by s seats e) x means (cut_wide s seats e fine seated) narrow in
      record {
        same = found.0;
        target =
            subst (λ (t : Target). IsTarget b.syntax who (reference_of w.around s e m).reference t) (sym is.same)
            (record {
              seat = x.spot.seat;
              at = subst (λ (cut : Option Slice). IsAt b.syntax who (reference_of w.around s e m).reference cut x.spot.seat) (sym (slices_are x.slice)) found.1;
              width = bits_are.0;
              form = bits_are.1;
              slot = refl;
              narrow = subst IsNarrow bits_are.1 narrow;
              cut = few x.slice wide;
            });
      } where
        from_form : FormIs s.layouts (bits width) x.spot.seat.form → (v : ℕ) × (x.spot.seat.form ≡ slot_form (some_bits v))
        from_form (inl un) = absurd un
        from_form (inr g) = (width, g.0)

        by_cut : (x.slice ≡ None) ⊎ (is_chosen (kind_of s e) ≡ true → ((v : ℕ) × (kind_of s e ≡ bits v)) × ((v : ℕ) × (x.spot.seat.form ≡ slot_form (some_bits v)))) → (v : ℕ) × (x.spot.seat.form ≡ slot_form (some_bits v))
        by_cut (inl whole) = from_form (subst (λ (j : Kind). FormIs s.layouts j x.spot.seat.form) kind (at_some (λ (y : Meant). y.slice ≡ None → FormIs s.layouts (kind_of s e) y.spot.seat.form) (meant_by s seats e) x means (meant_kind s seats e fine seated) whole))
        by_cut (inr f) = (f (ap is_chosen kind)).1

        bits_are : (v : ℕ) × (x.spot.seat.form ≡ slot_form (some_bits v))
        bits_are = by_cut (at_some _ (meant_by s seats e) x means (cut_is s seats e fine seated))

        few : (cut : Option Slice) → CutWide (kind_of s e) cut → IfSome (option_map ready_slice cut) (λ (c : ReadySlice). c.width ≤ 128)
        few None g = tt
        few (Some c) g = let two = g.1 width kind in subst (λ (n : ℕ). n ≤ 128) (sym two.0) two.1

  -- an l-value that is a single value has a width
  pub never_unsized : (x : Meant) (e : Exp16) (m : sem.Moment) (k : Moment) (of : Content) → meant_by s seats e ≡ Some x → x.spot.told ≡ None → x.spot.seat.form ≡ slot_form of → Shown P b.syntax who m k → m.stopped ≡ None → is_unsized (kind_of s e) ≡ false
  never_unsized x e m k of means untold form h runs = by (is_unsized (kind_of s e)) refl where
    found : IsAt b.syntax who (reference_of w.around s e m).reference x.slice x.spot.seat
    found = (at_once x e m k means untold h runs).1

    none : is_unsized (kind_of s e) ≡ true → (cut : Option Slice) → x.slice ≡ cut → ⊥
    none un None whole = unsized_formless s.layouts x.spot.seat.form of (subst (λ (j : Kind). FormIs s.layouts j x.spot.seat.form) (unsized_only (kind_of s e) un) (at_some (λ (y : Meant). y.slice ≡ None → FormIs s.layouts (kind_of s e) y.spot.seat.form) (meant_by s seats e) x means (meant_kind s seats e fine seated) whole)) form
    none un (Some c) cut =
        let wide : CutWide (kind_of s e) (Some c) = subst (CutWide (kind_of s e)) cut (at_some (IsCutWide (kind_of s e)) (meant_by s seats e) x means (cut_wide s seats e fine seated) (narrow_at k.cells (reference_of w.around s e m).reference x.slice x.spot.seat m k found h)) in
        cc (sym un ∙ wide.0)

    by : (t : Bool) → is_unsized (kind_of s e) ≡ t → is_unsized (kind_of s e) ≡ false
    by false is = is
    by true is = absurd (none is x.slice refl)

  -- a target by its expression, of which the place takes bits
  pub aim : (e : Exp16) (to : Target) (m : sem.Moment) (k : Moment) → takes written_bits e (kind_of s e) ≡ true → target_given s seats e ≡ Some to → Shown P b.syntax who m k → m.stopped ≡ None → IsAim e to m
  aim e to m k taken given h runs = by (meant_by s seats e) refl given where
    narrow_kind : (x : Meant) → meant_by s seats e ≡ Some x → Targeted x to → ((v : ℕ) × (kind_of s e ≡ bits v)) ⊎ (is_unsized (kind_of s e) ≡ true) → IsAim e to m
    narrow_kind x means is (inl v) = aimed x e to v.0 m k means is v.1 h runs
    narrow_kind x means is (inr un) = absurd (cc (sym un ∙ never_unsized x e m k is.of means is.untold is.form h runs))

    by : (o : Option Meant) → meant_by s seats e ≡ o → option_and_then target_of o ≡ Some to → IsAim e to m
    by None means is = absurd (cc is)
    by (Some x) means is = narrow_kind x means (targeted x to is) (bits_or_not (kind_of s e) taken)
