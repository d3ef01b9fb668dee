-- The value of an l-value that no stack tells is what is read there, also of a slice.
use Rattle.std.proofs.Common.{◌≡◌, inl, inr, ℕ, zero, suc, ◌+◌, ◌-◌, ◌/◌, ◌%◌, ◌^◌, ◌<◌, ◌≤◌, nat_lt, nat_le, Bool, true, false, cond, Option, Some, None, IfSome, List, [], ◌∷◌, ◌++◌, refl, sym, ap, ◌∙◌, subst, arith}
use Rattle.std.proofs.Math.Nat.{div-div-eq-div-mul}
use Rattle.std.proofs.Math.Pow.{mod-mod-pow, field}
use Rattle.std.proofs.lemmas.Nat.{pow-add}
use Rattle.std.proofs.lemmas.Bool.{ltb-false, leb-false}
use Rattle.p416_syntax.specs.declared.lexeme.Literal16.{Literal16}
use Rattle.p416_syntax.specs.Tree.{Exp16, literal, truth, error, name, member, index, slice, call, lookahead, cast, unary, binary, choice, parenthesized, no_arguments, argument, listed}
use Rattle.p416_syntax.specs.Names.{Name, has_name}
use Rattle.p416_syntax.specs.BuiltIn.{members_of}
use Rattle.p416_syntax.specs.Kinds.{Kind, bits, unsized, boolean, error_code, header, stack, struct, packet_in, packet_out, errors, enumeration, one_of, table, applied, object, items, nothing, unknown}
use Rattle.p416_syntax.specs.Scopes.{Layout, Scope}
use Rattle.p416_syntax.specs.Calls.{Place, any_bits, owner}
use Rattle.p416_syntax.specs.Expressions.{kind_of, known_kind, member_kind, element_kind, slice_kind, leaves_width}
use Rattle.p416_syntax.specs.Breaks.{BreaksNone, program_rules}
use Rattle.p416_syntax.specs.Declarations.{layouts_of}
use Rattle.v1_core.specs.Values.{Value, a_number, number_in, Step, to_member, to_element, part_of, part_at, Slice, sliced}
use Rattle.v1_core.specs.Frames as sem
use Rattle.v1_core.specs.Frames.{Frame, Reference, owned, within_slice, read, place_value, stepped, cut_to, sliced_to}
use Rattle.v1_core.specs.Surroundings as meaning
use Rattle.v1_core.specs.Numbered.{InScope}
use Rattle.v1_core.specs.Expressions.{Valued, valued, Referred, referred, member_value, member_reference, value_of, reference_of, slice_of, slice_value}
use Rattle.v1_core.specs.Cells.{Cells}
use Rattle.v1_core.specs.Seats.{Form, slot_form, header_form, stack_form, struct_form, no_form, stepped_seat}
use Rattle.v1_ready_forms.specs.Named.{NamedSeat, seats_in}
use Rattle.v1_ready_forms.specs.Ways.{which_of}
use Rattle.v1_ready_forms.specs.Spots.{Spot, spot_with, spot_behind, told_spot}
use Rattle.v1_ready_laws.specs.Widths.{IsNarrow}
use Rattle.v1_ready_laws.specs.Rules.{NamesSeated}
use Rattle.v1_ready_laws.proofs.Rules.{first_false, second_false}
use Rattle.v1_ready_blocks.specs.Moments.{Moment}
use Rattle.v1_place_laws.specs.Places.{Meant, meant, behind_meant, slice_meant, member_meant, meant_by}
use Rattle.v1_ready_statements.specs.Around.{Around}
use Rattle.v1_value_laws.specs.Kinds.{Fine, FormIs}
use Rattle.v1_value_laws.proofs.Formed.{meant_kind}
use Rattle.v1_statement_laws.specs.Behind.{Shown}
use Rattle.v1_statement_laws.proofs.Sources.{Composite, Behind, behind_is, told_never, IsHere, is_here, untold_reads}
use Rattle.v1_call_laws.proofs.Targets.{CutWide, IsCutWide, cut_wide, narrow_at, at_once}

at_some : {A : Type 0} (B : A → Type 0) (o : Option A) (x : A) → o ≡ Some x → IfSome o B → B x
at_some {A = A} B o x is h = subst (λ (p : Option A). IfSome p B) is h

-- bits of some bits
bits_of_bits : (n a e c d : ℕ) → c + d ≤ e → n / 2 ^ (a + c) % 2 ^ d ≡ n / 2 ^ a % 2 ^ e / 2 ^ c % 2 ^ d
bits_of_bits n a e c d le =
    let front : (e - c) + c ≡ e = omega (arith, le) in
    let rest : (e - c - d) + d ≡ e - c = omega (arith, le) in
    let q : ℕ = n / 2 ^ a in
    sym (ap (λ (k : ℕ). q % 2 ^ k / 2 ^ c % 2 ^ d) (sym front)
    ∙ (ap (λ (k : ℕ). k % 2 ^ d) (field q (e - c) c)
    ∙ (ap (λ (k : ℕ). q / 2 ^ c % 2 ^ k % 2 ^ d) (sym rest)
    ∙ (mod-mod-pow (q / 2 ^ c) (e - c - d) d
    ∙ ap (λ (k : ℕ). k % 2 ^ d) (div-div-eq-div-mul n (2 ^ a) (2 ^ c) ∙ ap (λ (k : ℕ). n / k) (sym (pow-add 2 a c)))))))

part_more : (steps : List Step) (step : Step) (v : Value) → part_at (steps ++ step ∷ []) v ≡ part_of (part_at steps v) step
part_more [] step v = refl
part_more (x ∷ steps) step v = part_more steps step (part_of v x)

read_stepped : (f : Frame) (r : Reference) (step : Step) → r.slice ≡ None → read f (stepped r step) ≡ part_of (read f r) step
read_stepped f r step whole =
    ap (λ (c : Option Slice). within_slice c (part_at (r.steps ++ step ∷ []) (owned f r.owner))) whole
    ∙ (part_more r.steps step (owned f r.owner)
    ∙ ap (λ (v : Value). part_of v step) (sym (ap (λ (c : Option Slice). within_slice c (part_at r.steps (owned f r.owner))) whole)))

-- single values
abbrev pub Single : Kind → Type 0
Single (bits width) = Unit {0}
Single boolean = Unit {0}
Single error_code = Unit {0}
Single k = ⊥

flagged : (t : Bool) (k : Kind) → (Single k → ⊥) → Single (known_kind (cond t (Some k) None)) → ⊥
flagged true k f h = f h
flagged false k f h = h

never_element : (k : Kind) → Single (element_kind k) → ⊥
never_element (bits width) h = h
never_element unsized h = h
never_element boolean h = h
never_element error_code h = h
never_element (header type) h = h
never_element (stack type many) h = h
never_element (struct type) h = h
never_element packet_in h = h
never_element packet_out h = h
never_element errors h = h
never_element (enumeration enum) h = h
never_element (one_of enum) h = h
never_element table h = h
never_element applied h = h
never_element (object obj) h = h
never_element items h = h
never_element nothing h = h
never_element unknown h = h

-- no member has what has no value
formless : (types : List Layout) (step : Step) (o : Option Meant) → IfSome o (λ x. x.slice ≡ None → x.spot.seat.form ≡ no_form) → IfSome (behind_meant (spot_behind types step) o) (λ x. ⊥)
formless types step None h = tt
formless types step (Some x) h = by x.slice h where
  nothing_there : (f : Form) → f ≡ no_form → IfSome (meant None (spot_with x.spot.told (stepped_seat types x.spot.seat.depth f x.spot.seat.start step))) (λ y. ⊥)
  nothing_there (slot_form of) is = absurd (cc is)
  nothing_there (header_form type) is = absurd (cc is)
  nothing_there (stack_form type size) is = absurd (cc is)
  nothing_there (struct_form type) is = absurd (cc is)
  nothing_there no_form is = none x.spot.seat.depth step where
    none : (n : ℕ) (s : Step) → IfSome (meant None (spot_with x.spot.told (stepped_seat types n no_form x.spot.seat.start s))) (λ y. ⊥)
    none zero (to_member word) = tt
    none zero (to_element i) = tt
    none (suc n) (to_member word) = tt
    none (suc n) (to_element i) = tt

  by : (cut : Option Slice) → (cut ≡ None → x.spot.seat.form ≡ no_form) → IfSome (behind_meant (spot_behind types step) (Some (record { spot = x.spot; slice = cut }))) (λ y. ⊥)
  by None f = nothing_there x.spot.seat.form (f refl)
  by (Some c) f = tt

errors_form : (types : List Layout) (form : Form) → FormIs types errors form → form ≡ no_form
errors_form types form (inl un) = absurd un
errors_form types form (inr h) = h.0

applied_form : (types : List Layout) (form : Form) → FormIs types applied form → form ≡ no_form
applied_form types form (inl un) = absurd un
applied_form types form (inr h) = h.0

weaker : (A B : Meant → Type 0) (o : Option Meant) → ((x : Meant) → A x → B x) → IfSome o A → IfSome o B
weaker A B None f h = tt
weaker A B (Some x) f h = f x h

-- what a slice is of
record Sliced (o : Option Meant) (x : Meant) : Type 0 where
  of : Meant
  means : o ≡ Some of
  same : x.spot ≡ of.spot

sliced_from : (c : Slice) (o : Option Meant) (x : Meant) → slice_meant c o ≡ Some x → Sliced o x
sliced_from c None x is = absurd (cc is)
sliced_from c (Some y) x is =
    let same : record { spot = y.spot; slice = Some (cut_to c y.slice) } ≡ x = cc is in
    record { of = y; means = refl; same = sym (ap (λ (u : Meant). u.spot) same) }

-- the kind of what is sliced
sliced_kind : (k : Kind) (high low : Literal16) (w : ℕ) → slice_kind k high low ≡ bits w → (v : ℕ) × ((k ≡ bits v) × (leaves_width v high low ≡ false))
sliced_kind (bits v) high low w is = by (leaves_width v high low) refl is where
  by : (t : Bool) → leaves_width v high low ≡ t → cond t unknown (bits (suc high.value - low.value)) ≡ bits w → (u : ℕ) × ((bits v ≡ bits u) × (leaves_width u high low ≡ false))
  by true e h = absurd (cc h)
  by false e h = (v, (refl, e))
sliced_kind unsized high low w is = absurd (cc is)
sliced_kind boolean high low w is = absurd (cc is)
sliced_kind error_code high low w is = absurd (cc is)
sliced_kind (header type) high low w is = absurd (cc is)
sliced_kind (stack type many) high low w is = absurd (cc is)
sliced_kind (struct type) high low w is = absurd (cc is)
sliced_kind packet_in high low w is = absurd (cc is)
sliced_kind packet_out high low w is = absurd (cc is)
sliced_kind errors high low w is = absurd (cc is)
sliced_kind (enumeration enum) high low w is = absurd (cc is)
sliced_kind (one_of enum) high low w is = absurd (cc is)
sliced_kind table high low w is = absurd (cc is)
sliced_kind applied high low w is = absurd (cc is)
sliced_kind (object obj) high low w is = absurd (cc is)
sliced_kind items high low w is = absurd (cc is)
sliced_kind nothing high low w is = absurd (cc is)
sliced_kind unknown high low w is = absurd (cc is)

single_slice : (k : Kind) (high low : Literal16) → Single (slice_kind k high low) → (w : ℕ) × (slice_kind k high low ≡ bits w)
single_slice (bits v) high low h = by (leaves_width v high low) refl h where
  by : (t : Bool) → leaves_width v high low ≡ t → Single (cond t unknown (bits (suc high.value - low.value))) → (w : ℕ) × (slice_kind (bits v) high low ≡ bits w)
  by true e g = absurd g
  by false e g = (suc high.value - low.value, ap (λ (t : Bool). cond t unknown (bits (suc high.value - low.value))) e)
single_slice unsized high low h = absurd h
single_slice boolean high low h = absurd h
single_slice error_code high low h = absurd h
single_slice (header type) high low h = absurd h
single_slice (stack type many) high low h = absurd h
single_slice (struct type) high low h = absurd h
single_slice packet_in high low h = absurd h
single_slice packet_out high low h = absurd h
single_slice errors high low h = absurd h
single_slice (enumeration enum) high low h = absurd h
single_slice (one_of enum) high low h = absurd h
single_slice table high low h = absurd h
single_slice applied high low h = absurd h
single_slice (object obj) high low h = absurd h
single_slice items high low h = absurd h
single_slice nothing high low h = absurd h
single_slice unknown high low h = absurd h

module _ (P : Cells → Type 0) (b : Around) (w : meaning.World) (s : Scope) (who : InScope) (accepted : BreaksNone b.syntax program_rules) (layouts : s.layouts ≡ layouts_of b.syntax.decls) (seated : NamesSeated s (seats_in b.syntax w.around.roots who)) (fine : Fine s) where
  abbrev seats : List NamedSeat
  seats = seats_in b.syntax w.around.roots who

  abbrev pub Reads : Exp16 → Place → sem.Moment → Type 0
  Reads f p m = value_of w s p f m ≡ valued (read m.frame (reference_of w.around s f m).reference) m

  -- a member of a header or a struct
  step_reads : (e : Exp16) (word : Name) (x : Meant) (p : Place) (m : sem.Moment) (k : Moment) (j : Kind) → kind_of s e ≡ j → Composite j → ((v : Valued) → member_value j word v ≡ valued (part_of v.value (to_member word)) v.moment) → ((r : Referred) → member_reference j word r ≡ referred (stepped r.reference (to_member word)) r.moment) → behind_meant (spot_behind s.layouts (to_member word)) (meant_by s seats e) ≡ Some x → x.spot.told ≡ None → Shown P b.syntax who m k → m.stopped ≡ None → Reads (member e word) p m
  step_reads e word x p m k j is of values references means untold h runs =
      let y : Behind (meant_by s seats e) x = behind_is s.layouts (to_member word) (meant_by s seats e) x means untold in
      let here : IsHere P b w s who accepted layouts e y.owner_meant m = is_here P b w s who accepted layouts e y.owner_meant m k y.means y.whole y.untold h runs in
      let inner : Reads e owner m = untold_reads P b w s who accepted layouts e y.owner_meant owner m k y.means y.whole y.untold (subst Composite (sym is) of) h runs in
      ap (λ (i : Kind). member_value i word (value_of w s owner e m)) is
      ∙ (values (value_of w s owner e m)
      ∙ (ap (λ (v : Valued). valued (part_of v.value (to_member word)) v.moment) inner
      ∙ (ap (λ (u : Value). valued u m) (sym (read_stepped m.frame (reference_of w.around s e m).reference (to_member word) here.at.cuts))
      ∙ ap (λ (r : Referred). valued (read m.frame r.reference) m) (sym (ap (λ (i : Kind). member_reference i word (reference_of w.around s e m)) is ∙ references (reference_of w.around s e m))))))

  -- bits of what is read
  cut_reads : (f : Frame) (r : Reference) (c : Option Slice) (v : ℕ) (high low : Literal16) → r.slice ≡ c → leaves_width v high low ≡ false → IfSome c (λ (d : Slice). d.width ≡ v) → a_number (slice_of high low).width (sliced (slice_of high low) (number_in (read f r))) ≡ read f (sliced_to r (slice_of high low))
  cut_reads f r None v high low is inside wide =
      ap (λ (c : Option Slice). a_number (slice_of high low).width (sliced (slice_of high low) (number_in (within_slice c (place_value f r))))) is
      ∙ ap (λ (c : Option Slice). within_slice (Some (cut_to (slice_of high low) c)) (place_value f r)) (sym is)
  cut_reads f r (Some d) v high low is inside wide =
      ap (λ (c : Option Slice). a_number (slice_of high low).width (sliced (slice_of high low) (number_in (within_slice c (place_value f r))))) is
      ∙ (ap (λ (n : ℕ). a_number (slice_of high low).width n) (sym (bits_of_bits (number_in (place_value f r)) d.low d.width low.value (suc high.value - low.value) (fits low.value high.value v d.width (first_false (nat_lt high.value low.value) (nat_le v high.value) inside) (second_false (nat_lt high.value low.value) (nat_le v high.value) inside) wide)))
      ∙ ap (λ (c : Option Slice). within_slice (Some (cut_to (slice_of high low) c)) (place_value f r)) (sym is)) where
        fits : (l h v e : ℕ) → nat_lt h l ≡ false → nat_le v h ≡ false → e ≡ v → l + (suc h - l) ≤ e
        fits l h v e x y is =
            let le : l ≤ h = ltb-false h l x in
            let lt : h < v = leb-false v h y in
            omega (arith, le, lt, is)

  slice_reads : (e : Exp16) (high low : Literal16) (y : Meant) (p : Place) (m : sem.Moment) (k : Moment) (v : ℕ) → meant_by s seats e ≡ Some y → y.spot.told ≡ None → kind_of s e ≡ bits v → leaves_width v high low ≡ false → Shown P b.syntax who m k → m.stopped ≡ None → Reads e any_bits m → Reads (slice e high low) p m
  slice_reads e high low y p m k v means untold kind inside h runs inner =
      let found = at_once P b w s who accepted layouts seated fine y e m k means untold h runs in
      let narrow : IsNarrow y.spot.seat.form = narrow_at P b w s who accepted layouts seated fine k.cells (reference_of w.around s e m).reference y.slice y.spot.seat m k found.1 h in
      let wide : CutWide (kind_of s e) y.slice = at_some (IsCutWide (kind_of s e)) (meant_by s seats e) y means (cut_wide s seats e fine seated) narrow in
      ap (slice_value (slice_of high low)) inner
      ∙ ap (λ (u : Value). valued u m) (cut_reads m.frame (reference_of w.around s e m).reference y.slice v high low found.1.cuts inside (few y.slice wide)) where
        few : (c : Option Slice) → CutWide (kind_of s e) c → IfSome c (λ (d : Slice). d.width ≡ v)
        few None g = tt
        few (Some d) g = (g.1 v kind).0

  pub single_reads : (f : Exp16) (x : Meant) (p : Place) (m : sem.Moment) (k : Moment) → meant_by s seats f ≡ Some x → x.spot.told ≡ None → Single (kind_of s f) → Shown P b.syntax who m k → m.stopped ≡ None → Reads f p m
  single_reads (name text) x p m k means untold single h runs = refl
  single_reads (member e word) x p m k means untold single h runs = by (kind_of s e) refl (subst (λ (j : Kind). member_meant s.layouts j word (meant_by s seats e) ≡ Some x) refl means) single where
    never : (o : Option Meant) → IfSome o (λ y. ⊥) → o ≡ Some x → Reads (member e word) p m
    never o none is = absurd (at_some (λ (y : Meant). ⊥) o x is none)

    by : (j : Kind) → kind_of s e ≡ j → member_meant s.layouts j word (meant_by s seats e) ≡ Some x → Single (known_kind (member_kind s.layouts j word)) → Reads (member e word) p m
    by (bits width) is behind of = absurd of
    by unsized is behind of = absurd of
    by boolean is behind of = absurd of
    by error_code is behind of = absurd of
    by (header type) is behind of = step_reads e word x p m k (header type) is tt (λ v. refl) (λ r. refl) behind untold h runs
    by (stack type size) is behind of = absurd (at_some (λ (y : Meant). y.spot.told ≡ None → ⊥) (behind_meant (told_spot s.layouts (which_of word)) (meant_by s seats e)) x behind (told_never s.layouts word (meant_by s seats e)) untold)
    by (struct type) is behind of = step_reads e word x p m k (struct type) is tt (λ v. refl) (λ r. refl) behind untold h runs
    by packet_in is behind of = absurd of
    by packet_out is behind of = absurd of
    by errors is behind of = never (behind_meant (spot_behind s.layouts (to_member word)) (meant_by s seats e)) (formless s.layouts (to_member word) (meant_by s seats e) (weaker (λ y. y.slice ≡ None → FormIs s.layouts (kind_of s e) y.spot.seat.form) (λ y. y.slice ≡ None → y.spot.seat.form ≡ no_form) (meant_by s seats e) (λ y f whole. errors_form s.layouts y.spot.seat.form (subst (λ (j : Kind). FormIs s.layouts j y.spot.seat.form) is (f whole))) (meant_kind s seats e fine seated))) behind
    by (enumeration enum) is behind of = absurd (flagged (has_name (members_of enum) word) (one_of enum) (λ g. g) of)
    by (one_of enum) is behind of = absurd of
    by table is behind of = absurd of
    by applied is behind of = never (behind_meant (spot_behind s.layouts (to_member word)) (meant_by s seats e)) (formless s.layouts (to_member word) (meant_by s seats e) (weaker (λ y. y.slice ≡ None → FormIs s.layouts (kind_of s e) y.spot.seat.form) (λ y. y.slice ≡ None → y.spot.seat.form ≡ no_form) (meant_by s seats e) (λ y f whole. applied_form s.layouts y.spot.seat.form (subst (λ (j : Kind). FormIs s.layouts j y.spot.seat.form) is (f whole))) (meant_kind s seats e fine seated))) behind
    by (object obj) is behind of = absurd of
    by items is behind of = absurd of
    by nothing is behind of = absurd of
    by unknown is behind of = absurd of
  single_reads (index e at) x p m k means untold single h runs = absurd (never_element (kind_of s e) single)
  single_reads (slice e high low) x p m k means untold single h runs =
      let y : Sliced (meant_by s seats e) x = sliced_from (slice_of high low) (meant_by s seats e) x means in
      let width = single_slice (kind_of s e) high low single in
      let of = sliced_kind (kind_of s e) high low width.0 width.1 in
      let still : y.of.spot.told ≡ None = sym (ap (λ (u : Spot). u.told) y.same) ∙ untold in
      slice_reads e high low y.of p m k of.0 y.means still of.1.0 of.1.1 h runs (single_reads e y.of any_bits m k y.means still (subst Single (sym of.1.0) tt) h runs)
  single_reads (literal n) x p m k means untold single h runs = absurd (cc means)
  single_reads (truth holds) x p m k means untold single h runs = absurd (cc means)
  single_reads error x p m k means untold single h runs = absurd (cc means)
  single_reads (call g other) x p m k means untold single h runs = absurd (cc means)
  single_reads (lookahead e to other) x p m k means untold single h runs = absurd (cc means)
  single_reads (cast to e) x p m k means untold single h runs = absurd (cc means)
  single_reads (unary operator e) x p m k means untold single h runs = absurd (cc means)
  single_reads (binary operator a c) x p m k means untold single h runs = absurd (cc means)
  single_reads (choice c a d) x p m k means untold single h runs = absurd (cc means)
  single_reads (parenthesized e) x p m k means untold single h runs = absurd (cc means)
  single_reads no_arguments x p m k means untold single h runs = absurd (cc means)
  single_reads (argument before last) x p m k means untold single h runs = absurd (cc means)
  single_reads (listed es) x p m k means untold single h runs = absurd (cc means)
