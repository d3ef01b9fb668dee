-- The assignment of a header, a stack or a struct that no stack tells.
use Rattle.std.proofs.Common.{◌≡◌, inl, inr, ℕ, ◌&&◌, ◌||◌, nat_eq, Bool, true, false, cond, Option, Some, None, IfSome, List, [], length, refl, sym, ap, ◌∙◌, subst}
use Rattle.std.specs.Prelude.{option_map}
use Rattle.std.specs.Str.{bytes_eq}
use Rattle.std.proofs.lemmas.Slice.Eq.{bytes_eq-Decides}
use Rattle.std.proofs.lemmas.Bool.{eqb-true}
use Rattle.p416_syntax.specs.Tree.{Exp16, literal, truth, error, name, member, index, slice, call, lookahead, cast, unary, binary, choice, parenthesized, no_arguments, argument, listed, assign}
use Rattle.p416_syntax.specs.Names.{Name}
use Rattle.p416_syntax.specs.Kinds.{Kind, bits, unsized, boolean, error_code, header, stack, struct, packet_in, packet_out, errors, enumeration, one_of, table, applied, object, items, nothing, unknown}
use Rattle.p416_syntax.specs.Scopes.{Layout, Scope}
use Rattle.p416_syntax.specs.Calls.{Place, owner, a_stack}
use Rattle.p416_syntax.specs.Expressions.{kind_of}
use Rattle.p416_syntax.specs.Statements.{assigned_place}
use Rattle.p416_syntax.specs.Types.{takes}
use Rattle.p416_syntax.specs.Breaks.{BreaksNone, program_rules}
use Rattle.p416_syntax.specs.Declarations.{layouts_of}
use Rattle.v1_core.specs.Values.{to_member, to_element}
use Rattle.v1_core.specs.Frames as sem
use Rattle.v1_core.specs.Frames.{Reference, put_at}
use Rattle.v1_core.specs.Slots.{variable_kinds}
use Rattle.v1_core.specs.Surroundings as meaning
use Rattle.v1_core.specs.Numbered.{InScope}
use Rattle.v1_core.specs.Expressions.{Valued, slice_of, member_value, value_of, reference_of}
use Rattle.v1_core.specs.Statements.{assigned}
use Rattle.v1_core.specs.Cells.{Cells, stack_place, stack_size}
use Rattle.v1_core.specs.Seats.{Form, slot_form, header_form, stack_form, struct_form, no_form, form_of, Seat}
use Rattle.v1_core.specs.Scopes.{IsScope}
use Rattle.v1_core.specs.Ready.{is_past, element_by}
use Rattle.v1_ready_forms.specs.Named.{NamedSeat, seats_in}
use Rattle.v1_ready_forms.specs.Ways.{which_of}
use Rattle.v1_ready_forms.specs.Spots.{Told, Spot, spot_behind, told_spot}
use Rattle.v1_ready_laws.specs.Rules.{Keeps, NamesSeated}
use Rattle.v1_ready_blocks.specs.declared.places.RangePlace.{RangePlace}
use Rattle.v1_ready_blocks.specs.declared.places.RangePlace.TheVariants as range_place
use Rattle.v1_ready_blocks.specs.Moments as blocks
use Rattle.v1_ready_blocks.specs.Moments.{Moment, with_cells}
use Rattle.v1_ready_blocks.specs.Places.{range_at, copied}
use Rattle.v1_ready_blocks.specs.Tests.{World, Source, parts, with_range}
use Rattle.v1_ready_blocks.specs.Statements as ready
use Rattle.v1_ready_blocks.specs.Statements.{Deed, assign_parts, does}
use Rattle.v1_parser_laws.specs.Shown.{Shows}
use Rattle.v1_place_laws.specs.Places.{Meant, behind_meant, member_meant, meant_by, range_of, range_place_of}
use Rattle.v1_place_laws.specs.Finding.{in_element, seat_now}
use Rattle.v1_deed_laws.specs.Forms.{IsParted, OneForm}
use Rattle.v1_deed_laws.proofs.Parts.{parts_put}
use Rattle.v1_ready_statements.specs.Around.{Around, table_found}
use Rattle.v1_ready_statements.specs.Targets.{parts_meant}
use Rattle.v1_ready_statements.specs.Tested.{ready_source}
use Rattle.v1_ready_statements.specs.Statements.{assigns_parts, assigned_to}
use Rattle.v1_value_laws.specs.Kinds.{Fine, FormIs}
use Rattle.v1_value_laws.proofs.Formed.{meant_kind}
use Rattle.v1_value_laws.proofs.Taken.{taken}
use Rattle.v1_statement_laws.specs.Behind.{Waits, Shown}
use Rattle.v1_statement_laws.specs.Leaves.{RunsAlike}
use Rattle.v1_statement_laws.specs.Laws.{HasParts, OneDepth, PartsAssigned}
use Rattle.v1_statement_laws.proofs.Closing.{ticked_shown, running_is}
use Rattle.v1_statement_laws.proofs.Starting.{range_is}
use Rattle.v1_statement_laws.proofs.Methods.{found_by, with_found, seat_form, whole_of}
use Rattle.v1_statement_laws.proofs.Sources.{Composite, owner_composite, element_stack, Behind, behind_is, told_never, cut_never, IsHere, is_here, untold_value, source_is}
use Rattle.v1_block_laws.proofs.Apart.{body_scope}

at_some : {A : Type 0} (B : A → Type 0) (o : Option A) (x : A) → o ≡ Some x → IfSome o B → B x
at_some {A = A} B o x is h = subst (λ (p : Option A). IfSome p B) is h

first_true : (a b : Bool) → (a || b) ≡ true → b ≡ false → a ≡ true
first_true true b e no_b = refl
first_true false b e no_b = absurd (cc (sym no_b ∙ e))

both_true : (a b : Bool) → (a && b) ≡ true → (a ≡ true) × (b ≡ true)
both_true true b e = (refl, e)
both_true false b e = absurd (cc e)

-- what is assigned to headers and stacks is of their kind
same_headers : (k : Kind) (f : Exp16) (j : Kind) → HasParts k → takes (assigned_place k) f j ≡ true → j ≡ k
same_headers (bits width) f j h is = absurd h
same_headers unsized f j h is = absurd h
same_headers boolean f j h is = absurd h
same_headers error_code f j h is = absurd h
same_headers packet_in f j h is = absurd h
same_headers packet_out f j h is = absurd h
same_headers errors f j h is = absurd h
same_headers (enumeration enum) f j h is = absurd h
same_headers (one_of enum) f j h is = absurd h
same_headers table f j h is = absurd h
same_headers applied f j h is = absurd h
same_headers (object obj) f j h is = absurd h
same_headers items f j h is = absurd h
same_headers nothing f j h is = absurd h
same_headers unknown f j h is = absurd h
same_headers (header type) f (bits width) h is = absurd (cc is)
same_headers (header type) f unsized h is = absurd (cc is)
same_headers (header type) f boolean h is = absurd (cc is)
same_headers (header type) f error_code h is = absurd (cc is)
same_headers (header type) f (header other) h is = ap (λ (n : Name). header n) (sym ((bytes_eq-Decides type other).0 (first_true (bytes_eq type other) false is refl)))
same_headers (header type) f (stack other many) h is = absurd (cc is)
same_headers (header type) f (struct other) h is = absurd (cc is)
same_headers (header type) f packet_in h is = absurd (cc is)
same_headers (header type) f packet_out h is = absurd (cc is)
same_headers (header type) f errors h is = absurd (cc is)
same_headers (header type) f (enumeration enum) h is = absurd (cc is)
same_headers (header type) f (one_of enum) h is = absurd (cc is)
same_headers (header type) f table h is = absurd (cc is)
same_headers (header type) f applied h is = absurd (cc is)
same_headers (header type) f (object obj) h is = absurd (cc is)
same_headers (header type) f items h is = absurd (cc is)
same_headers (header type) f nothing h is = absurd (cc is)
same_headers (header type) f unknown h is = absurd (cc is)
same_headers (stack type size) f (bits width) h is = absurd (cc is)
same_headers (stack type size) f unsized h is = absurd (cc is)
same_headers (stack type size) f boolean h is = absurd (cc is)
same_headers (stack type size) f error_code h is = absurd (cc is)
same_headers (stack type size) f (header other) h is = absurd (cc is)
same_headers (stack type size) f (stack other many) h is =
    let two = both_true (bytes_eq type other) (nat_eq size many) (first_true (bytes_eq type other && nat_eq size many) false is refl) in
    ap (λ (n : Name). stack n many) (sym ((bytes_eq-Decides type other).0 two.0)) ∙ ap (λ (n : ℕ). stack type n) (sym (eqb-true size many two.1))
same_headers (stack type size) f (struct other) h is = absurd (cc is)
same_headers (stack type size) f packet_in h is = absurd (cc is)
same_headers (stack type size) f packet_out h is = absurd (cc is)
same_headers (stack type size) f errors h is = absurd (cc is)
same_headers (stack type size) f (enumeration enum) h is = absurd (cc is)
same_headers (stack type size) f (one_of enum) h is = absurd (cc is)
same_headers (stack type size) f table h is = absurd (cc is)
same_headers (stack type size) f applied h is = absurd (cc is)
same_headers (stack type size) f (object obj) h is = absurd (cc is)
same_headers (stack type size) f items h is = absurd (cc is)
same_headers (stack type size) f nothing h is = absurd (cc is)
same_headers (stack type size) f unknown h is = absurd (cc is)
same_headers (struct type) f (bits width) h is = absurd (cc is)
same_headers (struct type) f unsized h is = absurd (cc is)
same_headers (struct type) f boolean h is = absurd (cc is)
same_headers (struct type) f error_code h is = absurd (cc is)
same_headers (struct type) f (header other) h is = absurd (cc is)
same_headers (struct type) f (stack other many) h is = absurd (cc is)
same_headers (struct type) f (struct other) h is = ap (λ (n : Name). struct n) (sym ((bytes_eq-Decides type other).0 (first_true (bytes_eq type other) false is refl)))
same_headers (struct type) f packet_in h is = absurd (cc is)
same_headers (struct type) f packet_out h is = absurd (cc is)
same_headers (struct type) f errors h is = absurd (cc is)
same_headers (struct type) f (enumeration enum) h is = absurd (cc is)
same_headers (struct type) f (one_of enum) h is = absurd (cc is)
same_headers (struct type) f table h is = absurd (cc is)
same_headers (struct type) f applied h is = absurd (cc is)
same_headers (struct type) f (object obj) h is = absurd (cc is)
same_headers (struct type) f items h is = absurd (cc is)
same_headers (struct type) f nothing h is = absurd (cc is)
same_headers (struct type) f unknown h is = absurd (cc is)

headers_composite : (k : Kind) → HasParts k → Composite k
headers_composite (bits width) h = absurd h
headers_composite unsized h = absurd h
headers_composite boolean h = absurd h
headers_composite error_code h = absurd h
headers_composite (header type) h = tt
headers_composite (stack type size) h = tt
headers_composite (struct type) h = tt
headers_composite packet_in h = absurd h
headers_composite packet_out h = absurd h
headers_composite errors h = absurd h
headers_composite (enumeration enum) h = absurd h
headers_composite (one_of enum) h = absurd h
headers_composite table h = absurd h
headers_composite applied h = absurd h
headers_composite (object obj) h = absurd h
headers_composite items h = absurd h
headers_composite nothing h = absurd h
headers_composite unknown h = absurd h

headers_form : (types : List Layout) (k : Kind) (form : Form) → HasParts k → FormIs types k form → form ≡ form_of k
headers_form types (bits width) form h (inr g) = absurd h
headers_form types (bits width) form h (inl un) = absurd h
headers_form types unsized form h (inr g) = absurd h
headers_form types unsized form h (inl un) = absurd h
headers_form types boolean form h (inr g) = absurd h
headers_form types boolean form h (inl un) = absurd h
headers_form types error_code form h (inr g) = absurd h
headers_form types error_code form h (inl un) = absurd h
headers_form types (header type) form h (inr g) = g.0
headers_form types (header type) form h (inl un) = absurd un
headers_form types (stack type size) form h (inr g) = g.0
headers_form types (stack type size) form h (inl un) = absurd un
headers_form types (struct type) form h (inr g) = g.0
headers_form types (struct type) form h (inl un) = absurd un
headers_form types packet_in form h (inr g) = absurd h
headers_form types packet_in form h (inl un) = absurd h
headers_form types packet_out form h (inr g) = absurd h
headers_form types packet_out form h (inl un) = absurd h
headers_form types errors form h (inr g) = absurd h
headers_form types errors form h (inl un) = absurd h
headers_form types (enumeration enum) form h (inr g) = absurd h
headers_form types (enumeration enum) form h (inl un) = absurd h
headers_form types (one_of enum) form h (inr g) = absurd h
headers_form types (one_of enum) form h (inl un) = absurd h
headers_form types table form h (inr g) = absurd h
headers_form types table form h (inl un) = absurd h
headers_form types applied form h (inr g) = absurd h
headers_form types applied form h (inl un) = absurd h
headers_form types (object obj) form h (inr g) = absurd h
headers_form types (object obj) form h (inl un) = absurd h
headers_form types items form h (inr g) = absurd h
headers_form types items form h (inl un) = absurd h
headers_form types nothing form h (inr g) = absurd h
headers_form types nothing form h (inl un) = absurd h
headers_form types unknown form h (inr g) = absurd h
headers_form types unknown form h (inl un) = absurd h

-- forms of headers and stacks

abbrev Headed : Form → Type 0
Headed (header_form type) = Unit {0}
Headed (stack_form type size) = Unit {0}
Headed (struct_form type) = Unit {0}
Headed f = ⊥

headed : (k : Kind) → HasParts k → Headed (form_of k)
headed (bits width) h = absurd h
headed unsized h = absurd h
headed boolean h = absurd h
headed error_code h = absurd h
headed (header type) h = tt
headed (stack type size) h = tt
headed (struct type) h = tt
headed packet_in h = absurd h
headed packet_out h = absurd h
headed errors h = absurd h
headed (enumeration enum) h = absurd h
headed (one_of enum) h = absurd h
headed table h = absurd h
headed applied h = absurd h
headed (object obj) h = absurd h
headed items h = absurd h
headed nothing h = absurd h
headed unknown h = absurd h

headed_parted : (f : Form) → Headed f → IsParted f
headed_parted (slot_form of) h = absurd h
headed_parted (header_form type) h = tt
headed_parted (stack_form type size) h = tt
headed_parted (struct_form type) h = tt
headed_parted no_form h = absurd h

-- structs are seen to one depth
abbrev SameAt : Form → Seat → Seat → Type 0
SameAt (struct_form type) t u = t.depth ≡ u.depth
SameAt f t u = Unit {0}

one_form : (types : List Layout) (f : Form) (t u : Seat) → Headed f → SameAt f t u → t.form ≡ f → u.form ≡ f → OneForm types t u
one_form types f t u h same tf uf =
    subst (λ (k : Form). OneForm types (record { depth = t.depth; form = k; start = t.start; owner = t.owner }) u) (sym tf)
    (subst (λ (k : Form). OneForm types (record { depth = t.depth; form = f; start = t.start; owner = t.owner }) (record { depth = u.depth; form = k; start = u.start; owner = u.owner })) (sym uf) (by f h same)) where
      by : (f : Form) → Headed f → SameAt f t u → OneForm types (record { depth = t.depth; form = f; start = t.start; owner = t.owner }) (record { depth = u.depth; form = f; start = u.start; owner = u.owner })
      by (header_form type) h same = record { form = refl; ends = refl; value = λ c b. refl; laid = λ l b g. g; wide = λ l b g. g }
      by (stack_form type size) h same = record { form = refl; ends = refl; value = λ c b. refl; laid = λ l b g. g; wide = λ l b g. g }
      by (struct_form type) h same =
          subst (λ (d : ℕ). OneForm types (record { depth = d; form = struct_form type; start = t.start; owner = t.owner }) (record { depth = u.depth; form = struct_form type; start = u.start; owner = u.owner })) (sym same)
          (record { form = refl; ends = refl; value = λ c b. refl; laid = λ l b g. g; wide = λ l b g. g })
      by (slot_form of) h same = absurd h
      by no_form h same = absurd h

seat_depth : (c : Cells) (x : Spot) → IfSome (seat_now c x) (λ t. t.depth ≡ x.seat.depth)
seat_depth c x = by x.told where
  by : (o : Option Told) → IfSome (seat_now c (record { seat = x.seat; told = o })) (λ t. t.depth ≡ x.seat.depth)
  by None = refl
  by (Some t) = cut (is_past t.which (stack_place c t.stack) (stack_size c t.stack)) where
    cut : (past : Bool) → IfSome (cond past None (Some (in_element t.apart (element_by t.which (stack_place c t.stack)) x.seat))) (λ u. u.depth ≡ x.seat.depth)
    cut true = tt
    cut false = refl

same_at : (k : Kind) (x y : Meant) (t : Seat) → OneDepth k x y → t.depth ≡ x.spot.seat.depth → SameAt (form_of k) t y.spot.seat
same_at (bits width) x y t one d = tt
same_at unsized x y t one d = tt
same_at boolean x y t one d = tt
same_at error_code x y t one d = tt
same_at (header type) x y t one d = tt
same_at (stack type size) x y t one d = tt
same_at (struct type) x y t one d = d ∙ one
same_at packet_in x y t one d = tt
same_at packet_out x y t one d = tt
same_at errors x y t one d = tt
same_at (enumeration enum) x y t one d = tt
same_at (one_of enum) x y t one d = tt
same_at table x y t one d = tt
same_at applied x y t one d = tt
same_at (object obj) x y t one d = tt
same_at items x y t one d = tt
same_at nothing x y t one d = tt
same_at unknown x y t one d = tt

-- the parts of what no stack tells
fixed_range : (types : List Layout) (form : Form) (x : Spot) → x.seat.form ≡ form → x.told ≡ None → Headed form → range_place_of types x ≡ Some (range_place.Fixed (range_of types x.seat))
fixed_range types form x is untold h = by x.told untold (subst Headed (sym is) h) where
  by_form : (f : Form) → Headed f → range_place_of types (record { seat = record { depth = x.seat.depth; form = f; start = x.seat.start; owner = x.seat.owner }; told = None }) ≡ Some (range_place.Fixed (range_of types (record { depth = x.seat.depth; form = f; start = x.seat.start; owner = x.seat.owner })))
  by_form (header_form type) g = refl
  by_form (stack_form type size) g = refl
  by_form (slot_form of) g = absurd g
  by_form (struct_form type) g = refl
  by_form no_form g = absurd g

  by : (o : Option Told) → o ≡ None → Headed x.seat.form → range_place_of types (record { seat = x.seat; told = o }) ≡ Some (range_place.Fixed (range_of types x.seat))
  by None e g = by_form x.seat.form g
  by (Some t) e g = absurd (cc e)

module _ (P : Cells → Type 0) (b : Around) (w : meaning.World) (z : World) (s : Scope) (who : InScope) (accepted : BreaksNone b.syntax program_rules) (layouts : s.layouts ≡ layouts_of b.syntax.decls) (seated : NamesSeated s (seats_in b.syntax w.around.roots who)) (fine : Fine s) (scope : IsScope (length (variable_kinds b.syntax)) who) where
  abbrev seats : List NamedSeat
  seats = seats_in b.syntax w.around.roots who

  -- evaluating what no stack tells leaves each moment as it is
  untold_stays : (f : Exp16) (x : Meant) (p : Place) (m : sem.Moment) → meant_by s seats f ≡ Some x → x.slice ≡ None → x.spot.told ≡ None → Composite (kind_of s f) → (value_of w s p f m).moment ≡ m
  untold_stays (name text) x p m means whole untold composite = refl
  untold_stays (member e word) x p m means whole untold composite =
      by (kind_of s e) refl (owner_composite s.layouts (kind_of s e) word composite) (λ y a c d g. untold_stays e y owner m a c d g) where
        step_of : (j : Kind) → kind_of s e ≡ j → Composite j → ((v : Valued) → (member_value j word v).moment ≡ v.moment) → behind_meant (spot_behind s.layouts (to_member word)) (meant_by s seats e) ≡ Some x → ((y : Meant) → meant_by s seats e ≡ Some y → y.slice ≡ None → y.spot.told ≡ None → Composite (kind_of s e) → (value_of w s owner e m).moment ≡ m) → (member_value (kind_of s e) word (value_of w s owner e m)).moment ≡ m
        step_of j is of values behind rest =
            let y : Behind (meant_by s seats e) x = behind_is s.layouts (to_member word) (meant_by s seats e) x behind untold in
            ap (λ (i : Kind). (member_value i word (value_of w s owner e m)).moment) is
            ∙ (values (value_of w s owner e m) ∙ rest y.owner_meant y.means y.whole y.untold (subst Composite (sym is) of))

        by : (j : Kind) → kind_of s e ≡ j → Composite j → ((y : Meant) → meant_by s seats e ≡ Some y → y.slice ≡ None → y.spot.told ≡ None → Composite (kind_of s e) → (value_of w s owner e m).moment ≡ m) → (member_value (kind_of s e) word (value_of w s owner e m)).moment ≡ m
        by (bits width) is of rest = absurd of
        by unsized is of rest = absurd of
        by boolean is of rest = absurd of
        by error_code is of rest = absurd of
        by (header type) is of rest = step_of (header type) is tt (λ v. refl) (subst (λ (i : Kind). member_meant s.layouts i word (meant_by s seats e) ≡ Some x) is means) rest
        by (stack type size) is of rest = absurd (at_some (λ (y : Meant). y.spot.told ≡ None → ⊥) (behind_meant (told_spot s.layouts (which_of word)) (meant_by s seats e)) x (subst (λ (i : Kind). member_meant s.layouts i word (meant_by s seats e) ≡ Some x) is means) (told_never s.layouts word (meant_by s seats e)) untold)
        by (struct type) is of rest = step_of (struct type) is tt (λ v. refl) (subst (λ (i : Kind). member_meant s.layouts i word (meant_by s seats e) ≡ Some x) is means) rest
        by packet_in is of rest = absurd of
        by packet_out is of rest = absurd of
        by errors is of rest = absurd of
        by (enumeration enum) is of rest = absurd of
        by (one_of enum) is of rest = absurd of
        by table is of rest = absurd of
        by applied is of rest = absurd of
        by (object obj) is of rest = absurd of
        by items is of rest = absurd of
        by nothing is of rest = absurd of
        by unknown is of rest = absurd of
  untold_stays (index e at) x p m means whole untold composite =
      let stacked = element_stack (kind_of s e) composite in
      let y : Behind (meant_by s seats e) x = behind_is s.layouts (to_element at.value) (meant_by s seats e) x means untold in
      untold_stays e y.owner_meant a_stack m y.means y.whole y.untold (subst Composite (sym stacked.1.1) tt)
  untold_stays (slice e high low) x p m means whole untold composite = absurd (at_some (λ (y : Meant). y.slice ≡ None → ⊥) (meant_by s seats (slice e high low)) x means (cut_never (slice_of high low) (meant_by s seats e)) whole)
  untold_stays (choice c a d) x p m means whole untold composite = absurd (cc means)
  untold_stays (literal n) x p m means whole untold composite = absurd (cc means)
  untold_stays (truth holds) x p m means whole untold composite = absurd (cc means)
  untold_stays error x p m means whole untold composite = absurd (cc means)
  untold_stays (call g other) x p m means whole untold composite = absurd (cc means)
  untold_stays (lookahead e to other) x p m means whole untold composite = absurd (cc means)
  untold_stays (cast to e) x p m means whole untold composite = absurd (cc means)
  untold_stays (unary operator e) x p m means whole untold composite = absurd (cc means)
  untold_stays (binary operator a c) x p m means whole untold composite = absurd (cc means)
  untold_stays (parenthesized e) x p m means whole untold composite = absurd (cc means)
  untold_stays no_arguments x p m means whole untold composite = absurd (cc means)
  untold_stays (argument before last) x p m means whole untold composite = absurd (cc means)
  untold_stays (listed es) x p m means whole untold composite = absurd (cc means)

  form_at : (f : Exp16) (x : Meant) → HasParts (kind_of s f) → meant_by s seats f ≡ Some x → x.slice ≡ None → x.spot.seat.form ≡ form_of (kind_of s f)
  form_at f x h means whole = headers_form s.layouts (kind_of s f) x.spot.seat.form h (at_some (λ (y : Meant). y.slice ≡ None → FormIs s.layouts (kind_of s f) y.spot.seat.form) (meant_by s seats f) x means (meant_kind s seats f fine seated) whole)

  -- to the parts that are found
  copies : (target f : Exp16) (x y : Meant) (place : RangePlace) (p : Place) (m : sem.Moment) (k : Moment) → HasParts (kind_of s target) → kind_of s f ≡ kind_of s target → meant_by s seats target ≡ Some x → parts_meant s.layouts x ≡ Some place → meant_by s seats f ≡ Some y → y.slice ≡ None → y.spot.told ≡ None → OneDepth (kind_of s target) x y → Shown P b.syntax who m k → m.stopped ≡ None
      → Shown P b.syntax who (sem.going_on (λ n. put_at (reference_of w.around s target m).reference (value_of w s p f n).value n) (reference_of w.around s target m).moment) (with_range (range_at k.cells place) k (λ r. with_cells (copied (range_of s.layouts y.spot.seat) r k.cells) k))
  copies target f x y place p m k heads same means parted from whole untold one h runs =
      with_found P b w s who accepted layouts target x place m k (found_by P b w s who accepted layouts target x place m k means parted h runs) (λ r n. put_at r (value_of w s p f n).value n) (λ r. with_cells (copied (range_of s.layouts y.spot.seat) r k.cells) k) h runs
      (λ t to now at ranged.
      let types : List Layout = layouts_of b.syntax.decls in
      let source_heads : HasParts (kind_of s f) = subst HasParts (sym same) heads in
      let here : IsHere P b w s who accepted layouts f y m = is_here P b w s who accepted layouts f y m k from whole untold h runs in
      let target_form : t.form ≡ form_of (kind_of s target) = at_some (λ (u : Seat). u.form ≡ x.spot.seat.form) (seat_now k.cells x.spot) t now (seat_form P b w s who accepted layouts k.cells x.spot) ∙ form_at target x heads means (whole_of P b w s who accepted layouts x place parted) in
      let source_form : y.spot.seat.form ≡ form_of (kind_of s target) = form_at f y source_heads from whole ∙ ap form_of same in
      record {
        shows =
            subst (λ (l : List Layout). Shows b.syntax who (put_at (reference_of w.around s target m).reference (value_of w s p f m).value m) (with_cells (copied (range_of l y.spot.seat) to k.cells) k)) (sym layouts)
            (parts_put b.syntax who (reference_of w.around s target m).reference t here.at.part y.spot.seat to (range_of types y.spot.seat) (value_of w s p f m).value m k accepted scope at here.at.seat
            (subst IsParted (sym target_form) (headed_parted (form_of (kind_of s target)) (headed (kind_of s target) heads)))
            (one_form types (form_of (kind_of s target)) t y.spot.seat (headed (kind_of s target) heads) (same_at (kind_of s target) x y t one (at_some (λ (u : Seat). u.depth ≡ x.spot.seat.depth) (seat_now k.cells x.spot) t now (seat_depth k.cells x.spot))) target_form source_form) ranged (range_is types y.spot.seat)
            (ap (λ (v : Valued). v.value) (untold_value P b w s who accepted layouts f y p m k from whole untold (headers_composite (kind_of s f) source_heads) h runs)) h.shows);
        waits = h.waits;
      })

  headers_copied : (target f : Exp16) (x y : Meant) (place : RangePlace) → HasParts (kind_of s target) → kind_of s f ≡ kind_of s target → meant_by s seats target ≡ Some x → parts_meant s.layouts x ≡ Some place → meant_by s seats f ≡ Some y → y.slice ≡ None → y.spot.told ≡ None → OneDepth (kind_of s target) x y → RunsAlike P b w z s who [] (assign target f) (does (assign_parts place (parts (range_place.Fixed (range_of s.layouts y.spot.seat)))))
  headers_copied target f x y place heads same means parted from whole untold one ran m k h runs =
      let d : Deed = assign_parts place (parts (range_place.Fixed (range_of s.layouts y.spot.seat))) in
      let p : Place = assigned_place (kind_of s target) in
      let next : Shown P b.syntax who (sem.ticked m) (blocks.ticked k) = ticked_shown P b.syntax who m k h in
      let n : sem.Moment = (reference_of w.around s target (sem.ticked m)).moment in
      let stays : (value_of w s p f n).moment ≡ n = untold_stays f y p n from whole untold (headers_composite (kind_of s f) (subst HasParts (sym same) heads)) in
      record {
        some = [];
        shown =
            subst (λ (u : sem.Moment). Shown P b.syntax who u (ready.run z ran (does d) k)) (sym (running_is m.stopped m (assigned w s target f (sem.ticked m)) runs))
            (subst (λ (u : Moment). Shown P b.syntax who (assigned w s target f (sem.ticked m)) u) (sym (running_is k.stopped k (ready.done z.apply d (blocks.ticked k)) (sym h.shows.stopped ∙ runs)))
            (subst (λ (u : sem.Moment). Shown P b.syntax who (sem.going_on (put_at (reference_of w.around s target (sem.ticked m)).reference (value_of w s p f n).value) u) (ready.done z.apply d (blocks.ticked k))) (sym stays)
            (copies target f x y place p (sem.ticked m) (blocks.ticked k) heads same means parted from whole untold one next runs)));
        all = λ none. refl;
      }

  pub copied_to : (target f : Exp16) (x y : Meant) → HasParts (kind_of s target) → Keeps s (assigned_place (kind_of s target)) f → meant_by s seats target ≡ Some x → meant_by s seats f ≡ Some y → y.slice ≡ None → y.spot.told ≡ None → x.slice ≡ None → OneDepth (kind_of s target) x y → IfSome (assigned_to b s seats (assigned_place (kind_of s target)) f x) (λ d. RunsAlike P b w z s who [] (assign target f) (does d))
  copied_to target f x y heads keeps means from whole untold uncut one =
      let same : kind_of s f ≡ kind_of s target = same_headers (kind_of s target) f (kind_of s f) heads (taken s (assigned_place (kind_of s target)) f keeps.0) in
      let source_form : y.spot.seat.form ≡ form_of (kind_of s target) = form_at f y (subst HasParts (sym same) heads) from whole ∙ ap form_of same in
      let source : ready_source s seats (table_found b) f ≡ Some (parts (range_place.Fixed (range_of s.layouts y.spot.seat))) =
      source_is s seats (table_found b) f y from whole ∙ ap (λ (o : Option RangePlace). option_map parts o) (fixed_range s.layouts (form_of (kind_of s target)) y.spot source_form untold (headed (kind_of s target) heads)) in
      by_form x.spot.seat.form (subst Headed (sym (form_at target x heads means uncut)) (headed (kind_of s target) heads)) (by_place same source (parts_meant s.layouts x) refl) where
        by_place : kind_of s f ≡ kind_of s target → ready_source s seats (table_found b) f ≡ Some (parts (range_place.Fixed (range_of s.layouts y.spot.seat))) → (q : Option RangePlace) → parts_meant s.layouts x ≡ q → IfSome (assigns_parts q (ready_source s seats (table_found b) f)) (λ d. RunsAlike P b w z s who [] (assign target f) (does d))
        by_place same source None is = tt
        by_place same source (Some place) is =
            subst (λ (o : Option Source). IfSome (assigns_parts (Some place) o) (λ d. RunsAlike P b w z s who [] (assign target f) (does d))) (sym source)
            (headers_copied target f x y place heads same means is from whole untold one)

        by_form : (k : Form) → Headed k → IfSome (assigns_parts (parts_meant s.layouts (record { spot = record { seat = record { depth = x.spot.seat.depth; form = k; start = x.spot.seat.start; owner = x.spot.seat.owner }; told = x.spot.told }; slice = x.slice })) (ready_source s seats (table_found b) f)) (λ d. RunsAlike P b w z s who [] (assign target f) (does d)) → IfSome (assigned_to b s seats (assigned_place (kind_of s target)) f (record { spot = record { seat = record { depth = x.spot.seat.depth; form = k; start = x.spot.seat.start; owner = x.spot.seat.owner }; told = x.spot.told }; slice = x.slice })) (λ d. RunsAlike P b w z s who [] (assign target f) (does d))
        by_form (slot_form of) g h = absurd g
        by_form (header_form type) g h = h
        by_form (stack_form type size) g h = h
        by_form (struct_form type) g h = h
        by_form no_form g h = absurd g

pub parts_assigned : PartsAssigned
parts_assigned calls b w z from to n s who target f x y accepted at keeps heads means uncut source whole untold one =
    copied_to (Waits calls b.syntax) b w z s who accepted at.layouts at.seated at.fine (body_scope (length (variable_kinds b.syntax)) from to n who at.body) target f x y heads keeps.1 means source whole untold uncut one
