-- The source that is made of an expression reaches the parts of what the expression means.
use Rattle.std.proofs.Common.{◌≡◌, inl, inr, ℕ, ◌-◌, ◌==◌, nat_lt, not, ◌&&◌, nat_eq, Bool, true, false, cond, Option, Some, None, IfSome, List, [], ◌∷◌, length, refl, sym, ap, ◌∙◌, subst}
use Rattle.std.specs.Prelude.{option_map, codes}
use Rattle.std.specs.Str.{bytes_eq}
use Rattle.std.proofs.lemmas.Slice.Eq.{bytes_eq-Decides}
use Rattle.std.proofs.lemmas.Bool.{eqb-true}
use Rattle.p416_syntax.specs.declared.program.Syntax16.{Syntax16}
use Rattle.p416_syntax.specs.Tree.{Exp16, literal, truth, error, name, member, index, slice, call, lookahead, cast, unary, binary, choice, parenthesized, no_arguments, argument, listed}
use Rattle.p416_syntax.specs.Names.{Name, has_name}
use Rattle.p416_syntax.specs.Kinds.{Kind, bits, unsized, boolean, error_code, header, stack, struct, packet_in, packet_out, errors, enumeration, one_of, table, applied, object, items, nothing, unknown, is_same_kind}
use Rattle.p416_syntax.specs.Scopes.{Layout as TypeLayout, fields_in, Sort, Scope, sort_of}
use Rattle.p416_syntax.specs.Calls.{Place, value, owner, a_stack}
use Rattle.p416_syntax.specs.Declarations.{layouts_of}
use Rattle.p416_syntax.specs.Expressions.{kind_of, sort_kind, field_kind_in, known_kind, member_kind, element_kind, is_chosen, joint_bits, same_choice}
use Rattle.p416_syntax.specs.Uses.{chosen_place}
use Rattle.p416_syntax.specs.Breaks.{BreaksNone, program_rules}
use Rattle.v1_core.specs.declared.parser_error.ParserError.{ParserError}
use Rattle.v1_core.specs.declared.parser_error.ParserError.TheVariants.{StackOutOfBounds}
use Rattle.v1_core.specs.Values.{Value, place_in, elements_in, is_true, part_of, to_member, to_element}
use Rattle.v1_core.specs.Frames as sem
use Rattle.v1_core.specs.Frames.{Frame, read}
use Rattle.v1_core.specs.Surroundings as meaning
use Rattle.v1_core.specs.Surroundings.{named}
use Rattle.v1_core.specs.Numbered.{InScope, frame_in}
use Rattle.v1_core.specs.Expressions.{Valued, valued, element_by as element_by16, is_beyond, bounded, member_value, value_of}
use Rattle.v1_core.specs.Cells.{Cells}
use Rattle.v1_core.specs.Seats.{Seat}
use Rattle.v1_core.specs.Programs.{numbered16}
use Rattle.v1_core.specs.declared.node.Which.TheVariants.{Next, Last}
use Rattle.v1_core.specs.Ready.{Ended, given, failed, element_by, is_past}
use Rattle.v1_ready_forms.specs.Named.{NamedSeat, seat_of_name, seats_in}
use Rattle.v1_ready_forms.specs.Ways.{Way, through_member, through_element, through_told, which_of}
use Rattle.v1_ready_forms.specs.Spots.{spot, spot_with}
use Rattle.v1_ready_laws.specs.Asked.{asked_value, stopped_by}
use Rattle.v1_ready_laws.specs.Rules.{SortSeated, NamesSeated}
use Rattle.v1_ready_laws.proofs.Accepted.{accepted_narrow}
use Rattle.v1_ready_laws.proofs.Named.{At, name_at}
use Rattle.v1_ready_blocks.specs.declared.places.Range.{Range}
use Rattle.v1_ready_blocks.specs.declared.places.RangePlace.{RangePlace}
use Rattle.v1_ready_blocks.specs.Moments as blocks
use Rattle.v1_ready_blocks.specs.Moments.{Moment}
use Rattle.v1_ready_blocks.specs.Places.{range_at}
use Rattle.v1_ready_blocks.specs.Tests.{World, Test, test_value, Source, parts, chosen, Reached, reached, sought, when_tested, source_range}
use Rattle.v1_place_laws.specs.Finding.{IsAt}
use Rattle.v1_place_laws.proofs.Naming.{name_meant}
use Rattle.v1_ready_statements.specs.Around.{Around, table_found}
use Rattle.v1_ready_statements.specs.Tested.{ready_test, range_behind, way_range, with_chosen, member_source, asked_source}
use Rattle.v1_value_laws.specs.Kinds.{KindFine, Fine, SortFine, FormIs}
use Rattle.v1_value_laws.proofs.Formed.{sort_form}
use Rattle.v1_statement_laws.specs.Behind.{Shown, ValuedShows}
use Rattle.v1_statement_laws.proofs.Closing.{running_is, stopped_is, raised_shown}
use Rattle.v1_statement_laws.proofs.Sources.{Composite, owner_composite, element_stack}
use Rattle.v1_program_laws.specs.Reaching.{way_kind, Seeks, found, beyond, erred, Still, Asks, ConditionsAsk}
use Rattle.v1_program_laws.proofs.Ways.{WayFound, way_found}

-- kinds of a choice

both_true : (a b : Bool) → (a && b) ≡ true → (a ≡ true) × (b ≡ true)
both_true true b e = (refl, e)
both_true false b e = absurd (cc e)

-- one kind, of values with parts
pub one_kind : (k j : Kind) → Composite k → is_same_kind k j ≡ true → j ≡ k
one_kind (bits width) j h is = absurd h
one_kind unsized j h is = absurd h
one_kind boolean j h is = absurd h
one_kind error_code j h is = absurd h
one_kind (header type) (bits width) h is = absurd (cc is)
one_kind (header type) unsized h is = absurd (cc is)
one_kind (header type) boolean h is = absurd (cc is)
one_kind (header type) error_code h is = absurd (cc is)
one_kind (header type) (header other) h is = ap (λ (n : Name). header n) (sym ((bytes_eq-Decides type other).0 is))
one_kind (header type) (stack other many) h is = absurd (cc is)
one_kind (header type) (struct other) h is = absurd (cc is)
one_kind (header type) packet_in h is = absurd (cc is)
one_kind (header type) packet_out h is = absurd (cc is)
one_kind (header type) errors h is = absurd (cc is)
one_kind (header type) (enumeration enum) h is = absurd (cc is)
one_kind (header type) (one_of enum) h is = absurd (cc is)
one_kind (header type) table h is = absurd (cc is)
one_kind (header type) applied h is = absurd (cc is)
one_kind (header type) (object obj) h is = absurd (cc is)
one_kind (header type) items h is = absurd (cc is)
one_kind (header type) nothing h is = absurd (cc is)
one_kind (header type) unknown h is = absurd (cc is)
one_kind (stack type size) (bits width) h is = absurd (cc is)
one_kind (stack type size) unsized h is = absurd (cc is)
one_kind (stack type size) boolean h is = absurd (cc is)
one_kind (stack type size) error_code h is = absurd (cc is)
one_kind (stack type size) (header other) h is = absurd (cc is)
one_kind (stack type size) (stack other many) h is =
    let two = both_true (bytes_eq type other) (nat_eq size many) is in
    ap (λ (n : Name). stack n many) (sym ((bytes_eq-Decides type other).0 two.0)) ∙ ap (λ (n : ℕ). stack type n) (sym (eqb-true size many two.1))
one_kind (stack type size) (struct other) h is = absurd (cc is)
one_kind (stack type size) packet_in h is = absurd (cc is)
one_kind (stack type size) packet_out h is = absurd (cc is)
one_kind (stack type size) errors h is = absurd (cc is)
one_kind (stack type size) (enumeration enum) h is = absurd (cc is)
one_kind (stack type size) (one_of enum) h is = absurd (cc is)
one_kind (stack type size) table h is = absurd (cc is)
one_kind (stack type size) applied h is = absurd (cc is)
one_kind (stack type size) (object obj) h is = absurd (cc is)
one_kind (stack type size) items h is = absurd (cc is)
one_kind (stack type size) nothing h is = absurd (cc is)
one_kind (stack type size) unknown h is = absurd (cc is)
one_kind (struct type) (bits width) h is = absurd (cc is)
one_kind (struct type) unsized h is = absurd (cc is)
one_kind (struct type) boolean h is = absurd (cc is)
one_kind (struct type) error_code h is = absurd (cc is)
one_kind (struct type) (header other) h is = absurd (cc is)
one_kind (struct type) (stack other many) h is = absurd (cc is)
one_kind (struct type) (struct other) h is = ap (λ (n : Name). struct n) (sym ((bytes_eq-Decides type other).0 is))
one_kind (struct type) packet_in h is = absurd (cc is)
one_kind (struct type) packet_out h is = absurd (cc is)
one_kind (struct type) errors h is = absurd (cc is)
one_kind (struct type) (enumeration enum) h is = absurd (cc is)
one_kind (struct type) (one_of enum) h is = absurd (cc is)
one_kind (struct type) table h is = absurd (cc is)
one_kind (struct type) applied h is = absurd (cc is)
one_kind (struct type) (object obj) h is = absurd (cc is)
one_kind (struct type) items h is = absurd (cc is)
one_kind (struct type) nothing h is = absurd (cc is)
one_kind (struct type) unknown h is = absurd (cc is)
one_kind packet_in j h is = absurd h
one_kind packet_out j h is = absurd h
one_kind errors j h is = absurd h
one_kind (enumeration enum) j h is = absurd h
one_kind (one_of enum) j h is = absurd h
one_kind table j h is = absurd h
one_kind applied j h is = absurd h
one_kind (object obj) j h is = absurd h
one_kind items j h is = absurd h
one_kind nothing j h is = absurd h
one_kind unknown j h is = absurd h

no_joint : (a b : Kind) → Composite (joint_bits a b) → ⊥
no_joint (bits width) (bits v) h = by (nat_eq width v) h where
  by : (t : Bool) → Composite (cond t (bits width) unknown) → ⊥
  by true g = g
  by false g = g
no_joint (bits width) unsized h = h
no_joint (bits width) boolean h = h
no_joint (bits width) error_code h = h
no_joint (bits width) (header type) h = h
no_joint (bits width) (stack type size) h = h
no_joint (bits width) (struct type) h = h
no_joint (bits width) packet_in h = h
no_joint (bits width) packet_out h = h
no_joint (bits width) errors h = h
no_joint (bits width) (enumeration enum) h = h
no_joint (bits width) (one_of enum) h = h
no_joint (bits width) table h = h
no_joint (bits width) applied h = h
no_joint (bits width) (object obj) h = h
no_joint (bits width) items h = h
no_joint (bits width) nothing h = h
no_joint (bits width) unknown h = h
no_joint unsized (bits v) h = h
no_joint unsized unsized h = h
no_joint unsized boolean h = h
no_joint unsized error_code h = h
no_joint unsized (header type) h = h
no_joint unsized (stack type size) h = h
no_joint unsized (struct type) h = h
no_joint unsized packet_in h = h
no_joint unsized packet_out h = h
no_joint unsized errors h = h
no_joint unsized (enumeration enum) h = h
no_joint unsized (one_of enum) h = h
no_joint unsized table h = h
no_joint unsized applied h = h
no_joint unsized (object obj) h = h
no_joint unsized items h = h
no_joint unsized nothing h = h
no_joint unsized unknown h = h
no_joint boolean b h = h
no_joint error_code b h = h
no_joint (header type) b h = h
no_joint (stack type size) b h = h
no_joint (struct type) b h = h
no_joint packet_in b h = h
no_joint packet_out b h = h
no_joint errors b h = h
no_joint (enumeration enum) b h = h
no_joint (one_of enum) b h = h
no_joint table b h = h
no_joint applied b h = h
no_joint (object obj) b h = h
no_joint items b h = h
no_joint nothing b h = h
no_joint unknown b h = h

-- a choice between values with parts is between two of its kind
pub chosen_kinds : (a b : Kind) → Composite (same_choice a b) → (same_choice a b ≡ a) × (same_choice a b ≡ b)
chosen_kinds a b h = by (is_same_kind a b) (is_chosen a) refl refl where
  by : (t u : Bool) → is_same_kind a b ≡ t → is_chosen a ≡ u → (same_choice a b ≡ a) × (same_choice a b ≡ b)
  by true true x y =
      let is : same_choice a b ≡ a = ap (λ (p : Bool). cond p (cond (is_chosen a) a unknown) (joint_bits a b)) x ∙ ap (λ (p : Bool). cond p a unknown) y in
      (is, is ∙ sym (one_kind a b (subst Composite is h) x))
  by true false x y =
      let is : same_choice a b ≡ unknown = ap (λ (p : Bool). cond p (cond (is_chosen a) a unknown) (joint_bits a b)) x ∙ ap (λ (p : Bool). cond p a unknown) y in
      absurd (subst Composite is h)
  by false u x y =
      let is : same_choice a b ≡ joint_bits a b = ap (λ (p : Bool). cond p (cond (is_chosen a) a unknown) (joint_bits a b)) x in
      absurd (no_joint a b (subst Composite is h))

-- a member of a stack is an element
told_kind : (t : Bool) (type : Name) → Composite (known_kind (cond t (Some (header type)) None)) → known_kind (cond t (Some (header type)) None) ≡ header type
told_kind true type h = refl
told_kind false type h = absurd h

-- what a name is, which is a value with parts
value_sort : (sort : Sort) (o : Option Seat) → Composite (sort_kind sort) → SortSeated sort o → (types : List TypeLayout) → SortFine types sort → IfSome o (λ t. FormIs types (sort_kind sort) t.form)
value_sort sort None h seated types fine = tt
value_sort sort (Some t) h seated types fine = sort_form types sort t seated fine

at_some : {A : Type 0} (B : A → Type 0) (o : Option A) (x : A) → o ≡ Some x → IfSome o B → B x
at_some {A = A} B o x is h = subst (λ (p : Option A). IfSome p B) is h

each : {A : Type 0} (B C : A → Type 0) (o : Option A) → ((x : A) → B x → C x) → IfSome o B → IfSome o C
each B C None f h = tt
each B C (Some x) f h = f x h

-- the words for an element that the place of its stack tells

told_number : (word : Name) (place : ℕ) → element_by (which_of word) place ≡ element_by16 word place
told_number word place = by (bytes_eq word (codes "last")) where
  by : (t : Bool) → element_by (cond t Last Next) place ≡ cond t (place - 1) place
  by true = refl
  by false = refl

told_past : (word : Name) (place size : ℕ) → is_past (which_of word) place size ≡ is_beyond word place size
told_past word place size = by (bytes_eq word (codes "last")) where
  by : (t : Bool) → is_past (cond t Last Next) place size ≡ cond t (place == 0) (not (nat_lt place size))
  by true = refl
  by false = refl

module _ (P : Cells → Type 0) (syntax : Syntax16) (who : InScope) where
  -- a member or an element that no stack tells
  pub member_seeks : (word : Name) (way : Way) (k : Kind) (x : Valued) (y : Reached) → Seeks P syntax who (through_member word way) k x y → Seeks P syntax who way k (valued (part_of x.value (to_member word)) x.moment) y
  member_seeks word way k x y (found r u to runs asked part shown) = found r u to runs asked part shown
  member_seeks word way k x y (beyond to runs asked shown) = beyond to runs asked shown
  member_seeks word way k x y (erred e to stops shown) = erred e to stops shown

  pub element_seeks : (number : ℕ) (way : Way) (k : Kind) (x : Valued) (y : Reached) → Seeks P syntax who (through_element number way) k x y → Seeks P syntax who way k (valued (part_of x.value (to_element number)) x.moment) y
  element_seeks number way k x y (found r u to runs asked part shown) = found r u to runs asked part shown
  element_seeks number way k x y (beyond to runs asked shown) = beyond to runs asked shown
  element_seeks number way k x y (erred e to stops shown) = erred e to stops shown

  -- one that its stack tells
  pub told_seeks : (word : Name) (way : Way) (k : Kind) (type : Name) (size : ℕ) (x : Valued) (y : Reached) → Seeks P syntax who (through_told (which_of word) way) k x y → Seeks P syntax who way k (member_value (stack type size) word x) y
  told_seeks word way k type size x y h = by (is_past (which_of word) (place_in x.value) (length (elements_in x.value))) refl h where
    value_is : Value
    value_is = part_of x.value (to_element (element_by16 word (place_in x.value)))

    past_is : (t : Bool) → is_past (which_of word) (place_in x.value) (length (elements_in x.value)) ≡ t → (bounded word x.value x.moment) ≡ cond t (sem.raised StackOutOfBounds x.moment) x.moment
    past_is t e = ap (λ (p : Bool). cond p (sem.raised StackOutOfBounds x.moment) x.moment) (sym (told_past word (place_in x.value) (length (elements_in x.value))) ∙ e)

    asked_is : (t : Bool) → is_past (which_of word) (place_in x.value) (length (elements_in x.value)) ≡ t → asked_value (through_told (which_of word) way) x.value ≡ cond t (failed StackOutOfBounds) (asked_value way (part_of x.value (to_element (element_by16 word (place_in x.value)))))
    asked_is t e =
        ap (λ (p : Bool). cond p (failed StackOutOfBounds) (asked_value way (part_of x.value (to_element (element_by (which_of word) (place_in x.value)))))) e
        ∙ ap (λ (n : ℕ). cond t (failed StackOutOfBounds) (asked_value way (part_of x.value (to_element n)))) (told_number word (place_in x.value))

    other : (end : Ended) (u : Value) → end ≡ failed StackOutOfBounds → end ≡ given u → ⊥
    other end u p q = cc (sym p ∙ q)

    raised_at : x.moment.stopped ≡ None → sem.raised StackOutOfBounds x.moment ≡ stopped_by StackOutOfBounds x.moment
    raised_at runs = running_is x.moment.stopped x.moment (stopped_by StackOutOfBounds x.moment) runs

    by : (t : Bool) → is_past (which_of word) (place_in x.value) (length (elements_in x.value)) ≡ t → Seeks P syntax who (through_told (which_of word) way) k x y → Seeks P syntax who way k (member_value (stack type size) word x) y
    by true e (found r u to runs asked part shown) = absurd (other (asked_value (through_told (which_of word) way) x.value) u (asked_is true e) asked)
    by true e (beyond to runs asked shown) =
        subst (λ (m : sem.Moment). Seeks P syntax who way k (valued (part_of x.value (to_element (element_by16 word (place_in x.value)))) m) y) (sym (past_is true e ∙ raised_at runs))
        (erred StackOutOfBounds to refl (raised_shown P syntax who StackOutOfBounds x.moment y.moment shown runs))
    by true e (erred f to stops shown) =
        subst (λ (m : sem.Moment). Seeks P syntax who way k (valued (part_of x.value (to_element (element_by16 word (place_in x.value)))) m) y) (sym (past_is true e ∙ stopped_is x.moment.stopped f x.moment (stopped_by StackOutOfBounds x.moment) stops))
        (erred f to stops shown)
    by false e (found r u to runs asked part shown) =
        subst (λ (m : sem.Moment). Seeks P syntax who way k (valued (part_of x.value (to_element (element_by16 word (place_in x.value)))) m) y) (sym (past_is false e))
        (found r u to runs (sym (asked_is false e) ∙ asked) part shown)
    by false e (beyond to runs asked shown) =
        subst (λ (m : sem.Moment). Seeks P syntax who way k (valued (part_of x.value (to_element (element_by16 word (place_in x.value)))) m) y) (sym (past_is false e))
        (beyond to runs (sym (asked_is false e) ∙ asked) shown)
    by false e (erred f to stops shown) =
        subst (λ (m : sem.Moment). Seeks P syntax who way k (valued (part_of x.value (to_element (element_by16 word (place_in x.value)))) m) y) (sym (past_is false e))
        (erred f to stops shown)

module _ (P : Cells → Type 0) (b : Around) (w : meaning.World) (z : World) (s : Scope) (who : InScope) (accepted : BreaksNone b.syntax program_rules) (layouts : s.layouts ≡ layouts_of b.syntax.decls) (seated : NamesSeated s (seats_in b.syntax w.around.roots who)) (fine : Fine s) where
  abbrev seats : List NamedSeat
  seats = seats_in b.syntax w.around.roots who

  -- what is sought of an expression
  abbrev pub Sought : Way → Exp16 → Place → sem.Moment → Moment → Source → Type 0
  Sought way e p m k source = Seeks P b.syntax who way (way_kind (layouts_of b.syntax.decls) way (kind_of s e)) (value_of w s p e m) (source_range z.apply source k)

  -- a name
  reach : (way : Way) (k : Kind) (v : Value) (m : sem.Moment) (j : Moment) (o : Option Range) → Shown P b.syntax who m j → m.stopped ≡ None → WayFound b.syntax j.cells (asked_value way v) k o → Seeks P b.syntax who way k (valued v m) (reached (sought o) j)
  reach way k v m j None h runs at = beyond refl runs at h
  reach way k v m j (Some r) h runs at = found r at.0 refl runs at.1.0 at.1.1 h

  reach_place : (way : Way) (k : Kind) (v : Value) (m : sem.Moment) (j : Moment) (o : Option RangePlace) → Shown P b.syntax who m j → m.stopped ≡ None → IfSome o (λ place. WayFound b.syntax j.cells (asked_value way v) k (range_at j.cells place)) → IfSome (option_map parts o) (λ source. Seeks P b.syntax who way k (valued v m) (source_range z.apply source j))
  reach_place way k v m j None h runs at = tt
  reach_place way k v m j (Some place) h runs at = reach way k v m j (range_at j.cells place) h runs at

  name_seeks : (way : Way) (text : Name) (p : Place) (m : sem.Moment) (k : Moment) → Composite (kind_of s (name text)) → Shown P b.syntax who m k → m.stopped ≡ None → IfSome (asked_source s seats (table_found b) way (name text)) (Sought way (name text) p m k)
  name_seeks way text p m k composite h runs =
      subst (λ (l : List TypeLayout). IfSome (option_map parts (range_behind (way_range l way) (spot_with None (seat_of_name seats text)))) (Sought way (name text) p m k)) (sym layouts)
      (subst (λ (f : Frame). IfSome (option_map parts (range_behind (way_range (layouts_of b.syntax.decls) way) (spot_with None (seat_of_name seats text)))) (λ source. Seeks P b.syntax who way (way_kind (layouts_of b.syntax.decls) way (kind_of s (name text))) (valued (read f (named w.around f text)) m) (source_range z.apply source k))) (sym h.shows.frame)
      (reach_place way (way_kind (layouts_of b.syntax.decls) way (kind_of s (name text))) (read f16 (named w.around f16 text)) m k (range_behind (way_range (layouts_of b.syntax.decls) way) (spot_with None (seat_of_name seats text))) h runs
      (by (seat_of_name seats text) (name_at b.syntax k.cells w who text h.shows.whole.layout (accepted_narrow b.syntax accepted).2) (name_meant b.syntax (numbered16 b.syntax k.cells) w.around who text)
      (value_sort (sort_of s text) (seat_of_name seats text) composite (seated text) (layouts_of b.syntax.decls) (subst (λ (l : List TypeLayout). SortFine l (sort_of s text)) layouts (fine.names text)))))) where
        f16 : Frame
        f16 = frame_in who (numbered16 b.syntax k.cells)

        by : (o : Option Seat) → IfSome o (At k.cells (layouts_of b.syntax.decls) (read (frame_in who (numbered16 b.syntax k.cells)) (named w.around (frame_in who (numbered16 b.syntax k.cells)) text))) → IfSome o (IsAt b.syntax who (named w.around (frame_in who (numbered16 b.syntax k.cells)) text) None) → IfSome o (λ t. FormIs (layouts_of b.syntax.decls) (kind_of s (name text)) t.form)
            → IfSome (range_behind (way_range (layouts_of b.syntax.decls) way) (spot_with None o)) (λ place. WayFound b.syntax k.cells (asked_value way (read (frame_in who (numbered16 b.syntax k.cells)) (named w.around (frame_in who (numbered16 b.syntax k.cells)) text))) (way_kind (layouts_of b.syntax.decls) way (kind_of s (name text))) (range_at k.cells place))
        by None at means form = tt
        by (Some t) at means form =
            subst (λ (v : Value). IfSome (way_range (layouts_of b.syntax.decls) way (spot None t)) (λ place. WayFound b.syntax k.cells (asked_value way v) (way_kind (layouts_of b.syntax.decls) way (kind_of s (name text))) (range_at k.cells place))) (sym at.0)
            (way_found b.syntax k.cells h.shows.whole (accepted_narrow b.syntax accepted).0 (accepted_narrow b.syntax accepted).2
            (subst (λ (l : List TypeLayout). (type word : Name) → KindFine l (known_kind (field_kind_in (fields_in l type) word))) layouts fine.members) way (kind_of s (name text)) t means.part form means.seat)

  -- a member
  member_sought : (way : Way) (e : Exp16) (word : Name) (p : Place) (m : sem.Moment) (k : Moment) → Composite (kind_of s (member e word)) → ((further : Way) → IfSome (asked_source s seats (table_found b) further e) (Sought further e owner m k)) → IfSome (asked_source s seats (table_found b) way (member e word)) (Sought way (member e word) p m k)
  member_sought way e word p m k composite rest = by (kind_of s e) refl (owner_composite s.layouts (kind_of s e) word composite) where
    goal : Kind → Type 0
    goal j = IfSome (member_source j word way (λ further. asked_source s seats (table_found b) further e)) (λ source. Seeks P b.syntax who way (way_kind (layouts_of b.syntax.decls) way (known_kind (member_kind s.layouts j word))) (member_value j word (value_of w s owner e m)) (source_range z.apply source k))

    through : (j : Kind) → kind_of s e ≡ j → ((v : Valued) → member_value j word v ≡ valued (part_of v.value (to_member word)) v.moment) → IfSome (asked_source s seats (table_found b) (through_member word way) e) (λ source. Seeks P b.syntax who way (way_kind (layouts_of b.syntax.decls) way (known_kind (member_kind s.layouts j word))) (member_value j word (value_of w s owner e m)) (source_range z.apply source k))
    through j is values =
        subst (λ (v : Valued). IfSome (asked_source s seats (table_found b) (through_member word way) e) (λ source. Seeks P b.syntax who way (way_kind (layouts_of b.syntax.decls) way (known_kind (member_kind s.layouts j word))) v (source_range z.apply source k))) (sym (values (value_of w s owner e m)))
        (subst (λ (l : List TypeLayout). IfSome (asked_source s seats (table_found b) (through_member word way) e) (λ source. Seeks P b.syntax who way (way_kind (layouts_of b.syntax.decls) way (known_kind (member_kind l j word))) (valued (part_of (value_of w s owner e m).value (to_member word)) (value_of w s owner e m).moment) (source_range z.apply source k))) (sym layouts)
        (subst (λ (i : Kind). IfSome (asked_source s seats (table_found b) (through_member word way) e) (λ source. Seeks P b.syntax who way (way_kind (layouts_of b.syntax.decls) way (known_kind (member_kind (layouts_of b.syntax.decls) i word))) (valued (part_of (value_of w s owner e m).value (to_member word)) (value_of w s owner e m).moment) (source_range z.apply source k))) is
        (each (Sought (through_member word way) e owner m k) (λ source. Seeks P b.syntax who way (way_kind (layouts_of b.syntax.decls) way (known_kind (member_kind (layouts_of b.syntax.decls) (kind_of s e) word))) (valued (part_of (value_of w s owner e m).value (to_member word)) (value_of w s owner e m).moment) (source_range z.apply source k)) (asked_source s seats (table_found b) (through_member word way) e)
        (λ source h. member_seeks P b.syntax who word way (way_kind (layouts_of b.syntax.decls) (through_member word way) (kind_of s e)) (value_of w s owner e m) (source_range z.apply source k) h) (rest (through_member word way)))))

    told : (type : Name) (size : ℕ) → kind_of s e ≡ stack type size → known_kind (member_kind s.layouts (stack type size) word) ≡ header type → goal (stack type size)
    told type size is one =
        subst (λ (j : Kind). IfSome (asked_source s seats (table_found b) (through_told (which_of word) way) e) (λ source. Seeks P b.syntax who way (way_kind (layouts_of b.syntax.decls) way j) (member_value (stack type size) word (value_of w s owner e m)) (source_range z.apply source k))) (sym one)
        (subst (λ (i : Kind). IfSome (asked_source s seats (table_found b) (through_told (which_of word) way) e) (λ source. Seeks P b.syntax who way (way_kind (layouts_of b.syntax.decls) way (element_kind i)) (member_value (stack type size) word (value_of w s owner e m)) (source_range z.apply source k))) is
        (each (Sought (through_told (which_of word) way) e owner m k) (λ source. Seeks P b.syntax who way (way_kind (layouts_of b.syntax.decls) way (element_kind (kind_of s e))) (member_value (stack type size) word (value_of w s owner e m)) (source_range z.apply source k)) (asked_source s seats (table_found b) (through_told (which_of word) way) e)
        (λ source h. told_seeks P b.syntax who word way (way_kind (layouts_of b.syntax.decls) (through_told (which_of word) way) (kind_of s e)) type size (value_of w s owner e m) (source_range z.apply source k) h) (rest (through_told (which_of word) way))))

    back : (j : Kind) → kind_of s e ≡ j → goal j → goal (kind_of s e)
    back j is h = subst goal (sym is) h

    by : (j : Kind) → kind_of s e ≡ j → Composite j → goal (kind_of s e)
    by (bits width) is of = absurd of
    by unsized is of = absurd of
    by boolean is of = absurd of
    by error_code is of = absurd of
    by (header type) is of = back (header type) is (through (header type) is (λ v. refl))
    by (stack type size) is of = back (stack type size) is (told type size is (told_kind (has_name (codes "next" ∷ codes "last" ∷ []) word) type (subst (λ (j : Kind). Composite (known_kind (member_kind s.layouts j word))) is composite)))
    by (struct type) is of = back (struct type) is (through (struct type) is (λ v. refl))
    by packet_in is of = absurd of
    by packet_out is of = absurd of
    by errors is of = absurd of
    by (enumeration enum) is of = absurd of
    by (one_of enum) is of = absurd of
    by table is of = absurd of
    by applied is of = absurd of
    by (object obj) is of = absurd of
    by items is of = absurd of
    by nothing is of = absurd of
    by unknown is of = absurd of

  -- a choice
  choice_sought : (way : Way) (c a d : Exp16) (p : Place) (m : sem.Moment) (k : Moment) → Composite (same_choice (kind_of s a) (kind_of s d)) → IfSome (ready_test s seats (table_found b) (value boolean) c) (Asks P b w z s who c)
      → ((q : Place) (n : sem.Moment) (j : Moment) → Shown P b.syntax who n j → n.stopped ≡ None → IfSome (asked_source s seats (table_found b) way a) (Sought way a q n j))
      → ((q : Place) (n : sem.Moment) (j : Moment) → Shown P b.syntax who n j → n.stopped ≡ None → IfSome (asked_source s seats (table_found b) way d) (Sought way d q n j))
      → Shown P b.syntax who m k → m.stopped ≡ None → IfSome (asked_source s seats (table_found b) way (choice c a d)) (Sought way (choice c a d) p m k)
  choice_sought way c a d p m k composite asks first second h runs =
      by (ready_test s seats (table_found b) (value boolean) c) (asked_source s seats (table_found b) way a) (asked_source s seats (table_found b) way d) asks (λ n j g f. first q n j g f) (λ n j g f. second q n j g f) where
        q : Place
        q = chosen_place p (kind_of s a) (kind_of s d)

        x : Valued
        x = value_of w s (value boolean) c m

        kinds : (same_choice (kind_of s a) (kind_of s d) ≡ kind_of s a) × (same_choice (kind_of s a) (kind_of s d) ≡ kind_of s d)
        kinds = chosen_kinds (kind_of s a) (kind_of s d) composite

        K : Kind
        K = way_kind (layouts_of b.syntax.decls) way (same_choice (kind_of s a) (kind_of s d))

        one : (t : Bool) (f g : Source) (j : Moment) → (t ≡ true → Seeks P b.syntax who way (way_kind (layouts_of b.syntax.decls) way (kind_of s a)) (value_of w s q a x.moment) (source_range z.apply f j)) → (t ≡ false → Seeks P b.syntax who way (way_kind (layouts_of b.syntax.decls) way (kind_of s d)) (value_of w s q d x.moment) (source_range z.apply g j))
            → Seeks P b.syntax who way (way_kind (layouts_of b.syntax.decls) way (same_choice (kind_of s a) (kind_of s d))) (cond t (value_of w s q a x.moment) (value_of w s q d x.moment)) (cond t (source_range z.apply f j) (source_range z.apply g j))
        one true f g j y n = subst (λ (i : Kind). Seeks P b.syntax who way (way_kind (layouts_of b.syntax.decls) way i) (value_of w s q a x.moment) (source_range z.apply f j)) (sym kinds.0) (y refl)
        one false f g j y n = subst (λ (i : Kind). Seeks P b.syntax who way (way_kind (layouts_of b.syntax.decls) way i) (value_of w s q d x.moment) (source_range z.apply g j)) (sym kinds.1) (n refl)

        either : (t : Bool) → Still w s → (e : ParserError) → x.moment.stopped ≡ Some e → (let v : Valued = cond t (value_of w s q a x.moment) (value_of w s q d x.moment) in v.moment) ≡ x.moment
        either true still e stops = still q a x.moment e stops
        either false still e stops = still q d x.moment e stops

        both : (t : Test) (f g : Source) → Asks P b w z s who c t
            → ((n : sem.Moment) (j : Moment) → Shown P b.syntax who n j → n.stopped ≡ None → Sought way a q n j f)
            → ((n : sem.Moment) (j : Moment) → Shown P b.syntax who n j → n.stopped ≡ None → Sought way d q n j g)
            → ValuedShows P b.syntax who x (test_value z.apply t k) → Sought way (choice c a d) p m k (chosen t f g)
        both t f g asked first_one other (inl is) =
            subst (λ (end : Ended). Seeks P b.syntax who way (way_kind (layouts_of b.syntax.decls) way (same_choice (kind_of s a) (kind_of s d))) (cond (is_true x.value) (value_of w s q a x.moment) (value_of w s q d x.moment)) (when_tested (record { value = end; moment = (test_value z.apply t k).moment }) (λ v n. cond (is_true v) (source_range z.apply f n) (source_range z.apply g n)))) (sym is.0)
            (one (is_true x.value) f g (test_value z.apply t k).moment (λ true_is. first_one x.moment (test_value z.apply t k).moment is.2 is.1) (λ false_is. other x.moment (test_value z.apply t k).moment is.2 is.1))
        both t f g asked first_one other (inr is) =
            let still : Still w s = asked.ends m k is.0 h runs is.2 in
            let stays : (let v : Valued = cond (is_true x.value) (value_of w s q a x.moment) (value_of w s q d x.moment) in v.moment) ≡ x.moment = either (is_true x.value) still is.0 is.2 in
            subst (λ (end : Ended). Seeks P b.syntax who way (way_kind (layouts_of b.syntax.decls) way (same_choice (kind_of s a) (kind_of s d))) (cond (is_true x.value) (value_of w s q a x.moment) (value_of w s q d x.moment)) (when_tested (record { value = end; moment = (test_value z.apply t k).moment }) (λ v n. cond (is_true v) (source_range z.apply f n) (source_range z.apply g n)))) (sym is.1)
            (erred is.0 refl (ap (λ (n : sem.Moment). n.stopped) stays ∙ is.2) (subst (λ (n : sem.Moment). Shown P b.syntax who n (blocks.raised is.0 (test_value z.apply t k).moment)) (sym stays) is.3))

        by : (o : Option Test) (f g : Option Source) → IfSome o (Asks P b w z s who c)
            → ((n : sem.Moment) (j : Moment) → Shown P b.syntax who n j → n.stopped ≡ None → IfSome f (Sought way a q n j))
            → ((n : sem.Moment) (j : Moment) → Shown P b.syntax who n j → n.stopped ≡ None → IfSome g (Sought way d q n j))
            → IfSome (with_chosen o f g) (Sought way (choice c a d) p m k)
        by None None None asked first_one other = tt
        by None None (Some g) asked first_one other = tt
        by None (Some f) None asked first_one other = tt
        by None (Some f) (Some g) asked first_one other = tt
        by (Some t) None None asked first_one other = tt
        by (Some t) None (Some g) asked first_one other = tt
        by (Some t) (Some f) None asked first_one other = tt
        by (Some t) (Some f) (Some g) asked first_one other = both t f g asked first_one other (asked.gives m k h runs)

  pub seeks : (e : Exp16) (way : Way) (p : Place) (m : sem.Moment) (k : Moment) → ConditionsAsk P b w z s who e → Composite (kind_of s e) → Shown P b.syntax who m k → m.stopped ≡ None → IfSome (asked_source s seats (table_found b) way e) (Sought way e p m k)
  seeks (name text) way p m k asks composite h runs = name_seeks way text p m k composite h runs
  seeks (member e word) way p m k asks composite h runs =
      member_sought way e word p m k composite (λ further. seeks e further owner m k asks (owner_composite s.layouts (kind_of s e) word composite) h runs)
  seeks (index e at) way p m k asks composite h runs =
      let stacked = element_stack (kind_of s e) composite in
      each (Sought (through_element at.value way) e a_stack m k) (Sought way (index e at) p m k) (asked_source s seats (table_found b) (through_element at.value way) e)
      (λ source g. element_seeks P b.syntax who at.value way (way_kind (layouts_of b.syntax.decls) (through_element at.value way) (kind_of s e)) (value_of w s a_stack e m) (source_range z.apply source k) g)
      (seeks e (through_element at.value way) a_stack m k asks (subst Composite (sym stacked.1.1) tt) h runs)
  seeks (choice c a d) way p m k asks composite h runs =
      let kinds = chosen_kinds (kind_of s a) (kind_of s d) composite in
      choice_sought way c a d p m k composite asks.0
      (λ q n j g f. seeks a way q n j asks.1 (subst Composite kinds.0 composite) g f)
      (λ q n j g f. seeks d way q n j asks.2 (subst Composite kinds.1 composite) g f) h runs
  seeks (literal n) way p m k asks composite h runs = tt
  seeks (truth holds) way p m k asks composite h runs = tt
  seeks error way p m k asks composite h runs = tt
  seeks (slice e high low) way p m k asks composite h runs = tt
  seeks (call f handed) way p m k asks composite h runs = tt
  seeks (lookahead e to handed) way p m k asks composite h runs = tt
  seeks (cast to e) way p m k asks composite h runs = tt
  seeks (unary operator e) way p m k asks composite h runs = tt
  seeks (binary operator a d) way p m k asks composite h runs = tt
  seeks (parenthesized e) way p m k asks composite h runs = tt
  seeks no_arguments way p m k asks composite h runs = tt
  seeks (argument before last) way p m k asks composite h runs = tt
  seeks (listed es) way p m k asks composite h runs = tt
