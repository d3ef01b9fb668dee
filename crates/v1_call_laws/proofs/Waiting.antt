-- A value from one frame enters a variable of another one; and arguments wait in a frame apart.
use Rattle.std.proofs.Common.{◌≡◌, inl, inr, ℕ, zero, suc, ◌^◌, ◌==◌, ◌<◌, not, Option, Some, None, IfSome, List, [], ◌∷◌, length, refl, sym, ap, ◌∙◌, subst}
use Rattle.p416_syntax.specs.declared.program.Syntax16.{Syntax16}
use Rattle.p416_syntax.specs.Kinds.{Kind}
use Rattle.p416_syntax.specs.Scopes.{Layout as TypeLayout}
use Rattle.p416_syntax.specs.Breaks.{BreaksNone, program_rules}
use Rattle.p416_syntax.specs.Declarations.{layouts_of}
use Rattle.v1_core.specs.Values.{Value, as_number, fitted}
use Rattle.v1_core.specs.Slots.{the_variable, FramePart, variable_kinds}
use Rattle.v1_core.specs.Layouts.{Layout}
use Rattle.v1_core.specs.Cells.{Cells, slot_value}
use Rattle.v1_core.specs.Seats.{Content, some_bits, a_truth, an_error, Form, slot_form, header_form, stack_form, struct_form, no_form, form_of, Start, behind, Seat, behind_seat}
use Rattle.v1_core.specs.PackedValues.{content_value, value_from, seat_value}
use Rattle.v1_core.specs.Laid.{IsLaid, IsLaidAt, OwnersAgree}
use Rattle.v1_core.specs.Programs.{seat_in, frame_kinds, first_start, owner_seat, part_seat}
use Rattle.v1_core.specs.PackedFrames.{IsFrameOf}
use Rattle.v1_core.proofs.Laws.{program_laid, part_put}
use Rattle.v1_ready_laws.specs.Widths.{IsWide}
use Rattle.v1_ready_laws.proofs.Accepted.{accepted_narrow}
use Rattle.v1_ready_laws.proofs.Steps.{Stands as StandsWide}
use Rattle.v1_ready_blocks.specs.declared.places.Range.{Range}
use Rattle.v1_ready_blocks.specs.Places.{put, put_value, number_taken, taken}
use Rattle.v1_parser_laws.specs.Ranges.{IsRangeOf, all_of}
use Rattle.v1_parser_laws.proofs.Parts.{header_there}
use Rattle.v1_place_laws.specs.Laws.{FitsSlot}
use Rattle.v1_place_laws.proofs.Writing.{part_stands}
use Rattle.v1_deed_laws.specs.Forms.{IsParted, OneForm}
use Rattle.v1_deed_laws.proofs.Alike.{Offset, behind_offset, Shifted, value_alike}
use Rattle.v1_deed_laws.proofs.Matching.{Matches, forms_match}
use Rattle.v1_deed_laws.proofs.Parts.{parted_fits}
use Rattle.v1_call_laws.proofs.Setting.{IsSet, value_at, bits_of, by_part, seated, stands_as, slot_set, number_below}
use Rattle.v1_call_laws.proofs.Taking.{takes as takes_all}
use Rattle.v1_call_laws.proofs.Outgoing.{content_fits, content_back}

at_some : {A : Type 0} (B : A → Type 0) (o : Option A) (x : A) → o ≡ Some x → IfSome o B → B x
at_some {A = A} B o x is h = subst (λ (p : Option A). IfSome p B) is h

-- a variable is no field
lone_seat : (types : List TypeLayout) (kinds : List Kind) (b : Start) (number : ℕ) → IfSome (seat_in types kinds b number) (λ t. t.owner ≡ None)
lone_seat types [] b number = tt
lone_seat types (k ∷ kinds) b zero = refl
lone_seat types (k ∷ kinds) b (suc number) = lone_seat types kinds (behind types (length types) (form_of k) b) number

lone_laid : (l : Layout) (types : List TypeLayout) (n : ℕ) (k : Form) (b : Start) (owner : Option ℕ) → owner ≡ None → IsLaidAt l types n k b owner → IsLaid l types n k b
lone_laid l types n (slot_form of) b owner is laid = subst (λ (o : Option ℕ). IsLaidAt l types n (slot_form of) b o) is laid
lone_laid l types n (header_form type) b owner is laid = laid
lone_laid l types n (stack_form type size) b owner is laid = laid
lone_laid l types n (struct_form type) b owner is laid = laid
lone_laid l types n no_form b owner is laid = tt

part_laid : (l : Layout) (types : List TypeLayout) (n : ℕ) (k : Form) (b : Start) (owner : Option ℕ) → IsParted k → IsLaidAt l types n k b owner → IsLaid l types n k b
part_laid l types n (slot_form of) b owner parted laid = absurd parted
part_laid l types n (header_form type) b owner parted laid = laid
part_laid l types n (stack_form type size) b owner parted laid = laid
part_laid l types n (struct_form type) b owner parted laid = laid
part_laid l types n no_form b owner parted laid = absurd parted

-- what stands in a slot may be written to one
content_fit : (of : Content) (x : ℕ) → x < 2 ^ bits_of of → FitsSlot of None (content_value of x)
content_fit (some_bits width) x lt = refl
content_fit a_truth x lt = (refl, (not (x == 0), refl))
content_fit an_error x lt = (refl, (x, refl, lt))

module _ (syntax : Syntax16) (accepted : BreaksNone syntax program_rules) (c o : Cells) (from_whole : IsFrameOf syntax c) (whole : IsFrameOf syntax o) (n : ℕ) (t : Seat) (at : owner_seat syntax (the_variable n) ≡ Some t) (within : n < length (variable_kinds syntax)) where
  abbrev types : List TypeLayout
  types = layouts_of syntax.decls

  there : part_seat syntax (all_of (the_variable n)) ≡ Some t
  there = seated syntax accepted o whole n t at within

  laid_as : o.layout ≡ c.layout
  laid_as = whole.layout ∙ sym from_whole.layout

  stands_here : StandsWide o.layout types t
  stands_here = let narrow = accepted_narrow syntax accepted in part_stands syntax o (all_of (the_variable n)) t whole.layout narrow.0 narrow.2 there

  laid_here : IsLaid o.layout types t.depth t.form t.start
  laid_here = lone_laid o.layout types t.depth t.form t.start t.owner (at_some (λ (u : Seat). u.owner ≡ None) (owner_seat syntax (the_variable n)) t at (lone_seat types (frame_kinds syntax) first_start (suc (suc (suc n))))) stands_here.laid

  agree : OwnersAgree o.layout
  agree = subst OwnersAgree (sym whole.layout) (program_laid syntax).0.agree

  -- what stands there in the other frame is taken
  taken_by : (u : Seat) (to from : Range) → IsLaid o.layout types t.depth t.form u.start → IsWide o.layout types t.depth t.form u.start → behind types t.depth t.form u.start ≡ behind_seat types u → value_from types c t.depth t.form u.start ≡ seat_value types c u → fitted (seat_value types o t) (seat_value types c u) ≡ seat_value types c u → IsRangeOf types t to → IsRangeOf types u from → IsSet syntax o (taken from to c o) n (seat_value types c u)
  taken_by u to from laid wide ends value_is fits range source =
      let off : Offset u.start t.start (behind_seat types u) (behind_seat types t) = subst (λ (s : Start). Offset u.start t.start s (behind_seat types t)) ends (behind_offset types t.depth t.form u.start t.start) in
      let match_u : Matches o.layout u.start (behind_seat types u) t.start = subst (λ (s : Start). Matches o.layout u.start s t.start) ends (forms_match o types t.depth t.form u.start t.start laid laid_here wide stands_here.wide) in
      let match_t : Matches o.layout t.start (behind_seat types t) u.start = forms_match o types t.depth t.form t.start u.start laid_here laid stands_here.wide wide in
      let all = takes_all c o laid_as u.start (behind_seat types u) t.start (behind_seat types t) agree from_whole.whole whole.whole off match_u match_t
      (λ h le lt. header_there o.layout types t.depth t.form t.start laid_here h le lt) from to
      source.slot source.slots source.header source.headers source.stack source.stacks range.slot range.slots range.header range.headers range.stack range.stacks in
      let same : seat_value types (taken from to c o) t ≡ seat_value types c u =
      sym (value_alike types c (taken from to c o) t.depth t.form u.start t.start (subst (λ (s : Start). Shifted c (taken from to c o) u.start s t.start) (sym ends) all.2)) ∙ value_is in
      by_part syntax o (taken from to c o) n (seat_value types c u) (seat_value types c u) within (record { layout = all.0.layout ∙ whole.layout; whole = all.1 })
      ((part_put syntax o (taken from to c o) (all_of (the_variable n)) (seat_value types c u) t whole.layout all.0.layout there).put all.0.values
      (record {
        slots = λ i le lt. all.0.slots i (inl lt);
        headers = λ i le lt. all.0.headers i (inl lt);
        stacks = λ i le lt. all.0.stacks i (inl lt);
      })
      (record {
        slots = λ i le lt. all.0.slots i (inr le);
        headers = λ i le lt. all.0.headers i (inr le);
        stacks = λ i le lt. all.0.stacks i (inr le);
      })
      (λ live. fits ∙ sym same))
      (ap (λ (old : Value). fitted old (seat_value types c u)) (stands_as syntax accepted o whole n t at within) ∙ fits)

  -- parts of the other frame
  pub parts_taken : (q : FramePart) (u : Seat) (to from : Range) → part_seat syntax q ≡ Some u → IsParted t.form → OneForm types t u → IsRangeOf types t to → IsRangeOf types u from → IsSet syntax o (taken from to c o) n (seat_value types c u)
  parts_taken q u to from source_at parted one range source =
      let narrow = accepted_narrow syntax accepted in
      let of_u : StandsWide c.layout types u = part_stands syntax c q u from_whole.layout narrow.0 narrow.2 source_at in
      let laid_u : IsLaid c.layout types t.depth t.form u.start = one.laid c.layout u.start (part_laid c.layout types u.depth u.form u.start u.owner (subst IsParted (sym one.form) parted) of_u.laid) in
      taken_by u to from (subst (λ (l : Layout). IsLaid l types t.depth t.form u.start) (sym laid_as) laid_u) (subst (λ (l : Layout). IsWide l types t.depth t.form u.start) (sym laid_as) (one.wide c.layout u.start of_u.wide)) (sym one.ends) (one.value c u.start)
      (parted_fits types o t.depth t.form t.start (seat_value types c u) parted) range source

  -- the same variable
  same_fits : (form : Form) → t.form ≡ form → fitted (seat_value types o t) (seat_value types c t) ≡ seat_value types c t
  same_fits form is =
      let with_form : Form → Seat = λ f. record { depth = t.depth; form = f; start = t.start; owner = t.owner } in
      subst (λ (f : Form). fitted (seat_value types o (with_form f)) (seat_value types c (with_form f)) ≡ seat_value types c (with_form f)) (sym is) (by form is) where
        by : (f : Form) → t.form ≡ f → fitted (value_from types o t.depth f t.start) (value_from types c t.depth f t.start) ≡ value_from types c t.depth f t.start
        by (slot_form of) form_is = content_fits of (slot_value o t.start.slot) (slot_value c t.start.slot) (number_below syntax accepted c (all_of (the_variable n)) t of from_whole there form_is)
        by (header_form type) form_is = parted_fits types o t.depth (header_form type) t.start (value_from types c t.depth (header_form type) t.start) tt
        by (stack_form type size) form_is = parted_fits types o t.depth (stack_form type size) t.start (value_from types c t.depth (stack_form type size) t.start) tt
        by (struct_form type) form_is = parted_fits types o t.depth (struct_form type) t.start (value_from types c t.depth (struct_form type) t.start) tt
        by no_form form_is = refl

  pub same_taken : (r : Range) → IsRangeOf types t r → IsSet syntax o (taken r r c o) n (value_at syntax c n)
  same_taken r range =
      subst (λ (v : Value). IsSet syntax o (taken r r c o) n v) (sym (stands_as syntax accepted c from_whole n t at within))
      (taken_by t r r laid_here stands_here.wide refl refl (same_fits t.form refl) range range)

  -- a number of it
  pub number_set : (of : Content) → t.form ≡ slot_form of → IsSet syntax o (number_taken t.start.slot t.start.slot c o) n (value_at syntax c n)
  number_set of form =
      let v : Value = value_at syntax c n in
      let number : ℕ = slot_value c t.start.slot in
      let small : number < 2 ^ bits_of of = number_below syntax accepted c (all_of (the_variable n)) t of from_whole there form in
      let value_is : v ≡ content_value of number = stands_as syntax accepted c from_whole n t at within ∙ ap (λ (f : Form). seat_value types c (record { depth = t.depth; form = f; start = t.start; owner = t.owner })) form in
      let fit : FitsSlot of None v = subst (FitsSlot of None) (sym value_is) (content_fit of number small) in
      let set : IsSet syntax o (put_value t.start.slot None v o) n (fitted (value_at syntax o n) v) = slot_set syntax accepted o whole n t at within of v form fit in
      let same_number : as_number v ≡ number = ap as_number value_is ∙ content_back of number small in
      let old : value_at syntax o n ≡ content_value of (slot_value o t.start.slot) = stands_as syntax accepted o whole n t at within ∙ ap (λ (f : Form). seat_value types o (record { depth = t.depth; form = f; start = t.start; owner = t.owner })) form in
      let fits : fitted (value_at syntax o n) v ≡ v = ap (λ (x : Value). fitted x v) old ∙ (ap (λ (x : Value). fitted (content_value of (slot_value o t.start.slot)) x) value_is ∙ (content_fits of (slot_value o t.start.slot) number small ∙ sym value_is)) in
      subst (λ (d : Cells). IsSet syntax o d n v) (ap (λ (i : ℕ). put t.start.slot None i o) same_number)
      (subst (λ (x : Value). IsSet syntax o (put_value t.start.slot None v o) n x) fits set)
