-- The parts of two values of one form have the same widths, the same owners and the same sizes, part by part.
use Rattle.std.proofs.Common.{◌≡◌, ◌⊎◌, inl, inr, ℕ, zero, suc, ◌+◌, ◌*◌, ◌<◌, ◌≤◌, Option, Some, None, List, [], ◌∷◌, length, get_or, sym, ap, ◌∙◌, subst, arith}
use Rattle.p416_syntax.specs.Scopes.{Layout as TypeLayout, FieldKind, fields_in}
use Rattle.v1_core.specs.Layouts.{Layout}
use Rattle.v1_core.specs.Cells.{Cells}
use Rattle.v1_core.specs.Seats.{Form, slot_form, header_form, stack_form, struct_form, no_form, form_of, Start, moved, behind_members, behind}
use Rattle.v1_core.specs.Laid.{IsHeader, AreElements, AreMembers, IsLaid}
use Rattle.v1_core.proofs.Starts.{Before, before_moved, members_before, ends_behind}
use Rattle.v1_core.proofs.Writing.{split_first}
use Rattle.v1_core.proofs.Kept.{field_owner}
use Rattle.v1_ready_laws.specs.Widths.{FieldsWide, ElementsWide, IsWide}
use Rattle.v1_parser_laws.proofs.Parts.{below_or}
use Rattle.v1_deed_laws.proofs.Alike.{Offset, offset_moved, behind_offset}

-- both are no fields, or fields of the header with the same number from a and from b on
abbrev pub OwnersMatch : ℕ → ℕ → ℕ → Option ℕ → Option ℕ → Type 0
OwnersMatch a e b None None = Unit {0}
OwnersMatch a e b (Some x) (Some y) = (a ≤ x) × (x < e) × (a + y ≡ b + x)
OwnersMatch a e b x y = ⊥

pub record Matches (l : Layout) (a e b : Start) : Type 0 where
  pub widths : (i j : ℕ) → a.slot ≤ i → i < e.slot → a.slot + j ≡ b.slot + i → get_or l.widths i 0 ≡ get_or l.widths j 0
  pub owners : (i j : ℕ) → a.slot ≤ i → i < e.slot → a.slot + j ≡ b.slot + i → OwnersMatch a.header e.header b.header (get_or l.owners i None) (get_or l.owners j None)
  pub sizes : (i j : ℕ) → a.stack ≤ i → i < e.stack → a.stack + j ≡ b.stack + i → get_or l.sizes i 0 ≡ get_or l.sizes j 0
  pub slots_in : (i : ℕ) → a.slot ≤ i → i < e.slot → i < length l.widths
  pub headers_in : (i : ℕ) → a.header ≤ i → i < e.header → i < length l.headers
  pub stacks_in : (i : ℕ) → a.stack ≤ i → i < e.stack → i < length l.sizes

owners_wider : (a e b x f y : ℕ) (o p : Option ℕ) → a ≤ x → f ≤ e → a + y ≡ b + x → OwnersMatch x f y o p → OwnersMatch a e b o p
owners_wider a e b x f y None None low high off h = tt
owners_wider a e b x f y None (Some q) low high off h = absurd h
owners_wider a e b x f y (Some o) None low high off h = absurd h
owners_wider a e b x f y (Some o) (Some q) low high off h = (omega (arith, low, h.0), omega (arith, high, h.1), omega (arith, off, h.2))

-- one behind the other
matches_join : (l : Layout) (a x e b y : Start) → Before a x → Before x e → Offset a b x y → Matches l a x b → Matches l x e y → Matches l a e b
matches_join l a x e b y p q o first last = record {
  widths = λ i j le lt is. wide i j le lt is (below_or i x.slot);
  owners = λ i j le lt is. owned i j le lt is (below_or i x.slot);
  sizes = λ i j le lt is. sized i j le lt is (below_or i x.stack);
  slots_in = λ i le lt. either_in i (length l.widths) x.slot (below_or i x.slot) (λ before. first.slots_in i le before) (λ after. last.slots_in i after lt);
  headers_in = λ i le lt. either_in i (length l.headers) x.header (below_or i x.header) (λ before. first.headers_in i le before) (λ after. last.headers_in i after lt);
  stacks_in = λ i le lt. either_in i (length l.sizes) x.stack (below_or i x.stack) (λ before. first.stacks_in i le before) (λ after. last.stacks_in i after lt);
} where
  either_in : (i long middle : ℕ) → (i < middle) ⊎ (middle ≤ i) → (i < middle → i < long) → (middle ≤ i → i < long) → i < long
  either_in i long middle (inl before) f g = f before
  either_in i long middle (inr after) f g = g after

  wide : (i j : ℕ) → a.slot ≤ i → i < e.slot → a.slot + j ≡ b.slot + i → (i < x.slot) ⊎ (x.slot ≤ i) → get_or l.widths i 0 ≡ get_or l.widths j 0
  wide i j le lt is (inl before) = first.widths i j le before is
  wide i j le lt is (inr after) = last.widths i j after lt (omega (arith, is, o.slot))

  owned : (i j : ℕ) → a.slot ≤ i → i < e.slot → a.slot + j ≡ b.slot + i → (i < x.slot) ⊎ (x.slot ≤ i) → OwnersMatch a.header e.header b.header (get_or l.owners i None) (get_or l.owners j None)
  owned i j le lt is (inl before) =
      owners_wider a.header e.header b.header a.header x.header b.header (get_or l.owners i None) (get_or l.owners j None) (omega arith) q.header (omega arith) (first.owners i j le before is)
  owned i j le lt is (inr after) =
      owners_wider a.header e.header b.header x.header e.header y.header (get_or l.owners i None) (get_or l.owners j None) p.header (omega arith) o.header (last.owners i j after lt (omega (arith, is, o.slot)))

  sized : (i j : ℕ) → a.stack ≤ i → i < e.stack → a.stack + j ≡ b.stack + i → (i < x.stack) ⊎ (x.stack ≤ i) → get_or l.sizes i 0 ≡ get_or l.sizes j 0
  sized i j le lt is (inl before) = first.sizes i j le before is
  sized i j le lt is (inr after) = last.sizes i j after lt (omega (arith, is, o.stack))

nothing_matches : (l : Layout) (a b : Start) → Matches l a a b
nothing_matches l a b = record {
  widths = λ i j le lt is. absurd (omega (arith, le, lt));
  owners = λ i j le lt is. absurd (omega (arith, le, lt));
  sizes = λ i j le lt is. absurd (omega (arith, le, lt));
  slots_in = λ i le lt. absurd (omega (arith, le, lt));
  headers_in = λ i le lt. absurd (omega (arith, le, lt));
  stacks_in = λ i le lt. absurd (omega (arith, le, lt));
}

-- headers

fields_match : (l : Layout) (fields : List FieldKind) (a b : Start) → FieldsWide l fields a → FieldsWide l fields b → (i j : ℕ) → a.slot ≤ i → i < a.slot + length fields → a.slot + j ≡ b.slot + i → get_or l.widths i 0 ≡ get_or l.widths j 0
fields_match l [] a b x y i j le lt is = absurd (omega (arith, le, lt))
fields_match l (f ∷ fields) a b x y i j le lt is =
    by (split_first a.slot i le) (λ after. fields_match l fields (moved a 1 0 0) (moved b 1 0 0) x.1 y.1 i j after (omega (arith, lt)) (omega (arith, is))) where
      here : (k : ℕ) → b.slot ≡ k → get_or l.widths b.slot 0 ≡ get_or l.widths k 0
      here k e = ap (λ (n : ℕ). get_or l.widths n 0) e

      by : (a.slot ≡ i) ⊎ (a.slot + 1 ≤ i) → (a.slot + 1 ≤ i → get_or l.widths i 0 ≡ get_or l.widths j 0) → get_or l.widths i 0 ≡ get_or l.widths j 0
      by (inl e) rest = ap (λ (n : ℕ). get_or l.widths n 0) (sym e) ∙ (x.0 ∙ (sym y.0 ∙ here j (omega (arith, e, is))))
      by (inr after) rest = rest after

module _ (c : Cells) where
  header_matches : (fields : List FieldKind) (a b : Start) → IsHeader c.layout (length fields) a → IsHeader c.layout (length fields) b → FieldsWide c.layout fields a → FieldsWide c.layout fields b → Matches c.layout a (moved a (length fields) 1 0) b
  header_matches fields a b x y v w = record {
    widths = λ i j le lt is. fields_match c.layout fields a b v w i j le lt is;
    owners = λ i j le lt is.
        subst (λ (o : Option ℕ). OwnersMatch a.header (a.header + 1) b.header o (get_or c.layout.owners j None)) (sym (field_owner c a.header (length fields) a i x.each le lt))
        (subst (λ (o : Option ℕ). OwnersMatch a.header (a.header + 1) b.header (Some a.header) o) (sym (field_owner c b.header (length fields) b j y.each (omega (arith, le, is)) (omega (arith, lt, is))))
        (omega arith, omega arith, omega arith));
    sizes = λ i j le lt is. absurd (omega (arith, le, lt));
    slots_in = λ i le lt. omega (arith, lt, x.room);
    headers_in = λ i le lt. omega (arith, le, lt, x.within);
    stacks_in = λ i le lt. absurd (omega (arith, le, lt));
  }

  elements_match : (fields : List FieldKind) (count : ℕ) (a b : Start) → AreElements c.layout (length fields) count a → AreElements c.layout (length fields) count b → ElementsWide c.layout fields count a → ElementsWide c.layout fields count b → Matches c.layout a (moved a (count * length fields) count 0) b
  elements_match fields zero a b x y v w = record {
    widths = λ i j le lt is. absurd (omega (arith, le, lt));
    owners = λ i j le lt is. absurd (omega (arith, le, lt));
    sizes = λ i j le lt is. absurd (omega (arith, le, lt));
    slots_in = λ i le lt. absurd (omega (arith, le, lt));
    headers_in = λ i le lt. absurd (omega (arith, le, lt));
    stacks_in = λ i le lt. absurd (omega (arith, le, lt));
  }
  elements_match fields (suc count) a b x y v w =
      let size = length fields in
      let p = moved a size 1 0 in
      let q = moved b size 1 0 in
      let more : (suc count) * size ≡ size + count * size = omega arith in
      let end : Start = moved a ((suc count) * size) (suc count) 0 in
      let rest : Matches c.layout p (moved p (count * size) count 0) q = elements_match fields count p q x.1 y.1 v.1 w.1 in
      let last : Matches c.layout p end q = record {
        widths = λ i j le lt is. rest.widths i j le (omega (arith, lt, more)) is;
        owners = λ i j le lt is. owners_wider p.header end.header q.header p.header (p.header + count) q.header (get_or c.layout.owners i None) (get_or c.layout.owners j None) (omega arith) (omega arith) (omega arith) (rest.owners i j le (omega (arith, lt, more)) is);
        sizes = λ i j le lt is. absurd (omega (arith, le, lt));
        slots_in = λ i le lt. rest.slots_in i le (omega (arith, lt, more));
        headers_in = λ i le lt. rest.headers_in i le (omega (arith, lt));
        stacks_in = λ i le lt. absurd (omega (arith, le, lt));
      } in
      matches_join c.layout a p end b q (before_moved a size 1 0) (record { slot = omega arith; header = omega arith; stack = omega arith }) (offset_moved a b size 1 0)
      (header_matches fields a b x.0 y.0 v.0 w.0) last

  -- a stack is its elements with their place
  stack_matches : (fields : List FieldKind) (size : ℕ) (a b : Start) → a.stack < length c.layout.sizes → get_or c.layout.sizes a.stack 0 ≡ size → get_or c.layout.sizes b.stack 0 ≡ size → Matches c.layout a (moved a (size * length fields) size 0) b → Matches c.layout a (moved a (size * length fields) size 1) b
  stack_matches fields size a b room x y h = record {
    widths = h.widths;
    owners = h.owners;
    sizes = λ i j le lt is. one i j (omega (arith, le, lt)) (omega (arith, le, lt, is));
    slots_in = h.slots_in;
    headers_in = h.headers_in;
    stacks_in = λ i le lt. omega (arith, le, lt, room);
  } where
    one : (i j : ℕ) → i ≡ a.stack → j ≡ b.stack → get_or c.layout.sizes i 0 ≡ get_or c.layout.sizes j 0
    one i j e f = ap (λ (n : ℕ). get_or c.layout.sizes n 0) e ∙ (x ∙ (sym y ∙ ap (λ (n : ℕ). get_or c.layout.sizes n 0) (sym f)))

  members_match : (P W : Form → Start → Type 0) (next : Form → Start → Start) → ((k : Form) (s : Start) → Before s (next k s)) → ((k : Form) (a b : Start) → Offset a b (next k a) (next k b)) → ((k : Form) (a b : Start) → P k a → P k b → W k a → W k b → Matches c.layout a (next k a) b) → (fields : List FieldKind) (a b : Start) → AreMembers P next fields a → AreMembers P next fields b → AreMembers W next fields a → AreMembers W next fields b → Matches c.layout a (behind_members next fields a) b
  members_match P W next grows off each [] a b x y v w = nothing_matches c.layout a b
  members_match P W next grows off each (f ∷ fields) a b x y v w =
      let k = form_of f.kind in
      matches_join c.layout a (next k a) (behind_members next fields (next k a)) b (next k b) (grows k a) (members_before next grows fields (next k a)) (off k a b)
      (each k a b x.0 y.0 v.0 w.0)
      (members_match P W next grows off each fields (next k a) (next k b) x.1 y.1 v.1 w.1)

  pub forms_match : (types : List TypeLayout) (n : ℕ) (k : Form) (a b : Start) → IsLaid c.layout types n k a → IsLaid c.layout types n k b → IsWide c.layout types n k a → IsWide c.layout types n k b → Matches c.layout a (behind types n k a) b
  forms_match types n (slot_form of) a b x y v w = record {
    widths = λ i j le lt is. one i j (omega (arith, le, lt)) (omega (arith, le, lt, is));
    owners = λ i j le lt is. lone i j (omega (arith, le, lt)) (omega (arith, le, lt, is));
    sizes = λ i j le lt is. absurd (omega (arith, le, lt));
    slots_in = λ i le lt. omega (arith, le, lt, x.within);
    headers_in = λ i le lt. absurd (omega (arith, le, lt));
    stacks_in = λ i le lt. absurd (omega (arith, le, lt));
  } where
    one : (i j : ℕ) → i ≡ a.slot → j ≡ b.slot → get_or c.layout.widths i 0 ≡ get_or c.layout.widths j 0
    one i j e f = ap (λ (n : ℕ). get_or c.layout.widths n 0) e ∙ (v ∙ (sym w ∙ ap (λ (n : ℕ). get_or c.layout.widths n 0) (sym f)))

    lone : (i j : ℕ) → i ≡ a.slot → j ≡ b.slot → OwnersMatch a.header (a.header + 0) b.header (get_or c.layout.owners i None) (get_or c.layout.owners j None)
    lone i j e f =
        subst (λ (o : Option ℕ). OwnersMatch a.header (a.header + 0) b.header o (get_or c.layout.owners j None)) (sym (ap (λ (n : ℕ). get_or c.layout.owners n None) e ∙ x.owned))
        (subst (λ (o : Option ℕ). OwnersMatch a.header (a.header + 0) b.header None o) (sym (ap (λ (n : ℕ). get_or c.layout.owners n None) f ∙ y.owned)) tt)
  forms_match types n (header_form type) a b x y v w = header_matches (fields_in types type) a b x y v w
  forms_match types n (stack_form type size) a b x y v w =
      stack_matches (fields_in types type) size a b x.0 v.0 w.0 (elements_match (fields_in types type) size a b x.1 y.1 v.1 w.1)
  forms_match types zero (struct_form type) a b x y v w = nothing_matches c.layout a b
  forms_match types (suc n) (struct_form type) a b x y v w =
      members_match (λ k s. IsLaid c.layout types n k s) (λ k s. IsWide c.layout types n k s) (λ k s. behind types n k s)
      (λ k s. ends_behind types n k s) (λ k p q. behind_offset types n k p q)
      (λ k p q g h i j. forms_match types n k p q g h i j) (fields_in types type) a b x y v w
  forms_match types n no_form a b x y v w = nothing_matches c.layout a b
