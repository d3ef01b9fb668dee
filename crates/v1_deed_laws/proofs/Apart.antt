-- Two parts of a frame are apart, or one of them is within the other one; so those that reach equally far are apart, or one.
use Rattle.std.proofs.Common.{◌≡◌, ◌⊎◌, inl, inr, ℕ, zero, suc, ◌+◌, ◌*◌, Bool, true, false, cond, Option, Some, None, IfSome, List, [], ◌∷◌, length, refl, subst, arith}
use Rattle.std.specs.Str.{bytes_eq}
use Rattle.p416_syntax.specs.declared.program.Syntax16.{Syntax16}
use Rattle.p416_syntax.specs.Names.{Name}
use Rattle.p416_syntax.specs.Kinds.{Kind}
use Rattle.p416_syntax.specs.Scopes.{Layout as TypeLayout, FieldKind, fields_in}
use Rattle.p416_syntax.specs.Declarations.{layouts_of}
use Rattle.v1_core.specs.Values.{Step, to_member, to_element}
use Rattle.v1_core.specs.Slots.{FramePart}
use Rattle.v1_core.specs.Seats.{Form, slot_form, header_form, stack_form, struct_form, no_form, form_of, Start, moved, behind_members, behind, Seat, seat, behind_seat, member_seat, field_form, field_seat, element_seat, stepped_seat, seat_behind, seat_at}
use Rattle.v1_core.specs.Programs.{frame_kinds, first_start, seat_in, owner_number, owner_seat, part_seat}
use Rattle.v1_core.proofs.Starts.{Before, at_once, before_both, before_moved, members_before, ends_behind}
use Rattle.v1_core.proofs.Reading.{by_truth}
use Rattle.v1_core.proofs.Making.{same_start}
use Rattle.v1_deed_laws.proofs.Alike.{Offset}

-- where both are there
abbrev BothSome : Option Seat → Option Seat → (Seat → Seat → Type 0) → Type 0
BothSome o p R = IfSome o (λ x. IfSome p (λ y. R x y))

second_none : (R : Seat → Seat → Type 0) (o : Option Seat) → BothSome o None R
second_none R None = tt
second_none R (Some x) = tt

-- one in front of some others
first_of : (R : Seat → Seat → Type 0) (P : Seat → Type 0) (x : Seat) (p : Option Seat) → ((y : Seat) → P y → R x y) → IfSome p P → IfSome p (R x)
first_of R P x None f h = tt
first_of R P x (Some y) f h = f y h

last_of : (R : Seat → Seat → Type 0) (P : Seat → Type 0) (o : Option Seat) (y : Seat) → ((x : Seat) → P x → R x y) → IfSome o P → BothSome o (Some y) R
last_of R P None y f h = tt
last_of R P (Some x) y f h = f x h

both_weaker : (R S : Seat → Seat → Type 0) (o p : Option Seat) → ((x y : Seat) → R x y → S x y) → BothSome o p R → BothSome o p S
both_weaker R S None p f h = tt
both_weaker R S (Some x) None f h = tt
both_weaker R S (Some x) (Some y) f h = f x y h

some_of : (P Q : Seat → Type 0) (o : Option Seat) → ((x : Seat) → P x → Q x) → IfSome o P → IfSome o Q
some_of P Q None f h = tt
some_of P Q (Some x) f h = f x h

by_two : (P : Bool → Bool → Type 0) → P true true → P true false → P false true → P false false → (a b : Bool) → P a b
by_two P x y z w true true = x
by_two P x y z w true false = y
by_two P x y z w false true = z
by_two P x y z w false false = w

module _ (types : List TypeLayout) where
  -- the same, or one behind the other
  abbrev Ordered : Seat → Seat → Type 0
  Ordered x y = (x ≡ y) ⊎ (Before (behind_seat types x) y.start ⊎ Before (behind_seat types y) x.start)

  -- parts lie within the whole

  field_within : (owner n : ℕ) (fields : List FieldKind) (b : Start) (word : Name) → IfSome (field_seat owner n fields b word) (λ x. Before b x.start × Before (behind_seat types x) (moved b (length fields) 0 0))
  field_within owner n [] b word = tt
  field_within owner n (f ∷ fields) b word =
      by_truth (λ (same : Bool). IfSome (cond same (Some (record { depth = n; form = field_form f; start = b; owner = Some owner })) (field_seat owner n fields (moved b 1 0 0) word)) (λ x. Before b x.start × Before (behind_seat types x) (moved b (length (f ∷ fields)) 0 0)))
      (at_once b, record { slot = omega arith; header = omega arith; stack = omega arith })
      (some_of (λ x. Before (moved b 1 0 0) x.start × Before (behind_seat types x) (moved (moved b 1 0 0) (length fields) 0 0)) (λ x. Before b x.start × Before (behind_seat types x) (moved b (length (f ∷ fields)) 0 0)) (field_seat owner n fields (moved b 1 0 0) word)
      (λ x h. (
        before_both b (moved b 1 0 0) x.start (before_moved b 1 0 0) h.0,
        before_both (behind_seat types x) (moved (moved b 1 0 0) (length fields) 0 0) (moved b (length (f ∷ fields)) 0 0) h.1 (record { slot = omega arith; header = omega arith; stack = omega arith }),
      )) (field_within owner n fields (moved b 1 0 0) word))
      (bytes_eq f.called word)

  element_within : (n : ℕ) (type : Name) (size : ℕ) (b : Start) (number : ℕ) → IfSome (element_seat n type (length (fields_in types type)) size b number) (λ x. Before b x.start × Before (behind_seat types x) (moved b (size * length (fields_in types type)) size 0))
  element_within n type zero b number = tt
  element_within n type (suc size) b zero =
      let each = length (fields_in types type) in
      let more : (suc size) * each ≡ each + size * each = omega arith in
      (at_once b, record { slot = omega arith; header = omega arith; stack = omega arith })
  element_within n type (suc size) b (suc number) =
      let each = length (fields_in types type) in
      let more : (suc size) * each ≡ each + size * each = omega arith in
      some_of (λ x. Before (moved b each 1 0) x.start × Before (behind_seat types x) (moved (moved b each 1 0) (size * each) size 0)) (λ x. Before b x.start × Before (behind_seat types x) (moved b ((suc size) * each) (suc size) 0)) (element_seat n type each size (moved b each 1 0) number)
      (λ x h. (
        before_both b (moved b each 1 0) x.start (before_moved b each 1 0) h.0,
        before_both (behind_seat types x) (moved (moved b each 1 0) (size * each) size 0) (moved b ((suc size) * each) (suc size) 0) h.1 (record { slot = omega arith; header = omega arith; stack = omega arith }),
      )) (element_within n type size (moved b each 1 0) number)

  member_within : (n : ℕ) (fields : List FieldKind) (b : Start) (word : Name) → IfSome (member_seat (λ k s. behind types n k s) n fields b word) (λ x. Before b x.start × Before (behind_seat types x) (behind_members (λ k s. behind types n k s) fields b))
  member_within n [] b word = tt
  member_within n (f ∷ fields) b word =
      let k = form_of f.kind in
      let next = behind types n k b in
      let end = behind_members (λ k s. behind types n k s) fields next in
      by_truth (λ (same : Bool). IfSome (cond same (Some (seat n k b)) (member_seat (λ k s. behind types n k s) n fields next word)) (λ x. Before b x.start × Before (behind_seat types x) end))
      (at_once b, members_before (λ k s. behind types n k s) (λ k s. ends_behind types n k s) fields next)
      (some_of (λ x. Before next x.start × Before (behind_seat types x) end) (λ x. Before b x.start × Before (behind_seat types x) end) (member_seat (λ k s. behind types n k s) n fields next word)
      (λ x h. (before_both b next x.start (ends_behind types n k b) h.0, h.1)) (member_within n fields next word))
      (bytes_eq f.called word)

  abbrev Inside : Start → Start → Seat → Type 0
  Inside b e x = Before b x.start × Before (behind_seat types x) e

  step_within : (n : ℕ) (k : Form) (b : Start) (step : Step) → IfSome (stepped_seat types n k b step) (Inside b (behind types n k b))
  step_within n (slot_form of) b step = tt
  step_within n (header_form type) b (to_member word) =
      some_of (λ x. Before b x.start × Before (behind_seat types x) (moved b (length (fields_in types type)) 0 0)) (Inside b (moved b (length (fields_in types type)) 1 0)) (field_seat b.header n (fields_in types type) b word)
      (λ x h. (h.0, before_both (behind_seat types x) (moved b (length (fields_in types type)) 0 0) (moved b (length (fields_in types type)) 1 0) h.1 (record { slot = omega arith; header = omega arith; stack = omega arith })))
      (field_within b.header n (fields_in types type) b word)
  step_within n (header_form type) b (to_element number) = tt
  step_within n (stack_form type size) b (to_member word) = tt
  step_within n (stack_form type size) b (to_element number) =
      let each = length (fields_in types type) in
      some_of (λ x. Before b x.start × Before (behind_seat types x) (moved b (size * each) size 0)) (Inside b (moved b (size * each) size 1)) (element_seat n type each size b number)
      (λ x h. (h.0, before_both (behind_seat types x) (moved b (size * each) size 0) (moved b (size * each) size 1) h.1 (record { slot = omega arith; header = omega arith; stack = omega arith })))
      (element_within n type size b number)
  step_within zero (struct_form type) b (to_member word) = tt
  step_within zero (struct_form type) b (to_element number) = tt
  step_within (suc n) (struct_form type) b (to_member word) = member_within n (fields_in types type) b word
  step_within (suc n) (struct_form type) b (to_element number) = tt
  step_within n no_form b step = tt

  pub path_within : (path : List Step) (s : Seat) → IfSome (seat_at types path s) (Inside s.start (behind_seat types s))
  path_within [] s = (at_once s.start, at_once (behind_seat types s))
  path_within (step ∷ path) s = by (stepped_seat types s.depth s.form s.start step) (step_within s.depth s.form s.start step) (λ x. path_within path x) where
    by : (o : Option Seat) → IfSome o (Inside s.start (behind_seat types s)) → ((x : Seat) → IfSome (seat_at types path x) (Inside x.start (behind_seat types x))) → IfSome (seat_behind (λ t. seat_at types path t) o) (Inside s.start (behind_seat types s))
    by None h f = tt
    by (Some x) h f =
        some_of (Inside x.start (behind_seat types x)) (Inside s.start (behind_seat types s)) (seat_at types path x)
        (λ t k. (before_both s.start x.start t.start h.0 k.0, before_both (behind_seat types t) (behind_seat types x) (behind_seat types s) k.1 h.1)) (f x)

  -- what two steps lead to

  fields_ordered : (owner n : ℕ) (fields : List FieldKind) (b : Start) (v w : Name) → BothSome (field_seat owner n fields b v) (field_seat owner n fields b w) Ordered
  fields_ordered owner n [] b v w = tt
  fields_ordered owner n (f ∷ fields) b v w =
      let own : Seat = record { depth = n; form = field_form f; start = b; owner = Some owner } in
      let next = moved b 1 0 0 in
      by_two (λ (p q : Bool). BothSome (cond p (Some own) (field_seat owner n fields next v)) (cond q (Some own) (field_seat owner n fields next w)) Ordered)
      (inl refl)
      (first_of Ordered (λ x. Before next x.start × Before (behind_seat types x) (moved next (length fields) 0 0)) own (field_seat owner n fields next w) (λ y h. inr (inl h.0)) (field_within owner n fields next w))
      (last_of Ordered (λ x. Before next x.start × Before (behind_seat types x) (moved next (length fields) 0 0)) (field_seat owner n fields next v) own (λ x h. inr (inr h.0)) (field_within owner n fields next v))
      (fields_ordered owner n fields next v w)
      (bytes_eq f.called v) (bytes_eq f.called w)

  elements_ordered : (n : ℕ) (type : Name) (size : ℕ) (b : Start) (i j : ℕ) → BothSome (element_seat n type (length (fields_in types type)) size b i) (element_seat n type (length (fields_in types type)) size b j) Ordered
  elements_ordered n type zero b i j = tt
  elements_ordered n type (suc size) b zero zero = inl refl
  elements_ordered n type (suc size) b zero (suc j) =
      let each = length (fields_in types type) in
      let next = moved b each 1 0 in
      first_of Ordered (λ x. Before next x.start × Before (behind_seat types x) (moved next (size * each) size 0)) (seat n (header_form type) b) (element_seat n type each size next j) (λ y h. inr (inl h.0)) (element_within n type size next j)
  elements_ordered n type (suc size) b (suc i) zero =
      let each = length (fields_in types type) in
      let next = moved b each 1 0 in
      last_of Ordered (λ x. Before next x.start × Before (behind_seat types x) (moved next (size * each) size 0)) (element_seat n type each size next i) (seat n (header_form type) b) (λ x h. inr (inr h.0)) (element_within n type size next i)
  elements_ordered n type (suc size) b (suc i) (suc j) = elements_ordered n type size (moved b (length (fields_in types type)) 1 0) i j

  members_ordered : (n : ℕ) (fields : List FieldKind) (b : Start) (v w : Name) → BothSome (member_seat (λ k s. behind types n k s) n fields b v) (member_seat (λ k s. behind types n k s) n fields b w) Ordered
  members_ordered n [] b v w = tt
  members_ordered n (f ∷ fields) b v w =
      let k = form_of f.kind in
      let own : Seat = seat n k b in
      let next = behind types n k b in
      let end = behind_members (λ k s. behind types n k s) fields next in
      by_two (λ (p q : Bool). BothSome (cond p (Some own) (member_seat (λ k s. behind types n k s) n fields next v)) (cond q (Some own) (member_seat (λ k s. behind types n k s) n fields next w)) Ordered)
      (inl refl)
      (first_of Ordered (λ x. Before next x.start × Before (behind_seat types x) end) own (member_seat (λ k s. behind types n k s) n fields next w) (λ y h. inr (inl h.0)) (member_within n fields next w))
      (last_of Ordered (λ x. Before next x.start × Before (behind_seat types x) end) (member_seat (λ k s. behind types n k s) n fields next v) own (λ x h. inr (inr h.0)) (member_within n fields next v))
      (members_ordered n fields next v w)
      (bytes_eq f.called v) (bytes_eq f.called w)

  steps_ordered : (n : ℕ) (k : Form) (b : Start) (v w : Step) → BothSome (stepped_seat types n k b v) (stepped_seat types n k b w) Ordered
  steps_ordered n (slot_form of) b v w = tt
  steps_ordered n (header_form type) b (to_member v) (to_member w) = fields_ordered b.header n (fields_in types type) b v w
  steps_ordered n (header_form type) b (to_member v) (to_element j) = second_none Ordered (field_seat b.header n (fields_in types type) b v)
  steps_ordered n (header_form type) b (to_element i) w = tt
  steps_ordered n (stack_form type size) b (to_member v) w = tt
  steps_ordered n (stack_form type size) b (to_element i) (to_member w) = second_none Ordered (element_seat n type (length (fields_in types type)) size b i)
  steps_ordered n (stack_form type size) b (to_element i) (to_element j) = elements_ordered n type size b i j
  steps_ordered zero (struct_form type) b (to_member v) w = tt
  steps_ordered zero (struct_form type) b (to_element i) w = tt
  steps_ordered (suc n) (struct_form type) b (to_member v) (to_member w) = members_ordered n (fields_in types type) b v w
  steps_ordered (suc n) (struct_form type) b (to_member v) (to_element j) = second_none Ordered (member_seat (λ k s. behind types n k s) n (fields_in types type) b v)
  steps_ordered (suc n) (struct_form type) b (to_element i) w = tt
  steps_ordered n no_form b v w = tt

  -- one behind the other, or one within the other
  abbrev pub Placed : Seat → Seat → Type 0
  Placed t u =
      (Before (behind_seat types t) u.start ⊎ Before (behind_seat types u) t.start)
      ⊎ (Inside t.start (behind_seat types t) u ⊎ Inside u.start (behind_seat types u) t)

  paths_placed : (p q : List Step) (s : Seat) → BothSome (seat_at types p s) (seat_at types q s) Placed
  paths_placed [] q s = first_of Placed (Inside s.start (behind_seat types s)) s (seat_at types q s) (λ u h. inr (inl h)) (path_within q s)
  paths_placed (v ∷ p) [] s = last_of Placed (Inside s.start (behind_seat types s)) (seat_at types (v ∷ p) s) s (λ t h. inr (inr h)) (path_within (v ∷ p) s)
  paths_placed (v ∷ p) (w ∷ q) s =
      by (stepped_seat types s.depth s.form s.start v) (stepped_seat types s.depth s.form s.start w) (steps_ordered s.depth s.form s.start v w) (λ x. paths_placed p q x) where
        apart : (x y : Seat) → Ordered x y → ((z : Seat) → BothSome (seat_at types p z) (seat_at types q z) Placed) → BothSome (seat_at types p x) (seat_at types q y) Placed
        apart x y (inl same) f = subst (λ (z : Seat). BothSome (seat_at types p x) (seat_at types q z) Placed) same (f x)
        apart x y (inr (inl before)) f = further (seat_at types p x) (seat_at types q y) (path_within p x) (path_within q y) where
          further : (o r : Option Seat) → IfSome o (Inside x.start (behind_seat types x)) → IfSome r (Inside y.start (behind_seat types y)) → BothSome o r Placed
          further None r h k = tt
          further (Some t) None h k = tt
          further (Some t) (Some u) h k = inl (inl (before_both (behind_seat types t) (behind_seat types x) u.start h.1 (before_both (behind_seat types x) y.start u.start before k.0)))
        apart x y (inr (inr after)) f = further (seat_at types p x) (seat_at types q y) (path_within p x) (path_within q y) where
          further : (o r : Option Seat) → IfSome o (Inside x.start (behind_seat types x)) → IfSome r (Inside y.start (behind_seat types y)) → BothSome o r Placed
          further None r h k = tt
          further (Some t) None h k = tt
          further (Some t) (Some u) h k = inl (inr (before_both (behind_seat types u) (behind_seat types y) t.start k.1 (before_both (behind_seat types y) x.start t.start after h.0)))

        by : (o r : Option Seat) → BothSome o r Ordered → ((z : Seat) → BothSome (seat_at types p z) (seat_at types q z) Placed) → BothSome (seat_behind (λ t. seat_at types p t) o) (seat_behind (λ t. seat_at types q t) r) Placed
        by None r h f = tt
        by (Some x) None h f = second_none Placed (seat_at types p x)
        by (Some x) (Some y) h f = apart x y h f

  -- values one after another

  kinds_from : (kinds : List Kind) (b : Start) (number : ℕ) → IfSome (seat_in types kinds b number) (λ x. Before b x.start)
  kinds_from [] b number = tt
  kinds_from (k ∷ kinds) b zero = at_once b
  kinds_from (k ∷ kinds) b (suc number) =
      let next = behind types (length types) (form_of k) b in
      some_of (λ x. Before next x.start) (λ x. Before b x.start) (seat_in types kinds next number) (λ x h. before_both b next x.start (ends_behind types (length types) (form_of k) b) h) (kinds_from kinds next number)

  kinds_ordered : (kinds : List Kind) (b : Start) (i j : ℕ) → BothSome (seat_in types kinds b i) (seat_in types kinds b j) Ordered
  kinds_ordered [] b i j = tt
  kinds_ordered (k ∷ kinds) b zero zero = inl refl
  kinds_ordered (k ∷ kinds) b zero (suc j) =
      let next = behind types (length types) (form_of k) b in
      first_of Ordered (λ x. Before next x.start) (seat (length types) (form_of k) b) (seat_in types kinds next j) (λ y h. inr (inl h)) (kinds_from kinds next j)
  kinds_ordered (k ∷ kinds) b (suc i) zero =
      let next = behind types (length types) (form_of k) b in
      last_of Ordered (λ x. Before next x.start) (seat_in types kinds next i) (seat (length types) (form_of k) b) (λ x h. inr (inr h)) (kinds_from kinds next i)
  kinds_ordered (k ∷ kinds) b (suc i) (suc j) = kinds_ordered kinds (behind types (length types) (form_of k) b) i j

  owners_placed : (p q : List Step) (o r : Option Seat) → BothSome o r Ordered → BothSome (seat_behind (λ t. seat_at types p t) o) (seat_behind (λ t. seat_at types q t) r) Placed
  owners_placed p q None r h = tt
  owners_placed p q (Some x) None h = second_none Placed (seat_at types p x)
  owners_placed p q (Some x) (Some y) (inl same) = subst (λ (z : Seat). BothSome (seat_at types p x) (seat_at types q z) Placed) same (paths_placed p q x)
  owners_placed p q (Some x) (Some y) (inr (inl before)) = further (seat_at types p x) (seat_at types q y) (path_within p x) (path_within q y) where
    further : (o r : Option Seat) → IfSome o (Inside x.start (behind_seat types x)) → IfSome r (Inside y.start (behind_seat types y)) → BothSome o r Placed
    further None r h k = tt
    further (Some t) None h k = tt
    further (Some t) (Some u) h k = inl (inl (before_both (behind_seat types t) (behind_seat types x) u.start h.1 (before_both (behind_seat types x) y.start u.start before k.0)))
  owners_placed p q (Some x) (Some y) (inr (inr after)) = further (seat_at types p x) (seat_at types q y) (path_within p x) (path_within q y) where
    further : (o r : Option Seat) → IfSome o (Inside x.start (behind_seat types x)) → IfSome r (Inside y.start (behind_seat types y)) → BothSome o r Placed
    further None r h k = tt
    further (Some t) None h k = tt
    further (Some t) (Some u) h k = inl (inr (before_both (behind_seat types u) (behind_seat types y) t.start k.1 (before_both (behind_seat types y) x.start t.start after h.0)))

both_at : (R : Seat → Seat → Type 0) (o p : Option Seat) (t u : Seat) → o ≡ Some t → p ≡ Some u → BothSome o p R → R t u
both_at R o p t u x y h =
    subst (λ (r : Option Seat). IfSome r (λ y. R t y)) y (subst (λ (r : Option Seat). IfSome r (λ x. IfSome p (λ y. R x y))) x h)

pub parts_placed : (syntax : Syntax16) (p q : FramePart) (t u : Seat) → part_seat syntax p ≡ Some t → part_seat syntax q ≡ Some u → Placed (layouts_of syntax.decls) t u
parts_placed syntax p q t u x y =
    let types = layouts_of syntax.decls in
    both_at (Placed types) (part_seat syntax p) (part_seat syntax q) t u x y
    (owners_placed types p.path q.path (owner_seat syntax p.owner) (owner_seat syntax q.owner) (kinds_ordered types (frame_kinds syntax) first_start (owner_number p.owner) (owner_number q.owner)))

-- parts that reach equally far
pub one_or_apart : (types : List TypeLayout) (t u : Seat) → Placed types t u → Offset t.start u.start (behind_seat types t) (behind_seat types u) → (t.start ≡ u.start) ⊎ (Before (behind_seat types t) u.start ⊎ Before (behind_seat types u) t.start)
one_or_apart types t u (inl x) off = inr x
one_or_apart types t u (inr (inl x)) off =
    inl (same_start t.start u.start (omega (arith, x.0.slot, x.1.slot, off.slot)) (omega (arith, x.0.header, x.1.header, off.header)) (omega (arith, x.0.stack, x.1.stack, off.stack)))
one_or_apart types t u (inr (inr x)) off =
    inl (same_start t.start u.start (omega (arith, x.0.slot, x.1.slot, off.slot)) (omega (arith, x.0.header, x.1.header, off.header)) (omega (arith, x.0.stack, x.1.stack, off.stack)))
