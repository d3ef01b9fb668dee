-- How far values reach.
use Rattle.std.proofs.Common.{◌≡◌, ℕ, zero, suc, ◌+◌, ◌*◌, ◌≤◌, List, [], ◌∷◌, ◌++◌, length, map, refl, sym, ap, ◌∙◌, arith}
use Rattle.std.proofs.lemmas.List.{map-append}
use Rattle.p416_syntax.specs.Names.{Name}
use Rattle.p416_syntax.specs.Scopes.{Layout, FieldKind, fields_in}
use Rattle.v1_core.specs.Seats.{Content, Form, slot_form, header_form, stack_form, struct_form, no_form, form_of, Start, moved, behind, behind_members, Seat, behind_seat}
use Rattle.v1_seats.specs.Extents.{no_size, one_slot, further, form_of_field, forms_in, behind_forms, starts_from, Reaches, AreLaid}

-- sums of starts

pub start_same : (a b : Start) → a.slot ≡ b.slot → a.header ≡ b.header → a.stack ≡ b.stack → a ≡ b
start_same a b of_slot of_header of_stack =
    ap (λ n. record { slot = n; header = a.header; stack = a.stack }) of_slot
    ∙ (ap (λ n. record { slot = b.slot; header = n; stack = a.stack }) of_header ∙ ap (λ n. record { slot = b.slot; header = b.header; stack = n }) of_stack)

further_none : (b : Start) → b ≡ further b no_size
further_none b = start_same b (further b no_size) (omega arith) (omega arith) (omega arith)

further_both : (b x y : Start) → further (further b x) y ≡ further b (further x y)
further_both b x y = start_same (further (further b x) y) (further b (further x y)) (omega arith) (omega arith) (omega arith)

-- single values

pub lone_reaches : (types : List Layout) (of : Content) (size : Start) (depth : ℕ) → size ≡ one_slot → Reaches types (slot_form of) size depth
lone_reaches types of size depth is = record { ends = λ n b deep. ap (further b) (sym is) }

pub nothing_reaches : (types : List Layout) (size : Start) (depth : ℕ) → size ≡ no_size → Reaches types no_form size depth
nothing_reaches types size depth is = record { ends = λ n b deep. further_none b ∙ ap (further b) (sym is) }

-- headers and stacks

pub header_reaches : (types : List Layout) (type : Name) (size : Start) (depth : ℕ) → size.slot ≡ length (fields_in types type) → size.header ≡ 1 → size.stack ≡ 0 → Reaches types (header_form type) size depth
header_reaches types type size depth of_slot of_header of_stack = record {
  ends = λ n b deep. start_same (moved b (length (fields_in types type)) 1 0) (further b size) (omega arith) (omega arith) (omega arith);
}

pub stack_reaches : (types : List Layout) (type : Name) (count fields header slot : ℕ) (size : Start) (depth : ℕ) → fields ≡ length (fields_in types type) → header ≡ count → slot ≡ header * fields → size.slot ≡ slot → size.header ≡ header → size.stack ≡ 1 → Reaches types (stack_form type count) size depth
stack_reaches types type count fields header slot size depth of_fields of_count is of_slot of_header of_stack = record {
  ends =
      λ n b deep.
      let whole : count * length (fields_in types type) ≡ size.slot = ap (λ m. count * m) (sym of_fields) ∙ (ap (λ m. m * fields) (sym of_count) ∙ (sym is ∙ sym of_slot)) in
      start_same (moved b (count * length (fields_in types type)) count 1) (further b size) (ap (λ m. b.slot + m) whole) (omega arith) (omega arith);
}

-- structs

members_as_forms : (next : Form → Start → Start) (fields : List FieldKind) (b : Start) → behind_members next fields b ≡ behind_forms next (map form_of_field fields) b
members_as_forms next [] b = refl
members_as_forms next (f ∷ fields) b = members_as_forms next fields (next (form_of f.kind) b)

pub struct_reaches : (types : List Layout) (type : Name) (starts : List Start) (size : Start) (inner depth : ℕ) → AreLaid types (forms_in types type) starts size inner → depth ≡ inner + 1 → Reaches types (struct_form type) size depth
struct_reaches types type starts size inner depth laid next = record { ends = ends } where
  ends : (n : ℕ) (b : Start) → depth ≤ n → behind types n (struct_form type) b ≡ further b size
  ends zero b deep = let never : ⊥ = omega arith in absurd never
  ends (suc n) b deep = members_as_forms (λ k s. behind types n k s) (fields_in types type) b ∙ laid.ends n b (omega arith)

pub behind_reached : (types : List Layout) (x : Seat) (size s : Start) (depth : ℕ) → Reaches types x.form size depth → depth ≤ x.depth → s ≡ further x.start size → s ≡ behind_seat types x
behind_reached types x size s depth reaches deep is = is ∙ sym (reaches.ends x.depth x.start deep)

-- one member more

behind_more : (next : Form → Start → Start) (forms : List Form) (k : Form) (b : Start) → behind_forms next (forms ++ k ∷ []) b ≡ next k (behind_forms next forms b)
behind_more next [] k b = refl
behind_more next (x ∷ forms) k b = behind_more next forms k (next x b)

starts_more : (next : Form → Start → Start) (forms : List Form) (k : Form) (b : Start) → starts_from next (forms ++ k ∷ []) b ≡ starts_from next forms b ++ behind_forms next forms b ∷ []
starts_more next [] k b = refl
starts_more next (x ∷ forms) k b = ap (λ s. b ∷ s) (starts_more next forms k (next x b))

pub none_laid : (types : List Layout) (size : Start) (depth : ℕ) → size ≡ no_size → AreLaid types [] [] size depth
none_laid types size depth is = record { begin = λ n b deep. refl; ends = λ n b deep. further_none b ∙ ap (further b) (sym is) }

pub one_laid_more : (types : List Layout) (forms : List Form) (k : Form) (starts : List Start) (size more : Start) (depth deeper : ℕ) (now : Start) (at_least : ℕ) → AreLaid types forms starts size depth → Reaches types k more deeper → now ≡ further size more → depth ≤ at_least → deeper ≤ at_least → AreLaid types (forms ++ k ∷ []) (starts ++ size ∷ []) now at_least
one_laid_more types forms k starts size more depth deeper now at_least laid reaches is first second = record { begin = begin; ends = ends } where
  begin : (n : ℕ) (b : Start) → at_least ≤ n → starts_from (λ k s. behind types n k s) (forms ++ k ∷ []) b ≡ map (further b) (starts ++ size ∷ [])
  begin n b deep =
      starts_more (λ k s. behind types n k s) forms k b
      ∙ (ap (λ s. s ++ behind_forms (λ k s. behind types n k s) forms b ∷ []) (laid.begin n b (omega arith))
      ∙ (ap (λ e. map (further b) starts ++ e ∷ []) (laid.ends n b (omega arith)) ∙ sym (map-append (further b) starts (size ∷ []))))

  ends : (n : ℕ) (b : Start) → at_least ≤ n → behind_forms (λ k s. behind types n k s) (forms ++ k ∷ []) b ≡ further b now
  ends n b deep =
      behind_more (λ k s. behind types n k s) forms k b
      ∙ (ap (λ e. behind types n k e) (laid.ends n b (omega arith))
      ∙ (reaches.ends n (further b size) (omega arith) ∙ (further_both b size more ∙ ap (further b) (sym is))))
