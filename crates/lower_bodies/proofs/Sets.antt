-- What an update of the sets leaves of the parts.
use Rattle.std.proofs.Common.{◌≡◌, ℕ, Bool, true, false, cond, eqb, List, [], ◌∷◌, refl, ap, ap₂, ◌∙◌, rules}
use Rattle.std.specs.List.{list_any}
use Rattle.std.specs.Prelude.{map, ◌||◌, ◌&&◌}
use Rattle.std.specs.declared.cmp.Ordering.{Ordering}
use Rattle.std.specs.Ordering.{nat_cmp, ordering_then, is_eq}
use Rattle.std.specs.BTreeSet.{BTreeSet, contains}
use Rattle.std.specs.BTreeMap.{is_at}
use Rattle.p414_sem.specs.Slots.{standard, declared}
use Rattle.p414_slots.specs.declared.slot.FieldSlot.{FieldSlot}
use Rattle.lower_laws_actions.specs.Apart.{Part, number_of, form_of, whole_of, elements_of, cells_of, is_written, is_replaced}
use Rattle.lower_bodies.specs.declared.changed.ChangedParts.{ChangedParts}
use Rattle.lower_bodies.specs.Apart.{number_in}
use Rattle.lower_bodies.specs.Changed.{pair_cmp, triple_cmp, at, form_kept, is_kept}

-- keys

is_at_number : (i j : ℕ) → is_eq (nat_cmp i j) ≡ eqb i j
is_at_number i j = search rules

then_eq : (a b : Ordering) → is_eq (ordering_then a b) ≡ is_eq a && is_eq b
then_eq a b = search rules

is_at_pair : (i e j k : ℕ) → is_eq (pair_cmp (i, e) (j, k)) ≡ eqb i j && eqb e k
is_at_pair i e j k = then_eq (nat_cmp i j) (nat_cmp e k) ∙ ap₂ (λ x y. x && y) (is_at_number i j) (is_at_number e k)

is_at_triple : (i e f j k g : ℕ) → is_eq (triple_cmp (i, e, f) (j, k, g)) ≡ eqb i j && eqb e k && eqb f g
is_at_triple i e f j k g = then_eq (pair_cmp (i, e) (j, k)) (nat_cmp f g) ∙ ap₂ (λ x y. x && y) (is_at_pair i e j k) (is_at_number f g)

-- an update of a set by a key
abbrev pub Put : {K : Type 0} → (K → K → Ordering) → BTreeSet K → K → BTreeSet K → Type 0
Put {K} cmp old key new = (q : K) → contains cmp new q ≡ cond (is_at (cmp key) q) true (contains cmp old q)

-- tests

same_none : (a : Bool) → a ≡ a || false
same_none true = refl
same_none false = refl

put_first : (b a r : Bool) → cond b true a || r ≡ (a || r) || b
put_first true true r = refl
put_first true false true = refl
put_first true false false = refl
put_first false true r = refl
put_first false false true = refl
put_first false false false = refl

put_second : (b f a r : Bool) → f || cond b true a || r ≡ (f || a || r) || b
put_second b true a r = refl
put_second b false a r = put_first b a r

put_third : (b a r t : Bool) → cond b true a || r || t ≡ (a || r || t) || b
put_third true true r t = refl
put_third true false true t = refl
put_third true false false true = refl
put_third true false false false = refl
put_third false a r t = same_none (a || r || t)

eqb_turned : (i j : ℕ) → eqb i j ≡ eqb j i
eqb_turned i j = search rules

-- another header is put in the place of one

module _ (c : ChangedParts) (headers : BTreeSet (ℕ × ℕ)) (instances : BTreeSet ℕ) (i e : ℕ) (one : Put pair_cmp c.headers (i, e) headers) (two : Put nat_cmp c.instances i instances) where
  abbrev new : ChangedParts
  new = record c { headers = headers; instances = instances }

  now : (j k : ℕ) → contains pair_cmp headers (j, k) ≡ cond (eqb i j && eqb e k) true (contains pair_cmp c.headers (j, k))
  now j k = one (j, k) ∙ ap (λ b. cond b true (contains pair_cmp c.headers (j, k))) (is_at_pair i e j k)

  form : (j k : ℕ) → form_kept new j k ≡ form_kept c j k || (eqb i j && eqb e k)
  form j k = ap (λ b. b || contains nat_cmp c.stacks j) (now j k) ∙ put_first (eqb i j && eqb e k) (contains pair_cmp c.headers (j, k)) (contains nat_cmp c.stacks j)

  behind : (f : Bool) (j k : ℕ) → f || form_kept new j k ≡ (f || form_kept c j k) || (eqb i j && eqb e k)
  behind f j k = ap (λ b. f || b) (form j k) ∙ under f (form_kept c j k) (eqb i j && eqb e k) where
    under : (f a b : Bool) → f || (a || b) ≡ (f || a) || b
    under true a b = refl
    under false a b = refl

  pub replaced_now : (x : Part) → is_kept new x ≡ is_kept c x || is_replaced (at i e) x
  replaced_now (number_of (standard which)) = same_none _
  replaced_now (number_of (declared j k g)) = behind (contains triple_cmp c.fields (j, k, g)) j k
  replaced_now (form_of h) = form h.instance h.element
  replaced_now (whole_of h) = behind (contains pair_cmp c.written_headers (h.instance, h.element)) h.instance h.element
  replaced_now (elements_of j) =
      ap (λ b. contains nat_cmp c.written_instances j || b || contains nat_cmp c.stacks j) (two j ∙ ap (λ b. cond b true (contains nat_cmp c.instances j)) (is_at_number i j))
      ∙ put_second (eqb i j) (contains nat_cmp c.written_instances j) (contains nat_cmp c.instances j) (contains nat_cmp c.stacks j)
  replaced_now (cells_of o) = same_none _

-- a field is written

module _ (c : ChangedParts) (fields : BTreeSet (ℕ × ℕ × ℕ)) (headers : BTreeSet (ℕ × ℕ)) (instances : BTreeSet ℕ) (i e f : ℕ) (one : Put triple_cmp c.fields (i, e, f) fields) (two : Put pair_cmp c.written_headers (i, e) headers) (three : Put nat_cmp c.written_instances i instances) where
  abbrev written : ChangedParts
  written = record c { fields = fields; written_headers = headers; written_instances = instances }

  pub written_now : (x : Part) → is_kept written x ≡ is_kept c x || is_written (declared i e f) x
  written_now (number_of (standard which)) = same_none _
  written_now (number_of (declared j k g)) =
      ap (λ b. b || form_kept c j k) (one (j, k, g) ∙ ap (λ b. cond b true (contains triple_cmp c.fields (j, k, g))) (is_at_triple i e f j k g))
      ∙ put_first (eqb i j && eqb e k && eqb f g) (contains triple_cmp c.fields (j, k, g)) (form_kept c j k)
  written_now (form_of h) = same_none _
  written_now (whole_of h) =
      ap (λ b. b || form_kept c h.instance h.element) (two (h.instance, h.element) ∙ ap (λ b. cond b true (contains pair_cmp c.written_headers (h.instance, h.element))) (is_at_pair i e h.instance h.element ∙ ap₂ (λ x y. x && y) (eqb_turned i h.instance) (eqb_turned e h.element)))
      ∙ put_first (eqb h.instance i && eqb h.element e) (contains pair_cmp c.written_headers (h.instance, h.element)) (form_kept c h.instance h.element)
  written_now (elements_of j) =
      ap (λ b. b || contains nat_cmp c.instances j || contains nat_cmp c.stacks j) (three j ∙ ap (λ b. cond b true (contains nat_cmp c.written_instances j)) (is_at_number i j ∙ eqb_turned i j))
      ∙ put_third (eqb j i) (contains nat_cmp c.written_instances j) (contains nat_cmp c.instances j) (contains nat_cmp c.stacks j)
  written_now (cells_of o) = same_none _

-- fields

pub some_number : (c : ChangedParts) (slots : List FieldSlot) → list_any (is_kept c) (map number_in slots) ≡ list_any (λ slot. is_kept c (number_in slot)) slots
some_number c [] = refl
some_number c (slot ∷ slots) = ap (λ b. is_kept c (number_in slot) || b) (some_number c slots)
