-- The shapes of objects, while the tables are gone through whose entries give a direct counter its cells.
use Rattle.std.proofs.Common.{◌≡◌, ℕ, zero, suc, ◌+◌, ◌<◌, ◌==◌, Bool, true, false, cond, inl, inr, Option, Some, None, List, [], ◌∷◌, ◌++◌, length, map, take, set, get_or, All, refl, sym, ◌∙◌, ap, subst, arith, IfSome}
use Rattle.std.specs.List.{AllPairs}
use Rattle.std.proofs.lemmas.Bool.{cases_eq, eq-eqb, ne_eqb, eqb-true}
use Rattle.std.proofs.lemmas.List.{get_or-map, get_or_default, get_or-set_same, get_or-set_other, length-set, length-map, same_lists, take_more, get_or-take, length-take-le}
use Rattle.state_store.specs.declared.shapes.Shape.{Shape}
use Rattle.state_store.specs.declared.shapes.Shape.TheVariants.{Counter, Direct, Register, Meter}
use Rattle.match_core.specs.declared.signatures.TableSig.{TableSig}
use Rattle.match_core.specs.declared.signatures.ObjectSig.{ObjectSig}
use Rattle.match_core.specs.declared.signatures.Signature.{Signature}
use Rattle.match_core.specs.declared.entries.TableFill.{TableFill}
use Rattle.match_core.specs.declared.entries.Entries.{Entries}
use Rattle.match_core.specs.Signatures.{ShareNone, IsDirectAt, IsSignature}
use Rattle.match_core.specs.Stores.{names, entries_counted, sized, shapes_from, shapes_of}
use Rattle.match_core.specs.internal.Sizes.{resized}

-- each object has the shape that the entries of these tables give it
pub record AreSized (objects : List ObjectSig) (tables : List TableSig) (fills : List TableFill) (shapes : List Shape) : Type 0 where
  pub count : length shapes ≡ length objects
  pub each : (i : ℕ) (d : ObjectSig) (e : Shape) → i < length objects → get_or shapes i e ≡ sized (get_or objects i d).shape (entries_counted tables fills i)

pub sized_again : (shape : Shape) (m n : ℕ) → sized (sized shape m) n ≡ sized shape n
sized_again (Counter kind cells) m n = refl
sized_again (Direct kind cells) m n = refl
sized_again (Register width cells) m n = refl
sized_again (Meter cells) m n = refl

pub none_sized : (objects : List ObjectSig) → AreSized objects [] [] (map (λ (object : ObjectSig). sized object.shape 0) objects)
none_sized objects = record {
  count = length-map objects (λ (object : ObjectSig). sized object.shape 0);
  each = λ i d e within. get_or-map (λ (object : ObjectSig). sized object.shape 0) objects i d e within;
}

-- no earlier table has the direct counter of this one
abbrev pub IsNew : List TableSig → Option ℕ → ℕ → Type 0
IsNew tables direct object = All (λ (other : TableSig). names direct object ≡ true → names other.direct object ≡ false) tables

count_by_first : (table : TableSig) (fill : TableFill) (b own : Bool) (rest here earlier : ℕ) → (own ≡ true → b ≡ false) → rest ≡ cond own here earlier → cond b (length fill.entries) rest ≡ cond own here (cond b (length fill.entries) earlier)
count_by_first table fill true true rest here earlier new is = absurd (let no = new refl in cc)
count_by_first table fill true false rest here earlier new is = refl
count_by_first table fill false own rest here earlier new is = is

-- what one more table gives an object
pub count_more : (tables : List TableSig) (fills : List TableFill) (table : TableSig) (fill : TableFill) (object : ℕ) → length tables ≡ length fills → IsNew tables table.direct object → entries_counted (tables ++ table ∷ []) (fills ++ fill ∷ []) object ≡ cond (names table.direct object) (length fill.entries) (entries_counted tables fills object)
count_more [] [] table fill object same new = refl
count_more [] (f ∷ fills) table fill object same new = absurd (omega arith)
count_more (t ∷ tables) [] table fill object same new = absurd (omega arith)
count_more (t ∷ tables) (f ∷ fills) table fill object same new =
    count_by_first t f (names t.direct object) (names table.direct object) (entries_counted (tables ++ table ∷ []) (fills ++ fill ∷ []) object) (length fill.entries) (entries_counted tables fills object)
    (new 0 t (omega arith)) (count_more tables fills table fill object (omega arith) (λ k d lt. new (suc k) d (omega arith)))

named_is : (direct : Option ℕ) (object : ℕ) → names direct object ≡ true → direct ≡ Some object
named_is None object is = cc
named_is (Some n) object is = ap (λ (k : ℕ). Some k) (eqb-true n object is)

not_named : (direct : Option ℕ) (object : ℕ) → (direct ≡ Some object → ⊥) → names direct object ≡ false
not_named None object apart = refl
not_named (Some n) object apart = ne_eqb n object (λ same. apart (ap (λ (k : ℕ). Some k) same))

is_new : (tables : List TableSig) (i : ℕ) (d : TableSig) (object : ℕ) → AllPairs ShareNone tables → i < length tables → IsNew (take i tables) (get_or tables i d).direct object
is_new tables i d object alone within k e below own =
    let shorter : length (take i tables) ≡ i = length-take-le i tables (omega arith) in
    let lower : k < i = omega (arith, shorter) in
    not_named (get_or (take i tables) k e).direct object
    (λ other.
    alone k i e lower within object
    (subst (λ (t : TableSig). t.direct ≡ Some object) (get_or-take i tables k e lower) other)
    (subst (λ (t : TableSig). t.direct ≡ Some object) (get_or_default tables i d e within) (named_is (get_or tables i d).direct object own)))

-- the direct counter of one more table gets a cell for each of its entries
sized_by : (objects : List ObjectSig) (shapes : List Shape) (direct : Option ℕ) (entries : ℕ) (earlier : ℕ → ℕ) → length shapes ≡ length objects → ((i : ℕ) (d : ObjectSig) (e : Shape) → i < length objects → get_or shapes i e ≡ sized (get_or objects i d).shape (earlier i)) → (i : ℕ) (d : ObjectSig) (e : Shape) → i < length objects → get_or (resized shapes direct entries) i e ≡ sized (get_or objects i d).shape (cond (names direct i) entries (earlier i))
sized_by objects shapes None entries earlier count each i d e within = each i d e within
sized_by objects shapes (Some n) entries earlier count each i d e within =
    elim (cases_eq n i) [
      | inl same ↦
          let here : get_or (set shapes n (sized (get_or shapes n (Meter 0)) entries)) n e ≡ sized (get_or shapes n (Meter 0)) entries = get_or-set_same shapes n (sized (get_or shapes n (Meter 0)) entries) e (omega (arith, count, same)) in
          let was : get_or shapes n (Meter 0) ≡ sized (get_or objects n d).shape (earlier n) = each n d (Meter 0) (omega (arith, same)) in
          let now : get_or (set shapes n (sized (get_or shapes n (Meter 0)) entries)) n e ≡ sized (get_or objects n d).shape entries = here ∙ ap (λ s. sized s entries) was ∙ sized_again (get_or objects n d).shape (earlier n) entries in
          subst (λ (k : ℕ). get_or (set shapes n (sized (get_or shapes n (Meter 0)) entries)) k e ≡ sized (get_or objects k d).shape (cond (n == k) entries (earlier k))) same
          (rw (eq-eqb n n refl) now)
      | inr apart ↦
          rw (ne_eqb n i apart) (get_or-set_other shapes n i (sized (get_or shapes n (Meter 0)) entries) e (λ same. apart (sym same)) ∙ each i d e within)
    ]

resized_length : (shapes : List Shape) (direct : Option ℕ) (entries : ℕ) → length (resized shapes direct entries) ≡ length shapes
resized_length shapes None entries = refl
resized_length shapes (Some n) entries = length-set shapes n _

pub sized_more : (objects : List ObjectSig) (tables : List TableSig) (fills : List TableFill) (i : ℕ) (d : TableSig) (e : TableFill) (shapes : List Shape) → AllPairs ShareNone tables → i < length tables → i < length fills → AreSized objects (take i tables) (take i fills) shapes → AreSized objects (take (i + 1) tables) (take (i + 1) fills) (resized shapes (get_or tables i d).direct (length (get_or fills i e).entries))
sized_more objects tables fills i d e shapes alone within inside are = record {
  count = resized_length shapes (get_or tables i d).direct (length (get_or fills i e).entries) ∙ are.count;
  each = λ k f g below.
      let more = count_more (take i tables) (take i fills) (get_or tables i d) (get_or fills i e) k (length-take-le i tables (omega arith) ∙ sym (length-take-le i fills (omega arith))) (is_new tables i d k alone within) in
      rw (take_more tables i d within, take_more fills i e inside, more)
      (sized_by objects shapes (get_or tables i d).direct (length (get_or fills i e).entries) (λ o. entries_counted (take i tables) (take i fills) o) are.count are.each k f g below);
}

pub direct_within : (signature : Signature) (i : ℕ) (d : TableSig) → IsSignature signature → i < length signature.tables → IfSome (get_or signature.tables i d).direct (λ object. object < length signature.objects)
direct_within signature i d is within = within_by (get_or signature.tables i d).direct (is.tables i d within).direct
  where
    within_by : (direct : Option ℕ) → IfSome direct (IsDirectAt signature.objects) → IfSome direct (λ object. object < length signature.objects)
    within_by None at = tt
    within_by (Some n) at = at.within

-- ---- the shapes of all objects
shapes_length : (signature : Signature) (entries : Entries) (n : ℕ) (objects : List ObjectSig) → length (shapes_from signature entries n objects) ≡ length objects
shapes_length signature entries n [] = refl
shapes_length signature entries n (one ∷ others) = ap (λ (k : ℕ). suc k) (shapes_length signature entries (n + 1) others)

shapes_get : (signature : Signature) (entries : Entries) (n : ℕ) (objects : List ObjectSig) (i : ℕ) (d : ObjectSig) (e : Shape) → i < length objects → get_or (shapes_from signature entries n objects) i e ≡ sized (get_or objects i d).shape (entries_counted signature.tables entries.tables (n + i))
shapes_get signature entries n [] i d e within = absurd (omega arith)
shapes_get signature entries n (one ∷ others) zero d e within = ap (λ (k : ℕ). sized one.shape (entries_counted signature.tables entries.tables k)) (let same : n ≡ n + 0 = omega arith in same)
shapes_get signature entries n (one ∷ others) (suc i) d e within =
    shapes_get signature entries (n + 1) others i d e (omega arith) ∙ ap (λ (k : ℕ). sized (get_or others i d).shape (entries_counted signature.tables entries.tables k)) (let same : n + 1 + i ≡ n + suc i = omega arith in same)

pub all_sized : (signature : Signature) (entries : Entries) (shapes : List Shape) → AreSized signature.objects signature.tables entries.tables shapes → shapes ≡ shapes_of signature entries
all_sized signature entries shapes are =
    same_lists shapes (shapes_of signature entries) (are.count ∙ sym (shapes_length signature entries 0 signature.objects))
    (λ k d within.
    let e : ObjectSig = record { name = []; shape = Meter 0 } in
    let inside : k < length signature.objects = omega (arith, are.count) in
    are.each k e d inside
    ∙ (ap (λ (n : ℕ). sized (get_or signature.objects k e).shape (entries_counted signature.tables entries.tables n)) (let same : k ≡ 0 + k = omega arith in same)
    ∙ sym (shapes_get signature entries 0 signature.objects k e d inside)))

pub shapes_count : (signature : Signature) (entries : Entries) → length (shapes_of signature entries) ≡ length signature.objects
shapes_count signature entries = shapes_length signature entries 0 signature.objects

pub shape_is : (signature : Signature) (entries : Entries) (i : ℕ) (d : ObjectSig) (e : Shape) → i < length signature.objects → get_or (shapes_of signature entries) i e ≡ sized (get_or signature.objects i d).shape (entries_counted signature.tables entries.tables (0 + i))
shape_is signature entries i d e within = shapes_get signature entries 0 signature.objects i d e within
