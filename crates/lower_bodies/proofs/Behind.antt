-- One more row behind others: it is apart from them where none of them changes what it reads.
use Rattle.std.proofs.Common.{◌≡◌, Bool, true, false, List, [], ◌∷◌, ◌++◌, refl, sym, ap, ap₂, ◌∙◌, append-nil}
use Rattle.std.specs.Prelude.{not, ◌&&◌, ◌||◌, flat_map}
use Rattle.std.specs.List.{list_any}
use Rattle.std.specs.Global.{Vec}
use Rattle.std.proofs.lemmas.List.Concat.{flat_map-append}
use Rattle.std.proofs.lemmas.List.Folds.{list_any-append}
use Rattle.p414_syntax.specs.declared.syntax.Decl.{Decl}
use Rattle.p414_sem.specs.Operations.{Primitive}
use Rattle.p414_slots.specs.declared.slot.FieldSlot.{FieldSlot}
use Rattle.p414_ready_actions.specs.declared.rows.ReadyPrimitive.{ReadyPrimitive}
use Rattle.lower_laws_actions.specs.Apart.{Part, reads, changes}
use Rattle.lower_bodies.specs.Apart.{row_reads, row_changes, rows_apart, AreAlike, AlikeAreApart}

-- one of these rows changes a part
abbrev pub rows_change : List ReadyPrimitive → Part → Bool
rows_change rows x = list_any (λ row. row_changes row x) rows

pub any_same : (p q : Part → Bool) → ((x : Part) → p x ≡ q x) → (parts : List Part) → list_any p parts ≡ list_any q parts
any_same p q same [] = refl
any_same p q same (x ∷ parts) = ap₂ (λ a b. a || b) (same x) (any_same p q same parts)

-- a row changes one of these parts
abbrev changes_some : List Part → ReadyPrimitive → Bool
changes_some parts row = list_any (row_changes row) parts

joined : (a b c d : Bool) → not (a || b) && (c && not d) ≡ (not a && c) && not (b || d)
joined true b c d = refl
joined false true true d = refl
joined false true false d = refl
joined false false c d = refl

behind : (items : List (Vec FieldSlot)) (rows : List ReadyPrimitive) (q : ReadyPrimitive) → rows_apart items (rows ++ q ∷ []) ≡ rows_apart items rows && not (list_any (changes_some (row_reads items q)) rows)
behind items [] q = refl
behind items (row ∷ rows) q =
    let all = flat_map (row_reads items) rows in
    let split : list_any (row_changes row) (flat_map (row_reads items) (rows ++ q ∷ [])) ≡ list_any (row_changes row) all || list_any (row_changes row) (row_reads items q) =
    ap (list_any (row_changes row)) (flat_map-append (row_reads items) rows (q ∷ []) ∙ ap (λ (l : List Part). all ++ l) (append-nil (row_reads items q)))
    ∙ list_any-append (row_changes row) all (row_reads items q) in
    ap₂ (λ x y. not x && y) split (behind items rows q)
    ∙ joined (list_any (row_changes row) all) (list_any (row_changes row) (row_reads items q)) (rows_apart items rows) (list_any (changes_some (row_reads items q)) rows)

-- rows by parts, or parts by rows
by_parts : (rows : List ReadyPrimitive) (parts : List Part) → list_any (changes_some parts) rows ≡ list_any (rows_change rows) parts
by_parts rows [] = none rows where
  none : (rows : List ReadyPrimitive) → list_any (changes_some []) rows ≡ false
  none [] = refl
  none (row ∷ rows) = none rows
by_parts rows (x ∷ parts) = split rows ∙ ap (λ b. rows_change rows x || b) (by_parts rows parts) where
  mixed : (a b c d : Bool) → (a || b) || (c || d) ≡ (a || c) || (b || d)
  mixed true b c d = refl
  mixed false true true d = refl
  mixed false true false d = refl
  mixed false false c d = refl

  split : (others : List ReadyPrimitive) → list_any (changes_some (x ∷ parts)) others ≡ rows_change others x || list_any (changes_some parts) others
  split [] = refl
  split (q ∷ others) =
      ap (λ b. (row_changes q x || list_any (row_changes q) parts) || b) (split others)
      ∙ mixed (row_changes q x) (list_any (row_changes q) parts) (rows_change others x) (list_any (changes_some parts) others)

pub row_behind : (items : List (Vec FieldSlot)) (rows : List ReadyPrimitive) (q : ReadyPrimitive) → rows_apart items (rows ++ q ∷ []) ≡ rows_apart items rows && not (list_any (rows_change rows) (row_reads items q))
row_behind items rows q = behind items rows q ∙ ap (λ b. rows_apart items rows && not b) (by_parts rows (row_reads items q))

-- primitives that read and change the same

all_read : (ds : List Decl) (items : List (Vec FieldSlot)) (ps : List Primitive) (rows : List ReadyPrimitive) → AreAlike ds items ps rows → flat_map (row_reads items) rows ≡ flat_map (reads ds) ps
all_read ds items [] [] k = refl
all_read ds items (p ∷ ps) (row ∷ rows) k = ap₂ (◌++◌) (sym k.0.reads_same) (all_read ds items ps rows k.1)
all_read ds items (p ∷ ps) [] k = absurd k
all_read ds items [] (row ∷ rows) k = absurd k

pub alike_are_apart : AlikeAreApart
alike_are_apart ds items [] [] k = refl
alike_are_apart ds items (p ∷ ps) (row ∷ rows) k =
    ap₂ (λ a b. not a && b)
    (any_same (row_changes row) (changes p) (λ x. sym (k.0.changes_same x)) (flat_map (row_reads items) rows)
    ∙ ap (list_any (changes p)) (all_read ds items ps rows k.1))
    (alike_are_apart ds items ps rows k.1)
alike_are_apart ds items (p ∷ ps) [] k = absurd k
alike_are_apart ds items [] (row ∷ rows) k = absurd k
