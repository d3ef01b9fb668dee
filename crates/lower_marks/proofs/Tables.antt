-- Tables that are made longer, and in which a row is changed.
use Rattle.std.proofs.Common.{◌≡◌, ◌≢◌, ◌⊎◌, inl, inr, ℕ, zero, suc, ◌+◌, ◌-◌, ◌<◌, nat_eq, Bool, true, false, ◌&&◌, List, [], ◌∷◌, ◌++◌, length, get_or, set, replicate, refl, sym, ap, ◌∙◌, subst, arith}
use Rattle.std.proofs.lemmas.Bool.Decides.{eqb_tells}
use Rattle.std.proofs.lemmas.List.{append_assoc, get_or-set_same, get_or-set_other, length-append, length-replicate, replicate_more}
use Rattle.lower_marks.specs.FieldMarks.{marked_where, marks_at, marks_in, with_mark}

-- rows without anything are put behind

abbrev nothing : (X : Type 0) → List X
nothing X = []

nothing_at : {X : Type 0} (n k : ℕ) → get_or (replicate n (nothing X)) k [] ≡ []
nothing_at zero k = refl
nothing_at (suc n) zero = refl
nothing_at (suc n) (suc k) = nothing_at n k

padded_at : {X : Type 0} (xs : List (List X)) (n k : ℕ) → get_or (xs ++ replicate n []) k [] ≡ get_or xs k []
padded_at [] n k = nothing_at n k
padded_at (x ∷ xs) n zero = refl
padded_at (x ∷ xs) n (suc k) = padded_at xs n k

pub padded_kept : {X : Type 0} (old new : List (List X)) (n : ℕ) → new ≡ old ++ replicate n [] → (k : ℕ) → get_or new k [] ≡ get_or old k []
padded_kept old new n is k = ap (λ l. get_or l k []) is ∙ padded_at old n k

pub padded_reaches : {X : Type 0} (old new : List (List X)) (n place : ℕ) → new ≡ old ++ replicate n [] → n ≡ (place + 1) - length old → place < length new
padded_reaches {X} old new n place is count =
    let a : length new ≡ length old + length (replicate n (nothing X)) = ap length is ∙ length-append old (replicate n []) in
    let b : length (replicate n (nothing X)) ≡ n = length-replicate n (nothing X) in
    omega (arith, a, b, count)

pub padded_turn : {X : Type 0} (old found new : List (List X)) (n : ℕ) → found ≡ old ++ replicate n [] → new ≡ found ++ [] ∷ [] → new ≡ old ++ replicate (n + 1) []
padded_turn old found new n was is =
    is ∙ ap (λ l. l ++ [] ∷ []) was ∙ append_assoc old (replicate n []) ([] ∷ []) ∙ ap (λ l. old ++ l) (replicate_more n [])

-- a row is changed

pub field_marked : (old found new : List (List ℕ)) (field mark : ℕ) → field < length found → ((f : ℕ) → marks_at found f ≡ marks_at old f) → new ≡ set found field (with_mark (marks_at found field) mark) → (f : ℕ) → marks_at new f ≡ marked_where (nat_eq field f) (marks_at old f) mark
field_marked old found new field mark lt kept is f = by (eqb_tells field f) where
  by : ((nat_eq field f ≡ true) × (field ≡ f)) ⊎ ((nat_eq field f ≡ false) × (field ≢ f)) → marks_at new f ≡ marked_where (nat_eq field f) (marks_at old f) mark
  by (inl (e, same)) =
      ap (λ l. marks_at l f) is
      ∙ subst (λ j. marks_at (set found field (with_mark (marks_at found field) mark)) j ≡ with_mark (marks_at found j) mark) same (get_or-set_same found field (with_mark (marks_at found field) mark) [] lt)
      ∙ ap (λ l. with_mark l mark) (kept f)
      ∙ sym (ap (λ (b : Bool). marked_where b (marks_at old f) mark) e)
  by (inr (e, other)) =
      ap (λ l. marks_at l f) is
      ∙ get_or-set_other found field f (with_mark (marks_at found field) mark) [] (λ x. other (sym x))
      ∙ kept f
      ∙ sym (ap (λ (b : Bool). marked_where b (marks_at old f) mark) e)

pub instance_marked : (old new : List (List (List ℕ))) (instance field mark : ℕ) (row : List (List ℕ)) → instance < length old → ((f : ℕ) → marks_at row f ≡ marked_where (nat_eq field f) (marks_at (marks_in old instance) f) mark) → new ≡ set old instance row → (k f : ℕ) → marks_at (marks_in new k) f ≡ marked_where (nat_eq instance k && nat_eq field f) (marks_at (marks_in old k) f) mark
instance_marked old new instance field mark row lt marked is k f = by (eqb_tells instance k) where
  by : ((nat_eq instance k ≡ true) × (instance ≡ k)) ⊎ ((nat_eq instance k ≡ false) × (instance ≢ k)) → marks_at (marks_in new k) f ≡ marked_where (nat_eq instance k && nat_eq field f) (marks_at (marks_in old k) f) mark
  by (inl (e, same)) =
      ap (λ l. marks_at (marks_in l k) f) is
      ∙ subst (λ j. marks_at (marks_in (set old instance row) j) f ≡ marked_where (nat_eq field f) (marks_at (marks_in old j) f) mark) same
      (ap (λ r. marks_at r f) (get_or-set_same old instance row [] lt) ∙ marked f)
      ∙ sym (ap (λ (b : Bool). marked_where (b && nat_eq field f) (marks_at (marks_in old k) f) mark) e)
  by (inr (e, other)) =
      ap (λ l. marks_at (marks_in l k) f) is
      ∙ ap (λ r. marks_at r f) (get_or-set_other old instance k row [] (λ x. other (sym x)))
      ∙ sym (ap (λ (b : Bool). marked_where (b && nat_eq field f) (marks_at (marks_in old k) f) mark) e)

-- behind rows that were put there
pub marked_behind : (old found new : List (List (List ℕ))) (instance field mark : ℕ) → ((k : ℕ) → marks_in found k ≡ marks_in old k) → ((k f : ℕ) → marks_at (marks_in new k) f ≡ marked_where (nat_eq instance k && nat_eq field f) (marks_at (marks_in found k) f) mark) → (k f : ℕ) → marks_at (marks_in new k) f ≡ marked_where (nat_eq instance k && nat_eq field f) (marks_at (marks_in old k) f) mark
marked_behind old found new instance field mark kept marked k f =
    marked k f ∙ ap (λ r. marked_where (nat_eq instance k && nat_eq field f) (marks_at r f) mark) (kept k)
