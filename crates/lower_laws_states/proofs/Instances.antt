-- One instance, one header or one field gives way to another that fits.
use Rattle.std.proofs.Common.{◌≡◌, ℕ, zero, suc, ◌<◌, ◌^◌, Bool, true, Some, List, [], ◌∷◌, length, get_or, set, replicate, refl, sym, ap, ap₂, ◌∙◌, subst, arith, ⊎_elim}
use Rattle.std.specs.Prelude.{slice_get, All, slice_index}
use Rattle.std.specs.List.{AllZip}
use Rattle.std.proofs.lemmas.Bool.{cases_lt}
use Rattle.std.proofs.lemmas.List.{length-set, set_past}
use Rattle.std.proofs.lemmas.List.Elements.{All-set, length_all_zip}
use Rattle.std.proofs.lemmas.Nat.{pow_pos}
use Rattle.std.proofs.lemmas.Option.{get_or_from_slice_get}
use Rattle.p414_syntax.specs.declared.syntax.Decl.{Decl}
use Rattle.p414_syntax.specs.declared.syntax.Decl.TheVariants as decl
use Rattle.p414_syntax.specs.declared.syntax.Sort.TheVariants as sort
use Rattle.p414_syntax.specs.Names.{declared_in}
use Rattle.p414_syntax.specs.Fields.{size_in}
use Rattle.p414_syntax.specs.Targets.{is_metadata_in}
use Rattle.p414_syntax.specs.Totals.{elements_of}
use Rattle.p414_sem.specs.State.{Header, Instance, State, no_instance, no_header, instance_at, header_at, with_instance, with_header, with_field, cleared}
use Rattle.p414_sem.specs.Fitting.{FitWidths, FitsInstance, IsState}
use Rattle.lower_laws_states.proofs.States.{rebuilt, numbers, requests}
use Rattle.lower_laws_states.specs.Fits.{widths_in, OfInstance, IsElementOf, IsInstanceOf}

-- lists

pub all_zip_set : {A B : Type 0} (R : A → B → Type 0) (xs : List A) (ys : List B) (i : ℕ) (y d : B) → AllZip R xs ys → ((x : A) → slice_get xs i ≡ Some x → R x (get_or ys i d) → R x y) → AllZip R xs (set ys i y)
all_zip_set R [] [] i y d h k = tt
all_zip_set R [] (z ∷ ys) i y d h k = absurd h
all_zip_set R (x ∷ xs) [] i y d h k = absurd h
all_zip_set R (x ∷ xs) (z ∷ ys) zero y d h k = (k x refl h.0, h.1)
all_zip_set R (x ∷ xs) (z ∷ ys) (suc i) y d h k = (h.0, all_zip_set R xs ys i y d h.1 k)

pub all_zip_at : {A B : Type 0} (R : A → B → Type 0) (xs : List A) (ys : List B) (i : ℕ) (x : A) (d : B) → AllZip R xs ys → slice_get xs i ≡ Some x → R x (get_or ys i d)
all_zip_at R [] [] i x d h e = absurd (cc e)
all_zip_at R [] (z ∷ ys) i x d h e = absurd h
all_zip_at R (w ∷ xs) [] i x d h e = absurd h
all_zip_at R (w ∷ xs) (z ∷ ys) zero x d h e = subst (λ v. R v z) (cc e) h.0
all_zip_at R (w ∷ xs) (z ∷ ys) (suc i) x d h e = all_zip_at R xs ys i x d h.1 e

all_set : {X : Type 0} (P : X → Type 0) (xs : List X) (i : ℕ) (y d : X) → All P xs → (i < length xs → P (get_or xs i d) → P y) → All P (set xs i y)
all_set P xs i y d all k =
    ⊎_elim (λ lt. All-set P xs i y (k lt (all i d lt)) all) (λ past. subst (All P) (sym (set_past xs i y past)) all) (cases_lt i (length xs))

-- an instance that fits, whatever it is

pub parts_of : (ds : List Decl) (d : Decl) (i : Instance) → FitsInstance ds d i → IsInstanceOf ds d i
parts_of ds (decl.Header x) i fits = record {
  each = λ k h lt. record { fits = fits.each k h lt; metadata = λ e. absurd (cc e) };
  count = fits.count;
  place = fits.place;
}
parts_of ds (decl.Metadata x) i fits = subst (IsInstanceOf ds (decl.Metadata x)) (sym fits.is) (record {
  each = only;
  count = refl;
  place = omega arith;
}) where
  alone : Header
  alone = record { valid = true; numbers = fits.numbers }

  only : All (IsElementOf ds (decl.Metadata x)) (alone ∷ [])
  only zero h lt = record { fits = record { numbers = fits.fit; zeros = λ e. absurd (cc e) }; metadata = λ e. refl }
  only (suc k) h lt = absurd (omega (arith, lt))
parts_of ds _ i fits = absurd fits

of_parts : (ds : List Decl) (d : Decl) (i j : Instance) → FitsInstance ds d i → IsInstanceOf ds d j → FitsInstance ds d j
of_parts ds (decl.Header x) i j fits is = record {
  each = λ k h lt. (is.each k h lt).fits;
  count = is.count;
  place = is.place;
}
of_parts ds (decl.Metadata x) i j fits is = by j.elements refl where
  by : (l : List Header) → j.elements ≡ l → FitsInstance ds (decl.Metadata x) j
  by [] e = absurd (omega (arith, is.count, ap length e))
  by (h ∷ []) e =
      let one : IsElementOf ds (decl.Metadata x) h = subst (All (IsElementOf ds (decl.Metadata x))) e is.each 0 no_header (omega arith) in
      record { numbers = h.numbers; is = whole h e (one.metadata refl); fit = one.fits.numbers }
    where
      whole : (h : Header) → j.elements ≡ h ∷ [] → h.valid ≡ true → j ≡ record { elements = record { valid = true; numbers = h.numbers } ∷ []; place = 0 }
      whole h e v =
          ap₂ (λ (l : List Header) (p : ℕ). record { elements = l; place = p }) (e ∙ ap (λ (b : Bool). record { valid = b; numbers = h.numbers } ∷ []) v)
          (omega (arith, is.place))
  by (h ∷ g ∷ more) e = absurd (omega (arith, is.count, ap length e))
of_parts ds _ i j fits is = absurd fits

module _ (ds : List Decl) (s : State) (state : IsState ds s) where
  pub instance_fits : (i : ℕ) → OfInstance ds i (λ d. IsInstanceOf ds d (instance_at s i))
  instance_fits i d e = parts_of ds d (instance_at s i) (all_zip_at (FitsInstance ds) (declared_in sort.Instance ds) s.instances i d no_instance state.instances e)

  pub element_fits : (i e : ℕ) → OfInstance ds i (λ d. e < elements_of (size_in d) → IsElementOf ds d (header_at s i e))
  element_fits i e d is lt = let there = instance_fits i d is in there.each e no_header (omega (arith, there.count, lt))

  pub with_instances_fit : (xs : List Instance) → AllZip (FitsInstance ds) (declared_in sort.Instance ds) xs → IsState ds (record s { instances = xs })
  with_instances_fit xs fit = rebuilt ds (record s { instances = xs }) fit state.unparsed (numbers ds s state) (requests ds s state) state.events

  -- an instance gives way to another one
  pub kept_instance : (i : ℕ) (x : Instance) → OfInstance ds i (λ d. IsInstanceOf ds d (instance_at s i) → IsInstanceOf ds d x) → IsState ds (with_instance s i x)
  kept_instance i x keeps =
      with_instances_fit (set s.instances i x)
      (all_zip_set (FitsInstance ds) (declared_in sort.Instance ds) s.instances i x no_instance state.instances
      (λ d e old. of_parts ds d (instance_at s i) x old (keeps d e (parts_of ds d (instance_at s i) old))))

  -- an element gives way to another one
  pub kept_header : (i e : ℕ) (h : Header) → OfInstance ds i (λ d. e < elements_of (size_in d) → IsElementOf ds d (header_at s i e) → IsElementOf ds d h) → IsState ds (with_header s i e h)
  kept_header i e h keeps = kept_instance i _ (λ d is old. record {
    each = all_set (IsElementOf ds d) (instance_at s i).elements e h no_header old.each (λ lt one. keeps d is (omega (arith, old.count, lt)) one);
    count = length-set (instance_at s i).elements e h ∙ old.count;
    place = old.place;
  })

-- headers

pub zeros_fit : (widths : List ℕ) (n : ℕ) → n ≡ length widths → FitWidths widths (replicate n 0)
zeros_fit [] zero e = tt
zeros_fit [] (suc n) e = absurd (omega (arith, e))
zeros_fit (w ∷ widths) zero e = absurd (omega (arith, e))
zeros_fit (w ∷ widths) (suc n) e = (pow_pos w, zeros_fit widths n (omega (arith, e)))

module _ (ds : List Decl) (d : Decl) (h : Header) (is : IsElementOf ds d h) where
  -- as many numbers as fields
  pub many : length h.numbers ≡ length (widths_in ds d)
  many = sym (length_all_zip _ (widths_in ds d) h.numbers is.fits.numbers)

  pub cleared_fits : (valid : Bool) → (is_metadata_in d ≡ true → valid ≡ true) → IsElementOf ds d (cleared valid h)
  cleared_fits valid stays = record {
    fits = record {
      numbers = zeros_fit (widths_in ds d) (length h.numbers) many;
      zeros = λ e. ap (λ n. replicate n 0) many;
    };
    metadata = stays;
  }

  pub with_field_fits : (f n : ℕ) → h.valid ≡ true → n < 2 ^ slice_index (widths_in ds d) f → IsElementOf ds d (with_field h f n)
  with_field_fits f n valid lt = record {
    fits = record {
      numbers = all_zip_set _ (widths_in ds d) h.numbers f n 0 is.fits.numbers (λ w e old. subst (λ v. n < 2 ^ v) (get_or_from_slice_get (widths_in ds d) f w 0 e) lt);
      zeros = λ e. absurd (cc (valid, e));
    };
    metadata = λ e. valid;
  }
