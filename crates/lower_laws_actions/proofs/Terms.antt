-- What a term gives, where operands are read: its number modulo 2 ^ width.
use Rattle.std.proofs.Common.{◌≡◌, ◌⊎◌, inl, inr, leb, true, false, Bool, cond, ◌&&◌, ◌-◌, suc, ℕ, ◌<◌, ◌≤◌, ◌/◌, ◌%◌, ◌^◌, List, length, get_or, refl, sym, ap, subst, arith}
use Rattle.std.specs.Prelude.{ℤ, pos, negsuc, ◌+ℤ◌, ◌-ℤ◌, min}
use Rattle.std.proofs.lemmas.Int.{ints}
use Rattle.std.proofs.lemmas.Nat.{pow_pos}
use Rattle.std.proofs.lemmas.Bool.Decides.{leb_tells}
use Rattle.std.proofs.lemmas.List.{get_or_past}
use Rattle.state_store.specs.declared.shapes.Shape.{Shape}
use Rattle.state_store.specs.declared.shapes.Shape.TheVariants.{Counter, Direct, Register, Meter}
use Rattle.state_store.specs.declared.cells.Cells.{Cells}
use Rattle.state_store.specs.declared.cells.Cells.TheVariants.{Counts, Numbers, Colours}
use Rattle.state_store.specs.Cells.{FitsShape, read_in}
use Rattle.state_store.specs.State.{Contents, shape_at, cells_at, read as read_cell}
use Rattle.p414_syntax.specs.declared.syntax.Decl.{Decl}
use Rattle.p414_sem.specs.Wholes.{wrapped, nearest, kept, complement, and_ℤ, masked}
use Rattle.p414_sem.specs.Calculations.{result_of}
use Rattle.p414_sem.specs.Slots.{Slot, Target}
use Rattle.p414_sem.specs.Operations.{Source, number, field, parameter, Term, just, on_mask, sum, difference, conjunction, disjunction, exclusive, left_shift, right_shift, cell, hashed}
use Rattle.p414_sem.specs.Effects.{Moment as Moment14, source_number, natural_of, index_of, offset_of, term_number}
use Rattle.p416_syntax.specs.declared.node.UnaryOperator.TheVariants.{Complement}
use Rattle.p416_syntax.specs.declared.node.BinaryOperator.TheVariants.{BitAnd, ShiftRight}
use Rattle.p416_syntax.specs.Tree.{Exp16, name, unary, binary}
use Rattle.p416_syntax.specs.Kinds.{bits, register}
use Rattle.p416_syntax.specs.Scopes.{Scope}
use Rattle.v1_core.specs.Values.{Value, a_number}
use Rattle.v1_core.specs.Frames.{Moment}
use Rattle.v1_core.specs.Surroundings.{World}
use Rattle.lower_laws_base.specs.Context.{Local, Lowering, words_of, ObjectName, object_at, IsShapeOf, At, Looks, Holds, IsSlot, Declares, Stored, SourceFits}
use Rattle.lower_laws_base.specs.Mirror.{source_exp}
use Rattle.lower_laws_base.proofs.Wrap.{wrap_below}
use Rattle.lower_laws_base.proofs.Gives.{gives_resized, gives_complement, gives_and, gives_or, gives_xor, gives_sum, gives_difference}
use Rattle.lower_laws_base.proofs.Sources.{gives_source, gives_local}
use Rattle.lower_laws_actions.specs.Mirror.{own_width, own_exp, masked_exp, term_exp, signed, stopped_exp, write_exp}
use Rattle.lower_laws_actions.specs.Fits.{IsObject, TermFits, KeptFits}
use Rattle.lower_laws_actions.proofs.Wide.{natural_is, natural_below, gives_own, gives_shifted_left, gives_shifted_right, divided_below, gives_stopped_sum, gives_stopped_difference}
use Rattle.lower_laws_base.specs.Gives.{Gives}

pub gives_masked : (w : World) (s : Scope) (n : Moment) (old new mask : Exp16) (width : ℕ) (x y z : ℤ) → Gives w s n old width (wrapped width x) → Gives w s n new width (wrapped width y) → Gives w s n mask width (wrapped width z) → Gives w s n (masked_exp old new mask) width (wrapped width (masked x y z))
gives_masked w s n old new mask width x y z g h k =
    gives_or w s n (binary BitAnd old (unary Complement mask)) (binary BitAnd new mask) width (and_ℤ x (complement z)) (and_ℤ y z)
    (gives_and w s n old (unary Complement mask) width x (complement z) g (gives_complement w s n mask width z k))
    (gives_and w s n new mask width y z h k)

-- the cells of registers

-- a number in a cell fits the register's width
cell_fits : (o : ObjectName) (x : Shape) (cells : Cells) (index : ℕ) → o.kind ≡ register → IsShapeOf o x → FitsShape x cells → read_in cells index < 2 ^ o.width
cell_fits o (Counter kind size) cells index is has fits = absurd (cc (is, has))
cell_fits o (Direct kind size) cells index is has fits = absurd (cc (is, has))
cell_fits o (Meter size) cells index is has fits = absurd (cc (is, has))
cell_fits o (Register width size) (Counts cells) index is has fits = absurd fits
cell_fits o (Register width size) (Colours left) index is has fits = absurd fits
cell_fits o (Register width size) (Numbers cells) index is has fits =
    subst (λ z. get_or cells index 0 < 2 ^ z) (sym has.1) (by (leb_tells (suc index) (length cells)))
  where
    by : ((leb (suc index) (length cells) ≡ true) × (suc index ≤ length cells)) ⊎ ((leb (suc index) (length cells) ≡ false) × (length cells < suc index)) → get_or cells index 0 < 2 ^ width
    by (inl within) = fits.1 index 0 within.1
    by (inr beyond) = subst (λ z. z < 2 ^ width) (sym (get_or_past cells index 0 (omega (arith, beyond.1)))) (pow_pos width)

pub cell_bounded : (c : Lowering) (s : Scope) (store : Contents) (object index : ℕ) → Declares c s → Stored c.layout.shapes store → IsObject c register object → read_cell store object index < 2 ^ (object_at c.objects object).width
cell_bounded c s store object index declares stored is =
    cell_fits (object_at c.objects object) (shape_at store.shapes object) (cells_at store object) index is.1
    (subst (λ (z : List Shape). IsShapeOf (object_at c.objects object) (shape_at z object)) (sym stored.shapes_are) (declares.shape object is.0))
    (stored.is_store.fits object (omega (arith, is.0, declares.stored, ap length stored.shapes_are)))

-- the variable of a front holds the cell that its term reads, or its hash
abbrev pub HoldsTerm : Lowering → List Decl → Moment14 → List ℕ → ℕ → ℕ → Term → List Local → List Value → Type 0
HoldsTerm c ds r arguments K width (cell object index) ls vs =
    Holds ls vs (record { called = c.spare K 0; kind = bits (object_at c.objects object).width }) (a_number (object_at c.objects object).width (read_cell r.store object (index_of arguments r.state index)))
HoldsTerm c ds r arguments K width (hashed base calculation bound) ls vs =
    Holds ls vs (record { called = c.spare K 0; kind = bits width }) (a_number width (offset_of (natural_of arguments r.state base) (result_of ds r.state calculation) (natural_of arguments r.state bound) % 2 ^ width))
HoldsTerm c ds r arguments K width _ ls vs = Unit {0}

module _ (c : Lowering) (s : Scope) (ls : List Local) (vs : List Value) (arguments : List ℕ) (at : At) (r : Moment14) (n : Moment) (looks : Looks c s ls vs arguments at r.state n.frame) where
  abbrev z : Source → ℤ
  z a = source_number arguments r.state a

  abbrev gives : (width : ℕ) (a : Source) → SourceFits c a → Gives c.world s n (source_exp (words_of c) at width a) width (wrapped width (source_number arguments r.state a))
  gives width a fits = gives_source c s ls vs arguments at r.state n looks width a fits

  pub gives_term : (ds : List Decl) (K : ℕ) (t : Target) (a : Term) → Stored c.layout.shapes r.store → IsSlot c.layout t.slot → TermFits c ds a → HoldsTerm c ds r arguments K t.width a ls vs → Gives c.world s n (term_exp (words_of c) at K t a) t.width (wrapped t.width (term_number ds arguments r t.slot a))
  gives_term ds K t (just a) stored is fits holds = gives t.width a fits
  gives_term ds K t (on_mask a mask) stored is fits holds =
      gives_masked c.world s n _ _ _ t.width (z (field t.slot)) (z a) (z mask) (gives t.width (field t.slot) is) (gives t.width a fits.0) (gives t.width mask fits.1)
  gives_term ds K t (sum a b) stored is fits holds = gives_sum c.world s n _ _ t.width (z a) (z b) (gives t.width a fits.0) (gives t.width b fits.1)
  gives_term ds K t (difference a b) stored is fits holds = gives_difference c.world s n _ _ t.width (z a) (z b) (gives t.width a fits.0) (gives t.width b fits.1)
  gives_term ds K t (conjunction a b) stored is fits holds = gives_and c.world s n _ _ t.width (z a) (z b) (gives t.width a fits.0) (gives t.width b fits.1)
  gives_term ds K t (disjunction a b) stored is fits holds = gives_or c.world s n _ _ t.width (z a) (z b) (gives t.width a fits.0) (gives t.width b fits.1)
  gives_term ds K t (exclusive a b) stored is fits holds = gives_xor c.world s n _ _ t.width (z a) (z b) (gives t.width a fits.0) (gives t.width b fits.1)
  gives_term ds K t (cell object index) stored is fits holds =
      let own = (object_at c.objects object).width in
      let x = read_cell r.store object (index_of arguments r.state index) in
      gives_resized c.world s n (name (c.spare K 0)) own t.width x (cell_bounded c s r.store object (index_of arguments r.state index) looks.sees.declares stored fits.0)
      (gives_local c s ls looks.sees vs n looks.inner looks.count (record { called = c.spare K 0; kind = bits own }) own x refl holds)
  gives_term ds K t (left_shift a b) stored is fits holds =
      gives_shifted_left c.world s n (source_exp (words_of c) at t.width a) (own_exp (words_of c) at b) t.width (own_width (words_of c) b) (natural_of arguments r.state a) (natural_of arguments r.state b)
      (subst (Gives c.world s n (source_exp (words_of c) at t.width a) t.width) (natural_is arguments r.state t.width a fits.2) (gives t.width a fits.0))
      (gives_own c s ls vs arguments at r.state n looks b fits.1 fits.3)
  gives_term ds K t (right_shift a b) stored is fits holds =
      let x = natural_of arguments r.state a in
      let own = own_width (words_of c) a in
      let below = natural_below c s ls vs arguments at r.state n looks a fits.0 fits.2 in
      gives_resized c.world s n (binary ShiftRight (own_exp (words_of c) at a) (own_exp (words_of c) at b)) own t.width (x / 2 ^ natural_of arguments r.state b) (divided_below x (natural_of arguments r.state b) own below)
      (gives_shifted_right c.world s n (own_exp (words_of c) at a) (own_exp (words_of c) at b) own (own_width (words_of c) b) x (natural_of arguments r.state b) below
      (gives_own c s ls vs arguments at r.state n looks a fits.0 fits.2) (gives_own c s ls vs arguments at r.state n looks b fits.1 fits.3))
  gives_term ds K t (hashed base calculation bound) stored is fits holds =
      gives_local c s ls looks.sees vs n looks.inner looks.count (record { called = c.spare K 0; kind = bits t.width }) t.width _ refl holds

  -- a literal behind its sign
  signed_is : (ds : List Decl) (slot : Slot) (term : Term) → term_number ds arguments r slot (signed term) ≡ term_number ds arguments r slot term
  signed_is ds slot (sum a (number (negsuc k))) = less (source_number arguments r.state a) k where
    less : (z : ℤ) (k : ℕ) → z -ℤ pos (suc k) ≡ z +ℤ negsuc k
    less z k = omega (arith, ints)
  signed_is ds slot (difference a (number (negsuc k))) = more (source_number arguments r.state a) k where
    more : (z : ℤ) (k : ℕ) → z +ℤ pos (suc k) ≡ z -ℤ negsuc k
    more z k = omega (arith, ints)
  signed_is ds slot _ = refl

  signed_fits : (ds : List Decl) (term : Term) → TermFits c ds term → TermFits c ds (signed term)
  signed_fits ds (sum a (number (negsuc k))) fits = (fits.0, tt)
  signed_fits ds (difference a (number (negsuc k))) fits = (fits.0, tt)
  signed_fits ds (sum a (number (pos k))) fits = fits
  signed_fits ds (sum a (field slot)) fits = fits
  signed_fits ds (sum a (parameter j)) fits = fits
  signed_fits ds (difference a (number (pos k))) fits = fits
  signed_fits ds (difference a (field slot)) fits = fits
  signed_fits ds (difference a (parameter j)) fits = fits
  signed_fits ds (just a) fits = fits
  signed_fits ds (on_mask a b) fits = fits
  signed_fits ds (conjunction a b) fits = fits
  signed_fits ds (disjunction a b) fits = fits
  signed_fits ds (exclusive a b) fits = fits
  signed_fits ds (left_shift a b) fits = fits
  signed_fits ds (right_shift a b) fits = fits
  signed_fits ds (cell object index) fits = fits
  signed_fits ds (hashed a k b) fits = fits

  signed_holds : (ds : List Decl) (K : ℕ) (t : Target) (term : Term) → HoldsTerm c ds r arguments K t.width term ls vs → HoldsTerm c ds r arguments K t.width (signed term) ls vs
  signed_holds ds K t (sum a (number (negsuc k))) holds = tt
  signed_holds ds K t (difference a (number (negsuc k))) holds = tt
  signed_holds ds K t (sum a (number (pos k))) holds = tt
  signed_holds ds K t (sum a (field slot)) holds = tt
  signed_holds ds K t (sum a (parameter j)) holds = tt
  signed_holds ds K t (difference a (number (pos k))) holds = tt
  signed_holds ds K t (difference a (field slot)) holds = tt
  signed_holds ds K t (difference a (parameter j)) holds = tt
  signed_holds ds K t (just a) holds = tt
  signed_holds ds K t (on_mask a b) holds = tt
  signed_holds ds K t (conjunction a b) holds = tt
  signed_holds ds K t (disjunction a b) holds = tt
  signed_holds ds K t (exclusive a b) holds = tt
  signed_holds ds K t (left_shift a b) holds = tt
  signed_holds ds K t (right_shift a b) holds = tt
  signed_holds ds K t (cell object index) holds = holds
  signed_holds ds K t (hashed a k b) holds = holds

  -- what is written to a field: what the field keeps of the term
  pub gives_write : (ds : List Decl) (K : ℕ) (sums : Bool) (t : Target) (term : Term) → Stored c.layout.shapes r.store → IsSlot c.layout t.slot → TermFits c ds term → KeptFits (sums && t.saturating) term → HoldsTerm c ds r arguments K t.width term ls vs → Gives c.world s n (write_exp (words_of c) at K sums t term) t.width (kept (sums && t.saturating) t.width (term_number ds arguments r t.slot term))
  gives_write ds K sums t term stored is fits keeps holds = by (sums && t.saturating) keeps where
    stopped : (term : Term) → TermFits c ds term → KeptFits true term → Gives c.world s n (stopped_exp (words_of c) at t.width term) t.width (nearest t.width (term_number ds arguments r t.slot term))
    stopped (sum a b) fits small = gives_stopped_sum c s ls vs arguments at r.state n looks t.width a b fits.0 fits.1 small.0 small.1
    stopped (difference a b) fits small = gives_stopped_difference c s ls vs arguments at r.state n looks t.width a b fits.0 fits.1 small.0 small.1
    stopped (just a) fits small = absurd small
    stopped (on_mask a b) fits small = absurd small
    stopped (conjunction a b) fits small = absurd small
    stopped (disjunction a b) fits small = absurd small
    stopped (exclusive a b) fits small = absurd small
    stopped (left_shift a b) fits small = absurd small
    stopped (right_shift a b) fits small = absurd small
    stopped (cell object index) fits small = absurd small
    stopped (hashed a k b) fits small = absurd small

    by : (b : Bool) → KeptFits b term → Gives c.world s n (cond b (stopped_exp (words_of c) at t.width term) (term_exp (words_of c) at K t (signed term))) t.width (kept b t.width (term_number ds arguments r t.slot term))
    by true small = stopped term fits small
    by false tiny =
        subst (λ z. Gives c.world s n (term_exp (words_of c) at K t (signed term)) t.width (wrapped t.width z)) (signed_is ds t.slot term)
        (gives_term ds K t (signed term) stored is (signed_fits ds term fits) (signed_holds ds K t term holds))

pub kept_below : (b : Bool) (width : ℕ) (z : ℤ) → kept b width z < 2 ^ width
kept_below true width (pos k) = least k (2 ^ width) (pow_pos width) where
  least : (a p : ℕ) → 0 < p → min a (p - 1) < p
  least a p some = omega (arith, some)
kept_below true width (negsuc k) = pow_pos width
kept_below false width z = wrap_below width z
