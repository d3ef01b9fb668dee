-- What primitives are written as is spelt, where names are.
use Rattle.std.proofs.Common.{◌≡◌, ℕ, zero, suc, ◌-◌, ◌+◌, ◌<◌, ◌≤◌, ◌^◌, min, Bool, true, false, ◌||◌, ◌&&◌, cond, Option, List, [], ◌∷◌, ◌++◌, length, refl, sym, subst, arith, ◌==◌}
use Rattle.std.specs.Prelude.{codes, not, pos, negsuc, nat_lt, unwrap_or}
use Rattle.std.specs.Str.{bytes_eq}
use Rattle.std.specs.List.{list_any, AllByRecursion}
use Rattle.std.proofs.lemmas.Slice.Eq.{bytes_eq-Decides}
use Rattle.fabric.specs.declared.items.RequestKind.{RequestKind}
use Rattle.fabric.specs.declared.items.RequestKind.TheVariants.{CloneI2E, CloneE2E, Resubmit, Recirculate}
use Rattle.p414_syntax.specs.declared.calculations.Item.{Item}
use Rattle.p414_syntax.specs.declared.calculations.Item.TheVariants as item
use Rattle.p414_syntax.specs.declared.syntax.Decl.{Decl}
use Rattle.p414_sem.specs.Slots.{Slot, standard, declared, Element, Target, slot_of}
use Rattle.p414_sem.specs.Calculations.{Calculation}
use Rattle.p414_sem.specs.Operations.{Source, number, field, parameter, Term, just, on_mask, sum, difference, conjunction, disjunction, exclusive, left_shift, right_shift, cell, hashed, Primitive, write, add_header, remove_header, copy_header, push, pop, count_cell, write_cell, execute_meter, ask, nothing}
use Rattle.p416_syntax.specs.declared.node.BinaryOperator.TheVariants.{Subtract, SaturatingAdd}
use Rattle.p416_syntax.specs.declared.node.CastType.TheVariants as cast_to
use Rattle.p416_syntax.specs.Tree.{Exp16, literal, cast, binary, name, Stmt16, argument, no_arguments}
use Rattle.p416_syntax.specs.Conditions.{statements, statement}
use Rattle.p416_syntax.specs.Names.{Name, has_name}
use Rattle.p416_syntax.specs.Kinds.{hash_algorithm}
use Rattle.p416_syntax.specs.BuiltIn.{members_of}
use Rattle.agreement_of_meanings.specs.Shown.{Shown, as_header, as_stack, as_metadata}
use Rattle.lower_laws_base.specs.Context.{Lowering, words_of, shown_in, instances_of, object_at, At, now, entry, IsSlot, IsHeaderPart, SourceFits}
use Rattle.lower_laws_base.specs.Mirror.{plain, sized, drop_stmt, element_exp, part_exp, instance_exp, slot_exp, width_in, source_exp, guarded_part, guarded}
use Rattle.lower_laws_actions.specs.Mirror.{needed, absolute, is_negative, own_width, own_exp, signed, stop_exp, wide_of, signs_exp, stopped_exp, term_exp, write_exp, drops, write_guarded, item_exp, items_exp, hash_stmt, hash_stmts, algorithm_width, front, mark_number, request_stmt, stack_copied, elements_set, rest, behind_stmts}
use Rattle.lower_laws_actions.specs.Fits.{IsNatural, ItemFits, ItemsFit, TermFits, KeptFits, ListFits, SessionFits, IsStack, PrimitiveFits}
use Rattle.lower_laws_actions.proofs.Requests.{marked_so}
use Rattle.lower_laws_rules.specs.Spelling.{SpeltName, SpeltWord, SpeltNumber, one, many, SpeltAt, SpeltExp, SpeltStmt, SpeltWords}
use Rattle.lower_laws_rules.proofs.SpeltParts.{as_argument, plain_spelt, sized_spelt, resized_spelt, instance_spelt, element_spelt, slot_spelt, source_spelt}
use Rattle.lower_laws_rules.specs.Acting.{IsWidth, WidthsFit, PrimitiveStands}
use Rattle.lower_laws_rules.proofs.TermsSound.{positive, needs, needed_width, wide_width}

-- what holds of each name of a list
each_named : (names : List Name) (P : Name → Type 0) → AllByRecursion P names → (text : Name) → has_name names text ≡ true → P text
each_named [] P all text has = absurd (cc has)
each_named (first ∷ names) P all text has = by (bytes_eq text first) refl has (each_named names P all.1 text) where
  by : (b : Bool) → bytes_eq text first ≡ b → b || list_any (bytes_eq text) names ≡ true → (has_name names text ≡ true → P text) → P text
  by true same is rest = subst P (sym ((bytes_eq-Decides text first).0 same)) all.0
  by false other is rest = rest is

abbrev pub AllSpelt : List Stmt16 → Type 0
AllSpelt [] = Unit {0}
AllSpelt (y ∷ ys) = SpeltStmt statement y × AllSpelt ys

-- names of objects and of variables, and how many elements there are
pub record SpeltMore (c : Lowering) : Type 0 where
  pub words : SpeltWords (words_of c)
  pub objects : (j : ℕ) → j < length c.objects → SpeltName (object_at c.objects j).called
  pub spares : (a i : ℕ) → SpeltName (c.spare a i)
  pub sizes : (i : ℕ) → i < length (instances_of c) → c.layout.size_of i ≤ 256

-- numbers in a hash have a width; a result that is cut has under 128 bits
abbrev pub NumbersFit : Item → Type 0
NumbersFit (item.Number n) = IsWidth (unwrap_or n.width 0)
NumbersFit i = Unit {0}

abbrev pub HashFits : Primitive → Type 0
HashFits (write sums t (hashed base calculation bound)) = AllByRecursion NumbersFit calculation.items × (nat_lt calculation.width (algorithm_width calculation.algorithm) ≡ true → calculation.width < 128)
HashFits p = Unit {0}

pub all_behind : (ys zs : List Stmt16) → AllSpelt ys → AllSpelt zs → AllSpelt (ys ++ zs)
all_behind [] zs a b = b
all_behind (y ∷ ys) zs a b = (a.0, all_behind ys zs a.1 b)

pub spelt_behind : (x : Stmt16) (ys : List Stmt16) → SpeltStmt statements x → AllSpelt ys → SpeltStmt statements (behind_stmts x ys)
spelt_behind x [] a b = a
spelt_behind x (y ∷ ys) a b = spelt_behind _ ys (a, b.0) b.1

module _ (c : Lowering) (ds : List Decl) (widths : WidthsFit c) (facts : SpeltMore c) (at : At) where
  small : (i e : ℕ) → i < length (instances_of c) → e < c.layout.size_of i → e < 2 ^ 128
  small i e lt less = let few = facts.sizes i lt in omega (arith, few, less)

  slot : (when : At) (s : Slot) → IsSlot c.layout s → SpeltExp (slot_exp (words_of c) when s)
  slot when (standard which) is = slot_spelt (words_of c) when (facts.words when) (standard which) tt
  slot when (declared i e k) is = slot_spelt (words_of c) when (facts.words when) (declared i e k) (is.0, small i e is.0 is.1, is.3)

  part : (when : At) (p : Element) → IsHeaderPart c.layout p → SpeltExp (part_exp (words_of c) when p)
  part when p is = element_spelt (words_of c) when (facts.words when) p.instance p.element is.0.0 (small p.instance p.element is.0.0 is.0.1)

  source : (width : ℕ) → IsWidth width → (a : Source) → SourceFits c a → SpeltExp (source_exp (words_of c) at width a)
  source width w (number z) fits = source_spelt (words_of c) at (facts.words at) width (number z) w.0 w.1 tt
  source width w (field s) fits = resized_spelt (width_in (words_of c) s) width (slot_exp (words_of c) at s) w.0 w.1 (slot at s fits)
  source width w (parameter j) fits = source_spelt (words_of c) at (facts.words at) width (parameter j) w.0 w.1 fits

  index : (a : Source) → SourceFits c a → SpeltAt (one true) (source_exp (words_of c) at 32 a)
  index a fits = as_argument (source_exp (words_of c) at 32 a) (source 32 (omega arith, omega arith) a fits)

  own : (a : Source) → SourceFits c a → IsNatural a → SpeltExp (own_exp (words_of c) at a)
  own (number (pos k)) fits is = let w = needed_width k in sized_spelt (needed k) k w.0 w.1 (needs k is)
  own (number (negsuc k)) fits is = absurd is
  own (field s) fits is = slot at s fits
  own (parameter j) fits is = (facts.words at).parameters j fits

  absolute_fits : (a : Source) → SourceFits c a → SourceFits c (absolute a)
  absolute_fits (number (pos k)) fits = tt
  absolute_fits (number (negsuc k)) fits = tt
  absolute_fits (field s) fits = fits
  absolute_fits (parameter j) fits = fits

  stop : (wide width : ℕ) (e : Exp16) → IsWidth wide → IsWidth width → SpeltExp e → SpeltExp (stop_exp width wide e)
  stop wide width e v w is = by (width == wide) where
    limit : SpeltNumber (sized wide (2 ^ wide - 2 ^ width))
    limit = sized_spelt wide (2 ^ wide - 2 ^ width) v.0 v.1 (let some = positive width in let all = positive wide in omega (arith, some, all))

    by : (b : Bool) → SpeltExp (cond b e (cast (cast_to.Bit (plain width)) (binary Subtract (binary SaturatingAdd e (literal (sized wide (2 ^ wide - 2 ^ width)))) (literal (sized wide (2 ^ wide - 2 ^ width))))))
    by true = is
    by false = (plain_spelt width (let most = w.1 in omega (arith, most)), ((is, limit), limit))

  signs : (width : ℕ) → IsWidth width → IsWidth width → (a b : Source) → IsWidth (wide_of (words_of c) width a b) → SourceFits c a → SourceFits c b → (u v : Bool) → SpeltExp (signs_exp (words_of c) at width a b u v)
  signs width w o a b wide p q false false = stop _ width _ wide w (source _ wide (absolute a) (absolute_fits a p), source _ wide (absolute b) (absolute_fits b q))
  signs width w o a b wide p q false true = stop _ width _ wide w (source _ wide (absolute a) (absolute_fits a p), source _ wide (absolute b) (absolute_fits b q))
  signs width w o a b wide p q true false = stop _ width _ wide w (source _ wide (absolute b) (absolute_fits b q), source _ wide (absolute a) (absolute_fits a p))
  signs width w o a b wide p q true true = sized_spelt width 0 w.0 w.1 (positive width)

  term : (K : ℕ) (t : Target) (x : Term) → IsWidth t.width → IsSlot c.layout t.slot → TermFits c ds x → SpeltExp (term_exp (words_of c) at K t x)
  term K t (just a) w is fits = source t.width w a fits
  term K t (on_mask a mask) w is fits = ((source t.width w (field t.slot) is, source t.width w mask fits.1), (source t.width w a fits.0, source t.width w mask fits.1))
  term K t (sum a b) w is fits = (source t.width w a fits.0, source t.width w b fits.1)
  term K t (difference a b) w is fits = (source t.width w a fits.0, source t.width w b fits.1)
  term K t (conjunction a b) w is fits = (source t.width w a fits.0, source t.width w b fits.1)
  term K t (disjunction a b) w is fits = (source t.width w a fits.0, source t.width w b fits.1)
  term K t (exclusive a b) w is fits = (source t.width w a fits.0, source t.width w b fits.1)
  term K t (cell object i) w is fits = resized_spelt (object_at c.objects object).width t.width (name (c.spare K 0)) w.0 w.1 (facts.spares K 0)
  term K t (left_shift a b) w is fits = (source t.width w a fits.0, own b fits.1 fits.3)
  term K t (right_shift a b) w is fits = resized_spelt (own_width (words_of c) a) t.width _ w.0 w.1 (own a fits.0 fits.2, own b fits.1 fits.3)
  term K t (hashed base calculation bound) w is fits = facts.spares K 0

  signed_fits : (x : Term) → TermFits c ds x → TermFits c ds (signed x)
  signed_fits (sum a (number (negsuc k))) fits = (fits.0, tt)
  signed_fits (sum a (number (pos k))) fits = fits
  signed_fits (sum a (field s)) fits = fits
  signed_fits (sum a (parameter j)) fits = fits
  signed_fits (difference a (number (negsuc k))) fits = (fits.0, tt)
  signed_fits (difference a (number (pos k))) fits = fits
  signed_fits (difference a (field s)) fits = fits
  signed_fits (difference a (parameter j)) fits = fits
  signed_fits x fits = fits

  written : (K : ℕ) (sums : Bool) (t : Target) (x : Term) → IsWidth t.width → IsSlot c.layout t.slot → TermFits c ds x → KeptFits (sums && t.saturating) x → SpeltExp (write_exp (words_of c) at K sums t x)
  written K sums t x w is fits kept = by (sums && t.saturating) kept where
    stopped : (y : Term) → TermFits c ds y → KeptFits true y → SpeltExp (stopped_exp (words_of c) at t.width y)
    stopped (sum a b) f k = signs t.width w w a b (wide_width c widths t.width w a b f.0 f.1) f.0 f.1 (is_negative a) (is_negative b)
    stopped (difference a b) f k = signs t.width w w a b (wide_width c widths t.width w a b f.0 f.1) f.0 f.1 (is_negative a) (not (is_negative b))
    stopped y f k = absurd k

    by : (b : Bool) → KeptFits b x → SpeltExp (cond b (stopped_exp (words_of c) at t.width x) (term_exp (words_of c) at K t (signed x)))
    by true k = stopped x fits k
    by false k = term K t (signed x) w is (signed_fits x fits)

  guard : (s : Slot) (y : Stmt16) → IsSlot c.layout s → SpeltStmt statement y → SpeltStmt statement (guarded (words_of c) at s y)
  guard (standard which) y is a = a
  guard (declared i e k) y is a = by at (shown_in c i) (element_spelt (words_of c) entry (facts.words entry) i e is.0 (small i e is.0 is.1)) where
    by : (when : At) (x : Shown) → SpeltExp (element_exp (words_of c) entry x e) → SpeltStmt statement (guarded_part (words_of c) when x e y)
    by now x shown = a
    by entry (as_metadata called fields) shown = a
    by entry (as_header called fields) shown = (((shown, refl), tt), a)
    by entry (as_stack called fields) shown = (((shown, refl), tt), a)

  -- the rest of a primitive
  mark : (list : Option ℕ) → ListFits c list → SpeltNumber (sized 8 (mark_number (words_of c) list))
  mark list is = sized_spelt 8 (mark_number (words_of c) list) (omega arith) (omega arith) (marked_so c list is).1

  request : (kind : RequestKind) (session : Source) (list : Option ℕ) → SessionFits c kind session → ListFits c list → SpeltStmt statement (request_stmt (words_of c) at kind session list)
  request CloneI2E session list fits is = ((refl, (((tt, (refl, refl)), index session fits), mark list is)), refl)
  request CloneE2E session list fits is = ((refl, (((tt, (refl, refl)), index session fits), mark list is)), refl)
  request Resubmit session list fits is = ((refl, (tt, mark list is)), refl)
  request Recirculate session list fits is = ((refl, (tt, mark list is)), refl)

  stack : (when : At) (i : ℕ) → IsStack c i → SpeltExp (instance_exp (words_of c) when (shown_in c i))
  stack when i is = instance_spelt (words_of c) when (facts.words when) (shown_in c i) ((facts.words when).instances i is.within)

  copied : (when : At) (i : ℕ) → IsStack c i → AllSpelt (stack_copied (words_of c) when i)
  copied now i is = tt
  copied entry i is = ((stack now i is, stack entry i is), tt)

  elements : (i e n : ℕ) → IsStack c i → e + n ≤ c.layout.size_of i → AllSpelt (elements_set (words_of c) i e n)
  elements i e zero is le = tt
  elements i e (suc n) is le = ((((element_spelt (words_of c) now (facts.words now) i e is.within (small i e is.within (omega (arith, le))), refl), tt), refl), elements i (suc e) n is (omega (arith, le)))

  width : (t : Target) → IsSlot c.layout t.slot → t.width ≡ width_in (words_of c) t.slot → IsWidth t.width
  width t is same = subst IsWidth (sym same) (widths.slots t.slot is)

  pub rest_spelt : (K : ℕ) (p : Primitive) → PrimitiveFits c ds p → AllSpelt (rest (words_of c) at K p)
  rest_spelt K (write sums t x) fits = (by (drops t.slot x), tt) where
    by : (b : Bool) → SpeltStmt statement (cond b (drop_stmt (words_of c)) (write_guarded (words_of c) at K sums t x))
    by true = ((refl, (tt, ((facts.words now).roots).2)), refl)
    by false = guard t.slot _ fits.0 (slot now t.slot fits.0, written K sums t x (width t fits.0 fits.1) fits.0 fits.2 fits.3)
  rest_spelt K (add_header p) fits = by at where
    by : (when : At) → AllSpelt (rest (words_of c) when K (add_header p))
    by now = ((((part now p fits, refl), tt), refl), tt)
    by entry = ((((part entry p fits, refl), tt), ((tt, (((part now p fits, refl), tt), refl)), (((part now p fits, refl), tt), refl))), tt)
  rest_spelt K (remove_header p) fits = ((((part now p fits, refl), tt), refl), tt)
  rest_spelt K (copy_header to from) fits = ((part now to fits.0, part at from fits.1), tt)
  rest_spelt K (count_cell object i) fits = ((((facts.objects object fits.0.0, refl), (tt, index i fits.1)), refl), tt)
  rest_spelt K (write_cell object i value) fits = ((((facts.objects object fits.0.0, refl), ((tt, index i fits.1), as_argument (source_exp (words_of c) at (object_at c.objects object).width value) (source (object_at c.objects object).width (widths.registers object fits.0) value fits.2))), refl), tt)
  rest_spelt K (execute_meter object i t) fits =
      let w = width t fits.2 fits.3 in
      ((refl, facts.spares K 2), ((((facts.objects object fits.0.0, refl), ((tt, index i fits.1), facts.spares K 2)), refl), (guard t.slot _ fits.2 (slot now t.slot fits.2, resized_spelt 8 t.width (name (c.spare K 2)) w.0 w.1 (facts.spares K 2)), tt)))
  rest_spelt K (ask kind session list) fits = (request kind session list fits.0 fits.1, tt)
  rest_spelt K (push i n) fits = all_behind (stack_copied (words_of c) at i) _ (copied at i fits.0) ((((stack now i fits.0, refl), (tt, sized_spelt 32 n (omega arith) (omega arith) fits.1)), refl), elements i 0 (min n (c.layout.size_of i)) fits.0 (omega arith))
  rest_spelt K (pop i n) fits = all_behind (stack_copied (words_of c) at i) _ (copied at i fits.0) ((((stack now i fits.0, refl), (tt, sized_spelt 32 n (omega arith) (omega arith) fits.1)), refl), tt)
  rest_spelt K nothing fits = tt

  -- fronts

  item_spelt : (i : Item) → ItemFits c ds i → NumbersFit i → SpeltAt (one false) (item_exp ds (words_of c) at i)
  item_spelt (item.Number n) fits wide = sized_spelt (unwrap_or n.width 0) n.value wide.0 wide.1 fits
  item_spelt (item.Field r) fits wide = slot at (slot_of ds r) fits.0
  item_spelt i fits wide = absurd fits

  items_spelt : (list : List Item) (before : Exp16) → ItemsFit c ds list → AllByRecursion NumbersFit list → SpeltAt (many false) before → SpeltAt (many false) (items_exp ds (words_of c) at before list)
  items_spelt [] before fits wide a = a
  items_spelt (i ∷ list) before fits wide a = items_spelt list (argument before (item_exp ds (words_of c) at i)) fits.1 wide.1 (a, item_spelt i fits.0 wide.0)

  algorithm_spelt : (algorithm : Name) → has_name (members_of hash_algorithm) algorithm ≡ true → SpeltWord algorithm
  algorithm_spelt algorithm is = each_named (members_of hash_algorithm) SpeltWord (refl, (refl, (refl, (refl, tt)))) algorithm is

  hash_spelt : (to algorithm : Name) (base list bound : Exp16) → SpeltName to → has_name (members_of hash_algorithm) algorithm ≡ true → SpeltExp base → SpeltAt (many false) list → SpeltExp bound → SpeltStmt statement (hash_stmt to algorithm base list bound)
  hash_spelt to algorithm base list bound a is b l d = ((refl, (((((tt, a), (refl, algorithm_spelt algorithm is)), as_argument base b), (refl, l)), as_argument bound d)), refl)

  hashes_spelt : (K width : ℕ) (base bound : Source) (calculation : Calculation) → IsWidth width → TermFits c ds (hashed base calculation bound) → has_name (members_of hash_algorithm) calculation.algorithm ≡ true → IsWidth calculation.width → AllByRecursion NumbersFit calculation.items → (cuts : Bool) → (cuts ≡ true → calculation.width < 128) → AllSpelt (hash_stmts ds (words_of c) at K width base calculation bound cuts)
  hashes_spelt K width base bound calculation w fits is o wide false below = (
    (plain_spelt width (let most = w.1 in omega (arith, most)), facts.spares K 0),
    (hash_spelt (c.spare K 0) calculation.algorithm (own_exp (words_of c) at base) (items_exp ds (words_of c) at no_arguments calculation.items) (own_exp (words_of c) at bound) (facts.spares K 0) is (own base fits.0 fits.2) (items_spelt calculation.items no_arguments fits.4 wide tt) (own bound fits.1 fits.3), tt),
  )
  hashes_spelt K width base bound calculation w fits is o wide true below = (
    (plain_spelt calculation.width (let most = o.1 in omega (arith, most)), facts.spares K 1),
    (
      hash_spelt (c.spare K 1) calculation.algorithm (literal (sized 1 0)) (items_exp ds (words_of c) at no_arguments calculation.items) (literal (sized (suc calculation.width) (2 ^ calculation.width))) (facts.spares K 1) is (sized_spelt 1 0 (omega arith) (omega arith) (omega arith)) (items_spelt calculation.items no_arguments fits.4 wide tt)
          (sized_spelt (suc calculation.width) (2 ^ calculation.width) (omega arith) (let few = below refl in omega (arith, few)) (doubled calculation.width)),
      (
        (plain_spelt width (let most = w.1 in omega (arith, most)), facts.spares K 0),
        (hash_spelt (c.spare K 0) (codes "identity") (own_exp (words_of c) at base) (argument no_arguments (name (c.spare K 1))) (own_exp (words_of c) at bound) (facts.spares K 0) refl (own base fits.0 fits.2) (tt, facts.spares K 1) (own bound fits.1 fits.3), tt),
      ),
    ),
  ) where
    doubled : (n : ℕ) → 2 ^ n < 2 ^ suc n
    doubled n = let some = positive n in omega (arith, some)

  pub front_spelt : (K : ℕ) (positions : List ℕ) (p : Primitive) → PrimitiveFits c ds p → PrimitiveStands c positions p → HashFits p → AllSpelt (front ds (words_of c) at K p)
  front_spelt K positions (write sums t (cell object i)) fits stands hash =
      let w = widths.registers object fits.2.0 in
      ((plain_spelt (object_at c.objects object).width (let most = w.1 in omega (arith, most)), facts.spares K 0), ((((facts.objects object fits.2.0.0, refl), ((tt, facts.spares K 0), index i fits.2.1)), refl), tt))
  front_spelt K positions (write sums t (hashed base calculation bound)) fits stands hash =
      hashes_spelt K t.width base bound calculation (width t fits.0 fits.1) fits.2 stands.0 stands.1 hash.0 (nat_lt calculation.width (algorithm_width calculation.algorithm)) hash.1
  front_spelt K positions (write sums t x) fits stands hash = tt
  front_spelt K positions p fits stands hash = tt
