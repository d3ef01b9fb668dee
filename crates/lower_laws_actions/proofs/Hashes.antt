-- Hashes, also those whose result is cut, which go to variables in front.
use Rattle.std.proofs.Common.{None, ◌≡◌, ◌⊎◌, inl, inr, leb, eqb, ◌≢◌, ℕ, suc, ◌+◌, ◌-◌, ◌*◌, ◌<◌, ◌≤◌, ◌%◌, ◌^◌, Bool, true, false, cond, List, [], ◌∷◌, ◌++◌, length, drop, replicate, refl, sym, ap, ◌∙◌, subst, arith, append_assoc}
use Rattle.std.specs.Prelude.{codes, nat_lt, unwrap_or}
use Rattle.std.specs.Str.{bytes_eq}
use Rattle.std.proofs.Math.Nat.{mod-eq_of_lt, pow-suc}
use Rattle.std.proofs.Math.Pow.{pow_mono}
use Rattle.std.proofs.lemmas.Nat.{pow_pos, xor_lt, mod_below}
use Rattle.std.proofs.lemmas.List.{append-nil, length-replicate, length-drop}
use Rattle.std.proofs.lemmas.Bool.Decides.{leb_tells, eqb_tells}
use Rattle.state_store.specs.State.{Contents}
use Rattle.p416_syntax.specs.Statements.{with_variable}
use Rattle.p4x_bits.specs.BitLists.{num, bits as bit_list}
use Rattle.p4x_bits.proofs.BitLists.{length-bits, num_below, num-bits}
use Rattle.calc_core.specs.Calculations.{csum16, crc16, crc32, identity, crc, reflected}
use Rattle.calc_core.proofs.Division.{crc_below}
use Rattle.p414_syntax.specs.declared.calculations.Item.{Item}
use Rattle.p414_syntax.specs.declared.calculations.Item.TheVariants as item
use Rattle.p414_syntax.specs.declared.syntax.Decl.{Decl}
use Rattle.p414_sem.specs.Slots.{slot_of}
use Rattle.p414_sem.specs.State.{State, read as read14}
use Rattle.p414_sem.specs.Calculations.{Calculation, item_bits, list_bits, summed}
use Rattle.p414_sem.specs.Operations.{Source, hashed}
use Rattle.p414_sem.specs.Effects.{Moment as Moment14, natural_of, offset_of}
use Rattle.p416_syntax.specs.declared.parts.Type16.TheVariants.{Bit}
use Rattle.p416_syntax.specs.Tree.{Exp16, literal, name, member, no_arguments, argument, listed, var}
use Rattle.p416_syntax.specs.Names.{Name}
use Rattle.p416_syntax.specs.Kinds.{Kind, bits, hash_algorithm}
use Rattle.p416_syntax.specs.Scopes.{Scope}
use Rattle.p416_syntax.specs.Calls.{owner, any_bits, item_list, member_place}
use Rattle.p416_syntax.specs.Expressions.{sort_kind}
use Rattle.v1_core.specs.Values.{Value, a_number, a_symbol, some_bits, number_in, width_in, symbol_in, bits_of_list}
use Rattle.v1_core.specs.Frames.{Moment, Reference, nowhere, ticked, number_put_at}
use Rattle.v1_core.specs.Expressions.{Valued, valued, value_of, member_value}
use Rattle.v1_core.specs.Calls.{Given, by_value, by_reference, argument_at, items_of}
use Rattle.v1_core.specs.Externs.Hashes.{in_range, hash, result_of as result16}
use Rattle.v1_core.specs.Statements.{no_label, run}
use Rattle.agreement_of_meanings.specs.Shown.{slot_width}
use Rattle.lower_laws_base.specs.Context.{Local, Lowering, words_of, At, HasAt, Sees, IsFresh, an_enumeration, Stored, Aside, Stands, AreGiven, Reads, Looks}
use Rattle.lower_laws_base.specs.Mirror.{plain, sized}
use Rattle.lower_laws_base.proofs.Means.{Means, local_reference}
use Rattle.lower_laws_base.proofs.Gives.{gives_literal}
use Rattle.lower_laws_base.proofs.Sources.{gives_slot, gives_local}
use Rattle.lower_laws_base.proofs.Running.{holds_first, holds_more, given_over, over_one}
use Rattle.lower_laws_actions.specs.Mirror.{own_width, own_exp, algorithm_width, item_exp, items_exp, hash_stmt, cut_stmts, hash_stmts}
use Rattle.lower_laws_actions.specs.Fits.{ItemFits, ItemsFit, TermFits}
use Rattle.lower_laws_actions.proofs.Wide.{gives_own}
use Rattle.lower_laws_actions.proofs.Lists.{Free, free_front, free_past, fresh_more, runs_more, run_all}
use Rattle.lower_laws_actions.proofs.Calls.{number_given, written_given, function_called}
use Rattle.lower_laws_actions.proofs.Filled.{Filled, reads_left, it, next, next_scope, next_sees, next_means, next_looks, filled_runs}
use Rattle.lower_laws_base.specs.Gives.{Gives}

-- what is hashed, as bits

module _ (c : Lowering) (ds : List Decl) (s : Scope) (ls : List Local) (vs : List Value) (arguments : List ℕ) (at : At) (r : State) (n : Moment) (looks : Looks c s ls vs arguments at r n.frame) where
  item_is : (i : Item) → ItemFits c ds i → (width : ℕ) × (k : ℕ) × Gives c.world s n (item_exp ds (words_of c) at i) width k × (bit_list width k ≡ item_bits ds r i)
  item_is (item.Number l) fits = (unwrap_or l.width 0, l.value, gives_literal c.world s n (unwrap_or l.width 0) l.value fits, refl)
  item_is (item.Field f) fits =
      let slot = slot_of ds f in
      (slot_width c.layout.names.instances slot, read14 r slot, gives_slot c s ls vs arguments at r n looks slot fits.0, ap (λ w. bit_list w (read14 r slot)) (sym fits.1))
  item_is item.Payload fits = absurd fits
  item_is (item.Instance i) fits = absurd fits

  pub items_are : (items : List Item) → ItemsFit c ds items → (given : Exp16) (before : List Bool) → items_of c.world s given n ≡ valued (some_bits before) n → items_of c.world s (items_exp ds (words_of c) at given items) n ≡ valued (some_bits (before ++ list_bits ds r items)) n
  items_are [] fits given before is = is ∙ ap (λ z. valued (some_bits z) n) (sym (append-nil before))
  items_are (i ∷ items) fits given before is =
      let one = item_is i fits.0 in
      let e = item_exp ds (words_of c) at i in
      let step : items_of c.world s (argument given e) n ≡ valued (some_bits (before ++ item_bits ds r i)) n =
      ap (λ (x : Valued). let y = value_of c.world s any_bits e x.moment in valued (some_bits (bits_of_list x.value ++ bit_list (width_in y.value) (number_in y.value))) y.moment) is
      ∙ ap (λ (y : Valued). valued (some_bits (before ++ bit_list (width_in y.value) (number_in y.value))) y.moment) (one.2.value any_bits)
      ∙ ap (λ z. valued (some_bits (before ++ z)) n) one.3 in
      items_are items fits.1 (argument given e) (before ++ item_bits ds r i) step
      ∙ ap (λ z. valued (some_bits z) n) (append_assoc before (item_bits ds r i) (list_bits ds r items))

-- hash(r, A, base, { items }, bound)

algorithm_given : (c : Lowering) (s : Scope) (ls : List Local) → Sees c s ls → (word : Name) (n : Moment) → argument_at c.world s (member_place hash_algorithm) (member (name (codes "HashAlgorithm")) word) n ≡ (record { target = nowhere; value = a_symbol word }, n)
algorithm_given c s ls sees word n =
    ap (λ (z : Kind). by_value (member_value z word (value_of c.world s owner (name (codes "HashAlgorithm")) n))) (ap sort_kind (sees.declares.named (an_enumeration hash_algorithm) tt))

pub hashes : (c : Lowering) (s : Scope) (ls : List Local) → Sees c s ls → (to algorithm : Name) (base items bound : Exp16) (width : ℕ) (r : Reference) (v w x y : ℕ) (list : List Bool) (n : Moment) → n.stopped ≡ None → Means c.world s (name to) (bits width) r (ticked n) → Gives c.world s (ticked n) base v x → items_of c.world s items (ticked n) ≡ valued (some_bits list) (ticked n) → Gives c.world s (ticked n) bound w y → run c.world s no_label (hash_stmt to algorithm base items bound) n ≡ number_put_at r (in_range x (result16 algorithm list) y) (ticked n)
hashes c s ls sees to algorithm base items bound width r v w x y list n runs means g is h =
    let a = member (name (codes "HashAlgorithm")) algorithm in
    function_called c s ls sees (codes "hash") refl (argument (argument (argument (argument (argument no_arguments (name to)) a) base) (listed items)) bound) n runs
    ∙ ap (λ (t : Given × Moment). let t2 = argument_at c.world s (member_place hash_algorithm) a t.1 in let t3 = argument_at c.world s any_bits base t2.1 in let t4 = argument_at c.world s item_list (listed items) t3.1 in let t5 = argument_at c.world s any_bits bound t4.1 in hash t.0.target (symbol_in t2.0.value) (number_in t3.0.value) (bits_of_list t4.0.value) (number_in t5.0.value) t5.1)
    (written_given c.world s (name to) width (ticked n) means.kind ∙ ap by_reference means.reference)
    ∙ ap (λ (t2 : Given × Moment). let t3 = argument_at c.world s any_bits base t2.1 in let t4 = argument_at c.world s item_list (listed items) t3.1 in let t5 = argument_at c.world s any_bits bound t4.1 in hash r (symbol_in t2.0.value) (number_in t3.0.value) (bits_of_list t4.0.value) (number_in t5.0.value) t5.1) (algorithm_given c s ls sees algorithm (ticked n))
    ∙ ap (λ (t3 : Given × Moment). let t4 = argument_at c.world s item_list (listed items) t3.1 in let t5 = argument_at c.world s any_bits bound t4.1 in hash r algorithm (number_in t3.0.value) (bits_of_list t4.0.value) (number_in t5.0.value) t5.1) (number_given c.world s any_bits base v x (ticked n) refl g)
    ∙ ap (λ (t4 : Valued). let t5 = argument_at c.world s any_bits bound t4.moment in hash r algorithm x (bits_of_list t4.value) (number_in t5.0.value) t5.1) is
    ∙ ap (λ (t5 : Given × Moment). hash r algorithm x list (number_in t5.0.value) t5.1) (number_given c.world s any_bits bound w y (ticked n) refl h)

-- results

below_less : (a p : ℕ) → 0 < p → p - 1 - a < p
below_less a p some = omega (arith, some)

crc_fits : (divisor start list : List Bool) (n : ℕ) → length start ≡ n → length divisor ≡ n → 0 < n → crc divisor start list < 2 ^ n
crc_fits divisor start list n a b some = subst (λ z. crc divisor start list < 2 ^ z) b (crc_below divisor start list (a ∙ sym b) (subst (λ z. 0 < z) (sym b) some))

identity_below : (list : List Bool) → identity list < 2 ^ 128
identity_below list =
    let few : length (drop (length list - 128) list) ≤ 128 = short (length list) (length (drop (length list - 128) list)) (length-drop (length list - 128) list) in
    omega (arith, num_below (drop (length list - 128) list), pow_mono few)
  where
    short : (a b : ℕ) → b ≡ a - (a - 128) → b ≤ 128
    short a b is = omega (arith, is)

-- a result has no more bits than its algorithm
pub summed_below : (algorithm : Name) (list : List Bool) → summed algorithm list < 2 ^ algorithm_width algorithm
summed_below algorithm list = by (bytes_eq algorithm (codes "csum16")) (bytes_eq algorithm (codes "crc16")) (bytes_eq algorithm (codes "crc32")) where
  by : (a b d : Bool) → cond a (csum16 list) (cond b (crc16 list) (cond d (crc32 list) (identity list))) < 2 ^ cond a 16 (cond b 16 (cond d 32 128))
  by true b d = below_less _ (2 ^ 16) (pow_pos 16)
  by false true d = crc_fits (bit_list 16 0x8005) (replicate 16 false) (reflected list) 16 (length-replicate 16 false) (length-bits 16 0x8005) (omega arith)
  by false false true = xor_lt 32 (crc (bit_list 32 0x04C11DB7) (replicate 32 true) (reflected list)) 0xFFFFFFFF (crc_fits (bit_list 32 0x04C11DB7) (replicate 32 true) (reflected list) 32 (length-replicate 32 true) (length-bits 32 0x04C11DB7) (omega arith)) (omega arith)
  by false false false = identity_below list

narrow : (algorithm : Name) (o : ℕ) → o < algorithm_width algorithm → o ≤ 128
narrow algorithm o lt = by (bytes_eq algorithm (codes "csum16")) (bytes_eq algorithm (codes "crc16")) (bytes_eq algorithm (codes "crc32")) lt where
  by : (a b d : Bool) → o < cond a 16 (cond b 16 (cond d 32 128)) → o ≤ 128
  by true b d lt = omega (arith, lt)
  by false true d lt = omega (arith, lt)
  by false false true lt = omega (arith, lt)
  by false false false lt = omega (arith, lt)

-- so few bits are their own number
identity_is : (o y : ℕ) → o ≤ 128 → y < 2 ^ o → identity ([] ++ bit_list o y) ≡ y
identity_is o y few lt =
    ap (λ z. num (drop z (bit_list o y))) (ap (λ z. z - 128) (length-bits o y) ∙ none o few) ∙ num-bits o y ∙ mod-eq_of_lt lt
  where
    none : (o : ℕ) → o ≤ 128 → o - 128 ≡ 0
    none o few = omega (arith, few)

cut_is : (o x : ℕ) → in_range 0 x (2 ^ o) ≡ x % 2 ^ o
cut_is o x = by (eqb_tells (2 ^ o) 0) where
  by : ((eqb (2 ^ o) 0 ≡ true) × (2 ^ o ≡ 0)) ⊎ ((eqb (2 ^ o) 0 ≡ false) × (2 ^ o ≢ 0)) → cond (eqb (2 ^ o) 0) 0 (0 + x % 2 ^ o) ≡ x % 2 ^ o
  by (inl none) = absurd (omega (arith, none.1, pow_pos o))
  by (inr some) = ap (λ b. cond b 0 (0 + x % 2 ^ o)) some.0 ∙ plainly (x % 2 ^ o) where
    plainly : (a : ℕ) → 0 + a ≡ a
    plainly a = omega arith

module _ (c : Lowering) (ds : List Decl) (s : Scope) (ls : List Local) (sees : Sees c s ls) (vs : List Value) (arguments : List ℕ) (given : AreGiven c.parameters ls vs arguments) (k : Aside) (at : At) (has : HasAt c at) (r m : Moment14) (n : Moment) (stands : Stands c.layout ls vs k m n) (reads : Reads c at r m n.frame) where
  -- one call of `hash` into a variable
  abbrev pub one_hashed : (b d width : ℕ) (called algorithm : Name) (fresh : IsFresh c ls called) → Free c (record { called = called; kind = bits width } ∷ ls) b d → (base items bound : Exp16) (v u x y : ℕ) (list : List Bool) → ((q : Moment) → Looks c (with_variable (Bit (plain width)) called s) (record { called = called; kind = bits width } ∷ ls) (a_number width 0 ∷ vs) arguments at r.state q.frame → Gives c.world (with_variable (Bit (plain width)) called s) q base v x × (items_of c.world (with_variable (Bit (plain width)) called s) items q ≡ valued (some_bits list) q) × Gives c.world (with_variable (Bit (plain width)) called s) q bound u y) → Filled c s ls vs k b d (var (Bit (plain width)) called ∷ hash_stmt called algorithm base items bound ∷ []) (record { state = m.state; store = n.store }) n (record { called = called; kind = bits width }) (a_number width (in_range x (result16 algorithm list) y % 2 ^ width))
  one_hashed b d width called algorithm fresh free base items bound v u x y list gives =
      let one = next c s ls sees vs arguments given k m n stands width called fresh in
      let all = gives (ticked one) (next_looks c s ls sees vs arguments given k m n stands width called fresh at r has reads) in
      filled_runs c s ls sees vs arguments given k m n stands width called fresh b d (hash_stmt called algorithm base items bound) (in_range x (result16 algorithm list) y) n.store free refl
      (subst (λ z. Stored c.layout.shapes z) (sym stands.both.store) stands.stored)
      (hashes c (next_scope c s ls sees vs arguments given k m n stands width called fresh) (it c s ls sees vs arguments given k m n stands width called fresh ∷ ls) (next_sees c s ls sees vs arguments given k m n stands width called fresh) called algorithm base items bound width (local_reference called) v u x y list one stands.both.packet.runs
      (next_means c s ls sees vs arguments given k m n stands width called fresh) all.0 all.1 all.2)

  same_store : record { state = m.state; store = n.store } ≡ m
  same_store = ap (λ (store : Contents). let z : Moment14 = record { state = m.state; store = store } in z) stands.both.store

-- a hash in front: its variable holds what the field gets
module _ (c : Lowering) (ds : List Decl) (s : Scope) (ls : List Local) (sees : Sees c s ls) (vs : List Value) (arguments : List ℕ) (given : AreGiven c.parameters ls vs arguments) (k : Aside) (at : At) (has : HasAt c at) (r m : Moment14) (n : Moment) (stands : Stands c.layout ls vs k m n) (reads : Reads c at r m n.frame) (K d : ℕ) (free : Free c ls K d) (width : ℕ) (base : Source) (calculation : Calculation) (bound : Source) (fits : TermFits c ds (hashed base calculation bound)) where
  abbrev list : List Bool
  list = list_bits ds r.state calculation.items

  abbrev x : ℕ
  x = natural_of arguments r.state base

  abbrev y : ℕ
  y = natural_of arguments r.state bound

  abbrev o : ℕ
  o = calculation.width

  abbrev result : ℕ
  result = summed calculation.algorithm list

  abbrev main : Local
  main = record { called = c.spare K 0; kind = bits width }

  abbrev Holding : Bool → Type 0
  Holding b = Filled c s ls vs k (suc K) d (hash_stmts ds (words_of c) at K width base calculation bound b) m n main (a_number width (offset_of x (result % 2 ^ o) y % 2 ^ width))

  -- the result needs no cut
  uncut : algorithm_width calculation.algorithm ≤ o → Holding false
  uncut le =
      let fresh = free.fronts K 0 (omega arith) (omega arith) in
      let filled = one_hashed c ds s ls sees vs arguments given k at has r m n stands reads (suc K) d width (c.spare K 0) calculation.algorithm fresh
      (free_front c ls K d K 0 (bits width) (omega arith) (omega arith) free) (own_exp (words_of c) at base) (items_exp ds (words_of c) at no_arguments calculation.items) (own_exp (words_of c) at bound)
      (own_width (words_of c) base) (own_width (words_of c) bound) x y list
      (λ q looks. (
        gives_own c (with_variable (Bit (plain width)) (c.spare K 0) s) (main ∷ ls) (a_number width 0 ∷ vs) arguments at r.state q looks base fits.0 fits.2,
        items_are c ds (with_variable (Bit (plain width)) (c.spare K 0) s) (main ∷ ls) (a_number width 0 ∷ vs) arguments at r.state q looks calculation.items fits.4 no_arguments [] refl,
        gives_own c (with_variable (Bit (plain width)) (c.spare K 0) s) (main ∷ ls) (a_number width 0 ∷ vs) arguments at r.state q looks bound fits.1 fits.3,
      )) in
      let whole : result ≡ result % 2 ^ o = sym (mod-eq_of_lt (omega (arith, summed_below calculation.algorithm list, pow_mono le))) in
      subst (λ z. Filled c s ls vs k (suc K) d (hash_stmts ds (words_of c) at K width base calculation bound false) m n main (a_number width (offset_of x z y % 2 ^ width))) whole
      (subst (λ z. Filled c s ls vs k (suc K) d (hash_stmts ds (words_of c) at K width base calculation bound false) z n main (a_number width (offset_of x result y % 2 ^ width)))
      (same_store c ds s ls sees vs arguments given k at has r m n stands reads) filled)

  -- the result is cut first
  abbrev cut : Local
  cut = record { called = c.spare K 1; kind = bits o }

  abbrev x1 : ℕ
  x1 = in_range 0 result (2 ^ o) % 2 ^ o

  abbrev m0 : Moment14
  m0 = record { state = m.state; store = n.store }

  cut_same : x1 ≡ result % 2 ^ o
  cut_same = ap (λ z. z % 2 ^ o) (cut_is o result) ∙ mod-eq_of_lt (mod_below result (2 ^ o) (pow_pos o))

  same_m : m0 ≡ m
  same_m = same_store c ds s ls sees vs arguments given k at has r m n stands reads

  fresh_cut : IsFresh c ls (c.spare K 1)
  fresh_cut = free.fronts K 1 (omega arith) (omega arith)

  free_cut : Free c (cut ∷ ls) (suc K) d
  free_cut = free_front c ls K d K 1 (bits o) (omega arith) (omega arith) free

  abbrev in_cut : Scope
  in_cut = with_variable (Bit (plain o)) (c.spare K 1) s

  cut_gives : (q : Moment) → Looks c in_cut (cut ∷ ls) (a_number o 0 ∷ vs) arguments at r.state q.frame → Gives c.world in_cut q (literal (sized 1 0)) 1 0 × (items_of c.world in_cut (items_exp ds (words_of c) at no_arguments calculation.items) q ≡ valued (some_bits list) q) × Gives c.world in_cut q (literal (sized (suc o) (2 ^ o))) (suc o) (2 ^ o)
  cut_gives q looks = (
    gives_literal c.world in_cut q 1 0 (omega arith),
    items_are c ds in_cut (cut ∷ ls) (a_number o 0 ∷ vs) arguments at r.state q looks calculation.items fits.4 no_arguments [] refl,
    gives_literal c.world in_cut q (suc o) (2 ^ o) (more o),
  ) where
    more : (o : ℕ) → 2 ^ o < 2 ^ suc o
    more o = let some = pow_pos o in let twice : 2 ^ suc o ≡ 2 ^ o * 2 = pow-suc 2 o in omega (arith, some, twice)

  abbrev first : Filled c s ls vs k (suc K) d (cut_stmts ds (words_of c) at (c.spare K 1) calculation) m0 n cut (a_number o x1)
  first =
      one_hashed c ds s ls sees vs arguments given k at has r m n stands reads (suc K) d o (c.spare K 1) calculation.algorithm fresh_cut free_cut
      (literal (sized 1 0)) (items_exp ds (words_of c) at no_arguments calculation.items) (literal (sized (suc o) (2 ^ o))) 1 (suc o) 0 (2 ^ o) list cut_gives

  abbrev n1 : Moment
  n1 = run_all c.world s (cut_stmts ds (words_of c) at (c.spare K 1) calculation) n

  abbrev vs1 : List Value
  vs1 = a_number o x1 ∷ vs

  given1 : AreGiven c.parameters (cut ∷ ls) vs1 arguments
  given1 = given_over c.parameters ls (cut ∷ ls) vs vs1 arguments (over_one ls vs cut (a_number o x1)) given

  reads1 : Reads c at r m0 n1.frame
  reads1 = subst (λ (z : Moment14). Reads c at r z n1.frame) (sym same_m) (reads_left c at r m n.frame n1.frame first.runs.variables reads)

  fresh_main : IsFresh c (cut ∷ ls) (c.spare K 0)
  fresh_main = fresh_more c ls (c.spare K 0) (c.spare K 1) (bits o) (λ e. absurd (omega (arith, (free.differ K 0 K 1 e).1))) (free.fronts K 0 (omega arith) (omega arith))

  abbrev in_main : Scope
  in_main = with_variable (Bit (plain width)) (c.spare K 0) in_cut

  main_gives : (q : Moment) → Looks c in_main (main ∷ cut ∷ ls) (a_number width 0 ∷ vs1) arguments at r.state q.frame → Gives c.world in_main q (own_exp (words_of c) at base) (own_width (words_of c) base) x × (items_of c.world in_main (argument no_arguments (name (c.spare K 1))) q ≡ valued (some_bits ([] ++ bit_list o x1)) q) × Gives c.world in_main q (own_exp (words_of c) at bound) (own_width (words_of c) bound) y
  main_gives q looks =
      let there = gives_local c in_main (main ∷ cut ∷ ls) looks.sees (a_number width 0 ∷ vs1) q looks.inner looks.count cut o x1 refl (holds_more (cut ∷ ls) vs1 main (a_number width 0) cut (a_number o x1) (holds_first ls vs cut (a_number o x1))) in (
        gives_own c in_main (main ∷ cut ∷ ls) (a_number width 0 ∷ vs1) arguments at r.state q looks base fits.0 fits.2,
        ap (λ (z : Valued). valued (some_bits ([] ++ bit_list (width_in z.value) (number_in z.value))) z.moment) (there.value any_bits),
        gives_own c in_main (main ∷ cut ∷ ls) (a_number width 0 ∷ vs1) arguments at r.state q looks bound fits.1 fits.3,
      )

  cutting : o < algorithm_width calculation.algorithm → Holding true
  cutting lt =
      let few : o ≤ 128 = narrow calculation.algorithm o lt in
      let a = first.runs in
      let second = one_hashed c ds in_cut (cut ∷ ls) a.sees vs1 arguments given1 k at has r m0 n1 a.stands reads1 (suc K) d width (c.spare K 0) (codes "identity") fresh_main
      (free_past c (cut ∷ ls) (suc K) d K 0 (bits width) (omega arith) (omega arith) free_cut)
      (own_exp (words_of c) at base) (argument no_arguments (name (c.spare K 1))) (own_exp (words_of c) at bound) (own_width (words_of c) base) (own_width (words_of c) bound) x y ([] ++ bit_list o x1) main_gives in
      let same : identity ([] ++ bit_list o x1) ≡ result % 2 ^ o = identity_is o x1 few (mod_below (in_range 0 result (2 ^ o)) (2 ^ o) (pow_pos o)) ∙ cut_same in
      let stays : record { state = m0.state; store = n1.store } ≡ m = ap (λ (store : Contents). let z : Moment14 = record { state = m.state; store = store } in z) a.stands.both.store ∙ same_m in
      let both : Filled c s ls vs k (suc K) d (hash_stmts ds (words_of c) at K width base calculation bound true) (record { state = m0.state; store = n1.store }) n main (a_number width (offset_of x (identity ([] ++ bit_list o x1)) y % 2 ^ width)) =
      record { runs = runs_more c s ls vs k (suc K) d (suc K) d (cut_stmts ds (words_of c) at (c.spare K 1) calculation) _ m0 _ n a second.runs; holds = second.holds } in
      subst (λ z. Filled c s ls vs k (suc K) d (hash_stmts ds (words_of c) at K width base calculation bound true) m n main (a_number width (offset_of x z y % 2 ^ width))) same
      (subst (λ z. Filled c s ls vs k (suc K) d (hash_stmts ds (words_of c) at K width base calculation bound true) z n main (a_number width (offset_of x (identity ([] ++ bit_list o x1)) y % 2 ^ width))) stays both)

  pub hash_filled : Holding (nat_lt o (algorithm_width calculation.algorithm))
  hash_filled = by (leb_tells (suc o) (algorithm_width calculation.algorithm)) where
    by : ((leb (suc o) (algorithm_width calculation.algorithm) ≡ true) × (suc o ≤ algorithm_width calculation.algorithm)) ⊎ ((leb (suc o) (algorithm_width calculation.algorithm) ≡ false) × (algorithm_width calculation.algorithm < suc o)) → Holding (nat_lt o (algorithm_width calculation.algorithm))
    by (inl cuts) = subst Holding (sym cuts.0) (cutting (omega (arith, cuts.1)))
    by (inr whole) = subst Holding (sym whole.0) (uncut (omega (arith, whole.1)))
