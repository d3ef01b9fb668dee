-- What each primitive is written as breaks no rule, under both rules of P4_14.
use Rattle.std.proofs.Common.{◌≡◌, ◌≢◌, ◌+◌, ℕ, zero, suc, ◌<◌, ◌≤◌, ◌^◌, min, Bool, true, false, cond, Option, List, [], ◌∷◌, refl, sym, ap, ◌∙◌, subst, arith}
use Rattle.std.specs.Prelude.{codes, nat_lt, unwrap_or}
use Rattle.fabric.specs.declared.items.RequestKind.{RequestKind}
use Rattle.fabric.specs.declared.items.RequestKind.TheVariants.{CloneI2E, CloneE2E, Resubmit, Recirculate}
use Rattle.p414_syntax.specs.declared.calculations.Item.{Item}
use Rattle.p414_syntax.specs.declared.calculations.Item.TheVariants as item
use Rattle.p414_syntax.specs.declared.syntax.Decl.{Decl}
use Rattle.p414_sem.specs.Slots.{Slot, standard, declared, Element, Target, slot_of}
use Rattle.p414_sem.specs.Calculations.{Calculation}
use Rattle.p414_sem.specs.Operations.{Source, cell, hashed, Primitive, write, add_header, remove_header, copy_header, push, pop, count_cell, write_cell, execute_meter, ask, nothing}
use Rattle.p416_syntax.specs.declared.parts.Type16.TheVariants.{Bit}
use Rattle.p416_syntax.specs.Tree.{Exp16, name, no_arguments, argument, Stmt16, assign}
use Rattle.p416_syntax.specs.Names.{Name, has_name}
use Rattle.p416_syntax.specs.BuiltIn.{members_of}
use Rattle.p416_syntax.specs.Kinds.{Kind, ObjectKind, bits, header, stack, struct, hash_algorithm, clone_type, counter, register, meter}
use Rattle.p416_syntax.specs.Scopes.{Scope, an_object as object_sort, a_function as function_sort, sort_of}
use Rattle.p416_syntax.specs.Calls.{any_bits}
use Rattle.p416_syntax.specs.Statements.{with_variable}
use Rattle.p416_syntax.specs.Externs.{are_allowed}
use Rattle.v1_core.specs.Frames.{of_standard}
use Rattle.agreement_of_meanings.specs.Shown.{Shown, as_header, as_stack, as_metadata, is_metadata, owner_of}
use Rattle.lower_laws_base.specs.Context.{Local, Lowering, words_of, shown_in, element_kind, instance_kind, object_at, HasRoot, At, now, entry, HasAt, an_object, a_function, an_enumeration, IsSlot, IsHeaderPart, SourceFits}
use Rattle.lower_laws_base.specs.Mirror.{plain, drop_stmt, instance_exp, element_exp, part_exp, slot_exp, width_in, source_exp, guarded_part, guarded}
use Rattle.lower_laws_actions.specs.Mirror.{own_exp, own_width, item_exp, items_exp, hash_stmt, hash_stmts, algorithm_width, read_front, front, drops, write_guarded, add_stmt, meter_stmts, request_stmt, stack_copied, elements_set, push_stmts, pop_stmts, rest}
use Rattle.lower_laws_actions.specs.Fits.{IsObject, IsNatural, ItemFits, ItemsFit, TermFits, ListFits, SessionFits, IsStack, PrimitiveFits}
use Rattle.lower_laws_actions.proofs.Dropping.{drops_to}
use Rattle.lower_laws_rules.specs.Keeping.{Sound, Given, Part}
use Rattle.lower_laws_rules.specs.Standing.{can_at, slot_owner}
use Rattle.lower_laws_rules.proofs.Lists.{no_fines}
use Rattle.lower_laws_rules.proofs.Places.{deeper, read_only, writable, sits, sits_deeper, asks_any}
use Rattle.lower_laws_rules.proofs.Sound.{sound_literal, sound_not, sound_resized}
use Rattle.lower_laws_rules.proofs.Calls.{more_given}
use Rattle.lower_laws_rules.proofs.Parts.{part_none, part_then, part_block, part_put, part_header, part_stack, part_if, part_variable, nests_deeper}
use Rattle.lower_laws_rules.proofs.Sources.{sound_root, sound_local, sound_instance, sound_part, sound_slot, sound_source}
use Rattle.lower_laws_rules.proofs.Externs.{sound_valid, part_set_valid, part_set_invalid, part_push_sized, part_pop_sized, part_count, part_read, part_write, part_execute, part_drop, part_hash, part_clone_ingress, part_clone_egress, part_resubmit, part_recirculate}
use Rattle.lower_laws_rules.specs.Acting.{IsWidth, WidthsFit, PrimitiveStands, request_positions, Steps, TermKnown, PrimitiveKnown}
use Rattle.lower_laws_rules.proofs.TermsSound.{positive, sound_own, sound_write}
use Rattle.lower_laws_actions.proofs.Requests.{marked_so}
use Rattle.lower_laws_actions.proofs.Lists.{free_front, free_past, free_other, fresh_more}
use Rattle.lower_laws_rules.proofs.Stepping.{Around, among_more, bits_local, around_more, sound_variable, one_step, Went, went_one, went_none, one_declared, none_declared, declared_behind, steps_behind, later}

-- the numbers of variables of fronts, and of other variables
pub record OfFront (b e a i : ℕ) : Type 0 where
  pub low : i < 2
  pub from : b ≤ a
  pub to : a < e

pub record OfRest (b e a i : ℕ) : Type 0 where
  pub is : i ≡ 2
  pub from : b ≤ a
  pub to : a < e

header_is : (x : Shown) (type : Name) → is_metadata x ≡ false → element_kind x type ≡ header type
header_is (as_header called fields) type is = refl
header_is (as_stack called fields) type is = refl
header_is (as_metadata called fields) type is = absurd (cc is)

rekind : {s : Scope} {e : Exp16} {k l : Kind} {can : Bool} {d : ℕ} → k ≡ l → Sound s e k can d → Sound s e l can d
rekind {s} {e} {can = can} {d} is x = subst (λ z. Sound s e z can d) is x

module _ (c : Lowering) (ds : List Decl) (widths : WidthsFit c) (at : At) (has : HasAt c at) (positions : List ℕ) (allowed : are_allowed (2 ∷ 3 ∷ []) positions ≡ true) where
  module _ (s : Scope) (ls : List Local) (b d : ℕ) (a : Around c positions s ls b d) where
    here : are_allowed (2 ∷ 3 ∷ []) s.positions ≡ true
    here = ap (are_allowed (2 ∷ 3 ∷ [])) a.at ∙ allowed

    object_known : (kind : ObjectKind) (j : ℕ) → IsObject c kind j → sort_of s (object_at c.objects j).called ≡ object_sort kind
    object_known kind j is = a.sees.declares.named (an_object j) is.0 ∙ ap (λ k. object_sort k) is.1

    source : (width : ℕ) → IsWidth width → (x : Source) → SourceFits c x → Sound s (source_exp (words_of c) at width x) (bits width) false 5
    source width w x fits = sound_source c s ls a.sees at has a.given width x w.0 w.1 fits

    index : (x : Source) → SourceFits c x → Sound s (source_exp (words_of c) at 32 x) (bits 32) false 5
    index x fits = source 32 (omega arith, omega arith) x fits

    header_at : (when : At) → HasAt c when → (part : Element) → IsHeaderPart c.layout part → Sound s (part_exp (words_of c) when part) (header (c.type_of part.instance)) (can_at c when (owner_of (shown_in c part.instance))) 3
    header_at when has part is = rekind (header_is (shown_in c part.instance) (c.type_of part.instance) is.1) (sound_part c s ls a.sees when has part is.0)

    header_now : (part : Element) → IsHeaderPart c.layout part → Sound s (part_exp (words_of c) now part) (header (c.type_of part.instance)) true 3
    header_now part is = writable (widths.writes (owner_of (shown_in c part.instance)) is.0.2) (header_at now tt part is)

    guarded_shown : (x : Shown) (type : Name) (e : ℕ) (can : Bool) (when : At) (y : Stmt16) → Sound s (element_exp (words_of c) entry x e) (element_kind x type) can 3 → Part s s [] 0 y → Part s s [] 0 (guarded_part (words_of c) when x e y)
    guarded_shown x type e can now y sound p = p
    guarded_shown (as_metadata called fields) type e can entry y sound p = p
    guarded_shown (as_header called fields) type e can entry y sound p = part_if (sound_valid sound) (omega arith) p
    guarded_shown (as_stack called fields) type e can entry y sound p = part_if (sound_valid sound) (omega arith) p

    guarded_kept : (slot : Slot) (y : Stmt16) → IsSlot c.layout slot → Part s s [] 0 y → Part s s [] 0 (guarded (words_of c) at slot y)
    guarded_kept (standard which) y is p = p
    guarded_kept (declared i e k) y is p = by at has where
      by : (when : At) → HasAt c when → Part s s [] 0 (guarded_part (words_of c) when (shown_in c i) e y)
      by now has = p
      by entry has = guarded_shown (shown_in c i) (c.type_of i) e true entry y (sound_part c s ls a.sees entry has (record { instance = i; element = e }) (is.0, is.1, is.2)) p

    put : (t : Target) (e : Exp16) (deep : ℕ) → deep ≤ 400 → IsSlot c.layout t.slot → t.width ≡ width_in (words_of c) t.slot → Sound s e (bits t.width) false deep → Part s s [] 0 (guarded (words_of c) at t.slot (assign (slot_exp (words_of c) now t.slot) e))
    put t e deep few is same x =
        guarded_kept t.slot _ is (part_put (writable (can t.slot is) (rekind (ap (λ (w : ℕ). bits w) (sym same)) (sound_slot c s ls a.sees now tt t.slot is))) x (omega arith) few) where
          can : (slot : Slot) → IsSlot c.layout slot → c.can_write (slot_owner c slot) ≡ true
          can (standard which) is = widths.writes of_standard is
          can (declared i e k) is = widths.writes (owner_of (shown_in c i)) is.2

    -- items of a hash
    item_sound : (i : Item) → ItemFits c ds i → (width : ℕ) × Sound s (item_exp ds (words_of c) at i) (bits width) false 4
    item_sound (item.Number n) fits = (unwrap_or n.width 0, deeper 4 (omega arith) (sound_literal s (unwrap_or n.width 0) n.value fits))
    item_sound (item.Field r) fits = (width_in (words_of c) (slot_of ds r), read_only (sound_slot c s ls a.sees at has (slot_of ds r) fits.0))
    item_sound i fits = absurd fits

    items_sound : (items : List Item) (before : Exp16) → ItemsFit c ds items → Given s [] any_bits before 4 → Given s [] any_bits (items_exp ds (words_of c) at before items) 4
    items_sound [] before fits given = given
    items_sound (i ∷ items) before fits given =
        let x = item_sound i fits.0 in
        items_sound items (argument before (item_exp ds (words_of c) at i)) fits.1 (more_given given refl (sits x.1 any_bits (asks_any x.0 false)))

    no_items : Given s [] any_bits no_arguments 4
    no_items = record { depths = omega arith; keeps = no_fines }

    hash_known : sort_of s (codes "hash") ≡ function_sort
    hash_known = a.sees.declares.named (a_function (codes "hash")) refl

  -- fronts

  read_went : (s : Scope) (ls : List Local) (K d width : ℕ) (a : Around c positions s ls K d) (object : ℕ) (i : Source) → IsObject c register object → SourceFits c i → (w : Went c positions s ls (suc K) d (read_front ds (words_of c) at K width (cell object i)) (OfFront K (suc K))) × TermKnown c w.locals K width (cell object i)
  read_went s ls K d width a object i is fits =
      let wide = (object_at c.objects object).width in
      let w = widths.registers object is in
      let fresh = a.free.fronts K 0 (omega arith) (omega arith) in
      let inner = around_more wide (c.spare K 0) a fresh (free_front c ls K d K 0 (bits wide) (omega arith) (omega arith) a.free) in
      let t = with_variable (Bit (plain wide)) (c.spare K 0) s in
      let ks = bits_local (c.spare K 0) wide ∷ ls in (
        record {
          scope = t;
          locals = ks;
          names = c.spare K 0 ∷ [];
          steps = (
            t,
            c.spare K 0 ∷ [],
            [],
            nests_deeper 1 (omega arith) (part_variable s wide (c.spare K 0) w.0 w.1),
            one_step (part_read (object_known t ks (suc K) d inner register object is) (here t ks (suc K) d inner) (sound_variable s wide (c.spare K 0)) (index t ks (suc K) d inner i fits) (omega arith) (omega arith)),
            refl,
          );
          around = inner;
          declared = one_declared K 0 (record { low = omega arith; from = omega arith; to = omega arith });
          keeps = λ l among. among_more (bits_local (c.spare K 0) wide) among;
        },
        record { place = 0; within = omega arith; stands = refl },
      )

  -- a hash into a variable
  hash_part : (s : Scope) (ls : List Local) (b d : ℕ) (a : Around c positions s ls b d) (to algorithm : Name) (base items bound : Exp16) (width v w : ℕ) → has_name (members_of hash_algorithm) algorithm ≡ true → Sound s (name to) (bits width) true 1 → Sound s base (bits v) false 4 → Given s [] any_bits items 4 → Sound s bound (bits w) false 4 → Part s s [] 0 (hash_stmt to algorithm base items bound)
  hash_part s ls b d a to algorithm base items bound width v w among x y given z =
      part_hash (hash_known s ls b d a) (a.sees.declares.named (an_enumeration hash_algorithm) tt) among (here s ls b d a) x y given z (omega arith) (omega arith) (omega arith) (omega arith)

  own : (s : Scope) (ls : List Local) (b d : ℕ) (a : Around c positions s ls b d) (x : Source) → SourceFits c x → IsNatural x → Sound s (own_exp (words_of c) at x) (bits (own_width (words_of c) x)) false 4
  own s ls b d a x fits is = sound_own c s ls a.sees a.given widths at has x fits is

  hash_went : (s : Scope) (ls : List Local) (K d width : ℕ) (a : Around c positions s ls K d) (base bound : Source) (calculation : Calculation) → IsWidth width → TermFits c ds (hashed base calculation bound) → has_name (members_of hash_algorithm) calculation.algorithm ≡ true → IsWidth calculation.width → (cuts : Bool) → (w : Went c positions s ls (suc K) d (hash_stmts ds (words_of c) at K width base calculation bound cuts) (OfFront K (suc K))) × TermKnown c w.locals K width (hashed base calculation bound)
  hash_went s ls K d width a base bound calculation w fits among o false =
      let fresh = a.free.fronts K 0 (omega arith) (omega arith) in
      let inner = around_more width (c.spare K 0) a fresh (free_front c ls K d K 0 (bits width) (omega arith) (omega arith) a.free) in
      let t = with_variable (Bit (plain width)) (c.spare K 0) s in
      let ks = bits_local (c.spare K 0) width ∷ ls in (
        record {
          scope = t;
          locals = ks;
          names = c.spare K 0 ∷ [];
          steps = (
            t,
            c.spare K 0 ∷ [],
            [],
            nests_deeper 1 (omega arith) (part_variable s width (c.spare K 0) w.0 w.1),
            one_step (hash_part t ks (suc K) d inner (c.spare K 0) calculation.algorithm _ _ _ width _ _ among (sound_variable s width (c.spare K 0)) (own t ks (suc K) d inner base fits.0 fits.2) (items_sound t ks (suc K) d inner calculation.items no_arguments fits.4 (no_items t ks (suc K) d inner)) (own t ks (suc K) d inner bound fits.1 fits.3)),
            refl,
          );
          around = inner;
          declared = one_declared K 0 (record { low = omega arith; from = omega arith; to = omega arith });
          keeps = λ l among. among_more (bits_local (c.spare K 0) width) among;
        },
        record { place = 0; within = omega arith; stands = refl },
      )
  hash_went s ls K d width a base bound calculation w fits among o true =
      let wide = calculation.width in
      let first = c.spare K 1 in
      let fresh = a.free.fronts K 1 (omega arith) (omega arith) in
      let one = around_more wide first a fresh (free_front c ls K d K 1 (bits wide) (omega arith) (omega arith) a.free) in
      let t = with_variable (Bit (plain wide)) first s in
      let ks = bits_local first wide ∷ ls in
      let differ : c.spare K 0 ≢ first = λ e. absurd (omega (arith, (a.free.differ K 0 K 1 e).1)) in
      let second = fresh_more c ls (c.spare K 0) first (bits wide) differ (a.free.fronts K 0 (omega arith) (omega arith)) in
      let two = around_more width (c.spare K 0) one second (free_past c ks (suc K) d K 0 (bits width) (omega arith) (omega arith) one.free) in
      let u = with_variable (Bit (plain width)) (c.spare K 0) t in
      let js = bits_local (c.spare K 0) width ∷ ks in
      let cut : Sound u (name first) (bits wide) false 1 = sound_local c u js two.sees (bits_local first wide) (record { place = 1; within = omega arith; stands = refl }) in (
        record {
          scope = u;
          locals = js;
          names = first ∷ c.spare K 0 ∷ [];
          steps = (
            t,
            first ∷ [],
            c.spare K 0 ∷ [],
            nests_deeper 1 (omega arith) (part_variable s wide first o.0 o.1),
            (
              t,
              [],
              c.spare K 0 ∷ [],
              nests_deeper 1 (omega arith) (hash_part t ks (suc K) d one first calculation.algorithm _ _ _ wide 1 (suc wide) among (sound_variable s wide first) (deeper 4 (omega arith) (sound_literal t 1 0 (omega arith))) (items_sound t ks (suc K) d one calculation.items no_arguments fits.4 (no_items t ks (suc K) d one)) (deeper 4 (omega arith) (sound_literal t (suc wide) (2 ^ wide) (doubled wide)))),
              (
                u,
                c.spare K 0 ∷ [],
                [],
                nests_deeper 1 (omega arith) (part_variable t width (c.spare K 0) w.0 w.1),
                one_step (hash_part u js (suc K) d two (c.spare K 0) (codes "identity") _ _ _ width _ _ refl (sound_variable t width (c.spare K 0)) (own u js (suc K) d two base fits.0 fits.2) (more_given (no_items u js (suc K) d two) refl (sits_deeper 4 (omega arith) (sits cut any_bits (asks_any wide false)))) (own u js (suc K) d two bound fits.1 fits.3)),
                refl,
              ),
              refl,
            ),
            refl,
          );
          around = two;
          declared = declared_behind a.free.differ apart (λ x i p. p.0) (λ x i p. p.0) (one_declared {P = λ x i. OfFront K (suc K) x i × (i ≡ 1)} K 1 (record { low = omega arith; from = omega arith; to = omega arith }, refl)) (one_declared {P = λ x i. OfFront K (suc K) x i × (i ≡ 0)} K 0 (record { low = omega arith; from = omega arith; to = omega arith }, refl));
          keeps = λ l among. among_more (bits_local (c.spare K 0) width) (among_more (bits_local first wide) among);
        },
        record { place = 0; within = omega arith; stands = refl },
      ) where
        doubled : (n : ℕ) → 2 ^ n < 2 ^ suc n
        doubled n = let some = positive n in omega (arith, some)

        apart : (x i : ℕ) → OfFront K (suc K) x i × (i ≡ 1) → OfFront K (suc K) x i × (i ≡ 0) → ⊥
        apart x i p q = let one = p.1 in let none = q.1 in absurd (omega (arith, one, none))

  pub front_went : (s : Scope) (ls : List Local) (K d : ℕ) (a : Around c positions s ls K d) (p : Primitive) → PrimitiveFits c ds p → PrimitiveStands c positions p → (w : Went c positions s ls (suc K) d (front ds (words_of c) at K p) (OfFront K (suc K))) × PrimitiveKnown c w.locals K p
  front_went s ls K d a (write sums t (cell object i)) fits stands = read_went s ls K d t.width a object i fits.2.0 fits.2.1
  front_went s ls K d a (write sums t (hashed base calculation bound)) fits stands =
      hash_went s ls K d t.width a base bound calculation (subst IsWidth (sym fits.1) (widths.slots t.slot fits.0)) fits.2 stands.0 stands.1 (nat_lt calculation.width (algorithm_width calculation.algorithm))
  front_went s ls K d a (write sums t term) fits stands = (went_none (later (suc K) d (omega arith) (omega arith) a), tt)
  front_went s ls K d a p fits stands = (went_none (later (suc K) d (omega arith) (omega arith) a), tt)

  -- the rest of a primitive

  module _ (s : Scope) (ls : List Local) (b K : ℕ) (a : Around c positions s ls b K) where
    after : Around c positions s ls b (suc K)
    after = later b (suc K) (omega arith) (omega arith) a

    plain_rest : (y : Stmt16) → Part s s [] 0 y → Went c positions s ls b (suc K) (y ∷ []) (OfRest K (suc K))
    plain_rest y p = went_one after (nests_deeper 1 (omega arith) p)

    add_part : (part : Element) → IsHeaderPart c.layout part → (when : At) → HasAt c when → Part s s [] 1 (add_stmt (words_of c) when part)
    add_part part is now has = nests_deeper 1 (omega arith) (part_set_valid (header_now s ls b K a part is) (omega arith))
    add_part part is entry has =
        part_if (sound_not s _ 5 false (sound_valid (header_at s ls b K a entry has part is))) (omega arith)
        (part_block (part_then (part_then part_none (part_set_invalid (header_now s ls b K a part is) (omega arith))) (part_set_valid (header_now s ls b K a part is) (omega arith))) refl)

    drop_part : HasRoot c.layout of_standard → Part s s [] 0 (drop_stmt (words_of c))
    drop_part is =
        part_drop (a.sees.declares.named (a_function (codes "mark_to_drop")) refl) (here s ls b K a)
        (rekind (ap (λ t. struct t) (a.sees.declares.standard_is is)) (writable (widths.writes of_standard is) (sound_root c s ls a.sees now tt of_standard is))) (omega arith)

    request_part : (kind : RequestKind) (session : Source) (list : Option ℕ) → are_allowed (request_positions kind) positions ≡ true → SessionFits c kind session → ListFits c list → Part s s [] 0 (request_stmt (words_of c) at kind session list)
    request_part CloneI2E session list stands fits is =
        part_clone_ingress (a.sees.declares.named (a_function (codes "clone_preserving_field_list")) refl) (a.sees.declares.named (an_enumeration clone_type) tt) (ap (are_allowed (2 ∷ [])) a.at ∙ stands) (index s ls b K a session fits) (omega arith) (marked_so c list is).1
    request_part CloneE2E session list stands fits is =
        part_clone_egress (a.sees.declares.named (a_function (codes "clone_preserving_field_list")) refl) (a.sees.declares.named (an_enumeration clone_type) tt) (ap (are_allowed (3 ∷ [])) a.at ∙ stands) (index s ls b K a session fits) (omega arith) (marked_so c list is).1
    request_part Resubmit session list stands fits is = part_resubmit (a.sees.declares.named (a_function (codes "resubmit_preserving_field_list")) refl) (ap (are_allowed (2 ∷ [])) a.at ∙ stands) (marked_so c list is).1
    request_part Recirculate session list stands fits is = part_recirculate (a.sees.declares.named (a_function (codes "recirculate_preserving_field_list")) refl) (ap (are_allowed (3 ∷ [])) a.at ∙ stands) (marked_so c list is).1

    module _ (i : ℕ) (is : IsStack c i) where
      has_stack : HasRoot c.layout (owner_of (shown_in c i))
      has_stack = subst (λ x. HasRoot c.layout (owner_of x)) (sym is.shown) is.root

      stack_at : (when : At) → HasAt c when → Sound s (instance_exp (words_of c) when (shown_in c i)) (stack (c.type_of i) (c.layout.size_of i)) (can_at c when (owner_of (shown_in c i))) 2
      stack_at when has = rekind (ap (λ x. instance_kind x (c.type_of i) (c.layout.size_of i)) is.shown) (sound_instance c s ls a.sees when has (shown_in c i) (c.type_of i) (c.layout.size_of i) has_stack (a.sees.declares.instance i is.within has_stack))

      stack_now : Sound s (instance_exp (words_of c) now (shown_in c i)) (stack (c.type_of i) (c.layout.size_of i)) true 2
      stack_now = writable (widths.writes (owner_of (shown_in c i)) has_stack) (stack_at now tt)

      element_now : (e : ℕ) → e < c.layout.size_of i → Sound s (part_exp (words_of c) now (record { instance = i; element = e })) (header (c.type_of i)) true 3
      element_now e lt = writable (widths.writes (owner_of (shown_in c i)) has_stack) (rekind (ap (λ x. element_kind x (c.type_of i)) is.shown) (sound_part c s ls a.sees now tt (record { instance = i; element = e }) (is.within, lt, has_stack)))

      copied_steps : (when : At) → HasAt c when → Steps s (stack_copied (words_of c) when i) s []
      copied_steps now has = (refl, refl)
      copied_steps entry has = one_step (part_stack stack_now (stack_at entry has) (omega arith) (omega arith))

      elements_steps : (e n : ℕ) → e + n ≤ c.layout.size_of i → Steps s (elements_set (words_of c) i e n) s []
      elements_steps e zero le = (refl, refl)
      elements_steps e (suc n) le = (s, [], [], nests_deeper 1 (omega arith) (part_set_valid (element_now e (omega (arith, le))) (omega arith)), elements_steps (suc e) n (omega (arith, le)), refl)

      stack_went : (ys : List Stmt16) → Steps s ys s [] → Went c positions s ls b (suc K) ys (OfRest K (suc K))
      stack_went ys steps = record { scope = s; locals = ls; names = []; steps = steps; around = after; declared = none_declared; keeps = λ l among. among }

      push_went : (n : ℕ) → n < 2 ^ 32 → Went c positions s ls b (suc K) (push_stmts (words_of c) at i n) (OfRest K (suc K))
      push_went n fits =
          stack_went _ (steps_behind s s s (stack_copied (words_of c) at i) _ [] [] (copied_steps at has)
          (s, [], [], nests_deeper 1 (omega arith) (part_push_sized stack_now (omega arith) fits), elements_steps 0 (min n (c.layout.size_of i)) (omega arith), refl))

      pop_went : (n : ℕ) → n < 2 ^ 32 → Went c positions s ls b (suc K) (pop_stmts (words_of c) at i n) (OfRest K (suc K))
      pop_went n fits = stack_went _ (steps_behind s s s (stack_copied (words_of c) at i) _ [] [] (copied_steps at has) (one_step (part_pop_sized stack_now (omega arith) fits)))

    meter_went : (object : ℕ) (i : Source) (t : Target) → IsObject c meter object → SourceFits c i → IsSlot c.layout t.slot → t.width ≡ width_in (words_of c) t.slot → Went c positions s ls b (suc K) (meter_stmts (words_of c) at K object i t) (OfRest K (suc K))
    meter_went object i t is fits slot same =
        let called = c.spare K 2 in
        let inner = around_more 8 called a (a.free.others K (omega arith)) (free_other c ls b K (bits 8) a.free) in
        let u = with_variable (Bit (plain 8)) called s in
        let ks = bits_local called 8 ∷ ls in
        let w : IsWidth t.width = subst IsWidth (sym same) (widths.slots t.slot slot) in
        record {
          scope = u;
          locals = ks;
          names = called ∷ [];
          steps = (
            u,
            called ∷ [],
            [],
            nests_deeper 1 (omega arith) (part_variable s 8 called (omega arith) (omega arith)),
            (
              u,
              [],
              [],
              nests_deeper 1 (omega arith) (part_execute (object_known u ks b (suc K) inner meter object is) (here u ks b (suc K) inner) (index u ks b (suc K) inner i fits) (sound_variable s 8 called) (omega arith) (omega arith)),
              one_step (put u ks b (suc K) inner t _ 2 (omega arith) slot same (sound_resized u (name called) 8 t.width 1 true w.0 w.1 (sound_variable s 8 called))),
              refl,
            ),
            refl,
          );
          around = inner;
          declared = one_declared K 2 (record { is = refl; from = omega arith; to = omega arith });
          keeps = λ l among. among_more (bits_local called 8) among;
        }

    pub rest_went : (p : Primitive) → PrimitiveFits c ds p → PrimitiveStands c positions p → PrimitiveKnown c ls K p → Went c positions s ls b (suc K) (rest (words_of c) at K p) (OfRest K (suc K))
    rest_went (write sums t term) fits stands known = plain_rest _ (written_part (drops t.slot term) refl) where
      written_part : (b : Bool) → drops t.slot term ≡ b → Part s s [] 0 (cond b (drop_stmt (words_of c)) (write_guarded (words_of c) at K sums t term))
      written_part true is = drop_part (subst (IsSlot c.layout) (drops_to t.slot term is) fits.0)
      written_part false is = (put s ls b K a t _ 9 (omega arith) fits.0 fits.1 (sound_write c s ls a.sees a.given widths at has ds K sums t term fits.0 fits.1 fits.2 fits.3 known))
    rest_went (add_header part) fits stands known = went_one after (add_part part fits at has)
    rest_went (remove_header part) fits stands known = plain_rest _ (part_set_invalid (header_now s ls b K a part fits) (omega arith))
    rest_went (copy_header to from) fits stands known = plain_rest _ (part_header (rekind (ap (λ t. header t) stands) (header_now s ls b K a to fits.0)) (header_at s ls b K a at has from fits.1) (omega arith) (omega arith))
    rest_went (count_cell object i) fits stands known = plain_rest _ (part_count (object_known s ls b K a counter object fits.0) (here s ls b K a) (index s ls b K a i fits.1) (omega arith))
    rest_went (write_cell object i value) fits stands known = plain_rest _ (part_write (object_known s ls b K a register object fits.0) (here s ls b K a) (index s ls b K a i fits.1) (source s ls b K a _ (widths.registers object fits.0) value fits.2) (omega arith) (omega arith))
    rest_went (execute_meter object i t) fits stands known = meter_went object i t fits.0 fits.1 fits.2 fits.3
    rest_went (ask kind session list) fits stands known = plain_rest _ (request_part kind session list stands fits.0 fits.1)
    rest_went (push i n) fits stands known = push_went i fits.0 n fits.1
    rest_went (pop i n) fits stands known = pop_went i fits.0 n fits.1
    rest_went nothing fits stands known = went_none after
