-- A number that is written to a field, under both rules: under the parallel one where the field's header was valid at the entry.
use Rattle.std.proofs.Common.{◌≡◌, ℕ, ◌<◌, ◌^◌, Bool, true, false, cond, List, [], ◌∷◌, refl, sym, ap, ◌∙◌, subst}
use Rattle.p414_sem.specs.Slots.{Slot, standard, declared}
use Rattle.p414_sem.specs.State.{is_live, instance_at}
use Rattle.p414_sem.specs.Effects.{Moment as Moment14, put_field, all_fallen}
use Rattle.p416_syntax.specs.Tree.{Exp16, Stmt16, assign, if_then}
use Rattle.p416_syntax.specs.Kinds.{boolean}
use Rattle.p416_syntax.specs.Scopes.{Scope}
use Rattle.v1_core.specs.Values.{Value, a_number, a_truth}
use Rattle.v1_core.specs.Frames.{Moment, ticked}
use Rattle.v1_core.specs.Statements.{no_label, run}
use Rattle.agreement_of_meanings.specs.Shown.{Shown, as_header, as_stack, as_metadata, is_metadata, element}
use Rattle.agreement_of_meanings.specs.Agrees.{IsElement}
use Rattle.lower_laws_base.specs.Context.{Local, shown_in, instances_of, Lowering, words_of, At, now, entry, Aside, Stands, Reads, Looks, Sees, IsPart, IsSlot}
use Rattle.lower_laws_base.specs.Mirror.{element_exp, slot_exp, width_in, valid_exp, guarded_part, guarded}
use Rattle.lower_laws_base.proofs.States.{stands_ticked, stands_at}
use Rattle.lower_laws_base.proofs.Writes.{worked, leaves_slot, field_put, write_falls, falls_by, slot_assigned, assigned_stands, branches, header_shows}
use Rattle.lower_laws_base.proofs.Running.{Done}
use Rattle.lower_laws_base.specs.Gives.{Gives, Shows}

module _ (c : Lowering) (s : Scope) (ls : List Local) (vs : List Value) (arguments : List ℕ) (k : Aside) (r m : Moment14) (n : Moment) (stands : Stands c.layout ls vs k m n) (slot : Slot) (width j : ℕ) (e : Exp16) (is : IsSlot c.layout slot) (same : width ≡ width_in (words_of c) slot) (fits : j < 2 ^ width) (gives : (i : ℕ) → Gives c.world s (worked n i) e width j) where
  abbrev put : Stmt16
  put = assign (slot_exp (words_of c) now slot) e

  abbrev effects : Bool → Moment14
  effects live = all_fallen m (cond live (put_field slot j ∷ []) [])

  -- the assignment by itself
  pub put_done : Sees c s ls → (q : Moment) → Stands c.layout ls vs k m q → Gives c.world s (ticked q) e width j → Done c s ls vs k put (field_put m slot j) q
  put_done sees q there g = record {
    stands = assigned_stands c s ls sees vs k m q there slot width j e is same fits g;
    variables = ap (λ (z : Moment). z.frame.variables) (slot_assigned c s ls sees vs k m q there slot width j e is g) ∙ (leaves_slot (instances_of c) slot (a_number width j) q.frame).variables;
  }

  -- within the test of a header
  tested_done : Looks c s ls vs arguments entry r.state n.frame → (e2 : Exp16) (live : Bool) → Shows c.world s (ticked n) e2 boolean (a_truth live) → Done c s ls vs k (if_then e2 put) (effects live) n
  tested_done looks e2 live shows =
      let began = stands_ticked c.layout ls vs k m n stands in
      let inside = put_done looks.sees (ticked n) began (gives _) in
      let done = branches c s ls vs k m (field_put m slot j) n stands e2 live put shows inside.stands in
      record {
        stands = stands_at c.layout ls vs k _ _ _ _ (falls_by m slot j live) done (by live inside.stands began);
        variables = ap (λ (z : Moment). z.frame.variables) done ∙ left live inside.variables;
      }
    where
      by : (b : Bool) → Stands c.layout ls vs k (field_put m slot j) (run c.world s no_label put (ticked n)) → Stands c.layout ls vs k m (ticked n) → Stands c.layout ls vs k (cond b (field_put m slot j) m) (cond b (run c.world s no_label put (ticked n)) (ticked n))
      by true a b = a
      by false a b = b

      left : (b : Bool) → (run c.world s no_label put (ticked n)).frame.variables ≡ n.frame.variables → (cond b (run c.world s no_label put (ticked n)) (ticked n)).frame.variables ≡ n.frame.variables
      left true a = a
      left false a = refl

  at_once : Sees c s ls → (live : Bool) → live ≡ true → Done c s ls vs k put (effects live) n
  at_once sees live always = subst (λ b. Done c s ls vs k put (effects b) n) (sym always) (put_done sees n stands (gives _))

  of_part : (x : Shown) (i f : ℕ) → shown_in c i ≡ x → (part : IsPart c.layout (record { instance = i; element = f })) → Looks c s ls vs arguments entry r.state n.frame → Done c s ls vs k (guarded_part (words_of c) entry x f put) (effects (element (instance_at r.state i) f).valid) n
  of_part (as_header called fields) i f shown part looks =
      tested_done looks (valid_exp (element_exp (words_of c) entry (as_header called fields) f)) (element (instance_at r.state i) f).valid
      (subst (λ x. is_metadata x ≡ false → Shows c.world s (ticked n) (valid_exp (element_exp (words_of c) entry x f)) boolean (a_truth (element (instance_at r.state i) f).valid)) shown
      (λ plainly. header_shows c s ls vs arguments entry r.state (ticked n) looks (record { instance = i; element = f }) (part, plainly)) refl)
  of_part (as_stack called fields) i f shown part looks =
      tested_done looks (valid_exp (element_exp (words_of c) entry (as_stack called fields) f)) (element (instance_at r.state i) f).valid
      (subst (λ x. is_metadata x ≡ false → Shows c.world s (ticked n) (valid_exp (element_exp (words_of c) entry x f)) boolean (a_truth (element (instance_at r.state i) f).valid)) shown
      (λ plainly. header_shows c s ls vs arguments entry r.state (ticked n) looks (record { instance = i; element = f }) (part, plainly)) refl)
  of_part (as_metadata called fields) i f shown part looks =
      at_once looks.sees (element (instance_at r.state i) f).valid
      (subst (λ x. IsElement x (instance_at r.state i) f) shown (looks.seen.shaped.each i f part.0 part.1).which).1

  abbrev now_does : Stmt16 → Type 0
  now_does y = Done c s ls vs k y (effects (is_live r.state slot)) n

  put_now : Sees c s ls → r ≡ m → now_does put
  put_now sees reads =
      let there = put_done sees n stands (gives _) in
      let same_state : effects (is_live r.state slot) ≡ field_put m slot j = ap (λ (z : Moment14). effects (is_live z.state slot)) reads ∙ write_falls m slot j in
      record { stands = stands_at c.layout ls vs k _ _ _ _ same_state refl there.stands; variables = there.variables }

-- Write(d, e)
pub write_done : (c : Lowering) (s : Scope) (ls : List Local) (vs : List Value) (arguments : List ℕ) (k : Aside) (at : At) (r m : Moment14) (n : Moment) → Stands c.layout ls vs k m n → Reads c at r m n.frame → Looks c s ls vs arguments at r.state n.frame → (slot : Slot) (width j : ℕ) (e : Exp16) → IsSlot c.layout slot → width ≡ width_in (words_of c) slot → j < 2 ^ width → ((i : ℕ) → Gives c.world s (worked n i) e width j) → Done c s ls vs k (guarded (words_of c) at slot (assign (slot_exp (words_of c) now slot) e)) (all_fallen m (cond (is_live r.state slot) (put_field slot j ∷ []) [])) n
write_done c s ls vs arguments k now r m n stands reads looks (standard which) width j e is same fits gives =
    put_now c s ls vs arguments k r m n stands (standard which) width j e is same fits gives looks.sees reads
write_done c s ls vs arguments k now r m n stands reads looks (declared i f d) width j e is same fits gives =
    put_now c s ls vs arguments k r m n stands (declared i f d) width j e is same fits gives looks.sees reads
write_done c s ls vs arguments k entry r m n stands reads looks (standard which) width j e is same fits gives =
    at_once c s ls vs arguments k r m n stands (standard which) width j e is same fits gives looks.sees true refl
write_done c s ls vs arguments k entry r m n stands reads looks (declared i f d) width j e is same fits gives =
    of_part c s ls vs arguments k r m n stands (declared i f d) width j e is same fits gives (shown_in c i) i f refl (is.0, is.1, is.2) looks
