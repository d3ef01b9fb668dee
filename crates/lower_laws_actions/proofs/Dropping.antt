-- A write to a field as it is written: 511 that goes to `egress_spec` as it is drops the packet.
use Rattle.std.proofs.Common.{◌≡◌, ℕ, Bool, true, false, cond, List, [], ◌∷◌, refl, sym, ap, ◌∙◌, subst}
use Rattle.std.specs.Prelude.{pos, negsuc}
use Rattle.std.proofs.lemmas.Bool.{eqb-true}
use Rattle.state_store.specs.Ports.{drop_port}
use Rattle.p414_syntax.specs.declared.syntax.Decl.{Decl}
use Rattle.p414_sem.specs.declared.standard.Standard.TheVariants.{IngressPort, EgressSpec, EgressPort, PacketLength, InstanceType}
use Rattle.p414_sem.specs.Wholes.{wrapped, kept}
use Rattle.p414_sem.specs.Slots.{Slot, standard, declared, Target}
use Rattle.p414_sem.specs.State.{is_live}
use Rattle.p414_sem.specs.Operations.{number, field, parameter, Term, just, on_mask, sum, difference, conjunction, disjunction, exclusive, left_shift, right_shift, cell, hashed, write}
use Rattle.p414_sem.specs.Effects.{Moment as Moment14, put_field, term_number, effects, all_fallen}
use Rattle.p416_syntax.specs.Scopes.{Scope}
use Rattle.p416_syntax.specs.Statements.{behind}
use Rattle.v1_core.specs.Values.{Value}
use Rattle.v1_core.specs.Frames.{Moment}
use Rattle.lower_laws_base.specs.Context.{Local, Lowering, Words, words_of, At, now, IsSlot, Aside}
use Rattle.lower_laws_base.specs.Mirror.{drop_stmt, slot_exp, width_in}
use Rattle.lower_laws_base.proofs.Writes.{field_put}
use Rattle.lower_laws_base.proofs.Running.{Done}
use Rattle.lower_laws_actions.specs.Mirror.{drops, write_guarded, write_stmt, write_exp}
use Rattle.lower_laws_actions.specs.Fits.{KeptFits, PrimitiveFits}
use Rattle.lower_laws_actions.proofs.Fronts.{HoldsFront}
use Rattle.lower_laws_actions.proofs.Statements.{Ready, guarded_stays, write_statement}
use Rattle.lower_laws_actions.proofs.Requests.{drop_done}

drops_so : (term : Term) → drops (standard EgressSpec) term ≡ true → term ≡ just (number (pos drop_port))
drops_so (just (number (pos n))) is = ap (λ k. just (number (pos k))) (eqb-true n drop_port is)
drops_so (just (number (negsuc n))) is = absurd (cc is)
drops_so (just (field slot)) is = absurd (cc is)
drops_so (just (parameter j)) is = absurd (cc is)
drops_so (on_mask a b) is = absurd (cc is)
drops_so (sum a b) is = absurd (cc is)
drops_so (difference a b) is = absurd (cc is)
drops_so (conjunction a b) is = absurd (cc is)
drops_so (disjunction a b) is = absurd (cc is)
drops_so (exclusive a b) is = absurd (cc is)
drops_so (left_shift a b) is = absurd (cc is)
drops_so (right_shift a b) is = absurd (cc is)
drops_so (cell object i) is = absurd (cc is)
drops_so (hashed a x b) is = absurd (cc is)

pub drops_to : (slot : Slot) (term : Term) → drops slot term ≡ true → slot ≡ standard EgressSpec
drops_to (standard EgressSpec) term is = refl
drops_to (standard IngressPort) term is = absurd (cc is)
drops_to (standard EgressPort) term is = absurd (cc is)
drops_to (standard PacketLength) term is = absurd (cc is)
drops_to (standard InstanceType) term is = absurd (cc is)
drops_to (declared i e k) term is = absurd (cc is)

pub write_stays : (w : Words) (at : At) (s : Scope) (K : ℕ) (sums : Bool) (t : Target) (term : Term) → behind (write_stmt w at K sums t term) s ≡ s
write_stays w at s K sums t term = by (drops t.slot term) where
  by : (b : Bool) → behind (cond b (drop_stmt w) (write_guarded w at K sums t term)) s ≡ s
  by true = refl
  by false = guarded_stays w at s t.slot (slot_exp w now t.slot) (write_exp w at K sums t term)

module _ (c : Lowering) (s : Scope) (ls : List Local) (vs : List Value) (arguments : List ℕ) (k : Aside) (at : At) (r m : Moment14) (n : Moment) (ready : Ready c s ls vs arguments k at r m n) (ds : List Decl) where
  -- what falls where 511 goes to a slot
  abbrev fallen : Slot → Term → Bool → ℕ → Moment14
  fallen slot term b width = all_fallen m (cond (is_live r.state slot) (put_field slot (kept b width (term_number ds arguments r slot term)) ∷ []) [])

  falls : (b : Bool) (width : ℕ) → width ≡ 9 → KeptFits b (just (number (pos drop_port))) → fallen (standard EgressSpec) (just (number (pos drop_port))) b width ≡ field_put m (standard EgressSpec) drop_port
  falls true width same tiny = absurd tiny
  falls false width same tiny = ap (λ w. field_put m (standard EgressSpec) (wrapped w (pos drop_port))) same

  dropped : (slot : Slot) (term : Term) → drops slot term ≡ true → (b : Bool) (width : ℕ) → IsSlot c.layout slot → width ≡ width_in (words_of c) slot → KeptFits b term → Done c s ls vs k (drop_stmt (words_of c)) (fallen slot term b width) n
  dropped slot term is b width its same tiny =
      let to = drops_to slot term is in
      let what = drops_so term (subst (λ z. drops z term ≡ true) to is) in
      subst (λ z. Done c s ls vs k (drop_stmt (words_of c)) z n)
      (sym (ap (λ z. fallen z term b width) to ∙ ap (λ z. fallen (standard EgressSpec) z b width) what
      ∙ falls b width (subst (λ z. width ≡ width_in (words_of c) z) to same) (subst (KeptFits b) what tiny)))
      (drop_done c s ls vs arguments k at r m n ready (subst (IsSlot c.layout) to its))

  pub written_statement : (K : ℕ) (sums : Bool) (t : Target) (term : Term) → PrimitiveFits c ds (write sums t term) → HoldsFront c ds r arguments K (write sums t term) ls vs → Done c s ls vs k (write_stmt (words_of c) at K sums t term) (all_fallen m (effects ds arguments r (write sums t term))) n
  written_statement K sums t term fits holds = by (drops t.slot term) refl where
    by : (b : Bool) → drops t.slot term ≡ b → Done c s ls vs k (cond b (drop_stmt (words_of c)) (write_guarded (words_of c) at K sums t term)) (all_fallen m (effects ds arguments r (write sums t term))) n
    by true is = dropped t.slot term is _ t.width fits.0 fits.1 fits.3
    by false is = write_statement c s ls vs arguments k at r m n ready ds K sums t term fits holds
