-- `set_metadata`, and what an assignment to a field leaves alone.
use Rattle.lower_laws_base.specs.Context.{Lowering, words_of, now, instances_of, IsSlot}
use Rattle.lower_laws_base.specs.Mirror.{slot_exp, width_in}
use Rattle.lower_laws_base.proofs.Means.{Means, means_slot}
use Rattle.lower_laws_base.proofs.Shapes.{HasIt, place_written}
use Rattle.lower_laws_base.proofs.Writes.{slot_assigned, assigned_stands}
use Rattle.lower_laws_parser.specs.Words.{ParserWords, value_exp}
use Rattle.lower_laws_parser.specs.Parsing.{Origin, with_store, SameRequests, Going, ValueFits, IsLatest, IsLatestElement, parser_words, Parses, ProgressStands}
use Rattle.lower_laws_parser.proofs.Kept.{requests_then}
use Rattle.lower_laws_parser.proofs.Extracts.{going_ticked}
use Rattle.lower_laws_parser.proofs.Yields.{too_short, Yields}
use Rattle.lower_laws_parser.proofs.Values.{yields_value}
use Rattle.std.proofs.Common.{◌≡◌, ℕ, ◌<◌, ◌^◌, cond, Option, Some, None, List, [], ◌∷◌, refl, sym, ap, ◌∙◌, subst}
use Rattle.std.specs.Prelude.{ℤ, is_some, option_map}
use Rattle.p414_syntax.specs.declared.parts.Index.{Index}
use Rattle.p414_syntax.specs.declared.parts.Index.TheVariants.{At, Next, Last}
use Rattle.p414_syntax.specs.declared.parts.Inst.{Inst}
use Rattle.p414_syntax.specs.declared.parts.Ref.{Ref}
use Rattle.p414_syntax.specs.declared.parsers.PValue.{PValue}
use Rattle.p414_syntax.specs.declared.syntax.Decl.{Decl}
use Rattle.p414_syntax.specs.Names.{Name}
use Rattle.p414_syntax.specs.ParserGraph.{instance_number}
use Rattle.p414_sem.specs.Wholes.{wrapped}
use Rattle.p414_sem.specs.Slots.{Slot, standard, declared, slot_of, bits_of_ref}
use Rattle.p414_sem.specs.State.{State, written}
use Rattle.p414_sem.specs.Parsing.{Latest, parser_value, set as set14}
use Rattle.p416_syntax.specs.Tree.{Exp16, assign}
use Rattle.p416_syntax.specs.Kinds.{Kind, bits}
use Rattle.p416_syntax.specs.Scopes.{Scope}
use Rattle.p416_syntax.specs.Statements.{assigned_place}
use Rattle.p416_syntax.specs.Expressions.{kind_of}
use Rattle.v1_core.specs.Values.{Value, a_number}
use Rattle.v1_core.specs.Frames.{Frame, Moment, Reference, ticked, going_on, put_at, write}
use Rattle.v1_core.specs.Surroundings.{World}
use Rattle.v1_core.specs.Expressions.{value_of, Referred}
use Rattle.v1_core.specs.Statements.{assigned, no_label, run}
use Rattle.agreement_of_meanings.specs.Shown.{Shown, as_header, as_stack, as_metadata, shown_at, slot_reference}
use Rattle.agreement_of_meanings.specs.Agrees.{NewNames}
use Rattle.lower_laws_base.specs.Gives.{Gives}

-- a write to a slot asks for nothing

slot_asks : (names : NewNames) (f : Frame) (slot : Slot) (v : Value) → SameRequests f (write (slot_reference names.instances slot) v f)
slot_asks names f (standard which) v = record { clone_i2e = refl; clone_e2e = refl; resubmit = refl; recirculate = refl; events = refl }
slot_asks names f (declared i e k) v = by (shown_at names.instances i) where
  by : (x : Shown) → SameRequests f (write (slot_reference (x ∷ []) (declared 0 e k)) v f)
  by (as_header called fields) = record { clone_i2e = refl; clone_e2e = refl; resubmit = refl; recirculate = refl; events = refl }
  by (as_stack called fields) = record { clone_i2e = refl; clone_e2e = refl; resubmit = refl; recirculate = refl; events = refl }
  by (as_metadata called fields) = record { clone_i2e = refl; clone_e2e = refl; resubmit = refl; recirculate = refl; events = refl }

-- what was extracted last stays

element_stays : (c : Lowering) (s : State) (slot : Slot) (n k : ℕ) (ix : Option Index) (element : ℕ) → HasIt s slot → IsLatestElement c s k ix element → IsLatestElement c (written s slot n) k ix element
element_stays c s slot n k None element has is = is
element_stays c s slot n k (Some (At j)) element has is = is
element_stays c s slot n k (Some Last) element has is = is
element_stays c s slot n k (Some Next) element has is = (place_written s slot n k has ∙ is.0, is.1)

latest_stays : (c : Lowering) (ds : List Decl) (s : State) (slot : Slot) (n : ℕ) (last : Option Inst) (latest : Option Latest) → HasIt s slot → IsLatest c ds s last latest → IsLatest c ds (written s slot n) last latest
latest_stays c ds s slot n None None has is = is
latest_stays c ds s slot n None (Some l) has is = absurd is
latest_stays c ds s slot n (Some i) None has is = absurd is
latest_stays c ds s slot n (Some i) (Some l) has is = (is.0, element_stays c s slot n (instance_number ds i.name) i.index l.element has is.1)

-- the statement

-- an assignment of a value that isn't there
assigns_none : (w : World) (s : Scope) (to e : Exp16) (k : Kind) (r : Reference) (n : Moment) → n.stopped ≡ None → Means w s to k r (ticked n) → ((q : _) → (value_of w s q e (ticked n)).moment ≡ too_short (ticked n)) → run w s no_label (assign to e) n ≡ too_short (ticked n)
assigns_none w s to e k r n runs m short =
    ap (λ b. cond b n (assigned w s to e (ticked n))) (ap is_some runs)
    ∙ ap (λ (x : Referred). let y = value_of w s (assigned_place (kind_of s to)) e x.moment in going_on (put_at x.reference y.value) y.moment) m.reference
    ∙ ap (λ (y : Moment). going_on (put_at r (value_of w s (assigned_place (kind_of s to)) e (ticked n)).value) y) (short _)

module _ (c : Lowering) (ds : List Decl) (packet : Name) (state : Name → Name) (s : Scope) (parses : Parses c ds packet s) (o : Origin) (t : State) (n : Moment) (going : Going c o t n) where
  abbrev p : ParserWords
  p = parser_words c packet state

  -- an assignment of a number that fits leaves both going on
  pub number_set : (slot : Slot) (width k : ℕ) (e : Exp16) → IsSlot c.layout slot → width ≡ width_in (words_of c) slot → k < 2 ^ width → Gives c.world s (ticked n) e width k → Going c o (written t slot k) (run c.world s no_label (assign (slot_exp (words_of c) now slot) e) n)
  number_set slot width k e is same fits gives =
      let m = with_store t o.store in
      let done = slot_assigned c s [] parses.sees [] o.aside m n going.stands slot width k e is gives in
      record {
        stands = assigned_stands c s [] parses.sees [] o.aside m n going.stands slot width k e is same fits gives;
        requests = subst (λ (z : Moment). SameRequests o.frame z.frame) (sym done) (requests_then o.frame n.frame (put_at (slot_reference (instances_of c) slot) (a_number width k) (ticked n)).frame going.requests (slot_asks c.layout.names n.frame slot (a_number width k)));
      }

  has_it : (slot : Slot) → IsSlot c.layout slot → HasIt t slot
  has_it (standard which) is = tt
  has_it (declared i e k) is = subst (λ z. i < z) (sym going.stands.shaped.count) is.0

  pub set_does : (last : Option Inst) (latest : Option Latest) → IsLatest c ds t last latest → (r : Ref) (v : PValue) → IsSlot c.layout (slot_of ds r) → bits_of_ref ds r ≡ width_in (words_of c) (slot_of ds r) → ValueFits c ds last v → ProgressStands c ds o last (set14 ds r latest t (parser_value ds latest t v)) (run c.world s no_label (assign (slot_exp (words_of c) now (slot_of ds r)) (value_exp ds p last (bits_of_ref ds r) v)) n)
  set_does last latest is r v slot same fits =
      by (parser_value ds latest t v) (yields_value c ds packet state s parses o t (ticked n) (going_ticked c o t n going) last latest is (bits_of_ref ds r) v fits)
    where
      e : Exp16
      e = value_exp ds p last (bits_of_ref ds r) v

      by : (z : Option ℤ) → Yields c.world s (ticked n) e (bits_of_ref ds r) (option_map (wrapped (bits_of_ref ds r)) z) → ProgressStands c ds o last (set14 ds r latest t z) (run c.world s no_label (assign (slot_exp (words_of c) now (slot_of ds r)) e) n)
      by (Some z) yields = (
        number_set (slot_of ds r) (bits_of_ref ds r) (wrapped (bits_of_ref ds r) z) e slot same yields.value.1 (record { kind = yields.kind; value = yields.value.0 }),
        latest_stays c ds t (slot_of ds r) (wrapped (bits_of_ref ds r) z) last latest (has_it (slot_of ds r) slot) is,
      )
      by None yields = (
        refl,
        record {
          moment = ticked n;
          going = going_ticked c o t n going;
          is = assigns_none c.world s (slot_exp (words_of c) now (slot_of ds r)) e (bits (width_in (words_of c) (slot_of ds r))) (slot_reference c.layout.names.instances (slot_of ds r)) n going.stands.both.packet.runs (means_slot c s [] parses.sees [] (ticked n) going.stands.inner now tt (slot_of ds r) slot) yields.value;
        },
      )
