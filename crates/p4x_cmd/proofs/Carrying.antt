-- The written program carries the program that it was made from.
use Rattle.std.proofs.Common.{◌≡◌, ℕ, zero, suc, ◌+◌, ◌*◌, ◌/◌, ◌%◌, ◌^◌, ◌<◌, ◌≤◌, Bool, true, false, if◌then◌else◌, ◌==◌, nat_lt, List, [], ◌∷◌, ◌++◌, length, sum, drop, Option, Some, None, IfSome, slice_index_or, refl, sym, ◌∙◌, ap, subst, arith}
use Rattle.std.specs.List.{sum_by, All, AllZip}
use Rattle.std.proofs.lemmas.Bool.Decides.{nat_tests}
use Rattle.std.proofs.Math.Nat.{mod-eq_of_lt}
use Rattle.state_store.specs.Ports.{drop_port}
use Rattle.state_store.specs.State.{Contents}
use Rattle.p4x_bits.specs.BitLists.{octet_bits, IsOctets}
use Rattle.fabric.specs.declared.packets.Arrival.{Arrival}
use Rattle.fabric.specs.declared.packets.Sent.{Sent}
use Rattle.p414_one_table.specs.declared.program.OneTable14.{OneTable14}
use Rattle.p4x_cmd.specs.Headers.{numbers_in, bits_in, octets_in}
use Rattle.p4x_cmd.specs.Entries.{no_fill, fill_at}
use Rattle.match_core.specs.declared.entries.Entries.{Entries}
use Rattle.match_core.specs.declared.entries.DefaultCall.{DefaultCall}
use Rattle.match_core.specs.declared.entries.TableFill.{TableFill}
use Rattle.match_core.specs.declared.signatures.Signature.{Signature}
use Rattle.match_core.specs.Fits.{Fits, FitsFill, FitsCall}
use Rattle.match_core.specs.Stores.{first_store}
use Rattle.p4x_cmd.specs.Passes.{PassEnd, Pass, dropped, leaves, run_of, run_from, sent_from}
use Rattle.p4x_cmd.specs.internal.Plain.{plain_pass, IsSized}
use Rattle.p414_one_table.specs.Programs.{is_one_table}
use Rattle.one_table_text.specs.Programs.{program16}
use Rattle.p4x_cmd.specs.internal.Lowering.{lowered}
use Rattle.p4x_cmd.specs.Meaning14.{Run14, table14, signature14, pass14, widths14, State14, start14, extract14, after_parser14, after_ingress14, apply14}
use Rattle.p4x_cmd.specs.Meaning16.{Run16, signature16, pass16}
use Rattle.fabric.specs.Numbers.{IsArrival}
use Rattle.p4x_cmd.specs.Carries.{Carries, SameRuns}
use Rattle.p4x_cmd.proofs.HeaderLaws.{whole_again}
use Rattle.p4x_cmd.proofs.Pass16.{pass16_is, field_widths, TakesAction}
use Rattle.p4x_cmd.proofs.RunLaws.{sum_of_widths}
use Rattle.p4x_cmd.proofs.Sizes.{lowered_sized, lowered_sum, sum_of14}

-- The pass of the P4_14 program.

-- the state after the header was extracted
abbrev got : OneTable14 → Arrival → State14
got p a = record (start14 p a) {
  valid = true;
  numbers = numbers_in (widths14 p) (octet_bits a.octets);
  unparsed = drop (sum (widths14 p) / 8) a.octets;
}

extracted_short : (p : OneTable14) (a : Arrival) → nat_lt (8 * length a.octets) (sum (widths14 p)) ≡ true → extract14 p (start14 p a) ≡ None
extracted_short p a is = rw is refl

extracted_whole : (p : OneTable14) (a : Arrival) → nat_lt (8 * length a.octets) (sum (widths14 p)) ≡ false → extract14 p (start14 p a) ≡ Some (got p a)
extracted_whole p a is = rw is refl

abbrev sends : OneTable14 → Arrival → List ℕ → PassEnd
sends p a octets = if p.port == drop_port then dropped else leaves p.port octets

applied : (p : OneTable14) (a : Arrival) (o : Option DefaultCall) → TakesAction o → p.port % 2 ^ 9 ≡ p.port
    → after_ingress14 p (apply14 p o (got p a)) ≡ sends p a (octets_in (bits_in (widths14 p) (numbers_in (widths14 p) (octet_bits a.octets))) ++ drop (sum (widths14 p) / 8) a.octets)
applied p a None takes fits = rw fits refl
applied p a (Some call) takes fits = rw (takes, fits) refl

-- a pass and its end, by the two tests
abbrev pass_by : ℕ → List ℕ → Bool → Bool → Pass
pass_by port octets short drops =
    if short then record { end = dropped; work = 3 }
    else (if drops then record { end = dropped; work = 5 } else record { end = leaves port octets; work = 6 })

abbrev end_by : ℕ → List ℕ → Bool → Bool → PassEnd
end_by port octets short drops = if short then dropped else (if drops then dropped else leaves port octets)

ends_by : (port : ℕ) (octets : List ℕ) (short drops : Bool) → (pass_by port octets short drops).end ≡ end_by port octets short drops
ends_by port octets true drops = refl
ends_by port octets false true = refl
ends_by port octets false false = refl

pass14_end : (p : OneTable14) (e : Entries) (a : Arrival) → TakesAction (fill_at e 0).default → IsOctets a.octets → sum (widths14 p) % 8 ≡ 0 → p.port ≤ drop_port
    → (pass14 p e a).end ≡ (plain_pass (sum (widths14 p)) p.port a).end
pass14_end p e a takes octets even fits = by_size (nat_lt (8 * length a.octets) (sum (widths14 p))) refl
  where
    plain : (short : Bool) → nat_lt (8 * length a.octets) (sum (widths14 p)) ≡ short → end_by p.port a.octets short (p.port == drop_port) ≡ (plain_pass (sum (widths14 p)) p.port a).end
    plain short is = sym (ap (λ (b : Bool). end_by p.port a.octets b (p.port == drop_port)) is) ∙ sym (ends_by p.port a.octets (nat_lt (8 * length a.octets) (sum (widths14 p))) (p.port == drop_port))

    by_size : (short : Bool) → nat_lt (8 * length a.octets) (sum (widths14 p)) ≡ short → (pass14 p e a).end ≡ (plain_pass (sum (widths14 p)) p.port a).end
    by_size true is = ap (after_parser14 p e) (extracted_short p a is) ∙ plain true is
    by_size false is =
        let enough : sum (widths14 p) ≤ 8 * length a.octets = grind (arith, nat_tests) in
        ap (after_parser14 p e) (extracted_whole p a is)
        ∙ applied p a (fill_at e 0).default takes (mod-eq_of_lt (omega arith))
        ∙ ap (sends p a) (whole_again (widths14 p) a.octets octets even enough)
        ∙ plain false is

-- Runs whose passes end alike.

same_from : (f g : Arrival → Pass) (bound : ℕ) (store : Contents) (number : ℕ) (arrivals : List Arrival) → 1 ≤ bound
    → ((a : Arrival) → IsArrival a → (f a).end ≡ (g a).end) → All IsArrival arrivals
    → SameRuns (run_from f bound store number arrivals) (run_from g bound store number arrivals)
same_from f g zero store number arrivals some alike all = absurd (omega arith)
same_from f g (suc bound) store number [] some alike all = record { sent = refl; store = refl; cut = refl }
same_from f g (suc bound) store number (a ∷ arrivals) some alike all =
    let rest = same_from f g (suc bound) store (number + 1) arrivals some alike (λ k d inside. all (suc k) d (omega arith)) in
    let here = alike a (all 0 a (omega arith)) in
    record {
      sent = ap (λ (x : PassEnd). sent_from number x ++ (run_from f (suc bound) store (number + 1) arrivals).sent) here ∙ ap (λ (l : List Sent). sent_from number (g a).end ++ l) rest.sent;
      store = rest.store;
      cut = ap (λ (n : ℕ). 0 + n) rest.cut;
    }

-- entries that fit give the table its one action
takes_fit : (p : OneTable14) (fills : List TableFill) → AllZip FitsFill (signature14 p).tables fills
    → TakesAction (slice_index_or fills 0 no_fill).default
takes_fit p [] fits = absurd fits
takes_fit p (fill ∷ fills) fits = by_default fill.default fits.0.call
  where
    by_default : (found : Option DefaultCall) → IfSome found (λ call. FitsCall (table14 p) call.action call.arguments) → TakesAction found
    by_default None fit = tt
    by_default (Some call) fit = let listed : call.action < 1 = fit.listed in omega arith

same_signature : (p : OneTable14) → signature14 p ≡ signature16 (program16 (lowered p))
unfolding program16
same_signature p = refl

pub carries_is : (p : OneTable14) → is_one_table p ≡ true → Carries p (program16 (lowered p))
unfolding Run14 Run16
carries_is p form = record {
  signatures = same_signature p;
  runs = λ e bound arrivals fits bounds all.
      subst (λ (g : Signature). SameRuns (Run14 p e bound arrivals) (run_of (pass16 (program16 (lowered p)) e) bound (first_store g e) arrivals)) (same_signature p)
      (same_from (pass14 p e) (pass16 (program16 (lowered p)) e) bound (first_store (signature14 p) e) 0 arrivals bounds.0 (alike e fits) all);
}
  where
    sized : IsSized (lowered p)
    sized = lowered_sized p form

    bits16 : sum (field_widths (lowered p)) ≡ sum_by (λ f. f.width) (lowered p).fields
    bits16 = sum_of_widths (lowered p).fields

    same_bits : sum (widths14 p) ≡ sum (field_widths (lowered p))
    same_bits = sum_of14 p.fields ∙ sym (lowered_sum p.fields) ∙ sym bits16

    alike : (e : Entries) → Fits e (signature14 p) → (a : Arrival) → IsArrival a → (pass14 p e a).end ≡ (pass16 (program16 (lowered p)) e a).end
    alike e fits a is =
        let takes : TakesAction (fill_at e 0).default = takes_fit p e.tables fits.tables in
        let even : sum (field_widths (lowered p)) % 8 ≡ 0 = ap (λ (n : ℕ). n % 8) bits16 ∙ sized.even in
        pass14_end p e a takes is.octets (ap (λ (n : ℕ). n % 8) same_bits ∙ even) sized.port
        ∙ ap (λ (n : ℕ). (plain_pass n p.port a).end) same_bits
        ∙ sym (ap (λ (x : Pass). x.end) (pass16_is (lowered p) e a takes is.octets even))
