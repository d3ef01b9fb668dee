-- Runs over lists of arrivals, one packet after another.
use Rattle.std.proofs.Common.{◌≡◌, ℕ, zero, suc, ◌+◌, ◌%◌, List, [], ◌∷◌, map, sum, refl, sym, ◌∙◌, ap, arith}
use Rattle.std.proofs.lemmas.List.Sums.{sum_by-cons}
use Rattle.std.specs.List.{sum_by}
use Rattle.state_store.specs.State.{Contents}
use Rattle.p4x_bits.specs.BitLists.{IsOctets}
use Rattle.fabric.specs.declared.packets.Arrival.{Arrival}
use Rattle.p414_one_table.specs.declared.program.Field.{Field}
use Rattle.one_table_text.specs.declared.one_table.OneTable16.{OneTable16}
use Rattle.one_table_text.specs.Programs.{program16, bit_field}
use Rattle.p4x_cmd.specs.Entries.{no_entries, fill_at}
use Rattle.run_stream.specs.Runs.{Ran, followed}
use Rattle.run_stream.specs.Runs as running
use Rattle.fabric.specs.declared.packets.Sent.{Sent}
use Rattle.p4x_cmd.specs.Passes.{PassEnd, dropped, leaves, Pass, run_from, sent_from}
use Rattle.p4x_cmd.specs.Meaning16.{Run16, signature16}
use Rattle.p4x_cmd.specs.internal.Plain.{plain_pass, no_store, own_pass, own_outcome, outs_of, IsSized}
use Rattle.fabric.specs.Numbers.{IsBound}
use Rattle.p4x_cmd.specs.Runs.{this_run}
use Rattle.p4x_cmd.proofs.Pass16.{pass16_is, no_default, TakesAction}

-- one more packet
abbrev pub once : (Arrival → Pass) → ℕ → Arrival → Ran Contents
once f number a = record { sent = sent_from number (f a).end; store = no_store; cut = 0; work = (f a).work }

pub sum_of_widths : (fields : List Field) → sum (map (λ x. x.width.value) (map bit_field fields)) ≡ sum_by (λ f. f.width) fields
sum_of_widths [] = refl
sum_of_widths (f ∷ fields) =
    sum_by-cons (λ x. x) f.width (map (λ x. x.width.value) (map bit_field fields)) ∙ ap (λ (n : ℕ). f.width + n) (sum_of_widths fields) ∙ sym (sum_by-cons (λ x. x.width) f fields)

takes_none : (q : OneTable16) → TakesAction (fill_at (no_entries (signature16 (program16 q))) 0).default
takes_none q = rw (no_default q) tt

pub own_pass_is : (q : OneTable16) (a : Arrival) → IsSized q → IsOctets a.octets → own_pass q a ≡ plain_pass (sum_by (λ f. f.width) q.fields) q.port a
unfolding own_pass
own_pass_is q a sized octets =
    pass16_is q (no_entries (signature16 (program16 q))) a (takes_none q) octets (ap (λ (n : ℕ). n % 8) (sum_of_widths q.fields) ∙ sized.even)
    ∙ ap (λ (n : ℕ). plain_pass n q.port a) (sum_of_widths q.fields)

sent_is : (number : ℕ) (end : PassEnd) → sent_from number end ≡ map (running.numbered number) (outs_of end)
sent_is number dropped = refl
sent_is number (leaves port octets) = refl

-- under a bound of one pass at least a packet makes its pass
run_by : (q : OneTable16) (bound number : ℕ) (arrivals : List Arrival) → run_from (own_pass q) (suc bound) no_store number arrivals ≡ running.run_from (own_outcome q) number no_store arrivals
run_by q bound number [] = refl
run_by q bound number (a ∷ arrivals) =
    ap (λ (r : Ran Contents). followed (once (own_pass q) number a) r) (run_by q bound (number + 1) arrivals)
    ∙ ap (λ (l : List Sent). let one : Ran Contents = record { sent = l; store = no_store; cut = 0; work = (own_pass q a).work } in followed one (running.run_from (own_outcome q) (number + 1) no_store arrivals))
    (sent_is number (own_pass q a).end)

-- the run of the program is the run of its pass, under each bound
run_is : (q : OneTable16) (bound : ℕ) (arrivals : List Arrival) → this_run (program16 q) bound arrivals ≡ run_from (own_pass q) bound no_store 0 arrivals
unfolding Run16 own_pass
run_is q bound arrivals = refl

-- and that of the runner
pub run_of_is : (q : OneTable16) (bound : ℕ) → IsBound bound → (arrivals : List Arrival) → running.run_of (own_outcome q) no_store arrivals ≡ this_run (program16 q) bound arrivals
run_of_is q zero some arrivals = absurd (omega (arith, some.0))
run_of_is q (suc bound) some arrivals = sym (run_is q (suc bound) arrivals ∙ run_by q bound 0 arrivals)
