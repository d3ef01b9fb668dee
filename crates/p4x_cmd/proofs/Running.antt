-- What the code of the runner gives is what a pass of the program gives.
use Rattle.std.proofs.Common.{◌≡◌, ℕ, List, Option, sym, ◌∙◌, ap}
use Rattle.std.specs.List.{sum_by}
use Rattle.fabric.specs.Numbers.{IsArrival}
use Rattle.fabric.specs.declared.packets.Arrival.{Arrival}
use Rattle.fabric.specs.declared.packets.Out.{Out}
use Rattle.one_table_text.specs.declared.one_table.OneTable16.{OneTable16}
use Rattle.p4x_cmd.specs.Passes.{Pass}
use Rattle.p4x_cmd.specs.internal.Plain.{plain_pass, own_pass, outs_of, end_of, IsSized}
use Rattle.p4x_cmd.proofs.RunLaws.{own_pass_is}

module _ (q : OneTable16) (bits : ℕ) (a : Arrival) (sized : IsSized q) (bits_are : bits ≡ sum_by (λ f. f.width) q.fields) (fits : IsArrival a) where
  same : own_pass q a ≡ plain_pass bits q.port a
  same = own_pass_is q a sized fits.octets ∙ ap (λ (n : ℕ). plain_pass n q.port a) (sym bits_are)

  pub work_is : (work : ℕ) → (plain_pass bits q.port a).work ≡ work → (own_pass q a).work ≡ work
  work_is work is = ap (λ (p : Pass). p.work) same ∙ is

  pub outs_are : (port : Option ℕ) (outs : List Out) → (plain_pass bits q.port a).end ≡ end_of port a.octets → outs ≡ outs_of (end_of port a.octets) → outs ≡ outs_of (own_pass q a).end
  outs_are port outs is made = made ∙ ap outs_of (sym is) ∙ ap (λ (p : Pass). outs_of p.end) (sym same)
