-- What is preserved and what is held, with the program that it is of: the passes of one program take none of another's. The
-- machine over these does what that of v1_core does (this project's own).
use Rattle.std.specs.Prelude.{◌≡◌, ℕ, refl, option_map}
use Rattle.std.specs.Coded.{Coded, code_by, coded×}
use Rattle.fabric.specs.declared.items.Item.{Item}
use Rattle.fabric.specs.declared.items.IngressEnd.{IngressEnd}
use Rattle.fabric.specs.declared.items.IngressNext.{IngressNext}
use Rattle.fabric.specs.declared.items.IngressNext.TheVariants as after_ingress
use Rattle.fabric.specs.declared.items.EgressEnd.{EgressEnd}
use Rattle.fabric.specs.declared.items.EgressNext.{EgressNext}
use Rattle.fabric.specs.declared.items.EgressNext.TheVariants as after_egress
use Rattle.fabric.specs.Fabric.{Machine}
use Rattle.fabric.specs.Owned.{Own}
use Rattle.p416_syntax.specs.declared.program.Syntax16.{Syntax16}
use Rattle.p416_syntax.specs.contracts.program.Syntax16 as declaration
use Rattle.v1_core.specs.Values.{Value}
use Rattle.v1_core.specs.Surroundings.{Setting}
use Rattle.v1_core.specs.Passes.{Between, Held, none_preserved, ingress16, reparse16, egress16}
use Rattle.v1_passes.specs.Codes.{coded_value, coded_held}

-- a value with the program that it is of
pub record Tagged (A : Type 0) : Type 0 where
  pub program : Syntax16
  pub value : A

-- codes of such values, by which proofs tell them apart
abbrev pub coded_tagged : {A : Type 0} → Coded A → Coded (Tagged A)
coded_tagged {A = A} coded =
    code_by (Syntax16 × A) (coded× declaration.the_row.coded coded) (λ t. (t.program, t.value)) (λ p. record { program = p.0; value = p.1 }) (λ _. refl)

abbrev pub coded_kept : Coded (Tagged Value)
coded_kept = coded_tagged coded_value

abbrev pub coded_hold : Coded (Tagged Held)
coded_hold = coded_tagged coded_held

-- a value with the program of a setting
abbrev pub tagged : {A : Type 0} → Setting → A → Tagged A
tagged c x = record { program = c.syntax; value = x }

-- the same of a clone, and of the ends of ingress and of egress
abbrev pub tagged_clone : {A : Type 0} → Setting → ℕ × A → ℕ × Tagged A
tagged_clone c asked = (asked.0, tagged c asked.1)

abbrev pub tagged_next : Setting → IngressNext Value Held → IngressNext (Tagged Value) (Tagged Held)
tagged_next c (after_ingress.Resubmit kept) = after_ingress.Resubmit (tagged c kept)
tagged_next c after_ingress.Drop = after_ingress.Drop
tagged_next c (after_ingress.Go port held) = after_ingress.Go port (tagged c held)

abbrev pub tagged_ingress : Setting → IngressEnd Value Held → IngressEnd (Tagged Value) (Tagged Held)
tagged_ingress c ended = record { clone = option_map (tagged_clone c) ended.clone; next = tagged_next c ended.next }

abbrev pub tagged_end : Setting → EgressNext Value → EgressNext (Tagged Value)
tagged_end c after_egress.Drop = after_egress.Drop
tagged_end c (after_egress.Recirculate octets kept) = after_egress.Recirculate octets (tagged c kept)
tagged_end c (after_egress.Send octets) = after_egress.Send octets

abbrev pub tagged_egress : Setting → EgressEnd Value Held → EgressEnd (Tagged Value) (Tagged Held)
tagged_egress c ended = record { clone = option_map (tagged_clone c) ended.clone; end = tagged_end c ended.end }

-- an item without the tag
abbrev pub plain_item : Item (Tagged Value) → Item Value
plain_item came =
    record { octets = came.octets; port = came.port; instance = came.instance; kept = came.kept.value }

-- the four functions of a program's passes
abbrev pub tagged_machine : Setting → Machine Between (Tagged Value) (Tagged Held)
tagged_machine c = record {
  nothing = λ b. (tagged c (none_preserved c.syntax), b);
  ingress = λ b came. let x = ingress16 c b (plain_item came) in (tagged_ingress c x.0, x.1);
  reparse = λ b came. let x = reparse16 c b (plain_item came) in (tagged c x.0, x.1);
  egress = λ b held port kind. let x = egress16 c b held.value port kind in (tagged_egress c x.0, x.1);
}

-- the values of this program
abbrev pub own_tagged : Setting → Own (Tagged Value) (Tagged Held)
own_tagged c = record { kept = λ kept. kept.program ≡ c.syntax; held = λ held. held.program ≡ c.syntax }
