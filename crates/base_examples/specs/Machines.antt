-- The machines of the two small runners.
use Rattle.std.specs.Prelude.{ℕ, ◌+◌, ◌%◌, ◌^◌, List, [], ◌∷◌}
use Rattle.fabric.specs.declared.items.Event.{Event}
use Rattle.fabric.specs.Fabric.{Machine}
use Rattle.base_examples.specs.Steps.{ingress_end, egress_end, applied}

-- a machine that keeps nothing but the events of its last call
abbrev pub bare : Machine (List Event) ℕ (List ℕ)
bare = record {
  nothing = λ old. (0, []);
  ingress = λ old item. (ingress_end item, applied item.octets ∷ []);
  reparse = λ old item. (item.octets, []);
  egress = λ old held port instance. (egress_end held instance, []);
}

-- a machine that counts its passes through ingress as well, modulo 2^64
abbrev pub counting : Machine (ℕ × List Event) ℕ (List ℕ)
counting = record {
  nothing = λ old. (0, (old.0, []));
  ingress = λ old item. (ingress_end item, ((old.0 + 1) % 2 ^ 64, applied item.octets ∷ []));
  reparse = λ old item. (item.octets, (old.0, []));
  egress = λ old held port instance. (egress_end held instance, (old.0, []));
}
