use Rattle.std.proofs.Common.{◌≡◌, ◌-◌, ◌<◌, length, Some, refl, subst, slice_get, get_or}
use Rattle.name_stack.specs.internal.Links.{IsStack}
use Rattle.name_stack.specs.declared.stack.Entry.{Entry}
use Rattle.name_stack.proofs.Links.{stack_pop, last_popped}
use Rattle.name_stack.proofs.stack.NameStack.pop.Goals as goal

pub invariant_of-self-in-Some : goal.invariant_of-self-in-Some
invariant_of-self-in-Some c =
    let last : slice_get c.self.inside.entries.items (length c.self.inside.entries.items - 1) ≡ Some c.in-Some.entry = cc (c.last.ensures.value, c.copied.ensures, c.in-Some.is, c.deref.ensures.value) in
    let value : (d : Entry) → 0 < length c.self.inside.entries.items → c.pop.result ≡ Some (get_or c.self.inside.entries.items (length c.self.inside.entries.items - 1) d) =
    subst (λ n. (d : Entry) → 0 < n → c.pop.result ≡ Some (get_or c.self.inside.entries.items (n - 1) d)) c.self.inside.entries.ok.0 c.pop.ensures.value in
    let split = last_popped c.self.inside.entries.items c.pop.new.self.items c.pop.result c.in-Some.entry c.pop.ensures.items value last in
    stack_pop (λ name. name.now) (λ name. record { ref_ptr = (0, 0); now = name }) (λ name. refl) c.pop.new.self.items c.self.inside.places c.put.new.map c.in-Some.entry c.in-Some.entry.name
    refl (subst (λ es. IsStack (λ name. name.now) es c.self.inside.places) split c.self.invariant) c.in_ok-put.ensures.ok
