use Rattle.std.proofs.Common.{sym, refl, ap, ◌∙◌, subst}
use Rattle.name_stack.specs.Newest.{newest}
use Rattle.name_stack.specs.internal.Links.{IsStack}
use Rattle.name_stack.specs.declared.stack.Entry.{Entry}
use Rattle.name_stack.proofs.Links.{stack_push}
use Rattle.name_stack.proofs.stack.NameStack.push.Goals as goal

pub invariant_of-self-in-Ok : goal.invariant_of-self-in-Ok
invariant_of-self-in-Ok c =
    let e : Entry = record { name = c.args.name; hidden = c.find-hidden.result } in
    subst (λ es. IsStack (λ name. name.now) es c.put.new.map) (sym c.in_ok-push.ensures.items)
    (stack_push (λ name. name.now) (λ name. record { ref_ptr = (0, 0); now = name }) (λ name. refl) c.self.inside.entries.items c.self.inside.places c.put.new.map e c.args.name c.len-place.result
    refl (c.len-place.ensures ∙ c.self.inside.entries.ok.0) (c.find-hidden.ensures ∙ ap (λ names. newest names c.args.name.now) (sym c.self.view_is)) c.self.invariant c.in-Ok.ensures.ok)
