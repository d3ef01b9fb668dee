use Rattle.std.proofs.Common.{Some, sym, ◌∙◌, ap}
use Rattle.std.specs.Option.{unwrap_or}
use Rattle.std.proofs.lemmas.Slice.Eq.{bytes_eq-Decides}
use Rattle.p4x_io.specs.Memory.{Known, Named, known_at, fresh}
use Rattle.p4x_io.specs.internal.Asking.{asked}
use Rattle.p4x_io.proofs.Slots.{other_push, own_push, differs}
use Rattle.p4x_io.proofs.memory.calls.ask_fresh.Goals as goal

pub returns-clause-others : goal.returns-clause-others
returns-clause-others c = λ n other.
    let named = c.in_ok-ask.ensures.name ∙ ap (λ (s : Named). s.name) c.in_ok-slot.ensures in
    ap (λ l. known_at l n) c.in_ok-push.ensures.items
    ∙ other_push n c.args.slots.now.items c.ask.new.self (differs c.ask.new.self.name c.args.name.now n ((bytes_eq-Decides c.ask.new.self.name c.args.name.now).1 named) other)

pub returns-clause-known : goal.returns-clause-known
returns-clause-known c =
    let named = c.in_ok-ask.ensures.name ∙ ap (λ (s : Named). s.name) c.in_ok-slot.ensures in
    ap (λ l. known_at l c.args.name.now) c.in_ok-push.ensures.items
    ∙ own_push c.args.name.now c.args.slots.now.items c.ask.new.self c.requires named
    ∙ ap (λ (k : Known). Some k) (c.in_ok-ask.ensures.known ∙ ap (λ (s : Named). asked c.args.ask s.known) c.in_ok-slot.ensures)
    ∙ sym (ap (λ s. Some (asked c.args.ask (unwrap_or s fresh))) c.requires)
