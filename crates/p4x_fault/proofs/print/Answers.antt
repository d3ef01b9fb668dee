-- The line as far as it is written, from call to call.
use Rattle.std.proofs.Common.{◌≡◌, [], ◌++◌, codes, length, length-append, refl, sym, ap, subst, arith}
use Rattle.p4x_fault.specs.Fault.{rule_name, told_place, place_text}
use Rattle.p4x_fault.specs.internal.Buffers.{Adds}
use Rattle.p4x_fault.proofs.print.Goals as goal

pub returns-clause-line : goal.returns-clause-line
returns-clause-line c =
    let first = c.args.into.now in
    let told = told_place c.args.fault.now.rule c.args.fault.now.place in
    let named = codes "refused " ++ rule_name c.args.fault.now.rule in
    let named_length : length named ≡ c.put_rule_name-at.result = omega (arith, length-append (codes "refused ") (rule_name c.args.fault.now.rule)) in
    let placed = named ++ place_text told in
    let placed_length : length placed ≡ c.put_place-at.result = omega (arith, length-append named (place_text told), ap (λ p. length (place_text p)) c.told_place.ensures) in
    let word = c.put-at.ensures.line [] first refl refl in
    let rule = c.put_rule_name-at.ensures.line (codes "refused ") first (sym c.put-at.ensures.end) word in
    let place = subst (λ p. Adds (place_text p) c.put_rule_name-at.result c.put_rule_name-at.new.into c.put_place-at.new.into) c.told_place.ensures c.put_place-at.ensures.line named first named_length rule in
    c.put.ensures.line placed first placed_length place
