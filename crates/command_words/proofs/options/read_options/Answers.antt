use Rattle.std.proofs.Common.{◌∷◌, ◌-◌, map, take, drop, length, string_bytes, sym, ◌∙◌}
use Rattle.command_words.proofs.Lists.{two_words, behind_one}
use Rattle.command_words.proofs.options.read_options.Goals as goal

pub loop-rest-preserved : goal.loop-rest-preserved
loop-rest-preserved c =
    let rest = c.loop-rest.rest.now in
    let read = two_words string_bytes rest c.option-item.result c.value-item.result c.in-len2-up.len_at_least c.option-item.is c.value-item.is in
    let behind = map string_bytes (take (length rest - 2) (drop 2 rest)) in
    behind_one _ _ _ _ _ _ (read ∙ (λ n. sym c.as_str.ensures.value n ∷ sym c.as_str-in-len2-up.ensures.value n ∷ behind)) c.in_ok-found.ensures
    ∙ c.loop-rest.invariant
