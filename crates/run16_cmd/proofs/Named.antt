-- The files that `run16` names are apart.
use Rattle.std.proofs.Common.{[], ◌∷◌, map}
use Rattle.std.specs.Option.{option_to_list}
use Rattle.command_words.specs.declared.command.Run16Names.{Run16Names}
use Rattle.command_words.specs.Apart.{AreApart}
use Rattle.command_words.proofs.Distinct.{apart_is}

pub apart_of : (n : Run16Names) → AreApart (n.text.now ∷ n.entries.now ∷ n.capture.now ∷ map (λ name. name.now) (option_to_list n.ports)) (n.sent.now ∷ n.report.now ∷ [])
apart_of n = apart_is (n.text.now ∷ n.entries.now ∷ n.capture.now ∷ map (λ name. name.now) (option_to_list n.ports)) (n.sent.now ∷ n.report.now ∷ []) n.apart
