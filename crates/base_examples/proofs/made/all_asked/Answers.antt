use Rattle.std.proofs.Common.{ℕ, ◌+◌, ◌<◌, [], ◌∷◌, ◌++◌, List, take, length, get_or, arith}
use Rattle.std.specs.List.{AllZip}
use Rattle.std.proofs.lemmas.List.{take_more}
use Rattle.match_core.specs.declared.signatures.KeySpec.{KeySpec}
use Rattle.match_core.specs.declared.entries.KeyMatch.{KeyMatch}
use Rattle.match_core.specs.Fits.{FitsKey}
use Rattle.base_examples.proofs.made.all_asked.Goals as goal

-- one more key, and what is asked of it
zip_more : (specs : List KeySpec) (ones : List KeyMatch) (spec : KeySpec) (one : KeyMatch) → AllZip FitsKey specs ones → FitsKey spec one → AllZip FitsKey (specs ++ spec ∷ []) (ones ++ one ∷ [])
zip_more [] [] spec one fits fit = (fit, tt)
zip_more [] (other ∷ ones) spec one fits fit = absurd fits
zip_more (first ∷ specs) [] spec one fits fit = absurd fits
zip_more (first ∷ specs) (other ∷ ones) spec one fits fit = (fits.0, zip_more specs ones spec one fits.1 fit)

zip_turn : (specs : List KeySpec) (ones : List KeyMatch) (i : ℕ) (d : KeySpec) (one : KeyMatch) → i < length specs → AllZip FitsKey (take i specs) ones → FitsKey (get_or specs i d) one → AllZip FitsKey (take (i + 1) specs) (ones ++ one ∷ [])
zip_turn specs ones i d one within fits fit = rw (take_more specs i d within) (zip_more (take i specs) ones (get_or specs i d) one fits fit)

pub loop-spec-preserved : goal.loop-spec-preserved
loop-spec-preserved c =
    rw c.in_ok-push.ensures.ok
    (zip_turn c.args.specs.now c.loop-spec.keys c.loop-spec.spec-index _ c.asked_of.result (omega arith) c.loop-spec.invariant c.asked_of.ensures)
