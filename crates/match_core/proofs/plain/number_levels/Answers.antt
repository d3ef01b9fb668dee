use Rattle.std.proofs.Common.{◌≡◌, ◌<◌, ◌∙◌, [], ◌∷◌, length, ap, sym, subst, ℕ, arith}
use Rattle.std.proofs.lemmas.List.{get_or_default}
use Rattle.match_core.specs.declared.entries.Entry.{Entry}
use Rattle.match_core.specs.Matching.{prefix_length}
use Rattle.match_core.specs.Best.{entry_at}
use Rattle.match_core.specs.internal.Codes.{code_of, IsCodeIndex, number_found}
use Rattle.match_core.proofs.Coded.{number_turn}
use Rattle.match_core.proofs.plain.number_levels.Goals as goal

pub loop-i-preserved : goal.loop-i-preserved
loop-i-preserved c =
    let d : Entry = record { keys = []; priority = 0; action = 0; arguments = [] } in
    let within : c.loop-i.i < length c.args.entries.now = omega arith in
    let ones : c.as_slice-ones.result.now ≡ (entry_at c.args.entries.now c.loop-i.i).keys =
    c.as_slice-ones.ensures ∙ ap (λ (e : Entry). e.keys) (get_or_default c.args.entries.now c.loop-i.i c.index-entries-i.result d within) in
    record {
      levels = c.in_ok-put.ensures.levels;
      index = number_turn c.args.spec c.args.entries.now c.loop-i.i c.prefix_bits-bits.result c.first_code-number.result c.loop-i.levels.items c.put.new.levels.items within c.requires.fits
          (c.prefix_bits-bits.ensures ∙ ap prefix_length ones) (sym (ap (code_of (c.args.spec ∷ [])) ones) ∙ c.first_code-number.ensures) c.loop-i.invariant.index c.in_ok-put.ensures.put;
    }

pub returns-clause-index : goal.returns-clause-index
returns-clause-index c =
    let all : c.loop-i.i ≡ length c.args.entries.now = omega arith in
    subst (λ (n : ℕ). IsCodeIndex (c.args.spec ∷ []) c.args.entries.now n (number_found c.loop-i.levels.items)) all c.loop-i.invariant.index
