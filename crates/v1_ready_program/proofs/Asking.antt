-- One way more: what was asked by the earlier ones stays what it was.
use Rattle.std.proofs.Common.{◌≡◌, ℕ, ◌<◌, ◌≤◌, List, [], ◌∷◌, length, refl, sym, ap, ◌∙◌, arith}
use Rattle.node_lists.specs.Trees.{Adds, KeepsPlaces}
use Rattle.node_lists.proofs.Growth as growth
use Rattle.p416_calls.specs.Seen.{seen_place}
use Rattle.p416_syntax.specs.Kinds.{Kind}
use Rattle.p416_syntax.specs.Tree.{Exp16}
use Rattle.v1_ready_forms.specs.Ways.{Way, its_value}
use Rattle.v1_ready_program.specs.declared.asks.Ask.{Ask as CodeAsk}
use Rattle.v1_ready_program.specs.declared.asks.Ask.TheVariants as ask_of
use Rattle.v1_ready_program.specs.declared.ways.Step.{Step}
use Rattle.v1_ready_program.specs.internal.Ways.{way_at, way_of}
use Rattle.v1_ready_program.specs.internal.Coded.{HasEnds, seen_ask, seen_asks, IsAskIn, AreAsksIn}
use Rattle.v1_ready_program.specs.internal.Passes.{asked, called, way_on, way_in}

module _ (old new : List Way) (place : ℕ) (w : Way) (adds : Adds old new place w) where
  kept : KeepsPlaces its_value old new
  kept = growth.adds_keeps old new place w adds its_value

  pub longer : length old ≤ length new
  longer = omega (arith, growth.adds_len old new place w adds)

  pub ends_kept : HasEnds old → HasEnds new
  ends_kept ends =
      let two : 1 < length old = ends.two in
      let more : length old ≤ length new = longer in
      record { value = kept 0 (omega arith) ∙ ends.value; validity = kept 1 two ∙ ends.validity; two = omega arith }

  pub ask_kept : (q : CodeAsk) → IsAskIn (length old) q → seen_ask new q ≡ seen_ask old q
  ask_kept ask_of.Passed within = refl
  ask_kept (ask_of.Asked p way) within = ap (λ v. asked (seen_place p) v) (kept way within)
  ask_kept (ask_of.Called way) within = ap called (kept way within)

  pub asks_kept : (qs : List CodeAsk) → AreAsksIn (length old) qs → seen_asks new qs ≡ seen_asks old qs
  asks_kept [] within = refl
  asks_kept (q ∷ qs) within = ap (λ a. a ∷ seen_asks new qs) (ask_kept q within.0) ∙ ap (λ more. seen_ask old q ∷ more) (asks_kept qs within.1)

  wider : (q : CodeAsk) → IsAskIn (length old) q → IsAskIn (length new) q
  wider ask_of.Passed within = tt
  wider (ask_of.Asked p way) within = let more : length old ≤ length new = longer in omega arith
  wider (ask_of.Called way) within = let more : length old ≤ length new = longer in omega arith

  pub ask_wider : (q : CodeAsk) → IsAskIn (length old) q → IsAskIn (length new) q
  ask_wider q within = wider q within

  pub asks_wider : (qs : List CodeAsk) → AreAsksIn (length old) qs → AreAsksIn (length new) qs
  asks_wider [] within = tt
  asks_wider (q ∷ qs) within = (wider q within.0, asks_wider qs within.1)

  -- the way on from the first part of an expression
  pub way_put : (k : Kind) (e : Exp16) (q : CodeAsk) (step : Step) (way : ℕ) → IsAskIn (length old) q → w ≡ way_of old step → way_of old step ≡ way_on k e (way_at old way) → way_at old way ≡ way_in (seen_ask old q) → way_at new place ≡ way_on k e (way_in (seen_ask new q))
  way_put k e q step way within put is from =
      growth.adds_tree old new place w adds its_value
      ∙ (put ∙ (is ∙ (ap (way_on k e) from ∙ ap (λ a. way_on k e (way_in a)) (sym (ask_kept q within)))))
