-- What the end of the work says of the files that are read first, for all commands.
use Rattle.std.proofs.Common.{◌≡◌, ◌⊎◌, inl, inr, ℕ, List, Result, Ok, Err, sym, ◌∙◌, ap, subst}
use Rattle.p4x_io.specs.Desk.{SinkView}
use Rattle.p4x_io.specs.Files.{Says}
use Rattle.file_work.specs.declared.stop.Stop.{Stop}
use Rattle.file_work.specs.declared.stop.Stop.TheVariants.{Fault, Memory}
use Rattle.file_work.specs.Phases.{Loosely, StopsOrGoesOn}
use Rattle.file_work.specs.Stops.{code_of, line_of, stop_code}

-- what stopped a phase, by what follows from it
pub loosely_as : (stop : Stop) (P Q : Type 0) → (P → Q) → Loosely stop P → Loosely stop Q
loosely_as stop P Q so (inl fault) = inl fault
loosely_as stop P Q so (inr (inl memory)) = inr (inl memory)
loosely_as stop P Q so (inr (inr is)) = inr (inr (so is))

-- a fault or want of memory may stand in the place of what is due
pub loosely_loose : (stop : Stop) (P : Type 0) → (stop ≡ Fault) ⊎ (stop ≡ Memory) → Loosely stop P
loosely_loose stop P (inl fault) = inl fault
loosely_loose stop P (inr memory) = inr (inl memory)

-- a status other than 1 is the one that is due
pub due_status : (line : List ℕ) (due status code : ℕ) (before after : SinkView) → Says line due status before after → (code ≡ 1 → ⊥) → status ≡ code → due ≡ code
due_status line due status code before after says other is = elim says.said [
  | inl whole ↦ sym whole.0 ∙ is
  | inr cut ↦ absurd (other (sym is ∙ cut.0))
]

module _ (stops : Stop → Type 0) (taken : Type 0) (own : Stop → Type 0) where
  -- the work ends with what stops it at these files, where it stops there in one way and they aren't taken
  code_here : (end : Result (List ℕ) Stop) → StopsOrGoesOn stops taken own end → (stop : Stop) → ((other : Stop) → stops other → other ≡ stop) → (taken → ⊥)
      → (code_of end ≡ stop_code stop) ⊎ (code_of end ≡ 1) ⊎ (code_of end ≡ 7)
  code_here (Ok line) so stop once refused = absurd (refused so)
  code_here (Err other) (inl fault) stop once refused = inr (inl (ap stop_code fault))
  code_here (Err other) (inr (inl memory)) stop once refused = inr (inr (ap stop_code memory))
  code_here (Err other) (inr (inr (inl is))) stop once refused = inl (ap stop_code (once other is))
  code_here (Err other) (inr (inr (inr on))) stop once refused = absurd (refused on.0)

  pub status_here : (end : Result (List ℕ) Stop) → StopsOrGoesOn stops taken own end → (status : ℕ) (before after : SinkView) → Says (line_of end) (code_of end) status before after
      → (stop : Stop) → ((other : Stop) → stops other → other ≡ stop) → (taken → ⊥) → (status ≡ stop_code stop) ⊎ (status ≡ 1) ⊎ (status ≡ 7)
  status_here end so status before after says stop once refused = elim says.said [
    | inl whole ↦ subst (λ (n : ℕ). (n ≡ stop_code stop) ⊎ (n ≡ 1) ⊎ (n ≡ 7)) (sym whole.0) (code_here end so stop once refused)
    | inr cut ↦ inr (inl cut.0)
  ]

  -- a stop that is no fault and no want of memory comes of these files, or they are taken
  pub stops_or_on : (stop : Stop) → (stop ≡ Fault → ⊥) → (stop ≡ Memory → ⊥) → Loosely stop (stops stop ⊎ (taken × (own stop → ⊥))) → stops stop ⊎ (taken × (own stop → ⊥))
  stops_or_on stop no_fault no_memory (inl fault) = absurd (no_fault fault)
  stops_or_on stop no_fault no_memory (inr (inl memory)) = absurd (no_memory memory)
  stops_or_on stop no_fault no_memory (inr (inr is)) = is

  -- one that these files alone come to comes of them
  pub stops_by_own : (stop : Stop) → (stop ≡ Fault → ⊥) → (stop ≡ Memory → ⊥) → own stop → Loosely stop (stops stop ⊎ (taken × (own stop → ⊥))) → stops stop
  stops_by_own stop no_fault no_memory mine so = elim (stops_or_on stop no_fault no_memory so) [
    | inl is ↦ is
    | inr on ↦ absurd (on.1 mine)
  ]
