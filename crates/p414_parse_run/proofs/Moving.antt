-- An extraction leaves the place of its stack as it was, until it moves on.
use Rattle.std.proofs.Common.{◌≡◌, ℕ, ⊎_elim, List, length, get_or, set, refl, ap, ◌∙◌}
use Rattle.std.proofs.lemmas.Bool.{cases_lt}
use Rattle.std.proofs.lemmas.List.{get_or-set_same, set_past}
use Rattle.p414_sem.specs.State.{Instance, State, no_instance, place_of}
use Rattle.p414_ready_parser.specs.Running.{filled_by, taken_off}

place_set : (instances : List Instance) (i : ℕ) (y : Instance) → y.place ≡ (get_or instances i no_instance).place → (get_or (set instances i y) i no_instance).place ≡ (get_or instances i no_instance).place
place_set instances i y e =
    ⊎_elim
    (λ lt. ap (λ (x : Instance). x.place) (get_or-set_same instances i y no_instance lt) ∙ e)
    (λ le. ap (λ (l : List Instance). (get_or l i no_instance).place) (set_past instances i y le))
    (cases_lt i (length instances))

pub place_stays : (widths : ℕ → List ℕ) (instance element bits : ℕ) (s : State) → place_of (taken_off bits (filled_by widths instance element s)) instance ≡ place_of s instance
place_stays widths instance element bits s = place_set s.instances instance _ refl
