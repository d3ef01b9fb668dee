-- What the parts of the judgement of a line answer.
use Rattle.std.specs.Prelude.{◌≡◌, ℕ, List, [], ◌∷◌, ◌++◌, length, Some, None, Result, Ok, Err}
use Rattle.match_core.specs.declared.signatures.KeySpec.{KeySpec}
use Rattle.text_lines.specs.Words.{Word}
use Rattle.entries_file.specs.declared.fault.Stop.{Stop}
use Rattle.entries_file.specs.declared.fault.Stop.TheVariants.{Memory, Broken}
use Rattle.entries_file.specs.Rules.{Tests, least_broken, has_wrong_keys, key_tests, argument_tests, priority_words, lacks_priority, priority_of}

-- none of the rules is broken and the value is right, or the least broken rule
abbrev pub Stage : {T : Type 0} → Tests → (T → Type 0) → Result T Stop → Type 0
Stage tests P (Ok value) = (least_broken tests ≡ None) × P value
Stage tests P (Err (Broken rule)) = least_broken tests ≡ Some rule
Stage tests P (Err Memory) = Unit {0}

-- the rules of an entry that don't ask for those before it
abbrev pub form_tests : List KeySpec → List ℕ → List Word → List Word → Tests
form_tests specs widths keys behind =
    (4, has_wrong_keys specs keys)
    ∷ key_tests specs keys
    ++ argument_tests widths (priority_words specs) behind
    ++ (9, lacks_priority (priority_of specs (length widths) behind))
    ∷ []
