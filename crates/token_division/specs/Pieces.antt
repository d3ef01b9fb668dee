-- Marks and comments at the front of a text.
use Rattle.std.specs.Prelude.{ℕ, suc, ◌+◌, Bool, true, nat_eq, nat_le, ◌&&◌, if◌then◌else◌, List, [], ◌∷◌, length, drop, codes, Option, Some, None, Result, Ok, Err, find}
use Rattle.std.specs.Option.{option_map}
use Rattle.std.specs.List.{prefix_len, starts_with, list_all}
use Rattle.p4x_fault.specs.declared.Rule.{Rule}
use Rattle.p4x_fault.specs.declared.Rule.TheVariants.{L}
use Rattle.token_division.specs.Octets.{is_on_line}

-- whether the text begins with these octets
abbrev pub begins : List ℕ → List ℕ → Bool
begins text octets = starts_with nat_eq text octets

-- the first of the marks that the text begins with, by the octets that each is written with
abbrev pub mark_at : {M : Type 0} → (M → List ℕ) → List M → List ℕ → Option M
mark_at text_of marks text = find (λ mark. begins text (text_of mark)) marks

-- no mark of the table is longer than one that stands before it
abbrev pub is_longest_first : {M : Type 0} → (M → List ℕ) → List M → Bool
is_longest_first text_of [] = true
is_longest_first text_of (mark ∷ marks) =
    list_all (λ other. nat_le (length (text_of other)) (length (text_of mark))) marks && is_longest_first text_of marks

-- how many octets stand up to the end of the first `*/`
abbrev pub close_size : List ℕ → Option ℕ
close_size [] = None
close_size (octet ∷ text) = if begins (octet ∷ text) (codes "*/") then Some 2 else option_map suc (close_size text)

-- a comment that began two octets earlier: one that isn't closed breaks L2
abbrev pub closed_size : Option ℕ → Result ℕ Rule
closed_size (Some size) = Ok (size + 2)
closed_size None = Err (L 2)

-- How many octets the comment has that the text begins with: `//` and the rest of the line, or `/*` and
-- what stands up to the first `*/`. A `/` that begins no comment breaks L1.
abbrev pub comment_size : List ℕ → Result ℕ Rule
comment_size text =
    if begins text (codes "//") then Ok (prefix_len is_on_line text)
    else (if begins text (codes "/*") then closed_size (close_size (drop 2 text))
    else Err (L 1))
