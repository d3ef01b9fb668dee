-- Ports and the lines on which they stand.
use Rattle.std.proofs.Common.{◌≡◌, ℕ, ◌+◌, List, [], ◌∷◌, ◌++◌, option_to_list, Option, None, Some, Result, Ok, Err, All, IfSome, refl, sym, ap, subst, ◌∙◌, append_assoc, append-nil}
use Rattle.std.proofs.lemmas.List.Elements.{All-push}
use Rattle.state_store.specs.Ports.{IsPort}
use Rattle.p4x_fault.specs.declared.Fault.{Fault}
use Rattle.p4x_fault.specs.declared.Rule.{Rule}
use Rattle.text_lines.specs.Places.{at_line}
use Rattle.text_lines.specs.Words.{words_of}
use Rattle.pcap_io.specs.Ports.{port_on, with_line, ports_on}

-- ports line by line

-- these ports in front of what the lines behind tell
abbrev pub in_front : List ℕ → Result (List ℕ) Fault → Result (List ℕ) Fault
in_front ports (Err fault) = Err fault
in_front ports (Ok more) = Ok (ports ++ more)

line_step : (number : ℕ) (line : List ℕ) (others : List (List ℕ)) → ports_on number (line ∷ others) ≡ with_line number (port_on (words_of line)) (ports_on (number + 1) others)
unfolding ports_on
line_step number line others = refl

in_front_more : (number : ℕ) (list : List ℕ) (found : Option ℕ) (more : Result (List ℕ) Fault) → in_front list (with_line number (Ok found) more) ≡ in_front (list ++ option_to_list found) more
in_front_more number list None (Err fault) = refl
in_front_more number list None (Ok more) = ap (λ (l : List ℕ). let told : Result (List ℕ) Fault = Ok (l ++ more) in told) (sym (append-nil list))
in_front_more number list (Some port) (Err fault) = refl
in_front_more number list (Some port) (Ok more) = ap (λ (l : List ℕ). let told : Result (List ℕ) Fault = Ok l in told) (sym (append_assoc list (port ∷ []) more))

pub one_more_line : (number : ℕ) (whole left behind : List (List ℕ)) (line list now : List ℕ) (found : Option ℕ) →
    ports_on 1 whole ≡ in_front list (ports_on number left) → left ≡ line ∷ behind → Ok found ≡ port_on (words_of line) → now ≡ list ++ option_to_list found →
    ports_on 1 whole ≡ in_front now (ports_on (number + 1) behind)
one_more_line number whole left behind line list now found so_far left_is found_is now_is =
    so_far ∙ ap (λ (l : List (List ℕ)). in_front list (ports_on number l)) left_is ∙ ap (in_front list) (line_step number line behind)
    ∙ ap (λ (told : Result (Option ℕ) Rule). in_front list (with_line number told (ports_on (number + 1) behind))) (sym found_is)
    ∙ in_front_more number list found (ports_on (number + 1) behind)
    ∙ ap (λ (l : List ℕ). in_front l (ports_on (number + 1) behind)) (sym now_is)

pub bad_line : (number : ℕ) (whole left behind : List (List ℕ)) (line list : List ℕ) (rule : Rule) (fault : Fault) →
    ports_on 1 whole ≡ in_front list (ports_on number left) → left ≡ line ∷ behind → Err rule ≡ port_on (words_of line) →
    fault ≡ at_line rule number → ports_on 1 whole ≡ Err fault
bad_line number whole left behind line list rule fault so_far left_is rule_is fault_is =
    so_far ∙ ap (λ (l : List (List ℕ)). in_front list (ports_on number l)) left_is ∙ ap (in_front list) (line_step number line behind)
    ∙ ap (λ (told : Result (Option ℕ) Rule). in_front list (with_line number told (ports_on (number + 1) behind))) (sym rule_is)
    ∙ ap (λ (f : Fault). let told : Result (List ℕ) Fault = Err f in told) (sym fault_is)

no_ports : (number : ℕ) → ports_on number [] ≡ Ok []
unfolding ports_on
no_ports number = refl

pub all_lines : (number : ℕ) (whole left : List (List ℕ)) (list : List ℕ) → ports_on 1 whole ≡ in_front list (ports_on number left) → left ≡ [] → ports_on 1 whole ≡ Ok list
all_lines number whole left list so_far ended =
    so_far ∙ ap (λ (l : List (List ℕ)). in_front list (ports_on number l)) ended ∙ ap (in_front list) (no_ports number)
    ∙ ap (λ (l : List ℕ). let told : Result (List ℕ) Fault = Ok l in told) (append-nil list)

pub ports_fit : (list now : List ℕ) (found : Option ℕ) → All IsPort list → IfSome found IsPort → now ≡ list ++ option_to_list found → All IsPort now
ports_fit list now None fits fit now_is = let Q : List ℕ → Type 0 = λ l. All IsPort l in subst Q (sym (now_is ∙ append-nil list)) fits
ports_fit list now (Some port) fits fit now_is = let Q : List ℕ → Type 0 = λ l. All IsPort l in subst Q (sym now_is) (All-push IsPort list port fits fit)
